-- Lists of brackets whose ranks do not fall: such a list goes on with a bracket that is no lower than all before it, and the test of tables says the same.
use Rattle.std.specs.Prelude.{◌≡◌, true, ◌&&◌, ℕ, ◌≤◌, leb}
use Rattle.std.proofs.Math.Path.{refl}
use Rattle.std.proofs.Common.{ap, ◌∙◌, le_refl, arith, le-leb}
use mathlib.Core.List.{List, [], ◌∷◌, ◌++◌, map}
use Rattle.scope.specs.Line.{Bracket, Line}
use Rattle.scope.specs.Lists.{on_last}
use Rattle.scope.specs.Kept.{kept_bracket, kept}
use Rattle.scope.specs.Tables.{bare_bracket, tables_of}
use Rattle.basics.specs.Each.{Each}
use Rattle.basics.specs.Tests.{both}
use Rattle.order_laws.specs.Ranks.{rank, rising, orderedb}

-- from q up to c
abbrev pub Climbs : {P : Type 0} → ℕ → List (Bracket P) → ℕ → Type 0
Climbs q [] c = q ≤ c
Climbs q (k ∷ ks) c = (q ≤ rank k) × Climbs (rank k) ks c

module _ {P : Type 0} where
  lower : (p q : ℕ) (ks : List (Bracket P)) (c : ℕ) → p ≤ q → Climbs q ks c → Climbs p ks c
  lower p q [] c h w = omega arith
  lower p q (k ∷ ks) c h w = let x = w.0 in (omega arith, w.1)

  pub higher : (q : ℕ) (ks : List (Bracket P)) (c d : ℕ) → c ≤ d → Climbs q ks c → Climbs q ks d
  higher q [] c d h w = omega arith
  higher q (k ∷ ks) c d h w = (w.0, higher (rank k) ks c d h w.1)

  -- all of one rank
  pub level_climbs : (q r : ℕ) (ks : List (Bracket P)) → q ≤ r → Each (λ k. rank k ≡ r) ks → Climbs q ks r
  level_climbs q r [] h e = h
  level_climbs q r (k ∷ ks) h e = rw e.0 (h, level_climbs r r ks (le_refl r) e.1)

  pub climbs_append : (q c d : ℕ) (ks js : List (Bracket P)) → Climbs q ks c → Climbs c js d → Climbs q (ks ++ js) d
  climbs_append q c d [] js w v = lower q c js d w v
  climbs_append q c d (k ∷ ks) js w v = (w.0, climbs_append (rank k) c d ks js w.1 v)

  -- the last one changed into another of the same rank
  pub climbs_last : (f : Bracket P → Bracket P) → ((k : Bracket P) → rank (f k) ≡ rank k) → (q : ℕ) (ks : List (Bracket P)) (c : ℕ) → Climbs q ks c → Climbs q (on_last f ks) c
  unfolding on_last
  climbs_last f e q [] c w = w
  climbs_last f e q (k ∷ []) c w = rw (e k) w
  climbs_last f e q (k ∷ j ∷ ks) c w = (w.0, climbs_last f e (rank k) (j ∷ ks) c w.1)

  pub climbs_rising : (q : ℕ) (ks : List (Bracket P)) (c : ℕ) → Climbs q ks c → rising q ks ≡ true
  unfolding rising
  climbs_rising q [] c w = refl
  climbs_rising q (k ∷ ks) c w = both (leb q (rank k)) (rising (rank k) ks) (le-leb q (rank k) w.0) (climbs_rising (rank k) ks c w.1)

-- brackets that are changed into others of the same rank
rising_same : {P Q : Type 0} (g : Bracket P → Bracket Q) → ((k : Bracket P) → rank (g k) ≡ rank k) → (q : ℕ) (ks : List (Bracket P)) → rising q (map g ks) ≡ rising q ks
unfolding rising
rising_same g e q [] = refl
rising_same g e q (k ∷ ks) = ap (λ r. leb q r && rising r (map g ks)) (e k) ∙ ap (λ t. leb q (rank k) && t) (rising_same g e (rank k) ks)

module _ {P : Type 0} (l : Line P) where
  -- places do not matter
  pub ordered_bare : orderedb (tables_of l) ≡ orderedb l
  unfolding orderedb tables_of
  ordered_bare = rising_same bare_bracket (λ k. refl) 0 l.brackets

  -- nor compositions
  pub ordered_kept : orderedb (kept l) ≡ orderedb l
  unfolding orderedb kept
  ordered_kept = rising_same kept_bracket (λ k. refl) 0 l.brackets
