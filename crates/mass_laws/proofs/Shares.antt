-- The entries of a ledger: what the placed modifications and the floating copies share out among the positions.
use Rattle.std.specs.Prelude.{◌≡◌, true, false, not, eqb, get_or, take}
use Rattle.std.proofs.Math.Path.{refl, sym, ap, ap₂}
use Rattle.std.proofs.Common.{◌∙◌, subst, true≢false, zero-add, arith, length-take-le, get_or-take}
use Rattle.std.proofs.Math.Bool.{cond}
use Rattle.std.proofs.lemmas.Bool.{false≢true, eqb-false, not-true}
use mathlib.Core.List.{List, [], ◌∷◌, map}
use Prim.Native.Nat.{ℕ, zero, suc, ◌+◌, ◌≤◌, ◌<◌}
use Rattle.std.proofs.Math.Nat.{le_of_suc-le-suc}
use Rattle.std.proofs.Math.Decide.{dec_lt}
use Rattle.std.proofs.Math.IntN.{pos, ◌+ℤ◌, +ℤ_idl, +ℤ_idr}
use Rattle.std.proofs.Math.ListN.{length, get_or-eq_default}
use Rattle.std.proofs.lemmas.List.{length-map}
use Rattle.scope.specs.Limits.{position_limit, residue_limit}
use Rattle.scope.specs.Line.{Bracket, Line}
use Rattle.scope.specs.Lists.{flat, member, tabled}
use Rattle.scope.specs.Positions.{placed_on, struck_out, floaters, permitted, floating_of}
use Rattle.scope.specs.Placements.{distinct, fits, allowed}
use Rattle.scope.specs.Masses.{mass_or0, sum, placed_at, put_at, ledger}
use Rattle.basics.specs.Tabled.{get_d_tabled, length_tabled, tabled_same}
use Rattle.basics.specs.Members.{member_append, member_in, in_member, in_at}
use Rattle.mass_laws.specs.Weights.{booked_at, placed_is, not_booked, placed_mass, sum_booked}
use Rattle.mass_laws.specs.Placed.{placed_inside}
use Rattle.basics.specs.Tests.{eqb_sym, and_left, and_right, or_left, or_right, falsely}
use Rattle.mass_laws.specs.Terms.{FairBracket, Fair}
use Rattle.basics.specs.Each.{Each, In, each_in, each_one}
use Rattle.placement_laws.specs.Members.{cut, allowed_parts}
use Rattle.placement_laws.specs.Entries.{allowed_placing}
use Rattle.placement_laws.specs.Lines.{line_many, line_at, permitted_inside, permitted_free}
use Rattle.mass_laws.specs.Sums.{sum_both, sum_zero, share, share_here, share_else, sum_share}

pub put_none : (P : Type 0) (x : ℕ) (p : List ℕ) → put_at {P = P} x [] p ≡ pos 0
unfolding put_at
put_none P x p = refl

-- what is no member is neither the first element nor one of the others
not_first : (x y : ℕ) (l : List ℕ) → member x (y ∷ l) ≡ false → x ≡ y → ⊥
unfolding member
not_first x y l e q = eqb-false x y (or_left (eqb x y) (member x l) e) q

not_rest : (x y : ℕ) (l : List ℕ) → member x (y ∷ l) ≡ false → member x l ≡ false
unfolding member
not_rest x y l e = or_right (eqb x y) (member x l) e

module _ {P : Type 0} where
  -- ---- the placed ones: each is booked as often as it is placed
  all_booked : (t : Line P) (n : ℕ) → n ≡ length t.residues → n ≤ residue_limit → (ks : List (Bracket P)) → Each (FairBracket n) ks
      → sum (tabled (λ x. sum (map (booked_at t x) ks)) 0 position_limit) ≡ sum (map (placed_mass t) ks)
  unfolding sum
  all_booked t n e h [] f = sum_zero (λ x. pos 0) 0 position_limit (λ x q. refl)
  all_booked t n e h (k ∷ ks) f =
      let inside = f.0.inside in
      sum_both (λ x. booked_at t x k) (λ x. sum (map (booked_at t x) ks)) 0 position_limit
      ∙ ap₂ ◌+ℤ◌
      (sum_booked t k position_limit (each_one (λ x. x < length t.residues + 2) (λ x. x < position_limit) (λ x q. omega arith) (placed_on t k) (placed_inside t k (omega arith))))
      (all_booked t n e h ks f.1)

  pub sum_placed : (t : Line P) → Fair t → sum (tabled (placed_at t) 0 position_limit) ≡ sum (map (placed_mass t) t.brackets)
  sum_placed t f =
      ap sum (tabled_same (placed_at t) (λ x. sum (map (booked_at t x) t.brackets)) (placed_is t) 0 position_limit)
      ∙ all_booked t (length t.residues) refl f.few_residues t.brackets f.each_bracket

  -- none where no placed one stands
  booked_none : (t : Line P) (x : ℕ) (ks : List (Bracket P)) → member x (flat (placed_on t) ks) ≡ false → sum (map (booked_at t x) ks) ≡ pos 0
  unfolding sum flat
  booked_none t x [] e = refl
  booked_none t x (k ∷ ks) e =
      let f = sym (member_append x (placed_on t k) (flat (placed_on t) ks)) ∙ e in
      ap₂ ◌+ℤ◌ (not_booked t x k (or_left (member x (placed_on t k)) (member x (flat (placed_on t) ks)) f))
      (booked_none t x ks (or_right (member x (placed_on t k)) (member x (flat (placed_on t) ks)) f))

  pub placed_zero : (t : Line P) (x : ℕ) → member x (struck_out t) ≡ false → placed_at t x ≡ pos 0
  unfolding struck_out
  placed_zero t x e = placed_is t x ∙ booked_none t x t.brackets e

  -- none past the C-terminus
  booked_past : (t : Line P) (n x : ℕ) → n ≡ length t.residues → n + 1 < x → (ks : List (Bracket P)) → Each (FairBracket n) ks → sum (map (booked_at t x) ks) ≡ pos 0
  unfolding sum
  booked_past t n x e h [] f = refl
  booked_past t n x e h (k ∷ ks) f =
      let inside = f.0.inside in
      ap₂ ◌+ℤ◌
      (not_booked t x k
      (falsely (member x (placed_on t k)) (λ m. let z = each_in (λ y. y < length t.residues + 2) (placed_on t k) x (member_in x (placed_on t k) m) (placed_inside t k (omega arith)) in omega arith)))
      (booked_past t n x e h ks f.1)

  pub placed_past : (t : Line P) → Fair t → (x : ℕ) → length t.residues + 1 < x → placed_at t x ≡ pos 0
  placed_past t f x h = placed_is t x ∙ booked_past t (length t.residues) x refl h t.brackets f.each_bracket

  -- ---- the floating ones
  pub put_cons : (x : ℕ) (k : Bracket P) (ks : List (Bracket P)) (y : ℕ) (p : List ℕ) → put_at x (k ∷ ks) (y ∷ p) ≡ share y (mass_or0 k) x +ℤ put_at x ks p
  unfolding put_at
  put_cons x k ks y p = ap (λ t. cond t (mass_or0 k) (pos 0) +ℤ put_at x ks p) (eqb_sym x y)

  -- nothing where none is put
  pub put_zero : (x : ℕ) (ks : List (Bracket P)) (p : List ℕ) → member x (take (length ks) p) ≡ false → put_at x ks p ≡ pos 0
  unfolding put_at
  put_zero x [] p e = refl
  put_zero x (k ∷ ks) [] e = refl
  put_zero x (k ∷ ks) (y ∷ p) e =
      put_cons x k ks y p
      ∙ ap₂ ◌+ℤ◌ (share_else y (mass_or0 k) x (λ z. not_first x y (take (length ks) p) e (sym z))) (put_zero x ks p (not_rest x y (take (length ks) p) e))

  -- where each copy has a list of positions, all below a bound
  module _ (g : Bracket P → List ℕ) where
    module _ (n : ℕ) (below : (k : Bracket P) (y : ℕ) → member y (g k) ≡ true → y < n) where
      -- each is booked once
      pub sum_put : n ≤ position_limit → (ks : List (Bracket P)) (p : List ℕ) → fits (map g ks) p ≡ true → sum (tabled (λ x. put_at x ks p) 0 position_limit) ≡ sum (map mass_or0 ks)
      unfolding sum fits
      sum_put h [] p e = sum_zero (λ x. put_at {P = P} x [] p) 0 position_limit (λ x q. put_none P x p)
      sum_put h (k ∷ ks) [] e = absurd (false≢true e)
      sum_put h (k ∷ ks) (y ∷ p) e =
          ap sum (tabled_same (λ x. put_at x (k ∷ ks) (y ∷ p)) (λ x. share y (mass_or0 k) x +ℤ put_at x ks p) (λ x. put_cons x k ks y p) 0 position_limit)
          ∙ sum_both (share y (mass_or0 k)) (λ x. put_at x ks p) 0 position_limit
          ∙ ap₂ ◌+ℤ◌
          (sum_share y (mass_or0 k) 0 position_limit (omega arith) (omega (arith, below k y (and_left (member y (g k)) (fits (map g ks) p) e))))
          (sum_put h ks p (and_right (member y (g k)) (fits (map g ks) p) e))

      -- none is put past the bound
      pub put_past : (x : ℕ) → n ≤ x → (ks : List (Bracket P)) (p : List ℕ) → fits (map g ks) p ≡ true → put_at x ks p ≡ pos 0
      unfolding fits
      put_past x h [] p e = put_none P x p
      put_past x h (k ∷ ks) [] e = absurd (false≢true e)
      put_past x h (k ∷ ks) (y ∷ p) e =
          put_cons x k ks y p
          ∙ ap₂ ◌+ℤ◌
          (share_else y (mass_or0 k) x (λ z. omega (arith, below k y (and_left (member y (g k)) (fits (map g ks) p) e))))
          (put_past x h ks p (and_right (member y (g k)) (fits (map g ks) p) e))

    -- where no two share a position, a copy's position has its mass
    pub put_own : (ks : List (Bracket P)) (p : List ℕ) (i : ℕ) (d : Bracket P) → fits (map g ks) p ≡ true → distinct (take (length ks) p) ≡ true → i < length ks → put_at (get_or p i 0) ks p ≡ mass_or0 (get_or ks i d)
    unfolding fits distinct
    put_own [] p i d e f h = absurd (omega arith)
    put_own (k ∷ ks) [] i d e f h = absurd (false≢true e)
    put_own (k ∷ ks) (y ∷ p) zero d e f h =
        put_cons y k ks y p
        ∙ ap₂ ◌+ℤ◌ (share_here y (mass_or0 k) y refl)
        (put_zero y ks p (not-true (member y (take (length ks) p)) (and_left (not (member y (take (length ks) p))) (distinct (take (length ks) p)) f)))
        ∙ +ℤ_idr (mass_or0 k)
    put_own (k ∷ ks) (y ∷ p) (suc i) d e f h =
        put_cons (get_or p i 0) k ks y p
        ∙ ap₂ ◌+ℤ◌ (share_else y (mass_or0 k) (get_or p i 0) apart)
        (put_own ks p i d (and_right (member y (g k)) (fits (map g ks) p) e) (and_right (not (member y (take (length ks) p))) (distinct (take (length ks) p)) f) (le_of_suc-le-suc h))
        ∙ +ℤ_idl (mass_or0 (get_or ks i d))
      where
        less : i < length ks
        less = le_of_suc-le-suc h

        long : length (take (length ks) p) ≡ length ks
        long = let c = (cut (map g ks) p (and_right (member y (g k)) (fits (map g ks) p) e)).long in length-take-le (length ks) p (omega (arith, length-map ks g))

        among : member (get_or p i 0) (take (length ks) p) ≡ true
        among = ap (λ z. member z (take (length ks) p)) (sym (get_or-take (length ks) p i 0 less)) ∙ in_member _ _ (in_at (take (length ks) p) i 0 (rw long less))

        apart : y ≡ get_or p i 0 → ⊥
        apart z = true≢false (sym among ∙ ap (λ u. member u (take (length ks) p)) (sym z) ∙ not-true (member y (take (length ks) p)) (and_left (not (member y (take (length ks) p))) (distinct (take (length ks) p)) f))

  -- ---- the entries
  pub entry : (t : Line P) (p : List ℕ) (x : ℕ) → x < position_limit → get_or (ledger t p) x (pos 0) ≡ placed_at t x +ℤ put_at x (floaters t) p
  unfolding ledger
  entry t p x h =
      get_d_tabled (λ y. placed_at t y +ℤ put_at y (floaters t) p) 0 position_limit x (pos 0) h
      ∙ ap (λ y. placed_at t y +ℤ put_at y (floaters t) p) (zero-add x)

  pub no_entry : (t : Line P) (p : List ℕ) (x : ℕ) → position_limit ≤ x → get_or (ledger t p) x (pos 0) ≡ pos 0
  unfolding ledger
  no_entry t p x h =
      get_or-eq_default (tabled (λ y. placed_at t y +ℤ put_at y (floaters t) p) 0 position_limit) (pos 0)
      (rw (length_tabled (λ y. placed_at t y +ℤ put_at y (floaters t) p) 0 position_limit) h)

  allowed_fits : (t : Line P) (p : List ℕ) → allowed (floating_of t) p ≡ true → fits (map (permitted t) (floaters t)) p ≡ true
  allowed_fits t p e = (allowed_parts (floating_of t) p e).fit

  allowed_distinct : (t : Line P) (p : List ℕ) → allowed (floating_of t) p ≡ true → distinct (take (length (floaters t)) p) ≡ true
  allowed_distinct t p e = ap (λ n. distinct (take n p)) (sym (line_many t)) ∙ (allowed_parts (floating_of t) p e).apart

  inside : (t : Line P) (k : Bracket P) (x : ℕ) → member x (permitted t k) ≡ true → x < length t.residues + 2
  inside t k x e = permitted_inside t k x (member_in x (permitted t k) e)

  -- the entries add up to the placed and the floating masses
  pub ledger_sum : (t : Line P) → Fair t → (p : List ℕ) → allowed (floating_of t) p ≡ true → sum (ledger t p) ≡ sum (map (placed_mass t) t.brackets) +ℤ sum (map mass_or0 (floaters t))
  unfolding ledger
  ledger_sum t f p e =
      sum_both (placed_at t) (λ x. put_at x (floaters t) p) 0 position_limit
      ∙ ap₂ ◌+ℤ◌ (sum_placed t f)
      (sum_put (permitted t) (length t.residues + 2) (inside t) (omega (arith, f.few_residues)) (floaters t) p (allowed_fits t p e))

  pub past_zero : (t : Line P) → Fair t → (p : List ℕ) → allowed (floating_of t) p ≡ true → (x : ℕ) → length t.residues + 1 < x → get_or (ledger t p) x (pos 0) ≡ pos 0
  past_zero t f p e x h = by (dec_lt x position_limit)
    where
      by : Dec (x < position_limit) → get_or (ledger t p) x (pos 0) ≡ pos 0
      by (yes q) =
          entry t p x q
          ∙ ap₂ ◌+ℤ◌ (placed_past t f x h)
          (put_past (permitted t) (length t.residues + 2) (inside t) x (omega arith) (floaters t) p (allowed_fits t p e))
      by (no q) = no_entry t p x (omega arith)

  pub own_entry : (t : Line P) → Fair t → (p : List ℕ) → allowed (floating_of t) p ≡ true → (i : ℕ) (d : Bracket P) → i < length (floaters t)
      → get_or (ledger t p) (get_or p i 0) (pos 0) ≡ mass_or0 (get_or (floaters t) i d)
  own_entry t f p e i d h =
      entry t p (get_or p i 0) (omega (arith, permitted_inside t (get_or (floaters t) i d) (get_or p i 0) at, f.few_residues))
      ∙ ap₂ ◌+ℤ◌ (placed_zero t (get_or p i 0) (permitted_free t (get_or (floaters t) i d) (get_or p i 0) at))
      (put_own (permitted t) (floaters t) p i d (allowed_fits t p e) (allowed_distinct t p e) h)
      ∙ +ℤ_idl (mass_or0 (get_or (floaters t) i d))
    where
      at : In (get_or p i 0) (permitted t (get_or (floaters t) i d))
      at = subst (λ q. In (get_or p i 0) q) (line_at t i d h) ((allowed_placing (floating_of t) p e).permitted i (rw (line_many t) h))

  pub only_placed : (t : Line P) (p : List ℕ) (x : ℕ) → x < position_limit → member x (take (length (floaters t)) p) ≡ false → get_or (ledger t p) x (pos 0) ≡ placed_at t x
  only_placed t p x h e = entry t p x h ∙ ap (λ z. placed_at t x +ℤ z) (put_zero x (floaters t) p e) ∙ +ℤ_idr (placed_at t x)

  pub untouched : (t : Line P) (p : List ℕ) (x : ℕ) → member x (struck_out t) ≡ false → member x (take (length (floaters t)) p) ≡ false → get_or (ledger t p) x (pos 0) ≡ pos 0
  untouched t p x e f = by (dec_lt x position_limit)
    where
      by : Dec (x < position_limit) → get_or (ledger t p) x (pos 0) ≡ pos 0
      by (yes h) = only_placed t p x h f ∙ placed_zero t x e
      by (no h) = no_entry t p x (omega arith)

  -- no two copies stand at one position
  pub apart : (t : Line P) (p : List ℕ) → allowed (floating_of t) p ≡ true → (i j : ℕ) → i < length (floaters t) → j < length (floaters t) → get_or p i 0 ≡ get_or p j 0 → i ≡ j
  apart t p e i j h k q = (allowed_placing (floating_of t) p e).apart i j (rw (line_many t) h) (rw (line_many t) k) q
