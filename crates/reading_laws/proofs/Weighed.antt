-- Lines whose brackets weigh alike, one by one, have the same total, as many masses lacking, the same ledgers and the same labile masses.
use Rattle.std.specs.Prelude.{◌≡◌, cond, ℕ, ◌*ℤ◌, length}
use Rattle.std.proofs.Math.Path.{refl, sym, ap, ap₂}
use Rattle.std.proofs.Common.{◌∙◌}
use mathlib.Core.List.{List, [], ◌∷◌, map}
use Rattle.std.proofs.Math.IntN.{pos, ◌+ℤ◌}
use Rattle.std.proofs.Math.ListN.{replicate}
use Rattle.scope.specs.Limits.{position_limit}
use Rattle.scope.specs.Line.{Bracket, Line}
use Rattle.scope.specs.Kinds.{is_declared, is_labile}
use Rattle.scope.specs.Lists.{given, keep, flat, member}
use Rattle.scope.specs.Modifications.{is_modification, copies}
use Rattle.scope.specs.Positions.{placed_on, floaters}
use Rattle.scope.specs.Masses.{mass_of, stated, mass_or0, modifications, times, sum, sumℕ, total, lacking, placed_at, put_at, ledger, labile_mass}
use Rattle.basics.specs.Lists.{map_map, flat_map, keep_map, map_replicate, map_flat}
use Rattle.basics.specs.Tabled.{tabled_same}

-- each bracket of l is changed into one of t that is a modification, floats, stands and weighs as it does
pub record Alike {P Q : Type 0} (g : Bracket P → Bracket Q) (l : Line P) (t : Line Q) : Type 0 where
  pub brackets : t.brackets ≡ map g l.brackets
  pub kind : (k : Bracket P) → (g k).kind ≡ k.kind
  pub count : (k : Bracket P) → (g k).count ≡ k.count
  pub modification : (k : Bracket P) → is_modification (g k) ≡ is_modification k
  pub copied : (k : Bracket P) → copies (g k) ≡ copies k
  pub placed : (k : Bracket P) → placed_on t (g k) ≡ placed_on l k
  pub mass : (k : Bracket P) → stated (mass_of (g k)) ≡ stated (mass_of k)

module _ {P Q : Type 0} {g : Bracket P → Bracket Q} {l : Line P} {t : Line Q} (a : Alike g l t) where
  mass_or_0 : (k : Bracket P) → mass_or0 (g k) ≡ mass_or0 k
  mass_or_0 k = ap (λ o. given o (λ m. m) (pos 0)) (a.mass k)

  times_same : (k : Bracket P) → times t (g k) ≡ times l k
  times_same k = ap₂ (λ c n. cond (is_declared c) (length (placed_on t (g k))) n) (a.kind k) (a.count k) ∙ ap (λ xs. cond (is_declared k.kind) (length xs) k.count) (a.placed k)

  modifications_same : modifications t ≡ map g (modifications l)
  modifications_same = ap (keep is_modification) a.brackets ∙ keep_map is_modification is_modification g a.modification l.brackets

  pub same_floaters : floaters t ≡ map g (floaters l)
  unfolding floaters
  same_floaters =
      ap (flat (λ k. replicate (copies k) k)) a.brackets
      ∙ flat_map (λ k. replicate (copies k) k) (λ k. replicate (copies k) (g k)) g (λ k. ap (λ n. replicate n (g k)) (a.copied k)) l.brackets
      ∙ sym (map_flat g (λ k. replicate (copies k) k) (λ k. replicate (copies k) (g k)) (λ k. map_replicate g (copies k) k) l.brackets)

  pub same_total : total t ≡ total l
  unfolding total
  same_total =
      ap sum
      (ap (map (λ k. pos (times t k) *ℤ mass_or0 k)) modifications_same
      ∙ map_map (λ k. pos (times t k) *ℤ mass_or0 k) (λ k. pos (times l k) *ℤ mass_or0 k) g (λ k. ap₂ (λ n m. pos n *ℤ m) (times_same k) (mass_or_0 k)) (modifications l))

  pub same_lacking : lacking t ≡ lacking l
  unfolding lacking
  same_lacking =
      ap sumℕ
      (ap (map (λ k. given (stated (mass_of k)) (λ m. 0) (times t k))) modifications_same
      ∙ map_map (λ k. given (stated (mass_of k)) (λ m. 0) (times t k)) (λ k. given (stated (mass_of k)) (λ m. 0) (times l k)) g
      (λ k. ap₂ (λ o n. given o (λ m. 0) n) (a.mass k) (times_same k)) (modifications l))

  placed_at_lem : (x : ℕ) → placed_at t x ≡ placed_at l x
  unfolding placed_at
  placed_at_lem x =
      ap (λ ks. sum (map mass_or0 (keep (λ k. member x (placed_on t k)) ks))) modifications_same
      ∙ ap (λ ks. sum (map mass_or0 ks)) (keep_map (λ k. member x (placed_on t k)) (λ k. member x (placed_on l k)) g (λ k. ap (member x) (a.placed k)) (modifications l))
      ∙ ap sum (map_map mass_or0 mass_or0 g mass_or_0 (keep (λ k. member x (placed_on l k)) (modifications l)))

  put_at_lem : (x : ℕ) (ks : List (Bracket P)) (q : List ℕ) → put_at x (map g ks) q ≡ put_at x ks q
  unfolding put_at
  put_at_lem x [] q = refl
  put_at_lem x (k ∷ ks) [] = refl
  put_at_lem x (k ∷ ks) (y ∷ q) = rw (mass_or_0 k, put_at_lem x ks q)

  pub same_ledger : (q : List ℕ) → ledger t q ≡ ledger l q
  unfolding ledger
  same_ledger q = tabled_same _ _ (λ x. ap₂ ◌+ℤ◌ (placed_at_lem x) (ap (λ ks. put_at x ks q) same_floaters ∙ put_at_lem x (floaters l) q)) 0 position_limit

  pub same_labile : labile_mass t ≡ labile_mass l
  unfolding labile_mass
  same_labile =
      ap (λ ks. sum (map mass_or0 ks))
      (ap (keep (λ k. is_labile k.kind)) modifications_same
      ∙ keep_map (λ k. is_labile k.kind) (λ k. is_labile k.kind) g (λ k. ap is_labile (a.kind k)) (modifications l))
      ∙ ap sum (map_map mass_or0 mass_or0 g mass_or_0 (keep (λ k. is_labile k.kind) (modifications l)))
