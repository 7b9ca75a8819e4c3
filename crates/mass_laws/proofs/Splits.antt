-- The total, split into what is placed, what floats and what is labile.
use Rattle.std.specs.Prelude.{◌≡◌, Bool, true, false, ℕ, ◌+◌, ℤ, ◌*ℤ◌, length}
use Rattle.std.proofs.Math.Path.{refl, ap₂}
use Rattle.std.proofs.Common.{sym, ap, ◌∙◌}
use Rattle.std.proofs.Math.Bool.{cond}
use mathlib.Core.List.{List, [], ◌∷◌, map}
use Rattle.std.proofs.Math.IntN.{pos, ◌+ℤ◌, +ℤ_idl, +ℤ_idr, +ℤ_assoc, zero-*ℤ}
use Rattle.scope.specs.Line.{Bracket, Line}
use Rattle.scope.specs.Lists.{keep}
use Rattle.scope.specs.Modifications.{is_modification, copies}
use Rattle.scope.specs.Kinds.{is_labile}
use Rattle.scope.specs.Positions.{placed_on, floaters}
use Rattle.scope.specs.Masses.{mass_or0, times, sum, total, labile_mass}
use Rattle.mass_laws.specs.Weights.{weight, total_is, placed_mass}
use Rattle.mass_laws.specs.Terms.{FairBracket, Fair}
use Rattle.basics.specs.Each.{Each}
use Rattle.basics.specs.Choice.{pick_false}
use Rattle.mass_laws.specs.Placed.{counts_where}
use Rattle.mass_laws.specs.Sums.{six, once_more, times_both, sum_keep, sum_flat}

-- what a bracket adds to the labile masses
unfoldable pub labile_of : {P : Type 0} → Bracket P → ℤ
labile_of k = cond (is_modification k) (cond (is_labile k.kind) (mass_or0 k) (pos 0)) (pos 0)

-- ---- each modification counts where it is placed, where it floats and where it is labile
once : (m : ℤ) → pos 1 *ℤ m ≡ m
once m = sym (once_more 0 m) ∙ ap (λ z. m +ℤ z) (zero-*ℤ m) ∙ +ℤ_idr m

labile_times : (b : Bool) (m : ℤ) → pos (cond b 1 0) *ℤ m ≡ cond b m (pos 0)
labile_times true m = once m
labile_times false m = zero-*ℤ m

split_by : (a : Bool) (n q c : ℕ) (b : Bool) (m : ℤ) → (a ≡ true → n ≡ q + (c + cond b 1 0)) → (a ≡ false → c ≡ 0)
    → cond a (pos n *ℤ m) (pos 0) ≡ cond a (pos q *ℤ m) (pos 0) +ℤ ((pos c *ℤ m) +ℤ cond a (cond b m (pos 0)) (pos 0))
split_by true n q c b m e f =
    ap (λ z. pos z *ℤ m) (e refl) ∙ times_both q (c + cond b 1 0) m ∙ ap (λ z. (pos q *ℤ m) +ℤ z) (times_both c (cond b 1 0) m ∙ ap (λ z. (pos c *ℤ m) +ℤ z) (labile_times b m))
split_by false n q c b m e f =
    sym (+ℤ_idl ((pos c *ℤ m) +ℤ pos 0) ∙ +ℤ_idr (pos c *ℤ m) ∙ ap (λ z. pos z *ℤ m) (f refl) ∙ zero-*ℤ m)

module _ {P : Type 0} where
  no_copies : (k : Bracket P) → is_modification k ≡ false → copies k ≡ 0
  unfolding copies
  no_copies k e = pick_false (is_modification k) _ 0 e

  split : (t : Line P) (n : ℕ) (k : Bracket P) → FairBracket n k → weight t k ≡ placed_mass t k +ℤ (pos (copies k) *ℤ mass_or0 k +ℤ labile_of k)
  unfolding weight placed_mass labile_of
  split t n k f = split_by (is_modification k) (times t k) (length (placed_on t k)) (copies k) (is_labile k.kind) (mass_or0 k) (counts_where t n k f) (no_copies k)

  -- ---- over all brackets
  splits : (t : Line P) (n : ℕ) (ks : List (Bracket P)) → Each (FairBracket n) ks → sum (map (weight t) ks) ≡ sum (map (placed_mass t) ks) +ℤ (sum (map (λ k. pos (copies k) *ℤ mass_or0 k) ks) +ℤ sum (map labile_of ks))
  unfolding sum
  splits t n [] f = refl
  splits t n (k ∷ ks) f =
      ap₂ ◌+ℤ◌ (split t n k f.0) (splits t n ks f.1)
      ∙ six (placed_mass t k) (pos (copies k) *ℤ mass_or0 k) (labile_of k) (sum (map (placed_mass t) ks)) (sum (map (λ b. pos (copies b) *ℤ mass_or0 b) ks)) (sum (map labile_of ks))

  labile_is : (t : Line P) → labile_mass t ≡ sum (map labile_of t.brackets)
  unfolding labile_mass labile_of
  labile_is t =
      sum_keep (λ k. is_labile k.kind) mass_or0 (keep is_modification t.brackets)
      ∙ sum_keep is_modification (λ k. cond (is_labile k.kind) (mass_or0 k) (pos 0)) t.brackets

  floating_is : (t : Line P) → sum (map mass_or0 (floaters t)) ≡ sum (map (λ k. pos (copies k) *ℤ mass_or0 k) t.brackets)
  unfolding floaters
  floating_is t = sum_flat copies mass_or0 t.brackets

  -- what is placed, what floats and what is labile add up to the total
  pub total_splits : (t : Line P) → Fair t → (sum (map (placed_mass t) t.brackets) +ℤ sum (map mass_or0 (floaters t))) +ℤ labile_mass t ≡ total t
  total_splits t f =
      +ℤ_assoc (sum (map (placed_mass t) t.brackets)) (sum (map mass_or0 (floaters t))) (labile_mass t)
      ∙ ap (λ z. sum (map (placed_mass t) t.brackets) +ℤ z) (ap₂ ◌+ℤ◌ (floating_is t) (labile_is t))
      ∙ sym (splits t (length t.residues) t.brackets f.each_bracket)
      ∙ sym (total_is t)
