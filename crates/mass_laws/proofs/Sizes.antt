-- The size of the total: a mass is in it once, or as often as it floats, and that of a declaration at most at each position; so at most brackets, floating copies and
-- the positions of eight declarations together are counted.
use Rattle.std.specs.Prelude.{◌≡◌, ◌⊎◌, Bool, ℤ, pos, nat_abs, ◌*ℤ◌, length}
use Rattle.std.proofs.Math.Path.{refl, ap₂, subst}
use Rattle.std.proofs.Common.{sym, ◌∙◌, inr, ⊎_elim, le_refl, mul-le-mul}
use Rattle.std.proofs.Math.Logic.{inl}
use Rattle.std.proofs.Math.Bool.{true, false, cond}
use mathlib.Core.List.{List, [], ◌∷◌, ◌++◌, map}
use Prim.Native.Nat.{ℕ, suc, ◌+◌, ◌-◌, ◌*◌, ◌≤◌, ◌<◌}
use native.Mathlib.Omega.{arith}
use Rattle.std.proofs.Math.ListN.{replicate, length-append}
use Rattle.std.proofs.lemmas.List.{length-replicate}
use Rattle.scope.specs.declared.grammar.Kind.{Kind}
use Rattle.scope.specs.declared.grammar.Kind.TheVariants.{Unknown}
use Rattle.scope.specs.Line.{Bracket, Line}
use Rattle.scope.specs.Kinds.{is_unknown, is_declared}
use Rattle.scope.specs.Limits.{residue_limit, position_limit}
use Rattle.scope.specs.Lists.{keep, flat}
use Rattle.scope.specs.Refusals.{declarations}
use Rattle.scope.specs.Modifications.{is_modification, is_labelled, unlabelled_copies, copies}
use Rattle.scope.specs.Positions.{placed_on, floaters}
use Rattle.scope.specs.Masses.{mass_or0, times, sum, sumℕ, total}
use Rattle.mass_laws.specs.Weights.{weight, total_is}
use Rattle.basics.specs.Wholes.{abs_add, abs_mul}
use Rattle.mass_laws.specs.Terms.{mass_limit, total_limit, FairBracket, Fair, Limited}
use Rattle.basics.specs.Each.{Each}
use Rattle.basics.specs.Choice.{branch, branch_on, pick_true, pick_false}
use Rattle.mass_laws.specs.Placed.{placed_few}
use Rattle.basics.specs.Kinds.{other_kind}

-- how often a bracket's mass is in the total
unfoldable pub counted : {P : Type 0} → Line P → Bracket P → ℕ
counted t k = cond (is_modification k) (times t k) 0

-- at most once, or as often as it floats; a declaration at most at each position
counted_by : (a l : Bool) (k : Kind) (c : ℕ) → ((k ≡ Unknown → ⊥) → c ≡ 1) → (l ≡ true → c ≡ 1)
    → (cond a c 0 ≤ 1) ⊎ (cond a c 0 ≤ cond a (cond l 1 (unlabelled_copies k c)) 0)
counted_by false l k c s u = inl (omega arith)
counted_by true true k c s u = inl (omega (arith, u refl))
counted_by true false k c s u =
    branch_on (λ n. (c ≤ 1) ⊎ (c ≤ n)) (is_unknown k) (λ e. inr (le_refl c)) (λ e. inl (omega (arith, s (other_kind Unknown k e))))

-- b brackets, d of them declarations, f floating copies, c counted: with one bracket more that counts t times and floats f₁ times
abbrev Few : ℕ → ℕ → ℕ → ℕ → Type 0
Few b d f c = (c ≤ (position_limit - 1) * d + b) ⊎ (c + 1 ≤ (position_limit - 1) * d + b + f)

step : (b d f c t f₁ : ℕ) → Few b d f c → (t ≤ 1) ⊎ (t ≤ f₁) → Few (suc b) d (f₁ + f) (t + c)
step b d f c t f₁ (inl h) (inl k) = inl (omega arith)
step b d f c t f₁ (inl h) (inr k) = inr (omega arith)
step b d f c t f₁ (inr h) (inl k) = inr (omega arith)
step b d f c t f₁ (inr h) (inr k) = inr (omega arith)

declared_step : (b d f c t f₁ : ℕ) → Few b d f c → t ≤ position_limit → Few (suc b) (suc d) (f₁ + f) (t + c)
declared_step b d f c t f₁ (inl h) k = inl (omega arith)
declared_step b d f c t f₁ (inr h) k = inr (omega arith)

weight_by : (t : Bool) (c : ℕ) (m : ℤ) → nat_abs m ≤ mass_limit - 1 → nat_abs (cond t (pos c *ℤ m) (pos 0)) ≤ cond t c 0 * (mass_limit - 1)
weight_by true c m h =
    let same : c ≤ c = omega arith in
    omega (arith, abs_mul c m, mul-le-mul same h)
weight_by false c m h = omega arith

module _ {P : Type 0} where
  few_counted : (t : Line P) (n : ℕ) (k : Bracket P) → is_declared k.kind ≡ false → FairBracket n k → (counted t k ≤ 1) ⊎ (counted t k ≤ copies k)
  unfolding counted copies
  few_counted t n k d f =
      subst (λ c. (cond (is_modification k) c 0 ≤ 1) ⊎ (cond (is_modification k) c 0 ≤ cond (is_modification k) (cond (is_labelled k) 1 (unlabelled_copies k.kind k.count)) 0))
      (sym (pick_false (is_declared k.kind) (length (placed_on t k)) k.count d)) (counted_by (is_modification k) (is_labelled k) k.kind k.count f.single f.labelled_single)

  declared_few : (t : Line P) (k : Bracket P) → length t.residues ≤ residue_limit → is_declared k.kind ≡ true → counted t k ≤ position_limit
  unfolding counted
  declared_few t k h d =
      branch (λ c. c ≤ position_limit) (is_modification k)
      (subst (λ c. c ≤ position_limit) (sym (pick_true (is_declared k.kind) (length (placed_on t k)) k.count d)) (omega (arith, placed_few t k))) (omega arith)

  -- so, of all brackets, at most as many as there are brackets; or one less, and the floating copies; and each declaration at all positions
  many : (t : Line P) (n : ℕ) → length t.residues ≤ residue_limit → (ks : List (Bracket P)) → Each (FairBracket n) ks → Few (length ks) (length (declarations ks)) (sumℕ (map copies ks)) (sumℕ (map (counted t) ks))
  unfolding sumℕ keep
  many t n h [] f = inl (omega arith)
  many t n h (k ∷ ks) f = by (is_declared k.kind) refl (many t n h ks f.1)
    where
      by : (u : Bool) → is_declared k.kind ≡ u → Few (length ks) (length (declarations ks)) (sumℕ (map copies ks)) (sumℕ (map (counted t) ks)) → Few (suc (length ks)) (length (cond u (k ∷ []) [] ++ declarations ks)) (copies k + sumℕ (map copies ks)) (counted t k + sumℕ (map (counted t) ks))
      by true d rest = declared_step _ _ _ _ (counted t k) (copies k) rest (declared_few t k h d)
      by false d rest = step _ _ _ _ (counted t k) (copies k) rest (few_counted t n k d f.0)

  floating : (ks : List (Bracket P)) → length (flat (λ k. replicate (copies k) k) ks) ≡ sumℕ (map copies ks)
  unfolding flat sumℕ
  floating [] = refl
  floating (k ∷ ks) =
      length-append (replicate (copies k) k) (flat (λ b. replicate (copies b) b) ks)
      ∙ ap₂ ◌+◌ (length-replicate (copies k) k) (floating ks)

  floating_is : (t : Line P) → length (floaters t) ≡ sumℕ (map copies t.brackets)
  unfolding floaters
  floating_is t = floating t.brackets

  weight_size : (t : Line P) (k : Bracket P) → nat_abs (mass_or0 k) < mass_limit → nat_abs (weight t k) ≤ counted t k * (mass_limit - 1)
  unfolding weight counted
  weight_size t k h = weight_by (is_modification k) (times t k) (mass_or0 k) (omega arith)

  sum_size_lem : (t : Line P) (ks : List (Bracket P)) → Each (λ k. nat_abs (mass_or0 k) < mass_limit) ks → nat_abs (sum (map (weight t) ks)) ≤ sumℕ (map (counted t) ks) * (mass_limit - 1)
  unfolding sum sumℕ
  sum_size_lem t [] f = omega arith
  sum_size_lem t (k ∷ ks) f = omega (arith, abs_add (weight t k) (sum (map (weight t) ks)), weight_size t k f.0, sum_size_lem t ks f.1)

  pub total_size : (t : Line P) → Fair t → Limited t → nat_abs (total t) < total_limit
  total_size t f l =
      let size = sum_size_lem t t.brackets l.small in
      let b = l.few_brackets_lem in
      let d = l.few_declarations in
      let c = l.few_copies in
      rw (total_is t) (⊎_elim (λ h. omega arith) (λ h. omega (arith, floating_is t)) (many t (length t.residues) f.few_residues t.brackets f.each_bracket))
