-- Laws of the next number that passes a test, over any test: what the test keeps of the numbers from one on, and whether all pass.
use Rattle.std.specs.Prelude.{◌≡◌, Bool, true, false, cond, ◌&&◌, List, [], ◌∷◌, ◌++◌, ℕ, ◌+◌, ◌-◌, ◌≤◌, ◌<◌}
use Rattle.std.specs.List.{list_all, range_with_len}
use Rattle.std.proofs.Common.{refl, zero, suc, ap, ◌∙◌, arith}
use Rattle.scope.specs.Lists.{all, keep, tabled}
use Rattle.basics.specs.Lists.{keep_append}
use Rattle.basics.specs.Tabled.{tabled_at, tabled_all, tabled_append, keep_none}

-- ---- what the test keeps of the numbers from one on, below n
abbrev pub kept_from : (ℕ → Bool) → ℕ → ℕ → List ℕ
kept_from test n from = keep test (tabled (λ b. b) from (n - from))

keep_here : (test : ℕ → Bool) (x : ℕ) (l : List ℕ) → test x ≡ true → keep test (x ∷ l) ≡ x ∷ keep test l
unfolding keep
keep_here test x l e = ap (λ t. cond t (x ∷ []) [] ++ keep test l) e

module _ {test : ℕ → Bool} {n from : ℕ} where
  -- the next that passes, and those behind it
  pub next_kept : {r : ℕ} → from ≤ r → r < n → test r ≡ true → ((c : ℕ) → from ≤ c → c < r → test c ≡ false) → kept_from test n from ≡ r ∷ kept_from test n (r + 1)
  next_kept {r} low h here none =
      let many : n - from ≡ (r - from) + (n - r) = omega arith in
      let there : from + (r - from) ≡ r = omega arith in
      let before : List ℕ = tabled (λ b. b) from (r - from) in
      let behind : List ℕ = tabled (λ b. b) (r + 1) (n - (r + 1)) in
      ap (λ m. keep test (tabled (λ b. b) from m)) many
      ∙ ap (keep test) (tabled_append from (r - from) (n - r) ∙ ap (λ i. before ++ tabled (λ b. b) i (n - r)) there)
      ∙ keep_append test before (tabled (λ b. b) r (n - r))
      ∙ ap (λ l. l ++ keep test (tabled (λ b. b) r (n - r))) (keep_none test from (r - from) (λ c l k. none c l (omega arith)))
      ∙ ap (keep test) (tabled_at (λ b. b) r n h)
      ∙ keep_here test r behind here

  -- none passes
  pub none_kept : ((c : ℕ) → from ≤ c → c < n → test c ≡ false) → kept_from test n from ≡ []
  none_kept none = keep_none test from (n - from) (λ c l k. none c l (omega arith))

-- from the first on
pub kept_all : (test : ℕ → Bool) (n : ℕ) → keep test (tabled (λ b. b) 0 n) ≡ kept_from test n 0
kept_all test n = ap (keep test) (tabled_all (λ b. b) n)

-- ---- whether all pass, as std asks it of a range
pub all_ranged : (test : ℕ → Bool) (from n : ℕ) → list_all test (range_with_len from n) ≡ all test (tabled (λ b. b) from n)
unfolding all tabled
all_ranged test from zero = refl
all_ranged test from (suc n) = ap (λ t. test from && t) (all_ranged test (from + 1) n)
