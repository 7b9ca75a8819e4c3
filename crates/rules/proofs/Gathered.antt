-- The four refusals of one bracket after another, gathered into the lowest code, and their copies into the sum. Assumes nothing.
use Prim.Native.Nat.{ℕ, suc, ◌+◌, ◌-◌, ◌*◌, ◌≤◌, ◌<◌}
use mathlib.Core.Path.{◌≡◌, sym, ap, ap₂, ◌∙◌}
use mathlib.Core.Bool.{Bool}
use mathlib.Core.List.{List, ◌++◌, map}
use native.Mathlib.Omega.{arith}
use Rattle.scope.specs.Bytes.{wide_limit}
use Rattle.scope.specs.Refusals.{due_at}
use Rattle.sheet.specs.Fields.{place_field}
use Rattle.dues.specs.Ranks.{code, lowest}
use Rattle.dues.specs.First.{lowest_append}
use Rattle.dues.specs.Lines.{info_rank, declared_rank, label_rank, copies_rank}
use Rattle.dues.specs.Steps.{lowest_after}
use Rattle.rules.specs.Told.{info_at, declared_info_at, wrong_at, copies_at, copies_from, passes, due_codes, due_from}

module _ (line heads parts : List ℕ) (n : ℕ) where
  -- ---- one bracket
  pub due_four : (least before k : ℕ) {after place a d b r : ℕ} {x t y z : Bool} → after ≡ before + copies_at heads k → place ≡ place_field heads k
      → x ≡ info_at heads k → a ≡ lowest least (map (code info_rank) (due_at x place))
      → t ≡ declared_info_at heads k → d ≡ lowest a (map (code declared_rank) (due_at t place))
      → y ≡ wrong_at line heads parts n k → b ≡ lowest d (map (code label_rank) (due_at y place))
      → z ≡ passes before after → r ≡ lowest b (map (code copies_rank) (due_at z place))
      → r ≡ lowest least (due_codes line heads parts n before k)
  due_four least before k {place = place} o p ex ea et ed ey eb ez er =
      let here : ℕ → Bool → List ℕ = λ rank u. map (code rank) (due_at u (place_field heads k)) in
      let i : List ℕ = here info_rank (info_at heads k) in
      let v : List ℕ = here declared_rank (declared_info_at heads k) in
      let w : List ℕ = here label_rank (wrong_at line heads parts n k) in
      let c : List ℕ = here copies_rank (passes before (before + copies_at heads k)) in
      er
      ∙ ap₂ lowest
      (eb
      ∙ ap₂ lowest
      (ed
      ∙ ap₂ lowest (ea ∙ ap₂ (λ u j. lowest least (map (code info_rank) (due_at u j))) ex p) (ap₂ (λ u j. map (code declared_rank) (due_at u j)) et p)
      ∙ sym (lowest_append least v i))
      (ap₂ (λ u j. map (code label_rank) (due_at u j)) ey p)
      ∙ sym (lowest_append least w (v ++ i)))
      (ap₂ (λ u j. map (code copies_rank) (due_at u j)) (ez ∙ ap (passes before) o) p)
      ∙ sym (lowest_append least c (w ++ (v ++ i)))

  -- ---- the loop: first is the lowest of the brackets before the k-th, which have so many copies
  module _ (least : ℕ) where
    pub record Gathering (first before k : ℕ) : Type 0 where
      pub within : k ≤ n
      pub low : before ≤ k * wide_limit
      pub left : lowest first (due_from line heads parts n before k (n - k)) ≡ lowest least (due_from line heads parts n 0 0 n)
      pub copies_left : before + copies_from heads k (n - k) ≡ copies_from heads 0 n

    pub gather_starts : Gathering least 0 0
    gather_starts =
        let e : n - 0 ≡ n = omega arith in
        record { within = omega arith; low = omega arith; left = rw e; copies_left = rw e (omega arith) }

    module _ (first before k : ℕ) (s : Gathering first before k) where
      pub gather_more : {x y : ℕ} → k < n → x ≡ copies_at heads k → x < wide_limit → y ≡ lowest first (due_codes line heads parts n before k)
          → Gathering y (before + x) (k + 1)
      unfolding due_from copies_from
      gather_more h e l q =
          let g : n - k ≡ suc (n - (k + 1)) = omega arith in
          let rest : List ℕ = due_from line heads parts n (before + copies_at heads k) (k + 1) (n - (k + 1)) in
          record {
            within = omega arith;
            low = omega (arith, s.low);
            left = rw (q, e) (sym (lowest_after first (due_codes line heads parts n before k) rest) ∙ (rw g at s.left));
            copies_left = let w = rw g at s.copies_left in omega arith;
          }

      module _ (h : n ≤ k) where
        none_left : n - k ≡ 0
        none_left = omega arith

        pub gather_ends : first ≡ lowest least (due_from line heads parts n 0 0 n)
        unfolding due_from lowest
        gather_ends = rw none_left at s.left

        pub copies_end : before ≡ copies_from heads 0 n
        unfolding copies_from
        copies_end = let e = rw none_left at s.copies_left in omega arith
