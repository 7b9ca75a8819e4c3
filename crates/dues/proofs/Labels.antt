-- What a label that was found says, and so what is due of it. Assumes nothing.
use mathlib.Core.Path.{◌≡◌, refl, sym, ap, ap₂, ◌∙◌}
use mathlib.Core.Bool.{Bool}
use mathlib.Core.Option.{Option, none, some}
use mathlib.Core.List.{List, [], map, ◌++◌}
use Prim.Native.Nat.{ℕ, ◌+◌, ◌-◌}
use native.Mathlib.Omega.{arith}
use lib.Dec.{ltb}
use lib.ListN.{length}
use Rattle.scope.specs.Limits.{label_limit}
use Rattle.scope.specs.Line.{Number, Label as Written}
use Rattle.scope.specs.Lists.{given, part}
use Rattle.scope.specs.Refusals.{due_at, in_range, wide, is_link}
use Rattle.labels.specs.declared.Label.{Label}
use Rattle.labels.specs.Says.{ScoreAt, score_kept, IsLabel}
use Rattle.dues.specs.Found.{wide_score}
use Rattle.basics.specs.Choice.{by_test}
use Rattle.dues.specs.Ranks.{code, lowest}
use Rattle.dues.specs.First.{lowest_append}
use Rattle.dues.specs.Lines.{over_rank, wide_rank, barred_rank, label_codes}

-- a score is out of range where its number is not kept
score_is : (i : ℕ) (s : Option (Number ℕ)) → ScoreAt i s → due_at (wide_score (score_kept s)) i ≡ given s wide []
score_is i none h = refl
score_is i (some n) h = by_test (in_range n) (λ t. rw t refl) (λ t. rw (t, sym h) refl)

module _ (line : List ℕ) (at : ℕ) (r : Label) (l : Written ℕ) (g : IsLabel line l.at r l) where
  -- its name, and how long it is
  name_is : part r.from (r.to - r.from) line ≡ l.name
  name_is =
      let n : r.to - r.from ≡ length l.name = omega (arith, g.from_is, g.to_is) in
      rw (n, g.from_is) (sym g.name_is)

  name_long : r.to - r.from ≡ length l.name
  name_long = omega (arith, g.from_is, g.to_is)

  -- a is the lowest with what is due of its name, b with what is due of its score
  pub due_label : (n : ℕ) {a b c : ℕ} {x y : Bool} → x ≡ is_link (part r.from (r.to - r.from) line) → a ≡ lowest n (map (code barred_rank) (due_at x at))
      → y ≡ wide_score r.score → b ≡ lowest a (map (code wide_rank) (due_at y (r.to + 1)))
      → c ≡ lowest b (map (code over_rank) (due_at (ltb label_limit (r.to - r.from)) r.from)) → c ≡ lowest n (label_codes at l)
  due_label n link barred wide_it score long =
      let links : List ℕ = map (code barred_rank) (due_at (is_link l.name) at) in
      let scores : List ℕ = map (code wide_rank) (given l.score wide []) in
      let longs : List ℕ = map (code over_rank) (due_at (ltb label_limit (length l.name)) l.at) in
      long
      ∙ ap₂ lowest
      (score
      ∙ ap₂ lowest (barred ∙ ap (λ t. lowest n (map (code barred_rank) (due_at t at))) (link ∙ ap is_link name_is))
      (ap (map (code wide_rank)) (ap (λ s. due_at s (r.to + 1)) (wide_it ∙ ap wide_score g.score_is) ∙ score_is (r.to + 1) l.score g.score_place))
      ∙ sym (lowest_append n scores links))
      (ap₂ (λ x y. map (code over_rank) (due_at (ltb label_limit x) y)) name_long g.from_is)
      ∙ sym (lowest_append n longs (scores ++ links))
