-- A label is a name, with a score behind it or none.
use borrow.Author.Rules.{rules}
use mathlib.Core.Path.{sym, ◌∙◌}
use mathlib.Core.Option.{none}
use Rattle.scope.specs.Bytes.{is_alnum}
use Rattle.values.proofs.Through.{run_inside}
use Rattle.labels.proofs.Saying.{label_says}
use Rattle.labels.proofs.Names.{no_name, further, name_over, name_scored, name_ends, unscored}
use Rattle.labels.proofs.label_at.Goals as goal
use Rattle.labels.proofs.label_at.Goals.{then-end-at-via-then-end-at, then-end-at-via-else-end-at+then-line-end}

pub returns-then-end-at : goal.returns-then-end-at
returns-then-end-at c =
    λ k.
    let e = c.alnum_end-end.ensures in
    elim c.then-end-at.branch [
      | then-end-at-via-then-end-at w ↦ rw w.if-end-at.true (label_says _ _ _ (no_name _ _ k (sym e ∙ w.if-end-at.true)))
      | then-end-at-via-else-end-at+then-line-end w ↦ label_says _ _ _ (name_over _ _ _ e w.if-end-at.false (run_inside is_alnum _ _ _ e k) w.if-line-end.true)
    ]

pub score_at-requires : goal.score_at-requires
score_at-requires c = (further _ _ _ c.alnum_end-end.ensures c.if-end-at.false, c.if-line-end.false)

pub returns-then-line-end-eq40 : goal.returns-then-line-end-eq40
returns-then-line-end-eq40 c =
    λ k.
    label_says _ _ _ (name_scored _ _ _ c.alnum_end-end.ensures c.if-end-at.false c.if-line-end.false c.if-line-end-eq40.true _ c.score_at.ensures)

pub returns-else-line-end-eq40 : goal.returns-else-line-end-eq40
returns-else-line-end-eq40 c =
    λ k.
    let e = c.alnum_end-end.ensures in
    let f = c.if-end-at.false in
    label_says _ _ _
    (name_ends _ _ _ e f c.if-line-end.false c.if-line-end-eq40.false _ (c.label_end.ensures none (unscored _ _ _ e f (search rules)) (search rules) (search rules)))
