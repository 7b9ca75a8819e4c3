-- A point stands there, the line ends, or another byte stands there: each by its law, from what the callee says of the rest.
use mathlib.Core.Path.{sym, ap, ◌∙◌}
use Rattle.numerals.specs.Numerals.{num_of}
use Rattle.numerals.proofs.NumberLaws.{whole_end, whole_point, whole_other}
use Rattle.numerals.proofs.after_whole.Goals as goal
use Rattle.numerals.proofs.after_whole.Goals.{else-at-line-via-then-at-line+else-line-at-eq46, else-at-line-via-else-at-line}

pub returns-then-line-at-eq46 : goal.returns-then-line-at-eq46
returns-then-line-at-eq46 c =
    λ p m e z.
    c.after_point.ensures p m e ∙ ap num_of (sym (whole_point p _ _ _ m c.if-at-line.true c.if-line-at-eq46.true))

pub returns-else-at-line : goal.returns-else-at-line
returns-else-at-line c =
    λ p m e z.
    c.finished.ensures p m e
    ∙ ap num_of (sym
    elim c.else-at-line.branch [
      | else-at-line-via-then-at-line+else-line-at-eq46 w ↦ whole_other p _ _ _ m w.if-at-line.true w.if-line-at-eq46.false z
      | else-at-line-via-else-at-line w ↦ whole_end p _ _ _ m w.if-at-line.false
    ])
