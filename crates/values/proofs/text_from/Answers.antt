-- A text is read as far as it goes. What its end tells of its depth holds from its first byte on, since the bytes before `scan` are plain.
use native.Mathlib.Omega.{arith}
use mathlib.Core.Path.{◌∙◌}
use Rattle.std.proofs.lemmas.Result.{err_from_is_err_and}
use Rattle.scope.specs.Content.{is_plain}
use Rattle.texts.proofs.Told.{told_ends, told_stuck}
use Rattle.classes.proofs.Classes.{plain_quiet}
use Rattle.values.proofs.Depths.{deep_behind}
use Rattle.values.proofs.Values.{text_end_within, text_ends, text_stuck}
use Rattle.values.proofs.text_from.Goals as goal

pub returns-in_err-end : goal.returns-in_err-end
returns-in_err-end c =
    λ at p w b.
    let q = err_from_is_err_and c.from_residual.result c.from_residual.ensures.1 in
    rw (q.1, q.2) (text_stuck _ at _ _ _ _ p c.requires.0 c.requires.1 _ (told_stuck _ _ _ _ c.in_err-end.ensures))

pub returns : goal.returns
returns c =
    λ at p w b.
    let e = told_ends _ _ _ _ _ c.in_ok-end.ensures in
    let i = text_end_within _ _ _ c.requires.1 _ e.0 in
    text_ends _ at _ _ _ _ p c.requires.0 c.requires.1 _ e.0 _
    (c.text_of.ensures _ at w (omega (arith, i.0, c.requires.0)) i.1 (e.1 ∙ deep_behind is_plain plain_quiet _ _ _ _ c.requires.0 i.0 b))
