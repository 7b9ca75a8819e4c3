-- A name ends at `]`, or is read on as a text.
use mathlib.Core.Path.{refl}
use Rattle.scope.specs.Content.{is_plain, in_text, inner_step}
use Rattle.scope.specs.declared.grammar.Key.TheVariants.{NoKey}
use Rattle.values.proofs.Saying.{over}
use Rattle.values.proofs.Through.{run_upto}
use Rattle.classes.proofs.Classes.{plain_quiet}
use Rattle.values.proofs.Depths.{none_deep}
use Rattle.values.proofs.Words.{no_key_behind, name_shut}
use Rattle.values.proofs.name_at.Goals as goal

pub returns-then-line-end : goal.returns-then-line-end
returns-then-line-end c = λ e k. over _ _ _ (λ x. inner_step _ (in_text x _ NoKey _ _)) c.if-line-end.true k

pub returns-then-line-end-eq93 : goal.returns-then-line-end-eq93
returns-then-line-end-eq93 c =
    λ e k.
    name_shut _ _ _ _ c.if-line-end-eq93.true _ (c.text_of.ensures c.args.line.now c.args.at (no_key_behind c.args.at) c.requires k (none_deep is_plain plain_quiet _ _ _ (run_upto is_plain _ _ _ e)))

pub returns-else-line-end-eq93 : goal.returns-else-line-end-eq93
returns-else-line-end-eq93 c = λ e k. c.text_from.ensures c.args.at refl (no_key_behind c.args.at) (run_upto is_plain _ _ _ e)
