-- `keeping::add` meets its contract: the line's own refusals and 18, or its content is added. Assumes nothing.
use Rattle.std.proofs.Common.{ap, sym, ◌∙◌}
use Rattle.scope.specs.Answers.{good}
use Rattle.keeping.proofs.Looks.{front_part}
use Rattle.keeping.proofs.Calls.{handed_on, refused_add, content_add}
use Rattle.keeping.proofs.add.Goals as goal

pub returns-in_err-length : goal.returns-in_err-length
returns-in_err-length c =
    refused_add (rw c.in_err-length.was at c.make_content.ensures) (handed_on c.from_residual.result _ c.from_residual.ensures.1)

pub returns : goal.returns
returns c = let made = rw c.in_ok-length.was at c.make_content.ensures in content_add made.0 c.add_content.ensures
