-- `placements::request` meets its contract: by the listing's mark.
use mathlib.Core.Path.{sym, ap}
use Rattle.scope.specs.Answers.{of_good, moved}
use Rattle.placements.proofs.Answers.{other_asked}
use Rattle.placements.proofs.request.Goals as goal

pub returns-else-l-eq-UNMARKED : goal.returns-else-l-eq-UNMARKED
returns-else-l-eq-UNMARKED c = sym (ap (of_good moved) (other_asked _ c.args.l c.if-l-eq-FRESH.false c.if-l-eq-UNMARKED.false))
