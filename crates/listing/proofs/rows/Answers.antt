-- What is ready goes into the rows, and the answer says how many they are.
use mathlib.Core.Path.{ap, ◌∙◌}
use Rattle.scope.specs.Answers.{good}
use Rattle.calls.proofs.RowLaws.{rows_said_lem, rows_after_lem}
use Rattle.listing.proofs.rows.Goals as goal

pub returns : goal.returns
returns c =
    let ready = c.in_ok-floaters.ensures in
    (ap good c.fill_rows.ensures.0 ∙ rows_said_lem _ ready, c.fill_rows.ensures.1 ∙ rows_after_lem _ ready)
