-- `bracket_due` meets its contract: one refusal after another. Assumes nothing.
use Rattle.rules.proofs.Gathered.{due_four}
use Rattle.rules.proofs.bracket_due.Goals as goal

pub returns : goal.returns
returns c =
    due_four c.args.line.now c.args.sheet.now.heads c.args.sheet.now.parts c.args.n c.args.least c.args.before c.args.k c.requires.2 c.place_of-place.ensures.0 c.has_only_info.ensures c.due_if-a.ensures c.declares_info.ensures c.due_if-d.ensures c.is_wrong.ensures c.due_if-b.ensures c.passes.ensures c.due_if.ensures
