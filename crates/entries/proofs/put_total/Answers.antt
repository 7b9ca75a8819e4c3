-- `entries::put_total` meets its contract: a space, and the total behind it. Assumes nothing.
use mathlib.Core.Path.{ap, ◌∙◌}
use Rattle.entries.specs.Entry.{weight_text}
use Rattle.figures.proofs.Storing.{puts_of, puts_join}
use Rattle.entries.proofs.Texts.{weight_text_lem}
use Rattle.entries.proofs.put_total.Goals as goal

pub returns : goal.returns
returns c = puts_join c.put-a.ensures (puts_of (ap weight_text c.weigh.ensures ∙ weight_text_lem _) c.put_weight.ensures)
