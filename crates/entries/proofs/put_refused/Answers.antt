-- `entries::put_refused` meets its contract: the word, the number and the place, one behind the other. Assumes nothing.
use mathlib.Core.Path.{ap}
use Rattle.scope.specs.Register.{fields}
use Rattle.figures.proofs.Storing.{puts_of}
use Rattle.entries.specs.Entry.{no_fields}
use Rattle.entries.proofs.Texts.{field_then, field_last}
use Rattle.entries.proofs.put_refused.Goals as goal

pub returns : goal.returns
returns c =
    puts_of (ap (λ n. fields (no_fields n c.args.refusal.place)) c.number_of.ensures)
    (field_then c.word-a.ensures _ (field_then c.put_field-b.ensures _ (field_last c.put_field.ensures)))
