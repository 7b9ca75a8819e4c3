-- `entries::put_accepted` meets its contract: the counts, the total and the canonical line, one behind the other. Assumes nothing.
use mathlib.Core.List.{[], ◌∷◌}
use Rattle.scope.specs.Limits.{line_limit}
use Rattle.scope.specs.Canonical.{canonical}
use Rattle.scope.specs.Layout.{tables_in}
use Rattle.scope.specs.Register.{total_text}
use Rattle.entries.specs.Entry.{count_fields}
use Rattle.figures.proofs.Storing.{puts_of, puts_join, puts_exact}
use Rattle.entries.proofs.Texts.{field_then, field_last, fields_append}
use Rattle.entries.proofs.put_accepted.Goals as goal

pub returns : goal.returns
returns c =
    let m = tables_in c.args.bytes.now c.args.numbers.now in
    puts_of (fields_append (count_fields c.args.noted) (total_text m ∷ canonical m ∷ []))
    (puts_join c.put_counts-a.ensures
    (field_then c.put_total-b.ensures _ (field_last (puts_join c.put-c.ensures (puts_exact {n = line_limit} c.requires.0.short c.put_line.ensures)))))
