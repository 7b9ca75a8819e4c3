-- `value_due` meets its contract: what is due of the key and the text; or of the key, then of the mass. Assumes nothing.
use Rattle.dues.proofs.Values.{with_text, without_text}
use Rattle.dues.proofs.value_due.Goals as goal

pub returns-in-Text : goal.returns-in-Text
returns-in-Text c = λ q g. with_text _ _ _ q g _ c.in-Text.is _ (c.text_due.ensures q g)

pub returns : goal.returns
returns c = λ q g. without_text _ _ _ q g c.in_default.not-Text _ c.is_barred.ensures c.due_if-a.ensures c.is_wide.ensures c.due_if.ensures
