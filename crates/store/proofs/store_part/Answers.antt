-- `store::store_part` meets its contract: a composition, or as it is noted. Assumes nothing.
use mathlib.Core.Path.{sym, ◌∙◌}
use Rattle.store.proofs.PutRows.{composed_fits, noted_fits}
use Rattle.store.proofs.store_part.Goals as goal

pub is_composition-requires : goal.is_composition-requires
is_composition-requires c = c.requires.few_rows

pub store_composition-requires : goal.store_composition-requires
store_composition-requires c = composed_fits c.requires (sym c.is_composition.ensures ∙ c.if-is_composition.true)

pub store_noted-requires : goal.store_noted-requires
store_noted-requires c = noted_fits c.requires (sym c.is_composition.ensures ∙ c.if-is_composition.false)
