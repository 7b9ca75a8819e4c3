-- `held::part_held` meets its contract: a composition, or as it is noted. Assumes nothing.
use mathlib.Core.Path.{sym, ◌∙◌}
use Rattle.store.proofs.PutRows.{composed_fits, noted_fits}
use Rattle.held.proofs.part_held.Goals as goal

pub is_composition-requires : goal.is_composition-requires
is_composition-requires c = c.requires.few_rows

pub composition_held-requires : goal.composition_held-requires
composition_held-requires c = composed_fits c.requires (sym c.is_composition.ensures ∙ c.if-is_composition.true)

pub noted_held-requires : goal.noted_held-requires
noted_held-requires c = noted_fits c.requires (sym c.is_composition.ensures ∙ c.if-is_composition.false)
