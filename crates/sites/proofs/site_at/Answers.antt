-- A letter, or a terminus; where none stands, nothing is asked.
use mathlib.Core.Path.{sym, ◌∙◌}
use Rattle.sites.proofs.Termini.{site_past, site_letter, site_word}
use Rattle.sites.proofs.site_at.Goals as goal

pub returns-then-line-at : goal.returns-then-line-at
returns-then-line-at c = site_past _ _ _ _ c.if-line-at.true

pub returns-in-None : goal.returns-in-None
returns-in-None c = site_letter _ _ _ (sym c.terminus_at.ensures ∙ c.in-None.is) c.upper.ensures

pub returns-in-Some : goal.returns-in-Some
returns-in-Some c = site_word _ _ _ (sym c.terminus_at.ensures ∙ c.in-Some.is)
