use borrow.Author.Rules.{rules}
use native.Mathlib.Omega.{arith}
use Rattle.held.proofs.SitesLaws.{siting_start, siting_ends, siting_next, siting_end}
use Rattle.held.proofs.sites_held.Goals as goal

pub loop-j-init : goal.loop-j-init
loop-j-init c = siting_start _ _ _ _ _

pub site-requires : goal.site-requires
site-requires c = (c.requires.1.few_brackets_lem, omega (arith, c.requires.1.few))

pub overflow_add-i : goal.overflow_add-i
overflow_add-i c = omega (arith, siting_ends c.loop-j.invariant (search rules) c.requires (omega arith) c.site_at-s.ensures)

pub loop-j-preserved : goal.loop-j-preserved
loop-j-preserved c = siting_next c.loop-j.invariant (search rules) c.requires (omega arith) c.site_at-s.ensures c.site.ensures

pub returns : goal.returns
returns c = siting_end c.loop-j.invariant (search rules) (omega arith)
