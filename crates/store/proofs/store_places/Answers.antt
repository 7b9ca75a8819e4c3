use native.Mathlib.Omega.{arith}
use Rattle.store.proofs.PlacesLaws.{placing_start, placing_ends, placing_next, placing_end}
use Rattle.store.proofs.store_places.Goals as goal

pub loop-j-init : goal.loop-j-init
loop-j-init c = placing_start _ _ _ _ _

pub put_site-requires : goal.put_site-requires
put_site-requires c = (c.requires.1.few_brackets_lem, omega (arith, c.requires.1.few))

pub overflow_add-i : goal.overflow_add-i
overflow_add-i c = omega (arith, placing_ends c.loop-j.invariant c.requires (omega arith) c.site_at-s.ensures)

pub loop-j-preserved : goal.loop-j-preserved
loop-j-preserved c =
    placing_next c.loop-j.invariant c.requires (omega arith) c.site_at-s.ensures c.put_site.ensures

pub returns : goal.returns
returns c = placing_end c.loop-j.invariant _ c.put_places.ensures (omega arith)
