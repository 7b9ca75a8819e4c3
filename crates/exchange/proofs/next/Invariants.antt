-- `exchange::next` meets its contract. The loop's invariant: nothing comes after w that agrees with it below i. The first floater from the last one back that can stand
-- higher, with the further copies of its bracket behind it above where it stands now, is found by one exchange; the least placement of that kind is the one after w.
use Rattle.placement_laws.specs.Standing.{place}
use Rattle.exchange.specs.Table.{may_in, mark_in}
use Rattle.exchange.proofs.Least.{Nothing}
use Rattle.exchange.proofs.next.Given as goal

abbrev pub invariant-loop-i : goal.invariant-loop-i
invariant-loop-i l = Nothing (may_in l.tab) (mark_in l.copy) l.k l.i (place l.w.at)
