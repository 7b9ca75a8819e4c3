-- `placements::alone` meets its contract: `open_at` says whether s may stand where it stands, alone; a number past the positions is none where it may.
use native.Mathlib.Omega.{arith}
use borrow.Author.Tests.{le-ltb}
use Rattle.placement_laws.specs.Standing.{place}
use Rattle.exchange.proofs.Laws.{full_small}
use Rattle.placements.proofs.alone.Goals as goal

pub returns-else-x-lt-POSITIONS : goal.returns-else-x-lt-POSITIONS
returns-else-x-lt-POSITIONS c =
    rw (le-ltb _ _ c.if-x-lt-POSITIONS.false) (λ f. let z = full_small _ _ c.args.s (place c.args.w.now.at) f c.requires.1 in omega (arith, z, c.if-x-lt-POSITIONS.false))
