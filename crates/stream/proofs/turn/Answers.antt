-- `stream::turn` meets its contract: a read that brought something, or nothing, or failed. Assumes nothing.
use mathlib.Core.Path.{◌≡◌}
use native.Mathlib.Omega.{arith}
use lib.ListN.{length}
use borrow.Author.Rules.{rules}
use Rattle.stream.proofs.Turning.{front_fits, turns_front, turns_failed}
use Rattle.stream.proofs.turn.Goals as goal

pub take_in-requires : goal.take_in-requires
take_in-requires g c =
    let same : length c.receive.new.room ≡ length c.args.room.now = search rules in
    (front_fits c.in-Some.n _ (omega (arith, c.requires.0, same)), c.requires.1, c.requires.2, c.requires.3)

pub returns-in-Some : goal.returns-in-Some
returns-in-Some g c = turns_front c.in-Some.n c.take_in.ensures

pub returns-in-None : goal.returns-in-None
returns-in-None g c = turns_failed
