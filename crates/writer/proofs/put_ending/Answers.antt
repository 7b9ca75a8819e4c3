-- What closes a group, by the code of its section. Assumes nothing.
use native.Mathlib.Omega.{arith}
use Rattle.figures.proofs.Storing.{puts_none, puts_within}
use Rattle.writer.proofs.Walking.{walks_of, walks_still}
use Rattle.writer.proofs.LineLaws.{ending_other, ending_range, ending_unsure}
use Rattle.writer.proofs.put_ending.Goals as goal

pub returns-in-1 : goal.returns-in-1
returns-in-1 c = walks_of (ending_range c.args.c _ (omega arith) (omega arith)) c.put_range_end.ensures

pub put-place-requires : goal.put-place-requires
put-place-requires c = omega (arith, c.requires.3.fits)

pub returns-in-3 : goal.returns-in-3
returns-in-3 c =
    walks_of (ending_unsure c.args.c _ (omega arith) (omega arith)) (walks_still c.put-place.ensures c.requires.1 (λ k l. omega (arith, c.requires.2 k l)))

pub returns-in_default : goal.returns-in_default
returns-in_default c =
    walks_of (ending_other c.args.c _ (λ l. omega arith)) (walks_still (puts_within (omega arith) (puts_none _ _)) c.requires.1 (λ k l. omega (arith, c.requires.2 k l)))

pub returns-in_default-2 : goal.returns-in_default-2
returns-in_default-2 c =
    walks_of (ending_other c.args.c _ (λ l. omega arith)) (walks_still (puts_within (omega arith) (puts_none _ _)) c.requires.1 (λ k l. omega (arith, c.requires.2 k l)))
