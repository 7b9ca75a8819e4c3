-- `exchange::may` meets its contract: the byte of s at x is 1.
use mathlib.Core.Path.{sym}
use native.Mathlib.Omega.{arith}
use Rattle.exchange.proofs.Laws.{ok_is}
use Rattle.exchange.proofs.may.Goals as goal

pub returns : goal.returns
returns c = let p = c.requires in sym (ok_is c.args.tab.now c.args.s c.args.x (omega arith))
