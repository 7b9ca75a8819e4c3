-- `held::padded_held` meets its contract: the bytes, and the unused room behind them. Assumes nothing.
use mathlib.Core.Path.{refl}
use Prim.Native.Nat.{◌+◌, ◌-◌}
use lib.ListN.{length}
use Rattle.scope.specs.Limits.{residue_limit}
use Rattle.held.proofs.Joins.{tells_joined}
use Rattle.held.proofs.Places.{at_padded}
use Rattle.held.proofs.padded_held.Goals as goal

pub returns : goal.returns
returns c =
    let s = c.args in
    let l = s.from.now in
    tells_joined (at_padded s.bytes.now 0 residue_limit s.at (s.at + length l) (residue_limit - length l) l refl refl) c.stands.ensures c.zero_bytes.ensures
