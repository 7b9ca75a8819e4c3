-- The area from there on begins with the bytes. Assumes nothing.
use native.Mathlib.Omega.{arith}
use Rattle.held.proofs.Places.{tells_begins}
use Rattle.held.proofs.stands.Goals as goal

pub returns : goal.returns
returns c = tells_begins c.args.bytes.now c.args.at _ c.args.text.now (omega (arith, c.told-bytes)) c.starts_with.ensures.value
