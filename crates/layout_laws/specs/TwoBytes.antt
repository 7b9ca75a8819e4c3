-- A number in two bytes, low byte first: both are bytes where the number is below `wide_limit`, and together they give it back.
use Rattle.std.specs.Prelude.{◌≡◌, ℕ, ◌+◌, ◌*◌, ◌/◌, ◌%◌, ◌<◌}
use Rattle.std.proofs.Common.{arith}
use Rattle.std.proofs.Math.Nat.{mod-add-div}
use Rattle.scope.specs.Bytes.{byte_limit, wide_limit}
use Rattle.scope.specs.Layout.{two_bytes}
use Rattle.basics.specs.Each.{Each}
use Rattle.accepted_laws.specs.Within.{Byte}

pub wide_back : (n : ℕ) → n % byte_limit + byte_limit * (n / byte_limit) ≡ n
wide_back n = mod-add-div n byte_limit

pub wide_bytes : (n : ℕ) → n < wide_limit → Each Byte (two_bytes n)
wide_bytes n h = (omega arith, (omega arith, tt))
