-- Laws of the powers of ten. Assumes nothing.
use mathlib.Core.Path.{◌≡◌, ap, ◌∙◌}
use Prim.Native.Nat.{ℕ, ◌+◌, ◌-◌, ◌*◌, ◌^◌, ◌≤◌, ◌<◌}
use native.Mathlib.Nat.{one-le-pow, pow-le-pow_right}
use native.Mathlib.Omega.{arith}
use lib.Pow.{pow-add}

pub power_some : (d : ℕ) → 0 < 10 ^ d
power_some d = one-le-pow d 10 (omega arith)

pub power_up : {d n : ℕ} → d ≤ n → 10 ^ d ≤ 10 ^ n
power_up {d} {n} h = pow-le-pow_right {n = 10} (omega arith) {i = d} {j = n} h

pub power_few : (n d : ℕ) → 10 ^ (n - d) ≤ 10 ^ n
power_few n d = let h : n - d ≤ n = omega arith in power_up h

-- of n decimals, d and those that are left
pub power_split : {d n : ℕ} → d ≤ n → 10 ^ n ≡ 10 ^ d * 10 ^ (n - d)
power_split {d} {n} h = let e : n ≡ d + (n - d) = omega arith in ap (λ k. 10 ^ k) e ∙ pow-add 10 d (n - d)
