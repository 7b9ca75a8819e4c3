-- Numbers in bytes, over any width: bytes that a number is written in stand for it, and one changed byte stands for another number.
use Rattle.std.specs.Prelude.{ℕ, zero, suc, ◌+◌, ◌*◌, ◌/◌, ◌%◌, ◌^◌, ◌<◌, ◌≡◌, refl, List, [], ◌∷◌, length, get_or, set}
use Rattle.std.proofs.Common.{ap, ◌∙◌, mod-lt, div-lt_iff_lt-mul, pow-suc, arith}
use Rattle.std.proofs.Math.Nat.{div-add-mod}
use Rattle.scope.specs.Bytes.{byte_limit}
use Rattle.basics.specs.Each.{Each}
use Rattle.blocks.specs.LowFirst.{little, low_first}

pub low_length : (w n : ℕ) → length (low_first w n) ≡ w
unfolding low_first
low_length zero n = refl
low_length (suc w) n = ap suc (low_length w (n / byte_limit))

pub low_bytes : (w n : ℕ) → Each (λ b. b < byte_limit) (low_first w n)
unfolding low_first
low_bytes zero n = tt
low_bytes (suc w) n = (mod-lt n (omega arith), low_bytes w (n / byte_limit))

pub little_low : (w n : ℕ) → n < byte_limit ^ w → little (low_first w n) ≡ n
unfolding little low_first
little_low zero n h = omega arith
little_low (suc w) n h =
    let less : n / byte_limit < byte_limit ^ w = (div-lt_iff_lt-mul {k = byte_limit} (omega arith)).1 (omega (arith, pow-suc byte_limit w)) in
    ap (λ m. n % byte_limit + byte_limit * m) (little_low w (n / byte_limit) less) ∙ omega (arith, div-add-mod n byte_limit)

-- equal numbers, equal bytes: at any index
pub little_one : (l : List ℕ) (i c : ℕ) → i < length l → little (set l i c) ≡ little l → c ≡ get_or l i 0
unfolding little
little_one [] i c h e = absurd (omega arith)
little_one (b ∷ l) zero c h e = omega arith
little_one (b ∷ l) (suc i) c h e = little_one l i c (omega arith) (omega arith)
