-- Worked examples of numbers, by computation.
use Rattle.std.specs.Prelude.{◌≡◌, refl, true, false, ℕ, ℤ, pos, neg_ℤ, Some, None, Result, Ok, Err}
use Rattle.scope.specs.Bytes.{bytes}
use Rattle.scope.specs.Content.{signed, digit_step, number_end}
use Rattle.numerals.specs.declared.Num.{Num}
use Rattle.scope.specs.declared.grammar.Stuck.{Stuck}
use Rattle.numerals.specs.Numerals.{scan_number, num_of, digits_from}

abbrev value : ℤ → ℕ → ℕ → Result Num Stuck
value m d i = Ok (record { number = Some (record { millionths = m; decimals = d }); next = i })

abbrev wide : ℕ → Result Num Stuck
wide i = Ok (record { number = None; next = i })

abbrev none_at : ℕ → Result Num Stuck
none_at i = Err (record { at = i })

table :
    (num_of (scan_number 0 (signed false) (bytes "15.995]") 1) ≡ value (pos 15995000) 3 7)
    × (num_of (scan_number 0 (signed true) (bytes "18.01]") 1) ≡ value (neg_ℤ (pos 18010000)) 2 6)
    × (num_of (scan_number 0 (signed false) (bytes "000000000000000000000000000001.50") 1) ≡ value (pos 1500000) 2 34)
    × (num_of (scan_number 0 (signed false) (bytes "999999.999999") 1) ≡ value (pos 999999999999) 6 14)
    × (num_of (scan_number 0 (signed false) (bytes "1000000") 1) ≡ wide 8)
    × (num_of (scan_number 0 (signed false) (bytes "1.0000000]") 1) ≡ wide 10)
    × (num_of (scan_number 0 (signed true) (bytes "0") 1) ≡ value (pos 0) 0 2)
    × (num_of (scan_number 0 (signed false) (bytes "1.]") 1) ≡ none_at 3)
    × (num_of (scan_number 0 (signed false) (bytes ".5") 1) ≡ none_at 1)
    × (digits_from 0 (bytes "012?") ≡ 12)
unfolding scan_number digit_step number_end digits_from
table = (refl, refl, refl, refl, refl, refl, refl, refl, refl, refl)
