-- How many powers of ten a number of 64 bits can be: 10^0 to 10^19.
use Rattle.std.specs.Prelude.{ℕ}

abbrev pub power_count : ℕ
power_count = 20
