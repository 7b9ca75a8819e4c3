-- A line with its number, and what the register program prints for it.
use Rattle.std.specs.Prelude.{Bool, ℕ}
use Prim.Native.String.{String}
use Rattle.scope.specs.Bytes.{bytes}
use Rattle.scope.specs.Lists.{same}
use Rattle.scope.specs.Register.{printed}

pub record Sample : Type 0 where
  pub line : String
  pub number : ℕ
  pub printing : String

abbrev pub numbered : String → ℕ → String → Sample
numbered l n p = record { line = l; number = n; printing = p }

-- the first line
abbrev pub sample : String → String → Sample
sample l p = numbered l 1 p

abbrev pub agrees : Sample → Bool
agrees s = same (printed s.number (bytes s.line)) (bytes s.printing)
