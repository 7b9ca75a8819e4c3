-- What was lent has room still: the tables are as long as they were, and the areas are as they were.
use mathlib.Core.Path.{sym, subst}
use mathlib.Core.List.{List}
use Prim.Native.Nat.{ℕ}
use lib.IntN.{ℤ}
use Rattle.store.specs.Filled.{Clean}
use Rattle.entries.specs.Entry.{Printed}

-- areas that are as they were are clean still
pub still_clean : {most : ℕ} {o : List ℕ} {at : ℕ} {t left : List ℕ} {r : ℕ} {bytes : List ℕ} {numbers : List ℤ} {bytes' : List ℕ} {numbers' : List ℤ}
    → Printed most o at t left r bytes numbers bytes' numbers' → Clean bytes numbers → Clean bytes' numbers'
still_clean {bytes = bytes} {numbers' = numbers'} p w =
    subst (λ z. Clean z numbers') (sym p.bytes_same) (subst (λ z. Clean bytes z) (sym p.numbers_same) w)
