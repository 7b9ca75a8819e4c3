-- An answer that tells whether a fact holds.
use Rattle.std.specs.Prelude.{◌≡◌, Bool, true}

pub record Tells (r : Bool) (A : Type 0) : Type 0 where
  pub on : r ≡ true → A
  pub back : A → r ≡ true
