-- An answer that decides a fact.
use Rattle.std.specs.Prelude.{◌≡◌, Bool, true, false}

-- A where the answer is yes, and not A where it is no
abbrev pub Verdict : Bool → Type 0 → Type 0
Verdict true A = A
Verdict false A = A → ⊥

pub yes : {r : Bool} (A : Type 0) → Verdict r A → r ≡ true → A
yes {r} A v e = rw e at v

pub no : {r : Bool} (A : Type 0) → Verdict r A → r ≡ false → A → ⊥
no {r} A v e = rw e at v

-- a fact that holds exactly when another does is decided by the same answer
pub decides : {A B : Type 0} (r : Bool) → (A → B) → (B → A) → Verdict r A → Verdict r B
decides true f g v = f v
decides false f g v = λ b. v (g b)
