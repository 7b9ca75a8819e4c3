-- Runs of bytes of one class.
use Rattle.std.specs.Prelude.{ℕ, suc, Bool, cond, List, [], ◌∷◌}

-- how many bytes of the class the list begins with
unfoldable pub span : (ℕ → Bool) → List ℕ → ℕ
span p [] = 0
span p (b ∷ l) = cond (p b) (suc (span p l)) 0
