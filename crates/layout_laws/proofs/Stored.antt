-- A row that was put into an area lies there, and what lies outside it stays: for whoever puts rows and reads fields afterwards (Fields).
use Rattle.std.specs.Prelude.{◌≡◌, refl, List, [], ◌∷◌, ◌++◌, ℕ, suc, ◌+◌, ◌≤◌, ◌<◌, length, take, drop, get_or, set}
use Rattle.std.proofs.Common.{ap, ◌∙◌, append_assoc, arith, drop_at, length-take-le, get_or-set_other}
use Rattle.std.proofs.lemmas.List.Edits.{sets, sets-eq}
use Rattle.layout_laws.specs.At.{At}

module _ {A : Type 0} (xs : List A) where
  pub put_there : (n : ℕ) (l : List A) → n + length l ≤ length xs → At (sets xs n l) n l
  put_there n l h =
      record {
        rest = drop (n + length l) xs;
        is =
            ap (drop n) (sets-eq l xs n h ∙ append_assoc (take n xs) l (drop (n + length l) xs))
            ∙ drop_at (take n xs) (l ++ drop (n + length l) xs) n (length-take-le n xs (omega arith));
      }

pub before_stays : {A : Type 0} (xs : List A) (n : ℕ) (l : List A) (i : ℕ) (d : A) → i < n → get_or (sets xs n l) i d ≡ get_or xs i d
before_stays xs n [] i d h = refl
before_stays xs n (x ∷ l) i d h = before_stays (set xs n x) (suc n) l i d (omega arith) ∙ get_or-set_other xs n i x d (λ e. omega arith)

pub behind_stays : {A : Type 0} (xs : List A) (n : ℕ) (l : List A) (i : ℕ) (d : A) → n + length l ≤ i → get_or (sets xs n l) i d ≡ get_or xs i d
behind_stays xs n [] i d h = refl
behind_stays xs n (x ∷ l) i d h = behind_stays (set xs n x) (suc n) l i d (omega arith) ∙ get_or-set_other xs n i x d (λ e. omega arith)
