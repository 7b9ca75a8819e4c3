-- From a place on, a list goes on with another one: how rows of fixed size and packed texts are found in an area.
use Rattle.std.specs.Prelude.{◌≡◌, refl, List, ◌∷◌, ◌++◌, ℕ, ◌+◌, length, take, drop, get_or}
use Rattle.std.proofs.Common.{sym, ap, ◌∙◌, append_assoc, add-zero, get_or-drop, drop-drop, drop_at, take_at}

-- from the place n on, the list xs goes on with l
pub record At {A : Type 0} (xs : List A) (n : ℕ) (l : List A) : Type 0 where
  pub rest : List A
  pub is : drop n xs ≡ l ++ rest

module _ {A : Type 0} (xs : List A) where
  pub at_read : (n : ℕ) (l : List A) (a : At xs n l) (i : ℕ) (d : A) → get_or xs (n + i) d ≡ get_or (l ++ a.rest) i d
  at_read n l a i d = sym (get_or-drop n xs i d) ∙ ap (λ z. get_or z i d) a.is

  pub at_head : (n : ℕ) (x : A) (l : List A) → At xs n (x ∷ l) → (d : A) → get_or xs n d ≡ x
  at_head n x l a d = ap (λ z. get_or xs z d) (sym (add-zero n)) ∙ at_read n (x ∷ l) a 0 d

  pub at_first : (n : ℕ) (l m : List A) → At xs n (l ++ m) → At xs n l
  at_first n l m a = record { rest = m ++ a.rest; is = a.is ∙ append_assoc l m a.rest }

  pub at_next : (n : ℕ) (l m : List A) (q o : ℕ) → length l ≡ q → o ≡ n + q → At xs n (l ++ m) → At xs o m
  at_next n l m q o e f a =
      record {
        rest = a.rest;
        is = ap (λ z. drop z xs) f ∙ sym (drop-drop q n xs) ∙ ap (drop q) (a.is ∙ append_assoc l m a.rest) ∙ drop_at l (m ++ a.rest) q e;
      }

  pub at_part : (n : ℕ) (l : List A) → At xs n l → take (length l) (drop n xs) ≡ l
  at_part n l a = ap (take (length l)) a.is ∙ take_at l a.rest (length l) refl

pub at_start : {A : Type 0} (l w : List A) → At (l ++ w) 0 l
at_start l w = record { rest = w; is = refl }
