-- From a place on an area goes on with a list: with one behind another, with one element in front, and element by element as a loop looks at them.
use mathlib.Core.Path.{◌≡◌, refl, sym, ap, subst, ◌∙◌}
use mathlib.Core.Bool.{Bool, true, ◌&&◌}
use mathlib.Core.List.{List, [], ◌∷◌, ◌++◌, append_assoc}
use Prim.Native.Nat.{ℕ, suc, ◌+◌, ◌-◌, ◌≤◌, ◌<◌}
use native.Mathlib.Nat.{add-zero}
use native.Mathlib.Omega.{arith}
use lib.Dec.{eqb}
use lib.ListN.{length, get_or, take, drop, replicate, length-drop}
use lib.Pointwise.{pointwise}
use borrow.Rule.Slice.PartMut.{mid_of}
use Rattle.std.proofs.lemmas.Bool.Decides.{Decides-eqb}
use Rattle.std.proofs.lemmas.Slice.Eq.{starts_is}
use lib.Seq.{drop-drop, drop_at, drop-cons, drop-length, take_all}
use Rattle.scope.specs.Lists.{padded}
use Rattle.held.specs.Tells.{Tells}
use Rattle.layout_laws.specs.At.{At, at_head, at_first, at_next}
use Rattle.held.proofs.Joins.{tells_itself, tells_both, Joins, Left, left_more, left_end}

module _ {A : Type 0} (xs : List A) where
  pub at_nil : (n : ℕ) → At xs n []
  at_nil n = record { rest = drop n xs; is = refl }

  pub at_move : {n : ℕ} {l : List A} (o : ℕ) → o ≡ n → At xs n l → At xs o l
  at_move {n} {l} o e a = subst (λ i. At xs i l) (sym e) a

  -- one list behind another
  pub at_joins : (n o : ℕ) (l m : List A) → o ≡ n + length l → Joins (At xs n l) (At xs o m) (At xs n (l ++ m))
  at_joins n o l m e = record { on = on; back = λ a. (at_first xs n l m a, at_next xs n l m (length l) o refl e a) }
    where
      on : At xs n l → At xs o m → At xs n (l ++ m)
      on a b =
          let goes_on_lem : a.rest ≡ m ++ b.rest =
          sym (drop_at l a.rest (length l) refl) ∙ ap (drop (length l)) (sym a.is) ∙ drop-drop (length l) n xs ∙ ap (λ i. drop i xs) (sym e) ∙ b.is in
          record { rest = b.rest; is = a.is ∙ ap (λ z. l ++ z) goes_on_lem ∙ sym (append_assoc l m b.rest) }

  -- one element in front
  pub at_cons : (d x : A) (n o : ℕ) (l : List A) → o ≡ n + 1 → n < length xs → Joins (get_or xs n d ≡ x) (At xs o l) (At xs n (x ∷ l))
  at_cons d x n o l e h = record { on = on; back = λ a. (at_head xs n x l a d, at_next xs n (x ∷ []) l 1 o refl e a) }
    where
      on : get_or xs n d ≡ x → At xs o l → At xs n (x ∷ l)
      on q a =
          let one : suc n ≡ o = omega arith in
          record { rest = a.rest; is = drop-cons xs n d h ∙ ap (λ y. y ∷ drop (suc n) xs) q ∙ ap (λ i. x ∷ drop i xs) one ∙ ap (λ z. x ∷ z) a.is }

  -- unused room behind elements
  pub at_padded : (z : A) (room n o q : ℕ) (l : List A) → o ≡ n + length l → q ≡ room - length l → Joins (At xs n l) (At xs o (replicate q z)) (At xs n (padded z room l))
  at_padded z room n o q l e f =
      subst (λ k. Joins (At xs n l) (At xs o (replicate k z)) (At xs n (padded z room l))) (sym f) (at_joins n o l (replicate (room - length l) z) e)

-- a test whether it begins so
pub tells_begins : (xs : List ℕ) (n k : ℕ) (l : List ℕ) {r : Bool} → length xs ≤ n + k → r ≡ pointwise eqb l (take (length l) (mid_of n k xs)) → Tells r (At xs n l)
tells_begins xs n k l {r} h e =
    let whole : mid_of n k xs ≡ drop n xs = take_all k (drop n xs) (omega (arith, length-drop n xs)) in
    let begins = starts_is (λ x y. Decides-eqb x y) (mid_of n k xs) l r e in
    record { on = λ q. record { rest = _; is = sym whole ∙ begins.0 q }; back = λ a. begins.1 a.rest (whole ∙ a.is) }

-- ---- a loop over the elements: those from i on are left
pub record Matched {A : Type 0} (b l : List A) (at n i : ℕ) (so : Bool) : Type 0 where
  pub long : length l ≡ n
  pub room : at + n ≤ length b
  pub inside : i ≤ n
  pub left : Left so (At b (at + i) (drop i l)) (At b at l)

pub matched_start : {A : Type 0} (b l : List A) (at n : ℕ) → length l ≡ n → at + n ≤ length b → Matched b l at n 0 true
matched_start b l at n e h =
    record {
      long = e;
      room = h;
      inside = omega arith;
      left = record { on = λ q a. at_move b at (sym (add-zero at)) a; back = λ a. (refl, at_move b (at + 0) (add-zero at) a) };
    }

module _ {A : Type 0} {b l : List A} {at n i : ℕ} {so : Bool} (w : Matched b l at n i so) where
  pub matched_more : {t : Bool} → i < n → (d x : A) → get_or l i d ≡ x → Tells t (get_or b (at + i) d ≡ x) → Matched b l at n (i + 1) (so && t)
  matched_more h d x e v =
      let one : suc i ≡ i + 1 = omega arith in
      let split : drop i l ≡ x ∷ drop (i + 1) l =
      drop-cons l i d (omega (arith, w.long)) ∙ ap (λ k. get_or l i d ∷ drop k l) one ∙ ap (λ y. y ∷ drop (i + 1) l) e in
      record {
        long = w.long;
        room = w.room;
        inside = omega arith;
        left =
            left_more w.left
            (subst (λ m. Joins (get_or b (at + i) d ≡ x) (At b (at + (i + 1)) (drop (i + 1) l)) (At b (at + i) m)) (sym split)
            (at_cons b d x (at + i) (at + (i + 1)) (drop (i + 1) l) (omega arith) (omega (arith, w.room))))
            (tells_both (tells_itself so) v);
      }

  pub matched_end : n ≤ i → Tells so (At b at l)
  matched_end h =
      let e : i ≡ length l = omega (arith, w.long, w.inside) in
      left_end w.left (subst (At b (at + i)) (sym (ap (λ k. drop k l) e ∙ drop-length l)) (at_nil b (at + i)))
