-- Texts in upper case and from the right, split at a place; and a name that ends one. Assumes nothing.
use Rattle.std.proofs.Common.{◌≡◌, refl, sym, ap, ap₂, ◌∙◌, arith, Bool, true, List, [], ◌∷◌, ◌++◌, ℕ, suc, ◌-◌, ◌≤◌, ◌<◌, eqb, leb, map, reverse, length, get_or, take, drop, length-drop, drop-cons, eqb-true, eq-eqb}
use Rattle.std.proofs.lemmas.Bool.{false≢true, lt-leb}
use mathlib.Core.List.{map-append, reverse-append, reverse-reverse}
use lib.ListN.{length-map, length-reverse, take-append-drop}
use lib.Seq.{take_all}
use Rattle.scope.specs.Bytes.{upper, same_folded}
use Rattle.scope.specs.Lists.{part}
use Rattle.basics.specs.Tests.{and_left, and_right, both, falsely, same_test}
use Rattle.glycan_laws.specs.Back.{is_front}
use Rattle.glycans.specs.Cut.{back}

-- ---- parts
pub part_whole : (s : List ℕ) → part 0 (length s - 0) s ≡ s
part_whole s = take_all (length s - 0) s (omega arith)

pub back_length : (t : List ℕ) → length (back t) ≡ length t
back_length t = length-reverse (map upper t) ∙ length-map t upper

pub back_split : (t : List ℕ) (m : ℕ) → back t ≡ back (drop m t) ++ back (take m t)
back_split t m =
    ap back (sym (take-append-drop m t))
    ∙ ap reverse (map-append upper (take m t) (drop m t))
    ∙ reverse-append (map upper (take m t)) (map upper (drop m t))

pub back_cons : (t : List ℕ) → 0 < length t → back t ≡ upper (get_or t (length t - 1) 0) ∷ back (take (length t - 1) t)
back_cons t h =
    let last : drop (length t - 1) t ≡ get_or t (length t - 1) 0 ∷ drop (suc (length t - 1)) t = drop-cons t (length t - 1) 0 (omega arith) in
    let none : drop (suc (length t - 1)) t ≡ [] = nothing (drop (suc (length t - 1)) t) (omega (arith, length-drop (suc (length t - 1)) t)) in
    back_split t (length t - 1) ∙ ap (λ z. back z ++ back (take (length t - 1) t)) (last ∙ ap (λ z. get_or t (length t - 1) 0 ∷ z) none)
  where
    nothing : (l : List ℕ) → length l ≡ 0 → l ≡ []
    nothing [] e = refl
    nothing (x ∷ l) e = absurd (omega arith)

-- ---- what begins a text from the right
pub front_length : (n t : List ℕ) → is_front n t ≡ true → length n ≤ length t
unfolding is_front
front_length [] t e = omega arith
front_length (x ∷ n) [] e = absurd (false≢true e)
front_length (x ∷ n) (y ∷ t) e = let h = front_length n t (and_right (eqb x y) (is_front n t) e) in omega arith

front_self : (n t : List ℕ) → is_front n (n ++ t) ≡ true
unfolding is_front
front_self [] t = refl
front_self (x ∷ n) t = both (eqb x x) (is_front n (n ++ t)) (eq-eqb x x refl) (front_self n t)

front_same : (n m t : List ℕ) → length n ≡ length m → is_front n (m ++ t) ≡ true → n ≡ m
unfolding is_front
front_same [] [] t h e = refl
front_same [] (y ∷ m) t h e = absurd (omega arith)
front_same (x ∷ n) [] t h e = absurd (omega arith)
front_same (x ∷ n) (y ∷ m) t h e =
    ap₂ ◌∷◌ (eqb-true x y (and_left (eqb x y) (is_front n (m ++ t)) e)) (front_same n m t (omega arith) (and_right (eqb x y) (is_front n (m ++ t)) e))

-- "in either case"
folded_is : (n m : List ℕ) → same_folded n m ≡ true → map upper n ≡ map upper m
unfolding same_folded
folded_is [] [] e = refl
folded_is [] (y ∷ m) e = absurd (false≢true e)
folded_is (x ∷ n) [] e = absurd (false≢true e)
folded_is (x ∷ n) (y ∷ m) e =
    ap₂ ◌∷◌ (eqb-true (upper x) (upper y) (and_left (eqb (upper x) (upper y)) (same_folded n m) e)) (folded_is n m (and_right (eqb (upper x) (upper y)) (same_folded n m) e))

is_folded : (n m : List ℕ) → map upper n ≡ map upper m → same_folded n m ≡ true
unfolding same_folded
is_folded [] [] e = refl
is_folded [] (y ∷ m) e = cc
is_folded (x ∷ n) [] e = cc
is_folded (x ∷ n) (y ∷ m) e =
    let head : upper x ≡ upper y = cc in
    let tail : map upper n ≡ map upper m = cc in
    both (eqb (upper x) (upper y)) (same_folded n m) (eq-eqb (upper x) (upper y) head) (is_folded n m tail)

folded_front : (n v t : List ℕ) → length n ≡ length v → same_folded n v ≡ is_front (reverse (map upper n)) (reverse (map upper v) ++ t)
folded_front n v t h = same_test (same_folded n v) (is_front (reverse (map upper n)) (reverse (map upper v) ++ t)) there back_again
  where
    there : same_folded n v ≡ true → is_front (reverse (map upper n)) (reverse (map upper v) ++ t) ≡ true
    there e = ap (λ z. is_front (reverse z) (reverse (map upper v) ++ t)) (folded_is n v e) ∙ front_self (reverse (map upper v)) t

    long : (l : List ℕ) → length (reverse (map upper l)) ≡ length l
    long l = length-reverse (map upper l) ∙ length-map l upper

    back_again : is_front (reverse (map upper n)) (reverse (map upper v) ++ t) ≡ true → same_folded n v ≡ true
    back_again e =
        let same = front_same (reverse (map upper n)) (reverse (map upper v)) t (long n ∙ h ∙ sym (long v)) e in
        is_folded n v (sym (reverse-reverse (map upper n)) ∙ ap reverse same ∙ reverse-reverse (map upper v))

-- ---- a name ends a text
pub ends_not : (n t : List ℕ) → length t < length n → leb (length n) (length t) ≡ is_front (back n) (back t)
ends_not n t h =
    lt-leb _ _ h
    ∙ sym (falsely (is_front (back n) (back t)) (λ e. absurd (omega (arith, front_length (back n) (back t) e, back_length n, back_length t))))

pub ends_so : (n t : List ℕ) {b : Bool} → length n ≤ length t → b ≡ same_folded n (part (length t - length n) (length n) t) → b ≡ is_front (back n) (back t)
ends_so n t h e =
    let v = drop (length t - length n) t in
    let long : length v ≡ length n = omega (arith, length-drop (length t - length n) t) in
    e
    ∙ ap (same_folded n) (take_all (length n) v (omega arith))
    ∙ folded_front n v (back (take (length t - length n) t)) (sym long)
    ∙ ap (is_front (back n)) (sym (back_split t (length t - length n)))
