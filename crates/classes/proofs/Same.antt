-- Two texts are the same, byte for byte and in either case, as std tests them. Assumes nothing.
use Prim.Native.Nat.{ℕ, ◌+◌, ◌-◌}
use mathlib.Core.Path.{◌≡◌, refl, sym, ap, ap₂, ◌∙◌}
use mathlib.Core.Bool.{◌&&◌, false≢true}
use mathlib.Core.List.{List, [], ◌∷◌, map, head-eq_of_cons-eq, tail-eq_of_cons-eq}
use native.Mathlib.Omega.{arith}
use lib.Dec.{eqb, ltb}
use lib.ListN.{length, take, drop}
use lib.Pointwise.{pointwise}
use borrow.Author.Tests.{eq-eqb, eqb-true, ltb-true, ltb-false, le-leb, lt-leb, lt-ltb, le-ltb}
use Rattle.std.specs.Bool.{Decides}
use Rattle.std.specs.Char.{to_ascii_uppercase, to_ascii_lowercase}
use Rattle.std.proofs.lemmas.Str.Ascii.{lowercase-uppercase}
use Rattle.basics.specs.Choice.{by_test}
use Rattle.basics.specs.Tests.{both_of}
use Rattle.scope.specs.Bytes.{upper, same_folded}
use Rattle.scope.specs.Lists.{same, part}

-- ---- byte for byte
pub same_is : (xs ys : List ℕ) → pointwise eqb xs ys ≡ same xs ys
unfolding same
same_is [] [] = refl
same_is [] (y ∷ m) = refl
same_is (x ∷ l) [] = refl
same_is (x ∷ l) (y ∷ m) = ap (λ b. eqb x y && b) (same_is l m)

-- a part of a line, by where it ends
pub part_is : (s : List ℕ) (a n : ℕ) → take (a + n - a) (drop a s) ≡ part a n s
part_is s a n =
    let e : a + n - a ≡ n = omega arith in
    rw e

-- ---- in either case
pub upper_is : (c : ℕ) → to_ascii_uppercase c ≡ upper c
unfolding upper
upper_is c =
    by_test (ltb c 97)
    (λ t. let h = ltb-true c 97 t in rw (t, lt-leb 97 c h))
    (λ t. let h = ltb-false c 97 t in
    by_test (ltb c 123)
    (λ u. let k = ltb-true c 123 u in rw (t, u, le-leb 97 c h, le-leb c 122 (omega arith)))
    (λ u. let k = ltb-false c 123 u in rw (t, u, le-leb 97 c h, lt-leb c 122 (omega arith))))

uppercase_lowercase : (c : ℕ) → to_ascii_uppercase (to_ascii_lowercase c) ≡ to_ascii_uppercase c
uppercase_lowercase c =
    by_test (ltb c 65) (λ t. rw t)
    (λ t. by_test (ltb c 91)
    (λ u. let h = ltb-true c 91 u in
    let k = ltb-false c 65 t in
    let back : c + 32 - 32 ≡ c = omega arith in
    rw (t, u, le-ltb (c + 32) 97 (omega arith), lt-ltb (c + 32) 123 (omega arith), lt-ltb c 97 (omega arith), back))
    (λ u. rw (t, u)))

lower_of : (x y : ℕ) → upper x ≡ upper y → to_ascii_lowercase x ≡ to_ascii_lowercase y
lower_of x y e = sym (lowercase-uppercase x) ∙ ap to_ascii_lowercase (upper_is x ∙ e ∙ sym (upper_is y)) ∙ lowercase-uppercase y

upper_of : (x y : ℕ) → to_ascii_lowercase x ≡ to_ascii_lowercase y → upper x ≡ upper y
upper_of x y e = sym (upper_is x) ∙ sym (uppercase_lowercase x) ∙ ap to_ascii_uppercase e ∙ uppercase_lowercase y ∙ upper_is y

abbrev lowered : List ℕ → List ℕ
lowered l = map to_ascii_lowercase l

pub folded_Decides : (xs ys : List ℕ) → Decides (same_folded xs ys) (lowered xs ≡ lowered ys)
unfolding same_folded
folded_Decides [] [] = (λ e. refl, λ e. refl)
folded_Decides [] (y ∷ m) = (λ e. absurd (false≢true e), λ e. absurd (let n = ap length e in omega arith))
folded_Decides (x ∷ l) [] = (λ e. absurd (false≢true e), λ e. absurd (let n = ap length e in omega arith))
folded_Decides (x ∷ l) (y ∷ m) =
    let ih = folded_Decides l m in (
      λ e. let p = both_of (eqb (upper x) (upper y)) (same_folded l m) e in ap₂ (λ b t. b ∷ t) (lower_of x y (eqb-true (upper x) (upper y) p.0)) (ih.0 p.1),
      λ e. rw (eq-eqb (upper x) (upper y) (upper_of x y (head-eq_of_cons-eq e)), ih.1 (tail-eq_of_cons-eq e)),
    )
