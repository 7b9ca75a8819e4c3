-- Elements put at a place one after another, and how long a part of a list is.
use mathlib.Core.Path.{◌≡◌, sym, ap, ◌∙◌}
use mathlib.Core.List.{List, [], ◌∷◌, ◌++◌, append_assoc}
use Prim.Native.Nat.{ℕ, suc, ◌+◌, ◌-◌, ◌≤◌}
use native.Mathlib.Nat.{add-zero}
use native.Mathlib.Omega.{arith}
use lib.ListN.{length, take, drop, set, length-take, length-drop}
use lib.Seq.{sets, sets-eq, drop-drop}
use Rattle.scope.specs.Lists.{part}
use borrow.Rule.Slice.PartMut.{put_mid}

pub sets_snoc : {A : Type 0} (d : List A) (n : ℕ) (l : List A) (v : A) → sets d n (l ++ (v ∷ [])) ≡ set (sets d n l) (n + length l) v
sets_snoc d n [] v = ap (λ i. set d i v) (sym (add-zero n))
sets_snoc d n (x ∷ l) v =
    let e : suc n + length l ≡ n + suc (length l) = omega arith in
    sets_snoc (set d n x) (suc n) l v ∙ ap (λ i. set (sets (set d n x) (suc n) l) i v) e

pub sets_append : {A : Type 0} (d : List A) (n : ℕ) (l m : List A) → sets d n (l ++ m) ≡ sets (sets d n l) (n + length l) m
sets_append d n [] m = ap (λ i. sets d i m) (sym (add-zero n))
sets_append d n (x ∷ l) m =
    let e : suc n + length l ≡ n + suc (length l) = omega arith in
    sets_append (set d n x) (suc n) l m ∙ ap (λ i. sets (sets (set d n x) (suc n) l) i m) e

pub part_length : {A : Type 0} (a n : ℕ) (s : List A) → a + n ≤ length s → length (part a n s) ≡ n
part_length a n s h = omega (arith, length-take n (drop a s), length-drop a s)

-- what is written to a part of an area
pub put_at : {A : Type 0} (d : List A) (n : ℕ) (l : List A) → n + length l ≤ length d → put_mid n (n + length l - n) d l ≡ sets d n l
put_at d n l h =
    let k : n + length l - n ≡ length l = omega arith in
    ap (λ z. take n d ++ (l ++ z)) (ap (λ i. drop i (drop n d)) k ∙ drop-drop (length l) n d)
    ∙ sym (append_assoc (take n d) l (drop (n + length l) d))
    ∙ sym (sets-eq l d n h)
