-- What stands at the front of a room: a canonical line, or a placement and a canonical line behind it. Assumes nothing.
use mathlib.Core.Path.{◌≡◌, refl, ap, ◌∙◌}
use mathlib.Core.Bool.{◌&&◌}
use lib.Dec.{eqb}
use lib.Pointwise.{pointwise}
use mathlib.Core.List.{List, [], ◌∷◌, ◌++◌}
use Prim.Native.Nat.{ℕ, ◌+◌, ◌-◌, ◌≤◌}
use native.Mathlib.Omega.{arith}
use lib.ListN.{length, take, drop, length-append, length-drop}
use lib.Seq.{take_all, take_at, take-append-add, take-append_seam}
use Rattle.scope.specs.Lists.{same, laid}
use Rattle.figures.specs.Written.{Puts}
use Rattle.figures.proofs.Storing.{stored_from, stored_whole}
use Rattle.writer.specs.Written.{WholeLine}
use Rattle.writer.proofs.LineLaws.{line_laid}

-- all that stands behind a front
pub rest_part : (n : ℕ) (c : List ℕ) → take (length c - n) (drop n c) ≡ drop n c
rest_part n c = let e = length-drop n c in take_all (length c - n) (drop n c) (omega arith)

-- what std's comparison of two slices answers
pub same_slices : (x y : List ℕ) → pointwise eqb x y ≡ same x y
unfolding same
same_slices [] [] = refl
same_slices [] (b ∷ y) = refl
same_slices (a ∷ x) [] = refl
same_slices (a ∷ x) (b ∷ y) = ap (λ t. eqb a b && t) (same_slices x y)

-- a line that an output has room for
pub line_front : {c o left : List ℕ} {r n : ℕ} → WholeLine c o left r → r ≡ n → n ≤ length o → take n left ≡ c
line_front {c} {o} {left} {r} {n} w e h =
    let long = w.long in
    ap (take n) (line_laid w (omega arith)) ∙ take_at c (drop (length c) o) n (omega arith)

-- what was put behind a front
module _ (front room : List ℕ) {o c left : List ℕ} {n m r : ℕ} (e : o ≡ laid front room) (long : length front ≡ n) (w : Puts m o n c left r) (fits : n + length c ≤ length room) where
  behind : take (length (drop n o)) c ++ drop (length c) (drop n o) ≡ c ++ drop (length c) (drop n o)
  behind =
      let a = ap length e ∙ length-append front (drop (length front) room) in
      let b = length-drop (length front) room in
      let d = length-drop n o in
      ap (λ t. t ++ drop (length c) (drop n o)) (take_all (length (drop n o)) c (omega arith))

  pub front_whole : take r left ≡ front ++ c
  front_whole =
      let ends : r ≡ length front + length c = omega (arith, w.ends) in
      let rest = drop (length c) (drop n o) in
      ap (take r) (w.holds ∙ stored_from n o c ∙ ap (λ t. take n o ++ t) (stored_whole (drop n o) c ∙ behind))
      ∙ ap (λ t. take r (t ++ (c ++ rest))) (ap (take n) e ∙ take_at front (drop (length front) room) n long)
      ∙ ap (λ k. take k (front ++ (c ++ rest))) ends
      ∙ take-append-add front (c ++ rest) (length c)
      ∙ ap (λ t. front ++ t) (take-append_seam c rest)
