-- The text that an entry is.
use Prim.Native.Nat.{ℕ, ◌+◌, ◌≤◌}
use mathlib.Core.Path.{◌≡◌, ap, ◌∙◌, subst}
use mathlib.Core.List.{List, ◌++◌}
use native.Mathlib.Omega.{arith}
use lib.ListN.{length, take, drop}
use lib.Seq.{take_all, take-append_seam}
use Rattle.figures.specs.Written.{Puts}
use Rattle.figures.proofs.Storing.{stored_whole}
use Rattle.export.specs.Shapes.{Fitted}

-- the text that was put at the front of an output with room for it
pub put_text : {most : ℕ} {o t left : List ℕ} {r : ℕ} → Puts most o 0 t left r → most ≤ length o → take r left ≡ t
put_text {most} {o} {t} {left} {r} p h =
    let ends : r ≡ 0 + length t = p.ends in
    let near : r ≤ 0 + most = p.near in
    let long : r ≡ length t = omega arith in
    let whole : left ≡ t ++ drop (length t) o = p.holds ∙ stored_whole o t ∙ ap (λ l. l ++ drop (length t) o) (take_all (length o) t (omega arith)) in
    ap (λ n. take n left) long ∙ ap (take (length t)) whole ∙ take-append_seam t (drop (length t) o)

pub fitted_so : {said meant old new : List ℕ} {count number count' : ℕ} → said ≡ meant → Fitted said old count number count' new → Fitted meant old count number count' new
fitted_so {old = o} {new = n} {count = k} {number = r} {count' = k'} e h = subst (λ t. Fitted t o k r k' n) e h
