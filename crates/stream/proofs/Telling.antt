-- Laws of a failure, told: line ends are counted byte by byte, and a notice is its words, its number and the end of the line.
use mathlib.Core.Path.{◌≡◌, refl, sym, ap, ◌∙◌}
use mathlib.Core.Bool.{cond}
use mathlib.Core.List.{List, [], ◌∷◌, ◌++◌}
use Prim.Native.Nat.{ℕ, ◌+◌, ◌<◌, ◌≤◌}
use native.Mathlib.Omega.{arith}
use native.Mathlib.Numerals.{add-one}
use lib.Dec.{eqb}
use lib.ListN.{length, take, drop, get_or, length-append}
use lib.Seq.{take-suc, take_all}
use Rattle.scope.specs.Canonical.{decimal}
use Rattle.figures.specs.Written.{stored, Puts, decimal_most}
use Rattle.figures.proofs.Storing.{stored_append, stored_whole}
use Rattle.chunks.specs.Lines.{line_end}
use Rattle.chunks.specs.Puts.{Fronts}
use Rattle.chunks.proofs.Putting.{fronts}
use Rattle.stream.specs.Told.{line_ends, notice_room, noticed}

-- the ends among the first i bytes are counted
pub record EndsCounted (text : List ℕ) (i ends : ℕ) : Type 0 where
  pub are : ends ≡ line_ends (take i text)
  pub few : ends ≤ i

ends_append : (l : List ℕ) (b : ℕ) → line_ends (l ++ (b ∷ [])) ≡ line_ends l + cond (eqb b line_end) 1 0
unfolding line_ends
ends_append [] b = omega arith
ends_append (x ∷ l) b = omega (arith, ends_append l b)

pub counted_start : (text : List ℕ) → EndsCounted text 0 0
unfolding line_ends
counted_start text = record { are = refl; few = omega arith }

pub counted_more : {text : List ℕ} {i ends one : ℕ} → EndsCounted text i ends → i < length text → (one ≡ cond (eqb (get_or text i 0) line_end) 1 0) × (one ≤ 1)
    → EndsCounted text (i + 1) (ends + one)
counted_more {text} {i} {ends} {one} w l e =
    let b = get_or text i 0 in
    let one_more : take (i + 1) text ≡ take i text ++ (b ∷ []) = ap (λ z. take z text) (add-one i) ∙ take-suc text i 0 l in
    record {
      are = omega (arith, w.are, e.0, ends_append (take i text) b, ap line_ends one_more);
      few = omega (arith, w.few, e.1);
    }

-- words, a number and the end of the line, one behind the other
pub notice_fronts : (words : List ℕ) (number : ℕ) (out : List ℕ) {one two left : List ℕ} {a r : ℕ} → length words + notice_room ≤ length out
    → one ≡ words ++ drop (length words) out → Puts decimal_most one (length words) (decimal number) two a → Puts 1 two a (line_end ∷ []) left r
    → length left ≡ length out → Fronts (noticed words number) out left r
notice_fronts words number out {one} {two} {left} {a} {r} h e p q l =
    let d = decimal number in
    let n = length words in
    let from_front : n ≡ 0 + n = omega arith in
    let begins : one ≡ stored out 0 words =
    e ∙ ap (λ z. z ++ drop n out) (sym (take_all (length out) words (omega arith))) ∙ sym (stored_whole out words) in
    let text : left ≡ stored out 0 (words ++ (d ++ (line_end ∷ []))) =
    q.holds ∙ ap (λ z. stored z a (line_end ∷ [])) (p.holds ∙ ap (λ z. stored z n d) begins) ∙ ap (λ z. stored (stored (stored out 0 words) n d) z (line_end ∷ [])) p.ends
    ∙ sym (stored_append (stored out 0 words) n d (line_end ∷ [])) ∙ ap (λ z. stored (stored out 0 words) z (d ++ (line_end ∷ []))) from_front
    ∙ sym (stored_append out 0 words (d ++ (line_end ∷ []))) in
    fronts out (words ++ (d ++ (line_end ∷ []))) left r text
    (omega (arith, q.ends, p.ends, length-append words (d ++ (line_end ∷ [])), length-append d (line_end ∷ []))) (omega (arith, q.near, p.near)) l
