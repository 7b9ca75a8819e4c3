-- Laws of `stored` and of `Puts`: nothing, one byte, one run behind another, and what the whole leaves. Assumes nothing.
use mathlib.Core.Path.{◌≡◌, refl, sym, ap, ◌∙◌}
use mathlib.Core.Bool.{Bool, true, false}
use mathlib.Core.List.{List, [], ◌∷◌, ◌++◌}
use Prim.Native.Nat.{ℕ, zero, suc, ◌+◌, ◌-◌, ◌/◌, ◌%◌, ◌^◌, ◌≤◌, ◌<◌, min}
use native.Mathlib.Nat.{add-zero}
use native.Mathlib.Omega.{arith}
use lib.Dec.{leb}
use lib.ListN.{length, set, take, drop, length-append, length-drop, length-set, drop_of_length-le}
use lib.Seq.{set_out, drop-nil, take_all}
use borrow.Author.Tests.{leb-true, leb-false}
use borrow.Rule.Slice.PartMut.{put_mid}
use Rattle.scope.specs.Canonical.{decimal, last_digits}
use Rattle.figures.specs.Written.{stored, Puts, decimal_most}
use Rattle.figures.proofs.Digits.{only_last, lead, as_decimal}

-- ---- runs of stores
pub stored_append : (o : List ℕ) (at : ℕ) (s t : List ℕ) → stored o at (s ++ t) ≡ stored (stored o at s) (at + length s) t
unfolding stored
stored_append o at [] t = rw add-zero
stored_append o at (b ∷ s) t = stored_append (set o at b) (at + 1) s t ∙ ap (λ n. stored (stored (set o at b) (at + 1) s) n t) (omega arith)

stored_behind : (x : ℕ) (o : List ℕ) (at : ℕ) (l : List ℕ) → stored (x ∷ o) (suc at) l ≡ x ∷ stored o at l
unfolding stored
stored_behind x o at [] = refl
stored_behind x o at (b ∷ l) = ap (λ n. stored (x ∷ set o at b) n l) (omega arith) ∙ stored_behind x (set o at b) (at + 1) l

stored_nowhere : (at : ℕ) (l : List ℕ) → stored [] at l ≡ []
unfolding stored
stored_nowhere at [] = refl
stored_nowhere at (b ∷ l) = stored_nowhere (at + 1) l

-- as much as fits, and what stood behind it
pub stored_whole : (o c : List ℕ) → stored o 0 c ≡ take (length o) c ++ drop (length c) o
unfolding stored
stored_whole [] c = stored_nowhere 0 c ∙ sym (drop-nil (length c))
stored_whole (x ∷ o) [] = refl
stored_whole (x ∷ o) (b ∷ c) = stored_behind b o 0 c ∙ ap (λ l. b ∷ l) (stored_whole o c)

-- from a place on, and from the first place of what stands there
pub stored_from : (at : ℕ) (o t : List ℕ) → stored o at t ≡ take at o ++ stored (drop at o) 0 t
stored_from zero o t = refl
stored_from (suc at) [] t = stored_nowhere (suc at) t ∙ sym (stored_nowhere 0 t)
stored_from (suc at) (x ∷ o) t = stored_behind x o at t ∙ ap (λ l. x ∷ l) (stored_from at o t)

-- what stands behind the output's end is not stored
stored_over : (o : List ℕ) (at : ℕ) (t : List ℕ) → length o ≤ at → stored o at t ≡ o
unfolding stored
stored_over o at [] h = refl
stored_over o at (b ∷ t) h = ap (λ l. stored l (at + 1) t) (set_out o at b h) ∙ stored_over o (at + 1) t (omega arith)

-- ---- steps of the writer
pub puts_none : (o : List ℕ) (at : ℕ) → Puts 0 o at [] o at
unfolding stored
puts_none o at = record { holds = refl; ends = omega arith; near = omega arith }

pub puts_stored : (o : List ℕ) (at b : ℕ) → Puts 1 o at (b ∷ []) (set o at b) (at + 1)
unfolding stored
puts_stored o at b = record { holds = refl; ends = refl; near = omega arith }

pub puts_counted : (o : List ℕ) (at b : ℕ) → length o ≤ at → Puts 1 o at (b ∷ []) o (at + 1)
unfolding stored
puts_counted o at b h = record { holds = sym (set_out o at b h); ends = refl; near = omega arith }

module _ {m n : ℕ} {o : List ℕ} {at : ℕ} {s : List ℕ} {p : List ℕ} {q : ℕ} where
  -- one run behind another
  pub puts_join : {t : List ℕ} {o' : List ℕ} {r : ℕ} → Puts m o at s p q → Puts n p q t o' r → Puts (m + n) o at (s ++ t) o' r
  puts_join {t} a b =
      let e : length (s ++ t) ≡ length s + length t = length-append s t in
      record {
        holds = b.holds ∙ rw (a.holds, a.ends) (sym (stored_append o at s t));
        ends = rw e (omega (arith, a.ends, b.ends));
        near = omega (arith, a.near, b.near);
      }

  pub puts_within : m ≤ n → Puts m o at s p q → Puts n o at s p q
  puts_within h a = record { holds = a.holds; ends = a.ends; near = omega (arith, a.near) }

length_stored : (o : List ℕ) (at : ℕ) (t : List ℕ) → length (stored o at t) ≡ length o
unfolding stored
length_stored o at [] = refl
length_stored o at (b ∷ t) = length_stored (set o at b) (at + 1) t ∙ length-set o at b

pub puts_length : {m : ℕ} {o : List ℕ} {at : ℕ} {s : List ℕ} {p : List ℕ} {q : ℕ} → Puts m o at s p q → length p ≡ length o
puts_length {o = o} {at = at} {s = s} a = ap length a.holds ∙ length_stored o at s

-- no more than the text has
pub puts_exact : {m n : ℕ} {o : List ℕ} {at : ℕ} {s : List ℕ} {p : List ℕ} {q : ℕ} → length s ≤ n → Puts m o at s p q → Puts n o at s p q
puts_exact h a = record { holds = a.holds; ends = a.ends; near = omega (arith, a.ends) }

pub puts_of : {m : ℕ} {o : List ℕ} {at : ℕ} {s t : List ℕ} {p : List ℕ} {q : ℕ} → s ≡ t → Puts m o at s p q → Puts m o at t p q
puts_of e a = rw e at a

-- all digits of a number, which are k + 1
pub puts_decimal :
    (k n : ℕ) {o : List ℕ} {at : ℕ} {left : List ℕ} {r : ℕ} → (0 < k → 10 ^ k ≤ n) → n < 10 ^ (k + 1) → k < decimal_most
    → Puts (k + 1) o at (last_digits (k + 1) n) left r → Puts decimal_most o at (decimal n) left r
puts_decimal k n h l f a = puts_of (sym (as_decimal k n h l f)) (puts_within (omega arith) a)

-- the last k digits, where k is known
pub puts_last :
    (d n : ℕ) {k : ℕ} {o : List ℕ} {at : ℕ} {left : List ℕ} → k ≡ d → Puts d o at (last_digits d (n % 10 ^ d)) left (at + d)
    → Puts k o at (last_digits k n) left (at + k)
puts_last d n e a = rw e (puts_of (sym (only_last d n)) a)

-- the leading digit, and behind it what is left
pub puts_lead :
    (k n : ℕ) {o : List ℕ} {at b : ℕ} {left : List ℕ} → n < 10 ^ (k + 1) → b ≡ 48 + n / 10 ^ k
    → Puts k (set o at b) (at + 1) (last_digits k (n % 10 ^ k)) left (at + 1 + k) → Puts (k + 1) o at (last_digits (k + 1) n) left (at + (k + 1))
puts_lead k n {o} {at} {b} h e f =
    let behind : at + 1 + k ≡ at + (k + 1) = omega arith in
    let most : 1 + k ≡ k + 1 = omega arith in
    rw (behind, most) at (puts_of (ap (λ x. x ∷ last_digits k (n % 10 ^ k)) e ∙ sym (lead k n h)) (puts_join (puts_stored o at b) f))

-- ---- a run of bytes at once: as many as fit, from a place on
pub copied_none : (o : List ℕ) (at : ℕ) → Puts 0 o at [] o (at + 0)
copied_none o at = rw (add-zero at) (puts_none o at)

-- the output ends before the place
pub copied_over : (w : List ℕ) {o : List ℕ} {at : ℕ} → length o ≤ at → Puts (length w) o at w o (at + length w)
copied_over w {o} {at} h = record { holds = sym (stored_over o at w h); ends = refl; near = omega arith }

pub copied_all : (w o : List ℕ) (at m : ℕ) {u : List ℕ} {k : ℕ} → at < length o → m ≡ min (length w) (length o - at) → k ≡ m → u ≡ take m w
    → Puts (length w) o at w (put_mid at k o u) (at + length w)
copied_all w o at m {u} {k} h e q f =
    let rest = drop at o in
    let long : length rest ≡ length o - at = length-drop at o in
    let whole : put_mid at k o u ≡ take at o ++ (take m w ++ drop m rest) = rw (q, f) refl in
    record {
      holds =
          whole
          ∙ ap (λ z. take at o ++ z) (fitting (leb (length w) (length rest)) refl)
          ∙ sym (stored_from at o w ∙ ap (λ z. take at o ++ z) (stored_whole rest w));
      ends = refl;
      near = omega arith;
    }
  where
    fitting : (b : Bool) → leb (length w) (length (drop at o)) ≡ b → take m w ++ drop m (drop at o) ≡ take (length (drop at o)) w ++ drop (length w) (drop at o)
    fitting true z =
        let l = leb-true (length w) (length (drop at o)) z in
        let s : m ≡ length w = omega (arith, length-drop at o) in
        rw s (ap (λ t. t ++ drop (length w) (drop at o)) (take_all (length w) w (omega arith) ∙ sym (take_all (length (drop at o)) w l)))
    fitting false z =
        let l = leb-false (length w) (length (drop at o)) z in
        let s : m ≡ length (drop at o) = omega (arith, length-drop at o) in
        rw s (ap (λ t. take (length (drop at o)) w ++ t) (drop_of_length-le (drop at o) {i = length (drop at o)} (omega arith) ∙ sym (drop_of_length-le (drop at o) {i = length w} (omega arith))))
