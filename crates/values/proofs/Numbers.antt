-- A number is read as far as it goes.
use mathlib.Core.Path.{◌≡◌, refl, sym, ap, ◌∙◌}
use mathlib.Core.Option.{Option, none, some}
use mathlib.Core.List.{List, [], ◌∷◌}
use Prim.Native.Nat.{ℕ, ◌+◌, ◌<◌, ◌≤◌}
use native.Mathlib.Omega.{arith}
use borrow.Author.Tests.{ltb-true, ltb-false}
use lib.Dec.{ltb}
use lib.ListN.{length, get_or, drop, length-drop}
use Rattle.basics.specs.Choice.{by_test}
use Rattle.scope.specs.declared.grammar.Slot.{Slot}
use Rattle.scope.specs.declared.tables.Number.{Number as Kept}
use Rattle.scope.specs.Line.{Number}
use Rattle.scope.specs.Lists.{given}
use Rattle.scope.specs.Content.{Digits, signed, whole, pointed, broken, digit_step, number_end, Inner, Content, going, inner_step}
use Rattle.scope.specs.Content as content
use Rattle.scope.specs.Reading.{Held, stuck}
use Rattle.std.specs.Prelude.{None, Result, Ok, Err}
use Rattle.std.specs.Prelude.{Option as Perhaps}
use Rattle.scope.specs.declared.grammar.Stuck.{Stuck}
use Rattle.numerals.specs.declared.Num.{Num}
use Rattle.numerals.specs.Numerals.{Scanned, found, lost, ended, scan_number, kept_in_range, num_of}
use Rattle.values.specs.Says.{through}
use Rattle.values.proofs.Through.{below, byte_there, drop_on, through_end, through_same, through_lost, through_going}

-- a number has the place that was noted
pub placed : (p : ℕ) (d : Digits) (n : Number ℕ) → number_end p d ≡ some n → n.at ≡ p
unfolding number_end
placed p (signed s) n e = absurd (let z : ◌≡◌ {A = ℕ} 0 1 = cc in omega arith)
placed p (whole s m) n e = ap (λ x. given x (λ y. y.at) p) (sym e)
placed p (pointed s m) n e = absurd (let z : ◌≡◌ {A = ℕ} 0 1 = cc in omega arith)
placed p (broken s m k) n e = ap (λ x. given x (λ y. y.at) p) (sym e)

-- a state that reads a number with its first byte at p, and what is done with the number at the byte behind it
module _ (line : List ℕ) (s : Slot) (o : ℕ) (h : Held ℕ) (p : ℕ) (c : Digits → Inner ℕ) (end : Number ℕ → ℕ → Content ℕ)
    (goes : (i b : ℕ) (d d' : Digits) → digit_step d b ≡ some d' → inner_step i (c d) b ≡ going (c d'))
    (stops : (i b : ℕ) (d : Digits) → digit_step d b ≡ none → inner_step i (c d) b ≡ given (number_end p d) (λ n. end n b) content.lost) where
  abbrev pub NumberSays : ℕ → Digits → Scanned → Type 0
  NumberSays j d (found n e) = (j ≤ e) × (e ≤ length line) × (n.at ≡ p) × (through line s o h j (inner_step j (c d)) ≡ through line s o h e (end n))
  NumberSays j d (lost e) = through line s o h j (inner_step j (c d)) ≡ stuck e

  -- it can go no further
  stop : (j : ℕ) (d : Digits) → j ≤ length line → (j < length line → digit_step d (get_or line j 0) ≡ none) → NumberSays j d (ended p d j)
  stop j d k e = go (number_end p d) refl
    where
      go : (x : Option (Number ℕ)) → number_end p d ≡ x → NumberSays j d (given x (λ n. found n j) (lost j))
      go (some n) f = (
        omega arith,
        k,
        placed p d n f,
        through_same line s o h j (inner_step j (c d)) (end n) (λ m. stops j (get_or line j 0) d (e m) ∙ rw f),
      )
      go none f =
          by_test (ltb j (length line))
          (λ t. let m = ltb-true j (length line) t in through_lost line s o h j (inner_step j (c d)) m (stops j (get_or line j 0) d (e m) ∙ rw f))
          (λ t. let m = ltb-false j (length line) t in
          let w : length line ≡ j = omega arith in
          through_end line s o h j (inner_step j (c d)) m ∙ ap stuck w)

  on : (j b : ℕ) (l : List ℕ) (d d' : Digits) (r : Scanned) → drop j line ≡ b ∷ l → digit_step d b ≡ some d' → NumberSays (j + 1) d' r → NumberSays j d r
  on j b l d d' (found n e) w f v = (
    omega (arith, v.0),
    v.1,
    v.2,
    through_going line s o h j (inner_step j (c d)) (c d') (below line j b l w) (ap (inner_step j (c d)) (byte_there line j b l w) ∙ goes j b d d' f) ∙ v.3,
  )
  on j b l d d' (lost e) w f v =
      through_going line s o h j (inner_step j (c d)) (c d') (below line j b l w) (ap (inner_step j (c d)) (byte_there line j b l w) ∙ goes j b d d' f) ∙ v

  pub number_says : (l : List ℕ) (j : ℕ) (d : Digits) → drop j line ≡ l → j ≤ length line → NumberSays j d (scan_number p d l j)
  unfolding scan_number
  number_says [] j d w k = stop j d k (λ m. absurd (let z = ap length w in omega (arith, length-drop j line, z)))
  number_says (b ∷ l) j d w k = go (digit_step d b) refl (λ d'. number_says l (j + 1) d' (drop_on line j b l w) (omega (arith, below line j b l w)))
    where
      go : (x : Option Digits) → digit_step d b ≡ x → ((d' : Digits) → NumberSays (j + 1) d' (scan_number p d' l (j + 1)))
          → NumberSays j d (given x (λ d'. scan_number p d' l (j + 1)) (ended p d j))
      go (some d') e ih = on j b l d d' (scan_number p d' l (j + 1)) w e (ih d')
      go none e ih = stop j d k (λ m. ap (digit_step d) (byte_there line j b l w) ∙ e)

-- ---- what was scanned, by what it was told as
abbrev next_of : Result Num Stuck → ℕ
next_of (Ok r) = r.next
next_of (Err e) = e.at

abbrev number_told : Result Num Stuck → Perhaps Kept
number_told (Ok r) = r.number
number_told (Err e) = None

pub record Found (sc : Scanned) (r : Num) : Type 0 where
  pub number : Number ℕ
  pub is : sc ≡ found number r.next
  pub told : r.number ≡ kept_in_range number

pub number_found : (sc : Scanned) (r : Num) → Ok r ≡ num_of sc → Found sc r
number_found (found n i) r w = record { number = n; is = ap (found n) (sym (ap next_of w)); told = ap number_told w }
number_found (lost i) r w = absurd (let z : ◌≡◌ {A = ℕ} 0 1 = cc in omega arith)

pub no_number : (sc : Scanned) (e : Stuck) → Err e ≡ num_of sc → sc ≡ lost e.at
no_number (found n i) e w = absurd (let z : ◌≡◌ {A = ℕ} 0 1 = cc in omega arith)
no_number (lost i) e w = ap lost (sym (ap next_of w))
