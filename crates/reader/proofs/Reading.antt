-- From the verdict to the answer and the areas, and from areas of their sizes to those that begin with them.
use mathlib.Core.Path.{◌≡◌, refl, sym, ap, ap₂, ◌∙◌}
use mathlib.Core.List.{List, ◌++◌, append-nil}
use Prim.Native.Nat.{ℕ, ◌<◌, ◌≤◌}
use native.Mathlib.Omega.{arith}
use borrow.Author.Tests.{lt-ltb, le-ltb}
use lib.IntN.{ℤ}
use lib.ListN.{length, take, drop, length-take, take-append-drop, drop_of_length-le}
use Rattle.std.specs.Prelude.{Result, Ok, Err}
use Rattle.scope.specs.declared.refusals.Refusal.{Refusal}
use Rattle.scope.specs.declared.refusals.Reason.TheVariants.{ShortArea}
use Rattle.scope.specs.Line.{Line}
use Rattle.scope.specs.Lists.{laid}
use Rattle.scope.specs.Refusals.{Outcome, accepted, refused, outcome}
use Rattle.scope.specs.Layout.{bytes_size, numbers_size, bytes_of, numbers_of}
use Rattle.scope.specs.Answers.{good, refuses, reason_number, says_outcome, read_outcome, bytes_after, numbers_after}
use Rattle.layout_laws.proofs.Laws.{bytes_fill, numbers_fill}
use Rattle.accepted_laws.specs.Laws.{accepted_within}
use Rattle.reader.specs.ReadSays.{ReadSays, Stored}

-- ---- 13
short_bytes : (line bs : List ℕ) (ns : List ℤ) → length bs < bytes_size → read_outcome bs ns line ≡ refused 13 0
short_bytes line bs ns h = rw (lt-ltb (length bs) bytes_size h)

short_numbers : (line bs : List ℕ) (ns : List ℤ) → bytes_size ≤ length bs → length ns < numbers_size → read_outcome bs ns line ≡ refused 13 0
short_numbers line bs ns k h = rw (le-ltb (length bs) bytes_size k, lt-ltb (length ns) numbers_size h)

roomy : (line bs : List ℕ) (ns : List ℤ) → bytes_size ≤ length bs → numbers_size ≤ length ns → read_outcome bs ns line ≡ outcome line
roomy line bs ns k h = rw (le-ltb (length bs) bytes_size k, le-ltb (length ns) numbers_size h)

-- a refusal leaves the areas as they were
refuses_all : (line bs : List ℕ) (ns : List ℤ) (e : Refusal) → read_outcome bs ns line ≡ refused (reason_number e.reason) e.place → ReadSays line bs ns (Err e) bs ns
refuses_all line bs ns e q = record { says = rw q; bytes_after_is = rw q; numbers_after_is = rw q }

pub refuses_bytes : (line bs : List ℕ) (ns : List ℤ) → length bs < bytes_size → ReadSays line bs ns (Err (record { reason = ShortArea; place = 0 })) bs ns
refuses_bytes line bs ns h = refuses_all line bs ns _ (short_bytes line bs ns h)

pub refuses_numbers : (line bs : List ℕ) (ns : List ℤ) → bytes_size ≤ length bs → length ns < numbers_size → {b : List ℕ} → b ≡ take bytes_size bs
    → ReadSays line bs ns (Err (record { reason = ShortArea; place = 0 })) (b ++ drop bytes_size bs) ns
refuses_numbers line bs ns k h e =
    rw (ap (λ x. x ++ drop bytes_size bs) e ∙ take-append-drop bytes_size bs) (refuses_all line bs ns _ (short_numbers line bs ns k h))

-- ---- the verdict
pub refused_is : (o : Outcome) (n p : ℕ) → refuses n p ≡ says_outcome o → o ≡ refused n p
refused_is (accepted l) n p e = absurd (let z : ◌≡◌ {A = ℕ} 0 1 = cc in omega arith)
refused_is (refused m q) n p e = cc

pub accepted_is : (o : Outcome) → good tt ≡ says_outcome o → (l : Line ℕ) × (o ≡ accepted l)
accepted_is (accepted l) e = (l, refl)
accepted_is (refused m q) e = absurd (let z : ◌≡◌ {A = ℕ} 0 1 = cc in omega arith)

pub accepts_line : (line bs : List ℕ) (ns : List ℤ) → bytes_size ≤ length bs → numbers_size ≤ length ns → (l : Line ℕ) → outcome line ≡ accepted l
    → (bs' : List ℕ) (ns' : List ℤ) → Stored line bs ns bs' ns' → ReadSays line bs ns (Ok tt) bs' ns'
accepts_line line bs ns k h l e bs' ns' w =
    let o = roomy line bs ns k h ∙ e in
    record { says = rw o; bytes_after_is = rw o (w.bytes_now l e); numbers_after_is = rw o (w.numbers_now l e) }

-- ---- areas that begin with those of their sizes
laid_front : {A : Type 0} (n : ℕ) (t xs : List A) → length t ≡ n → laid t (take n xs) ++ drop n xs ≡ laid t xs
laid_front n t xs e =
    let none = drop_of_length-le (take n xs) {i = length t} (omega (arith, length-take n xs)) in
    ap (λ z. (t ++ z) ++ drop n xs) none ∙ ap (λ z. z ++ drop n xs) (append-nil t) ∙ ap (λ i. t ++ drop i xs) (sym e)

bytes_front : (line bs : List ℕ) (o : Outcome) → outcome line ≡ o → bytes_after o (take bytes_size bs) ++ drop bytes_size bs ≡ bytes_after o bs
bytes_front line bs (accepted l) e = laid_front bytes_size (bytes_of l) bs (bytes_fill l (accepted_within line l e))
bytes_front line bs (refused n p) e = take-append-drop bytes_size bs

numbers_front : (line : List ℕ) (ns : List ℤ) (o : Outcome) → outcome line ≡ o → numbers_after o (take numbers_size ns) ++ drop numbers_size ns ≡ numbers_after o ns
numbers_front line ns (accepted l) e = laid_front numbers_size (numbers_of l) ns (numbers_fill l (accepted_within line l e))
numbers_front line ns (refused n p) e = take-append-drop numbers_size ns

pub reads_front : (line bs : List ℕ) (ns : List ℤ) → bytes_size ≤ length bs → numbers_size ≤ length ns → {b : List ℕ} {n : List ℤ} → b ≡ take bytes_size bs → n ≡ take numbers_size ns
    → (r : Result (Unit {0}) Refusal) (b' : List ℕ) (n' : List ℤ) → ReadSays line b n r b' n' → ReadSays line bs ns r (b' ++ drop bytes_size bs) (n' ++ drop numbers_size ns)
reads_front line bs ns k h {b} {n} eb en r b' n' w =
    let o = roomy line bs ns k h in
    let q = roomy line b n (omega (arith, ap length eb, length-take bytes_size bs)) (omega (arith, ap length en, length-take numbers_size ns)) in
    record {
      says = w.says ∙ ap says_outcome (q ∙ sym o);
      bytes_after_is =
          ap (λ x. x ++ drop bytes_size bs) (w.bytes_after_is ∙ ap₂ bytes_after q eb) ∙ bytes_front line bs (outcome line) refl ∙ ap (λ z. bytes_after z bs) (sym o);
      numbers_after_is =
          ap (λ x. x ++ drop numbers_size ns) (w.numbers_after_is ∙ ap₂ numbers_after q en) ∙ numbers_front line ns (outcome line) refl ∙ ap (λ z. numbers_after z ns) (sym o);
    }
