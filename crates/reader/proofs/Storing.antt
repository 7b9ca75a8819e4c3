-- Cleared areas, filled with an accepted line's tables.
use mathlib.Core.Path.{◌≡◌, sym, ap, ◌∙◌}
use mathlib.Core.List.{List, ◌++◌, append-nil}
use Prim.Native.Nat.{ℕ, ◌≤◌}
use native.Mathlib.Omega.{arith}
use lib.IntN.{ℤ, pos}
use lib.ListN.{length, take, drop, replicate, length-append, length-replicate, drop_of_length-le}
use lib.Seq.{take_at, drop_at}
use Rattle.scope.specs.Line.{Line}
use Rattle.scope.specs.Refusals.{accepted, outcome}
use Rattle.scope.specs.Layout.{bytes_size, numbers_size, bytes_of, numbers_of}
use Rattle.scope.specs.Lists.{laid}
use Rattle.layout_laws.proofs.Holds.{Holds}
use Rattle.layout_laws.proofs.Laws.{accepted_held, bytes_fill, numbers_fill, laid_bytes, laid_numbers}
use Rattle.accepted_laws.specs.Laws.{accepted_within}
use Rattle.sheet.specs.declared.Sheet.{Sheet}
use Rattle.sheet.specs.Kept.{LineNoted}
use Rattle.store.specs.Filled.{Clean, Fills, FilledAll}
use Rattle.reader.specs.ReadSays.{Stored}

-- the first n elements cleared
abbrev cleared : {A : Type 0} → A → ℕ → List A → List A
cleared z n l = replicate n z ++ drop n l

cleared_long : {A : Type 0} (z : A) (n : ℕ) (l : List A) → n ≤ length (cleared z n l)
cleared_long z n l = let a = length-append (replicate n z) (drop n l) in let b = length-replicate n z in omega arith

cleared_zero : {A : Type 0} (z : A) (n : ℕ) (l : List A) → take n (cleared z n l) ≡ replicate n z
cleared_zero z n l = take_at (replicate n z) (drop n l) n (length-replicate n z)

-- what is laid over cleared areas is laid over the areas
laid_over : {A : Type 0} (z : A) (n : ℕ) (t l : List A) → length t ≡ n → laid t (cleared z n l) ≡ laid t l
laid_over z n t l e = rw e (ap (λ x. t ++ x) (drop_at (replicate n z) (drop n l) n (length-replicate n z)))

pub cleared_clean : (bs : List ℕ) (ns : List ℤ) {bs₁ : List ℕ} {ns₁ : List ℤ} → bs₁ ≡ cleared 0 bytes_size bs → ns₁ ≡ cleared (pos 0) numbers_size ns → Clean bs₁ ns₁
cleared_clean bs ns b n =
    rw (b, n)
    (record {
      bytes_room = cleared_long 0 bytes_size bs;
      bytes_zero = cleared_zero 0 bytes_size bs;
      numbers_room = cleared_long (pos 0) numbers_size ns;
      numbers_zero = cleared_zero (pos 0) numbers_size ns;
    })

-- what the sheet has of an accepted line goes into clean areas
pub fills : {line : List ℕ} {sheet : Sheet} {residues brackets : ℕ} {bs : List ℕ} {ns : List ℤ} {l : Line ℕ}
    → LineNoted line sheet residues brackets l → Clean bs ns
    → Fills line sheet residues brackets bs ns
fills {l = l} w c = record { holds_line = l; line_noted = w; clean = c }

pub filled : {line bs : List ℕ} {ns : List ℤ} {bs' : List ℕ} {ns' : List ℤ} → ((l : Line ℕ) → outcome line ≡ accepted l → FilledAll bs ns bs' ns' l)
    → Stored line bs ns bs' ns'
filled f = record { bytes_now = λ l e. (f l e).bytes_are; numbers_now = λ l e. (f l e).numbers_are }

-- an area of that size, all of it cleared
cleared_all : {A : Type 0} (z : A) (n : ℕ) (l : List A) → length l ≡ n → replicate (length l) z ≡ cleared z n l
cleared_all z n l e =
    ap (λ i. replicate i z) e ∙ sym (ap (λ x. replicate n z ++ x) (drop_of_length-le l {i = n} (omega arith)) ∙ append-nil (replicate n z))

module _ (bs : List ℕ) (ns : List ℤ) {bs₁ : List ℕ} {ns₁ : List ℤ} (lb : length bs ≡ bytes_size) (ln : length ns ≡ numbers_size)
    (b : bs₁ ≡ replicate (length bs) 0) (n : ns₁ ≡ replicate (length ns) (pos 0)) where
  all_bytes : bs₁ ≡ cleared 0 bytes_size bs
  all_bytes = b ∙ cleared_all 0 bytes_size bs lb

  all_numbers : ns₁ ≡ cleared (pos 0) numbers_size ns
  all_numbers = n ∙ cleared_all (pos 0) numbers_size ns ln

  pub fills_cleared : {line : List ℕ} {sheet : Sheet} {residues brackets : ℕ}
      → (l : Line ℕ) × LineNoted line sheet residues brackets l
      → Fills line sheet residues brackets bs₁ ns₁
  fills_cleared w = fills w.1 (cleared_clean bs ns all_bytes all_numbers)

  pub filled_cleared : {line bs' : List ℕ} {ns' : List ℤ} → ((l : Line ℕ) → outcome line ≡ accepted l → FilledAll bs₁ ns₁ bs' ns' l) → Stored line bs ns bs' ns'
  filled_cleared {line} f =
      record {
        bytes_now = λ l e. (f l e).bytes_are ∙ ap (λ x. laid (bytes_of l) x) all_bytes ∙ laid_over 0 bytes_size (bytes_of l) bs (bytes_fill l (accepted_within line l e));
        numbers_now = λ l e. (f l e).numbers_are ∙ ap (λ x. laid (numbers_of l) x) all_numbers ∙ laid_over (pos 0) numbers_size (numbers_of l) ns (numbers_fill l (accepted_within line l e));
      }

-- the areas hold what was stored
pub holds_of : {line bs : List ℕ} {ns : List ℤ} {bs' : List ℕ} {ns' : List ℤ} (l : Line ℕ) → outcome line ≡ accepted l → Stored line bs ns bs' ns' → Holds bs' ns' line l
holds_of {line} {bs} {ns} {bs'} {ns'} l e w =
    let v = accepted_within line l e in
    accepted_held bs' ns' line l e (ap (take bytes_size) (w.bytes_now l e) ∙ laid_bytes l v bs) (ap (take numbers_size) (w.numbers_now l e) ∙ laid_numbers l v ns)
