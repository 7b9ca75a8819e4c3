-- Reading on inside a bracket, byte by byte and over runs of bytes.
use mathlib.Core.Path.{◌≡◌, sym, ap, ◌∙◌}
use mathlib.Core.Bool.{Bool, true}
use mathlib.Core.List.{List, [], ◌∷◌, ◌++◌, append_assoc, append-nil, head-eq_of_cons-eq, tail-eq_of_cons-eq}
use Prim.Native.Nat.{ℕ, suc, ◌+◌, ◌<◌, ◌≤◌}
use native.Mathlib.Omega.{arith}
use native.Mathlib.Numerals.{add-one}
use native.Mathlib.Nat.{add-zero}
use borrow.Author.Tests.{lt-ltb, le-ltb, ltb-true, ltb-false}
use lib.Dec.{ltb}
use lib.ListN.{length, get_or, take, drop, length-drop}
use lib.Seq.{drop-cons}
use Rattle.basics.specs.Choice.{by_test}
use Rattle.scope.specs.declared.grammar.Slot.{Slot}
use Rattle.scope.specs.Content.{Inner, Content, lost, going, inner_step}
use Rattle.scope.specs.Reading.{Held, inside, resume, step, stuck}
use Rattle.reading_laws.proofs.Run.{rest, rest_step, rest_end, rest_dead}
use Rattle.classes.specs.Runs.{span}
use Rattle.classes.proofs.Runs.{run_in}
use Rattle.values.specs.Says.{through}

-- ---- lists from a place on
pub below : (line : List ℕ) (j b : ℕ) (l : List ℕ) → drop j line ≡ b ∷ l → j < length line
below line j b l e = let n = ap length e in omega (arith, length-drop j line, n)

cons_drop : (line : List ℕ) (j b : ℕ) (l : List ℕ) → drop j line ≡ b ∷ l → get_or line j 0 ∷ drop (j + 1) line ≡ b ∷ l
cons_drop line j b l e = rw add-one (sym (drop-cons line j 0 (below line j b l e)) ∙ e)

pub byte_there : (line : List ℕ) (j b : ℕ) (l : List ℕ) → drop j line ≡ b ∷ l → get_or line j 0 ≡ b
byte_there line j b l e = head-eq_of_cons-eq (cons_drop line j b l e)

pub drop_on : (line : List ℕ) (j b : ℕ) (l : List ℕ) → drop j line ≡ b ∷ l → drop (j + 1) line ≡ l
drop_on line j b l e = tail-eq_of_cons-eq (cons_drop line j b l e)

-- ---- runs of bytes of one class
module _ (p : ℕ → Bool) (line : List ℕ) (at n : ℕ) (run : n ≡ at + span p (drop at line)) where
  pub run_after : at ≤ n
  run_after = omega arith

  pub run_upto : n ≤ at + span p (drop at line)
  run_upto = omega arith

  pub run_inside : at ≤ length line → n ≤ length line
  run_inside k = rw run (run_in p line at k)

module _ (line : List ℕ) (s : Slot) (o : ℕ) (h : Held ℕ) where
  -- the line is over
  pub through_end : (j : ℕ) (f : ℕ → Content ℕ) → length line ≤ j → through line s o h j f ≡ stuck (length line)
  unfolding through
  through_end j f k = rw (le-ltb j (length line) k)

  -- one byte
  pub through_byte : (j : ℕ) (f : ℕ → Content ℕ) → j < length line → through line s o h j f ≡ rest line (j + 1) (resume s o h j (f (get_or line j 0)))
  unfolding through
  through_byte j f k = rw (lt-ltb j (length line) k)

  -- only the byte at the place matters
  pub through_same : (j : ℕ) (f g : ℕ → Content ℕ) → (j < length line → f (get_or line j 0) ≡ g (get_or line j 0)) → through line s o h j f ≡ through line s o h j g
  through_same j f g e =
      by_test (ltb j (length line))
      (λ t. let k = ltb-true j (length line) t in through_byte j f k ∙ ap (λ x. rest line (j + 1) (resume s o h j x)) (e k) ∙ sym (through_byte j g k))
      (λ t. let k = ltb-false j (length line) t in through_end j f k ∙ sym (through_end j g k))

  pub through_lost : (j : ℕ) (f : ℕ → Content ℕ) → j < length line → f (get_or line j 0) ≡ lost → through line s o h j f ≡ stuck j
  unfolding resume
  through_lost j f k e = through_byte j f k ∙ ap (λ x. rest line (j + 1) (resume s o h j x)) e ∙ rest_dead line (j + 1) j

  -- the state at a place, by its byte
  pub through_rest : (j : ℕ) (c : Inner ℕ) → rest line j (inside s o h c) ≡ through line s o h j (inner_step j c)
  unfolding step
  through_rest j c =
      by_test (ltb j (length line))
      (λ t. let k = ltb-true j (length line) t in rest_step line j (inside s o h c) k ∙ sym (through_byte j (inner_step j c) k))
      (λ t. let k = ltb-false j (length line) t in rest_end line j (inside s o h c) k ∙ sym (through_end j (inner_step j c) k))

  pub through_going : (j : ℕ) (f : ℕ → Content ℕ) (c : Inner ℕ) → j < length line → f (get_or line j 0) ≡ going c
      → through line s o h j f ≡ through line s o h (j + 1) (inner_step (j + 1) c)
  unfolding resume
  through_going j f c k e = through_byte j f k ∙ ap (λ x. rest line (j + 1) (resume s o h j x)) e ∙ through_rest (j + 1) c

  -- a run of bytes of one class, each of which is taken down
  module _ (p : ℕ → Bool) (c : List ℕ → Inner ℕ) (takes : (i b : ℕ) (t : List ℕ) → p b ≡ true → inner_step i (c t) b ≡ going (c (t ++ (b ∷ [])))) where
    pub through_span : (l : List ℕ) (j : ℕ) (t : List ℕ) → drop j line ≡ l
        → through line s o h j (inner_step j (c t)) ≡ through line s o h (j + span p l) (inner_step (j + span p l) (c (t ++ take (span p l) l)))
    unfolding span
    through_span [] j t e = rw (add-zero, append-nil)
    through_span (b ∷ l) j t e =
        by_test (p b)
        (λ q. rw (q, span)
        (through_going j (inner_step j (c t)) (c (t ++ (b ∷ []))) (below line j b l e) (ap (inner_step j (c t)) (byte_there line j b l e) ∙ takes j b t q)
        ∙ through_span l (j + 1) (t ++ (b ∷ [])) (drop_on line j b l e)
        ∙ rw append_assoc (let m : j + 1 + span p l ≡ j + suc (span p l) = omega arith in rw m)))
        (λ q. rw (q, span) (rw (add-zero, append-nil)))

    -- the same, where another state takes the first of them
    pub through_run : (f : ℕ → Content ℕ) (l : List ℕ) (j : ℕ) → ((b : ℕ) → get_or line j 0 ≡ b → p b ≡ true → f b ≡ going (c (b ∷ []))) → drop j line ≡ l → 0 < span p l
        → through line s o h j f ≡ through line s o h (j + span p l) (inner_step (j + span p l) (c (take (span p l) l)))
    unfolding span
    through_run f [] j first e k = absurd (omega arith)
    through_run f (b ∷ l) j first e k =
        by_test (p b)
        (λ q. rw (q, span)
        (through_going j f (c (b ∷ [])) (below line j b l e) (ap f (byte_there line j b l e) ∙ first b (byte_there line j b l e) q)
        ∙ through_span l (j + 1) (b ∷ []) (drop_on line j b l e)
        ∙ (let m : j + 1 + span p l ≡ j + suc (span p l) = omega arith in rw m)))
        (λ q. absurd (not_positive (rw (q, span) at k)))
      where
        not_positive : 0 < 0 → ⊥
        not_positive z = omega arith
