-- Reading places byte by byte: each way on, as the rest of a line. Assumes nothing.
use mathlib.Core.Path.{◌≡◌, sym, ap, ◌∙◌}
use mathlib.Core.Bool.{true, false}
use mathlib.Core.Option.{none, some}
use mathlib.Core.List.{List, [], ◌∷◌, ◌++◌}
use Prim.Native.Nat.{ℕ, ◌+◌, ◌≤◌, ◌<◌}
use borrow.Author.Tests.{ltb-true, ltb-false}
use lib.Dec.{eqb, ltb}
use lib.ListN.{length, get_or}
use Rattle.basics.specs.Choice.{by_test}
use Rattle.scope.specs.declared.grammar.Mode.TheVariants.{Listed}
use Rattle.scope.specs.Bytes.{bytes, upper, is_letter, comma, dash}
use Rattle.scope.specs.Line.{Place}
use Rattle.scope.specs.Places.{Placing, expected, placed, owing, owed, terminus_of, place_step, places_end}
use Rattle.scope.specs.Reading.{Held, with_places, State, dead, outside, placing, step, stuck}
use Rattle.reading_laws.proofs.Run.{rest, rest_step, rest_end, rest_dead}

module _ (line : List ℕ) (h : Held ℕ) (ps : List (Place ℕ)) (i : ℕ) where
  -- the line is over
  pub over : (s : Placing ℕ) → length line ≤ i → rest line i (placing h s) ≡ stuck (length line)
  over s k = rest_end line i (placing h s) k

  -- the byte there does what its step does
  goes : (s : Placing ℕ) (t : State ℕ) → i < length line → step i (placing h s) (get_or line i 0) ≡ t → rest line i (placing h s) ≡ rest line (i + 1) t
  goes s t k e = rest_step line i (placing h s) k ∙ ap (rest line (i + 1)) e

  stops : (s : Placing ℕ) → i < length line → step i (placing h s) (get_or line i 0) ≡ dead i → rest line i (placing h s) ≡ stuck i
  stops s k e = goes s (dead i) k e ∙ rest_dead line (i + 1) i

  pub begins : i < length line → is_letter (get_or line i 0) ≡ true
      → rest line i (placing h (expected ps)) ≡ rest line (i + 1) (placing h (placed ps (record { site = upper (get_or line i 0); at = i })))
  unfolding step place_step
  begins k e = goes (expected ps) _ k (rw e)

  pub begins_not : i < length line → is_letter (get_or line i 0) ≡ false → rest line i (placing h (expected ps)) ≡ stuck i
  unfolding step place_step places_end
  begins_not k e = stops (expected ps) k (rw e)

  module _ (p : Place ℕ) where
    pub word_begins : (s : ℕ) → i < length line → get_or line i 0 ≡ dash → terminus_of p.site ≡ some s
        → rest line i (placing h (placed ps p)) ≡ rest line (i + 1) (placing h (owed ps (record { site = s; at = p.at }) (bytes "term")))
    unfolding step place_step
    word_begins s k e f = goes (placed ps p) _ k (rw (e, f))

    pub follows : i < length line → eqb (get_or line i 0) comma ≡ true → rest line i (placing h (placed ps p)) ≡ rest line (i + 1) (placing h (expected (ps ++ (p ∷ []))))
    unfolding step place_step
    follows k e = goes (placed ps p) _ k (rw e)

    pub word_on : (x : ℕ) (w : List ℕ) → i < length line → eqb (upper x) (upper (get_or line i 0)) ≡ true
        → rest line i (placing h (owing ps p x w)) ≡ rest line (i + 1) (placing h (owed ps p w))
    unfolding step place_step
    word_on x w k e = goes (owing ps p x w) _ k (rw e)

    pub word_off : (x : ℕ) (w : List ℕ) → i < length line → eqb (upper x) (upper (get_or line i 0)) ≡ false → rest line i (placing h (owing ps p x w)) ≡ stuck i
    unfolding step place_step places_end
    word_off x w k e = stops (owing ps p x w) k (rw e)

    -- no place goes on: it is the mode behind a list that takes the byte, if there is one
    pub listed : (i < length line → eqb (get_or line i 0) comma ≡ false) → (eqb (get_or line i 0) dash ≡ true → terminus_of p.site ≡ none)
        → rest line i (placing h (placed ps p)) ≡ rest line i (outside Listed (with_places (ps ++ (p ∷ [])) h))
    unfolding step place_step places_end
    listed n d =
        by_test (ltb i (length line))
        (λ t. let k = ltb-true i (length line) t in
        rest_step line i (placing h (placed ps p)) k
        ∙ ap (rest line (i + 1))
        (by_test (eqb (get_or line i 0) dash) (λ e. rw (n k, e, d e)) (λ e. rw (n k, e)))
        ∙ sym (rest_step line i (outside Listed (with_places (ps ++ (p ∷ [])) h)) k))
        (λ t. let k = ltb-false i (length line) t in
        rest_end line i (placing h (placed ps p)) k ∙ sym (rest_end line i (outside Listed (with_places (ps ++ (p ∷ [])) h)) k))
