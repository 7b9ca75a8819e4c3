-- The longest name that ends a text, among those with its last letter, tried one after another. Assumes nothing.
use Rattle.std.proofs.Common.{◌≡◌, refl, sym, ap, ◌∙◌, arith, Bool, true, false, not, cond, ◌&&◌, List, [], ◌∷◌, ◌++◌, ℕ, ◌+◌, ◌-◌, ◌<◌, ◌≤◌, map, reverse, length, get_or, take, drop, drop-cons, add-one}
use Rattle.std.proofs.Math.Option.{some}
use Rattle.std.proofs.lemmas.Bool.{false≢true}
use Rattle.std.specs.Prelude.{Some, None}
use lib.ListN.{drop_of_length-le}
use Rattle.scope.specs.Bytes.{upper}
use Rattle.scope.specs.Lists.{all, keep, none?}
use Rattle.scope.specs.Glycans.{sugars, name_at}
use Rattle.basics.specs.Tests.{and_left, and_right}
use Rattle.glycan_laws.specs.Back.{backward, backwards, begins, order, tried, is_front, first_front}
use Rattle.glycans.specs.Cut.{back, ending_in, NameIs}
use Rattle.glycans.proofs.Texts.{back_cons}

-- ---- a name with another last letter does not end the text
abbrev letters_of : ℕ → List ℕ
letters_of i = reverse (map upper (name_at i))

other_front : (u : ℕ) (n t : List ℕ) → not (none? n) ≡ true → begins u n ≡ false → is_front n (u ∷ t) ≡ false
unfolding is_front
other_front u [] t h e = absurd (false≢true h)
other_front u (x ∷ n) t h e = ap (λ b. b && is_front n t) e

among_likely : (is : List ℕ) (u : ℕ) (t : List ℕ) → all (λ i. not (none? (letters_of i))) is ≡ true → first_front (backwards is) (u ∷ t) ≡ first_front (backwards (ending_in u is)) (u ∷ t)
unfolding all first_front backwards keep
among_likely [] u t h = refl
among_likely (i ∷ is) u t h =
    by (begins u (letters_of i)) refl (among_likely is u t (and_right (not (none? (letters_of i))) (all (λ j. not (none? (letters_of j))) is) h))
  where
    by : (b : Bool) → begins u (letters_of i) ≡ b → first_front (backwards is) (u ∷ t) ≡ first_front (backwards (ending_in u is)) (u ∷ t)
        → first_front (backwards (i ∷ is)) (u ∷ t) ≡ first_front (backwards (cond b (i ∷ []) [] ++ ending_in u is)) (u ∷ t)
    by true q next = ap (λ o. cond (is_front (letters_of i) (u ∷ t)) (some (record { index = i; letters = letters_of i })) o) next
    by false q next =
        ap (λ b. cond b (some (record { index = i; letters = letters_of i })) (first_front (backwards is) (u ∷ t)))
        (other_front u (letters_of i) t (and_left (not (none? (letters_of i))) (all (λ j. not (none? (letters_of j))) is) h) q)
        ∙ next

some_letters : all (λ i. not (none? (letters_of i))) order ≡ true
unfolding all sugars upper
some_letters = refl

-- ---- the loop: the names from index k on are left to try
abbrev pub Trying : List ℕ → List ℕ → ℕ → Type 0
Trying t names k = first_front tried (back t) ≡ first_front (backwards (drop k names)) (back t)

-- an empty text ends with none
pub no_text : (t : List ℕ) → length t < 1 → NameIs t None
unfolding first_front is_front tried backwards sugars
no_text [] h = refl
no_text (b ∷ t) h = absurd (omega arith)

pub trying_start : (t : List ℕ) {u : ℕ} {names : List ℕ} → 0 < length t → u ≡ upper (get_or t (length t - 1) 0) → names ≡ ending_in u order → Trying t names 0
unfolding tried
trying_start t {u} {names} h e l =
    let whole : back t ≡ u ∷ back (take (length t - 1) t) = back_cons t h ∙ ap (λ z. z ∷ back (take (length t - 1) t)) (sym e) in
    ap (first_front tried) whole
    ∙ among_likely order u (back (take (length t - 1) t)) some_letters
    ∙ ap (first_front (backwards (ending_in u order))) (sym whole)
    ∙ ap (λ z. first_front (backwards z) (back t)) (sym l)

module _ (t names : List ℕ) {k : ℕ} (h : Trying t names k) where
  step : k < length names
      → first_front tried (back t) ≡ cond (is_front (back (name_at (get_or names k 0))) (back t)) (some (backward (get_or names k 0))) (first_front (backwards (drop (k + 1) names)) (back t))
  unfolding first_front backwards backward
  step l = h ∙ ap (λ z. first_front (backwards z) (back t)) (drop-cons names k 0 l ∙ ap (λ j. get_or names k 0 ∷ drop j names) (sym (add-one k)))

  pub trying_found : k < length names → {b : Bool} → b ≡ is_front (back (name_at (get_or names k 0))) (back t) → b ≡ true → NameIs t (Some (get_or names k 0))
  trying_found l e q = step l ∙ ap (λ z. cond z (some (backward (get_or names k 0))) (first_front (backwards (drop (k + 1) names)) (back t))) (sym e ∙ q)

  pub trying_next : k < length names → {b : Bool} → b ≡ is_front (back (name_at (get_or names k 0))) (back t) → b ≡ false → Trying t names (k + 1)
  trying_next l e q = step l ∙ ap (λ z. cond z (some (backward (get_or names k 0))) (first_front (backwards (drop (k + 1) names)) (back t))) (sym e ∙ q)

  pub trying_ends : length names ≤ k → NameIs t None
  unfolding first_front backwards
  trying_ends l = h ∙ ap (λ z. first_front (backwards z) (back t)) (drop_of_length-le names {i = k} l)
