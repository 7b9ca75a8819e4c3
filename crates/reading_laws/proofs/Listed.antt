-- The places of a declaration, as a relation: each way on from a state with one more byte, and what is known there. Every step is one of them
-- (places_go), so a rule over places has a clause for each, and opens no definition.
use Rattle.std.specs.Prelude.{ℕ, ◌≡◌, true, List, [], ◌∷◌, ◌++◌, eqb}
use Rattle.std.proofs.Math.Option.{some}
use Rattle.scope.specs.declared.grammar.Mode.TheVariants.{Front, Listed}
use Rattle.scope.specs.Bytes.{bytes, upper, is_letter, comma, dash, shut_angle}
use Rattle.scope.specs.Line.{Place}
use Rattle.scope.specs.Lists.{given}
use Rattle.scope.specs.Places.{Placing, expected, placed, owing, owed, terminus_of, place_step, places_end}
use Rattle.scope.specs.Reading.{act, Held, with_places, State, dead, outside, placing, perform, step}
use Rattle.basics.specs.Choice.{branch_on, on_given}

-- one byte b more, at the place i, and the places go on
pub data PlaceOn {P : Type 0} (i : P) (b : ℕ) : Placing P → Placing P → Type 0 where
  place_begins : {ps : List (Place P)} → is_letter b ≡ true → PlaceOn i b (expected ps) (placed ps (record { site = upper b; at = i }))
  place_over : {ps : List (Place P)} {p : Place P} → eqb b comma ≡ true → PlaceOn i b (placed ps p) (expected (ps ++ (p ∷ [])))
  word_begins : {ps : List (Place P)} {p : Place P} {s : ℕ} → eqb b dash ≡ true → terminus_of p.site ≡ some s → PlaceOn i b (placed ps p) (owed ps (record { site = s; at = p.at }) (bytes "term"))
  word_on : {ps : List (Place P)} {p : Place P} {x : ℕ} {w : List ℕ} → eqb (upper x) (upper b) ≡ true → PlaceOn i b (owing ps p x w) (owed ps p w)

-- what the reader does: the places go on; they are over, and so is their declaration; or no line goes on so
pub data PlacesGo {P : Type 0} (i : P) (b : ℕ) (h : Held P) : Placing P → State P → Type 0 where
  places_on : {s t : Placing P} → PlaceOn i b s t → PlacesGo i b h s (placing h t)
  places_over : {ps : List (Place P)} {p : Place P} → eqb b shut_angle ≡ true → PlacesGo i b h (placed ps p) (outside Front (with_places (ps ++ (p ∷ [])) h))
  places_stop : {s : Placing P} → PlacesGo i b h s (dead i)

module _ {P : Type 0} (i : P) (b : ℕ) (h : Held P) where
  behind : (ps : List (Place P)) (p : Place P) → PlacesGo i b h (placed ps p) (perform i b (with_places (ps ++ (p ∷ [])) h) (act Listed b))
  unfolding act perform
  behind ps p =
      branch_on (λ a. PlacesGo i b h (placed ps p) (perform i b (with_places (ps ++ (p ∷ [])) h) a)) (eqb b shut_angle) (λ e. places_over e) (λ e. places_stop)

  pub places_go : (s : Placing P) → PlacesGo i b h s (step i (placing h s) b)
  unfolding step place_step places_end
  places_go (expected ps) =
      branch_on (λ o. PlacesGo i b h (expected ps) (given o (placing h) (dead i))) (is_letter b) (λ e. places_on (place_begins e)) (λ e. places_stop)
  places_go (placed ps p) =
      branch_on (λ o. PlacesGo i b h (placed ps p) (given o (placing h) (perform i b (with_places (ps ++ (p ∷ [])) h) (act Listed b)))) (eqb b comma)
      (λ e. places_on (place_over e))
      (λ e. branch_on (λ o. PlacesGo i b h (placed ps p) (given o (placing h) (perform i b (with_places (ps ++ (p ∷ [])) h) (act Listed b)))) (eqb b dash)
      (λ d. on_given (λ o. PlacesGo i b h (placed ps p) (given o (placing h) (perform i b (with_places (ps ++ (p ∷ [])) h) (act Listed b)))) (terminus_of p.site)
      (λ s f. places_on (word_begins d f)) (behind ps p))
      (λ d. behind ps p))
  places_go (owing ps p x w) =
      branch_on (λ o. PlacesGo i b h (owing ps p x w) (given o (placing h) (dead i))) (eqb (upper x) (upper b)) (λ e. places_on (word_on e)) (λ e. places_stop)
