-- What is ensured of what is handed out through lent structs: the answer, and the rows or the record afterwards.
use Rattle.std.specs.Prelude.{◌≡◌, List, ℕ, ℤ, Result}
use Rattle.scope.specs.declared.answers.Site.{Site}
use Rattle.scope.specs.declared.answers.Listing.{Listing}
use Rattle.scope.specs.Layout.{tables_in}
use Rattle.scope.specs.Answers.{met, rows_said, rows_after, requests, listing_after, says}
use Rattle.scope.specs.declared.refusals.Refusal.{Refusal}

abbrev pub RowsSays : List ℕ → List ℤ → List Site → Result ℕ Refusal → List Site → Type 0
RowsSays bs ns room r room' = (says r ≡ rows_said bs ns room) × (room' ≡ rows_after (rows_said bs ns room) (tables_in bs ns) room)

-- as `NextSays` of crate calls, of the record in place
abbrev pub StepSays : List ℕ → List ℤ → Listing → Result (Unit {0}) Refusal → Listing → Type 0
StepSays bs ns l r l' = (says r ≡ met (requests bs ns l)) × (l' ≡ listing_after bs ns l)
