-- What each call over tables ensures, by a name: an equation of what its answer says with the definitions of crate scope. What writing ensures stands in
-- specs/Writing.antt.
use Rattle.std.specs.Prelude.{◌≡◌, List, ℕ, ℤ, Result}
use Rattle.scope.specs.declared.answers.Mass.{Mass}
use Rattle.scope.specs.declared.answers.Shown.{Shown}
use Rattle.scope.specs.declared.answers.Placement.{Placement}
use Rattle.scope.specs.declared.answers.Listing.{Listing}
use Rattle.scope.specs.declared.answers.Ledger.{Ledger}
use Rattle.scope.specs.Tables.{Tables}
use Rattle.scope.specs.Layout.{tables_in}
use Rattle.scope.specs.Answers.{says, says_shown, of_good, counts, totals, shows, allows, requests, moved, ledger_said}
use Rattle.calls.specs.Single.{weighs_at}
use Rattle.scope.specs.declared.refusals.Refusal.{Refusal}

-- `residue_count`, `bracket_count`, `floater_count`: f of the tables
abbrev pub CountSays : (Tables → ℕ) → List ℕ → List ℤ → Result ℕ Refusal → Type 0
CountSays f bs ns r = says r ≡ counts bs ns f

abbrev pub TotalSays : List ℕ → List ℤ → Result ℤ Refusal → Type 0
TotalSays bs ns r = says r ≡ totals bs ns

-- `bracket_mass`: of bracket i
abbrev pub BracketMassSays : List ℕ → List ℤ → ℕ → Result Mass Refusal → Type 0
BracketMassSays bs ns i r = says r ≡ weighs_at bs ns i

abbrev pub ShownSays : List ℕ → List ℤ → Shown → Type 0
ShownSays bs ns r = says_shown r ≡ shows bs ns

abbrev pub AllowedSays : List ℕ → List ℤ → Placement → Result (Unit {0}) Refusal → Type 0
AllowedSays bs ns p r = says r ≡ allows bs ns p.at

-- the listing after the request
abbrev pub NextSays : List ℕ → List ℤ → Listing → Result Listing Refusal → Type 0
NextSays bs ns l r = says r ≡ of_good moved (requests bs ns l)

abbrev pub LedgerSays : List ℕ → List ℤ → Placement → Result Ledger Refusal → Type 0
LedgerSays bs ns p r = says r ≡ ledger_said bs ns p.at
