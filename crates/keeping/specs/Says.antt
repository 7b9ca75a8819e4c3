-- What each call over an area of blocks ensures, by a name: its answer, and everything lent as it is afterwards, each an equation with the definitions of crate blocks.
use Rattle.std.specs.Prelude.{ℕ, ◌≡◌, List, length, Result}
use Rattle.scope.specs.declared.refusals.Refusal.{Refusal}
use Rattle.scope.specs.declared.answers.Placement.{Placement}
use Rattle.scope.specs.Answers.{says as said_by}
use Rattle.blocks.specs.declared.Fetched.{Fetched}
use Rattle.blocks.specs.declared.Listed.{Listed}
use Rattle.blocks.specs.declared.Survey.{Survey}
use Rattle.blocks.specs.Answers.{empty_said, empty_after, fetch_said, remove_said, remove_after, add_said, add_after, listed_from, survey_said}
use Rattle.keeping.specs.Steps.{Handed}

pub record EmptySays (a : List ℕ) (r : Result (Unit {0}) Refusal) (a' : List ℕ) : Type 0 where
  pub says : said_by r ≡ empty_said a
  pub area_after_is : a' ≡ empty_after a

pub record AddSays (a : List ℕ) (number : ℕ) (p : Placement) (s : List ℕ) (r : Result (Unit {0}) Refusal) (a' : List ℕ) : Type 0 where
  pub says : said_by r ≡ add_said a number p.at s
  pub area_after_is : a' ≡ add_after a number p.at s

-- the length with the placement beside it, and the output
abbrev pub FetchSays : List ℕ → ℕ → List ℕ → Result Fetched Refusal → List ℕ → Type 0
FetchSays a number out r out' = Handed (fetch_said a number (length out)) out r out'

pub record RemoveSays (a : List ℕ) (number : ℕ) (r : Result (Unit {0}) Refusal) (a' : List ℕ) : Type 0 where
  pub says : said_by r ≡ remove_said a number
  pub area_after_is : a' ≡ remove_after a number

-- the listing from a block on
abbrev pub EntrySays : List ℕ → ℕ → Result Listed Refusal → Type 0
EntrySays a from r = said_by r ≡ listed_from a from

abbrev pub SurveySays : List ℕ → Result Survey Refusal → Type 0
SurveySays a r = said_by r ≡ survey_said a
