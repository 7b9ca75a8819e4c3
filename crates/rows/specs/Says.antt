-- What the lookup of a floater's first row ensures, in any rows.
use Rattle.std.specs.Prelude.{◌≡◌, List, ℕ, Result}
use Rattle.scope.specs.declared.answers.Row.{Row}
use Rattle.scope.specs.declared.answers.Site.{Site}
use Rattle.scope.specs.declared.refusals.Refusal.{Refusal}
use Rattle.scope.specs.Answers.{says, looks_up}

abbrev pub LookupSays : List Site → ℕ → ℕ → Result Row Refusal → Type 0
LookupSays rs n f r = says r ≡ looks_up rs n f
