-- The rows as places of the table of bytes: a row for each byte that is 1, in the order of the table.
use Rattle.std.specs.Prelude.{List, ℕ, ◌+◌, ◌-◌, ◌/◌, ◌%◌, eqb, get_or}
use Rattle.scope.specs.declared.answers.Site.{Site}
use Rattle.scope.specs.Limits.{position_limit}
use Rattle.scope.specs.Lists.{keep, tabled}

-- the places from one on, up to an end, whose byte is 1
abbrev pub ones_from : List ℕ → ℕ → ℕ → List ℕ
ones_from tab from end = keep (λ x. eqb (get_or tab x 0) 1) (tabled (λ x. x) from (end - from))

-- the row of a place: floaters are counted from 1
abbrev pub site_of : ℕ → Site
site_of at = record { floater = at / position_limit + 1; position = at % position_limit }
