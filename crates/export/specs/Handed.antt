-- What is handed out through lent values and structs: the number, and each of them afterwards.
use Rattle.std.specs.Prelude.{ℕ, ◌≡◌, List, ℤ}
use Rattle.scope.specs.declared.answers.Site.{Site}
use Rattle.scope.specs.declared.answers.Listing.{Listing}
use Rattle.scope.specs.declared.tables.Limits.{Limits}
use Rattle.scope.specs.Limits.{line_limit, residue_limit, bracket_limit, part_limit, text_limit, label_limit, depth_limit, count_limit, declaration_limit, place_limit, copy_limit, row_limit, position_limit, size_limit, decimal_limit, block_size, block_limit}
use Rattle.scope.specs.Layout.{bytes_size, numbers_size, tables_in}
use Rattle.scope.specs.Answers.{Said, rows_said, rows_after, requests, listing_after}
use Rattle.export.specs.Numbers.{number_of, left}
use Rattle.scope.specs.declared.answers.Row.{Row}

-- a count: how many there are
pub record Counted (said : Said ℕ) (count number count' : ℕ) : Type 0 where
  pub number_is : number ≡ number_of said
  pub count_is : count' ≡ left said (λ n. n) count

-- what asking for the rows answers and leaves
pub record RowsHanded (bytes : List ℕ) (numbers : List ℤ) (rows : List Site) (count number count' : ℕ) (rows' : List Site) : Type 0 where
  pub counted : Counted (rows_said bytes numbers rows) count number count'
  pub rows_after_lem : rows' ≡ rows_after (rows_said bytes numbers rows) (tables_in bytes numbers) rows

-- what a lookup answers: the index and the position of the row
pub record LookedUp (said : Said Row) (index position number index' position' : ℕ) : Type 0 where
  pub number_is : number ≡ number_of said
  pub index_is : index' ≡ left said (λ f. f.index) index
  pub position_is : position' ≡ left said (λ f. f.position) position

-- what a request answers, and the listing after it
abbrev pub MovedOn : List ℕ → List ℤ → Listing → ℕ → Listing → Type 0
MovedOn bytes numbers listing number listing' = (number ≡ number_of (requests bytes numbers listing)) × (listing' ≡ listing_after bytes numbers listing)

-- "All limits and sizes"
abbrev pub the_limits : Limits
the_limits = record { line = line_limit; residues = residue_limit; brackets = bracket_limit; parts = part_limit; text = text_limit; label = label_limit; depth = depth_limit; count = count_limit; declarations = declaration_limit; places = place_limit; copies = copy_limit; rows = row_limit; positions = position_limit; size = size_limit; decimals = decimal_limit; bytes = bytes_size; numbers = numbers_size; block = block_size; blocks = block_limit }

-- the version, 0.1.0: 10000 times its first number, 100 times its second, and its third
abbrev pub the_version : ℕ
the_version = 100
