-- What a list of places that was found in a line says: which places they are, where each stands, and how reading goes on behind them.
use Rattle.std.specs.Prelude.{◌≡◌, true, cond, List, [], ◌∷◌, map, ℕ, ◌+◌, ◌≤◌, ◌<◌, eqb, length, get_or, drop, Some, None, Result, Ok, Err}
use Rattle.std.specs.Prelude.{Option as Perhaps}
use Rattle.scope.specs.declared.grammar.Stuck.{Stuck}
use Rattle.std.proofs.Math.Option.{none}
use Rattle.scope.specs.declared.grammar.Mode.TheVariants.{Listed as behind_list}
use Rattle.scope.specs.Bytes.{upper, dash}
use Rattle.scope.specs.Limits.{place_limit}
use Rattle.scope.specs.Line.{Place}
use Rattle.scope.specs.Lists.{given}
use Rattle.scope.specs.Places.{terminus_of, expected, placed, owed}
use Rattle.scope.specs.Reading.{Held, with_places, outside, placing, stuck}
use Rattle.scope.specs.Refusals.{least}
use Rattle.reading_laws.proofs.Run.{rest}
use Rattle.texts.specs.Texts.{coded}
use Rattle.sites.specs.declared.Listed.{Listed}

-- ---- a place, by the bytes of a line
-- the terminus whose word begins with a letter, or 0
abbrev pub terminus_or : ℕ → ℕ
terminus_or s = given (terminus_of s) (λ t. t) 0

-- the terminus whose word begins at a place, or 0
unfoldable pub terminus_at : List ℕ → ℕ → ℕ
terminus_at line at = cond (eqb (get_or line (at + 1) 0) dash) (terminus_or (upper (get_or line at 0))) 0

-- the same, as it is found
unfoldable pub word_found : List ℕ → ℕ → Perhaps ℕ
word_found line at = cond (eqb (get_or line (at + 1) 0) dash) (coded (terminus_of (upper (get_or line at 0)))) None

unfoldable pub place_of : List ℕ → ℕ → Place ℕ
place_of line at = record { site = cond (eqb (terminus_at line at) 0) (upper (get_or line at 0)) (terminus_at line at); at = at }

-- the bytes of `N-term` and `C-term`
abbrev pub word_size : ℕ
word_size = 6

-- the byte behind it: behind a letter, or a word
unfoldable pub place_end : List ℕ → ℕ → ℕ
place_end line at = cond (eqb (terminus_at line at) 0) (at + 1) (at + word_size)

-- a site and the byte behind it, if a place stands there
abbrev pub SiteIs : List ℕ → ℕ → ℕ → ℕ → Type 0
SiteIs line at site next = place_end line at ≤ length line → (site ≡ (place_of line at).site) × (next ≡ place_end line at)

-- places that stand one behind another from a place on, a byte behind each
abbrev pub Stand : List ℕ → ℕ → List (Place ℕ) → ℕ → Type 0
Stand line at [] next = at ≡ next
Stand line at (p ∷ ps) next = (place_end line at ≤ length line) × (p ≡ place_of line at) × Stand line (place_end line at + 1) ps next

-- ---- the rest of a word, of any place behind any others
pub record WordReads (line : List ℕ) (at : ℕ) (word : List ℕ) (next : ℕ) : Type 0 where
  pub is_next_is : next ≡ at + length word
  pub within : next ≤ length line
  pub on : (h : Held ℕ) (ps : List (Place ℕ)) (p : Place ℕ) → rest line at (placing h (owed ps p word)) ≡ rest line next (placing h (placed ps p))

unfoldable pub WordSays : List ℕ → ℕ → List ℕ → Result ℕ Stuck → Type 0
WordSays line at word (Err e) = (h : Held ℕ) (ps : List (Place ℕ)) (p : Place ℕ) → rest line at (placing h (owed ps p word)) ≡ stuck e.at
WordSays line at word (Ok next) = WordReads line at word next

-- ---- a place, behind any others
pub record PlaceReads (line : List ℕ) (at next : ℕ) : Type 0 where
  pub is_next_is : next ≡ place_end line at
  pub past : at < next
  pub within : next ≤ length line
  pub on : (h : Held ℕ) (ps : List (Place ℕ)) → rest line at (placing h (expected ps)) ≡ rest line next (placing h (placed ps (place_of line at)))
  -- no word begins with it
  pub whole : eqb (get_or line next 0) dash ≡ true → terminus_of (place_of line at).site ≡ none

unfoldable pub PlaceSays : List ℕ → ℕ → Result ℕ Stuck → Type 0
PlaceSays line at (Err e) = (h : Held ℕ) (ps : List (Place ℕ)) → rest line at (placing h (expected ps)) ≡ stuck e.at
PlaceSays line at (Ok next) = PlaceReads line at next

-- ---- a list of them
-- how many, and the first past the limit
pub record Counts (ps : List (Place ℕ)) (many : ℕ) (over : Perhaps ℕ) : Type 0 where
  pub many_is : many ≡ length ps
  pub over_is : over ≡ coded (least (drop place_limit (map (λ p. p.at) ps)))

-- a place, if there is one, stands before another
abbrev pub Before : Perhaps ℕ → ℕ → Type 0
Before None next = Unit {0}
Before (Some i) next = i < next

-- whatever is held, reading on from `at`, where a list begins, comes at `next` to the mode behind one
pub record ListReads (line : List ℕ) (at next many : ℕ) (over : Perhaps ℕ) : Type 0 where
  pub sites : List (Place ℕ)
  pub counts : Counts sites many over
  pub past : at < next
  pub within : next ≤ length line
  pub many_within : many ≤ next
  pub over_within : Before over next
  pub stand : Stand line at sites (next + 1)
  pub on : (h : Held ℕ) → rest line at (placing h (expected [])) ≡ rest line next (outside behind_list (with_places sites h))

abbrev pub ListSays : List ℕ → ℕ → Result Listed Stuck → Type 0
ListSays line at (Err e) = (h : Held ℕ) → rest line at (placing h (expected [])) ≡ stuck e.at
ListSays line at (Ok r) = ListReads line at r.next r.many r.over
