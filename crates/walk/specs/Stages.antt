-- How far a line is walked, and what is known there: what is held so far, and that the numbers of the stage and the tables are its.
use Rattle.std.specs.Prelude.{◌≡◌, Bool, true, false, cond, List, [], ◌∷◌, ◌++◌, ℕ, ◌+◌, ◌≤◌, ◌<◌, ℤ, length, drop, get_or}
use Rattle.std.proofs.Math.Option.{none}
use Rattle.scope.specs.declared.grammar.Mode.{Mode}
use Rattle.scope.specs.declared.grammar.Mode.TheVariants.{Front, Angle, Tagged, Listed, Runs, Undecided, Counted, Referred, Caret, Counting, Labiles, NTerms, Start, Single, Opened, UnsureOpened, InRange, InUnsure, RangeEnd, Ranged, UnsureEnd, CStart, CTerms}
use Rattle.scope.specs.declared.grammar.Act.{Act}
use Rattle.scope.specs.declared.grammar.Act.TheVariants.{Stop, Go, Residue as a_residue, Begin, Digit, RunEnds, TermEnds, Places}
use Rattle.scope.specs.Bytes.{is_digit}
use Rattle.scope.specs.Kinds.{is_declared}
use Rattle.scope.specs.Limits.{bracket_limit, part_limit, line_limit}
use Rattle.scope.specs.Line.{Bracket, Residue}
use Rattle.scope.specs.Reading.{Held, act, outside, reading}
use Rattle.basics.specs.Each.{Each}
use Rattle.classes.specs.Runs.{span}
use Rattle.reading_laws.proofs.Acts.{ways, some_way, ends_run, ends_term, counts}
use Rattle.reading_laws.proofs.Run.{rest}
use Rattle.sheet.specs.declared.Sheet.{Sheet}
use Rattle.sheet.specs.Rows.{masses_room, Noted, Lettered}
use Rattle.sheet.specs.Kept.{Sized}
use Rattle.dues.specs.Ranks.{code, lowest}
use Rattle.dues.specs.Lines.{uncut_rank, met_codes}
use Rattle.walk.specs.declared.Stage.{Stage}

-- ---- the brackets at the front
-- the last bracket has no count yet
pub record LastFresh (ks : List (Bracket ℕ)) : Type 0 where
  pub before : List (Bracket ℕ)
  pub last : Bracket ℕ
  pub is : ks ≡ before ++ (last ∷ [])
  pub fresh : last.counted ≡ none

-- what may be said of the undecided run and of the bytes that follow: none waits; the last has no count yet; nothing; no digit follows
pub data Waiting : Type 0 where
  none_waits : Waiting
  last_fresh : Waiting
  any_waits : Waiting
  digits_over : Waiting

abbrev pub WaitsFor : Waiting → List (Bracket ℕ) → List ℕ → Type 0
WaitsFor none_waits r l = r ≡ []
WaitsFor last_fresh r l = LastFresh r
WaitsFor any_waits r l = Unit {0}
WaitsFor digits_over r l = span is_digit l ≡ 0

-- what a mode says of them, by what may be done there: count on, end a run, end the N-terminus
abbrev pub waiting : Mode → Waiting
waiting m =
    cond (some_way counts (ways m)) (cond (some_way ends_run (ways m)) digits_over last_fresh)
    (cond (some_way ends_run (ways m)) last_fresh (cond (some_way ends_term (ways m)) any_waits none_waits))

abbrev pub ModeFits : Mode → List (Bracket ℕ) → List ℕ → Type 0
ModeFits m r l = WaitsFor (waiting m) r l

abbrev pub held_brackets : Held ℕ → List (Bracket ℕ)
held_brackets h = h.brackets ++ h.run

-- ---- the declarations
-- the last bracket has no places yet
pub record LastBare (ks : List (Bracket ℕ)) : Type 0 where
  pub before : List (Bracket ℕ)
  pub last : Bracket ℕ
  pub is : ks ≡ before ++ (last ∷ [])
  pub bare : last.places ≡ []

-- where its places may follow
abbrev pub takes_places : Act → Bool
takes_places Stop = false
takes_places (Go m) = false
takes_places (a_residue s m) = false
takes_places (Begin s) = false
takes_places Digit = false
takes_places RunEnds = false
takes_places TermEnds = false
takes_places Places = true

abbrev pub takes_list : Mode → Bool
takes_list m = some_way takes_places (ways m)

-- where nothing but declarations is read so far
abbrev pub declaring : Mode → Bool
declaring Front = true
declaring Angle = true
declaring Tagged = true
declaring Listed = true
declaring Runs = false
declaring Undecided = false
declaring Counted = false
declaring Referred = false
declaring Caret = false
declaring Counting = false
declaring Labiles = false
declaring NTerms = false
declaring Start = false
declaring Single = false
declaring Opened = false
declaring UnsureOpened = false
declaring InRange = false
declaring InUnsure = false
declaring RangeEnd = false
declaring Ranged = false
declaring UnsureEnd = false
declaring CStart = false
declaring CTerms = false

-- what is known of the brackets that are settled and of those that wait: where nothing else is read, each is of a declaration; where places may follow, the last has
-- none; and none that waits is of one
pub record Declares (m : Mode) (settled waits : List (Bracket ℕ)) : Type 0 where
  pub all_are : declaring m ≡ true → Each (λ k. is_declared k.kind ≡ true) settled
  pub last_bare : takes_list m ≡ true → LastBare settled
  pub none_waits : Each (λ k. is_declared k.kind ≡ false) waits

-- ---- the sheet, with other rows of brackets, or with other residues
abbrev pub with_heads : Sheet → List ℕ → Sheet
with_heads t heads = record t { heads = heads }

abbrev pub with_letters : Sheet → List ℕ → List ℕ → Sheet
with_letters t letters sections = record t { letters = letters; sections = sections }

-- ---- what is known at a stage
-- above every code
abbrev pub nothing_due : ℕ
nothing_due = code (uncut_rank + 1) 0

-- n residues are read, and the position of the group's first is that of the definition
pub record ResiduesAre (n group : ℕ) (rs : List (Residue ℕ)) (first : ℕ) (letters sections : List ℕ) : Type 0 where
  pub many : n ≡ length rs
  pub group_is : group ≡ first
  pub group_low : group ≤ n
  pub lettered : Lettered rs letters sections

-- n brackets are read, the first `run` of them settled; m of their parts are noted
pub record BracketsAre (line : List ℕ) (n run m : ℕ) (settled waits : List (Bracket ℕ)) (heads parts : List ℕ) (masses scores : List ℤ) : Type 0 where
  pub many : n ≡ length (settled ++ waits)
  pub before : run ≡ length settled
  pub noted : Noted line (settled ++ waits) m heads parts masses scores

-- the line is walked up to a place
pub record Upto (line : List ℕ) (s : Stage) (t : Sheet) : Type 0 where
  pub held : Held ℕ
  pub is : reading line ≡ rest line s.at (outside s.mode held)
  pub within : s.at ≤ length line
  pub fits : ModeFits s.mode held.run (drop s.at line)
  pub declares : Declares s.mode held.brackets held.run
  pub residues_are : ResiduesAre s.residues s.group held.residues held.first t.letters t.sections
  pub brackets_are : BracketsAre line s.brackets s.run s.parts held.brackets held.run t.heads t.parts t.masses t.scores
  pub least_is : s.least ≡ lowest nothing_due (met_codes held.residues (held_brackets held))
  pub few_residues : s.residues ≤ s.at
  pub few_brackets_lem : s.brackets ≤ s.at
  pub roomy : Sized t

-- the byte at hand does what is said
pub record Does (line : List ℕ) (s : Stage) (a : Act) (t : Sheet) : Type 0 where
  pub upto : Upto line s t
  pub here : s.at < length line
  pub short : length line ≤ line_limit
  pub does : act s.mode (get_or line s.at 0) ≡ a

-- the numbers of a stage are small, and there is room for the parts of one bracket more, where it is noted
pub record Low (s : Stage) : Type 0 where
  pub at : s.at < line_limit
  pub residues : s.residues ≤ s.at
  pub group : s.group ≤ s.residues
  pub brackets : s.brackets ≤ s.at
  pub run : s.run ≤ s.brackets
  pub parts : s.parts ≤ masses_room
  pub room : s.brackets < bracket_limit → s.parts + part_limit ≤ masses_room

-- nothing is read
abbrev pub first_stage : Stage
first_stage = record { at = 0; mode = Front; residues = 0; group = 0; brackets = 0; run = 0; parts = 0; least = nothing_due }
