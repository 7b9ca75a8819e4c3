-- What the exported calls over tables leave, one shape for calls that are alike: the number, and each out-parameter and lent slice.
use Rattle.std.specs.Prelude.{ℕ, ◌≡◌, cond, List, eqb, ltb, ℤ, pos, Float, length, take}
use Rattle.scope.specs.declared.answers.Mass.{Mass}
use Rattle.scope.specs.declared.answers.Mass.TheVariants.{Stated, Measured as OnlyMeasured, None}
use Rattle.scope.specs.Limits.{copy_limit, position_limit}
use Rattle.scope.specs.Canonical.{canonical}
use Rattle.scope.specs.Tables.{Tables}
use Rattle.scope.specs.Layout.{tables_in}
use Rattle.scope.specs.Lists.{laid}
use Rattle.scope.specs.Masses.{ledger, daltons}
use Rattle.scope.specs.Answers.{Said, good, refuses, writes, output_after, counts, allows, books, fitting, Display, a_mass, lack}
use Rattle.entries.specs.Entry.{entry}
use Rattle.scope.specs.Positions.{floaters_by, brackets_of, copies_of, floating_of}
use Rattle.scope.specs.Reasons.{Reason}
use Rattle.scope.specs.Glycans.{cuttings}
use Rattle.glycans.specs.Pieces.{pieces_of, pieces_said}
use Rattle.calls.specs.Floating.{floaters_said}
use Rattle.calls.specs.Reaching.{reached_by, reached_said}
use Rattle.export.specs.Numbers.{number_of, left, Numbered}
use Rattle.export.specs.Handed.{Counted}

-- ---- a line that was written: its length, with 15 the length needed, and the output
abbrev pub length_left : Said ℕ → ℕ → ℕ
length_left (good n) old = n
length_left (refuses number place) old = cond (eqb number 15) place old

pub record Measured (said : Said ℕ) (count number count' : ℕ) : Type 0 where
  pub number_is : number ≡ number_of said
  pub count_is : count' ≡ length_left said count

pub record Written (bs : List ℕ) (ns : List ℤ) (old : List ℕ) (count number count' : ℕ) (new : List ℕ) : Type 0 where
  pub measured : Measured (writes bs ns old) count number count'
  pub output_after_is : new ≡ output_after (writes bs ns old) (canonical (tables_in bs ns)) old

-- ---- the pieces of a composition, likewise
pub record PiecesHanded (t old : List ℕ) (count number count' : ℕ) (new : List ℕ) : Type 0 where
  pub measured : Measured (pieces_said t (length old)) count number count'
  pub output_after_is : new ≡ output_after (pieces_said t (length old)) (pieces_of (cuttings t)) old

-- ---- a total in millionths, and the refusal's place (16 "how many have none")
pub record Totalled (said : Said ℤ) (millionths : ℤ) (place number : ℕ) (millionths' : ℤ) (place' : ℕ) : Type 0 where
  pub numbered : Numbered said place number place'
  pub millionths_is : millionths' ≡ left said (λ m. m) millionths

-- ---- the mass of a bracket: its millionths, 0 where there is none, and its sort, none, stated, only measured
abbrev pub millionths_of : Mass → ℤ
millionths_of (Stated m) = m
millionths_of (OnlyMeasured m) = m
millionths_of None = pos 0

abbrev pub sort_of : Mass → ℕ
sort_of None = 0
sort_of (Stated m) = 1
sort_of (OnlyMeasured m) = 2

pub record Massed (said : Said Mass) (millionths : ℤ) (sort number : ℕ) (millionths' : ℤ) (sort' : ℕ) : Type 0 where
  pub number_is : number ≡ number_of said
  pub millionths_is : millionths' ≡ left said millionths_of millionths
  pub sort_is : sort' ≡ left said sort_of sort

-- ---- a display: the mass, 0.0 where there is none; how many modifications lack one, else 0
abbrev pub mass_of : Display → Float
mass_of (a_mass x) = x
mass_of (lack n) = daltons (pos 0)

abbrev pub lack_of : Display → ℕ
lack_of (a_mass x) = 0
lack_of (lack n) = n

pub record Displayed (said : Said Display) (mass : Float) (missing number : ℕ) (mass' : Float) (missing' : ℕ) : Type 0 where
  pub number_is : number ≡ number_of said
  pub mass_is : mass' ≡ left said mass_of mass
  pub missing_is : missing' ≡ left said lack_of missing

-- ---- a placement is lent as a slice, of which the first eight entries count; a shorter one is refused 13
abbrev pub allows_lent : List ℕ → List ℤ → List ℕ → Said (Unit {0})
allows_lent bs ns p = cond (ltb (length p) copy_limit) (refuses 13 0) (allows bs ns (take copy_limit p))

abbrev pub AllowedLent : List ℕ → List ℤ → List ℕ → ℕ → Type 0
AllowedLent bs ns p number = number ≡ number_of (allows_lent bs ns p)

-- ---- a ledger: its entries are laid into a lent slice, of which a shorter one is refused 13; "A refusal changes no lent" entry
abbrev pub books_lent : List ℕ → List ℤ → List ℕ → List ℤ → Said (Unit {0})
books_lent bs ns p old = cond (ltb (length p) copy_limit) (refuses 13 0) (cond (ltb (length old) position_limit) (refuses 13 0) (books bs ns (take copy_limit p)))

abbrev pub entries_after : Said (Unit {0}) → Tables → List ℕ → List ℤ → List ℤ
entries_after (good x) t p old = laid (ledger t p) old
entries_after (refuses number place) t p old = old

pub record ReadEntered (bs : List ℕ) (ns : List ℤ) (p : List ℕ) (old : List ℤ) (place number place' : ℕ) (new : List ℤ) : Type 0 where
  pub numbered : Numbered (books_lent bs ns p old) place number place'
  pub entries_after_is : new ≡ entries_after (books_lent bs ns p old) (tables_in bs ns) (take copy_limit p) old

-- ---- the floaters: how many, and two lent slices
pub record FloatersHanded (bs : List ℕ) (ns : List ℤ) (brackets copies : List ℕ) (count number count' : ℕ) (brackets' copies' : List ℕ) : Type 0 where
  pub counted : Counted (floaters_said bs ns brackets copies) count number count'
  pub brackets_after : brackets' ≡ output_after (floaters_said bs ns brackets copies) (brackets_of (floaters_by (tables_in bs ns))) brackets
  pub copies_after : copies' ≡ output_after (floaters_said bs ns brackets copies) (copies_of (floaters_by (tables_in bs ns))) copies

-- ---- why there is no placement: how many floaters have too few positions, and a lent slice for their numbers, of which a shorter one is refused 13
abbrev pub why_lent : List ℕ → List ℤ → List ℕ → List ℕ → Said ℕ
why_lent bs ns old set = cond (ltb (length old) copy_limit) (refuses 13 0) (counts bs ns (λ t. length set))

pub record WhyHanded (bs : List ℕ) (ns : List ℤ) (old : List ℕ) (count number count' : ℕ) (new : List ℕ) : Type 0 where
  pub set : List ℕ
  pub reason : Reason (floating_of (tables_in bs ns)) set
  pub counted : Counted (why_lent bs ns old set) count number count'
  pub floaters_after : new ≡ output_after (why_lent bs ns old set) set old

-- ---- the positions that a bracket's places name: how many, and a lent slice
pub record ReachedHanded (bs : List ℕ) (ns : List ℤ) (i : ℕ) (positions : List ℕ) (count number count' : ℕ) (positions' : List ℕ) : Type 0 where
  pub counted : Counted (reached_said bs ns i positions) count number count'
  pub positions_after : positions' ≡ output_after (reached_said bs ns i positions) (reached_by (tables_in bs ns) i) positions

-- ---- a text in a lent output of any length: how many bytes, with 15 the length needed
pub record Fitted (text old : List ℕ) (count number count' : ℕ) (new : List ℕ) : Type 0 where
  pub measured : Measured (fitting text (length old)) count number count'
  pub output_after_is : new ≡ output_after (fitting text (length old)) text old

-- what the register prints for a line with its number, and byte 10
abbrev pub EntryHanded : ℕ → List ℕ → List ℕ → ℕ → ℕ → ℕ → List ℕ → Type 0
EntryHanded number line = Fitted (entry number line)
