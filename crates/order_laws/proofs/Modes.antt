-- How high the ranks of the brackets read so far may be, by how far the order of a line has come; and that no byte breaks that.
use Rattle.std.specs.Prelude.{◌≡◌, refl, Bool, true, false, cond, ◌&&◌, ℕ, ◌+◌, ◌*◌, leb, ltb}
use Rattle.std.proofs.Common.{arith}
use Rattle.scope.specs.declared.grammar.Kind.{Kind}
use Rattle.scope.specs.declared.grammar.Kind.TheVariants.{Unknown, Labile, NTerm, OnResidue, OnRange, CTerm, Declared}
use Rattle.scope.specs.declared.grammar.Mode.{Mode}
use Rattle.scope.specs.declared.grammar.Mode.TheVariants.{Front, Angle, Tagged, Listed, Runs, Undecided, Counted, Referred, Caret, Counting, Labiles, NTerms, Start, Single, Opened, UnsureOpened, InRange, InUnsure, RangeEnd, Ranged, UnsureEnd, CStart, CTerms}
use Rattle.scope.specs.declared.grammar.Slot.{Slot}
use Rattle.scope.specs.declared.grammar.Act.{Act}
use Rattle.scope.specs.declared.grammar.Act.TheVariants.{Stop, Go, Residue as a_residue, Begin, Digit, RunEnds, TermEnds, Places}
use Rattle.scope.specs.Kinds.{is_kind, is_on_range}
use Rattle.scope.specs.Reading.{act, position_of}
use Rattle.reading_laws.proofs.Acts.{act_rule}
use Rattle.order_laws.specs.Ranks.{rank_step, kind_rank, rank_of}

-- ---- heights: ranks, less what the residues that are read add to every rank
-- the rank of a bracket that is read behind n residues
abbrev pub rank_now : Kind → ℕ → ℕ
rank_now k n = rank_of k (position_of k n n)

abbrev pub height_of : Kind → ℕ
height_of k = rank_now k 0

pub rank_height : (k : Kind) (n : ℕ) → rank_now k n ≡ rank_step * n + height_of k
rank_height k n = go (is_on_range k) (is_kind CTerm k)
  where
    go : (s t : Bool) → rank_step * cond s n (cond t (n + 1) n) + kind_rank k ≡ rank_step * n + (rank_step * cond s 0 (cond t (0 + 1) 0) + kind_rank k)
    go true t = omega arith
    go false true = omega arith
    go false false = omega arith

-- the last kind that may be settled by then
abbrev pub last_kind : Mode → Kind
last_kind Front = Declared
last_kind Angle = Declared
last_kind Tagged = Declared
last_kind Listed = Declared
last_kind Runs = Unknown
last_kind Undecided = Unknown
last_kind Counted = Unknown
last_kind Referred = Unknown
last_kind Caret = Unknown
last_kind Counting = Unknown
last_kind Labiles = Labile
last_kind NTerms = NTerm
last_kind Start = NTerm
last_kind Single = OnResidue
last_kind Opened = OnRange
last_kind UnsureOpened = OnRange
last_kind InRange = OnResidue
last_kind InUnsure = OnResidue
last_kind RangeEnd = OnRange
last_kind Ranged = OnRange
last_kind UnsureEnd = OnRange
last_kind CStart = OnRange
last_kind CTerms = CTerm

abbrev pub height : Mode → ℕ
height m = height_of (last_kind m)

-- ---- what each byte does
-- a bracket that begins in mode m is no lower than those before it, and no higher than its modes allow
abbrev pub fits : Mode → Slot → Bool
fits m s = leb (height m) (height_of s.kind) && (leb (height_of s.kind) (height s.after) && leb (height_of s.kind) (height s.referred))

-- behind a residue no bracket waits
abbrev pub keeps : Mode → Act → Bool
keeps m Stop = true
keeps m (Go o) = leb (height m) (height o)
keeps m (a_residue s o) = leb (height m) (rank_step + height o) && ltb (height_of Unknown) (height o)
keeps m (Begin s) = fits m s
keeps m Digit = leb (height m) (height_of Unknown)
keeps m RunEnds = leb (height m) (height_of Unknown)
keeps m TermEnds = leb (height m) (height_of Unknown)
keeps m Places = leb (height m) (height_of Declared)

pub act_keeps : (m : Mode) (b : ℕ) → keeps m (act m b) ≡ true
act_keeps = act_rule keeps refl
