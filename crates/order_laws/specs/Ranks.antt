-- "A line has this order": where a bracket stands in it, as a number, by the position that it ends at and by its kind. The brackets of a line's tables
-- do not fall in it.
use Rattle.std.specs.Prelude.{◌≡◌, Bool, true, cond, ◌&&◌, List, [], ◌∷◌, ℕ, ◌+◌, ◌*◌, leb}
use Rattle.scope.specs.declared.grammar.Kind.{Kind}
use Rattle.scope.specs.Kinds.{kind_code, is_declared}
use Rattle.scope.specs.Line.{Bracket, Line}

-- from a position to the next: more than any kind's number
abbrev pub rank_step : ℕ
rank_step = 8

-- of the brackets that end at a position: declarations first, then the kinds in the order of their numbers: at the front those of unknown position, the
-- labile, the N-terminal; those on a residue, those on the range that it ends; the C-terminal
abbrev pub kind_rank : Kind → ℕ
kind_rank k = cond (is_declared k) 0 (kind_code k)

-- a bracket stands behind those that end at a position before its own
abbrev pub rank_of : Kind → ℕ → ℕ
rank_of k last = rank_step * last + kind_rank k

abbrev pub rank : {P : Type 0} → Bracket P → ℕ
rank k = rank_of k.kind k.last

-- no rank below q, and none below one before it
unfoldable pub rising : {P : Type 0} → ℕ → List (Bracket P) → Bool
rising q [] = true
rising q (k ∷ ks) = leb q (rank k) && rising (rank k) ks

unfoldable pub orderedb : {P : Type 0} → Line P → Bool
orderedb l = rising 0 l.brackets

abbrev pub InOrder : {P : Type 0} → Line P → Type 0
InOrder l = orderedb l ≡ true
