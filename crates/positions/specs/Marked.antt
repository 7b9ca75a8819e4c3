-- What is done to the table of bytes of where each floater may stand.
use Rattle.std.specs.Prelude.{◌≡◌, Bool, not, cond, ◌&&◌, List, ℕ, ◌+◌, ◌*◌, ◌≤◌, ◌<◌, ℤ, length, get_or, drop}
use Rattle.scope.specs.Limits.{position_limit}
use Rattle.scope.specs.Modifications.{defined_by, referred_by}
use Rattle.scope.specs.Lists.{shared, member}
use Rattle.scope.specs.Layout.{bracket_in, tables_in}
use Rattle.scope.specs.Positions.{between, reached, placed_on, own_position, referred_at, may_stand, struck_out}
use Rattle.areas.specs.Floats.{TableIs}

-- one value at every position; and at each the value that a row of its own has there
abbrev pub always : ℕ → ℕ → ℕ
always v x = v

abbrev pub held_in : List ℕ → ℕ → ℕ
held_in row x = get_or row x 0

-- in the row of positions that begins at base, each of a test is set to its value; all else is as before
pub record RowSet (base : ℕ) (test : ℕ → Bool) (value : ℕ → ℕ) (old new : List ℕ) : Type 0 where
  pub kept : length new ≡ length old
  pub inside : (x : ℕ) → x < position_limit → get_or new (base + x) 0 ≡ cond (test x) (value x) (get_or old (base + x) 0)
  pub before : (i : ℕ) → i < base → get_or new i 0 ≡ get_or old i 0
  pub after : (i : ℕ) → base + position_limit ≤ i → get_or new i 0 ≡ get_or old i 0

-- that row has 1 at the positions of a test and 0 at the others; all else is as before
pub record RowIs (base : ℕ) (test : ℕ → Bool) (old new : List ℕ) : Type 0 where
  pub kept : length new ≡ length old
  pub inside : (x : ℕ) → x < position_limit → get_or new (base + x) 0 ≡ cond (test x) 1 0
  pub before : (i : ℕ) → i < base → get_or new i 0 ≡ get_or old i 0
  pub after : (i : ℕ) → base + position_limit ≤ i → get_or new i 0 ≡ get_or old i 0

-- bracket r is a reference to a label of bracket k, and stands at x
abbrev pub refers_at : List ℕ → List ℤ → ℕ → ℕ → ℕ → Bool
refers_at bs ns k r x =
    shared (defined_by (bracket_in bs ns k)) (referred_by (bracket_in bs ns r)) && between (bracket_in bs ns r).first (bracket_in bs ns r).last x

-- a reference to a label of bracket k stands at x
abbrev pub references_at : List ℕ → List ℤ → ℕ → ℕ → Bool
references_at bs ns k x = referred_at (bracket_in bs ns k) x (tables_in bs ns).brackets

-- x is a position of bracket k's own
abbrev pub own_at : List ℕ → List ℤ → ℕ → ℕ → Bool
own_at bs ns k x = own_position (bracket_in bs ns k) x (bracket_in bs ns k).kind

-- bracket k reaches x, as a declaration
abbrev pub reached_at : List ℕ → List ℤ → ℕ → ℕ → Bool
reached_at bs ns k x = member x (reached (tables_in bs ns) (bracket_in bs ns k))

-- bracket k is placed at x
abbrev pub placed_at : List ℕ → List ℤ → ℕ → ℕ → Bool
placed_at bs ns k x = member x (placed_on (tables_in bs ns) (bracket_in bs ns k))

-- x is struck out
abbrev pub struck_at : List ℕ → List ℤ → ℕ → Bool
struck_at bs ns x = member x (struck_out (tables_in bs ns))

-- the row of free positions: 0 where the tables strike out, 1 elsewhere
abbrev pub FreeIs : List ℕ → List ℤ → List ℕ → Type 0
FreeIs bs ns row = (x : ℕ) → x < position_limit → held_in row x ≡ cond (struck_at bs ns x) 0 1

-- where the floater of bracket k may stand: on a permitted position that is not struck out
abbrev pub stands_at : List ℕ → List ℤ → ℕ → ℕ → Bool
stands_at bs ns k x = may_stand (tables_in bs ns) (bracket_in bs ns k) x && not (struck_at bs ns x)

-- the table of so many floaters: each byte of their rows is known, and what lies past them is as before
pub record Filled (bs : List ℕ) (ns : List ℤ) (count : ℕ) (old new : List ℕ) : Type 0 where
  pub table : TableIs bs ns new count
  pub bits : (i : ℕ) → i < count * position_limit → get_or new i 0 ≤ 1
  pub past : drop (count * position_limit) new ≡ drop (count * position_limit) old
  pub kept : length new ≡ length old
