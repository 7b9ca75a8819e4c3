-- What every accepted line keeps to, and that its tables keep to the same. Each is proved in the file that it cites.
use Rattle.std.specs.Prelude.{◌≡◌, List, ℕ, ◌+◌, ◌≤◌, length}
use Rattle.std.proofs.Common.{sym, subst, arith}
use Rattle.scope.specs.Lists.{flat}
use Rattle.scope.specs.Limits.{line_limit}
use Rattle.scope.specs.Line.{Bracket, Line}
use Rattle.scope.specs.Refusals.{accepted, outcome}
use Rattle.scope.specs.Tables.{tables_of}
use Rattle.scope.specs.Layout.{bracket_texts}
use Rattle.reading_laws.proofs.Taken.{Taken, taken, not_long}
use Rattle.accepted_laws.specs.Within.{BracketWithin, Within, first_few, last_few}
use Rattle.accepted_laws.specs.BareWithin
use Rattle.accepted_laws.specs.KeptWithin
use Rattle.accepted_laws.specs.Accepted

-- "The limits", and the shape of the tables
pub accepted_within : (s : List ℕ) (l : Line ℕ) → outcome s ≡ accepted l → Within l
accepted_within s l e = let t = taken s l e in subst Within (sym t.keeps) (KeptWithin.within_kept t.read (Accepted.within_read s l t))

-- the same of what was read of it
pub read_within : (s : List ℕ) (l : Line ℕ) (t : Taken s l) → Within t.read
read_within s l t = Accepted.within_read s l t

-- "line 1 to 4,096 bytes"
pub accepted_short : (s : List ℕ) (l : Line ℕ) → outcome s ≡ accepted l → length s ≤ line_limit
accepted_short s l e = not_long s (taken s l e).bytes.1.0

-- the packed texts are no longer than the line
pub accepted_texts : (s : List ℕ) (l : Line ℕ) → outcome s ≡ accepted l → length (flat bracket_texts l.brackets) ≤ length s
accepted_texts s l e =
    let t = taken s l e in
    subst (λ (z : Line ℕ). length (flat bracket_texts z.brackets) ≤ length s) (sym t.keeps) (omega (arith, KeptWithin.texts_kept t.read, Accepted.texts_read s l t))

-- "1 to n the residues, n+1 the C-terminus": positions of brackets
pub first_within : {P : Type 0} (n : ℕ) (k : Bracket P) → BracketWithin n k → k.first ≤ n + 1
first_within n k w = first_few k.kind k.first k.last n w.stands

pub last_within : {P : Type 0} (n : ℕ) (k : Bracket P) → BracketWithin n k → k.last ≤ n + 1
last_within n k w = last_few k.kind k.first k.last n w.stands

-- a line without its places keeps to what the line keeps to
pub tables_within : {P : Type 0} (l : Line P) → Within l → Within (tables_of l)
tables_within l w = BareWithin.within_bare l w
