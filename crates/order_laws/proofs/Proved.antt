-- The laws of the order of brackets, proved.
use Rattle.std.specs.Prelude.{◌≡◌, List, ℕ}
use Rattle.std.proofs.Common.{ap, ◌∙◌}
use Rattle.scope.specs.Line.{Line}
use Rattle.scope.specs.Reading.{holds, reading}
use Rattle.scope.specs.Refusals.{accepted, outcome}
use Rattle.scope.specs.Tables.{tables_of}
use Rattle.reading_laws.proofs.Taken.{taken}
use Rattle.order_laws.specs.Ranks.{orderedb, InOrder}
use Rattle.order_laws.specs.Laws.{Laws}
use Rattle.order_laws.proofs.Climbs as climbs
use Rattle.order_laws.proofs.Reader as reader

-- of every line of the order, limits apart
pub read_ordered : (s : List ℕ) (l : Line ℕ) → reading s ≡ holds l → InOrder l
read_ordered s l e = reader.read_ordered s l e

-- of every accepted line
pub accepted_ordered : (s : List ℕ) (l : Line ℕ) → outcome s ≡ accepted l → InOrder l
accepted_ordered s l e = let t = taken s l e in ap orderedb t.keeps ∙ climbs.ordered_kept t.read ∙ reader.read_ordered s t.read t.reads

-- places do not matter
pub same_order : {P : Type 0} (l : Line P) → orderedb (tables_of l) ≡ orderedb l
same_order l = climbs.ordered_bare l

pub laws : Laws
laws = record { read_ordered = read_ordered; accepted_ordered = accepted_ordered; same_order = same_order }
