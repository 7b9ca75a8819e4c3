-- `positions::marks::strike` meets its contract. Assumes nothing.
use Rattle.brackets.specs.Fields.{first_is}
use Rattle.positions.specs.Legible.{first_within}
use Rattle.positions.proofs.Rows.{declared_struck, struck, not_struck}
use Rattle.positions.proofs.marks.strike.Goals as goal

pub returns-then-is_declared : goal.returns-then-is_declared
returns-then-is_declared c = declared_struck _ _ c.is_declared.ensures c.if-is_declared.true c.strike_named.ensures

pub returns-then-is_placed : goal.returns-then-is_placed
returns-then-is_placed c =
    struck _ _ c.is_declared.ensures c.if-is_declared.false c.is_placed.ensures c.if-is_placed.true (first_is _ _ c.first.ensures.0)
    (first_within c.requires.0 c.requires.1 c.first.ensures.0) c.requires.2

pub returns-else-is_placed : goal.returns-else-is_placed
returns-else-is_placed c = not_struck _ _ c.is_declared.ensures c.if-is_declared.false c.is_placed.ensures c.if-is_placed.false
