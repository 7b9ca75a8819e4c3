-- `masses::book_placed` meets its contract. Assumes nothing.
use mathlib.Core.Path.{◌≡◌}
use mir.Syntax.{w64}
use mir.Val.{to_z, of_z}
use Rattle.brackets.specs.Fields.{first_is}
use Rattle.masses.proofs.LedgerLaws.{placing_named, placing_fits, placed_reached, placed_own, placed_nowhere}
use borrow.Author.Rules.{rules}
use Rattle.masses.proofs.book_placed.Goals as goal

pub book_named-requires : goal.book_named-requires
book_named-requires c =
    let mass = c.mass_or_0-m in
    let read : to_z w64 (of_z w64 mass.result) ≡ mass.result = search rules in
    placing_named c.requires read mass.ensures

pub returns-then-is_declared : goal.returns-then-is_declared
returns-then-is_declared c =
    let mass = c.mass_or_0-m in
    let read : to_z w64 (of_z w64 mass.result) ≡ mass.result = search rules in
    placed_reached c.requires read mass.ensures (c.is_declared.ensures _) c.if-is_declared.true c.book_named.ensures

pub book-requires : goal.book-requires
book-requires c =
    let mass = c.mass_or_0-m-then-is_placed in
    let read : to_z w64 (of_z w64 mass.result) ≡ mass.result = search rules in
    placing_fits c.requires read mass.ensures

pub returns-then-is_placed : goal.returns-then-is_placed
returns-then-is_placed c =
    let first = c.first-x in
    let mass = c.mass_or_0-m-then-is_placed in
    let read : to_z w64 (of_z w64 mass.result) ≡ mass.result = search rules in
    placed_own c.requires read mass.ensures (c.is_declared.ensures _) c.if-is_declared.false (c.is_placed.ensures _) c.if-is_placed.true
    first.ensures.0 (first_is _ _ first.ensures.0 _) c.book.ensures

pub returns-else-is_placed : goal.returns-else-is_placed
returns-else-is_placed c = placed_nowhere c.requires (c.is_declared.ensures _) c.if-is_declared.false (c.is_placed.ensures _) c.if-is_placed.false
