-- `masses::book_bracket` meets its contract. Assumes nothing.
use mathlib.Core.Path.{◌≡◌}
use mir.Syntax.{w64}
use mir.Val.{to_z, of_z}
use Rattle.masses.proofs.LedgerLaws.{float_asks}
use borrow.Author.Rules.{rules}
use Rattle.masses.proofs.book_bracket.Goals as goal

pub book_copies-requires : goal.book_copies-requires
book_copies-requires c =
    let read : to_z w64 (of_z w64 c.mass_or_0-m.result) ≡ c.mass_or_0-m.result = search rules in
    float_asks c.requires (c.copies_of-c.ensures _) c.mass_or_0-m.ensures read
