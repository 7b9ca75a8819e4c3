-- `masses::tally_with` meets its contract. Assumes nothing.
use mathlib.Core.Path.{◌≡◌, sym, ◌∙◌}
use native.Mathlib.Omega.{arith}
use mir.Syntax.{w64}
use mir.Val.{to_z, of_z}
use Rattle.scope.specs.Layout.{bracket_in, tables_in}
use Rattle.scope.specs.Line.{Bracket}
use Rattle.scope.specs.Masses.{times}
use Rattle.scope.specs.Tables.{Tables}
use Rattle.masses.proofs.PartLaws.{is_unstated}
use Rattle.masses.proofs.TallyLaws.{asks_times, asks_add, tallied_by_machine, lacked_by_machine, tallied_none}
use borrow.Author.Rules.{rules}
use Rattle.masses.proofs.tally_with.Goals as goal

pub times-requires : goal.times-requires
times-requires c =
    let tables : Tables = tables_in c.args.bytes.now c.args.numbers.now in
    let bracket : Bracket (Unit {0}) = bracket_in c.args.bytes.now c.args.numbers.now c.args.k in
    let counted : c.counts-n.result ≡ times tables bracket = c.counts-n.ensures.0 _ (sym (c.is_modification.ensures _) ∙ c.if-not-is_modification.false) in
    let read : to_z w64 (of_z w64 c.in-Stated.m) ≡ c.in-Stated.m = search rules in
    let asks = asks_times c.requires counted c.bracket_mass.ensures c.in-Stated.is read in
    (omega (arith, asks.0), asks.1)

pub add-requires : goal.add-requires
add-requires c =
    let tables : Tables = tables_in c.args.bytes.now c.args.numbers.now in
    let bracket : Bracket (Unit {0}) = bracket_in c.args.bytes.now c.args.numbers.now c.args.k in
    let counted : c.counts-n.result ≡ times tables bracket = c.counts-n.ensures.0 _ (sym (c.is_modification.ensures _) ∙ c.if-not-is_modification.false) in
    let read : to_z w64 (of_z w64 c.in-Stated.m) ≡ c.in-Stated.m = search rules in
    asks_add c.requires counted c.bracket_mass.ensures c.in-Stated.is read c.times.ensures

pub returns-in-Stated : goal.returns-in-Stated
returns-in-Stated c =
    let tables : Tables = tables_in c.args.bytes.now c.args.numbers.now in
    let bracket : Bracket (Unit {0}) = bracket_in c.args.bytes.now c.args.numbers.now c.args.k in
    let counted : c.counts-n.result ≡ times tables bracket = c.counts-n.ensures.0 _ (sym (c.is_modification.ensures _) ∙ c.if-not-is_modification.false) in
    let read : to_z w64 (of_z w64 c.in-Stated.m) ≡ c.in-Stated.m = search rules in
    let sum : to_z w64 (of_z w64 c.add.result) ≡ c.add.result = search rules in
    tallied_by_machine c.requires counted c.bracket_mass.ensures c.in-Stated.is read (c.is_modification.ensures _) c.if-not-is_modification.false c.times.ensures c.add.ensures sum

pub returns-in-Measured : goal.returns-in-Measured
returns-in-Measured c =
    let tables : Tables = tables_in c.args.bytes.now c.args.numbers.now in
    let bracket : Bracket (Unit {0}) = bracket_in c.args.bytes.now c.args.numbers.now c.args.k in
    let counted : c.counts-n.result ≡ times tables bracket = c.counts-n.ensures.0 _ (sym (c.is_modification.ensures _) ∙ c.if-not-is_modification.false) in
    lacked_by_machine c.requires (c.is_modification.ensures _) c.if-not-is_modification.false counted
    (is_unstated _ c.bracket_mass.ensures c.in-Measured.is)

pub returns-then-not-is_modification : goal.returns-then-not-is_modification
returns-then-not-is_modification c = tallied_none _ _ (c.is_modification.ensures _) c.if-not-is_modification.true
