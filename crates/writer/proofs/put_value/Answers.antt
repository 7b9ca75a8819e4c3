-- A mass, a text or a composition's, or nothing, by the code of the value. Assumes nothing.
use mathlib.Core.Path.{◌∙◌}
use borrow.Author.Rules.{rules}
use mathlib.Core.Logic.{inl, inr}
use native.Mathlib.Omega.{arith}
use mir.Syntax.{w64}
use mir.Facts.{to_z-of_z}
use Rattle.figures.proofs.Storing.{puts_none, puts_of, puts_within}
use Rattle.writer.proofs.PartTexts.{value_mass_lem, value_text_lem, value_composition, value_none}
use Rattle.writer.proofs.put_value.Goals as goal

pub returns-in-1 : goal.returns-in-1
returns-in-1 c =
    let a = c.args in
    let read = to_z-of_z {w = w64} {z = c.mass.result} (record { sfits = c.mass.type_inv }) ∙ c.mass.ensures in
    puts_of (value_mass_lem a.bytes.now a.numbers.now a.k a.j c.value.ensures.0 c.in-1.is c.decimals-d.ensures.0 read)
    (puts_within (omega arith) c.put_number.ensures)

pub returns-in-2 : goal.returns-in-2
returns-in-2 c =
    let a = c.args in
    let put = puts_within (omega arith) c.put_text.ensures in
    elim c.in-2.is [
      | inl e ↦ puts_of (value_text_lem a.bytes.now a.numbers.now a.k a.j c.value.ensures.0 e) put
      | inr e ↦ puts_of (value_composition a.bytes.now a.numbers.now a.k a.j c.value.ensures.0 e) put
    ]

pub returns-in_default : goal.returns-in_default
returns-in_default c =
    let a = c.args in
    puts_of (value_none a.bytes.now a.numbers.now a.k a.j c.value.ensures.0 (search rules) (search rules) (search rules)) (puts_within (omega arith) (puts_none _ _))
