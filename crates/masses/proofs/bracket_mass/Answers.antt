use mathlib.Core.Path.{◌≡◌, sym, ap, ◌∙◌}
use native.Mathlib.Omega.{arith}
use mir.Syntax.{w64}
use mir.Val.{to_z, of_z}
use borrow.Author.Rules.{rules}
use Rattle.scope.specs.declared.answers.Mass.TheVariants.{Stated, Measured}
use Rattle.masses.proofs.PartLaws.{sought_start, sought_none, sought_stated, sought_more, sought_part, sought_measured, sought_nothing, reach_next}
use Rattle.masses.proofs.bracket_mass.Goals as goal
use Rattle.masses.proofs.bracket_mass.Goals.{then-has_mass+else-not-is_measured, else-has_mass}

pub loop-j-preserved : goal.loop-j-preserved
loop-j-preserved c =
    elim c.if-has_mass.branch [
      | then-has_mass+else-not-is_measured w ↦
          sought_more _ _ _ c.loop-j.invariant (omega arith) (sym c.has_mass.ensures ∙ w.if-has_mass.true) (sym w.is_measured.ensures ∙ w.if-not-is_measured.false) (w.measured-is ∙ w.or-measured.ensures)
      | else-has_mass w ↦ sought_none _ _ _ c.loop-j.invariant (omega arith) (sym c.has_mass.ensures ∙ w.if-has_mass.false) w.measured-is
    ]

pub part_mass-requires-in-Some : goal.part_mass-requires-in-Some
part_mass-requires-in-Some c = reach_next c.requires c.loop-j.invariant.many (sought_part _ _ _ c.loop-j.invariant c.in-Some.is)

pub loop-j-init : goal.loop-j-init
loop-j-init c = sought_start _ _ _ c.parts-n.ensures.0 c.parts-n.ensures.1

pub returns-then-not-is_measured : goal.returns-then-not-is_measured
returns-then-not-is_measured c =
    let read : to_z w64 (of_z w64 c.part_mass.result) ≡ c.part_mass.result = search rules in
    ap Stated (read ∙ c.part_mass.ensures)
    ∙ sought_stated _ _ _ c.loop-j.invariant (omega arith) (sym c.has_mass.ensures ∙ c.if-has_mass.true)
    (sym c.is_measured.ensures ∙ c.if-not-is_measured.true)

pub returns-in-Some : goal.returns-in-Some
returns-in-Some c =
    let read : to_z w64 (of_z w64 c.part_mass-in-Some.result) ≡ c.part_mass-in-Some.result = search rules in
    ap Measured (read ∙ c.part_mass-in-Some.ensures) ∙ sought_measured _ _ _ c.loop-j.invariant (omega arith) c.in-Some.is

pub returns-in-None : goal.returns-in-None
returns-in-None c = sought_nothing _ _ _ c.loop-j.invariant (omega arith) c.in-None.is
