use Rattle.std.proofs.lemmas.Result.{err_from_is_err_and}
use mathlib.Core.Path.{ap, ◌∙◌}
use Rattle.std.specs.Prelude.{Ok}
use Prim.Native.Nat.{◌-◌}
use native.Mathlib.Omega.{arith}
use Rattle.sheet.proofs.KeptLaws.{parts_kept, parts_then}
use Rattle.inside.proofs.Reading.{at_first, fits, then_lost, then_closed, then_more}
use Rattle.inside.proofs.bracket_at.Goals as goal

pub loop-next-init : goal.loop-next-init
loop-next-init c = record { sofar = at_first _ _ _ c.requires.within c.no_parts-s.ensures; kept = parts_kept _ }

pub next_part-requires : goal.next_part-requires
next_part-requires c = fits _ _ _ _ _ _ c.requires c.loop-next.invariant.sofar

pub returns-in_err-next-clause-others_kept : goal.returns-in_err-next-clause-others_kept
returns-in_err-next-clause-others_kept c = parts_then c.loop-next.invariant.kept c.next_part.ensures.others_kept

pub returns-in_err-next-clause-says : goal.returns-in_err-next-clause-says
returns-in_err-next-clause-says c =
    let p = err_from_is_err_and c.from_residual.result c.from_residual.ensures.1 in
    rw (p.1, p.2) (then_lost _ _ _ _ _ _ (c.next_part.ensures.says _ _ _ _ c.loop-next.invariant.sofar) _ c.in_err-next.was)

pub returns-in-Closed-clause-others_kept : goal.returns-in-Closed-clause-others_kept
returns-in-Closed-clause-others_kept c = parts_then c.loop-next.invariant.kept c.next_part.ensures.others_kept

pub returns-in-Closed-clause-says : goal.returns-in-Closed-clause-says
returns-in-Closed-clause-says c = then_closed _ _ _ _ _ _ (c.next_part.ensures.says _ _ _ _ c.loop-next.invariant.sofar) _ _ (c.in_ok-next.was ∙ ap Ok c.in-Closed.is)

pub loop-next-smaller : goal.loop-next-smaller
loop-next-smaller c =
    let m = then_more _ _ _ _ _ _ (c.next_part.ensures.says _ _ _ _ c.loop-next.invariant.sofar) _ _ (c.in_ok-next.was ∙ ap Ok c.in-More.is) in
    omega (arith, m.1, m.0.within)

pub loop-next-preserved : goal.loop-next-preserved
loop-next-preserved c =
    record {
      sofar = (then_more _ _ _ _ _ _ (c.next_part.ensures.says _ _ _ _ c.loop-next.invariant.sofar) _ _ (c.in_ok-next.was ∙ ap Ok c.in-More.is)).0;
      kept = parts_then c.loop-next.invariant.kept c.next_part.ensures.others_kept;
    }
