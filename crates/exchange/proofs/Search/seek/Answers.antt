use mathlib.Core.Path.{sym, ◌∙◌}
use native.Mathlib.Omega.{arith}
use Rattle.placement_laws.specs.Standing.{place}
use Rattle.exchange.proofs.Least.{passed_more, lowered_yes}
use Rattle.exchange.proofs.Laws.{from_parts, parts_from, from_high, attempt_not}
use Rattle.exchange.proofs.Search.seek.Goals as goal
use Rattle.exchange.proofs.Search.seek.Goals.{then-may+in_default, else-may}

pub returns-in-Some : goal.returns-in-Some
returns-in-Some c =
    let v = c.in-Some.ensures in
    lowered_yes _ _ _ c.loop-y.y _ (place c.in-Some.v.at) c.loop-y.invariant v.0 v.1 v.2

pub loop-y-preserved : goal.loop-y-preserved
loop-y-preserved c =
    passed_more _ _ _ _ _ c.loop-y.invariant (elim c.if-may.branch [
      | then-may+in_default w ↦ w.in_default.ensures
      | else-may w ↦ attempt_not _ _ _ _ _ c.args.w.now.at c.requires.0.inside (from_high _ _ _ _ (omega arith) ∙ sym c.may.ensures ∙ w.if-may.false)
    ])

pub returns : goal.returns
returns c = λ u f s m. c.loop-y.invariant u f s (omega arith)

pub loop-y-init : goal.loop-y-init
loop-y-init c = λ u f s m. let z = from_parts _ _ _ _ (f.fits c.args.i c.requires.0.inside) in omega (arith, z.0, m)

pub placed-requires : goal.placed-requires
placed-requires c = (c.requires.0, parts_from _ _ _ _ (omega arith) (sym c.may.ensures ∙ c.if-may.true))
