-- `placements::begun` meets its contract: by zeros, the least placement of all or 17; else 18.
use mathlib.Core.Path.{◌≡◌, sym, ap, ◌∙◌}
use lib.ListN.{length}
use Rattle.std.specs.Prelude.{Some, None}
use Rattle.scope.specs.Limits.{copy_limit}
use Rattle.scope.specs.Answers.{good, of_good, moved}
use Rattle.placement_laws.specs.Standing.{place}
use Rattle.exchange.proofs.Laws.{full_small}
use Rattle.placements.proofs.Answers.{begun_found, begun_refused}
use borrow.Author.Rules.{rules}
use Rattle.placements.proofs.begun.Goals as goal

pub returns-then-not-unused : goal.returns-then-not-unused
returns-then-not-unused c copy o = sym (ap (of_good moved) (begun_refused _ c.args.l c.requires.1 c.if-not-unused.ensures))

pub returns-in_default : goal.returns-in_default
returns-in_default c copy o =
    let a = c.args in
    let long : length a.l.at ≡ copy_limit = search rules in
    sym (ap (of_good moved) (begun_found a.tab.now copy a.k a.l None c.requires.0 o c.requires.1 long c.if-not-unused.ensures tt c.in_default.ensures))

pub moved-requires : goal.moved-requires
moved-requires c = (c.requires.0.few, λ s l. full_small c.args.tab.now _ s (place c.in-Some.least.at) c.in-Some.ensures.0 l)

pub returns : goal.returns
returns c copy o =
    let a = c.args in
    let long : length a.l.at ≡ copy_limit = search rules in
    let w = c.in-Some.least in
    let eight : length w.at ≡ copy_limit = search rules in
    ap good c.moved.ensures
    ∙ sym (ap (of_good moved) (begun_found a.tab.now copy a.k a.l (Some w) c.requires.0 o c.requires.1 long c.if-not-unused.ensures eight c.in-Some.ensures))
