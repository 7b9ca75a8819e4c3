use borrow.Author.Rules.{rules}
use native.Mathlib.Omega.{arith}
use Rattle.held.proofs.BracketLaws.{frame_fits, some_places, parting_start, parting_fits, parting_next, frame_stops, parting_stops, parting_end}
use Rattle.held.proofs.bracket_held.Goals as goal

pub base_of-m-requires : goal.base_of-m-requires
base_of-m-requires c = c.requires.1.few_brackets_lem

pub parts_of-n-requires : goal.parts_of-n-requires
parts_of-n-requires c = c.requires.1.few_brackets_lem

pub places_of-at-requires : goal.places_of-at-requires
places_of-at-requires c = c.requires.1.few_brackets_lem

pub many_of-many-requires : goal.many_of-many-requires
many_of-many-requires c = c.requires.1.few_brackets_lem

pub frame_held-requires : goal.frame_held-requires
frame_held-requires c = frame_fits c.parts_of-n.ensures.0 c.requires

pub places_held-requires : goal.places_held-requires
places_held-requires c = some_places c.places_of-at.ensures.0 c.many_of-many.ensures.0 c.requires

pub loop-j-init : goal.loop-j-init
loop-j-init c = parting_start c.requires c.base_of-m.ensures.0 c.parts_of-n.ensures.0

pub overflow_add-m : goal.overflow_add-m
overflow_add-m c = omega (arith, c.base_of-m.ensures.1, c.parts_of-n.ensures.1)

pub part_held-requires : goal.part_held-requires
part_held-requires c = parting_fits c.loop-j.invariant (omega arith)

pub loop-j-preserved : goal.loop-j-preserved
loop-j-preserved c = parting_next c.loop-j.invariant (omega arith) c.in_ok-u.ensures

pub returns-then-not-so : goal.returns-then-not-so
returns-then-not-so c =
    frame_stops c.parts_of-n.ensures.0 c.places_of-at.ensures.0 c.many_of-many.ensures.0 (search rules) c.frame_held.ensures c.places_held.ensures c.if-not-so.true

pub returns-in_err-u : goal.returns-in_err-u
returns-in_err-u c =
    rw c.from_residual.ensures
    (parting_stops c.parts_of-n.ensures.0 c.places_of-at.ensures.0 c.many_of-many.ensures.0 (search rules) c.frame_held.ensures c.places_held.ensures c.loop-j.invariant
    (omega arith) c.in_err-u.ensures)

pub returns : goal.returns
returns c =
    parting_end c.parts_of-n.ensures.0 c.places_of-at.ensures.0 c.many_of-many.ensures.0 (search rules) c.frame_held.ensures c.places_held.ensures c.loop-j.invariant
    (omega arith) c.if-not-so.false
