-- `store::store_bracket` meets its contract: its head, its parts, its places and its score are put one after another. Assumes nothing.
use Rattle.store.proofs.PutRows.{back}
use Rattle.store.proofs.BracketLaws.{some_head, some_parts, some_places, bracket_put}
use Rattle.store.proofs.store_bracket.Goals as goal

pub store_head-requires : goal.store_head-requires
store_head-requires c = some_head c.requires

pub store_parts-u-requires : goal.store_parts-u-requires
store_parts-u-requires c = some_parts c.base_of-m.ensures.0 c.parts_of-n.ensures.0 c.store_head.ensures c.requires

pub store_places-requires : goal.store_places-requires
store_places-requires c =
    some_places c.base_of-m.ensures.0 c.parts_of-n.ensures.0 c.store_head.ensures c.places_of-at.ensures.0 c.many_of-many.ensures.0 c.requires

pub put_score-requires : goal.put_score-requires
put_score-requires c = c.requires.fits.few_brackets_lem

pub returns : goal.returns
returns c =
    bracket_put c.base_of-m.ensures.0 c.parts_of-n.ensures.0 c.store_head.ensures c.places_of-at.ensures.0 c.many_of-many.ensures.0
    c.store_parts-u.ensures c.store_places.ensures (back _ c.points_of.type_inv c.points_of.ensures) c.put_score.ensures
