-- `held::head_held` meets its contract: the fields of the two rows, one by one. Assumes nothing.
use borrow.Author.Rules.{rules}
use Rattle.held.proofs.Joins.{tells_equal}
use Rattle.held.proofs.FieldLaws.{head_told}
use Rattle.held.proofs.head_held.Goals as goal

pub returns : goal.returns
returns c =
    head_told (record { low = c.fits-bytes; long = search rules }) c.args.k c.requires
    (tells_equal c.kind.ensures.0 c.kind_of.ensures.0)
    (tells_equal c.first.ensures.0 c.first_of.ensures.0)
    (tells_equal c.last.ensures.0 c.last_of.ensures.0)
    (tells_equal c.count.ensures.0 c.count_of.ensures.0)
    (tells_equal c.parts.ensures.0 c.parts_of.ensures.0)
    (tells_equal c.score.ensures.0 c.score_of.ensures.0)
