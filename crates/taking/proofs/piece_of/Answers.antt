-- `taking::piece_of` meets its contract: the piece is a part of the content. Assumes nothing.
use Rattle.taking.proofs.Chained.{piece_cut}
use Rattle.taking.proofs.piece_of.Goals as goal

pub returns : goal.returns
returns c = piece_cut c.args.content.now c.args.k c.min.result c.requires c.min.ensures
