-- `brackets::site_at` meets its contract: the N-terminus, a residue, or the C-terminus. Assumes nothing.
use Rattle.brackets.proofs.Places.{at_first, at_last, at_residue}
use Rattle.brackets.proofs.site_at.Goals as goal

pub returns-then-x-eq0 : goal.returns-then-x-eq0
returns-then-x-eq0 c = at_first _ _ c.if-x-eq0.true

pub returns-then-residues-x : goal.returns-then-residues-x
returns-then-residues-x c = at_last _ _ c.residues.ensures.0 c.if-residues-x.true c.requires.inside

pub returns-else-residues-x : goal.returns-else-residues-x
returns-else-residues-x c = at_residue _ _ c.if-x-eq0.false c.residues.ensures.0 c.if-residues-x.false c.letter.ensures
