use Rattle.numerals.proofs.finished.Goals as goal

pub returns : goal.returns
returns c = λ p m e. rw (c.scaled.ensures p m e)
