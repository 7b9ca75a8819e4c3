-- A reference is its `#`, where one may stand.
use Rattle.values.proofs.Words.{refers, refers_not}
use Rattle.values.proofs.reference_at.Goals as goal

pub returns-then-not-refers : goal.returns-then-not-refers
returns-then-not-refers c line k e = refers_not line _ _ k e c.if-not-refers.true

pub returns : goal.returns
returns c line k e = refers line _ _ k e c.if-not-refers.false
