-- One step: the byte at hand does what `act_of` has told, and each act leads on as its law says.
use Rattle.walk.proofs.Further.{low, stopped, gone_on, run_end, term_end, does_this}
use Rattle.walk.proofs.OneRun.{run_more}
use Rattle.walk.proofs.OneCount.{some_bracket, count_more}
use Rattle.walk.proofs.OneBracket.{bracket_asks, bracket_step}
use Rattle.walk.proofs.OnePlaces.{a_bracket, places_step}
use Rattle.walk.proofs.step_from.Goals as goal

pub gone-requires : goal.gone-requires
gone-requires c = low (does_this c.requires c.act_of-act.ensures c.in-Go.is)

pub residues_read-requires : goal.residues_read-requires
residues_read-requires c =
    let d = does_this c.requires c.act_of-act.ensures c.in-Residue.is in
    (low d, d.here, d.short)

pub bracket_read-requires : goal.bracket_read-requires
bracket_read-requires c = bracket_asks (does_this c.requires c.act_of-act.ensures c.in-Begin.is)

pub count_read-requires : goal.count_read-requires
count_read-requires c =
    let d = does_this c.requires c.act_of-act.ensures c.in-Digit.is in
    (low d, some_bracket d)

pub settled_in-requires : goal.settled_in-requires
settled_in-requires c = low (does_this c.requires c.act_of-act.ensures c.in-RunEnds.is)

pub term_ended-requires : goal.term_ended-requires
term_ended-requires c = low (does_this c.requires c.act_of-act.ensures c.in-TermEnds.is)

pub places_read-requires : goal.places_read-requires
places_read-requires c =
    let d = does_this c.requires c.act_of-act.ensures c.in-Places.is in
    (low d, d.here, d.short, a_bracket d)

pub returns-in-Stop : goal.returns-in-Stop
returns-in-Stop c = stopped (does_this c.requires c.act_of-act.ensures c.in-Stop.is)

pub returns-in-Go : goal.returns-in-Go
returns-in-Go c = gone_on c.gone.ensures (does_this c.requires c.act_of-act.ensures c.in-Go.is)

pub returns-in-Residue : goal.returns-in-Residue
returns-in-Residue c = run_more (does_this c.requires c.act_of-act.ensures c.in-Residue.is) c.residues_read.ensures

pub returns-in-Begin : goal.returns-in-Begin
returns-in-Begin c =
    bracket_step (does_this c.requires c.act_of-act.ensures c.in-Begin.is) c.bracket_read.result _ c.bracket_read.ensures

pub returns-in-Digit : goal.returns-in-Digit
returns-in-Digit c = count_more (does_this c.requires c.act_of-act.ensures c.in-Digit.is) c.count_read.ensures

pub returns-in-RunEnds : goal.returns-in-RunEnds
returns-in-RunEnds c = run_end c.settled_in.ensures (does_this c.requires c.act_of-act.ensures c.in-RunEnds.is)

pub returns-in-TermEnds : goal.returns-in-TermEnds
returns-in-TermEnds c = term_end c.term_ended.ensures.0 c.term_ended.ensures.1 (does_this c.requires c.act_of-act.ensures c.in-TermEnds.is)

pub returns-in-Places : goal.returns-in-Places
returns-in-Places c = places_step (does_this c.requires c.act_of-act.ensures c.in-Places.is) c.places_read.result _ c.places_read.ensures
