-- `reader::read` meets its contract: too short an area is refused, and the areas begin with those that are read into. Assumes nothing.
use Rattle.reader.proofs.Reading.{refuses_numbers, reads_front}
use Rattle.reader.proofs.read.Goals as goal

pub returns-in_default-first_chunk_mut : goal.returns-in_default-first_chunk_mut
returns-in_default-first_chunk_mut c =
    let b = c.in-Some.ensures.cases in
    refuses_numbers _ _ _ b.enough c.in_default-first_chunk_mut.ensures.cases b.same

pub returns : goal.returns
returns c =
    let b = c.in-Some.ensures.cases in
    let n = c.in-Some-first_chunk_mut.ensures.cases in
    reads_front _ _ _ b.enough n.enough b.same n.same _ _ _ c.read_roomy.ensures
