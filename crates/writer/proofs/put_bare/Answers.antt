-- The residues with a rank below that of bracket j stand before it and all behind it; those that stand by themselves are written at once. Assumes nothing.
use Rattle.std.proofs.Common.{arith}
use Rattle.writer.proofs.LineLaws.{letters_before, letters_written}
use Rattle.std.proofs.Common.{rules, length, ◌≤◌}
use Rattle.scope.specs.Layout.{bytes_size}
use Rattle.writer.proofs.put_bare.Goals as goal

pub returns : goal.returns
returns c =
    let bytes_long : bytes_size ≤ length c.args.bytes.now = search rules in
    let run = c.plain_end-next.ensures in
    letters_before c.args.bytes.now c.residues_before-e.ensures c.next_rank.ensures
    (letters_written c.args.bytes.now bytes_long (omega (arith, c.residues_before-e.ensures.0, c.requires.1)) run.from run.to run.plain c.word-place.ensures)
