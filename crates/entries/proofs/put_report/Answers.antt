-- `entries::put_report` meets its contract: what the verdict has noted of an accepted line is printed, or the refusal that it answers, and each arm says which of the two the outcome is. Assumes nothing.
use mathlib.Core.Path.{refl, sym, ap}
use native.Mathlib.Omega.{arith}
use Rattle.store.proofs.NotedLine.{is_accepted}
use Rattle.reader.proofs.Storing.{fills}
use Rattle.figures.proofs.Storing.{puts_of, puts_within, puts_length}
use Rattle.entries.specs.Entry.{is_refused}
use Rattle.entries.proofs.Taken.{refused_text, floats_of}
use Rattle.entries.proofs.put_report.Goals as goal

pub put_taken-requires : goal.put_taken-requires
put_taken-requires c =
    let w = rw c.in-Ok.is at c.judge.ensures in
    (fills w.1 c.requires.0, floats_of c.args.line.now (is_accepted {l = w.0} w.1) w.2, omega arith)

pub returns-in-Ok : goal.returns-in-Ok
returns-in-Ok c =
    let w = rw c.in-Ok.is at c.judge.ensures in
    (c.put_taken.ensures, ap is_refused (sym (is_accepted {l = w.0} w.1)))

pub returns-in-Err : goal.returns-in-Err
returns-in-Err c =
    let w = rw c.in-Err.is at c.judge.ensures in (
      record {
        puts = puts_of (refused_text c.args.line.now w) (puts_within (omega arith) c.put_refused.ensures);
        out_long = puts_length c.put_refused.ensures;
        bytes_same = refl;
        numbers_same = refl;
      },
      ap is_refused (sym w),
    )
