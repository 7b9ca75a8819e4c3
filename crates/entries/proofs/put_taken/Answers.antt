-- `entries::put_taken` meets its contract: the line's tables are stored, printed and wiped, which leaves the areas as they were. Assumes nothing.
use native.Mathlib.Omega.{arith}
use mathlib.Core.Path.{refl}
use Rattle.store.proofs.NotedLine.{is_accepted}
use Rattle.reader.proofs.Storing.{filled, holds_of}
use Rattle.reader.proofs.Wiping.{put_back}
use Rattle.figures.proofs.Storing.{puts_of, puts_length}
use Rattle.entries.proofs.Taken.{known, taken_text}
use Rattle.entries.proofs.put_taken.Goals as goal

pub put_accepted-next-requires : goal.put_accepted-next-requires
put_accepted-next-requires c =
    let f = c.requires.0 in
    (known f.holds_line (is_accepted f.line_noted) (filled c.store.ensures), omega arith)

pub wipe-requires : goal.wipe-requires
wipe-requires c =
    let f = c.requires.0 in
    record { text = c.args.line.now; long = refl; held = f.holds_line; holds = holds_of f.holds_line (is_accepted f.line_noted) (filled c.store.ensures) }

pub returns : goal.returns
returns c =
    let f = c.requires.0 in
    let w = filled c.store.ensures in
    let same = put_back f w c.wipe.ensures in
    record {
      puts = puts_of (taken_text f c.requires.1 w) c.put_accepted-next.ensures;
      out_long = puts_length c.put_accepted-next.ensures;
      bytes_same = same.0;
      numbers_same = same.1;
    }
