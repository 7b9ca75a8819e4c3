-- The parts of a bracket, one after the other: behind each turn, what is known of those read so far; the bytes left get fewer.
use Prim.Native.Nat.{◌-◌}
use lib.ListN.{length}
use Rattle.sheet.specs.Kept.{OnlyParts}
use Rattle.inside.specs.Progress.{Sofar}
use Rattle.inside.proofs.bracket_at.Given as goal

abbrev pub invariant-loop-next : goal.invariant-loop-next
invariant-loop-next l = record {
  sofar : Sofar l.line
      (record { at = l.at; shut = l.shut; refers = l.refers; labels = l.labels; room = l.room; base = l.base; least = l.least; parts = l.initial.sheet.parts; masses = l.initial.sheet.masses })
      l.i l.s l.sheet.parts l.sheet.masses;
  kept : OnlyParts l.initial.sheet l.sheet;
}

abbrev pub decreases-loop-next : goal.decreases-loop-next
decreases-loop-next l = length l.line - l.i
