-- A residue read with the letters behind it: stored, and what is due of them.
use mathlib.Core.Path.{ap, ◌∙◌}
use native.Mathlib.Omega.{arith}
use Rattle.walk.specs.Stages.{with_letters}
use Rattle.walk.specs.Steps.{letters_put, sections_put}
use Rattle.walk.proofs.Letters.{run_within}
use Rattle.walk.proofs.Stores.{run_count, run_stage}
use Rattle.walk.proofs.residues_read.Goals as goal

pub store_run-requires : goal.store_run-requires
store_run-requires c =
    let w = run_within c.args.line.now c.args.s.at c.requires.1 in
    (omega (arith, w, c.letter_end-end.ensures), c.requires.2, c.requires.0.residues, omega (arith, c.letter_end-end.ensures))

pub returns : goal.returns
returns c =
    let line = c.args.line.now in
    let t = c.args.sheet.now in
    let k = run_count line c.args.s c.args.section c.args.mode _ c.letter_end-end.ensures in
    record {
      stage = run_stage line c.args.s c.args.section c.args.mode _ c.letter_end-end.ensures _ _ _ c.saturating_sub.ensures c.group_of.ensures c.due_if-least.ensures;
      put =
          c.store_run.ensures
          ∙ ap (λ j. with_letters t (letters_put line c.args.s.at j c.args.s.residues t.letters) (sections_put c.args.section j c.args.s.residues t.sections)) k;
    }
