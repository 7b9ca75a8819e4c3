-- What walking a line says: the place of refusal 4, or what the line holds, as the tables note it, and the first refusal due of 5 to 9 and 19.
use Rattle.std.specs.Prelude.{◌≡◌, List, ℕ, length, Result, Ok, Err}
use Rattle.scope.specs.Line.{Line}
use Rattle.scope.specs.Reading.{stuck, holds, reading}
use Rattle.sheet.specs.declared.Sheet.{Sheet}
use Rattle.sheet.specs.Rows.{Noted, Lettered}
use Rattle.scope.specs.Refusals.{line_refusals}
use Rattle.dues.specs.Ranks.{lowest, no_code}
use Rattle.dues.specs.Lines.{met_codes}
use Rattle.walk.specs.declared.Walked.{Walked}
use Rattle.scope.specs.declared.grammar.Stuck.{Stuck}

pub record LineSays (line : List ℕ) (residues brackets least : ℕ) (t : Sheet) : Type 0 where
  pub held : Line ℕ
  pub is : reading line ≡ holds held
  pub residues_are : residues ≡ length held.residues
  pub brackets_are : brackets ≡ length held.brackets
  pub least_is : least ≡ lowest (no_code (line_refusals held)) (met_codes held.residues held.brackets)
  pub parts : ℕ
  pub noted : Noted line held.brackets parts t.heads t.parts t.masses t.scores
  pub lettered : Lettered held.residues t.letters t.sections

abbrev pub WalkSays : List ℕ → Result Walked Stuck → Sheet → Type 0
WalkSays line (Err e) t = reading line ≡ stuck e.at
WalkSays line (Ok w) t = LineSays line w.residues w.brackets w.least t
