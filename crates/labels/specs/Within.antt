-- What is said from a place within a label on, whatever part it belongs to and whatever bracket that stands in.
use Rattle.std.specs.Prelude.{◌≡◌, cond, List, ℕ, ◌+◌, ◌<◌, ◌≤◌, eqb, length, drop, get_or, Result, Ok, Err}
use Rattle.std.specs.Prelude.{Option as Perhaps}
use Rattle.scope.specs.declared.grammar.Stuck.{Stuck}
use Rattle.std.proofs.Math.Option.{Option, some}
use Rattle.scope.specs.declared.grammar.Slot.{Slot}
use Rattle.scope.specs.Bytes.{dash, shut_round, is_sign}
use Rattle.scope.specs.Line.{Number, Label as Written, Part}
use Rattle.scope.specs.Content.{signed, Context, Content, lost, going, scored, part_end, labelled}
use Rattle.scope.specs.Reading.{Held, stuck}
use Rattle.numerals.specs.Numerals.{Scanned, scan_number}
use Rattle.values.specs.Says.{through}
use Rattle.labels.specs.Says.{score_kept, ScoreAt, IsLabel}
use Rattle.labels.specs.declared.Label.{Label}
use Rattle.labels.specs.declared.Score.{Score}

-- from j on, where the byte does F, the label that stands at `at` is read
pub record LabelReadsFrom (line : List ℕ) (at j : ℕ) (F : Part ℕ → Context ℕ → ℕ → Content ℕ) (r : Label) : Type 0 where
  pub found : Written ℕ
  pub is_label : IsLabel line at r found
  pub on : (q : Part ℕ) (s : Slot) (o : ℕ) (h : Held ℕ) (c : Context ℕ)
      → through line s o h j (F q c) ≡ through line s o h r.next (part_end c (labelled q found.at found.name found.score))

unfoldable pub SaysFrom : List ℕ → ℕ → ℕ → (Part ℕ → Context ℕ → ℕ → Content ℕ) → Result Label Stuck → Type 0
SaysFrom line at j F (Err e) = (q : Part ℕ) (s : Slot) (o : ℕ) (h : Held ℕ) (c : Context ℕ) → through line s o h j (F q c) ≡ stuck e.at
SaysFrom line at j F (Ok r) = LabelReadsFrom line at j F r

-- a name stands from a place to another, with a score behind it or none
pub record Scored (line : List ℕ) (from to : ℕ) (score : Perhaps Score) (s : Option (Number ℕ)) : Type 0 where
  pub some_name : from < to
  pub to_inside : to ≤ length line
  pub score_is : score ≡ score_kept s
  pub score_place : ScoreAt (to + 1) s

-- what the byte behind a score's number does
unfoldable pub score_end : {P : Type 0} → Context P → Part P → P → List ℕ → Number P → ℕ → Content P
score_end c q at name n b = cond (eqb b shut_round) (going (scored c (labelled q at name (some n)))) lost

-- a number at a place, with a sign or without: where its digits begin, and what is scanned
abbrev pub digits_at : List ℕ → ℕ → ℕ
digits_at line at = cond (is_sign (get_or line at 0)) (at + 1) at

unfoldable pub scan_signed : List ℕ → ℕ → Scanned
scan_signed line at = scan_number at (signed (eqb (get_or line at 0) dash)) (drop (digits_at line at) line) (digits_at line at)
