-- The row of a bracket that was read is the row of the definition's bracket; and the stage behind it.
use mathlib.Core.Path.{◌≡◌, ap, ap₂, ◌∙◌}
use mathlib.Core.Bool.{cond}
use mathlib.Core.List.{List}
use Prim.Native.Nat.{ℕ, ◌+◌, ◌≤◌, ◌<◌, min}
use native.Mathlib.Nat.{le_refl}
use native.Mathlib.Omega.{arith}
use lib.ListN.{length}
use Rattle.scope.specs.declared.grammar.Kind.{Kind}
use Rattle.scope.specs.declared.grammar.Mode.{Mode}
use Rattle.scope.specs.declared.grammar.Slot.{Slot}
use Rattle.scope.specs.Bytes.{wide_limit}
use Rattle.scope.specs.Kinds.{kind_code}
use Rattle.scope.specs.Limits.{line_limit, part_limit}
use Rattle.scope.specs.Line.{Bracket}
use Rattle.scope.specs.Reading.{position_of, bracket_of}
use Rattle.basics.specs.Kinds.{kind_byte, position_few}
use Rattle.scope.specs.Tables.{score_of}
use Rattle.sheet.specs.Rows.{sort_of, score_noted}
use Rattle.inside.specs.declared.Parts.{Parts}
use Rattle.labels.specs.Says.{score_code}
use Rattle.labels.proofs.Kept.{code_kept}
use Rattle.inside.specs.Says.{PartsAre}
use Rattle.walk.specs.declared.Stage.{Stage}
use Rattle.walk.specs.Stages.{Low}
use Rattle.walk.specs.Steps.{HeadSays, bracket_behind, noted?, run_behind}

module _ (s : Stage) (kind : Kind) (p : Parts) (low : Low s) (few : p.count ≤ line_limit) (few_labels : p.labels ≤ p.count) where
  pub head_says : (k sort first last score : ℕ) → k ≡ kind_code kind → ((line : List ℕ) (least : ℕ) (b : Bracket ℕ) → PartsAre line least p b.parts → sort ≡ sort_of b) → sort < wide_limit
      → first ≡ position_of kind s.residues s.group → last ≡ position_of kind s.residues s.residues → score ≡ score_code p.score → score < wide_limit
      → HeadSays s kind p (record { place = s.at; kind = k; sort = sort; first = first; last = last; parts = p.count; labels = p.labels; base = s.parts; score = score })
  head_says k sort first last score ek es sort-low ef el ep score-low = record {
    row = λ line least h ps a e f.
        let a1 : first ≡ position_of kind (length h.residues) h.first = ef ∙ ap₂ (position_of kind) e f in
        let a2 : last ≡ position_of kind (length h.residues) (length h.residues) = el ∙ ap₂ (position_of kind) e e in
        let a3 : sort ≡ sort_of (bracket_of kind s.at ps h) = es line least (bracket_of kind s.at ps h) a in
        let a4 : score ≡ score_noted (score_of ps) = ep ∙ ap score_code a.score ∙ code_kept (score_of ps) in
        rw (ek, a3, a1, a2, a.count, a.labels, a4);
    fits = record {
      place = omega (arith, low.at);
      kind = omega (arith, kind_byte kind, ek);
      sort = sort-low;
      first = omega (arith, position_few kind s.residues s.group low.group, ef, low.residues, low.at);
      last = omega (arith, position_few kind s.residues s.residues (le_refl s.residues), el, low.residues, low.at);
      parts = omega arith;
      labels = omega arith;
      base = omega (arith, low.parts);
      score = score-low;
    };
  }

-- the stage behind it
pub stage_behind : (s : Stage) (slot : Slot) (next : ℕ) (p : Parts) (mode : Mode) (run parts : ℕ) → mode ≡ cond p.refers slot.referred slot.after → run ≡ run_behind slot.kind s.run s.brackets
    → parts ≡ cond (noted? s) (s.parts + min part_limit p.count) s.parts
    → ◌≡◌ {A = Stage} (record { at = next; mode = mode; residues = s.residues; group = s.group; brackets = s.brackets + 1; run = run; parts = parts; least = p.least })
    (bracket_behind s slot next p)
stage_behind s slot next p mode run parts e f g =
    ap (λ m. record { at = next; mode = m; residues = s.residues; group = s.group; brackets = s.brackets + 1; run = run; parts = parts; least = p.least }) e
    ∙ ap₂ (λ x y. record { at = next; mode = cond p.refers slot.referred slot.after; residues = s.residues; group = s.group; brackets = s.brackets + 1; run = x; parts = y; least = p.least }) f g
