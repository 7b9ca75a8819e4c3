-- From an accepted line and its tables in the areas to what is printed.
use mathlib.Core.Path.{◌≡◌, sym, ap, ◌∙◌}
use mathlib.Core.List.{List}
use Prim.Native.Nat.{ℕ}
use native.Mathlib.Omega.{arith}
use lib.IntN.{ℤ}
use lib.ListN.{length}
use Rattle.sheet.specs.declared.Sheet.{Sheet}
use Rattle.scope.specs.Line.{Line}
use Rattle.scope.specs.Refusals.{accepted, refused, outcome}
use Rattle.scope.specs.Canonical.{canonical}
use Rattle.scope.specs.Tables.{tables_of}
use Rattle.scope.specs.Layout.{tables_in}
use Rattle.scope.specs.Positions.{floaters}
use Rattle.scope.specs.Register.{total_text, fields, report}
use Rattle.order_laws.specs.Ranks.{orderedb}
use Rattle.order_laws.proofs.Proved.{accepted_ordered, same_order}
use Rattle.accepted_laws.specs.Laws.{accepted_short}
use Rattle.reading_laws.proofs.Bare.{same_canonical, same_total, same_lacking}
use Rattle.canonical_laws.proofs.Proved as canonicals
use Rattle.reader.specs.ReadSays.{Stored}
use Rattle.store.specs.Filled.{Fills}
use Rattle.verdict.specs.declared.Noted.{Noted}
use Rattle.store.proofs.NotedLine.{is_accepted, residues_many, brackets_many}
use Rattle.reader.proofs.Storing.{holds_of}
use Rattle.entries.specs.Entry.{ok_fields, no_fields, Known, Floats}

-- ---- what reading has shown
pub known : {s bs : List ℕ} {ns : List ℤ} {bs' : List ℕ} {ns' : List ℤ} (l : Line ℕ) → outcome s ≡ accepted l → Stored s bs ns bs' ns' → Known bs' ns'
known {s} {bs} {ns} {bs'} {ns'} l e w =
    let h = holds_of l e w in
    let c : canonical (tables_in bs' ns') ≡ canonical l = ap canonical h.tables ∙ same_canonical l in
    let short = accepted_short s l e in
    let long = (canonicals.laws).no_longer s l e in
    let z = ap length c in
    record {
      bounds = h.bounds;
      ordered = ap orderedb h.tables ∙ same_order l ∙ accepted_ordered s l e;
      short = omega arith;
    }

-- a line is accepted as one line
pub floats_of : (s : List ℕ) {l : Line ℕ} {many : ℕ} → outcome s ≡ accepted l → many ≡ length (floaters l) → Floats s many
floats_of s {l} e f m q =
    let same : l ≡ m = cc in
    f ∙ ap (λ x. length (floaters x)) same

-- ---- places do not matter to what is printed
total_bare : (l : Line ℕ) → total_text (tables_of l) ≡ total_text l
total_bare l = rw (same_lacking l, same_total l)

pub taken_text : {line : List ℕ} {sheet : Sheet} {n : Noted} {bs : List ℕ} {ns : List ℤ} {bs' : List ℕ} {ns' : List ℤ}
    → (f : Fills line sheet n.residues n.brackets bs ns) → Floats line n.floaters → Stored line bs ns bs' ns'
    → fields (ok_fields n (tables_in bs' ns')) ≡ report (outcome line)
taken_text f floats w =
    let l = f.holds_line in
    let noted = f.line_noted in
    let e = is_accepted noted in
    let t = (holds_of l e w).tables in
    let total = ap total_text t ∙ total_bare l in
    let itself = ap canonical t ∙ same_canonical l in
    rw (total, itself, residues_many noted, brackets_many noted, floats l e) (ap report (sym e))

pub refused_text : (s : List ℕ) {n p : ℕ} → outcome s ≡ refused n p → fields (no_fields n p) ≡ report (outcome s)
refused_text s e = ap report (sym e)
