-- 14 "tables that no accepted line reads to": the ways in which areas fail to be tables.
use Rattle.std.specs.Prelude as O
use Rattle.std.specs.Prelude.{◌≡◌, refl, Bool, true, false, List, [], ◌∷◌, ◌++◌, ℕ, ◌<◌, ◌≤◌, ℤ, Some, None, is_some, length, take, drop}
use Rattle.std.proofs.Common.{sym, ap, ◌∙◌, subst, arith, lt-ltb, take_all}
use Rattle.std.proofs.lemmas.Bool.{false≢true}
use Rattle.std.proofs.Math.Option.{Option, none, some}
use Rattle.std.proofs.Math.Seq.{take-append_seam}
use Rattle.scope.specs.Limits.{line_limit}
use Rattle.scope.specs.Lists.{given}
use Rattle.scope.specs.Refusals.{least, Due, due, Outcome, refused, first_due, refusal1, refusal2, refusal3, judged, outcome}
use Rattle.scope.specs.Reading.{reading}
use Rattle.scope.specs.Canonical.{canonical}
use Rattle.scope.specs.Layout.{bytes_size, numbers_size, tables_in}
use Rattle.scope.specs.Answers.{reads_to, are_tables}
use Rattle.basics.specs.Choice.{by_test}
use Rattle.layout_laws.proofs.Laws.{tables_held}
use Rattle.order_laws.specs.Ranks.{orderedb}
use Rattle.order_laws.proofs.Proved.{accepted_ordered, same_order}
use Rattle.writer.specs.Written.{WholeLine}
use Rattle.tabled.specs.LineOf.{LineOf}

-- ---- the brackets of tables are in order
pub tables_ordered : (bs : List ℕ) (ns : List ℤ) → are_tables bs ns ≡ true → orderedb (tables_in bs ns) ≡ true
tables_ordered bs ns e =
    let h = tables_held bs ns e in
    ap orderedb h.1.tables ∙ same_order h.0 ∙ accepted_ordered (canonical (tables_in bs ns)) h.0 h.1.reads

pub order_needed : (bs : List ℕ) (ns : List ℤ) → orderedb (tables_in bs ns) ≡ false → are_tables bs ns ≡ false
order_needed bs ns n =
    by_test (are_tables bs ns) (λ e. absurd (false≢true (sym n ∙ tables_ordered bs ns e))) (λ e. e)

-- ---- "line 1 to 4,096 bytes": a canonical line over that is refused
not_read : (o : Option ℕ) (n : ℕ) (ds : List Due) (p : Outcome) (bs : List ℕ) (ns : List ℤ) → reads_to (first_due ds p) bs ns ≡ false
    → reads_to (given o (refused n) (first_due ds p)) bs ns ≡ false
not_read none n ds p bs ns e = e
not_read (some i) n ds p bs ns e = refl

pub too_long : (s bs : List ℕ) (ns : List ℤ) → line_limit < length s → reads_to (outcome s) bs ns ≡ false
unfolding outcome first_due least refusal2
too_long s bs ns h = not_read (least (refusal1 s)) 1 (due 2 (refusal2 s) ∷ due 3 (refusal3 s) ∷ []) (judged (reading s)) bs ns (rw (lt-ltb line_limit (length s) h))

pub length_needed : (bs : List ℕ) (ns : List ℤ) → line_limit < length (canonical (tables_in bs ns)) → are_tables bs ns ≡ false
unfolding are_tables
length_needed bs ns h = too_long (canonical (tables_in bs ns)) (take bytes_size bs) (take numbers_size ns) h

-- ---- what is written at the front of an output that has room for it
pub front : (c o left : List ℕ) (r : ℕ) → WholeLine c o left r → r ≤ length o → take r left ≡ c
front c o left r w h =
    let k : length c ≤ length o = rw w.long at h in
    ap (λ z. take z left) w.long ∙ ap (take (length c)) (w.holds ∙ ap (λ z. z ++ drop (length c) o) (take_all (length o) c k)) ∙ take-append_seam c (drop (length c) o)

-- ---- the line of what areas hold, written to an output
pub written_too_long : (bs : List ℕ) (ns : List ℤ) {o left : List ℕ} {r : ℕ} → WholeLine (canonical (tables_in bs ns)) o left r → line_limit < r
    → are_tables bs ns ≡ false
written_too_long bs ns {o} {left} {r} w h = length_needed bs ns (subst (λ z. line_limit < z) w.long h)

pub written_read : (bs : List ℕ) (ns : List ℤ) {o left : List ℕ} {r : ℕ} → WholeLine (canonical (tables_in bs ns)) o left r → r ≤ length o
    → reads_to (outcome (take r left)) (take bytes_size bs) (take numbers_size ns) ≡ are_tables bs ns
unfolding are_tables
written_read bs ns {o} {left} {r} w h =
    ap (λ s. reads_to (outcome s) (take bytes_size bs) (take numbers_size ns)) (front (canonical (tables_in bs ns)) o left r w h)

-- what reading it back says
pub read_back : (bs : List ℕ) (ns : List ℤ) {o left : List ℕ} {r : ℕ} → WholeLine (canonical (tables_in bs ns)) o left r → r ≤ length o → {b t : Bool}
    → b ≡ reads_to (outcome (take r left)) (take bytes_size bs) (take numbers_size ns) → b ≡ t → are_tables bs ns ≡ t
read_back bs ns w h e f = sym (written_read bs ns w h) ∙ sym e ∙ f

-- ---- what is read back
pub read_refused : (s : List ℕ) {n p : ℕ} → outcome s ≡ refused n p → (xs : List ℕ) (ys : List ℤ) → reads_to (outcome s) xs ys ≡ false
read_refused s e xs ys = rw e

-- ---- the line of tables, written
some_bytes : (s bs : List ℕ) (ns : List ℤ) → reads_to (outcome s) bs ns ≡ true → 1 ≤ length s
unfolding outcome first_due least refusal1
some_bytes [] bs ns e = absurd (false≢true e)
some_bytes (b ∷ s) bs ns e = omega arith

pub its_line : (bs : List ℕ) (ns : List ℤ) {o left : List ℕ} {r : ℕ} → WholeLine (canonical (tables_in bs ns)) o left r → r ≤ length o → r ≤ line_limit
    → are_tables bs ns ≡ true → LineOf bs ns left (Some r)
unfolding are_tables
its_line bs ns {o} {left} {r} w h k y = (
  y,
  record {
    long = w.long;
    front = front (canonical (tables_in bs ns)) o left r w h;
    some = subst (λ z. 1 ≤ z) (sym w.long) (some_bytes (canonical (tables_in bs ns)) (take bytes_size bs) (take numbers_size ns) y);
    low = k;
  },
)

-- whether there is a line says whether they are tables
pub said_by_line : (bs : List ℕ) (ns : List ℤ) (line : List ℕ) (r : O.Option ℕ) → LineOf bs ns line r → is_some r ≡ are_tables bs ns
said_by_line bs ns line None w = sym w
said_by_line bs ns line (Some n) w = sym w.0
