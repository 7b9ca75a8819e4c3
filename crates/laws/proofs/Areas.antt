-- Demand 2 and refusal 14, proved.
use Rattle.std.specs.Prelude.{◌≡◌, Bool, true, false, cond, ◌↔◌, List, ◌++◌, ℕ, ◌≤◌, ltb, ℤ, length, take, drop}
use Rattle.std.proofs.Common.{sym, ap, ◌∙◌, subst, arith, length-append, take-append-drop, le-ltb}
use Rattle.scope.specs.Lists.{same, laid}
use Rattle.scope.specs.Line.{Line}
use Rattle.scope.specs.Refusals.{Outcome, accepted, outcome}
use Rattle.scope.specs.Canonical.{canonical}
use Rattle.scope.specs.Tables.{Tables, tables_of}
use Rattle.scope.specs.Layout.{bytes_of, numbers_of, bytes_size, numbers_size, tables_in}
use Rattle.scope.specs.Answers.{Said, refuses, same_numbers, reads_to, too_short, SomeLine, are_tables, over_tables}
use Rattle.layout_laws.proofs.Laws.{bytes_fill, numbers_fill, tables_back, laid_bytes, laid_numbers, areas_determine, same_numbers_law, tables_held, accepted_held}
use Rattle.accepted_laws.specs.Laws.{accepted_within}
use Rattle.reading_laws.proofs.Bare.{same_bytes, same_numbers_lem}
use Rattle.basics.specs.Lists.{same_law}
use Rattle.canonical_laws.proofs.Proved as canonical-laws
use Rattle.basics.specs.Tests.{both, neither}
use Rattle.laws.specs.Demands.{bytes_read, numbers_read, written_from, HoldTables, ReadsBack, LineDemand2}

-- ---- 14
reads_to_lem : (o : Outcome) (l : Line ℕ) (bs : List ℕ) (ns : List ℤ) → o ≡ accepted l → bytes_of l ≡ bs → numbers_of l ≡ ns → reads_to o bs ns ≡ true
reads_to_lem o l bs ns e f g =
    subst (λ x. reads_to x bs ns ≡ true) (sym e)
    (both (same (bytes_of l) bs) (same_numbers (numbers_of l) ns) ((same_law (bytes_of l) bs).1 f) ((same_numbers_law (numbers_of l) ns).1 g))

are_tables_lem : (bs : List ℕ) (ns : List ℤ) → SomeLine bs ns → are_tables bs ns ≡ true
unfolding are_tables
are_tables_lem bs ns w =
    let h = accepted_held bs ns w.text w.line w.reads w.bytes w.numbers in
    let back = (canonical-laws.laws).reads_back w.text w.line w.reads in
    let c : canonical (tables_in bs ns) ≡ canonical w.line = ap canonical h.tables ∙ (canonical-laws.laws).of_tables w.line in
    let b : bytes_of back.line ≡ take bytes_size bs = sym (same_bytes back.line) ∙ ap bytes_of back.tables ∙ same_bytes w.line ∙ sym w.bytes in
    let n : numbers_of back.line ≡ take numbers_size ns = sym (same_numbers_lem back.line) ∙ ap numbers_of back.tables ∙ same_numbers_lem w.line ∙ sym w.numbers in
    reads_to_lem (outcome (canonical (tables_in bs ns))) back.line (take bytes_size bs) (take numbers_size ns) (ap outcome c ∙ back.taken) b n

some_line : (bs : List ℕ) (ns : List ℤ) → are_tables bs ns ≡ true → SomeLine bs ns
some_line bs ns e =
    let h = tables_held bs ns e in
    record { text = canonical (tables_in bs ns); line = h.0; reads = h.1.reads; bytes = h.1.bytes; numbers = h.1.numbers }

-- ---- reading
long : {A : Type 0} (n : ℕ) (l m : List A) → length l ≡ n → ltb (length (l ++ m)) n ≡ false
long n l m e = let a = length-append l m in le-ltb (length (l ++ m)) n (omega arith)

read : (s : List ℕ) (l : Line ℕ) → outcome s ≡ accepted l → (bs : List ℕ) (ns : List ℤ) → HoldTables l (bytes_read l bs) (numbers_read l ns)
read s l e bs ns =
    let w = accepted_within s l e in
    record {
      long_enough = neither (ltb (length (bytes_read l bs)) bytes_size) (ltb (length (numbers_read l ns)) numbers_size)
          (long bytes_size (bytes_of l) (drop (length (bytes_of l)) bs) (bytes_fill l w))
          (long numbers_size (numbers_of l) (drop (length (numbers_of l)) ns) (numbers_fill l w));
      taken = are_tables_lem (bytes_read l bs) (numbers_read l ns)
          (record { text = s; line = l; reads = e; bytes = laid_bytes l w bs; numbers = laid_numbers l w ns });
      tables = tables_back l w bs ns;
      written = ap canonical (tables_back l w bs ns) ∙ (canonical-laws.laws).of_tables l;
    }

passed : {A : Type 0} (s t : Bool) (x y z : A) → s ≡ false → t ≡ true → cond s x (cond t y z) ≡ y
passed s t x y z e f = rw (e, f)

pub calls :
    {A : Type 0} (f : Tables → Said A) (s : List ℕ) (l : Line ℕ) → outcome s ≡ accepted l → (bs : List ℕ) (ns : List ℤ)
    → over_tables (bytes_read l bs) (numbers_read l ns) f ≡ f (tables_of l)
calls f s l e bs ns =
    let h = read s l e bs ns in
    passed (too_short (bytes_read l bs) (numbers_read l ns)) (are_tables (bytes_read l bs) (numbers_read l ns)) (refuses 13 0)
    (f (tables_in (bytes_read l bs) (numbers_read l ns))) (refuses 14 0) h.long_enough h.taken
    ∙ ap f h.tables

-- ---- writing
laid_over : {A : Type 0} (n : ℕ) (l xs : List A) → length l ≡ n → take n xs ≡ l → laid l xs ≡ xs
laid_over n l xs e f = ap (λ k. l ++ drop k xs) e ∙ ap (λ z. z ++ drop n xs) (sym f) ∙ take-append-drop n xs

reads_back : (bs : List ℕ) (ns : List ℤ) → are_tables bs ns ≡ true → ReadsBack (written_from bs ns) bs ns
reads_back bs ns e =
    let h = tables_held bs ns e in
    let l = h.0 in
    let w = h.1.within in
    record {
      line = l;
      reads = h.1.reads;
      bytes = laid_over bytes_size (bytes_of l) bs (bytes_fill l w) h.1.bytes;
      numbers = laid_over numbers_size (numbers_of l) ns (numbers_fill l w) h.1.numbers;
    }

one_entry :
    (s s' : List ℕ) (l l' : Line ℕ) → outcome s ≡ accepted l → outcome s' ≡ accepted l'
    → canonical l ≡ canonical l' ↔ ((bytes_of l ≡ bytes_of l') × (numbers_of l ≡ numbers_of l'))
one_entry s s' l l' e e' =
    let a = (canonical-laws.laws).one_entry s s' l l' e e' in
    let b = areas_determine l l' (accepted_within s l e) (accepted_within s' l' e') in
    ((λ q. b.1 (a.0 q)), λ q. a.1 (b.0 q))

-- tables are written as the line that they hold is
written_from_lem : (bs : List ℕ) (ns : List ℤ) (s : List ℕ) (l : Line ℕ) → outcome s ≡ accepted l → take bytes_size bs ≡ bytes_of l → take numbers_size ns ≡ numbers_of l → written_from bs ns ≡ canonical l
written_from_lem bs ns s l e f g = ap canonical (accepted_held bs ns s l e f g).tables ∙ (canonical-laws.laws).of_tables l

one_entry_in :
    (bs bs' : List ℕ) (ns ns' : List ℤ) → are_tables bs ns ≡ true → are_tables bs' ns' ≡ true
    → written_from bs ns ≡ written_from bs' ns' ↔ ((take bytes_size bs ≡ take bytes_size bs') × (take numbers_size ns ≡ take numbers_size ns'))
one_entry_in bs bs' ns ns' e e' =
    let a = some_line bs ns e in
    let b = some_line bs' ns' e' in
    let u = written_from_lem bs ns a.text a.line a.reads a.bytes a.numbers in
    let v = written_from_lem bs' ns' b.text b.line b.reads b.bytes b.numbers in
    let o = one_entry a.text b.text a.line b.line a.reads b.reads in (
      (λ q. let z = o.0 (sym u ∙ q ∙ v) in (a.bytes ∙ z.0 ∙ sym b.bytes, a.numbers ∙ z.1 ∙ sym b.numbers)),
      λ q. u ∙ o.1 (sym a.bytes ∙ q.0 ∙ b.bytes, sym a.numbers ∙ q.1 ∙ b.numbers) ∙ sym v,
    )

no_longer : (s : List ℕ) (l : Line ℕ) → outcome s ≡ accepted l → (bs : List ℕ) (ns : List ℤ) → length (written_from (bytes_read l bs) (numbers_read l ns)) ≤ length s
no_longer s l e bs ns = subst (λ c. length c ≤ length s) (sym (read s l e bs ns).written) ((canonical-laws.laws).no_longer s l e)

pub demand_2 : LineDemand2
demand_2 =
    record {
      exactly_tables = λ bs ns. (some_line bs ns, are_tables_lem bs ns);
      read = read;
      reads_back = reads_back;
      one_entry = one_entry;
      one_entry_in = one_entry_in;
      no_longer = no_longer;
    }
