-- Demand 2 of writing: the line that is written reads back, and two lines share it exactly when their tables are equal.
use Rattle.std.specs.Prelude.{◌≡◌, ◌↔◌, Bool, true, false, cond, List, [], ◌++◌, ℕ, ◌≤◌, ltb, ℤ, length, take, drop, Result}
use Rattle.std.proofs.Common.{sym, ap, ◌∙◌, subst, arith, le-ltb}
use Rattle.std.proofs.Math.Seq.{take-append_seam, drop-append_seam}
use Rattle.scope.specs.Line.{Line}
use Rattle.scope.specs.Lists.{laid}
use Rattle.scope.specs.Refusals.{accepted, refused, outcome}
use Rattle.scope.specs.Canonical.{canonical}
use Rattle.scope.specs.Tables.{tables_of}
use Rattle.scope.specs.Layout.{bytes_of, numbers_of, tables_in}
use Rattle.scope.specs.Answers.{good, refuses, too_short, are_tables, read_outcome, says_outcome, bytes_after, numbers_after, fitting, writes, output_after, says}
use Rattle.laws.specs.Demands as laws
use Rattle.laws.proofs.Proved.{demands}
use Rattle.reader.specs.ReadSays.{ReadSays}
use Rattle.calls.specs.Writing.{WriteSays}
use Rattle.promises.specs.Promises.{Entered, Filed, Demand2}
use Rattle.basics.specs.Said.{not_both, same_good}
use Rattle.promises.proofs.Readers.{WasRead, was_read, held_after}
use Rattle.scope.specs.declared.refusals.Refusal.{Refusal}

-- the line of areas that hold tables, where it fits
fits : (c : List ℕ) (n : ℕ) → length c ≤ n → fitting c n ≡ good (length c)
fits c n h = rw (le-ltb n (length c) h)

written_so : (bs : List ℕ) (ns : List ℤ) (out : List ℕ) → too_short bs ns ≡ false → are_tables bs ns ≡ true
    → writes bs ns out ≡ fitting (canonical (tables_in bs ns)) (length out)
written_so bs ns out a e = rw (a, e)

-- reading a line into areas that it reads to
read_again : (c bs : List ℕ) (ns : List ℤ) → too_short bs ns ≡ false → laws.ReadsBack c bs ns → (r : Result (Unit {0}) Refusal) (bs' : List ℕ) (ns' : List ℤ)
    → ReadSays c bs ns r bs' ns' → (says r ≡ good tt) × (bs' ≡ bs) × (ns' ≡ ns)
read_again c bs ns a b r bs' ns' w =
    let o : read_outcome bs ns c ≡ accepted b.line = ap (λ z. cond z (refused 13 0) (outcome c)) a ∙ b.reads in (
      w.says ∙ ap says_outcome o,
      w.bytes_after_is ∙ ap (λ z. bytes_after z bs) o ∙ b.bytes,
      w.numbers_after_is ∙ ap (λ z. numbers_after z ns) o ∙ b.numbers,
    )

reads_back : (s bs : List ℕ) (ns : List ℤ) (q : Result (Unit {0}) Refusal) (bs' : List ℕ) (ns' : List ℤ) → ReadSays s bs ns q bs' ns' → says q ≡ good tt
    → (out : List ℕ) (w : Result ℕ Refusal) (out' : List ℕ) → WriteSays bs' ns' out w out' → length s ≤ length out → Entered s bs' ns' out w out'
reads_back s bs ns q bs' ns' rd e out w out' wr h =
    let r = was_read s bs ns q bs' ns' rd e in
    let t = held_after r in
    let c = canonical (tables_in bs' ns') in
    let k : length c ≤ length s =
    subst (λ b. length (canonical (tables_in b ns')) ≤ length s) (sym r.bytes)
    (subst (λ n. length (canonical (tables_in (laid (bytes_of r.line) bs) n)) ≤ length s) (sym r.numbers) (demands.demand_2.no_longer s r.line r.reads bs ns))
    in
    let g : writes bs' ns' out ≡ good (length c) = written_so bs' ns' out t.long_enough t.taken ∙ fits c (length out) (omega arith) in
    let o : out' ≡ c ++ drop (length c) out = wr.output_after_is ∙ ap (λ z. output_after z c out) g in
    record {
      long = length c;
      said = wr.says ∙ g;
      no_longer = k;
      rest = ap (drop (length c)) o ∙ drop-append_seam c (drop (length c) out);
      back =
          subst (λ z. (q : Result (Unit {0}) Refusal) (b : List ℕ) (n : List ℤ) → ReadSays z bs' ns' q b n → (says q ≡ good tt) × (b ≡ bs') × (n ≡ ns'))
          (sym (ap (take (length c)) o ∙ take-append_seam c (drop (length c) out)))
          (read_again c bs' ns' t.long_enough (demands.demand_2.reads_back bs' ns' t.taken));
    }

-- the line that was written
line_written_lem : (bs : List ℕ) (ns : List ℤ) (out : List ℕ) (w : Result ℕ Refusal) (out' : List ℕ) (n : ℕ) → too_short bs ns ≡ false → are_tables bs ns ≡ true
    → WriteSays bs ns out w out' → says w ≡ good n → take n out' ≡ canonical (tables_in bs ns)
line_written_lem bs ns out w out' n a e v q =
    let c = canonical (tables_in bs ns) in
    let said : writes bs ns out ≡ good n = sym v.says ∙ q in
    let m : n ≡ length c = go (ltb (length out) (length c)) (length c) (sym said ∙ written_so bs ns out a e) in
    let o : out' ≡ c ++ drop (length c) out = v.output_after_is ∙ ap (λ z. output_after z c out) said in
    ap (λ k. take k out') m ∙ ap (take (length c)) o ∙ take-append_seam c (drop (length c) out)
  where
    go : (b : Bool) (k : ℕ) → good n ≡ cond b (refuses 15 k) (good k) → n ≡ k
    go true k f = absurd (not_both f)
    go false k f = same_good f

-- a line that was filed: its canonical line is what was written
pub record Entry (s bs : List ℕ) (ns : List ℤ) (bs' : List ℕ) (ns' : List ℤ) (line : List ℕ) : Type 0 where
  pub was : WasRead s bs ns bs' ns'
  pub held : laws.HoldTables was.line bs' ns'
  pub written : line ≡ canonical was.line

entry : {s bs : List ℕ} {ns : List ℤ} {bs' : List ℕ} {ns' : List ℤ} {out' : List ℕ} {m : ℕ} → Filed s bs ns bs' ns' out' m → Entry s bs ns bs' ns' (take m out')
entry {s} {bs} {ns} {bs'} {ns'} {out'} {m} f =
    let r = was_read s bs ns f.answer bs' ns' f.read f.accepted in
    let h = held_after r in
    record { was = r; held = h; written = line_written_lem bs' ns' f.out f.wrote out' m h.long_enough h.taken f.written f.length_is ∙ h.written }

-- lines whose areas are alike have the same tables
tables_alike : (s t : List ℕ) (l k : Line ℕ) → outcome s ≡ accepted l → outcome t ≡ accepted k → (bytes_of l ≡ bytes_of k) × (numbers_of l ≡ numbers_of k) → tables_of l ≡ tables_of k
tables_alike s t l k e f z =
    sym (demands.demand_2.read s l e [] []).tables ∙ ap (λ b. tables_in (laid b []) (laid (numbers_of l) [])) z.0
    ∙ ap (λ n. tables_in (laid (bytes_of k) []) (laid n [])) z.1 ∙ (demands.demand_2.read t k f [] []).tables

module _ (s bs : List ℕ) (ns : List ℤ) (bs₁ : List ℕ) (ns₁ : List ℤ) (u : List ℕ) (a : Entry s bs ns bs₁ ns₁ u)
    (t cs : List ℕ) (ms : List ℤ) (bs₂ : List ℕ) (ns₂ : List ℤ) (v : List ℕ) (b : Entry t cs ms bs₂ ns₂ v) where
  -- the same line, from the same tables
  lines_alike : tables_in bs₁ ns₁ ≡ tables_in bs₂ ns₂ → u ≡ v
  lines_alike q = a.written ∙ sym a.held.written ∙ ap canonical q ∙ b.held.written ∙ sym b.written

  areas_alike : u ≡ v → (bytes_of a.was.line ≡ bytes_of b.was.line) × (numbers_of a.was.line ≡ numbers_of b.was.line)
  areas_alike q = (demands.demand_2.one_entry s t a.was.line b.was.line a.was.reads b.was.reads).0 (sym a.written ∙ q ∙ b.written)

  one_table : u ≡ v ↔ (tables_in bs₁ ns₁ ≡ tables_in bs₂ ns₂)
  one_table = (
    (λ q. a.held.tables ∙ tables_alike s t a.was.line b.was.line a.was.reads b.was.reads (areas_alike q) ∙ sym b.held.tables),
    lines_alike,
  )

one_here : (bs : List ℕ) (ns : List ℤ) (s bs₁ : List ℕ) (ns₁ : List ℤ) (u : List ℕ) → Entry s bs ns bs₁ ns₁ u → (t bs₂ : List ℕ) (ns₂ : List ℤ) (v : List ℕ)
    → Entry t bs ns bs₂ ns₂ v → u ≡ v ↔ ((bs₁ ≡ bs₂) × (ns₁ ≡ ns₂))
one_here bs ns s bs₁ ns₁ u a t bs₂ ns₂ v b = (
  (λ q.
      let z = areas_alike s bs ns bs₁ ns₁ u a t bs ns bs₂ ns₂ v b q in
      (a.was.bytes ∙ ap (λ x. laid x bs) z.0 ∙ sym b.was.bytes, a.was.numbers ∙ ap (λ x. laid x ns) z.1 ∙ sym b.was.numbers)),
  (λ q. lines_alike s bs ns bs₁ ns₁ u a t bs ns bs₂ ns₂ v b (ap (λ x. tables_in x ns₁) q.0 ∙ ap (tables_in bs₂) q.1)),
)

pub demand_2 : Demand2
demand_2 =
    record {
      reads_back = reads_back;
      one_entry = λ s bs ns bs₁ ns₁ out₁ m f t cs ms bs₂ ns₂ out₂ n g.
          one_table s bs ns bs₁ ns₁ (take m out₁) (entry f) t cs ms bs₂ ns₂ (take n out₂) (entry g);
      one_entry_here = λ bs ns s bs₁ ns₁ out₁ m f t bs₂ ns₂ out₂ n g. one_here bs ns s bs₁ ns₁ (take m out₁) (entry f) t bs₂ ns₂ (take n out₂) (entry g);
    }
