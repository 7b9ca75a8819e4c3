-- Demands 1 and 2 of reading: every line gets one answer; it is accepted exactly as the grammar says, and refused with the number and at the place that the
-- clauses say; nothing else reads so.
use Rattle.std.specs.Prelude.{◌≡◌, refl, ◌↔◌, ◌⊎◌, Bool, true, false, cond, List, [], ◌∷◌, ◌++◌, ℕ, ◌≤◌, eqb, ℤ, length, Result}
use Rattle.std.proofs.Common.{sym, ap, ◌∙◌, subst, inl, inr, arith, eqb-true}
use Rattle.scope.specs.Line.{Line}
use Rattle.scope.specs.Lists.{laid, tabled}
use Rattle.scope.specs.Reading.{Reading, stuck, holds, reading}
use Rattle.scope.specs.Kept.{kept}
use Rattle.scope.specs.Refusals.{refusal4, Due, due, Outcome, accepted, refused, byte_refusals, outcome}
use Rattle.scope.specs.Tables.{tables_of}
use Rattle.scope.specs.Layout.{bytes_of, numbers_of}
use Rattle.scope.specs.Answers.{good, refuses, too_short, read_outcome, says_outcome, bytes_after, numbers_after, says}
use Rattle.basics.specs.Each.{Each, In, each_in}
use Rattle.basics.specs.Members.{in_left, in_right}
use Rattle.reading_laws.specs.Laws.{places_of, behind, dues}
use Rattle.reading_laws.proofs.Proved as reads
use Rattle.scope.specs.Grammar.{Spelling, print, good as well_spelt, means}
use Rattle.grammar_laws.specs.Laws.{Accepts, Refuses}
use Rattle.grammar_laws.proofs.Proved as spelled
use Rattle.laws.specs.Demands as laws
use Rattle.laws.proofs.Proved.{demands}
use Rattle.reader.specs.ReadSays.{ReadSays}
use Rattle.reader.proofs.Reading.{accepted_is}
use Rattle.verdict.specs.Says.{VerdictSays}
use Rattle.promises.specs.Promises.{meant, line_numbers, Reader, ExactlyOne, Answered, Nothing, AnswersLines, TurnedAway, Holding, Accepting}
use Rattle.promises.proofs.Answering.{Among, said_so, plain, among_numbers}
use Rattle.basics.specs.Said.{not_both, same_number_lem, same_place}
use Rattle.promises.proofs.Said.{all_known, says_same}
use Rattle.scope.specs.declared.refusals.Refusal.{Refusal}

-- ---- after a successful read
pub record WasRead (s bs : List ℕ) (ns : List ℤ) (bs' : List ℕ) (ns' : List ℤ) : Type 0 where
  pub line : Line ℕ
  pub reads : outcome s ≡ accepted line
  pub bytes : bs' ≡ laid (bytes_of line) bs
  pub numbers : ns' ≡ laid (numbers_of line) ns

accepted_so : (a : Bool) (o : Outcome) → good tt ≡ says_outcome (cond a (refused 13 0) o) → (l : Line ℕ) × (a ≡ false) × (o ≡ accepted l)
accepted_so true o e = absurd (not_both e)
accepted_so false o e = let a = accepted_is o e in (a.0, refl, a.1)

pub was_read : (s bs : List ℕ) (ns : List ℤ) (r : Result (Unit {0}) Refusal) (bs' : List ℕ) (ns' : List ℤ) → ReadSays s bs ns r bs' ns' → says r ≡ good tt
    → WasRead s bs ns bs' ns'
was_read s bs ns r bs' ns' w q =
    let a = accepted_so (too_short bs ns) (outcome s) (sym q ∙ w.says) in
    let o : read_outcome bs ns s ≡ accepted a.0 = ap (λ b. cond b (refused 13 0) (outcome s)) a.1 ∙ a.2 in
    record {
      line = a.0;
      reads = a.2;
      bytes = w.bytes_after_is ∙ ap (λ z. bytes_after z bs) o;
      numbers = w.numbers_after_is ∙ ap (λ z. numbers_after z ns) o;
    }

-- its areas hold the tables of the line
pub held_after : {s bs : List ℕ} {ns : List ℤ} {bs' : List ℕ} {ns' : List ℤ} → (r : WasRead s bs ns bs' ns') → laws.HoldTables r.line bs' ns'
held_after {s} {bs} {ns} {bs'} {ns'} r =
    subst (λ b. laws.HoldTables r.line b ns') (sym r.bytes)
    (subst (λ n. laws.HoldTables r.line (laid (bytes_of r.line) bs) n) (sym r.numbers) (demands.demand_2.read s r.line r.reads bs ns))

-- what a spelling of the line means, as it is kept, is what the line holds
pub line_means : {s bs : List ℕ} {ns : List ℤ} {bs' : List ℕ} {ns' : List ℤ} → (r : WasRead s bs ns bs' ns') → (t : Spelling) → well_spelt t ≡ true → s ≡ print t
    → r.line ≡ meant t
line_means {s} r t g p =
    let taken = ((spelled.laws).accepts s r.line).0 r.reads in
    let a : reading s ≡ holds taken.read = ((spelled.laws).lines s taken.read).1 taken.spelt in
    let b : reading s ≡ holds (means t) = ((spelled.laws).lines s (means t)).1 (record { tree = t; fine = g; prints = p; says = refl }) in
    let c : holds taken.read ≡ holds (means t) = sym a ∙ b in
    let d : taken.read ≡ means t = cc in
    taken.keeps ∙ ap kept d

-- ---- demand 1
-- one of 1 to 12, or 19, or 21
abbrev OfALine : ℕ → Type 0
OfALine n = ((1 ≤ n) × (n ≤ 12)) ⊎ ((n ≡ 19) ⊎ (n ≡ 21))

among_lines : (n : ℕ) → OfALine n → In n line_numbers
among_lines n (inl h) =
    let a = h.0 in
    let b = h.1 in
    in_left n (tabled (λ x. x) 1 12) (19 ∷ 21 ∷ []) (among_numbers 12 1 n a (omega (arith, b)))
among_lines n (inr (inl e)) = in_right n (tabled (λ x. x) 1 12) (19 ∷ 21 ∷ []) (inl e)
among_lines n (inr (inr e)) = in_right n (tabled (λ x. x) 1 12) (19 ∷ 21 ∷ []) (inr (inl e))

-- each number of the list is one of these
abbrev Numbered : List Due → Type 0
Numbered ds = Each (λ d. OfALine d.number) ds

numbered : (ds : List Due) (k i : ℕ) → Numbered ds → In i (places_of ds k) → OfALine k
unfolding places_of
numbered [] k i n e = absurd e
numbered (d ∷ ds) k i n e = go (eqb d.number k) refl e (numbered ds k i n.1)
  where
    go : (t : Bool) → eqb d.number k ≡ t → In i (cond t d.places (places_of ds k)) → (In i (places_of ds k) → OfALine k) → OfALine k
    go true q f ih = subst OfALine (eqb-true d.number k q) n.0
    go false q f ih = ih f

dues_numbered : (s : List ℕ) → Numbered (dues s)
unfolding dues
dues_numbered s = go (reading s)
  where
    low : {n : ℕ} → 1 ≤ n → n ≤ 12 → OfALine n
    low a b = inl (a, b)

    above : (r : Reading) → Numbered (behind r)
    above (stuck i) = tt
    above (holds l) =
        (low (omega arith) (omega arith), (low (omega arith) (omega arith), (low (omega arith) (omega arith), (low (omega arith) (omega arith), (low (omega arith) (omega arith), (low (omega arith) (omega arith), (inr (inr refl), (low (omega arith) (omega arith), (low (omega arith) (omega arith), (inr (inl refl), tt))))))))))

    go : (r : Reading) → Numbered (byte_refusals s ++ (due 4 (refusal4 r) ∷ behind r))
    go r = (low (omega arith) (omega arith), (low (omega arith) (omega arith), (low (omega arith) (omega arith), (low (omega arith) (omega arith), above r))))

-- a refusal's number and place
pub record RefusalPlaced (numbers s : List ℕ) (n p : ℕ) : Type 0 where
  pub one_of : In n numbers
  pub inside : p ≤ length s

pub line_said : (s : List ℕ) (n p : ℕ) → outcome s ≡ refused n p → RefusalPlaced line_numbers s n p
line_said s n p e =
    let d = ((reads.laws).first_of_its_places s n p e).member in
    let r = numbered (dues s) n p (dues_numbered s) d in
    record { one_of = among_lines n r; inside = (each_in _ (places_of (dues s) n) p d ((reads.laws).inside_line s n)).0 }

pub read_said : (s bs : List ℕ) (ns : List ℤ) (n p : ℕ) → read_outcome bs ns s ≡ refused n p → RefusalPlaced (13 ∷ line_numbers) s n p
read_said s bs ns n p e = go (too_short bs ns) e
  where
    go : (t : Bool) → cond t (refused 13 0) (outcome s) ≡ refused n p → RefusalPlaced (13 ∷ line_numbers) s n p
    go true f =
        let x : n ≡ 13 = cc in
        let y : 0 ≡ p = cc in
        record { one_of = inl x; inside = omega arith }
    go false f = let r = line_said s n p f in record { one_of = inr r.one_of; inside = r.inside }

pub outcome_refused : (o : Outcome) {n p : ℕ} → says_outcome o ≡ refuses n p → o ≡ refused n p
outcome_refused (accepted l) e = absurd (not_both e)
outcome_refused (refused m q) {n} e = ap (λ z. refused z q) (same_number_lem e) ∙ ap (refused n) (same_place e)

pub line_among : (s : List ℕ) → Among line_numbers (says_outcome (outcome s))
line_among s = record { number = λ n p q. (line_said s n p (outcome_refused (outcome s) q)).one_of }

pub read_among : (s bs : List ℕ) (ns : List ℤ) → Among (13 ∷ line_numbers) (says_outcome (read_outcome bs ns s))
read_among s bs ns = record { number = λ n p q. (read_said s bs ns n p (outcome_refused (read_outcome bs ns s) q)).one_of }

pub lines_known : all_known (13 ∷ line_numbers) ≡ true
unfolding tabled
lines_known = refl

exactly_one : (s bs : List ℕ) (ns : List ℤ) → ExactlyOne (λ (o : (Result (Unit {0}) Refusal) × List ℕ × List ℤ). ReadSays s bs ns o.0 o.1 o.2)
exactly_one s bs ns =
    let o = read_outcome bs ns s in
    let a = said_so lines_known (says_outcome o) (read_among s bs ns) in
    record {
      outcome = (a.0, bytes_after o bs, numbers_after o ns);
      ensured = record { says = a.1; bytes_after_is = refl; numbers_after_is = refl };
      only = λ q w.
          ap (λ (r : Result (Unit {0}) Refusal). (r, q.1, q.2)) (says_same q.0 a.0 (w.says ∙ sym a.1)) ∙ ap (λ (b : List ℕ). (a.0, b, q.2)) w.bytes_after_is
          ∙ ap (λ (n : List ℤ). (a.0, bytes_after o bs, n)) w.numbers_after_is;
    }

answered : (s bs : List ℕ) (ns : List ℤ) (r : Result (Unit {0}) Refusal) (bs' : List ℕ) (ns' : List ℤ) → ReadSays s bs ns r bs' ns'
    → (says r ≡ good tt) ⊎ TurnedAway s bs ns r bs' ns'
answered s bs ns r bs' ns' w = go (read_outcome bs ns s) refl
  where
    go : (o : Outcome) → read_outcome bs ns s ≡ o → (says r ≡ good tt) ⊎ TurnedAway s bs ns r bs' ns'
    go (accepted l) e = inl (w.says ∙ ap says_outcome e)
    go (refused n p) e =
        let q = read_said s bs ns n p e in
        inr
        (record {
          number = n;
          place = p;
          says = w.says ∙ ap says_outcome e;
          one_of = q.one_of;
          inside = q.inside;
          bytes = w.bytes_after_is ∙ ap (λ z. bytes_after z bs) e;
          numbers = w.numbers_after_is ∙ ap (λ z. numbers_after z ns) e;
        })

pub verdict : (s : List ℕ) → Answered (VerdictSays s) says line_numbers Nothing
verdict s = plain lines_known (line_among s)

pub answers_lines : AnswersLines ReadSays
answers_lines = record { exactly_one = exactly_one; answered = answered }

-- ---- demand 2
accepts : (s bs : List ℕ) (ns : List ℤ) (r : Result (Unit {0}) Refusal) (bs' : List ℕ) (ns' : List ℤ) → ReadSays s bs ns r bs' ns'
    → (says r ≡ good tt) ↔ ((too_short bs ns ≡ false) × ((l : Line ℕ) × Accepts s l))
accepts s bs ns r bs' ns' w = (there, back)
  where
    there : says r ≡ good tt → (too_short bs ns ≡ false) × ((l : Line ℕ) × Accepts s l)
    there e =
        let a = accepted_so (too_short bs ns) (outcome s) (sym e ∙ w.says) in
        (a.1, (a.0, ((spelled.laws).accepts s a.0).0 a.2))

    back : (too_short bs ns ≡ false) × ((l : Line ℕ) × Accepts s l) → says r ≡ good tt
    back a =
        let o : read_outcome bs ns s ≡ accepted a.1.0 = ap (λ z. cond z (refused 13 0) (outcome s)) a.0 ∙ ((spelled.laws).accepts s a.1.0).1 a.1.1 in
        w.says ∙ ap says_outcome o

tables : (s bs : List ℕ) (ns : List ℤ) (r : Result (Unit {0}) Refusal) (bs' : List ℕ) (ns' : List ℤ) → ReadSays s bs ns r bs' ns' → says r ≡ good tt
    → (t : Spelling) → well_spelt t ≡ true → s ≡ print t → Holding t bs ns bs' ns'
tables s bs ns r bs' ns' w q t g p =
    let h = was_read s bs ns r bs' ns' w q in
    let e = line_means h t g p in
    record {
      tables = (held_after h).tables ∙ ap tables_of e;
      bytes = h.bytes ∙ ap (λ l. laid (bytes_of l) bs) e;
      numbers = h.numbers ∙ ap (λ l. laid (numbers_of l) ns) e;
    }

abbrev RefusedBy : List ℕ → List ℕ → List ℤ → ℕ → ℕ → Type 0
RefusedBy s bs ns k i = ((too_short bs ns ≡ true) × (k ≡ 13) × (i ≡ 0)) ⊎ ((too_short bs ns ≡ false) × Refuses s k i)

refuses_by : (s bs : List ℕ) (ns : List ℤ) (r : Result (Unit {0}) Refusal) (bs' : List ℕ) (ns' : List ℤ) → ReadSays s bs ns r bs' ns' → (k i : ℕ)
    → (says r ≡ refuses k i) ↔ RefusedBy s bs ns k i
refuses_by s bs ns r bs' ns' w k i = (there, back)
  where
    go : (t : Bool) → too_short bs ns ≡ t → cond t (refused 13 0) (outcome s) ≡ refused k i → RefusedBy s bs ns k i
    go true e f =
        let x : k ≡ 13 = cc in
        let y : i ≡ 0 = cc in
        inl (e, x, y)
    go false e f = inr (e, ((spelled.laws).refuses s k i).0 f)

    there : says r ≡ refuses k i → RefusedBy s bs ns k i
    there e = go (too_short bs ns) refl (outcome_refused (read_outcome bs ns s) (sym w.says ∙ e))

    back : RefusedBy s bs ns k i → says r ≡ refuses k i
    back (inl a) =
        let o : read_outcome bs ns s ≡ refused 13 0 = ap (λ z. cond z (refused 13 0) (outcome s)) a.0 in
        w.says ∙ ap says_outcome o ∙ ap (λ z. refuses z 0) (sym a.1) ∙ ap (refuses k) (sym a.2)
    back (inr a) =
        let o : read_outcome bs ns s ≡ refused k i = ap (λ z. cond z (refused 13 0) (outcome s)) a.0 ∙ ((spelled.laws).refuses s k i).1 a.1 in
        w.says ∙ ap says_outcome o

pub accepting : Accepting ReadSays
accepting = record { accepts = accepts; tables = tables; refuses_by = refuses_by }

-- ---- no other reader
pub only_reader : (Says : Reader) → AnswersLines Says → Accepting Says → (s bs : List ℕ) (ns : List ℤ) (r : Result (Unit {0}) Refusal) (bs' : List ℕ) (ns' : List ℤ)
    → Says s bs ns r bs' ns' → ReadSays s bs ns r bs' ns'
only_reader Says d a s bs ns r bs' ns' w =
    let v = exactly_one s bs ns in
    let o = v.outcome in
    go o.0 o.1 o.2 v.ensured (answered s bs ns o.0 o.1 o.2 v.ensured)
  where
    same : (q : Result (Unit {0}) Refusal) (b : List ℕ) (n : List ℤ) → ReadSays s bs ns q b n → says r ≡ says q → bs' ≡ b → ns' ≡ n → ReadSays s bs ns r bs' ns'
    same q b n v e f g = record { says = e ∙ v.says; bytes_after_is = f ∙ v.bytes_after_is; numbers_after_is = g ∙ v.numbers_after_is }

    taken : (q : Result (Unit {0}) Refusal) (b : List ℕ) (n : List ℤ) → ReadSays s bs ns q b n → says q ≡ good tt → (too_short bs ns ≡ false) × ((l : Line ℕ) × Accepts s l)
        → ReadSays s bs ns r bs' ns'
    taken q b n v c x =
        let e : says r ≡ good tt = (a.accepts s bs ns r bs' ns' w).1 x in
        let t = x.1.1.spelt in
        let h = a.tables s bs ns r bs' ns' w e t.tree t.fine t.prints in
        let k = tables s bs ns q b n v c t.tree t.fine t.prints in
        same q b n v (e ∙ sym c) (h.bytes ∙ sym k.bytes) (h.numbers ∙ sym k.numbers)

    left : (q : Result (Unit {0}) Refusal) (b : List ℕ) (n : List ℤ) → ReadSays s bs ns q b n → (t : TurnedAway s bs ns q b n) → says r ≡ refuses t.number t.place
        → (says r ≡ good tt) ⊎ TurnedAway s bs ns r bs' ns' → ReadSays s bs ns r bs' ns'
    left q b n v t e (inl x) = absurd (not_both (sym x ∙ e))
    left q b n v t e (inr x) = same q b n v (e ∙ sym t.says) (x.bytes ∙ sym t.bytes) (x.numbers ∙ sym t.numbers)

    go : (q : Result (Unit {0}) Refusal) (b : List ℕ) (n : List ℤ) → ReadSays s bs ns q b n → (says q ≡ good tt) ⊎ TurnedAway s bs ns q b n → ReadSays s bs ns r bs' ns'
    go q b n v (inl c) = taken q b n v c ((accepts s bs ns q b n v).0 c)
    go q b n v (inr t) =
        left q b n v t ((a.refuses_by s bs ns r bs' ns' w t.number t.place).1 ((refuses_by s bs ns q b n v t.number t.place).0 t.says))
        (d.answered s bs ns r bs' ns' w)
