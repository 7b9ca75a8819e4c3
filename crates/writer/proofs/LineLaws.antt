-- What the pieces of a line are, by rank, and how they make up the canonical line. Assumes nothing.
use mathlib.Core.Path.{◌≡◌, refl, sym, ap, ap₂, ◌∙◌}
use mathlib.Core.Bool.{Bool, true, false, cond, ◌&&◌}
use mathlib.Core.List.{List, [], ◌∷◌, ◌++◌, append_assoc, append-nil}
use Prim.Native.Nat.{ℕ, zero, suc, ◌+◌, ◌-◌, ◌*◌, ◌≤◌, ◌<◌}
use native.Mathlib.Omega.{arith}
use lib.Dec.{eqb, leb}
use lib.IntN.{ℤ}
use native.Mathlib.Nat.{add-zero}
use lib.ListN.{length, get_or, take, drop, length-take, length-drop}
use lib.Seq.{take_all, take-suc, get_or-drop}
use borrow.Author.Tests.{eq-eqb, leb-true, leb-false}
use Rattle.basics.specs.Choice.{took, by_test}
use Rattle.scope.specs.declared.grammar.Kind.{Kind}
use Rattle.scope.specs.declared.grammar.Kind.TheVariants.{Unknown, Labile, NTerm, OnResidue, OnRange, CTerm, Declared}
use Rattle.scope.specs.declared.grammar.Section.TheVariants.{Plain, RangeFirst, UnsureFirst}
use Rattle.scope.specs.Bytes.{question, dash, shut_round}
use Rattle.scope.specs.Limits.{residue_limit}
use Rattle.scope.specs.Line.{Bracket, Residue}
use Rattle.scope.specs.Canonical.{square_text, curly_text, unknown_text, ending_at, closed_by, led_by, opening, ending, is_next, goes_on, sequence_text, chain_text, canonical}
use Rattle.scope.specs.Kinds.{is_kind}
use Rattle.scope.specs.Lists.{keep, flat, tabled, laid}
use Rattle.scope.specs.Layout.{bytes_size, letters_at, section_code, section_in, residue_in, bracket_in, tables_in, brackets_field, letter_field, residues_field, section_field}
use Rattle.writer.specs.declared.Shape.{Shape}
use Rattle.writer.specs.declared.Shape.TheVariants.{Counted, Curly, Square, Angled}
use Rattle.figures.specs.Written.{stored, Puts, ceiling}
use Rattle.writer.specs.Written.{WholeLine, residue_most, residues_most}
use Rattle.writer.specs.Here.{RoomFor}
use Rattle.writer.specs.Ranks.{rank_of, rank, rank_in, c_term_rank, ReadyToWrite, text_as, ranked_text, run_text, chain_front, front_text, Walks, residue_text, SpeltResidues, NoneBelow, Behind, Spells}
use Rattle.figures.proofs.Storing.{stored_append, stored_whole, puts_stored, puts_within, puts_length}
use Rattle.writer.proofs.RankLaws.{rank_is, rank_within, rank_tells, tabled_from, tabled_over}
use Rattle.writer.proofs.RunLaws.{run_one, none_of}
use Rattle.writer.proofs.Walking.{walks_of, walks_still, walks_then, walks_before, walks_up, room_after}
use Rattle.basics.specs.Lists.{keep_same}
use Rattle.basics.specs.Tabled.{residues_many}

-- ---- sections
pub opening_other : (c : ℕ) → (c ≡ section_code RangeFirst → ⊥) → (c ≡ section_code UnsureFirst → ⊥) → [] ≡ opening (section_in c)
opening_other zero p q = refl
opening_other (suc zero) p q = absurd (p refl)
opening_other (suc (suc zero)) p q = refl
opening_other (suc (suc (suc zero))) p q = absurd (q refl)
opening_other (suc (suc (suc (suc zero)))) p q = refl
opening_other (suc (suc (suc (suc (suc c))))) p q = refl

pub ending_other : (c : ℕ) (t : List ℕ) → (1 ≤ c → 5 ≤ c) → [] ≡ ending (section_in c) t
ending_other zero t h = refl
ending_other (suc zero) t h = absurd (omega (arith, h))
ending_other (suc (suc zero)) t h = absurd (omega (arith, h))
ending_other (suc (suc (suc zero))) t h = absurd (omega (arith, h))
ending_other (suc (suc (suc (suc zero)))) t h = absurd (omega (arith, h))
ending_other (suc (suc (suc (suc (suc c))))) t h = refl

-- of a range, of `(?..)`
pub ending_range : (c : ℕ) (t : List ℕ) → 1 ≤ c → c < 3 → shut_round ∷ t ≡ ending (section_in c) t
ending_range zero t h l = absurd (omega arith)
ending_range (suc zero) t h l = refl
ending_range (suc (suc zero)) t h l = refl
ending_range (suc (suc (suc c))) t h l = absurd (omega arith)

pub ending_unsure : (c : ℕ) (t : List ℕ) → 3 ≤ c → c < 5 → shut_round ∷ [] ≡ ending (section_in c) t
ending_unsure zero t h l = absurd (omega arith)
ending_unsure (suc zero) t h l = absurd (omega arith)
ending_unsure (suc (suc zero)) t h l = absurd (omega arith)
ending_unsure (suc (suc (suc zero))) t h l = refl
ending_unsure (suc (suc (suc (suc zero)))) t h l = refl
ending_unsure (suc (suc (suc (suc (suc c))))) t h l = absurd (omega arith)

pub opening_of_lem : (c n : ℕ) → c ≡ n → opening (section_in n) ≡ opening (section_in c)
opening_of_lem c n e = rw e

module _ (bs : List ℕ) (p n : ℕ) where
  pub goes_over : n ≤ p → false ≡ goes_on (tabled (residue_in bs) p (n - p))
  goes_over h = sym (ap goes_on (tabled_over (residue_in bs) p n h))

  pub goes_next : {c : ℕ} {t : Bool} → p < n → c ≡ section_field bs p → t ≡ is_next (section_in c) → t ≡ goes_on (tabled (residue_in bs) p (n - p))
  goes_next h e f = f ∙ ap (λ c. is_next (section_in c)) e ∙ sym (ap goes_on (tabled_from (residue_in bs) p n h))

-- ---- kinds and positions by rank
kept_once : {A : Type 0} (p : A → Bool) (x : A) (t : Bool) (l m : List A) → keep p l ≡ m → keep p (cond t (x ∷ []) [] ++ l) ≡ cond (t && p x) (x ∷ []) [] ++ m
unfolding keep
kept_once p x true l m e = ap (λ z. cond (p x) (x ∷ []) [] ++ z) e
kept_once p x false l m e = e

keep_twice : {A : Type 0} (p r : A → Bool) (l : List A) → keep p (keep r l) ≡ keep (λ x. r x && p x) l
unfolding keep
keep_twice p r [] = refl
keep_twice p r (x ∷ l) = kept_once p x (r x) (keep r l) (keep (λ x. r x && p x) l) (keep_twice p r l)

pub run_is : {P : Type 0} (shape : Shape) (j : Kind) (i : ℕ) (ks : List (Bracket P)) → run_text shape (rank_of j i) ks ≡ flat (text_as shape) (ending_at j i ks)
run_is shape j i ks =
    ap (flat (text_as shape))
    (sym
    (keep_twice (λ k. eqb k.last i) (λ k. is_kind j k.kind) ks
    ∙ keep_same (λ k. is_kind j k.kind && eqb k.last i) (λ k. eqb (rank k) (rank_of j i)) (λ k. rank_tells j k.kind k.last i) ks))

-- ---- the sequence
sequence_step :
    {P : Type 0} (ks : List (Bracket P)) (i : ℕ) (r : Residue P) (rs : List (Residue P))
    → sequence_text ks i (r ∷ rs) ≡ residue_text ks i r rs ++ sequence_text ks (i + 1) rs
unfolding sequence_text
sequence_step ks i r rs =
    let a = flat square_text (ending_at OnResidue i ks) in
    let b = cond (goes_on rs) [] (ending r.section (flat square_text (ending_at OnRange i ks))) in
    let s = sequence_text ks (i + 1) rs in
    sym (append_assoc (opening r.section) (r.letter ∷ (a ++ b)) s ∙ ap (λ t. opening r.section ++ (r.letter ∷ t)) (append_assoc a b s))

nothing_else : (t : Bool) (l : List ℕ) → l ≡ l ++ cond t [] []
nothing_else true l = sym (append-nil l)
nothing_else false l = sym (append-nil l)

module _ (bs : List ℕ) (ks : List (Bracket (Unit {0}))) (p : ℕ) (rs : List (Residue (Unit {0}))) {c b : ℕ} (e : c ≡ section_field bs p) (f : b ≡ letter_field bs p) where
  at_residue : run_text Square (rank_of OnResidue (p + 1)) ks ≡ flat square_text (ending_at OnResidue (p + 1) ks)
  at_residue = run_is Square OnResidue (p + 1) ks

  pub residue_plain : c ≡ section_code Plain → (b ∷ []) ++ run_text Square (rank_of OnResidue (p + 1)) ks ≡ residue_text ks (p + 1) (residue_in bs p) rs
  residue_plain z =
      let w : section_field bs p ≡ section_code Plain = sym e ∙ z in
      rw (w, f, at_residue) (ap (λ t. letter_field bs p ∷ t) (nothing_else (goes_on rs) _))

  pub residue_on : goes_on rs ≡ true → opening (section_in c) ++ ((b ∷ []) ++ run_text Square (rank_of OnResidue (p + 1)) ks) ≡ residue_text ks (p + 1) (residue_in bs p) rs
  residue_on g = rw (g, e, f, at_residue, append-nil)

  pub residue_off :
      goes_on rs ≡ false
      → (opening (section_in c) ++ ((b ∷ []) ++ run_text Square (rank_of OnResidue (p + 1)) ks)) ++ ending (section_in c) (run_text Square (rank_of OnRange (p + 1)) ks)
      ≡ residue_text ks (p + 1) (residue_in bs p) rs
  residue_off g =
      append_assoc (opening (section_in c)) ((b ∷ []) ++ run_text Square (rank_of OnResidue (p + 1)) ks) (ending (section_in c) (run_text Square (rank_of OnRange (p + 1)) ks))
      ∙ rw (g, e, f, at_residue, run_is Square OnRange (p + 1) ks)

module _ (bs : List ℕ) (ns : List ℤ) (n from : ℕ) (o : List ℕ) (at : ℕ) where
  pub spelt_start : Walks bs 0 from (rank_of OnResidue 1) o at [] o at from → SpeltResidues bs ns n from o at o 0 from at
  spelt_start w =
      record {
        low = omega arith;
        done = [];
        rest = ap (λ k. sequence_text (tables_in bs ns).brackets 1 (tabled (residue_in bs) 0 k)) (omega arith);
        walks = walks_up (omega arith) (omega arith) w;
      }

  module _ {out : List ℕ} {p j a : ℕ} (s : SpeltResidues bs ns n from o at out p j a) where
    pub spelt_more :
        p < n → {out' : List ℕ} {j' a' : ℕ}
        → Walks bs residue_most j (rank_of OnResidue (p + 1 + 1)) out a (residue_text (tables_in bs ns).brackets (p + 1) (residue_in bs p) (tabled (residue_in bs) (p + 1) (n - (p + 1)))) out' a' j'
        → SpeltResidues bs ns n from o at out' (p + 1) j' a'
    spelt_more h {out'} {j'} {a'} w =
        let ks = (tables_in bs ns).brackets in
        let t = residue_text ks (p + 1) (residue_in bs p) (tabled (residue_in bs) (p + 1) (n - (p + 1))) in
        let v = sequence_text ks (p + 1 + 1) (tabled (residue_in bs) (p + 1) (n - (p + 1))) in
        let e : t ++ v ≡ sequence_text ks (p + 1) (tabled (residue_in bs) p (n - p)) =
        sym (ap (sequence_text ks (p + 1)) (tabled_from (residue_in bs) p n h) ∙ sequence_step ks (p + 1) (residue_in bs p) (tabled (residue_in bs) (p + 1) (n - (p + 1)))) in
        record {
          low = omega arith;
          done = s.done ++ t;
          rest = append_assoc s.done t v ∙ ap (λ z. s.done ++ z) e ∙ s.rest;
          walks = walks_then (residue_most * (p + 1)) (omega arith) s.walks w;
        }

    -- for the residues that are left
    pub spelt_room : n ≤ residue_limit → RoomFor bs from residues_most at → RoomFor bs j (residue_most * (n - p)) a
    spelt_room h r = room_after (omega (arith, s.low)) s.walks r

    -- a residue by itself, with no bracket
    pub spelt_bare :
        {e b : ℕ} → p < e → e ≤ n → Behind bs j e → section_field bs p ≡ section_code Plain → b ≡ letter_field bs p → {out' : List ℕ} {a' : ℕ}
        → Puts 1 out a (b ∷ []) out' a' → SpeltResidues bs ns n from o at out' (p + 1) j a'
    unfolding tables_in
    spelt_bare {b = b} h l behind plain f g =
        let w = s.walks in
        let ks = (tables_in bs ns).brackets in
        let none : run_text Square (rank_of OnResidue (p + 1)) ks ≡ [] =
        none_of bs ns Square (rank_of OnResidue (p + 1)) (brackets_field bs)
        (λ k m e.
        by_test (leb j k)
        (λ t. omega (arith, behind p k h (leb-true j k t) m, e))
        (λ t. omega (arith, w.below k (omega (arith, leb-false j k t)), e))) in
        spelt_more (omega arith)
        (walks_of (ap (λ t. b ∷ t) (sym none) ∙ residue_plain bs ks p (tabled (residue_in bs) (p + 1) (n - (p + 1))) refl f plain)
        (walks_still (puts_within (omega arith) g) w.within (λ i l. omega (arith, w.below i l))))

    pub spelt_over :
        n ≤ p → n ≡ residues_field bs → n ≤ residue_limit
        → Walks bs residues_most from (c_term_rank bs) o at (sequence_text (tables_in bs ns).brackets 1 (tables_in bs ns).residues) out a j
    unfolding tables_in sequence_text
    spelt_over h e l =
        let q : sequence_text (tables_in bs ns).brackets (p + 1) (tabled (residue_in bs) p (n - p)) ≡ [] =
        ap (sequence_text (tables_in bs ns).brackets (p + 1)) (tabled_over (residue_in bs) p n h) in
        walks_of
        (sym (append-nil s.done)
        ∙ ap (λ z. s.done ++ z) (sym q)
        ∙ s.rest
        ∙ ap (λ k. sequence_text (tables_in bs ns).brackets 1 (tabled (residue_in bs) 0 k)) e)
        (walks_up (omega (arith, s.low)) (omega (arith, s.low)) s.walks)

-- the residues from index p up to index i stand by themselves, and are written
pub record LettersWritten (bs : List ℕ) (e : ℕ) (o : List ℕ) (p at : ℕ) (out : List ℕ) (i a : ℕ) : Type 0 where
  pub forth : p ≤ i
  pub near : a ≡ at + (i - p)
  pub kept : length out ≡ length o
  pub spells : (ns : List ℤ) (n j : ℕ) → e ≤ n → Behind bs j e → Spells bs ns n j o p at out i a

module _ (bs : List ℕ) (e : ℕ) (o : List ℕ) (p at : ℕ) where
  pub lettered_start : LettersWritten bs e o p at o p at
  lettered_start = record { forth = omega arith; near = omega arith; kept = refl; spells = λ ns n j l behind from first start s. s }

  pub lettered_more :
      {out : List ℕ} {i a c b : ℕ} → LettersWritten bs e o p at out i a → i < e → c ≡ section_field bs i → c ≡ section_code Plain → b ≡ letter_field bs i
      → {out' : List ℕ} {a' : ℕ} → Puts 1 out a (b ∷ []) out' a' → LettersWritten bs e o p at out' (i + 1) a'
  lettered_more l h f plain b g =
      record {
        forth = omega (arith, l.forth);
        near = omega (arith, l.forth, l.near, g.ends);
        kept = puts_length g ∙ l.kept;
        spells = λ ns n j fits behind from first start s.
            spelt_bare bs ns n from first start (l.spells ns n j fits behind from first start s) h fits behind (sym f ∙ plain) b g;
      }

-- a run of them at once
module _ (bs : List ℕ) (size : bytes_size ≤ length bs) {e : ℕ} (few : e ≤ residue_limit) where
  written_run : (o : List ℕ) (p at k : ℕ) → k ≤ e - p → ((i : ℕ) → p ≤ i → i < p + k → section_field bs i ≡ section_code Plain)
      → LettersWritten bs e o p at (stored o at (take k (drop (letters_at + p) bs))) (p + k) (at + k)
  unfolding stored
  written_run o p at zero h plain = rw (add-zero p, add-zero at) (lettered_start bs e o p at)
  written_run o p at (suc k) h plain =
      let i = p + k in
      let w = take k (drop (letters_at + p) bs) in
      let long : length w ≡ k = omega (arith, length-take k (drop (letters_at + p) bs), length-drop (letters_at + p) bs) in
      let within : k < length (drop (letters_at + p) bs) = omega (arith, length-drop (letters_at + p) bs) in
      let more : take (suc k) (drop (letters_at + p) bs) ≡ w ++ (letter_field bs i ∷ []) =
      take-suc (drop (letters_at + p) bs) k 0 within ∙ ap (λ x. w ++ (x ∷ [])) (get_or-drop (letters_at + p) bs k 0 ∙ ap (λ j. get_or bs j 0) (let z : letters_at + p + k ≡ letters_at + i = omega arith in z)) in
      let one : Puts 1 (stored o at w) (at + k) (letter_field bs i ∷ []) (stored o at (w ++ (letter_field bs i ∷ []))) (at + k + 1) =
      rw (stored_append o at w (letter_field bs i ∷ []), long) (puts_stored (stored o at w) (at + k) (letter_field bs i)) in
      let x : p + suc k ≡ i + 1 = omega arith in
      let y : at + suc k ≡ at + k + 1 = omega arith in
      rw (more, x, y)
      (lettered_more bs e o p at (written_run o p at k (omega arith) (λ j l g. plain j l (omega arith))) (omega arith) refl (plain i (omega arith) (omega arith)) refl one)

  pub letters_written : {o : List ℕ} {p at i place : ℕ} {out : List ℕ} {m : ℕ} → p ≤ i → i ≤ p + (e - p) → ((k : ℕ) → p ≤ k → k < i → section_field bs k ≡ section_code Plain)
      → Puts m o at (take (letters_at + i - (letters_at + p)) (drop (letters_at + p) bs)) out place
      → (p ≤ i) × ((ns : List ℤ) (n j : ℕ) → e ≤ n → Behind bs j e → Spells bs ns n j o p at out i place)
  letters_written {o} {p} {at} {i} {place} {out} h l plain w =
      let k : letters_at + i - (letters_at + p) ≡ i - p = omega arith in
      let run = written_run o p at (i - p) (omega arith) (λ j a b. plain j a (omega arith)) in
      let x : p + (i - p) ≡ i = omega arith in
      let t = take (letters_at + i - (letters_at + p)) (drop (letters_at + p) bs) in
      let long : length t ≡ i - p = omega (arith, length-take (letters_at + i - (letters_at + p)) (drop (letters_at + p) bs), length-drop (letters_at + p) bs) in
      let y : at + (i - p) ≡ place = omega (arith, w.ends, long) in
      let z : stored o at (take (i - p) (drop (letters_at + p) bs)) ≡ out = ap (λ n. stored o at (take n (drop (letters_at + p) bs))) (sym k) ∙ sym w.holds in
      let all : LettersWritten bs e o p at out i place = rw (x, y, z) at run in
      (all.forth, all.spells)

-- the letters whose rank is below that of bracket j stand before it
pub letters_before :
    (bs : List ℕ) {e n j q p at : ℕ} {o out : List ℕ} {i a : ℕ} → (e ≤ n) × ((l : ℕ) → l < e → rank_of OnResidue (l + 1) < q)
    → ((ns : List ℤ) → ReadyToWrite bs ns → NoneBelow bs j q)
    → (p ≤ i) × ((ns : List ℤ) (n j : ℕ) → e ≤ n → Behind bs j e → Spells bs ns n j o p at out i a)
    → (p ≤ i) × ((ns : List ℤ) → ReadyToWrite bs ns → Spells bs ns n j o p at out i a)
letters_before bs {n = n} {j = j} below none written =
    (written.0, λ ns ready. written.1 ns n j below.0 (λ i k l g w. omega (arith, none ns ready k g w, below.1 i l)))

-- ---- what closes and what leads
closed_none : (t : List ℕ) (b : ℕ) → length t ≡ 0 → t ≡ closed_by t b
closed_none [] b e = refl
closed_none (x ∷ t) b e = absurd (omega arith)

closed_some : (t : List ℕ) (b : ℕ) → (length t ≡ 0 → ⊥) → t ++ (b ∷ []) ≡ closed_by t b
closed_some [] b z = absurd (z refl)
closed_some (x ∷ t) b z = refl

module _ (b : ℕ) {bs : List ℕ} {from q : ℕ} {o : List ℕ} {at : ℕ} {t left : List ℕ} {place next : ℕ} (w : Walks bs 0 from q o at t left place next) where
  pub walks_open : place ≡ at → Walks bs 1 from q o at (closed_by t b) left place next
  walks_open e = walks_of (closed_none t b (omega (arith, w.puts.ends))) (walks_up (omega arith) (omega arith) w)

  pub walks_closed : (place ≡ at → ⊥) → {left' : List ℕ} {r : ℕ} → Puts 1 left place (b ∷ []) left' r → Walks bs 1 from q o at (closed_by t b) left' r next
  walks_closed z a = walks_of (closed_some t b (λ e. z (omega (arith, w.puts.ends)))) (walks_before 1 (omega arith) w a)

led : (b : ℕ) (s : List ℕ) (x : ℕ) (u : List ℕ) → b ∷ (s ++ (x ∷ u)) ≡ led_by b (s ++ (x ∷ u))
led b [] x u = refl
led b (y ∷ s) x u = refl

module _ (bs : List ℕ) (ns : List ℤ) {m : ℕ} (e : m ≡ brackets_field bs) where
  no_c_term : ((i : ℕ) → i < m → rank_in bs i < c_term_rank bs) → run_text Square (c_term_rank bs) (tables_in bs ns).brackets ≡ []
  unfolding tables_in
  no_c_term h = none_of bs ns Square (c_term_rank bs) (brackets_field bs) (λ i l w. omega (arith, h i (omega arith), w))

  pub c_term_none : m ≡ 0 → [] ≡ led_by dash (run_text Square (c_term_rank bs) (tables_in bs ns).brackets)
  c_term_none z = sym (ap (led_by dash) (no_c_term (λ i h. absurd (omega arith))))

  module _ (d : ReadyToWrite bs ns) (z : m ≡ 0 → ⊥) {q r : ℕ} (c : q ≡ c_term_rank bs) (f : r ≡ rank_in bs (m - 1)) where
    pub c_term_below : r < q → [] ≡ led_by dash (run_text Square (c_term_rank bs) (tables_in bs ns).brackets)
    c_term_below h = sym (ap (led_by dash) (no_c_term (λ i l. omega (arith, d.sorted i (m - 1) (omega arith) (omega arith), f, c))))

    pub c_term_some : q ≤ r → dash ∷ run_text Square q (tables_in bs ns).brackets ≡ led_by dash (run_text Square (c_term_rank bs) (tables_in bs ns).brackets)
    unfolding tables_in
    c_term_some h =
        let t = c_term_rank bs in
        let one : brackets_field bs ≡ m - 1 + 1 = omega arith in
        let low = rank_within bs ns (m - 1) d.bounds (omega arith) in
        let k = bracket_in bs ns (m - 1) in
        let y : ranked_text Square t k ≡ square_text k = sym (took _ _ _ (eq-eqb (rank k) t (rank_is bs ns (m - 1) ∙ sym f ∙ omega (arith, f, c, low)))) in
        let w : run_text Square t (tabled (bracket_in bs ns) 0 (brackets_field bs)) ≡ run_text Square t (tabled (bracket_in bs ns) 0 (m - 1)) ++ square_text k =
        ap (λ n. run_text Square t (tabled (bracket_in bs ns) 0 n)) one
        ∙ sym (run_one Square t (bracket_in bs ns) (m - 1))
        ∙ ap (λ z. run_text Square t (tabled (bracket_in bs ns) 0 (m - 1)) ++ z) y in
        rw (c, w) (led dash (run_text Square t (tabled (bracket_in bs ns) 0 (m - 1))) _ _)

-- ---- the line
module _ (bs : List ℕ) (ns : List ℤ) {q : ℕ} (c : NoneBelow bs 0 q) where
  none_below : (shape : Shape) (r : ℕ) → r < q → run_text shape r (tables_in bs ns).brackets ≡ []
  unfolding tables_in
  none_below shape r h = none_of bs ns shape r (brackets_field bs) (λ i l e. omega (arith, c i (omega arith) l, e))

  -- where the first bracket stands in the sequence or behind it
  pub front_none : rank_of NTerm 0 < q → [] ≡ front_text (tables_in bs ns).brackets
  front_none h =
      rw (none_below Angled (rank_of Declared 0) (omega arith), none_below Counted (rank_of Unknown 0) (omega arith), none_below Curly (rank_of Labile 0) (omega arith), none_below Square (rank_of NTerm 0) (omega arith))

regrouped : (a b c d : List ℕ) → (a ++ (b ++ c)) ++ d ≡ a ++ (b ++ (c ++ d))
regrouped a b c d = simp append_assoc

pub chain_text_lem : {P : Type 0} (ks : List (Bracket P)) (rs : List (Residue P)) {n : ℕ} → n ≡ length rs
    → chain_front ks ++ (sequence_text ks 1 rs ++ led_by dash (run_text Square (rank_of CTerm (n + 1)) ks)) ≡ chain_text ks 0 rs
unfolding chain_text
chain_text_lem ks rs {n} e =
    let last : n + 1 ≡ 1 + length rs = omega arith in
    rw (last, run_is Counted Unknown 0 ks, run_is Curly Labile 0 ks, run_is Square NTerm 0 ks, run_is Square CTerm (1 + length rs) ks)
    (regrouped (closed_by (flat unknown_text (ending_at Unknown 0 ks)) question) (flat curly_text (ending_at Labile 0 ks)) (closed_by (flat square_text (ending_at NTerm 0 ks)) dash) _)

pub line_text :
    (bs : List ℕ) (ns : List ℤ)
    → front_text (tables_in bs ns).brackets
    ++ (sequence_text (tables_in bs ns).brackets 1 (tables_in bs ns).residues ++ led_by dash (run_text Square (c_term_rank bs) (tables_in bs ns).brackets))
    ≡ canonical (tables_in bs ns)
unfolding canonical
line_text bs ns =
    let ks = (tables_in bs ns).brackets in
    append_assoc (run_text Angled (rank_of Declared 0) ks) (chain_front ks) _
    ∙ ap₂ (λ s t. s ++ t) (run_is Angled Declared 0 ks) (chain_text_lem ks (tables_in bs ns).residues (sym (residues_many bs ns)))

pub whole_line : {k : ℕ} {c o left : List ℕ} {r : ℕ} → k ≤ ceiling → Puts k o 0 c left r → WholeLine c o left r
whole_line {c = c} {o = o} h a =
    record { long = omega (arith, a.ends); holds = a.holds ∙ stored_whole o c; low = omega (arith, a.near) }

-- where the output is long enough
pub line_laid : {c o left : List ℕ} {r : ℕ} → WholeLine c o left r → length c ≤ length o → left ≡ laid c o
line_laid {c} {o} w h = w.holds ∙ ap (λ l. l ++ drop (length c) o) (take_all (length o) c h)
