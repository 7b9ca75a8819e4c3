-- The laws of specs/Laws.antt hold: one way by what a tree prints (Printed, Written), the other by the tree that is found for what is read (Spelled, Parsed).
use Rattle.std.specs.Prelude.{ℕ, ◌≡◌, refl, Bool, true, List, [], ◌∷◌, ◌++◌, map}
use Rattle.std.proofs.Common.{sym, ap, ◌∙◌, subst, append_assoc, append-nil}
use Rattle.std.proofs.Math.Option.{Option, none, some, some-injective, none-ne-some}
use Rattle.scope.specs.Bytes.{is_shutting}
use Rattle.scope.specs.Line.{Number, Part, Line}
use Rattle.scope.specs.Lists.{given}
use Rattle.scope.specs.Content.{Digits, signed, digit_step, begin, closed, going}
use Rattle.scope.specs.Reading.{Reading, stuck, holds, reading}
use Rattle.scope.specs.Tables.{Tables, tables_of}
use Rattle.reading_laws.proofs.Places.{map_part, map_content}
use Rattle.reading_laws.proofs.Run.{unnoted}
use Rattle.reading_laws.proofs.Unnoted.{digit_run, closed_same}
use Rattle.scope.specs.Grammar.{Spelling, print, good, means}
use Rattle.grammar_laws.proofs.Numerals.{numeral_run, numeral_end, read_as, SoFar, so_further, so_ended}
use Rattle.grammar_laws.specs.Texts.{text_run, outer_run, whole_text}
use Rattle.grammar_laws.proofs.Words.{word_length}
use Rattle.grammar_laws.specs.Runs.{context, noted_run, run_bare}
use Rattle.grammar_laws.proofs.Printed.{inside_run}
use Rattle.grammar_laws.proofs.Spelled.{closed_spelled}
use Rattle.grammar_laws.proofs.Written.{line_read}
use Rattle.grammar_laws.specs.Laws.{ReadNumber, SpeltNumber, SpeltText, SpeltBracket, SpeltLine, SpeltTables, ReadTables, Stops, Laws}
use Rattle.grammar_laws.proofs.Lines.{holds_same, spelt_read, read_spelt}
use Rattle.grammar_laws.proofs.Judged.{stuck_stops, stops_stuck, accepts_so, so_accepts, refuses_so, so_refuses}

-- ---- numbers
digits_spelt : (l w : List ℕ) (s : Bool) (d d' : Digits) → SoFar s d w → digit_run d l ≡ some d' → SoFar s d' (w ++ l)
unfolding digit_run
digits_spelt [] w s d d' f e = subst (λ (z : Digits). SoFar s z (w ++ [])) (some-injective d d' e) (subst (λ (z : List ℕ). SoFar s d z) (sym (append-nil w)) f)
digits_spelt (b ∷ l) w s d d' f e = go (digit_step d b) refl (λ m g h. digits_spelt l (w ++ (b ∷ [])) s m d' g h) e
  where
    go : (o : Option Digits) → digit_step d b ≡ o → ((m : Digits) → SoFar s m (w ++ (b ∷ [])) → digit_run m l ≡ some d' → SoFar s d' ((w ++ (b ∷ [])) ++ l)) → given o (λ m. digit_run m l) none ≡ some d' → SoFar s d' (w ++ (b ∷ l))
    go none q ih e = absurd (none-ne-some d' e)
    go (some m) q ih e = subst (λ (z : List ℕ). SoFar s d' z) (append_assoc w (b ∷ []) l) (ih m (so_further s d m b w f q) e)

read_number : (i : ℕ) (s : Bool) (w : List ℕ) (x : Number ℕ) → ReadNumber i s w x → SpeltNumber i s w x
read_number i s w x r =
    let q = so_ended i s r.digits x w (digits_spelt w [] s (signed s) r.digits (refl, refl) r.reads) r.ends in
    record { tree = q.numeral; fine = q.good; prints = q.prints; says = q.means }

spelt_number : (i : ℕ) (s : Bool) (w : List ℕ) (x : Number ℕ) → SpeltNumber i s w x → ReadNumber i s w x
spelt_number i s w x r =
    record {
      digits = read_as s r.tree;
      reads = ap (digit_run (signed s)) r.prints ∙ numeral_run s r.tree r.fine;
      ends = numeral_end i s r.tree ∙ ap some (sym r.says);
    }

-- ---- texts
read_text : (h : Bool) (w : List ℕ) → text_run h [] w ≡ some [] → SpeltText h w
read_text h w e = let i = whole_text h w e in record { tree = i.tree; fine = i.good; prints = i.prints }

spelt_text : (h : Bool) (w : List ℕ) → SpeltText h w → text_run h [] w ≡ some []
spelt_text h w r = ap (text_run h []) r.prints ∙ outer_run h r.tree r.fine

-- ---- brackets
-- that there is a tree is shown with nothing noted of places; what it means, places included, is then what is read of its bytes
read_bracket : (i shut : ℕ) (r labels : Bool) (w : List ℕ) (ps : List (Part ℕ)) → is_shutting shut ≡ true → noted_run i (going (begin (context shut r labels []))) w ≡ closed ps → SpeltBracket i shut r labels w ps
read_bracket i shut r labels w ps h e =
    let x = closed_spelled shut r labels w (map (map_part unnoted) ps) (sym (run_bare i (going (begin (context shut r labels []))) w) ∙ ap (map_content unnoted) e) in
    record {
      tree = x.tree;
      fine = x.good;
      prints = x.prints;
      says = closed_same ps _ (sym e ∙ ap (noted_run i (going (begin (context shut r labels [])))) x.prints ∙ inside_run i shut r labels x.tree h x.good);
    }

spelt_bracket : (i shut : ℕ) (r labels : Bool) (w : List ℕ) (ps : List (Part ℕ)) → is_shutting shut ≡ true → SpeltBracket i shut r labels w ps → noted_run i (going (begin (context shut r labels []))) w ≡ closed ps
spelt_bracket i shut r labels w ps h x =
    ap (noted_run i (going (begin (context shut r labels [])))) x.prints ∙ inside_run i shut r labels x.tree h x.fine ∙ ap closed (sym x.says)

-- ---- lines
one_reading : (a b : Spelling) → good a ≡ true → good b ≡ true → print a ≡ print b → means a ≡ means b
one_reading a b f g e = holds_same (means a) (means b) (sym (line_read a f) ∙ ap reading e ∙ line_read b g)

-- ---- tables
spelt_tables : (s : List ℕ) (t : Tables) → SpeltTables s t → ReadTables s t
spelt_tables s t w = record { line = means w.tree; reads = ap reading w.prints ∙ line_read w.tree w.fine; tables = sym w.says }

read_tables : (s : List ℕ) (t : Tables) → ReadTables s t → SpeltTables s t
read_tables s t w =
    let x = read_spelt s w.line w.reads in
    record { tree = x.tree; fine = x.fine; prints = x.prints; says = sym w.tables ∙ ap tables_of x.says }

only_reading : (f : List ℕ → Reading) → ((s : List ℕ) (l : Line ℕ) → SpeltLine s l → f s ≡ holds l) → ((s : List ℕ) (i : ℕ) → Stops s i → f s ≡ stuck i)
    → (s : List ℕ) → f s ≡ reading s
only_reading f h k s = go (reading s) refl
  where
    go : (r : Reading) → reading s ≡ r → f s ≡ reading s
    go (stuck i) e = k s i (stuck_stops s i e) ∙ sym e
    go (holds l) e = h s l (read_spelt s l e) ∙ sym e

pub laws : Laws
laws =
    record {
      numbers = λ i s w x. (read_number i s w x, spelt_number i s w x);
      texts = λ h w. (read_text h w, spelt_text h w);
      brackets = λ i shut r labels w ps h. (read_bracket i shut r labels w ps h, spelt_bracket i shut r labels w ps h);
      lines = λ s l. (read_spelt s l, spelt_read s l);
      place_of_4 = λ s i. (stuck_stops s i, stops_stuck s i);
      only_reading = only_reading;
      key_length = λ w g. word_length w.key w.spelled g;
      one_reading = one_reading;
      tables = λ s t. (read_tables s t, spelt_tables s t);
      accepts = λ s l. (accepts_so s l, so_accepts s l);
      refuses = λ s k i. (refuses_so s k i, so_refuses s k i);
    }
