-- Which lines are accepted, and with what the others are refused, over the grammar.
use Rattle.std.specs.Prelude.{ℕ, ◌+◌, ◌≤◌, ◌≡◌, refl, ◌⊎◌, List, ◌++◌, length, take}
use Rattle.std.proofs.Common.{arith, sym, ap, ◌∙◌, inl, inr}
use Rattle.scope.specs.Limits.{line_limit}
use Rattle.scope.specs.Line.{Line}
use Rattle.scope.specs.Reading.{Reading, stuck, holds, reading}
use Rattle.scope.specs.Kept.{kept}
use Rattle.scope.specs.Refusals.{accepted, refused, line_refusals, judged, byte_refusals, outcome}
use Rattle.reading_laws.specs.Laws.{Clear, First}
use Rattle.reading_laws.proofs.Proved as reads
use Rattle.clause_laws.proofs.Proved as clauses
use Rattle.scope.specs.Grammar.{means}
use Rattle.grammar_laws.proofs.Written.{line_read}
use Rattle.grammar_laws.specs.Laws.{BegunWell, Stops, Accepts, Refuses, of_bytes, of_order, of_line}
use Rattle.grammar_laws.proofs.Lines.{spelt_read, read_spelt}
use Rattle.reading_laws.proofs.Precedence.{clear_cases, clear_due}
use Rattle.reading_laws.proofs.Taken.{not_long, none_long, some_bytes}

-- ---- the place of refusal 4
begun_read : (w : List ℕ) → BegunWell w → (l : List ℕ) × (t : Line ℕ) × (reading (w ++ l) ≡ holds t)
begun_read w b = (b.more, means b.tree, ap reading b.prints ∙ line_read b.tree b.fine)

read_begun : (w l : List ℕ) (t : Line ℕ) → reading (w ++ l) ≡ holds t → BegunWell w
read_begun w l t e = let x = read_spelt (w ++ l) t e in record { more = l; tree = x.tree; fine = x.fine; prints = x.prints }

pub stuck_stops : (s : List ℕ) (i : ℕ) → reading s ≡ stuck i → Stops s i
stuck_stops s i e =
    let r = ((reads.laws).place_of_4 s i).0 e in
    record {
      inside = r.inside;
      begins = read_begun (take i s) r.begins.0 r.begins.1 r.begins.2;
      stops = λ h b. let q = begun_read (take (i + 1) s) b in r.stops h q.0 q.1 q.2;
      ends = λ h t g p. r.ends h (means t) (ap reading p ∙ line_read t g);
    }

pub stops_stuck : (s : List ℕ) (i : ℕ) → Stops s i → reading s ≡ stuck i
stops_stuck s i w =
    ((reads.laws).place_of_4 s i).1
    (record {
      inside = w.inside;
      begins = begun_read (take i s) w.begins;
      stops = λ h l t e. w.stops h (read_begun (take (i + 1) s) l t e);
      ends = λ h t e. let x = read_spelt s t e in w.ends h x.tree x.fine x.prints;
    })

-- ---- acceptance
not_refused : (l : Line ℕ) (k i : ℕ) → accepted l ≡ refused k i → ⊥
not_refused l k i e = let z : ◌≡◌ {A = ℕ} 0 1 = cc in omega arith

pub accepts_so : (s : List ℕ) (l : Line ℕ) → outcome s ≡ accepted l → Accepts s l
unfolding outcome
accepts_so s l e =
    let c = clear_cases (byte_refusals s) (judged (reading s)) l e in
    go (reading s) refl (not_long s c.0.1.0) c.1
  where
    go : (r : Reading) → reading s ≡ r → length s ≤ line_limit → judged r ≡ accepted l → Accepts s l
    go (stuck i) q h f = absurd (not_refused l 4 i (sym f))
    go (holds m) q h f =
        let c = clear_cases (line_refusals m) (accepted (kept m)) l f in
        let a : accepted (kept m) ≡ accepted l = c.1 in
        let z : l ≡ kept m = cc in
        record { read = m; spelt = read_spelt s m q; short = h; clear = ((clauses.laws).none_due m).0 c.0; keeps = z }

pub so_accepts : (s : List ℕ) (l : Line ℕ) → Accepts s l → outcome s ≡ accepted l
unfolding outcome
so_accepts s l w =
    let r = w.read in
    let e : reading s ≡ holds r = spelt_read s r w.spelt in
    clear_due (byte_refusals s) (judged (reading s)) (some_bytes s r e, (none_long s w.short, ((reads.laws).printable s r e, tt)))
    ∙ ap judged e ∙ clear_due (line_refusals r) (accepted (kept r)) (((clauses.laws).none_due r).1 w.clear)
    ∙ ap accepted (sym w.keeps)

-- ---- refusals
pub refuses_so : (s : List ℕ) (k i : ℕ) → outcome s ≡ refused k i → Refuses s k i
unfolding outcome
refuses_so s k i e = by (((reads.laws).in_order_lem (byte_refusals s) (judged (reading s)) k i).0 e)
  where
    lined : (l : Line ℕ) → reading s ≡ holds l → Clear (byte_refusals s) → First (line_refusals l) k i ⊎ (Clear (line_refusals l) × (accepted (kept l) ≡ refused k i)) → Refuses s k i
    lined l q c (inl f) = of_line c l (read_spelt s l q) f
    lined l q c (inr f) = absurd (not_refused (kept l) k i f.1)

    go : (r : Reading) → reading s ≡ r → Clear (byte_refusals s) → judged r ≡ refused k i → Refuses s k i
    go (stuck j) q c f =
        let a : 4 ≡ k = cc in
        let b : j ≡ i = cc in
        of_order c (sym a) (stuck_stops s i (q ∙ ap stuck b))
    go (holds l) q c f = lined l q c (((reads.laws).in_order_lem (line_refusals l) (accepted (kept l)) k i).0 f)

    by : First (byte_refusals s) k i ⊎ (Clear (byte_refusals s) × (judged (reading s) ≡ refused k i)) → Refuses s k i
    by (inl f) = of_bytes f
    by (inr c) = go (reading s) refl c.0 c.1

pub so_refuses : (s : List ℕ) (k i : ℕ) → Refuses s k i → outcome s ≡ refused k i
unfolding outcome
so_refuses s k i (of_bytes f) = ((reads.laws).in_order_lem (byte_refusals s) (judged (reading s)) k i).1 (inl f)
so_refuses s k i (of_order c e w) =
    clear_due (byte_refusals s) (judged (reading s)) c ∙ ap judged (stops_stuck s i w) ∙ ap (λ z. refused z i) (sym e)
so_refuses s k i (of_line c l w f) =
    clear_due (byte_refusals s) (judged (reading s)) c ∙ ap judged (spelt_read s l w) ∙ ((reads.laws).in_order_lem (line_refusals l) (accepted (kept l)) k i).1 (inl f)
