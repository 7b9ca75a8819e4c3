-- A count: what is known at the stage behind its digits.
use mathlib.Core.Path.{◌≡◌, refl, sym, ap, subst, ◌∙◌}
use mathlib.Core.Bool.{true}
use mathlib.Core.List.{List, [], ◌∷◌, ◌++◌, map, append_assoc}
use Prim.Native.Nat.{ℕ, suc, ◌-◌, ◌<◌}
use native.Mathlib.Omega.{arith}
use lib.Dec.{leb}
use lib.ListN.{length, drop, get_or}
use lib.Seq.{drop-cons, length-sets}
use Rattle.basics.specs.Choice.{branch}
use Rattle.scope.specs.declared.grammar.Mode.TheVariants.{Counting}
use Rattle.scope.specs.declared.grammar.Act.TheVariants.{Digit}
use Rattle.scope.specs.Bytes.{is_digit}
use Rattle.scope.specs.Limits.{bracket_limit}
use Rattle.scope.specs.Line.{Bracket}
use Rattle.scope.specs.Reading.{Held, times, outside}
use Rattle.scope.specs.Refusals.{due_at}
use Rattle.classes.specs.Runs.{span}
use Rattle.numerals.specs.Numerals.{digits_from, CountAt}
use Rattle.reading_laws.proofs.Run.{rest}
use Rattle.sheet.specs.Rows.{Noted}
use Rattle.sheet.specs.Fields.{count_at, written_count}
use Rattle.dues.specs.Ranks.{code, lowest}
use Rattle.dues.specs.Lines.{wide_rank, met_codes}
use Rattle.inside.proofs.Lists.{length_snoc}
use Rattle.sheet.specs.declared.Sheet.{Sheet}
use Rattle.walk.specs.declared.Stage.{Stage}
use Rattle.walk.specs.Stages.{LastFresh, ModeFits, held_brackets, with_heads, nothing_due, BracketsAre, Upto, Does}
use Rattle.walk.specs.Steps.{count_put, wrong_count, counted_to, CountNoted}
use Rattle.walk.proofs.Counts.{with_count, count_read, count_stops, count_within, count_past}
use Rattle.walk.proofs.Declares.{declares_count}
use Rattle.walk.proofs.Dues.{met_count}
use Rattle.walk.proofs.Notes.{noted_count}
use Rattle.walk.proofs.Further.{run_left, brackets_as, room_heads}

put_long : (n value : ℕ) (heads : List ℕ) → length (count_put n value heads) ≡ length heads
put_long n value heads = branch (λ l. length l ≡ length heads) (leb n bracket_limit) (length-sets heads (count_at (n - 1)) (value ∷ written_count ∷ [])) refl

module _ {line : List ℕ} {s : Stage} {t : Sheet} (d : Does line s Digit t) where
  abbrev u : Upto line s t
  u = d.upto

  abbrev h : Held ℕ
  h = u.held

  digit_here : is_digit (get_or line s.at 0) ≡ true
  digit_here = (run_left d).0

  -- the bracket that it belongs to
  last : LastFresh h.run
  last = (run_left d).1 h.run (drop (suc s.at) line) (subst (ModeFits s.mode h.run) (drop-cons line s.at 0 d.here) u.fits)

  abbrev ks : List (Bracket ℕ)
  ks = h.brackets ++ last.before

  abbrev k : Bracket ℕ
  k = last.last

  joins : held_brackets h ≡ ks ++ (k ∷ [])
  joins = ap (λ l. h.brackets ++ l) last.is ∙ sym (append_assoc h.brackets last.before (k ∷ []))

  many : s.brackets ≡ length (ks ++ (k ∷ []))
  many = u.brackets_are.many ∙ ap length joins

  pub some_bracket : 0 < s.brackets
  some_bracket = omega (arith, many, length_snoc ks k)

  module _ (value next : ℕ) (f : CountAt line s.at value next) where
    abbrev c : ℕ
    c = digits_from 0 (drop s.at line)

    abbrev x : Bracket ℕ
    x = times c s.at k

    -- with the count
    counted : BracketsAre line s.brackets (length ks) s.parts ks (x ∷ []) (count_put s.brackets value t.heads) t.parts t.masses t.scores
    counted =
        let a = u.brackets_are in
        record {
          many = many ∙ length_snoc ks k ∙ sym (length_snoc ks x);
          before = refl;
          noted = noted_count ks k s.brackets value c s.at many f.valued (subst (λ l. Noted line l s.parts t.heads t.parts t.masses t.scores) joins a.noted);
        }

    count_upto : Upto line (counted_to s next value) (with_heads t (count_put s.brackets value t.heads))
    count_upto =
        let same : ks ++ (x ∷ []) ≡ h.brackets ++ (last.before ++ (x ∷ [])) = append_assoc h.brackets last.before (x ∷ []) in
        record {
          held = with_count h last.before k c s.at;
          is =
              u.is ∙ count_read line s.at h last.before k last.is last.fresh s.mode d.here d.does digit_here
              ∙ ap (λ i. rest line i (outside Counting (with_count h last.before k c s.at))) (sym f.ends);
          within = omega (arith, f.ends, count_within line s.at u.within);
          fits = ap (λ i. span is_digit (drop i line)) f.ends ∙ count_stops line s.at;
          declares = declares_count last.before k c s.at last.is u.declares;
          residues_are = u.residues_are;
          brackets_are = brackets_as counted h.brackets (last.before ++ (x ∷ [])) same s.run u.brackets_are.before;
          least_is =
              ap (λ l. lowest l (map (code wide_rank) (due_at (wrong_count value) s.at))) (u.least_is ∙ ap (λ l. lowest nothing_due (met_codes h.residues l)) joins)
              ∙ sym (met_count nothing_due h.residues ks k value c s.at f.valued last.fresh)
              ∙ ap (λ l. lowest nothing_due (met_codes h.residues l)) same;
          few_residues = omega (arith, u.few_residues, f.ends);
          few_brackets_lem = omega (arith, u.few_brackets_lem, f.ends);
          roomy = room_heads u.roomy (put_long s.brackets value t.heads);
        }

  pub count_more : {r : Stage} {t' : Sheet} → CountNoted line s r t t' → Upto line r t' × (s.at < r.at)
  count_more {r} {t'} w =
      let past : s.at < w.next = omega (arith, w.is.ends, count_past line s.at d.here digit_here) in
      subst (λ y. Upto line y t' × (s.at < y.at)) (sym w.stage)
      (subst (Upto line (counted_to s w.next w.value)) (sym w.put) (count_upto w.value w.next w.is), past)
