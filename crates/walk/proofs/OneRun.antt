-- Residues more: what is known at the stage behind a residue and the letters behind it.
use mathlib.Core.Path.{◌≡◌, refl, sym, ap, ap₂, subst, ◌∙◌}
use mathlib.Core.Bool.{Bool, cond}
use mathlib.Core.List.{List, ◌++◌, map, map-append}
use Prim.Native.Nat.{ℕ, ◌+◌, ◌-◌, ◌≤◌, ◌<◌}
use native.Mathlib.Omega.{arith}
use lib.Dec.{leb, ltb}
use lib.ListN.{length, take, drop, get_or, length-append, length-map}
use lib.Seq.{sets, length-sets}
use borrow.Author.Tests.{le-leb}
use Rattle.basics.specs.Choice.{branch, pick_true}
use Rattle.scope.specs.declared.grammar.Section.{Section}
use Rattle.scope.specs.declared.grammar.Section.TheVariants.{Plain, RangeFirst, RangeNext, UnsureFirst, UnsureNext}
use Rattle.scope.specs.declared.grammar.Mode.{Mode}
use Rattle.scope.specs.declared.grammar.Act.TheVariants.{Residue as a_residue}
use Rattle.scope.specs.Limits.{residue_limit}
use Rattle.scope.specs.Line.{Residue}
use Rattle.scope.specs.Layout.{section_code}
use Rattle.scope.specs.Bytes.{upper}
use Rattle.scope.specs.Lists.{part}
use Rattle.scope.specs.Reading.{Held}
use Rattle.scope.specs.Refusals.{due_at}
use Rattle.sheet.specs.Rows.{Lettered}
use Rattle.sheet.proofs.RowLaws.{put_behind}
use Rattle.dues.specs.Ranks.{code, lowest}
use Rattle.dues.specs.Lines.{over_rank, met_codes}
use Rattle.sheet.specs.declared.Sheet.{Sheet}
use Rattle.walk.specs.declared.Stage.{Stage}
use Rattle.walk.specs.Stages.{held_brackets, with_letters, nothing_due, Upto, Does}
use Rattle.walk.specs.Steps.{group_of, run_at, sections_of, with_run, letters_put, sections_put, RunSays}
use Rattle.walk.proofs.Letters.{held_with, run_of, run_length, run_sections, run_places, run_letters, run_within, run_read}
use Rattle.walk.proofs.Dues.{met_residues, past_due}
use Rattle.walk.proofs.Declares.{declares_residue}
use Rattle.walk.proofs.Further.{run_left}

-- numbers put behind the first n of a table, where they are not too many, are behind them
put_known : (n m : ℕ) (l vs front : List ℕ) → length vs ≡ m → residue_limit ≤ length l → n + m ≤ residue_limit → take n l ≡ front
    → take (n + m) (cond (leb (n + m) residue_limit) (sets l n vs) l) ≡ front ++ vs
put_known n m l vs front e room h f =
    ap (take (n + m)) (pick_true (leb (n + m) residue_limit) (sets l n vs) l (le-leb _ _ h))
    ∙ put_behind l n vs (n + m) (ap (λ k. n + k) (sym e)) (omega arith)
    ∙ ap (λ t. t ++ vs) f

put_long : (t : Bool) (n : ℕ) (l vs : List ℕ) → length (cond t (sets l n vs) l) ≡ length l
put_long t n l vs = branch (λ x. length x ≡ length l) t (length-sets l n vs) refl

module _ (rs xs : List (Residue ℕ)) (letters sections : List ℕ) (w : Lettered rs letters sections) (n m : ℕ) (en : n ≡ length rs) (em : length xs ≡ m) where
  lettered_more : residue_limit ≤ length letters → residue_limit ≤ length sections → (vs ws : List ℕ) → map (λ r. r.letter) xs ≡ vs → map (λ r. section_code r.section) xs ≡ ws
      → Lettered (rs ++ xs) (cond (leb (n + m) residue_limit) (sets letters n vs) letters) (cond (leb (n + m) residue_limit) (sets sections n ws) sections)
  lettered_more letters_room sections_room vs ws ev ew =
      let long : length (rs ++ xs) ≡ n + m = length-append rs xs ∙ ap₂ ◌+◌ (sym en) em in
      let few : length (rs ++ xs) ≤ residue_limit → length rs ≤ residue_limit = λ h. omega (arith, h, long, en) in
      record {
        letters_are = λ h.
            ap (λ k. take k (cond (leb (n + m) residue_limit) (sets letters n vs) letters)) long
            ∙ put_known n m letters vs (map (λ r. r.letter) rs) (ap length (sym ev) ∙ length-map xs (λ r. r.letter) ∙ em) letters_room (omega (arith, h, long)) (ap (λ k. take k letters) en ∙ w.letters_are (few h))
            ∙ ap (λ t. map (λ r. r.letter) rs ++ t) (sym ev) ∙ sym (map-append (λ r. r.letter) rs xs);
        sections_are = λ h.
            ap (λ k. take k (cond (leb (n + m) residue_limit) (sets sections n ws) sections)) long
            ∙ put_known n m sections ws (map (λ r. section_code r.section) rs) (ap length (sym ew) ∙ length-map xs (λ r. section_code r.section) ∙ em) sections_room (omega (arith, h, long)) (ap (λ k. take k sections) en ∙ w.sections_are (few h))
            ∙ ap (λ t. map (λ r. section_code r.section) rs ++ t) (sym ew) ∙ sym (map-append (λ r. section_code r.section) rs xs);
      }

group_low : (s : Section) (n m g : ℕ) → 0 < m → g ≤ n → group_of s (n + 1) (n + m) g ≤ n + m
group_low Plain n m g h l = omega arith
group_low RangeFirst n m g h l = omega arith
group_low RangeNext n m g h l = omega arith
group_low UnsureFirst n m g h l = omega arith
group_low UnsureNext n m g h l = omega arith

module _ {line : List ℕ} {s : Stage} {t : Sheet} {section : Section} {mode : Mode} (d : Does line s (a_residue section mode) t) where
  abbrev u : Upto line s t
  u = d.upto

  abbrev h : Held ℕ
  h = u.held

  abbrev m : ℕ
  m = run_at line s.at

  abbrev xs : List (Residue ℕ)
  xs = run_of line s.at section

  -- what is due of them
  run_codes : lowest s.least (map (code over_rank) (due_at (ltb residue_limit (s.residues + m)) (s.at + (residue_limit - s.residues)))) ≡ lowest nothing_due (met_codes (h.residues ++ xs) (held_brackets h))
  run_codes =
      ap₂ (λ l n. lowest l (map (code over_rank) (due_at (ltb residue_limit (n + m)) (s.at + (residue_limit - n))))) u.least_is u.residues_are.many
      ∙ sym
      (met_residues nothing_due h.residues xs (held_brackets h)
      ∙ ap (λ ps. lowest (lowest nothing_due (met_codes h.residues (held_brackets h))) (map (code over_rank) (drop (residue_limit - length h.residues) ps))) (run_places line s.at section)
      ∙ past_due (lowest nothing_due (met_codes h.residues (held_brackets h))) over_rank s.at m (length h.residues) residue_limit (omega arith))

  run_upto : Upto line (with_run s section mode m) (with_letters t (letters_put line s.at m s.residues t.letters) (sections_put section m s.residues t.sections))
  run_upto =
      let a = u.residues_are in
      let r = u.roomy in
      record {
        held = held_with h xs (group_of section (length h.residues + 1) (length h.residues + m) h.first);
        is = u.is ∙ run_read line s.at s.mode h section mode d.here d.does;
        within = run_within line s.at d.here;
        fits = run_left d h.run _ _ u.fits;
        declares = declares_residue (get_or line s.at 0) section d.does u.declares;
        residues_are = record {
          many = ap (λ n. n + m) a.many ∙ sym (length-append h.residues xs ∙ ap (λ n. length h.residues + n) (run_length line s.at section));
          group_is = ap₂ (λ n g. group_of section (n + 1) (n + m) g) a.many a.group_is;
          group_low = group_low section s.residues m s.group (omega arith) a.group_low;
          lettered =
              lettered_more h.residues xs t.letters t.sections a.lettered s.residues m a.many (run_length line s.at section) r.letters_room r.sections_room _ _
              (run_letters line s.at section d.here) (run_sections line s.at section);
        };
        brackets_are = u.brackets_are;
        least_is = run_codes;
        few_residues = omega (arith, u.few_residues);
        few_brackets_lem = omega (arith, u.few_brackets_lem);
        roomy = record {
          letters_room = omega (arith, r.letters_room, put_long (leb (s.residues + m) residue_limit) s.residues t.letters (map upper (part s.at m line)));
          sections_room = omega (arith, r.sections_room, put_long (leb (s.residues + m) residue_limit) s.residues t.sections (sections_of section m));
          heads_room_is = r.heads_room_is;
          parts_room_is = r.parts_room_is;
          masses_room_is = r.masses_room_is;
          scores_room = r.scores_room;
        };
      }

  pub run_more : {r : Stage} {t' : Sheet} → RunSays line s section mode r t t' → Upto line r t' × (s.at < r.at)
  run_more {r} {t'} w =
      let past : s.at < s.at + m = omega arith in
      subst (λ x. Upto line x t' × (s.at < x.at)) (sym w.stage) (subst (Upto line (with_run s section mode m)) (sym w.put) run_upto, past)
