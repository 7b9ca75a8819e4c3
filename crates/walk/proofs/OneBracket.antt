-- A bracket: what reading it asks, and what is known at the stage behind it.
use mathlib.Core.Path.{◌≡◌, refl, sym, ap, ap₂, subst, ◌∙◌}
use mathlib.Core.Bool.{cond, false, ◌&&◌}
use mathlib.Core.Option.{none}
use mathlib.Core.List.{List, [], ◌∷◌, ◌++◌, map, append_assoc, append-nil}
use Prim.Native.Nat.{ℕ, ◌+◌, ◌-◌, ◌*◌, ◌<◌, min}
use native.Mathlib.Omega.{arith}
use lib.Dec.{leb}
use lib.IntN.{ℤ}
use lib.ListN.{length, drop, get_or, set, length-set}
use lib.Seq.{sets, length-sets}
use borrow.Author.Tests.{ltb-true}
use Rattle.basics.specs.Choice.{branch, by_test}
use Rattle.basics.specs.Kinds.{is_kind_lem}
use Rattle.scope.specs.declared.grammar.Kind.TheVariants.{Declared}
use Rattle.scope.specs.declared.grammar.Slot.{Slot}
use Rattle.scope.specs.declared.grammar.Act.TheVariants.{Begin}
use Rattle.scope.specs.Kinds.{is_unknown, is_declared}
use Rattle.scope.specs.Bytes.{wide_limit}
use Rattle.scope.specs.Tables.{score_of}
use Rattle.scope.specs.Limits.{bracket_limit, part_limit, declaration_limit}
use Rattle.scope.specs.Line.{Part, Bracket}
use Rattle.scope.specs.Reading.{Held, put, bracket_of, mode_after, outside, perform, stuck, reading}
use Rattle.scope.specs.Refusals.{due_at, declarations}
use Rattle.reading_laws.proofs.Kept.{put_by}
use Rattle.reading_laws.proofs.Run.{rest}
use Rattle.sheet.specs.Rows.{head_fields, Noted}
use Rattle.sheet.specs.Fields.{head_row}
use Rattle.dues.specs.Ranks.{code, lowest}
use Rattle.dues.specs.Lines.{over_rank, parts_codes, met_codes}
use Rattle.inside.specs.declared.Parts.{Parts}
use Rattle.inside.specs.declared.Bracketed.{Bracketed}
use Rattle.scope.specs.declared.grammar.Stuck.{Stuck}
use Rattle.std.specs.Prelude.{Result, Ok, Err}
use Rattle.labels.specs.Says.{score_code, score_points}
use Rattle.labels.proofs.Kept.{code_kept, points_kept}
use Rattle.walk.proofs.Scores.{score_small}
use Rattle.inside.specs.Says.{Opening, BracketFits, Grows, Closes, BracketSays}
use Rattle.inside.proofs.Lists.{length_snoc}
use Rattle.sheet.specs.declared.Sheet.{Sheet}
use Rattle.walk.specs.declared.Stage.{Stage}
use Rattle.walk.specs.Stages.{ModeFits, Declares, held_brackets, nothing_due, ResiduesAre, BracketsAre, Upto, Does}
use Rattle.walk.specs.Steps.{noted?, run_behind, bracket_behind, opening_of, BracketAsks, BracketStuck, BracketRead, BracketStep, Stepped}
use Rattle.walk.proofs.Modes.{SlotFits, labels_there}
use Rattle.walk.proofs.Declares.{begins_declaring, declares_bracket, all_kept}
use Rattle.walk.proofs.Dues.{met_bracket}
use Rattle.walk.proofs.Notes.{noted_more}
use Rattle.walk.proofs.Further.{next_state, run_left, low, brackets_as}

-- ---- what reading a bracket asks, and what it says, by its answer
pub bracket_fits : {line : List ℕ} {s : Stage} {slot : Slot} → BracketAsks line s slot → (least : ℕ) (parts : List ℕ) (masses : List ℤ)
    → BracketFits line (opening_of s slot least parts masses)
bracket_fits {s = s} a least parts masses = record {
  short = a.short;
  within = omega (arith, a.here);
  with_labels = a.with_labels;
  base_low = a.low.parts;
  base_room = λ e. a.low.room (ltb-true s.brackets bracket_limit e);
}

module _ (line : List ℕ) (o : Opening) (r : Result Bracketed Stuck) (parts : List ℕ) (masses : List ℤ) where
  pub then_stuck : BracketSays line o r parts masses → {p : Stuck} → r ≡ Err p → BracketSays line o (Err p) parts masses
  then_stuck f e = subst (λ x. BracketSays line o x parts masses) e f

  pub then_closes : BracketSays line o r parts masses → {b : Bracketed} → r ≡ Ok b → Closes line o b.next b.parts parts masses
  then_closes f e = subst (λ x. BracketSays line o x parts masses) e f

-- its score fits its field
pub score_fits : {line : List ℕ} {o : Opening} {next : ℕ} {p : Parts} {parts : List ℕ} {masses : List ℤ} → Closes line o next p parts masses → score_code p.score < wide_limit
score_fits {p = p} c = let e = ap score_code c.are.score ∙ code_kept (score_of c.found) in let d = score_small (score_of c.found) in omega (arith, e, d)

-- ---- a bracket is put behind those held
module _ (slot : Slot) (k : Bracket ℕ) (h : Held ℕ) (f : SlotFits slot h.run) where
  put_same : held_brackets h ++ (k ∷ []) ≡ held_brackets (put slot.kind k h)
  put_same =
      put_by (λ g. held_brackets h ++ (k ∷ []) ≡ held_brackets g) slot.kind k h (λ e. append_assoc h.brackets h.run (k ∷ []))
      (λ e. let z = f.none_before e in
      ap (λ l. (h.brackets ++ l) ++ (k ∷ [])) z ∙ ap (λ l. l ++ (k ∷ [])) (append-nil h.brackets)
      ∙ sym (append-nil (h.brackets ++ (k ∷ []))) ∙ ap (λ l. (h.brackets ++ (k ∷ [])) ++ l) (sym z))

  put_run : (run n : ℕ) → run ≡ length h.brackets → n ≡ length (held_brackets h) → run_behind slot.kind run n ≡ length (put slot.kind k h).brackets
  put_run run n a b =
      put_by (λ g. run_behind slot.kind run n ≡ length g.brackets) slot.kind k h
      (λ e. ap (λ c. run_behind c run n) e ∙ a)
      (λ e. ap (λ t. cond t run (n + 1)) e ∙ ap (λ j. j + 1) (b ∙ ap (λ l. length (h.brackets ++ l)) (f.none_before e) ∙ ap length (append-nil h.brackets)) ∙ sym (length_snoc h.brackets k))

  put_fits : (ps : List (Part ℕ)) (l : List ℕ) → k.counted ≡ none → ModeFits (mode_after slot ps) (put slot.kind k h).run l
  put_fits ps l e =
      put_by (λ g. ModeFits (mode_after slot ps) g.run l) slot.kind k h (λ q. f.waits (ap is_unknown q) k ps l e)
      (λ q. subst (λ r. ModeFits (mode_after slot ps) r l) (sym (f.none_before q)) (f.settles q ps l))

module _ {line : List ℕ} {s : Stage} {t : Sheet} {slot : Slot} (d : Does line s (Begin slot) t) where
  abbrev u : Upto line s t
  u = d.upto

  abbrev h : Held ℕ
  h = u.held

  abbrev ks : List (Bracket ℕ)
  ks = held_brackets h

  pub bracket_asks : BracketAsks line s slot
  bracket_asks = record { low = low d; here = d.here; short = d.short; with_labels = labels_there s.mode _ slot d.does }

  bracket_stuck : {p : ℕ} → BracketStuck line s slot p → reading line ≡ stuck p
  unfolding perform
  bracket_stuck f = next_state d ∙ f h

  slot_fits_lem : SlotFits slot h.run
  slot_fits_lem = run_left d h.run _ u.fits

  module _ {r : Stage} {t' : Sheet} (w : BracketRead line s slot r t t') where
    -- the sheet behind the bracket, table by table
    heads_put : t'.heads ≡ cond (noted? s) (sets t.heads (s.brackets * head_fields) (head_row w.noted.head)) t.heads
    heads_put = ap (λ x. x.heads) w.noted.put ∙ ap (λ l. cond (noted? s) (sets l (s.brackets * head_fields) (head_row w.noted.head)) l) w.others.heads

    scores_put : t'.scores ≡ cond (noted? s) (set t.scores s.brackets (score_points w.found.score)) t.scores
    scores_put = ap (λ x. x.scores) w.noted.put ∙ ap (λ l. cond (noted? s) (set l s.brackets (score_points w.found.score)) l) w.others.scores

    parts_are : t'.parts ≡ w.mid.parts
    parts_are = ap (λ x. x.parts) w.noted.put

    masses_are : t'.masses ≡ w.mid.masses
    masses_are = ap (λ x. x.masses) w.noted.put

    letters_kept : t'.letters ≡ t.letters
    letters_kept = ap (λ x. x.letters) w.noted.put ∙ w.others.letters

    sections_kept : t'.sections ≡ t.sections
    sections_kept = ap (λ x. x.sections) w.noted.put ∙ w.others.sections

    grows_at : Grows (opening_of s slot w.least t.parts t.masses) w.closes.found t'.parts t'.masses
    grows_at = rw (parts_are, masses_are) w.closes.grows

    abbrev ps : List (Part ℕ)
    ps = w.closes.found

    abbrev p : Parts
    p = w.found

    abbrev k : Bracket ℕ
    k = bracket_of slot.kind s.at ps h

    abbrev g : Held ℕ
    g = put slot.kind k h

    -- the brackets with this one, as they are noted
    with_bracket_lem : BracketsAre line (s.brackets + 1) (length ks) (cond (noted? s) (s.parts + min part_limit p.count) s.parts) ks (k ∷ []) t'.heads t'.parts t'.masses t'.scores
    with_bracket_lem =
        let a = u.brackets_are in
        let c = w.closes in
        let o = opening_of s slot w.least t.parts t.masses in
        let put-noted =
        noted_more a.noted k s.brackets a.many o refl refl refl refl t'.parts t'.masses grows_at (head_row w.noted.head)
        (w.noted.head_is.row line w.least h ps c.are u.residues_are.many u.residues_are.group_is) u.roomy.heads_room_is (score_points p.score) (ap score_points c.are.score ∙ points_kept (score_of c.found)) u.roomy.scores_room c.are.stand refl
        p.count c.are.count in
        record {
          many = ap (λ n. n + 1) a.many ∙ sym (length_snoc ks k);
          before = refl;
          noted =
              subst (λ l. Noted line (ks ++ (k ∷ [])) (cond (noted? s) (s.parts + min part_limit p.count) s.parts) l t'.parts t'.masses t'.scores) (sym heads_put)
              (subst (λ l. Noted line (ks ++ (k ∷ [])) (cond (noted? s) (s.parts + min part_limit p.count) s.parts) (cond (noted? s) (sets t.heads (s.brackets * head_fields) (head_row w.noted.head)) t.heads) t'.parts t'.masses l)
              (sym scores_put) put-noted);
        }

    -- where a declaration begins, all brackets are of declarations
    all_declared : (is_declared slot.kind && leb declaration_limit (length ks)) ≡ (is_declared slot.kind && leb declaration_limit (length (declarations ks)))
    all_declared =
        by_test (is_declared slot.kind)
        (λ e.
        let single : is_unknown slot.kind ≡ false = ap is_unknown (is_kind_lem Declared slot.kind e) in
        let run_none : ks ≡ h.brackets = ap (λ l. h.brackets ++ l) (slot_fits_lem.none_before single) ∙ append-nil h.brackets in
        let kept = all_kept (λ x. is_declared x.kind) h.brackets (u.declares.all_are (begins_declaring s.mode (get_or line s.at 0) slot d.does e)) in
        ap (λ l. is_declared slot.kind && leb declaration_limit (length l)) (run_none ∙ sym kept ∙ ap declarations (sym run_none)))
        (λ e. rw e refl)

    bracket_codes_lem : p.least ≡ lowest nothing_due (met_codes h.residues (ks ++ (k ∷ [])))
    bracket_codes_lem =
        w.closes.are.least_due
        ∙ ap (λ l. lowest l (parts_codes ps))
        (w.least_is
        ∙ ap₂ (λ l n. lowest (lowest l (map (code over_rank) (due_at (leb bracket_limit n) s.at))) (map (code over_rank) (due_at (is_declared slot.kind && leb declaration_limit n) (s.at - 1)))) u.least_is u.brackets_are.many
        ∙ ap (λ t. lowest (lowest (lowest nothing_due (met_codes h.residues ks)) (map (code over_rank) (due_at (leb bracket_limit (length ks)) s.at))) (map (code over_rank) (due_at t (s.at - 1)))) all_declared)
        ∙ sym (met_bracket nothing_due h.residues ks k refl refl)

    residues_kept : ResiduesAre s.residues s.group h.residues h.first t'.letters t'.sections
    residues_kept = rw (letters_kept, sections_kept) u.residues_are

    heads_long : length t'.heads ≡ length t.heads
    heads_long = ap length heads_put ∙ branch (λ l. length l ≡ length t.heads) (noted? s) (length-sets t.heads (s.brackets * head_fields) (head_row w.noted.head)) refl

    scores_long : length t'.scores ≡ length t.scores
    scores_long = ap length scores_put ∙ branch (λ l. length l ≡ length t.scores) (noted? s) (length-set t.scores s.brackets (score_points p.score)) refl

    bracket_upto : Upto line (bracket_behind s slot w.next p) t'
    unfolding perform
    bracket_upto =
        let c = w.closes in
        let x = u.roomy in
        let same = put_same slot k h slot_fits_lem in
        let moves : cond p.refers slot.referred slot.after ≡ mode_after slot ps = ap (λ b. cond b slot.referred slot.after) c.are.refers in
        record {
          held = g;
          is =
              next_state d ∙ c.on slot s.at h (record { shut = refl; refers = refl; labels = refl })
              ∙ ap (λ m. rest line w.next (outside m g)) (sym moves);
          within = c.within;
          fits = subst (λ m. ModeFits m g.run (drop w.next line)) (sym moves) (put_fits slot k h slot_fits_lem ps (drop w.next line) refl);
          declares =
              subst (λ m. Declares m g.brackets g.run) (sym moves) (declares_bracket s.mode (get_or line s.at 0) slot d.does h u.declares k refl refl ps);
          residues_are =
              put_by (λ q. ResiduesAre s.residues s.group q.residues q.first t'.letters t'.sections) slot.kind k h (λ e. residues_kept) (λ e. residues_kept);
          brackets_are = brackets_as with_bracket_lem g.brackets g.run same (run_behind slot.kind s.run s.brackets) (put_run slot k h slot_fits_lem s.run s.brackets u.brackets_are.before u.brackets_are.many);
          least_is =
              bracket_codes_lem ∙ ap (λ l. lowest nothing_due (met_codes h.residues l)) same
              ∙ put_by (λ q. lowest nothing_due (met_codes h.residues (held_brackets g)) ≡ lowest nothing_due (met_codes q.residues (held_brackets g))) slot.kind k h (λ e. refl) (λ e. refl);
          few_residues = omega (arith, u.few_residues, c.past);
          few_brackets_lem = omega (arith, u.few_brackets_lem, c.past);
          roomy = record {
            letters_room = omega (arith, x.letters_room, ap length letters_kept);
            sections_room = omega (arith, x.sections_room, ap length sections_kept);
            heads_room_is = omega (arith, x.heads_room_is, heads_long);
            parts_room_is = omega (arith, x.parts_room_is, grows_at.parts_long);
            masses_room_is = omega (arith, x.masses_room_is, grows_at.masses_long);
            scores_room = omega (arith, x.scores_room, scores_long);
          };
        }

    bracket_more : Upto line r t' × (s.at < r.at)
    bracket_more =
        let past : s.at < w.next = omega (arith, w.closes.past) in
        subst (λ y. Upto line y t' × (s.at < y.at)) (sym w.noted.stage) (bracket_upto, past)

  pub bracket_step : (r : Result Stage Stuck) (t' : Sheet) → BracketStep line s slot r t t' → Stepped line s r t'
  bracket_step (Err e) t' w = bracket_stuck w
  bracket_step (Ok r) t' w = bracket_more w
