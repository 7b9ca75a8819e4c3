-- One step further: what is known at a stage behind a byte that only carries the order on, and behind the end of the brackets at the front; before the first byte, and
-- behind the last.
use mathlib.Core.Path.{◌≡◌, refl, sym, ap, subst, ◌∙◌}
use mathlib.Core.Bool.{true, false, cond}
use mathlib.Core.List.{List, [], ◌++◌, map, append-nil, map-id}
use Prim.Native.Nat.{ℕ, ◌+◌, ◌≤◌, ◌<◌, min}
use native.Mathlib.Omega.{arith}
use lib.IntN.{ℤ}
use lib.ListN.{length, get_or, length-append, length-map}
use Rattle.scope.specs.declared.grammar.Mode.{Mode}
use Rattle.scope.specs.declared.grammar.Mode.TheVariants.{Front, Runs, Start}
use Rattle.scope.specs.declared.grammar.Act.{Act}
use Rattle.scope.specs.declared.grammar.Act.TheVariants.{Stop, Go, RunEnds, TermEnds}
use Rattle.scope.specs.Kinds.{is_declared}
use Rattle.scope.specs.Limits.{bracket_limit, line_limit}
use Rattle.scope.specs.Line.{Bracket}
use Rattle.scope.specs.Reading.{outside, perform, step, settled_run, as_nTerm, act, may_end, nothing, stuck, holds, line_of, reading}
use Rattle.reading_laws.proofs.Run.{rest, rest_start, rest_step, rest_end, rest_dead}
use Rattle.sheet.specs.Rows.{Noted}
use Rattle.dues.specs.Ranks.{lowest}
use Rattle.dues.specs.Lines.{met_codes}
use Rattle.sheet.specs.declared.Sheet.{Sheet}
use Rattle.sheet.specs.Kept.{Sized}
use Rattle.walk.specs.declared.Stage.{Stage}
use Rattle.std.specs.Prelude.{Result, Ok, Err}
use Rattle.scope.specs.declared.grammar.Stuck.{Stuck}
use Rattle.walk.specs.Stages.{held_brackets, with_heads, nothing_due, BracketsAre, Upto, Does, Low, first_stage}
use Rattle.walk.specs.Steps.{gone_to, settled_in, Settled, Stepped}
use Rattle.walk.specs.Walked.{LineSays}
use Rattle.walk.proofs.Modes.{ActFits, act_fits_lem, ends_settled}
use Rattle.walk.proofs.Declares.{none_declares, over_declares, declares_go, none_kept}
use Rattle.walk.proofs.Dues.{met_none, met_settled}
use Rattle.walk.proofs.Notes.{none_noted, noted_settled, noted_low}

module _ {line : List ℕ} {s : Stage} {a : Act} {t : Sheet} (d : Does line s a t) where
  pub next_state : reading line ≡ rest line (s.at + 1) (perform s.at (get_or line s.at 0) d.upto.held a)
  unfolding step
  next_state =
      d.upto.is ∙ rest_step line s.at (outside s.mode d.upto.held) d.here
      ∙ ap (λ x. rest line (s.at + 1) (perform s.at (get_or line s.at 0) d.upto.held x)) d.does

  pub run_left : ActFits s.mode (get_or line s.at 0) a
  run_left = subst (ActFits s.mode (get_or line s.at 0)) d.does (act_fits_lem s.mode (get_or line s.at 0))

  pub low : Low s
  low =
      let u = d.upto in
      let b = u.brackets_are in
      let e = length-append u.held.brackets u.held.run in
      let n = noted_low b.noted in
      record {
        at = omega (arith, d.here, d.short);
        residues = u.few_residues;
        group = u.residues_are.group_low;
        brackets = u.few_brackets_lem;
        run = omega (arith, b.before, b.many, e);
        parts = omega (arith, n);
        room = λ h. omega (arith, n, b.many, h);
      }

pub stopped : {line : List ℕ} {s : Stage} {t : Sheet} → Does line s Stop t → reading line ≡ stuck s.at
unfolding perform
stopped {line} {s} d = next_state d ∙ rest_dead line (s.at + 1) s.at

-- the same brackets, of which others are settled
pub brackets_as : {line : List ℕ} {n run m : ℕ} {bs ws : List (Bracket ℕ)} {heads parts : List ℕ} {masses scores : List ℤ} → BracketsAre line n run m bs ws heads parts masses scores
    → (bs' ws' : List (Bracket ℕ)) → bs ++ ws ≡ bs' ++ ws' → (run' : ℕ) → run' ≡ length bs' → BracketsAre line n run' m bs' ws' heads parts masses scores
brackets_as {line} {n} {run} {m} {bs} {ws} {heads} {parts} {masses} {scores} a bs' ws' e run' f = record {
  many = a.many ∙ ap length e;
  before = f;
  noted = subst (λ l. Noted line l m heads parts masses scores) e a.noted;
}

-- another table of heads, as long
pub room_heads : {t : Sheet} {heads : List ℕ} → Sized t → length heads ≡ length t.heads → Sized (with_heads t heads)
room_heads r e = record {
  letters_room = r.letters_room;
  sections_room = r.sections_room;
  heads_room_is = omega (arith, r.heads_room_is, e);
  parts_room_is = r.parts_room_is;
  masses_room_is = r.masses_room_is;
  scores_room = r.scores_room;
}

module _ {line : List ℕ} {s : Stage} {t : Sheet} where
  pub gone_on : {mode : Mode} {r : Stage} → r ≡ gone_to s mode → Does line s (Go mode) t → Upto line r t × (s.at < r.at)
  unfolding perform
  gone_on {mode} {r} e d =
      let u = d.upto in
      let on : Upto line (gone_to s mode) t =
      record {
        held = u.held;
        is = next_state d;
        within = omega (arith, d.here);
        fits = run_left d u.held.run _ _ u.fits;
        declares = declares_go (get_or line s.at 0) d.does u.declares;
        residues_are = u.residues_are;
        brackets_are = u.brackets_are;
        least_is = u.least_is;
        few_residues = omega (arith, u.few_residues);
        few_brackets_lem = omega (arith, u.few_brackets_lem);
        roomy = u.roomy;
      } in
      subst (λ x. Upto line x t × (s.at < x.at)) (sym e) (on, omega arith)

  -- `?`
  pub run_end : {r : Stage} → r ≡ settled_in s Runs → Does line s RunEnds t → Upto line r t × (s.at < r.at)
  unfolding perform
  run_end {r} e d =
      let u = d.upto in
      let h = u.held in
      let bs = h.brackets ++ map (λ k. k) h.run in
      let same : held_brackets h ≡ bs ++ [] = ap (λ l. h.brackets ++ l) (sym (map-id h.run)) ∙ sym (append-nil bs) in
      let on : Upto line (settled_in s Runs) t =
      record {
        held = settled_run (λ k. k) h;
        is = next_state d;
        within = omega (arith, d.here);
        fits = refl;
        declares = over_declares Runs bs refl refl;
        residues_are = u.residues_are;
        brackets_are = brackets_as u.brackets_are bs [] same s.brackets (u.brackets_are.many ∙ ap (λ l. length (h.brackets ++ l)) (sym (map-id h.run)));
        least_is = u.least_is ∙ ap (λ l. lowest nothing_due (met_codes h.residues l)) same;
        few_residues = omega (arith, u.few_residues);
        few_brackets_lem = omega (arith, u.few_brackets_lem);
        roomy = u.roomy;
      } in
      subst (λ x. Upto line x t × (s.at < x.at)) (sym e) (on, omega arith)

  -- `-`
  pub term_end : {r : Stage} {t' : Sheet} → r ≡ settled_in s Start → Settled s.run (min s.brackets bracket_limit) t t' → Does line s TermEnds t
      → Upto line r t' × (s.at < r.at)
  unfolding perform
  term_end {r} {t'} e g d =
      let u = d.upto in
      let h = u.held in
      let a = u.brackets_are in
      let bs = h.brackets in
      let ws = map as_nTerm h.run in
      let long : length (bs ++ h.run) ≡ length (bs ++ ws) =
      length-append bs h.run ∙ ap (λ n. length bs + n) (sym (length-map h.run as_nTerm)) ∙ sym (length-append bs ws) in
      let settled : BracketsAre line s.brackets s.run s.parts bs ws t'.heads t.parts t.masses t.scores =
      record {
        many = a.many ∙ long;
        before = a.before;
        noted = noted_settled bs h.run s.run s.brackets a.before a.many g a.noted;
      } in
      let same : bs ++ ws ≡ (bs ++ ws) ++ [] = sym (append-nil (bs ++ ws)) in
      let on : Upto line (settled_in s Start) (with_heads t t'.heads) =
      record {
        held = settled_run as_nTerm h;
        is = next_state d;
        within = omega (arith, d.here);
        fits = refl;
        declares = over_declares Start (bs ++ ws) refl refl;
        residues_are = u.residues_are;
        brackets_are = brackets_as settled (bs ++ ws) [] same s.brackets settled.many;
        least_is = u.least_is ∙ ap (lowest nothing_due) (sym (met_settled h.residues bs h.run (none_kept (λ k. is_declared k.kind) h.run u.declares.none_waits))) ∙ ap (λ l. lowest nothing_due (met_codes h.residues l)) same;
        few_residues = omega (arith, u.few_residues);
        few_brackets_lem = omega (arith, u.few_brackets_lem);
        roomy = room_heads u.roomy g.kept;
      } in
      subst (λ x. Upto line x t' × (s.at < x.at)) (sym e) (subst (Upto line (settled_in s Start)) (sym g.others) on, omega arith)

-- ---- before the first byte
pub nothing_read : (line : List ℕ) (t : Sheet) → Sized t → Upto line first_stage t
nothing_read line t r = record {
  held = nothing;
  is = rest_start line;
  within = omega arith;
  fits = refl;
  declares = none_declares Front refl;
  residues_are = record { many = refl; group_is = refl; group_low = omega arith; lettered = record { letters_are = λ h. refl; sections_are = λ h. refl } };
  brackets_are = record { many = refl; before = refl; noted = none_noted };
  least_is = met_none nothing_due;
  few_residues = omega arith;
  few_brackets_lem = omega arith;
  roomy = r;
}

pub walk_starts : (line : List ℕ) (s : Stage) (t : Sheet) → s ≡ first_stage → Sized t → Upto line s t
walk_starts line s t e r = subst (λ x. Upto line x t) (sym e) (nothing_read line t r)

-- ---- behind the last
module _ {line : List ℕ} {s : Stage} {t : Sheet} (u : Upto line s t) (past : length line ≤ s.at) where
  ended_here : reading line ≡ cond (may_end s.mode) (holds (line_of u.held)) (stuck (length line))
  ended_here = u.is ∙ rest_end line s.at (outside s.mode u.held) past

  pub line_holds : may_end s.mode ≡ true → LineSays line s.residues s.brackets s.least t
  line_holds e =
      let h = u.held in
      let w : h.run ≡ [] = ends_settled s.mode h.run _ e u.fits in
      let same : held_brackets h ≡ h.brackets = ap (λ l. h.brackets ++ l) w ∙ append-nil h.brackets in
      record {
        held = line_of h;
        is = ended_here ∙ ap (λ b. cond b (holds (line_of h)) (stuck (length line))) e;
        residues_are = u.residues_are.many;
        brackets_are = u.brackets_are.many ∙ ap length same;
        least_is = u.least_is ∙ ap (λ l. lowest nothing_due (met_codes h.residues l)) same;
        parts = s.parts;
        noted = subst (λ l. Noted line l s.parts t.heads t.parts t.masses t.scores) same u.brackets_are.noted;
        lettered = u.residues_are.lettered;
      }

  pub line_stuck : may_end s.mode ≡ false → reading line ≡ stuck (length line)
  line_stuck e = ended_here ∙ ap (λ b. cond b (holds (line_of u.held)) (stuck (length line))) e

-- ---- what the byte at hand does, and what a step says, by their answers
pub does_this : {line : List ℕ} {s : Stage} {t : Sheet} → (length line ≤ line_limit) × (s.at < length line) × Upto line s t → {r a : Act} → r ≡ act s.mode (get_or line s.at 0) → r ≡ a → Does line s a t
does_this p e g = record { upto = p.2; here = p.1; short = p.0; does = sym e ∙ g }

pub step_stuck : (line : List ℕ) (s : Stage) (t : Sheet) {r : Result Stage Stuck} {p : Stuck} → Stepped line s r t → r ≡ Err p → reading line ≡ stuck p.at
step_stuck line s t f e = subst (λ x. Stepped line s x t) e f

pub step_more : (line : List ℕ) (s : Stage) (t : Sheet) {r : Result Stage Stuck} {n : Stage} → Stepped line s r t → r ≡ Ok n → Upto line n t × (s.at < n.at)
step_more line s t f e = subst (λ x. Stepped line s x t) e f
