-- From what the walk and the rules find in a line to what is answered: the lowest code of all is the outcome.
use mathlib.Core.Path.{◌≡◌, refl, sym, ap, subst, ◌∙◌}
use mathlib.Core.Bool.{Bool, true, false, cond}
use mathlib.Core.List.{List}
use Prim.Native.Nat.{ℕ, ◌/◌, ◌%◌, ◌<◌, ◌≤◌}
use native.Mathlib.Omega.{arith}
use borrow.Author.Tests.{lt-ltb, le-ltb, ltb-true, ltb-false}
use lib.Dec.{ltb}
use lib.IntN.{ℤ}
use lib.ListN.{length, length-map}
use Rattle.scope.specs.Bytes.{wide_limit, is_printable}
use Rattle.scope.specs.Limits.{line_limit}
use Rattle.scope.specs.Kept.{kept_bracket, kept}
use Rattle.scope.specs.Line.{Bracket, Line}
use Rattle.scope.specs.Reading.{stuck, holds, reading}
use Rattle.scope.specs.Refusals.{accepted, refused, line_refusals, outcome}
use Rattle.scope.specs.Positions.{floaters}
use Rattle.std.specs.Prelude.{Result, Ok, Err}
use Rattle.scope.specs.declared.refusals.Refusal.{Refusal}
use Rattle.scope.specs.Answers.{Said, good, refuses, reason_number, says, says_outcome}
use Rattle.verdict.specs.declared.Noted.{Noted}
use Rattle.basics.specs.Each.{Each}
use Rattle.accepted_laws.specs.Laws.{accepted_within}
use Rattle.reading_laws.proofs.Compositions.{floaters_kept}
use Rattle.reading_laws.specs.Laws.{Clear}
use Rattle.reading_laws.proofs.Printable.{order_printable}
use Rattle.reading_laws.proofs.Taken.{Taken, taken, taken_back}
use Rattle.classes.specs.Runs.{span}
use Rattle.sheet.specs.declared.Sheet.{Sheet}
use Rattle.sheet.specs.Kept.{LineNoted}
use Rattle.dues.specs.Ranks.{code, lowest, no_code, number_at, decoded}
use Rattle.dues.specs.First.{Fits}
use Rattle.dues.specs.Lines.{info_rank, met_codes, ruled_codes}
use Rattle.dues.specs.Steps.{lowest_after}
use Rattle.dues.specs.Judged.{by_codes, met_first}
use Rattle.dues.specs.Inside.{places_fit}
use Rattle.dues.specs.Few.{FewOf, few_of}
use Rattle.rules.specs.Ruled.{Ruled, Finds}
use Rattle.rules.specs.Shapes.{all_shaped}
use Rattle.walk.specs.Walked.{LineSays}
use Rattle.verdict.specs.Due.{unread, WalkedLine, first_code, FirstOf, by_code}
use Rattle.verdict.specs.Says.{Holds, JudgedSays}
use Rattle.verdict.proofs.Unprintable.{first_unprintable, no_unprintable, bytes}
use Rattle.verdict.proofs.Trying.{is_unprintable, is_stuck, of_order}

-- ---- the first code due
module _ {line heads parts : List ℕ} {brackets least : ℕ} (w : WalkedLine line heads parts brackets least) where
  abbrev n : ℕ
  n = no_code (line_refusals w.held)

  abbrev met : List ℕ
  met = met_codes w.held.residues w.held.brackets

  same_line : (l : Line ℕ) → reading line ≡ holds l → w.held ≡ l
  same_line l e = let q : holds w.held ≡ holds l = sym w.is ∙ e in cc

  fits : Each Fits (line_refusals w.held)
  fits = places_fit line w.held w.is w.short

  -- one of 5 to 9 is met
  pub met_is_first : least < code info_rank 0 → {many : ℕ} → (l : Line ℕ) → reading line ≡ holds l → FirstOf l least many
  met_is_first h {many} l e =
      subst (λ l. FirstOf l least many) (same_line l e)
      (record {
        first_is = w.least_is ∙ sym (met_first w.held fits (subst (λ c. c < code info_rank 0) w.least_is h));
        floaters_are = λ none. absurd (omega arith);
      })

  -- what is met, with what the rules find, is the first
  ruled_first : {c : ℕ} → c ≡ lowest least (ruled_codes w.held.brackets) → c ≡ first_code w.held
  ruled_first e =
      let ruled = ruled_codes w.held.brackets in
      e ∙ ap (λ k. lowest k ruled) w.least_is ∙ sym (lowest_after n met ruled)

  module _ (clear : code info_rank 0 ≤ least) where
    few : FewOf w.held
    few = few_of w.held fits (subst (λ c. code info_rank 0 ≤ c) w.least_is clear)

    -- none of 5 to 9 is met: all brackets and parts are noted
    pub all_noted : Ruled line heads parts brackets w.held.brackets
    all_noted =
        record {
          many = w.brackets_are;
          few = omega (arith, w.brackets_are, few.brackets);
          few_parts_lem = few.parts;
          shaped = all_shaped line w.held (bytes line (order_printable line w.held w.is)) w.is;
          m = w.parts_many;
          masses = w.masses;
          scores = w.scores;
          noted = w.noted;
        }

    pub ruled_is_first : {c many : ℕ} → ((ks : List (Bracket ℕ)) → Ruled line heads parts brackets ks → Finds ks least c many)
        → (l : Line ℕ) → reading line ≡ holds l → FirstOf l c many
    unfolding floaters
    ruled_is_first {c} {many} f l e =
        let g = f w.held.brackets all_noted in
        subst (λ l. FirstOf l c many) (same_line l e) (record { first_is = ruled_first g.first_is; floaters_are = λ none few. g.floaters_are few })

-- ---- what a code says
module _ (c : ℕ) (n : Noted) (l : Line ℕ) where
  pub code_refuses : {number place : ℕ} → c < no_code (line_refusals l) → number ≡ number_at (line_refusals l) (c / wide_limit) → place ≡ c % wide_limit
      → refuses number place ≡ by_code l c n
  code_refuses h a d = rw (lt-ltb c (no_code (line_refusals l)) h, a, d)

  pub code_holds : no_code (line_refusals l) ≤ c → good n ≡ by_code l c n
  code_holds h = rw (le-ltb c (no_code (line_refusals l)) h)

-- ---- where no line goes on
pub unprintable_is : (line : List ℕ) (end place : ℕ) → end ≡ span is_printable line → end < length line → refuses 3 end ≡ unread line place
unprintable_is line end place e h = rw (lt-ltb (span is_printable line) (length line) (subst (λ x. x < length line) e h), e)

pub stuck_is : (line : List ℕ) (end place : ℕ) → end ≡ span is_printable line → length line ≤ end → refuses 4 place ≡ unread line place
stuck_is line end place e h = rw (le-ltb (span is_printable line) (length line) (subst (λ x. length line ≤ x) e h))

-- ---- a line that is accepted
-- with the line as it was read
as_read : (line : List ℕ) (l : Line ℕ) → reading line ≡ holds l → outcome line ≡ accepted (kept l) → Taken line (kept l)
as_read line l e q =
    let t = taken line (kept l) q in
    let same : t.read ≡ l = (let f : holds t.read ≡ holds l = sym t.reads ∙ e in cc) in
    record { read = l; bytes = t.bytes; reads = e; clear = subst (λ r. Clear (line_refusals r)) same t.clear; keeps = refl }

-- as many copies float in what is kept of it
as_many_float : (l : Line ℕ) → length (floaters l) ≡ length (floaters (kept l))
as_many_float l = sym (ap length (floaters_kept l) ∙ length-map (floaters l) kept_bracket)

-- ---- the answer
module _ (line : List ℕ) (some_byte : length line ≡ 0 → ⊥) (short : length line ≤ line_limit)
    (sheet : Sheet) where
  -- what is said of the line
  abbrev SaidOf : Said Noted → Type 0
  SaidOf (good n) = Holds line n sheet
  SaidOf (refuses number place) = outcome line ≡ refused number place

  judged : (r : Result Noted Refusal) {s : Said Noted} → says r ≡ s → SaidOf s → JudgedSays line r sheet
  judged (Ok n) e h = subst SaidOf (sym e) h
  judged (Err f) e h = subst SaidOf (sym e) h

  pub stuck_says : (p : ℕ) (f : Refusal) → reading line ≡ stuck p → refuses (reason_number f.reason) f.place ≡ unread line p → JudgedSays line (Err f) sheet
  stuck_says p f r q = judged (Err f) q (go (ltb (span is_printable line) (length line)) refl)
    where
      go : (t : Bool) → ltb (span is_printable line) (length line) ≡ t → SaidOf (cond t (refuses 3 (span is_printable line)) (refuses 4 p))
      go true u = is_unprintable line some_byte short (span is_printable line) (first_unprintable line (ltb-true _ _ u))
      go false u = is_stuck line some_byte short p (no_unprintable line (ltb-false _ _ u)) r

  module _ {residues brackets least : ℕ} (w : LineSays line residues brackets least sheet) where
    pub walked_line : WalkedLine line sheet.heads sheet.parts brackets least
    walked_line =
        record {
          held = w.held;
          is = w.is;
          short = short;
          brackets_are = w.brackets_are;
          least_is = w.least_is;
          parts_many = w.parts;
          masses = sheet.masses;
          scores = sheet.scores;
          noted = w.noted;
        }

    pub line_says : (c many : ℕ) (r : Result Noted Refusal) → ((l : Line ℕ) → reading line ≡ holds l → FirstOf l c many)
        → ((l : Line ℕ) → says r ≡ by_code l c (record { residues = residues; brackets = brackets; floaters = many })) → JudgedSays line r sheet
    unfolding as_read
    line_says c many r first answer = judged r (answer l) (go (ltb c (no_code (line_refusals l))) refl decides)
      where
        l : Line ℕ
        l = w.held

        decides : decoded (line_refusals l) c (accepted (kept l)) ≡ outcome line
        decides =
            ap (λ k. decoded (line_refusals l) k (accepted (kept l))) (first l w.is).first_is
            ∙ by_codes l (places_fit line l w.is short)
            ∙ sym (of_order line some_byte short l w.is)

        go : (t : Bool) → ltb c (no_code (line_refusals l)) ≡ t
            → cond t (refused (number_at (line_refusals l) (c / wide_limit)) (c % wide_limit)) (accepted (kept l)) ≡ outcome line
            → SaidOf (cond t (refuses (number_at (line_refusals l) (c / wide_limit)) (c % wide_limit)) (good (record { residues = residues; brackets = brackets; floaters = many })))
        go true q e = sym e
        go false q e = (
          kept l,
          record {
            taken = as_read line l w.is (sym e);
            parts_many = w.parts;
            noted = w.noted;
            lettered = w.lettered;
            residues_are = w.residues_are;
            brackets_are = w.brackets_are;
          },
          (first l w.is).floaters_are (ltb-false _ _ q) (omega (arith, as_many_float l, (accepted_within line (kept l) (sym e)).few_copies)) ∙ as_many_float l,
        )

-- ---- the verdict
pub verdict_refused : (line : List ℕ) {number place : ℕ} → outcome line ≡ refused number place → refuses number place ≡ says_outcome (outcome line)
verdict_refused line e = ap says_outcome (sym e)

pub verdict_accepted : (line : List ℕ) {sheet : Sheet} {residues brackets : ℕ} {l : Line ℕ}
    → LineNoted line sheet residues brackets l → good tt ≡ says_outcome (outcome line)
verdict_accepted line {l = l} w = ap says_outcome (sym (taken_back line l w.taken))
