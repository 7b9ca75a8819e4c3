-- A label's name: no byte of one, its bytes, and what stands behind them.
use mathlib.Core.Path.{◌≡◌, refl, sym, ap, ◌∙◌}
use mathlib.Core.Bool.{false}
use mathlib.Core.Option.{Option, none}
use mathlib.Core.List.{List}
use Prim.Native.Nat.{ℕ, ◌+◌, ◌-◌, ◌<◌, ◌≤◌}
use native.Mathlib.Omega.{arith}
use borrow.Author.Tests.{eq-eqb, ne_eqb, ltb-true, ltb-false}
use lib.Dec.{ltb}
use lib.ListN.{length, get_or, drop, length-take, length-drop}
use Rattle.basics.specs.Choice.{by_test}
use Rattle.classes.specs.Runs.{span}
use Rattle.classes.proofs.Runs.{run_next}
use Rattle.scope.specs.Bytes.{open_round, is_alnum}
use Rattle.scope.specs.declared.grammar.Slot.{Slot}
use Rattle.scope.specs.Line.{Number, Part}
use Rattle.scope.specs.Lists.{part}
use Rattle.scope.specs.Content.{Context, Content, hashed, in_label, scoring, part_end, labelled, inner_step}
use Rattle.scope.specs.Reading.{Held}
use Rattle.values.specs.Says.{through}
use Rattle.values.proofs.Through.{through_run, through_same, through_going}
use Rattle.std.specs.Prelude.{None, Result, Ok, Err}
use Rattle.std.specs.Prelude.{Option as Perhaps}
use Rattle.scope.specs.declared.grammar.Stuck.{Stuck}
use Rattle.labels.specs.declared.Label.{Label}
use Rattle.labels.specs.declared.Score.{Score}
use Rattle.labels.specs.Within.{SaysFrom, Scored}
use Rattle.labels.proofs.Saying.{said_before, over, lost_there}

module _ (line : List ℕ) (at : ℕ) where
  abbrev begun : Part ℕ → Context ℕ → ℕ → Content ℕ
  begun q c = inner_step at (hashed c q)

  -- no byte of a name
  pub no_name : at ≤ length line → at + span is_alnum (drop at line) ≡ at → SaysFrom line at at begun (Err (record { at = at }))
  unfolding inner_step
  no_name n e =
      by_test (ltb at (length line))
      (λ t. let k = ltb-true at (length line) t in lost_there line at at begun k (λ q c. rw (run_next is_alnum line at at (sym e) k)))
      (λ t. over line at at begun (ltb-false at (length line) t) n)

  module _ (n : ℕ) (run : n ≡ at + span is_alnum (drop at line)) (some_byte : n ≡ at → ⊥) where
    abbrev name : List ℕ
    name = part at (n - at) line

    pub further : at < n
    further = omega (arith, run)

    -- its bytes
    named : (q : Part ℕ) (s : Slot) (o : ℕ) (h : Held ℕ) (c : Context ℕ) → through line s o h at (begun q c) ≡ through line s o h n (inner_step n (in_label c q at name))
    unfolding inner_step
    named q s o h c =
        let e = sym run in
        let long : span is_alnum (drop at line) ≡ n - at = omega (arith, run) in
        rw (e, long) at
        (through_run line s o h is_alnum (λ t. in_label c q at t) (λ i b t e. rw e) (begun q c) (drop at line) at (λ b f e. rw e) refl (omega (arith, run, further)))

    -- and the line is over
    pub name_over : n ≤ length line → length line ≤ n → SaysFrom line at at begun (Err (record { at = n }))
    name_over k m =
        said_before line at at n begun (λ q c. inner_step n (in_label c q at name)) named (Err (record { at = n })) (over line at n (λ q c. inner_step n (in_label c q at name)) m k)

    not_alnum : n < length line → is_alnum (get_or line n 0) ≡ false
    not_alnum k = run_next is_alnum line at n run k

    -- a score follows
    pub name_scored : n < length line → get_or line n 0 ≡ open_round → (r : Result Label Stuck) → SaysFrom line at (n + 1) (λ q c. inner_step (n + 1) (scoring c q at name)) r
        → SaysFrom line at at begun r
    unfolding inner_step
    name_scored k e r w =
        said_before line at at (n + 1) begun (λ q c. inner_step (n + 1) (scoring c q at name))
        (λ q s o h c. named q s o h c
        ∙ through_going line s o h n (inner_step n (in_label c q at name)) (scoring c q at name) k (rw (not_alnum k, eq-eqb _ _ e))) r w

    -- the label ends
    pub name_ends : n < length line → (get_or line n 0 ≡ open_round → ⊥) → (r : Result Label Stuck) → SaysFrom line at n (λ q c. part_end c (labelled q at name none)) r
        → SaysFrom line at at begun r
    unfolding inner_step
    name_ends k e r w =
        said_before line at at n begun (λ q c. part_end c (labelled q at name none))
        (λ q s o h c. named q s o h c
        ∙ through_same line s o h n (inner_step n (in_label c q at name)) (part_end c (labelled q at name none)) (λ m. rw (not_alnum k, ne_eqb _ _ e))) r w

    pub unscored : n ≤ length line → Scored line at n None none
    unscored k = record { some_name = further; to_inside = k; score_is = refl; score_place = tt }

-- ---- the whole label, with the place behind it
module _ (line : List ℕ) (from to : ℕ) (score : Perhaps Score) (next : ℕ) (s : Option (Number ℕ)) (is : Scored line from to score s)
    (behind : to ≤ next) where
  abbrev whole_name : List ℕ
  whole_name = part from (to - from) line

  long : length whole_name ≡ to - from
  long = length-take (to - from) (drop from line) ∙ (let e = length-drop from line in omega (arith, is.to_inside))

  pub label_read : next < length line
      → SaysFrom line from next (λ q c. part_end c (labelled q from whole_name s)) (Ok (record { from = from; to = to; score = score; next = next }))
  unfolding SaysFrom
  label_read k =
      record {
        found = record { name = whole_name; score = s; at = from };
        is_label = record {
          from_is = refl;
          place = refl;
          name_is = ap (λ n. part from n line) (sym long);
          to_is = omega (arith, long, is.some_name);
          some_name = is.some_name;
          score_is = is.score_is;
          score_place = is.score_place;
          to_inside = is.to_inside;
          past = omega (arith, is.some_name);
          within = k;
        };
        on = λ q s o h c. refl;
      }
