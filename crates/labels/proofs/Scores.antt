-- A label's score: behind `(`, its number, and behind that.
use mathlib.Core.Path.{◌≡◌, refl, sym, ap, subst, ◌∙◌}
use mathlib.Core.Bool.{true, false, cond}
use mathlib.Core.Option.{Option, none, some}
use mathlib.Core.List.{List, []}
use Prim.Native.Nat.{ℕ, ◌+◌, ◌-◌, ◌<◌, ◌≤◌}
use native.Mathlib.Omega.{arith}
use borrow.Author.Tests.{eq-eqb, ne_eqb}
use lib.Dec.{eqb}
use lib.ListN.{length, get_or, drop}
use Rattle.basics.specs.Choice.{by_test}
use Rattle.basics.specs.Tests.{or_right}
use Rattle.scope.specs.Bytes.{plus, dash, shut_round, is_digit, is_sign}
use Rattle.scope.specs.declared.grammar.Slot.{Slot}
use Rattle.scope.specs.declared.tables.Number.{Number as Kept}
use Rattle.scope.specs.declared.grammar.Key.TheVariants.{NoKey}
use Rattle.scope.specs.Line.{Number, reference, Part}
use Rattle.scope.specs.Lists.{given, part}
use Rattle.scope.specs.Content.{Digits, signed, digit_step, number_end, Context, Content, lost, going, in_score, scored, scoring, part_end, unlabelled, labelled, inner_step}
use Rattle.scope.specs.Reading.{Held, nothing, front}
use Rattle.numerals.specs.declared.Num.{Num}
use Rattle.numerals.specs.Numerals.{Scanned, found, scan_number, num_of}
use Rattle.labels.specs.declared.Score.{Score}
use Rattle.values.specs.Says.{through}
use Rattle.values.proofs.Through.{through_same, through_going}
use Rattle.values.proofs.Numbers.{NumberSays, number_says, number_found, no_number}
use Rattle.values.proofs.Begins.{stands_inside}
use Rattle.std.specs.Prelude.{Some, Result, Ok, Err}
use Rattle.std.specs.Prelude.{Option as Perhaps}
use Rattle.scope.specs.declared.grammar.Stuck.{Stuck}
use Rattle.labels.specs.declared.Label.{Label}
use Rattle.labels.specs.Within.{SaysFrom, Scored, score_end, digits_at, scan_signed}
use Rattle.labels.proofs.Saying.{said_before, lost_there}

-- ---- behind the number
module _ (line : List ℕ) (from : ℕ) (name : List ℕ) (n : Number ℕ) (j : ℕ) (inside : j < length line) where
  abbrev ended : Part ℕ → Context ℕ → ℕ → Content ℕ
  ended q c = score_end c q from name n

  pub not_closed : (get_or line j 0 ≡ shut_round → ⊥) → SaysFrom line from j ended (Err (record { at = j }))
  unfolding score_end
  not_closed e = lost_there line from j ended inside (λ q c. rw (ne_eqb (get_or line j 0) shut_round e))

  closes : get_or line j 0 ≡ shut_round → (q : Part ℕ) (c : Context ℕ) → ended q c (get_or line j 0) ≡ going (scored c (labelled q from name (some n)))
  unfolding score_end
  closes e q c = rw (eq-eqb (get_or line j 0) shut_round e)

  pub closed_score : get_or line j 0 ≡ shut_round → (r : Result Label Stuck) → SaysFrom line from (j + 1) (λ q c. part_end c (labelled q from name (some n))) r → SaysFrom line from j ended r
  unfolding inner_step
  closed_score e r w =
      said_before line from j (j + 1) ended (λ q c. part_end c (labelled q from name (some n)))
      (λ q s o h c. through_going line s o h j (ended q c) (scored c (labelled q from name (some n))) inside (closes e q c)) r w

-- ---- a number, with a sign or without
-- what is no sign is no minus
no_minus : (b : ℕ) → is_sign b ≡ false → eqb b dash ≡ false
no_minus b e = or_right (eqb b plus) (eqb b dash) e

module _ (line : List ℕ) (at : ℕ) where
  pub number_signed : (b : ℕ) → b ≡ get_or line at 0 → is_sign b ≡ true → (r : Result Num Stuck) → r ≡ num_of (scan_number at (signed (eqb b dash)) (drop (at + 1) line) (at + 1))
      → r ≡ num_of (scan_signed line at)
  unfolding scan_signed
  number_signed b e f r w = let z : is_sign (get_or line at 0) ≡ true = ap is_sign (sym e) ∙ f in rw z (rw e at w)

  pub number_unsigned : is_sign (get_or line at 0) ≡ false → (r : Result Num Stuck) → r ≡ num_of (scan_number at (signed false) (drop at line) at) → r ≡ num_of (scan_signed line at)
  unfolding scan_signed
  number_unsigned f r w = rw (f, no_minus (get_or line at 0) f) w

-- ---- behind `(`
module _ (line : List ℕ) (from : ℕ) (name : List ℕ) (j : ℕ) (inside : j ≤ length line) where
  abbrev opened : Part ℕ → Context ℕ → ℕ → Content ℕ
  opened q c = inner_step j (scoring c q from name)

  abbrev reading : Part ℕ → Digits → ℕ → Context ℕ → ℕ → Content ℕ
  reading q d i c = inner_step i (in_score c q from name j d)

  abbrev sign : Digits
  sign = signed (eqb (get_or line j 0) dash)

  -- no sign
  alike : (q : Part ℕ) (c : Context ℕ) (b : ℕ) → is_sign b ≡ false → inner_step j (scoring c q from name) b ≡ inner_step j (in_score c q from name j (signed false)) b
  unfolding inner_step digit_step number_end
  alike q c b e = rw e (by_test (is_digit b) (λ t. rw t) (λ t. rw t (by_test (eqb b shut_round) (λ u. rw u) (λ u. rw u))))

  signs : (q : Part ℕ) (c : Context ℕ) (b : ℕ) → is_sign b ≡ true → inner_step j (scoring c q from name) b ≡ going (in_score c q from name j (signed (eqb b dash)))
  unfolding inner_step
  signs q c b e = rw e

  score_opens : (q : Part ℕ) (s : Slot) (o : ℕ) (h : Held ℕ) (c : Context ℕ) → through line s o h j (opened q c) ≡ through line s o h (digits_at line j) (reading q sign (digits_at line j) c)
  score_opens q s o h c =
      by_test (is_sign (get_or line j 0))
      (λ t. rw t (through_going line s o h j (opened q c) (in_score c q from name j sign) (stands_inside is_sign line j refl t) (signs q c (get_or line j 0) t)))
      (λ t. rw t
      (through_same line s o h j (opened q c) (reading q sign j c)
      (λ m. alike q c (get_or line j 0) t ∙ ap (λ x. inner_step j (in_score c q from name j (signed x)) (get_or line j 0)) (sym (no_minus (get_or line j 0) t)))))

  digits_inside : digits_at line j ≤ length line
  digits_inside = by_test (is_sign (get_or line j 0)) (λ t. rw t (let k = stands_inside is_sign line j refl t in omega arith)) (λ t. rw t inside)

  digits_past : j ≤ digits_at line j
  digits_past = by_test (is_sign (get_or line j 0)) (λ t. rw t (omega arith)) (λ t. rw t (omega arith))

  score_goes : (q : Part ℕ) (c : Context ℕ) (i b : ℕ) (x y : Digits) → digit_step x b ≡ some y → inner_step i (in_score c q from name j x) b ≡ going (in_score c q from name j y)
  unfolding inner_step
  score_goes q c i b x y e = rw e

  score_stops : (q : Part ℕ) (c : Context ℕ) (i b : ℕ) (x : Digits) → digit_step x b ≡ none
      → inner_step i (in_score c q from name j x) b ≡ given (number_end j x) (λ n. score_end c q from name n b) lost
  unfolding inner_step score_end
  score_stops q c i b x e = rw e (go (number_end j x))
    where
      go : (y : Option (Number ℕ)) → cond (eqb b shut_round) (given y (λ n. going (scored c (labelled q from name (some n)))) lost) lost
          ≡ given y (λ n. cond (eqb b shut_round) (going (scored c (labelled q from name (some n)))) lost) lost
      go (some n) = refl
      go none = by_test (eqb b shut_round) (λ t. rw t) (λ t. rw t)

  score_says : (r : Scanned) → scan_signed line j ≡ r → (q : Part ℕ) (s : Slot) (o : ℕ) (h : Held ℕ) (c : Context ℕ)
      → NumberSays line s o h j (λ y. in_score c q from name j y) (λ n. score_end c q from name n) (score_goes q c) (score_stops q c) (digits_at line j) sign r
  unfolding scan_signed
  score_says r f q s o h c =
      subst (λ x. NumberSays line s o h j (λ y. in_score c q from name j y) (λ n. score_end c q from name n) (score_goes q c) (score_stops q c) (digits_at line j) sign x) f
      (number_says line s o h j (λ y. in_score c q from name j y) (λ n. score_end c q from name n) (score_goes q c) (score_stops q c) (drop (digits_at line j) line) (digits_at line j) sign refl
      digits_inside)

  -- some part and bracket, for what holds of every one
  abbrev some_part : Part ℕ
  some_part = unlabelled 0 NoKey reference

  abbrev some_context : Context ℕ
  some_context = record { shut = 0; refers = false; labels = false; parts = [] }

  -- it is a number
  score_at_lem : (n : Number ℕ) (e : ℕ) → scan_signed line j ≡ found n e → (j ≤ e) × (e ≤ length line) × (n.at ≡ j)
  score_at_lem n e f =
      let facts = score_says (found n e) f some_part front 0 nothing some_context in (omega (arith, facts.0, digits_past), facts.1, facts.2)

  score_found : (n : Number ℕ) (e : ℕ) → scan_signed line j ≡ found n e → (r : Result Label Stuck) → SaysFrom line from e (λ q c. score_end c q from name n) r → SaysFrom line from j opened r
  score_found n e f r w =
      said_before line from j e opened (λ q c. score_end c q from name n) (λ q s o h c. score_opens q s o h c ∙ (score_says (found n e) f q s o h c).3) r w

  pub score_none : (e : Stuck) → Err e ≡ num_of (scan_signed line j) → SaysFrom line from j opened (Err e)
  unfolding SaysFrom
  score_none e t = λ q s o h c. score_opens q s o h c ∙ score_says _ (no_number (scan_signed line j) e t) q s o h c

-- ---- the score of the name from `from` to `to`
module _ (line : List ℕ) (from to : ℕ) (named : (from < to) × (to < length line)) where
  abbrev score_name : List ℕ
  score_name = part from (to - from) line

  pub score_some : (num : Num) → Ok num ≡ num_of (scan_signed line (to + 1)) → (r : Result Label Stuck)
      → ((n : Number ℕ) → Scored line from to (Some (record { number = num.number })) (some n) → to ≤ num.next → num.next ≤ length line
      → SaysFrom line from num.next (λ q c. score_end c q from score_name n) r)
      → SaysFrom line from (to + 1) (λ q c. inner_step (to + 1) (scoring c q from score_name)) r
  score_some num t r w =
      let k : to + 1 ≤ length line = omega (arith, named.1) in
      let f = number_found (scan_signed line (to + 1)) num t in
      let i = score_at_lem line from score_name (to + 1) k f.number num.next f.is in
      score_found line from score_name (to + 1) k f.number num.next f.is r
      (w f.number
      (record {
        some_name = named.0;
        to_inside = omega (arith, named.1);
        score_is = ap made f.told;
        score_place = i.2;
      }) (omega (arith, i.0)) i.1)
    where
      made : Perhaps Kept → Perhaps Score
      made o = Some (record { number = o })
