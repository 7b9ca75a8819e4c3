-- Masses and texts as values: from what was scanned to what is said.
use mathlib.Core.Path.{◌≡◌, refl, sym, ap, ap₂, subst, ◌∙◌}
use mathlib.Core.Bool.{Bool, false}
use mathlib.Core.Option.{none, some}
use mathlib.Core.List.{List, [], ◌++◌}
use Prim.Native.Nat.{ℕ, suc, ◌+◌, ◌-◌, ◌<◌, ◌≤◌}
use native.Mathlib.Omega.{arith}
use borrow.Author.Tests.{ltb-true, ltb-false}
use lib.Dec.{ltb}
use lib.ListN.{length, get_or, take, drop, length-take, length-drop}
use lib.Seq.{drop-cons, take-add, drop-drop}
use Rattle.basics.specs.Choice.{by_test}
use Rattle.scope.specs.declared.grammar.Slot.{Slot}
use Rattle.scope.specs.declared.grammar.Key.{Key}
use Rattle.scope.specs.Line.{Number, mass, text}
use Rattle.scope.specs.Keys.{written, form, hash_is_plain}
use Rattle.scope.specs.Lists.{given, part}
use Rattle.scope.specs.Content.{Digits, digit_step, number_end, Context, in_number, in_text, Content, lost, going, value_end, text_end, unlabelled, inner_step}
use Rattle.scope.specs.Reading.{Held, nothing, front}
use Rattle.scope.specs.Refusals.{least, too_deep}
use Rattle.numerals.specs.declared.Num.{Num}
use Rattle.numerals.specs.Numerals.{Scanned, found, scan_number, kept_in_range, num_of}
use Rattle.texts.specs.Texts.{TextScanned, ends, stuck as text_over, scan_text}
use Rattle.texts.proofs.Bounds.{text_in_lem}
use Rattle.values.specs.declared.Body.{Body}
use Rattle.values.specs.declared.Body.TheVariants.{Mass, Text}
use Rattle.std.specs.Prelude.{Option as Perhaps}
use Rattle.std.specs.Prelude.{Result, Ok, Err}
use Rattle.scope.specs.declared.grammar.Stuck.{Stuck}
use Rattle.values.specs.declared.Value.{Value}
use Rattle.values.specs.Says.{through, coded}
use Rattle.values.specs.Within.{SaysFrom, deep_in}
use Rattle.values.proofs.Through.{through_same}
use Rattle.values.proofs.Saying.{said_before, over, lost_there}
use Rattle.values.proofs.Texts.{TextSays, text_says}
use Rattle.values.proofs.Numbers.{NumberSays, number_says, number_found, no_number}

-- a value, by its fields
abbrev pub made : Key → Body → ℕ → ℕ → Value
made k b f t = record { key = k; body = b; from = f; to = t }

-- some bracket, for what holds of every one
abbrev some_context : Context ℕ
some_context = record { shut = 0; refers = false; labels = false; parts = [] }

-- ---- masses, whose sign stands at `sign`
module _ (line : List ℕ) (at : ℕ) (key : Key) (sign j : ℕ) (d : Digits) (starts : at ≤ sign) (behind : sign < j) (inside : j ≤ length line) where
  mass_goes : (c : Context ℕ) (i b : ℕ) (x y : Digits) → digit_step x b ≡ some y → inner_step i (in_number c at key sign x) b ≡ going (in_number c at key sign y)
  unfolding inner_step
  mass_goes c i b x y e = rw e

  mass_stops : (c : Context ℕ) (i b : ℕ) (x : Digits) → digit_step x b ≡ none
      → inner_step i (in_number c at key sign x) b ≡ given (number_end sign x) (λ n. value_end c (unlabelled at key (mass n)) b) lost
  unfolding inner_step
  mass_stops c i b x e = rw e

  abbrev mass_start : Context ℕ → ℕ → Content ℕ
  mass_start c = inner_step j (in_number c at key sign d)

  mass_says : (r : Scanned) → scan_number sign d (drop j line) j ≡ r → (s : Slot) (o : ℕ) (h : Held ℕ) (c : Context ℕ)
      → NumberSays line s o h sign (λ y. in_number c at key sign y) (λ m. value_end c (unlabelled at key (mass m))) (mass_goes c) (mass_stops c) j d r
  mass_says r f s o h c =
      subst
      (λ x. NumberSays line s o h sign (λ y. in_number c at key sign y) (λ m. value_end c (unlabelled at key (mass m))) (mass_goes c) (mass_stops c) j d x)
      f
      (number_says line s o h sign (λ y. in_number c at key sign y) (λ m. value_end c (unlabelled at key (mass m))) (mass_goes c) (mass_stops c) (drop j line) j d refl inside)

  -- it is a number
  mass_found : (n : Number ℕ) (e : ℕ) → scan_number sign d (drop j line) j ≡ found n e → SaysFrom line at j mass_start (Ok (made key (Mass (kept_in_range n)) sign e))
  unfolding SaysFrom
  mass_found n e f =
      let facts = mass_says (found n e) f front 0 nothing some_context in
      record {
        found = unlabelled at key (mass n);
        is_value = record {
          is = ap (λ i. made key (Mass (kept_in_range n)) i e) (sym facts.2);
          place = refl;
          bare = refl;
          stands = record { as_read = tt; text_is = refl; text_inside = omega arith; label_is = refl; label_inside = omega arith };
          ends = tt;
          past = omega (arith, facts.0);
          within = facts.1;
          from_inside = omega arith;
        };
        on = λ s o h c. (mass_says (found n e) f s o h c).3;
      }

  pub mass_some : (r : Num) → Ok r ≡ num_of (scan_number sign d (drop j line) j) → SaysFrom line at j mass_start (Ok (made key (Mass r.number) sign r.next))
  mass_some r t =
      let i = number_found (scan_number sign d (drop j line) j) r t in
      rw i.told (mass_found i.number r.next i.is)

  pub mass_none : (e : Stuck) → Err e ≡ num_of (scan_number sign d (drop j line) j) → SaysFrom line at j mass_start (Err e)
  unfolding SaysFrom
  mass_none e t = λ s o h c. mass_says _ (no_number (scan_number sign d (drop j line) j) e t) s o h c

-- ---- texts
module _ (line : List ℕ) (at : ℕ) (key : Key) (from to : ℕ) (deep : Perhaps ℕ) (behind : from ≡ at + length (written key)) (before : from ≤ to) (inside : to ≤ length line)
    (depth : deep ≡ deep_in line from to) where
  abbrev words : List ℕ
  words = part from (to - from) line

  -- an empty one
  pub text_none : from ≡ to → SaysFrom line at to (λ c. text_end c at key words []) (Err (record { at = to }))
  unfolding text_end
  text_none e =
      let z : to - from ≡ 0 = omega arith in
      by_test (ltb to (length line))
      (λ t. lost_there line at to (λ c. text_end c at key words []) (ltb-true to (length line) t) (λ c. rw z))
      (λ t. over line at to (λ c. text_end c at key words []) (ltb-false to (length line) t) inside)

  -- one that is not
  some_words : (from ≡ to → ⊥) → (c : Context ℕ) (b : ℕ) → text_end c at key words [] b ≡ value_end c (unlabelled at key (text words)) b
  unfolding text_end
  some_words f c b =
      let k : from < to = omega arith in
      let z : to - from ≡ suc (to - from - 1) = omega arith in
      rw (z, drop-cons line from 0 (omega arith))

  long : length words ≡ to - from
  long = length-take (to - from) (drop from line) ∙ (let e = length-drop from line in omega arith)

  pub text_some : (from ≡ to → ⊥) → SaysFrom line at to (λ c. text_end c at key words []) (Ok (made key (Text deep) from to))
  unfolding SaysFrom
  text_some f =
      record {
        found = unlabelled at key (text words);
        is_value = record {
          is = ap₂ (λ d i. made key (Text d) i to) (depth ∙ ap (λ i. coded (least (too_deep 0 i words))) behind) behind;
          place = refl;
          bare = refl;
          stands = record {
            as_read = tt;
            text_is = rw (long, sym behind);
            text_inside = omega (arith, long);
            label_is = refl;
            label_inside = omega arith;
          };
          ends = omega (arith, long);
          past = omega arith;
          within = inside;
          from_inside = omega arith;
        };
        on = λ s o h c. through_same line s o h to (text_end c at key words []) (value_end c (unlabelled at key (text words))) (λ m. some_words f c (get_or line to 0));
      }

-- a text ends within the line
pub text_end_within : (line : List ℕ) (scan : ℕ) (hashes : Bool) → scan ≤ length line → (e : ℕ) → ends e ≡ scan_text hashes [] (drop scan line) scan → (scan ≤ e) × (e ≤ length line)
text_end_within line scan hashes k e f = text_in_lem hashes line scan k f

-- the rest of a text, behind the place scan
module _ (line : List ℕ) (at : ℕ) (key : Key) (from scan : ℕ) (hashes : Bool) (plain : hash_is_plain (form key) ≡ hashes) (before : from ≤ scan) (inside : scan ≤ length line) where
  abbrev first_words : List ℕ
  first_words = part from (scan - from) line

  whole : (e : ℕ) → scan ≤ e → first_words ++ take (e - scan) (drop scan line) ≡ part from (e - from) line
  whole e k =
      let a : scan ≡ from + (scan - from) = omega arith in
      let b : e - from ≡ (scan - from) + (e - scan) = omega arith in
      rw (b, take-add (scan - from) (e - scan) (drop from line), drop-drop (scan - from) from line) (ap (λ x. first_words ++ take (e - scan) (drop x line)) a)

  text_facts : (e : TextScanned) → e ≡ scan_text hashes [] (drop scan line) scan → (s : Slot) (o : ℕ) (h : Held ℕ) (c : Context ℕ)
      → TextSays line s o h c at key hashes plain scan first_words [] (drop scan line) e
  text_facts e f s o h c =
      subst (λ x. TextSays line s o h c at key hashes plain scan first_words [] (drop scan line) x) (sym f)
      (text_says line s o h c at key hashes plain (drop scan line) scan first_words [] refl inside)

  pub text_ends : (e : ℕ) → ends e ≡ scan_text hashes [] (drop scan line) scan → (r : Result Value Stuck)
      → SaysFrom line at e (λ c. text_end c at key (part from (e - from) line) []) r
      → SaysFrom line at scan (λ c. inner_step scan (in_text c at key first_words [])) r
  text_ends e f r says =
      said_before line at scan e (λ c. inner_step scan (in_text c at key first_words [])) (λ c. text_end c at key (part from (e - from) line) [])
      (λ s o h c. (text_facts (ends e) f s o h c).2 ∙ ap (λ x. through line s o h e (text_end c at key x [])) (whole e (text_end_within line scan hashes inside e f).0)) r says

  pub text_stuck : (e : ℕ) → text_over e ≡ scan_text hashes [] (drop scan line) scan → SaysFrom line at scan (λ c. inner_step scan (in_text c at key first_words [])) (Err (record { at = e }))
  unfolding SaysFrom
  text_stuck e f = λ s o h c. text_facts (text_over e) f s o h c
