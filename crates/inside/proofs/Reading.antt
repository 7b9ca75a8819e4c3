-- Reading a bracket from part to part: to the value of the next part, over its label, and what the byte behind it does.
use mathlib.Core.Path.{◌≡◌, refl, sym, ap, ◌∙◌}
use mathlib.Core.Bool.{Bool, true, false, not, ◌&&◌}
use mathlib.Core.List.{List, [], ◌∷◌, ◌++◌}
use Prim.Native.Nat.{ℕ, ◌+◌, ◌<◌, ◌≤◌}
use native.Mathlib.Omega.{arith}
use borrow.Author.Tests.{eq-eqb, lt-ltb, ltb-true, ltb-false}
use lib.Dec.{eqb, ltb}
use lib.IntN.{ℤ}
use lib.ListN.{length, get_or}
use Rattle.scope.specs.declared.grammar.Slot.{Slot}
use Rattle.scope.specs.Bytes.{bar, hash}
use Rattle.scope.specs.Line.{Part}
use Rattle.scope.specs.Lists.{none?, flat, all}
use Rattle.scope.specs.Content.{Context, begin, hashed, with, is_reference, labelled, Content, lost, closed, going, inner_step, part_end, value_end}
use Rattle.scope.specs.Reading.{Held, inside, resume, stuck}
use Rattle.scope.specs.Tables.{score_of}
use Rattle.basics.specs.Choice.{by_test}
use Rattle.basics.specs.Tests.{and_left}
use Rattle.reading_laws.proofs.Run.{rest, rest_dead}
use Rattle.dues.specs.Ranks.{lowest}
use Rattle.values.specs.declared.Value.{Value}
use Rattle.values.specs.Says.{through, Opens, ValueReads, ValueSays}
use Rattle.labels.specs.declared.Label.{Label as Named}
use Rattle.scope.specs.declared.grammar.Stuck.{Stuck}
use Rattle.std.specs.Prelude.{Result, Ok, Err}
use Rattle.labels.specs.Says.{ReadsLabel, LabelSays}
use Rattle.inside.specs.declared.Parts.{Parts}
use Rattle.inside.specs.declared.Next.{Next}
use Rattle.inside.specs.declared.Next.TheVariants.{Closed, More}
use Rattle.inside.specs.Says.{Opening, BracketFits, holding, SlotIs, PartsAre, Grows, Closes, BracketSays}
use Rattle.inside.specs.Progress.{no_parts, lost_at, byte_behind, behind_part, Sofar, Reached, NextPart, NextFits, AtLabel}
use Rattle.values.proofs.Through.{through_end, through_byte, through_same, through_rest, through_going}
use Rattle.inside.proofs.Lists.{length_snoc, few_names}
use Rattle.inside.proofs.Tables.{grows_none}

-- at most one label to a part
few_labelled : (line : List ℕ) (n : ℕ) (s : Parts) (ps : List (Part ℕ)) → PartsAre line n s ps → s.labels ≤ s.count
few_labelled line n s ps h = let a = h.labels in let b = h.count in let d = few_names ps in omega arith

-- ---- before the first part
pub at_first : (line : List ℕ) (o : Opening) (s : Parts) → o.at ≤ length line → s ≡ no_parts o.least → Sofar line o o.at s o.parts o.masses
unfolding flat all score_of lowest
at_first line o s h e =
    rw e
    (record {
      found = [];
      on = λ l i k g. refl;
      are = record { count = refl; labels = refl; info = refl; refers = refl; score = refl; least_due = refl; stand = tt };
      grows = grows_none o;
      past = omega arith;
      within = h;
      few = omega arith;
    })

-- what the next part asks
pub fits : (line : List ℕ) (o : Opening) (at : ℕ) (s : Parts) (parts : List ℕ) (masses : List ℤ) → BracketFits line o → Sofar line o at s parts masses
    → NextFits line at o.refers o.labels o.room o.base s
fits line o at s parts masses f w =
    record {
      short = f.short;
      within = w.within;
      few = w.few;
      few_labels = few_labelled line o.least s w.found w.are;
      with_labels = f.with_labels;
      base_low = f.base_low;
      base_room = f.base_room;
    }

-- ---- to the value of the next part
pub a_value : (line : List ℕ) (at : ℕ) (first : Bool) (f : Result Value Stuck) (v : Value) → ValueSays line at first f → f ≡ Ok v → ValueReads line at first v
a_value line at first f v w e = rw e at w

module _ (line : List ℕ) (o : Opening) (at : ℕ) (s : Parts) (parts : List ℕ) (masses : List ℤ) (w : Sofar line o at s parts masses) (first : Bool)
    (may : (ps : List (Part ℕ)) → s.count ≡ length ps → (o.refers && none? ps) ≡ first) (lab : o.refers ≡ true → o.labels ≡ true) where
  abbrev here : Context ℕ
  here = holding o w.found

  to_byte : (l : Slot) (i : ℕ) (h : Held ℕ) → SlotIs o l → rest line o.at (inside l i h (begin (holding o []))) ≡ through line l i h at (inner_step at (begin here))
  to_byte l i h g = w.on l i h g ∙ through_rest line l i h at (begin here)

  opens : Opens first here
  opens = record {
    refers_is = may w.found w.are.count;
    with_labels = λ e. lab (and_left o.refers (none? w.found) (may w.found w.are.count ∙ e));
  }

  pub no_value : (f : Result Value Stuck) (p : Stuck) → ValueSays line at first f → f ≡ Err p
      → (l : Slot) (i : ℕ) (h : Held ℕ) → SlotIs o l → rest line o.at (inside l i h (begin (holding o []))) ≡ stuck p.at
  no_value f p v e l i h g = to_byte l i h g ∙ (rw e at v) l i h here opens

  pub reached : (v : Value) (r : ValueReads line at first v) (t : Parts) (parts' : List ℕ) (masses' : List ℤ) → PartsAre line o.least t (w.found ++ (r.found ∷ []))
      → Grows o (w.found ++ (r.found ∷ [])) parts' masses' → Reached line o v.to value_end t w.found r.found parts' masses'
  reached v r t parts' masses' are grows =
      let a = are.count in
      let b = w.are.count in
      let d = length_snoc w.found r.found in
      record {
        on = λ l i h g. to_byte l i h g ∙ r.on l i h here opens;
        are = are;
        grows = grows;
        past = omega (arith, w.past, r.is_value.past);
        within = r.is_value.within;
        few = omega (arith, w.few, r.is_value.past);
      }

-- ---- no label follows
pub unlabelled_end : (line : List ℕ) (o : Opening) (at : ℕ) (s : Parts) (before : List (Part ℕ)) (q : Part ℕ) (parts : List ℕ) (masses : List ℤ)
    → Reached line o at value_end s before q parts masses → (ltb at (length line) && (eqb (get_or line at 0) hash && o.labels)) ≡ false
    → Reached line o at part_end s before q parts masses
unfolding value_end
unlabelled_end line o at s before q parts masses w e =
    record {
      on = λ l i h g. w.on l i h g ∙ through_same line l i h at (value_end (holding o before) q) (part_end (holding o before) q) (λ k. rw (not_hash k));
      are = w.are;
      grows = w.grows;
      past = w.past;
      within = w.within;
      few = w.few;
    }
  where
    not_hash : at < length line → (eqb (get_or line at 0) hash && o.labels) ≡ false
    not_hash k = sym (ap (λ z. z && (eqb (get_or line at 0) hash && o.labels)) (lt-ltb at (length line) k)) ∙ e

-- ---- over a label
pub a_label : (line : List ℕ) (at : ℕ) (f : Result Named Stuck) (r : Named) → LabelSays line at f → f ≡ Ok r → ReadsLabel line at r
a_label line at f r w e = rw e at w

module _ (line : List ℕ) (o : Opening) (part at shut : ℕ) (stored : Bool) (m : ℕ) (reference : Bool) (s : Parts) (before : List (Part ℕ)) (q : Part ℕ) (parts : List ℕ) (masses : List ℤ)
    (a : AtLabel line o part at shut stored m reference s before q parts masses) (k : at < length line) where
  abbrev around : Context ℕ
  around = holding o before

  to_label : (l : Slot) (i : ℕ) (h : Held ℕ) → SlotIs o l
      → rest line o.at (inside l i h (begin (holding o []))) ≡ through line l i h (at + 1) (inner_step (at + 1) (hashed around q))
  unfolding value_end
  to_label l i h g =
      a.reached.on l i h g
      ∙ through_going line l i h at (value_end around q) (hashed around q) k (rw (eq-eqb (get_or line at 0) hash a.hash_there, a.allowed))

  pub no_label : (f : Result Named Stuck) (p : Stuck) → LabelSays line (at + 1) f → f ≡ Err p
      → (l : Slot) (i : ℕ) (h : Held ℕ) → SlotIs o l → rest line o.at (inside l i h (begin (holding o []))) ≡ stuck p.at
  no_label f p v e l i h g = to_label l i h g ∙ (rw e at v) q l i h around tt

  pub behind_label : (r : Named) (v : ReadsLabel line (at + 1) r) (t : Parts) (parts' : List ℕ)
      → PartsAre line o.least t (before ++ (labelled q v.found.at v.found.name v.found.score ∷ []))
      → Grows o (before ++ (labelled q v.found.at v.found.name v.found.score ∷ [])) parts' masses
      → Reached line o r.next part_end t before (labelled q v.found.at v.found.name v.found.score) parts' masses
  behind_label r v t parts' are grows =
      let x = are.count in
      let y = a.reached.are.count in
      let d = length_snoc (before) q in
      let e = length_snoc (before) (labelled q v.found.at v.found.name v.found.score) in
      record {
        on = λ l i h g. to_label l i h g ∙ (v.reads q).on l i h around tt;
        are = are;
        grows = grows;
        past = omega (arith, a.reached.past, v.is_label.past);
        within = omega (arith, v.is_label.within);
        few = omega (arith, a.reached.few, v.is_label.past);
      }

-- ---- the byte behind a part
module _ (line : List ℕ) (o : Opening) (from next : ℕ) (s : Parts) (before : List (Part ℕ)) (q : Part ℕ) (parts : List ℕ) (masses : List ℤ)
    (w : Reached line o next part_end s before q parts masses) (f : from ≤ next) where
  abbrev ended : List (Part ℕ)
  ended = before ++ (q ∷ [])

  ends : (x : Content ℕ) → next < length line → part_end (holding o (before)) q (get_or line next 0) ≡ x
      → (l : Slot) (i : ℕ) (h : Held ℕ) → SlotIs o l → rest line o.at (inside l i h (begin (holding o []))) ≡ rest line (next + 1) (resume l i h next x)
  ends x k e l i h g =
      w.on l i h g ∙ through_byte line l i h next (part_end (holding o (before)) q) k ∙ ap (λ z. rest line (next + 1) (resume l i h next z)) e

  when_over : length line ≤ next → NextPart line o from (lost_at next) parts masses
  when_over k l i h g =
      let e : length line ≡ next = omega (arith, w.within) in
      w.on l i h g ∙ through_end line l i h next (part_end (holding o (before)) q) k ∙ ap stuck e

  when_closed : next < length line → eqb (get_or line next 0) o.shut ≡ true → Closes line o (next + 1) s parts masses
  unfolding part_end resume
  when_closed k e =
      record {
        found = ended;
        on = ends (closed ended) k (rw e);
        past = omega (arith, w.past);
        within = omega arith;
        are = w.are;
        few = w.few;
        few_labels = few_labelled line o.least s ended w.are;
        grows = w.grows;
      }

  when_more : next < length line → eqb (get_or line next 0) o.shut ≡ false → (eqb (get_or line next 0) bar && not (is_reference q.value)) ≡ true
      → Sofar line o (next + 1) s parts masses
  unfolding part_end resume
  when_more k e g =
      record {
        found = ended;
        on = ends (going (begin (with (holding o (before)) q))) k (rw (e, g));
        are = w.are;
        grows = w.grows;
        past = omega (arith, w.past);
        within = omega arith;
        few = w.few;
      }

  when_lost : next < length line → eqb (get_or line next 0) o.shut ≡ false → (eqb (get_or line next 0) bar && not (is_reference q.value)) ≡ false
      → NextPart line o from (lost_at next) parts masses
  unfolding part_end resume
  when_lost k e g l i h z = ends lost k (rw (e, g)) l i h z ∙ rest_dead line (next + 1) next

  pub a_part : (shut : ℕ) (reference : Bool) (z : Result Next Stuck) → o.shut ≡ shut → reference ≡ is_reference q.value → z ≡ behind_part line shut reference next s → NextPart line o from z parts masses
  unfolding behind_part byte_behind
  a_part shut reference z es er ez =
      let e : z ≡ behind_part line o.shut (is_reference q.value) next s = ez ∙ ap (λ x. behind_part line x reference next s) (sym es) ∙ ap (λ x. behind_part line o.shut x next s) er in
      by_test (ltb next (length line))
      (λ t. let k = ltb-true next (length line) t in
      by_test (eqb (get_or line next 0) o.shut)
      (λ b. let p : z ≡ Ok (Closed (next + 1) s) = e ∙ rw (t, b) in rw p (when_closed k b))
      (λ b. by_test (eqb (get_or line next 0) bar && not (is_reference q.value))
      (λ c. let p : z ≡ Ok (More (next + 1) s) = e ∙ rw (t, b, c) in rw p (when_more k b c, omega arith))
      (λ c. let p : z ≡ lost_at next = e ∙ rw (t, b, c) in rw p (when_lost k b c))))
      (λ t. let p : z ≡ lost_at next = e ∙ rw t in rw p (when_over (ltb-false next (length line) t)))

-- ---- what one part more says of the bracket
module _ (line : List ℕ) (o : Opening) (at : ℕ) (parts : List ℕ) (masses : List ℤ) (z : Result Next Stuck) (w : NextPart line o at z parts masses) where
  pub then_lost : (p : Stuck) → z ≡ Err p → BracketSays line o (Err p) parts masses
  then_lost p e = rw e at w

  pub then_closed : (next : ℕ) (s : Parts) → z ≡ Ok (Closed next s) → BracketSays line o (Ok (record { next = next; parts = s })) parts masses
  then_closed next s e = rw e at w

  pub then_more : (next : ℕ) (s : Parts) → z ≡ Ok (More next s) → Sofar line o next s parts masses × (at < next)
  then_more next s e = rw e at w
