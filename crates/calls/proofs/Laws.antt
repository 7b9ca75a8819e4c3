-- From the refusals that every call tries to its answer.
use mathlib.Core.Path.{◌≡◌, refl, sym, ap, ap₂, ◌∙◌, subst}
use Rattle.std.specs.Prelude.{Result, Ok, Err}
use Rattle.std.proofs.Common.{length-take-le}
use mathlib.Core.Bool.{Bool, true, false, cond, ◌||◌, true≢false}
use mathlib.Core.List.{List, map}
use Prim.Native.Nat.{ℕ, ◌<◌, ◌≤◌}
use native.Mathlib.Omega.{arith}
use borrow.Author.Tests.{lt-ltb, le-ltb, ltb-false}
use lib.Dec.{ltb, eqb}
use lib.IntN.{ℤ}
use lib.ListN.{length, take}
use lib.Seq.{take-take}
use Rattle.scope.specs.Tables.{Tables}
use Rattle.scope.specs.Layout.{bytes_size, numbers_size, tables_in}
use Rattle.scope.specs.Masses.{total, lacking, ledger, daltons}
use Rattle.scope.specs.Placements.{allowed}
use Rattle.scope.specs.Positions.{is_further, floating_of}
use Rattle.scope.specs.Answers.{allowable, bookable, books, ledger_said, of_good, Said, good, refuses, Display, a_mass, lack, display_of, too_short, SomeLine, are_tables, over_tables, weighed}
use Rattle.areas.specs.Floats.{floating_in, FloatersAre}
use Rattle.basics.specs.Choice.{by_test}
use Rattle.basics.specs.Positions.{same_floats}
use Rattle.basics.specs.Said.{not_both, same_number_lem, same_place}
use Rattle.layout_laws.proofs.Laws.{tables_held, accepted_held}
use Rattle.placement_laws.specs.Terms.{Orderly}
use Rattle.placement_laws.specs.Laws.{line_orderly}
use Rattle.laws.proofs.Proved.{demands}
use Rattle.masses.specs.declared.Lacking.{Lacking}
use Rattle.masses.specs.Weights.{weight_of, says_weight, weight_said}
use Rattle.positions.specs.Marked.{Filled}
use Rattle.calls.specs.Held.{length_said, held_said, Grounds, Sized, Held}

-- ---- 13 and 14
pub short_numbers : (bs : List ℕ) (ns : List ℤ) → bytes_size ≤ length bs → length ns < numbers_size → refuses 13 0 ≡ length_said bs ns
short_numbers bs ns h k = sym (rw (le-ltb (length bs) bytes_size h, lt-ltb (length ns) numbers_size k) refl)

pub long_both : (bs : List ℕ) (ns : List ℤ) → bytes_size ≤ length bs → numbers_size ≤ length ns → too_short bs ns ≡ false
long_both bs ns h k = rw (le-ltb (length bs) bytes_size h, le-ltb (length ns) numbers_size k)

pub sized_of : {bs : List ℕ} {ns : List ℤ} {b : List ℕ} {n : List ℤ} → bytes_size ≤ length bs → numbers_size ≤ length ns → b ≡ take bytes_size bs → n ≡ take numbers_size ns
    → Sized bs ns b n
sized_of {bs} {ns} h k e f = record { long = long_both bs ns h k; bytes = e; numbers = f }

-- a refusal of another kind of answer is the same refusal
pub as_refused : {A B : Type 0} {m q n p : ℕ} → ◌≡◌ {A = Said A} (refuses m q) (refuses n p) → ◌≡◌ {A = Said B} (refuses m q) (refuses n p)
as_refused e = ap₂ refuses (same_number_lem e) (same_place e)

short_so : {A : Type 0} (a : Bool) (m q : ℕ) (x : Said A) → refuses m q ≡ cond a (refuses 13 0) (good (tt {0})) → refuses m q ≡ cond a (refuses 13 0) x
short_so true m q x e = as_refused e
short_so false m q x e = absurd (not_both (sym e))

-- 13, of any call
pub short_law : {A : Type 0} (bs : List ℕ) (ns : List ℤ) {m q : ℕ} → refuses m q ≡ length_said bs ns → (f : Tables → Said A) → refuses m q ≡ over_tables bs ns f
short_law bs ns {m} {q} e f = short_so (too_short bs ns) m q (cond (are_tables bs ns) (f (tables_in bs ns)) (refuses 14 0)) e

refused_so : {A : Type 0} (a b : Bool) (m q : ℕ) (x : Said A) → refuses m q ≡ cond a (refuses 13 0) (cond b (good (tt {0})) (refuses 14 0))
    → refuses m q ≡ cond a (refuses 13 0) (cond b x (refuses 14 0))
refused_so true b m q x e = as_refused e
refused_so false true m q x e = absurd (not_both (sym e))
refused_so false false m q x e = as_refused e

-- the refusal that is due
pub refused_law : {A : Type 0} (bs : List ℕ) (ns : List ℤ) {m q : ℕ} → refuses m q ≡ held_said bs ns → (f : Tables → Said A) → refuses m q ≡ over_tables bs ns f
refused_law bs ns {m} {q} e f = refused_so (too_short bs ns) (are_tables bs ns) m q (f (tables_in bs ns)) e

pub held_of : (bs : List ℕ) (ns : List ℤ) → too_short bs ns ≡ false → are_tables bs ns ≡ true → Grounds bs ns
held_of bs ns a e =
    let h = (tables_held bs ns e).1 in
    record { long = a; tables = e; bounds = h.bounds; few = h.tables_within.few_copies; below = (demands.demand_3_in bs ns e).total_below }

-- ---- the arrays at the front of what is lent hold what is lent
le_of : {k m : ℕ} → m ≡ k → k ≤ m
le_of e = omega (arith, e)

module _ (bs : List ℕ) (ns : List ℤ) {b : List ℕ} {n : List ℤ} (z : Sized bs ns b n) where
  bytes_front : take bytes_size b ≡ take bytes_size bs
  bytes_front = ap (take bytes_size) z.bytes ∙ take-take bytes_size bytes_size bs (omega arith)

  numbers_front : take numbers_size n ≡ take numbers_size ns
  numbers_front = ap (take numbers_size) z.numbers ∙ take-take numbers_size numbers_size ns (omega arith)

  abbrev line_there : SomeLine bs ns → SomeLine b n
  line_there w = record { text = w.text; line = w.line; reads = w.reads; bytes = bytes_front ∙ w.bytes; numbers = numbers_front ∙ w.numbers }

  line_back : SomeLine b n → SomeLine bs ns
  line_back w = record { text = w.text; line = w.line; reads = w.reads; bytes = sym bytes_front ∙ w.bytes; numbers = sym numbers_front ∙ w.numbers }

  -- they are long enough
  long_there : too_short b n ≡ false
  long_there = go (ltb (length bs) bytes_size) (ltb (length ns) numbers_size) refl refl z.long
    where
      go : (x y : Bool) → ltb (length bs) bytes_size ≡ x → ltb (length ns) numbers_size ≡ y → (x || y) ≡ false → too_short b n ≡ false
      go true y e f q = absurd (true≢false q)
      go false true e f q = absurd (true≢false q)
      go false false e f q =
          long_both b n (subst (λ l. bytes_size ≤ length l) (sym z.bytes) (le_of (length-take-le bytes_size bs (ltb-false (length bs) bytes_size e))))
          (subst (λ l. numbers_size ≤ length l) (sym z.numbers) (le_of (length-take-le numbers_size ns (ltb-false (length ns) numbers_size f))))

  -- they are tables where what is lent is
  pub taken_there : are_tables b n ≡ true → are_tables bs ns ≡ true
  taken_there e = (demands.demand_2.exactly_tables bs ns).1 (line_back ((demands.demand_2.exactly_tables b n).0 e))

  pub not_there : are_tables b n ≡ false → are_tables bs ns ≡ false
  not_there e = by_test (are_tables bs ns) (λ f. absurd (true≢false (sym ((demands.demand_2.exactly_tables b n).1 (line_there ((demands.demand_2.exactly_tables bs ns).0 f))) ∙ e))) (λ f. f)

  -- and hold the same
  pub same_tables : are_tables bs ns ≡ true → tables_in b n ≡ tables_in bs ns
  same_tables e =
      let w = (demands.demand_2.exactly_tables bs ns).0 e in
      let v = line_there w in
      (accepted_held b n v.text v.line v.reads v.bytes v.numbers).tables ∙ sym (accepted_held bs ns w.text w.line w.reads w.bytes w.numbers).tables

  pub held_so : are_tables b n ≡ true → Held bs ns b n
  held_so e =
      let f = taken_there e in
      record { grounds = held_of b n long_there e; same = same_tables f; tried = z.long; taken = f }

  pub refused_14 : are_tables b n ≡ false → refuses 14 0 ≡ held_said bs ns
  refused_14 e = sym (rw (z.long, not_there e) refl)

-- tables are answered by themselves
pub answers_here : {A : Type 0} (bs : List ℕ) (ns : List ℤ) (f : Tables → Said A) → too_short bs ns ≡ false → are_tables bs ns ≡ true → over_tables bs ns f ≡ f (tables_in bs ns)
answers_here bs ns f h k = rw (h, k)

-- what the call answers, by the arrays
pub answers : {A : Type 0} {bs : List ℕ} {ns : List ℤ} {b : List ℕ} {n : List ℤ} (f : Tables → Said A) → Held bs ns b n → over_tables bs ns f ≡ f (tables_in b n)
answers {bs = bs} {ns} f h = answers_here bs ns f h.tried h.taken ∙ ap f (sym h.same)

-- ---- the total
pub weighed_so : (t : Tables) {w v : Result ℤ Lacking} → w ≡ weight_of t → w ≡ v → says_weight v ≡ weighed t (total t)
weighed_so t {w} {v} e f = ap says_weight (sym f ∙ e) ∙ weight_said t

total_is : (b : Bool) (x m : ℤ) (l : Lacking) → cond b (Ok x) (Err l) ≡ Ok m → x ≡ m
total_is true x m l e = cc
total_is false x m l e = absurd (let z : ◌≡◌ {A = ℕ} 0 1 = cc in omega arith)

pub weight_total : (t : Tables) {w : Result ℤ Lacking} {m : ℤ} → w ≡ weight_of t → w ≡ Ok m → total t ≡ m
unfolding weight_of
weight_total t {w} {m} e f = total_is (eqb (lacking t) 0) (total t) m (record { count = lacking t }) (sym e ∙ f)

abbrev pub says_display : Result ℤ Lacking → Display
says_display (Ok m) = a_mass (daltons m)
says_display (Err l) = lack l.count

display_of_lem : (b : Bool) (x : ℤ) (l : Lacking) → says_display (cond b (Ok x) (Err l)) ≡ cond b (a_mass (daltons x)) (lack l.count)
display_of_lem true x l = refl
display_of_lem false x l = refl

pub displayed : (t : Tables) {w v : Result ℤ Lacking} → w ≡ weight_of t → w ≡ v → says_display v ≡ display_of t
unfolding weight_of
displayed t {w} {v} e f = ap says_display (sym f ∙ e) ∙ display_of_lem (eqb (lacking t) 0) (total t) (record { count = lacking t })

-- ---- placements
-- what floats by the table and the numbers of the copies is what floats
pub floats_as : {bs : List ℕ} {ns : List ℤ} {k : ℕ} {index copy old tab : List ℕ} → FloatersAre bs ns k index copy → Filled bs ns k old tab
    → floating_in tab copy k ≡ floating_of (tables_in bs ns)
floats_as {bs} {ns} {k} {index} {copy} {old} {tab} a f = same_floats (floating_in tab copy k) (floating_of (tables_in bs ns)) f.table (ap (map is_further) a.copies)

pub floats_orderly : {bs : List ℕ} {ns : List ℤ} {k : ℕ} {index copy old tab : List ℕ} → FloatersAre bs ns k index copy → Filled bs ns k old tab
    → Orderly (floating_in tab copy k)
floats_orderly {bs} {ns} a f = subst Orderly (sym (floats_as a f)) (line_orderly (tables_in bs ns) (rw (sym a.many) a.few))

pub allowed_yes : (t : Tables) (p : List ℕ) {r : Bool} → r ≡ allowed (floating_of t) p → r ≡ true → good (tt {0}) ≡ allowable t p
allowed_yes t p {r} e y = ap (λ b. cond b (good (tt {0})) (refuses 18 0)) (sym y ∙ e)

pub allowed_no : (t : Tables) (p : List ℕ) {r : Bool} → r ≡ allowed (floating_of t) p → r ≡ false → refuses 18 0 ≡ allowable t p
allowed_no t p {r} e y = ap (λ b. cond b (good (tt {0})) (refuses 18 0)) (sym y ∙ e)

-- ---- the ledger
-- 16 before 18
pub booked_16 : (t : Tables) (p : List ℕ) {m q : ℕ} → refuses m q ≡ weighed t (total t) → refuses m q ≡ bookable t p
booked_16 t p {m} {q} e = go (eqb (lacking t) 0) e
  where
    go : (b : Bool) → refuses m q ≡ cond b (good (total t)) (refuses 16 (lacking t)) → refuses m q ≡ cond b (allowable t p) (refuses 16 (lacking t))
    go true f = absurd (not_both (sym f))
    go false f = as_refused f

pub booked_rest : (t : Tables) (p : List ℕ) {x : ℤ} → good x ≡ weighed t (total t) → bookable t p ≡ allowable t p
booked_rest t p {x} e = go (eqb (lacking t) 0) e
  where
    go : (b : Bool) → good x ≡ cond b (good (total t)) (refuses 16 (lacking t)) → cond b (allowable t p) (refuses 16 (lacking t)) ≡ allowable t p
    go true f = refl
    go false f = absurd (not_both f)

-- what is said of the ledger, where a call of its own refuses
pub ledger_refused : (bs : List ℕ) (ns : List ℤ) (p : List ℕ) {m q : ℕ} → refuses m q ≡ books bs ns p → refuses m q ≡ ledger_said bs ns p
ledger_refused bs ns p e = ap (of_good (λ x. record { at = ledger (tables_in bs ns) p })) e
