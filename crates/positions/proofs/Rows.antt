-- Laws of marking positions in a row of the table. Assumes nothing.
use mathlib.Core.Path.{◌≡◌, refl, sym, ap, ◌∙◌, subst}
use mathlib.Core.Bool.{Bool, true, false, not, cond, ◌&&◌, ◌||◌}
use mathlib.Core.List.{List, []}
use Prim.Native.Nat.{ℕ, zero, suc, ◌+◌, ◌-◌, ◌≤◌, ◌<◌}
use native.Mathlib.Nat.{zero-add}
use native.Mathlib.Numerals.{add-one}
use native.Mathlib.Omega.{arith}
use borrow.Author.Tests.{eq-eqb, ne_eqb, eqb-true, eqb-false, leb-true, leb-false, lt-ltb, le-ltb}
use lib.Dec.{eqb, leb, ltb}
use lib.IntN.{ℤ}
use lib.ListN.{length, get_or, set, replicate, length-set, get_or-replicate}
use lib.Seq.{get_or-set_same, get_or-set_other}
use Rattle.scope.specs.declared.grammar.Kind.{Kind}
use Rattle.scope.specs.Kinds.{is_declared, unknown_or_labile}
use Rattle.scope.specs.Limits.{residue_limit, position_limit}
use Rattle.scope.specs.Line.{Bracket}
use Rattle.scope.specs.Lists.{flat, shared, tabled, member}
use Rattle.scope.specs.Modifications.{is_modification, defined_by, referred_by}
use Rattle.scope.specs.Layout.{bracket_in, tables_in, brackets_field, residues_field}
use Rattle.scope.specs.Tables.{Tables}
use Rattle.scope.specs.Positions.{names, is_placed, placed_on, struck_out, between, referred_at, is_unlabelled_unknown, may_stand}
use Rattle.basics.specs.Choice.{by_test, pick_true, pick_false}
use Rattle.basics.specs.Members.{member_append}
use Rattle.basics.specs.Positions.{placed_on_lem}
use Rattle.basics.specs.Tabled.{length_tabled}
use Rattle.brackets.specs.Reached.{reached_in, next_test, next_unnamed}
use Rattle.positions.specs.Marked.{RowSet, RowIs, always, held_in, refers_at, references_at, own_at, reached_at, placed_at, struck_at, FreeIs}
use Rattle.positions.proofs.Any.{any_of, any_last}

-- ---- one position, none, a second marking, another test that says the same
pub marked_set : {base x : ℕ} {v : ℕ → ℕ} {p : ℕ → Bool} {old cur : List ℕ} (q : ℕ → Bool) → RowSet base p v old cur → x < position_limit → base + position_limit ≤ length cur → q x ≡ true
    → ((y : ℕ) → y < position_limit → (y ≡ x → ⊥) → q y ≡ p y) → RowSet base q v old (set cur (base + x) (v x))
marked_set {base} {x} {v} {p} {old} {cur} q m h room here there =
    record {
      kept = length-set cur (base + x) (v x) ∙ m.kept;
      inside = λ y l. by_test (eqb y x) (λ t. same y (eqb-true y x t)) (λ t. other y l (eqb-false y x t));
      before = λ i l. get_or-set_other cur (base + x) i (v x) 0 (λ e. omega arith) ∙ m.before i l;
      after = λ i l. get_or-set_other cur (base + x) i (v x) 0 (λ e. omega arith) ∙ m.after i l;
    }
  where
    same : (y : ℕ) → y ≡ x → get_or (set cur (base + x) (v x)) (base + y) 0 ≡ cond (q y) (v y) (get_or old (base + y) 0)
    same y e =
        ap (λ z. get_or (set cur (base + x) (v x)) (base + z) 0) e ∙ get_or-set_same cur (base + x) (v x) 0 (omega arith)
        ∙ sym (ap (λ t. cond t (v x) (get_or old (base + x) 0)) here) ∙ ap (λ z. cond (q z) (v z) (get_or old (base + z) 0)) (sym e)

    other : (y : ℕ) → y < position_limit → (y ≡ x → ⊥) → get_or (set cur (base + x) (v x)) (base + y) 0 ≡ cond (q y) (v y) (get_or old (base + y) 0)
    other y l ne =
        get_or-set_other cur (base + x) (base + y) (v x) 0 (λ e. ne (omega arith)) ∙ m.inside y l
        ∙ sym (ap (λ t. cond t (v y) (get_or old (base + y) 0)) (there y l ne))

pub marked_none : (base : ℕ) (v : ℕ → ℕ) (q : ℕ → Bool) (old : List ℕ) → ((y : ℕ) → y < position_limit → q y ≡ false) → RowSet base q v old old
marked_none base v q old h =
    record {
      kept = refl;
      inside = λ y l. sym (ap (λ t. cond t (v y) (get_or old (base + y) 0)) (h y l));
      before = λ i l. refl;
      after = λ i l. refl;
    }

pub marked_as : {base : ℕ} {v : ℕ → ℕ} {p : ℕ → Bool} {old cur : List ℕ} (q : ℕ → Bool) → RowSet base p v old cur → ((y : ℕ) → y < position_limit → q y ≡ p y) → RowSet base q v old cur
marked_as {base} {v} {p} {old} {cur} q m h =
    record {
      kept = m.kept;
      inside = λ y l. m.inside y l ∙ sym (ap (λ t. cond t (v y) (get_or old (base + y) 0)) (h y l));
      before = m.before;
      after = m.after;
    }

twice : {A : Type 0} (s t : Bool) (v o : A) → cond t v (cond s v o) ≡ cond (s || t) v o
twice true true v o = refl
twice true false v o = refl
twice false t v o = refl

pub marked_then : {base : ℕ} {v : ℕ → ℕ} {p q : ℕ → Bool} {old cur new : List ℕ} → RowSet base p v old cur → RowSet base q v cur new → RowSet base (λ x. p x || q x) v old new
marked_then {base} {v} {p} {q} {old} {cur} {new} m n =
    record {
      kept = n.kept ∙ m.kept;
      inside = λ y l. n.inside y l ∙ ap (λ o. cond (q y) (v y) o) (m.inside y l) ∙ twice (p y) (q y) (v y) (get_or old (base + y) 0);
      before = λ i l. n.before i l ∙ m.before i l;
      after = λ i l. n.after i l ∙ m.after i l;
    }

-- ---- positions a to e, one after the other: those before x are set
pub record Spread (base a e : ℕ) (v : ℕ → ℕ) (x : ℕ) (old cur : List ℕ) : Type 0 where
  pub low : a ≤ x
  pub high : x ≤ e + 1 + (a - (e + 1))
  pub room : base + position_limit ≤ length cur
  pub marked : RowSet base (λ y. leb a y && ltb y x) v old cur

not_yet : (a x y : ℕ) → x ≤ a → (leb a y && ltb y x) ≡ false
not_yet a x y h = by_test (leb a y) (λ t. ap (λ s. s && ltb y x) t ∙ le-ltb y x (omega (arith, leb-true a y t))) (λ t. ap (λ s. s && ltb y x) t)

all_of_them : (a e x y : ℕ) → a ≤ x → x ≤ e + 1 + (a - (e + 1)) → e < x → (leb a y && leb y e) ≡ (leb a y && ltb y x)
all_of_them a e x y lo hi h =
    by_test (leb a y) (λ t. ap (λ s. s && leb y e) t ∙ inner (leb-true a y t) ∙ sym (ap (λ s. s && ltb y x) t))
    (λ t. ap (λ s. s && leb y e) t ∙ sym (ap (λ s. s && ltb y x) t))
  where
    inner : a ≤ y → leb y e ≡ ltb y x
    inner l =
        by_test (leb y e) (λ t. t ∙ sym (lt-ltb y x (let f : y ≤ e = leb-true y e t in omega arith)))
        (λ t. t ∙ sym (le-ltb y x (let f : e < y = leb-false y e t in omega arith)))

-- ---- a marking for each of b brackets, one after the other: those before k are done
pub record MarksPassed (base : ℕ) (v : ℕ → ℕ) (b k : ℕ) (q : List ℤ → ℕ → ℕ → Bool) (old cur : List ℕ) : Type 0 where
  pub within : k ≤ b
  pub kept : length cur ≡ length old
  pub marked : (ns : List ℤ) → RowSet base (λ x. any_of (λ j. q ns j x) 0 k) v old cur

pub passed_start : (base : ℕ) (v : ℕ → ℕ) (b : ℕ) (q : List ℤ → ℕ → ℕ → Bool) (old : List ℕ) → MarksPassed base v b 0 q old old
unfolding any_of
passed_start base v b q old = record { within = omega arith; kept = refl; marked = λ ns. marked_none base v (λ x. false) old (λ y l. refl) }

pub passed_next : {base : ℕ} {v : ℕ → ℕ} {b k : ℕ} {q : List ℤ → ℕ → ℕ → Bool} {old cur new : List ℕ} → MarksPassed base v b k q old cur → k < b → ((ns : List ℤ) → RowSet base (λ x. q ns k x) v cur new) → MarksPassed base v b (k + 1) q old new
passed_next {base} {v} {b} {k} {q} {old} {cur} {new} p h m =
    record {
      within = omega arith;
      kept = (m []).kept ∙ p.kept;
      marked =
          λ ns. marked_as (λ x. any_of (λ j. q ns j x) 0 (k + 1)) (marked_then (p.marked ns) (m ns))
          (λ y l. ap (any_of (λ j. q ns j y) 0) (add-one k) ∙ any_last (λ j. q ns j y) 0 k ∙ ap (λ j. any_of (λ j. q ns j y) 0 k || q ns j y) (zero-add k));
    }

passed_end : {base : ℕ} {v : ℕ → ℕ} {b k : ℕ} {q : List ℤ → ℕ → ℕ → Bool} {old cur : List ℕ} → MarksPassed base v b k q old cur → b ≤ k → (whole : List ℤ → ℕ → Bool) → ((ns : List ℤ) (x : ℕ) → whole ns x ≡ any_of (λ j. q ns j x) 0 b) → (ns : List ℤ) → RowSet base (whole ns) v old cur
passed_end {base} {v} {b} {k} {q} {old} {cur} p h whole e ns =
    let w : k ≤ b = p.within in
    marked_as (whole ns) (p.marked ns) (λ y l. e ns y ∙ ap (any_of (λ j. q ns j y) 0) (omega arith))

-- ---- a range that is marked, and a position, where a test holds
marked_range : (base : ℕ) (v : ℕ → ℕ) (a e a' e' : ℕ) {old cur : List ℕ} {t : Bool} → RowSet base (between a e) v old cur → a ≡ a' → e ≡ e' → t ≡ true → RowSet base (λ x. t && between a' e' x) v old cur
marked_range base v a e a' e' {old} {cur} {t} m p q f =
    marked_as (λ x. t && between a' e' x) m
    (λ y l. ap (λ s. s && between a' e' y) f ∙ ap (λ i. between i e' y) (sym p) ∙ ap (λ i. between a i y) (sym q))

marked_not : (base : ℕ) (v : ℕ → ℕ) (p : ℕ → Bool) (old : List ℕ) {t : Bool} → t ≡ false → RowSet base (λ x. t && p x) v old old
marked_not base v p old {t} f = marked_none base v (λ x. t && p x) old (λ y l. ap (λ s. s && p y) f)

module _ (bs : List ℕ) (k r : ℕ) {base : ℕ} {v : ℕ → ℕ} {old : List ℕ} {z : Bool} (refers : (ns : List ℤ) → z ≡ shared (defined_by (bracket_in bs ns k)) (referred_by (bracket_in bs ns r))) where
  pub reference_marked : {a e : ℕ} {cur : List ℕ} → z ≡ true → RowSet base (between a e) v old cur → ((ns : List ℤ) → a ≡ (bracket_in bs ns r).first) → ((ns : List ℤ) → e ≡ (bracket_in bs ns r).last) → (ns : List ℤ) → RowSet base (refers_at bs ns k r) v old cur
  reference_marked {a} {e} t m p q ns = marked_range base v a e (bracket_in bs ns r).first (bracket_in bs ns r).last m (p ns) (q ns) (sym (refers ns) ∙ t)

  pub no_reference : z ≡ false → (ns : List ℤ) → RowSet base (refers_at bs ns k r) v old old
  no_reference t ns = marked_not base v (between (bracket_in bs ns r).first (bracket_in bs ns r).last) old (sym (refers ns) ∙ t)

-- ---- the positions that a declaration names, one after the other: of those before x, each that is named is struck out
pub record Striking (bs : List ℕ) (k end x : ℕ) (old cur : List ℕ) : Type 0 where
  pub end_is : end ≡ residues_field bs + 2
  pub few : residues_field bs ≤ residue_limit
  pub inside : x ≤ end
  pub room : position_limit ≤ length cur
  pub kept : length cur ≡ length old
  pub marked : (ns : List ℤ) → RowSet 0 (λ y. ltb y x && names (tables_in bs ns) (bracket_in bs ns k).places y) (always 0) old cur

module _ {bs : List ℕ} {k end x : ℕ} {old cur : List ℕ} (s : Striking bs k end x old cur) (h : x < end) where
  pub striking_low : x < position_limit
  striking_low = omega (arith, s.end_is, s.few)

  module _ {z : Bool} (named : (ns : List ℤ) → z ≡ names (tables_in bs ns) (bracket_in bs ns k).places x) where
    pub striking_one : z ≡ true → Striking bs k end (x + 1) old (set cur x 0)
    striking_one t =
        record {
          end_is = s.end_is;
          few = s.few;
          inside = omega arith;
          room = omega (arith, length-set cur x 0, s.room);
          kept = length-set cur x 0 ∙ s.kept;
          marked =
              λ ns.
              subst
              (λ i. RowSet 0 (λ y. ltb y (x + 1) && names (tables_in bs ns) (bracket_in bs ns k).places y) (always 0) old (set cur i 0)) (zero-add x)
              (marked_set (λ y. ltb y (x + 1) && names (tables_in bs ns) (bracket_in bs ns k).places y) (s.marked ns) striking_low (omega (arith, s.room))
              (ap (λ u. u && names (tables_in bs ns) (bracket_in bs ns k).places x) (lt-ltb x (x + 1) (omega arith)) ∙ sym (named ns) ∙ t)
              (λ y l ne. ap (λ u. u && names (tables_in bs ns) (bracket_in bs ns k).places y) (next_test x y ne)));
        }

    pub striking_none : z ≡ false → Striking bs k end (x + 1) old cur
    striking_none t =
        record {
          end_is = s.end_is;
          few = s.few;
          inside = omega arith;
          room = s.room;
          kept = s.kept;
          marked =
              λ ns.
              marked_as (λ y. ltb y (x + 1) && names (tables_in bs ns) (bracket_in bs ns k).places y) (s.marked ns)
              (λ y l.
              next_unnamed x y (names (tables_in bs ns) (bracket_in bs ns k).places y)
              (λ e. ap (names (tables_in bs ns) (bracket_in bs ns k).places) e ∙ sym (named ns) ∙ t));
        }

pub striking_end : {bs : List ℕ} {k end x : ℕ} {old cur : List ℕ} → Striking bs k end x old cur → end ≤ x → (ns : List ℤ) → RowSet 0 (reached_at bs ns k) (always 0) old cur
striking_end {bs} {k} {end} {x} s h ns =
    let all : x ≡ end = omega (arith, s.inside) in
    marked_as (reached_at bs ns k) (s.marked ns)
    (λ y l. reached_in bs ns k y s.end_is ∙ ap (λ i. ltb y i && names (tables_in bs ns) (bracket_in bs ns k).places y) (sym all))

-- ---- a bracket that is placed: a declaration where it reaches, any other at its own position
module _ (bs : List ℕ) (k : ℕ) {d : Bool} (declared : (ns : List ℤ) → d ≡ is_declared (bracket_in bs ns k).kind && is_modification (bracket_in bs ns k)) where
  pub declared_struck : {old cur : List ℕ} → d ≡ true → ((ns : List ℤ) → RowSet 0 (reached_at bs ns k) (always 0) old cur) → (ns : List ℤ) → RowSet 0 (placed_at bs ns k) (always 0) old cur
  declared_struck t m ns =
      marked_as (placed_at bs ns k) (m ns)
      (λ y l. placed_on_lem (tables_in bs ns) (bracket_in bs ns k) y ∙ pick_true _ (reached_at bs ns k y) (is_placed (bracket_in bs ns k) && eqb y (bracket_in bs ns k).first) (sym (declared ns) ∙ t))

  placed_as : (ns : List ℤ) (y : ℕ) {z : Bool} → d ≡ false → is_placed (bracket_in bs ns k) ≡ z → placed_at bs ns k y ≡ z && eqb y (bracket_in bs ns k).first
  placed_as ns y n t =
      placed_on_lem (tables_in bs ns) (bracket_in bs ns k) y
      ∙ pick_false _ (reached_at bs ns k y) (is_placed (bracket_in bs ns k) && eqb y (bracket_in bs ns k).first) (sym (declared ns) ∙ n)
      ∙ ap (λ s. s && eqb y (bracket_in bs ns k).first) t

module _ (bs : List ℕ) (k : ℕ) {old : List ℕ} {d z : Bool} (declared : (ns : List ℤ) → d ≡ is_declared (bracket_in bs ns k).kind && is_modification (bracket_in bs ns k)) (other : d ≡ false)
    (placed : (ns : List ℤ) → z ≡ is_placed (bracket_in bs ns k)) where
  pub struck : {x : ℕ} → z ≡ true → ((ns : List ℤ) → x ≡ (bracket_in bs ns k).first) → x < position_limit → position_limit ≤ length old → (ns : List ℤ) → RowSet 0 (placed_at bs ns k) (always 0) old (set old x 0)
  struck {x} t p h room ns =
      subst (λ i. RowSet 0 (placed_at bs ns k) (always 0) old (set old i 0)) (zero-add x)
      (marked_set (placed_at bs ns k) (marked_none 0 (always 0) (λ y. false) old (λ y l. refl)) h (omega arith)
      (placed_as bs k declared ns x other (sym (placed ns) ∙ t) ∙ eq-eqb x (bracket_in bs ns k).first (p ns))
      (λ y l ne. placed_as bs k declared ns y other (sym (placed ns) ∙ t) ∙ ne_eqb y (bracket_in bs ns k).first (λ i. ne (i ∙ sym (p ns)))))

  pub not_struck : z ≡ false → (ns : List ℤ) → RowSet 0 (placed_at bs ns k) (always 0) old old
  not_struck t ns = marked_none 0 (always 0) (placed_at bs ns k) old (λ y l. placed_as bs k declared ns y other (sym (placed ns) ∙ t))

-- ---- references and placed modifications, bracket by bracket
referred_tabled : (k : Bracket (Unit {0})) (x : ℕ) (f : ℕ → Bracket (Unit {0})) (i n : ℕ) → referred_at k x (tabled f i n) ≡ any_of (λ r. shared (defined_by k) (referred_by (f r)) && between (f r).first (f r).last x) i n
unfolding referred_at tabled any_of
referred_tabled k x f i zero = refl
referred_tabled k x f i (suc n) = ap (λ t. shared (defined_by k) (referred_by (f i)) && between (f i).first (f i).last x || t) (referred_tabled k x f (i + 1) n)

struck_tabled : (x : ℕ) (t : Tables) (f : ℕ → Bracket (Unit {0})) (i n : ℕ) → member x (flat (placed_on t) (tabled f i n)) ≡ any_of (λ k. member x (placed_on t (f k))) i n
unfolding tabled any_of flat member
struck_tabled x t f i zero = refl
struck_tabled x t f i (suc n) =
    member_append x (placed_on t (f i)) (flat (placed_on t) (tabled f (i + 1) n)) ∙ ap (λ s. member x (placed_on t (f i)) || s) (struck_tabled x t f (i + 1) n)

pub references_at_lem : (bs : List ℕ) (ns : List ℤ) (k b x : ℕ) → b ≡ brackets_field bs → references_at bs ns k x ≡ any_of (λ r. refers_at bs ns k r x) 0 b
unfolding tables_in
references_at_lem bs ns k b x e = rw e (referred_tabled (bracket_in bs ns k) x (bracket_in bs ns) 0 (brackets_field bs))

struck_at_lem : (bs : List ℕ) (ns : List ℤ) (b x : ℕ) → b ≡ brackets_field bs → struck_at bs ns x ≡ any_of (λ k. placed_at bs ns k x) 0 b
unfolding struck_out tables_in
struck_at_lem bs ns b x e = rw e (struck_tabled x (tables_in bs ns) (bracket_in bs ns) 0 (brackets_field bs))

pub references_end : (bs : List ℕ) (k : ℕ) {base b r : ℕ} {v : ℕ → ℕ} {old cur : List ℕ} → MarksPassed base v b r (λ ns j. refers_at bs ns k j) old cur → b ≤ r → b ≡ brackets_field bs → (ns : List ℤ) → RowSet base (references_at bs ns k) v old cur
references_end bs k {b = b} p h e = passed_end p h (λ ns. references_at bs ns k) (λ ns x. references_at_lem bs ns k b x e)

pub struck_end : (bs : List ℕ) {base b k : ℕ} {old cur : List ℕ} → MarksPassed base (always 0) b k (placed_at bs) old cur → b ≤ k → b ≡ brackets_field bs → (ns : List ℤ) → RowSet base (struck_at bs ns) (always 0) old cur
struck_end bs {b = b} p h e = passed_end p h (struck_at bs) (λ ns x. struck_at_lem bs ns b x e)

-- ---- the row of free positions: all of them, but for those that are struck out
pub free_is : (bs : List ℕ) (ns : List ℤ) {row : List ℕ} → RowSet 0 (struck_at bs ns) (always 0) (replicate position_limit 1) row → FreeIs bs ns row
free_is bs ns {row} m x h =
    ap (held_in row) (sym (zero-add x)) ∙ m.inside x h
    ∙ ap (λ n. cond (struck_at bs ns x) 0 n) (ap (held_in (replicate position_limit 1)) (zero-add x) ∙ get_or-replicate position_limit x 1 0 h)

module _ (bs : List ℕ) (k : ℕ) {base : ℕ} {v : ℕ → ℕ} {old : List ℕ} {z : Bool} {c : Kind} (kind : (ns : List ℤ) → c ≡ (bracket_in bs ns k).kind) (place : z ≡ not (unknown_or_labile c)) where
  pub own_marked : {a e : ℕ} {cur : List ℕ} → z ≡ true → RowSet base (between a e) v old cur → ((ns : List ℤ) → a ≡ (bracket_in bs ns k).first) → ((ns : List ℤ) → e ≡ (bracket_in bs ns k).last) → (ns : List ℤ) → RowSet base (own_at bs ns k) v old cur
  own_marked {a} {e} t m p q ns =
      marked_range base v a e (bracket_in bs ns k).first (bracket_in bs ns k).last m (p ns) (q ns) (sym (place ∙ ap (λ j. not (unknown_or_labile j)) (kind ns)) ∙ t)

  pub no_own : z ≡ false → (ns : List ℤ) → RowSet base (own_at bs ns k) v old old
  no_own t ns =
      marked_not base v (between (bracket_in bs ns k).first (bracket_in bs ns k).last) old (sym (place ∙ ap (λ j. not (unknown_or_labile j)) (kind ns)) ∙ t)

pub stands_anywhere : (bs : List ℕ) (ns : List ℤ) (k x : ℕ) → is_unlabelled_unknown (bracket_in bs ns k) (bracket_in bs ns k).kind ≡ true → may_stand (tables_in bs ns) (bracket_in bs ns k) x ≡ between 1 (residues_field bs) x
unfolding may_stand tables_in
stands_anywhere bs ns k x t = rw (t, length_tabled)

pub stands_by_place : (bs : List ℕ) (ns : List ℤ) (k x : ℕ) → is_unlabelled_unknown (bracket_in bs ns k) (bracket_in bs ns k).kind ≡ false → may_stand (tables_in bs ns) (bracket_in bs ns k) x ≡ own_at bs ns k x || references_at bs ns k x
unfolding may_stand
stands_by_place bs ns k x t = rw t

module _ (bs : List ℕ) (k : ℕ) {base : ℕ} {v : ℕ → ℕ} {old : List ℕ} {u : Bool} (anywhere : (ns : List ℤ) → u ≡ is_unlabelled_unknown (bracket_in bs ns k) (bracket_in bs ns k).kind) where
  pub all_residues : {n : ℕ} {cur : List ℕ} → u ≡ true → RowSet base (between 1 n) v old cur → n ≡ residues_field bs → (ns : List ℤ) → RowSet base (may_stand (tables_in bs ns) (bracket_in bs ns k)) v old cur
  all_residues {n} t m e ns =
      marked_as (may_stand (tables_in bs ns) (bracket_in bs ns k)) m (λ y l. stands_anywhere bs ns k y (sym (anywhere ns) ∙ t) ∙ ap (λ i. between 1 i y) (sym e))

  pub own_and_referred : {cur new : List ℕ} → u ≡ false → ((ns : List ℤ) → RowSet base (own_at bs ns k) v old cur) → ((ns : List ℤ) → RowSet base (references_at bs ns k) v cur new) → (ns : List ℤ) → RowSet base (may_stand (tables_in bs ns) (bracket_in bs ns k)) v old new
  own_and_referred t m n ns =
      marked_as (may_stand (tables_in bs ns) (bracket_in bs ns k)) (marked_then (m ns) (n ns)) (λ y l. stands_by_place bs ns k y (sym (anywhere ns) ∙ t))

-- ---- the row: cleared, then marked where it is free
left : (m s : Bool) → ◌≡◌ {A = ℕ} (cond m (cond s 0 1) 0) (cond (m && not s) 1 0)
left true true = refl
left true false = refl
left false s = refl

pub row_is : (bs : List ℕ) (ns : List ℤ) (row : List ℕ) {base : ℕ} {p : ℕ → Bool} {old clear new : List ℕ} → FreeIs bs ns row → RowSet base (λ x. true) (always 0) old clear → RowSet base p (held_in row) clear new → RowIs base (λ x. p x && not (struck_at bs ns x)) old new
row_is bs ns row {base} {p} {old} {clear} {new} free a b =
    record {
      kept = b.kept ∙ a.kept;
      inside =
          λ x l. b.inside x l ∙ ap (λ o. cond (p x) (held_in row x) o) (a.inside x l) ∙ ap (λ n. cond (p x) n 0) (free x l) ∙ left (p x) (struck_at bs ns x);
      before = λ i l. b.before i l ∙ a.before i l;
      after = λ i l. b.after i l ∙ a.after i l;
    }
