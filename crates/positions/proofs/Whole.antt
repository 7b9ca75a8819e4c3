-- Laws of the whole table: row by row, and as the lists of permitted positions. Assumes nothing.
use mathlib.Core.Path.{◌≡◌, refl, sym, ap, ◌∙◌}
use mathlib.Core.Bool.{Bool, true, false, not, cond, ◌&&◌, ◌||◌, and-false}
use mathlib.Core.List.{List, map}
use Prim.Native.Nat.{ℕ, ◌+◌, ◌-◌, ◌*◌, ◌/◌, ◌%◌, ◌≤◌, ◌<◌}
use native.Mathlib.Omega.{arith}
use borrow.Author.Tests.{eqb-true, eqb-false, lt-leb}
use lib.Dec.{eqb, leb}
use lib.IntN.{ℤ}
use lib.ListN.{length, get_or, take, drop, length-map, length-take, length-drop}
use lib.Seq.{get_or-drop, ext_get_or}
use Rattle.scope.specs.Kinds.{unknown_or_labile}
use Rattle.scope.specs.Limits.{position_limit}
use Rattle.scope.specs.Lists.{keep, shared, tabled}
use Rattle.scope.specs.Modifications.{defined_by, referred_by}
use Rattle.scope.specs.Layout.{bracket_in, tables_in, brackets_field, residues_field}
use Rattle.scope.specs.Positions.{between, is_unlabelled_unknown, may_stand, permitted}
use Rattle.areas.specs.Floats.{list_in, lists_in, FloatersAre, TableIs}
use Rattle.basics.specs.Choice.{by_test}
use Rattle.basics.specs.Positions.{sites_in}
use Rattle.basics.specs.Tabled.{keep_as, keep_cut, tabled_map}
use Rattle.positions.proofs.Found.{floaters_are, floaters_inside}
use Rattle.positions.specs.Legible.{Legible}
use Rattle.basics.specs.Lists.{map_joined as map_map}
use Rattle.positions.specs.Marked.{RowIs, Filled, refers_at, references_at, struck_at, stands_at}
use Rattle.positions.proofs.Any.{any_none}
use Rattle.positions.proofs.Rows.{references_at_lem, stands_anywhere, stands_by_place}

-- ---- rows that are filled, one after the other
pub record Filling (bs : List ℕ) (ns : List ℤ) (index : List ℕ) (count g : ℕ) (old cur : List ℕ) : Type 0 where
  pub within : g ≤ count
  pub kept : length cur ≡ length old
  pub rows : (h : ℕ) → h < g → (x : ℕ) → x < position_limit → get_or cur (h * position_limit + x) 0 ≡ cond (stands_at bs ns (get_or index h 0) x) 1 0
  pub after : (i : ℕ) → g * position_limit ≤ i → get_or cur i 0 ≡ get_or old i 0

pub filling_start : (bs : List ℕ) (ns : List ℤ) (index : List ℕ) (count : ℕ) (old : List ℕ) → Filling bs ns index count 0 old old
filling_start bs ns index count old = record { within = omega arith; kept = refl; rows = λ h l. absurd (omega arith); after = λ i l. refl }

pub filling_next : {bs : List ℕ} {ns : List ℤ} {index : List ℕ} {count g k : ℕ} {old cur new : List ℕ} → Filling bs ns index count g old cur → g < count → k ≡ get_or index g 0 → RowIs (g * position_limit) (stands_at bs ns k) cur new → Filling bs ns index count (g + 1) old new
filling_next {bs} {ns} {index} {count} {g} {k} {old} {cur} {new} f l e r =
    record {
      within = omega arith;
      kept = r.kept ∙ f.kept;
      rows = λ h m x i. by_test (eqb h g) (λ t. this h (eqb-true h g t) x i) (λ t. let ne : h ≡ g → ⊥ = eqb-false h g t in r.before (h * position_limit + x) (omega arith) ∙ f.rows h (omega arith) x i);
      after = λ i m. r.after i (omega arith) ∙ f.after i (omega arith);
    }
  where
    this : (h : ℕ) → h ≡ g → (x : ℕ) → x < position_limit → get_or new (h * position_limit + x) 0 ≡ cond (stands_at bs ns (get_or index h 0) x) 1 0
    this h p x i =
        ap (λ n. get_or new (n * position_limit + x) 0) p ∙ r.inside x i ∙ ap (λ n. cond (stands_at bs ns n x) 1 0) (e ∙ ap (λ n. get_or index n 0) (sym p))

-- ---- no floater stands behind the C-terminus
outside : (a e x : ℕ) → e < x → between a e x ≡ false
outside a e x h = ap (λ t. leb a x && t) (lt-leb x e h) ∙ and-false (leb a x)

last_of : (bs : List ℕ) (ns : List ℤ) (k x : ℕ) → Legible bs → k < brackets_field bs → residues_field bs + 2 ≤ x → (bracket_in bs ns k).last < x
unfolding bracket_in
last_of bs ns k x l h o = omega (arith, (l.bracket k h).last)

not_behind : (bs : List ℕ) (ns : List ℤ) (k x : ℕ) → Legible bs → k < brackets_field bs → residues_field bs + 2 ≤ x → may_stand (tables_in bs ns) (bracket_in bs ns k) x ≡ false
not_behind bs ns k x l h o =
    by_test (is_unlabelled_unknown (bracket_in bs ns k) (bracket_in bs ns k).kind) (λ t. stands_anywhere bs ns k x t ∙ outside 1 (residues_field bs) x (omega arith))
    (λ t.
    stands_by_place bs ns k x t ∙ ap (λ s. s || references_at bs ns k x) (none_of (not (unknown_or_labile (bracket_in bs ns k).kind)) k h)
    ∙ references_at_lem bs ns k (brackets_field bs) x refl
    ∙ any_none (λ r. refers_at bs ns k r x) 0 (brackets_field bs) (λ r a b. none_of (shared (defined_by (bracket_in bs ns k)) (referred_by (bracket_in bs ns r))) r (omega arith)))
  where
    none_of : (s : Bool) (r : ℕ) → r < brackets_field bs → (s && between (bracket_in bs ns r).first (bracket_in bs ns r).last x) ≡ false
    none_of s r j = ap (λ t. s && t) (outside (bracket_in bs ns r).first (bracket_in bs ns r).last x (last_of bs ns r x l j o)) ∙ and-false s

-- ---- the positions that a row keeps
is_one_lem : (t : Bool) → eqb (cond t 1 0) 1 ≡ t
is_one_lem true = refl
is_one_lem false = refl

row_list : (tab : List ℕ) (f m : ℕ) (test : ℕ → Bool) → ((x : ℕ) → x < position_limit → get_or tab (f * position_limit + x) 0 ≡ cond (test x) 1 0) → m ≤ position_limit → ((x : ℕ) → m ≤ x → test x ≡ false) → list_in tab f ≡ keep test (tabled (λ x. x) 0 m)
unfolding list_in
row_list tab f m test h l o =
    keep_as (λ x. eqb (get_or tab (f * position_limit + x) 0) 1) test 0 position_limit (λ x a b. ap (λ n. eqb n 1) (h x (omega arith)) ∙ is_one_lem (test x))
    ∙ keep_cut test 0 m position_limit l (λ x a b. o x (omega arith))

permitted_is : (bs : List ℕ) (ns : List ℤ) (k : ℕ) → permitted (tables_in bs ns) (bracket_in bs ns k) ≡ keep (stands_at bs ns k) (tabled (λ x. x) 0 (residues_field bs + 2))
unfolding permitted
permitted_is bs ns k = ap (λ m. keep (stands_at bs ns k) (tabled (λ x. x) 0 m)) (sites_in bs ns)

permitted_row : (bs : List ℕ) (ns : List ℤ) (k f : ℕ) (tab : List ℕ) → Legible bs → k < brackets_field bs → ((x : ℕ) → x < position_limit → get_or tab (f * position_limit + x) 0 ≡ cond (stands_at bs ns k x) 1 0) → list_in tab f ≡ permitted (tables_in bs ns) (bracket_in bs ns k)
permitted_row bs ns k f tab l h r =
    row_list tab f (residues_field bs + 2) (stands_at bs ns k) r (omega (arith, l.few_residues))
    (λ x o. ap (λ t. t && not (struck_at bs ns x)) (not_behind bs ns k x l h o))
    ∙ sym (permitted_is bs ns k)

-- ---- the table as lists
indexed : {bs : List ℕ} {ns : List ℤ} {count : ℕ} {index copy : List ℕ} → FloatersAre bs ns count index copy → count ≤ length index
indexed {bs} {ns} {count} {index} f =
    let e : count ≡ length (take count index) = f.many ∙ ap length (floaters_are f) ∙ length-map (take count index) (bracket_in bs ns) in
    omega (arith, length-take count index)

table_is : {bs : List ℕ} {ns : List ℤ} {count : ℕ} {index copy : List ℕ} (tab : List ℕ) → Legible bs → FloatersAre bs ns count index copy
    → ((h : ℕ) → h < count → (x : ℕ) → x < position_limit → get_or tab (h * position_limit + x) 0 ≡ cond (stands_at bs ns (get_or index h 0) x) 1 0) → TableIs bs ns tab count
unfolding lists_in
table_is {bs} {ns} {count} {index} tab l f r =
    tabled_map (list_in tab) (λ k. permitted (tables_in bs ns) (bracket_in bs ns k)) index count (indexed f)
    (λ i j. permitted_row bs ns (get_or index i 0) i tab l (floaters_inside f i j) (r i j))
    ∙ map_map (permitted (tables_in bs ns)) (bracket_in bs ns) (take count index)
    ∙ ap (map (permitted (tables_in bs ns))) (sym (floaters_are f))

-- ---- the whole table
same_past : (n : ℕ) (old new : List ℕ) → length new ≡ length old → ((i : ℕ) → n ≤ i → get_or new i 0 ≡ get_or old i 0) → drop n new ≡ drop n old
same_past n old new e h =
    ext_get_or 0 (drop n new) (drop n old) (length-drop n new ∙ ap (λ m. m - n) e ∙ sym (length-drop n old))
    (λ i j. get_or-drop n new i 0 ∙ h (n + i) (omega arith) ∙ sym (get_or-drop n old i 0))

at_most_one : (t : Bool) (n : ℕ) → n ≡ cond t 1 0 → n ≤ 1
at_most_one true n e = omega arith
at_most_one false n e = omega arith

pub filling_end : {bs : List ℕ} {ns : List ℤ} {index copy : List ℕ} {count g : ℕ} {old new : List ℕ} → Filling bs ns index count g old new → count ≤ g → Legible bs
    → FloatersAre bs ns count index copy → Filled bs ns count old new
filling_end {bs} {ns} {index} {copy} {count} {g} {old} {new} f l b a =
    let w : g ≤ count = f.within in
    record { table = table_is new b a rows; bits = bit; past = same_past (count * position_limit) old new f.kept (λ i j. f.after i (omega arith)); kept = f.kept }
  where
    rows : (h : ℕ) → h < count → (x : ℕ) → x < position_limit → get_or new (h * position_limit + x) 0 ≡ cond (stands_at bs ns (get_or index h 0) x) 1 0
    rows h j x i = f.rows h (omega arith) x i

    bit : (i : ℕ) → i < count * position_limit → get_or new i 0 ≤ 1
    bit i j =
        let e : i ≡ i / position_limit * position_limit + i % position_limit = omega arith in
        at_most_one (stands_at bs ns (get_or index (i / position_limit) 0) (i % position_limit)) (get_or new i 0) (ap (λ n. get_or new n 0) e ∙ rows (i / position_limit) (omega arith) (i % position_limit) (omega arith))
