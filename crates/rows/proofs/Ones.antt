-- Laws of the places that hold 1, and of the rows that they give. Assumes nothing.
use mathlib.Core.Path.{◌≡◌, refl, sym, ap, ◌∙◌}
use mathlib.Core.Bool.{Bool, true, false, cond}
use mathlib.Core.List.{List, [], ◌∷◌, ◌++◌, map, append-nil, map-append}
use Prim.Native.Nat.{ℕ, zero, suc, ◌+◌, ◌-◌, ◌*◌, ◌/◌, ◌%◌, ◌≤◌, ◌<◌}
use native.Mathlib.Nat.{add-zero, not-suc-le-zero, le_of_suc-le-suc}
use native.Mathlib.Omega.{arith}
use borrow.Author.Tests.{eq-eqb, ne_eqb}
use lib.Dec.{eqb}
use lib.ListN.{length, get_or, set, length-map, length-append}
use Rattle.scope.specs.declared.answers.Site.{Site}
use Rattle.scope.specs.Limits.{position_limit}
use Rattle.scope.specs.Lists.{keep, tabled, laid}
use Rattle.scope.specs.Positions.{rows_from}
use Rattle.areas.specs.Floats.{list_in, lists_in}
use Rattle.basics.specs.Tabled.{tabled_append}
use Rattle.basics.specs.Lists.{keep_append}
use Rattle.rows.specs.Places.{ones_from, site_of}

-- the places before x + 1 are those before x, and x if its byte is 1
ones_last : (tab : List ℕ) (x : ℕ) → ones_from tab 0 (x + 1) ≡ ones_from tab 0 x ++ cond (eqb (get_or tab x 0) 1) (x ∷ []) []
unfolding keep tabled
ones_last tab x =
    ap (λ n. keep (λ y. eqb (get_or tab y 0) 1) (tabled (λ y. y) 0 n)) (let e : x + 1 - 0 ≡ x - 0 + 1 = omega arith in e)
    ∙ ap (keep (λ y. eqb (get_or tab y 0) 1)) (tabled_append 0 (x - 0) 1)
    ∙ keep_append (λ y. eqb (get_or tab y 0) 1) (tabled (λ y. y) 0 (x - 0)) (tabled (λ y. y) (0 + (x - 0)) 1)
    ∙ ap (λ y. ones_from tab 0 x ++ (cond (eqb (get_or tab y 0) 1) (y ∷ []) [] ++ [])) (let e : 0 + (x - 0) ≡ x = omega arith in e)
    ∙ ap (λ l. ones_from tab 0 x ++ l) (append-nil (cond (eqb (get_or tab x 0) 1) (x ∷ []) []))

-- ---- no more places than there are bytes
length_keep : (p : ℕ → Bool) (i n : ℕ) → length (keep p (tabled (λ x. x) i n)) ≤ n
unfolding keep tabled
length_keep p i zero = omega arith
length_keep p i (suc n) = go (p i) (length_keep p (i + 1) n)
  where
    go : (t : Bool) → length (keep p (tabled (λ x. x) (i + 1) n)) ≤ n → length (cond t (i ∷ []) [] ++ keep p (tabled (λ x. x) (i + 1) n)) ≤ suc n
    go true h = omega arith
    go false h = omega arith

pub few_ones : (tab : List ℕ) (end : ℕ) → length (ones_from tab 0 end) ≤ end
few_ones tab end = omega (arith, length_keep (λ x. eqb (get_or tab x 0) 1) 0 (end - 0))

laid_next : (l old : List Site) (v : Site) → length l < length old → set (laid l old) (length l) v ≡ laid (l ++ (v ∷ [])) old
laid_next [] [] v h = absurd (not-suc-le-zero h)
laid_next [] (y ∷ old) v h = refl
laid_next (z ∷ l) [] v h = absurd (not-suc-le-zero h)
laid_next (z ∷ l) (y ∷ old) v h = ap (λ m. z ∷ m) (laid_next l old v (le_of_suc-le-suc h))

-- ---- the rows of the places are those of the lists
-- the rows of one floater: positions from x on, at places from b + x on
site_in_row : (f x : ℕ) → x < position_limit → site_of (f * position_limit + x) ≡ record { floater = f + 1; position = x }
site_in_row f x h =
    ap (λ n. record { floater = n; position = (f * position_limit + x) % position_limit }) (let e : (f * position_limit + x) / position_limit + 1 ≡ f + 1 = omega arith in e)
    ∙ ap (λ n. record { floater = f + 1; position = n }) (let e : (f * position_limit + x) % position_limit ≡ x = omega arith in e)

row_of_floater : (tab : List ℕ) (f x n : ℕ) → x + n ≤ position_limit → map site_of (keep (λ y. eqb (get_or tab y 0) 1) (tabled (λ y. y) (f * position_limit + x) n)) ≡ map (λ y. record { floater = f + 1; position = y }) (keep (λ y. eqb (get_or tab (f * position_limit + y) 0) 1) (tabled (λ y. y) x n))
unfolding keep tabled
row_of_floater tab f x zero h = refl
row_of_floater tab f x (suc n) h =
    ap (λ j. map site_of (cond (eqb (get_or tab (f * position_limit + x) 0) 1) ((f * position_limit + x) ∷ []) [] ++ keep (λ y. eqb (get_or tab y 0) 1) (tabled (λ y. y) j n))) (let e : f * position_limit + x + 1 ≡ f * position_limit + (x + 1) = omega arith in e)
    ∙ go (eqb (get_or tab (f * position_limit + x) 0) 1) (row_of_floater tab f (x + 1) n (omega arith))
  where
    go : (t : Bool) → map site_of (keep (λ y. eqb (get_or tab y 0) 1) (tabled (λ y. y) (f * position_limit + (x + 1)) n)) ≡ map (λ y. record { floater = f + 1; position = y }) (keep (λ y. eqb (get_or tab (f * position_limit + y) 0) 1) (tabled (λ y. y) (x + 1) n))
        → map site_of (cond t ((f * position_limit + x) ∷ []) [] ++ keep (λ y. eqb (get_or tab y 0) 1) (tabled (λ y. y) (f * position_limit + (x + 1)) n)) ≡ map (λ y. record { floater = f + 1; position = y }) (cond t (x ∷ []) [] ++ keep (λ y. eqb (get_or tab (f * position_limit + y) 0) 1) (tabled (λ y. y) (x + 1) n))
    go true e = ap (λ s. s ∷ map site_of (keep (λ y. eqb (get_or tab y 0) 1) (tabled (λ y. y) (f * position_limit + (x + 1)) n))) (site_in_row f x (omega arith)) ∙ ap (λ r. record { floater = f + 1; position = x } ∷ r) e
    go false e = e

rows_of_floaters : (tab : List ℕ) (f count : ℕ) → map site_of (keep (λ y. eqb (get_or tab y 0) 1) (tabled (λ y. y) (f * position_limit) (count * position_limit))) ≡ rows_from (f + 1) (tabled (list_in tab) f count)
unfolding keep tabled rows_from list_in
rows_of_floaters tab f zero = ap (λ n. map site_of (keep (λ y. eqb (get_or tab y 0) 1) (tabled (λ y. y) (f * position_limit) n))) (let e : 0 * position_limit ≡ 0 = omega arith in e)
rows_of_floaters tab f (suc count) =
    ap (λ n. map site_of (keep (λ y. eqb (get_or tab y 0) 1) (tabled (λ y. y) (f * position_limit) n))) (let e : suc count * position_limit ≡ position_limit + count * position_limit = omega arith in e)
    ∙ ap (λ l. map site_of (keep (λ y. eqb (get_or tab y 0) 1) l)) (tabled_append (f * position_limit) position_limit (count * position_limit))
    ∙ ap (map site_of) (keep_append (λ y. eqb (get_or tab y 0) 1) (tabled (λ y. y) (f * position_limit) position_limit) (tabled (λ y. y) (f * position_limit + position_limit) (count * position_limit)))
    ∙ map-append site_of (keep (λ y. eqb (get_or tab y 0) 1) (tabled (λ y. y) (f * position_limit) position_limit)) (keep (λ y. eqb (get_or tab y 0) 1) (tabled (λ y. y) (f * position_limit + position_limit) (count * position_limit)))
    ∙ ap (λ l. l ++ map site_of (keep (λ y. eqb (get_or tab y 0) 1) (tabled (λ y. y) (f * position_limit + position_limit) (count * position_limit))))
    (ap (λ n. map site_of (keep (λ y. eqb (get_or tab y 0) 1) (tabled (λ y. y) n position_limit))) (sym (add-zero (f * position_limit))) ∙ row_of_floater tab f 0 position_limit (omega arith))
    ∙ ap (λ l. map (λ y. record { floater = f + 1; position = y }) (list_in tab f) ++ l)
    (ap (λ n. map site_of (keep (λ y. eqb (get_or tab y 0) 1) (tabled (λ y. y) n (count * position_limit)))) (let e : f * position_limit + position_limit ≡ (f + 1) * position_limit = omega arith in e) ∙ rows_of_floaters tab (f + 1) count)

pub rows_are : (tab : List ℕ) (count : ℕ) → map site_of (ones_from tab 0 (count * position_limit)) ≡ rows_from 1 (lists_in tab count)
unfolding lists_in
rows_are tab count =
    ap (λ n. map site_of (keep (λ y. eqb (get_or tab y 0) 1) (tabled (λ y. y) 0 n))) (let e : count * position_limit - 0 ≡ count * position_limit = omega arith in e)
    ∙ rows_of_floaters tab 0 count

-- ---- rows filled in one after the other: i of them, for the places before x that hold 1
pub record Filling (tab : List ℕ) (x i : ℕ) (old new : List Site) : Type 0 where
  pub many : i ≡ length (ones_from tab 0 x)
  pub few : i ≤ x
  pub put : new ≡ laid (map site_of (ones_from tab 0 x)) old

pub filling_start : (tab : List ℕ) (old : List Site) → Filling tab 0 0 old old
unfolding keep tabled
filling_start tab old = record { many = refl; few = omega arith; put = refl }

pub filling_one : {tab : List ℕ} {x i : ℕ} {old new : List Site} → Filling tab x i old new → i < length old → get_or tab x 0 ≡ 1 → Filling tab (x + 1) (i + 1) old (set new i (site_of x))
filling_one {tab} {x} {i} {old} {new} f h e =
    let ones : ones_from tab 0 (x + 1) ≡ ones_from tab 0 x ++ (x ∷ []) = ones_last tab x ∙ ap (λ t. ones_from tab 0 x ++ cond t (x ∷ []) []) (eq-eqb (get_or tab x 0) 1 e) in
    let long : length (map site_of (ones_from tab 0 x)) ≡ i = length-map (ones_from tab 0 x) site_of ∙ sym f.many in
    record {
      many = omega (arith, f.many, ap length ones, length-append (ones_from tab 0 x) (x ∷ []));
      few = omega (arith, f.few);
      put =
          ap (λ l. set l i (site_of x)) f.put
          ∙ ap (λ n. set (laid (map site_of (ones_from tab 0 x)) old) n (site_of x)) (sym long)
          ∙ laid_next (map site_of (ones_from tab 0 x)) old (site_of x) (omega (arith, long))
          ∙ ap (λ l. laid l old) (sym (map-append site_of (ones_from tab 0 x) (x ∷ [])) ∙ ap (map site_of) (sym ones));
    }

pub filling_none : {tab : List ℕ} {x i : ℕ} {old new : List Site} → Filling tab x i old new → (get_or tab x 0 ≡ 1 → ⊥) → Filling tab (x + 1) i old new
filling_none {tab} {x} {i} {old} {new} f e =
    let ones : ones_from tab 0 (x + 1) ≡ ones_from tab 0 x =
    ones_last tab x ∙ ap (λ t. ones_from tab 0 x ++ cond t (x ∷ []) []) (ne_eqb (get_or tab x 0) 1 e) ∙ append-nil (ones_from tab 0 x) in
    record {
      many = f.many ∙ ap length (sym ones);
      few = omega (arith, f.few);
      put = f.put ∙ ap (λ l. laid (map site_of l) old) (sym ones);
    }

pub filling_end : (tab : List ℕ) (count : ℕ) {x i : ℕ} {old new : List Site} → Filling tab x i old new → x ≡ count * position_limit
    → (i ≡ length (rows_from 1 (lists_in tab count))) × (new ≡ laid (rows_from 1 (lists_in tab count)) old)
filling_end tab count {x} {i} {old} {new} f e =
    let rows : map site_of (ones_from tab 0 x) ≡ rows_from 1 (lists_in tab count) = ap (λ n. map site_of (ones_from tab 0 n)) e ∙ rows_are tab count in
    (f.many ∙ sym (length-map (ones_from tab 0 x) site_of) ∙ ap length rows, f.put ∙ ap (λ l. laid l old) rows)
