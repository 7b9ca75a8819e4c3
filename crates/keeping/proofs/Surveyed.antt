-- Blocks counted by sort: one block more, and what the counts of all blocks are. Assumes nothing.
use mathlib.Core.Path.{◌≡◌, refl, sym, ap, ◌∙◌, subst}
use mathlib.Core.Bool.{Bool, true, false, not, cond, ◌&&◌, ◌||◌, true≢false}
use mathlib.Core.Logic.{◌⊎◌, inl, inr}
use mathlib.Core.List.{List, [], ◌∷◌, ◌++◌}
use Prim.Native.Nat.{ℕ, ◌+◌, ◌≤◌, ◌<◌}
use native.Mathlib.Nat.{zero-add}
use native.Mathlib.Numerals.{add-one}
use native.Mathlib.Omega.{arith}
use borrow.Author.Tests.{eq-eqb, ne_eqb, eqb-true}
use lib.Dec.{eqb}
use lib.ListN.{length, get_or, set, replicate, length-append, length-set, length-replicate, get_or-replicate}
use lib.Seq.{get_or-set_same, get_or-set_other}
use Rattle.scope.specs.Lists.{keep, tabled}
use Rattle.basics.specs.Choice.{pick_true, pick_false}
use Rattle.basics.specs.Lists.{keep_append, keep_same, kept_fewer}
use Rattle.basics.specs.Tabled.{tabled_snoc, length_tabled}
use Rattle.basics.specs.Tests.{same?}
use Rattle.blocks.specs.Block.{free_kind, first_kind, further_kind, is_first, block_kind}
use Rattle.blocks.specs.Area.{blocks_in, block_at, sound_at, is_free}
use Rattle.blocks.specs.Answers.{how_many, is_head, is_of_kind, is_other, counts_of}
use Rattle.keeping.specs.Sorts.{unsound_sort, free_sort, first_sort, further_sort, other_sort, sort_many, kind_sort, sort_at, of_sort, Counted}

-- ---- the sort of a block, by what was told of it
module _ (a : List ℕ) (b : ℕ) {t : Bool} (told : t ≡ sound_at a b) where
  pub sound_sort : t ≡ true → {kind r : ℕ} → kind ≡ block_kind (block_at a b) → r ≡ kind_sort kind → r ≡ sort_at a b
  unfolding sort_at
  sound_sort e k f = f ∙ ap kind_sort k ∙ sym (pick_true (sound_at a b) (kind_sort (block_kind (block_at a b))) unsound_sort (sym told ∙ e))

  pub unsound_at : t ≡ false → unsound_sort ≡ sort_at a b
  unfolding sort_at
  unsound_at e = sym (pick_false (sound_at a b) (kind_sort (block_kind (block_at a b))) unsound_sort (sym told ∙ e))

-- ---- one block more
kept_one : (test : ℕ → Bool) (b : ℕ) → length (keep test (b ∷ [])) ≡ cond (test b) 1 0
unfolding keep
kept_one test b = go (test b)
  where
    go : (t : Bool) → length (cond t (b ∷ []) [] ++ []) ≡ cond t 1 0
    go true = refl
    go false = refl

more_kept : (test : ℕ → Bool) (b : ℕ) → length (keep test (tabled (λ x. x) 0 (b + 1))) ≡ length (keep test (tabled (λ x. x) 0 b)) + cond (test b) 1 0
more_kept test b =
    ap (λ m. length (keep test (tabled (λ x. x) 0 m))) (add-one b)
    ∙ ap (λ l. length (keep test l)) (tabled_snoc (λ x. x) 0 b ∙ ap (λ x. tabled (λ x. x) 0 b ++ (x ∷ [])) (zero-add b))
    ∙ ap length (keep_append test (tabled (λ x. x) 0 b) (b ∷ []))
    ∙ length-append (keep test (tabled (λ x. x) 0 b)) (keep test (b ∷ []))
    ∙ ap (λ m. length (keep test (tabled (λ x. x) 0 b)) + m) (kept_one test b)

-- a block is of its own sort, and of no other
module _ (a : List ℕ) (b sort : ℕ) where
  more_of : sort_at a b ≡ sort → of_sort a (b + 1) sort ≡ of_sort a b sort + 1
  unfolding of_sort
  more_of e = more_kept (λ x. eqb (sort_at a x) sort) b ∙ ap (λ t. of_sort a b sort + cond t 1 0) (eq-eqb (sort_at a b) sort e)

  same_of : (sort_at a b ≡ sort → ⊥) → of_sort a (b + 1) sort ≡ of_sort a b sort
  unfolding of_sort
  same_of n =
      let e = more_kept (λ x. eqb (sort_at a x) sort) b ∙ ap (λ t. of_sort a b sort + cond t 1 0) (ne_eqb (sort_at a b) sort n) in
      omega (arith, e)

  -- there are no more of a sort than blocks
  few_of : of_sort a b sort ≤ b
  unfolding of_sort
  few_of = omega (arith, kept_fewer (λ x. eqb (sort_at a x) sort) (tabled (λ x. x) 0 b), length_tabled (λ x. x) 0 b)

pub counted_start : (a : List ℕ) → Counted a 0 (replicate sort_many 0)
counted_start a = record { long = length-replicate {A = ℕ} sort_many 0; are = λ sort h. get_or-replicate sort_many sort 0 0 h ∙ sym (none sort) }
  where
    none : (sort : ℕ) → of_sort a 0 sort ≡ 0
    none sort = omega (arith, few_of a 0 sort)

module _ {a : List ℕ} {b : ℕ} {of : List ℕ} (w : Counted a b of) {sort : ℕ} (small : sort < sort_many) where
  -- none is above the number of blocks
  pub counted_few : get_or of sort 0 ≤ b
  counted_few = omega (arith, w.are sort small, few_of a b sort)

  pub counted_more : sort ≡ sort_at a b → Counted a (b + 1) (set of sort (get_or of sort 0 + 1))
  counted_more e = record { long = length-set of sort (get_or of sort 0 + 1) ∙ w.long; are = λ k h. at k h (same? k sort) }
    where
      at : (k : ℕ) → k < sort_many → (k ≡ sort) ⊎ (k ≡ sort → ⊥) → get_or (set of sort (get_or of sort 0 + 1)) k 0 ≡ of_sort a (b + 1) k
      at k h (inl q) =
          ap (λ i. get_or (set of sort (get_or of sort 0 + 1)) i 0) q
          ∙ get_or-set_same of sort (get_or of sort 0 + 1) 0 (omega (arith, w.long))
          ∙ ap (λ m. m + 1) (w.are sort small)
          ∙ sym (more_of a b sort (sym e))
          ∙ ap (of_sort a (b + 1)) (sym q)
      at k h (inr n) = get_or-set_other of sort k (get_or of sort 0 + 1) 0 n ∙ w.are k h ∙ sym (same_of a b k (λ z. n (sym z ∙ sym e)))

pub counted_all : {a : List ℕ} {b n : ℕ} {of : List ℕ} → Counted a b of → b ≡ n → Counted a n of
counted_all {a} {of = of} w e = subst (λ m. Counted a m of) e w

-- ---- the sorts are those of the survey: over whether a block is free, first or further, and sound
abbrev sort_by : Bool → Bool → Bool → Bool → ℕ
sort_by p q r s = cond s (cond p free_sort (cond q first_sort (cond r further_sort other_sort))) unsound_sort

by_free : (p q r s : Bool) → (p && s) ≡ eqb (sort_by p q r s) free_sort
by_free true q r true = refl
by_free true q r false = refl
by_free false true r true = refl
by_free false true r false = refl
by_free false false true true = refl
by_free false false true false = refl
by_free false false false true = refl
by_free false false false false = refl

by_first : (p q r s : Bool) → (p ≡ true → q ≡ false) → (q && s) ≡ eqb (sort_by p q r s) first_sort
by_first true true r s h = absurd (true≢false (h refl))
by_first true false r true h = refl
by_first true false r false h = refl
by_first false true r true h = refl
by_first false true r false h = refl
by_first false false true true h = refl
by_first false false true false h = refl
by_first false false false true h = refl
by_first false false false false h = refl

by_further : (p q r s : Bool) → (p ≡ true → r ≡ false) → (q ≡ true → r ≡ false) → (r && s) ≡ eqb (sort_by p q r s) further_sort
by_further true q true s h k = absurd (true≢false (h refl))
by_further true q false true h k = refl
by_further true q false false h k = refl
by_further false true true s h k = absurd (true≢false (k refl))
by_further false true false true h k = refl
by_further false true false false h k = refl
by_further false false true true h k = refl
by_further false false true false h k = refl
by_further false false false true h k = refl
by_further false false false false h k = refl

by_other : (p q r s : Bool) → (not ((p || q) || r) && s) ≡ eqb (sort_by p q r s) other_sort
by_other true q r true = refl
by_other true q r false = refl
by_other false true r true = refl
by_other false true r false = refl
by_other false false true true = refl
by_other false false true false = refl
by_other false false false true = refl
by_other false false false false = refl

by_unsound : (p q r s : Bool) → not s ≡ eqb (sort_by p q r s) unsound_sort
by_unsound true q r true = refl
by_unsound false true r true = refl
by_unsound false false true true = refl
by_unsound false false false true = refl
by_unsound p q r false = refl

-- no block is of two kinds
apart : (kind k l : ℕ) → (k ≡ l → ⊥) → eqb kind k ≡ true → eqb kind l ≡ false
apart kind k l n e = ne_eqb kind l (λ f. n (sym (eqb-true kind k e) ∙ f))

module _ (a : List ℕ) (b : ℕ) where
  abbrev kind : ℕ
  kind = block_kind (block_at a b)

  free_sort_lem : is_free a b ≡ eqb (sort_at a b) free_sort
  unfolding is_free sort_at
  free_sort_lem = by_free (eqb kind free_kind) (is_first kind) (eqb kind further_kind) (sound_at a b)

  first_sort_lem : is_head a b ≡ eqb (sort_at a b) first_sort
  unfolding is_head sort_at
  first_sort_lem =
      by_first (eqb kind free_kind) (is_first kind) (eqb kind further_kind) (sound_at a b) (apart kind free_kind first_kind (λ e. omega arith))

  further_sort_lem : is_of_kind a further_kind b ≡ eqb (sort_at a b) further_sort
  unfolding is_of_kind sort_at
  further_sort_lem =
      by_further (eqb kind free_kind) (is_first kind) (eqb kind further_kind) (sound_at a b) (apart kind free_kind further_kind (λ e. omega arith))
      (apart kind first_kind further_kind (λ e. omega arith))

  other_sort_lem : is_other a b ≡ eqb (sort_at a b) other_sort
  unfolding is_other sort_at
  other_sort_lem = by_other (eqb kind free_kind) (is_first kind) (eqb kind further_kind) (sound_at a b)

  unsound_sort_lem : not (sound_at a b) ≡ eqb (sort_at a b) unsound_sort
  unfolding sort_at
  unsound_sort_lem = by_unsound (eqb kind free_kind) (is_first kind) (eqb kind further_kind) (sound_at a b)

-- ---- the survey
module _ {a : List ℕ} {n : ℕ} {of : List ℕ} (many : blocks_in a ≡ n) (w : Counted a n of) where
  count_is : (test : ℕ → Bool) (sort : ℕ) → sort < sort_many → ((b : ℕ) → test b ≡ eqb (sort_at a b) sort) → get_or of sort 0 ≡ how_many test a
  unfolding of_sort
  count_is test sort small same =
      w.are sort small
      ∙ ap (λ m. length (keep (λ b. eqb (sort_at a b) sort) (tabled (λ b. b) 0 m))) (sym many)
      ∙ ap length (keep_same (λ b. eqb (sort_at a b) sort) test (λ b. sym (same b)) (tabled (λ b. b) 0 (blocks_in a)))

  pub counts_are : record { free = get_or of free_sort 0; first = get_or of first_sort 0; further = get_or of further_sort 0; other = get_or of other_sort 0; unsound = get_or of unsound_sort 0 } ≡ counts_of a
  unfolding counts_of
  counts_are =
      let f = count_is (is_free a) free_sort (omega arith) (free_sort_lem a) in
      let i = count_is (is_head a) first_sort (omega arith) (first_sort_lem a) in
      let u = count_is (is_of_kind a further_kind) further_sort (omega arith) (further_sort_lem a) in
      let o = count_is (is_other a) other_sort (omega arith) (other_sort_lem a) in
      let x = count_is (λ b. not (sound_at a b)) unsound_sort (omega arith) (unsound_sort_lem a) in
      rw (f, i, u, o, x)
