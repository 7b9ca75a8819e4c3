-- An area after removing: under the entry's number nothing is found; under any other number what was found before; all blocks are sound; and the entry's blocks
-- are free.
use Rattle.std.specs.Prelude.{ℕ, ◌+◌, ◌*◌, ◌<◌, ◌≡◌, ◌⊎◌, true, false, List, [], ◌∷◌, eqb, length}
use Rattle.std.proofs.Common.{arith, sym, ◌∙◌, subst, inl, inr, true≢false, eq-eqb}
use Rattle.std.proofs.Math.Path.{ap}
use Rattle.scope.specs.Lists.{member}
use Rattle.scope.specs.Limits.{block_size}
use Rattle.basics.specs.Choice.{pick_true, pick_false}
use Rattle.basics.specs.Each.{Each, In, each_in, in_each, each_one}
use Rattle.basics.specs.Members.{member_in, in_member}
use Rattle.basics.specs.Tabled.{keep_none}
use Rattle.basics.specs.Tests.{both, falsely, test}
use Rattle.blocks.specs.Block.{free_kind, block_kind, is_sound, free_block}
use Rattle.blocks.specs.Area.{blocks_in, block_at, sound_at, all_sound, is_free, frees, replaced}
use Rattle.blocks.specs.Entry.{Entry, absent, present, look}
use Rattle.blocks.specs.Answers.{freed}
use Rattle.block_laws.specs.Apart.{bears, present_inside, present_distinct}
use Rattle.area_laws.specs.Areas.{blocks_many}
use Rattle.area_laws.specs.Fields.{free_kind_lem, free_sound, free_bytes}
use Rattle.block_laws.specs.Taken.{bears_number}
use Rattle.block_laws.specs.Freed.{freed_length, freed_block}
use Rattle.block_laws.specs.Counting.{counted_less}
use Rattle.block_laws.specs.Written.{Bytes, replaced_bytes}
use Rattle.block_laws.specs.Looks.{begins, firsts_below, first_among, frees_below, sound_each, each_sound, none_absent, present_begun}
use Rattle.block_laws.specs.Outside.{same_sound, same_free, same_begins, free_kind_of, free_begins, free_bears, look_outside}

-- ---- a block of an entry is not free, and bears no other number
bears_busy : (a : List ℕ) (number b : ℕ) → bears a number b ≡ true → is_free a b ≡ false
bears_busy a number b e = falsely (is_free a b) (λ f. true≢false (sym e ∙ free_bears a b (free_kind_of a b f) number))

bears_no_other : (a : List ℕ) (number b m : ℕ) → (m ≡ number → ⊥) → bears a number b ≡ true → bears a m b ≡ false
bears_no_other a number b m n e = falsely (bears a m b) (λ f. n (sym (bears_number a m b f) ∙ bears_number a number b e))

-- ---- removing the entry under a number, in these blocks
abbrev pub without_entry : List ℕ → List ℕ → List ℕ
without_entry a bs = replaced (freed bs) a

pub record Removes (k : ℕ) (a : List ℕ) (number : ℕ) (bs : List ℕ) (e : Entry) : Type 0 where
  pub long : length a ≡ block_size * k
  pub sound : all_sound a ≡ true
  pub lies : look a number ≡ present bs e

module _ {k : ℕ} {a : List ℕ} {number : ℕ} {bs : List ℕ} {e : Entry} (w : Removes k a number bs e) where
  -- ---- the blocks
  inside : Each (λ b. (b < k) × (bears a number b ≡ true)) bs
  inside =
      each_one (λ b. (b < blocks_in a) × (bears a number b ≡ true)) (λ b. (b < k) × (bears a number b ≡ true))
      (λ b h. (subst (λ n. b < n) (blocks_many a k w.long) h.0, h.1)) bs (present_inside a number bs e w.lies)

  pub blocks_inside : Each (λ b. b < k) bs
  blocks_inside = each_one (λ b. (b < k) × (bears a number b ≡ true)) (λ b. b < k) (λ b h. h.0) bs inside

  one : (b : ℕ) → member b bs ≡ true → (b < k) × (bears a number b ≡ true)
  one b m = each_in (λ b. (b < k) × (bears a number b ≡ true)) bs b (member_in b bs m) inside

  -- ---- the area
  pub removed_long : length (without_entry a bs) ≡ block_size * k
  removed_long = freed_length k bs a w.long blocks_inside ∙ w.long

  pub removed_other : (b : ℕ) → b < k → member b bs ≡ false → block_at (without_entry a bs) b ≡ block_at a b
  removed_other b i m = freed_block k bs a w.long blocks_inside b i ∙ pick_false (member b bs) free_block (block_at a b) m

  pub removed_at : (b : ℕ) → member b bs ≡ true → block_at (without_entry a bs) b ≡ free_block
  removed_at b m = freed_block k bs a w.long blocks_inside b (one b m).0 ∙ pick_true (member b bs) free_block (block_at a b) m

  pub removed_bytes : Bytes a → Bytes (without_entry a bs)
  removed_bytes h = replaced_bytes (freed bs) a (each bs) h
    where
      each : (l : List ℕ) → Each (λ p. Bytes p.bytes) (freed l)
      each [] = tt
      each (b ∷ l) = (free_bytes, each l)

  kind_at : (b : ℕ) → member b bs ≡ true → block_kind (block_at (without_entry a bs) b) ≡ free_kind
  kind_at b m = ap block_kind (removed_at b m) ∙ free_kind_lem

  sound_at_lem : (b : ℕ) → member b bs ≡ true → sound_at (without_entry a bs) b ≡ true
  unfolding sound_at
  sound_at_lem b m = ap (is_sound (blocks_in (without_entry a bs))) (removed_at b m) ∙ free_sound (blocks_in (without_entry a bs))

  free_at : (b : ℕ) → member b bs ≡ true → is_free (without_entry a bs) b ≡ true
  unfolding is_free
  free_at b m =
      both (eqb (block_kind (block_at (without_entry a bs) b)) free_kind) (sound_at (without_entry a bs) b)
      (eq-eqb (block_kind (block_at (without_entry a bs) b)) free_kind (kind_at b m)) (sound_at_lem b m)

  -- ---- all blocks
  pub removed_sound : all_sound (without_entry a bs) ≡ true
  removed_sound = each_sound (without_entry a bs) k removed_long (λ b i. at b i (test (member b bs)))
    where
      at : (b : ℕ) → b < k → (member b bs ≡ true) ⊎ (member b bs ≡ false) → sound_at (without_entry a bs) b ≡ true
      at b i (inl m) = sound_at_lem b m
      at b i (inr m) = same_sound k (without_entry a bs) a removed_long w.long b (removed_other b i m) ∙ sound_each a k w.long w.sound b i

  -- ---- under its number
  pub removed_absent : look (without_entry a bs) number ≡ absent
  removed_absent =
      none_absent (without_entry a bs) number
      (firsts_below (without_entry a bs) k removed_long number ∙ keep_none (begins (without_entry a bs) number) 0 k (λ b i h. at b (omega arith) (test (member b bs))))
      removed_sound
    where
      only : (b x : ℕ) → In b (x ∷ []) → b ≡ x
      only b x (inl q) = q
      only b x (inr h) = absurd h

      not_before : (b : ℕ) → b < k → member b bs ≡ false → begins a number b ≡ true → ⊥
      not_before b i m f =
          let z = present_begun a number bs e w.lies in
          let q : b ≡ z.first = only b z.first (subst (In b) z.only (first_among a k w.long number b i f)) in
          true≢false (sym z.among ∙ ap (λ x. member x bs) (sym q) ∙ m)

      at : (b : ℕ) → b < k → (member b bs ≡ true) ⊎ (member b bs ≡ false) → begins (without_entry a bs) number b ≡ false
      at b i (inl m) = free_begins (without_entry a bs) b (kind_at b m) number
      at b i (inr m) =
          same_begins k (without_entry a bs) a removed_long w.long b (removed_other b i m) number ∙ falsely (begins a number b) (not_before b i m)

  -- ---- under another number
  pub removed_others : (m : ℕ) → (m ≡ number → ⊥) → look (without_entry a bs) m ≡ look a m
  removed_others m n =
      look_outside k (without_entry a bs) a removed_long w.long removed_sound w.sound bs removed_other m
      (λ b h. (free_bears (without_entry a bs) b (kind_at b h) m, bears_no_other a number b m n (one b h).1))

  -- ---- free blocks
  pub removed_frees : length (frees a) + length bs ≡ length (frees (without_entry a bs))
  removed_frees =
      let n = counted_less (is_free (without_entry a bs)) (is_free a) k bs (present_distinct a number bs e w.lies)
      (in_each (λ b. (b < k) × (is_free (without_entry a bs) b ≡ true) × (is_free a b ≡ false)) bs each)
      (λ b i m. sym (same_free k (without_entry a bs) a removed_long w.long b (removed_other b i m))) in
      let old = ap length (frees_below a k w.long) in
      let new = ap length (frees_below (without_entry a bs) k removed_long) in
      omega arith
    where
      each : (b : ℕ) → In b bs → (b < k) × (is_free (without_entry a bs) b ≡ true) × (is_free a b ≡ false)
      each b h = let m = in_member b bs h in let z = one b m in (z.0, free_at b m, bears_busy a number b z.1)
