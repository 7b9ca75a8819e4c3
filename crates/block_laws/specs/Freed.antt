-- "freed ones again": removing an entry makes its blocks free and changes no other, so the free blocks are then those that were free and the entry's.
use Rattle.std.specs.Prelude.{ℕ, ◌*◌, ◌/◌, ◌<◌, ◌≡◌, ◌⊎◌, ◌↔◌, Bool, true, false, ◌&&◌, ◌||◌, eqb}
use Rattle.std.proofs.Math.Path.{refl, ap, ap₂}
use Rattle.std.proofs.Common.{sym, ◌∙◌, inl, inr, arith, eq-eqb, ne_eqb}
use Rattle.std.proofs.Math.Logic.{⊎_elim}
use Rattle.std.proofs.Math.Bool.{cond}
use mathlib.Core.List.{List, [], ◌∷◌}
use Rattle.std.proofs.Math.ListN.{length}
use Rattle.scope.specs.Limits.{block_size}
use Rattle.scope.specs.Lists.{member}
use Rattle.scope.specs.Answers.{refuses}
use Rattle.basics.specs.Choice.{by_test, pick_true, pick_false, branch}
use Rattle.basics.specs.Each.{Each, In, each_in, each_one}
use Rattle.basics.specs.Members.{member_in, in_member}
use Rattle.basics.specs.Tests.{both, same?}
use Rattle.blocks.specs.Block.{free_kind, block_kind, is_sound, free_block}
use Rattle.blocks.specs.Area.{blocks_in, whole_blocks, block_at, sound_at, is_free, frees, put_at, replaced}
use Rattle.blocks.specs.Entry.{Entry, present, look}
use Rattle.blocks.specs.Answers.{removed, removing, freed, removed_from, remove_after}
use Rattle.area_laws.specs.Areas.{whole_length, put_length, put_same, put_other}
use Rattle.area_laws.specs.Fields.{free_length, free_kind_lem, free_sound}
use Rattle.block_laws.specs.Apart.{bears, present_inside}
use Rattle.block_laws.specs.Taken.{exactly_frees}

-- ---- blocks made free, in an area of n blocks
module _ (n : ℕ) where
  abbrev freed_at : ℕ → List ℕ → List ℕ
  freed_at c a = put_at (block_size * c) free_block a

  pub freed_length : (bs a : List ℕ) → length a ≡ block_size * n → Each (λ b. b < n) bs → length (replaced (freed bs) a) ≡ length a
  unfolding replaced
  freed_length [] a long h = refl
  freed_length (c ∷ bs) a long h =
      let once : length (freed_at c a) ≡ length a = put_length a free_block n c long h.0 free_length in
      freed_length bs (freed_at c a) (once ∙ long) h.1 ∙ once

  pub freed_block :
      (bs a : List ℕ) → length a ≡ block_size * n → Each (λ b. b < n) bs → (b : ℕ) → b < n
      → block_at (replaced (freed bs) a) b ≡ cond (member b bs) free_block (block_at a b)
  unfolding replaced member
  freed_block [] a long h b l = refl
  freed_block (c ∷ bs) a long h b l =
      freed_block bs (freed_at c a) (put_length a free_block n c long h.0 free_length ∙ long) h.1 b l ∙ ⊎_elim here there (same? b c)
    where
      here : b ≡ c → cond (member b bs) free_block (block_at (freed_at c a) b) ≡ cond (eqb b c || member b bs) free_block (block_at a b)
      here e =
          branch (λ x. x ≡ free_block) (member b bs) refl (ap (block_at (freed_at c a)) e ∙ put_same a free_block n c long h.0 free_length)
          ∙ ap (λ t. cond (t || member b bs) free_block (block_at a b)) (sym (eq-eqb b c e))

      there : (b ≡ c → ⊥) → cond (member b bs) free_block (block_at (freed_at c a) b) ≡ cond (eqb b c || member b bs) free_block (block_at a b)
      there w =
          ap (cond (member b bs) free_block) (put_other a free_block n c long h.0 free_length b l (λ e. w (sym e)))
          ∙ ap (λ t. cond (t || member b bs) free_block (block_at a b)) (sym (ne_eqb b c w))

-- ---- an entry removed
-- free, and sound in an area of n blocks
abbrev free_in : ℕ → List ℕ → Bool
free_in n x = eqb (block_kind x) free_kind && is_sound n x

module _ (a : List ℕ) (whole : whole_blocks a ≡ true) (number : ℕ) (bs : List ℕ) (e : Entry) (here : look a number ≡ present bs e) where
  removes : remove_after a number ≡ replaced (freed bs) a
  unfolding removing
  removes = ap (removed_from a) (pick_true (whole_blocks a) (removed (look a number)) (refuses 26 0) whole ∙ ap removed here)

  inside : Each (λ b. b < blocks_in a) bs
  inside = each_one (λ b. (b < blocks_in a) × (bears a number b ≡ true)) (λ b. b < blocks_in a) (λ b h. h.0) bs (present_inside a number bs e here)

  pub removed_length : length (remove_after a number) ≡ length a
  removed_length = ap length removes ∙ freed_length (blocks_in a) bs a (whole_length a whole) inside

  removed_many : blocks_in (remove_after a number) ≡ blocks_in a
  removed_many = ap (λ k. k / block_size) removed_length

  pub removed_block : (b : ℕ) → b < blocks_in a → block_at (remove_after a number) b ≡ cond (member b bs) free_block (block_at a b)
  removed_block b l = ap (λ o. block_at o b) removes ∙ freed_block (blocks_in a) bs a (whole_length a whole) inside b l

  -- block by block: free now where it was free or the entry's
  removed_free : (b : ℕ) → b < blocks_in a → is_free (remove_after a number) b ≡ free_in (blocks_in a) (cond (member b bs) free_block (block_at a b))
  unfolding is_free sound_at
  removed_free b l = ap₂ free_in removed_many (removed_block b l)

  its_own : (b : ℕ) → b < blocks_in a → member b bs ≡ true → is_free (remove_after a number) b ≡ true
  its_own b l m =
      removed_free b l ∙ ap (free_in (blocks_in a)) (pick_true (member b bs) free_block (block_at a b) m)
      ∙ both _ _ (eq-eqb (block_kind free_block) free_kind free_kind_lem) (free_sound (blocks_in a))

  any_other : (b : ℕ) → b < blocks_in a → member b bs ≡ false → is_free (remove_after a number) b ≡ is_free a b
  unfolding is_free sound_at
  any_other b l m = removed_free b l ∙ ap (free_in (blocks_in a)) (pick_false (member b bs) free_block (block_at a b) m)

  pub freed_again : (b : ℕ) → In b (frees (remove_after a number)) ↔ (In b (frees a) ⊎ In b bs)
  freed_again b = (from, ⊎_elim was own)
    where
      from : In b (frees (remove_after a number)) → In b (frees a) ⊎ In b bs
      from h =
          let z = (exactly_frees (remove_after a number) b).0 h in
          let l : b < blocks_in a = omega (arith, z.0, removed_many) in
          by_test (member b bs) (λ m. inr (member_in b bs m)) (λ m. inl ((exactly_frees a b).1 (l, sym (any_other b l m) ∙ z.1)))

      free_now : b < blocks_in a → is_free (remove_after a number) b ≡ true → In b (frees (remove_after a number))
      free_now l f = (exactly_frees (remove_after a number) b).1 (omega (arith, removed_many), f)

      own : In b bs → In b (frees (remove_after a number))
      own h = let l : b < blocks_in a = each_in (λ c. c < blocks_in a) bs b h inside in free_now l (its_own b l (in_member b bs h))

      was : In b (frees a) → In b (frees (remove_after a number))
      was h =
          let z = (exactly_frees a b).0 h in
          free_now z.0 (by_test (member b bs) (λ m. its_own b z.0 m) (λ m. any_other b z.0 m ∙ z.1))
