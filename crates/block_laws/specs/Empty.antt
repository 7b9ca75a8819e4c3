-- An empty area: each of its blocks is the free block, so all are sound and free, and nothing is found under any number.
use Prim.Native.Nat.{ℕ, zero, suc, ◌+◌, ◌*◌, ◌<◌}
use native.Mathlib.Omega.{arith}
use Rattle.std.specs.Prelude.{◌≡◌, true, List, ◌++◌, eqb, drop}
use Rattle.std.proofs.Math.Path.{ap}
use Rattle.std.proofs.Common.{◌∙◌, eq-eqb}
use Rattle.std.proofs.Math.ListN.{length, take}
use Rattle.std.proofs.Math.Seq.{take_at, drop-append-add}
use Rattle.scope.specs.Limits.{block_size}
use Rattle.basics.specs.Each.{each_append}
use Rattle.basics.specs.Tabled.{keep_none}
use Rattle.basics.specs.Tests.{both}
use Rattle.accepted_laws.specs.Within.{Byte}
use Rattle.blocks.specs.Block.{free_kind, block_kind, is_sound, free_block}
use Rattle.blocks.specs.Area.{blocks_in, block_at, sound_at, all_sound, is_free, frees, times}
use Rattle.blocks.specs.Entry.{absent, look}
use Rattle.area_laws.specs.Areas.{times_length}
use Rattle.area_laws.specs.Fields.{free_length, free_kind_lem, free_sound, free_bytes}
use Rattle.block_laws.specs.Counting.{counted_all}
use Rattle.block_laws.specs.Written.{Bytes}
use Rattle.block_laws.specs.Looks.{begins, firsts_below, frees_below, each_sound, none_absent}
use Rattle.block_laws.specs.Outside.{free_begins}

-- ---- so many times a block
module _ (x : List ℕ) (whole : length x ≡ block_size) where
  times_at : (k b : ℕ) → b < k → block_at (times k x) b ≡ x
  unfolding times block_at
  times_at zero b h = absurd (omega arith)
  times_at (suc k) zero h = take_at x (times k x) block_size whole
  times_at (suc k) (suc b) h =
      let e : block_size * suc b ≡ length x + block_size * b = omega arith in
      ap (λ n. take block_size (drop n (x ++ times k x))) e ∙ ap (take block_size) (drop-append-add x (times k x) (block_size * b)) ∙ times_at k b (omega arith)

  times_bytes : (k : ℕ) → Bytes x → Bytes (times k x)
  unfolding times
  times_bytes zero h = tt
  times_bytes (suc k) h = each_append Byte x (times k x) h (times_bytes k h)

-- ---- the free block
module _ (k : ℕ) where
  pub empty_long : length (times k free_block) ≡ block_size * k
  empty_long = times_length k free_block free_length

  pub empty_at : (b : ℕ) → b < k → block_at (times k free_block) b ≡ free_block
  empty_at b h = times_at free_block free_length k b h

  pub empty_bytes : Bytes (times k free_block)
  empty_bytes = times_bytes free_block free_length k free_bytes

  sound_at_lem : (b : ℕ) → b < k → sound_at (times k free_block) b ≡ true
  unfolding sound_at
  sound_at_lem b h = ap (is_sound (blocks_in (times k free_block))) (empty_at b h) ∙ free_sound (blocks_in (times k free_block))

  kind_at : (b : ℕ) → b < k → block_kind (block_at (times k free_block) b) ≡ free_kind
  kind_at b h = ap block_kind (empty_at b h) ∙ free_kind_lem

  free_at : (b : ℕ) → b < k → is_free (times k free_block) b ≡ true
  unfolding is_free
  free_at b h =
      both (eqb (block_kind (block_at (times k free_block) b)) free_kind) (sound_at (times k free_block) b)
      (eq-eqb (block_kind (block_at (times k free_block) b)) free_kind (kind_at b h)) (sound_at_lem b h)

  pub empty_sound : all_sound (times k free_block) ≡ true
  empty_sound = each_sound (times k free_block) k empty_long sound_at_lem

  pub empty_absent : (number : ℕ) → look (times k free_block) number ≡ absent
  empty_absent number =
      none_absent (times k free_block) number
      (firsts_below (times k free_block) k empty_long number
      ∙ keep_none (begins (times k free_block) number) 0 k (λ b i h. free_begins (times k free_block) b (kind_at b (omega arith)) number))
      empty_sound

  pub empty_frees : length (frees (times k free_block)) ≡ k
  empty_frees = ap length (frees_below (times k free_block) k empty_long) ∙ counted_all (is_free (times k free_block)) k free_at
