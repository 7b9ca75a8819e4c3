-- Two areas of as many blocks that differ in some blocks only: what is said of another block is the same in both; and under a number that none of these blocks
-- bears, in the one or the other, the same is found.
use Rattle.std.specs.Prelude.{ℕ, ◌*◌, ◌<◌, ◌≡◌, ◌⊎◌, true, false, ◌||◌, List, length}
use Rattle.std.proofs.Common.{arith, ap, ◌∙◌, inl, inr, true≢false, eqb-true}
use Rattle.std.proofs.Math.Path.{sym, ap₂}
use Rattle.std.proofs.Math.Bool.{◌&&◌}
use Rattle.std.proofs.Math.Dec.{eqb}
use Rattle.scope.specs.Lists.{member}
use Rattle.scope.specs.Limits.{block_size}
use Rattle.basics.specs.Tests.{and_left, test}
use Rattle.blocks.specs.Block.{free_kind, further_kind, is_first, block_kind, entry_number, is_sound}
use Rattle.blocks.specs.Area.{blocks_in, block_at, sound_at, all_sound, carries, is_free}
use Rattle.blocks.specs.Entry.{look}
use Rattle.block_laws.specs.Apart.{bears, look_alike}
use Rattle.area_laws.specs.Areas.{blocks_many}
use Rattle.block_laws.specs.Looks.{begins}

-- ---- a block that is the same
module _ (k : ℕ) (a o : List ℕ) (long : length a ≡ block_size * k) (too : length o ≡ block_size * k) (b : ℕ) (same : block_at a b ≡ block_at o b) where
  pub same_sound : sound_at a b ≡ sound_at o b
  unfolding sound_at
  same_sound = ap₂ is_sound (blocks_many a k long ∙ sym (blocks_many o k too)) same

  pub same_carries : (number : ℕ) → carries a number b ≡ carries o number b
  unfolding carries
  same_carries number = ap₂ ◌&&◌ (ap (λ x. eqb (entry_number x) number) same) same_sound

  pub same_free : is_free a b ≡ is_free o b
  unfolding is_free
  same_free = ap₂ ◌&&◌ (ap (λ x. eqb (block_kind x) free_kind) same) same_sound

  pub same_begins : (number : ℕ) → begins a number b ≡ begins o number b
  same_begins number = ap₂ ◌&&◌ (ap (λ x. is_first (block_kind x)) same) (same_carries number)

  pub same_bears : (number : ℕ) → bears a number b ≡ bears o number b
  same_bears number = ap₂ ◌&&◌ (ap (λ x. is_first (block_kind x) || eqb (block_kind x) further_kind) same) (same_carries number)

-- ---- a free block bears no number
pub free_kind_of : (a : List ℕ) (b : ℕ) → is_free a b ≡ true → block_kind (block_at a b) ≡ free_kind
unfolding is_free
free_kind_of a b e = eqb-true (block_kind (block_at a b)) free_kind (and_left (eqb (block_kind (block_at a b)) free_kind) (sound_at a b) e)

pub free_begins : (a : List ℕ) (b : ℕ) → block_kind (block_at a b) ≡ free_kind → (number : ℕ) → begins a number b ≡ false
free_begins a b e number = ap (λ x. is_first x && carries a number b) e

pub free_bears : (a : List ℕ) (b : ℕ) → block_kind (block_at a b) ≡ free_kind → (number : ℕ) → bears a number b ≡ false
free_bears a b e number = ap (λ x. (is_first x || eqb x further_kind) && carries a number b) e

-- ---- under another number
pub look_outside :
    (k : ℕ) (a o : List ℕ) → length a ≡ block_size * k → length o ≡ block_size * k → all_sound a ≡ true → all_sound o ≡ true → (bs : List ℕ)
    → ((b : ℕ) → b < k → member b bs ≡ false → block_at a b ≡ block_at o b) → (number : ℕ)
    → ((b : ℕ) → member b bs ≡ true → (bears a number b ≡ false) × (bears o number b ≡ false)) → look a number ≡ look o number
look_outside k a o long too s t bs same number none =
    look_alike (record { long = long ∙ sym too; sound = s ∙ sym t; mine = λ b h. mine b (inside b h) (test (member b bs)); alike = λ b h e. alike b (inside b h) e (test (member b bs)) })
  where
    inside : (b : ℕ) → b < blocks_in a → b < k
    inside b h = omega (arith, blocks_many a k long)

    mine : (b : ℕ) → b < k → (member b bs ≡ true) ⊎ (member b bs ≡ false) → bears a number b ≡ bears o number b
    mine b h (inl m) = let z = none b m in z.0 ∙ sym z.1
    mine b h (inr m) = same_bears k a o long too b (same b h m) number

    alike : (b : ℕ) → b < k → bears a number b ≡ true → (member b bs ≡ true) ⊎ (member b bs ≡ false) → block_at a b ≡ block_at o b
    alike b h e (inl m) = absurd (true≢false (sym e ∙ (none b m).0))
    alike b h e (inr m) = same b h m
