-- What is found under a number, by its first blocks: nothing where there is none and all blocks are sound; an entry where there is one, and its first block is the
-- only one.
use Rattle.std.specs.Prelude.{ℕ, ◌*◌, ◌<◌, ◌≡◌, refl, Bool, true, false, cond, ◌&&◌, List, [], ◌∷◌, length}
use Rattle.std.proofs.Common.{arith, sym, ◌∙◌}
use Rattle.std.proofs.Math.Path.{ap}
use Rattle.scope.specs.Lists.{all, keep, tabled, member}
use Rattle.scope.specs.Limits.{block_size}
use Rattle.basics.specs.Each.{In}
use Rattle.basics.specs.Tabled.{all_tabled}
use Rattle.basics.specs.Tests.{both_of}
use Rattle.blocks.specs.Block.{is_first, block_kind}
use Rattle.blocks.specs.Area.{blocks_in, block_at, sound_at, all_sound, carries, firsts, is_free, frees}
use Rattle.blocks.specs.Entry.{Entry, absent, damaged, present, look}
use Rattle.area_laws.specs.Areas.{blocks_many}
use Rattle.block_laws.specs.Looking.{firsts_in, look_nothing, found, none_first}
use Rattle.block_laws.specs.Broken.{chain_first}
use Rattle.block_laws.specs.Counting.{all_below_lem}

-- block b is a sound first block of the entry
abbrev pub begins : List ℕ → ℕ → ℕ → Bool
begins a number b = is_first (block_kind (block_at a b)) && carries a number b

-- ---- in an area of k blocks
module _ (a : List ℕ) (k : ℕ) (long : length a ≡ block_size * k) where
  pub firsts_below : (number : ℕ) → firsts a number ≡ keep (begins a number) (tabled (λ b. b) 0 k)
  unfolding firsts
  firsts_below number = ap (λ n. keep (begins a number) (tabled (λ b. b) 0 n)) (blocks_many a k long)

  pub first_among : (number b : ℕ) → b < k → begins a number b ≡ true → In b (firsts a number)
  first_among number b h e =
      let z = both_of (is_first (block_kind (block_at a b))) (carries a number b) e in
      firsts_in a number b (record { inside = omega (arith, blocks_many a k long); first = z.0; mine = z.1 })

  pub frees_below : frees a ≡ keep (is_free a) (tabled (λ b. b) 0 k)
  unfolding frees
  frees_below = ap (λ n. keep (is_free a) (tabled (λ b. b) 0 n)) (blocks_many a k long)

  sounds_below : all_sound a ≡ all (sound_at a) (tabled (λ b. b) 0 k)
  unfolding all_sound
  sounds_below = ap (λ n. all (sound_at a) (tabled (λ b. b) 0 n)) (blocks_many a k long)

  pub sound_each : all_sound a ≡ true → (b : ℕ) → b < k → sound_at a b ≡ true
  sound_each e b h = all_tabled (sound_at a) 0 k (sym sounds_below ∙ e) b (omega arith) (omega arith)

  pub each_sound : ((b : ℕ) → b < k → sound_at a b ≡ true) → all_sound a ≡ true
  each_sound h = sounds_below ∙ all_below_lem (sound_at a) k h

-- ---- nothing
pub none_absent : (a : List ℕ) (number : ℕ) → firsts a number ≡ [] → all_sound a ≡ true → look a number ≡ absent
none_absent a number e s = look_nothing a number e ∙ ap (λ t. cond t absent damaged) s

pub absent_sound : (a : List ℕ) (number : ℕ) → look a number ≡ absent → all_sound a ≡ true
absent_sound a number e = go (all_sound a) (sym (look_nothing a number (none_first a number e)) ∙ e)
  where
    go : (t : Bool) → cond t absent damaged ≡ absent → t ≡ true
    go true f = refl
    go false f = let z : ◌≡◌ {A = ℕ} 0 1 = cc in absurd (omega arith)

-- ---- an entry
pub record Begun (a : List ℕ) (number : ℕ) (bs : List ℕ) : Type 0 where
  pub first : ℕ
  pub only : firsts a number ≡ first ∷ []
  pub among : member first bs ≡ true

pub present_begun : (a : List ℕ) (number : ℕ) (bs : List ℕ) (e : Entry) → look a number ≡ present bs e → Begun a number bs
present_begun a number bs e h =
    let p = found a number bs e h in
    record {
      first = p.first;
      only = p.only;
      among = ap (member p.first) p.blocks ∙ chain_first a number (blocks_in a) (block_kind (block_at a p.first)) p.first p.chain p.follows;
    }
