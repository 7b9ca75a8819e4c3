-- The laws of the register kept in blocks (02, L5), over its definitions.
use Rattle.std.specs.Prelude.{ℕ, ◌-◌, ◌/◌, ◌^◌, ◌≤◌, ◌<◌, ◌≡◌, ◌⊎◌, ◌↔◌, true, cond, List, length, get_or, take, set}
use Rattle.std.proofs.Math.Option.{some}
use Rattle.scope.specs.Bytes.{byte_limit}
use Rattle.scope.specs.Limits.{block_size}
use Rattle.scope.specs.Lists.{member}
use Rattle.scope.specs.Answers.{good, refuses}
use Rattle.scope.specs.Placements.{distinct}
use Rattle.basics.specs.Each.{Each, In}
use Rattle.placement_laws.specs.Terms.{Rising}
use Rattle.blocks.specs.LowFirst.{little, low_first}
use Rattle.blocks.specs.Block.{content_room, sum_at, sum_size, no_next, entry_number, weight, is_sound, free_block, entry_block}
use Rattle.blocks.specs.Area.{blocks_in, whole_blocks, block_at, all_sound, is_free, frees}
use Rattle.blocks.specs.Chain.{Chain, follow}
use Rattle.blocks.specs.Entry.{Entry, absent, damaged, present, look}
use Rattle.blocks.specs.Answers.{fetch_said, remove_after, placing, is_head, listed_from}
use Rattle.area_laws.specs.LowFirst as lows
use Rattle.area_laws.specs.Fields as fields
use Rattle.block_laws.specs.Apart as apart
use Rattle.block_laws.specs.Taken as taken
use Rattle.block_laws.specs.Freed as frees-again
use Rattle.block_laws.specs.Listing as listing
use Rattle.block_laws.specs.Listing.{FirstOf, NoneOf}
use Rattle.blocks.specs.declared.Listed.{Listed}

-- ---- one block
-- "low bytes first": a number that its bytes have room for is read as it was written
pub reads_number : (w n : ℕ) → n < byte_limit ^ w → little (low_first w n) ≡ n
reads_number w n h = lows.little_low w n h

-- "The last four, low first, are the sum": four bytes hold the sum of the others
pub sum_fits : (l : List ℕ) → length l ≡ sum_at → Each (λ b. b < byte_limit) l → weight 0 l < byte_limit ^ sum_size
sum_fits l long bytes = fields.sum_fits l long bytes

-- "A block is sound when this holds for it and its next is in the area or 255": what is written is
pub entry_sound :
    (kind number next : ℕ) (c : List ℕ) → length c ≤ content_room → (n : ℕ) → kind < byte_limit → next < byte_limit → Each (λ b. b < byte_limit) c
    → (next ≡ no_next) ⊎ (next < n) → is_sound n (entry_block kind number next c) ≡ true
entry_sound kind number next c fits n h k e w = fields.entry_sound kind number next c fits n h k e w

pub free_sound : (n : ℕ) → is_sound n free_block ≡ true
free_sound n = fields.free_sound n

-- ---- entries
-- what is found under a number depends only on the blocks of entries that bear it, and on whether all blocks are sound
pub look_alike : {a o : List ℕ} {number : ℕ} → apart.Alike a o number → look a number ≡ look o number
look_alike h = apart.look_alike h

-- no chain that is followed to its end meets "a block twice"
pub no_block_twice : (steps : ℕ) (a : List ℕ) (number kind b : ℕ) (t : Chain) → follow steps a number kind b ≡ some t → distinct t.blocks ≡ true
no_block_twice steps a number kind b t e = apart.follow_distinct steps a number kind b t e

-- entries under two numbers share no block
pub share_none :
    (a : List ℕ) (m n : ℕ) (bs cs : List ℕ) (e f : Entry) → look a m ≡ present bs e → look a n ≡ present cs f → (m ≡ n → ⊥)
    → (b : ℕ) → In b bs → In b cs → ⊥
share_none a m n bs cs e f first second other b h k = taken.share_none a m n bs cs e f first second other b h k

-- ---- "Blocks are taken lowest free first"
-- the free sound blocks, ascending
pub exactly_frees : (a : List ℕ) (b : ℕ) → In b (frees a) ↔ ((b < blocks_in a) × (is_free a b ≡ true))
exactly_frees a b = taken.exactly_frees a b

pub frees_ascend : (a : List ℕ) → Rising (frees a)
frees_ascend a = taken.frees_ascend a

-- as many as are needed, from the front; those that are left stand above all of them
module _ (a : List ℕ) (number need : ℕ) (bs : List ℕ) (placed : placing a number need ≡ good bs) where
  pub lowest_first : bs ≡ take need (frees a)
  lowest_first = taken.lowest_first a number need bs placed

  pub as_many : length bs ≡ need
  as_many = taken.as_many a number need bs placed

  pub left_above : (x : ℕ) → In x (frees a) → (In x bs → ⊥) → (b : ℕ) → In b bs → b < x
  left_above x h w b k = taken.left_above a number need bs placed x h w b k

-- "freed ones again"
pub freed_again :
    (a : List ℕ) → whole_blocks a ≡ true → (number : ℕ) (bs : List ℕ) (e : Entry) → look a number ≡ present bs e
    → (b : ℕ) → In b (frees (remove_after a number)) ↔ (In b (frees a) ⊎ In b bs)
freed_again a whole number bs e h b = frees-again.freed_again a whole number bs e h b

-- ---- "Copies must show which entries survived": the listing
-- from a block on, the first sound first block, with the number in it; or 17 where there is none
pub listed_next :
    (a : List ℕ) (from : ℕ) (h : Listed) → listed_from a from ≡ good h
    → FirstOf (is_head a) from (blocks_in a - from) h.block × (h.number ≡ entry_number (block_at a h.block))
listed_next a from h e = listing.listed_next a from h e

pub listed_none : (a : List ℕ) (from : ℕ) → listed_from a from ≡ refuses 17 0 → NoneOf (is_head a) from (blocks_in a - from)
listed_none a from e = listing.listed_none a from e

-- every entry that is found begins in a block that is handed out
pub listed_found :
    (a : List ℕ) (n : ℕ) (bs : List ℕ) (e : Entry) → whole_blocks a ≡ true → look a n ≡ present bs e
    → (b : ℕ) × ((is_head a b ≡ true) × (listed_from a b ≡ good (record { block = b; number = n })))
listed_found a n bs e whole there = listing.listed_found a n bs e whole there

-- ---- "After one byte changes": at i to another byte c, of what bears the number n
pub record OneByte (a : List ℕ) (i c n : ℕ) : Type 0 where
  -- "the entries with no block touched are fetched as before and the touched one is refused"
  pub one_byte : (bs : List ℕ) (e : Entry) → look a n ≡ present bs e → look (set a i c) n ≡ cond (member (i / block_size) bs) damaged (present bs e)
  pub one_byte_fetch :
      (bs : List ℕ) (e : Entry) → look a n ≡ present bs e → (room : ℕ)
      → fetch_said (set a i c) n room ≡ cond (member (i / block_size) bs) (refuses 25 0) (fetch_said a n room)
  -- 25 "when no sound first block has it while some block is unsound": also of a number that has no entry
  pub one_byte_absent : look a n ≡ absent → look (set a i c) n ≡ damaged

-- in an area of sound blocks. Proof: OneByteLaws of proofs/
abbrev pub OneByteLaw : Type 0
OneByteLaw =
    (a : List ℕ)
    (whole : whole_blocks a ≡ true)
    (sound : all_sound a ≡ true)
    (bytes : Each (λ b. b < byte_limit) a)
    (i c : ℕ)
    (inside : i < length a)
    (byte : c < byte_limit)
    (other : c ≡ get_or a i 0 → ⊥)
    (n : ℕ)
    → OneByte a i c n
