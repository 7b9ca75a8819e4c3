-- "After one byte changes, the entries with no block touched are fetched as before and the touched one is refused." The change makes another
-- one of the sum of the block's first bytes or of the number that its last four stand for, and never of both. So the block is no longer sound; Broken has the rest.
use Rattle.std.specs.Prelude.{ℕ, ◌/◌, ◌%◌, ◌<◌, ◌≡◌, refl, false, cond, List, get_or, set}
use Rattle.std.proofs.Common.{sym, ap, ◌∙◌, subst, ⊎_elim, mod-lt, arith, eqb-true, length-set}
use Rattle.std.proofs.Math.Bool.{true}
use Rattle.std.proofs.Math.Nat.{div-add-mod}
use Rattle.std.proofs.Math.ListN.{length}
use Rattle.scope.specs.Bytes.{byte_limit}
use Rattle.scope.specs.Limits.{block_size}
use Rattle.scope.specs.Lists.{member}
use Rattle.scope.specs.Answers.{refuses}
use Rattle.basics.specs.Choice.{pick_true, through}
use Rattle.basics.specs.Each.{Each}
use Rattle.basics.specs.Tests.{and_left, below?, falsely}
use Rattle.basics.specs.Tabled.{all_tabled}
use Rattle.blocks.specs.Block.{sum_at, is_sound}
use Rattle.blocks.specs.Area.{blocks_in, whole_blocks, block_at, sound_at, all_sound}
use Rattle.blocks.specs.Entry.{Entry, Looked, absent, damaged, present, look}
use Rattle.blocks.specs.Answers.{fetched, fetch_said}
use Rattle.area_laws.specs.Areas.{whole_length, inside_length, block_get, set_whole, set_there, set_elsewhere}
use Rattle.block_laws.specs.Broken.{Broken, absent_broken, present_broken}
use Rattle.block_laws.specs.Laws.{OneByteLaw}
use Rattle.block_laws.specs.OneByte.{Summed, in_front_lem, behind}

-- ---- one block
sound_summed : (n : ℕ) (x : List ℕ) → is_sound n x ≡ true → Summed x
unfolding is_sound
sound_summed n x e = eqb-true _ _ (and_left _ _ e)

module _ (x : List ℕ) (r c : ℕ) (long : length x ≡ block_size) (inside : r < block_size) (was : Summed x) (is : Summed (set x r c)) where
  -- equal bytes
  summed_both : c ≡ get_or x r 0
  summed_both = ⊎_elim (in_front_lem x r c long inside was is) (behind x r c long inside was is) (below? r sum_at)

-- ---- an area
module _ (a : List ℕ) (sound : all_sound a ≡ true) (i c : ℕ) (other : c ≡ get_or a i 0 → ⊥) where
  changed_byte : c ≡ get_or (block_at a (i / block_size)) (i % block_size) 0 → ⊥
  changed_byte e =
      other (e ∙ block_get a (i / block_size) (i % block_size) (mod-lt i (omega arith)) ∙ ap (λ k. get_or a k 0) (div-add-mod i block_size))

  changed_unsound : i / block_size < blocks_in a → sound_at (set a i c) (i / block_size) ≡ false
  unfolding sound_at all_sound
  changed_unsound l =
      let long : length (block_at a (i / block_size)) ≡ block_size = inside_length a (i / block_size) l in
      let was : sound_at a (i / block_size) ≡ true = all_tabled (sound_at a) 0 (blocks_in a) sound (i / block_size) (omega arith) (omega arith) in
      falsely (is_sound (blocks_in (set a i c)) (block_at (set a i c) (i / block_size)))
      (λ e.
      changed_byte
      (summed_both (block_at a (i / block_size)) (i % block_size) c long (mod-lt i (omega arith)) (sound_summed (blocks_in a) _ was)
      (subst Summed (set_there a i c) (sound_summed (blocks_in (set a i c)) _ e))))

  broken : Broken a (set a i c) (i / block_size)
  broken = record { long = length-set a i c; elsewhere = set_elsewhere a i c; unsound = changed_unsound }

  pub changed_present :
      (n : ℕ) (bs : List ℕ) (e : Entry) → look a n ≡ present bs e → look (set a i c) n ≡ cond (member (i / block_size) bs) damaged (present bs e)
  changed_present n bs e h = present_broken broken n bs e h

  pub changed_absent : i / block_size < blocks_in a → (n : ℕ) → look a n ≡ absent → look (set a i c) n ≡ damaged
  changed_absent l n h = absent_broken broken n l h

-- fetching answers by what is found
fetch_by : (x : List ℕ) (n : ℕ) (k : Looked) (room : ℕ) → whole_blocks x ≡ true → look x n ≡ k → fetch_said x n room ≡ fetched k room
unfolding fetch_said
fetch_by x n k room w e = pick_true (whole_blocks x) (fetched (look x n) room) (refuses 26 0) w ∙ ap (λ z. fetched z room) e

-- ---- the laws, of an area of bytes
module _
    (a : List ℕ)
    (whole : whole_blocks a ≡ true)
    (sound : all_sound a ≡ true)
    (bytes : Each (λ b. b < byte_limit) a)
    (i c : ℕ)
    (inside : i < length a)
    (byte : c < byte_limit)
    (other : c ≡ get_or a i 0 → ⊥)
    (n : ℕ)
  where
    pub one_byte : (bs : List ℕ) (e : Entry) → look a n ≡ present bs e → look (set a i c) n ≡ cond (member (i / block_size) bs) damaged (present bs e)
    one_byte bs e h = changed_present a sound i c other n bs e h

    pub one_byte_absent : look a n ≡ absent → look (set a i c) n ≡ damaged
    one_byte_absent h = changed_absent a sound i c other (omega (arith, whole_length a whole)) n h

    pub one_byte_fetch :
        (bs : List ℕ) (e : Entry) → look a n ≡ present bs e → (room : ℕ)
        → fetch_said (set a i c) n room ≡ cond (member (i / block_size) bs) (refuses 25 0) (fetch_said a n room)
    one_byte_fetch bs e h room =
        fetch_by (set a i c) n _ room (set_whole a i c ∙ whole) (one_byte bs e h)
        ∙ through (λ k. fetched k room) (member (i / block_size) bs) refl (sym (fetch_by a n _ room whole h))

pub one_byte_law : OneByteLaw
one_byte_law a whole sound bytes i c inside byte other n =
    record {
      one_byte = one_byte a whole sound bytes i c inside byte other n;
      one_byte_fetch = one_byte_fetch a whole sound bytes i c inside byte other n;
      one_byte_absent = one_byte_absent a whole sound bytes i c inside byte other n;
    }
