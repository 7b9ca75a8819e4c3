-- One block of an area is no longer sound, and no other block changes. An entry whose first block it was has no sound first block, so that it is damaged; one whose
-- chain meets it is damaged there; any other has the first block and the chain that it had.
use Rattle.std.specs.Prelude.{ℕ, zero, suc, ◌/◌, ◌<◌, ◌≡◌, refl, Bool, true, cond, ◌&&◌, ◌||◌, List, [], ◌∷◌, length}
use Rattle.std.proofs.Math.Path.{sym, ap, ap₂}
use Rattle.std.proofs.Common.{◌∙◌, subst, arith}
use Rattle.std.proofs.Math.Logic.{⊎_elim}
use Rattle.std.proofs.Math.Bool.{false, true≢false}
use Rattle.std.proofs.Math.Option.{none, some}
use Rattle.std.proofs.lemmas.Bool.{eqb-false}
use Rattle.std.proofs.Math.Dec.{eqb}
use Rattle.scope.specs.Limits.{block_size}
use Rattle.scope.specs.Lists.{all, member, keep, tabled, optional}
use Rattle.basics.specs.Choice.{by_test, pick_true, pick_false}
use Rattle.basics.specs.Each.{In, each_in}
use Rattle.basics.specs.Tests.{and_left, and_right, or_left, or_right, same?, falsely}
use Rattle.basics.specs.Members.{member_in, member_here, member_cons, member_none}
use Rattle.basics.specs.Tabled.{keep_as, keep_none, all_tabled}
use Rattle.blocks.specs.Block.{content_room, further_kind, is_first, block_kind, used_length, next_block, entry_number, is_last, is_padded, is_sound}
use Rattle.blocks.specs.Area.{blocks_in, block_at, sound_at, all_sound, carries, firsts}
use Rattle.blocks.specs.Chain.{Chain, links, before, alone, follow}
use Rattle.blocks.specs.Entry.{Entry, absent, damaged, present, is_stated, entry_in, look}
use Rattle.block_laws.specs.Following.{carries_sound, links_carries, follow_no, follow_last, follow_more, Follows, ends, goes, followed, no_steps}
use Rattle.block_laws.specs.Looking.{First, firsts_in, Present, found, none_first, look_nothing, look_broken, look_found}
use Rattle.block_laws.specs.Apart.{bears, present_inside}

not_member : (x y : ℕ) (l : List ℕ) → member x (y ∷ l) ≡ false → (y ≡ x → ⊥) × (member x l ≡ false)
unfolding member
not_member x y l e = ((λ z. eqb-false x y (or_left (eqb x y) (member x l) e) (sym z)), or_right (eqb x y) (member x l) e)

-- a chain begins with the block that it is followed from
pub chain_first : (a : List ℕ) (number n kind b : ℕ) (t : Chain) → follow n a number kind b ≡ some t → member b t.blocks ≡ true
chain_first a number zero kind b t e = no_steps a number kind b t e
chain_first a number (suc n) kind b t e = go (followed a number n kind b t e)
  where
    go : Follows a number n kind b t → member b t.blocks ≡ true
    go (ends i j k) = ap (λ u. member b u.blocks) k ∙ member_here b b [] refl
    go (goes s i j r k) = ap (λ u. member b u.blocks) k ∙ member_here b b s.blocks refl

-- block b of an area is a sound first block of the number
abbrev is_one : ℕ → List ℕ → ℕ → Bool
is_one number x b = is_first (block_kind (block_at x b)) && carries x number b

pub record Broken (a o : List ℕ) (q : ℕ) : Type 0 where
  pub long : length o ≡ length a
  pub elsewhere : (b : ℕ) → (b ≡ q → ⊥) → block_at o b ≡ block_at a b
  pub unsound : q < blocks_in a → sound_at o q ≡ false

module _ {a o : List ℕ} {q : ℕ} (h : Broken a o q) where
  many : blocks_in o ≡ blocks_in a
  many = ap (λ n. n / block_size) h.long

  -- ---- the area is not sound
  pub not_sound : q < blocks_in a → all_sound o ≡ false
  unfolding all_sound
  not_sound l =
      falsely (all (sound_at o) (tabled (λ b. b) 0 (blocks_in o)))
      (λ e. true≢false (sym (all_tabled (sound_at o) 0 (blocks_in o) e q (omega arith) (omega (arith, many))) ∙ h.unsound l))

  module _ (number : ℕ) where
    -- ---- block by block
    carries_elsewhere : (b : ℕ) → (b ≡ q → ⊥) → carries o number b ≡ carries a number b
    unfolding carries sound_at
    carries_elsewhere b w = ap₂ (λ n x. eqb (entry_number x) number && is_sound n x) many (h.elsewhere b w)

    not_carried : q < blocks_in a → carries o number q ≡ false
    not_carried l = falsely (carries o number q) (λ e. true≢false (sym (carries_sound o number q e) ∙ h.unsound l))

    links_elsewhere : (kind b : ℕ) → (b ≡ q → ⊥) → links o number kind b ≡ links a number kind b
    unfolding links
    links_elsewhere kind b w =
        ap₂ (λ x t. eqb (block_kind x) kind && t && is_padded x && (is_last x || eqb (used_length x) content_room)) (h.elsewhere b w) (carries_elsewhere b w)

    not_linked : (kind : ℕ) → q < blocks_in a → links o number kind q ≡ false
    not_linked kind l = falsely (links o number kind q) (λ e. true≢false (sym (links_carries o number kind q e) ∙ not_carried l))

    -- ---- first blocks
    one_elsewhere : (b : ℕ) → (b ≡ q → ⊥) → is_one number o b ≡ is_one number a b
    one_elsewhere b w = ap₂ (λ x t. is_first (block_kind x) && t) (h.elsewhere b w) (carries_elsewhere b w)

    not_one : q < blocks_in a → is_one number o q ≡ false
    not_one l = falsely (is_one number o q) (λ e. true≢false (sym (and_right (is_first (block_kind (block_at o q))) (carries o number q) e) ∙ not_carried l))

    is_first_lem : (b : ℕ) → b < blocks_in a → is_one number a b ≡ true → First a number b
    is_first_lem b l e =
        record {
          inside = l;
          first = and_left (is_first (block_kind (block_at a b))) (carries a number b) e;
          mine = and_right (is_first (block_kind (block_at a b))) (carries a number b) e;
        }

    -- where it was none of the number
    pub firsts_kept : (First a number q → ⊥) → firsts o number ≡ firsts a number
    unfolding firsts
    firsts_kept none_here =
        ap (λ n. keep (is_one number o) (tabled (λ b. b) 0 n)) many
        ∙ keep_as (is_one number o) (is_one number a) 0 (blocks_in a) (λ b j l. ⊎_elim (λ e. here b e (omega arith)) (λ w. one_elsewhere b w) (same? b q))
      where
        here : (b : ℕ) → b ≡ q → b < blocks_in a → is_one number o b ≡ is_one number a b
        here b e l =
            ap (is_one number o) e ∙ not_one (omega arith)
            ∙ sym (falsely (is_one number a b) (λ z. none_here (subst (First a number) e (is_first_lem b l z))))

    -- where it was the only one
    pub firsts_gone : firsts a number ≡ q ∷ [] → firsts o number ≡ []
    unfolding firsts
    firsts_gone only =
        keep_none (is_one number o) 0 (blocks_in o) (λ b j l. ⊎_elim (λ e. ap (is_one number o) e ∙ not_one (omega (arith, many))) (λ w. one_elsewhere b w ∙ other b w (omega (arith, many))) (same? b q))
      where
        other : (b : ℕ) → (b ≡ q → ⊥) → b < blocks_in a → is_one number a b ≡ false
        other b w l =
            falsely (is_one number a b)
            (λ z. ⊎_elim (λ e. w e) (λ e. absurd e) (subst (In b) only (firsts_in a number b (is_first_lem b l z))))

    -- ---- chains
    last_elsewhere :
        (n kind b : ℕ) → (b ≡ q → ⊥) → links a number kind b ≡ true → is_last (block_at a b) ≡ true
        → follow (suc n) o number kind b ≡ some (alone b (block_at a b))
    last_elsewhere n kind b w i j =
        follow_last o number n kind b (links_elsewhere kind b w ∙ i) (ap is_last (h.elsewhere b w) ∙ j)
        ∙ ap (λ x. some (alone b x)) (h.elsewhere b w)

    more_elsewhere :
        (n kind b : ℕ) → (b ≡ q → ⊥) → links a number kind b ≡ true → is_last (block_at a b) ≡ false
        → follow (suc n) o number kind b ≡ optional (before b (block_at a b)) (follow n o number further_kind (next_block (block_at a b)))
    more_elsewhere n kind b w i j =
        follow_more o number n kind b (links_elsewhere kind b w ∙ i) (ap is_last (h.elsewhere b w) ∙ j)
        ∙ ap (λ x. optional (before b x) (follow n o number further_kind (next_block x))) (h.elsewhere b w)

    -- that do not meet it
    pub follow_kept : (n kind b : ℕ) (t : Chain) → follow n a number kind b ≡ some t → member q t.blocks ≡ false → follow n o number kind b ≡ some t
    follow_kept zero kind b t e m = no_steps a number kind b t e
    follow_kept (suc n) kind b t e m = go (followed a number n kind b t e) (λ s r k. follow_kept n further_kind (next_block (block_at a b)) s r k)
      where
        go :
            Follows a number n kind b t
            → ((s : Chain) → follow n a number further_kind (next_block (block_at a b)) ≡ some s → member q s.blocks ≡ false
            → follow n o number further_kind (next_block (block_at a b)) ≡ some s)
            → follow (suc n) o number kind b ≡ some t
        go (ends i j k) ih =
            let w = not_member q b [] (ap (λ u. member q u.blocks) (sym k) ∙ m) in
            last_elsewhere n kind b w.0 i j ∙ ap some (sym k)
        go (goes s i j r k) ih =
            let w = not_member q b s.blocks (ap (λ u. member q u.blocks) (sym k) ∙ m) in
            more_elsewhere n kind b w.0 i j ∙ ap (optional (before b (block_at a b))) (ih s r w.1) ∙ ap some (sym k)

    -- that meet it
    pub follow_broken :
        (n kind b : ℕ) (t : Chain) → q < blocks_in a → follow n a number kind b ≡ some t → member q t.blocks ≡ true → follow n o number kind b ≡ none
    follow_broken zero kind b t l e m = no_steps a number kind b t e
    follow_broken (suc n) kind b t l e m =
        ⊎_elim (λ w. follow_no o number (suc n) kind b (ap (links o number kind) w ∙ not_linked kind l))
        (λ w. go w (followed a number n kind b t e) (λ s r k. follow_broken n further_kind (next_block (block_at a b)) s l r k)) (same? b q)
      where
        go :
            (b ≡ q → ⊥) → Follows a number n kind b t
            → ((s : Chain) → follow n a number further_kind (next_block (block_at a b)) ≡ some s → member q s.blocks ≡ true
            → follow n o number further_kind (next_block (block_at a b)) ≡ none)
            → follow (suc n) o number kind b ≡ none
        go w (ends i j k) ih =
            ⊎_elim (λ z. absurd (w (sym z))) (λ z. member_none q z) (member_cons q b [] (ap (λ u. member q u.blocks) (sym k) ∙ m))
        go w (goes s i j r k) ih =
            ⊎_elim (λ z. absurd (w (sym z)))
            (λ z. more_elsewhere n kind b w i j ∙ ap (optional (before b (block_at a b))) (ih s r z))
            (member_cons q b s.blocks (ap (λ u. member q u.blocks) (sym k) ∙ m))

    -- ---- what is found
    -- no entry: now it cannot be told
    pub absent_broken : q < blocks_in a → look a number ≡ absent → look o number ≡ damaged
    absent_broken l e =
        look_nothing o number (firsts_kept (λ f. subst (In q) (none_first a number e) (firsts_in a number q f)) ∙ none_first a number e)
        ∙ pick_false (all_sound o) absent damaged (not_sound l)

    module _ (bs : List ℕ) (e : Entry) (here : look a number ≡ present bs e) where
      abbrev there : Present a number bs e
      there = found a number bs e here

      abbrev first : ℕ
      first = there.first

      -- the chain begins with the first block
      first_member : member first bs ≡ true
      first_member =
          ap (member first) there.blocks
          ∙ chain_first a number (blocks_in a) (block_kind (block_at a first)) first there.chain there.follows

      -- a first block of the number is that one
      only_one : First a number q → q ≡ first
      only_one f = ⊎_elim (λ z. z) (λ z. absurd z) (subst (In q) there.only (firsts_in a number q f))

      pub untouched : member q bs ≡ false → look o number ≡ present bs e
      untouched m =
          let w : first ≡ q → ⊥ = (λ z. true≢false (sym first_member ∙ ap (λ b. member b bs) z ∙ m)) in
          let k : block_kind (block_at o first) ≡ block_kind (block_at a first) = ap block_kind (h.elsewhere first w) in
          look_found o number first there.chain (firsts_kept (λ f. w (sym (only_one f))) ∙ there.only)
          (ap₂ (λ n z. follow n o number z first) many k
          ∙ follow_kept (blocks_in a) (block_kind (block_at a first)) first there.chain there.follows (ap (member q) (sym there.blocks) ∙ m))
          (ap (λ z. is_stated z there.chain.content) k ∙ there.stated)
          ∙ ap₂ present (sym there.blocks) (ap (λ z. entry_in z there.chain.content) k ∙ sym there.entry)

      pub touched : member q bs ≡ true → look o number ≡ damaged
      touched m =
          ⊎_elim
          (λ z.
          look_nothing o number (firsts_gone (there.only ∙ ap (λ b. b ∷ []) z)) ∙ pick_false (all_sound o) absent damaged (not_sound inside))
          (λ w.
          look_broken o number first (firsts_kept (λ f. w (sym (only_one f))) ∙ there.only)
          (ap₂ (λ n x. follow n o number (block_kind x) first) many (h.elsewhere first w)
          ∙ follow_broken (blocks_in a) (block_kind (block_at a first)) first there.chain inside there.follows (ap (member q) (sym there.blocks) ∙ m)))
          (same? first q)
        where
          inside : q < blocks_in a
          inside = (each_in (λ b. (b < blocks_in a) × (bears a number b ≡ true)) bs q (member_in q bs m) (present_inside a number bs e here)).0

      pub present_broken : look o number ≡ cond (member q bs) damaged (present bs e)
      present_broken =
          by_test (member q bs) (λ m. touched m ∙ sym (pick_true (member q bs) damaged (present bs e) m))
          (λ m. untouched m ∙ sym (pick_false (member q bs) damaged (present bs e) m))
