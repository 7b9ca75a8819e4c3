-- What is found under a number depends only on the blocks of entries that bear it, and on whether all blocks are sound; the blocks of a chain are all different.
-- A chain meets blocks of entries only, and each next block lies in the area, since the block before it is sound. A block met again would lead the same way again,
-- so that the chain would be its own proper end.
use Rattle.std.specs.Prelude.{ℕ, zero, suc, ◌/◌, ◌≤◌, ◌<◌, ◌≡◌, refl, Bool, true, false, not, cond, ◌&&◌, ◌||◌, List, [], ◌∷◌, length}
use Rattle.std.proofs.Common.{sym, ◌∙◌, subst, ⊎_elim, true≢false, arith}
use Rattle.std.proofs.Math.Path.{ap, ap₂}
use Rattle.std.proofs.Math.Option.{some}
use Rattle.std.proofs.Math.Dec.{eqb}
use Rattle.scope.specs.Limits.{block_size}
use Rattle.scope.specs.Lists.{given, optional, member, keep, tabled}
use Rattle.scope.specs.Placements.{distinct}
use Rattle.basics.specs.Choice.{by_test}
use Rattle.basics.specs.Each.{Each}
use Rattle.basics.specs.Tests.{and_right, both, or_first, falsely}
use Rattle.basics.specs.Members.{member_cons, member_none}
use Rattle.basics.specs.Tabled.{keep_as}
use Rattle.blocks.specs.Block.{content_room, further_kind, is_first, block_kind, used_length, next_block, is_last, is_padded}
use Rattle.blocks.specs.Area.{blocks_in, block_at, all_sound, carries, firsts}
use Rattle.blocks.specs.Chain.{Chain, links, before, alone, follow}
use Rattle.blocks.specs.Entry.{Entry, absent, damaged, present, whole, starting_at, by_firsts, look}
use Rattle.block_laws.specs.Following.{links_kind, links_carries, links_next, follow_no, follow_last, follow_more, Follows, ends, goes, followed, no_steps, follow_none, follow_links, same_chain}
use Rattle.block_laws.specs.Looking.{First, only_first, found}

-- block b is sound, of an entry, and has the number
abbrev pub bears : List ℕ → ℕ → ℕ → Bool
bears a number b = (is_first (block_kind (block_at a b)) || eqb (block_kind (block_at a b)) further_kind) && carries a number b

pub record Alike (a o : List ℕ) (number : ℕ) : Type 0 where
  pub long : length a ≡ length o
  pub sound : all_sound a ≡ all_sound o
  pub mine : (b : ℕ) → b < blocks_in a → bears a number b ≡ bears o number b
  pub alike : (b : ℕ) → b < blocks_in a → bears a number b ≡ true → block_at a b ≡ block_at o b

-- ---- the blocks that a chain meets
-- kinds of blocks of entries
abbrev of_entry : ℕ → Bool
of_entry kind = is_first kind || eqb kind further_kind

first_of : (f u c : Bool) → f ≡ true → c ≡ true → ((f || u) && c) ≡ true
first_of f u c p q = rw (p, q)

no_first : (f u c : Bool) → ((f || u) && c) ≡ false → (f && c) ≡ false
no_first true u c e = e
no_first false u c e = refl

module _ (a : List ℕ) (number : ℕ) where
  pub first_bears : (b : ℕ) → First a number b → bears a number b ≡ true
  first_bears b h = first_of _ _ _ h.first h.mine

  bears_not : (b : ℕ) → bears a number b ≡ false → (is_first (block_kind (block_at a b)) && carries a number b) ≡ false
  bears_not b e = no_first (is_first (block_kind (block_at a b))) (eqb (block_kind (block_at a b)) further_kind) (carries a number b) e

  links_bears : (kind b : ℕ) → of_entry kind ≡ true → links a number kind b ≡ true → bears a number b ≡ true
  links_bears kind b w e = both _ _ (ap of_entry (links_kind a number kind b e) ∙ w) (links_carries a number kind b e)

  unlinked : (kind b : ℕ) → of_entry kind ≡ true → bears a number b ≡ false → links a number kind b ≡ false
  unlinked kind b w e = falsely (links a number kind b) (λ l. true≢false (sym (links_bears kind b w l) ∙ e))

  chain_inside :
      (steps kind b : ℕ) (t : Chain) → of_entry kind ≡ true → b < blocks_in a → follow steps a number kind b ≡ some t
      → Each (λ c. (c < blocks_in a) × (bears a number c ≡ true)) t.blocks
  chain_inside zero kind b t w h e = no_steps a number kind b t e
  chain_inside (suc n) kind b t w h e = go (followed a number n kind b t e) (λ s j r. chain_inside n further_kind (next_block (block_at a b)) s refl j r)
    where
      go :
          Follows a number n kind b t
          → ((s : Chain) → next_block (block_at a b) < blocks_in a → follow n a number further_kind (next_block (block_at a b)) ≡ some s
          → Each (λ c. (c < blocks_in a) × (bears a number c ≡ true)) s.blocks)
          → Each (λ c. (c < blocks_in a) × (bears a number c ≡ true)) t.blocks
      go (ends i j k) ih = subst (λ u. Each (λ c. (c < blocks_in a) × (bears a number c ≡ true)) u.blocks) (sym k) ((h, links_bears kind b w i), tt)
      go (goes s i j r k) ih =
          subst (λ u. Each (λ c. (c < blocks_in a) × (bears a number c ≡ true)) u.blocks) (sym k)
          ((h, links_bears kind b w i), ih s (links_next a number kind b i j) r)

-- ---- areas in which the same blocks bear the number, and are the same
module _ {a o : List ℕ} {number : ℕ} (h : Alike a o number) where
  carries_alike : (b : ℕ) → b < blocks_in a → bears a number b ≡ true → carries a number b ≡ carries o number b
  carries_alike b l e =
      and_right (of_entry (block_kind (block_at a b))) (carries a number b) e
      ∙ sym (and_right (of_entry (block_kind (block_at o b))) (carries o number b) (sym (h.mine b l) ∙ e))

  first_alike :
      (b : ℕ) → b < blocks_in a
      → (is_first (block_kind (block_at a b)) && carries a number b) ≡ (is_first (block_kind (block_at o b)) && carries o number b)
  first_alike b l =
      by_test (bears a number b) (λ e. ap₂ (λ x t. is_first (block_kind x) && t) (h.alike b l e) (carries_alike b l e))
      (λ e. bears_not a number b e ∙ sym (bears_not o number b (sym (h.mine b l) ∙ e)))

  firsts_alike : firsts a number ≡ firsts o number
  unfolding firsts
  firsts_alike =
      keep_as (λ b. is_first (block_kind (block_at a b)) && carries a number b) (λ b. is_first (block_kind (block_at o b)) && carries o number b) 0 (blocks_in a)
      (λ b j k. first_alike b (omega arith))
      ∙ ap (λ n. keep (λ b. is_first (block_kind (block_at o b)) && carries o number b) (tabled (λ b. b) 0 (n / block_size))) h.long

  links_alike : (kind b : ℕ) → b < blocks_in a → bears a number b ≡ true → links a number kind b ≡ links o number kind b
  unfolding links
  links_alike kind b l e =
      ap₂ (λ x t. eqb (block_kind x) kind && t && is_padded x && (is_last x || eqb (used_length x) content_room)) (h.alike b l e) (carries_alike b l e)

  follow_alike : (steps kind b : ℕ) → of_entry kind ≡ true → b < blocks_in a → follow steps a number kind b ≡ follow steps o number kind b
  follow_alike zero kind b w l = follow_none a number kind b ∙ sym (follow_none o number kind b)
  follow_alike (suc n) kind b w l =
      by_test (bears a number b) (λ e. on e (λ j. follow_alike n further_kind (next_block (block_at a b)) refl j))
      (λ e.
      follow_no a number (suc n) kind b (unlinked a number kind b w e)
      ∙ sym (follow_no o number (suc n) kind b (unlinked o number kind b w (sym (h.mine b l) ∙ e))))
    where
      on :
          bears a number b ≡ true
          → (next_block (block_at a b) < blocks_in a
          → follow n a number further_kind (next_block (block_at a b)) ≡ follow n o number further_kind (next_block (block_at a b)))
          → follow (suc n) a number kind b ≡ follow (suc n) o number kind b
      on e ih =
          by_test (links a number kind b)
          (λ i.
          by_test (is_last (block_at a b))
          (λ j.
          follow_last a number n kind b i j ∙ ap (λ x. some (alone b x)) (h.alike b l e)
          ∙ sym (follow_last o number n kind b (sym (links_alike kind b l e) ∙ i) (ap is_last (sym (h.alike b l e)) ∙ j)))
          (λ j.
          follow_more a number n kind b i j ∙ ap (optional (before b (block_at a b))) (ih (links_next a number kind b i j))
          ∙ ap (λ x. optional (before b x) (follow n o number further_kind (next_block x))) (h.alike b l e)
          ∙ sym (follow_more o number n kind b (sym (links_alike kind b l e) ∙ i) (ap is_last (sym (h.alike b l e)) ∙ j))))
          (λ i. follow_no a number (suc n) kind b i ∙ sym (follow_no o number (suc n) kind b (sym (links_alike kind b l e) ∙ i)))

  starting_alike : (b : ℕ) → First a number b → starting_at a number b ≡ starting_at o number b
  starting_alike b f =
      let e : bears a number b ≡ true = first_bears a number b f in
      ap (λ r. given r (whole (block_kind (block_at a b))) damaged)
      (follow_alike (blocks_in a) (block_kind (block_at a b)) b (or_first _ _ f.first) f.inside)
      ∙ ap₂ (λ n x. given (follow n o number (block_kind x) b) (whole (block_kind x)) damaged) (ap (λ n. n / block_size) h.long) (h.alike b f.inside e)

  by_firsts_lem : (l : List ℕ) → firsts a number ≡ l → by_firsts a number l ≡ by_firsts o number l
  by_firsts_lem [] q = ap (λ t. cond t absent damaged) h.sound
  by_firsts_lem (b ∷ []) q = starting_alike b (only_first a number b q)
  by_firsts_lem (b ∷ c ∷ l) q = refl

pub look_alike : {a o : List ℕ} {number : ℕ} → Alike a o number → look a number ≡ look o number
unfolding look
look_alike {a} {o} {number} h = by_firsts_lem h (firsts a number) refl ∙ ap (by_firsts o number) (firsts_alike h)

-- ---- "a block twice"
-- a chain of further blocks, from one of its blocks on
record End (a : List ℕ) (number b : ℕ) (s : Chain) : Type 0 where
  steps : ℕ
  chain : Chain
  follows : follow steps a number further_kind b ≡ some chain
  short : length chain.blocks ≤ length s.blocks

end_at : (n : ℕ) (a : List ℕ) (number c b : ℕ) (s : Chain) → follow n a number further_kind c ≡ some s → member b s.blocks ≡ true → End a number b s
unfolding member
end_at zero a number c b s e m = no_steps a number further_kind c s e
end_at (suc n) a number c b s e m =
    go (followed a number n further_kind c s e) (λ u r k. end_at n a number (next_block (block_at a c)) b u r k)
  where
    here : b ≡ c → End a number b s
    here q = record { steps = suc n; chain = s; follows = ap (follow (suc n) a number further_kind) q ∙ e; short = omega arith }

    go :
        Follows a number n further_kind c s
        → ((u : Chain) → follow n a number further_kind (next_block (block_at a c)) ≡ some u → member b u.blocks ≡ true → End a number b u)
        → End a number b s
    go (ends i j k) ih = ⊎_elim here (λ z. member_none b z) (member_cons b c [] (ap (λ u. member b u.blocks) (sym k) ∙ m))
    go (goes u i j r k) ih =
        ⊎_elim here
        (λ z.
        let w = ih u r z in
        record { steps = w.steps; chain = w.chain; follows = w.follows; short = omega (arith, w.short, ap (λ v. length v.blocks) k) })
        (member_cons b c u.blocks (ap (λ v. member b v.blocks) (sym k) ∙ m))

-- a chain that ends meets none
pub follow_distinct : (steps : ℕ) (a : List ℕ) (number kind b : ℕ) (t : Chain) → follow steps a number kind b ≡ some t → distinct t.blocks ≡ true
unfolding distinct member
follow_distinct zero a number kind b t e = no_steps a number kind b t e
follow_distinct (suc n) a number kind b t e =
    go (followed a number n kind b t e) (λ s r. follow_distinct n a number further_kind (next_block (block_at a b)) s r)
  where
    once : (s : Chain) → links a number kind b ≡ true → t ≡ before b (block_at a b) s → End a number b s → ⊥
    once s i k w =
        let l : links a number further_kind b ≡ true = follow_links a number w.steps further_kind b w.chain w.follows in
        let q : kind ≡ further_kind = sym (links_kind a number kind b i) ∙ links_kind a number further_kind b l in
        let same : t ≡ w.chain = same_chain a number (suc n) w.steps further_kind b t w.chain (ap (λ z. follow (suc n) a number z b) (sym q) ∙ e) w.follows in
        omega (arith, w.short, ap (λ u. length u.blocks) same, ap (λ u. length u.blocks) k)

    go :
        Follows a number n kind b t
        → ((s : Chain) → follow n a number further_kind (next_block (block_at a b)) ≡ some s → distinct s.blocks ≡ true) → distinct t.blocks ≡ true
    go (ends i j k) ih = ap (λ u. distinct u.blocks) k
    go (goes s i j r k) ih =
        ap (λ u. distinct u.blocks) k
        ∙ both (not (member b s.blocks)) (distinct s.blocks)
        (ap not (falsely (member b s.blocks) (λ m. once s i k (end_at n a number (next_block (block_at a b)) b s r m)))) (ih s r)

-- ---- the blocks of an entry that is found
-- its blocks lie in the area, and bear the number
pub present_inside : (a : List ℕ) (number : ℕ) (bs : List ℕ) (e : Entry) → look a number ≡ present bs e → Each (λ b. (b < blocks_in a) × (bears a number b ≡ true)) bs
present_inside a number bs e h =
    let p = found a number bs e h in
    let f = only_first a number p.first p.only in
    subst (Each (λ b. (b < blocks_in a) × (bears a number b ≡ true))) (sym p.blocks)
    (chain_inside a number (blocks_in a) (block_kind (block_at a p.first)) p.first p.chain (or_first _ _ f.first) f.inside p.follows)

pub present_distinct : (a : List ℕ) (number : ℕ) (bs : List ℕ) (e : Entry) → look a number ≡ present bs e → distinct bs ≡ true
present_distinct a number bs e h =
    let p = found a number bs e h in
    ap distinct p.blocks ∙ follow_distinct (blocks_in a) a number (block_kind (block_at a p.first)) p.first p.chain p.follows
