-- What a look at a number goes by: its sound first blocks, the chain from the one there is, and the entry in that chain's content.
use Rattle.std.specs.Prelude.{ℕ, ◌<◌, ◌≡◌, Bool, true, false, cond, ◌&&◌, List, [], ◌∷◌}
use Rattle.std.proofs.Math.Path.{refl, ap}
use Rattle.std.proofs.Common.{sym, ◌∙◌, subst, inl, arith}
use Rattle.std.proofs.Math.Option.{Option, none, some}
use Rattle.scope.specs.Lists.{given}
use Rattle.basics.specs.Choice.{pick_true, pick_some, pick_none}
use Rattle.basics.specs.Each.{In}
use Rattle.basics.specs.Tests.{and_left, and_right, both}
use Rattle.basics.specs.Members.{in_keep, keep_in}
use Rattle.basics.specs.Tabled.{in_tabled, tabled_in}
use Rattle.blocks.specs.Block.{is_first, block_kind}
use Rattle.blocks.specs.Area.{blocks_in, block_at, block_numbers, all_sound, carries, firsts}
use Rattle.blocks.specs.Chain.{Chain, follow}
use Rattle.blocks.specs.Entry.{Entry, is_stated, entry_in, absent, damaged, present, whole, by_firsts, look}

module _ (a : List ℕ) (number : ℕ) where
  abbrev kind_at : ℕ → ℕ
  kind_at b = block_kind (block_at a b)

  -- ---- a first block of the number
  pub record First (b : ℕ) : Type 0 where
    pub inside : b < blocks_in a
    pub first : is_first (block_kind (block_at a b)) ≡ true
    pub mine : carries a number b ≡ true

  pub in_firsts : (b : ℕ) → In b (firsts a number) → First b
  unfolding firsts
  in_firsts b h =
      let z = in_keep (λ c. is_first (kind_at c) && carries a number c) b (block_numbers a) h in
      record {
        inside = let w = in_tabled 0 (blocks_in a) b z.0 in omega (arith, w.1);
        first = and_left (is_first (kind_at b)) (carries a number b) z.1;
        mine = and_right (is_first (kind_at b)) (carries a number b) z.1;
      }

  pub firsts_in : (b : ℕ) → First b → In b (firsts a number)
  unfolding firsts
  firsts_in b h =
      keep_in (λ c. is_first (kind_at c) && carries a number c) b (block_numbers a) (tabled_in 0 (blocks_in a) b (omega arith) (omega arith))
      (both (is_first (kind_at b)) (carries a number b) h.first h.mine)

  pub only_first : (b : ℕ) → firsts a number ≡ b ∷ [] → First b
  only_first b e = in_firsts b (subst (In b) (sym e) (inl refl))

  -- ---- what is under the number, by what there is
  pub look_nothing : firsts a number ≡ [] → look a number ≡ cond (all_sound a) absent damaged
  unfolding look
  look_nothing e = ap (by_firsts a number) e

  pub look_broken : (b : ℕ) → firsts a number ≡ b ∷ [] → follow (blocks_in a) a number (kind_at b) b ≡ none → look a number ≡ damaged
  unfolding look
  look_broken b e f = ap (by_firsts a number) e ∙ pick_none (follow (blocks_in a) a number (kind_at b) b) (whole (kind_at b)) damaged f

  pub look_found :
      (b : ℕ) (t : Chain) → firsts a number ≡ b ∷ [] → follow (blocks_in a) a number (kind_at b) b ≡ some t → is_stated (kind_at b) t.content ≡ true
      → look a number ≡ present t.blocks (entry_in (kind_at b) t.content)
  unfolding look
  look_found b t e f h =
      ap (by_firsts a number) e ∙ pick_some (follow (blocks_in a) a number (kind_at b) b) (whole (kind_at b)) damaged t f
      ∙ pick_true (is_stated (kind_at b) t.content) (present t.blocks (entry_in (kind_at b) t.content)) damaged h

  -- ---- the other way: what there is, by what is under the number
  pub record Present (bs : List ℕ) (e : Entry) : Type 0 where
    pub first : ℕ
    pub chain : Chain
    pub only : firsts a number ≡ first ∷ []
    pub follows : follow (blocks_in a) a number (block_kind (block_at a first)) first ≡ some chain
    pub stated : is_stated (block_kind (block_at a first)) chain.content ≡ true
    pub blocks : bs ≡ chain.blocks
    pub entry : e ≡ entry_in (block_kind (block_at a first)) chain.content

  module _ (bs : List ℕ) (e : Entry) where
    not_nothing : {A : Type 0} (t : Bool) → cond t absent damaged ≡ present bs e → A
    not_nothing true h = let z : ◌≡◌ {A = ℕ} 0 1 = cc in absurd (omega arith)
    not_nothing false h = let z : ◌≡◌ {A = ℕ} 0 1 = cc in absurd (omega arith)

    from_chain :
        (b : ℕ) → firsts a number ≡ b ∷ [] → (o : Option Chain) → follow (blocks_in a) a number (kind_at b) b ≡ o
        → given o (whole (kind_at b)) damaged ≡ present bs e → Present bs e
    from_chain b q none f h = let z : ◌≡◌ {A = ℕ} 0 1 = cc in absurd (omega arith)
    from_chain b q (some t) f h = go (is_stated (kind_at b) t.content) refl h
      where
        go :
            (s : Bool) → is_stated (kind_at b) t.content ≡ s
            → cond s (present t.blocks (entry_in (kind_at b) t.content)) damaged ≡ present bs e → Present bs e
        go true w k = record { first = b; chain = t; only = q; follows = f; stated = w; blocks = cc; entry = cc }
        go false w k = let z : ◌≡◌ {A = ℕ} 0 1 = cc in absurd (omega arith)

    from_firsts : (l : List ℕ) → firsts a number ≡ l → by_firsts a number l ≡ present bs e → Present bs e
    from_firsts [] q h = not_nothing (all_sound a) h
    from_firsts (b ∷ []) q h = from_chain b q (follow (blocks_in a) a number (kind_at b) b) refl h
    from_firsts (b ∷ c ∷ l) q h = let z : ◌≡◌ {A = ℕ} 0 1 = cc in absurd (omega arith)

    pub found : look a number ≡ present bs e → Present bs e
    unfolding look
    found h = from_firsts (firsts a number) refl h

  -- under a number with no entry there is no first block
  absent_from : (l : List ℕ) → firsts a number ≡ l → by_firsts a number l ≡ absent → firsts a number ≡ []
  absent_from [] q h = q
  absent_from (b ∷ []) q h = from_chain_none (follow (blocks_in a) a number (kind_at b) b) h
    where
      from_whole : (t : Chain) (s : Bool) → cond s (present t.blocks (entry_in (kind_at b) t.content)) damaged ≡ absent → firsts a number ≡ []
      from_whole t true k = let z : ◌≡◌ {A = ℕ} 0 1 = cc in absurd (omega arith)
      from_whole t false k = let z : ◌≡◌ {A = ℕ} 0 1 = cc in absurd (omega arith)

      from_chain_none : (o : Option Chain) → given o (whole (kind_at b)) damaged ≡ absent → firsts a number ≡ []
      from_chain_none none k = let z : ◌≡◌ {A = ℕ} 0 1 = cc in absurd (omega arith)
      from_chain_none (some t) k = from_whole t (is_stated (kind_at b) t.content) k
  absent_from (b ∷ c ∷ l) q h = let z : ◌≡◌ {A = ℕ} 0 1 = cc in absurd (omega arith)

  pub none_first : look a number ≡ absent → firsts a number ≡ []
  unfolding look
  none_first h = absent_from (firsts a number) refl h
