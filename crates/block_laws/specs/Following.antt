-- Following a chain, block by block: what a chain that ends says of its first block and of the rest, and that it is the same in however many steps.
use Prim.Native.Nat.{ℕ, zero, suc, ◌<◌}
use Rattle.std.proofs.Math.Path.{◌≡◌, refl}
use Rattle.std.proofs.Common.{sym, ap, ◌∙◌, ⊎_elim, true≢false, arith}
use Rattle.std.specs.Prelude.{Bool, List, eqb, ltb, take, drop}
use Rattle.std.proofs.Math.Bool.{true, false, cond}
use Rattle.std.proofs.Math.Option.{Option, none, some}
use borrow.Author.Tests.{eqb-true, ltb-true}
use Rattle.scope.specs.Lists.{optional}
use Rattle.basics.specs.Choice.{by_test, pick_true, pick_false}
use Rattle.basics.specs.Tests.{and_left, and_right, one_of}
use Rattle.blocks.specs.LowFirst.{little}
use Rattle.blocks.specs.Block.{sum_at, further_kind, block_kind, next_block, entry_number, is_last, weight, is_sound}
use Rattle.blocks.specs.Area.{blocks_in, block_at, sound_at, carries}
use Rattle.blocks.specs.Chain.{Chain, links, before, alone, follow}

-- ---- a block that carries the number is sound, so its next is in the area
pub carries_sound : (a : List ℕ) (number b : ℕ) → carries a number b ≡ true → sound_at a b ≡ true
unfolding carries
carries_sound a number b e = and_right (eqb (entry_number (block_at a b)) number) (sound_at a b) e

pub sound_next : (a : List ℕ) (b : ℕ) → sound_at a b ≡ true → is_last (block_at a b) ≡ false → next_block (block_at a b) < blocks_in a
unfolding sound_at is_sound
sound_next a b e more =
    ⊎_elim (λ z. absurd (true≢false (sym z ∙ more))) (λ z. ltb-true (next_block (block_at a b)) (blocks_in a) z)
    (one_of (is_last (block_at a b)) (ltb (next_block (block_at a b)) (blocks_in a))
    (and_right (eqb (little (drop sum_at (block_at a b))) (weight 0 (take sum_at (block_at a b)))) _ e))

module _ (a : List ℕ) (number : ℕ) where
  -- ---- what a block in a chain is
  pub links_kind : (kind b : ℕ) → links a number kind b ≡ true → block_kind (block_at a b) ≡ kind
  unfolding links
  links_kind kind b e = eqb-true _ kind (and_left _ _ (and_left _ _ (and_left _ _ e)))

  pub links_carries : (kind b : ℕ) → links a number kind b ≡ true → carries a number b ≡ true
  unfolding links
  links_carries kind b e = and_right (eqb (block_kind (block_at a b)) kind) (carries a number b) (and_left _ _ (and_left _ _ e))

  pub links_next : (kind b : ℕ) → links a number kind b ≡ true → is_last (block_at a b) ≡ false → next_block (block_at a b) < blocks_in a
  links_next kind b e more = sound_next a b (carries_sound a number b (links_carries kind b e)) more

  -- ---- one step
  abbrev rest : ℕ → ℕ → Option Chain
  rest n b = follow n a number further_kind (next_block (block_at a b))

  pub follow_no : (n kind b : ℕ) → links a number kind b ≡ false → follow n a number kind b ≡ none
  unfolding follow
  follow_no zero kind b e = refl
  follow_no (suc n) kind b e = pick_false (links a number kind b) _ none e

  pub follow_last : (n kind b : ℕ) → links a number kind b ≡ true → is_last (block_at a b) ≡ true → follow (suc n) a number kind b ≡ some (alone b (block_at a b))
  unfolding follow
  follow_last n kind b e last =
      pick_true (links a number kind b) (cond (is_last (block_at a b)) (some (alone b (block_at a b))) (optional (before b (block_at a b)) (rest n b))) none e
      ∙ pick_true (is_last (block_at a b)) (some (alone b (block_at a b))) (optional (before b (block_at a b)) (rest n b)) last

  pub follow_more : (n kind b : ℕ) → links a number kind b ≡ true → is_last (block_at a b) ≡ false → follow (suc n) a number kind b ≡ optional (before b (block_at a b)) (rest n b)
  unfolding follow
  follow_more n kind b e more =
      pick_true (links a number kind b) (cond (is_last (block_at a b)) (some (alone b (block_at a b))) (optional (before b (block_at a b)) (rest n b))) none e
      ∙ pick_false (is_last (block_at a b)) (some (alone b (block_at a b))) (optional (before b (block_at a b)) (rest n b)) more

  -- ---- the other way: a chain of at most n + 1 blocks from b on
  pub data Follows (n kind b : ℕ) (t : Chain) : Type 0 where
    ends : links a number kind b ≡ true → is_last (block_at a b) ≡ true → t ≡ alone b (block_at a b) → Follows n kind b t
    goes :
        (s : Chain) → links a number kind b ≡ true → is_last (block_at a b) ≡ false → follow n a number further_kind (next_block (block_at a b)) ≡ some s
        → t ≡ before b (block_at a b) s → Follows n kind b t

  pub followed : (n kind b : ℕ) (t : Chain) → follow (suc n) a number kind b ≡ some t → Follows n kind b t
  unfolding follow
  followed n kind b t e = go (links a number kind b) refl (is_last (block_at a b)) refl (rest n b) refl e
    where
      go :
          (l : Bool) → links a number kind b ≡ l → (z : Bool) → is_last (block_at a b) ≡ z → (o : Option Chain) → rest n b ≡ o
          → cond l (cond z (some (alone b (block_at a b))) (optional (before b (block_at a b)) o)) none ≡ some t → Follows n kind b t
      go false p z q o r f = let w : ◌≡◌ {A = ℕ} 0 1 = cc in absurd (omega arith)
      go true p true q o r f = ends p q (cc)
      go true p false q none r f = let w : ◌≡◌ {A = ℕ} 0 1 = cc in absurd (omega arith)
      go true p false q (some s) r f = goes s p q r (cc)

  pub follow_links : (n kind b : ℕ) (t : Chain) → follow n a number kind b ≡ some t → links a number kind b ≡ true
  follow_links n kind b t e = by_test (links a number kind b) (λ l. l) (λ l. not_none (sym (follow_no n kind b l) ∙ e))
    where
      not_none : {A : Type 0} → none ≡ some t → A
      not_none q = let w : ◌≡◌ {A = ℕ} 0 1 = cc in absurd (omega arith)

  -- in no steps there is no chain
  pub follow_none : (kind b : ℕ) → follow zero a number kind b ≡ none
  unfolding follow
  follow_none kind b = refl

  pub no_steps : {A : Type 0} (kind b : ℕ) (t : Chain) → follow zero a number kind b ≡ some t → A
  unfolding follow
  no_steps kind b t e = let w : ◌≡◌ {A = ℕ} 0 1 = cc in absurd (omega arith)

  -- ---- the same chain in however many steps
  pub same_chain : (m n kind b : ℕ) (s t : Chain) → follow m a number kind b ≡ some s → follow n a number kind b ≡ some t → s ≡ t
  same_chain zero n kind b s t p q = no_steps kind b s p
  same_chain (suc m) zero kind b s t p q = no_steps kind b t q
  same_chain (suc m) (suc n) kind b s t p q =
      go (followed m kind b s p) (followed n kind b t q) (λ u v j k. same_chain m n further_kind (next_block (block_at a b)) u v j k)
    where
      go :
          Follows m kind b s → Follows n kind b t → ((u v : Chain) → rest m b ≡ some u → rest n b ≡ some v → u ≡ v) → s ≡ t
      go (ends i j k) (ends i' j' k') ih = k ∙ sym k'
      go (ends i j k) (goes v i' j' r' k') ih = absurd (true≢false (sym j ∙ j'))
      go (goes u i j r k) (ends i' j' k') ih = absurd (true≢false (sym j' ∙ j))
      go (goes u i j r k) (goes v i' j' r' k') ih = k ∙ ap (before b (block_at a b)) (ih u v r r') ∙ sym k'
