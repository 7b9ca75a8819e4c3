-- Laws of the first blocks of an entry: how many there are, by the next one from a block on, that they are blocks of the area, and what is looked up by them and by a
-- chain that was gathered.
use Rattle.std.proofs.Math.Path.{◌≡◌, refl, ap}
use Rattle.std.proofs.Common.{sym, ◌∙◌, subst, arith}
use Rattle.std.specs.Prelude.{cond, ℕ, ◌+◌, ◌<◌, take, Some, None}
use mathlib.Core.List.{List, [], ◌∷◌}
use Rattle.scope.specs.Lists.{keep, tabled}
use Rattle.basics.specs.Choice.{pick_some}
use Rattle.basics.specs.Each.{Each, each_keep, each_tabled}
use Rattle.blocks.specs.Block.{block_kind}
use Rattle.blocks.specs.Area.{blocks_in, block_at, block_numbers, all_sound, firsts}
use Rattle.blocks.specs.Entry.{absent, damaged, whole, starting_at, by_firsts, look}
use Rattle.chains.specs.declared.Firsts.TheVariants.{Nothing, One, Several}
use Rattle.chains.specs.Whole.{Whole, is_first_of, FirstOf}
use Rattle.chains.specs.Nexts.{kept_from, next_kept, none_kept, kept_all}
use Rattle.chains.specs.Says.{how_many, GatheredSays}

-- ---- none, one or several
module _ {a : List ℕ} {n : ℕ} (w : Whole a n) (number : ℕ) where
  firsts_kept : firsts a number ≡ kept_from (is_first_of a number) n 0
  unfolding firsts
  firsts_kept = ap (λ m. keep (is_first_of a number) (tabled (λ b. b) 0 m)) w.many ∙ kept_all (is_first_of a number) n

  pub found_none : FirstOf (is_first_of a number) n 0 None → Nothing ≡ how_many (firsts a number)
  found_none f = sym (ap how_many (firsts_kept ∙ none_kept f))

  module _ {b : ℕ} (f : FirstOf (is_first_of a number) n 0 (Some b)) where
    first_then : firsts a number ≡ b ∷ kept_from (is_first_of a number) n (b + 1)
    first_then = firsts_kept ∙ next_kept f.0 f.1 f.2 f.3

    pub found_one : FirstOf (is_first_of a number) n (b + 1) None → One b ≡ how_many (firsts a number)
    found_one g = sym (ap how_many (first_then ∙ ap (λ l. b ∷ l) (none_kept g)))

    pub found_several : {c : ℕ} → FirstOf (is_first_of a number) n (b + 1) (Some c) → Several ≡ how_many (firsts a number)
    found_several g = sym (ap how_many (first_then ∙ ap (λ l. b ∷ l) (next_kept g.0 g.1 g.2 g.3)))

-- ---- which they are
pub firsts_inside : (a : List ℕ) (number : ℕ) → Each (λ b. b < blocks_in a) (firsts a number)
unfolding firsts
firsts_inside a number =
    each_keep (λ b. b < blocks_in a) (is_first_of a number) (block_numbers a) (each_tabled (λ b. b < blocks_in a) (λ b. b) 0 (blocks_in a) (λ b h. omega arith))

pub none_is : (l : List ℕ) → Nothing ≡ how_many l → l ≡ []
none_is [] e = refl
none_is (b ∷ []) e = let z : ◌≡◌ {A = ℕ} 0 1 = cc in absurd (omega arith)
none_is (b ∷ c ∷ l) e = let z : ◌≡◌ {A = ℕ} 0 1 = cc in absurd (omega arith)

pub one_is : {b : ℕ} (l : List ℕ) → One b ≡ how_many l → l ≡ b ∷ []
one_is {b} [] e = let z : ◌≡◌ {A = ℕ} 0 1 = cc in absurd (omega arith)
one_is {b} (c ∷ []) e = let z : c ≡ b = cc in ap (λ x. x ∷ []) z
one_is {b} (c ∷ d ∷ l) e = let z : ◌≡◌ {A = ℕ} 0 1 = cc in absurd (omega arith)

-- the one is a block of the area
pub one_inside : (a : List ℕ) (number : ℕ) {b : ℕ} → One b ≡ how_many (firsts a number) → b < blocks_in a
one_inside a number e = (subst (λ l. Each (λ x. x < blocks_in a) l) (one_is (firsts a number) e) (firsts_inside a number)).0

-- ---- what is looked up
module _ (a : List ℕ) (number : ℕ) where
  pub look_none : Nothing ≡ how_many (firsts a number) → look a number ≡ cond (all_sound a) absent damaged
  unfolding look
  look_none e = ap (by_firsts a number) (none_is (firsts a number) e)

  pub look_one : {b : ℕ} → One b ≡ how_many (firsts a number) → look a number ≡ starting_at a number b
  unfolding look
  look_one e = ap (by_firsts a number) (one_is (firsts a number) e)

  pub look_several : Several ≡ how_many (firsts a number) → look a number ≡ damaged
  unfolding look
  look_several e = several (firsts a number) e
    where
      several : (l : List ℕ) → Several ≡ how_many l → by_firsts a number l ≡ damaged
      several [] e = let z : ◌≡◌ {A = ℕ} 0 1 = cc in absurd (omega arith)
      several (b ∷ []) e = let z : ◌≡◌ {A = ℕ} 0 1 = cc in absurd (omega arith)
      several (b ∷ c ∷ l) e = refl

-- a chain was gathered: the entry is its content, where that is as stated
pub gathered_whole : {a : List ℕ} {number first many long : ℕ} {blocks content : List ℕ} → GatheredSays a number first many long blocks content
    → starting_at a number first ≡ whole (block_kind (block_at a first)) (record { blocks = take many blocks; content = take long content })
gathered_whole {a} {number} {first} {many} {long} {blocks} {content} w =
    pick_some _ (whole (block_kind (block_at a first))) damaged (record { blocks = take many blocks; content = take long content }) w.chain
