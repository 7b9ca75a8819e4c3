-- The listing: what it hands out from a block on is the first sound first block there is, so that asked for again behind each it passes none; and every entry that
-- is found is handed out.
use Rattle.std.specs.Prelude.{ℕ, zero, suc, ◌+◌, ◌-◌, ◌≤◌, ◌<◌, refl, Bool, cond, List, ◌∷◌, eqb}
use Rattle.std.proofs.Common.{arith, sym, ap, ◌∙◌, ⊎_elim, eqb-true}
use Rattle.std.proofs.Math.Path.{◌≡◌}
use Rattle.std.proofs.Math.Bool.{true, false}
use Rattle.std.proofs.Math.Option.{Option, none, some}
use Rattle.scope.specs.Lists.{given, keep, first_in, tabled}
use Rattle.scope.specs.Answers.{Said, good, refuses}
use Rattle.basics.specs.Choice.{by_test}
use Rattle.basics.specs.Members.{keep_yes, keep_no}
use Rattle.basics.specs.Said.{not_both, same_good, same_number_lem}
use Rattle.basics.specs.Tabled.{tabled_at}
use Rattle.basics.specs.Tests.{and_left, and_right, both, same?}
use Rattle.blocks.specs.Block.{is_first, block_kind, entry_number}
use Rattle.blocks.specs.Area.{blocks_in, whole_blocks, block_at, sound_at, carries}
use Rattle.blocks.specs.Entry.{Entry, present, look}
use Rattle.blocks.specs.Answers.{is_head, heads, head_at, listed_from}
use Rattle.block_laws.specs.Looking.{found, only_first}
use Rattle.blocks.specs.declared.Listed.{Listed}

-- ---- the first of some numbers that passes a test, if one does
pub record FirstOf (test : ℕ → Bool) (from many b : ℕ) : Type 0 where
  pub low : from ≤ b
  pub high : b < from + many
  pub passes : test b ≡ true
  pub none_before : (c : ℕ) → from ≤ c → c < b → test c ≡ false

-- none of them does
abbrev pub NoneOf : (ℕ → Bool) → ℕ → ℕ → Type 0
NoneOf test from many = (c : ℕ) → from ≤ c → c < from + many → test c ≡ false

abbrev pub Told : (ℕ → Bool) → ℕ → ℕ → Option ℕ → Type 0
Told test from many (some b) = FirstOf test from many b
Told test from many none = NoneOf test from many

pub first_told : (test : ℕ → Bool) (many from : ℕ) → Told test from many (first_in (keep test (tabled (λ b. b) from many)))
unfolding tabled keep
first_told test zero from = λ c l h. absurd (omega arith)
first_told test (suc many) from =
    by_test (test from)
    (λ e.
    rw (keep_yes test from (tabled (λ b. b) (from + 1) many) e)
    (record { low = omega arith; high = omega arith; passes = e; none_before = λ c l h. absurd (omega arith) }))
    (λ e. rw (keep_no test from (tabled (λ b. b) (from + 1) many) e) (behind e (first_in (keep test (tabled (λ b. b) (from + 1) many))) (first_told test many (from + 1))))
  where
    here : test from ≡ false → (c : ℕ) → c ≡ from → test c ≡ false
    here e c q = ap test q ∙ e

    behind : test from ≡ false → (o : Option ℕ) → Told test (from + 1) many o → Told test from (suc many) o
    behind e (some b) w =
        let low = w.low in
        let high = w.high in
        record {
          low = omega arith;
          high = omega arith;
          passes = w.passes;
          none_before = λ c l h. ⊎_elim (λ q. here e c q) (λ q. w.none_before c (omega arith) h) (same? c from);
        }
    behind e none w = λ c l h. ⊎_elim (λ q. here e c q) (λ q. w c (omega arith) (omega arith)) (same? c from)

-- ---- what the listing hands out
-- 26, 17, or the head at a block
abbrev told : List ℕ → Bool → Option ℕ → Said Listed
told a whole o = cond whole (given o (λ b. good (head_at a b)) (refuses 17 0)) (refuses 26 0)

module _ (a : List ℕ) (from : ℕ) where
  abbrev left : ℕ
  left = blocks_in a - from

  -- from a block on, the first sound first block, with the number in it
  pub listed_next : (h : Listed) → listed_from a from ≡ good h → FirstOf (is_head a) from left h.block × (h.number ≡ entry_number (block_at a h.block))
  unfolding listed_from
  listed_next h e = go (whole_blocks a) (first_in (heads a from)) (first_told (is_head a) left from) e
    where
      go : (w : Bool) (o : Option ℕ) → Told (is_head a) from left o → told a w o ≡ good h → FirstOf (is_head a) from left h.block × (h.number ≡ entry_number (block_at a h.block))
      go true (some b) w f =
          let same : head_at a b ≡ h = same_good f in
          rw (sym same) (w, refl)
      go true none w f = absurd (not_both (sym f))
      go false o w f = absurd (not_both (sym f))

  -- 17 "no .. further one": from there on there is none
  pub listed_none : listed_from a from ≡ refuses 17 0 → NoneOf (is_head a) from left
  unfolding listed_from
  listed_none e = go (whole_blocks a) (first_in (heads a from)) (first_told (is_head a) left from) e
    where
      go : (w : Bool) (o : Option ℕ) → Told (is_head a) from left o → told a w o ≡ refuses 17 0 → NoneOf (is_head a) from left
      go true (some b) w f = absurd (not_both f)
      go true none w f = w
      go false o w f = let z : ◌≡◌ {A = ℕ} 26 17 = same_number_lem f in absurd (omega arith)

-- every entry that is found begins in a block that is handed out, with its number
pub listed_found :
    (a : List ℕ) (n : ℕ) (bs : List ℕ) (e : Entry) → whole_blocks a ≡ true → look a n ≡ present bs e
    → (b : ℕ) × ((is_head a b ≡ true) × (listed_from a b ≡ good (record { block = b; number = n })))
unfolding listed_from is_head carries
listed_found a n bs e whole there =
    let w = found a n bs e there in
    let b = w.first in
    let f = only_first a n b w.only in
    let mine : entry_number (block_at a b) ≡ n = eqb-true (entry_number (block_at a b)) n (and_left (eqb (entry_number (block_at a b)) n) (sound_at a b) f.mine) in
    let sound : sound_at a b ≡ true = and_right (eqb (entry_number (block_at a b)) n) (sound_at a b) f.mine in
    let head : is_head a b ≡ true = both (is_first (block_kind (block_at a b))) (sound_at a b) f.first sound in
    let first : heads a b ≡ b ∷ heads a (b + 1) =
    ap (keep (is_head a)) (tabled_at (λ c. c) b (blocks_in a) f.inside) ∙ keep_yes (is_head a) b (tabled (λ c. c) (b + 1) (blocks_in a - (b + 1))) head in
    let said : listed_from a b ≡ good (head_at a b) = ap (λ t. told a t (first_in (heads a b))) whole ∙ ap (λ l. told a true (first_in l)) first in
    (b, (head, said ∙ ap (λ m. good (record { block = b; number = m })) mine))
