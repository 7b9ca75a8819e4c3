-- What is found under a number, by the step that told it: no first block, several, or one and its chain. Assumes nothing.
use Rattle.std.proofs.Common.{◌≡◌, refl, sym, ap, ◌∙◌, subst, Bool, true, false, cond, ◌⊎◌, inl, inr, List, ℕ, ◌-◌, ◌≤◌, ◌<◌, length, take, drop, length-take, arith}
use Rattle.std.proofs.lemmas.Bool.{false≢true}
use Rattle.std.specs.Prelude.{Option, Result, Ok, Err}
use Rattle.std.specs.Result.{IsErrAnd}
use Rattle.basics.specs.Choice.{pick_true, pick_false}
use Rattle.basics.specs.Tests.{below?}
use Rattle.blocks.specs.Block.{new_kind, block_kind}
use Rattle.blocks.specs.Area.{blocks_in, block_at, all_sound, firsts}
use Rattle.blocks.specs.Entry.{position_bytes, is_stated, entry_in, Looked, absent, damaged, present, starting_at, look}
use Rattle.chains.specs.declared.borrowed.Chain.{Chain}
use Rattle.chains.specs.declared.Firsts.TheVariants.{Nothing, One}
use Rattle.chains.specs.Says.{how_many, GatheredSays}
use Rattle.chains.specs.Finding.{look_none, look_one, gathered_whole}
use Rattle.contents.proofs.Taken.{short_content}
use Rattle.scope.specs.declared.refusals.Refusal.{Refusal}
use Rattle.keeping.specs.Looking.{Found, Missing, Refuses, LookSays}

-- ---- from a first block on
-- the first bytes of a room, as a part of it
pub front_part : (n : ℕ) (l : List ℕ) → take (n - 0) (drop 0 l) ≡ take n l
front_part n l = let e : n - 0 ≡ n = omega arith in ap (λ k. take k l) e

-- what is stated has a placement
pub stated_long : (c : List ℕ) → is_stated new_kind c ≡ true → position_bytes new_kind ≤ length c
stated_long c e = go (below? (length c) (position_bytes new_kind))
  where
    go : (length c < position_bytes new_kind) ⊎ (position_bytes new_kind ≤ length c) → position_bytes new_kind ≤ length c
    go (inl h) = absurd (false≢true (short_content c h ∙ e))
    go (inr h) = h

-- the entry of a content, where that is stated: a first block of each kind has the same before its line
abbrev entry_of : ℕ → List ℕ → List ℕ → Looked
entry_of kind blocks c = cond (is_stated kind c) (present blocks (entry_in kind c)) damaged

any_kind : (kind : ℕ) (blocks c : List ℕ) → entry_of kind blocks c ≡ entry_of new_kind blocks c
unfolding is_stated
any_kind kind blocks c = refl

module _ {a : List ℕ} {number b : ℕ} (chain : Chain) {room : List ℕ} (g : GatheredSays a number b chain.many chain.long chain.row room) {r : Bool} {c : List ℕ} (front : c ≡ take chain.long room) (told : r ≡ is_stated new_kind c) where
  starts : {t : Bool} → r ≡ t → starting_at a number b ≡ cond t (present (take chain.many chain.row) (entry_in new_kind (take chain.long room))) damaged
  starts {t} e =
      gathered_whole g
      ∙ any_kind (block_kind (block_at a b)) (take chain.many chain.row) (take chain.long room)
      ∙ ap (λ t. cond t (present (take chain.many chain.row) (entry_in new_kind (take chain.long room))) damaged) (ap (is_stated new_kind) (sym front) ∙ sym told ∙ e)

  pub entry_unstated : r ≡ false → starting_at a number b ≡ damaged
  entry_unstated e = starts e

  pub entry_found : r ≡ true → Found a (starting_at a number b) chain room
  entry_found e =
      let k = stated_long c (sym told ∙ e) in
      let l = ap length front ∙ length-take chain.long room in
      record { is = starts e; some = omega arith; inside = g.inside }

-- ---- under a number
module _ (a : List ℕ) (number : ℕ) {r : Bool} (e : Nothing ≡ how_many (firsts a number)) (told : r ≡ all_sound a) where
  pub none_absent : r ≡ true → look a number ≡ absent
  none_absent y = look_none a number e ∙ pick_true (all_sound a) absent damaged (sym told ∙ y)

  pub none_damaged : r ≡ false → look a number ≡ damaged
  none_damaged y = look_none a number e ∙ pick_false (all_sound a) absent damaged (sym told ∙ y)

-- one first block: what is found from there on
pub by_one : (a : List ℕ) (number : ℕ) {b : ℕ} {c : Chain} {room : List ℕ} → One b ≡ how_many (firsts a number) → Found a (starting_at a number b) c room → Found a (look a number) c room
by_one a number {b} {c} {room} e w = subst (λ x. Found a x c room) (sym (look_one a number e)) w

-- of the bytes that an area of blocks lends
pub found_in : {a b : List ℕ} (number : ℕ) {c : Chain} {room : List ℕ} → b ≡ a → Found b (look b number) c room → Found a (look a number) c room
found_in number {c} {room} e w = subst (λ x. Found x (look x number) c room) e w

pub missing_in : {a b : List ℕ} (number : ℕ) (x : Refusal) → b ≡ a → Missing b number x → Missing a number x
missing_in number x e w = subst (λ y. Missing y number x) e w

-- or 25, handed on
pub damaged_one : (a : List ℕ) (number : ℕ) {b : ℕ} (room : List ℕ) → One b ≡ how_many (firsts a number) → (x : Refusal) (r : Result (Option Chain) Refusal)
    → (starting_at a number b ≡ damaged) × Refuses 25 0 x → IsErrAnd r (λ y. y ≡ x) → LookSays a number r room
damaged_one a number room e x (Ok v) w h = absurd h
damaged_one a number room e x (Err y) w h = (look_one a number e ∙ w.0, subst (Refuses 25 0) (sym h) w.1)
