-- The chain of an entry, gathered block by block: what was gathered, and the chain from here on, are the whole chain. Assumes nothing.
use mathlib.Core.Path.{◌≡◌, refl, sym, ap, ap₂, ◌∙◌, subst}
use mathlib.Core.Bool.{Bool, true, false, ◌&&◌, ◌||◌}
use mathlib.Core.Option.{Option, none, some}
use mathlib.Core.List.{List, [], ◌∷◌, ◌++◌, append_assoc}
use Prim.Native.Nat.{ℕ, zero, suc, ◌+◌, ◌-◌, ◌*◌, ◌≤◌, ◌<◌}
use mathlib.Core.Logic.{⊎_elim}
use native.Mathlib.Omega.{arith}
use native.Mathlib.Numerals.{add-one}
use borrow.Author.Tests.{eq-eqb, ne_eqb, eqb-true, leb-true, ltb-true}
use lib.Dec.{eqb}
use lib.ListN.{length, take, drop, set, length-append, length-drop, length-set}
use lib.Seq.{length-take-le, take_at, take-append-add, take-suc-set}
use Rattle.scope.specs.Limits.{line_limit}
use Rattle.scope.specs.Lists.{given, optional, part}
use Rattle.basics.specs.Choice.{pick_false, pick_none}
use Rattle.basics.specs.Each.{Each, each_snoc}
use Rattle.basics.specs.Tests.{and_left, and_right, below?}
use Rattle.blocks.specs.Block.{content_at, content_room, further_kind, no_next, block_kind, used_length, next_block, content_in, is_last, is_padded, is_sound, sum_at, entry_number, weight}
use Rattle.blocks.specs.LowFirst.{little}
use Rattle.blocks.specs.Area.{blocks_in, block_at, sound_at, carries, put_at}
use Rattle.blocks.specs.Chain.{Chain, links, before, alone, follow}
use Rattle.blocks.specs.Entry.{position_bytes, is_stated, damaged, whole, starting_at}
use Rattle.blocks.specs.Sizes.{chain_most, chain_room}
use Rattle.chains.specs.Whole.{Whole}
use Rattle.chains.specs.Says.{GatheredSays}
use Rattle.chains.proofs.Lent.{content_long}
use Rattle.chains.proofs.TooLong.{not_stated}

-- ---- what a block that links says
-- the second of two holds where the first does not
other : (s t : Bool) → (s || t) ≡ true → s ≡ false → t ≡ true
other s t e f = subst (λ z. (z || t) ≡ true) f e

sound_next : (n : ℕ) (x : List ℕ) → is_sound n x ≡ true → is_last x ≡ false → next_block x < n
unfolding is_sound
sound_next n x e f = ltb-true (next_block x) n (other _ _ (and_right (eqb (little (drop sum_at x)) (weight 0 (take sum_at x))) _ e) f)

module _ (a : List ℕ) (number kind b : ℕ) (e : links a number kind b ≡ true) where
  linked : (carries a number b ≡ true) × (is_padded (block_at a b) ≡ true) × ((is_last (block_at a b) || eqb (used_length (block_at a b)) content_room) ≡ true)
  unfolding links
  linked =
      let x = block_at a b in
      let k : Bool = eqb (block_kind x) kind in
      let ends : Bool = is_last x || eqb (used_length x) content_room in
      let p = and_left (k && carries a number b && is_padded x) ends e in
      let q = and_left (k && carries a number b) (is_padded x) p in
      (and_right k (carries a number b) q, and_right (k && carries a number b) (is_padded x) p, and_right (k && carries a number b && is_padded x) ends e)

  -- its content has room
  pub used_few : used_length (block_at a b) ≤ content_room
  unfolding is_padded
  used_few = leb-true (used_length (block_at a b)) content_room (and_left _ _ linked.1)

  -- "every block but an entry's last full"
  pub used_full : is_last (block_at a b) ≡ false → used_length (block_at a b) ≡ content_room
  used_full f = eqb-true (used_length (block_at a b)) content_room (other _ _ linked.2 f)

  -- "its next is in the area or 255"
  pub next_inside : is_last (block_at a b) ≡ false → next_block (block_at a b) < blocks_in a
  unfolding carries sound_at
  next_inside f = sound_next (blocks_in a) (block_at a b) (and_right (eqb (entry_number (block_at a b)) number) _ linked.0) f

-- ---- the chain from a block on
module _ (a : List ℕ) (number kind b : ℕ) where
  pub follow_none : (m : ℕ) → links a number kind b ≡ false → follow m a number kind b ≡ none
  unfolding follow
  follow_none zero e = refl
  follow_none (suc m) e = rw e

  module _ (m m' : ℕ) (one : m ≡ suc m') (e : links a number kind b ≡ true) where
    pub follow_last : is_last (block_at a b) ≡ true → follow m a number kind b ≡ some (alone b (block_at a b))
    unfolding follow
    follow_last f = rw (one, e, f)

    pub follow_on : is_last (block_at a b) ≡ false
        → follow m a number kind b ≡ optional (before b (block_at a b)) (follow m' a number further_kind (next_block (block_at a b)))
    unfolding follow
    follow_on f = rw (one, e, f)

  pub follow_end : (m : ℕ) → m ≡ 0 → follow m a number kind b ≡ none
  unfolding follow
  follow_end m e = rw e

-- ---- blocks and content before a chain, where there is one
unfoldable pub prefixed : List ℕ → List ℕ → Option Chain → Option Chain
prefixed bs c o = optional (λ t. record { blocks = bs ++ t.blocks; content = c ++ t.content }) o

prefixed_nothing : (o : Option Chain) → o ≡ prefixed [] [] o
unfolding prefixed
prefixed_nothing none = refl
prefixed_nothing (some t) = refl

prefixed_none : (bs c : List ℕ) → prefixed bs c none ≡ none
unfolding prefixed
prefixed_none bs c = refl

prefixed_last : (bs c : List ℕ) (b : ℕ) (x : List ℕ)
    → prefixed bs c (some (alone b x)) ≡ some (record { blocks = bs ++ (b ∷ []); content = c ++ content_in x })
unfolding prefixed
prefixed_last bs c b x = refl

prefixed_before : (bs c : List ℕ) (b : ℕ) (x : List ℕ) (o : Option Chain)
    → prefixed bs c (optional (before b x) o) ≡ prefixed (bs ++ (b ∷ [])) (c ++ content_in x) o
unfolding prefixed
prefixed_before bs c b x none = refl
prefixed_before bs c b x (some t) =
    ap₂ (λ l m. some (record { blocks = l; content = m })) (sym (append_assoc bs (b ∷ []) t.blocks)) (sym (append_assoc c (content_in x) t.content))

-- one behind a content that is too long is no entry
prefixed_long : (kind : ℕ) (bs c : List ℕ) (o : Option Chain) → position_bytes kind + line_limit < length c
    → given (prefixed bs c o) (whole kind) damaged ≡ damaged
unfolding prefixed
prefixed_long kind bs c none h = refl
prefixed_long kind bs c (some t) h =
    let long = length-append c t.content in
    pick_false (is_stated kind (c ++ t.content)) _ damaged (not_stated kind (c ++ t.content) (omega arith))

-- ---- the room
take_put : (at m : ℕ) (x l : List ℕ) → length x ≡ m → at ≤ length l → take (at + m) (put_at at x l) ≡ take at l ++ x
take_put at m x l e h =
    let rest = drop (at + length x) l in
    ap (λ i. take (i + m) (take at l ++ (x ++ rest))) (sym (length-take-le at l h))
    ∙ take-append-add (take at l) (x ++ rest) m
    ∙ ap (λ z. take at l ++ z) (take_at x rest m e)

put_long : (at m : ℕ) (x l : List ℕ) → length x ≡ m → at + m ≤ length l → length (put_at at x l) ≡ length l
put_long at m x l e h =
    let rest = drop (at + length x) l in
    let front = length-append (take at l) (x ++ rest) in
    let back = length-append x rest in
    let left = length-drop (at + length x) l in
    let begin = length-take-le at l (omega arith) in
    omega arith

-- ---- after k blocks, at block b, of so many at most
pub record Following (a : List ℕ) (n number first most : ℕ) (room blocks : List ℕ) (kind b k : ℕ) : Type 0 where
  pub area : Whole a n
  pub left : follow n a number (block_kind (block_at a first)) first ≡ prefixed (take k blocks) (take (k * content_room) room) (follow (n - k) a number kind b)
  pub here : b < n
  pub inside : Each (λ x. x < n) (take k blocks)
  pub few : k ≤ most
  pub high : most ≤ n
  pub low : most ≤ chain_most
  pub cut : most < n → most ≡ chain_most
  pub long : length room ≡ chain_room
  pub row : length blocks ≡ chain_most

pub following_start : {a : List ℕ} {n number first most kind : ℕ} (room blocks : List ℕ) → Whole a n → first < n → kind ≡ block_kind (block_at a first)
    → (most ≤ n) × (most ≤ chain_most) × (most < n → most ≡ chain_most) → length room ≡ chain_room → length blocks ≡ chain_most
    → Following a n number first most room blocks kind first 0
following_start {a} {n} {number} {first} room blocks w h e l r q =
    let none : n ≡ n - 0 = omega arith in
    record {
      area = w;
      left = prefixed_nothing (follow n a number (block_kind (block_at a first)) first)
          ∙ ap₂ (λ m k. prefixed [] [] (follow m a number k first)) none (sym e);
      here = h;
      inside = tt;
      few = omega arith;
      high = l.0;
      low = l.1;
      cut = l.2;
      long = r;
      row = q;
    }

module _ {a : List ℕ} {n number first most : ℕ} {room blocks : List ℕ} {kind b k : ℕ} (w : Following a n number first most room blocks kind b k) where
  -- the entry, by the chain from here on
  starting : {o : Option Chain} → follow (n - k) a number kind b ≡ o
      → starting_at a number first ≡ given (prefixed (take k blocks) (take (k * content_room) room) o) (whole (block_kind (block_at a first))) damaged
  starting e =
      ap (λ m. given (follow m a number (block_kind (block_at a first)) first) (whole (block_kind (block_at a first))) damaged) w.area.many
      ∙ ap (λ o. given o (whole (block_kind (block_at a first))) damaged) (w.left ∙ ap (prefixed (take k blocks) (take (k * content_room) room)) e)

  -- the chain breaks off
  starting_none : follow (n - k) a number kind b ≡ none → starting_at a number first ≡ damaged
  starting_none e = starting e ∙ pick_none _ _ damaged (prefixed_none (take k blocks) (take (k * content_room) room))

  pub breaks : {r : Bool} → r ≡ links a number kind b → r ≡ false → starting_at a number first ≡ damaged
  breaks e f = starting_none (follow_none a number kind b (n - k) (sym e ∙ f))

  -- as many blocks as the area has, or as an entry takes: one more would be met twice, or make the line too long
  pub ends : most ≤ k → starting_at a number first ≡ damaged
  ends h = ⊎_elim (λ more. overfull (w.cut more)) (λ none. starting_none (follow_end a number kind b (n - k) (omega arith))) (below? most n)
    where
      overfull : most ≡ chain_most → starting_at a number first ≡ damaged
      overfull e =
          let few = w.few in
          let long = w.long in
          let full : k * content_room ≡ chain_room = omega arith in
          let taken : length (take (k * content_room) room) ≡ k * content_room = length-take-le (k * content_room) room (omega arith) in
          starting refl ∙ prefixed_long (block_kind (block_at a first)) (take k blocks) (take (k * content_room) room) (follow (n - k) a number kind b) (omega arith)

  -- ---- a block that links, its content copied
  module _ (less : k < most) {r : Bool} (told : r ≡ links a number kind b) (yes : r ≡ true) {m : ℕ} (used : m ≡ used_length (block_at a b)) where
    -- the bytes have room in the block, and in what is lent
    pub content_few : m ≤ content_room
    content_few = let few = used_few a number kind b (sym told ∙ yes) in omega arith

    pub content_fits : k * content_room + m ≤ length room
    content_fits = let few = content_few in let low = w.low in let long = w.long in omega arith

    -- one block more, and its content
    blocks_more : take (k + 1) (set blocks k b) ≡ take k blocks ++ (b ∷ [])
    blocks_more = let row = w.row in let low = w.low in ap (λ i. take i (set blocks k b)) (add-one k) ∙ take-suc-set blocks k b (omega arith)

    inside_more : Each (λ x. x < n) (take (k + 1) (set blocks k b))
    inside_more = subst (λ l. Each (λ x. x < n) l) (sym blocks_more) (each_snoc (λ x. x < n) (take k blocks) b w.inside w.here)

    module _ {room' : List ℕ} (put : room' ≡ put_at (k * content_room) (part content_at m (block_at a b)) room) where
      content_more : take (k * content_room + m) room' ≡ take (k * content_room) room ++ content_in (block_at a b)
      content_more =
          let fits = content_fits in
          ap (take (k * content_room + m)) put
          ∙ take_put (k * content_room) m (part content_at m (block_at a b)) room (content_long w.area w.here m content_few) (omega arith)
          ∙ ap (λ i. take (k * content_room) room ++ part content_at i (block_at a b)) used

      room_long : length room' ≡ chain_room
      room_long =
          ap length put
          ∙ put_long (k * content_room) m (part content_at m (block_at a b)) room (content_long w.area w.here m content_few) content_fits
          ∙ w.long

      -- it is the last
      pub gathered : {next : ℕ} → next ≡ next_block (block_at a b) → next ≡ no_next
          → GatheredSays a number first (k + 1) (k * content_room + m) (set blocks k b) room'
      gathered q f =
          let x = block_at a b in
          let high = w.high in
          let last : is_last x ≡ true = eq-eqb (next_block x) no_next (sym q ∙ f) in
          let ending = follow_last a number kind b (n - k) (n - (k + 1)) (omega arith) (sym told ∙ yes) last in
          let chain =
          w.left
          ∙ ap (prefixed (take k blocks) (take (k * content_room) room)) ending
          ∙ prefixed_last (take k blocks) (take (k * content_room) room) b x
          ∙ ap₂ (λ l c. some (record { blocks = l; content = c })) (sym blocks_more) (sym content_more) in
          record {
            chain = ap (λ i. follow i a number (block_kind (block_at a first)) first) w.area.many ∙ chain;
            inside = subst (λ i. Each (λ y. y < i) (take (k + 1) (set blocks k b))) (sym w.area.many) inside_more;
          }

      -- it is not: the chain goes on
      pub following_more : {next : ℕ} → next ≡ next_block (block_at a b) → (next ≡ no_next → ⊥)
          → Following a n number first most room' (set blocks k b) further_kind next (k + 1)
      following_more {next} q f =
          let x = block_at a b in
          let high = w.high in
          let on : is_last x ≡ false = ne_eqb (next_block x) no_next (λ z. f (q ∙ z)) in
          let linked = sym told ∙ yes in
          let full : m ≡ content_room = used ∙ used_full a number kind b linked on in
          let filled : k * content_room + m ≡ (k + 1) * content_room = omega arith in
          let onward = follow_on a number kind b (n - k) (n - (k + 1)) (omega arith) linked on in
          let inner = next_inside a number kind b linked on in
          let many = w.area.many in
          let rest = follow (n - (k + 1)) a number further_kind next in
          record {
            area = w.area;
            left =
                w.left
                ∙ ap (prefixed (take k blocks) (take (k * content_room) room)) (onward ∙ ap (λ i. optional (before b x) (follow (n - (k + 1)) a number further_kind i)) (sym q))
                ∙ prefixed_before (take k blocks) (take (k * content_room) room) b x rest
                ∙ ap₂ (λ l c. prefixed l c rest) (sym blocks_more) (sym content_more ∙ ap (λ i. take i room') filled);
            here = omega arith;
            inside = inside_more;
            few = omega arith;
            high = high;
            low = w.low;
            cut = w.cut;
            long = room_long;
            row = length-set blocks k b ∙ w.row;
          }
