-- Bytes put before others into an area; and what is put of a composition, piece by piece from the right: its short text, its pieces. Assumes nothing.
use Rattle.std.proofs.Common.{◌≡◌, refl, sym, ap, ap₂, ◌∙◌, subst, arith, false, List, [], ◌∷◌, ◌++◌, append_assoc, append-nil, ℕ, suc, ◌+◌, ◌-◌, ◌≤◌, ◌<◌, length, take, drop, set, length-append, add-zero, zero-add}
use Rattle.std.proofs.Math.Option.{none}
use lib.Seq.{drop-drop, set_comm, sets, sets-eq, length-sets}
use borrow.Rule.Slice.PartMut.{put_mid}
use Rattle.scope.specs.Lists.{flat, none?, laid}
use Rattle.scope.specs.Glycans.{Item, sugars, name_at, item_text, cuttings, short}
use Rattle.basics.specs.Each.{each_back}
use Rattle.basics.specs.Lists.{flat_cons, flat_snoc, flat_map}
use Rattle.glycan_laws.specs.Laws.{ItemGood, Cuts}
use Rattle.glycan_laws.proofs.Last.{last_item, nothing_last, one_way}
use Rattle.glycan_laws.proofs.Rightward.{last_off, last_always, none_last}
use Rattle.glycans.specs.Cut.{back, digits_text, piece_text, PieceAt, short_of, Room, PutBefore}
use Rattle.glycans.specs.Pieces.{piece_bytes, pieces_of}
use Rattle.glycans.proofs.Ways.{cut_nothing, short_item_lem, some_way_lem}

-- ---- stores apart from each other
set_sets : {A : Type 0} (l : List A) (a : ℕ) (u : List A) (i : ℕ) (x : A) → i < a → set (sets l a u) i x ≡ sets (set l i x) a u
set_sets l a [] i x h = refl
set_sets l a (y ∷ u) i x h = set_sets (set l a y) (suc a) u i x (omega arith) ∙ ap (λ z. sets z (suc a) u) (set_comm l a i y x (λ e. omega arith))

sets_sets : {A : Type 0} (l : List A) (a : ℕ) (u : List A) (i : ℕ) (w : List A) → i + length w ≡ a → sets (sets l a u) i w ≡ sets l i (w ++ u)
sets_sets l a u i [] h = let e : a ≡ i = omega arith in ap (λ z. sets l z u) e
sets_sets l a u i (x ∷ w) h = ap (λ z. sets z (suc i) w) (set_sets l a u i x (omega arith)) ∙ sets_sets (set l i x) a u (suc i) w (omega arith)

pub put_nothing : (area : List ℕ) (at : ℕ) → PutBefore area at [] area at
put_nothing area at = record { begins = add-zero at; put = refl }

pub put_more : {area : List ℕ} {at : ℕ} {u mid : List ℕ} {a : ℕ} {w new : List ℕ} {b : ℕ} → PutBefore area at u mid a → PutBefore mid a w new b → PutBefore area at (w ++ u) new b
put_more {area} {at} {u} {mid} {a} {w} {new} {b} p q =
    record {
      begins = omega (arith, length-append w u, p.begins, q.begins);
      put = q.put ∙ ap (λ z. sets z b w) p.put ∙ sets_sets area a u b w q.begins;
    }

pub put_long : {area : List ℕ} {at : ℕ} {w new : List ℕ} {r : ℕ} → PutBefore area at w new r → length new ≡ length area
put_long {area} {at} {w} {new} {r} p = ap length p.put ∙ length-sets area r w

-- two bytes
pub put_pair : {area : List ℕ} {at k x y : ℕ} → 2 ≤ at → k ≡ suc (at - 2) → PutBefore area at (x ∷ y ∷ []) (set (set area (at - 2) x) k y) (at - 2)
put_pair {area} {at} {k} {x} {y} h e = record { begins = omega arith; put = ap (λ z. set (set area (at - 2) x) z y) e }

-- room for two texts, one before the other
module _ {area : List ℕ} {at : ℕ} (u w : List ℕ) (room : Room area at (u ++ w)) where
  pub room_last : Room area at w
  room_last = record { front = omega (arith, room.front, length-append u w); inside = room.inside }

  pub room_first : {mid : List ℕ} {b : ℕ} → PutBefore area at w mid b → Room mid b u
  room_first q = record { front = omega (arith, room.front, length-append u w, q.begins); inside = omega (arith, room.inside, put_long q, q.begins) }

-- in front of an area
pub put_laid : {area : List ℕ} {at : ℕ} {w new : List ℕ} {r : ℕ} → PutBefore area at w new r → at ≡ length w → at ≤ length area → new ≡ laid w area
put_laid {area} {at} {w} {new} {r} p e h =
    let z : r ≡ 0 = omega (arith, p.begins) in
    p.put ∙ ap (λ i. sets area i w) z ∙ sets-eq w area 0 (omega arith) ∙ ap (λ n. w ++ drop n area) (zero-add (length w))

-- ---- the letters of a name, which end before a place
pub put_copied : {area : List ℕ} {at : ℕ} {w : List ℕ} → Room area at w → PutBefore area at w (put_mid (at - length w) (at - (at - length w)) area w) (at - length w)
put_copied {area} {at} {w} room =
    let i = at - length w in
    let k : at - i ≡ length w = omega (arith, room.front) in
    record {
      begins = omega (arith, room.front);
      put =
          ap (λ z. take i area ++ (w ++ z)) (ap (λ n. drop n (drop i area)) k ∙ drop-drop (length w) i area)
          ∙ sym (append_assoc (take i area) w (drop (i + length w) area))
          ∙ sym (sets-eq w area i (omega (arith, room.front, room.inside)));
    }

-- ---- the loop, whatever f puts of a piece: the whole w is what it puts of the pieces that are left and of those behind them
pub record Putting (f : Item → List ℕ) (w area : List ℕ) (at : ℕ) (rest cur : List ℕ) (a : ℕ) : Type 0 where
  pub left : List Item
  pub behind : List Item
  pub cuts : Cuts left rest
  pub whole : w ≡ flat f left ++ flat f behind
  pub put : PutBefore area at (flat f behind) cur a
  pub room : Room area at w

putting_start : (f : Item → List ℕ) {t w area : List ℕ} {at : ℕ} {xs : List Item} → Cuts xs t → w ≡ flat f xs → Room area at w → Putting f w area at t area at
unfolding flat
putting_start f {t} {w} {area} {at} {xs} c e room =
    record {
      left = xs;
      behind = [];
      cuts = c;
      whole = e ∙ sym (append-nil (flat f xs));
      put = put_nothing area at;
      room = room;
    }

module _ {f : Item → List ℕ} {w area : List ℕ} {at : ℕ} {rest cur : List ℕ} {a : ℕ} (h : Putting f w area at rest cur a) where
  putting_long : length cur ≡ length area
  putting_long = put_long h.put

  module _ {start i n : ℕ} (p : PieceAt rest start i n) where
    -- the pieces before it
    front : (zs : List Item) × (h.left ≡ zs ++ (p.item ∷ []))
    front = last_always rest (take start rest) p.item p.last h.left h.cuts

    cuts_front : Cuts (front.0 ++ (p.item ∷ [])) rest
    cuts_front = subst (λ z. Cuts z rest) front.1 h.cuts

    -- its name is of the list
    pub piece_listed : i < length sugars
    piece_listed = omega (arith, (each_back ItemGood front.0 (p.item ∷ []) cuts_front.good).0.listed, p.named)

    -- b is what f puts of it
    module _ {b : List ℕ} (e : f p.item ≡ b) where
      parts : w ≡ flat f front.0 ++ (b ++ flat f h.behind)
      parts =
          h.whole
          ∙ ap (λ z. flat f z ++ flat f h.behind) front.1
          ∙ ap (λ z. z ++ flat f h.behind) (flat_snoc f front.0 p.item ∙ ap (λ z. flat f front.0 ++ z) e)
          ∙ append_assoc (flat f front.0) b (flat f h.behind)

      behind_next : flat f (p.item ∷ h.behind) ≡ b ++ flat f h.behind
      behind_next = flat_cons f p.item h.behind ∙ ap (λ z. z ++ flat f h.behind) e

      pub room_piece : Room cur a b
      room_piece =
          record {
            front =
                omega (
                  arith,
                  ap length parts,
                  length-append (flat f front.0) (b ++ flat f h.behind),
                  length-append b (flat f h.behind),
                  h.put.begins,
                  h.room.front,
                );
            inside = omega (arith, putting_long, h.put.begins, h.room.inside);
          }

      pub putting_next : {new : List ℕ} {r : ℕ} → PutBefore cur a b new r → Putting f w area at (take start rest) new r
      putting_next {new} {r} q =
          record {
            left = front.0;
            behind = p.item ∷ h.behind;
            cuts = last_off rest (take start rest) p.item p.last front.0 cuts_front;
            whole = parts ∙ ap (λ z. flat f front.0 ++ z) (sym behind_next);
            put = subst (λ z. PutBefore area at z new r) (sym behind_next) (put_more h.put q);
            room = h.room;
          }

  -- no piece ends what is left: then nothing is left
  pub putting_ends : last_item (back rest) ≡ none → PutBefore area at w cur a
  unfolding flat
  putting_ends e =
      let c : Cuts h.left [] = subst (λ r. Cuts h.left r) (none_last rest e h.left h.cuts) h.cuts in
      let none : h.left ≡ [] = one_way [] h.left [] c cut_nothing in
      subst (λ z. PutBefore area at z cur a) (sym (h.whole ∙ ap (λ x. flat f x ++ flat f h.behind) none)) h.put

-- of nothing no piece is the last
pub empty_last : (rest : List ℕ) → length rest ≡ 0 → last_item (back rest) ≡ none
empty_last [] z = nothing_last
empty_last (b ∷ rest) z = absurd (omega (arith, z))

-- ---- the short text
abbrev pub short_item : Item → List ℕ
short_item x = item_text (short x)

pub short_start : (t : List ℕ) {area : List ℕ} {at : ℕ} → none? (cuttings t) ≡ false → Room area at (short_of (cuttings t)) → Putting short_item (short_of (cuttings t)) area at t area at
short_start t e room =
    let w = some_way_lem t e in
    putting_start short_item w.1.cuts (ap short_of w.1.is ∙ flat_map item_text short_item short (λ x. refl) w.0) room

module _ {w area : List ℕ} {at : ℕ} {rest cur : List ℕ} {a : ℕ} (h : Putting short_item w area at rest cur a) {start i n : ℕ} (p : PieceAt rest start i n) where
  short_piece : short_item p.item ≡ piece_text i n
  short_piece = short_item_lem p.item ∙ ap₂ piece_text p.named p.counted

  -- the digits of its count, then its name before them
  pub room_digits : Room cur a (digits_text n)
  room_digits = room_last (name_at i) (digits_text n) (room_piece h p short_piece)

  module _ {mid : List ℕ} {b : ℕ} (q : PutBefore cur a (digits_text n) mid b) where
    pub room_name : Room mid b (name_at i)
    room_name = room_first (name_at i) (digits_text n) (room_piece h p short_piece) q

    pub short_next : {new : List ℕ} {r : ℕ} → PutBefore mid b (name_at i) new r → Putting short_item w area at (take start rest) new r
    short_next o = putting_next h p short_piece (put_more q o)

-- ---- the pieces
pub pieces_start : (t : List ℕ) {area : List ℕ} {at : ℕ} → none? (cuttings t) ≡ false → at ≡ length (pieces_of (cuttings t)) → at ≤ length area
    → Putting piece_bytes (pieces_of (cuttings t)) area at t area at
pieces_start t e f h = let w = some_way_lem t e in putting_start piece_bytes w.1.cuts (ap pieces_of w.1.is) (record { front = omega arith; inside = h })

module _ {w area : List ℕ} {at : ℕ} {rest cur : List ℕ} {a : ℕ} (h : Putting piece_bytes w area at rest cur a) {start i n : ℕ} (p : PieceAt rest start i n) where
  piece_bytes_lem : piece_bytes p.item ≡ i ∷ n ∷ []
  piece_bytes_lem = ap₂ (λ x y. x ∷ y ∷ []) p.named p.counted

  pub room_pair : (2 ≤ a) × (a ≤ length cur)
  room_pair = let r = room_piece h p piece_bytes_lem in (r.front, r.inside)

  -- a number of the list is a byte
  pub name_byte : i < 256
  unfolding sugars
  name_byte = omega (arith, piece_listed h p)

  pub pieces_next : {k : ℕ} → k ≡ suc (a - 2) → Putting piece_bytes w area at (take start rest) (set (set cur (a - 2) i) k n) (a - 2)
  pieces_next e = putting_next h p piece_bytes_lem (put_pair room_pair.0 e)
