-- A text cut piece by piece from the right: the ways to cut it are those to cut what is left, with the pieces found behind them. Assumes nothing.
use Rattle.std.proofs.Common.{◌≡◌, refl, sym, ap, ap₂, ◌∙◌, subst, arith, Bool, true, false, cond, true≢false, List, [], ◌∷◌, ◌++◌, append_assoc, append-nil, ℕ, ◌+◌, ◌*◌, ◌≤◌, ◌<◌, ltb, map, reverse, length, take, length-append, length-take, ltb-true, lt-ltb}
use Rattle.std.proofs.Math.Option.{Option, none, some}
use native.Mathlib.Nat.{mul-le-mul}
use Rattle.scope.specs.Bytes.{upper}
use Rattle.scope.specs.Lists.{flat, none?}
use Rattle.scope.specs.Limits.{count_limit}
use Rattle.scope.specs.Glycans.{Item, way, sugar_at, name_at, item_text, cuttings, short, short_text, count_of, item_mass, cutting_mass}
use Rattle.basics.specs.Each.{In}
use Rattle.glycan_laws.specs.Laws.{Cuts}
use Rattle.glycan_laws.proofs.Last.{last_item, one_way}
use Rattle.glycan_laws.proofs.Enumerated.{every_way}
use Rattle.glycan_laws.proofs.Written.{first_cut}
use Rattle.glycan_laws.proofs.Masses.{no_longer, small}
use Rattle.glycan_laws.proofs.Rightward.{last_on, last_off, last_always, none_last}
use Rattle.glycans.specs.Cut.{back, digits_text, piece_text, PieceAt, short_of, items_of, weight_of, weight_most, Composed}
use Rattle.glycans.proofs.Sugars.{mass_most}

-- ---- the ways to cut a text, where ys are found behind the rest
pub record Found (t rest : List ℕ) (ys : List Item) : Type 0 where
  pub on : (xs : List Item) → Cuts xs rest → Cuts (xs ++ ys) t
  pub off : (xs : List Item) → Cuts xs t → (zs : List Item) × ((xs ≡ zs ++ ys) × Cuts zs rest)

found_start : (t : List ℕ) → Found t t []
found_start t = record { on = λ xs c. subst (λ z. Cuts z t) (sym (append-nil xs)) c; off = λ xs c. (xs, (sym (append-nil xs), c)) }

found_next : {t rest : List ℕ} {ys : List Item} → Found t rest ys → (u : List ℕ) (x : Item) → last_item (reverse (map upper rest)) ≡ some (way x (reverse (map upper u))) → Found t u (x ∷ ys)
found_next {t} {rest} {ys} f u x e =
    record {
      on = λ xs c. subst (λ z. Cuts z t) (append_assoc xs (x ∷ []) ys) (f.on (xs ++ (x ∷ [])) (last_on rest u x e xs c));
      off = λ xs c. more xs (f.off xs c);
    }
  where
    more : (xs : List Item) → (zs : List Item) × ((xs ≡ zs ++ ys) × Cuts zs rest) → (zs : List Item) × ((xs ≡ zs ++ (x ∷ ys)) × Cuts zs u)
    more xs (zs, (p, c)) =
        let v = last_always rest u x e zs c in
        (v.0, (p ∙ ap (λ z. z ++ ys) v.1 ∙ append_assoc v.0 (x ∷ []) ys, last_off rest u x e v.0 (subst (λ z. Cuts z rest) v.1 c)))

-- ---- the list of ways
pub cut_nothing : Cuts [] []
unfolding flat
cut_nothing = record { good = tt; spelled = refl }

pub record TheWay (t : List ℕ) (xs : List Item) : Type 0 where
  pub cuts : Cuts xs t
  pub more : List (List Item)
  pub is : cuttings t ≡ xs ∷ more

pub the_way : (t : List ℕ) (xs : List Item) → Cuts xs t → TheWay t xs
the_way t xs c = go (cuttings t) refl ((every_way t xs).1 c)
  where
    go : (l : List (List Item)) → cuttings t ≡ l → In xs l → TheWay t xs
    go [] q h = absurd h
    go (ys ∷ l) q h =
        record { cuts = c; more = l; is = q ∙ ap (λ z. z ∷ l) (one_way t ys xs (first_cut t ys l q) c) }

no_way : (t : List ℕ) → ((xs : List Item) → Cuts xs t → ⊥) → cuttings t ≡ []
no_way t f = go (cuttings t) refl
  where
    go : (l : List (List Item)) → cuttings t ≡ l → l ≡ []
    go [] q = refl
    go (ys ∷ l) q = absurd (f ys (first_cut t ys l q))

pub some_way_lem : (t : List ℕ) → none? (cuttings t) ≡ false → (xs : List Item) × TheWay t xs
some_way_lem t e = go (cuttings t) refl e
  where
    go : (l : List (List Item)) → cuttings t ≡ l → none? l ≡ false → (xs : List Item) × TheWay t xs
    go [] q f = absurd (true≢false f)
    go (ys ∷ l) q f = (ys, record { cuts = first_cut t ys l q; more = l; is = q })

-- ---- a piece in "the list's spelling .. , a count of 1 dropped"
pub short_item_lem : (x : Item) → item_text (short x) ≡ piece_text x.name (count_of x.count)
short_item_lem x = go x.count
  where
    go : (o : Option ℕ) → item_text (short (record { name = x.name; count = o })) ≡ piece_text x.name (count_of o)
    go none = refl
    go (some n) = refl

pub short_cons : (x : Item) (ys : List Item) {i n : ℕ} → x.name ≡ i → count_of x.count ≡ n → short_text (x ∷ ys) ≡ piece_text i n ++ short_text ys
unfolding flat
short_cons x ys p q = ap (λ z. z ++ short_text ys) (short_item_lem x ∙ ap₂ piece_text p q)

-- ---- the loop: what is left of the text t, and what was found behind it
pub record SoFar (t rest : List ℕ) (size mass pieces : ℕ) : Type 0 where
  pub items : List Item
  pub found : Found t rest items
  pub room : length rest + size ≤ length t
  pub sized : size ≡ length (short_text items)
  pub weighs : cutting_mass items < weight_most → mass ≡ cutting_mass items
  pub light : mass < weight_most + weight_most
  pub counted : pieces ≡ length items
  pub few : length rest + pieces ≤ length t

pub so_far_start : (t : List ℕ) → SoFar t t 0 0 0
unfolding flat cutting_mass
so_far_start t =
    record {
      items = [];
      found = found_start t;
      room = omega arith;
      sized = refl;
      weighs = λ l. refl;
      light = omega arith;
      counted = refl;
      few = omega arith;
    }

-- the mass of a piece
piece_light : (i n : ℕ) → n ≤ count_limit → n * (sugar_at i).mass ≤ weight_most
piece_light i n few = let most = mul-le-mul few (mass_most i) in omega arith

module _ {t rest : List ℕ} {size mass pieces : ℕ} (h : SoFar t rest size mass pieces) where
  -- no piece ends what is left
  pub cut_not : last_item (back rest) ≡ none → 0 < length rest → none? (cuttings t) ≡ true
  cut_not e l = ap none? (no_way t uncut)
    where
      uncut : (xs : List Item) → Cuts xs t → ⊥
      uncut xs c =
          let z = h.found.off xs c in
          let empty = none_last rest e z.0 z.1.1 in
          omega (arith, ap length empty)

  -- a piece ends it
  module _ {start i n : ℕ} (p : PieceAt rest start i n) {d : ℕ} (digits : d ≡ length (digits_text n)) where
    piece_long : length (piece_text i n) ≡ length (name_at i) + d
    piece_long = length-append (name_at i) (digits_text n) ∙ ap (λ z. length (name_at i) + z) (sym digits)

    pub size_fits : size + (length (name_at i) + d) ≤ length t
    size_fits = omega (arith, p.room, piece_long, h.room)

    weight : item_mass p.item ≡ n * (sugar_at i).mass
    weight = ap₂ (λ x y. x * (sugar_at y).mass) p.counted p.named

    pub weight_most_lem : n * (sugar_at i).mass ≤ weight_most
    weight_most_lem = piece_light i n p.few

    pub so_far_next : {mass' : ℕ} → mass' ≡ cond (ltb mass weight_most) (mass + n * (sugar_at i).mass) mass
        → SoFar t (take start rest) (size + (length (name_at i) + d)) mass' (pieces + 1)
    unfolding cutting_mass
    so_far_next {mass'} e =
        let long : length (take start rest) ≡ start = omega (arith, length-take start rest, p.before) in
        record {
          items = p.item ∷ h.items;
          found = found_next h.found (take start rest) p.item p.last;
          room = omega (arith, p.room, piece_long, h.room);
          sized =
              ap₂ ◌+◌ h.sized (sym piece_long)
              ∙ swap (length (short_text h.items)) (length (piece_text i n))
              ∙ sym (length-append (piece_text i n) (short_text h.items))
              ∙ ap length (sym (short_cons p.item h.items p.named p.counted));
          weighs = λ b. added_up b;
          light = e_light (ltb mass weight_most) refl e;
          counted = omega (arith, h.counted);
          few = omega (arith, h.few, p.before);
        }
      where
        swap : (a b : ℕ) → a + b ≡ b + a
        swap a b = omega arith

        added_up : item_mass p.item + cutting_mass h.items < weight_most → mass' ≡ item_mass p.item + cutting_mass h.items
        added_up b =
            let before : mass ≡ cutting_mass h.items = h.weighs (omega arith) in
            let few : mass < weight_most = omega arith in
            e ∙ ap (λ z. cond z (mass + n * (sugar_at i).mass) mass) (lt-ltb mass weight_most few) ∙ ap₂ ◌+◌ before (sym weight) ∙ swap (cutting_mass h.items) (item_mass p.item)

        e_light : (b : Bool) → ltb mass weight_most ≡ b → mass' ≡ cond b (mass + n * (sugar_at i).mass) mass → mass' < weight_most + weight_most
        e_light true q f = let l = ltb-true mass weight_most q in let z = weight_most_lem in omega arith
        e_light false q f = let l = h.light in omega arith

  -- nothing is left
  pub cut_so : length rest ≡ 0 → Composed t (record { size = size; mass = mass * 100; pieces = pieces })
  cut_so z =
      let c : Cuts h.items t = h.found.on [] (subst (λ r. Cuts [] r) (sym (nothing rest z)) cut_nothing) in
      let w = the_way t h.items c in
      let light = h.light in
      record {
        cuts = ap none? w.is;
        sized = h.sized ∙ ap (λ l. length (short_of l)) (sym w.is);
        weighs = λ k. ap (λ x. x * 100) (h.weighs (small t h.items c k) ∙ ap weight_of (sym w.is));
        no_longer = subst (λ x. x ≤ length t) (sym h.sized) (no_longer t h.items c);
        small = λ k. let e = h.weighs (small t h.items c k) in let f = small t h.items c k in omega arith;
        fits = omega arith;
        counted = h.counted ∙ ap (λ l. length (items_of l)) (sym w.is);
        few = omega (arith, h.few);
      }
    where
      nothing : (l : List ℕ) → length l ≡ 0 → l ≡ []
      nothing [] e = refl
      nothing (x ∷ l) e = absurd (omega arith)
