-- The steps of the code, one law for each: what a test of the table says, how the tree grows by one floater, that a search through it ends in a way up or in none,
-- and what one floater at one position does.
use mathlib.Core.Path.{◌≡◌, refl, sym, ap, ◌∙◌, subst}
use mathlib.Core.Bool.{Bool, true, false, true≢false}
use mathlib.Core.Logic.{⊎_elim}
use mathlib.Core.List.{List}
use Prim.Native.Nat.{ℕ, ◌<◌, ◌≤◌, ◌+◌, ◌*◌}
use native.Mathlib.Omega.{arith}
use Rattle.std.specs.Prelude.{Option, None, Some, is_none}
use lib.Dec.{eqb, leb, ltb}
use lib.ListN.{length, get_or, set}
use lib.Seq.{get_or-set_same, get_or-set_other}
use borrow.Author.Tests.{ltb-true, lt-ltb, leb-true, le-leb, lt-leb, eq-eqb, ne_eqb}
use Rattle.scope.specs.Limits.{position_limit}
use Rattle.placement_laws.specs.Standing.{place, Full, Same}
use Rattle.placement_laws.specs.Where.{But, FreeBut, Grown}
use Rattle.placement_laws.specs.Exchange.{Put, Shut, pigeon, grow_step, stuck, shift_start, fill, full_but}
use Rattle.exchange.specs.Order.{Verdict, Tried}
use Rattle.exchange.proofs.Least.{same_more}
use Rattle.areas.specs.Floats.{Sized}
use Rattle.basics.specs.Tests.{same?, below?, and_left, both_of, both}
use Rattle.exchange.specs.declared.Standing.{Standing}
use Rattle.exchange.specs.Table.{may_in, may_from, Open, Owned, Owner, Walkable, Growing, Grew, GrownIn, Shifted, Taken, Augmentable, Augmented, ReadyFrom}

pub put_set : (l : List ℕ) (i x : ℕ) → i < length l → Put i x (place l) (place (set l i x))
put_set l i x h = record { here = get_or-set_same l i x 0 h; else = λ t n. get_or-set_other l i t x 0 n }

pub ok_small : (tab : List ℕ) (s x : ℕ) → may_in tab s x ≡ true → x < position_limit
unfolding may_in
ok_small tab s x e = ltb-true x position_limit (and_left (ltb x position_limit) (eqb (get_or tab (s * position_limit + x) 0) 1) e)

pub from_parts : (tab lows : List ℕ) (s x : ℕ) → may_from tab lows s x ≡ true → (place lows s ≤ x) × (may_in tab s x ≡ true)
unfolding may_from
from_parts tab lows s x e = let z = both_of (leb (place lows s) x) (may_in tab s x) e in (leb-true (place lows s) x z.0, z.1)

pub parts_from : (tab lows : List ℕ) (s x : ℕ) → place lows s ≤ x → may_in tab s x ≡ true → may_from tab lows s x ≡ true
unfolding may_from
parts_from tab lows s x h e = both (leb (place lows s) x) (may_in tab s x) (le-leb (place lows s) x h) e

pub from_small : (tab lows : List ℕ) (s x : ℕ) → may_from tab lows s x ≡ true → x < position_limit
from_small tab lows s x e = ok_small tab s x (from_parts tab lows s x e).1

pub from_low : (tab lows : List ℕ) (s x : ℕ) → x < place lows s → may_from tab lows s x ≡ false
unfolding may_from
from_low tab lows s x h = rw (lt-leb (place lows s) x h)

pub from_high : (tab lows : List ℕ) (s x : ℕ) → place lows s ≤ x → may_from tab lows s x ≡ may_in tab s x
unfolding may_from
from_high tab lows s x h = rw (le-leb (place lows s) x h)

pub ok_is : (tab : List ℕ) (s x : ℕ) → x < position_limit → may_in tab s x ≡ eqb (get_or tab (s * position_limit + x) 0) 1
unfolding may_in
ok_is tab s x h = rw (lt-ltb x position_limit h)

pub yes : {b : Bool} (A B : Type 0) → b ≡ true → Verdict b A B → A
yes {b} A B e v = rw e at v

pub no : {b : Bool} (A B : Type 0) → b ≡ false → Verdict b A B → B
no {b} A B e v = rw e at v

pub open_not : (tab w : List ℕ) (k j s x : ℕ) → may_in tab s x ≡ false → Open tab w k j s x false
open_not tab w k j s x e z = absurd (true≢false (sym z ∙ e))

pub open_law : (tab w : List ℕ) (k j s x : ℕ) (r : Option ℕ) → may_in tab s x ≡ true → Owned w k j x r → Open tab w k j s x (is_none r)
open_law tab w k j s x None o h = (o, h)
open_law tab w k j s x (Some t) o h = λ m. (t, h.inside, h.other, h.stands)

-- ---- the tree
upd : ℕ → ℕ → (ℕ → ℕ) → ℕ → ℕ
upd s x w t = elim (eqb t s) [ true ↦ x | false ↦ w t ]

put_upd : (s x : ℕ) (w : ℕ → ℕ) → Put s x w (upd s x w)
unfolding upd
put_upd s x w = record { here = rw (upd, eq-eqb s s refl); else = λ t n. rw (upd, ne_eqb t s n) }

pub grown_le : (ok : ℕ → ℕ → Bool) (k f j : ℕ) (w : ℕ → ℕ) (n : ℕ) (order parent : ℕ → ℕ) → Grown ok k f j w n order parent → n ≤ k
grown_le ok k f j w n order parent g = pigeon n k order (λ a. a) g.apart (λ a l. (order a, g.high a l, refl))

pub grown_less : (ok : ℕ → ℕ → Bool) (k f j : ℕ) (w : ℕ → ℕ) (n : ℕ) (order parent : ℕ → ℕ) (h t : ℕ) → Grown ok k f j w n order parent → f ≤ t
    → t < k → h < n
    → ((a : ℕ) → a < n → order a ≡ t → ⊥) → ok (order h) (w t) ≡ true → n < k
grown_less ok k f j w n order parent h t g ft tk hn new o =
    omega (
      arith,
      grown_le ok k f j w (n + 1) (upd n t order) (upd n h parent)
          (grow_step ok k f j w n order parent (upd n t order) (upd n h parent) h t g ft tk hn new o (put_upd n t order) (put_upd n h parent)),
    )

pub grew_same : (tab lows : List ℕ) (k f h : ℕ) (w : List ℕ) (t n : ℕ) (order parent : List ℕ) → Growing tab lows k f h w n order parent
    → (may_from tab lows (place order h) (place w t) ≡ true → (b : ℕ) × (b < n) × (place order b ≡ t)) → Grew tab lows k f h w t (t + 1) n order n order parent
grew_same tab lows k f h w t n order parent g r =
    record { grown = g.grown; more = omega arith; same = λ s l. refl; reach = reach }
  where
    reach : (u : ℕ) → t ≤ u → u < t + 1 → may_from tab lows (place order h) (place w u) ≡ true → (b : ℕ) × (b < n) × (place order b ≡ u)
    reach u l m o =
        let e : t ≡ u = omega arith in subst (λ z. (b : ℕ) × (b < n) × (place order b ≡ z)) e (r (subst (λ z. may_from tab lows (place order h) (place w z) ≡ true) (sym e) o))

pub grew_push : (tab lows : List ℕ) (k f h : ℕ) (w : List ℕ) (t n : ℕ) (order parent : List ℕ) → Growing tab lows k f h w n order parent → f ≤ t → t < k
    → ((a : ℕ) → a < n → place order a ≡ t → ⊥) → may_from tab lows (place order h) (place w t) ≡ true → n < length order → n < length parent
    → Grew tab lows k f h w t (t + 1) n order (n + 1) (set order n t) (set parent n h)
grew_push tab lows k f h w t n order parent g ft tk new o lo lp =
    record {
      grown =
          grow_step (may_from tab lows) k f (place order 0) (place w) n (place order) (place parent) (place (set order n t)) (place (set parent n h)) h t g.grown ft tk g.inside new o p (put_set parent n h lp);
      more = omega arith;
      same = λ s l. sym (p.else s (λ e. omega arith));
      reach = reach;
    }
  where
    p : Put n t (place order) (place (set order n t))
    p = put_set order n t lo

    reach : (u : ℕ) → t ≤ u → u < t + 1 → may_from tab lows (place order h) (place w u) ≡ true → (b : ℕ) × (b < n + 1) × (place (set order n t) b ≡ u)
    reach u l m z = (n, omega arith, p.here ∙ omega arith)

pub growing_on : (tab lows : List ℕ) (k f h : ℕ) (w : List ℕ) (a b n : ℕ) (order parent : List ℕ) (n' : ℕ) (order' parent' : List ℕ)
    → Growing tab lows k f h w n order parent
    → Grew tab lows k f h w a b n order n' order' parent' → Growing tab lows k f h w n' order' parent'
growing_on tab lows k f h w a b n order parent n' order' parent' g r =
    record { sized = g.sized; grown = rw e at r.grown; but = rw e at g.but; inside = omega (arith, g.inside, r.more) }
  where
    e : place order 0 ≡ place order' 0
    e = r.same 0 g.grown.some

pub grew_trans : (tab lows : List ℕ) (k f h : ℕ) (w : List ℕ) (t n : ℕ) (order parent : List ℕ) (n' : ℕ) (order' parent' : List ℕ) (n'' : ℕ) (order'' parent'' : List ℕ) → Growing tab lows k f h w n order parent
    → Grew tab lows k f h w f t n order n' order' parent' → Grew tab lows k f h w t (t + 1) n' order' n'' order'' parent'' → Grew tab lows k f h w f (t + 1) n order n'' order'' parent''
grew_trans tab lows k f h w t n order parent n' order' parent' n'' order'' parent'' g a b =
    record {
      grown =
          rw (sym (a.same 0 g.grown.some)) at b.grown;
      more = omega (arith, a.more, b.more);
      same = λ s l. a.same s l ∙ b.same s (omega (arith, a.more));
      reach = reach;
    }
  where
    reach : (u : ℕ) → f ≤ u → u < t + 1 → may_from tab lows (place order h) (place w u) ≡ true → (c : ℕ) × (c < n'') × (place order'' c ≡ u)
    reach u l m o = ⊎_elim (λ (q : u < t). early (a.reach u l q o)) (λ (q : t ≤ u). b.reach u q m (rw (a.same h g.inside) at o)) (below? u t)
      where
        early : (c : ℕ) × (c < n') × (place order' c ≡ u) → (c : ℕ) × (c < n'') × (place order'' c ≡ u)
        early z = (z.0, omega (arith, z.1, b.more), sym (b.same z.0 z.1) ∙ z.2)

pub stands_well : (tab lows : List ℕ) (k j t : ℕ) (w : List ℕ) → But (may_from tab lows) k j (place w) → t < k → (t ≡ j → ⊥) → place w t < position_limit
stands_well tab lows k j t w b l n = from_small tab lows t (place w t) (b.fits t l n)

-- ---- the search for a way up
pub record Searching (tab lows : List ℕ) (k f j : ℕ) (w : List ℕ) (n : ℕ) (order parent : List ℕ) (h : ℕ) : Type 0 where
  pub inside : h ≤ n
  pub grown : GrownIn tab lows k f j w n order parent
  pub shut : (a : ℕ) → a < h → Shut (may_from tab lows) k f j (place w) n (place order) (place order a)

module _ (tab lows : List ℕ) (k f j : ℕ) (w : List ℕ) (ready : Augmentable tab lows k f j w) where
  module _ (n : ℕ) (order parent : List ℕ) (h : ℕ) (s : Searching tab lows k f j w n order parent h) where
    pub searching_few : n ≤ k
    searching_few = grown_le (may_from tab lows) k f j (place w) n (place order) (place parent) s.grown

    pub searching_walk : h < n → Walkable n h order parent
    searching_walk l =
        record {
          few =
              omega (arith, searching_few, ready.sized.few);
          inside = l;
          high = λ a m. omega (arith, s.grown.high a m, ready.sized.few);
          back = s.grown.back;
        }

    pub searching_found : (x : ℕ) (r : List ℕ) → h < n → may_from tab lows (place order h) x ≡ true → FreeBut k j (place w) x → Shifted w n order parent h x r
        → Full (may_from tab lows) k (place r) × Same f (place w) (place r)
    searching_found x r l o c m = m (may_from tab lows) k f j s.grown (shift_start (may_from tab lows) k f j (place w) n (place order) h x ready.but l o c)

    pub searching_step : (n' : ℕ) (order' parent' : List ℕ) → h < n → Taken tab lows k j w (place order h) → Grew tab lows k f h w f k n order n' order' parent'
        → Searching tab lows k f j w n' order' parent' (h + 1)
    searching_step n' order' parent' l t g =
        record { inside = omega (arith, g.more); grown = rw s.grown.root at g.grown; shut = shut }
      where
        onward : (a : ℕ) → a < h → Shut (may_from tab lows) k f j (place w) n (place order) (place order a)
            → Shut (may_from tab lows) k f j (place w) n' (place order') (place order a)
        onward a m q = record { full = q.full; reach = λ u lo hi o. go u (q.reach u lo hi o) }
          where
            go : (u : ℕ) → (b : ℕ) × (b < n) × (place order b ≡ u) → (b : ℕ) × (b < n') × (place order' b ≡ u)
            go u z = (z.0, omega (arith, z.1, g.more), sym (g.same z.0 z.1) ∙ z.2)

        shut : (a : ℕ) → a < h + 1 → Shut (may_from tab lows) k f j (place w) n' (place order') (place order' a)
        shut a m = ⊎_elim
            (λ (e : a ≡ h). subst (λ z. Shut (may_from tab lows) k f j (place w) n' (place order') z) (g.same h l ∙ ap (place order') (sym e)) (record { full = t; reach = g.reach }))
            (λ d. let q : a < h = omega arith in subst (λ z. Shut (may_from tab lows) k f j (place w) n' (place order') z) (g.same a (omega arith)) (onward a q (s.shut a q)))
            (same? a h)

    pub searching_end : n ≤ h → (u : ℕ → ℕ) → Full (may_from tab lows) k u → Same f (place w) u → ⊥
    searching_end l u g m = stuck (may_from tab lows) k f j (place w) n (place order) (place parent) s.grown (λ a b. s.shut a (omega arith)) u g m

-- ---- one floater at one position
module _ (tab lows : List ℕ) (k i y : ℕ) (w : List ℕ) (ready : ReadyFrom tab lows k i w) (o : may_from tab lows i y ≡ true) where
  pub attempt_used : (t : ℕ) → Owner w k i y t → t < i → (u : ℕ → ℕ) → Full (may_from tab lows) k u → Same i (place w) u → u i ≡ y → ⊥
  attempt_used t h l u f s e =
      let z : t ≡ i = f.apart t i h.inside ready.inside (sym (s t l) ∙ h.stands ∙ sym e) in omega arith

  module _ (long : i < length w) where
    put : Put i y (place w) (place (set w i y))
    put = put_set w i y long

    below : Same i (place w) (place (set w i y))
    below s l = sym (put.else s (λ e. omega arith))

    pub attempt_free : FreeBut k i (place w) y → Full (may_from tab lows) k (place (set w i y)) × Same i (place w) (place (set w i y)) × (place (set w i y) i ≡ y)
    attempt_free h =
        (fill (may_from tab lows) k i y (place w) (place (set w i y)) (full_but (may_from tab lows) k i (place w) ready.full) o (λ s m n e. h s m n e) put, below, put.here)

    pub attempt_augmented : (r : Option Standing) → Augmented tab lows k (i + 1) (set w i y) r → Tried (may_from tab lows) k i y (place w) r
    attempt_augmented (Some v) a = (a.0, (λ s l. below s l ∙ a.1 s (omega arith)), sym (a.1 i (omega arith)) ∙ put.here)
    attempt_augmented None a = λ u f s e. a u f (same_more i (place (set w i y)) u (λ q l. sym (below q l) ∙ s q l) (put.here ∙ sym e))

pub attempt_not : (tab lows : List ℕ) (k i y : ℕ) (w : List ℕ) → i < k → may_from tab lows i y ≡ false → (u : ℕ → ℕ) → Full (may_from tab lows) k u → Same i (place w) u
    → u i ≡ y → ⊥
attempt_not tab lows k i y w l n u f s e = true≢false (sym (rw e at (f.fits i l)) ∙ n)

-- ---- the first
pub full_small : (tab : List ℕ) (k s : ℕ) (w : ℕ → ℕ) → Full (may_in tab) k w → s < k → w s < position_limit
full_small tab k s w f l = ok_small tab s (w s) (f.fits s l)

pub full_less : (ok : ℕ → ℕ → Bool) (k m : ℕ) (w : ℕ → ℕ) → m ≤ k → Full ok k w → Full ok m w
full_less ok k m w l f = record { fits = λ s h. f.fits s (omega arith); apart = λ s t a b e. f.apart s t (omega arith) (omega arith) e }

pub one_more : (tab lows : List ℕ) (k m : ℕ) (w : List ℕ) → Sized tab k → m < k → Full (may_from tab lows) m (place w) → Augmentable tab lows (m + 1) 0 m w
one_more tab lows k m w s l f =
    record {
      sized = record { room = s.room; few = omega (arith, s.few) };
      low = omega arith;
      high = omega arith;
      but = record {
        fits = λ t h n. f.fits t (omega arith);
        apart = λ t u h g n o e. f.apart t u (omega arith) (omega arith) e;
      };
    }
