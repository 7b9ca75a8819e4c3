-- Copies of one bracket, by their least positions. Where floater i and the further copies behind it have least positions above where i stands in w: what comes after w
-- and differs from it first at i keeps to them, since copies ascend; and the least placement that keeps to them has its copies in order, since two that stood the wrong
-- way round could change places.
use mathlib.Core.Path.{◌≡◌, refl, sym, ap, ◌∙◌, subst}
use mathlib.Core.Logic.{⊎_elim}
use mathlib.Core.Bool.{Bool, true, false, true≢false}
use mathlib.Core.List.{List}
use Prim.Native.Nat.{ℕ, zero, suc, ◌<◌, ◌≤◌, ◌+◌}
use native.Mathlib.Omega.{arith}
use lib.Dec.{eqb}
use lib.ListN.{length, set}
use borrow.Author.Tests.{eq-eqb, ne_eqb}
use Rattle.basics.specs.Tests.{same?, below?}
use Rattle.placement_laws.specs.Standing.{place, Full, Ascent, Good, Alike, Upto}
use Rattle.placement_laws.specs.Swaps.{Swapped, swap_same, swap_least}
use Rattle.placement_laws.specs.Where.{But}
use Rattle.exchange.specs.Order.{Settled}
use Rattle.exchange.specs.Table.{may_in, may_from, Lowest, RaisedTo, Raised}
use Rattle.exchange.proofs.Least.{Above}
use Rattle.exchange.proofs.Laws.{put_set, from_parts, parts_from}

-- ---- all floaters at their least positions or above
pub from_full : (tab lows : List ℕ) (k : ℕ) (u : ℕ → ℕ) → Full (may_from tab lows) k u → Full (may_in tab) k u
from_full tab lows k u f = record { fits = λ s l. (from_parts tab lows s (u s) (f.fits s l)).1; apart = f.apart }

pub full_from : (tab lows : List ℕ) (k : ℕ) (u : ℕ → ℕ) → ((s : ℕ) → s < k → place lows s ≤ u s) → Full (may_in tab) k u → Full (may_from tab lows) k u
full_from tab lows k u h f = record { fits = λ s l. parts_from tab lows s (u s) (h s l) (f.fits s l); apart = f.apart }

-- no floater stands below the first of its positions
pub lowest_from : (tab lows : List ℕ) (k : ℕ) (u : ℕ → ℕ) → Lowest tab k lows → Full (may_in tab) k u → Full (may_from tab lows) k u
lowest_from tab lows k u h f = full_from tab lows k u (λ s l. h s (u s) l (f.fits s l)) f

-- ---- least positions raised one by one
pub raised_start : (mark : ℕ → Bool) (k i low : ℕ) (old : List ℕ) → i < k → i < length old → RaisedTo mark k i low (i + 1) old (set old i low)
raised_start mark k i low old l m =
    let p = put_set old i low m in
    record {
      some = omega arith;
      inside = omega arith;
      further = λ s a b. absurd (omega arith);
      raised = λ s a b. let e : s ≡ i = omega arith in subst (λ z. place (set old i low) z ≡ low) (sym e) p.here;
      before = λ s a. p.else s (λ e. omega arith);
      behind = λ s a. p.else s (λ e. omega arith);
    }

pub raised_more : (mark : ℕ → Bool) (k i low end : ℕ) (old lows : List ℕ) → end < k → end < length lows → mark end ≡ true
    → RaisedTo mark k i low end old lows → RaisedTo mark k i low (end + 1) old (set lows end low)
raised_more mark k i low end old lows l m e r =
    let p = put_set lows end low m in
    record {
      some = omega (arith, r.some);
      inside = omega arith;
      further = λ s a b. ⊎_elim (λ (q : s ≡ end). subst (λ z. mark z ≡ true) (sym q) e) (λ n. r.further s a (omega arith)) (same? s end);
      raised = λ s a b. ⊎_elim (λ (q : s ≡ end). subst (λ z. place (set lows end low) z ≡ low) (sym q) p.here) (λ n. p.else s n ∙ r.raised s a (omega arith)) (same? s end);
      before = λ s a. p.else s (λ q. omega (arith, r.some)) ∙ r.before s a;
      behind = λ s a. p.else s (λ q. omega arith) ∙ r.behind s (omega arith);
    }

-- ---- s and the one behind it in each other's place
swap : ℕ → (ℕ → ℕ) → ℕ → ℕ
swap s w t = elim (eqb t s) [ true ↦ w (s + 1) | false ↦ elim (eqb t (s + 1)) [ true ↦ w s | false ↦ w t ] ]

is_swapped : (s : ℕ) (w : ℕ → ℕ) → Swapped s w (swap s w)
unfolding swap
is_swapped s w =
    record {
      here = rw (swap, eq-eqb s s refl);
      behind = rw (swap, ne_eqb (s + 1) s (λ e. omega arith), eq-eqb (s + 1) (s + 1) refl);
      else = λ t n m. rw (swap, ne_eqb t s n, ne_eqb t (s + 1) m);
    }

module _ (tab : List ℕ) (mark : ℕ → Bool) (k i low : ℕ) (old lows : List ℕ) (lowest : Lowest tab k old) (r : Raised mark k i low old lows) where
  -- a further copy of i's bracket stands above i
  higher : (u : ℕ → ℕ) → Ascent mark k u → (s : ℕ) → i < s → s < r.end → u i < u s
  higher u a zero l m = absurd (omega arith)
  higher u a (suc s) l m =
      let e : s + 1 ≡ suc s = omega arith in
      let up : u s < u (suc s) = subst (λ z. u s < u z) e (a s (omega (arith, r.to.inside)) (rw e (r.to.further (suc s) l m))) in
      ⊎_elim (λ (q : s ≡ i). subst (λ z. u z < u (suc s)) q up) (λ q. let z = higher u a s (omega arith) (omega arith) in omega (arith, z, up)) (same? s i)

  -- outside of the run nothing is raised
  outside : (s x : ℕ) → s < k → may_in tab s x ≡ true → (i ≤ s → s < r.end → place lows s ≤ x) → place lows s ≤ x
  outside s x l o h = ⊎_elim
      (λ (q : s < i). rw (r.to.before s q) (lowest s x l o))
      (λ (q : i ≤ s). ⊎_elim (λ m. h q m) (λ m. rw (r.to.behind s m) (lowest s x l o)) (below? s r.end))
      (below? s i)

  -- i at `low` or above: all keep to their least positions
  pub above_from : (u : ℕ → ℕ) → Good (may_in tab) mark k u → low ≤ u i → Full (may_from tab lows) k u
  above_from u g h = full_from tab lows k u stands g.full
    where
      run : (s : ℕ) → i ≤ s → s < r.end → place lows s ≤ u s
      run s l m = rw (r.to.raised s l m)
          (⊎_elim (λ (e : s ≡ i). subst (λ z. low ≤ u z) (sym e) h) (λ n. let z = higher u g.ascent s (omega arith) m in omega (arith, z, h)) (same? s i))

      stands : (s : ℕ) → s < k → place lows s ≤ u s
      stands s l = outside s (u s) l (g.full.fits s l) (run s)

  module _ (w : ℕ → ℕ) (good : Good (may_in tab) mark k w) (at : low ≡ w i + 1) where
    -- in w all but i do
    pub all_but : But (may_from tab lows) k i w
    all_but = record {
      fits = λ s l n. parts_from tab lows s (w s) (outside s (w s) l (good.full.fits s l) (run s n)) (good.full.fits s l);
      apart = λ s t l m ns nt e. good.full.apart s t l m e;
    }
      where
        run : (s : ℕ) → (s ≡ i → ⊥) → i ≤ s → s < r.end → place lows s ≤ w s
        run s n l m = rw (r.to.raised s l m) (let z = higher w good.ascent s (omega arith) m in omega (arith, z, at))

    -- what comes after w and differs from it first at i
    pub above_all : (u : ℕ → ℕ) → Good (may_in tab) mark k u → Above (may_in tab) mark k i w u → Full (may_from tab lows) k u
    above_all u g a = above_from u g (omega (arith, a.1, at))

    module _ (alike : Alike (may_in tab) mark k) (v : ℕ → ℕ) (least : Settled (may_from tab lows) k i w v) where
      abbrev full : Full (may_from tab lows) k v
      full = least.0

      may : (s : ℕ) → s < k → (place lows s ≤ v s) × (may_in tab s (v s) ≡ true)
      may s l = from_parts tab lows s (v s) (full.fits s l)

      -- two of one run have one least position
      pair : (s : ℕ) → s + 1 < k → i ≤ s → mark (s + 1) ≡ true → v (s + 1) < v s → (may_from tab lows s (v (s + 1)) ≡ true) × (may_from tab lows (s + 1) (v s) ≡ true)
      pair s l m e h = (
        parts_from tab lows s (v (s + 1)) (outside s (v (s + 1)) (omega arith) o.0 (λ a b. rw (r.to.raised s a b) (low_behind (onward b)))) o.0,
        parts_from tab lows (s + 1) (v s) (outside (s + 1) (v s) l o.1 (λ a b. rw (r.to.raised (s + 1) a b) (let z = low_behind b in omega (arith, z, h)))) o.1,
      )
        where
          o : (may_in tab s (v (s + 1)) ≡ true) × (may_in tab (s + 1) (v s) ≡ true)
          o = alike s (v s) (v (s + 1)) l e (may s (omega arith)).1 (may (s + 1) l).1 h

          onward : s < r.end → s + 1 < r.end
          onward b = ⊎_elim
              (λ (q : s + 1 ≡ r.end). absurd (true≢false (sym e ∙ ap mark q ∙ r.ends (omega (arith, q)))))
              (λ n. omega arith)
              (same? (s + 1) r.end)

          low_behind : s + 1 < r.end → low ≤ v (s + 1)
          low_behind b = let z = (may (s + 1) l).0 in let q = r.to.raised (s + 1) (omega arith) b in omega (arith, z, q)

      up : w i < v i
      up = let z = (may i (omega (arith, r.to.some, r.to.inside))).0 in let q = r.to.raised i (omega arith) r.to.some in omega (arith, z, q, at)

      ascent : Ascent mark k v
      ascent s l e = ⊎_elim
          (λ (q : s < i). ⊎_elim (λ (m : s + 1 < i). let a = least.1 s q in let b = least.1 (s + 1) m in let c = good.ascent s l e in omega (arith, a, b, c))
          (λ (m : i ≤ s + 1). let n : s + 1 ≡ i = omega arith in let a = least.1 s q in let c : w s < w i = subst (λ z. w s < w z) n (good.ascent s l e) in subst (λ z. v s < v z) (sym n) (omega (arith, a, c, up))) (below? (s + 1) i))
          (λ (q : i ≤ s). swap_least (may_from tab lows) k s v (swap s v) l (is_swapped s v) full (pair s l q e)
          (λ f. least.2 (swap s v) f (λ t m. least.1 t m ∙ swap_same (may_from tab lows) k s v (swap s v) l (is_swapped s v) t (omega arith))))
          (below? s i)

      -- the least placement that keeps to them is the one after w
      pub least_good : Good (may_in tab) mark k v
      least_good = record { full = from_full tab lows k v full; ascent = ascent }

      pub least_above : Above (may_in tab) mark k i w v
      least_above = (least.1, up)

      pub least_first : (u : ℕ → ℕ) → Good (may_in tab) mark k u → Above (may_in tab) mark k i w u → Upto k v u
      least_first u g a = least.2 u (above_all u g a) a.0
