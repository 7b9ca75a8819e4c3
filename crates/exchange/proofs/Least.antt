-- The least placement, by one floater after another.
use mathlib.Core.Path.{◌≡◌, refl, sym, ◌∙◌, subst}
use mathlib.Core.Logic.{◌⊎◌, inl, inr, ⊎_elim}
use mathlib.Core.Bool.{Bool}
use Prim.Native.Nat.{ℕ, ◌<◌, ◌≤◌, ◌+◌}
use native.Mathlib.Omega.{arith}
use Rattle.basics.specs.Tests.{same?, below?}
use Rattle.placement_laws.specs.Standing.{Full, Good, Same, Before, Upto}
use Rattle.exchange.specs.Order.{Lowered, Settled}

pub same_more : (i : ℕ) (w v : ℕ → ℕ) → Same i w v → w i ≡ v i → Same (i + 1) w v
same_more i w v h e s l = ⊎_elim (λ (q : s ≡ i). subst (λ z. w z ≡ v z) (sym q) e) (λ n. h s (omega arith)) (same? s i)

-- w may be changed from i on
pub before_swap : (i : ℕ) (w w' v : ℕ → ℕ) → Same i w w' → Before i w v → Before i w' v
before_swap i w w' v h b =
    record {
      d =
          b.d;
      inside = b.inside;
      same = λ s l. sym (h s (omega (arith, b.inside))) ∙ b.same s l;
      less = rw (sym (h b.d b.inside)) b.less;
    }

pub before_wider : (i j : ℕ) (w v : ℕ → ℕ) → i ≤ j → Before i w v → Before j w v
before_wider i j w v l b = record { d = b.d; inside = omega (arith, b.inside); same = b.same; less = b.less }

module _ (ok : ℕ → ℕ → Bool) (k : ℕ) where
  -- ---- the least value of one floater
  -- i does not stand below y
  abbrev pub Passed : ℕ → ℕ → (ℕ → ℕ) → Type 0
  Passed i y w = (u : ℕ → ℕ) → Full ok k u → Same i w u → u i < y → ⊥

  pub passed_more : (i y : ℕ) (w : ℕ → ℕ) → Passed i y w → ((u : ℕ → ℕ) → Full ok k u → Same i w u → u i ≡ y → ⊥) → Passed i (y + 1) w
  passed_more i y w p h u f s m = ⊎_elim (λ e. h u f s e) (λ n. p u f s (omega arith)) (same? (u i) y)

  pub lowered_yes : (i y : ℕ) (w v : ℕ → ℕ) → Passed i y w → Full ok k v → Same i w v → v i ≡ y → Lowered ok k i w v
  lowered_yes i y w v p f s e = (f, s, λ u g t. ⊎_elim (λ (q : u i < y). absurd (p u g t q)) (λ (q : y ≤ u i). omega arith) (below? (u i) y))

  pub lowered_no : (i : ℕ) (w : ℕ → ℕ) → Full ok k w → ((u : ℕ → ℕ) → Full ok k u → Same i w u → u i < w i → ⊥) → Lowered ok k i w w
  lowered_no i w f r = (f, (λ s l. refl), λ u g e. ⊎_elim (λ q. absurd (r u g e q)) (λ q. q) (below? (u i) (w i)))

  -- ---- the least placement with given first floaters
  pub record Settling (from i : ℕ) (w v : ℕ → ℕ) : Type 0 where
    pub full : Full ok k v
    pub same : Same from w v
    pub least : (u : ℕ → ℕ) → Full ok k u → Same from w u → Upto i v u

  pub settle_step : (from i : ℕ) (w v v' : ℕ → ℕ) → from ≤ i → Settling from i w v → Full ok k v' → Same i v v'
      → ((u : ℕ → ℕ) → Full ok k u → Same i v u → v' i ≤ u i) → Settling from (i + 1) w v'
  settle_step from i w v v' l h f s m = record { full = f; same = λ t g. h.same t g ∙ s t (omega arith); least = least }
    where
      here : (u : ℕ → ℕ) → Full ok k u → Same i v u → Upto (i + 1) v' u
      here u g e = ⊎_elim
          (λ (q : v' i ≡ u i). inl (same_more i v' u (λ t r. sym (s t r) ∙ e t r) q))
          (λ n. inr (record { d = i; inside = omega arith; same = λ t r. sym (s t r) ∙ e t r; less = omega (arith, m u g e) }))
          (same? (v' i) (u i))

      least : (u : ℕ → ℕ) → Full ok k u → Same from w u → Upto (i + 1) v' u
      least u g e = ⊎_elim (λ q. here u g q) (λ b. inr (before_wider i (i + 1) v' u (omega arith) (before_swap i v v' u s b))) (h.least u g e)

  pub settle_end : (from : ℕ) (w v : ℕ → ℕ) → Settling from k w v → Settled ok k from w v
  settle_end from w v h = (h.full, h.same, h.least)

  -- what w has from `from` on does not matter
  pub settled_of : (from : ℕ) (w v x : ℕ → ℕ) → Same from w v → Settled ok k from v x → Settled ok k from w x
  settled_of from w v x e h = (h.0, (λ s l. e s l ∙ h.1 s l), λ u f m. h.2 u f (λ s l. sym (e s l) ∙ m s l))

module _ (ok : ℕ → ℕ → Bool) (mark : ℕ → Bool) (k : ℕ) where
  -- ---- the next
  -- nothing after w differs from it first at i or behind
  abbrev pub Nothing : ℕ → (ℕ → ℕ) → Type 0
  Nothing i w = (u : ℕ → ℕ) → Good ok mark k u → Before k w u → Before i w u

  -- i stands above where it stands in w, those below it as there
  abbrev pub Above : ℕ → (ℕ → ℕ) → (ℕ → ℕ) → Type 0
  Above i w u = Same i w u × (w i < u i)

  either : {i : ℕ} {w u : ℕ → ℕ} → Before (i + 1) w u → Before i w u ⊎ Above i w u
  either {i} {w} {u} c = ⊎_elim
      (λ (e : c.d ≡ i). inr (subst (λ z. Same z w u) e c.same, subst (λ z. w z < u z) e c.less))
      (λ m. inl (record { d = c.d; inside = omega (arith, c.inside); same = c.same; less = c.less }))
      (same? c.d i)

  pub nothing_step : (i : ℕ) (w : ℕ → ℕ) → Nothing (i + 1) w → ((u : ℕ → ℕ) → Good ok mark k u → Above i w u → ⊥) → Nothing i w
  nothing_step i w n h u f b = ⊎_elim (λ c. c) (λ a. absurd (h u f a)) (either (n u f b))

  pub next_found : (i : ℕ) (w v : ℕ → ℕ) → i < k → Nothing (i + 1) w → Good ok mark k v → Above i w v
      → ((u : ℕ → ℕ) → Good ok mark k u → Above i w u → Upto k v u)
      → Good ok mark k v × Before k w v × ((u : ℕ → ℕ) → Good ok mark k u → Before k w u → Upto k v u)
  next_found i w v l n g a least = (
    g,
    record { d = i; inside = l; same = a.0; less = a.1 },
    λ u f b. ⊎_elim (λ c. inr (before_wider i k v u (omega arith) (before_swap i w v u a.0 c))) (λ c. least u f c) (either (n u f b)),
  )
