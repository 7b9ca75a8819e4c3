-- A placement of k floaters exists, or some set of them has fewer permitted positions than members, and never both (Hall). `top`: past every position.
use Rattle.std.specs.Prelude.{◌≡◌, refl, ◌⊎◌, ◌↔◌, Bool, ◌&&◌, eqb}
use Rattle.std.proofs.Common.{sym, ap, ◌∙◌, subst, true≢false, arith, eqb-true, eq-eqb}
use Rattle.std.proofs.Math.Logic.{inl, inr, ⊎_elim}
use Rattle.std.proofs.Math.Bool.{true}
use Prim.Native.Nat.{ℕ, zero, suc, ◌<◌, ◌≤◌, ◌+◌, ◌-◌}
use Rattle.basics.specs.Tests.{test, same?, both, both_of}
use Rattle.placement_laws.specs.Standing.{Full}
use Rattle.placement_laws.specs.Where.{But, FreeBut, Grown, Shifting}
use Rattle.placement_laws.specs.Exchange.{pigeon, grow_step, grow_start, shift_start, shift_step, shift_end}
use Rattle.placement_laws.specs.Counts.{count, some, some_true, some_in, Listing, listing, upd, put_upd}

-- the members of the set m, of k floaters, have fewer positions than they are
pub record Short (ok : ℕ → ℕ → Bool) (k top : ℕ) (m : ℕ → Bool) : Type 0 where
  pub fewer : count top (λ x. some k (λ s. m s && ok s x)) < count k m

-- ---- a search that ends: one below n with P, or all with Q
decide : (n : ℕ) (P Q : ℕ → Type 0) → ((x : ℕ) → x < n → P x ⊎ Q x) → ((x : ℕ) × (x < n) × P x) ⊎ ((x : ℕ) → x < n → Q x)
decide zero P Q h = inr (λ x l. absurd (omega arith))
decide (suc n) P Q h = ⊎_elim
    (λ z. inl (z.0, omega (arith, z.1), z.2))
    (λ q. ⊎_elim (λ a. inl (n, omega arith, a)) (λ b. inr (λ x l. ⊎_elim (λ (e : x ≡ n). subst Q (sym e) b) (λ d. q x (omega arith)) (same? x n))) (h n (omega arith)))
    (decide n P Q (λ x l. h x (omega arith)))

-- n different floaters whose positions are all among n - 1
pub record Violator (ok : ℕ → ℕ → Bool) (k : ℕ) : Type 0 where
  pub n : ℕ
  pub order : ℕ → ℕ
  pub g : ℕ → ℕ
  pub inside : (a : ℕ) → a < n → order a < k
  pub apart : (a b : ℕ) → a < n → b < n → order a ≡ order b → a ≡ b
  pub any : 0 < n
  pub cover : (a x : ℕ) → a < n → ok (order a) x ≡ true → (c : ℕ) × (c < n - 1) × (x ≡ g c)

pub grown_le : (ok : ℕ → ℕ → Bool) (k f j : ℕ) (w : ℕ → ℕ) (n : ℕ) (order par : ℕ → ℕ) → Grown ok k f j w n order par → n ≤ k
grown_le ok k f j w n order par g = pigeon n k order (λ a. a) g.apart (λ a l. (order a, g.high a l, refl))

module _ (ok : ℕ → ℕ → Bool) (top : ℕ) (bound : (s x : ℕ) → ok s x ≡ true → x < top) where
  shift_run : (fuel k f j : ℕ) (w₀ : ℕ → ℕ) (n : ℕ) (order par : ℕ → ℕ) (a x : ℕ) (w : ℕ → ℕ) → a ≤ fuel → Grown ok k f j w₀ n order par
      → Shifting ok k f j w₀ n order a x w → (v : ℕ → ℕ) × Full ok k v
  shift_run zero k f j w₀ n order par a x w l g s =
      let e : a ≡ 0 = omega arith in
      (upd (order 0) x w, (shift_end ok k f j w₀ n order par x w (upd (order 0) x w) g (subst (λ z. Shifting ok k f j w₀ n order z x w) e s) (put_upd (order 0) x w)).0)
  shift_run (suc fuel) k f j w₀ n order par a x w l g s = ⊎_elim
      (λ (e : a ≡ 0). shift_run fuel k f j w₀ n order par 0 x w (omega arith) g (subst (λ z. Shifting ok k f j w₀ n order z x w) e s))
      (λ d. let pos : 0 < a = omega arith in
      shift_run fuel k f j w₀ n order par (par a) (w (order a)) (upd (order a) x w) (omega (arith, g.back a pos s.inside)) g
      (shift_step ok k f j w₀ n order par a x w (upd (order a) x w) g s pos (put_upd (order a) x w)))
      (same? a 0)

  module _ (k j : ℕ) (w : ℕ → ℕ) (but : But ok k j w) where
    Open : ℕ → ℕ → Type 0
    Open s x = (ok s x ≡ true) × FreeBut k j w x

    Held : ℕ → ℕ → Type 0
    Held s x = ok s x ≡ true → (t : ℕ) × (t < k) × (t ≡ j → ⊥) × (w t ≡ x)

    holder : (x t : ℕ) → ((t ≡ j → ⊥) × (w t ≡ x)) ⊎ ((t ≡ j → ⊥) → w t ≡ x → ⊥)
    holder x t = ⊎_elim (λ e. inr (λ n q. n e)) (λ n. ⊎_elim (λ e. inl (n, e)) (λ d. inr (λ m e. d e)) (same? (w t) x)) (same? t j)

    open_or_held : (s x : ℕ) → Open s x ⊎ Held s x
    unfolding Open Held
    open_or_held s x = ⊎_elim
        (λ o. ⊎_elim (λ z. inr (λ q. (z.0, z.1, z.2.0, z.2.1))) (λ h. inl (o, λ t l n e. h t l n e)) (decide k (λ t. (t ≡ j → ⊥) × (w t ≡ x)) (λ t. (t ≡ j → ⊥) → w t ≡ x → ⊥) (λ t l. holder x t)))
        (λ o. inr (λ q. absurd (true≢false (sym q ∙ o))))
        (test (ok s x))

    More : ℕ → Type 0
    More n = (order' : ℕ → ℕ) × (par' : ℕ → ℕ) × Grown ok k 0 j w (n + 1) order' par'

    -- a node of the tree with an open position, or with a neighbour that is new; or none
    step : (n : ℕ) (order par : ℕ → ℕ) → Grown ok k 0 j w n order par → (((v : ℕ → ℕ) × Full ok k v) ⊎ Violator ok k) ⊎ More n
    unfolding Open Held More
    step n order par g = ⊎_elim
        (λ z. inl (inl (shift_run z.0 k 0 j w n order par z.0 z.2.0 w (omega arith) g (shift_start ok k 0 j w n order z.0 z.2.0 but z.1 z.2.1.0 z.2.1.1))))
        (λ held. ⊎_elim
        (λ z. inr (more z.0 z.2.0 z.1 z.2.1 z.2.2 z.2.3))
        (λ shut. inl (inr (end held shut)))
        (decide n (λ a. (t : ℕ) × (t < k) × (ok (order a) (w t) ≡ true) × ((b : ℕ) → b < n → order b ≡ t → ⊥)) (λ a. (t : ℕ) → t < k → ok (order a) (w t) ≡ true → (b : ℕ) × (b < n) × (order b ≡ t)) (λ a i. neighbour a)))
        (decide n (λ a. (x : ℕ) × Open (order a) x) (λ a. (x : ℕ) → Held (order a) x) (λ a i. spare a))
      where
        spare : (a : ℕ) → ((x : ℕ) × Open (order a) x) ⊎ ((x : ℕ) → Held (order a) x)
        spare a = ⊎_elim (λ z. inl (z.0, z.2)) (λ h. inr (λ x o. h x (bound (order a) x o) o)) (decide top (λ x. Open (order a) x) (λ x. Held (order a) x) (λ x i. open_or_held (order a) x))

        listed : (t : ℕ) → ((b : ℕ) × (b < n) × (order b ≡ t)) ⊎ ((b : ℕ) → b < n → order b ≡ t → ⊥)
        listed t = decide n (λ b. order b ≡ t) (λ b. order b ≡ t → ⊥) (λ b i. same? (order b) t)

        new? : (a t : ℕ) → ((ok (order a) (w t) ≡ true) × ((b : ℕ) → b < n → order b ≡ t → ⊥)) ⊎ (ok (order a) (w t) ≡ true → (b : ℕ) × (b < n) × (order b ≡ t))
        new? a t = ⊎_elim (λ o. ⊎_elim (λ z. inr (λ q. z)) (λ h. inl (o, h)) (listed t)) (λ o. inr (λ q. absurd (true≢false (sym q ∙ o)))) (test (ok (order a) (w t)))

        neighbour : (a : ℕ) → ((t : ℕ) × (t < k) × (ok (order a) (w t) ≡ true) × ((b : ℕ) → b < n → order b ≡ t → ⊥)) ⊎ ((t : ℕ) → t < k → ok (order a) (w t) ≡ true → (b : ℕ) × (b < n) × (order b ≡ t))
        neighbour a = ⊎_elim (λ z. inl (z.0, z.1, z.2.0, z.2.1)) (λ h. inr h)
            (decide k (λ t. (ok (order a) (w t) ≡ true) × ((b : ℕ) → b < n → order b ≡ t → ⊥)) (λ t. ok (order a) (w t) ≡ true → (b : ℕ) × (b < n) × (order b ≡ t)) (λ t i. new? a t))

        end : ((a : ℕ) → a < n → (x : ℕ) → Held (order a) x) → ((a : ℕ) → a < n → (t : ℕ) → t < k → ok (order a) (w t) ≡ true → (b : ℕ) × (b < n) × (order b ≡ t)) → Violator ok k
        end held shut = record { n = n; order = order; g = λ c. w (order (c + 1)); inside = g.high; apart = g.apart; any = g.some; cover = cover }
          where
            cover : (a x : ℕ) → a < n → ok (order a) x ≡ true → (c : ℕ) × (c < n - 1) × (x ≡ w (order (c + 1)))
            cover a x i o = found (held a i x o)
              where
                found : (t : ℕ) × (t < k) × (t ≡ j → ⊥) × (w t ≡ x) → (c : ℕ) × (c < n - 1) × (x ≡ w (order (c + 1)))
                found z = at (shut a i z.0 z.1 (rw z.3 o))
                  where
                    at : (b : ℕ) × (b < n) × (order b ≡ z.0) → (c : ℕ) × (c < n - 1) × (x ≡ w (order (c + 1)))
                    at y =
                        let later : y.0 ≡ 0 → ⊥ = λ e. z.2 (sym y.2 ∙ ap order e ∙ g.root) in
                        let back : y.0 - 1 + 1 ≡ y.0 = omega arith in
                        (y.0 - 1, omega (arith, y.1), sym z.3 ∙ sym (ap w (ap order back ∙ y.2)))

        more : (a t : ℕ) → a < n → t < k → ok (order a) (w t) ≡ true → ((b : ℕ) → b < n → order b ≡ t → ⊥) → (order' : ℕ → ℕ) × (par' : ℕ → ℕ) × Grown ok k 0 j w (n + 1) order' par'
        more a t i lt o new =
            (upd n t order, upd n a par, grow_step ok k 0 j w n order par (upd n t order) (upd n a par) a t g (omega arith) lt i new o (put_upd n t order) (put_upd n a par))

    explore : (fuel n : ℕ) (order par : ℕ → ℕ) → k ≤ n + fuel → Grown ok k 0 j w n order par → ((v : ℕ → ℕ) × Full ok k v) ⊎ Violator ok k
    unfolding More
    explore zero n order par l g = ⊎_elim (λ z. z) (λ z. absurd (omega (arith, grown_le ok k 0 j w (n + 1) z.0 z.1 z.2))) (step n order par g)
    explore (suc fuel) n order par l g = ⊎_elim (λ z. z) (λ z. explore fuel (n + 1) z.0 z.1 (omega arith) z.2) (step n order par g)

  -- every k floaters have a placement or a violator
  pub either : (k : ℕ) → ((w : ℕ → ℕ) × Full ok k w) ⊎ Violator ok k
  either zero = inl ((λ s. s), record { fits = λ s l. absurd (omega arith); apart = λ s t l m e. e })
  either (suc k) = ⊎_elim
      (λ z. explore (suc k) k z.0 (but z) (suc k) 1 (λ a. k) (λ a. a) (omega arith) (grow_start ok (suc k) 0 k z.0 (λ a. k) (λ a. a) refl (omega arith) (omega arith)))
      (λ v. inr (record { n = v.n; order = v.order; g = v.g; inside = λ a l. omega (arith, v.inside a l); apart = v.apart; any = v.any; cover = v.cover }))
      (either k)
    where
      but : (z : (w : ℕ → ℕ) × Full ok k w) → But ok (suc k) k z.0
      but z = record { fits = λ s l n. z.1.fits s (omega arith); apart = λ s t l m n o e. z.1.apart s t (omega arith) (omega arith) e }

  -- a violator is a set with fewer positions than members
  short : (k : ℕ) → Violator ok k → (m : ℕ → Bool) × Short ok k top m
  short k v = (m, record { fewer = omega (arith, v.any, members, union) })
    where
      m : ℕ → Bool
      m s = some v.n (λ a. eqb (v.order a) s)

      u : ℕ → Bool
      u x = some k (λ s. m s && ok s x)

      lm : Listing k m (count k m)
      lm = listing k m

      lu : Listing top u (count top u)
      lu = listing top u

      members : v.n ≤ count k m
      members = pigeon v.n (count k m) v.order lm.nth v.apart
          (λ a l. let z = lm.all (v.order a) (v.inside a l) (some_in v.n a (λ b. eqb (v.order b) (v.order a)) l (eq-eqb (v.order a) (v.order a) refl)) in (z.0, z.1, sym z.2))

      union : count top u ≤ v.n - 1
      union = pigeon (count top u) (v.n - 1) lu.nth v.g lu.apart (λ i l. into (lu.nth i) (some_true k (λ s. m s && ok s (lu.nth i)) (lu.holds i l)))
        where
          into : (x : ℕ) → (s : ℕ) × (s < k) × ((m s && ok s x) ≡ true) → (c : ℕ) × (c < v.n - 1) × (x ≡ v.g c)
          into x z = go (both_of (m z.0) (ok z.0 x) z.2)
            where
              go : (m z.0 ≡ true) × (ok z.0 x ≡ true) → (c : ℕ) × (c < v.n - 1) × (x ≡ v.g c)
              go q = let y = some_true v.n (λ a. eqb (v.order a) z.0) q.0 in
                  v.cover y.0 x y.1 (rw (eqb-true (v.order y.0) z.0 y.2) q.1)

  -- and with such a set there is no placement
  never_both : (k : ℕ) (m : ℕ → Bool) → Short ok k top m → (w : ℕ → ℕ) → Full ok k w → ⊥
  never_both k m h w f = omega (arith, h.fewer, fits)
    where
      u : ℕ → Bool
      u x = some k (λ s. m s && ok s x)

      lm : Listing k m (count k m)
      lm = listing k m

      lu : Listing top u (count top u)
      lu = listing top u

      fits : count k m ≤ count top u
      fits = pigeon (count k m) (count top u) (λ i. w (lm.nth i)) lu.nth
          (λ a b l o e. lm.apart a b l o (f.apart (lm.nth a) (lm.nth b) (lm.inside a l) (lm.inside b o) e))
          (λ a l. let o = f.fits (lm.nth a) (lm.inside a l) in
          let z = lu.all (w (lm.nth a)) (bound (lm.nth a) (w (lm.nth a)) o) (some_in k (lm.nth a) (λ s. m s && ok s (w (lm.nth a))) (lm.inside a l) (both (m (lm.nth a)) (ok (lm.nth a) (w (lm.nth a))) (lm.holds a l) o)) in
          (z.0, z.1, sym z.2))

  pub hall : (k : ℕ) → ((w : ℕ → ℕ) → Full ok k w → ⊥) ↔ ((m : ℕ → Bool) × Short ok k top m)
  hall k = ((λ none. ⊎_elim (λ z. absurd (none z.0 z.1)) (λ v. short k v) (either k)), (λ z w f. never_both k z.0 z.1 w f))
