-- What an exchange keeps: floaters that move from place to place, and the proof that none can where the search finds nothing.
use Rattle.std.specs.Prelude.{◌≡◌, refl, ◌⊎◌, Bool, true, false, ℕ, zero, suc, ◌<◌, ◌≤◌, ◌+◌, ◌-◌, eqb}
use Rattle.std.proofs.Common.{sym, ap, ◌∙◌, inl, inr, ⊎_elim, arith, eq-eqb, ne_eqb}
use Rattle.basics.specs.Tests.{same?, below?}
use Rattle.placement_laws.specs.Standing.{Full, Same}
use Rattle.placement_laws.specs.Where.{But, FreeBut, Grown, Shifting}

-- v is w, with x at s
pub record Put (s x : ℕ) (w v : ℕ → ℕ) : Type 0 where
  pub here : v s ≡ x
  pub else : (t : ℕ) → (t ≡ s → ⊥) → v t ≡ w t

pub put_cases : (s x t : ℕ) (w v : ℕ → ℕ) → Put s x w v → ((t ≡ s) × (v t ≡ x)) ⊎ ((t ≡ s → ⊥) × (v t ≡ w t))
put_cases s x t w v p = ⊎_elim (λ e. inl (e, ap v e ∙ p.here)) (λ n. inr (n, p.else t n)) (same? t s)

module _ (ok : ℕ → ℕ → Bool) where
  pub fill : (k j x : ℕ) (w v : ℕ → ℕ) → But ok k j w → ok j x ≡ true → FreeBut k j w x → Put j x w v → Full ok k v
  fill k j x w v b o c p = record { fits = fits; apart = apart }
    where
      fits : (s : ℕ) → s < k → ok s (v s) ≡ true
      fits s h = ⊎_elim (λ e. rw (e.1, e.0) o) (λ n. rw n.1 (b.fits s h n.0)) (put_cases j x s w v p)

      apart : (s t : ℕ) → s < k → t < k → v s ≡ v t → s ≡ t
      apart s t hs ht e = ⊎_elim
          (λ a. ⊎_elim (λ d. a.0 ∙ sym d.0) (λ d. absurd (c t ht d.0 (sym d.1 ∙ sym e ∙ a.1))) (put_cases j x t w v p))
          (λ a. ⊎_elim (λ d. absurd (c s hs a.0 (sym a.1 ∙ e ∙ d.1))) (λ d. b.apart s t hs ht a.0 d.0 (sym a.1 ∙ e ∙ d.1)) (put_cases j x t w v p))
          (put_cases j x s w v p)

  pub move : (k j s x : ℕ) (w v : ℕ → ℕ) → But ok k j w → s < k → (s ≡ j → ⊥) → ok s x ≡ true → FreeBut k j w x → Put s x w v
      → But ok k j v × FreeBut k j v (w s)
  move k j s x w v b hs sj o c p = (record { fits = fits; apart = apart }, clear)
    where
      fits : (t : ℕ) → t < k → (t ≡ j → ⊥) → ok t (v t) ≡ true
      fits t h n = ⊎_elim (λ e. rw (e.1, e.0) o) (λ m. rw m.1 (b.fits t h n)) (put_cases s x t w v p)

      apart : (t u : ℕ) → t < k → u < k → (t ≡ j → ⊥) → (u ≡ j → ⊥) → v t ≡ v u → t ≡ u
      apart t u ht hu nt nu e = ⊎_elim
          (λ a. ⊎_elim (λ d. a.0 ∙ sym d.0) (λ d. absurd (c u hu nu (sym d.1 ∙ sym e ∙ a.1))) (put_cases s x u w v p))
          (λ a. ⊎_elim (λ d. absurd (c t ht nt (sym a.1 ∙ e ∙ d.1))) (λ d. b.apart t u ht hu nt nu (sym a.1 ∙ e ∙ d.1)) (put_cases s x u w v p))
          (put_cases s x t w v p)

      clear : FreeBut k j v (w s)
      clear t ht nt e = ⊎_elim
          (λ a. c s hs sj (sym e ∙ a.1))
          (λ a. a.0 (b.apart t s ht hs nt sj (sym a.1 ∙ e)))
          (put_cases s x t w v p)

  -- ---- moving up
  pub shift_step : (k f j : ℕ) (w₀ : ℕ → ℕ) (n : ℕ) (order parent : ℕ → ℕ) (a x : ℕ) (w v : ℕ → ℕ) → Grown ok k f j w₀ n order parent
      → Shifting ok k f j w₀ n order a x w → 0 < a → Put (order a) x w v → Shifting ok k f j w₀ n order (parent a) (w (order a)) v
  shift_step k f j w₀ n order parent a x w v g h pos p =
      record {
        but =
            m.0;
        clear = m.1;
        may = rw (h.kept a (omega arith)) (g.wants a pos h.inside);
        inside = omega (arith, lower, h.inside);
        kept = kept;
        same = same;
      }
    where
      lower : parent a < a
      lower = g.back a pos h.inside

      other : order a ≡ j → ⊥
      other e = let z : a ≡ 0 = g.apart a 0 h.inside g.some (e ∙ sym g.root) in omega arith

      m : But ok k j v × FreeBut k j v (w (order a))
      m = move k j (order a) x w v h.but (g.high a h.inside) other h.may h.clear p

      kept : (b : ℕ) → b ≤ parent a → v (order b) ≡ w₀ (order b)
      kept b l =
          p.else (order b) (λ e. let z : b ≡ a = g.apart b a (omega (arith, lower, h.inside)) h.inside e in omega (arith, lower)) ∙ h.kept b (omega (arith, lower))

      same : Same f w₀ v
      same s l = h.same s l ∙ sym (p.else s (λ e. omega (arith, g.low a h.inside)))

  pub shift_end : (k f j : ℕ) (w₀ : ℕ → ℕ) (n : ℕ) (order parent : ℕ → ℕ) (x : ℕ) (w v : ℕ → ℕ) → Grown ok k f j w₀ n order parent
      → Shifting ok k f j w₀ n order 0 x w → Put (order 0) x w v → Full ok k v × Same f w₀ v
  shift_end k f j w₀ n order parent x w v g h p = (
    fill k j x w v h.but (rw g.root at h.may) h.clear (rw g.root at p),
    λ s l. h.same s l ∙ sym (p.else s (λ e. omega (arith, g.low 0 g.some))),
  )

  pub shift_start : (k f j : ℕ) (w : ℕ → ℕ) (n : ℕ) (order : ℕ → ℕ) (a x : ℕ) → But ok k j w → a < n → ok (order a) x ≡ true → FreeBut k j w x
      → Shifting ok k f j w n order a x w
  shift_start k f j w n order a x b i o c = record { but = b; clear = c; may = o; inside = i; kept = λ b l. refl; same = λ s l. refl }

  -- ---- growing
  pub grow_start : (k f j : ℕ) (w order parent : ℕ → ℕ) → order 0 ≡ j → f ≤ j → j < k → Grown ok k f j w 1 order parent
  grow_start k f j w order parent e l h =
      record {
        some = omega arith;
        root = e;
        low = λ a i. rw (zero_of a i, e) l;
        high = λ a i. rw (zero_of a i, e) h;
        apart = λ a b i m z. omega arith;
        back = λ a z i. absurd (omega arith);
        wants = λ a z i. absurd (omega arith);
      }
    where
      zero_of : (a : ℕ) → a < 1 → a ≡ 0
      zero_of a i = omega arith

  pub grow_step : (k f j : ℕ) (w : ℕ → ℕ) (n : ℕ) (order parent order' parent' : ℕ → ℕ) (h t : ℕ) → Grown ok k f j w n order parent → f ≤ t → t < k
      → h < n
      → ((a : ℕ) → a < n → order a ≡ t → ⊥) → ok (order h) (w t) ≡ true → Put n t order order' → Put n h parent parent' → Grown ok k f j w (n + 1) order' parent'
  grow_step k f j w n order parent order' parent' h t g ft tk hn new o p q =
      record { some = omega arith; root = old 0 g.some ∙ g.root; low = low; high = high; apart = apart; back = back; wants = wants }
    where
      old : (a : ℕ) → a < n → order' a ≡ order a
      old a l = p.else a (λ e. omega arith)

      last : (a : ℕ) → a < n + 1 → (a ≡ n) ⊎ (a < n)
      last a l = ⊎_elim (λ e. inl e) (λ d. inr (omega arith)) (same? a n)

      low : (a : ℕ) → a < n + 1 → f ≤ order' a
      low a l = ⊎_elim (λ (e : a ≡ n). rw (ap order' e ∙ p.here) ft) (λ d. rw (old a d) (g.low a d)) (last a l)

      high : (a : ℕ) → a < n + 1 → order' a < k
      high a l = ⊎_elim (λ (e : a ≡ n). rw (ap order' e ∙ p.here) tk) (λ d. rw (old a d) (g.high a d)) (last a l)

      apart : (a b : ℕ) → a < n + 1 → b < n + 1 → order' a ≡ order' b → a ≡ b
      apart a b la lb e = ⊎_elim
          (λ x. ⊎_elim (λ y. x ∙ sym y) (λ y. absurd (new b y (sym (old b y) ∙ sym e ∙ ap order' x ∙ p.here))) (last b lb))
          (λ x. ⊎_elim (λ y. absurd (new a x (sym (old a x) ∙ e ∙ ap order' y ∙ p.here))) (λ y. g.apart a b x y (sym (old a x) ∙ e ∙ old b y)) (last b lb))
          (last a la)

      back : (a : ℕ) → 0 < a → a < n + 1 → parent' a < a
      back a z l = ⊎_elim (λ (e : a ≡ n). rw (ap parent' e ∙ q.here, e) hn) (λ d. rw (q.else a (λ e. omega arith)) (g.back a z d)) (last a l)

      wants : (a : ℕ) → 0 < a → a < n + 1 → ok (order' (parent' a)) (w (order' a)) ≡ true
      wants a z l = ⊎_elim (λ (e : a ≡ n). rw (ap parent' e ∙ q.here, ap order' e ∙ p.here, old h hn) o)
          (λ d. let b : parent a < n = omega (arith, g.back a z d) in rw (q.else a (λ e. omega arith), old a d, old (parent a) b) (g.wants a z d)) (last a l)

  -- ---- when nothing more can move
  pub record Shut (k f j : ℕ) (w : ℕ → ℕ) (n : ℕ) (order : ℕ → ℕ) (s : ℕ) : Type 0 where
    pub full : (x : ℕ) → ok s x ≡ true → (t : ℕ) × (t < k) × (t ≡ j → ⊥) × (w t ≡ x)
    pub reach : (t : ℕ) → f ≤ t → t < k → ok s (w t) ≡ true → (b : ℕ) × (b < n) × (order b ≡ t)

-- n different numbers out of m: n ≤ m
pub pigeon : (n m : ℕ) (f g : ℕ → ℕ) → ((a b : ℕ) → a < n → b < n → f a ≡ f b → a ≡ b) → ((a : ℕ) → a < n → (b : ℕ) × (b < m) × (f a ≡ g b)) → n ≤ m
pigeon zero m f g inj into = omega arith
pigeon (suc n) zero f g inj into = absurd (let z = into n (omega arith) in omega (arith, z.1))
pigeon (suc n) (suc m) f g inj into = omega (arith, pigeon n m f g' (λ a b x y e. inj a b (omega arith) (omega arith) e) smaller)
  where
    end : (b : ℕ) × (b < suc m) × (f n ≡ g b)
    end = into n (omega arith)

    b₀ : ℕ
    b₀ = end.0

    g' : ℕ → ℕ
    g' c = elim (eqb c b₀) [ true ↦ g m | false ↦ g c ]

    at : g' b₀ ≡ g m
    at = rw (g', eq-eqb b₀ b₀ refl)

    off : (c : ℕ) → (c ≡ b₀ → ⊥) → g' c ≡ g c
    off c h = rw (g', ne_eqb c b₀ h)

    smaller : (a : ℕ) → a < n → (b : ℕ) × (b < m) × (f a ≡ g' b)
    smaller a l = go (into a (omega arith))
      where
        go : (b : ℕ) × (b < suc m) × (f a ≡ g b) → (b : ℕ) × (b < m) × (f a ≡ g' b)
        go z = ⊎_elim
            (λ e. (b₀, omega (arith, other, end.1), z.2 ∙ ap g e ∙ sym at))
            (λ d. (z.0, omega (arith, z.1), z.2 ∙ sym (off z.0 other)))
            (same? z.0 m)
          where
            other : z.0 ≡ b₀ → ⊥
            other e = let y : a ≡ n = inj a n (omega arith) (omega arith) (z.2 ∙ ap g e ∙ sym end.2) in omega arith

module _ (ok : ℕ → ℕ → Bool) where
  -- the floaters found are more than the positions open to them: nothing places them all
  pub stuck : (k f j : ℕ) (w : ℕ → ℕ) (n : ℕ) (order parent : ℕ → ℕ) → Grown ok k f j w n order parent
      → ((a : ℕ) → a < n → Shut ok k f j w n order (order a))
      → (v : ℕ → ℕ) → Full ok k v → Same f w v → ⊥
  stuck k f j w n order parent g shut v full same =
      omega (arith, g.some, pigeon n (n - 1) (λ a. v (order a)) (λ c. w (order (c + 1))) inj into)
    where
      inj : (a b : ℕ) → a < n → b < n → v (order a) ≡ v (order b) → a ≡ b
      inj a b la lb e = g.apart a b la lb (full.apart (order a) (order b) (g.high a la) (g.high b lb) e)

      into : (a : ℕ) → a < n → (c : ℕ) × (c < n - 1) × (v (order a) ≡ w (order (c + 1)))
      into a l = go ((shut a l).full (v (order a)) (full.fits (order a) (g.high a l)))
        where
          go : (t : ℕ) × (t < k) × (t ≡ j → ⊥) × (w t ≡ v (order a)) → (c : ℕ) × (c < n - 1) × (v (order a) ≡ w (order (c + 1)))
          go z = found ((shut a l).reach z.0 free z.1 (rw z.3 (full.fits (order a) (g.high a l))))
            where
              free : f ≤ z.0
              free =
                  ⊎_elim (λ e. absurd (let y : z.0 ≡ order a = full.apart z.0 (order a) z.1 (g.high a l) (sym (same z.0 e) ∙ z.3) in omega (arith, g.low a l))) (λ e. e) (below? z.0 f)

              found : (b : ℕ) × (b < n) × (order b ≡ z.0) → (c : ℕ) × (c < n - 1) × (v (order a) ≡ w (order (c + 1)))
              found y = (y.0 - 1, omega (arith, y.1, notfirst), sym z.3 ∙ sym (ap w (ap order back ∙ y.2)))
                where
                  notfirst : y.0 ≡ 0 → ⊥
                  notfirst e = z.2 (sym y.2 ∙ ap order e ∙ g.root)

                  back : y.0 - 1 + 1 ≡ y.0
                  back = omega (arith, notfirst)

  pub full_but : (k j : ℕ) (w : ℕ → ℕ) → Full ok k w → But ok k j w
  full_but k j w h = record { fits = λ s l n. h.fits s l; apart = λ s t ls lt ns nt e. h.apart s t ls lt e }

  -- i takes y, where t stood: all but t stand
  pub take_over : (k i t y : ℕ) (w v : ℕ → ℕ) → Full ok k w → i < k → t < k → (t ≡ i → ⊥) → ok i y ≡ true → w t ≡ y → Put i y w v → But ok k t v
  take_over k i t y w v h li lt ti o e p = record { fits = fits; apart = apart }
    where
      fits : (s : ℕ) → s < k → (s ≡ t → ⊥) → ok s (v s) ≡ true
      fits s l n = ⊎_elim (λ a. rw (a.1, a.0) o) (λ a. rw a.1 (h.fits s l)) (put_cases i y s w v p)

      apart : (s u : ℕ) → s < k → u < k → (s ≡ t → ⊥) → (u ≡ t → ⊥) → v s ≡ v u → s ≡ u
      apart s u ls lu ns nu q = ⊎_elim
          (λ a. ⊎_elim (λ d. a.0 ∙ sym d.0) (λ d. absurd (nu (h.apart u t lu lt (sym d.1 ∙ sym q ∙ a.1 ∙ sym e)))) (put_cases i y u w v p))
          (λ a. ⊎_elim (λ d. absurd (ns (h.apart s t ls lt (sym a.1 ∙ q ∙ d.1 ∙ sym e)))) (λ d. h.apart s u ls lu (sym a.1 ∙ q ∙ d.1)) (put_cases i y u w v p))
          (put_cases i y s w v p)
