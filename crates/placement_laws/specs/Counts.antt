-- How many numbers below a bound pass a test, whether some does, and the list of those that do.
use Rattle.std.specs.Prelude.{◌≡◌, refl, ◌⊎◌, Bool, true, false, cond, ◌||◌, ℕ, zero, suc, ◌<◌, eqb}
use Rattle.std.proofs.Common.{sym, ap, ◌∙◌, subst, inl, inr, ⊎_elim, true≢false, arith, eq-eqb, ne_eqb}
use Rattle.std.proofs.lemmas.Bool.{false≢true}
use Rattle.basics.specs.Tests.{same?, one_of, or_first, or_second}
use Rattle.placement_laws.specs.Exchange.{Put}

-- how many below n
unfoldable pub count : ℕ → (ℕ → Bool) → ℕ
count zero p = 0
count (suc n) p = cond (p n) (suc (count n p)) (count n p)

-- is there one below n?
unfoldable pub some : ℕ → (ℕ → Bool) → Bool
some zero p = false
some (suc n) p = p n || some n p

pub some_true : (n : ℕ) (p : ℕ → Bool) → some n p ≡ true → (a : ℕ) × (a < n) × (p a ≡ true)
unfolding some
some_true zero p e = absurd (false≢true e)
some_true (suc n) p e = ⊎_elim (λ h. (n, omega arith, h)) (λ h. let z = some_true n p h in (z.0, omega (arith, z.1), z.2)) (one_of (p n) (some n p) e)

pub some_in : (n a : ℕ) (p : ℕ → Bool) → a < n → p a ≡ true → some n p ≡ true
unfolding some
some_in zero a p l e = absurd (omega arith)
some_in (suc n) a p l e = ⊎_elim (λ (q : a ≡ n). or_first (p n) (some n p) (subst (λ z. p z ≡ true) q e)) (λ d. or_second (p n) (some n p) (some_in n a p (omega arith) e)) (same? a n)

pub some_same : (n : ℕ) (p q : ℕ → Bool) → ((s : ℕ) → s < n → p s ≡ q s) → some n p ≡ some n q
unfolding some
some_same zero p q h = refl
some_same (suc n) p q h = rw (h n (omega arith), some_same n p q (λ s l. h s (omega arith)))

-- those below n, one after the other
pub record Listing (n : ℕ) (p : ℕ → Bool) (c : ℕ) : Type 0 where
  pub nth : ℕ → ℕ
  pub inside : (i : ℕ) → i < c → nth i < n
  pub holds : (i : ℕ) → i < c → p (nth i) ≡ true
  pub apart : (i j : ℕ) → i < c → j < c → nth i ≡ nth j → i ≡ j
  pub all : (x : ℕ) → x < n → p x ≡ true → (i : ℕ) × (i < c) × (nth i ≡ x)

abbrev pub upd : ℕ → ℕ → (ℕ → ℕ) → ℕ → ℕ
upd s x w t = elim (eqb t s) [ true ↦ x | false ↦ w t ]

pub put_upd : (s x : ℕ) (w : ℕ → ℕ) → Put s x w (upd s x w)
put_upd s x w = record { here = rw (upd, eq-eqb s s refl); else = λ t n. rw (upd, ne_eqb t s n) }

pub listing : (n : ℕ) (p : ℕ → Bool) → Listing n p (count n p)
unfolding count
listing zero p = record { nth = λ i. i; inside = λ i l. absurd (omega arith); holds = λ i l. absurd (omega arith); apart = λ i j l m e. e; all = λ x l e. absurd (omega arith) }
listing (suc n) p = go (p n) refl (listing n p)
  where
    go : (b : Bool) → p n ≡ b → Listing n p (count n p) → Listing (suc n) p (cond b (suc (count n p)) (count n p))
    go false e h = record {
      nth = h.nth;
      inside = λ i l. omega (arith, h.inside i l);
      holds = h.holds;
      apart = h.apart;
      all = λ x l q. h.all x (⊎_elim (λ (d : x ≡ n). absurd (true≢false (sym q ∙ ap p d ∙ e))) (λ d. omega arith) (same? x n)) q;
    }
    go true e h = record { nth = v; inside = inside; holds = holds; apart = apart; all = all }
      where
        c : ℕ
        c = count n p

        v : ℕ → ℕ
        v = upd c n h.nth

        here : v c ≡ n
        here = (put_upd c n h.nth).here

        old : (i : ℕ) → i < c → v i ≡ h.nth i
        old i l = (put_upd c n h.nth).else i (λ e. omega arith)

        cases : (i : ℕ) → i < suc c → ((i ≡ c) × (v i ≡ n)) ⊎ ((i < c) × (v i ≡ h.nth i))
        cases i l = ⊎_elim (λ (d : i ≡ c). inl (d, ap v d ∙ here)) (λ d. let q : i < c = omega arith in inr (q, old i q)) (same? i c)

        inside : (i : ℕ) → i < suc c → v i < suc n
        inside i l = ⊎_elim (λ d. omega (arith, d.1)) (λ d. omega (arith, d.1, h.inside i d.0)) (cases i l)

        holds : (i : ℕ) → i < suc c → p (v i) ≡ true
        holds i l = ⊎_elim (λ d. ap p d.1 ∙ e) (λ d. ap p d.1 ∙ h.holds i d.0) (cases i l)

        apart : (i j : ℕ) → i < suc c → j < suc c → v i ≡ v j → i ≡ j
        apart i j l m q = ⊎_elim
            (λ a. ⊎_elim (λ b. a.0 ∙ sym b.0) (λ b. absurd (omega (arith, a.1, b.1, h.inside j b.0))) (cases j m))
            (λ a. ⊎_elim (λ b. absurd (omega (arith, a.1, b.1, h.inside i a.0))) (λ b. h.apart i j a.0 b.0 (sym a.1 ∙ q ∙ b.1)) (cases j m))
            (cases i l)

        all : (x : ℕ) → x < suc n → p x ≡ true → (i : ℕ) × (i < suc c) × (v i ≡ x)
        all x l q = ⊎_elim (λ (d : x ≡ n). (c, omega arith, here ∙ sym d)) (λ d. let z = h.all x (omega arith) q in (z.0, omega (arith, z.1), old z.0 z.1 ∙ z.2)) (same? x n)
