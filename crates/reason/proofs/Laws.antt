-- The steps of the search, one law for each: a floater more in the set or left out, a set with every floater decided, the positions of one floater more, the start and the end.
use mathlib.Core.Path.{◌≡◌, refl, sym, ap, ◌∙◌, subst}
use mathlib.Core.Logic.{◌⊎◌, inl, inr, ⊎_elim}
use mathlib.Core.Bool.{Bool, true, false, cond, ◌&&◌, ◌||◌}
use mathlib.Core.List.{List}
use Prim.Native.Nat.{ℕ, zero, suc, ◌<◌, ◌≤◌, ◌+◌, ◌-◌}
use native.Mathlib.Omega.{arith}
use native.Mathlib.Numerals.{add-one}
use lib.ListN.{length, get_or, set}
use lib.Seq.{get_or-set_same, get_or-set_other}
use Rattle.scope.specs.Limits.{position_limit}
use Rattle.basics.specs.Tests.{same?, both, both_of, or_first, or_second}
use Rattle.areas.specs.Floats.{Sized}
use Rattle.placement_laws.specs.Counts.{count, some, some_true, some_in, some_same}
use Rattle.placement_laws.specs.Hall.{Short}
use Rattle.placement_laws.specs.Reasons.{count_same, count_more}
use Rattle.exchange.specs.Table.{may_in}
use Rattle.placement_laws.specs.Smallest.{SameBelow, Beats, SmallestOf}
use Rattle.reason.specs.Smallest.{marked_in}
use Rattle.reason.specs.Hunt.{union, Hunting, Joined, Won, Hunted}

-- ---- counting
pub count_top : (n : ℕ) (p : ℕ → Bool) → count n p ≤ n
unfolding count
count_top zero p = omega arith
count_top (suc n) p = go (p n) (count_top n p)
  where
    go : (b : Bool) {c : ℕ} → c ≤ n → cond b (suc c) c ≤ suc n
    go true h = omega arith
    go false h = omega arith

count_none : (n : ℕ) (p : ℕ → Bool) → ((s : ℕ) → s < n → p s ≡ false) → count n p ≡ 0
unfolding count
count_none zero p h = refl
count_none (suc n) p h = rw (h n (omega arith)) (count_none n p (λ s l. h s (omega arith)))

-- one member more
count_one : (n x : ℕ) (p q : ℕ → Bool) → x < n → p x ≡ false → q x ≡ true → ((s : ℕ) → (s ≡ x → ⊥) → q s ≡ p s) → count n q ≡ suc (count n p)
unfolding count
count_one zero x p q l a b h = absurd (omega arith)
count_one (suc n) x p q l a b h = ⊎_elim last (λ d. before (p n) (h n (λ e. d (sym e))) (count_one n x p q (omega arith) a b h)) (same? x n)
  where
    last : x ≡ n → cond (q n) (suc (count n q)) (count n q) ≡ suc (cond (p n) (suc (count n p)) (count n p))
    last e =
        let a' : p n ≡ false = subst (λ z. p z ≡ false) e a in
        let b' : q n ≡ true = subst (λ z. q z ≡ true) e b in
        rw (a', b') (ap suc (count_same n q p (λ s m. h s (λ d. omega arith))))

    before : (b : Bool) → q n ≡ b → count n q ≡ suc (count n p) → cond (q n) (suc (count n q)) (count n q) ≡ suc (cond b (suc (count n p)) (count n p))
    before true e i = rw e (ap suc i)
    before false e i = rw e i

-- each further one adds one at most
count_rest : (i k : ℕ) (p : ℕ → Bool) → i ≤ k → count k p ≤ count i p + (k - i)
unfolding count
count_rest i zero p l = let z : i ≡ 0 = omega arith in rw z (omega arith)
count_rest i (suc k) p l = ⊎_elim (λ (e : i ≡ suc k). rw e (omega arith)) (λ d. let below : i ≤ k = omega arith in more below (p k) (count_rest i k p below)) (same? i (suc k))
  where
    more : i ≤ k → (b : Bool) {c : ℕ} → c ≤ count i p + (k - i) → cond b (suc c) c ≤ count i p + (suc k - i)
    more below true h = omega arith
    more below false h = omega arith

-- ---- sets that agree
union_same : (ok : ℕ → ℕ → Bool) (k : ℕ) (m p : ℕ → Bool) → SameBelow k m p → (x : ℕ) → union ok k m x ≡ union ok k p x
union_same ok k m p h x = some_same k (λ s. m s && ok s x) (λ s. p s && ok s x) (λ s l. ap (λ (z : Bool). z && ok s x) (h s l))

or_comm : (a b : Bool) → (a || b) ≡ (b || a)
or_comm true true = refl
or_comm true false = refl
or_comm false true = refl
or_comm false false = refl

module _ (tab : List ℕ) (k i n : ℕ) (marks : List Bool) (c : ℕ) (cover : List Bool) (h : Hunting tab k i n marks c cover) where
  abbrev ok : ℕ → ℕ → Bool
  ok = may_in tab

  abbrev m : ℕ → Bool
  m = marked_in marks

  -- what is covered stays covered
  under : (p : ℕ → Bool) → SameBelow i m p → c ≤ count position_limit (union ok k p)
  under p al = omega (arith, h.many, count_more position_limit (marked_in cover) (union ok k p) more)
    where
      more : (x : ℕ) → x < position_limit → marked_in cover x ≡ true → union ok k p x ≡ true
      more x l e = go (some_true i (λ s. m s && ok s x) (sym (h.covers x l) ∙ e))
        where
          go : (s : ℕ) × (s < i) × ((m s && ok s x) ≡ true) → union ok k p x ≡ true
          go z =
              let y = both_of (m z.0) (ok z.0 x) z.2 in
              some_in k z.0 (λ s. p s && ok s x) (omega (arith, z.1, h.inside)) (both (p z.0) (ok z.0 x) (sym (al z.0 z.1) ∙ y.0) y.1)

  -- a set with so many positions is no smaller than the best
  pub hunt_prune : (best : ℕ) (b : List Bool) → best ≤ c + 1 → Hunted ok k i m best b best b
  hunt_prune best b l = record { won = inl (refl, refl); least = λ p sh al. inr (refl, refl, omega (arith, sh.fewer, under p al)) }

  -- with all that are not decided, a set would have no more floaters than positions
  pub hunt_late : (best : ℕ) (b : List Bool) → n + (k - i) ≤ c → Hunted ok k i m best b best b
  hunt_late best b l =
      record {
        won = inl (refl, refl);
        least = λ p sh al. absurd (omega (arith, sh.fewer, under p al, count_rest i k p h.inside, h.size, count_same i m p al));
      }

  -- ---- every floater decided
  module _ (end : k ≤ i) where
    same : i ≡ k
    same = omega (arith, h.inside)

    sized : n ≡ count k m
    sized = h.size ∙ ap (λ z. count z m) same

    covered : c ≡ count position_limit (union ok k m)
    covered = h.many ∙ count_same position_limit (marked_in cover) (union ok k m) (λ x l. h.covers x l ∙ ap (λ z. union ok z m x) same)

    pub decided_yes : (best : ℕ) (b : List Bool) → c < n → n < best → Hunted ok k i m best b n marks
    decided_yes best b l g =
        record {
          won = inr (record { size = sized; short = record { fewer = omega (arith, sized, covered) }; agree = λ s q. refl; less = g });
          least = λ p sh al.
              let all : SameBelow k m p = λ s q. al s (omega (arith, same)) in
              inl (inr (sized ∙ count_same k m p all, inl all));
        }

    pub decided_no : (best : ℕ) (b : List Bool) → best ≤ n → Hunted ok k i m best b best b
    decided_no best b l =
        record { won = inl (refl, refl); least = λ p sh al. inr (refl, refl, omega (arith, sized, count_same k m p (λ s q. al s (omega (arith, same))))) }

  -- ---- floater i in the set, or left out
  module _ (l : i < k) (v : Bool) (long : i < length marks) where
    abbrev m' : ℕ → Bool
    m' = marked_in (set marks i v)

    below : SameBelow i m m'
    below s q = sym (get_or-set_other marks i s v false (λ e. omega arith))

    here : m' i ≡ v
    here = get_or-set_same marks i v false long

    counted : count (i + 1) m' ≡ cond (v) (suc n) n
    unfolding count
    counted = rw (add-one i) (go (sym (count_same i m m' below) ∙ sym h.size))
      where
        go : count i m' ≡ n → count (suc i) m' ≡ cond (v) (suc n) n
        go z = rw (here, z)

    joined : (x : ℕ) → union ok (i + 1) m' x ≡ ((v && ok i x) || union ok i m x)
    unfolding some
    joined x = rw (add-one i) (go (union_same ok i m m' below x))
      where
        go : union ok i m x ≡ union ok i m' x → some (suc i) (λ s. m' s && ok s x) ≡ ((v && ok i x) || union ok i m x)
        go e = rw (here, e)

  pub hunt_on : i < k → i < length marks → (c' : ℕ) (cover' : List Bool) → Joined tab i cover c' cover' → Hunting tab k (i + 1) (n + 1) (set marks i true) c' cover'
  hunt_on l long c' cover' j =
      record { sized = h.sized; inside = omega arith; size = add-one n ∙ sym (counted l true long); covers = covers; many = j.many }
    where
      covers : SameBelow position_limit (marked_in cover') (union ok (i + 1) (marked_in (set marks i true)))
      covers x q = j.all x q ∙ ap (λ z. z || ok i x) (h.covers x q) ∙ or_comm (union ok i m x) (ok i x) ∙ sym (joined l true long x)

  pub hunt_off : i < k → i < length marks → Hunting tab k (i + 1) n (set marks i false) c cover
  hunt_off l long =
      record { sized = h.sized; inside = omega arith; size = sym (counted l false long); covers = λ x q. h.covers x q ∙ sym (joined l false long x); many = h.many }

  -- first with floater i, then without it: a set found first stays among equals
  pub hunt_both : i < k → i < length marks → (best : ℕ) (b : List Bool) (n₁ : ℕ) (r₁ : List Bool) (n₂ : ℕ) (r₂ : List Bool)
      → Hunted ok k (i + 1) (marked_in (set marks i true)) best b n₁ r₁ → Hunted ok k (i + 1) (marked_in (set marks i false)) n₁ r₁ n₂ r₂ → Hunted ok k i m best b n₂ r₂
  hunt_both l long best b n₁ r₁ n₂ r₂ f g = record { won = won g.won; least = least }
    where
      on : SameBelow i m (marked_in (set marks i true))
      on = below l true long

      off : SameBelow i m (marked_in (set marks i false))
      off = below l false long

      top : n₁ ≤ best
      top = ⊎_elim (λ e. omega (arith, e.0)) (λ w. omega (arith, w.less)) f.won

      lower : Won ok k (i + 1) (marked_in (set marks i true)) best n₁ (marked_in r₁) → Won ok k i m best n₁ (marked_in r₁)
      lower w = record { size = w.size; short = w.short; agree = λ s q. on s q ∙ w.agree s (omega arith); less = w.less }

      won : ((n₂ ≡ n₁) × (r₂ ≡ r₁)) ⊎ Won ok k (i + 1) (marked_in (set marks i false)) n₁ n₂ (marked_in r₂) → ((n₂ ≡ best) × (r₂ ≡ b)) ⊎ Won ok k i m best n₂ (marked_in r₂)
      won (inl e) = ⊎_elim (λ d. inl (e.0 ∙ d.0, e.1 ∙ d.1)) (λ w. inr (kept (lower w))) f.won
        where
          kept : Won ok k i m best n₁ (marked_in r₁) → Won ok k i m best n₂ (marked_in r₂)
          kept w = subst (λ z. Won ok k i m best z (marked_in r₂)) (sym e.0) (subst (λ z. Won ok k i m best n₁ (marked_in z)) (sym e.1) w)
      won (inr w) = inr (record { size = w.size; short = w.short; agree = λ s q. off s q ∙ w.agree s (omega arith); less = omega (arith, w.less, top) })

      least : (p : ℕ → Bool) → Short ok k position_limit p → SameBelow i m p → Beats k n₂ (marked_in r₂) p ⊎ ((n₂ ≡ best) × (r₂ ≡ b) × (best ≤ count k p))
      least p sh al = has (p i) refl
        where
          kept : (n₂ ≡ n₁) × (r₂ ≡ r₁) → Beats k n₁ (marked_in r₁) p → Beats k n₂ (marked_in r₂) p
          kept e w = subst (λ z. Beats k z (marked_in r₂) p) (sym e.0) (subst (λ z. Beats k n₁ (marked_in z) p) (sym e.1) w)

          up_to : Beats k n₁ (marked_in r₁) p → n₁ ≤ count k p
          up_to (inl w) = omega arith
          up_to (inr w) = omega (arith, w.0)

          further : (v : Bool) → p i ≡ v → SameBelow (i + 1) (marked_in (set marks i v)) p
          further v q s t = ⊎_elim
              (λ (d : s ≡ i). subst (λ z. marked_in (set marks i v) z ≡ p z) (sym d) (here l v long ∙ sym q))
              (λ d. sym (below l v long s (omega arith)) ∙ al s (omega arith)) (same? s i)

          with_i : Beats k n₁ (marked_in r₁) p ⊎ ((n₁ ≡ best) × (r₁ ≡ b) × (best ≤ count k p)) → Beats k n₂ (marked_in r₂) p ⊎ ((n₂ ≡ best) × (r₂ ≡ b) × (best ≤ count k p))
          with_i (inl w) = ⊎_elim (λ e. inl (kept e w)) (λ v. inl (inl (omega (arith, v.less, up_to w)))) g.won
          with_i (inr w) = ⊎_elim (λ e. inr (e.0 ∙ w.0, e.1 ∙ w.1, w.2)) (λ v. inl (inl (omega (arith, v.less, w.0, w.2)))) g.won

          first : p i ≡ false → Won ok k (i + 1) (marked_in (set marks i true)) best n₁ (marked_in r₁) → n₁ ≤ count k p → Beats k n₁ (marked_in r₁) p
          first q w z = ⊎_elim
              (λ e. inr (e, inr (record { d = i; inside = l; same = λ s t. sym (w.agree s (omega arith)) ∙ sym (on s t) ∙ al s t; here = sym (w.agree i (omega arith)) ∙ here l true long; there = q })))
              (λ d. inl (omega arith)) (same? n₁ (count k p))

          without : p i ≡ false → Beats k n₂ (marked_in r₂) p ⊎ ((n₂ ≡ n₁) × (r₂ ≡ r₁) × (n₁ ≤ count k p)) → Beats k n₂ (marked_in r₂) p ⊎ ((n₂ ≡ best) × (r₂ ≡ b) × (best ≤ count k p))
          without q (inl w) = inl w
          without q (inr w) = ⊎_elim (λ e. inr (w.0 ∙ e.0, w.1 ∙ e.1, omega (arith, w.2, e.0))) (λ v. inl (kept (w.0, w.1) (first q v w.2))) f.won

          has : (t : Bool) → p i ≡ t → Beats k n₂ (marked_in r₂) p ⊎ ((n₂ ≡ best) × (r₂ ≡ b) × (best ≤ count k p))
          has true q = with_i (f.least p sh (further true q))
          has false q = without q (g.least p sh (further false q))

-- ---- the positions of floater i, those below x done
pub record Joining (tab : List ℕ) (i x : ℕ) (cover : List Bool) (c : ℕ) (at : List Bool) : Type 0 where
  pub done : (y : ℕ) → y < x → marked_in at y ≡ (marked_in cover y || may_in tab i y)
  pub left : (y : ℕ) → x ≤ y → marked_in at y ≡ marked_in cover y
  pub many : c ≡ count position_limit (marked_in at)

module _ (tab : List ℕ) (i x : ℕ) (cover : List Bool) (c : ℕ) (at : List Bool) (j : Joining tab i x cover c at) where
  -- a turn that changes x alone
  turn : (c' : ℕ) (at' : List Bool) → ((y : ℕ) → (y ≡ x → ⊥) → marked_in at' y ≡ marked_in at y) → marked_in at' x ≡ (marked_in at x || may_in tab i x) → c' ≡ count position_limit (marked_in at')
      → Joining tab i (x + 1) cover c' at'
  turn c' at' else here many = record { done = done; left = λ y l. else y (λ e. omega arith) ∙ j.left y (omega arith); many = many }
    where
      done : (y : ℕ) → y < x + 1 → marked_in at' y ≡ (marked_in cover y || may_in tab i y)
      done y l = ⊎_elim
          (λ (e : y ≡ x). subst (λ z. marked_in at' z ≡ (marked_in cover z || may_in tab i z)) (sym e) (here ∙ ap (λ z. z || may_in tab i x) (j.left x (omega arith))))
          (λ d. else y d ∙ j.done y (omega arith)) (same? y x)

  pub join_had : marked_in at x ≡ true → Joining tab i (x + 1) cover c at
  join_had e = turn c at (λ y d. refl) (e ∙ sym (or_first (marked_in at x) (may_in tab i x) e)) j.many

  pub join_not : may_in tab i x ≡ false → Joining tab i (x + 1) cover c at
  join_not e = turn c at (λ y d. refl) (go (marked_in at x)) j.many
    where
      go : (b : Bool) → b ≡ (b || may_in tab i x)
      go true = refl
      go false = sym e

  pub join_more : x < position_limit → x < length at → marked_in at x ≡ false → may_in tab i x ≡ true → Joining tab i (x + 1) cover (c + 1) (set at x true)
  join_more l long old may = turn (c + 1) (set at x true) else (here ∙ sym (or_second (marked_in at x) (may_in tab i x) may)) (add-one c ∙ ap suc j.many ∙ sym (count_one position_limit x (marked_in at) (marked_in (set at x true)) l old here else))
    where
      here : marked_in (set at x true) x ≡ true
      here = get_or-set_same at x true false long

      else : (y : ℕ) → (y ≡ x → ⊥) → marked_in (set at x true) y ≡ marked_in at y
      else y d = get_or-set_other at x y true false d

-- ---- the start and the end
pub hunt_start : (tab : List ℕ) (k : ℕ) (marks cover : List Bool) → Sized tab k → ((x : ℕ) → x < position_limit → get_or cover x false ≡ false) → Hunting tab k 0 0 marks 0 cover
unfolding count some
hunt_start tab k marks cover z h =
    record { sized = z; inside = omega arith; size = refl; covers = h; many = sym (count_none position_limit (marked_in cover) h) }

module _ {ok : ℕ → ℕ → Bool} {k : ℕ} {m : ℕ → Bool} {b : List Bool} {n : ℕ} {r : List Bool} (h : Hunted ok k 0 m (k + 1) b n r) where
  nothing : (p : ℕ → Bool) → SameBelow 0 m p
  nothing p s l = absurd (omega arith)

  pub hunt_found : n ≤ k → SmallestOf ok k n (marked_in r)
  hunt_found l = ⊎_elim (λ e. absurd (omega (arith, e.0)))
      (λ w. record { size = w.size; short = w.short; least = λ p sh. ⊎_elim (λ q. q) (λ q. absurd (omega (arith, q.0))) (h.least p sh (nothing p)) }) h.won

  beaten : (p : ℕ → Bool) → Beats k n (marked_in r) p → n ≤ k
  beaten p (inl w) = omega (arith, count_top k p)
  beaten p (inr w) = omega (arith, w.0, count_top k p)

  pub hunt_none : k < n → (p : ℕ → Bool) → Short ok k position_limit p → ⊥
  hunt_none l p sh = ⊎_elim (λ q. omega (arith, beaten p q)) (λ q. omega (arith, q.2, count_top k p)) (h.least p sh (nothing p))
