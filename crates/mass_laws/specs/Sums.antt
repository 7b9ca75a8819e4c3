-- Sums: of joined lists, over positions, of what a test keeps, and of copies; a mass that is booked at one position is summed once, and one that is booked at
-- several, as often.
use Rattle.std.specs.Prelude.{◌≡◌, refl, Bool, true, false, not, cond, ◌||◌, List, [], ◌∷◌, ◌++◌, map, ℕ, zero, suc, ◌+◌, ◌≤◌, ◌<◌, eqb, ℤ, pos, ◌+ℤ◌, ◌*ℤ◌, length, replicate}
use Rattle.std.proofs.Common.{sym, ap, ap₂, ◌∙◌, zero-add, arith, eq-eqb, ne_eqb, eqb-true}
use Rattle.std.proofs.Math.Decide.{ℕ_discrete}
use Rattle.std.proofs.lemmas.Bool.{not-true}
use Rattle.std.proofs.Math.IntN.{+ℤ_idl, +ℤ_idr, +ℤ_assoc, +ℤ_comm, zero-*ℤ, suc_ℤ-*ℤ}
use Rattle.scope.specs.Lists.{keep, flat, tabled, member}
use Rattle.scope.specs.Placements.{distinct}
use Rattle.scope.specs.Masses.{sum, sumℕ}
use Rattle.basics.specs.Each.{Each}
use Rattle.basics.specs.Tabled.{tabled_same}
use Rattle.basics.specs.Tests.{eqb_sym, and_left, and_right}

+ℤ-left-comm : (a b c : ℤ) → a +ℤ (b +ℤ c) ≡ b +ℤ (a +ℤ c)
+ℤ-left-comm a b c = sym (+ℤ_assoc a b c) ∙ ap (λ x. x +ℤ c) (+ℤ_comm a b) ∙ +ℤ_assoc b a c

-- both sides of an equation of sums, sorted alike
ruleset sums = (+ℤ_assoc, +ℤ_comm, +ℤ-left-comm, +ℤ_idl, +ℤ_idr)

pub Four : (a b c d : ℤ) → (a +ℤ b) +ℤ (c +ℤ d) ≡ (a +ℤ c) +ℤ (b +ℤ d)
Four a b c d = simp sums

pub six : (a b c d e f : ℤ) → (a +ℤ (b +ℤ c)) +ℤ (d +ℤ (e +ℤ f)) ≡ (a +ℤ d) +ℤ ((b +ℤ e) +ℤ (c +ℤ f))
six a b c d e f = simp sums

pub sum_map_append : {A : Type 0} (f : A → ℤ) (a b : List A) → sum (map f (a ++ b)) ≡ sum (map f a) +ℤ sum (map f b)
unfolding sum
sum_map_append f [] b = sym (+ℤ_idl (sum (map f b)))
sum_map_append f (x ∷ a) b = ap (λ z. f x +ℤ z) (sum_map_append f a b) ∙ sym (+ℤ_assoc (f x) (sum (map f a)) (sum (map f b)))

-- one more
pub once_more : (n : ℕ) (m : ℤ) → m +ℤ (pos n *ℤ m) ≡ pos (suc n) *ℤ m
once_more n m = +ℤ_comm m (pos n *ℤ m) ∙ sym (suc_ℤ-*ℤ (pos n) m)

pub times_both : (a b : ℕ) (m : ℤ) → pos (a + b) *ℤ m ≡ (pos a *ℤ m) +ℤ (pos b *ℤ m)
times_both zero b m = ap (λ n. pos n *ℤ m) (zero-add b) ∙ sym (+ℤ_idl (pos b *ℤ m)) ∙ ap (λ z. z +ℤ (pos b *ℤ m)) (sym (zero-*ℤ m))
times_both (suc a) b m =
    ap (λ n. pos n *ℤ m) (let e : suc a + b ≡ suc (a + b) = omega arith in e) ∙ sym (once_more (a + b) m) ∙ ap (λ z. m +ℤ z) (times_both a b m)
    ∙ sym (+ℤ_assoc m (pos a *ℤ m) (pos b *ℤ m)) ∙ ap (λ z. z +ℤ (pos b *ℤ m)) (once_more a m)

-- n copies
pub sum_copies : {A : Type 0} (f : A → ℤ) (x : A) (n : ℕ) → sum (map f (replicate n x)) ≡ pos n *ℤ f x
unfolding sum
sum_copies f x zero = sym (zero-*ℤ (f x))
sum_copies f x (suc n) = ap (λ z. f x +ℤ z) (sum_copies f x n) ∙ once_more n (f x)

-- ---- sums over positions
pub sum_both : (f g : ℕ → ℤ) (i n : ℕ) → sum (tabled (λ x. f x +ℤ g x) i n) ≡ sum (tabled f i n) +ℤ sum (tabled g i n)
unfolding tabled sum
sum_both f g i zero = refl
sum_both f g i (suc n) = ap (λ z. (f i +ℤ g i) +ℤ z) (sum_both f g (i + 1) n) ∙ Four (f i) (g i) (sum (tabled f (i + 1) n)) (sum (tabled g (i + 1) n))

pub sum_zero : (f : ℕ → ℤ) (i n : ℕ) → ((x : ℕ) → i ≤ x → f x ≡ pos 0) → sum (tabled f i n) ≡ pos 0
unfolding tabled sum
sum_zero f i zero h = refl
sum_zero f i (suc n) h = ap₂ ◌+ℤ◌ (h i (omega arith)) (sum_zero f (i + 1) n (λ x q. h x (omega arith)))

-- a mass, where it is booked
abbrev pub share : ℕ → ℤ → ℕ → ℤ
share a m x = cond (eqb a x) m (pos 0)

pub share_here : (a : ℕ) (m : ℤ) (x : ℕ) → a ≡ x → share a m x ≡ m
share_here a m x e = ap (λ t. cond t m (pos 0)) (eq-eqb a x e)

pub share_else : (a : ℕ) (m : ℤ) (x : ℕ) → (a ≡ x → ⊥) → share a m x ≡ pos 0
share_else a m x h = ap (λ t. cond t m (pos 0)) (ne_eqb a x h)

-- it is booked once
pub sum_share : (a : ℕ) (m : ℤ) (i n : ℕ) → i ≤ a → a < i + n → sum (tabled (share a m) i n) ≡ m
unfolding tabled sum
sum_share a m i zero h k = absurd (omega arith)
sum_share a m i (suc n) h k = by (ℕ_discrete a i) (sum_share a m (i + 1) n)
  where
    by : Dec (a ≡ i) → (i + 1 ≤ a → a < i + 1 + n → sum (tabled (share a m) (i + 1) n) ≡ m) → share a m i +ℤ sum (tabled (share a m) (i + 1) n) ≡ m
    by (yes e) rest =
        ap₂ ◌+ℤ◌ (share_here a m i e) (sum_zero (share a m) (i + 1) n (λ x q. share_else a m x (λ z. omega arith))) ∙ +ℤ_idr m
    by (no e) rest = ap₂ ◌+ℤ◌ (share_else a m i e) (rest (omega arith) (omega arith)) ∙ +ℤ_idl m

-- one that is booked at several positions, each once, is summed as often
one_of : (x y : ℕ) (ys : List ℕ) (m : ℤ) → member y ys ≡ false → cond (member x (y ∷ ys)) m (pos 0) ≡ share y m x +ℤ cond (member x ys) m (pos 0)
unfolding member
one_of x y ys m free = by (eqb x y) refl
  where
    by : (t : Bool) → eqb x y ≡ t → cond (t || member x ys) m (pos 0) ≡ share y m x +ℤ cond (member x ys) m (pos 0)
    by true e =
        let same = eqb-true x y e in
        sym (ap₂ ◌+ℤ◌ (share_here y m x (sym same)) (ap (λ u. cond u m (pos 0)) (ap (λ z. member z ys) same ∙ free)) ∙ +ℤ_idr m)
    by false e = sym (ap (λ u. cond u m (pos 0) +ℤ cond (member x ys) m (pos 0)) (eqb_sym y x ∙ e) ∙ +ℤ_idl (cond (member x ys) m (pos 0)))

pub sum_members : (m : ℤ) (n : ℕ) (xs : List ℕ) → distinct xs ≡ true → Each (λ x. x < n) xs → sum (tabled (λ x. cond (member x xs) m (pos 0)) 0 n) ≡ pos (length xs) *ℤ m
unfolding member distinct
sum_members m n [] d h = sum_zero (λ x. pos 0) 0 n (λ x q. refl) ∙ sym (zero-*ℤ m)
sum_members m n (y ∷ ys) d h =
    let free : member y ys ≡ false = not-true (member y ys) (and_left (not (member y ys)) (distinct ys) d) in
    ap sum (tabled_same (λ x. cond (member x (y ∷ ys)) m (pos 0)) (λ x. share y m x +ℤ cond (member x ys) m (pos 0)) (λ x. one_of x y ys m free) 0 n)
    ∙ sum_both (share y m) (λ x. cond (member x ys) m (pos 0)) 0 n
    ∙ ap₂ ◌+ℤ◌ (sum_share y m 0 n (omega arith) (omega (arith, h.0))) (sum_members m n ys (and_right (not (member y ys)) (distinct ys) d) h.1)
    ∙ once_more (length ys) m

-- ---- sums over some elements of a list
pub sum_keep : {A : Type 0} (g : A → Bool) (f : A → ℤ) (l : List A) → sum (map f (keep g l)) ≡ sum (map (λ x. cond (g x) (f x) (pos 0)) l)
unfolding sum keep
sum_keep g f [] = refl
sum_keep g f (x ∷ l) = by (g x) (sum_keep g f l)
  where
    by : (t : Bool) → sum (map f (keep g l)) ≡ sum (map (λ y. cond (g y) (f y) (pos 0)) l) → sum (map f (cond t (x ∷ []) [] ++ keep g l)) ≡ cond t (f x) (pos 0) +ℤ sum (map (λ y. cond (g y) (f y) (pos 0)) l)
    by true rest = ap (λ z. f x +ℤ z) rest
    by false rest = rest ∙ sym (+ℤ_idl (sum (map (λ y. cond (g y) (f y) (pos 0)) l)))

pub sumℕ_keep : {A : Type 0} (g : A → Bool) (f : A → ℕ) (l : List A) → sumℕ (map f (keep g l)) ≡ sumℕ (map (λ x. cond (g x) (f x) 0) l)
unfolding sumℕ keep
sumℕ_keep g f [] = refl
sumℕ_keep g f (x ∷ l) = by (g x) (sumℕ_keep g f l)
  where
    by : (t : Bool) → sumℕ (map f (keep g l)) ≡ sumℕ (map (λ y. cond (g y) (f y) 0) l) → sumℕ (map f (cond t (x ∷ []) [] ++ keep g l)) ≡ cond t (f x) 0 + sumℕ (map (λ y. cond (g y) (f y) 0) l)
    by true rest = ap (λ n. f x + n) rest
    by false rest = omega (arith, rest)

-- copies of each
pub sum_flat : {A : Type 0} (c : A → ℕ) (f : A → ℤ) (l : List A) → sum (map f (flat (λ x. replicate (c x) x) l)) ≡ sum (map (λ x. pos (c x) *ℤ f x) l)
unfolding sum flat
sum_flat c f [] = refl
sum_flat c f (x ∷ l) = sum_map_append f (replicate (c x) x) (flat (λ y. replicate (c y) y) l) ∙ ap₂ ◌+ℤ◌ (sum_copies f x (c x)) (sum_flat c f l)
