-- How many numbers a test keeps: where it changes at the members of a list, each of them another number, the count changes by the length of the list. And lists
-- of different numbers: those that a test keeps, and the first few of such a list.
use Rattle.std.specs.Prelude.{ℕ, zero, suc, ◌+◌, ◌≤◌, ◌<◌, ◌≡◌, refl, ◌⊎◌, Bool, true, false, not, ◌&&◌, List, [], ◌∷◌, eqb, length, take}
use Rattle.std.proofs.Common.{arith, sym, ap, ap₂, ◌∙◌, inl, inr, ⊎_elim, true≢false, eq-eqb, ne_eqb}
use Rattle.std.proofs.lemmas.Bool.{not-true}
use Rattle.scope.specs.Lists.{all, keep, tabled, member}
use Rattle.scope.specs.Placements.{distinct}
use Rattle.basics.specs.Each.{Each, In, Ordered, in_each}
use Rattle.basics.specs.Members.{member_in, in_member, member_cons, member_here, member_there, keep_yes, keep_no}
use Rattle.basics.specs.Tabled.{in_tabled, keep_as, keep_none, length_tabled}
use Rattle.basics.specs.Tests.{both, both_of, falsely, same?}
use Rattle.placement_laws.specs.Lines.{kept_rising}

-- ---- different numbers
pub distinct_cons : (x : ℕ) (l : List ℕ) → distinct (x ∷ l) ≡ true → (member x l ≡ false) × (distinct l ≡ true)
unfolding distinct
distinct_cons x l e = let z = both_of (not (member x l)) (distinct l) e in (not-true (member x l) z.0, z.1)

pub cons_distinct : (x : ℕ) (l : List ℕ) → member x l ≡ false → distinct l ≡ true → distinct (x ∷ l) ≡ true
unfolding distinct
cons_distinct x l e d = rw e d

pub not_member : (x : ℕ) (l : List ℕ) → (In x l → ⊥) → member x l ≡ false
not_member x l h = falsely (member x l) (λ e. h (member_in x l e))

pub member_tail : (x y : ℕ) (l : List ℕ) → member x (y ∷ l) ≡ false → member x l ≡ false
member_tail x y l e = falsely (member x l) (λ h. true≢false (sym (member_there x y l h) ∙ e))

pub member_head : (x y : ℕ) (l : List ℕ) → member x (y ∷ l) ≡ false → x ≡ y → ⊥
member_head x y l e q = true≢false (sym (member_here x y l q) ∙ e)

pub no_member : (x y : ℕ) (l : List ℕ) → (x ≡ y → ⊥) → member x l ≡ false → member x (y ∷ l) ≡ false
no_member x y l k e = falsely (member x (y ∷ l)) (λ h. ⊎_elim k (λ m. true≢false (sym m ∙ e)) (member_cons x y l h))

rising_distinct : (l : List ℕ) → Ordered ◌<◌ l → distinct l ≡ true
unfolding distinct
rising_distinct [] h = refl
rising_distinct (x ∷ l) h = cons_distinct x l (not_member x l (λ m. let z = h.0 x m in omega arith)) (rising_distinct l h.1)

pub kept_distinct : (f : ℕ → Bool) (i n : ℕ) → distinct (keep f (tabled (λ x. x) i n)) ≡ true
kept_distinct f i n = rising_distinct (keep f (tabled (λ x. x) i n)) (kept_rising f i n)

pub in_take : {A : Type 0} (n : ℕ) (x : A) (l : List A) → In x (take n l) → In x l
in_take zero x l h = absurd h
in_take (suc n) x [] h = absurd h
in_take (suc n) x (y ∷ l) (inl e) = inl e
in_take (suc n) x (y ∷ l) (inr h) = inr (in_take n x l h)

pub take_distinct : (n : ℕ) (l : List ℕ) → distinct l ≡ true → distinct (take n l) ≡ true
unfolding distinct
take_distinct zero l e = refl
take_distinct (suc n) [] e = refl
take_distinct (suc n) (x ∷ l) e =
    let z = distinct_cons x l e in
    cons_distinct x (take n l) (not_member x (take n l) (λ m. true≢false (sym (in_member x l (in_take n x l m)) ∙ z.0))) (take_distinct n l z.1)

-- ---- the numbers below n that a test keeps
abbrev pub counted : (ℕ → Bool) → ℕ → ℕ
counted f n = length (keep f (tabled (λ x. x) 0 n))

keep_every : (f : ℕ → Bool) (l : List ℕ) → ((x : ℕ) → In x l → f x ≡ true) → length (keep f l) ≡ length l
unfolding keep
keep_every f [] h = refl
keep_every f (x ∷ l) h = ap length (keep_yes f x l (h x (inl refl))) ∙ ap suc (keep_every f l (λ y m. h y (inr m)))

pub counted_all : (f : ℕ → Bool) (n : ℕ) → ((x : ℕ) → x < n → f x ≡ true) → counted f n ≡ n
counted_all f n h =
    keep_every f (tabled (λ x. x) 0 n) (λ x m. let z = in_tabled 0 n x m in h x (omega (arith, z.1))) ∙ length_tabled (λ x. x) 0 n

-- one number that f keeps and g does not
one_less :
    (f g : ℕ → Bool) (b i n : ℕ) → i ≤ b → b < i + n → f b ≡ true → g b ≡ false → ((x : ℕ) → (x ≡ b → ⊥) → g x ≡ f x)
    → length (keep g (tabled (λ x. x) i n)) + 1 ≡ length (keep f (tabled (λ x. x) i n))
unfolding tabled
one_less f g b i zero l h t u e = absurd (omega arith)
one_less f g b i (suc n) l h t u e = go (same? i b) (λ k. one_less f g b (i + 1) n k (omega arith) t u e)
  where
    rest : List ℕ
    rest = tabled (λ x. x) (i + 1) n

    more : (s : Bool) → f i ≡ s → (i ≡ b → ⊥) → length (keep g rest) + 1 ≡ length (keep f rest) → length (keep g (i ∷ rest)) + 1 ≡ length (keep f (i ∷ rest))
    more true q k r = rw (keep_yes f i rest q, keep_yes g i rest (e i k ∙ q)) (omega arith)
    more false q k r = rw (keep_no f i rest q, keep_no g i rest (e i k ∙ q)) r

    go : (i ≡ b) ⊎ (i ≡ b → ⊥) → (i + 1 ≤ b → length (keep g rest) + 1 ≡ length (keep f rest)) → length (keep g (i ∷ rest)) + 1 ≡ length (keep f (i ∷ rest))
    go (inl q) ih =
        let s = keep_as g f (i + 1) n (λ x p r. e x (λ v. let z : x ≡ i = v ∙ sym q in omega arith)) in
        rw (keep_yes f i rest (ap f q ∙ t), keep_no g i rest (ap g q ∙ u), s) (omega arith)
    go (inr k) ih = more (f i) refl k (ih (omega arith))

-- f without the number b
abbrev except : (ℕ → Bool) → ℕ → ℕ → Bool
except f b x = f x && not (eqb x b)

except_other : (f : ℕ → Bool) (b x : ℕ) → (x ≡ b → ⊥) → except f b x ≡ f x
except_other f b x k = rw (ne_eqb x b k) (go (f x))
  where
    go : (t : Bool) → (t && true) ≡ t
    go true = refl
    go false = refl

except_itself : (f : ℕ → Bool) (b x : ℕ) → x ≡ b → except f b x ≡ false
except_itself f b x q = rw (eq-eqb x b q) (go (f x))
  where
    go : (t : Bool) → (t && false) ≡ false
    go true = refl
    go false = refl

-- f keeps each of the list and g none of it
pub counted_less :
    (f g : ℕ → Bool) (n : ℕ) (bs : List ℕ) → distinct bs ≡ true → Each (λ b. (b < n) × (f b ≡ true) × (g b ≡ false)) bs
    → ((x : ℕ) → x < n → member x bs ≡ false → g x ≡ f x) → counted g n + length bs ≡ counted f n
counted_less f g n [] d h e = rw (keep_as g f 0 n (λ x p q. e x (omega arith) (not_member x [] (λ m. m)))) (omega arith)
counted_less f g n (b ∷ bs) d h e =
    let z = distinct_cons b bs d in
    let ih = counted_less (except f b) g n bs z.1 (still bs z.0 h.1) (outside h.0.2) in
    let one = one_less f (except f b) b 0 n (omega arith) (omega (arith, h.0.0)) h.0.1 (except_itself f b b refl) (λ x k. except_other f b x k) in
    omega arith
  where
    still :
        (l : List ℕ) → member b l ≡ false → Each (λ x. (x < n) × (f x ≡ true) × (g x ≡ false)) l
        → Each (λ x. (x < n) × (except f b x ≡ true) × (g x ≡ false)) l
    still [] m p = tt
    still (x ∷ l) m p =
        ((p.0.0, except_other f b x (λ q. member_head b x l m (sym q)) ∙ p.0.1, p.0.2), still l (member_tail b x l m) p.1)

    outside : g b ≡ false → (x : ℕ) → x < n → member x bs ≡ false → g x ≡ except f b x
    outside u x l m = go (same? x b)
      where
        go : (x ≡ b) ⊎ (x ≡ b → ⊥) → g x ≡ except f b x
        go (inl q) = ap g q ∙ u ∙ sym (except_itself f b x q)
        go (inr k) = e x l (no_member x b bs k m) ∙ sym (except_other f b x k)

-- ---- exactly one number is kept
keep_single :
    (f : ℕ → Bool) (b i n : ℕ) → i ≤ b → b < i + n → f b ≡ true
    → ((x : ℕ) → x < i + n → (x ≡ b → ⊥) → f x ≡ false) → keep f (tabled (λ x. x) i n) ≡ b ∷ []
unfolding tabled
keep_single f b i zero l h t e = absurd (omega arith)
keep_single f b i (suc n) l h t e = go (same? i b) (λ k. keep_single f b (i + 1) n k (omega arith) t (λ x p. e x (omega arith)))
  where
    rest : List ℕ
    rest = tabled (λ x. x) (i + 1) n

    go : (i ≡ b) ⊎ (i ≡ b → ⊥) → (i + 1 ≤ b → keep f rest ≡ b ∷ []) → keep f (i ∷ rest) ≡ b ∷ []
    go (inl q) ih =
        keep_yes f i rest (ap f q ∙ t)
        ∙ ap₂ ◌∷◌ q (keep_none f (i + 1) n (λ x p r. e x (omega arith) (λ v. let z : x ≡ i = v ∙ sym q in omega arith)))
    go (inr k) ih = keep_no f i rest (e i (omega arith) k) ∙ ih (omega arith)

pub keep_one : (f : ℕ → Bool) (b n : ℕ) → b < n → f b ≡ true → ((x : ℕ) → x < n → (x ≡ b → ⊥) → f x ≡ false) → keep f (tabled (λ x. x) 0 n) ≡ b ∷ []
keep_one f b n h t e = keep_single f b 0 n (omega arith) (omega arith) t (λ x p. e x (omega arith))

-- ---- a test of all numbers below n
all_each : (f : ℕ → Bool) (l : List ℕ) → Each (λ x. f x ≡ true) l → all f l ≡ true
unfolding all
all_each f [] h = refl
all_each f (x ∷ l) h = both (f x) (all f l) h.0 (all_each f l h.1)

pub all_below_lem : (f : ℕ → Bool) (n : ℕ) → ((x : ℕ) → x < n → f x ≡ true) → all f (tabled (λ x. x) 0 n) ≡ true
all_below_lem f n h =
    all_each f (tabled (λ x. x) 0 n)
    (in_each (λ x. f x ≡ true) (tabled (λ x. x) 0 n) (λ x m. let z = in_tabled 0 n x m in h x (omega (arith, z.1))))
