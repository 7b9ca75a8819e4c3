-- Laws of `tabled`: the list f i, f (i + 1), .. up to f (m - 1), as a loop from i to m sees it; and what a test keeps of the numbers from i on.
use Rattle.std.specs.Prelude.{◌≡◌, refl, Bool, true, false, cond, List, [], ◌∷◌, ◌++◌, map, ℕ, zero, suc, ◌+◌, ◌-◌, ◌≤◌, ◌<◌, eqb, ℤ, length, get_or, take}
use Rattle.std.proofs.Common.{sym, ap, ap₂, ◌∙◌, inl, inr, ⊎_elim, add-zero, zero-add, not-suc-le-zero, le_of_suc-le-suc, arith, eqb-true, length-take-le, get_or-take, ext_get_or}
use Rattle.std.proofs.lemmas.Bool.{eqb-false}
use Rattle.std.proofs.lemmas.List.{length-map}
use Rattle.std.proofs.Math.ListN.{get_or-map}
use Rattle.scope.specs.Lists.{all, keep, tabled}
use Rattle.basics.specs.Each.{In}
use Rattle.basics.specs.Tests.{and_left, and_right, test}
use Rattle.scope.specs.Layout.{residue_in, bracket_in, tables_in, brackets_field, residues_field}

pub tabled_at : {A : Type 0} (f : ℕ → A) (i m : ℕ) → i < m → tabled f i (m - i) ≡ f i ∷ tabled f (i + 1) (m - (i + 1))
unfolding tabled
tabled_at f i m h = go (m - i) (m - (i + 1)) (omega arith)
  where
    go : (n n' : ℕ) → n ≡ suc n' → tabled f i n ≡ f i ∷ tabled f (i + 1) n'
    go n n' e = rw e

pub tabled_end : {A : Type 0} (f : ℕ → A) (i m : ℕ) → m ≤ i → tabled f i (m - i) ≡ []
unfolding tabled
tabled_end f i m h = go (m - i) (omega arith)
  where
    go : (n : ℕ) → n ≡ 0 → tabled f i n ≡ []
    go n e = rw e

pub tabled_all : {A : Type 0} (f : ℕ → A) (m : ℕ) → tabled f 0 m ≡ tabled f 0 (m - 0)
tabled_all f m = ap (tabled f 0) (omega arith)

pub length_tabled : {A : Type 0} (f : ℕ → A) (i n : ℕ) → length (tabled f i n) ≡ n
unfolding tabled
length_tabled f i zero = refl
length_tabled f i (suc n) = ap suc (length_tabled f (i + 1) n)

pub get_d_tabled : {A : Type 0} (f : ℕ → A) (i n j : ℕ) (d : A) → j < n → get_or (tabled f i n) j d ≡ f (i + j)
unfolding tabled
get_d_tabled f i zero j d h = absurd (not-suc-le-zero h)
get_d_tabled f i (suc n) zero d h = ap f (sym (add-zero i))
get_d_tabled f i (suc n) (suc j) d h = get_d_tabled f (i + 1) n j d (le_of_suc-le-suc h) ∙ ap f (omega arith)

pub tabled_snoc : {A : Type 0} (f : ℕ → A) (i n : ℕ) → tabled f i (suc n) ≡ tabled f i n ++ (f (i + n) ∷ [])
unfolding tabled
tabled_snoc f i zero = ap (λ k. f k ∷ []) (sym (add-zero i))
tabled_snoc f i (suc n) = ap (λ l. f i ∷ l) (tabled_snoc f (i + 1) n ∙ ap (λ k. tabled f (i + 1) n ++ (f k ∷ [])) (omega arith))

pub tabled_same : {A : Type 0} (f h : ℕ → A) → ((x : ℕ) → f x ≡ h x) → (i n : ℕ) → tabled f i n ≡ tabled h i n
unfolding tabled
tabled_same f h e i zero = refl
tabled_same f h e i (suc n) = ap₂ ◌∷◌ (e i) (tabled_same f h e (i + 1) n)

-- ---- the numbers from i on, and those that a test keeps
pub in_tabled : (i n x : ℕ) → In x (tabled (λ y. y) i n) → (i ≤ x) × (x < i + n)
unfolding tabled
in_tabled i zero x h = absurd h
in_tabled i (suc n) x (inl e) = (omega arith, omega arith)
in_tabled i (suc n) x (inr h) = let z = in_tabled (i + 1) n x h in (omega (arith, z.0), omega (arith, z.1))

pub tabled_in : (i n x : ℕ) → i ≤ x → x < i + n → In x (tabled (λ y. y) i n)
unfolding tabled
tabled_in i zero x h k = absurd (omega arith)
tabled_in i (suc n) x h k =
    ⊎_elim (λ e. inl (eqb-true x i e)) (λ e. let d = eqb-false x i e in inr (tabled_in (i + 1) n x (omega (arith, d)) (omega arith))) (test (eqb x i))

pub keep_as : (p q : ℕ → Bool) (i n : ℕ) → ((x : ℕ) → i ≤ x → x < i + n → p x ≡ q x) → keep p (tabled (λ x. x) i n) ≡ keep q (tabled (λ x. x) i n)
unfolding keep tabled
keep_as p q i zero h = refl
keep_as p q i (suc n) h =
    ap (λ t. cond t (i ∷ []) [] ++ keep p (tabled (λ x. x) (i + 1) n)) (h i (omega arith) (omega arith))
    ∙ ap (λ r. cond (q i) (i ∷ []) [] ++ r) (keep_as p q (i + 1) n (λ x a b. h x (omega arith) (omega arith)))

pub keep_none : (p : ℕ → Bool) (i n : ℕ) → ((x : ℕ) → i ≤ x → x < i + n → p x ≡ false) → keep p (tabled (λ x. x) i n) ≡ []
unfolding keep tabled
keep_none p i zero h = refl
keep_none p i (suc n) h =
    ap (λ t. cond t (i ∷ []) [] ++ keep p (tabled (λ x. x) (i + 1) n)) (h i (omega arith) (omega arith))
    ∙ keep_none p (i + 1) n (λ x a b. h x (omega arith) (omega arith))

pub keep_cut : (p : ℕ → Bool) (i a n : ℕ) → a ≤ n → ((x : ℕ) → i + a ≤ x → x < i + n → p x ≡ false) → keep p (tabled (λ x. x) i n) ≡ keep p (tabled (λ x. x) i a)
unfolding keep tabled
keep_cut p i zero n l h = keep_none p i n (λ x j b. h x (omega arith) b)
keep_cut p i (suc a) zero l h = absurd (omega arith)
keep_cut p i (suc a) (suc n) l h =
    ap (λ r. cond (p i) (i ∷ []) [] ++ r) (keep_cut p (i + 1) a n (le_of_suc-le-suc l) (λ x j b. h x (omega arith) (omega arith)))

-- ---- lists that are joined
pub tabled_append : (i n m : ℕ) → tabled (λ x. x) i (n + m) ≡ tabled (λ x. x) i n ++ tabled (λ x. x) (i + n) m
unfolding tabled
tabled_append i zero m = ap (tabled (λ x. x) i) (zero-add m) ∙ ap (λ j. tabled (λ x. x) j m) (sym (add-zero i))
tabled_append i (suc n) m =
    ap (tabled (λ x. x) i) (let e : suc n + m ≡ suc (n + m) = omega arith in e)
    ∙ ap (λ r. i ∷ r) (tabled_append (i + 1) n m ∙ ap (λ j. tabled (λ x. x) (i + 1) n ++ tabled (λ x. x) j m) (omega arith))

-- ---- a list by an index
pub tabled_map : {A : Type 0} (h g : ℕ → A) (index : List ℕ) (count : ℕ) → count ≤ length index → ((i : ℕ) → i < count → h i ≡ g (get_or index i 0)) → tabled h 0 count ≡ map g (take count index)
tabled_map h g index count l e =
    ext_get_or (g 0) (tabled h 0 count) (map g (take count index)) (length_tabled h 0 count ∙ sym (length-map (take count index) g ∙ length-take-le count index l))
    (λ i j. at i (omega (arith, length_tabled h 0 count)))
  where
    at : (i : ℕ) → i < count → get_or (tabled h 0 count) i (g 0) ≡ get_or (map g (take count index)) i (g 0)
    at i j =
        get_d_tabled h 0 count i (g 0) j ∙ ap h (zero-add i) ∙ e i j
        ∙ sym (get_or-map g (take count index) i 0 ∙ ap g (get_or-take count index i 0 j))

-- ---- how many residues and brackets the tables in areas have
module _ (bs : List ℕ) (ns : List ℤ) where
  pub residues_many : length (tables_in bs ns).residues ≡ residues_field bs
  unfolding tables_in
  residues_many = length_tabled (residue_in bs) 0 (residues_field bs)

  pub brackets_many : length (tables_in bs ns).brackets ≡ brackets_field bs
  unfolding tables_in
  brackets_many = length_tabled (bracket_in bs ns) 0 (brackets_field bs)

-- ---- a rule over numbers is one test, computed over all of them
pub all_tabled : (f : ℕ → Bool) (i n : ℕ) → all f (tabled (λ x. x) i n) ≡ true → (j : ℕ) → i ≤ j → j < i + n → f j ≡ true
unfolding all tabled
all_tabled f i zero e j h l = absurd (omega arith)
all_tabled f i (suc n) e j h l = go (eqb i j) refl (λ g. all_tabled f (i + 1) n (and_right (f i) (all f (tabled (λ x. x) (i + 1) n)) e) j g (omega arith))
  where
    go : (t : Bool) → eqb i j ≡ t → (i + 1 ≤ j → f j ≡ true) → f j ≡ true
    go true q ih = ap f (sym (eqb-true i j q)) ∙ and_left (f i) (all f (tabled (λ x. x) (i + 1) n)) e
    go false q ih = ih (let z = eqb-false i j q in omega (arith, z))
