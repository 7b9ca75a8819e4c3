-- The kinds of brackets by their numbers: a number gives its kind back, so two kinds are the same where a test says so, and a rule over kinds is one
-- test, computed over the list of them.
use Rattle.std.specs.Prelude.{◌≡◌, refl, Bool, true, false, ◌&&◌, List, [], ◌∷◌, ℕ, zero, suc, ◌+◌, ◌-◌, ◌≤◌, ◌<◌, eqb, ltb, length, get_or, drop}
use Rattle.std.proofs.Common.{sym, ap, ◌∙◌, subst, arith, eqb-true, ltb-true}
use Rattle.std.proofs.Math.ListN.{get_or-eq_default}
use Rattle.std.proofs.lemmas.Bool.{eqb-false}
use Rattle.scope.specs.declared.grammar.Kind.{Kind}
use Rattle.scope.specs.declared.grammar.Kind.TheVariants.{Unknown, Labile, NTerm, OnResidue, OnRange, CTerm, Declared}
use Rattle.scope.specs.Bytes.{byte_limit}
use Rattle.scope.specs.Kinds.{kind_code, kinds, kind_in, is_kind, is_on_range}
use Rattle.scope.specs.Reading.{position_of}
use Rattle.basics.specs.Choice.{branch}
use Rattle.basics.specs.Each.{failing, first_passes}
use Rattle.basics.specs.Tests.{agree, agreed, falsely, and_left, and_right}

pub kind_back : (k : Kind) → kind_in (kind_code k) ≡ k
kind_back Unknown = refl
kind_back Labile = refl
kind_back NTerm = refl
kind_back OnResidue = refl
kind_back OnRange = refl
kind_back CTerm = refl
kind_back Declared = refl

-- a number of no other kind is that of an unknown position
pub else_unknown :
    (n : ℕ) → (n ≡ kind_code Labile → ⊥) → (n ≡ kind_code NTerm → ⊥) → (n ≡ kind_code OnResidue → ⊥) → (n ≡ kind_code OnRange → ⊥)
    → (n ≡ kind_code CTerm → ⊥) → (n ≡ kind_code Declared → ⊥) → Unknown ≡ kind_in n
else_unknown zero p2 p3 p4 p5 p6 p7 = refl
else_unknown (suc zero) p2 p3 p4 p5 p6 p7 = refl
else_unknown (suc (suc n)) p2 p3 p4 p5 p6 p7 =
    sym (get_or-eq_default kinds Unknown (behind _ (past _ 7 (past _ 6 (past _ 5 (past _ 4 (past _ 3 (past _ 2 (omega arith) p2) p3) p4) p5) p6) p7)))
  where
    past : (n k : ℕ) → k ≤ n → (n ≡ k → ⊥) → k + 1 ≤ n
    past n k h p = omega arith

    behind : (n : ℕ) → kind_code Declared + 1 ≤ n → kind_code Declared ≤ n - 1
    behind n h = omega arith

-- the same by order: numbers before and behind the others, and the numbers of kinds
pub before_unknown : (n : ℕ) → n < kind_code Labile → Unknown ≡ kind_in n
before_unknown zero h = refl
before_unknown (suc zero) h = refl
before_unknown (suc (suc n)) h = absurd (omega arith)

pub behind_unknown : (n : ℕ) → kind_code Declared < n → Unknown ≡ kind_in n
behind_unknown n h = let far : kind_code Declared ≤ n - 1 = omega arith in sym (get_or-eq_default kinds Unknown far)

abbrev numbered : ℕ → List Kind → Bool
numbered i [] = true
numbered i (k ∷ ks) = eqb (kind_code k) i && numbered (i + 1) ks

numbered_at : (i n : ℕ) (ks : List Kind) → numbered i ks ≡ true → n < length ks → kind_code (get_or ks n Unknown) ≡ i + n
numbered_at i n [] e h = absurd (omega arith)
numbered_at i zero (k ∷ ks) e h = eqb-true (kind_code k) i (and_left _ (numbered (i + 1) ks) e) ∙ omega arith
numbered_at i (suc n) (k ∷ ks) e h = numbered_at (i + 1) n ks (and_right (eqb (kind_code k) i) _ e) (omega arith) ∙ omega arith

pub code_back : (n : ℕ) → 0 < n → n ≤ kind_code Declared → kind_code (kind_in n) ≡ n
code_back n h l = numbered_at 1 (n - 1) kinds refl (omega arith) ∙ omega arith

-- ---- the test of a kind
pub is_kind_lem : (j k : Kind) → is_kind j k ≡ true → k ≡ j
is_kind_lem j k e = sym (kind_back k) ∙ ap kind_in (eqb-true (kind_code k) (kind_code j) e) ∙ kind_back j

pub not_kind : (j k : Kind) → (k ≡ j → ⊥) → is_kind j k ≡ false
not_kind j k h = falsely (is_kind j k) (λ e. h (is_kind_lem j k e))

pub other_kind : (j k : Kind) → is_kind j k ≡ false → k ≡ j → ⊥
other_kind j k e q = eqb-false (kind_code k) (kind_code j) e (ap kind_code q)

-- ---- tests over all kinds
passes_at : {A : Type 0} (T : A → Bool) (l : List A) (x : A) → T x ≡ true → failing T l ≡ [] → (n : ℕ) → T (get_or l n x) ≡ true
passes_at T [] x e f n = e
passes_at T (y ∷ l) x e f zero = (first_passes T y l f).0
passes_at T (y ∷ l) x e f (suc n) = passes_at T l x e (first_passes T y l f).1 n

pub each_kind : (T : Kind → Bool) → failing T kinds ≡ [] → (k : Kind) → T k ≡ true
each_kind T e k = subst (λ z. T z ≡ true) (kind_back k) (passes_at T kinds Unknown (first_passes T Unknown (drop 1 kinds) e).0 e (kind_code k - 1))

pub same_of_kinds : (S T : Kind → Bool) → failing (λ k. agree (S k) (T k)) kinds ≡ [] → (k : Kind) → S k ≡ T k
same_of_kinds S T e k = agreed (S k) (T k) (each_kind (λ j. agree (S j) (T j)) e k)

pub kind_byte : (k : Kind) → kind_code k < byte_limit
kind_byte k = ltb-true (kind_code k) byte_limit (each_kind (λ j. ltb (kind_code j) byte_limit) refl k)

-- ---- every position is one of the line
pub position_few : (k : Kind) (n a : ℕ) → a ≤ n → position_of k n a ≤ n + 1
position_few k n a h =
    branch (λ p. p ≤ n + 1) (is_on_range k) (omega arith) (branch (λ p. p ≤ n + 1) (is_kind CTerm k) (omega arith) (omega arith))
