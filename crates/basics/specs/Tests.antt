-- What a test made of two says of each, and the other way round; that equality is told either way round; and that numbers are told apart.
use Rattle.std.specs.Prelude.{◌≡◌, refl, ◌⊎◌, Bool, true, false, not, cond, ◌&&◌, ◌||◌, ℕ, ◌<◌, ◌≤◌, eqb, ltb}
use Rattle.std.proofs.Common.{sym, ap, ◌∙◌, inl, inr, true≢false, eq-eqb, ne_eqb, eqb-true, ltb-true, ltb-false}
use Rattle.std.proofs.lemmas.Bool.{false≢true, eqb-false}
use Rattle.std.proofs.Math.Decide.{ℕ_discrete}
use Rattle.scope.specs.Bytes.{is_letter}

pub and_left : (a b : Bool) → (a && b) ≡ true → a ≡ true
and_left true b e = refl
and_left false b e = e

pub and_right : (a b : Bool) → (a && b) ≡ true → b ≡ true
and_right true b e = e
and_right false b e = absurd (false≢true e)

pub both_of : (a b : Bool) → (a && b) ≡ true → (a ≡ true) × (b ≡ true)
both_of a b e = (and_left a b e, and_right a b e)

pub both : (a b : Bool) → a ≡ true → b ≡ true → (a && b) ≡ true
both a b e f = rw (e, f)

pub or_left : (a b : Bool) → (a || b) ≡ false → a ≡ false
or_left true b e = e
or_left false b e = refl

pub or_right : (a b : Bool) → (a || b) ≡ false → b ≡ false
or_right true b e = absurd (true≢false e)
or_right false b e = e

pub neither : (a b : Bool) → a ≡ false → b ≡ false → (a || b) ≡ false
neither a b e f = rw (e, f)

pub one_of : (a b : Bool) → (a || b) ≡ true → (a ≡ true) ⊎ (b ≡ true)
one_of true b e = inl refl
one_of false b e = inr e

pub or_first : (a b : Bool) → a ≡ true → (a || b) ≡ true
or_first a b e = rw e

pub or_second : (a b : Bool) → b ≡ true → (a || b) ≡ true
or_second true b e = refl
or_second false b e = e

pub implied : (a b : Bool) → (not a || b) ≡ true → a ≡ true → b ≡ true
implied true b e f = e
implied false b e f = absurd (false≢true f)

pub test : (t : Bool) → (t ≡ true) ⊎ (t ≡ false)
test true = inl refl
test false = inr refl

-- two tests that say yes together are the same
pub same_test : (a b : Bool) → (a ≡ true → b ≡ true) → (b ≡ true → a ≡ true) → a ≡ b
same_test true b f g = sym (f refl)
same_test false true f g = g refl
same_test false false f g = refl

-- the same, as a test
abbrev pub agree : Bool → Bool → Bool
agree a b = cond a b (not b)

pub agreed : (a b : Bool) → agree a b ≡ true → a ≡ b
agreed true b e = sym e
agreed false true e = e
agreed false false e = refl

pub falsely : (t : Bool) → (t ≡ true → ⊥) → t ≡ false
falsely true f = absurd (f refl)
falsely false f = refl

pub eqb_sym : (a b : ℕ) → eqb a b ≡ eqb b a
eqb_sym a b = by (ℕ_discrete a b)
  where
    by : Dec (a ≡ b) → eqb a b ≡ eqb b a
    by (yes e) = eq-eqb a b e ∙ sym (eq-eqb b a (sym e))
    by (no n) = ne_eqb a b n ∙ sym (ne_eqb b a (λ e. n (sym e)))

-- ---- bytes
-- a letter is no other byte
pub letter_not : (b c : ℕ) → is_letter b ≡ true → is_letter c ≡ false → eqb b c ≡ false
letter_not b c e f = ne_eqb b c (λ z. true≢false (sym e ∙ ap is_letter z ∙ f))

-- ---- numbers
pub same? : (s t : ℕ) → (s ≡ t) ⊎ (s ≡ t → ⊥)
same? s t = go (eqb s t) refl
  where
    go : (b : Bool) → eqb s t ≡ b → (s ≡ t) ⊎ (s ≡ t → ⊥)
    go true e = inl (eqb-true s t e)
    go false e = inr (eqb-false s t e)

pub below? : (s t : ℕ) → (s < t) ⊎ (t ≤ s)
below? s t = go (ltb s t) refl
  where
    go : (b : Bool) → ltb s t ≡ b → (s < t) ⊎ (t ≤ s)
    go true e = inl (ltb-true s t e)
    go false e = inr (ltb-false s t e)
