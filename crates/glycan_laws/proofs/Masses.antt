-- What is written is no longer than what was read, weighs the same, and weighs less than 1,000,000.
use Rattle.std.specs.Prelude.{ℕ, suc, ◌+◌, ◌*◌, ◌^◌, ◌≤◌, ◌<◌, ◌≡◌, refl, Bool, true, false, cond, ◌&&◌, List, [], ◌∷◌, ◌++◌, map, eqb, leb, ltb, length}
use Rattle.std.proofs.Common.{sym, ap, ap₂, ◌∙◌, subst, arith, length-append, eqb-true, leb-true, ltb-true, ltb-false, mul-le-mul_right}
use Rattle.std.proofs.Math.Option.{Option, none, some}
use Rattle.scope.specs.Bytes.{upper}
use Rattle.scope.specs.Limits.{text_limit, size_limit}
use Rattle.scope.specs.Lists.{flat}
use Rattle.basics.specs.Tests.{and_left, and_right}
use Rattle.scope.specs.Glycans.{Sugar, Item, sugars, mass_decimals, sugar_at, name_at, count_text, item_text, cutting_text, short_count, short, short_text, count_of, item_mass, cutting_mass}
use Rattle.glycan_laws.specs.Laws.{CountGood, ItemGood, AllGood, Cuts}
use Rattle.glycan_laws.specs.Back.{all_below}
use Rattle.glycan_laws.proofs.Back.{at_each}
use Rattle.glycan_laws.proofs.Digits.{one_digit_lem, two_digits_lem}

-- ---- counts of 1 dropped
pub short_count_good : (c : Option ℕ) → CountGood c → CountGood (short_count c)
short_count_good none g = tt
short_count_good (some n) g = by (eqb n 1)
  where
    by : (b : Bool) → CountGood (cond b none (some n))
    by true = tt
    by false = g

pub short_count_twice : (c : Option ℕ) → short_count (short_count c) ≡ short_count c
short_count_twice none = refl
short_count_twice (some n) = by (eqb n 1) refl
  where
    by : (b : Bool) → eqb n 1 ≡ b → short_count (cond b none (some n)) ≡ cond b none (some n)
    by true q = refl
    by false q = ap (λ b. cond b none (some n)) q

pub short_count_count_of : (c : Option ℕ) → count_of (short_count c) ≡ count_of c
short_count_count_of none = refl
short_count_count_of (some n) = by (eqb n 1) refl
  where
    by : (b : Bool) → eqb n 1 ≡ b → count_of (cond b none (some n)) ≡ n
    by true q = sym (eqb-true n 1 q)
    by false q = refl

pub short_count_length : (c : Option ℕ) → length (count_text (short_count c)) ≤ length (count_text c)
short_count_length none = omega arith
short_count_length (some n) = by (eqb n 1)
  where
    by : (b : Bool) → length (count_text (cond b none (some n))) ≤ length (count_text (some n))
    by true = omega arith
    by false = omega arith

pub all_short : (xs : List Item) → AllGood xs → AllGood (map short xs)
all_short [] g = tt
all_short (p ∷ xs) g = (record { listed = g.0.listed; count = short_count_good p.count g.0.count }, all_short xs g.1)

pub short_of_short : (xs : List Item) → short_text (map short xs) ≡ short_text xs
unfolding flat
short_of_short [] = refl
short_of_short (p ∷ xs) = ap₂ (λ c t. name_at p.name ++ count_text c ++ t) (short_count_twice p.count) (short_of_short xs)

pub same_mass : (xs : List Item) → cutting_mass (map short xs) ≡ cutting_mass xs
unfolding cutting_mass
same_mass [] = refl
same_mass (p ∷ xs) = ap₂ (λ n m. n * (sugar_at p.name).mass + m) (short_count_count_of p.count) (same_mass xs)

short_length : (xs : List Item) → length (short_text xs) ≤ length (cutting_text xs)
unfolding flat
short_length [] = omega arith
short_length (p ∷ xs) =
    let a = length-append (item_text (short p)) (short_text xs) in
    let b = length-append (item_text p) (cutting_text xs) in
    let c = length-append (name_at p.name) (count_text (short_count p.count)) in
    let d = length-append (name_at p.name) (count_text p.count) in
    let k = short_count_length p.count in
    let r = short_length xs in
    omega arith

long : (t : List ℕ) → length (map upper t) ≡ length t
long [] = refl
long (b ∷ t) = ap suc (long t)

same_length : (t u : List ℕ) → map upper t ≡ map upper u → length t ≡ length u
same_length t u e = sym (long t) ∙ ap length e ∙ long u

pub no_longer : (t : List ℕ) (xs : List Item) → Cuts xs t → length (short_text xs) ≤ length t
no_longer t xs c = subst (λ n. length (short_text xs) ≤ n) (sym (same_length t (cutting_text xs) c.spelled)) (short_length xs)

-- ---- masses: at most 5,600 for each byte, in ten-thousandths
abbrev pub per_byte : ℕ
per_byte = 56000000

-- a name of so many bytes, with no count, one of one digit, one of two
abbrev pub is_light : Sugar → Bool
is_light s =
    leb s.mass (per_byte * length s.name)
    && (leb (9 * s.mass) (per_byte * (length s.name + 1)) && leb (99 * s.mass) (per_byte * (length s.name + 2)))

all_light : all_below (λ i. is_light (sugar_at i)) (length sugars) ≡ true
unfolding all_below sugars
all_light = refl

-- by the number of digits of its count
module _ (s : Sugar) (light : is_light s ≡ true) where
  bare_light : 1 * s.mass ≤ per_byte * length s.name
  bare_light = let h : s.mass ≤ per_byte * length s.name = leb-true _ _ (and_left (leb s.mass (per_byte * length s.name)) _ light) in omega arith

  few_light : (n : ℕ) → n < 10 → n * s.mass ≤ per_byte * (length s.name + 1)
  few_light n h =
      let k : 9 * s.mass ≤ per_byte * (length s.name + 1) = leb-true _ _ (and_left (leb (9 * s.mass) (per_byte * (length s.name + 1))) _ (and_right (leb s.mass (per_byte * length s.name)) _ light)) in
      let q = mul-le-mul_right s.mass (few h) in
      omega arith
    where
      few : n < 10 → n ≤ 9
      few h = omega arith

  many_light : (n : ℕ) → n ≤ 99 → n * s.mass ≤ per_byte * (length s.name + 2)
  many_light n h =
      let k : 99 * s.mass ≤ per_byte * (length s.name + 2) = leb-true _ _ (and_right (leb (9 * s.mass) (per_byte * (length s.name + 1))) _ (and_right (leb s.mass (per_byte * length s.name)) _ light)) in
      let q = mul-le-mul_right s.mass h in
      omega arith

  counted_light : (c : Option ℕ) → CountGood c → count_of c * s.mass ≤ per_byte * (length s.name + length (count_text c))
  counted_light none g = let h = bare_light in omega arith
  counted_light (some n) g = by (ltb n 10) refl
    where
      below : n ≤ 99 → n < 100
      below h = omega arith

      by : (b : Bool) → ltb n 10 ≡ b → n * s.mass ≤ per_byte * (length s.name + length (count_text (some n)))
      by true q = subst (λ l. n * s.mass ≤ per_byte * (length s.name + length l)) (sym (one_digit_lem n (ltb-true n 10 q))) (few_light n (ltb-true n 10 q))
      by false q = subst (λ l. n * s.mass ≤ per_byte * (length s.name + length l)) (sym (two_digits_lem n (ltb-false n 10 q))) (many_light n g.1)

item_light : (p : Item) → ItemGood p → item_mass p ≤ per_byte * length (item_text p)
item_light p g =
    subst (λ n. item_mass p ≤ per_byte * n) (sym (length-append (name_at p.name) (count_text p.count)))
    (counted_light (sugar_at p.name) (at_each (λ i. is_light (sugar_at i)) _ p.name all_light g.listed) p.count g.count)

pub cutting_light : (xs : List Item) → AllGood xs → cutting_mass xs ≤ per_byte * length (cutting_text xs)
unfolding flat cutting_mass
cutting_light [] g = omega arith
cutting_light (p ∷ xs) g =
    let a = item_light p g.0 in
    let b = cutting_light xs g.1 in
    let c = length-append (item_text p) (cutting_text xs) in
    omega arith

pub small : (t : List ℕ) (xs : List Item) → Cuts xs t → length t ≤ text_limit → cutting_mass xs < size_limit * 10 ^ mass_decimals
small t xs c h = let a = cutting_light xs c.good in let b = same_length t (cutting_text xs) c.spelled in omega arith
