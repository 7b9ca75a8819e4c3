-- A table of bits that stand for closers. It keeps those that can be read off it, the last one first; and each of its bytes is below 2 to the number of its bits, so that
-- one more fits. Assumes nothing.
use Prim.Native.Nat.{ℕ, zero, suc, ◌+◌, ◌-◌, ◌*◌, ◌/◌, ◌%◌, ◌^◌, ◌≤◌, ◌<◌, min}
use mathlib.Core.Path.{◌≡◌, refl, sym}
use mathlib.Core.Bool.{Bool, true, false, cond}
use mathlib.Core.List.{List, [], ◌∷◌}
use native.Mathlib.Numerals.{add-one}
use native.Mathlib.Nat.{two-pow-succ, pow-le-pow_right}
use native.Mathlib.Omega.{arith}
use lib.Dec.{eqb}
use lib.ListN.{length, get_or, set, replicate, length-set}
use lib.Seq.{get_or-set_same, get_or-set_other, set-get_or, set-set}
use borrow.Author.Tests.{ne_eqb, eqb-true, eqb-false}
use Rattle.scope.specs.Bytes.{byte_limit, is_shutting, shut_square, shut_curly}
use Rattle.scope.specs.Limits.{line_limit}
use Rattle.texts.specs.Texts.{last_of}

-- how many bits a byte has
abbrev pub bits : ℕ
bits = 8

-- the byte of bit n, and the table with that bit read off it
abbrev pub byte_of : List ℕ → ℕ → ℕ
byte_of t n = get_or t (n / bits) 0

abbrev pub read_off : List ℕ → ℕ → List ℕ
read_off t n = set t (n / bits) (byte_of t n / 2)

-- the closers that the first n bits of a table stand for
unfoldable pub owing : List ℕ → ℕ → List ℕ
owing t zero = []
owing t (suc n) = last_of (byte_of t n) ∷ owing (read_off t n) n

-- byte j of a table of n bits is below this
abbrev room_at : ℕ → ℕ → ℕ
room_at n j = 2 ^ min bits (n - bits * j)

-- a table of n bits
pub record BitTable (t : List ℕ) (n : ℕ) : Type 0 where
  pub size : bits * length t ≡ line_limit
  pub room : n ≤ line_limit
  pub fits : (j : ℕ) → get_or t j 0 < room_at n j

zeros : (m j : ℕ) → ◌≡◌ {A = ℕ} (get_or (replicate m 0) j 0) 0
zeros zero j = refl
zeros (suc m) zero = refl
zeros (suc m) (suc j) = zeros m j

pub kept_none : BitTable (replicate (line_limit / bits) 0) 0
kept_none = record {
  size = refl;
  room = omega arith;
  fits = λ j. let z : min bits (0 - bits * j) ≡ 0 = omega arith in rw (zeros (line_limit / bits) j, z) (omega arith);
}

-- with one bit more only the byte of that bit has more room, twice as much
room_here : (n : ℕ) → room_at (n + 1) (n / bits) ≡ 2 * room_at n (n / bits)
room_here n =
    let a : min bits (n + 1 - bits * (n / bits)) ≡ suc (n - bits * (n / bits)) = omega arith in
    let b : min bits (n - bits * (n / bits)) ≡ n - bits * (n / bits) = omega arith in
    rw (a, b) (omega (arith, two-pow-succ (n - bits * (n / bits))))

room_there : (n j : ℕ) → (j ≡ n / bits → ⊥) → room_at (n + 1) j ≡ room_at n j
room_there n j h =
    let e : min bits (n + 1 - bits * j) ≡ min bits (n - bits * j) = omega arith in
    rw e

-- so only that byte has to fit anew
fits_set : (t : List ℕ) (n m v : ℕ) → n / bits < length t → ((j : ℕ) → (j ≡ n / bits → ⊥) → get_or t j 0 < room_at m j) → v < room_at m (n / bits)
    → (j : ℕ) → get_or (set t (n / bits) v) j 0 < room_at m j
fits_set t n m v h there here j = go (eqb j (n / bits)) refl
  where
    go : (x : Bool) → eqb j (n / bits) ≡ x → get_or (set t (n / bits) v) j 0 < room_at m j
    go true q = rw (eqb-true j (n / bits) q, get_or-set_same t (n / bits) v 0 h) here
    go false q = rw (get_or-set_other t (n / bits) j v 0 (eqb-false j (n / bits) q)) (there j (eqb-false j (n / bits) q))

-- the last bit is read off
pub owing_last : (t : List ℕ) (n : ℕ) → 1 ≤ n → owing t n ≡ last_of (byte_of t (n - 1)) ∷ owing (read_off t (n - 1)) (n - 1)
unfolding owing
owing_last t zero h = absurd (omega arith)
owing_last t (suc n) h =
    let e : suc n - 1 ≡ n = omega arith in
    rw e

module _ (t : List ℕ) (n : ℕ) (w : BitTable t n) where
  pub kept_less : 1 ≤ n → BitTable (read_off t (n - 1)) (n - 1)
  kept_less h =
      let e : n - 1 + 1 ≡ n = omega arith in
      let below : (j : ℕ) → get_or t j 0 < room_at (n - 1 + 1) j = rw e w.fits in
      record {
        size = omega (arith, w.size, length-set t ((n - 1) / bits) (byte_of t (n - 1) / 2));
        room = omega (arith, w.room);
        fits = fits_set t (n - 1) (n - 1) _ (omega (arith, w.size, w.room)) (λ j o. rw (room_there (n - 1) j o) at (below j))
            (omega (arith, below ((n - 1) / bits), room_here (n - 1)));
      }

  -- there is room for one more
  module _ (h : n < line_limit) where
    byte_there : n / bits < length t
    byte_there = omega (arith, w.size)

    pub kept_fits : 2 * byte_of t n + 1 < byte_limit
    kept_fits =
        let few : min bits (n + 1 - bits * (n / bits)) ≤ bits = omega arith in
        let whole : room_at (n + 1) (n / bits) ≤ byte_limit = pow-le-pow_right (omega arith) few in
        omega (arith, w.fits (n / bits), room_here n)

    -- v is the byte with one bit more
    module _ (v : ℕ) (e : v / 2 ≡ byte_of t n) where
      pub kept_more : BitTable (set t (n / bits) v) (n + 1)
      kept_more = record {
        size = omega (arith, w.size, length-set t (n / bits) v);
        room = omega arith;
        fits = fits_set t n (n + 1) v byte_there (λ j o. rw (room_there n j o) (w.fits j)) (omega (arith, w.fits (n / bits), room_here n));
      }

      pub owing_more : (x : ℕ) → last_of v ≡ x → owing (set t (n / bits) v) (n + 1) ≡ x ∷ owing t n
      unfolding owing
      owing_more x q =
          rw (add-one n, owing, get_or-set_same t (n / bits) v 0 byte_there, e, set-set t (n / bits) v (byte_of t n), set-get_or t (n / bits) 0, q)

-- what a bit stands for closes a pair
pub last_shuts : (v : ℕ) → is_shutting (last_of v) ≡ true
last_shuts v = go (eqb (v % 2) 1)
  where
    go : (x : Bool) → is_shutting (cond x shut_square shut_curly) ≡ true
    go true = refl
    go false = refl

-- the bit of each closer, behind those of v
pub last_square : (v c : ℕ) → c ≡ shut_square → ((2 * v + 1) / 2 ≡ v) × (last_of (2 * v + 1) ≡ c)
last_square v c e =
    let q : (2 * v + 1) % 2 ≡ 1 = omega arith in
    (omega arith, rw (q, e))

pub last_curly : (v c : ℕ) → is_shutting c ≡ true → (c ≡ shut_square → ⊥) → (2 * v / 2 ≡ v) × (last_of (2 * v) ≡ c)
last_curly v c h n =
    let q : 2 * v % 2 ≡ 0 = omega arith in
    (omega arith, rw q (sym (eqb-true c shut_curly (rw (ne_eqb c shut_square n) at h))))
