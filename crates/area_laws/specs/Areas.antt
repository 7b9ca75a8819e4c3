-- Areas of whole blocks: a block that is put lies there, and nothing else changes. Lists are compared index by index: index j of block b is index
-- block_size * b + j of the area.
use Rattle.std.specs.Prelude.{ℕ, zero, suc, ◌+◌, ◌-◌, ◌*◌, ◌/◌, ◌%◌, ◌≤◌, ◌<◌, ◌≡◌, refl, true, ◌&&◌, List, ◌++◌, length, get_or, take, drop, set}
use Rattle.std.proofs.Math.Path.{sym, ap}
use Rattle.std.proofs.Common.{◌∙◌, mod-lt, arith, eqb-true, length-append, length-take, length-drop, length-set, take_at, drop_at, length-take-le, get_or-take, get_or-drop, get_or-append-add, ext_get_or}
use Rattle.std.proofs.Math.Logic.{⊎_elim}
use Rattle.std.proofs.Math.Nat.{div-add-mod, mul-div_cancel_left}
use Rattle.std.proofs.Math.Dec.{eqb, leb}
use Rattle.std.proofs.Math.ListN.{get_or-append}
use Rattle.std.proofs.Math.Seq.{get_or-set_other, take-set-lt}
use Rattle.std.proofs.lemmas.List.{drop-set-add}
use Rattle.scope.specs.Limits.{block_size, block_limit}
use Rattle.scope.specs.Lists.{part}
use Rattle.basics.specs.Tests.{and_left, below?}
use Rattle.blocks.specs.Area.{blocks_in, whole_blocks, block_at, times, put_at}

-- ---- parts of lists
pub part_get : (at n : ℕ) (l : List ℕ) (i : ℕ) → i < n → get_or (part at n l) i 0 ≡ get_or l (at + i) 0
part_get at n l i h = get_or-take n (drop at l) i 0 h ∙ get_or-drop at l i 0

pub part_length : (at n : ℕ) (l : List ℕ) → at + n ≤ length l → length (part at n l) ≡ n
part_length at n l h = length-take-le n (drop at l) (omega (arith, length-drop at l))

-- two lists that agree there have the same part
pub part_same :
    (at n : ℕ) (l m : List ℕ) → length l ≡ length m → ((i : ℕ) → at ≤ i → i < at + n → get_or l i 0 ≡ get_or m i 0) → part at n l ≡ part at n m
part_same at n l m long e =
    ext_get_or 0 (part at n l) (part at n m) same_long
    (λ i h. part_get at n l i (few i h) ∙ e (at + i) (omega arith) (omega (arith, few i h)) ∙ sym (part_get at n m i (few i h)))
  where
    same_long : length (part at n l) ≡ length (part at n m)
    same_long = simp (length-take, length-drop, long)

    few : (i : ℕ) → i < length (part at n l) → i < n
    few i h = omega (arith, length-take n (drop at l))

-- ---- a list with a part put anew
module _ (at : ℕ) (x a : List ℕ) (fits : at + length x ≤ length a) where
  front_length : length (take at a) ≡ at
  front_length = length-take-le at a (omega arith)

  pub put_long : length (put_at at x a) ≡ length a
  put_long =
      length-append (take at a) (x ++ drop (at + length x) a)
      ∙ omega (arith, front_length, length-append x (drop (at + length x) a), length-drop (at + length x) a)

  pub put_part : part at (length x) (put_at at x a) ≡ x
  put_part =
      ap (take (length x)) (drop_at (take at a) (x ++ drop (at + length x) a) at front_length)
      ∙ take_at x (drop (at + length x) a) (length x) refl

  pub put_before : (i : ℕ) → i < at → get_or (put_at at x a) i 0 ≡ get_or a i 0
  put_before i h =
      get_or-append (take at a) (x ++ drop (at + length x) a) 0 i (omega (arith, front_length)) ∙ get_or-take at a i 0 h

  pub put_behind : (i : ℕ) → at + length x ≤ i → get_or (put_at at x a) i 0 ≡ get_or a i 0
  put_behind i h =
      ap (λ k. get_or (put_at at x a) k 0) (let e : i ≡ length (take at a) + (length x + (i - (at + length x))) = omega (arith, front_length) in e)
      ∙ get_or-append-add (take at a) (x ++ drop (at + length x) a) (length x + (i - (at + length x))) 0
      ∙ get_or-append-add x (drop (at + length x) a) (i - (at + length x)) 0
      ∙ get_or-drop (at + length x) a (i - (at + length x)) 0
      ∙ ap (λ k. get_or a k 0) (omega arith)

-- ---- areas
pub whole_length : (a : List ℕ) → whole_blocks a ≡ true → length a ≡ block_size * blocks_in a
unfolding whole_blocks
whole_length a e =
    let rest : length a % block_size ≡ 0 = eqb-true (length a % block_size) 0 (and_left _ (leb 1 (blocks_in a)) (and_left _ (leb (blocks_in a) block_limit) e)) in
    omega (arith, div-add-mod (length a) block_size)

pub blocks_many : (a : List ℕ) (n : ℕ) → length a ≡ block_size * n → blocks_in a ≡ n
blocks_many a n h = ap (λ k. k / block_size) h ∙ mul-div_cancel_left n {n = block_size} (omega arith)

pub block_length : (a : List ℕ) (n b : ℕ) → length a ≡ block_size * n → b < n → length (block_at a b) ≡ block_size
unfolding block_at
block_length a n b h k = part_length (block_size * b) block_size a (omega arith)

pub inside_length : (a : List ℕ) (b : ℕ) → b < blocks_in a → length (block_at a b) ≡ block_size
unfolding block_at
inside_length a b h = part_length (block_size * b) block_size a (omega arith)

-- index by index
pub block_get : (a : List ℕ) (b j : ℕ) → j < block_size → get_or (block_at a b) j 0 ≡ get_or a (block_size * b + j) 0
unfolding block_at
block_get a b j h = part_get (block_size * b) block_size a j h

module _ (a x : List ℕ) (n b : ℕ) (long : length a ≡ block_size * n) (inside : b < n) (whole : length x ≡ block_size) where
  there : block_size * b + length x ≤ length a
  there = omega arith

  pub put_length : length (put_at (block_size * b) x a) ≡ length a
  put_length = put_long (block_size * b) x a there

  pub put_same : block_at (put_at (block_size * b) x a) b ≡ x
  unfolding block_at
  put_same = ap (λ k. part (block_size * b) k (put_at (block_size * b) x a)) (sym whole) ∙ put_part (block_size * b) x a there

  pub put_other : (c : ℕ) → c < n → (b ≡ c → ⊥) → block_at (put_at (block_size * b) x a) c ≡ block_at a c
  unfolding block_at
  put_other c h k =
      part_same (block_size * c) block_size (put_at (block_size * b) x a) a put_length
      (λ i low high.
      ⊎_elim (λ w. put_before (block_size * b) x a there i w) (λ w. put_behind (block_size * b) x a there i (omega arith))
      (below? i (block_size * b)))

-- areas are equal block by block
pub same_area : (n : ℕ) (a o : List ℕ) → length a ≡ block_size * n → length o ≡ block_size * n → ((b : ℕ) → b < n → block_at a b ≡ block_at o b) → a ≡ o
same_area n a o h k e = ext_get_or 0 a o (h ∙ sym k) at
  where
    at : (i : ℕ) → i < length a → get_or a i 0 ≡ get_or o i 0
    at i l =
        let split : block_size * (i / block_size) + i % block_size ≡ i = div-add-mod i block_size in
        let low : i % block_size < block_size = mod-lt i (omega arith) in
        ap (λ z. get_or a z 0) (sym split) ∙ sym (block_get a (i / block_size) (i % block_size) low)
        ∙ ap (λ x. get_or x (i % block_size) 0) (e (i / block_size) (omega arith)) ∙ block_get o (i / block_size) (i % block_size) low
        ∙ ap (λ z. get_or o z 0) split

-- ---- so many times a block
pub times_length : (n : ℕ) (x : List ℕ) → length x ≡ block_size → length (times n x) ≡ block_size * n
unfolding times
times_length zero x e = refl
times_length (suc n) x e = omega (arith, length-append x (times n x), times_length n x e, e)

-- ---- one byte changed: in its block it is changed, and no other block is
module _ (a : List ℕ) (i c : ℕ) where
  pub set_whole : whole_blocks (set a i c) ≡ whole_blocks a
  unfolding whole_blocks
  set_whole = ap (λ n. eqb (n % block_size) 0 && leb 1 (n / block_size) && leb (n / block_size) block_limit) (length-set a i c)

  pub set_there : block_at (set a i c) (i / block_size) ≡ set (block_at a (i / block_size)) (i % block_size) c
  unfolding block_at
  set_there =
      let split : i ≡ block_size * (i / block_size) + i % block_size = sym (div-add-mod i block_size) in
      ap (λ k. part (block_size * (i / block_size)) block_size (set a k c)) split
      ∙ ap (take block_size) (drop-set-add (block_size * (i / block_size)) a (i % block_size) c)
      ∙ take-set-lt block_size (drop (block_size * (i / block_size)) a) (i % block_size) c (mod-lt i (omega arith))

  pub set_elsewhere : (b : ℕ) → (b ≡ i / block_size → ⊥) → block_at (set a i c) b ≡ block_at a b
  unfolding block_at
  set_elsewhere b other =
      part_same (block_size * b) block_size (set a i c) a (length-set a i c)
      (λ j low high. get_or-set_other a i j c 0 (λ e. other (omega arith)))
