-- A content in pieces: one behind another they are the content, each but the last is full, and there are as many as blocks are needed.
use Prim.Native.Nat.{ℕ, zero, suc, ◌+◌, ◌*◌, ◌≤◌, ◌<◌}
use native.Mathlib.Omega.{arith}
use Rattle.std.specs.Prelude.{◌≡◌, List, [], ◌∷◌, ◌++◌, length, drop}
use Rattle.std.proofs.Math.Path.{refl, sym, ap}
use Rattle.std.proofs.Common.{◌∙◌, take_all, take-add, drop-drop}
use Rattle.std.proofs.Math.ListN.{take, length-take, length-drop}
use Rattle.scope.specs.Lists.{flat, part, tabled}
use Rattle.basics.specs.Each.{Each, each_tabled}
use Rattle.basics.specs.Tabled.{length_tabled}
use Rattle.blocks.specs.Block.{content_room}
use Rattle.blocks.specs.Answers.{blocks_for, pieces}
use Rattle.block_laws.specs.Written.{Bytes, part_bytes}

-- pieces one behind another
abbrev pub joined : List (List ℕ) → List ℕ
joined cs = flat (λ c. c) cs

-- "every block but an entry's last full"
abbrev pub Filled : List (List ℕ) → Type 0
Filled [] = Unit {0}
Filled (c ∷ []) = length c ≤ content_room
Filled (c ∷ d ∷ cs) = (length c ≡ content_room) × Filled (d ∷ cs)

pub filled_fit : (cs : List (List ℕ)) → Filled cs → Each (λ c. length c ≤ content_room) cs
filled_fit [] h = tt
filled_fit (c ∷ []) h = (h, tt)
filled_fit (c ∷ d ∷ cs) h = (omega (arith, h.0), filled_fit (d ∷ cs) h.1)

-- as many blocks as a content needs have room for it, and one less has not
blocks_enough : (m : ℕ) → m ≤ content_room * blocks_for m
blocks_enough m = omega arith

blocks_needed : (m : ℕ) → content_room * blocks_for m < m + content_room
blocks_needed m = omega arith

pub blocks_some : (m : ℕ) → 1 ≤ m → 1 ≤ blocks_for m
blocks_some m h = omega arith

module _ (c : List ℕ) where
  abbrev piece : ℕ → List ℕ
  piece i = part (content_room * i) content_room c

  pub pieces_many : length (pieces c) ≡ blocks_for (length c)
  pieces_many = length_tabled piece 0 (blocks_for (length c))

  joined_from : (i n : ℕ) → joined (tabled piece i n) ≡ take (content_room * n) (drop (content_room * i) c)
  unfolding flat tabled
  joined_from i zero = refl
  joined_from i (suc n) =
      let next : content_room * (i + 1) ≡ content_room * i + content_room = omega arith in
      let all : content_room * suc n ≡ content_room + content_room * n = omega arith in
      ap (λ l. piece i ++ l) (joined_from (i + 1) n ∙ ap (λ m. take (content_room * n) (drop m c)) next ∙ ap (take (content_room * n)) (sym (drop-drop content_room (content_room * i) c)))
      ∙ sym (take-add content_room (content_room * n) (drop (content_room * i) c)) ∙ ap (λ m. take m (drop (content_room * i) c)) (sym all)

  pub joined_pieces : joined (pieces c) ≡ c
  joined_pieces = joined_from 0 (blocks_for (length c)) ∙ take_all (content_room * blocks_for (length c)) c (blocks_enough (length c))

  filled_from : (i n : ℕ) → content_room * (i + n) < length c + content_room → Filled (tabled piece i n)
  unfolding tabled
  filled_from i zero h = tt
  filled_from i (suc zero) h = omega (arith, length-take content_room (drop (content_room * i) c))
  filled_from i (suc (suc n)) h =
      (omega (arith, length-take content_room (drop (content_room * i) c), length-drop (content_room * i) c), filled_from (i + 1) (suc n) (omega arith))

  pub filled_pieces : Filled (pieces c)
  filled_pieces = filled_from 0 (blocks_for (length c)) (omega (arith, blocks_needed (length c)))

  pub pieces_bytes : Bytes c → Each Bytes (pieces c)
  pieces_bytes h = each_tabled Bytes piece 0 (blocks_for (length c)) (λ i k. part_bytes (content_room * i) content_room c h)
