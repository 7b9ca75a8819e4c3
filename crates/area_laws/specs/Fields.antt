-- What is read of a block that was written: the block of an entry, and a free one. The fields stand at fixed places, so reading them computes; behind
-- them is the content with its zeros, and behind that the sum, which four bytes hold.
use Rattle.std.specs.Prelude.{ℕ, zero, suc, ◌+◌, ◌-◌, ◌*◌, ◌^◌, ◌≤◌, ◌<◌, ◌≡◌, ◌⊎◌, true, ◌&&◌, ◌||◌, eqb, ltb, take, drop, replicate}
use Rattle.std.proofs.Math.Path.{refl, ap}
use Rattle.std.proofs.Common.{sym, ◌∙◌, ⊎_elim, arith, eq-eqb, le-leb, lt-ltb, length-append, take_at, drop_at, drop-drop}
use mathlib.Core.List.{List, ◌∷◌, ◌++◌, append_assoc}
use Rattle.std.proofs.Math.Dec.{leb}
use Rattle.std.proofs.Math.ListN.{length}
use Rattle.std.proofs.lemmas.List.{length-replicate}
use Rattle.scope.specs.Bytes.{byte_limit}
use Rattle.scope.specs.Limits.{block_size}
use Rattle.scope.specs.Lists.{all, part, padded}
use Rattle.basics.specs.Each.{Each, each_append, each_padded, each_replicate}
use Rattle.basics.specs.Tests.{both, or_first, or_second}
use Rattle.blocks.specs.LowFirst.{little, low_first}
use Rattle.blocks.specs.Block.{used_size, number_at, number_size, content_at, content_room, sum_at, sum_size, free_kind, no_next, block_kind, used_length, next_block, entry_number, content_in, is_last, is_padded, weight, sealed, is_sound, free_block, entry_block}
use Rattle.area_laws.specs.LowFirst.{low_length, low_bytes, little_low}
use Rattle.area_laws.specs.Sums.{weight_below}

-- ---- a sum put behind
module _ (l : List ℕ) (long : length l ≡ sum_at) where
  pub sealed_length : length (sealed l) ≡ block_size
  sealed_length = length-append l (low_first sum_size (weight 0 l)) ∙ omega (arith, low_length sum_size (weight 0 l))

  module _ (bytes : Each (λ b. b < byte_limit) l) where
    pub sealed_bytes : Each (λ b. b < byte_limit) (sealed l)
    sealed_bytes = each_append (λ b. b < byte_limit) l (low_first sum_size (weight 0 l)) bytes (low_bytes sum_size (weight 0 l))

    pub sum_fits : weight 0 l < byte_limit ^ sum_size
    sum_fits =
        let below : weight 0 l ≤ sum_at * byte_limit * length l = weight_below sum_at 0 l (omega arith) bytes in
        omega arith

    pub sealed_sum : little (drop sum_at (sealed l)) ≡ weight 0 (take sum_at (sealed l))
    sealed_sum =
        ap little (drop_at l (low_first sum_size (weight 0 l)) sum_at long) ∙ little_low sum_size (weight 0 l) sum_fits
        ∙ ap (weight 0) (sym (take_at l (low_first sum_size (weight 0 l)) sum_at long))

    -- its next is one of n blocks, or none
    pub sealed_sound : (n : ℕ) → (is_last (sealed l) || ltb (next_block (sealed l)) n) ≡ true → is_sound n (sealed l) ≡ true
    unfolding is_sound
    sealed_sound n h = both _ _ (eq-eqb _ _ sealed_sum) h

-- ---- the block of an entry
-- what its sum is of
abbrev entry_front : ℕ → ℕ → ℕ → List ℕ → List ℕ
entry_front kind number next c = (kind ∷ low_first used_size (length c)) ++ ((next ∷ low_first number_size number) ++ padded 0 content_room c)

zeros : (n : ℕ) → all (eqb 0) (replicate n 0) ≡ true
unfolding all
zeros zero = refl
zeros (suc n) = zeros n

module _ (kind number next : ℕ) (c : List ℕ) where
  pub entry_kind : block_kind (entry_block kind number next c) ≡ kind
  unfolding entry_block
  entry_kind = refl

  pub entry_next : next_block (entry_block kind number next c) ≡ next
  unfolding entry_block low_first
  entry_next = refl

  pub entry_number_lem : number < 2 ^ 32 → entry_number (entry_block kind number next c) ≡ number
  unfolding entry_block low_first
  entry_number_lem h = little_low number_size number h

  module _ (fits : length c ≤ content_room) where
    padded_length : length (padded 0 content_room c) ≡ content_room
    padded_length = length-append c (replicate (content_room - length c) 0) ∙ omega (arith, length-replicate {A = ℕ} (content_room - length c) 0)

    front_length : length (entry_front kind number next c) ≡ sum_at
    unfolding low_first
    front_length = omega (arith, padded_length)

    pub entry_length : length (entry_block kind number next c) ≡ block_size
    unfolding entry_block
    entry_length = sealed_length (entry_front kind number next c) front_length

    pub entry_used : used_length (entry_block kind number next c) ≡ length c
    unfolding entry_block low_first
    entry_used = little_low used_size (length c) (omega arith)

    -- from the content on: it, its zeros, the sum
    content_on :
        drop content_at (entry_block kind number next c)
        ≡ c ++ (replicate (content_room - length c) 0 ++ low_first sum_size (weight 0 (entry_front kind number next c)))
    unfolding entry_block low_first
    content_on = append_assoc c (replicate (content_room - length c) 0) (low_first sum_size (weight 0 (entry_front kind number next c)))

    pub entry_content : content_in (entry_block kind number next c) ≡ c
    entry_content =
        ap (λ n. part content_at n (entry_block kind number next c)) entry_used ∙ ap (take (length c)) content_on ∙ take_at c _ (length c) refl

    zeros_on : part (content_at + length c) (content_room - length c) (entry_block kind number next c) ≡ replicate (content_room - length c) 0
    zeros_on =
        ap (take (content_room - length c))
        (sym (drop-drop (length c) content_at (entry_block kind number next c)) ∙ ap (drop (length c)) content_on ∙ drop_at c _ (length c) refl)
        ∙ take_at (replicate (content_room - length c) 0) _ (content_room - length c) (length-replicate {A = ℕ} (content_room - length c) 0)

    pub entry_padded : is_padded (entry_block kind number next c) ≡ true
    unfolding is_padded
    entry_padded =
        ap (λ n. leb n content_room && all (eqb 0) (part (content_at + n) (content_room - n) (entry_block kind number next c))) entry_used
        ∙ both _ _ (le-leb (length c) content_room fits) (ap (all (eqb 0)) zeros_on ∙ zeros (content_room - length c))

    front_bytes : kind < byte_limit → next < byte_limit → Each (λ b. b < byte_limit) c → Each (λ b. b < byte_limit) (entry_front kind number next c)
    front_bytes h k e =
        each_append (λ b. b < byte_limit) (kind ∷ low_first used_size (length c)) ((next ∷ low_first number_size number) ++ padded 0 content_room c)
        (h, low_bytes used_size (length c))
        (each_append (λ b. b < byte_limit) (next ∷ low_first number_size number) (padded 0 content_room c) (k, low_bytes number_size number)
        (each_padded (λ b. b < byte_limit) 0 content_room c (omega arith) e))

    -- of n blocks
    pub entry_sound :
        (n : ℕ) → kind < byte_limit → next < byte_limit → Each (λ b. b < byte_limit) c → (next ≡ no_next) ⊎ (next < n)
        → is_sound n (entry_block kind number next c) ≡ true
    unfolding entry_block low_first
    entry_sound n h k e w =
        sealed_sound (entry_front kind number next c) front_length (front_bytes h k e) n
        (⊎_elim (λ z. or_first (eqb next no_next) (ltb next n) (eq-eqb next no_next z)) (λ z. or_second (eqb next no_next) (ltb next n) (lt-ltb next n z)) w)

    -- each of its bytes is one
    pub entry_bytes : kind < byte_limit → next < byte_limit → Each (λ b. b < byte_limit) c → Each (λ b. b < byte_limit) (entry_block kind number next c)
    unfolding entry_block
    entry_bytes h k e = sealed_bytes (entry_front kind number next c) front_length (front_bytes h k e)

-- ---- a free block
abbrev free_front : List ℕ
free_front = free_kind ∷ 0 ∷ 0 ∷ no_next ∷ replicate (sum_at - number_at) 0

free_front_lem : Each (λ b. b < byte_limit) free_front
free_front_lem = (omega arith, (omega arith, (omega arith, (omega arith, each_replicate (λ b. b < byte_limit) (sum_at - number_at) 0 (omega arith)))))

pub free_length : length free_block ≡ block_size
unfolding free_block
free_length = sealed_length free_front refl

pub free_kind_lem : block_kind free_block ≡ free_kind
unfolding free_block
free_kind_lem = refl

pub free_sound : (n : ℕ) → is_sound n free_block ≡ true
unfolding free_block
free_sound n = sealed_sound free_front refl free_front_lem n refl

pub free_bytes : Each (λ b. b < byte_limit) free_block
unfolding free_block
free_bytes = sealed_bytes free_front refl free_front_lem
