-- What the tests of a block answer, from what was read of it.
use Rattle.std.proofs.Common.{◌≡◌, sym, ap, ◌∙◌, ◌&&◌, ◌||◌, List, ℕ, ◌+◌, ◌-◌, ◌≤◌, eqb, ltb, length, take, le-leb, arith}
use Rattle.scope.specs.Lists.{all, part}
use Rattle.scope.specs.Limits.{block_size}
use Rattle.blocks.specs.LowFirst.{little}
use Rattle.blocks.specs.Block.{content_at, content_room, sum_at, sum_size, no_next, used_length, next_block, is_padded, weight, is_sound}
use Rattle.block.proofs.Sums.{sum_bytes}

-- sound: the sum that is noted is the sum, and the next block is none or in the area
pub sound_is : (n : ℕ) (x : List ℕ) (noted total after : ℕ) → length x ≡ block_size → noted ≡ little (part sum_at sum_size x) → total ≡ weight 0 (take sum_at x)
    → after ≡ next_block x → (eqb noted total && (eqb after no_next || ltb after n)) ≡ is_sound n x
unfolding is_sound
sound_is n x noted total after long e f g = rw (e, f, g, sum_bytes x long)

-- zero past the used length
pub padded_is : (x : List ℕ) (m : ℕ) → m ≡ used_length x → m ≤ content_room → all (eqb 0) (part (content_at + m) (sum_at - (content_at + m)) x) ≡ is_padded x
unfolding is_padded
padded_is x m e h =
    let rest : sum_at - (content_at + m) ≡ content_room - m = omega arith in
    ap (λ k. all (eqb 0) (part (content_at + m) k x)) rest ∙ ap (λ k. all (eqb 0) (part (content_at + k) (content_room - k) x)) e
    ∙ ap (λ t. t && all (eqb 0) (part (content_at + used_length x) (content_room - used_length x) x)) (sym (le-leb (used_length x) content_room (omega arith)))
