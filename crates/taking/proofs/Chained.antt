-- Blocks in a row, piece by piece of a content: the block at a place and those behind it, what comes next, and the piece that goes into it.
use mathlib.Core.Path.{◌≡◌, sym, ap, ◌∙◌}
use mathlib.Core.Logic.{⊎_elim}
use mathlib.Core.List.{List, [], ◌∷◌}
use Prim.Native.Nat.{ℕ, zero, suc, ◌+◌, ◌-◌, ◌*◌, ◌≤◌, ◌<◌, min}
use Rattle.scope.specs.Limits.{block_size}
use native.Mathlib.Omega.{arith}
use native.Mathlib.Numerals.{add-one}
use lib.ListN.{length, get_or, take, drop, length-drop, drop_of_length-le}
use lib.Seq.{drop-cons, take_all}
use Rattle.scope.specs.Lists.{part}
use Rattle.basics.specs.Each.{Each}
use Rattle.basics.specs.Tests.{below?}
use Rattle.blocks.specs.Block.{content_room, further_kind, entry_block}
use Rattle.blocks.specs.Area.{put_at}
use Rattle.taking.specs.Says.{kind_of}

-- ---- of so many, the one at a place, and those behind it
pub each_at : (Q : ℕ → Type 0) (l : List ℕ) (k : ℕ) → Each Q l → k < length l → Q (get_or l k 0)
each_at Q [] k h m = absurd (omega arith)
each_at Q (x ∷ l) zero h m = h.0
each_at Q (x ∷ l) (suc k) h m = each_at Q l k h.1 (omega arith)

module _ (blocks : List ℕ) (k : ℕ) where
  pub chain_at : k < length blocks → drop k blocks ≡ get_or blocks k 0 ∷ drop (k + 1) blocks
  chain_at h = drop-cons blocks k 0 h ∙ ap (λ i. get_or blocks k 0 ∷ drop i blocks) (sym (add-one k))

  pub chain_end : length blocks ≤ k → drop k blocks ≡ []
  chain_end h = drop_of_length-le blocks {i = k} h

-- ---- kinds
pub kind_behind : (k : ℕ) → kind_of (k + 1) ≡ further_kind
kind_behind k = ap kind_of (add-one k)

-- ---- pieces
-- a piece ends with its room, or with the content
pub piece_cut : (l : List ℕ) (k end : ℕ) → content_room * k ≤ length l → end ≡ min (length l) (k * content_room + content_room)
    → take (end - k * content_room) (drop (k * content_room) l) ≡ part (content_room * k) content_room l
piece_cut l k end h e = ⊎_elim short whole (below? end (k * content_room + content_room))
  where
    at : k * content_room ≡ content_room * k
    at = omega arith

    short : end < k * content_room + content_room → take (end - k * content_room) (drop (k * content_room) l) ≡ part (content_room * k) content_room l
    short s =
        let long = length-drop (k * content_room) l in
        take_all (end - k * content_room) (drop (k * content_room) l) (omega (arith, long)) ∙ sym (take_all content_room (drop (k * content_room) l) (omega (arith, long)))
        ∙ ap (λ i. take content_room (drop i l)) at

    whole : k * content_room + content_room ≤ end → take (end - k * content_room) (drop (k * content_room) l) ≡ part (content_room * k) content_room l
    whole w =
        let all : end - k * content_room ≡ content_room = omega arith in
        ap (λ m. take m (drop (k * content_room) l)) all ∙ ap (λ i. take content_room (drop i l)) at

-- the block of what is equal to it, field by field
pub piece_put : (area : List ℕ) (number : ℕ) {b b' kind kind' next next' : ℕ} {c c' : List ℕ} → b ≡ b' → kind ≡ kind' → next ≡ next' → c ≡ c'
    → put_at (block_size * b) (entry_block kind number next c) area ≡ put_at (block_size * b') (entry_block kind' number next' c') area
piece_put area number d e f g = cc
