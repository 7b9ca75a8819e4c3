-- "Blocks are taken lowest free first": the free blocks are listed in ascending order, each once, and adding takes as many from the front as it needs. And entries
-- under two numbers share no block, since a block has one number.
use Rattle.std.specs.Prelude.{ℕ, zero, suc, ◌≤◌, ◌<◌, ◌≡◌, ◌↔◌, Bool, true, false, cond, ◌||◌, List, [], ◌∷◌, eqb, ltb, length, take}
use Rattle.std.proofs.Math.Path.{refl}
use Rattle.std.proofs.Common.{sym, ap, ◌∙◌, subst, inl, inr, arith, eqb-true, ltb-false, length-take-le}
use Rattle.scope.specs.Answers.{good, refuses}
use Rattle.basics.specs.Each.{In, each_in}
use Rattle.basics.specs.Members.{in_keep, keep_in}
use Rattle.basics.specs.Tabled.{in_tabled, tabled_in}
use Rattle.basics.specs.Tests.{and_left, and_right}
use Rattle.placement_laws.specs.Terms.{Rising}
use Rattle.placement_laws.specs.Lines.{kept_rising}
use Rattle.blocks.specs.Block.{further_kind, is_first, block_kind, entry_number}
use Rattle.blocks.specs.Area.{blocks_in, whole_blocks, block_at, block_numbers, sound_at, carries, is_free, frees}
use Rattle.blocks.specs.Entry.{Entry, Looked, absent, damaged, present, look}
use Rattle.blocks.specs.Answers.{room_for, placing}
use Rattle.block_laws.specs.Apart.{bears, present_inside}

-- ---- lists in order
-- what is not among the first ones stands behind all of them
behind_taken : (n : ℕ) (l : List ℕ) (x y : ℕ) → Rising l → In x l → (In x (take n l) → ⊥) → In y (take n l) → y < x
behind_taken zero [] x y o h w k = absurd k
behind_taken zero (z ∷ l) x y o h w k = absurd k
behind_taken (suc n) [] x y o h w k = absurd h
behind_taken (suc n) (z ∷ l) x y o (inl e) w k = absurd (w (inl e))
behind_taken (suc n) (z ∷ l) x y o (inr h) w (inl e) = subst (λ v. v < x) (sym e) (o.0 x h)
behind_taken (suc n) (z ∷ l) x y o (inr h) w (inr k) = behind_taken n l x y o.1 h (λ m. w (inr m)) k

-- ---- the free blocks
pub frees_ascend : (a : List ℕ) → Rising (frees a)
unfolding frees
frees_ascend a = kept_rising (is_free a) 0 (blocks_in a)

pub exactly_frees : (a : List ℕ) (b : ℕ) → In b (frees a) ↔ ((b < blocks_in a) × (is_free a b ≡ true))
unfolding frees
exactly_frees a b = (from, to)
  where
    from : In b (frees a) → (b < blocks_in a) × (is_free a b ≡ true)
    from h =
        let z = in_keep (is_free a) b (block_numbers a) h in
        let w = in_tabled 0 (blocks_in a) b z.0 in
        (omega (arith, w.1), z.1)

    to : (b < blocks_in a) × (is_free a b ≡ true) → In b (frees a)
    to h = keep_in (is_free a) b (block_numbers a) (tabled_in 0 (blocks_in a) b (omega arith) (omega (arith, h.0))) h.1

-- ---- what adding takes
pub record Takes (a : List ℕ) (number need : ℕ) (bs : List ℕ) : Type 0 where
  pub whole : whole_blocks a ≡ true
  pub new : look a number ≡ absent
  pub enough : need ≤ length (frees a)
  pub lowest : bs ≡ take need (frees a)

module _ (a : List ℕ) (number need : ℕ) (bs : List ℕ) where
  by_room : whole_blocks a ≡ true → look a number ≡ absent → (t : Bool) → ltb (length (frees a)) need ≡ t
      → cond t (refuses 24 0) (good (take need (frees a))) ≡ good bs → Takes a number need bs
  by_room w l true q e = let z : ◌≡◌ {A = ℕ} 0 1 = cc in absurd (omega arith)
  by_room w l false q e = record { whole = w; new = l; enough = ltb-false (length (frees a)) need q; lowest = cc }

  by_look : whole_blocks a ≡ true → (k : Looked) → look a number ≡ k → room_for k (frees a) need ≡ good bs → Takes a number need bs
  by_look w absent l e = by_room w l (ltb (length (frees a)) need) refl e
  by_look w damaged l e = let z : ◌≡◌ {A = ℕ} 0 1 = cc in absurd (omega arith)
  by_look w (present cs x) l e = let z : ◌≡◌ {A = ℕ} 0 1 = cc in absurd (omega arith)

  by_whole : (t : Bool) → whole_blocks a ≡ t → cond t (room_for (look a number) (frees a) need) (refuses 26 0) ≡ good bs → Takes a number need bs
  by_whole true w e = by_look w (look a number) refl e
  by_whole false w e = let z : ◌≡◌ {A = ℕ} 0 1 = cc in absurd (omega arith)

  module _ (placed : placing a number need ≡ good bs) where
    pub takes : Takes a number need bs
    unfolding placing
    takes = by_whole (whole_blocks a) refl placed

    pub lowest_first : bs ≡ take need (frees a)
    lowest_first = takes.lowest

    pub as_many : length bs ≡ need
    as_many = ap length lowest_first ∙ length-take-le need (frees a) takes.enough

    -- a free block that is not taken stands above all that are
    pub left_above : (x : ℕ) → In x (frees a) → (In x bs → ⊥) → (b : ℕ) → In b bs → b < x
    left_above x h w b k =
        behind_taken need (frees a) x b (frees_ascend a) h (λ m. w (subst (In x) (sym lowest_first) m)) (subst (In b) lowest_first k)

-- ---- entries share no block
pub bears_number : (a : List ℕ) (number b : ℕ) → bears a number b ≡ true → entry_number (block_at a b) ≡ number
unfolding carries
bears_number a number b e =
    eqb-true (entry_number (block_at a b)) number
    (and_left (eqb (entry_number (block_at a b)) number) (sound_at a b) (and_right (is_first (block_kind (block_at a b)) || eqb (block_kind (block_at a b)) further_kind) _ e))

module _ (a : List ℕ) (m n : ℕ) (bs cs : List ℕ) (e f : Entry) (first : look a m ≡ present bs e) (second : look a n ≡ present cs f) where
  pub share_none : (m ≡ n → ⊥) → (b : ℕ) → In b bs → In b cs → ⊥
  share_none other b h k =
      other
      (sym (bears_number a m b (each_in (λ c. (c < blocks_in a) × (bears a m c ≡ true)) bs b h (present_inside a m bs e first)).1)
      ∙ bears_number a n b (each_in (λ c. (c < blocks_in a) × (bears a n c ≡ true)) cs b k (present_inside a n cs f second)).1)
