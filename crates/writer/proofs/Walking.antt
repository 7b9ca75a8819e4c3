-- Laws of `Walks`: bytes before, behind and between walks over the brackets, and the room that they leave. Assumes nothing.
use mathlib.Core.Path.{◌≡◌}
use mathlib.Core.List.{List, ◌++◌}
use Prim.Native.Nat.{ℕ, ◌+◌, ◌-◌, ◌*◌, ◌≤◌, ◌<◌}
use native.Mathlib.Omega.{arith}
use Rattle.scope.specs.Limits.{bracket_limit}
use Rattle.scope.specs.Layout.{brackets_field}
use Rattle.figures.specs.Written.{Puts, ceiling}
use Rattle.writer.specs.Written.{bracket_most, residues_most, front_most, line_most}
use Rattle.writer.specs.Here.{RoomFor}
use Rattle.writer.specs.Ranks.{rank_in, Walks}
use Rattle.figures.proofs.Storing.{puts_of, puts_within, puts_join}

module _ {bs : List ℕ} where
  pub walks_still :
      {n from q : ℕ} {o : List ℕ} {at : ℕ} {t left : List ℕ} {place : ℕ} → Puts n o at t left place → from ≤ brackets_field bs
      → ((i : ℕ) → i < from → rank_in bs i < q) → Walks bs n from q o at t left place from
  walks_still p h b = record { puts = puts_within (omega arith) p; forth = omega arith; within = h; below = b }

  pub walks_of :
      {n from q : ℕ} {o : List ℕ} {at : ℕ} {s t left : List ℕ} {place next : ℕ} → s ≡ t → Walks bs n from q o at s left place next
      → Walks bs n from q o at t left place next
  walks_of e w = record { puts = puts_of e w.puts; forth = w.forth; within = w.within; below = w.below }

  module _ {m n : ℕ} (k : ℕ) (fits : m + n ≤ k) {from : ℕ} {o : List ℕ} {at : ℕ} {s p : List ℕ} {e : ℕ} where
    pub walks_after :
        {q : ℕ} {t left : List ℕ} {place next : ℕ} → Puts m o at s p e → Walks bs n from q p e t left place next
        → Walks bs k from q o at (s ++ t) left place next
    walks_after a w = record { puts = puts_within (omega arith) (puts_join a w.puts); forth = w.forth; within = w.within; below = w.below }

    pub walks_then :
        {q mid r : ℕ} {t left : List ℕ} {place next : ℕ} → Walks bs m from q o at s p e mid → Walks bs n mid r p e t left place next
        → Walks bs k from r o at (s ++ t) left place next
    walks_then v w =
        record {
          puts = puts_within (omega (arith, v.forth, w.forth)) (puts_join v.puts w.puts);
          forth = omega (arith, v.forth, w.forth);
          within = w.within;
          below = w.below;
        }

    pub walks_before :
        {q next : ℕ} {t left : List ℕ} {place : ℕ} → Walks bs m from q o at s p e next → Puts n p e t left place
        → Walks bs k from q o at (s ++ t) left place next
    walks_before v a =
        record { puts = puts_within (omega arith) (puts_join v.puts a); forth = v.forth; within = v.within; below = v.below }

  pub walks_up :
      {m k from q r : ℕ} {o : List ℕ} {at : ℕ} {t left : List ℕ} {place next : ℕ} → m ≤ k → q ≤ r → Walks bs m from q o at t left place next
      → Walks bs k from r o at t left place next
  walks_up h g w =
      record { puts = puts_within (omega arith) w.puts; forth = w.forth; within = w.within; below = λ i l. omega (arith, w.below i l) }

  -- ---- room
  pub room_less : {n k from at : ℕ} → n ≤ k → RoomFor bs from k at → RoomFor bs from n at
  room_less h r = record { fits = omega (arith, r.fits) }

  -- for a whole line
  pub room_line : {at : ℕ} → brackets_field bs ≤ bracket_limit → at + line_most ≤ ceiling → RoomFor bs 0 (residues_most + (front_most + 1)) at
  room_line h l = record { fits = omega arith }

  pub room_behind :
      {m n k from : ℕ} {o : List ℕ} {at : ℕ} {t left : List ℕ} {place : ℕ} → m + n ≤ k → Puts m o at t left place → RoomFor bs from k at
      → RoomFor bs from n place
  room_behind h a r = record { fits = omega (arith, a.near, r.fits) }

  pub room_after :
      {m n k from q : ℕ} {o : List ℕ} {at : ℕ} {t left : List ℕ} {place next : ℕ} → m + n ≤ k → Walks bs m from q o at t left place next
      → RoomFor bs from k at → RoomFor bs next n place
  room_after h w r = record { fits = omega (arith, w.puts.near, w.forth, w.within, r.fits) }

  -- for one bracket more
  pub room_one :
      {k from j : ℕ} {o : List ℕ} {at : ℕ} {t left : List ℕ} {place : ℕ} → from ≤ j → j < brackets_field bs
      → Puts (bracket_most * (j - from)) o at t left place → RoomFor bs from k at → place + bracket_most ≤ ceiling
  room_one h l a r = omega (arith, a.near, r.fits)
