-- Laws of turn upon turn: one read, and the loop over them.
use mathlib.Core.Path.{◌≡◌, refl, sym, ap, ◌∙◌}
use mathlib.Core.Bool.{Bool, true, false}
use mathlib.Core.List.{List}
use Prim.Native.Nat.{ℕ, ◌+◌, ◌*◌, ◌<◌, ◌≤◌}
use native.Mathlib.Omega.{arith}
use lib.ListN.{length, take, length-take}
use lib.Seq.{take_all, take-take}
use lib.Dec.{leb}
use Rattle.std.proofs.Common.{leb-true, leb-false}
use Rattle.chunks.specs.Feeding.{holding, after, put}
use Rattle.chunks.specs.declared.Desk.{Desk}
use Rattle.chunks.specs.Lent.{Ready}
use Rattle.chunks.proofs.Putting.{stays_few}
use Rattle.stream.specs.declared.End.{End}
use Rattle.stream.specs.declared.End.TheVariants.{Unread}
use Rattle.std.specs.Prelude.{Option, Some, None}
use Rattle.stream.specs.Turns.{read_limit, Drains, ClosesAt, Turns}
use Rattle.stream.proofs.Handing.{over, unread}

-- ---- one read
pub front_fits : (n : ℕ) (l : List ℕ) → length l ≤ read_limit → length (take n l) ≤ read_limit
front_fits n l h = omega (arith, length-take n l)

module _ {room : List ℕ} {number refused : ℕ} {hold : List ℕ} {held line total : ℕ} {desk : Desk} {n sent : ℕ} {end : Option End} where
  pub turns_chunk : length room ≤ read_limit → Drains room number refused hold held line total desk.hold n sent end → Ready desk n
      → Turns room number refused hold held line total desk n sent end
  turns_chunk k d r =
      let all = take_all (length room) room (omega arith) in
      record {
        grows = d.grows;
        count = λ e. omega (arith, d.count e);
        ready = λ _. r;
        got = length room;
        leaves = λ e. ap (after (holding number refused (take held hold))) all ∙ d.leaves e;
        taken = λ e. d.taken e ∙ ap (λ z. length (put (holding number refused (take held hold)) z)) (sym all);
        closed = λ e. absurd (d.lost e);
        counted = λ e. absurd (d.lost e);
      }

  pub turns_closed : ClosesAt number refused hold held line total sent end → Turns room number refused hold held line total desk n sent end
  turns_closed c =
      record {
        grows = omega (arith, c.same);
        count = λ e. absurd (c.over e);
        ready = λ e. absurd (c.over e);
        got = 0;
        leaves = λ e. absurd (c.over e);
        taken = λ e. absurd (c.over e);
        closed = c.taken;
        counted = c.counted;
      }

-- what is said of a front of the room is said of the room
module _ {room : List ℕ} {number refused : ℕ} {hold : List ℕ} {held line total : ℕ} {desk : Desk} {n sent : ℕ} {end : Option End} (front : ℕ) where
  same_part : (t : Turns (take front room) number refused hold held line total desk n sent end) (got : ℕ) → take t.got (take front room) ≡ take got room
      → Turns room number refused hold held line total desk n sent end
  same_part t got same =
      record {
        grows = t.grows;
        count = t.count;
        ready = t.ready;
        got = got;
        leaves = λ e. ap (after (holding number refused (take held hold))) (sym same) ∙ t.leaves e;
        taken = λ e. t.taken e ∙ ap (λ z. length (put (holding number refused (take held hold)) z)) same;
        closed = t.closed;
        counted = t.counted;
      }

  in_front : (t : Turns (take front room) number refused hold held line total desk n sent end) (b : Bool) → leb t.got front ≡ b
      → Turns room number refused hold held line total desk n sent end
  in_front t true q = same_part t t.got (take-take t.got front room (leb-true t.got front q))
  in_front t false q = same_part t front (take_all t.got (take front room) (omega (arith, leb-false t.got front q, length-take front room)))

  pub turns_front : Turns (take front room) number refused hold held line total desk n sent end
      → Turns room number refused hold held line total desk n sent end
  turns_front t = in_front t (leb t.got front) refl

pub turns_failed : {room : List ℕ} {number refused : ℕ} {hold : List ℕ} {held total : ℕ} {desk : Desk} {n sent : ℕ}
    → Turns room number refused hold held number total desk n sent (Some Unread)
turns_failed =
    record {
      grows = omega arith;
      count = λ e. absurd (over e);
      ready = λ e. absurd (over e);
      got = 0;
      leaves = λ e. absurd (over e);
      taken = λ e. absurd (over e);
      closed = λ e. absurd (unread e);
      counted = λ e. absurd (unread e);
    }

-- ---- turn upon turn: no more lines are numbered than reads have brought
module _ (room₀ : List ℕ) where
  pub record Serves (room : List ℕ) (desk : Desk) (number refused held turns : ℕ) : Type 0 where
    pub room_fits : length room ≤ read_limit
    pub few : refused < number
    pub count : number ≤ 1 + read_limit * turns
    pub ready : Ready desk held
    pub room_long : length room ≡ length room₀

  pub serves_start : {desk : Desk} → length room₀ ≤ read_limit → Ready desk 0 → Serves room₀ desk 1 0 0 0
  serves_start l w = record { room_fits = l; few = omega arith; count = omega arith; ready = w; room_long = refl }

  pub serves_more : {room : List ℕ} {desk : Desk} {number refused held turns : ℕ} {room' : List ℕ} {desk' : Desk} {line total n sent : ℕ} {end : Option End}
      → Serves room desk number refused held turns → Turns room' number refused desk.hold held line total desk' n sent end → end ≡ None → length room' ≡ length room
      → Serves room' desk' line total n (turns + 1)
  serves_more w t e r =
      record {
        room_fits = omega (arith, w.room_fits);
        few = stays_few _ _ (t.leaves e) w.few;
        count = omega (arith, w.count, t.count e);
        ready = t.ready e;
        room_long = r ∙ w.room_long;
      }
