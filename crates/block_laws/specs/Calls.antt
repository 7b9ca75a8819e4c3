-- What the calls answer, by what is found under the number: adding, fetching and removing over an area of whole blocks.
use Rattle.std.specs.Prelude.{ℕ, ◌*◌, ◌%◌, ◌≤◌, ◌<◌, ◌^◌, Bool, true, false, cond, ◌&&◌, eqb, ltb, leb, length}
use native.Mathlib.Omega.{arith}
use Rattle.std.proofs.Math.Path.{◌≡◌, refl}
use Rattle.std.proofs.Common.{sym, ap, ◌∙◌, eq-eqb, le-leb, leb-true, ltb-false}
use mathlib.Core.List.{List, ◌++◌}
use Rattle.scope.specs.Limits.{block_size, block_limit}
use Rattle.scope.specs.Line.{Line}
use Rattle.scope.specs.Refusals.{Outcome, accepted, refused, outcome}
use Rattle.scope.specs.Canonical.{canonical}
use Rattle.scope.specs.Positions.{floating_of}
use Rattle.scope.specs.Placements.{allowed}
use Rattle.scope.specs.Answers.{good, refuses, met}
use Rattle.basics.specs.Tests.{both, both_of}
use Rattle.blocks.specs.Block.{new_kind}
use Rattle.blocks.specs.Area.{blocks_in, whole_blocks, frees, Put}
use Rattle.blocks.specs.Entry.{Entry, positions_of, content_for, Looked, absent, damaged, present, look}
use Rattle.blocks.specs.Answers.{fetched, fetch_said, removed, removing, removed_from, remove_after, blocks_for, pieces, written, room_for, placing, putting, adding_of, adding, add_said, added_to, add_after}
use Rattle.area_laws.specs.Areas.{blocks_many, whole_length}
use Rattle.block_laws.specs.Stated.{content_bytes, content_some, content_stated}
use Rattle.block_laws.specs.Added.{taken_for, with_entry, Adds}
use Rattle.block_laws.specs.Removed.{without_entry}

-- ---- whole blocks
pub whole_blocks_lem : (a : List ℕ) (k : ℕ) → length a ≡ block_size * k → 1 ≤ k → k ≤ block_limit → whole_blocks a ≡ true
unfolding whole_blocks
whole_blocks_lem a k long h l =
    let n = blocks_many a k long in
    both (eqb (length a % block_size) 0 && leb 1 (blocks_in a)) (leb (blocks_in a) block_limit)
    (both (eqb (length a % block_size) 0) (leb 1 (blocks_in a)) (eq-eqb (length a % block_size) 0 (omega arith)) (le-leb 1 (blocks_in a) (omega (arith, n))))
    (le-leb (blocks_in a) block_limit (omega (arith, n)))

pub record Whole (a : List ℕ) : Type 0 where
  pub long : length a ≡ block_size * blocks_in a
  pub some_blocks : 1 ≤ blocks_in a
  pub few : blocks_in a ≤ block_limit

pub whole_many_lem : (a : List ℕ) → whole_blocks a ≡ true → Whole a
unfolding whole_blocks
whole_many_lem a e =
    let z = both_of (eqb (length a % block_size) 0 && leb 1 (blocks_in a)) (leb (blocks_in a) block_limit) e in
    let y = both_of (eqb (length a % block_size) 0) (leb 1 (blocks_in a)) z.0 in
    record { long = whole_length a e; some_blocks = leb-true 1 (blocks_in a) y.1; few = leb-true (blocks_in a) block_limit z.1 }

-- ---- fetching and removing
module _ (a : List ℕ) (number : ℕ) (blocks : whole_blocks a ≡ true) where
  pub fetch_says : (room : ℕ) (x : Looked) → look a number ≡ x → fetch_said a number room ≡ fetched x room
  unfolding fetch_said
  fetch_says room x e = rw (blocks, e)

  pub remove_says : (x : Looked) → look a number ≡ x → removing a number ≡ removed x
  unfolding removing
  remove_says x e = rw (blocks, e)

  pub remove_leaves : (bs : List ℕ) (e : Entry) → look a number ≡ present bs e → remove_after a number ≡ without_entry a bs
  remove_leaves bs e h = ap (removed_from a) (remove_says (present bs e) h)

-- ---- adding
-- the content of a line under a placement
abbrev pub content_of : Line ℕ → List ℕ → List ℕ
content_of l p = positions_of p ++ canonical l

-- what a success says
pub record Success (a : List ℕ) (number : ℕ) (p : List ℕ) (l : Line ℕ) : Type 0 where
  pub ok : allowed (floating_of l) p ≡ true
  pub blocks : whole_blocks a ≡ true
  pub nothing : look a number ≡ absent
  pub room : ltb (length (frees a)) (blocks_for (length (content_of l p))) ≡ false

module _ (a : List ℕ) (number : ℕ) (p s : List ℕ) where
  pub add_refused : (n place : ℕ) → outcome s ≡ refused n place → adding a number p s ≡ refuses n place
  unfolding adding
  add_refused n place e = rw e

  pub add_accepted : add_said a number p s ≡ good tt → (l : Line ℕ) × (outcome s ≡ accepted l)
  add_accepted h = go (outcome s) refl
    where
      go : (o : Outcome) → outcome s ≡ o → (l : Line ℕ) × (outcome s ≡ accepted l)
      go (accepted l) e = (l, e)
      go (refused n place) e =
          let f : met {A = List Put} (refuses n place) ≡ good tt = ap met (sym (add_refused n place e)) ∙ h in let z : ◌≡◌ {A = ℕ} 0 1 = cc in absurd (omega arith)

  module _ (l : Line ℕ) (e : outcome s ≡ accepted l) where
    pub add_not_allowed : allowed (floating_of l) p ≡ false → adding a number p s ≡ refuses 18 0
    unfolding adding
    add_not_allowed f = rw (e, f)

    pub add_says :
        allowed (floating_of l) p ≡ true → whole_blocks a ≡ true → (x : Looked) → look a number ≡ x
        → adding a number p s ≡ putting a number (content_of l p) (room_for x (frees a) (blocks_for (length (content_of l p))))
    unfolding adding placing
    add_says ok blocks x h = rw (e, ok, blocks, h)

    pub add_writes : Success a number p l → adding a number p s ≡ good (written number new_kind (pieces (content_of l p)) (taken_for a (content_of l p)))
    add_writes w =
        add_says w.ok w.blocks absent w.nothing
        ∙ ap (λ t. putting a number (content_of l p) (cond t (refuses 24 0) (good (taken_for a (content_of l p))))) w.room

    pub add_leaves : Success a number p l → add_after a number p s ≡ with_entry a number (content_of l p)
    add_leaves w = ap (added_to a) (add_writes w)

    pub success_adds : number < 2 ^ 32 → Success a number p l → Adds (blocks_in a) a number (content_of l p)
    success_adds h w =
        let b = whole_many_lem a w.blocks in
        record {
          long = b.long;
          few = b.few;
          numbered = h;
          nothing = w.nothing;
          room = ltb-false (length (frees a)) (blocks_for (length (content_of l p))) w.room;
          bytes = content_bytes s l e p w.ok;
          some_bytes = content_some s l e p w.ok;
          fine = content_stated s l e p w.ok;
        }

    pub add_succeeds : add_said a number p s ≡ good tt → Success a number p l
    unfolding adding placing
    add_succeeds h = fits (allowed (floating_of l) p) refl (ap (λ o. met (adding_of a number (content_for o p))) (sym e) ∙ h)
      where
        no : (n place : ℕ) → met {A = List Put} (refuses n place) ≡ good tt → ⊥
        no n place f = let z : ◌≡◌ {A = ℕ} 0 1 = cc in omega arith

        lasts :
            allowed (floating_of l) p ≡ true → whole_blocks a ≡ true → look a number ≡ absent → (t : Bool)
            → ltb (length (frees a)) (blocks_for (length (content_of l p))) ≡ t
            → met (putting a number (content_of l p) (cond t (refuses 24 0) (good (taken_for a (content_of l p))))) ≡ good tt → Success a number p l
        lasts ok blocks nothing true q f = absurd (no 24 0 f)
        lasts ok blocks nothing false q f = record { ok = ok; blocks = blocks; nothing = nothing; room = q }

        finds :
            allowed (floating_of l) p ≡ true → whole_blocks a ≡ true → (x : Looked) → look a number ≡ x
            → met (putting a number (content_of l p) (room_for x (frees a) (blocks_for (length (content_of l p))))) ≡ good tt → Success a number p l
        finds ok blocks absent q f = lasts ok blocks q (ltb (length (frees a)) (blocks_for (length (content_of l p)))) refl f
        finds ok blocks damaged q f = absurd (no 25 0 f)
        finds ok blocks (present bs x) q f = absurd (no 23 0 f)

        goes :
            allowed (floating_of l) p ≡ true → (t : Bool) → whole_blocks a ≡ t
            → met (putting a number (content_of l p) (cond t (room_for (look a number) (frees a) (blocks_for (length (content_of l p)))) (refuses 26 0))) ≡ good tt
            → Success a number p l
        goes ok true q f = finds ok q (look a number) refl f
        goes ok false q f = absurd (no 26 0 f)

        fits : (t : Bool) → allowed (floating_of l) p ≡ t → met (adding_of a number (cond t (good (content_of l p)) (refuses 18 0))) ≡ good tt → Success a number p l
        fits true q f = goes q (whole_blocks a) refl f
        fits false q f = absurd (no 18 0 f)
