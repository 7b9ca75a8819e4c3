-- What is answered is what the definitions ask: of a placement, and of a request by the listing's mark.
use mathlib.Core.Path.{◌≡◌, sym, ap, ◌∙◌}
use mathlib.Core.Bool.{Bool, true, false, cond, ◌&&◌}
use mathlib.Core.List.{List}
use Prim.Native.Nat.{ℕ}
use native.Mathlib.Omega.{arith}
use lib.Dec.{eqb}
use lib.ListN.{length}
use borrow.Author.Tests.{eq-eqb, ne_eqb}
use Rattle.scope.specs.declared.answers.Listing.{Listing}
use Rattle.scope.specs.Limits.{copy_limit}
use Rattle.scope.specs.Lists.{all}
use Rattle.scope.specs.Positions.{Floating}
use Rattle.std.specs.Prelude.{Option as Maybe, IfSome}
use Rattle.exchange.specs.declared.Standing.{Standing}
use Rattle.scope.specs.Placements.{allowed, first_placement, next_placement, fresh_mark, no_mark, taken_listing, following}
use Rattle.scope.specs.Answers.{refuses, findable, requested}
use Rattle.areas.specs.Floats.{floating_in, Sized}
use Rattle.exchange.specs.Order.{Next as Following, IsFirst}
use Rattle.exchange.specs.Table.{may_in, mark_in}
use Rattle.basics.specs.Choice.{pick_true, pick_false}
use Rattle.basics.specs.Tests.{both_of, both, falsely}
use Rattle.placements.specs.Steps.{Zeros, Stand, found}
use Rattle.placement_laws.specs.Standing.{place, Ascent, Good}
use Rattle.placement_laws.specs.Terms.{Allowed, Orderly}
use Rattle.placement_laws.specs.Entries.{zeros_at, at_zeros}
use Rattle.placements.proofs.Right.{Right, allowed_right, right_allowed, good_in, good_of}
use Rattle.placements.proofs.Found.{first_found, next_found}

-- ---- is it allowed?
module _ (tab copy : List ℕ) (k : ℕ) (p : List ℕ) (sized : Sized tab k) where
  abbrev f : Floating
  f = floating_in tab copy k

  right : Allowed f p → Right tab f.marks k p
  right a = allowed_right tab f.marks k sized.few p a

  pub allowed_good : Allowed f p → Good (may_in tab) (mark_in copy) k (place p)
  allowed_good a = good_in (may_in tab) copy k (place p) (right a).good

  pub allowed_not : (Zeros k p → ⊥) → false ≡ allowed f p
  allowed_not h = sym (falsely (allowed f p) (λ a. h (right a).zeros))

  pub allowed_descends : (Ascent (mark_in copy) k (place p) → ⊥) → false ≡ allowed f p
  allowed_descends h = sym (falsely (allowed f p) (λ a. h (allowed_good a).ascent))

  pub allowed_is : (r : Bool) → length p ≡ copy_limit → Zeros k p → Ascent (mark_in copy) k (place p) → Stand tab k p r → r ≡ allowed f p
  allowed_is true e z a h =
      sym (right_allowed tab f.marks k sized.few p (record { eight = e; good = good_of (may_in tab) copy k (place p) (record { full = h; ascent = a }); zeros = z }))
  allowed_is false e z a h = sym (falsely (allowed f p) (λ b. h (right b).good.full))

-- ---- requests, by the listing's mark
-- eight zeros
abbrev zeros : List ℕ → Bool
zeros p = eqb (length p) copy_limit && all (eqb 0) p

fresh_asked : (f : Floating) (l : Listing) → l.mark ≡ fresh_mark → requested f l ≡ cond (zeros l.at) (findable (first_placement f)) (refuses 18 0)
unfolding requested taken_listing following
fresh_asked f l e = rw (eq-eqb l.mark fresh_mark e)

held_asked : (f : Floating) (l : Listing) → l.mark ≡ no_mark
    → requested f l ≡ cond (allowed f l.at) (findable (next_placement f l.at)) (refuses 18 0)
unfolding requested taken_listing following
held_asked f l e = rw (ne_eqb l.mark fresh_mark (λ q. omega arith), eq-eqb l.mark no_mark e)

pub other_asked : (f : Floating) (l : Listing) → (l.mark ≡ fresh_mark → ⊥) → (l.mark ≡ no_mark → ⊥) → requested f l ≡ refuses 18 0
unfolding requested taken_listing following
other_asked f l m n = rw (ne_eqb l.mark fresh_mark m, ne_eqb l.mark no_mark n)

pub begun_found : (tab copy : List ℕ) (k : ℕ) (l : Listing) (o : Maybe Standing) → Sized tab k → Orderly (floating_in tab copy k) → l.mark ≡ fresh_mark
    → length l.at ≡ copy_limit → Zeros 0 l.at
    → IfSome o (λ v. length v.at ≡ copy_limit) → IsFirst (may_in tab) k o → requested (floating_in tab copy k) l ≡ findable (found k o)
begun_found tab copy k l w s o f e z m h =
    fresh_asked (floating_in tab copy k) l f
    ∙ pick_true (zeros l.at) (findable (first_placement (floating_in tab copy k))) (refuses 18 0)
    (both (eqb (length l.at) copy_limit) (all (eqb 0) l.at) (eq-eqb (length l.at) copy_limit e) (at_zeros l.at (λ i g. z i (omega arith) (omega (arith, e)))))
    ∙ ap findable (first_found tab k s.few copy o w m h)

pub begun_refused : (f : Floating) (l : Listing) → l.mark ≡ fresh_mark → (Zeros 0 l.at → ⊥) → requested f l ≡ refuses 18 0
begun_refused f l e n =
    fresh_asked f l e
    ∙ pick_false (zeros l.at) (findable (first_placement f)) (refuses 18 0)
    (falsely (zeros l.at) (λ q. n (λ s g m. zeros_at l.at (both_of (eqb (length l.at) copy_limit) (all (eqb 0) l.at) q).1 s)))

pub continued_found : (tab copy : List ℕ) (k : ℕ) (l : Listing) (o : Maybe Standing) → Sized tab k → Orderly (floating_in tab copy k) → l.mark ≡ no_mark
    → Allowed (floating_in tab copy k) l.at → IfSome o (λ v. length v.at ≡ copy_limit)
    → Following (may_in tab) (mark_in copy) k (place l.at) o → requested (floating_in tab copy k) l ≡ findable (found k o)
continued_found tab copy k l v s o f a m h =
    let g = floating_in tab copy k in
    held_asked g l f ∙ pick_true (allowed g l.at) (findable (next_placement g l.at)) (refuses 18 0) a
    ∙ ap findable (next_found tab k s.few copy o l.at (right tab copy k l.at s a) v m h)

pub continued_refused : (f : Floating) (l : Listing) → l.mark ≡ no_mark → allowed f l.at ≡ false → requested f l ≡ refuses 18 0
continued_refused f l e a = held_asked f l e ∙ pick_false (allowed f l.at) (findable (next_placement f l.at)) (refuses 18 0) a
