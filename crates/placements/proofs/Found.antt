-- What the search finds is the first placement, and the next one.
use mathlib.Core.Path.{◌≡◌, sym, ap, ◌∙◌, subst}
use mathlib.Core.Logic.{◌⊎◌, inl, inr, ⊎_elim}
use mathlib.Core.Bool.{Bool, true}
use mathlib.Core.List.{List, [], map}
use Prim.Native.Nat.{ℕ, ◌≤◌, ◌+◌, ◌-◌}
use native.Mathlib.Omega.{arith}
use lib.ListN.{length, take, replicate, length-append, length-replicate, get_or-replicate, get_or-append}
use lib.Seq.{get_or-take, length-take-le, ext_get_or, get_or-append-add}
use Rattle.scope.specs.Limits.{copy_limit}
use Rattle.scope.specs.Positions.{Floating, is_further}
use Rattle.scope.specs.Placements.{less, first_placement, next_placement}
use Rattle.areas.specs.Floats.{floating_in}
use Rattle.std.specs.Prelude.{Option as Maybe, Some as Just, None as Nothing, IfSome}
use Rattle.exchange.specs.declared.Standing.{Standing}
use Rattle.exchange.specs.Order.{Next, IsFirst}
use Rattle.exchange.specs.Table.{may_in, mark_in}
use Rattle.basics.specs.Tests.{below?}
use Rattle.placement_laws.specs.Standing.{place, Full, Good, Same, Before, Upto}
use Rattle.placement_laws.specs.Terms.{Orderly, unmarked, Allowed, Further, Least}
use Rattle.placement_laws.specs.Order.{less_before, before_less, least_unique}
use Rattle.placement_laws.specs.Leasts.{first_least, next_least}
use Rattle.placement_laws.specs.Copies.{unmarked_orderly, first_as_before}
use Rattle.placements.specs.Steps.{Zeros, entries, found}
use Rattle.placements.proofs.Right.{with_marks, mark_of, Right, allowed_right, right_allowed, good_in, good_of, good_free}

-- ---- the first k of w, as a placement
module _ (k : ℕ) (w : List ℕ) (few : k ≤ copy_limit) (long : length w ≡ copy_limit) where
  cut_long : length (take k w) ≡ k
  cut_long = length-take-le k w (omega arith)

  entries_long : length (entries k w) ≡ copy_limit
  entries_long =
      length-append (take k w) (replicate (copy_limit - length (take k w)) 0) ∙ ap (λ n. length (take k w) + n) (length-replicate (copy_limit - length (take k w)) 0) ∙ omega (arith, cut_long)

  entries_same : Same k (place w) (place (entries k w))
  entries_same s l =
      sym (get_or-append (take k w) (replicate (copy_limit - length (take k w)) 0) 0 s (omega (arith, cut_long)) ∙ get_or-take k w s 0 l)

  entries_zeros : Zeros k (entries k w)
  entries_zeros s l m =
      let n : s ≡ length (take k w) + (s - k) = omega (arith, cut_long) in
      ap (place (entries k w)) n ∙ get_or-append-add (take k w) (replicate (copy_limit - length (take k w)) 0) (s - k) 0
      ∙ get_or-replicate (copy_limit - length (take k w)) (s - k) 0 0 (omega (arith, cut_long))

  -- eight entries that are the same up to k, and zeros behind
  pub are_entries : (p : List ℕ) → length p ≡ copy_limit → Same k (place w) (place p) → Zeros k p → p ≡ entries k w
  are_entries p e s z =
      ext_get_or 0 p (entries k w) (e ∙ sym entries_long) (λ i l. ⊎_elim
      (λ m. sym (s i m) ∙ entries_same i m) (λ m. z i m (omega (arith, e)) ∙ sym (entries_zeros i m (omega (arith, e)))) (below? i k))

full_same : (ok : ℕ → ℕ → Bool) (k : ℕ) (w v : ℕ → ℕ) → Same k w v → Full ok k w → Full ok k v
full_same ok k w v e f =
    record { fits = λ s l. subst (λ z. ok s z ≡ true) (e s l) (f.fits s l); apart = λ s t l m q. f.apart s t l m (e s l ∙ q ∙ sym (e t m)) }

good_same : (ok : ℕ → ℕ → Bool) (mark : ℕ → Bool) (k : ℕ) (w v : ℕ → ℕ) → Same k w v → Good ok mark k w → Good ok mark k v
good_same ok mark k w v e g =
    record {
      full = full_same ok k w v e g.full;
      ascent = λ s l m. let a = e s (omega arith) in let b = e (s + 1) l in let c = g.ascent s l m in omega (arith, a, b, c);
    }

-- ---- what is found is the first, and the next
module _ (tab : List ℕ) (k : ℕ) (few : k ≤ copy_limit) where
  module _ (ms : List Bool) (w : List ℕ) (long : length w ≡ copy_limit) (good : Good (may_in tab) (mark_of ms) k (place w)) where
    right_entries : Right tab ms k (entries k w)
    right_entries =
        record {
          eight = entries_long k w few long;
          good = good_same (may_in tab) (mark_of ms) k (place w) (place (entries k w)) (entries_same k w few long) good;
          zeros = entries_zeros k w few long;
        }

    upto_either : (q : List ℕ) → Right tab ms k q → Upto k (place w) (place q) → (entries k w ≡ q) ⊎ (less (entries k w) q ≡ true)
    upto_either q r (inl s) = inl (sym (are_entries k w few long q r.eight s r.zeros))
    upto_either q r (inr b) =
        inr (before_less b.d (entries k w) q (omega (arith, entries_long k w few long, b.inside)) (omega (arith, r.eight, b.inside))
        (λ s l. sym (entries_same k w few long s (omega (arith, b.inside))) ∙ b.same s l)
        (rw (sym (entries_same k w few long b.d b.inside)) b.less))

  -- the least of all, whatever the marks
  first_found_least : (o : Maybe Standing) → IfSome o (λ v. length v.at ≡ copy_limit) → IsFirst (may_in tab) k o → Least (Allowed (with_marks tab k [])) (found k o)
  first_found_least (Just v) l h =
      let w = v.at in
      let g = good_free (may_in tab) k (place w) h.0 in
      (right_allowed tab [] k few (entries k w) (right_entries [] w l g), λ q a. let r = allowed_right tab [] k few q a in upto_either [] w l g q r (h.1 (place q) r.good.full))
  first_found_least Nothing l h = λ q a. h (place q) (allowed_right tab [] k few q a).good.full

  module _ (copy : List ℕ) (ok : Orderly (floating_in tab copy k)) where
    abbrev f : Floating
    f = floating_in tab copy k

    pub first_found : (o : Maybe Standing) → IfSome o (λ v. length v.at ≡ copy_limit) → IsFirst (may_in tab) k o → first_placement f ≡ found k o
    first_found o l h =
        first_as_before f ok
        ∙ least_unique (Allowed (unmarked f)) (first_placement (unmarked f)) (found k o) (first_least (unmarked f) (unmarked_orderly f ok)) (first_found_least o l h)

    abbrev ms : List Bool
    ms = map is_further (take k copy)

    module _ (p : List ℕ) (right : Right tab ms k p) where
      above_before : (q : List ℕ) → Right tab ms k q → less p q ≡ true → Before k (place p) (place q)
      above_before q r h = go (less_before p q (right.eight ∙ sym r.eight) h)
        where
          go : Before (length p) (place p) (place q) → Before k (place p) (place q)
          go b = ⊎_elim
              (λ m. record { d = b.d; inside = m; same = b.same; less = b.less })
              (λ m. absurd (omega (arith, b.less, b.inside, right.eight, right.zeros b.d m (omega (arith, b.inside, right.eight)), r.zeros b.d m (omega (arith, b.inside, right.eight)))))
              (below? b.d k)

      before_entries : (v : List ℕ) → length v ≡ copy_limit → Before k (place p) (place v) → less p (entries k v) ≡ true
      before_entries v l b =
          before_less b.d p (entries k v) (omega (arith, right.eight, b.inside)) (omega (arith, entries_long k v few l, b.inside))
          (λ s m. b.same s m ∙ entries_same k v few l s (omega (arith, b.inside)))
          (rw (entries_same k v few l b.d b.inside) at b.less)

      next_found_least : (o : Maybe Standing) → IfSome o (λ v. length v.at ≡ copy_limit) → Next (may_in tab) (mark_in copy) k (place p) o → Least (Further f p) (found k o)
      next_found_least (Just u) l h =
          let v = u.at in
          let g = good_of (may_in tab) copy k (place v) h.0 in (
            (right_allowed tab ms k few (entries k v) (right_entries ms v l g), before_entries v l h.1),
            λ q a.
                let r = allowed_right tab ms k few q a.0 in
                upto_either ms v l g q r (h.2 (place q) (good_in (may_in tab) copy k (place q) r.good) (above_before q r a.1)),
          )
      next_found_least Nothing l h = λ q a.
          let r = allowed_right tab ms k few q a.0 in h (place q) (good_in (may_in tab) copy k (place q) r.good) (above_before q r a.1)

      pub next_found : (o : Maybe Standing) → IfSome o (λ v. length v.at ≡ copy_limit) → Next (may_in tab) (mark_in copy) k (place p) o → next_placement f p ≡ found k o
      next_found o l h = least_unique (Further f p) (next_placement f p) (found k o) (next_least f ok p) (next_found_least o l h)
