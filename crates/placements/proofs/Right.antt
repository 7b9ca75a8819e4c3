-- What is allowed by the table: eight entries, of which the first k stand where they may, no two on one position, further copies above the copies before them, and
-- zeros behind.
use mathlib.Core.Path.{◌≡◌, sym, ◌∙◌, subst}
use mathlib.Core.Logic.{⊎_elim}
use mathlib.Core.Bool.{Bool, false, false≢true}
use mathlib.Core.List.{List, [], map}
use Prim.Native.Nat.{ℕ, ◌<◌, ◌≤◌, ◌+◌}
use native.Mathlib.Omega.{arith}
use lib.ListN.{length, get_or, take, get_or-eq_default}
use Rattle.scope.specs.Limits.{copy_limit}
use Rattle.scope.specs.Positions.{Floating, is_further}
use Rattle.areas.specs.Floats.{lists_in, floating_in}
use Rattle.exchange.specs.Table.{may_in, mark_in}
use Rattle.basics.specs.Tests.{below?}
use Rattle.basics.specs.Each.{In}
use Rattle.basics.specs.Members.{member_in, in_member}
use Rattle.placement_laws.specs.Standing.{place, Full, Good, Alike}
use Rattle.placement_laws.specs.Terms.{Allowed, Orderly}
use Rattle.placement_laws.specs.Entries.{allowed_placing, placing_allowed}
use Rattle.placements.specs.Steps.{Zeros}
use Rattle.exchange.proofs.Rows.{lists_many, lists_at, list_may, may_list, marks_at}

-- the table, with any marks
abbrev pub with_marks : List ℕ → ℕ → List Bool → Floating
with_marks tab k ms = record { lists = lists_in tab k; marks = ms }

abbrev pub mark_of : List Bool → ℕ → Bool
mark_of ms s = get_or ms s false

pub record Right (tab : List ℕ) (ms : List Bool) (k : ℕ) (p : List ℕ) : Type 0 where
  pub eight : length p ≡ copy_limit
  pub good : Good (may_in tab) (mark_of ms) k (place p)
  pub zeros : Zeros k p

module _ (tab : List ℕ) (ms : List Bool) (k : ℕ) (few : k ≤ copy_limit) where
  many : length (lists_in tab k) ≡ k
  many = lists_many tab k

  pub allowed_right : (p : List ℕ) → Allowed (with_marks tab k ms) p → Right tab ms k p
  allowed_right p e =
      let a = allowed_placing (with_marks tab k ms) p e in
      record {
        eight = a.eight;
        good = record {
          full = record {
            fits = λ s l. list_may tab s (place p s) (subst (λ q. In (place p s) q) (lists_at tab k s l) (a.permitted s (omega (arith, many))));
            apart = λ s t l m q. a.apart s t (omega (arith, many)) (omega (arith, many)) q;
          };
          ascent = λ s l m. a.ascent s (omega (arith, many)) m;
        };
        zeros = λ s l m. a.unused s (omega (arith, many));
      }

  pub right_allowed : (p : List ℕ) → Right tab ms k p → Allowed (with_marks tab k ms) p
  right_allowed p h = placing_allowed (with_marks tab k ms) p (omega (arith, many)) (record {
    eight = h.eight;
    permitted = λ s l. let m : s < k = omega (arith, many) in subst (λ q. In (place p s) q) (sym (lists_at tab k s m)) (may_list tab s (place p s) (h.good.full.fits s m));
    apart = λ s t l m q. h.good.full.apart s t (omega (arith, many)) (omega (arith, many)) q;
    ascent = λ s l m. h.good.ascent s (omega (arith, many)) m;
    unused = unused;
  })
    where
      unused : (s : ℕ) → length (lists_in tab k) ≤ s → place p s ≡ 0
      unused s l = ⊎_elim (λ m. h.zeros s (omega (arith, many)) m) (λ m. get_or-eq_default p 0 (omega (arith, h.eight))) (below? s copy_limit)

-- ---- marks by the numbers of the copies, and no marks
module _ (ok : ℕ → ℕ → Bool) (copy : List ℕ) (k : ℕ) where
  pub good_in : (w : ℕ → ℕ) → Good ok (mark_of (map is_further (take k copy))) k w → Good ok (mark_in copy) k w
  good_in w g = record { full = g.full; ascent = λ s l m. g.ascent s l (marks_at copy k (s + 1) l ∙ m) }

  pub good_of : (w : ℕ → ℕ) → Good ok (mark_in copy) k w → Good ok (mark_of (map is_further (take k copy))) k w
  good_of w g = record { full = g.full; ascent = λ s l m. g.ascent s l (sym (marks_at copy k (s + 1) l) ∙ m) }

pub good_free : (ok : ℕ → ℕ → Bool) (k : ℕ) (w : ℕ → ℕ) → Full ok k w → Good ok (mark_of []) k w
good_free ok k w f = record { full = f; ascent = λ s l m. absurd (false≢true m) }

-- copies are alike in the table
pub table_alike : (tab copy : List ℕ) (k : ℕ) → Orderly (floating_in tab copy k) → Alike (may_in tab) (mark_in copy) k
table_alike tab copy k ok s x y l m o q h =
    let n = lists_many tab k in
    let e = lists_at tab k s (omega arith) in
    let g = lists_at tab k (s + 1) l in
    let z = ok.alike s x y (omega (arith, n)) (marks_at copy k (s + 1) l ∙ m)
    (rw e (in_member x _ (may_list tab s x o))) (rw g (in_member y _ (may_list tab (s + 1) y q))) h in
    (list_may tab s y (member_in y _ (rw e at z.0)), list_may tab (s + 1) x (member_in x _ (rw g at z.1)))
