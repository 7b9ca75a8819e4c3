-- The table and the lists that it holds: a set has too few positions by the one exactly where it has by the other; so the smallest set by the table, as a list, is the
-- answer. Where all can stand by the table there is none, and else there is one (Hall).
use mathlib.Core.Path.{◌≡◌, sym, ap, ◌∙◌, subst}
use mathlib.Core.Bool.{Bool, false, ◌&&◌, true≢false}
use mathlib.Core.List.{List, []}
use Prim.Native.Nat.{ℕ, ◌<◌}
use lib.ListN.{length}
use Rattle.scope.specs.Limits.{position_limit}
use Rattle.scope.specs.Lists.{member}
use Rattle.scope.specs.Positions.{Floating}
use Rattle.scope.specs.Reasons.{Reason}
use Rattle.areas.specs.Floats.{list_in, lists_in}
use Rattle.basics.specs.Tests.{same_test}
use Rattle.basics.specs.Members.{member_in, in_member}
use Rattle.exchange.specs.Table.{may_in}
use Rattle.exchange.specs.Order.{IsFirst}
use Rattle.exchange.proofs.Laws.{ok_small}
use Rattle.exchange.proofs.Rows.{lists_many, lists_at, list_may, may_list}
use Rattle.placement_laws.specs.Terms.{may_stand_at}
use Rattle.placement_laws.specs.Counts.{count, some, some_same}
use Rattle.placement_laws.specs.Standing.{place}
use Rattle.placement_laws.specs.Hall.{Short, hall}
use Rattle.placement_laws.specs.Smallest.{SmallestOf}
use Rattle.placement_laws.specs.Reasons.{count_same, few_short, as_reason, smallest_listed}
use Rattle.exchange.specs.declared.Standing.{Standing}
use Rattle.std.specs.Prelude.{Option, Some, None, is_none}
use Rattle.reason.specs.Named.{numbers_of}

-- a set has too few positions by one table or by another that says the same
short_same : (k : ℕ) (ok by : ℕ → ℕ → Bool) → ((s x : ℕ) → s < k → ok s x ≡ by s x) → (m : ℕ → Bool) → Short ok k position_limit m → Short by k position_limit m
short_same k ok by h m s =
    record {
      fewer = subst (λ n. n < count k m)
          (count_same position_limit (λ x. some k (λ t. m t && ok t x)) (λ x. some k (λ t. m t && by t x)) (λ x l. some_same k _ _ (λ t q. ap (λ b. m t && b) (h t x q)))) s.fewer;
    }

module _ (tab : List ℕ) (k : ℕ) (marks : List Bool) where
  abbrev f : Floating
  f = record { lists = lists_in tab k; marks = marks }

  may_same : (s x : ℕ) → s < k → may_in tab s x ≡ may_stand_at f s x
  may_same s x l =
      same_test (may_in tab s x) (may_stand_at f s x)
      (λ e. ap (member x) (lists_at tab k s l) ∙ in_member x (list_in tab s) (may_list tab s x e))
      (λ e. list_may tab s x (member_in x (list_in tab s) (sym (ap (member x) (lists_at tab k s l)) ∙ e)))

  -- by the lists, of as many floaters as there are lists
  listed : (n : ℕ) (m : ℕ → Bool) → SmallestOf (may_in tab) k n m → SmallestOf (may_stand_at f) (length (lists_in tab k)) n m
  listed n m h =
      subst (λ z. SmallestOf (may_stand_at f) z n m) (sym (lists_many tab k))
      (record {
        size = h.size;
        short = short_same k (may_in tab) (may_stand_at f) may_same m h.short;
        least = λ p q. h.least p (short_same k (may_stand_at f) (may_in tab) (λ s x l. sym (may_same s x l)) p q);
      })

  pub found_reason : (n : ℕ) (m : ℕ → Bool) → SmallestOf (may_in tab) k n m → Reason f (numbers_of m k)
  found_reason n m h =
      subst (λ z. Reason f (numbers_of m z)) (lists_many tab k) (as_reason f (numbers_of m (length (lists_in tab k))) (smallest_listed f m n (listed n m h)))

  pub no_reason : ((p : ℕ → Bool) → Short (may_in tab) k position_limit p → ⊥) → Reason f []
  no_reason none l e =
      let z = few_short f l e in
      none z.0 (short_same k (may_stand_at f) (may_in tab) (λ s x q. sym (may_same s x q)) z.0 (subst (λ n. Short (may_stand_at f) n position_limit z.0) (lists_many tab k) z.1))

-- ---- where all can stand, no set has too few positions (Hall)
pub all_stand : (tab : List ℕ) (k : ℕ) (o : Option Standing) → IsFirst (may_in tab) k o → is_none o ≡ false → (p : ℕ → Bool) → Short (may_in tab) k position_limit p → ⊥
all_stand tab k (Some v) h e p short = (hall (may_in tab) position_limit (ok_small tab) k).1 (p, short) (place v.at) h.0
all_stand tab k None h e p short = absurd (true≢false e)
