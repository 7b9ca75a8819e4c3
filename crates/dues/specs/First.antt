-- The lowest code, of any rules whose places are below 65,536, is the first that is due: a code of a lower rank is below every code of a higher one, and among those of
-- one rank the lowest has the first place.
use Rattle.std.specs.Prelude.{◌≡◌, refl, List, [], ◌∷◌, ◌++◌, map, length}
use Rattle.std.proofs.Common.{sym, ◌∙◌, subst, lt-ltb, le-ltb}
use Rattle.std.proofs.Math.Path.{ap}
use Rattle.std.proofs.Math.Option.{none, some}
use Prim.Native.Nat.{ℕ, suc, ◌+◌, ◌/◌, ◌%◌, ◌<◌, ◌≤◌, min}
use native.Mathlib.Omega.{arith}
use Rattle.std.proofs.Math.ListN.{get_or}
use Rattle.scope.specs.Bytes.{wide_limit}
use Rattle.scope.specs.Lists.{given}
use Rattle.scope.specs.Refusals.{least, Due, first_due, Outcome, refused}
use Rattle.basics.specs.Each.{Each}
use Rattle.dues.specs.Ranks.{code, codes, lowest, no_code, number_at, decoded}

pub lowest_append : (n : ℕ) (a b : List ℕ) → lowest n (a ++ b) ≡ lowest (lowest n b) a
unfolding lowest
lowest_append n [] b = refl
lowest_append n (c ∷ a) b = ap (min c) (lowest_append n a b)

-- every place is below 65,536
abbrev pub Fits : Due → Type 0
Fits r = Each (λ p. p < wide_limit) r.places

-- the first place of a rule with this rank that is due, below n
record Foremost (rank n : ℕ) (ps : List ℕ) : Type 0 where
  place : ℕ
  small : place < wide_limit
  is_least : least ps ≡ some place
  is_lowest : lowest n (map (code rank) ps) ≡ code rank place

foremost : (rank n p : ℕ) (ps : List ℕ) → Each (λ x. x < wide_limit) (p ∷ ps) → code (rank + 1) 0 ≤ n → Foremost rank n (p ∷ ps)
unfolding least lowest
foremost rank n p [] h low = record { place = p; small = h.0; is_least = refl; is_lowest = omega (arith, h.0) }
foremost rank n p (q ∷ ps) h low =
    let r : Foremost rank n (q ∷ ps) = foremost rank n q ps h.1 low in
    record {
      place = min p r.place;
      small = omega (arith, h.0, r.small);
      is_least = ap (λ t. some (given t (min p) p)) r.is_least;
      is_lowest = ap (min (code rank p)) r.is_lowest ∙ (let e : min (code rank p) (code rank r.place) ≡ code rank (min p r.place) = omega arith in e);
    }

-- what the lowest code of rules says, the first of them with this rank: none is due, or the rule k behind the first at a place
data Decided (rs : List Due) (rank n c : ℕ) : Type 0 where
  clear : c ≡ n → ((o : Outcome) → first_due rs o ≡ o) → Decided rs rank n c
  first : (k p : ℕ) → k < length rs → p < wide_limit → c ≡ code (rank + k) p → ((o : Outcome) → first_due rs o ≡ refused (number_at rs k) p) → Decided rs rank n c

-- it is at least the first code of the rank
decided_low : (rs : List Due) (rank n c : ℕ) → code (rank + length rs) 0 ≤ n → Decided rs rank n c → code rank 0 ≤ c
decided_low rs rank n c low (clear e f) = omega arith
decided_low rs rank n c low (first k p h small e f) = omega arith

module _ (r : Due) (rs : List Due) (rank n : ℕ) where
  -- where the first rule is due it decides
  now_due : (c : ℕ) → Foremost rank c r.places → Decided (r ∷ rs) rank n (lowest c (map (code rank) r.places))
  unfolding first_due
  now_due c m =
      first 0 m.place (omega arith) m.small (m.is_lowest ∙ ap (λ k. code k m.place) (let e : rank ≡ rank + 0 = omega arith in e)) (λ o. rw m.is_least)

  -- where it is not, the others do
  not_due : (c : ℕ) → least r.places ≡ none → Decided rs (rank + 1) n c → Decided (r ∷ rs) rank n c
  unfolding first_due
  not_due c z (clear e f) = clear e (λ o. rw z (f o))
  not_due c z (first k p h small e f) =
      first (k + 1) p (omega arith) small (e ∙ ap (λ j. code j p) (let a : rank + 1 + k ≡ rank + (k + 1) = omega arith in a)) (λ o. rw z (f o ∙ ap (λ x. refused x p) (behind k)))
    where
      behind : (j : ℕ) → number_at rs j ≡ number_at (r ∷ rs) (j + 1)
      behind j = ap (λ i. get_or (map (λ x. x.number) (r ∷ rs)) i 0) (let a : suc j ≡ j + 1 = omega arith in a)

  -- one rule more
  decided_more : Fits r → code (rank + 1 + length rs) 0 ≤ n → Decided rs (rank + 1) n (lowest n (codes (rank + 1) rs)) → Decided (r ∷ rs) rank n (lowest n (codes rank (r ∷ rs)))
  unfolding codes lowest least
  decided_more h low rest = rw (lowest_append n (map (code rank) r.places) (codes (rank + 1) rs)) (go r.places refl)
    where
      c : ℕ
      c = lowest n (codes (rank + 1) rs)

      go : (ps : List ℕ) → r.places ≡ ps → Decided (r ∷ rs) rank n (lowest c (map (code rank) r.places))
      go [] e = subst (λ ps. Decided (r ∷ rs) rank n (lowest c (map (code rank) ps))) (sym e) (not_due c (ap least e) rest)
      go (p ∷ ps) e =
          now_due c
          (subst (Foremost rank c) (sym e)
          (foremost rank c p ps (subst (Each (λ x. x < wide_limit)) e h) (decided_low rs (rank + 1) n c low rest)))

decided : (rs : List Due) (rank n : ℕ) → Each Fits rs → code (rank + length rs) 0 ≤ n → Decided rs rank n (lowest n (codes rank rs))
unfolding codes lowest first_due
decided [] rank n h low = clear refl (λ o. refl)
decided (r ∷ rs) rank n h low = decided_more r rs rank n h.0 (omega arith) (decided rs (rank + 1) n h.1 (omega arith))

-- no code is below the first of the ranks
pub lowest_from_rank : (rs : List Due) (rank n : ℕ) → Each Fits rs → code (rank + length rs) 0 ≤ n → code rank 0 ≤ lowest n (codes rank rs)
lowest_from_rank rs rank n h low = decided_low rs rank n (lowest n (codes rank rs)) low (decided rs rank n h low)

-- the lowest code, read back, is the definition's own first due
pub first_due_lem : (rs : List Due) → Each Fits rs → (o : Outcome) → decoded rs (lowest (no_code rs) (codes 0 rs)) o ≡ first_due rs o
first_due_lem rs h o = go (lowest (no_code rs) (codes 0 rs)) (decided rs 0 (no_code rs) h (omega arith))
  where
    go : (c : ℕ) → Decided rs 0 (no_code rs) c → decoded rs c o ≡ first_due rs o
    go c (clear e f) = rw (le-ltb c (no_code rs) (omega arith)) (sym (f o))
    go c (first k p few small e f) =
        let rank : c / wide_limit ≡ k = omega arith in
        let place : c % wide_limit ≡ p = omega arith in
        rw (lt-ltb c (no_code rs) (omega arith), rank, place) (sym (f o))
