-- The numbers of a set, one floater after another: a further member is put behind the others, in the room that is zero.
use mathlib.Core.Path.{◌≡◌, refl, sym, ap, ◌∙◌, subst}
use mathlib.Core.Bool.{Bool, true, false, cond}
use mathlib.Core.List.{List, [], ◌∷◌, ◌++◌, append_assoc, append-nil}
use Prim.Native.Nat.{ℕ, suc, ◌+◌, ◌-◌, ◌<◌, ◌≤◌}
use native.Mathlib.Numerals.{add-one}
use native.Mathlib.Omega.{arith}
use lib.ListN.{length, set, replicate, length-append}
use lib.Seq.{set-append_seam}
use Rattle.scope.specs.Limits.{copy_limit}
use Rattle.scope.specs.Lists.{keep, tabled, padded}
use Rattle.basics.specs.Lists.{keep_append}
use Rattle.basics.specs.Tabled.{tabled_snoc}
use Rattle.placement_laws.specs.Reasons.{count_kept}
use Rattle.reason.specs.Named.{numbers_of, Named}
use Rattle.reason.proofs.Laws.{count_top}

pub few_numbers : (m : ℕ → Bool) (k : ℕ) → length (numbers_of m k) ≤ k
few_numbers m k = subst (λ n. n ≤ k) (sym (count_kept (λ i. m (i - 1)) 1 k)) (count_top k (λ s. m (1 + s - 1)))

-- the numbers with one floater more
more_numbers : (m : ℕ → Bool) (k : ℕ) → numbers_of m (k + 1) ≡ numbers_of m k ++ cond (m k) ((k + 1) ∷ []) []
unfolding keep
more_numbers m k =
    ap (numbers_of m) (add-one k) ∙ ap (keep (λ i. m (i - 1))) (tabled_snoc (λ x. x) 1 k) ∙ keep_append (λ i. m (i - 1)) (tabled (λ x. x) 1 k) ((1 + k) ∷ [])
    ∙ ap (λ l. numbers_of m k ++ l) (append-nil (cond (m (1 + k - 1)) ((1 + k) ∷ []) []) ∙ same)
  where
    same : cond (m (1 + k - 1)) ((1 + k) ∷ []) [] ≡ cond (m k) ((k + 1) ∷ []) []
    same =
        let a : 1 + k - 1 ≡ k = omega arith in
        let b : 1 + k ≡ k + 1 = omega arith in
        ap (λ x. cond (m x) ((1 + k) ∷ []) []) a ∙ ap (λ x. cond (m k) (x ∷ []) []) b

-- a number put behind the others
pub put_behind : (l : List ℕ) (c x : ℕ) → length l < c → set (padded 0 c l) (length l) x ≡ padded 0 c (l ++ (x ∷ []))
put_behind l c x h =
    let room : c - length l ≡ suc (c - length l - 1) = omega arith in
    let less : c - length l - 1 ≡ c - length (l ++ (x ∷ [])) = omega (arith, length-append l (x ∷ [])) in
    ap (λ n. set (l ++ replicate n 0) (length l) x) room ∙ set-append_seam l 0 (replicate (c - length l - 1) 0) x
    ∙ sym (append_assoc l (x ∷ []) (replicate (c - length l - 1) 0)) ∙ ap (λ n. (l ++ (x ∷ [])) ++ replicate n 0) less

-- so far, of the first i floaters
pub record Naming (m : ℕ → Bool) (k i n : ℕ) (at : List ℕ) : Type 0 where
  pub inside : i ≤ k
  pub named : Named (numbers_of m i) n at

pub naming_start : (m : ℕ → Bool) (k : ℕ) → Naming m k 0 0 (replicate copy_limit 0)
unfolding tabled keep
naming_start m k = record { inside = omega arith; named = record { many = refl; names = refl } }

module _ {m : ℕ → Bool} {k i n : ℕ} {at : List ℕ} (h : Naming m k i n at) (few : k ≤ copy_limit) (l : i < k) where
  pub room : n < copy_limit
  room = omega (arith, h.named.many, few_numbers m i)

  pub naming_member : {x : ℕ} → m i ≡ true → x ≡ i + 1 → Naming m k (i + 1) (n + 1) (set at n x)
  naming_member {x} e q =
      record {
        inside = omega arith;
        named = record {
          many = omega (arith, h.named.many, ap length more, length-append (numbers_of m i) ((i + 1) ∷ []));
          names =
              ap (λ a. set a n x) h.named.names ∙ ap (λ j. set (padded 0 copy_limit (numbers_of m i)) j x) h.named.many ∙ put_behind (numbers_of m i) copy_limit x (omega (arith, room, h.named.many))
              ∙ ap (λ y. padded 0 copy_limit (numbers_of m i ++ (y ∷ []))) q ∙ ap (padded 0 copy_limit) (sym more);
        };
      }
    where
      more : numbers_of m (i + 1) ≡ numbers_of m i ++ ((i + 1) ∷ [])
      more = more_numbers m i ∙ ap (λ b. numbers_of m i ++ cond b ((i + 1) ∷ []) []) e

  pub naming_other : m i ≡ false → Naming m k (i + 1) n at
  naming_other e = record { inside = omega arith; named = record { many = h.named.many ∙ ap length (sym same); names = h.named.names ∙ ap (padded 0 copy_limit) (sym same) } }
    where
      same : numbers_of m (i + 1) ≡ numbers_of m i
      same = more_numbers m i ∙ ap (λ b. numbers_of m i ++ cond b ((i + 1) ∷ []) []) e ∙ append-nil (numbers_of m i)

pub naming_end : {m : ℕ → Bool} {k i n : ℕ} {at : List ℕ} → Naming m k i n at → k ≤ i → Named (numbers_of m k) n at
naming_end {m} {k} {i} {n} {at} h l = let e : i ≡ k = omega (arith, h.inside) in subst (λ j. Named (numbers_of m j) n at) e h.named
