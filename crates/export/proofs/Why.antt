-- Why there is no placement, handed out: a slice that is lent too short is refused; else the numbers of the set that is named, which are no more than the slice has room for.
use Prim.Native.Nat.{ℕ, ◌+◌, ◌-◌, ◌≤◌, ◌<◌}
use mathlib.Core.Path.{◌≡◌, sym, ap, ◌∙◌, subst}
use mathlib.Core.Bool.{Bool, true, false, cond}
use mathlib.Core.List.{List, ◌++◌}
use lib.IntN.{ℤ}
use lib.ListN.{length, take, drop, replicate, length-append, length-replicate}
use lib.Seq.{take-append_seam}
use native.Mathlib.Omega.{arith}
use borrow.Author.Tests.{lt-ltb, le-ltb}
use Rattle.scope.specs.Limits.{copy_limit}
use Rattle.scope.specs.Lists.{padded, laid}
use Rattle.scope.specs.Layout.{tables_in}
use Rattle.scope.specs.Positions.{floating_of}
use Rattle.scope.specs.Reasons.{Reason}
use Rattle.scope.specs.Answers.{Said, good, refuses, too_short, are_tables, counts, output_after, reason_number}
use Rattle.basics.specs.Said.{not_both, same_good}
use Rattle.placement_laws.specs.Answered.{some_reason}
use Rattle.calls.specs.Competing.{told_of, WhySays}
use Rattle.export.specs.Numbers.{number_of, left}
use Rattle.export.specs.Shapes.{why_lent, WhyHanded}
use Rattle.scope.specs.declared.refusals.Refusal.{Refusal}
use Rattle.std.specs.Prelude.{Ok, Err}
use Rattle.scope.specs.declared.answers.Why.{Why}
use Rattle.export.proofs.Told.{as_refused}

-- ---- what is told of the set, in both forms: with its numbers, and how many they are
said_same : {A : Type 0} (short taken : Bool) {x y : A} → good x ≡ cond short (refuses 13 0) (cond taken (good y) (refuses 14 0)) → x ≡ y
said_same true taken e = absurd (not_both e)
said_same false true e = same_good e
said_same false false e = absurd (not_both e)

said_good : {A B : Type 0} (short taken : Bool) {x : A} (y : A) {m n : B} → good x ≡ cond short (refuses 13 0) (cond taken (good y) (refuses 14 0)) → m ≡ n
    → good m ≡ cond short (refuses 13 0) (cond taken (good n) (refuses 14 0))
said_good true taken y e f = absurd (not_both e)
said_good false true y e f = ap good f
said_good false false y e f = absurd (not_both e)

said_refused : {A B : Type 0} (short taken : Bool) (x : A) (n : B) {m q : ℕ} → refuses m q ≡ cond short (refuses 13 0) (cond taken (good x) (refuses 14 0))
    → refuses m q ≡ cond short (refuses 13 0) (cond taken (good n) (refuses 14 0))
said_refused true taken x n e = as_refused e
said_refused false true x n e = absurd (not_both (sym e))
said_refused false false x n e = as_refused e

-- the set that is named: its numbers stand at the front of the entries
module _ (bs : List ℕ) (ns : List ℤ) {r : Why} (w : WhySays bs ns (Ok r)) where
  named : r ≡ told_of w.set
  named = said_same (too_short bs ns) (are_tables bs ns) w.says

  many : r.count ≡ length w.set
  many = ap (λ x. x.count) named

  names : r.at ≡ padded 0 copy_limit w.set
  names = ap (λ x. x.at) named

  counted : good r.count ≡ counts bs ns (λ t. length w.set)
  counted = said_good (too_short bs ns) (are_tables bs ns) _ w.says many

  pub why_fits : length r.at ≡ copy_limit → r.count ≤ copy_limit
  why_fits long =
      let behind = copy_limit - length w.set in
      let whole : length r.at ≡ length w.set + behind = ap length names ∙ length-append w.set (replicate behind 0) ∙ ap (λ k. length w.set + k) (length-replicate behind 0) in
      omega (arith, whole, long, many)

  begins : take r.count r.at ≡ w.set
  begins = ap (λ k. take k r.at) many ∙ ap (take (length w.set)) names ∙ take-append_seam w.set (replicate (copy_limit - length w.set) 0)

  laid_so : (old : List ℕ) → take r.count r.at ++ drop r.count old ≡ laid w.set old
  laid_so old = ap (λ z. z ++ drop r.count old) begins ∙ ap (λ k. w.set ++ drop k old) many

module _ (bs : List ℕ) (ns : List ℤ) (old : List ℕ) (count : ℕ) where
  -- what is said decides what is left
  handed : (w : (l : List ℕ) × Reason (floating_of (tables_in bs ns)) l) {said : Said ℕ} → said ≡ why_lent bs ns old w.0
      → WhyHanded bs ns old count (number_of said) (left said (λ n. n) count) (output_after said w.0 old)
  handed w e =
      record {
        set = w.0;
        reason = w.1;
        counted = record { number_is = ap number_of e; count_is = ap (λ s. left s (λ n. n) count) e };
        floaters_after = ap (λ s. output_after s w.0 old) e;
      }

  pub why_short : length old < copy_limit → WhyHanded bs ns old count 13 count old
  why_short h = handed (some_reason _) {said = refuses 13 0} (sym (rw (lt-ltb (length old) copy_limit h)))

  module _ (h : copy_limit ≤ length old) where
    long_enough : (l : List ℕ) → counts bs ns (λ t. length l) ≡ why_lent bs ns old l
    long_enough l = sym (rw (le-ltb (length old) copy_limit h))

    pub why_refused : {e : Refusal} → WhySays bs ns (Err e) → WhyHanded bs ns old count (reason_number e.reason) count old
    why_refused {e} w =
        handed (w.set, w.reason) {said = refuses (reason_number e.reason) e.place}
        (said_refused (too_short bs ns) (are_tables bs ns) _ _ w.says ∙ long_enough w.set)

    pub why_told : {r : Why} → WhySays bs ns (Ok r) → {new : List ℕ} → new ≡ take r.count r.at ++ drop r.count old → WhyHanded bs ns old count 0 r.count new
    why_told {r} w copied =
        subst (λ z. WhyHanded bs ns old count 0 r.count z) (sym (copied ∙ laid_so bs ns w old))
        (handed (w.set, w.reason) {said = good r.count} (counted bs ns w ∙ long_enough w.set))
