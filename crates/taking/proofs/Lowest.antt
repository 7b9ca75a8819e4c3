-- Free blocks found one after another: those that were taken and those that are left are all free blocks, lowest first.
use mathlib.Core.Path.{◌≡◌, sym, ap, ◌∙◌, subst}
use mathlib.Core.List.{List, [], ◌∷◌, ◌++◌}
use Prim.Native.Nat.{ℕ, ◌+◌, ◌≤◌, ◌<◌}
use native.Mathlib.Omega.{arith}
use native.Mathlib.Numerals.{add-one}
use Rattle.std.specs.Prelude.{Some, None}
use lib.ListN.{length, take, set, length-append, length-set}
use lib.Seq.{take_at, take-suc-set, append_snoc, length-take-le}
use Rattle.scope.specs.Lists.{keep, tabled}
use Rattle.basics.specs.Each.{Each, each_snoc}
use Rattle.blocks.specs.Area.{blocks_in, is_free, frees}
use Rattle.blocks.specs.Sizes.{chain_most}
use Rattle.chains.specs.Whole.{Whole, FirstOf}
use Rattle.chains.specs.Nexts.{kept_from, next_kept, none_kept, kept_all}
use Rattle.taking.specs.Says.{LowestFree, Inside}

-- those from a block on
abbrev pub frees_from : List ℕ → ℕ → ℕ → List ℕ
frees_from a n from = kept_from (is_free a) n from

pub record Taken (a : List ℕ) (n need from k : ℕ) (blocks : List ℕ) : Type 0 where
  pub upto : from ≤ n
  pub few : k ≤ need
  pub long : length blocks ≡ chain_most
  pub all : take k blocks ++ frees_from a n from ≡ frees a
  pub inside : Each (λ b. b < blocks_in a) (take k blocks)

module _ {a : List ℕ} {n need : ℕ} where
  pub taken_start : (blocks : List ℕ) → Whole a n → length blocks ≡ chain_most → Taken a n need 0 0 blocks
  unfolding frees
  taken_start blocks w e =
      record {
        upto = omega arith;
        few = omega arith;
        long = e;
        all = sym (kept_all (is_free a) n) ∙ ap (λ m. keep (is_free a) (tabled (λ b. b) 0 m)) (sym w.many);
        inside = tt;
      }

  module _ {from k : ℕ} {blocks : List ℕ} (w : Taken a n need from k blocks) (room : need ≤ chain_most) where
    pub taken_more : {b : ℕ} → Whole a n → k < need → FirstOf (is_free a) n from (Some b) → Taken a n need (b + 1) (k + 1) (set blocks k b)
    taken_more {b} whole h next =
        let front : take (k + 1) (set blocks k b) ≡ take k blocks ++ (b ∷ []) =
        ap (λ i. take i (set blocks k b)) (add-one k) ∙ take-suc-set blocks k b (omega (arith, w.long)) in
        record {
          upto = omega (arith, next.1);
          few = omega arith;
          long = length-set blocks k b ∙ w.long;
          all =
              ap (λ m. m ++ frees_from a n (b + 1)) front ∙ append_snoc (take k blocks) b (frees_from a n (b + 1))
              ∙ ap (λ m. take k blocks ++ m) (sym (next_kept next.0 next.1 next.2 next.3)) ∙ w.all;
          inside =
              subst (Each (λ x. x < blocks_in a)) (sym front) (each_snoc (λ x. x < blocks_in a) (take k blocks) b w.inside (omega (arith, next.1, whole.many)));
        }

    taken_long : k + length (frees_from a n from) ≡ length (frees a)
    taken_long =
        let front = length-take-le k blocks (omega (arith, w.long, w.few)) in
        let whole = length-append (take k blocks) (frees_from a n from) in
        omega (arith, front, whole, ap length w.all)

    -- none is left
    pub taken_short : k < need → FirstOf (is_free a) n from None → length (frees a) < need
    taken_short h none = omega (arith, taken_long, ap length (none_kept none))

    -- as many as are needed
    pub taken_enough : need ≤ k → LowestFree a need blocks
    taken_enough h =
        let e : k ≡ need = omega (arith, w.few) in
        let front : length (take need blocks) ≡ need = length-take-le need blocks (omega (arith, w.long)) in
        let first : take need blocks ≡ take need (frees a) =
        sym (take_at (take need blocks) (frees_from a n from) need front) ∙ ap (λ i. take need (take i blocks ++ frees_from a n from)) (sym e) ∙ ap (take need) w.all in
        record { enough = omega (arith, taken_long); lowest = first; inside = subst (λ i. Inside a (take i blocks)) e w.inside }
