-- The heaviest name of the list. Assumes nothing.
use Rattle.std.proofs.Common.{◌≡◌, refl, sym, subst, arith, Bool, true, false, [], ℕ, ◌≤◌, ltb, leb, ltb-true, ltb-false, leb-true}
use lib.ListN.{get_or-eq_default}
use Rattle.scope.specs.Glycans.{Sugar, sugars, sugar_at}
use Rattle.glycan_laws.specs.Back.{all_below}
use Rattle.glycan_laws.proofs.Back.{at_each}

-- the heaviest of the list
abbrev pub heaviest : ℕ
heaviest = 3070903

past : (i : ℕ) → 24 ≤ i → sugar_at i ≡ record { name = []; mass = 0 }
unfolding sugars
past i h = get_or-eq_default sugars (record { name = []; mass = 0 }) {n = i} h

all_masses : all_below (λ i. leb (sugar_at i).mass heaviest) 24 ≡ true
unfolding all_below sugars
all_masses = refl

pub mass_most : (i : ℕ) → (sugar_at i).mass ≤ heaviest
mass_most i = by (ltb i 24) refl
  where
    nothing : sugar_at i ≡ record { name = []; mass = 0 } → (sugar_at i).mass ≤ heaviest
    nothing e = subst (λ (z : Sugar). z.mass ≤ heaviest) (sym e) (omega arith)

    by : (b : Bool) → ltb i 24 ≡ b → (sugar_at i).mass ≤ heaviest
    by true q = leb-true (sugar_at i).mass heaviest (at_each (λ j. leb (sugar_at j).mass heaviest) 24 i all_masses (ltb-true i 24 q))
    by false q = nothing (past i (ltb-false i 24 q))
