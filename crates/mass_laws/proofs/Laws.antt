-- The laws of masses and ledgers. What they ask of a line, `Fair` and `Limited` of Terms.antt, are facts of every accepted line; a placement is an
-- allowed one.
use Rattle.std.specs.Prelude.{◌≡◌, refl, true, false, not, ◌||◌, ◌↔◌, List, ℕ, ◌+◌, ◌*◌, ◌^◌, ◌≤◌, ◌<◌, ℤ, pos, nat_abs, ◌+ℤ◌, eqb, length, get_or, take}
use Rattle.std.proofs.Common.{sym, ap, ◌∙◌, arith}
use Rattle.std.specs.Float.{binary64}
use Rattle.std.specs.Float.Ieee.{of_int, to_signed}
use Rattle.scope.specs.Limits.{position_limit, copy_limit, declaration_limit}
use Rattle.scope.specs.Line.{Bracket, Line}
use Rattle.scope.specs.Layout.{tables_in}
use Rattle.scope.specs.declared.grammar.Key.TheVariants.{Obs}
use Rattle.scope.specs.Lists.{there?, all, keep, member}
use Rattle.scope.specs.Modifications.{is_key}
use Rattle.scope.specs.Positions.{struck_out, floaters, floating_of}
use Rattle.scope.specs.Placements.{allowed}
use Rattle.scope.specs.Refusals.{declarations}
use Rattle.scope.specs.Masses.{first_mass, mass_of, stated, modifications, times, mass_or0, sum, total, lacking, labile_mass, placed_at, ledger}
use Rattle.areas.specs.Bounds.{Bounds}
use Rattle.mass_laws.specs.Terms.{Fair, Limited, total_limit}
use Rattle.mass_laws.proofs.Shares as shares
use Rattle.mass_laws.proofs.Splits as splits
use Rattle.mass_laws.proofs.Sizes as sizes
use Rattle.mass_laws.proofs.Exact as exact
use Rattle.mass_laws.proofs.Stated as each_stated
use Rattle.mass_laws.proofs.Areas as areas

module _ {P : Type 0} (t : Line P) (fair : Fair t) where
  module _ (p : List ℕ) (ok : allowed (floating_of t) p ≡ true) where
    -- "The total is the sum over all modifications, counts multiplied, labile included, labels once." The ledger books each of them once, a declaration at each
    -- position it reaches, and the labile ones never: its entries and the labile masses add up to the total.
    pub adds_up : sum (ledger t p) +ℤ labile_mass t ≡ total t
    adds_up = ap (λ z. z +ℤ labile_mass t) (shares.ledger_sum t fair p ok) ∙ splits.total_splits t fair

    -- "each holds the masses .. of the floating copy put there, nothing else": at the position of floating copy i its mass stands, alone
    pub own_entry : (i : ℕ) (d : Bracket P) → i < length (floaters t) → get_or (ledger t p) (get_or p i 0) (pos 0) ≡ mass_or0 (get_or (floaters t) i d)
    own_entry i d h = shares.own_entry t fair p ok i d h

    -- "no two floaters share one": so its mass stands at no other position, since those of the other copies have theirs alone, and the rest, by
    -- `only_placed`, have none
    pub apart : (i j : ℕ) → i < length (floaters t) → j < length (floaters t) → get_or p i 0 ≡ get_or p j 0 → i ≡ j
    apart i j h k e = shares.apart t p ok i j h k e

    -- "entries past n+1 stay zero"
    pub past : (x : ℕ) → length t.residues + 1 < x → get_or (ledger t p) x (pos 0) ≡ pos 0
    past x h = shares.past_zero t fair p ok x h

  -- so the ledgers of all placements have one sum
  pub one_sum : (p q : List ℕ) → allowed (floating_of t) p ≡ true → allowed (floating_of t) q ≡ true → sum (ledger t p) ≡ sum (ledger t q)
  one_sum p q e f = shares.ledger_sum t fair p e ∙ sym (shares.ledger_sum t fair q f)

  -- "Below 71 times 10^12, it fits under 2^53": with declarations, below 2,111 times 10^12
  pub total_below : Limited t → nat_abs (total t) < total_limit
  total_below l = sizes.total_size t fair l

  -- "the whole number becomes a double with nothing lost": cast back, the double is the number
  pub nothing_lost : Limited t → to_signed 63 (of_int binary64 (total t)) ≡ total t
  nothing_lost l = exact.cast_back (total t) (sizes.total_size t fair l)

  -- 16 "a modification has no mass": none lacks one exactly when each has a stated one, but for declarations that reach nothing
  pub all_stated : lacking t ≡ 0 ↔ all (λ k. there? (stated (mass_of k)) || eqb (times t k) 0) (modifications t) ≡ true
  all_stated = each_stated.all_stated t

-- the tables in areas are limited so where they keep to the areas' bounds and have no more than eight floaters and eight declarations
pub limited_in : {bs : List ℕ} {ns : List ℤ} → Bounds bs ns → length (floaters (tables_in bs ns)) ≤ copy_limit → length (declarations (tables_in bs ns).brackets) ≤ declaration_limit
    → Limited (tables_in bs ns)
limited_in b few declared = areas.limited_in b few declared

-- of any numbers as placement: a position where no copy is put has what the placed modifications leave there
pub only_placed : {P : Type 0} (t : Line P) (p : List ℕ) (x : ℕ) → x < position_limit → member x (take (length (floaters t)) p) ≡ false → get_or (ledger t p) x (pos 0) ≡ placed_at t x
only_placed t p x h e = shares.only_placed t p x h e

-- "zero at the start": an entry is zero where nothing is placed and nothing put
pub untouched : {P : Type 0} (t : Line P) (p : List ℕ) (x : ℕ) → member x (struck_out t) ≡ false → member x (take (length (floaters t)) p) ≡ false → get_or (ledger t p) x (pos 0) ≡ pos 0
untouched t p x e f = shares.untouched t p x e f

-- "Only stated ones enter total, ledger, display" (02, L6): the mass that does is told by a bracket's parts without `Obs` alone
pub only_stated : {P : Type 0} (k : Bracket P) → stated (mass_of k) ≡ first_mass (keep (λ p. not (is_key Obs p)) k.parts)
only_stated k = each_stated.stated_is k

pub under-2^53 : total_limit < 2 ^ 53
under-2^53 = omega arith

pub limit_is : total_limit ≡ 2111 * 10 ^ 12
limit_is = refl
