-- What the steps of a request promise.
use Rattle.std.specs.Prelude.{◌≡◌, Bool, true, List, ℕ, ◌<◌, ◌≤◌, ◌-◌, take, Result, Option as Maybe, Some as Just, None as Nothing}
use Rattle.std.proofs.Math.Option.{Option, none, some}
use Rattle.scope.specs.declared.answers.Listing.{Listing}
use Rattle.scope.specs.Limits.{copy_limit, position_limit}
use Rattle.scope.specs.Lists.{padded}
use Rattle.scope.specs.declared.refusals.Refusal.{Refusal}
use Rattle.scope.specs.Answers.{Said, says, of_good, requested, moved}
use Rattle.areas.specs.Floats.{floating_in}
use Rattle.placement_laws.specs.Standing.{place, Full, Ascent}
use Rattle.placement_laws.specs.Terms.{Orderly}
use Rattle.exchange.specs.Order.{Verdict}
use Rattle.exchange.specs.Table.{may_in, mark_in}
use Rattle.exchange.specs.declared.Standing.{Standing}

-- "unused ones 0"
abbrev pub Zeros : ℕ → List ℕ → Type 0
Zeros k p = (s : ℕ) → k ≤ s → s < copy_limit → place p s ≡ 0

abbrev pub Unused : ℕ → List ℕ → Bool → Type 0
Unused k p r = Verdict r (Zeros k p) (Zeros k p → ⊥)

-- s stands where it may, and nobody else there; or not all stand so
abbrev pub Alone : List ℕ → ℕ → List ℕ → ℕ → Bool → Type 0
Alone tab k w s r =
    Verdict r ((may_in tab s (place w s) ≡ true) × ((t : ℕ) → t < k → place w s ≡ place w t → s ≡ t)) (Full (may_in tab) k (place w) → ⊥)

abbrev pub Stand : List ℕ → ℕ → List ℕ → Bool → Type 0
Stand tab k w r = Verdict r (Full (may_in tab) k (place w)) (Full (may_in tab) k (place w) → ⊥)

-- s is a further copy, and not above the copy before it
abbrev pub Descends : List ℕ → List ℕ → ℕ → Bool → Type 0
Descends copy w s r = Verdict r ((mark_in copy s ≡ true) × (place w s ≤ place w (s - 1))) (mark_in copy s ≡ true → place w (s - 1) < place w s)

abbrev pub InOrder : List ℕ → ℕ → List ℕ → Bool → Type 0
InOrder copy k w r = Verdict r (Ascent (mark_in copy) k (place w)) (Ascent (mark_in copy) k (place w) → ⊥)

-- each of the first k is a position
abbrev pub ArePositions : ℕ → List ℕ → Type 0
ArePositions k w = (s : ℕ) → s < k → place w s < position_limit

-- the first k, as a placement: "A placement has 8 entries, unused ones 0"
abbrev pub entries : ℕ → List ℕ → List ℕ
entries k w = padded 0 copy_limit (take k w)

-- where they all stand, if that is so
abbrev pub found : ℕ → Maybe Standing → Option (List ℕ)
found k (Just w) = some (entries k w.at)
found k Nothing = none

-- the answer to a request, by what is said of it: the listing after it
abbrev pub Moves : Said (List ℕ) → Result Listing Refusal → Type 0
Moves a r = says r ≡ of_good moved a

-- that of a request to a listing marked fresh, whichever copies there are
abbrev pub Begins : List ℕ → ℕ → Listing → Result Listing Refusal → Type 0
Begins tab k l r = (copy : List ℕ) → Orderly (floating_in tab copy k) → Moves (requested (floating_in tab copy k) l) r
