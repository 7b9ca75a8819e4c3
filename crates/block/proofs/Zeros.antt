-- Whether bytes are all zero, as a chain finds it out: each byte's answer is joined to that of those before it.
use Rattle.std.proofs.Common.{◌≡◌, refl, ap, ◌∙◌, Bool, true, false, ◌&&◌, List, [], ◌∷◌, ℕ, eqb}
use Rattle.std.specs.List.{fold}
use Rattle.scope.specs.Lists.{all}
use Rattle.basics.specs.Tests.{eqb_sym}

zeros_from : (so : Bool) (l : List ℕ) → fold (λ t b. t && eqb b 0) so l ≡ (so && all (eqb 0) l)
unfolding all
zeros_from true [] = refl
zeros_from false [] = refl
zeros_from true (b ∷ l) = zeros_from (eqb b 0) l ∙ ap (λ t. t && all (eqb 0) l) (eqb_sym b 0)
zeros_from false (b ∷ l) = zeros_from false l

pub zeros : (l : List ℕ) → fold (λ t b. t && eqb b 0) true l ≡ all (eqb 0) l
zeros l = zeros_from true l
