-- Every place at which a refusal is due, in a line that reads to its end and is no longer than a line may be, is below 65,536: it is a place of the line.
use Rattle.std.specs.Prelude.{◌≡◌, List, ℕ, ◌<◌, ◌≤◌, length}
use Rattle.std.proofs.Common.{arith}
use Rattle.scope.specs.Bytes.{wide_limit}
use Rattle.scope.specs.Limits.{line_limit}
use Rattle.scope.specs.Line.{Line}
use Rattle.scope.specs.Reading.{holds, reading}
use Rattle.scope.specs.Refusals.{line_refusals}
use Rattle.basics.specs.Each.{Each, each_one}
use Rattle.reading_laws.proofs.Within.{reading_within}
use Rattle.reading_laws.proofs.Inside.{Under, line_under}
use Rattle.dues.specs.First.{Fits}

pub places_fit : (line : List ℕ) (l : Line ℕ) → reading line ≡ holds l → length line ≤ line_limit → Each Fits (line_refusals l)
unfolding Under
places_fit line l e h =
    each_one (λ d. Under (length line) d.places) Fits
    (λ d u. each_one (λ p. p < length line) (λ p. p < wide_limit) (λ p q. omega arith) d.places u)
    (line_refusals l) (line_under (length line) l (reading_within line l e))
