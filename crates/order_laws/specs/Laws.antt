-- The order of a line's brackets: declarations "at the front", then "A line has this order: runs of unknown-position brackets ..; labile `{..}`; N-terminal brackets and `-`; the
-- sequence; `-` and C-terminal brackets." Ranks: Ranks.antt. Proofs: proofs/Proved.antt, and the files that it cites.
use Rattle.std.specs.Prelude.{◌≡◌, List, ℕ}
use Rattle.scope.specs.Line.{Line}
use Rattle.scope.specs.Reading.{holds, reading}
use Rattle.scope.specs.Refusals.{accepted, outcome}
use Rattle.scope.specs.Tables.{tables_of}
use Rattle.order_laws.specs.Ranks.{orderedb, InOrder}

pub record Laws : Type 1 where
  -- of every line of the order, limits apart
  pub read_ordered : (s : List ℕ) (l : Line ℕ) → reading s ≡ holds l → InOrder l
  -- of every accepted line
  pub accepted_ordered : (s : List ℕ) (l : Line ℕ) → outcome s ≡ accepted l → InOrder l
  -- places do not matter
  pub same_order : {P : Type 0} (l : Line P) → orderedb (tables_of l) ≡ orderedb l
