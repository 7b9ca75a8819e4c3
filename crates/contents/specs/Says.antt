-- What is answered of the content of an entry.
use Rattle.std.specs.Prelude.{ℕ, ◌≤◌, ◌≡◌, cond, List, ◌++◌, ℤ, length, take, Result, Ok, Err}
use Rattle.scope.specs.Limits.{copy_limit}
use Rattle.scope.specs.Refusals.{outcome}
use Rattle.scope.specs.Canonical.{canonical}
use Rattle.scope.specs.Tables.{Tables}
use Rattle.scope.specs.Layout.{tables_in}
use Rattle.scope.specs.Positions.{floaters, floating_of}
use Rattle.scope.specs.Placements.{allowed}
use Rattle.scope.specs.declared.refusals.Refusal.{Refusal}
use Rattle.scope.specs.Answers.{Said, good, refuses, reason_number}
use Rattle.areas.specs.Bounds.{Bounds}
use Rattle.order_laws.specs.Ranks.{InOrder}
use Rattle.blocks.specs.Entry.{positions_of, content_for}
use Rattle.blocks.specs.Sizes.{content_most}

-- a content of r bytes was made at the front of a room; or the line's own refusal, or 18
abbrev pub ContentIs : Said (List ℕ) → Result ℕ Refusal → List ℕ → Type 0
ContentIs said (Ok r) room = (said ≡ good (take r room)) × (1 ≤ r) × (r ≤ content_most)
ContentIs said (Err e) room = said ≡ refuses (reason_number e.reason) e.place

abbrev pub ContentSays : List ℕ → List ℕ → Result ℕ Refusal → List ℕ → Type 0
ContentSays s p r room = ContentIs (content_for (outcome s) p) r room

-- likewise of tables: 18, or the content
abbrev pub TableSays : Tables → List ℕ → Result ℕ Refusal → List ℕ → Type 0
TableSays t p r room = ContentIs (cond (allowed (floating_of t) p) (good (positions_of p ++ canonical t)) (refuses 18 0)) r room

-- tables of an accepted line, as far as its calls ask
pub record Known (bs : List ℕ) (ns : List ℤ) : Type 0 where
  pub bounds : Bounds bs ns
  pub ordered : InOrder (tables_in bs ns)
  pub few : length (floaters (tables_in bs ns)) ≤ copy_limit
