-- What a bracket that was read says: which parts it holds, how reading goes on behind it, what is due of them and what is noted of them.
use Rattle.std.specs.Prelude.{◌≡◌, Bool, true, false, List, [], ◌++◌, map, ℕ, ◌+◌, ◌*◌, ◌<◌, ◌≤◌, ℤ, length, take, Result, Ok, Err}
use Rattle.scope.specs.declared.grammar.Slot.{Slot}
use Rattle.scope.specs.declared.grammar.Key.TheVariants.{Info}
use Rattle.scope.specs.Limits.{line_limit, part_limit}
use Rattle.scope.specs.Line.{Part}
use Rattle.scope.specs.Lists.{flat, all}
use Rattle.scope.specs.Content.{Context, begin}
use Rattle.scope.specs.Reading.{Held, inside, outside, refers?, mode_after, with_bracket, stuck}
use Rattle.scope.specs.Modifications.{is_key, name_of}
use Rattle.scope.specs.Tables.{score_of}
use Rattle.reading_laws.proofs.Run.{rest}
use Rattle.sheet.specs.Rows.{masses_room, part_fields, part_note, mass_noted, AllStand}
use Rattle.dues.specs.Ranks.{lowest}
use Rattle.dues.specs.Lines.{parts_codes}
use Rattle.inside.specs.declared.Parts.{Parts}
use Rattle.scope.specs.declared.grammar.Stuck.{Stuck}
use Rattle.labels.specs.Says.{score_kept}
use Rattle.inside.specs.declared.Bracketed.{Bracketed}

-- ---- the bracket that is read
-- where its first part begins; the byte that closes it, whether a reference may stand in it, whether its parts may have labels; whether there is room for its parts, and
-- the number of the first; the first refusal due before it, and the tables
pub record Opening : Type 0 where
  pub at : ℕ
  pub shut : ℕ
  pub refers : Bool
  pub labels : Bool
  pub room : Bool
  pub base : ℕ
  pub least : ℕ
  pub parts : List ℕ
  pub masses : List ℤ

-- it is read on with these parts so far
abbrev pub holding : Opening → List (Part ℕ) → Context ℕ
holding o ps = record { shut = o.shut; refers = o.refers; labels = o.labels; parts = ps }

-- what reading it asks: where a reference may stand, a label may; there is room in the tables
pub record BracketFits (line : List ℕ) (o : Opening) : Type 0 where
  pub short : length line ≤ line_limit
  pub within : o.at ≤ length line
  pub with_labels : o.refers ≡ true → o.labels ≡ true
  pub base_low : o.base ≤ masses_room
  pub base_room : o.room ≡ true → o.base + part_limit ≤ masses_room

-- it stands in this slot
pub record SlotIs (o : Opening) (s : Slot) : Type 0 where
  pub shut : s.shut ≡ o.shut
  pub refers : s.refers ≡ o.refers
  pub labels : s.labels ≡ o.labels

-- ---- its parts
-- `s` counts these parts; where `least` was the first refusal due before them, its own is the first with what is due of them
pub record PartsAre (line : List ℕ) (least : ℕ) (s : Parts) (ps : List (Part ℕ)) : Type 0 where
  pub count : s.count ≡ length ps
  pub labels : s.labels ≡ length (flat name_of ps)
  pub info : s.info ≡ all (is_key Info) ps
  pub refers : s.refers ≡ refers? ps
  pub score : s.score ≡ score_kept (score_of ps)
  pub least_due : s.least ≡ lowest least (parts_codes ps)
  pub stand : AllStand line ps

-- those that are noted
abbrev pub first_parts : List (Part ℕ) → List (Part ℕ)
first_parts ps = take part_limit ps

-- where there is room, the tables go on with them behind the first rows; where there is none, they stay as they were
pub record Grows (o : Opening) (ps : List (Part ℕ)) (parts : List ℕ) (masses : List ℤ) : Type 0 where
  pub rows : o.room ≡ true → take ((o.base + length (first_parts ps)) * part_fields) parts ≡ take (o.base * part_fields) o.parts ++ flat part_note (first_parts ps)
  pub masses_are : o.room ≡ true → take (o.base + length (first_parts ps)) masses ≡ take o.base o.masses ++ map (λ p. mass_noted p.value) (first_parts ps)
  pub same_parts : o.room ≡ false → parts ≡ o.parts
  pub same_masses : o.room ≡ false → masses ≡ o.masses
  pub parts_long : length parts ≡ length o.parts
  pub masses_long : length masses ≡ length o.masses

-- ---- the bracket is closed
pub record Closes (line : List ℕ) (o : Opening) (next : ℕ) (s : Parts) (parts : List ℕ) (masses : List ℤ) : Type 0 where
  pub found : List (Part ℕ)
  pub on : (l : Slot) (i : ℕ) (h : Held ℕ) → SlotIs o l
      → rest line o.at (inside l i h (begin (holding o []))) ≡ rest line next (outside (mode_after l found) (with_bracket l.kind i found h))
  pub past : o.at < next
  pub within : next ≤ length line
  pub are : PartsAre line o.least s found
  pub few : s.count ≤ next
  pub few_labels : s.labels ≤ s.count
  pub grows : Grows o found parts masses

abbrev pub BracketSays : List ℕ → Opening → Result Bracketed Stuck → List ℕ → List ℤ → Type 0
BracketSays line o (Err e) parts masses = (l : Slot) (i : ℕ) (h : Held ℕ) → SlotIs o l → rest line o.at (inside l i h (begin (holding o []))) ≡ stuck e.at
BracketSays line o (Ok b) parts masses = Closes line o b.next b.parts parts masses
