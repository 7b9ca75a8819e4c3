-- What is known of a bracket's parts while they are read one by one.
use Rattle.std.specs.Prelude.{◌≡◌, Bool, true, false, cond, not, ◌&&◌, List, [], ◌∷◌, ◌++◌, ℕ, ◌+◌, ◌<◌, ◌≤◌, eqb, ltb, ℤ, length, get_or, Result, Ok, Err, Some, None}
use Rattle.std.specs.Prelude.{Option as Perhaps}
use Rattle.std.proofs.Math.Option.{none}
use Rattle.scope.specs.declared.grammar.Slot.{Slot}
use Rattle.scope.specs.declared.grammar.Key.TheVariants.{Info}
use Rattle.scope.specs.Bytes.{bar, hash}
use Rattle.scope.specs.Limits.{line_limit, part_limit}
use Rattle.scope.specs.Line.{Part}
use Rattle.scope.specs.Keys.{key_code}
use Rattle.scope.specs.Content.{Context, begin, is_reference, Content, value_end}
use Rattle.scope.specs.Reading.{Held, inside, stuck}
use Rattle.reading_laws.proofs.Run.{rest}
use Rattle.sheet.specs.Rows.{masses_room}
use Rattle.sheet.specs.Fields.{part_row}
use Rattle.values.specs.declared.Value.{Value}
use Rattle.values.specs.Says.{body_code, number_in, through}
use Rattle.labels.specs.declared.Label.{Label}
use Rattle.inside.specs.declared.Parts.{Parts}
use Rattle.inside.specs.declared.Next.{Next}
use Rattle.inside.specs.declared.Next.TheVariants.{Closed, More}
use Rattle.scope.specs.declared.grammar.Stuck.{Stuck}
use Rattle.values.specs.declared.Body.{Body}
use Rattle.values.specs.declared.Body.TheVariants.{Mass, Text, Reference}
use Rattle.labels.specs.declared.Score.{Score}
use Rattle.inside.specs.Says.{Opening, holding, SlotIs, PartsAre, Grows, Closes}

-- ---- one part more
abbrev pub no_parts : ℕ → Parts
no_parts least = record { count = 0; labels = 0; info = true; refers = false; score = None; least = least }

-- the first score, if there is one, else the other
abbrev pub score_or : Perhaps Score → Perhaps Score → Perhaps Score
score_or None b = b
score_or (Some a) b = Some a

abbrev pub refers_body : Body → Bool
refers_body (Mass n) = false
refers_body (Text d) = false
refers_body Reference = true

-- with a value
abbrev pub with_value : Parts → Value → ℕ → Parts
with_value s v least =
    record {
      count = s.count + 1;
      labels = s.labels;
      info = s.info && eqb (key_code v.key) (key_code Info);
      refers = cond (eqb s.count 0) (refers_body v.body) s.refers;
      score = s.score;
      least = least;
    }

-- the last part has a label: its score is the bracket's where no label before it has one
abbrev pub with_label : Parts → Label → ℕ → Parts
with_label s l least =
    record {
      count = s.count;
      labels = s.labels + 1;
      info = s.info;
      refers = s.refers;
      score = score_or s.score l.score;
      least = least;
    }

-- what the byte behind a part does
abbrev pub lost_at : ℕ → Result Next Stuck
lost_at p = Err (record { at = p })

unfoldable pub byte_behind : ℕ → Bool → ℕ → Parts → ℕ → Result Next Stuck
byte_behind shut reference next s b =
    cond (eqb b shut) (Ok (Closed (next + 1) s)) (cond (eqb b bar && not reference) (Ok (More (next + 1) s)) (lost_at next))

unfoldable pub behind_part : List ℕ → ℕ → Bool → ℕ → Parts → Result Next Stuck
behind_part line shut reference next s = cond (ltb next (length line)) (byte_behind shut reference next s (get_or line next 0)) (lost_at next)

-- ---- the row of a part
-- the place is that of a text
abbrev pub text_place : Body → ℕ → ℕ
text_place (Mass n) i = 0
text_place (Text d) i = i
text_place Reference i = 0

abbrev pub value_row : Value → List ℕ
value_row v = part_row (body_code v.body) (key_code v.key) (number_in v.body).decimals (text_place v.body v.from) (text_place v.body v.to)

-- ---- reading from part to part
-- behind the parts so far, the next begins at `at`
pub record Sofar (line : List ℕ) (o : Opening) (at : ℕ) (s : Parts) (parts : List ℕ) (masses : List ℤ) : Type 0 where
  pub found : List (Part ℕ)
  pub on : (l : Slot) (i : ℕ) (h : Held ℕ) → SlotIs o l → rest line o.at (inside l i h (begin (holding o []))) ≡ rest line at (inside l i h (begin (holding o found)))
  pub are : PartsAre line o.least s found
  pub grows : Grows o found parts masses
  pub past : o.at ≤ at
  pub within : at ≤ length line
  pub few : s.count ≤ at

-- behind the parts before it and the part q, the byte at `at` does F
pub record Reached (line : List ℕ) (o : Opening) (at : ℕ) (F : Context ℕ → Part ℕ → ℕ → Content ℕ) (s : Parts) (before : List (Part ℕ)) (q : Part ℕ) (parts : List ℕ) (masses : List ℤ) : Type 0 where
  pub on : (l : Slot) (i : ℕ) (h : Held ℕ) → SlotIs o l → rest line o.at (inside l i h (begin (holding o []))) ≡ through line l i h at (F (holding o before) q)
  pub are : PartsAre line o.least s (before ++ (q ∷ []))
  pub grows : Grows o (before ++ (q ∷ [])) parts masses
  pub past : o.at ≤ at
  pub within : at ≤ length line
  pub few : s.count ≤ at + 1

abbrev pub NextPart : List ℕ → Opening → ℕ → Result Next Stuck → List ℕ → List ℤ → Type 0
NextPart line o at (Err e) parts masses = (l : Slot) (i : ℕ) (h : Held ℕ) → SlotIs o l → rest line o.at (inside l i h (begin (holding o []))) ≡ stuck e.at
NextPart line o at (Ok (Closed next s)) parts masses = Closes line o next s parts masses
NextPart line o at (Ok (More next s)) parts masses = Sofar line o next s parts masses × (at < next)

-- what reading a part asks
pub record NextFits (line : List ℕ) (at : ℕ) (refers labels room : Bool) (base : ℕ) (s : Parts) : Type 0 where
  pub short : length line ≤ line_limit
  pub within : at ≤ length line
  pub few : s.count ≤ at
  pub few_labels : s.labels ≤ s.count
  pub with_labels : refers ≡ true → labels ≡ true
  pub base_low : base ≤ masses_room
  pub base_room : room ≡ true → base + part_limit ≤ masses_room

-- what reading its label asks: the part begins at `part`, the `#` stands at `at`, and there is room for part m where it is stored
pub record LabelFits (line : List ℕ) (part at : ℕ) (stored : Bool) (m : ℕ) (s : Parts) : Type 0 where
  pub short : length line ≤ line_limit
  pub past : part ≤ at
  pub within : at < length line
  pub few_labels : s.labels ≤ line_limit
  pub row : stored ≡ true → m < masses_room

-- the part q, behind those before it, is read up to its label: it is stored as part m, or not, and is a reference or not
pub record AtLabel (line : List ℕ) (o : Opening) (part at shut : ℕ) (stored : Bool) (m : ℕ) (reference : Bool) (s : Parts) (before : List (Part ℕ)) (q : Part ℕ) (parts : List ℕ) (masses : List ℤ) : Type 0 where
  pub reached : Reached line o at value_end s before q parts masses
  pub bare : q.label ≡ none
  pub shut_is : o.shut ≡ shut
  pub allowed : o.labels ≡ true
  pub hash_there : get_or line at 0 ≡ hash
  pub place : q.at ≡ part
  pub stored_is : stored ≡ (o.room && ltb (length before) part_limit)
  pub number : m ≡ o.base + length before
  pub refers : reference ≡ is_reference q.value
