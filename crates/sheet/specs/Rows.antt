-- What the walk notes of a line, in tables that its caller lends: a row for each bracket, a row for each part, with places. A row is a function of the definition's
-- bracket or part alone, whether or not a limit is passed; the first 64 brackets are noted, and of each the first four parts. They are noted as they are read, and the
-- reader makes a text of a composition (crates/scope, Kept): of a composition there is nothing to note.
use Rattle.std.specs.Prelude.{◌≡◌, cond, List, [], ◌∷◌, ◌++◌, map, ℕ, ◌+◌, ◌*◌, ◌≤◌, min, ℤ, pos, length, take}
use Rattle.std.proofs.Math.Option.{Option, none, some}
use Rattle.scope.specs.Limits.{residue_limit, bracket_limit, part_limit, decimal_limit, count_limit}
use Rattle.scope.specs.Line.{Number, Value, mass, text, reference, composition, Place, Part, Bracket, Residue}
use Rattle.scope.specs.Lists.{given, flat, part}
use Rattle.scope.specs.Keys.{key_code, written}
use Rattle.scope.specs.Kinds.{kind_code}
use Rattle.scope.specs.Modifications.{only_info, is_referring, names_of, is_labelled}
use Rattle.scope.specs.Refusals.{text_of, in_range}
use Rattle.scope.specs.Tables.{millionths, score_of}
use Rattle.scope.specs.Layout.{value_code, section_code}
use Rattle.basics.specs.Each.{Each}
use Rattle.sites.specs.Says.{Stand}

-- ---- a part
-- where its text begins, right behind its key, and the place behind it; 0 and 0 where it has none
abbrev pub text_from : Part ℕ → Value ℕ → ℕ
text_from p (mass n) = 0
text_from p (text t) = p.at + length (written p.key)
text_from p reference = 0
text_from p (composition t n) = 0

abbrev pub text_to : Part ℕ → Value ℕ → ℕ
text_to p (mass n) = 0
text_to p (text t) = p.at + length (written p.key) + length t
text_to p reference = 0
text_to p (composition t n) = 0

-- its label's first byte, and the place behind it, likewise
abbrev pub label_from : Part ℕ → ℕ
label_from p = given p.label (λ l. l.at) 0

abbrev pub label_to : Part ℕ → ℕ
label_to p = given p.label (λ l. l.at + length l.name) 0

-- the decimals and the millionths of a mass in range, 0 else
abbrev pub decimals_noted : Value ℕ → ℕ
decimals_noted (mass n) = cond (in_range n) n.decimals 0
decimals_noted (text t) = 0
decimals_noted reference = 0
decimals_noted (composition t n) = 0

abbrev pub mass_noted : Value ℕ → ℤ
mass_noted (mass n) = cond (in_range n) (millionths n) (pos 0)
mass_noted (text t) = pos 0
mass_noted reference = pos 0
mass_noted (composition t n) = pos 0

-- value, key, decimals; text from and to; label from and to
abbrev pub part_fields : ℕ
part_fields = 7

abbrev pub part_note : Part ℕ → List ℕ
part_note p =
    value_code p.value ∷ key_code p.key ∷ decimals_noted p.value ∷ text_from p p.value ∷ text_to p p.value ∷ label_from p ∷ label_to p ∷ []

-- what the reader makes: no composition
abbrev pub AsRead : Value ℕ → Type 0
AsRead (mass n) = Unit {0}
AsRead (text t) = Unit {0}
AsRead reference = Unit {0}
AsRead (composition t n) = ⊥

-- its text and its label are what stands there in the line
pub record Stands (line : List ℕ) (p : Part ℕ) : Type 0 where
  pub as_read : AsRead p.value
  pub text_is : text_of p ≡ part (p.at + length (written p.key)) (length (text_of p)) line
  pub text_inside : text_to p p.value ≤ length line
  pub label_is : given p.label (λ l. l.name) [] ≡ part (label_from p) (length (given p.label (λ l. l.name) [])) line
  pub label_inside : label_to p ≤ length line

abbrev pub AllStand : List ℕ → List (Part ℕ) → Type 0
AllStand line ps = Each (Stands line) ps

-- ---- a bracket
-- what it is: 0 only INFO, 1 an unlabelled modification, 2 a labelled one, 3 a reference
unfoldable pub sort_of : {P : Type 0} → Bracket P → ℕ
sort_of k = cond (is_referring k) 3 (cond (only_info k) 0 (cond (is_labelled k) 2 1))

abbrev pub counted_code : {A : Type 0} → Option A → ℕ
counted_code none = 0
counted_code (some p) = 1

-- its score: 0 for none, else one more than its decimals, or above all of these where it is out of range
abbrev pub score_noted : Option (Number ℕ) → ℕ
score_noted none = 0
score_noted (some n) = cond (in_range n) (n.decimals + 1) (decimal_limit + 2)

abbrev pub points_noted : Option (Number ℕ) → ℤ
points_noted none = pos 0
points_noted (some n) = cond (in_range n) (millionths n) (pos 0)

-- where its places begin in the line (02, L2): 0 where it has none
abbrev pub places_from : List (Place ℕ) → ℕ
places_from [] = 0
places_from (p ∷ ps) = p.at

-- they stand in the line, one behind another, from where the first begins
abbrev pub PlacesStand : List ℕ → List (Place ℕ) → Type 0
PlacesStand line ps = (next : ℕ) × Stand line (places_from ps) ps next

-- place, kind, sort, count (100 where it is more), whether it is written, first and last position, number of parts, of labels, of its first part, score, where its
-- places begin, number of places
abbrev pub head_fields : ℕ
head_fields = 13

abbrev pub head_note : ℕ → Bracket ℕ → List ℕ
head_note base k =
    k.at ∷ kind_code k.kind ∷ sort_of k ∷ min (count_limit + 1) k.count ∷ counted_code k.counted ∷ k.first ∷ k.last
    ∷ length k.parts ∷ length (names_of k) ∷ base ∷ score_noted (score_of k.parts) ∷ places_from k.places
    ∷ length k.places ∷ []

-- the parts of it that are noted
abbrev pub few_parts : Bracket ℕ → List (Part ℕ)
few_parts k = take part_limit k.parts

unfoldable pub heads_from : ℕ → List (Bracket ℕ) → List ℕ
heads_from base [] = []
heads_from base (k ∷ ks) = head_note base k ++ heads_from (base + length (few_parts k)) ks

abbrev pub parts_of : List (Bracket ℕ) → List (Part ℕ)
parts_of ks = flat few_parts ks

-- ---- the tables
abbrev pub heads_room : ℕ
heads_room = bracket_limit * head_fields

abbrev pub masses_room : ℕ
masses_room = bracket_limit * part_limit

abbrev pub parts_room : ℕ
parts_room = masses_room * part_fields

-- the brackets that are noted
abbrev pub few_brackets : List (Bracket ℕ) → List (Bracket ℕ)
few_brackets ks = take bracket_limit ks

-- the first m rows of parts are those of these
pub record PartsNoted (ps : List (Part ℕ)) (m : ℕ) (parts : List ℕ) (masses : List ℤ) : Type 0 where
  pub many : m ≡ length ps
  pub rows : take (m * part_fields) parts ≡ flat part_note ps
  pub masses_are : take m masses ≡ map (λ p. mass_noted p.value) ps

-- these brackets are noted, with m parts
pub record Noted (line : List ℕ) (ks : List (Bracket ℕ)) (m : ℕ) (heads parts : List ℕ) (masses scores : List ℤ) : Type 0 where
  pub rows : take (length (few_brackets ks) * head_fields) heads ≡ heads_from 0 (few_brackets ks)
  pub parts_are : PartsNoted (parts_of (few_brackets ks)) m parts masses
  pub scores_are : take (length (few_brackets ks)) scores ≡ map (λ k. points_noted (score_of k.parts)) (few_brackets ks)
  pub stand : AllStand line (parts_of (few_brackets ks))
  pub placed : Each (λ k. PlacesStand line k.places) (few_brackets ks)

-- the residues, where there are not too many: their letters, and the codes of their sections
pub record Lettered (rs : List (Residue ℕ)) (letters sections : List ℕ) : Type 0 where
  pub letters_are : length rs ≤ residue_limit → take (length rs) letters ≡ map (λ r. r.letter) rs
  pub sections_are : length rs ≤ residue_limit → take (length rs) sections ≡ map (λ r. section_code r.section) rs

-- there is room
pub record Roomy (letters sections heads parts : List ℕ) (masses scores : List ℤ) : Type 0 where
  pub letters_room : residue_limit ≤ length letters
  pub sections_room : residue_limit ≤ length sections
  pub heads_room_is : heads_room ≤ length heads
  pub parts_room_is : parts_room ≤ length parts
  pub masses_room_is : masses_room ≤ length masses
  pub scores_room : bracket_limit ≤ length scores
