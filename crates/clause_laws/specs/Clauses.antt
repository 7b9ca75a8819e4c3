-- What refusals 1 to 3 ask of the bytes, and refusals 5 to 12, 19 and 21 of a line, clause by clause in the words of documents 01 and 02, as relations apart from the tests
-- of Refusals.antt. Their proofs: proofs/Proved.antt.
use Rattle.std.specs.Prelude.{ℕ, ◌+◌, ◌-◌, ◌*◌, ◌^◌, ◌≤◌, ◌<◌, ◌≡◌, ◌↔◌, ◌⊎◌, true, false, cond, List, [], ◌∷◌, ◌++◌, length, take, drop}
use Prim.Native.String.{String}
use Rattle.std.proofs.Math.Option.{some}
use Rattle.scope.specs.declared.grammar.Key.TheVariants.{NoKey, U, M, Info, Formula, Glycan, Position, Limit}
use Rattle.scope.specs.declared.grammar.Kind.TheVariants.{Unknown, Labile, Declared}
use Rattle.scope.specs.Bytes.{bytes, is_printable, is_digit, is_opening, is_shutting, same_folded}
use Rattle.scope.specs.Limits.{line_limit, residue_limit, bracket_limit, part_limit, text_limit, label_limit, depth_limit, size_limit, decimal_limit, count_limit, copy_limit, declaration_limit, place_limit}
use Rattle.scope.specs.Line.{Number, Label, mass, Place, Part, Bracket, Residue, Line}
use Rattle.scope.specs.Keys.{written}
use Rattle.scope.specs.Modifications.{is_referring, names_of, copies}
use Rattle.scope.specs.Refusals.{least, text_of, refusal1, refusal2, refusal3, refusal5, declarations, refusal6, refusal7, refusal8, refusal9, refusal10, refusal21, refusal11, refusal12, refusal19, line_refusals}
use Rattle.basics.specs.Each.{Each, Some, In}
use Rattle.scope.specs.Glycans.{Item}
use Rattle.reading_laws.specs.Laws.{Clear}
use Rattle.glycan_laws.specs.Laws.{Cuts}

-- some element, by those in front of it
abbrev pub SomeBehind : {A : Type 0} → (List A → A → Type 0) → List A → List A → Type 0
SomeBehind P front [] = ⊥
SomeBehind P front (x ∷ l) = P front x ⊎ SomeBehind P (front ++ (x ∷ [])) l

-- "at its first place in the line"
pub record FirstAt (Due : ℕ → Type 0) (i : ℕ) : Type 0 where
  pub due : Due i
  pub first : (j : ℕ) → Due j → i ≤ j

-- the text is divided by a byte that is so, behind the front
abbrev pub SomeByte : (List ℕ → ℕ → Type 0) → List ℕ → Type 0
SomeByte P t = SomeBehind P [] t

-- some part of some bracket
abbrev pub SomePart : (Part ℕ → Type 0) → Line ℕ → Type 0
SomePart P l = Some (λ (k : Bracket ℕ). Some P k.parts) l.brackets

-- ---- 3 "a byte outside 32 to 126", at "that byte"
abbrev pub Due3 : List ℕ → ℕ → Type 0
Due3 s i = SomeByte (λ (front : List ℕ) (b : ℕ). (i ≡ length front) × (is_printable b ≡ false)) s

-- ---- 5 "pairs too deep", at "the opening byte"
-- how many pairs are open behind these bytes, d before them
unfoldable pub open_after : ℕ → List ℕ → ℕ
open_after d [] = d
open_after d (b ∷ t) = open_after (cond (is_opening b) (d + 1) (cond (is_shutting b) (d - 1) d)) t

-- an opening byte in the part's text, behind its key, where as many are open as may be
abbrev pub Due5 : Line ℕ → ℕ → Type 0
Due5 l i =
    SomePart (λ (p : Part ℕ).
    SomeByte (λ (front : List ℕ) (b : ℕ). (i ≡ p.at + length (written p.key) + length front) × ((is_opening b ≡ true) × (depth_limit ≤ open_after 0 front))) (text_of p)) l

-- ---- 6 "residues, brackets, parts, text or label over the limit", at "first byte of the residue, bracket, part or label text"
abbrev pub LongLabel : ℕ → Part ℕ → Type 0
LongLabel i p = (x : Label ℕ) × ((p.label ≡ some x) × ((i ≡ x.at) × (label_limit < length x.name)))

-- "a ninth declaration or a seventeenth place is 6, there": at the `<` in front of its bracket, at its first byte
abbrev pub Due6 : Line ℕ → ℕ → Type 0
Due6 l i =
    Some (λ (r : Residue ℕ). i ≡ r.at) (drop residue_limit l.residues)
    ⊎ (Some (λ (k : Bracket ℕ). i ≡ k.at) (drop bracket_limit l.brackets)
    ⊎ (Some (λ (k : Bracket ℕ). i ≡ k.at - 1) (drop declaration_limit (declarations l.brackets))
    ⊎ Some (λ (k : Bracket ℕ).
    Some (λ (p : Part ℕ). i ≡ p.at) (drop part_limit k.parts)
    ⊎ (Some (λ (p : Part ℕ). ((i ≡ p.at) × (text_limit < length (text_of p))) ⊎ LongLabel i p) k.parts
    ⊎ Some (λ (p : Place ℕ). i ≡ p.at) (drop place_limit k.places))) l.brackets))

-- ---- 7 "mass, score or count out of range", at "its first byte, sign included"
-- "below 1,000,000 in size with at most 6 decimals"
abbrev pub InRange : Number ℕ → Type 0
InRange n = (n.decimals ≤ decimal_limit) × (n.digits < size_limit * 10 ^ n.decimals)

abbrev pub WideMass : ℕ → Part ℕ → Type 0
WideMass i p = (n : Number ℕ) × ((p.value ≡ mass n) × ((i ≡ n.at) × (InRange n → ⊥)))

abbrev pub WideScore : ℕ → Part ℕ → Type 0
WideScore i p = (x : Label ℕ) × ((p.label ≡ some x) × ((n : Number ℕ) × ((x.score ≡ some n) × ((i ≡ n.at) × (InRange n → ⊥)))))

-- "count 1 to 99"
abbrev pub WideCount : ℕ → Bracket ℕ → Type 0
WideCount i k = (k.counted ≡ some i) × ((k.count ≡ 0) ⊎ (count_limit < k.count))

abbrev pub Due7 : Line ℕ → ℕ → Type 0
Due7 l i = Some (λ (k : Bracket ℕ). WideCount i k ⊎ Some (λ (p : Part ℕ). WideMass i p ⊎ WideScore i p) k.parts) l.brackets

-- ---- 8
-- any case
abbrev pub Folds : String → List ℕ → Type 0
Folds w t = same_folded (bytes w) t ≡ true

-- "is CoMKP, CoMUP or their long names", whatever its label
abbrev pub Rule : Part ℕ → Type 0
Rule p =
    (p.key ≡ NoKey)
    × (((Folds "CoMKP" (text_of p) ⊎ Folds "CoMUP" (text_of p))
    ⊎ Folds "ColocaliseModificationsOfKnownPosition" (text_of p))
    ⊎ Folds "ColocaliseModificationsOfUnknownPosition" (text_of p))

-- "its label begins XL or is BRANCH"
abbrev pub Link : Part ℕ → Type 0
Link p = (l : Label ℕ) × ((p.label ≡ some l) × (Folds "XL" (take 2 l.name) ⊎ Folds "BRANCH" l.name))

-- "part begins `Formula:` .. `Position:` `Limit:`, or .."
abbrev pub Barred : Part ℕ → Type 0
Barred p = ((((p.key ≡ Formula) ⊎ (p.key ≡ Position)) ⊎ (p.key ≡ Limit)) ⊎ Rule p) ⊎ Link p

-- at "the part, or the `#` of a reference"
abbrev pub Due8 : Line ℕ → ℕ → Type 0
Due8 l i = SomePart (λ (p : Part ℕ). (i ≡ p.at) × Barred p) l

-- ---- 9 "prefix U or M and a name all digits", at "the part"
abbrev pub NumberName : Part ℕ → Type 0
NumberName p = (((p.key ≡ U) ⊎ (p.key ≡ M)) × (text_of p ≡ [] → ⊥)) × Each (λ b. is_digit b ≡ true) (text_of p)

abbrev pub Due9 : Line ℕ → ℕ → Type 0
Due9 l i = SomePart (λ (p : Part ℕ). (i ≡ p.at) × NumberName p) l

-- ---- 10 "only INFO in an unknown or labile bracket", at "the bracket"
abbrev pub Due10 : Line ℕ → ℕ → Type 0
Due10 l i = Some (λ (k : Bracket ℕ). (i ≡ k.at) × (((k.kind ≡ Unknown) ⊎ (k.kind ≡ Labile)) × Each (λ (p : Part ℕ). p.key ≡ Info) k.parts)) l.brackets

-- ---- 21 "only INFO in a declaration", "at its bracket"
abbrev pub Due21 : Line ℕ → ℕ → Type 0
Due21 l i = Some (λ (k : Bracket ℕ). (i ≡ k.at) × ((k.kind ≡ Declared) × Each (λ (p : Part ℕ). p.key ≡ Info) k.parts)) l.brackets

-- ---- 11, at "the bracket"
-- the part has the label x
abbrev pub Named : List ℕ → Part ℕ → Type 0
Named x p = (l : Label ℕ) × ((p.label ≡ some l) × (x ≡ l.name))

-- a bracket that is no reference defines the label of each of its parts; a reference refers to its own
abbrev pub Defines : List ℕ → Bracket ℕ → Type 0
Defines x k = (is_referring k ≡ false) × Some (Named x) k.parts

abbrev pub RefersTo : List ℕ → Bracket ℕ → Type 0
RefersTo x k = (is_referring k ≡ true) × Some (Named x) k.parts

-- "second label in a bracket"
abbrev pub Second : Bracket ℕ → Type 0
Second k = 1 < length (names_of k)

-- "label defined again"
abbrev pub Again : List (Bracket ℕ) → Bracket ℕ → Type 0
Again front k = (x : List ℕ) × (Defines x k × Some (Defines x) front)

-- "reference without definition"
abbrev pub Undefined : Line ℕ → Bracket ℕ → Type 0
Undefined l k = (x : List ℕ) × (RefersTo x k × (Some (Defines x) l.brackets → ⊥))

-- "count (`^1` too) on a labelled bracket": whatever is counted
abbrev pub CountedLabel : Bracket ℕ → Type 0
CountedLabel k = ((x : List ℕ) × Some (Named x) k.parts) × ((p : ℕ) × (k.counted ≡ some p))

-- "label defined in an unknown run and never referred to"
abbrev pub Unreferred : Line ℕ → Bracket ℕ → Type 0
Unreferred l k = (k.kind ≡ Unknown) × ((x : List ℕ) × (Defines x k × (Some (RefersTo x) l.brackets → ⊥)))

abbrev pub Due11 : Line ℕ → ℕ → Type 0
Due11 l i =
    SomeBehind (λ (front : List (Bracket ℕ)) (k : Bracket ℕ). (i ≡ k.at) × ((((Second k ⊎ Again front k) ⊎ Undefined l k) ⊎ CountedLabel k) ⊎ Unreferred l k)) []
    l.brackets

-- ---- 12 "more than 8 floating copies", at "the bracket that passes 8"
unfoldable pub copies_in : List (Bracket ℕ) → ℕ
copies_in [] = 0
copies_in (k ∷ ks) = copies k + copies_in ks

abbrev pub Due12 : Line ℕ → ℕ → Type 0
Due12 l i =
    SomeBehind (λ (front : List (Bracket ℕ)) (k : Bracket ℕ). (i ≡ k.at) × ((copies_in front ≤ copy_limit) × (copy_limit < copies_in front + copies k))) []
    l.brackets

-- ---- 19 "no cutting", "at the part"
abbrev pub Uncut : Part ℕ → Type 0
Uncut p = (p.key ≡ Glycan) × ((xs : List Item) → Cuts xs (text_of p) → ⊥)

abbrev pub Due19 : Line ℕ → ℕ → Type 0
Due19 l i = SomePart (λ (p : Part ℕ). (i ≡ p.at) × Uncut p) l

-- none of 5 to 12 is due, nor 19 or 21
pub record NoneDue (l : Line ℕ) : Type 0 where
  pub no_5 : (i : ℕ) → Due5 l i → ⊥
  pub no_6 : (i : ℕ) → Due6 l i → ⊥
  pub no_7 : (i : ℕ) → Due7 l i → ⊥
  pub no_8 : (i : ℕ) → Due8 l i → ⊥
  pub no_9 : (i : ℕ) → Due9 l i → ⊥
  pub no_10 : (i : ℕ) → Due10 l i → ⊥
  pub no_21 : (i : ℕ) → Due21 l i → ⊥
  pub no_11 : (i : ℕ) → Due11 l i → ⊥
  pub no_12 : (i : ℕ) → Due12 l i → ⊥
  pub no_19 : (i : ℕ) → Due19 l i → ⊥

pub record Laws : Type 1 where
  -- the places at which each number is due: 1 "line empty", at 0; 2 "line too long", at 4,096
  pub exactly_1 : (s : List ℕ) (i : ℕ) → In i (refusal1 s) ↔ ((i ≡ 0) × (s ≡ []))
  pub exactly_2 : (s : List ℕ) (i : ℕ) → In i (refusal2 s) ↔ ((i ≡ line_limit) × (line_limit < length s))
  pub exactly_3 : (s : List ℕ) (i : ℕ) → In i (refusal3 s) ↔ Due3 s i
  pub exactly_5 : (l : Line ℕ) (i : ℕ) → In i (refusal5 l) ↔ Due5 l i
  pub exactly_6 : (l : Line ℕ) (i : ℕ) → In i (refusal6 l) ↔ Due6 l i
  pub exactly_7 : (l : Line ℕ) (i : ℕ) → In i (refusal7 l) ↔ Due7 l i
  pub exactly_8 : (l : Line ℕ) (i : ℕ) → In i (refusal8 l) ↔ Due8 l i
  pub exactly_9 : (l : Line ℕ) (i : ℕ) → In i (refusal9 l) ↔ Due9 l i
  pub exactly_10 : (l : Line ℕ) (i : ℕ) → In i (refusal10 l) ↔ Due10 l i
  pub exactly_21 : (l : Line ℕ) (i : ℕ) → In i (refusal21 l) ↔ Due21 l i
  pub exactly_11 : (l : Line ℕ) (i : ℕ) → In i (refusal11 l) ↔ Due11 l i
  pub exactly_12 : (l : Line ℕ) (i : ℕ) → In i (refusal12 l) ↔ Due12 l i
  pub exactly_19 : (l : Line ℕ) (i : ℕ) → In i (refusal19 l) ↔ Due19 l i
  -- the place that is given is the first at which the refusal is due
  pub first_due_lem : (ps : List ℕ) (Due : ℕ → Type 0) → ((i : ℕ) → In i ps ↔ Due i) → (i : ℕ) → least ps ≡ some i ↔ FirstAt Due i
  -- nothing else is given so: of two lists of places with one law the first place is the same
  pub only_so : (Due : ℕ → Type 0) (ps qs : List ℕ) → ((i : ℕ) → In i ps ↔ Due i) → ((i : ℕ) → In i qs ↔ Due i) → least ps ≡ least qs
  pub none_due : (l : Line ℕ) → Clear (line_refusals l) ↔ NoneDue l
