-- Refusals 1 to 12, 19 and 21: for each number the places at which it is due, and which is given.
use Rattle.std.specs.Prelude.{ℕ, ◌+◌, ◌-◌, ◌*◌, ◌^◌, min, Bool, true, false, not, cond, ◌&&◌, ◌||◌, List, [], ◌∷◌, ◌++◌, map, eqb, leb, ltb, length, drop, take}
use Rattle.std.proofs.Math.Option.{Option, none, some}
use Rattle.scope.specs.declared.grammar.Key.TheVariants.{NoKey, U, M, Formula, Glycan, Position, Limit}
use Rattle.scope.specs.Kinds.{is_unknown, unknown_or_labile, is_declared}
use Rattle.scope.specs.Bytes.{bytes, is_printable, is_digit, is_opening, is_shutting, same_folded}
use Rattle.scope.specs.Limits.{line_limit, residue_limit, bracket_limit, part_limit, text_limit, label_limit, depth_limit, size_limit, decimal_limit, count_limit, copy_limit, declaration_limit, place_limit}
use Rattle.scope.specs.Line.{Number, Value, mass, text, reference, composition, Part, Bracket, Line}
use Rattle.scope.specs.Keys.{written}
use Rattle.scope.specs.Lists.{given, none?, all, keep, flat, among, shared}
use Rattle.scope.specs.Reading.{Reading, stuck, holds, reading}
use Rattle.scope.specs.Modifications.{is_key, only_info, names_of, is_labelled, copies, defined_by, referred_by, defined, referred_to}
use Rattle.scope.specs.Glycans.{cuttings}
use Rattle.scope.specs.Kept.{kept}

-- the place i, where the test holds
abbrev pub due_at : Bool → ℕ → List ℕ
due_at true i = i ∷ []
due_at false i = []

-- ---- 1 "line empty", at 0
unfoldable pub refusal1 : List ℕ → List ℕ
refusal1 s = due_at (none? s) 0

-- ---- 2 "line too long", at 4,096
unfoldable pub refusal2 : List ℕ → List ℕ
refusal2 s = due_at (ltb line_limit (length s)) line_limit

-- ---- 3 "a byte outside 32 to 126", at "that byte"
unfoldable pub unprintable : ℕ → List ℕ → List ℕ
unprintable i [] = []
unprintable i (b ∷ s) = due_at (not (is_printable b)) i ++ unprintable (i + 1) s

unfoldable pub refusal3 : List ℕ → List ℕ
refusal3 s = unprintable 0 s

-- ---- 4 "not of the order above, limits apart"
abbrev pub refusal4 : Reading → List ℕ
refusal4 (stuck i) = i ∷ []
refusal4 (holds l) = []

-- ---- 5 "pairs too deep", at "the opening byte"
-- how many pairs are open behind a byte
abbrev pub depth_after : ℕ → ℕ → ℕ
depth_after d b = cond (is_opening b) (d + 1) (cond (is_shutting b) (d - 1) d)

-- from a place of a text on, with d pairs open
unfoldable pub too_deep : ℕ → ℕ → List ℕ → List ℕ
too_deep d i [] = []
too_deep d i (b ∷ t) = due_at (is_opening b && leb depth_limit d) i ++ too_deep (depth_after d b) (i + 1) t

abbrev pub text_in : {P : Type 0} → Value P → List ℕ
text_in (mass n) = []
text_in (text t) = t
text_in reference = []
text_in (composition t n) = t

-- a part's text, behind its key
abbrev pub text_of : {P : Type 0} → Part P → List ℕ
text_of p = text_in p.value

abbrev pub deep_part : Part ℕ → List ℕ
deep_part p = too_deep 0 (p.at + length (written p.key)) (text_of p)

unfoldable pub refusal5 : Line ℕ → List ℕ
refusal5 l = flat (λ k. flat deep_part k.parts) l.brackets

-- ---- 6 "residues, brackets, parts, text or label over the limit", at "first byte of the residue, bracket, part or label text"
abbrev pub long_text : Part ℕ → List ℕ
long_text p = due_at (ltb text_limit (length (text_of p))) p.at

abbrev pub long_label : Part ℕ → List ℕ
long_label p = given p.label (λ l. due_at (ltb label_limit (length l.name)) l.at) []

-- "a seventeenth place is 6, there" (02, L2)
abbrev pub many_places : Bracket ℕ → List ℕ
many_places k = drop place_limit (map (λ p. p.at) k.places)

abbrev pub over_in : Bracket ℕ → List ℕ
over_in k = drop part_limit (map (λ p. p.at) k.parts) ++ (flat (λ p. long_text p ++ long_label p) k.parts ++ many_places k)

abbrev pub declarations : {P : Type 0} → List (Bracket P) → List (Bracket P)
declarations ks = keep (λ k. is_declared k.kind) ks

-- "a ninth declaration .. is 6, there" (02, L2): at its `<`, which its bracket stands behind
abbrev pub many_declarations : List (Bracket ℕ) → List ℕ
many_declarations ks = drop declaration_limit (map (λ k. k.at - 1) (declarations ks))

unfoldable pub refusal6 : Line ℕ → List ℕ
refusal6 l =
    drop residue_limit (map (λ r. r.at) l.residues)
    ++ (drop bracket_limit (map (λ k. k.at) l.brackets)
    ++ (many_declarations l.brackets
    ++ flat over_in l.brackets))

-- ---- 7 "mass, score or count out of range", at "its first byte, sign included"
-- "below 1,000,000 in size with at most 6 decimals"
abbrev pub in_range : {P : Type 0} → Number P → Bool
in_range n = leb n.decimals decimal_limit && ltb n.digits (size_limit * 10 ^ n.decimals)

abbrev pub wide : Number ℕ → List ℕ
wide n = due_at (not (in_range n)) n.at

abbrev pub wide_mass : Value ℕ → List ℕ
wide_mass (mass n) = wide n
wide_mass (text t) = []
wide_mass reference = []
wide_mass (composition t n) = []

abbrev pub wide_score : Part ℕ → List ℕ
wide_score p = given p.label (λ l. given l.score wide []) []

-- "count 1 to 99"
abbrev pub wide_count : Bracket ℕ → List ℕ
wide_count k = given k.counted (due_at (eqb k.count 0 || ltb count_limit k.count)) []

unfoldable pub refusal7 : Line ℕ → List ℕ
refusal7 l = flat (λ k. wide_count k ++ flat (λ p. wide_mass p.value ++ wide_score p) k.parts) l.brackets

-- ---- 8 "part begins `Formula:` .. `Position:` `Limit:`, or is CoMKP, CoMUP or their long names, or its label begins XL or is BRANCH;
-- any case", at "the part, or the `#` of a reference"; "`Glycan:` becomes a part" (02, L1)
unfoldable pub is_rule_name : List ℕ → Bool
is_rule_name t =
    same_folded (bytes "CoMKP") t
    || same_folded (bytes "CoMUP") t
    || same_folded (bytes "ColocaliseModificationsOfKnownPosition") t
    || same_folded (bytes "ColocaliseModificationsOfUnknownPosition") t

abbrev pub is_rule : {P : Type 0} → Part P → Bool
is_rule p = is_key NoKey p && is_rule_name (text_of p)

abbrev pub is_link : List ℕ → Bool
is_link name = same_folded (bytes "XL") (take 2 name) || same_folded (bytes "BRANCH") name

abbrev pub not_here : {P : Type 0} → Part P → Bool
not_here p =
    is_key Formula p || is_key Position p || is_key Limit p || is_rule p || given p.label (λ l. is_link l.name) false

unfoldable pub refusal8 : Line ℕ → List ℕ
refusal8 l = flat (λ k. flat (λ p. due_at (not_here p) p.at) k.parts) l.brackets

-- ---- 9 "prefix U or M and a name all digits (6.2.2)", at "the part"
abbrev pub is_number_name : {P : Type 0} → Part P → Bool
is_number_name p = (is_key U p || is_key M p) && not (none? (text_of p)) && all is_digit (text_of p)

unfoldable pub refusal9 : Line ℕ → List ℕ
refusal9 l = flat (λ k. flat (λ p. due_at (is_number_name p) p.at) k.parts) l.brackets

-- ---- 10 "only INFO in an unknown or labile bracket", at "the bracket"
unfoldable pub refusal10 : Line ℕ → List ℕ
refusal10 l = flat (λ k. due_at (unknown_or_labile k.kind && only_info k) k.at) l.brackets

-- ---- 21 "only INFO in a declaration, after 10, at its bracket" (02, L2)
unfoldable pub refusal21 : Line ℕ → List ℕ
refusal21 l = flat (λ k. due_at (is_declared k.kind && only_info k) k.at) l.brackets

-- ---- 11, at "the bracket"
-- "second label in a bracket"
abbrev pub second_label : {P : Type 0} → Bracket P → Bool
second_label k = ltb 1 (length (names_of k))

-- "label defined again": by a bracket before this one
abbrev pub defined_again : {P : Type 0} → List (List ℕ) → Bracket P → Bool
defined_again before k = shared (defined_by k) before

-- "reference without definition"
abbrev pub undefined : {P : Type 0} → List (List ℕ) → Bracket P → Bool
undefined definitions k = not (all (λ x. among x definitions) (referred_by k))

-- "count (`^1` too) on a labelled bracket"
abbrev pub counted_label : {P : Type 0} → Bracket P → Bool
counted_label k = is_labelled k && given k.counted (λ p. true) false

-- "label defined in an unknown run and never referred to"
abbrev pub unreferred : {P : Type 0} → List (List ℕ) → Bracket P → Bool
unreferred references k = is_unknown k.kind && not (all (λ x. among x references) (defined_by k))

abbrev pub wrong_labels : {P : Type 0} → List (List ℕ) → List (List ℕ) → List (List ℕ) → Bracket P → Bool
wrong_labels before definitions references k =
    second_label k || defined_again before k || undefined definitions k || counted_label k || unreferred references k

unfoldable pub wrongly_labelled : List (List ℕ) → List (List ℕ) → List (List ℕ) → List (Bracket ℕ) → List ℕ
wrongly_labelled before definitions references [] = []
wrongly_labelled before definitions references (k ∷ ks) =
    due_at (wrong_labels before definitions references k) k.at
    ++ wrongly_labelled (before ++ defined_by k) definitions references ks

unfoldable pub refusal11 : Line ℕ → List ℕ
refusal11 l = wrongly_labelled [] (defined l.brackets) (referred_to l.brackets) l.brackets

-- ---- 12 "more than 8 floating copies", at "the bracket that passes 8"
-- from a bracket on, with so many copies before it
unfoldable pub passing : ℕ → List (Bracket ℕ) → List ℕ
passing before [] = []
passing before (k ∷ ks) = due_at (leb before copy_limit && ltb copy_limit (before + copies k)) k.at ++ passing (before + copies k) ks

unfoldable pub refusal12 : Line ℕ → List ℕ
refusal12 l = passing 0 l.brackets

-- ---- 19 "no cutting", "at the part" (02, L1). There is never more than one, also with counts of 1 dropped (crates/glycan_laws): 20 is dropped
abbrev pub is_uncut : {P : Type 0} → Part P → Bool
is_uncut p = is_key Glycan p && none? (cuttings (text_of p))

unfoldable pub refusal19 : Line ℕ → List ℕ
refusal19 l = flat (λ k. flat (λ p. due_at (is_uncut p) p.at) k.parts) l.brackets

-- ---- "the lowest number wins, at its first place in the line": the refusals in the order of trying, each with the places at which it is due
pub record Due : Type 0 where
  pub number : ℕ
  pub places : List ℕ

abbrev pub due : ℕ → List ℕ → Due
due k ps = record { number = k; places = ps }

unfoldable pub least : List ℕ → Option ℕ
least [] = none
least (i ∷ l) = some (given (least l) (min i) i)

-- what a line is refused for, or what is kept of it
pub data Outcome : Type 0 where
  accepted : Line ℕ → Outcome
  refused : ℕ → ℕ → Outcome

unfoldable pub first_due : List Due → Outcome → Outcome
first_due [] o = o
first_due (d ∷ ds) o = given (least d.places) (refused d.number) (first_due ds o)

abbrev pub line_refusals : Line ℕ → List Due
line_refusals l =
    due 5 (refusal5 l) ∷ due 6 (refusal6 l) ∷ due 7 (refusal7 l) ∷ due 8 (refusal8 l) ∷ due 9 (refusal9 l)
    ∷ due 10 (refusal10 l) ∷ due 21 (refusal21 l) ∷ due 11 (refusal11 l) ∷ due 12 (refusal12 l) ∷ due 19 (refusal19 l) ∷ []

abbrev pub judged : Reading → Outcome
judged (stuck i) = refused 4 i
judged (holds l) = first_due (line_refusals l) (accepted (kept l))

abbrev pub byte_refusals : List ℕ → List Due
byte_refusals s = due 1 (refusal1 s) ∷ due 2 (refusal2 s) ∷ due 3 (refusal3 s) ∷ []

-- "Reading tries .. 1 to 12 in that order; the lowest number wins, at its first place in the line"; 21 "after 10" (02, L2), 19 "after 12" (02, L1)
unfoldable pub outcome : List ℕ → Outcome
outcome s = first_due (byte_refusals s) (judged (reading s))
