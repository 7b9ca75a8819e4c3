-- "What a line may hold": the grammar of lines, apart from any reader. Trees with every freedom of spelling; the bytes that a tree prints; whether it
-- is good; and what it means. Each `means..` takes the place at which its text begins, and so gives every residue, bracket, part, label, number,
-- count and target of a declaration its place: the number of bytes that are printed before it.
use Rattle.std.specs.Prelude.{ℕ, ◌+◌, ◌*◌, Bool, true, false, not, cond, ◌&&◌, ◌||◌, List, [], ◌∷◌, ◌++◌, eqb, length}
use Rattle.std.proofs.Math.Option.{Option, none, some}
use Rattle.scope.specs.declared.grammar.Key.{Key}
use Rattle.scope.specs.declared.grammar.Key.TheVariants.{NoKey}
use Rattle.scope.specs.declared.grammar.Section.{Section}
use Rattle.scope.specs.declared.grammar.Section.TheVariants.{Plain, RangeFirst, RangeNext, UnsureFirst, UnsureNext}
use Rattle.scope.specs.declared.grammar.Kind.{Kind}
use Rattle.scope.specs.declared.grammar.Kind.TheVariants.{Unknown, Labile, NTerm, OnResidue, OnRange, CTerm, Declared}
use Rattle.scope.specs.Lists.{there?, none?, all, flat}
use Rattle.scope.specs.Bytes.{upper, value, is_letter, caret, question, is_printable, is_digit, is_alnum, is_sign, is_opening, is_shutting, shut_square, open_square, shut_curly, open_curly, bar, hash, colon, plus, dash, dot, open_round, shut_round, open_angle, shut_angle, at_sign, comma, same_folded}
use Rattle.scope.specs.Line.{Number, Label, Value, mass, text, reference, Place, Part, Bracket, Residue, Line}
use Rattle.scope.specs.Places.{is_terminus, site_text}
use Rattle.scope.specs.Keys.{spell, key_of, Form, mass_or_name, mass_only, digits, alnums, free, composed, form, accession_byte}

-- ---- lists of bytes
-- one or more, and each passes
abbrev pub some_of : (ℕ → Bool) → List ℕ → Bool
some_of f l = not (none? l) && all f l

-- ---- numbers: "digits, perhaps `.` and digits", leading zeros allowed
pub record Numeral : Type 0 where
  pub whole : List ℕ
  pub behind : Option (List ℕ)

abbrev pub print_behind : Option (List ℕ) → List ℕ
print_behind none = []
print_behind (some f) = dot ∷ f

abbrev pub print_numeral : Numeral → List ℕ
print_numeral n = n.whole ++ print_behind n.behind

abbrev pub good_behind : Option (List ℕ) → Bool
good_behind none = true
good_behind (some f) = some_of is_digit f

abbrev pub good_numeral : Numeral → Bool
good_numeral n = some_of is_digit n.whole && good_behind n.behind

-- the digits as one number, behind those that make m
unfoldable pub value_on : ℕ → List ℕ → ℕ
value_on m [] = m
value_on m (b ∷ l) = value_on (m * 10 + value b) l

abbrev pub fraction : Option (List ℕ) → List ℕ
fraction none = []
fraction (some f) = f

-- "A number keeps its value in millionths and its count of decimals. The sign of zero, leading zeros .. are not kept."
abbrev pub signed_by : {P : Type 0} → P → Bool → ℕ → ℕ → Number P
signed_by i minus m d = record { minus = minus && not (eqb m 0); digits = m; decimals = d; at = i }

-- a number at the place i, "sign included"
abbrev pub means_numeral : {P : Type 0} → P → Bool → Numeral → Number P
means_numeral i minus n = signed_by i minus (value_on 0 (n.whole ++ fraction n.behind)) (length (fraction n.behind))

abbrev pub sign_byte : Bool → ℕ
sign_byte minus = cond minus dash plus

-- ---- texts: "a text is plain bytes and closed pairs that hold texts; the pairs are `[]` and `{}`"; "a pair may be" empty
pub data Text : Type 0 where
  over : Text
  byte : ℕ → Text → Text
  square : Text → Text → Text
  curly : Text → Text → Text

unfoldable pub print_text : Text → List ℕ
print_text over = []
print_text (byte b t) = b ∷ print_text t
print_text (square u t) = open_square ∷ (print_text u ++ (shut_square ∷ print_text t))
print_text (curly u t) = open_curly ∷ (print_text u ++ (shut_curly ∷ print_text t))

-- a byte that opens or closes no pair
abbrev pub plain_byte : ℕ → Bool
plain_byte b = is_printable b && not (is_opening b) && not (is_shutting b)

-- "`|` and `#` inside a pair are plain. .. Elsewhere `#` starts a label, .. except in INFO and in the .. keys under refusal 8, where `#` is plain"
abbrev pub outer_byte : Bool → ℕ → Bool
outer_byte hashes b = plain_byte b && not (eqb b bar) && (hashes || not (eqb b hash))

-- the bytes outside every pair pass the test, those within one are plain
unfoldable pub good_text : (ℕ → Bool) → Text → Bool
good_text f over = true
good_text f (byte b t) = f b && good_text f t
good_text f (square u t) = good_text plain_byte u && good_text f t
good_text f (curly u t) = good_text plain_byte u && good_text f t

-- ---- keys: "The key words and prefixes are matched in either case"
pub record Word : Type 0 where
  pub key : Key
  pub spelled : List ℕ

abbrev pub good_word : Word → Bool
good_word w = same_folded (spell w.key) w.spelled

-- with its colon; nothing where there is no key
abbrev pub with_colon : List ℕ → List ℕ
with_colon [] = []
with_colon (b ∷ l) = (b ∷ l) ++ (colon ∷ [])

abbrev pub print_word : Word → List ℕ
print_word w = with_colon w.spelled

-- the key with whose colon a text begins, behind the bytes w
unfoldable pub lead_key : List ℕ → List ℕ → Option Key
lead_key w [] = none
lead_key w (b ∷ t) = cond (eqb b colon) (key_of w) (lead_key (w ++ (b ∷ [])) t)

-- "A part that starts as one kind is never tried as another: `+5 x` is no name": a name begins with no sign and, where it has no prefix, with no key
abbrev pub first_sign : List ℕ → Bool
first_sign [] = false
first_sign (b ∷ l) = is_sign b

abbrev pub keyless : List ℕ → List ℕ → Bool
keyless [] t = not (there? (lead_key [] t))
keyless (x ∷ w) t = true

-- ---- what a part says, its label apart
pub data Base : Type 0 where
  delta : Word → Bool → Numeral → Base  -- "sign, digits, perhaps `.` and digits: a delta mass"
  code : Word → List ℕ → Base  -- "`UNIMOD:` `MOD:` `XLMOD:` and digits; `RESID:` `GNO:` and letters or digits"
  wording : Word → Text → Base  -- "`INFO:` and a text; a key of refusal 8 and a text"; "`Glycan:` becomes a part" (02, L1); "a name: a text, perhaps after one of the six one-letter prefixes"

abbrev pub print_base : Base → List ℕ
print_base (delta w minus n) = print_word w ++ (sign_byte minus ∷ print_numeral n)
print_base (code w t) = print_word w ++ t
print_base (wording w t) = print_word w ++ print_text t

-- "It may follow `U:` `M:` `R:` `X:` `G:` `C:` `Obs:`. After `Obs:` nothing else may stand."
abbrev pub takes_mass : Form → Bool
takes_mass mass_or_name = true
takes_mass mass_only = true
takes_mass digits = false
takes_mass alnums = false
takes_mass free = false
takes_mass composed = false

abbrev pub good_wording : Form → List ℕ → Text → Bool
good_wording mass_or_name w t = good_text (outer_byte false) t && (not (first_sign (print_text t)) && keyless w (print_text t))
good_wording mass_only w t = false
good_wording digits w t = false
good_wording alnums w t = false
good_wording free w t = good_text (outer_byte true) t
good_wording composed w t = good_text (outer_byte false) t

-- "A part's whole text and a label are never empty"
abbrev pub good_base : Base → Bool
good_base (delta w minus n) = good_word w && (takes_mass (form w.key) && good_numeral n)
good_base (code w t) = good_word w && some_of (accession_byte (form w.key)) t
good_base (wording w t) = good_word w && (not (none? (print_text t)) && good_wording (form w.key) w.spelled t)

abbrev pub key_in : Base → Key
key_in (delta w minus n) = w.key
key_in (code w t) = w.key
key_in (wording w t) = w.key

-- a mass stands behind its key
abbrev pub value_in : ℕ → Base → Value ℕ
value_in i (delta w minus n) = mass (means_numeral (i + length (print_word w)) minus n)
value_in i (code w t) = text t
value_in i (wording w t) = text (print_text t)

-- ---- labels: "A label is letters and digits, then perhaps a score `(number)` with an optional sign."
pub record Score : Type 0 where
  pub sign : Option Bool
  pub number : Numeral

abbrev pub print_sign : Option Bool → List ℕ
print_sign none = []
print_sign (some minus) = sign_byte minus ∷ []

abbrev pub is_minus : Option Bool → Bool
is_minus none = false
is_minus (some minus) = minus

abbrev pub print_score : Option Score → List ℕ
print_score none = []
print_score (some s) = open_round ∷ (print_sign s.sign ++ (print_numeral s.number ++ (shut_round ∷ [])))

abbrev pub good_score : Option Score → Bool
good_score none = true
good_score (some s) = good_numeral s.number

-- the score whose `(` is at the place i
abbrev pub means_score : ℕ → Option Score → Option (Number ℕ)
means_score i none = none
means_score i (some s) = some (means_numeral (i + 1) (is_minus s.sign) s.number)

pub record Tag : Type 0 where
  pub name : List ℕ
  pub score : Option Score

abbrev pub print_tag : Option Tag → List ℕ
print_tag none = []
print_tag (some t) = hash ∷ (t.name ++ print_score t.score)

abbrev pub good_tag : Option Tag → Bool
good_tag none = true
good_tag (some t) = some_of is_alnum t.name && good_score t.score

-- the label whose `#` is at the place i; "first byte of the .. label text"
abbrev pub means_tag : ℕ → Option Tag → Option (Label ℕ)
means_tag i none = none
means_tag i (some t) = some (record { name = t.name; score = means_score (i + 1 + length t.name) t.score; at = i + 1 })

-- ---- parts
pub record Piece : Type 0 where
  pub base : Base
  pub tag : Option Tag

abbrev pub print_piece : Piece → List ℕ
print_piece p = print_base p.base ++ print_tag p.tag

-- where a part may have a label: where `#` is plain there is none; of a composition "a label may end the part" (02, L1)
abbrev pub form_in : Base → Form
form_in b = form (key_in b)

abbrev pub tag_fits : Form → Bool
tag_fits mass_or_name = true
tag_fits mass_only = true
tag_fits digits = true
tag_fits alnums = true
tag_fits free = false
tag_fits composed = true

-- by whether the parts of its bracket may have labels
abbrev pub good_piece : Bool → Piece → Bool
good_piece labels p = good_base p.base && (good_tag p.tag && (not (there? p.tag) || (labels && tag_fits (form_in p.base))))

abbrev pub means_piece : ℕ → Piece → Part ℕ
means_piece i p = record { key = key_in p.base; value = value_in i p.base; label = means_tag (i + length (print_base p.base)) p.tag; at = i }

-- ---- brackets: "A bracket is parts split by `|`, none empty, or a lone reference `#label`."
unfoldable pub print_pieces : Piece → List Piece → List ℕ
print_pieces p [] = print_piece p
print_pieces p (q ∷ ps) = print_piece p ++ (bar ∷ print_pieces q ps)

unfoldable pub good_pieces : Bool → Piece → List Piece → Bool
good_pieces labels p [] = good_piece labels p
good_pieces labels p (q ∷ ps) = good_piece labels p && good_pieces labels q ps

-- each part behind the `|` of the one before it
unfoldable pub means_pieces : ℕ → Piece → List Piece → List (Part ℕ)
means_pieces i p [] = means_piece i p ∷ []
means_pieces i p (q ∷ ps) = means_piece i p ∷ means_pieces (i + length (print_piece p) + 1) q ps

pub data Inside : Type 0 where
  parts : Piece → List Piece → Inside
  refers : Tag → Inside

abbrev pub print_inside : Inside → List ℕ
print_inside (parts p ps) = print_pieces p ps
print_inside (refers t) = print_tag (some t)

-- by whether a reference may stand in the bracket, and whether its parts may have labels
abbrev pub good_inside : Bool → Bool → Inside → Bool
good_inside references labels (parts p ps) = good_pieces labels p ps
good_inside references labels (refers t) = references && good_tag (some t)

-- a reference is its bracket's only part, with a label and nothing else, at the place of its `#`
abbrev pub means_reference : ℕ → Tag → Part ℕ
means_reference i t = record { key = NoKey; value = reference; label = means_tag i (some t); at = i }

abbrev pub means_inside : ℕ → Inside → List (Part ℕ)
means_inside i (parts p ps) = means_pieces i p ps
means_inside i (refers t) = means_reference i t ∷ []

-- ---- brackets in a line
abbrev pub print_square : Inside → List ℕ
print_square x = open_square ∷ (print_inside x ++ (shut_square ∷ []))

abbrev pub print_curly : Inside → List ℕ
print_curly x = open_curly ∷ (print_inside x ++ (shut_curly ∷ []))

-- what all elements mean, in order, the first at the place i and each behind the text of the one before it
unfoldable pub along : {A B : Type 0} → (A → List ℕ) → (ℕ → A → B) → ℕ → List A → List B
along prints f i [] = []
along prints f i (x ∷ l) = f i x ∷ along prints f (i + length (prints x)) l

-- the same where each means several things
unfoldable pub each_along : {A B : Type 0} → (A → List ℕ) → (ℕ → A → List B) → ℕ → List A → List B
each_along prints f i [] = []
each_along prints f i (x ∷ l) = f i x ++ each_along prints f (i + length (prints x)) l

abbrev pub print_squares : List Inside → List ℕ
print_squares xs = flat print_square xs

-- "A reference may not stand in an unknown run, in `{}` or on a range."
abbrev pub good_squares : Bool → List Inside → Bool
good_squares references xs = all (good_inside references true) xs

-- "`{}` holds no label."
abbrev pub good_curlies : List Inside → Bool
good_curlies xs = all (good_inside false false) xs

-- a bracket on the positions first to last; its `[` or `{` is at the place i
abbrev pub bracket_at : Kind → ℕ → ℕ → ℕ → Inside → Bracket ℕ
bracket_at k first last i x = record { kind = k; first = first; last = last; count = 1; counted = none; parts = means_inside (i + 1) x; places = []; at = i }

abbrev pub means_squares : Kind → ℕ → ℕ → ℕ → List Inside → List (Bracket ℕ)
means_squares k first last i xs = along print_square (bracket_at k first last) i xs

-- ---- "`<[mod]@K,N-term>` at the front, .. a place being a letter, `N-term` or `C-term`" (02, L2): a letter in either case; a terminus, and its word in
-- either case
pub data Target : Type 0 where
  a_letter : ℕ → Target
  a_terminus : ℕ → List ℕ → Target

abbrev pub print_target : Target → List ℕ
print_target (a_letter b) = b ∷ []
print_target (a_terminus s w) = w

abbrev pub good_target : Target → Bool
good_target (a_letter b) = is_letter b
good_target (a_terminus s w) = is_terminus s && same_folded (site_text s) w

abbrev pub site_of : Target → ℕ
site_of (a_letter b) = upper b
site_of (a_terminus s w) = s

abbrev pub means_target : ℕ → Target → Place ℕ
means_target i x = record { site = site_of x; at = i }

-- one or more, split by commas
unfoldable pub print_targets : Target → List Target → List ℕ
print_targets x [] = print_target x
print_targets x (y ∷ xs) = print_target x ++ (comma ∷ print_targets y xs)

unfoldable pub means_targets : ℕ → Target → List Target → List (Place ℕ)
means_targets i x [] = means_target i x ∷ []
means_targets i x (y ∷ xs) = means_target i x ∷ means_targets (i + length (print_target x) + 1) y xs

pub record Declaration : Type 0 where
  pub inside : Inside
  pub first : Target
  pub more : List Target

abbrev pub print_declaration : Declaration → List ℕ
print_declaration d = open_angle ∷ (print_square d.inside ++ (at_sign ∷ (print_targets d.first d.more ++ (shut_angle ∷ []))))

-- "Their brackets carry no label"
abbrev pub good_declaration : Declaration → Bool
good_declaration d = good_inside false false d.inside && all good_target (d.first ∷ d.more)

-- its `<` is at the place i, its bracket behind that, its places behind `@`
abbrev pub means_declaration : ℕ → Declaration → Bracket ℕ
means_declaration i d =
    record {
      kind = Declared;
      first = 0;
      last = 0;
      count = 1;
      counted = none;
      parts = means_inside (i + 1 + 1) d.inside;
      places = means_targets (i + 1 + length (print_square d.inside) + 1) d.first d.more;
      at = i + 1;
    }

-- ---- "runs of unknown-position brackets, each run closed by `?`, each bracket perhaps with `^` and a count"
pub record Marked : Type 0 where
  pub inside : Inside
  pub count : Option (List ℕ)

abbrev pub print_count : Option (List ℕ) → List ℕ
print_count none = []
print_count (some ds) = caret ∷ ds

abbrev pub good_count : Option (List ℕ) → Bool
good_count none = true
good_count (some ds) = some_of is_digit ds

abbrev pub print_marked : Marked → List ℕ
print_marked m = print_square m.inside ++ print_count m.count

abbrev pub good_marked : Marked → Bool
good_marked m = good_inside false true m.inside && good_count m.count

-- a count that is written is noted, "`^1` too", with the place of its first digit; i is that of `^`. The tables do not keep whether it was written.
abbrev pub counting : ℕ → Option (List ℕ) → Bracket ℕ → Bracket ℕ
counting i none k = k
counting i (some ds) k =
    record { kind = k.kind; first = k.first; last = k.last; count = value_on 0 ds; counted = some (i + 1); parts = k.parts; places = k.places; at = k.at }

abbrev pub means_marked : ℕ → Marked → Bracket ℕ
means_marked i m = counting (i + length (print_square m.inside)) m.count (bracket_at Unknown 0 0 i m.inside)

pub record Run : Type 0 where
  pub first : Marked
  pub more : List Marked

abbrev pub marks : Run → List Marked
marks r = r.first ∷ r.more

abbrev pub print_run : Run → List ℕ
print_run r = flat print_marked (marks r) ++ (question ∷ [])

abbrev pub good_run : Run → Bool
good_run r = all good_marked (marks r)

abbrev pub means_run : ℕ → Run → List (Bracket ℕ)
means_run i r = along print_marked means_marked i (marks r)

-- ---- "The sequence is one or more of: a residue with its brackets; `(` residues with their brackets `)` followed by at least one bracket (a range);
-- `(?` residues with their brackets `)`. Ranges don't nest."
pub record Spot : Type 0 where
  pub letter : ℕ
  pub brackets : List Inside

pub data Element : Type 0 where
  single : Spot → Element
  range : Spot → List Spot → Inside → List Inside → Element
  unsure : Spot → List Spot → Element

abbrev pub print_spot : Spot → List ℕ
print_spot s = s.letter ∷ print_squares s.brackets

abbrev pub print_element : Element → List ℕ
print_element (single s) = print_spot s
print_element (range s ss x xs) = open_round ∷ (flat print_spot (s ∷ ss) ++ (shut_round ∷ print_squares (x ∷ xs)))
print_element (unsure s ss) = open_round ∷ (question ∷ (flat print_spot (s ∷ ss) ++ (shut_round ∷ [])))

-- "one-letter residues (all 26 letters ..)", in either case
abbrev pub good_spot : Spot → Bool
good_spot s = is_letter s.letter && good_squares true s.brackets

abbrev pub good_element : Element → Bool
good_element (single s) = good_spot s
good_element (range s ss x xs) = all good_spot (s ∷ ss) && good_squares false (x ∷ xs)
good_element (unsure s ss) = all good_spot (s ∷ ss)

-- "residues in upper case with their section"
abbrev pub residue_of : Section → ℕ → Spot → Residue ℕ
residue_of c i s = record { letter = upper s.letter; section = c; at = i }

-- the residues of a group, the first of which is at the place i
abbrev pub residues_on : Section → Section → ℕ → Spot → List Spot → List (Residue ℕ)
residues_on first next i s ss = residue_of first i s ∷ along print_spot (residue_of next) (i + length (print_spot s)) ss

-- a group stands behind `(` or `(?`
abbrev pub residues_in : ℕ → Element → List (Residue ℕ)
residues_in i (single s) = residue_of Plain i s ∷ []
residues_in i (range s ss x xs) = residues_on RangeFirst RangeNext (i + 1) s ss
residues_in i (unsure s ss) = residues_on UnsureFirst UnsureNext (i + 1 + 1) s ss

-- the brackets on residues, the first of which stands at the position n and at the place i
unfoldable pub brackets_on : ℕ → ℕ → List Spot → List (Bracket ℕ)
brackets_on n i [] = []
brackets_on n i (s ∷ ss) = means_squares OnResidue n n (i + 1) s.brackets ++ brackets_on (n + 1) (i + length (print_spot s)) ss

-- the brackets of an element behind n residues, at the place i; those of a range stand behind its `)`
abbrev pub brackets_in : ℕ → ℕ → Element → List (Bracket ℕ)
brackets_in n i (single s) = brackets_on (n + 1) i (s ∷ [])
brackets_in n i (range s ss x xs) =
    brackets_on (n + 1) (i + 1) (s ∷ ss)
    ++ means_squares OnRange (n + 1) (n + 1 + length ss) (i + 1 + length (flat print_spot (s ∷ ss)) + 1) (x ∷ xs)
brackets_in n i (unsure s ss) = brackets_on (n + 1) (i + 1 + 1) (s ∷ ss)

unfoldable pub brackets_along : ℕ → ℕ → List Element → List (Bracket ℕ)
brackets_along n i [] = []
brackets_along n i (e ∷ es) = brackets_in n i e ++ brackets_along (n + length (residues_in i e)) (i + length (print_element e)) es

-- ---- declarations at the front; then "A line has this order: runs of unknown-position brackets ..; labile `{..}`; N-terminal brackets and `-`; the sequence; `-` and C-terminal
-- brackets. All but the sequence may be missing."
pub record Spelling : Type 0 where
  pub declarations : List Declaration
  pub runs : List Run
  pub labiles : List Inside
  pub front : List Inside
  pub first : Element
  pub more : List Element
  pub back : List Inside

abbrev pub elements : Spelling → List Element
elements t = t.first ∷ t.more

abbrev pub print_front : List Inside → List ℕ
print_front [] = []
print_front (x ∷ xs) = print_squares (x ∷ xs) ++ (dash ∷ [])

abbrev pub print_back : List Inside → List ℕ
print_back [] = []
print_back (x ∷ xs) = dash ∷ print_squares (x ∷ xs)

abbrev pub print : Spelling → List ℕ
print t =
    flat print_declaration t.declarations
    ++ (flat print_run t.runs ++ (flat print_curly t.labiles ++ (print_front t.front ++ (flat print_element (elements t) ++ print_back t.back))))

abbrev pub good : Spelling → Bool
good t =
    all good_declaration t.declarations
    && (all good_run t.runs && (good_curlies t.labiles && (good_squares true t.front && (all good_element (elements t) && good_squares true t.back))))

-- of a line that begins at the place i: where its runs, its labile brackets, its N-terminal ones, its sequence, and what stands behind it begin
abbrev pub at_runs : ℕ → Spelling → ℕ
at_runs i t = i + length (flat print_declaration t.declarations)

abbrev pub at_labiles : ℕ → Spelling → ℕ
at_labiles i t = at_runs i t + length (flat print_run t.runs)

abbrev pub at_front : ℕ → Spelling → ℕ
at_front i t = at_labiles i t + length (flat print_curly t.labiles)

abbrev pub at_sequence : ℕ → Spelling → ℕ
at_sequence i t = at_front i t + length (print_front t.front)

abbrev pub at_back : ℕ → Spelling → ℕ
at_back i t = at_sequence i t + length (flat print_element (elements t))

abbrev pub residues_of : ℕ → Spelling → List (Residue ℕ)
residues_of i t = each_along print_element residues_in (at_sequence i t) (elements t)

-- the C-terminal brackets stand behind their `-`, at the position behind the last residue
abbrev pub back_of : ℕ → Spelling → List (Bracket ℕ)
back_of i t = means_squares CTerm (length (residues_of i t) + 1) (length (residues_of i t) + 1) (at_back i t + 1) t.back

abbrev pub means_at : ℕ → Spelling → Line ℕ
means_at i t =
    record {
      residues = residues_of i t;
      brackets =
          along print_declaration means_declaration i t.declarations
          ++ (each_along print_run means_run (at_runs i t) t.runs
          ++ (along print_curly (bracket_at Labile 0 0) (at_labiles i t) t.labiles
          ++ (means_squares NTerm 0 0 (at_front i t) t.front
          ++ (brackets_along 0 (at_sequence i t) (elements t) ++ back_of i t))));
    }

-- what a line means by itself
abbrev pub means : Spelling → Line ℕ
means t = means_at 0 t
