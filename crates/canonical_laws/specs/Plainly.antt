-- The plain spelling of what a spelling says: no leading zeros, no sign of zero, no `^1`, one run, keys, residues, places and compositions in the spelling of the tables.
-- It prints the canonical line.
use Rattle.std.specs.Prelude.{ℕ, Bool, true, not, cond, ◌&&◌, List, [], ◌∷◌, ◌++◌, map, eqb}
use Rattle.std.proofs.Math.Option.{Option, none, some}
use Rattle.scope.specs.declared.grammar.Key.{Key}
use Rattle.scope.specs.declared.grammar.Key.TheVariants.{Glycan}
use Rattle.scope.specs.Bytes.{upper}
use Rattle.scope.specs.Canonical.{decimal}
use Rattle.scope.specs.Glycans.{Item, cuttings, short_text}
use Rattle.scope.specs.Grammar.{Numeral, fraction, value_on, Text, over, byte, print_text, Word, Base, delta, code, wording, Score, is_minus, Tag, Piece, Inside, parts, refers, Target, a_letter, a_terminus, Declaration, Marked, Run, marks, Spot, Element, single, range, unsure, Spelling}
use Rattle.scope.specs.Keys.{spell, key_code}
use Rattle.scope.specs.Lists.{flat}
use Rattle.scope.specs.Places.{site_text}

-- ---- numbers
abbrev pub digits_of : Numeral → ℕ
digits_of n = value_on 0 (n.whole ++ fraction n.behind)

-- "decimals as many as written"
abbrev pub plain_numeral : Numeral → Numeral
plain_numeral n = record { whole = decimal (value_on 0 n.whole); behind = n.behind }

-- "The sign of zero .. not kept"
abbrev pub plain_minus : Bool → Numeral → Bool
plain_minus minus n = minus && not (eqb (digits_of n) 0)

-- ---- parts
abbrev pub plain_word : Word → Word
plain_word w = record { key = w.key; spelled = spell w.key }

-- "The list's spelling is written, a count of 1 dropped", where the text is cut
abbrev pub as_text : List ℕ → Text
as_text [] = over
as_text (b ∷ l) = byte b (as_text l)

abbrev pub short_as : Text → List (List Item) → Text
short_as t [] = t
short_as t (xs ∷ more) = as_text (short_text xs)

abbrev pub plain_text : Key → Text → Text
plain_text k t = cond (eqb (key_code k) (key_code Glycan)) (short_as t (cuttings (print_text t))) t

abbrev pub plain_base : Base → Base
plain_base (delta w minus n) = delta (plain_word w) (plain_minus minus n) (plain_numeral n)
plain_base (code w t) = code (plain_word w) t
plain_base (wording w t) = wording (plain_word w) (plain_text w.key t)

-- "scores signed only when negative"
abbrev pub plain_score : Option Score → Option Score
plain_score none = none
plain_score (some s) = some (record { sign = cond (plain_minus (is_minus s.sign) s.number) (some true) none; number = plain_numeral s.number })

abbrev pub plain_tag : Tag → Tag
plain_tag t = record { name = t.name; score = plain_score t.score }

abbrev pub plain_label : Option Tag → Option Tag
plain_label none = none
plain_label (some t) = some (plain_tag t)

abbrev pub plain_piece : Piece → Piece
plain_piece p = record { base = plain_base p.base; tag = plain_label p.tag }

abbrev pub plain_inside : Inside → Inside
plain_inside (parts p ps) = parts (plain_piece p) (map plain_piece ps)
plain_inside (refers t) = refers (plain_tag t)

-- ---- brackets in a line
abbrev pub plain_insides : List Inside → List Inside
plain_insides xs = map plain_inside xs

-- places, written `K`, `N-term`, `C-term`
abbrev pub plain_target : Target → Target
plain_target (a_letter b) = a_letter (upper b)
plain_target (a_terminus s w) = a_terminus s (site_text s)

abbrev pub plain_declaration : Declaration → Declaration
plain_declaration d = record { inside = plain_inside d.inside; first = plain_target d.first; more = map plain_target d.more }

-- "`^1` .. not kept"
abbrev pub plain_count : Option (List ℕ) → Option (List ℕ)
plain_count none = none
plain_count (some ds) = cond (eqb (value_on 0 ds) 1) none (some (decimal (value_on 0 ds)))

abbrev pub plain_marked : Marked → Marked
plain_marked m = record { inside = plain_inside m.inside; count = plain_count m.count }

-- "the splitting of unknown runs" is not kept
abbrev pub one_run : List Marked → List Run
one_run [] = []
one_run (m ∷ ms) = record { first = m; more = ms } ∷ []

abbrev pub plain_runs : List Run → List Run
plain_runs rs = one_run (map plain_marked (flat marks rs))

-- ---- the sequence
abbrev pub plain_spot : Spot → Spot
plain_spot s = record { letter = upper s.letter; brackets = plain_insides s.brackets }

abbrev pub plain_element : Element → Element
plain_element (single s) = single (plain_spot s)
plain_element (range s ss x xs) = range (plain_spot s) (map plain_spot ss) (plain_inside x) (plain_insides xs)
plain_element (unsure s ss) = unsure (plain_spot s) (map plain_spot ss)

-- ---- the line
abbrev pub plainly : Spelling → Spelling
plainly t =
    record {
      declarations = map plain_declaration t.declarations;
      runs = plain_runs t.runs;
      labiles = plain_insides t.labiles;
      front = plain_insides t.front;
      first = plain_element t.first;
      more = map plain_element t.more;
      back = plain_insides t.back;
    }
