-- What is kept of a line that is accepted. "The list's spelling is written, a count of 1 dropped": so a composition is kept, with its mass.
use Rattle.std.specs.Prelude.{ℕ, false, cond, List, [], ◌∷◌, map}
use Rattle.scope.specs.declared.grammar.Key.TheVariants.{Glycan}
use Rattle.scope.specs.Line.{Number, Value, mass, text, reference, composition, Part, Bracket, Line}
use Rattle.scope.specs.Modifications.{is_key}
use Rattle.scope.specs.Glycans.{Item, mass_decimals, cuttings, short_text, cutting_mass}

-- "Masses are that list's, to four decimals"; its place is that of its part
abbrev pub composition_mass : {P : Type 0} → P → List Item → Number P
composition_mass at xs = record { minus = false; digits = cutting_mass xs; decimals = mass_decimals; at = at }

-- by the ways to cut the text, of which there is never more than one (crates/glycan_laws, `one_way`); a text that cannot be cut stays
abbrev pub cut_as : {P : Type 0} → P → List ℕ → List (List Item) → Value P
cut_as at t [] = text t
cut_as at t (xs ∷ more) = composition (short_text xs) (composition_mass at xs)

-- the reader makes texts; a composition is kept by its text again
abbrev pub cut_value : {P : Type 0} → P → Value P → Value P
cut_value at (mass n) = mass n
cut_value at (text t) = cut_as at t (cuttings t)
cut_value at reference = reference
cut_value at (composition t n) = cut_as at t (cuttings t)

abbrev pub kept_part : {P : Type 0} → Part P → Part P
kept_part p =
    record { key = p.key; value = cond (is_key Glycan p) (cut_value p.at p.value) p.value; label = p.label; at = p.at }

abbrev pub kept_bracket : {P : Type 0} → Bracket P → Bracket P
kept_bracket k =
    record {
      kind = k.kind;
      first = k.first;
      last = k.last;
      count = k.count;
      counted = k.counted;
      parts = map kept_part k.parts;
      places = k.places;
      at = k.at;
    }

unfoldable pub kept : {P : Type 0} → Line P → Line P
kept l = record { residues = l.residues; brackets = map kept_bracket l.brackets }
