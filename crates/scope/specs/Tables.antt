-- What the tables hold. How they lie in the lent areas: Layout.
use Rattle.std.specs.Prelude.{ℕ, ◌-◌, ◌*◌, ◌^◌, Bool, true, false, List, [], ◌∷◌, map, ℤ, pos, neg_ℤ}
use Rattle.std.proofs.Math.Option.{Option, none, some}
use Rattle.scope.specs.Lists.{given, optional}
use Rattle.scope.specs.Limits.{decimal_limit}
use Rattle.scope.specs.Line.{Number, Label, Value, mass, text, reference, composition, Place, Part, Bracket, Residue, Line}

-- A line without its places. "The sign of zero, leading zeros, `^1` and the splitting of unknown runs are not kept."
abbrev pub Tables : Type 0
Tables = Line (Unit {0})

abbrev pub bare_number : {P : Type 0} → Number P → Number (Unit {0})
bare_number n = record { minus = n.minus; digits = n.digits; decimals = n.decimals; at = tt }

abbrev pub bare_label : {P : Type 0} → Label P → Label (Unit {0})
bare_label l = record { name = l.name; score = optional bare_number l.score; at = tt }

abbrev pub bare_value : {P : Type 0} → Value P → Value (Unit {0})
bare_value (mass n) = mass (bare_number n)
bare_value (text t) = text t
bare_value reference = reference
bare_value (composition t n) = composition t (bare_number n)

abbrev pub bare_part : {P : Type 0} → Part P → Part (Unit {0})
bare_part p = record { key = p.key; value = bare_value p.value; label = optional bare_label p.label; at = tt }

abbrev pub bare_place : {P : Type 0} → Place P → Place (Unit {0})
bare_place p = record { site = p.site; at = tt }

abbrev pub bare_bracket : {P : Type 0} → Bracket P → Bracket (Unit {0})
bare_bracket k =
    record {
      kind = k.kind;
      first = k.first;
      last = k.last;
      count = k.count;
      counted = none;
      parts = map bare_part k.parts;
      places = map bare_place k.places;
      at = tt;
    }

abbrev pub bare_residue : {P : Type 0} → Residue P → Residue (Unit {0})
bare_residue r = record { letter = r.letter; section = r.section; at = tt }

unfoldable pub tables_of : {P : Type 0} → Line P → Tables
tables_of l = record { residues = map bare_residue l.residues; brackets = map bare_bracket l.brackets }

-- "A number keeps its value in millionths and its count of decimals"
abbrev pub signed : Bool → ℕ → ℤ
signed true m = neg_ℤ (pos m)
signed false m = pos m

abbrev pub millionths : {P : Type 0} → Number P → ℤ
millionths n = signed n.minus (n.digits * 10 ^ (decimal_limit - n.decimals))

abbrev pub label_of : {P : Type 0} → Part P → List ℕ
label_of p = given p.label (λ l. l.name) []

-- the score of a bracket's label
unfoldable pub score_of : {P : Type 0} → List (Part P) → Option (Number P)
score_of [] = none
score_of (p ∷ ps) = given p.label (λ l. given l.score some (score_of ps)) (score_of ps)
