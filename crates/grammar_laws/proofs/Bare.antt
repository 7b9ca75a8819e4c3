-- What the inside of a bracket means with nothing noted of places: for the way from the reader to trees (proofs/Spelled.antt), where only the shape counts.
use Rattle.std.proofs.Math.Option.{Option, none, some}
use Rattle.std.specs.Prelude.{List, [], ◌∷◌, map}
use Rattle.scope.specs.declared.grammar.Key.TheVariants.{NoKey}
use Rattle.scope.specs.Line.{Number, Label, Value, mass, text, reference, Part}
use Rattle.scope.specs.Grammar.{means_numeral, print_text, Base, delta, code, wording, key_in, Score, is_minus, Tag, Piece, Inside, parts, refers}

abbrev pub Place : Type 0
Place = Unit {0}

abbrev pub bare_value : Base → Value Place
bare_value (delta w minus n) = mass (means_numeral tt minus n)
bare_value (code w t) = text t
bare_value (wording w t) = text (print_text t)

abbrev pub bare_score : Option Score → Option (Number Place)
bare_score none = none
bare_score (some s) = some (means_numeral tt (is_minus s.sign) s.number)

abbrev pub bare_tag : Option Tag → Option (Label Place)
bare_tag none = none
bare_tag (some t) = some (record { name = t.name; score = bare_score t.score; at = tt })

abbrev pub bare_piece : Piece → Part Place
bare_piece p = record { key = key_in p.base; value = bare_value p.base; label = bare_tag p.tag; at = tt }

abbrev pub bare_reference : Tag → Part Place
bare_reference t = record { key = NoKey; value = reference; label = bare_tag (some t); at = tt }

abbrev pub bare_inside : Inside → List (Part Place)
bare_inside (parts p ps) = map bare_piece (p ∷ ps)
bare_inside (refers t) = bare_reference t ∷ []
