-- The brackets of a line that reads to its end have the shape that the rules ask for.
use Rattle.std.specs.Prelude.{◌≡◌, refl, false, ◌&&◌, List, [], ◌∷◌, ℕ, ◌<◌, length}
use Rattle.std.proofs.Math.Option.{Option, none, some}
use Rattle.scope.specs.declared.grammar.Key.TheVariants.{Info}
use Rattle.scope.specs.Line.{Label, Value, mass, text, reference, composition, Part, Line}
use Rattle.scope.specs.Lists.{all}
use Rattle.scope.specs.Content.{is_reference}
use Rattle.scope.specs.Reading.{holds, reading, refers?}
use Rattle.scope.specs.Modifications.{is_key}
use Rattle.basics.specs.Each.{Each, OfGiven, each_one}
use Rattle.accepted_laws.specs.Within.{Byte}
use Rattle.accepted_laws.specs.Inside.{LabelShape, ValueShape, PartShape}
use Rattle.accepted_laws.specs.Outside.{BracketShape, line_shape}
use Rattle.rules.specs.Ruled.{Named, Shaped}

-- a reference has no key, so it is not an INFO part
parts_apart : (ps : List (Part ℕ)) → Each PartShape ps → (refers? ps && all (is_key Info) ps) ≡ false
unfolding all
parts_apart [] w = refl
parts_apart (p ∷ ps) w = go p.value w.0.value
  where
    go : (v : Value ℕ) → ValueShape p v → (is_reference v && (is_key Info p && all (is_key Info) ps)) ≡ false
    go (mass n) q = refl
    go (text t) q = refl
    go reference q = rw q.no_key
    go (composition t n) q = absurd q

part_named : (p : Part ℕ) → PartShape p → Named p
part_named p w = go p.label w.label
  where
    go : (o : Option (Label ℕ)) → OfGiven LabelShape o → OfGiven (λ l. 0 < length l.name) o
    go none q = tt
    go (some l) q = q.some_name

pub all_shaped : (line : List ℕ) (l : Line ℕ) → Each Byte line → reading line ≡ holds l → Each Shaped l.brackets
all_shaped line l b e =
    each_one (BracketShape (length l.residues)) Shaped
    (λ k w. record { apart = parts_apart k.parts w.parts; named = each_one PartShape Named part_named k.parts w.parts })
    l.brackets (line_shape line l b e).brackets
