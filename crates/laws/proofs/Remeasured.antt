-- "Measured masses stay out of sums" (02, L6): a line with other masses behind `Obs` is alike bracket by bracket, since the parts without `Obs` are the same.
use Rattle.std.specs.Prelude.{◌≡◌, Bool, not}
use Rattle.std.proofs.Math.Path.{refl, ap₂}
use Rattle.std.proofs.Common.{sym, ap, ◌∙◌}
use Rattle.std.proofs.Math.Bool.{true, false, cond}
use mathlib.Core.List.{List, [], ◌∷◌, ◌++◌, map}
use Rattle.scope.specs.declared.grammar.Key.TheVariants.{Obs}
use Rattle.scope.specs.Line.{Number, Value, mass, text, reference, composition, Part, Bracket, Line}
use Rattle.scope.specs.Content.{is_reference}
use Rattle.scope.specs.Lists.{keep}
use Rattle.scope.specs.Modifications.{is_key, is_modification, names_of, copies}
use Rattle.scope.specs.Positions.{sites, reached, is_placed, placed_on}
use Rattle.scope.specs.Masses.{first_mass, mass_of, stated}
use Rattle.mass_laws.proofs.Laws.{only_stated}
use Rattle.reading_laws.proofs.Bare.{Likewise, same_info, same_refers, same_names}
use Rattle.reading_laws.proofs.Weighed.{Alike}
use Rattle.laws.specs.Demands.{other_mass, remeasured_part, remeasured_bracket, remeasured}

module _ {P : Type 0} (f : Number P → Number P) where
  likewise : Likewise (remeasured_part f)
  likewise = record { key = λ p. refl; refers = λ p. by (is_key Obs p) p.value; names = λ p. refl }
    where
      by : (b : Bool) (v : Value P) → is_reference (cond b (other_mass f v) v) ≡ is_reference v
      by true (mass n) = refl
      by true (text s) = refl
      by true reference = refl
      by true (composition s n) = refl
      by false v = refl

  is_modification_lem : (k : Bracket P) → is_modification (remeasured_bracket f k) ≡ is_modification k
  is_modification_lem k = rw (same_info (remeasured_part f) likewise k.parts, same_refers (remeasured_part f) likewise k.parts)

  names_of_lem : (k : Bracket P) → names_of (remeasured_bracket f k) ≡ names_of k
  names_of_lem k = same_names (remeasured_part f) likewise k.parts

  copied : (k : Bracket P) → copies (remeasured_bracket f k) ≡ copies k
  unfolding copies
  copied k = rw (is_modification_lem k, names_of_lem k)

  placed : (l : Line P) (k : Bracket P) → placed_on (remeasured f l) (remeasured_bracket f k) ≡ placed_on l k
  unfolding placed_on reached sites is_placed
  placed l k = rw (is_modification_lem k, names_of_lem k)

  -- the parts without `Obs`
  kept : (ps : List (Part P)) → keep (λ p. not (is_key Obs p)) (map (remeasured_part f) ps) ≡ keep (λ p. not (is_key Obs p)) ps
  unfolding keep
  kept [] = refl
  kept (p ∷ ps) = ap₂ ◌++◌ (by (is_key Obs p)) (kept ps)
    where
      by : (b : Bool)
          → cond (not b) (record { key = p.key; value = cond b (other_mass f p.value) p.value; label = p.label; at = p.at } ∷ []) [] ≡ cond (not b) (p ∷ []) []
      by true = refl
      by false = refl

  weighs : (k : Bracket P) → stated (mass_of (remeasured_bracket f k)) ≡ stated (mass_of k)
  weighs k = only_stated (remeasured_bracket f k) ∙ ap first_mass (kept k.parts) ∙ sym (only_stated k)

  pub remeasured_alike : (l : Line P) → Alike (remeasured_bracket f) l (remeasured f l)
  remeasured_alike l =
      record {
        brackets = refl;
        kind = λ k. refl;
        count = λ k. refl;
        modification = is_modification_lem;
        copied = copied;
        placed = placed l;
        mass = weighs;
      }
