-- Some lines and trees that spell them, so that the grammar is seen to print what is meant.
use Rattle.std.specs.Prelude.{ℕ, ◌≡◌, refl, true, false, List, [], ◌∷◌, map}
use Rattle.std.proofs.Math.Option.{Option, none, some}
use Rattle.scope.specs.declared.grammar.Key.TheVariants.{NoKey, U}
use Rattle.scope.specs.Bytes.{bytes, same_folded, upper}
use Rattle.scope.specs.Line.{Label, Line}
use Rattle.scope.specs.Keys.{spell}
use Rattle.scope.specs.Places.{n_terminus}
use Rattle.scope.specs.Lists.{given, flat, all as every}
use Rattle.scope.specs.Grammar.{Numeral, over, byte, square, print_text, good_text, Word, lead_key, delta, wording, print_pieces, good_pieces, Inside, parts, refers, a_letter, a_terminus, print_targets, means_targets, Spot, single, unsure, along, each_along, means_pieces, brackets_on, brackets_along, value_on, Spelling, print, good, means}

abbrev none_first : Word
none_first = record { key = NoKey; spelled = [] }

abbrev whole : List ℕ → Numeral
whole ds = record { whole = ds; behind = none }

-- a mass alone in its bracket
abbrev massive : Numeral → Inside
massive n = parts (record { base = delta none_first false n; tag = none }) []

abbrev bare : ℕ → Spot
bare b = record { letter = b; brackets = [] }

-- `a[+01.50]`
abbrev zeros : Spelling
zeros =
    record {
      declarations = [];
      runs = [];
      labiles = [];
      front = [];
      first = single (record { letter = 97; brackets = massive (record { whole = bytes "01"; behind = some (bytes "50") }) ∷ [] });
      more = [];
      back = [];
    }

-- `[+1]^2?AC`
abbrev twice : Spelling
twice =
    record {
      declarations = [];
      runs = record { first = record { inside = massive (whole (bytes "1")); count = some (bytes "2") }; more = [] } ∷ [];
      labiles = [];
      front = [];
      first = single (bare 65);
      more = single (bare 67) ∷ [];
      back = [];
    }

-- `[#a]-(?AC[u:x[|]])`
abbrev nested : Spelling
nested =
    record {
      declarations = [];
      runs = [];
      labiles = [];
      front = refers (record { name = bytes "a"; score = none }) ∷ [];
      first =
          unsure (bare 65)
          (record {
            letter = 67;
            brackets = parts (record { base = wording (record { key = U; spelled = bytes "u" }) (byte 120 (square (byte 124 over) over)); tag = none }) [] ∷ [];
          }
          ∷ []);
      more = [];
      back = [];
    }

-- `<[+1]@k,n-TERM>AK`
abbrev declares : Spelling
declares =
    record {
      declarations = record { inside = massive (whole (bytes "1")); first = a_letter 107; more = a_terminus n_terminus (bytes "n-TERM") ∷ [] } ∷ [];
      runs = [];
      labiles = [];
      front = [];
      first = single (bare 65);
      more = single (bare 75) ∷ [];
      back = [];
    }

pub examples : (print zeros ≡ bytes "a[+01.50]") × (good zeros ≡ true) × (print twice ≡ bytes "[+1]^2?AC") × (good twice ≡ true) × (print nested ≡ bytes "[#a]-(?AC[u:x[|]])") × (good nested ≡ true) × (print declares ≡ bytes "<[+1]@k,n-TERM>AK") × (good declares ≡ true)
unfolding flat every print_pieces good_pieces print_targets print_text good_text lead_key same_folded spell upper
examples = (refl, refl, refl, refl, refl, refl, refl, refl)

-- the places of a line's residues, of its brackets, of their parts, of the labels, of the places of declarations, and of the counts that are written
abbrev residue_places : Line ℕ → List ℕ
residue_places l = map (λ r. r.at) l.residues

abbrev bracket_places : Line ℕ → List ℕ
bracket_places l = map (λ k. k.at) l.brackets

abbrev part_places : Line ℕ → List ℕ
part_places l = flat (λ k. map (λ p. p.at) k.parts) l.brackets

abbrev label_places : Line ℕ → List ℕ
label_places l = flat (λ k. flat (λ p. given p.label (λ (x : Label ℕ). x.at ∷ []) []) k.parts) l.brackets

abbrev site_places : Line ℕ → List ℕ
site_places l = flat (λ k. map (λ p. p.at) k.places) l.brackets

abbrev count_places : Line ℕ → List (Option ℕ)
count_places l = map (λ k. k.counted) l.brackets

pub places : (residue_places (means twice) ≡ 7 ∷ 8 ∷ []) × (bracket_places (means twice) ≡ 0 ∷ []) × (part_places (means twice) ≡ 1 ∷ []) × (count_places (means twice) ≡ some 5 ∷ []) × (residue_places (means nested) ≡ 7 ∷ 8 ∷ []) × (bracket_places (means nested) ≡ 0 ∷ 9 ∷ []) × (part_places (means nested) ≡ 1 ∷ 10 ∷ []) × (label_places (means nested) ≡ 2 ∷ []) × (residue_places (means declares) ≡ 15 ∷ 16 ∷ []) × (bracket_places (means declares) ≡ 1 ∷ []) × (part_places (means declares) ≡ 2 ∷ []) × (site_places (means declares) ≡ 6 ∷ 8 ∷ [])
unfolding flat along each_along print_pieces print_targets print_text means_pieces means_targets brackets_on brackets_along value_on
places = (refl, refl, refl, refl, refl, refl, refl, refl, refl, refl, refl, refl)
