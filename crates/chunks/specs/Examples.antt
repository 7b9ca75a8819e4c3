-- Document 01's example of the register program, and the ends of an input, by computation.
use Rattle.std.specs.Prelude.{◌≡◌, refl, List, [], ◌∷◌, ◌++◌, ℕ}
use Prim.Native.String.{String}
use Rattle.scope.specs.Bytes.{upper, same_folded, bytes}
use Rattle.scope.specs.Lists.{same, on_last, all, keep, flat, among, shared, tabled, member}
use Rattle.scope.specs.Keys.{spell, keys, key_among, key_of, written}
use Rattle.scope.specs.Content.{digit_step, number_end, text_step, part_end, value_end, text_end, colon_after, inner_step}
use Rattle.scope.specs.Places.{place_step, places_end, places_text}
use Rattle.scope.specs.Reading.{element, further, group_first, in_group, undecided, counted, referred, act, perform, resume, step, run, reading}
use Rattle.scope.specs.Modifications.{copies}
use Rattle.scope.specs.Kept.{kept}
use Rattle.scope.specs.Refusals.{least, refusal1, refusal2, unprintable, refusal3, too_deep, refusal5, refusal6, refusal7, refusal8, is_rule_name, refusal9, refusal10, refusal21, wrongly_labelled, refusal11, passing, refusal12, refusal19, first_due, outcome}
use Rattle.scope.specs.Canonical.{decimal_up_to, decimal, last_digits, decimals, size, part_text, parts_text, sequence_text, chain_text, canonical}
use Rattle.scope.specs.Positions.{sites, reached, is_placed, placed_on, floaters}
use Rattle.scope.specs.Masses.{first_mass, mass_of, sum, total, sumℕ, lacking}
use Rattle.scope.specs.Register.{fields, printed}
use Rattle.chunks.specs.Lines.{lines, entries_from, register}

-- lines, each with its byte 10
abbrev text : List String → List ℕ
text [] = []
text (s ∷ l) = bytes s ++ (10 ∷ text l)

pub example : register (text ("[+1]^2?ac" ∷ "A[U:35]" ∷ "[Acetyl]-A" ∷ []))
    ≡ text ("1 ok 2 1 2 +2000000 [+1]^2?AC" ∷ "2 no 9 2" ∷ "3 ok 1 1 0 ?1 [Acetyl]-A" ∷ [])
unfolding upper same_folded same spell keys key_among key_of written digit_step number_end text_step part_end value_end text_end colon_after inner_step element further group_first in_group undecided counted referred act on_last place_step places_end perform resume step run reading all keep flat among copies least refusal1 refusal2 unprintable refusal3 too_deep refusal5 refusal6 refusal7 refusal8 is_rule_name refusal9 refusal10 refusal21 shared wrongly_labelled refusal11 passing refusal12 refusal19 kept first_due outcome decimal_up_to decimal last_digits decimals size part_text parts_text places_text sequence_text chain_text canonical tabled member sites reached is_placed placed_on floaters first_mass mass_of sum total sumℕ lacking fields printed lines entries_from register
example = refl

pub ends :
    (lines [] ≡ [])
    × (lines (10 ∷ []) ≡ [] ∷ [])
    × (lines (65 ∷ []) ≡ (65 ∷ []) ∷ [])
    × (lines (65 ∷ 10 ∷ []) ≡ (65 ∷ []) ∷ [])
    × (lines (65 ∷ 10 ∷ 10 ∷ 67 ∷ []) ≡ (65 ∷ []) ∷ [] ∷ (67 ∷ []) ∷ [])
unfolding lines
ends = (refl, refl, refl, refl, refl)
