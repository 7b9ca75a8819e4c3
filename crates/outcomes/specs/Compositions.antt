-- 02, L1: what the register program prints for lines with compositions, and that the areas they are read to are accepted as tables.
use Rattle.std.specs.Prelude.{◌≡◌, refl, Bool, true, false, List, [], ◌∷◌}
use Rattle.scope.specs.Bytes.{upper, same_folded, bytes}
use Rattle.scope.specs.Lists.{same, on_last, all, keep, flat, among, shared, tabled}
use Rattle.scope.specs.Keys.{spell, keys, key_among, key_of, written}
use Rattle.scope.specs.Content.{digit_step, number_end, text_step, part_end, value_end, text_end, colon_after, inner_step}
use Rattle.scope.specs.Places.{place_step, places_end, places_text}
use Rattle.scope.specs.Reading.{element, further, group_first, in_group, undecided, counted, referred, act, perform, resume, step, run, reading}
use Rattle.scope.specs.Modifications.{copies}
use Rattle.scope.specs.Glycans.{sugars, behind_name, starts, cuttings_up_to, cuttings, cutting_mass}
use Rattle.scope.specs.Kept.{kept}
use Rattle.scope.specs.Refusals.{least, refusal1, refusal2, unprintable, refusal3, too_deep, refusal5, refusal6, refusal7, refusal8, is_rule_name, refusal9, refusal10, refusal21, wrongly_labelled, refusal11, passing, refusal12, refusal19, first_due, outcome, Outcome, accepted, refused}
use Rattle.scope.specs.Canonical.{decimal_up_to, decimal, last_digits, decimals, size, part_text, parts_text, sequence_text, chain_text, canonical}
use Rattle.scope.specs.Tables.{tables_of, score_of}
use Rattle.scope.specs.Layout.{part_rows, rows, bytes_of, numbers_of, part_in, bracket_in, tables_in}
use Rattle.scope.specs.Positions.{floaters}
use Rattle.scope.specs.Masses.{first_mass, mass_of, sum, total, sumℕ, lacking}
use Rattle.scope.specs.Answers.{same_numbers, are_tables}
use Rattle.scope.specs.Register.{fields, printed}
use Rattle.outcomes.specs.Printing.{Sample, sample, agrees}

abbrev samples : List Sample
samples =
    sample "A[gLYCAN:hexnac1HEX2]" "1 ok 1 1 0 +527184900 A[Glycan:HexNAcHex2]"
    ∷ sample "A[U:Glycan:Hex]" "1 ok 1 1 0 ?1 A[U:Glycan:Hex]"
    ∷ sample "A[G:Hex]" "1 ok 1 1 0 ?1 A[G:Hex]"
    ∷ sample "A[Glycan:Hex 2]" "1 no 19 2"
    ∷ sample "A[Glycan:{C8H13N1O5}1Hex2]" "1 no 19 2"
    ∷ sample "A[Glycan:+5]" "1 no 19 2"
    ∷ sample "A[Glycan:[[[[[[[[[x]]]]]]]]]]" "1 no 5 17"
    ∷ sample "A[Glycan:]" "1 no 4 9"
    ∷ sample "A[Glycan:Hex#a]C[#a(0.5)]" "1 ok 2 2 1 +162052800 A[Glycan:Hex#a]C[#a(0.5)]"
    ∷ sample "A[Glycan:Hex#]" "1 no 4 13"
    ∷ sample "A[Glycan:#a]" "1 no 4 9"
    ∷ sample "{Glycan:Hex#a}A" "1 no 4 11"
    ∷ sample "A[Glycan:S]" "1 no 19 2"
    ∷ sample "A[Glycan:en,AHEX]" "1 ok 1 1 0 +158021500 A[Glycan:en,aHex]"
    ∷ sample "A[Glycan:HexPenaHex]" "1 ok 1 1 0 +470127100 A[Glycan:HexPenaHex]"
    ∷ sample "A[Glycan:Hex0]" "1 no 19 2"
    ∷ sample "A[Glycan:Hex01]" "1 no 19 2"
    ∷ sample "A[Glycan:Hex100]" "1 no 19 2"
    ∷ sample "A[Glycan:5Hex]" "1 no 19 2"
    ∷ sample "A[Glycan:HexSug]" "1 ok 1 1 0 +204063400 A[Glycan:HexSug]"
    ∷ sample "A[Glycan:HexPen]" "1 ok 1 1 0 +294095000 A[Glycan:HexPen]"
    ∷ sample "A[Glycan:HexNeuAc]" "1 ok 1 1 0 +453148200 A[Glycan:HexNeuAc]"
    ∷ sample "A[Glycan:HexNon]" "1 ok 1 1 0 +414137300 A[Glycan:HexNon]"
    ∷ sample "A[Glycan:HexS]" "1 ok 1 1 0 +242009600 A[Glycan:HexS]"
    ∷ sample "A[Glycan:HexN1Ac]" "1 no 19 2"
    ∷ sample "A[Glycan:hex1HEX2Hex]" "1 ok 1 1 0 +648211200 A[Glycan:HexHex2Hex]"
    ∷ sample "A[Glycan:HexHex]" "1 ok 1 1 0 +324105600 A[Glycan:HexHex]"
    ∷ sample "A[Glycan:Hex2]" "1 ok 1 1 0 +324105600 A[Glycan:Hex2]"
    ∷ sample "A[Glycan:Hex1Hex1Hex1Hex1Hex1Hex1Hex1Hex1Hex1Hex1Hex1Hex1Hex1Hex1Hex1Hex1Hex1Hex1Hex1Hex1Hex1Hex1Hex1Hex1Hex1Hex1Hex1Hex1Hex1Hex1Hex1Hex1Hex]" "1 no 6 2"
    ∷ sample "A[Glycan:Dec99Dec99Dec99Dec99Dec99Dec99Dec99Dec99Dec99Dec99Dec99Dec99Dec99Dec99Dec99Dec99Dec99Dec99Dec99Dec99Dec99Dec99Dec99Dec99Dec99]" "1 ok 1 1 0 +698185372500 A[Glycan:Dec99Dec99Dec99Dec99Dec99Dec99Dec99Dec99Dec99Dec99Dec99Dec99Dec99Dec99Dec99Dec99Dec99Dec99Dec99Dec99Dec99Dec99Dec99Dec99Dec99]"
    ∷ sample "A[Glycan:Hex|+1]" "1 ok 1 1 0 +162052800 A[Glycan:Hex|+1]"
    ∷ sample "A[+1|Glycan:Hex]" "1 ok 1 1 0 +1000000 A[+1|Glycan:Hex]"
    ∷ sample "A[Obs:+1|Glycan:Hex]" "1 ok 1 1 0 +162052800 A[Obs:+1|Glycan:Hex]"
    ∷ sample "[Glycan:Hex]^2?NN" "1 ok 2 1 2 +324105600 [Glycan:Hex]^2?NN"
    ∷ sample "{Glycan:Hex}{Glycan:NeuAc}EMEVNESPEK" "1 ok 10 2 0 +453148200 {Glycan:Hex}{Glycan:NeuAc}EMEVNESPEK"
    ∷ sample "A[Glycan:foo][U:35]" "1 no 9 14"
    ∷ sample "A[Glycan:foo]C[#a]" "1 no 11 14"
    ∷ sample "[x]^9?A[Glycan:foo]" "1 no 12 0"
    ∷ sample "A[Glycan:foo#XL1]" "1 no 8 2"
    ∷ []

pub printed_alike : all agrees samples ≡ true
unfolding upper same_folded same spell keys key_among key_of written digit_step number_end text_step part_end value_end text_end colon_after inner_step element further group_first in_group undecided counted referred act on_last place_step places_end perform resume step run reading all keep flat among copies least refusal1 refusal2 unprintable refusal3 too_deep refusal5 refusal6 refusal7 refusal8 is_rule_name refusal9 refusal10 refusal21 shared wrongly_labelled refusal11 passing refusal12 sugars behind_name starts cuttings_up_to cuttings cutting_mass refusal19 kept first_due outcome decimal_up_to decimal last_digits decimals size part_text parts_text places_text sequence_text chain_text canonical tables_of part_rows score_of rows bytes_of numbers_of tabled part_in bracket_in tables_in floaters first_mass mass_of sum total sumℕ lacking same_numbers are_tables fields printed
printed_alike = refl

abbrev is_read : Outcome → Bool
is_read (accepted l) = are_tables (bytes_of l) (numbers_of l)
is_read (refused number place) = false

pub read_alike :
    all (λ s. is_read (outcome (bytes s)))
    ("A[gLYCAN:hexnac1HEX2]" ∷ "A[Glycan:Hex#a]C[#a(0.5)]" ∷ "[Glycan:en,ahex10]?A" ∷ "[+1|Glycan:HexHex1]^2?NN" ∷ [])
    ≡ true
unfolding upper same_folded same spell keys key_among key_of written digit_step number_end text_step part_end value_end text_end colon_after inner_step element further group_first in_group undecided counted referred act on_last place_step places_end perform resume step run reading all keep flat among copies least refusal1 refusal2 unprintable refusal3 too_deep refusal5 refusal6 refusal7 refusal8 is_rule_name refusal9 refusal10 refusal21 shared wrongly_labelled refusal11 passing refusal12 sugars behind_name starts cuttings_up_to cuttings cutting_mass refusal19 kept first_due outcome decimal_up_to decimal last_digits decimals size part_text parts_text places_text sequence_text chain_text canonical tables_of part_rows score_of rows bytes_of numbers_of tabled part_in bracket_in tables_in floaters first_mass mass_of sum total sumℕ lacking same_numbers are_tables fields printed
read_alike = refl
