-- 02, L6: what the register program prints where a bracket has only a measured mass; of each bracket whether its mass is stated, only measured, or none; and what is
-- displayed and booked.
use Rattle.std.specs.Prelude.{◌≡◌, refl, true, List, [], ◌∷◌, map, ℕ, pos}
use Rattle.std.proofs.Math.Option.{Option, none, some}
use Prim.Native.String.{String}
use Rattle.scope.specs.Bytes.{upper, same_folded, bytes}
use Rattle.scope.specs.Lists.{same, on_last, all, keep, flat, among, shared, tabled, member}
use Rattle.scope.specs.Line.{Line}
use Rattle.scope.specs.Keys.{spell, keys, key_among, key_of, written}
use Rattle.scope.specs.Content.{digit_step, number_end, text_step, part_end, value_end, text_end, colon_after, inner_step}
use Rattle.scope.specs.Places.{place_step, places_end, places_text}
use Rattle.scope.specs.Reading.{element, further, group_first, in_group, undecided, counted, referred, act, perform, resume, step, run, reading}
use Rattle.scope.specs.Modifications.{copies}
use Rattle.scope.specs.Glycans.{sugars, behind_name, starts, cuttings_up_to, cuttings, cutting_mass}
use Rattle.scope.specs.Kept.{kept}
use Rattle.scope.specs.Refusals.{least, refusal1, refusal2, unprintable, refusal3, too_deep, refusal5, refusal6, refusal7, refusal8, is_rule_name, refusal9, refusal10, refusal21, wrongly_labelled, refusal11, passing, refusal12, refusal19, first_due, outcome, Outcome, accepted, refused}
use Rattle.scope.specs.Canonical.{decimal_up_to, decimal, last_digits, decimals, size, part_text, parts_text, sequence_text, chain_text, canonical}
use Rattle.scope.specs.Tables.{tables_of, score_of}
use Rattle.scope.specs.Layout.{part_rows, rows, bytes_of, numbers_of, part_in, bracket_in, tables_in}
use Rattle.scope.specs.Positions.{sites, reached, is_placed, placed_on, struck_out, floaters, copies_from, referred_at, may_stand, permitted, rows_from, rows_of}
use Rattle.scope.specs.Placements.{distinct, ascends, choices, placements, first_placement}
use Rattle.scope.specs.Masses.{first_mass, mass_of, sum, total, sumℕ, lacking, placed_at, put_at, ledger}
use Rattle.scope.specs.Answers.{refuses, lack, same_numbers, are_tables, display_of, bookable}
use Rattle.scope.specs.Register.{fields, printed}
use Rattle.outcomes.specs.Printing.{Sample, sample, agrees}
use Rattle.scope.specs.declared.answers.Mass.{Mass}
use Rattle.scope.specs.declared.answers.Mass.TheVariants.{Stated, Measured, None}

abbrev samples : List Sample
samples =
    sample "A[Obs:+1]" "1 ok 1 1 0 ?1 A[Obs:+1]"
    ∷ sample "A[Obs:+2|+1]" "1 ok 1 1 0 +1000000 A[Obs:+2|+1]"
    ∷ sample "A[+1|Obs:+2]" "1 ok 1 1 0 +1000000 A[+1|Obs:+2]"
    ∷ sample "[Obs:+1]^3?ACD[+1]" "1 ok 3 2 3 ?3 [Obs:+1]^3?ACD[+1]"
    ∷ sample "A[oBS:+01.50]" "1 ok 1 1 0 ?1 A[Obs:+1.50]"
    ∷ sample "A[Obs:+0]" "1 ok 1 1 0 ?1 A[Obs:+0]"
    ∷ sample "A[x|Obs:+1]" "1 ok 1 1 0 ?1 A[x|Obs:+1]"
    ∷ sample "A[UNIMOD:35|Obs:-2|Obs:+3]" "1 ok 1 1 0 ?1 A[UNIMOD:35|Obs:-2|Obs:+3]"
    ∷ sample "A[Obs:+1|INFO:x]" "1 ok 1 1 0 ?1 A[Obs:+1|INFO:x]"
    ∷ sample "A[Obs:+1|U:+2]" "1 ok 1 1 0 +2000000 A[Obs:+1|U:+2]"
    ∷ sample "A[Obs:+1|Glycan:Hex]" "1 ok 1 1 0 +162052800 A[Obs:+1|Glycan:Hex]"
    ∷ sample "A[Obs:+1]C[x]" "1 ok 2 2 0 ?2 A[Obs:+1]C[x]"
    ∷ sample "A[Obs:+1]C[+1]" "1 ok 2 2 0 ?1 A[Obs:+1]C[+1]"
    ∷ sample "{Obs:-2}A" "1 ok 1 1 0 ?1 {Obs:-2}A"
    ∷ sample "[Obs:+1]-A-[Obs:+2]" "1 ok 1 2 0 ?2 [Obs:+1]-A-[Obs:+2]"
    ∷ sample "(AC)[Obs:+1]" "1 ok 2 1 1 ?1 (AC)[Obs:+1]"
    ∷ sample "A[Obs:+1#a]C[#a]" "1 ok 2 2 1 ?1 A[Obs:+1#a]C[#a]"
    ∷ sample "A[Obs:+1|+2#a]C[#a(0.5)]" "1 ok 2 2 1 +2000000 A[Obs:+1|+2#a]C[#a(0.5)]"
    ∷ sample "<[Obs:+1]@A>AAC" "1 ok 3 1 0 ?2 <[Obs:+1]@A>AAC"
    ∷ sample "<[Obs:+1]@W>AAC" "1 ok 3 1 0 +0 <[Obs:+1]@W>AAC"
    ∷ sample "<[Obs:+2|-1.5]@A>AA" "1 ok 2 1 0 -3000000 <[Obs:+2|-1.5]@A>AA"
    ∷ sample "<[Obs:+1]@A,N-term>[Obs:+2]^2?AC" "1 ok 2 2 2 ?4 <[Obs:+1]@A,N-term>[Obs:+2]^2?AC"
    ∷ []

pub printed_alike : all agrees samples ≡ true
unfolding upper same_folded same spell keys key_among key_of written digit_step number_end text_step part_end value_end text_end colon_after inner_step element further group_first in_group undecided counted referred act on_last place_step places_end perform resume step run reading all keep flat among copies least refusal1 refusal2 unprintable refusal3 too_deep refusal5 refusal6 refusal7 refusal8 is_rule_name refusal9 refusal10 refusal21 shared wrongly_labelled refusal11 passing refusal12 sugars behind_name starts cuttings_up_to cuttings cutting_mass refusal19 kept first_due outcome decimal_up_to decimal last_digits decimals size part_text parts_text places_text sequence_text chain_text canonical tables_of part_rows score_of rows bytes_of numbers_of tabled part_in bracket_in tables_in member sites reached is_placed placed_on struck_out floaters copies_from referred_at may_stand permitted rows_from rows_of distinct ascends choices placements first_placement first_mass mass_of sum total sumℕ lacking placed_at put_at ledger same_numbers are_tables fields printed
printed_alike = refl

abbrev of : {A : Type 0} → Outcome → (Line ℕ → A) → Option A
of (accepted l) f = some (f l)
of (refused number place) f = none

-- the mass of each bracket
abbrev masses_of : String → Option (List Mass)
masses_of s = of (outcome (bytes s)) (λ l. map mass_of l.brackets)

pub answered :
    (masses_of "A[Obs:+2|+1]" ≡ some (Stated (pos 1000000) ∷ []))
    × (masses_of "A[Obs:+2]" ≡ some (Measured (pos 2000000) ∷ []))
    × (masses_of "A[x]" ≡ some (None ∷ []))
    × (masses_of "A[x|Obs:+2|Obs:+3]C[Glycan:Hex|Obs:+1][INFO:y]" ≡ some (Measured (pos 2000000) ∷ Stated (pos 162052800) ∷ None ∷ []))
unfolding upper same_folded same spell keys key_among key_of written digit_step number_end text_step part_end value_end text_end colon_after inner_step element further group_first in_group undecided counted referred act on_last place_step places_end perform resume step run reading all keep flat among copies least refusal1 refusal2 unprintable refusal3 too_deep refusal5 refusal6 refusal7 refusal8 is_rule_name refusal9 refusal10 refusal21 shared wrongly_labelled refusal11 passing refusal12 sugars behind_name starts cuttings_up_to cuttings cutting_mass refusal19 kept first_due outcome decimal_up_to decimal last_digits decimals size part_text parts_text places_text sequence_text chain_text canonical tables_of part_rows score_of rows bytes_of numbers_of tabled part_in bracket_in tables_in member sites reached is_placed placed_on struck_out floaters copies_from referred_at may_stand permitted rows_from rows_of distinct ascends choices placements first_placement first_mass mass_of sum total sumℕ lacking placed_at put_at ledger same_numbers are_tables fields printed
answered = (refl, refl, refl, refl)

-- 16 before anything is booked, whatever the placement
pub counted_as_lacking :
    (of (outcome (bytes "A[Obs:+1]")) (λ l. display_of (tables_of l)) ≡ some (lack 1))
    × (of (outcome (bytes "[Obs:+1]^3?ACD[+1]")) (λ l. display_of (tables_of l)) ≡ some (lack 3))
    × (of (outcome (bytes "A[Obs:+1]")) (λ l. bookable (tables_of l) []) ≡ some (refuses 16 1))
    × (of (outcome (bytes "[Obs:+1]^3?ACD[+1]")) (λ l. bookable (tables_of l) (1 ∷ 2 ∷ 3 ∷ [])) ≡ some (refuses 16 3))
unfolding upper same_folded same spell keys key_among key_of written digit_step number_end text_step part_end value_end text_end colon_after inner_step element further group_first in_group undecided counted referred act on_last place_step places_end perform resume step run reading all keep flat among copies least refusal1 refusal2 unprintable refusal3 too_deep refusal5 refusal6 refusal7 refusal8 is_rule_name refusal9 refusal10 refusal21 shared wrongly_labelled refusal11 passing refusal12 sugars behind_name starts cuttings_up_to cuttings cutting_mass refusal19 kept first_due outcome decimal_up_to decimal last_digits decimals size part_text parts_text places_text sequence_text chain_text canonical tables_of part_rows score_of rows bytes_of numbers_of tabled part_in bracket_in tables_in member sites reached is_placed placed_on struck_out floaters copies_from referred_at may_stand permitted rows_from rows_of distinct ascends choices placements first_placement first_mass mass_of sum total sumℕ lacking placed_at put_at ledger same_numbers are_tables fields printed
counted_as_lacking = (refl, refl, refl, refl)
