-- Document 01, "Lines with known outcomes": its "Proved" lines, in a single table under a single theorem.
use Rattle.std.specs.Prelude.{◌≡◌, refl, List, [], ◌∷◌, ℕ, ℤ, pos, neg_ℤ}
use Rattle.std.proofs.Math.Option.{Option, none, some}
use Prim.Native.String.{String}
use Rattle.scope.specs.Bytes.{upper, same_folded, bytes}
use Rattle.scope.specs.Lists.{same, given, on_last, all, keep, flat, among, shared, tabled, padded, member}
use Rattle.scope.specs.Line.{Line}
use Rattle.scope.specs.Keys.{spell, keys, key_among, key_of, written}
use Rattle.scope.specs.Content.{digit_step, number_end, text_step, part_end, value_end, text_end, colon_after, inner_step}
use Rattle.scope.specs.Places.{place_step, places_end, places_text}
use Rattle.scope.specs.Reading.{element, further, group_first, in_group, undecided, counted, referred, act, perform, resume, step, run, reading}
use Rattle.scope.specs.Modifications.{copies}
use Rattle.scope.specs.Kept.{kept}
use Rattle.scope.specs.Refusals.{least, refusal1, refusal2, unprintable, refusal3, too_deep, refusal5, refusal6, refusal7, refusal8, is_rule_name, refusal9, refusal10, refusal21, wrongly_labelled, refusal11, passing, refusal12, refusal19, first_due, outcome, Outcome, accepted, refused}
use Rattle.scope.specs.Canonical.{decimal_up_to, decimal, last_digits, decimals, size, part_text, parts_text, sequence_text, chain_text, canonical}
use Rattle.scope.specs.Tables.{tables_of, score_of}
use Rattle.scope.specs.Layout.{part_rows, rows, bytes_of, numbers_of, part_in, bracket_in, tables_in}
use Rattle.scope.specs.Positions.{sites, reached, is_placed, placed_on, struck_out, floaters, copies_from, referred_at, may_stand, permitted, rows_from, rows_of, first_row, floating_of}
use Rattle.scope.specs.Placements.{distinct, fits, ascends, allowed, less, choices, placements, first_placement, next_placement}
use Rattle.scope.specs.Masses.{first_mass, mass_of, sum, total, sumℕ, lacking, placed_at, put_at, ledger, labile_mass}
use Rattle.scope.specs.Answers.{same_numbers, are_tables}
use Rattle.scope.specs.Register.{fields, printed}
use Rattle.scope.specs.Limits.{copy_limit, position_limit}

-- what an accepted line has, and nothing where a line is refused
abbrev of : {A : Type 0} → Outcome → (Line ℕ → A) → Option A
of (accepted l) f = some (f l)
of (refused number place) f = none

abbrev total_of : String → Option ℤ
total_of s = of (outcome (bytes s)) total

abbrev lacking_of : String → Option ℕ
lacking_of s = of (outcome (bytes s)) lacking

abbrev placements_of : String → Option (List (List ℕ))
placements_of s = of (outcome (bytes s)) (λ l. placements (floating_of l))

abbrev line_written : String → Option (List ℕ)
line_written s = of (outcome (bytes s)) canonical

-- under the first placement
abbrev ledger_of : String → Option (List ℤ)
ledger_of s = of (outcome (bytes s)) (λ l. given (first_placement (floating_of l)) (ledger l) [])

-- a number or a list without its sign, its unused entries or its zeros
abbrev minus : ℕ → ℤ
minus m = neg_ℤ (pos m)

abbrev placed : List ℕ → List ℕ
placed p = padded 0 copy_limit p

abbrev booked : List ℤ → List ℤ
booked l = padded (pos 0) position_limit l

pub proved :
    (total_of "AM[+15.995]C[-18.01]" ≡ some (minus 2015000))
    × (ledger_of "AM[+15.995]C[-18.01]" ≡ some (booked (pos 0 ∷ pos 0 ∷ pos 15995000 ∷ minus 18010000 ∷ pos 0 ∷ [])))
    × (placements_of "[+1]^2?AC" ≡ some (placed (1 ∷ 2 ∷ []) ∷ []))
    × (placements_of "[+1][+1]?AC" ≡ some (placed (1 ∷ 2 ∷ []) ∷ placed (2 ∷ 1 ∷ []) ∷ []))
    × (placements_of "[+1]^2[x]?ACD" ≡ some (placed (1 ∷ 2 ∷ 3 ∷ []) ∷ placed (1 ∷ 3 ∷ 2 ∷ []) ∷ placed (2 ∷ 3 ∷ 1 ∷ []) ∷ []))
    × (total_of "[+1]^2?AC" ≡ some (pos 2000000))
    × (placements_of "[+1]^2?A" ≡ some [])
    × (total_of "[+1]^2?A" ≡ some (pos 2000000))
    × (placements_of "[+1]?A[+2]" ≡ some [])
    × (total_of "[+1]?A[+2]" ≡ some (pos 3000000))
    × (placements_of "[+1]?A[INFO:x]" ≡ some (placed (1 ∷ []) ∷ []))
    × (placements_of "[+1#a]?AC[#a(0.5)]" ≡ some (placed (2 ∷ []) ∷ []))
    × (placements_of "M[+16#a]C[#a]" ≡ some (placed (1 ∷ []) ∷ placed (2 ∷ []) ∷ []))
    × (total_of "M[+16#a]C[#a]" ≡ some (pos 16000000))
    × (total_of "A[Obs:+2|+1]" ≡ some (pos 1000000))
    × (lacking_of "A[Obs:+2|+1]" ≡ some 0)
    × (lacking_of "A[Obs:+1]" ≡ some 1)
    × (line_written "a[+01.50]" ≡ some (bytes "A[+1.50]"))
    × (line_written "A[-0]" ≡ some (bytes "A[+0]"))
    × (outcome (bytes "A[U:35]") ≡ refused 9 2)
    × (outcome (bytes "A[x]y]") ≡ refused 4 5)
unfolding upper same_folded same spell keys key_among key_of written digit_step number_end text_step part_end value_end text_end colon_after inner_step element further group_first in_group undecided counted referred act on_last place_step places_end perform resume step run reading all keep flat among copies least refusal1 refusal2 unprintable refusal3 too_deep refusal5 refusal6 refusal7 refusal8 is_rule_name refusal9 refusal10 refusal21 shared wrongly_labelled refusal11 passing refusal12 refusal19 kept first_due outcome decimal_up_to decimal last_digits decimals size part_text parts_text places_text sequence_text chain_text canonical tables_of part_rows score_of rows bytes_of numbers_of tabled part_in bracket_in tables_in member sites reached is_placed placed_on struck_out floaters copies_from referred_at may_stand permitted rows_from rows_of first_row distinct fits ascends allowed less choices placements first_placement next_placement first_mass mass_of sum total sumℕ lacking placed_at put_at ledger labile_mass same_numbers are_tables fields printed
proved = (refl, refl, refl, refl, refl, refl, refl, refl, refl, refl, refl, refl, refl, refl, refl, refl, refl, refl, refl, refl, refl)
