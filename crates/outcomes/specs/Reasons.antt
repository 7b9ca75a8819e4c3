-- 02, L7: of lines with floaters, those of all sets of floaters that have too few positions and that no other such set goes before.
use Rattle.std.specs.Prelude.{◌≡◌, refl, not, List, [], ◌∷◌, ◌++◌, map, ℕ, length}
use Rattle.std.proofs.Math.Option.{Option, none, some}
use Prim.Native.String.{String}
use Rattle.scope.specs.Bytes.{upper, same_folded, bytes}
use Rattle.scope.specs.Lists.{same, on_last, all, keep, flat, among, shared, tabled, member}
use Rattle.scope.specs.Keys.{spell, keys, key_among, key_of, written}
use Rattle.scope.specs.Content.{digit_step, number_end, text_step, part_end, value_end, text_end, colon_after, inner_step}
use Rattle.scope.specs.Places.{place_step, places_end}
use Rattle.scope.specs.Reading.{element, further, group_first, in_group, undecided, counted, referred, act, perform, resume, step, run, reading}
use Rattle.scope.specs.Modifications.{copies}
use Rattle.scope.specs.Glycans.{sugars, behind_name, starts, cuttings_up_to, cuttings, cutting_mass}
use Rattle.scope.specs.Kept.{kept}
use Rattle.scope.specs.Refusals.{least, refusal1, refusal2, unprintable, refusal3, too_deep, refusal5, refusal6, refusal7, refusal8, is_rule_name, refusal9, refusal10, refusal21, wrongly_labelled, refusal11, passing, refusal12, refusal19, first_due, outcome, Outcome, accepted, refused}
use Rattle.scope.specs.Positions.{sites, reached, is_placed, placed_on, struck_out, floaters, copies_from, referred_at, may_stand, permitted, Floating, floating_of}
use Rattle.scope.specs.Placements.{less}
use Rattle.scope.specs.Reasons.{rising, permitted_to, too_few, goes_before}

-- every set of some numbers
unfoldable pub sets : List ℕ → List (List ℕ)
sets [] = [] ∷ []
sets (i ∷ l) = map (λ m. i ∷ m) (sets l) ++ sets l

abbrev firsts : List (List ℕ) → List (List ℕ)
firsts ls = keep (λ l. all (λ m. not (goes_before m l)) ls) ls

abbrev smallest : Floating → List (List ℕ)
smallest f = firsts (keep (too_few f) (sets (tabled (λ x. x) 1 (length f.lists))))

abbrev told : Outcome → Option (List (List ℕ))
told (accepted l) = some (smallest (floating_of l))
told (refused number place) = none

abbrev why_none : String → Option (List (List ℕ))
why_none s = told (outcome (bytes s))

pub competing :
    (why_none "AC" ≡ some [])
    × (why_none "[+1]?AC" ≡ some [])
    -- the positions that a placed modification has are gone
    × (why_none "[+1][+2]?A[+3]" ≡ some ((1 ∷ []) ∷ []))
    -- each copy is a floater
    × (why_none "[+1]^2?AC" ≡ some [])
    × (why_none "[+1]^3?A" ≡ some ((1 ∷ 2 ∷ []) ∷ []))
    × (why_none "[+1]^3?AC" ≡ some ((1 ∷ 2 ∷ 3 ∷ []) ∷ []))
    -- a position counts once, whoever may take it
    × (why_none "[+1#a][+2#b][+3]?A[#a][#b]C" ≡ some ((1 ∷ 2 ∷ []) ∷ []))
    -- the first by floater order, and not by position
    × (why_none "[+1#a][+2#b][+3#c][+4#d]?A[#a][#d]C[#b][#c]" ≡ some ((1 ∷ 4 ∷ []) ∷ []))
    × (why_none "[+1#a][+2#b]?A[#b][+3#c]C[#a][+4#d]" ≡ some ((1 ∷ 4 ∷ []) ∷ []))
    -- the smallest, though others come first
    × (why_none "[+1]^2[+2#a][+3#b]?A[#a][#b]C" ≡ some ((3 ∷ 4 ∷ []) ∷ []))
unfolding upper same_folded same spell keys key_among key_of written digit_step number_end text_step part_end value_end text_end colon_after inner_step element further group_first in_group undecided counted referred act on_last place_step places_end perform resume step run reading all keep flat among copies least refusal1 refusal2 unprintable refusal3 too_deep refusal5 refusal6 refusal7 refusal8 is_rule_name refusal9 refusal10 refusal21 shared wrongly_labelled refusal11 passing refusal12 sugars behind_name starts cuttings_up_to cuttings cutting_mass refusal19 kept first_due outcome tabled member sites reached is_placed placed_on struck_out floaters copies_from referred_at may_stand permitted rising permitted_to too_few less sets
competing = (refl, refl, refl, refl, refl, refl, refl, refl, refl, refl)
