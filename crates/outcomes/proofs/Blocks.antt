-- 02, L5: an area of two blocks, by computation. Made empty it holds free blocks; then a line is added, fetched and removed, and bytes are changed.
use Rattle.std.specs.Prelude.{◌≡◌, refl, List, [], ◌∷◌, ◌++◌, ℕ, take, drop, replicate, set}
use Rattle.scope.specs.Bytes.{upper, same_folded, bytes}
use Rattle.scope.specs.Lists.{same, on_last, all, keep, flat, among, shared, tabled, member}
use Rattle.scope.specs.Keys.{spell, keys, key_among, key_of, written as key_written}
use Rattle.scope.specs.Content.{digit_step, number_end, text_step, part_end, value_end, text_end, colon_after, inner_step}
use Rattle.scope.specs.Places.{place_step, places_end, places_text}
use Rattle.scope.specs.Reading.{element, further, group_first, in_group, undecided, counted, referred, act, perform, resume, step, run, reading}
use Rattle.scope.specs.Modifications.{copies}
use Rattle.scope.specs.Glycans.{sugars, behind_name, starts, cuttings_up_to, cuttings, cutting_mass}
use Rattle.scope.specs.Kept.{kept}
use Rattle.scope.specs.Refusals.{least, refusal1, refusal2, unprintable, refusal3, too_deep, refusal5, refusal6, refusal7, refusal8, is_rule_name, refusal9, refusal10, refusal21, wrongly_labelled, refusal11, passing, refusal12, refusal19, first_due, outcome}
use Rattle.scope.specs.Canonical.{decimal_up_to, decimal, last_digits, decimals, size, part_text, parts_text, sequence_text, chain_text, canonical}
use Rattle.scope.specs.Positions.{sites, reached, is_placed, placed_on, struck_out, floaters, copies_from, referred_at, may_stand, permitted}
use Rattle.scope.specs.Placements.{distinct, fits, ascends, allowed}
use Rattle.scope.specs.Answers.{good, refuses}
use Rattle.blocks.specs.LowFirst.{little, low_first}
use Rattle.blocks.specs.Block.{is_padded, weight, is_sound, free_block, entry_block}
use Rattle.blocks.specs.Area.{whole_blocks, block_at, sound_at, all_sound, carries, firsts, is_free, frees, times, replaced}
use Rattle.blocks.specs.Chain.{links, follow}
use Rattle.blocks.specs.Entry.{is_stated, look}
use Rattle.blocks.specs.Answers.{empty_after, fetch_said, removing, remove_after, written, placing, adding, add_said, add_after, is_head, listed_from, is_of_kind, is_other, counts_of, survey_said}

abbrev area : List ℕ
area = empty_after (replicate 1024 7)

abbrev places : List ℕ
places = 1 ∷ 2 ∷ 0 ∷ 0 ∷ 0 ∷ 0 ∷ 0 ∷ 0 ∷ []

-- entry 66051 = 0x010203
abbrev held : List ℕ
held = add_after area 66051 places (bytes "[+01]^2?ac")

pub blocks_alike :
    (drop 508 free_block ≡ 253 ∷ 3 ∷ 0 ∷ 0 ∷ [])
    × (take 20 held ≡ (2 ∷ 17 ∷ 0 ∷ 255 ∷ 3 ∷ 2 ∷ 1 ∷ 0 ∷ []) ++ (places ++ bytes "[+1]"))
    × (fetch_said held 66051 9 ≡ good (record { placement = places; line = bytes "[+1]^2?AC" }))
    × (fetch_said held 66051 8 ≡ refuses 15 9)
    × (fetch_said held 7 9 ≡ refuses 22 0)
    × (add_said held 66051 places (bytes "[+1]^2?AC") ≡ refuses 23 0)
    × (remove_after held 66051 ≡ area)
    -- a byte of the entry, and one of the free block
    × (fetch_said (set held 16 90) 66051 9 ≡ refuses 25 0)
    × (fetch_said (set held 600 90) 66051 9 ≡ good (record { placement = places; line = bytes "[+1]^2?AC" }))
    × (fetch_said (set held 600 90) 7 9 ≡ refuses 25 0)
    × (listed_from held 0 ≡ good (record { block = 0; number = 66051 }))
    × (listed_from held 1 ≡ refuses 17 0)
    × (survey_said (set held 600 90) ≡ good (record { free = 0; first = 1; further = 0; other = 0; unsound = 1 }))
    -- an area of zeros has sound blocks of no kind: nothing is there, and there is no room
    × (fetch_said (replicate 512 0) 7 9 ≡ refuses 22 0)
    × (add_said (replicate 512 0) 7 places (bytes "[+1]^2?AC") ≡ refuses 24 0)
    × (fetch_said (replicate 513 0) 7 9 ≡ refuses 26 0)
    -- "Adding tries the line's own refusals and 18 first"
    × (add_said (replicate 513 0) 7 places (bytes "A[") ≡ refuses 4 2)
    × (add_said (replicate 513 0) 7 places (bytes "AC") ≡ refuses 18 0)
unfolding upper same_folded same spell keys key_among key_of key_written digit_step number_end text_step part_end value_end text_end colon_after inner_step element further group_first in_group undecided counted referred act on_last place_step places_end perform resume step run reading all keep flat among copies least refusal1 refusal2 unprintable refusal3 too_deep refusal5 refusal6 refusal7 refusal8 is_rule_name refusal9 refusal10 refusal21 shared wrongly_labelled refusal11 passing refusal12 sugars behind_name starts cuttings_up_to cuttings cutting_mass refusal19 kept first_due outcome decimal_up_to decimal last_digits decimals size part_text parts_text places_text sequence_text chain_text canonical tabled member sites reached is_placed placed_on struck_out floaters copies_from referred_at may_stand permitted distinct fits ascends allowed little low_first is_padded weight is_sound free_block entry_block whole_blocks block_at sound_at all_sound carries firsts is_free frees times replaced links follow is_stated look fetch_said removing written placing adding is_head listed_from is_of_kind is_other counts_of
blocks_alike = (refl, refl, refl, refl, refl, refl, refl, refl, refl, refl, refl, refl, refl, refl, refl, refl, refl, refl)
