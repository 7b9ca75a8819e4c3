-- What is due of a part, of a bracket and of a line, as codes.
use Rattle.std.specs.Prelude.{List, [], ◌∷◌, ◌++◌, map, ℕ, ◌&&◌, ltb, length, drop}
use Rattle.scope.specs.Limits.{residue_limit, bracket_limit, part_limit, label_limit}
use Rattle.scope.specs.Line.{Label, Part, Bracket, Residue, Line}
use Rattle.scope.specs.Lists.{given, flat}
use Rattle.scope.specs.Modifications.{only_info, defined, referred_to}
use Rattle.scope.specs.Kinds.{unknown_or_labile, is_declared}
use Rattle.scope.specs.Refusals.{Due, due, refusal5, refusal6, refusal7, refusal8, refusal9, refusal10, refusal21, refusal11, refusal12, refusal19, due_at, deep_part, long_text, long_label, many_places, many_declarations, wide, wide_mass, wide_score, wide_count, is_link, not_here, is_number_name, wrongly_labelled, passing, is_uncut}
use Rattle.dues.specs.Ranks.{code}

-- ---- the ranks: the order of trying behind 4
abbrev pub deep_rank : ℕ
deep_rank = 0

abbrev pub over_rank : ℕ
over_rank = 1

abbrev pub wide_rank : ℕ
wide_rank = 2

abbrev pub barred_rank : ℕ
barred_rank = 3

abbrev pub digits_rank : ℕ
digits_rank = 4

abbrev pub info_rank : ℕ
info_rank = 5

abbrev pub declared_rank : ℕ
declared_rank = 6

abbrev pub label_rank : ℕ
label_rank = 7

abbrev pub copies_rank : ℕ
copies_rank = 8

abbrev pub uncut_rank : ℕ
uncut_rank = 9

-- the refusals of a line: 5 to 9, and 19, are met as the line is walked, and 10, 21, 11 and 12 are asked over all brackets
abbrev pub met_dues : Line ℕ → List Due
met_dues l = due 5 (refusal5 l) ∷ due 6 (refusal6 l) ∷ due 7 (refusal7 l) ∷ due 8 (refusal8 l) ∷ due 9 (refusal9 l) ∷ []

abbrev pub bracket_dues : Line ℕ → List Due
bracket_dues l = due 10 (refusal10 l) ∷ due 21 (refusal21 l) ∷ due 11 (refusal11 l) ∷ due 12 (refusal12 l) ∷ []

abbrev pub uncut_dues : Line ℕ → List Due
uncut_dues l = due 19 (refusal19 l) ∷ []

-- ---- 5 to 9, and 19, as they are met: of a part, of a bracket, of a line
abbrev pub part_codes : Part ℕ → List ℕ
part_codes p =
    map (code deep_rank) (deep_part p)
    ++ (map (code over_rank) (long_text p ++ long_label p)
    ++ (map (code wide_rank) (wide_mass p.value ++ wide_score p)
    ++ (map (code barred_rank) (due_at (not_here p) p.at)
    ++ (map (code digits_rank) (due_at (is_number_name p) p.at)
    ++ map (code uncut_rank) (due_at (is_uncut p) p.at)))))

-- what its label adds, where the part begins at i: 6 at the label's first byte, 7 at its score, 8 at the part
abbrev pub label_codes : ℕ → Label ℕ → List ℕ
label_codes i l =
    map (code over_rank) (due_at (ltb label_limit (length l.name)) l.at)
    ++ (map (code wide_rank) (given l.score wide [])
    ++ map (code barred_rank) (due_at (is_link l.name) i))

-- the parts of a bracket, and those past the limit
abbrev pub parts_codes : List (Part ℕ) → List ℕ
parts_codes ps = flat part_codes ps ++ map (code over_rank) (drop part_limit (map (λ p. p.at) ps))

-- its parts, its count and its places
abbrev pub bracket_codes : Bracket ℕ → List ℕ
bracket_codes k = parts_codes k.parts ++ (map (code wide_rank) (wide_count k) ++ map (code over_rank) (many_places k))

abbrev pub met_codes : List (Residue ℕ) → List (Bracket ℕ) → List ℕ
met_codes rs ks =
    flat bracket_codes ks
    ++ (map (code over_rank) (drop bracket_limit (map (λ k. k.at) ks))
    ++ (map (code over_rank) (many_declarations ks)
    ++ map (code over_rank) (drop residue_limit (map (λ r. r.at) rs))))

-- 10, 21, 11 and 12
abbrev pub ruled_codes : List (Bracket ℕ) → List ℕ
ruled_codes ks =
    map (code info_rank) (flat (λ k. due_at (unknown_or_labile k.kind && only_info k) k.at) ks)
    ++ (map (code declared_rank) (flat (λ k. due_at (is_declared k.kind && only_info k) k.at) ks)
    ++ (map (code label_rank) (wrongly_labelled [] (defined ks) (referred_to ks) ks)
    ++ map (code copies_rank) (passing 0 ks)))
