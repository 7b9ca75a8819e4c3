-- What is met part by part has the same lowest code as the rules one by one: the lowest of a list in pieces is the lower of the pieces' lowest, whatever their order.
use Rattle.std.specs.Prelude.{◌≡◌, ◌&&◌, drop}
use Rattle.std.proofs.Math.Path.{refl, sym, ap, ap₂}
use Rattle.std.proofs.Common.{◌∙◌}
use mathlib.Core.List.{List, [], ◌∷◌, ◌++◌, map, append-nil, append_assoc, map-append}
use Prim.Native.Nat.{ℕ, ◌+◌, ◌≤◌, min}
use native.Mathlib.Omega.{arith}
use Rattle.std.proofs.Math.ListN.{length}
use Rattle.scope.specs.Limits.{residue_limit, bracket_limit, part_limit}
use Rattle.scope.specs.Line.{Part, Bracket, Residue, Line}
use Rattle.scope.specs.Lists.{flat}
use Rattle.scope.specs.Refusals.{Due, line_refusals, refusal5, refusal6, refusal7, refusal8, refusal9, refusal10, refusal21, refusal11, refusal12, refusal19, due_at, deep_part, long_text, long_label, many_places, many_declarations, over_in, wide_mass, wide_score, wide_count, not_here, is_number_name, wrongly_labelled, passing, is_uncut}
use Rattle.scope.specs.Modifications.{only_info, defined, referred_to}
use Rattle.scope.specs.Kinds.{unknown_or_labile, is_declared}
use Rattle.dues.specs.Ranks.{code, codes, lowest}
use Rattle.dues.specs.First.{lowest_append}
use Rattle.dues.specs.Lines.{deep_rank, over_rank, wide_rank, barred_rank, digits_rank, info_rank, declared_rank, label_rank, copies_rank, uncut_rank, met_dues, bracket_dues, uncut_dues, part_codes, parts_codes, bracket_codes, met_codes, ruled_codes}

pub lowest_below : (n : ℕ) (l : List ℕ) → lowest n l ≤ n
unfolding lowest
lowest_below n [] = omega arith
lowest_below n (c ∷ l) = omega (arith, lowest_below n l)

pub lowest_min : (n m : ℕ) (l : List ℕ) → m ≤ n → lowest m l ≡ min m (lowest n l)
unfolding lowest
lowest_min n m [] h = omega arith
lowest_min n m (c ∷ l) h = ap (min c) (lowest_min n m l h) ∙ (let e : min c (min m (lowest n l)) ≡ min m (min c (lowest n l)) = omega arith in e)

-- of a list in two pieces
pub lowest_two : (n : ℕ) (a b : List ℕ) → lowest n (a ++ b) ≡ min (lowest n a) (lowest n b)
lowest_two n a b =
    lowest_append n a b ∙ lowest_min n (lowest n b) a (lowest_below n b)
    ∙ (let e : min (lowest n b) (lowest n a) ≡ min (lowest n a) (lowest n b) = omega arith in e)

-- ---- the lower of several, in any order
pub min_comm : (a b : ℕ) → min a b ≡ min b a
min_comm a b = omega arith

pub min_assoc : (a b c : ℕ) → min (min a b) c ≡ min a (min b c)
min_assoc a b c = omega arith

pub min_left_comm : (a b c : ℕ) → min a (min b c) ≡ min b (min a c)
min_left_comm a b c = omega arith

pub ruleset mins = (min_assoc, min_comm, min_left_comm)

module _ (n : ℕ) where
  -- the lowest of some numbers, one for each element, or n
  unfoldable lows : {A : Type 0} → (A → ℕ) → List A → ℕ
  lows g [] = n
  lows g (x ∷ l) = min (g x) (lows g l)

  lows_two : {A : Type 0} (g h : A → ℕ) (l : List A) → lows (λ x. min (g x) (h x)) l ≡ min (lows g l) (lows h l)
  unfolding lows
  lows_two g h [] = omega arith
  lows_two g h (x ∷ l) =
      ap (min (min (g x) (h x))) (lows_two g h l)
      ∙ (let e : min (min (g x) (h x)) (min (lows g l) (lows h l)) ≡ min (min (g x) (lows g l)) (min (h x) (lows h l)) = omega arith in e)

  lows_six : {A : Type 0} (f g h i j k : A → ℕ) (l : List A)
      → lows (λ x. min (f x) (min (g x) (min (h x) (min (i x) (min (j x) (k x)))))) l
      ≡ min (lows f l) (min (lows g l) (min (lows h l) (min (lows i l) (min (lows j l) (lows k l)))))
  lows_six f g h i j k l =
      lows_two f (λ x. min (g x) (min (h x) (min (i x) (min (j x) (k x))))) l
      ∙ ap (min (lows f l))
      (lows_two g (λ x. min (h x) (min (i x) (min (j x) (k x)))) l
      ∙ ap (min (lows g l))
      (lows_two h (λ x. min (i x) (min (j x) (k x))) l
      ∙ ap (min (lows h l)) (lows_two i (λ x. min (j x) (k x)) l ∙ ap (min (lows i l)) (lows_two j k l))))

  lows_same : {A : Type 0} (g h : A → ℕ) → ((x : A) → g x ≡ h x) → (l : List A) → lows g l ≡ lows h l
  unfolding lows
  lows_same g h e [] = refl
  lows_same g h e (x ∷ l) = ap₂ min (e x) (lows_same g h e l)

  lowest_flat : {A : Type 0} (f : A → List ℕ) (l : List A) → lowest n (flat f l) ≡ lows (λ x. lowest n (f x)) l
  unfolding lows lowest flat
  lowest_flat f [] = refl
  lowest_flat f (x ∷ l) = lowest_two n (f x) (flat f l) ∙ ap (min (lowest n (f x))) (lowest_flat f l)

  -- the lowest code of a rank, at some places
  unfoldable pub low : ℕ → List ℕ → ℕ
  low r ps = lowest n (map (code r) ps)

  pub low_two : (r : ℕ) (a b : List ℕ) → low r (a ++ b) ≡ min (low r a) (low r b)
  unfolding low
  low_two r a b = ap (lowest n) (map-append (code r) a b) ∙ lowest_two n (map (code r) a) (map (code r) b)

  low_flat : {A : Type 0} (r : ℕ) (f : A → List ℕ) (l : List A) → low r (flat f l) ≡ lows (λ x. low r (f x)) l
  unfolding lows lowest flat low
  low_flat r f [] = refl
  low_flat r f (x ∷ l) = low_two r (f x) (flat f l) ∙ ap (min (low r (f x))) (low_flat r f l)

  -- ---- a part, by ranks
  abbrev pub p5 : Part ℕ → ℕ
  p5 p = low deep_rank (deep_part p)

  abbrev pub p6 : Part ℕ → ℕ
  p6 p = low over_rank (long_text p ++ long_label p)

  abbrev pub p7 : Part ℕ → ℕ
  p7 p = low wide_rank (wide_mass p.value ++ wide_score p)

  abbrev pub p8 : Part ℕ → ℕ
  p8 p = low barred_rank (due_at (not_here p) p.at)

  abbrev pub p9 : Part ℕ → ℕ
  p9 p = low digits_rank (due_at (is_number_name p) p.at)

  abbrev pub p19 : Part ℕ → ℕ
  p19 p = low uncut_rank (due_at (is_uncut p) p.at)

  pub part_low : (p : Part ℕ) → lowest n (part_codes p) ≡ min (p5 p) (min (p6 p) (min (p7 p) (min (p8 p) (min (p9 p) (p19 p)))))
  unfolding low
  part_low p =
      lowest_two n (map (code deep_rank) (deep_part p)) _
      ∙ ap (min (p5 p))
      (lowest_two n (map (code over_rank) (long_text p ++ long_label p)) _
      ∙ ap (min (p6 p))
      (lowest_two n (map (code wide_rank) (wide_mass p.value ++ wide_score p)) _
      ∙ ap (min (p7 p))
      (lowest_two n (map (code barred_rank) (due_at (not_here p) p.at)) _
      ∙ ap (min (p8 p)) (lowest_two n (map (code digits_rank) (due_at (is_number_name p) p.at)) _))))

  parts_low : (ps : List (Part ℕ))
      → lowest n (flat part_codes ps) ≡ min (lows p5 ps) (min (lows p6 ps) (min (lows p7 ps) (min (lows p8 ps) (min (lows p9 ps) (lows p19 ps)))))
  parts_low ps =
      lowest_flat part_codes ps
      ∙ lows_same (λ p. lowest n (part_codes p)) (λ p. min (p5 p) (min (p6 p) (min (p7 p) (min (p8 p) (min (p9 p) (p19 p)))))) part_low ps
      ∙ lows_six p5 p6 p7 p8 p9 p19 ps

  -- ---- a bracket, by ranks
  abbrev b5 : Bracket ℕ → ℕ
  b5 k = lows p5 k.parts

  abbrev b6 : Bracket ℕ → ℕ
  b6 k = min (low over_rank (drop part_limit (map (λ p. p.at) k.parts))) (min (lows p6 k.parts) (low over_rank (many_places k)))

  abbrev b7 : Bracket ℕ → ℕ
  b7 k = min (low wide_rank (wide_count k)) (lows p7 k.parts)

  abbrev b8 : Bracket ℕ → ℕ
  b8 k = lows p8 k.parts

  abbrev b9 : Bracket ℕ → ℕ
  b9 k = lows p9 k.parts

  abbrev b19 : Bracket ℕ → ℕ
  b19 k = lows p19 k.parts

  bracket_low : (k : Bracket ℕ) → lowest n (bracket_codes k) ≡ min (b5 k) (min (b6 k) (min (b7 k) (min (b8 k) (min (b9 k) (b19 k)))))
  unfolding low
  bracket_low k =
      lowest_two n (parts_codes k.parts) (map (code wide_rank) (wide_count k) ++ map (code over_rank) (many_places k))
      ∙ ap₂ min
      (lowest_two n (flat part_codes k.parts) (map (code over_rank) (drop part_limit (map (λ p. p.at) k.parts)))
      ∙ ap (λ x. min x (low over_rank (drop part_limit (map (λ p. p.at) k.parts)))) (parts_low k.parts))
      (lowest_two n (map (code wide_rank) (wide_count k)) (map (code over_rank) (many_places k)))
      ∙ mixed (lows p5 k.parts) (lows p6 k.parts) (lows p7 k.parts) (lows p8 k.parts) (lows p9 k.parts) (lows p19 k.parts) _ _ _
    where
      mixed : (a b c d e f x y z : ℕ)
          → min (min (min a (min b (min c (min d (min e f))))) x) (min y z) ≡ min a (min (min x (min b z)) (min (min y c) (min d (min e f))))
      mixed a b c d e f x y z = simp mins

  brackets_low : (ks : List (Bracket ℕ))
      → lowest n (flat bracket_codes ks) ≡ min (lows b5 ks) (min (lows b6 ks) (min (lows b7 ks) (min (lows b8 ks) (min (lows b9 ks) (lows b19 ks)))))
  brackets_low ks =
      lowest_flat bracket_codes ks
      ∙ lows_same (λ k. lowest n (bracket_codes k)) (λ k. min (b5 k) (min (b6 k) (min (b7 k) (min (b8 k) (min (b9 k) (b19 k)))))) bracket_low ks
      ∙ lows_six b5 b6 b7 b8 b9 b19 ks

  -- ---- the rules one by one
  -- the parts of all brackets, for a rank
  in_parts : (r : ℕ) (f : Part ℕ → List ℕ) (ks : List (Bracket ℕ)) → low r (flat (λ k. flat f k.parts) ks) ≡ lows (λ k. lows (λ p. low r (f p)) k.parts) ks
  in_parts r f ks =
      low_flat r (λ k. flat f k.parts) ks
      ∙ lows_same (λ k. low r (flat f k.parts)) (λ k. lows (λ p. low r (f p)) k.parts) (λ k. low_flat r f k.parts) ks

  -- the same, where no rule is left
  last_rule : (r : ℕ) (f : Part ℕ → List ℕ) (ks : List (Bracket ℕ))
      → lowest n (map (code r) (flat (λ k. flat f k.parts) ks) ++ []) ≡ lows (λ k. lows (λ p. low r (f p)) k.parts) ks
  unfolding low
  last_rule r f ks = ap (lowest n) (append-nil (map (code r) (flat (λ k. flat f k.parts) ks))) ∙ in_parts r f ks

  -- and something of each bracket before them
  with_parts_lem : (r : ℕ) (g : Bracket ℕ → List ℕ) (f : Part ℕ → List ℕ) (ks : List (Bracket ℕ))
      → low r (flat (λ k. g k ++ flat f k.parts) ks) ≡ lows (λ k. min (low r (g k)) (lows (λ p. low r (f p)) k.parts)) ks
  with_parts_lem r g f ks =
      low_flat r (λ k. g k ++ flat f k.parts) ks
      ∙ lows_same (λ k. low r (g k ++ flat f k.parts)) (λ k. min (low r (g k)) (lows (λ p. low r (f p)) k.parts))
      (λ k. low_two r (g k) (flat f k.parts) ∙ ap (min (low r (g k))) (low_flat r f k.parts)) ks

  -- and something behind them
  around_parts : (r : ℕ) (g e : Bracket ℕ → List ℕ) (f : Part ℕ → List ℕ) (ks : List (Bracket ℕ))
      → low r (flat (λ k. g k ++ (flat f k.parts ++ e k)) ks) ≡ lows (λ k. min (low r (g k)) (min (lows (λ p. low r (f p)) k.parts) (low r (e k)))) ks
  around_parts r g e f ks =
      low_flat r (λ k. g k ++ (flat f k.parts ++ e k)) ks
      ∙ lows_same (λ k. low r (g k ++ (flat f k.parts ++ e k))) (λ k. min (low r (g k)) (min (lows (λ p. low r (f p)) k.parts) (low r (e k))))
      (λ k. low_two r (g k) (flat f k.parts ++ e k)
      ∙ ap (min (low r (g k))) (low_two r (flat f k.parts) (e k) ∙ ap (λ x. min x (low r (e k))) (low_flat r f k.parts))) ks

  over_low : (rs : List (Residue ℕ)) (ks : List (Bracket ℕ))
      → low over_rank (drop residue_limit (map (λ r. r.at) rs) ++ (drop bracket_limit (map (λ k. k.at) ks) ++ (many_declarations ks ++ flat over_in ks)))
      ≡ min (low over_rank (drop residue_limit (map (λ r. r.at) rs)))
      (min (low over_rank (drop bracket_limit (map (λ k. k.at) ks))) (min (low over_rank (many_declarations ks)) (lows b6 ks)))
  over_low rs ks =
      low_two over_rank (drop residue_limit (map (λ r. r.at) rs)) _
      ∙ ap (min (low over_rank (drop residue_limit (map (λ r. r.at) rs))))
      (low_two over_rank (drop bracket_limit (map (λ k. k.at) ks)) _
      ∙ ap (min (low over_rank (drop bracket_limit (map (λ k. k.at) ks))))
      (low_two over_rank (many_declarations ks) (flat over_in ks)
      ∙ ap (min (low over_rank (many_declarations ks)))
      (around_parts over_rank (λ k. drop part_limit (map (λ p. p.at) k.parts)) many_places (λ p. long_text p ++ long_label p) ks)))

  met_low : (rs : List (Residue ℕ)) (ks : List (Bracket ℕ))
      → lowest n (met_codes rs ks)
      ≡ min (min (lows b5 ks) (min (lows b6 ks) (min (lows b7 ks) (min (lows b8 ks) (min (lows b9 ks) (lows b19 ks))))))
      (min (low over_rank (drop bracket_limit (map (λ k. k.at) ks)))
      (min (low over_rank (many_declarations ks)) (low over_rank (drop residue_limit (map (λ r. r.at) rs)))))
  unfolding low
  met_low rs ks =
      lowest_two n (flat bracket_codes ks) _
      ∙ ap₂ min (brackets_low ks)
      (lowest_two n (map (code over_rank) (drop bracket_limit (map (λ k. k.at) ks))) _
      ∙ ap (min (low over_rank (drop bracket_limit (map (λ k. k.at) ks)))) (lowest_two n (map (code over_rank) (many_declarations ks)) _))

  -- ---- rules in two pieces
  codes_append : (rank : ℕ) (a b : List Due) → codes rank (a ++ b) ≡ codes rank a ++ codes (rank + length a) b
  unfolding codes
  codes_append rank [] b = ap (λ k. codes k b) (let e : rank ≡ rank + 0 = omega arith in e)
  codes_append rank (r ∷ a) b =
      ap (λ t. map (code rank) r.places ++ t)
      (codes_append (rank + 1) a b ∙ ap (λ k. codes (rank + 1) a ++ codes k b) (let e : rank + 1 + length a ≡ rank + length (r ∷ a) = omega arith in e))
      ∙ sym (append_assoc (map (code rank) r.places) (codes (rank + 1) a) (codes (rank + length (r ∷ a)) b))

  lowest_pieces : (rank : ℕ) (a b : List Due) → lowest n (codes rank (a ++ b)) ≡ min (lowest n (codes rank a)) (lowest n (codes (rank + length a) b))
  lowest_pieces rank a b = ap (lowest n) (codes_append rank a b) ∙ lowest_two n (codes rank a) (codes (rank + length a) b)

  -- what is met has the lowest code of 5 to 9 and 19
  met_alone : (l : Line ℕ)
      → lowest n (met_codes l.residues l.brackets) ≡ min (lowest n (codes deep_rank (met_dues l))) (lowest n (codes uncut_rank (uncut_dues l)))
  unfolding low codes refusal5 refusal6 refusal7 refusal8 refusal9 refusal19
  met_alone l =
      met_low l.residues l.brackets
      ∙ mixed _ _ _ _ _ _ _ _ _
      ∙ sym
      (ap₂ min
      (lowest_two n (map (code deep_rank) (flat (λ k. flat deep_part k.parts) l.brackets)) _
      ∙ ap₂ min (in_parts deep_rank deep_part l.brackets)
      (lowest_two n (map (code over_rank) (drop residue_limit (map (λ r. r.at) l.residues) ++ (drop bracket_limit (map (λ k. k.at) l.brackets) ++ (many_declarations l.brackets ++ flat over_in l.brackets)))) _
      ∙ ap₂ min (over_low l.residues l.brackets)
      (lowest_two n (map (code wide_rank) (flat (λ k. wide_count k ++ flat (λ p. wide_mass p.value ++ wide_score p) k.parts) l.brackets)) _
      ∙ ap₂ min (with_parts_lem wide_rank wide_count (λ p. wide_mass p.value ++ wide_score p) l.brackets)
      (lowest_two n (map (code barred_rank) (flat (λ k. flat (λ p. due_at (not_here p) p.at) k.parts) l.brackets)) _
      ∙ ap₂ min (in_parts barred_rank (λ p. due_at (not_here p) p.at) l.brackets)
      (last_rule digits_rank (λ p. due_at (is_number_name p) p.at) l.brackets)))))
      (last_rule uncut_rank (λ p. due_at (is_uncut p) p.at) l.brackets))
    where
      mixed : (a b c d e f x y z : ℕ)
          → min (min a (min b (min c (min d (min e f))))) (min x (min y z)) ≡ min (min a (min (min z (min x (min y b))) (min c (min d e)))) f
      mixed a b c d e f x y z = simp mins

  pub ruled_alone : (l : Line ℕ) → lowest n (ruled_codes l.brackets) ≡ lowest n (codes info_rank (bracket_dues l))
  unfolding codes refusal10 refusal21 refusal11 refusal12
  ruled_alone l =
      ap (λ t. lowest n (map (code info_rank) (flat (λ k. due_at (unknown_or_labile k.kind && only_info k) k.at) l.brackets)
      ++ (map (code declared_rank) (flat (λ k. due_at (is_declared k.kind && only_info k) k.at) l.brackets)
      ++ (map (code label_rank) (wrongly_labelled [] (defined l.brackets) (referred_to l.brackets) l.brackets) ++ t))))
      (sym (append-nil (map (code copies_rank) (passing 0 l.brackets))))

  -- what is met, and what 10, 21, 11 and 12 add, have the lowest code of the rules
  pub met : (l : Line ℕ) → lowest n (met_codes l.residues l.brackets ++ ruled_codes l.brackets) ≡ lowest n (codes 0 (line_refusals l))
  met l =
      lowest_two n (met_codes l.residues l.brackets) (ruled_codes l.brackets)
      ∙ ap₂ min (met_alone l) (ruled_alone l)
      ∙ between _ _ _
      ∙ sym (lowest_pieces deep_rank (met_dues l) (bracket_dues l ++ uncut_dues l) ∙ ap (min _) (lowest_pieces info_rank (bracket_dues l) (uncut_dues l)))
    where
      between : (a b c : ℕ) → min (min a c) b ≡ min a (min b c)
      between a b c = simp mins
