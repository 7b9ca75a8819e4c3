-- The lowest code, with what is due of residues more, of a bracket more, of a count, of places, and of brackets whose kind is settled.
use mathlib.Core.Path.{◌≡◌, refl, sym, ap, ap₂, ◌∙◌}
use mathlib.Core.Bool.{Bool, true, false, cond, ◌&&◌, ◌||◌}
use mathlib.Core.Option.{none}
use mathlib.Core.List.{List, [], ◌∷◌, ◌++◌, map, append-nil, map-append}
use Prim.Native.Nat.{ℕ, zero, suc, ◌+◌, ◌-◌, ◌≤◌, ◌<◌, min}
use native.Mathlib.Omega.{arith}
use lib.Dec.{leb, eqb, ltb}
use lib.ListN.{length, drop, length-map}
use lib.Seq.{drop-nil}
use borrow.Author.Tests.{eq-eqb, ne_eqb, lt-ltb, le-ltb, eqb-true, eqb-false, ltb-true, ltb-false}
use Rattle.basics.specs.Choice.{by_test}
use Rattle.basics.specs.Lists.{flat_append, flat_snoc, flat_map, map_map, keep_append}
use Rattle.scope.specs.Lists.{given, flat, keep, tabled}
use Rattle.scope.specs.Limits.{residue_limit, bracket_limit, count_limit, place_limit, declaration_limit}
use Rattle.scope.specs.Kinds.{is_declared}
use Rattle.scope.specs.Line.{Place, Bracket, Residue}
use Rattle.scope.specs.Reading.{as_nTerm, times, declared_at}
use Rattle.scope.specs.Refusals.{due_at, wide_count, many_places, declarations, many_declarations}
use Rattle.dues.specs.Ranks.{code, lowest}
use Rattle.dues.specs.Lines.{over_rank, wide_rank, parts_codes, bracket_codes, met_codes}
use Rattle.dues.specs.Met.{lowest_two, lowest_below}
use Rattle.dues.specs.Steps.{lowest_on, lowest_after}
use Rattle.inside.proofs.Lists.{drop_snoc}
use Rattle.walk.specs.Steps.{wrong_count}

-- ---- the lower of several, in another order
assoc : (a b c : ℕ) → min a (min b c) ≡ min (min a b) c
assoc a b c = omega arith

pull : (a b c : ℕ) → min (min a b) c ≡ min (min a c) b
pull a b c = omega arith

last_behind : (f b d c x : ℕ) → min f (min b (min d (min c x))) ≡ min (min f (min b (min d c))) x
last_behind f b d c x = ap (λ t. min f (min b t)) (assoc d c x) ∙ ap (min f) (assoc b (min d c) x) ∙ assoc f (min b (min d c)) x

-- one more of each of three
three_behind : (f p b b' d d' c : ℕ) → min (min f p) (min (min b b') (min (min d d') c)) ≡ min (min (min (min f (min b (min d c))) b') d') p
three_behind f p b b' d d' c =
    let g = min b (min d c) in
    let h = min f g in
    let two : min (min b b') (min (min d d') c) ≡ min (min g b') d' = ap (min (min b b')) (pull d d' c) ∙ assoc (min b b') (min d c) d' ∙ ap (λ t. min t d') (pull b b' (min d c)) in
    ap (min (min f p)) two ∙ assoc (min f p) (min g b') d'
    ∙ ap (λ t. min t d') (assoc (min f p) g b' ∙ ap (λ t. min t b') (pull f p g) ∙ pull h p b')
    ∙ pull (min h b') p d'

one_behind : (f k x r : ℕ) → min (min f (min k x)) r ≡ min (min (min f k) r) x
one_behind f k x r = ap (λ t. min t r) (assoc f k x) ∙ pull (min f k) x r

-- ---- the lowest of what is due of the brackets, of those past their limit, of declarations past theirs, and of residues past theirs
abbrev brackets_past : List (Bracket ℕ) → List ℕ
brackets_past ks = map (code over_rank) (drop bracket_limit (map (λ k. k.at) ks))

abbrev declarations_past : List (Bracket ℕ) → List ℕ
declarations_past ks = map (code over_rank) (many_declarations ks)

abbrev residues_past : List (Residue ℕ) → List ℕ
residues_past rs = map (code over_rank) (drop residue_limit (map (λ r. r.at) rs))

module _ (n : ℕ) where
  met_low : (rs : List (Residue ℕ)) (ks : List (Bracket ℕ))
      → lowest n (met_codes rs ks) ≡ min (lowest n (flat bracket_codes ks)) (min (lowest n (brackets_past ks)) (min (lowest n (declarations_past ks)) (lowest n (residues_past rs))))
  met_low rs ks =
      lowest_two n (flat bracket_codes ks) _
      ∙ ap (min (lowest n (flat bracket_codes ks)))
      (lowest_two n (brackets_past ks) _ ∙ ap (min (lowest n (brackets_past ks))) (lowest_two n (declarations_past ks) (residues_past rs)))

  -- some more
  low_more : (a b c : List ℕ) → c ≡ a ++ b → lowest n c ≡ min (lowest n a) (lowest n b)
  low_more a b c e = ap (lowest n) e ∙ lowest_two n a b

pub met_none : (n : ℕ) → n ≡ lowest n (met_codes [] [])
unfolding lowest flat keep
met_none n =
    ap₂ (λ a b. lowest n (map (code over_rank) a ++ map (code over_rank) b)) (sym (drop-nil bracket_limit)) (sym (drop-nil residue_limit))
    ∙ ap (λ d. lowest n (map (code over_rank) (drop bracket_limit []) ++ (map (code over_rank) d ++ map (code over_rank) (drop residue_limit [])))) (sym (drop-nil declaration_limit))

-- ---- residues
drop_append : {A : Type 0} (k : ℕ) (l m : List A) → drop k (l ++ m) ≡ drop k l ++ drop (k - length l) m
drop_append zero l m = let e : 0 ≡ 0 - length l = omega arith in ap (λ j. l ++ drop j m) e
drop_append (suc k) [] m = let e : suc k ≡ suc k - 0 = omega arith in ap (λ j. drop j m) e
drop_append (suc k) (x ∷ l) m = let e : k - length l ≡ suc k - suc (length l) = omega arith in drop_append k l m ∙ ap (λ j. drop k l ++ drop j m) e

-- those past the limit
pub met_residues : (n : ℕ) (rs xs : List (Residue ℕ)) (ks : List (Bracket ℕ))
    → lowest n (met_codes (rs ++ xs) ks) ≡ lowest (lowest n (met_codes rs ks)) (map (code over_rank) (drop (residue_limit - length rs) (map (λ r. r.at) xs)))
met_residues n rs xs ks =
    let places : List (Residue ℕ) → List ℕ = map (λ r. r.at) in
    let C = residues_past rs in
    let D = map (code over_rank) (drop (residue_limit - length rs) (places xs)) in
    let split : residues_past (rs ++ xs) ≡ C ++ D =
    ap (λ t. map (code over_rank) (drop residue_limit t)) (map-append (λ r. r.at) rs xs)
    ∙ ap (map (code over_rank)) (drop_append residue_limit (places rs) (places xs))
    ∙ map-append (code over_rank) (drop residue_limit (places rs)) (drop (residue_limit - length (places rs)) (places xs))
    ∙ ap (λ k. C ++ map (code over_rank) (drop (residue_limit - k) (places xs))) (length-map rs (λ r. r.at)) in
    let F = lowest n (flat bracket_codes ks) in
    let B = lowest n (brackets_past ks) in
    let E = lowest n (declarations_past ks) in
    met_low n (rs ++ xs) ks
    ∙ ap (λ t. min F (min B (min E t))) (low_more n C D _ split)
    ∙ last_behind F B E (lowest n C) (lowest n D)
    ∙ ap (λ t. min t (lowest n D)) (sym (met_low n rs ks))
    ∙ sym (lowest_on n (met_codes rs ks) D)

-- places one behind another: the first counts
run_due : (n r i m : ℕ) → lowest n (map (code r) (tabled (λ j. j) i m)) ≡ lowest n (map (code r) (due_at (ltb 0 m) i))
unfolding lowest tabled
run_due n r i zero = refl
run_due n r i (suc m) =
    rw (lt-ltb 0 (suc m) (omega arith)) (ap (min (code r i)) (run_due n r (i + 1) m) ∙ go (ltb 0 m))
  where
    go : (t : Bool) → min (code r i) (lowest n (map (code r) (due_at t (i + 1)))) ≡ min (code r i) n
    go true = omega arith
    go false = refl

drop_tabled : (k i m : ℕ) → drop k (tabled (λ j. j) i m) ≡ tabled (λ j. j) (i + k) (m - k)
unfolding tabled
drop_tabled zero i m = let e : i ≡ i + 0 = omega arith in let f : m ≡ m - 0 = omega arith in ap₂ (tabled (λ j. j)) e f
drop_tabled (suc k) i zero = let e : 0 ≡ 0 - suc k = omega arith in ap (tabled (λ j. j) (i + suc k)) e
drop_tabled (suc k) i (suc m) =
    let e : i + 1 + k ≡ i + suc k = omega arith in
    let f : m - k ≡ suc m - suc k = omega arith in
    drop_tabled k (i + 1) m ∙ ap₂ (tabled (λ j. j)) e f

-- m residues at i, behind k others
pub past_due : (n r i m k limit : ℕ) → 0 < m
    → lowest n (map (code r) (drop (limit - k) (tabled (λ j. j) i m))) ≡ lowest n (map (code r) (due_at (ltb limit (k + m)) (i + (limit - k))))
past_due n r i m k limit h =
    ap (λ t. lowest n (map (code r) t)) (drop_tabled (limit - k) i m)
    ∙ run_due n r (i + (limit - k)) (m - (limit - k))
    ∙ ap (λ t. lowest n (map (code r) (due_at t (i + (limit - k)))))
    (by_test (ltb limit (k + m)) (λ t. lt-ltb 0 (m - (limit - k)) (omega (arith, ltb-true limit (k + m) t)) ∙ sym t) (λ t. le-ltb 0 (m - (limit - k)) (omega (arith, ltb-false limit (k + m) t)) ∙ sym t))

-- ---- a bracket
-- what is due of one bracket more, and past the limits with it
brackets_more : (n : ℕ) (ks : List (Bracket ℕ)) (k : Bracket ℕ) → lowest n (flat bracket_codes (ks ++ (k ∷ []))) ≡ min (lowest n (flat bracket_codes ks)) (lowest n (bracket_codes k))
brackets_more n ks k = low_more n (flat bracket_codes ks) (bracket_codes k) _ (flat_snoc bracket_codes ks k)

past_more : (n limit : ℕ) (l : List ℕ) (p : ℕ)
    → lowest n (map (code over_rank) (drop limit (l ++ (p ∷ [])))) ≡ min (lowest n (map (code over_rank) (drop limit l))) (lowest n (map (code over_rank) (due_at (leb limit (length l)) p)))
past_more n limit l p =
    low_more n (map (code over_rank) (drop limit l)) (map (code over_rank) (due_at (leb limit (length l)) p)) _
    (ap (map (code over_rank)) (drop_snoc limit l p) ∙ map-append (code over_rank) (drop limit l) (due_at (leb limit (length l)) p))

brackets_past_lem : (n : ℕ) (ks : List (Bracket ℕ)) (k : Bracket ℕ)
    → lowest n (brackets_past (ks ++ (k ∷ []))) ≡ min (lowest n (brackets_past ks)) (lowest n (map (code over_rank) (due_at (leb bracket_limit (length ks)) k.at)))
brackets_past_lem n ks k =
    ap (λ l. lowest n (map (code over_rank) (drop bracket_limit l))) (map-append (λ x. x.at) ks (k ∷ []))
    ∙ past_more n bracket_limit (map (λ x. x.at) ks) k.at
    ∙ ap (λ j. min (lowest n (brackets_past ks)) (lowest n (map (code over_rank) (due_at (leb bracket_limit j) k.at)))) (length-map ks (λ x. x.at))

-- a declaration more, or none
kept_last : {A : Type 0} (f : A → Bool) (x : A) → keep f (x ∷ []) ≡ cond (f x) (x ∷ []) []
unfolding keep
kept_last f x = append-nil (cond (f x) (x ∷ []) [])

declared_more : (ks : List (Bracket ℕ)) (k : Bracket ℕ) → declarations (ks ++ (k ∷ [])) ≡ declarations ks ++ cond (is_declared k.kind) (k ∷ []) []
declared_more ks k = keep_append (λ x. is_declared x.kind) ks (k ∷ []) ∙ ap (λ t. declarations ks ++ t) (kept_last (λ x. is_declared x.kind) k)

none_more : (n x : ℕ) → x ≤ n → x ≡ min x (lowest n [])
unfolding lowest
none_more n x h = omega arith

declarations_past_lem : (n : ℕ) (ks : List (Bracket ℕ)) (k : Bracket ℕ)
    → lowest n (declarations_past (ks ++ (k ∷ [])))
    ≡ min (lowest n (declarations_past ks)) (lowest n (map (code over_rank) (due_at (is_declared k.kind && leb declaration_limit (length (declarations ks))) (k.at - 1))))
declarations_past_lem n ks k =
    let places : List (Bracket ℕ) → List ℕ = map (λ x. x.at - 1) in
    by_test (is_declared k.kind)
    (λ t.
    rw t
    (ap (λ l. lowest n (map (code over_rank) (drop declaration_limit (places l)))) (declared_more ks k ∙ ap (λ b. declarations ks ++ cond b (k ∷ []) []) t)
    ∙ ap (λ l. lowest n (map (code over_rank) (drop declaration_limit l))) (map-append (λ x. x.at - 1) (declarations ks) (k ∷ []))
    ∙ past_more n declaration_limit (places (declarations ks)) (k.at - 1)
    ∙ ap (λ j. min (lowest n (declarations_past ks)) (lowest n (map (code over_rank) (due_at (leb declaration_limit j) (k.at - 1))))) (length-map (declarations ks) (λ x. x.at - 1))))
    (λ t.
    rw t
    (ap (λ l. lowest n (map (code over_rank) (drop declaration_limit (places l)))) (declared_more ks k ∙ ap (λ b. declarations ks ++ cond b (k ∷ []) []) t ∙ append-nil (declarations ks))
    ∙ none_more n _ (lowest_below n (declarations_past ks))))

-- that has no count and no places yet
pub met_bracket : (n : ℕ) (rs : List (Residue ℕ)) (ks : List (Bracket ℕ)) (k : Bracket ℕ) → k.counted ≡ none → k.places ≡ []
    → lowest n (met_codes rs (ks ++ (k ∷ [])))
    ≡ lowest
    (lowest (lowest (lowest n (met_codes rs ks)) (map (code over_rank) (due_at (leb bracket_limit (length ks)) k.at)))
    (map (code over_rank) (due_at (is_declared k.kind && leb declaration_limit (length (declarations ks))) (k.at - 1))))
    (parts_codes k.parts)
met_bracket n rs ks k fresh bare =
    let M = met_codes rs ks in
    let P = parts_codes k.parts in
    let b = map (code over_rank) (due_at (leb bracket_limit (length ks)) k.at) in
    let d = map (code over_rank) (due_at (is_declared k.kind && leb declaration_limit (length (declarations ks))) (k.at - 1)) in
    let due : bracket_codes k ≡ P =
    ap₂ (λ o ps. P ++ (map (code wide_rank) (given o (due_at (wrong_count k.count)) []) ++ map (code over_rank) (drop place_limit (map (λ p. p.at) ps)))) fresh bare
    ∙ ap (λ l. P ++ map (code over_rank) l) (drop-nil place_limit) ∙ append-nil P in
    let behind : lowest (lowest (lowest (lowest n M) b) d) P ≡ min (min (min (lowest n M) (lowest n b)) (lowest n d)) (lowest n P) =
    ap (λ l. lowest (lowest l d) P) (sym (lowest_after n M b)) ∙ ap (λ l. lowest l P) (sym (lowest_after n (M ++ b) d)) ∙ sym (lowest_after n ((M ++ b) ++ d) P)
    ∙ lowest_two n ((M ++ b) ++ d) P ∙ ap (λ l. min l (lowest n P)) (lowest_two n (M ++ b) d ∙ ap (λ l. min l (lowest n d)) (lowest_two n M b)) in
    let F = lowest n (flat bracket_codes ks) in
    let B = lowest n (brackets_past ks) in
    let E = lowest n (declarations_past ks) in
    let C = lowest n (residues_past rs) in
    met_low n rs (ks ++ (k ∷ []))
    ∙ ap₂ (λ x y. min x (min y (min (lowest n (declarations_past (ks ++ (k ∷ [])))) C))) (brackets_more n ks k ∙ ap (λ l. min F (lowest n l)) due) (brackets_past_lem n ks k)
    ∙ ap (λ z. min (min F (lowest n P)) (min (min B (lowest n b)) (min z C))) (declarations_past_lem n ks k)
    ∙ three_behind F (lowest n P) B (lowest n b) E (lowest n d) C
    ∙ ap (λ t. min (min (min t (lowest n b)) (lowest n d)) (lowest n P)) (sym (met_low n rs ks))
    ∙ sym behind

-- ---- a count
wide_same : (v c : ℕ) → v ≡ min (count_limit + 1) c → wrong_count v ≡ wrong_count c
wide_same v c e =
    let a : eqb v 0 ≡ eqb c 0 =
    by_test (eqb c 0) (λ t. eq-eqb v 0 (omega (arith, eqb-true c 0 t)) ∙ sym t) (λ t. ne_eqb v 0 (λ z. eqb-false c 0 t (omega arith)) ∙ sym t) in
    let b : ltb count_limit v ≡ ltb count_limit c =
    by_test (ltb count_limit c) (λ t. lt-ltb count_limit v (omega (arith, ltb-true count_limit c t)) ∙ sym t) (λ t. le-ltb count_limit v (omega (arith, ltb-false count_limit c t)) ∙ sym t) in
    ap₂ ◌||◌ a b

-- another bracket in place of the last, of the same place and kind, of which some is due besides
pub met_last : (n : ℕ) (rs : List (Residue ℕ)) (ks : List (Bracket ℕ)) (k x : Bracket ℕ) (ds : List ℕ) → x.at ≡ k.at → x.kind ≡ k.kind
    → lowest n (bracket_codes x) ≡ min (lowest n (bracket_codes k)) (lowest n ds)
    → lowest n (met_codes rs (ks ++ (x ∷ []))) ≡ lowest (lowest n (met_codes rs (ks ++ (k ∷ [])))) ds
met_last n rs ks k x ds e f g =
    let same_place = brackets_past_lem n ks x ∙ ap (λ p. min (lowest n (brackets_past ks)) (lowest n (map (code over_rank) (due_at (leb bracket_limit (length ks)) p)))) e ∙ sym (brackets_past_lem n ks k) in
    let same_kind =
    declarations_past_lem n ks x
    ∙ ap₂ (λ c p. min (lowest n (declarations_past ks)) (lowest n (map (code over_rank) (due_at (is_declared c && leb declaration_limit (length (declarations ks))) (p - 1))))) f e
    ∙ sym (declarations_past_lem n ks k) in
    let F = lowest n (flat bracket_codes ks) in
    let K = lowest n (bracket_codes k) in
    let R = min (lowest n (brackets_past (ks ++ (k ∷ [])))) (min (lowest n (declarations_past (ks ++ (k ∷ [])))) (lowest n (residues_past rs))) in
    met_low n rs (ks ++ (x ∷ []))
    ∙ ap₂ (λ y z. min (lowest n (flat bracket_codes (ks ++ (x ∷ [])))) (min y (min z (lowest n (residues_past rs))))) same_place same_kind
    ∙ ap (λ t. min t R) (brackets_more n ks x ∙ ap (min F) g)
    ∙ one_behind F K (lowest n ds) R
    ∙ ap (λ t. min (min t R) (lowest n ds)) (sym (brackets_more n ks k))
    ∙ ap (λ t. min t (lowest n ds)) (sym (met_low n rs (ks ++ (k ∷ []))))
    ∙ sym (lowest_on n (met_codes rs (ks ++ (k ∷ []))) ds)

bracket_low : (n : ℕ) (k : Bracket ℕ)
    → lowest n (bracket_codes k) ≡ min (lowest n (parts_codes k.parts)) (min (lowest n (map (code wide_rank) (wide_count k))) (lowest n (map (code over_rank) (many_places k))))
bracket_low n k =
    lowest_two n (parts_codes k.parts) _ ∙ ap (min (lowest n (parts_codes k.parts))) (lowest_two n (map (code wide_rank) (wide_count k)) (map (code over_rank) (many_places k)))

-- of the last bracket
pub met_count : (n : ℕ) (rs : List (Residue ℕ)) (ks : List (Bracket ℕ)) (k : Bracket ℕ) (v c p : ℕ) → v ≡ min (count_limit + 1) c → k.counted ≡ none
    → lowest n (met_codes rs (ks ++ (times c p k ∷ []))) ≡ lowest (lowest n (met_codes rs (ks ++ (k ∷ [])))) (map (code wide_rank) (due_at (wrong_count v) p))
unfolding lowest
met_count n rs ks k v c p e fresh =
    let x = times c p k in
    let a = bracket_low n k in
    let b = bracket_low n x in
    let none_yet : lowest n (map (code wide_rank) (wide_count k)) ≡ n = ap (λ o. lowest n (map (code wide_rank) (given o (due_at (wrong_count k.count)) []))) fresh in
    let P = lowest n (parts_codes k.parts) in
    let M = lowest n (map (code over_rank) (many_places k)) in
    let W = lowest n (map (code wide_rank) (due_at (wrong_count v) p)) in
    let same : lowest n (map (code wide_rank) (wide_count x)) ≡ W = ap (λ w. lowest n (map (code wide_rank) (due_at w p))) (sym (wide_same v c e)) in
    met_last n rs ks k x (map (code wide_rank) (due_at (wrong_count v) p)) refl refl
    (b ∙ ap (λ t. min P (min t M)) same ∙ counted_behind P W M (lowest_below n (map (code over_rank) (many_places k))) ∙ ap (λ t. min (min P (min t M)) W) (sym none_yet) ∙ ap (λ t. min t W) (sym a))
  where
    counted_behind : (x y z : ℕ) → z ≤ n → min x (min y z) ≡ min (min x (min n z)) y
    counted_behind x y z h = omega arith

-- ---- the places of a declaration
pub met_places : (n : ℕ) (rs : List (Residue ℕ)) (ks : List (Bracket ℕ)) (k : Bracket ℕ) (ps : List (Place ℕ)) → k.places ≡ []
    → lowest n (met_codes rs (ks ++ (declared_at ps k ∷ []))) ≡ lowest (lowest n (met_codes rs (ks ++ (k ∷ [])))) (map (code over_rank) (drop place_limit (map (λ p. p.at) ps)))
unfolding lowest
met_places n rs ks k ps bare =
    let x = declared_at ps k in
    let a = bracket_low n k in
    let b = bracket_low n x in
    let none_yet : lowest n (map (code over_rank) (many_places k)) ≡ n = ap (λ l. lowest n (map (code over_rank) (drop place_limit (map (λ p. p.at) l)))) bare ∙ ap (λ l. lowest n (map (code over_rank) l)) (drop-nil place_limit) in
    let P = lowest n (parts_codes k.parts) in
    let W = lowest n (map (code wide_rank) (wide_count k)) in
    let M = lowest n (map (code over_rank) (many_places x)) in
    met_last n rs ks k x (map (code over_rank) (drop place_limit (map (λ p. p.at) ps))) refl refl
    (b ∙ listed_behind P W M (lowest_below n (map (code wide_rank) (wide_count k))) ∙ ap (λ t. min (min P (min W t)) M) (sym none_yet) ∙ ap (λ t. min t M) (sym a))
  where
    listed_behind : (x y z : ℕ) → y ≤ n → min x (min y z) ≡ min (min x (min y n)) z
    listed_behind x y z h = omega arith

-- ---- the kind of the brackets at the front is settled
pub flat_settled : {A : Type 0} (f : Bracket ℕ → List A) → ((x : Bracket ℕ) → f (as_nTerm x) ≡ f x) → (bs rs : List (Bracket ℕ)) → flat f (bs ++ map as_nTerm rs) ≡ flat f (bs ++ rs)
flat_settled f e bs rs = flat_append f bs (map as_nTerm rs) ∙ ap (λ t. flat f bs ++ t) (flat_map f f as_nTerm e rs) ∙ sym (flat_append f bs rs)

pub map_settled : {A : Type 0} (f : Bracket ℕ → A) → ((x : Bracket ℕ) → f (as_nTerm x) ≡ f x) → (bs rs : List (Bracket ℕ)) → map f (bs ++ map as_nTerm rs) ≡ map f (bs ++ rs)
map_settled f e bs rs = map-append f bs (map as_nTerm rs) ∙ ap (λ t. map f bs ++ t) (map_map f f as_nTerm e rs) ∙ sym (map-append f bs rs)

none_declared : (ws : List (Bracket ℕ)) → declarations (map as_nTerm ws) ≡ []
unfolding keep
none_declared [] = refl
none_declared (k ∷ ws) = none_declared ws

-- where none of them is a declaration
pub met_settled : (rs : List (Residue ℕ)) (bs ws : List (Bracket ℕ)) → declarations ws ≡ [] → met_codes rs (bs ++ map as_nTerm ws) ≡ met_codes rs (bs ++ ws)
met_settled rs bs ws e =
    let same : declarations (bs ++ map as_nTerm ws) ≡ declarations (bs ++ ws) =
    keep_append (λ x. is_declared x.kind) bs (map as_nTerm ws) ∙ ap (λ t. declarations bs ++ t) (none_declared ws ∙ sym e) ∙ sym (keep_append (λ x. is_declared x.kind) bs ws) in
    ap₂ (λ a b. a ++ (map (code over_rank) (drop bracket_limit b) ++ (declarations_past (bs ++ map as_nTerm ws) ++ residues_past rs)))
    (flat_settled bracket_codes (λ x. refl) bs ws) (map_settled (λ k. k.at) (λ x. refl) bs ws)
    ∙ ap (λ l. flat bracket_codes (bs ++ ws) ++ (brackets_past (bs ++ ws) ++ (map (code over_rank) (drop declaration_limit (map (λ k. k.at - 1) l)) ++ residues_past rs))) same
