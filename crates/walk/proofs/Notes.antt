-- The tables that note some brackets note them with one bracket more, with a count or the places of the last, and with the brackets at the front settled.
use mathlib.Core.Path.{◌≡◌, refl, sym, ap, ap₂, subst, ◌∙◌}
use mathlib.Core.Bool.{true, false, cond}
use mathlib.Core.List.{List, [], ◌∷◌, ◌++◌, map, map-append}
use Prim.Native.Nat.{ℕ, zero, suc, ◌+◌, ◌-◌, ◌*◌, ◌≤◌, ◌<◌, min}
use native.Mathlib.Omega.{arith}
use native.Mathlib.Numerals.{add-one}
use lib.Dec.{leb, ltb}
use lib.IntN.{ℤ}
use lib.ListN.{length, take, drop, set, length-append, length-map, length-take, take-append-drop}
use lib.Seq.{sets, take_all, take-nil, take-suc-set}
use borrow.Author.Tests.{leb-true, leb-false, ltb-true, ltb-false}
use Rattle.basics.specs.Choice.{by_test}
use Rattle.basics.specs.Each.{Each, each_append, each_front, each_back, each_snoc, each_map}
use Rattle.basics.specs.Lists.{flat_append, flat_snoc}
use Rattle.scope.specs.Limits.{bracket_limit, part_limit, count_limit}
use Rattle.scope.specs.Line.{Place, Part, Bracket}
use Rattle.scope.specs.Lists.{flat}
use Rattle.scope.specs.Reading.{as_nTerm, times, declared_at}
use Rattle.scope.specs.Tables.{score_of}
use Rattle.sheet.specs.Rows.{part_fields, part_note, mass_noted, Stands, AllStand, points_noted, head_fields, head_note, few_parts, heads_from, parts_of, few_brackets, places_from, PlacesStand, PartsNoted, Noted}
use Rattle.sheet.specs.Fields.{count_at, places_at, written_count}
use Rattle.sheet.proofs.RowLaws.{head_behind, count_put_lem, places_put_lem}
use Rattle.inside.specs.Says.{Opening, Grows}
use Rattle.inside.proofs.Lists.{length_snoc, take_few, take_many}
use Rattle.sheet.specs.declared.Sheet.{Sheet}
use Rattle.walk.specs.Steps.{Settled, count_put, places_put}
use Rattle.walk.proofs.Dues.{flat_settled, map_settled}

abbrev points_of : Bracket ℕ → ℤ
points_of k = points_noted (score_of k.parts)

abbrev masses_of : List (Part ℕ) → List ℤ
masses_of ps = map (λ p. mass_noted p.value) ps

-- all of these brackets are noted
record AllNoted (line : List ℕ) (ks : List (Bracket ℕ)) (m : ℕ) (heads parts : List ℕ) (masses scores : List ℤ) : Type 0 where
  rows : take (length ks * head_fields) heads ≡ heads_from 0 ks
  parts_are : PartsNoted (parts_of ks) m parts masses
  scores_are : take (length ks) scores ≡ map points_of ks
  stand : AllStand line (parts_of ks)
  placed : Each (λ k. PlacesStand line k.places) ks

module _ {line : List ℕ} {ks : List (Bracket ℕ)} {m : ℕ} {heads parts : List ℕ} {masses scores : List ℤ} where
  all_of : (few : List (Bracket ℕ)) → few_brackets ks ≡ few → Noted line ks m heads parts masses scores → AllNoted line few m heads parts masses scores
  all_of few e w =
      subst (λ l. AllNoted line l m heads parts masses scores) e
      (record { rows = w.rows; parts_are = w.parts_are; scores_are = w.scores_are; stand = w.stand; placed = w.placed })

  noted_of : (few : List (Bracket ℕ)) → few_brackets ks ≡ few → AllNoted line few m heads parts masses scores → Noted line ks m heads parts masses scores
  noted_of few e v =
      let w = subst (λ l. AllNoted line l m heads parts masses scores) (sym e) v in
      record { rows = w.rows; parts_are = w.parts_are; scores_are = w.scores_are; stand = w.stand; placed = w.placed }

-- none
pub none_noted : {line heads parts : List ℕ} {masses scores : List ℤ} → Noted line [] 0 heads parts masses scores
unfolding flat heads_from
none_noted {line} {heads} {parts} {masses} {scores} =
    noted_of [] (take-nil bracket_limit)
    (record { rows = refl; parts_are = record { many = refl; rows = refl; masses_are = refl }; scores_are = refl; stand = tt; placed = tt })

-- ---- one bracket more
each_take : {A : Type 0} (Q : A → Type 0) (n : ℕ) (l : List A) → Each Q l → Each Q (take n l)
each_take Q n l h = each_front Q (take n l) (drop n l) (subst (Each Q) (sym (take-append-drop n l)) h)

module _ {line : List ℕ} {ks : List (Bracket ℕ)} {m : ℕ} {heads parts : List ℕ} {masses scores : List ℤ} (w : AllNoted line ks m heads parts masses scores)
    (k : Bracket ℕ) (n : ℕ) (many : n ≡ length ks) where
  all_more : (row : List ℕ) → row ≡ head_note m k → n * head_fields + head_fields ≤ length heads
      → (points : ℤ) → points ≡ points_of k → n < length scores
      → (parts' : List ℕ) (masses' : List ℤ) → take ((m + length (few_parts k)) * part_fields) parts' ≡ take (m * part_fields) parts ++ flat part_note (few_parts k)
      → take (m + length (few_parts k)) masses' ≡ take m masses ++ masses_of (few_parts k)
      → AllStand line k.parts → k.places ≡ []
      → AllNoted line (ks ++ (k ∷ [])) (m + length (few_parts k)) (sets heads (n * head_fields) row) parts' masses' (set scores n points)
  all_more row is heads_room_is points points_are scores_room parts' masses' rows' masses-are' stand' bare =
      let long : length (ks ++ (k ∷ [])) ≡ n + 1 = length_snoc ks k ∙ ap (λ t. t + 1) (sym many) in
      let joined : parts_of (ks ++ (k ∷ [])) ≡ parts_of ks ++ few_parts k = flat_snoc few_parts ks k in
      record {
        rows =
            ap (λ t. take (t * head_fields) (sets heads (n * head_fields) row)) long
            ∙ head_behind heads ks k n row (ap (λ t. take (t * head_fields) heads) many ∙ w.rows) many heads_room_is (is ∙ ap (λ b. head_note b k) w.parts_are.many);
        parts_are = record {
          many = ap (λ t. t + length (few_parts k)) w.parts_are.many ∙ sym (length-append (parts_of ks) (few_parts k)) ∙ ap length (sym joined);
          rows = rows' ∙ ap (λ t. t ++ flat part_note (few_parts k)) w.parts_are.rows ∙ sym (flat_append part_note (parts_of ks) (few_parts k)) ∙ ap (flat part_note) (sym joined);
          masses_are = masses-are' ∙ ap (λ t. t ++ masses_of (few_parts k)) w.parts_are.masses_are ∙ sym (map-append (λ p. mass_noted p.value) (parts_of ks) (few_parts k)) ∙ ap masses_of (sym joined);
        };
        scores_are =
            ap (λ t. take t (set scores n points)) (long ∙ add-one n)
            ∙ take-suc-set scores n points scores_room
            ∙ ap₂ (λ x y. x ++ (y ∷ [])) (ap (λ t. take t scores) many ∙ w.scores_are) points_are
            ∙ sym (map-append points_of ks (k ∷ []));
        stand = subst (AllStand line) (sym joined) (each_append (Stands line) (parts_of ks) (few_parts k) w.stand (each_take (Stands line) part_limit k.parts stand'));
        placed = each_snoc (λ x. PlacesStand line x.places) ks k w.placed (subst (PlacesStand line) (sym bare) (0, refl));
      }

module _ {line : List ℕ} {ks : List (Bracket ℕ)} {m : ℕ} {heads parts : List ℕ} {masses scores : List ℤ} (w : Noted line ks m heads parts masses scores)
    (k : Bracket ℕ) (n : ℕ) (many : n ≡ length ks) where
  -- where there are fewer than are noted its row, its parts and its score are put; where not, the tables stay as they were
  pub noted_more : (o : Opening) → o.room ≡ ltb n bracket_limit → o.base ≡ m → o.parts ≡ parts → o.masses ≡ masses
      → (parts' : List ℕ) (masses' : List ℤ) → Grows o k.parts parts' masses'
      → (row : List ℕ) → row ≡ head_note m k → bracket_limit * head_fields ≤ length heads → (points : ℤ) → points ≡ points_noted (score_of k.parts) → bracket_limit ≤ length scores
      → AllStand line k.parts → k.places ≡ []
      → (count : ℕ) → count ≡ length k.parts
      → Noted line (ks ++ (k ∷ [])) (cond (ltb n bracket_limit) (m + min part_limit count) m) (cond (ltb n bracket_limit) (sets heads (n * head_fields) row) heads) parts' masses'
      (cond (ltb n bracket_limit) (set scores n points) scores)
  noted_more o room base same_parts same_masses parts' masses' g row is heads_room_is points points_are scores_room stand' bare count counted =
      by_test (ltb n bracket_limit)
      (λ t.
      let low = ltb-true n bracket_limit t in
      let all = all_of ks (take_all bracket_limit ks (omega arith)) w in
      let e : m + length (few_parts k) ≡ m + min part_limit count = omega (arith, length-take part_limit k.parts) in
      let there : o.room ≡ true = room ∙ t in
      rw (t, sym e)
      (noted_of (ks ++ (k ∷ [])) (take_few bracket_limit ks k (omega arith))
      (all_more all k n many row is (omega arith) points points_are (omega arith) parts' masses'
      (ap (λ b. take ((b + length (few_parts k)) * part_fields) parts') (sym base) ∙ g.rows there ∙ ap₂ (λ b l. take (b * part_fields) l ++ flat part_note (few_parts k)) base same_parts)
      (ap (λ b. take (b + length (few_parts k)) masses') (sym base) ∙ g.masses_are there ∙ ap₂ (λ b l. take b l ++ masses_of (few_parts k)) base same_masses)
      stand' bare)))
      (λ t.
      let high = ltb-false n bracket_limit t in
      let none : o.room ≡ false = room ∙ t in
      rw (t, g.same_parts none ∙ same_parts, g.same_masses none ∙ same_masses)
      (noted_of (few_brackets ks) (take_many bracket_limit ks k (omega arith)) (all_of (few_brackets ks) refl w)))

-- ---- the last of n brackets changes in its row alone
pub last_same : {A : Type 0} (f : Bracket ℕ → List A) (ks : List (Bracket ℕ)) (k x : Bracket ℕ) → f k ≡ f x → flat f (ks ++ (k ∷ [])) ≡ flat f (ks ++ (x ∷ []))
last_same f ks k x e = flat_snoc f ks k ∙ ap (λ t. flat f ks ++ t) e ∙ sym (flat_snoc f ks x)

module _ {line : List ℕ} (ks : List (Bracket ℕ)) (k x : Bracket ℕ) {m : ℕ} {heads parts : List ℕ} {masses scores : List ℤ} (n : ℕ) (many : n ≡ length (ks ++ (k ∷ []))) (same_parts : k.parts ≡ x.parts) where
  -- where it is noted, its row is put
  noted_last : (heads' : List ℕ) → ((i j : ℕ) → i ≡ length ks → take (j * head_fields) heads ≡ heads_from 0 (ks ++ (k ∷ [])) → n - 1 ≡ i → take (j * head_fields) heads' ≡ heads_from 0 (ks ++ (x ∷ [])))
      → (PlacesStand line k.places → PlacesStand line x.places)
      → Noted line (ks ++ (k ∷ [])) m heads parts masses scores → Noted line (ks ++ (x ∷ [])) m (cond (leb n bracket_limit) heads' heads) parts masses scores
  noted_last heads' put stands w =
      let long : n ≡ length ks + 1 = many ∙ length_snoc ks k in
      by_test (leb n bracket_limit)
      (λ t.
      let few = leb-true n bracket_limit t in
      let all = all_of (ks ++ (k ∷ [])) (take_few bracket_limit ks k (omega arith)) w in
      let same : length (ks ++ (x ∷ [])) ≡ length (ks ++ (k ∷ [])) = length_snoc ks x ∙ sym (length_snoc ks k) in
      let at : n - 1 ≡ length ks = omega arith in
      let parts_same : parts_of (ks ++ (k ∷ [])) ≡ parts_of (ks ++ (x ∷ [])) = last_same few_parts ks k x (ap (take part_limit) same_parts) in
      let Q : Bracket ℕ → Type 0 = λ y. PlacesStand line y.places in
      rw t
      (noted_of (ks ++ (x ∷ [])) (take_few bracket_limit ks x (omega arith))
      (record {
        rows = ap (λ j. take (j * head_fields) heads') same ∙ put (length ks) (length (ks ++ (k ∷ []))) refl all.rows at;
        parts_are = subst (λ l. PartsNoted l m parts masses) parts_same all.parts_are;
        scores_are =
            ap (λ j. take j scores) same ∙ all.scores_are
            ∙ map-append points_of ks (k ∷ []) ∙ ap (λ ps. map points_of ks ++ (points_noted (score_of ps) ∷ [])) same_parts ∙ sym (map-append points_of ks (x ∷ []));
        stand = subst (AllStand line) parts_same all.stand;
        placed = each_snoc Q ks x (each_front Q ks (k ∷ []) all.placed) (stands (each_back Q ks (k ∷ []) all.placed).0);
      })))
      (λ t.
      let many_more = leb-false n bracket_limit t in
      rw t
      (noted_of (few_brackets ks) (take_many bracket_limit ks x (omega arith)) (all_of (few_brackets ks) (take_many bracket_limit ks k (omega arith)) w)))

-- a count
pub noted_count : {line : List ℕ} (ks : List (Bracket ℕ)) (k : Bracket ℕ) {m : ℕ} {heads parts : List ℕ} {masses scores : List ℤ} (n v c p : ℕ) → n ≡ length (ks ++ (k ∷ [])) → v ≡ min (count_limit + 1) c
    → Noted line (ks ++ (k ∷ [])) m heads parts masses scores → Noted line (ks ++ (times c p k ∷ [])) m (count_put n v heads) parts masses scores
noted_count ks k {heads = heads} n v c p many e =
    noted_last ks k (times c p k) n many refl (sets heads (count_at (n - 1)) (v ∷ written_count ∷ [])) (λ i j f rows at. count_put_lem heads ks k j (n - 1) v c p rows (at ∙ f) e) (λ s. s)

-- places, which stand in the line
pub noted_places : {line : List ℕ} (ks : List (Bracket ℕ)) (k : Bracket ℕ) {m : ℕ} {heads parts : List ℕ} {masses scores : List ℤ} (n from many : ℕ) (ps : List (Place ℕ)) → n ≡ length (ks ++ (k ∷ []))
    → from ≡ places_from ps → many ≡ length ps → PlacesStand line ps
    → Noted line (ks ++ (k ∷ [])) m heads parts masses scores → Noted line (ks ++ (declared_at ps k ∷ [])) m (places_put n from many heads) parts masses scores
noted_places ks k {heads = heads} n from many ps e f g stands =
    noted_last ks k (declared_at ps k) n e refl (sets heads (places_at (n - 1)) (from ∷ many ∷ [])) (λ i j h rows at. places_put_lem heads ks k j (n - 1) from many ps rows (at ∙ h) f g) (λ s. stands)

-- ---- the brackets at the front are settled
take_append : {A : Type 0} (n : ℕ) (l m : List A) → take n (l ++ m) ≡ take n l ++ take (n - length l) m
take_append zero l m = let e : 0 ≡ 0 - length l = omega arith in ap (λ j. take j m) e
take_append (suc n) [] m = let e : suc n ≡ suc n - 0 = omega arith in ap (λ j. take j m) e
take_append (suc n) (x ∷ l) m = let e : n - length l ≡ suc n - suc (length l) = omega arith in ap (λ t. x ∷ t) (take_append n l m ∙ ap (λ j. take n l ++ take j m) e)

take_map : {A B : Type 0} (f : A → B) (n : ℕ) (l : List A) → take n (map f l) ≡ map f (take n l)
take_map f zero l = refl
take_map f (suc n) [] = refl
take_map f (suc n) (x ∷ l) = ap (λ t. f x ∷ t) (take_map f n l)

pub noted_settled : {line : List ℕ} (bs rs : List (Bracket ℕ)) {m : ℕ} {t t' : Sheet} {parts : List ℕ} {masses scores : List ℤ} (first n : ℕ) → first ≡ length bs → n ≡ length (bs ++ rs)
    → Settled first (min n bracket_limit) t t' → Noted line (bs ++ rs) m t.heads parts masses scores → Noted line (bs ++ map as_nTerm rs) m t'.heads parts masses scores
noted_settled {line} bs rs {m} {t} {t'} {parts} {masses} {scores} first n e f g w =
    let end = min n bracket_limit in
    let b = take bracket_limit bs in
    let r = take (bracket_limit - length bs) rs in
    let all = all_of (b ++ r) (take_append bracket_limit bs rs) w in
    let total = length-append bs rs in
    let lb = length-take bracket_limit bs in
    let lr = length-take (bracket_limit - length bs) rs in
    let before : min first end ≡ length b = omega arith in
    let upto : end ≡ length b + length r = omega arith in
    let long : length (b ++ r) ≡ end = length-append b r ∙ sym upto in
    let long' : length (b ++ map as_nTerm r) ≡ end = length-append b (map as_nTerm r) ∙ ap (λ t. length b + t) (length-map r as_nTerm) ∙ sym upto in
    let Q : Bracket ℕ → Type 0 = λ y. PlacesStand line y.places in
    let parts_same : parts_of (b ++ r) ≡ parts_of (b ++ map as_nTerm r) = sym (flat_settled few_parts (λ x. refl) b r) in
    noted_of (b ++ map as_nTerm r) (take_append bracket_limit bs (map as_nTerm rs) ∙ ap (λ t. b ++ t) (take_map as_nTerm (bracket_limit - length bs) rs))
    (record {
      rows = ap (λ j. take (j * head_fields) t'.heads) long' ∙ g.rows b r before upto (ap (λ j. take (j * head_fields) t.heads) (sym long) ∙ all.rows);
      parts_are = subst (λ l. PartsNoted l m parts masses) parts_same all.parts_are;
      scores_are = ap (λ j. take j scores) (long' ∙ sym long) ∙ all.scores_are ∙ sym (map_settled points_of (λ x. refl) b r);
      stand = subst (AllStand line) parts_same all.stand;
      placed = each_append Q b (map as_nTerm r) (each_front Q b r all.placed) (each_map Q as_nTerm r (each_back Q b r all.placed));
    })

-- ---- how many parts are noted
parts_few : (ks : List (Bracket ℕ)) → length (parts_of ks) ≤ part_limit * length ks
unfolding flat
parts_few [] = omega arith
parts_few (k ∷ ks) =
    let a = length-append (few_parts k) (flat few_parts ks) in
    let b = length-take part_limit k.parts in
    let c = parts_few ks in
    omega arith

pub noted_low : {line : List ℕ} {ks : List (Bracket ℕ)} {m : ℕ} {heads parts : List ℕ} {masses scores : List ℤ} → Noted line ks m heads parts masses scores
    → m ≤ part_limit * min bracket_limit (length ks)
noted_low {ks = ks} w = let a = parts_few (few_brackets ks) in let b = length-take bracket_limit ks in omega (arith, w.parts_are.many)
