-- Rows put behind others, or changed among them: a row behind n rows makes them n + 1 and leaves those before; a kind, a count, places and a label change their own row.
use mathlib.Core.Path.{◌≡◌, refl, sym, ap, ap₂, ◌∙◌}
use mathlib.Core.List.{List, [], ◌∷◌, ◌++◌, append_assoc, append-nil}
use Prim.Native.Nat.{ℕ, suc, ◌+◌, ◌*◌, ◌≤◌, min}
use native.Mathlib.Omega.{arith}
use lib.ListN.{length, take, drop, set, length-append, length-take}
use lib.Seq.{sets, sets-eq, take_at, drop_at, drop-drop, take-set-le, take-set-lt, length-take-le}
use Rattle.scope.specs.declared.grammar.Kind.TheVariants.{NTerm}
use Rattle.scope.specs.Kinds.{kind_code}
use Rattle.scope.specs.Limits.{count_limit}
use Rattle.scope.specs.Line.{Place, Part, Bracket}
use Rattle.scope.specs.Lists.{flat}
use Rattle.scope.specs.Modifications.{names_of}
use Rattle.scope.specs.Reading.{as_nTerm, times, declared_at}
use Rattle.scope.specs.Tables.{score_of}
use Rattle.sheet.specs.Rows.{part_fields, part_note, head_fields, head_note, heads_from, few_parts, parts_of, sort_of, counted_code, score_noted, places_from}
use Rattle.sheet.specs.Fields.{kind_at, count_at, places_at, label_at, written_count}

-- ---- any rows
module _ {A : Type 0} where
  -- numbers put behind others
  pub put_behind : (l : List A) (i : ℕ) (vs : List A) (n : ℕ) → n ≡ i + length vs → n ≤ length l → take n (sets l i vs) ≡ take i l ++ vs
  put_behind l i vs n e h =
      ap (take n) (sets-eq vs l i (omega arith))
      ∙ take_at (take i l ++ vs) (drop (i + length vs) l) n (length-append (take i l) vs ∙ omega (arith, length-take-le i l (omega arith)))

  -- leave those before
  pub put_past : (n : ℕ) (l : List A) (i : ℕ) (vs : List A) → n ≤ i → take n (sets l i vs) ≡ take n l
  put_past n l i [] h = refl
  put_past n l i (v ∷ vs) h = put_past n (set l i v) (suc i) vs (omega arith) ∙ take-set-le n l i v h

  take_sets : (n : ℕ) (l : List A) (i : ℕ) (vs : List A) → i + length vs ≤ n → take n (sets l i vs) ≡ sets (take n l) i vs
  take_sets n l i [] h = refl
  take_sets n l i (v ∷ vs) h =
      take_sets n (set l i v) (suc i) vs (omega arith) ∙ ap (λ t. sets t (suc i) vs) (take-set-lt n l i v (omega arith))

  -- some numbers in place of as many others
  pub sets_in : (a m b vs : List A) (n : ℕ) → n ≡ length a → length m ≡ length vs → sets (a ++ (m ++ b)) n vs ≡ a ++ (vs ++ b)
  sets_in a m b vs n e f =
      let l = length-append a (m ++ b) in
      let k = length-append m b in
      sets-eq vs (a ++ (m ++ b)) n (omega arith)
      ∙ ap₂ (λ x y. (x ++ vs) ++ y) (take_at a (m ++ b) n (sym e))
      (sym (drop-drop (length vs) n (a ++ (m ++ b))) ∙ ap (drop (length vs)) (drop_at a (m ++ b) n (sym e)) ∙ drop_at m b (length vs) f)
      ∙ append_assoc a vs b

  -- the same inside the first n numbers of a table
  pub put_in : (n : ℕ) (l : List A) (i : ℕ) (a m b vs : List A) → take n l ≡ a ++ (m ++ b) → i ≡ length a → length m ≡ length vs → take n (sets l i vs) ≡ a ++ (vs ++ b)
  put_in n l i a m b vs e f g =
      let k = length-append a (m ++ b) in
      let j = length-append m b in
      let x = ap length e in
      let y = length-take n l in
      take_sets n l i vs (omega arith) ∙ ap (λ t. sets t i vs) e ∙ sets_in a m b vs i f g

-- ---- the rows of parts
pub parts_long : (ps : List (Part ℕ)) → length (flat part_note ps) ≡ length ps * part_fields
unfolding flat
parts_long [] = refl
parts_long (p ∷ ps) = length-append (part_note p) (flat part_note ps) ∙ omega (arith, parts_long ps)

-- one more
pub part_behind : (parts : List ℕ) (n : ℕ) (front row : List ℕ) → take (n * part_fields) parts ≡ front → length row ≡ part_fields → n * part_fields + part_fields ≤ length parts
    → take ((n + 1) * part_fields) (sets parts (n * part_fields) row) ≡ front ++ row
part_behind parts n front row e f h = put_behind parts (n * part_fields) row ((n + 1) * part_fields) (omega arith) (omega arith) ∙ ap (λ t. t ++ row) e

-- the last has a label
pub label_put : (parts : List ℕ) (n : ℕ) (front : List ℕ) (a b c d e f g x y : ℕ) → take ((n + 1) * part_fields) parts ≡ front ++ (a ∷ b ∷ c ∷ d ∷ e ∷ f ∷ g ∷ []) → length front ≡ n * part_fields
    → take ((n + 1) * part_fields) (sets parts (label_at n) (x ∷ y ∷ [])) ≡ front ++ (a ∷ b ∷ c ∷ d ∷ e ∷ x ∷ y ∷ [])
label_put parts n front a b c d e f g x y q long =
    let k = length-append front (a ∷ b ∷ c ∷ d ∷ e ∷ []) in
    put_in ((n + 1) * part_fields) parts (label_at n) (front ++ (a ∷ b ∷ c ∷ d ∷ e ∷ [])) (f ∷ g ∷ []) [] (x ∷ y ∷ [])
    (q ∙ sym (append_assoc front (a ∷ b ∷ c ∷ d ∷ e ∷ []) (f ∷ g ∷ [])))
    (omega arith) refl
    ∙ append_assoc front (a ∷ b ∷ c ∷ d ∷ e ∷ []) (x ∷ y ∷ [])

-- ---- the rows of brackets
pub heads_long : (base : ℕ) (ks : List (Bracket ℕ)) → length (heads_from base ks) ≡ length ks * head_fields
unfolding heads_from
heads_long base [] = refl
heads_long base (k ∷ ks) =
    length-append (head_note base k) (heads_from (base + length (few_parts k)) ks) ∙ omega (arith, heads_long (base + length (few_parts k)) ks)

pub heads_append : (base : ℕ) (xs ys : List (Bracket ℕ)) → heads_from base (xs ++ ys) ≡ heads_from base xs ++ heads_from (base + length (parts_of xs)) ys
unfolding heads_from flat
heads_append base [] ys = let z : base ≡ base + 0 = omega arith in ap (λ n. heads_from n ys) z
heads_append base (k ∷ xs) ys =
    let l = length-append (few_parts k) (flat few_parts xs) in
    let z : base + length (few_parts k) + length (parts_of xs) ≡ base + length (few_parts k ++ flat few_parts xs) = omega arith in
    ap (λ t. head_note base k ++ t) (heads_append (base + length (few_parts k)) xs ys ∙ ap (λ n. heads_from (base + length (few_parts k)) xs ++ heads_from n ys) z)
    ∙ sym (append_assoc (head_note base k) (heads_from (base + length (few_parts k)) xs) (heads_from (base + length (few_parts k ++ flat few_parts xs)) ys))

-- the row of one bracket among others
pub heads_at : (xs : List (Bracket ℕ)) (k : Bracket ℕ) (ys : List (Bracket ℕ))
    → heads_from 0 (xs ++ (k ∷ ys)) ≡ heads_from 0 xs ++ (head_note (length (parts_of xs)) k ++ heads_from (length (parts_of xs) + length (few_parts k)) ys)
unfolding heads_from
heads_at xs k ys =
    let z : 0 + length (parts_of xs) ≡ length (parts_of xs) = omega arith in
    heads_append 0 xs (k ∷ ys) ∙ ap (λ n. heads_from 0 xs ++ heads_from n (k ∷ ys)) z

-- one more
pub head_behind : (heads : List ℕ) (ks : List (Bracket ℕ)) (k : Bracket ℕ) (n : ℕ) (row : List ℕ)
    → take (n * head_fields) heads ≡ heads_from 0 ks → n ≡ length ks → n * head_fields + head_fields ≤ length heads → row ≡ head_note (length (parts_of ks)) k
    → take ((n + 1) * head_fields) (sets heads (n * head_fields) row) ≡ heads_from 0 (ks ++ (k ∷ []))
unfolding heads_from
head_behind heads ks k n row e f h g =
    let long : length row ≡ head_fields = ap length g in
    put_behind heads (n * head_fields) row ((n + 1) * head_fields) (omega arith) (omega arith)
    ∙ ap₂ (λ x y. x ++ y) e (g ∙ sym (append-nil (head_note (length (parts_of ks)) k)))
    ∙ sym (heads_at ks k [])

-- a bracket of the run is N-terminal after all
pub kind_put : (heads : List ℕ) (xs : List (Bracket ℕ)) (k : Bracket ℕ) (ys : List (Bracket ℕ)) (n i : ℕ)
    → take (n * head_fields) heads ≡ heads_from 0 (xs ++ (k ∷ ys)) → i ≡ length xs
    → take (n * head_fields) (set heads (kind_at i) (kind_code NTerm)) ≡ heads_from 0 (xs ++ (as_nTerm k ∷ ys))
unfolding sort_of
kind_put heads xs k ys n i e f =
    let b = length (parts_of xs) in
    let r = heads_from (b + length (few_parts k)) ys in
    let y = sort_of k ∷ min (count_limit + 1) k.count ∷ counted_code k.counted ∷ k.first ∷ k.last ∷ length k.parts ∷ length (names_of k) ∷ b ∷ score_noted (score_of k.parts) ∷ places_from k.places ∷ length k.places ∷ r in
    let l = length-append (heads_from 0 xs) (k.at ∷ []) in
    let m = heads_long 0 xs in
    put_in (n * head_fields) heads (kind_at i) (heads_from 0 xs ++ (k.at ∷ [])) (kind_code k.kind ∷ []) y (kind_code NTerm ∷ [])
    (e ∙ heads_at xs k ys ∙ sym (append_assoc (heads_from 0 xs) (k.at ∷ []) (kind_code k.kind ∷ y)))
    (omega arith) refl
    ∙ append_assoc (heads_from 0 xs) (k.at ∷ []) (kind_code NTerm ∷ y)
    ∙ sym (heads_at xs (as_nTerm k) ys)

-- the last bracket has a count
pub count_put_lem : (heads : List ℕ) (xs : List (Bracket ℕ)) (k : Bracket ℕ) (n i v c p : ℕ)
    → take (n * head_fields) heads ≡ heads_from 0 (xs ++ (k ∷ [])) → i ≡ length xs → v ≡ min (count_limit + 1) c
    → take (n * head_fields) (sets heads (count_at i) (v ∷ written_count ∷ [])) ≡ heads_from 0 (xs ++ (times c p k ∷ []))
unfolding sort_of
count_put_lem heads xs k n i v c p e f g =
    let b = length (parts_of xs) in
    let r = heads_from (b + length (few_parts k)) [] in
    let w = k.at ∷ kind_code k.kind ∷ sort_of k ∷ [] in
    let y = k.first ∷ k.last ∷ length k.parts ∷ length (names_of k) ∷ b ∷ score_noted (score_of k.parts) ∷ places_from k.places ∷ length k.places ∷ r in
    let l = length-append (heads_from 0 xs) w in
    let m = heads_long 0 xs in
    put_in (n * head_fields) heads (count_at i) (heads_from 0 xs ++ w) (min (count_limit + 1) k.count ∷ counted_code k.counted ∷ []) y (v ∷ written_count ∷ [])
    (e ∙ heads_at xs k [] ∙ sym (append_assoc (heads_from 0 xs) w (min (count_limit + 1) k.count ∷ counted_code k.counted ∷ y)))
    (omega arith) refl
    ∙ append_assoc (heads_from 0 xs) w (v ∷ written_count ∷ y)
    ∙ ap (λ t. heads_from 0 xs ++ (w ++ (t ∷ written_count ∷ y))) g
    ∙ sym (heads_at xs (times c p k) [])

-- the last bracket has places
pub places_put_lem : (heads : List ℕ) (xs : List (Bracket ℕ)) (k : Bracket ℕ) (n i from many : ℕ) (ps : List (Place ℕ))
    → take (n * head_fields) heads ≡ heads_from 0 (xs ++ (k ∷ [])) → i ≡ length xs → from ≡ places_from ps → many ≡ length ps
    → take (n * head_fields) (sets heads (places_at i) (from ∷ many ∷ [])) ≡ heads_from 0 (xs ++ (declared_at ps k ∷ []))
unfolding sort_of
places_put_lem heads xs k n i from many ps e f g h =
    let b = length (parts_of xs) in
    let r = heads_from (b + length (few_parts k)) [] in
    let w =
    k.at ∷ kind_code k.kind ∷ sort_of k ∷ min (count_limit + 1) k.count ∷ counted_code k.counted ∷ k.first ∷ k.last ∷ length k.parts ∷ length (names_of k) ∷ b ∷ score_noted (score_of k.parts)
    ∷ []
    in
    let l = length-append (heads_from 0 xs) w in
    let m = heads_long 0 xs in
    put_in (n * head_fields) heads (places_at i) (heads_from 0 xs ++ w) (places_from k.places ∷ length k.places ∷ []) r (from ∷ many ∷ [])
    (e ∙ heads_at xs k [] ∙ sym (append_assoc (heads_from 0 xs) w (places_from k.places ∷ length k.places ∷ r)))
    (omega arith) refl
    ∙ append_assoc (heads_from 0 xs) w (from ∷ many ∷ r)
    ∙ ap₂ (λ t u. heads_from 0 xs ++ (w ++ (t ∷ u ∷ r))) g h
    ∙ sym (heads_at xs (declared_at ps k) [])
