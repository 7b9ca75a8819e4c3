-- The fields of a row among the rows of brackets or of parts are those of that bracket or part.
use mathlib.Core.Path.{◌≡◌, refl, sym, ap, ◌∙◌}
use mathlib.Core.Option.{Option, none, some}
use mathlib.Core.List.{List, [], ◌∷◌, ◌++◌, map, append_assoc, map-append}
use Prim.Native.Nat.{ℕ, zero, suc, ◌+◌, ◌*◌, ◌<◌, ◌≤◌}
use native.Mathlib.Omega.{arith}
use lib.Dec.{eqb}
use lib.ListN.{length, get_or, take, length-append, length-take, get_or-append}
use lib.Seq.{get_or-append-add, get_or-take}
use Rattle.scope.specs.Limits.{part_limit}
use Rattle.scope.specs.Line.{Part, Bracket}
use Rattle.scope.specs.Lists.{flat, there?}
use Rattle.basics.specs.Each.{each_back}
use Rattle.basics.specs.Lists.{flat_append, flat_cons}
use Rattle.sheet.specs.Rows.{part_fields, part_note, head_fields, head_note, heads_from, few_parts, parts_of, counted_code, Stands, AllStand}
use Rattle.sheet.specs.Fields.{written_count, HeadIs, PartIs}
use Rattle.sheet.proofs.RowLaws.{parts_long, heads_long, heads_at}

-- ---- the element at a place, with those before and behind it
pub record Among {A : Type 0} (l : List A) (i : ℕ) : Type 0 where
  pub before : List A
  pub this : A
  pub behind : List A
  pub is : l ≡ before ++ (this ∷ behind)
  pub place : i ≡ length before

pub among : {A : Type 0} (l : List A) (i : ℕ) → i < length l → Among l i
among [] i h = absurd (omega arith)
among (x ∷ l) zero h = record { before = []; this = x; behind = l; is = refl; place = refl }
among (x ∷ l) (suc i) h =
    let a = among l i (omega arith) in
    record { before = x ∷ a.before; this = a.this; behind = a.behind; is = ap (λ t. x ∷ t) a.is; place = ap suc a.place }

-- ---- any rows
module _ {A : Type 0} (d : A) where
  -- a number of a row among the first n numbers of a table
  pub field_at : (n : ℕ) (l xs row ys : List A) (i j : ℕ) → take n l ≡ xs ++ (row ++ ys) → i ≡ length xs → j < length row → get_or l (i + j) d ≡ get_or row j d
  field_at n l xs row ys i j e f h =
      let a = length-append xs (row ++ ys) in
      let b = length-append row ys in
      let x = ap length e in
      let y = length-take n l in
      sym (get_or-take n l (i + j) d (omega arith))
      ∙ ap (λ t. get_or t (i + j) d) e
      ∙ ap (λ t. get_or (xs ++ (row ++ ys)) (t + j) d) f
      ∙ get_or-append-add xs (row ++ ys) j d
      ∙ get_or-append row ys d j h

  -- a table with one number for each element
  pub number_at : {B : Type 0} (f : B → A) (n : ℕ) (l : List A) (xs : List B) (x : B) (ys : List B) (i : ℕ) → take n l ≡ map f (xs ++ (x ∷ ys)) → i ≡ length (map f xs) → get_or l i d ≡ f x
  number_at f n l xs x ys i e g =
      let z : i + 0 ≡ i = omega arith in
      ap (λ t. get_or l t d) (sym z) ∙ field_at n l (map f xs) (f x ∷ []) (map f ys) i 0 (e ∙ map-append f xs (x ∷ ys)) g (omega arith)

-- ---- brackets
pub head_is : (heads : List ℕ) (n i : ℕ) (xs : List (Bracket ℕ)) (k : Bracket ℕ) (ys : List (Bracket ℕ))
    → take n heads ≡ heads_from 0 (xs ++ (k ∷ ys)) → i ≡ length xs → HeadIs heads i (length (parts_of xs)) k
head_is heads n i xs k ys e f =
    let b = length (parts_of xs) in
    let r = heads_from (b + length (few_parts k)) ys in
    let q = e ∙ heads_at xs k ys in
    let l = heads_long 0 xs in
    let p : i * head_fields ≡ length (heads_from 0 xs) = omega arith in
    let z : i * head_fields + 0 ≡ i * head_fields = omega arith in
    let field : (j : ℕ) → j < head_fields → get_or heads (i * head_fields + j) 0 ≡ get_or (head_note b k) j 0 = λ j h. field_at 0 n heads (heads_from 0 xs) (head_note b k) r (i * head_fields) j q p h in
    record {
      place = ap (λ t. get_or heads t 0) (sym z) ∙ field 0 (omega arith);
      kind = field 1 (omega arith);
      sort = field 2 (omega arith);
      count = field 3 (omega arith);
      counted = field 4 (omega arith);
      first = field 5 (omega arith);
      last = field 6 (omega arith);
      parts = field 7 (omega arith);
      labels = field 8 (omega arith);
      base_is = field 9 (omega arith);
      score = field 10 (omega arith);
      places = field 11 (omega arith);
      many = field 12 (omega arith);
    }

-- whether its count is written
pub counted_told : {A : Type 0} (o : Option A) → eqb (counted_code o) written_count ≡ there? o
counted_told none = refl
counted_told (some p) = refl

-- ---- parts
pub part_is : (parts : List ℕ) (n i : ℕ) (xs : List (Part ℕ)) (p : Part ℕ) (ys : List (Part ℕ)) → take n parts ≡ flat part_note (xs ++ (p ∷ ys)) → i ≡ length xs → PartIs parts i p
part_is parts n i xs p ys e f =
    let r = flat part_note ys in
    let q = e ∙ flat_append part_note xs (p ∷ ys) ∙ ap (λ t. flat part_note xs ++ t) (flat_cons part_note p ys) in
    let l = parts_long xs in
    let a : i * part_fields ≡ length (flat part_note xs) = omega arith in
    let z : i * part_fields + 0 ≡ i * part_fields = omega arith in
    let field : (j : ℕ) → j < part_fields → get_or parts (i * part_fields + j) 0 ≡ get_or (part_note p) j 0 = λ j h. field_at 0 n parts (flat part_note xs) (part_note p) r (i * part_fields) j q a h in
    record {
      value = ap (λ t. get_or parts t 0) (sym z) ∙ field 0 (omega arith);
      key = field 1 (omega arith);
      decimals = field 2 (omega arith);
      text_from_is = field 3 (omega arith);
      text_to_is = field 4 (omega arith);
      label_from_is = field 5 (omega arith);
      label_to_is = field 6 (omega arith);
    }

-- a part of a bracket among the parts of all
-- few brackets have few parts
pub parts_few : (ks : List (Bracket ℕ)) → length (parts_of ks) ≤ length ks * part_limit
unfolding flat
parts_few [] = omega arith
parts_few (k ∷ ks) = omega (arith, length-append (few_parts k) (parts_of ks), length-take part_limit k.parts, parts_few ks)

pub part_among : (xs : List (Bracket ℕ)) (k : Bracket ℕ) (ys : List (Bracket ℕ)) (us : List (Part ℕ)) (p : Part ℕ) (vs : List (Part ℕ))
    → few_parts k ≡ us ++ (p ∷ vs) → parts_of (xs ++ (k ∷ ys)) ≡ (parts_of xs ++ us) ++ (p ∷ (vs ++ parts_of ys))
part_among xs k ys us p vs e =
    flat_append few_parts xs (k ∷ ys)
    ∙ ap (λ t. parts_of xs ++ t) (flat_cons few_parts k ys ∙ ap (λ t. t ++ parts_of ys) e ∙ append_assoc us (p ∷ vs) (parts_of ys))
    ∙ sym (append_assoc (parts_of xs) us (p ∷ (vs ++ parts_of ys)))

pub stands_at_lem : (line : List ℕ) (xs : List (Part ℕ)) (p : Part ℕ) (ys : List (Part ℕ)) → AllStand line (xs ++ (p ∷ ys)) → Stands line p
stands_at_lem line xs p ys h = (each_back (Stands line) xs (p ∷ ys) h).0
