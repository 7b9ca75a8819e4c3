-- The last item of a composition, found from the right, and that there is one way only.
use Rattle.std.specs.Prelude.{ℕ, ◌+◌, ◌-◌, ◌≤◌, ◌≡◌, refl, Bool, true, false, not, cond, ◌&&◌, ◌||◌, leb, length, drop}
use Rattle.std.proofs.Common.{sym, ap₂, ◌∙◌, subst, arith}
use Rattle.std.proofs.Math.Path.{ap}
use Rattle.std.proofs.lemmas.Bool.{false≢true, not-true, lt-leb}
use Rattle.std.proofs.Math.Option.{Option, none, some}
use mathlib.Core.List.{List, [], ◌∷◌, ◌++◌, map, reverse, append_assoc, append-nil, reverse-append, reverse-cons, reverse-reverse}
use Rattle.std.proofs.Math.Seq.{drop-append_seam}
use Rattle.std.proofs.lemmas.List.{map-append}
use Rattle.scope.specs.Bytes.{upper, is_digit}
use Rattle.scope.specs.Lists.{given}
use Rattle.scope.specs.Lists.{flat}
use Rattle.basics.specs.Tests.{and_left, and_right}
use Rattle.scope.specs.Glycans.{Item, Way, way, sugars, name_at, count_text, item_text, cutting_text}
use Rattle.glycan_laws.specs.Laws.{CountGood, ItemGood, AllGood, Cuts}
use Rattle.glycan_laws.specs.Back.{Backward, backward, backwards, tried, is_starter, StartsWell, begins_one, is_front, first_front, all_below}
use Rattle.glycan_laws.proofs.Back.{at_each, found}
use Rattle.glycan_laws.proofs.Digits.{last_count, digit, by_digits, count_found}

-- ---- the last item, of a text in upper case from the right
abbrev pub with_name : Option ℕ → List ℕ → Option Backward → Option (Way Item)
with_name c r none = none
with_name c r (some n) = some (way (record { name = n.index; count = c }) (drop (length n.letters) r))

abbrev pub with_count : Option (Way (Option ℕ)) → Option (Way Item)
with_count none = none
with_count (some w) = with_name w.read w.rest (first_front tried w.rest)

unfoldable pub last_item : List ℕ → Option (Way Item)
last_item r = with_count (last_count r)

-- ---- items spelled from the right, the last one first
abbrev pub back_item : Item → List ℕ
back_item p = reverse (count_text p.count) ++ (backward p.name).letters

unfoldable pub spelled_back : List Item → List ℕ
spelled_back [] = []
spelled_back (p ∷ xs) = back_item p ++ spelled_back xs

-- ---- facts of the list, computed: each name ends with a byte that is no digit, and with which some name ends
abbrev pub ends_plain : List ℕ → Bool
ends_plain [] = false
ends_plain (x ∷ n) = not (is_digit x) && begins_one x tried

pub ends_plain_lem : all_below (λ i. ends_plain (backward i).letters) (length sugars) ≡ true
unfolding all_below backward tried backwards begins_one sugars upper
ends_plain_lem = refl

-- ---- the first byte from the right
is_starter_lem : (d : ℕ) → d ≤ 9 → is_starter (48 + d) ≡ true
is_starter_lem d l = ap (λ b. b || begins_one (48 + d) tried) (digit d l)

name_starter : (x : ℕ) → begins_one x tried ≡ true → is_starter x ≡ true
name_starter x e = go (is_digit x)
  where
    go : (b : Bool) → (b || begins_one x tried) ≡ true
    go true = refl
    go false = e

name_well : (n r : List ℕ) → ends_plain n ≡ true → StartsWell (n ++ r)
name_well [] r e = absurd (false≢true e)
name_well (x ∷ n) r e = name_starter x (and_right (not (is_digit x)) _ e)

item_well : (p : Item) → ItemGood p → (r : List ℕ) → StartsWell (back_item p ++ r)
item_well p g r = go p.count g.count
  where
    named : StartsWell ((backward p.name).letters ++ r)
    named = name_well (backward p.name).letters r (at_each (λ i. ends_plain (backward i).letters) _ p.name ends_plain_lem g.listed)

    go : (c : Option ℕ) → CountGood c → StartsWell (reverse (count_text c) ++ (backward p.name).letters ++ r)
    go none h = named
    go (some n) h = by_digits n h.0 h.1 (λ l. StartsWell (l ++ (backward p.name).letters ++ r)) (λ d a b e. is_starter_lem d b) (λ d e a b c q. is_starter_lem e c)

pub starts_well : (xs : List Item) → AllGood xs → StartsWell (spelled_back xs)
unfolding spelled_back
starts_well [] g = tt
starts_well (p ∷ xs) g = item_well p g.0 (spelled_back xs)

-- ---- the last item is found, whatever good items stand before it
module _ (p : Item) (r : List ℕ) (g : ItemGood p) (w : StartsWell r) where
  abbrev name : List ℕ
  name = (backward p.name).letters

  named : with_name p.count (name ++ r) (first_front tried (name ++ r)) ≡ some (way p r)
  unfolding backward
  named =
      ap (with_name p.count (name ++ r)) (found p.name r g.listed w)
      ∙ ap (λ t. some (way p t)) (drop-append_seam name r)

  counted : (n : List ℕ) → ends_plain n ≡ true → last_count (reverse (count_text p.count) ++ (n ++ r)) ≡ some (way p.count (n ++ r))
  counted [] h = absurd (false≢true h)
  counted (x ∷ n) h = count_found x (n ++ r) (not-true (is_digit x) (and_left _ _ h)) p.count g.count

  pub last_found : last_item (back_item p ++ r) ≡ some (way p r)
  unfolding last_item
  last_found =
      ap (λ l. with_count (last_count l)) (append_assoc (reverse (count_text p.count)) name r)
      ∙ ap with_count (counted name (at_each (λ i. ends_plain (backward i).letters) _ p.name ends_plain_lem g.listed))
      ∙ named

-- nothing is the text of no item
pub nothing_last : last_item [] ≡ none
unfolding last_item last_count first_front is_front tried backwards sugars
nothing_last = refl

empty_last : (p : Item) (r : List ℕ) → ItemGood p → StartsWell r → ◌≡◌ {A = List ℕ} [] (back_item p ++ r) → ⊥
empty_last p r g w e = false≢true (ap (λ o. given o (λ z. true) false) (sym nothing_last ∙ ap last_item e ∙ last_found p r g w))

-- ---- so there is one way only
some_way_lem : {A : Type 0} (x y : A) (r s : List ℕ) → ◌≡◌ {A = Option (Way A)} (some (way x r)) (some (way y s)) → (x ≡ y) × (r ≡ s)
some_way_lem x y r s e = (ap (λ o. given o (λ w. w.read) x) e, ap (λ o. given o (λ w. w.rest) r) e)

pub one_back : (xs ys : List Item) → AllGood xs → AllGood ys → spelled_back xs ≡ spelled_back ys → xs ≡ ys
unfolding spelled_back
one_back [] [] g h e = refl
one_back [] (q ∷ ys) g h e = absurd (empty_last q (spelled_back ys) h.0 (starts_well ys h.1) e)
one_back (p ∷ xs) [] g h e = absurd (empty_last p (spelled_back xs) g.0 (starts_well xs g.1) (sym e))
one_back (p ∷ xs) (q ∷ ys) g h e =
    let both = some_way_lem p q (spelled_back xs) (spelled_back ys) (sym (last_found p (spelled_back xs) g.0 (starts_well xs g.1)) ∙ ap last_item e ∙ last_found q (spelled_back ys) h.0 (starts_well ys h.1)) in
    ap₂ ◌∷◌ both.0 (one_back xs ys g.1 h.1 both.1)

-- ---- texts from the right
map_reverse : (f : ℕ → ℕ) (l : List ℕ) → reverse (map f l) ≡ map f (reverse l)
map_reverse f [] = refl
map_reverse f (x ∷ l) = reverse-cons (f x) (map f l) ∙ ap (λ z. z ++ (f x ∷ [])) (map_reverse f l) ∙ sym (map-append f (reverse l) (x ∷ [])) ∙ ap (map f) (sym (reverse-cons x l))

pub upper_digit : (d : ℕ) → d ≤ 9 → upper (48 + d) ≡ 48 + d
unfolding upper
upper_digit d h = ap (λ b. cond b (48 + d - 32) (48 + d)) (ap (λ b. b && leb (48 + d) 122) (lt-leb 97 (48 + d) (omega arith)))

digits_up : (c : Option ℕ) → CountGood c → reverse (map upper (count_text c)) ≡ reverse (count_text c)
digits_up none g = refl
digits_up (some n) g =
    map_reverse upper (count_text (some n))
    ∙ by_digits n g.0 g.1 (λ l. map upper l ≡ l) (λ d a b e. ap (λ z. z ∷ []) (upper_digit d b))
    (λ d e a b c q. ap₂ (λ y z. y ∷ z ∷ []) (upper_digit e c) (upper_digit d b))

pub item_back : (p : Item) → ItemGood p → reverse (map upper (item_text p)) ≡ back_item p
unfolding backward
item_back p g =
    ap reverse (map-append upper (name_at p.name) (count_text p.count))
    ∙ reverse-append (map upper (name_at p.name)) (map upper (count_text p.count))
    ∙ ap (λ z. z ++ reverse (map upper (name_at p.name))) (digits_up p.count g.count)

-- one item more, from the left
unfoldable pub back_on : List Item → List Item → List Item
back_on [] ys = ys
back_on (p ∷ xs) ys = back_on xs (p ∷ ys)

text_back : (xs ys : List Item) → AllGood xs → reverse (map upper (cutting_text xs)) ++ spelled_back ys ≡ spelled_back (back_on xs ys)
unfolding flat spelled_back back_on
text_back [] ys g = refl
text_back (p ∷ xs) ys g =
    ap (λ z. reverse z ++ spelled_back ys) (map-append upper (item_text p) (cutting_text xs))
    ∙ ap (λ z. z ++ spelled_back ys) (reverse-append (map upper (item_text p)) (map upper (cutting_text xs)) ∙ ap (λ z. reverse (map upper (cutting_text xs)) ++ z) (item_back p g.0))
    ∙ append_assoc (reverse (map upper (cutting_text xs))) (back_item p) (spelled_back ys)
    ∙ text_back xs (p ∷ ys) g.1

back_on_lem : (xs ys : List Item) → back_on xs ys ≡ reverse xs ++ ys
unfolding back_on
back_on_lem [] ys = refl
back_on_lem (p ∷ xs) ys = back_on_lem xs (p ∷ ys) ∙ sym (append_assoc (reverse xs) (p ∷ []) ys) ∙ ap (λ z. z ++ ys) (sym (reverse-cons p xs))

all_on : (xs ys : List Item) → AllGood xs → AllGood ys → AllGood (back_on xs ys)
unfolding back_on
all_on [] ys g h = h
all_on (p ∷ xs) ys g h = all_on xs (p ∷ ys) g.1 (g.0, h)

pub back_text : (xs : List Item) → AllGood xs → reverse (map upper (cutting_text xs)) ≡ spelled_back (reverse xs)
unfolding spelled_back
back_text xs g = sym (append-nil _) ∙ text_back xs [] g ∙ ap spelled_back (back_on_lem xs [] ∙ append-nil (reverse xs))

pub all_back : (xs : List Item) → AllGood xs → AllGood (reverse xs)
all_back xs g = subst AllGood (back_on_lem xs [] ∙ append-nil (reverse xs)) (all_on xs [] g tt)

-- "in one way only"
pub one_way : (t : List ℕ) (xs ys : List Item) → Cuts xs t → Cuts ys t → xs ≡ ys
one_way t xs ys a b =
    sym (reverse-reverse xs)
    ∙ ap reverse
    (one_back (reverse xs) (reverse ys) (all_back xs a.good) (all_back ys b.good)
    (sym (back_text xs a.good) ∙ ap reverse (sym a.spelled ∙ b.spelled) ∙ back_text ys b.good))
    ∙ reverse-reverse ys
