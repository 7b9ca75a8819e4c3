-- A text cut from the right, item by item: no search, and what is found is the one way to cut it.
use Rattle.std.specs.Prelude.{ℕ, zero, suc, ◌+◌, ◌*◌, ◌≤◌, ◌<◌, ◌≡◌, ◌↔◌, Bool, true, false, not, cond, eqb, ltb, length, drop}
use Rattle.std.proofs.Common.{arith, ap₂, ◌∙◌, subst, inl, inr, length-append, eqb-true, ltb-true}
use Rattle.std.proofs.Math.Path.{refl, sym, ap}
use Rattle.std.proofs.lemmas.Bool.{false≢true}
use Rattle.std.proofs.Math.Option.{Option, none, some}
use mathlib.Core.List.{List, [], ◌∷◌, ◌++◌, map, reverse, append_assoc, reverse-append, reverse-cons, reverse-reverse}
use Rattle.std.proofs.lemmas.List.{length-map}
use Rattle.scope.specs.Bytes.{upper, is_digit, value}
use Rattle.scope.specs.Lists.{given, optional, all}
use Rattle.basics.specs.Each.{each_append, each_front, each_back}
use Rattle.basics.specs.Tests.{and_left, and_right, both}
use Rattle.scope.specs.Glycans.{Item, Way, way, sugars, count_text, cutting_text}
use Rattle.glycan_laws.specs.Laws.{CountGood, ItemGood, AllGood, Cuts}
use Rattle.glycan_laws.specs.Back.{Backward, backward, backwards, order, tried, is_front, first_front, Among}
use Rattle.glycan_laws.proofs.Back.{at_each}
use Rattle.glycan_laws.proofs.Digits.{one_digit, two_digits, behind_digit, last_count, one_digit_lem}
use Rattle.glycan_laws.proofs.Last.{with_name, with_count, last_item, back_item, spelled_back, ends_plain, ends_plain_lem, starts_well, last_found, nothing_last, back_text, all_back}
use Rattle.glycan_laws.proofs.Enumerated.{first_digit, a_digit, two_of}

-- ---- the items of a text in upper case from the right, the last one first
-- nothing is cut into nothing
abbrev pub unless_over : List ℕ → Option (List Item) → Option (List Item)
unless_over [] o = some []
unless_over (b ∷ r) o = o

unfoldable pub items_back : ℕ → List ℕ → Option (List Item)
items_back zero r = unless_over r none
items_back (suc k) r = unless_over r (given (last_item r) (λ w. optional (λ xs. w.read ∷ xs) (items_back k w.rest)) none)

unfoldable pub cut_right : List ℕ → Option (List Item)
cut_right t = optional reverse (items_back (length t) (reverse (map upper t)))

-- ---- what is found stands there: a count
record CountStands (r : List ℕ) (w : Way (Option ℕ)) : Type 0 where
  pub good : CountGood w.read
  pub text : r ≡ reverse (count_text w.read) ++ w.rest

some_same : {A : Type 0} (x y : A) → ◌≡◌ {A = Option A} (some x) (some y) → x ≡ y
some_same x y e = ap (λ o. given o (λ z. z) x) e

not_none : {A : Type 0} (y : A) → ◌≡◌ {A = Option A} none (some y) → ⊥
not_none y e = false≢true (ap (λ o. given o (λ z. true) false) e)

one_stands : (b : ℕ) (t : List ℕ) (w : Way (Option ℕ)) → is_digit b ≡ true → one_digit b t ≡ some w → CountStands (b ∷ t) w
one_stands b t w d e = by (eqb b 48) refl e
  where
    by : (z : Bool) → eqb b 48 ≡ z → cond z none (some (way (some (value b)) t)) ≡ some w → CountStands (b ∷ t) w
    by true q f = absurd (not_none w f)
    by false q f =
        let x = first_digit b (both (is_digit b) (not (eqb b 48)) d (ap not q)) in
        let few : value b < 10 = omega (arith, x.1) in
        subst (CountStands (b ∷ t)) (some_same (way (some (value b)) t) w f)
        (record { good = (x.0, omega (arith, x.1)); text = ap (λ c. c ∷ t) x.2 ∙ ap (λ l. reverse l ++ t) (sym (one_digit_lem (value b) few)) })

two_stands : (b c : ℕ) (t : List ℕ) (w : Way (Option ℕ)) → is_digit b ≡ true → is_digit c ≡ true → two_digits b c t ≡ some w → CountStands (b ∷ c ∷ t) w
two_stands b c t w d g e = by (eqb c 48) refl e
  where
    within : (x y : ℕ) → 1 ≤ x → x ≤ 9 → y ≤ 9 → (1 ≤ x * 10 + y) × (x * 10 + y ≤ 99)
    within x y h k l = (omega arith, omega arith)

    by : (z : Bool) → eqb c 48 ≡ z → cond z none (some (way (some (value c * 10 + value b)) t)) ≡ some w → CountStands (b ∷ c ∷ t) w
    by true q f = absurd (not_none w f)
    by false q f =
        let x = first_digit c (both (is_digit c) (not (eqb c 48)) g (ap not q)) in
        let y = a_digit b d in
        subst (CountStands (b ∷ c ∷ t)) (some_same (way (some (value c * 10 + value b)) t) w f)
        (record {
          good = within (value c) (value b) x.0 x.1 y.0;
          text = ap₂ (λ u v. u ∷ v ∷ t) y.1 x.2 ∙ ap (λ l. reverse l ++ t) (sym (two_of (value c) (value b) x.0 x.1 y.0));
        })

count_stands : (r : List ℕ) (w : Way (Option ℕ)) → last_count r ≡ some w → CountStands r w
unfolding last_count
count_stands [] w e = subst (CountStands []) (some_same (way none []) w e) (record { good = tt; text = refl })
count_stands (b ∷ t) w e = by (is_digit b) refl t e
  where
    two : (z : Bool) (c : ℕ) (s : List ℕ) → is_digit b ≡ true → is_digit c ≡ z → cond z (two_digits b c s) (one_digit b (c ∷ s)) ≡ some w → CountStands (b ∷ c ∷ s) w
    two true c s d q f = two_stands b c s w d q f
    two false c s d q f = one_stands b (c ∷ s) w d f

    by : (z : Bool) → is_digit b ≡ z → (s : List ℕ) → cond z (behind_digit b s) (some (way none (b ∷ s))) ≡ some w → CountStands (b ∷ s) w
    by true q [] f = one_stands b [] w q f
    by true q (c ∷ s) f = two (is_digit c) c s q refl f
    by false q s f = subst (CountStands (b ∷ s)) (some_same (way none (b ∷ s)) w f) (record { good = tt; text = refl })

-- ---- a name
front_stands : (n t : List ℕ) → is_front n t ≡ true → t ≡ n ++ drop (length n) t
unfolding is_front
front_stands [] t e = refl
front_stands (x ∷ n) [] e = absurd (false≢true e)
front_stands (x ∷ n) (y ∷ t) e = ap₂ ◌∷◌ (sym (eqb-true x y (and_left (eqb x y) (is_front n t) e))) (front_stands n t (and_right (eqb x y) (is_front n t) e))

first_stands : (ns : List Backward) (t : List ℕ) (n : Backward) → first_front ns t ≡ some n → Among n ns × (is_front n.letters t ≡ true)
unfolding first_front
first_stands [] t n e = absurd (not_none n e)
first_stands (m ∷ ns) t n e = by (is_front m.letters t) refl e (first_stands ns t n)
  where
    by : (z : Bool) → is_front m.letters t ≡ z → cond z (some m) (first_front ns t) ≡ some n → (first_front ns t ≡ some n → Among n ns × (is_front n.letters t ≡ true))
        → Among n (m ∷ ns) × (is_front n.letters t ≡ true)
    by true q f ih = let s = some_same m n f in (inl (sym s), ap (λ (z : Backward). is_front z.letters t) (sym s) ∙ q)
    by false q f ih = let r = ih f in (inr r.0, r.1)

order_listed : all (λ i. ltb i (length sugars)) order ≡ true
unfolding all sugars
order_listed = refl

among_listed : (is : List ℕ) (n : Backward) → all (λ i. ltb i (length sugars)) is ≡ true → Among n (backwards is) → (n.index < length sugars) × (n ≡ backward n.index)
unfolding all backwards backward
among_listed [] n h a = absurd a
among_listed (i ∷ is) n h (inl e) =
    (subst (λ (z : Backward). z.index < length sugars) (sym e) (ltb-true i (length sugars) (and_left (ltb i (length sugars)) (all (λ i. ltb i (length sugars)) is) h)), e ∙ ap (λ (z : Backward). backward z.index) (sym e))
among_listed (i ∷ is) n h (inr a) = among_listed is n (and_right (ltb i (length sugars)) (all (λ i. ltb i (length sugars)) is) h) a

-- ---- an item
record ItemStands (r : List ℕ) (w : Way Item) : Type 0 where
  pub good : ItemGood w.read
  pub text : r ≡ back_item w.read ++ w.rest

item_stands : (r : List ℕ) (w : Way Item) → last_item r ≡ some w → ItemStands r w
unfolding last_item tried
item_stands r w e = by_count (last_count r) refl e
  where
    by_name : (v : Way (Option ℕ)) → CountStands r v → (o : Option Backward) → first_front (backwards order) v.rest ≡ o → with_name v.read v.rest o ≡ some w → ItemStands r w
    by_name v c none q f = absurd (not_none w f)
    by_name v c (some n) q f =
        let s = first_stands (backwards order) v.rest n q in
        let l = among_listed order n order_listed s.0 in
        let letters : n.letters ≡ (backward n.index).letters = ap (λ (z : Backward). z.letters) l.1 in
        subst (ItemStands r) (some_same _ w f)
        (record {
          good = record { listed = l.0; count = c.good };
          text =
              c.text
              ∙ ap (λ z. reverse (count_text v.read) ++ z) (front_stands n.letters v.rest s.1 ∙ ap (λ z. z ++ drop (length n.letters) v.rest) letters)
              ∙ sym (append_assoc (reverse (count_text v.read)) (backward n.index).letters (drop (length n.letters) v.rest));
        })

    by_count : (o : Option (Way (Option ℕ))) → last_count r ≡ o → with_count o ≡ some w → ItemStands r w
    by_count none q f = absurd (not_none w f)
    by_count (some v) q f = by_name v (count_stands r v q) (first_front (backwards order) v.rest) refl f

-- ---- all items
over_sound : (r : List ℕ) (o : Option (List Item)) (xs : List Item) → (o ≡ some xs → AllGood xs × (r ≡ spelled_back xs)) → unless_over r o ≡ some xs → AllGood xs × (r ≡ spelled_back xs)
unfolding spelled_back
over_sound [] o xs f e = subst (λ (z : List Item). AllGood z × (◌≡◌ {A = List ℕ} [] (spelled_back z))) (some_same [] xs e) (tt, refl)
over_sound (b ∷ r) o xs f e = f e

back_sound : (k : ℕ) (r : List ℕ) (xs : List Item) → items_back k r ≡ some xs → AllGood xs × (r ≡ spelled_back xs)
unfolding items_back spelled_back
back_sound zero r xs e = over_sound r none xs (λ f. absurd (not_none xs f)) e
back_sound (suc k) r xs e = over_sound r _ xs (by (last_item r) refl (back_sound k)) e
  where
    more : (w : Way Item) → ItemStands r w → (o : Option (List Item)) → ((ys : List Item) → o ≡ some ys → AllGood ys × (w.rest ≡ spelled_back ys)) → optional (λ ys. w.read ∷ ys) o ≡ some xs
        → AllGood xs × (r ≡ spelled_back xs)
    more w s none ih f = absurd (not_none xs f)
    more w s (some ys) ih f =
        let h = ih ys refl in
        subst (λ (z : List Item). AllGood z × (r ≡ spelled_back z)) (some_same (w.read ∷ ys) xs f)
        ((s.good, h.0), s.text ∙ ap (λ z. back_item w.read ++ z) h.1)

    by : (o : Option (Way Item)) → last_item r ≡ o → ((s : List ℕ) (ys : List Item) → items_back k s ≡ some ys → AllGood ys × (s ≡ spelled_back ys))
        → given o (λ w. optional (λ ys. w.read ∷ ys) (items_back k w.rest)) none ≡ some xs → AllGood xs × (r ≡ spelled_back xs)
    by none q ih f = absurd (not_none xs f)
    by (some w) q ih f = more w (item_stands r w q) (items_back k w.rest) (λ ys g. ih w.rest ys g) f

some_letters : (n : List ℕ) → ends_plain n ≡ true → 1 ≤ length n
some_letters [] e = absurd (false≢true e)
some_letters (x ∷ n) e = omega arith

item_long : (x : Item) → ItemGood x → 1 ≤ length (back_item x)
item_long x g =
    omega (arith, length-append (reverse (count_text x.count)) (backward x.name).letters, some_letters (backward x.name).letters (at_each (λ i. ends_plain (backward i).letters) (length sugars) x.name ends_plain_lem g.listed))

not_over : (r : List ℕ) (o : Option (List Item)) → 1 ≤ length r → unless_over r o ≡ o
not_over [] o h = absurd (omega arith)
not_over (b ∷ r) o h = refl

back_complete : (k : ℕ) (xs : List Item) → AllGood xs → length (spelled_back xs) ≤ k → items_back k (spelled_back xs) ≡ some xs
unfolding spelled_back items_back
back_complete zero [] g h = refl
back_complete (suc k) [] g h = refl
back_complete zero (x ∷ xs) g h = absurd (omega (arith, h, item_long x g.0, length-append (back_item x) (spelled_back xs)))
back_complete (suc k) (x ∷ xs) g h =
    let r = back_item x ++ spelled_back xs in
    let long = item_long x g.0 in
    let whole = length-append (back_item x) (spelled_back xs) in
    not_over r _ (omega arith)
    ∙ ap (λ o. given o (λ w. optional (λ ys. w.read ∷ ys) (items_back k w.rest)) none) (last_found x (spelled_back xs) g.0 (starts_well xs g.1))
    ∙ ap (optional (λ ys. x ∷ ys)) (back_complete k xs g.1 (omega arith))

-- ---- the text
reverse_length : (l : List ℕ) → length (reverse l) ≡ length l
reverse_length [] = refl
reverse_length (x ∷ l) = ap length (reverse-cons x l) ∙ length-append (reverse l) (x ∷ []) ∙ omega (arith, reverse_length l)

pub from_right : (t : List ℕ) (xs : List Item) → cut_right t ≡ some xs ↔ Cuts xs t
unfolding cut_right
from_right t xs = (there (items_back (length t) (reverse (map upper t))) refl, back)
  where
    there : (o : Option (List Item)) → items_back (length t) (reverse (map upper t)) ≡ o → optional reverse o ≡ some xs → Cuts xs t
    there none q f = absurd (not_none xs f)
    there (some ys) q f =
        let s = back_sound (length t) (reverse (map upper t)) ys q in
        let g = all_back ys s.0 in
        subst (λ (z : List Item). Cuts z t) (some_same (reverse ys) xs f)
        (record {
          good = g;
          spelled =
              sym (reverse-reverse (map upper t))
              ∙ ap reverse (s.1 ∙ ap spelled_back (sym (reverse-reverse ys)) ∙ sym (back_text (reverse ys) g))
              ∙ reverse-reverse (map upper (cutting_text (reverse ys)));
        })

    back : Cuts xs t → optional reverse (items_back (length t) (reverse (map upper t))) ≡ some xs
    back c =
        let e : reverse (map upper t) ≡ spelled_back (reverse xs) = ap reverse c.spelled ∙ back_text xs c.good in
        let n : length (spelled_back (reverse xs)) ≤ length t = omega (arith, ap length (sym e), reverse_length (map upper t), length-map t upper) in
        ap (λ r. optional reverse (items_back (length t) r)) e
        ∙ ap (optional reverse) (back_complete (length t) (reverse xs) (all_back xs c.good) n)
        ∙ ap some (reverse-reverse xs)

-- ---- one item at a time, as a loop finds them: where x ends the text t and u stands before it, the ways to cut t are those to cut u with x behind them
back_snoc : (xs : List Item) (x : Item) → AllGood xs → ItemGood x → reverse (map upper (cutting_text (xs ++ (x ∷ [])))) ≡ back_item x ++ reverse (map upper (cutting_text xs))
unfolding spelled_back
back_snoc xs x g h =
    back_text (xs ++ (x ∷ [])) (each_append ItemGood xs (x ∷ []) g (h, tt)) ∙ ap spelled_back (reverse-append xs (x ∷ []))
    ∙ ap (λ z. back_item x ++ z) (sym (back_text xs g))

same_back : (l m : List ℕ) → reverse l ≡ reverse m → l ≡ m
same_back l m e = sym (reverse-reverse l) ∙ ap reverse e ∙ reverse-reverse m

module _ (t u : List ℕ) (x : Item) (e : last_item (reverse (map upper t)) ≡ some (way x (reverse (map upper u)))) where
  pub last_off : (xs : List Item) → Cuts (xs ++ (x ∷ [])) t → Cuts xs u
  last_off xs c =
      let g = each_front ItemGood xs (x ∷ []) c.good in
      let h = (each_back ItemGood xs (x ∷ []) c.good).0 in
      let found = last_found x (spelled_back (reverse xs)) h (starts_well (reverse xs) (all_back xs g)) in
      let whole : reverse (map upper t) ≡ back_item x ++ spelled_back (reverse xs) = ap reverse c.spelled ∙ back_snoc xs x g h ∙ ap (λ z. back_item x ++ z) (back_text xs g) in
      let rests : way x (reverse (map upper u)) ≡ way x (spelled_back (reverse xs)) = some_same _ _ (sym e ∙ ap last_item whole ∙ found) in
      record { good = g; spelled = same_back (map upper u) (map upper (cutting_text xs)) (ap (λ (w : Way Item). w.rest) rests ∙ sym (back_text xs g)) }

  pub last_on : (xs : List Item) → Cuts xs u → Cuts (xs ++ (x ∷ [])) t
  last_on xs c =
      let s = item_stands (reverse (map upper t)) (way x (reverse (map upper u))) e in
      record {
        good = each_append ItemGood xs (x ∷ []) c.good (s.good, tt);
        spelled =
            same_back (map upper t) (map upper (cutting_text (xs ++ (x ∷ []))))
            (s.text ∙ ap (λ z. back_item x ++ reverse z) c.spelled ∙ sym (back_snoc xs x c.good s.good));
      }

  -- every way ends so
  pub last_always : (xs : List Item) → Cuts xs t → (ys : List Item) × (xs ≡ ys ++ (x ∷ []))
  unfolding spelled_back
  last_always xs c = by (reverse xs) refl (ap reverse c.spelled ∙ back_text xs c.good) (all_back xs c.good)
    where
      by : (r : List Item) → reverse xs ≡ r → reverse (map upper t) ≡ spelled_back r → AllGood r → (ys : List Item) × (xs ≡ ys ++ (x ∷ []))
      by [] q f g = absurd (not_none (way x (reverse (map upper u))) (sym nothing_last ∙ ap last_item (sym f) ∙ e))
      by (y ∷ ys) q f g =
          let same : way y (spelled_back ys) ≡ way x (reverse (map upper u)) = some_same _ _ (sym (last_found y (spelled_back ys) g.0 (starts_well ys g.1)) ∙ ap last_item (sym f) ∙ e) in
          (reverse ys, sym (reverse-reverse xs) ∙ ap reverse q ∙ reverse-cons y ys ∙ ap (λ z. reverse ys ++ (z ∷ [])) (ap (λ (w : Way Item). w.read) same))

-- where no item ends it, nothing is cut but nothing
pub none_last : (t : List ℕ) → last_item (reverse (map upper t)) ≡ none → (xs : List Item) → Cuts xs t → t ≡ []
unfolding spelled_back
none_last t e xs c = by (reverse xs) (ap reverse c.spelled ∙ back_text xs c.good) (all_back xs c.good)
  where
    empty : (t : List ℕ) → map upper t ≡ [] → t ≡ []
    empty [] q = refl
    empty (b ∷ t) q = let z : ◌≡◌ {A = ℕ} 0 1 = cc in absurd (omega arith)

    by : (r : List Item) → reverse (map upper t) ≡ spelled_back r → AllGood r → t ≡ []
    by [] f g = empty t (same_back (map upper t) [] f)
    by (y ∷ ys) f g = absurd (not_none (way y (spelled_back ys)) (sym e ∙ ap last_item f ∙ last_found y (spelled_back ys) g.0 (starts_well ys g.1)))
