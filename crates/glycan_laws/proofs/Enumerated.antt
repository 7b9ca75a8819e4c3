-- The list of all ways to cut a text has every way and nothing else.
use Rattle.std.specs.Prelude.{ℕ, zero, suc, ◌+◌, ◌-◌, ◌*◌, ◌/◌, ◌%◌, ◌≤◌, ◌<◌, ◌≡◌, refl, ◌↔◌, ◌⊎◌, Bool, true, false, not, cond, eqb, leb, length, take, drop, get_or}
use Rattle.std.proofs.Common.{sym, ap, ap₂, ◌∙◌, subst, inl, inr, arith, length-append, length-take, zero-add, eqb-true, eq-eqb, ne_eqb, leb-true}
use Rattle.std.proofs.lemmas.Bool.{false≢true, eqb-false, not-true}
use Rattle.std.proofs.Math.Option.{Option, none, some}
use mathlib.Core.List.{List, [], ◌∷◌, ◌++◌, map, append_assoc, map-append, head-eq_of_cons-eq, tail-eq_of_cons-eq}
use Rattle.std.proofs.lemmas.List.{length-map}
use Rattle.std.proofs.Math.Seq.{split_at, get_or-append_seam}
use Rattle.scope.specs.Bytes.{upper, is_digit, is_lower, value}
use Rattle.scope.specs.Lists.{given, none?}
use Rattle.scope.specs.Lists.{flat}
use Rattle.basics.specs.Tests.{and_left, and_right, both}
use Rattle.basics.specs.Each.{In}
use Rattle.basics.specs.Members.{in_left, in_right, in_either, in_map, map_in, in_flat, flat_in}
use Rattle.scope.specs.Glycans.{Sugar, Item, Way, way, sugars, sugar_at, name_at, count_text, item_text, cutting_text, behind_name, is_first_digit, second_digit, counts, counted, starts, over, cuttings_up_to, cuttings}
use Rattle.glycan_laws.specs.Laws.{CountGood, ItemGood, Cuts}
use Rattle.glycan_laws.specs.Back.{all_below}
use Rattle.glycan_laws.proofs.Back.{at_each}
use Rattle.glycan_laws.proofs.Digits.{digit, one_digit_lem, two_digits_lem, digits_of_lem}
use Rattle.glycan_laws.proofs.Last.{upper_digit}

-- ---- names
behind_sound : (n t r : List ℕ) → behind_name n t ≡ some r → map upper t ≡ map upper n ++ map upper r
unfolding behind_name
behind_sound [] t r e = ap (λ o. map upper (given o (λ x. x) t)) e
behind_sound (x ∷ n) [] r e = absurd (false≢true (ap (λ o. given o (λ z. true) false) e))
behind_sound (x ∷ n) (b ∷ t) r e = go (eqb (upper x) (upper b)) refl e (behind_sound n t r)
  where
    go : (c : Bool) → eqb (upper x) (upper b) ≡ c → cond c (behind_name n t) none ≡ some r → (behind_name n t ≡ some r → map upper t ≡ map upper n ++ map upper r) → upper b ∷ map upper t ≡ upper x ∷ (map upper n ++ map upper r)
    go true q e f = ap₂ ◌∷◌ (sym (eqb-true (upper x) (upper b) q)) (f e)
    go false q e f = absurd (false≢true (ap (λ o. given o (λ z. true) false) e))

behind_complete : (n t u : List ℕ) → map upper t ≡ map upper n ++ u → (r : List ℕ) × (behind_name n t ≡ some r) × (map upper r ≡ u)
unfolding behind_name
behind_complete [] t u e = (t, refl, e)
behind_complete (x ∷ n) [] u e = let z : ◌≡◌ {A = ℕ} 0 1 = cc in absurd (omega arith)
behind_complete (x ∷ n) (b ∷ t) u e = go (behind_complete n t u (tail-eq_of_cons-eq e))
  where
    go : (r : List ℕ) × (behind_name n t ≡ some r) × (map upper r ≡ u) → (r : List ℕ) × (cond (eqb (upper x) (upper b)) (behind_name n t) none ≡ some r) × (map upper r ≡ u)
    go z = (z.0, ap (λ c. cond c (behind_name n t) none) (eq-eqb (upper x) (upper b) (sym (head-eq_of_cons-eq e))) ∙ z.1, z.2)

-- ---- counts
pub first_digit : (b : ℕ) → is_first_digit b ≡ true → (1 ≤ value b) × (value b ≤ 9) × (b ≡ 48 + value b)
first_digit b e = facts (leb-true 48 b (and_left (leb 48 b) (leb b 57) (and_left _ _ e))) (leb-true b 57 (and_right (leb 48 b) (leb b 57) (and_left _ _ e))) (eqb-false b 48 (not-true (eqb b 48) (and_right (is_digit b) _ e)))
  where
    facts : 48 ≤ b → b ≤ 57 → (b ≡ 48 → ⊥) → (1 ≤ b - 48) × (b - 48 ≤ 9) × (b ≡ 48 + (b - 48))
    facts h k n = (omega arith, omega arith, omega arith)

pub a_digit : (b : ℕ) → is_digit b ≡ true → (value b ≤ 9) × (b ≡ 48 + value b)
a_digit b e = facts (leb-true 48 b (and_left (leb 48 b) (leb b 57) e)) (leb-true b 57 (and_right (leb 48 b) (leb b 57) e))
  where
    facts : 48 ≤ b → b ≤ 57 → (b - 48 ≤ 9) × (b ≡ 48 + (b - 48))
    facts h k = (omega arith, omega arith)

pub two_of : (d e : ℕ) → 1 ≤ d → d ≤ 9 → e ≤ 9 → count_text (some (d * 10 + e)) ≡ (48 + d) ∷ (48 + e) ∷ []
two_of d e h k l = two_digits_lem (d * 10 + e) (omega arith) ∙ ap₂ (λ x y. (48 + x) ∷ (48 + y) ∷ []) tens ones
  where
    tens : (d * 10 + e) / 10 ≡ d
    tens = omega arith

    ones : (d * 10 + e) % 10 ≡ e
    ones = omega arith

-- a count was read, and what stands behind it
pub record ReadsCount (t : List ℕ) (w : Way (Option ℕ)) : Type 0 where
  pub good : CountGood w.read
  pub text : map upper t ≡ count_text w.read ++ map upper w.rest

second_sound : (b : ℕ) (t : List ℕ) (w : Way (Option ℕ)) → is_first_digit b ≡ true → In w (second_digit (value b) t) → ReadsCount (b ∷ t) w
second_sound b [] w f h = absurd h
second_sound b (c ∷ t) w f h = go (is_digit c) refl h
  where
    go : (q : Bool) → is_digit c ≡ q → In w (cond q (way (some (value b * 10 + value c)) t ∷ []) []) → ReadsCount (b ∷ c ∷ t) w
    go true q (inl e) = let x = first_digit b f in let y = a_digit c q in
        subst (ReadsCount (b ∷ c ∷ t)) (sym e)
        (record {
          good = within (value b) (value c) x.0 x.1 y.0;
          text =
              ap₂ (λ k l. k ∷ l ∷ map upper t) (ap upper x.2 ∙ upper_digit (value b) x.1) (ap upper y.1 ∙ upper_digit (value c) y.0)
              ∙ ap (λ l. l ++ map upper t) (sym (two_of (value b) (value c) x.0 x.1 y.0));
        })
      where
        within : (d e : ℕ) → 1 ≤ d → d ≤ 9 → e ≤ 9 → (1 ≤ d * 10 + e) × (d * 10 + e ≤ 99)
        within d e h k l = (omega arith, omega arith)
    go true q (inr e) = absurd e
    go false q e = absurd e

counts_sound : (t : List ℕ) (w : Way (Option ℕ)) → In w (counts t) → ReadsCount t w
counts_sound [] w (inl e) = subst (ReadsCount []) (sym e) (record { good = tt; text = refl })
counts_sound [] w (inr e) = absurd e
counts_sound (b ∷ t) w (inl e) = subst (ReadsCount (b ∷ t)) (sym e) (record { good = tt; text = refl })
counts_sound (b ∷ t) w (inr h) = go (is_first_digit b) refl h
  where
    go : (q : Bool) → is_first_digit b ≡ q → In w (cond q (way (some (value b)) t ∷ second_digit (value b) t) []) → ReadsCount (b ∷ t) w
    go true q (inl e) = let x = first_digit b q in
        subst (ReadsCount (b ∷ t)) (sym e)
        (record {
          good = (x.0, more (value b) x.1);
          text = ap (λ k. k ∷ map upper t) (ap upper x.2 ∙ upper_digit (value b) x.1) ∙ ap (λ l. l ++ map upper t) (sym (one_digit_lem (value b) (below (value b) x.1)));
        })
      where
        more : (d : ℕ) → d ≤ 9 → d ≤ 99
        more d h = omega arith

        below : (d : ℕ) → d ≤ 9 → d < 10
        below d h = omega arith
    go true q (inr e) = second_sound b t w q e
    go false q e = absurd e

-- a digit is read where one is spelled
digit_of : (b d : ℕ) → upper b ≡ 48 + d → d ≤ 9 → b ≡ 48 + d
unfolding upper
digit_of b d e h = go (is_lower b) refl e
  where
    high : 97 ≤ b → b - 32 ≡ 48 + d → b ≡ 48 + d
    high l q = omega arith

    go : (q : Bool) → is_lower b ≡ q → cond q (b - 32) b ≡ 48 + d → b ≡ 48 + d
    go true q e = high (leb-true 97 b (and_left (leb 97 b) (leb b 122) q)) e
    go false q e = e

-- some rest is left, with u ss its folded bytes
abbrev Left : List (Way (Option ℕ)) → ℕ → List ℕ → Type 0
Left ws n u = (r : List ℕ) × In (way (some n) r) ws × (map upper r ≡ u)

one_left : (n d : ℕ) (t u : List ℕ) → 1 ≤ d → d ≤ 9 → n ≡ d → map upper t ≡ (48 + d) ∷ u → Left (counts t) n u
one_left n d [] u h k q e = let z : ◌≡◌ {A = ℕ} 0 1 = cc in absurd (omega arith)
one_left n d (b ∷ t) u h k q e = (t, inr (subst (λ c. In (way (some n) t) (cond c (way (some (value b)) t ∷ second_digit (value b) t) [])) (sym first) (inl (ap (λ m. way (some m) t) (same b is)))), tail-eq_of_cons-eq e)
  where
    is : b ≡ 48 + d
    is = digit_of b d (head-eq_of_cons-eq e) k

    first : is_first_digit b ≡ true
    first = subst (λ x. is_first_digit x ≡ true) (sym is) (both _ _ (digit d k) (ap not (ne_eqb (48 + d) 48 (λ z. omega arith))))

    same : (b : ℕ) → b ≡ 48 + d → n ≡ b - 48
    same b is = omega arith

two_left : (n d e : ℕ) (t u : List ℕ) → 1 ≤ d → d ≤ 9 → e ≤ 9 → n ≡ d * 10 + e → map upper t ≡ (48 + d) ∷ (48 + e) ∷ u → Left (counts t) n u
two_left n d e [] u h k l q p = let z : ◌≡◌ {A = ℕ} 0 1 = cc in absurd (omega arith)
two_left n d e (b ∷ []) u h k l q p = let z : ◌≡◌ {A = ℕ} 0 1 = cc in absurd (omega arith)
two_left n d e (b ∷ c ∷ t) u h k l q p = (
  t,
  inr (subst (λ x. In (way (some n) t) (cond x (way (some (value b)) (c ∷ t) ∷ second_digit (value b) (c ∷ t)) [])) (sym first)
      (inr (subst (λ x. In (way (some n) t) (cond x (way (some (value b * 10 + value c)) t ∷ []) [])) (sym second) (inl (ap (λ m. way (some m) t) (same b c is also)))))),
  tail-eq_of_cons-eq (tail-eq_of_cons-eq p),
)
  where
    is : b ≡ 48 + d
    is = digit_of b d (head-eq_of_cons-eq p) k

    also : c ≡ 48 + e
    also = digit_of c e (head-eq_of_cons-eq (tail-eq_of_cons-eq p)) l

    first : is_first_digit b ≡ true
    first = subst (λ x. is_first_digit x ≡ true) (sym is) (both _ _ (digit d k) (ap not (ne_eqb (48 + d) 48 (λ z. omega arith))))

    second : is_digit c ≡ true
    second = subst (λ x. is_digit x ≡ true) (sym also) (digit e l)

    same : (b c : ℕ) → b ≡ 48 + d → c ≡ 48 + e → n ≡ (b - 48) * 10 + (c - 48)
    same b c x y = omega arith

counts_complete : (c : Option ℕ) (t u : List ℕ) → CountGood c → map upper t ≡ count_text c ++ u → (r : List ℕ) × In (way c r) (counts t) × (map upper r ≡ u)
counts_complete none [] u g e = ([], inl refl, e)
counts_complete none (b ∷ t) u g e = (b ∷ t, inl refl, e)
counts_complete (some n) t u g e =
    digits_of_lem n g.0 g.1 (λ l. map upper t ≡ l ++ u → Left (counts t) n u) (λ d a b q p. one_left n d t u a b q p) (λ d f a b c q p. two_left n d f t u a b c q p) e

-- ---- items
count_up : (c : Option ℕ) → CountGood c → map upper (count_text c) ≡ count_text c
count_up none g = refl
count_up (some n) g =
    digits_of_lem n g.0 g.1 (λ l. map upper l ≡ l) (λ d a b e. ap (λ z. z ∷ []) (upper_digit d b))
    (λ d e a b c q. ap₂ (λ y z. y ∷ z ∷ []) (upper_digit d b) (upper_digit e c))

item_up : (p : Item) → ItemGood p → map upper (item_text p) ≡ map upper (name_at p.name) ++ count_text p.count
item_up p g = map-append upper (name_at p.name) (count_text p.count) ∙ ap (λ z. map upper (name_at p.name) ++ z) (count_up p.count g.count)

pub record ReadsItem (t : List ℕ) (w : Way Item) : Type 0 where
  pub good : ItemGood w.read
  pub text : map upper t ≡ map upper (item_text w.read) ++ map upper w.rest

counted_sound : (i : ℕ) (t r : List ℕ) (w : Way Item) → i < length sugars → map upper t ≡ map upper (name_at i) ++ map upper r → In w (counted i r) → ReadsItem t w
counted_sound i t r w l e h = go (in_map (λ v. way (record { name = i; count = v.read }) v.rest) w (counts r) h)
  where
    go : (v : Way (Option ℕ)) × In v (counts r) × (w ≡ way (record { name = i; count = v.read }) v.rest) → ReadsItem t w
    go z =
        let v = z.0 in
        let c = counts_sound r v z.1 in
        let g : ItemGood (record { name = i; count = v.read }) = record { listed = l; count = c.good } in
        subst (ReadsItem t) (sym z.2)
        (record {
          good = g;
          text =
              e ∙ ap (λ x. map upper (name_at i) ++ x) c.text ∙ sym (append_assoc (map upper (name_at i)) (count_text v.read) (map upper v.rest))
              ∙ ap (λ x. x ++ map upper v.rest) (sym (item_up (record { name = i; count = v.read }) g));
        })

starts_sound : (pre ss : List Sugar) (t : List ℕ) (w : Way Item) → sugars ≡ pre ++ ss → In w (starts (length pre) ss t) → ReadsItem t w
unfolding starts
starts_sound pre [] t w e h = absurd h
starts_sound pre (s ∷ ss) t w e h =
    go (in_either w (given (behind_name s.name t) (counted (length pre)) []) (starts (length pre + 1) ss t) h)
    (λ k. starts_sound (pre ++ (s ∷ [])) ss t w (e ∙ sym (append_assoc pre (s ∷ []) ss)) (subst (λ n. In w (starts n ss t)) (sym (length-append pre (s ∷ []))) k))
  where
    at : sugar_at (length pre) ≡ s
    at = ap (λ l. get_or l (length pre) (record { name = []; mass = 0 })) e ∙ get_or-append_seam pre s ss (record { name = []; mass = 0 })

    inside : length pre < length sugars
    inside = let a = ap length e in let b = length-append pre (s ∷ ss) in omega arith

    named : (o : Option (List ℕ)) → behind_name s.name t ≡ o → In w (given o (counted (length pre)) []) → ReadsItem t w
    named none q k = absurd k
    named (some r) q k = counted_sound (length pre) t r w inside (behind_sound s.name t r q ∙ ap (λ x. map upper x.name ++ map upper r) (sym at)) k

    go : In w (given (behind_name s.name t) (counted (length pre)) []) ⊎ In w (starts (length pre + 1) ss t) → (In w (starts (length pre + 1) ss t) → ReadsItem t w) → ReadsItem t w
    go (inl k) ih = named (behind_name s.name t) refl k
    go (inr k) ih = ih k

starts_append : (i : ℕ) (ss bs : List Sugar) (t : List ℕ) → starts i (ss ++ bs) t ≡ starts i ss t ++ starts (i + length ss) bs t
unfolding starts
starts_append i [] bs t = ap (λ n. starts n bs t) same
  where
    same : i ≡ i + 0
    same = omega arith
starts_append i (s ∷ ss) bs t =
    ap (λ z. given (behind_name s.name t) (counted i) [] ++ z) (starts_append (i + 1) ss bs t ∙ ap (λ n. starts (i + 1) ss t ++ starts n bs t) same)
    ∙ sym (append_assoc (given (behind_name s.name t) (counted i) []) (starts (i + 1) ss t) (starts (i + suc (length ss)) bs t))
  where
    same : i + 1 + length ss ≡ i + suc (length ss)
    same = omega arith

starts_complete : (p : Item) (t u : List ℕ) → ItemGood p → map upper t ≡ map upper (item_text p) ++ u → (r : List ℕ) × In (way p r) (starts 0 sugars t) × (map upper r ≡ u)
unfolding starts
starts_complete p t u g e = named (behind_complete (name_at i) t (count_text p.count ++ u) (e ∙ ap (λ z. z ++ u) (item_up p g) ∙ append_assoc (map upper (name_at i)) (count_text p.count) u))
  where
    i : ℕ
    i = p.name

    none_such : Sugar
    none_such = record { name = []; mass = 0 }

    front : length (take i sugars) ≡ i
    front = let l = g.listed in let q = length-take i sugars in omega arith

    here : starts 0 sugars t ≡ starts 0 (take i sugars) t ++ (given (behind_name (name_at i) t) (counted i) [] ++ starts (i + 1) (drop (suc i) sugars) t)
    here =
        ap (λ l. starts 0 l t) (split_at sugars i none_such g.listed)
        ∙ starts_append 0 (take i sugars) (sugar_at i ∷ drop (suc i) sugars) t
        ∙ ap (λ n. starts 0 (take i sugars) t ++ starts n (sugar_at i ∷ drop (suc i) sugars) t) (zero-add (length (take i sugars)) ∙ front)

    named : (r : List ℕ) × (behind_name (name_at i) t ≡ some r) × (map upper r ≡ count_text p.count ++ u) → (r : List ℕ) × In (way p r) (starts 0 sugars t) × (map upper r ≡ u)
    named z = counting (counts_complete p.count z.0 u g.count z.2)
      where
        counting : (r : List ℕ) × In (way p.count r) (counts z.0) × (map upper r ≡ u) → (r : List ℕ) × In (way p r) (starts 0 sugars t) × (map upper r ≡ u)
        counting y = (
          y.0,
          subst (In (way p y.0)) (sym here)
              (in_right (way p y.0) (starts 0 (take i sugars) t) _
              (in_left (way p y.0) (given (behind_name (name_at i) t) (counted i) []) _
              (subst (λ o. In (way p y.0) (given o (counted i) [])) (sym z.1) (map_in (λ v. way (record { name = i; count = v.read }) v.rest) (way p.count y.0) (counts z.0) y.1)))),
          y.2,
        )

-- ---- cuttings
over_sound : (t : List ℕ) (xs : List Item) → In xs (over t) → Cuts xs t
unfolding flat
over_sound [] xs (inl e) = subst (λ l. Cuts l []) (sym e) (record { good = tt; spelled = refl })
over_sound [] xs (inr h) = absurd h
over_sound (b ∷ t) xs h = absurd h

cuts_on : (t : List ℕ) (w : Way Item) (xs : List Item) → ReadsItem t w → Cuts xs w.rest → Cuts (w.read ∷ xs) t
unfolding flat
cuts_on t w xs r c =
    record {
      good = (r.good, c.good);
      spelled = r.text ∙ ap (λ z. map upper (item_text w.read) ++ z) c.spelled ∙ sym (map-append upper (item_text w.read) (cutting_text xs));
    }

cut_sound : (k : ℕ) (t : List ℕ) (xs : List Item) → In xs (cuttings_up_to k t) → Cuts xs t
unfolding cuttings_up_to
cut_sound zero t xs h = over_sound t xs h
cut_sound (suc k) t xs h = go (cut_sound k) (in_either xs (over t) _ h)
  where
    go :
        ((r : List ℕ) (ys : List Item) → In ys (cuttings_up_to k r) → Cuts ys r)
        → In xs (over t) ⊎ In xs (flat (λ w. map (λ ys. w.read ∷ ys) (cuttings_up_to k w.rest)) (starts 0 sugars t)) → Cuts xs t
    go ih (inl m) = over_sound t xs m
    go ih (inr m) =
        let z = in_flat (λ w. map (λ ys. w.read ∷ ys) (cuttings_up_to k w.rest)) xs (starts 0 sugars t) m in
        let y = in_map (λ ys. z.0.read ∷ ys) xs (cuttings_up_to k z.0.rest) z.2 in
        subst (λ l. Cuts l t) (sym y.2) (cuts_on t z.0 y.0 (starts_sound [] sugars t z.0 refl z.1) (ih z.0.rest y.0 y.1))

-- a name has some bytes
name_some : all_below (λ i. not (none? (name_at i))) (length sugars) ≡ true
unfolding all_below sugars
name_some = refl

some_bytes : (l : List ℕ) → not (none? l) ≡ true → 1 ≤ length l
some_bytes [] e = absurd (false≢true e)
some_bytes (b ∷ l) e = omega arith

shorter : (p : Item) (t r u : List ℕ) → ItemGood p → map upper t ≡ map upper (item_text p) ++ u → map upper r ≡ u → length r + 1 ≤ length t
shorter p t r u g e f =
    let a = some_bytes (name_at p.name) (at_each (λ i. not (none? (name_at i))) _ p.name name_some g.listed) in
    let b = length-append (name_at p.name) (count_text p.count) in
    let c = length-append (map upper (item_text p)) u in
    let d = ap length e in
    let h = ap length f in
    let i = length-map t upper in
    let j = length-map r upper in
    let k = length-map (item_text p) upper in
    omega arith

nothing_left : (t : List ℕ) → map upper t ≡ [] → t ≡ []
nothing_left [] e = refl
nothing_left (b ∷ t) e = let z : ◌≡◌ {A = ℕ} 0 1 = cc in absurd (omega arith)

cut_complete : (k : ℕ) (t : List ℕ) (xs : List Item) → Cuts xs t → length t ≤ k → In xs (cuttings_up_to k t)
unfolding cuttings_up_to flat
cut_complete zero t [] c h = subst (λ l. In [] (over l)) (sym (nothing_left t c.spelled)) (inl refl)
cut_complete zero t (p ∷ xs) c h = go (starts_complete p t (map upper (cutting_text xs)) c.good.0 (c.spelled ∙ map-append upper (item_text p) (cutting_text xs)))
  where
    go : (r : List ℕ) × In (way p r) (starts 0 sugars t) × (map upper r ≡ map upper (cutting_text xs)) → In (p ∷ xs) (over t)
    go z = let s = shorter p t z.0 (map upper (cutting_text xs)) c.good.0 (c.spelled ∙ map-append upper (item_text p) (cutting_text xs)) z.2 in absurd (omega arith)
cut_complete (suc k) t [] c h = in_left [] (over t) _ (subst (λ l. In [] (over l)) (sym (nothing_left t c.spelled)) (inl refl))
cut_complete (suc k) t (p ∷ xs) c h = go (λ r. cut_complete k r xs) (starts_complete p t (map upper (cutting_text xs)) c.good.0 (c.spelled ∙ map-append upper (item_text p) (cutting_text xs)))
  where
    go :
        ((r : List ℕ) → Cuts xs r → length r ≤ k → In xs (cuttings_up_to k r))
        → (r : List ℕ) × In (way p r) (starts 0 sugars t) × (map upper r ≡ map upper (cutting_text xs)) → In (p ∷ xs) (over t ++ flat (λ w. map (λ ys. w.read ∷ ys) (cuttings_up_to k w.rest)) (starts 0 sugars t))
    go ih z =
        let s = shorter p t z.0 (map upper (cutting_text xs)) c.good.0 (c.spelled ∙ map-append upper (item_text p) (cutting_text xs)) z.2 in
        in_right (p ∷ xs) (over t) _
        (flat_in (λ w. map (λ ys. w.read ∷ ys) (cuttings_up_to k w.rest)) (way p z.0) (p ∷ xs) (starts 0 sugars t) z.1
        (map_in (λ ys. p ∷ ys) xs (cuttings_up_to k z.0) (ih z.0 (record { good = c.good.1; spelled = z.2 }) (few z.0 s))))
      where
        few : (r : List ℕ) → length r + 1 ≤ length t → length r ≤ k
        few r s = omega arith

pub every_way : (t : List ℕ) (xs : List Item) → In xs (cuttings t) ↔ Cuts xs t
unfolding cuttings
every_way t xs = (cut_sound (length t) t xs, λ c. cut_complete (length t) t xs c (same (length t)))
  where
    same : (n : ℕ) → n ≤ n
    same n = omega arith
