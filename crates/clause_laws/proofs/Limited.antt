-- Refusals 1 to 3, 5 to 7 and 12 are due exactly as their clauses say: each list of places is opened piece by piece, and a limit is a test.
use Rattle.std.specs.Prelude.{ℕ, zero, suc, ◌+◌, ◌-◌, ◌*◌, ◌^◌, ◌≤◌, ◌<◌, ◌≡◌, refl, ◌↔◌, ◌⊎◌, Bool, true, false, not, ◌&&◌, ◌||◌, List, [], ◌∷◌, ◌++◌, map, eqb, leb, ltb, length, drop}
use Rattle.std.proofs.Common.{arith, add-zero, sym, ap, ◌∙◌, subst, true≢false, length-append, eqb-true, eq-eqb, ltb-true, lt-ltb, leb-true, le-leb}
use Rattle.std.proofs.lemmas.Bool.{false≢true}
use Rattle.std.proofs.Math.Option.{Option, none, some}
use Rattle.scope.specs.Bytes.{is_printable, is_opening}
use Rattle.scope.specs.Limits.{line_limit, residue_limit, bracket_limit, part_limit, text_limit, label_limit, depth_limit, size_limit, decimal_limit, count_limit, copy_limit, declaration_limit, place_limit}
use Rattle.scope.specs.Line.{Number, Label, Value, mass, text, reference, composition, Place, Part, Bracket, Residue, Line}
use Rattle.scope.specs.Keys.{written}
use Rattle.scope.specs.Lists.{given, none?, flat}
use Rattle.scope.specs.Modifications.{copies}
use Rattle.scope.specs.Refusals.{due_at, refusal1, refusal2, unprintable, refusal3, depth_after, too_deep, text_of, deep_part, refusal5, long_text, long_label, many_places, over_in, declarations, many_declarations, refusal6, in_range, wide, wide_mass, wide_score, wide_count, refusal7, passing, refusal12}
use Rattle.clause_laws.specs.Clauses.{SomeBehind, Due3, open_after, Due5, LongLabel, Due6, InRange, WideMass, WideScore, WideCount, Due7, copies_in, Due12}
use Rattle.basics.specs.Each.{Some, In}
use Rattle.clause_laws.proofs.Iff.{then, or_iff, and_iff, self, not_iff, either_iff, in_append, in_flat, due_iff}

-- ---- limits
leb_iff : (m n : ℕ) → (leb m n ≡ true) ↔ (m ≤ n)
leb_iff m n = (leb-true m n, le-leb m n)

ltb_iff : (m n : ℕ) → (ltb m n ≡ true) ↔ (m < n)
ltb_iff m n = (ltb-true m n, lt-ltb m n)

-- ---- 1 and 2
pub exactly_1 : (s : List ℕ) (i : ℕ) → In i (refusal1 s) ↔ ((i ≡ 0) × (s ≡ []))
unfolding refusal1
exactly_1 s i = due_iff (none? s) 0 i (empty_iff s)
  where
    empty_iff : (s : List ℕ) → (none? s ≡ true) ↔ (s ≡ [])
    empty_iff [] = ((λ e. refl), (λ e. refl))
    empty_iff (b ∷ s) = ((λ e. absurd (false≢true e)), (λ e. ap none? e))

pub exactly_2 : (s : List ℕ) (i : ℕ) → In i (refusal2 s) ↔ ((i ≡ line_limit) × (line_limit < length s))
unfolding refusal2
exactly_2 s i = due_iff (ltb line_limit (length s)) line_limit i (ltb_iff line_limit (length s))

-- ---- 3
no_iff : (a : Bool) → (not a ≡ true) ↔ (a ≡ false)
no_iff true = ((λ e. absurd (false≢true e)), (λ e. absurd (true≢false e)))
no_iff false = ((λ e. refl), (λ e. refl))

byte_iff : (j : ℕ) (s front : List ℕ) → In j (unprintable (length front) s) ↔ SomeBehind (λ (f : List ℕ) (b : ℕ). (j ≡ length f) × (is_printable b ≡ false)) front s
unfolding unprintable
byte_iff j [] front = self
byte_iff j (b ∷ s) front =
    then (in_append (λ y. j ≡ y) (due_at (not (is_printable b)) (length front)) (unprintable (length front + 1) s))
    (either_iff (due_iff (not (is_printable b)) (length front) j (no_iff (is_printable b)))
    (subst (λ (n : ℕ). In j (unprintable n s) ↔ SomeBehind (λ (f : List ℕ) (b : ℕ). (j ≡ length f) × (is_printable b ≡ false)) (front ++ (b ∷ [])) s) (length-append front (b ∷ [])) (byte_iff j s (front ++ (b ∷ [])))))

pub exactly_3 : (s : List ℕ) (i : ℕ) → In i (refusal3 s) ↔ Due3 s i
unfolding refusal3
exactly_3 s i = byte_iff i s []

-- ---- 5
abbrev Deep : ℕ → ℕ → List ℕ → ℕ → Type 0
Deep at j front b = (j ≡ at + length front) × ((is_opening b ≡ true) × (depth_limit ≤ open_after 0 front))

open_snoc : (d : ℕ) (front : List ℕ) (b : ℕ) → open_after d (front ++ (b ∷ [])) ≡ depth_after (open_after d front) b
unfolding open_after
open_snoc d [] b = refl
open_snoc d (x ∷ front) b = open_snoc (depth_after d x) front b

deep_iff : (at j : ℕ) (t front : List ℕ) → In j (too_deep (open_after 0 front) (at + length front) t) ↔ SomeBehind (Deep at j) front t
unfolding too_deep
deep_iff at j [] front = self
deep_iff at j (b ∷ t) front =
    let d = open_after 0 front in
    let n : at + length (front ++ (b ∷ [])) ≡ at + length front + 1 = let e = length-append front (b ∷ []) in omega (arith, e) in
    let ih : In j (too_deep (depth_after d b) (at + length front + 1) t) ↔ SomeBehind (Deep at j) (front ++ (b ∷ [])) t =
    subst (λ (m : ℕ). In j (too_deep (depth_after d b) m t) ↔ SomeBehind (Deep at j) (front ++ (b ∷ [])) t) n
    (subst (λ (m : ℕ). In j (too_deep m (at + length (front ++ (b ∷ []))) t) ↔ SomeBehind (Deep at j) (front ++ (b ∷ [])) t) (open_snoc 0 front b) (deep_iff at j t (front ++ (b ∷ [])))) in
    then (in_append (λ y. j ≡ y) (due_at (is_opening b && leb depth_limit d) (at + length front)) (too_deep (depth_after d b) (at + length front + 1) t))
    (either_iff (due_iff (is_opening b && leb depth_limit d) (at + length front) j (and_iff _ _ self (leb_iff depth_limit d))) ih)

part_iff : (j : ℕ) (p : Part ℕ) → In j (deep_part p) ↔ SomeBehind (Deep (p.at + length (written p.key)) j) [] (text_of p)
unfolding open_after
part_iff j p =
    subst (λ (m : ℕ). In j (too_deep 0 m (text_of p)) ↔ SomeBehind (Deep (p.at + length (written p.key)) j) [] (text_of p)) (add-zero (p.at + length (written p.key)))
    (deep_iff (p.at + length (written p.key)) j (text_of p) [])

pub exactly_5 : (l : Line ℕ) (i : ℕ) → In i (refusal5 l) ↔ Due5 l i
unfolding refusal5
exactly_5 l i = in_flat (λ y. i ≡ y) _ _ (λ k. in_flat (λ y. i ≡ y) _ _ (part_iff i) k.parts) l.brackets

-- ---- 6
in_map : {A : Type 0} (f : A → ℕ) (j : ℕ) (l : List A) → In j (map f l) ↔ Some (λ (x : A). j ≡ f x) l
in_map f j [] = self
in_map f j (x ∷ l) = either_iff self (in_map f j l)

drop_map : {A : Type 0} (f : A → ℕ) (n : ℕ) (l : List A) → drop n (map f l) ≡ map f (drop n l)
drop_map f zero l = refl
drop_map f (suc n) [] = refl
drop_map f (suc n) (x ∷ l) = drop_map f n l

in_drop : {A : Type 0} (f : A → ℕ) (n j : ℕ) (l : List A) → In j (drop n (map f l)) ↔ Some (λ (x : A). j ≡ f x) (drop n l)
in_drop {A} f n j l = subst (λ (z : List ℕ). In j z ↔ Some (λ (x : A). j ≡ f x) (drop n l)) (sym (drop_map f n l)) (in_map f j (drop n l))

label_iff : (j : ℕ) (p : Part ℕ) → In j (long_label p) ↔ LongLabel j p
label_iff j p = (there p.label refl, back)
  where
    there : (o : Option (Label ℕ)) → p.label ≡ o → In j (given o (λ x. due_at (ltb label_limit (length x.name)) x.at) []) → LongLabel j p
    there none e q = absurd q
    there (some x) e q = let r = (due_iff (ltb label_limit (length x.name)) x.at j (ltb_iff label_limit (length x.name))).0 q in (x, (e, (r.0, r.1)))

    back : LongLabel j p → In j (long_label p)
    back v =
        subst (λ (o : Option (Label ℕ)). In j (given o (λ x. due_at (ltb label_limit (length x.name)) x.at) [])) (sym v.1.0)
        ((due_iff (ltb label_limit (length v.0.name)) v.0.at j (ltb_iff label_limit (length v.0.name))).1 v.1.1)

texts_iff : (j : ℕ) (k : Bracket ℕ)
    → In j (flat (λ p. long_text p ++ long_label p) k.parts) ↔ Some (λ (p : Part ℕ). ((j ≡ p.at) × (text_limit < length (text_of p))) ⊎ LongLabel j p) k.parts
texts_iff j k =
    in_flat (λ y. j ≡ y) _ _ (λ p. then (in_append (λ y. j ≡ y) (long_text p) (long_label p)) (either_iff (due_iff (ltb text_limit (length (text_of p))) p.at j (ltb_iff text_limit (length (text_of p)))) (label_iff j p))) k.parts

over_iff : (j : ℕ) (k : Bracket ℕ) → In j (over_in k)
    ↔ (Some (λ (p : Part ℕ). j ≡ p.at) (drop part_limit k.parts)
    ⊎ (Some (λ (p : Part ℕ). ((j ≡ p.at) × (text_limit < length (text_of p))) ⊎ LongLabel j p) k.parts ⊎ Some (λ (p : Place ℕ). j ≡ p.at) (drop place_limit k.places)))
over_iff j k =
    then (in_append (λ y. j ≡ y) (drop part_limit (map (λ p. p.at) k.parts)) (flat (λ p. long_text p ++ long_label p) k.parts ++ many_places k))
    (either_iff (in_drop (λ (p : Part ℕ). p.at) part_limit j k.parts)
    (then (in_append (λ y. j ≡ y) (flat (λ p. long_text p ++ long_label p) k.parts) (many_places k))
    (either_iff (texts_iff j k) (in_drop (λ (p : Place ℕ). p.at) place_limit j k.places))))

pub exactly_6 : (l : Line ℕ) (i : ℕ) → In i (refusal6 l) ↔ Due6 l i
unfolding refusal6
exactly_6 l i =
    then (in_append (λ y. i ≡ y) (drop residue_limit (map (λ r. r.at) l.residues)) _)
    (either_iff (in_drop (λ (r : Residue ℕ). r.at) residue_limit i l.residues)
    (then (in_append (λ y. i ≡ y) (drop bracket_limit (map (λ k. k.at) l.brackets)) _)
    (either_iff (in_drop (λ (k : Bracket ℕ). k.at) bracket_limit i l.brackets)
    (then (in_append (λ y. i ≡ y) (many_declarations l.brackets) (flat over_in l.brackets))
    (either_iff (in_drop (λ (k : Bracket ℕ). k.at - 1) declaration_limit i (declarations l.brackets)) (in_flat (λ y. i ≡ y) over_in _ (over_iff i) l.brackets))))))

-- ---- 7
range_iff : (n : Number ℕ) → (in_range n ≡ true) ↔ InRange n
range_iff n = and_iff _ _ (leb_iff n.decimals decimal_limit) (ltb_iff n.digits (size_limit * 10 ^ n.decimals))

wide_iff : (j : ℕ) (n : Number ℕ) → In j (wide n) ↔ ((j ≡ n.at) × (InRange n → ⊥))
wide_iff j n = due_iff (not (in_range n)) n.at j (not_iff (in_range n) (range_iff n))

mass_iff : (j : ℕ) (p : Part ℕ) → In j (wide_mass p.value) ↔ WideMass j p
mass_iff j p = (there p.value refl, λ v. subst (λ (x : Value ℕ). In j (wide_mass x)) (sym v.1.0) ((wide_iff j v.0).1 v.1.1))
  where
    there : (x : Value ℕ) → p.value ≡ x → In j (wide_mass x) → WideMass j p
    there (mass n) e q = (n, (e, (wide_iff j n).0 q))
    there (text t) e q = absurd q
    there reference e q = absurd q
    there (composition u n) e q = absurd q

score_iff : (j : ℕ) (p : Part ℕ) → In j (wide_score p) ↔ WideScore j p
score_iff j p = (there p.label refl, back)
  where
    inner : (x : Label ℕ) → p.label ≡ some x → (o : Option (Number ℕ)) → x.score ≡ o → In j (given o wide []) → WideScore j p
    inner x e none f q = absurd q
    inner x e (some n) f q = (x, (e, (n, (f, (wide_iff j n).0 q))))

    there : (o : Option (Label ℕ)) → p.label ≡ o → In j (given o (λ x. given x.score wide []) []) → WideScore j p
    there none e q = absurd q
    there (some x) e q = inner x e x.score refl q

    back : WideScore j p → In j (wide_score p)
    back v =
        subst (λ (o : Option (Label ℕ)). In j (given o (λ x. given x.score wide []) [])) (sym v.1.0)
        (subst (λ (o : Option (Number ℕ)). In j (given o wide [])) (sym v.1.1.1.0) ((wide_iff j v.1.1.0).1 v.1.1.1.1))

zero_iff : (n : ℕ) → (eqb n 0 ≡ true) ↔ (n ≡ 0)
zero_iff n = (eqb-true n 0, eq-eqb n 0)

count_iff : (j : ℕ) (k : Bracket ℕ) → In j (wide_count k) ↔ WideCount j k
count_iff j k = (there k.counted refl, back)
  where
    so : (eqb k.count 0 || ltb count_limit k.count) ≡ true ↔ ((k.count ≡ 0) ⊎ (count_limit < k.count))
    so = or_iff _ _ (zero_iff k.count) (ltb_iff count_limit k.count)

    there : (o : Option ℕ) → k.counted ≡ o → In j (given o (due_at (eqb k.count 0 || ltb count_limit k.count)) []) → WideCount j k
    there none e q = absurd q
    there (some p) e q = let r = (due_iff _ p j so).0 q in (e ∙ ap some (sym r.0), r.1)

    back : WideCount j k → In j (wide_count k)
    back v = subst (λ (o : Option ℕ). In j (given o (due_at (eqb k.count 0 || ltb count_limit k.count)) [])) (sym v.0) ((due_iff _ j j so).1 (refl, v.1))

pub exactly_7 : (l : Line ℕ) (i : ℕ) → In i (refusal7 l) ↔ Due7 l i
unfolding refusal7
exactly_7 l i =
    in_flat (λ y. i ≡ y) _ _ (λ k.
    then (in_append (λ y. i ≡ y) (wide_count k) (flat (λ p. wide_mass p.value ++ wide_score p) k.parts))
    (either_iff (count_iff i k) (in_flat (λ y. i ≡ y) _ _ (λ p. then (in_append (λ y. i ≡ y) (wide_mass p.value) (wide_score p)) (either_iff (mass_iff i p) (score_iff i p))) k.parts))) l.brackets

-- ---- 12
abbrev Passes : ℕ → List (Bracket ℕ) → Bracket ℕ → Type 0
Passes j front k = (j ≡ k.at) × ((copies_in front ≤ copy_limit) × (copy_limit < copies_in front + copies k))

copies_snoc : (front : List (Bracket ℕ)) (k : Bracket ℕ) → copies_in (front ++ (k ∷ [])) ≡ copies_in front + copies k
unfolding copies_in
copies_snoc [] k = omega arith
copies_snoc (q ∷ front) k = let e = copies_snoc front k in omega (arith, e)

passing_iff : (j : ℕ) (ks front : List (Bracket ℕ)) → In j (passing (copies_in front) ks) ↔ SomeBehind (Passes j) front ks
unfolding passing
passing_iff j [] front = self
passing_iff j (k ∷ ks) front =
    let n = copies_in front in
    let ih : In j (passing (n + copies k) ks) ↔ SomeBehind (Passes j) (front ++ (k ∷ [])) ks =
    subst (λ (m : ℕ). In j (passing m ks) ↔ SomeBehind (Passes j) (front ++ (k ∷ [])) ks) (copies_snoc front k) (passing_iff j ks (front ++ (k ∷ []))) in
    then (in_append (λ y. j ≡ y) (due_at (leb n copy_limit && ltb copy_limit (n + copies k)) k.at) (passing (n + copies k) ks))
    (either_iff (due_iff (leb n copy_limit && ltb copy_limit (n + copies k)) k.at j (and_iff _ _ (leb_iff n copy_limit) (ltb_iff copy_limit (n + copies k)))) ih)

pub exactly_12 : (l : Line ℕ) (i : ℕ) → In i (refusal12 l) ↔ Due12 l i
unfolding refusal12 copies_in
exactly_12 l i = passing_iff i l.brackets []
