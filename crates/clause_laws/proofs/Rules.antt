-- Refusals 8 to 11, 19 and 21, are due exactly as their clauses say: of keys by their codes, of labels by the names in front of a bracket, of compositions by
-- the list of all ways to cut them.
use Rattle.std.specs.Prelude.{ℕ, ◌≡◌, refl, ◌↔◌, ◌⊎◌, Bool, true, false, not, cond, List, [], ◌∷◌, ◌++◌, length}
use Rattle.std.proofs.Common.{sym, ap, ◌∙◌, subst, inl, inr, true≢false, eqb-true, eq-eqb, ltb-true, lt-ltb}
use Rattle.std.proofs.lemmas.Bool.{false≢true}
use Rattle.std.proofs.Math.Option.{Option, none, some, none-ne-some}
use Rattle.scope.specs.declared.grammar.Key.{Key}
use Rattle.scope.specs.declared.grammar.Key.TheVariants.{NoKey, U, M, Info, Formula, Glycan, Position, Limit}
use Rattle.scope.specs.declared.grammar.Kind.{Kind}
use Rattle.scope.specs.declared.grammar.Kind.TheVariants.{Unknown, Labile, Declared}
use Rattle.scope.specs.Bytes.{is_digit}
use Rattle.scope.specs.Line.{Label, Part, Bracket, Line}
use Rattle.scope.specs.Keys.{key_code, key_in}
use Rattle.scope.specs.Lists.{given, none?, flat, among, shared}
use Rattle.scope.specs.Modifications.{is_key, is_referring, name_of, names_of, is_labelled, defined_by, referred_by, defined, referred_to}
use Rattle.scope.specs.Refusals.{due_at, text_of, is_rule_name, is_rule, is_link, not_here, second_label, defined_again, undefined, unreferred, wrong_labels, wrongly_labelled, refusal8, is_number_name, refusal9, refusal10, refusal21, refusal11, is_uncut, refusal19}
use Rattle.scope.specs.Kinds.{kind_code, is_kind, unknown_or_labile}
use Rattle.clause_laws.specs.Clauses.{SomeBehind, Rule, Link, Barred, Due8, Due10, Due21, Named, Defines, RefersTo, Second, Again, Undefined, CountedLabel, Unreferred, Due11, NumberName, Due9, Uncut, Due19}
use Rattle.basics.specs.Each.{Some, In}
use Rattle.clause_laws.proofs.Iff.{then, or_iff, and_iff, self, all_iff, some_not, either_iff, in_append, in_flat, among_iff, due_iff}
use Rattle.scope.specs.Glycans.{Item, cuttings}
use Rattle.glycan_laws.specs.Laws.{Cuts}
use Rattle.glycan_laws.proofs.Enumerated.{every_way}
use Rattle.basics.specs.Keys.{key_back}
use Rattle.basics.specs.Kinds.{is_kind_lem}

-- ---- keys and kinds
key_iff : (k : Key) (p : Part ℕ) → (is_key k p ≡ true) ↔ (p.key ≡ k)
key_iff k p = (
  (λ e. sym (key_back p.key) ∙ ap key_in (eqb-true (key_code p.key) (key_code k) e) ∙ key_back k),
  (λ e. eq-eqb (key_code p.key) (key_code k) (ap key_code e)),
)

kind_iff : (j k : Kind) → (is_kind j k ≡ true) ↔ (k ≡ j)
kind_iff j k = (is_kind_lem j k, λ e. eq-eqb (kind_code k) (kind_code j) (ap kind_code e))

-- ---- 8
link_iff : (p : Part ℕ) → (given p.label (λ l. is_link l.name) false ≡ true) ↔ Link p
link_iff p = (there p.label refl, back)
  where
    there : (o : Option (Label ℕ)) → p.label ≡ o → given o (λ l. is_link l.name) false ≡ true → Link p
    there none e q = absurd (false≢true q)
    there (some l) e q = (l, (e, (or_iff _ _ self self).0 q))

    back : Link p → given p.label (λ l. is_link l.name) false ≡ true
    back v = ap (λ (o : Option (Label ℕ)). given o (λ l. is_link l.name) false) v.1.0 ∙ (or_iff _ _ self self).1 v.1.1

rule_iff : (p : Part ℕ) → (is_rule p ≡ true) ↔ Rule p
unfolding is_rule_name
rule_iff p = and_iff _ _ (key_iff NoKey p) (or_iff _ _ (or_iff _ _ (or_iff _ _ self self) self) self)

barred_iff : (p : Part ℕ) → (not_here p ≡ true) ↔ Barred p
barred_iff p = or_iff _ _ (or_iff _ _ (or_iff _ _ (or_iff _ _ (key_iff Formula p) (key_iff Position p)) (key_iff Limit p)) (rule_iff p)) (link_iff p)

pub exactly_8 : (l : Line ℕ) (i : ℕ) → In i (refusal8 l) ↔ Due8 l i
unfolding refusal8
exactly_8 l i =
    in_flat (λ y. i ≡ y) _ _ (λ k. in_flat (λ y. i ≡ y) _ _ (λ p. due_iff (not_here p) p.at i (barred_iff p)) k.parts) l.brackets

-- ---- 9
filled_iff : (t : List ℕ) → (not (none? t) ≡ true) ↔ (t ≡ [] → ⊥)
filled_iff [] = ((λ e. absurd (false≢true e)), (λ h. absurd (h refl)))
filled_iff (b ∷ t) = ((λ e q. false≢true (ap none? q)), (λ h. refl))

number_iff : (p : Part ℕ) → (is_number_name p ≡ true) ↔ NumberName p
number_iff p = and_iff _ _ (and_iff _ _ (or_iff _ _ (key_iff U p) (key_iff M p)) (filled_iff (text_of p))) (all_iff is_digit (λ b. is_digit b ≡ true) (λ b. self) (text_of p))

pub exactly_9 : (l : Line ℕ) (i : ℕ) → In i (refusal9 l) ↔ Due9 l i
unfolding refusal9
exactly_9 l i =
    in_flat (λ y. i ≡ y) _ _ (λ k. in_flat (λ y. i ≡ y) _ _ (λ p. due_iff (is_number_name p) p.at i (number_iff p)) k.parts) l.brackets

-- ---- 10
free_iff : (k : Kind) → (unknown_or_labile k ≡ true) ↔ ((k ≡ Unknown) ⊎ (k ≡ Labile))
free_iff k = or_iff _ _ (kind_iff Unknown k) (kind_iff Labile k)

pub exactly_10 : (l : Line ℕ) (i : ℕ) → In i (refusal10 l) ↔ Due10 l i
unfolding refusal10
exactly_10 l i =
    in_flat (λ y. i ≡ y) _ _ (λ k. due_iff _ k.at i (and_iff _ _ (free_iff k.kind) (all_iff (is_key Info) (λ (p : Part ℕ). p.key ≡ Info) (key_iff Info) k.parts))) l.brackets

-- ---- 21
pub exactly_21 : (l : Line ℕ) (i : ℕ) → In i (refusal21 l) ↔ Due21 l i
unfolding refusal21
exactly_21 l i =
    in_flat (λ y. i ≡ y) _ _ (λ k. due_iff _ k.at i (and_iff _ _ (kind_iff Declared k.kind) (all_iff (is_key Info) (λ (p : Part ℕ). p.key ≡ Info) (key_iff Info) k.parts))) l.brackets

-- ---- 11
name_iff : (x : List ℕ) (p : Part ℕ) → In x (name_of p) ↔ Named x p
name_iff x p = (there p.label refl, back)
  where
    there : (o : Option (Label ℕ)) → p.label ≡ o → In x (given o (λ l. l.name ∷ []) []) → Named x p
    there none e q = absurd q
    there (some l) e (inl q) = (l, (e, q))
    there (some l) e (inr q) = absurd q

    back : Named x p → In x (name_of p)
    back v = subst (λ (o : Option (Label ℕ)). In x (given o (λ l. l.name ∷ []) [])) (sym v.1.0) (inl v.1.1)

names_iff : (x : List ℕ) (k : Bracket ℕ) → In x (names_of k) ↔ Some (Named x) k.parts
names_iff x k = in_flat (λ y. x ≡ y) name_of (Named x) (name_iff x) k.parts

defines_iff : (x : List ℕ) (k : Bracket ℕ) → In x (defined_by k) ↔ Defines x k
defines_iff x k = (there (is_referring k) refl, back)
  where
    there : (t : Bool) → is_referring k ≡ t → In x (cond t [] (names_of k)) → Defines x k
    there true e q = absurd q
    there false e q = (e, (names_iff x k).0 q)

    back : Defines x k → In x (defined_by k)
    back v = subst (λ (t : Bool). In x (cond t [] (names_of k))) (sym v.0) ((names_iff x k).1 v.1)

refers_iff : (x : List ℕ) (k : Bracket ℕ) → In x (referred_by k) ↔ RefersTo x k
refers_iff x k = (there (is_referring k) refl, back)
  where
    there : (t : Bool) → is_referring k ≡ t → In x (cond t (names_of k) []) → RefersTo x k
    there true e q = (e, (names_iff x k).0 q)
    there false e q = absurd q

    back : RefersTo x k → In x (referred_by k)
    back v = subst (λ (t : Bool). In x (cond t (names_of k) [])) (sym v.0) ((names_iff x k).1 v.1)

defined_iff : (x : List ℕ) (ks : List (Bracket ℕ)) → In x (defined ks) ↔ Some (Defines x) ks
defined_iff x ks = in_flat (λ y. x ≡ y) defined_by (Defines x) (defines_iff x) ks

referred_iff : (x : List ℕ) (ks : List (Bracket ℕ)) → In x (referred_to ks) ↔ Some (RefersTo x) ks
referred_iff x ks = in_flat (λ y. x ≡ y) referred_by (RefersTo x) (refers_iff x) ks

-- an element with its reason
pub record Witness {A : Type 0} (l : List A) (P : A → Type 0) : Type 0 where
  pub it : A
  pub is_in : In it l
  pub so : P it

some_found : {A : Type 0} (P : A → Type 0) (l : List A) → Some P l ↔ Witness l P
some_found P [] = ((λ v. absurd v), (λ v. v.is_in))
some_found {A} P (x ∷ l) = (there (some_found P l).0, λ v. back (some_found P l).1 v.it v.is_in v.so)
  where
    there : (Some P l → Witness l P) → P x ⊎ Some P l → Witness (x ∷ l) P
    there ih (inl v) = record { it = x; is_in = inl refl; so = v }
    there ih (inr v) = let r = ih v in record { it = r.it; is_in = inr r.is_in; so = r.so }

    back : (Witness l P → Some P l) → (y : A) → (y ≡ x) ⊎ In y l → P y → P x ⊎ Some P l
    back ih y (inl e) v = inl (subst P e v)
    back ih y (inr q) v = inr (ih (record { it = y; is_in = q; so = v }))

shared_some : (xs ys : List (List ℕ)) → (shared xs ys ≡ true) ↔ Some (λ (x : List ℕ). among x ys ≡ true) xs
unfolding shared
shared_some [] ys = ((λ e. false≢true e), (λ e. absurd e))
shared_some (x ∷ xs) ys = or_iff _ _ self (shared_some xs ys)

false_iff : (a : Bool) {A : Type 0} → (a ≡ true ↔ A) → (a ≡ false) ↔ (A → ⊥)
false_iff a {A} f = ((λ e v. true≢false (sym (f.1 v) ∙ e)), back a refl)
  where
    back : (t : Bool) → a ≡ t → (A → ⊥) → t ≡ false
    back true e h = absurd (h (f.0 e))
    back false e h = refl

again_iff : (front : List (Bracket ℕ)) (k : Bracket ℕ) → (defined_again (defined front) k ≡ true) ↔ Again front k
again_iff front k =
    then (shared_some (defined_by k) (defined front))
    (then (some_found _ (defined_by k)) (
      (λ v. (v.it, ((defines_iff v.it k).0 v.is_in, (defined_iff v.it front).0 ((among_iff v.it (defined front)).0 v.so)))),
      (λ v. record { it = v.0; is_in = (defines_iff v.0 k).1 v.1.0; so = (among_iff v.0 (defined front)).1 ((defined_iff v.0 front).1 v.1.1) }),
    ))

undefined_iff : (l : Line ℕ) (k : Bracket ℕ) → (undefined (defined l.brackets) k ≡ true) ↔ Undefined l k
undefined_iff l k =
    then (some_not (λ x. among x (defined l.brackets)) (referred_by k))
    (then (some_found _ (referred_by k)) (
      (λ v. (v.it, ((refers_iff v.it k).0 v.is_in, (false_iff _ (then (among_iff v.it (defined l.brackets)) (defined_iff v.it l.brackets))).0 v.so))),
      (λ v. record { it = v.0; is_in = (refers_iff v.0 k).1 v.1.0; so = (false_iff _ (then (among_iff v.0 (defined l.brackets)) (defined_iff v.0 l.brackets))).1 v.1.1 }),
    ))

unreferred_iff : (l : Line ℕ) (k : Bracket ℕ) → (unreferred (referred_to l.brackets) k ≡ true) ↔ Unreferred l k
unreferred_iff l k =
    and_iff _ _ (kind_iff Unknown k.kind)
    (then (some_not (λ x. among x (referred_to l.brackets)) (defined_by k))
    (then (some_found _ (defined_by k)) (
      (λ v. (v.it, ((defines_iff v.it k).0 v.is_in, (false_iff _ (then (among_iff v.it (referred_to l.brackets)) (referred_iff v.it l.brackets))).0 v.so))),
      (λ v. record { it = v.0; is_in = (defines_iff v.0 k).1 v.1.0; so = (false_iff _ (then (among_iff v.0 (referred_to l.brackets)) (referred_iff v.0 l.brackets))).1 v.1.1 }),
    )))

labelled_iff : (k : Bracket ℕ) → (is_labelled k ≡ true) ↔ ((x : List ℕ) × Some (Named x) k.parts)
labelled_iff k = (there (names_of k) refl, λ v. back (names_of k) v.0 ((names_iff v.0 k).1 v.1))
  where
    there : (l : List (List ℕ)) → names_of k ≡ l → not (none? l) ≡ true → (x : List ℕ) × Some (Named x) k.parts
    there [] e q = absurd (false≢true q)
    there (x ∷ l) e q = (x, (names_iff x k).0 (subst (λ (z : List (List ℕ)). In x z) (sym e) (inl refl)))

    back : (l : List (List ℕ)) (x : List ℕ) → In x l → not (none? l) ≡ true
    back [] x v = absurd v
    back (y ∷ l) x v = refl

written_iff : (o : Option ℕ) → (given o (λ p. true) false ≡ true) ↔ ((p : ℕ) × (o ≡ some p))
written_iff none = ((λ e. absurd (false≢true e)), (λ v. absurd (none-ne-some v.0 v.1)))
written_iff (some p) = ((λ e. (p, refl)), (λ v. refl))

second_iff : (k : Bracket ℕ) → (second_label k ≡ true) ↔ Second k
second_iff k = (ltb-true 1 (length (names_of k)), lt-ltb 1 (length (names_of k)))

wrong_iff : (l : Line ℕ) (front : List (Bracket ℕ)) (k : Bracket ℕ)
    → (wrong_labels (defined front) (defined l.brackets) (referred_to l.brackets) k ≡ true) ↔ ((((Second k ⊎ Again front k) ⊎ Undefined l k) ⊎ CountedLabel k) ⊎ Unreferred l k)
wrong_iff l front k =
    or_iff _ _ (or_iff _ _ (or_iff _ _ (or_iff _ _ (second_iff k) (again_iff front k)) (undefined_iff l k)) (and_iff _ _ (labelled_iff k) (written_iff k.counted))) (unreferred_iff l k)

flat_snoc : (front : List (Bracket ℕ)) (k : Bracket ℕ) → defined (front ++ (k ∷ [])) ≡ defined front ++ defined_by k
unfolding flat
flat_snoc [] k = nil (defined_by k)
  where
    nil : (l : List (List ℕ)) → l ++ [] ≡ l
    nil [] = refl
    nil (x ∷ l) = ap (λ z. x ∷ z) (nil l)
flat_snoc (q ∷ front) k = ap (λ z. defined_by q ++ z) (flat_snoc front k) ∙ sym (assoc (defined_by q) (defined front) (defined_by k))
  where
    assoc : (a b c : List (List ℕ)) → (a ++ b) ++ c ≡ a ++ (b ++ c)
    assoc [] b c = refl
    assoc (x ∷ a) b c = ap (λ z. x ∷ z) (assoc a b c)

-- the clauses of 11 for the bracket k behind others, at the place j
abbrev Wrong : Line ℕ → ℕ → List (Bracket ℕ) → Bracket ℕ → Type 0
Wrong l j front k = (j ≡ k.at) × ((((Second k ⊎ Again front k) ⊎ Undefined l k) ⊎ CountedLabel k) ⊎ Unreferred l k)

behind_iff : (l : Line ℕ) (j : ℕ) (ks front : List (Bracket ℕ))
    → In j (wrongly_labelled (defined front) (defined l.brackets) (referred_to l.brackets) ks) ↔ SomeBehind (Wrong l j) front ks
unfolding wrongly_labelled
behind_iff l j [] front = self
behind_iff l j (k ∷ ks) front =
    let d : List (List ℕ) = defined l.brackets in
    let r : List (List ℕ) = referred_to l.brackets in
    let ih : In j (wrongly_labelled (defined front ++ defined_by k) d r ks) ↔ SomeBehind (Wrong l j) (front ++ (k ∷ [])) ks =
    subst (λ (z : List (List ℕ)). In j (wrongly_labelled z d r ks) ↔ SomeBehind (Wrong l j) (front ++ (k ∷ [])) ks) (flat_snoc front k) (behind_iff l j ks (front ++ (k ∷ []))) in
    then (in_append (λ y. j ≡ y) (due_at (wrong_labels (defined front) d r k) k.at) (wrongly_labelled (defined front ++ defined_by k) d r ks))
    (either_iff (due_iff (wrong_labels (defined front) d r k) k.at j (wrong_iff l front k)) ih)

pub exactly_11 : (l : Line ℕ) (i : ℕ) → In i (refusal11 l) ↔ Due11 l i
unfolding refusal11 flat
exactly_11 l i = behind_iff l i l.brackets []

-- ---- 19
none_cut : (t : List ℕ) → (none? (cuttings t) ≡ true) ↔ ((xs : List Item) → Cuts xs t → ⊥)
none_cut t = by (cuttings t) (λ xs. every_way t xs)
  where
    by : (l : List (List Item)) → ((xs : List Item) → In xs l ↔ Cuts xs t) → (none? l ≡ true) ↔ ((xs : List Item) → Cuts xs t → ⊥)
    by [] f = ((λ e xs c. (f xs).1 c), (λ h. refl))
    by (xs ∷ l) f = ((λ e. absurd (false≢true e)), (λ h. absurd (h xs ((f xs).0 (inl refl)))))

uncut_iff : (p : Part ℕ) → (is_uncut p ≡ true) ↔ Uncut p
uncut_iff p = and_iff _ _ (key_iff Glycan p) (none_cut (text_of p))

pub exactly_19 : (l : Line ℕ) (i : ℕ) → In i (refusal19 l) ↔ Due19 l i
unfolding refusal19
exactly_19 l i =
    in_flat (λ y. i ≡ y) _ _ (λ k. in_flat (λ y. i ≡ y) _ _ (λ p. due_iff (is_uncut p) p.at i (uncut_iff p)) k.parts) l.brackets
