-- Every refusal's place is a place of the line; 1 and 4 may be its length.
use Prim.Native.Nat.{ℕ, zero, suc, ◌+◌, ◌-◌, ◌≤◌, ◌<◌}
use Rattle.std.proofs.Common.{arith, subst, eqb-true, ltb-true}
use Rattle.std.specs.Prelude.{◌≡◌, refl, Bool, not, ◌&&◌, ◌||◌, eqb, drop}
use Rattle.std.proofs.Math.Bool.{true, false}
use Rattle.std.proofs.Math.Option.{Option, none, some}
use mathlib.Core.List.{List, [], ◌∷◌, ◌++◌, map}
use Rattle.std.proofs.Math.Dec.{leb, ltb}
use Rattle.std.proofs.Math.ListN.{length}
use Rattle.scope.specs.Bytes.{is_printable, is_opening}
use Rattle.scope.specs.Limits.{line_limit, residue_limit, bracket_limit, part_limit, text_limit, label_limit, depth_limit, count_limit, copy_limit, declaration_limit, place_limit}
use Rattle.scope.specs.Keys.{written}
use Rattle.scope.specs.Line.{Number, Value, mass, text, reference, composition, Part, Bracket, Line}
use Rattle.scope.specs.Lists.{given, none?, flat}
use Rattle.scope.specs.Reading.{Reading, stuck, holds, reading}
use Rattle.scope.specs.Modifications.{only_info, copies, defined_by, defined, referred_to}
use Rattle.scope.specs.Refusals.{least, due_at, refusal1, refusal2, unprintable, refusal3, refusal4, depth_after, too_deep, text_of, deep_part, refusal5, long_text, long_label, many_places, over_in, declarations, many_declarations, refusal6, in_range, wide, wide_mass, wide_score, refusal7, not_here, refusal8, is_number_name, refusal9, refusal10, refusal21, wrong_labels, wrongly_labelled, refusal11, passing, refusal12, is_uncut, refusal19, Due, due, byte_refusals, line_refusals}
use Rattle.scope.specs.Kinds.{unknown_or_labile, is_declared}
use Rattle.basics.specs.Choice.{branch_on}
use Rattle.basics.specs.Each.{Each, OfGiven, each_append, each_in, each_keep, each_one, each_through}
use Rattle.reading_laws.specs.Laws.{places_of, behind, dues}
use Rattle.reading_laws.proofs.Precedence.{least_some}
use Rattle.reading_laws.proofs.Stuck.{stuck_refused}
use Rattle.reading_laws.proofs.Within.{WithinNumber, WithinLabel, WithinValue, WithinPart, WithinPlace, WithinBracket, WithinResidue, WithinLine, reading_within}

module _ (n : ℕ) where
  -- every place is below n
  unfoldable pub Under : List ℕ → Type 0
  Under l = Each (λ j. j < n) l

  under_due : (t : Bool) (i : ℕ) → i < n → Under (due_at t i)
  unfolding Under
  under_due true i h = (h, tt)
  under_due false i h = tt

  under_append : (a b : List ℕ) → Under a → Under b → Under (a ++ b)
  unfolding Under
  under_append a b p q = each_append (λ j. j < n) a b p q

  under_drop : (k : ℕ) (l : List ℕ) → Under l → Under (drop k l)
  unfolding Under
  under_drop zero l p = p
  under_drop (suc k) [] p = p
  under_drop (suc k) (x ∷ l) p = under_drop k l p.1

  under_map : {A : Type 0} (Q : A → Type 0) (f : A → ℕ) → ((x : A) → Q x → f x < n) → (l : List A) → Each Q l → Under (map f l)
  unfolding Under
  under_map Q f h l p = each_through (λ j. j < n) Q f h l p

  under_flat : {A : Type 0} (Q : A → Type 0) (f : A → List ℕ) → ((x : A) → Q x → Under (f x)) → (l : List A) → Each Q l → Under (flat f l)
  unfolding flat Under
  under_flat Q f h [] p = tt
  under_flat Q f h (x ∷ l) p = under_append (f x) (flat f l) (h x p.0) (under_flat Q f h l p.1)

  -- where there is a value
  under_given : {A : Type 0} (Q : A → Type 0) (f : A → List ℕ) → ((x : A) → Q x → Under (f x)) → (o : Option A) → OfGiven Q o → Under (given o f [])
  unfolding Under
  under_given Q f h none p = tt
  under_given Q f h (some x) p = h x p

  pub under_least : (l : List ℕ) (i : ℕ) → Under l → least l ≡ some i → i < n
  unfolding Under
  under_least l i p e = each_in (λ j. j < n) l i ((least_some l i).0 e).member p

  -- ---- the places of each number
  under_unprintable : (i : ℕ) (s : List ℕ) → i + length s ≤ n → Under (unprintable i s)
  unfolding unprintable Under
  under_unprintable i [] h = tt
  under_unprintable i (b ∷ s) h =
      under_append (due_at (not (is_printable b)) i) (unprintable (i + 1) s) (under_due (not (is_printable b)) i (omega arith))
      (under_unprintable (i + 1) s (omega arith))

  pub under_deep : (d i : ℕ) (t : List ℕ) → i + length t ≤ n → Under (too_deep d i t)
  unfolding too_deep Under
  under_deep d i [] h = tt
  under_deep d i (b ∷ t) h =
      under_append (due_at (is_opening b && leb depth_limit d) i) (too_deep (depth_after d b) (i + 1) t)
      (under_due (is_opening b && leb depth_limit d) i (omega arith)) (under_deep (depth_after d b) (i + 1) t (omega arith))

  under_over : (k : Bracket ℕ) → WithinBracket n k → Under (over_in k)
  under_over k w =
      under_append (drop part_limit (map (λ p. p.at) k.parts)) (flat (λ p. long_text p ++ long_label p) k.parts ++ many_places k)
      (under_drop part_limit _ (under_map (WithinPart n) (λ p. p.at) (λ p v. v.at) k.parts w.parts))
      (under_append (flat (λ p. long_text p ++ long_label p) k.parts) (many_places k)
      (under_flat (WithinPart n) (λ p. long_text p ++ long_label p)
      (λ p v. under_append (long_text p) (long_label p) (under_due (ltb text_limit (length (text_of p))) p.at v.at)
      (under_given (WithinLabel n) (λ l. due_at (ltb label_limit (length l.name)) l.at)
      (λ l u. under_due (ltb label_limit (length l.name)) l.at u.at) p.label v.label))
      k.parts w.parts)
      (under_drop place_limit _ (under_map (WithinPlace n) (λ p. p.at) (λ p v. v) k.places w.places)))

  under_wide : (x : Number ℕ) → x.at < n → Under (wide x)
  under_wide x h = under_due (not (in_range x)) x.at h

  under_mass : (v : Value ℕ) → WithinValue n v → Under (wide_mass v)
  unfolding Under
  under_mass (mass x) w = under_wide x w
  under_mass (text t) w = tt
  under_mass reference w = tt
  under_mass (composition t x) w = tt

  under_score : (p : Part ℕ) → WithinPart n p → Under (wide_score p)
  under_score p w =
      under_given (WithinLabel n) (λ l. given l.score wide [])
      (λ l u. under_given (WithinNumber n) wide under_wide l.score u.score) p.label w.label

  under_labels : (a b c : List (List ℕ)) (ks : List (Bracket ℕ)) → Each (WithinBracket n) ks → Under (wrongly_labelled a b c ks)
  unfolding wrongly_labelled Under
  under_labels a b c [] w = tt
  under_labels a b c (k ∷ ks) w =
      under_append (due_at (wrong_labels a b c k) k.at) (wrongly_labelled (a ++ defined_by k) b c ks)
      (under_due (wrong_labels a b c k) k.at w.0.at) (under_labels (a ++ defined_by k) b c ks w.1)

  under_passing : (m : ℕ) (ks : List (Bracket ℕ)) → Each (WithinBracket n) ks → Under (passing m ks)
  unfolding passing Under
  under_passing m [] w = tt
  under_passing m (k ∷ ks) w =
      under_append (due_at (leb m copy_limit && ltb copy_limit (m + copies k)) k.at) (passing (m + copies k) ks)
      (under_due (leb m copy_limit && ltb copy_limit (m + copies k)) k.at w.0.at) (under_passing (m + copies k) ks w.1)

  -- over the parts of all brackets
  under_parts : (f : Part ℕ → List ℕ) → ((p : Part ℕ) → WithinPart n p → Under (f p)) → (l : Line ℕ) → WithinLine n l
      → Under (flat (λ k. flat f k.parts) l.brackets)
  under_parts f h l w =
      under_flat (WithinBracket n) (λ k. flat f k.parts) (λ k v. under_flat (WithinPart n) f h k.parts v.parts) l.brackets w.brackets

-- ---- the refusals of a line
abbrev AtPlace : ℕ → ℕ → ℕ → Type 0
AtPlace n k i = (i ≤ n) × ((k ≡ 1 → ⊥) → (k ≡ 4 → ⊥) → i < n)

abbrev InsideDue : ℕ → Due → Type 0
InsideDue n d = Each (AtPlace n d.number) d.places

strictly : (n k : ℕ) (l : List ℕ) → Under n l → Each (AtPlace n k) l
unfolding Under
strictly n k l u = each_one (λ i. i < n) (AtPlace n k) (λ i h. (omega arith, λ a b. h)) l u

place_inside : (n : ℕ) (ds : List Due) (k : ℕ) → Each (InsideDue n) ds → Each (AtPlace n k) (places_of ds k)
unfolding places_of
place_inside n [] k w = tt
place_inside n (d ∷ ds) k w =
    branch_on (λ l. Each (AtPlace n k) l) (eqb d.number k) (λ q. subst (λ x. Each (AtPlace n x) d.places) (eqb-true d.number k q) w.0)
    (λ q. place_inside n ds k w.1)

-- 5 to 12, 19 and 21
module _ (n : ℕ) (l : Line ℕ) (w : WithinLine n l) where
  pub under5 : Under n (refusal5 l)
  unfolding refusal5
  under5 = under_parts n deep_part (λ p v. under_deep n 0 (p.at + length (written p.key)) (text_of p) v.text) l w

  pub under6 : Under n (refusal6 l)
  unfolding refusal6
  under6 =
      under_append n _ _ (under_drop n residue_limit _ (under_map n (WithinResidue n) (λ r. r.at) (λ r v. v) l.residues w.residues))
      (under_append n _ _ (under_drop n bracket_limit _ (under_map n (WithinBracket n) (λ k. k.at) (λ k v. v.at) l.brackets w.brackets))
      (under_append n (many_declarations l.brackets) _
      (under_drop n declaration_limit _
      (under_map n (WithinBracket n) (λ k. k.at - 1) (λ k v. omega (arith, v.at)) (declarations l.brackets)
      (each_keep (WithinBracket n) (λ k. is_declared k.kind) l.brackets w.brackets)))
      (under_flat n (WithinBracket n) over_in (under_over n) l.brackets w.brackets)))

  pub under7 : Under n (refusal7 l)
  unfolding refusal7
  under7 =
      under_flat n (WithinBracket n) _
      (λ k v. under_append n _ _
      (under_given n (λ p. p < n) _ (λ p u. under_due n (eqb k.count 0 || ltb count_limit k.count) p u) k.counted v.counted)
      (under_flat n (WithinPart n) _ (λ p u. under_append n _ _ (under_mass n p.value u.value) (under_score n p u)) k.parts v.parts))
      l.brackets w.brackets

  pub under8 : Under n (refusal8 l)
  unfolding refusal8
  under8 = under_parts n _ (λ p v. under_due n (not_here p) p.at v.at) l w

  pub under9 : Under n (refusal9 l)
  unfolding refusal9
  under9 = under_parts n _ (λ p v. under_due n (is_number_name p) p.at v.at) l w

  pub under10 : Under n (refusal10 l)
  unfolding refusal10
  under10 =
      under_flat n (WithinBracket n) _ (λ k v. under_due n (unknown_or_labile k.kind && only_info k) k.at v.at) l.brackets
      w.brackets

  pub under21 : Under n (refusal21 l)
  unfolding refusal21
  under21 = under_flat n (WithinBracket n) _ (λ k v. under_due n (is_declared k.kind && only_info k) k.at v.at) l.brackets w.brackets

  pub under11 : Under n (refusal11 l)
  unfolding refusal11
  under11 = under_labels n [] (defined l.brackets) (referred_to l.brackets) l.brackets w.brackets

  pub under12 : Under n (refusal12 l)
  unfolding refusal12
  under12 = under_passing n 0 l.brackets w.brackets

  pub under19 : Under n (refusal19 l)
  unfolding refusal19
  under19 = under_parts n _ (λ p v. under_due n (is_uncut p) p.at v.at) l w

  -- of each refusal, in the order of trying
  pub line_under : Each (λ d. Under n d.places) (line_refusals l)
  line_under = (under5, (under6, (under7, (under8, (under9, (under10, (under21, (under11, (under12, (under19, tt))))))))))

-- 1 to 3
bytes_inside : (s : List ℕ) → Each (InsideDue (length s)) (byte_refusals s)
unfolding refusal1 refusal2 refusal3
bytes_inside s = (empty s, (long (ltb line_limit (length s)) refl, (strictly (length s) 3 (unprintable 0 s) (under_unprintable (length s) 0 s (omega arith)), tt)))
  where
    empty : (s : List ℕ) → Each (AtPlace (length s) 1) (due_at (none? s) 0)
    empty [] = ((omega arith, λ a b. absurd (a refl)), tt)
    empty (x ∷ s) = tt

    long : (t : Bool) → ltb line_limit (length s) ≡ t → Each (AtPlace (length s) 2) (due_at t line_limit)
    long true q = let h : line_limit < length s = ltb-true line_limit (length s) q in ((omega arith, λ a b. h), tt)
    long false q = tt

-- 4, and those behind it
rest_inside : (s : List ℕ) (r : Reading) → reading s ≡ r → Each (InsideDue (length s)) (due 4 (refusal4 r) ∷ behind r)
rest_inside s (stuck j) e = ((((stuck_refused s j e).inside, λ a b. absurd (b refl)), tt), tt)
rest_inside s (holds l) e =
    (tt, each_one (λ d. Under (length s) d.places) (InsideDue (length s)) (λ d u. strictly (length s) d.number d.places u) (line_refusals l) (line_under (length s) l (reading_within s l e)))

pub dues_inside : (s : List ℕ) (k : ℕ) → Each (λ i. (i ≤ length s) × ((k ≡ 1 → ⊥) → (k ≡ 4 → ⊥) → i < length s)) (places_of (dues s) k)
unfolding dues
dues_inside s k =
    place_inside (length s) (dues s) k
    (each_append (InsideDue (length s)) (byte_refusals s) (due 4 (refusal4 (reading s)) ∷ behind (reading s)) (bytes_inside s)
    (rest_inside s (reading s) refl))
