-- No refusal is due for a line with its compositions short that is not due for the line itself.
use Rattle.std.specs.Prelude.{ℕ, ◌+◌, ◌-◌, ◌≤◌, ◌≡◌, refl, Bool, true, false, not, cond, ◌&&◌, eqb, leb, ltb, length}
use Rattle.std.proofs.Common.{arith, sym, ◌∙◌, subst, eqb-true, ne_eqb, ltb-false, le-ltb}
use Rattle.std.proofs.Math.Path.{ap, ap₂}
use mathlib.Core.List.{List, [], ◌∷◌, ◌++◌, map}
use Rattle.std.proofs.Math.ListN.{drop}
use Rattle.std.proofs.lemmas.Bool.{not-true}
use Rattle.scope.specs.declared.grammar.Key.{Key}
use Rattle.scope.specs.declared.grammar.Key.TheVariants.{NoKey, U, M, Glycan}
use Rattle.scope.specs.Bytes.{is_opening, is_shutting, is_printable, bar}
use Rattle.scope.specs.Limits.{residue_limit, bracket_limit, part_limit, text_limit, depth_limit, copy_limit, declaration_limit}
use Rattle.scope.specs.Line.{Value, mass, text, reference, composition, Part, Bracket, Line}
use Rattle.scope.specs.Keys.{key_code, written}
use Rattle.scope.specs.Lists.{none?, all, flat}
use Rattle.scope.specs.Kinds.{unknown_or_labile, is_declared}
use Rattle.scope.specs.Grammar.{outer_byte, plain_byte}
use Rattle.scope.specs.Modifications.{is_key, only_info, names_of, copies, defined_by, referred_by, defined, referred_to}
use Rattle.scope.specs.Glycans.{Item, cuttings, short, short_text}
use Rattle.scope.specs.Kept.{cut_as, cut_value}
use Rattle.scope.specs.Refusals.{due_at, depth_after, too_deep, text_in, text_of, deep_part, refusal5, long_text, long_label, many_places, over_in, declarations, many_declarations, refusal6, wide_mass, wide_score, wide_count, refusal7, not_here, refusal8, is_number_name, refusal9, refusal10, refusal21, wrong_labels, wrongly_labelled, refusal11, passing, refusal12, is_uncut, refusal19, line_refusals}
use Rattle.basics.specs.Each.{In}
use Rattle.basics.specs.Lists.{not_due, nil_front, nil_back, map_map, flat_map, keep_map}
use Rattle.basics.specs.Tests.{and_left, and_right}
use Rattle.reading_laws.proofs.Bare.{same_info, same_refers, same_names}
use Rattle.reading_laws.specs.Laws.{Clear}
use Rattle.glycan_laws.specs.Laws.{Cuts}
use Rattle.glycan_laws.proofs.Enumerated.{every_way}
use Rattle.glycan_laws.proofs.Masses.{no_longer}
use Rattle.glycan_laws.proofs.Written.{shortened, plain, first_cut}
use Rattle.canonical_laws.proofs.Short.{worded, short_part, short_bracket, short_line, likewise_short}
use Rattle.canonical_laws.proofs.Refusals.{nil_both, false_due}

-- ---- the text of a part: it stays, or it was a composition that is cut
data Shortens (p : Part ℕ) : Type 0 where
  stays : text_of (short_part p) ≡ text_of p → Shortens p
  cut : (xs : List Item) → is_key Glycan p ≡ true → Cuts xs (text_of p) → text_of (short_part p) ≡ short_text xs → Shortens p

shortens : (p : Part ℕ) → Shortens p
shortens p = go (is_key Glycan p) refl
  where
    of_text : (t : List ℕ) → text_of p ≡ t → is_key Glycan p ≡ true → (l : List (List Item)) → cuttings t ≡ l
        → text_of (short_part p) ≡ text_in (worded (cut_as p.at t l)) → Shortens p
    of_text t e g [] q f = stays (f ∙ sym e)
    of_text t e g (xs ∷ l) q f = cut xs g (subst (Cuts xs) (sym e) (first_cut t xs l q)) f

    by : (v : Value ℕ) → p.value ≡ v → is_key Glycan p ≡ true → text_of (short_part p) ≡ text_in (worded (cut_value p.at v)) → Shortens p
    by (mass n) e g f = stays (f ∙ ap text_in (sym e))
    by (text t) e g f = of_text t (ap text_in e) g (cuttings t) refl f
    by reference e g f = stays (f ∙ ap text_in (sym e))
    by (composition t n) e g f = of_text t (ap text_in e) g (cuttings t) refl f

    go : (b : Bool) → is_key Glycan p ≡ b → Shortens p
    go true g = by p.value refl g (ap (λ z. text_in (cond z (worded (cut_value p.at p.value)) p.value)) g)
    go false g = stays (ap (λ z. text_in (cond z (worded (cut_value p.at p.value)) p.value)) g)

-- a composition has no other key
other_key : (p : Part ℕ) (k : Key) → is_key Glycan p ≡ true → (key_code Glycan ≡ key_code k → ⊥) → is_key k p ≡ false
other_key p k g n = ne_eqb (key_code p.key) (key_code k) (λ q. n (sym (eqb-true (key_code p.key) (key_code Glycan) g) ∙ q))

-- ---- lists
none_through : {A : Type 0} (s : A → A) (F : A → List ℕ) → ((x : A) → F x ≡ [] → F (s x) ≡ []) → (l : List A) → flat F l ≡ [] → flat F (map s l) ≡ []
unfolding flat
none_through s F g [] h = refl
none_through s F g (x ∷ l) h = nil_both (F (s x)) (flat F (map s l)) (g x (nil_front (F x) (flat F l) h)) (none_through s F g l (nil_back (F x) (flat F l) h))

same_through : {A : Type 0} (s : A → A) (F : A → List ℕ) → ((x : A) → F (s x) ≡ F x) → (l : List A) → flat F l ≡ [] → flat F (map s l) ≡ []
same_through s F g l h = flat_map F F s g l ∙ h

-- over the parts of all brackets
parts_through : (F : Part ℕ → List ℕ) → ((p : Part ℕ) → F p ≡ [] → F (short_part p) ≡ []) → (ks : List (Bracket ℕ)) → flat (λ k. flat F k.parts) ks ≡ []
    → flat (λ k. flat F k.parts) (map short_bracket ks) ≡ []
parts_through F g ks h = none_through short_bracket (λ k. flat F k.parts) (λ k q. none_through short_part F g k.parts q) ks h

-- a test of parts that says the same
test_through : (T : Part ℕ → Bool) → ((p : Part ℕ) → T (short_part p) ≡ T p) → (ks : List (Bracket ℕ)) → flat (λ k. flat (λ p. due_at (T p) p.at) k.parts) ks ≡ []
    → flat (λ k. flat (λ p. due_at (T p) p.at) k.parts) (map short_bracket ks) ≡ []
test_through T e ks h = parts_through (λ p. due_at (T p) p.at) (λ p q. ap (λ b. due_at b p.at) (e p) ∙ q) ks h

-- ---- 5
no_pair : (b : ℕ) → outer_byte false b ≡ true → is_opening b ≡ false
no_pair b e = not-true (is_opening b) (and_right (is_printable b) (not (is_opening b)) (and_left (is_printable b && not (is_opening b)) (not (is_shutting b)) (and_left (plain_byte b) (not (eqb b bar)) (and_left (plain_byte b && not (eqb b bar)) _ e))))

shallow : (d i : ℕ) (t : List ℕ) → all (outer_byte false) t ≡ true → too_deep d i t ≡ []
unfolding too_deep all
shallow d i [] e = refl
shallow d i (b ∷ t) e =
    nil_both (due_at (is_opening b && leb depth_limit d) i) (too_deep (depth_after d b) (i + 1) t)
    (ap (λ z. due_at (z && leb depth_limit d) i) (no_pair b (and_left (outer_byte false b) (all (outer_byte false) t) e)))
    (shallow (depth_after d b) (i + 1) t (and_right (outer_byte false b) (all (outer_byte false) t) e))

deep_short : (p : Part ℕ) → deep_part p ≡ [] → deep_part (short_part p) ≡ []
deep_short p h = by (shortens p)
  where
    at : ℕ
    at = p.at + length (written p.key)

    by : Shortens p → too_deep 0 at (text_of (short_part p)) ≡ []
    by (stays e) = ap (too_deep 0 at) e ∙ h
    by (cut xs g c e) = ap (too_deep 0 at) e ∙ shallow 0 at (short_text xs) (plain (text_of p) xs c)

-- ---- 6
long_short : (p : Part ℕ) → long_text p ++ long_label p ≡ [] → long_text (short_part p) ++ long_label (short_part p) ≡ []
long_short p h = nil_both (long_text (short_part p)) (long_label p) (by (shortens p)) (nil_back (long_text p) (long_label p) h)
  where
    was : long_text p ≡ []
    was = nil_front (long_text p) (long_label p) h

    fits : length (text_of p) ≤ text_limit
    fits = ltb-false text_limit (length (text_of p)) (not_due (ltb text_limit (length (text_of p))) p.at was)

    by : Shortens p → due_at (ltb text_limit (length (text_of (short_part p)))) p.at ≡ []
    by (stays e) = ap (λ t. due_at (ltb text_limit (length t)) p.at) e ∙ was
    by (cut xs g c e) =
        ap (λ t. due_at (ltb text_limit (length t)) p.at) e
        ∙ false_due (ltb text_limit (length (short_text xs))) p.at (le-ltb text_limit (length (short_text xs)) (omega (arith, fits, no_longer (text_of p) xs c)))

over_short : (k : Bracket ℕ) → over_in k ≡ [] → over_in (short_bracket k) ≡ []
over_short k h =
    let many = drop part_limit (map (λ p. p.at) k.parts) in
    let texts = flat (λ p. long_text p ++ long_label p) k.parts in
    let behind = nil_back many (texts ++ many_places k) h in
    nil_both (drop part_limit (map (λ p. p.at) (map short_part k.parts))) (flat (λ p. long_text p ++ long_label p) (map short_part k.parts) ++ many_places k)
    (ap (drop part_limit) (map_map (λ p. p.at) (λ p. p.at) short_part (λ p. refl) k.parts) ∙ nil_front many (texts ++ many_places k) h)
    (nil_both (flat (λ p. long_text p ++ long_label p) (map short_part k.parts)) (many_places k)
    (none_through short_part (λ p. long_text p ++ long_label p) long_short k.parts (nil_front texts (many_places k) behind)) (nil_back texts (many_places k) behind))

-- ---- 7
wide_worded : (at : ℕ) (t : List ℕ) (l : List (List Item)) → wide_mass (worded (cut_as at t l)) ≡ []
wide_worded at t [] = refl
wide_worded at t (xs ∷ l) = refl

wide_short : (p : Part ℕ) → wide_mass (short_part p).value ≡ wide_mass p.value
wide_short p = go (is_key Glycan p) p.value
  where
    go : (b : Bool) (v : Value ℕ) → wide_mass (cond b (worded (cut_value p.at v)) v) ≡ wide_mass v
    go false v = refl
    go true (mass n) = refl
    go true (text t) = wide_worded p.at t (cuttings t)
    go true reference = refl
    go true (composition t n) = wide_worded p.at t (cuttings t)

-- ---- 8 and 9
rule_short : (p : Part ℕ) → not_here (short_part p) ≡ not_here p
rule_short p = by (shortens p)
  where
    by : Shortens p → not_here (short_part p) ≡ not_here p
    by (stays e) = rw e refl
    by (cut xs g c e) = rw (other_key p NoKey g (λ q. omega arith)) refl

name_short : (p : Part ℕ) → is_number_name (short_part p) ≡ is_number_name p
name_short p = by (shortens p)
  where
    by : Shortens p → is_number_name (short_part p) ≡ is_number_name p
    by (stays e) = rw e refl
    by (cut xs g c e) = rw (other_key p U g (λ q. omega arith), other_key p M g (λ q. omega arith)) refl

-- ---- 19
uncut_short : (p : Part ℕ) → due_at (is_uncut p) p.at ≡ [] → due_at (is_uncut (short_part p)) p.at ≡ []
uncut_short p h = by (shortens p)
  where
    some_cut : (l : List (List Item)) (xs : List Item) → In xs l → none? l ≡ false
    some_cut [] xs m = absurd m
    some_cut (ys ∷ l) xs m = refl

    by : Shortens p → due_at (is_key Glycan p && none? (cuttings (text_of (short_part p)))) p.at ≡ []
    by (stays e) = ap (λ t. due_at (is_key Glycan p && none? (cuttings t)) p.at) e ∙ h
    by (cut xs g c e) =
        ap (λ t. due_at (is_key Glycan p && none? (cuttings t)) p.at) e
        ∙ ap₂ (λ b d. due_at (b && d) p.at) g (some_cut (cuttings (short_text xs)) (map short xs) ((every_way (short_text xs) (map short xs)).1 (shortened (text_of p) xs c)))

-- ---- 11 and 12
module _ (k : Bracket ℕ) where
  names_short : names_of (short_bracket k) ≡ names_of k
  names_short = same_names short_part likewise_short k.parts

  defined_short : defined_by (short_bracket k) ≡ defined_by k
  defined_short = rw (names_short, same_refers short_part likewise_short k.parts)

  referred_short : referred_by (short_bracket k) ≡ referred_by k
  referred_short = rw (names_short, same_refers short_part likewise_short k.parts)

  copies_short : copies (short_bracket k) ≡ copies k
  unfolding copies
  copies_short = rw (same_info short_part likewise_short k.parts, same_refers short_part likewise_short k.parts, names_short)

  wrong_short : (b d r : List (List ℕ)) → wrong_labels b d r (short_bracket k) ≡ wrong_labels b d r k
  wrong_short b d r = rw (names_short, same_refers short_part likewise_short k.parts)

labels_short : (b d r : List (List ℕ)) (ks : List (Bracket ℕ)) → wrongly_labelled b d r (map short_bracket ks) ≡ wrongly_labelled b d r ks
unfolding wrongly_labelled
labels_short b d r [] = refl
labels_short b d r (k ∷ ks) = ap₂ (λ t l. due_at t k.at ++ l) (wrong_short k b d r) (ap (λ z. wrongly_labelled (b ++ z) d r (map short_bracket ks)) (defined_short k) ∙ labels_short (b ++ defined_by k) d r ks)

passing_short : (n : ℕ) (ks : List (Bracket ℕ)) → passing n (map short_bracket ks) ≡ passing n ks
unfolding passing
passing_short n [] = refl
passing_short n (k ∷ ks) =
    ap (λ c. due_at (leb n copy_limit && ltb copy_limit (n + c)) k.at ++ passing (n + c) (map short_bracket ks)) (copies_short k)
    ∙ ap (λ l. due_at (leb n copy_limit && ltb copy_limit (n + copies k)) k.at ++ l) (passing_short (n + copies k) ks)

-- ---- all of them
module _ (l : Line ℕ) where
  abbrev ks : List (Bracket ℕ)
  ks = l.brackets

  none_5 : refusal5 l ≡ [] → refusal5 (short_line l) ≡ []
  unfolding refusal5
  none_5 h = parts_through deep_part deep_short ks h

  same_declared : many_declarations (map short_bracket ks) ≡ many_declarations ks
  same_declared =
      ap (λ z. drop declaration_limit (map (λ k. k.at - 1) z)) (keep_map (λ k. is_declared k.kind) (λ k. is_declared k.kind) short_bracket (λ k. refl) ks)
      ∙ ap (drop declaration_limit) (map_map (λ k. k.at - 1) (λ k. k.at - 1) short_bracket (λ k. refl) (declarations ks))

  none_6 : refusal6 l ≡ [] → refusal6 (short_line l) ≡ []
  unfolding refusal6
  none_6 h =
      let rs = drop residue_limit (map (λ r. r.at) l.residues) in
      let bs = drop bracket_limit (map (λ k. k.at) ks) in
      let ds = many_declarations ks in
      let more = nil_back rs (bs ++ (ds ++ flat over_in ks)) h in
      let last = nil_back bs (ds ++ flat over_in ks) more in
      nil_both rs _ (nil_front rs (bs ++ (ds ++ flat over_in ks)) h)
      (nil_both (drop bracket_limit (map (λ k. k.at) (map short_bracket ks))) _
      (ap (drop bracket_limit) (map_map (λ k. k.at) (λ k. k.at) short_bracket (λ k. refl) ks) ∙ nil_front bs (ds ++ flat over_in ks) more)
      (nil_both (many_declarations (map short_bracket ks)) (flat over_in (map short_bracket ks)) (same_declared ∙ nil_front ds (flat over_in ks) last)
      (none_through short_bracket over_in over_short ks (nil_back ds (flat over_in ks) last))))

  none_7 : refusal7 l ≡ [] → refusal7 (short_line l) ≡ []
  unfolding refusal7
  none_7 h =
      same_through short_bracket (λ k. wide_count k ++ flat (λ p. wide_mass p.value ++ wide_score p) k.parts)
      (λ k. ap (λ z. wide_count k ++ z) (flat_map (λ p. wide_mass p.value ++ wide_score p) (λ p. wide_mass p.value ++ wide_score p) short_part (λ p. ap (λ z. z ++ wide_score p) (wide_short p)) k.parts)) ks h

  none_8 : refusal8 l ≡ [] → refusal8 (short_line l) ≡ []
  unfolding refusal8
  none_8 h = test_through not_here rule_short ks h

  none_9 : refusal9 l ≡ [] → refusal9 (short_line l) ≡ []
  unfolding refusal9
  none_9 h = test_through is_number_name name_short ks h

  none_10 : refusal10 l ≡ [] → refusal10 (short_line l) ≡ []
  unfolding refusal10
  none_10 h =
      same_through short_bracket (λ k. due_at (unknown_or_labile k.kind && only_info k) k.at)
      (λ k. ap (λ t. due_at (unknown_or_labile k.kind && t) k.at) (same_info short_part likewise_short k.parts)) ks h

  none_21 : refusal21 l ≡ [] → refusal21 (short_line l) ≡ []
  unfolding refusal21
  none_21 h =
      same_through short_bracket (λ k. due_at (is_declared k.kind && only_info k) k.at)
      (λ k. ap (λ t. due_at (is_declared k.kind && t) k.at) (same_info short_part likewise_short k.parts)) ks h

  none_11 : refusal11 l ≡ [] → refusal11 (short_line l) ≡ []
  unfolding refusal11
  none_11 h =
      ap₂ (λ d r. wrongly_labelled [] d r (map short_bracket ks)) (flat_map defined_by defined_by short_bracket defined_short ks) (flat_map referred_by referred_by short_bracket referred_short ks)
      ∙ labels_short [] (defined ks) (referred_to ks) ks ∙ h

  none_12 : refusal12 l ≡ [] → refusal12 (short_line l) ≡ []
  unfolding refusal12
  none_12 h = passing_short 0 ks ∙ h

  none_19 : refusal19 l ≡ [] → refusal19 (short_line l) ≡ []
  unfolding refusal19
  none_19 h = parts_through (λ p. due_at (is_uncut p) p.at) uncut_short ks h

  pub short_clear : Clear (line_refusals l) → Clear (line_refusals (short_line l))
  short_clear c =
      let from8 = c.1.1.1 in
      let from21 = from8.1.1.1 in
      let last : Clear (drop 6 (line_refusals (short_line l))) = (none_21 from21.0, (none_11 from21.1.0, (none_12 from21.1.1.0, (none_19 from21.1.1.1.0, tt)))) in
      (none_5 c.0, (none_6 c.1.0, (none_7 c.1.1.0, (none_8 from8.0, (none_9 from8.1.0, (none_10 from8.1.1.0, last))))))
