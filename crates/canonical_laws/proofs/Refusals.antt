-- Refusals 5 to 12, 19 and 21, are due for what is read from the canonical line only where they are due for the line itself.
use Rattle.std.specs.Prelude.{ℕ, suc, ◌+◌, ◌-◌, ◌≤◌, ◌≡◌, refl, Bool, true, false, not, cond, ◌&&◌, ◌||◌, List, [], ◌∷◌, ◌++◌, map, eqb, leb, ltb, length, drop}
use Rattle.std.proofs.Common.{sym, ap, ◌∙◌, subst, true≢false, arith, length-drop, drop_of_length-le}
use Rattle.std.proofs.lemmas.Bool.{false≢true}
use Rattle.std.proofs.Math.Option.{Option, none, some, none-ne-some, some-injective}
use Rattle.std.proofs.lemmas.List.{length-map}
use Rattle.scope.specs.declared.grammar.Key.TheVariants.{Info}
use Rattle.scope.specs.declared.grammar.Kind.{Kind}
use Rattle.scope.specs.Bytes.{is_opening}
use Rattle.scope.specs.Limits.{residue_limit, bracket_limit, part_limit, text_limit, label_limit, depth_limit, count_limit, copy_limit, declaration_limit, place_limit}
use Rattle.scope.specs.Line.{Number, Label, Value, mass, text, reference, composition, Part, Bracket, Line}
use Rattle.scope.specs.Keys.{written}
use Rattle.scope.specs.Lists.{given, none?, all, keep, flat, among, shared, optional}
use Rattle.scope.specs.Reading.{refers?}
use Rattle.scope.specs.Modifications.{is_key, only_info, is_referring, name_of, names_of, is_labelled, copies, defined_by, referred_by, defined, referred_to}
use Rattle.scope.specs.Refusals.{due_at, depth_after, too_deep, text_in, text_of, deep_part, refusal5, long_text, long_label, many_places, over_in, declarations, many_declarations, refusal6, in_range, wide, wide_mass, wide_score, wide_count, refusal7, is_link, not_here, refusal8, is_number_name, refusal9, refusal10, refusal21, second_label, defined_again, undefined, counted_label, unreferred, wrong_labels, wrongly_labelled, refusal11, passing, refusal12, is_uncut, refusal19}
use Rattle.scope.specs.Kinds.{unknown_or_labile, is_unknown, is_declared}
use Rattle.scope.specs.Tables.{bare_number, bare_label, bare_value, bare_part, bare_place, bare_bracket}
use Rattle.basics.specs.Lists.{not_due, nil_front, nil_back}
use Rattle.basics.specs.Tests.{or_left, or_right, neither}
use Rattle.reading_laws.proofs.Bare.{likewise_bare, same_info as info-of, same_refers as refers-of, same_names as names_of_lem}

-- ---- lists of places
pub nil_both : {A : Type 0} (l m : List A) → l ≡ [] → m ≡ [] → l ++ m ≡ []
nil_both l m e f = rw e f

pub false_due : (t : Bool) (i : ℕ) → t ≡ false → due_at t i ≡ []
false_due t i e = rw e

-- the same test at another place
due_moves : (t u : Bool) (i j : ℕ) → t ≡ u → due_at t i ≡ [] → due_at u j ≡ []
due_moves t u i j e h = false_due u j (sym e ∙ not_due t i h)

drop_moves : {A B : Type 0} (n : ℕ) (f : A → ℕ) (g : B → ℕ) (l : List A) (m : List B) → length l ≡ length m → drop n (map f l) ≡ [] → drop n (map g m) ≡ []
drop_moves n f g l m e h =
    drop_of_length-le (map g m)
    (let a : length (map f l) - n ≡ 0 = sym (length-drop n (map f l)) ∙ ap length h in
    let b : length (map f l) ≡ length l = length-map l f in
    let c : length (map g m) ≡ length m = length-map m g in
    let d : length (map g m) ≤ n = omega arith in
    d)

pub same_length : {A B : Type 0} (bare : A → B) (l m : List A) → map bare l ≡ map bare m → length l ≡ length m
same_length bare l m e = sym (length-map l bare) ∙ ap length e ∙ length-map m bare

-- elements that are alike are due alike
moves : {A B : Type 0} (bare : A → B) (F : A → List ℕ) → ((x y : A) → bare x ≡ bare y → F x ≡ [] → F y ≡ []) → (l m : List A) → map bare l ≡ map bare m → flat F l ≡ [] → flat F m ≡ []
unfolding flat
moves bare F g [] [] e h = refl
moves bare F g [] (y ∷ m) e h = absurd (let z : ◌≡◌ {A = ℕ} 0 1 = cc in omega arith)
moves bare F g (x ∷ l) [] e h = absurd (let z : ◌≡◌ {A = ℕ} 0 1 = cc in omega arith)
moves bare F g (x ∷ l) (y ∷ m) e h =
    let p : bare x ≡ bare y = cc in
    let q : map bare l ≡ map bare m = cc in
    nil_both (F y) (flat F m) (g x y p (nil_front (F x) (flat F l) h)) (moves bare F g l m q (nil_back (F x) (flat F l) h))

-- ---- brackets alike but for whether a count is written: where none was, none is
pub record Same (k q : Bracket ℕ) : Type 0 where
  pub bare : bare_bracket k ≡ bare_bracket q
  pub uncounted : k.counted ≡ none → q.counted ≡ none

abbrev pub Alike : List (Bracket ℕ) → List (Bracket ℕ) → Type 0
Alike [] [] = Unit {0}
Alike [] (q ∷ qs) = ⊥
Alike (k ∷ ks) [] = ⊥
Alike (k ∷ ks) (q ∷ qs) = Same k q × Alike ks qs

alike_moves : (F : Bracket ℕ → List ℕ) → ((k q : Bracket ℕ) → Same k q → F k ≡ [] → F q ≡ []) → (ks qs : List (Bracket ℕ)) → Alike ks qs → flat F ks ≡ [] → flat F qs ≡ []
unfolding flat
alike_moves F g [] [] w h = refl
alike_moves F g [] (q ∷ qs) w h = absurd w
alike_moves F g (k ∷ ks) [] w h = absurd w
alike_moves F g (k ∷ ks) (q ∷ qs) w h = nil_both (F q) (flat F qs) (g k q w.0 (nil_front (F k) (flat F ks) h)) (alike_moves F g ks qs w.1 (nil_back (F k) (flat F ks) h))

alike_length : (ks qs : List (Bracket ℕ)) → Alike ks qs → length ks ≡ length qs
alike_length [] [] w = refl
alike_length [] (q ∷ qs) w = absurd w
alike_length (k ∷ ks) [] w = absurd w
alike_length (k ∷ ks) (q ∷ qs) w = ap suc (alike_length ks qs w.1)

parts_alike : (k q : Bracket ℕ) → Same k q → map bare_part k.parts ≡ map bare_part q.parts
parts_alike k q w = ap (λ (z : Bracket (Unit {0})). z.parts) w.bare

parts_move : (F : Part ℕ → List ℕ) → ((p q : Part ℕ) → bare_part p ≡ bare_part q → F p ≡ [] → F q ≡ []) → (k q : Bracket ℕ) → Same k q → flat F k.parts ≡ [] → flat F q.parts ≡ []
parts_move F g k q w h = moves bare_part F g k.parts q.parts (parts_alike k q w) h

-- ---- parts alike
text_bare : (p : Part ℕ) → text_of (bare_part p) ≡ text_of p
text_bare p = go p.value
  where
    go : (v : Value ℕ) → text_in (bare_value v) ≡ text_in v
    go (mass n) = refl
    go (text t) = refl
    go reference = refl
    go (composition t n) = refl

same_text : (p q : Part ℕ) → bare_part p ≡ bare_part q → text_of p ≡ text_of q
same_text p q e = sym (text_bare p) ∙ ap (λ (z : Part (Unit {0})). text_of z) e ∙ text_bare q

-- a place of labels, where there is one
label_moves : (F : Label ℕ → List ℕ) → ((l m : Label ℕ) → bare_label l ≡ bare_label m → F l ≡ [] → F m ≡ []) → (o u : Option (Label ℕ)) → optional bare_label o ≡ optional bare_label u → given o F [] ≡ [] → given u F [] ≡ []
label_moves F g none none e h = refl
label_moves F g none (some m) e h = absurd (none-ne-some _ e)
label_moves F g (some l) none e h = absurd (none-ne-some _ (sym e))
label_moves F g (some l) (some m) e h = g l m (some-injective _ _ e) h

number_moves : (F : Number ℕ → List ℕ) → ((l m : Number ℕ) → bare_number l ≡ bare_number m → F l ≡ [] → F m ≡ []) → (o u : Option (Number ℕ)) → optional bare_number o ≡ optional bare_number u → given o F [] ≡ [] → given u F [] ≡ []
number_moves F g none none e h = refl
number_moves F g none (some m) e h = absurd (none-ne-some _ e)
number_moves F g (some l) none e h = absurd (none-ne-some _ (sym e))
number_moves F g (some l) (some m) e h = g l m (some-injective _ _ e) h

labels_alike : (p q : Part ℕ) → bare_part p ≡ bare_part q → optional bare_label p.label ≡ optional bare_label q.label
labels_alike p q e = ap (λ (z : Part (Unit {0})). z.label) e

-- ---- 5
deep_moves : (d i j : ℕ) (t : List ℕ) → too_deep d i t ≡ [] → too_deep d j t ≡ []
unfolding too_deep
deep_moves d i j [] h = refl
deep_moves d i j (b ∷ t) h =
    nil_both (due_at (is_opening b && leb depth_limit d) j) (too_deep (depth_after d b) (j + 1) t)
    (due_moves (is_opening b && leb depth_limit d) (is_opening b && leb depth_limit d) i j refl (nil_front _ (too_deep (depth_after d b) (i + 1) t) h))
    (deep_moves (depth_after d b) (i + 1) (j + 1) t (nil_back (due_at (is_opening b && leb depth_limit d) i) _ h))

deep_part_lem : (p q : Part ℕ) → bare_part p ≡ bare_part q → deep_part p ≡ [] → deep_part q ≡ []
deep_part_lem p q e h = deep_moves 0 (p.at + length (written p.key)) _ (text_of q) (subst (λ (z : List ℕ). too_deep 0 (p.at + length (written p.key)) z ≡ []) (same_text p q e) h)

pub none_5 : (l m : Line ℕ) → Alike l.brackets m.brackets → refusal5 l ≡ [] → refusal5 m ≡ []
unfolding refusal5
none_5 l m w h = alike_moves (λ k. flat deep_part k.parts) (parts_move deep_part deep_part_lem) l.brackets m.brackets w h

-- ---- 6
over_part : (p q : Part ℕ) → bare_part p ≡ bare_part q → long_text p ++ long_label p ≡ [] → long_text q ++ long_label q ≡ []
over_part p q e h =
    nil_both (long_text q) (long_label q)
    (due_moves _ _ p.at q.at (ap (λ t. ltb text_limit (length t)) (same_text p q e)) (nil_front (long_text p) (long_label p) h))
    (label_moves (λ l. due_at (ltb label_limit (length l.name)) l.at) (λ l m f. due_moves _ _ l.at m.at (ap (λ (z : Label (Unit {0})). ltb label_limit (length z.name)) f))
    p.label q.label (labels_alike p q e) (nil_back (long_text p) (long_label p) h))

over_bracket : (k q : Bracket ℕ) → Same k q → over_in k ≡ [] → over_in q ≡ []
over_bracket k q w h =
    let texts = flat (λ p. long_text p ++ long_label p) k.parts in
    let behind = nil_back (drop part_limit (map (λ p. p.at) k.parts)) (texts ++ many_places k) h in
    nil_both (drop part_limit (map (λ p. p.at) q.parts)) _
    (drop_moves part_limit (λ p. p.at) (λ p. p.at) k.parts q.parts (same_length bare_part k.parts q.parts (parts_alike k q w)) (nil_front _ (texts ++ many_places k) h))
    (nil_both (flat (λ p. long_text p ++ long_label p) q.parts) (many_places q) (parts_move (λ p. long_text p ++ long_label p) over_part k q w (nil_front texts (many_places k) behind))
    (drop_moves place_limit (λ p. p.at) (λ p. p.at) k.places q.places (same_length bare_place k.places q.places (ap (λ (z : Bracket (Unit {0})). z.places) w.bare)) (nil_back texts (many_places k) behind)))

same_kind : (k q : Bracket ℕ) → Same k q → k.kind ≡ q.kind
same_kind k q w = ap (λ (z : Bracket (Unit {0})). z.kind) w.bare

-- as many are declarations
declared_alike : (ks qs : List (Bracket ℕ)) → Alike ks qs → length (declarations ks) ≡ length (declarations qs)
unfolding keep
declared_alike [] [] w = refl
declared_alike [] (q ∷ qs) w = absurd w
declared_alike (k ∷ ks) [] w = absurd w
declared_alike (k ∷ ks) (q ∷ qs) w = ap (λ c. length (cond (is_declared c) (k ∷ []) [] ++ declarations ks)) (same_kind k q w.0) ∙ go (is_declared q.kind) (declared_alike ks qs w.1)
  where
    go : (t : Bool) → length (declarations ks) ≡ length (declarations qs) → length (cond t (k ∷ []) [] ++ declarations ks) ≡ length (cond t (q ∷ []) [] ++ declarations qs)
    go true e = ap suc e
    go false e = e

pub none_6 : (l m : Line ℕ) → length l.residues ≡ length m.residues → Alike l.brackets m.brackets → refusal6 l ≡ [] → refusal6 m ≡ []
unfolding refusal6
none_6 l m r w h =
    let rs = drop residue_limit (map (λ r. r.at) l.residues) in
    let ks = drop bracket_limit (map (λ k. k.at) l.brackets) in
    let ds = many_declarations l.brackets in
    let more = flat over_in l.brackets in
    let y = nil_back rs (ks ++ (ds ++ more)) h in
    let z = nil_back ks (ds ++ more) y in
    nil_both (drop residue_limit (map (λ r. r.at) m.residues)) _
    (drop_moves residue_limit (λ r. r.at) (λ r. r.at) l.residues m.residues r (nil_front rs (ks ++ (ds ++ more)) h))
    (nil_both (drop bracket_limit (map (λ k. k.at) m.brackets)) _
    (drop_moves bracket_limit (λ k. k.at) (λ k. k.at) l.brackets m.brackets (alike_length l.brackets m.brackets w) (nil_front ks (ds ++ more) y))
    (nil_both (many_declarations m.brackets) _
    (drop_moves declaration_limit (λ k. k.at - 1) (λ k. k.at - 1) (declarations l.brackets) (declarations m.brackets) (declared_alike l.brackets m.brackets w) (nil_front ds more z))
    (alike_moves over_in over_bracket l.brackets m.brackets w (nil_back ds more z))))

-- ---- 7
wide_moves : (n m : Number ℕ) → bare_number n ≡ bare_number m → wide n ≡ [] → wide m ≡ []
wide_moves n m e h = due_moves _ _ n.at m.at (ap (λ (z : Number (Unit {0})). not (in_range z)) e) h

mass_moves : (v u : Value ℕ) → bare_value v ≡ bare_value u → wide_mass v ≡ [] → wide_mass u ≡ []
mass_moves (mass n) (mass m) e h = wide_moves n m (let f : bare_number n ≡ bare_number m = cc in f) h
mass_moves (mass n) (text t) e h = refl
mass_moves (mass n) reference e h = refl
mass_moves (mass n) (composition t m) e h = refl
mass_moves (text t) (mass m) e h = absurd (let z : ◌≡◌ {A = ℕ} 0 1 = cc in omega arith)
mass_moves (text t) (text u) e h = refl
mass_moves (text t) reference e h = refl
mass_moves (text t) (composition u m) e h = refl
mass_moves reference (mass m) e h = absurd (let z : ◌≡◌ {A = ℕ} 0 1 = cc in omega arith)
mass_moves reference (text t) e h = refl
mass_moves reference reference e h = refl
mass_moves reference (composition t m) e h = refl
mass_moves (composition t n) (mass m) e h = absurd (let z : ◌≡◌ {A = ℕ} 0 1 = cc in omega arith)
mass_moves (composition t n) (text u) e h = refl
mass_moves (composition t n) reference e h = refl
mass_moves (composition t n) (composition u m) e h = refl

wide_part : (p q : Part ℕ) → bare_part p ≡ bare_part q → wide_mass p.value ++ wide_score p ≡ [] → wide_mass q.value ++ wide_score q ≡ []
wide_part p q e h =
    nil_both (wide_mass q.value) (wide_score q)
    (mass_moves p.value q.value (ap (λ (z : Part (Unit {0})). z.value) e) (nil_front (wide_mass p.value) (wide_score p) h))
    (label_moves (λ l. given l.score wide []) (λ l m f. number_moves wide wide_moves l.score m.score (ap (λ (z : Label (Unit {0})). z.score) f))
    p.label q.label (labels_alike p q e) (nil_back (wide_mass p.value) (wide_score p) h))

count_moves : (k q : Bracket ℕ) → Same k q → wide_count k ≡ [] → wide_count q ≡ []
count_moves k q w h = go k.counted q.counted refl refl h
  where
    same : k.count ≡ q.count
    same = ap (λ (z : Bracket (Unit {0})). z.count) w.bare

    go : (o u : Option ℕ) → k.counted ≡ o → q.counted ≡ u → given o (due_at (eqb k.count 0 || ltb count_limit k.count)) [] ≡ [] → given u (due_at (eqb q.count 0 || ltb count_limit q.count)) [] ≡ []
    go o none e f h = refl
    go none (some j) e f h = absurd (none-ne-some j (sym (w.uncounted e) ∙ f))
    go (some i) (some j) e f h = due_moves _ _ i j (ap (λ n. eqb n 0 || ltb count_limit n) same) h

pub none_7 : (l m : Line ℕ) → Alike l.brackets m.brackets → refusal7 l ≡ [] → refusal7 m ≡ []
unfolding refusal7
none_7 l m w h =
    alike_moves (λ k. wide_count k ++ flat (λ p. wide_mass p.value ++ wide_score p) k.parts)
    (λ k q s g.
    nil_both (wide_count q) _ (count_moves k q s (nil_front (wide_count k) (flat (λ p. wide_mass p.value ++ wide_score p) k.parts) g))
    (parts_move (λ p. wide_mass p.value ++ wide_score p) wide_part k q s (nil_back (wide_count k) (flat (λ p. wide_mass p.value ++ wide_score p) k.parts) g)))
    l.brackets m.brackets w h

-- ---- 8, 9 and 19
test_moves : (T : Part ℕ → Bool) (B : Part (Unit {0}) → Bool) → ((p : Part ℕ) → B (bare_part p) ≡ T p) → (p q : Part ℕ) → bare_part p ≡ bare_part q → due_at (T p) p.at ≡ [] → due_at (T q) q.at ≡ []
test_moves T B f p q e h = due_moves (T p) (T q) p.at q.at (sym (f p) ∙ ap B e ∙ f q) h

link_bare : (o : Option (Label ℕ)) → given (optional bare_label o) (λ l. is_link l.name) false ≡ given o (λ l. is_link l.name) false
link_bare none = refl
link_bare (some l) = refl

not_here_bare : (p : Part ℕ) → not_here (bare_part p) ≡ not_here p
not_here_bare p = rw (text_bare p, link_bare p.label)

pub none_8 : (l m : Line ℕ) → Alike l.brackets m.brackets → refusal8 l ≡ [] → refusal8 m ≡ []
unfolding refusal8
none_8 l m w h =
    alike_moves (λ k. flat (λ p. due_at (not_here p) p.at) k.parts) (parts_move (λ p. due_at (not_here p) p.at) (test_moves not_here not_here not_here_bare)) l.brackets m.brackets w h

name_bare : (p : Part ℕ) → is_number_name (bare_part p) ≡ is_number_name p
name_bare p = rw (text_bare p)

pub none_9 : (l m : Line ℕ) → Alike l.brackets m.brackets → refusal9 l ≡ [] → refusal9 m ≡ []
unfolding refusal9
none_9 l m w h =
    alike_moves (λ k. flat (λ p. due_at (is_number_name p) p.at) k.parts) (parts_move (λ p. due_at (is_number_name p) p.at) (test_moves is_number_name is_number_name name_bare)) l.brackets m.brackets w h

uncut_bare : (p : Part ℕ) → is_uncut (bare_part p) ≡ is_uncut p
uncut_bare p = rw (text_bare p)

pub none_19 : (l m : Line ℕ) → Alike l.brackets m.brackets → refusal19 l ≡ [] → refusal19 m ≡ []
unfolding refusal19
none_19 l m w h =
    alike_moves (λ k. flat (λ p. due_at (is_uncut p) p.at) k.parts) (parts_move (λ p. due_at (is_uncut p) p.at) (test_moves is_uncut is_uncut uncut_bare)) l.brackets m.brackets w h

-- ---- 10 and 21
same_count : (k q : Bracket ℕ) → Same k q → k.count ≡ q.count
same_count k q w = ap (λ (z : Bracket (Unit {0})). z.count) w.bare

same_info : (k q : Bracket ℕ) → Same k q → only_info k ≡ only_info q
same_info k q w = sym (info-of bare_part likewise_bare k.parts) ∙ ap (all (is_key Info)) (parts_alike k q w) ∙ info-of bare_part likewise_bare q.parts

info_moves : (T : Kind → Bool) (k q : Bracket ℕ) → Same k q → due_at (T k.kind && only_info k) k.at ≡ [] → due_at (T q.kind && only_info q) q.at ≡ []
info_moves T k q s g = due_moves _ _ k.at q.at (ap (λ z. T z && only_info k) (same_kind k q s) ∙ ap (λ z. T q.kind && z) (same_info k q s)) g

pub none_10 : (l m : Line ℕ) → Alike l.brackets m.brackets → refusal10 l ≡ [] → refusal10 m ≡ []
unfolding refusal10
none_10 l m w h =
    alike_moves (λ k. due_at (unknown_or_labile k.kind && only_info k) k.at) (info_moves unknown_or_labile) l.brackets m.brackets w h

pub none_21 : (l m : Line ℕ) → Alike l.brackets m.brackets → refusal21 l ≡ [] → refusal21 m ≡ []
unfolding refusal21
none_21 l m w h = alike_moves (λ k. due_at (is_declared k.kind && only_info k) k.at) (info_moves is_declared) l.brackets m.brackets w h

-- ---- labels
same_refers : (k q : Bracket ℕ) → Same k q → is_referring k ≡ is_referring q
same_refers k q w =
    sym (refers-of bare_part likewise_bare k.parts) ∙ ap (λ (z : List (Part (Unit {0}))). refers? z) (parts_alike k q w) ∙ refers-of bare_part likewise_bare q.parts

same_names : (k q : Bracket ℕ) → Same k q → names_of k ≡ names_of q
same_names k q w = sym (names_of_lem bare_part likewise_bare k.parts) ∙ ap (flat name_of) (parts_alike k q w) ∙ names_of_lem bare_part likewise_bare q.parts

same_defined : (k q : Bracket ℕ) → Same k q → defined_by k ≡ defined_by q
same_defined k q w = ap (λ z. cond z [] (names_of k)) (same_refers k q w) ∙ ap (λ z. cond (is_referring q) [] z) (same_names k q w)

same_referred : (k q : Bracket ℕ) → Same k q → referred_by k ≡ referred_by q
same_referred k q w = ap (λ z. cond z (names_of k) []) (same_refers k q w) ∙ ap (λ z. cond (is_referring q) z []) (same_names k q w)

alike_flat : (F : Bracket ℕ → List (List ℕ)) → ((k q : Bracket ℕ) → Same k q → F k ≡ F q) → (ks qs : List (Bracket ℕ)) → Alike ks qs → flat F ks ≡ flat F qs
unfolding flat
alike_flat F g [] [] w = refl
alike_flat F g [] (q ∷ qs) w = absurd w
alike_flat F g (k ∷ ks) [] w = absurd w
alike_flat F g (k ∷ ks) (q ∷ qs) w = ap (λ z. z ++ flat F ks) (g k q w.0) ∙ ap (λ z. F q ++ z) (alike_flat F g ks qs w.1)

-- ---- 11
counted_moves : (k q : Bracket ℕ) → Same k q → counted_label k ≡ false → counted_label q ≡ false
counted_moves k q w h = go (is_labelled k) (is_labelled q) (ap (λ z. not (none? z)) (same_names k q w)) h k.counted q.counted refl refl
  where
    go : (a b : Bool) → a ≡ b → (a && given k.counted (λ p. true) false) ≡ false → (o u : Option ℕ) → k.counted ≡ o → q.counted ≡ u → (b && given q.counted (λ p. true) false) ≡ false
    go a false e h o u f g = refl
    go a true e h o none f g = rw g refl
    go false true e h o (some j) f g = absurd (false≢true e)
    go true true e h none (some j) f g = absurd (none-ne-some j (sym (w.uncounted f) ∙ g))
    go true true e h (some i) (some j) f g = absurd (true≢false (sym (ap (λ z. given z (λ p. true) false) f) ∙ h))

wrong_moves : (b d r : List (List ℕ)) (k q : Bracket ℕ) → Same k q → wrong_labels b d r k ≡ false → wrong_labels b d r q ≡ false
wrong_moves b d r k q w h =
    neither _ (unreferred r q)
    (neither _ (counted_label q)
    (neither _ (undefined d q)
    (neither (second_label q) (defined_again b q)
    (ap (λ z. ltb 1 (length z)) (sym (same_names k q w)) ∙ or_left (second_label k) (defined_again b k) three)
    (ap (λ z. shared z b) (sym (same_defined k q w)) ∙ or_right (second_label k) (defined_again b k) three))
    (ap (λ z. not (all (λ x. among x d) z)) (sym (same_referred k q w)) ∙ or_right (second_label k || defined_again b k) (undefined d k) two))
    (counted_moves k q w (or_right (second_label k || defined_again b k || undefined d k) (counted_label k) one)))
    (ap (λ z. is_unknown z && not (all (λ x. among x r) (defined_by q))) (sym (same_kind k q w))
    ∙ ap (λ z. is_unknown k.kind && not (all (λ x. among x r) z)) (sym (same_defined k q w))
    ∙ or_right (second_label k || defined_again b k || undefined d k || counted_label k) (unreferred r k) h)
  where
    one : (second_label k || defined_again b k || undefined d k || counted_label k) ≡ false
    one = or_left (second_label k || defined_again b k || undefined d k || counted_label k) (unreferred r k) h

    two : (second_label k || defined_again b k || undefined d k) ≡ false
    two = or_left (second_label k || defined_again b k || undefined d k) (counted_label k) one

    three : (second_label k || defined_again b k) ≡ false
    three = or_left (second_label k || defined_again b k) (undefined d k) two

labelled_moves : (b d r : List (List ℕ)) (ks qs : List (Bracket ℕ)) → Alike ks qs → wrongly_labelled b d r ks ≡ [] → wrongly_labelled b d r qs ≡ []
unfolding wrongly_labelled
labelled_moves b d r [] [] w h = refl
labelled_moves b d r [] (q ∷ qs) w h = absurd w
labelled_moves b d r (k ∷ ks) [] w h = absurd w
labelled_moves b d r (k ∷ ks) (q ∷ qs) w h =
    nil_both (due_at (wrong_labels b d r q) q.at) (wrongly_labelled (b ++ defined_by q) d r qs)
    (false_due (wrong_labels b d r q) q.at (wrong_moves b d r k q w.0 (not_due (wrong_labels b d r k) k.at (nil_front _ (wrongly_labelled (b ++ defined_by k) d r ks) h))))
    (subst (λ (z : List (List ℕ)). wrongly_labelled (b ++ z) d r qs ≡ []) (same_defined k q w.0)
    (labelled_moves (b ++ defined_by k) d r ks qs w.1 (nil_back (due_at (wrong_labels b d r k) k.at) _ h)))

pub none_11 : (l m : Line ℕ) → Alike l.brackets m.brackets → refusal11 l ≡ [] → refusal11 m ≡ []
unfolding refusal11
none_11 l m w h =
    subst (λ (z : List (List ℕ)). wrongly_labelled [] z (referred_to m.brackets) m.brackets ≡ []) (alike_flat defined_by same_defined l.brackets m.brackets w)
    (subst (λ (z : List (List ℕ)). wrongly_labelled [] (defined l.brackets) z m.brackets ≡ []) (alike_flat referred_by same_referred l.brackets m.brackets w)
    (labelled_moves [] (defined l.brackets) (referred_to l.brackets) l.brackets m.brackets w h))

-- ---- 12
same_copies : (k q : Bracket ℕ) → Same k q → copies k ≡ copies q
unfolding copies
same_copies k q w = rw (same_info k q w, same_refers k q w, same_names k q w, same_kind k q w, same_count k q w)

passing_moves : (n : ℕ) (ks qs : List (Bracket ℕ)) → Alike ks qs → passing n ks ≡ [] → passing n qs ≡ []
unfolding passing
passing_moves n [] [] w h = refl
passing_moves n [] (q ∷ qs) w h = absurd w
passing_moves n (k ∷ ks) [] w h = absurd w
passing_moves n (k ∷ ks) (q ∷ qs) w h =
    nil_both (due_at (leb n copy_limit && ltb copy_limit (n + copies q)) q.at) (passing (n + copies q) qs)
    (due_moves _ _ k.at q.at (ap (λ z. leb n copy_limit && ltb copy_limit (n + z)) (same_copies k q w.0)) (nil_front _ (passing (n + copies k) ks) h))
    (subst (λ (z : ℕ). passing (n + z) qs ≡ []) (same_copies k q w.0) (passing_moves (n + copies k) ks qs w.1 (nil_back (due_at (leb n copy_limit && ltb copy_limit (n + copies k)) k.at) _ h)))

pub none_12 : (l m : Line ℕ) → Alike l.brackets m.brackets → refusal12 l ≡ [] → refusal12 m ≡ []
unfolding refusal12
none_12 l m w h = passing_moves 0 l.brackets m.brackets w h
