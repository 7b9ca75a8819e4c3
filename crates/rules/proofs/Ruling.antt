-- Refusals 10 to 12 of the definitions, from what the tables say of each bracket. Assumes nothing.
use Prim.Native.Nat.{ℕ, zero, suc, ◌+◌, ◌≤◌, ◌<◌, min}
use mathlib.Core.Path.{◌≡◌, refl, sym, ap, ap₂, ◌∙◌}
use mathlib.Core.Bool.{Bool, true, false, not, cond, ◌&&◌, ◌||◌}
use mathlib.Core.Option.{Option, none, some}
use mathlib.Core.List.{List, [], ◌∷◌}
use native.Mathlib.Omega.{arith}
use lib.Dec.{eqb, leb, ltb}
use lib.ListN.{length, take, drop}
use lib.Seq.{take-length}
use borrow.Author.Tests.{ne_eqb, lt-leb, lt-ltb, leb-true, leb-false}
use Rattle.scope.specs.declared.grammar.Kind.{Kind}
use Rattle.scope.specs.declared.grammar.Kind.TheVariants.{Labile}
use Rattle.scope.specs.Kinds.{kind_code, is_unknown, is_on_range, unknown_or_labile, is_declared}
use Rattle.scope.specs.Limits.{count_limit, copy_limit}
use Rattle.scope.specs.Line.{Label, Part, Bracket}
use Rattle.scope.specs.Lists.{given, none?, all, flat, among, shared}
use Rattle.scope.specs.Modifications.{only_info, is_referring, name_of, names_of, is_labelled, unlabelled_copies, copies, defined, referred_to}
use Rattle.scope.specs.Refusals.{wrong_labels}
use Rattle.basics.specs.Choice.{by_test, through}
use Rattle.basics.specs.Each.{Each, OfGiven, each_append}
use Rattle.basics.specs.Kinds.{same_of_kinds}
use Rattle.basics.specs.Lists.{among_append}
use Rattle.sheet.specs.Rows.{sort_of, counted_code}
use Rattle.sheet.specs.Fields.{place_field, written_count}
use Rattle.rules.specs.Told.{reference_sort, info_sort, info_at, declared_info_at, name_at, names_at, labelled_at, refers_at, side_at, side_from, wrong_at, copies_in, copies_at, passes}
use Rattle.rules.specs.Ruled.{Named, Shaped, Ruled}
use Rattle.rules.proofs.Noting.{no_bracket, bracket_at, drop_next, each_at, head_at_lem, names_at_lem, only_name}

-- ---- what the codes of a bracket's kind and of its sort tell
kind_free : (c : Kind) → leb (kind_code c) (kind_code Labile) ≡ unknown_or_labile c
kind_free = same_of_kinds (λ c. leb (kind_code c) (kind_code Labile)) unknown_or_labile refl

info_told : (r i l : Bool) → (r && i) ≡ false → eqb (cond r 3 (cond i 0 (cond l 2 1))) 0 ≡ i
info_told true i l e = sym e
info_told false true l e = refl
info_told false false true e = refl
info_told false false false e = refl

refers_told : (r i l : Bool) → eqb (cond r 3 (cond i 0 (cond l 2 1))) 3 ≡ r
refers_told true i l = refl
refers_told false true l = refl
refers_told false false true = refl
refers_told false false false = refl

sort_info : (k : Bracket ℕ) → (is_referring k && only_info k) ≡ false → eqb (sort_of k) info_sort ≡ only_info k
unfolding sort_of
sort_info k e = info_told (is_referring k) (only_info k) (is_labelled k) e

sort_refers : (k : Bracket ℕ) → eqb (sort_of k) reference_sort ≡ is_referring k
unfolding sort_of
sort_refers k = refers_told (is_referring k) (only_info k) (is_labelled k)

copies_told : (r i l : Bool) (c : Kind) (n : ℕ)
    → copies_in (cond r 3 (cond i 0 (cond l 2 1))) (kind_code c) (min (count_limit + 1) n) ≡ min (count_limit + 1) (cond (not i && not r) (cond l 1 (unlabelled_copies c n)) 0)
copies_told true true l c n = refl
copies_told true false l c n = refl
copies_told false true l c n = refl
copies_told false false true c n = refl
copies_told false false false c n =
    sym (through (min (count_limit + 1)) (is_unknown c) refl (through (min (count_limit + 1)) (is_on_range c) refl refl))

sort_copies : (k : Bracket ℕ) → copies_in (sort_of k) (kind_code k.kind) (min (count_limit + 1) k.count) ≡ min (count_limit + 1) (copies k)
unfolding sort_of copies
sort_copies k = copies_told (is_referring k) (only_info k) (is_labelled k) k.kind k.count

counted_is : {A : Type 0} (o : Option A) → eqb (counted_code o) written_count ≡ given o (λ p. true) false
counted_is none = refl
counted_is (some p) = refl

-- ---- 12: as many copies as the tables count, or both too many
pub data SameFew (x y : ℕ) : Type 0 where
  as_many : x ≡ y → SameFew x y
  too_many : copy_limit < x → copy_limit < y → SameFew x y

pub few_more : (x y c d : ℕ) → SameFew x y → c ≡ min (count_limit + 1) d → SameFew (x + c) (y + d)
few_more x y c d (as_many e) q =
    by_test (leb d count_limit)
    (λ t. let l = leb-true d count_limit t in as_many (omega arith))
    (λ t. let l = leb-false d count_limit t in too_many (omega arith) (omega arith))
few_more x y c d (too_many f g) q = too_many (omega arith) (omega arith)

pub few_passes : (x y c d : ℕ) → SameFew x y → c ≡ min (count_limit + 1) d → passes x (x + c) ≡ (leb y copy_limit && ltb copy_limit (y + d))
few_passes x y c d (as_many e) q = ap₂ ◌&&◌ (ap (λ t. leb t copy_limit) e) (go (few_more x y c d (as_many e) q))
  where
    go : SameFew (x + c) (y + d) → ltb copy_limit (x + c) ≡ ltb copy_limit (y + d)
    go (as_many f) = ap (ltb copy_limit) f
    go (too_many f g) = lt-ltb copy_limit (x + c) f ∙ sym (lt-ltb copy_limit (y + d) g)
few_passes x y c d (too_many f g) q = rw (lt-leb x copy_limit f, lt-leb y copy_limit g)

-- ---- 11: the tests of the code, and those of the definition
one_refers : (c u d : Bool) → cond c true (not d) ≡ (false || false || not (d && true) || (true && c) || (u && not true))
one_refers true true true = refl
one_refers true true false = refl
one_refers true false true = refl
one_refers true false false = refl
one_refers false true true = refl
one_refers false true false = refl
one_refers false false true = refl
one_refers false false false = refl

one_defines : (c u b d : Bool)
    → cond c true (cond b true (cond u (not d) false)) ≡ (false || (b || false) || not true || (true && c) || (u && not (d && true)))
one_defines true u true d = refl
one_defines true u false d = refl
one_defines false u true d = refl
one_defines false true false true = refl
one_defines false true false false = refl
one_defines false false false d = refl

none_wrong : (r u : Bool) (before definitions references : List (List ℕ))
    → false
    ≡ (false || shared (cond r [] []) before || not (all (λ y. among y definitions) (cond r [] [])) || (not true && false)
    || (u && not (all (λ y. among y references) (cond r [] []))))
unfolding shared all
none_wrong true true before definitions references = refl
none_wrong true false before definitions references = refl
none_wrong false true before definitions references = refl
none_wrong false false before definitions references = refl

module _ (before definitions references : List (List ℕ)) (x : List ℕ) (d b e : Bool) where
  abbrev tried : List (List ℕ) → Bool → Bool → Bool → Bool
  tried ns r c u =
      cond (eqb (length ns) 0) false (cond (ltb 1 (length ns)) true (cond c true (cond r (not d) (cond b true (cond u (not e) false)))))

  abbrev meant : List (List ℕ) → Bool → Bool → Bool → Bool
  meant ns r c u =
      ltb 1 (length ns) || shared (cond r [] ns) before || not (all (λ y. among y definitions) (cond r ns [])) || (not (none? ns) && c)
      || (u && not (all (λ y. among y references) (cond r [] ns)))

  -- where it has one label, x, and d, b and e say whether that is among the definitions, those before, and the references
  pub wrong_told : (ns : List (List ℕ)) → (length ns ≡ 1 → (ns ≡ x ∷ []) × (d ≡ among x definitions) × (b ≡ among x before) × (e ≡ among x references))
      → (r c u : Bool) → tried ns r c u ≡ meant ns r c u
  unfolding shared all
  wrong_told [] h r c u = none_wrong r u before definitions references
  wrong_told (y ∷ []) h true c u =
      let g = h refl in
      let q : y ≡ x = cc g.0 in
      rw (q, g.1) (one_refers c u (among x definitions))
  wrong_told (y ∷ []) h false c u =
      let g = h refl in
      let q : y ≡ x = cc g.0 in
      rw (q, g.2, g.3) (one_defines c u (among x before) (among x references))
  wrong_told (y ∷ z ∷ l) h r c u =
      rw (ne_eqb (suc (suc (length l))) 0 (λ q. absurd (omega arith)), lt-ltb 1 (suc (suc (length l))) (omega arith))

names_some : (ps : List (Part ℕ)) → Each Named ps → Each (λ x. 0 < length x) (flat name_of ps)
unfolding flat
names_some [] w = tt
names_some (p ∷ ps) w = each_append (λ x. 0 < length x) (name_of p) (flat name_of ps) (go p.label w.0) (names_some ps w.1)
  where
    go : (o : Option (Label ℕ)) → OfGiven (λ l. 0 < length l.name) o → Each (λ x. 0 < length x) (given o (λ l. l.name ∷ []) [])
    go none m = tt
    go (some l) m = (m, tt)

-- the labels that a bracket refers to, or those that it defines
abbrev side_of : Bool → Bracket ℕ → List (List ℕ)
side_of refers k = cond refers (cond (is_referring k) (names_of k) []) (cond (is_referring k) [] (names_of k))

side_told : (x : List ℕ) (rows ns : List (List ℕ)) (r refers : Bool) → among x rows ≡ among x ns
    → among x (cond (eqb (length ns) 0) [] (cond (cond r refers (not refers)) rows [])) ≡ among x (cond refers (cond r ns []) (cond r [] ns))
unfolding among
side_told x rows [] true true e = refl
side_told x rows [] true false e = refl
side_told x rows [] false true e = refl
side_told x rows [] false false e = refl
side_told x rows (y ∷ ns) true true e = rw (ne_eqb (suc (length ns)) 0 (λ q. absurd (omega arith))) e
side_told x rows (y ∷ ns) true false e = rw (ne_eqb (suc (length ns)) 0 (λ q. absurd (omega arith)))
side_told x rows (y ∷ ns) false true e = rw (ne_eqb (suc (length ns)) 0 (λ q. absurd (omega arith)))
side_told x rows (y ∷ ns) false false e = rw (ne_eqb (suc (length ns)) 0 (λ q. absurd (omega arith))) e

abbrev pub wrong_in : List (Bracket ℕ) → ℕ → Bool
wrong_in ks k = wrong_labels (defined (take k ks)) (defined ks) (referred_to ks) (bracket_at ks k)

module _ {line heads parts : List ℕ} {n : ℕ} {ks : List (Bracket ℕ)} (a : Ruled line heads parts n ks) where
  -- ---- 10, and 12
  module _ (k : ℕ) (h : k < length ks) where
    abbrev this : Bracket ℕ
    this = bracket_at ks k

    pub info_is : info_at heads k ≡ (unknown_or_labile this.kind && only_info this)
    info_is =
        let w = head_at_lem a k h in
        rw (w.kind, w.sort) (ap₂ ◌&&◌ (kind_free this.kind) (sort_info this (each_at Shaped no_bracket ks k a.shaped h).apart))

    pub declared_is : declared_info_at heads k ≡ (is_declared this.kind && only_info this)
    declared_is =
        let w = head_at_lem a k h in
        rw (w.kind, w.sort) (ap (λ t. is_declared this.kind && t) (sort_info this (each_at Shaped no_bracket ks k a.shaped h).apart))

    pub copies_are : copies_at heads k ≡ min (count_limit + 1) (copies this)
    copies_are =
        let w = head_at_lem a k h in
        rw (w.sort, w.kind, w.count) (sort_copies this)

    pub place_is : place_field heads k ≡ this.at
    place_is = (head_at_lem a k h).place

    refers_is : refers_at heads k ≡ is_referring this
    refers_is = ap (λ t. eqb t reference_sort) (head_at_lem a k h).sort ∙ sort_refers this

    side_at_lem : (x : List ℕ) → 0 < length x → (refers : Bool) → among x (side_at line heads parts refers k) ≡ among x (side_of refers this)
    side_at_lem x l refers =
        let w = head_at_lem a k h in
        rw (w.labels, refers_is) (side_told x (names_at line heads parts k) (names_of this) (is_referring this) refers (names_at_lem a k h x l))

  -- ---- 11
  module _ (x : List ℕ) (l : 0 < length x) (refers : Bool) where
    side_from_lem : (k m : ℕ) → k + m ≤ length ks → among x (side_from line heads parts refers k m) ≡ among x (flat (side_of refers) (take m (drop k ks)))
    unfolding side_from flat
    side_from_lem k zero h = refl
    side_from_lem k (suc m) h =
        let g : k < length ks = omega arith in
        rw (drop_next ks k g)
        (among_append x (side_at line heads parts refers k) (side_from line heads parts refers (k + 1) m)
        ∙ ap₂ ◌||◌ (side_at_lem k g x l refers) (side_from_lem (k + 1) m (omega arith))
        ∙ sym (among_append x (side_of refers (bracket_at ks k)) (flat (side_of refers) (take m (drop (k + 1) ks)))))

    side_first : (m : ℕ) → m ≤ length ks → among x (side_from line heads parts refers 0 m) ≡ among x (flat (side_of refers) (take m ks))
    side_first m h = side_from_lem 0 m (omega arith)

    side_all : among x (side_from line heads parts refers 0 n) ≡ among x (flat (side_of refers) ks)
    side_all = side_first n (omega (arith, a.many)) ∙ ap (λ t. among x (flat (side_of refers) (take t ks))) a.many ∙ ap (λ t. among x (flat (side_of refers) t)) (take-length ks)

  module _ (k : ℕ) (h : k < length ks) where
    -- its only label, where it has one
    abbrev x₁ : List ℕ
    x₁ = name_at line parts (labelled_at heads parts k)

    some_name : length (names_of (bracket_at ks k)) ≡ 1 → 0 < length x₁
    some_name e = (rw (only_name a k h e) at (names_some (bracket_at ks k).parts (each_at Shaped no_bracket ks k a.shaped h).named)).0

    pub wrong_is : wrong_at line heads parts n k ≡ wrong_in ks k
    wrong_is =
        let w = head_at_lem a k h in
        let b = bracket_at ks k in
        rw (refers_is k h, w.labels, w.counted, w.kind, counted_is b.counted)
        (wrong_told (defined (take k ks)) (defined ks) (referred_to ks) x₁ _ _ _ (names_of b)
        (λ e. let l = some_name e in (only_name a k h e, side_all x₁ l false, side_first x₁ l false k (omega arith), side_all x₁ l true))
        (is_referring b) (given b.counted (λ p. true) false) (is_unknown b.kind))
