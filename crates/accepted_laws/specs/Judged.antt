-- What a line keeps to because no refusal is due: a list of places that is empty says of each element that its test is false.
use Rattle.std.specs.Prelude.{◌≡◌, refl, Bool, true, false, not, ◌&&◌, ◌||◌, List, [], ◌∷◌, ◌++◌, map, ℕ, ◌+◌, ◌-◌, ◌≤◌, ◌<◌, eqb, leb, ltb, length, drop, replicate}
use Rattle.std.proofs.Common.{sym, ap, ◌∙◌, inl, inr, true≢false, arith, length-drop, length-append, ltb-false, le-leb}
use Rattle.std.proofs.lemmas.Bool.{false≢true, eqb-false, not-false}
use Rattle.std.proofs.Math.Option.{Option, none, some}
use Rattle.std.proofs.lemmas.List.{length-map, length-replicate}
use Rattle.scope.specs.declared.grammar.Key.{Key}
use Rattle.scope.specs.declared.grammar.Key.TheVariants.{NoKey, U, M, R, X, G, C, Obs, Unimod, Mod, Xlmod, Resid, Gno, Info, Formula, Glycan, Position, Limit}
use Rattle.scope.specs.Bytes.{is_printable}
use Rattle.scope.specs.Limits.{line_limit, residue_limit, bracket_limit, part_limit, text_limit, label_limit, count_limit, copy_limit, declaration_limit, place_limit}
use Rattle.scope.specs.Line.{Number, Label, Value, mass, text, reference, composition, Part, Bracket, Line}
use Rattle.scope.specs.Keys.{key_code}
use Rattle.scope.specs.Lists.{given, flat}
use Rattle.scope.specs.Reading.{holds, reading}
use Rattle.scope.specs.Modifications.{names_of, is_labelled, copies, defined_by, defined, referred_to}
use Rattle.scope.specs.Refusals.{due_at, unprintable, refusal2, refusal3, refusal6, refusal7, refusal8, refusal11, refusal12, text_of, long_text, long_label, many_places, over_in, declarations, many_declarations, in_range, wide, wide_mass, wide_score, wide_count, not_here, is_rule, is_link, second_label, defined_again, undefined, counted_label, unreferred, wrong_labels, wrongly_labelled, passing}
use Rattle.scope.specs.Positions.{floaters}
use Rattle.basics.specs.Lists.{not_due, nil_front, nil_back, flat_none}
use Rattle.basics.specs.Tests.{or_left, or_right}
use Rattle.basics.specs.Each.{Each, OfGiven, each_three}
use Rattle.reading_laws.proofs.Taken.{Taken, not_long}
use Rattle.accepted_laws.specs.Within.{KeyWithin}

-- ---- nothing is due
none_dropped : {A : Type 0} (f : A → ℕ) (n : ℕ) (l : List A) → drop n (map f l) ≡ [] → length l ≤ n
none_dropped f n l e =
    let a = length-drop n (map f l) in
    let b : length (drop n (map f l)) ≡ 0 = ap length e in
    let c = length-map l f in
    omega arith

-- ---- parts
abbrev pub MassRange : {P : Type 0} → Value P → Type 0
MassRange (mass n) = in_range n ≡ true
MassRange (text t) = Unit {0}
MassRange reference = Unit {0}
MassRange (composition t n) = Unit {0}

pub record JudgedPart (p : Part ℕ) : Type 0 where
  pub short_text_lem : length (text_of p) ≤ text_limit
  pub short_label : OfGiven (λ l. length l.name ≤ label_limit) p.label
  pub mass_range : MassRange p.value
  pub score_range : OfGiven (λ l. OfGiven (λ n. in_range n ≡ true) l.score) p.label
  pub key : KeyWithin p.key

short_label_of : (l : Option (Label ℕ)) → given l (λ l. due_at (ltb label_limit (length l.name)) l.at) [] ≡ [] → OfGiven (λ l. length l.name ≤ label_limit) l
short_label_of none e = tt
short_label_of (some l) e = ltb-false label_limit (length l.name) (not_due _ l.at e)

in_range_lem : (n : Number ℕ) → wide n ≡ [] → in_range n ≡ true
in_range_lem n e = not-false (in_range n) (not_due _ n.at e)

mass_range_of : (v : Value ℕ) → wide_mass v ≡ [] → MassRange v
mass_range_of (mass n) e = in_range_lem n e
mass_range_of (text t) e = tt
mass_range_of reference e = tt
mass_range_of (composition t n) e = tt

score_range_of :
    (l : Option (Label ℕ)) → given l (λ l. given l.score wide []) [] ≡ [] → OfGiven (λ l. OfGiven (λ n. in_range n ≡ true) l.score) l
score_range_of none e = tt
score_range_of (some l) e = go l.score e
  where
    go : (n : Option (Number ℕ)) → given n wide [] ≡ [] → OfGiven (λ n. in_range n ≡ true) n
    go none q = tt
    go (some n) q = in_range_lem n q

key_few : (k : Key) → (eqb (key_code k) (key_code Formula) || eqb (key_code k) (key_code Position) || eqb (key_code k) (key_code Limit)) ≡ false → KeyWithin k
key_few NoKey e = inl (omega arith)
key_few U e = inl (omega arith)
key_few M e = inl (omega arith)
key_few R e = inl (omega arith)
key_few X e = inl (omega arith)
key_few G e = inl (omega arith)
key_few C e = inl (omega arith)
key_few Obs e = inl (omega arith)
key_few Unimod e = inl (omega arith)
key_few Mod e = inl (omega arith)
key_few Xlmod e = inl (omega arith)
key_few Resid e = inl (omega arith)
key_few Gno e = inl (omega arith)
key_few Info e = inl (omega arith)
key_few Formula e = absurd (true≢false e)
key_few Glycan e = inr refl
key_few Position e = absurd (true≢false e)
key_few Limit e = absurd (true≢false e)

judged_part : (p : Part ℕ) → long_text p ++ long_label p ≡ [] → wide_mass p.value ++ wide_score p ≡ [] → due_at (not_here p) p.at ≡ [] → JudgedPart p
judged_part p a b c =
    record {
      short_text_lem = ltb-false text_limit (length (text_of p)) (not_due _ p.at (nil_front (long_text p) (long_label p) a));
      short_label = short_label_of p.label (nil_back (long_text p) (long_label p) a);
      mass_range = mass_range_of p.value (nil_front (wide_mass p.value) (wide_score p) b);
      score_range = score_range_of p.label (nil_back (wide_mass p.value) (wide_score p) b);
      key = key_few p.key (or_left _ (is_rule p) (or_left _ (given p.label (λ l. is_link l.name) false) (not_due (not_here p) p.at c)));
    }

-- ---- brackets
pub record JudgedBracket (k : Bracket ℕ) : Type 0 where
  pub few_parts_lem : length k.parts ≤ part_limit
  pub count_range : OfGiven (λ i. (0 < k.count) × (k.count ≤ count_limit)) k.counted
  pub one_label : length (names_of k) ≤ 1
  pub uncounted : is_labelled k ≡ true → k.counted ≡ none
  pub parts : Each JudgedPart k.parts
  pub few_places : length k.places ≤ place_limit

count_range_of : (n : ℕ) (c : Option ℕ) → given c (due_at (eqb n 0 || ltb count_limit n)) [] ≡ [] → OfGiven (λ i. (0 < n) × (n ≤ count_limit)) c
count_range_of n none e = tt
count_range_of n (some i) e =
    let t = not_due (eqb n 0 || ltb count_limit n) i e in
    let a : n ≡ 0 → ⊥ = eqb-false n 0 (or_left (eqb n 0) _ t) in
    let b : n ≤ count_limit = ltb-false count_limit n (or_right (eqb n 0) _ t) in
    (omega (arith, a), b)

uncounted_of : (t : Bool) (c : Option ℕ) → (t && given c (λ p. true) false) ≡ false → t ≡ true → c ≡ none
uncounted_of t none e h = refl
uncounted_of true (some i) e h = absurd (true≢false e)
uncounted_of false (some i) e h = absurd (false≢true h)

judged_bracket :
    (before definitions references : List (List ℕ)) (k : Bracket ℕ) → over_in k ≡ [] → wide_count k ++ flat (λ p. wide_mass p.value ++ wide_score p)
    k.parts ≡ []
    → flat (λ p. due_at (not_here p) p.at) k.parts ≡ [] → wrong_labels before definitions references k ≡ false → JudgedBracket k
judged_bracket before definitions references k a b c d =
    let long = drop part_limit (map (λ p. p.at) k.parts) in
    let texts = flat (λ p. long_text p ++ long_label p) k.parts in
    let behind = nil_back long (texts ++ many_places k) a in
    let d1 = or_left _ (unreferred references k) d in
    let d2 = or_left _ (counted_label k) d1 in
    let d3 = or_left _ (undefined definitions k) d2 in
    let d4 : second_label k ≡ false = or_left _ (defined_again before k) d3 in
    record {
      few_parts_lem = none_dropped (λ p. p.at) part_limit k.parts (nil_front long (texts ++ many_places k) a);
      count_range = count_range_of k.count k.counted (nil_front (wide_count k) (flat (λ p. wide_mass p.value ++ wide_score p) k.parts) b);
      one_label = ltb-false 1 (length (names_of k)) d4;
      uncounted = uncounted_of (is_labelled k) k.counted
          (or_right (second_label k || defined_again before k || undefined definitions k) (counted_label k) d1);
      parts =
          each_three _ _ _ JudgedPart judged_part k.parts
          (flat_none (λ p. long_text p ++ long_label p) k.parts (nil_front texts (many_places k) behind))
          (flat_none (λ p. wide_mass p.value ++ wide_score p) k.parts
          (nil_back (wide_count k) (flat (λ p. wide_mass p.value ++ wide_score p) k.parts) b))
          (flat_none (λ p. due_at (not_here p) p.at) k.parts c);
      few_places = none_dropped (λ p. p.at) place_limit k.places (nil_back texts (many_places k) behind);
    }

judged_brackets :
    (before definitions references : List (List ℕ)) (ks : List (Bracket ℕ)) → Each (λ k. over_in k ≡ []) ks
    → Each (λ k. wide_count k ++ flat (λ p. wide_mass p.value ++ wide_score p) k.parts ≡ []) ks → Each
    (λ k. flat (λ p. due_at (not_here p) p.at) k.parts ≡ []) ks
    → wrongly_labelled before definitions references ks ≡ [] → Each JudgedBracket ks
unfolding wrongly_labelled
judged_brackets before definitions references [] a b c d = tt
judged_brackets before definitions references (k ∷ ks) a b c d =
    let here = due_at (wrong_labels before definitions references k) k.at in
    let rest = wrongly_labelled (before ++ defined_by k) definitions references ks in (
      judged_bracket before definitions references k a.0 b.0 c.0 (not_due _ k.at (nil_front here rest d)),
      judged_brackets (before ++ defined_by k) definitions references ks a.1 b.1 c.1 (nil_back here rest d),
    )

few_copies_of :
    (before : ℕ) (ks : List (Bracket ℕ)) → before ≤ copy_limit → passing before ks ≡ [] → before + length (flat (λ k. replicate (copies k) k) ks) ≤ copy_limit
unfolding passing flat
few_copies_of before [] h e = omega arith
few_copies_of before (k ∷ ks) h e =
    let here = due_at (leb before copy_limit && ltb copy_limit (before + copies k)) k.at in
    let rest = passing (before + copies k) ks in
    let t : (leb before copy_limit && ltb copy_limit (before + copies k)) ≡ false = not_due _ k.at (nil_front here rest e) in
    let u : ltb copy_limit (before + copies k) ≡ false = ap (λ z. z && ltb copy_limit (before + copies k)) (sym (le-leb before copy_limit h)) ∙ t in
    let v : before + copies k ≤ copy_limit = ltb-false copy_limit (before + copies k) u in
    let w = few_copies_of (before + copies k) ks v (nil_back here rest e) in
    let x = length-append (replicate (copies k) k) (flat (λ k. replicate (copies k) k) ks) in
    let y = length-replicate (copies k) k in
    omega arith

all_printable : (i : ℕ) (s : List ℕ) → unprintable i s ≡ [] → Each (λ b. is_printable b ≡ true) s
unfolding unprintable
all_printable i [] e = tt
all_printable i (b ∷ s) e =
    let here = due_at (not (is_printable b)) i in (
      not-false (is_printable b) (not_due _ i (nil_front here (unprintable (i + 1) s) e)),
      all_printable (i + 1) s
          (nil_back here (unprintable (i + 1) s) e),
    )

-- ---- lines
pub record Judged (s : List ℕ) (l : Line ℕ) : Type 0 where
  pub read : reading s ≡ holds l
  pub short : length s ≤ line_limit
  pub printable : Each (λ b. is_printable b ≡ true) s
  pub few_residues : length l.residues ≤ residue_limit
  pub few_brackets_lem : length l.brackets ≤ bracket_limit
  pub few_declarations : length (declarations l.brackets) ≤ declaration_limit
  pub brackets : Each JudgedBracket l.brackets
  pub few_copies : length (floaters l) ≤ copy_limit

-- of what was read of an accepted line
pub judged_line : (s : List ℕ) (m : Line ℕ) (w : Taken s m) → Judged s w.read
unfolding refusal2 refusal3 refusal6 refusal7 refusal8 refusal11 refusal12 floaters
judged_line s m w =
    let l = w.read in
    let no2 : refusal2 s ≡ [] = w.bytes.1.0 in
    let no3 : refusal3 s ≡ [] = w.bytes.1.1.0 in
    let from6 = w.clear.1 in
    let from8 = from6.1.1 in
    let from11 = from8.1.1.1.1 in
    let rs = drop residue_limit (map (λ r. r.at) l.residues) in
    let ks = drop bracket_limit (map (λ k. k.at) l.brackets) in
    let ds = many_declarations l.brackets in
    let a : rs ++ (ks ++ (ds ++ flat over_in l.brackets)) ≡ [] = from6.0 in
    let b = nil_back rs (ks ++ (ds ++ flat over_in l.brackets)) a in
    let d = nil_back ks (ds ++ flat over_in l.brackets) b in
    let c = few_copies_of 0 l.brackets (omega arith) (from11.1.0) in
    record {
      read = w.reads;
      short = not_long s no2;
      printable = all_printable 0 s (no3);
      few_residues = none_dropped (λ r. r.at) residue_limit l.residues (nil_front rs (ks ++ (ds ++ flat over_in l.brackets)) a);
      few_brackets_lem = none_dropped (λ k. k.at) bracket_limit l.brackets (nil_front ks (ds ++ flat over_in l.brackets) b);
      few_declarations = none_dropped (λ k. k.at - 1) declaration_limit (declarations l.brackets) (nil_front ds (flat over_in l.brackets) d);
      brackets =
          judged_brackets [] (defined l.brackets) (referred_to l.brackets) l.brackets
          (flat_none over_in l.brackets (nil_back ds (flat over_in l.brackets) d))
          (flat_none (λ k. wide_count k ++ flat (λ p. wide_mass p.value ++ wide_score p) k.parts) l.brackets (from6.1.0))
          (flat_none (λ k. flat (λ p. due_at (not_here p) p.at) k.parts) l.brackets (from8.0))
          (from11.0);
      few_copies = omega arith;
    }
