-- The places of a declaration: from trees to the reader, byte by byte; and the word of a terminus, in either case.
use Rattle.std.specs.Prelude.{ℕ, ◌+◌, ◌-◌, ◌≤◌, ◌≡◌, refl, Bool, false, cond, eqb, leb, length}
use Rattle.std.proofs.Common.{arith, ◌∙◌, subst, ⊎_elim}
use Rattle.std.proofs.Math.Path.{sym, ap}
use Rattle.std.proofs.Math.Bool.{true}
use Rattle.std.proofs.lemmas.Bool.{false≢true}
use Rattle.std.proofs.Math.Option.{none, some, none-ne-some}
use mathlib.Core.List.{List, [], ◌∷◌, ◌++◌, append_assoc, append-nil}
use borrow.Author.Tests.{eqb-true, eq-eqb, leb-true}
use Rattle.scope.specs.declared.grammar.Mode.TheVariants.{Front, Listed}
use Rattle.scope.specs.Bytes.{bytes, upper, is_upper, is_lower, is_letter, same_folded, comma, dash, shut_angle}
use Rattle.scope.specs.Line.{Place}
use Rattle.scope.specs.Lists.{given, all as every}
use Rattle.scope.specs.Places.{n_terminus, c_terminus, is_terminus, site_text, Placing, expected, placed, owing, owed, terminus_of, place_step, places_end}
use Rattle.scope.specs.Reading.{act, Held, with_places, State, dead, outside, placing, perform, step}
use Rattle.scope.specs.Grammar.{Target, a_letter, a_terminus, print_target, good_target, means_target, print_targets, means_targets}
use Rattle.basics.specs.Choice.{pick_true, pick_false, by_test}
use Rattle.basics.specs.Tests.{and_left, and_right, both, one_of, or_second}
use Rattle.grammar_laws.specs.Runs.{line_run, line_nil, line_cons, line_further}

-- what is printed behind the first place
abbrev pub print_more : List Target → List ℕ
print_more [] = []
print_more (x ∷ xs) = comma ∷ print_targets x xs

pub print_targets_lem : (x : Target) (xs : List Target) → print_targets x xs ≡ print_target x ++ print_more xs
unfolding print_targets
print_targets_lem x [] = sym (append-nil (print_target x))
print_targets_lem x (y ∷ xs) = refl

-- ---- letters in either case
pub folded_letter : (b : ℕ) → is_letter (upper b) ≡ true → is_letter b ≡ true
unfolding upper
folded_letter b e =
    by_test (is_lower b) (λ t. or_second (is_upper b) (is_lower b) t) (λ f. subst (λ z. is_letter z ≡ true) (pick_false (is_lower b) (b - 32) b f) e)

pub folded_dash : (b : ℕ) → upper b ≡ dash → b ≡ dash
unfolding upper
folded_dash b e =
    by_test (is_lower b)
    (λ t. let low : 97 ≤ b = leb-true 97 b (and_left (leb 97 b) _ t) in let z : b - 32 ≡ dash = sym (pick_true (is_lower b) (b - 32) b t) ∙ e in absurd (omega arith))
    (λ f. sym (pick_false (is_lower b) (b - 32) b f) ∙ e)

dash_upper : upper dash ≡ dash
unfolding upper
dash_upper = refl

-- the word of a terminus begins with its letter
pub record Worded (c s : ℕ) : Type 0 where
  pub letter : is_letter c ≡ true
  pub folded : upper c ≡ c
  pub names : terminus_of c ≡ some s

pub n_worded : Worded 78 n_terminus
unfolding upper
n_worded = record { letter = refl; folded = refl; names = refl }

pub c_worded : Worded 67 c_terminus
unfolding upper
c_worded = record { letter = refl; folded = refl; names = refl }

-- and only two letters do
word_cases : (Q : ℕ → ℕ → Type 0) (c s : ℕ) → terminus_of c ≡ some s → Q 78 n_terminus → Q 67 c_terminus → Q c s
word_cases Q c s e n k = go (eqb c 78) (eqb c 67) refl refl e
  where
    same : (x y : ℕ) → some x ≡ some y → x ≡ y
    same x y f = cc

    go : (t u : Bool) → eqb c 78 ≡ t → eqb c 67 ≡ u → cond t (some n_terminus) (cond u (some c_terminus) none) ≡ some s → Q c s
    go true u p q f = subst (λ z. Q z s) (sym (eqb-true c 78 p)) (subst (Q 78) (same n_terminus s f) n)
    go false true p q f = subst (λ z. Q z s) (sym (eqb-true c 67 q)) (subst (Q 67) (same c_terminus s f) k)
    go false false p q f = absurd (none-ne-some s f)

-- behind a terminus no word begins
pub no_word : (c s : ℕ) → terminus_of c ≡ some s → terminus_of s ≡ none
no_word c s e = word_cases (λ d t. terminus_of t ≡ none) c s e refl refl

pub terminus_good : (b s : ℕ) (w : List ℕ) → terminus_of (upper b) ≡ some s → same_folded (dash ∷ bytes "term") w ≡ true → good_target (a_terminus s (b ∷ w)) ≡ true
unfolding same_folded upper
terminus_good b s w e f =
    word_cases (λ d t. upper b ≡ d → good_target (a_terminus t (b ∷ w)) ≡ true) (upper b) s e
    (λ q. both _ _ (eq-eqb 78 (upper b) (sym q)) f) (λ q. both _ _ (eq-eqb 67 (upper b) (sym q)) f) refl

module _ (h : Held ℕ) where
  -- one byte that places go on with
  place_on : (j : ℕ) (s t : Placing ℕ) (b : ℕ) → place_step j s b ≡ some t → step j (placing h s) b ≡ placing h t
  unfolding step
  place_on j s t b e = ap (λ o. given o (placing h) (given (places_end s) (λ ps. perform j b (with_places ps h) (act Listed b)) (dead j))) e

  place_then : (j : ℕ) (s t : Placing ℕ) (b : ℕ) (l : List ℕ) (x : State ℕ) → place_step j s b ≡ some t → line_run (j + 1) (placing h t) l ≡ x
      → line_run j (placing h s) (b ∷ l) ≡ x
  place_then j s t b l x e f = line_cons j (placing h s) b l ∙ ap (λ z. line_run (j + 1) z l) (place_on j s t b e) ∙ f

  -- what is owed of a terminus
  owed_run : (j : ℕ) (ps : List (Place ℕ)) (p : Place ℕ) (w t : List ℕ) → same_folded w t ≡ true → line_run j (placing h (owed ps p w)) t ≡ placing h (placed ps p)
  unfolding same_folded place_step
  owed_run j ps p [] [] e = line_nil j (placing h (placed ps p))
  owed_run j ps p [] (b ∷ t) e = absurd (false≢true e)
  owed_run j ps p (x ∷ w) [] e = absurd (false≢true e)
  owed_run j ps p (x ∷ w) (b ∷ t) e =
      place_then j (owing ps p x w) (owed ps p w) b t _ (pick_true (eqb (upper x) (upper b)) _ _ (and_left (eqb (upper x) (upper b)) _ e))
      (owed_run (j + 1) ps p w t (and_right (eqb (upper x) (upper b)) _ e))

  letter_run : (j : ℕ) (ps : List (Place ℕ)) (b : ℕ) → is_letter b ≡ true → place_step j (expected ps) b ≡ some (placed ps (record { site = upper b; at = j }))
  unfolding place_step
  letter_run j ps b e = pick_true (is_letter b) _ _ e

  dash_run : (j : ℕ) (ps : List (Place ℕ)) (c s at : ℕ) → terminus_of c ≡ some s
      → place_step j (placed ps (record { site = c; at = at })) dash ≡ some (owed ps (record { site = s; at = at }) (bytes "term"))
  unfolding place_step
  dash_run j ps c s at e = ap (λ o. given o (λ z. some (owed ps (record { site = z; at = at }) (bytes "term"))) none) e

  -- the word, its first letter c
  word_run : (j : ℕ) (ps : List (Place ℕ)) (c s : ℕ) (w : List ℕ) → Worded c s → same_folded (c ∷ dash ∷ bytes "term") w ≡ true
      → line_run j (placing h (expected ps)) w ≡ placing h (placed ps (record { site = s; at = j }))
  unfolding same_folded
  word_run j ps c s [] v e = absurd (false≢true e)
  word_run j ps c s (b ∷ []) v e = absurd (false≢true (and_right (eqb (upper c) (upper b)) _ e))
  word_run j ps c s (b ∷ d ∷ t) v e =
      let first : c ≡ upper b = sym v.folded ∙ eqb-true (upper c) (upper b) (and_left (eqb (upper c) (upper b)) _ e) in
      let more = and_right (eqb (upper c) (upper b)) _ e in
      let second : d ≡ dash = folded_dash d (sym (eqb-true (upper dash) (upper d) (and_left (eqb (upper dash) (upper d)) _ more)) ∙ dash_upper) in
      let is-letter : is_letter b ≡ true = folded_letter b (subst (λ z. is_letter z ≡ true) first v.letter) in
      place_then j (expected ps) (placed ps (record { site = upper b; at = j })) b (d ∷ t) _ (letter_run j ps b is-letter)
      (place_then (j + 1) (placed ps (record { site = upper b; at = j })) (owed ps (record { site = s; at = j }) (bytes "term")) d t _
      (ap (place_step (j + 1) (placed ps (record { site = upper b; at = j }))) second ∙ dash_run (j + 1) ps (upper b) s j (ap terminus_of (sym first) ∙ v.names))
      (owed_run (j + 1 + 1) ps (record { site = s; at = j }) (bytes "term") t (and_right (eqb (upper dash) (upper d)) _ more)))

  target_run : (j : ℕ) (ps : List (Place ℕ)) (x : Target) → good_target x ≡ true → line_run j (placing h (expected ps)) (print_target x) ≡ placing h (placed ps (means_target j x))
  target_run j ps (a_letter b) g = place_then j (expected ps) _ b [] _ (letter_run j ps b g) (line_nil (j + 1) _)
  target_run j ps (a_terminus s w) g =
      ⊎_elim
      (λ e. let z : n_terminus ≡ s = sym (eqb-true s n_terminus e) in
      subst (λ u. line_run j (placing h (expected ps)) w ≡ placing h (placed ps (record { site = u; at = j }))) z (word_run j ps 78 n_terminus w n_worded (subst (λ u. same_folded (site_text u) w ≡ true) (sym z) spelled)))
      (λ e. let z : c_terminus ≡ s = sym (eqb-true s c_terminus e) in
      subst (λ u. line_run j (placing h (expected ps)) w ≡ placing h (placed ps (record { site = u; at = j }))) z (word_run j ps 67 c_terminus w c_worded (subst (λ u. same_folded (site_text u) w ≡ true) (sym z) spelled)))
      (one_of (eqb s n_terminus) (eqb s c_terminus) (and_left (is_terminus s) _ g))
    where
      spelled : same_folded (site_text s) w ≡ true
      spelled = and_right (is_terminus s) _ g

-- the places l mean ms; ps are read before them
pub record TargetsRead (h : Held ℕ) (j : ℕ) (ps : List (Place ℕ)) (l : List ℕ) (ms : List (Place ℕ)) : Type 0 where
  pub before : List (Place ℕ)
  pub last : Place ℕ
  pub path : line_run j (placing h (expected ps)) l ≡ placing h (placed before last)
  pub all : before ++ (last ∷ []) ≡ ps ++ ms

pub targets_run : (h : Held ℕ) (j : ℕ) (ps : List (Place ℕ)) (xs : List Target) (x : Target) → every good_target (x ∷ xs) ≡ true
    → TargetsRead h j ps (print_targets x xs) (means_targets j x xs)
unfolding print_targets means_targets every place_step
targets_run h j ps [] x g = record { before = ps; last = means_target j x; path = target_run h j ps x (and_left (good_target x) _ g); all = refl }
targets_run h j ps (y ∷ xs) x g =
    let q = targets_run h (j + length (print_target x) + 1) (ps ++ (means_target j x ∷ [])) xs y (and_right (good_target x) _ g) in
    record {
      before = q.before;
      last = q.last;
      path =
          line_further j (print_target x) (comma ∷ print_targets y xs) _ _ _ (target_run h j ps x (and_left (good_target x) _ g))
          (place_then h (j + length (print_target x)) (placed ps (means_target j x)) (expected (ps ++ (means_target j x ∷ []))) comma (print_targets y xs) _ refl q.path);
      all = q.all ∙ append_assoc ps (means_target j x ∷ []) _;
    }

-- `>` behind them
pub targets_over : (h : Held ℕ) (j : ℕ) (ps : List (Place ℕ)) (p : Place ℕ) → line_run j (placing h (placed ps p)) (shut_angle ∷ []) ≡ outside Front (with_places (ps ++ (p ∷ [])) h)
unfolding step place_step places_end perform act
targets_over h j ps p = line_cons j (placing h (placed ps p)) shut_angle [] ∙ line_nil (j + 1) _
