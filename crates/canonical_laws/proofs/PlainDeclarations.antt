-- Declarations in their plain spelling: their brackets as brackets are, and their places, one behind another.
use Rattle.std.specs.Prelude.{ℕ, ◌+◌, ◌≤◌, ◌≡◌, refl, true, false, List, [], ◌∷◌, ◌++◌, map, eqb, length}
use Rattle.std.proofs.Common.{arith, sym, ap, ap₂, ◌∙◌}
use Rattle.std.proofs.Math.Option.{none}
use Rattle.scope.specs.declared.grammar.Kind.TheVariants.{Declared}
use Rattle.scope.specs.Bytes.{upper, open_square, shut_square, open_angle, shut_angle, at_sign, comma}
use Rattle.scope.specs.Canonical.{declared_text}
use Rattle.scope.specs.Grammar.{good_inside, print_square, along, bracket_at, Target, a_letter, a_terminus, print_target, good_target, site_of, means_target, print_targets, means_targets, Declaration, print_declaration, good_declaration, means_declaration}
use Rattle.scope.specs.Line.{Place, Part, Bracket}
use Rattle.scope.specs.Lists.{all}
use Rattle.scope.specs.Places.{n_terminus, c_terminus, is_terminus, site_text, places_text}
use Rattle.scope.specs.Tables.{bare_place}
use Rattle.basics.specs.Choice.{pick_false}
use Rattle.basics.specs.Each.{Each}
use Rattle.basics.specs.Lists.{folded_length}
use Rattle.basics.specs.Tests.{and_left, and_right, both, letter_not}
use Rattle.canonical_laws.proofs.Endings.{On}
use Rattle.canonical_laws.proofs.PlainBrackets.{Fits, shorter, Sort, Plain, Plains, all_plain, each_along_lem, boxes, boxed}
use Rattle.canonical_laws.proofs.PlainParts.{folded_self}
use Rattle.canonical_laws.proofs.PlainSequence.{upper_twice, upper_letter}
use Rattle.canonical_laws.specs.Plainly.{plain_inside, plain_target, plain_declaration}
use Rattle.canonical_laws.proofs.Short.{short_bracket}

-- ---- one place
target_good : (x : Target) → good_target x ≡ true → good_target (plain_target x) ≡ true
target_good (a_letter b) g = upper_letter b g
target_good (a_terminus s w) g = both (is_terminus s) _ (and_left (is_terminus s) _ g) (folded_self (site_text s))

target_text : (x : Target) → good_target x ≡ true → site_text (site_of x) ≡ print_target (plain_target x)
target_text (a_letter b) g =
    let letter = upper_letter b g in
    pick_false (eqb (upper b) n_terminus) _ _ (letter_not (upper b) n_terminus letter refl) ∙ pick_false (eqb (upper b) c_terminus) _ _ (letter_not (upper b) c_terminus letter refl)
target_text (a_terminus s w) g = refl

target_site : (x : Target) → site_of (plain_target x) ≡ site_of x
target_site (a_letter b) = upper_twice b
target_site (a_terminus s w) = refl

target_short : (x : Target) → good_target x ≡ true → length (print_target (plain_target x)) ≤ length (print_target x)
target_short (a_letter b) g = omega arith
target_short (a_terminus s w) g = omega (arith, folded_length (site_text s) w (and_right (is_terminus s) _ g))

-- ---- places one behind another
targets_good : (xs : List Target) → all good_target xs ≡ true → all good_target (map plain_target xs) ≡ true
unfolding all
targets_good [] g = refl
targets_good (x ∷ xs) g = both (good_target (plain_target x)) _ (target_good x (and_left (good_target x) _ g)) (targets_good xs (and_right (good_target x) _ g))

targets_text : (i : ℕ) (xs : List Target) (x : Target) → all good_target (x ∷ xs) ≡ true → places_text (means_targets i x xs) ≡ print_targets (plain_target x) (map plain_target xs)
unfolding all means_targets places_text print_targets
targets_text i [] x g = target_text x (and_left (good_target x) _ g)
targets_text i (y ∷ xs) x g = head i x y xs ∙ ap₂ (λ a l. a ++ (comma ∷ l)) (target_text x (and_left (good_target x) _ g)) (targets_text (i + length (print_target x) + 1) xs y (and_right (good_target x) _ g))
  where
    head : (i : ℕ) (x y : Target) (xs : List Target) → places_text (means_target i x ∷ means_targets (i + length (print_target x) + 1) y xs)
        ≡ site_text (site_of x) ++ (comma ∷ places_text (means_targets (i + length (print_target x) + 1) y xs))
    head i x y [] = refl
    head i x y (z ∷ xs) = refl

targets_same : (i j : ℕ) (xs : List Target) (x : Target) → map bare_place (means_targets j (plain_target x) (map plain_target xs)) ≡ map bare_place (means_targets i x xs)
unfolding means_targets
targets_same i j [] x = ap (λ s. record { site = s; at = tt } ∷ []) (target_site x)
targets_same i j (y ∷ xs) x = ap₂ (λ s l. record { site = s; at = tt } ∷ l) (target_site x) (targets_same (i + length (print_target x) + 1) (j + length (print_target (plain_target x)) + 1) xs y)

targets_short : (xs : List Target) (x : Target) → all good_target (x ∷ xs) ≡ true → length (print_targets (plain_target x) (map plain_target xs)) ≤ length (print_targets x xs)
unfolding all print_targets
targets_short [] x g = target_short x (and_left (good_target x) _ g)
targets_short (y ∷ xs) x g =
    let more = targets_short xs y (and_right (good_target x) _ g) in
    shorter (print_target (plain_target x)) (print_target x) (comma ∷ print_targets (plain_target y) (map plain_target xs)) (comma ∷ print_targets y xs)
    (target_short x (and_left (good_target x) _ g)) (omega arith)

-- ---- a declaration
abbrev pub declared : Sort Declaration
declared = record { prints = print_declaration; means = means_declaration; good = good_declaration; plain = plain_declaration; text = declared_text }

abbrev with_places : List (Part (Unit {0})) → List (Place (Unit {0})) → Bracket (Unit {0})
with_places qs ps = record { kind = Declared; first = 0; last = 0; count = 1; counted = none; parts = qs; places = ps; at = tt }

declared_plain : (i : ℕ) (d : Declaration) → good_declaration d ≡ true → Fits (means_declaration i d) → Plain declared (short_bracket (means_declaration i d)) d
unfolding all
declared_plain i d g n =
    let x = d.inside in
    let at = i + 1 + length (print_square x) + 1 in
    let targets = and_right (good_inside false false x) _ g in
    let box : Plain (boxes open_square shut_square false false Declared 0 0) (short_bracket (bracket_at Declared 0 0 (i + 1) x)) x = boxed open_square shut_square false false Declared 0 0 (i + 1) x (and_left (good_inside false false x) _ g) n in
    record {
      fine = both _ _ box.fine (targets_good (d.first ∷ d.more) targets);
      says = ap₂ (λ s l. open_angle ∷ (s ++ (at_sign ∷ (l ++ (shut_angle ∷ []))))) box.says (targets_text at d.more d.first targets);
      same = λ j. (record { bare = ap₂ with_places (ap (λ (z : Bracket (Unit {0})). z.parts) (box.same (j + 1)).0.bare) (sym (targets_same at _ d.more d.first)); uncounted = λ e. refl }, tt);
      short =
          (let places = targets_short d.more d.first targets in
          let rest = shorter (print_targets (plain_target d.first) (map plain_target d.more)) (print_targets d.first d.more) (shut_angle ∷ []) (shut_angle ∷ []) places (omega arith) in
          let line = shorter (print_square (plain_inside x)) (print_square x) (at_sign ∷ (print_targets (plain_target d.first) (map plain_target d.more) ++ (shut_angle ∷ [])))
          (at_sign ∷ (print_targets d.first d.more ++ (shut_angle ∷ []))) box.short (omega arith) in
          omega arith);
    }

-- ---- all of a line
pub declarations_plain : (i : ℕ) (ds : List Declaration) → all good_declaration ds ≡ true → Each Fits (along print_declaration means_declaration i ds)
    → Plains declared (map short_bracket (along print_declaration means_declaration i ds)) ds
declarations_plain i ds = all_plain declared declared_plain i ds

pub declarations_on : (i : ℕ) (ds : List Declaration) → Each (On Declared 0) (along print_declaration means_declaration i ds)
declarations_on i ds = each_along_lem (On Declared 0) print_declaration means_declaration (λ j d. (refl, refl)) i ds
