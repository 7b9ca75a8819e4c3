-- Where a modification is placed: at positions of the line, each once; and how often it counts: as often as it is placed, floats or is labile.
use Rattle.std.specs.Prelude.{◌≡◌, Bool, not, ◌&&◌, ◌||◌}
use Rattle.std.proofs.Math.Path.{refl, ap}
use Rattle.std.proofs.Common.{sym, ap₂, ◌∙◌, true≢false}
use Rattle.std.proofs.Math.Bool.{true, false, cond}
use mathlib.Core.List.{List, [], ◌∷◌}
use Prim.Native.Nat.{ℕ, ◌+◌, ◌≤◌, ◌<◌}
use native.Mathlib.Omega.{arith}
use Rattle.std.proofs.Math.ListN.{length}
use Rattle.scope.specs.declared.grammar.Kind.{Kind}
use Rattle.scope.specs.declared.grammar.Kind.TheVariants.{Unknown, Labile, OnRange, Declared}
use Rattle.scope.specs.Kinds.{is_unknown, is_labile, is_on_range, is_declared, on_one_position}
use Rattle.scope.specs.Line.{Bracket, Line}
use Rattle.scope.specs.Lists.{keep, member}
use Rattle.scope.specs.Modifications.{is_modification, is_labelled, unlabelled_copies, copies}
use Rattle.scope.specs.Placements.{distinct}
use Rattle.scope.specs.Positions.{sites, positions, names, reached, is_placed, placed_on}
use Rattle.scope.specs.Masses.{times}
use Rattle.basics.specs.Choice.{branch, by_test, pick_true, pick_false}
use Rattle.basics.specs.Each.{Each, each_keep, each_tabled}
use Rattle.basics.specs.Kinds.{is_kind_lem, other_kind, each_kind}
use Rattle.basics.specs.Lists.{kept_fewer}
use Rattle.basics.specs.Members.{member_in}
use Rattle.basics.specs.Positions.{sites_many}
use Rattle.basics.specs.Tabled.{length_tabled}
use Rattle.basics.specs.Tests.{both, falsely, or_first, or_second}
use Rattle.placement_laws.specs.Lines.{kept_rising}
use Rattle.placement_laws.specs.Terms.{Rising}
use Rattle.mass_laws.specs.Terms.{labelless, FairBracket}

-- numbers that rise are no two the same
rising_distinct : (l : List ℕ) → Rising l → distinct l ≡ true
unfolding distinct
rising_distinct [] r = refl
rising_distinct (x ∷ l) r = both (not (member x l)) (distinct l) (ap not (falsely (member x l) (λ e. let z = r.0 x (member_in x l e) in absurd (omega arith)))) (rising_distinct l r.1)

module _ {P : Type 0} (t : Line P) where
  reached_inside : (k : Bracket P) → Each (λ x. x < length t.residues + 2) (reached t k)
  unfolding reached
  reached_inside k =
      each_keep (λ x. x < length t.residues + 2) (names t k.places) (positions t)
      (each_tabled (λ x. x < length t.residues + 2) (λ x. x) 0 (length (sites t)) (λ x h. omega (arith, sites_many t)))

  reached_distinct : (k : Bracket P) → distinct (reached t k) ≡ true
  unfolding reached
  reached_distinct k = rising_distinct (keep (names t k.places) (positions t)) (kept_rising (names t k.places) 0 (length (sites t)))

  reached_few : (k : Bracket P) → length (reached t k) ≤ length t.residues + 2
  unfolding reached
  reached_few k = omega (arith, kept_fewer (names t k.places) (positions t), length_tabled (λ x. x) 0 (length (sites t)), sites_many t)

  -- ---- at positions of the line, each once
  pub placed_inside : (k : Bracket P) → k.first ≤ length t.residues + 1 → Each (λ x. x < length t.residues + 2) (placed_on t k)
  unfolding placed_on
  placed_inside k h =
      branch (Each (λ x. x < length t.residues + 2)) (is_declared k.kind && is_modification k) (reached_inside k)
      (branch (Each (λ x. x < length t.residues + 2)) (is_placed k) {x = k.first ∷ []} {y = []} (omega arith, tt) tt)

  pub placed_distinct : (k : Bracket P) → distinct (placed_on t k) ≡ true
  unfolding placed_on distinct member
  placed_distinct k =
      branch (λ l. distinct l ≡ true) (is_declared k.kind && is_modification k) (reached_distinct k)
      (branch (λ l. distinct l ≡ true) (is_placed k) {x = k.first ∷ []} {y = []} refl refl)

  pub placed_few : (k : Bracket P) → length (placed_on t k) ≤ length t.residues + 2
  unfolding placed_on
  placed_few k =
      branch Few (is_declared k.kind && is_modification k) (reached_few k) (branch Few (is_placed k) {x = k.first ∷ []} {y = []} (omega arith) (omega arith))
    where
      Few : List ℕ → Type 0
      Few l = length l ≤ length t.residues + 2

  -- ---- how often
  -- 1 of a labile modification
  abbrev pub labile_once : Kind → ℕ
  labile_once c = cond (is_labile c) 1 0

  placed_many : (k : Bracket P) → is_declared k.kind ≡ false → length (placed_on t k) ≡ cond (is_placed k) 1 0
  unfolding placed_on
  placed_many k e = ap length (pick_false (is_declared k.kind && is_modification k) (reached t k) _ (ap (λ d. d && is_modification k) e)) ∙ by (is_placed k)
    where
      by : (u : Bool) → length (cond u (k.first ∷ []) []) ≡ cond u 1 0
      by true = refl
      by false = refl

-- what floats, what is labile, what is declared, and what is placed by itself: a kind is one of these
one_of_five : (k : Kind) → (is_unknown k || is_on_range k || is_labile k || is_declared k || on_one_position k) ≡ true
one_of_five = each_kind (λ k. is_unknown k || is_on_range k || is_labile k || is_declared k || on_one_position k) refl

-- of an unlabelled modification that is not declared
unlabelled_by : (k : Kind) (c : ℕ) → is_declared k ≡ false → ((k ≡ Unknown → ⊥) → c ≡ 1) → c ≡ cond (on_one_position k) 1 0 + (unlabelled_copies k c + cond (is_labile k) 1 0)
unlabelled_by k c d s =
    by_test (is_unknown k) (λ e. rw (is_kind_lem Unknown k e) (omega arith))
    (λ e.
    let one = s (other_kind Unknown k e) in
    by_test (is_on_range k) (λ f. rw (is_kind_lem OnRange k f) (omega arith))
    (λ f.
    by_test (is_labile k) (λ g. rw (is_kind_lem Labile k g) (omega arith))
    (λ g. let p : on_one_position k ≡ true = rw (e, f, g, d) at (one_of_five k) in rw (e, f, g, p) (omega arith))))

-- a labelled one floats once, whatever its kind
labelled_by : (k : Kind) (c : ℕ) → is_labile k ≡ false → c ≡ 1 → c ≡ 0 + (1 + cond (is_labile k) 1 0)
labelled_by k c g e = rw g (omega arith)

counted_by : (l : Bool) (k : Kind) (c : ℕ) → is_declared k ≡ false → ((k ≡ Unknown → ⊥) → c ≡ 1) → (l ≡ true → c ≡ 1) → (labelless k ≡ true → l ≡ false)
    → c ≡ cond (not l && on_one_position k) 1 0 + (cond l 1 (unlabelled_copies k c) + cond (is_labile k) 1 0)
counted_by true k c d s u v = labelled_by k c (falsely (is_labile k) (λ e. true≢false (v (or_first (is_labile k) (is_declared k) e)))) (u refl)
counted_by false k c d s u v = unlabelled_by k c d s

declared_by : (l : Bool) (k : Kind) (q c : ℕ) → is_declared k ≡ true → l ≡ false → q ≡ q + (cond l 1 (unlabelled_copies k c) + cond (is_labile k) 1 0)
declared_by l k q c d e = rw (e, is_kind_lem Declared k d) (omega arith)

-- a modification counts as often as it is placed, as it floats, and once where it is labile
pub counts_where : {P : Type 0} (t : Line P) (n : ℕ) (k : Bracket P) → FairBracket n k → is_modification k ≡ true → times t k ≡ length (placed_on t k) + (copies k + labile_once t k.kind)
unfolding copies is_placed
counts_where t n k f m =
    by_test (is_declared k.kind)
    (λ d. pick_true (is_declared k.kind) (length (placed_on t k)) k.count d
    ∙ declared_by (is_labelled k) k.kind (length (placed_on t k)) k.count d (f.unlabelled (or_second (is_labile k.kind) (is_declared k.kind) d))
    ∙ ap (λ z. length (placed_on t k) + (z + labile_once t k.kind)) (sym (pick_true (is_modification k) _ 0 m)))
    (λ d. pick_false (is_declared k.kind) (length (placed_on t k)) k.count d
    ∙ counted_by (is_labelled k) k.kind k.count d f.single f.labelled_single f.unlabelled
    ∙ ap₂ (λ x y. x + (y + labile_once t k.kind))
    (sym (placed_many t k d ∙ ap (λ a. cond (a && not (is_labelled k) && on_one_position k.kind) 1 0) m)) (sym (pick_true (is_modification k) _ 0 m)))
