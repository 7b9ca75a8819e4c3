-- Numbers put one behind another, as loops put them: the letters of residues and the codes of their sections; and the stage behind them.
use mathlib.Core.Path.{◌≡◌, refl, sym, ap, ap₂, ◌∙◌}
use mathlib.Core.List.{List, [], ◌∷◌, ◌++◌, map, map-append}
use Prim.Native.Nat.{ℕ, suc, ◌+◌, ◌-◌, ◌≤◌, ◌<◌}
use native.Mathlib.Omega.{arith}
use native.Mathlib.Numerals.{add-one}
use lib.ListN.{length, take, drop, get_or, set, replicate, length-map, length-drop, length-replicate, replicate-append-replicate}
use lib.Seq.{sets, take-suc, get_or-drop, length-take-le}
use lib.Dec.{ltb}
use Rattle.scope.specs.declared.grammar.Section.{Section}
use Rattle.scope.specs.declared.grammar.Mode.{Mode}
use Rattle.scope.specs.Bytes.{is_letter, upper}
use Rattle.scope.specs.Layout.{section_code}
use Rattle.scope.specs.Limits.{residue_limit}
use Rattle.scope.specs.Lists.{part}
use Rattle.scope.specs.Refusals.{due_at}
use Rattle.classes.specs.Runs.{span}
use Rattle.dues.specs.Ranks.{code, lowest}
use Rattle.dues.specs.Lines.{over_rank}
use Rattle.walk.specs.declared.Stage.{Stage}
use Rattle.walk.specs.Steps.{behind, group_of, run_at, sections_of, with_run}

-- one more behind those that were put
sets_snoc : {A : Type 0} (l : List A) (i : ℕ) (vs : List A) (v : A) → set (sets l i vs) (i + length vs) v ≡ sets l i (vs ++ (v ∷ []))
sets_snoc l i [] v = let e : i + 0 ≡ i = omega arith in ap (λ n. set l n v) e
sets_snoc l i (w ∷ vs) v =
    let e : i + suc (length vs) ≡ suc i + length vs = omega arith in
    ap (λ n. set (sets (set l i w) (suc i) vs) n v) e ∙ sets_snoc (set l i w) (suc i) vs v

set_next : {A : Type 0} (l : List A) (i : ℕ) (vs : List A) (v : A) (j : ℕ) → j ≡ i + length vs → set (sets l i vs) j v ≡ sets l i (vs ++ (v ∷ []))
set_next l i vs v j e = ap (λ n. set (sets l i vs) n v) e ∙ sets_snoc l i vs v

-- ---- letters
-- the first i of m letters are put
pub record LettersPut (old : List ℕ) (n : ℕ) (line : List ℕ) (at m i : ℕ) (letters : List ℕ) : Type 0 where
  pub sofar : letters ≡ sets old n (map upper (part at i line))
  pub low : i ≤ m

pub letters_start : (old : List ℕ) (n : ℕ) (line : List ℕ) (at m : ℕ) → LettersPut old n line at m 0 old
letters_start old n line at m = record { sofar = refl; low = omega arith }

module _ {old : List ℕ} {n : ℕ} {line : List ℕ} {at m i : ℕ} {letters : List ℕ} (w : LettersPut old n line at m i letters) where
  pub letters_next : at + m ≤ length line → i < m → (b : ℕ) → b ≡ upper (get_or line (at + i) 0) → LettersPut old n line at m (i + 1) (set letters (n + i) b)
  letters_next h l b e =
      let room : i < length (drop at line) = omega (arith, length-drop at line) in
      let more : part at (i + 1) line ≡ part at i line ++ (get_or line (at + i) 0 ∷ []) =
      ap (λ k. take k (drop at line)) (add-one i) ∙ take-suc (drop at line) i 0 room ∙ ap (λ x. part at i line ++ (x ∷ [])) (get_or-drop at line i 0) in
      let long : i ≡ length (map upper (part at i line)) = sym (length-map (part at i line) upper ∙ length-take-le i (drop at line) (omega arith)) in
      record {
        sofar =
            ap₂ (λ x y. set x (n + i) y) w.sofar e
            ∙ set_next old n (map upper (part at i line)) (upper (get_or line (at + i) 0)) (n + i) (ap (λ k. n + k) long)
            ∙ ap (sets old n) (sym (map-append upper (part at i line) (get_or line (at + i) 0 ∷ [])) ∙ ap (map upper) (sym more));
        low = omega arith;
      }

  pub letters_end : m ≤ i → letters ≡ sets old n (map upper (part at m line))
  letters_end h = let e : i ≡ m = omega (arith, w.low) in w.sofar ∙ ap (λ k. sets old n (map upper (part at k line))) e

-- ---- sections
-- behind the first, those up to i are put
pub record SectionsPut (old : List ℕ) (n end next i : ℕ) (sections : List ℕ) : Type 0 where
  pub sofar : sections ≡ sets old (suc n) (replicate (i - n - 1) next)
  pub past : n < i
  pub low : i ≤ end

pub sections_start : (old : List ℕ) (n end next : ℕ) → n < end → SectionsPut old n end next (n + 1) old
sections_start old n end next h =
    let e : 0 ≡ n + 1 - n - 1 = omega arith in
    record { sofar = ap (λ k. sets old (suc n) (replicate k next)) e; past = omega arith; low = omega arith }

module _ {old : List ℕ} {n end next i : ℕ} {sections : List ℕ} (w : SectionsPut old n end next i sections) where
  pub sections_next : i < end → SectionsPut old n end next (i + 1) (set sections i next)
  sections_next h =
      let k : i ≡ suc n + length (replicate (i - n - 1) next) = omega (arith, length-replicate (i - n - 1) next, w.past) in
      let e : i - n - 1 + 1 ≡ i + 1 - n - 1 = omega (arith, w.past) in
      record {
        sofar =
            ap (λ x. set x i next) w.sofar
            ∙ set_next old (suc n) (replicate (i - n - 1) next) next i k
            ∙ ap (sets old (suc n)) (replicate-append-replicate (i - n - 1) 1 next ∙ ap (λ j. replicate j next) e);
        past = omega (arith, w.past);
        low = omega arith;
      }

  pub sections_end : end ≤ i → sections ≡ sets old (suc n) (replicate (end - n - 1) next)
  sections_end h = let e : i ≡ end = omega (arith, w.low) in w.sofar ∙ ap (λ k. sets old (suc n) (replicate (k - n - 1) next)) e

-- those of m residues
pub sections_of_lem : (old : List ℕ) (section next : Section) (n m a b : ℕ) → a ≡ section_code section → next ≡ behind section → b ≡ section_code next
    → sets old n (a ∷ replicate (n + m - n - 1) b) ≡ sets old n (sections_of section m)
sections_of_lem old section next n m a b e f g =
    let k : n + m - n - 1 ≡ m - 1 = omega arith in
    ap₂ (λ x y. sets old n (x ∷ replicate (n + m - n - 1) y)) e (g ∙ ap section_code f)
    ∙ ap (λ j. sets old n (section_code section ∷ replicate j (section_code (behind section)))) k

-- ---- the stage behind a residue and the letters behind it
module _ (line : List ℕ) (s : Stage) (section : Section) (mode : Mode) (end : ℕ) (ends : end ≡ s.at + 1 + span is_letter (drop (s.at + 1) line)) where
  pub run_count : end - s.at ≡ run_at line s.at
  run_count = omega arith

  pub run_stage : (room group least : ℕ) → room ≡ residue_limit - s.residues → group ≡ group_of section (s.residues + 1) (s.residues + (end - s.at)) s.group
      → least ≡ lowest s.least (map (code over_rank) (due_at (ltb residue_limit (s.residues + (end - s.at))) (s.at + room)))
      → ◌≡◌ {A = Stage} (record { at = end; mode = mode; residues = s.residues + (end - s.at); group = group; brackets = s.brackets; run = s.run; parts = s.parts; least = least })
      (with_run s section mode (run_at line s.at))
  run_stage room group least er eg el =
      let m = run_at line s.at in
      let at_end : end ≡ s.at + m = omega arith in
      let at_stage : ℕ → ℕ → ℕ → ℕ → Stage = λ i j g l. record { at = i; mode = mode; residues = s.residues + j; group = g; brackets = s.brackets; run = s.run; parts = s.parts; least = l } in
      let due : ℕ → ℕ → ℕ = λ j r. lowest s.least (map (code over_rank) (due_at (ltb residue_limit (s.residues + j)) (s.at + r))) in
      ap₂ (at_stage end (end - s.at)) eg (el ∙ ap (due (end - s.at)) er)
      ∙ ap₂ (λ i j. at_stage i j (group_of section (s.residues + 1) (s.residues + j) s.group) (due j (residue_limit - s.residues))) at_end run_count
