-- The loop over the brackets of a line, each behind those before it; with what stands in front of the rows, and zeros behind all, the areas are those of the line.
use mathlib.Core.Path.{◌≡◌, refl, sym, ap, ap₂, subst, ◌∙◌}
use mathlib.Core.Bool.{Bool, true, false, ◌&&◌, false≢true}
use mathlib.Core.List.{List, [], ◌∷◌, ◌++◌, map}
use Prim.Native.Nat.{ℕ, ◌+◌, ◌-◌, ◌*◌, ◌≤◌, ◌<◌}
use native.Mathlib.Nat.{zero-add}
use native.Mathlib.Omega.{arith}
use lib.IntN.{ℤ, pos}
use lib.ListN.{length, take, drop, length-map}
use Rattle.scope.specs.Limits.{line_limit, residue_limit, bracket_limit, part_limit, place_limit}
use Rattle.scope.specs.Line.{Bracket, Line}
use Rattle.scope.specs.Lists.{flat, padded, same}
use Rattle.scope.specs.Refusals.{outcome}
use Rattle.scope.specs.Layout.{bytes_size, numbers_size, row_size, number_row_size, residues_at, letters_at, sections_at, rows_at, texts_at, row_at, mass_at, section_code, bracket_row, bracket_texts, rows, counts_row, bytes_of, number_row, numbers_of}
use Rattle.scope.specs.Answers.{same_numbers, reads_to}
use Rattle.basics.specs.Tests.{both_of, both, same_test}
use Rattle.basics.specs.Lists.{same_law}
use Rattle.accepted_laws.specs.Within.{Within}
use Rattle.layout_laws.specs.At.{At, at_part}
use Rattle.layout_laws.proofs.Same.{begins_with}
use Rattle.layout_laws.proofs.LayoutLaws.{padded_length, bracket_row_length, number_row_length, rows_length, number_rows_length, bytes_length, numbers_length}
use Rattle.layout_laws.proofs.Laws.{same_numbers_law}
use Rattle.sheet.specs.declared.Sheet.{Sheet}
use Rattle.sheet.specs.Kept.{LineNoted}
use Rattle.sheet.proofs.FieldLaws.{Among, among}
use Rattle.store.specs.BracketPut.{BracketNoted}
use Rattle.store.proofs.NotedLine.{is_accepted, within, residues_many, brackets_many, letters_are, sections_are, bracket_noted}
use Rattle.std.specs.Prelude.{Some}
use Rattle.held.specs.Tells.{Tells}
use Rattle.held.specs.Held.{FrontHeld, HeldFrom, BracketThere, BracketHeld, BracketSeen, RestHeld}
use Rattle.held.proofs.Joins.{tells_as, tells_not, Joins}
use Rattle.held.proofs.Places.{at_nil, at_joins, at_padded}
use Rattle.held.proofs.Upto.{held_joins, HeldUpto, upto_start, upto_room, upto_next, upto_stops, upto_texts, upto_end}

-- ---- the brackets from k on, their texts behind t others
abbrev pub BracketsHeld : List ℕ → List ℤ → ℕ → ℕ → List (Bracket ℕ) → Type 0
BracketsHeld bytes numbers k t ks = HeldFrom bytes numbers (row_at k) t (mass_at k 0) (rows t ks) (flat bracket_texts ks) (flat number_row ks)

module _ (bytes : List ℕ) (numbers : List ℤ) (k t : ℕ) where
  no_brackets : BracketsHeld bytes numbers k t []
  unfolding rows flat
  no_brackets = record { rows_at_is = at_nil bytes (row_at k); texts_at_lem = at_nil bytes (texts_at + t); masses_at = at_nil numbers (mass_at k 0) }

  brackets_joins : (b : Bracket ℕ) (ks : List (Bracket ℕ)) (u : ℕ) → length b.parts ≤ part_limit → length b.places ≤ place_limit → u ≡ t + length (bracket_texts b)
      → Joins (BracketHeld k t b bytes numbers) (BracketsHeld bytes numbers (k + 1) u ks) (BracketsHeld bytes numbers k t (b ∷ ks))
  unfolding rows flat
  brackets_joins b ks u few few-ps e =
      let r = bracket_row_length t b few few-ps in
      let n = number_row_length b few in
      subst (λ v. Joins (BracketHeld k t b bytes numbers) (BracketsHeld bytes numbers (k + 1) v ks) (BracketsHeld bytes numbers k t (b ∷ ks))) (sym e)
      (held_joins bytes numbers (row_at k) t (mass_at k 0) (row_at (k + 1)) (t + length (bracket_texts b)) (mass_at (k + 1) 0) (bracket_row t b) (bracket_texts b) (number_row b)
      (rows (t + length (bracket_texts b)) ks) (flat bracket_texts ks) (flat number_row ks) (omega arith) refl (omega arith))

-- ---- a line is what stands in front of its rows, its brackets, and zeros behind all
abbrev counts : Line ℕ → List ℕ
counts l = counts_row (length l.residues) (length l.brackets)

abbrev letters_of_lem : Line ℕ → List ℕ
letters_of_lem l = map (λ r. r.letter) l.residues

abbrev sections_of_lem : Line ℕ → List ℕ
sections_of_lem l = map (λ r. section_code r.section) l.residues

module _ (l : Line ℕ) (w : Within l) (bytes : List ℕ) (numbers : List ℤ) where
  line_joins : Joins (FrontHeld (counts l) (letters_of_lem l) (sections_of_lem l) bytes × BracketsHeld bytes numbers 0 0 l.brackets) (RestHeld (length l.brackets) (length (flat bracket_texts l.brackets)) bytes numbers)
      (At bytes 0 (bytes_of l) × At numbers 0 (numbers_of l))
  unfolding bytes_of numbers_of
  line_joins =
      let ks = l.brackets in
      let n = length ks in
      let t = length (flat bracket_texts ks) in
      let few = w.few_brackets_lem in
      let few_residues = w.few_residues in
      let ll = length-map l.residues (λ r. r.letter) in
      let ls = length-map l.residues (λ r. section_code r.section) in
      let lr = rows_length (length l.residues) 0 ks w.brackets in
      let ln = number_rows_length (length l.residues) ks w.brackets in
      let letters = padded 0 residue_limit (letters_of_lem l) in
      let sections = padded 0 residue_limit (sections_of_lem l) in
      let brackets = padded 0 (bracket_limit * row_size) (rows 0 ks) in
      let texts = padded 0 line_limit (flat bracket_texts ks) in
      let x1 = at_joins bytes residues_at letters_at (counts l) (letters ++ (sections ++ (brackets ++ texts))) refl in
      let x2 = at_joins bytes letters_at sections_at letters (sections ++ (brackets ++ texts)) (omega (arith, padded_length 0 residue_limit (letters_of_lem l) (omega arith))) in
      let x3 = at_joins bytes sections_at rows_at sections (brackets ++ texts) (omega (arith, padded_length 0 residue_limit (sections_of_lem l) (omega arith))) in
      let x4 = at_joins bytes rows_at texts_at brackets texts (omega (arith, padded_length 0 (bracket_limit * row_size) (rows 0 ks) (omega arith))) in
      let r = at_padded bytes 0 (bracket_limit * row_size) rows_at (row_at n) ((bracket_limit - n) * row_size) (rows 0 ks) (omega arith) (omega arith) in
      let x = at_padded bytes 0 line_limit texts_at (texts_at + t) (line_limit - t) (flat bracket_texts ks) refl refl in
      let m = at_padded numbers (pos 0) numbers_size 0 (n * number_row_size) ((bracket_limit - n) * number_row_size) (flat number_row ks) (omega arith) (omega arith) in
      record {
        on = λ p z.
            let f = p.0 in
            let b = p.1 in (
              x1.on f.counts_at (x2.on f.letters_at_is (x3.on f.sections_at_is (x4.on (r.on b.rows_at_is z.rows_at_is) (x.on b.texts_at_lem z.texts_at_lem)))),
              m.on b.masses_at z.masses_at,
            );
        back = λ h.
            let h1 = x1.back h.0 in
            let h2 = x2.back h1.1 in
            let h3 = x3.back h2.1 in
            let h4 = x4.back h3.1 in
            let hr = r.back h4.0 in
            let hx = x.back h4.1 in
            let hm = m.back h.1 in (
              (record { counts_at = h1.0; letters_at_is = h2.0; sections_at_is = h3.0 }, record { rows_at_is = hr.0; texts_at_lem = hx.0; masses_at = hm.0 }),
              record { rows_at_is = hr.1; texts_at_lem = hx.1; masses_at = hm.1 },
            );
      }

  -- where the areas begin with those of the line
  front_is : {A : Type 0} (n : ℕ) (m xs : List A) → length m ≡ n → At xs 0 m → m ≡ take n xs
  front_is n m xs e a = sym (at_part xs 0 m a) ∙ ap (λ k. take k xs) e

  front_at : {A : Type 0} (n : ℕ) (m xs : List A) → m ≡ take n xs → At xs 0 m
  front_at n m xs e = record { rest = drop n xs; is = begins_with n m xs (sym e) }

  told_same : {r : Bool} → Tells r (At bytes 0 (bytes_of l) × At numbers 0 (numbers_of l))
      → r ≡ (same (bytes_of l) (take bytes_size bytes) && same_numbers (numbers_of l) (take numbers_size numbers))
  told_same {r} v =
      let b = same_law (bytes_of l) (take bytes_size bytes) in
      let n = same_numbers_law (numbers_of l) (take numbers_size numbers) in
      same_test r _
      (λ e.
      let p = v.on e in
      both _ _ (b.1 (front_is bytes_size (bytes_of l) bytes (bytes_length l w) p.0)) (n.1 (front_is numbers_size (numbers_of l) numbers (numbers_length l w) p.1)))
      (λ e.
      let p = both_of (same (bytes_of l) (take bytes_size bytes)) (same_numbers (numbers_of l) (take numbers_size numbers)) e in
      v.back (front_at bytes_size (bytes_of l) bytes (b.0 p.0), front_at numbers_size (numbers_of l) numbers (n.0 p.1)))

-- ---- the loop, over the brackets of the line that is noted
pub record HoldingBrackets (line : List ℕ) (sheet : Sheet) (residues brackets : ℕ) (bytes : List ℕ) (numbers : List ℤ) (k t : ℕ) : Type 0 where
  pub holds_line : Line ℕ
  pub noted : LineNoted line sheet residues brackets holds_line
  pub few : k ≤ brackets
  pub upto : HeldUpto (BracketsHeld bytes numbers) bracket_texts 0 holds_line.brackets k t

pub front_fits : {line : List ℕ} {sheet : Sheet} {residues brackets : ℕ} {l : Line ℕ}
    → LineNoted line sheet residues brackets l → (residues ≤ residue_limit) × (brackets ≤ bracket_limit)
front_fits w = (omega (arith, residues_many w, (within w).few_residues), omega (arith, brackets_many w, (within w).few_brackets_lem))

-- what tells whether the areas hold a line that is noted, tells whether it reads to them
line_told : {line : List ℕ} {sheet : Sheet} {residues brackets : ℕ} {l : Line ℕ} (w : LineNoted line sheet residues brackets l) (bytes : List ℕ) (numbers : List ℤ) {r : Bool}
    → Tells r (At bytes 0 (bytes_of l) × At numbers 0 (numbers_of l)) → r ≡ reads_to (outcome line) (take bytes_size bytes) (take numbers_size numbers)
line_told {l = l} w bytes numbers v =
    told_same l (within w) bytes numbers v ∙ ap (λ o. reads_to o (take bytes_size bytes) (take numbers_size numbers)) (sym (is_accepted w))

-- with what stands in front of the rows
module _ {line : List ℕ} {sheet : Sheet} {residues brackets : ℕ} {l : Line ℕ} {first : Bool} (w : LineNoted line sheet residues brackets l) (bytes : List ℕ)
    (front : Tells first (FrontHeld (counts_row residues brackets) (take residues sheet.letters) (take residues sheet.sections) bytes)) where
  front_told : Tells first (FrontHeld (counts l) (letters_of_lem l) (sections_of_lem l) bytes)
  front_told =
      let counts_are : counts_row residues brackets ≡ counts l = ap₂ counts_row (residues_many w) (brackets_many w) in
      rw (counts_are, letters_are w, sections_are w) at front

  pub front_stops : (numbers : List ℤ) → first ≡ false → false ≡ reads_to (outcome line) (take bytes_size bytes) (take numbers_size numbers)
  front_stops numbers e =
      line_told w bytes numbers (record { on = λ q. absurd (false≢true q); back = λ z. absurd (tells_not front_told e ((line_joins l (within w) bytes numbers).back z).0.0) })

module _ {line : List ℕ} {sheet : Sheet} {residues brackets : ℕ} {bytes : List ℕ} {numbers : List ℤ} where
  pub bracketing_start : {l : Line ℕ} → LineNoted line sheet residues brackets l → HoldingBrackets line sheet residues brackets bytes numbers 0 0
  bracketing_start {l} w = record { holds_line = l; noted = w; few = omega arith; upto = upto_start }

  module _ {k t : ℕ} (v : HoldingBrackets line sheet residues brackets bytes numbers k t) where
    abbrev l : Line ℕ
    l = v.holds_line

    module _ (h : k < brackets) where
      next : Among l.brackets k
      next = among l.brackets k (omega (arith, brackets_many v.noted))

      next_there : BracketThere line sheet.heads sheet.parts sheet.masses sheet.scores k t next.this
      next_there =
          let w = v.noted in
          record {
            residues = length l.residues;
            noted = subst (λ i. BracketNoted line sheet.heads sheet.parts sheet.masses sheet.scores (length l.residues) i next.this) (sym next.place) (bracket_noted w next.before next.this next.behind next.is);
            few_brackets_lem = omega (arith, brackets_many w, (within w).few_brackets_lem);
            texts_room = omega (arith, upto_room v.upto next, (within w).texts);
          }

      pub bracketing_fits : (b : Bracket ℕ) × BracketThere line sheet.heads sheet.parts sheet.masses sheet.scores k t b
      bracketing_fits = (next.this, next_there)

      joins : (u : ℕ) → u ≡ t + length (bracket_texts next.this) → Joins (BracketHeld k t next.this bytes numbers) (BracketsHeld bytes numbers (k + 1) u next.behind) (BracketsHeld bytes numbers k t (next.this ∷ next.behind))
      joins u e = brackets_joins bytes numbers k t next.this next.behind u next_there.noted.within.few_parts_lem next_there.noted.within.few_places e

      pub bracketing_next : {u : ℕ} → ((b : Bracket ℕ) → BracketThere line sheet.heads sheet.parts sheet.masses sheet.scores k t b → BracketSeen k t b bytes numbers (Some u))
          → HoldingBrackets line sheet residues brackets bytes numbers (k + 1) u
      bracketing_next {u} told =
          let q = told next.this next_there in
          record { holds_line = l; noted = v.noted; few = omega arith; upto = upto_next v.upto next q.0 (joins u q.0) q.1 }

      pub bracketing_stops : ((b : Bracket ℕ) → BracketThere line sheet.heads sheet.parts sheet.masses sheet.scores k t b → BracketHeld k t b bytes numbers → ⊥)
          → false ≡ reads_to (outcome line) (take bytes_size bytes) (take numbers_size numbers)
      bracketing_stops told =
          line_told v.noted bytes numbers
          (record {
            on = λ q. absurd (false≢true q);
            back = λ z. absurd (upto_stops v.upto next (joins _ refl) (told next.this next_there) ((line_joins l (within v.noted) bytes numbers).back z).0.1);
          })

    module _ (all : brackets ≤ k) where
      passed : k ≡ length l.brackets
      passed = omega (arith, v.few, brackets_many v.noted)

      texts_are : t ≡ length (flat bracket_texts l.brackets)
      texts_are = upto_texts v.upto passed ∙ zero-add (length (flat bracket_texts l.brackets))

      pub rest_fits : (brackets ≤ bracket_limit) × (t ≤ line_limit)
      rest_fits =
          let w = v.noted in
          (omega (arith, brackets_many w, (within w).few_brackets_lem), omega (arith, texts_are, (within w).texts))

      pub bracketing_end : {first r : Bool} → Tells first (FrontHeld (counts_row residues brackets) (take residues sheet.letters) (take residues sheet.sections) bytes) → first ≡ true
          → Tells r (RestHeld brackets t bytes numbers) → r ≡ reads_to (outcome line) (take bytes_size bytes) (take numbers_size numbers)
      bracketing_end front e rest =
          let w = v.noted in
          let j = line_joins l (within w) bytes numbers in
          let held = upto_end v.upto passed (no_brackets bytes numbers k t) in
          line_told w bytes numbers (tells_as (λ q. j.on ((front_told w bytes front).on e, held) q) (λ z. (j.back z).1) (rw (brackets_many w, texts_are) at rest))
