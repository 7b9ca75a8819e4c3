-- The areas of a line: zeros at the start, then counts, letters and sections, and with every bracket the line's tables.
use mathlib.Core.Path.{◌≡◌, refl, sym, ap, ap₂, subst, ◌∙◌}
use mathlib.Core.List.{List, [], ◌++◌, map, append_assoc}
use Prim.Native.Nat.{ℕ, ◌+◌, ◌*◌, ◌≤◌}
use native.Mathlib.Omega.{arith}
use lib.IntN.{ℤ}
use lib.ListN.{length, take, drop, replicate, length-append, length-map, take-append-drop, replicate-append-replicate}
use lib.Seq.{sets}
use Rattle.sheet.specs.declared.Sheet.{Sheet}
use Rattle.scope.specs.Limits.{line_limit, residue_limit, bracket_limit}
use Rattle.scope.specs.Line.{Bracket, Line}
use Rattle.scope.specs.Lists.{flat, padded}
use Rattle.scope.specs.Refusals.{outcome, accepted}
use Rattle.scope.specs.Layout.{row_size, residues_at, letters_at, sections_at, bytes_size, numbers_size, section_code, bracket_texts, rows, counts_row, bytes_of, numbers_of}
use Rattle.accepted_laws.specs.Within.{Within}
use Rattle.layout_laws.proofs.LayoutLaws.{padded_length, bytes_length, numbers_length}
use Rattle.sheet.proofs.RowLaws.{sets_in}
use Rattle.store.specs.Areas.{front_with, area_with, Pieces, AreasAre}
use Rattle.store.specs.BracketPut.{BracketsFit, SomeBracketsFit, BracketsPut}
use Rattle.store.specs.Filled.{front_put, Clean, Fills, FilledAll}
use Rattle.store.proofs.AreaLaws.{store_end}
use Rattle.store.proofs.NotedLine.{is_accepted, within, residues_many, brackets_many, letters_are, sections_are, bracket_noted}

-- ---- the areas before anything is put
zero_pieces : {A : Type 0} (z : A) (x r : List A) (a b c d n : ℕ) → x ≡ replicate a z → a + (b + (b + (c + d))) ≡ n
    → replicate n z ++ r ≡ x ++ (replicate b z ++ (replicate b z ++ (replicate c z ++ (replicate d z ++ r))))
zero_pieces z x r a b c d n e f =
    ap (λ k. replicate k z ++ r) (sym f)
    ∙ ap (λ y. y ++ r)
    (sym (replicate-append-replicate a (b + (b + (c + d))) z)
    ∙ ap (λ y. replicate a z ++ y)
    (sym (replicate-append-replicate b (b + (c + d)) z)
    ∙ ap (λ y. replicate b z ++ y) (sym (replicate-append-replicate b (c + d) z) ∙ ap (λ y. replicate b z ++ y) (sym (replicate-append-replicate c d z)))))
    ∙ ap (λ y. (y ++ (replicate b z ++ (replicate b z ++ (replicate c z ++ replicate d z)))) ++ r) (sym e)
    ∙ regroup x (replicate b z) (replicate b z) (replicate c z) (replicate d z) r
  where
    regroup : {A : Type 0} (x b c d e r : List A) → (x ++ (b ++ (c ++ (d ++ e)))) ++ r ≡ x ++ (b ++ (c ++ (d ++ (e ++ r))))
    regroup x b c d e r = simp append_assoc

-- the room of the rows and of the texts, and what is past it
abbrev behind : List ℕ → List ℕ
behind past = padded 0 (bracket_limit * row_size) [] ++ (padded 0 line_limit [] ++ past)

-- counts, letters and sections put into zeros
front_zero : (counts letters sections past : List ℕ) → length counts ≡ letters_at → length letters ≤ residue_limit → length sections ≤ residue_limit
    → sets (sets (sets (counts_row 0 0 ++ (padded 0 residue_limit [] ++ (padded 0 residue_limit [] ++ behind past))) residues_at counts) letters_at letters) sections_at sections
    ≡ area_with (front_with counts letters sections) [] [] past
front_zero counts letters sections past e h k =
    let p = padded_length 0 residue_limit letters h in
    let q = length-append counts (padded 0 residue_limit letters) in
    ap (λ x. sets (sets x letters_at letters) sections_at sections) (sets_in [] (counts_row 0 0) (padded 0 residue_limit [] ++ (padded 0 residue_limit [] ++ behind past)) counts residues_at refl (sym e))
    ∙ ap (λ x. sets x sections_at sections) (store_end 0 residue_limit counts [] (padded 0 residue_limit [] ++ behind past) letters letters_at (omega arith) (omega arith))
    ∙ ap (λ x. sets x sections_at sections) (sym (append_assoc counts (padded 0 residue_limit letters) (padded 0 residue_limit [] ++ behind past)))
    ∙ store_end 0 residue_limit (counts ++ padded 0 residue_limit letters) [] (behind past) sections sections_at (omega arith) (omega arith)
    ∙ regroup counts (padded 0 residue_limit letters) (padded 0 residue_limit sections) (behind past)
  where
    regroup : (a b c d : List ℕ) → (a ++ b) ++ (c ++ d) ≡ (a ++ (b ++ c)) ++ d
    regroup a b c d = simp append_assoc

-- ---- the line's tables
module _ (l : Line ℕ) (old : List ℕ) (old_numbers : List ℤ) where
  abbrev counts : List ℕ
  counts = counts_row (length l.residues) (length l.brackets)

  abbrev letters_of_lem : List ℕ
  letters_of_lem = map (λ r. r.letter) l.residues

  abbrev sections_of_lem : List ℕ
  sections_of_lem = map (λ r. section_code r.section) l.residues

  -- no bracket yet
  abbrev pub begun : Pieces
  begun =
      record { front = front_with counts letters_of_lem sections_of_lem; rows = []; texts = []; past = drop bytes_size old; masses = []; beyond = drop numbers_size old_numbers }

  pub begins : {bytes : List ℕ} → Within l → Clean old old_numbers → bytes ≡ sets (sets (sets old residues_at counts) letters_at letters_of_lem) sections_at sections_of_lem
      → AreasAre begun 0 0 0 bytes old_numbers
  begins w z e =
      let ll = length-map l.residues (λ r. r.letter) in
      let ls = length-map l.residues (λ r. section_code r.section) in
      let few = w.few_residues in
      let p = padded_length 0 residue_limit letters_of_lem (omega arith) in
      let q = padded_length 0 residue_limit sections_of_lem (omega arith) in
      let zeros : old ≡ counts_row 0 0 ++ (padded 0 residue_limit [] ++ (padded 0 residue_limit [] ++ behind (drop bytes_size old))) =
      sym (take-append-drop bytes_size old)
      ∙ ap (λ x. x ++ drop bytes_size old) z.bytes_zero
      ∙ zero_pieces 0 (counts_row 0 0) (drop bytes_size old) letters_at residue_limit (bracket_limit * row_size) line_limit bytes_size refl refl in
      record {
        front_long = omega (arith, length-append (padded 0 residue_limit letters_of_lem) (padded 0 residue_limit sections_of_lem));
        rows_long = refl;
        texts_long = refl;
        masses_long = refl;
        bytes_are =
            e
            ∙ ap (λ x. sets (sets (sets x residues_at counts) letters_at letters_of_lem) sections_at sections_of_lem) zeros
            ∙ front_zero counts letters_of_lem sections_of_lem (drop bytes_size old) refl (omega arith) (omega arith);
        numbers_are = sym (take-append-drop numbers_size old_numbers) ∙ ap (λ x. x ++ drop numbers_size old_numbers) z.numbers_zero;
      }

  -- every bracket
  pub ends : {bytes : List ℕ} {numbers : List ℤ} → Within l → BracketsPut l.brackets begun bytes numbers → FilledAll old old_numbers bytes numbers l
  unfolding bytes_of numbers_of
  ends w p =
      record {
        bytes_are =
            p.areas_are.bytes_are
            ∙ regroup counts (padded 0 residue_limit letters_of_lem) (padded 0 residue_limit sections_of_lem) (padded 0 (bracket_limit * row_size) (rows 0 l.brackets))
            (padded 0 line_limit (flat bracket_texts l.brackets)) (drop bytes_size old)
            ∙ ap (λ n. bytes_of l ++ drop n old) (sym (bytes_length l w));
        numbers_are = p.areas_are.numbers_are ∙ ap (λ n. numbers_of l ++ drop n old_numbers) (sym (numbers_length l w));
      }
    where
      regroup : (n a b c d r : List ℕ) → (n ++ (a ++ b)) ++ (c ++ (d ++ r)) ≡ (n ++ (a ++ (b ++ (c ++ d)))) ++ r
      regroup n a b c d r = simp append_assoc

-- ---- what store does
module _ {line : List ℕ} {sheet : Sheet} {residues brackets : ℕ} {bytes : List ℕ} {numbers : List ℤ}
    (f : Fills line sheet residues brackets bytes numbers) where
  pub front_fits : (residues ≤ residue_limit) × (brackets ≤ bracket_limit)
  front_fits = let w = f.line_noted in (omega (arith, residues_many w, (within w).few_residues), omega (arith, brackets_many w, (within w).few_brackets_lem))

  module _ {bytes₁ : List ℕ} (e : bytes₁ ≡ front_put sheet.letters sheet.sections residues brackets bytes) where
    fit : BracketsFit line sheet.heads sheet.parts sheet.masses sheet.scores brackets f.holds_line.brackets (begun f.holds_line bytes numbers) bytes₁ numbers
    fit =
        let l = f.holds_line in
        let w = f.line_noted in
        let few = (within w).few_residues in
        let counted = ap₂ (λ i j. counts_row i j) (residues_many w) (brackets_many w) in
        let put = e ∙ ap₂ (λ i j. sets (sets (sets bytes residues_at i) letters_at j) sections_at (take residues sheet.sections)) counted (letters_are w) ∙ ap (sets _ sections_at) (sections_are w) in
        record {
          many = brackets_many w;
          residues = length l.residues;
          few_residues = few;
          noted = bracket_noted w;
          few_brackets_lem = omega (arith, brackets_many w, (within w).few_brackets_lem);
          texts_room = (within w).texts;
          areas_are = begins l bytes numbers (within w) f.clean put;
        }

    pub brackets_fit : SomeBracketsFit line sheet.heads sheet.parts sheet.masses sheet.scores brackets bytes₁ numbers
    brackets_fit = record { these = f.holds_line.brackets; pieces = begun f.holds_line bytes numbers; fit = fit }

    pub filled : {bytes₂ : List ℕ} {numbers₂ : List ℤ}
        → ((ks : List (Bracket ℕ)) (a : Pieces) → BracketsFit line sheet.heads sheet.parts sheet.masses sheet.scores brackets ks a bytes₁ numbers → BracketsPut ks a bytes₂ numbers₂)
        → (l : Line ℕ) → outcome line ≡ accepted l → FilledAll bytes numbers bytes₂ numbers₂ l
    filled {bytes₂} {numbers₂} put l q =
        let h = f.holds_line in
        let p = is_accepted f.line_noted in
        let same : h ≡ l = cc (p, q) in
        subst (FilledAll bytes numbers bytes₂ numbers₂) same (ends h bytes numbers (within f.line_noted) (put h.brackets (begun h bytes numbers) fit))
