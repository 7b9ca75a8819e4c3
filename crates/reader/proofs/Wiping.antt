-- Areas that hold an accepted line's tables, wiped as far as such a line uses them.
use mathlib.Core.Path.{◌≡◌, sym, ap, ap₂, ◌∙◌}
use mathlib.Core.List.{List, [], ◌++◌, map, append_assoc, append-nil}
use Prim.Native.Nat.{ℕ, ◌+◌, ◌-◌, ◌*◌, ◌≤◌}
use native.Mathlib.Omega.{arith}
use lib.IntN.{ℤ, pos}
use lib.ListN.{length, take, drop, replicate, length-append, length-drop, length-map, length-replicate, replicate-append-replicate, take-append-drop, drop_of_length-le}
use lib.Seq.{take_all, take_at, drop_at, drop-append-le, drop-append-add, drop-drop}
use Rattle.sheet.specs.declared.Sheet.{Sheet}
use Rattle.scope.specs.Limits.{line_limit, residue_limit, bracket_limit}
use Rattle.scope.specs.Line.{Line}
use Rattle.scope.specs.Lists.{flat, padded, laid}
use Rattle.scope.specs.Layout.{bytes_size, numbers_size, row_size, number_row_size, residues_at, letters_at, sections_at, rows_at, texts_at, counts_row, section_code, bracket_texts, rows, number_row, bytes_of, numbers_of, brackets_field, residues_field}
use Rattle.store.proofs.NotedLine.{is_accepted}
use Rattle.layout_laws.proofs.LayoutLaws.{AreasRead, padded_length, rows_length, number_rows_length, areas_read}
use Rattle.layout_laws.proofs.Laws.{bytes_fill, numbers_fill}
use Rattle.accepted_laws.specs.Laws.{accepted_within, accepted_short, accepted_texts}
use Rattle.store.specs.Filled.{Fills}
use Rattle.reader.specs.ReadSays.{HoldSome, Stored, Wiped, wiped}
use Rattle.reader.proofs.Storing.{cleared_clean}

-- ---- from a place on, by way of the part that begins there
pub part_wiped : {A : Type 0} (z : A) (from n : ℕ) (l p : List A) → p ≡ replicate n z ++ drop n (take (length l - from) (drop from l))
    → take from l ++ (p ++ drop (length l - from) (drop from l)) ≡ wiped z from n l
part_wiped z from n l p e =
    let h = length-drop from l in
    let whole : take (length l - from) (drop from l) ≡ drop from l = take_all (length l - from) (drop from l) (omega arith) in
    let none : drop (length l - from) (drop from l) ≡ [] = drop_of_length-le (drop from l) {i = length l - from} (omega arith) in
    ap (λ x. take from l ++ (p ++ x)) none
    ∙ ap (λ x. take from l ++ x) (append-nil p ∙ e ∙ ap (λ x. replicate n z ++ x) (ap (drop n) whole ∙ drop-drop n from l))

-- ---- a table with its unused room
module _ {A : Type 0} (z : A) where
  drop_replicate : (j k : ℕ) → j ≤ k → drop j (replicate k z) ≡ replicate (k - j) z
  drop_replicate j k h =
      ap (λ n. drop j (replicate n z)) (let e : k ≡ j + (k - j) = omega arith in e)
      ∙ ap (drop j) (sym (replicate-append-replicate j (k - j) z))
      ∙ drop_at (replicate j z) (replicate (k - j) z) j (length-replicate j z)

  drop_padded : (m n : ℕ) (t : List A) → length t ≤ n → n ≤ m → drop n (padded z m t) ≡ replicate (m - n) z
  drop_padded m n t h k =
      ap (λ i. drop i (padded z m t)) (let e : n ≡ length t + (n - length t) = omega arith in e)
      ∙ drop-append-add t (replicate (m - length t) z) (n - length t)
      ∙ drop_replicate (n - length t) (m - length t) (omega arith)
      ∙ ap (λ i. replicate i z) (let e : m - length t - (n - length t) ≡ m - n = omega arith in e)

  zeros : (m n : ℕ) (x : List A) → replicate m z ++ (replicate n z ++ x) ≡ replicate (m + n) z ++ x
  zeros m n x = sym (append_assoc (replicate m z) (replicate n z) x) ∙ ap (λ y. y ++ x) (replicate-append-replicate m n z)

  -- the next table behind zeros becomes zeros
  pub wiped_next :
      (k m n : ℕ) (t back : List A) → length t ≤ n → n ≤ m → {x y : List A} → x ≡ replicate k z ++ (padded z m t ++ back) → y ≡ wiped z k n x
      → y ≡ replicate (k + m) z ++ back
  wiped_next k m n t back h g {x} {y} e f =
      let r = replicate k z in
      let l = padded_length z m t (omega arith) in
      let past : drop (k + n) (r ++ (padded z m t ++ back)) ≡ replicate (m - n) z ++ back =
      sym (drop-drop n k (r ++ (padded z m t ++ back)))
      ∙ ap (drop n) (drop_at r (padded z m t ++ back) k (length-replicate k z))
      ∙ drop-append-le n (padded z m t) back (omega arith)
      ∙ ap (λ y. y ++ back) (drop_padded m n t h g) in
      f
      ∙ ap (wiped z k n) e
      ∙ ap₂ (λ a b. a ++ (replicate n z ++ b)) (take_at r (padded z m t ++ back) k (length-replicate k z)) past
      ∙ ap (λ b. r ++ b) (zeros n (m - n) back)
      ∙ zeros k (n + (m - n)) back
      ∙ ap (λ i. replicate i z ++ back) (let e : k + (n + (m - n)) ≡ k + m = omega arith in e)

-- ---- the areas
-- what stands in front of a table is counted to it
lead : (h t : List ℕ) (n : ℕ) → h ++ padded 0 n t ≡ padded 0 (length h + n) (h ++ t)
lead h t n =
    let l = length-append h t in
    sym (append_assoc h t (replicate (n - length t) 0))
    ∙ ap (λ k. (h ++ t) ++ replicate k 0) (let e : n - length t ≡ length h + n - length (h ++ t) = omega arith in e)

regroup : (h a b c d p : List ℕ) → (h ++ (a ++ (b ++ (c ++ d)))) ++ p ≡ (h ++ a) ++ (b ++ (c ++ (d ++ p)))
regroup h a b c d p = simp append_assoc

-- the five tables
abbrev counts_of : Line ℕ → List ℕ
counts_of l = counts_row (length l.residues) (length l.brackets)

abbrev letters_of : Line ℕ → List ℕ
letters_of l = map (λ r. r.letter) l.residues

abbrev sections_of : Line ℕ → List ℕ
sections_of l = map (λ r. section_code r.section) l.residues

abbrev rows_of : Line ℕ → List ℕ
rows_of l = rows 0 l.brackets

abbrev texts_of : Line ℕ → List ℕ
texts_of l = flat bracket_texts l.brackets

-- an area from the sections on
abbrev from_sections : Line ℕ → List ℕ → List ℕ
from_sections l past = padded 0 residue_limit (sections_of l) ++ (padded 0 (bracket_limit * row_size) (rows_of l) ++ (padded 0 line_limit (texts_of l) ++ past))

area_is : (l : Line ℕ) (past : List ℕ) → bytes_of l ++ past ≡ padded 0 sections_at (counts_of l ++ letters_of l) ++ from_sections l past
unfolding bytes_of
area_is l past =
    regroup (counts_of l) (padded 0 residue_limit (letters_of l)) (padded 0 residue_limit (sections_of l)) (padded 0 (bracket_limit * row_size) (rows_of l))
    (padded 0 line_limit (texts_of l)) past
    ∙ ap (λ x. x ++ from_sections l past) (lead (counts_of l) (letters_of l) residue_limit)

module _ {n : ℕ} {bs : List ℕ} {ns : List ℤ} (w : HoldSome n bs ns) where
  bytes_are : bs ≡ bytes_of w.held ++ drop bytes_size bs
  bytes_are = sym (take-append-drop bytes_size bs) ∙ ap (λ x. x ++ drop bytes_size bs) w.holds.bytes

  numbers_are : ns ≡ padded (pos 0) numbers_size (flat number_row w.held.brackets) ++ drop numbers_size ns
  unfolding numbers_of
  numbers_are = sym (take-append-drop numbers_size ns) ∙ ap (λ x. x ++ drop numbers_size ns) w.holds.numbers

  -- what is read of the area of bytes
  counted : AreasRead (bytes_of w.held ++ drop bytes_size bs) (numbers_of w.held ++ []) w.held
  counted = areas_read w.held w.holds.within (drop bytes_size bs) []

  residues_are : residues_field bs ≡ length w.held.residues
  residues_are = ap (λ x. residues_field x) bytes_are ∙ counted.residues_many

  brackets_are : brackets_field bs ≡ length w.held.brackets
  brackets_are = ap (λ x. brackets_field x) bytes_are ∙ counted.brackets_many

  pub line_short : n ≤ line_limit
  line_short = let e = w.long in let h = accepted_short w.text w.held w.holds.reads in omega arith

  module _ {r k : ℕ} (e : r ≡ residues_field bs) (f : k ≡ brackets_field bs) where
    bytes_wiped :
        {b₁ b₂ b₃ b₄ : List ℕ} → b₁ ≡ wiped 0 residues_at (letters_at + r) bs → b₂ ≡ wiped 0 sections_at r b₁ → b₃ ≡ wiped 0 rows_at (k * row_size) b₂
        → b₄ ≡ wiped 0 texts_at n b₃
        → b₄ ≡ replicate bytes_size 0 ++ drop bytes_size bs
    bytes_wiped e₁ e₂ e₃ e₄ =
        let l = w.held in
        let v = w.holds.within in
        let few-r = v.few_residues in
        let few-k = v.few_brackets_lem in
        let rs = residues_are in
        let ks = brackets_are in
        let long = w.long in
        let ls = length-map l.residues (λ r. r.letter) in
        let ss = length-map l.residues (λ r. section_code r.section) in
        let rows_long = rows_length (length l.residues) 0 l.brackets v.brackets in
        let texts_long = accepted_texts w.text l w.holds.reads in
        let short = line_short in
        let past = drop bytes_size bs in
        let from-texts = padded 0 line_limit (texts_of l) ++ past in
        let from-rows = padded 0 (bracket_limit * row_size) (rows_of l) ++ from-texts in
        wiped_next 0 texts_at line_limit n (texts_of l) past (omega arith) (omega arith)
        (wiped_next 0 rows_at (bracket_limit * row_size) (k * row_size) (rows_of l) from-texts (omega arith) (omega arith)
        (wiped_next 0 sections_at residue_limit r (sections_of l) from-rows (omega arith) (omega arith)
        (wiped_next 0 residues_at sections_at (letters_at + r) (counts_of l ++ letters_of l) (from_sections l past) (omega arith) (omega arith)
        (bytes_are ∙ area_is l past) e₁) e₂) e₃) e₄

    numbers_wiped : {m : List ℤ} → m ≡ replicate (k * number_row_size) (pos 0) ++ drop (k * number_row_size) ns → m ≡ replicate numbers_size (pos 0) ++ drop numbers_size ns
    numbers_wiped {m} g =
        let l = w.held in
        let v = w.holds.within in
        let few-k = v.few_brackets_lem in
        let ks = brackets_are in
        let rows_long = number_rows_length (length l.residues) l.brackets v.brackets in
        wiped_next (pos 0) 0 numbers_size (k * number_row_size) (flat number_row l.brackets) (drop numbers_size ns) (omega arith) (omega arith) numbers_are
        (g ∙ ap (λ i. replicate (k * number_row_size) (pos 0) ++ drop i ns) (let z : k * number_row_size ≡ 0 + k * number_row_size = omega arith in z))

    zeros_long : {A : Type 0} (n : ℕ) (z : A) (l : List A) → replicate n z ++ drop n l ≡ laid (replicate n z) l
    zeros_long n z l = ap (λ i. replicate n z ++ drop i l) (sym (length-replicate n z))

    pub all_wiped :
        {b₁ b₂ b₃ b₄ : List ℕ} {m : List ℤ} → b₁ ≡ wiped 0 residues_at (letters_at + r) bs → b₂ ≡ wiped 0 sections_at r b₁ → b₃ ≡ wiped 0 rows_at (k * row_size) b₂
        → b₄ ≡ wiped 0 texts_at n b₃ → m ≡ replicate (k * number_row_size) (pos 0) ++ drop (k * number_row_size) ns → Wiped bs ns b₄ m
    all_wiped e₁ e₂ e₃ e₄ g =
        let b = bytes_wiped e₁ e₂ e₃ e₄ in
        let i = numbers_wiped g in
        record { clean = cleared_clean bs ns b i; bytes_now = b ∙ zeros_long bytes_size 0 bs; numbers_now = i ∙ zeros_long numbers_size (pos 0) ns }

-- ---- areas that were clean, filled and wiped, are as they were
relaid : {A : Type 0} (z : A) (n : ℕ) (t l : List A) → length t ≡ n → take n l ≡ replicate n z → laid (replicate n z) (laid t l) ≡ l
relaid z n t l e h =
    ap (λ i. replicate n z ++ drop i (laid t l)) (length-replicate n z)
    ∙ ap (λ x. replicate n z ++ x) (drop_at t (drop (length t) l) n e ∙ ap (λ i. drop i l) e)
    ∙ ap (λ x. x ++ drop n l) (sym h)
    ∙ take-append-drop n l

pub put_back : {line : List ℕ} {sheet : Sheet} {residues brackets : ℕ} {bs : List ℕ} {ns : List ℤ} {bs₁ : List ℕ} {ns₁ : List ℤ}
    {bs₂ : List ℕ} {ns₂ : List ℤ}
    → Fills line sheet residues brackets bs ns → Stored line bs ns bs₁ ns₁ → Wiped bs₁ ns₁ bs₂ ns₂
    → (bs₂ ≡ bs) × (ns₂ ≡ ns)
put_back {line} {bs = bs} {ns} w p q =
    let l = w.holds_line in
    let e = is_accepted w.line_noted in
    let v = accepted_within line l e in (
      q.bytes_now ∙ ap (laid (replicate bytes_size 0)) (p.bytes_now l e) ∙ relaid 0 bytes_size (bytes_of l) bs (bytes_fill l v) w.clean.bytes_zero,
      q.numbers_now ∙ ap (laid (replicate numbers_size (pos 0))) (p.numbers_now l e) ∙ relaid (pos 0) numbers_size (numbers_of l) ns (numbers_fill l v) w.clean.numbers_zero,
    )
