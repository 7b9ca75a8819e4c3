-- What the tables say of refusals 10 to 12, number by number: as the functions of src/ read them.
use Rattle.std.specs.Prelude.{Bool, true, false, not, cond, ◌&&◌, List, [], ◌++◌, map, ℕ, zero, suc, ◌+◌, ◌-◌, ◌≤◌, ◌<◌, eqb, leb, ltb, length}
use Rattle.scope.specs.declared.grammar.Kind.TheVariants.{Unknown, Labile, OnRange, Declared}
use Rattle.scope.specs.Kinds.{kind_code}
use Rattle.scope.specs.Limits.{bracket_limit, copy_limit}
use Rattle.scope.specs.Lists.{among, part, tabled}
use Rattle.scope.specs.Refusals.{due_at}
use Rattle.sheet.specs.Rows.{masses_room}
use Rattle.sheet.specs.Fields.{place_field, kind_field, sort_field, count_field, counted_field, parts_field, labels_field, base_field, label_from_field, label_to_field, written_count}
use Rattle.dues.specs.Ranks.{code}
use Rattle.dues.specs.Lines.{info_rank, declared_rank, label_rank, copies_rank}

-- ---- what a bracket is
abbrev pub info_sort : ℕ
info_sort = 0

abbrev pub unlabelled_sort : ℕ
unlabelled_sort = 1

abbrev pub labelled_sort : ℕ
labelled_sort = 2

abbrev pub reference_sort : ℕ
reference_sort = 3

-- ---- refusal 10: an unknown or labile bracket with only INFO
abbrev pub info_at : List ℕ → ℕ → Bool
info_at heads k = leb (kind_field heads k) (kind_code Labile) && eqb (sort_field heads k) info_sort

-- ---- refusal 21: a declaration with only INFO
abbrev pub declared_info_at : List ℕ → ℕ → Bool
declared_info_at heads k = eqb (kind_field heads k) (kind_code Declared) && eqb (sort_field heads k) info_sort

-- ---- refusal 11
-- the label of part x; nothing where it has none
abbrev pub name_at : List ℕ → List ℕ → ℕ → List ℕ
name_at line parts x = part (label_from_field parts x) (label_to_field parts x - label_from_field parts x) line

-- it can be read
pub record PartLegible (line parts : List ℕ) (x : ℕ) : Type 0 where
  pub noted : x < masses_room
  pub ordered : label_from_field parts x ≤ label_to_field parts x
  pub within : label_to_field parts x ≤ length line

-- what can be read of the first n brackets
pub record AllLegible (line heads parts : List ℕ) (n : ℕ) : Type 0 where
  pub few : n ≤ bracket_limit
  pub legible : (k i : ℕ) → k < n → i < parts_field heads k → PartLegible line parts (base_field heads k + i)
  pub some_part : (k : ℕ) → k < n → 0 < labels_field heads k → 0 < parts_field heads k

-- the labels of the k-th bracket's parts
abbrev pub names_at : List ℕ → List ℕ → List ℕ → ℕ → List (List ℕ)
names_at line heads parts k = tabled (name_at line parts) (base_field heads k) (parts_field heads k)

-- the first part with a label, of m + 1 from the x-th on; the last where none before it has one
unfoldable pub labelled_from : List ℕ → ℕ → ℕ → ℕ
labelled_from parts x zero = x
labelled_from parts x (suc m) = cond (eqb (label_to_field parts x) 0) (labelled_from parts (x + 1) m) x

abbrev pub labelled_at : List ℕ → List ℕ → ℕ → ℕ
labelled_at heads parts k = labelled_from parts (base_field heads k) (parts_field heads k - 1)

abbrev pub refers_at : List ℕ → ℕ → Bool
refers_at heads k = eqb (sort_field heads k) reference_sort

-- it is a reference, or a definition, as asked
abbrev pub side_is : List ℕ → Bool → ℕ → Bool
side_is heads refers k = cond (refers_at heads k) refers (not refers)

-- the labels that it refers to, or those that it defines
abbrev pub side_at : List ℕ → List ℕ → List ℕ → Bool → ℕ → List (List ℕ)
side_at line heads parts refers k = cond (eqb (labels_field heads k) 0) [] (cond (side_is heads refers k) (names_at line heads parts k) [])

-- those of m brackets from the k-th on
unfoldable pub side_from : List ℕ → List ℕ → List ℕ → Bool → ℕ → ℕ → List (List ℕ)
side_from line heads parts refers k zero = []
side_from line heads parts refers k (suc m) = side_at line heads parts refers k ++ side_from line heads parts refers (k + 1) m

-- the k-th bracket's one label, that of part x, is wrong: a reference without definition, defined again, or defined in an unknown run and never referred to
abbrev pub wrong_label : List ℕ → List ℕ → List ℕ → ℕ → ℕ → ℕ → Bool
wrong_label line heads parts n k x =
    cond (refers_at heads k) (not (among (name_at line parts x) (side_from line heads parts false 0 n)))
    (cond (among (name_at line parts x) (side_from line heads parts false 0 k)) true
    (cond (eqb (kind_field heads k) (kind_code Unknown)) (not (among (name_at line parts x) (side_from line heads parts true 0 n))) false))

-- its labels are wrong: more than one, a count beside one, or that one
abbrev pub wrong_at : List ℕ → List ℕ → List ℕ → ℕ → ℕ → Bool
wrong_at line heads parts n k =
    cond (eqb (labels_field heads k) 0) false
    (cond (ltb 1 (labels_field heads k)) true
    (cond (eqb (counted_field heads k) written_count) true (wrong_label line heads parts n k (labelled_at heads parts k))))

-- ---- refusal 12
abbrev pub copies_in : ℕ → ℕ → ℕ → ℕ
copies_in sort kind count =
    cond (eqb sort labelled_sort) 1
    (cond (eqb sort unlabelled_sort) (cond (eqb kind (kind_code Unknown)) count (cond (eqb kind (kind_code OnRange)) 1 0)) 0)

abbrev pub copies_at : List ℕ → ℕ → ℕ
copies_at heads k = copies_in (sort_field heads k) (kind_field heads k) (count_field heads k)

-- those of m brackets from the k-th on
unfoldable pub copies_from : List ℕ → ℕ → ℕ → ℕ
copies_from heads k zero = 0
copies_from heads k (suc m) = copies_at heads k + copies_from heads (k + 1) m

-- with so many copies before a bracket, and so many with it
abbrev pub passes : ℕ → ℕ → Bool
passes before after = leb before copy_limit && ltb copy_limit after

-- ---- the four, of the k-th bracket with so many copies before it
abbrev pub due_codes : List ℕ → List ℕ → List ℕ → ℕ → ℕ → ℕ → List ℕ
due_codes line heads parts n before k =
    map (code copies_rank) (due_at (passes before (before + copies_at heads k)) (place_field heads k))
    ++ (map (code label_rank) (due_at (wrong_at line heads parts n k) (place_field heads k))
    ++ (map (code declared_rank) (due_at (declared_info_at heads k) (place_field heads k))
    ++ map (code info_rank) (due_at (info_at heads k) (place_field heads k))))

-- of m brackets from it on
unfoldable pub due_from : List ℕ → List ℕ → List ℕ → ℕ → ℕ → ℕ → ℕ → List ℕ
due_from line heads parts n before k zero = []
due_from line heads parts n before k (suc m) =
    due_codes line heads parts n before k ++ due_from line heads parts n (before + copies_at heads k) (k + 1) m
