-- The grammar and the reader, stated. Their proofs: proofs/Proved.antt, and the files that it cites. Limits are apart.
use Rattle.std.specs.Prelude.{ℕ, ◌+◌, ◌≤◌, ◌<◌, ◌≡◌, ◌↔◌, Bool, true, List, [], ◌∷◌, ◌++◌, length, take}
use Rattle.std.proofs.Math.Option.{some}
use Rattle.scope.specs.Bytes.{is_shutting}
use Rattle.scope.specs.Limits.{line_limit}
use Rattle.scope.specs.Line.{Number, Part, Line}
use Rattle.scope.specs.Keys.{written}
use Rattle.scope.specs.Content.{Digits, signed, number_end, begin, closed, going}
use Rattle.scope.specs.Reading.{Reading, stuck, holds, reading}
use Rattle.scope.specs.Kept.{kept}
use Rattle.scope.specs.Refusals.{accepted, refused, line_refusals, byte_refusals, outcome}
use Rattle.scope.specs.Tables.{Tables, tables_of}
use Rattle.reading_laws.specs.Laws.{Clear, First}
use Rattle.clause_laws.specs.Clauses.{NoneDue}
use Rattle.reading_laws.proofs.Unnoted.{digit_run}
use Rattle.scope.specs.Grammar.{Word, good_word, print_word, Numeral, print_numeral, good_numeral, means_numeral, Text, print_text, good_text, outer_byte, Inside, print_inside, good_inside, means_inside, Spelling, print, good, means}
use Rattle.grammar_laws.specs.Texts.{text_run}
use Rattle.grammar_laws.specs.Runs.{context, noted_run}

-- the digits w, behind a sign, are read to the number x at the place i
pub record ReadNumber (i : ℕ) (minus : Bool) (w : List ℕ) (x : Number ℕ) : Type 0 where
  pub digits : Digits
  pub reads : digit_run (signed minus) w ≡ some digits
  pub ends : number_end i digits ≡ some x

-- they spell it
pub record SpeltNumber (i : ℕ) (minus : Bool) (w : List ℕ) (x : Number ℕ) : Type 0 where
  pub tree : Numeral
  pub fine : good_numeral tree ≡ true
  pub prints : w ≡ print_numeral tree
  pub says : x ≡ means_numeral i minus tree

pub record SpeltText (hashes : Bool) (w : List ℕ) : Type 0 where
  pub tree : Text
  pub fine : good_text (outer_byte hashes) tree ≡ true
  pub prints : w ≡ print_text tree

pub record SpeltBracket (i shut : ℕ) (references labels : Bool) (w : List ℕ) (ps : List (Part ℕ)) : Type 0 where
  pub tree : Inside
  pub fine : good_inside references labels tree ≡ true
  pub prints : w ≡ print_inside tree ++ (shut ∷ [])
  pub says : ps ≡ means_inside i tree

-- s is printed by a good spelling that means the line l, its places and written counts included
pub record SpeltLine (s : List ℕ) (l : Line ℕ) : Type 0 where
  pub tree : Spelling
  pub fine : good tree ≡ true
  pub prints : s ≡ print tree
  pub says : l ≡ means tree

-- the same, in tables
pub record SpeltTables (s : List ℕ) (t : Tables) : Type 0 where
  pub tree : Spelling
  pub fine : good tree ≡ true
  pub prints : s ≡ print tree
  pub says : t ≡ tables_of (means tree)

-- s is of the order, and the reader gives the tables t
pub record ReadTables (s : List ℕ) (t : Tables) : Type 0 where
  pub line : Line ℕ
  pub reads : reading s ≡ holds line
  pub tables : tables_of line ≡ t

-- ---- the place of refusal 4
-- some line that a good spelling prints begins with these bytes
pub record BegunWell (w : List ℕ) : Type 0 where
  pub more : List ℕ
  pub tree : Spelling
  pub fine : good tree ≡ true
  pub prints : w ++ more ≡ print tree

-- "first byte with which no line of any length begins so; else the line's length"
pub record Stops (s : List ℕ) (i : ℕ) : Type 0 where
  pub inside : i ≤ length s
  pub begins : BegunWell (take i s)
  pub stops : i < length s → BegunWell (take (i + 1) s) → ⊥
  pub ends : i ≡ length s → (t : Spelling) → good t ≡ true → s ≡ print t → ⊥

-- ---- which lines are accepted, and what the others are refused with
-- a good spelling prints s and means a line of which l is kept; s is not too long; none of 5 to 12 is due of that line, nor 19 or 21, clause by clause
pub record Accepts (s : List ℕ) (l : Line ℕ) : Type 0 where
  pub read : Line ℕ
  pub spelt : SpeltLine s read
  pub short : length s ≤ line_limit
  pub clear : NoneDue read
  pub keeps : l ≡ kept read

-- number k is given, at the place i: the first of 1 to 3 that is due of the bytes; where none is, 4, where no good spelling prints s; where one does,
-- the first of 5 to 10, 21, 11, 12 and 19 that is due of what it means
pub data Refuses (s : List ℕ) (k i : ℕ) : Type 0 where
  of_bytes : First (byte_refusals s) k i → Refuses s k i
  of_order : Clear (byte_refusals s) → k ≡ 4 → Stops s i → Refuses s k i
  of_line : Clear (byte_refusals s) → (l : Line ℕ) → SpeltLine s l → First (line_refusals l) k i → Refuses s k i

pub record Laws : Type 0 where
  -- "digits, perhaps `.` and digits"
  pub numbers : (i : ℕ) (minus : Bool) (w : List ℕ) (x : Number ℕ) → ReadNumber i minus w x ↔ SpeltNumber i minus w x
  -- "a text is plain bytes and closed pairs that hold texts"
  pub texts : (hashes : Bool) (w : List ℕ) → text_run hashes [] w ≡ some [] ↔ SpeltText hashes w
  -- "A bracket is parts split by `|`, none empty, or a lone reference `#label`": the bytes from the place i on, with the byte that closes it, whether a
  -- reference may stand in it and whether its parts may have labels
  pub brackets : (i shut : ℕ) (references labels : Bool) (w : List ℕ) (ps : List (Part ℕ)) → is_shutting shut ≡ true
      → noted_run i (going (begin (context shut references labels []))) w ≡ closed ps ↔ SpeltBracket i shut references labels w ps
  -- "A line has this order": the reader accepts exactly the lines that a good spelling prints, and reads them to what it means, each residue, bracket,
  -- part, label, number and count at its place
  pub lines : (s : List ℕ) (l : Line ℕ) → reading s ≡ holds l ↔ SpeltLine s l
  -- 4 "not of the order above": the reader is stuck at i exactly where no spelling goes on
  pub place_of_4 : (s : List ℕ) (i : ℕ) → reading s ≡ stuck i ↔ Stops s i
  -- nothing else reads so: places and written counts are pinned
  pub only_reading : (f : List ℕ → Reading) → ((s : List ℕ) (l : Line ℕ) → SpeltLine s l → f s ≡ holds l) → ((s : List ℕ) (i : ℕ) → Stops s i → f s ≡ stuck i)
      → (s : List ℕ) → f s ≡ reading s
  -- the text of a part stands behind its key: a key is as long as it is written in tables (5 reckons its place so)
  pub key_length : (w : Word) → good_word w ≡ true → length (print_word w) ≡ length (written w.key)
  -- a line has one reading: two good spellings that print the same mean the same
  pub one_reading : (a b : Spelling) → good a ≡ true → good b ≡ true → print a ≡ print b → means a ≡ means b
  -- the same of tables
  pub tables : (s : List ℕ) (t : Tables) → ReadTables s t ↔ SpeltTables s t
  -- "Reading tries .. 1 to 12 in that order; the lowest number wins, at its first place in the line"; 21 "after 10", 19 "after 12"
  pub accepts : (s : List ℕ) (l : Line ℕ) → outcome s ≡ accepted l ↔ Accepts s l
  pub refuses : (s : List ℕ) (k i : ℕ) → outcome s ≡ refused k i ↔ Refuses s k i
