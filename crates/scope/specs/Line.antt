-- What a line holds, limits apart: residues and brackets, in order of appearance. P is what is noted of a place: its number while a line is
-- read, nothing in the tables.
use Rattle.std.specs.Prelude.{ℕ, Bool, List}
use Rattle.std.proofs.Math.Option.{Option}
use Rattle.scope.specs.declared.grammar.Section.{Section}
use Rattle.scope.specs.declared.grammar.Key.{Key}
use Rattle.scope.specs.declared.grammar.Kind.{Kind}

-- a mass or a score: its digits as one whole number, and how many of them stand behind the point
pub record Number (P : Type 0) : Type 0 where
  pub minus : Bool
  pub digits : ℕ
  pub decimals : ℕ
  pub at : P

-- "letters and digits, then perhaps a score"; its place is the byte behind `#`
pub record Label (P : Type 0) : Type 0 where
  pub name : List ℕ
  pub score : Option (Number P)
  pub at : P

-- "a place being a letter, `N-term` or `C-term`" (02, L2): a letter in upper case, or the number of a terminus
pub record Place (P : Type 0) : Type 0 where
  pub site : ℕ
  pub at : P

pub data Value (P : Type 0) : Type 0 where
  mass : Number P → Value P
  text : List ℕ → Value P
  reference : Value P
  composition : List ℕ → Number P → Value P  -- in "the list's spelling", and its mass

-- "each part with kind, prefix, and text or mass"; a lone reference is its bracket's only part, with a label and nothing else
pub record Part (P : Type 0) : Type 0 where
  pub key : Key
  pub value : Value P
  pub label : Option (Label P)
  pub at : P

-- "each bracket with its kind, position or range, count, and label with its part"; `counted` is the place of a count that is written;
-- `places` are those of a declaration
pub record Bracket (P : Type 0) : Type 0 where
  pub kind : Kind
  pub first : ℕ
  pub last : ℕ
  pub count : ℕ
  pub counted : Option P
  pub parts : List (Part P)
  pub places : List (Place P)
  pub at : P

-- "residues in upper case with their section"
pub record Residue (P : Type 0) : Type 0 where
  pub letter : ℕ
  pub section : Section
  pub at : P

pub record Line (P : Type 0) : Type 0 where
  pub residues : List (Residue P)
  pub brackets : List (Bracket P)
