-- What the code of compositions says of a text: the name, the count and the piece that end it, and what it is cut into.
use Rattle.std.specs.Prelude.{ℕ, ◌+◌, ◌-◌, ◌*◌, ◌^◌, ◌≤◌, ◌<◌, ◌≡◌, true, false, List, [], ◌∷◌, ◌++◌, map, reverse, length, take, Option as Perhaps, Some, None}
use Rattle.std.proofs.Math.Option.{Option, none, some}
use Rattle.std.proofs.lemmas.List.Edits.{sets}
use Rattle.scope.specs.Bytes.{upper}
use Rattle.scope.specs.Lists.{keep, none?}
use Rattle.scope.specs.Limits.{text_limit, size_limit, count_limit, decimal_limit}
use Rattle.scope.specs.Glycans.{Item, way, name_at, mass_decimals, count_text, cuttings, short_count, short_text, count_of, cutting_mass}
use Rattle.glycan_laws.specs.Back.{begins, backward, tried, first_front}
use Rattle.glycan_laws.proofs.Digits.{last_count}
use Rattle.glycan_laws.proofs.Last.{last_item}
use Rattle.glycans.specs.declared.Count.{Count}
use Rattle.glycans.specs.declared.Piece.{Piece}
use Rattle.glycans.specs.declared.Cutting.{Cutting}

-- ---- a text in upper case and from the right
abbrev pub back : List ℕ → List ℕ
back t = reverse (map upper t)

-- of some names those that end in a letter
abbrev pub ending_in : ℕ → List ℕ → List ℕ
ending_in u is = keep (λ i. begins u (reverse (map upper (name_at i)))) is

-- the name that ends a text
abbrev pub NameIs : List ℕ → Perhaps ℕ → Type 0
NameIs t None = first_front tried (back t) ≡ none
NameIs t (Some i) = first_front tried (back t) ≡ some (backward i)

-- the digits that are written of a count: "a count of 1 dropped"
abbrev pub digits_text : ℕ → List ℕ
digits_text n = count_text (short_count (some n))

-- the count that ends it; n is 1 also where none is written
pub record CountAt (t : List ℕ) (start n : ℕ) : Type 0 where
  pub written : Option ℕ
  pub counted : count_of written ≡ n
  pub few : n ≤ count_limit
  pub room : start + length (digits_text n) ≤ length t
  pub last : last_count (back t) ≡ some (way written (back (take start t)))

abbrev pub CountIs : List ℕ → Perhaps Count → Type 0
CountIs t None = last_count (back t) ≡ none
CountIs t (Some c) = CountAt t c.start c.count

-- what is made of a digit b that ends n bytes: 0 is no count
abbrev pub DigitIs : ℕ → ℕ → Perhaps Count → Type 0
DigitIs b n None = b ≡ 48
DigitIs b n (Some c) = (b ≡ 48 → ⊥) × (c.start ≡ n - 1) × (c.count ≡ b - 48)

-- ---- the piece that ends it: a name and its count
abbrev pub piece_text : ℕ → ℕ → List ℕ
piece_text i n = name_at i ++ digits_text n

pub record PieceAt (t : List ℕ) (start i n : ℕ) : Type 0 where
  pub item : Item
  pub named : item.name ≡ i
  pub counted : count_of item.count ≡ n
  pub few : n ≤ count_limit
  pub before : start < length t
  pub room : start + length (piece_text i n) ≤ length t
  pub last : last_item (back t) ≡ some (way item (back (take start t)))

abbrev pub PieceIs : List ℕ → Perhaps Piece → Type 0
PieceIs t None = last_item (back t) ≡ none
PieceIs t (Some p) = PieceAt t p.start p.name p.count

-- ---- a composition, by the ways to cut it, of which there is never more than one (crates/glycan_laws, `one_way`)
abbrev pub short_of : List (List Item) → List ℕ
short_of [] = []
short_of (xs ∷ more) = short_text xs

-- the pieces, in the order of the text
abbrev pub items_of : List (List Item) → List Item
items_of [] = []
items_of (xs ∷ more) = xs

abbrev pub weight_of : List (List Item) → ℕ
weight_of [] = 0
weight_of (xs ∷ more) = cutting_mass xs

-- a composition whose text keeps to its limit weighs less than this (crates/glycan_laws, `small`)
abbrev pub weight_most : ℕ
weight_most = size_limit * 10 ^ mass_decimals

-- a text that can be cut: the length of its short text, its mass in millionths, how many pieces it has
pub record Composed (t : List ℕ) (c : Cutting) : Type 0 where
  pub cuts : none? (cuttings t) ≡ false
  pub sized : c.size ≡ length (short_of (cuttings t))
  pub weighs : length t ≤ text_limit → c.mass ≡ weight_of (cuttings t) * 10 ^ (decimal_limit - mass_decimals)
  pub no_longer : c.size ≤ length t
  pub small : length t ≤ text_limit → c.mass < size_limit * 10 ^ decimal_limit
  pub fits : c.mass < 2 ^ 63
  pub counted : c.pieces ≡ length (items_of (cuttings t))
  pub few : c.pieces ≤ length t

abbrev pub CutIs : List ℕ → Perhaps Cutting → Type 0
CutIs t None = none? (cuttings t) ≡ true
CutIs t (Some c) = Composed t c

-- ---- bytes put into an area so that they end before a place
pub record Room (area : List ℕ) (at : ℕ) (w : List ℕ) : Type 0 where
  pub front : length w ≤ at
  pub inside : at ≤ length area

-- exactly these, and everything else as it was; r is where they begin
pub record PutBefore (area : List ℕ) (at : ℕ) (w area' : List ℕ) (r : ℕ) : Type 0 where
  pub begins : r + length w ≡ at
  pub put : area' ≡ sets area r w
