-- Glycan compositions: "names from source document 001's list (10.2), in either case, each perhaps with a count, 1 to 99, no leading zeros".
use Rattle.std.specs.Prelude.{ℕ, zero, suc, ◌+◌, ◌*◌, ◌/◌, ◌%◌, Bool, not, cond, ◌&&◌, List, [], ◌∷◌, ◌++◌, map, eqb, ltb, length, get_or}
use Prim.Native.String.{String}
use Rattle.std.proofs.Math.Option.{Option, none, some}
use Rattle.scope.specs.Lists.{given, flat}
use Rattle.scope.specs.Bytes.{bytes, upper, is_digit, value}

-- ---- the list: each name in "the list's spelling", and its mass in ten-thousandths: "Masses are that list's, to four decimals"
pub record Sugar : Type 0 where
  pub name : List ℕ
  pub mass : ℕ

abbrev pub sugar : String → ℕ → Sugar
sugar s m = record { name = bytes s; mass = m }

unfoldable pub sugars : List Sugar
sugars =
    sugar "Hex" 1620528 ∷ sugar "HexNAc" 2030793 ∷ sugar "HexS" 2420096 ∷ sugar "HexP" 2420191 ∷ sugar "HexNAcS" 2830361
    ∷ sugar "HexN" 1610688 ∷ sugar "HexNS" 2410256 ∷ sugar "dHex" 1460579 ∷ sugar "aHex" 1760321 ∷ sugar "en,aHex" 1580215
    ∷ sugar "Neu" 2490849 ∷ sugar "NeuAc" 2910954 ∷ sugar "NeuGc" 3070903 ∷ sugar "Sug" 420106 ∷ sugar "Tri" 720211
    ∷ sugar "Tet" 1020317 ∷ sugar "Pen" 1320422 ∷ sugar "Hep" 1920634 ∷ sugar "Oct" 2220740 ∷ sugar "Non" 2520845
    ∷ sugar "Dec" 2820951 ∷ sugar "Fuc" 1460579 ∷ sugar "Sulfate" 799568 ∷ sugar "Phosphate" 799663 ∷ []

-- "to four decimals"
abbrev pub mass_decimals : ℕ
mass_decimals = 4

-- the entry with a number; past the list there is none
abbrev pub sugar_at : ℕ → Sugar
sugar_at i = get_or sugars i (record { name = []; mass = 0 })

abbrev pub name_at : ℕ → List ℕ
name_at i = (sugar_at i).name

-- ---- a composition, cut "into listed names and counts": a name, by its number in the list, "perhaps with a count"
pub record Item : Type 0 where
  pub name : ℕ
  pub count : Option ℕ

-- "no leading zeros"
abbrev pub count_text : Option ℕ → List ℕ
count_text none = []
count_text (some n) = cond (ltb n 10) ((48 + n) ∷ []) ((48 + n / 10) ∷ (48 + n % 10) ∷ [])

abbrev pub item_text : Item → List ℕ
item_text x = name_at x.name ++ count_text x.count

abbrev pub cutting_text : List Item → List ℕ
cutting_text xs = flat item_text xs

-- ---- all ways in which "the text can be cut"
-- something read, and the rest of the text behind it
pub record Way (A : Type 0) : Type 0 where
  pub read : A
  pub rest : List ℕ

abbrev pub way : {A : Type 0} → A → List ℕ → Way A
way x r = record { read = x; rest = r }

-- what stands behind a name, where a text begins with it "in either case"
unfoldable pub behind_name : List ℕ → List ℕ → Option (List ℕ)
behind_name [] t = some t
behind_name (x ∷ n) [] = none
behind_name (x ∷ n) (b ∷ t) = cond (eqb (upper x) (upper b)) (behind_name n t) none

abbrev pub is_first_digit : ℕ → Bool
is_first_digit b = is_digit b && not (eqb b 48)

-- a count of two digits, the first of which is d
abbrev pub second_digit : ℕ → List ℕ → List (Way (Option ℕ))
second_digit d [] = []
second_digit d (b ∷ t) = cond (is_digit b) (way (some (d * 10 + value b)) t ∷ []) []

-- "each perhaps with a count, 1 to 99, no leading zeros": none, one digit, two digits
abbrev pub counts : List ℕ → List (Way (Option ℕ))
counts [] = way none [] ∷ []
counts (b ∷ t) = way none (b ∷ t) ∷ cond (is_first_digit b) (way (some (value b)) t ∷ second_digit (value b) t) []

-- the name with the number i, and a count
abbrev pub counted : ℕ → List ℕ → List (Way Item)
counted i t = map (λ w. way (record { name = i; count = w.read }) w.rest) (counts t)

-- each of these names with which a text begins; their numbers are i, i + 1, ..
unfoldable pub starts : ℕ → List Sugar → List ℕ → List (Way Item)
starts i [] t = []
starts i (s ∷ ss) t = given (behind_name s.name t) (counted i) [] ++ starts (i + 1) ss t

-- the one way to cut nothing
abbrev pub over : List ℕ → List (List Item)
over [] = [] ∷ []
over (b ∷ t) = []

-- every way, of a text of at most so many bytes
unfoldable pub cuttings_up_to : ℕ → List ℕ → List (List Item)
cuttings_up_to zero t = over t
cuttings_up_to (suc k) t = over t ++ flat (λ w. map (λ xs. w.read ∷ xs) (cuttings_up_to k w.rest)) (starts 0 sugars t)

unfoldable pub cuttings : List ℕ → List (List Item)
cuttings t = cuttings_up_to (length t) t

-- ---- "The list's spelling is written, a count of 1 dropped."
abbrev pub short_count : Option ℕ → Option ℕ
short_count none = none
short_count (some n) = cond (eqb n 1) none (some n)

abbrev pub short : Item → Item
short x = record { name = x.name; count = short_count x.count }

abbrev pub short_text : List Item → List ℕ
short_text xs = cutting_text (map short xs)

-- ---- "Masses are that list's", each as often as its count says
abbrev pub count_of : Option ℕ → ℕ
count_of none = 1
count_of (some n) = n

abbrev pub item_mass : Item → ℕ
item_mass x = count_of x.count * (sugar_at x.name).mass

unfoldable pub cutting_mass : List Item → ℕ
cutting_mass [] = 0
cutting_mass (x ∷ xs) = item_mass x + cutting_mass xs
