-- The key words and prefixes: how each is spelled, and what may stand behind it.
use Rattle.std.specs.Prelude.{ℕ, Bool, true, false, cond, List, [], ◌∷◌, ◌++◌, get_or}
use Rattle.std.proofs.Math.Option.{Option, none, some}
use Rattle.scope.specs.declared.grammar.Key.{Key}
use Rattle.scope.specs.declared.grammar.Key.TheVariants.{NoKey, U, M, R, X, G, C, Obs, Unimod, Mod, Xlmod, Resid, Gno, Info, Formula, Glycan, Position, Limit}
use Rattle.scope.specs.Bytes.{bytes, colon, same_folded, is_digit, is_alnum}

-- "written in the spelling given here"
unfoldable pub spell : Key → List ℕ
spell NoKey = []
spell U = bytes "U"
spell M = bytes "M"
spell R = bytes "R"
spell X = bytes "X"
spell G = bytes "G"
spell C = bytes "C"
spell Obs = bytes "Obs"
spell Unimod = bytes "UNIMOD"
spell Mod = bytes "MOD"
spell Xlmod = bytes "XLMOD"
spell Resid = bytes "RESID"
spell Gno = bytes "GNO"
spell Info = bytes "INFO"
spell Formula = bytes "Formula"
spell Glycan = bytes "Glycan"
spell Position = bytes "Position"
spell Limit = bytes "Limit"

unfoldable pub keys : List Key
keys = U ∷ M ∷ R ∷ X ∷ G ∷ C ∷ Obs ∷ Unimod ∷ Mod ∷ Xlmod ∷ Resid ∷ Gno ∷ Info ∷ Formula ∷ Glycan ∷ Position ∷ Limit ∷ []

-- "The key words and prefixes are matched in either case"
unfoldable pub key_among : List Key → List ℕ → Option Key
key_among [] t = none
key_among (k ∷ ks) t = cond (same_folded (spell k) t) (some k) (key_among ks t)

unfoldable pub key_of : List ℕ → Option Key
key_of t = key_among keys t

-- What may stand behind a key: a mass or a name; a mass; digits; letters or digits; a text in which `#` is plain; a composition
pub data Form : Type 0 where
  mass_or_name : Form
  mass_only : Form
  digits : Form
  alnums : Form
  free : Form
  composed : Form

abbrev pub form : Key → Form
form NoKey = mass_or_name
form U = mass_or_name
form M = mass_or_name
form R = mass_or_name
form X = mass_or_name
form G = mass_or_name
form C = mass_or_name
form Obs = mass_only
form Unimod = digits
form Mod = digits
form Xlmod = digits
form Resid = alnums
form Gno = alnums
form Info = free
form Formula = free
form Glycan = composed
form Position = free
form Limit = free

-- "except in INFO and in the .. keys under refusal 8, where `#` is plain"; of a composition "a label may end the part" (02, L1)
abbrev pub hash_is_plain : Form → Bool
hash_is_plain mass_or_name = false
hash_is_plain mass_only = false
hash_is_plain digits = false
hash_is_plain alnums = false
hash_is_plain free = true
hash_is_plain composed = false

-- "`UNIMOD:` `MOD:` `XLMOD:` and digits; `RESID:` `GNO:` and letters or digits"
abbrev pub accession_byte : Form → ℕ → Bool
accession_byte mass_or_name b = false
accession_byte mass_only b = false
accession_byte digits b = is_digit b
accession_byte alnums b = is_alnum b
accession_byte free b = false
accession_byte composed b = false

-- the key as it is written in front of its part
unfoldable pub written : Key → List ℕ
written k = written_by (spell k)
  where
    written_by : List ℕ → List ℕ
    written_by [] = []
    written_by (b ∷ l) = (b ∷ l) ++ (colon ∷ [])

-- the number of a key in the tables
abbrev pub key_code : Key → ℕ
key_code NoKey = 0
key_code U = 1
key_code M = 2
key_code R = 3
key_code X = 4
key_code G = 5
key_code C = 6
key_code Obs = 7
key_code Unimod = 8
key_code Mod = 9
key_code Xlmod = 10
key_code Resid = 11
key_code Gno = 12
key_code Info = 13
key_code Formula = 14
key_code Glycan = 15
key_code Position = 16
key_code Limit = 17

-- the key of a number
abbrev pub key_in : ℕ → Key
key_in n = get_or (NoKey ∷ keys) n NoKey
