-- Places: "a place being a letter, `N-term` or `C-term`" (02, L2): the site of each, how they are written, and how they are computed, read byte by byte. That this is the
-- grammar of specs/Grammar.antt is proved with that of lines (crates/grammar_laws, `lines`).
use Rattle.std.specs.Prelude.{ℕ, Bool, cond, ◌||◌, List, [], ◌∷◌, ◌++◌, eqb}
use Rattle.std.proofs.Math.Option.{Option, none, some}
use Rattle.scope.specs.Bytes.{bytes, upper, is_letter, comma, dash}
use Rattle.scope.specs.Lists.{given}
use Rattle.scope.specs.Line.{Place}

-- the site of a residue is its letter, that of a terminus a number that is no letter's
abbrev pub n_terminus : ℕ
n_terminus = 1

abbrev pub c_terminus : ℕ
c_terminus = 2

abbrev pub is_terminus : ℕ → Bool
is_terminus s = eqb s n_terminus || eqb s c_terminus

-- how a place is written: `K`, `N-term`, `C-term`
abbrev pub site_text : ℕ → List ℕ
site_text s = cond (eqb s n_terminus) (bytes "N-term") (cond (eqb s c_terminus) (bytes "C-term") (s ∷ []))

unfoldable pub places_text : {P : Type 0} → List (Place P) → List ℕ
places_text [] = []
places_text (p ∷ []) = site_text p.site
places_text (p ∷ q ∷ ps) = site_text p.site ++ (comma ∷ places_text (q ∷ ps))

-- ---- how it is computed
-- how far places are read: one must begin; one is read, behind others; a terminus is, but for the byte that is owed next and those behind it
pub data Placing (P : Type 0) : Type 0 where
  expected : List (Place P) → Placing P
  placed : List (Place P) → Place P → Placing P
  owing : List (Place P) → Place P → ℕ → List ℕ → Placing P

abbrev pub owed : {P : Type 0} → List (Place P) → Place P → List ℕ → Placing P
owed ps p [] = placed ps p
owed ps p (x ∷ w) = owing ps p x w

-- the terminus whose word begins with a letter: N or C
abbrev pub terminus_of : ℕ → Option ℕ
terminus_of s = cond (eqb s 78) (some n_terminus) (cond (eqb s 67) (some c_terminus) none)

-- `-` behind that letter
abbrev pub to_terminus : {P : Type 0} → List (Place P) → Place P → Option (Placing P)
to_terminus ps p = given (terminus_of p.site) (λ s. some (owed ps (record { site = s; at = p.at }) (bytes "term"))) none

-- one byte more, at the place i; letters in either case
unfoldable pub place_step : {P : Type 0} → P → Placing P → ℕ → Option (Placing P)
place_step i (expected ps) b = cond (is_letter b) (some (placed ps (record { site = upper b; at = i }))) none
place_step i (placed ps p) b = cond (eqb b comma) (some (expected (ps ++ (p ∷ [])))) (cond (eqb b dash) (to_terminus ps p) none)
place_step i (owing ps p x w) b = cond (eqb (upper x) (upper b)) (some (owed ps p w)) none

-- the places, if they may end here
unfoldable pub places_end : {P : Type 0} → Placing P → Option (List (Place P))
places_end (expected ps) = none
places_end (placed ps p) = some (ps ++ (p ∷ []))
places_end (owing ps p x w) = none
