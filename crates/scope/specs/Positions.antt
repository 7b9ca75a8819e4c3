-- Positions: where modifications are placed, where floating copies may stand, and the rows.
use Rattle.std.specs.Prelude.{ℕ, ◌+◌, min, Bool, false, not, cond, ◌&&◌, ◌||◌, List, [], ◌∷◌, ◌++◌, map, eqb, leb, ltb, length, take, get_or, replicate}
use Rattle.std.proofs.Math.Option.{Option, none, some}
use Rattle.scope.specs.declared.grammar.Kind.{Kind}
use Rattle.scope.specs.declared.answers.Row.{Row}
use Rattle.scope.specs.declared.answers.Site.{Site}
use Rattle.scope.specs.Kinds.{is_unknown, is_declared, unknown_or_labile, on_one_position}
use Rattle.scope.specs.Limits.{row_limit}
use Rattle.scope.specs.Line.{Place, Bracket, Line}
use Rattle.scope.specs.Lists.{keep, flat, shared, tabled, member}
use Rattle.scope.specs.Places.{n_terminus, c_terminus}
use Rattle.scope.specs.Modifications.{is_modification, is_labelled, copies, defined_by, referred_by}

-- ---- what stands at each position: "Position 0 is the N-terminus, 1 to n the residues, n+1 the C-terminus". A residue is given by its letter.
unfoldable pub sites : {P : Type 0} → Line P → List ℕ
sites t = n_terminus ∷ (map (λ r. r.letter) t.residues ++ (c_terminus ∷ []))

-- all positions
abbrev pub positions : {P : Type 0} → Line P → List ℕ
positions t = tabled (λ x. x) 0 (length (sites t))

-- "matching position": one of the places names what stands there (02, L2)
abbrev pub names : {P : Type 0} → Line P → List (Place P) → ℕ → Bool
names t ps x = member (get_or (sites t) x 0) (map (λ p. p.site) ps)

-- the positions that a declaration reaches
unfoldable pub reached : {P : Type 0} → Line P → Bracket P → List ℕ
reached t k = keep (names t k.places) (positions t)

-- ---- "A modification is placed when it is unlabelled and stands on a residue or terminus"
unfoldable pub is_placed : {P : Type 0} → Bracket P → Bool
is_placed k = is_modification k && not (is_labelled k) && on_one_position k.kind

-- the positions that it is placed on; "Each matching position receives the modification as a placed one beside what it has, once per declaration" (02, L2)
unfoldable pub placed_on : {P : Type 0} → Line P → Bracket P → List ℕ
placed_on t k = cond (is_declared k.kind && is_modification k) (reached t k) (cond (is_placed k) (k.first ∷ []) [])

-- "A position with a placed modification is struck out"
unfoldable pub struck_out : {P : Type 0} → Line P → List ℕ
struck_out t = flat (placed_on t) t.brackets

-- ---- "Floating copies, in order of their brackets": each copy is given by its bracket
unfoldable pub floaters : {P : Type 0} → Line P → List (Bracket P)
floaters t = flat (λ k. replicate (copies k) k) t.brackets

-- or by its bracket's number, from 0, and by which of its copies it is, from 1
pub record Copy : Type 0 where
  pub bracket : ℕ
  pub copy : ℕ

-- those of one bracket
abbrev pub copies_at : ℕ → ℕ → List Copy
copies_at i n = tabled (λ c. record { bracket = i; copy = c }) 1 n

-- those of brackets from the i-th on
unfoldable pub copies_from : {P : Type 0} → ℕ → List (Bracket P) → List Copy
copies_from i [] = []
copies_from i (k ∷ ks) = copies_at i (copies k) ++ copies_from (i + 1) ks

abbrev pub floaters_by : {P : Type 0} → Line P → List Copy
floaters_by t = copies_from 0 t.brackets

abbrev pub brackets_of : List Copy → List ℕ
brackets_of l = map (λ c. c.bracket) l

abbrev pub copies_of : List Copy → List ℕ
copies_of l = map (λ c. c.copy) l

-- ---- "Permitted positions: residues 1 to n for an unlabelled unknown one; the residues of its range; for a label, the position or range of its
-- definition, if it has one in the sequence or at a terminus, and those of its references, each once."
abbrev pub between : ℕ → ℕ → ℕ → Bool
between a e x = leb a x && leb x e

abbrev pub own_position : {P : Type 0} → Bracket P → ℕ → Kind → Bool
own_position k x c = not (unknown_or_labile c) && between k.first k.last x

-- some reference to one of the bracket's labels stands at x
unfoldable pub referred_at : {P : Type 0} → Bracket P → ℕ → List (Bracket P) → Bool
referred_at k x [] = false
referred_at k x (r ∷ rs) = shared (defined_by k) (referred_by r) && between r.first r.last x || referred_at k x rs

abbrev pub is_unlabelled_unknown : {P : Type 0} → Bracket P → Kind → Bool
is_unlabelled_unknown k c = is_unknown c && not (is_labelled k)

unfoldable pub may_stand : {P : Type 0} → Line P → Bracket P → ℕ → Bool
may_stand t k x =
    cond (is_unlabelled_unknown k k.kind) (between 1 (length t.residues) x)
    (own_position k x k.kind || referred_at k x t.brackets)

unfoldable pub permitted : {P : Type 0} → Line P → Bracket P → List ℕ
permitted t k = keep (λ x. may_stand t k x && not (member x (struck_out t))) (positions t)

-- ---- what placements are made of: for each floating copy, in order, the positions permitted to it, and whether it is a further copy of its bracket
pub record Floating : Type 0 where
  pub lists : List (List ℕ)
  pub marks : List Bool

abbrev pub is_further : ℕ → Bool
is_further copy = ltb 1 copy

abbrev pub floating_of : {P : Type 0} → Line P → Floating
floating_of t = record { lists = map (permitted t) (floaters t); marks = map is_further (copies_of (floaters_by t)) }

-- ---- "rows of floater and position, ascending, with their number, floaters counted from 1"
unfoldable pub rows_from : ℕ → List (List ℕ) → List Site
rows_from f [] = []
rows_from f (q ∷ qs) = map (λ x. record { floater = f; position = x }) q ++ rows_from (f + 1) qs

unfoldable pub rows_of : {P : Type 0} → Line P → List Site
rows_of t = rows_from 1 (floating_of t).lists

-- ---- "A lookup in any rows, ordered or not, gives the index (from 0) and the position of a floater's first row among the first so many"
unfoldable pub first_row : ℕ → ℕ → List Site → Option Row
first_row f i [] = none
first_row f i (r ∷ rs) = cond (eqb r.floater f) (some (record { index = i; position = r.position })) (first_row f (i + 1) rs)

-- "a number above 2,048 is read as 2,048"
abbrev pub lookup : List Site → ℕ → ℕ → Option Row
lookup rs n f = first_row f 0 (take (min n row_limit) rs)
