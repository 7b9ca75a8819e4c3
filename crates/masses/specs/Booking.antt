-- A ledger while it is booked: what its entries keep to, and what they hold.
use Rattle.std.specs.Prelude.{◌≡◌, cond, List, ◌++◌, ℕ, ◌+◌, ◌*◌, ◌^◌, ◌≤◌, ◌<◌, ltb, ℤ, pos, nat_abs, ◌+ℤ◌, length, get_or, set, drop, replicate}
use Rattle.scope.specs.Limits.{residue_limit, bracket_limit, position_limit, copy_limit, count_limit}
use Rattle.scope.specs.Line.{Bracket}
use Rattle.scope.specs.Layout.{bracket_in, tables_in, residues_field}
use Rattle.scope.specs.Lists.{member}
use Rattle.scope.specs.Positions.{reached}
use Rattle.scope.specs.Masses.{mass_or0, placed_at, put_at}
use Rattle.areas.specs.Bounds.{Small}
use Rattle.brackets.specs.Row.{Row}
use Rattle.mass_laws.specs.Terms.{mass_limit}
use Rattle.mass_laws.specs.Weights.{booked_at}
use Rattle.masses.specs.Reach.{Reach}

-- an entry for each position, none beyond so many masses
pub record EntriesKept (l : List ℤ) (masses : ℕ) : Type 0 where
  pub whole : length l ≡ position_limit
  pub small : (x : ℕ) → x < position_limit → nat_abs (get_or l x (pos 0)) ≤ masses * mass_limit

-- a mass is booked at position y, if the ledger has it
abbrev pub booked : List ℤ → ℕ → ℤ → List ℤ
booked l y m = cond (ltb y position_limit) (set l y (get_or l y (pos 0) +ℤ m)) l

-- what its entry will be fits
abbrev pub CanBook : List ℤ → ℕ → ℤ → Type 0
CanBook l y m = y < position_limit → nat_abs (get_or l y (pos 0)) + nat_abs m < 2 ^ 63

-- a mass is booked once at each position that bracket k reaches, as a declaration, where those of the brackets before it are
pub record CanBookNamed (bs : List ℕ) (k : ℕ) (l : List ℤ) (m : ℤ) : Type 0 where
  pub row : Row bs k
  pub few_residues : residues_field bs ≤ residue_limit
  pub held : EntriesKept l k
  pub small : Small m

pub record NamedBooked (bs : List ℕ) (k : ℕ) (l l' : List ℤ) (m : ℤ) : Type 0 where
  pub held : EntriesKept l' (k + 1)
  pub entry :
      (ns : List ℤ) (x : ℕ) → x < position_limit
      → get_or l' x (pos 0) ≡ get_or l x (pos 0) +ℤ cond (member x (reached (tables_in bs ns) (bracket_in bs ns k))) m (pos 0)

-- bracket k is booked where it is placed
pub record CanPlace (bs : List ℕ) (ns : List ℤ) (k : ℕ) (l : List ℤ) : Type 0 where
  pub reach : Reach bs ns k
  pub held : EntriesKept l k

pub record BracketPlaced (bs : List ℕ) (ns : List ℤ) (k : ℕ) (l l' : List ℤ) : Type 0 where
  pub held : EntriesKept l' (k + 1)
  pub entry : (x : ℕ) → x < position_limit → get_or l' x (pos 0) ≡ get_or l x (pos 0) +ℤ booked_at (tables_in bs ns) x (bracket_in bs ns k)

-- the placed modifications are booked, of as many brackets as there may be
pub record PlacedBooked (bs : List ℕ) (ns : List ℤ) (l : List ℤ) : Type 0 where
  pub held : EntriesKept l bracket_limit
  pub entry : (x : ℕ) → x < position_limit → get_or l x (pos 0) ≡ placed_at (tables_in bs ns) x

-- then the floating copies; i of them are put
pub record CanPut (l : List ℤ) (i c : ℕ) (m : ℤ) : Type 0 where
  pub held : EntriesKept l (bracket_limit + i)
  pub few : i ≤ copy_limit
  pub count : c ≤ count_limit
  pub small : Small m

pub record CanFloat (bs : List ℕ) (ns : List ℤ) (k : ℕ) (l : List ℤ) (i : ℕ) : Type 0 where
  pub reach : Reach bs ns k
  pub held : EntriesKept l (bracket_limit + i)
  pub few : i ≤ copy_limit

-- after c copies of a mass, r are put: what is still to put besides them is the same
pub record CopiesPut (l l' : List ℤ) (at : List ℕ) (i c : ℕ) (m : ℤ) (r : ℕ) : Type 0 where
  pub held : EntriesKept l' (bracket_limit + r)
  pub few : r ≤ copy_limit
  pub entry :
      (b : Bracket (Unit {0})) → mass_or0 b ≡ m → (fs : List (Bracket (Unit {0}))) (x : ℕ) → x < position_limit
      → get_or l x (pos 0) +ℤ put_at x (replicate c b ++ fs) (drop i at) ≡ get_or l' x (pos 0) +ℤ put_at x fs (drop r at)
