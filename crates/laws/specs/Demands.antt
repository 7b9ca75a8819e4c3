-- Demands 2 and 3 and refusal 14, stated over the definitions alone. Their proofs: proofs/Proved.antt, and the files that it cites.
use Rattle.std.specs.Prelude.{◌≡◌, true, false, cond, ◌||◌, ◌↔◌, List, [], map, ℕ, ◌+◌, ◌≤◌, ◌<◌, ℤ, pos, nat_abs, ◌+ℤ◌, eqb, length, take, get_or}
use Rattle.std.specs.Float.{binary64}
use Rattle.std.specs.Float.Ieee.{of_int, to_signed}
use Rattle.scope.specs.Limits.{row_limit}
use Rattle.scope.specs.Line.{Number, Value, mass, text, reference, composition, Part, Bracket, Line}
use Rattle.scope.specs.Refusals.{accepted, outcome}
use Rattle.scope.specs.Canonical.{canonical}
use Rattle.scope.specs.Tables.{Tables, tables_of}
use Rattle.scope.specs.Layout.{bytes_of, numbers_of, bytes_size, numbers_size, tables_in}
use Rattle.scope.specs.declared.grammar.Key.TheVariants.{Obs}
use Rattle.scope.specs.Lists.{there?, all, laid}
use Rattle.scope.specs.Modifications.{is_key}
use Rattle.scope.specs.Positions.{floaters, floating_of, rows_of}
use Rattle.scope.specs.Placements.{allowed, placements, fresh_listing}
use Rattle.scope.specs.Masses.{mass_of, stated, modifications, times, mass_or0, sum, total, lacking, ledger, labile_mass}
use Rattle.scope.specs.Answers.{Said, refuses, too_short, SomeLine, are_tables, over_tables, requested}
use Rattle.mass_laws.specs.Terms.{Fair, Limited, total_limit}
use Rattle.placement_laws.specs.Terms.{unmarked, Ascending, Rearranged, after_requests, handed_out}
use Rattle.basics.specs.Each.{In}

-- what reading a line that holds l leaves in the lent areas
abbrev pub bytes_read : Line ℕ → List ℕ → List ℕ
bytes_read l bs = laid (bytes_of l) bs

abbrev pub numbers_read : Line ℕ → List ℤ → List ℤ
numbers_read l ns = laid (numbers_of l) ns

-- the canonical line that is written from areas
abbrev pub written_from : List ℕ → List ℤ → List ℕ
written_from bs ns = canonical (tables_in bs ns)

-- ---- demand 2

-- the areas hold the tables of l, and every call takes them: neither 13 nor 14 is given
pub record HoldTables (l : Line ℕ) (bs : List ℕ) (ns : List ℤ) : Type 0 where
  pub long_enough : too_short bs ns ≡ false
  pub taken : are_tables bs ns ≡ true
  pub tables : tables_in bs ns ≡ tables_of l
  pub written : written_from bs ns ≡ canonical l

-- the line c is accepted, and reading it into the areas leaves them as they are
pub record ReadsBack (c : List ℕ) (bs : List ℕ) (ns : List ℤ) : Type 0 where
  pub line : Line ℕ
  pub reads : outcome c ≡ accepted line
  pub bytes : bytes_read line bs ≡ bs
  pub numbers : numbers_read line ns ≡ ns

pub record LineDemand2 : Type 0 where
  -- 14 is given exactly when no accepted line reads to the areas
  pub exactly_tables : (bs : List ℕ) (ns : List ℤ) → are_tables bs ns ≡ true ↔ SomeLine bs ns
  -- an accepted line leaves its tables in any areas
  pub read : (s : List ℕ) (l : Line ℕ) → outcome s ≡ accepted l → (bs : List ℕ) (ns : List ℤ) → HoldTables l (bytes_read l bs) (numbers_read l ns)
  -- "Tables are written as one canonical line that reads back to the same tables"
  pub reads_back : (bs : List ℕ) (ns : List ℤ) → are_tables bs ns ≡ true → ReadsBack (written_from bs ns) bs ns
  -- "two accepted lines share it exactly when their tables are equal"
  pub one_entry :
      (s s' : List ℕ) (l l' : Line ℕ) → outcome s ≡ accepted l → outcome s' ≡ accepted l'
      → canonical l ≡ canonical l' ↔ ((bytes_of l ≡ bytes_of l') × (numbers_of l ≡ numbers_of l'))
  -- the same of any areas that hold tables
  pub one_entry_in :
      (bs bs' : List ℕ) (ns ns' : List ℤ) → are_tables bs ns ≡ true → are_tables bs' ns' ≡ true
      → written_from bs ns ≡ written_from bs' ns' ↔ ((take bytes_size bs ≡ take bytes_size bs') × (take numbers_size ns ≡ take numbers_size ns'))
  -- it is no longer than any line that reads to the tables
  pub no_longer : (s : List ℕ) (l : Line ℕ) → outcome s ≡ accepted l → (bs : List ℕ) (ns : List ℤ) → length (written_from (bytes_read l bs) (numbers_read l ns)) ≤ length s

-- ---- demand 3

-- n requests from a fresh record hand these out
abbrev pub listed : {P : Type 0} → Line P → ℕ → List (List ℕ)
listed t n = handed_out (floating_of t) n fresh_listing

-- how many placements there are
abbrev pub many : {P : Type 0} → Line P → ℕ
many t = length (placements (floating_of t))

-- the line with another mass in the place of each one behind `Obs`
abbrev pub other_mass : {P : Type 0} → (Number P → Number P) → Value P → Value P
other_mass f (mass n) = mass (f n)
other_mass f (text s) = text s
other_mass f reference = reference
other_mass f (composition s n) = composition s n

abbrev pub remeasured_part : {P : Type 0} → (Number P → Number P) → Part P → Part P
remeasured_part f p = record { key = p.key; value = cond (is_key Obs p) (other_mass f p.value) p.value; label = p.label; at = p.at }

abbrev pub remeasured_bracket : {P : Type 0} → (Number P → Number P) → Bracket P → Bracket P
remeasured_bracket f k =
    record {
      kind = k.kind;
      first = k.first;
      last = k.last;
      count = k.count;
      counted = k.counted;
      parts = map (remeasured_part f) k.parts;
      places = k.places;
      at = k.at;
    }

abbrev pub remeasured : {P : Type 0} → (Number P → Number P) → Line P → Line P
remeasured f t = record { residues = t.residues; brackets = map (remeasured_bracket f) t.brackets }

pub record LineDemand3 {P : Type 0} (t : Line P) : Type 0 where
  -- "The listing hands out every allowed placement once, ascending": in as many requests as there are placements, and none in any later one
  pub every_allowed : (p : List ℕ) → In p (listed t (many t)) ↔ (allowed (floating_of t) p ≡ true)
  pub ascending : Ascending (listed t (many t))
  pub once : (i j : ℕ) → i < many t → j < many t → get_or (listed t (many t)) i [] ≡ get_or (listed t (many t)) j [] → i ≡ j
  pub no_further : (n : ℕ) → many t ≤ n → listed t n ≡ listed t (many t)
  -- 17 "no placement, or no further one"
  pub then_17 : (n : ℕ) → many t ≤ n → requested (floating_of t) (after_requests (floating_of t) n fresh_listing) ≡ refuses 17 0
  -- "'none' exactly when none exists"
  pub none_at_first : (requested (floating_of t) fresh_listing ≡ refuses 17 0) ↔ ((p : List ℕ) → allowed (floating_of t) p ≡ true → ⊥)
  -- "positions of one bracket's copies ascend" (02, L4): none exists exactly where none did without that rule
  pub none_as_before : ((p : List ℕ) → allowed (floating_of t) p ≡ true → ⊥) ↔ ((p : List ℕ) → allowed (unmarked (floating_of t)) p ≡ true → ⊥)
  -- and every placement that was allowed without it is an allowed one with the copies of one bracket in another order
  pub sorted : (p : List ℕ) → allowed (unmarked (floating_of t)) p ≡ true → (q : List ℕ) × (allowed (floating_of t) q ≡ true) × Rearranged t p q
  -- "the masses at all positions under any allowed placement plus the labile ones equal the line's total, exactly"
  pub adds_up : (p : List ℕ) → allowed (floating_of t) p ≡ true → sum (ledger t p) +ℤ labile_mass t ≡ total t
  -- "each holds the masses .. of the floating copy put there, nothing else"; "entries past n+1 stay zero"
  pub own_entry :
      (p : List ℕ) → allowed (floating_of t) p ≡ true → (i : ℕ) (d : Bracket P) → i < length (floaters t)
      → get_or (ledger t p) (get_or p i 0) (pos 0) ≡ mass_or0 (get_or (floaters t) i d)
  pub past : (p : List ℕ) → allowed (floating_of t) p ≡ true → (x : ℕ) → length t.residues + 1 < x → get_or (ledger t p) x (pos 0) ≡ pos 0
  -- "Below 71 times 10^12, it fits under 2^53": with declarations, below 2,111 times 10^12
  pub total_below : nat_abs (total t) < total_limit
  -- "the whole number becomes a double with nothing lost": cast back, the double is the number
  pub nothing_lost : to_signed 63 (of_int binary64 (total t)) ≡ total t
  -- "Measured masses stay out of sums" (02, L6): whatever else stands behind `Obs`, the line has the same total, as many masses lacking, and the same ledgers
  pub stay_out :
      (f : Number P → Number P)
      → (total (remeasured f t) ≡ total t) × (lacking (remeasured f t) ≡ lacking t) × ((p : List ℕ) → ledger (remeasured f t) p ≡ ledger t p)
  -- 16 "a modification has no mass": none lacks one exactly when each has a stated one, but for declarations that reach nothing
  pub all_stated : lacking t ≡ 0 ↔ all (λ k. there? (stated (mass_of k)) || eqb (times t k) 0) (modifications t) ≡ true
  -- "room is 2,048 rows"
  pub rows_fit : length (rows_of t) ≤ row_limit

-- what is answered for l is what is answered for t
pub record SameAnswers {P Q : Type 0} (l : Line P) (t : Line Q) : Type 0 where
  pub residues : length t.residues ≡ length l.residues
  pub brackets : length t.brackets ≡ length l.brackets
  pub floating : length (floaters t) ≡ length (floaters l)
  pub rows : rows_of t ≡ rows_of l
  pub positions : floating_of t ≡ floating_of l
  pub whole : total t ≡ total l
  pub missing : lacking t ≡ lacking l
  pub labile : labile_mass t ≡ labile_mass l
  pub entries : (p : List ℕ) → ledger t p ≡ ledger l p

-- ---- all of it
pub record Demands : Type 1 where
  pub demand_2 : LineDemand2
  -- a call that takes tables answers, over areas that a line was read into, what it answers of the line's tables
  pub calls :
      {A : Type 0} (f : Tables → Said A) (s : List ℕ) (l : Line ℕ) → outcome s ≡ accepted l → (bs : List ℕ) (ns : List ℤ)
      → over_tables (bytes_read l bs) (numbers_read l ns) f ≡ f (tables_of l)
  -- what the laws of masses ask is so of every accepted line and of its tables
  pub fair : (s : List ℕ) (l : Line ℕ) → outcome s ≡ accepted l → Fair l × Fair (tables_of l)
  pub limited : (s : List ℕ) (l : Line ℕ) → outcome s ≡ accepted l → Limited l × Limited (tables_of l)
  -- of every accepted line, and of all tables that a call takes
  pub demand_3 : (s : List ℕ) (l : Line ℕ) → outcome s ≡ accepted l → LineDemand3 l
  pub demand_3_in : (bs : List ℕ) (ns : List ℤ) → are_tables bs ns ≡ true → LineDemand3 (tables_in bs ns)
  -- the tables in the areas answer for the line
  pub answers : (s : List ℕ) (l : Line ℕ) → outcome s ≡ accepted l → (bs : List ℕ) (ns : List ℤ) → SameAnswers l (tables_in (bytes_read l bs) (numbers_read l ns))
