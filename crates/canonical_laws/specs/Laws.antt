-- Laws of the canonical line, stated. Their proofs: proofs/Proved.antt, and the files that it cites.
use Rattle.std.specs.Prelude.{ℕ, ◌≤◌, ◌≡◌, ◌↔◌, List, length}
use Rattle.scope.specs.Line.{Line}
use Rattle.scope.specs.Refusals.{accepted, outcome}
use Rattle.scope.specs.Canonical.{canonical}
use Rattle.scope.specs.Tables.{Tables, tables_of}

-- the line s is accepted, and reads to the tables t
pub record ReadsTo (s : List ℕ) (t : Tables) : Type 0 where
  pub line : Line ℕ
  pub taken : outcome s ≡ accepted line
  pub tables : tables_of line ≡ t

pub record Laws : Type 0 where
  -- demand 2: "Tables are written as one canonical line that reads back to the same tables"
  pub reads_back : (s : List ℕ) (l : Line ℕ) → outcome s ≡ accepted l → ReadsTo (canonical l) (tables_of l)
  -- demand 2: "two accepted lines share it exactly when their tables are equal"
  pub one_entry : (s s' : List ℕ) (l l' : Line ℕ) → outcome s ≡ accepted l → outcome s' ≡ accepted l' → canonical l ≡ canonical l' ↔ tables_of l ≡ tables_of l'
  -- it is never longer than a line that reads to its tables, so that "line 1 to 4,096 bytes" holds for it
  pub no_longer : (s : List ℕ) (l : Line ℕ) → outcome s ≡ accepted l → length (canonical l) ≤ length s
  -- what is read from it has it as its canonical line again
  pub itself : (s : List ℕ) (l l' : Line ℕ) → outcome s ≡ accepted l → outcome (canonical l) ≡ accepted l' → canonical l' ≡ canonical l
  -- it is written from the tables alone
  pub of_tables : (l : Line ℕ) → canonical (tables_of l) ≡ canonical l
  -- 14 "tables that no accepted line reads to": tables are an accepted line's exactly when their own canonical line reads to them
  pub some_line : (t : Tables) → ((s : List ℕ) × ReadsTo s t) ↔ ReadsTo (canonical t) t
