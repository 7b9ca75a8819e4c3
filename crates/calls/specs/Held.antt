-- What every call over tables tries first, and what holds once it is tried. Document 01: "Every other call tries 13, then 14 if it takes tables,
-- then its own".
use Rattle.std.specs.Prelude.{◌≡◌, true, false, cond, List, ℕ, ◌≤◌, ◌<◌, ℤ, nat_abs, length, take}
use Rattle.scope.specs.declared.refusals.Refusal.{Refusal}
use Rattle.scope.specs.Limits.{copy_limit}
use Rattle.scope.specs.Layout.{bytes_size, numbers_size, tables_in}
use Rattle.scope.specs.Positions.{floaters}
use Rattle.scope.specs.Masses.{total}
use Rattle.scope.specs.Answers.{Said, good, refuses, reason_number, too_short, are_tables, over_tables}
use Rattle.areas.specs.Bounds.{Bounds}
use Rattle.mass_laws.specs.Terms.{total_limit}

-- 13, or nothing where both areas are long enough
abbrev pub length_said : List ℕ → List ℤ → Said (Unit {0})
length_said bs ns = cond (too_short bs ns) (refuses 13 0) (good tt)

-- 13, 14, or nothing where neither is due
abbrev pub held_said : List ℕ → List ℤ → Said (Unit {0})
held_said bs ns = over_tables bs ns (λ t. good tt)

-- what holds where neither is
pub record Grounds (bs : List ℕ) (ns : List ℤ) : Type 0 where
  pub long : too_short bs ns ≡ false
  pub tables : are_tables bs ns ≡ true
  pub bounds : Bounds bs ns
  pub few : length (floaters (tables_in bs ns)) ≤ copy_limit
  pub below : nat_abs (total (tables_in bs ns)) < total_limit

-- ---- what the two steps hand on: the arrays that stand at the front of what is lent
abbrev pub says_refusal : Refusal → Said (Unit {0})
says_refusal e = refuses (reason_number e.reason) e.place

pub record Sized (bs : List ℕ) (ns : List ℤ) (b : List ℕ) (n : List ℤ) : Type 0 where
  pub long : too_short bs ns ≡ false
  pub bytes : b ≡ take bytes_size bs
  pub numbers : n ≡ take numbers_size ns

-- they hold the tables that what is lent holds
pub record Held (bs : List ℕ) (ns : List ℤ) (b : List ℕ) (n : List ℤ) : Type 0 where
  pub grounds : Grounds b n
  pub same : tables_in b n ≡ tables_in bs ns
  pub tried : too_short bs ns ≡ false
  pub taken : are_tables bs ns ≡ true
