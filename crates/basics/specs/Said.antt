-- What an answer says: a success is no refusal, and equal ones say equal things.
use Rattle.std.specs.Prelude.{◌≡◌, ℕ}
use Rattle.std.proofs.Common.{arith}
use Rattle.scope.specs.Answers.{Said, good, refuses}

pub not_both : {A : Type 0} {a : A} {n p : ℕ} → good a ≡ refuses n p → ⊥
not_both e = let z : ◌≡◌ {A = ℕ} 0 1 = cc in omega arith

pub same_good : {A : Type 0} {a b : A} → ◌≡◌ {A = Said A} (good a) (good b) → a ≡ b
same_good e = cc

pub same_number_lem : {A : Type 0} {n p m q : ℕ} → ◌≡◌ {A = Said A} (refuses n p) (refuses m q) → n ≡ m
same_number_lem e = cc

pub same_place : {A : Type 0} {n p m q : ℕ} → ◌≡◌ {A = Said A} (refuses n p) (refuses m q) → p ≡ q
same_place e = cc
