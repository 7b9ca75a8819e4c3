-- The positions that a declaration reaches, as a test over all numbers: those of the line whose sites its places name; and as a loop over the positions meets them.
use Rattle.std.specs.Prelude.{◌≡◌, Bool, false, ◌&&◌, List, ℕ, ◌+◌, ◌≤◌, eqb, ltb, ℤ, length}
use Rattle.std.proofs.Common.{sym, ap, ◌∙◌, arith, eqb-true, ltb-true, ltb-false, lt-ltb, le-ltb}
use Rattle.std.proofs.Math.Bool.{and-false}
use Rattle.std.proofs.lemmas.Bool.{eqb-false}
use Rattle.scope.specs.Layout.{bracket_in, tables_in, residues_field}
use Rattle.scope.specs.Limits.{position_limit}
use Rattle.scope.specs.Line.{Bracket, Line}
use Rattle.scope.specs.Lists.{member, laid}
use Rattle.scope.specs.Positions.{sites, positions, names, reached}
use Rattle.basics.specs.Choice.{by_test}
use Rattle.basics.specs.Members.{member_in, in_keep}
use Rattle.basics.specs.Positions.{sites_in, reaches}
use Rattle.basics.specs.Tabled.{in_tabled}
use Rattle.basics.specs.Tests.{falsely}

reached_at_lem : {P : Type 0} (t : Line P) (k : Bracket P) (x : ℕ) → member x (reached t k) ≡ ltb x (length (sites t)) && names t k.places x
unfolding reached
reached_at_lem t k x =
    by_test (ltb x (length (sites t))) (λ e. reaches t k x (ltb-true x (length (sites t)) e) ∙ sym (ap (λ u. u && names t k.places x) e))
    (λ e.
    falsely (member x (reached t k))
    (λ m. let z = in_tabled 0 (length (sites t)) x (in_keep (names t k.places) x (positions t) (member_in x _ m)).0 in
    omega (arith, z.1, ltb-false x (length (sites t)) e))
    ∙ sym (ap (λ u. u && names t k.places x) e))

pub reached_in : (bs : List ℕ) (ns : List ℤ) (k x : ℕ) {end : ℕ} → end ≡ residues_field bs + 2
    → member x (reached (tables_in bs ns) (bracket_in bs ns k)) ≡ ltb x end && names (tables_in bs ns) (bracket_in bs ns k).places x
reached_in bs ns k x e =
    reached_at_lem (tables_in bs ns) (bracket_in bs ns k) x ∙ ap (λ n. ltb x n && names (tables_in bs ns) (bracket_in bs ns k).places x) (sites_in bs ns ∙ sym e)

-- ---- positions passed one after the other: those before the next one are those before x, but for x itself
pub next_test : (x y : ℕ) → (y ≡ x → ⊥) → ltb y (x + 1) ≡ ltb y x
next_test x y ne =
    by_test (ltb y x) (λ t. lt-ltb y (x + 1) (omega (arith, ltb-true y x t)) ∙ sym t)
    (λ t. le-ltb y (x + 1) (let f : x ≤ y = ltb-false y x t in omega arith) ∙ sym t)

-- where x is not named, the named ones before the next are those before x
pub next_unnamed : (x y : ℕ) (u : Bool) → (y ≡ x → u ≡ false) → (ltb y (x + 1) && u) ≡ (ltb y x && u)
next_unnamed x y u f =
    by_test (eqb y x) (λ e. rw (f (eqb-true y x e), and-false (ltb y (x + 1)), and-false (ltb y x))) (λ e. ap (λ w. w && u) (next_test x y (eqb-false y x e)))

-- ---- the n positions that bracket k's places name, ascending, are laid over what a slice begins with; the rest of it is as it was
pub record ReachedPut (bs : List ℕ) (k n : ℕ) (old new : List ℕ) : Type 0 where
  pub few : n ≤ position_limit
  pub many : (ns : List ℤ) → n ≡ length (reached (tables_in bs ns) (bracket_in bs ns k))
  pub put : (ns : List ℤ) → new ≡ laid (reached (tables_in bs ns) (bracket_in bs ns k)) old
