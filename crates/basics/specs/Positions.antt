-- A line has as many positions as residues and termini, and what stands at each; on which of them a modification is placed; when the same floats; and which
-- copies are further ones.
use Rattle.std.specs.Prelude.{◌≡◌, Bool, true, false, cond, ◌&&◌, eqb, ℤ}
use Rattle.std.proofs.Math.Path.{refl}
use Rattle.std.proofs.Common.{ap, ap₂, ◌∙◌, arith, length-append}
use mathlib.Core.List.{List, [], ◌∷◌, ◌++◌, map, map-append}
use Prim.Native.Nat.{ℕ, zero, suc, ◌+◌, ◌<◌}
use Rattle.std.proofs.Math.ListN.{length, get_or, length-map, get_or-append}
use Rattle.scope.specs.Layout.{tables_in, residues_field}
use Rattle.scope.specs.Line.{Bracket, Residue, Line}
use Rattle.scope.specs.Lists.{keep, flat, tabled, member}
use Rattle.scope.specs.Kinds.{is_declared}
use Rattle.scope.specs.Modifications.{is_modification, copies}
use Rattle.scope.specs.Places.{n_terminus, c_terminus}
use Rattle.scope.specs.Positions.{sites, positions, names, reached, is_placed, placed_on, copies_at, copies_from, copies_of, Floating, is_further}
use Rattle.basics.specs.Members.{member_in, in_member, in_keep, keep_in}
use Rattle.basics.specs.Tabled.{tabled_in, residues_many}
use Rattle.basics.specs.Tests.{same_test}

pub sites_many : {P : Type 0} (t : Line P) → length (sites t) ≡ length t.residues + 2
unfolding sites
sites_many t = omega (arith, length-append (map (λ r. r.letter) t.residues) (c_terminus ∷ []), length-map t.residues (λ r. r.letter))

pub sites_in : (bs : List ℕ) (ns : List ℤ) → length (sites (tables_in bs ns)) ≡ residues_field bs + 2
sites_in bs ns = sites_many (tables_in bs ns) ∙ ap (λ n. n + 2) (residues_many bs ns)

-- the N-terminus, the residues, the C-terminus
module _ {P : Type 0} (t : Line P) where
  pub first_site : get_or (sites t) 0 0 ≡ n_terminus
  unfolding sites
  first_site = refl

  pub residue_site : (i : ℕ) (d : Residue P) → i < length t.residues → get_or (sites t) (suc i) 0 ≡ (get_or t.residues i d).letter
  unfolding sites
  residue_site i d h =
      get_or-append (map (λ r. r.letter) t.residues) (c_terminus ∷ []) 0 i (omega (arith, length-map t.residues (λ r. r.letter)))
      ∙ at t.residues i h
    where
      at : (rs : List (Residue P)) (i : ℕ) → i < length rs → get_or (map (λ r. r.letter) rs) i 0 ≡ (get_or rs i d).letter
      at [] i h = absurd (omega arith)
      at (r ∷ rs) zero h = refl
      at (r ∷ rs) (suc i) h = at rs i (omega arith)

  pub last_site : get_or (sites t) (suc (length t.residues)) 0 ≡ c_terminus
  unfolding sites
  last_site = go t.residues
    where
      go : (rs : List (Residue P)) → get_or (map (λ r. r.letter) rs ++ (c_terminus ∷ [])) (length rs) 0 ≡ c_terminus
      go [] = refl
      go (r ∷ rs) = go rs

  -- a declaration reaches the positions whose sites its places name
  pub reaches : (k : Bracket P) (x : ℕ) → x < length (sites t) → member x (reached t k) ≡ names t k.places x
  unfolding reached
  reaches k x h =
      same_test (member x (keep (names t k.places) (positions t))) (names t k.places x)
      (λ e. (in_keep (names t k.places) x (positions t) (member_in x _ e)).1)
      (λ e. in_member x _ (keep_in (names t k.places) x (positions t) (tabled_in 0 (length (sites t)) x (omega arith) (omega arith)) e))

-- the same floats where it has the same positions and the same further copies
pub same_floats : (f g : Floating) → f.lists ≡ g.lists → f.marks ≡ g.marks → f ≡ g
same_floats f g e h = ap₂ (λ qs ms. record { lists = qs; marks = ms }) e h

-- which are further copies, bracket by bracket: all of one bracket's but its first
tabled_marks : (i n j : ℕ) → map is_further (copies_of (tabled (λ c. record { bracket = i; copy = c }) j n)) ≡ tabled is_further j n
unfolding tabled
tabled_marks i zero j = refl
tabled_marks i (suc n) j = ap (λ l. is_further j ∷ l) (tabled_marks i n (j + 1))

pub marks_of_lem : {P : Type 0} (i : ℕ) (ks : List (Bracket P)) → map is_further (copies_of (copies_from i ks)) ≡ flat (λ k. tabled is_further 1 (copies k)) ks
unfolding copies_from flat
marks_of_lem i [] = refl
marks_of_lem i (k ∷ ks) =
    ap (map is_further) (map-append (λ c. c.copy) (copies_at i (copies k)) (copies_from (i + 1) ks))
    ∙ map-append is_further (copies_of (copies_at i (copies k))) (copies_of (copies_from (i + 1) ks))
    ∙ ap₂ ◌++◌ (tabled_marks i (copies k) 1) (marks_of_lem (i + 1) ks)

-- a declaration is placed on what it reaches, any other on its own position
pub placed_on_lem : {P : Type 0} (t : Line P) (k : Bracket P) (x : ℕ)
    → member x (placed_on t k) ≡ cond (is_declared k.kind && is_modification k) (member x (reached t k)) (is_placed k && eqb x k.first)
unfolding placed_on member
placed_on_lem t k x = by (is_declared k.kind && is_modification k) (is_placed k) (eqb x k.first) refl
  where
    by : (d p u : Bool) → eqb x k.first ≡ u → member x (cond d (reached t k) (cond p (k.first ∷ []) [])) ≡ cond d (member x (reached t k)) (p && u)
    by true p u e = refl
    by false true true e = rw e
    by false true false e = rw e
    by false false u e = refl
