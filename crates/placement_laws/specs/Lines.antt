-- What floats of a line is orderly: the permitted positions of each floater stand in rising order, and a further copy has those of the copy before it. Each is
-- one of the line's, and no placed modification stands there.
use Rattle.std.specs.Prelude.{◌≡◌, Bool, true, not, ◌&&◌, length, replicate}
use Rattle.std.proofs.Math.Path.{refl}
use Rattle.std.proofs.Common.{sym, ap, ◌∙◌, arith}
use Rattle.std.proofs.Math.Bool.{false}
use Rattle.std.proofs.lemmas.Bool.{false≢true, not-true}
use mathlib.Core.List.{List, [], ◌∷◌, ◌++◌, map}
use Prim.Native.Nat.{ℕ, zero, suc, ◌≤◌, ◌<◌, ◌+◌}
use Rattle.std.proofs.Math.ListN.{get_or}
use Rattle.std.proofs.lemmas.List.{length-map}
use Rattle.scope.specs.Limits.{copy_limit}
use Rattle.scope.specs.Line.{Bracket, Line}
use Rattle.scope.specs.Lists.{keep, flat, tabled, member}
use Rattle.scope.specs.Modifications.{copies}
use Rattle.scope.specs.Positions.{sites, positions, struck_out, may_stand, floaters, permitted, is_further, floating_of}
use Rattle.placement_laws.specs.Standing.{Alike}
use Rattle.placement_laws.specs.Terms.{Rising, may_stand_at, marked, Orderly}
use Rattle.basics.specs.Each.{In, each_all, each_map}
use Rattle.basics.specs.Tests.{and_right}
use Rattle.basics.specs.Members.{member_none, member_in, in_keep, ordered_keep}
use Rattle.basics.specs.Positions.{sites_many, marks_of_lem}
use Rattle.basics.specs.Tabled.{in_tabled}

pub tabled_rising : (i n : ℕ) → Rising (tabled (λ y. y) i n)
unfolding tabled
tabled_rising i zero = tt
tabled_rising i (suc n) = ((λ y h. let z = in_tabled (i + 1) n y h in omega (arith, z.0)), tabled_rising (i + 1) n)

pub kept_rising : (f : ℕ → Bool) (i n : ℕ) → Rising (keep f (tabled (λ y. y) i n))
kept_rising f i n = ordered_keep ◌<◌ f (tabled (λ y. y) i n) (tabled_rising i n)

mapped_at : {A B : Type 0} (g : A → B) (l : List A) (i : ℕ) (d : A) (e : B) → i < length l → get_or (map g l) i e ≡ g (get_or l i d)
mapped_at g [] i d e h = absurd (omega arith)
mapped_at g (x ∷ l) zero d e h = refl
mapped_at g (x ∷ l) (suc i) d e h = mapped_at g l i d e (omega arith)

permitted_rising : {P : Type 0} (t : Line P) (k : Bracket P) → Rising (permitted t k)
unfolding permitted
permitted_rising t k = kept_rising _ 0 _

in_permitted : {P : Type 0} (t : Line P) (k : Bracket P) (x : ℕ) → In x (permitted t k) → In x (positions t) × ((may_stand t k x && not (member x (struck_out t))) ≡ true)
unfolding permitted
in_permitted t k x h = in_keep (λ y. may_stand t k y && not (member y (struck_out t))) x (positions t) h

pub permitted_inside : {P : Type 0} (t : Line P) (k : Bracket P) (x : ℕ) → In x (permitted t k) → x < length t.residues + 2
permitted_inside t k x h = let z = in_tabled 0 (length (sites t)) x (in_permitted t k x h).0 in omega (arith, z.1, sites_many t)

-- no floater may stand past the C-terminus
each_inside : {P : Type 0} (t : Line P) (ks : List (Bracket P)) (s x : ℕ) → member x (get_or (map (permitted t) ks) s []) ≡ true → x < length t.residues + 2
each_inside t [] s x e = member_none x e
each_inside t (k ∷ ks) zero x e = permitted_inside t k x (member_in x (permitted t k) e)
each_inside t (k ∷ ks) (suc s) x e = each_inside t ks s x e

pub line_inside : {P : Type 0} (t : Line P) (s x : ℕ) → may_stand_at (floating_of t) s x ≡ true → x < length t.residues + 2
line_inside t s x e = each_inside t (floaters t) s x e

pub permitted_free : {P : Type 0} (t : Line P) (k : Bracket P) (x : ℕ) → In x (permitted t k) → member x (struck_out t) ≡ false
permitted_free t k x h = not-true (member x (struck_out t)) (and_right (may_stand t k x) (not (member x (struck_out t))) (in_permitted t k x h).1)

pub line_many : {P : Type 0} (t : Line P) → length (floating_of t).lists ≡ length (floaters t)
line_many t = length-map (floaters t) (permitted t)

-- floater i has the positions permitted to it
pub line_at : {P : Type 0} (t : Line P) (i : ℕ) (d : Bracket P) → i < length (floaters t) → get_or (floating_of t).lists i [] ≡ permitted t (get_or (floaters t) i d)
line_at t i d h = mapped_at (permitted t) (floaters t) i d [] h

-- a further copy has what the copy before it has: both are of one bracket, since the first copy of a bracket is no further one
module _ {A B : Type 0} (n : A → ℕ) (g : A → B) (d : B) where
  abbrev marks_of : List A → List Bool
  marks_of ks = flat (λ k. tabled is_further 1 (n k)) ks

  abbrev copied : List A → List A
  copied ks = flat (λ k. replicate (n k) k) ks

  abbrev SameBefore : List Bool → List A → Type 0
  SameBefore ms l = (s : ℕ) → get_or ms (suc s) false ≡ true → get_or (map g l) s d ≡ get_or (map g l) (suc s) d

  first_unmarked : (ks : List A) → get_or (marks_of ks) 0 false ≡ false
  unfolding flat tabled
  first_unmarked [] = refl
  first_unmarked (k ∷ ks) = go (n k) (first_unmarked ks)
    where
      go : (i : ℕ) → get_or (marks_of ks) 0 false ≡ false → get_or (tabled is_further 1 i ++ marks_of ks) 0 false ≡ false
      go zero h = h
      go (suc i) h = refl

  -- i copies of k, the first of them numbered j, with others behind them
  same_in : (k : A) (j i : ℕ) (ms : List Bool) (l : List A) → get_or ms 0 false ≡ false → SameBefore ms l → SameBefore (tabled is_further j i ++ ms) (replicate i k ++ l)
  unfolding tabled
  same_in k j zero ms l e h s m = h s m
  same_in k j (suc zero) ms l e h zero m = absurd (false≢true (sym e ∙ m))
  same_in k j (suc zero) ms l e h (suc s) m = h s m
  same_in k j (suc (suc i)) ms l e h zero m = refl
  same_in k j (suc (suc i)) ms l e h (suc s) m = same_in k (j + 1) (suc i) ms l e h s m

  same_before : (ks : List A) → SameBefore (marks_of ks) (copied ks)
  unfolding flat
  same_before [] s m = absurd (false≢true m)
  same_before (k ∷ ks) s m = same_in k 1 (n k) (marks_of ks) (copied ks) (first_unmarked ks) (same_before ks) s m

pub line_same : {P : Type 0} (t : Line P) (s : ℕ) → marked (floating_of t) (s + 1) ≡ true → get_or (floating_of t).lists s [] ≡ get_or (floating_of t).lists (s + 1) []
unfolding floaters
line_same t s m =
    let i : s + 1 ≡ suc s = omega arith in
    let k : get_or (flat (λ b. tabled is_further 1 (copies b)) t.brackets) (suc s) false ≡ true = rw (sym (marks_of_lem 0 t.brackets), sym i) m in
    rw i (same_before copies (permitted t) [] t.brackets s k)

line_alike : {P : Type 0} (t : Line P) → Alike (may_stand_at (floating_of t)) (marked (floating_of t)) (length (floating_of t).lists)
line_alike t s x y l m o p h = (ap (member y) (line_same t s m) ∙ p, ap (member x) (sym (line_same t s m)) ∙ o)

pub line_orderly : {P : Type 0} (t : Line P) → length (floaters t) ≤ copy_limit → Orderly (floating_of t)
line_orderly t few =
    record {
      few = rw (line_many t) few;
      rising = each_map Rising (permitted t) (floaters t) (each_all (λ k. Rising (permitted t k)) (floaters t) (permitted_rising t));
      alike = line_alike t;
    }
