-- Bytes copied from the front on, and positions that are bytes: what an allowed placement holds fits a byte. Assumes nothing.
use mathlib.Core.Path.{◌≡◌, refl, sym, ap, ap₂, ◌∙◌, subst}
use mathlib.Core.Bool.{Bool, true, false, ◌&&◌, false≢true}
use mathlib.Core.List.{List, [], ◌∷◌, ◌++◌, append-nil}
use Prim.Native.Nat.{ℕ, ◌+◌, ◌≤◌, ◌<◌}
use native.Mathlib.Omega.{arith}
use native.Mathlib.Numerals.{add-one}
use borrow.Author.Tests.{eqb-true}
use lib.Dec.{eqb}
use lib.ListN.{length, get_or, set, take, drop}
use lib.Seq.{paste-suc}
use native.Mathlib.Nat.{zero-add}
use Rattle.scope.specs.Lists.{all, same, member, laid}
use Rattle.scope.specs.Bytes.{byte_limit}
use Rattle.scope.specs.Limits.{copy_limit, residue_limit}
use Rattle.scope.specs.Line.{Line}
use Rattle.scope.specs.Positions.{permitted, floaters, floating_of}
use Rattle.scope.specs.Placements.{fits, allowed, in_order}
use Rattle.basics.specs.Each.{Each, In, each_all, each_map}
use Rattle.basics.specs.Members.{member_in}
use Rattle.basics.specs.Tests.{and_left, and_right}
use Rattle.placement_laws.specs.Lines.{permitted_inside}

-- ---- elements copied one by one: one more
pub copied_more : (from old : List ℕ) (i : ℕ) {now : List ℕ} → now ≡ take i from ++ drop i old → i < length from → i < length old
    → set now i (get_or from i 0) ≡ take (i + 1) from ++ drop (i + 1) old
copied_more from old i e here low = rw (e, add-one i) (simp zero-add at (paste-suc old 0 from i 0 (omega arith) here))

-- ---- positions that are bytes
abbrev pub IsByte : ℕ → Type 0
IsByte x = x < byte_limit

-- unused entries are 0
zeros : (p : List ℕ) → all (eqb 0) p ≡ true → Each IsByte p
unfolding all
zeros [] e = tt
zeros (x ∷ p) e = (let z = eqb-true 0 x (and_left (eqb 0 x) (all (eqb 0) p) e) in omega arith, zeros p (and_right (eqb 0 x) (all (eqb 0) p) e))

fitting : (qs : List (List ℕ)) (p : List ℕ) → Each (λ q. (x : ℕ) → In x q → IsByte x) qs → fits qs p ≡ true → Each IsByte p
unfolding fits
fitting [] p w e = zeros p e
fitting (q ∷ qs) [] w e = absurd (false≢true e)
fitting (q ∷ qs) (x ∷ p) w e =
    (w.0 x (member_in x q (and_left (member x q) (fits qs p) e)), fitting qs p w.1 (and_right (member x q) (fits qs p) e))

-- "1 to n the residues, n+1 the C-terminus": every permitted position of a line within the limits is a byte
pub allowed_bytes : {P : Type 0} (t : Line P) (p : List ℕ) → length t.residues ≤ residue_limit → allowed (floating_of t) p ≡ true → Each IsByte p
unfolding allowed
allowed_bytes t p few e =
    let lists = (floating_of t).lists in
    let front = and_left (eqb (length p) copy_limit && fits lists p) (in_order (floating_of t) (take (length lists) p)) e in
    fitting lists p
    (each_map (λ q. (x : ℕ) → In x q → IsByte x) (permitted t) (floaters t)
    (each_all (λ k. (x : ℕ) → In x (permitted t k) → IsByte x) (floaters t) (λ k x m. omega (arith, permitted_inside t k x m))))
    (and_right (eqb (length p) copy_limit) (fits lists p) front)
