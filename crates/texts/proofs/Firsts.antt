-- The first of two places at which a pair is too deep, and what a byte tells. Assumes nothing.
use Prim.Native.Nat.{ℕ, ◌+◌, ◌-◌, ◌≤◌, ◌<◌}
use mathlib.Core.Path.{◌≡◌, refl, sym}
use mathlib.Core.Bool.{Bool, true, false, cond}
use mathlib.Core.List.{List}
use native.Mathlib.Omega.{arith}
use lib.ListN.{length}
use borrow.Author.Tests.{le-leb, lt-leb}
use Rattle.std.specs.Prelude.{Some, None}
use Rattle.std.specs.Prelude.{Option as Perhaps}
use Rattle.std.specs.Option.{option_or}
use Rattle.std.proofs.lemmas.Option.{none-some}
use Rattle.scope.specs.Bytes.{is_opening}
use Rattle.scope.specs.Limits.{depth_limit}
use Rattle.texts.specs.Texts.{opens_too_deep, deeper, entered}

pub first_none : (d : Perhaps ℕ) → option_or d None ≡ d
first_none None = refl
first_none (Some i) = refl

pub first_some : (d x : Perhaps ℕ) → (d ≡ None → ⊥) → option_or d x ≡ d
first_some None x h = absurd (h refl)
first_some (Some i) x h = refl

pub first_there : (d : Perhaps ℕ) (i : ℕ) → option_or d (Some i) ≡ None → ⊥
first_there None i e = none-some i (sym e)
first_there (Some j) i e = none-some j (sym e)

pub first_first : (a b c : Perhaps ℕ) → option_or (option_or a b) c ≡ option_or a (option_or b c)
first_first None b c = refl
first_first (Some i) b c = refl

-- a byte that opens nothing tells nothing
pub deeper_not : (cs : List ℕ) (b i : ℕ) (d : Perhaps ℕ) → is_opening b ≡ false → deeper cs b i d ≡ d
unfolding deeper
deeper_not cs b i d e = rw e

-- one that opens a pair
pub deeper_opens : (cs : List ℕ) (b i : ℕ) (d : Perhaps ℕ) (level : ℕ) → is_opening b ≡ true → length cs ≡ level → deeper cs b i d ≡ entered level (i + 1) d
unfolding deeper entered
deeper_opens cs b i d level e f =
    let z : i + 1 - 1 ≡ i = omega arith in
    rw (e, f, z)

-- where a place is told already, nothing more is
pub deeper_told : (cs : List ℕ) (b i : ℕ) (d : Perhaps ℕ) → (d ≡ None → ⊥) → deeper cs b i d ≡ d
unfolding deeper
deeper_told cs b i d h = go (opens_too_deep (length cs) b)
  where
    go : (x : Bool) → cond x (option_or d (Some i)) d ≡ d
    go true = first_some d (Some i) h
    go false = refl

-- a pair that may stand there, and one that is too deep
pub entered_low : (level at : ℕ) (d : Perhaps ℕ) → level < depth_limit → entered level at d ≡ d
unfolding entered
entered_low level at d h = rw (lt-leb depth_limit level h)

pub entered_deep : (level at : ℕ) (d : Perhaps ℕ) → depth_limit ≤ level → entered level at d ≡ option_or d (Some (at - 1))
unfolding entered
entered_deep level at d h = rw (le-leb depth_limit level h)
