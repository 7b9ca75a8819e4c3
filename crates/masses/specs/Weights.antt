-- What the answers of this crate say, by their cases.
use Rattle.std.specs.Prelude.{◌≡◌, refl, Bool, true, false, cond, ◌||◌, ℕ, eqb, ℤ, Result, Ok, Err}
use Rattle.scope.specs.Layout.{mass_code, composition_code}
use Rattle.scope.specs.Line.{Line}
use Rattle.scope.specs.Tables.{Tables}
use Rattle.scope.specs.Answers.{Said, good, refuses, weighed}
use Rattle.scope.specs.Masses.{total, lacking}
use Rattle.masses.specs.declared.Lacking.{Lacking}

-- by its code, a value has a mass: it is one, or a composition
abbrev pub weighs : ℕ → Bool
weighs v = eqb v mass_code || eqb v composition_code

-- the total where every modification has a stated mass, else how many have none
unfoldable pub weight_of : {P : Type 0} → Line P → Result ℤ Lacking
weight_of t = cond (eqb (lacking t) 0) (Ok (total t)) (Err (record { count = lacking t }))

-- as an answer: the total, or 16 with how many have none
abbrev pub says_weight : Result ℤ Lacking → Said ℤ
says_weight (Ok m) = good m
says_weight (Err l) = refuses 16 l.count

pub weight_said : (t : Tables) → says_weight (weight_of t) ≡ weighed t (total t)
unfolding weight_of
weight_said t = by (eqb (lacking t) 0)
  where
    by : (b : Bool) → says_weight (cond b (Ok (total t)) (Err (record { count = lacking t }))) ≡ cond b (good (total t)) (refuses 16 (lacking t))
    by true = refl
    by false = refl
