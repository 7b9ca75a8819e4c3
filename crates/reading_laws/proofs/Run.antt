-- The reader goes from byte to byte: a line in two pieces, a dead state, the rest of a line from a place on, and what is noted of places.
use Prim.Native.Nat.{ℕ, suc, ◌+◌, ◌≤◌, ◌<◌}
use native.Mathlib.Omega.{arith}
use Rattle.std.proofs.Common.{add-one, sym, ◌∙◌, drop_of_length-le, drop-cons}
use Rattle.std.proofs.Math.Nat.{add-zero}
use Rattle.std.specs.Prelude.{◌≡◌, Bool, true, false, cond, drop, get_or}
use Rattle.std.proofs.Math.Path.{refl, ap}
use Rattle.std.proofs.Math.Option.{Option, none, some}
use mathlib.Core.List.{List, [], ◌∷◌, ◌++◌}
use Rattle.std.proofs.Math.ListN.{length}
use Rattle.scope.specs.Line.{Line}
use Rattle.scope.specs.Reading.{may_end, State, dead, outside, inside, placing, step, run, start, Reading, stuck, holds, line_of, ended, reading}
use Rattle.scope.specs.Tables.{Tables, tables_of}
use Rattle.scope.specs.Lists.{optional}
use Rattle.reading_laws.proofs.Places.{map_held, map_state, step_map, tables_map}

module _ {P : Type 0} (note : ℕ → P) where
  pub run_nil : (i : ℕ) (s : State P) → run note i s [] ≡ s
  unfolding run
  run_nil i s = refl

  pub run_cons : (i : ℕ) (s : State P) (b : ℕ) (l : List ℕ) → run note i s (b ∷ l) ≡ run note (i + 1) (step (note i) s b) l
  unfolding run
  run_cons i s b l = refl

  -- a line in two pieces
  pub run_append : (i : ℕ) (s : State P) (a b : List ℕ) → run note i s (a ++ b) ≡ run note (i + length a) (run note i s a) b
  unfolding run
  run_append i s [] b = rw add-zero
  run_append i s (x ∷ a) b =
      let e : i + 1 + length a ≡ i + suc (length a) = omega arith in
      run_append (i + 1) (step (note i) s x) a b ∙ ap (λ n. run note n (run note (i + 1) (step (note i) s x) a) b) e

  -- a dead state stays dead
  pub run_dead : (i : ℕ) (p : P) (l : List ℕ) → run note i (dead p) l ≡ dead p
  unfolding run step
  run_dead i p [] = refl
  run_dead i p (b ∷ l) = run_dead (i + 1) p l

-- what the line says when the bytes before a place have led to a state
unfoldable pub rest : List ℕ → ℕ → State ℕ → Reading
rest line at s = ended (length line) (run (λ i. i) at s (drop at line))

pub rest_start : (line : List ℕ) → reading line ≡ rest line 0 start
unfolding rest reading
rest_start line = refl

pub rest_step : (line : List ℕ) (at : ℕ) (s : State ℕ) → at < length line → rest line at s ≡ rest line (at + 1) (step at s (get_or line at 0))
unfolding rest run
rest_step line at s h = simp (drop-cons line at 0 h, run_cons (λ i. i), add-one)

pub rest_end : (line : List ℕ) (at : ℕ) (s : State ℕ) → length line ≤ at → rest line at s ≡ ended (length line) s
unfolding rest run
rest_end line at s h = rw (drop_of_length-le line)

pub rest_dead : (line : List ℕ) (at p : ℕ) → rest line at (dead p) ≡ stuck p
unfolding rest
rest_dead line at p = rw (run_dead (λ i. i) at p (drop at line))

-- ---- places renamed
pub run_map : {P Q : Type 0} (f : P → Q) (note : ℕ → P) (i : ℕ) (s : State P) (l : List ℕ)
    → map_state f (run note i s l) ≡ run (λ j. f (note j)) i (map_state f s) l
unfolding run
run_map f note i s [] = refl
run_map f note i s (b ∷ l) =
    run_map f note (i + 1) (step (note i) s b) l ∙ ap (λ x. run (λ j. f (note j)) (i + 1) x l) (step_map f (note i) s b)

-- ---- places forgotten: the tables of a line, from a run that notes none
abbrev pub unnoted : ℕ → Unit {0}
unnoted i = tt

abbrev pub tables_read : Reading → Option Tables
tables_read (stuck p) = none
tables_read (holds l) = some (tables_of l)

abbrev pub told : {P : Type 0} → State P → Option (Line P)
told (dead p) = none
told (outside m h) = cond (may_end m) (some (line_of h)) none
told (inside s at h c) = none
told (placing h s) = none

told_ended : (n : ℕ) (s : State ℕ) → tables_read (ended n s) ≡ optional tables_of (told (map_state unnoted s))
told_ended n (dead p) = refl
told_ended n (outside m h) = go (may_end m)
  where
    go : (t : Bool) → tables_read (cond t (holds (line_of h)) (stuck n)) ≡ optional tables_of (cond t (some (line_of (map_held unnoted h))) none)
    go true = ap some (sym (tables_map unnoted (line_of h)))
    go false = refl
told_ended n (inside s at h c) = refl
told_ended n (placing h s) = refl

pub tables_run : (l : List ℕ) → tables_read (reading l) ≡ optional tables_of (told (run unnoted 0 start l))
unfolding reading
tables_run l = told_ended (length l) (run (λ j. j) 0 start l) ∙ ap (λ s. optional tables_of (told s)) (run_map unnoted (λ j. j) 0 start l)
