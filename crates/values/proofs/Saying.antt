-- What is said from a place within a value on is said from each place that leads there; and at the end of a line, or at a byte that is lost.
use mathlib.Core.Path.{◌≡◌, ap, ◌∙◌}
use mathlib.Core.Bool.{Bool}
use mathlib.Core.List.{List}
use Prim.Native.Nat.{ℕ, ◌<◌, ◌≤◌}
use native.Mathlib.Omega.{arith}
use lib.ListN.{length, get_or}
use Rattle.scope.specs.declared.grammar.Slot.{Slot}
use Rattle.scope.specs.Content.{Context, Content, lost, begin, inner_step}
use Rattle.scope.specs.Reading.{Held, stuck}
use Rattle.std.specs.Prelude.{Result, Ok, Err}
use Rattle.scope.specs.declared.grammar.Stuck.{Stuck}
use Rattle.values.specs.declared.Value.{Value}
use Rattle.values.specs.Says.{through, ValueSays}
use Rattle.values.specs.Within.{SaysFrom}
use Rattle.values.proofs.Through.{through_end, through_same, through_lost}

module _ (line : List ℕ) (at : ℕ) where
  pub said_before : (i j : ℕ) (F G : Context ℕ → ℕ → Content ℕ)
      → ((s : Slot) (o : ℕ) (h : Held ℕ) (c : Context ℕ) → through line s o h i (F c) ≡ through line s o h j (G c)) → (r : Result Value Stuck)
      → SaysFrom line at j G r → SaysFrom line at i F r
  unfolding SaysFrom
  said_before i j F G e (Err p) w = λ s o h c. e s o h c ∙ w s o h c
  said_before i j F G e (Ok v) w = record { found = w.found; is_value = w.is_value; on = λ s o h c. e s o h c ∙ w.on s o h c }

  -- the byte does the same
  pub alike : (j : ℕ) (F G : Context ℕ → ℕ → Content ℕ) → ((c : Context ℕ) → j < length line → F c (get_or line j 0) ≡ G c (get_or line j 0)) → (r : Result Value Stuck)
      → SaysFrom line at j G r → SaysFrom line at j F r
  alike j F G e r w = said_before j j F G (λ s o h c. through_same line s o h j (F c) (G c) (e c)) r w

  -- the line is over
  pub over : (j : ℕ) (F : Context ℕ → ℕ → Content ℕ) → length line ≤ j → j ≤ length line → SaysFrom line at j F (Err (record { at = j }))
  unfolding SaysFrom
  over j F k n = let e : length line ≡ j = omega arith in λ s o h c. through_end line s o h j (F c) k ∙ ap stuck e

  -- no byte goes on so
  pub lost_there : (j : ℕ) (F : Context ℕ → ℕ → Content ℕ) → j < length line → ((c : Context ℕ) → F c (get_or line j 0) ≡ lost) → SaysFrom line at j F (Err (record { at = j }))
  unfolding SaysFrom
  lost_there j F k e = λ s o h c. through_lost line s o h j (F c) k (e c)

  -- what is said whatever the bracket is said where a reference may stand, or may not
  pub begins : (refers : Bool) (r : Result Value Stuck) → SaysFrom line at at (λ c. inner_step at (begin c)) r → ValueSays line at refers r
  unfolding SaysFrom
  begins refers (Err p) w = λ s o h c g. w s o h c
  begins refers (Ok v) w = record { found = w.found; is_value = w.is_value; on = λ s o h c g. w.on s o h c }
