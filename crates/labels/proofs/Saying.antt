-- What is said from a place within a label on is said from each place that leads there; and at the end of a line, or at a byte that is lost.
use mathlib.Core.Path.{◌≡◌, ap, ◌∙◌}
use mathlib.Core.List.{List}
use Prim.Native.Nat.{ℕ, ◌<◌, ◌≤◌}
use native.Mathlib.Omega.{arith}
use lib.ListN.{length, get_or}
use Rattle.scope.specs.declared.grammar.Slot.{Slot}
use Rattle.scope.specs.Line.{Part}
use Rattle.scope.specs.Content.{Context, Content, lost, hashed, inner_step}
use Rattle.scope.specs.Reading.{Held, stuck}
use Rattle.values.specs.Says.{through}
use Rattle.values.proofs.Through.{through_end, through_lost}
use Rattle.std.specs.Prelude.{Result, Ok, Err}
use Rattle.scope.specs.declared.grammar.Stuck.{Stuck}
use Rattle.labels.specs.declared.Label.{Label}
use Rattle.labels.specs.Says.{LabelSays}
use Rattle.labels.specs.Within.{SaysFrom}

module _ (line : List ℕ) (at : ℕ) where
  pub said_before : (i j : ℕ) (F G : Part ℕ → Context ℕ → ℕ → Content ℕ)
      → ((q : Part ℕ) (s : Slot) (o : ℕ) (h : Held ℕ) (c : Context ℕ) → through line s o h i (F q c) ≡ through line s o h j (G q c)) → (r : Result Label Stuck)
      → SaysFrom line at j G r → SaysFrom line at i F r
  unfolding SaysFrom
  said_before i j F G e (Err p) w = λ q s o h c. e q s o h c ∙ w q s o h c
  said_before i j F G e (Ok r) w = record { found = w.found; is_label = w.is_label; on = λ q s o h c. e q s o h c ∙ w.on q s o h c }

  -- the line is over
  pub over : (j : ℕ) (F : Part ℕ → Context ℕ → ℕ → Content ℕ) → length line ≤ j → j ≤ length line → SaysFrom line at j F (Err (record { at = j }))
  unfolding SaysFrom
  over j F k n = let e : length line ≡ j = omega arith in λ q s o h c. through_end line s o h j (F q c) k ∙ ap stuck e

  -- no byte goes on so
  pub lost_there : (j : ℕ) (F : Part ℕ → Context ℕ → ℕ → Content ℕ) → j < length line → ((q : Part ℕ) (c : Context ℕ) → F q c (get_or line j 0) ≡ lost)
      → SaysFrom line at j F (Err (record { at = j }))
  unfolding SaysFrom
  lost_there j F k e = λ q s o h c. through_lost line s o h j (F q c) k (e q c)

  -- behind the `#`
  pub label_says : (r : Result Label Stuck) → SaysFrom line at at (λ q c. inner_step at (hashed c q)) r → LabelSays line at r
  unfolding SaysFrom
  label_says (Err p) w = λ q s o h c g. w q s o h c
  label_says (Ok r) w = record { found = w.found; is_label = w.is_label; reads = λ q. record { on = λ s o h c g. w.on q s o h c } }
