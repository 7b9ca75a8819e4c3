-- Refusals 1 to 4 in the order of trying, and what is left where none of them is due.
use mathlib.Core.Path.{◌≡◌, refl, ap, ◌∙◌}
use mathlib.Core.Option.{some}
use mathlib.Core.List.{List, [], ◌∷◌}
use Prim.Native.Nat.{ℕ, ◌<◌, ◌≤◌}
use native.Mathlib.Omega.{arith}
use borrow.Author.Tests.{lt-ltb}
use lib.ListN.{length}
use Rattle.scope.specs.Limits.{line_limit}
use Rattle.scope.specs.Line.{Line}
use Rattle.scope.specs.Lists.{given}
use Rattle.scope.specs.Reading.{stuck, holds, reading}
use Rattle.scope.specs.Refusals.{least, refusal1, refusal2, refusal3, first_due, refused, judged, outcome}
use Rattle.reading_laws.proofs.Printable.{order_printable}
use Rattle.reading_laws.proofs.Taken.{none_long}

in_order_lem : (s : List ℕ) → outcome s ≡ given (least (refusal1 s)) (refused 1) (given (least (refusal2 s)) (refused 2) (given (least (refusal3 s)) (refused 3) (judged (reading s))))
unfolding outcome first_due
in_order_lem s = refl

pub is_empty : (s : List ℕ) → length s ≡ 0 → outcome s ≡ refused 1 0
unfolding refusal1 least
is_empty [] e = in_order_lem []
is_empty (b ∷ s) e = absurd (omega arith)

some_byte : (s : List ℕ) → (length s ≡ 0 → ⊥) → refusal1 s ≡ []
unfolding refusal1
some_byte [] e = absurd (e refl)
some_byte (b ∷ s) e = refl

module _ (s : List ℕ) (e1 : length s ≡ 0 → ⊥) where
  pub is_long : line_limit < length s → outcome s ≡ refused 2 line_limit
  unfolding refusal2 least
  is_long h = in_order_lem s ∙ rw (some_byte s e1, lt-ltb line_limit (length s) h)

  module _ (e2 : length s ≤ line_limit) where
    pub is_unprintable : (p : ℕ) → least (refusal3 s) ≡ some p → outcome s ≡ refused 3 p
    unfolding least
    is_unprintable p e = in_order_lem s ∙ rw (some_byte s e1, none_long s e2, e)

    behind_three : refusal3 s ≡ [] → outcome s ≡ judged (reading s)
    unfolding least
    behind_three e = in_order_lem s ∙ rw (some_byte s e1, none_long s e2, e)

    pub is_stuck : (p : ℕ) → refusal3 s ≡ [] → reading s ≡ stuck p → outcome s ≡ refused 4 p
    is_stuck p e q = behind_three e ∙ ap judged q

    -- what reads to its end is printable
    pub of_order : (l : Line ℕ) → reading s ≡ holds l → outcome s ≡ judged (holds l)
    of_order l q = behind_three (order_printable s l q) ∙ ap judged q
