-- A score with no sign is read as a number behind a sign that is not `-`. Assumes nothing.
use Prim.Native.Nat.{ℕ}
use mathlib.Core.Path.{◌≡◌, refl}
use mathlib.Core.Bool.{Bool, true, false, cond}
use mathlib.Core.Option.{none, some}
use mathlib.Core.List.{List}
use Rattle.scope.specs.Bytes.{is_digit, is_sign, value}
use Rattle.scope.specs.Line.{Part}
use Rattle.scope.specs.Lists.{given}
use Rattle.scope.specs.Content.{Digits, signed, whole, digit_step, Context, scoring, in_score, Content, going, lost, inner_step}

unsigned_step : {P : Type 0} (go : Digits → Content P) (d : Digits) (x : Bool)
    → cond x (go d) lost ≡ given (cond x (some d) none) go lost
unsigned_step go d true = refl
unsigned_step go d false = refl

pub score_digit : {P : Type 0} (i : P) (c : Context P) (p : Part P) (at : P) (name : List ℕ) (b : ℕ) → is_sign b ≡ false
    → inner_step i (scoring c p at name) b ≡ given (digit_step (signed false) b) (λ d. going (in_score c p at name i d)) lost
unfolding inner_step digit_step
score_digit i c p at name b e = rw e (unsigned_step (λ d. going (in_score c p at name i d)) (whole false (value b)) (is_digit b))
