-- What a part's row notes of what stands behind its key. Assumes nothing.
use mathlib.Core.Path.{◌≡◌, refl}
use Prim.Native.Nat.{ℕ}
use Rattle.basics.specs.Choice.{by_test}
use Rattle.scope.specs.Line.{Value, mass, text, reference, composition, Part}
use Rattle.scope.specs.Layout.{value_code}
use Rattle.scope.specs.Refusals.{in_range}
use Rattle.sheet.specs.Rows.{decimals_noted, mass_noted, AsRead}
use Rattle.values.specs.Says.{body_of, body_code, number_in}

pub body_coded : (q : Part ℕ) (v : Value ℕ) → AsRead v → body_code (body_of q v) ≡ value_code v
body_coded q (mass n) r = refl
body_coded q (text t) r = refl
body_coded q reference r = refl
body_coded q (composition t n) r = absurd r

pub body_decimals : (q : Part ℕ) (v : Value ℕ) → (number_in (body_of q v)).decimals ≡ decimals_noted v
body_decimals q (mass n) = by_test (in_range n) (λ t. rw t) (λ t. rw t)
body_decimals q (text t) = refl
body_decimals q reference = refl
body_decimals q (composition t n) = refl

pub body_millionths : (q : Part ℕ) (v : Value ℕ) → (number_in (body_of q v)).millionths ≡ mass_noted v
body_millionths q (mass n) = by_test (in_range n) (λ t. rw t) (λ t. rw t)
body_millionths q (text t) = refl
body_millionths q reference = refl
body_millionths q (composition t n) = refl
