-- An area of whole blocks, of which one is lent as a part and put anew: it has as many blocks as before.
use mathlib.Core.Path.{◌≡◌, ap, ◌∙◌}
use mathlib.Core.List.{List}
use Prim.Native.Nat.{ℕ, ◌*◌, ◌/◌, ◌<◌}
use native.Mathlib.Omega.{arith}
use lib.ListN.{length}
use Rattle.scope.specs.Limits.{block_size}
use Rattle.blocks.specs.Area.{put_at}
use Rattle.chains.specs.Whole.{Whole}
use Rattle.area_laws.specs.Areas.{put_long}

-- an area as long has as many
pub whole_as : {a : List ℕ} {n : ℕ} (o : List ℕ) → Whole a n → length o ≡ length a → Whole o n
whole_as o w e = record { long = e ∙ w.long; many = ap (λ m. m / block_size) e ∙ w.many; some = w.some; few = w.few }

pub whole_put : {a : List ℕ} {n : ℕ} (b : ℕ) (x : List ℕ) → Whole a n → b < n → length x ≡ block_size → Whole (put_at (block_size * b) x a) n
whole_put {a} {n} b x w h e = whole_as (put_at (block_size * b) x a) w (put_long (block_size * b) x a (omega (arith, w.long)))
