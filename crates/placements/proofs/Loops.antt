-- One floater is seen to stand where it may, alone.
use mathlib.Core.Path.{sym}
use mathlib.Core.Logic.{⊎_elim}
use mathlib.Core.Bool.{Bool, true, false}
use mathlib.Core.List.{List}
use Prim.Native.Nat.{ℕ, ◌<◌}
use Rattle.basics.specs.Tests.{same?}
use Rattle.placement_laws.specs.Standing.{place}
use Rattle.exchange.specs.Table.{Open}
use Rattle.placements.specs.Steps.{Alone}

pub alone_open : (tab : List ℕ) (k : ℕ) (w : List ℕ) (s : ℕ) (r : Bool) → s < k → Open tab w k s s (place w s) r → Alone tab k w s r
alone_open tab k w s true l h = (h.0, λ t m e. ⊎_elim (λ d. sym d) (λ d. absurd (h.1 t m d (sym e))) (same? t s))
alone_open tab k w s false l h = λ f. let z = h (f.fits s l) in z.2 (f.apart z.0 s z.1 l z.3)
