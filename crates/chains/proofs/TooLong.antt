-- A content whose line is longer than any is no content as stated: its line is refused. Assumes nothing.
use mathlib.Core.Path.{◌≡◌, refl}
use mathlib.Core.Bool.{false}
use mathlib.Core.Option.{Option, none, some}
use mathlib.Core.List.{List, [], ◌∷◌}
use Prim.Native.Nat.{ℕ, ◌+◌, ◌<◌}
use native.Mathlib.Omega.{arith}
use borrow.Author.Tests.{lt-ltb}
use lib.ListN.{length, length-drop}
use Rattle.scope.specs.Limits.{line_limit}
use Rattle.scope.specs.Lists.{given}
use Rattle.scope.specs.Reading.{reading}
use Rattle.scope.specs.Refusals.{Due, due, least, Outcome, refused, first_due, refusal1, refusal2, refusal3, judged, outcome}
use Rattle.blocks.specs.Entry.{position_bytes, placement_in, line_in, stated, is_stated}

-- refused before, or not stated
refused_or : (o : Option ℕ) (n : ℕ) (ds : List Due) (q : Outcome) (p s : List ℕ) → stated (first_due ds q) p s ≡ false
    → stated (given o (refused n) (first_due ds q)) p s ≡ false
refused_or none n ds q p s e = e
refused_or (some i) n ds q p s e = refl

-- "line 1 to 4,096 bytes"
line_too_long : (p s : List ℕ) → line_limit < length s → stated (outcome s) p s ≡ false
unfolding outcome first_due least refusal2
line_too_long p s h =
    refused_or (least (refusal1 s)) 1 (due 2 (refusal2 s) ∷ due 3 (refusal3 s) ∷ []) (judged (reading s)) p s (rw (lt-ltb line_limit (length s) h))

pub not_stated : (kind : ℕ) (c : List ℕ) → position_bytes kind + line_limit < length c → is_stated kind c ≡ false
unfolding is_stated
not_stated kind c h =
    let behind = length-drop (position_bytes kind) c in
    line_too_long (placement_in kind c) (line_in kind c) (omega arith)
