-- One read, and what comes of it: a whole chunk taken in, the end of the input, or a failure.
use Rattle.std.specs.Prelude.{◌≡◌, List, Option, Some, None, ℕ, ◌+◌, ◌<◌, ◌≤◌, length, take}
use Rattle.std.specs.Io.KnownBytes.{Consumes, IsAtEnd, Keeps}
use Rattle.chunks.specs.declared.Desk.{Desk}
use Rattle.chunks.specs.Feeding.{holding, after, put, finished, refused_at_end}
use Rattle.chunks.specs.Lent.{Ready}
use Rattle.stream.specs.declared.End.{End}
use Rattle.stream.specs.declared.End.TheVariants.{Whole}

-- so many bytes are read at once, at most
abbrev pub read_limit : ℕ
read_limit = 8192

-- a read brought so many bytes, or failed
abbrev pub Received : ℕ → Option ℕ → Type 0
Received room (Some n) = n ≤ room
Received room None = Unit {0}

-- what a read brought was next in the input, where that is known, and where it brought nothing, the input is at its end; one that failed took nothing
abbrev pub Brought : Option (List ℕ) → Option (List ℕ) → List ℕ → Option ℕ → Type 0
Brought old new room (Some n) = Consumes old new (take n room) × (n ≡ 0 → 0 < length room → IsAtEnd new)
Brought old new room None = Keeps old new

-- a whole chunk is taken in, and all that is put out for it was taken; unless a write failed
pub record Drains (chunk : List ℕ) (number refused : ℕ) (hold : List ℕ) (held line total : ℕ) (holds : List ℕ) (n sent : ℕ) (end : Option End) : Type 0 where
  pub grows : number ≤ line
  pub count : end ≡ None → line ≤ number + length chunk
  pub leaves : end ≡ None → after (holding number refused (take held hold)) chunk ≡ holding line total (take n holds)
  pub taken : end ≡ None → sent ≡ length (put (holding number refused (take held hold)) chunk)
  pub lost : end ≡ Some Whole → ⊥

-- the input is at its end, all that is put out then was taken, and the refused lines are counted; unless a write failed
pub record ClosesAt (number refused : ℕ) (hold : List ℕ) (held line total sent : ℕ) (end : Option End) : Type 0 where
  pub same : line ≡ number
  pub over : end ≡ None → ⊥
  pub taken : end ≡ Some Whole → sent ≡ length (finished (holding number refused (take held hold)))
  pub counted : end ≡ Some Whole → total ≡ refused_at_end (holding number refused (take held hold))

-- so many bytes were read, `got`, and the room holds them: they are taken in, and all that is put out for them was taken; or the input is at its end;
-- unless a read or a write failed
pub record Turns (room : List ℕ) (number refused : ℕ) (hold : List ℕ) (held line total : ℕ) (desk : Desk) (n sent : ℕ) (end : Option End) : Type 0 where
  pub grows : number ≤ line
  pub count : end ≡ None → line ≤ number + read_limit
  pub ready : end ≡ None → Ready desk n
  pub got : ℕ
  pub leaves : end ≡ None → after (holding number refused (take held hold)) (take got room) ≡ holding line total (take n desk.hold)
  pub taken : end ≡ None → sent ≡ length (put (holding number refused (take held hold)) (take got room))
  pub closed : end ≡ Some Whole → sent ≡ length (finished (holding number refused (take held hold)))
  pub counted : end ≡ Some Whole → total ≡ refused_at_end (holding number refused (take held hold))
