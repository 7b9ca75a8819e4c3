-- What is owed to standard output: exactly what is put out, in the state before, for the bytes just taken in.
use Rattle.std.specs.Prelude.{◌≡◌, List, ℕ, ◌≤◌, length, take}
use Rattle.chunks.specs.Feeding.{holding, put, last_put, part}

-- the first n bytes of the output are all that is put out for a part of a chunk, in the state before it
pub record Owed (chunk : List ℕ) (from next number refused : ℕ) (hold : List ℕ) (held : ℕ) (out : List ℕ) (n : ℕ) : Type 0 where
  pub fits : n ≤ length out
  pub text : take n out ≡ put (holding number refused (take held hold)) (part from next chunk)

-- they are what is put out at the end of the input
pub record OwedLast (number : ℕ) (hold : List ℕ) (held : ℕ) (out : List ℕ) (n : ℕ) : Type 0 where
  pub fits : n ≤ length out
  pub text : take n out ≡ last_put number (take held hold)
