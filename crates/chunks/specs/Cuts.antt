-- A chunk, cut at the end of a line or at its own: where the first byte 10 stands, and what is held then.
use Rattle.std.specs.Prelude.{◌≡◌, Bool, true, false, List, ℕ, ◌<◌, ◌≤◌, length, take, get_or}
use Rattle.chunks.specs.Lines.{line_end}
use Rattle.chunks.specs.Feeding.{hold_limit, holding, kept, behind, ended, after, put, part, plain}

-- so many bytes are looked at together
abbrev pub stride_size : ℕ
stride_size = 16

-- no byte 10 stands from a place of a chunk on before i
pub record Passed (chunk : List ℕ) (from i : ℕ) : Type 0 where
  pub past : from ≤ i
  pub within : i ≤ length chunk
  pub before : plain (part from i chunk) ≡ true

-- the first byte 10 from a place of a chunk on stands at r, or there is none and r is the chunk's end
pub record LineEnd (chunk : List ℕ) (from r : ℕ) : Type 0 where
  pub past : from ≤ r
  pub within : r ≤ length chunk
  pub before : plain (part from r chunk) ≡ true
  pub there : r < length chunk → get_or chunk r 0 ≡ line_end

-- so many bytes of the hold, n, are those before and a part of the chunk behind them
pub record Keeps (chunk : List ℕ) (from end : ℕ) (hold : List ℕ) (held : ℕ) (holds : List ℕ) (n : ℕ) : Type 0 where
  pub room : length holds ≡ hold_limit
  pub within : n ≤ hold_limit
  pub are : take n holds ≡ kept (take held hold) (part from end chunk)
  pub stays : take held holds ≡ take held hold

-- bytes of a chunk are taken in, up to the end of a line or of the chunk: n bytes are held then, and the next one stands at `next`
pub record Cuts (chunk : List ℕ) (from : ℕ) (hold : List ℕ) (held : ℕ) (holds : List ℕ) (n next : ℕ) (ends : Bool) : Type 0 where
  pub room : length holds ≡ hold_limit
  pub within : n ≤ hold_limit
  pub past : from ≤ next
  pub inside : next ≤ length chunk
  pub goes : ends ≡ true → from < next
  pub whole : ends ≡ false → next ≡ length chunk
  pub stays : take held holds ≡ take held hold
  pub leaves : (k r : ℕ) → after (holding k r (take held hold)) (part from next chunk) ≡ behind ends (holding k r (take n holds))
  pub puts : (k r : ℕ) → put (holding k r (take held hold)) (part from next chunk) ≡ ended ends (holding k r (take n holds))
