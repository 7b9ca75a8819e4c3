-- How many bytes a key takes at most, and a place.
use Rattle.std.specs.Prelude.{ℕ, suc, length}
use Rattle.scope.specs.Bytes.{bytes}
use Rattle.words.specs.Words.{longest}

-- its word and a `:`
abbrev pub key_most : ℕ
key_most = suc longest

-- the word of a terminus: `C-term` is as long
abbrev pub site_most : ℕ
site_most = length (bytes "N-term")
