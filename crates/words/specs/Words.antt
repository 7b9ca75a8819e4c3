-- The key that a text spells.
use Rattle.std.specs.Prelude.{ℕ, Bool, ◌&&◌, List, eqb, length, get_or}
use Rattle.scope.specs.declared.grammar.Key.{Key}
use Rattle.scope.specs.declared.grammar.Key.TheVariants.{NoKey}
use Rattle.scope.specs.Bytes.{upper}
use Rattle.scope.specs.Keys.{spell, key_of}
use Rattle.scope.specs.Lists.{given}

-- the key that the text spells in either case, or NoKey
abbrev pub key_found : List ℕ → Key
key_found t = given (key_of t) (λ k. k) NoKey

-- a word that begins so, in upper case, and has so many letters may be that of the key
abbrev pub may_be : ℕ → ℕ → Key → Bool
may_be first size k = eqb (upper (get_or (spell k) 0 0)) first && eqb (length (spell k)) size

-- the longest word of a key
abbrev pub longest : ℕ
longest = 8
