-- The kinds of brackets: the number of each in the tables, and what the documents say of them.
use Rattle.std.specs.Prelude.{ℕ, ◌-◌, Bool, ◌||◌, List, [], ◌∷◌, eqb, get_or}
use Rattle.scope.specs.declared.grammar.Kind.{Kind}
use Rattle.scope.specs.declared.grammar.Kind.TheVariants.{Unknown, Labile, NTerm, OnResidue, OnRange, CTerm, Declared}

-- the number of a kind in the tables
abbrev pub kind_code : Kind → ℕ
kind_code Unknown = 1
kind_code Labile = 2
kind_code NTerm = 3
kind_code OnResidue = 4
kind_code OnRange = 5
kind_code CTerm = 6
kind_code Declared = 7

-- the kinds, in the order of their numbers
abbrev pub kinds : List Kind
kinds = Unknown ∷ Labile ∷ NTerm ∷ OnResidue ∷ OnRange ∷ CTerm ∷ Declared ∷ []

-- the kind of a number
abbrev pub kind_in : ℕ → Kind
kind_in c = get_or kinds (c - 1) Unknown

abbrev pub is_kind : Kind → Kind → Bool
is_kind c k = eqb (kind_code k) (kind_code c)

-- of unknown position; labile; on a range; of a declaration (02, L2)
abbrev pub is_unknown : Kind → Bool
is_unknown k = is_kind Unknown k

abbrev pub is_labile : Kind → Bool
is_labile k = is_kind Labile k

abbrev pub is_on_range : Kind → Bool
is_on_range k = is_kind OnRange k

abbrev pub is_declared : Kind → Bool
is_declared k = is_kind Declared k

-- "an unknown or labile bracket" has no position of its own
abbrev pub unknown_or_labile : Kind → Bool
unknown_or_labile k = is_unknown k || is_labile k

-- "stands on a residue or terminus"
abbrev pub on_one_position : Kind → Bool
on_one_position k = is_kind NTerm k || is_kind OnResidue k || is_kind CTerm k
