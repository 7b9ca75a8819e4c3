-- Which brackets are modifications, and how many copies of each float.
use Rattle.std.specs.Prelude.{ℕ, Bool, not, cond, ◌&&◌, List, [], ◌∷◌, eqb}
use Rattle.scope.specs.declared.grammar.Key.{Key}
use Rattle.scope.specs.declared.grammar.Key.TheVariants.{Info}
use Rattle.scope.specs.declared.grammar.Kind.{Kind}
use Rattle.scope.specs.Kinds.{is_unknown, is_on_range}
use Rattle.scope.specs.Lists.{given, none?, all, flat}
use Rattle.scope.specs.Line.{Part, Bracket}
use Rattle.scope.specs.Keys.{key_code}
use Rattle.scope.specs.Reading.{refers?}

abbrev pub is_key : {P : Type 0} → Key → Part P → Bool
is_key k p = eqb (key_code p.key) (key_code k)

abbrev pub only_info : {P : Type 0} → Bracket P → Bool
only_info k = all (is_key Info) k.parts

abbrev pub is_referring : {P : Type 0} → Bracket P → Bool
is_referring k = refers? k.parts

-- "A bracket with only INFO is no modification"; a reference names one that stands elsewhere
abbrev pub is_modification : {P : Type 0} → Bracket P → Bool
is_modification k = not (only_info k) && not (is_referring k)

-- the labels of a bracket's parts
abbrev pub name_of : {P : Type 0} → Part P → List (List ℕ)
name_of p = given p.label (λ l. l.name ∷ []) []

abbrev pub names_of : {P : Type 0} → Bracket P → List (List ℕ)
names_of k = flat name_of k.parts

abbrev pub is_labelled : {P : Type 0} → Bracket P → Bool
is_labelled k = not (none? (names_of k))

-- "Floating copies ..: each copy of an unlabelled unknown one ..; each unlabelled one on a range; each label's definition"
abbrev pub unlabelled_copies : Kind → ℕ → ℕ
unlabelled_copies c count = cond (is_unknown c) count (cond (is_on_range c) 1 0)

unfoldable pub copies : {P : Type 0} → Bracket P → ℕ
copies k = cond (is_modification k) (cond (is_labelled k) 1 (unlabelled_copies k.kind k.count)) 0

-- the labels that are defined, and those that are referred to
abbrev pub defined_by : {P : Type 0} → Bracket P → List (List ℕ)
defined_by k = cond (is_referring k) [] (names_of k)

abbrev pub referred_by : {P : Type 0} → Bracket P → List (List ℕ)
referred_by k = cond (is_referring k) (names_of k) []

abbrev pub defined : {P : Type 0} → List (Bracket P) → List (List ℕ)
defined ks = flat defined_by ks

abbrev pub referred_to : {P : Type 0} → List (Bracket P) → List (List ℕ)
referred_to ks = flat referred_by ks
