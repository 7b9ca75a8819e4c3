-- The canonical line: "at most one unknown run, upper-case residues, masses always signed, scores signed only when negative, decimals as many as
-- written".
use Rattle.std.specs.Prelude.{ℕ, zero, suc, ◌+◌, ◌/◌, ◌%◌, ◌^◌, Bool, true, false, cond, List, [], ◌∷◌, ◌++◌, eqb, ltb, length}
use Rattle.scope.specs.declared.grammar.Section.{Section}
use Rattle.scope.specs.declared.grammar.Section.TheVariants.{Plain, RangeFirst, RangeNext, UnsureFirst, UnsureNext}
use Rattle.scope.specs.declared.grammar.Kind.{Kind}
use Rattle.scope.specs.declared.grammar.Kind.TheVariants.{Unknown, Labile, NTerm, OnResidue, OnRange, CTerm, Declared}
use Rattle.scope.specs.Kinds.{is_kind}
use Rattle.scope.specs.Bytes.{open_square, shut_square, open_curly, shut_curly, open_round, shut_round, bar, hash, open_angle, shut_angle, at_sign, caret, question, plus, dash, dot}
use Rattle.scope.specs.Line.{Number, Label, Value, mass, text, reference, composition, Part, Bracket, Residue, Line}
use Rattle.scope.specs.Keys.{written}
use Rattle.scope.specs.Lists.{given, keep, flat}
use Rattle.scope.specs.Places.{places_text}

-- ---- numbers

-- the decimal digits of n, no zero in front, where they are at most k + 1
unfoldable pub decimal_up_to : ℕ → ℕ → List ℕ
decimal_up_to zero n = (48 + n) ∷ []
decimal_up_to (suc k) n = cond (ltb n 10) ((48 + n) ∷ []) (decimal_up_to k (n / 10) ++ ((48 + n % 10) ∷ []))

-- of a number below 10^20, as all are that are written
unfoldable pub decimal : ℕ → List ℕ
decimal n = decimal_up_to 19 n

-- the last d digits of n
unfoldable pub last_digits : ℕ → ℕ → List ℕ
last_digits zero n = []
last_digits (suc d) n = last_digits d (n / 10) ++ ((48 + n % 10) ∷ [])

unfoldable pub decimals : ℕ → ℕ → List ℕ
decimals zero m = []
decimals (suc d) m = dot ∷ last_digits (suc d) m

-- a number without its sign
unfoldable pub size : {P : Type 0} → Number P → List ℕ
size n = decimal (n.digits / 10 ^ n.decimals) ++ decimals n.decimals n.digits

-- "masses always signed, scores signed only when negative"
abbrev pub mass_text : {P : Type 0} → Number P → List ℕ
mass_text n = cond n.minus dash plus ∷ size n

abbrev pub score_text : {P : Type 0} → Number P → List ℕ
score_text n = cond n.minus (dash ∷ size n) (size n)

-- ---- brackets
abbrev pub value_text : {P : Type 0} → Value P → List ℕ
value_text (mass n) = mass_text n
value_text (text t) = t
value_text reference = []
value_text (composition t n) = t

abbrev pub label_text : {P : Type 0} → Label P → List ℕ
label_text l = hash ∷ (l.name ++ given l.score (λ n. open_round ∷ (score_text n ++ (shut_round ∷ []))) [])

unfoldable pub part_text : {P : Type 0} → Part P → List ℕ
part_text p = written p.key ++ (value_text p.value ++ given p.label label_text [])

unfoldable pub parts_text : {P : Type 0} → List (Part P) → List ℕ
parts_text [] = []
parts_text (p ∷ []) = part_text p
parts_text (p ∷ q ∷ ps) = part_text p ++ (bar ∷ parts_text (q ∷ ps))

abbrev pub square_text : {P : Type 0} → Bracket P → List ℕ
square_text k = open_square ∷ (parts_text k.parts ++ (shut_square ∷ []))

abbrev pub curly_text : {P : Type 0} → Bracket P → List ℕ
curly_text k = open_curly ∷ (parts_text k.parts ++ (shut_curly ∷ []))

-- `<[mod]@K,N-term>` (02, L2)
abbrev pub declared_text : {P : Type 0} → Bracket P → List ℕ
declared_text k = open_angle ∷ (square_text k ++ (at_sign ∷ (places_text k.places ++ (shut_angle ∷ []))))

-- `^1` is not written
abbrev pub count_text : ℕ → List ℕ
count_text n = cond (eqb n 1) [] (caret ∷ decimal n)

abbrev pub unknown_text : {P : Type 0} → Bracket P → List ℕ
unknown_text k = square_text k ++ count_text k.count

-- ---- the line
abbrev pub of_kind : {P : Type 0} → Kind → List (Bracket P) → List (Bracket P)
of_kind c ks = keep (λ k. is_kind c k.kind) ks

-- those of a kind that end at a position
abbrev pub ending_at : {P : Type 0} → Kind → ℕ → List (Bracket P) → List (Bracket P)
ending_at c i ks = keep (λ k. eqb k.last i) (of_kind c ks)

-- what stands behind a list of brackets, and what stands before it, if it has any
abbrev pub closed_by : List ℕ → ℕ → List ℕ
closed_by [] b = []
closed_by (x ∷ l) b = (x ∷ l) ++ (b ∷ [])

abbrev pub led_by : ℕ → List ℕ → List ℕ
led_by b [] = []
led_by b (x ∷ l) = b ∷ x ∷ l

abbrev pub opening : Section → List ℕ
opening Plain = []
opening RangeFirst = open_round ∷ []
opening RangeNext = []
opening UnsureFirst = open_round ∷ question ∷ []
opening UnsureNext = []

-- a group ends here, before a residue that is not its next one: a range has its brackets behind it
abbrev pub ending : Section → List ℕ → List ℕ
ending Plain ks = []
ending RangeFirst ks = shut_round ∷ ks
ending RangeNext ks = shut_round ∷ ks
ending UnsureFirst ks = shut_round ∷ []
ending UnsureNext ks = shut_round ∷ []

abbrev pub is_next : Section → Bool
is_next Plain = false
is_next RangeFirst = false
is_next RangeNext = true
is_next UnsureFirst = false
is_next UnsureNext = true

abbrev pub goes_on : {P : Type 0} → List (Residue P) → Bool
goes_on [] = false
goes_on (r ∷ rs) = is_next r.section

-- the residues from position i on
unfoldable pub sequence_text : {P : Type 0} → List (Bracket P) → ℕ → List (Residue P) → List ℕ
sequence_text ks i [] = []
sequence_text ks i (r ∷ rs) =
    opening r.section
    ++ (r.letter
    ∷ (flat square_text (ending_at OnResidue i ks)
    ++ (cond (goes_on rs) [] (ending r.section (flat square_text (ending_at OnRange i ks)))
    ++ sequence_text ks (i + 1) rs)))

-- a chain: the residues rs behind its N-terminus, which is at the position p, with the brackets at its positions
unfoldable pub chain_text : {P : Type 0} → List (Bracket P) → ℕ → List (Residue P) → List ℕ
chain_text ks p rs =
    closed_by (flat unknown_text (ending_at Unknown p ks)) question
    ++ (flat curly_text (ending_at Labile p ks)
    ++ (closed_by (flat square_text (ending_at NTerm p ks)) dash
    ++ (sequence_text ks (p + 1) rs
    ++ led_by dash (flat square_text (ending_at CTerm (p + 1 + length rs) ks)))))

-- declarations stand "at the front" (02, L2)
unfoldable pub canonical : {P : Type 0} → Line P → List ℕ
canonical l = flat declared_text (ending_at Declared 0 l.brackets) ++ chain_text l.brackets 0 l.residues
