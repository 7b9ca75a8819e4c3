-- How it is computed: the inside of a bracket, read byte by byte. That this is the grammar of specs/Grammar.antt is proved (crates/grammar_laws, `lines`,
-- `only_reading`), so nothing of it has to be believed.
use Rattle.std.specs.Prelude.{ℕ, ◌+◌, ◌*◌, Bool, true, false, not, cond, ◌&&◌, ◌||◌, List, [], ◌∷◌, ◌++◌, eqb}
use Rattle.std.proofs.Math.Option.{Option, none, some}
use Rattle.scope.specs.declared.grammar.Key.{Key}
use Rattle.scope.specs.declared.grammar.Key.TheVariants.{NoKey}
use Rattle.scope.specs.Lists.{given, none?}
use Rattle.scope.specs.Bytes.{is_printable, is_digit, is_alnum, is_sign, is_opening, is_shutting, closer_of, bar, hash, colon, dash, dot, open_round, shut_round, value}
use Rattle.scope.specs.Line.{Number, Value, mass, text, reference, composition, Part}
use Rattle.scope.specs.Keys.{key_of, Form, mass_or_name, mass_only, digits, alnums, free, composed, form, hash_is_plain, accession_byte}

-- ---- numbers: "sign, digits, perhaps `.` and digits"

-- how far a number is read: its sign, its digits so far as one number, how many stand behind the point
pub data Digits : Type 0 where
  signed : Bool → Digits
  whole : Bool → ℕ → Digits
  pointed : Bool → ℕ → Digits
  broken : Bool → ℕ → ℕ → Digits

unfoldable pub digit_step : Digits → ℕ → Option Digits
digit_step (signed s) b = cond (is_digit b) (some (whole s (value b))) none
digit_step (whole s m) b = cond (is_digit b) (some (whole s (m * 10 + value b))) (cond (eqb b dot) (some (pointed s m)) none)
digit_step (pointed s m) b = cond (is_digit b) (some (broken s (m * 10 + value b) 1)) none
digit_step (broken s m d) b = cond (is_digit b) (some (broken s (m * 10 + value b) (d + 1))) none

-- "The sign of zero .. not kept"
abbrev pub number_of : {P : Type 0} → P → Bool → ℕ → ℕ → Number P
number_of p s m d = record { minus = s && not (eqb m 0); digits = m; decimals = d; at = p }

-- the number, if it may end here
unfoldable pub number_end : {P : Type 0} → P → Digits → Option (Number P)
number_end p (signed s) = none
number_end p (whole s m) = some (number_of p s m 0)
number_end p (pointed s m) = none
number_end p (broken s m d) = some (number_of p s m d)

-- ---- texts: "a text is plain bytes and closed pairs that hold texts"

-- a byte of a text, outside every pair, that can mean nothing else
abbrev pub is_plain : ℕ → Bool
is_plain b = is_printable b && not (is_opening b) && not (is_shutting b) && not (eqb b bar) && not (eqb b hash) && not (eqb b colon)

-- the closers still owed after one more byte of a text, innermost first; none where the byte is no byte of the text.
-- "`|` and `#` inside a pair are plain"
unfoldable pub text_step : Bool → List ℕ → ℕ → Option (List ℕ)
text_step hashes [] b =
    cond (is_plain b || eqb b colon || hashes && eqb b hash) (some [])
    (cond (is_opening b) (some (closer_of b ∷ [])) none)
text_step hashes (c ∷ cs) b =
    cond (is_opening b) (some (closer_of b ∷ c ∷ cs))
    (cond (eqb b c) (some cs)
    (cond (is_printable b && not (is_shutting b)) (some (c ∷ cs)) none))

-- ---- brackets: "parts split by `|`, none empty, or a lone reference `#label`"

-- the byte that closes the bracket, whether a reference may stand in it, whether its parts may have labels, and the parts read
pub record Context (P : Type 0) : Type 0 where
  pub shut : ℕ
  pub refers : Bool
  pub labels : Bool
  pub parts : List (Part P)

-- how far a bracket is read. A part is carried with the place of its first byte.
pub data Inner (P : Type 0) : Type 0 where
  begin : Context P → Inner P  -- nothing of a part yet
  plain : Context P → P → List ℕ → Inner P  -- plain bytes, that may be a key
  keyed : Context P → P → Key → Inner P  -- a prefix or `Obs:`
  in_number : Context P → P → Key → P → Digits → Inner P  -- in a mass
  in_code : Context P → P → Key → List ℕ → Inner P  -- in an accession
  in_text : Context P → P → Key → List ℕ → List ℕ → Inner P  -- in a text, with the closers owed
  hashed : Context P → Part P → Inner P  -- `#` behind a part, or of a reference
  in_label : Context P → Part P → P → List ℕ → Inner P  -- in a label
  scoring : Context P → Part P → P → List ℕ → Inner P  -- `(` behind a label
  in_score : Context P → Part P → P → List ℕ → P → Digits → Inner P  -- in a score
  scored : Context P → Part P → Inner P  -- `)` behind a score

-- a bracket after one more byte: no bracket goes on so; it is closed, with its parts; or it goes on
pub data Content (P : Type 0) : Type 0 where
  lost : Content P
  closed : List (Part P) → Content P
  going : Inner P → Content P

abbrev pub with : {P : Type 0} → Context P → Part P → Context P
with c p = record { shut = c.shut; refers = c.refers; labels = c.labels; parts = c.parts ++ (p ∷ []) }

abbrev pub unlabelled : {P : Type 0} → P → Key → Value P → Part P
unlabelled at k v = record { key = k; value = v; label = none; at = at }

abbrev pub labelled : {P : Type 0} → Part P → P → List ℕ → Option (Number P) → Part P
labelled p at name s = record { key = p.key; value = p.value; label = some (record { name = name; score = s; at = at }); at = p.at }

abbrev pub is_reference : {P : Type 0} → Value P → Bool
is_reference (mass n) = false
is_reference (text t) = false
is_reference reference = true
is_reference (composition t n) = false

-- a part is over: another follows, or the bracket is closed; nothing follows a reference
unfoldable pub part_end : {P : Type 0} → Context P → Part P → ℕ → Content P
part_end c p b =
    cond (eqb b c.shut) (closed (c.parts ++ (p ∷ [])))
    (cond (eqb b bar && not (is_reference p.value)) (going (begin (with c p))) lost)

-- the part's text or mass is over: "`#` starts a label, which ends its part", where the bracket may hold one
unfoldable pub value_end : {P : Type 0} → Context P → Part P → ℕ → Content P
value_end c p b = cond (eqb b hash && c.labels) (going (hashed c p)) (part_end c p b)

-- "A part's whole text .. never empty", and each pair is closed
unfoldable pub text_end : {P : Type 0} → Context P → P → Key → List ℕ → List ℕ → ℕ → Content P
text_end c at k [] cs b = lost
text_end c at k (x ∷ t) [] b = value_end c (unlabelled at k (text (x ∷ t))) b
text_end c at k (x ∷ t) (o ∷ cs) b = lost

-- a key and its colon are read: "A part that starts as one kind is never tried as another"
abbrev pub behind_key : {P : Type 0} → Context P → P → Key → Form → Inner P
behind_key c at k mass_or_name = keyed c at k
behind_key c at k mass_only = keyed c at k
behind_key c at k digits = in_code c at k []
behind_key c at k alnums = in_code c at k []
behind_key c at k free = in_text c at k [] []
behind_key c at k composed = in_text c at k [] []

-- `:` behind plain bytes
unfoldable pub colon_after : {P : Type 0} → Context P → P → List ℕ → Inner P
colon_after c at t = given (key_of t) (λ k. behind_key c at k (form k)) (in_text c at NoKey (t ++ (colon ∷ [])) [])

-- "It may follow `U:` `M:` `R:` `X:` `G:` `C:` `Obs:`. After `Obs:` nothing else may stand."
abbrev pub name_behind : {P : Type 0} → Context P → P → Key → Form → ℕ → Content P
name_behind c at k mass_or_name b = given (text_step false [] b) (λ cs. going (in_text c at k (b ∷ []) cs)) lost
name_behind c at k mass_only b = lost
name_behind c at k digits b = lost
name_behind c at k alnums b = lost
name_behind c at k free b = lost
name_behind c at k composed b = lost

-- one byte more, at the place i
unfoldable pub inner_step : {P : Type 0} → P → Inner P → ℕ → Content P
inner_step i (begin c) b =
    cond (is_sign b) (going (in_number c i NoKey i (signed (eqb b dash))))
    (cond (is_plain b) (going (plain c i (b ∷ [])))
    (given (text_step false [] b) (λ cs. going (in_text c i NoKey (b ∷ []) cs))
    (cond (eqb b hash && c.refers && none? c.parts) (going (hashed c (unlabelled i NoKey reference))) lost)))
inner_step i (plain c at t) b =
    cond (is_plain b) (going (plain c at (t ++ (b ∷ []))))
    (cond (eqb b colon) (going (colon_after c at t))
    (given (text_step false [] b) (λ cs. going (in_text c at NoKey (t ++ (b ∷ [])) cs))
    (value_end c (unlabelled at NoKey (text t)) b)))
inner_step i (keyed c at k) b =
    cond (is_sign b) (going (in_number c at k i (signed (eqb b dash)))) (name_behind c at k (form k) b)
inner_step i (in_number c at k n d) b =
    given (digit_step d b) (λ d'. going (in_number c at k n d'))
    (given (number_end n d) (λ x. value_end c (unlabelled at k (mass x)) b) lost)
inner_step i (in_code c at k t) b =
    cond (accession_byte (form k) b) (going (in_code c at k (t ++ (b ∷ [])))) (text_end c at k t [] b)
inner_step i (in_text c at k t cs) b =
    given (text_step (hash_is_plain (form k)) cs b) (λ cs'. going (in_text c at k (t ++ (b ∷ [])) cs')) (text_end c at k t cs b)
inner_step i (hashed c p) b = cond (is_alnum b) (going (in_label c p i (b ∷ []))) lost
inner_step i (in_label c p at name) b =
    cond (is_alnum b) (going (in_label c p at (name ++ (b ∷ []))))
    (cond (eqb b open_round) (going (scoring c p at name))
    (part_end c (labelled p at name none) b))
inner_step i (scoring c p at name) b =
    cond (is_sign b) (going (in_score c p at name i (signed (eqb b dash))))
    (cond (is_digit b) (going (in_score c p at name i (whole false (value b)))) lost)
inner_step i (in_score c p at name n d) b =
    given (digit_step d b) (λ d'. going (in_score c p at name n d'))
    (cond (eqb b shut_round) (given (number_end n d) (λ x. going (scored c (labelled p at name (some x)))) lost) lost)
inner_step i (scored c p) b = part_end c p b
