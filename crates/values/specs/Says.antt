-- What a value that was found in a line says: which part it begins, and how reading goes on behind it.
use Rattle.std.specs.Prelude.{◌≡◌, Bool, true, cond, ◌&&◌, List, ℕ, ◌+◌, ◌≤◌, ltb, length, get_or, pos, Some, None, Result, Ok, Err}
use Rattle.scope.specs.declared.grammar.Stuck.{Stuck}
use Rattle.scope.specs.declared.tables.Number.{Number as Kept}
use Rattle.std.proofs.Math.Option.{none}
use Rattle.scope.specs.declared.grammar.Slot.{Slot}
use Rattle.scope.specs.Line.{Value as Written, mass, text, reference, composition, Part}
use Rattle.scope.specs.Keys.{written}
use Rattle.scope.specs.Lists.{none?}
use Rattle.scope.specs.Content.{Context, begin, Content, inner_step, value_end}
use Rattle.scope.specs.Reading.{Held, resume, Reading, stuck}
use Rattle.scope.specs.Refusals.{least, deep_part}
use Rattle.scope.specs.Layout.{mass_code, text_code, reference_code}
use Rattle.reading_laws.proofs.Run.{rest}
pub use Rattle.texts.specs.Texts.{coded}
use Rattle.numerals.specs.Numerals.{kept_in_range}
use Rattle.sheet.specs.Rows.{text_to, Stands}
use Rattle.values.specs.declared.Value.{Value}
use Rattle.values.specs.declared.Body.{Body}
use Rattle.values.specs.declared.Body.TheVariants.{Mass, Text, Reference}

-- ---- reading on: the byte at j, where there is one, does f inside the bracket
unfoldable pub through : List ℕ → Slot → ℕ → Held ℕ → ℕ → (ℕ → Content ℕ) → Reading
through line s o h j f = cond (ltb j (length line)) (rest line (j + 1) (resume s o h j (f (get_or line j 0)))) (stuck (length line))

-- whatever bracket is read: from j on, where the byte does F, reading gets stuck at p
abbrev pub Stops : List ℕ → ℕ → (Context ℕ → Type 0) → (Context ℕ → ℕ → Content ℕ) → ℕ → Type 0
Stops line j C F p = (s : Slot) (o : ℕ) (h : Held ℕ) (c : Context ℕ) → C c → through line s o h j (F c) ≡ stuck p

-- or goes on at i, where the byte does G
abbrev pub GoesOn : List ℕ → ℕ → (Context ℕ → Type 0) → (Context ℕ → ℕ → Content ℕ) → ℕ → (Context ℕ → ℕ → Content ℕ) → Type 0
GoesOn line j C F i G = (s : Slot) (o : ℕ) (h : Held ℕ) (c : Context ℕ) → C c → through line s o h j (F c) ≡ through line s o h i (G c)

-- ---- a part that has no label yet, as a value
-- a mass keeps its number where that is in range, a text where it is too deep; a composition is read as a text
abbrev pub body_of : Part ℕ → Written ℕ → Body
body_of q (mass n) = Mass (kept_in_range n)
body_of q (text t) = Text (coded (least (deep_part q)))
body_of q reference = Reference
body_of q (composition t n) = Text (coded (least (deep_part q)))

-- the code in a part's row, and the number that is noted
abbrev pub body_code : Body → ℕ
body_code (Mass n) = mass_code
body_code (Text d) = text_code
body_code Reference = reference_code

abbrev pub number_in : Body → Kept
number_in (Mass (Some n)) = n
number_in (Mass None) = record { millionths = pos 0; decimals = 0 }
number_in (Text d) = record { millionths = pos 0; decimals = 0 }
number_in Reference = record { millionths = pos 0; decimals = 0 }

abbrev pub from_of : Part ℕ → Written ℕ → ℕ
from_of q (mass n) = n.at
from_of q (text t) = q.at + length (written q.key)
from_of q reference = q.at
from_of q (composition t n) = q.at

abbrev pub value_of : Part ℕ → ℕ → Value
value_of q to =
    record {
      key = q.key;
      body = body_of q q.value;
      from = from_of q q.value;
      to = to;
    }

-- a text ends where its value ends, and a reference is only its `#`
abbrev pub EndsAt : Part ℕ → ℕ → Written ℕ → Type 0
EndsAt q to (mass n) = Unit {0}
EndsAt q to (text t) = to ≡ text_to q q.value
EndsAt q to reference = to ≡ q.at
EndsAt q to (composition t n) = Unit {0}

-- a part begins at `at`, and its value is v
pub record IsValue (line : List ℕ) (at : ℕ) (v : Value) (q : Part ℕ) : Type 0 where
  pub is : v ≡ value_of q v.to
  pub place : q.at ≡ at
  pub bare : q.label ≡ none
  pub stands : Stands line q
  pub ends : EndsAt q v.to q.value
  pub past : at ≤ v.to
  pub within : v.to ≤ length line
  pub from_inside : v.from ≤ length line

-- a bracket in which a part begins: a reference may stand here, or not; where one may, a label may too
pub record Opens (refers : Bool) (c : Context ℕ) : Type 0 where
  pub refers_is : (c.refers && none? c.parts) ≡ refers
  pub with_labels : refers ≡ true → c.labels ≡ true

pub record ValueReads (line : List ℕ) (at : ℕ) (refers : Bool) (v : Value) : Type 0 where
  pub found : Part ℕ
  pub is_value : IsValue line at v found
  pub on : GoesOn line at (Opens refers) (λ c. inner_step at (begin c)) v.to (λ c. value_end c found)

abbrev pub ValueSays : List ℕ → ℕ → Bool → Result Value Stuck → Type 0
ValueSays line at refers (Err e) = Stops line at (Opens refers) (λ c. inner_step at (begin c)) e.at
ValueSays line at refers (Ok v) = ValueReads line at refers v
