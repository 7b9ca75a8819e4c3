-- What is said from a place within a part's value on, whatever bracket the part stands in.
use Rattle.std.specs.Prelude.{◌≡◌, Bool, true, false, cond, List, ℕ, ◌+◌, ◌-◌, ◌≤◌, eqb, drop, get_or, Result, Ok, Err}
use Rattle.std.specs.Prelude.{Option as Perhaps}
use Rattle.scope.specs.declared.grammar.Stuck.{Stuck}
use Rattle.scope.specs.declared.grammar.Slot.{Slot}
use Rattle.scope.specs.declared.grammar.Key.{Key}
use Rattle.scope.specs.declared.grammar.Key.TheVariants.{NoKey}
use Rattle.scope.specs.Bytes.{colon}
use Rattle.scope.specs.Line.{Part}
use Rattle.scope.specs.Keys.{Form as FormOf, mass_or_name, mass_only, digits, alnums, free, composed}
use Rattle.scope.specs.Lists.{part}
use Rattle.scope.specs.Content.{is_plain, Context, Content, value_end}
use Rattle.scope.specs.Reading.{Held, stuck}
use Rattle.scope.specs.Refusals.{least, too_deep}
use Rattle.words.specs.Words.{key_found}
use Rattle.classes.specs.Runs.{span}
use Rattle.values.specs.Says.{through, coded, IsValue}
use Rattle.values.specs.declared.Form.{Form}
use Rattle.values.specs.declared.Form.TheVariants.{MassOrName, MassOnly, Digits, Alnums, Free, Composed}
use Rattle.values.specs.declared.Value.{Value}

-- from j on, where the byte does F, the value of the part that begins at `at` is read
pub record ValueReadsFrom (line : List ℕ) (at j : ℕ) (F : Context ℕ → ℕ → Content ℕ) (v : Value) : Type 0 where
  pub found : Part ℕ
  pub is_value : IsValue line at v found
  pub on : (s : Slot) (o : ℕ) (h : Held ℕ) (c : Context ℕ) → through line s o h j (F c) ≡ through line s o h v.to (value_end c found)

unfoldable pub SaysFrom : List ℕ → ℕ → ℕ → (Context ℕ → ℕ → Content ℕ) → Result Value Stuck → Type 0
SaysFrom line at j F (Err e) = (s : Slot) (o : ℕ) (h : Held ℕ) (c : Context ℕ) → through line s o h j (F c) ≡ stuck e.at
SaysFrom line at j F (Ok v) = ValueReadsFrom line at j F v

-- what may stand behind a key, as it is told
abbrev pub told : FormOf → Form
told mass_or_name = MassOrName
told mass_only = MassOnly
told digits = Digits
told alnums = Alnums
told free = Free
told composed = Composed

-- a mass may stand behind a key of this form
abbrev pub takes_mass : Form → Bool
takes_mass MassOrName = true
takes_mass MassOnly = true
takes_mass Digits = false
takes_mass Alnums = false
takes_mass Free = false
takes_mass Composed = false

-- the key that the bytes from a place to a colon spell
unfoldable pub key_before : List ℕ → ℕ → ℕ → Key
key_before line at end = cond (eqb (get_or line end 0) colon) (key_found (part at (end - at) line)) NoKey

-- the bytes from a place to another are plain
abbrev pub PlainTo : List ℕ → ℕ → ℕ → Type 0
PlainTo line from to = to ≤ from + span is_plain (drop from line)

-- where the text between two places has a pair that is too deep
abbrev pub deep_in : List ℕ → ℕ → ℕ → Perhaps ℕ
deep_in line from to = coded (least (too_deep 0 from (part from (to - from) line)))
