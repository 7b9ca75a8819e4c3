-- How far a text goes, and where a pair in it is too deep: scope's own step, as far as it goes.
use Rattle.std.specs.Prelude.{ℕ, ◌+◌, ◌-◌, ◌%◌, ◌≤◌, ◌<◌, ◌≡◌, Bool, not, cond, ◌&&◌, ◌||◌, List, [], ◌∷◌, eqb, leb, length, drop, Some, None, Result, Ok, Err}
use Rattle.std.specs.Prelude.{Option as Perhaps}
use Rattle.std.specs.Option.{option_or}
use Rattle.scope.specs.declared.grammar.Stuck.{Stuck}
use Rattle.std.proofs.Math.Option.{Option, none, some}
use Rattle.scope.specs.Bytes.{is_printable, is_opening, is_shutting, shut_square, shut_curly, colon, hash}
use Rattle.scope.specs.Limits.{depth_limit}
use Rattle.scope.specs.Lists.{given, part}
use Rattle.scope.specs.Content.{is_plain, text_step}
use Rattle.scope.specs.Refusals.{least, too_deep}
use Rattle.texts.specs.declared.TextEnd.{TextEnd}

-- a text ends at a place, or is stuck there inside a pair
pub data TextScanned : Type 0 where
  ends : ℕ → TextScanned
  stuck : ℕ → TextScanned

-- the text can go no further at the place i: it ends there, unless a closer is owed
abbrev pub stopped : List ℕ → ℕ → TextScanned
stopped [] i = ends i
stopped (c ∷ cs) i = stuck i

-- the bytes from the place i on, with the closers owed
unfoldable pub scan_text : Bool → List ℕ → List ℕ → ℕ → TextScanned
scan_text hashes cs [] i = stopped cs i
scan_text hashes cs (b ∷ l) i = given (text_step hashes cs b) (λ cs'. scan_text hashes cs' l (i + 1)) (stopped cs i)

-- a place, if there is one, as a program has it
abbrev pub coded : Option ℕ → Perhaps ℕ
coded none = None
coded (some i) = Some i

-- where a text ends, with a place at which a pair is too deep, and where one is stuck, likewise
abbrev pub Told : Type 0
Told = Result TextEnd Stuck

abbrev pub ended : ℕ → Perhaps ℕ → Told
ended e d = Ok (record { to = e; deep = d })

abbrev pub stuck_at : ℕ → Told
stuck_at i = Err (record { at = i })

-- a text that starts at `at`, as it is told: where it ends, and the first place in it at which a pair is too deep
abbrev pub told : List ℕ → ℕ → TextScanned → Told
told line at (ends e) = ended e (coded (least (too_deep 0 at (part at (e - at) line))))
told line at (stuck i) = stuck_at i

-- a byte of a text outside every pair, and one inside a pair, that opens and closes nothing
unfoldable pub is_outer : Bool → ℕ → Bool
is_outer hashes b = is_plain b || eqb b colon || hashes && eqb b hash

unfoldable pub is_inner : ℕ → Bool
is_inner b = is_printable b && not (is_shutting b) && not (is_opening b)

-- ---- both at once, byte by byte
-- a pair is opened while as many as may be are open
abbrev pub opens_too_deep : ℕ → ℕ → Bool
opens_too_deep d b = is_opening b && leb depth_limit d

-- the first place at which a pair is too deep, behind the byte b at i
unfoldable pub deeper : List ℕ → ℕ → ℕ → Perhaps ℕ → Perhaps ℕ
deeper cs b i d = cond (opens_too_deep (length cs) b) (option_or d (Some i)) d

abbrev pub stopped_deep : List ℕ → ℕ → Perhaps ℕ → Told
stopped_deep [] i d = ended i d
stopped_deep (c ∷ cs) i d = stuck_at i

-- the bytes from the place i on, with the closers owed, and the first place before i at which a pair is too deep
unfoldable pub scan_deep : Bool → List ℕ → List ℕ → ℕ → Perhaps ℕ → Told
scan_deep hashes cs [] i d = stopped_deep cs i d
scan_deep hashes cs (b ∷ l) i d = given (text_step hashes cs b) (λ cs'. scan_deep hashes cs' l (i + 1) (deeper cs b i d)) (stopped_deep cs i d)

-- where a pair is closed: the place behind its closer, or where one is stuck in it
abbrev pub Reached : Type 0
Reached = Result ℕ Stuck

abbrev pub reached : ℕ → Reached
reached j = Ok j

abbrev pub lost_at : ℕ → Reached
lost_at i = Err (record { at = i })

-- reading on behind a pair
abbrev pub behind : Reached → (ℕ → Told) → Told
behind (Ok j) go = go j
behind (Err e) go = Err e

abbrev pub EndsPast : Reached → ℕ → ℕ → Type 0
EndsPast (Ok j) at n = (at < j) × (j ≤ n)
EndsPast (Err e) at n = Unit {0}

-- what is told behind the byte before `at`, which opens a pair with so many around it
unfoldable pub entered : ℕ → ℕ → Perhaps ℕ → Perhaps ℕ
entered level at d = cond (leb depth_limit level) (option_or d (Some (at - 1))) d

-- r says where the pair that c closes is closed, read from at, with so many pairs around it, whatever closes these; d is the first place that is told before it, and e the
-- first one behind it
pub record Closed (s : List ℕ) (at c level : ℕ) (d e : Perhaps ℕ) (r : Reached) : Type 0 where
  pub reads : (hashes : Bool) (cs : List ℕ) → length cs ≡ level
      → scan_deep hashes (c ∷ cs) (drop at s) at (entered level at d) ≡ behind r (λ j. scan_deep hashes cs (drop j s) j e)
  pub past : EndsPast r at (length s)

-- the same of a pair that is too deep: with its place, or one before it, nothing in it is told
pub record Crowded (s : List ℕ) (at c : ℕ) (r : Reached) : Type 0 where
  pub reads : (hashes : Bool) (cs : List ℕ) (d : Perhaps ℕ) → (d ≡ None → ⊥) → scan_deep hashes (c ∷ cs) (drop at s) at d ≡ behind r (λ j. scan_deep hashes cs (drop j s) j d)
  pub past : EndsPast r at (length s)

-- a bit keeps a closer: the one that the last bit of a number stands for
abbrev pub last_of : ℕ → ℕ
last_of v = cond (eqb (v % 2) 1) shut_square shut_curly
