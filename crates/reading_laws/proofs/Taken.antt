-- A line is accepted exactly when none of 1 to 3 is due for its bytes, it is of the order, and no other is due for what it holds; what is accepted is what is kept
-- of that.
use Rattle.std.specs.Prelude.{ℕ, ◌≤◌, ◌≡◌, refl, List, [], ◌∷◌, ltb, length}
use Rattle.std.proofs.Common.{sym, ap, ◌∙◌, arith, ltb-false, le-ltb}
use Rattle.scope.specs.Limits.{line_limit}
use Rattle.scope.specs.Line.{Line}
use Rattle.scope.specs.Reading.{run, Reading, stuck, holds, reading}
use Rattle.scope.specs.Kept.{kept}
use Rattle.scope.specs.Refusals.{refusal1, refusal2, accepted, line_refusals, judged, byte_refusals, outcome}
use Rattle.basics.specs.Lists.{not_due}
use Rattle.reading_laws.specs.Laws.{Clear}
use Rattle.reading_laws.proofs.Precedence.{clear_due, clear_cases}

pub record Taken (s : List ℕ) (l : Line ℕ) : Type 0 where
  pub read : Line ℕ
  pub bytes : Clear (byte_refusals s)
  pub reads : reading s ≡ holds read
  pub clear : Clear (line_refusals read)
  pub keeps : l ≡ kept read

pub taken : (s : List ℕ) (l : Line ℕ) → outcome s ≡ accepted l → Taken s l
unfolding outcome
taken s l e = go (reading s) refl first.1
  where
    first : Clear (byte_refusals s) × (judged (reading s) ≡ accepted l)
    first = clear_cases (byte_refusals s) (judged (reading s)) l e

    go : (r : Reading) → reading s ≡ r → judged r ≡ accepted l → Taken s l
    go (stuck i) f g = let z : ◌≡◌ {A = ℕ} 0 1 = cc in absurd (omega arith)
    go (holds t) f g =
        let c = clear_cases (line_refusals t) (accepted (kept t)) l g in
        let e : l ≡ kept t = let h : accepted (kept t) ≡ accepted l = c.1 in cc in
        record { read = t; bytes = first.0; reads = f; clear = c.0; keeps = e }

pub taken_back : (s : List ℕ) (l : Line ℕ) → Taken s l → outcome s ≡ accepted l
unfolding outcome
taken_back s l w =
    clear_due (byte_refusals s) (judged (reading s)) w.bytes ∙ ap judged w.reads ∙ clear_due (line_refusals w.read) (accepted (kept w.read)) w.clear
    ∙ ap accepted (sym w.keeps)

-- 2 is due nowhere exactly in a line that is short enough
pub not_long : (s : List ℕ) → refusal2 s ≡ [] → length s ≤ line_limit
unfolding refusal2
not_long s e = ltb-false line_limit (length s) (not_due (ltb line_limit (length s)) line_limit e)

pub none_long : (s : List ℕ) → length s ≤ line_limit → refusal2 s ≡ []
unfolding refusal2
none_long s h = rw (le-ltb line_limit (length s) h)

-- an empty line is not of the order
pub some_bytes : (s : List ℕ) (l : Line ℕ) → reading s ≡ holds l → refusal1 s ≡ []
unfolding refusal1 reading run
some_bytes [] l e = let z : ◌≡◌ {A = ℕ} 0 1 = cc in absurd (omega arith)
some_bytes (b ∷ s) l e = refl
