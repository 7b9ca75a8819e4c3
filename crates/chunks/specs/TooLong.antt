-- A line too long is answered by those of its bytes that are held.
use Rattle.std.specs.Prelude.{◌≡◌, cond, List, [], ◌∷◌, ◌++◌, ℕ, ◌<◌, leb, length, take}
use Rattle.std.proofs.Common.{sym, ap, ◌∙◌, arith, lt-ltb, leb-true, leb-false, take_all, length-take-le}
use Rattle.basics.specs.Choice.{by_test}
use Rattle.scope.specs.Limits.{line_limit}
use Rattle.scope.specs.Refusals.{least, refused, refusal1, refusal2, first_due, outcome}
use Rattle.scope.specs.Canonical.{decimal}
use Rattle.scope.specs.Register.{report, printed}
use Rattle.entries.specs.Entry.{entry, is_refused}
use Rattle.chunks.specs.Lines.{line_end, refusal}
use Rattle.chunks.specs.Feeding.{hold_limit}

pub too_long : (s : List ℕ) → line_limit < length s → outcome s ≡ refused 2 line_limit
unfolding outcome first_due least refusal1 refusal2
too_long [] h = absurd (omega arith)
too_long (b ∷ s) h = rw (lt-ltb line_limit (length (b ∷ s)) h)

pub outcome_front : (s : List ℕ) → outcome (take hold_limit s) ≡ outcome s
outcome_front s =
    by_test (leb (length s) hold_limit) (λ q. ap outcome (take_all hold_limit s (leb-true (length s) hold_limit q)))
    (λ q.
    let g = leb-false (length s) hold_limit q in
    let l = length-take-le hold_limit s (omega arith) in
    too_long (take hold_limit s) (omega arith) ∙ sym (too_long s (omega arith)))

pub entry_front_lem : (n : ℕ) (s : List ℕ) → entry n (take hold_limit s) ≡ entry n s
unfolding printed
entry_front_lem n s = ap (λ o. (decimal n ++ report o) ++ (line_end ∷ [])) (outcome_front s)

pub refusal_front : (s : List ℕ) → refusal (take hold_limit s) ≡ refusal s
refusal_front s = ap (λ o. cond (is_refused o) 1 0) (outcome_front s)
