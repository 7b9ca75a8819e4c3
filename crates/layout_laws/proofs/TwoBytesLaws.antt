-- A number in two bytes, where it lies in an area: it is read as it was written.
use Rattle.std.specs.Prelude.{◌≡◌, List, ◌++◌, ℕ, ◌+◌, ◌*◌, ◌/◌, ◌%◌, get_or}
use Rattle.std.proofs.Common.{ap, ap₂, ◌∙◌, add_assoc}
use Rattle.scope.specs.Bytes.{byte_limit}
use Rattle.scope.specs.Layout.{wide_at}
use Rattle.layout_laws.specs.At.{At, at_read}
use Rattle.layout_laws.specs.TwoBytes.{wide_back}

-- where a row has the two bytes of x from its byte i on, x is read
pub wide_read :
    (bs : List ℕ) (n i x : ℕ) (l : List ℕ) (a : At bs n l) → get_or (l ++ a.rest) i 0 ≡ x % byte_limit
    → get_or (l ++ a.rest) (i + 1) 0 ≡ x / byte_limit
    → wide_at bs (n + i) ≡ x
wide_read bs n i x l a low high =
    ap₂ (λ y z. y + byte_limit * z) (at_read bs n l a i 0 ∙ low) (ap (λ m. get_or bs m 0) (add_assoc n i 1) ∙ at_read bs n l a (i + 1) 0 ∙ high)
    ∙ wide_back x
