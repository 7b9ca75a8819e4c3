-- The names of rules all begin with a C. Assumes nothing.
use Rattle.std.proofs.Common.{◌≡◌, refl, sym, ◌∙◌, arith, Bool, false, List, [], ◌∷◌, ℕ, ◌<◌, eqb, ne_eqb, length, get_or}
use Rattle.scope.specs.Bytes.{same_folded, upper}
use Rattle.scope.specs.Refusals.{is_rule_name}

upper_C : upper 67 ≡ 67
unfolding upper
upper_C = refl

other_first : (t : List ℕ) (b : ℕ) → (upper b ≡ 67 → ⊥) → false ≡ is_rule_name (b ∷ t)
unfolding is_rule_name same_folded
other_first t b h =
    let e : eqb (upper 67) (upper b) ≡ false = ne_eqb (upper 67) (upper b) (λ q. h (sym q ∙ upper_C)) in
    rw e

pub rule_empty : (t : List ℕ) → length t < 1 → false ≡ is_rule_name t
unfolding is_rule_name same_folded
rule_empty [] e = refl
rule_empty (b ∷ t) e = absurd (omega arith)

pub rule_elsewhere : (t : List ℕ) {u : ℕ} → 0 < length t → u ≡ upper (get_or t 0 0) → (u ≡ 67 → ⊥) → eqb u 67 ≡ is_rule_name t
rule_elsewhere [] h e k = absurd (omega arith)
rule_elsewhere (b ∷ t) h e k = ne_eqb _ 67 k ∙ other_first t b (λ q. k (e ∙ q))
