-- Plain bytes are a key before its colon, or begin a name.
use native.Mathlib.Omega.{arith}
use mathlib.Core.Path.{sym, ◌∙◌}
use Rattle.scope.specs.Content.{is_plain}
use Rattle.values.proofs.Through.{run_inside}
use Rattle.values.proofs.Begins.{word_name, word_key, key_within}
use Rattle.values.proofs.word_at.Goals as goal

pub behind_key-requires : goal.behind_key-requires
behind_key-requires c =
    omega (arith, key_within _ _ _ _ c.key_before.ensures c.in_default.not-NoKey)

pub returns-in-NoKey : goal.returns-in-NoKey
returns-in-NoKey c =
    λ u n.
    let e = c.plain_end-end.ensures in
    word_name _ _ c.requires u n _ e (sym c.key_before.ensures ∙ c.in-NoKey.is) _ (c.name_at.ensures e (run_inside is_plain _ _ _ e (omega arith)))

pub returns-in_default : goal.returns-in_default
returns-in_default c =
    λ u n.
    word_key _ _ c.requires u n _ c.plain_end-end.ensures _ c.key_before.ensures c.in_default.not-NoKey _ (λ w m. c.behind_key.ensures _ w)

pub overflow_add-end : goal.overflow_add-end
overflow_add-end c = omega (arith, key_within _ _ _ _ c.key_before.ensures c.in_default.not-NoKey)
