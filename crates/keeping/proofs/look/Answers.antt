-- `keeping::look` meets its contract: none, one or several first blocks decide. Assumes nothing.
use Rattle.std.proofs.Common.{sym, ap, ◌∙◌, rules, arith}
use Rattle.scope.specs.Answers.{reason_number}
use Rattle.chains.specs.Finding.{one_inside, look_several, look_one}
use Rattle.keeping.proofs.Looks.{none_absent, none_damaged, by_one, damaged_one}
use Rattle.keeping.proofs.look.Goals as goal

pub look_from-requires : goal.look_from-requires
look_from-requires c =
    let inside = one_inside _ _ (sym c.in-One.is ∙ c.find_first.ensures) in
    omega (arith, c.args.area.now.whole.many, inside)

pub returns-in_err-look_from-in-One : goal.returns-in_err-look_from-in-One
returns-in_err-look_from-in-One c =
    damaged_one _ _ _ (sym c.in-One.is ∙ c.find_first.ensures) _ c.from_residual.result (rw c.in_err-look_from-in-One.was at c.look_from.ensures) c.from_residual.ensures.1

pub returns-in_ok-look_from-in-One : goal.returns-in_ok-look_from-in-One
returns-in_ok-look_from-in-One c = by_one _ _ (sym c.in-One.is ∙ c.find_first.ensures) (rw c.in_ok-look_from-in-One.was at c.look_from.ensures)

pub returns-then-all_sound : goal.returns-then-all_sound
returns-then-all_sound c = none_absent _ _ (sym c.in-Nothing.is ∙ c.find_first.ensures) c.all_sound.ensures c.if-all_sound.true

pub returns-else-all_sound : goal.returns-else-all_sound
returns-else-all_sound c =
    (none_damaged _ _ (sym c.in-Nothing.is ∙ c.find_first.ensures) c.all_sound.ensures c.if-all_sound.false, search rules)

pub returns-in-Several : goal.returns-in-Several
returns-in-Several c = (look_several _ _ (sym c.in-Several.is ∙ c.find_first.ensures), (ap (λ r. reason_number r) c.refused-in-Several.ensures.0, c.refused-in-Several.ensures.1))
