-- `text_due` meets its contract: what is too deep, what is too long, and then by the key. Assumes nothing.
use mathlib.Core.Path.{ap}
use native.Mathlib.Omega.{arith}
use Rattle.scope.specs.Keys.{key_code}
use Rattle.dues.proofs.Values.{TextFound, text_found, deep_fits, due_rule, due_number, due_none, due_uncut, due_barred, number_key, barred_name, other_key}
use Rattle.dues.proofs.text_due.Goals as goal

pub first_due-a-requires : goal.first_due-a-requires
first_due-a-requires c = (omega arith, deep_fits c.args.line.now c.args.at c.args.v c.requires.0.found c.requires.0.is_value _ c.requires.1 (omega (arith, c.requires.0.short)))

pub overflow_sub-to : goal.overflow_sub-to
overflow_sub-to c =
    let found : TextFound c.args.line.now c.args.v c.requires.0.found = text_found c.args.line.now c.args.at c.args.v c.requires.0.found c.requires.0.is_value _ c.requires.1 in
    omega (arith, found.ordered)

pub is_rule-requires : goal.is_rule-requires
is_rule-requires c =
    let found : TextFound c.args.line.now c.args.v c.requires.0.found = text_found c.args.line.now c.args.at c.args.v c.requires.0.found c.requires.0.is_value _ c.requires.1 in
    (found.ordered, found.inside)

pub is_number-requires : goal.is_number-requires
is_number-requires c =
    let found : TextFound c.args.line.now c.args.v c.requires.0.found = text_found c.args.line.now c.args.at c.args.v c.requires.0.found c.requires.0.is_value _ c.requires.1 in
    (found.ordered, found.inside)

pub cut-requires : goal.cut-requires
cut-requires c =
    let found : TextFound c.args.line.now c.args.v c.requires.0.found = text_found c.args.line.now c.args.at c.args.v c.requires.0.found c.requires.0.is_value _ c.requires.1 in
    (found.ordered, found.inside)

pub returns-in-NoKey : goal.returns-in-NoKey
returns-in-NoKey c =
    λ q g. due_rule _ _ _ q g _ c.requires.1 _ c.first_due-a.ensures c.due_if-b.ensures (ap key_code c.in-NoKey.is) c.is_rule.ensures c.due_if.ensures

pub returns-in-Glycan : goal.returns-in-Glycan
returns-in-Glycan c =
    λ q g. due_uncut _ _ _ q g _ c.requires.1 _ c.first_due-a.ensures c.due_if-b.ensures c.cut.result c.is_none.result (ap key_code c.in-Glycan.is) c.cut.ensures c.is_none.ensures c.due_if-in-Glycan.ensures

pub returns-in-U : goal.returns-in-U
returns-in-U c =
    let k = number_key c.in-U.is in
    λ q g. due_number _ _ _ q g _ c.requires.1 _ c.first_due-a.ensures c.due_if-b.ensures k.0 k.1 c.is_number.ensures c.due_if-in-U.ensures

pub returns-in-Formula : goal.returns-in-Formula
returns-in-Formula c =
    let k = barred_name c.in-Formula.is in
    λ q g. due_barred _ _ _ q g _ c.requires.1 _ c.first_due-a.ensures c.due_if-b.ensures k.0 k.1 c.due.ensures

pub returns-in_default : goal.returns-in_default
returns-in_default c =
    let o = c.in_default in
    let k = other_key c.args.v.key o.not-NoKey o.not-U o.not-M o.not-Formula o.not-Glycan o.not-Position o.not-Limit in
    λ q g. due_none _ _ _ q g _ c.requires.1 _ c.first_due-a.ensures c.due_if-b.ensures k.0 k.1
