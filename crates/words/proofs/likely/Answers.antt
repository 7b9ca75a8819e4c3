-- Every key whose word has such a first letter and size is the one that is answered. Assumes nothing.
use Rattle.std.proofs.Common.{rules, refl, ◌&&◌, not, eqb, ne_eqb, [], ◌∷◌}
use Rattle.scope.specs.declared.grammar.Key.TheVariants.{NoKey, U, M, R, X, G, C, Obs, Unimod, Mod, Xlmod, Resid, Gno, Info, Formula, Glycan, Position, Limit}
use Rattle.scope.specs.Bytes.{upper}
use Rattle.scope.specs.Keys.{spell, keys}
use Rattle.scope.specs.Lists.{all, member}
use Rattle.basics.specs.Tests.{falsely}
use Rattle.words.proofs.Words.{NoneOf, only_key, none_of}
use Rattle.words.proofs.likely.Goals as goal

pub returns-then-size-eq1 : goal.returns-then-size-eq1
unfolding all keys spell upper
returns-then-size-eq1 c = only_key (λ f n. eqb f 85 && eqb n 1) U refl (rw (c.in-85.is, c.if-size-eq1.true))

pub returns-else-size-eq1 : goal.returns-else-size-eq1
unfolding all keys spell upper
returns-else-size-eq1 c = only_key (λ f n. eqb f 85 && not (eqb n 1)) Unimod refl (rw (c.in-85.is, ne_eqb _ _ c.if-size-eq1.false))

pub returns-then-size-eq1-2 : goal.returns-then-size-eq1-2
unfolding all keys spell upper
returns-then-size-eq1-2 c = only_key (λ f n. eqb f 77 && eqb n 1) M refl (rw (c.in-77.is, c.if-size-eq1-2.true))

pub returns-else-size-eq1-2 : goal.returns-else-size-eq1-2
unfolding all keys spell upper
returns-else-size-eq1-2 c = only_key (λ f n. eqb f 77 && not (eqb n 1)) Mod refl (rw (c.in-77.is, ne_eqb _ _ c.if-size-eq1-2.false))

pub returns-then-size-eq1-3 : goal.returns-then-size-eq1-3
unfolding all keys spell upper
returns-then-size-eq1-3 c = only_key (λ f n. eqb f 82 && eqb n 1) R refl (rw (c.in-82.is, c.if-size-eq1-3.true))

pub returns-else-size-eq1-3 : goal.returns-else-size-eq1-3
unfolding all keys spell upper
returns-else-size-eq1-3 c = only_key (λ f n. eqb f 82 && not (eqb n 1)) Resid refl (rw (c.in-82.is, ne_eqb _ _ c.if-size-eq1-3.false))

pub returns-then-size-eq1-4 : goal.returns-then-size-eq1-4
unfolding all keys spell upper
returns-then-size-eq1-4 c = only_key (λ f n. eqb f 88 && eqb n 1) X refl (rw (c.in-88.is, c.if-size-eq1-4.true))

pub returns-else-size-eq1-4 : goal.returns-else-size-eq1-4
unfolding all keys spell upper
returns-else-size-eq1-4 c = only_key (λ f n. eqb f 88 && not (eqb n 1)) Xlmod refl (rw (c.in-88.is, ne_eqb _ _ c.if-size-eq1-4.false))

pub returns-in-1 : goal.returns-in-1
unfolding all keys spell upper
returns-in-1 c = only_key (λ f n. eqb f 71 && eqb n 1) G refl (rw (c.in-71.is, c.in-1.is))

pub returns-in-3 : goal.returns-in-3
unfolding all keys spell upper
returns-in-3 c = only_key (λ f n. eqb f 71 && eqb n 3) Gno refl (rw (c.in-71.is, c.in-3.is))

pub returns-in_default-size : goal.returns-in_default-size
unfolding all keys spell upper member
returns-in_default-size c =
    let other : NoneOf (3 ∷ 1 ∷ []) c.args.size = search rules in
    let not_among = falsely (member c.args.size (3 ∷ 1 ∷ [])) (none_of (3 ∷ 1 ∷ []) c.args.size other) in
    only_key (λ f n. eqb f 71 && not (member n (3 ∷ 1 ∷ []))) Glycan refl (rw (c.in-71.is, not_among))

pub returns-in-67 : goal.returns-in-67
unfolding all keys spell upper
returns-in-67 c = only_key (λ f n. eqb f 67) C refl (rw c.in-67.is)

pub returns-in-79 : goal.returns-in-79
unfolding all keys spell upper
returns-in-79 c = only_key (λ f n. eqb f 79) Obs refl (rw c.in-79.is)

pub returns-in-73 : goal.returns-in-73
unfolding all keys spell upper
returns-in-73 c = only_key (λ f n. eqb f 73) Info refl (rw c.in-73.is)

pub returns-in-70 : goal.returns-in-70
unfolding all keys spell upper
returns-in-70 c = only_key (λ f n. eqb f 70) Formula refl (rw c.in-70.is)

pub returns-in-80 : goal.returns-in-80
unfolding all keys spell upper
returns-in-80 c = only_key (λ f n. eqb f 80) Position refl (rw c.in-80.is)

pub returns-in-76 : goal.returns-in-76
unfolding all keys spell upper
returns-in-76 c = only_key (λ f n. eqb f 76) Limit refl (rw c.in-76.is)

pub returns-in_default : goal.returns-in_default
unfolding all keys spell upper member
returns-in_default c =
    let other : NoneOf (76 ∷ 80 ∷ 70 ∷ 73 ∷ 79 ∷ 67 ∷ 71 ∷ 88 ∷ 82 ∷ 77 ∷ 85 ∷ []) c.args.first = search rules in
    let not_among = falsely (member c.args.first (76 ∷ 80 ∷ 70 ∷ 73 ∷ 79 ∷ 67 ∷ 71 ∷ 88 ∷ 82 ∷ 77 ∷ 85 ∷ [])) (none_of (76 ∷ 80 ∷ 70 ∷ 73 ∷ 79 ∷ 67 ∷ 71 ∷ 88 ∷ 82 ∷ 77 ∷ 85 ∷ []) c.args.first other) in
    only_key (λ f n. not (member f (76 ∷ 80 ∷ 70 ∷ 73 ∷ 79 ∷ 67 ∷ 71 ∷ 88 ∷ 82 ∷ 77 ∷ 85 ∷ []))) NoKey refl (rw (not_among))
