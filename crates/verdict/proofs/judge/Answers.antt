-- `judge` meets its contract: 1, 2, then what the walk says: 3 or 4 where it is stuck, else the first refusal due, or none. Assumes nothing.
use Rattle.std.proofs.Common.{rules, length, ◌≡◌}
use Rattle.verdict.proofs.Trying.{is_empty, is_long}
use Rattle.verdict.proofs.Judging.{stuck_says, walked_line, line_says}
use Rattle.verdict.proofs.judge.Goals as goal

pub returns-then-is_empty : goal.returns-then-is_empty
returns-then-is_empty c = let none : length c.args.line.now ≡ 0 = search rules in is_empty _ none

pub returns-then-line-gt-LINE : goal.returns-then-line-gt-LINE
returns-then-line-gt-LINE c = let some : length c.args.line.now ≡ 0 → ⊥ = search rules in is_long _ some c.if-line-gt-LINE.true

pub first_due-found-requires : goal.first_due-found-requires
first_due-found-requires c =
    let some : length c.args.line.now ≡ 0 → ⊥ = search rules in
    walked_line _ some c.if-line-gt-LINE.false _ (rw c.in-Ok.is at c.walk.ensures)

pub returns-in-Err : goal.returns-in-Err
returns-in-Err c =
    let some : length c.args.line.now ≡ 0 → ⊥ = search rules in
    stuck_says _ some c.if-line-gt-LINE.false c.walk.new.sheet _ _ (rw c.in-Err.is at c.walk.ensures) c.not_read.ensures

pub returns-in-Ok : goal.returns-in-Ok
returns-in-Ok c =
    let some : length c.args.line.now ≡ 0 → ⊥ = search rules in
    line_says _ some c.if-line-gt-LINE.false _ (rw c.in-Ok.is at c.walk.ensures) _ _ _ c.first_due-found.ensures c.by_code.ensures
