-- `reason::competing` meets its contract: where all floaters can stand no set has too few positions, else the smallest by the table, if there is one, is the answer by
-- the lists that it holds. Assumes nothing.
use borrow.Author.Rules.{rules}
use Rattle.std.specs.Prelude.{is_none}
use mathlib.Core.Path.{◌≡◌, refl, sym, ◌∙◌}
use mathlib.Core.List.{[]}
use Rattle.reason.specs.Smallest.{marked_in}
use Rattle.reason.specs.Named.{numbers_of}
use Rattle.reason.proofs.Tables.{found_reason, no_reason, all_stand}
use Rattle.reason.proofs.competing.Goals as goal

pub returns-in-Some : goal.returns-in-Some
returns-in-Some c =
    let m = marked_in c.in-Some.s.marks in
    record {
      set = numbers_of m _;
      reason = λ marks. found_reason _ _ marks _ m c.in-Some.ensures;
      named = c.members.ensures;
    }

pub returns-in_default : goal.returns-in_default
returns-in_default c = record { set = []; reason = λ marks. no_reason _ _ marks c.in_default.ensures; named = record { many = refl; names = refl } }

pub returns-else-is_none : goal.returns-else-is_none
returns-else-is_none c =
    let e : c.is_none.result ≡ is_none c.first-all.result = search rules in
    record { set = []; reason = λ marks. no_reason _ _ marks (all_stand _ _ c.first-all.result c.first-all.ensures (sym e ∙ c.if-is_none.false)); named = record { many = refl; names = refl } }
