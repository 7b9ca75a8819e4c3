-- `placements::continued` meets its contract: an allowed placement has all floaters standing, with copies in order, so the search goes on from it; any other content
-- gets 18.
use mathlib.Core.Path.{◌≡◌, sym, ap, ◌∙◌, subst}
use mathlib.Core.Bool.{true}
use mathlib.Core.List.{List}
use lib.ListN.{length}
use borrow.Author.Rules.{rules}
use Rattle.std.specs.Prelude.{ℕ, Some, None}
use Rattle.scope.specs.Limits.{copy_limit}
use Rattle.scope.specs.Answers.{good, of_good, moved}
use Rattle.scope.specs.Placements.{allowed}
use Rattle.areas.specs.Floats.{floating_in}
use Rattle.placement_laws.specs.Standing.{place, Good}
use Rattle.exchange.specs.Order.{Next as Following}
use Rattle.exchange.specs.Table.{may_in, mark_in}
use Rattle.exchange.proofs.Laws.{full_small}
use Rattle.placements.proofs.Right.{table_alike}
use Rattle.placements.proofs.Answers.{allowed_good, continued_found, continued_refused}
use Rattle.placements.proofs.continued.Goals as goal

pub returns-then-not-is_allowed : goal.returns-then-not-is_allowed
returns-then-not-is_allowed c = sym (ap (of_good moved) (continued_refused _ c.args.l c.requires.2 (sym c.is_allowed.ensures ∙ c.if-not-is_allowed.true)))

pub next-requires : goal.next-requires
next-requires c =
    let a = c.args in
    let here : allowed (floating_in a.tab.now a.copy a.k) a.l.at ≡ true = sym c.is_allowed.ensures ∙ c.if-not-is_allowed.false in
    record {
      sized = c.requires.0;
      alike = table_alike _ _ _ c.requires.1;
      good =
          subst (λ (v : List ℕ). Good (may_in a.tab.now) (mark_in a.copy) a.k (place v)) (sym c.widened-w.ensures)
          (allowed_good _ _ _ a.l.at c.requires.0 here);
    }

pub returns-in_default : goal.returns-in_default
returns-in_default c =
    let a = c.args in
    let here : allowed (floating_in a.tab.now a.copy a.k) a.l.at ≡ true = sym c.is_allowed.ensures ∙ c.if-not-is_allowed.false in
    sym
    (ap (of_good moved) (continued_found a.tab.now a.copy a.k a.l None c.requires.0 c.requires.1 c.requires.2 here tt
    (subst (λ (x : List ℕ). Following (may_in a.tab.now) (mark_in a.copy) a.k (place x) None) c.widened-w.ensures c.in_default.ensures)))

pub moved-requires : goal.moved-requires
moved-requires c = (c.requires.0.few, λ s l. full_small c.args.tab.now _ s (place c.in-Some.further.at) c.in-Some.ensures.0.full l)

pub returns : goal.returns
returns c =
    let a = c.args in
    let here : allowed (floating_in a.tab.now a.copy a.k) a.l.at ≡ true = sym c.is_allowed.ensures ∙ c.if-not-is_allowed.false in
    let w = c.in-Some.further in
    let eight : length w.at ≡ copy_limit = search rules in
    ap good c.moved.ensures
    ∙ sym
    (ap (of_good moved) (continued_found a.tab.now a.copy a.k a.l (Some w) c.requires.0 c.requires.1 c.requires.2 here eight
    (subst (λ (x : List ℕ). Following (may_in a.tab.now) (mark_in a.copy) a.k (place x) (Some w)) c.widened-w.ensures c.in-Some.ensures)))
