-- A list of places read and noted, or the place where none goes on.
use mathlib.Core.Path.{refl}
use Rattle.std.proofs.lemmas.Result.{err_from_is_err_and}
use Rattle.walk.proofs.Places.{before_fits}
use native.Mathlib.Omega.{arith}
use lib.ListN.{drop}
use mathlib.Core.List.{map}
use Rattle.scope.specs.Limits.{place_limit}
use Rattle.walk.proofs.OnePlaces.{then_stuck, then_reads}
use borrow.Author.Rules.{rules}
use Rattle.walk.proofs.places_read.Goals as goal

pub store_places-requires : goal.store_places-requires
store_places-requires c =
    let p = c.requires in
    let w = then_reads _ _ c.list_at.result c.list_at.ensures c.in_ok-list.was in
    (p.3, omega (arith, p.1, p.2), omega (arith, w.many_within, w.within, p.2))

pub first_due-least-requires : goal.first_due-least-requires
first_due-least-requires c =
    let p = c.requires in
    let w = then_reads _ _ c.list_at.result c.list_at.ensures c.in_ok-list.was in
    (search rules, before_fits _ _ w.over_within (omega (arith, w.within, p.2)))

pub returns-in_err-list : goal.returns-in_err-list
returns-in_err-list c =
    let p = err_from_is_err_and c.from_residual.result c.from_residual.ensures.1 in
    rw (p.1, p.2) (then_stuck _ _ c.list_at.result c.list_at.ensures c.in_err-list.was)

pub returns : goal.returns
returns c =
    let w = then_reads _ _ c.list_at.result c.list_at.ensures c.in_ok-list.was in
    record {
      next = _;
      many = _;
      over = _;
      reads = w;
      least = _;
      least_is = c.first_due-least.ensures (drop place_limit (map (λ p. p.at) w.sites)) w.counts.over_is;
      stage = refl;
      put = c.store_places.ensures;
    }
