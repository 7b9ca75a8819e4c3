-- The rows of permitted positions fit into their room: at most so many floaters, each with at most so many positions.
use Rattle.std.specs.Prelude.{not, ◌&&◌, List, [], ◌∷◌, map, ℕ, ◌+◌, ◌*◌, ◌≤◌, length}
use Rattle.std.proofs.Common.{arith, length-append}
use Rattle.std.proofs.lemmas.List.{length-map}
use Rattle.scope.specs.declared.answers.Site.{Site}
use Rattle.scope.specs.Limits.{residue_limit, row_limit, position_limit}
use Rattle.scope.specs.Line.{Bracket, Line}
use Rattle.scope.specs.Lists.{member}
use Rattle.scope.specs.Positions.{permitted, floating_of, sites, positions, may_stand, struck_out, floaters, rows_from, rows_of}
use Rattle.basics.specs.Each.{Each, each_all, each_map}
use Rattle.accepted_laws.specs.Within.{Within}
use Rattle.basics.specs.Lists.{kept_fewer}
use Rattle.basics.specs.Positions.{sites_many}
use Rattle.basics.specs.Tabled.{length_tabled}
use Rattle.layout_laws.proofs.Fits.{rows_room}

permitted_few : {P : Type 0} (l : Line P) (k : Bracket P) → length l.residues ≤ residue_limit → length (permitted l k) ≤ position_limit
unfolding permitted
permitted_few l k h =
    let a = kept_fewer (λ x. may_stand l k x && not (member x (struck_out l))) (positions l) in
    let b = length_tabled (λ x. x) 0 (length (sites l)) in
    omega (arith, sites_many l)

rows_few : (f : ℕ) (qs : List (List ℕ)) → Each (λ q. length q ≤ position_limit) qs → length (rows_from f qs) ≤ length qs * position_limit
unfolding rows_from
rows_few f [] w = omega arith
rows_few f (q ∷ qs) w =
    let a = length-append (map (λ x. record { floater = f; position = x }) q) (rows_from (f + 1) qs) in
    let b = length-map {B = Site} q (λ x. record { floater = f; position = x }) in
    let c = rows_few (f + 1) qs w.1 in
    let d = w.0 in
    omega arith

pub rows_fit : {P : Type 0} (l : Line P) → Within l → length (rows_of l) ≤ row_limit
unfolding rows_of
rows_fit l w =
    let a = rows_few 1 (floating_of l).lists
    (each_map (λ q. length q ≤ position_limit) (permitted l) (floaters l)
    (each_all (λ k. length (permitted l k) ≤ position_limit) (floaters l) (λ k. permitted_few l k w.few_residues))) in
    let b = length-map (floaters l) (permitted l) in
    let c = w.few_copies in
    omega (arith, rows_room)
