-- The demands of specs/Demands.antt hold.
use Rattle.std.specs.Prelude.{◌≡◌, true, List, [], ℕ, ℤ, length, get_or}
use Rattle.std.proofs.Common.{sym, ap, ◌∙◌, subst, arith}
use Rattle.std.proofs.lemmas.List.{length-map}
use Rattle.scope.specs.Line.{Line}
use Rattle.scope.specs.Refusals.{accepted, outcome}
use Rattle.scope.specs.Tables.{bare_bracket, bare_residue, tables_of}
use Rattle.scope.specs.Layout.{tables_in}
use Rattle.scope.specs.Positions.{floaters, floating_of}
use Rattle.scope.specs.Placements.{placements, fresh_listing}
use Rattle.scope.specs.Answers.{are_tables}
use Rattle.accepted_laws.specs.Within.{Within}
use Rattle.layout_laws.proofs.Laws as layout
use Rattle.accepted_laws.specs.Laws as kept
use Rattle.reading_laws.proofs.Bare as places
use Rattle.placement_laws.specs.Terms.{Ascending, handed_out}
use Rattle.placement_laws.specs.Laws as placing
use Rattle.mass_laws.specs.Terms.{Fair, Limited}
use Rattle.mass_laws.proofs.Laws as masses
use Rattle.reading_laws.proofs.Weighed as weighed
use Rattle.laws.specs.Demands.{bytes_read, numbers_read, LineDemand3, SameAnswers, Demands}
use Rattle.laws.proofs.Facts.{accepted_fair, accepted_limited, tables_fair, tables_limited}
use Rattle.laws.proofs.Bare.{rows_bare, labile_bare}
use Rattle.laws.proofs.Remeasured.{remeasured_alike}
use Rattle.laws.proofs.Areas

-- ---- demand 3
demand_3_of : {P : Type 0} (t : Line P) → Within t → Fair t → Limited t → LineDemand3 t
demand_3_of t w fair limited =
    let f = floating_of t in
    let n = length (placements f) in
    let ok = placing.line_orderly t w.few_copies in
    let all : handed_out f n fresh_listing ≡ placements f = placing.whole f ok n (omega arith) in
    record {
      every_allowed = placing.complete f ok;
      ascending = subst Ascending (sym all) (placing.ascending f ok);
      once = λ i j h k e. placing.once f ok i j h k (sym (ap (λ l. get_or l i []) all) ∙ e ∙ ap (λ l. get_or l j []) all);
      no_further = λ m h. placing.whole f ok m h ∙ sym all;
      then_17 = placing.ended f ok;
      none_at_first = placing.no_placement f ok;
      none_as_before = placing.none_as_before f ok;
      sorted = λ p a. let z = placing.sorted f ok p a in (z.0, z.1, placing.rearranged t p z.0 z.2);
      adds_up = masses.adds_up t fair;
      own_entry = masses.own_entry t fair;
      past = masses.past t fair;
      total_below = masses.total_below t fair limited;
      nothing_lost = masses.nothing_lost t fair limited;
      stay_out = λ f. let a = remeasured_alike f t in (weighed.same_total a, weighed.same_lacking a, weighed.same_ledger a);
      all_stated = masses.all_stated t fair;
      rows_fit = layout.rows_fit t w;
    }

demand_3 : (s : List ℕ) (l : Line ℕ) → outcome s ≡ accepted l → LineDemand3 l
demand_3 s l e = demand_3_of l (kept.accepted_within s l e) (accepted_fair s l e) (accepted_limited s l e)

demand_3_in : (bs : List ℕ) (ns : List ℤ) → are_tables bs ns ≡ true → LineDemand3 (tables_in bs ns)
demand_3_in bs ns e =
    let h = layout.tables_held bs ns e in
    let l = h.0 in
    let r = h.1.reads in
    subst (λ t. LineDemand3 t) (sym h.1.tables)
    (demand_3_of (tables_of l) (kept.tables_within l h.1.within) (tables_fair _ l r) (tables_limited _ l r))

-- ---- the tables answer for the line
same_answers : {P : Type 0} (l : Line P) → SameAnswers l (tables_of l)
unfolding tables_of
same_answers l =
    record {
      residues = length-map l.residues bare_residue;
      brackets = length-map l.brackets bare_bracket;
      floating = ap length (places.same_floaters l) ∙ length-map (floaters l) bare_bracket;
      rows = rows_bare l;
      positions = places.same_floating l;
      whole = places.same_total l;
      missing = places.same_lacking l;
      labile = labile_bare l;
      entries = places.same_ledger l;
    }

answers : (s : List ℕ) (l : Line ℕ) → outcome s ≡ accepted l → (bs : List ℕ) (ns : List ℤ) → SameAnswers l (tables_in (bytes_read l bs) (numbers_read l ns))
answers s l e bs ns = subst (λ t. SameAnswers l t) (sym (layout.tables_back l (kept.accepted_within s l e) bs ns)) (same_answers l)

pub demands : Demands
demands =
    record {
      demand_2 = Areas.demand_2;
      calls = Areas.calls;
      fair = λ s l e. (accepted_fair s l e, tables_fair s l e);
      limited = λ s l e. (accepted_limited s l e, tables_limited s l e);
      demand_3 = demand_3;
      demand_3_in = demand_3_in;
      answers = answers;
    }
