-- The promises of specs/Promises.antt are kept.
use Rattle.promises.specs.Promises.{Demand1, Demand3, Promises}
use Rattle.promises.proofs.Answering as calls
use Rattle.promises.proofs.AnsweringBlocks as blocks
use Rattle.promises.proofs.Readers as readers
use Rattle.promises.proofs.Wrong as wrong
use Rattle.promises.proofs.Written as written
use Rattle.promises.proofs.Weights as weights
use Rattle.promises.proofs.Placed as placed
use Rattle.promises.proofs.Rows as rows
use Rattle.promises.proofs.Listed as listed
use Rattle.promises.proofs.Whys as whys
use Rattle.placement_laws.specs.Standing.{place}
use Rattle.placement_laws.specs.Laws as placing
use Rattle.scope.specs.Layout.{tables_in}
use Rattle.promises.proofs.Pieced.{composing}
use Rattle.promises.proofs.Reached.{declaring}
use Rattle.promises.proofs.Measured.{measuring}
use Rattle.promises.proofs.Keeps.{keeping}
use Rattle.std.specs.Prelude.{List, ℕ, ℤ}

demand_1 : Demand1
demand_1 =
    record {
      read = readers.answers_lines;
      verdict = readers.verdict;
      write = calls.write;
      count = λ f bs ns. calls.count bs ns f;
      total = calls.totalled;
      bracket_mass = calls.bracket_mass;
      floater_brackets = calls.floater_brackets;
      reached = calls.reached;
      shown = calls.shown;
      is_allowed = calls.is_allowed;
      why_none_lem = calls.why_none_lem;
      next_placement_lem = calls.next_placement_lem;
      step = calls.step;
      ledger = calls.ledger;
      rows = calls.rows;
      first_row_lem = calls.first_row_lem;
      pieces = calls.pieces;
      blocks = blocks.answers;
    }

demand_3 : (bs : List ℕ) (ns : List ℤ) → weights.AreasTaken bs ns → Demand3 bs ns
demand_3 bs ns h =
    record {
      allowed = placed.allowed_so bs ns h;
      free = placed.free bs ns;
      ascend = λ p. placing.by_brackets (tables_in bs ns) (place p);
      none_lost = placed.none_lost h;
      sorted = placed.sorted h;
      too_few_lem = whys.too_few_lem bs ns h;
      why = whys.why bs ns h;
      one_why = whys.one_why bs ns;
      by_value = listed.lists bs ns h;
      in_place = listed.in_place bs ns h;
      adds_up = weights.adds_up bs ns h;
      displays = weights.displays bs ns h;
      lacks = weights.lacks bs ns h;
      rows = rows.rows_kept bs ns h;
    }

pub promises : Promises
promises =
    record {
      demand_1 = demand_1;
      accepting = readers.accepting;
      not_refuses_all = wrong.not_refuses_all;
      not_one_table = wrong.not_one_table;
      only_reader = readers.only_reader;
      demand_2 = written.demand_2;
      demand_3 = λ s bs ns r bs' ns' w q. demand_3 bs' ns' (weights.taken_after (readers.was_read s bs ns r bs' ns' w q));
      reckoned = λ s bs ns r bs' ns' w q t g p.
          let a = readers.was_read s bs ns r bs' ns' w q in
          weights.reckoned a (weights.taken_after a) t (readers.line_means a t g p);
      composing = composing;
      declaring = declaring;
      measuring = λ s bs ns r bs' ns' w q. measuring bs' ns' (weights.taken_after (readers.was_read s bs ns r bs' ns' w q));
      keeping = keeping;
    }
