-- The laws of specs/Laws.antt hold: the place of 4 by Stuck, which refusal is given by Precedence, the places of all by Inside.
use Rattle.reading_laws.specs.Laws.{Laws}
use Rattle.reading_laws.proofs.Stuck.{stuck_refused, refused_stuck, refused_unique}
use Rattle.reading_laws.proofs.Precedence.{least_some, least_none, first_due_law, refused_law, given_least, lowest_law, accepted_law}
use Rattle.reading_laws.proofs.Printable.{order_printable}
use Rattle.reading_laws.proofs.Inside.{dues_inside}

pub laws : Laws
laws =
    record {
      place_of_4 = λ s i. (stuck_refused s i, refused_stuck s i);
      one_place = refused_unique;
      printable = order_printable;
      first_place = least_some;
      no_place = least_none;
      in_order_lem = first_due_law;
      first_wins = refused_law;
      first_of_its_places = given_least;
      lowest_wins = lowest_law;
      none_due = accepted_law;
      inside_line = dues_inside;
    }
