-- The laws of compositions, proved.
use Rattle.std.specs.Prelude.{map}
use Rattle.scope.specs.Glycans.{short, short_text}
use Rattle.glycan_laws.specs.Laws.{Laws}
use Rattle.glycan_laws.proofs.Last.{one_way}
use Rattle.glycan_laws.proofs.Enumerated.{every_way}
use Rattle.glycan_laws.proofs.Masses.{short_of_short, same_mass, no_longer, small}
use Rattle.glycan_laws.proofs.Written.{shortened, kept_once, not_empty, plain}

pub laws : Laws
laws =
    record {
      every_way = every_way;
      one_way = one_way;
      shortened = shortened;
      one_way_shortened = λ t xs ys c d. one_way (short_text xs) ys (map short xs) d (shortened t xs c);
      short_of_short = short_of_short;
      no_longer = no_longer;
      same_mass = same_mass;
      kept_once = kept_once;
      not_empty = not_empty;
      plain = plain;
      small = small;
    }
