-- Where 26 is not due, an area is one of so many whole blocks.
use Rattle.std.specs.Prelude.{◌≡◌, refl, true, ◌&&◌, List, ℕ, ◌%◌, eqb, length}
use borrow.Author.Tests.{leb-true}
use Rattle.std.proofs.Math.Dec.{leb}
use Rattle.scope.specs.Limits.{block_size, block_limit}
use Rattle.basics.specs.Tests.{and_left, and_right}
use Rattle.blocks.specs.Area.{blocks_in, whole_blocks}
use Rattle.area_laws.specs.Areas.{whole_length}
use Rattle.chains.specs.Whole.{Whole}

module _ (a : List ℕ) where
  -- 1 to 128 whole blocks
  pub whole_area : whole_blocks a ≡ true → Whole a (blocks_in a)
  unfolding whole_blocks
  whole_area e =
      let some = and_left (eqb (length a % block_size) 0 && leb 1 (blocks_in a)) (leb (blocks_in a) block_limit) e in
      record {
        long = whole_length a e;
        many = refl;
        some = leb-true 1 (blocks_in a) (and_right (eqb (length a % block_size) 0) (leb 1 (blocks_in a)) some);
        few = leb-true (blocks_in a) block_limit (and_right (eqb (length a % block_size) 0 && leb 1 (blocks_in a)) (leb (blocks_in a) block_limit) e);
      }
