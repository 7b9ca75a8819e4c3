-- What the call for the pieces of a composition answers and leaves: for each listed name, in the order of the text, its number in the list and its count.
use Rattle.std.specs.Prelude.{ℕ, ◌≡◌, cond, List, [], ◌∷◌, length, Result}
use Rattle.scope.specs.declared.refusals.Refusal.{Refusal}
use Rattle.scope.specs.Lists.{flat, none?}
use Rattle.scope.specs.Glycans.{Item, cuttings, count_of}
use Rattle.scope.specs.Answers.{Said, refuses, says, fitting, output_after}

-- two bytes: the number of the name, from 0, and the count, 1 where none is written
abbrev pub piece_bytes : Item → List ℕ
piece_bytes x = x.name ∷ count_of x.count ∷ []

-- by the ways to cut a text, of which there is never more than one (crates/glycan_laws, `one_way`)
abbrev pub pieces_of : List (List Item) → List ℕ
pieces_of [] = []
pieces_of (xs ∷ more) = flat piece_bytes xs

-- 19 "no cutting"; 15 where the output is shorter than the pieces, at the length needed
abbrev pub pieces_said : List ℕ → ℕ → Said ℕ
pieces_said t room = cond (none? (cuttings t)) (refuses 19 0) (fitting (pieces_of (cuttings t)) room)

pub record PiecesSay (t out : List ℕ) (r : Result ℕ Refusal) (out' : List ℕ) : Type 0 where
  pub says : says r ≡ pieces_said t (length out)
  pub output_after_is : out' ≡ output_after (pieces_said t (length out)) (pieces_of (cuttings t)) out
