-- What is shown of compositions, stated. Proofs: proofs/Proved.antt, and the files that it cites.
use Rattle.std.specs.Prelude.{ℕ, ◌*◌, ◌^◌, ◌≤◌, ◌<◌, ◌≡◌, ◌↔◌, true, false, List, [], map, length}
use Rattle.std.proofs.Math.Option.{Option}
use Rattle.scope.specs.Bytes.{upper}
use Rattle.scope.specs.Lists.{all}
use Rattle.scope.specs.Limits.{text_limit, size_limit, count_limit}
use Rattle.scope.specs.Line.{text}
use Rattle.scope.specs.Grammar.{outer_byte}
use Rattle.scope.specs.Glycans.{Item, sugars, mass_decimals, cutting_text, cuttings, short, short_text, cutting_mass}
use Rattle.scope.specs.Kept.{cut_value}
use Rattle.basics.specs.Each.{Each, In, OfGiven}

-- "a count, 1 to 99"
abbrev pub CountGood : Option ℕ → Type 0
CountGood c = OfGiven (λ n. (1 ≤ n) × (n ≤ count_limit)) c

pub record ItemGood (x : Item) : Type 0 where
  pub listed : x.name < length sugars
  pub count : CountGood x.count

abbrev pub AllGood : List Item → Type 0
AllGood xs = Each ItemGood xs

-- xs is a way to cut t "into listed names and counts", "in either case": no search
pub record Cuts (xs : List Item) (t : List ℕ) : Type 0 where
  pub good : AllGood xs
  pub spelled : map upper t ≡ map upper (cutting_text xs)

pub record Laws : Type 1 where
  -- the definition's list of ways has every way and nothing else
  pub every_way : (t : List ℕ) (xs : List Item) → In xs (cuttings t) ↔ Cuts xs t
  -- "in one way only": there are never two. Refusal 20 cannot occur as given
  pub one_way : (t : List ℕ) (xs ys : List Item) → Cuts xs t → Cuts ys t → xs ≡ ys
  -- "and still so with its counts of 1 dropped": nor so shortened; the shortened text is cut into the same names, counts of 1 dropped
  pub shortened : (t : List ℕ) (xs : List Item) → Cuts xs t → Cuts (map short xs) (short_text xs)
  pub one_way_shortened : (t : List ℕ) (xs ys : List Item) → Cuts xs t → Cuts ys (short_text xs) → ys ≡ map short xs
  -- the shortened text is its own, no longer, and weighs the same
  pub short_of_short : (xs : List Item) → short_text (map short xs) ≡ short_text xs
  pub no_longer : (t : List ℕ) (xs : List Item) → Cuts xs t → length (short_text xs) ≤ length t
  pub same_mass : (xs : List Item) → cutting_mass (map short xs) ≡ cutting_mass xs
  -- so the same is kept of it
  pub kept_once : {P : Type 0} (at : P) (t : List ℕ) (xs : List Item) → Cuts xs t → cut_value at (text (short_text xs)) ≡ cut_value at (text t)
  -- it is a text of the grammar: not empty where the text is not, and each byte may stand outside every pair and is no `#`
  pub not_empty : (t : List ℕ) (xs : List Item) → Cuts xs t → short_text xs ≡ [] → t ≡ []
  pub plain : (t : List ℕ) (xs : List Item) → Cuts xs t → all (outer_byte false) (short_text xs) ≡ true
  -- never 7: a composition whose text keeps to its limit weighs less than 1,000,000
  pub small : (t : List ℕ) (xs : List Item) → Cuts xs t → length t ≤ text_limit → cutting_mass xs < size_limit * 10 ^ mass_decimals
