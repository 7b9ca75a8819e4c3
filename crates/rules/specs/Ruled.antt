-- The brackets over which refusals 10 to 12 are asked: all of them are noted, with all their parts. And what is found in them.
use Rattle.std.specs.Prelude.{◌≡◌, false, ◌&&◌, List, ℕ, ◌≤◌, ◌<◌, ℤ, length, replicate}
use Rattle.scope.specs.Limits.{bracket_limit, part_limit, copy_limit}
use Rattle.scope.specs.Line.{Part, Bracket}
use Rattle.scope.specs.Lists.{flat}
use Rattle.scope.specs.Modifications.{only_info, is_referring, copies}
use Rattle.basics.specs.Each.{Each, OfGiven}
use Rattle.sheet.specs.Rows.{Noted}
use Rattle.dues.specs.Ranks.{lowest}
use Rattle.dues.specs.Lines.{ruled_codes}

-- a label has a name
abbrev pub Named : Part ℕ → Type 0
Named p = OfGiven (λ l. 0 < length l.name) p.label

-- what is so of every bracket that a line holds: a reference is not an INFO part, and each label has a name
pub record Shaped (k : Bracket ℕ) : Type 0 where
  pub apart : (is_referring k && only_info k) ≡ false
  pub named : Each Named k.parts

-- these brackets, n of them, are noted
pub record Ruled (line heads parts : List ℕ) (n : ℕ) (ks : List (Bracket ℕ)) : Type 0 where
  pub many : n ≡ length ks
  pub few : n ≤ bracket_limit
  pub few_parts_lem : Each (λ k. length k.parts ≤ part_limit) ks
  pub shaped : Each Shaped ks
  pub m : ℕ
  pub masses : List ℤ
  pub scores : List ℤ
  pub noted : Noted line ks m heads parts masses scores

-- how many copies of brackets float
abbrev pub floating : List (Bracket ℕ) → ℕ
floating ks = length (flat (λ k. replicate (copies k) k) ks)

-- the first refusal due, where `least` is the first of those tried before; and how many copies float, where they are no more than may (a count past its
-- limit is not noted in full)
pub record Finds (ks : List (Bracket ℕ)) (least first floaters : ℕ) : Type 0 where
  pub first_is : first ≡ lowest least (ruled_codes ks)
  pub floaters_are : floating ks ≤ copy_limit → floaters ≡ floating ks
