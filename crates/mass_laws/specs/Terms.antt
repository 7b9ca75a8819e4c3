-- The terms of the laws: what they ask of a line, each a plain fact that every accepted line has.
use Rattle.std.specs.Prelude.{◌≡◌, Bool, true, false, ◌||◌, ℕ, ◌+◌, ◌-◌, ◌*◌, ◌^◌, ◌≤◌, ◌<◌, nat_abs, length}
use Rattle.scope.specs.declared.grammar.Kind.{Kind}
use Rattle.scope.specs.declared.grammar.Kind.TheVariants.{Unknown}
use Rattle.scope.specs.Limits.{residue_limit, bracket_limit, copy_limit, position_limit, declaration_limit, size_limit, decimal_limit}
use Rattle.scope.specs.Line.{Bracket, Line}
use Rattle.scope.specs.Kinds.{is_labile, is_declared}
use Rattle.scope.specs.Modifications.{is_labelled}
use Rattle.scope.specs.Refusals.{declarations}
use Rattle.scope.specs.Positions.{floaters}
use Rattle.scope.specs.Masses.{mass_or0}
use Rattle.basics.specs.Each.{Each}

-- what a mass stays below in size: "a mass or score below 1,000,000 in size", in millionths
abbrev pub mass_limit : ℕ
mass_limit = size_limit * 10 ^ decimal_limit

-- and what the total stays below: a mass for each declaration at each position, one for each other bracket but one, and one for each floating copy
abbrev pub total_limit : ℕ
total_limit = (declaration_limit * position_limit + (bracket_limit - declaration_limit) + copy_limit - 1) * mass_limit

-- "`{}` holds no label"; of declarations, "Their brackets carry no label" (02, L2)
abbrev pub labelless : Kind → Bool
labelless k = is_labile k || is_declared k

-- a bracket of a line with n residues
pub record FairBracket {P : Type 0} (n : ℕ) (k : Bracket P) : Type 0 where
  -- "count 1 to 99"
  pub some_count : 0 < k.count
  -- "runs of unknown-position brackets .. each bracket perhaps with `^` and a count": no other has one
  pub single : (k.kind ≡ Unknown → ⊥) → k.count ≡ 1
  -- 11 "count (`^1` too) on a labelled bracket"
  pub labelled_single : is_labelled k ≡ true → k.count ≡ 1
  pub unlabelled : labelless k.kind ≡ true → is_labelled k ≡ false
  -- "Position 0 is the N-terminus, 1 to n the residues, n+1 the C-terminus"
  pub inside : k.first ≤ n + 1

pub record Fair {P : Type 0} (t : Line P) : Type 0 where
  -- "residues 1 to 254"
  pub few_residues : length t.residues ≤ residue_limit
  pub each_bracket : Each (FairBracket (length t.residues)) t.brackets

-- the limits that bound the total
pub record Limited {P : Type 0} (t : Line P) : Type 0 where
  -- "brackets, square and curly together, 64"
  pub few_brackets_lem : length t.brackets ≤ bracket_limit
  -- "up to eight declarations" (02, L2)
  pub few_declarations : length (declarations t.brackets) ≤ declaration_limit
  -- "floating copies 8"
  pub few_copies : length (floaters t) ≤ copy_limit
  pub small : Each (λ k. nat_abs (mass_or0 k) < mass_limit) t.brackets
