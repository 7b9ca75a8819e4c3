-- The first refusal due before a bracket: of too many brackets, and of too many declarations.
-- before a bracket of kind k, where l is the first due with one bracket more
use mathlib.Core.Path.{◌≡◌, refl, sym, ap, ◌∙◌}
use mathlib.Core.Bool.{Bool, true, false, ◌&&◌}
use mathlib.Core.List.{map}
use Prim.Native.Nat.{ℕ, ◌-◌, ◌≤◌, min}
use lib.Dec.{leb}
use Rattle.scope.specs.declared.grammar.Kind.{Kind}
use Rattle.scope.specs.Kinds.{is_declared}
use Rattle.scope.specs.Limits.{bracket_limit, declaration_limit}
use Rattle.scope.specs.Refusals.{due_at}
use Rattle.dues.specs.Ranks.{code, lowest}
use Rattle.dues.specs.Lines.{over_rank}
use Rattle.walk.specs.declared.Stage.{Stage}
use Rattle.walk.specs.Steps.{least_before}
use borrow.Author.Tests.{le-leb, lt-leb}
use Rattle.walk.proofs.least_before.Goals as goal

module _ (s : Stage) (k : Kind) (l : ℕ) (e : l ≡ lowest s.least (map (code over_rank) (due_at (leb bracket_limit s.brackets) s.at))) where
  one_due : is_declared k ≡ true → declaration_limit ≤ s.brackets → min (code over_rank (s.at - 1)) l ≡ least_before s k
  unfolding lowest
  one_due f g = rw (f, le-leb declaration_limit s.brackets g) (ap (min (code over_rank (s.at - 1))) e)

  none_due : (is_declared k && leb declaration_limit s.brackets) ≡ false → l ≡ least_before s k
  unfolding lowest
  none_due f = rw f e

few : (a b : Bool) → b ≡ false → (a && b) ≡ false
few true b e = e
few false b e = refl

pub returns-then-s-ge-DECLARATIONS : goal.returns-then-s-ge-DECLARATIONS
returns-then-s-ge-DECLARATIONS c =
    let a = c.args in
    c.due.ensures ∙ one_due a.s a.kind _ c.due_if-least.ensures (sym c.is_kind.ensures ∙ c.if-is_kind.true) c.if-s-ge-DECLARATIONS.true

pub returns-else-s-ge-DECLARATIONS : goal.returns-else-s-ge-DECLARATIONS
returns-else-s-ge-DECLARATIONS c =
    let a = c.args in
    none_due a.s a.kind _ c.due_if-least.ensures (few (is_declared a.kind) _ (lt-leb _ _ c.if-s-ge-DECLARATIONS.false))

pub returns-else-is_kind : goal.returns-else-is_kind
returns-else-is_kind c =
    let a = c.args in
    none_due a.s a.kind _ c.due_if-least.ensures (ap (λ t. t && leb declaration_limit a.s.brackets) (sym c.is_kind.ensures ∙ c.if-is_kind.false))
