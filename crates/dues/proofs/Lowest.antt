-- The lowest code with one place more of a rule, and with the first of some places. Assumes nothing.
use mathlib.Core.Path.{◌≡◌, refl, sym, ap, ◌∙◌}
use mathlib.Core.Bool.{Bool, true, false}
use mathlib.Core.Option.{Option, none, some}
use mathlib.Core.List.{List, [], ◌∷◌, map}
use Prim.Native.Nat.{ℕ, ◌+◌, min}
use native.Mathlib.Omega.{arith}
use Rattle.std.specs.Prelude.{Option as Perhaps, Some, None}
use Rattle.scope.specs.Lists.{given}
use Rattle.scope.specs.Refusals.{least, due_at}
use Rattle.values.specs.Says.{coded}
use Rattle.dues.specs.Ranks.{code, lowest}

-- 0 for no place, else one more than it
abbrev counted : Perhaps ℕ → ℕ
counted None = 0
counted (Some i) = i + 1

module _ (n rank : ℕ) where
  pub taken : (place : ℕ) {r : ℕ} {so : Bool} → so ≡ true → r ≡ min (code rank place) n → r ≡ lowest n (map (code rank) (due_at so place))
  unfolding lowest
  taken place e p = rw e p

  pub left : (place : ℕ) {so : Bool} → so ≡ false → n ≡ lowest n (map (code rank) (due_at so place))
  unfolding lowest
  left place e = rw e

  -- of some places, the first counts
  first_place : (ps : List ℕ) → lowest n (map (code rank) ps) ≡ given (least ps) (λ p. min (code rank p) n) n
  unfolding lowest least
  first_place [] = refl
  first_place (i ∷ ps) = ap (min (code rank i)) (first_place ps) ∙ go (least ps)
    where
      go : (o : Option ℕ) → min (code rank i) (given o (λ p. min (code rank p) n) n) ≡ min (code rank (given o (min i) i)) n
      go none = refl
      go (some p) = omega arith

  pub no_place : (ps : List ℕ) {d : Perhaps ℕ} → d ≡ None → d ≡ coded (least ps) → n ≡ lowest n (map (code rank) ps)
  no_place ps z e = go (least ps) (sym z ∙ e) ∙ sym (first_place ps)
    where
      go : (o : Option ℕ) → None ≡ coded o → n ≡ given o (λ p. min (code rank p) n) n
      go none q = refl
      go (some p) q = absurd (let f = ap counted q in omega arith)

  pub a_place : (ps : List ℕ) (i : ℕ) {d : Perhaps ℕ} {r : ℕ} → d ≡ Some i → d ≡ coded (least ps) → r ≡ min (code rank i) n → r ≡ lowest n (map (code rank) ps)
  a_place ps i {r = r} z e p = go (least ps) (sym z ∙ e) ∙ sym (first_place ps)
    where
      go : (o : Option ℕ) → Some i ≡ coded o → r ≡ given o (λ p. min (code rank p) n) n
      go none q = absurd (let f = ap counted q in omega arith)
      go (some j) q = let f = ap counted q in let h : i ≡ j = omega arith in p ∙ ap (λ x. min (code rank x) n) h
