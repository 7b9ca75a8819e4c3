-- What is promised of why there is no placement: over the tables in areas that every call takes, the law of the sets with too few positions.
use Rattle.std.specs.Prelude.{◌≡◌, ◌↔◌, true, List, [], ℕ, ◌<◌, ℤ, Result}
use Rattle.std.proofs.Common.{◌∙◌, arith}
use Rattle.scope.specs.declared.answers.Why.{Why}
use Rattle.scope.specs.declared.refusals.Refusal.{Refusal}
use Rattle.scope.specs.Limits.{position_limit}
use Rattle.scope.specs.Layout.{tables_in}
use Rattle.scope.specs.Positions.{Floating, floating_of}
use Rattle.scope.specs.Reasons.{too_few, Reason}
use Rattle.scope.specs.Answers.{good, says}
use Rattle.placement_laws.specs.Terms.{may_stand_at, Allowed, Placing}
use Rattle.placement_laws.specs.Laws as placing
use Rattle.placement_laws.specs.Lines.{line_inside}
use Rattle.placement_laws.specs.Reasons as reasons
use Rattle.layout_laws.proofs.Laws.{tables_held}
use Rattle.calls.specs.Competing.{told_of, WhySays}
use Rattle.promises.proofs.Weights.{AreasTaken, says_itself, orderly}

module _ (bs : List ℕ) (ns : List ℤ) where
  abbrev f : Floating
  f = floating_of (tables_in bs ns)

  pub one_why : (l m : List ℕ) → Reason f l → Reason f m → l ≡ m
  one_why l m a b = reasons.one_reason f l m a b

  module _ (h : AreasTaken bs ns) where
    inside : (s x : ℕ) → may_stand_at f s x ≡ true → x < position_limit
    inside s x e =
        let few = (tables_held bs ns h.taken).1.tables_within.few_residues in
        omega (arith, few, line_inside (tables_in bs ns) s x e)

    pub empty_why : (l : List ℕ) → Reason f l → (l ≡ []) ↔ ((p : List ℕ) × Allowed f p)
    empty_why l r = reasons.empty_reason f (orderly h) inside l r

    pub too_few_lem : ((l : List ℕ) × (too_few f l ≡ true)) ↔ ((p : List ℕ) → Placing f p → ⊥)
    too_few_lem =
        let z = reasons.exactly_none f (orderly h) inside in (
          (λ l p a. z.0 l p ((placing.by_entries f (orderly h) p).1 a)),
          (λ n. z.1 (λ p a. n p ((placing.by_entries f (orderly h) p).0 a))),
        )

    pub why : (r : Result Why Refusal) → WhySays bs ns r
        → (l : List ℕ) × Reason f l × (says r ≡ good (told_of l)) × ((l ≡ []) ↔ ((p : List ℕ) × Placing f p))
    why r w =
        let z = empty_why w.set w.reason in (
          w.set,
          w.reason,
          w.says ∙ says_itself h (λ t. good (told_of w.set)),
          (
            (λ e. let y = z.0 e in (y.0, (placing.by_entries f (orderly h) y.0).0 y.1)),
            (λ y. z.1 (y.0, (placing.by_entries f (orderly h) y.0).1 y.1)),
          ),
        )
