-- Demand 3 of a placement: what `is_allowed` allows gives each floater one of its permitted positions, no position twice, copies of one bracket in ascending order;
-- without that order there are no others; and no permitted position has a placed modification.
use Rattle.std.specs.Prelude.{◌≡◌, ◌↔◌, true, List, [], ◌∷◌, map, ℕ, zero, suc, ℤ, get_or, Result}
use Rattle.std.proofs.Common.{sym, ◌∙◌, true≢false}
use Rattle.scope.specs.declared.answers.Placement.{Placement}
use Rattle.scope.specs.Lists.{flat, member}
use Rattle.scope.specs.Line.{Bracket}
use Rattle.scope.specs.Tables.{Tables}
use Rattle.scope.specs.Layout.{tables_in}
use Rattle.scope.specs.Positions.{placed_on, struck_out, floaters, permitted, Floating, floating_of}
use Rattle.scope.specs.Placements.{allowed}
use Rattle.scope.specs.Answers.{good, says}
use Rattle.basics.specs.Each.{In}
use Rattle.basics.specs.Members.{in_member, flat_in}
use Rattle.placement_laws.specs.Terms.{Orderly, unmarked, Placing, Rearranged}
use Rattle.placement_laws.specs.Copies.{unmarked_orderly}
use Rattle.placement_laws.specs.Lines.{permitted_free}
use Rattle.placement_laws.specs.Laws as placing
use Rattle.calls.specs.Says.{AllowedSays}
use Rattle.promises.specs.Promises.{Permitted}
use Rattle.promises.proofs.Weights.{AreasTaken, orderly, is_allowed}
use Rattle.scope.specs.declared.refusals.Refusal.{Refusal}

-- ---- allowed: each stands where it may, alone
pub allowed_so : (bs : List ℕ) (ns : List ℤ) → AreasTaken bs ns → (p : Placement) (r : Result (Unit {0}) Refusal) → AllowedSays bs ns p r
    → (says r ≡ good tt) ↔ Placing (floating_of (tables_in bs ns)) p.at
allowed_so bs ns h p r w =
    let a = is_allowed h p r w in let b = placing.by_entries (floating_of (tables_in bs ns)) (orderly h) p.at in ((λ e. b.0 (a.1 e)), (λ x. a.0 (b.1 x)))

-- ---- without the rule on copies
module _ {bs : List ℕ} {ns : List ℤ} (h : AreasTaken bs ns) where
  abbrev f : Floating
  f = floating_of (tables_in bs ns)

  ok : Orderly f
  ok = orderly h

  without : (p : List ℕ) → (allowed (unmarked f) p ≡ true) ↔ Placing (unmarked f) p
  without p = placing.by_entries (unmarked f) (unmarked_orderly f ok) p

  pub none_lost : ((p : List ℕ) → Placing f p → ⊥) ↔ ((p : List ℕ) → Placing (unmarked f) p → ⊥)
  none_lost =
      let z = placing.none_as_before f ok in (
        (λ n p a. z.0 (λ q b. n q ((placing.by_entries f ok q).0 b)) p ((without p).1 a)),
        λ n p a. z.1 (λ q b. n q ((without q).0 b)) p ((placing.by_entries f ok p).1 a),
      )

  pub sorted : (p : List ℕ) → Placing (unmarked f) p → (q : List ℕ) × Placing f q × Rearranged (tables_in bs ns) p q
  sorted p a = let z = placing.sorted f ok p ((without p).1 a) in (z.0, (placing.by_entries f ok z.0).0 z.1, placing.rearranged (tables_in bs ns) p z.0 z.2)

-- ---- no placed modification stands at a permitted position
struck : (t : Tables) (k : Bracket (Unit {0})) (x : ℕ) → In k t.brackets → In x (placed_on t k) → member x (struck_out t) ≡ true
unfolding struck_out
struck t k x i h = in_member x (flat (placed_on t) t.brackets) (flat_in (placed_on t) k x t.brackets i h)

-- a position in one of the lists is permitted to some floater
some_floater : {A : Type 0} (f : A → List ℕ) (l : List A) (i x : ℕ) → In x (get_or (map f l) i []) → (k : A) × In x (f k)
some_floater f [] i x h = absurd h
some_floater f (k ∷ l) zero x h = (k, h)
some_floater f (k ∷ l) (suc i) x h = some_floater f l i x h

pub free : (bs : List ℕ) (ns : List ℤ) (f x : ℕ) → Permitted bs ns f x → (k : Bracket (Unit {0})) → In k (tables_in bs ns).brackets → In x (placed_on (tables_in bs ns) k) → ⊥
free bs ns zero x h k i e = h
free bs ns (suc f) x h k i e =
    let t = tables_in bs ns in
    let z = some_floater (permitted t) (floaters t) f x h in
    true≢false (sym (struck t k x i e) ∙ permitted_free t z.0 x z.1)
