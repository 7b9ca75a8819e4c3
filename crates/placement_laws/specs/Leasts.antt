-- The first and the next placement are the least of their kind: the head of an ascending list is below all others in it.
use Rattle.std.specs.Prelude.{refl, List, [], ◌∷◌, ℕ}
use Rattle.std.proofs.Common.{sym, inl, inr, ⊎_elim}
use Rattle.scope.specs.Lists.{keep, first_in}
use Rattle.scope.specs.Positions.{Floating}
use Rattle.scope.specs.Placements.{less, placements, first_placement, next_placement}
use Rattle.placement_laws.specs.Terms.{Orderly, Ascending, Allowed, Further, Least}
use Rattle.basics.specs.Each.{In}
use Rattle.basics.specs.Members.{in_keep, keep_in, ordered_keep}
use Rattle.placement_laws.specs.Members.{among_allowed, allowed_among}
use Rattle.placement_laws.specs.Sorted.{Less, placements_ascending}

-- the first of an ascending list is the least in it
first_of : (P : List ℕ → Type 0) (l : List (List ℕ)) → Ascending l → ((p : List ℕ) → P p → In p l) → ((p : List ℕ) → In p l → P p)
    → Least P (first_in l)
first_of P [] a f g = λ q h. f q h
first_of P (p ∷ l) a f g = (g p (inl refl), λ q h. ⊎_elim (λ e. inl (sym e)) (λ k. inr (a.0 q k)) (f q h))

pub first_least : (f : Floating) → Orderly f → Least (Allowed f) (first_placement f)
unfolding first_placement
first_least f ok = first_of (Allowed f) (placements f) (placements_ascending f ok.rising) (allowed_among f) (λ p h. among_allowed f p ok.few h)

pub next_least : (f : Floating) → Orderly f → (p : List ℕ) → Least (Further f p) (next_placement f p)
unfolding next_placement
next_least f ok p =
    first_of (Further f p) (keep (less p) (placements f)) (ordered_keep Less (less p) (placements f) (placements_ascending f ok.rising))
    (λ q h. keep_in (less p) q (placements f) (allowed_among f q h.0) h.1)
    (λ q h. let z = in_keep (less p) q (placements f) h in (among_allowed f q ok.few z.0, z.1))
