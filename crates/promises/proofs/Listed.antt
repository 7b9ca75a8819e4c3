-- Demand 3 of the listing: requests from a fresh record come to 17, and what they handed out until then is every allowed placement once, ascending.
use Rattle.std.specs.Prelude.{◌≡◌, refl, ◌↔◌, ℤ, length, drop, get_or, Result, Ok, Err}
use Rattle.std.proofs.Common.{sym, ap₂, ◌∙◌, subst, arith}
use Rattle.std.proofs.Math.Path.{ap}
use Rattle.std.proofs.Math.Option.{none, some}
use mathlib.Core.List.{List, [], ◌∷◌, ◌++◌}
use Prim.Native.Nat.{ℕ, zero, suc, ◌+◌, ◌≤◌}
use Rattle.std.proofs.Math.ListN.{get_elem?}
use Rattle.scope.specs.declared.answers.Placement.{Placement}
use Rattle.scope.specs.declared.answers.Listing.{Listing}
use Rattle.scope.specs.Tables.{Tables}
use Rattle.scope.specs.Layout.{tables_in}
use Rattle.scope.specs.Positions.{Floating, floating_of}
use Rattle.scope.specs.Placements.{placements, fresh_listing}
use Rattle.scope.specs.Answers.{Said, good, refuses, findable, of_good, met, requested, moved, moved_on, requests, says}
use Rattle.placement_laws.specs.Terms.{Ascending, after_requests, out_of, handed_out}
use Rattle.basics.specs.Each.{In}
use Rattle.placement_laws.specs.Laws as placing
use Rattle.laws.specs.Demands as laws
use Rattle.laws.proofs.Proved.{demands}
use Rattle.calls.specs.Says.{AllowedSays, NextSays}
use Rattle.listing.specs.Says.{StepSays}
use Rattle.basics.specs.Said.{not_both, same_good, same_number_lem, same_place}
use Rattle.promises.specs.Promises.{HandsOut, InPlace, Lists}
use Rattle.promises.proofs.Said.{of_taken, of_refused}
use Rattle.promises.proofs.Answering.{is_allowed, next_placement_lem}
use Rattle.promises.proofs.Weights.{AreasTaken, says_itself, orderly}
use Rattle.promises.proofs.Weights.{is_allowed as allowed_so}
use Rattle.scope.specs.declared.refusals.Refusal.{Refusal}

-- ---- a list at a place, and at its end
past_end : (l : List (List ℕ)) (n : ℕ) → length l ≤ n → (get_elem? l n ≡ none) × (drop n l ≡ [])
past_end [] zero h = (refl, refl)
past_end [] (suc n) h = (refl, refl)
past_end (p ∷ l) zero h = absurd (omega arith)
past_end (p ∷ l) (suc n) h = past_end l n (omega arith)

at_place : (l : List (List ℕ)) (n : ℕ) → suc n ≤ length l → (get_elem? l n ≡ some (get_or l n [])) × (drop n l ≡ get_or l n [] ∷ drop (suc n) l)
at_place [] n h = absurd (omega arith)
at_place (p ∷ l) zero h = (refl, refl)
at_place (p ∷ l) (suc n) h = at_place l n (omega arith)

-- what hands out so hands out so by another call, if its answers are the other's
hands_out_as : (Moves Others : Listing → Result Listing Refusal → Type 0) → ((l : Listing) (r : Result Listing Refusal) → Moves l r → Others l r) → (ps : List (List ℕ)) (l : Listing)
    → HandsOut Moves l ps → HandsOut Others l ps
hands_out_as Moves Others f [] l w = (w.0, (f l w.0 w.1.0, w.1.1))
hands_out_as Moves Others f (p ∷ ps) l w = (w.0, (f l (Ok w.0) w.1.0, (w.1.1.0, hands_out_as Moves Others f ps w.0 w.1.1.1)))

-- ---- requests by what is said of them
none_further : (f : Floating) (l : Listing) → requested f l ≡ refuses 17 0 → (n : ℕ) → handed_out f n l ≡ []
unfolding handed_out
none_further f l e zero = refl
none_further f l e (suc n) = ap (λ a. out_of a ++ handed_out f n (moved_on l a)) e ∙ none_further f l e n

after_next : (f : Floating) (n : ℕ) (l : Listing) → after_requests f (suc n) l ≡ moved_on (after_requests f n l) (requested f (after_requests f n l))
unfolding after_requests
after_next f zero l = refl
after_next f (suc n) l = after_next f n (moved_on l (requested f l))

module _ (bs : List ℕ) (ns : List ℤ) (h : AreasTaken bs ns) where
  abbrev t : Tables
  t = tables_in bs ns

  abbrev f : Floating
  f = floating_of t

  pub requests_so : (l : Listing) → requests bs ns l ≡ requested f l
  requests_so l = says_itself h (λ t. requested (floating_of t) l)

  -- what a call answers, from what is said
  answer_so : (l : Listing) (r : Result Listing Refusal) → NextSays bs ns l r → says r ≡ of_good moved (requested f l)
  answer_so l r w = w ∙ ap (of_good moved) (requests_so l)

  said_17 : (l : Listing) (r : Result Listing Refusal) → NextSays bs ns l r → says r ≡ refuses 17 0 → requested f l ≡ refuses 17 0
  said_17 l r w e = of_refused moved (requested f l) (sym (answer_so l r w) ∙ e)

  -- what is handed out until 17 is what as many requests hand out, or more
  handed_so : (ps : List (List ℕ)) (l : Listing) → HandsOut (NextSays bs ns) l ps → (n : ℕ) → length ps ≤ n → handed_out f n l ≡ ps
  unfolding handed_out
  handed_so [] l w n k = none_further f l (said_17 l w.0 w.1.0 w.1.1) n
  handed_so (p ∷ ps) l w zero k = absurd (omega arith)
  handed_so (p ∷ ps) l w (suc n) k =
      let m = of_taken moved (requested f l) (sym (answer_so l (Ok w.0) w.1.0)) in
      ap (λ a. out_of a ++ handed_out f n (moved_on l a)) m.1
      ∙ ap (λ (x : Listing). x.at ∷ handed_out f n x) (sym m.2)
      ∙ ap (λ x. x ∷ handed_out f n w.0) w.1.1.0
      ∙ ap (λ x. p ∷ x) (handed_so ps w.0 w.1.1.1 n (omega arith))

  all_handed : (ps : List (List ℕ)) → HandsOut (NextSays bs ns) fresh_listing ps → ps ≡ laws.listed t (laws.many t)
  all_handed ps w =
      let n = length ps + laws.many t in
      sym (handed_so ps fresh_listing w n (omega arith)) ∙ (demands.demand_3_in bs ns h.taken).no_further n (omega arith)

  every_allowed : (ps : List (List ℕ)) → HandsOut (NextSays bs ns) fresh_listing ps → (p : Placement) (r : Result (Unit {0}) Refusal) → AllowedSays bs ns p r
      → In p.at ps ↔ (says r ≡ good tt)
  every_allowed ps w p r v =
      let d = (demands.demand_3_in bs ns h.taken).every_allowed p.at in
      let e = all_handed ps w in
      let k = allowed_so h p r v in
      ((λ q. k.0 (d.0 (subst (λ x. In p.at x) e q))), (λ q. subst (λ x. In p.at x) (sym e) (d.1 (k.1 q))))

  ascending : (ps : List (List ℕ)) → HandsOut (NextSays bs ns) fresh_listing ps → Ascending ps
  ascending ps w = subst Ascending (sym (all_handed ps w)) (demands.demand_3_in bs ns h.taken).ascending

  -- ---- "'none' exactly when none exists"
  none_exists : (r : Result Listing Refusal) → NextSays bs ns fresh_listing r
      → (says r ≡ refuses 17 0) ↔ ((p : Placement) (q : Result (Unit {0}) Refusal) → AllowedSays bs ns p q → says q ≡ good tt → ⊥)
  none_exists r w =
      let d = (demands.demand_3_in bs ns h.taken).none_at_first in (
        (λ e p q v a. d.0 (said_17 fresh_listing r w e) p.at ((allowed_so h p q v).1 a)),
        (λ no.
            answer_so fresh_listing r w
            ∙ ap (of_good moved)
            (d.1
            (λ p a.
            let x = (is_allowed bs ns (record { at = p })).exactly_one in
            no (record { at = p }) x.outcome x.ensured ((allowed_so h (record { at = p }) x.outcome x.ensured).0 a)))),
      )

  -- ---- the requests end
  requested_nth : (n : ℕ) → requested f (after_requests f n fresh_listing) ≡ findable (get_elem? (placements f) n)
  requested_nth n = placing.request f (orderly h) n

  -- from the record after n requests on
  handed_from : (k n : ℕ) → length (placements f) ≡ n + k → HandsOut (NextSays bs ns) (after_requests f n fresh_listing) (drop n (placements f))
  handed_from zero n e =
      let l = after_requests f n fresh_listing in
      let p = past_end (placements f) n (omega arith) in
      let x = (next_placement_lem bs ns l).exactly_one in
      let q = requested_nth n ∙ ap findable p.0 in
      subst (HandsOut (NextSays bs ns) l) (sym p.1) (x.outcome, (x.ensured, answer_so l x.outcome x.ensured ∙ ap (of_good moved) q))
  handed_from (suc k) n e =
      let l = after_requests f n fresh_listing in
      let p = at_place (placements f) n (omega arith) in
      let out = get_or (placements f) n [] in
      let q = requested_nth n ∙ ap findable p.0 in
      subst (HandsOut (NextSays bs ns) l) (sym p.1) (
        moved out,
        (
          ap (of_good moved) (sym q ∙ sym (requests_so l)),
          (
            refl,
            subst (λ y. HandsOut (NextSays bs ns) y (drop (suc n) (placements f))) (after_next f n fresh_listing ∙ ap (moved_on l) q) (handed_from k (suc n) (omega arith)),
          ),
        ),
      )

  ends : (ps : List (List ℕ)) × HandsOut (NextSays bs ns) fresh_listing ps
  unfolding after_requests
  ends = (placements f, handed_from (length (placements f)) 0 (omega arith))

  pub lists : Lists bs ns (NextSays bs ns)
  lists = record { ends = ends; every_allowed = every_allowed; ascending = ascending; none = none_exists }

  -- ---- in place: as by the record that is handed back
  step_next : (l : Listing) (s : Said (List ℕ)) (r : Result Listing Refusal)
      → InPlace (λ l q k. (says q ≡ met s) × (k ≡ moved_on l s)) l r ↔ (says r ≡ of_good moved s)
  step_next l (good p) (Ok k) = ((λ w. ap good w.1), (λ e. (refl, same_good e)))
  step_next l (good p) (Err e) = ((λ w. absurd (not_both (sym w.0))), (λ f. absurd (not_both (sym f))))
  step_next l (refuses n p) (Ok k) = ((λ w. absurd (not_both w.0)), (λ f. absurd (not_both f)))
  step_next l (refuses n p) (Err e) = ((λ w. ap₂ refuses (same_number_lem w.0) (same_place w.0)), (λ f. (ap₂ refuses (same_number_lem f) (same_place f), refl)))

  alike : (l : Listing) (r : Result Listing Refusal) → InPlace (StepSays bs ns) l r ↔ NextSays bs ns l r
  alike l (Ok k) = step_next l (requests bs ns l) (Ok k)
  alike l (Err e) = step_next l (requests bs ns l) (Err e)

  to_value : (ps : List (List ℕ)) → HandsOut (InPlace (StepSays bs ns)) fresh_listing ps → HandsOut (NextSays bs ns) fresh_listing ps
  to_value ps w = hands_out_as (InPlace (StepSays bs ns)) (NextSays bs ns) (λ l r. (alike l r).0) ps fresh_listing w

  pub in_place : Lists bs ns (InPlace (StepSays bs ns))
  in_place =
      record {
        ends = (ends.0, hands_out_as (NextSays bs ns) (InPlace (StepSays bs ns)) (λ l r. (alike l r).1) ends.0 fresh_listing ends.1);
        every_allowed = λ ps w. every_allowed ps (to_value ps w);
        ascending = λ ps w. ascending ps (to_value ps w);
        none = λ r w. none_exists r ((alike fresh_listing r).0 w);
      }
