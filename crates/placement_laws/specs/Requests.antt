-- Requests in a row, from a fresh record on. A record is due the placements that it has yet to hand out (`Due`); each request hands out the first of them.
use Rattle.std.specs.Prelude.{◌≡◌, ◌⊎◌, true, ℕ, zero, suc, ◌≤◌, length, take}
use Rattle.std.proofs.Math.Path.{refl, ap}
use Rattle.std.proofs.Common.{sym, ◌∙◌, arith, take_all}
use Rattle.std.proofs.Math.Logic.{inl, inr}
use Rattle.std.proofs.Math.Option.{Option, none, some}
use mathlib.Core.List.{List, [], ◌∷◌, ◌++◌, append_assoc}
use Rattle.std.proofs.Math.ListN.{get_elem?}
use Rattle.std.proofs.Math.Seq.{take-nil}
use Rattle.scope.specs.declared.answers.Listing.{Listing}
use Rattle.scope.specs.Lists.{all, keep, first_in}
use Rattle.scope.specs.Positions.{Floating}
use Rattle.scope.specs.Placements.{less, placements, first_placement, next_placement, no_mark, fresh_listing, taken_listing, following}
use Rattle.scope.specs.Answers.{Said, good, refuses, findable, requested, moved_on}
use Rattle.placement_laws.specs.Terms.{Orderly, Ascending, Allowed, Least, after_requests, out_of, handed_out}
use Rattle.basics.specs.Each.{In}
use Rattle.basics.specs.Tests.{falsely}
use Rattle.basics.specs.Members.{in_right, keep_yes, keep_no}
use Rattle.placement_laws.specs.Order.{less_self, less_asym}
use Rattle.placement_laws.specs.Members.{among_allowed}
use Rattle.placement_laws.specs.Sorted.{placements_ascending}
use Rattle.placement_laws.specs.Leasts.{first_least}

-- the record with p handed out last
abbrev pub held : List ℕ → Listing
held p = record { at = p; mark = no_mark }

pub requested_fresh : (f : Floating) → requested f fresh_listing ≡ findable (first_placement f)
unfolding requested taken_listing following all
requested_fresh f = refl

pub requested_held : (f : Floating) (p : List ℕ) → Allowed f p → requested f (held p) ≡ findable (next_placement f p)
unfolding requested taken_listing following
requested_held f p e = rw e

-- ---- those above p in an ascending list are those behind it
keep_all : (p : List ℕ) (m : List (List ℕ)) → ((q : List ℕ) → In q m → less p q ≡ true) → keep (less p) m ≡ m
unfolding keep
keep_all p [] h = refl
keep_all p (q ∷ m) h = keep_yes (less p) q m (h q (inl refl)) ∙ ap (λ l. q ∷ l) (keep_all p m (λ r k. h r (inr k)))

pub above : (l m : List (List ℕ)) (p : List ℕ) → Ascending (l ++ (p ∷ m)) → keep (less p) (l ++ (p ∷ m)) ≡ m
above [] m p a = keep_no (less p) p m (falsely (less p p) (less_self p)) ∙ keep_all p m a.0
above (q ∷ l) m p a =
    keep_no (less p) q (l ++ (p ∷ m)) (falsely (less p q) (λ e. less_asym p q e (a.0 p (in_right p l (p ∷ m) (inl refl))))) ∙ above l m p a.1

past : (l : List (List ℕ)) (n : ℕ) → length l ≤ n → get_elem? l n ≡ none
past [] zero h = refl
past [] (suc n) h = refl
past (p ∷ l) zero h = absurd (omega arith)
past (p ∷ l) (suc n) h = past l n (omega arith)

module _ (f : Floating) (ok : Orderly f) where
  -- the placements that a record has yet to hand out: all of them where it is fresh, else those behind the one it holds
  Due : Listing → List (List ℕ) → Type 0
  Due x m = ((x ≡ fresh_listing) × (m ≡ placements f)) ⊎ ((l : List (List ℕ)) × (p : List ℕ) × (x ≡ held p) × (l ++ (p ∷ m) ≡ placements f))

  fresh_due : Due fresh_listing (placements f)
  unfolding Due
  fresh_due = inl (refl, refl)

  -- a request hands out the first of them
  answer : (x : Listing) (m : List (List ℕ)) → Due x m → requested f x ≡ findable (first_in m)
  unfolding Due first_placement next_placement
  answer x m (inl (e, w)) = ap (requested f) e ∙ requested_fresh f ∙ ap (λ k. findable (first_in k)) (sym w)
  answer x m (inr (l, p, e, w)) =
      ap (requested f) e ∙ requested_held f p (among_allowed f p ok.few (rw (sym w) (in_right p l (p ∷ m) (inl refl))))
      ∙ ap (λ k. findable (first_in k)) (ap (keep (less p)) (sym w) ∙ above l m p (rw (sym w) at (placements_ascending f ok.rising)))

  -- and leaves the others due
  onward : (x : Listing) (q : List ℕ) (m : List (List ℕ)) → Due x (q ∷ m) → Due (held q) m
  unfolding Due
  onward x q m (inl (e, w)) = inr ([], q, refl, w)
  onward x q m (inr (l, p, e, w)) = inr (l ++ (p ∷ []), q, refl, append_assoc l (p ∷ []) (q ∷ m) ∙ w)

  -- ---- the answer to each request
  after_more : (n : ℕ) (x : Listing) (a : Said (List ℕ)) → requested f x ≡ a → after_requests f (suc n) x ≡ after_requests f n (moved_on x a)
  unfolding after_requests
  after_more n x a e = ap (λ z. after_requests f n (moved_on x z)) e

  after_none : (x : Listing) → after_requests f zero x ≡ x
  unfolding after_requests
  after_none x = refl

  nth : (n : ℕ) (x : Listing) (m : List (List ℕ)) → Due x m → requested f (after_requests f n x) ≡ findable (get_elem? m n)
  nth zero x [] d = rw (after_none x) (answer x [] d)
  nth zero x (q ∷ m) d = rw (after_none x) (answer x (q ∷ m) d)
  nth (suc n) x [] d = rw (after_more n x (refuses 17 0) (answer x [] d)) (nth n x [] d)
  nth (suc n) x (q ∷ m) d = rw (after_more n x (good q) (answer x (q ∷ m) d)) (nth n (held q) m (onward x q m d))

  pub nth_request : (n : ℕ) → requested f (after_requests f n fresh_listing) ≡ findable (get_elem? (placements f) n)
  nth_request n = nth n fresh_listing (placements f) fresh_due

  pub ended : (n : ℕ) → length (placements f) ≤ n → requested f (after_requests f n fresh_listing) ≡ refuses 17 0
  ended n h = nth_request n ∙ ap findable (past (placements f) n h)

  -- ---- all that is handed out
  out_more : (n : ℕ) (x : Listing) (a : Said (List ℕ)) → requested f x ≡ a → handed_out f (suc n) x ≡ out_of a ++ handed_out f n (moved_on x a)
  unfolding handed_out
  out_more n x a e = ap (λ z. out_of z ++ handed_out f n (moved_on x z)) e

  out_none : (x : Listing) → handed_out f zero x ≡ []
  unfolding handed_out
  out_none x = refl

  out : (n : ℕ) (x : Listing) (m : List (List ℕ)) → Due x m → handed_out f n x ≡ take n m
  out zero x m d = out_none x
  out (suc n) x [] d = out_more n x (refuses 17 0) (answer x [] d) ∙ out n x [] d ∙ take-nil n
  out (suc n) x (q ∷ m) d = out_more n x (good q) (answer x (q ∷ m) d) ∙ ap (λ k. q ∷ k) (out n (held q) m (onward x q m d))

  pub all_handed : (n : ℕ) → handed_out f n fresh_listing ≡ take n (placements f)
  all_handed n = out n fresh_listing (placements f) fresh_due

  pub whole : (n : ℕ) → length (placements f) ≤ n → handed_out f n fresh_listing ≡ placements f
  whole n h = all_handed n ∙ take_all n (placements f) h

  -- ---- no placement at all
  none_least : (a : Option (List ℕ)) → Least (Allowed f) a → findable a ≡ refuses 17 0 → (p : List ℕ) → Allowed f p → ⊥
  none_least none h e = h
  none_least (some p) h e = absurd (let z : ◌≡◌ {A = ℕ} 0 1 = cc in omega arith)

  least_none : (a : Option (List ℕ)) → Least (Allowed f) a → ((p : List ℕ) → Allowed f p → ⊥) → findable a ≡ refuses 17 0
  least_none none h e = refl
  least_none (some p) h e = absurd (e p h.0)

  pub none_at_first : requested f fresh_listing ≡ refuses 17 0 → (p : List ℕ) → Allowed f p → ⊥
  none_at_first e = none_least (first_placement f) (first_least f ok) (sym (requested_fresh f) ∙ e)

  pub first_none : ((p : List ℕ) → Allowed f p → ⊥) → requested f fresh_listing ≡ refuses 17 0
  first_none h = requested_fresh f ∙ least_none (first_placement f) (first_least f ok) h
