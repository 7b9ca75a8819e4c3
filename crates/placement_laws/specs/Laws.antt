-- The laws of placements and of the listing, over what floats: few copies, each with its positions in rising order, those of one bracket alike; `line_orderly`
-- says that what floats of a line with few floaters is so.
use Rattle.std.specs.Prelude.{◌≡◌, ◌↔◌, true, List, [], ◌∷◌, ℕ, ◌≤◌, ◌<◌, length, get_or, take, replicate}
use Rattle.std.proofs.Common.{arith}
use Rattle.std.proofs.Math.ListN.{get_elem?}
use Rattle.scope.specs.Limits.{copy_limit}
use Rattle.scope.specs.Line.{Line}
use Rattle.scope.specs.Lists.{keep}
use Rattle.scope.specs.Positions.{Floating, floaters, floating_of}
use Rattle.scope.specs.Placements.{distinct, ascends, allowed, choices, placements, first_placement, next_placement, fresh_listing}
use Rattle.scope.specs.Answers.{refuses, findable, requested}
use Rattle.placement_laws.specs.Terms.{marked, Orderly, unmarked, Ascending, Allowed, Placing, bracket_at, Reordered, Rearranged, Further, Least, after_requests, handed_out}
use Rattle.basics.specs.Each.{In}
use Rattle.placement_laws.specs.Standing.{Ascent}
use Rattle.placement_laws.specs.Members as members
use Rattle.placement_laws.specs.Entries as entries
use Rattle.placement_laws.specs.Sorted as ordered
use Rattle.placement_laws.specs.Leasts as leasts
use Rattle.placement_laws.specs.Copies as copies
use Rattle.placement_laws.specs.Requests as requests
use Rattle.placement_laws.specs.Lines as lines
use Rattle.placement_laws.specs.Brackets as brackets

-- what floats of a line: "Floating copies, in order of their brackets"
pub line_orderly : {P : Type 0} (t : Line P) → length (floaters t) ≤ copy_limit → Orderly (floating_of t)
line_orderly t few = lines.line_orderly t few

-- "positions of one bracket's copies ascend": of two floaters of one bracket the later stands higher
pub by_brackets : {P : Type 0} (t : Line P) (w : ℕ → ℕ)
    → Ascent (marked (floating_of t)) (length (floaters t)) w ↔ ((i j : ℕ) → i < j → j < length (floaters t) → bracket_at t i ≡ bracket_at t j → w i < w j)
by_brackets t w = brackets.ascent_brackets t w

pub rearranged : {P : Type 0} (t : Line P) (p q : List ℕ) → Reordered (floating_of t) p q → Rearranged t p q
rearranged t p q h = brackets.rearranged t p q h

-- "With no floater there is one placement, all zeros."
pub no_floater : (f : Floating) → f.lists ≡ [] → placements f ≡ replicate copy_limit 0 ∷ []
unfolding placements choices keep distinct ascends
no_floater f e = rw e

module _ (f : Floating) (ok : Orderly f) where
  -- allowed, entry by entry: each floater at a permitted position, "and no two floaters share one"; "positions of one bracket's copies ascend"
  pub by_entries : (p : List ℕ) → (allowed f p ≡ true) ↔ Placing f p
  by_entries p = (entries.allowed_placing f p, entries.placing_allowed f p ok.few)

  -- the placements are the allowed ones
  pub among : (p : List ℕ) → In p (placements f) ↔ (allowed f p ≡ true)
  among p = ((λ h. members.among_allowed f p ok.few h), (λ h. members.allowed_among f p h))

  -- "ordered as number lists"
  pub ascending : Ascending (placements f)
  ascending = ordered.placements_ascending f ok.rising

  -- each stands there once
  pub once : (i j : ℕ) → i < length (placements f) → j < length (placements f) → get_or (placements f) i [] ≡ get_or (placements f) j [] → i ≡ j
  once i j h k e = ordered.once (placements f) ascending i j h k e

  -- the first is the least that is allowed; the next one the least that is allowed and above p; none exactly where there is none
  pub first : Least (Allowed f) (first_placement f)
  first = leasts.first_least f ok

  pub next : (p : List ℕ) → Least (Further f p) (next_placement f p)
  next p = leasts.next_least f ok p

  -- "positions of one bracket's copies ascend": the first placement is the first one without that rule, and none exists exactly where none does without it
  pub first_as_before : first_placement f ≡ first_placement (unmarked f)
  first_as_before = copies.first_as_before f ok

  pub none_as_before : ((p : List ℕ) → allowed f p ≡ true → ⊥) ↔ ((p : List ℕ) → allowed (unmarked f) p ≡ true → ⊥)
  none_as_before = copies.none_as_before f ok

  -- and every one that is allowed without it is an allowed one with the copies of one bracket in another order
  pub sorted : (p : List ℕ) → allowed (unmarked f) p ≡ true → (q : List ℕ) × (allowed f q ≡ true) × Reordered f p q
  sorted p a = copies.sorted f ok p a

  -- "requests from a fresh record over the same tables": after n of them the next one hands out placement number n (from 0), or answers 17
  pub request : (n : ℕ) → requested f (after_requests f n fresh_listing) ≡ findable (get_elem? (placements f) n)
  request n = requests.nth_request f ok n

  -- n of them hand out the first n placements, in order; as many as there are, or more, hand out all
  pub listing : (n : ℕ) → handed_out f n fresh_listing ≡ take n (placements f)
  listing n = requests.all_handed f ok n

  pub whole : (n : ℕ) → length (placements f) ≤ n → handed_out f n fresh_listing ≡ placements f
  whole n h = requests.whole f ok n h

  -- what they hand out in all is what is allowed
  pub complete : (p : List ℕ) → In p (handed_out f (length (placements f)) fresh_listing) ↔ (allowed f p ≡ true)
  complete p = rw (whole (length (placements f)) (omega arith)) (among p)

  -- past the last one, every request answers 17
  pub ended : (n : ℕ) → length (placements f) ≤ n → requested f (after_requests f n fresh_listing) ≡ refuses 17 0
  ended n h = requests.ended f ok n h

  -- 17: "no placement, or no further one"
  pub no_placement : (requested f fresh_listing ≡ refuses 17 0) ↔ ((p : List ℕ) → allowed f p ≡ true → ⊥)
  no_placement = (requests.none_at_first f ok, requests.first_none f ok)
