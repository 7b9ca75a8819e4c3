-- Demand 1 for the calls over an area of blocks: what each says is a success or a refusal with one of its numbers, an answer says it, and only one does.
use Rattle.std.specs.Prelude.{◌≡◌, refl, true, cond, List, [], ◌∷◌, ℕ, ltb, length, take, Result}
use Rattle.std.proofs.Common.{ap, ◌∙◌, inl, inr}
use Rattle.scope.specs.declared.answers.Placement.{Placement}
use Rattle.scope.specs.Limits.{copy_limit}
use Rattle.scope.specs.Lists.{first_in, tabled, laid}
use Rattle.scope.specs.Refusals.{Outcome, accepted, refused, outcome}
use Rattle.scope.specs.Positions.{floating_of}
use Rattle.scope.specs.Placements.{allowed}
use Rattle.scope.specs.Answers.{Said, good, refuses, says}
use Rattle.basics.specs.Each.{In}
use Rattle.basics.specs.Members.{in_left, in_right}
use Rattle.blocks.specs.declared.Fetched.{Fetched}
use Rattle.blocks.specs.Block.{free_block}
use Rattle.blocks.specs.Area.{blocks_in, whole_blocks, frees, times}
use Rattle.blocks.specs.Entry.{Entry, content_for, Looked, absent, damaged, present, look}
use Rattle.blocks.specs.Answers.{head_at, heads, area_after, empty_said, empty_after, fetched, fetch_said, fetched_length, fetched_as, out_after, removed, removing, remove_said, removed_from, remove_after, blocks_for, room_for, placing, putting, adding_of, adding, added_to, add_after, listed_from, survey_said}
use Rattle.keeping.specs.Says.{EmptySays, AddSays, FetchSays, RemoveSays}
use Rattle.export.specs.Numbers.{number_of, left, place_left}
use Rattle.export.specs.Shapes.{length_left}
use Rattle.export.specs.Blocks.{EmptyHanded, adds_lent, AddHanded, fetches_lent, FetchHanded, RemoveHanded, HeadHanded, Surveyed}
use Rattle.promises.specs.Promises.{line_numbers, add_numbers, Answered, told, AnswersBlocks, AnswersBlocksC}
use Rattle.promises.proofs.Said.{all_known, of_refused, met_refused}
use Rattle.promises.proofs.Answering.{Among, fine, one_of, more, both, long_or, found, of_among, plain, lent}
use Rattle.promises.proofs.AnsweringC as exported
use Rattle.promises.proofs.Readers as readers
use Rattle.scope.specs.declared.refusals.Refusal.{Refusal}

-- ---- the numbers of each
-- 26, or what is said of whole blocks
of_blocks : {A : Type 0} {numbers : List ℕ} (a : List ℕ) {s : Said A} → In 26 numbers → Among numbers s → Among numbers (cond (whole_blocks a) s (refuses 26 0))
of_blocks a i h = both (whole_blocks a) h (one_of i)

empty_among : (a : List ℕ) → Among (26 ∷ []) (empty_said a)
empty_among a = of_blocks a (inl refl) fine

fetched_among : (l : Looked) (room : ℕ) → Among (15 ∷ 22 ∷ 25 ∷ 26 ∷ []) (fetched l room)
fetched_among absent room = one_of (inr (inl refl))
fetched_among damaged room = one_of (inr (inr (inl refl)))
fetched_among (present bs e) room = both (ltb room (length e.line)) (one_of (inl refl)) fine

fetch_among : (a : List ℕ) (n room : ℕ) → Among (15 ∷ 22 ∷ 25 ∷ 26 ∷ []) (fetch_said a n room)
unfolding fetch_said
fetch_among a n room = of_blocks a (inr (inr (inr (inl refl)))) (fetched_among (look a n) room)

removed_among : (l : Looked) → Among (22 ∷ 25 ∷ 26 ∷ []) (removed l)
removed_among absent = one_of (inl refl)
removed_among damaged = one_of (inr (inl refl))
removed_among (present bs e) = fine

remove_among : (a : List ℕ) (n : ℕ) → Among (22 ∷ 25 ∷ 26 ∷ []) (removing a n)
unfolding removing
remove_among a n = of_blocks a (inr (inr (inl refl))) (removed_among (look a n))

-- those of adding behind those of the line
behind : {n : ℕ} → In n (18 ∷ 23 ∷ 24 ∷ 25 ∷ 26 ∷ []) → In n add_numbers
behind {n} i = in_right n line_numbers (18 ∷ 23 ∷ 24 ∷ 25 ∷ 26 ∷ []) i

room_among : (l : Looked) (free : List ℕ) (need : ℕ) → Among add_numbers (room_for l free need)
room_among absent free need = both (ltb (length free) need) (one_of (behind (inr (inr (inl refl))))) fine
room_among damaged free need = one_of (behind (inr (inr (inr (inl refl)))))
room_among (present bs e) free need = one_of (behind (inr (inl refl)))

placing_among : (a : List ℕ) (n need : ℕ) → Among add_numbers (placing a n need)
unfolding placing
placing_among a n need = of_blocks a (behind (inr (inr (inr (inr (inl refl)))))) (room_among (look a n) (frees a) need)

putting_among : (a : List ℕ) (n : ℕ) (c : List ℕ) (s : Said (List ℕ)) → Among add_numbers s → Among add_numbers (putting a n c s)
putting_among a n c (good bs) h = fine
putting_among a n c (refuses m q) h = one_of (h.number m q refl)

adding_of_lem : (a : List ℕ) (n : ℕ) (s : Said (List ℕ)) → Among add_numbers s → Among add_numbers (adding_of a n s)
adding_of_lem a n (good c) h = putting_among a n c (placing a n (blocks_for (length c))) (placing_among a n (blocks_for (length c)))
adding_of_lem a n (refuses m q) h = one_of (h.number m q refl)

-- "the line's own refusals and 18"
content_among : (s p : List ℕ) (o : Outcome) → outcome s ≡ o → Among add_numbers (content_for o p)
content_among s p (accepted l) e = both (allowed (floating_of l) p) fine (one_of (behind (inl refl)))
content_among s p (refused m q) e = one_of (in_left m line_numbers (18 ∷ 23 ∷ 24 ∷ 25 ∷ 26 ∷ []) (readers.line_said s m q e).one_of)

add_among : (a : List ℕ) (n : ℕ) (p s : List ℕ) → Among add_numbers (adding a n p s)
unfolding adding
add_among a n p s = adding_of_lem a n (content_for (outcome s) p) (content_among s p (outcome s) refl)

listed_among : (a : List ℕ) (from : ℕ) → Among (17 ∷ 26 ∷ []) (listed_from a from)
unfolding listed_from
listed_among a from = of_blocks a (inr (inl refl)) (found (head_at a) (first_in (heads a from)) (inl refl))

survey_among : (a : List ℕ) → Among (26 ∷ []) (survey_said a)
survey_among a = of_blocks a (inl refl) fine

-- ---- each call
empty : (a : List ℕ) → Answered (λ (o : (Result (Unit {0}) Refusal) × List ℕ). EmptySays a o.0 o.1) (λ o. says o.0) (26 ∷ []) (λ o. o.1 ≡ a)
empty a =
    lent (EmptySays a) (empty_after a) a (λ r l. ((λ w. (w.says, w.area_after_is)), (λ w. record { says = w.0; area_after_is = w.1 }))) refl (empty_among a)
    (λ n p q. ap (λ s. area_after s (times (blocks_in a) free_block) a) q)

adding_known : all_known add_numbers ≡ true
unfolding tabled
adding_known = refl

add : (a : List ℕ) (n : ℕ) (p : Placement) (s : List ℕ)
    → Answered (λ (o : (Result (Unit {0}) Refusal) × List ℕ). AddSays a n p s o.0 o.1) (λ o. says o.0) add_numbers (λ o. o.1 ≡ a)
add a n p s =
    lent (AddSays a n p s) (add_after a n p.at s) a (λ r l. ((λ w. (w.says, w.area_after_is)), (λ w. record { says = w.0; area_after_is = w.1 }))) adding_known
    (of_among (λ x. tt) (adding a n p.at s) (add_among a n p.at s)) (λ m k q. ap (added_to a) (met_refused (adding a n p.at s) q))

remove : (a : List ℕ) (n : ℕ) → Answered (λ (o : (Result (Unit {0}) Refusal) × List ℕ). RemoveSays a n o.0 o.1) (λ o. says o.0) (22 ∷ 25 ∷ 26 ∷ []) (λ o. o.1 ≡ a)
remove a n =
    lent (RemoveSays a n) (remove_after a n) a (λ r l. ((λ w. (w.says, w.area_after_is)), (λ w. record { says = w.0; area_after_is = w.1 }))) refl
    (of_among (λ x. tt) (removing a n) (remove_among a n)) (λ m k q. ap (removed_from a) (met_refused (removing a n) q))

fetch : (a : List ℕ) (n : ℕ) (out : List ℕ)
    → Answered (λ (o : (Result Fetched Refusal) × List ℕ). FetchSays a n out o.0 o.1) (λ o. says o.0) (15 ∷ 22 ∷ 25 ∷ 26 ∷ []) (λ o. o.1 ≡ out)
fetch a n out =
    let said = fetch_said a n (length out) in
    lent (FetchSays a n out) (out_after said out) out (λ r l. ((λ w. (w.says, w.output_after_is)), (λ w. record { says = w.0; output_after_is = w.1 }))) refl
    (of_among fetched_as said (fetch_among a n (length out))) (λ m k q. ap (λ s. out_after s out) (of_refused fetched_as said q))

pub answers : AnswersBlocks
answers =
    record {
      empty = empty;
      add = add;
      fetch = fetch;
      remove = remove;
      entry_from = λ a from. plain refl (listed_among a from);
      survey = λ a. plain refl (survey_among a);
    }

-- ---- from C
adds_among : (a : List ℕ) (n : ℕ) (p s : List ℕ) → Among (13 ∷ add_numbers) (adds_lent a n p s)
adds_among a n p s = long_or (ltb (length p) copy_limit) (more (add_among a n (take copy_limit p) s))

fetches_among : (a : List ℕ) (n : ℕ) (p out : List ℕ) → Among (13 ∷ 15 ∷ 22 ∷ 25 ∷ 26 ∷ []) (fetches_lent a n p out)
fetches_among a n p out = long_or (ltb (length p) copy_limit) (more (fetch_among a n (length out)))

empty_c : (a : List ℕ) → Answered (λ (o : ℕ × List ℕ). EmptyHanded a o.0 o.1) (λ o. told o.0) (26 ∷ []) (λ o. o.1 ≡ a)
empty_c a =
    exported.in_c (λ (o : ℕ × List ℕ). EmptyHanded a o.0 o.1) (λ o. o.1 ≡ a) (λ o. o.0) (empty_said a) (number_of (empty_said a), empty_after a)
    (record { number_is = refl; area_after_is = refl }) (λ o w. exported.pair2 w.number_is w.area_after_is) (λ o w. w.number_is) (empty_among a)
    (λ o w n p q. w.area_after_is ∙ ap (λ s. area_after s (times (blocks_in a) free_block) a) q)

add_c : (a : List ℕ) (n : ℕ) (p s : List ℕ) (place : ℕ)
    → Answered (λ (o : ℕ × ℕ × List ℕ). AddHanded a n p s place o.0 o.1 o.2) (λ o. told o.0) (13 ∷ add_numbers) (λ o. o.2 ≡ a)
add_c a n p s place =
    let said = adds_lent a n p s in
    exported.in_c (λ (o : ℕ × ℕ × List ℕ). AddHanded a n p s place o.0 o.1 o.2) (λ o. o.2 ≡ a) (λ o. o.0) said
    (number_of said, place_left said place, added_to a said) (record { numbered = record { number_is = refl; place_is = refl }; area_after_is = refl })
    (λ o w. exported.pair3 w.numbered.number_is w.numbered.place_is w.area_after_is) (λ o w. w.numbered.number_is) (adds_among a n p s)
    (λ o w m k q. w.area_after_is ∙ ap (added_to a) q)

fetch_c : (a : List ℕ) (n : ℕ) (p out : List ℕ) (count : ℕ)
    → Answered (λ (o : ℕ × List ℕ × List ℕ × ℕ). FetchHanded a n p out count o.0 o.1 o.2 o.3) (λ o. told o.0) (13 ∷ 15 ∷ 22 ∷ 25 ∷ 26 ∷ [])
    (λ o. (o.1 ≡ p) × (o.2 ≡ out))
fetch_c a n p out count =
    let said = fetches_lent a n p out in
    exported.in_c (λ (o : ℕ × List ℕ × List ℕ × ℕ). FetchHanded a n p out count o.0 o.1 o.2 o.3) (λ o. (o.1 ≡ p) × (o.2 ≡ out)) (λ o. o.0) said
    (number_of (fetched_length said), left said (λ e. laid e.placement p) p, out_after said out, length_left (fetched_length said) count)
    (record { measured = record { number_is = refl; count_is = refl }; placement_after = refl; output_after_is = refl })
    (λ o w. exported.pair4 w.measured.number_is w.placement_after w.output_after_is w.measured.count_is)
    (λ o w. w.measured.number_is ∙ length_number said) (fetches_among a n p out)
    (λ o w m k q. (w.placement_after ∙ ap (λ z. left z (λ e. laid e.placement p) p) q, w.output_after_is ∙ ap (λ z. out_after z out) q))
  where
    length_number : (s : Said Entry) → number_of (fetched_length s) ≡ number_of s
    length_number (good e) = refl
    length_number (refuses m k) = refl

remove_c : (a : List ℕ) (n : ℕ) → Answered (λ (o : ℕ × List ℕ). RemoveHanded a n o.0 o.1) (λ o. told o.0) (22 ∷ 25 ∷ 26 ∷ []) (λ o. o.1 ≡ a)
remove_c a n =
    exported.in_c (λ (o : ℕ × List ℕ). RemoveHanded a n o.0 o.1) (λ o. o.1 ≡ a) (λ o. o.0) (remove_said a n) (number_of (remove_said a n), remove_after a n)
    (record { number_is = refl; area_after_is = refl }) (λ o w. exported.pair2 w.number_is w.area_after_is) (λ o w. w.number_is)
    (of_among (λ x. tt) (removing a n) (remove_among a n)) (λ o w m k q. w.area_after_is ∙ ap (removed_from a) (met_refused (removing a n) q))

entry_c : (a : List ℕ) (from block entry : ℕ)
    → Answered (λ (o : ℕ × ℕ × ℕ). HeadHanded (listed_from a from) block entry o.0 o.1 o.2) (λ o. told o.0) (17 ∷ 26 ∷ [])
    (λ o. (o.1 ≡ block) × (o.2 ≡ entry))
entry_c a from block entry =
    let said = listed_from a from in
    exported.in_c (λ (o : ℕ × ℕ × ℕ). HeadHanded (listed_from a from) block entry o.0 o.1 o.2) (λ o. (o.1 ≡ block) × (o.2 ≡ entry)) (λ o. o.0) said
    (number_of said, left said (λ h. h.block) block, left said (λ h. h.number) entry) (record { number_is = refl; block_is = refl; entry_is = refl })
    (λ o w. exported.pair3 w.number_is w.block_is w.entry_is) (λ o w. w.number_is) (listed_among a from)
    (λ o w n p q. (w.block_is ∙ ap (λ z. left z (λ h. h.block) block) q, w.entry_is ∙ ap (λ z. left z (λ h. h.number) entry) q))

survey_c : (a : List ℕ) (free first further other unsound : ℕ)
    → Answered (λ (o : ℕ × (ℕ × ℕ) × (ℕ × ℕ × ℕ)). Surveyed (survey_said a) free first further other unsound o.0 o.1.0 o.1.1 o.2.0 o.2.1 o.2.2)
    (λ o. told o.0) (26 ∷ []) (λ o. (o.1 ≡ (free, first)) × (o.2 ≡ (further, other, unsound)))
survey_c a free first further other unsound =
    let said = survey_said a in
    exported.in_c (λ (o : ℕ × (ℕ × ℕ) × (ℕ × ℕ × ℕ)). Surveyed (survey_said a) free first further other unsound o.0 o.1.0 o.1.1 o.2.0 o.2.1 o.2.2)
    (λ o. (o.1 ≡ (free, first)) × (o.2 ≡ (further, other, unsound))) (λ o. o.0) said (
      number_of said,
      (left said (λ c. c.free) free, left said (λ c. c.first) first),
      (left said (λ c. c.further) further, left said (λ c. c.other) other, left said (λ c. c.unsound) unsound),
    )
    (record { number_is = refl; free_is = refl; first_is = refl; further_is = refl; other_is = refl; unsound_is = refl })
    (λ o w. exported.pair3 w.number_is (exported.pair2 w.free_is w.first_is) (exported.pair3 w.further_is w.other_is w.unsound_is))
    (λ o w. w.number_is) (survey_among a)
    (λ o w n p q. (
      exported.pair2 (w.free_is ∙ ap (λ z. left z (λ c. c.free) free) q) (w.first_is ∙ ap (λ z. left z (λ c. c.first) first) q),
      exported.pair3 (w.further_is ∙ ap (λ z. left z (λ c. c.further) further) q) (w.other_is ∙ ap (λ z. left z (λ c. c.other) other) q)
          (w.unsound_is ∙ ap (λ z. left z (λ c. c.unsound) unsound) q),
    ))

pub answers_c : AnswersBlocksC
answers_c =
    record {
      empty = empty_c;
      add = add_c;
      fetch = fetch_c;
      remove = remove_c;
      entry = entry_c;
      survey = survey_c;
    }
