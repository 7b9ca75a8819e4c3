-- The laws of the register kept in blocks: it answers as a plain map; every area that calls reach is sound; what was added is fetched, whatever the area; and
-- after adding and removing an area is what it was.
use Rattle.std.specs.Prelude.{ℕ, ◌≤◌, ◌<◌, ◌^◌, ◌≡◌, ◌⊎◌, true, false, List, []}
use Rattle.std.proofs.Common.{sym, ap, ◌∙◌, subst, inl, inr}
use Rattle.scope.specs.Bytes.{byte_limit}
use Rattle.scope.specs.Limits.{block_limit}
use Rattle.scope.specs.Line.{Line}
use Rattle.scope.specs.Lists.{member}
use Rattle.scope.specs.Refusals.{accepted, outcome}
use Rattle.scope.specs.Canonical.{canonical}
use Rattle.scope.specs.Answers.{good}
use Rattle.basics.specs.Each.{Each}
use Rattle.basics.specs.Tests.{test}
use Rattle.blocks.specs.Block.{new_kind, free_block}
use Rattle.blocks.specs.Area.{blocks_in, whole_blocks, block_at, all_sound, times}
use Rattle.blocks.specs.Entry.{Entry, absent, present, entry_in, look}
use Rattle.blocks.specs.Answers.{fetched, fetch_said, remove_after, add_said, add_after}
use Rattle.blocks.specs.Map.{Call, answers, run, Kept, map_answers, AllNumbered}
use Rattle.area_laws.specs.Areas.{blocks_many, same_area}
use Rattle.block_laws.specs.Stated.{content_entry}
use Rattle.block_laws.specs.Added.{taken_for, with_entry, Adds, taken_free, added_long, added_other, added_found, added_sound, added_others}
use Rattle.block_laws.specs.Removed.{without_entry, Removes, removed_long, removed_other, removed_at, removed_absent, removed_others}
use Rattle.block_laws.specs.Calls.{whole_blocks_lem, whole_many_lem, content_of, fetch_says, remove_leaves, add_accepted, add_leaves, success_adds, add_succeeds}
use Rattle.block_laws.specs.Mapped.{Keeps, keeps_whole, keeps_empty, answers_alike, keeps_run}

-- ---- "answer as a plain map would, over any sequence of calls", from an empty area of k blocks on
pub as_a_map : (k : ℕ) → 1 ≤ k → k ≤ block_limit → (cs : List Call) → AllNumbered cs → answers (times k free_block) cs ≡ map_answers k [] cs
as_a_map k h l cs numbered = answers_alike k (times k free_block) [] (keeps_empty k h l) cs numbered

-- the area then keeps some map
reached : (k : ℕ) → 1 ≤ k → k ≤ block_limit → (cs : List Call) → AllNumbered cs → (m : List Kept) × Keeps k (run (times k free_block) cs) m
reached k h l cs numbered = keeps_run k (times k free_block) [] (keeps_empty k h l) cs numbered

-- it has whole blocks, all sound, and is of bytes
pub run_sound :
    (k : ℕ) → 1 ≤ k → k ≤ block_limit → (cs : List Call) → AllNumbered cs
    → (whole_blocks (run (times k free_block) cs) ≡ true) × (all_sound (run (times k free_block) cs) ≡ true) × Each (λ b. b < byte_limit) (run (times k free_block) cs)
run_sound k h l cs numbered = let w = (reached k h l cs numbered).1 in (keeps_whole w, w.sound, w.bytes)

-- ---- adding, whatever the area
module _ (a : List ℕ) (n : ℕ) (p s : List ℕ) (numbered : n < 2 ^ 32) (l : Line ℕ) (e : outcome s ≡ accepted l) (added : add_said a n p s ≡ good tt) where
  adds : Adds (blocks_in a) a n (content_of l p)
  adds = success_adds a n p s l e numbered (add_succeeds a n p s l e added)

  leaves : add_after a n p s ≡ with_entry a n (content_of l p)
  leaves = add_leaves a n p s l e (add_succeeds a n p s l e added)

  entry : entry_in new_kind (content_of l p) ≡ record { placement = p; line = canonical l }
  entry = content_entry s l e p (add_succeeds a n p s l e added).ok

  -- what was added is found, in the blocks that were taken
  pub fetch_added : look (add_after a n p s) n ≡ present (taken_for a (content_of l p)) (record { placement = p; line = canonical l })
  fetch_added = ap (λ o. look o n) leaves ∙ added_found adds ∙ ap (present (taken_for a (content_of l p))) entry

  -- under any other number what was found before
  pub others_kept : (m : ℕ) → (m ≡ n → ⊥) → look (add_after a n p s) m ≡ look a m
  others_kept m d = ap (λ o. look o m) leaves ∙ added_others adds m d

  pub added_whole : whole_blocks (add_after a n p s) ≡ true
  added_whole =
      let b = whole_many_lem a (add_succeeds a n p s l e added).blocks in
      ap whole_blocks leaves ∙ whole_blocks_lem (with_entry a n (content_of l p)) (blocks_in a) (added_long adds) b.some_blocks b.few

  -- and fetched, where the output has room for its line
  pub fetch_answers : (room : ℕ) → fetch_said (add_after a n p s) n room ≡ fetched (present (taken_for a (content_of l p)) (record { placement = p; line = canonical l })) room
  fetch_answers room = fetch_says (add_after a n p s) n added_whole room _ fetch_added

-- ---- removing, whatever the area, where all its blocks are sound
module _ (a : List ℕ) (n : ℕ) (bs : List ℕ) (e : Entry) (blocks : whole_blocks a ≡ true) (sound : all_sound a ≡ true) (there : look a n ≡ present bs e) where
  goes : Removes (blocks_in a) a n bs e
  goes = record { long = (whole_many_lem a blocks).long; sound = sound; lies = there }

  -- what was removed is gone
  pub removed_gone : look (remove_after a n) n ≡ absent
  removed_gone = ap (λ o. look o n) (remove_leaves a n blocks bs e there) ∙ removed_absent goes

  pub others_left : (m : ℕ) → (m ≡ n → ⊥) → look (remove_after a n) m ≡ look a m
  others_left m d = ap (λ o. look o m) (remove_leaves a n blocks bs e there) ∙ removed_others goes m d

-- ---- adding and removing
-- blocks that are taken are free ones, so they are the free block again, and no other block changes
freed_back : {k : ℕ} {a : List ℕ} {m : List Kept} → Keeps k a m → (n : ℕ) (c : List ℕ) → Adds k a n c → without_entry (with_entry a n c) (taken_for a c) ≡ a
freed_back {k} {a} w n c d =
    same_area k (without_entry (with_entry a n c) (taken_for a c)) a (removed_long r) w.long (λ b i. at b i (test (member b (taken_for a c))))
  where
    r : Removes k (with_entry a n c) n (taken_for a c) (entry_in new_kind c)
    r = record { long = added_long d; sound = added_sound d; lies = added_found d }

    at : (b : ℕ) → b < k → (member b (taken_for a c) ≡ true) ⊎ (member b (taken_for a c) ≡ false) → block_at (without_entry (with_entry a n c) (taken_for a c)) b ≡ block_at a b
    at b i (inl t) = removed_at r b t ∙ sym (w.free b i (taken_free d b t))
    at b i (inr t) = removed_other r b i t ∙ added_other d b i t

back : {k : ℕ} {a : List ℕ} {m : List Kept} → Keeps k a m → (n : ℕ) (p s : List ℕ) → n < 2 ^ 32 → add_said a n p s ≡ good tt → remove_after (add_after a n p s) n ≡ a
back {k} {a} w n p s numbered added =
    let z = add_accepted a n p s added in
    let c = content_of z.0 p in
    let d : Adds k a n c = subst (λ j. Adds j a n c) (blocks_many a k w.long) (adds a n p s numbered z.0 z.1 added) in
    remove_leaves (add_after a n p s) n (added_whole a n p s numbered z.0 z.1 added) (taken_for a c) _ (fetch_added a n p s numbered z.0 z.1 added)
    ∙ ap (λ o. without_entry o (taken_for a c)) (leaves a n p s numbered z.0 z.1 added) ∙ freed_back w n c d

-- of an area that calls reached: after adding and removing it is what it was
pub back_again :
    (k : ℕ) → 1 ≤ k → k ≤ block_limit → (cs : List Call) → AllNumbered cs → (n : ℕ) (p s : List ℕ) → n < 2 ^ 32
    → add_said (run (times k free_block) cs) n p s ≡ good tt
    → remove_after (add_after (run (times k free_block) cs) n p s) n ≡ run (times k free_block) cs
back_again k h l cs numbered n p s i added = let w = reached k h l cs numbered in back w.1 n p s i added
