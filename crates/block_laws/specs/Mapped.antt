-- "answer as a plain map would": an area keeps a map when under each number the one has what the other has, and the blocks that are not free are those that the
-- map's entries take. An empty area keeps the empty map, and every call answers alike and keeps it so.
use Rattle.std.specs.Prelude.{ℕ, ◌+◌, ◌*◌, ◌≤◌, ◌<◌, ◌^◌, ◌≡◌, refl, ◌⊎◌, true, false, cond, List, [], ◌∷◌, ltb, length}
use Rattle.std.proofs.Common.{arith, sym, ap, ap₂, ◌∙◌, subst, inl, inr, ⊎_elim, true≢false, lt-ltb, le-ltb, ltb-true, ltb-false}
use Rattle.std.proofs.Math.Option.{Option, none, some}
use Rattle.scope.specs.Limits.{block_size, block_limit}
use Rattle.scope.specs.Line.{Line}
use Rattle.scope.specs.Lists.{given, member}
use Rattle.scope.specs.Refusals.{Outcome, accepted, refused, outcome}
use Rattle.scope.specs.Canonical.{canonical}
use Rattle.scope.specs.Positions.{floating_of}
use Rattle.scope.specs.Placements.{allowed}
use Rattle.scope.specs.Answers.{Said, good, refuses, met}
use Rattle.basics.specs.Tests.{same?, test}
use Rattle.blocks.specs.Block.{free_block}
use Rattle.blocks.specs.Area.{whole_blocks, block_at, all_sound, is_free, frees, times, Put}
use Rattle.blocks.specs.Entry.{Entry, absent, present, look}
use Rattle.blocks.specs.Answers.{fetch_said, removing, removed_from, blocks_for, putting, adding, added_to}
use Rattle.blocks.specs.Map.{Call, adds, fetches, removes, told, handed, answer, after, answers, run, Kept, found, without, blocks_of, blocks_taken, room_in, map_adds, map_removes, changed, map_left, map_answer, map_after, map_answers, Numbered, AllNumbered}
use Rattle.area_laws.specs.Areas.{blocks_many}
use Rattle.block_laws.specs.Written.{Bytes}
use Rattle.block_laws.specs.Outside.{same_free}
use Rattle.block_laws.specs.Stated.{content_entry}
use Rattle.block_laws.specs.Added.{taken_for, with_entry, Adds, taken_many, added_long, added_other, added_bytes, added_found, added_sound, added_others, taken_busy, added_frees}
use Rattle.block_laws.specs.Removed.{without_entry, Removes, removed_long, removed_other, removed_at, removed_bytes, removed_sound, removed_absent, removed_others, removed_frees}
use Rattle.block_laws.specs.Calls.{whole_blocks_lem, content_of, fetch_says, remove_says, Success, add_refused, add_not_allowed, add_says, add_writes, success_adds}
use Rattle.block_laws.specs.Maps.{Once, found_here, found_there, found_without, found_other, once_without, taken_cons, taken_without}
use Rattle.block_laws.specs.Empty.{empty_long, empty_at, empty_bytes, empty_sound, empty_absent, empty_frees}

-- an entry is found, in as many blocks as it takes
pub record Found (a : List ℕ) (n : ℕ) (e : Entry) : Type 0 where
  pub blocks : List ℕ
  pub there : look a n ≡ present blocks e
  pub many : length blocks ≡ blocks_of e

pub record Keeps (k : ℕ) (a : List ℕ) (m : List Kept) : Type 0 where
  pub some_blocks : 1 ≤ k
  pub few : k ≤ block_limit
  pub long : length a ≡ block_size * k
  pub sound : all_sound a ≡ true
  pub bytes : Bytes a
  pub free : (b : ℕ) → b < k → is_free a b ≡ true → block_at a b ≡ free_block
  pub nothing : (n : ℕ) → n < 2 ^ 32 → found n m ≡ none → look a n ≡ absent
  pub entry : (n : ℕ) → n < 2 ^ 32 → (e : Entry) → found n m ≡ some e → Found a n e
  pub room : length (frees a) + blocks_taken m ≡ k
  pub once : Once m

pub keeps_whole : {k : ℕ} {a : List ℕ} {m : List Kept} → Keeps k a m → whole_blocks a ≡ true
keeps_whole {k} {a} w = whole_blocks_lem a k w.long w.some_blocks w.few

-- ---- an empty area
pub keeps_empty : (k : ℕ) → 1 ≤ k → k ≤ block_limit → Keeps k (times k free_block) []
unfolding found blocks_taken
keeps_empty k h l =
    record {
      some_blocks = h;
      few = l;
      long = empty_long k;
      sound = empty_sound k;
      bytes = empty_bytes k;
      free = λ b i e. empty_at k b i;
      nothing = λ n i e. empty_absent k n;
      entry = λ n i e f. let z : ◌≡◌ {A = ℕ} 0 1 = cc in absurd (omega arith);
      room = omega (arith, empty_frees k);
      once = tt;
    }

-- ---- adding
-- the entry, under its number
abbrev entry_of : ℕ → List ℕ → Line ℕ → Kept
entry_of n p l = record { number = n; entry = record { placement = p; line = canonical l } }

module _ {k : ℕ} {a : List ℕ} {m : List Kept} (w : Keeps k a m) (n : ℕ) (p s : List ℕ) (l : Line ℕ) (e : outcome s ≡ accepted l) (ok : allowed (floating_of l) p ≡ true) where
  abbrev new : List ℕ
  new = with_entry a n (content_of l p)

  keeps_added : Adds k a n (content_of l p) → found n m ≡ none → Keeps k new (entry_of n p l ∷ m)
  keeps_added d f =
      record {
        some_blocks = w.some_blocks;
        few = w.few;
        long = added_long d;
        sound = added_sound d;
        bytes = added_bytes d w.bytes;
        free = λ b i h. free b i h (test (member b (taken_for a (content_of l p))));
        nothing = λ j i h. nothing j i h (same? j n);
        entry = λ j i x h. entry j i x h (same? j n);
        room = room;
        once = (f, w.once);
      }
    where
      free : (b : ℕ) → b < k → is_free new b ≡ true → (member b (taken_for a (content_of l p)) ≡ true) ⊎ (member b (taken_for a (content_of l p)) ≡ false) → block_at new b ≡ free_block
      free b i h (inl t) = absurd (true≢false (sym h ∙ taken_busy d b t))
      free b i h (inr t) =
          let q = added_other d b i t in q ∙ w.free b i (sym (same_free k new a (added_long d) w.long b q) ∙ h)

      never : {x : Entry} {o : Option Entry} → o ≡ some x → o ≡ none → ⊥
      never g h = let z : ◌≡◌ {A = ℕ} 0 1 = cc in omega arith

      nothing : (j : ℕ) → j < 2 ^ 32 → found j (entry_of n p l ∷ m) ≡ none → (j ≡ n) ⊎ (j ≡ n → ⊥) → look new j ≡ absent
      nothing j i h (inl q) = absurd (never (found_here j (entry_of n p l) m q) h)
      nothing j i h (inr q) = added_others d j q ∙ w.nothing j i (sym (found_there j (entry_of n p l) m q) ∙ h)

      entry : (j : ℕ) → j < 2 ^ 32 → (x : Entry) → found j (entry_of n p l ∷ m) ≡ some x → (j ≡ n) ⊎ (j ≡ n → ⊥) → Found new j x
      entry j i x h (inl q) =
          let same : x ≡ (entry_of n p l).entry = let g : some x ≡ some (entry_of n p l).entry = sym h ∙ found_here j (entry_of n p l) m q in cc in
          subst (Found new j) (sym same)
          (record {
            blocks = taken_for a (content_of l p);
            there = ap (look new) q ∙ added_found d ∙ ap (present (taken_for a (content_of l p))) (content_entry s l e p ok);
            many = taken_many d;
          })
      entry j i x h (inr q) =
          let z = w.entry j i x (sym (found_there j (entry_of n p l) m q) ∙ h) in
          record { blocks = z.blocks; there = added_others d j q ∙ z.there; many = z.many }

      room : length (frees new) + blocks_taken (entry_of n p l ∷ m) ≡ k
      room =
          let t = taken_cons (entry_of n p l) m in
          let g = added_frees d in
          let r = w.room in
          omega arith

-- ---- removing
keeps_removed :
    (k : ℕ) (a : List ℕ) (m : List Kept) → Keeps k a m → (n : ℕ) → n < 2 ^ 32 → (e : Entry) → found n m ≡ some e
    → (z : Found a n e) → Keeps k (without_entry a z.blocks) (without n m)
keeps_removed k a m w n i e f z =
    record {
      some_blocks = w.some_blocks;
      few = w.few;
      long = removed_long d;
      sound = removed_sound d;
      bytes = removed_bytes d w.bytes;
      free = λ b h g. free b h g (test (member b z.blocks));
      nothing = λ j h g. nothing j h g (same? j n);
      entry = λ j h x g. entry j h x g (same? j n);
      room = room;
      once = once_without n m w.once;
    }
  where
    new : List ℕ
    new = without_entry a z.blocks

    d : Removes k a n z.blocks e
    d = record { long = w.long; sound = w.sound; lies = z.there }

    free : (b : ℕ) → b < k → is_free new b ≡ true → (member b z.blocks ≡ true) ⊎ (member b z.blocks ≡ false) → block_at new b ≡ free_block
    free b h g (inl t) = removed_at d b t
    free b h g (inr t) = let q = removed_other d b h t in q ∙ w.free b h (sym (same_free k new a (removed_long d) w.long b q) ∙ g)

    nothing : (j : ℕ) → j < 2 ^ 32 → found j (without n m) ≡ none → (j ≡ n) ⊎ (j ≡ n → ⊥) → look new j ≡ absent
    nothing j h g (inl q) = ap (look new) q ∙ removed_absent d
    nothing j h g (inr q) = removed_others d j q ∙ w.nothing j h (sym (found_other n j q m) ∙ g)

    entry : (j : ℕ) → j < 2 ^ 32 → (x : Entry) → found j (without n m) ≡ some x → (j ≡ n) ⊎ (j ≡ n → ⊥) → Found new j x
    entry j h x g (inl q) = let c : none ≡ some x = sym (ap (λ t. found t (without n m)) q ∙ found_without n m) ∙ g in let z : ◌≡◌ {A = ℕ} 0 1 = cc in absurd (omega arith)
    entry j h x g (inr q) =
        let y = w.entry j h x (sym (found_other n j q m) ∙ g) in record { blocks = y.blocks; there = removed_others d j q ∙ y.there; many = y.many }

    room : length (frees new) + blocks_taken (without n m) ≡ k
    room =
        let t = taken_without n m e w.once f in
        let g = removed_frees d in
        let r = w.room in
        let y = z.many in
        omega arith

-- ---- one call: the answer is the map's, and the area then keeps the map then
pub record Step (k : ℕ) (a : List ℕ) (m : List Kept) (c : Call) : Type 0 where
  pub says : answer a c ≡ map_answer k m c
  pub keeps : Keeps k (after a c) (map_after k m c)

module _ {k : ℕ} {a : List ℕ} {m : List Kept} (w : Keeps k a m) (n : ℕ) (inside : n < 2 ^ 32) where
  -- ---- adding
  module _ (p s : List ℕ) where
    answered :
        (r : Said (List Put)) (t : Said (List Kept)) → adding a n p s ≡ r → map_adds k m n p (outcome s) ≡ t
        → met r ≡ changed t → Keeps k (added_to a r) (map_left m t) → Step k a m (adds n p s)
    answered r t e f h g =
        record {
          says = ap (λ x. told (met x)) e ∙ ap told h ∙ ap (λ x. told (changed x)) (sym f);
          keeps = subst (λ x. Keeps k (added_to a x) (map_left m (map_adds k m n p (outcome s)))) (sym e) (subst (λ x. Keeps k (added_to a r) (map_left m x)) (sym f) g);
        }

    turned_down : (x y : ℕ) → adding a n p s ≡ refuses x y → map_adds k m n p (outcome s) ≡ refuses x y → Step k a m (adds n p s)
    turned_down x y e f = answered (refuses x y) (refuses x y) e f refl w

    module _ (l : Line ℕ) (e : outcome s ≡ accepted l) (ok : allowed (floating_of l) p ≡ true) where
      abbrev need : ℕ
      need = blocks_for (length (content_of l p))

      map_says : (o : Option Entry) → found n m ≡ o → map_adds k m n p (outcome s) ≡ given o (λ x. refuses 23 0) (room_in k m (entry_of n p l))
      map_says o f = rw (e, ok, f)

      -- 23
      there_already : (x : Entry) → found n m ≡ some x → Step k a m (adds n p s)
      there_already x f =
          let z = w.entry n inside x f in
          turned_down 23 0 (add_says a n p s l e ok (keeps_whole w) (present z.blocks x) z.there) (map_says (some x) f)

      -- 24, or a success
      module _ (f : found n m ≡ none) where
        too_full : ltb (length (frees a)) need ≡ true → Step k a m (adds n p s)
        too_full t =
            let over : ltb k (blocks_taken m + need) ≡ true =
            lt-ltb k (blocks_taken m + need) (let g = ltb-true (length (frees a)) need t in let r = w.room in omega arith) in
            turned_down 24 0
            (add_says a n p s l e ok (keeps_whole w) absent (w.nothing n inside f) ∙ ap (λ q. putting a n (content_of l p) (cond q (refuses 24 0) (good (taken_for a (content_of l p))))) t)
            (map_says none f ∙ ap (λ q. cond q (refuses 24 0) (good (entry_of n p l ∷ m))) over)

        room_enough : ltb (length (frees a)) need ≡ false → Step k a m (adds n p s)
        room_enough t =
            let fits : ltb k (blocks_taken m + need) ≡ false =
            le-ltb k (blocks_taken m + need) (let g = ltb-false (length (frees a)) need t in let r = w.room in omega arith) in
            let y : Success a n p l = record { ok = ok; blocks = keeps_whole w; nothing = w.nothing n inside f; room = t } in
            let d : Adds k a n (content_of l p) = subst (λ j. Adds j a n (content_of l p)) (blocks_many a k w.long) (success_adds a n p s l e inside y) in
            answered _ (good (entry_of n p l ∷ m)) (add_writes a n p s l e y) (map_says none f ∙ ap (λ q. cond q (refuses 24 0) (good (entry_of n p l ∷ m))) fits) refl
            (keeps_added w n p s l e ok d f)

      by_found : (o : Option Entry) → found n m ≡ o → Step k a m (adds n p s)
      by_found (some x) f = there_already x f
      by_found none f = ⊎_elim (too_full f) (room_enough f) (test (ltb (length (frees a)) need))

    by_outcome : (o : Outcome) → outcome s ≡ o → Step k a m (adds n p s)
    by_outcome (refused x y) e = turned_down x y (add_refused a n p s x y e) (ap (map_adds k m n p) e)
    by_outcome (accepted l) e =
        ⊎_elim (λ ok. by_found l e ok (found n m) refl) (λ f. turned_down 18 0 (add_not_allowed a n p s l e f) (rw (e, f))) (test (allowed (floating_of l) p))

    step_adds : Step k a m (adds n p s)
    step_adds = by_outcome (outcome s) refl

  -- ---- fetching
  step_fetches : (room : ℕ) → Step k a m (fetches n room)
  step_fetches room = record { says = ap handed (by (found n m) refl); keeps = w }
    where
      by : (o : Option Entry) → found n m ≡ o → fetch_said a n room ≡ given o (λ x. cond (ltb room (length x.line)) (refuses 15 (length x.line)) (good x)) (refuses 22 0)
      by (some x) f = let z = w.entry n inside x f in fetch_says a n (keeps_whole w) room (present z.blocks x) z.there
      by none f = fetch_says a n (keeps_whole w) room absent (w.nothing n inside f)

  -- ---- removing
  left : (r : Said (List ℕ)) (t : Said (List Kept)) → removing a n ≡ r → map_removes m n ≡ t → met r ≡ changed t → Keeps k (removed_from a r) (map_left m t) → Step k a m (removes n)
  left r t e f h g =
      record {
        says = ap (λ x. told (met x)) e ∙ ap told h ∙ ap (λ x. told (changed x)) (sym f);
        keeps = subst (λ x. Keeps k (removed_from a x) (map_left m (map_removes m n))) (sym e) (subst (λ x. Keeps k (removed_from a r) (map_left m x)) (sym f) g);
      }

  step_removes : Step k a m (removes n)
  step_removes = by (found n m) refl
    where
      by : (o : Option Entry) → found n m ≡ o → Step k a m (removes n)
      by (some x) f =
          let z = w.entry n inside x f in
          left (good z.blocks) (good (without n m)) (remove_says a n (keeps_whole w) (present z.blocks x) z.there) (rw f) refl (keeps_removed k a m w n inside x f z)
      by none f = left (refuses 22 0) (refuses 22 0) (remove_says a n (keeps_whole w) absent (w.nothing n inside f)) (rw f) refl w

step : {k : ℕ} {a : List ℕ} {m : List Kept} → Keeps k a m → (c : Call) → Numbered c → Step k a m c
step w (adds n p s) h = step_adds w n h p s
step w (fetches n room) h = step_fetches w n h room
step w (removes n) h = step_removes w n h

-- ---- any sequence of calls
pub answers_alike : (k : ℕ) (a : List ℕ) (m : List Kept) → Keeps k a m → (cs : List Call) → AllNumbered cs → answers a cs ≡ map_answers k m cs
unfolding answers map_answers AllNumbered
answers_alike k a m w [] h = refl
answers_alike k a m w (c ∷ cs) h = let z = step w c h.0 in ap₂ ◌∷◌ z.says (answers_alike k (after a c) (map_after k m c) z.keeps cs h.1)

-- the area after them keeps some map
pub keeps_run : (k : ℕ) (a : List ℕ) (m : List Kept) → Keeps k a m → (cs : List Call) → AllNumbered cs → (o : List Kept) × Keeps k (run a cs) o
unfolding run AllNumbered
keeps_run k a m w [] h = (m, w)
keeps_run k a m w (c ∷ cs) h = keeps_run k (after a c) (map_after k m c) (step w c h.0).keeps cs h.1
