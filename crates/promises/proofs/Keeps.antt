-- The calls over an area of blocks keep what is promised: each answers what the definitions say, so calls one after another are a run of the definitions, of which the
-- laws of crate block_laws speak.
use Rattle.std.specs.Prelude.{◌≡◌, refl, Bool, true, false, cond, ◌&&◌, List, [], ◌∷◌, ◌++◌, ℕ, ◌/◌, ◌%◌, ◌^◌, ◌≤◌, ◌<◌, eqb, leb, length, take, drop, get_or, set, Result}
use Rattle.std.proofs.Common.{sym, ap, ap₂, subst, ◌∙◌, leb-true, le-ltb, length-set}
use Rattle.std.proofs.lemmas.Bool.{false≢true}
use Rattle.std.proofs.Math.Seq.{take-append_seam}
use Rattle.scope.specs.declared.answers.Placement.{Placement}
use Rattle.scope.specs.Bytes.{byte_limit}
use Rattle.scope.specs.Limits.{block_size, block_limit}
use Rattle.scope.specs.Line.{Line}
use Rattle.scope.specs.Lists.{member, laid}
use Rattle.scope.specs.Refusals.{accepted, outcome}
use Rattle.scope.specs.Canonical.{canonical}
use Rattle.scope.specs.Answers.{Said, good, refuses, of_good, met, says}
use Rattle.basics.specs.Each.{Each}
use Rattle.blocks.specs.declared.Fetched.{Fetched}
use Rattle.blocks.specs.Block.{free_block}
use Rattle.blocks.specs.declared.Listed.{Listed}
use Rattle.blocks.specs.Area.{blocks_in, whole_blocks, all_sound, frees, times}
use Rattle.blocks.specs.Entry.{Entry, positions_of, Looked, absent, damaged, present, look}
use Rattle.blocks.specs.Answers.{area_after, fetched, fetch_said, fetched_as, out_after, removed, removing, remove_said, remove_after, blocks_for, add_said, add_after, is_head}
use Rattle.blocks.specs.Map.{Call, adds, fetches, removes, Answer, told, handed, answer, after, answers, run, map_answers, AllNumbered}
use Rattle.block_laws.specs.AsMap as laws
use Rattle.block_laws.proofs.OneByteLaws as one
use Rattle.block_laws.specs.Listing as list
use Rattle.block_laws.specs.Added.{taken_for}
use Rattle.block_laws.specs.Calls.{content_of, add_accepted}
use Rattle.keeping.specs.Steps.{Handed}
use Rattle.keeping.specs.Says.{AddSays, FetchSays, RemoveSays, EntrySays}
use Rattle.promises.specs.Keeping.{entry_fetched, FetchMade, CallSays, CallsSay, Undamaged, Keeping}
use Rattle.basics.specs.Said.{not_both}
use Rattle.scope.specs.declared.refusals.Refusal.{Refusal}

-- ---- what was fetched is what is said of it
entry_said_lem : (said : Said Entry) (r : Result Fetched Refusal) (out out' : List ℕ) → says r ≡ of_good fetched_as said → out' ≡ out_after said out → entry_fetched r out' ≡ said
entry_said_lem (good e) r out out' s o =
    ap (of_good (λ (f : Fetched). record { placement = f.at; line = take f.size out' })) s
    ∙ ap (λ l. good (record { placement = e.placement; line = l })) (ap (take (length e.line)) o ∙ take-append_seam e.line (drop (length e.line) out))
entry_said_lem (refuses n q) r out out' s o = ap (of_good (λ (f : Fetched). record { placement = f.at; line = take f.size out' })) s

fetch_made : (a : List ℕ) (n room : ℕ) (x : Answer) → FetchMade a n room x → x ≡ handed (fetch_said a n room)
fetch_made a n room x h =
    let w = h.ensured in
    h.is ∙ ap handed (entry_said_lem (fetch_said a n (length h.out)) h.answer h.out h.out' w.says w.output_after_is) ∙ ap (λ r. handed (fetch_said a n r)) h.long

-- ---- one call, and calls one after another
call_answer : (a : List ℕ) (c : Call) (x : Answer) (a' : List ℕ) → CallSays a c x a' → x ≡ answer a c
call_answer a (adds n p s) x a' w = w.1.1 ∙ ap told w.1.0.says
call_answer a (fetches n room) x a' w = fetch_made a n room x w.0
call_answer a (removes n) x a' w = w.1.1 ∙ ap told w.1.0.says

call_after : (a : List ℕ) (c : Call) (x : Answer) (a' : List ℕ) → CallSays a c x a' → a' ≡ after a c
call_after a (adds n p s) x a' w = w.1.0.area_after_is
call_after a (fetches n room) x a' w = w.1
call_after a (removes n) x a' w = w.1.0.area_after_is

calls_answers : (cs : List Call) (a : List ℕ) (xs : List Answer) (a' : List ℕ) → CallsSay a cs xs a' → xs ≡ answers a cs
unfolding answers
calls_answers [] a [] a' w = refl
calls_answers [] a (x ∷ xs) a' w = absurd w
calls_answers (c ∷ cs) a [] a' w = absurd w
calls_answers (c ∷ cs) a (x ∷ xs) a' w =
    let rest : xs ≡ answers (after a c) cs = calls_answers cs w.0 xs a' w.1.1 ∙ ap (λ b. answers b cs) (call_after a c x w.0 w.1.0) in
    ap₂ (λ y ys. y ∷ ys) (call_answer a c x w.0 w.1.0) rest

calls_run : (cs : List Call) (a : List ℕ) (xs : List Answer) (a' : List ℕ) → CallsSay a cs xs a' → a' ≡ run a cs
unfolding run
calls_run [] a [] a' w = w
calls_run [] a (x ∷ xs) a' w = absurd w
calls_run (c ∷ cs) a [] a' w = absurd w
calls_run (c ∷ cs) a (x ∷ xs) a' w =
    calls_run cs w.0 xs a' w.1.1 ∙ ap (λ b. run b cs) (call_after a c x w.0 w.1.0)

-- ---- an area that was made empty
-- 26, or a success
abbrev whether : Bool → Said (Unit {0})
whether b = cond b (good tt) (refuses 26 0)

emptied : (b : Bool) (new old : List ℕ) {said : Said (Unit {0})} → said ≡ whether b → said ≡ good tt → area_after (whether b) new old ≡ new
emptied true new old e f = refl
emptied false new old e f = absurd (not_both (sym f ∙ e))

whole_then : (b : Bool) {said : Said (Unit {0})} → said ≡ whether b → said ≡ good tt → b ≡ true
whole_then true e f = refl
whole_then false e f = absurd (not_both (sym f ∙ e))

all_three : (x y z : Bool) → (x && y && z) ≡ true → (y ≡ true) × (z ≡ true)
all_three true true true e = (refl, refl)
all_three true true false e = absurd (false≢true e)
all_three true false z e = absurd (false≢true e)
all_three false y z e = absurd (false≢true e)

blocks_between : (a : List ℕ) → whole_blocks a ≡ true → (1 ≤ blocks_in a) × (blocks_in a ≤ block_limit)
unfolding whole_blocks
blocks_between a e =
    let w = all_three (eqb (length a % block_size) 0) (leb 1 (blocks_in a)) (leb (blocks_in a) block_limit) e in
    (leb-true 1 (blocks_in a) w.0, leb-true (blocks_in a) block_limit w.1)

-- what is known of an undamaged area
record Known (k : ℕ) (cs : List Call) (xs : List Answer) (a : List ℕ) : Type 0 where
  some : 1 ≤ k
  few : k ≤ block_limit
  numbered : AllNumbered cs
  answers_are : xs ≡ answers (times k free_block) cs
  area_is : a ≡ run (times k free_block) cs

known : (k : ℕ) (cs : List Call) (xs : List Answer) (a : List ℕ) → Undamaged k cs xs a → Known k cs xs a
known k cs xs a u =
    let whole = whole_then (whole_blocks u.before) u.empties.says u.success in
    let between = blocks_between u.before whole in
    let made : u.made ≡ times k free_block =
    u.empties.area_after_is ∙ emptied (whole_blocks u.before) (times (blocks_in u.before) free_block) u.before u.empties.says u.success ∙ ap (λ n. times n free_block) u.many in
    record {
      some = subst (λ n. 1 ≤ n) u.many between.0;
      few = subst (λ n. n ≤ block_limit) u.many between.1;
      numbered = u.numbered;
      answers_are = calls_answers cs u.made xs a u.calls ∙ ap (λ b. answers b cs) made;
      area_is = calls_run cs u.made xs a u.calls ∙ ap (λ b. run b cs) made;
    }

-- ---- a fetch where something is found
fetch_said_lem : (a : List ℕ) (n room : ℕ) (x : Looked) → whole_blocks a ≡ true → look a n ≡ x → fetch_said a n room ≡ fetched x room
unfolding fetch_said
fetch_said_lem a n room x w e = ap (λ b. cond b (fetched (look a n) room) (refuses 26 0)) w ∙ ap (λ l. fetched l room) e

-- an outcome that is right for one area is right for another where as much is said
fetch_moves : (a b : List ℕ) (n : ℕ) (out : List ℕ) (f : Result Fetched Refusal) (out' : List ℕ) → fetch_said a n (length out) ≡ fetch_said b n (length out) → FetchSays a n out f out'
    → FetchSays b n out f out'
fetch_moves a b n out f out' e w = subst (λ s. Handed s out f out') e w

whole_set : (a : List ℕ) (i c : ℕ) → whole_blocks a ≡ true → whole_blocks (set a i c) ≡ true
unfolding whole_blocks
whole_set a i c w = ap (λ n. eqb (n % block_size) 0 && leb 1 (n / block_size) && leb (n / block_size) block_limit) (length-set a i c) ∙ w

-- an entry that is found, fetched into an output that has room for it
fetched_whole : (e : Entry) (out : List ℕ) (f : Result Fetched Refusal) (out' : List ℕ) (bs : List ℕ) → length e.line ≤ length out → Handed (fetched (present bs e) (length out)) out f out'
    → (says f ≡ good (fetched_as e)) × (out' ≡ laid e.line out)
fetched_whole e out f out' bs h w =
    let fits : fetched (present bs e) (length out) ≡ good e = ap (λ b. cond b (refuses 15 (length e.line)) (good e)) (le-ltb (length out) (length e.line) h) in
    let v = subst (λ s. Handed s out f out') fits w in
    (v.says, v.output_after_is)

as_map : (k : ℕ) (cs : List Call) (xs : List Answer) (a : List ℕ) → Undamaged k cs xs a → xs ≡ map_answers k [] cs
as_map k cs xs a u = let w = known k cs xs a u in w.answers_are ∙ laws.as_a_map k w.some w.few cs w.numbered

-- an undamaged area is whole and sound
sound_then : (k : ℕ) (cs : List Call) (xs : List Answer) (a : List ℕ) → Undamaged k cs xs a → (whole_blocks a ≡ true) × (all_sound a ≡ true) × Each (λ b. b < byte_limit) a
sound_then k cs xs a u =
    let w = known k cs xs a u in
    subst (λ b. (whole_blocks b ≡ true) × (all_sound b ≡ true) × Each (λ x. x < byte_limit) b) (sym w.area_is) (laws.run_sound k w.some w.few cs w.numbered)

added_then : (a : List ℕ) (n : ℕ) → n < 2 ^ 32 → (p : Placement) (s : List ℕ) (r : Result (Unit {0}) Refusal) (a' : List ℕ) → AddSays a n p s r a' → says r ≡ good tt
    → (l : Line ℕ) → outcome s ≡ accepted l → (out : List ℕ) → length (canonical l) ≤ length out → (f : Result Fetched Refusal) (out' : List ℕ) → FetchSays a' n out f out'
    → (says f ≡ good (record { size = length (canonical l); at = p.at })) × (out' ≡ laid (canonical l) out)
added_then a n h p s r a' w g l e out fits f out' v =
    let added : add_said a n p.at s ≡ good tt = sym w.says ∙ g in
    let entry : Entry = record { placement = p.at; line = canonical l } in
    let said = ap (λ x. fetch_said x n (length out)) w.area_after_is ∙ laws.fetch_answers a n p.at s h l e added (length out) in
    fetched_whole entry out f out' (taken_for a (content_of l p.at)) fits (subst (λ x. Handed x out f out') said v)

-- what was added is removed without a refusal
removes_added : (a : List ℕ) (n : ℕ) → n < 2 ^ 32 → (p s : List ℕ) → add_said a n p s ≡ good tt → remove_said (add_after a n p s) n ≡ good tt
unfolding removing
removes_added a n h p s added =
    let z = add_accepted a n p s added in
    let whole = laws.added_whole a n p s h z.0 z.1 added in
    let found = laws.fetch_added a n p s h z.0 z.1 added in
    ap (λ b. met (cond b (removed (look (add_after a n p s) n)) (refuses 26 0))) whole ∙ ap (λ x. met (removed x)) found

again_then : (k : ℕ) (cs : List Call) (xs : List Answer) (a : List ℕ) → Undamaged k cs xs a
    → (n : ℕ) → n < 2 ^ 32 → (p : Placement) (s : List ℕ) (r : Result (Unit {0}) Refusal) (a₁ : List ℕ) → AddSays a n p s r a₁ → says r ≡ good tt
    → (q : Result (Unit {0}) Refusal) (a₂ : List ℕ) → RemoveSays a₁ n q a₂ → (says q ≡ good tt) × (a₂ ≡ a)
again_then k cs xs a u n h p s r a₁ w g q a₂ v =
    let z = known k cs xs a u in
    let reached = run (times k free_block) cs in
    let same = z.area_is in
    let good-there : add_said reached n p.at s ≡ good tt = ap (λ b. add_said b n p.at s) (sym same) ∙ sym w.says ∙ g in
    let back = laws.back_again k z.some z.few cs z.numbered n p.at s h good-there in
    let gone = removes_added reached n h p.at s good-there in
    let added : a₁ ≡ add_after reached n p.at s = w.area_after_is ∙ ap (λ b. add_after b n p.at s) same in
    (v.says ∙ ap (λ b. remove_said b n) added ∙ gone, v.area_after_is ∙ ap (λ b. remove_after b n) added ∙ back ∙ sym same)

module _ (k : ℕ) (cs : List Call) (xs : List Answer) (a : List ℕ) (u : Undamaged k cs xs a) (i c : ℕ) (h : i < length a) (l : c < byte_limit) (other : c ≡ get_or a i 0 → ⊥) (n : ℕ) where
  module _ (bs : List ℕ) (e : Entry) (found : look a n ≡ present bs e) where
    by_blocks : {b : Bool} → member (i / block_size) bs ≡ b → look (set a i c) n ≡ cond b damaged (present bs e)
    by_blocks q = let s = sound_then k cs xs a u in one.one_byte a s.0 s.1 s.2 i c h l other n bs e found ∙ ap (λ b. cond b damaged (present bs e)) q

    untouched_then : member (i / block_size) bs ≡ false → (out : List ℕ) (f : Result Fetched Refusal) (out' : List ℕ) → FetchSays (set a i c) n out f out' → FetchSays a n out f out'
    untouched_then q out f out' w =
        let s = sound_then k cs xs a u in
        let one = fetch_said_lem (set a i c) n (length out) (present bs e) (whole_set a i c s.0) (by_blocks q) in
        let two = fetch_said_lem a n (length out) (present bs e) s.0 found in
        fetch_moves (set a i c) a n out f out' (one ∙ sym two) w

    touched_then : member (i / block_size) bs ≡ true → (out : List ℕ) (f : Result Fetched Refusal) (out' : List ℕ) → FetchSays (set a i c) n out f out' → says f ≡ refuses 25 0
    touched_then q out f out' w =
        let s = sound_then k cs xs a u in
        w.says ∙ ap (of_good fetched_as) (fetch_said_lem (set a i c) n (length out) damaged (whole_set a i c s.0) (by_blocks q))

  absent_after : look a n ≡ absent → (out : List ℕ) (f : Result Fetched Refusal) (out' : List ℕ) → FetchSays (set a i c) n out f out' → says f ≡ refuses 25 0
  absent_after q out f out' w =
      let s = sound_then k cs xs a u in
      let found = one.one_byte_absent a s.0 s.1 s.2 i c h l other n q in
      w.says ∙ ap (of_good fetched_as) (fetch_said_lem (set a i c) n (length out) damaged (whole_set a i c s.0) found)

-- ---- what was added lies in the lowest free blocks
lowest_then : (a : List ℕ) (n : ℕ) → n < 2 ^ 32 → (p : Placement) (s : List ℕ) (r : Result (Unit {0}) Refusal) (a' : List ℕ) → AddSays a n p s r a' → says r ≡ good tt
    → (l : Line ℕ) → outcome s ≡ accepted l
    → look a' n ≡ present (take (blocks_for (length (positions_of p.at ++ canonical l))) (frees a)) (record { placement = p.at; line = canonical l })
lowest_then a n h p s r a' w g l e = ap (λ x. look x n) w.area_after_is ∙ laws.fetch_added a n p.at s h l e (sym w.says ∙ g)

-- ---- what is fetched is found
record Fetchable (a : List ℕ) (n : ℕ) : Type 0 where
  whole : whole_blocks a ≡ true
  blocks : List ℕ
  entry : Entry
  there : look a n ≡ present blocks entry

fetchable : (a : List ℕ) (n room : ℕ) (m : Fetched) → good m ≡ of_good fetched_as (fetch_said a n room) → Fetchable a n
unfolding fetch_said
fetchable a n room m e = go (whole_blocks a) refl (look a n) refl e
  where
    go : (b : Bool) → whole_blocks a ≡ b → (x : Looked) → look a n ≡ x → good m ≡ of_good fetched_as (cond b (fetched x room) (refuses 26 0)) → Fetchable a n
    go false p x q f = absurd (not_both f)
    go true p absent q f = absurd (not_both f)
    go true p damaged q f = absurd (not_both f)
    go true p (present bs x) q f = record { whole = p; blocks = bs; entry = x; there = q }

listed_then : (a : List ℕ) (n : ℕ) (out : List ℕ) (f : Result Fetched Refusal) (out' : List ℕ) → FetchSays a n out f out' → (m : Fetched) → says f ≡ good m
    → (b : ℕ) × ((is_head a b ≡ true) × ((r : Result Listed Refusal) → EntrySays a b r → says r ≡ good (record { block = b; number = n })))
listed_then a n out f out' w m e =
    let z = fetchable a n (length out) m (sym e ∙ w.says) in
    let b = list.listed_found a n z.blocks z.entry z.whole z.there in
    (b.0, (b.1.0, λ r q. q ∙ b.1.1))

pub keeping : Keeping
keeping =
    record {
      as_a_map = as_map;
      fetch_added = added_then;
      back_again = again_then;
      untouched = untouched_then;
      touched = touched_then;
      absent_then = absent_after;
      lowest_first = lowest_then;
      listed = listed_then;
      none_passed = λ a from r w h e. (list.listed_next a from h (sym w ∙ e)).0;
      none_left = λ a from r w e. list.listed_none a from (sym w ∙ e);
    }
