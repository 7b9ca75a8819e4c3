-- From what a step has told to what each call answers and leaves: 26 where the area is not of whole blocks, else by what is found under the number. Assumes nothing.
use Rattle.std.proofs.Common.{◌≡◌, refl, sym, ap, ap₂, ◌∙◌, List, ℕ, ◌-◌, ◌≤◌, ◌<◌, length, take, true, false, ltb, lt-ltb, le-ltb, arith}
use Rattle.std.specs.Prelude.{Result, Ok, Err, Some, None}
use Rattle.std.specs.Result.{IsErrAnd}
use Rattle.scope.specs.declared.refusals.Refusal.{Refusal}
use Rattle.scope.specs.declared.answers.Placement.{Placement}
use Rattle.scope.specs.Lists.{given, first_in, keep, tabled}
use Rattle.scope.specs.Refusals.{outcome}
use Rattle.scope.specs.Answers.{Said, good, refuses, says as said_by, reason_number, met}
use Rattle.basics.specs.Choice.{pick_true, pick_false}
use Rattle.basics.specs.Each.{Each}
use Rattle.blocks.specs.declared.Listed.{Listed}
use Rattle.blocks.specs.Block.{free_block, entry_number}
use Rattle.blocks.specs.Area.{blocks_in, whole_blocks, block_at, times, Put, frees}
use Rattle.blocks.specs.Entry.{Looked, absent, damaged, look, content_for}
use Rattle.blocks.specs.Answers.{over_blocks, area_after, empty_said, removed, removing, freed, removed_from, blocks_for, room_for, placing, putting, adding_of, adding, added_to, is_head, heads, head_at, listed_from}
use Rattle.chains.specs.Whole.{FirstOf}
use Rattle.chains.specs.Nexts.{next_kept, none_kept}
use Rattle.taking.specs.Says.{LowestFree}
use Rattle.keeping.specs.Looking.{Refuses, Missing, is_absent, is_damaged}
use Rattle.keeping.specs.Steps.{Changed}
use Rattle.keeping.specs.Says.{EmptySays, AddSays, RemoveSays}

-- ---- a refusal that is handed on
-- what it says
pub handed_on : {A : Type 0} (r : Result A Refusal) (x : Refusal) → IsErrAnd r (λ y. y ≡ x) → said_by r ≡ refuses (reason_number x.reason) x.place
handed_on (Ok v) x h = absurd h
handed_on (Err y) x h = ap (λ z. refuses (reason_number z.reason) z.place) h

-- of this number and place
pub refused_so : {A : Type 0} {number place : ℕ} (x : Refusal) → Refuses number place x → ◌≡◌ {A = Said A} (refuses (reason_number x.reason) x.place) (refuses number place)
refused_so x w = ap₂ refuses w.0 w.1

-- ---- 26
module _ (a : List ℕ) {A : Type 0} (said : Said A) where
  pub over_26 : whole_blocks a ≡ false → over_blocks a said ≡ refuses 26 0
  over_26 z = pick_false (whole_blocks a) said (refuses 26 0) z

  pub over_rest : whole_blocks a ≡ true → over_blocks a said ≡ said
  over_rest p = pick_true (whole_blocks a) said (refuses 26 0) p

-- ---- add
pub changed_so : {a : List ℕ} {said : Said (List Put)} {r : Result (Unit {0}) Refusal} {a' : List ℕ} (s : Said (List Put)) → said ≡ s → said_by r ≡ met s → a' ≡ added_to a s
    → Changed a said r a'
changed_so {a} s e f g = record { says = f ∙ ap met (sym e); area_after_is = g ∙ ap (added_to a) (sym e) }

-- the same of what is to be put, where it is put into these blocks
pub placed_so : {a : List ℕ} (number : ℕ) (c : List ℕ) {said : Said (List ℕ)} {r : Result (Unit {0}) Refusal} {a' : List ℕ} (s : Said (List ℕ)) → said ≡ s → said_by r ≡ met (putting a number c s)
    → a' ≡ added_to a (putting a number c s) → Changed a (putting a number c said) r a'
placed_so {a} number c s e f g = changed_so (putting a number c s) (ap (putting a number c) e) f g

-- 24, or the lowest free blocks
module _ (a : List ℕ) (need want : ℕ) (for : need ≡ want) where
  pub too_few_lem : length (frees a) < need → room_for absent (frees a) want ≡ refuses 24 0
  too_few_lem h = pick_true (ltb (length (frees a)) want) (refuses 24 0) (good (take want (frees a))) (lt-ltb (length (frees a)) want (omega arith))

  pub enough : {row : List ℕ} → LowestFree a need row → room_for absent (frees a) want ≡ good (take need row)
  enough w =
      pick_false (ltb (length (frees a)) want) (refuses 24 0) (good (take want (frees a))) (le-ltb (length (frees a)) want (omega (arith, w.enough)))
      ∙ ap good (ap (λ m. take m (frees a)) (sym for) ∙ sym w.lowest)

-- 25, 23, 24 by what is found
module _ (a : List ℕ) (number need : ℕ) where
  pub placing_26 : whole_blocks a ≡ false → placing a number need ≡ refuses 26 0
  unfolding placing
  placing_26 z = over_26 a (room_for (look a number) (frees a) need) z

  pub placing_by : whole_blocks a ≡ true → (l : Looked) → look a number ≡ l → placing a number need ≡ room_for l (frees a) need
  unfolding placing
  placing_by p l e = over_rest a (room_for (look a number) (frees a) need) p ∙ ap (λ x. room_for x (frees a) need) e

pub as_placed : {a : List ℕ} (number : ℕ) (c : List ℕ) {said s : Said (List ℕ)} {r : Result (Unit {0}) Refusal} {a' : List ℕ} → said ≡ s → Changed a (putting a number c s) r a' → Changed a (putting a number c said) r a'
as_placed {a} number c e w = changed_so _ (ap (putting a number c) e) w.says w.area_after_is

-- the line's own refusals and 18; or a content
pub refused_add : {a : List ℕ} {number : ℕ} {p : Placement} {s : List ℕ} {r : Result (Unit {0}) Refusal} {m place : ℕ} → content_for (outcome s) p.at ≡ refuses m place → said_by r ≡ refuses m place
    → AddSays a number p s r a
unfolding adding
refused_add {a} {number} {p} {s} e f =
    let d : adding a number p.at s ≡ refuses _ _ = ap (adding_of a number) e in
    record { says = f ∙ ap met (sym d); area_after_is = ap (added_to a) (sym d) }

pub content_add : {a : List ℕ} {number : ℕ} {p : Placement} {s c : List ℕ} {r : Result (Unit {0}) Refusal} {a' : List ℕ} → content_for (outcome s) p.at ≡ good c
    → Changed a (putting a number c (placing a number (blocks_for (length c)))) r a' → AddSays a number p s r a'
unfolding adding
content_add {a} {number} {p} {s} {c} e w =
    let d : adding a number p.at s ≡ putting a number c (placing a number (blocks_for (length c))) = ap (adding_of a number) e in
    record { says = w.says ∙ ap met (sym d); area_after_is = w.area_after_is ∙ ap (added_to a) (sym d) }

-- ---- remove
module _ (a : List ℕ) (number : ℕ) where
  pub removing_26 : whole_blocks a ≡ false → removing a number ≡ refuses 26 0
  unfolding removing
  removing_26 z = over_26 a (removed (look a number)) z

  pub removing_by : whole_blocks a ≡ true → (l : Looked) → look a number ≡ l → removing a number ≡ removed l
  unfolding removing
  removing_by p l e = over_rest a (removed (look a number)) p ∙ ap removed e

  pub removing_missing : whole_blocks a ≡ true → (x : Refusal) → Missing a number x → removing a number ≡ refuses (reason_number x.reason) x.place
  removing_missing p x (is_absent e w) = removing_by p absent e ∙ sym (refused_so x w)
  removing_missing p x (is_damaged e w) = removing_by p damaged e ∙ sym (refused_so x w)

pub removed_so : {a : List ℕ} {number : ℕ} {r : Result (Unit {0}) Refusal} {a' : List ℕ} (s : Said (List ℕ)) → removing a number ≡ s → said_by r ≡ met s → a' ≡ removed_from a s
    → RemoveSays a number r a'
removed_so {a} s e f g = record { says = f ∙ ap met (sym e); area_after_is = g ∙ ap (removed_from a) (sym e) }

-- ---- the listing
module _ (a : List ℕ) (from : ℕ) where
  abbrev listed : List ℕ → Said Listed
  listed hs = given (first_in hs) (λ b. good (head_at a b)) (refuses 17 0)

  pub listed_26 : whole_blocks a ≡ false → listed_from a from ≡ refuses 26 0
  unfolding listed_from
  listed_26 z = over_26 a (listed (heads a from)) z

  module _ (p : whole_blocks a ≡ true) {n : ℕ} (many : blocks_in a ≡ n) where
    listed_rest : {hs : List ℕ} → keep (is_head a) (tabled (λ b. b) from (n - from)) ≡ hs → listed_from a from ≡ listed hs
    unfolding listed_from
    listed_rest e =
        over_rest a (listed (heads a from)) p
        ∙ ap listed (ap (λ m. keep (is_head a) (tabled (λ b. b) from (m - from))) many ∙ e)

    pub listed_none : FirstOf (is_head a) n from None → listed_from a from ≡ refuses 17 0
    listed_none w = listed_rest (none_kept w)

    pub listed_one : {r number : ℕ} → FirstOf (is_head a) n from (Some r) → number ≡ entry_number (block_at a r)
        → good (record { block = r; number = number }) ≡ listed_from a from
    listed_one {r} {number} w e = ap (λ m. good (record { block = r; number = m })) e ∙ sym (listed_rest (next_kept w.0 w.1 w.2 w.3))
