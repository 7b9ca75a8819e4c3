-- From what a step has told to what fetching answers and leaves in the output: 26, 25, 22, 15 at the length needed, or the entry. Assumes nothing.
use mathlib.Core.Path.{◌≡◌, refl, sym, ap, ap₂, ◌∙◌}
use mathlib.Core.List.{List, ◌++◌}
use Prim.Native.Nat.{ℕ, ◌-◌, ◌≤◌, ◌<◌}
use native.Mathlib.Omega.{arith}
use borrow.Author.Tests.{lt-ltb, le-ltb}
use lib.Dec.{ltb}
use lib.ListN.{length, take, drop, length-drop}
use lib.Seq.{take_all}
use Rattle.scope.specs.Answers.{Said, good, refuses, says as said_by, reason_number, of_good}
use Rattle.basics.specs.Choice.{pick_true, pick_false}
use Rattle.std.specs.Prelude.{Result, Ok, Err, false, true}
use Rattle.scope.specs.declared.refusals.Refusal.{Refusal}
use Rattle.blocks.specs.declared.Fetched.{Fetched}
use Rattle.blocks.specs.Block.{new_kind}
use Rattle.blocks.specs.Entry.{Entry, position_bytes, placement_in, line_in, entry_in, Looked, absent, damaged, present, look}
use Rattle.blocks.specs.Answers.{fetched, fetch_said, fetched_as, out_after}
use Rattle.blocks.specs.Area.{whole_blocks}
use Rattle.chains.specs.declared.borrowed.Chain.{Chain}
use Rattle.keeping.specs.Looking.{Found, Missing, is_absent, is_damaged}
use Rattle.keeping.specs.Steps.{Handed, entry_said}
use Rattle.keeping.proofs.Calls.{over_26, over_rest, refused_so}

-- ---- what is handed out is as it is said
pub handed_as : {said s : Said Entry} {out : List ℕ} {r : Result Fetched Refusal} {out' : List ℕ} → said ≡ s → Handed s out r out' → Handed said out r out'
handed_as {out = out} e w =
    record {
      says = w.says ∙ ap (of_good fetched_as) (sym e);
      output_after_is = w.output_after_is ∙ ap (λ s. out_after s out) (sym e);
    }

-- a refusal leaves the output
pub handed_not : {said : Said Entry} {out : List ℕ} {r : Result Fetched Refusal} (number place : ℕ) → said ≡ refuses number place → said_by r ≡ refuses number place → Handed said out r out
handed_not number place e w = handed_as e (record { says = w; output_after_is = refl })

-- ---- fetch
module _ (a : List ℕ) (number room : ℕ) where
  pub fetch_26 : whole_blocks a ≡ false → fetch_said a number room ≡ refuses 26 0
  unfolding fetch_said
  fetch_26 z = over_26 a (fetched (look a number) room) z

  pub fetch_by : whole_blocks a ≡ true → (l : Looked) → look a number ≡ l → fetch_said a number room ≡ fetched l room
  unfolding fetch_said
  fetch_by p l e = over_rest a (fetched (look a number) room) p ∙ ap (λ x. fetched x room) e

  pub fetch_missing : whole_blocks a ≡ true → (x : Refusal) → Missing a number x → fetch_said a number room ≡ refuses (reason_number x.reason) x.place
  fetch_missing p x (is_absent e w) = fetch_by p absent e ∙ sym (refused_so x w)
  fetch_missing p x (is_damaged e w) = fetch_by p damaged e ∙ sym (refused_so x w)

  -- an entry, its content at the front of a room
  pub fetch_entry : {chain : Chain} {content c : List ℕ} → whole_blocks a ≡ true → Found a (look a number) chain content → c ≡ take chain.long content
      → fetch_said a number room ≡ entry_said (entry_in new_kind c) room
  fetch_entry {chain} {content} p f e =
      fetch_by p (present (take chain.many chain.row) (entry_in new_kind (take chain.long content))) f.is ∙ ap (λ t. entry_said (entry_in new_kind t) room) (sym e)
