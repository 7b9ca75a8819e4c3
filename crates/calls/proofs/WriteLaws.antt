-- Writing: each way in which it ends.
use mathlib.Core.Path.{◌≡◌, refl, sym, ap, ◌∙◌}
use mathlib.Core.Bool.{true, false, cond}
use mathlib.Core.List.{List, ◌++◌}
use Prim.Native.Nat.{ℕ, ◌<◌, ◌≤◌}
use native.Mathlib.Omega.{arith}
use borrow.Author.Tests.{lt-ltb, le-ltb}
use lib.Dec.{ltb}
use lib.IntN.{ℤ}
use lib.ListN.{length, take, drop}
use Rattle.std.specs.Prelude.{Result, Ok, Err, Some, None}
use Rattle.scope.specs.declared.refusals.Refusal.{Refusal}
use Rattle.scope.specs.declared.refusals.Reason.TheVariants.{NoTables, ShortOutput}
use Rattle.scope.specs.Canonical.{canonical}
use Rattle.scope.specs.Layout.{tables_in}
use Rattle.scope.specs.Answers.{Said, good, refuses, says, too_short, are_tables, fitting, writes, output_after}
use Rattle.tabled.specs.LineOf.{LineOf}
use Rattle.calls.specs.Held.{length_said, Sized}
use Rattle.calls.specs.Writing.{WriteSays}
use Rattle.calls.proofs.Laws.{short_law, not_there, taken_there, same_tables}

-- the answer that is said decides what is left
said_so : (bs : List ℕ) (ns : List ℤ) (out : List ℕ) (r : Result ℕ Refusal) (out' : List ℕ) {s : Said ℕ} → writes bs ns out ≡ s → says r ≡ s
    → out' ≡ output_after s (canonical (tables_in bs ns)) out → WriteSays bs ns out r out'
said_so bs ns out r out' {s} e f g =
    record { says = f ∙ sym e; output_after_is = g ∙ ap (λ z. output_after z (canonical (tables_in bs ns)) out) (sym e) }

-- 13
pub short_13 : (bs : List ℕ) (ns : List ℤ) (out : List ℕ) (e : Refusal) → says (Err e) ≡ length_said bs ns → WriteSays bs ns out (Err e) out
short_13 bs ns out e h =
    let said = short_law bs ns h (λ t. fitting (canonical t) (length out)) in
    said_so bs ns out (Err e) out (sym said) refl refl

-- areas that are long enough, at the front of which these arrays stand
module _ (bs : List ℕ) (ns : List ℤ) (out : List ℕ) {b : List ℕ} {n : List ℤ} (z : Sized bs ns b n) where
  long_enough : writes bs ns out ≡ cond (are_tables bs ns) (fitting (canonical (tables_in bs ns)) (length out)) (refuses 14 0)
  long_enough = rw z.long

  -- none was found: they are none
  pub no_tables_14 : are_tables b n ≡ false → WriteSays bs ns out (Err (record { reason = NoTables; place = 0 })) out
  no_tables_14 w =
      said_so bs ns out (Err (record { reason = NoTables; place = 0 })) out {s = refuses 14 0}
      (long_enough ∙ ap (λ b. cond b (fitting (canonical (tables_in bs ns)) (length out)) (refuses 14 0)) (not_there bs ns z w))
      refl refl

  -- a line was found: they are tables
  module _ {line : List ℕ} {r : ℕ} (w : LineOf b n line (Some r)) where
    same : canonical (tables_in b n) ≡ canonical (tables_in bs ns)
    same = ap canonical (same_tables bs ns z (taken_there bs ns z w.0))

    fits_so : writes bs ns out ≡ cond (ltb (length out) r) (refuses 15 r) (good r)
    fits_so =
        long_enough ∙ ap (λ b. cond b (fitting (canonical (tables_in bs ns)) (length out)) (refuses 14 0)) (taken_there bs ns z w.0)
        ∙ ap (λ n. cond (ltb (length out) n) (refuses 15 n) (good n)) (sym (w.1.long ∙ ap length same))

    pub no_room_15 : length out < r → WriteSays bs ns out (Err (record { reason = ShortOutput; place = r })) out
    no_room_15 q =
        said_so bs ns out (Err (record { reason = ShortOutput; place = r })) out {s = refuses 15 r}
        (fits_so ∙ ap (λ b. cond b (refuses 15 r) (good r)) (lt-ltb (length out) r q))
        refl refl

    pub written : {out' : List ℕ} → r ≤ length out → out' ≡ take r line ++ drop r out → WriteSays bs ns out (Ok r) out'
    written {out'} q e =
        said_so bs ns out (Ok r) out' {s = good r}
        (fits_so ∙ ap (λ b. cond b (refuses 15 r) (good r)) (le-ltb (length out) r q))
        refl
        (e ∙ ap (λ l. l ++ drop r out) (w.1.front ∙ same) ∙ ap (λ n. canonical (tables_in bs ns) ++ drop n out) (w.1.long ∙ ap length same))
