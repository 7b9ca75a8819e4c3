-- A placement and entries that are lent as slices: what the call answers is laid to the front of the entries.
use Prim.Native.Nat.{ℕ, ◌≤◌}
use mathlib.Core.Path.{◌≡◌, sym, ap, ◌∙◌, subst}
use mathlib.Core.List.{List, ◌++◌}
use lib.IntN.{ℤ}
use lib.ListN.{length, take, drop}
use borrow.Author.Tests.{le-ltb}
use Rattle.scope.specs.Limits.{copy_limit, position_limit}
use Rattle.scope.specs.Layout.{tables_in}
use Rattle.scope.specs.Lists.{laid}
use Rattle.scope.specs.Masses.{ledger}
use Rattle.scope.specs.Answers.{Said, good, books, ledger_said}
use Rattle.export.specs.Numbers.{number_of, place_left}
use Rattle.export.specs.Shapes.{books_lent, entries_after, ReadEntered}
use Rattle.scope.specs.declared.answers.Ledger.{Ledger}
use Rattle.export.proofs.Told.{good_back}

-- `old` and `place` are what the entries and the lent place held, q the placement that the slice p begins with
module _ (bs : List ℕ) (ns : List ℤ) (p : List ℕ) (old : List ℤ) (place : ℕ) (q : List ℕ) (begins : q ≡ take copy_limit p) (h : copy_limit ≤ length p) (l : position_limit ≤ length old) where
  entered : {said : Said (Unit {0})} → books_lent bs ns p old ≡ said
      → ReadEntered bs ns p old place (number_of said) (place_left said place) (entries_after said (tables_in bs ns) (take copy_limit p) old)
  entered e =
      record {
        numbered = record { number_is = ap number_of (sym e); place_is = ap (λ s. place_left s place) (sym e) };
        entries_after_is = ap (λ s. entries_after s (tables_in bs ns) (take copy_limit p) old) (sym e);
      }

  long_enough : books_lent bs ns p old ≡ books bs ns (take copy_limit p)
  long_enough = rw (le-ltb (length p) copy_limit h, le-ltb (length old) position_limit l)

  pub booked_long : {l' : Ledger} {new : List ℤ} → good l' ≡ ledger_said bs ns q → length l'.at ≡ position_limit
      → new ≡ l'.at ++ drop position_limit old → ReadEntered bs ns p old place 0 place new
  booked_long {l'} {new} e long put =
      let back = good_back (λ (x : Unit {0}). record { at = ledger (tables_in bs ns) q }) (books bs ns q) e in
      let booked = ledger (tables_in bs ns) (take copy_limit p) in
      let here : l'.at ≡ booked = ap (λ (z : Ledger). z.at) back.1.1 ∙ ap (ledger (tables_in bs ns)) begins in
      let after : new ≡ laid booked old = put ∙ ap (λ a. a ++ drop position_limit old) here ∙ ap (λ n. booked ++ drop n old) (sym long ∙ ap length here) in
      subst (ReadEntered bs ns p old place 0 place) (sym after)
      (entered {said = good back.0} (long_enough ∙ ap (books bs ns) (sym begins) ∙ sym back.1.0))
