-- From what is ready to the rows.
use mathlib.Core.Path.{◌≡◌, refl, sym, ap, ◌∙◌, subst}
use mathlib.Core.List.{List}
use Prim.Native.Nat.{ℕ, ◌<◌, ◌≤◌}
use borrow.Author.Tests.{lt-ltb, le-ltb}
use lib.IntN.{ℤ}
use lib.ListN.{length}
use Rattle.scope.specs.declared.answers.Site.{Site}
use Rattle.scope.specs.Limits.{copy_limit, row_limit}
use Rattle.scope.specs.Lists.{laid}
use Rattle.scope.specs.Layout.{tables_in}
use Rattle.scope.specs.Positions.{rows_from, rows_of, floating_of}
use Rattle.scope.specs.Answers.{good, refuses, rows_said, rows_after}
use Rattle.areas.specs.Floats.{lists_in}
use Rattle.positions.specs.Marked.{Filled}
use Rattle.calls.specs.Held.{held_said, Held}
use Rattle.calls.specs.Rows.{RowsTable}
use Rattle.calls.proofs.Laws.{refused_law, answers_here}

pub no_room : (bs : List ℕ) (ns : List ℤ) {room : ℕ} → room < row_limit → (out : List Site) → length out ≡ room → refuses 13 0 ≡ rows_said bs ns out
no_room bs ns {room} h out e = let k : length out < row_limit = subst (λ z. z < row_limit) (sym e) h in rw (lt-ltb (length out) row_limit k)

pub no_tables : (bs : List ℕ) (ns : List ℤ) {room : ℕ} → row_limit ≤ room → {m q : ℕ} → refuses m q ≡ held_said bs ns → (out : List Site) → length out ≡ room
    → refuses m q ≡ rows_said bs ns out
no_tables bs ns {room} h e out q =
    let k : row_limit ≤ length out = subst (λ z. row_limit ≤ z) (sym q) h in
    rw (le-ltb (length out) row_limit k) (refused_law bs ns e (λ t. good (length (rows_of t))))

pub table_ready : {bs : List ℕ} {ns : List ℤ} {b : List ℕ} {n : List ℤ} {room k : ℕ} {old tab : List ℕ} → row_limit ≤ room → Held bs ns b n → row_limit ≤ length old
    → k ≤ copy_limit → Filled b n k old tab → RowsTable bs ns room tab k
table_ready {room = room} {k} {old} {tab} h held long few f =
    record {
      roomy = h;
      tried = held.tried;
      taken = held.taken;
      sized = record { room = subst (λ z. row_limit ≤ z) (sym f.kept) long; few = few };
      table = f.table ∙ ap (λ t. (floating_of t).lists) held.same;
    }

-- ---- the rows of the table
pub rows_are : {bs : List ℕ} {ns : List ℤ} {room k : ℕ} {tab : List ℕ} → RowsTable bs ns room tab k → rows_from 1 (lists_in tab k) ≡ rows_of (tables_in bs ns)
unfolding rows_of
rows_are h = ap (rows_from 1) h.table

pub rows_said_lem : {bs : List ℕ} {ns : List ℤ} {k : ℕ} {tab : List ℕ} (out : List Site) → RowsTable bs ns (length out) tab k
    → good (length (rows_from 1 (lists_in tab k))) ≡ rows_said bs ns out
rows_said_lem {bs} {ns} {k} {tab} out h =
    ap (λ l. good (length l)) (rows_are h) ∙ sym (answers_here _ _ (λ t. good (length (rows_of t))) h.tried h.taken)
    ∙ rw (le-ltb (length out) row_limit h.roomy) refl

pub rows_after_lem : {bs : List ℕ} {ns : List ℤ} {k : ℕ} {tab : List ℕ} (out : List Site) → RowsTable bs ns (length out) tab k
    → laid (rows_from 1 (lists_in tab k)) out ≡ rows_after (rows_said bs ns out) (tables_in bs ns) out
rows_after_lem {bs} {ns} {k} {tab} out h = ap (λ l. laid l out) (rows_are h) ∙ ap (λ s. rows_after s (tables_in bs ns) out) (rows_said_lem out h)

pub rows_kept : (bs : List ℕ) (ns : List ℤ) {n p : ℕ} (out : List Site) → refuses n p ≡ rows_said bs ns out → out ≡ rows_after (rows_said bs ns out) (tables_in bs ns) out
rows_kept bs ns {n} {p} out e = ap (λ s. rows_after s (tables_in bs ns) out) e
