-- The loop over the parts of a bracket: the areas hold those that are passed, and the row of the next one fits.
use mathlib.Core.Path.{◌≡◌, sym, ap, ap₂, subst, ◌∙◌}
use mathlib.Core.List.{List, [], ◌∷◌, ◌++◌}
use Prim.Native.Nat.{ℕ, ◌+◌, ◌≤◌, ◌<◌}
use native.Mathlib.Omega.{arith}
use lib.IntN.{ℤ}
use lib.ListN.{length, take, set, length-append}
use lib.Seq.{sets, take_all}
use Rattle.scope.specs.Line.{Part}
use Rattle.scope.specs.Lists.{flat}
use Rattle.scope.specs.Layout.{texts_at, part_at, mass_at, packed}
use Rattle.basics.specs.Lists.{flat_append_length, flat_cons}
use Rattle.sheet.proofs.FieldLaws.{Among, among}
use Rattle.store.specs.Areas.{Pieces}
use Rattle.store.specs.PartPut.{RowFits, RowPut, PartNoted, PartsFit, SomePartsFit, PartsPut}
use Rattle.store.proofs.NotedRows.{texts_long, texts_noted, row_noted, number_noted, row_fits}
use Rattle.store.proofs.Passed.{passed, passed_next}
use Rattle.store.proofs.AreaLaws.{no_parts_lem, part_more}

module _ {line parts : List ℕ} {masses : List ℤ} {m n k t : ℕ} {ps : List (Part ℕ)} {a : Pieces} {bytes₀ : List ℕ} {numbers₀ : List ℤ}
    (f : PartsFit line parts masses m n k t ps a bytes₀ numbers₀) where
  module _ {j u : ℕ} {bytes : List ℕ} {numbers : List ℤ} (w : PartsPut k t (take j ps) a u bytes numbers) (h : j < n) where
    next : Among ps j
    next = among ps j (omega (arith, f.many))

    noted : PartNoted line parts masses (m + j) next.this
    noted = subst (λ i. PartNoted line parts masses (m + i) next.this) (sym next.place) (f.noted next.before next.this next.behind next.is)

    before : PartsPut k t next.before a u bytes numbers
    before = subst (λ x. PartsPut k t x a u bytes numbers) (passed next) w

    room : u + length (packed next.this) ≤ t + length (flat packed ps)
    room =
        let p = next.this in
        let v = next.behind in
        omega (arith, before.texts_are, ap (λ y. length (flat packed y)) next.is, flat_append_length packed next.before (p ∷ v), ap length (flat_cons packed p v), length-append (packed p) (flat packed v))

    fits : RowFits line parts masses (m + j) k j u
    fits =
        row_fits noted (omega (arith, f.few_rows)) (omega (arith, room, f.texts_room)) f.few_brackets_lem
        (omega (arith, f.few_parts_lem))

    further : {r : ℕ} {bytes' : List ℕ} {numbers' : List ℤ} → RowPut line parts masses (m + j) k j u bytes numbers r bytes' numbers'
        → PartsPut k t (take (j + 1) ps) a r bytes' numbers'
    further {r} {bytes'} {numbers'} q =
        let p = next.this in
        let z : u + length (packed p) ≡ r = ap (λ i. u + i) (sym (texts_long noted)) ∙ sym q.texts_are in
        subst (λ x. PartsPut k t x a r bytes' numbers') (sym (passed_next next))
        (subst (λ i. PartsPut k t (next.before ++ (p ∷ [])) a i bytes' numbers') z
        (part_more p before next.place f.few_brackets_lem (omega (arith, f.few_parts_lem)) (omega (arith, room, f.texts_room))
        (q.bytes_are ∙ ap₂ (λ b c. sets (sets bytes (texts_at + u) b) (part_at k j) c) (texts_noted noted) (row_noted noted u))
        (q.numbers_are ∙ ap (set numbers (mass_at k j)) (number_noted noted))))

-- ---- the loop
pub record StoringParts (line parts : List ℕ) (masses : List ℤ) (m n k t : ℕ) (bytes₀ : List ℕ) (numbers₀ : List ℤ) (j u : ℕ) (bytes : List ℕ) (numbers : List ℤ) : Type 0 where
  pub few : j ≤ n
  pub put : (ps : List (Part ℕ)) (a : Pieces) → PartsFit line parts masses m n k t ps a bytes₀ numbers₀ → PartsPut k t (take j ps) a u bytes numbers

pub parting_start : (line parts : List ℕ) (masses : List ℤ) (m n k t : ℕ) (bytes : List ℕ) (numbers : List ℤ) → StoringParts line parts masses m n k t bytes numbers 0 t bytes numbers
parting_start line parts masses m n k t bytes numbers =
    record { few = omega arith; put = λ ps a f. no_parts_lem f.areas_are }

module _ {line parts : List ℕ} {masses : List ℤ} {m n k t : ℕ} {bytes₀ : List ℕ} {numbers₀ : List ℤ} {j u : ℕ} {bytes : List ℕ} {numbers : List ℤ}
    (w : StoringParts line parts masses m n k t bytes₀ numbers₀ j u bytes numbers) where
  pub parting_fits : SomePartsFit line parts masses m n k t bytes₀ numbers₀ → j < n → RowFits line parts masses (m + j) k j u
  parting_fits s h = fits s.fit (w.put s.these s.pieces s.fit) h

  pub parting_next : j < n → {r : ℕ} {bytes' : List ℕ} {numbers' : List ℤ} → RowPut line parts masses (m + j) k j u bytes numbers r bytes' numbers'
      → StoringParts line parts masses m n k t bytes₀ numbers₀ (j + 1) r bytes' numbers'
  parting_next h q =
      record {
        few = omega arith;
        put = λ ps a f. further f (w.put ps a f) h q;
      }

  pub parting_end : n ≤ j → (ps : List (Part ℕ)) (a : Pieces) → PartsFit line parts masses m n k t ps a bytes₀ numbers₀ → PartsPut k t ps a u bytes numbers
  parting_end h ps a f = subst (λ x. PartsPut k t x a u bytes numbers) (take_all j ps (omega (arith, f.many))) (w.put ps a f)
