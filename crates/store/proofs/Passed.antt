-- A loop over the elements of a list has passed the first i of them: the next one, and what is passed with it.
use mathlib.Core.Path.{◌≡◌, sym, ap, ◌∙◌}
use mathlib.Core.List.{List, [], ◌∷◌, ◌++◌, append_assoc}
use Prim.Native.Nat.{ℕ, ◌+◌}
use native.Mathlib.Omega.{arith}
use lib.ListN.{take, length-append}
use lib.Seq.{take_at}
use Rattle.sheet.proofs.FieldLaws.{Among}

module _ {A : Type 0} {l : List A} {i : ℕ} (x : Among l i) where
  pub passed : take i l ≡ x.before
  passed = ap (take i) x.is ∙ take_at x.before (x.this ∷ x.behind) i (sym x.place)

  pub passed_next : take (i + 1) l ≡ x.before ++ (x.this ∷ [])
  passed_next =
      let e = length-append x.before (x.this ∷ []) in
      let p = x.place in
      ap (take (i + 1)) (x.is ∙ sym (append_assoc x.before (x.this ∷ []) x.behind))
      ∙ take_at (x.before ++ (x.this ∷ [])) x.behind (i + 1) (omega arith)
