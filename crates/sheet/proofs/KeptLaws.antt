-- Only rows of parts and masses change, step by step.
use mathlib.Core.Path.{◌≡◌, refl, ap, ◌∙◌}
use mathlib.Core.List.{List}
use Prim.Native.Nat.{ℕ}
use lib.IntN.{ℤ}
use Rattle.sheet.specs.declared.Sheet.{Sheet}
use Rattle.sheet.specs.Kept.{OnlyParts}

pub parts_kept : (s : Sheet) → OnlyParts s s
parts_kept s = record { letters = refl; sections = refl; heads = refl; scores = refl }

pub parts_put : (s t : Sheet) (parts : List ℕ) (masses : List ℤ) → t ≡ record s { parts = parts; masses = masses } → OnlyParts s t
parts_put s t parts masses e =
    record { letters = ap (λ z. z.letters) e; sections = ap (λ z. z.sections) e; heads = ap (λ z. z.heads) e; scores = ap (λ z. z.scores) e }

pub parts_then : {s t u : Sheet} → OnlyParts s t → OnlyParts t u → OnlyParts s u
parts_then e f =
    record { letters = f.letters ∙ e.letters; sections = f.sections ∙ e.sections; heads = f.heads ∙ e.heads; scores = f.scores ∙ e.scores }
