-- The first row of a floater, sought one row after the other.
use mathlib.Core.Path.{◌≡◌, sym, ap, ◌∙◌}
use mathlib.Core.Bool.{cond}
use mathlib.Core.Option.{Option, none, some}
use mathlib.Core.List.{List}
use Prim.Native.Nat.{ℕ, ◌+◌, ◌≤◌, ◌<◌, min, suc}
use native.Mathlib.Numerals.{add-one}
use borrow.Author.Tests.{eq-eqb, ne_eqb, le-ltb}
use lib.Dec.{eqb}
use lib.ListN.{length, get_or, take, drop, drop_of_length-le}
use lib.Seq.{drop-cons}
use Rattle.scope.specs.declared.answers.Row.{Row}
use Rattle.scope.specs.declared.answers.Site.{Site}
use Rattle.scope.specs.Limits.{row_limit}
use Rattle.scope.specs.Positions.{first_row, lookup}
use Rattle.scope.specs.Answers.{refuses, findable, looks_up}

-- a row that is no row
abbrev pub no_site : Site
no_site = record { floater = 0; position = 0 }

-- what is sought in all rows is sought from row i on
pub record Seeking (rows : List Site) (w i : ℕ) : Type 0 where
  pub rest : first_row w 0 rows ≡ first_row w i (drop i rows)

module _ {rows : List Site} {w i : ℕ} (s : Seeking rows w i) where
  here : i < length rows → first_row w 0 rows ≡ cond (eqb (get_or rows i no_site).floater w) (some (record { index = i; position = (get_or rows i no_site).position })) (first_row w (i + 1) (drop (suc i) rows))
  unfolding first_row
  here h = s.rest ∙ ap (first_row w i) (drop-cons rows i no_site h)

  pub seeking_found : i < length rows → (get_or rows i no_site).floater ≡ w → first_row w 0 rows ≡ some (record { index = i; position = (get_or rows i no_site).position })
  seeking_found h e =
      here h ∙ ap (λ t. cond t (some (record { index = i; position = (get_or rows i no_site).position })) (first_row w (i + 1) (drop (suc i) rows))) (eq-eqb (get_or rows i no_site).floater w e)

  pub seeking_next : i < length rows → ((get_or rows i no_site).floater ≡ w → ⊥) → Seeking rows w (i + 1)
  seeking_next h e =
      record {
        rest =
            here h ∙ ap (λ t. cond t (some (record { index = i; position = (get_or rows i no_site).position })) (first_row w (i + 1) (drop (suc i) rows))) (ne_eqb (get_or rows i no_site).floater w e)
            ∙ ap (λ n. first_row w (i + 1) (drop n rows)) (sym (add-one i));
      }

  pub seeking_end : length rows ≤ i → first_row w 0 rows ≡ none
  unfolding first_row
  seeking_end h = s.rest ∙ ap (first_row w i) (drop_of_length-le rows h)

-- what is answered of what was found among the first m rows
pub looked : (rows : List Site) (n f : ℕ) {m : ℕ} {o : Option Row} → m ≡ min n row_limit → row_limit ≤ length rows → first_row f 0 (take m rows) ≡ o → findable o ≡ looks_up rows n f
looked rows n f {m} {o} e h q =
    sym
    (ap (λ t. cond t (refuses 13 0) (findable (lookup rows n f))) (le-ltb (length rows) row_limit h)
    ∙ ap (λ k. findable (first_row f 0 (take k rows))) (sym e)
    ∙ ap findable q)
