-- What the call for the pieces of a text says: each way in which it ends, by what `cut` says of the text. Assumes nothing.
use Rattle.std.proofs.Common.{◌≡◌, refl, sym, ap, ◌∙◌, arith, cond, List, [], ◌∷◌, ℕ, ◌*◌, ◌≤◌, ◌<◌, ltb, length, lt-ltb, le-ltb, true}
use Rattle.std.specs.Prelude.{Result, Ok, Err}
use Rattle.scope.specs.declared.refusals.Refusal.{Refusal}
use Rattle.scope.specs.declared.refusals.Reason.TheVariants.{Uncut, ShortOutput}
use Rattle.scope.specs.Lists.{flat, none?, laid}
use Rattle.scope.specs.Glycans.{Item, cuttings}
use Rattle.scope.specs.Answers.{Said, good, refuses, says, fitting, output_after}
use Rattle.glycans.specs.declared.Cutting.{Cutting}
use Rattle.glycans.specs.Cut.{items_of, Composed}
use Rattle.glycans.specs.Pieces.{piece_bytes, pieces_of, pieces_said, PiecesSay}

pieces_long : (l : List (List Item)) → length (pieces_of l) ≡ length (items_of l) * 2
unfolding flat
pieces_long [] = refl
pieces_long (xs ∷ more) = go xs
  where
    go : (xs : List Item) → length (flat piece_bytes xs) ≡ length xs * 2
    go [] = refl
    go (x ∷ xs) = omega (arith, go xs)

-- the answer that is said decides what is left
said_so : {t out : List ℕ} {r : Result ℕ Refusal} {out' : List ℕ} {s : Said ℕ} → pieces_said t (length out) ≡ s → says r ≡ s → out' ≡ output_after s (pieces_of (cuttings t)) out → PiecesSay t out r out'
said_so {t} {out} e f g = record { says = f ∙ sym e; output_after_is = g ∙ ap (λ z. output_after z (pieces_of (cuttings t)) out) (sym e) }

pub no_cutting : {t out : List ℕ} → none? (cuttings t) ≡ true → PiecesSay t out (Err (record { reason = Uncut; place = 0 })) out
no_cutting {t} {out} e = said_so {s = refuses 19 0} (ap (λ b. cond b (refuses 19 0) (fitting (pieces_of (cuttings t)) (length out))) e) refl refl

module _ {t : List ℕ} {c : Cutting} (w : Composed t c) where
  pub all_long : c.pieces * 2 ≡ length (pieces_of (cuttings t))
  all_long = ap (λ n. n * 2) w.counted ∙ sym (pieces_long (cuttings t))

  fits_so : (out : List ℕ) → pieces_said t (length out) ≡ cond (ltb (length out) (c.pieces * 2)) (refuses 15 (c.pieces * 2)) (good (c.pieces * 2))
  fits_so out =
      ap (λ b. cond b (refuses 19 0) (fitting (pieces_of (cuttings t)) (length out))) w.cuts
      ∙ ap (λ n. cond (ltb (length out) n) (refuses 15 n) (good n)) (sym all_long)

  pub no_room : {out : List ℕ} → length out < c.pieces * 2 → PiecesSay t out (Err (record { reason = ShortOutput; place = c.pieces * 2 })) out
  no_room {out} h =
      said_so {s = refuses 15 (c.pieces * 2)} (fits_so out ∙ ap (λ b. cond b (refuses 15 (c.pieces * 2)) (good (c.pieces * 2))) (lt-ltb (length out) (c.pieces * 2) h)) refl refl

  pub all_written : {out out' : List ℕ} → c.pieces * 2 ≤ length out → out' ≡ laid (pieces_of (cuttings t)) out → PiecesSay t out (Ok (c.pieces * 2)) out'
  all_written {out} h p =
      said_so {s = good (c.pieces * 2)} (fits_so out ∙ ap (λ b. cond b (refuses 15 (c.pieces * 2)) (good (c.pieces * 2))) (le-ltb (length out) (c.pieces * 2) h)) refl p
