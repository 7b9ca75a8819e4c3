-- What the call for the pieces of a text promises, over what it means to cut one: by whether the definition's list of ways is empty.
use Rattle.std.specs.Prelude.{◌≡◌, refl, ◌↔◌, Bool, true, false, cond, List, [], ◌∷◌, ◌++◌, ℕ, ltb, length, take, drop, Result}
use Rattle.std.proofs.Common.{sym, ap, ◌∙◌, arith}
use Rattle.std.proofs.Math.Seq.{take-append_seam, drop-append_seam}
use Rattle.scope.specs.Lists.{flat, none?}
use Rattle.scope.specs.Glycans.{Item, cuttings}
use Rattle.scope.specs.Answers.{Said, good, refuses, fitting, output_after, says}
use Rattle.basics.specs.Each.{In}
use Rattle.glycan_laws.specs.Laws.{Cuts}
use Rattle.glycan_laws.proofs.Enumerated.{every_way}
use Rattle.glycan_laws.proofs.Written.{first_cut}
use Rattle.glycans.specs.Pieces.{piece_bytes, pieces_of, pieces_said, PiecesSay}
use Rattle.promises.specs.Promises.{Pieced, Composing}
use Rattle.basics.specs.Said.{not_both, same_number_lem, same_good}
use Rattle.scope.specs.declared.refusals.Refusal.{Refusal}

-- what is said by the list of ways
abbrev said_by : List (List Item) → ℕ → Said ℕ
said_by l room = cond (none? l) (refuses 19 0) (fitting (pieces_of l) room)

not_19 : (c : List ℕ) (room : ℕ) → fitting c room ≡ refuses 19 0 → ⊥
not_19 c room e = go (ltb room (length c)) e
  where
    go : (b : Bool) → cond b (refuses 15 (length c)) (good (length c)) ≡ refuses 19 0 → ⊥
    go true f = let z : ◌≡◌ {A = ℕ} 15 19 = same_number_lem f in omega arith
    go false f = not_both f

fitted : (c : List ℕ) (room n : ℕ) → fitting c room ≡ good n → n ≡ length c
fitted c room n e = go (ltb room (length c)) e
  where
    go : (b : Bool) → cond b (refuses 15 (length c)) (good (length c)) ≡ good n → n ≡ length c
    go true f = absurd (not_both (sym f))
    go false f = sym (same_good f)

module _ (t out : List ℕ) (r : Result ℕ Refusal) (out' : List ℕ) (w : PiecesSay t out r out') where
  no_cutting : (says r ≡ refuses 19 0) ↔ ((xs : List Item) → Cuts xs t → ⊥)
  no_cutting = ((λ e xs c. there (cuttings t) refl e xs ((every_way t xs).1 c)), (λ f. back (cuttings t) refl f))
    where
      there : (l : List (List Item)) → cuttings t ≡ l → says r ≡ refuses 19 0 → (xs : List Item) → In xs l → ⊥
      there [] q e xs h = h
      there (ys ∷ l) q e xs h = not_19 (flat piece_bytes ys) (length out) (sym (ap (λ z. said_by z (length out)) q) ∙ sym w.says ∙ e)

      back : (l : List (List Item)) → cuttings t ≡ l → ((xs : List Item) → Cuts xs t → ⊥) → says r ≡ refuses 19 0
      back [] q f = w.says ∙ ap (λ z. said_by z (length out)) q
      back (ys ∷ l) q f = absurd (f ys (first_cut t ys l q))

  pieces : (n : ℕ) → says r ≡ good n → Pieced t out out' n
  pieces n e = go (cuttings t) refl
    where
      go : (l : List (List Item)) → cuttings t ≡ l → Pieced t out out' n
      go [] q = absurd (not_both (sym e ∙ w.says ∙ ap (λ z. said_by z (length out)) q))
      go (ys ∷ l) q =
          let c = flat piece_bytes ys in
          let said : pieces_said t (length out) ≡ good n = sym w.says ∙ e in
          let m : n ≡ length c = fitted c (length out) n (sym (ap (λ z. said_by z (length out)) q) ∙ said) in
          let o : out' ≡ c ++ drop (length c) out = w.output_after_is ∙ ap (λ s. output_after s (pieces_of (cuttings t)) out) said ∙ ap (λ z. pieces_of z ++ drop (length (pieces_of z)) out) q in
          record {
            items = ys;
            cuts = first_cut t ys l q;
            front = ap (λ k. take k out') m ∙ ap (take (length c)) o ∙ take-append_seam c (drop (length c) out);
            rest = ap (λ k. drop k out') m ∙ ap (drop (length c)) o ∙ drop-append_seam c (drop (length c) out) ∙ ap (λ k. drop k out) (sym m);
          }

pub composing : Composing
composing = record { no_cutting = no_cutting; pieces = pieces }
