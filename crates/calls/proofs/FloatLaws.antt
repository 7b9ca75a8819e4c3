-- The answers of `floater_brackets`: a refusal leaves both slices; else the floaters' brackets and copies are laid over what the slices begin with.
use mathlib.Core.Path.{◌≡◌, refl, sym, ap, ap₂, ◌∙◌}
use mathlib.Core.List.{List, ◌++◌}
use Prim.Native.Nat.{ℕ, ◌≤◌, ◌<◌}
use borrow.Author.Tests.{lt-ltb, le-ltb}
use lib.IntN.{ℤ}
use lib.ListN.{length, take, drop, length-map}
use Rattle.std.specs.Prelude.{Result, Ok, Err}
use Rattle.scope.specs.declared.refusals.Refusal.{Refusal}
use Rattle.scope.specs.declared.refusals.Reason.TheVariants.{ShortArea}
use Rattle.scope.specs.Limits.{copy_limit}
use Rattle.scope.specs.Lists.{laid}
use Rattle.scope.specs.Positions.{floaters_by, brackets_of, copies_of, floaters}
use Rattle.scope.specs.Layout.{tables_in}
use Rattle.scope.specs.Answers.{Said, good, refuses, says, counts, floater_count, output_after}
use Rattle.areas.specs.Floats.{FloatersAre}
use Rattle.positions.proofs.Found.{floaters_many}
use Rattle.calls.specs.Floating.{floaters_said, FloatersSay}
use Rattle.calls.specs.Held.{held_said, Held}
use Rattle.calls.proofs.Laws.{refused_law, answers}

module _ (bs : List ℕ) (ns : List ℤ) (brs cps : List ℕ) where
  said_so : (r : Result ℕ Refusal) (brs' cps' : List ℕ) {s : Said ℕ} → floaters_said bs ns brs cps ≡ s → says r ≡ s
      → brs' ≡ output_after s (brackets_of (floaters_by (tables_in bs ns))) brs → cps' ≡ output_after s (copies_of (floaters_by (tables_in bs ns))) cps
      → FloatersSay bs ns brs cps r brs' cps'
  said_so r brs' cps' {s} e f g h =
      record {
        says = f ∙ sym e;
        brackets_after = g ∙ ap (λ z. output_after z (brackets_of (floaters_by (tables_in bs ns))) brs) (sym e);
        copies_after = h ∙ ap (λ z. output_after z (copies_of (floaters_by (tables_in bs ns))) cps) (sym e);
      }

  pub short_brackets : length brs < copy_limit → FloatersSay bs ns brs cps (Err (record { reason = ShortArea; place = 0 })) brs cps
  short_brackets h = said_so (Err (record { reason = ShortArea; place = 0 })) brs cps {s = refuses 13 0} (rw (lt-ltb (length brs) copy_limit h)) refl refl refl

  pub short_copies : copy_limit ≤ length brs → length cps < copy_limit → FloatersSay bs ns brs cps (Err (record { reason = ShortArea; place = 0 })) brs cps
  short_copies h l = said_so (Err (record { reason = ShortArea; place = 0 })) brs cps {s = refuses 13 0} (rw (le-ltb (length brs) copy_limit h, lt-ltb (length cps) copy_limit l)) refl refl refl

  -- slices that are long enough
  module _ (h : copy_limit ≤ length brs) (l : copy_limit ≤ length cps) where
    long_both : floaters_said bs ns brs cps ≡ counts bs ns floater_count
    long_both = rw (le-ltb (length brs) copy_limit h, le-ltb (length cps) copy_limit l)

    pub no_floaters : (e : Refusal) → says (Err e) ≡ held_said bs ns → FloatersSay bs ns brs cps (Err e) brs cps
    no_floaters e h = said_so (Err e) brs cps (long_both ∙ sym (refused_law bs ns h (λ t. good (floater_count t)))) refl refl refl

    pub floaters_found : {b : List ℕ} {m : List ℤ} {n : ℕ} {i c brs' cps' : List ℕ} → Held bs ns b m → FloatersAre b m n i c → brs' ≡ take n i ++ drop n brs
        → cps' ≡ take n c ++ drop n cps → FloatersSay bs ns brs cps (Ok n) brs' cps'
    floaters_found {b} {m} {n} {i} {c} {brs'} {cps'} held a p q =
        said_so (Ok n) brs' cps' {s = good n} (long_both ∙ answers (λ t. good (floater_count t)) held ∙ ap good (sym a.many)) refl
        (p ∙ laid_so brs (a.brackets ∙ ap (λ t. brackets_of (floaters_by t)) held.same) (length-map (floaters_by (tables_in bs ns)) (λ c. c.bracket)))
        (q ∙ laid_so cps (a.copies ∙ ap (λ t. copies_of (floaters_by t)) held.same) (length-map (floaters_by (tables_in bs ns)) (λ c. c.copy)))
      where
        laid_so : (old : List ℕ) {new l : List ℕ} → new ≡ l → length l ≡ length (floaters_by (tables_in bs ns)) → new ++ drop n old ≡ laid l old
        laid_so old {new} {l} e g =
            ap₂ (λ x m. x ++ drop m old) e (a.many ∙ ap (λ t. length (floaters t)) held.same ∙ sym (g ∙ floaters_many bs ns))
