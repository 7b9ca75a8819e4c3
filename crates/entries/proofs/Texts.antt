-- Fields one behind another, what the total is written as, and a part of the output. Assumes nothing.
use mathlib.Core.Path.{◌≡◌, refl, sym, ap, ◌∙◌}
use mathlib.Core.Bool.{Bool, true, false, cond, false≢true, true≢false}
use mathlib.Core.List.{List, [], ◌∷◌, ◌++◌, append_assoc, append-nil}
use Prim.Native.Nat.{ℕ, ◌+◌, ◌-◌}
use native.Mathlib.Numerals.{add-one}
use native.Mathlib.Omega.{arith}
use lib.Dec.{eqb}
use lib.IntN.{ℤ, pos, negsuc, nat_abs}
use lib.ListN.{length, take, drop, length-drop, drop_of_length-le}
use lib.Seq.{take_all}
use lib.Signed.{lt_z}
use mir.Syntax.{w64}
use mir.Val.{SFits, to_z, of_z}
use Rattle.scope.specs.Bytes.{question, plus, dash}
use Rattle.scope.specs.Line.{Line}
use Rattle.scope.specs.Refusals.{outcome}
use Rattle.scope.specs.Canonical.{decimal}
use Rattle.scope.specs.Layout.{is_negative}
use Rattle.scope.specs.Masses.{total, lacking}
use Rattle.scope.specs.Register.{signed_text, total_text, fields, report, printed}
use Rattle.std.specs.Prelude.{Result, Ok, Err}
use Rattle.masses.specs.declared.Lacking.{Lacking}
use Rattle.masses.specs.Weights.{weight_of}
use Rattle.figures.specs.Written.{stored, Puts}
use Rattle.figures.proofs.Storing.{stored_from, puts_of, puts_join}
use Rattle.figures.proofs.Signs.{tested}
use Rattle.entries.specs.Entry.{entry, weight_text}

-- ---- fields
module _ {m : ℕ} {o : List ℕ} {at : ℕ} {f p : List ℕ} {q : ℕ} (a : Puts m o at (32 ∷ f) p q) where
  pub field_then : (fs : List (List ℕ)) {n : ℕ} {left : List ℕ} {r : ℕ} → Puts n p q (fields fs) left r → Puts (m + n) o at (fields (f ∷ fs)) left r
  unfolding fields
  field_then fs b = puts_join a b

  pub field_last : Puts m o at (fields (f ∷ [])) p q
  unfolding fields
  field_last = puts_of (sym (append-nil (32 ∷ f))) a

pub fields_append : (fs gs : List (List ℕ)) → fields fs ++ fields gs ≡ fields (fs ++ gs)
unfolding fields
fields_append [] gs = refl
fields_append (f ∷ fs) gs = append_assoc (32 ∷ f) (fields fs) (fields gs) ∙ ap (λ t. (32 ∷ f) ++ t) (fields_append fs gs)

pub entry_text : (n : ℕ) (s : List ℕ) → decimal n ++ (report (outcome s) ++ (10 ∷ [])) ≡ entry n s
unfolding printed
entry_text n s = sym (append_assoc (decimal n) (report (outcome s)) (10 ∷ []))

-- ---- signs
minus_of : (m : ℤ) → is_negative m ≡ true → dash ∷ decimal (nat_abs m) ≡ signed_text m
minus_of (pos n) e = absurd (false≢true e)
minus_of (negsuc n) e = ap (λ k. dash ∷ decimal k) (sym (add-one n))

plus_of : (m : ℤ) → is_negative m ≡ false → plus ∷ decimal (nat_abs m) ≡ signed_text m
plus_of (pos n) e = refl
plus_of (negsuc n) e = absurd (true≢false e)

module _ (m : ℤ) (f : SFits w64 m) where
  pub minus_text : lt_z (to_z w64 (of_z w64 m)) (pos 0) ≡ true → dash ∷ decimal (nat_abs m) ≡ signed_text m
  minus_text t = minus_of m (sym (tested m f) ∙ t)

  pub plus_text : lt_z (to_z w64 (of_z w64 m)) (pos 0) ≡ false → plus ∷ decimal (nat_abs m) ≡ signed_text m
  plus_text t = plus_of m (sym (tested m f) ∙ t)

pub sign_then : {m x : ℤ} {b n : ℕ} → x ≡ m → n ≡ nat_abs x → b ∷ decimal (nat_abs x) ≡ signed_text x → (b ∷ []) ++ decimal n ≡ signed_text m
sign_then {b = b} e q h = ap (λ k. b ∷ decimal k) q ∙ h ∙ ap signed_text e

-- ---- the total
pub total_told_lem : {w : Result ℤ Lacking} {m x : ℤ} → w ≡ Ok m → x ≡ m → signed_text x ≡ weight_text w
total_told_lem e f = ap signed_text f ∙ ap weight_text (sym e)

pub lacks_told : {w : Result ℤ Lacking} {l : Lacking} → w ≡ Err l → (question ∷ []) ++ decimal l.count ≡ weight_text w
lacks_told e = ap weight_text (sym e)

pub weight_text_lem : {P : Type 0} (t : Line P) → weight_text (weight_of t) ≡ total_text t
unfolding weight_of
weight_text_lem t = by (eqb (lacking t) 0)
  where
    by : (b : Bool) → weight_text (cond b (Ok (total t)) (Err (record { count = lacking t }))) ≡ cond b (signed_text (total t)) (question ∷ decimal (lacking t))
    by true = refl
    by false = refl

-- ---- what is put into a part of the output is put into the output from there on
module _ (at : ℕ) (o : List ℕ) where
  part_is : take (length o - at) (drop at o) ≡ drop at o
  part_is = let e = length-drop at o in take_all (length o - at) (drop at o) (omega arith)

  none_behind : drop (length o - at) (drop at o) ≡ []
  none_behind = let e = length-drop at o in drop_of_length-le (drop at o) {i = length o - at} (omega arith)

  pub puts_from : {m : ℕ} {t p : List ℕ} {q : ℕ} → Puts m (take (length o - at) (drop at o)) 0 t p q
      → Puts m o at t (take at o ++ (p ++ drop (length o - at) (drop at o))) (at + q)
  puts_from {t = t} {p = p} w =
      record {
        holds =
            ap (λ x. take at o ++ (p ++ x)) none_behind
            ∙ ap (λ x. take at o ++ x) (append-nil p ∙ w.holds ∙ ap (λ x. stored x 0 t) part_is)
            ∙ sym (stored_from at o t);
        ends = omega (arith, w.ends);
        near = omega (arith, w.near);
      }
