-- What is kept of a text behind `Glycan:`, by what `cut` says of it: for those that check, store and compare it.
use Rattle.std.specs.Prelude.{ℕ, ◌+◌, ◌≤◌, ◌≡◌, refl, true, false, List, [], ◌∷◌, pos, length, Option as Perhaps, Some, None, is_none}
use Rattle.std.proofs.Common.{arith, sym, ap, ◌∙◌, true≢false}
use Rattle.std.proofs.lemmas.Bool.{false≢true}
use Rattle.std.proofs.lemmas.List.Edits.{sets}
use Rattle.scope.specs.Limits.{text_limit}
use Rattle.scope.specs.Lists.{none?}
use Rattle.scope.specs.Line.{Number, text, composition}
use Rattle.scope.specs.Layout.{mass_in}
use Rattle.scope.specs.Glycans.{Item, mass_decimals, cuttings}
use Rattle.scope.specs.Kept.{cut_as, cut_value}
use Rattle.glycans.specs.declared.Cutting.{Cutting}
use Rattle.glycans.specs.Cut.{short_of, weight_of, Composed, CutIs, Room, PutBefore}

-- whether refusal 19 is due
pub is_uncut_lem : (t : List ℕ) (r : Perhaps Cutting) → CutIs t r → none? (cuttings t) ≡ is_none r
is_uncut_lem t None e = e
is_uncut_lem t (Some c) w = w.cuts

-- the number that is kept
abbrev pub weight_number : {P : Type 0} → P → ℕ → Number P
weight_number at w = record { minus = false; digits = w; decimals = mass_decimals; at = at }

kept_as : {P : Type 0} (at : P) (t : List ℕ) (l : List (List Item)) → none? l ≡ false → cut_as at t l ≡ composition (short_of l) (weight_number at (weight_of l))
kept_as at t [] e = absurd (true≢false e)
kept_as at t (xs ∷ l) e = refl

left_as : {P : Type 0} (at : P) (t : List ℕ) (l : List (List Item)) → none? l ≡ true → cut_as at t l ≡ text t
left_as at t [] e = refl
left_as at t (xs ∷ l) e = absurd (false≢true e)

module _ {t : List ℕ} {P : Type 0} (at : P) where
  -- a composition, with its short text and its mass
  pub kept_so : {c : Cutting} → Composed t c → cut_value at (text t) ≡ composition (short_of (cuttings t)) (weight_number at (weight_of (cuttings t)))
  kept_so w = kept_as at t (cuttings t) w.cuts

  pub mass_so : {c : Cutting} → Composed t c → length t ≤ text_limit → mass_in (cut_value at (text t)) ≡ pos c.mass
  mass_so w h = ap mass_in (kept_so w) ∙ ap pos (sym (w.weighs h))

  -- a text that cannot be cut stays
  pub kept_not : none? (cuttings t) ≡ true → cut_value at (text t) ≡ text t
  kept_not e = left_as at t (cuttings t) e

-- ---- the short text at a place a of an area, where `cut` told its size
pub room_at : (area : List ℕ) (a : ℕ) {t : List ℕ} {c : Cutting} → Composed t c → a + c.size ≤ length area → Room area (a + c.size) (short_of (cuttings t))
room_at area a w h = record { front = omega (arith, w.sized); inside = h }

pub put_at_lem : {area : List ℕ} (a : ℕ) {t : List ℕ} {c : Cutting} {area' : List ℕ} {r : ℕ} → Composed t c
    → PutBefore area (a + c.size) (short_of (cuttings t)) area' r → area' ≡ sets area a (short_of (cuttings t))
put_at_lem {area} a {t} {c} {area'} {r} w p =
    let e : r ≡ a = omega (arith, p.begins, w.sized) in
    p.put ∙ ap (λ z. sets area z (short_of (cuttings t))) e
