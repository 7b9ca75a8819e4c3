-- A loop over the parts of a bracket, or over the brackets: each takes some rows, texts and numbers of the areas, behind those of the ones before it. What the loop has
-- not come to is left.
use mathlib.Core.Path.{◌≡◌, refl, sym, ap, subst, ◌∙◌}
use mathlib.Core.List.{List, [], ◌∷◌, ◌++◌, append_assoc}
use Prim.Native.Nat.{ℕ, ◌+◌, ◌≤◌}
use native.Mathlib.Omega.{arith}
use lib.IntN.{ℤ}
use lib.ListN.{length, drop, length-append}
use lib.Seq.{drop_at, drop-length}
use Rattle.scope.specs.Lists.{flat}
use Rattle.scope.specs.Layout.{texts_at}
use Rattle.basics.specs.Lists.{flat_nil, flat_cons}
use Rattle.sheet.proofs.FieldLaws.{Among}
use Rattle.held.specs.Held.{HeldFrom}
use Rattle.held.proofs.Joins.{Joins}
use Rattle.held.proofs.Places.{at_joins}

-- ---- three pieces, and three behind them
pub held_joins : (bytes : List ℕ) (numbers : List ℤ) (row t number row' t' number' : ℕ) (a b : List ℕ) (c : List ℤ) (a' b' : List ℕ) (c' : List ℤ)
    → row' ≡ row + length a → t' ≡ t + length b → number' ≡ number + length c
    → Joins (HeldFrom bytes numbers row t number a b c) (HeldFrom bytes numbers row' t' number' a' b' c') (HeldFrom bytes numbers row t number (a ++ a') (b ++ b') (c ++ c'))
held_joins bytes numbers row t number row' t' number' a b c a' b' c' e f g =
    let r = at_joins bytes row row' a a' e in
    let x = at_joins bytes (texts_at + t) (texts_at + t') b b' (omega arith) in
    let n = at_joins numbers number number' c c' g in
    record {
      on = λ p q. record { rows_at_is = r.on p.rows_at_is q.rows_at_is; texts_at_lem = x.on p.texts_at_lem q.texts_at_lem; masses_at = n.on p.masses_at q.masses_at };
      back = λ h.
          let rs = r.back h.rows_at_is in
          let xs = x.back h.texts_at_lem in
          let ns = n.back h.masses_at in
          (record { rows_at_is = rs.0; texts_at_lem = xs.0; masses_at = ns.0 }, record { rows_at_is = rs.1; texts_at_lem = xs.1; masses_at = ns.1 });
    }

-- ---- the loop: H i t xs is held of these from i on, their texts behind t others, and each has texts
pub record HeldUpto {X : Type 0} (H : ℕ → ℕ → List X → Type 0) (T : X → List ℕ) (t : ℕ) (xs : List X) (i u : ℕ) : Type 0 where
  pub texts_left : u + length (flat T (drop i xs)) ≡ t + length (flat T xs)
  pub left : (H i u (drop i xs) → H 0 t xs) × (H 0 t xs → H i u (drop i xs))

module _ {X : Type 0} {H : ℕ → ℕ → List X → Type 0} {T : X → List ℕ} {t : ℕ} {xs : List X} where
  pub upto_start : HeldUpto H T t xs 0 t
  upto_start = record { texts_left = refl; left = (λ h. h, λ h. h) }

  module _ {i u : ℕ} (w : HeldUpto H T t xs i u) where
    module _ (x : Among xs i) where
      this_left : drop i xs ≡ x.this ∷ x.behind
      this_left = ap (drop i) x.is ∙ drop_at x.before (x.this ∷ x.behind) i (sym x.place)

      rest_left : drop (i + 1) xs ≡ x.behind
      rest_left =
          let e = length-append x.before (x.this ∷ []) in
          let p = x.place in
          ap (drop (i + 1)) (x.is ∙ sym (append_assoc x.before (x.this ∷ []) x.behind)) ∙ drop_at (x.before ++ (x.this ∷ [])) x.behind (i + 1) (omega arith)

      texts_long : u + (length (T x.this) + length (flat T x.behind)) ≡ t + length (flat T xs)
      texts_long =
          ap (λ n. u + n)
          (sym (length-append (T x.this) (flat T x.behind)) ∙ ap length (sym (flat_cons T x.this x.behind)) ∙ ap (λ l. length (flat T l)) (sym this_left))
          ∙ w.texts_left

      here : (H i u (x.this ∷ x.behind) → H 0 t xs) × (H 0 t xs → H i u (x.this ∷ x.behind))
      here = subst (λ l. (H i u l → H 0 t xs) × (H 0 t xs → H i u l)) this_left w.left

      pub upto_room : u + length (T x.this) ≤ t + length (flat T xs)
      upto_room = omega (arith, texts_long)

      pub upto_next : {P : Type 0} {v : ℕ} → v ≡ u + length (T x.this) → Joins P (H (i + 1) v x.behind) (H i u (x.this ∷ x.behind)) → P → HeldUpto H T t xs (i + 1) v
      upto_next {v = v} e joins p =
          record {
            texts_left = ap (λ l. v + length (flat T l)) rest_left ∙ omega (arith, texts_long);
            left =
                subst (λ l. (H (i + 1) v l → H 0 t xs) × (H 0 t xs → H (i + 1) v l)) (sym rest_left) (λ h. here.0 (joins.on p h), λ z. (joins.back (here.1 z)).1);
          }

      -- one that is not held
      pub upto_stops : {P Q : Type 0} → Joins P Q (H i u (x.this ∷ x.behind)) → (P → ⊥) → H 0 t xs → ⊥
      upto_stops joins not_this z = not_this (joins.back (here.1 z)).0

    module _ (all : i ≡ length xs) where
      none_left : drop i xs ≡ []
      none_left = ap (λ n. drop n xs) all ∙ drop-length xs

      pub upto_texts : u ≡ t + length (flat T xs)
      upto_texts = omega (arith, w.texts_left, ap (λ l. length (flat T l)) none_left, ap length (flat_nil T))

      pub upto_end : H i u [] → H 0 t xs
      upto_end h = w.left.0 (subst (H i u) (sym none_left) h)
