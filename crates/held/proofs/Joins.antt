-- Answers that tell whether a fact holds: one, two joined by `&`, and the answer of a loop beside what it has not looked at yet.
use mathlib.Core.Path.{◌≡◌, sym, ap, ◌∙◌}
use mathlib.Core.Bool.{Bool, true, false, ◌&&◌, true≢false}
use Rattle.std.specs.Prelude.{Some}
use Rattle.held.specs.Held.{Gives}
use Prim.Native.Nat.{ℕ}
use borrow.Author.Tests.{eqb-true, eq-eqb}
use lib.Dec.{eqb}
use lib.IntN.{ℤ}
use mir.Syntax.{w64}
use mir.Val.{to_z, of_z}
use Rattle.basics.specs.Tests.{and_left, and_right, both}
use Rattle.held.specs.Tells.{Tells}

-- ---- one answer
pub tells_as : {r : Bool} {A B : Type 0} → (A → B) → (B → A) → Tells r A → Tells r B
tells_as f g v = record { on = λ e. f (v.on e); back = λ b. v.back (g b) }

pub tells_itself : (r : Bool) → Tells r (r ≡ true)
tells_itself r = record { on = λ e. e; back = λ e. e }

-- a test of equality, of two numbers that were read, of two whole numbers by their bits
pub tells_equal : {x y a b : ℕ} → x ≡ a → y ≡ b → Tells (eqb x y) (a ≡ b)
tells_equal {x} {y} e f = record { on = λ q. sym e ∙ eqb-true x y q ∙ f; back = λ q. eq-eqb x y (e ∙ q ∙ sym f) }

pub tells_whole : (x y : ℤ) → to_z w64 (of_z w64 x) ≡ x → to_z w64 (of_z w64 y) ≡ y → Tells (eqb (of_z w64 x) (of_z w64 y)) (x ≡ y)
tells_whole x y e f =
    record { on = λ q. sym e ∙ ap (to_z w64) (eqb-true (of_z w64 x) (of_z w64 y) q) ∙ f; back = λ q. eq-eqb (of_z w64 x) (of_z w64 y) (ap (of_z w64) q) }

-- ---- two
pub tells_both : {r t : Bool} {A B : Type 0} → Tells r A → Tells t B → Tells (r && t) (A × B)
tells_both {r} {t} v w = record { on = λ e. (v.on (and_left r t e), w.on (and_right r t e)); back = λ p. both r t (v.back p.0) (w.back p.1) }

-- ---- P and Q together are W
pub record Joins (P Q W : Type 0) : Type 0 where
  pub on : P → Q → W
  pub back : W → P × Q

pub tells_joined : {r t : Bool} {P Q W : Type 0} → Joins P Q W → Tells r P → Tells t Q → Tells (r && t) W
tells_joined w v u = tells_as (λ p. w.on p.0 p.1) w.back (tells_both v u)

-- ---- a loop: its answer so far, and what is left, are the whole
abbrev pub Left : Bool → Type 0 → Type 0 → Type 0
Left so Rest Whole = Joins (so ≡ true) Rest Whole

-- one piece more
pub left_more : {so r : Bool} {P Rest Rest' Whole : Type 0} → Left so Rest Whole → Joins P Rest' Rest → Tells r ((so ≡ true) × P) → Left r Rest' Whole
left_more w j v =
    record {
      on = λ e x. w.on (v.on e).0 (j.on (v.on e).1 x);
      back = λ z.
          let q = w.back z in
          let p = j.back q.1 in
          (v.back (q.0, p.0), p.1);
    }

-- nothing left
pub left_end : {so : Bool} {Rest Whole : Type 0} → Left so Rest Whole → Rest → Tells so Whole
left_end w x = record { on = λ e. w.on e x; back = λ z. (w.back z).0 }

-- ---- an answer that gives a number where a fact holds
module _ {r : Bool} {A : Type 0} (v : Tells r A) where
  pub gives_some : {u n : ℕ} → u ≡ n → r ≡ true → Gives (Some u) n A
  gives_some e q = (e, v.on q)

  pub tells_not : r ≡ false → A → ⊥
  tells_not q a = true≢false (sym (v.back a) ∙ q)
