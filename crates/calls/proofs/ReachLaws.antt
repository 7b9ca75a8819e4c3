-- The answers of `reached`: a refusal leaves the slice; else the positions that the bracket reaches are laid over what the slice begins with.
use mathlib.Core.Path.{◌≡◌, refl, sym, ap, ◌∙◌}
use mathlib.Core.List.{List, []}
use Prim.Native.Nat.{ℕ, ◌≤◌, ◌<◌}
use native.Mathlib.Omega.{arith}
use borrow.Author.Tests.{lt-ltb, le-ltb}
use lib.IntN.{ℤ}
use lib.ListN.{length}
use Rattle.std.specs.Prelude.{Result, Ok, Err}
use Rattle.scope.specs.declared.refusals.Refusal.{Refusal}
use Rattle.scope.specs.declared.refusals.Reason.TheVariants.{ShortArea, NotFound}
use Rattle.scope.specs.Limits.{position_limit}
use Rattle.scope.specs.Lists.{given, laid}
use Rattle.scope.specs.Layout.{tables_in, brackets_field}
use Rattle.scope.specs.Positions.{reached}
use Rattle.scope.specs.Answers.{Said, good, refuses, says, over_tables, output_after}
use Rattle.brackets.specs.Reached.{ReachedPut}
use Rattle.calls.specs.Held.{held_said, Held}
use Rattle.calls.specs.Reaching.{reached_by, reached_at, reached_said, ReachedSays}
use Rattle.calls.proofs.Laws.{refused_law, answers}
use Rattle.calls.proofs.SingleLaws.{bracket_at_lem, no_bracket_lem}

module _ (bs : List ℕ) (ns : List ℤ) (i : ℕ) (out : List ℕ) where
  said_so : (r : Result ℕ Refusal) (out' : List ℕ) {s : Said ℕ} → reached_said bs ns i out ≡ s → says r ≡ s
      → out' ≡ output_after s (reached_by (tables_in bs ns) i) out → ReachedSays bs ns i out r out'
  said_so r out' {s} e f g =
      record { says = f ∙ sym e; after = g ∙ ap (λ z. output_after z (reached_by (tables_in bs ns) i) out) (sym e) }

  pub short_slice : length out < position_limit → ReachedSays bs ns i out (Err (record { reason = ShortArea; place = 0 })) out
  short_slice h = said_so (Err (record { reason = ShortArea; place = 0 })) out {s = refuses 13 0} (rw (lt-ltb (length out) position_limit h)) refl refl

  -- a slice that is long enough
  module _ (h : position_limit ≤ length out) where
    long_slice : reached_said bs ns i out ≡ over_tables bs ns (λ t. reached_at t i)
    long_slice = rw (le-ltb (length out) position_limit h)

    pub no_reach : (e : Refusal) → says (Err e) ≡ held_said bs ns → ReachedSays bs ns i out (Err e) out
    no_reach e h = said_so (Err e) out (long_slice ∙ sym (refused_law bs ns h (λ t. reached_at t i))) refl refl

    -- areas that hold tables
    module _ {b : List ℕ} {n : List ℤ} (held : Held bs ns b n) {k : ℕ} (e : k ≡ brackets_field b) where
      pub reach_17 : k ≤ i → ReachedSays bs ns i out (Err (record { reason = NotFound; place = 0 })) out
      reach_17 l =
          said_so (Err (record { reason = NotFound; place = 0 })) out {s = refuses 17 0}
          (long_slice ∙ answers (λ t. reached_at t i) held
          ∙ ap (λ k. given k (λ z. good (length (reached (tables_in b n) z))) (refuses 17 0)) (no_bracket_lem b n i (omega (arith, e, l))))
          refl refl

      pub reach_found : {m : ℕ} {out' : List ℕ} → i < k → ReachedPut b i m out out' → ReachedSays bs ns i out (Ok m) out'
      reach_found {m} {out'} l p =
          let at = bracket_at_lem b n i (omega (arith, e, l)) in
          said_so (Ok m) out' {s = good m}
          (long_slice ∙ answers (λ t. reached_at t i) held
          ∙ ap (λ k. given k (λ z. good (length (reached (tables_in b n) z))) (refuses 17 0)) at ∙ ap good (sym (p.many n)))
          refl
          (p.put n ∙ ap (λ k. laid (given k (reached (tables_in b n)) []) out) (sym at) ∙ ap (λ t. laid (reached_by t i) out) held.same)
