-- Why there is no placement: 13 and 14 with no set named, else the set that is meant.
use mathlib.Core.Path.{◌≡◌, sym, ap, ap₂, ◌∙◌, subst}
use mathlib.Core.List.{List}
use Prim.Native.Nat.{ℕ}
use lib.IntN.{ℤ}
use lib.ListN.{length, replicate}
use Rattle.std.specs.Prelude.{Result, Ok, Err}
use Rattle.scope.specs.declared.refusals.Refusal.{Refusal}
use Rattle.scope.specs.declared.answers.Why.{Why}
use Rattle.scope.specs.Limits.{copy_limit}
use Rattle.scope.specs.Layout.{tables_in}
use Rattle.scope.specs.Positions.{Floating, floating_of}
use Rattle.scope.specs.Reasons.{Reason}
use Rattle.scope.specs.Answers.{good, says}
use Rattle.placement_laws.specs.Answered.{some_reason}
use Rattle.reason.specs.Named.{Competing}
use Rattle.areas.specs.Floats.{floating_in}
use Rattle.calls.specs.Held.{held_said, Held}
use Rattle.calls.specs.Competing.{told_of, Competes, WhySays}
use Rattle.calls.proofs.Laws.{refused_law, answers}

module _ (bs : List ℕ) (ns : List ℤ) where
  abbrev floats : Floating
  floats = floating_of (tables_in bs ns)

  pub why_refused : (e : Refusal) → says (Err e) ≡ held_said bs ns → WhySays bs ns (Err e)
  why_refused e h =
      let z = some_reason floats in
      record { set = z.0; reason = z.1; says = refused_law bs ns h (λ t. good (told_of z.0)) }

  pub why_said : {b : List ℕ} {n : List ℤ} {r : Why} → Held bs ns b n → Competes (floating_of (tables_in b n)) r → WhySays bs ns (Ok r)
  why_said h c =
      record {
        set = c.set;
        reason = subst (λ t. Reason (floating_of t) c.set) h.same c.reason;
        says = ap good c.told ∙ sym (answers (λ t. good (told_of c.set)) h);
      }

-- by the table that holds what floats
pub competes_in : (tab copy : List ℕ) (k : ℕ) {n : ℕ} {at : List ℕ} {f : Floating} → floating_in tab copy k ≡ f → Competing tab k n at → Competes f (record { count = n; at = at })
competes_in tab copy k {n} {at} e c =
    record { set = c.set; reason = subst (λ g. Reason g c.set) e (c.reason _); told = ap₂ (λ m l. record { count = m; at = l }) c.named.many c.named.names }
