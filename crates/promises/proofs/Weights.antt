-- Demand 3 of masses, and what is counted: the total, the ledger and the display agree, and all are what the line means.
use Rattle.std.specs.Prelude.{◌≡◌, refl, ◌↔◌, Bool, true, false, cond, List, ℕ, eqb, ℤ, ◌+ℤ◌, length, Result}
use Rattle.std.proofs.Common.{sym, ap, ◌∙◌, subst, eq-eqb, ne_eqb}
use Rattle.scope.specs.declared.answers.Shown.{Shown}
use Rattle.scope.specs.declared.answers.Placement.{Placement}
use Rattle.scope.specs.declared.answers.Ledger.{Ledger}
use Rattle.scope.specs.Lists.{laid}
use Rattle.scope.specs.Tables.{Tables}
use Rattle.scope.specs.Layout.{bytes_of, tables_in}
use Rattle.scope.specs.Positions.{floaters, floating_of}
use Rattle.scope.specs.Placements.{allowed}
use Rattle.scope.specs.Masses.{sum, total, lacking, ledger, labile_mass, daltons}
use Rattle.scope.specs.Answers.{Said, good, refuses, of_good, display_of, too_short, are_tables, over_tables, residue_count, bracket_count, floater_count, weighed, allowable, bookable, says, a_mass, lack, says_shown}
use Rattle.scope.specs.Grammar.{Spelling}
use Rattle.layout_laws.proofs.Laws.{tables_held}
use Rattle.placement_laws.specs.Terms.{Orderly}
use Rattle.placement_laws.specs.Laws as placing
use Rattle.laws.specs.Demands as laws
use Rattle.laws.proofs.Proved.{demands}
use Rattle.calls.specs.Says.{TotalSays, ShownSays, AllowedSays, LedgerSays}
use Rattle.promises.specs.Promises.{meant, Reckoned}
use Rattle.basics.specs.Said.{not_both, same_good, same_place}
use Rattle.promises.proofs.Said.{not_lack, same_lack}
use Rattle.promises.proofs.Readers.{WasRead, held_after}
use Rattle.scope.specs.declared.refusals.Refusal.{Refusal}

-- areas that every call takes
pub record AreasTaken (bs : List ℕ) (ns : List ℤ) : Type 0 where
  pub long_enough : too_short bs ns ≡ false
  pub taken : are_tables bs ns ≡ true

-- those that a line was read into are
pub taken_after : {s bs : List ℕ} {ns : List ℤ} {bs' : List ℕ} {ns' : List ℤ} → WasRead s bs ns bs' ns' → AreasTaken bs' ns'
taken_after r = let h = held_after r in record { long_enough = h.long_enough; taken = h.taken }

-- what a call says itself
pub says_itself : {A : Type 0} {bs : List ℕ} {ns : List ℤ} → AreasTaken bs ns → (f : Tables → Said A) → over_tables bs ns f ≡ f (tables_in bs ns)
says_itself h f = rw (h.long_enough, h.taken)

-- an allowed placement is what `is_allowed` says is one
said_allowed : (b : Bool) → good (tt {0}) ≡ cond b (good (tt {0})) (refuses 18 0) → b ≡ true
said_allowed true e = refl
said_allowed false e = absurd (not_both e)

pub is_allowed : {bs : List ℕ} {ns : List ℤ} → AreasTaken bs ns → (p : Placement) (r : Result (Unit {0}) Refusal) → AllowedSays bs ns p r
    → (allowed (floating_of (tables_in bs ns)) p.at ≡ true) ↔ (says r ≡ good tt)
is_allowed {bs} {ns} h p r w =
    let answered : says r ≡ allowable (tables_in bs ns) p.at = w ∙ says_itself h (λ t. allowable t p.at) in (
      (λ e. answered ∙ ap (λ b. cond b (good tt) (refuses 18 0)) e),
      (λ e. said_allowed (allowed (floating_of (tables_in bs ns)) p.at) (sym e ∙ answered)),
    )

-- what floats of the tables in them is orderly
pub orderly : {bs : List ℕ} {ns : List ℤ} → AreasTaken bs ns → Orderly (floating_of (tables_in bs ns))
orderly {bs} {ns} h = placing.line_orderly (tables_in bs ns) (tables_held bs ns h.taken).1.tables_within.few_copies

-- ---- the total and the display
weighed_so : (b : Bool) (x m : ℤ) (k : ℕ) → cond b (good x) (refuses 16 k) ≡ good m → (b ≡ true) × (x ≡ m)
weighed_so true x m k e = (refl, same_good e)
weighed_so false x m k e = absurd (not_both (sym e))

lack_so : (b : Bool) (x : ℤ) (k n : ℕ) → (good (cond b (a_mass (daltons x)) (lack k)) ≡ good (lack n)) ↔ (cond b (good x) (refuses 16 k) ≡ refuses 16 n)
lack_so true x k n = ((λ e. absurd (not_lack (same_good e))), (λ e. absurd (not_both e)))
lack_so false x k n = ((λ e. ap (refuses 16) (same_lack (same_good e))), (λ e. ap (λ z. good (lack z)) (same_place e)))

module _ (bs : List ℕ) (ns : List ℤ) (h : AreasTaken bs ns) where
  abbrev t : Tables
  t = tables_in bs ns

  pub total_said : (q : Result ℤ Refusal) → TotalSays bs ns q → says q ≡ weighed t (total t)
  total_said q w = w ∙ says_itself h (λ t. weighed t (total t))

  pub total_so : (m : ℤ) (q : Result ℤ Refusal) → TotalSays bs ns q → says q ≡ good m → (eqb (lacking t) 0 ≡ true) × (total t ≡ m)
  total_so m q w e = weighed_so (eqb (lacking t) 0) (total t) m (lacking t) (sym (total_said q w) ∙ e)

  pub shown_said : (r : Shown) → ShownSays bs ns r → says_shown r ≡ good (display_of t)
  shown_said r w = w ∙ says_itself h (λ t. good (display_of t))

  pub displays : (m : ℤ) (q : Result ℤ Refusal) → TotalSays bs ns q → says q ≡ good m → (r : Shown) → ShownSays bs ns r → says_shown r ≡ good (a_mass (daltons m))
  displays m q w e r v =
      let k = total_so m q w e in
      shown_said r v ∙ ap (λ b. good (cond b (a_mass (daltons (total t))) (lack (lacking t)))) k.0 ∙ ap (λ x. good (a_mass (daltons x))) k.1

  pub lacks : (n : ℕ) (q : Result ℤ Refusal) → TotalSays bs ns q → (r : Shown) → ShownSays bs ns r → (says_shown r ≡ good (lack n)) ↔ (says q ≡ refuses 16 n)
  lacks n q w r v =
      let k = lack_so (eqb (lacking t) 0) (total t) (lacking t) n in
      ((λ e. total_said q w ∙ k.0 (sym (shown_said r v) ∙ e)), (λ e. shown_said r v ∙ k.1 (sym (total_said q w) ∙ e)))

  -- ---- the ledger
  pub adds_up : (m : ℤ) (q : Result ℤ Refusal) → TotalSays bs ns q → says q ≡ good m → (p : Placement) (a : Result (Unit {0}) Refusal) → AllowedSays bs ns p a → says a ≡ good tt
      → (r : Result Ledger Refusal) → LedgerSays bs ns p r → (es : Ledger) × ((says r ≡ good es) × (sum es.at +ℤ labile_mass t ≡ m))
  adds_up m q w e p a v f r l =
      let k = total_so m q w e in
      let ok = (is_allowed h p a v).1 f in (
        record { at = ledger t p.at },
        (
          l
              ∙ ap (of_good (λ x. record { at = ledger t p.at }))
              (says_itself h (λ t. bookable t p.at) ∙ ap (λ b. cond b (allowable t p.at) (refuses 16 (lacking t))) k.0 ∙ ap (λ b. cond b (good tt) (refuses 18 0)) ok),
          (demands.demand_3_in bs ns h.taken).adds_up p.at ok ∙ k.1,
        ),
      )

-- ---- what the line means
answers_after : {s bs : List ℕ} {ns : List ℤ} {bs' : List ℕ} {ns' : List ℤ} → (r : WasRead s bs ns bs' ns') → laws.SameAnswers r.line (tables_in bs' ns')
answers_after {s} {bs} {ns} {bs'} {ns'} r =
    subst (λ b. laws.SameAnswers r.line (tables_in b ns')) (sym r.bytes)
    (subst (λ n. laws.SameAnswers r.line (tables_in (laid (bytes_of r.line) bs) n)) (sym r.numbers) (demands.answers s r.line r.reads bs ns))

pub reckoned : {s bs : List ℕ} {ns : List ℤ} {bs' : List ℕ} {ns' : List ℤ} → (r : WasRead s bs ns bs' ns') → AreasTaken bs' ns' → (t : Spelling) → r.line ≡ meant t
    → Reckoned t bs' ns'
reckoned {bs' = bs'} {ns' = ns'} r h t e =
    let a = answers_after r in
    let lacked : lacking (tables_in bs' ns') ≡ lacking (meant t) = a.missing ∙ ap lacking e in
    record {
      residues = λ q w. w ∙ says_itself h (λ t. good (residue_count t)) ∙ ap good a.residues ∙ ap (λ l. good (length l.residues)) e;
      brackets = λ q w. w ∙ says_itself h (λ t. good (bracket_count t)) ∙ ap good a.brackets ∙ ap (λ l. good (length l.brackets)) e;
      floating = λ q w. w ∙ says_itself h (λ t. good (floater_count t)) ∙ ap good a.floating ∙ ap (λ l. good (length (floaters l))) e;
      mass = λ q w z.
          total_said bs' ns' h q w ∙ ap (λ b. cond b (good (total (tables_in bs' ns'))) (refuses 16 (lacking (tables_in bs' ns')))) (eq-eqb (lacking (tables_in bs' ns')) 0 (lacked ∙ z))
          ∙ ap good (a.whole ∙ ap total e);
      missing = λ q w z.
          total_said bs' ns' h q w ∙ ap (λ b. cond b (good (total (tables_in bs' ns'))) (refuses 16 (lacking (tables_in bs' ns')))) (ne_eqb (lacking (tables_in bs' ns')) 0 (λ y. z (sym lacked ∙ y)))
          ∙ ap (refuses 16) lacked;
    }
