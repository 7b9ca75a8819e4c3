-- The contracts that the promises speak of are those of the calls: what each call asks is nothing, and what it ensures is, as it stands, the relation of that name.
use Rattle.std.specs.Prelude.{◌≡◌, refl, List, ℕ, ℤ}
use seplogic.Ra.Ura.{Ura}
use base.Logic.{SProp}
use prog.Memory.{Memory}
use prog.Routine.{Routine}
use types.Logic.{Logic}
use contract.Lifetimes.{Lfts}
use contract.Monad.{Fun, fact}
use contract.Notation.{connectives}
use Rattle.std.specs.Borrow.{Bor, MutBor}
use Rattle.scope.specs.declared.answers.Placement.{Placement}
use Rattle.scope.specs.declared.answers.Listing.{Listing}
use Rattle.scope.specs.declared.answers.Site.{Site}
use Rattle.scope.specs.Answers.{residue_count, bracket_count, floater_count}
use Rattle.reader.specs.ReadSays.{ReadSays}
use Rattle.calls.specs.Writing.{WriteSays}
use Rattle.calls.specs.Floating.{FloatersSay}
use Rattle.calls.specs.Reaching.{ReachedSays}
use Rattle.calls.specs.Says.{CountSays, TotalSays, BracketMassSays, ShownSays, AllowedSays, NextSays, LedgerSays}
use Rattle.rows.specs.Says.{LookupSays}
use Rattle.listing.specs.Says.{RowsSays, StepSays}
use Rattle.verdict.specs.Says.{VerdictSays}
use Rattle.glycans.specs.Pieces.{PiecesSay}
use Rattle.keeping.specs.Says.{EmptySays, AddSays, FetchSays, RemoveSays, EntrySays, SurveySays}
use Rattle.glycans.specs.contracts.pieces as pieces
use Rattle.verdict.specs.contracts.verdict_on as verdict-on
use Rattle.reader.specs.contracts.read as read
use Rattle.calls.specs.contracts.write as write
use Rattle.calls.specs.contracts.residue_count as residue-count
use Rattle.calls.specs.contracts.bracket_count as bracket-count
use Rattle.calls.specs.contracts.floater_count as floater-count
use Rattle.calls.specs.contracts.total as total
use Rattle.calls.specs.contracts.bracket_mass as bracket_mass
use Rattle.calls.specs.contracts.why_none as why_none_lem
use Rattle.calls.specs.Competing.{WhySays}
use Rattle.calls.specs.contracts.floater_brackets as floater_brackets
use Rattle.calls.specs.contracts.reached as reached
use Rattle.calls.specs.contracts.shown as shown
use Rattle.calls.specs.contracts.is_allowed as is_allowed
use Rattle.calls.specs.contracts.next_placement as next_placement_lem
use Rattle.calls.specs.contracts.ledger as ledger
use Rattle.rows.specs.contracts.first_row as first_row_lem
use Rattle.listing.specs.contracts.rows as rows
use Rattle.listing.specs.contracts.step as step
use Rattle.keeping.specs.contracts.empty as empty
use Rattle.keeping.specs.contracts.add as add
use Rattle.keeping.specs.contracts.fetch as fetch
use Rattle.keeping.specs.contracts.remove as remove
use Rattle.keeping.specs.contracts.entry_from as entry_from
use Rattle.keeping.specs.contracts.survey as survey

module _ {M : Type 1} {𝓤 : Ura M} (𝓛 : Logic 𝓤) (mem : Memory → SProp 𝓤) (run : Routine → Fun 𝓤) where
  -- nothing is asked
  abbrev Nothing : SProp 𝓤
  Nothing = (connectives 𝓤).⊤ₛ

  -- calls over two areas, which they only read
  module _ (κs : Lfts 2) (x : Bor (List ℕ)) (y : Bor (List ℤ)) where
    pub residue_count_is : ((residue-count.clauses 𝓛 mem run κs (x, (y, tt))).requires ≡ (λ g. Nothing)) × ((residue-count.clauses 𝓛 mem run κs (x, (y, tt))).ensures ≡ (λ g r end. fact 𝓤 (CountSays residue_count x.now y.now r)))
    residue_count_is = (refl, refl)

    pub bracket_count_is : ((bracket-count.clauses 𝓛 mem run κs (x, (y, tt))).requires ≡ (λ g. Nothing)) × ((bracket-count.clauses 𝓛 mem run κs (x, (y, tt))).ensures ≡ (λ g r end. fact 𝓤 (CountSays bracket_count x.now y.now r)))
    bracket_count_is = (refl, refl)

    pub floater_count_is : ((floater-count.clauses 𝓛 mem run κs (x, (y, tt))).requires ≡ (λ g. Nothing)) × ((floater-count.clauses 𝓛 mem run κs (x, (y, tt))).ensures ≡ (λ g r end. fact 𝓤 (CountSays floater_count x.now y.now r)))
    floater_count_is = (refl, refl)

    pub total_is : ((total.clauses 𝓛 mem run κs (x, (y, tt))).requires ≡ (λ g. Nothing)) × ((total.clauses 𝓛 mem run κs (x, (y, tt))).ensures ≡ (λ g r end. fact 𝓤 (TotalSays x.now y.now r)))
    total_is = (refl, refl)

    pub shown_is : ((shown.clauses 𝓛 mem run κs (x, (y, tt))).requires ≡ (λ g. Nothing)) × ((shown.clauses 𝓛 mem run κs (x, (y, tt))).ensures ≡ (λ g r end. fact 𝓤 (ShownSays x.now y.now r)))
    shown_is = (refl, refl)

    pub why_none_is : ((why_none_lem.clauses 𝓛 mem run κs (x, (y, tt))).requires ≡ (λ g. Nothing)) × ((why_none_lem.clauses 𝓛 mem run κs (x, (y, tt))).ensures ≡ (λ g r end. fact 𝓤 (WhySays x.now y.now r)))
    why_none_is = (refl, refl)

    pub bracket_mass_is : (i : ℕ) → ((bracket_mass.clauses 𝓛 mem run κs (x, (y, (i, tt)))).requires ≡ (λ g. Nothing)) × ((bracket_mass.clauses 𝓛 mem run κs (x, (y, (i, tt)))).ensures ≡ (λ g r end. fact 𝓤 (BracketMassSays x.now y.now i r)))
    bracket_mass_is i = (refl, refl)

    -- and a placement or a listing by value
    pub is_allowed_is : (p : Placement) → ((is_allowed.clauses 𝓛 mem run κs (x, (y, (p, tt)))).requires ≡ (λ g. Nothing)) × ((is_allowed.clauses 𝓛 mem run κs (x, (y, (p, tt)))).ensures ≡ (λ g r end. fact 𝓤 (AllowedSays x.now y.now p r)))
    is_allowed_is p = (refl, refl)

    pub ledger_is : (p : Placement) → ((ledger.clauses 𝓛 mem run κs (x, (y, (p, tt)))).requires ≡ (λ g. Nothing)) × ((ledger.clauses 𝓛 mem run κs (x, (y, (p, tt)))).ensures ≡ (λ g r end. fact 𝓤 (LedgerSays x.now y.now p r)))
    ledger_is p = (refl, refl)

    pub next_placement_is : (l : Listing) → ((next_placement_lem.clauses 𝓛 mem run κs (x, (y, (l, tt)))).requires ≡ (λ g. Nothing)) × ((next_placement_lem.clauses 𝓛 mem run κs (x, (y, (l, tt)))).ensures ≡ (λ g r end. fact 𝓤 (NextSays x.now y.now l r)))
    next_placement_is l = (refl, refl)

  -- calls that are lent something to write to, which ends as said
  module _ (κs : Lfts 3) (x : Bor (List ℕ)) (y : Bor (List ℤ)) where
    pub write_is : (out : MutBor (List ℕ)) → ((write.clauses 𝓛 mem run κs (x, (y, (out, tt)))).requires ≡ (λ g. Nothing)) × ((write.clauses 𝓛 mem run κs (x, (y, (out, tt)))).ensures ≡ (λ g r end. fact 𝓤 (WriteSays x.now y.now out.now r end.1.1.0.now)))
    write_is out = (refl, refl)

    pub reached_is : (i : ℕ) (out : MutBor (List ℕ)) → ((reached.clauses 𝓛 mem run κs (x, (y, (i, (out, tt))))).requires ≡ (λ g. Nothing)) × ((reached.clauses 𝓛 mem run κs (x, (y, (i, (out, tt))))).ensures ≡ (λ g r end. fact 𝓤 (ReachedSays x.now y.now i out.now r end.1.1.1.0.now)))
    reached_is i out = (refl, refl)

    pub rows_is : (room : MutBor (List Site)) → ((rows.clauses 𝓛 mem run κs (x, (y, (room, tt)))).requires ≡ (λ g. Nothing)) × ((rows.clauses 𝓛 mem run κs (x, (y, (room, tt)))).ensures ≡ (λ g r end. fact 𝓤 (RowsSays x.now y.now room.now r end.1.1.0.now)))
    rows_is room = (refl, refl)

    pub step_is : (l : MutBor Listing) → ((step.clauses 𝓛 mem run κs (x, (y, (l, tt)))).requires ≡ (λ g. Nothing)) × ((step.clauses 𝓛 mem run κs (x, (y, (l, tt)))).ensures ≡ (λ g r end. fact 𝓤 (StepSays x.now y.now l.now r end.1.1.0.now)))
    step_is l = (refl, refl)

  pub read_is : (κs : Lfts 3) (s : Bor (List ℕ)) (x : MutBor (List ℕ)) (y : MutBor (List ℤ)) → ((read.clauses 𝓛 mem run κs (s, (x, (y, tt)))).requires ≡ (λ g. Nothing)) × ((read.clauses 𝓛 mem run κs (s, (x, (y, tt)))).ensures ≡ (λ g r end. fact 𝓤 (ReadSays s.now x.now y.now r end.1.0.now end.1.1.0.now)))
  read_is κs s x y = (refl, refl)

  pub verdict_is : (κs : Lfts 1) (s : Bor (List ℕ)) → ((verdict-on.clauses 𝓛 mem run κs (s, tt)).requires ≡ (λ g. Nothing)) × ((verdict-on.clauses 𝓛 mem run κs (s, tt)).ensures ≡ (λ g r end. fact 𝓤 (VerdictSays s.now r)))
  verdict_is κs s = (refl, refl)

  pub first_row_is : (κs : Lfts 1) (rs : Bor (List Site)) (n f : ℕ) → ((first_row_lem.clauses 𝓛 mem run κs (rs, (n, (f, tt)))).requires ≡ (λ g. Nothing)) × ((first_row_lem.clauses 𝓛 mem run κs (rs, (n, (f, tt)))).ensures ≡ (λ g r end. fact 𝓤 (LookupSays rs.now n f r)))
  first_row_is κs rs n f = (refl, refl)

  pub floater_brackets_is : (κs : Lfts 4) (x : Bor (List ℕ)) (y : Bor (List ℤ)) (b c : MutBor (List ℕ)) → ((floater_brackets.clauses 𝓛 mem run κs (x, (y, (b, (c, tt))))).requires ≡ (λ g. Nothing)) × ((floater_brackets.clauses 𝓛 mem run κs (x, (y, (b, (c, tt))))).ensures ≡ (λ g r end. fact 𝓤 (FloatersSay x.now y.now b.now c.now r end.1.1.0.now end.1.1.1.0.now)))
  floater_brackets_is κs x y b c = (refl, refl)

  pub pieces_is : (κs : Lfts 2) (t : Bor (List ℕ)) (out : MutBor (List ℕ)) → ((pieces.clauses 𝓛 mem run κs (t, (out, tt))).requires ≡ (λ g. Nothing)) × ((pieces.clauses 𝓛 mem run κs (t, (out, tt))).ensures ≡ (λ g r end. fact 𝓤 (PiecesSay t.now out.now r end.1.0.now)))
  pieces_is κs t out = (refl, refl)

  -- calls over an area of blocks
  pub empty_is : (κs : Lfts 1) (a : MutBor (List ℕ)) → ((empty.clauses 𝓛 mem run κs (a, tt)).requires ≡ (λ g. Nothing)) × ((empty.clauses 𝓛 mem run κs (a, tt)).ensures ≡ (λ g r end. fact 𝓤 (EmptySays a.now r end.0.now)))
  empty_is κs a = (refl, refl)

  pub add_is : (κs : Lfts 2) (a : MutBor (List ℕ)) (n : ℕ) (p : Placement) (s : Bor (List ℕ)) → ((add.clauses 𝓛 mem run κs (a, (n, (p, (s, tt))))).requires ≡ (λ g. Nothing)) × ((add.clauses 𝓛 mem run κs (a, (n, (p, (s, tt))))).ensures ≡ (λ g r end. fact 𝓤 (AddSays a.now n p s.now r end.0.now)))
  add_is κs a n p s = (refl, refl)

  pub fetch_is : (κs : Lfts 2) (a : Bor (List ℕ)) (n : ℕ) (out : MutBor (List ℕ)) → ((fetch.clauses 𝓛 mem run κs (a, (n, (out, tt)))).requires ≡ (λ g. Nothing)) × ((fetch.clauses 𝓛 mem run κs (a, (n, (out, tt)))).ensures ≡ (λ g r end. fact 𝓤 (FetchSays a.now n out.now r end.1.1.0.now)))
  fetch_is κs a n out = (refl, refl)

  pub remove_is : (κs : Lfts 1) (a : MutBor (List ℕ)) (n : ℕ) → ((remove.clauses 𝓛 mem run κs (a, (n, tt))).requires ≡ (λ g. Nothing)) × ((remove.clauses 𝓛 mem run κs (a, (n, tt))).ensures ≡ (λ g r end. fact 𝓤 (RemoveSays a.now n r end.0.now)))
  remove_is κs a n = (refl, refl)

  pub entry_from_is : (κs : Lfts 1) (a : Bor (List ℕ)) (from : ℕ) → ((entry_from.clauses 𝓛 mem run κs (a, (from, tt))).requires ≡ (λ g. Nothing)) × ((entry_from.clauses 𝓛 mem run κs (a, (from, tt))).ensures ≡ (λ g r end. fact 𝓤 (EntrySays a.now from r)))
  entry_from_is κs a from = (refl, refl)

  pub survey_is : (κs : Lfts 1) (a : Bor (List ℕ)) → ((survey.clauses 𝓛 mem run κs (a, tt)).requires ≡ (λ g. Nothing)) × ((survey.clauses 𝓛 mem run κs (a, tt)).ensures ≡ (λ g r end. fact 𝓤 (SurveySays a.now r)))
  survey_is κs a = (refl, refl)
