-- The contracts that the promises for C speak of are those of the calls of crates/export, which export_c exports under their names with the same clauses (its proofs/Linked.antt): each asks nothing, and ensures, as it stands, the relation of that name.
use Rattle.std.specs.Prelude.{◌≡◌, refl, List, ℕ, ℤ, Float}
use seplogic.Ra.Ura.{Ura}
use base.Logic.{SProp}
use prog.Memory.{Memory}
use prog.Routine.{Routine}
use types.Logic.{Logic}
use contract.Lifetimes.{Lfts}
use contract.Monad.{Fun, fact}
use contract.Notation.{connectives}
use Rattle.std.specs.Borrow.{Bor, MutBor}
use Rattle.scope.specs.declared.answers.Listing.{Listing}
use Rattle.scope.specs.declared.answers.Site.{Site}
use Rattle.scope.specs.Answers.{counts, residue_count, bracket_count, floater_count, totals, shows, looks_up}
use Rattle.calls.specs.Single.{weighs_at}
use Rattle.export.specs.Numbers.{Judged, Exported}
use Rattle.export.specs.Handed.{Counted, RowsHanded, LookedUp, MovedOn}
use Rattle.export.specs.Shapes.{Written, Totalled, Massed, Displayed, AllowedLent, FloatersHanded, WhyHanded, ReachedHanded, PiecesHanded, ReadEntered}
use Rattle.blocks.specs.Answers.{listed_from, survey_said}
use Rattle.export.specs.Blocks.{EmptyHanded, AddHanded, FetchHanded, RemoveHanded, HeadHanded, Surveyed}
use Rattle.export.specs.contracts.hwemiduk_verdict as verdict
use Rattle.export.specs.contracts.hwemiduk_read as read
use Rattle.export.specs.contracts.hwemiduk_composition as composition
use Rattle.export.specs.contracts.tables.hwemiduk_residues as residues
use Rattle.export.specs.contracts.tables.hwemiduk_brackets as brackets
use Rattle.export.specs.contracts.tables.hwemiduk_floaters as floaters
use Rattle.export.specs.contracts.tables.hwemiduk_write as write
use Rattle.export.specs.contracts.tables.hwemiduk_total as total
use Rattle.export.specs.contracts.tables.hwemiduk_bracket_mass as bracket_mass
use Rattle.export.specs.contracts.tables.hwemiduk_floater_brackets as floater_brackets
use Rattle.export.specs.contracts.tables.hwemiduk_why_none as why_none_lem
use Rattle.export.specs.contracts.tables.hwemiduk_reached as reached
use Rattle.export.specs.contracts.tables.hwemiduk_shown as shown
use Rattle.export.specs.contracts.tables.hwemiduk_allowed as allowed
use Rattle.export.specs.contracts.tables.hwemiduk_ledger as ledger
use Rattle.export.specs.contracts.handed.hwemiduk_next as next
use Rattle.export.specs.contracts.handed.hwemiduk_rows as rows
use Rattle.export.specs.contracts.handed.hwemiduk_first_row as first_row_lem
use Rattle.export.specs.contracts.kept.hwemiduk_blocks_empty as empty
use Rattle.export.specs.contracts.kept.hwemiduk_blocks_add as add
use Rattle.export.specs.contracts.kept.hwemiduk_blocks_fetch as fetch
use Rattle.export.specs.contracts.kept.hwemiduk_blocks_remove as remove
use Rattle.export.specs.contracts.kept.hwemiduk_blocks_entry as entry
use Rattle.export.specs.contracts.kept.hwemiduk_blocks_survey as survey

module _ {M : Type 1} {𝓤 : Ura M} (𝓛 : Logic 𝓤) (mem : Memory → SProp 𝓤) (run : Routine → Fun 𝓤) where
  -- nothing is asked
  abbrev Nothing : SProp 𝓤
  Nothing = (connectives 𝓤).⊤ₛ

  pub verdict_is : (κs : Lfts 2) (s : Bor (List ℕ)) (p : MutBor ℕ) → ((verdict.clauses 𝓛 mem run κs (s, (p, tt))).requires ≡ (λ g. Nothing)) × ((verdict.clauses 𝓛 mem run κs (s, (p, tt))).ensures ≡ (λ g r end. fact 𝓤 (Judged s.now p.now r end.1.0.now)))
  verdict_is κs s p = (refl, refl)

  pub read_is : (κs : Lfts 4) (s : Bor (List ℕ)) (bs : MutBor (List ℕ)) (ns : MutBor (List ℤ)) (p : MutBor ℕ) → ((read.clauses 𝓛 mem run κs (s, (bs, (ns, (p, tt))))).requires ≡ (λ g. Nothing)) × ((read.clauses 𝓛 mem run κs (s, (bs, (ns, (p, tt))))).ensures ≡ (λ g r end. fact 𝓤 (Exported s.now bs.now ns.now p.now r end.1.1.1.0.now end.1.0.now end.1.1.0.now)))
  read_is κs s bs ns p = (refl, refl)

  pub total_is : (κs : Lfts 4) (bs : Bor (List ℕ)) (ns : Bor (List ℤ)) (m : MutBor ℤ) (p : MutBor ℕ) → ((total.clauses 𝓛 mem run κs (bs, (ns, (m, (p, tt))))).requires ≡ (λ g. Nothing)) × ((total.clauses 𝓛 mem run κs (bs, (ns, (m, (p, tt))))).ensures ≡ (λ g r end. fact 𝓤 (Totalled (totals bs.now ns.now) m.now p.now r end.1.1.0.now end.1.1.1.0.now)))
  total_is κs bs ns m p = (refl, refl)

  pub next_is : (κs : Lfts 3) (bs : Bor (List ℕ)) (ns : Bor (List ℤ)) (l : MutBor Listing) → ((next.clauses 𝓛 mem run κs (bs, (ns, (l, tt)))).requires ≡ (λ g. Nothing)) × ((next.clauses 𝓛 mem run κs (bs, (ns, (l, tt)))).ensures ≡ (λ g r end. fact 𝓤 (MovedOn bs.now ns.now l.now r end.1.1.0.now)))
  next_is κs bs ns l = (refl, refl)

  pub residues_is : (κs : Lfts 3) (bs : Bor (List ℕ)) (ns : Bor (List ℤ)) (c : MutBor ℕ) → ((residues.clauses 𝓛 mem run κs (bs, (ns, (c, tt)))).requires ≡ (λ g. Nothing)) × ((residues.clauses 𝓛 mem run κs (bs, (ns, (c, tt)))).ensures ≡ (λ g r end. fact 𝓤 (Counted (counts bs.now ns.now residue_count) c.now r end.1.1.0.now)))
  residues_is κs bs ns c = (refl, refl)

  pub brackets_is : (κs : Lfts 3) (bs : Bor (List ℕ)) (ns : Bor (List ℤ)) (c : MutBor ℕ) → ((brackets.clauses 𝓛 mem run κs (bs, (ns, (c, tt)))).requires ≡ (λ g. Nothing)) × ((brackets.clauses 𝓛 mem run κs (bs, (ns, (c, tt)))).ensures ≡ (λ g r end. fact 𝓤 (Counted (counts bs.now ns.now bracket_count) c.now r end.1.1.0.now)))
  brackets_is κs bs ns c = (refl, refl)

  pub floaters_is : (κs : Lfts 3) (bs : Bor (List ℕ)) (ns : Bor (List ℤ)) (c : MutBor ℕ) → ((floaters.clauses 𝓛 mem run κs (bs, (ns, (c, tt)))).requires ≡ (λ g. Nothing)) × ((floaters.clauses 𝓛 mem run κs (bs, (ns, (c, tt)))).ensures ≡ (λ g r end. fact 𝓤 (Counted (counts bs.now ns.now floater_count) c.now r end.1.1.0.now)))
  floaters_is κs bs ns c = (refl, refl)

  pub write_is : (κs : Lfts 4) (bs : Bor (List ℕ)) (ns : Bor (List ℤ)) (out : MutBor (List ℕ)) (c : MutBor ℕ) → ((write.clauses 𝓛 mem run κs (bs, (ns, (out, (c, tt))))).requires ≡ (λ g. Nothing)) × ((write.clauses 𝓛 mem run κs (bs, (ns, (out, (c, tt))))).ensures ≡ (λ g r end. fact 𝓤 (Written bs.now ns.now out.now c.now r end.1.1.1.0.now end.1.1.0.now)))
  write_is κs bs ns out c = (refl, refl)

  pub shown_is : (κs : Lfts 4) (bs : Bor (List ℕ)) (ns : Bor (List ℤ)) (x : MutBor Float) (k : MutBor ℕ) → ((shown.clauses 𝓛 mem run κs (bs, (ns, (x, (k, tt))))).requires ≡ (λ g. Nothing)) × ((shown.clauses 𝓛 mem run κs (bs, (ns, (x, (k, tt))))).ensures ≡ (λ g r end. fact 𝓤 (Displayed (shows bs.now ns.now) x.now k.now r end.1.1.0.now end.1.1.1.0.now)))
  shown_is κs bs ns x k = (refl, refl)

  pub allowed_is : (κs : Lfts 3) (bs : Bor (List ℕ)) (ns : Bor (List ℤ)) (p : Bor (List ℕ)) → ((allowed.clauses 𝓛 mem run κs (bs, (ns, (p, tt)))).requires ≡ (λ g. Nothing)) × ((allowed.clauses 𝓛 mem run κs (bs, (ns, (p, tt)))).ensures ≡ (λ g r end. fact 𝓤 (AllowedLent bs.now ns.now p.now r)))
  allowed_is κs bs ns p = (refl, refl)

  pub ledger_is : (κs : Lfts 5) (bs : Bor (List ℕ)) (ns : Bor (List ℤ)) (p : Bor (List ℕ)) (es : MutBor (List ℤ)) (k : MutBor ℕ) → ((ledger.clauses 𝓛 mem run κs (bs, (ns, (p, (es, (k, tt)))))).requires ≡ (λ g. Nothing)) × ((ledger.clauses 𝓛 mem run κs (bs, (ns, (p, (es, (k, tt)))))).ensures ≡ (λ g r end. fact 𝓤 (ReadEntered bs.now ns.now p.now es.now k.now r end.1.1.1.1.0.now end.1.1.1.0.now)))
  ledger_is κs bs ns p es k = (refl, refl)

  pub rows_is : (κs : Lfts 4) (bs : Bor (List ℕ)) (ns : Bor (List ℤ)) (room : MutBor (List Site)) (c : MutBor ℕ) → ((rows.clauses 𝓛 mem run κs (bs, (ns, (room, (c, tt))))).requires ≡ (λ g. Nothing)) × ((rows.clauses 𝓛 mem run κs (bs, (ns, (room, (c, tt))))).ensures ≡ (λ g r end. fact 𝓤 (RowsHanded bs.now ns.now room.now c.now r end.1.1.1.0.now end.1.1.0.now)))
  rows_is κs bs ns room c = (refl, refl)

  pub first_row_is : (κs : Lfts 3) (rs : Bor (List Site)) (n f : ℕ) (i x : MutBor ℕ) → ((first_row_lem.clauses 𝓛 mem run κs (rs, (n, (f, (i, (x, tt)))))).requires ≡ (λ g. Nothing)) × ((first_row_lem.clauses 𝓛 mem run κs (rs, (n, (f, (i, (x, tt)))))).ensures ≡ (λ g r end. fact 𝓤 (LookedUp (looks_up rs.now n f) i.now x.now r end.1.1.1.0.now end.1.1.1.1.0.now)))
  first_row_is κs rs n f i x = (refl, refl)

  pub bracket_mass_is : (κs : Lfts 4) (bs : Bor (List ℕ)) (ns : Bor (List ℤ)) (i : ℕ) (m : MutBor ℤ) (p : MutBor ℕ) → ((bracket_mass.clauses 𝓛 mem run κs (bs, (ns, (i, (m, (p, tt)))))).requires ≡ (λ g. Nothing)) × ((bracket_mass.clauses 𝓛 mem run κs (bs, (ns, (i, (m, (p, tt)))))).ensures ≡ (λ g r end. fact 𝓤 (Massed (weighs_at bs.now ns.now i) m.now p.now r end.1.1.1.0.now end.1.1.1.1.0.now)))
  bracket_mass_is κs bs ns i m p = (refl, refl)

  pub floater_brackets_is : (κs : Lfts 5) (bs : Bor (List ℕ)) (ns : Bor (List ℤ)) (b c : MutBor (List ℕ)) (k : MutBor ℕ) → ((floater_brackets.clauses 𝓛 mem run κs (bs, (ns, (b, (c, (k, tt)))))).requires ≡ (λ g. Nothing)) × ((floater_brackets.clauses 𝓛 mem run κs (bs, (ns, (b, (c, (k, tt)))))).ensures ≡ (λ g r end. fact 𝓤 (FloatersHanded bs.now ns.now b.now c.now k.now r end.1.1.1.1.0.now end.1.1.0.now end.1.1.1.0.now)))
  floater_brackets_is κs bs ns b c k = (refl, refl)

  pub why_none_is : (κs : Lfts 4) (bs : Bor (List ℕ)) (ns : Bor (List ℤ)) (f : MutBor (List ℕ)) (c : MutBor ℕ) → ((why_none_lem.clauses 𝓛 mem run κs (bs, (ns, (f, (c, tt))))).requires ≡ (λ g. Nothing)) × ((why_none_lem.clauses 𝓛 mem run κs (bs, (ns, (f, (c, tt))))).ensures ≡ (λ g r end. fact 𝓤 (WhyHanded bs.now ns.now f.now c.now r end.1.1.1.0.now end.1.1.0.now)))
  why_none_is κs bs ns f c = (refl, refl)

  pub reached_is : (κs : Lfts 4) (bs : Bor (List ℕ)) (ns : Bor (List ℤ)) (i : ℕ) (out : MutBor (List ℕ)) (c : MutBor ℕ) → ((reached.clauses 𝓛 mem run κs (bs, (ns, (i, (out, (c, tt)))))).requires ≡ (λ g. Nothing)) × ((reached.clauses 𝓛 mem run κs (bs, (ns, (i, (out, (c, tt)))))).ensures ≡ (λ g r end. fact 𝓤 (ReachedHanded bs.now ns.now i out.now c.now r end.1.1.1.1.0.now end.1.1.1.0.now)))
  reached_is κs bs ns i out c = (refl, refl)

  pub composition_is : (κs : Lfts 3) (t : Bor (List ℕ)) (out : MutBor (List ℕ)) (c : MutBor ℕ) → ((composition.clauses 𝓛 mem run κs (t, (out, (c, tt)))).requires ≡ (λ g. Nothing)) × ((composition.clauses 𝓛 mem run κs (t, (out, (c, tt)))).ensures ≡ (λ g r end. fact 𝓤 (PiecesHanded t.now out.now c.now r end.1.1.0.now end.1.0.now)))
  composition_is κs t out c = (refl, refl)

  -- calls over an area of blocks
  pub empty_is : (κs : Lfts 1) (a : MutBor (List ℕ)) → ((empty.clauses 𝓛 mem run κs (a, tt)).requires ≡ (λ g. Nothing)) × ((empty.clauses 𝓛 mem run κs (a, tt)).ensures ≡ (λ g r end. fact 𝓤 (EmptyHanded a.now r end.0.now)))
  empty_is κs a = (refl, refl)

  pub add_is : (κs : Lfts 4) (a : MutBor (List ℕ)) (n : ℕ) (p s : Bor (List ℕ)) (k : MutBor ℕ) → ((add.clauses 𝓛 mem run κs (a, (n, (p, (s, (k, tt)))))).requires ≡ (λ g. Nothing)) × ((add.clauses 𝓛 mem run κs (a, (n, (p, (s, (k, tt)))))).ensures ≡ (λ g r end. fact 𝓤 (AddHanded a.now n p.now s.now k.now r end.1.1.1.1.0.now end.0.now)))
  add_is κs a n p s k = (refl, refl)

  pub fetch_is : (κs : Lfts 4) (a : Bor (List ℕ)) (n : ℕ) (p out : MutBor (List ℕ)) (c : MutBor ℕ) → ((fetch.clauses 𝓛 mem run κs (a, (n, (p, (out, (c, tt)))))).requires ≡ (λ g. Nothing)) × ((fetch.clauses 𝓛 mem run κs (a, (n, (p, (out, (c, tt)))))).ensures ≡ (λ g r end. fact 𝓤 (FetchHanded a.now n p.now out.now c.now r end.1.1.0.now end.1.1.1.0.now end.1.1.1.1.0.now)))
  fetch_is κs a n p out c = (refl, refl)

  pub remove_is : (κs : Lfts 1) (a : MutBor (List ℕ)) (n : ℕ) → ((remove.clauses 𝓛 mem run κs (a, (n, tt))).requires ≡ (λ g. Nothing)) × ((remove.clauses 𝓛 mem run κs (a, (n, tt))).ensures ≡ (λ g r end. fact 𝓤 (RemoveHanded a.now n r end.0.now)))
  remove_is κs a n = (refl, refl)

  pub entry_is : (κs : Lfts 3) (a : Bor (List ℕ)) (from : ℕ) (b n : MutBor ℕ) → ((entry.clauses 𝓛 mem run κs (a, (from, (b, (n, tt))))).requires ≡ (λ g. Nothing)) × ((entry.clauses 𝓛 mem run κs (a, (from, (b, (n, tt))))).ensures ≡ (λ g r end. fact 𝓤 (HeadHanded (listed_from a.now from) b.now n.now r end.1.1.0.now end.1.1.1.0.now)))
  entry_is κs a from b n = (refl, refl)

  pub survey_is : (κs : Lfts 6) (a : Bor (List ℕ)) (f i u o n : MutBor ℕ) → ((survey.clauses 𝓛 mem run κs (a, (f, (i, (u, (o, (n, tt))))))).requires ≡ (λ g. Nothing)) × ((survey.clauses 𝓛 mem run κs (a, (f, (i, (u, (o, (n, tt))))))).ensures ≡ (λ g r end. fact 𝓤 (Surveyed (survey_said a.now) f.now i.now u.now o.now n.now r end.1.0.now end.1.1.0.now end.1.1.1.0.now end.1.1.1.1.0.now end.1.1.1.1.1.0.now)))
  survey_is κs a f i u o n = (refl, refl)
