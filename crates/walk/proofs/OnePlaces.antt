-- The places of a declaration: what is known at the stage behind their list.
use mathlib.Core.Path.{◌≡◌, refl, sym, ap, subst, ◌∙◌}
use mathlib.Core.List.{List, [], ◌∷◌, ◌++◌, map, append-nil}
use Prim.Native.Nat.{ℕ, ◌+◌, ◌-◌, ◌<◌}
use native.Mathlib.Omega.{arith}
use lib.Dec.{leb}
use lib.ListN.{length, drop, get_or}
use lib.Seq.{length-sets}
use Rattle.basics.specs.Choice.{branch}
use Rattle.basics.specs.Lists.{on_last_lem}
use Rattle.scope.specs.declared.grammar.Mode.TheVariants.{Listed}
use Rattle.scope.specs.declared.grammar.Act.TheVariants.{Places}
use Rattle.scope.specs.Limits.{bracket_limit, place_limit}
use Rattle.scope.specs.Line.{Place, Bracket}
use Rattle.scope.specs.Reading.{Held, declared_at, with_places, perform, reading, stuck}
use Rattle.sites.specs.Says.{place_of, Stand, ListReads}
use Rattle.sites.specs.declared.Listed.{Listed as List-at}
use Rattle.scope.specs.declared.grammar.Stuck.{Stuck}
use Rattle.std.specs.Prelude.{Result, Ok, Err}
use Rattle.sites.specs.Says.{ListSays}
use Rattle.sheet.specs.Rows.{places_from, Noted}
use Rattle.sheet.specs.Fields.{places_at}
use Rattle.dues.specs.Ranks.{code, lowest}
use Rattle.dues.specs.Lines.{over_rank, met_codes}
use Rattle.inside.proofs.Lists.{length_snoc}
use Rattle.sheet.specs.declared.Sheet.{Sheet}
use Rattle.walk.specs.declared.Stage.{Stage}
use Rattle.walk.specs.Stages.{LastBare, Declares, held_brackets, with_heads, nothing_due, BracketsAre, Upto, Does}
use Rattle.walk.specs.Steps.{places_put, listed_to, PlacesRead, PlacesStep, Stepped}
use Rattle.walk.proofs.Declares.{places_last, declares_places}
use Rattle.walk.proofs.Dues.{met_places}
use Rattle.walk.proofs.Notes.{noted_places}
use Rattle.walk.proofs.Further.{next_state, run_left, brackets_as, room_heads}

-- what a list that was found says, by the answer
module _ (line : List ℕ) (at : ℕ) (r : Result List-at Stuck) where
  pub then_stuck : ListSays line at r → {p : Stuck} → r ≡ Err p → ListSays line at (Err p)
  then_stuck f e = subst (ListSays line at) e f

  pub then_reads : ListSays line at r → {l : List-at} → r ≡ Ok l → ListReads line at l.next l.many l.over
  then_reads f e = subst (ListSays line at) e f

-- a list of places begins where its first stands
list_begins : (line : List ℕ) (at next : ℕ) (ps : List (Place ℕ)) → Stand line at ps (next + 1) → at < next → at ≡ places_from ps
unfolding place_of
list_begins line at next [] s h = absurd (omega (arith, s, h))
list_begins line at next (p ∷ ps) s h = sym (ap (λ q. q.at) s.1)

put_long : (n from many : ℕ) (heads : List ℕ) → length (places_put n from many heads) ≡ length heads
put_long n from many heads = branch (λ l. length l ≡ length heads) (leb n bracket_limit) (length-sets heads (places_at (n - 1)) (from ∷ many ∷ [])) refl

module _ {line : List ℕ} {s : Stage} {t : Sheet} (d : Does line s Places t) where
  abbrev u : Upto line s t
  u = d.upto

  abbrev h : Held ℕ
  h = u.held

  -- no bracket waits, and the last has no places
  none_waits : h.run ≡ []
  none_waits = run_left d h.run _ u.fits

  abbrev last : LastBare h.brackets
  last = places_last s.mode (get_or line s.at 0) d.does u.declares

  abbrev ks : List (Bracket ℕ)
  ks = last.before

  abbrev k : Bracket ℕ
  k = last.last

  joins : held_brackets h ≡ ks ++ (k ∷ [])
  joins = ap (λ l. h.brackets ++ l) none_waits ∙ append-nil h.brackets ∙ last.is

  many : s.brackets ≡ length (ks ++ (k ∷ []))
  many = u.brackets_are.many ∙ ap length joins

  pub a_bracket : 0 < s.brackets
  a_bracket = omega (arith, many, length_snoc ks k)

  pub places_stuck : {p : ℕ} → ListSays line (s.at + 1) (Err (record { at = p })) → reading line ≡ stuck p
  unfolding perform
  places_stuck f = next_state d ∙ f h

  module _ {r : Stage} {t' : Sheet} (w : PlacesRead line s r t t') where
    abbrev ps : List (Place ℕ)
    ps = w.reads.sites

    abbrev x : Bracket ℕ
    x = declared_at ps k

    abbrev g : Held ℕ
    g = with_places ps h

    -- the brackets with these places
    with_places_lem : g.brackets ≡ ks ++ (x ∷ [])
    with_places_lem = ap (λ l. (with_places ps (record { residues = h.residues; brackets = l; run = h.run; first = h.first })).brackets) last.is ∙ on_last_lem (declared_at ps) ks k

    same : ks ++ (x ∷ []) ≡ held_brackets g
    same = sym (ap (λ l. g.brackets ++ l) none_waits ∙ append-nil g.brackets ∙ with_places_lem)

    placed : BracketsAre line s.brackets (length ks) s.parts ks (x ∷ []) (places_put s.brackets (s.at + 1) w.many t.heads) t.parts t.masses t.scores
    placed =
        let a = u.brackets_are in
        let from = list_begins line (s.at + 1) w.next ps w.reads.stand w.reads.past in
        record {
          many = many ∙ length_snoc ks k ∙ sym (length_snoc ks x);
          before = refl;
          noted =
              noted_places ks k s.brackets (s.at + 1) w.many ps many from w.reads.counts.many_is (w.next + 1, subst (λ i. Stand line i ps (w.next + 1)) from w.reads.stand)
              (subst (λ l. Noted line l s.parts t.heads t.parts t.masses t.scores) joins a.noted);
        }

    run_same : s.run ≡ length g.brackets
    run_same = u.brackets_are.before ∙ ap length last.is ∙ length_snoc ks k ∙ sym (length_snoc ks x) ∙ ap length (sym with_places_lem)

    places_upto : Upto line (listed_to s w.next w.least) (with_heads t (places_put s.brackets (s.at + 1) w.many t.heads))
    unfolding perform
    places_upto = record {
      held = g;
      is = next_state d ∙ w.reads.on h;
      within = w.reads.within;
      fits = none_waits;
      declares = subst (λ l. Declares Listed l h.run) (sym with_places_lem) (declares_places s.mode (get_or line s.at 0) d.does u.declares ps);
      residues_are = u.residues_are;
      brackets_are = brackets_as placed g.brackets g.run same s.run run_same;
      least_is =
          w.least_is
          ∙ ap (λ l. lowest l (map (code over_rank) (drop place_limit (map (λ p. p.at) ps)))) (u.least_is ∙ ap (λ l. lowest nothing_due (met_codes h.residues l)) joins)
          ∙ sym (met_places nothing_due h.residues ks k ps last.bare)
          ∙ ap (λ l. lowest nothing_due (met_codes h.residues l)) same;
      few_residues = omega (arith, u.few_residues, w.reads.past);
      few_brackets_lem = omega (arith, u.few_brackets_lem, w.reads.past);
      roomy = room_heads u.roomy (put_long s.brackets (s.at + 1) w.many t.heads);
    }

    places_more : Upto line r t' × (s.at < r.at)
    places_more =
        let past : s.at < w.next = omega (arith, w.reads.past) in
        subst (λ y. Upto line y t' × (s.at < y.at)) (sym w.stage) (subst (Upto line (listed_to s w.next w.least)) (sym w.put) places_upto, past)

  pub places_step : (r : Result Stage Stuck) (t' : Sheet) → PlacesStep line s r t t' → Stepped line s r t'
  places_step (Err e) t' w = places_stuck w
  places_step (Ok r) t' w = places_more w
