-- What the reader has settled is in order, byte by byte.
use Rattle.std.specs.Prelude.{◌≡◌, refl, true, List, [], ◌∷◌, map, ℕ, ◌+◌, ◌*◌, ◌≤◌, ◌<◌, leb, length}
use Rattle.std.proofs.Math.Path.{ap}
use Rattle.std.proofs.Common.{◌∙◌, subst, le_refl, arith, length-append}
use borrow.Author.Tests.{leb-true, ltb-true}
use Rattle.scope.specs.declared.grammar.Section.{Section}
use Rattle.scope.specs.declared.grammar.Kind.{Kind}
use Rattle.scope.specs.declared.grammar.Kind.TheVariants.{Unknown, NTerm}
use Rattle.scope.specs.declared.grammar.Mode.TheVariants.{Front}
use Rattle.scope.specs.declared.grammar.Mode.{Mode}
use Rattle.scope.specs.declared.grammar.Slot.{Slot}
use Rattle.scope.specs.declared.grammar.Act.{Act}
use Rattle.scope.specs.declared.grammar.Act.TheVariants.{Stop, Go, Residue as a_residue, Begin, Digit, RunEnds, TermEnds, Places}
use Rattle.scope.specs.Bytes.{upper}
use Rattle.scope.specs.Line.{Part, Bracket, Residue, Line}
use Rattle.scope.specs.Content.{Content, lost, closed, going, inner_step}
use Rattle.scope.specs.Reading.{act, position_of, Held, with_residue, bracket_of, with_bracket, count_digit, with_digit, as_nTerm, settled_run, declared_at, State, dead, outside, inside, placing, perform, refers?, mode_after, resume, step, holds, reading}
use Rattle.scope.specs.Places.{Placing}
use Rattle.basics.specs.Choice.{branch}
use Rattle.basics.specs.Each.{Each, each_append, each_last, each_map, each_one}
use Rattle.basics.specs.Tests.{both_of}
use Rattle.reading_laws.proofs.Listed.{PlacesGo, places_on, places_over, places_stop, places_go}
use Rattle.reading_laws.proofs.Kept.{reading_whole, put_by, digit_by}
use Rattle.order_laws.specs.Ranks.{rank_step, kind_rank, rank_of, rank, InOrder, orderedb}
use Rattle.order_laws.proofs.Climbs.{Climbs, higher, level_climbs, climbs_append, climbs_last, climbs_rising}
use Rattle.order_laws.proofs.Modes.{height_of, rank_height, height, keeps, act_keeps}

-- a bracket at the front waits as an unknown one, at the position that reading has come to
abbrev Waits : {P : Type 0} → ℕ → Bracket P → Type 0
Waits n k = (k.kind ≡ Unknown) × (k.last ≡ n)

-- behind n residues: the settled brackets climb up to the height c at most, and where one of unknown position is no lower, such ones wait
record Rises {P : Type 0} (n c : ℕ) (h : Held P) : Type 0 where
  pub brackets : Climbs 0 h.brackets (rank_step * n + c)
  pub run : c ≤ height_of Unknown → Each (Waits n) h.run

abbrev RisesTo : {P : Type 0} → ℕ → Held P → Type 0
RisesTo c h = Rises (length h.residues) c h

record InsideRises {P : Type 0} (s : Slot) (h : Held P) : Type 0 where
  pub held : RisesTo (height_of s.kind) h
  pub after : height_of s.kind ≤ height s.after
  pub referred : height_of s.kind ≤ height s.referred

abbrev StateRises : {P : Type 0} → State P → Type 0
StateRises (dead p) = Unit {0}
StateRises (outside m h) = RisesTo (height m) h
StateRises (inside s at h c) = InsideRises s h
StateRises (placing h s) = RisesTo (height Front) h

module _ {P : Type 0} where
  rises_more : (n c d : ℕ) (h : Held P) → c ≤ d → Rises n c h → Rises n d h
  rises_more n c d h e w = record { brackets = higher 0 h.brackets _ _ (omega arith) w.brackets; run = λ f. w.run (omega arith) }

  residue_rises : (i : P) (b : ℕ) (s : Section) (h : Held P) (c d : ℕ) → c ≤ rank_step + d → height_of Unknown < d → RisesTo c h → RisesTo d (with_residue i b s h)
  residue_rises i b s h c d e f w =
      let new : List (Residue P) = record { letter = upper b; section = s; at = i } ∷ [] in
      rw (length-append h.residues new)
      (record { brackets = higher 0 h.brackets _ _ (omega arith) w.brackets; run = λ g. absurd (omega arith) })

  -- ---- a bracket is closed
  bracket_rises : (k : Kind) (i : P) (ps : List (Part P)) (h : Held P) (c : ℕ) → height_of k ≤ c → RisesTo (height_of k) h → RisesTo c (with_bracket k i ps h)
  bracket_rises k i ps h c e w =
      let n = length h.residues in
      let b = bracket_of k i ps h in
      put_by (RisesTo c) k b h
      (λ u.
      record {
        brackets = higher 0 h.brackets _ _ (omega arith) w.brackets;
        run = λ f. each_append (Waits n) h.run (b ∷ []) (w.run (omega arith)) ((u, ap (λ z. position_of z n n) u), tt);
      })
      (λ u.
      record {
        brackets = climbs_append 0 (rank_step * n + height_of k) _ h.brackets (b ∷ []) w.brackets (rw (rank_height k n) (le_refl _, omega arith));
        run = λ f. w.run (omega arith);
      })

  -- ---- the brackets at the front have a digit more, or are settled
  digit_rises : (i : P) (b : ℕ) (h : Held P) → RisesTo (height_of Unknown) h → RisesTo (height_of Unknown) (with_digit i b h)
  digit_rises i b h w =
      let n = length h.residues in
      record {
        brackets = w.brackets;
        run = λ f.
            each_last (Waits n) (count_digit i b)
            (λ k e. digit_by (Waits n) i b k (λ c p. e)) h.run (w.run f);
      }

  settled_rises :
      (f : Bracket P → Bracket P) (k : Kind) (h : Held P) → ((x : Bracket P) → x.kind ≡ Unknown → rank (f x) ≡ rank_of k x.last) → height_of Unknown ≤ kind_rank k
      → RisesTo (height_of Unknown) h → RisesTo (kind_rank k) (settled_run f h)
  settled_rises f k h e l w =
      let n = length h.residues in
      record {
        brackets = climbs_append 0 _ _ h.brackets (map f h.run) w.brackets
            (level_climbs _ (rank_of k n) (map f h.run) (omega arith)
            (each_map (λ x. rank x ≡ rank_of k n) f h.run
            (each_one (Waits n) (λ x. rank (f x) ≡ rank_of k n) (λ x v. e x v.0 ∙ ap (rank_of k) v.1) h.run (w.run (le_refl _)))));
        run = λ g. tt;
      }

  -- ---- one byte more
  perform_rises : (i : P) (b : ℕ) (m : Mode) (h : Held P) (a : Act) → RisesTo (height m) h → keeps m a ≡ true → StateRises (perform i b h a)
  unfolding perform
  perform_rises i b m h Stop w g = tt
  perform_rises i b m h (Go o) w g = rises_more _ _ _ h (leb-true _ _ g) w
  perform_rises i b m h (a_residue s o) w g = let p = both_of (leb (height m) _) _ g in residue_rises i b s h _ _ (leb-true _ _ p.0) (ltb-true _ _ p.1) w
  perform_rises i b m h (Begin s) w g =
      let p = both_of (leb (height m) _) _ g in
      let q = both_of (leb (height_of s.kind) _) _ p.1 in
      record { held = rises_more _ _ _ h (leb-true _ _ p.0) w; after = leb-true _ _ q.0; referred = leb-true _ _ q.1 }
  perform_rises i b m h Digit w g = digit_rises i b h (rises_more _ _ _ h (leb-true _ _ g) w)
  perform_rises i b m h RunEnds w g = settled_rises (λ k. k) Unknown h (λ x u. ap (λ z. rank_of z x.last) u) (le_refl _) (rises_more _ _ _ h (leb-true _ _ g) w)
  perform_rises i b m h TermEnds w g = settled_rises as_nTerm NTerm h (λ x u. refl) (omega arith) (rises_more _ _ _ h (leb-true _ _ g) w)
  perform_rises i b m h Places w g = rises_more _ _ _ h (leb-true _ _ g) w

  -- the places of a declaration
  places_rise : {i : P} {b : ℕ} {h : Held P} {s : Placing P} {x : State P} → PlacesGo i b h s x → RisesTo (height Front) h → StateRises x
  places_rise (places_on o) w = w
  places_rise {h = h} (places_over e) w = record { brackets = climbs_last (declared_at _) (λ k. refl) 0 h.brackets _ w.brackets; run = w.run }
  places_rise places_stop w = tt

  resume_rises : (s : Slot) (at i : P) (h : Held P) (c : Content P) → InsideRises s h → StateRises (resume s at h i c)
  unfolding resume
  resume_rises s at i h lost w = tt
  resume_rises s at i h (closed ps) w =
      bracket_rises s.kind at ps h (height (mode_after s ps)) (branch (λ m. height_of s.kind ≤ height m) (refers? ps) w.referred w.after) w.held
  resume_rises s at i h (going c) w = w

  step_rises : (i : P) (s : State P) (b : ℕ) → StateRises s → StateRises (step i s b)
  unfolding step
  step_rises i (dead p) b w = tt
  step_rises i (outside m h) b w = perform_rises i b m h (act m b) w (act_keeps m b)
  step_rises i (inside s at h c) b w = resume_rises s at i h (inner_step i c b) w
  step_rises i (placing h s) b w = places_rise (places_go i b h s) w

-- ---- a line that is read whole
pub read_ordered : (s : List ℕ) (l : Line ℕ) → reading s ≡ holds l → InOrder l
unfolding orderedb
read_ordered s l e =
    let w = reading_whole StateRises step_rises (record { brackets = omega arith; run = λ f. tt }) s l e in
    subst InOrder w.line (climbs_rising 0 w.held.brackets _ w.keeps.brackets)
