-- The place of refusal 4: where a line is stuck, what stands before the place can be finished to a line of the order, and with the byte there it
-- cannot.
use Rattle.std.specs.Prelude.{ℕ, ◌+◌, ◌-◌, ◌<◌, ◌≡◌, refl, Bool, true, false, cond, List, [], ◌∷◌, ◌++◌, length, take, drop}
use Rattle.std.proofs.Common.{arith, sym, ap, ◌∙◌, subst, append_assoc, length-append, take-append-drop, take_at, take-add}
use Rattle.std.proofs.Math.Seq.{take-length}
use Rattle.scope.specs.declared.grammar.Mode.{Mode}
use Rattle.scope.specs.declared.grammar.Slot.{Slot}
use Rattle.scope.specs.declared.grammar.Act.{Act}
use Rattle.scope.specs.declared.grammar.Act.TheVariants.{Stop, Go, Residue as a_residue, Begin, Digit, RunEnds, TermEnds, Places}
use Rattle.scope.specs.Line.{Line}
use Rattle.scope.specs.Content.{Content, lost, closed, going, inner_step}
use Rattle.scope.specs.Reading.{act, may_end, Held, State, dead, outside, inside, placing, perform, resume, step, run, start, Reading, stuck, holds, line_of, ended, reading}
use Rattle.reading_laws.specs.Laws.{Refused4}
use Rattle.scope.specs.Places.{Placing}
use Rattle.reading_laws.proofs.Listed.{PlacesGo, places_on, places_over, places_stop, places_go}
use Rattle.reading_laws.proofs.Run.{run_append, run_dead}
use Rattle.reading_laws.proofs.Reached.{run_good}
use Rattle.reading_laws.proofs.Finished.{Alive, Finished, finished}

-- ---- the byte that kills
perform_dead : (i b : ℕ) (h : Held ℕ) (a : Act) (p : ℕ) → perform i b h a ≡ dead p → p ≡ i
unfolding perform
perform_dead i b h Stop p e = cc
perform_dead i b h (Go m) p e = let z : ◌≡◌ {A = ℕ} 0 1 = cc in absurd (omega arith)
perform_dead i b h (a_residue s m) p e = let z : ◌≡◌ {A = ℕ} 0 1 = cc in absurd (omega arith)
perform_dead i b h (Begin s) p e = let z : ◌≡◌ {A = ℕ} 0 1 = cc in absurd (omega arith)
perform_dead i b h Digit p e = let z : ◌≡◌ {A = ℕ} 0 1 = cc in absurd (omega arith)
perform_dead i b h RunEnds p e = let z : ◌≡◌ {A = ℕ} 0 1 = cc in absurd (omega arith)
perform_dead i b h TermEnds p e = let z : ◌≡◌ {A = ℕ} 0 1 = cc in absurd (omega arith)
perform_dead i b h Places p e = let z : ◌≡◌ {A = ℕ} 0 1 = cc in absurd (omega arith)

resume_dead : (s : Slot) (at : ℕ) (h : Held ℕ) (i : ℕ) (c : Content ℕ) (p : ℕ) → resume s at h i c ≡ dead p → p ≡ i
unfolding resume
resume_dead s at h i lost p e = cc
resume_dead s at h i (closed ps) p e = let z : ◌≡◌ {A = ℕ} 0 1 = cc in absurd (omega arith)
resume_dead s at h i (going c) p e = let z : ◌≡◌ {A = ℕ} 0 1 = cc in absurd (omega arith)

places_dead : {i b : ℕ} {h : Held ℕ} {s : Placing ℕ} {x : State ℕ} → PlacesGo i b h s x → (p : ℕ) → x ≡ dead p → p ≡ i
places_dead (places_on o) p e = let z : ◌≡◌ {A = ℕ} 0 1 = cc in absurd (omega arith)
places_dead (places_over f) p e = let z : ◌≡◌ {A = ℕ} 0 1 = cc in absurd (omega arith)
places_dead places_stop p e = cc

step_dead : (i : ℕ) (s : State ℕ) (b p : ℕ) → Alive s → step i s b ≡ dead p → p ≡ i
unfolding step
step_dead i (dead q) b p a e = absurd a
step_dead i (outside m h) b p a e = perform_dead i b h (act m b) p e
step_dead i (inside s at h c) b p a e = resume_dead s at h i (inner_step i c b) p e
step_dead i (placing h s) b p a e = places_dead (places_go i b h s) p e

-- a list of bytes up to the one that kills
pub record Killed (i : ℕ) (s : State ℕ) (l : List ℕ) (p : ℕ) : Type 0 where
  pub before : List ℕ
  pub byte : ℕ
  pub after : List ℕ
  pub whole : l ≡ before ++ (byte ∷ after)
  pub place : p ≡ i + length before
  pub alive : Alive (run (λ j. j) i s before)
  pub kills : run (λ j. j) i s (before ++ (byte ∷ [])) ≡ dead p

killed_now : (i : ℕ) (s : State ℕ) (b : ℕ) (l : List ℕ) (p q : ℕ) → Alive s → step i s b ≡ dead q → run (λ j. j) (i + 1) (dead q) l ≡ dead p
    → Killed i s (b ∷ l) p
unfolding run
killed_now i s b l p q a e r =
    let d : q ≡ i = step_dead i s b q a e in
    let f : dead q ≡ dead p = sym (run_dead (λ j. j) (i + 1) q l) ∙ r in
    let g : q ≡ p = cc in
    record { before = []; byte = b; after = l; whole = refl; place = omega arith; alive = a; kills = e ∙ f }

killed_later : (i : ℕ) (s x : State ℕ) (b : ℕ) (l : List ℕ) (p : ℕ) → step i s b ≡ x → Killed (i + 1) x l p → Killed i s (b ∷ l) p
unfolding run
killed_later i s x b l p e k =
    record {
      before = b ∷ k.before;
      byte = k.byte;
      after = k.after;
      whole = ap (λ z. b ∷ z) k.whole;
      place = omega (arith, k.place);
      alive = rw e k.alive;
      kills = ap (λ y. run (λ j. j) (i + 1) y (k.before ++ (k.byte ∷ []))) e ∙ k.kills;
    }

killed : (i : ℕ) (s : State ℕ) (l : List ℕ) (p : ℕ) → Alive s → run (λ j. j) i s l ≡ dead p → Killed i s l p
unfolding run
killed i s [] p a e = absurd (subst Alive e a)
killed i s (b ∷ l) p a e = go (step i s b) refl e (λ x. killed (i + 1) x l p)
  where
    go : (x : State ℕ) → step i s b ≡ x → run (λ j. j) (i + 1) x l ≡ dead p
        → ((y : State ℕ) → Alive y → run (λ j. j) (i + 1) y l ≡ dead p → Killed (i + 1) y l p) → Killed i s (b ∷ l) p
    go (dead q) f r ih = killed_now i s b l p q a f r
    go (outside m h) f r ih = killed_later i s (outside m h) b l p f (ih (outside m h) tt r)
    go (inside k at h c) f r ih = killed_later i s (inside k at h c) b l p f (ih (inside k at h c) tt r)
    go (placing h x) f r ih = killed_later i s (placing h x) b l p f (ih (placing h x) tt r)

-- ---- lines of the order
-- a line of the order begins with bytes after which the reader is alive
begins_alive : (a : List ℕ) → Alive (run (λ j. j) 0 start a) → (l : List ℕ) × (t : Line ℕ) × (reading (a ++ l) ≡ holds t)
unfolding reading
begins_alive a v =
    let f : Finished (λ j. j) (0 + length a) (run (λ j. j) 0 start a) = finished (λ j. j) (0 + length a) _ (run_good (λ j. j) 0 start a tt) v in
    let e : run (λ j. j) 0 start (a ++ f.bytes) ≡ outside f.mode f.held = run_append (λ j. j) 0 start a f.bytes ∙ f.goes in
    (f.bytes, line_of f.held, rw (e, f.ends))

-- and none begins with bytes that kill it
begins_dead : (a l : List ℕ) (p : ℕ) (t : Line ℕ) → run (λ j. j) 0 start a ≡ dead p → reading (a ++ l) ≡ holds t → ⊥
unfolding reading
begins_dead a l p t d e =
    let f : run (λ j. j) 0 start (a ++ l) ≡ dead p =
    run_append (λ j. j) 0 start a l ∙ (ap (λ x. run (λ j. j) (0 + length a) x l) d ∙ run_dead (λ j. j) (0 + length a) p l) in
    let g : reading (a ++ l) ≡ stuck p = rw f in
    let z : ◌≡◌ {A = ℕ} 0 1 = cc in
    omega arith

not_both : (s : List ℕ) (i : ℕ) (t : Line ℕ) → reading s ≡ stuck i → reading s ≡ holds t → ⊥
not_both s i t e f = let z : ◌≡◌ {A = ℕ} 0 1 = cc in omega arith

-- ---- the place
stuck_dead : (s : List ℕ) (i : ℕ) → Killed 0 start s i → reading s ≡ stuck i → Refused4 s i
stuck_dead s i k e =
    let n : length k.before ≡ i = omega (arith, k.place) in
    let m : length (k.before ++ (k.byte ∷ [])) ≡ i + 1 = omega (arith, length-append k.before (k.byte ∷ []), n) in
    let w : s ≡ (k.before ++ (k.byte ∷ [])) ++ k.after = k.whole ∙ sym (append_assoc k.before (k.byte ∷ []) k.after) in
    let u : take i s ≡ k.before = ap (take i) k.whole ∙ take_at k.before (k.byte ∷ k.after) i n in
    let v : take (i + 1) s ≡ k.before ++ (k.byte ∷ []) = ap (take (i + 1)) w ∙ take_at (k.before ++ (k.byte ∷ [])) k.after (i + 1) m in
    record {
      inside = omega (arith, ap length k.whole, length-append k.before (k.byte ∷ k.after), n);
      begins = rw u (begins_alive k.before k.alive);
      stops = λ h l t f. begins_dead (k.before ++ (k.byte ∷ [])) l i t k.kills (rw v at f);
      ends = λ h t f. not_both s i t e f;
    }

stuck_end : (s : List ℕ) → Alive (run (λ j. j) 0 start s) → reading s ≡ stuck (length s) → Refused4 s (length s)
stuck_end s a e =
    record {
      inside = omega arith;
      begins = rw (take-length s) (begins_alive s a);
      stops = λ h l t f. omega arith;
      ends = λ h t f. not_both s (length s) t e f;
    }

pub stuck_refused : (s : List ℕ) (i : ℕ) → reading s ≡ stuck i → Refused4 s i
unfolding reading
stuck_refused s i e = go (run (λ j. j) 0 start s) refl
  where
    at_end : (n : ℕ) → reading s ≡ stuck n → length s ≡ n → Alive (run (λ j. j) 0 start s) → Refused4 s n
    at_end n f g a = subst (Refused4 s) g (stuck_end s a (f ∙ ap stuck (sym g)))

    ending : (m : Mode) (h : Held ℕ) (b : Bool) → cond b (holds (line_of h)) (stuck (length s)) ≡ stuck i → length s ≡ i
    ending m h true f = let z : ◌≡◌ {A = ℕ} 0 1 = cc in absurd (omega arith)
    ending m h false f = cc

    go : (x : State ℕ) → run (λ j. j) 0 start s ≡ x → Refused4 s i
    go (dead p) f =
        let g : reading s ≡ stuck p = rw f in
        let n : p ≡ i = cc in
        stuck_dead s i (killed 0 start s i tt (f ∙ ap dead n)) e
    go (outside m h) f =
        let g : ended (length s) (outside m h) ≡ stuck i = rw f at e in
        at_end i e (ending m h (may_end m) g) (rw f tt)
    go (inside k at h c) f =
        let g : stuck (length s) ≡ stuck i = rw f at e in
        at_end i e (cc) (rw f tt)
    go (placing h x) f =
        let g : stuck (length s) ≡ stuck i = rw f at e in
        at_end i e (cc) (rw f tt)

-- a place before another: no line of the order begins with what stands before the second
earlier : (s : List ℕ) (i j : ℕ) → Refused4 s i → Refused4 s j → i < j → ⊥
earlier s i j p q h =
    let r = q.begins in
    let n : i + 1 + (j - (i + 1)) ≡ j = omega arith in
    let e : take j s ≡ take (i + 1) s ++ take (j - (i + 1)) (drop (i + 1) s) = ap (λ x. take x s) (sym n) ∙ take-add (i + 1) (j - (i + 1)) s in
    let f : take j s ++ r.0 ≡ take (i + 1) s ++ (take (j - (i + 1)) (drop (i + 1) s) ++ r.0) =
    ap (λ x. x ++ r.0) e ∙ append_assoc (take (i + 1) s) (take (j - (i + 1)) (drop (i + 1) s)) r.0 in
    p.stops (omega (arith, q.inside)) (take (j - (i + 1)) (drop (i + 1) s) ++ r.0) r.1 (ap reading (sym f) ∙ r.2)

pub refused_unique : (s : List ℕ) (i j : ℕ) → Refused4 s i → Refused4 s j → i ≡ j
refused_unique s i j p q = omega (arith, earlier s i j p q, earlier s j i q p)

pub refused_stuck : (s : List ℕ) (i : ℕ) → Refused4 s i → reading s ≡ stuck i
refused_stuck s i p = go (reading s) refl
  where
    go : (r : Reading) → reading s ≡ r → reading s ≡ stuck i
    go (stuck j) e = e ∙ ap stuck (refused_unique s j i (stuck_refused s j e) p)
    go (holds t) e =
        let n : i < length s → ⊥ = λ h. p.stops h (drop (i + 1) s) t (ap reading (take-append-drop (i + 1) s) ∙ e) in
        absurd (p.ends (omega (arith, n, p.inside)) t e)
