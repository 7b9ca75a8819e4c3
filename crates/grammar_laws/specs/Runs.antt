-- Runs of bytes from a place on, every place noted: inside a bracket, and over a line.
use Rattle.std.specs.Prelude.{ℕ, suc, ◌+◌, ◌≡◌, refl, Bool, List, [], ◌∷◌, ◌++◌, length}
use Rattle.std.proofs.Common.{arith, add-zero, sym, ap, ◌∙◌}
use Rattle.scope.specs.declared.grammar.Mode.{Mode}
use Rattle.scope.specs.declared.grammar.Slot.{Slot}
use Rattle.scope.specs.Line.{Part}
use Rattle.scope.specs.Content.{Context, Inner, Content, lost, closed, going, inner_step}
use Rattle.scope.specs.Reading.{act, Held, with_bracket, State, outside, inside, perform, mode_after, resume, step, run}
use Rattle.reading_laws.proofs.Places.{map_content, inner_step_map}
use Rattle.reading_laws.proofs.Run.{run_nil, run_cons, run_append, unnoted}
use Rattle.reading_laws.proofs.Unnoted.{content_step, content_run, lost_closed, going_closed, closed_same}

abbrev pub Parts : Type 0
Parts = List (Part ℕ)

abbrev pub context : ℕ → Bool → Bool → Parts → Context ℕ
context shut r labels ps = record { shut = shut; refers = r; labels = labels; parts = ps }

-- ---- inside a bracket
unfoldable pub noted_step : ℕ → Content ℕ → ℕ → Content ℕ
noted_step i lost b = lost
noted_step i (closed ps) b = lost
noted_step i (going c) b = inner_step i c b

-- the bytes from the place i on
unfoldable pub noted_run : ℕ → Content ℕ → List ℕ → Content ℕ
noted_run i x [] = x
noted_run i x (b ∷ l) = noted_run (i + 1) (noted_step i x b) l

noted_append : (i : ℕ) (l m : List ℕ) (x : Content ℕ) → noted_run i x (l ++ m) ≡ noted_run (i + length l) (noted_run i x l) m
unfolding noted_run
noted_append i [] m x = ap (λ z. noted_run z x m) (sym (add-zero i))
noted_append i (b ∷ l) m x =
    let e : i + 1 + length l ≡ i + suc (length l) = omega arith in
    noted_append (i + 1) l m (noted_step i x b) ∙ ap (λ z. noted_run z (noted_run (i + 1) (noted_step i x b) l) m) e

pub content_cons : (i : ℕ) (s : Inner ℕ) (b : ℕ) (l : List ℕ) → noted_run i (going s) (b ∷ l) ≡ noted_run (i + 1) (inner_step i s b) l
unfolding noted_run noted_step
content_cons i s b l = refl

pub content_one : (i : ℕ) (s : Inner ℕ) (b : ℕ) → noted_run i (going s) (b ∷ []) ≡ inner_step i s b
unfolding noted_run noted_step
content_one i s b = refl

-- one byte, and those behind it
pub then : (i : ℕ) (s s' : Inner ℕ) (b : ℕ) (l : List ℕ) (x : Content ℕ) → inner_step i s b ≡ going s' → noted_run (i + 1) (going s') l ≡ x → noted_run i (going s) (b ∷ l) ≡ x
then i s s' b l x e f = content_cons i s b l ∙ ap (λ z. noted_run (i + 1) z l) e ∙ f

-- bytes, and those behind them
pub onward : (i : ℕ) (s s' : Inner ℕ) (l m : List ℕ) (x : Content ℕ) → noted_run i (going s) l ≡ going s' → noted_run (i + length l) (going s') m ≡ x → noted_run i (going s) (l ++ m) ≡ x
onward i s s' l m x e f = noted_append i l m (going s) ∙ ap (λ z. noted_run (i + length l) z m) e ∙ f

-- ---- over a line
abbrev pub line_run : ℕ → State ℕ → List ℕ → State ℕ
line_run i s l = run (λ j. j) i s l

pub line_nil : (i : ℕ) (s : State ℕ) → line_run i s [] ≡ s
line_nil i s = run_nil (λ j. j) i s

pub line_cons : (i : ℕ) (s : State ℕ) (b : ℕ) (l : List ℕ) → line_run i s (b ∷ l) ≡ line_run (i + 1) (step i s b) l
line_cons i s b l = run_cons (λ j. j) i s b l

pub line_one : (i : ℕ) (m : Mode) (h : Held ℕ) (b : ℕ) → line_run i (outside m h) (b ∷ []) ≡ perform i b h (act m b)
unfolding run step
line_one i m h b = refl

-- one piece more
pub line_further : (i : ℕ) (t l : List ℕ) (s x y : State ℕ) → line_run i s t ≡ x → line_run (i + length t) x l ≡ y → line_run i s (t ++ l) ≡ y
line_further i t l s x y e f = run_append (λ j. j) i s t l ∙ ap (λ z. line_run (i + length t) z l) e ∙ f

-- ---- a bracket
lost_run : (i : ℕ) (l : List ℕ) → noted_run i lost l ≡ lost
unfolding noted_run noted_step
lost_run i [] = refl
lost_run i (b ∷ l) = lost_run (i + 1) l

-- a run of the inside lifts to the line; the bracket is at the place at
pub lift : (i : ℕ) (s : Slot) (at : ℕ) (h : Held ℕ) (l : List ℕ) (c : Inner ℕ) (ps : Parts) → noted_run i (going c) l ≡ closed ps → line_run i (inside s at h c) l ≡ outside (mode_after s ps) (with_bracket s.kind at ps h)
unfolding noted_run noted_step run step resume
lift i s at h [] c ps e = absurd (going_closed c ps e)
lift i s at h (b ∷ l) c ps e = go (inner_step i c b) l e (λ d f. lift (i + 1) s at h l d ps f)
  where
    go : (x : Content ℕ) (l : List ℕ) → noted_run (i + 1) x l ≡ closed ps → ((d : Inner ℕ) → noted_run (i + 1) (going d) l ≡ closed ps → line_run (i + 1) (inside s at h d) l ≡ outside (mode_after s ps) (with_bracket s.kind at ps h))
        → line_run (i + 1) (resume s at h i x) l ≡ outside (mode_after s ps) (with_bracket s.kind at ps h)
    go lost l e ih = absurd (lost_closed ps (sym (lost_run (i + 1) l) ∙ e))
    go (closed qs) [] e ih = ap (λ z. outside (mode_after s z) (with_bracket s.kind at z h)) (closed_same qs ps e)
    go (closed qs) (y ∷ l) e ih = absurd (lost_closed ps (sym (lost_run (i + 1 + 1) l) ∙ e))
    go (going d) l e ih = ih d e

-- ---- places forgotten
step_bare : (i : ℕ) (x : Content ℕ) (b : ℕ) → map_content unnoted (noted_step i x b) ≡ content_step (map_content unnoted x) b
unfolding noted_step content_step
step_bare i lost b = refl
step_bare i (closed ps) b = refl
step_bare i (going c) b = inner_step_map unnoted i c b

pub run_bare : (i : ℕ) (x : Content ℕ) (l : List ℕ) → map_content unnoted (noted_run i x l) ≡ content_run (map_content unnoted x) l
unfolding noted_run content_run
run_bare i x [] = refl
run_bare i x (b ∷ l) = run_bare (i + 1) (noted_step i x b) l ∙ ap (λ z. content_run z l) (step_bare i x b)
