-- The reader with nothing noted of places, which is enough wherever only the shape of what is read counts: runs of digits, runs inside a bracket, runs over
-- a line, and the run of the inside as it lifts to the line.
use Rattle.std.specs.Prelude.{ℕ, zero, suc, ◌+◌, ◌≡◌, refl, Bool, true, false, cond, List, [], ◌∷◌, ◌++◌}
use Rattle.std.proofs.Common.{arith, sym, ap, ◌∙◌}
use Rattle.std.proofs.Math.Option.{Option, none, some, some-injective, none-ne-some}
use Rattle.scope.specs.declared.grammar.Mode.{Mode}
use Rattle.scope.specs.declared.grammar.Slot.{Slot}
use Rattle.scope.specs.Line.{Part}
use Rattle.scope.specs.Lists.{given}
use Rattle.scope.specs.Content.{Digits, whole, broken, digit_step, Context, Inner, Content, lost, closed, going, inner_step}
use Rattle.scope.specs.Reading.{act, Held, with_bracket, State, outside, inside, perform, refers?, mode_after, resume, step, run}

abbrev pub Place : Type 0
Place = Unit {0}

abbrev pub Parts : Type 0
Parts = List (Part Place)

abbrev pub context : ℕ → Bool → Bool → Parts → Context Place
context shut r labels ps = record { shut = shut; refers = r; labels = labels; parts = ps }

-- ---- a run of digits
unfoldable pub digit_run : Digits → List ℕ → Option Digits
digit_run d [] = some d
digit_run d (b ∷ l) = given (digit_step d b) (λ d'. digit_run d' l) none

pub digits_append : (l r : List ℕ) (d d' : Digits) → digit_run d l ≡ some d' → digit_run d (l ++ r) ≡ digit_run d' r
unfolding digit_run
digits_append [] r d d' e = ap (λ x. digit_run x r) (some-injective d d' e)
digits_append (b ∷ l) r d d' e = go (digit_step d b) (λ m k. digits_append l r m d' k) e
  where
    go : (o : Option Digits) → ((m : Digits) → digit_run m l ≡ some d' → digit_run m (l ++ r) ≡ digit_run d' r)
        → given o (λ m. digit_run m l) none ≡ some d' → given o (λ m. digit_run m (l ++ r)) none ≡ digit_run d' r
    go none ih e = absurd (none-ne-some d' e)
    go (some m) ih e = ih m e

pub digits_cons : (d d' : Digits) (b : ℕ) (l : List ℕ) → digit_step d b ≡ some d' → digit_run d (b ∷ l) ≡ digit_run d' l
unfolding digit_run
digits_cons d d' b l e = rw (e, digit_run)

-- a whole number, read
unfoldable pub all_read : Bool → ℕ → ℕ → Digits
all_read s m zero = whole s m
all_read s m (suc d) = broken s m (suc d)

-- ---- a run of bytes inside a bracket
unfoldable pub content_step : Content Place → ℕ → Content Place
content_step lost b = lost
content_step (closed ps) b = lost
content_step (going c) b = inner_step tt c b

unfoldable pub content_run : Content Place → List ℕ → Content Place
content_run x [] = x
content_run x (b ∷ l) = content_run (content_step x b) l

pub content_nil : (x : Content Place) → content_run x [] ≡ x
unfolding content_run
content_nil x = refl

pub content_cons : (c : Inner Place) (b : ℕ) (l : List ℕ) → content_run (going c) (b ∷ l) ≡ content_run (inner_step tt c b) l
unfolding content_run content_step
content_cons c b l = refl

pub content_one : (c : Inner Place) (b : ℕ) → content_run (going c) (b ∷ []) ≡ inner_step tt c b
unfolding content_run content_step
content_one c b = refl

-- ---- a run of bytes over a line
unfoldable pub line_run : State Place → List ℕ → State Place
line_run s [] = s
line_run s (b ∷ l) = line_run (step tt s b) l

pub line_append : (l m : List ℕ) (s : State Place) → line_run s (l ++ m) ≡ line_run (line_run s l) m
unfolding line_run
line_append [] m s = refl
line_append (b ∷ l) m s = line_append l m (step tt s b)

pub line_nil : (s : State Place) → line_run s [] ≡ s
unfolding line_run
line_nil s = refl

pub line_cons : (s : State Place) (b : ℕ) (l : List ℕ) → line_run s (b ∷ l) ≡ line_run (step tt s b) l
unfolding line_run
line_cons s b l = refl

pub line_one : (m : Mode) (h : Held Place) (b : ℕ) → line_run (outside m h) (b ∷ []) ≡ perform tt b h (act m b)
unfolding line_run step
line_one m h b = refl

-- where nothing is noted of places, the reader is this run
pub run_line : (i : ℕ) (s : State Place) (l : List ℕ) → run (λ j. tt) i s l ≡ line_run s l
unfolding line_run run
run_line i s [] = refl
run_line i s (b ∷ l) = run_line (i + 1) (step tt s b) l

-- one piece more
pub line_further : (t l : List ℕ) (s x y : State Place) → line_run s t ≡ x → line_run x l ≡ y → line_run s (t ++ l) ≡ y
line_further t l s x y e f = line_append t l s ∙ ap (λ z. line_run z l) e ∙ f

-- ---- a bracket
lost_run : (l : List ℕ) → content_run lost l ≡ lost
unfolding content_run content_step
lost_run [] = refl
lost_run (b ∷ l) = lost_run l

pub lost_closed : {P : Type 0} (ps : List (Part P)) → lost ≡ closed ps → ⊥
lost_closed ps e = let z : ◌≡◌ {A = ℕ} 0 1 = cc in omega arith

pub going_closed : {P : Type 0} (c : Inner P) (ps : List (Part P)) → going c ≡ closed ps → ⊥
going_closed c ps e = let z : ◌≡◌ {A = ℕ} 0 1 = cc in omega arith

pub closed_same : {P : Type 0} (ps qs : List (Part P)) → closed ps ≡ closed qs → ps ≡ qs
closed_same ps qs e = cc

-- a run of the inside lifts to the line
pub lift : (s : Slot) (h : Held Place) (l : List ℕ) (c : Inner Place) (ps : Parts) → content_run (going c) l ≡ closed ps → line_run (inside s tt h c) l ≡ outside (mode_after s ps) (with_bracket s.kind tt ps h)
unfolding content_run content_step line_run step resume
lift s h [] c ps e = absurd (going_closed c ps e)
lift s h (b ∷ l) c ps e = go (inner_step tt c b) l e (λ d f. lift s h l d ps f)
  where
    go : (x : Content Place) (l : List ℕ) → content_run x l ≡ closed ps → ((d : Inner Place) → content_run (going d) l ≡ closed ps → line_run (inside s tt h d) l ≡ outside (mode_after s ps) (with_bracket s.kind tt ps h))
        → line_run (resume s tt h tt x) l ≡ outside (mode_after s ps) (with_bracket s.kind tt ps h)
    go lost l e ih = absurd (lost_closed ps (sym (lost_run l) ∙ e))
    go (closed qs) [] e ih = ap (λ z. outside (mode_after s z) (with_bracket s.kind tt z h)) (closed_same qs ps e)
    go (closed qs) (y ∷ l) e ih = absurd (lost_closed ps (sym (lost_run l) ∙ e))
    go (going d) l e ih = ih d e

pub same_mode : {P : Type 0} (ps : List (Part P)) (m : Mode) → cond (refers? ps) m m ≡ m
same_mode ps m = go (refers? ps)
  where
    go : (t : Bool) → cond t m m ≡ m
    go true = refl
    go false = refl
