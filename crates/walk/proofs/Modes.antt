-- What each act leaves of the undecided run, by the mode; and that a bracket in which a reference may stand may have labels.
use mathlib.Core.Path.{◌≡◌, refl, sym, subst, ◌∙◌}
use mathlib.Core.Bool.{Bool, true, false, cond, not, ◌&&◌, ◌||◌, false≢true}
use mathlib.Core.Option.{none}
use mathlib.Core.List.{List, [], ◌∷◌, ◌++◌}
use Prim.Native.Nat.{ℕ, suc}
use native.Mathlib.Omega.{arith}
use Rattle.scope.specs.declared.grammar.Mode.{Mode}
use Rattle.scope.specs.declared.grammar.Slot.{Slot}
use Rattle.scope.specs.declared.grammar.Act.{Act}
use Rattle.scope.specs.declared.grammar.Act.TheVariants.{Stop, Go, Residue as a_residue, Begin, Digit, RunEnds, TermEnds, Places}
use Rattle.scope.specs.Bytes.{is_digit}
use Rattle.scope.specs.Line.{Part, Bracket}
use Rattle.scope.specs.Reading.{act, may_end, refers?, mode_after}
use Rattle.scope.specs.Kinds.{is_unknown}
use Rattle.basics.specs.Choice.{branch, pick_true, pick_false}
use Rattle.basics.specs.Tests.{and_left, and_right, implied}
use Rattle.reading_laws.proofs.Acts.{act_rule, of_slot, ByteOf, act_byte, Ending, single_ends, ranged_ends, unsure_ends, cterms_end, ending}
use Rattle.classes.specs.Runs.{span}
use Rattle.walk.specs.Stages.{LastFresh, Waiting, none_waits, last_fresh, any_waits, digits_over, WaitsFor, waiting, ModeFits}

-- a bracket in this slot: it waits, with no count yet, or it is settled at once, and none waits
pub record SlotFits (s : Slot) (r : List (Bracket ℕ)) : Type 0 where
  pub waits : is_unknown s.kind ≡ true → (k : Bracket ℕ) (ps : List (Part ℕ)) (l : List ℕ) → k.counted ≡ none → ModeFits (mode_after s ps) (r ++ (k ∷ [])) l
  pub none_before : is_unknown s.kind ≡ false → r ≡ []
  pub settles : is_unknown s.kind ≡ false → (ps : List (Part ℕ)) (l : List ℕ) → ModeFits (mode_after s ps) [] l

-- what an act at the byte b asks of the run that its mode leaves
abbrev pub ActFits : Mode → ℕ → Act → Type 0
ActFits m b Stop = Unit {0}
ActFits m b (Go n) = (r : List (Bracket ℕ)) (l k : List ℕ) → ModeFits m r l → ModeFits n r k
ActFits m b (a_residue s n) = (r : List (Bracket ℕ)) (l k : List ℕ) → ModeFits m r l → ModeFits n r k
ActFits m b (Begin s) = (r : List (Bracket ℕ)) (l : List ℕ) → ModeFits m r l → SlotFits s r
ActFits m b Digit = (is_digit b ≡ true) × ((r : List (Bracket ℕ)) (l : List ℕ) → ModeFits m r (b ∷ l) → LastFresh r)
ActFits m b RunEnds = Unit {0}
ActFits m b TermEnds = Unit {0}
ActFits m b Places = (r : List (Bracket ℕ)) (l : List ℕ) → ModeFits m r l → r ≡ []

newest : (r : List (Bracket ℕ)) (k : Bracket ℕ) → k.counted ≡ none → LastFresh (r ++ (k ∷ []))
newest r k e = record { before = r; last = k; is = refl; fresh = e }

no_digit : (b : ℕ) (l : List ℕ) → is_digit b ≡ true → span is_digit (b ∷ l) ≡ 0 → ⊥
unfolding span
no_digit b l e z = let q : suc (span is_digit l) ≡ 0 = rw e at z in omega arith

-- ---- what modes say, as tests: that none waits; that a bracket without a count may be the last, and is; that a digit may follow
abbrev none? : Waiting → Bool
none? a = elim a [ none_waits ↦ true | last_fresh ↦ false | any_waits ↦ false | digits_over ↦ false ]

abbrev takes? : Waiting → Bool
takes? a = elim a [ none_waits ↦ false | last_fresh ↦ true | any_waits ↦ true | digits_over ↦ false ]

abbrev fresh? : Waiting → Bool
fresh? a = elim a [ none_waits ↦ false | last_fresh ↦ true | any_waits ↦ false | digits_over ↦ false ]

abbrev digit? : Waiting → Bool
digit? a = elim a [ none_waits ↦ false | last_fresh ↦ true | any_waits ↦ false | digits_over ↦ true ]

none_waiting : (a : Waiting) (r : List (Bracket ℕ)) (l : List ℕ) → none? a ≡ true → WaitsFor a r l → r ≡ []
none_waiting none_waits r l e f = f
none_waiting last_fresh r l e f = absurd (false≢true e)
none_waiting any_waits r l e f = absurd (false≢true e)
none_waiting digits_over r l e f = absurd (false≢true e)

fits_none : (a : Waiting) (r : List (Bracket ℕ)) (l : List ℕ) → none? a ≡ true → r ≡ [] → WaitsFor a r l
fits_none none_waits r l e f = f
fits_none last_fresh r l e f = absurd (false≢true e)
fits_none any_waits r l e f = absurd (false≢true e)
fits_none digits_over r l e f = absurd (false≢true e)

fits_newest : (a : Waiting) (r : List (Bracket ℕ)) (l : List ℕ) → takes? a ≡ true → LastFresh r → WaitsFor a r l
fits_newest none_waits r l e f = absurd (false≢true e)
fits_newest last_fresh r l e f = f
fits_newest any_waits r l e f = tt
fits_newest digits_over r l e f = absurd (false≢true e)

fresh_waiting : (a : Waiting) (r : List (Bracket ℕ)) (l : List ℕ) → fresh? a ≡ true → WaitsFor a r l → LastFresh r
fresh_waiting none_waits r l e f = absurd (false≢true e)
fresh_waiting last_fresh r l e f = f
fresh_waiting any_waits r l e f = absurd (false≢true e)
fresh_waiting digits_over r l e f = absurd (false≢true e)

fresh_before : (a : Waiting) (r : List (Bracket ℕ)) (l : List ℕ) (b : ℕ) → digit? a ≡ true → is_digit b ≡ true → WaitsFor a r (b ∷ l) → LastFresh r
fresh_before none_waits r l b e d f = absurd (false≢true e)
fresh_before last_fresh r l b e d f = f
fresh_before any_waits r l b e d f = absurd (false≢true e)
fresh_before digits_over r l b e d f = absurd (no_digit b l d f)

-- ---- the rule
abbrev passes : Waiting → Waiting → Bool
passes a c = cond (none? a) (none? c) (fresh? a && takes? c)

abbrev settled? : Mode → Slot → Bool
settled? m s = none? (waiting m) && (none? (waiting s.after) && none? (waiting s.referred))

abbrev slot_fits : Mode → Slot → Bool
slot_fits m s = cond (is_unknown s.kind) (takes? (waiting s.after) && takes? (waiting s.referred)) (settled? m s)

abbrev act_fits : Mode → Act → Bool
act_fits m Stop = true
act_fits m (Go n) = passes (waiting m) (waiting n)
act_fits m (a_residue s n) = passes (waiting m) (waiting n)
act_fits m (Begin s) = slot_fits m s
act_fits m Digit = digit? (waiting m)
act_fits m RunEnds = true
act_fits m TermEnds = true
act_fits m Places = none? (waiting m)

passes_fits : (a c : Waiting) → passes a c ≡ true → (r : List (Bracket ℕ)) (l k : List ℕ) → WaitsFor a r l → WaitsFor c r k
passes_fits a c e r l k f = go (none? a) refl e
  where
    go : (t : Bool) → none? a ≡ t → cond t (none? c) (fresh? a && takes? c) ≡ true → WaitsFor c r k
    go true q g = fits_none c r k g (none_waiting a r l q f)
    go false q g = fits_newest c r k (and_right (fresh? a) _ g) (fresh_waiting a r l (and_left _ _ g) f)

slot_fits_lem : (m : Mode) (s : Slot) (r : List (Bracket ℕ)) (l : List ℕ) → slot_fits m s ≡ true → ModeFits m r l → SlotFits s r
slot_fits_lem m s r l e f = record {
  waits = λ q k ps j z.
      let g = sym (pick_true (is_unknown s.kind) _ (settled? m s) q) ∙ e in
      branch (λ o. ModeFits o (r ++ (k ∷ [])) j) (refers? ps) (fits_newest (waiting s.referred) (r ++ (k ∷ [])) j (and_right (takes? (waiting s.after)) _ g) (newest r k z))
      (fits_newest (waiting s.after) (r ++ (k ∷ [])) j (and_left _ _ g) (newest r k z));
  none_before = λ q. none_waiting (waiting m) r l (and_left _ _ (at_once q)) f;
  settles = λ q ps j.
      let g = and_right (none? (waiting m)) _ (at_once q) in
      branch (λ o. ModeFits o [] j) (refers? ps) (fits_none (waiting s.referred) [] j (and_right (none? (waiting s.after)) _ g) refl)
      (fits_none (waiting s.after) [] j (and_left _ _ g) refl);
}
  where
    at_once : is_unknown s.kind ≡ false → settled? m s ≡ true
    at_once q = sym (pick_false (is_unknown s.kind) (takes? (waiting s.after) && takes? (waiting s.referred)) (settled? m s) q) ∙ e

pub act_fits_lem : (m : Mode) (b : ℕ) → ActFits m b (act m b)
act_fits_lem m b = go (act m b) (act_rule act_fits refl m b) (act_byte m b)
  where
    go : (a : Act) → act_fits m a ≡ true → ByteOf a b → ActFits m b a
    go Stop e d = tt
    go (Go n) e d = passes_fits (waiting m) (waiting n) e
    go (a_residue s n) e d = passes_fits (waiting m) (waiting n) e
    go (Begin s) e d = λ r l f. slot_fits_lem m s r l e f
    go Digit e d = (d, λ r l f. fresh_before (waiting m) r l b e d f)
    go RunEnds e d = tt
    go TermEnds e d = tt
    go Places e d = λ r l f. none_waiting (waiting m) r l e f

-- where a line may end no run waits
pub ends_settled : (m : Mode) (r : List (Bracket ℕ)) (l : List ℕ) → may_end m ≡ true → ModeFits m r l → r ≡ []
ends_settled m r l e = go (ending m e)
  where
    go : {m : Mode} → Ending m → ModeFits m r l → r ≡ []
    go single_ends f = f
    go ranged_ends f = f
    go unsure_ends f = f
    go cterms_end f = f

-- where a reference may stand a label may
pub labels_there : (m : Mode) (b : ℕ) (s : Slot) → act m b ≡ Begin s → s.refers ≡ true → s.labels ≡ true
labels_there m b s e =
    implied s.refers s.labels (subst (λ a. of_slot (λ x. not x.refers || x.labels) a ≡ true) e (act_rule (λ n a. of_slot (λ x. not x.refers || x.labels) a) refl m b))
