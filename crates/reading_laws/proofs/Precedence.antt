-- "the lowest number wins, at its first place in the line": the first that is due, over any list of refusals and over the refusals of a line.
use Rattle.std.specs.Prelude.{ℕ, ◌*◌, ◌≤◌, ◌<◌, min, ◌≡◌, refl, ◌↔◌, ◌⊎◌, Bool, true, false, cond, List, [], ◌∷◌, ◌++◌, eqb, leb}
use Rattle.std.proofs.Common.{arith, sym, ap, ◌∙◌, subst, inl, inr, eqb-true, eq-eqb, ne_eqb, leb-true, leb-false}
use Rattle.std.proofs.Math.Option.{Option, none, some}
use Rattle.std.proofs.lemmas.Bool.{eqb-false}
use Rattle.scope.specs.Line.{Line}
use Rattle.scope.specs.Lists.{given}
use Rattle.scope.specs.Reading.{Reading, stuck, holds, reading}
use Rattle.scope.specs.Kept.{kept}
use Rattle.scope.specs.Refusals.{least, refusal4, Due, due, Outcome, accepted, refused, first_due, judged, byte_refusals, outcome}
use Rattle.basics.specs.Choice.{pick_false, by_test, branch_on}
use Rattle.basics.specs.Each.{In, each_in, each_one}
use Rattle.reading_laws.specs.Laws.{Clear, First, Least, places_of, Lowest, behind, dues, KeptOf}

-- ---- the first place of a list
least_first : (x : ℕ) (l : List ℕ) → Least (x ∷ l) (given (least l) (min x) x)
unfolding least
least_first x [] = record { member = inl refl; lower = (omega arith, tt) }
least_first x (y ∷ l) = more (given (least l) (min y) y) (least_first y l)
  where
    more : (m : ℕ) → Least (y ∷ l) m → Least (x ∷ y ∷ l) (min x m)
    more m r = record {
      member = go (leb x m) refl;
      lower = (omega arith, each_one (λ j. m ≤ j) (λ j. min x m ≤ j) (λ j h. omega arith) (y ∷ l) r.lower);
    }
      where
        go : (t : Bool) → leb x m ≡ t → In (min x m) (x ∷ y ∷ l)
        go true e = inl (omega (arith, leb-true x m e))
        go false e = let n : m ≡ min x m = omega (arith, leb-false x m e) in inr (subst (λ z. In z (y ∷ l)) n r.member)

least_unique : (l : List ℕ) (i j : ℕ) → Least l i → Least l j → i ≡ j
least_unique l i j p q = omega (arith, each_in (λ k. i ≤ k) l j q.member p.lower, each_in (λ k. j ≤ k) l i p.member q.lower)

pub least_some : (l : List ℕ) (i : ℕ) → least l ≡ some i ↔ Least l i
unfolding least
least_some [] i = ((λ e. let z : ◌≡◌ {A = ℕ} 0 1 = cc in absurd (omega arith)), (λ p. absurd p.member))
least_some (x ∷ l) i =
    let r : Least (x ∷ l) (given (least l) (min x) x) = least_first x l in (
      (λ e. let n : given (least l) (min x) x ≡ i = cc in subst (Least (x ∷ l)) n r),
      (λ p. ap some (least_unique (x ∷ l) (given (least l) (min x) x) i r p)),
    )

pub least_none : (l : List ℕ) → least l ≡ none ↔ (l ≡ [])
unfolding least
least_none [] = ((λ e. refl), (λ e. refl))
least_none (x ∷ l) = (
  (λ e. let z : ◌≡◌ {A = ℕ} 0 1 = cc in absurd (omega arith)),
  (λ e. let z : ◌≡◌ {A = ℕ} 0 1 = cc in absurd (omega arith)),
)

not_least : (l : List ℕ) (i : ℕ) → Least l i → l ≡ [] → ⊥
not_least [] i p e = p.member
not_least (x ∷ l) i p e = let z : ◌≡◌ {A = ℕ} 0 1 = cc in omega arith

-- ---- any list of refusals
pub clear_due : (ds : List Due) (o : Outcome) → Clear ds → first_due ds o ≡ o
unfolding first_due least
clear_due [] o c = refl
clear_due (d ∷ ds) o c = rw c.0 (clear_due ds o c.1)

skip_clear : (a b : List Due) (o : Outcome) → Clear a → first_due (a ++ b) o ≡ first_due b o
unfolding first_due least
skip_clear [] b o c = refl
skip_clear (d ∷ a) b o c = rw c.0 (skip_clear a b o c.1)

first_due_lem : (ds : List Due) (o : Outcome) (k i : ℕ) → First ds k i → first_due ds o ≡ refused k i
unfolding first_due
first_due_lem ds o k i f =
    ap (λ x. first_due x o) f.whole
    ∙ skip_clear f.before (due k f.places ∷ f.after) o f.clear
    ∙ ap (λ p. given p (refused k) (first_due f.after o)) ((least_some f.places i).1 f.at)

-- one more refusal that is not due
first_later : (d : Due) (ds : List Due) (k i : ℕ) → d.places ≡ [] → First ds k i → First (d ∷ ds) k i
first_later d ds k i e f =
    record { before = d ∷ f.before; places = f.places; after = f.after; whole = ap (λ x. d ∷ x) f.whole; clear = (e, f.clear); at = f.at }

first_here : (d : Due) (ds : List Due) (i : ℕ) → Least d.places i → First (d ∷ ds) d.number i
first_here d ds i e = record { before = []; places = d.places; after = ds; whole = refl; clear = tt; at = e }

due_cases : (ds : List Due) (o : Outcome) (k i : ℕ) → first_due ds o ≡ refused k i → First ds k i ⊎ (Clear ds × (o ≡ refused k i))
unfolding first_due
due_cases [] o k i e = inr (tt, e)
due_cases (d ∷ ds) o k i e = go (least d.places) refl (due_cases ds o k i)
  where
    here : (p : ℕ) → least d.places ≡ some p → refused d.number p ≡ refused k i → First (d ∷ ds) k i
    here p q r =
        let n : d.number ≡ k = cc in
        let m : p ≡ i = cc in
        subst (λ x. First (d ∷ ds) x i) n (first_here d ds i ((least_some d.places i).0 (q ∙ ap some m)))

    later : d.places ≡ [] → First ds k i ⊎ (Clear ds × (o ≡ refused k i)) → First (d ∷ ds) k i ⊎ (Clear (d ∷ ds) × (o ≡ refused k i))
    later q (inl f) = inl (first_later d ds k i q f)
    later q (inr c) = inr ((q, c.0), c.1)

    go : (p : Option ℕ) → least d.places ≡ p → (first_due ds o ≡ refused k i → First ds k i ⊎ (Clear ds × (o ≡ refused k i)))
        → First (d ∷ ds) k i ⊎ (Clear (d ∷ ds) × (o ≡ refused k i))
    go (some p) q ih = inl (here p q (rw q at e))
    go none q ih = later ((least_none d.places).0 q) (ih (rw q at e))

pub first_due_law : (ds : List Due) (o : Outcome) (k i : ℕ) → first_due ds o ≡ refused k i ↔ (First ds k i ⊎ (Clear ds × (o ≡ refused k i)))
first_due_law ds o k i = (due_cases ds o k i, back)
  where
    back : First ds k i ⊎ (Clear ds × (o ≡ refused k i)) → first_due ds o ≡ refused k i
    back (inl f) = first_due_lem ds o k i f
    back (inr c) = clear_due ds o c.0 ∙ c.1

-- ---- when a number is tried: in the order of the numbers, but 21 "after 10". No refusal before a number is due exactly when none that is tried before it is
turn : ℕ → ℕ
turn k = cond (eqb k 21) 21 (2 * k)

turn_of : (k : ℕ) → (k ≡ 21 → ⊥) → turn k ≡ 2 * k
unfolding turn
turn_of k h = pick_false (eqb k 21) 21 (2 * k) (ne_eqb k 21 h)

turn_late : turn 21 ≡ 21
unfolding turn
turn_late = refl

same_turn : (j k : ℕ) → turn j ≡ turn k → j ≡ k
unfolding turn
same_turn j k = go (eqb j 21) (eqb k 21) refl refl
  where
    go : (t u : Bool) → eqb j 21 ≡ t → eqb k 21 ≡ u → cond t 21 (2 * j) ≡ cond u 21 (2 * k) → j ≡ k
    go true true p q e = eqb-true j 21 p ∙ sym (eqb-true k 21 q)
    go true false p q e = absurd (omega arith)
    go false true p q e = absurd (omega arith)
    go false false p q e = omega arith

-- each is tried after the one before it, and the first after n
Rising : ℕ → List Due → Type 0
Rising n [] = Unit {0}
Rising n (d ∷ ds) = (n < turn d.number) × Rising (turn d.number) ds

-- a number is due, first at a place, and none that is tried before it at any
Foremost : List Due → ℕ → ℕ → Type 0
Foremost ds k i = Least (places_of ds k) i × ((j : ℕ) → turn j < turn k → places_of ds j ≡ [])

-- a number that is not tried after the first bound is not due
low_none : (n : ℕ) (ds : List Due) (k : ℕ) → Rising n ds → turn k ≤ n → places_of ds k ≡ []
unfolding Rising places_of
low_none n [] k r h = refl
low_none n (d ∷ ds) k r h =
    let e : eqb d.number k ≡ false = ne_eqb d.number k (λ q. let t = ap turn q in omega (arith, r.0)) in
    rw e (low_none (turn d.number) ds k r.1 (omega (arith, r.0)))

clear_none : (ds : List Due) (k : ℕ) → Clear ds → places_of ds k ≡ []
unfolding places_of
clear_none [] k c = refl
clear_none (d ∷ ds) k c = branch_on (λ x. x ≡ []) (eqb d.number k) (λ e. c.0) (λ e. clear_none ds k c.1)

foremost_here : (ps : List ℕ) (ds : List Due) (k i : ℕ) → Least ps i → Rising (turn k) ds → Foremost (due k ps ∷ ds) k i
unfolding places_of Foremost
foremost_here ps ds k i p r =
    (rw (eq-eqb k k refl) p, λ j h. rw (ne_eqb k j (λ e. let t = ap turn e in omega arith)) (low_none (turn k) ds j r (omega arith)))

foremost_later : (d : Due) (ds : List Due) (k i : ℕ) → turn d.number < turn k → d.places ≡ [] → Foremost ds k i → Foremost (d ∷ ds) k i
unfolding places_of Foremost
foremost_later d ds k i h e p = (
  rw (ne_eqb d.number k (λ q. let t = ap turn q in omega arith)) p.0,
  λ j l. branch_on (λ x. x ≡ []) (eqb d.number j) (λ q. e) (λ q. p.1 j l),
)

rising_clear : (n : ℕ) (a b : List Due) (ps : List ℕ) (k i : ℕ) → Least ps i → Clear a → Rising n (a ++ (due k ps ∷ b))
    → (n < turn k) × Foremost (a ++ (due k ps ∷ b)) k i
unfolding Rising
rising_clear n [] b ps k i q c r = (r.0, foremost_here ps b k i q r.1)
rising_clear n (d ∷ a) b ps k i q c r =
    let p = rising_clear (turn d.number) a b ps k i q c.1 r.1 in
    (omega (arith, r.0, p.0), foremost_later d (a ++ (due k ps ∷ b)) k i p.0 c.0 p.1)

rising_first : (ds : List Due) (k i : ℕ) → Rising 0 ds → First ds k i → Foremost ds k i
rising_first ds k i r f =
    rw f.whole (rising_clear 0 f.before f.after f.places k i f.at f.clear (rw f.whole at r)).1

-- ---- the refusals of a line
dues_rising : (s : List ℕ) → Rising 0 (dues s)
unfolding dues Rising turn
dues_rising s = go (reading s)
  where
    above : (r : Reading) → Rising (turn 4) (behind r)
    above (stuck i) = tt
    above (holds l) =
        (omega arith, (omega arith, (omega arith, (omega arith, (omega arith, (omega arith, (omega arith, (omega arith, (omega arith, (omega arith, tt))))))))))

    go : (r : Reading) → Rising 0 (byte_refusals s ++ (due 4 (refusal4 r) ∷ behind r))
    go r = (omega arith, (omega arith, (omega arith, (omega arith, above r))))

-- what is left where none is due; where the line is stuck, 4 is
last : Reading → Outcome
last (stuck i) = refused 4 i
last (holds l) = accepted (kept l)

judged_dues : (r : Reading) → judged r ≡ first_due (due 4 (refusal4 r) ∷ behind r) (last r)
unfolding first_due least last
judged_dues (stuck i) = refl
judged_dues (holds l) = refl

first_due_append : (a b : List Due) (o : Outcome) → first_due (a ++ b) o ≡ first_due a (first_due b o)
unfolding first_due
first_due_append [] b o = refl
first_due_append (d ∷ a) b o = ap (given (least d.places) (refused d.number)) (first_due_append a b o)

outcome_dues : (s : List ℕ) → outcome s ≡ first_due (dues s) (last (reading s))
unfolding outcome dues
outcome_dues s =
    ap (first_due (byte_refusals s)) (judged_dues (reading s))
    ∙ sym (first_due_append (byte_refusals s) (due 4 (refusal4 (reading s)) ∷ behind (reading s)) (last (reading s)))

-- where none is due the line is of the order
last_accepted : (r : Reading) (k i : ℕ) → refusal4 r ≡ [] → last r ≡ refused k i → ⊥
unfolding last
last_accepted (stuck j) k i p q = let z : ◌≡◌ {A = ℕ} 0 1 = cc in omega arith
last_accepted (holds l) k i p q = let z : ◌≡◌ {A = ℕ} 0 1 = cc in omega arith

last_holds : (r : Reading) (l : Line ℕ) → last r ≡ accepted l → (t : Line ℕ) × (r ≡ holds t) × (l ≡ kept t)
unfolding last
last_holds (stuck j) l q = let z : ◌≡◌ {A = ℕ} 0 1 = cc in absurd (omega arith)
last_holds (holds t) l q = (t, refl, cc)

at_four : (s : List ℕ) → places_of (dues s) 4 ≡ refusal4 (reading s)
unfolding dues places_of
at_four s = refl

-- a number is given: it is the first that is due
given_first : (s : List ℕ) (k i : ℕ) → outcome s ≡ refused k i → First (dues s) k i
given_first s k i e = go (due_cases (dues s) (last (reading s)) k i (sym (outcome_dues s) ∙ e))
  where
    go : First (dues s) k i ⊎ (Clear (dues s) × (last (reading s) ≡ refused k i)) → First (dues s) k i
    go (inl f) = f
    go (inr c) = absurd (last_accepted (reading s) k i (sym (at_four s) ∙ clear_none (dues s) 4 c.0) c.1)

given_foremost : (s : List ℕ) (k i : ℕ) → outcome s ≡ refused k i → Foremost (dues s) k i
given_foremost s k i e = rising_first (dues s) k i (dues_rising s) (given_first s k i e)

pub given_least : (s : List ℕ) (k i : ℕ) → outcome s ≡ refused k i → Least (places_of (dues s) k) i
unfolding Foremost
given_least s k i e = (given_foremost s k i e).0

-- a line is accepted: none is due
pub clear_cases : (ds : List Due) (o : Outcome) (l : Line ℕ) → first_due ds o ≡ accepted l → Clear ds × (o ≡ accepted l)
unfolding first_due
clear_cases [] o l e = (tt, e)
clear_cases (d ∷ ds) o l e = go (least d.places) refl (clear_cases ds o l)
  where
    go : (p : Option ℕ) → least d.places ≡ p → (first_due ds o ≡ accepted l → Clear ds × (o ≡ accepted l)) → Clear (d ∷ ds) × (o ≡ accepted l)
    go (some p) q ih =
        let f : refused d.number p ≡ accepted l = rw q at e in
        let z : ◌≡◌ {A = ℕ} 0 1 = cc in
        absurd (omega arith)
    go none q ih = let c = ih (rw q at e) in (((least_none d.places).0 q, c.0), c.1)

accepted_none : (s : List ℕ) (l : Line ℕ) → outcome s ≡ accepted l → KeptOf s l × ((k : ℕ) → places_of (dues s) k ≡ [])
accepted_none s l e =
    let c = clear_cases (dues s) (last (reading s)) l (sym (outcome_dues s) ∙ e) in
    (last_holds (reading s) l c.1, λ k. clear_none (dues s) k c.0)

-- and conversely
foremost_unique : (ds : List Due) (k i m j : ℕ) → Foremost ds k i → Foremost ds m j → (k ≡ m) × (i ≡ j)
unfolding Foremost
foremost_unique ds k i m j p q =
    let u : turn k < turn m → ⊥ = λ h. not_least (places_of ds k) i p.0 (q.1 k h) in
    let v : turn m < turn k → ⊥ = λ h. not_least (places_of ds m) j q.0 (p.1 m h) in
    let t : turn k ≡ turn m = omega (arith, u, v) in
    let e : k ≡ m = same_turn k m t in
    (e, least_unique (places_of ds m) i j (subst (λ x. Least (places_of ds x) i) e p.0) q.0)

foremost_given : (s : List ℕ) (k i : ℕ) → Foremost (dues s) k i → outcome s ≡ refused k i
unfolding Foremost
foremost_given s k i p = go (outcome s) refl
  where
    go : (o : Outcome) → outcome s ≡ o → outcome s ≡ refused k i
    go (accepted l) e = absurd (not_least (places_of (dues s) k) i p.0 ((accepted_none s l e).1 k))
    go (refused m j) e =
        let u = foremost_unique (dues s) k i m j p (given_foremost s m j e) in
        let a = u.0 in
        let b = u.1 in
        cc

-- of 1 to 12: tried before one of them are those below it, and 21 where it is above 10
lowest_foremost : (ds : List Due) (k i : ℕ) → k ≤ 12 → Foremost ds k i ↔ Lowest ds k i
unfolding Foremost
lowest_foremost ds k i h = (
  (λ p. (p.0, (λ j l. p.1 j (omega (arith, turn_of j (λ e. omega arith), own))), (λ l. p.1 21 (omega (arith, turn_late, own))))),
  (λ p. (p.0, λ j l. by_test (eqb j 21) (λ e. let z = eqb-true j 21 e in rw z (p.2 (omega (arith, ap turn z, turn_late, own)))) (λ e. p.1 j (omega (arith, turn_of j (eqb-false j 21 e), own))))),
)
  where
    own : turn k ≡ 2 * k
    own = turn_of k (λ e. omega arith)

none_accepted : (s : List ℕ) (l : Line ℕ) → KeptOf s l × ((k : ℕ) → places_of (dues s) k ≡ []) → outcome s ≡ accepted l
none_accepted s l p = go (outcome s) refl
  where
    go : (o : Outcome) → outcome s ≡ o → outcome s ≡ accepted l
    go (accepted t) e =
        let a = (accepted_none s t e).0 in
        let b = p.0 in
        let f : holds a.0 ≡ holds b.0 = sym a.1 ∙ b.1 in
        let g : a.0 ≡ b.0 = cc in
        e ∙ ap accepted (a.2 ∙ ap kept g ∙ sym b.2)
    go (refused m j) e = absurd (not_least (places_of (dues s) m) j (given_least s m j e) (p.1 m))

pub refused_law : (s : List ℕ) (k i : ℕ) → outcome s ≡ refused k i ↔ First (dues s) k i
refused_law s k i = (given_first s k i, λ f. outcome_dues s ∙ first_due_lem (dues s) (last (reading s)) k i f)

pub lowest_law : (s : List ℕ) (k i : ℕ) → k ≤ 12 → outcome s ≡ refused k i ↔ Lowest (dues s) k i
lowest_law s k i h =
    let w = lowest_foremost (dues s) k i h in
    ((λ e. w.0 (given_foremost s k i e)), (λ p. foremost_given s k i (w.1 p)))

pub accepted_law : (s : List ℕ) (l : Line ℕ) → outcome s ≡ accepted l ↔ (KeptOf s l × ((k : ℕ) → places_of (dues s) k ≡ []))
accepted_law s l = (accepted_none s l, none_accepted s l)
