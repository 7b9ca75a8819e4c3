-- Laws of feeding: chunks may be cut anywhere, bytes that end no line are held, and there are fewer refused lines than lines.
use Rattle.std.specs.Prelude.{◌≡◌, refl, Bool, true, false, List, [], ◌∷◌, ◌++◌, ℕ, ◌<◌, ◌≤◌, eqb, leb, length, take}
use Rattle.std.proofs.Common.{sym, ap, ◌∙◌, append_assoc, append-nil, arith, leb-true, leb-false, length-take, take_all, take-take, length-take-le}
use Rattle.std.proofs.lemmas.Bool.{false≢true}
use Rattle.std.proofs.lemmas.List.{take-append-le}
use Rattle.basics.specs.Choice.{by_test, branch}
use Rattle.scope.specs.Refusals.{outcome}
use Rattle.entries.specs.Entry.{entry, is_refused}
use Rattle.chunks.specs.Lines.{line_end, refusal}
use Rattle.chunks.specs.Feeding.{hold_limit, Between, holding, kept, behind, ended, stepped, after, put, plain}

-- ---- "fed s (a ++ b)" is fed twice
pub after_append : (s : Between) (a b : List ℕ) → after s (a ++ b) ≡ after (after s a) b
unfolding after
after_append s [] b = refl
after_append s (x ∷ a) b = after_append (stepped (eqb x line_end) s x) a b

pub put_append : (s : Between) (a b : List ℕ) → put s (a ++ b) ≡ put s a ++ put (after s a) b
unfolding put after
put_append s [] b = refl
put_append s (x ∷ a) b =
    let t = stepped (eqb x line_end) s x in
    ap (λ z. ended (eqb x line_end) s ++ z) (put_append t a b) ∙ sym (append_assoc (ended (eqb x line_end) s) (put t a) (put (after t a) b))

-- ---- what is held of a line is the front of it, however it came
pub kept_twice : (h t u : List ℕ) → kept (kept h t) u ≡ kept h (t ++ u)
kept_twice h t u =
    by_test (leb (length (h ++ t)) hold_limit)
    (λ q. ap (λ z. kept z u) (take_all hold_limit (h ++ t) (leb-true (length (h ++ t)) hold_limit q)) ∙ ap (take hold_limit) (append_assoc h t u))
    (λ q.
    let g = leb-false (length (h ++ t)) hold_limit q in
    let l : length (kept h t) ≡ hold_limit = length-take-le hold_limit (h ++ t) (omega arith) in
    take-append-le hold_limit (kept h t) u (omega arith) ∙ take-take hold_limit hold_limit (h ++ t) (omega arith)
    ∙ sym (take-append-le hold_limit (h ++ t) u (omega arith)) ∙ ap (take hold_limit) (append_assoc h t u))

held_front : (h t : List ℕ) → length (kept h t) ≤ hold_limit
held_front h t = omega (arith, length-take hold_limit (h ++ t))

kept_none : (h : List ℕ) → length h ≤ hold_limit → h ≡ kept h []
kept_none h k = sym (ap (take hold_limit) (append-nil h) ∙ take_all hold_limit h k)

-- ---- bytes that end no line
pub after_plain : (n r : ℕ) (h t : List ℕ) → length h ≤ hold_limit → plain t ≡ true → after (holding n r h) t ≡ holding n r (kept h t)
unfolding after plain
after_plain n r h [] k e = ap (holding n r) (kept_none h k)
after_plain n r h (b ∷ t) k e =
    by_test (eqb b line_end) (λ q. absurd (false≢true (rw q at e)))
    (λ q. rw q (after_plain n r (kept h (b ∷ [])) t (held_front h (b ∷ [])) (rw q at e) ∙ ap (holding n r) (kept_twice h (b ∷ []) t)))

pub put_plain : (n r : ℕ) (h t : List ℕ) → plain t ≡ true → put (holding n r h) t ≡ []
unfolding put plain
put_plain n r h [] e = refl
put_plain n r h (b ∷ t) e =
    by_test (eqb b line_end) (λ q. absurd (false≢true (rw q at e))) (λ q. rw q (put_plain n r (kept h (b ∷ [])) t (rw q at e)))

-- ---- a line
pub after_line : (n r : ℕ) (h t : List ℕ) → length h ≤ hold_limit → plain t ≡ true
    → after (holding n r h) (t ++ (line_end ∷ [])) ≡ behind true (holding n r (kept h t))
unfolding after
after_line n r h t k e = after_append (holding n r h) t (line_end ∷ []) ∙ ap (λ s. after s (line_end ∷ [])) (after_plain n r h t k e)

pub put_line : (n r : ℕ) (h t : List ℕ) → length h ≤ hold_limit → plain t ≡ true
    → put (holding n r h) (t ++ (line_end ∷ [])) ≡ ended true (holding n r (kept h t))
unfolding put
put_line n r h t k e =
    put_append (holding n r h) t (line_end ∷ []) ∙ ap (λ z. z ++ put (after (holding n r h) t) (line_end ∷ [])) (put_plain n r h t e)
    ∙ ap (λ s. put s (line_end ∷ [])) (after_plain n r h t k e) ∙ append-nil (entry n (kept h t))

-- ---- fewer lines are refused than the number of the line that comes next
refusal_few : (l : List ℕ) → refusal l ≤ 1
refusal_few l = branch (λ z. z ≤ 1) (is_refused (outcome l)) (omega arith) (omega arith)

step_few : (e : Bool) (s : Between) (b : ℕ) → s.refused < s.number → (stepped e s b).refused < (stepped e s b).number
step_few true s b h = omega (arith, refusal_few s.held)
step_few false s b h = h

pub after_few : (s : Between) (t : List ℕ) → s.refused < s.number → (after s t).refused < (after s t).number
unfolding after
after_few s [] h = h
after_few s (b ∷ t) h = after_few (stepped (eqb b line_end) s b) t (step_few (eqb b line_end) s b h)
