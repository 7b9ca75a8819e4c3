-- The digits of a count, read one after the other.
use mathlib.Core.Path.{◌≡◌, refl, sym, ap, ◌∙◌}
use mathlib.Core.Bool.{Bool, true, false, cond}
use mathlib.Core.Option.{none}
use mathlib.Core.List.{List, [], ◌∷◌, ◌++◌}
use Prim.Native.Nat.{ℕ, suc, ◌+◌, ◌*◌, ◌≤◌, ◌<◌}
use native.Mathlib.Omega.{arith}
use native.Mathlib.Numerals.{add-one}
use lib.ListN.{length, drop, get_or, length-drop}
use lib.Seq.{drop-cons, drop-drop}
use Rattle.scope.specs.declared.grammar.Mode.{Mode}
use Rattle.scope.specs.declared.grammar.Mode.TheVariants.{Counting}
use Rattle.scope.specs.declared.grammar.Act.TheVariants.{Digit}
use Rattle.scope.specs.Bytes.{is_digit, value}
use Rattle.scope.specs.Lists.{given, on_last}
use Rattle.scope.specs.Line.{Bracket}
use Rattle.scope.specs.Reading.{Held, State, act, times, count_digit, outside, perform, step, run, ended}
use Rattle.classes.specs.Runs.{span}
use Rattle.numerals.specs.Numerals.{digits_from}
use Rattle.reading_laws.proofs.Run.{rest, rest_step}
use Rattle.basics.specs.Lists.{on_last_lem}

-- the last bracket of the run has the count n, which stands at p
abbrev pub with_count : Held ℕ → List (Bracket ℕ) → Bracket ℕ → ℕ → ℕ → Held ℕ
with_count h ks k n p = record { residues = h.residues; brackets = h.brackets; run = ks ++ (times n p k ∷ []); first = h.first }

digit_more : (h : Held ℕ) (ks : List (Bracket ℕ)) (k : Bracket ℕ) (p i m b : ℕ) → is_digit b ≡ true
    → step i (outside Counting (with_count h ks k m p)) b ≡ outside Counting (with_count h ks k (m * 10 + value b) p)
unfolding step act perform
digit_more h ks k p i m b e =
    rw e (ap (λ t. outside Counting (record { residues = h.residues; brackets = h.brackets; run = t; first = h.first })) (on_last_lem (count_digit i b) ks (times m p k)))

span_more : (b : ℕ) (l : List ℕ) → is_digit b ≡ true → span is_digit (b ∷ l) ≡ suc (span is_digit l)
unfolding span
span_more b l e = ap (λ t. cond t (suc (span is_digit l)) 0) e

span_stop : (b : ℕ) (l : List ℕ) → is_digit b ≡ false → span is_digit (b ∷ l) ≡ 0
unfolding span
span_stop b l e = ap (λ t. cond t (suc (span is_digit l)) 0) e

value_more : (m b : ℕ) (l : List ℕ) → is_digit b ≡ true → digits_from m (b ∷ l) ≡ digits_from (m * 10 + value b) l
unfolding digits_from
value_more m b l e = ap (λ t. cond t (digits_from (m * 10 + value b) l) m) e

value_stop : (m b : ℕ) (l : List ℕ) → is_digit b ≡ false → digits_from m (b ∷ l) ≡ m
unfolding digits_from
value_stop m b l e = ap (λ t. cond t (digits_from (m * 10 + value b) l) m) e

module _ (h : Held ℕ) (ks : List (Bracket ℕ)) (k : Bracket ℕ) (p : ℕ) where
  -- at the place i, with the count d
  abbrev reached : ℕ → ℕ → List ℕ → State ℕ
  reached i d l = run (λ j. j) i (outside Counting (with_count h ks k d p)) l

  reached_same : (i j d e : ℕ) (l m : List ℕ) → i ≡ j → d ≡ e → l ≡ m → reached i d l ≡ reached j e m
  reached_same i j d e l m q r t = ap (λ x. reached x d l) q ∙ ap (λ x. reached j x l) r ∙ ap (reached j e) t

  digits_on : (i m : ℕ) (l : List ℕ) → reached i m l ≡ reached (i + span is_digit l) (digits_from m l) (drop (span is_digit l) l)
  unfolding run span digits_from
  digits_on i m [] = refl
  digits_on i m (b ∷ l) = go (is_digit b) refl (digits_on (i + 1) (m * 10 + value b) l)
    where
      go : (t : Bool) → is_digit b ≡ t
          → reached (i + 1) (m * 10 + value b) l ≡ reached (i + 1 + span is_digit l) (digits_from (m * 10 + value b) l) (drop (span is_digit l) l)
          → reached i m (b ∷ l) ≡ reached (i + span is_digit (b ∷ l)) (digits_from m (b ∷ l)) (drop (span is_digit (b ∷ l)) (b ∷ l))
      go true e ih =
          let s = span_more b l e in
          let n : i + 1 + span is_digit l ≡ i + span is_digit (b ∷ l) = omega (arith, s) in
          ap (λ x. run (λ j. j) (i + 1) x l) (digit_more h ks k p i m b e) ∙ ih
          ∙ reached_same _ _ _ _ _ _ n (sym (value_more m b l e)) (ap (λ n. drop n (b ∷ l)) (sym s))
      go false e ih =
          let s = span_stop b l e in
          let n : i ≡ i + span is_digit (b ∷ l) = omega (arith, s) in
          reached_same _ _ _ _ _ _ n (sym (value_stop m b l e)) (ap (λ n. drop n (b ∷ l)) (sym s))

span_done : (l : List ℕ) → span is_digit (drop (span is_digit l) l) ≡ 0
unfolding span
span_done [] = refl
span_done (b ∷ l) = go (is_digit b) refl (span_done l)
  where
    go : (t : Bool) → is_digit b ≡ t → span is_digit (drop (span is_digit l) l) ≡ 0 → span is_digit (drop (cond t (suc (span is_digit l)) 0) (b ∷ l)) ≡ 0
    go true e ih = ih
    go false e ih = ap (λ t. cond t (suc (span is_digit l)) 0) e

span_low : (l : List ℕ) → span is_digit l ≤ length l
unfolding span
span_low [] = omega arith
span_low (b ∷ l) = go (is_digit b) (span_low l)
  where
    go : (t : Bool) → span is_digit l ≤ length l → cond t (suc (span is_digit l)) 0 ≤ suc (length l)
    go true h = omega arith
    go false h = omega arith

-- the count behind the last bracket of the run, from its first digit on
module _ (line : List ℕ) (at : ℕ) (h : Held ℕ) (ks : List (Bracket ℕ)) (k : Bracket ℕ) (is : h.run ≡ ks ++ (k ∷ [])) (fresh : k.counted ≡ none) where
  first_digit : (m : Mode) (b : ℕ) → act m b ≡ Digit → step at (outside m h) b ≡ outside Counting (with_count h ks k (value b) at)
  unfolding step perform
  first_digit m b e =
      rw e
      (ap (λ t. outside Counting (record { residues = h.residues; brackets = h.brackets; run = t; first = h.first }))
      (ap (on_last (count_digit at b)) is ∙ on_last_lem (count_digit at b) ks k
      ∙ ap (λ o. ks ++ (given o (λ p. times (k.count * 10 + value b) p k) (times (value b) at k) ∷ [])) fresh))

  pub count_read : (m : Mode) → at < length line → act m (get_or line at 0) ≡ Digit → is_digit (get_or line at 0) ≡ true
      → rest line at (outside m h) ≡ rest line (at + span is_digit (drop at line)) (outside Counting (with_count h ks k (digits_from 0 (drop at line)) at))
  unfolding rest
  count_read m here e d =
      let b = get_or line at 0 in
      let l = drop (at + 1) line in
      let c : drop at line ≡ b ∷ l = drop-cons line at 0 here ∙ ap (λ n. b ∷ drop n line) (sym (add-one at)) in
      let s : span is_digit (drop at line) ≡ suc (span is_digit l) = ap (span is_digit) c ∙ span_more b l d in
      let v : digits_from 0 (drop at line) ≡ digits_from (value b) l = ap (digits_from 0) c ∙ value_more 0 b l d ∙ ap (λ n. digits_from n l) (omega arith) in
      let n : at + 1 + span is_digit l ≡ at + span is_digit (drop at line) = omega (arith, s) in
      rest_step line at (outside m h) here
      ∙ ap (λ x. ended (length line) (run (λ j. j) (at + 1) x l)) (first_digit m b e)
      ∙ ap (ended (length line))
      (digits_on h ks k at (at + 1) (value b) l
      ∙ reached_same h ks k at _ _ _ _ _ _ n (sym v) (drop-drop (span is_digit l) (at + 1) line ∙ ap (λ i. drop i line) n))

pub count_stops : (line : List ℕ) (at : ℕ) → span is_digit (drop (at + span is_digit (drop at line)) line) ≡ 0
count_stops line at = ap (span is_digit) (sym (drop-drop (span is_digit (drop at line)) at line)) ∙ span_done (drop at line)

pub count_within : (line : List ℕ) (at : ℕ) → at ≤ length line → at + span is_digit (drop at line) ≤ length line
count_within line at h = let a = span_low (drop at line) in omega (arith, length-drop at line)

pub count_past : (line : List ℕ) (at : ℕ) → at < length line → is_digit (get_or line at 0) ≡ true → 0 < span is_digit (drop at line)
count_past line at h d =
    let b = get_or line at 0 in
    let s : span is_digit (drop at line) ≡ suc (span is_digit (drop (suc at) line)) = ap (span is_digit) (drop-cons line at 0 h) ∙ span_more b (drop (suc at) line) d in
    omega (arith, s)
