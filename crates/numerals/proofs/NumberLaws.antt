-- Laws of `scan_number`: over a run of digits, and at a place. Assumes nothing.
use Prim.Native.Nat.{ℕ, suc, ◌+◌, ◌-◌, ◌*◌, ◌≤◌, ◌<◌}
use mathlib.Core.Path.{◌≡◌, refl, sym, ap, ◌∙◌}
use mathlib.Core.Bool.{Bool, true, false, cond}
use mathlib.Core.List.{List, [], ◌∷◌}
use native.Mathlib.Numerals.{add-one}
use native.Mathlib.Omega.{arith}
use lib.ListN.{length, get_or, drop, drop_of_length-le}
use lib.Seq.{drop-cons, drop-drop}
use borrow.Author.Tests.{ne_eqb}
use Rattle.scope.specs.Bytes.{is_digit, value}
use Rattle.scope.specs.Content.{signed, whole, pointed, broken, digit_step, number_end, number_of}
use Rattle.classes.specs.Runs.{span}
use Rattle.classes.proofs.Runs.{run_done}
use Rattle.numerals.specs.Numerals.{found, lost, scan_number, num_of, digits_from, DigitsAt}
use Rattle.numerals.specs.declared.Num.{Num}
use Rattle.scope.specs.declared.grammar.Stuck.{Stuck}
use Rattle.std.specs.Prelude.{Result, Err}

module _ (p : ℕ) (s : Bool) where
  -- a run of digits before the point, and behind it
  whole_over : (l : List ℕ) (m i : ℕ)
      → scan_number p (whole s m) l i ≡ scan_number p (whole s (digits_from m l)) (drop (span is_digit l) l) (i + span is_digit l)
  unfolding scan_number digit_step digits_from span
  whole_over [] m i =
      let e : i + 0 ≡ i = omega arith in
      rw e
  whole_over (b ∷ l) m i = go (is_digit b) refl (whole_over l (m * 10 + value b) (i + 1))
    where
      go : (x : Bool) → is_digit b ≡ x
          → scan_number p (whole s (m * 10 + value b)) l (i + 1) ≡ scan_number p (whole s (digits_from (m * 10 + value b) l)) (drop (span is_digit l) l) (i + 1 + span is_digit l)
          → scan_number p (whole s m) (b ∷ l) i
          ≡ scan_number p (whole s (cond x (digits_from (m * 10 + value b) l) m)) (drop (cond x (suc (span is_digit l)) 0) (b ∷ l)) (i + cond x (suc (span is_digit l)) 0)
      go true e ih =
          let f : i + 1 + span is_digit l ≡ i + suc (span is_digit l) = omega arith in
          rw (e, scan_number) (ih ∙ ap (scan_number p (whole s (digits_from (m * 10 + value b) l)) (drop (span is_digit l) l)) f)
      go false e ih =
          let f : i + 0 ≡ i = omega arith in
          rw f

  broken_over : (l : List ℕ) (m d i : ℕ)
      → scan_number p (broken s m d) l i ≡ scan_number p (broken s (digits_from m l) (d + span is_digit l)) (drop (span is_digit l) l) (i + span is_digit l)
  unfolding scan_number digit_step digits_from span
  broken_over [] m d i =
      let e : i + 0 ≡ i = omega arith in
      let f : d + 0 ≡ d = omega arith in
      rw (e, f)
  broken_over (b ∷ l) m d i = go (is_digit b) refl (broken_over l (m * 10 + value b) (d + 1) (i + 1))
    where
      go : (x : Bool) → is_digit b ≡ x
          → scan_number p (broken s (m * 10 + value b) (d + 1)) l (i + 1)
          ≡ scan_number p (broken s (digits_from (m * 10 + value b) l) (d + 1 + span is_digit l)) (drop (span is_digit l) l) (i + 1 + span is_digit l)
          → scan_number p (broken s m d) (b ∷ l) i
          ≡ scan_number p (broken s (cond x (digits_from (m * 10 + value b) l) m) (d + cond x (suc (span is_digit l)) 0)) (drop (cond x (suc (span is_digit l)) 0) (b ∷ l)) (i + cond x (suc (span is_digit l)) 0)
      go true e ih =
          let f : i + 1 + span is_digit l ≡ i + suc (span is_digit l) = omega arith in
          let g : d + 1 + span is_digit l ≡ d + suc (span is_digit l) = omega arith in
          rw (e, scan_number) (ih ∙ ap (λ j. scan_number p (broken s (digits_from (m * 10 + value b) l) (d + 1 + span is_digit l)) (drop (span is_digit l) l) j) f
          ∙ ap (λ k. scan_number p (broken s (digits_from (m * 10 + value b) l) k) (drop (span is_digit l) l) (i + suc (span is_digit l))) g)
      go false e ih =
          let f : i + 0 ≡ i = omega arith in
          let g : d + 0 ≡ d = omega arith in
          rw (f, g)

  -- the first digit: a number that has none yet is read as one of value 0, and one behind the point as one of no decimals
  signed_first : (l : List ℕ) (i : ℕ) → (span is_digit l ≡ 0 → ⊥) → scan_number p (signed s) l i ≡ scan_number p (whole s 0) l i
  unfolding scan_number digit_step span
  signed_first [] i h = absurd (h refl)
  signed_first (b ∷ l) i h = go (is_digit b) refl h
    where
      go : (x : Bool) → is_digit b ≡ x → (cond x (suc (span is_digit l)) 0 ≡ 0 → ⊥) → scan_number p (signed s) (b ∷ l) i ≡ scan_number p (whole s 0) (b ∷ l) i
      go true e k =
          let z : value b ≡ 0 * 10 + value b = omega arith in
          rw (e, scan_number) (ap (λ v. scan_number p (whole s v) l (i + 1)) z)
      go false e k = absurd (k refl)

  signed_none : (l : List ℕ) (i : ℕ) → span is_digit l ≡ 0 → scan_number p (signed s) l i ≡ lost i
  unfolding scan_number digit_step number_end span
  signed_none [] i h = refl
  signed_none (b ∷ l) i h = go (is_digit b) refl h
    where
      go : (x : Bool) → is_digit b ≡ x → cond x (suc (span is_digit l)) 0 ≡ 0 → scan_number p (signed s) (b ∷ l) i ≡ lost i
      go true e k = absurd (omega arith)
      go false e k = rw (e, scan_number)

  pointed_first : (l : List ℕ) (m i : ℕ) → (span is_digit l ≡ 0 → ⊥) → scan_number p (pointed s m) l i ≡ scan_number p (broken s m 0) l i
  unfolding scan_number digit_step span
  pointed_first [] m i h = absurd (h refl)
  pointed_first (b ∷ l) m i h = go (is_digit b) refl h
    where
      go : (x : Bool) → is_digit b ≡ x → (cond x (suc (span is_digit l)) 0 ≡ 0 → ⊥) → scan_number p (pointed s m) (b ∷ l) i ≡ scan_number p (broken s m 0) (b ∷ l) i
      go true e k = rw (e, scan_number)
      go false e k = absurd (k refl)

  pointed_none : (l : List ℕ) (m i : ℕ) → span is_digit l ≡ 0 → scan_number p (pointed s m) l i ≡ lost i
  unfolding scan_number digit_step number_end span
  pointed_none [] m i h = refl
  pointed_none (b ∷ l) m i h = go (is_digit b) refl h
    where
      go : (x : Bool) → is_digit b ≡ x → cond x (suc (span is_digit l)) 0 ≡ 0 → scan_number p (pointed s m) (b ∷ l) i ≡ lost i
      go true e k = absurd (omega arith)
      go false e k = rw (e, scan_number)

  -- where no digit follows
  whole_stop : (l : List ℕ) (m i : ℕ) → span is_digit l ≡ 0 → (get_or l 0 0 ≡ 46 → ⊥) → scan_number p (whole s m) l i ≡ found (number_of p s m 0) i
  unfolding scan_number digit_step number_end span
  whole_stop [] m i h n = refl
  whole_stop (b ∷ l) m i h n = go (is_digit b) refl h
    where
      go : (x : Bool) → is_digit b ≡ x → cond x (suc (span is_digit l)) 0 ≡ 0 → scan_number p (whole s m) (b ∷ l) i ≡ found (number_of p s m 0) i
      go true e k = absurd (omega arith)
      go false e k = rw (e, ne_eqb b 46 n, scan_number)

  broken_stop : (l : List ℕ) (m d i : ℕ) → span is_digit l ≡ 0 → scan_number p (broken s m d) l i ≡ found (number_of p s m d) i
  unfolding scan_number digit_step number_end span
  broken_stop [] m d i h = refl
  broken_stop (b ∷ l) m d i h = go (is_digit b) refl h
    where
      go : (x : Bool) → is_digit b ≡ x → cond x (suc (span is_digit l)) 0 ≡ 0 → scan_number p (broken s m d) (b ∷ l) i ≡ found (number_of p s m d) i
      go true e k = absurd (omega arith)
      go false e k = rw (e, scan_number)

-- at a place of the line t
module _ (p : ℕ) (s : Bool) (t : List ℕ) (at : ℕ) where
  pub whole_end : (m : ℕ) → length t ≤ at → scan_number p (whole s m) (drop at t) at ≡ found (number_of p s m 0) at
  unfolding scan_number number_end
  whole_end m h = rw (drop_of_length-le t h)

  pub whole_point : (m : ℕ) → at < length t → get_or t at 0 ≡ 46
      → scan_number p (whole s m) (drop at t) at ≡ scan_number p (pointed s m) (drop (at + 1) t) (at + 1)
  unfolding scan_number digit_step
  whole_point m h e = rw (drop-cons t at 0 h, add-one at, e, scan_number)

  pub whole_other : (m : ℕ) → at < length t → (get_or t at 0 ≡ 46 → ⊥) → span is_digit (drop at t) ≡ 0
      → scan_number p (whole s m) (drop at t) at ≡ found (number_of p s m 0) at
  whole_other m h n e =
      let c = drop-cons t at 0 h in
      rw c (whole_stop p s (get_or t at 0 ∷ drop (suc at) t) m at (rw c at e) n)

  module _ {v w k : ℕ} (d : DigitsAt t at v w k) where
    no_digit : k ≡ at → span is_digit (drop at t) ≡ 0
    no_digit e = omega (arith, d.ends)

    a_digit : (k ≡ at → ⊥) → span is_digit (drop at t) ≡ 0 → ⊥
    a_digit n e = n (omega (arith, d.ends))

    ends_at : drop (span is_digit (drop at t)) (drop at t) ≡ drop k t
    ends_at = drop-drop (span is_digit (drop at t)) at t ∙ ap (λ j. drop j t) (sym d.ends)

    pub sign_none : k ≡ at → Err (record { at = at }) ≡ num_of (scan_number p (signed s) (drop at t) at)
    sign_none e = ap num_of (sym (signed_none p s (drop at t) at (no_digit e)))

    pub sign_some : {r : Result Num Stuck} → (k ≡ at → ⊥) → r ≡ num_of (scan_number p (whole s (digits_from 0 (drop at t))) (drop k t) k)
        → r ≡ num_of (scan_number p (signed s) (drop at t) at)
    sign_some n q =
        q
        ∙ ap num_of (sym
        (signed_first p s (drop at t) at (a_digit n) ∙ whole_over p s (drop at t) 0 at
        ∙ ap (λ l. scan_number p (whole s (digits_from 0 (drop at t))) l (at + span is_digit (drop at t))) ends_at
        ∙ ap (λ j. scan_number p (whole s (digits_from 0 (drop at t))) (drop k t) j) (sym d.ends)))

    pub point_none : (m : ℕ) → k ≡ at → Err (record { at = at }) ≡ num_of (scan_number p (pointed s m) (drop at t) at)
    point_none m e = ap num_of (sym (pointed_none p s (drop at t) m at (no_digit e)))

    pub point_some : (m : ℕ) {r : Result Num Stuck} → (k ≡ at → ⊥) → r ≡ num_of (found (number_of p s (digits_from m (drop at t)) (k - at)) k)
        → r ≡ num_of (scan_number p (pointed s m) (drop at t) at)
    point_some m n q =
        let g : 0 + span is_digit (drop at t) ≡ k - at = omega (arith, d.ends) in
        q
        ∙ ap num_of (sym
        (pointed_first p s (drop at t) m at (a_digit n) ∙ broken_over p s (drop at t) m 0 at
        ∙ ap (λ l. scan_number p (broken s (digits_from m (drop at t)) (0 + span is_digit (drop at t))) l (at + span is_digit (drop at t))) ends_at
        ∙ ap (λ j. scan_number p (broken s (digits_from m (drop at t)) (0 + span is_digit (drop at t))) (drop k t) j) (sym d.ends)
        ∙ ap (λ z. scan_number p (broken s (digits_from m (drop at t)) z) (drop k t) k) g
        ∙ broken_stop p s (drop k t) (digits_from m (drop at t)) (k - at) k (run_done is_digit t at k d.ends)))
