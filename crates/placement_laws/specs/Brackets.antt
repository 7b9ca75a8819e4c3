-- Further copies, by the brackets of a line: a floater is a further copy exactly where the floater before it is of the same bracket. So copies ascend, by their marks, exactly
-- where of any two floaters of one bracket the later stands higher; and a run of marks is one bracket's copies.
use Rattle.std.specs.Prelude.{◌≡◌, ◌↔◌, true, ℕ, zero, suc, ◌+◌, ◌-◌, ◌<◌, ◌≤◌, get_or}
use Rattle.std.proofs.Math.Path.{refl, sym, ap}
use Rattle.std.proofs.Common.{◌∙◌, subst, ⊎_elim, arith, length-append, get_or-append-add, lt-ltb}
use Rattle.std.proofs.lemmas.Bool.{false≢true}
use mathlib.Core.List.{List, [], ◌∷◌, ◌++◌}
use Rattle.std.proofs.Math.ListN.{length, replicate, get_or-append, get_or-map}
use Rattle.std.proofs.lemmas.List.{length-replicate}
use Rattle.scope.specs.Line.{Bracket, Line}
use Rattle.scope.specs.Lists.{flat}
use Rattle.scope.specs.Modifications.{copies}
use Rattle.scope.specs.Positions.{floaters, Copy, copies_at, copies_from, floaters_by, copies_of, is_further, floating_of}
use Rattle.basics.specs.Tests.{same?, below?}
use Rattle.basics.specs.Tabled.{length_tabled, get_d_tabled}
use Rattle.placement_laws.specs.Standing.{Ascent}
use Rattle.placement_laws.specs.Terms.{marked, bracket_at, OneRun, Reordered, Rearranged}
use Rattle.placement_laws.specs.Lines.{line_many}

-- the copy at a place of a list, or none
abbrev no_copy : Copy
no_copy = record { bracket = 0; copy = 0 }

abbrev at : List Copy → ℕ → Copy
at l s = get_or l s no_copy

-- ---- the copies of one bracket, and those behind them
module _ (i n : ℕ) (m : List Copy) where
  abbrev one : ℕ → Copy
  one c = record { bracket = i; copy = c }

  abbrev all : List Copy
  all = copies_at i n ++ m

  many : length all ≡ n + length m
  many = length-append (copies_at i n) m ∙ ap (λ k. k + length m) (length_tabled one 1 n)

  own : (s : ℕ) → s < n → at all s ≡ one (1 + s)
  own s l =
      get_or-append (copies_at i n) m no_copy s (omega (arith, length_tabled one 1 n))
      ∙ get_d_tabled one 1 n s no_copy l

  behind : (j : ℕ) → at all (n + j) ≡ at m j
  behind j =
      ap (λ k. at all (k + j)) (sym (length_tabled one 1 n)) ∙ get_or-append-add (copies_at i n) m j no_copy

  past : (s : ℕ) → n ≤ s → at all s ≡ at m (s - n)
  past s l = let e : s ≡ n + (s - n) = omega arith in ap (at all) e ∙ behind (s - n)

-- the copies of brackets from number i on: brackets rise, and what is a further copy is of the bracket before it
pub record Numbered (i : ℕ) (l : List Copy) : Type 0 where
  pub low : (s : ℕ) → s < length l → i ≤ (at l s).bracket
  pub first : 0 < length l → (at l 0).copy ≡ 1
  pub rising : (s : ℕ) → s + 1 < length l → (at l s).bracket ≤ (at l (s + 1)).bracket
  pub further : (s : ℕ) → s + 1 < length l → is_further (at l (s + 1)).copy ≡ true → (at l s).bracket ≡ (at l (s + 1)).bracket
  pub same : (s : ℕ) → s + 1 < length l → (at l s).bracket ≡ (at l (s + 1)).bracket → is_further (at l (s + 1)).copy ≡ true

none : (i : ℕ) → Numbered i []
none i =
    record {
      low = λ s l. absurd (omega arith);
      first = λ l. absurd (omega arith);
      rising = λ s l. absurd (omega arith);
      further = λ s l. absurd (omega arith);
      same = λ s l. absurd (omega arith);
    }

joined : (i n : ℕ) (m : List Copy) → Numbered (i + 1) m → Numbered i (copies_at i n ++ m)
joined i n m h = record { low = low; first = first; rising = rising; further = further; same = same }
  where
    whole : length (all i n m) ≡ n + length m
    whole = many i n m

    -- one of the bracket's own; behind them
    bracket_own : (s : ℕ) → s < n → (at (all i n m) s).bracket ≡ i
    bracket_own s l = ap (λ c. c.bracket) (own i n m s l)

    bracket_past : (s : ℕ) → n ≤ s → (at (all i n m) s).bracket ≡ (at m (s - n)).bracket
    bracket_past s l = ap (λ c. c.bracket) (past i n m s l)

    later : (s : ℕ) → n ≤ s → s < length (all i n m) → i < (at (all i n m) s).bracket
    later s l k = omega (arith, bracket_past s l, h.low (s - n) (omega (arith, whole)))

    low : (s : ℕ) → s < length (all i n m) → i ≤ (at (all i n m) s).bracket
    low s k = ⊎_elim (λ l. omega (arith, bracket_own s l)) (λ l. omega (arith, later s l k)) (below? s n)

    -- the first of those behind them is a first copy
    copy_past : (s : ℕ) → s ≡ n → s < length (all i n m) → (at (all i n m) s).copy ≡ 1
    copy_past s e k =
        let z : s - n ≡ 0 = omega arith in
        ap (λ c. c.copy) (past i n m s (omega arith)) ∙ ap (λ j. (at m j).copy) z ∙ h.first (omega (arith, whole))

    first : 0 < length (all i n m) → (at (all i n m) 0).copy ≡ 1
    first k = ⊎_elim (λ l. ap (λ c. c.copy) (own i n m 0 l)) (λ l. copy_past 0 (omega arith) k) (below? 0 n)

    -- s and the one behind it, both behind the bracket's own
    next : (s : ℕ) → n ≤ s → at (all i n m) (s + 1) ≡ at m (s - n + 1)
    next s l = let e : s + 1 - n ≡ s - n + 1 = omega arith in past i n m (s + 1) (omega arith) ∙ ap (at m) e

    rising : (s : ℕ) → s + 1 < length (all i n m) → (at (all i n m) s).bracket ≤ (at (all i n m) (s + 1)).bracket
    rising s k = ⊎_elim
        (λ l. omega (arith, bracket_own s l, low (s + 1) k))
        (λ l. omega (arith, bracket_past s l, ap (λ c. c.bracket) (next s l), h.rising (s - n) (omega (arith, whole))))
        (below? s n)

    further : (s : ℕ) → s + 1 < length (all i n m) → is_further (at (all i n m) (s + 1)).copy ≡ true → (at (all i n m) s).bracket ≡ (at (all i n m) (s + 1)).bracket
    further s k e = ⊎_elim
        (λ (l : s + 1 < n). bracket_own s (omega arith) ∙ sym (bracket_own (s + 1) l))
        (λ (l : n ≤ s + 1). ⊎_elim
        (λ (q : s + 1 ≡ n). absurd (false≢true (sym (ap is_further (copy_past (s + 1) q k)) ∙ e)))
        (λ q. let o : n ≤ s = omega arith in bracket_past s o ∙ h.further (s - n) (omega (arith, whole)) (sym (ap (λ c. is_further c.copy) (next s o)) ∙ e) ∙ sym (ap (λ c. c.bracket) (next s o)))
        (same? (s + 1) n))
        (below? (s + 1) n)

    same : (s : ℕ) → s + 1 < length (all i n m) → (at (all i n m) s).bracket ≡ (at (all i n m) (s + 1)).bracket → is_further (at (all i n m) (s + 1)).copy ≡ true
    same s k e = ⊎_elim
        (λ (l : s + 1 < n). ap (λ c. is_further c.copy) (own i n m (s + 1) l) ∙ lt-ltb 1 (1 + (s + 1)) (omega arith))
        (λ (l : n ≤ s + 1). ⊎_elim
        (λ (q : s < n). absurd (omega (arith, bracket_own s q, later (s + 1) l k, e)))
        (λ (q : n ≤ s). ap (λ c. is_further c.copy) (next s q) ∙ h.same (s - n) (omega (arith, whole)) (sym (bracket_past s q) ∙ e ∙ ap (λ c. c.bracket) (next s q)))
        (below? s n))
        (below? (s + 1) n)

module _ {P : Type 0} where
  numbered : (i : ℕ) (ks : List (Bracket P)) → Numbered i (copies_from i ks)
  unfolding copies_from
  numbered i [] = none i
  numbered i (k ∷ ks) = joined i (copies k) (copies_from (i + 1) ks) (numbered (i + 1) ks)

  as_many : (i : ℕ) (ks : List (Bracket P)) → length (copies_from i ks) ≡ length (flat (λ k. replicate (copies k) k) ks)
  unfolding copies_from flat
  as_many i [] = refl
  as_many i (k ∷ ks) =
      many i (copies k) (copies_from (i + 1) ks) ∙ ap (λ n. copies k + n) (as_many (i + 1) ks)
      ∙ sym (length-append (replicate (copies k) k) (flat (λ k. replicate (copies k) k) ks) ∙ ap (λ n. n + length (flat (λ k. replicate (copies k) k) ks)) (length-replicate (copies k) k))

  module _ (t : Line P) where
    abbrev size : ℕ
    size = length (floaters t)

    enough : length (floaters_by t) ≡ size
    unfolding floaters
    enough = as_many 0 t.brackets

    by : Numbered 0 (floaters_by t)
    by = numbered 0 t.brackets

    bracket_of_lem : (s : ℕ) → bracket_at t s ≡ (at (floaters_by t) s).bracket
    bracket_of_lem s = get_or-map (λ c. c.bracket) (floaters_by t) s no_copy

    mark_of : (s : ℕ) → marked (floating_of t) s ≡ is_further (at (floaters_by t) s).copy
    mark_of s = get_or-map is_further (copies_of (floaters_by t)) s 0 ∙ ap is_further (get_or-map (λ c. c.copy) (floaters_by t) s no_copy)

    -- a further copy is of the bracket of the floater before it, and what is of that bracket is a further copy
    pub further_same : (s : ℕ) → s + 1 < size → (marked (floating_of t) (s + 1) ≡ true) ↔ (bracket_at t s ≡ bracket_at t (s + 1))
    further_same s l = (
      (λ m. bracket_of_lem s ∙ by.further s (omega (arith, enough)) (sym (mark_of (s + 1)) ∙ m) ∙ sym (bracket_of_lem (s + 1))),
      λ e. mark_of (s + 1) ∙ by.same s (omega (arith, enough)) (sym (bracket_of_lem s) ∙ e ∙ bracket_of_lem (s + 1)),
    )

    rises : (s r : ℕ) → s ≤ r → r < size → bracket_at t s ≤ bracket_at t r
    rises s zero l h = let e : s ≡ 0 = omega arith in rw e (omega arith)
    rises s (suc r) l h = ⊎_elim
        (λ (q : s < suc r).
        let e : r + 1 ≡ suc r = omega arith in
        let z = by.rising r (omega (arith, enough)) in
        omega (arith, rises s r (omega arith) (omega arith), bracket_of_lem r, bracket_of_lem (suc r), ap (λ k. (at (floaters_by t) k).bracket) e, z))
        (λ (q : suc r ≤ s). let e : s ≡ suc r = omega arith in rw e (omega arith))
        (below? s (suc r))

    -- between two floaters of one bracket all are further copies
    between : (s r : ℕ) → r < size → bracket_at t s ≡ bracket_at t r → (x : ℕ) → s < x → x ≤ r → marked (floating_of t) x ≡ true
    between s r h e zero l m = absurd (omega arith)
    between s r h e (suc x) l m =
        let i : x + 1 ≡ suc x = omega arith in
        subst (λ k. marked (floating_of t) k ≡ true) i
        ((further_same x (omega arith)).1 (omega (arith, ap (bracket_at t) i, rises s x (omega arith) (omega arith), rises x (suc x) (omega arith) (omega arith), rises (suc x) r m h, e)))

    pub ascent_brackets : (w : ℕ → ℕ) → Ascent (marked (floating_of t)) size w ↔ ((i j : ℕ) → i < j → j < size → bracket_at t i ≡ bracket_at t j → w i < w j)
    ascent_brackets w = (there, λ h s l m. h s (s + 1) (omega arith) l ((further_same s l).0 m))
      where
        there : Ascent (marked (floating_of t)) size w → (i j : ℕ) → i < j → j < size → bracket_at t i ≡ bracket_at t j → w i < w j
        there a i zero l h e = absurd (omega arith)
        there a i (suc j) l h e =
            let z : j + 1 ≡ suc j = omega arith in
            let up : w j < w (suc j) = subst (λ k. w j < w k) z (a j (omega arith) (subst (λ k. marked (floating_of t) k ≡ true) (sym z) (between i (suc j) h e (suc j) (omega arith) (omega arith)))) in
            ⊎_elim
            (λ (q : i < j). omega (arith, up, there a i j q (omega arith) (omega (arith, e, rises i j (omega arith) (omega arith), rises j (suc j) (omega arith) h))))
            (λ (q : j ≤ i). let y : i ≡ j = omega arith in subst (λ k. w k < w (suc j)) (sym y) up)
            (below? i j)

    run_bracket : (s r : ℕ) → s < size → r < size → OneRun (floating_of t) s r → bracket_at t s ≡ bracket_at t r
    run_bracket s r l h run = ⊎_elim (λ q. along s r (omega arith) h run.0) (λ q. sym (along r s q l run.1)) (below? s r)
      where
        along : (s r : ℕ) → s ≤ r → r < size → ((x : ℕ) → s < x → x ≤ r → marked (floating_of t) x ≡ true) → bracket_at t s ≡ bracket_at t r
        along s zero l h m = let e : s ≡ 0 = omega arith in ap (bracket_at t) e
        along s (suc r) l h m = ⊎_elim
            (λ (q : s < suc r).
            let z : r + 1 ≡ suc r = omega arith in
            along s r (omega arith) (omega arith) (λ x a b. m x a (omega arith)) ∙ (further_same r (omega arith)).0 (subst (λ k. marked (floating_of t) k ≡ true) (sym z) (m (suc r) q (omega arith))) ∙ ap (bracket_at t) z)
            (λ (q : suc r ≤ s). let e : s ≡ suc r = omega arith in ap (bracket_at t) e)
            (below? s (suc r))

    pub rearranged : (p q : List ℕ) → Reordered (floating_of t) p q → Rearranged t p q
    rearranged p q h s l =
        let z = h s (omega (arith, line_many t)) in
        let r : z.0 < size = omega (arith, line_many t, z.1) in
        (z.0, r, run_bracket s z.0 l r z.2, z.3)
