-- Brackets, those of one rank in a list of them, and the walk over them. Assumes nothing.
use mathlib.Core.Path.{◌≡◌, refl, sym, ap, ◌∙◌}
use mathlib.Core.Bool.{Bool, true, false, cond}
use mathlib.Core.List.{List, [], ◌∷◌, ◌++◌, append-nil}
use Prim.Native.Nat.{ℕ, zero, suc, ◌+◌, ◌-◌, ◌*◌, ◌≤◌, ◌<◌}
use native.Mathlib.Nat.{add-zero, zero-add}
use native.Mathlib.Omega.{arith}
use lib.Dec.{eqb, leb}
use lib.IntN.{ℤ}
use borrow.Author.Tests.{eq-eqb, ne_eqb, leb-true, leb-false}
use Rattle.basics.specs.Choice.{took, passed, by_test}
use Rattle.scope.specs.Line.{Bracket}
use Rattle.scope.specs.Canonical.{square_text, curly_text, declared_text, count_text}
use Rattle.scope.specs.Lists.{keep, flat, tabled}
use Rattle.scope.specs.Layout.{bracket_in, tables_in, brackets_field, count_field}
use Rattle.basics.specs.Lists.{keep_append, flat_append}
use Rattle.writer.specs.declared.Shape.{Shape}
use Rattle.writer.specs.declared.Shape.TheVariants.{Counted, Curly, Square, Angled}
use Rattle.figures.specs.Written.{Puts}
use Rattle.writer.specs.Written.{bracket_most}
use Rattle.writer.specs.Ranks.{rank, rank_in, ReadyToWrite, text_as, ranked_text, run_text, Walks}
use Rattle.figures.proofs.Storing.{puts_none, puts_of, puts_within, puts_join}
use Rattle.writer.proofs.RankLaws.{rank_is, tabled_more}

-- ---- one bracket
module _ (bs : List ℕ) (ns : List ℤ) (k : ℕ) where
  pub as_counted :
      {shape : Shape} {n : ℕ} → shape ≡ Counted → n ≡ count_field bs k → square_text (bracket_in bs ns k) ++ count_text n ≡ text_as shape (bracket_in bs ns k)
  unfolding bracket_in
  as_counted e f = rw (e, f)

  pub as_curly : {shape : Shape} → shape ≡ Curly → curly_text (bracket_in bs ns k) ≡ text_as shape (bracket_in bs ns k)
  as_curly e = rw e

  pub as_square : {shape : Shape} → shape ≡ Square → square_text (bracket_in bs ns k) ≡ text_as shape (bracket_in bs ns k)
  as_square e = rw e

  pub as_declared : {shape : Shape} → shape ≡ Angled → declared_text (bracket_in bs ns k) ≡ text_as shape (bracket_in bs ns k)
  as_declared e = rw e

  module _ (shape : Shape) {r q : ℕ} (e : r ≡ rank_in bs k) where
    pub ranked_yes : r ≡ q → text_as shape (bracket_in bs ns k) ≡ ranked_text shape q (bracket_in bs ns k)
    ranked_yes o = took _ _ _ (eq-eqb (rank (bracket_in bs ns k)) q (rank_is bs ns k ∙ sym e ∙ o))

    pub ranked_no : (r ≡ q → ⊥) → [] ≡ ranked_text shape q (bracket_in bs ns k)
    ranked_no z = passed _ _ _ _ (ne_eqb (rank (bracket_in bs ns k)) q (λ h. z (e ∙ sym (rank_is bs ns k) ∙ h))) refl

-- ---- lists of them
one_kept : {A B : Type 0} (f : A → List B) (p : A → Bool) (x : A) (t : Bool) → p x ≡ t → flat f (keep p (x ∷ [])) ≡ cond t (f x) []
unfolding flat keep
one_kept f p x true e = rw e (append-nil (f x))
one_kept f p x false e = rw e

module _ (shape : Shape) (q : ℕ) where
  run_snoc : (l : List (Bracket (Unit {0}))) (x : Bracket (Unit {0})) → run_text shape q (l ++ (x ∷ [])) ≡ run_text shape q l ++ ranked_text shape q x
  run_snoc l x =
      ap (flat (text_as shape)) (keep_append (λ k. eqb (rank k) q) l (x ∷ []))
      ∙ flat_append (text_as shape) (keep (λ k. eqb (rank k) q) l) (keep (λ k. eqb (rank k) q) (x ∷ []))
      ∙ ap (λ t. run_text shape q l ++ t) (one_kept (text_as shape) (λ k. eqb (rank k) q) x (eqb (rank x) q) refl)

  module _ (f : ℕ → Bracket (Unit {0})) where
    pub run_one : (j : ℕ) → run_text shape q (tabled f 0 j) ++ ranked_text shape q (f j) ≡ run_text shape q (tabled f 0 (j + 1))
    run_one j = sym (ap (run_text shape q) (tabled_more f j) ∙ run_snoc (tabled f 0 j) (f j))

    -- where no bracket has the rank, a longer list has no more of it
    quiet :
        (j n : ℕ) → ((i : ℕ) → j ≤ i → i < j + n → rank (f i) ≡ q → ⊥) → run_text shape q (tabled f 0 (j + n)) ≡ run_text shape q (tabled f 0 j)
    quiet j zero h = ap (λ n. run_text shape q (tabled f 0 n)) (add-zero j)
    quiet j (suc n) h =
        let e : j + suc n ≡ j + n + 1 = omega arith in
        let none : ranked_text shape q (f (j + n)) ≡ [] = sym (passed _ _ _ _ (ne_eqb (rank (f (j + n))) q (h (j + n) (omega arith) (omega arith))) refl) in
        ap (λ n. run_text shape q (tabled f 0 n)) e
        ∙ sym (run_one (j + n))
        ∙ ap (λ t. run_text shape q (tabled f 0 (j + n)) ++ t) none
        ∙ append-nil _
        ∙ quiet j n (λ i a b. h i a (omega arith))

    run_empty : run_text shape q (tabled f 0 0) ≡ []
    unfolding flat keep tabled
    run_empty = refl

-- where none of the first n brackets has the rank, nothing of it is written
pub none_of :
    (bs : List ℕ) (ns : List ℤ) (shape : Shape) (q n : ℕ) → ((i : ℕ) → i < n → rank_in bs i ≡ q → ⊥) → run_text shape q (tabled (bracket_in bs ns) 0 n) ≡ []
none_of bs ns shape q n h =
    ap (λ n. run_text shape q (tabled (bracket_in bs ns) 0 n)) (sym (zero-add n))
    ∙ quiet shape q (bracket_in bs ns) 0 n (λ i g l w. h i (omega arith) (sym (rank_is bs ns i) ∙ w))
    ∙ run_empty shape q (bracket_in bs ns)

-- ---- the walk over the brackets for one rank
pub record Running (bs : List ℕ) (ns : List ℤ) (m from q : ℕ) (shape : Shape) (o : List ℕ) (at : ℕ) (out : List ℕ) (j a : ℕ) : Type 0 where
  pub count : m ≡ brackets_field bs
  pub forth : from ≤ j
  pub within : j ≤ m
  pub puts : Puts (bracket_most * (j - from)) o at (run_text shape q (tabled (bracket_in bs ns) 0 j)) out a
  pub below : (i : ℕ) → i < j → rank_in bs i < q + 1

module _ (bs : List ℕ) (ns : List ℤ) (m from q : ℕ) (shape : Shape) (o : List ℕ) (at : ℕ) where
  pub run_start : m ≡ brackets_field bs → from ≤ brackets_field bs → ((i : ℕ) → i < from → rank_in bs i < q) → Running bs ns m from q shape o at o from at
  run_start e h b =
      let none = none_of bs ns shape q from (λ i l w. omega (arith, b i l, w)) in
      record {
        count = e;
        forth = omega arith;
        within = omega arith;
        puts = puts_within (omega arith) (puts_of (sym none) (puts_none o at));
        below = λ i l. omega (arith, b i l);
      }

  module _ {out : List ℕ} {j a : ℕ} (s : Running bs ns m from q shape o at out j a) where
    pub run_more :
        {r : ℕ} → j < m → r ≡ rank_in bs j → r ≤ q → {out' : List ℕ} {a' : ℕ} → Puts bracket_most out a (ranked_text shape q (bracket_in bs ns j)) out' a'
        → Running bs ns m from q shape o at out' (j + 1) a'
    run_more {r} h e g p =
        record {
          count = s.count;
          forth = omega (arith, s.forth);
          within = omega arith;
          puts = puts_of (run_one shape q (bracket_in bs ns) j) (puts_within (omega (arith, s.forth)) (puts_join s.puts p));
          below = λ i l.
              by_test (leb (i + 1) j)
              (λ t. s.below i (omega (arith, leb-true (i + 1) j t)))
              (λ t.
              let w : j ≡ i = omega (arith, leb-false (i + 1) j t) in
              let z : r < q + 1 = omega arith in
              rw (e, w) at z);
        }

    walked : (j + (m - j) ≡ brackets_field bs) → run_text shape q (tabled (bracket_in bs ns) 0 (j + (m - j))) ≡ run_text shape q (tabled (bracket_in bs ns) 0 j)
        → Walks bs 0 from (q + 1) o at (run_text shape q (tables_in bs ns).brackets) out a j
    unfolding tables_in
    walked c e =
        record {
          puts = puts_of (sym e ∙ ap (λ n. run_text shape q (tabled (bracket_in bs ns) 0 n)) c) (puts_within (omega arith) s.puts);
          forth = s.forth;
          within = omega (arith, s.within, s.count);
          below = s.below;
        }

    pub run_stop : {r : ℕ} → ReadyToWrite bs ns → j < m → r ≡ rank_in bs j → q < r → Walks bs 0 from (q + 1) o at (run_text shape q (tables_in bs ns).brackets) out a j
    run_stop {r} d h e g =
        walked (omega (arith, s.count))
        (quiet shape q (bracket_in bs ns) j (m - j)
        (λ i l b w. omega (arith, d.sorted j i l (omega (arith, s.count)), e, sym (rank_is bs ns i) ∙ w)))

    pub run_over : m ≤ j → Walks bs 0 from (q + 1) o at (run_text shape q (tables_in bs ns).brackets) out a j
    run_over h = walked (omega (arith, s.count, s.within)) (quiet shape q (bracket_in bs ns) j (m - j) (λ i l b w. omega arith))
