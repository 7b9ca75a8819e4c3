-- What every step keeps holds after any bytes, and so of what a line holds that is read whole. With it, what is made of brackets by the way: a
-- bracket is put where it waits or where it is settled, and a count is a count and its place.
use Prim.Native.Nat.{ℕ, suc, ◌+◌, ◌*◌}
use native.Mathlib.Omega.{arith}
use Rattle.std.proofs.Math.Nat.{add-zero}
use Rattle.std.specs.Prelude.{◌≡◌, refl, Bool, true, false, cond}
use Rattle.std.proofs.Math.Path.{subst}
use mathlib.Core.List.{List, [], ◌∷◌}
use Rattle.std.proofs.Math.ListN.{length}
use Rattle.scope.specs.declared.grammar.Kind.{Kind}
use Rattle.scope.specs.declared.grammar.Kind.TheVariants.{Unknown}
use Rattle.scope.specs.declared.grammar.Mode.{Mode}
use Rattle.scope.specs.Line.{Bracket, Line}
use Rattle.scope.specs.Bytes.{value}
use Rattle.scope.specs.Reading.{may_end, Held, settled, waiting, put, times, count_digit, State, dead, outside, inside, placing, step, run, start, stuck, holds, line_of, ended, reading}
use Rattle.scope.specs.Kinds.{is_unknown}
use Rattle.basics.specs.Choice.{branch_on, on_given}
use Rattle.basics.specs.Kinds.{is_kind_lem}
use Rattle.basics.specs.Each.{Each}

-- ---- after any bytes
module _ {P : Type 0} (note : ℕ → P) where
  -- Q of the number of bytes read, R of each byte
  pub kept_from_lem : (Q : ℕ → State P → Type 0) (R : ℕ → Type 0) → ((i : ℕ) (s : State P) (b : ℕ) → R b → Q i s → Q (i + 1) (step (note i) s b))
      → (i : ℕ) (s : State P) (l : List ℕ) → Each R l → Q i s → Q (i + length l) (run note i s l)
  unfolding run
  kept_from_lem Q R f i s [] r q = rw add-zero q
  kept_from_lem Q R f i s (b ∷ l) r q =
      let e : i + 1 + length l ≡ i + suc (length l) = omega arith in
      subst (λ n. Q n (run note (i + 1) (step (note i) s b) l)) e (kept_from_lem Q R f (i + 1) (step (note i) s b) l r.1 (f i s b r.0 q))

  pub kept : (Q : State P → Type 0) → ((i : P) (s : State P) (b : ℕ) → Q s → Q (step i s b)) → (i : ℕ) (s : State P) (l : List ℕ) → Q s
      → Q (run note i s l)
  unfolding run
  kept Q f i s [] q = q
  kept Q f i s (b ∷ l) q = kept Q f (i + 1) (step (note i) s b) l (f (note i) s b q)

-- ---- of a line that is read whole: where the reader stands at its end
pub record Whole (Q : State ℕ → Type 0) (l : Line ℕ) : Type 0 where
  pub mode : Mode
  pub held : Held ℕ
  pub ends : may_end mode ≡ true
  pub keeps : Q (outside mode held)
  pub line : line_of held ≡ l

pub ended_whole : (Q : State ℕ → Type 0) (n : ℕ) (s : State ℕ) (l : Line ℕ) → Q s → ended n s ≡ holds l → Whole Q l
ended_whole Q n (dead p) l q e = let z : ◌≡◌ {A = ℕ} 0 1 = cc in absurd (omega arith)
ended_whole Q n (outside m h) l q e = go (may_end m) refl e
  where
    go : (t : Bool) → may_end m ≡ t → cond t (holds (line_of h)) (stuck n) ≡ holds l → Whole Q l
    go true f g = record { mode = m; held = h; ends = f; keeps = q; line = cc }
    go false f g = let z : ◌≡◌ {A = ℕ} 0 1 = cc in absurd (omega arith)
ended_whole Q n (inside s at h c) l q e = let z : ◌≡◌ {A = ℕ} 0 1 = cc in absurd (omega arith)
ended_whole Q n (placing h s) l q e = let z : ◌≡◌ {A = ℕ} 0 1 = cc in absurd (omega arith)

pub reading_whole : (Q : State ℕ → Type 0) → ((i : ℕ) (s : State ℕ) (b : ℕ) → Q s → Q (step i s b)) → Q start → (s : List ℕ) (l : Line ℕ)
    → reading s ≡ holds l → Whole Q l
unfolding reading
reading_whole Q f q s l e = ended_whole Q (length s) (run (λ i. i) 0 start s) l (kept (λ i. i) Q f 0 start s q) e

pub reading_whole_from : (Q : ℕ → State ℕ → Type 0) (R : ℕ → Type 0) → ((i : ℕ) (s : State ℕ) (b : ℕ) → R b → Q i s → Q (i + 1) (step i s b))
    → Q 0 start → (s : List ℕ) (l : Line ℕ) → Each R s → reading s ≡ holds l → Whole (Q (0 + length s)) l
unfolding reading
reading_whole_from Q R f q s l r e =
    ended_whole (Q (0 + length s)) (length s) (run (λ i. i) 0 start s) l (kept_from_lem (λ i. i) Q R f 0 start s r q) e

-- ---- brackets by the way
module _ {P : Type 0} where
  -- one at the front waits, any other is settled
  pub put_by : (Q : Held P → Type 0) (k : Kind) (x : Bracket P) (h : Held P) → (k ≡ Unknown → Q (waiting x h)) → (is_unknown k ≡ false → Q (settled x h))
      → Q (put k x h)
  put_by Q k x h w s = branch_on Q (is_unknown k) (λ e. w (is_kind_lem Unknown k e)) s

  -- a count, and the place of its first digit
  pub digit_by : (Q : Bracket P → Type 0) (i : P) (b : ℕ) (k : Bracket P) → ((n : ℕ) (p : P) → Q (times n p k)) → Q (count_digit i b k)
  digit_by Q i b k f = on_given Q k.counted (λ p e. f (k.count * 10 + value b) p) (f (value b) i)
