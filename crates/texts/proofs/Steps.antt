-- Laws of the step of a text, and of `scan_deep` at a place. Assumes nothing.
use Prim.Native.Nat.{ℕ, suc, ◌+◌, ◌≤◌, ◌<◌}
use mathlib.Core.Path.{◌≡◌, refl, sym, ap, ◌∙◌}
use mathlib.Core.Bool.{Bool, true, false, not, cond, ◌&&◌, ◌||◌, true≢false}
use mathlib.Core.Option.{some}
use mathlib.Core.List.{List, [], ◌∷◌}
use native.Mathlib.Numerals.{add-one}
use native.Mathlib.Omega.{arith}
use lib.Dec.{eqb}
use lib.ListN.{length, get_or, drop, drop_of_length-le}
use lib.Seq.{drop-cons, drop-drop}
use borrow.Author.Tests.{ne_eqb, eqb-true, not-true}
use Rattle.std.specs.Prelude.{Option as Perhaps}
use Rattle.basics.specs.Tests.{both_of}
use Rattle.scope.specs.Bytes.{is_printable, is_letter, is_opening, is_shutting}
use Rattle.scope.specs.Lists.{given}
use Rattle.scope.specs.Content.{is_plain, text_step}
use Rattle.classes.proofs.Classes.{letter_plain, plain_quiet, plain_printable}
use Rattle.classes.specs.Runs.{span}
use Rattle.texts.specs.Texts.{stopped_deep, scan_deep, deeper, is_outer, is_inner}
use Rattle.texts.proofs.Firsts.{deeper_not}

-- a byte is no opening one where it is a shutting one
pub shut_not_open : (b : ℕ) → is_shutting b ≡ true → is_opening b ≡ false
shut_not_open b e = go (eqb b 93) refl
  where
    go : (x : Bool) → eqb b 93 ≡ x → is_opening b ≡ false
    go true q = rw (eqb-true b 93 q)
    go false q =
        let f : eqb b 125 ≡ true = rw q at e in
        rw (eqb-true b 125 f)

-- a plain byte leaves the closers as they are, outside every pair and inside one
pub outer_step : (hashes : Bool) (b : ℕ) → is_outer hashes b ≡ true → text_step hashes [] b ≡ some []
unfolding text_step is_outer
outer_step hashes b e = rw e

pub inner_step_lem : (hashes : Bool) (c : ℕ) (cs : List ℕ) → is_shutting c ≡ true → (b : ℕ) → is_inner b ≡ true → text_step hashes (c ∷ cs) b ≡ some (c ∷ cs)
unfolding text_step is_inner
inner_step_lem hashes c cs h b e =
    let p = both_of (is_printable b && not (is_shutting b)) (not (is_opening b)) e in
    let q = both_of (is_printable b) (not (is_shutting b)) p.0 in
    let o : is_opening b ≡ false = not-true (is_opening b) p.1 in
    let d : eqb b c ≡ false = ne_eqb b c (λ z. true≢false (sym h ∙ ap is_shutting (sym z) ∙ not-true (is_shutting b) q.1)) in
    rw (o, d, p.0)

-- such bytes open nothing
pub outer_quiet : (hashes : Bool) (b : ℕ) → is_outer hashes b ≡ true → is_opening b ≡ false
unfolding is_outer
outer_quiet hashes b e = go (is_plain b) refl (eqb b 58) refl e
  where
    go : (x : Bool) → is_plain b ≡ x → (y : Bool) → eqb b 58 ≡ y → x || y || hashes && eqb b 35 ≡ true → is_opening b ≡ false
    go true p y q f = (plain_quiet b p).0
    go false p true q f = rw (eqb-true b 58 q)
    go false p false q f = rw (eqb-true b 35 (both_of hashes (eqb b 35) f).1)

pub inner_quiet : (b : ℕ) → is_inner b ≡ true → is_opening b ≡ false
unfolding is_inner
inner_quiet b e = not-true (is_opening b) (both_of (is_printable b && not (is_shutting b)) (not (is_opening b)) e).1

-- bytes that leave the closers as they are, and open nothing
module _ (p : ℕ → Bool) (hashes : Bool) (cs : List ℕ) (still : (b : ℕ) → p b ≡ true → text_step hashes cs b ≡ some cs) (quiet : (b : ℕ) → p b ≡ true → is_opening b ≡ false) where
  scan_over : (l : List ℕ) (i : ℕ) (d : Perhaps ℕ) → scan_deep hashes cs l i d ≡ scan_deep hashes cs (drop (span p l) l) (i + span p l) d
  unfolding scan_deep span
  scan_over [] i d =
      let e : i + 0 ≡ i = omega arith in
      rw e
  scan_over (b ∷ l) i d = go (p b) refl (scan_over l (i + 1) d)
    where
      go : (x : Bool) → p b ≡ x → scan_deep hashes cs l (i + 1) d ≡ scan_deep hashes cs (drop (span p l) l) (i + 1 + span p l) d
          → scan_deep hashes cs (b ∷ l) i d ≡ scan_deep hashes cs (drop (cond x (suc (span p l)) 0) (b ∷ l)) (i + cond x (suc (span p l)) 0) d
      go true e ih =
          let f : i + 1 + span p l ≡ i + suc (span p l) = omega arith in
          ap (λ o. given o (λ cs'. scan_deep hashes cs' l (i + 1) (deeper cs b i d)) (stopped_deep cs i d)) (still b e)
          ∙ ap (scan_deep hashes cs l (i + 1)) (deeper_not cs b i d (quiet b e)) ∙ ih ∙ ap (λ k. scan_deep hashes cs (drop (span p l) l) k d) f
      go false e ih =
          let f : i + 0 ≡ i = omega arith in
          rw f

  pub scan_run : (s : List ℕ) (at i : ℕ) (d : Perhaps ℕ) → i ≡ at + span p (drop at s) → scan_deep hashes cs (drop at s) at d ≡ scan_deep hashes cs (drop i s) i d
  scan_run s at i d e =
      scan_over (drop at s) at d
      ∙ ap (λ l. scan_deep hashes cs l (at + span p (drop at s)) d) (drop-drop (span p (drop at s)) at s)
      ∙ ap (λ j. scan_deep hashes cs (drop j s) j d) (sym e)

-- one byte of a text, and none
pub scan_at : (hashes : Bool) (cs s : List ℕ) (i : ℕ) (d : Perhaps ℕ) → i < length s
    → scan_deep hashes cs (drop i s) i d
    ≡ given (text_step hashes cs (get_or s i 0)) (λ cs'. scan_deep hashes cs' (drop (i + 1) s) (i + 1) (deeper cs (get_or s i 0) i d)) (stopped_deep cs i d)
unfolding scan_deep
scan_at hashes cs s i d h = rw (drop-cons s i 0, add-one)

pub scan_end : (hashes : Bool) (cs s : List ℕ) (i : ℕ) (d : Perhaps ℕ) → length s ≤ i → scan_deep hashes cs (drop i s) i d ≡ stopped_deep cs i d
unfolding scan_deep
scan_end hashes cs s i d h = rw (drop_of_length-le s h)

-- a letter is plain inside a pair
pub letter_inner : (b : ℕ) → is_letter b ≡ true → true ≡ is_inner b
unfolding is_inner
letter_inner b e =
    let p = letter_plain b e in
    let o = plain_quiet b p in
    rw (plain_printable b p, o.0, o.1)
