-- Laws of the closers that are owed inside a pair, one for each arm of the loops of `pair_end` and `crowd_end`. Assumes nothing.
use Prim.Native.Nat.{ℕ, ◌+◌, ◌≤◌, ◌<◌}
use mathlib.Core.Path.{◌≡◌, refl, ap, ◌∙◌}
use mathlib.Core.Bool.{Bool, true, false}
use mathlib.Core.List.{List, [], ◌∷◌, ◌++◌}
use native.Mathlib.Omega.{arith}
use lib.ListN.{length, get_or, drop}
use Rattle.scope.specs.Bytes.{is_opening, is_shutting, closer_of}
use Rattle.classes.specs.Runs.{span}
use Rattle.classes.proofs.Runs.{run_next}
use Rattle.std.specs.Prelude.{Option as Perhaps}
use Rattle.texts.specs.Texts.{Reached, reached, lost_at, stuck_at, scan_deep, deeper, behind, is_inner}
use Rattle.texts.proofs.Steps.{inner_step_lem, inner_quiet, scan_run, scan_end}
use Rattle.texts.proofs.Pairs.{inner_shuts, inner_opens, inner_stops}

-- read from at, inside a pair that c closes, up to i: x is owed there, and then `more`; d is what is told before at, and e before i, where K holds of the closers owed
-- around the pair
pub record Inside (K : List ℕ → Type 0) (s : List ℕ) (at c : ℕ) (d : Perhaps ℕ) (x : ℕ) (more : List ℕ) (i : ℕ) (e : Perhaps ℕ) : Type 0 where
  pub later : at ≤ i
  pub shut : is_shutting x ≡ true
  pub reads : (hashes : Bool) (cs : List ℕ) → K cs → scan_deep hashes (c ∷ cs) (drop at s) at d ≡ scan_deep hashes (x ∷ (more ++ cs)) (drop i s) i e

-- and no byte at i goes on so
pub record Paused (K : List ℕ → Type 0) (s : List ℕ) (at c : ℕ) (d : Perhaps ℕ) (x : ℕ) (more : List ℕ) (i : ℕ) (e : Perhaps ℕ) : Type 0 where
  pub inside : Inside K s at c d x more i e
  pub pause : i < length s → is_inner (get_or s i 0) ≡ false

-- r says where the pair is closed, and e is what is told before that
abbrev pub Goes : (List ℕ → Type 0) → List ℕ → ℕ → ℕ → Perhaps ℕ → Perhaps ℕ → Reached → Type 0
Goes K s at c d e r = (hashes : Bool) (cs : List ℕ) → K cs → scan_deep hashes (c ∷ cs) (drop at s) at d ≡ behind r (λ j. scan_deep hashes cs (drop j s) j e)

module _ (K : List ℕ → Type 0) (s : List ℕ) (at c : ℕ) (d : Perhaps ℕ) where
  pub inside_starts : is_shutting c ≡ true → Inside K s at c d c [] at d
  inside_starts h = record { later = omega arith; shut = h; reads = λ hashes cs g. refl }

  module _ (x : ℕ) (more : List ℕ) where
    -- the bytes that open and close nothing are passed
    pub pauses : (j i : ℕ) (e : Perhaps ℕ) → Inside K s at c d x more j e → i ≡ j + span is_inner (drop j s) → Paused K s at c d x more i e
    pauses j i e v f = record {
      inside = record {
        later = omega (arith, v.later);
        shut = v.shut;
        reads = λ hashes cs g. v.reads hashes cs g ∙ scan_run is_inner hashes (x ∷ (more ++ cs)) (inner_step_lem hashes x (more ++ cs) v.shut) inner_quiet s j i e f;
      };
      pause = run_next is_inner s j i f;
    }

    module _ (i : ℕ) (e : Perhaps ℕ) (w : Paused K s at c d x more i e) where
      pub paused_over : length s ≤ i → Goes K s at c d e (lost_at i)
      paused_over h = λ hashes cs g. w.inside.reads hashes cs g ∙ scan_end hashes (x ∷ (more ++ cs)) s i e h

      module _ (l : i < length s) where
        pub paused_stuck : is_opening (get_or s i 0) ≡ false → (get_or s i 0 ≡ x → ⊥) → Goes K s at c d e (lost_at i)
        paused_stuck o z = λ hashes cs g. w.inside.reads hashes cs g ∙ inner_stops s i l _ _ hashes e (w.pause l) o z

        -- the closer that is owed first
        module _ (q : get_or s i 0 ≡ x) where
          shuts : (hashes : Bool) (cs : List ℕ) → K cs → scan_deep hashes (c ∷ cs) (drop at s) at d ≡ scan_deep hashes (more ++ cs) (drop (i + 1) s) (i + 1) e
          shuts hashes cs g = w.inside.reads hashes cs g ∙ inner_shuts s i l _ _ hashes e w.inside.shut q

          pub paused_last : more ≡ [] → Goes K s at c d e (reached (i + 1))
          paused_last f = λ hashes cs g. rw f at (shuts hashes cs g)

          -- and then y
          pub paused_shut : (y : ℕ) (rest : List ℕ) → more ≡ y ∷ rest → is_shutting y ≡ true → Inside K s at c d y rest (i + 1) e
          paused_shut y rest f h = record {
            later = omega (arith, w.inside.later);
            shut = h;
            reads = λ hashes cs g. rw f at (shuts hashes cs g);
          }

        -- z closes the pair that is opened at i
        module _ (o : is_opening (get_or s i 0) ≡ true) (z : ℕ) (f : z ≡ closer_of (get_or s i 0)) where
          abbrev told : List ℕ → Perhaps ℕ
          told cs = deeper (x ∷ (more ++ cs)) (get_or s i 0) i e

          opens : (hashes : Bool) (cs : List ℕ) → K cs → scan_deep hashes (c ∷ cs) (drop at s) at d ≡ scan_deep hashes (z ∷ x ∷ (more ++ cs)) (drop (i + 1) s) (i + 1) (told cs)
          opens hashes cs g = w.inside.reads hashes cs g ∙ inner_opens s i l _ _ hashes e o z f

          -- it is owed first
          pub paused_open : is_shutting z ≡ true → ((cs : List ℕ) → told cs ≡ e) → Inside K s at c d z (x ∷ more) (i + 1) e
          paused_open h same = record {
            later = omega (arith, w.inside.later);
            shut = h;
            reads = λ hashes cs g. opens hashes cs g ∙ ap (scan_deep hashes (z ∷ x ∷ (more ++ cs)) (drop (i + 1) s) (i + 1)) (same cs);
          }

          -- it is closed before j
          pub paused_behind : (j : ℕ) (y : Perhaps ℕ) → i < j
              → ((hashes : Bool) (cs : List ℕ) → K cs
              → scan_deep hashes (z ∷ x ∷ (more ++ cs)) (drop (i + 1) s) (i + 1) (told cs) ≡ scan_deep hashes (x ∷ (more ++ cs)) (drop j s) j y)
              → Inside K s at c d x more j y
          paused_behind j y k p = record {
            later = omega (arith, w.inside.later);
            shut = w.inside.shut;
            reads = λ hashes cs g. opens hashes cs g ∙ p hashes cs g;
          }

          pub paused_lost : (j : ℕ) (y : Perhaps ℕ)
              → ((hashes : Bool) (cs : List ℕ) → K cs → scan_deep hashes (z ∷ x ∷ (more ++ cs)) (drop (i + 1) s) (i + 1) (told cs) ≡ stuck_at j)
              → Goes K s at c d y (lost_at j)
          paused_lost j y p = λ hashes cs g. opens hashes cs g ∙ p hashes cs g
