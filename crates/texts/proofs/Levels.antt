-- A pair that may stand where it does, and one that is too deep: what their calls say of them, arm by arm. Assumes nothing.
use Prim.Native.Nat.{ℕ, ◌+◌, ◌-◌, ◌/◌, ◌≤◌, ◌<◌}
use mathlib.Core.Path.{◌≡◌, refl, sym, ap, ◌∙◌}
use mathlib.Core.Bool.{Bool, true, false}
use mathlib.Core.List.{List, [], ◌∷◌, ◌++◌}
use native.Mathlib.Numerals.{add-one}
use native.Mathlib.Omega.{arith}
use lib.ListN.{length, get_or, drop, set, replicate}
use Rattle.scope.specs.Bytes.{is_opening, is_shutting, closer_of}
use Rattle.scope.specs.Limits.{line_limit, depth_limit}
use Rattle.classes.specs.Runs.{span}
use Rattle.std.specs.Prelude.{Some, None}
use Rattle.std.specs.Prelude.{Option as Perhaps}
use Rattle.std.specs.Option.{option_or}
use Rattle.texts.specs.Texts.{Reached, reached, lost_at, scan_deep, deeper, behind, is_inner, EndsPast, last_of, Closed, Crowded}
use Rattle.texts.proofs.Firsts.{first_there, deeper_opens, deeper_told, entered_low, entered_deep}
use Rattle.texts.proofs.Owed.{Paused, Goes, inside_starts, pauses, paused_over, paused_stuck, paused_last, paused_shut, paused_open, paused_behind, paused_lost}
use Rattle.texts.proofs.Bits.{bits, byte_of, read_off, owing, owing_last, owing_more, BitTable, kept_none, kept_less, kept_more, last_shuts}

-- so many closers are owed around the pair; or any
abbrev pub Level : ℕ → List ℕ → Type 0
Level level cs = length cs ≡ level

abbrev Any : List ℕ → Type 0
Any cs = Unit {0}

-- ---- a pair that is too deep
module _ (s : List ℕ) (at c : ℕ) where
  -- is told by its place
  pub closed_deep : (level : ℕ) → depth_limit ≤ level → (d e : Perhaps ℕ) → e ≡ option_or d (Some (at - 1)) → (r : Reached) → Crowded s at c r → Closed s at c level d e r
  closed_deep level k d e f r w = record {
    reads = λ hashes cs h. ap (scan_deep hashes (c ∷ cs) (drop at s) at) (entered_deep level at d k ∙ sym f)
        ∙ w.reads hashes cs e (rw f (first_there d (at - 1)));
    past = w.past;
  }

  -- x is owed at i, and then the closers of a table of n bits, whatever is told
  pub record Crowd (t : List ℕ) (n x i : ℕ) : Type 0 where
    pub kept : BitTable t n
    pub later : at ≤ i
    pub shut : is_shutting x ≡ true
    pub paused : (d : Perhaps ℕ) → (d ≡ None → ⊥) → Paused Any s at c d x (owing t n) i d

  crowded : (r : Reached) → ((d : Perhaps ℕ) → (d ≡ None → ⊥) → Goes Any s at c d d r) → EndsPast r at (length s) → Crowded s at c r
  crowded r g p = record { reads = λ hashes cs d h. g d h hashes cs tt; past = p }

  pub crowd_starts : (i : ℕ) → is_shutting c ≡ true → i ≡ at + span is_inner (drop at s) → Crowd (replicate (line_limit / bits) 0) 0 c i
  unfolding owing
  crowd_starts i h run = record {
    kept = kept_none;
    later = omega arith;
    shut = h;
    paused = λ d g. pauses Any s at c d c [] at i d (inside_starts Any s at c d h) run;
  }

  module _ (t : List ℕ) (n x i : ℕ) (w : Crowd t n x i) where
    pub crowd_over : length s ≤ i → Crowded s at c (lost_at i)
    crowd_over h = crowded (lost_at i) (λ d g. paused_over Any s at c d x (owing t n) i d (w.paused d g) h) tt

    module _ (l : i < length s) where
      pub crowd_stuck : is_opening (get_or s i 0) ≡ false → (get_or s i 0 ≡ x → ⊥) → Crowded s at c (lost_at i)
      crowd_stuck o z = crowded (lost_at i) (λ d g. paused_stuck Any s at c d x (owing t n) i d (w.paused d g) l o z) tt

      pub crowd_last : get_or s i 0 ≡ x → n ≡ 0 → Crowded s at c (reached (i + 1))
      unfolding owing
      crowd_last q e =
          crowded (reached (i + 1)) (λ d g. paused_last Any s at c d x (owing t n) i d (w.paused d g) l q (rw e)) (omega (arith, w.later), omega arith)

      pub crowd_shut : get_or s i 0 ≡ x → (n ≡ 0 → ⊥) → (y : ℕ) → y ≡ last_of (byte_of t (n - 1)) → (k : ℕ) → k ≡ i + 1 + span is_inner (drop (i + 1) s)
          → Crowd (read_off t (n - 1)) (n - 1) y k
      crowd_shut q e y f k run =
          let some : 1 ≤ n = omega arith in
          let shuts : is_shutting y ≡ true = rw f (last_shuts (byte_of t (n - 1))) in
          record {
            kept = kept_less t n w.kept some;
            later = omega (arith, w.later);
            shut = shuts;
            paused = λ d g. pauses Any s at c d y _ (i + 1) k d (paused_shut Any s at c d x (owing t n) i d (w.paused d g) l q y _ (rw f (owing_last t n some)) shuts) run;
          }

      -- z closes the pair that is opened at i
      module _ (o : is_opening (get_or s i 0) ≡ true) (z : ℕ) (e : z ≡ closer_of (get_or s i 0)) where
        still : (d : Perhaps ℕ) → (d ≡ None → ⊥) → (cs : List ℕ) → deeper (x ∷ (owing t n ++ cs)) (get_or s i 0) i d ≡ d
        still d g cs = deeper_told (x ∷ (owing t n ++ cs)) (get_or s i 0) i d g

        -- v keeps x
        pub crowd_open : n < line_limit → is_shutting z ≡ true → (v : ℕ) → (v / 2 ≡ byte_of t n) × (last_of v ≡ x) → (k : ℕ)
            → k ≡ i + 1 + span is_inner (drop (i + 1) s) → Crowd (set t (n / bits) v) (n + 1) z k
        crowd_open f h v q k run = record {
          kept = kept_more t n w.kept f v q.0;
          later = omega (arith, w.later);
          shut = h;
          paused = λ d g.
              let p = paused_open Any s at c d x (owing t n) i d (w.paused d g) l o z e h (still d g) in
              rw (owing_more t n w.kept f v q.0 x q.1) (pauses Any s at c d z (x ∷ owing t n) (i + 1) k d p run);
        }

        within : {r : Reached} → Crowded s (i + 1) z r → (d : Perhaps ℕ) → (d ≡ None → ⊥) → (hashes : Bool) (cs : List ℕ) → Any cs
            → scan_deep hashes (z ∷ x ∷ (owing t n ++ cs)) (drop (i + 1) s) (i + 1) (deeper (x ∷ (owing t n ++ cs)) (get_or s i 0) i d)
            ≡ behind r (λ k. scan_deep hashes (x ∷ (owing t n ++ cs)) (drop k s) k d)
        within p d g hashes cs h =
            ap (scan_deep hashes (z ∷ x ∷ (owing t n ++ cs)) (drop (i + 1) s) (i + 1)) (still d g cs) ∙ p.reads hashes (x ∷ (owing t n ++ cs)) d g

        pub crowd_behind : (j : ℕ) → Crowded s (i + 1) z (reached j) → (k : ℕ) → k ≡ j + span is_inner (drop j s) → Crowd t n x k
        crowd_behind j p k run = record {
          kept = w.kept;
          later = omega (arith, w.later, p.past);
          shut = w.shut;
          paused = λ d g. pauses Any s at c d x (owing t n) j k d
              (paused_behind Any s at c d x (owing t n) i d (w.paused d g) l o z e j d (omega (arith, p.past)) (within p d g)) run;
        }

        pub crowd_lost : (j : ℕ) → Crowded s (i + 1) z (lost_at j) → Crowded s at c (lost_at j)
        crowd_lost j p = crowded (lost_at j) (λ d g. paused_lost Any s at c d x (owing t n) i d (w.paused d g) l o z e j d (within p d g)) tt

-- ---- a pair that may stand: nothing else is owed in it
abbrev pub Alone : List ℕ → ℕ → ℕ → ℕ → Perhaps ℕ → ℕ → Perhaps ℕ → Type 0
Alone s at c level d i e = Paused (Level level) s at c d c [] i e

module _ (s : List ℕ) (at c level : ℕ) (few : level < depth_limit) (d : Perhaps ℕ) where
  closed_low : (e : Perhaps ℕ) (r : Reached) → Goes (Level level) s at c d e r → EndsPast r at (length s) → Closed s at c level d e r
  closed_low e r g p = record { reads = λ hashes cs h. ap (scan_deep hashes (c ∷ cs) (drop at s) at) (entered_low level at d few) ∙ g hashes cs h; past = p }

  module _ (i : ℕ) (e : Perhaps ℕ) (w : Alone s at c level d i e) where
    pub pair_over : length s ≤ i → Closed s at c level d e (lost_at i)
    pair_over h = closed_low e (lost_at i) (paused_over (Level level) s at c d c [] i e w h) tt

    module _ (l : i < length s) where
      pub pair_stuck : is_opening (get_or s i 0) ≡ false → (get_or s i 0 ≡ c → ⊥) → Closed s at c level d e (lost_at i)
      pair_stuck o x = closed_low e (lost_at i) (paused_stuck (Level level) s at c d c [] i e w l o x) tt

      pub pair_last : get_or s i 0 ≡ c → Closed s at c level d e (reached (i + 1))
      pair_last q =
          closed_low e (reached (i + 1)) (paused_last (Level level) s at c d c [] i e w l q refl) (omega (arith, w.inside.later), omega arith)

      -- x closes the pair that is opened at i, and y is what is told behind that
      module _ (o : is_opening (get_or s i 0) ≡ true) (x : ℕ) (f : x ≡ closer_of (get_or s i 0)) (y : Perhaps ℕ) where
        enters : {r : Reached} → Closed s (i + 1) x (level + 1) e y r → (hashes : Bool) (cs : List ℕ) → Level level cs
            → scan_deep hashes (x ∷ c ∷ cs) (drop (i + 1) s) (i + 1) (deeper (c ∷ cs) (get_or s i 0) i e) ≡ behind r (λ j. scan_deep hashes (c ∷ cs) (drop j s) j y)
        enters p hashes cs h =
            let more : length (c ∷ cs) ≡ level + 1 = rw (h, add-one level) in
            ap (scan_deep hashes (x ∷ c ∷ cs) (drop (i + 1) s) (i + 1)) (deeper_opens (c ∷ cs) (get_or s i 0) i e (level + 1) o more) ∙ p.reads hashes (c ∷ cs) more

        pub pair_behind : (j : ℕ) → Closed s (i + 1) x (level + 1) e y (reached j) → (k : ℕ) → k ≡ j + span is_inner (drop j s) → Alone s at c level d k y
        pair_behind j p k run =
            pauses (Level level) s at c d c [] j k y
            (paused_behind (Level level) s at c d c [] i e w l o x f j y (omega (arith, p.past)) (enters p)) run

        pub pair_lost : (j : ℕ) → Closed s (i + 1) x (level + 1) e y (lost_at j) → Closed s at c level d y (lost_at j)
        pair_lost j p = closed_low y (lost_at j) (paused_lost (Level level) s at c d c [] i e w l o x f j y (enters p)) tt
