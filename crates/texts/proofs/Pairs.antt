-- Laws of one byte inside a pair and outside every pair, and one law for each arm of `text_end`. Assumes nothing.
use Prim.Native.Nat.{ℕ, ◌+◌, ◌≤◌, ◌<◌}
use mathlib.Core.Path.{◌≡◌, refl, sym, ap, ◌∙◌}
use mathlib.Core.Bool.{Bool, true, false, not, ◌&&◌, and-true}
use mathlib.Core.Option.{Option, none, some}
use mathlib.Core.List.{List, [], ◌∷◌}
use lib.ListN.{length, get_or, drop}
use borrow.Author.Tests.{eq-eqb, ne_eqb}
use Rattle.scope.specs.Bytes.{is_printable, is_opening, is_shutting, closer_of}
use Rattle.scope.specs.Lists.{given}
use Rattle.scope.specs.Content.{text_step}
use Rattle.classes.specs.Runs.{span}
use Rattle.classes.proofs.Runs.{run_next}
use Rattle.std.specs.Prelude.{None}
use Rattle.std.specs.Prelude.{Option as Perhaps}
use Rattle.texts.specs.Texts.{scan_text, told, Told, ended, stuck_at, reached, lost_at, scan_deep, deeper, entered, is_outer, is_inner, Closed}
use Rattle.texts.proofs.Firsts.{deeper_not, deeper_opens}
use Rattle.texts.proofs.Steps.{shut_not_open, outer_step, outer_quiet, scan_run, scan_at, scan_end}
use Rattle.texts.proofs.Told.{text_told}

-- the step of a byte that is not plain
outer_open : (hashes : Bool) (b : ℕ) → is_outer hashes b ≡ false → is_opening b ≡ true → text_step hashes [] b ≡ some (closer_of b ∷ [])
unfolding text_step is_outer
outer_open hashes b e o = rw (e, o)

outer_none : (hashes : Bool) (b : ℕ) → is_outer hashes b ≡ false → is_opening b ≡ false → text_step hashes [] b ≡ none
unfolding text_step is_outer
outer_none hashes b e o = rw (e, o)

inner_open : (hashes : Bool) (c : ℕ) (cs : List ℕ) (b : ℕ) → is_opening b ≡ true → text_step hashes (c ∷ cs) b ≡ some (closer_of b ∷ c ∷ cs)
unfolding text_step
inner_open hashes c cs b o = rw o

inner_shut : (hashes : Bool) (c : ℕ) (cs : List ℕ) (b : ℕ) → is_shutting c ≡ true → b ≡ c → text_step hashes (c ∷ cs) b ≡ some cs
unfolding text_step
inner_shut hashes c cs b h e =
    let o : is_opening b ≡ false = ap is_opening e ∙ shut_not_open c h in
    rw (o, eq-eqb b c e)

inner_none : (hashes : Bool) (c : ℕ) (cs : List ℕ) (b : ℕ) → is_inner b ≡ false → is_opening b ≡ false → (b ≡ c → ⊥) → text_step hashes (c ∷ cs) b ≡ none
unfolding text_step is_inner
inner_none hashes c cs b e o d =
    let q : is_printable b && not (is_shutting b) ≡ false = sym (and-true _) ∙ ap (λ x. is_printable b && not (is_shutting b) && not x) (sym o) ∙ e in
    rw (o, ne_eqb b c d, q)

module _ (s : List ℕ) (i : ℕ) (l : i < length s) where
  -- inside a pair that c closes
  module _ (c : ℕ) (cs : List ℕ) (hashes : Bool) (d : Perhaps ℕ) where
    inner_goes : {o : Option (List ℕ)} → text_step hashes (c ∷ cs) (get_or s i 0) ≡ o
        → scan_deep hashes (c ∷ cs) (drop i s) i d ≡ given o (λ cs'. scan_deep hashes cs' (drop (i + 1) s) (i + 1) (deeper (c ∷ cs) (get_or s i 0) i d)) (stuck_at i)
    inner_goes q =
        scan_at hashes (c ∷ cs) s i d l
        ∙ ap (λ o. given o (λ cs'. scan_deep hashes cs' (drop (i + 1) s) (i + 1) (deeper (c ∷ cs) (get_or s i 0) i d)) (stuck_at i)) q

    pub inner_shuts : is_shutting c ≡ true → get_or s i 0 ≡ c → scan_deep hashes (c ∷ cs) (drop i s) i d ≡ scan_deep hashes cs (drop (i + 1) s) (i + 1) d
    inner_shuts h q =
        inner_goes (inner_shut hashes c cs _ h q)
        ∙ ap (scan_deep hashes cs (drop (i + 1) s) (i + 1)) (deeper_not (c ∷ cs) (get_or s i 0) i d (ap is_opening q ∙ shut_not_open c h))

    pub inner_stops : is_inner (get_or s i 0) ≡ false → is_opening (get_or s i 0) ≡ false → (get_or s i 0 ≡ c → ⊥) → scan_deep hashes (c ∷ cs) (drop i s) i d ≡ stuck_at i
    inner_stops e o n = inner_goes (inner_none hashes c cs _ e o n)

    pub inner_opens : is_opening (get_or s i 0) ≡ true → (x : ℕ) → x ≡ closer_of (get_or s i 0)
        → scan_deep hashes (c ∷ cs) (drop i s) i d ≡ scan_deep hashes (x ∷ c ∷ cs) (drop (i + 1) s) (i + 1) (deeper (c ∷ cs) (get_or s i 0) i d)
    inner_opens o x e = inner_goes (inner_open hashes c cs _ o ∙ ap (λ y. some (y ∷ c ∷ cs)) (sym e))

  -- outside every pair
  module _ (hashes : Bool) (e : is_outer hashes (get_or s i 0) ≡ false) (d : Perhaps ℕ) where
    outer_goes : {o : Option (List ℕ)} → text_step hashes [] (get_or s i 0) ≡ o
        → scan_deep hashes [] (drop i s) i d ≡ given o (λ cs'. scan_deep hashes cs' (drop (i + 1) s) (i + 1) (deeper [] (get_or s i 0) i d)) (ended i d)
    outer_goes q =
        scan_at hashes [] s i d l ∙ ap (λ o. given o (λ cs'. scan_deep hashes cs' (drop (i + 1) s) (i + 1) (deeper [] (get_or s i 0) i d)) (ended i d)) q

    outer_stops : is_opening (get_or s i 0) ≡ false → scan_deep hashes [] (drop i s) i d ≡ ended i d
    outer_stops o = outer_goes (outer_none hashes _ e o)

    outer_opens : is_opening (get_or s i 0) ≡ true → (x : ℕ) → x ≡ closer_of (get_or s i 0)
        → scan_deep hashes [] (drop i s) i d ≡ scan_deep hashes (x ∷ []) (drop (i + 1) s) (i + 1) (entered 0 (i + 1) d)
    outer_opens o x m =
        outer_goes (outer_open hashes _ e o ∙ ap (λ y. some (y ∷ [])) (sym m))
        ∙ ap (scan_deep hashes (x ∷ []) (drop (i + 1) s) (i + 1)) (deeper_opens [] (get_or s i 0) i d 0 o refl)

-- read from at up to i, outside every pair, with the first place before i at which one is too deep; and no byte at i goes on so
pub record Outside (s : List ℕ) (at : ℕ) (hashes : Bool) (i : ℕ) (deep : Perhaps ℕ) : Type 0 where
  pub reads : scan_deep hashes [] (drop at s) at None ≡ scan_deep hashes [] (drop i s) i deep
  pub pause : i < length s → is_outer hashes (get_or s i 0) ≡ false

module _ (s : List ℕ) (at : ℕ) (hashes : Bool) where
  abbrev text : Told
  text = told s at (scan_text hashes [] (drop at s) at)

  passed : (j i : ℕ) (deep : Perhaps ℕ) → scan_deep hashes [] (drop at s) at None ≡ scan_deep hashes [] (drop j s) j deep → i ≡ j + span (is_outer hashes) (drop j s)
      → Outside s at hashes i deep
  passed j i deep q e =
      record {
        reads = q ∙ scan_run (is_outer hashes) hashes [] (outer_step hashes) (outer_quiet hashes) s j i deep e;
        pause = run_next (is_outer hashes) s j i e;
      }

  pub text_starts : (i : ℕ) → i ≡ at + span (is_outer hashes) (drop at s) → Outside s at hashes i None
  text_starts i e = passed at i None refl e

  module _ (i : ℕ) (deep : Perhaps ℕ) (v : Outside s at hashes i deep) where
    pub text_over : length s ≤ i → ended i deep ≡ text
    text_over h = sym (v.reads ∙ scan_end hashes [] s i deep h) ∙ text_told hashes s at

    module _ (l : i < length s) where
      pub text_ends : is_opening (get_or s i 0) ≡ false → ended i deep ≡ text
      text_ends o = sym (v.reads ∙ outer_stops s i l hashes (v.pause l) deep o) ∙ text_told hashes s at

      -- x closes the pair that is opened at i, and y is what is told behind that
      module _ (o : is_opening (get_or s i 0) ≡ true) (x : ℕ) (m : x ≡ closer_of (get_or s i 0)) (y : Perhaps ℕ) (j : ℕ) where
        opened : scan_deep hashes [] (drop at s) at None ≡ scan_deep hashes (x ∷ []) (drop (i + 1) s) (i + 1) (entered 0 (i + 1) deep)
        opened = v.reads ∙ outer_opens s i l hashes (v.pause l) deep o x m

        pub text_behind : Closed s (i + 1) x 0 deep y (reached j) → (k : ℕ) → k ≡ j + span (is_outer hashes) (drop j s) → Outside s at hashes k y
        text_behind p k e = passed j k y (opened ∙ p.reads hashes [] refl) e

        pub text_lost : Closed s (i + 1) x 0 deep y (lost_at j) → stuck_at j ≡ text
        text_lost p = sym (opened ∙ p.reads hashes [] refl) ∙ text_told hashes s at
