-- What is told byte by byte is where the text ends, and the first place in it at which a pair is too deep. Assumes nothing.
use Prim.Native.Nat.{ℕ, suc, ◌+◌, ◌-◌, ◌≤◌, min}
use mathlib.Core.Path.{◌≡◌, refl, sym, ap, subst, ◌∙◌}
use mathlib.Core.Bool.{Bool, true, false, not, cond, ◌&&◌, ◌||◌}
use mathlib.Core.Option.{Option, none, some}
use mathlib.Core.List.{List, [], ◌∷◌, ◌++◌}
use native.Mathlib.Omega.{arith}
use lib.Dec.{eqb}
use lib.ListN.{length, take, drop}
use borrow.Author.Tests.{not-true, eqb-true}
use Rattle.basics.specs.Tests.{both_of}
use Rattle.scope.specs.Bytes.{is_printable, is_opening, is_shutting, closer_of, colon, hash}
use Rattle.scope.specs.Lists.{given, part}
use Rattle.scope.specs.Content.{is_plain, text_step}
use Rattle.scope.specs.Refusals.{due_at, least, depth_after, too_deep}
use Rattle.std.specs.Prelude.{Some, None, Ok, Err}
use Rattle.std.specs.Prelude.{Option as Perhaps}
use Rattle.std.specs.Option.{option_or}
use Rattle.texts.specs.Texts.{TextScanned, ends, stuck, stopped, scan_text, coded, Told, ended, stuck_at, told, opens_too_deep, deeper, stopped_deep, scan_deep, is_outer}
use Rattle.texts.proofs.Firsts.{first_none, first_first}
use Rattle.texts.proofs.Bounds.{place_of, in_scan}
use Rattle.texts.proofs.Steps.{outer_quiet}

-- what is found is not below i
abbrev pub Above : ℕ → Option ℕ → Type 0
Above i none = Unit {0}
Above i (some k) = i ≤ k

above_more : (i : ℕ) (o : Option ℕ) → Above (i + 1) o → Above i (some (given o (min i) i))
above_more i none h = omega arith
above_more i (some k) h = omega arith

above_less : (i : ℕ) (o : Option ℕ) → Above (i + 1) o → Above i o
above_less i none h = tt
above_less i (some k) h = omega arith

pub above : (d i : ℕ) (l : List ℕ) → Above i (least (too_deep d i l))
unfolding too_deep least
above d i [] = tt
above d i (b ∷ l) = go (opens_too_deep d b) (above (depth_after d b) (i + 1) l)
  where
    go : (x : Bool) → Above (i + 1) (least (too_deep (depth_after d b) (i + 1) l)) → Above i (least (due_at x i ++ too_deep (depth_after d b) (i + 1) l))
    go true h = above_more i (least (too_deep (depth_after d b) (i + 1) l)) h
    go false h = above_less i (least (too_deep (depth_after d b) (i + 1) l)) h

pub lowest : (i : ℕ) (o : Option ℕ) → Above (i + 1) o → given o (min i) i ≡ i
lowest i none h = refl
lowest i (some k) h = omega arith

abbrev some_at : ℕ → Perhaps ℕ
some_at i = Some i

-- the first place, from i on, with d pairs open
unfoldable deep_from : ℕ → ℕ → List ℕ → Perhaps ℕ
deep_from d i [] = None
deep_from d i (b ∷ t) = cond (opens_too_deep d b) (Some i) (deep_from (depth_after d b) (i + 1) t)

deep_is : (t : List ℕ) (d i : ℕ) → deep_from d i t ≡ coded (least (too_deep d i t))
unfolding deep_from too_deep least
deep_is [] d i = refl
deep_is (b ∷ t) d i = go (opens_too_deep d b) (deep_is t (depth_after d b) (i + 1))
  where
    go : (x : Bool) → deep_from (depth_after d b) (i + 1) t ≡ coded (least (too_deep (depth_after d b) (i + 1) t))
        → cond x (Some i) (deep_from (depth_after d b) (i + 1) t) ≡ coded (least (due_at x i ++ too_deep (depth_after d b) (i + 1) t))
    go true ih = ap some_at (sym (lowest i (least (too_deep (depth_after d b) (i + 1) t)) (above (depth_after d b) (i + 1) t)))
    go false ih = ih

-- ---- the closers that are owed are as many as the pairs that are open
abbrev Shut : List ℕ → Type 0
Shut [] = Unit {0}
Shut (c ∷ cs) = (is_shutting c ≡ true) × Shut cs

closer_shuts : (b : ℕ) → is_shutting (closer_of b) ≡ true
closer_shuts b = go (eqb b 91)
  where
    go : (x : Bool) → is_shutting (cond x 93 125) ≡ true
    go true = refl
    go false = refl

record Stepped (cs cs' : List ℕ) (b : ℕ) : Type 0 where
  shut : Shut cs'
  deep : length cs' ≡ depth_after (length cs) b

stepped : (hashes : Bool) (cs cs' : List ℕ) (b : ℕ) → Shut cs → text_step hashes cs b ≡ some cs' → Stepped cs cs' b
unfolding text_step is_outer
stepped hashes [] cs' b h e = go (is_plain b || eqb b colon || hashes && eqb b hash) refl (is_opening b) refl e
  where
    nought : (t : Bool) → 0 ≡ cond t (0 - 1) 0
    nought true = refl
    nought false = refl

    go : (x : Bool) → is_plain b || eqb b colon || hashes && eqb b hash ≡ x → (y : Bool) → is_opening b ≡ y
        → ◌≡◌ {A = Option (List ℕ)} (cond x (some []) (cond y (some (closer_of b ∷ [])) none)) (some cs') → Stepped [] cs' b
    go true p y q f =
        let same : [] ≡ cs' = cc in
        subst (λ z. Stepped [] z b) same (record { shut = tt; deep = rw (outer_quiet hashes b p) (nought (is_shutting b)) })
    go false p true q f =
        let same : closer_of b ∷ [] ≡ cs' = cc in
        subst (λ z. Stepped [] z b) same (record { shut = (closer_shuts b, tt); deep = rw q })
    go false p false q f = absurd (let z : ◌≡◌ {A = ℕ} 0 1 = cc in omega arith)
stepped hashes (c ∷ cs) cs' b h e = go (is_opening b) refl (eqb b c) refl (is_printable b && not (is_shutting b)) refl e
  where
    go : (x : Bool) → is_opening b ≡ x → (y : Bool) → eqb b c ≡ y → (z : Bool) → is_printable b && not (is_shutting b) ≡ z
        → ◌≡◌ {A = Option (List ℕ)} (cond x (some (closer_of b ∷ c ∷ cs)) (cond y (some cs) (cond z (some (c ∷ cs)) none))) (some cs') → Stepped (c ∷ cs) cs' b
    go true p y q z r f =
        let same : closer_of b ∷ c ∷ cs ≡ cs' = cc in
        subst (λ l. Stepped (c ∷ cs) l b) same (record { shut = (closer_shuts b, h); deep = rw p (omega arith) })
    go false p true q z r f =
        let same : cs ≡ cs' = cc in
        let u : is_shutting b ≡ true = ap is_shutting (eqb-true b c q) ∙ h.0 in
        subst (λ l. Stepped (c ∷ cs) l b) same (record { shut = h.1; deep = rw (p, u) (omega arith) })
    go false p false q true r f =
        let same : c ∷ cs ≡ cs' = cc in
        let u : is_shutting b ≡ false = not-true (is_shutting b) (both_of (is_printable b) (not (is_shutting b)) r).1 in
        subst (λ l. Stepped (c ∷ cs) l b) same (record { shut = h; deep = rw (p, u) })
    go false p false q false r f = absurd (let w : ◌≡◌ {A = ℕ} 0 1 = cc in omega arith)

-- ---- behind what is told before i, with n pairs open there
abbrev told_from : Perhaps ℕ → ℕ → ℕ → List ℕ → TextScanned → Told
told_from d n i l (ends e) = ended e (option_or d (deep_from n i (take (e - i) l)))
told_from d n i l (stuck e) = stuck_at e

told_stopped : (cs l : List ℕ) (i : ℕ) (d : Perhaps ℕ) → stopped_deep cs i d ≡ told_from d (length cs) i l (stopped cs i)
unfolding deep_from
told_stopped [] l i d =
    let z : i - i ≡ 0 = omega arith in
    rw z (ap (ended i) (sym (first_none d)))
told_stopped (c ∷ cs) l i d = refl

one_more : (n i : ℕ) (d : Perhaps ℕ) (b : ℕ) (t : List ℕ) → option_or (cond (opens_too_deep n b) (option_or d (Some i)) d) (deep_from (depth_after n b) (i + 1) t) ≡ option_or d (deep_from n i (b ∷ t))
unfolding deep_from
one_more n i d b t = go (opens_too_deep n b)
  where
    go : (x : Bool) → option_or (cond x (option_or d (Some i)) d) (deep_from (depth_after n b) (i + 1) t) ≡ option_or d (cond x (Some i) (deep_from (depth_after n b) (i + 1) t))
    go true = first_first d (Some i) (deep_from (depth_after n b) (i + 1) t)
    go false = refl

told_on : (cs cs' l : List ℕ) (b i : ℕ) (d : Perhaps ℕ) → Stepped cs cs' b → (r : TextScanned) → i + 1 ≤ place_of r
    → told_from (deeper cs b i d) (length cs') (i + 1) l r ≡ told_from d (length cs) i (b ∷ l) r
unfolding deeper
told_on cs cs' l b i d w (ends e) k =
    let m : e - i ≡ suc (e - (i + 1)) = omega arith in
    let n = w.deep in
    rw (n, m) (ap (ended e) (one_more (length cs) i d b (take (e - (i + 1)) l)))
told_on cs cs' l b i d w (stuck e) k = refl

scan_told : (hashes : Bool) (cs l : List ℕ) (i : ℕ) (d : Perhaps ℕ) → Shut cs → scan_deep hashes cs l i d ≡ told_from d (length cs) i l (scan_text hashes cs l i)
unfolding scan_deep scan_text
scan_told hashes cs [] i d h = told_stopped cs [] i d
scan_told hashes cs (b ∷ l) i d h = go (text_step hashes cs b) refl (λ cs' w. scan_told hashes cs' l (i + 1) (deeper cs b i d) w)
  where
    go : (x : Option (List ℕ)) → text_step hashes cs b ≡ x
        → ((cs' : List ℕ) → Shut cs' → scan_deep hashes cs' l (i + 1) (deeper cs b i d) ≡ told_from (deeper cs b i d) (length cs') (i + 1) l (scan_text hashes cs' l (i + 1)))
        → given x (λ cs'. scan_deep hashes cs' l (i + 1) (deeper cs b i d)) (stopped_deep cs i d)
        ≡ told_from d (length cs) i (b ∷ l) (given x (λ cs'. scan_text hashes cs' l (i + 1)) (stopped cs i))
    go (some cs') e ih =
        let w = stepped hashes cs cs' b h e in
        ih cs' w.shut ∙ told_on cs cs' l b i d w (scan_text hashes cs' l (i + 1)) (in_scan hashes cs' l (i + 1) (i + 1 + length l) refl).0
    go none e ih = told_stopped cs (b ∷ l) i d

told_whole : (s : List ℕ) (at : ℕ) (r : TextScanned) → told_from None 0 at (drop at s) r ≡ told s at r
told_whole s at (ends e) = ap (ended e) (deep_is (take (e - at) (drop at s)) 0 at)
told_whole s at (stuck e) = refl

pub text_told : (hashes : Bool) (s : List ℕ) (at : ℕ) → scan_deep hashes [] (drop at s) at None ≡ told s at (scan_text hashes [] (drop at s) at)
text_told hashes s at = scan_told hashes [] (drop at s) at None tt ∙ told_whole s at (scan_text hashes [] (drop at s) at)

-- ---- and the other way round
abbrev end_of : Told → ℕ
end_of (Ok r) = r.to
end_of (Err e) = e.at

abbrev deep_of : Told → Perhaps ℕ
deep_of (Ok r) = r.deep
deep_of (Err e) = None

pub told_ends : (s : List ℕ) (at : ℕ) (r : TextScanned) (e : ℕ) (y : Perhaps ℕ) → ended e y ≡ told s at r → (ends e ≡ r) × (y ≡ coded (least (too_deep 0 at (part at (e - at) s))))
told_ends s at (ends i) e y f = let same : e ≡ i = ap end_of f in rw same (refl, ap deep_of f)
told_ends s at (stuck i) e y f = absurd (let z : ◌≡◌ {A = ℕ} 0 1 = cc in omega arith)

pub told_stuck : (s : List ℕ) (at : ℕ) (r : TextScanned) (e : ℕ) → stuck_at e ≡ told s at r → stuck e ≡ r
told_stuck s at (ends i) e f = absurd (let z : ◌≡◌ {A = ℕ} 0 1 = cc in omega arith)
told_stuck s at (stuck i) e f = ap stuck (ap end_of f)
