-- A text is read as far as it goes.
use mathlib.Core.Path.{◌≡◌, refl, ap, ◌∙◌}
use mathlib.Core.Bool.{Bool}
use mathlib.Core.Option.{Option, none, some}
use mathlib.Core.List.{List, [], ◌∷◌, ◌++◌, append_assoc, append-nil}
use Prim.Native.Nat.{ℕ, suc, ◌+◌, ◌-◌, ◌<◌, ◌≤◌}
use native.Mathlib.Omega.{arith}
use borrow.Author.Tests.{ltb-true, ltb-false}
use lib.Dec.{ltb}
use lib.ListN.{length, get_or, take, drop, length-drop}
use Rattle.basics.specs.Choice.{by_test}
use Rattle.scope.specs.declared.grammar.Slot.{Slot}
use Rattle.scope.specs.declared.grammar.Key.{Key}
use Rattle.scope.specs.Keys.{form, hash_is_plain}
use Rattle.scope.specs.Lists.{given}
use Rattle.scope.specs.Content.{Context, in_text, lost, text_step, text_end, inner_step}
use Rattle.scope.specs.Reading.{Held, stuck}
use Rattle.texts.specs.Texts.{TextScanned, ends, stopped, scan_text}
use Rattle.texts.specs.Texts as texts
use Rattle.values.specs.Says.{through}
use Rattle.values.proofs.Through.{below, byte_there, drop_on, through_end, through_same, through_lost, through_going}

-- a text that owes a closer cannot end
owing : {P : Type 0} (c : Context P) (a : P) (k : Key) (t : List ℕ) (x : ℕ) (cs : List ℕ) (b : ℕ) → text_end c a k t (x ∷ cs) b ≡ lost
unfolding text_end
owing c a k [] x cs b = refl
owing c a k (y ∷ t) x cs b = refl

module _ (line : List ℕ) (s : Slot) (o : ℕ) (h : Held ℕ) (c : Context ℕ) (a : ℕ) (k : Key) (hashes : Bool) (plain : hash_is_plain (form k) ≡ hashes) where
  abbrev pub TextSays : ℕ → List ℕ → List ℕ → List ℕ → TextScanned → Type 0
  TextSays j t cs l (ends e) =
      (j ≤ e) × (e ≤ length line) × (through line s o h j (inner_step j (in_text c a k t cs)) ≡ through line s o h e (text_end c a k (t ++ take (e - j) l) []))
  TextSays j t cs l (texts.stuck e) = through line s o h j (inner_step j (in_text c a k t cs)) ≡ stuck e

  -- it can go no further
  stops : (j : ℕ) (t cs l : List ℕ) → j ≤ length line → (j < length line → text_step hashes cs (get_or line j 0) ≡ none) → TextSays j t cs l (stopped cs j)
  unfolding inner_step
  stops j t [] l n e =
      let z : j - j ≡ 0 = omega arith in (
        omega arith,
        n,
        through_same line s o h j (inner_step j (in_text c a k t [])) (text_end c a k (t ++ take (j - j) l) [])
            (λ m. rw (z, plain, e m, append-nil)),
      )
  stops j t (x ∷ cs) l n e =
      by_test (ltb j (length line))
      (λ q. let m = ltb-true j (length line) q in
      through_lost line s o h j (inner_step j (in_text c a k t (x ∷ cs))) m (rw (plain, e m, owing c a k t x cs (get_or line j 0))))
      (λ q. let m = ltb-false j (length line) q in
      let w : length line ≡ j = omega arith in
      through_end line s o h j (inner_step j (in_text c a k t (x ∷ cs))) m ∙ ap stuck w)

  -- one byte of the text
  goes : (j b : ℕ) (t cs cs' l : List ℕ) (r : TextScanned) → drop j line ≡ b ∷ l → text_step hashes cs b ≡ some cs'
      → TextSays (j + 1) (t ++ (b ∷ [])) cs' l r → TextSays j t cs (b ∷ l) r
  unfolding inner_step
  goes j b t cs cs' l (ends e) d p w =
      let m : e - j ≡ suc (e - (j + 1)) = omega (arith, w.0) in (
        omega (arith, w.0),
        w.1,
        through_going line s o h j (inner_step j (in_text c a k t cs)) (in_text c a k (t ++ (b ∷ [])) cs') (below line j b l d)
            (rw (byte_there line j b l d, plain, p))
            ∙ w.2 ∙ rw (m, append_assoc),
      )
  goes j b t cs cs' l (texts.stuck e) d p w =
      through_going line s o h j (inner_step j (in_text c a k t cs)) (in_text c a k (t ++ (b ∷ [])) cs') (below line j b l d)
      (rw (byte_there line j b l d, plain, p))
      ∙ w

  pub text_says : (l : List ℕ) (j : ℕ) (t cs : List ℕ) → drop j line ≡ l → j ≤ length line → TextSays j t cs l (scan_text hashes cs l j)
  unfolding scan_text
  text_says [] j t cs d n = stops j t cs [] n (λ m. absurd (let z = ap length d in omega (arith, length-drop j line, z)))
  text_says (b ∷ l) j t cs d n = go (text_step hashes cs b) refl (λ cs'. text_says l (j + 1) (t ++ (b ∷ [])) cs' (drop_on line j b l d) (omega (arith, below line j b l d)))
    where
      go : (x : Option (List ℕ)) → text_step hashes cs b ≡ x → ((cs' : List ℕ) → TextSays (j + 1) (t ++ (b ∷ [])) cs' l (scan_text hashes cs' l (j + 1)))
          → TextSays j t cs (b ∷ l) (given x (λ cs'. scan_text hashes cs' l (j + 1)) (stopped cs j))
      go (some cs') e ih = goes j b t cs cs' l (scan_text hashes cs' l (j + 1)) d e (ih cs')
      go none e ih = stops j t cs (b ∷ l) n (λ m. ap (text_step hashes cs) (byte_there line j b l d) ∙ e)
