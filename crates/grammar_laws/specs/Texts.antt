-- Texts: the bytes of a good text leave no closer owed, and bytes that leave none are a good text.
use Rattle.std.specs.Prelude.{ℕ, Bool, cond, ◌&&◌, ◌||◌}
use Rattle.std.proofs.Common.{arith, ◌∙◌, true≢false, eqb-true, ne_eqb}
use Rattle.std.proofs.Math.Path.{◌≡◌, refl, sym, ap, subst}
use Rattle.std.proofs.Math.Bool.{true, false, not}
use Rattle.std.proofs.Math.Option.{Option, none, some, some-injective, none-ne-some}
use mathlib.Core.List.{List, [], ◌∷◌, ◌++◌, append_assoc}
use Rattle.std.proofs.Math.Dec.{eqb}
use Rattle.std.proofs.lemmas.Bool.{not-true}
use Rattle.scope.specs.Bytes.{is_printable, is_opening, is_shutting, closer_of, open_square, shut_square, open_curly, shut_curly, bar, hash, colon}
use Rattle.scope.specs.Lists.{given}
use Rattle.scope.specs.Content.{is_plain, text_step}
use Rattle.basics.specs.Choice.{pick_true, pick_false, pick_some}
use Rattle.basics.specs.Tests.{and_left, and_right, both}
use Rattle.scope.specs.Grammar.{Text, over, byte, square, curly, print_text, plain_byte, outer_byte, good_text}

-- the closers owed after some bytes
unfoldable pub text_run : Bool → List ℕ → List ℕ → Option (List ℕ)
text_run hashes cs [] = some cs
text_run hashes cs (b ∷ l) = given (text_step hashes cs b) (λ cs'. text_run hashes cs' l) none

pub text_append : (hashes : Bool) (l m cs cs' : List ℕ) → text_run hashes cs l ≡ some cs' → text_run hashes cs (l ++ m) ≡ text_run hashes cs' m
unfolding text_run
text_append hashes [] m cs cs' e = ap (λ z. text_run hashes z m) (some-injective cs cs' e)
text_append hashes (b ∷ l) m cs cs' e = go (text_step hashes cs b) (λ x h. text_append hashes l m x cs' h) e
  where
    go : (o : Option (List ℕ)) → ((x : List ℕ) → text_run hashes x l ≡ some cs' → text_run hashes x (l ++ m) ≡ text_run hashes cs' m)
        → given o (λ x. text_run hashes x l) none ≡ some cs' → given o (λ x. text_run hashes x (l ++ m)) none ≡ text_run hashes cs' m
    go none ih e = absurd (none-ne-some cs' e)
    go (some x) ih e = ih x e

pub text_cons : (hashes : Bool) (b : ℕ) (l cs cs' : List ℕ) → text_step hashes cs b ≡ some cs' → text_run hashes cs (b ∷ l) ≡ text_run hashes cs' l
unfolding text_run
text_cons hashes b l cs cs' e = pick_some (text_step hashes cs b) _ _ cs' e

pub text_nil : (hashes : Bool) (cs : List ℕ) → text_run hashes cs [] ≡ some cs
unfolding text_run
text_nil hashes cs = refl

-- ---- the bytes outside every pair
-- what the reader takes there
abbrev pub outer : Bool → ℕ → Bool
outer hashes b = is_plain b || eqb b colon || hashes && eqb b hash

other : (p o s e h : Bool) → (p && not o && not s && not e && not false && not false || false || h && false) ≡ (p && not o && not s && not e && (h || not false))
other false o s e true = refl
other false o s e false = refl
other true true s e true = refl
other true true s e false = refl
other true false true e true = refl
other true false true e false = refl
other true false false true true = refl
other true false false true false = refl
other true false false false true = refl
other true false false false false = refl

pub outer_byte_lem : (hashes : Bool) (b : ℕ) → outer hashes b ≡ outer_byte hashes b
outer_byte_lem hashes b = go (eqb b colon) (eqb b hash) refl refl
  where
    at_colon : (h : Bool) → outer h colon ≡ outer_byte h colon
    at_colon true = refl
    at_colon false = refl

    at_hash : (h : Bool) → outer h hash ≡ outer_byte h hash
    at_hash true = refl
    at_hash false = refl

    go : (x y : Bool) → eqb b colon ≡ x → eqb b hash ≡ y → outer hashes b ≡ outer_byte hashes b
    go true y e f = rw (eqb-true b colon e) (at_colon hashes)
    go false true e f = rw (eqb-true b hash f) (at_hash hashes)
    go false false e f = rw (e, f) (other (is_printable b) (is_opening b) (is_shutting b) (eqb b bar) hashes)

-- ---- a good text, run over
outer_step : (hashes : Bool) (b : ℕ) → outer_byte hashes b ≡ true → text_step hashes [] b ≡ some []
unfolding text_step
outer_step hashes b e = pick_true (outer hashes b) _ _ (outer_byte_lem hashes b ∙ e)

inner_step_lem : (hashes : Bool) (c : ℕ) (cs : List ℕ) (b : ℕ) → is_shutting c ≡ true → plain_byte b ≡ true → text_step hashes (c ∷ cs) b ≡ some (c ∷ cs)
unfolding text_step
inner_step_lem hashes c cs b h e =
    let p : is_printable b ≡ true = and_left (is_printable b) (not (is_opening b)) (and_left (is_printable b && not (is_opening b)) (not (is_shutting b)) e) in
    let o : is_opening b ≡ false = not-true (is_opening b) (and_right (is_printable b) (not (is_opening b)) (and_left (is_printable b && not (is_opening b)) (not (is_shutting b)) e)) in
    let s : not (is_shutting b) ≡ true = and_right (is_printable b && not (is_opening b)) (not (is_shutting b)) e in
    let d : eqb b c ≡ false = ne_eqb b c (λ z. true≢false (sym h ∙ ap is_shutting (sym z) ∙ not-true (is_shutting b) s)) in
    pick_false (is_opening b) _ _ o ∙ pick_false (eqb b c) _ _ d ∙ pick_true (is_printable b && not (is_shutting b)) _ _ (both (is_printable b) (not (is_shutting b)) p s)

-- a pair, within others
module _ (hashes : Bool) (cs : List ℕ) where
  open_square_lem : text_step hashes cs open_square ≡ some (shut_square ∷ cs)
  unfolding text_step
  open_square_lem = go hashes cs
    where
      go : (h : Bool) (ds : List ℕ) → text_step h ds open_square ≡ some (shut_square ∷ ds)
      go true [] = refl
      go false [] = refl
      go h (c ∷ ds) = refl

  open_curly_lem : text_step hashes cs open_curly ≡ some (shut_curly ∷ cs)
  unfolding text_step
  open_curly_lem = go hashes cs
    where
      go : (h : Bool) (ds : List ℕ) → text_step h ds open_curly ≡ some (shut_curly ∷ ds)
      go true [] = refl
      go false [] = refl
      go h (c ∷ ds) = refl

  shut_square_lem : text_step hashes (shut_square ∷ cs) shut_square ≡ some cs
  unfolding text_step
  shut_square_lem = refl

  shut_curly_lem : text_step hashes (shut_curly ∷ cs) shut_curly ≡ some cs
  unfolding text_step
  shut_curly_lem = refl

  square_run : (u t : List ℕ) (o : Option (List ℕ)) → text_run hashes (shut_square ∷ cs) u ≡ some (shut_square ∷ cs) → text_run hashes cs t ≡ o → text_run hashes cs (open_square ∷ (u ++ (shut_square ∷ t))) ≡ o
  square_run u t o e f = text_cons hashes open_square _ cs _ open_square_lem ∙ text_append hashes u (shut_square ∷ t) _ _ e ∙ text_cons hashes shut_square t _ cs shut_square_lem ∙ f

  curly_run : (u t : List ℕ) (o : Option (List ℕ)) → text_run hashes (shut_curly ∷ cs) u ≡ some (shut_curly ∷ cs) → text_run hashes cs t ≡ o → text_run hashes cs (open_curly ∷ (u ++ (shut_curly ∷ t))) ≡ o
  curly_run u t o e f = text_cons hashes open_curly _ cs _ open_curly_lem ∙ text_append hashes u (shut_curly ∷ t) _ _ e ∙ text_cons hashes shut_curly t _ cs shut_curly_lem ∙ f

-- bytes that leave the closers as they are, outside and inside
module _ (hashes : Bool) where
  inner_run : (t : Text) (c : ℕ) (cs : List ℕ) → is_shutting c ≡ true → good_text plain_byte t ≡ true → text_run hashes (c ∷ cs) (print_text t) ≡ some (c ∷ cs)
  unfolding good_text print_text
  inner_run over c cs h e = text_nil hashes (c ∷ cs)
  inner_run (byte b t) c cs h e =
      text_cons hashes b (print_text t) (c ∷ cs) (c ∷ cs) (inner_step_lem hashes c cs b h (and_left (plain_byte b) (good_text plain_byte t) e))
      ∙ inner_run t c cs h (and_right (plain_byte b) (good_text plain_byte t) e)
  inner_run (square u t) c cs h e =
      square_run hashes (c ∷ cs) (print_text u) (print_text t) _ (inner_run u shut_square (c ∷ cs) refl (and_left (good_text plain_byte u) (good_text plain_byte t) e))
      (inner_run t c cs h (and_right (good_text plain_byte u) (good_text plain_byte t) e))
  inner_run (curly u t) c cs h e =
      curly_run hashes (c ∷ cs) (print_text u) (print_text t) _ (inner_run u shut_curly (c ∷ cs) refl (and_left (good_text plain_byte u) (good_text plain_byte t) e))
      (inner_run t c cs h (and_right (good_text plain_byte u) (good_text plain_byte t) e))

  pub outer_run : (t : Text) → good_text (outer_byte hashes) t ≡ true → text_run hashes [] (print_text t) ≡ some []
  unfolding good_text print_text
  outer_run over e = text_nil hashes []
  outer_run (byte b t) e =
      text_cons hashes b (print_text t) [] [] (outer_step hashes b (and_left (outer_byte hashes b) (good_text (outer_byte hashes) t) e))
      ∙ outer_run t (and_right (outer_byte hashes b) (good_text (outer_byte hashes) t) e)
  outer_run (square u t) e =
      square_run hashes [] (print_text u) (print_text t) _ (inner_run u shut_square [] refl (and_left (good_text plain_byte u) (good_text (outer_byte hashes) t) e))
      (outer_run t (and_right (good_text plain_byte u) (good_text (outer_byte hashes) t) e))
  outer_run (curly u t) e =
      curly_run hashes [] (print_text u) (print_text t) _ (inner_run u shut_curly [] refl (and_left (good_text plain_byte u) (good_text (outer_byte hashes) t) e))
      (outer_run t (and_right (good_text plain_byte u) (good_text (outer_byte hashes) t) e))

-- ---- bytes that leave no closer owed are texts: one up to each closer, and one behind the last
pub record WholeTexts (hashes : Bool) (l : List ℕ) : Type 0 where
  pub tree : Text
  pub good : good_text (outer_byte hashes) tree ≡ true
  pub prints : l ≡ print_text tree

pub record UpTo (c : ℕ) (l : List ℕ) (Behind : List ℕ → Type 0) : Type 0 where
  pub tree : Text
  pub rest : List ℕ
  pub good : good_text plain_byte tree ≡ true
  pub prints : l ≡ print_text tree ++ (c ∷ rest)
  pub behind : Behind rest

Nested : Bool → List ℕ → List ℕ → Type 0
Nested hashes [] l = WholeTexts hashes l
Nested hashes (c ∷ cs) l = UpTo c l (Nested hashes cs)

good_byte : (f : ℕ → Bool) (b : ℕ) (t : Text) → f b ≡ true → good_text f t ≡ true → good_text f (byte b t) ≡ true
unfolding good_text
good_byte f b t e g = both (f b) (good_text f t) e g

good_square : (f : ℕ → Bool) (u t : Text) → good_text plain_byte u ≡ true → good_text f t ≡ true → good_text f (square u t) ≡ true
unfolding good_text
good_square f u t e g = both (good_text plain_byte u) (good_text f t) e g

good_curly : (f : ℕ → Bool) (u t : Text) → good_text plain_byte u ≡ true → good_text f t ≡ true → good_text f (curly u t) ≡ true
unfolding good_text
good_curly f u t e g = both (good_text plain_byte u) (good_text f t) e g

good_over : (f : ℕ → Bool) → good_text f over ≡ true
unfolding good_text
good_over f = refl

print_over : print_text over ≡ []
unfolding print_text
print_over = refl

print_byte : (b : ℕ) (t : Text) → print_text (byte b t) ≡ b ∷ print_text t
unfolding print_text
print_byte b t = refl

print_square_lem : (u t : Text) → print_text (square u t) ≡ open_square ∷ (print_text u ++ (shut_square ∷ print_text t))
unfolding print_text
print_square_lem u t = refl

print_curly_lem : (u t : Text) → print_text (curly u t) ≡ open_curly ∷ (print_text u ++ (shut_curly ∷ print_text t))
unfolding print_text
print_curly_lem u t = refl

module _ (hashes : Bool) where
  -- a pair in front
  paired_square : (cs l : List ℕ) → Nested hashes (shut_square ∷ cs) l → Nested hashes cs (open_square ∷ l)
  unfolding Nested
  paired_square [] l w =
      record {
        tree = square w.tree w.behind.tree;
        good = good_square (outer_byte hashes) w.tree w.behind.tree w.good w.behind.good;
        prints = ap (λ z. open_square ∷ z) (w.prints ∙ ap (λ z. print_text w.tree ++ (shut_square ∷ z)) w.behind.prints) ∙ sym (print_square_lem w.tree w.behind.tree);
      }
  paired_square (c ∷ cs) l w =
      record {
        tree = square w.tree w.behind.tree;
        rest = w.behind.rest;
        good = good_square plain_byte w.tree w.behind.tree w.good w.behind.good;
        prints =
            ap (λ z. open_square ∷ z) (w.prints ∙ ap (λ z. print_text w.tree ++ (shut_square ∷ z)) w.behind.prints ∙ sym (append_assoc (print_text w.tree) (shut_square ∷ print_text w.behind.tree) (c ∷ w.behind.rest)))
            ∙ ap (λ z. z ++ (c ∷ w.behind.rest)) (sym (print_square_lem w.tree w.behind.tree));
        behind = w.behind.behind;
      }

  paired_curly : (cs l : List ℕ) → Nested hashes (shut_curly ∷ cs) l → Nested hashes cs (open_curly ∷ l)
  unfolding Nested
  paired_curly [] l w =
      record {
        tree = curly w.tree w.behind.tree;
        good = good_curly (outer_byte hashes) w.tree w.behind.tree w.good w.behind.good;
        prints = ap (λ z. open_curly ∷ z) (w.prints ∙ ap (λ z. print_text w.tree ++ (shut_curly ∷ z)) w.behind.prints) ∙ sym (print_curly_lem w.tree w.behind.tree);
      }
  paired_curly (c ∷ cs) l w =
      record {
        tree = curly w.tree w.behind.tree;
        rest = w.behind.rest;
        good = good_curly plain_byte w.tree w.behind.tree w.good w.behind.good;
        prints =
            ap (λ z. open_curly ∷ z) (w.prints ∙ ap (λ z. print_text w.tree ++ (shut_curly ∷ z)) w.behind.prints ∙ sym (append_assoc (print_text w.tree) (shut_curly ∷ print_text w.behind.tree) (c ∷ w.behind.rest)))
            ∙ ap (λ z. z ++ (c ∷ w.behind.rest)) (sym (print_curly_lem w.tree w.behind.tree));
        behind = w.behind.behind;
      }

  paired : (cs l : List ℕ) (b : ℕ) → is_opening b ≡ true → Nested hashes (closer_of b ∷ cs) l → Nested hashes cs (b ∷ l)
  paired cs l b e w = go (eqb b open_square) refl
    where
      go : (x : Bool) → eqb b open_square ≡ x → Nested hashes cs (b ∷ l)
      go true q =
          let z : b ≡ open_square = eqb-true b open_square q in
          subst (λ (y : ℕ). Nested hashes cs (y ∷ l)) (sym z) (paired_square cs l (subst (λ (y : ℕ). Nested hashes (closer_of y ∷ cs) l) z w))
      go false q =
          let p : eqb b open_curly ≡ true = rw q at e in
          let z : b ≡ open_curly = eqb-true b open_curly p in
          subst (λ (y : ℕ). Nested hashes cs (y ∷ l)) (sym z) (paired_curly cs l (subst (λ (y : ℕ). Nested hashes (closer_of y ∷ cs) l) z w))

  plain_outer : (l : List ℕ) (b : ℕ) → outer_byte hashes b ≡ true → Nested hashes [] l → Nested hashes [] (b ∷ l)
  unfolding Nested
  plain_outer l b e w =
      record {
        tree = byte b w.tree;
        good = good_byte (outer_byte hashes) b w.tree e w.good;
        prints = ap (λ z. b ∷ z) w.prints ∙ sym (print_byte b w.tree);
      }

  plain_inner : (c : ℕ) (cs l : List ℕ) (b : ℕ) → plain_byte b ≡ true → Nested hashes (c ∷ cs) l → Nested hashes (c ∷ cs) (b ∷ l)
  unfolding Nested
  plain_inner c cs l b e w =
      record {
        tree = byte b w.tree;
        rest = w.rest;
        good = good_byte plain_byte b w.tree e w.good;
        prints = ap (λ z. b ∷ z) w.prints ∙ ap (λ z. z ++ (c ∷ w.rest)) (sym (print_byte b w.tree));
        behind = w.behind;
      }

  shuts : (c : ℕ) (cs l : List ℕ) → Nested hashes cs l → Nested hashes (c ∷ cs) (c ∷ l)
  unfolding Nested
  shuts c cs l w = record { tree = over; rest = l; good = good_over plain_byte; prints = ap (λ z. z ++ (c ∷ l)) (sym print_over); behind = w }

  nested_end : (cs : List ℕ) → text_run hashes cs [] ≡ some [] → Nested hashes cs []
  unfolding Nested text_run
  nested_end [] e = record { tree = over; good = good_over (outer_byte hashes); prints = sym print_over }
  nested_end (c ∷ cs) e = let z : ◌≡◌ {A = ℕ} 0 1 = cc in absurd (omega arith)

  nested : (l cs : List ℕ) → text_run hashes cs l ≡ some [] → Nested hashes cs l
  unfolding text_run text_step
  nested [] cs e = nested_end cs e
  nested (b ∷ l) [] e = outside (λ ds f. nested l ds f) e
    where
      outside : ((ds : List ℕ) → text_run hashes ds l ≡ some [] → Nested hashes ds l) → text_run hashes [] (b ∷ l) ≡ some [] → Nested hashes [] (b ∷ l)
      outside ih f = go (outer hashes b) (is_opening b) refl refl f
        where
          go : (x y : Bool) → outer hashes b ≡ x → is_opening b ≡ y → given (cond x (some []) (cond y (some (closer_of b ∷ [])) none)) (λ ds. text_run hashes ds l) none ≡ some [] → Nested hashes [] (b ∷ l)
          go true y p q g = plain_outer l b (sym (outer_byte_lem hashes b) ∙ p) (ih [] g)
          go false true p q g = paired [] l b q (ih (closer_of b ∷ []) g)
          go false false p q g = absurd (none-ne-some [] g)
  nested (b ∷ l) (c ∷ cs) e = within (λ ds f. nested l ds f) e
    where
      within : ((ds : List ℕ) → text_run hashes ds l ≡ some [] → Nested hashes ds l) → text_run hashes (c ∷ cs) (b ∷ l) ≡ some [] → Nested hashes (c ∷ cs) (b ∷ l)
      within ih f = go (is_opening b) (eqb b c) (is_printable b && not (is_shutting b)) refl refl refl f
        where
          go : (x y z : Bool) → is_opening b ≡ x → eqb b c ≡ y → (is_printable b && not (is_shutting b)) ≡ z
              → given (cond x (some (closer_of b ∷ c ∷ cs)) (cond y (some cs) (cond z (some (c ∷ cs)) none))) (λ ds. text_run hashes ds l) none ≡ some [] → Nested hashes (c ∷ cs) (b ∷ l)
          go true y z p q r g = paired (c ∷ cs) l b p (ih (closer_of b ∷ c ∷ cs) g)
          go false true z p q r g = subst (λ (y : ℕ). Nested hashes (c ∷ cs) (y ∷ l)) (sym (eqb-true b c q)) (shuts c cs l (ih cs g))
          go false false true p q r g =
              plain_inner c cs l b
              (both (is_printable b && not (is_opening b)) (not (is_shutting b)) (both (is_printable b) (not (is_opening b)) (and_left (is_printable b) (not (is_shutting b)) r) (ap not p)) (and_right (is_printable b) (not (is_shutting b)) r))
              (ih (c ∷ cs) g)
          go false false false p q r g = absurd (none-ne-some [] g)

  -- bytes that leave no closer owed are a text
  pub whole_text : (l : List ℕ) → text_run hashes [] l ≡ some [] → WholeTexts hashes l
  unfolding Nested
  whole_text l e = nested l [] e

-- a plain byte opens and closes nothing
pub plain_stays : (b : ℕ) → is_plain b ≡ true → text_step false [] b ≡ some []
unfolding text_step
plain_stays b q = pick_true (outer false b) _ _ (ap (λ z. z || eqb b colon || false) q)
