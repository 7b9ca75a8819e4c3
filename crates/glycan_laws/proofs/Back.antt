-- Each listed name is found where it stands: no name hides a later one.
use Rattle.std.specs.Prelude.{ℕ, zero, suc, ◌<◌, ◌≡◌, refl, Bool, true, false, not, cond, ◌&&◌, ◌||◌, List, [], ◌∷◌, ◌++◌, eqb, length}
use Rattle.std.proofs.Common.{arith, sym, ap, ◌∙◌, inl, inr, true≢false, eqb-true, eq-eqb}
use Rattle.std.proofs.lemmas.Bool.{false≢true, eqb-false, not-true}
use Rattle.std.proofs.Math.Option.{some}
use Rattle.scope.specs.Bytes.{upper}
use Rattle.scope.specs.Lists.{member}
use Rattle.basics.specs.Tests.{and_left, and_right}
use Rattle.scope.specs.Glycans.{sugars}
use Rattle.glycan_laws.specs.Back.{Backward, backwards, order, tried, begins_one, is_starter, StartsWell, is_front, hides, first_front, hides_none, apart, backward, Among, all_below}

pub not_hidden : (n m rest : List ℕ) → hides n m ≡ false → StartsWell rest → is_front n (m ++ rest) ≡ false
unfolding hides is_front
not_hidden [] m rest h w = absurd (true≢false h)
not_hidden (x ∷ n) [] [] h w = refl
not_hidden (x ∷ n) [] (y ∷ t) h w = differs (eqb x y) refl
  where
    differs : (e : Bool) → eqb x y ≡ e → eqb x y && is_front n t ≡ false
    differs true q = absurd (true≢false (sym w ∙ ap is_starter (sym (eqb-true x y q)) ∙ h))
    differs false q = rw q
not_hidden (x ∷ n) (y ∷ m) rest h w = on (eqb x y) h (not_hidden n m rest)
  where
    on : (e : Bool) → (e && hides n m) ≡ false → (hides n m ≡ false → StartsWell rest → is_front n (m ++ rest) ≡ false) → (e && is_front n (m ++ rest)) ≡ false
    on true k f = f k w
    on false k f = refl

-- the whole argument: computed over the list
pub tried_apart : apart tried ≡ true
unfolding apart hides_none hides tried backwards begins_one sugars upper
tried_apart = refl

-- ---- each listed name is found where it stands
front_self : (n t : List ℕ) → is_front n (n ++ t) ≡ true
unfolding is_front
front_self [] t = refl
front_self (x ∷ n) t = rw (eq-eqb x x refl) (front_self n t)

not_hides : (k : List ℕ) (ns : List Backward) (n : Backward) → hides_none k ns ≡ true → Among n ns → hides k n.letters ≡ false
unfolding hides_none
not_hides k [] n h i = absurd i
not_hides k (m ∷ ms) n h (inl e) = ap (λ z. hides k z.letters) e ∙ not-true (hides k m.letters) (and_left _ _ h)
not_hides k (m ∷ ms) n h (inr i) = not_hides k ms n (and_right (not (hides k m.letters)) _ h) i

found_among : (ns : List Backward) (n : Backward) (rest : List ℕ) → apart ns ≡ true → Among n ns → StartsWell rest → first_front ns (n.letters ++ rest) ≡ some n
unfolding apart first_front
found_among [] n rest a i w = absurd i
found_among (m ∷ ms) n rest a (inl e) w = ap (λ b. cond b (some m) (first_front ms (n.letters ++ rest))) here ∙ ap some (sym e)
  where
    here : is_front m.letters (n.letters ++ rest) ≡ true
    here = ap (λ z. is_front m.letters (z.letters ++ rest)) e ∙ front_self m.letters rest
found_among (m ∷ ms) n rest a (inr i) w =
    ap (λ b. cond b (some m) (first_front ms (n.letters ++ rest))) (not_hidden m.letters n.letters rest (not_hides m.letters ms n (and_left _ _ a) i) w)
    ∙ found_among ms n rest (and_right (hides_none m.letters ms) _ a) i w

-- every name of the list is among those tried
pub at_each : (f : ℕ → Bool) (n i : ℕ) → all_below f n ≡ true → i < n → f i ≡ true
unfolding all_below
at_each f zero i h l = absurd (omega arith)
at_each f (suc n) i h l = go (eqb i n) refl (at_each f n i)
  where
    below : (eqb i n ≡ false) → i < n
    below q = let d = eqb-false i n q in omega arith

    go : (e : Bool) → eqb i n ≡ e → (all_below f n ≡ true → i < n → f i ≡ true) → f i ≡ true
    go true q g = ap f (eqb-true i n q) ∙ and_left (f n) (all_below f n) h
    go false q g = g (and_right (f n) (all_below f n) h) (below q)

order_whole : all_below (λ i. member i order) (length sugars) ≡ true
unfolding all_below member sugars
order_whole = refl

among_of : (is : List ℕ) (i : ℕ) → member i is ≡ true → Among (backward i) (backwards is)
unfolding member backwards backward
among_of [] i h = absurd (false≢true h)
among_of (x ∷ is) i h = go (eqb i x) refl h (among_of is i)
  where
    go : (e : Bool) → eqb i x ≡ e → (e || member i is) ≡ true → (member i is ≡ true → Among (backward i) (backwards is)) → Among (backward i) (backwards (x ∷ is))
    go true q h g = inl (ap backward (eqb-true i x q))
    go false q h g = inr (g h)

pub found : (i : ℕ) (rest : List ℕ) → i < length sugars → StartsWell rest → first_front tried ((backward i).letters ++ rest) ≡ some (backward i)
unfolding tried
found i rest l w = found_among (backwards order) (backward i) rest tried_apart (among_of order i (at_each _ _ i order_whole l)) w
