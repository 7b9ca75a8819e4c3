-- What is written of a composition: it is not empty, its bytes are plain, and the same is kept of it.
use Rattle.std.specs.Prelude.{ℕ, ◌+◌, ◌≤◌, ◌≡◌, refl, true, false, not, List, [], ◌∷◌, map, length}
use Rattle.std.proofs.Common.{arith, sym, ap, ap₂, ◌∙◌, subst, inl, true≢false}
use Rattle.std.proofs.Math.Option.{Option, none, some}
use Rattle.scope.specs.Bytes.{upper}
use Rattle.scope.specs.Lists.{all, flat, none?}
use Rattle.scope.specs.Line.{text, composition}
use Rattle.scope.specs.Grammar.{outer_byte}
use Rattle.scope.specs.Glycans.{Item, sugars, mass_decimals, name_at, count_text, item_text, cutting_text, cuttings, short, short_text}
use Rattle.scope.specs.Kept.{cut_as, cut_value, composition_mass}
use Rattle.basics.specs.Each.{In}
use Rattle.basics.specs.Lists.{nil_front, all_append}
use Rattle.glycan_laws.specs.Laws.{CountGood, AllGood, Cuts}
use Rattle.glycan_laws.specs.Back.{all_below}
use Rattle.glycan_laws.proofs.Back.{at_each}
use Rattle.glycan_laws.proofs.Digits.{digits_of_lem}
use Rattle.glycan_laws.proofs.Last.{one_way}
use Rattle.glycan_laws.proofs.Enumerated.{every_way}
use Rattle.glycan_laws.proofs.Masses.{all_short, short_of_short, same_mass}

pub shortened : (t : List ℕ) (xs : List Item) → Cuts xs t → Cuts (map short xs) (short_text xs)
shortened t xs c = record { good = all_short xs c.good; spelled = refl }

-- ---- bytes: those of the names, computed, and digits
plain_names : all_below (λ i. all (outer_byte false) (name_at i)) (length sugars) ≡ true
unfolding all_below all sugars
plain_names = refl

plain_digits : all_below (λ d. outer_byte false (48 + d)) 10 ≡ true
unfolding all_below
plain_digits = refl

plain_digit : (d : ℕ) → d ≤ 9 → outer_byte false (48 + d) ≡ true
plain_digit d h = at_each (λ d. outer_byte false (48 + d)) 10 d plain_digits (omega arith)

plain_count_lem : (c : Option ℕ) → CountGood c → all (outer_byte false) (count_text c) ≡ true
unfolding all
plain_count_lem none g = refl
plain_count_lem (some n) g =
    digits_of_lem n g.0 g.1 (λ l. all (outer_byte false) l ≡ true) (λ d a b e. rw (plain_digit d b) refl)
    (λ d e a b c q. rw (plain_digit d b, plain_digit e c) refl)

plain_text_lem : (xs : List Item) → AllGood xs → all (outer_byte false) (cutting_text xs) ≡ true
unfolding flat all
plain_text_lem [] g = refl
plain_text_lem (x ∷ xs) g =
    all_append (outer_byte false) (item_text x) (cutting_text xs)
    (all_append (outer_byte false) (name_at x.name) (count_text x.count) (at_each (λ i. all (outer_byte false) (name_at i)) _ x.name plain_names g.0.listed) (plain_count_lem x.count g.0.count))
    (plain_text_lem xs g.1)

pub plain : (t : List ℕ) (xs : List Item) → Cuts xs t → all (outer_byte false) (short_text xs) ≡ true
plain t xs c = plain_text_lem (map short xs) (all_short xs c.good)

-- ---- each name has some bytes
some_names : all_below (λ i. not (none? (name_at i))) (length sugars) ≡ true
unfolding all_below sugars
some_names = refl

nothing_in : (xs : List Item) → AllGood xs → cutting_text xs ≡ [] → xs ≡ []
unfolding flat
nothing_in [] g e = refl
nothing_in (x ∷ xs) g e =
    absurd (true≢false (sym (at_each (λ i. not (none? (name_at i))) _ x.name some_names g.0.listed) ∙ ap (λ l. not (none? l)) name))
  where
    name : name_at x.name ≡ []
    name = nil_front (name_at x.name) (count_text x.count) (nil_front (item_text x) (cutting_text xs) e)

pub not_empty : (t : List ℕ) (xs : List Item) → Cuts xs t → short_text xs ≡ [] → t ≡ []
unfolding flat
not_empty t [] c e = nothing t c.spelled
  where
    nothing : (t : List ℕ) → map upper t ≡ map upper (cutting_text []) → t ≡ []
    nothing [] q = refl
    nothing (b ∷ t) q = let z : ◌≡◌ {A = ℕ} 0 1 = cc in absurd (omega arith)
not_empty t (x ∷ xs) c e = absurd (some_items (nothing_in (map short (x ∷ xs)) (all_short (x ∷ xs) c.good) e))
  where
    some_items : map short (x ∷ xs) ≡ [] → ⊥
    some_items q = let z : ◌≡◌ {A = ℕ} 0 1 = cc in omega arith

-- ---- the same is kept
pub cut_kept : {P : Type 0} (at : P) (t : List ℕ) (xs : List Item) → Cuts xs t → cut_value at (text t) ≡ composition (short_text xs) (composition_mass at xs)
cut_kept at t xs c = go (cuttings t) refl ((every_way t xs).1 c)
  where
    go : (l : List (List Item)) → cuttings t ≡ l → In xs l → cut_as at t l ≡ composition (short_text xs) (composition_mass at xs)
    go [] q h = absurd h
    go (ys ∷ l) q h = ap (λ z. composition (short_text z) (composition_mass at z)) (one_way t ys xs ((every_way t ys).0 (subst (In ys) (sym q) (inl refl))) c)

pub first_cut : (t : List ℕ) (xs : List Item) (l : List (List Item)) → cuttings t ≡ xs ∷ l → Cuts xs t
first_cut t xs l e = (every_way t xs).0 (subst (In xs) (sym e) (inl refl))

pub kept_once : {P : Type 0} (at : P) (t : List ℕ) (xs : List Item) → Cuts xs t → cut_value at (text (short_text xs)) ≡ cut_value at (text t)
kept_once at t xs c =
    cut_kept at (short_text xs) (map short xs) (shortened t xs c)
    ∙ ap₂ (λ u m. composition u (record { minus = false; digits = m; decimals = mass_decimals; at = at })) (short_of_short xs) (same_mass xs)
    ∙ sym (cut_kept at t xs c)
