-- Laws of one bracket's places in the areas: what the loop over them has found, what stands at each position, and which positions they name.
-- Assumes nothing.
use mathlib.Core.Path.{◌≡◌, refl, sym, ap, ap₂, ◌∙◌}
use mathlib.Core.Bool.{Bool, true, false, cond, ◌||◌}
use mathlib.Core.List.{List, [], ◌∷◌, ◌++◌, map, append-nil, append_assoc}
use Prim.Native.Nat.{ℕ, suc, ◌+◌, ◌-◌, ◌≤◌, ◌<◌}
use native.Mathlib.Nat.{zero-add, not-suc-le-zero, le_of_suc-le-suc}
use native.Mathlib.Omega.{arith}
use borrow.Author.Tests.{eq-eqb, ne_eqb}
use lib.Dec.{eqb}
use lib.IntN.{ℤ}
use lib.ListN.{length, get_or, set, length-append, length-set}
use Rattle.scope.specs.Limits.{residue_limit, place_limit, position_limit}
use Rattle.scope.specs.Line.{Place}
use Rattle.scope.specs.Lists.{keep, tabled, member, laid}
use Rattle.scope.specs.Places.{n_terminus, c_terminus}
use Rattle.scope.specs.Layout.{residue_in, place_in, bracket_in, tables_in, letter_field, places_field, residues_field, site_field}
use Rattle.scope.specs.Positions.{sites, names, reached}
use Rattle.basics.specs.Positions.{sites_in, first_site, residue_site, last_site}
use Rattle.basics.specs.Tabled.{tabled_at, tabled_end, tabled_all, get_d_tabled, residues_many}
use Rattle.brackets.specs.Row.{Row}
use Rattle.brackets.specs.Reached.{ReachedPut}

abbrev sites_of : List (Place (Unit {0})) → List ℕ
sites_of ps = map (λ p. p.site) ps

-- ---- none of the m places before place j is the site s
pub record NoSuchPlace (bs : List ℕ) (k s m j : ℕ) : Type 0 where
  pub inside : j ≤ m
  pub few : m ≤ place_limit
  pub rest : (ns : List ℤ) → member s (sites_of (bracket_in bs ns k).places) ≡ member s (sites_of (tabled (place_in bs k) j (m - j)))

pub naming_start : (bs : List ℕ) (k s m : ℕ) → m ≡ places_field bs k → places_field bs k ≤ place_limit → NoSuchPlace bs k s m 0
unfolding bracket_in
naming_start bs k s m e few =
    record {
      inside = omega arith;
      few = omega arith;
      rest = λ ns. ap (λ n. member s (sites_of (tabled (place_in bs k) 0 n))) (sym e) ∙ ap (λ l. member s (sites_of l)) (tabled_all (place_in bs k) m);
    }

module _ {bs : List ℕ} {k s m j : ℕ} (i : NoSuchPlace bs k s m j) where
  named_cons : j < m → (ns : List ℤ)
      → member s (sites_of (bracket_in bs ns k).places) ≡ eqb s (site_field bs k j) || member s (sites_of (tabled (place_in bs k) (j + 1) (m - (j + 1))))
  unfolding member
  named_cons h ns = i.rest ns ∙ ap (λ l. member s (sites_of l)) (tabled_at (place_in bs k) j m h)

  pub naming_found : {y : ℕ} → j < m → y ≡ site_field bs k j → s ≡ y → (ns : List ℤ) → true ≡ member s (sites_of (bracket_in bs ns k).places)
  naming_found h e q ns =
      sym
      (named_cons h ns
      ∙ ap (λ t. t || member s (sites_of (tabled (place_in bs k) (j + 1) (m - (j + 1))))) (eq-eqb s (site_field bs k j) (q ∙ e)))

  pub naming_next : {y : ℕ} → j < m → y ≡ site_field bs k j → (s ≡ y → ⊥) → NoSuchPlace bs k s m (j + 1)
  naming_next h e q =
      record {
        inside = omega arith;
        few = i.few;
        rest =
            λ ns. named_cons h ns
            ∙ ap (λ t. t || member s (sites_of (tabled (place_in bs k) (j + 1) (m - (j + 1))))) (ne_eqb s (site_field bs k j) (λ z. q (z ∙ sym e)));
      }

  pub naming_end : m ≤ j → (ns : List ℤ) → false ≡ member s (sites_of (bracket_in bs ns k).places)
  unfolding member
  naming_end h ns = sym (i.rest ns ∙ ap (λ l. member s (sites_of l)) (tabled_end (place_in bs k) j m h))

-- ---- what stands at position x
module _ (bs : List ℕ) (x : ℕ) where
  pub at_first : x ≡ 0 → (ns : List ℤ) → n_terminus ≡ get_or (sites (tables_in bs ns)) x 0
  at_first e ns = sym (ap (λ y. get_or (sites (tables_in bs ns)) y 0) e ∙ first_site (tables_in bs ns))

  pub at_last : {n : ℕ} → n ≡ residues_field bs → n < x → x ≤ residues_field bs + 1 → (ns : List ℤ) → c_terminus ≡ get_or (sites (tables_in bs ns)) x 0
  at_last e h l ns =
      let many = residues_many bs ns in
      let last : x ≡ suc (length (tables_in bs ns).residues) = omega (arith, many) in
      sym (ap (λ y. get_or (sites (tables_in bs ns)) y 0) last ∙ last_site (tables_in bs ns))

  letter_in : (ns : List ℤ) (i : ℕ) → i < residues_field bs → (get_or (tables_in bs ns).residues i (residue_in bs 0)).letter ≡ letter_field bs i
  unfolding tables_in
  letter_in ns i h = ap (λ r. r.letter) (get_d_tabled (residue_in bs) 0 (residues_field bs) i (residue_in bs 0) h) ∙ ap (letter_field bs) (zero-add i)

  pub at_residue : {n y : ℕ} → (x ≡ 0 → ⊥) → n ≡ residues_field bs → x ≤ n → y ≡ letter_field bs (x - 1) → (ns : List ℤ) → y ≡ get_or (sites (tables_in bs ns)) x 0
  at_residue p e h f ns =
      let many = residues_many bs ns in
      let behind : x ≡ suc (x - 1) = omega (arith, p) in
      let low : x - 1 < residues_field bs = omega (arith, p) in
      f
      ∙ sym
      (ap (λ z. get_or (sites (tables_in bs ns)) z 0) behind ∙ residue_site (tables_in bs ns) (x - 1) (residue_in bs 0) (omega (arith, many))
      ∙ letter_in ns (x - 1) low)

-- ---- the positions before x that are named, of all before end; of their list, P is known
pub record Naming (bs : List ℕ) (k end x : ℕ) (P : List ℕ → Type 0) : Type 0 where
  pub end_is : end ≡ residues_field bs + 2
  pub row : Row bs k
  pub few : residues_field bs ≤ residue_limit
  pub inside : x ≤ end
  pub found : List ℕ
  pub known : P found
  pub fewer : length found ≤ x
  pub rest :
      (ns : List ℤ)
      → reached (tables_in bs ns) (bracket_in bs ns k) ≡ found ++ keep (names (tables_in bs ns) (bracket_in bs ns k).places) (tabled (λ y. y) x (end - x))

pub reaching_start : {bs : List ℕ} {k n : ℕ} {P : List ℕ → Type 0} → Row bs k → residues_field bs ≤ residue_limit → n ≡ residues_field bs → P []
    → Naming bs k (n + 2) 0 P
unfolding reached
reaching_start {bs} {k} {n} r few e p =
    record {
      end_is = omega arith;
      row = r;
      few = few;
      inside = omega arith;
      found = [];
      known = p;
      fewer = omega arith;
      rest =
          λ ns.
          ap (λ m. keep (names (tables_in bs ns) (bracket_in bs ns k).places) (tabled (λ y. y) 0 m)) (sites_in bs ns ∙ ap (λ m. m + 2) (sym e))
          ∙ ap (keep (names (tables_in bs ns) (bracket_in bs ns k).places)) (tabled_all (λ y. y) (n + 2));
    }

module _ {bs : List ℕ} {k end x : ℕ} {P : List ℕ → Type 0} (i : Naming bs k end x P) where
  -- which are left, by whether x is named
  more : x < end → (t : Bool) (ns : List ℤ) → t ≡ names (tables_in bs ns) (bracket_in bs ns k).places x
      → reached (tables_in bs ns) (bracket_in bs ns k)
      ≡ i.found ++ (cond t (x ∷ []) [] ++ keep (names (tables_in bs ns) (bracket_in bs ns k).places) (tabled (λ y. y) (x + 1) (end - (x + 1))))
  unfolding keep
  more h t ns e =
      i.rest ns
      ∙ ap (λ l. i.found ++ keep (names (tables_in bs ns) (bracket_in bs ns k).places) l) (tabled_at (λ y. y) x end h)
      ∙ ap (λ u. i.found ++ (cond u (x ∷ []) [] ++ keep (names (tables_in bs ns) (bracket_in bs ns k).places) (tabled (λ y. y) (x + 1) (end - (x + 1))))) (sym e)

  pub reaching_one : {t : Bool} {Q : List ℕ → Type 0} → x < end → ((ns : List ℤ) → t ≡ names (tables_in bs ns) (bracket_in bs ns k).places x) → t ≡ true
      → ((l : List ℕ) → P l → Q (l ++ (x ∷ []))) → Naming bs k end (x + 1) Q
  reaching_one h e q f =
      record {
        end_is = i.end_is;
        row = i.row;
        few = i.few;
        inside = omega arith;
        found = i.found ++ (x ∷ []);
        known = f i.found i.known;
        fewer = omega (arith, i.fewer, length-append i.found (x ∷ []));
        rest =
            λ ns. more h true ns (sym q ∙ e ns)
            ∙ sym (append_assoc i.found (x ∷ []) (keep (names (tables_in bs ns) (bracket_in bs ns k).places) (tabled (λ y. y) (x + 1) (end - (x + 1)))));
      }

  pub reaching_none : {t : Bool} → x < end → ((ns : List ℤ) → t ≡ names (tables_in bs ns) (bracket_in bs ns k).places x) → t ≡ false → Naming bs k end (x + 1) P
  reaching_none h e q =
      record {
        end_is = i.end_is;
        row = i.row;
        few = i.few;
        inside = omega arith;
        found = i.found;
        known = i.known;
        fewer = omega (arith, i.fewer);
        rest = λ ns. more h false ns (sym q ∙ e ns);
      }

  found_all : end ≤ x → (ns : List ℤ) → i.found ≡ reached (tables_in bs ns) (bracket_in bs ns k)
  unfolding keep
  found_all h ns =
      sym
      (i.rest ns ∙ ap (λ l. i.found ++ keep (names (tables_in bs ns) (bracket_in bs ns k).places) l) (tabled_end (λ y. y) x end h)
      ∙ append-nil i.found)

  found_few : length i.found ≤ position_limit
  found_few = omega (arith, i.end_is, i.few, i.inside, i.fewer)

  pub reaching_end : {A : Type 0} → end ≤ x
      → ((l : List ℕ) → P l → length l ≤ position_limit → ((ns : List ℤ) → l ≡ reached (tables_in bs ns) (bracket_in bs ns k)) → A) → A
  reaching_end h f = f i.found i.known found_few (found_all h)

-- ---- they are counted
abbrev pub Counted : ℕ → List ℕ → Type 0
Counted n l = n ≡ length l

pub counted_one : {n : ℕ} (x : ℕ) (l : List ℕ) → Counted n l → Counted (n + 1) (l ++ (x ∷ []))
counted_one x l e = omega (arith, e, length-append l (x ∷ []))

pub counted_all : {bs : List ℕ} {k end x n : ℕ} → Naming bs k end x (Counted n) → end ≤ x
    → ((ns : List ℤ) → n ≡ length (reached (tables_in bs ns) (bracket_in bs ns k))) × (n ≤ position_limit)
counted_all i h = reaching_end i h (λ l e few so. ((λ ns. e ∙ ap length (so ns)), omega (arith, e, few)))

-- ---- they are laid over what a slice begins with
pub record Put (n : ℕ) (old new l : List ℕ) : Type 0 where
  pub many : n ≡ length l
  pub put : new ≡ laid l old
  pub kept : length new ≡ length old

laid_next : (l old : List ℕ) (v : ℕ) → length l < length old → set (laid l old) (length l) v ≡ laid (l ++ (v ∷ [])) old
laid_next [] [] v h = absurd (not-suc-le-zero h)
laid_next [] (y ∷ old) v h = refl
laid_next (z ∷ l) [] v h = absurd (not-suc-le-zero h)
laid_next (z ∷ l) (y ∷ old) v h = ap (λ m. z ∷ m) (laid_next l old v (le_of_suc-le-suc h))

pub put_none : (old : List ℕ) → Put 0 old old []
put_none old = record { many = refl; put = refl; kept = refl }

-- there is room for the next one
pub put_within : {bs old new : List ℕ} {k end x n : ℕ} → Naming bs k end x (Put n old new) → x < end → (n ≤ x) × (x < position_limit)
put_within i h = (omega (arith, i.known.many, i.fewer), omega (arith, i.end_is, i.few))

pub put_one : {n : ℕ} {old new : List ℕ} → n < length old → (x : ℕ) (l : List ℕ) → Put n old new l → Put (n + 1) old (set new n x) (l ++ (x ∷ []))
put_one {n} {old} {new} h x l p =
    let e : n ≡ length l = p.many in
    record {
      many = counted_one x l e;
      put = ap₂ (λ m i. set m i x) p.put e ∙ laid_next l old x (omega arith);
      kept = length-set new n x ∙ p.kept;
    }

pub put_all : {bs old new : List ℕ} {k end x n : ℕ} → Naming bs k end x (Put n old new) → end ≤ x → ReachedPut bs k n old new
put_all {bs} {old} {new} i h =
    reaching_end i h
    (λ l p few so.
    record {
      few = omega (arith, p.many, few);
      many = λ ns. p.many ∙ ap length (so ns);
      put = λ ns. p.put ∙ ap (λ m. laid m old) (so ns);
    })
