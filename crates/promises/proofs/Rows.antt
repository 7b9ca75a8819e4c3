-- Demand 3 of rows: they are exactly the permitted positions, ascending, and a floater's first row among them has its least.
use Rattle.std.specs.Prelude.{◌≡◌, refl, ◌↔◌, ◌⊎◌, Bool, true, false, cond, List, [], ◌∷◌, map, ℕ, zero, suc, ◌+◌, ◌≤◌, ◌<◌, min, eqb, ℤ, length, take, drop, get_or, Result}
use Rattle.std.proofs.Common.{sym, ap, ◌∙◌, subst, inl, inr, true≢false, arith, eqb-true, eq-eqb, le-ltb, length-append, length-drop}
use Rattle.std.proofs.Math.Option.{Option, none, some}
use Rattle.std.proofs.Math.Seq.{take-append_seam, drop-append_seam}
use Rattle.scope.specs.declared.answers.Site.{Site}
use Rattle.scope.specs.Limits.{row_limit}
use Rattle.scope.specs.Lists.{laid}
use Rattle.scope.specs.Layout.{tables_in}
use Rattle.scope.specs.Positions.{floating_of, rows_from, rows_of, first_row, lookup}
use Rattle.scope.specs.Answers.{good, refuses, findable, rows_said, rows_after, looks_up, says}
use Rattle.placement_laws.specs.Terms.{AllRising}
use Rattle.basics.specs.Each.{In}
use Rattle.basics.specs.Members.{in_left, in_right, in_either, in_map, map_in, ordered_append, ordered_map}
use Rattle.laws.proofs.Proved.{demands}
use Rattle.listing.specs.Says.{RowsSays}
use Rattle.promises.specs.Promises.{Permitted, Below, Climbing, LeastOf, Rowed}
use Rattle.promises.proofs.Weights.{AreasTaken, orderly}
use Rattle.scope.specs.declared.answers.Row.{Row}
use Rattle.scope.specs.declared.refusals.Refusal.{Refusal}

abbrev site : ℕ → ℕ → Site
site f x = record { floater = f; position = x }

-- ---- which rows there are, floaters counted from k
pub record RowOf (k : ℕ) (qs : List (List ℕ)) (f x : ℕ) : Type 0 where
  pub number : ℕ
  pub is : f ≡ k + number
  pub among : In x (get_or qs number [])

row_of : (k : ℕ) (qs : List (List ℕ)) (f x : ℕ) → In (site f x) (rows_from k qs) → RowOf k qs f x
unfolding rows_from
row_of k [] f x h = absurd h
row_of k (q ∷ qs) f x h = go (row_of (k + 1) qs f x) (in_either (site f x) (map (site k) q) (rows_from (k + 1) qs) h)
  where
    go : (In (site f x) (rows_from (k + 1) qs) → RowOf (k + 1) qs f x) → In (site f x) (map (site k) q) ⊎ In (site f x) (rows_from (k + 1) qs) → RowOf k (q ∷ qs) f x
    go ih (inl m) =
        let z = in_map (site k) (site f x) q m in
        let e : f ≡ k = ap (λ (s : Site). s.floater) z.2 in
        record { number = 0; is = omega (arith, e); among = subst (λ y. In y q) (sym (ap (λ (s : Site). s.position) z.2)) z.1 }
    go ih (inr m) =
        let z = ih m in
        let e = z.is in
        record { number = suc z.number; is = omega (arith, e); among = z.among }

row_in : (k : ℕ) (qs : List (List ℕ)) (f x i : ℕ) → f ≡ k + i → In x (get_or qs i []) → In (site f x) (rows_from k qs)
unfolding rows_from
row_in k [] f x i e m = absurd m
row_in k (q ∷ qs) f x zero e m =
    let w : k ≡ f = omega (arith, e) in
    in_left (site f x) (map (site k) q) (rows_from (k + 1) qs) (subst (λ g. In (site g x) (map (site k) q)) w (map_in (site k) x q m))
row_in k (q ∷ qs) f x (suc i) e m = in_right (site f x) (map (site k) q) (rows_from (k + 1) qs) (row_in (k + 1) qs f x i (omega (arith, e)) m)

-- ---- they ascend
low : (k : ℕ) (qs : List (List ℕ)) (b : Site) → In b (rows_from k qs) → k ≤ b.floater
low k qs b h = let e = (row_of k qs b.floater b.position h).is in omega (arith, e)

climbing : (k : ℕ) (qs : List (List ℕ)) → AllRising qs → Climbing (rows_from k qs)
unfolding rows_from
climbing k [] r = tt
climbing k (q ∷ qs) r =
    ordered_append Below (map (site k) q) (rows_from (k + 1) qs) (ordered_map ◌<◌ Below (site k) q (λ x y h i l. inr (refl, l)) r.0) (climbing (k + 1) qs r.1) above
  where
    above : (a b : Site) → In a (map (site k) q) → In b (rows_from (k + 1) qs) → Below a b
    above a b h m =
        let e : a.floater ≡ k = ap (λ (s : Site). s.floater) (in_map (site k) a q h).2 in
        let l = low (k + 1) qs b m in
        inl (omega (arith, e, l))

-- ---- the first row of a floater
abbrev Best : ℕ → List Site → Option Row → Type 0
Best f rs none = (y : ℕ) → In (site f y) rs → ⊥
Best f rs (some x) = In (site f x.position) rs × ((y : ℕ) → In (site f y) rs → x.position ≤ y)

best : (f i : ℕ) (rs : List Site) → Climbing rs → Best f rs (first_row f i rs)
unfolding first_row
best f i [] c = λ y h. h
best f i (r ∷ rs) c = go (eqb r.floater f) refl (first_row f (i + 1) rs) (best f (i + 1) rs c.1)
  where
    least : r.floater ≡ f → (y : ℕ) → In (site f y) (r ∷ rs) → r.position ≤ y
    least z y (inl e) = let p : y ≡ r.position = ap (λ (s : Site). s.position) e in omega (arith, p)
    least z y (inr h) = behind (c.0 (site f y) h)
      where
        behind : Below r (site f y) → r.position ≤ y
        behind (inl k) = absurd (omega (arith, k, z))
        behind (inr k) = let p = k.1 in omega (arith, p)

    -- a row of another floater is none of this one's
    others : {A : Type 0} → eqb r.floater f ≡ false → (y : ℕ) → (In (site f y) rs → A) → In (site f y) (r ∷ rs) → A
    others e y ih (inl q) = absurd (true≢false (sym (eq-eqb r.floater f (sym (ap (λ (s : Site). s.floater) q))) ∙ e))
    others e y ih (inr h) = ih h

    go : (t : Bool) → eqb r.floater f ≡ t → (o : Option Row) → Best f rs o → Best f (r ∷ rs) (cond t (some (record { index = i; position = r.position })) o)
    go true e o ih = let z = eqb-true r.floater f e in (inl (ap (λ g. site g r.position) (sym z)), least z)
    go false e none ih = λ y h. others e y (ih y) h
    go false e (some x) ih = (inr ih.0, (λ y h. others e y (ih.1 y) h))

-- ---- over areas that every call takes
module _ (bs : List ℕ) (ns : List ℤ) (h : AreasTaken bs ns) where
  abbrev qs : List (List ℕ)
  qs = (floating_of (tables_in bs ns)).lists

  abbrev rows : List Site
  rows = rows_of (tables_in bs ns)

  to_permitted : (f x : ℕ) → RowOf 1 qs f x → Permitted bs ns f x
  to_permitted zero x r = let e = r.is in absurd (omega (arith, e))
  to_permitted (suc i) x r =
      let e = r.is in
      let j : r.number ≡ i = omega (arith, e) in
      subst (λ j. In x (get_or qs j [])) j r.among

  of_permitted : (f x : ℕ) → Permitted bs ns f x → In (site f x) (rows_from 1 qs)
  of_permitted zero x h = absurd h
  of_permitted (suc i) x h = row_in 1 qs (suc i) x i (omega arith) h

  permitted_rows : (f x : ℕ) → In (site f x) rows ↔ Permitted bs ns f x
  unfolding rows_of
  permitted_rows f x = ((λ h. to_permitted f x (row_of 1 qs f x h)), of_permitted f x)

  rows_climb : Climbing rows
  unfolding rows_of
  rows_climb = climbing 1 qs (orderly h).rising

  least_of : (f : ℕ) (o : Option Row) → Best f rows o → LeastOf (Permitted bs ns f) (findable o)
  least_of f none b = (refl, λ y h. b y ((permitted_rows f y).1 h))
  least_of f (some x) b = ((permitted_rows f x.position).0 b.0, λ y h. b.1 y ((permitted_rows f y).1 h))

  module _ (room : List Site) (roomy : row_limit ≤ length room) where
    said : rows_said bs ns room ≡ good (length rows)
    said = rw (le-ltb (length room) row_limit roomy, h.long_enough, h.taken)

    still_roomy : row_limit ≤ length (laid rows room)
    still_roomy =
        let a = length-append rows (drop (length rows) room) in
        let b = length-drop (length rows) room in
        omega (arith, roomy, a, b)

    few : min (length rows) row_limit ≡ length rows
    few = let fit = (demands.demand_3_in bs ns h.taken).rows_fit in omega (arith, fit)

    looked : (f : ℕ) → looks_up (laid rows room) (length rows) f ≡ findable (first_row f 0 rows)
    looked f =
        ap (λ b. cond b (refuses 13 0) (findable (lookup (laid rows room) (length rows) f))) (le-ltb (length (laid rows room)) row_limit still_roomy)
        ∙ ap (λ n. findable (first_row f 0 (take n (laid rows room)))) few
        ∙ ap (λ rs. findable (first_row f 0 rs)) (take-append_seam rows (drop (length rows) room))

    rowed : Rowed bs ns room (laid rows room) (length rows)
    rowed =
        let e : take (length rows) (laid rows room) ≡ rows = take-append_seam rows (drop (length rows) room) in
        record {
          permitted = λ f x. subst (λ rs. In (site f x) rs ↔ Permitted bs ns f x) (sym e) (permitted_rows f x);
          climbing = subst Climbing (sym e) rows_climb;
          rest = drop-append_seam rows (drop (length rows) room);
          first = λ f l w. subst (LeastOf (Permitted bs ns f)) (sym (w ∙ looked f)) (least_of f (first_row f 0 rows) (best f 0 rows rows_climb));
        }

    pub rows_kept : (r : Result ℕ Refusal) (room' : List Site) → RowsSays bs ns room r room' → (n : ℕ) × ((says r ≡ good n) × Rowed bs ns room room' n)
    rows_kept r room' w =
        let after : room' ≡ laid rows room = w.1 ∙ ap (λ s. rows_after s (tables_in bs ns) room) said in
        (length rows, (w.0 ∙ said, subst (λ z. Rowed bs ns room z (length rows)) (sym after) rowed))
