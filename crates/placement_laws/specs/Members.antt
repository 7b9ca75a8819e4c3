-- What stands among the placements is what is allowed: a position from the list of each floater, no two the same, those of one bracket's copies ascending, and
-- zeros behind them.
use Rattle.std.specs.Prelude.{◌≡◌, refl, true, ◌&&◌, List, [], ◌∷◌, ◌++◌, map, ℕ, zero, suc, ◌≤◌, ◌+◌, ◌-◌, eqb, length, take, replicate}
use Rattle.std.proofs.Common.{sym, ap, ◌∙◌, subst, inl, inr, arith, length-append, eqb-true, eq-eqb}
use Rattle.std.proofs.lemmas.Bool.{false≢true}
use Rattle.std.proofs.lemmas.List.{length-replicate}
use Rattle.std.proofs.Math.Seq.{take-append_seam}
use Rattle.scope.specs.Limits.{copy_limit}
use Rattle.scope.specs.Lists.{all, keep, padded, member}
use Rattle.scope.specs.Positions.{Floating}
use Rattle.scope.specs.Placements.{distinct, fits, ascends, in_order, allowed, choices, placements}
use Rattle.placement_laws.specs.Terms.{Allowed}
use Rattle.basics.specs.Each.{In}
use Rattle.basics.specs.Tests.{both_of, both}
use Rattle.basics.specs.Members.{member_in, in_member, in_keep, keep_in, in_map, map_in, in_flat, flat_in}

-- ---- zeros
pub zeros_of : (p : List ℕ) → all (eqb 0) p ≡ true → p ≡ replicate (length p) 0
unfolding all
zeros_of [] e = refl
zeros_of (x ∷ p) e =
    let z = both_of (eqb 0 x) (all (eqb 0) p) e in let h : 0 ≡ x = eqb-true 0 x z.0 in let k : p ≡ replicate (length p) 0 = zeros_of p z.1 in cc

pub of_zeros : (n : ℕ) → all (eqb 0) (replicate n 0) ≡ true
unfolding all
of_zeros zero = refl
of_zeros (suc n) = of_zeros n

-- ---- one of each list
pub fits_cons : (q : List ℕ) (qs : List (List ℕ)) (x : ℕ) (p : List ℕ) → fits (q ∷ qs) (x ∷ p) ≡ true → (member x q ≡ true) × (fits qs p ≡ true)
unfolding fits
fits_cons q qs x p e = both_of (member x q) (fits qs p) e

pub cons_fits : (q : List ℕ) (qs : List (List ℕ)) (x : ℕ) (p : List ℕ) → member x q ≡ true → fits qs p ≡ true → fits (q ∷ qs) (x ∷ p) ≡ true
unfolding fits
cons_fits q qs x p h k = both (member x q) (fits qs p) h k

pub fits_none : {A : Type 0} (q : List ℕ) (qs : List (List ℕ)) → fits (q ∷ qs) [] ≡ true → A
unfolding fits
fits_none q qs e = absurd (false≢true e)

pub choice_fits : (qs : List (List ℕ)) (p : List ℕ) → In p (choices qs) → (length p ≡ length qs) × (fits qs p ≡ true)
unfolding choices fits all
choice_fits [] p (inl e) = (ap length e, ap (all (eqb 0)) e)
choice_fits [] p (inr h) = absurd h
choice_fits (q ∷ qs) p h = go (λ r k. choice_fits qs r k) (in_flat (λ x. map (λ r. x ∷ r) (choices qs)) p q h)
  where
    go : ((r : List ℕ) → In r (choices qs) → (length r ≡ length qs) × (fits qs r ≡ true)) → (x : ℕ) × In x q × In p (map (λ r. x ∷ r) (choices qs))
        → (length p ≡ suc (length qs)) × (fits (q ∷ qs) p ≡ true)
    go ih z =
        let y = in_map (λ r. z.0 ∷ r) p (choices qs) z.2 in
        let k = ih y.0 y.1 in
        rw y.2 (ap suc k.0, cons_fits q qs z.0 y.0 (in_member z.0 q z.1) k.1)

pub fits_choice : (qs : List (List ℕ)) (p : List ℕ) → length p ≡ length qs → fits qs p ≡ true → In p (choices qs)
unfolding choices
fits_choice [] [] e h = inl refl
fits_choice [] (x ∷ p) e h = absurd (omega arith)
fits_choice (q ∷ qs) [] e h = fits_none q qs h
fits_choice (q ∷ qs) (x ∷ p) e h =
    let z = fits_cons q qs x p h in
    flat_in (λ y. map (λ r. y ∷ r) (choices qs)) x (x ∷ p) q (member_in x q z.0) (map_in (λ r. x ∷ r) p (choices qs) (fits_choice qs p (omega arith) z.1))

-- ---- "unused ones 0"
no_fits : (n : ℕ) → fits [] (replicate n 0) ≡ true
unfolding fits
no_fits n = of_zeros n

pub padded_fits : (qs : List (List ℕ)) (p : List ℕ) (n : ℕ) → length p ≡ length qs → fits qs p ≡ true → fits qs (p ++ replicate n 0) ≡ true
padded_fits [] [] n e h = no_fits n
padded_fits [] (x ∷ p) n e h = absurd (omega arith)
padded_fits (q ∷ qs) [] n e h = fits_none q qs h
padded_fits (q ∷ qs) (x ∷ p) n e h =
    let z = fits_cons q qs x p h in cons_fits q qs x (p ++ replicate n 0) z.0 (padded_fits qs p n (omega arith) z.1)

-- what fits is cut into the positions and the zeros behind them
pub record Cut (qs : List (List ℕ)) (p : List ℕ) : Type 0 where
  pub long : length qs ≤ length p
  pub front : fits qs (take (length qs) p) ≡ true
  pub split : p ≡ take (length qs) p ++ replicate (length p - length qs) 0
  pub many : length (take (length qs) p) ≡ length qs

fits_nil : (p : List ℕ) → fits [] p ≡ true → p ≡ replicate (length p) 0
unfolding fits
fits_nil p e = zeros_of p e

cut_cons : (q : List ℕ) (qs : List (List ℕ)) (x : ℕ) (p : List ℕ) → member x q ≡ true → Cut qs p → Cut (q ∷ qs) (x ∷ p)
cut_cons q qs x p h c =
    let n : length p - length qs ≡ suc (length p) - suc (length qs) = omega arith in
    record {
      long = omega (arith, c.long);
      front = cons_fits q qs x (take (length qs) p) h c.front;
      split = ap (λ r. x ∷ r) c.split ∙ ap (λ i. x ∷ (take (length qs) p ++ replicate i 0)) n;
      many = ap suc c.many;
    }

pub cut : (qs : List (List ℕ)) (p : List ℕ) → fits qs p ≡ true → Cut qs p
cut [] p e =
    let n : length p ≡ length p - 0 = omega arith in record { long = omega arith; front = no_fits 0; split = fits_nil p e ∙ ap (λ i. replicate i 0) n; many = refl }
cut (q ∷ qs) [] e = fits_none q qs e
cut (q ∷ qs) (x ∷ p) e = let z = fits_cons q qs x p e in cut_cons q qs x p z.0 (cut qs p z.1)

-- ---- among the placements, and allowed
pub record AllowedParts (f : Floating) (p : List ℕ) : Type 0 where
  pub eight : length p ≡ copy_limit
  pub fit : fits f.lists p ≡ true
  pub apart : distinct (take (length f.lists) p) ≡ true
  pub ascent : ascends f.marks (take (length f.lists) p) ≡ true

pub allowed_parts : (f : Floating) (p : List ℕ) → Allowed f p → AllowedParts f p
unfolding allowed
allowed_parts f p e =
    let r = take (length f.lists) p in
    let a = both_of (eqb (length p) copy_limit && fits f.lists p) (in_order f r) e in
    let b = both_of (eqb (length p) copy_limit) (fits f.lists p) a.0 in
    let c = both_of (distinct r) (ascends f.marks r) a.1 in
    record { eight = eqb-true (length p) copy_limit b.0; fit = b.1; apart = c.0; ascent = c.1 }

pub parts_allowed : (f : Floating) (p : List ℕ) → AllowedParts f p → Allowed f p
unfolding allowed
parts_allowed f p h =
    let r = take (length f.lists) p in
    both (eqb (length p) copy_limit && fits f.lists p) (in_order f r)
    (both (eqb (length p) copy_limit) (fits f.lists p) (eq-eqb (length p) copy_limit h.eight) h.fit) (both (distinct r) (ascends f.marks r) h.apart h.ascent)

pub among_allowed : (f : Floating) (p : List ℕ) → length f.lists ≤ copy_limit → In p (placements f) → Allowed f p
unfolding placements
among_allowed f p few h = go (in_map (padded 0 copy_limit) p (keep (in_order f) (choices f.lists)) h)
  where
    go : (r : List ℕ) × In r (keep (in_order f) (choices f.lists)) × (p ≡ padded 0 copy_limit r) → Allowed f p
    go z =
        let k = in_keep (in_order f) z.0 (choices f.lists) z.1 in
        let c = choice_fits f.lists z.0 k.0 in
        let o = both_of (distinct z.0) (ascends f.marks z.0) k.1 in
        let s : take (length f.lists) (padded 0 copy_limit z.0) ≡ z.0 = rw (sym c.0) (take-append_seam z.0 (replicate (copy_limit - length z.0) 0)) in
        subst (Allowed f) (sym z.2) (parts_allowed f (padded 0 copy_limit z.0) (record {
          eight =
              length-append z.0 (replicate (copy_limit - length z.0) 0) ∙ ap (λ n. length z.0 + n) (length-replicate (copy_limit - length z.0) 0) ∙ omega (arith, c.0);
          fit = padded_fits f.lists z.0 (copy_limit - length z.0) c.0 c.1;
          apart = ap distinct s ∙ o.0;
          ascent = ap (ascends f.marks) s ∙ o.1;
        }))

pub allowed_among : (f : Floating) (p : List ℕ) → Allowed f p → In p (placements f)
unfolding placements
allowed_among f p e =
    let qs = f.lists in
    let a = allowed_parts f p e in
    let c = cut qs p a.fit in
    let r : List ℕ = take (length qs) p in
    let n : length p - length qs ≡ copy_limit - length r = omega (arith, a.eight, c.many) in
    let m : p ≡ padded 0 copy_limit r = c.split ∙ ap (λ i. r ++ replicate i 0) n in
    subst (λ z. In z (map (padded 0 copy_limit) (keep (in_order f) (choices qs)))) (sym m)
    (map_in (padded 0 copy_limit) r (keep (in_order f) (choices qs)) (keep_in (in_order f) r (choices qs) (fits_choice qs r c.many c.front)
    (both (distinct r) (ascends f.marks r) a.apart a.ascent)))
