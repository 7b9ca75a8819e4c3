-- The rule on copies takes no line its placements. The least placement of those without the rule has the copies of each bracket in ascending order: if a further
-- copy stood below the copy before it, the two in each other's place would be a lesser one. So it is too where each copy is held to the positions that the copies
-- of its bracket have in a placement without the rule: that one is allowed with them in another order.
use Rattle.std.specs.Prelude.{◌≡◌, refl, ◌⊎◌, ◌↔◌, Bool, true, false, cond, eqb, length, get_or, set}
use Rattle.std.proofs.Common.{sym, ap, ◌∙◌, inl, inr, zero-add, length-set, get_or-set_same, get_or-set_other, eqb-true, eq-eqb}
use Rattle.std.proofs.Math.Logic.{⊎_elim}
use Rattle.std.proofs.lemmas.Bool.{false≢true}
use Rattle.std.proofs.Math.Option.{Option, none, some}
use mathlib.Core.List.{List, [], map}
use Prim.Native.Nat.{ℕ, zero, suc, ◌+◌, ◌<◌, ◌≤◌}
use native.Mathlib.Omega.{arith}
use Rattle.scope.specs.Limits.{copy_limit}
use Rattle.scope.specs.Lists.{keep, tabled, member}
use Rattle.scope.specs.Positions.{Floating}
use Rattle.scope.specs.Placements.{less, first_placement}
use Rattle.basics.specs.Each.{each_in, each_tabled}
use Rattle.basics.specs.Tests.{test, below?}
use Rattle.basics.specs.Members.{member_in, in_member, in_at, in_keep, keep_in, in_map, map_in, ordered_keep}
use Rattle.basics.specs.Tabled.{length_tabled, get_d_tabled, in_tabled, tabled_in}
use Rattle.placement_laws.specs.Standing.{place, Full, Ascent, Alike, Before, Upto}
use Rattle.placement_laws.specs.Terms.{Rising, may_stand_at, marked, Orderly, unmarked, Allowed, Reordered, Least}
use Rattle.placement_laws.specs.Order.{less_before, least_unique}
use Rattle.placement_laws.specs.Entries.{allowed_placing, placing_allowed}
use Rattle.placement_laws.specs.Leasts.{first_least}
use Rattle.placement_laws.specs.Swaps.{Swapped, swap_least}

-- how many floaters there are
abbrev size : Floating → ℕ
size f = length f.lists

-- ---- a list with two neighbours in each other's place
abbrev swap_in : ℕ → List ℕ → List ℕ
swap_in s p = set (set p s (place p (s + 1))) (s + 1) (place p s)

swap_length : (s : ℕ) (p : List ℕ) → length (swap_in s p) ≡ length p
swap_length s p = length-set (set p s (place p (s + 1))) (s + 1) (place p s) ∙ length-set p s (place p (s + 1))

swap_in_lem : (s : ℕ) (p : List ℕ) → s + 1 < length p → Swapped s (place p) (place (swap_in s p))
swap_in_lem s p h =
    let q = set p s (place p (s + 1)) in
    record {
      here = get_or-set_other q (s + 1) s (place p s) 0 (λ e. omega arith) ∙ get_or-set_same p s (place p (s + 1)) 0 (omega arith);
      behind = get_or-set_same q (s + 1) (place p s) 0 (omega (arith, length-set p s (place p (s + 1))));
      else = λ t a b. get_or-set_other q (s + 1) t (place p s) 0 b ∙ get_or-set_other p s t (place p (s + 1)) 0 a;
    }

module _ (f : Floating) where
  -- ---- with the rule, and without it
  pub without : (p : List ℕ) → size f ≤ copy_limit → Allowed f p → Allowed (unmarked f) p
  without p few a =
      let z = allowed_placing f p a in
      placing_allowed (unmarked f) p few
      (record { eight = z.eight; permitted = z.permitted; apart = z.apart; ascent = λ s l m. absurd (false≢true m); unused = z.unused })

  pub within : (p : List ℕ) → size f ≤ copy_limit → Allowed (unmarked f) p → Ascent (marked f) (size f) (place p) → Allowed f p
  within p few a h =
      let z = allowed_placing (unmarked f) p a in
      placing_allowed f p few (record { eight = z.eight; permitted = z.permitted; apart = z.apart; ascent = h; unused = z.unused })

module _ (f : Floating) (ok : Orderly f) where
  pub unmarked_orderly : Orderly (unmarked f)
  unmarked_orderly = record { few = ok.few; rising = ok.rising; alike = λ s x y l m o p h. absurd (false≢true m) }

  -- ---- the least one without the rule
  module _ (p : List ℕ) (allowed : Allowed (unmarked f) p) (least : (q : List ℕ) → Allowed (unmarked f) q → (p ≡ q) ⊎ (less p q ≡ true)) where
    standing : Full (may_stand_at f) (size f) (place p)
    standing =
        let z = allowed_placing (unmarked f) p allowed in
        record { fits = λ s l. in_member (place p s) (get_or f.lists s []) (z.permitted s l); apart = z.apart }

    module _ (s : ℕ) (inside : s + 1 < size f) where
      swapped : Swapped s (place p) (place (swap_in s p))
      swapped = swap_in_lem s p (omega (arith, inside, ok.few, (allowed_placing (unmarked f) p allowed).eight))

      swap_allowed : Full (may_stand_at f) (size f) (place (swap_in s p)) → Allowed (unmarked f) (swap_in s p)
      swap_allowed v =
          let z = allowed_placing (unmarked f) p allowed in
          placing_allowed (unmarked f) (swap_in s p) ok.few (record {
            eight = swap_length s p ∙ z.eight;
            permitted = λ i l. member_in (place (swap_in s p) i) (get_or f.lists i []) (v.fits i l);
            apart = v.apart;
            ascent = λ i l m. absurd (false≢true m);
            unused = λ i l. swapped.else i (λ e. omega (arith, inside)) (λ e. omega (arith, inside)) ∙ z.unused i l;
          })

      no_less : Full (may_stand_at f) (size f) (place (swap_in s p)) → Upto (size f) (place p) (place (swap_in s p))
      no_less v = ⊎_elim (λ e. inl (λ t l. ap (λ q. place q t) e)) (λ h. inr (go h)) (least (swap_in s p) (swap_allowed v))
        where
          go : less p (swap_in s p) ≡ true → Before (size f) (place p) (place (swap_in s p))
          go h =
              let b = less_before p (swap_in s p) (sym (swap_length s p)) h in
              record {
                d = b.d;
                inside = ⊎_elim
                    (λ l. l)
                    (λ l. let z = swapped.else b.d (λ e. omega (arith, inside)) (λ e. omega (arith, inside)) in absurd (omega (arith, z, b.less)))
                    (below? b.d (size f));
                same = b.same;
                less = b.less;
              }

    ascent : Ascent (marked f) (size f) (place p)
    ascent s l m =
        swap_least (may_stand_at f) (size f) s (place p) (place (swap_in s p)) l (swapped s l) standing
        (λ h. ok.alike s (place p s) (place p (s + 1)) l m (standing.fits s (omega arith)) (standing.fits (s + 1) l) h) (no_less s l)

  least_without : (a : Option (List ℕ)) → Least (Allowed (unmarked f)) a → Least (Allowed f) a
  least_without none h = λ q b. h q (without f q ok.few b)
  least_without (some p) h = (within f p ok.few h.0 (ascent p h.0 h.1), λ q b. h.1 q (without f q ok.few b))

  least_before_lem : Least (Allowed f) (first_placement (unmarked f))
  least_before_lem = least_without (first_placement (unmarked f)) (first_least (unmarked f) unmarked_orderly)

  pub first_as_before : first_placement f ≡ first_placement (unmarked f)
  first_as_before = least_unique (Allowed f) (first_placement f) (first_placement (unmarked f)) (first_least f ok) least_before_lem

  pub none_as_before : ((p : List ℕ) → Allowed f p → ⊥) ↔ ((p : List ℕ) → Allowed (unmarked f) p → ⊥)
  none_as_before = (λ h. go (first_placement (unmarked f)) (first_least (unmarked f) unmarked_orderly) h, λ h p a. h p (without f p ok.few a))
    where
      go : (a : Option (List ℕ)) → Least (Allowed (unmarked f)) a → ((p : List ℕ) → Allowed f p → ⊥) → (p : List ℕ) → Allowed (unmarked f) p → ⊥
      go none l h = l
      go (some q) l h = absurd (h q (least_without (some q) l).0)

-- ---- the first copy of the bracket of s
start : (ℕ → Bool) → ℕ → ℕ
start mark zero = zero
start mark (suc s) = cond (mark (suc s)) (start mark s) (suc s)

module _ (mark : ℕ → Bool) where
  start_same : (s : ℕ) → mark (suc s) ≡ true → start mark (suc s) ≡ start mark s
  unfolding start
  start_same s m = rw m

  start_here : (s : ℕ) → mark (suc s) ≡ false → start mark (suc s) ≡ suc s
  unfolding start
  start_here s m = rw m

  start_below : (s : ℕ) → start mark s ≤ s
  unfolding start
  start_below zero = omega arith
  start_below (suc s) = ⊎_elim (λ m. omega (arith, start_same s m, start_below s)) (λ m. omega (arith, start_here s m)) (test (mark (suc s)))

  start_rises : (s r : ℕ) → s ≤ r → start mark s ≤ start mark r
  start_rises s zero l = let z : s ≡ zero = omega arith in rw z (omega arith)
  start_rises s (suc r) l = ⊎_elim
      (λ (h : s < suc r). go (start_rises s r (omega arith)))
      (λ (h : suc r ≤ s). let z : s ≡ suc r = omega arith in rw z (omega arith))
      (below? s (suc r))
    where
      go : start mark s ≤ start mark r → start mark s ≤ start mark (suc r)
      go z = ⊎_elim (λ m. omega (arith, start_same r m)) (λ m. omega (arith, start_below s, start_here r m)) (test (mark (suc r)))

  between_marked : (s r : ℕ) → start mark s ≡ start mark r → (t : ℕ) → s < t → t ≤ r → mark t ≡ true
  between_marked s r e zero l h = absurd (omega arith)
  between_marked s r e (suc t) l h = ⊎_elim
      (λ m. m)
      (λ m. absurd (omega (arith, start_here t m, start_rises (suc t) r h, e, start_below s)))
      (test (mark (suc t)))

-- ---- every placement without the rule, with the copies of each bracket in another order
-- an allowed one exists where one does without the rule
some_allowed : (f : Floating) → Orderly f → (p : List ℕ) → Allowed (unmarked f) p → (q : List ℕ) × Allowed f q
some_allowed f ok p a = go (first_placement f) (first_least f ok)
  where
    go : (o : Option (List ℕ)) → Least (Allowed f) o → (q : List ℕ) × Allowed f q
    go none h = absurd ((none_as_before f ok).0 h p a)
    go (some q) h = (q, h.0)

module _ (f : Floating) (ok : Orderly f) (p : List ℕ) (allowed : Allowed (unmarked f) p) where
  -- s and r are copies of one bracket
  abbrev together : ℕ → ℕ → Bool
  together s r = eqb (start (marked f) s) (start (marked f) r)

  -- the positions that p has for the copies of the bracket of s, and those of them that s may have
  abbrev held : ℕ → List ℕ
  held s = map (place p) (keep (together s) (tabled (λ r. r) 0 (size f)))

  held_of : ℕ → List ℕ
  held_of s = keep (λ x. member x (held s)) (get_or f.lists s [])

  abbrev cut : Floating
  cut = record { lists = tabled held_of 0 (size f); marks = f.marks }

  cut_many : size cut ≡ size f
  cut_many = length_tabled held_of 0 (size f)

  cut_at : (s : ℕ) → s < size f → get_or cut.lists s [] ≡ held_of s
  cut_at s l = get_d_tabled held_of 0 (size f) s [] l ∙ ap held_of (zero-add s)

  of_cut : (s x : ℕ) → s < size f → may_stand_at cut s x ≡ true → (may_stand_at f s x ≡ true) × (member x (held s) ≡ true)
  unfolding held_of
  of_cut s x l m =
      let z = in_keep (λ y. member y (held s)) x (get_or f.lists s []) (member_in x (held_of s) (rw (cut_at s l) at m)) in
      (in_member x (get_or f.lists s []) z.0, z.1)

  in_cut : (s x : ℕ) → s < size f → may_stand_at f s x ≡ true → member x (held s) ≡ true → may_stand_at cut s x ≡ true
  unfolding held_of
  in_cut s x l m h =
      rw (cut_at s l) (in_member x (held_of s) (keep_in (λ y. member y (held s)) x (get_or f.lists s []) (member_in x (get_or f.lists s []) m) h))

  held_same : (s : ℕ) → marked f (s + 1) ≡ true → held (s + 1) ≡ held s
  held_same s m =
      let i : s + 1 ≡ suc s = omega arith in
      let e : start (marked f) (s + 1) ≡ start (marked f) s = rw i (start_same (marked f) s (rw i at m)) in
      ap (λ a. map (place p) (keep (λ r. eqb a (start (marked f) r)) (tabled (λ r. r) 0 (size f)))) e

  cut_orderly : Orderly cut
  unfolding held_of
  cut_orderly = record { few = omega (arith, cut_many, ok.few); rising = each_tabled Rising held_of 0 (size f) rising; alike = alike }
    where
      rising : (s : ℕ) → s < 0 + size f → Rising (held_of s)
      rising s l =
          ordered_keep ◌<◌ (λ x. member x (held s)) (get_or f.lists s [])
          (each_in Rising f.lists (get_or f.lists s []) (in_at f.lists s [] (omega arith)) ok.rising)

      alike : Alike (may_stand_at cut) (marked f) (size cut)
      alike s x y l m o q h =
          let i : s < size f = omega (arith, cut_many) in
          let j : s + 1 < size f = omega (arith, cut_many) in
          let a = of_cut s x i o in
          let b = of_cut (s + 1) y j q in
          let z = ok.alike s x y j m a.0 b.0 h in
          (in_cut s y i z.0 (ap (member y) (sym (held_same s m)) ∙ b.1), in_cut (s + 1) x j z.1 (ap (member x) (held_same s m) ∙ a.1))

  p_allowed : Allowed (unmarked cut) p
  p_allowed =
      let z = allowed_placing (unmarked f) p allowed in
      placing_allowed (unmarked cut) p cut_orderly.few (record {
        eight = z.eight;
        permitted = λ i l.
            let j : i < size f = omega (arith, cut_many, l) in
            member_in (place p i) (get_or cut.lists i [])
            (in_cut i (place p i) j (in_member (place p i) (get_or f.lists i []) (z.permitted i j)) (own i j));
        apart = λ i j l m e. z.apart i j (omega (arith, cut_many, l)) (omega (arith, cut_many, m)) e;
        ascent = λ i l m. absurd (false≢true m);
        unused = λ i l. z.unused i (omega (arith, cut_many, l));
      })
    where
      own : (s : ℕ) → s < size f → member (place p s) (held s) ≡ true
      own s l =
          in_member (place p s) (held s)
          (map_in (place p) s (keep (together s) (tabled (λ r. r) 0 (size f)))
          (keep_in (together s) s (tabled (λ r. r) 0 (size f)) (tabled_in 0 (size f) s (omega arith) (omega arith)) (eq-eqb (start (marked f) s) (start (marked f) s) refl)))

  module _ (q : List ℕ) (allowed-cut : Allowed cut q) where
    stands : (s : ℕ) → s < size f → (may_stand_at f s (place q s) ≡ true) × (member (place q s) (held s) ≡ true)
    stands s l = of_cut s (place q s) l (in_member (place q s) (get_or cut.lists s []) ((allowed_placing cut q allowed-cut).permitted s (omega (arith, cut_many))))

    q_allowed : Allowed f q
    q_allowed =
        let z = allowed_placing cut q allowed-cut in
        placing_allowed f q ok.few (record {
          eight = z.eight;
          permitted = λ i l. member_in (place q i) (get_or f.lists i []) (stands i l).0;
          apart = λ i j l m e. z.apart i j (omega (arith, cut_many, l)) (omega (arith, cut_many, m)) e;
          ascent = λ s l m. z.ascent s (omega (arith, cut_many, l)) m;
          unused = λ i l. z.unused i (omega (arith, cut_many, l));
        })

    reordered : Reordered f p q
    reordered s l =
        let a = in_map (place p) (place q s) (keep (together s) (tabled (λ r. r) 0 (size f))) (member_in (place q s) (held s) (stands s l).1) in
        let b = in_keep (together s) a.0 (tabled (λ r. r) 0 (size f)) a.1 in
        let e = eqb-true (start (marked f) s) (start (marked f) a.0) b.1 in
        let i = in_tabled 0 (size f) a.0 b.0 in
        (a.0, omega (arith, i.1), (between_marked (marked f) s a.0 e, between_marked (marked f) a.0 s (sym e)), a.2)

  pub sorted : (q : List ℕ) × Allowed f q × Reordered f p q
  sorted = let z = some_allowed cut cut_orderly p p_allowed in (z.0, q_allowed z.0 z.1, reordered z.0 z.1)
