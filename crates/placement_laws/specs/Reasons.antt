-- Why there is no placement: some floaters have too few positions exactly where no placement is allowed (Hall), and one answer at most is meant.
use Rattle.std.specs.Prelude.{◌≡◌, ◌↔◌, ◌⊎◌, Bool, cond, ◌&&◌, ◌||◌, ℕ, zero, suc, ◌+◌, ◌-◌, ◌≤◌, ◌<◌, eqb, ltb, length, get_or, replicate}
use Rattle.std.proofs.Math.Path.{refl}
use Rattle.std.proofs.Common.{sym, ap, ap₂, ◌∙◌, subst, ⊎_elim, true≢false, arith, length-append, get_or-append-add}
use Rattle.std.proofs.Math.Logic.{inl, inr}
use Rattle.std.proofs.Math.Bool.{true, false}
use Rattle.std.proofs.lemmas.Bool.{false≢true}
use Rattle.std.proofs.Math.Option.{Option, none, some as given-one}
use mathlib.Core.List.{List, [], ◌∷◌, ◌++◌}
use Rattle.std.proofs.Math.ListN.{get_or-append}
use Rattle.std.proofs.lemmas.List.{length-replicate}
use borrow.Author.Tests.{ltb-true, ltb-false, lt-ltb, le-ltb, leb-true, le-leb, eq-eqb, ne_eqb}
use Rattle.scope.specs.Limits.{copy_limit, position_limit}
use Rattle.scope.specs.Lists.{none?, all, keep, tabled, member, padded}
use Rattle.scope.specs.Positions.{between, Floating}
use Rattle.scope.specs.Placements.{less, first_placement}
use Rattle.scope.specs.Reasons.{rising, are_floaters, permitted_to, together, too_few, goes_before, Smallest, Reason}
use Rattle.basics.specs.Each.{In}
use Rattle.basics.specs.Tests.{both, both_of, and_left, and_right, neither, or_second, falsely}
use Rattle.basics.specs.Members.{member_in, in_member, in_at, at_in, in_keep, keep_in, all_in, in_all}
use Rattle.basics.specs.Tabled.{tabled_snoc, in_tabled, tabled_in, length_tabled, get_d_tabled}
use Rattle.basics.specs.Lists.{keep_append}
use Rattle.placement_laws.specs.Standing.{place, Full}
use Rattle.placement_laws.specs.Terms.{Rising, may_stand_at, Orderly, unmarked, Allowed, Placing, Least}
use Rattle.placement_laws.specs.Entries.{allowed_placing, placing_allowed}
use Rattle.placement_laws.specs.Lines.{kept_rising}
use Rattle.placement_laws.specs.Leasts.{first_least}
use Rattle.placement_laws.specs.Copies.{none_as_before}
use Rattle.placement_laws.specs.Order.{less_self, less_asym}
use Rattle.placement_laws.specs.Sets.{same_members, earlier_less}
use Rattle.placement_laws.specs.Exchange.{pigeon}
use Rattle.placement_laws.specs.Counts.{count, some, some_true, some_in, Listing, listing}
use Rattle.placement_laws.specs.Hall.{Short, hall}
use Rattle.placement_laws.specs.Smallest.{SameBelow, Earlier, SmallestOf}

-- ---- counting by lists
pub count_same : (n : ℕ) (p q : ℕ → Bool) → ((s : ℕ) → s < n → p s ≡ q s) → count n p ≡ count n q
unfolding count
count_same zero p q h = refl
count_same (suc n) p q h = ap₂ (λ b c. cond b (suc c) c) (h n (omega arith)) (count_same n p q (λ s l. h s (omega arith)))

more_by : (a b : Bool) (c d : ℕ) → (a ≡ true → b ≡ true) → c ≤ d → cond a (suc c) c ≤ cond b (suc d) d
more_by true true c d e h = omega arith
more_by true false c d e h = absurd (false≢true (e refl))
more_by false true c d e h = omega arith
more_by false false c d e h = h

pub count_more : (n : ℕ) (p q : ℕ → Bool) → ((s : ℕ) → s < n → p s ≡ true → q s ≡ true) → count n p ≤ count n q
unfolding count
count_more zero p q h = omega arith
count_more (suc n) p q h = more_by (p n) (q n) (count n p) (count n q) (h n (omega arith)) (count_more n p q (λ s l. h s (omega arith)))

-- those kept of numbers in a row
pub count_kept : (p : ℕ → Bool) (i n : ℕ) → length (keep p (tabled (λ x. x) i n)) ≡ count n (λ s. p (i + s))
unfolding count tabled keep
count_kept p i zero = refl
count_kept p i (suc n) =
    ap (λ l. length (keep p l)) (tabled_snoc (λ x. x) i n) ∙ ap length (keep_append p (tabled (λ x. x) i n) ((i + n) ∷ []))
    ∙ length-append (keep p (tabled (λ x. x) i n)) (keep p ((i + n) ∷ [])) ∙ by (p (i + n)) (count_kept p i n)
  where
    by : (b : Bool) {c d : ℕ} → c ≡ d → c + length (cond b ((i + n) ∷ []) [] ++ []) ≡ cond b (suc d) d
    by true e = omega (arith, e)
    by false e = omega (arith, e)

-- ---- a set of floaters
rising_of : (l : List ℕ) → Rising l → rising l ≡ true
unfolding rising
rising_of [] h = refl
rising_of (i ∷ []) h = refl
rising_of (i ∷ j ∷ l) h = both (ltb i j) (rising (j ∷ l)) (lt-ltb i j (h.0 j (inl refl))) (rising_of (j ∷ l) h.1)

pub of_rising : (l : List ℕ) → rising l ≡ true → Rising l
unfolding rising
of_rising [] e = tt
of_rising (i ∷ []) e = ((λ y h. absurd h), tt)
of_rising (i ∷ j ∷ l) e =
    let first = ltb-true i j (and_left (ltb i j) (rising (j ∷ l)) e) in
    let rest = of_rising (j ∷ l) (and_right (ltb i j) (rising (j ∷ l)) e) in
    ((λ y h. ⊎_elim (λ (q : y ≡ j). subst (λ z. i < z) (sym q) first) (λ k. omega (arith, first, rest.0 y k)) h), rest)

rising_apart : (l : List ℕ) → Rising l → (a b : ℕ) → a < length l → b < length l → get_or l a 0 ≡ get_or l b 0 → a ≡ b
rising_apart [] h a b la lb e = absurd (omega arith)
rising_apart (x ∷ l) h zero zero la lb e = refl
rising_apart (x ∷ l) h zero (suc b) la lb e = absurd (omega (arith, e, h.0 (get_or l b 0) (in_at l b 0 (omega arith))))
rising_apart (x ∷ l) h (suc a) zero la lb e = absurd (omega (arith, e, h.0 (get_or l a 0) (in_at l a 0 (omega arith))))
rising_apart (x ∷ l) h (suc a) (suc b) la lb e = ap suc (rising_apart l h.1 a b (omega arith) (omega arith) e)

module _ (f : Floating) where
  abbrev pub many : ℕ
  many = length f.lists

  -- positions of one of them, and one with a position
  permitted_in : (l : List ℕ) (i x : ℕ) → In i l → member x (get_or f.lists (i - 1) []) ≡ true → permitted_to f l x ≡ true
  unfolding permitted_to
  permitted_in [] i x h e = absurd h
  permitted_in (j ∷ l) i x (inl q) e = rw (sym (ap (λ z. member x (get_or f.lists (z - 1) [])) q) ∙ e)
  permitted_in (j ∷ l) i x (inr h) e = or_second (member x (get_or f.lists (j - 1) [])) (permitted_to f l x) (permitted_in l i x h e)

  in_permitted : (l : List ℕ) (x : ℕ) → permitted_to f l x ≡ true → (i : ℕ) × In i l × (member x (get_or f.lists (i - 1) []) ≡ true)
  unfolding permitted_to
  in_permitted [] x e = absurd (false≢true e)
  in_permitted (j ∷ l) x e = go (member x (get_or f.lists (j - 1) [])) refl (in_permitted l x) e
    where
      go : (b : Bool) → member x (get_or f.lists (j - 1) []) ≡ b → (permitted_to f l x ≡ true → (i : ℕ) × In i l × (member x (get_or f.lists (i - 1) []) ≡ true)) → (b || permitted_to f l x) ≡ true → (i : ℕ) × In i (j ∷ l) × (member x (get_or f.lists (i - 1) []) ≡ true)
      go true q ih r = (j, inl refl, q)
      go false q ih r = let z = ih r in (z.0, inr z.1, z.2)

  -- ---- sets as lists, and as tests
  module _ (l : List ℕ) (few : too_few f l ≡ true) where
    abbrev holds : ℕ → Bool
    holds s = member (s + 1) l

    are : are_floaters f l ≡ true
    unfolding too_few
    are = and_left (are_floaters f l) (ltb (length (together f l)) (length l)) few

    fewer : length (together f l) < length l
    unfolding too_few
    fewer = ltb-true (length (together f l)) (length l) (and_right (are_floaters f l) (ltb (length (together f l)) (length l)) few)

    pub numbers : (i : ℕ) → In i l → (1 ≤ i) × (i ≤ many)
    numbers i h =
        let z = both_of _ _ (all_in (between 1 many) l (and_right (rising l) (all (between 1 many) l) are) i h) in
        (leb-true 1 i z.0, leb-true i many z.1)

    pub few_rising : Rising l
    few_rising = of_rising l (and_left (rising l) (all (between 1 many) l) are)

    listed : Listing many holds (count many holds)
    listed = listing many holds

    members : length l ≤ count many holds
    members = pigeon (length l) (count many holds) (λ a. get_or l a 0 - 1) listed.nth apart into
      where
        at : (a : ℕ) → a < length l → (1 ≤ get_or l a 0) × (get_or l a 0 ≤ many)
        at a h = numbers (get_or l a 0) (in_at l a 0 h)

        apart : (a b : ℕ) → a < length l → b < length l → get_or l a 0 - 1 ≡ get_or l b 0 - 1 → a ≡ b
        apart a b x y e = rising_apart l few_rising a b x y (omega (arith, (at a x).0, (at b y).0, e))

        into : (a : ℕ) → a < length l → (b : ℕ) × (b < count many holds) × (get_or l a 0 - 1 ≡ listed.nth b)
        into a h =
            let back : get_or l a 0 - 1 + 1 ≡ get_or l a 0 = omega (arith, (at a h).0) in
            let z = listed.all (get_or l a 0 - 1) (omega (arith, (at a h).0, (at a h).1)) (ap (λ i. member i l) back ∙ in_member (get_or l a 0) l (in_at l a 0 h)) in
            (z.0, z.1, sym z.2)

    covered : count position_limit (λ x. some many (λ s. holds s && may_stand_at f s x)) ≤ length (together f l)
    covered =
        subst (λ n. count position_limit (λ x. some many (λ s. holds s && may_stand_at f s x)) ≤ n) (sym (count_kept (permitted_to f l) 0 position_limit))
        (count_more position_limit _ (λ x. permitted_to f l (0 + x)) (λ x h e. by x (some_true many (λ s. holds s && may_stand_at f s x) e)))
      where
        by : (x : ℕ) → (s : ℕ) × (s < many) × ((holds s && may_stand_at f s x) ≡ true) → permitted_to f l (0 + x) ≡ true
        by x z =
            let q = both_of (holds z.0) (may_stand_at f z.0 x) z.2 in
            let back : z.0 + 1 - 1 ≡ z.0 = omega arith in
            let here : 0 + x ≡ x = omega arith in
            ap (permitted_to f l) here
            ∙ permitted_in l (z.0 + 1) x (member_in (z.0 + 1) l q.0) (ap (λ s. member x (get_or f.lists s [])) back ∙ q.1)

    short : Short (may_stand_at f) many position_limit holds
    short = record { fewer = omega (arith, members, covered, fewer) }

  module _ (m : ℕ → Bool) (s : Short (may_stand_at f) many position_limit m) where
    abbrev chosen : List ℕ
    chosen = keep (λ i. m (i - 1)) (tabled (λ x. x) 1 many)

    size : length chosen ≡ count many m
    size = count_kept (λ i. m (i - 1)) 1 many ∙ count_same many (λ s. m (1 + s - 1)) m (λ s h. ap m (omega arith))

    chosen_in : (i : ℕ) → In i chosen → (1 ≤ i) × (i ≤ many) × (m (i - 1) ≡ true)
    chosen_in i h =
        let z = in_keep (λ i. m (i - 1)) i (tabled (λ x. x) 1 many) h in
        let y = in_tabled 1 many i z.0 in
        (y.0, omega (arith, y.1), z.1)

    are_floaters_lem : are_floaters f chosen ≡ true
    are_floaters_lem =
        both (rising chosen) (all (between 1 many) chosen) (rising_of chosen (kept_rising (λ i. m (i - 1)) 1 many))
        (in_all (between 1 many) chosen (λ i h. let z = chosen_in i h in both _ _ (le-leb 1 i z.0) (le-leb i many z.1)))

    positions_of_lem : length (together f chosen) ≤ count position_limit (λ x. some many (λ t. m t && may_stand_at f t x))
    positions_of_lem =
        subst (λ n. n ≤ count position_limit (λ x. some many (λ t. m t && may_stand_at f t x))) (sym (count_kept (permitted_to f chosen) 0 position_limit))
        (count_more position_limit (λ x. permitted_to f chosen (0 + x)) _ (λ x h e. by x (in_permitted chosen (0 + x) e)))
      where
        by : (x : ℕ) → (i : ℕ) × In i chosen × (member (0 + x) (get_or f.lists (i - 1) []) ≡ true) → some many (λ t. m t && may_stand_at f t x) ≡ true
        by x z =
            let c = chosen_in z.0 z.1 in
            let here : x ≡ 0 + x = omega arith in
            some_in many (z.0 - 1) (λ t. m t && may_stand_at f t x) (omega (arith, c.0, c.1))
            (both (m (z.0 - 1)) (may_stand_at f (z.0 - 1) x) c.2 (ap (λ y. member y (get_or f.lists (z.0 - 1) [])) here ∙ z.2))

    chosen_few : too_few f chosen ≡ true
    unfolding too_few
    chosen_few = both (are_floaters f chosen) _ are_floaters_lem (lt-ltb (length (together f chosen)) (length chosen) (omega (arith, positions_of_lem, s.fewer, size)))

  -- ---- standing by number, and placements
  module _ (ok : Orderly f) (inside : (s x : ℕ) → may_stand_at f s x ≡ true → x < position_limit) where
    allowed_full : (p : List ℕ) → Allowed f p → Full (may_stand_at f) many (place p)
    allowed_full p a =
        let z = allowed_placing f p a in
        record { fits = λ s l. in_member (place p s) (get_or f.lists s []) (z.permitted s l); apart = z.apart }

    full_allowed : (w : ℕ → ℕ) → Full (may_stand_at f) many w → (p : List ℕ) × Allowed (unmarked f) p
    full_allowed w h = (padded 0 copy_limit l, placing_allowed (unmarked f) (padded 0 copy_limit l) ok.few placing)
      where
        l : List ℕ
        l = tabled w 0 many

        long : length l ≡ many
        long = length_tabled w 0 many

        at : (s : ℕ) → s < many → get_or (padded 0 copy_limit l) s 0 ≡ w s
        at s q = get_or-append l (replicate (copy_limit - length l) 0) 0 s (omega (arith, long)) ∙ get_d_tabled w 0 many s 0 q ∙ ap w (omega arith)

        placing : Placing (unmarked f) (padded 0 copy_limit l)
        placing =
            record {
              eight = length-append l (replicate (copy_limit - length l) 0) ∙ omega (arith, long, ok.few, length-replicate {A = ℕ} (copy_limit - length l) 0);
              permitted = λ i q. member_in _ _ (ap (λ y. member y (get_or f.lists i [])) (at i q) ∙ h.fits i q);
              apart = λ i j q r e. h.apart i j q r (sym (at i q) ∙ e ∙ at j r);
              ascent = λ i q e. absurd (false≢true e);
              unused = λ i q.
                  let far : i ≡ length l + (i - length l) = omega (arith, long) in
                  ap (λ n. get_or (padded 0 copy_limit l) n 0) far ∙ get_or-append-add l (replicate (copy_limit - length l) 0) (i - length l) 0 ∙ zeros (copy_limit - length l) (i - length l);
            }
          where
            zeros : (n i : ℕ) → ◌≡◌ {A = ℕ} (get_or (replicate n 0) i 0) 0
            zeros zero i = refl
            zeros (suc n) zero = refl
            zeros (suc n) (suc i) = zeros n i

    -- "such a set exists exactly when no placement does"
    pub exactly_none : ((l : List ℕ) × (too_few f l ≡ true)) ↔ ((p : List ℕ) → Allowed f p → ⊥)
    exactly_none =
        let by-hall = hall (may_stand_at f) position_limit inside many in (
          (λ z p a. by-hall.1 (holds z.0 z.1, short z.0 z.1) (place p) (allowed_full p a)),
          (λ none. let z = by-hall.0 (λ w h. let y = full_allowed w h in (none_as_before f ok).0 none y.0 y.1) in (chosen z.0 z.1, chosen_few z.0 z.1)),
        )

-- ---- the smallest set, as a list
module _ (f : Floating) (m : ℕ → Bool) (n : ℕ) (small : SmallestOf (may_stand_at f) (many f) n m) where
  abbrev k : ℕ
  k = many f

  abbrev mine : List ℕ
  mine = chosen f m small.short

  module _ (o : List ℕ) (few : too_few f o ≡ true) where
    abbrev theirs : ℕ → Bool
    theirs = holds f o few

    risen : Rising o
    risen = few_rising f o few

    rose : Rising mine
    rose = kept_rising (λ i. m (i - 1)) 1 k

    members_back : count k theirs ≤ length o
    members_back = pigeon (count k theirs) (length o) (λ a. (listed f o few).nth a + 1) (λ a. get_or o a 0) apart into
      where
        apart : (a b : ℕ) → a < count k theirs → b < count k theirs → (listed f o few).nth a + 1 ≡ (listed f o few).nth b + 1 → a ≡ b
        apart a b x y e = (listed f o few).apart a b x y (omega (arith, e))

        into : (a : ℕ) → a < count k theirs → (b : ℕ) × (b < length o) × ((listed f o few).nth a + 1 ≡ get_or o b 0)
        into a x =
            let z = at_in ((listed f o few).nth a + 1) o 0 (member_in ((listed f o few).nth a + 1) o ((listed f o few).holds a x)) in
            (z.0, z.1, sym z.2)

    as_long : count k theirs ≡ length o
    as_long = omega (arith, members f o few, members_back)

    in_mine : (i : ℕ) → In i mine → (1 ≤ i) × (i ≤ k) × (m (i - 1) ≡ true)
    in_mine = chosen_in f m small.short

    mine_in : (s : ℕ) → s < k → m s ≡ true → In (s + 1) mine
    mine_in s l e =
        let back : s + 1 - 1 ≡ s = omega arith in
        keep_in (λ i. m (i - 1)) (s + 1) (tabled (λ x. x) 1 k) (tabled_in 1 k (s + 1) (omega arith) (omega arith)) (ap m back ∙ e)

    theirs_at : (i : ℕ) → 1 ≤ i → theirs (i - 1) ≡ member i o
    theirs_at i h = ap (λ x. member x o) (omega arith)

    -- as lists, by where they stand
    forth : (n : ℕ) → ((s : ℕ) → s < n → s < k → m s ≡ theirs s) → (i : ℕ) → i ≤ n → In i mine → In i o
    forth n h i l q =
        let z = in_mine i q in
        member_in i o (sym (theirs_at i z.0) ∙ sym (h (i - 1) (omega (arith, z.0)) (omega (arith, z.0, z.1))) ∙ z.2)

    back : (n : ℕ) → ((s : ℕ) → s < n → s < k → m s ≡ theirs s) → (i : ℕ) → i ≤ n → In i o → In i mine
    back n h i l q =
        let z = numbers f o few i q in
        let e : i - 1 + 1 ≡ i = omega (arith, z.0) in
        subst (λ x. In x mine) e
        (mine_in (i - 1) (omega (arith, z.0, z.1)) (h (i - 1) (omega (arith, z.0)) (omega (arith, z.0, z.1)) ∙ theirs_at i z.0 ∙ in_member i o q))

    not_first : goes_before o mine ≡ false
    not_first = ⊎_elim fewer_mine equal (small.least theirs (short f o few))
      where
        and_false : (a b : Bool) → b ≡ false → (a && b) ≡ false
        and_false true b e = e
        and_false false b e = refl

        fewer_mine : n < count k theirs → goes_before o mine ≡ false
        fewer_mine l =
            let fewer : length mine < length o = omega (arith, l, as_long, size f m small.short, small.size) in
            neither _ _ (le-ltb (length o) (length mine) (omega arith)) (ap (λ c. c && less o mine) (ne_eqb (length o) (length mine) (λ e. omega (arith, e))))

        equal : (n ≡ count k theirs) × (SameBelow k m theirs ⊎ Earlier k m theirs) → goes_before o mine ≡ false
        equal z = neither _ _ (le-ltb (length o) (length mine) (omega (arith, long))) (and_false (eqb (length o) (length mine)) (less o mine) (⊎_elim same earlier z.1))
          where
            long : length mine ≡ length o
            long = size f m small.short ∙ sym small.size ∙ z.0 ∙ as_long

            not_less : (less o mine ≡ true → ⊥) → less o mine ≡ false
            not_less h = falsely (less o mine) h

            same : ((s : ℕ) → s < k → m s ≡ theirs s) → less o mine ≡ false
            same h =
                let one : mine ≡ o =
                same_members mine o rose risen
                (λ i q. forth k (λ s l r. h s r) i (in_mine i q).1 q)
                (λ i q. back k (λ s l r. h s r) i (numbers f o few i q).1 q) in
                not_less (λ e. less_self o (subst (λ x. less o x ≡ true) one e))

            earlier : Earlier k m theirs → less o mine ≡ false
            earlier w =
                not_less (λ e. less_asym o mine e
                (earlier_less mine o rose risen long (w.d + 1) (mine_in w.d w.inside w.here)
                (λ q. false≢true (sym w.there ∙ in_member (w.d + 1) o q))
                (λ j l q. forth w.d (λ s a r. w.same s a) j (omega arith) q) (λ j l q. back w.d (λ s a r. w.same s a) j (omega arith) q)))

  pub smallest_listed : Smallest f mine
  smallest_listed = record { few = chosen_few f m small.short; first = not_first }

pub few_short : (f : Floating) (l : List ℕ) → too_few f l ≡ true → (m : ℕ → Bool) × Short (may_stand_at f) (many f) position_limit m
few_short f l e = (holds f l e, short f l e)

-- a set with too few positions has members
pub few_some : (f : Floating) → too_few f [] ≡ true → ⊥
unfolding too_few rising all
few_some f e = let h = ltb-true (length (together f [])) 0 e in omega arith

pub as_reason : (f : Floating) (l : List ℕ) → Smallest f l → Reason f l
as_reason f [] s = absurd (few_some f s.few)
as_reason f (i ∷ l) s = s

-- ---- one answer at most
not_before : (l m : List ℕ) → length l ≡ length m → less l m ≡ false → less m l ≡ false → l ≡ m
unfolding less
not_before [] [] e a b = refl
not_before [] (y ∷ m) e a b = absurd (omega (arith, e))
not_before (x ∷ l) [] e a b = absurd (omega (arith, e))
not_before (x ∷ l) (y ∷ m) e a b = go (not_before l m (omega (arith, e))) (ltb x y) refl (ltb y x) refl a b
  where
    go : (less l m ≡ false → less m l ≡ false → l ≡ m) → (c : Bool) → ltb x y ≡ c → (d : Bool) → ltb y x ≡ d → (c || eqb x y && less l m) ≡ false → (d || eqb y x && less m l) ≡ false → ◌≡◌ {A = List ℕ} (x ∷ l) (y ∷ m)
    go ih true p d q a b = absurd (true≢false a)
    go ih false p true q a b = absurd (true≢false b)
    go ih false p false q a b =
        let same : x ≡ y = omega (arith, ltb-false x y p, ltb-false y x q) in
        let rest = ih (ap (λ c. c && less l m) (sym (eq-eqb x y same)) ∙ a) (ap (λ c. c && less m l) (sym (eq-eqb y x (sym same))) ∙ b) in
        ap₂ ◌∷◌ same rest

smallest_once : (f : Floating) (l m : List ℕ) → Smallest f l → Smallest f m → l ≡ m
smallest_once f l m a b = go (ltb (length l) (length m)) refl (ltb (length m) (length l)) refl (b.first l a.few) (a.first m b.few)
  where
    go : (c : Bool) → ltb (length l) (length m) ≡ c → (d : Bool) → ltb (length m) (length l) ≡ d → (c || eqb (length l) (length m) && less l m) ≡ false
        → (d || eqb (length m) (length l) && less m l) ≡ false → l ≡ m
    go true p d q x y = absurd (true≢false x)
    go false p true q x y = absurd (true≢false y)
    go false p false q x y =
        let same : length l ≡ length m = omega (arith, ltb-false (length l) (length m) p, ltb-false (length m) (length l) q) in
        not_before l m same (ap (λ c. c && less l m) (sym (eq-eqb (length l) (length m) same)) ∙ x) (ap (λ c. c && less m l) (sym (eq-eqb (length m) (length l) (sym same))) ∙ y)

pub one_reason : (f : Floating) (l m : List ℕ) → Reason f l → Reason f m → l ≡ m
one_reason f [] [] a b = refl
one_reason f [] (j ∷ m) a b = absurd (a (j ∷ m) b.few)
one_reason f (i ∷ l) [] a b = absurd (b (i ∷ l) a.few)
one_reason f (i ∷ l) (j ∷ m) a b = smallest_once f (i ∷ l) (j ∷ m) a b

-- ---- the answer is empty exactly where a placement exists
module _ (f : Floating) (ok : Orderly f) (inside : (s x : ℕ) → may_stand_at f s x ≡ true → x < position_limit) where
  pub empty_reason : (l : List ℕ) → Reason f l → (l ≡ []) ↔ ((p : List ℕ) × Allowed f p)
  empty_reason [] r = ((λ e. some_placement (first_placement f) (first_least f ok)), (λ z. refl))
    where
      some_placement : (o : Option (List ℕ)) → Least (Allowed f) o → (p : List ℕ) × Allowed f p
      some_placement none h = let z = (exactly_none f ok inside).1 h in absurd (r z.0 z.1)
      some_placement (given-one p) h = (p, h.0)
  empty_reason (i ∷ l) r = ((λ e. absurd (false≢true (ap none? e))), (λ z. absurd ((exactly_none f ok inside).0 (i ∷ l, r.few) z.0 z.1)))
