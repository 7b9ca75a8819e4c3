-- Laws of the ledger: what one booking does, and that bookings one after the other make the entries that the definition sums for each position.
-- Assumes nothing.
use mathlib.Core.Path.{◌≡◌, refl, sym, ap, ap₂, ◌∙◌, subst}
use mathlib.Core.Bool.{Bool, true, false, not, cond, ◌&&◌}
use mathlib.Core.List.{List, [], ◌∷◌, ◌++◌, map}
use Prim.Native.Nat.{ℕ, suc, ◌+◌, ◌-◌, ◌≤◌, ◌<◌, min}
use native.Mathlib.Nat.{zero-add}
use native.Mathlib.Numerals.{add-one}
use native.Mathlib.Decide.{ℕ_discrete}
use native.Mathlib.Omega.{arith}
use borrow.Author.Tests.{eq-eqb, ne_eqb, ltb-true, ltb-false, lt-ltb, le-ltb}
use lib.Dec.{eqb, ltb}
use lib.IntN.{ℤ, pos, nat_abs, ◌+ℤ◌, +ℤ_idl, +ℤ_idr, +ℤ_assoc}
use lib.ListN.{length, get_or, set, drop, replicate, length-set, get_or-replicate, drop_of_length-le}
use lib.Seq.{get_or-set_same, get_or-set_other, drop-cons, ext_get_or}
use Rattle.scope.specs.declared.grammar.Kind.{Kind}
use Rattle.scope.specs.Kinds.{is_unknown, is_on_range, is_declared, on_one_position}
use Rattle.scope.specs.Limits.{bracket_limit, position_limit, count_limit, copy_limit}
use Rattle.scope.specs.Line.{Bracket}
use Rattle.scope.specs.Lists.{flat, tabled, member}
use Rattle.scope.specs.Modifications.{copies, is_modification, is_labelled, unlabelled_copies}
use Rattle.scope.specs.Positions.{names, reached, is_placed, placed_on, floaters}
use Rattle.scope.specs.Tables.{Tables}
use Rattle.scope.specs.Layout.{bracket_in, tables_in, brackets_field, first_field, residues_field}
use Rattle.scope.specs.Masses.{mass_or0, sum, placed_at, put_at, ledger}
use Rattle.areas.specs.Bounds.{Small, Bounds}
use Rattle.basics.specs.Tabled.{tabled_at, tabled_end, tabled_all, length_tabled, get_d_tabled}
use Rattle.masses.specs.Reach.{Reach}
use Rattle.mass_laws.specs.Terms.{mass_limit}
use Rattle.mass_laws.specs.Sums.{share, share_else}
use Rattle.mass_laws.proofs.Shares.{put_none, put_cons}
use Rattle.mass_laws.specs.Weights.{booked_at, placed_is, not_booked}
use Rattle.masses.specs.Booking.{EntriesKept, CanBook, booked, CanBookNamed, NamedBooked, CanPlace, BracketPlaced, PlacedBooked, CanPut, CanFloat, CopiesPut}
use Rattle.masses.proofs.PartLaws.{reach_row}
use Rattle.basics.specs.Wholes.{abs_add}
use Rattle.masses.proofs.TallyLaws.{mass_small, few_copies}
use Rattle.basics.specs.Choice.{by_test, branch, pick_true, pick_false}
use Rattle.basics.specs.Positions.{placed_on_lem}
use Rattle.basics.specs.Tests.{and_left, and_right, eqb_sym}
use Rattle.brackets.specs.Reached.{reached_in, next_test, next_unnamed}

-- a small mass, where a test says so
small_or_none : (m : ℤ) → nat_abs m < mass_limit → (t : Bool) → nat_abs (cond t m (pos 0)) ≤ mass_limit
small_or_none m h true = omega arith
small_or_none m h false = omega arith

-- ---- one booking: a mass at position y
module _ {l : List ℤ} {n : ℕ} (held : EntriesKept l n) (y : ℕ) (in_range_lem : y < position_limit) (m : ℤ) where
  booked_at_lem : {v : ℤ} → v ≡ get_or l y (pos 0) +ℤ m → (x : ℕ) → get_or (set l y v) x (pos 0) ≡ get_or l x (pos 0) +ℤ cond (eqb y x) m (pos 0)
  booked_at_lem {v} e x = by (ℕ_discrete y x)
    where
      by : Dec (y ≡ x) → get_or (set l y v) x (pos 0) ≡ get_or l x (pos 0) +ℤ cond (eqb y x) m (pos 0)
      by (yes q) =
          ap (λ j. get_or (set l y v) j (pos 0)) (sym q) ∙ get_or-set_same l y v (pos 0) (rw held.whole in_range_lem) ∙ e
          ∙ ap (λ j. get_or l j (pos 0) +ℤ m) q
          ∙ ap (λ t. get_or l x (pos 0) +ℤ cond t m (pos 0)) (sym (eq-eqb y x q))
      by (no q) =
          get_or-set_other l y x v (pos 0) (λ z. q (sym z)) ∙ sym (+ℤ_idr (get_or l x (pos 0)))
          ∙ ap (λ t. get_or l x (pos 0) +ℤ cond t m (pos 0)) (sym (ne_eqb y x q))

  pub held_booked : {v : ℤ} → nat_abs m < mass_limit → v ≡ get_or l y (pos 0) +ℤ m → EntriesKept (set l y v) (n + 1)
  held_booked {v} h e =
      record {
        whole = length-set l y v ∙ held.whole;
        small =
            λ x r.
            rw (booked_at_lem e x)
            (omega (arith, abs_add (get_or l x (pos 0)) (cond (eqb y x) m (pos 0)), held.small x r, small_or_none m h (eqb y x)));
      }

-- ---- where bracket k is booked: of a declared modification where it reaches, of any other that is placed at its own position
module _ (t : Tables) (b : Bracket (Unit {0})) {d : Bool} (declared : d ≡ is_declared b.kind && is_modification b) (x : ℕ) where
  pub booked_reached : d ≡ true → booked_at t x b ≡ cond (member x (reached t b)) (mass_or0 b) (pos 0)
  unfolding booked_at placed_on
  booked_reached y =
      let both : (is_declared b.kind && is_modification b) ≡ true = sym declared ∙ y in
      rw (and_right (is_declared b.kind) (is_modification b) both, and_left (is_declared b.kind) (is_modification b) both)

  placed_here : d ≡ false → member x (placed_on t b) ≡ is_placed b && eqb x b.first
  placed_here n = placed_on_lem t b x ∙ pick_false _ (member x (reached t b)) (is_placed b && eqb x b.first) (sym declared ∙ n)

  module _ {p : Bool} (placed : p ≡ is_placed b) (other : d ≡ false) where
    pub booked_own : {y : ℕ} → p ≡ true → y ≡ b.first → booked_at t x b ≡ cond (eqb y x) (mass_or0 b) (pos 0)
    unfolding booked_at is_placed
    booked_own {y} q e =
        pick_true (is_modification b) (cond (member x (placed_on t b)) (mass_or0 b) (pos 0)) (pos 0) is_one_lem
        ∙ ap (λ u. cond u (mass_or0 b) (pos 0)) (placed_here other ∙ ap (λ u. u && eqb x b.first) (sym placed ∙ q) ∙ ap (eqb x) (sym e) ∙ eqb_sym x y)
      where
        is_one_lem : is_modification b ≡ true
        is_one_lem = and_left (is_modification b) (not (is_labelled b)) (and_left (is_modification b && not (is_labelled b)) (on_one_position b.kind) (sym placed ∙ q))

    pub booked_nowhere : p ≡ false → booked_at t x b ≡ pos 0
    booked_nowhere q = not_booked t x b (placed_here other ∙ ap (λ u. u && eqb x b.first) (sym placed ∙ q))

-- ---- a mass at the positions that bracket k names, one after the other: of those before x, each that is named has it
pub record BookingNamed (bs : List ℕ) (k end : ℕ) (m : ℤ) (x : ℕ) (l₀ l : List ℤ) : Type 0 where
  pub end_is : end ≡ residues_field bs + 2
  pub can : CanBookNamed bs k l₀ m
  pub inside : x ≤ end
  pub whole : length l ≡ position_limit
  pub entry :
      (ns : List ℤ) (y : ℕ) → y < position_limit
      → get_or l y (pos 0) ≡ get_or l₀ y (pos 0) +ℤ cond (ltb y x && names (tables_in bs ns) (bracket_in bs ns k).places y) m (pos 0)

pub naming_start : {bs : List ℕ} {k n : ℕ} {m m' : ℤ} {l : List ℤ} → CanBookNamed bs k l m → m' ≡ m → n ≡ residues_field bs → BookingNamed bs k (n + 2) m' 0 l l
naming_start {bs} {k} {n} {m} {m'} {l} p read e =
    record {
      end_is = omega arith;
      can = subst (CanBookNamed bs k l) (sym read) p;
      inside = omega arith;
      whole = p.held.whole;
      entry =
          λ ns y h. sym (+ℤ_idr (get_or l y (pos 0)))
          ∙ ap (λ u. get_or l y (pos 0) +ℤ cond (u && names (tables_in bs ns) (bracket_in bs ns k).places y) m' (pos 0)) (sym (le-ltb y 0 (omega arith)));
    }

-- those before x, and x itself where it is named
named_too : (m : ℤ) (x y : ℕ) (u : Bool) → (y ≡ x → u ≡ true) → cond (ltb y x && u) m (pos 0) +ℤ cond (eqb x y) m (pos 0) ≡ cond (ltb y (x + 1) && u) m (pos 0)
named_too m x y u h = by (ℕ_discrete x y)
  where
    by : Dec (x ≡ y) → cond (ltb y x && u) m (pos 0) +ℤ cond (eqb x y) m (pos 0) ≡ cond (ltb y (x + 1) && u) m (pos 0)
    by (yes e) = rw (le-ltb y x (omega arith), eq-eqb x y e, lt-ltb y (x + 1) (omega arith), h (sym e)) (+ℤ_idl m)
    by (no e) = rw (ne_eqb x y e, next_test x y (λ q. e (sym q))) (+ℤ_idr (cond (ltb y x && u) m (pos 0)))

module _ {bs : List ℕ} {k end : ℕ} {m : ℤ} {x : ℕ} {l₀ l : List ℤ} (s : BookingNamed bs k end m x l₀ l) where
  naming_held : EntriesKept l (k + 1)
  naming_held =
      record {
        whole = s.whole;
        small =
            λ y h.
            rw (s.entry [] y h)
            (omega (
              arith,
              abs_add (get_or l₀ y (pos 0)) (cond (ltb y x && names (tables_in bs []) (bracket_in bs [] k).places y) m (pos 0)),
              s.can.held.small y h,
              small_or_none m s.can.small (ltb y x && names (tables_in bs []) (bracket_in bs [] k).places y),
            ));
      }

  pub naming_low : x < end → x < position_limit
  naming_low h = omega (arith, s.end_is, s.can.few_residues)

  module _ {z : Bool} (h : x < end) (named : (ns : List ℤ) → z ≡ names (tables_in bs ns) (bracket_in bs ns k).places x) where
    pub naming_one : {l' : List ℤ} → z ≡ true → l' ≡ booked l x m → BookingNamed bs k end m (x + 1) l₀ l'
    naming_one {l'} t g =
        subst (BookingNamed bs k end m (x + 1) l₀) (sym (g ∙ ap (λ u. cond u (set l x (get_or l x (pos 0) +ℤ m)) l) (lt-ltb x position_limit (naming_low h))))
        (record {
          end_is = s.end_is;
          can = s.can;
          inside = omega arith;
          whole = length-set l x (get_or l x (pos 0) +ℤ m) ∙ s.whole;
          entry =
              λ ns y r.
              booked_at_lem naming_held x (naming_low h) m refl y
              ∙ ap (λ w. w +ℤ cond (eqb x y) m (pos 0)) (s.entry ns y r)
              ∙ +ℤ_assoc (get_or l₀ y (pos 0)) (cond (ltb y x && names (tables_in bs ns) (bracket_in bs ns k).places y) m (pos 0)) (cond (eqb x y) m (pos 0))
              ∙ ap (λ w. get_or l₀ y (pos 0) +ℤ w)
              (named_too m x y (names (tables_in bs ns) (bracket_in bs ns k).places y)
              (λ e. ap (names (tables_in bs ns) (bracket_in bs ns k).places) e ∙ sym (named ns) ∙ t));
        })

    pub naming_none : z ≡ false → BookingNamed bs k end m (x + 1) l₀ l
    naming_none t =
        record {
          end_is = s.end_is;
          can = s.can;
          inside = omega arith;
          whole = s.whole;
          entry =
              λ ns y r. s.entry ns y r
              ∙ ap (λ u. get_or l₀ y (pos 0) +ℤ cond u m (pos 0))
              (sym
              (next_unnamed x y (names (tables_in bs ns) (bracket_in bs ns k).places y)
              (λ e. ap (names (tables_in bs ns) (bracket_in bs ns k).places) e ∙ sym (named ns) ∙ t)));
        }

  pub naming_end : {m' : ℤ} → end ≤ x → m ≡ m' → NamedBooked bs k l₀ l m'
  naming_end {m'} h read =
      subst (NamedBooked bs k l₀ l) read
      (record {
        held = naming_held;
        entry =
            λ ns y r. s.entry ns y r
            ∙ ap (λ u. get_or l₀ y (pos 0) +ℤ cond u m (pos 0))
            (ap (λ n. ltb y n && names (tables_in bs ns) (bracket_in bs ns k).places y) all ∙ sym (reached_in bs ns k y s.end_is));
      })
    where
      all : x ≡ end
      all = omega (arith, s.inside)

-- ---- bracket k, as it is placed
module _ {bs : List ℕ} {ns : List ℤ} {k : ℕ} {l : List ℤ} (p : CanPlace bs ns k l) where
  pub placing_first : {y : ℕ} → y ≡ first_field bs k → y < position_limit
  placing_first e = omega (arith, e, p.reach.bounds.few_residues, (p.reach.bounds.bracket k p.reach.inside).first)

  few_brackets_lem : k < bracket_limit
  few_brackets_lem = (reach_row p.reach).inside

  module _ {m m' : ℤ} (read : m' ≡ m) (mass : m ≡ mass_or0 (bracket_in bs ns k)) where
    small_mass : nat_abs m' < mass_limit
    small_mass = rw (read, mass) (mass_small p.reach)

    pub placing_named : CanBookNamed bs k l m'
    placing_named = record { row = reach_row p.reach; few_residues = p.reach.bounds.few_residues; held = p.held; small = small_mass }

    pub placing_fits : {y : ℕ} → CanBook l y m'
    placing_fits {y} h = omega (arith, p.held.small y h, small_mass, few_brackets_lem)

    module _ {d : Bool} (declared : d ≡ is_declared (bracket_in bs ns k).kind && is_modification (bracket_in bs ns k)) where
      pub placed_reached : {l' : List ℤ} → d ≡ true → NamedBooked bs k l l' m' → BracketPlaced bs ns k l l'
      placed_reached t n =
          record {
            held = n.held;
            entry =
                λ x h. n.entry ns x h
                ∙ ap (λ z. get_or l x (pos 0) +ℤ z)
                (ap (λ z. cond (member x (reached (tables_in bs ns) (bracket_in bs ns k))) z (pos 0)) (read ∙ mass) ∙ sym (booked_reached (tables_in bs ns) (bracket_in bs ns k) declared x t));
          }

      pub placed_own : {l' : List ℤ} {q : Bool} {y : ℕ} → d ≡ false → q ≡ is_placed (bracket_in bs ns k) → q ≡ true → y ≡ first_field bs k → y ≡ (bracket_in bs ns k).first → l' ≡ booked l y m' → BracketPlaced bs ns k l l'
      placed_own {l'} {q} {y} t placed is first own g =
          subst (BracketPlaced bs ns k l) (sym (g ∙ ap (λ u. cond u (set l y (get_or l y (pos 0) +ℤ m')) l) (lt-ltb y position_limit (placing_first first))))
          (record {
            held = held_booked p.held y (placing_first first) m' small_mass refl;
            entry =
                λ x h. booked_at_lem p.held y (placing_first first) m' refl x
                ∙ ap (λ z. get_or l x (pos 0) +ℤ z)
                (ap (λ z. cond (eqb y x) z (pos 0)) (read ∙ mass) ∙ sym (booked_own (tables_in bs ns) (bracket_in bs ns k) declared x placed t is own));
          })

  pub placed_nowhere : {d q : Bool} → d ≡ is_declared (bracket_in bs ns k).kind && is_modification (bracket_in bs ns k) → d ≡ false → q ≡ is_placed (bracket_in bs ns k) → q ≡ false → BracketPlaced bs ns k l l
  placed_nowhere declared t placed is_not =
      record {
        held = record { whole = p.held.whole; small = λ x h. omega (arith, p.held.small x h) };
        entry =
            λ x h. sym (+ℤ_idr (get_or l x (pos 0)))
            ∙ ap (λ z. get_or l x (pos 0) +ℤ z) (sym (booked_nowhere (tables_in bs ns) (bracket_in bs ns k) declared x placed t is_not));
      }

-- what brackets add to the entry of position x
abbrev bookings : Tables → ℕ → List (Bracket (Unit {0})) → ℤ
bookings t x ks = sum (map (booked_at t x) ks)

-- those of the brackets before k are booked
pub record BookingPlaced (bs : List ℕ) (ns : List ℤ) (n k : ℕ) (l : List ℤ) : Type 0 where
  pub bounds : Bounds bs ns
  pub many : n ≡ brackets_field bs
  pub inside : k ≤ n
  pub held : EntriesKept l k
  pub entry : (x : ℕ) → x < position_limit → placed_at (tables_in bs ns) x ≡ get_or l x (pos 0) +ℤ bookings (tables_in bs ns) x (tabled (bracket_in bs ns) k (n - k))

pub placing_start : {bs : List ℕ} {ns : List ℤ} {n : ℕ} → Bounds bs ns → n ≡ brackets_field bs → BookingPlaced bs ns n 0 (replicate position_limit (pos 0))
unfolding tables_in
placing_start {bs} {ns} {n} b e =
    record {
      bounds = b;
      many = e;
      inside = omega arith;
      held = record { whole = refl; small = λ x h. rw (get_or-replicate position_limit x (pos 0) (pos 0) h) (omega arith) };
      entry =
          λ x h. placed_is (tables_in bs ns) x ∙ ap (λ m. bookings (tables_in bs ns) x (tabled (bracket_in bs ns) 0 m)) (sym e) ∙ ap (bookings (tables_in bs ns) x) (tabled_all (bracket_in bs ns) n)
          ∙ sym (+ℤ_idl (bookings (tables_in bs ns) x (tabled (bracket_in bs ns) 0 (n - 0))))
          ∙ ap (λ z. z +ℤ bookings (tables_in bs ns) x (tabled (bracket_in bs ns) 0 (n - 0))) (sym (get_or-replicate position_limit x (pos 0) (pos 0) h));
    }

module _ {bs : List ℕ} {ns : List ℤ} {n k : ℕ} {l : List ℤ} (i : BookingPlaced bs ns n k l) where
  placing_few : n ≤ bracket_limit
  placing_few = omega (arith, i.many, i.bounds.few_brackets_lem)

  pub placing_next : {l' : List ℤ} → k < n → BracketPlaced bs ns k l l' → BookingPlaced bs ns n (k + 1) l'
  unfolding sum
  placing_next {l'} h p =
      record {
        bounds = i.bounds;
        many = i.many;
        inside = omega arith;
        held = p.held;
        entry =
            λ x q.
            i.entry x q
            ∙ ap (λ ks. get_or l x (pos 0) +ℤ bookings (tables_in bs ns) x ks) (tabled_at (bracket_in bs ns) k n h)
            ∙ sym (+ℤ_assoc (get_or l x (pos 0)) (booked_at (tables_in bs ns) x (bracket_in bs ns k)) (bookings (tables_in bs ns) x (tabled (bracket_in bs ns) (k + 1) (n - (k + 1)))))
            ∙ ap (λ z. z +ℤ bookings (tables_in bs ns) x (tabled (bracket_in bs ns) (k + 1) (n - (k + 1)))) (sym (p.entry x q));
      }

  pub placing_end : n ≤ k → PlacedBooked bs ns l
  unfolding sum
  placing_end h =
      record {
        held =
            record {
              whole = i.held.whole;
              small = λ x q. omega (arith, i.held.small x q, i.inside, placing_few);
            };
        entry = λ x q. sym (i.entry x q ∙ ap (λ z. get_or l x (pos 0) +ℤ bookings (tables_in bs ns) x z) (tabled_end (bracket_in bs ns) k n h) ∙ +ℤ_idr (get_or l x (pos 0)));
      }

-- ---- the floating copies
put_nowhere : (x : ℕ) (fs : List (Bracket (Unit {0}))) → put_at x fs [] ≡ pos 0
unfolding put_at
put_nowhere x [] = refl
put_nowhere x (b ∷ fs) = refl

-- of c copies, those for entries i to j - 1 of the placement are booked
pub record Putting (l₀ : List ℤ) (at : List ℕ) (i c : ℕ) (m : ℤ) (end j : ℕ) (l : List ℤ) : Type 0 where
  pub long : length at ≡ copy_limit
  pub end_is : end ≡ min (i + c) copy_limit
  pub small : Small m
  pub from : i ≤ j
  pub inside : j ≤ end
  pub held : EntriesKept l (bracket_limit + j)
  pub entry :
      (b : Bracket (Unit {0})) → mass_or0 b ≡ m → (fs : List (Bracket (Unit {0}))) (x : ℕ) → x < position_limit
      → get_or l₀ x (pos 0) +ℤ put_at x (replicate c b ++ fs) (drop i at) ≡ get_or l x (pos 0) +ℤ put_at x (replicate (c - (j - i)) b ++ fs) (drop j at)

pub putting_start : {l : List ℤ} {at : List ℕ} {i c : ℕ} {m m' : ℤ} {end : ℕ} → length at ≡ copy_limit → CanPut l i c m → m' ≡ m → end ≡ min (i + c) copy_limit → Putting l at i c m' end i l
putting_start {l} {at} {i} {c} long p read e =
    record {
      long = long;
      end_is = e;
      small = rw read p.small;
      from = omega arith;
      inside = omega (arith, e, p.few);
      held = p.held;
      entry = λ b q fs x r. ap (λ n. get_or l x (pos 0) +ℤ put_at x (replicate n b ++ fs) (drop i at)) (all_left c i);
    }
  where
    all_left : (c i : ℕ) → c ≡ c - (i - i)
    all_left c i = omega arith

module _ {l₀ : List ℤ} {at : List ℕ} {i c : ℕ} {m : ℤ} {end j : ℕ} {l : List ℤ} (s : Putting l₀ at i c m end j l) where
  pub putting_few : j < end → j < copy_limit
  putting_few h = omega (arith, s.end_is)

  one_less : j < end → c - (j - i) ≡ suc (c - (j + 1 - i))
  one_less h = omega (arith, s.end_is, s.from)

  copy_first : {n n' : ℕ} (b : Bracket (Unit {0})) (fs : List (Bracket (Unit {0}))) → n ≡ suc n' → replicate n b ++ fs ≡ b ∷ (replicate n' b ++ fs)
  copy_first b fs e = rw e

  entry_first : j < end → drop j at ≡ get_or at j 0 ∷ drop (j + 1) at
  entry_first h = drop-cons at j 0 (rw s.long (putting_few h)) ∙ ap (λ n. get_or at j 0 ∷ drop n at) (sym (add-one j))

  -- what is left to put on x once entry j is booked
  abbrev left : Bracket (Unit {0}) → List (Bracket (Unit {0})) → ℕ → ℤ
  left b fs x = put_at x (replicate (c - (j + 1 - i)) b ++ fs) (drop (j + 1) at)

  turn : {y : ℕ} → j < end → y ≡ get_or at j 0 → (b : Bracket (Unit {0})) → mass_or0 b ≡ m → (fs : List (Bracket (Unit {0}))) (x : ℕ) → x < position_limit
      → get_or l₀ x (pos 0) +ℤ put_at x (replicate c b ++ fs) (drop i at) ≡ get_or l x (pos 0) +ℤ (share y m x +ℤ left b fs x)
  turn {y} h e b q fs x p =
      s.entry b q fs x p
      ∙ ap (λ z. get_or l x (pos 0) +ℤ z)
      (ap (λ ks. put_at x ks (drop j at)) (copy_first b fs (one_less h)) ∙ ap (put_at x (b ∷ (replicate (c - (j + 1 - i)) b ++ fs))) (entry_first h)
      ∙ put_cons x b (replicate (c - (j + 1 - i)) b ++ fs) (get_or at j 0) (drop (j + 1) at)
      ∙ ap₂ (λ n z. share n z x +ℤ left b fs x) (sym e) q)

  pub putting_next : {y : ℕ} {v : ℤ} → j < end → y ≡ get_or at j 0 → y < position_limit → v ≡ get_or l y (pos 0) +ℤ m → Putting l₀ at i c m end (j + 1) (set l y v)
  putting_next {y} {v} h e r g =
      record {
        long = s.long;
        end_is = s.end_is;
        small = s.small;
        from = omega (arith, s.from);
        inside = omega arith;
        held = subst (EntriesKept (set l y v)) (more j) (held_booked s.held y r m s.small g);
        entry = λ b q fs x p.
            turn h e b q fs x p ∙ sym (+ℤ_assoc (get_or l x (pos 0)) (share y m x) (left b fs x))
            ∙ ap (λ z. z +ℤ left b fs x) (sym (booked_at_lem s.held y r m g x));
      }
    where
      more : (j : ℕ) → bracket_limit + j + 1 ≡ bracket_limit + (j + 1)
      more j = omega arith

  -- a position that the ledger does not have
  putting_past : {y : ℕ} → j < end → y ≡ get_or at j 0 → position_limit ≤ y → Putting l₀ at i c m end (j + 1) l
  putting_past {y} h e r =
      record {
        long = s.long;
        end_is = s.end_is;
        small = s.small;
        from = omega (arith, s.from);
        inside = omega arith;
        held = record { whole = s.held.whole; small = λ x p. omega (arith, s.held.small x p) };
        entry = λ b q fs x p.
            turn h e b q fs x p
            ∙ ap (λ z. get_or l x (pos 0) +ℤ z) (ap (λ z. z +ℤ left b fs x) (share_else y m x (λ z. omega arith)) ∙ +ℤ_idl (left b fs x));
      }

  pub putting_again : {y : ℕ} {l' : List ℤ} → j < end → y ≡ get_or at j 0 → l' ≡ booked l y m → Putting l₀ at i c m end (j + 1) l'
  putting_again {y} {l'} h e g =
      by_test (ltb y position_limit)
      (λ t. subst (Putting l₀ at i c m end (j + 1)) (sym (g ∙ ap (λ u. cond u (set l y (get_or l y (pos 0) +ℤ m)) l) t)) (putting_next h e (ltb-true y position_limit t) refl))
      (λ t. subst (Putting l₀ at i c m end (j + 1)) (sym (g ∙ ap (λ u. cond u (set l y (get_or l y (pos 0) +ℤ m)) l) t)) (putting_past h e (ltb-false y position_limit t)))

  -- none is left, or no entry is
  none_left : end ≤ j → (b : Bracket (Unit {0})) (fs : List (Bracket (Unit {0}))) (x : ℕ) → put_at x (replicate (c - (j - i)) b ++ fs) (drop j at) ≡ put_at x fs (drop end at)
  none_left h b fs x = by (ℕ_discrete (c - (j - i)) 0)
    where
      same : j ≡ end
      same = omega (arith, s.inside)

      by : Dec (c - (j - i) ≡ 0) → put_at x (replicate (c - (j - i)) b ++ fs) (drop j at) ≡ put_at x fs (drop end at)
      by (yes z) = ap (λ n. put_at x (replicate n b ++ fs) (drop j at)) z ∙ ap (λ n. put_at x fs (drop n at)) same
      by (no z) =
          let last : length at ≤ j = rw s.long (omega (arith, s.end_is, s.from)) in
          let past : length at ≤ end = rw (← same) last in
          ap (put_at x (replicate (c - (j - i)) b ++ fs)) (drop_of_length-le at last) ∙ put_nowhere x (replicate (c - (j - i)) b ++ fs)
          ∙ sym (put_nowhere x fs) ∙ ap (put_at x fs) (sym (drop_of_length-le at past))

  pub putting_end : {m' : ℤ} → end ≤ j → m ≡ m' → CopiesPut l₀ l at i c m' end
  putting_end h read =
      record {
        held = subst (λ n. EntriesKept l (bracket_limit + n)) same s.held;
        few = omega (arith, s.end_is);
        entry = λ b q fs x p. s.entry b (q ∙ sym read) fs x p ∙ ap (λ z. get_or l x (pos 0) +ℤ z) (none_left h b fs x);
      }
    where
      same : j ≡ end
      same = omega (arith, s.inside)

-- ---- the copies of bracket k
few_unlabelled : (k : Kind) (n : ℕ) → n ≤ count_limit → unlabelled_copies k n ≤ count_limit
few_unlabelled k n h = branch (λ c. c ≤ count_limit) (is_unknown k) h (branch (λ c. c ≤ count_limit) (is_on_range k) (omega arith) (omega arith))

few_by : (t u : Bool) (k : Kind) (n : ℕ) → n ≤ count_limit → cond t (cond u 1 (unlabelled_copies k n)) 0 ≤ count_limit
few_by true true k n h = omega arith
few_by true false k n h = few_unlabelled k n h
few_by false u k n h = omega arith

few_floating : {bs : List ℕ} {ns : List ℤ} {k : ℕ} → Reach bs ns k → copies (bracket_in bs ns k) ≤ count_limit
unfolding copies
few_floating {bs} {ns} {k} r =
    few_by (is_modification (bracket_in bs ns k)) (is_labelled (bracket_in bs ns k)) (bracket_in bs ns k).kind (bracket_in bs ns k).count (few_copies r)

module _ {bs : List ℕ} {ns : List ℤ} {k i : ℕ} {l : List ℤ} (p : CanFloat bs ns k l i) where
  pub float_asks : {c : ℕ} {m m' : ℤ} → c ≡ copies (bracket_in bs ns k) → m ≡ mass_or0 (bracket_in bs ns k) → m' ≡ m → CanPut l i c m'
  float_asks e f read =
      record {
        held = p.held;
        few = p.few;
        count = rw e (few_floating p.reach);
        small = rw (read, f) (mass_small p.reach);
      }

-- ---- the copies of all brackets: those of the brackets before k are put, i in number
abbrev floating : List (Bracket (Unit {0})) → List (Bracket (Unit {0}))
floating ks = flat (λ k. replicate (copies k) k) ks

floating_cons : (b : Bracket (Unit {0})) (ks : List (Bracket (Unit {0}))) → floating (b ∷ ks) ≡ replicate (copies b) b ++ floating ks
unfolding flat
floating_cons b ks = refl

pub record BookingFloaters (bs : List ℕ) (ns : List ℤ) (at : List ℕ) (n k : ℕ) (l : List ℤ) (i : ℕ) : Type 0 where
  pub bounds : Bounds bs ns
  pub many : n ≡ brackets_field bs
  pub inside : k ≤ n
  pub held : EntriesKept l (bracket_limit + i)
  pub few : i ≤ copy_limit
  pub entry :
      (x : ℕ) → x < position_limit
      → placed_at (tables_in bs ns) x +ℤ put_at x (floaters (tables_in bs ns)) at ≡ get_or l x (pos 0) +ℤ put_at x (floating (tabled (bracket_in bs ns) k (n - k))) (drop i at)

pub floating_start : {bs : List ℕ} {ns : List ℤ} {at : List ℕ} {n : ℕ} {l : List ℤ} → Bounds bs ns → PlacedBooked bs ns l → n ≡ brackets_field bs → BookingFloaters bs ns at n 0 l 0
unfolding tables_in floaters
floating_start {bs} {ns} {at} {n} {l} b p e =
    record {
      bounds = b;
      many = e;
      inside = omega arith;
      held = p.held;
      few = omega arith;
      entry =
          λ x h. ap (λ z. z +ℤ put_at x (floating (tabled (bracket_in bs ns) 0 (brackets_field bs))) at) (sym (p.entry x h))
          ∙ ap (λ m. get_or l x (pos 0) +ℤ put_at x (floating (tabled (bracket_in bs ns) 0 m)) at) (sym e)
          ∙ ap (λ ks. get_or l x (pos 0) +ℤ put_at x (floating ks) at) (tabled_all (bracket_in bs ns) n);
    }

module _ {bs : List ℕ} {ns : List ℤ} {at : List ℕ} {n k : ℕ} {l : List ℤ} {i : ℕ} (s : BookingFloaters bs ns at n k l i) where
  pub floating_next : {l' : List ℤ} {r : ℕ} → k < n → CopiesPut l l' at i (copies (bracket_in bs ns k)) (mass_or0 (bracket_in bs ns k)) r → BookingFloaters bs ns at n (k + 1) l' r
  floating_next {l'} {r} h p =
      record {
        bounds = s.bounds;
        many = s.many;
        inside = omega arith;
        held = p.held;
        few = p.few;
        entry =
            λ x q.
            s.entry x q
            ∙ ap (λ ks. get_or l x (pos 0) +ℤ put_at x (floating ks) (drop i at)) (tabled_at (bracket_in bs ns) k n h)
            ∙ ap (λ ks. get_or l x (pos 0) +ℤ put_at x ks (drop i at)) (floating_cons (bracket_in bs ns k) (tabled (bracket_in bs ns) (k + 1) (n - (k + 1))))
            ∙ p.entry (bracket_in bs ns k) refl (floating (tabled (bracket_in bs ns) (k + 1) (n - (k + 1)))) x q;
      }

  entry_is : n ≤ k → (x : ℕ) → x < position_limit → get_or l x (pos 0) ≡ placed_at (tables_in bs ns) x +ℤ put_at x (floaters (tables_in bs ns)) at
  unfolding flat
  entry_is h x q =
      sym
      (s.entry x q ∙ ap (λ ks. get_or l x (pos 0) +ℤ put_at x (floating ks) (drop i at)) (tabled_end (bracket_in bs ns) k n h)
      ∙ ap (λ z. get_or l x (pos 0) +ℤ z) (put_none (Unit {0}) x (drop i at))
      ∙ +ℤ_idr (get_or l x (pos 0)))

  pub floating_end : n ≤ k → l ≡ ledger (tables_in bs ns) at
  unfolding ledger
  floating_end h =
      ext_get_or (pos 0) l (tabled sums 0 position_limit) (s.held.whole ∙ sym (length_tabled sums 0 position_limit))
      (λ x q. let r : x < position_limit = rw s.held.whole at q in entry_is h x r ∙ sym (get_d_tabled sums 0 position_limit x (pos 0) r ∙ ap sums (zero-add x)))
    where
      sums : ℕ → ℤ
      sums x = placed_at (tables_in bs ns) x +ℤ put_at x (floaters (tables_in bs ns)) at
