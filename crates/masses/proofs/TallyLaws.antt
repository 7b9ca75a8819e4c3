-- Laws of the total: every mass is small, and a loop over the brackets adds up what the definition does. Assumes nothing.
use mathlib.Core.Path.{◌≡◌, sym, ap, ◌∙◌, subst}
use mathlib.Core.Bool.{Bool, true, false, cond}
use mathlib.Core.Option.{Option, none, some}
use mathlib.Core.List.{List, map}
use Prim.Native.Nat.{ℕ, ◌+◌, ◌-◌, ◌*◌, ◌^◌, ◌≤◌, ◌<◌}
use native.Mathlib.Nat.{add-zero, add_assoc, mul-le-mul}
use native.Mathlib.Omega.{arith}
use borrow.Author.Tests.{eq-eqb, ne_eqb}
use lib.IntN.{ℤ, pos, nat_abs, ◌+ℤ◌, ◌*ℤ◌, +ℤ_idl, +ℤ_idr, +ℤ_assoc}
use lib.ListN.{length}
use mir.Syntax.{w64}
use mir.Val.{to_z, of_z}
use Rattle.scope.specs.declared.grammar.Kind.{Kind}
use Rattle.scope.specs.Kinds.{is_declared}
use Rattle.scope.specs.Limits.{bracket_limit, count_limit, position_limit}
use Rattle.scope.specs.Line.{Bracket}
use Rattle.scope.specs.Lists.{given, tabled}
use Rattle.scope.specs.Modifications.{is_modification}
use Rattle.scope.specs.Positions.{reached, placed_on}
use Rattle.scope.specs.Tables.{Tables}
use Rattle.scope.specs.Layout.{bracket_in, tables_in, brackets_field}
use Rattle.scope.specs.Masses.{mass_of, stated, mass_or0, times, sum, sumℕ, total, lacking}
use Rattle.areas.specs.Bounds.{Small, Bounds}
use Rattle.basics.specs.Tabled.{tabled_at, tabled_end, tabled_all, residues_many}
use Rattle.basics.specs.Choice.{branch}
use Rattle.scope.specs.declared.answers.Mass.{Mass}
use Rattle.scope.specs.declared.answers.Mass.TheVariants.{Stated}
use Rattle.std.specs.Prelude.{Ok, Err}
use Rattle.masses.specs.Reach.{Reach}
use Rattle.masses.specs.Weights.{weight_of}
use Rattle.mass_laws.specs.Terms.{mass_limit}
use Rattle.mass_laws.specs.Placed.{placed_few}
use Rattle.mass_laws.specs.Weights.{weight, total_is, lack, lacking_is}
use Rattle.masses.specs.Tallies.{TalliedBefore, CanTally, Tallied}
use Rattle.masses.proofs.Whole.{back}
use Rattle.basics.specs.Wholes.{abs_add, abs_mul}
use Rattle.masses.proofs.PartLaws.{is_mass, reach_row}
use Rattle.mass_laws.proofs.Small.{small_mass}

module _ {bs : List ℕ} {ns : List ℤ} {k : ℕ} (r : Reach bs ns k) where
  pub mass_small : Small (mass_or0 (bracket_in bs ns k))
  mass_small = small_mass r.bounds r.inside

  pub few_copies : (bracket_in bs ns k).count ≤ count_limit
  unfolding bracket_in
  few_copies = (r.bounds.bracket k r.inside).few_counts

  pub few_times : times (tables_in bs ns) (bracket_in bs ns k) ≤ position_limit
  few_times =
      branch (λ n. n ≤ position_limit) (is_declared (bracket_in bs ns k).kind)
      (omega (arith, placed_few (tables_in bs ns) (bracket_in bs ns k), residues_many bs ns, r.bounds.few_residues)) (omega (arith, few_copies))

  weight_by : (t : Bool) → nat_abs (cond t (pos (times (tables_in bs ns) (bracket_in bs ns k)) *ℤ mass_or0 (bracket_in bs ns k)) (pos 0)) ≤ position_limit * mass_limit
  weight_by true =
      let small : nat_abs (mass_or0 (bracket_in bs ns k)) ≤ mass_limit = omega (arith, mass_small) in
      omega (arith, abs_mul (times (tables_in bs ns) (bracket_in bs ns k)) (mass_or0 (bracket_in bs ns k)), mul-le-mul few_times small)
  weight_by false = omega arith

  pub weight_small : nat_abs (weight (tables_in bs ns) (bracket_in bs ns k)) ≤ position_limit * mass_limit
  unfolding weight
  weight_small = weight_by (is_modification (bracket_in bs ns k))

  lack_by : (t : Bool) (o : Option ℤ) → cond t (given o (λ m. 0) (times (tables_in bs ns) (bracket_in bs ns k))) 0 ≤ position_limit
  lack_by true (some m) = omega arith
  lack_by true none = few_times
  lack_by false o = omega arith

  pub lack_few : lack (tables_in bs ns) (bracket_in bs ns k) ≤ position_limit
  unfolding lack
  lack_few = lack_by (is_modification (bracket_in bs ns k)) (stated (mass_of (bracket_in bs ns k)))

-- ---- how often a modification counts, by whether it is declared
module _ (bs : List ℕ) (k : ℕ) {d : Bool} {c : Kind} (kind : (ns : List ℤ) → c ≡ (bracket_in bs ns k).kind) (said : d ≡ is_declared c) where
  pub times_reached : {n : ℕ} → d ≡ true → ((ns : List ℤ) → n ≡ length (reached (tables_in bs ns) (bracket_in bs ns k))) → (ns : List ℤ) → is_modification (bracket_in bs ns k) ≡ true → n ≡ times (tables_in bs ns) (bracket_in bs ns k)
  unfolding placed_on
  times_reached t e ns m = rw (sym (said ∙ ap is_declared (kind ns)) ∙ t, m) (e ns)

  pub times_counted : {n : ℕ} → d ≡ false → ((ns : List ℤ) → n ≡ (bracket_in bs ns k).count) → (ns : List ℤ) → is_modification (bracket_in bs ns k) ≡ true → n ≡ times (tables_in bs ns) (bracket_in bs ns k)
  times_counted t e ns m = rw (sym (said ∙ ap is_declared (kind ns)) ∙ t) (e ns)

-- ---- one bracket more
module _ (t : Tables) (b : Bracket (Unit {0})) {is : Bool} (e : is ≡ is_modification b) where
  pub tallied_mass : {n lacks : ℕ} {o : Mass} {m p sum sum' : ℤ} → is ≡ true → n ≡ times t b → o ≡ mass_of b → o ≡ Stated m → p ≡ pos n *ℤ m → sum' ≡ sum +ℤ p → Tallied t b sum lacks sum' lacks
  unfolding weight lack
  tallied_mass {n} {lacks} {o} {m} {p} {sum} y c s i f g =
      record {
        sum_is =
            g ∙ ap (λ x. sum +ℤ x) (f ∙ ap (λ x. pos x *ℤ m) c ∙ ap (λ x. pos (times t b) *ℤ x) (is_mass b s i) ∙ ap (λ x. cond x (pos (times t b) *ℤ mass_or0 b) (pos 0)) (sym y ∙ e));
        lacks_is =
            sym (add-zero lacks)
            ∙ ap (λ x. lacks + x) (ap (λ x. given (stated x) (λ m. 0) (times t b)) (sym i ∙ s) ∙ ap (λ x. cond x (given (stated (mass_of b)) (λ m. 0) (times t b)) 0) (sym y ∙ e));
      }

  pub tallied_lack : {n lacks : ℕ} {sum : ℤ} → is ≡ true → n ≡ times t b → stated (mass_of b) ≡ none → Tallied t b sum lacks sum (lacks + n)
  unfolding weight lack
  tallied_lack {n} {lacks} {sum} y c s =
      record {
        sum_is =
            sym (+ℤ_idr sum)
            ∙ ap (λ x. sum +ℤ x) (times_none (times t b) ∙ ap (λ x. pos (times t b) *ℤ given x (λ m. m) (pos 0)) (sym s) ∙ ap (λ x. cond x (pos (times t b) *ℤ mass_or0 b) (pos 0)) (sym y ∙ e));
        lacks_is =
            ap (λ x. lacks + x) (c ∙ ap (λ x. given x (λ m. 0) (times t b)) (sym s) ∙ ap (λ x. cond x (given (stated (mass_of b)) (λ m. 0) (times t b)) 0) (sym y ∙ e));
      }
    where
      times_none : (n : ℕ) → pos 0 ≡ pos n *ℤ pos 0
      times_none n = ap pos (omega arith)

  pub tallied_none : {lacks : ℕ} {sum : ℤ} → is ≡ false → Tallied t b sum lacks sum lacks
  unfolding weight lack
  tallied_none {lacks} {sum} y =
      record {
        sum_is = sym (+ℤ_idr sum) ∙ ap (λ x. sum +ℤ cond x (pos (times t b) *ℤ mass_or0 b) (pos 0)) (sym y ∙ e);
        lacks_is = sym (add-zero lacks) ∙ ap (λ x. lacks + cond x (given (stated (mass_of b)) (λ m. 0) (times t b)) 0) (sym y ∙ e);
      }

-- the same, as the machine adds it: what it reads back from the bits of the sum, of the mass and of their product
module _ {bs : List ℕ} {ns : List ℤ} {k w : ℕ} {s : ℤ} (t : CanTally bs ns k s w) {n : ℕ} {o : Mass} {m m' : ℤ} (c : n ≡ times (tables_in bs ns) (bracket_in bs ns k)) (f : o ≡ mass_of (bracket_in bs ns k)) (q : o ≡ Stated m) (read : m' ≡ m) where
  mass_known : m' ≡ mass_or0 (bracket_in bs ns k)
  mass_known = read ∙ is_mass (bracket_in bs ns k) f q

  few_known : n ≤ position_limit
  few_known = rw c (few_times t.reach)

  small_known : nat_abs m' < mass_limit
  small_known = rw mass_known (mass_small t.reach)

  pub asks_times : (n ≤ position_limit) × Small m'
  asks_times = (few_known, small_known)

  product_small : nat_abs (pos n *ℤ m') ≤ position_limit * mass_limit
  product_small =
      let small : nat_abs m' ≤ mass_limit = omega (arith, small_known) in
      omega (arith, abs_mul n m', mul-le-mul few_known small)

  few_before : k < bracket_limit
  few_before = (reach_row t.reach).inside

  sum_back : to_z w64 (of_z w64 s) ≡ s
  sum_back = back s (omega (arith, few_before, t.before.small))

  product_back : {p : ℤ} → p ≡ pos n *ℤ m' → to_z w64 (of_z w64 p) ≡ pos n *ℤ m'
  product_back {p} e = rw e (back (pos n *ℤ m') (omega (arith, product_small)))

  pub asks_add : {p : ℤ} → p ≡ pos n *ℤ m' → nat_abs (to_z w64 (of_z w64 s)) + nat_abs (to_z w64 (of_z w64 p)) < 2 ^ 63
  asks_add {p} e = rw (sum_back, product_back e) (omega (arith, few_before, t.before.small, product_small))

  pub tallied_by_machine : {is : Bool} {p r r' : ℤ} → is ≡ is_modification (bracket_in bs ns k) → is ≡ true → p ≡ pos n *ℤ m' → r ≡ to_z w64 (of_z w64 s) +ℤ to_z w64 (of_z w64 p) → r' ≡ r → Tallied (tables_in bs ns) (bracket_in bs ns k) s w r' w
  tallied_by_machine {is} {p} e y g h i =
      tallied_mass (tables_in bs ns) (bracket_in bs ns k) e y c f q (product_back g ∙ ap (λ x. pos n *ℤ x) read) (i ∙ h ∙ ap (λ x. x +ℤ to_z w64 (of_z w64 p)) sum_back)

pub lacked_by_machine : {bs : List ℕ} {ns : List ℤ} {k w n : ℕ} {s : ℤ} {is : Bool} → CanTally bs ns k s w → is ≡ is_modification (bracket_in bs ns k) → is ≡ true → n ≡ times (tables_in bs ns) (bracket_in bs ns k) → stated (mass_of (bracket_in bs ns k)) ≡ none
    → Tallied (tables_in bs ns) (bracket_in bs ns k) s w (to_z w64 (of_z w64 s)) (w + n)
lacked_by_machine {bs} {ns} {k} {w} {n} {s} t e y c f =
    subst (λ x. Tallied (tables_in bs ns) (bracket_in bs ns k) s w x (w + n))
    (sym (back s (omega (arith, (reach_row t.reach).inside, t.before.small))))
    (tallied_lack (tables_in bs ns) (bracket_in bs ns k) e y c f)

-- ---- the total of the brackets from k on
abbrev weights : Tables → List (Bracket (Unit {0})) → ℤ
weights t ks = sum (map (weight t) ks)

abbrev lacks : Tables → List (Bracket (Unit {0})) → ℕ
lacks t ks = sumℕ (map (lack t) ks)

pub record Weighing (bs : List ℕ) (ns : List ℤ) (n k : ℕ) (s : ℤ) (w : ℕ) : Type 0 where
  pub bounds : Bounds bs ns
  pub many : n ≡ brackets_field bs
  pub inside : k ≤ n
  pub before : TalliedBefore k s w
  pub sum_is : total (tables_in bs ns) ≡ s +ℤ weights (tables_in bs ns) (tabled (bracket_in bs ns) k (n - k))
  pub lacks_is : lacking (tables_in bs ns) ≡ w + lacks (tables_in bs ns) (tabled (bracket_in bs ns) k (n - k))

pub weighing_start : {bs : List ℕ} {ns : List ℤ} {n : ℕ} → Bounds bs ns → n ≡ brackets_field bs → Weighing bs ns n 0 (pos 0) 0
unfolding tables_in
weighing_start {bs} {ns} {n} b e =
    record {
      bounds = b;
      many = e;
      inside = omega arith;
      before = record { small = omega arith; few = omega arith };
      sum_is =
          total_is (tables_in bs ns) ∙ ap (λ m. weights (tables_in bs ns) (tabled (bracket_in bs ns) 0 m)) (sym e) ∙ ap (weights (tables_in bs ns)) (tabled_all (bracket_in bs ns) n)
          ∙ sym (+ℤ_idl (weights (tables_in bs ns) (tabled (bracket_in bs ns) 0 (n - 0))));
      lacks_is =
          lacking_is (tables_in bs ns) ∙ ap (λ m. lacks (tables_in bs ns) (tabled (bracket_in bs ns) 0 m)) (sym e) ∙ ap (lacks (tables_in bs ns)) (tabled_all (bracket_in bs ns) n) ∙ from_0 (lacks (tables_in bs ns) (tabled (bracket_in bs ns) 0 (n - 0)));
    }
  where
    from_0 : (x : ℕ) → x ≡ 0 + x
    from_0 x = omega arith

module _ {bs : List ℕ} {ns : List ℤ} {n k : ℕ} {s : ℤ} {w : ℕ} (i : Weighing bs ns n k s w) where
  pub weighing_reach : k < n → Reach bs ns k
  weighing_reach h = record { bounds = i.bounds; inside = rw (← i.many) h }

  pub weighing_next : {s' : ℤ} {w' : ℕ} → k < n → Tallied (tables_in bs ns) (bracket_in bs ns k) s w s' w' → Weighing bs ns n (k + 1) s' w'
  unfolding sum sumℕ
  weighing_next {s'} {w'} h t =
      record {
        bounds = i.bounds;
        many = i.many;
        inside = omega arith;
        before =
            record {
              small = rw t.sum_is (omega (arith, abs_add s (weight (tables_in bs ns) (bracket_in bs ns k)), weight_small (weighing_reach h), i.before.small));
              few = rw t.lacks_is (omega (arith, lack_few (weighing_reach h), i.before.few));
            };
        sum_is =
            i.sum_is
            ∙ ap (λ l. s +ℤ weights (tables_in bs ns) l) (tabled_at (bracket_in bs ns) k n h)
            ∙ sym (+ℤ_assoc s (weight (tables_in bs ns) (bracket_in bs ns k)) (weights (tables_in bs ns) (tabled (bracket_in bs ns) (k + 1) (n - (k + 1)))))
            ∙ ap (λ x. x +ℤ weights (tables_in bs ns) (tabled (bracket_in bs ns) (k + 1) (n - (k + 1)))) (sym t.sum_is);
        lacks_is =
            i.lacks_is
            ∙ ap (λ l. w + lacks (tables_in bs ns) l) (tabled_at (bracket_in bs ns) k n h)
            ∙ sym (add_assoc w (lack (tables_in bs ns) (bracket_in bs ns k)) (lacks (tables_in bs ns) (tabled (bracket_in bs ns) (k + 1) (n - (k + 1)))))
            ∙ ap (λ x. x + lacks (tables_in bs ns) (tabled (bracket_in bs ns) (k + 1) (n - (k + 1)))) (sym t.lacks_is);
      }

  total_so : n ≤ k → total (tables_in bs ns) ≡ s
  unfolding sum
  total_so h = i.sum_is ∙ ap (λ l. s +ℤ weights (tables_in bs ns) l) (tabled_end (bracket_in bs ns) k n h) ∙ +ℤ_idr s

  lacking_so : n ≤ k → lacking (tables_in bs ns) ≡ w
  unfolding sumℕ
  lacking_so h = i.lacks_is ∙ ap (λ l. w + lacks (tables_in bs ns) l) (tabled_end (bracket_in bs ns) k n h) ∙ add-zero w

  sum_read : to_z w64 (of_z w64 s) ≡ s
  sum_read = back s (omega (arith, i.inside, i.many, i.bounds.few_brackets_lem, i.before.small))

  -- the machine reads the sum back from its bits
  pub weighing_total : n ≤ k → w ≡ 0 → Ok (to_z w64 (of_z w64 s)) ≡ weight_of (tables_in bs ns)
  unfolding weight_of
  weighing_total h z = ap Ok sum_read ∙ rw (lacking_so h, total_so h, eq-eqb w 0 z)

  pub weighing_lacks : n ≤ k → (w ≡ 0 → ⊥) → Err (record { count = w }) ≡ weight_of (tables_in bs ns)
  unfolding weight_of
  weighing_lacks h z = rw (lacking_so h, ne_eqb w 0 z)
