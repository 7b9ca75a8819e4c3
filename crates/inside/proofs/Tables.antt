-- The tables of parts, with the row of one part more, and with the label of the last.
use mathlib.Core.Path.{◌≡◌, refl, sym, ap, ◌∙◌}
use mathlib.Core.Bool.{Bool, true, false, cond, ◌&&◌, true≢false}
use mathlib.Core.List.{List, [], ◌∷◌, ◌++◌, map, append_assoc, append-nil, map-append}
use Prim.Native.Nat.{ℕ, ◌+◌, ◌*◌, ◌<◌, ◌≤◌}
use native.Mathlib.Omega.{arith}
use borrow.Author.Tests.{ltb-true, ltb-false}
use lib.Dec.{ltb}
use lib.IntN.{ℤ}
use lib.ListN.{length, take, set, length-append, length-set}
use lib.Seq.{sets, length-sets, length-take-le, take_all}
use Rattle.scope.specs.Limits.{part_limit}
use Rattle.scope.specs.Line.{Part}
use Rattle.scope.specs.Lists.{flat}
use Rattle.basics.specs.Choice.{by_test, pick_true, pick_false}
use Rattle.basics.specs.Lists.{flat_append, flat_snoc}
use Rattle.sheet.specs.Rows.{part_fields, part_note, mass_noted, parts_room, masses_room, PartsNoted}
use Rattle.sheet.specs.Fields.{label_at}
use Rattle.sheet.proofs.RowLaws.{put_behind, part_behind, label_put}
use Rattle.inside.specs.Says.{Opening, first_parts, Grows}
use Rattle.inside.proofs.Lists.{length_snoc, take_few, take_many}

-- what lies in the table of masses
abbrev masses_of : List (Part ℕ) → List ℤ
masses_of ps = map (λ p. mass_noted p.value) ps

-- none yet
pub grows_none : (o : Opening) → Grows o [] o.parts o.masses
unfolding flat
grows_none o =
    let e : (o.base + 0) * part_fields ≡ o.base * part_fields = omega arith in
    let f : o.base + 0 ≡ o.base = omega arith in
    record {
      rows = λ r. ap (λ n. take n o.parts) e ∙ sym (append-nil (take (o.base * part_fields) o.parts));
      masses_are = λ r. ap (λ n. take n o.masses) f ∙ sym (append-nil (take o.base o.masses));
      same_parts = λ r. refl;
      same_masses = λ r. refl;
      parts_long = refl;
      masses_long = refl;
    }

module _ (o : Opening) (ps : List (Part ℕ)) (parts : List ℕ) (masses : List ℤ) (g : Grows o ps parts masses) where
  -- there is no room
  no_room : (ps' : List (Part ℕ)) → o.room ≡ false → Grows o ps' parts masses
  no_room ps' e =
      record {
        rows = λ r. absurd (true≢false (sym r ∙ e));
        masses_are = λ r. absurd (true≢false (sym r ∙ e));
        same_parts = g.same_parts;
        same_masses = g.same_masses;
        parts_long = g.parts_long;
        masses_long = g.masses_long;
      }

  -- the parts that are noted are the same
  same_first : (ps' : List (Part ℕ)) → first_parts ps' ≡ first_parts ps → Grows o ps' parts masses
  same_first ps' e =
      record {
        rows = λ r. ap (λ z. take ((o.base + length z) * part_fields) parts) e ∙ g.rows r ∙ ap (λ z. take (o.base * part_fields) o.parts ++ flat part_note z) (sym e);
        masses_are = λ r. ap (λ z. take (o.base + length z) masses) e ∙ g.masses_are r ∙ ap (λ z. take o.base o.masses ++ masses_of z) (sym e);
        same_parts = g.same_parts;
        same_masses = g.same_masses;
        parts_long = g.parts_long;
        masses_long = g.masses_long;
      }

  -- the row of one more
  row_more : (q : Part ℕ) (m : ℕ) → m ≡ o.base + length ps → o.room ≡ true → length ps < part_limit → m < masses_room → parts_room ≤ length parts → masses_room ≤ length masses
      → Grows o (ps ++ (q ∷ [])) (sets parts (m * part_fields) (part_note q)) (set masses m (mass_noted q.value))
  row_more q m em r few fits parts_room_is masses_room_is =
      let all : first_parts ps ≡ ps = take_all part_limit ps (omega arith) in
      let more : first_parts (ps ++ (q ∷ [])) ≡ ps ++ (q ∷ []) = take_few part_limit ps q few in
      let long = length_snoc ps q in
      let e : (o.base + length (ps ++ (q ∷ []))) * part_fields ≡ (m + 1) * part_fields = omega arith in
      let f : o.base + length (ps ++ (q ∷ [])) ≡ m + 1 = omega arith in
      let rows_before : take (m * part_fields) parts ≡ take (o.base * part_fields) o.parts ++ flat part_note ps =
      ap (λ n. take (n * part_fields) parts) (em ∙ ap (λ z. o.base + length z) (sym all)) ∙ g.rows r ∙ ap (λ z. take (o.base * part_fields) o.parts ++ flat part_note z) all in
      let masses-before : take m masses ≡ take o.base o.masses ++ masses_of ps =
      ap (λ n. take n masses) (em ∙ ap (λ z. o.base + length z) (sym all)) ∙ g.masses_are r ∙ ap (λ z. take o.base o.masses ++ masses_of z) all in
      record {
        rows = λ z.
            ap (λ x. take ((o.base + length x) * part_fields) (sets parts (m * part_fields) (part_note q))) more
            ∙ ap (λ n. take n (sets parts (m * part_fields) (part_note q))) e
            ∙ part_behind parts m (take (o.base * part_fields) o.parts ++ flat part_note ps) (part_note q) rows_before refl (omega arith)
            ∙ append_assoc (take (o.base * part_fields) o.parts) (flat part_note ps) (part_note q)
            ∙ ap (λ x. take (o.base * part_fields) o.parts ++ x) (sym (flat_snoc part_note ps q) ∙ ap (flat part_note) (sym more));
        masses_are = λ z.
            ap (λ x. take (o.base + length x) (set masses m (mass_noted q.value))) more
            ∙ ap (λ n. take n (set masses m (mass_noted q.value))) f
            ∙ put_behind masses m (mass_noted q.value ∷ []) (m + 1) refl (omega arith)
            ∙ ap (λ x. x ++ (mass_noted q.value ∷ [])) masses-before
            ∙ append_assoc (take o.base o.masses) (masses_of ps) (mass_noted q.value ∷ [])
            ∙ ap (λ x. take o.base o.masses ++ x) (sym (map-append (λ p. mass_noted p.value) ps (q ∷ [])) ∙ ap masses_of (sym more));
        same_parts = λ z. absurd (true≢false (sym r ∙ z));
        same_masses = λ z. absurd (true≢false (sym r ∙ z));
        parts_long = length-sets parts (m * part_fields) (part_note q) ∙ g.parts_long;
        masses_long = length-set masses m (mass_noted q.value) ∙ g.masses_long;
      }

  -- one part more, stored where there is room for it
  pub part_stored : (q : Part ℕ) (stored : Bool) (m : ℕ) (row : List ℕ) (x : ℤ) (parts' : List ℕ) (masses' : List ℤ)
      → stored ≡ (o.room && ltb (length ps) part_limit) → m ≡ o.base + length ps → (stored ≡ true → m < masses_room) → parts_room ≤ length parts → masses_room ≤ length masses
      → row ≡ part_note q → x ≡ mass_noted q.value → parts' ≡ cond stored (sets parts (m * part_fields) row) parts → masses' ≡ cond stored (set masses m x) masses
      → Grows o (ps ++ (q ∷ [])) parts' masses'
  part_stored q stored m row x parts' masses' es em fits pr mr er ex ep en =
      by_test o.room
      (λ r. by_test (ltb (length ps) part_limit)
      (λ t. let yes-stored : stored ≡ true = es ∙ rw (r, t) in
      rw (ep ∙ pick_true stored (sets parts (m * part_fields) row) parts yes-stored ∙ ap (sets parts (m * part_fields)) er, en ∙ pick_true stored (set masses m x) masses yes-stored ∙ ap (set masses m) ex)
      (row_more q m em r (ltb-true (length ps) part_limit t) (fits yes-stored) pr mr))
      (λ t. let not-stored : stored ≡ false = es ∙ rw (r, t) in
      rw (ep ∙ pick_false stored (sets parts (m * part_fields) row) parts not-stored, en ∙ pick_false stored (set masses m x) masses not-stored)
      (same_first (ps ++ (q ∷ [])) (take_many part_limit ps q (ltb-false (length ps) part_limit t)))))
      (λ r. let not-stored : stored ≡ false = es ∙ rw r in
      rw (ep ∙ pick_false stored (sets parts (m * part_fields) row) parts not-stored, en ∙ pick_false stored (set masses m x) masses not-stored)
      (no_room (ps ++ (q ∷ [])) r))

-- the last part has a label: only the last two numbers of its row change
module _ (o : Opening) (ps : List (Part ℕ)) (q q' : Part ℕ) (parts : List ℕ) (masses : List ℤ) (g : Grows o (ps ++ (q ∷ [])) parts masses)
    (a b c d e f h x y : ℕ) (eq : part_note q ≡ a ∷ b ∷ c ∷ d ∷ e ∷ f ∷ h ∷ []) (eq' : part_note q' ≡ a ∷ b ∷ c ∷ d ∷ e ∷ x ∷ y ∷ [])
    (em : mass_noted q.value ≡ mass_noted q'.value) where
  row_named : (m : ℕ) → m ≡ o.base + length ps → o.room ≡ true → length ps < part_limit → m < masses_room → parts_room ≤ length parts
      → Grows o (ps ++ (q' ∷ [])) (sets parts (label_at m) (x ∷ y ∷ [])) masses
  row_named m en r few fits parts_room_is =
      let long = length_snoc ps q in
      let long' = length_snoc ps q' in
      let all : first_parts (ps ++ (q ∷ [])) ≡ ps ++ (q ∷ []) = take_few part_limit ps q few in
      let all' : first_parts (ps ++ (q' ∷ [])) ≡ ps ++ (q' ∷ []) = take_few part_limit ps q' few in
      let front = take (o.base * part_fields) o.parts ++ flat part_note ps in
      let k : (o.base + length (ps ++ (q ∷ []))) * part_fields ≡ (m + 1) * part_fields = omega arith in
      let k' : (o.base + length (ps ++ (q' ∷ []))) * part_fields ≡ (m + 1) * part_fields = omega arith in
      let j : o.base + length (ps ++ (q ∷ [])) ≡ o.base + length (ps ++ (q' ∷ [])) = omega arith in
      let row : take ((m + 1) * part_fields) parts ≡ front ++ (a ∷ b ∷ c ∷ d ∷ e ∷ f ∷ h ∷ []) =
      sym (ap (λ n. take n parts) k)
      ∙ sym (ap (λ z. take ((o.base + length z) * part_fields) parts) all)
      ∙ g.rows r
      ∙ ap (λ z. take (o.base * part_fields) o.parts ++ flat part_note z) all
      ∙ ap (λ z. take (o.base * part_fields) o.parts ++ z) (flat_snoc part_note ps q ∙ ap (λ z. flat part_note ps ++ z) eq)
      ∙ sym (append_assoc (take (o.base * part_fields) o.parts) (flat part_note ps) (a ∷ b ∷ c ∷ d ∷ e ∷ f ∷ h ∷ [])) in
      let front_long : length front ≡ m * part_fields =
      let u = ap length row in
      let v = length-append front (a ∷ b ∷ c ∷ d ∷ e ∷ f ∷ h ∷ []) in
      let w = length-take-le ((m + 1) * part_fields) parts (omega arith) in
      omega arith in
      record {
        rows = λ z.
            ap (λ t. take ((o.base + length t) * part_fields) (sets parts (label_at m) (x ∷ y ∷ []))) all'
            ∙ ap (λ n. take n (sets parts (label_at m) (x ∷ y ∷ []))) k'
            ∙ label_put parts m front a b c d e f h x y row front_long
            ∙ append_assoc (take (o.base * part_fields) o.parts) (flat part_note ps) (a ∷ b ∷ c ∷ d ∷ e ∷ x ∷ y ∷ [])
            ∙ ap (λ t. take (o.base * part_fields) o.parts ++ t) (ap (λ t. flat part_note ps ++ t) (sym eq') ∙ sym (flat_snoc part_note ps q') ∙ ap (flat part_note) (sym all'));
        masses_are = λ z.
            ap (λ t. take (o.base + length t) masses) all'
            ∙ sym (ap (λ n. take n masses) j)
            ∙ sym (ap (λ t. take (o.base + length t) masses) all)
            ∙ g.masses_are r
            ∙ ap (λ t. take o.base o.masses ++ masses_of t) all
            ∙ ap (λ t. take o.base o.masses ++ t)
            (map-append (λ p. mass_noted p.value) ps (q ∷ []) ∙ ap (λ t. masses_of ps ++ (t ∷ [])) em ∙ sym (map-append (λ p. mass_noted p.value) ps (q' ∷ [])))
            ∙ ap (λ t. take o.base o.masses ++ masses_of t) (sym all');
        same_parts = λ z. absurd (true≢false (sym r ∙ z));
        same_masses = λ z. absurd (true≢false (sym r ∙ z));
        parts_long = length-sets parts (label_at m) (x ∷ y ∷ []) ∙ g.parts_long;
        masses_long = g.masses_long;
      }

  pub label_stored : (stored : Bool) (m : ℕ) (parts' : List ℕ) → stored ≡ (o.room && ltb (length ps) part_limit) → m ≡ o.base + length ps → (stored ≡ true → m < masses_room)
      → parts_room ≤ length parts → parts' ≡ cond stored (sets parts (label_at m) (x ∷ y ∷ [])) parts → Grows o (ps ++ (q' ∷ [])) parts' masses
  label_stored stored m parts' es en fits pr ep =
      by_test o.room
      (λ r. by_test (ltb (length ps) part_limit)
      (λ t. let yes-stored : stored ≡ true = es ∙ rw (r, t) in
      rw (ep ∙ pick_true stored (sets parts (label_at m) (x ∷ y ∷ [])) parts yes-stored) (row_named m en r (ltb-true (length ps) part_limit t) (fits yes-stored) pr))
      (λ t. let not-stored : stored ≡ false = es ∙ rw (r, t) in
      let many = ltb-false (length ps) part_limit t in
      rw (ep ∙ pick_false stored (sets parts (label_at m) (x ∷ y ∷ [])) parts not-stored)
      (same_first o (ps ++ (q ∷ [])) parts masses g (ps ++ (q' ∷ [])) (take_many part_limit ps q' many ∙ sym (take_many part_limit ps q many)))))
      (λ r. let not-stored : stored ≡ false = es ∙ rw r in
      rw (ep ∙ pick_false stored (sets parts (label_at m) (x ∷ y ∷ [])) parts not-stored) (no_room o (ps ++ (q ∷ [])) parts masses g (ps ++ (q' ∷ [])) r))

-- ---- the parts of all brackets
module _ (o : Opening) (ps qs : List (Part ℕ)) (parts : List ℕ) (masses : List ℤ) (g : Grows o qs parts masses) where
  -- with those of one bracket more
  pub noted_more : PartsNoted ps o.base o.parts o.masses → o.room ≡ true → PartsNoted (ps ++ first_parts qs) (o.base + length (first_parts qs)) parts masses
  noted_more n r =
      record {
        many = ap (λ m. m + length (first_parts qs)) n.many ∙ sym (length-append ps (first_parts qs));
        rows = g.rows r ∙ ap (λ l. l ++ flat part_note (first_parts qs)) n.rows ∙ sym (flat_append part_note ps (first_parts qs));
        masses_are = g.masses_are r ∙ ap (λ l. l ++ masses_of (first_parts qs)) n.masses_are ∙ sym (map-append (λ p. mass_noted p.value) ps (first_parts qs));
      }

  -- where there is no room for them
  pub noted_same : (m : ℕ) → PartsNoted ps m o.parts o.masses → o.room ≡ false → PartsNoted ps m parts masses
  noted_same m n r =
      record {
        many = n.many;
        rows = ap (take (m * part_fields)) (g.same_parts r) ∙ n.rows;
        masses_are = ap (take m) (g.same_masses r) ∙ n.masses_are;
      }
