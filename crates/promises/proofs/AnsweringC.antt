-- Demand 1 over what a caller in C sees: every exported call has exactly one outcome of numbers and lent slices, and refuses only with its own numbers.
use Rattle.std.specs.Prelude.{◌≡◌, refl, List, [], ◌∷◌, ℕ, zero, suc, ◌≤◌, ltb, ℤ, Float, length, take}
use Rattle.std.proofs.Common.{sym, ap, ◌∙◌, subst, arith}
use Rattle.scope.specs.declared.answers.Listing.{Listing}
use Rattle.scope.specs.declared.answers.Site.{Site}
use Rattle.scope.specs.Limits.{copy_limit, position_limit}
use Rattle.scope.specs.Refusals.{outcome}
use Rattle.scope.specs.Canonical.{canonical}
use Rattle.scope.specs.Tables.{Tables}
use Rattle.scope.specs.Layout.{tables_in}
use Rattle.scope.specs.Answers.{Said, good, refuses, display_of, read_outcome, says_outcome, bytes_after, numbers_after, writes, output_after, counts, totals, shows, rows_said, rows_after, looks_up, requests, listing_after, moved_on}
use Rattle.export.specs.Numbers.{number_of, left, place_left, Judged, Exported}
use Rattle.export.specs.Handed.{Counted, RowsHanded, LookedUp, MovedOn}
use Rattle.export.specs.Shapes.{length_left, millionths_of, sort_of, mass_of, lack_of, Written, Totalled, Massed, Displayed, allows_lent, AllowedLent, books_lent, entries_after, ReadEntered as EnteredLent, FloatersHanded, why_lent, WhyHanded, ReachedHanded, PiecesHanded}
use Rattle.scope.specs.Glycans.{cuttings}
use Rattle.glycans.specs.Pieces.{pieces_of, pieces_said}
use Rattle.calls.specs.Single.{weighs_at}
use Rattle.scope.specs.Positions.{floaters_by, brackets_of, copies_of, floating_of}
use Rattle.scope.specs.Reasons.{Reason}
use Rattle.placement_laws.specs.Reasons.{one_reason}
use Rattle.placement_laws.specs.Answered.{some_reason}
use Rattle.calls.specs.Floating.{floaters_said}
use Rattle.calls.specs.Reaching.{reached_by, reached_said}
use Rattle.promises.specs.Promises.{line_numbers, Answered, Nothing, told, AnswersBlocksC, Demand1C}
use Rattle.basics.specs.Said.{not_both, same_number_lem}
use Rattle.promises.proofs.Answering as calls
use Rattle.promises.proofs.Readers as readers

-- ---- outcomes of numbers
pub pair2 : {A B : Type 0} {a c : A} {b d : B} → a ≡ c → b ≡ d → ◌≡◌ {A = A × B} (a, b) (c, d)
pair2 {c = c} {b = b} e f = ap (λ x. (x, b)) e ∙ ap (λ y. (c, y)) f

pub pair3 : {A B C : Type 0} {a d : A} {b e : B} {c f : C} → a ≡ d → b ≡ e → c ≡ f → ◌≡◌ {A = A × B × C} (a, b, c) (d, e, f)
pair3 {d = d} {b = b} {e = e} {c = c} p q r = ap (λ x. (x, b, c)) p ∙ ap (λ y. (d, y, c)) q ∙ ap (λ z. (d, e, z)) r

pub pair4 : {A B C D : Type 0} {a e : A} {b f : B} {c g : C} {d h : D} → a ≡ e → b ≡ f → c ≡ g → d ≡ h → ◌≡◌ {A = A × B × C × D} (a, b, c, d) (e, f, g, h)
pair4 {e = e} {b = b} {f = f} {c = c} {g = g} {d = d} p q r s =
    ap (λ x. (x, b, c, d)) p ∙ ap (λ x. (e, x, c, d)) q ∙ ap (λ x. (e, f, x, d)) r ∙ ap (λ x. (e, f, g, x)) s

-- a number that is no success is a refusal's
pub number_said : {A : Type 0} (s : Said A) (n : ℕ) → number_of s ≡ suc n → (p : ℕ) × (s ≡ refuses (suc n) p)
number_said (good x) n e = absurd (omega (arith, e))
number_said (refuses m q) n e = (q, ap (λ z. refuses z q) e)

told_refused : (k n p : ℕ) → told k ≡ refuses n p → (m : ℕ) × (k ≡ suc m) × (n ≡ suc m)
told_refused zero n p e = absurd (not_both e)
told_refused (suc m) n p e = (m, refl, sym (same_number_lem e))

-- an exported call whose number is that of what is said
pub in_c : {O A : Type 0} (Ensured Left : O → Type 0) (number : O → ℕ) (s : Said A) {numbers : List ℕ} (x : O) → Ensured x → ((o : O) → Ensured o → o ≡ x)
    → ((o : O) → Ensured o → number o ≡ number_of s) → calls.Among numbers s
    → ((o : O) → Ensured o → (n p : ℕ) → s ≡ refuses n p → Left o) → Answered Ensured (λ o. told (number o)) numbers Left
in_c {O} Ensured Left number s x e only is among left =
    record {
      exactly_one = record { outcome = x; ensured = e; only = only };
      only_refuses = λ o w.
          record {
            number = λ n p q. let z = said o w n p q in among.number n z.0 z.1;
            left = λ n p q. let z = said o w n p q in left o w n z.0 z.1;
          };
    }
  where
    said : (o : O) → Ensured o → (n p : ℕ) → told (number o) ≡ refuses n p → (q : ℕ) × (s ≡ refuses n q)
    said o w n p f =
        let z = told_refused (number o) n p f in
        let y = number_said s z.0 (sym (is o w) ∙ z.1) in
        (y.0, y.1 ∙ ap (λ k. refuses k y.0) (sym z.2))

-- ---- demand 1
verdict : (s : List ℕ) (place : ℕ) → Answered (λ (o : ℕ × ℕ). Judged s place o.0 o.1) (λ o. told o.0) line_numbers (λ o. o.1 ≤ length s)
verdict s place =
    let said = says_outcome (outcome s) in
    in_c (λ (o : ℕ × ℕ). Judged s place o.0 o.1) (λ o. o.1 ≤ length s) (λ o. o.0) said (number_of said, place_left said place) (record { number_is = refl; place_is = refl })
    (λ o w. pair2 w.number_is w.place_is) (λ o w. w.number_is)
    (readers.line_among s)
    (λ o w n p q. subst (λ k. k ≤ length s) (sym (w.place_is ∙ ap (λ z. place_left z place) q)) (readers.line_said s n p (readers.outcome_refused (outcome s) q)).inside)

read : (s bs : List ℕ) (ns : List ℤ) (place : ℕ)
    → Answered (λ (o : ℕ × ℕ × List ℕ × List ℤ). Exported s bs ns place o.0 o.1 o.2 o.3) (λ o. told o.0) (13 ∷ line_numbers)
    (λ o. (o.1 ≤ length s) × (o.2 ≡ bs) × (o.3 ≡ ns))
read s bs ns place =
    let o = read_outcome bs ns s in
    let said = says_outcome o in
    in_c (λ (o : ℕ × ℕ × List ℕ × List ℤ). Exported s bs ns place o.0 o.1 o.2 o.3) (λ o. (o.1 ≤ length s) × (o.2 ≡ bs) × (o.3 ≡ ns)) (λ o. o.0) said
    (number_of said, place_left said place, bytes_after o bs, numbers_after o ns)
    (record { numbered = record { number_is = refl; place_is = refl }; bytes_after_is = refl; numbers_after_is = refl })
    (λ o w. pair4 w.numbered.number_is w.numbered.place_is w.bytes_after_is w.numbers_after_is) (λ o w. w.numbered.number_is)
    (readers.read_among s bs ns)
    (λ x w n p q.
    let e = readers.outcome_refused (read_outcome bs ns s) q in (
      subst (λ k. k ≤ length s) (sym (w.numbered.place_is ∙ ap (λ z. place_left z place) q)) (readers.read_said s bs ns n p e).inside,
      w.bytes_after_is ∙ ap (λ z. bytes_after z bs) e,
      w.numbers_after_is ∙ ap (λ z. numbers_after z ns) e,
    ))

module _ (bs : List ℕ) (ns : List ℤ) where
  write : (out : List ℕ) (count : ℕ)
      → Answered (λ (o : ℕ × ℕ × List ℕ). Written bs ns out count o.0 o.1 o.2) (λ o. told o.0) (13 ∷ 14 ∷ 15 ∷ []) (λ o. o.2 ≡ out)
  write out count =
      let said = writes bs ns out in
      let c = canonical (tables_in bs ns) in
      in_c (λ (o : ℕ × ℕ × List ℕ). Written bs ns out count o.0 o.1 o.2) (λ o. o.2 ≡ out) (λ o. o.0) said (number_of said, length_left said count, output_after said c out)
      (record { measured = record { number_is = refl; count_is = refl }; output_after_is = refl }) (λ o w. pair3 w.measured.number_is w.measured.count_is w.output_after_is)
      (λ o w. w.measured.number_is) (calls.writes_so bs ns out) (λ o w n p q. w.output_after_is ∙ ap (λ z. output_after z c out) q)

  count : (f : Tables → ℕ) (old : ℕ) → Answered (λ (o : ℕ × ℕ). Counted (counts bs ns f) old o.0 o.1) (λ o. told o.0) (13 ∷ 14 ∷ []) (λ o. o.1 ≡ old)
  count f old =
      let said = counts bs ns f in
      in_c (λ (o : ℕ × ℕ). Counted (counts bs ns f) old o.0 o.1) (λ o. o.1 ≡ old) (λ o. o.0) said (number_of said, left said (λ n. n) old)
      (record { number_is = refl; count_is = refl }) (λ o w. pair2 w.number_is w.count_is) (λ o w. w.number_is) (calls.counts_so bs ns f)
      (λ o w n p q. w.count_is ∙ ap (λ z. left z (λ n. n) old) q)

  total : (m : ℤ) (place : ℕ)
      → Answered (λ (o : ℕ × ℤ × ℕ). Totalled (totals bs ns) m place o.0 o.1 o.2) (λ o. told o.0) (13 ∷ 14 ∷ 16 ∷ []) (λ o. o.1 ≡ m)
  total m place =
      let said = totals bs ns in
      in_c (λ (o : ℕ × ℤ × ℕ). Totalled (totals bs ns) m place o.0 o.1 o.2) (λ o. o.1 ≡ m) (λ o. o.0) said (number_of said, left said (λ x. x) m, place_left said place)
      (record { numbered = record { number_is = refl; place_is = refl }; millionths_is = refl }) (λ o w. pair3 w.numbered.number_is w.millionths_is w.numbered.place_is)
      (λ o w. w.numbered.number_is) (calls.totals_so bs ns) (λ o w n p q. w.millionths_is ∙ ap (λ z. left z (λ x. x) m) q)

  bracket_mass : (i : ℕ) (m : ℤ) (sort : ℕ)
      → Answered (λ (o : ℕ × ℤ × ℕ). Massed (weighs_at bs ns i) m sort o.0 o.1 o.2) (λ o. told o.0) (13 ∷ 14 ∷ 17 ∷ []) (λ o. (o.1 ≡ m) × (o.2 ≡ sort))
  bracket_mass i m sort =
      let said = weighs_at bs ns i in
      in_c (λ (o : ℕ × ℤ × ℕ). Massed (weighs_at bs ns i) m sort o.0 o.1 o.2) (λ o. (o.1 ≡ m) × (o.2 ≡ sort)) (λ o. o.0) said
      (number_of said, left said millionths_of m, left said sort_of sort) (record { number_is = refl; millionths_is = refl; sort_is = refl })
      (λ o w. pair3 w.number_is w.millionths_is w.sort_is) (λ o w. w.number_is) (calls.weighs_so bs ns i)
      (λ o w n p q. (w.millionths_is ∙ ap (λ z. left z millionths_of m) q, w.sort_is ∙ ap (λ z. left z sort_of sort) q))

  floater_brackets : (brs cps : List ℕ) (count : ℕ)
      → Answered (λ (o : ℕ × ℕ × List ℕ × List ℕ). FloatersHanded bs ns brs cps count o.0 o.1 o.2 o.3) (λ o. told o.0) (13 ∷ 14 ∷ [])
      (λ o. (o.1 ≡ count) × (o.2 ≡ brs) × (o.3 ≡ cps))
  floater_brackets brs cps count =
      let said = floaters_said bs ns brs cps in
      let l = brackets_of (floaters_by (tables_in bs ns)) in
      let m = copies_of (floaters_by (tables_in bs ns)) in
      in_c (λ (o : ℕ × ℕ × List ℕ × List ℕ). FloatersHanded bs ns brs cps count o.0 o.1 o.2 o.3) (λ o. (o.1 ≡ count) × (o.2 ≡ brs) × (o.3 ≡ cps)) (λ o. o.0) said
      (number_of said, left said (λ n. n) count, output_after said l brs, output_after said m cps)
      (record { counted = record { number_is = refl; count_is = refl }; brackets_after = refl; copies_after = refl })
      (λ o w. pair4 w.counted.number_is w.counted.count_is w.brackets_after w.copies_after) (λ o w. w.counted.number_is) (calls.floaters_so bs ns brs cps)
      (λ o w n p q. (w.counted.count_is ∙ ap (λ z. left z (λ n. n) count) q, w.brackets_after ∙ ap (λ z. output_after z l brs) q, w.copies_after ∙ ap (λ z. output_after z m cps) q))

  why_lent_so : (old l : List ℕ) → calls.Among (13 ∷ 14 ∷ []) (why_lent bs ns old l)
  why_lent_so old l = calls.long_or (ltb (length old) copy_limit) (calls.counts_so bs ns (λ t. length l))

  -- whichever set is named, it is the one that is meant
  why_so : (old : List ℕ) (count number count' : ℕ) (new : List ℕ) → WhyHanded bs ns old count number count' new → (l : List ℕ) → Reason (floating_of (tables_in bs ns)) l
      → Counted (why_lent bs ns old l) count number count' × (new ≡ output_after (why_lent bs ns old l) l old)
  why_so old count number count' new w l r =
      subst (λ m. Counted (why_lent bs ns old m) count number count' × (new ≡ output_after (why_lent bs ns old m) m old)) (one_reason _ w.set l w.reason r) (w.counted, w.floaters_after)

  why_none_lem : (old : List ℕ) (count : ℕ)
      → Answered (λ (o : ℕ × ℕ × List ℕ). WhyHanded bs ns old count o.0 o.1 o.2) (λ o. told o.0) (13 ∷ 14 ∷ []) (λ o. (o.1 ≡ count) × (o.2 ≡ old))
  why_none_lem old count =
      let z = some_reason (floating_of (tables_in bs ns)) in
      let l = z.0 in
      let said = why_lent bs ns old l in
      in_c (λ (o : ℕ × ℕ × List ℕ). WhyHanded bs ns old count o.0 o.1 o.2) (λ o. (o.1 ≡ count) × (o.2 ≡ old)) (λ o. o.0) said
      (number_of said, left said (λ n. n) count, output_after said l old)
      (record { set = l; reason = z.1; counted = record { number_is = refl; count_is = refl }; floaters_after = refl })
      (λ o w. let y = why_so old count o.0 o.1 o.2 w l z.1 in pair3 y.0.number_is y.0.count_is y.1)
      (λ o w. (why_so old count o.0 o.1 o.2 w l z.1).0.number_is) (why_lent_so old l)
      (λ o w n p q.
      let y = why_so old count o.0 o.1 o.2 w l z.1 in
      (y.0.count_is ∙ ap (λ s. left s (λ n. n) count) q, y.1 ∙ ap (λ s. output_after s l old) q))

  reached : (i : ℕ) (out : List ℕ) (count : ℕ)
      → Answered (λ (o : ℕ × ℕ × List ℕ). ReachedHanded bs ns i out count o.0 o.1 o.2) (λ o. told o.0) (13 ∷ 14 ∷ 17 ∷ [])
      (λ o. (o.1 ≡ count) × (o.2 ≡ out))
  reached i out count =
      let said = reached_said bs ns i out in
      let l = reached_by (tables_in bs ns) i in
      in_c (λ (o : ℕ × ℕ × List ℕ). ReachedHanded bs ns i out count o.0 o.1 o.2) (λ o. (o.1 ≡ count) × (o.2 ≡ out)) (λ o. o.0) said
      (number_of said, left said (λ n. n) count, output_after said l out) (record { counted = record { number_is = refl; count_is = refl }; positions_after = refl })
      (λ o w. pair3 w.counted.number_is w.counted.count_is w.positions_after) (λ o w. w.counted.number_is) (calls.reached_so bs ns i out)
      (λ o w n p q. (w.counted.count_is ∙ ap (λ z. left z (λ n. n) count) q, w.positions_after ∙ ap (λ z. output_after z l out) q))

  shown : (x : Float) (k : ℕ)
      → Answered (λ (o : ℕ × Float × ℕ). Displayed (shows bs ns) x k o.0 o.1 o.2) (λ o. told o.0) (13 ∷ 14 ∷ []) (λ o. (o.1 ≡ x) × (o.2 ≡ k))
  shown x k =
      let said = shows bs ns in
      in_c (λ (o : ℕ × Float × ℕ). Displayed (shows bs ns) x k o.0 o.1 o.2) (λ o. (o.1 ≡ x) × (o.2 ≡ k)) (λ o. o.0) said
      (number_of said, left said mass_of x, left said lack_of k) (record { number_is = refl; mass_is = refl; missing_is = refl })
      (λ o w. pair3 w.number_is w.mass_is w.missing_is) (λ o w. w.number_is) (calls.counts_so bs ns display_of)
      (λ o w n p q. (w.mass_is ∙ ap (λ z. left z mass_of x) q, w.missing_is ∙ ap (λ z. left z lack_of k) q))

  pub allows_lent_so : (p : List ℕ) → calls.Among (13 ∷ 14 ∷ 18 ∷ []) (allows_lent bs ns p)
  allows_lent_so p = calls.long_or (ltb (length p) copy_limit) (calls.allows_so bs ns (take copy_limit p))

  allowed : (p : List ℕ) → Answered (AllowedLent bs ns p) told (13 ∷ 14 ∷ 18 ∷ []) Nothing
  allowed p =
      in_c (AllowedLent bs ns p) Nothing (λ o. o) (allows_lent bs ns p) (number_of (allows_lent bs ns p)) refl (λ o w. w) (λ o w. w) (allows_lent_so p) (λ o w n p q. tt)

  next : (l : Listing) → Answered (λ (o : ℕ × Listing). MovedOn bs ns l o.0 o.1) (λ o. told o.0) (13 ∷ 14 ∷ 17 ∷ 18 ∷ []) (λ o. o.1 ≡ l)
  next l =
      let said = requests bs ns l in
      in_c (λ (o : ℕ × Listing). MovedOn bs ns l o.0 o.1) (λ o. o.1 ≡ l) (λ o. o.0) said (number_of said, listing_after bs ns l) (refl, refl) (λ o w. pair2 w.0 w.1) (λ o w. w.0)
      (calls.requests_so bs ns l) (λ o w n p q. w.1 ∙ ap (moved_on l) q)

  books_lent_so : (p : List ℕ) (old : List ℤ) → calls.Among (13 ∷ 14 ∷ 16 ∷ 18 ∷ []) (books_lent bs ns p old)
  books_lent_so p old = calls.long_or (ltb (length p) copy_limit) (calls.long_or (ltb (length old) position_limit) (calls.books_so bs ns (take copy_limit p)))

  entered : (p : List ℕ) (old : List ℤ) (place : ℕ)
      → Answered (λ (o : ℕ × ℕ × List ℤ). EnteredLent bs ns p old place o.0 o.1 o.2) (λ o. told o.0) (13 ∷ 14 ∷ 16 ∷ 18 ∷ []) (λ o. o.2 ≡ old)
  entered p old place =
      let said = books_lent bs ns p old in
      in_c (λ (o : ℕ × ℕ × List ℤ). EnteredLent bs ns p old place o.0 o.1 o.2) (λ o. o.2 ≡ old) (λ o. o.0) said
      (number_of said, place_left said place, entries_after said (tables_in bs ns) (take copy_limit p) old)
      (record { numbered = record { number_is = refl; place_is = refl }; entries_after_is = refl }) (λ o w. pair3 w.numbered.number_is w.numbered.place_is w.entries_after_is)
      (λ o w. w.numbered.number_is) (books_lent_so p old) (λ o w n k q. w.entries_after_is ∙ ap (λ z. entries_after z (tables_in bs ns) (take copy_limit p) old) q)

  rows : (room : List Site) (count : ℕ)
      → Answered (λ (o : ℕ × ℕ × List Site). RowsHanded bs ns room count o.0 o.1 o.2) (λ o. told o.0) (13 ∷ 14 ∷ []) (λ o. (o.1 ≡ count) × (o.2 ≡ room))
  rows room count =
      let said = rows_said bs ns room in
      in_c (λ (o : ℕ × ℕ × List Site). RowsHanded bs ns room count o.0 o.1 o.2) (λ o. (o.1 ≡ count) × (o.2 ≡ room)) (λ o. o.0) said
      (number_of said, left said (λ n. n) count, rows_after said (tables_in bs ns) room) (record { counted = record { number_is = refl; count_is = refl }; rows_after_lem = refl })
      (λ o w. pair3 w.counted.number_is w.counted.count_is w.rows_after_lem) (λ o w. w.counted.number_is) (calls.rows_so bs ns room)
      (λ o w n p q. (w.counted.count_is ∙ ap (λ z. left z (λ n. n) count) q, w.rows_after_lem ∙ ap (λ z. rows_after z (tables_in bs ns) room) q))

first_row_lem : (rs : List Site) (n f i x : ℕ)
    → Answered (λ (o : ℕ × ℕ × ℕ). LookedUp (looks_up rs n f) i x o.0 o.1 o.2) (λ o. told o.0) (13 ∷ 17 ∷ []) (λ o. (o.1 ≡ i) × (o.2 ≡ x))
first_row_lem rs n f i x =
    let said = looks_up rs n f in
    in_c (λ (o : ℕ × ℕ × ℕ). LookedUp (looks_up rs n f) i x o.0 o.1 o.2) (λ o. (o.1 ≡ i) × (o.2 ≡ x)) (λ o. o.0) said
    (number_of said, left said (λ r. r.index) i, left said (λ r. r.position) x) (record { number_is = refl; index_is = refl; position_is = refl })
    (λ o w. pair3 w.number_is w.index_is w.position_is) (λ o w. w.number_is) (calls.looks_so rs n f)
    (λ o w n p q. (w.index_is ∙ ap (λ z. left z (λ r. r.index) i) q, w.position_is ∙ ap (λ z. left z (λ r. r.position) x) q))

composition : (t out : List ℕ) (count : ℕ)
    → Answered (λ (o : ℕ × ℕ × List ℕ). PiecesHanded t out count o.0 o.1 o.2) (λ o. told o.0) (15 ∷ 19 ∷ []) (λ o. o.2 ≡ out)
composition t out count =
    let said = pieces_said t (length out) in
    let c = pieces_of (cuttings t) in
    in_c (λ (o : ℕ × ℕ × List ℕ). PiecesHanded t out count o.0 o.1 o.2) (λ o. o.2 ≡ out) (λ o. o.0) said (number_of said, length_left said count, output_after said c out)
    (record { measured = record { number_is = refl; count_is = refl }; output_after_is = refl }) (λ o w. pair3 w.measured.number_is w.measured.count_is w.output_after_is)
    (λ o w. w.measured.number_is) (calls.pieces_so t (length out)) (λ o w n p q. w.output_after_is ∙ ap (λ z. output_after z c out) q)

-- with the calls over an area of blocks (proofs/AnsweringBlocks.antt)
pub demand_1 : AnswersBlocksC → Demand1C
demand_1 blocks =
    record {
      verdict = verdict;
      read = read;
      write = write;
      count = λ f bs ns. count bs ns f;
      total = total;
      bracket_mass = bracket_mass;
      floater_brackets = floater_brackets;
      why_none_lem = why_none_lem;
      reached = reached;
      shown = shown;
      allowed = allowed;
      next = next;
      ledger = entered;
      rows = rows;
      first_row_lem = first_row_lem;
      composition = composition;
      blocks = blocks;
    }
