-- Demand 1 for the calls that are no reader: what each says is a success or a refusal with one of its numbers, an answer says it, and only one does.
use Rattle.std.specs.Prelude.{◌≡◌, ◌↔◌, ◌⊎◌, Bool, true, false, cond, List, [], ◌∷◌, ℕ, zero, suc, ◌+◌, ◌≤◌, ◌<◌, eqb, ltb, ℤ, Float, length, Result, Ok, Err}
use Rattle.std.proofs.Math.Path.{refl}
use Rattle.std.proofs.Common.{sym, ap, ◌∙◌, subst, inl, inr, arith, ltb-true, ltb-false}
use Rattle.std.proofs.Math.Option.{Option, none, some}
use Rattle.scope.specs.declared.answers.Placement.{Placement}
use Rattle.scope.specs.declared.answers.Listing.{Listing}
use Rattle.scope.specs.declared.answers.Site.{Site}
use Rattle.scope.specs.declared.answers.Shown.{Shown}
use Rattle.scope.specs.declared.answers.Shown.TheVariants.{Daltons, Missing, Refused as shown_refused}
use Rattle.scope.specs.declared.refusals.Reason.TheVariants.{ShortArea, NoTables}
use Rattle.scope.specs.declared.refusals.Refusal.{Refusal}
use Rattle.scope.specs.Limits.{row_limit, position_limit, copy_limit}
use Rattle.scope.specs.Lists.{given, tabled, none?}
use Rattle.scope.specs.Canonical.{canonical}
use Rattle.scope.specs.Tables.{Tables}
use Rattle.scope.specs.Layout.{tables_in}
use Rattle.scope.specs.Positions.{reached as reaches, floaters_by, brackets_of, copies_of, Floating, floating_of, rows_of, lookup}
use Rattle.scope.specs.Placements.{allowed, taken_listing, following}
use Rattle.scope.specs.Masses.{mass_of, total, lacking, daltons, ledger as ledger_entries}
use Rattle.scope.specs.Answers.{Said, good, refuses, display_of, too_short, are_tables, over_tables, fitting, writes, output_after, floater_count, weighed, totals, rows_said, rows_after, looks_up, allows, of_good, requested, moved, moved_on, requests, listing_after, allowable, bookable, books, says, a_mass, lack, says_shown}
use Rattle.basics.specs.Each.{In}
use Rattle.calls.specs.Writing.{WriteSays}
use Rattle.calls.specs.Single.{element_at, mass_at, weighs_at}
use Rattle.calls.specs.Competing.{told_of, WhySays}
use Rattle.calls.specs.Floating.{floaters_said, FloatersSay}
use Rattle.calls.specs.Reaching.{reached_by, reached_at, reached_said, ReachedSays}
use Rattle.calls.specs.Says.{CountSays, TotalSays, BracketMassSays, ShownSays, AllowedSays, NextSays, LedgerSays}
use Rattle.rows.specs.Says.{LookupSays}
use Rattle.scope.specs.Glycans.{cuttings}
use Rattle.glycans.specs.Pieces.{pieces_of, pieces_said, PiecesSay}
use Rattle.listing.specs.Says.{RowsSays, StepSays}
use Rattle.placement_laws.specs.Reasons.{one_reason}
use Rattle.placement_laws.specs.Answered.{some_reason}
use Rattle.promises.specs.Promises.{Answered, Nothing}
use Rattle.basics.specs.Said.{not_both, same_number_lem}
use Rattle.promises.proofs.Said.{all_known, known_in, refusal_of, met_refused, says_same, shown_same}

-- ---- what can be said
-- a refusal has one of these numbers
pub record Among {A : Type 0} (numbers : List ℕ) (s : Said A) : Type 0 where
  pub number : (n p : ℕ) → s ≡ refuses n p → In n numbers

pub fine : {A : Type 0} {numbers : List ℕ} {x : A} → Among numbers (good x)
fine = record { number = λ n p q. absurd (not_both q) }

pub one_of : {A : Type 0} {numbers : List ℕ} {m q : ℕ} → In m numbers → Among {A = A} numbers (refuses m q)
one_of {numbers = numbers} i = record { number = λ n p e. subst (λ k. In k numbers) (same_number_lem e) i }

-- one more number
pub more : {A : Type 0} {numbers : List ℕ} {m : ℕ} {s : Said A} → Among numbers s → Among (m ∷ numbers) s
more h = record { number = λ n p q. inr (h.number n p q) }

-- by cases
pub both : {A : Type 0} {numbers : List ℕ} (b : Bool) {x y : Said A} → Among numbers x → Among numbers y → Among numbers (cond b x y)
both true x y = x
both false x y = y

-- 13, or what is said where a lent area is long enough
pub long_or : {A : Type 0} {numbers : List ℕ} (b : Bool) {s : Said A} → Among (13 ∷ numbers) s → Among (13 ∷ numbers) (cond b (refuses 13 0) s)
long_or b h = both b (one_of (inl refl)) h

-- 13, 14, and what the call says itself
pub over : {A : Type 0} {numbers : List ℕ} (bs : List ℕ) (ns : List ℤ) (f : Tables → Said A) → Among (13 ∷ 14 ∷ numbers) (f (tables_in bs ns))
    → Among (13 ∷ 14 ∷ numbers) (over_tables bs ns f)
over bs ns f h = long_or (too_short bs ns) (both (are_tables bs ns) h (one_of (inr (inl refl))))

-- what there is, or 17
pub found : {A B : Type 0} {numbers : List ℕ} (f : A → B) (o : Option A) → In 17 numbers → Among numbers (given o (λ x. good (f x)) (refuses 17 0))
found f none i = one_of i
found f (some x) i = fine

-- what is worked out of what is said has its numbers
pub of_among : {A B : Type 0} {numbers : List ℕ} (f : A → B) (s : Said A) → Among numbers s → Among numbers (of_good f s)
of_among f (good x) h = fine
of_among f (refuses m q) h = one_of (h.number m q refl)

-- an answer says it
pub said_so : {A : Type 0} {numbers : List ℕ} → all_known numbers ≡ true → (s : Said A) → Among numbers s → (r : Result A Refusal) × (says r ≡ s)
said_so k (good x) h = (Ok x, refl)
said_so {numbers = numbers} k (refuses n p) h = (Err (refusal_of n p), ap (λ m. refuses m p) (known_in numbers k n (h.number n p refl)))

-- the numbers from i on, k of them
pub among_numbers : (k i n : ℕ) → i ≤ n → n < i + k → In n (tabled (λ x. x) i k)
unfolding tabled
among_numbers zero i n h l = absurd (omega arith)
among_numbers (suc k) i n h l = go (ltb i n) (ltb-true i n) (ltb-false i n) (λ z. among_numbers k (i + 1) n z (omega arith))
  where
    go : (b : Bool) → (b ≡ true → i < n) → (b ≡ false → n ≤ i) → (i + 1 ≤ n → In n (tabled (λ x. x) (i + 1) k)) → (n ≡ i) ⊎ In n (tabled (λ x. x) (i + 1) k)
    go true f g ih = let z = f refl in inr (ih (omega (arith, z)))
    go false f g ih = let z = g refl in inl (omega (arith, z))

-- ---- an answer alone
pub alone : {R A : Type 0} {what_says : R → Said A} {numbers : List ℕ} {s : Said A} (Ensured : R → Type 0) → ((r : R) → Ensured r ↔ (what_says r ≡ s))
    → ((x y : R) → what_says x ≡ what_says y → x ≡ y) → (r : R) × (what_says r ≡ s) → Among numbers s → Answered Ensured what_says numbers Nothing
alone Ensured is one a h =
    record {
      exactly_one = record { outcome = a.0; ensured = (is a.0).1 a.1; only = λ r e. one r a.0 ((is r).0 e ∙ sym a.1) };
      only_refuses = λ r e. record { number = λ n p q. h.number n p (sym ((is r).0 e) ∙ q); left = λ n p q. tt };
    }

pub plain : {A : Type 0} {numbers : List ℕ} {s : Said A} → all_known numbers ≡ true → Among numbers s → Answered (λ (r : Result A Refusal). says r ≡ s) says numbers Nothing
plain {s = s} k h = alone (λ r. says r ≡ s) (λ r. ((λ w. w), (λ w. w))) says_same (said_so k s h) h

-- ---- an answer, and something lent that is `after` then
pub lent : {A L : Type 0} {numbers : List ℕ} {s : Said A} (Ensured : Result A Refusal → L → Type 0) (after old : L)
    → ((r : Result A Refusal) (l : L) → Ensured r l ↔ ((says r ≡ s) × (l ≡ after))) → all_known numbers ≡ true → Among numbers s
    → ((n p : ℕ) → s ≡ refuses n p → after ≡ old)
    → Answered (λ (o : (Result A Refusal) × L). Ensured o.0 o.1) (λ o. says o.0) numbers (λ o. o.1 ≡ old)
lent {s = s} Ensured after old is k h kept =
    let a = said_so k s h in
    record {
      exactly_one =
          record {
            outcome = (a.0, after);
            ensured = (is a.0 after).1 (a.1, refl);
            only = λ o e.
                let w = (is o.0 o.1).0 e in
                ap (λ r. (r, o.1)) (says_same o.0 a.0 (w.0 ∙ sym a.1)) ∙ ap (λ l. (a.0, l)) w.1;
          };
      only_refuses = λ o e.
          let w = (is o.0 o.1).0 e in
          record { number = λ n p q. h.number n p (sym w.0 ∙ q); left = λ n p q. w.1 ∙ kept n p (sym w.0 ∙ q) };
    }

-- ---- each call
module _ (bs : List ℕ) (ns : List ℤ) where
  pub writes_so : (out : List ℕ) → Among (13 ∷ 14 ∷ 15 ∷ []) (writes bs ns out)
  writes_so out =
      over bs ns (λ t. fitting (canonical t) (length out)) (both (ltb (length out) (length (canonical (tables_in bs ns)))) (one_of (inr (inr (inl refl)))) fine)

  pub write : (out : List ℕ)
      → Answered (λ (o : (Result ℕ Refusal) × List ℕ). WriteSays bs ns out o.0 o.1) (λ o. says o.0) (13 ∷ 14 ∷ 15 ∷ []) (λ o. o.1 ≡ out)
  write out =
      let c = canonical (tables_in bs ns) in
      lent (WriteSays bs ns out) (output_after (writes bs ns out) c out) out
      (λ r l. ((λ w. (w.says, w.output_after_is)), (λ w. record { says = w.0; output_after_is = w.1 }))) refl (writes_so out) (λ n p q. ap (λ s. output_after s c out) q)

  pub counts_so : {A : Type 0} (f : Tables → A) → Among (13 ∷ 14 ∷ []) (over_tables bs ns (λ t. good (f t)))
  counts_so f = over bs ns (λ t. good (f t)) fine

  pub count : (f : Tables → ℕ) → Answered (CountSays f bs ns) says (13 ∷ 14 ∷ []) Nothing
  count f = plain refl (counts_so f)

  pub totals_so : Among (13 ∷ 14 ∷ 16 ∷ []) (totals bs ns)
  totals_so = over bs ns (λ t. weighed t (total t)) (both (eqb (lacking (tables_in bs ns)) 0) fine (one_of (inr (inr (inl refl)))))

  pub totalled : Answered (TotalSays bs ns) says (13 ∷ 14 ∷ 16 ∷ []) Nothing
  totalled = plain refl totals_so

  pub weighs_so : (i : ℕ) → Among (13 ∷ 14 ∷ 17 ∷ []) (weighs_at bs ns i)
  weighs_so i = over bs ns (λ t. mass_at t i) (found mass_of (element_at (tables_in bs ns).brackets i) (inr (inr (inl refl))))

  pub bracket_mass : (i : ℕ) → Answered (BracketMassSays bs ns i) says (13 ∷ 14 ∷ 17 ∷ []) Nothing
  bracket_mass i = plain refl (weighs_so i)

  -- a display is refused at 0
  displayed : (short taken whole : Bool) (x : Float) (n : ℕ)
      → (r : Shown) × (says_shown r ≡ cond short (refuses 13 0) (cond taken (good (cond whole (a_mass x) (lack n))) (refuses 14 0)))
  displayed true taken whole x n = (shown_refused ShortArea, refl)
  displayed false false whole x n = (shown_refused NoTables, refl)
  displayed false true true x n = (Daltons x, refl)
  displayed false true false x n = (Missing n, refl)

  pub shown : Answered (ShownSays bs ns) says_shown (13 ∷ 14 ∷ []) Nothing
  shown =
      let t = tables_in bs ns in
      alone (ShownSays bs ns) (λ r. ((λ w. w), (λ w. w))) shown_same
      (displayed (too_short bs ns) (are_tables bs ns) (eqb (lacking t) 0) (daltons (total t)) (lacking t)) (counts_so display_of)

  pub allows_so : (p : List ℕ) → Among (13 ∷ 14 ∷ 18 ∷ []) (allows bs ns p)
  allows_so p = over bs ns (λ t. allowable t p) (both (allowed (floating_of (tables_in bs ns)) p) fine (one_of (inr (inr (inl refl)))))

  pub is_allowed : (p : Placement) → Answered (AllowedSays bs ns p) says (13 ∷ 14 ∷ 18 ∷ []) Nothing
  is_allowed p = plain refl (allows_so p.at)

  -- what is left to hand out, or 17; 18 before it
  requested_so : (f : Floating) (l : Listing) → Among (13 ∷ 14 ∷ 17 ∷ 18 ∷ []) (requested f l)
  unfolding requested
  requested_so f l = both (taken_listing f l) (found (λ p. p) (following f l) (inr (inr (inl refl)))) (one_of (inr (inr (inr (inl refl)))))

  pub requests_so : (l : Listing) → Among (13 ∷ 14 ∷ 17 ∷ 18 ∷ []) (requests bs ns l)
  requests_so l = over bs ns (λ t. requested (floating_of t) l) (requested_so (floating_of (tables_in bs ns)) l)

  pub next_placement_lem : (l : Listing) → Answered (NextSays bs ns l) says (13 ∷ 14 ∷ 17 ∷ 18 ∷ []) Nothing
  next_placement_lem l = plain refl (of_among moved (requests bs ns l) (requests_so l))

  pub step : (l : Listing)
      → Answered (λ (o : (Result (Unit {0}) Refusal) × Listing). StepSays bs ns l o.0 o.1) (λ o. says o.0) (13 ∷ 14 ∷ 17 ∷ 18 ∷ []) (λ o. o.1 ≡ l)
  step l =
      lent (StepSays bs ns l) (listing_after bs ns l) l (λ r k. ((λ w. w), (λ w. w))) refl (of_among (λ x. tt) (requests bs ns l) (requests_so l))
      (λ n p q. ap (moved_on l) (met_refused (requests bs ns l) q))

  pub books_so : (p : List ℕ) → Among (13 ∷ 14 ∷ 16 ∷ 18 ∷ []) (books bs ns p)
  books_so p =
      let t = tables_in bs ns in
      over bs ns (λ t. bookable t p)
      (both (eqb (lacking t) 0) (both (allowed (floating_of t) p) fine (one_of (inr (inr (inr (inl refl)))))) (one_of (inr (inr (inl refl)))))

  pub ledger : (p : Placement) → Answered (LedgerSays bs ns p) says (13 ∷ 14 ∷ 16 ∷ 18 ∷ []) Nothing
  ledger p = plain refl (of_among (λ x. record { at = ledger_entries (tables_in bs ns) p.at }) (books bs ns p.at) (books_so p.at))

  pub rows_so : (room : List Site) → Among (13 ∷ 14 ∷ []) (rows_said bs ns room)
  rows_so room = long_or (ltb (length room) row_limit) (counts_so (λ t. length (rows_of t)))

  pub rows : (room : List Site)
      → Answered (λ (o : (Result ℕ Refusal) × List Site). RowsSays bs ns room o.0 o.1) (λ o. says o.0) (13 ∷ 14 ∷ []) (λ o. o.1 ≡ room)
  rows room =
      lent (RowsSays bs ns room) (rows_after (rows_said bs ns room) (tables_in bs ns) room) room (λ r l. ((λ w. w), (λ w. w))) refl (rows_so room)
      (λ n p q. ap (λ s. rows_after s (tables_in bs ns) room) q)

  pub floaters_so : (brs cps : List ℕ) → Among (13 ∷ 14 ∷ []) (floaters_said bs ns brs cps)
  floaters_so brs cps = long_or (ltb (length brs) copy_limit) (long_or (ltb (length cps) copy_limit) (counts_so floater_count))

  pub floater_brackets : (brs cps : List ℕ)
      → Answered (λ (o : (Result ℕ Refusal) × (List ℕ × List ℕ)). FloatersSay bs ns brs cps o.0 o.1.0 o.1.1) (λ o. says o.0) (13 ∷ 14 ∷ [])
      (λ o. o.1 ≡ (brs, cps))
  floater_brackets brs cps =
      let said = floaters_said bs ns brs cps in
      let l = brackets_of (floaters_by (tables_in bs ns)) in
      let m = copies_of (floaters_by (tables_in bs ns)) in
      lent (λ r (z : List ℕ × List ℕ). FloatersSay bs ns brs cps r z.0 z.1) (output_after said l brs, output_after said m cps) (brs, cps)
      (λ r z. (
        (λ w. (w.says, ap (λ y. (y, z.1)) w.brackets_after ∙ ap (λ y. (output_after said l brs, y)) w.copies_after)),
        (λ w. record { says = w.0; brackets_after = ap (λ y. y.0) w.1; copies_after = ap (λ y. y.1) w.1 }),
      ))
      refl (floaters_so brs cps) (λ n p q. ap (λ s. (output_after s l brs, output_after s m cps)) q)

  -- the answer is that of the one set that is meant
  pub why_none_lem : Answered (WhySays bs ns) says (13 ∷ 14 ∷ []) Nothing
  why_none_lem =
      let z = some_reason (floating_of (tables_in bs ns)) in
      alone (WhySays bs ns)
      (λ r. (
        (λ w. w.says ∙ ap (λ m. over_tables bs ns (λ t. good (told_of m))) (one_reason _ w.set z.0 w.reason z.1)),
        (λ w. record { set = z.0; reason = z.1; says = w }),
      ))
      says_same (said_so refl (over_tables bs ns (λ t. good (told_of z.0))) (counts_so (λ t. told_of z.0))) (counts_so (λ t. told_of z.0))

  pub reached_so : (i : ℕ) (out : List ℕ) → Among (13 ∷ 14 ∷ 17 ∷ []) (reached_said bs ns i out)
  reached_so i out =
      long_or (ltb (length out) position_limit)
      (over bs ns (λ t. reached_at t i) (found (λ k. length (reaches (tables_in bs ns) k)) (element_at (tables_in bs ns).brackets i) (inr (inr (inl refl)))))

  pub reached : (i : ℕ) (out : List ℕ)
      → Answered (λ (o : (Result ℕ Refusal) × List ℕ). ReachedSays bs ns i out o.0 o.1) (λ o. says o.0) (13 ∷ 14 ∷ 17 ∷ []) (λ o. o.1 ≡ out)
  reached i out =
      let l = reached_by (tables_in bs ns) i in
      lent (ReachedSays bs ns i out) (output_after (reached_said bs ns i out) l out) out
      (λ r z. ((λ w. (w.says, w.after)), (λ w. record { says = w.0; after = w.1 }))) refl (reached_so i out) (λ n p q. ap (λ s. output_after s l out) q)

pub looks_so : (rs : List Site) (n f : ℕ) → Among (13 ∷ 17 ∷ []) (looks_up rs n f)
looks_so rs n f = long_or (ltb (length rs) row_limit) (found (λ x. x) (lookup rs n f) (inr (inl refl)))

pub first_row_lem : (rs : List Site) (n f : ℕ) → Answered (LookupSays rs n f) says (13 ∷ 17 ∷ []) Nothing
first_row_lem rs n f = plain refl (looks_so rs n f)

-- ---- the pieces of a text
pub pieces_so : (t : List ℕ) (room : ℕ) → Among (15 ∷ 19 ∷ []) (pieces_said t room)
pieces_so t room = both (none? (cuttings t)) (one_of (inr (inl refl))) (both (ltb room (length (pieces_of (cuttings t)))) (one_of (inl refl)) fine)

pub pieces : (t out : List ℕ)
    → Answered (λ (o : (Result ℕ Refusal) × List ℕ). PiecesSay t out o.0 o.1) (λ o. says o.0) (15 ∷ 19 ∷ []) (λ o. o.1 ≡ out)
pieces t out =
    let c = pieces_of (cuttings t) in
    lent (PiecesSay t out) (output_after (pieces_said t (length out)) c out) out
    (λ r l. ((λ w. (w.says, w.output_after_is)), (λ w. record { says = w.0; output_after_is = w.1 }))) refl (pieces_so t (length out)) (λ n p q. ap (λ s. output_after s c out) q)
