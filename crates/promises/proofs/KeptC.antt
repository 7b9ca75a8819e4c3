-- Demands 2 and 3 over what a caller in C sees: each exported contract gives the inner one, of the answer that its numbers tell.
use Rattle.std.specs.Prelude.{◌≡◌, ◌↔◌, ◌⊎◌, true, false, List, [], ◌∷◌, ℕ, zero, suc, ◌≤◌, ℤ, ◌+ℤ◌, Float, length, take, drop, cond, Bool, Result, Ok, Err}
use Rattle.std.proofs.Math.Path.{refl, sym, ap}
use Rattle.std.proofs.Math.Option.{Option, none, some}
use Rattle.std.proofs.Common.{ap₂, ◌∙◌, subst, arith, le-ltb, take_all}
use Rattle.std.proofs.Math.Seq.{take-append_seam, drop-append_seam}
use Rattle.scope.specs.declared.answers.Shown.{Shown}
use Rattle.scope.specs.declared.answers.Site.{Site}
use Rattle.scope.specs.declared.answers.Placement.{Placement}
use Rattle.scope.specs.declared.answers.Listing.{Listing}
use Rattle.scope.specs.declared.answers.Ledger.{Ledger}
use Rattle.scope.specs.Limits.{copy_limit, position_limit, row_limit}
use Rattle.scope.specs.Line.{Line}
use Rattle.scope.specs.Lists.{laid}
use Rattle.scope.specs.Tables.{Tables}
use Rattle.scope.specs.Layout.{tables_in}
use Rattle.scope.specs.Positions.{Floating, floating_of, floaters}
use Rattle.scope.specs.Placements.{fresh_listing, allowed, taken_listing, following}
use Rattle.scope.specs.Reasons.{Reason}
use Rattle.scope.specs.Masses.{sum, ledger, labile_mass, daltons}
use Rattle.scope.specs.Answers.{Said, good, refuses, of_good, reason_number, counts, residue_count, bracket_count, floater_count, shows, rows_said, too_short, read_outcome, says_outcome, writes, output_after, totals, allows, findable, requested, requests, moved, moved_on, listing_after, books, says, Display, a_mass, lack, says_shown}
use Rattle.scope.specs.Grammar.{Spelling, print, good as well_spelt}
use Rattle.grammar_laws.specs.Laws.{Accepts, Refuses}
use Rattle.basics.specs.Lists.{no_length}
use Rattle.basics.specs.Tabled.{length_tabled}
use Rattle.basics.specs.Each.{In}
use Rattle.placement_laws.specs.Members.{allowed_parts}
use Rattle.reader.specs.ReadSays.{ReadSays}
use Rattle.calls.specs.Writing.{WriteSays}
use Rattle.calls.specs.Says.{CountSays, TotalSays, ShownSays, AllowedSays, NextSays}
use Rattle.export.specs.Numbers.{number_of, left, place_left, Exported}
use Rattle.export.specs.Handed.{MovedOn, RowsHanded}
use Rattle.export.specs.Shapes.{length_left, mass_of, lack_of, Written, Totalled, Displayed, allows_lent, AllowedLent, books_lent, entries_after, ReadEntered as EnteredLent, why_lent, WhyHanded}
use Rattle.promises.specs.Promises.{meant, Holding, Filed, HandsOut, Lists, Rowed, Reckoned, EnteredC, FiledC, HandsOutC, Demand3C, CountedC, ReckonedC, PromisesC}
use Rattle.basics.specs.Said.{not_both}
use Rattle.promises.proofs.Said.{reason_at, all_known, known_in, refusal_of, of_taken, of_refused}
use Rattle.promises.proofs.Answering as calls
use Rattle.promises.proofs.AnsweringC as exported
use Rattle.promises.proofs.AnsweringBlocks as blocks
use Rattle.promises.proofs.Readers as readers
use Rattle.promises.proofs.Written as written
use Rattle.promises.proofs.Weights as weights
use Rattle.promises.proofs.Rows as rows
use Rattle.promises.proofs.Listed as listed
use Rattle.promises.proofs.Whys as whys
use Rattle.scope.specs.declared.refusals.Refusal.{Refusal}

-- ---- the answers that numbers tell
abbrev told_answer : {A : Type 0} → ℕ → A → ℕ → Result A Refusal
told_answer zero x p = Ok x
told_answer (suc n) x p = Err (refusal_of (suc n) p)

abbrev read_told : ℕ → ℕ → Result (Unit {0}) Refusal
read_told n p = told_answer {A = Unit {0}} n tt p

-- what is said is what its number tells, since a number that is told is that of what is said, and so a reason's, and no reason has the number 0
module _ {A : Type 0} {numbers : List ℕ} (known : all_known numbers ≡ true) where
  above : {n p : ℕ} → calls.Among {A = A} numbers (refuses n p) → 0 ≡ n → ⊥
  above {n} {p} h z = let e : 1 ≡ 0 = subst (λ m. reason_number (reason_at m) ≡ m) (sym z) (known_in numbers known n (h.number n p refl)) in omega (arith, e)

  told_so : (s : Said A) → calls.Among numbers s → (x : A) (place : ℕ) → says (told_answer (number_of s) (left s (λ y. y) x) (place_left s place)) ≡ s
  told_so (good y) h x place = refl
  told_so (refuses zero p) h x place = absurd (above h refl)
  told_so (refuses (suc n) p) h x place = ap (λ m. refuses m p) (known_in numbers known (suc n) (h.number (suc n) p refl))

  -- 0 is a success
  taken_so : (s : Said A) → calls.Among numbers s → 0 ≡ number_of s → (x : A) × (s ≡ good x)
  taken_so (good x) h z = (x, refl)
  taken_so (refuses n p) h z = absurd (above h z)

read_0 : (n p : ℕ) → (n ≡ 0) ↔ (says (read_told n p) ≡ good tt)
read_0 zero p = ((λ e. refl), (λ e. refl))
read_0 (suc n) p = ((λ e. absurd (omega (arith, e))), (λ e. absurd (not_both (sym e))))

-- ---- reading
read_inner : (s bs : List ℕ) (ns : List ℤ) (place n p : ℕ) (bs' : List ℕ) (ns' : List ℤ) → Exported s bs ns place n p bs' ns'
    → ReadSays s bs ns (read_told n p) bs' ns'
read_inner s bs ns place n p bs' ns' w =
    record {
      says =
          ap₂ (λ k i. says (read_told k i)) w.numbered.number_is w.numbered.place_is
          ∙ told_so readers.lines_known (says_outcome (read_outcome bs ns s)) (readers.read_among s bs ns) tt place;
      bytes_after_is = w.bytes_after_is;
      numbers_after_is = w.numbers_after_is;
    }

accepts : (s bs : List ℕ) (ns : List ℤ) (place n p : ℕ) (bs' : List ℕ) (ns' : List ℤ) → Exported s bs ns place n p bs' ns'
    → (n ≡ 0) ↔ ((too_short bs ns ≡ false) × ((l : Line ℕ) × Accepts s l))
accepts s bs ns place n p bs' ns' w =
    let a = (readers.accepting).accepts s bs ns (read_told n p) bs' ns' (read_inner s bs ns place n p bs' ns' w) in
    ((λ e. a.0 ((read_0 n p).0 e)), (λ x. (read_0 n p).1 (a.1 x)))

tables : (s bs : List ℕ) (ns : List ℤ) (place p : ℕ) (bs' : List ℕ) (ns' : List ℤ) → Exported s bs ns place 0 p bs' ns'
    → (t : Spelling) → well_spelt t ≡ true → s ≡ print t → Holding t bs ns bs' ns'
tables s bs ns place p bs' ns' w t g e = (readers.accepting).tables s bs ns (Ok tt) bs' ns' (read_inner s bs ns place 0 p bs' ns' w) refl t g e

refuses_by : (s bs : List ℕ) (ns : List ℤ) (place n p : ℕ) (bs' : List ℕ) (ns' : List ℤ) → Exported s bs ns place n p bs' ns' → (n ≡ 0 → ⊥)
    → ((too_short bs ns ≡ true) × (n ≡ 13) × (p ≡ 0)) ⊎ ((too_short bs ns ≡ false) × Refuses s n p)
refuses_by s bs ns place zero p bs' ns' w z = absurd (z refl)
refuses_by s bs ns place (suc n) p bs' ns' w z =
    let i = read_inner s bs ns place (suc n) p bs' ns' w in
    let y = exported.number_said (says_outcome (read_outcome bs ns s)) n (sym w.numbered.number_is) in
    let at : p ≡ y.0 = w.numbered.place_is ∙ ap (λ z. place_left z place) y.1 in
    ((readers.accepting).refuses_by s bs ns (read_told (suc n) p) bs' ns' i (suc n) p).0 (i.says ∙ y.1 ∙ ap (refuses (suc n)) (sym at))

-- ---- writing
-- the answer that is ensured, of the output as it is
write_inner : (bs : List ℕ) (ns : List ℤ) (out : List ℕ) (count n long : ℕ) (out' : List ℕ) → Written bs ns out count n long out'
    → WriteSays bs ns out (calls.write bs ns out).exactly_one.outcome.0 out'
write_inner bs ns out count n long out' w = record { says = (calls.write bs ns out).exactly_one.ensured.says; output_after_is = w.output_after_is }

reads_back : (s bs : List ℕ) (ns : List ℤ) (place p : ℕ) (bs' : List ℕ) (ns' : List ℤ) → Exported s bs ns place 0 p bs' ns'
    → (out : List ℕ) (count n long : ℕ) (out' : List ℕ) → Written bs' ns' out count n long out' → length s ≤ length out → EnteredC s bs' ns' out n long out'
reads_back s bs ns place p bs' ns' w out count n long out' v h =
    let x = (calls.write bs' ns' out).exactly_one in
    let i = write_inner bs' ns' out count n long out' v in
    let r = (written.demand_2).reads_back s bs ns (Ok tt) bs' ns' (read_inner s bs ns place 0 p bs' ns' w) refl out x.outcome.0 out' i h in
    let said : writes bs' ns' out ≡ good r.long = sym i.says ∙ r.said in
    let e : long ≡ r.long = v.measured.count_is ∙ ap (λ z. length_left z count) said in
    record {
      success = v.measured.number_is ∙ ap number_of said;
      no_longer = subst (λ z. z ≤ length s) (sym e) r.no_longer;
      rest = subst (λ z. drop z out' ≡ drop z out) (sym e) r.rest;
      back = λ at k q b m y.
          let o = r.back (read_told k q) b m (subst (λ z. ReadSays (take z out') bs' ns' (read_told k q) b m) e (read_inner (take long out') bs' ns' at k q b m y)) in
          ((read_0 k q).1 o.0, o.1, o.2);
    }

filed_inner : {s bs : List ℕ} {ns : List ℤ} {bs' : List ℕ} {ns' : List ℤ} {out' : List ℕ} {m : ℕ} → FiledC s bs ns bs' ns' out' m → Filed s bs ns bs' ns' out' m
filed_inner {s} {bs} {ns} {bs'} {ns'} {out'} {m} f =
    let i = write_inner bs' ns' f.out f.count 0 m out' f.written in
    let g = f.written.measured in
    let x = taken_so refl (writes bs' ns' f.out) (calls.writes_so bs' ns' f.out) g.number_is in
    record {
      answer = Ok tt;
      read = read_inner s bs ns f.place 0 f.place' bs' ns' f.read;
      accepted = refl;
      out = f.out;
      wrote = (calls.write bs' ns' f.out).exactly_one.outcome.0;
      written = i;
      length_is = i.says ∙ x.1 ∙ ap good (sym (g.count_is ∙ ap (λ z. length_left z f.count) x.1));
    }

-- ---- over areas that a line was read into
module _ (bs : List ℕ) (ns : List ℤ) (h : weights.AreasTaken bs ns) where
  abbrev f : Floating
  f = floating_of (tables_in bs ns)

  -- 17 is at 0
  requests_17 : (l : Listing) → 17 ≡ number_of (requests bs ns l) → requests bs ns l ≡ refuses 17 0
  unfolding requested
  requests_17 l e = let r = listed.requests_so bs ns h l in r ∙ go (taken_listing f l) (following f l) (e ∙ ap number_of r)
    where
      go : (b : Bool) (o : Option (List ℕ)) → 17 ≡ number_of (cond b (findable o) (refuses 18 0)) → cond b (findable o) (refuses 18 0) ≡ refuses 17 0
      go true none z = refl
      go true (some p) z = absurd (omega (arith, z))
      go false o z = absurd (omega (arith, z))

  to_inner : (ps : List (List ℕ)) (l : Listing) → HandsOutC bs ns l ps → HandsOut (NextSays bs ns) l ps
  to_inner [] l w = let o = (calls.next_placement_lem bs ns l).exactly_one in (o.outcome, (o.ensured, o.ensured ∙ ap (of_good moved) (requests_17 l w.1.0)))
  to_inner (p ∷ ps) l w =
      let x = taken_so refl (requests bs ns l) (calls.requests_so bs ns l) w.1.0.0 in
      (w.0, (ap good (w.1.0.1 ∙ ap (moved_on l) x.1) ∙ ap (of_good moved) (sym x.1), (w.1.1.0, to_inner ps w.0 w.1.1.1)))

  of_inner : (ps : List (List ℕ)) (l : Listing) → HandsOut (NextSays bs ns) l ps → HandsOutC bs ns l ps
  of_inner [] l w = (listing_after bs ns l, (sym (ap number_of (of_refused moved (requests bs ns l) (sym w.1.0 ∙ w.1.1))), refl))
  of_inner (p ∷ ps) l w =
      let x = of_taken moved (requests bs ns l) (sym w.1.0) in
      (w.0, ((sym (ap number_of x.1), x.2 ∙ sym (ap (moved_on l) x.1)), (w.1.1.0, of_inner ps w.0 w.1.1.1)))

  -- the placement in the first eight entries
  abbrev placement : List ℕ → Placement
  placement p = record { at = take copy_limit p }

  allowed_inner : (p : List ℕ) → copy_limit ≤ length p → (n : ℕ) → AllowedLent bs ns p n
      → (r : Result (Unit {0}) Refusal) × (AllowedSays bs ns (placement p) r × ((says r ≡ good tt) ↔ (n ≡ 0)))
  allowed_inner p long n w =
      let q = take copy_limit p in
      let o = (calls.is_allowed bs ns (placement p)).exactly_one in
      let e : n ≡ number_of (allows bs ns q) = w ∙ ap (λ b. number_of (cond b (refuses 13 0) (allows bs ns q))) (le-ltb (length p) copy_limit long) in
      (o.outcome, (o.ensured, ((λ g. e ∙ ap number_of (sym o.ensured ∙ g)), (λ z. o.ensured ∙ (taken_so refl (allows bs ns q) (calls.allows_so bs ns q) (sym z ∙ e)).1))))

  abbrev inner : Lists bs ns (NextSays bs ns)
  inner = listed.lists bs ns h

  -- an allowed placement, lent as a slice
  lent_so : (p : Placement) (q : Result (Unit {0}) Refusal) → AllowedSays bs ns p q → says q ≡ good tt → (copy_limit ≤ length p.at) × AllowedLent bs ns p.at 0
  lent_so p q v e =
      let k = (allowed_parts (floating_of (tables_in bs ns)) p.at ((weights.is_allowed h p q v).1 e)).eight in
      let long : copy_limit ≤ length p.at = omega (arith, k) in
      let whole : take copy_limit p.at ≡ p.at = take_all copy_limit p.at (omega (arith, k)) in
      let said : allows_lent bs ns p.at ≡ good tt = rw (le-ltb (length p.at) copy_limit long, whole) (sym v ∙ e) in
      (long, sym (ap number_of said))

  none_c : (n : ℕ) (l' : Listing) → MovedOn bs ns fresh_listing n l' → (n ≡ 17) ↔ ((p : List ℕ) → copy_limit ≤ length p → AllowedLent bs ns p 0 → ⊥)
  none_c n l' w =
      let o = (calls.next_placement_lem bs ns fresh_listing).exactly_one in
      let d = inner.none o.outcome o.ensured in (
        (λ e p long v.
            let a = allowed_inner p long 0 v in
            d.0 (o.ensured ∙ ap (of_good moved) (requests_17 fresh_listing (sym e ∙ w.0))) (placement p) a.0 a.1.0 (a.1.1.1 refl)),
        (λ g.
            w.0
            ∙ ap number_of (of_refused moved (requests bs ns fresh_listing) (sym o.ensured ∙ d.1 (λ p q v e. let k = lent_so p q v e in g p.at k.0 k.1)))),
      )

  every_allowed : (ps : List (List ℕ)) → HandsOutC bs ns fresh_listing ps → (p : List ℕ) → copy_limit ≤ length p → (n : ℕ) → AllowedLent bs ns p n
      → In (take copy_limit p) ps ↔ (n ≡ 0)
  every_allowed ps w p long n v =
      let a = allowed_inner p long n v in
      let d = inner.every_allowed ps (to_inner ps fresh_listing w) (placement p) a.0 a.1.0 in
      ((λ i. a.1.1.0 (d.0 i)), (λ e. d.1 (a.1.1.1 e)))

  -- lent as slices: a placement is allowed exactly where some slice holds one
  lent_allowed : (p : List ℕ) → allowed (floating_of (tables_in bs ns)) p ≡ true → (copy_limit ≤ length p) × AllowedLent bs ns p 0
  lent_allowed p e =
      let o = (calls.is_allowed bs ns (record { at = p })).exactly_one in
      lent_so (record { at = p }) o.outcome o.ensured ((weights.is_allowed h (record { at = p }) o.outcome o.ensured).0 e)

  allowed_lent : (p : List ℕ) → copy_limit ≤ length p → AllowedLent bs ns p 0 → allowed (floating_of (tables_in bs ns)) (take copy_limit p) ≡ true
  allowed_lent p long w = let a = allowed_inner p long 0 w in (weights.is_allowed h (placement p) a.0 a.1.0).1 (a.1.1.1 refl)

  why : (old : List ℕ) → copy_limit ≤ length old → (c n c' : ℕ) (new : List ℕ) → WhyHanded bs ns old c n c' new
      → (n ≡ 0) × Reason (floating_of (tables_in bs ns)) (take c' new) × (drop c' new ≡ drop c' old)
      × ((c' ≡ 0) ↔ ((p : List ℕ) × (copy_limit ≤ length p) × AllowedLent bs ns p 0))
  why old long c n c' new w =
      let l = w.set in
      let said : why_lent bs ns old l ≡ good (length l) = rw (le-ltb (length old) copy_limit long) (weights.says_itself h (λ t. good (length l))) in
      let many : c' ≡ length l = w.counted.count_is ∙ ap (λ z. left z (λ k. k) c) said in
      let after : new ≡ laid l old = w.floaters_after ∙ ap (λ z. output_after z l old) said in
      let front : take c' new ≡ l = ap (take c') after ∙ ap (λ z. take z (laid l old)) many ∙ take-append_seam l (drop (length l) old) in
      let rest : drop c' new ≡ drop c' old = ap (drop c') after ∙ ap (λ z. drop z (laid l old)) many ∙ drop-append_seam l (drop (length l) old) ∙ ap (λ z. drop z old) (sym many) in
      let unless = whys.empty_why bs ns h l w.reason in (
        w.counted.number_is ∙ ap number_of said,
        subst (Reason (floating_of (tables_in bs ns))) (sym front) w.reason,
        rest,
        (
          (λ e. let p = unless.0 (no_length l (sym many ∙ e)) in let v = lent_allowed p.0 p.1 in (p.0, v.0, v.1)),
          (λ p. many ∙ ap length (unless.1 (take copy_limit p.0, allowed_lent p.0 p.1 p.2))),
        ),
      )

  total_inner : (m₀ : ℤ) (k₀ n : ℕ) (m : ℤ) (k : ℕ) → Totalled (totals bs ns) m₀ k₀ n m k → TotalSays bs ns (told_answer n m k)
  total_inner m₀ k₀ n m k w =
      let said = totals bs ns in
      ap (λ z. says (told_answer z m k)) w.numbered.number_is ∙ ap₂ (λ y z. says (told_answer (number_of said) y z)) w.millionths_is w.numbered.place_is
      ∙ told_so refl said (calls.totals_so bs ns) m₀ k₀

  ledger_long : (t : Tables) (p : List ℕ) → length (ledger t p) ≡ position_limit
  unfolding ledger
  ledger_long t p = length_tabled _ 0 position_limit

  adds_up : (m₀ : ℤ) (k₀ : ℕ) (m : ℤ) (k : ℕ) → Totalled (totals bs ns) m₀ k₀ 0 m k → (p : List ℕ) → copy_limit ≤ length p → AllowedLent bs ns p 0
      → (old : List ℤ) → position_limit ≤ length old → (i n j : ℕ) (new : List ℤ) → EnteredLent bs ns p old i n j new
      → (n ≡ 0) × (sum (take position_limit new) +ℤ labile_mass (tables_in bs ns) ≡ m)
  adds_up m₀ k₀ m k w p long v old room i n j new e =
      let t = tables_in bs ns in
      let q = take copy_limit p in
      let x = (calls.ledger bs ns (placement p)).exactly_one in
      let a = allowed_inner p long 0 v in
      let s = weights.adds_up bs ns h m (Ok m) (total_inner m₀ k₀ 0 m k w) refl (placement p) a.0 a.1.0 (a.1.1.1 refl) x.outcome x.ensured in
      let b = of_taken (λ x. record { at = ledger t q }) (books bs ns q) (sym x.ensured ∙ s.1.0) in
      let said : books_lent bs ns p old ≡ good tt = rw (le-ltb (length p) copy_limit long, le-ltb (length old) position_limit room) b.1 in
      let at : s.0.at ≡ ledger t q = ap (λ (y : Ledger). y.at) b.2 in
      let after : new ≡ laid (ledger t q) old = e.entries_after_is ∙ ap (λ z. entries_after z t q old) said in
      let front : take position_limit new ≡ ledger t q =
      ap (take position_limit) after ∙ ap (λ z. take z (laid (ledger t q) old)) (sym (ledger_long t q)) ∙ take-append_seam (ledger t q) (drop (length (ledger t q)) old)
      in
      (e.numbered.number_is ∙ ap number_of said, ap (λ z. sum z +ℤ labile_mass t) (front ∙ sym at) ∙ s.1.1)

  -- the display that is ensured, and what of it is told
  shown_is : (m₀ : ℤ) (k₀ n : ℕ) (m : ℤ) (k : ℕ) → Totalled (totals bs ns) m₀ k₀ n m k → (d : Display)
      → ((r : Shown) → ShownSays bs ns r → says_shown r ≡ good d) → shows bs ns ≡ good d
  shown_is m₀ k₀ n m k w d f = let o = (calls.shown bs ns).exactly_one in sym o.ensured ∙ f o.outcome o.ensured

  displays : (m₀ : ℤ) (k₀ : ℕ) (m : ℤ) (k : ℕ) → Totalled (totals bs ns) m₀ k₀ 0 m k
      → (x₀ : Float) (j₀ n : ℕ) (x : Float) (j : ℕ) → Displayed (shows bs ns) x₀ j₀ n x j → (n ≡ 0) × (x ≡ daltons m) × (j ≡ 0)
  displays m₀ k₀ m k w x₀ j₀ n x j d =
      let e = shown_is m₀ k₀ 0 m k w (a_mass (daltons m)) (weights.displays bs ns h m (Ok m) (total_inner m₀ k₀ 0 m k w) refl) in
      (d.number_is ∙ ap number_of e, d.mass_is ∙ ap (λ z. left z mass_of x₀) e, d.missing_is ∙ ap (λ z. left z lack_of j₀) e)

  lacks : (m₀ : ℤ) (k₀ : ℕ) (m : ℤ) (k : ℕ) → Totalled (totals bs ns) m₀ k₀ 16 m k
      → (x₀ : Float) (j₀ n : ℕ) (x : Float) (j : ℕ) → Displayed (shows bs ns) x₀ j₀ n x j → (n ≡ 0) × (j ≡ k)
  lacks m₀ k₀ m k w x₀ j₀ n x j d =
      let e = shown_is m₀ k₀ 16 m k w (lack k) (λ r v. (weights.lacks bs ns h k (Err (refusal_of 16 k)) (total_inner m₀ k₀ 16 m k w) r v).1 refl) in
      (d.number_is ∙ ap number_of e, d.missing_is ∙ ap (λ z. left z lack_of j₀) e)

  rows_c : (room : List Site) → row_limit ≤ length room → (c n c' : ℕ) (room' : List Site) → RowsHanded bs ns room c n c' room'
      → (n ≡ 0) × Rowed bs ns room room' c'
  rows_c room long c n c' room' w =
      let o = (calls.rows bs ns room).exactly_one in
      let r = rows.rows_kept bs ns h room long o.outcome.0 room' (o.ensured.0, w.rows_after_lem) in
      let said : rows_said bs ns room ≡ good r.0 = sym o.ensured.0 ∙ r.1.0 in
      let many : c' ≡ r.0 = w.counted.count_is ∙ ap (λ z. left z (λ k. k) c) said in
      (w.counted.number_is ∙ ap number_of said, subst (λ z. Rowed bs ns room room' z) (sym many) r.1.1)

  counted_c : (f : Tables → ℕ) (many : ℕ) → ((r : Result ℕ Refusal) → CountSays f bs ns r → says r ≡ good many) → CountedC bs ns f many
  counted_c f many says c n c' w =
      let o = (calls.count bs ns f).exactly_one in
      let said : counts bs ns f ≡ good many = sym o.ensured ∙ says o.outcome o.ensured in
      (w.number_is ∙ ap number_of said, w.count_is ∙ ap (λ z. left z (λ k. k) c) said)

  reckoned_c : (t : Spelling) → Reckoned t bs ns → ReckonedC t bs ns
  reckoned_c t r =
      record {
        residues = counted_c residue_count (length (meant t).residues) r.residues;
        brackets = counted_c bracket_count (length (meant t).brackets) r.brackets;
        floating = counted_c floater_count (length (floaters (meant t))) r.floating;
      }

  demand_3 : Demand3C bs ns
  demand_3 =
      record {
        ends = (inner.ends.0, of_inner inner.ends.0 fresh_listing inner.ends.1);
        every_allowed = every_allowed;
        ascending = λ ps w. inner.ascending ps (to_inner ps fresh_listing w);
        none = none_c;
        why = why;
        adds_up = adds_up;
        displays = displays;
        lacks = lacks;
        rows = rows_c;
      }

pub promises_c : PromisesC
promises_c =
    record {
      demand_1 = exported.demand_1 blocks.answers_c;
      accepts = accepts;
      tables = tables;
      refuses_by = refuses_by;
      reads_back = reads_back;
      one_entry = λ s bs ns bs₁ ns₁ out₁ m f t cs ms bs₂ ns₂ out₂ n g.
          (written.demand_2).one_entry s bs ns bs₁ ns₁ out₁ m (filed_inner f) t cs ms bs₂ ns₂ out₂ n (filed_inner g);
      demand_3 = λ s bs ns place p bs' ns' w.
          demand_3 bs' ns' (weights.taken_after (readers.was_read s bs ns (Ok tt) bs' ns' (read_inner s bs ns place 0 p bs' ns' w) refl));
      reckoned = λ s bs ns place p bs' ns' w t g e.
          let a = readers.was_read s bs ns (Ok tt) bs' ns' (read_inner s bs ns place 0 p bs' ns' w) refl in
          let h = weights.taken_after a in
          reckoned_c bs' ns' h t (weights.reckoned a h t (readers.line_means a t g e));
    }
