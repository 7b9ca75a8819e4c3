-- A list of places: a word byte by byte, a place by its word, and the list place by place. Assumes nothing.
use mathlib.Core.Path.{◌≡◌, refl, sym, ap, subst, ◌∙◌}
use mathlib.Core.Bool.{true, false, cond, ◌&&◌}
use mathlib.Core.Option.{Option, none, some}
use mathlib.Core.List.{List, [], ◌∷◌, ◌++◌, map, map-append}
use Prim.Native.Nat.{ℕ, suc, ◌+◌, ◌≤◌, ◌<◌, min}
use native.Mathlib.Omega.{arith}
use native.Mathlib.Nat.{add-zero}
use borrow.Author.Tests.{eq-eqb, ne_eqb, eqb-true, eqb-false, lt-ltb, ltb-true, ltb-false}
use lib.Dec.{eqb, ltb}
use lib.ListN.{length, get_or, drop, length-append, length-map, length-drop, drop_of_length-le}
use lib.Seq.{drop-cons, drop-append-le}
use Rattle.basics.specs.Choice.{by_test}
use Rattle.basics.specs.Tests.{and_left, and_right}
use Rattle.scope.specs.Bytes.{bytes, upper, is_letter, comma}
use Rattle.scope.specs.Limits.{place_limit}
use Rattle.scope.specs.Line.{Place}
use Rattle.scope.specs.Lists.{given}
use Rattle.scope.specs.Places.{expected, placed, owed}
use Rattle.scope.specs.Reading.{Held, placing, stuck}
use Rattle.scope.specs.Refusals.{least}
use Rattle.reading_laws.proofs.Run.{rest}
use Rattle.texts.specs.Texts.{coded}
use Rattle.std.specs.Prelude.{Some, None, Result, Ok, Err}
use Rattle.std.specs.Prelude.{Option as Perhaps}
use Rattle.scope.specs.declared.grammar.Stuck.{Stuck}
use Rattle.sites.specs.Says.{terminus_at, place_of, place_end, Stand, WordSays, PlaceReads, PlaceSays, Counts, Before, ListReads}
use Rattle.sites.proofs.Ways.{over, begins, begins_not, word_begins, word_on, word_off, follows, listed}
use Rattle.sites.proofs.Termini.{line_ends_lem, found_none, word_of, or_none}

-- ---- a word: k of its bytes are read
unfoldable pub WordOn : List ℕ → ℕ → List ℕ → ℕ → Type 0
WordOn line at word k = (h : Held ℕ) (ps : List (Place ℕ)) (p : Place ℕ) → rest line at (placing h (owed ps p word)) ≡ rest line (at + k) (placing h (owed ps p (drop k word)))

module _ (line : List ℕ) (at : ℕ) (word : List ℕ) where
  pub word_starts : WordOn line at word 0
  unfolding WordOn
  word_starts h ps p = rw add-zero

  module _ (k : ℕ) (on : WordOn line at word k) where
    pub word_whole : length word ≤ k → k ≤ length word → at + k ≤ length line → WordSays line at word (Ok (at + k))
    unfolding WordOn WordSays
    word_whole a b w =
        let e : k ≡ length word = omega arith in
        record {
          is_next_is = ap (λ n. at + n) e;
          within = w;
          on = λ h ps p. on h ps p ∙ ap (λ z. rest line (at + k) (placing h (owed ps p z))) (drop_of_length-le word {i = k} a);
        }

    module _ (a : k < length word) where
      opened : (h : Held ℕ) (ps : List (Place ℕ)) (p : Place ℕ)
          → rest line at (placing h (owed ps p word)) ≡ rest line (at + k) (placing h (owed ps p (get_or word k 0 ∷ drop (suc k) word)))
      unfolding WordOn
      opened h ps p = on h ps p ∙ ap (λ z. rest line (at + k) (placing h (owed ps p z))) (drop-cons word k 0 a)

      pub word_ends_early : at + k ≡ length line → WordSays line at word (Err (record { at = at + k }))
      unfolding WordSays
      word_ends_early e h ps p = opened h ps p ∙ over line h ps (at + k) _ (omega arith) ∙ ap stuck (sym e)

      module _ (b : at + k < length line) (u v : ℕ) (e : u ≡ upper (get_or word k 0)) (f : v ≡ upper (get_or line (at + k) 0)) where
        pub word_differs : (u ≡ v → ⊥) → WordSays line at word (Err (record { at = at + k }))
        unfolding WordSays
        word_differs n h ps p =
            opened h ps p ∙ word_off line h ps (at + k) p (get_or word k 0) (drop (suc k) word) b (ne_eqb _ _ (λ z. n (e ∙ z ∙ sym f)))

        pub word_more : u ≡ v → WordOn line at word (k + 1)
        unfolding WordOn
        word_more s h ps p =
            let m : at + k + 1 ≡ at + (k + 1) = omega arith in
            opened h ps p ∙ word_on line h ps (at + k) p (get_or word k 0) (drop (suc k) word) b (eq-eqb _ _ (sym e ∙ s ∙ f))
            ∙ ap (λ j. rest line j (placing h (owed ps p (drop (suc k) word)))) m
            ∙ ap (λ j. rest line (at + (k + 1)) (placing h (owed ps p (drop j word)))) (let n : suc k ≡ k + 1 = omega arith in n)

-- ---- a place
module _ (line : List ℕ) (at : ℕ) where
  pub place_over : at ≡ length line → PlaceSays line at (Err (record { at = at }))
  unfolding PlaceSays
  place_over e h ps = over line h ps at (expected ps) (omega arith) ∙ ap stuck (sym e)

  module _ (k : at < length line) where
    pub place_not : is_letter (get_or line at 0) ≡ false → PlaceSays line at (Err (record { at = at }))
    unfolding PlaceSays
    place_not e h ps = begins_not line h ps at k e

    module _ (l : is_letter (get_or line at 0) ≡ true) where
      pub letter_reads : terminus_at line at ≡ 0 → PlaceSays line at (Ok (at + 1))
      unfolding place_of place_end PlaceSays
      letter_reads z =
          record {
            is_next_is = rw z;
            past = omega arith;
            within = omega arith;
            on = λ h ps. rw z (begins line h ps at k l);
            whole = λ d. rw z (or_none line at z d);
          }

      module _ (n : terminus_at line at ≡ 0 → ⊥) where
        pub word_inside : at + 2 ≤ length line
        word_inside = by_test (ltb (at + 1) (length line)) (λ t. omega (arith, lt_of t)) (λ t. absurd (n (found_none line at (sym (line_ends_lem line at (le_of t))))))
          where
            lt_of : ltb (at + 1) (length line) ≡ true → at + 1 < length line
            lt_of t = ltb-true (at + 1) (length line) t

            le_of : ltb (at + 1) (length line) ≡ false → length line ≤ at + 1
            le_of t = ltb-false (at + 1) (length line) t

        to_word : (h : Held ℕ) (ps : List (Place ℕ))
            → rest line at (placing h (expected ps)) ≡ rest line (at + 2) (placing h (owed ps (place_of line at) (bytes "term")))
        unfolding place_of
        to_word h ps =
            let w = word_of line at n in
            let i = word_inside in
            let m : at + 1 + 1 ≡ at + 2 = omega arith in
            begins line h ps at k l
            ∙ word_begins line h ps (at + 1) (record { site = upper (get_or line at 0); at = at }) (terminus_at line at) (omega arith) w.0 w.1
            ∙ rw (m, ne_eqb (terminus_at line at) 0 n)

        pub word_says : (r : Result ℕ Stuck) → WordSays line (at + 2) (bytes "term") r → PlaceSays line at r
        unfolding place_of place_end WordSays PlaceSays
        word_says (Err e) s = λ h ps. to_word h ps ∙ s h ps (place_of line at)
        word_says (Ok next) s =
            record {
              is_next_is = s.is_next_is ∙ rw (ne_eqb (terminus_at line at) 0 n) (let m : at + 2 + 4 ≡ at + 6 = omega arith in m);
              past = omega (arith, s.is_next_is);
              within = s.within;
              on = λ h ps. to_word h ps ∙ s.on h ps (place_of line at);
              whole = λ d. rw (ne_eqb (terminus_at line at) 0 n) (word_of line at n).2;
            }

pub place_read : (line : List ℕ) (at next : ℕ) → PlaceSays line at (Ok next) → PlaceReads line at next
unfolding PlaceSays
place_read line at next p = p

-- ---- the first place past a limit, with one place more behind
least_snoc : (l : List ℕ) (i : ℕ) → least (l ++ (i ∷ [])) ≡ some (given (least l) (λ m. min m i) i)
unfolding least
least_snoc [] i = refl
least_snoc (x ∷ l) i = rw (least_snoc l i) (ap some (go (least l)))
  where
    go : (o : Option ℕ) → min x (given o (λ m. min m i) i) ≡ min (given o (min x) x) i
    go none = refl
    go (some m) = omega arith

-- it is told once and stays
told_first : (o : Option ℕ) (i : ℕ) → (o ≡ none → ⊥) → Before (coded o) i → coded (some (given o (λ m. min m i) i)) ≡ coded o
told_first none i n h = absurd (n refl)
told_first (some m) i n h = let e : min m i ≡ m = omega arith in rw e

some_left : (l : List ℕ) → 0 < length l → least l ≡ none → ⊥
unfolding least
some_left [] h e = omega arith
some_left (x ∷ l) h e = let z : ◌≡◌ {A = ℕ} 0 1 = cc in omega arith

pub first_past : (n : ℕ) (l : List ℕ) (i : ℕ) (x : Perhaps ℕ) → x ≡ coded (least (drop n l)) → Before x i → cond (eqb (length l) n) (Some i) x ≡ coded (least (drop n (l ++ (i ∷ []))))
unfolding least
first_past n l i x e h =
    by_test (ltb (length l) n)
    (λ t. let k = ltb-true (length l) n t in
    let a : length (l ++ (i ∷ [])) ≤ n = omega (arith, length-append l (i ∷ [])) in
    rw (ne_eqb (length l) n (λ z. omega arith), drop_of_length-le (l ++ (i ∷ [])) {i = n} a) (e ∙ ap (λ z. coded (least z)) (drop_of_length-le l {i = n} (omega arith))))
    (λ t. let k = ltb-false (length l) n t in
    rw (drop-append-le n l (i ∷ []) k, least_snoc (drop n l) i)
    (by_test (eqb (length l) n)
    (λ s. let m = eqb-true (length l) n s in rw (s, drop_of_length-le l {i = n} (omega arith)))
    (λ s. let m = eqb-false (length l) n s in
    let q : 0 < length (drop n l) = by_test (ltb n (length l)) (λ u. omega (arith, length-drop n l, ltb-true n (length l) u)) (λ u. absurd (m (let v = ltb-false n (length l) u in omega arith))) in
    rw s (e ∙ sym (told_first (least (drop n l)) i (some_left (drop n l) q) (subst (λ o. Before o i) e h))))))

-- ---- the list, before the place at i
pub record SoFar (line : List ℕ) (at i many : ℕ) (x : Perhaps ℕ) : Type 0 where
  pub sites : List (Place ℕ)
  pub counts : Counts sites many x
  pub from : at ≤ i
  pub within : i ≤ length line
  pub few : many ≤ i
  pub before : Before x i
  pub stand : Stand line at sites i
  pub on : (h : Held ℕ) → rest line at (placing h (expected [])) ≡ rest line i (placing h (expected sites))

pub so_far_none : (line : List ℕ) (at : ℕ) → at ≤ length line → SoFar line at at 0 None
unfolding least
so_far_none line at k =
    record {
      sites = [];
      counts = record { many_is = refl; over_is = refl };
      from = omega arith;
      within = k;
      few = omega arith;
      before = tt;
      stand = refl;
      on = λ h. refl;
    }

stand_more : (line : List ℕ) (at : ℕ) (ps : List (Place ℕ)) (i : ℕ) → Stand line at ps i → place_end line i ≤ length line
    → Stand line at (ps ++ (place_of line i ∷ [])) (place_end line i + 1)
stand_more line at [] i e k = rw e (k, refl, refl)
stand_more line at (p ∷ ps) i s k = (s.0, s.1, stand_more line (place_end line at + 1) ps i s.2 k)

count_more : (line : List ℕ) (ps : List (Place ℕ)) (many : ℕ) (x : Perhaps ℕ) (i : ℕ) → Counts ps many x → Before x i
    → Counts (ps ++ (place_of line i ∷ [])) (many + 1) (cond (eqb many place_limit) (Some i) x)
unfolding place_of
count_more line ps many x i c k =
    let l = map (λ p. p.at) ps in
    let e : length l ≡ many = length-map ps (λ p. p.at) ∙ sym c.many_is in
    record {
      many_is = omega (arith, c.many_is, length-append ps (place_of line i ∷ []));
      over_is =
          ap (λ n. cond (eqb n place_limit) (Some i) x) (sym e)
          ∙ first_past place_limit l i x c.over_is k
          ∙ ap (λ z. coded (least (drop place_limit z))) (sym (map-append (λ p. p.at) ps (place_of line i ∷ [])));
    }

before_more : (x : Perhaps ℕ) (i j : ℕ) → Before x i → i < j → Before x j
before_more None i j h l = tt
before_more (Some k) i j h l = omega arith

module _ (line : List ℕ) (at i many : ℕ) (x : Perhaps ℕ) (s : SoFar line at i many x) where
  pub list_stuck : (e : Stuck) → PlaceSays line i (Err e) → (h : Held ℕ) → rest line at (placing h (expected [])) ≡ stuck e.at
  unfolding PlaceSays
  list_stuck e p h = s.on h ∙ p h s.sites

  module _ (next : ℕ) (p : PlaceReads line i next) (y : Perhaps ℕ) (e : y ≡ cond (eqb many place_limit) (Some i) x) where
    abbrev more : List (Place ℕ)
    more = s.sites ++ (place_of line i ∷ [])

    counted : Counts more (many + 1) y
    counted = rw e (count_more line s.sites many x i s.counts s.before)

    stood : Stand line at more (next + 1)
    stood = rw p.is_next_is (stand_more line at s.sites i s.stand (let w = p.within in let q = p.is_next_is in omega arith))

    behind : Before y next
    behind = rw e (by_test (eqb many place_limit) (λ t. rw t p.past) (λ t. rw t (before_more x i next s.before p.past)))

    to_place : (h : Held ℕ) → rest line at (placing h (expected [])) ≡ rest line next (placing h (placed s.sites (place_of line i)))
    to_place h = s.on h ∙ p.on h s.sites

    pub list_ends : (ltb next (length line) && eqb (get_or line next 0) comma) ≡ false → ListReads line at next (many + 1) y
    list_ends n =
        record {
          sites = more;
          counts = counted;
          past = omega (arith, s.from, p.past);
          within = p.within;
          many_within = omega (arith, s.few, p.past);
          over_within = behind;
          stand = stood;
          on = λ h. to_place h ∙ listed line h s.sites next (place_of line i) (λ k. rw (lt-ltb next (length line) k) at n) p.whole;
        }

    pub list_more : (ltb next (length line) && eqb (get_or line next 0) comma) ≡ true → SoFar line at (next + 1) (many + 1) y
    list_more t =
        let k = ltb-true next (length line) (and_left (ltb next (length line)) (eqb (get_or line next 0) comma) t) in
        record {
          sites = more;
          counts = counted;
          from = omega (arith, s.from, p.past);
          within = omega arith;
          few = omega (arith, s.few, p.past);
          before = before_more y next (next + 1) behind (omega arith);
          stand = stood;
          on = λ h. to_place h ∙ follows line h s.sites next (place_of line i) k (and_right (ltb next (length line)) (eqb (get_or line next 0) comma) t);
        }
