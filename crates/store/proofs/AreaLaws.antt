-- Each store lies at the end of what a piece of the areas holds: one part, one bracket more.
use mathlib.Core.Path.{◌≡◌, refl, sym, ap, ap₂, ◌∙◌}
use mathlib.Core.List.{List, [], ◌∷◌, ◌++◌, map, append_assoc, append-nil, map-append}
use Prim.Native.Nat.{ℕ, ◌+◌, ◌-◌, ◌*◌, ◌≤◌, ◌<◌}
use native.Mathlib.Nat.{add-zero}
use native.Mathlib.Omega.{arith}
use lib.IntN.{ℤ, pos}
use lib.ListN.{length, set, replicate, length-append, length-map, length-replicate, replicate-append-replicate}
use lib.Seq.{sets}
use Rattle.scope.specs.Limits.{line_limit, bracket_limit, part_limit, place_limit}
use Rattle.scope.specs.Line.{Place, Part, Bracket}
use Rattle.scope.specs.Lists.{given, flat, padded}
use Rattle.scope.specs.Tables.{millionths, score_of}
use Rattle.scope.specs.Layout.{part_size, head_size, places_size, row_size, rows_at, texts_at, numbers_size, number_row_size, row_at, part_at, places_at, mass_at, mass_in, packed, part_row, part_rows, places_row, bracket_row, bracket_texts, rows, number_row}
use Rattle.basics.specs.Lists.{flat_snoc}
use Rattle.layout_laws.proofs.LayoutLaws.{padded_length, part_rows_length, bracket_row_length, head_of}
use Rattle.sheet.proofs.RowLaws.{sets_in}
use Rattle.store.specs.Areas.{area_with, numbers_with, Pieces, AreasAre, head_added, brackets_added}
use Rattle.store.specs.PartPut.{PartsPut}
use Rattle.store.specs.BracketPut.{places_put, BracketPut, BracketsPut}

-- ---- any piece
module _ {A : Type 0} (z : A) (n : ℕ) where
  -- it is its elements, so many unused places, and the rest of them
  room_split : (l : List A) (m : ℕ) → length l + m ≤ n → padded z n l ≡ l ++ (replicate m z ++ replicate (n - (length l + m)) z)
  room_split l m h =
      let e : m + (n - (length l + m)) ≡ n - length l = omega arith in
      ap (λ x. l ++ x) (ap (λ k. replicate k z) (sym e) ∙ sym (replicate-append-replicate m (n - (length l + m)) z))

  -- elements put at the end of what it holds
  pub store_end : (p l s vs : List A) (i : ℕ) → i ≡ length p + length l → length l + length vs ≤ n
      → sets (p ++ (padded z n l ++ s)) i vs ≡ p ++ (padded z n (l ++ vs) ++ s)
  store_end p l s vs i e h =
      let w = replicate (n - (length l + length vs)) z in
      let q : i ≡ length (p ++ l) = e ∙ sym (length-append p l) in
      ap (λ x. sets (p ++ (x ++ s)) i vs) (room_split l (length vs) h)
      ∙ ap (λ x. sets x i vs) (regroup p l (replicate (length vs) z) w s)
      ∙ sets_in (p ++ l) (replicate (length vs) z) (w ++ s) vs i q (length-replicate (length vs) z)
      ∙ sym (regroup p l vs w s)
      ∙ ap (λ x. p ++ (x ++ s)) (sym (append_assoc l vs w) ∙ ap (λ k. (l ++ vs) ++ replicate (n - k) z) (sym (length-append l vs)))
    where
      regroup : (p l m w s : List A) → p ++ ((l ++ (m ++ w)) ++ s) ≡ (p ++ l) ++ (m ++ (w ++ s))
      regroup p l m w s = simp append_assoc

  -- unused places may be counted to the last elements
  pub absorb : (m : ℕ) (l r : List A) → length r ≤ m → length l + m ≤ n → padded z n (l ++ r) ≡ padded z n (l ++ padded z m r)
  absorb m l r h k =
      let a = length-append l r in
      let b = length-append l (padded z m r) in
      let c = padded_length z m r h in
      let e : n - length (l ++ r) ≡ m - length r + (n - length (l ++ padded z m r)) = omega arith in
      ap (λ j. (l ++ r) ++ replicate j z) e
      ∙ ap (λ x. (l ++ r) ++ x) (sym (replicate-append-replicate (m - length r) (n - length (l ++ padded z m r)) z))
      ∙ regroup l r (replicate (m - length r) z) (replicate (n - length (l ++ padded z m r)) z)
    where
      regroup : (l r x y : List A) → (l ++ r) ++ (x ++ y) ≡ (l ++ (r ++ x)) ++ y
      regroup l r x y = simp append_assoc

-- ---- the area of bytes
module _ (front rows texts past : List ℕ) (f : length front ≡ rows_at) where
  -- texts behind the texts
  put_texts : (vs : List ℕ) (i : ℕ) → length rows ≤ bracket_limit * row_size → i ≡ texts_at + length texts → length texts + length vs ≤ line_limit
      → sets (area_with front rows texts past) i vs ≡ area_with front rows (texts ++ vs) past
  put_texts vs i r e h =
      let l = length-append front (padded 0 (bracket_limit * row_size) rows) in
      let p = padded_length 0 (bracket_limit * row_size) rows r in
      ap (λ x. sets x i vs) (sym (append_assoc front (padded 0 (bracket_limit * row_size) rows) (padded 0 line_limit texts ++ past)))
      ∙ store_end 0 line_limit (front ++ padded 0 (bracket_limit * row_size) rows) texts past vs i (omega arith) h
      ∙ append_assoc front (padded 0 (bracket_limit * row_size) rows) (padded 0 line_limit (texts ++ vs) ++ past)

  -- a row behind the rows
  put_rows : (vs : List ℕ) (i : ℕ) → i ≡ rows_at + length rows → length rows + length vs ≤ bracket_limit * row_size
      → sets (area_with front rows texts past) i vs ≡ area_with front (rows ++ vs) texts past
  put_rows vs i e h = store_end 0 (bracket_limit * row_size) front rows (padded 0 line_limit texts ++ past) vs i (omega arith) h

-- ---- the same pieces, said in other words
pub areas_as : {a : Pieces} {rows texts : List ℕ} {masses : List ℤ} {r t n r' t' n' : ℕ} {bytes : List ℕ} {numbers : List ℤ} → a.rows ≡ rows → a.texts ≡ texts → a.masses ≡ masses → r ≡ r' → t ≡ t' → n ≡ n'
    → AreasAre a r t n bytes numbers
    → AreasAre (record { front = a.front; rows = rows; texts = texts; past = a.past; masses = masses; beyond = a.beyond }) r' t' n' bytes numbers
areas_as {a} er et em eq ev ew w =
    record {
      front_long = w.front_long;
      rows_long = ap length (sym er) ∙ w.rows_long ∙ eq;
      texts_long = ap length (sym et) ∙ w.texts_long ∙ ev;
      masses_long = ap length (sym em) ∙ w.masses_long ∙ ew;
      bytes_are = w.bytes_are ∙ ap₂ (λ y z. area_with a.front y z a.past) er et;
      numbers_are = w.numbers_are ∙ ap (λ y. numbers_with y a.beyond) em;
    }

-- ---- rows of parts
rows_snoc : (t : ℕ) (ps : List (Part ℕ)) (p : Part ℕ) → part_rows t (ps ++ (p ∷ [])) ≡ part_rows t ps ++ part_row (t + length (flat packed ps)) p
unfolding part_rows flat
rows_snoc t [] p = append-nil (part_row t p) ∙ ap (λ n. part_row n p) (sym (add-zero t))
rows_snoc t (q ∷ ps) p =
    let e : t + length (packed q) + length (flat packed ps) ≡ t + length (packed q ++ flat packed ps) = omega (arith, length-append (packed q) (flat packed ps)) in
    ap (λ x. part_row t q ++ x) (rows_snoc (t + length (packed q)) ps p ∙ ap (λ n. part_rows (t + length (packed q)) ps ++ part_row n p) e)
    ∙ sym (append_assoc (part_row t q) (part_rows (t + length (packed q)) ps) (part_row (t + length (packed q ++ flat packed ps)) p))

abbrev mass_of : Part ℕ → ℤ
mass_of p = mass_in p.value

-- ---- parts of bracket k, behind its head
pub no_parts_lem : {k t : ℕ} {a : Pieces} {bytes : List ℕ} {numbers : List ℤ} → AreasAre a (k * row_size + head_size) t (k * number_row_size) bytes numbers
    → PartsPut k t [] a t bytes numbers
unfolding part_rows flat
no_parts_lem {a = a} w =
    record { texts_are = omega arith; areas_are = areas_as (sym (append-nil a.rows)) (sym (append-nil a.texts)) (sym (append-nil a.masses)) (omega arith) refl (omega arith) w }

pub part_more : {a : Pieces} {k j t u : ℕ} {ps : List (Part ℕ)} (p : Part ℕ) {bytes : List ℕ} {numbers : List ℤ} {bytes' : List ℕ} {numbers' : List ℤ}
    → PartsPut k t ps a u bytes numbers → j ≡ length ps → k < bracket_limit → j < part_limit → u + length (packed p) ≤ line_limit
    → bytes' ≡ sets (sets bytes (texts_at + u) (packed p)) (part_at k j) (part_row u p) → numbers' ≡ set numbers (mass_at k j) (mass_of p)
    → PartsPut k t (ps ++ (p ∷ [])) a (u + length (packed p)) bytes' numbers'
part_more {a} {k} {j} {t} {u} {ps} p w f few-k few-j room eb en =
    let r = a.rows ++ part_rows t ps in
    let x = a.texts ++ flat packed ps in
    let ms = a.masses ++ map mass_of ps in
    let e = w.texts_are in
    let l0 = w.areas_are.front_long in
    let l1 = w.areas_are.rows_long in
    let l2 = w.areas_are.texts_long in
    let l3 = w.areas_are.masses_long in
    let ls = length-append ps (p ∷ []) in
    let rows_are : r ++ part_row u p ≡ a.rows ++ part_rows t (ps ++ (p ∷ [])) =
    append_assoc a.rows (part_rows t ps) (part_row u p) ∙ ap (λ y. a.rows ++ y) (ap (λ n. part_rows t ps ++ part_row n p) e ∙ sym (rows_snoc t ps p)) in
    let texts-now : x ++ packed p ≡ a.texts ++ flat packed (ps ++ (p ∷ [])) =
    append_assoc a.texts (flat packed ps) (packed p) ∙ ap (λ y. a.texts ++ y) (sym (flat_snoc packed ps p)) in
    let masses-now : ms ++ (mass_of p ∷ []) ≡ a.masses ++ map mass_of (ps ++ (p ∷ [])) =
    append_assoc a.masses (map mass_of ps) (mass_of p ∷ []) ∙ ap (λ y. a.masses ++ y) (sym (map-append mass_of ps (p ∷ []))) in
    record {
      texts_are = omega (arith, ap length (flat_snoc packed ps p), length-append (flat packed ps) (packed p));
      areas_are =
          record {
            front_long = l0;
            rows_long = omega (arith, ap length rows_are, length-append r (part_row u p));
            texts_long = omega (arith, ap length texts-now, length-append x (packed p));
            masses_long = omega (arith, ap length masses-now, length-append ms (mass_of p ∷ []));
            bytes_are =
                eb
                ∙ ap (λ b. sets (sets b (texts_at + u) (packed p)) (part_at k j) (part_row u p)) w.areas_are.bytes_are
                ∙ ap (λ b. sets b (part_at k j) (part_row u p)) (put_texts a.front r x a.past l0 (packed p) (texts_at + u) (omega arith) (omega arith) (omega arith))
                ∙ put_rows a.front r (x ++ packed p) a.past l0 (part_row u p) (part_at k j) (omega arith) (omega arith)
                ∙ ap₂ (λ y z. area_with a.front y z a.past) rows_are texts-now;
            numbers_are =
                en
                ∙ ap (λ n. set n (mass_at k j) (mass_of p)) w.areas_are.numbers_are
                ∙ store_end (pos 0) numbers_size [] ms a.beyond (mass_of p ∷ []) (mass_at k j) (omega arith) (omega arith)
                ∙ ap (λ y. numbers_with y a.beyond) masses-now;
          };
    }

-- ---- the row of places is what is put of them, with zeros behind
places_filled : (ps : List (Place ℕ)) → padded 0 places_size (places_put ps) ≡ places_row ps
places_filled ps =
    let sites = map (λ p. p.site) ps in
    let e : places_size - length (places_put ps) ≡ place_limit - length sites = omega arith in
    ap (λ n. places_put ps ++ replicate n 0) e

-- behind a head and the rows of its parts, where the places begin: both are filled up with zeros
put_places : (front rows head parts texts past : List ℕ) (ps : List (Place ℕ)) (k : ℕ) → length front ≡ rows_at → length rows ≡ k * row_size → length head ≡ head_size
    → length parts ≤ part_limit * part_size → length ps ≤ place_limit → k < bracket_limit
    → sets (area_with front ((rows ++ head) ++ parts) texts past) (places_at k) (places_put ps)
    ≡ area_with front (rows ++ (head ++ (padded 0 (part_limit * part_size) parts ++ places_row ps))) texts past
put_places front rows head parts texts past ps k lf lr lh lp few-ps few-k =
    let row = padded 0 (part_limit * part_size) parts in
    let all = bracket_limit * row_size in
    let behind = padded 0 line_limit texts ++ past in
    let l1 = length-append rows head in
    let l2 = length-append (rows ++ head) row in
    let l3 = padded_length 0 (part_limit * part_size) parts lp in
    let l4 = length-map ps (λ p. p.site) in
    ap (λ x. sets (front ++ (x ++ behind)) (places_at k) (places_put ps)) (absorb 0 all (part_limit * part_size) (rows ++ head) parts lp (omega arith))
    ∙ put_rows front ((rows ++ head) ++ row) texts past lf (places_put ps) (places_at k) (omega arith) (omega arith)
    ∙ ap (λ x. front ++ (x ++ behind))
    (absorb 0 all places_size ((rows ++ head) ++ row) (places_put ps) (omega arith) (omega arith)
    ∙ ap (padded 0 all) (ap (λ x. ((rows ++ head) ++ row) ++ x) (places_filled ps) ∙ regroup rows head row (places_row ps)))
  where
    regroup : (x y z w : List ℕ) → ((x ++ y) ++ z) ++ w ≡ x ++ (y ++ (z ++ w))
    regroup x y z w = simp append_assoc

-- ---- bracket k: its head, then its parts, its places and its score
pub head_more : {a : Pieces} {k t : ℕ} (b : Bracket ℕ) {bytes : List ℕ} {numbers : List ℤ} {bytes' : List ℕ}
    → AreasAre a (k * row_size) t (k * number_row_size) bytes numbers → k < bracket_limit → bytes' ≡ sets bytes (row_at k) (head_of b)
    → AreasAre (head_added (head_of b) a) (k * row_size + head_size) t (k * number_row_size) bytes' numbers
head_more {a} {k} {t} b w few-k e =
    let l0 = w.front_long in
    let l1 = w.rows_long in
    record {
      front_long = l0;
      rows_long = omega (arith, length-append a.rows (head_of b));
      texts_long = w.texts_long;
      masses_long = w.masses_long;
      bytes_are = e ∙ ap (λ x. sets x (row_at k) (head_of b)) w.bytes_are ∙ put_rows a.front a.rows a.texts a.past l0 (head_of b) (row_at k) (omega arith) (omega arith);
      numbers_are = w.numbers_are;
    }

pub bracket_more : {a : Pieces} {k t u : ℕ} (b : Bracket ℕ) {bytes bytes' : List ℕ} {numbers numbers' : List ℤ}
    → PartsPut k t b.parts (head_added (head_of b) a) u bytes numbers → k < bracket_limit → length b.parts ≤ part_limit → length b.places ≤ place_limit
    → bytes' ≡ sets bytes (places_at k) (places_put b.places)
    → numbers' ≡ set numbers (mass_at k part_limit) (given (score_of b.parts) millionths (pos 0))
    → length a.rows ≡ k * row_size → length a.masses ≡ k * number_row_size
    → BracketPut k t b a u bytes' numbers'
bracket_more {a} {k} {t} {u} b w few-k few-p few-ps eb en l1 l3 =
    let ps = b.parts in
    let ms = map mass_of ps in
    let score = given (score_of ps) millionths (pos 0) in
    let lp = part_rows_length t ps in
    let ln = length-map ps mass_of in
    let lq = padded_length (pos 0) part_limit ms (omega arith) in
    let lm = length-append a.masses (padded (pos 0) part_limit ms) in
    record {
      texts_are = w.texts_are;
      areas_are =
          record {
            front_long = w.areas_are.front_long;
            rows_long = omega (arith, length-append a.rows (bracket_row t b), bracket_row_length t b few-p few-ps);
            texts_long = w.areas_are.texts_long;
            masses_long = omega (arith, length-append a.masses (padded (pos 0) part_limit ms ++ (score ∷ [])), length-append (padded (pos 0) part_limit ms) (score ∷ []));
            bytes_are =
                eb
                ∙ ap (λ x. sets x (places_at k) (places_put b.places)) w.areas_are.bytes_are
                ∙ put_places a.front a.rows (head_of b) (part_rows t ps) (a.texts ++ flat packed ps) a.past b.places k w.areas_are.front_long l1 refl
                (omega arith) few-ps few-k;
            numbers_are =
                en
                ∙ ap (λ n. set n (mass_at k part_limit) score)
                (w.areas_are.numbers_are ∙ ap (λ n. n ++ a.beyond) (absorb (pos 0) numbers_size part_limit a.masses ms (omega arith) (omega arith)))
                ∙ store_end (pos 0) numbers_size [] (a.masses ++ padded (pos 0) part_limit ms) a.beyond (score ∷ []) (mass_at k part_limit) (omega arith) (omega arith)
                ∙ ap (λ y. numbers_with y a.beyond) (append_assoc a.masses (padded (pos 0) part_limit ms) (score ∷ []));
          };
    }

-- ---- brackets, where there were none
rows_last : (t : ℕ) (ks : List (Bracket ℕ)) (b : Bracket ℕ) → rows t (ks ++ (b ∷ [])) ≡ rows t ks ++ bracket_row (t + length (flat bracket_texts ks)) b
unfolding rows flat
rows_last t [] b = append-nil (bracket_row t b) ∙ ap (λ n. bracket_row n b) (sym (add-zero t))
rows_last t (k ∷ ks) b =
    let e : t + length (bracket_texts k) + length (flat bracket_texts ks) ≡ t + length (bracket_texts k ++ flat bracket_texts ks) =
    omega (arith, length-append (bracket_texts k) (flat bracket_texts ks)) in
    ap (λ x. bracket_row t k ++ x) (rows_last (t + length (bracket_texts k)) ks b ∙ ap (λ n. rows (t + length (bracket_texts k)) ks ++ bracket_row n b) e)
    ∙ sym (append_assoc (bracket_row t k) (rows (t + length (bracket_texts k)) ks) (bracket_row (t + length (bracket_texts k ++ flat bracket_texts ks)) b))

pub no_brackets : {a : Pieces} {bytes : List ℕ} {numbers : List ℤ} → AreasAre a 0 0 0 bytes numbers → BracketsPut [] a bytes numbers
unfolding rows flat
no_brackets {a = a} w =
    record { areas_are = areas_as (sym (append-nil a.rows)) (sym (append-nil a.texts)) (sym (append-nil a.masses)) refl refl refl w }

pub brackets_more : {a : Pieces} {k t r : ℕ} (ks : List (Bracket ℕ)) {b : Bracket ℕ} {bytes : List ℕ} {numbers : List ℤ}
    → BracketPut k t b (brackets_added ks a) r bytes numbers → k ≡ length ks → t ≡ length (flat bracket_texts ks)
    → BracketsPut (ks ++ (b ∷ [])) a bytes numbers
brackets_more {a} {k} {t} {r} ks {b} w e f =
    let z : t ≡ 0 + length (flat bracket_texts ks) = omega arith in
    let l = length-append ks (b ∷ []) in
    let x = ap length (flat_snoc bracket_texts ks b) in
    let y = length-append (flat bracket_texts ks) (bracket_texts b) in
    record {
      areas_are =
          areas_as
          (append_assoc a.rows (rows 0 ks) (bracket_row t b) ∙ ap (λ q. a.rows ++ q) (ap (λ i. rows 0 ks ++ bracket_row i b) z ∙ sym (rows_last 0 ks b)))
          (append_assoc a.texts (flat bracket_texts ks) (bracket_texts b) ∙ ap (λ q. a.texts ++ q) (sym (flat_snoc bracket_texts ks b)))
          (append_assoc a.masses (flat number_row ks) (number_row b) ∙ ap (λ q. a.masses ++ q) (sym (flat_snoc number_row ks b)))
          (omega arith) (omega (arith, w.texts_are)) (omega arith) w.areas_are;
    }
