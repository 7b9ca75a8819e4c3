-- Laws of the parts of a chunk. Assumes nothing.
use mathlib.Core.Path.{◌≡◌, sym, ap, ◌∙◌}
use mathlib.Core.Bool.{Bool, true, false, not, ◌||◌, false≢true}
use mathlib.Core.List.{List, [], ◌∷◌, ◌++◌, append_assoc}
use Prim.Native.Nat.{ℕ, suc, ◌+◌, ◌-◌, ◌<◌, ◌≤◌, min}
use native.Mathlib.Omega.{arith}
use native.Mathlib.Nat.{sub_self}
use borrow.Author.Tests.{ne_eqb, leb-true, leb-false, not-false}
use lib.Dec.{eqb, leb}
use lib.ListN.{length, take, drop, get_or, length-drop, length-take}
use lib.Seq.{take-suc, take-add, drop-drop, get_or-drop, take_all, take_at, length-take-le, take-append-add}
use Rattle.basics.specs.Choice.{by_test}
use Rattle.chunks.specs.Lines.{line_end}
use Rattle.chunks.specs.Feeding.{hold_limit, holding, kept, behind, ended, after, put, part, plain}
use Rattle.chunks.specs.Cuts.{stride_size, Passed, LineEnd, Keeps, Cuts}
use Rattle.chunks.specs.Laws.{after_plain, put_plain, after_line, put_line}

-- one byte more
pub part_more : (f i : ℕ) (l : List ℕ) → f ≤ i → i < length l → part f (i + 1) l ≡ part f i l ++ (get_or l i 0 ∷ [])
part_more f i l h k =
    let n : length (drop f l) ≡ length l - f = length-drop f l in
    let e : i + 1 - f ≡ suc (i - f) = omega arith in
    let g : f + (i - f) ≡ i = omega arith in
    ap (λ z. take z (drop f l)) e ∙ take-suc (drop f l) (i - f) 0 (omega arith)
    ∙ ap (λ z. part f i l ++ (z ∷ [])) (get_or-drop f l (i - f) 0 ∙ ap (λ z. get_or l z 0) g)

-- no byte yet
pub part_none : (f : ℕ) (l : List ℕ) → part f f l ≡ []
part_none f l = ap (λ z. take z (drop f l)) (sub_self f)

-- ---- parts of a chunk, one behind the other
pub part_join : (f a b : ℕ) (l : List ℕ) → f ≤ a → a ≤ b → part f b l ≡ part f a l ++ part a b l
part_join f a b l h k =
    let e : b - f ≡ (a - f) + (b - a) = omega arith in
    let g : f + (a - f) ≡ a = omega arith in
    ap (λ z. take z (drop f l)) e ∙ take-add (a - f) (b - a) (drop f l)
    ∙ ap (λ z. part f a l ++ take (b - a) z) (drop-drop (a - f) f l ∙ ap (λ z. drop z l) g)

plain_join : (t u : List ℕ) → plain t ≡ true → plain u ≡ true → plain (t ++ u) ≡ true
unfolding plain
plain_join [] u e g = g
plain_join (a ∷ t) u e g =
    by_test (eqb a line_end) (λ q. absurd (false≢true (rw q at e)))
    (λ q. rw q (plain_join t u (rw q at e) g))

plain_one : (b : ℕ) → (b ≡ line_end → ⊥) → plain (b ∷ []) ≡ true
unfolding plain
plain_one b h = rw (ne_eqb b line_end h)

-- ---- a stride, looked at byte by byte: so far is told whether byte 10 is among them
ends_more : (t : List ℕ) (b : ℕ) → (not (plain t) || eqb b line_end) ≡ not (plain (t ++ (b ∷ [])))
unfolding plain
ends_more [] b = by_test (eqb b line_end) (λ q. rw q) (λ q. rw q)
ends_more (a ∷ t) b = by_test (eqb a line_end) (λ q. rw q) (λ q. rw q (ends_more t b))

pub record Looked (chunk : List ℕ) (at i : ℕ) (so : Bool) : Type 0 where
  pub inside : i ≤ stride_size
  pub told : so ≡ not (plain (part at (at + i) chunk))

pub looked_start : (chunk : List ℕ) (at : ℕ) → Looked chunk at 0 false
unfolding plain
looked_start chunk at =
    let none : at + 0 ≡ at = omega arith in
    record { inside = omega arith; told = ap (λ z. not (plain z)) (sym (part_none at chunk) ∙ ap (λ z. part at z chunk) (sym none)) }

pub looked_more : {chunk : List ℕ} {at i : ℕ} {so r : Bool} → Looked chunk at i so → at + stride_size ≤ length chunk → i < stride_size
    → r ≡ (so || eqb (get_or chunk (at + i) 0) line_end) → Looked chunk at (i + 1) r
looked_more {chunk} {at} {i} w h l e =
    let b = get_or chunk (at + i) 0 in
    let next : at + i + 1 ≡ at + (i + 1) = omega arith in
    record {
      inside = omega arith;
      told = e ∙ ap (λ z. z || eqb b line_end) w.told ∙ ends_more (part at (at + i) chunk) b
          ∙ ap (λ z. not (plain z)) (sym (part_more at (at + i) chunk (omega arith) (omega arith)) ∙ ap (λ z. part at z chunk) next);
    }

pub looked_all : {chunk : List ℕ} {at i : ℕ} {so : Bool} → Looked chunk at i so → stride_size ≤ i → so ≡ not (plain (part at (at + stride_size) chunk))
looked_all {chunk} {at} {i} w h = let e : i ≡ stride_size = omega (arith, w.inside) in w.told ∙ ap (λ z. not (plain (part at (at + z) chunk))) e

-- ---- the first byte 10: none stands before i
pub passed_start : (chunk : List ℕ) (from : ℕ) → from ≤ length chunk → Passed chunk from from
unfolding plain
passed_start chunk from h = record { past = omega arith; within = h; before = ap plain (part_none from chunk) }

pub passed_more : (chunk : List ℕ) (from i : ℕ) → Passed chunk from i → i < length chunk → (get_or chunk i 0 ≡ line_end → ⊥) → Passed chunk from (i + 1)
passed_more chunk from i w l h =
    record {
      past = omega (arith, w.past);
      within = omega arith;
      before = ap plain (part_more from i chunk w.past l) ∙ plain_join (part from i chunk) (get_or chunk i 0 ∷ []) w.before (plain_one (get_or chunk i 0) h);
    }

-- a stride is passed over, where no line ends in it
pub passed_stride : {chunk : List ℕ} {from i : ℕ} {r : Bool} → Passed chunk from i → i + stride_size ≤ length chunk
    → r ≡ not (plain (part i (i + stride_size) chunk)) → r ≡ false → Passed chunk from (i + stride_size)
passed_stride {chunk} {from} {i} w l e q =
    let end = i + stride_size in
    record {
      past = omega (arith, w.past);
      within = l;
      before = ap plain (part_join from i end chunk w.past (omega arith)) ∙ plain_join (part from i chunk) (part i end chunk) w.before (not-false _ (sym e ∙ q));
    }

-- ---- bytes behind those held: as many as there is room for
front : (h t rest : List ℕ) (n : ℕ) → n ≤ length t → take (length h + n) (h ++ (take n t ++ rest)) ≡ h ++ take n t
front h t rest n k = take-append-add h (take n t ++ rest) n ∙ ap (λ z. h ++ z) (take_at (take n t) rest n (length-take-le n t k))

fitting : (h t : List ℕ) (n : ℕ) → length h ≤ hold_limit → n ≡ min (length t) (hold_limit - length h) → h ++ take n t ≡ kept h t
fitting h t n k e =
    let g : length h + (hold_limit - length h) ≡ hold_limit = omega arith in
    by_test (leb (length t) (hold_limit - length h))
    (λ q. let a = leb-true (length t) (hold_limit - length h) q in
    ap (λ z. h ++ z) (take_all n t (omega arith) ∙ sym (take_all (hold_limit - length h) t a)) ∙ sym (take-append-add h t (hold_limit - length h)) ∙ ap (λ z. take z (h ++ t)) g)
    (λ q. let a = leb-false (length t) (hold_limit - length h) q in let m : n ≡ hold_limit - length h = omega arith in
    ap (λ z. h ++ take z t) m ∙ sym (take-append-add h t (hold_limit - length h)) ∙ ap (λ z. take z (h ++ t)) g)

pub keeps : (chunk : List ℕ) (from end : ℕ) (hold : List ℕ) (held n : ℕ) (ys old rest : List ℕ) → end ≤ length chunk → held ≤ hold_limit
    → length hold ≡ hold_limit → n ≡ min (end - from) (length hold - held) → ys ≡ take n (part from end chunk) ++ old
    → length (take held hold ++ (ys ++ rest)) ≡ length hold → Keeps chunk from end hold held (take held hold ++ (ys ++ rest)) (held + n)
keeps chunk from end hold held n ys old rest w k l e a same =
    let h = take held hold in
    let t = part from end chunk in
    let hl : length h ≡ held = length-take-le held hold (omega arith) in
    let tl : length t ≡ end - from = omega (arith, length-take (end - from) (drop from chunk), length-drop from chunk) in
    let q : h ++ (ys ++ rest) ≡ h ++ (take n t ++ (old ++ rest)) = ap (λ z. h ++ (z ++ rest)) a ∙ ap (λ z. h ++ z) (append_assoc (take n t) old rest) in
    record {
      room = same ∙ l;
      within = omega arith;
      are = ap (take (held + n)) q ∙ ap (λ z. take (z + n) (h ++ (take n t ++ (old ++ rest)))) (sym hl)
          ∙ front h t (old ++ rest) n (omega arith) ∙ fitting h t n (omega arith) (omega arith);
      stays = take_at h (ys ++ rest) held hl;
    }

-- ---- a cut behind the end of a line, and one at the end of the chunk
short : (held : ℕ) (hold : List ℕ) → held ≤ hold_limit → length (take held hold) ≤ hold_limit
short held hold k = omega (arith, length-take held hold)

pub cut_line : (chunk : List ℕ) (from end : ℕ) (hold : List ℕ) (held : ℕ) (holds : List ℕ) (n : ℕ) → held ≤ hold_limit → LineEnd chunk from end
    → Keeps chunk from end hold held holds n → end < length chunk → Cuts chunk from hold held holds n (end + 1) true
cut_line chunk from end hold held holds n k w m l =
    let t = part from end chunk in
    let p : part from (end + 1) chunk ≡ t ++ (line_end ∷ []) = part_more from end chunk w.past l ∙ ap (λ z. t ++ (z ∷ [])) (w.there l) in
    record {
      room = m.room;
      within = m.within;
      past = omega (arith, w.past);
      inside = omega arith;
      goes = λ _. omega (arith, w.past);
      whole = λ e. absurd (false≢true (sym e));
      stays = m.stays;
      leaves = λ j r. ap (after (holding j r (take held hold))) p ∙ after_line j r (take held hold) t (short held hold k) w.before ∙ ap (λ z. behind true (holding j r z)) (sym m.are);
      puts = λ j r. ap (put (holding j r (take held hold))) p ∙ put_line j r (take held hold) t (short held hold k) w.before ∙ ap (λ z. ended true (holding j r z)) (sym m.are);
    }

pub cut_chunk : (chunk : List ℕ) (from end : ℕ) (hold : List ℕ) (held : ℕ) (holds : List ℕ) (n : ℕ) → held ≤ hold_limit → LineEnd chunk from end
    → Keeps chunk from end hold held holds n → length chunk ≤ end → Cuts chunk from hold held holds n end false
cut_chunk chunk from end hold held holds n k w m l =
    let t = part from end chunk in
    record {
      room = m.room;
      within = m.within;
      past = w.past;
      inside = w.within;
      goes = λ e. absurd (false≢true e);
      whole = λ _. omega (arith, w.within);
      stays = m.stays;
      leaves = λ j r. after_plain j r (take held hold) t (short held hold k) w.before ∙ ap (holding j r) (sym m.are);
      puts = λ j r. put_plain j r (take held hold) t w.before;
    }
