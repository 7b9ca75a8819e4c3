-- Loops that put blocks anew: what is left to put, put into the area as it is now, gives the area at the end; and an area that is freed from the front on.
use mathlib.Core.Path.{◌≡◌, refl, sym, ap, ◌∙◌}
use mathlib.Core.List.{List, [], ◌∷◌, ◌++◌, append_assoc, append-nil}
use Prim.Native.Nat.{ℕ, zero, suc, ◌+◌, ◌-◌, ◌*◌, ◌≤◌, ◌<◌}
use native.Mathlib.Omega.{arith}
use lib.ListN.{length, get_or, take, drop, length-take, drop_of_length-le}
use lib.Seq.{take_at, drop-append-add, drop-drop}
use Rattle.scope.specs.Lists.{part, tabled}
use Rattle.scope.specs.Limits.{block_size}
use Rattle.basics.specs.Tabled.{tabled_at, tabled_end, tabled_all}
use Rattle.blocks.specs.Block.{content_room, new_kind, free_block, entry_block}
use Rattle.blocks.specs.Area.{blocks_in, times, Put, put_at, replaced}
use Rattle.blocks.specs.Answers.{blocks_for, pieces, next_in, written, freed}
use Rattle.chains.specs.Whole.{Whole}
use Rattle.area_laws.specs.Areas.{times_length, put_long}
use Rattle.area_laws.specs.Fields.{entry_length}
use Rattle.taking.specs.Says.{kind_of}
use Rattle.taking.proofs.Wholes.{whole_as, whole_put}
use Rattle.taking.proofs.Chained.{chain_at, chain_end, kind_behind}

-- ---- one block put before the others that are left
pub replaced_none : (a : List ℕ) → replaced [] a ≡ a
unfolding replaced
replaced_none a = refl

pub replaced_first : (b : ℕ) (x : List ℕ) (ps : List Put) (a : List ℕ) → replaced (record { block = b; bytes = x } ∷ ps) a ≡ replaced ps (put_at (block_size * b) x a)
unfolding replaced
replaced_first b x ps a = refl

-- ---- blocks freed, and blocks written: `left k` are those from place k on
pub record Putting (left : ℕ → List Put) (old : List ℕ) (k : ℕ) (now : List ℕ) : Type 0 where
  pub same : length now ≡ length old
  pub rest : replaced (left k) now ≡ replaced (left 0) old

module _ {left : ℕ → List Put} {old : List ℕ} where
  pub putting_start : Putting left old 0 old
  putting_start = record { same = refl; rest = refl }

  pub putting_more : {k : ℕ} {now new : List ℕ} (b : ℕ) (x : List ℕ) → Putting left old k now → left k ≡ record { block = b; bytes = x } ∷ left (k + 1) → b < blocks_in old
      → length x ≡ block_size → new ≡ put_at (block_size * b) x now → Putting left old (k + 1) new
  putting_more {k} {now} {new} b x w first inside long is =
      record {
        same = ap length is ∙ put_long (block_size * b) x now (omega (arith, w.same)) ∙ w.same;
        rest = ap (replaced (left (k + 1))) is ∙ sym (replaced_first b x (left (k + 1)) now) ∙ ap (λ ps. replaced ps now) (sym first) ∙ w.rest;
      }

  pub putting_end : {k : ℕ} {now : List ℕ} → Putting left old k now → left k ≡ [] → now ≡ replaced (left 0) old
  putting_end {k} {now} w e = sym (replaced_none now) ∙ ap (λ ps. replaced ps now) (sym e) ∙ w.rest

-- ---- a chain made free
abbrev pub free_left : List ℕ → ℕ → List Put
free_left blocks k = freed (drop k blocks)

module _ (blocks : List ℕ) (k : ℕ) where
  pub free_first : k < length blocks → free_left blocks k ≡ record { block = get_or blocks k 0; bytes = free_block } ∷ free_left blocks (k + 1)
  free_first h = ap freed (chain_at blocks k h)

  pub free_none : length blocks ≤ k → free_left blocks k ≡ []
  free_none h = ap freed (chain_end blocks k h)

-- ---- a chain written
abbrev pub piece_of : List ℕ → ℕ → List ℕ
piece_of l k = part (content_room * k) content_room l

abbrev pub written_left : ℕ → List ℕ → List ℕ → ℕ → List Put
written_left number l blocks k = written number (kind_of k) (tabled (piece_of l) k (length blocks - k)) (drop k blocks)

-- what goes into block k
abbrev pub bytes_at : ℕ → List ℕ → List ℕ → ℕ → List ℕ
bytes_at number l blocks k = entry_block (kind_of k) number (next_in (drop (k + 1) blocks)) (piece_of l k)

module _ (number : ℕ) (l blocks : List ℕ) (k : ℕ) where
  pub written_first : k < length blocks → written_left number l blocks k ≡ record { block = get_or blocks k 0; bytes = bytes_at number l blocks k } ∷ written_left number l blocks (k + 1)
  unfolding written
  written_first h =
      let many = length blocks in
      ap (λ cs. written number (kind_of k) cs (drop k blocks)) (tabled_at (piece_of l) k many h)
      ∙ ap (written number (kind_of k) (piece_of l k ∷ tabled (piece_of l) (k + 1) (many - (k + 1)))) (chain_at blocks k h)
      ∙ ap (λ z. record { block = get_or blocks k 0; bytes = bytes_at number l blocks k } ∷ written number z (tabled (piece_of l) (k + 1) (many - (k + 1))) (drop (k + 1) blocks)) (sym (kind_behind k))

  pub bytes_long : length (bytes_at number l blocks k) ≡ block_size
  bytes_long =
      let few = length-take content_room (drop (content_room * k) l) in
      entry_length (kind_of k) number (next_in (drop (k + 1) blocks)) (piece_of l k) (omega (arith, few))

  pub written_none : length blocks ≤ k → written_left number l blocks k ≡ []
  unfolding written
  written_none h = ap (λ cs. written number (kind_of k) cs (drop k blocks)) (tabled_end (piece_of l) k (length blocks) h)

pub written_all : (number : ℕ) (l blocks : List ℕ) → length blocks ≡ blocks_for (length l) → written_left number l blocks 0 ≡ written number new_kind (pieces l) blocks
written_all number l blocks e =
    ap (λ cs. written number new_kind cs blocks) (sym (tabled_all (piece_of l) (length blocks)) ∙ ap (tabled (piece_of l) 0) e)

-- ---- every block made free, from the front on
pub times_more : (n : ℕ) (x : List ℕ) → times (n + 1) x ≡ times n x ++ x
unfolding times
times_more zero x = append-nil x
times_more (suc n) x =
    let e : suc n + 1 ≡ suc (n + 1) = omega arith in
    ap (λ m. times m x) e ∙ ap (λ l. x ++ l) (times_more n x) ∙ sym (append_assoc x (times n x) x)

-- the first b blocks are x now
pub record Filled (x old : List ℕ) (n b : ℕ) (now : List ℕ) : Type 0 where
  pub upto : b ≤ n
  pub is : now ≡ times b x ++ drop (block_size * b) old
  pub same : length now ≡ length old

module _ {x old : List ℕ} {n : ℕ} where
  pub filled_start : Filled x old n 0 old
  unfolding times
  filled_start = let e : block_size * 0 ≡ 0 = omega arith in record { upto = omega arith; is = ap (λ i. drop i old) (sym e); same = refl }

  pub filled_more : {b : ℕ} {now new : List ℕ} → Filled x old n b now → Whole old n → b < n → length x ≡ block_size → new ≡ put_at (block_size * b) x now → Filled x old n (b + 1) new
  filled_more {b} {now} {new} w whole h size is =
      let front = times_length b x size in
      let at : block_size * b + length x ≡ length (times b x) + block_size = omega (arith, front) in
      let end : block_size * b + block_size ≡ block_size * (b + 1) = omega arith in
      let before : take (block_size * b) now ≡ times b x = ap (take (block_size * b)) w.is ∙ take_at (times b x) (drop (block_size * b) old) (block_size * b) front in
      let behind : drop (block_size * b + length x) now ≡ drop (block_size * (b + 1)) old =
      ap (drop (block_size * b + length x)) w.is ∙ ap (λ i. drop i (times b x ++ drop (block_size * b) old)) at
      ∙ drop-append-add (times b x) (drop (block_size * b) old) block_size ∙ drop-drop block_size (block_size * b) old ∙ ap (λ i. drop i old) end in
      let put : Whole (put_at (block_size * b) x now) n = whole_put b x (whole_as now whole w.same) h size in
      record {
        upto = omega arith;
        is =
            is ∙ ap (λ m. m ++ (x ++ drop (block_size * b + length x) now)) before ∙ ap (λ m. times b x ++ (x ++ m)) behind
            ∙ sym (append_assoc (times b x) x (drop (block_size * (b + 1)) old)) ∙ ap (λ m. m ++ drop (block_size * (b + 1)) old) (sym (times_more b x));
        same = ap length is ∙ put.long ∙ sym whole.long;
      }

  pub filled_end : {b : ℕ} {now : List ℕ} → Filled x old n b now → Whole old n → n ≤ b → now ≡ times n x
  filled_end {b} {now} w whole h =
      let e : b ≡ n = omega (arith, w.upto) in
      w.is ∙ ap (λ m. times b x ++ m) (drop_of_length-le old {i = block_size * b} (omega (arith, whole.long))) ∙ append-nil (times b x) ∙ ap (λ i. times i x) e
