-- From what reading answers to the content of an entry: the tables of an accepted line, and what is stated or made of them. Assumes nothing.
use mathlib.Core.Path.{◌≡◌, refl, sym, ap, ap₂, ◌∙◌}
use mathlib.Core.Bool.{Bool, true, false, cond, ◌&&◌}
use mathlib.Core.List.{List, ◌++◌}
use Prim.Native.Nat.{ℕ, ◌+◌, ◌≤◌, ◌<◌}
use native.Mathlib.Omega.{arith}
use borrow.Author.Tests.{ne_eqb, le-ltb}
use lib.Dec.{ltb}
use lib.IntN.{ℤ}
use lib.ListN.{length, take, drop, length-take}
use Rattle.std.specs.Prelude.{Result, Ok, Err}
use Rattle.std.specs.Result.{IsErrAnd}
use Rattle.scope.specs.declared.refusals.Refusal.{Refusal}
use Rattle.scope.specs.Limits.{line_limit, copy_limit}
use Rattle.scope.specs.Lists.{same}
use Rattle.scope.specs.Line.{Line}
use Rattle.scope.specs.Refusals.{Outcome, accepted, refused, outcome}
use Rattle.scope.specs.Canonical.{canonical}
use Rattle.scope.specs.Tables.{Tables}
use Rattle.scope.specs.Layout.{bytes_size, numbers_size, tables_in}
use Rattle.scope.specs.Positions.{Floating, floating_of}
use Rattle.scope.specs.Placements.{fits, in_order, allowed}
use Rattle.scope.specs.Answers.{Said, good, refuses, too_short, read_outcome, says as said_by, reason_number, says_outcome, bytes_after, numbers_after}
use Rattle.basics.specs.Choice.{pick_true, pick_false}
use Rattle.basics.specs.Tests.{neither}
use Rattle.order_laws.specs.Ranks.{orderedb}
use Rattle.order_laws.proofs.Proved.{accepted_ordered, same_order}
use Rattle.accepted_laws.specs.Laws.{accepted_short, accepted_within}
use Rattle.reading_laws.proofs.Bare.{same_canonical, same_floating}
use Rattle.canonical_laws.proofs.Proved as canonicals
use Rattle.layout_laws.proofs.Holds.{Holds}
use Rattle.layout_laws.proofs.Laws.{accepted_held, laid_bytes, laid_numbers}
use Rattle.reader.specs.ReadSays.{ReadSays}
use Rattle.blocks.specs.Block.{new_kind}
use Rattle.blocks.specs.Entry.{position_bytes, positions_of, content_for, stated, is_stated}
use Rattle.blocks.specs.Sizes.{content_most}
use Rattle.contents.specs.Says.{ContentSays, TableSays, Known}

-- ---- an accepted line, its tables in the areas
pub record Taken (s bs : List ℕ) (ns : List ℤ) : Type 0 where
  pub line : Line ℕ
  pub reads : outcome s ≡ accepted line
  pub short : length s ≤ line_limit
  pub known : Known bs ns
  pub written : canonical (tables_in bs ns) ≡ canonical line
  pub floats : floating_of (tables_in bs ns) ≡ floating_of line

taken_of : {s bs : List ℕ} {ns : List ℤ} {l : Line ℕ} → Holds bs ns s l → Taken s bs ns
taken_of {s} {bs} {ns} {l} h =
    record {
      line = l;
      reads = h.reads;
      short = accepted_short s l h.reads;
      known =
          record {
            bounds = h.bounds;
            ordered = ap orderedb h.tables ∙ same_order l ∙ accepted_ordered s l h.reads;
            few = h.tables_within.few_copies;
          };
      written = ap canonical h.tables ∙ same_canonical l;
      floats = ap floating_of h.tables ∙ same_floating l;
    }

-- its canonical line is a line
pub canonical_short : {s bs : List ℕ} {ns : List ℤ} → Taken s bs ns → length (canonical (tables_in bs ns)) ≤ line_limit
canonical_short {s} t =
    let a = ap length t.written in
    let b = (canonicals.laws).no_longer s t.line t.reads in
    omega (arith, t.short)

module _ {s bs : List ℕ} {ns : List ℤ} {r : Result (Unit {0}) Refusal} {bs' : List ℕ} {ns' : List ℤ} (b : bytes_size ≤ length bs) (n : numbers_size ≤ length ns) (w : ReadSays s bs ns r bs' ns') where
  -- areas that have room: the line's own outcome
  own : read_outcome bs ns s ≡ outcome s
  own = pick_false (too_short bs ns) (refused 13 0) (outcome s)
      (neither (ltb (length bs) bytes_size) (ltb (length ns) numbers_size) (le-ltb (length bs) bytes_size b) (le-ltb (length ns) numbers_size n))

  says : (o : Outcome) → outcome s ≡ o → said_by r ≡ says_outcome o
  says o e = w.says ∙ ap says_outcome (own ∙ e)

  pub read_taken : {x : Unit {0}} → r ≡ Ok x → Taken s bs' ns'
  read_taken a = go (outcome s) refl
    where
      go : (o : Outcome) → outcome s ≡ o → Taken s bs' ns'
      go (accepted l) e =
          let v = accepted_within s l e in
          taken_of (accepted_held bs' ns' s l e
          (ap (take bytes_size) (w.bytes_after_is ∙ ap (λ o. bytes_after o bs) (own ∙ e)) ∙ laid_bytes l v bs)
          (ap (take numbers_size) (w.numbers_after_is ∙ ap (λ o. numbers_after o ns) (own ∙ e)) ∙ laid_numbers l v ns))
      go (refused number place) e =
          let q : good tt ≡ refuses number place = sym (ap said_by a) ∙ says (refused number place) e in
          let z : ◌≡◌ {A = ℕ} 0 1 = cc in
          absurd (omega arith)

  pub read_refused_lem : {x : Refusal} → r ≡ Err x → outcome s ≡ refused (reason_number x.reason) x.place
  read_refused_lem {x} a = go (outcome s) refl
    where
      go : (o : Outcome) → outcome s ≡ o → outcome s ≡ refused (reason_number x.reason) x.place
      go (accepted l) e =
          let q : refuses (reason_number x.reason) x.place ≡ good tt = sym (ap said_by a) ∙ says (accepted l) e in
          let z : ◌≡◌ {A = ℕ} 0 1 = cc in
          absurd (omega arith)
      go (refused m i) e =
          let q : ◌≡◌ {A = Said (Unit {0})} (refuses (reason_number x.reason) x.place) (refuses m i) = sym (ap said_by a) ∙ says (refused m i) e in
          let f : m ≡ reason_number x.reason = cc in
          let g : i ≡ x.place = cc in
          e ∙ ap₂ refused f g

-- ---- what is stated
-- of a refused line nothing is
pub refused_unstated : (s p : List ℕ) {number place : ℕ} → outcome s ≡ refused number place → false ≡ stated (outcome s) p s
refused_unstated s p e = ap (λ o. stated o p s) (sym e)

-- too few positions are no placement
short_placement : (f : Floating) (p : List ℕ) → length p < copy_limit → allowed f p ≡ false
unfolding allowed
short_placement f p h = ap (λ t. (t && fits f.lists p) && in_order f (take (length f.lists) p)) (ne_eqb (length p) copy_limit (λ e. omega arith))

never_both : (a b : Bool) → b ≡ false → (a && b) ≡ false
never_both true b e = e
never_both false b e = refl

short_unstated : (o : Outcome) (p s : List ℕ) → length p < copy_limit → false ≡ stated o p s
short_unstated (accepted l) p s h = sym (never_both (same (canonical l) s) (allowed (floating_of l) p) (short_placement (floating_of l) p h))
short_unstated (refused number place) p s h = refl

pub short_content : (c : List ℕ) → length c < position_bytes new_kind → false ≡ is_stated new_kind c
unfolding is_stated
short_content c h =
    let e = length-take (position_bytes new_kind) c in
    short_unstated (outcome (drop (position_bytes new_kind) c)) (take (position_bytes new_kind) c) (drop (position_bytes new_kind) c) (omega arith)

pub as_stated : (c : List ℕ) {r : Bool} {p s : List ℕ} → r ≡ stated (outcome s) p s → p ≡ take (position_bytes new_kind) c → s ≡ drop (position_bytes new_kind) c → r ≡ is_stated new_kind c
unfolding is_stated
as_stated c e f g = e ∙ ap₂ (λ p s. stated (outcome s) p s) f g

module _ {s bs : List ℕ} {ns : List ℤ} (t : Taken s bs ns) (p : List ℕ) where
  stated_so : stated (outcome s) p s ≡ (same (canonical (tables_in bs ns)) s && allowed (floating_of (tables_in bs ns)) p)
  stated_so = ap (λ o. stated o p s) t.reads ∙ ap₂ (λ c f. same c s && allowed f p) (sym t.written) (sym t.floats)

  -- it is its own canonical line: the placement decides
  pub stated_rest : {a r : Bool} → a ≡ same (canonical (tables_in bs ns)) s → a ≡ true → r ≡ allowed (floating_of (tables_in bs ns)) p → r ≡ stated (outcome s) p s
  stated_rest e y f = f ∙ ap (λ x. x && allowed (floating_of (tables_in bs ns)) p) (sym (sym e ∙ y)) ∙ sym stated_so

  pub stated_not : {a : Bool} → a ≡ same (canonical (tables_in bs ns)) s → a ≡ false → false ≡ stated (outcome s) p s
  stated_not e y = ap (λ x. x && allowed (floating_of (tables_in bs ns)) p) (sym (sym e ∙ y)) ∙ sym stated_so

  -- ---- what is made
  content_so : content_for (outcome s) p ≡ cond (allowed (floating_of (tables_in bs ns)) p) (good (positions_of p ++ canonical (tables_in bs ns))) (refuses 18 0)
  content_so =
      ap (λ o. content_for o p) t.reads
      ∙ ap₂ (λ c f. cond (allowed f p) (good (positions_of p ++ c)) (refuses 18 0)) (sym t.written) (sym t.floats)

  pub content_says : (r : Result ℕ Refusal) (room : List ℕ) → TableSays (tables_in bs ns) p r room → ContentSays s p r room
  content_says (Ok n) room w = (content_so ∙ w.0, w.1, w.2)
  content_says (Err e) room w = content_so ∙ w

pub refused_content : (s p room : List ℕ) (x : Refusal) (r : Result ℕ Refusal) → outcome s ≡ refused (reason_number x.reason) x.place → IsErrAnd r (λ y. y ≡ x) → ContentSays s p r room
refused_content s p room x (Ok n) e h = absurd h
refused_content s p room x (Err y) e h = ap (λ o. content_for o p) e ∙ ap (λ z. refuses (reason_number z.reason) z.place) (sym h)

-- ---- of tables
pub tables_made : (t : Tables) (p : List ℕ) {a : Bool} {r : ℕ} (room : List ℕ) → a ≡ allowed (floating_of t) p → a ≡ true → take r room ≡ positions_of p ++ canonical t
    → 1 ≤ r → r ≤ content_most → TableSays t p (Ok r) room
tables_made t p room e y f l h =
    (pick_true (allowed (floating_of t) p) (good (positions_of p ++ canonical t)) (refuses 18 0) (sym e ∙ y) ∙ ap good (sym f), l, h)

pub tables_18 : (t : Tables) (p : List ℕ) {a : Bool} → a ≡ allowed (floating_of t) p → a ≡ false
    → cond (allowed (floating_of t) p) (good (positions_of p ++ canonical t)) (refuses 18 0) ≡ refuses 18 0
tables_18 t p e y = pick_false (allowed (floating_of t) p) (good (positions_of p ++ canonical t)) (refuses 18 0) (sym e ∙ y)
