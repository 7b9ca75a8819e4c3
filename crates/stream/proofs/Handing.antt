-- Laws of what is handed over: it is owed, a whole chunk is taken in piece by piece, and a write fails.
use mathlib.Core.Path.{◌≡◌, refl, sym, ap, ◌∙◌}
use mathlib.Core.Bool.{Bool, true, false, false≢true}
use mathlib.Core.List.{List, ◌++◌}
use Prim.Native.Nat.{ℕ, ◌+◌, ◌-◌, ◌*◌, ◌<◌, ◌≤◌}
use native.Mathlib.Omega.{arith}
use lib.ListN.{length, take, length-append}
use lib.Seq.{take-add, take_all, length-take-le}
use Rattle.std.specs.Prelude.{Option, Some, None}
use Rattle.chunks.specs.Feeding.{Between, holding, after, put, part}
use Rattle.chunks.specs.Laws.{after_append, put_append}
use Rattle.chunks.specs.declared.Desk.{Desk}
use Rattle.chunks.specs.Lent.{output_limit, Ready}
use Rattle.chunks.specs.Puts.{Fronts, Feeds}
use Rattle.stream.specs.declared.End.{End}
use Rattle.stream.specs.declared.End.TheVariants.{Whole, Unread, Unwritten}
use Rattle.stream.specs.Owed.{Owed}
use Rattle.stream.specs.Turns.{Drains}

-- a text that stands at the front has the length that is told
front_length : {t out outs : List ℕ} {n : ℕ} → Fronts t out outs n → n ≡ length t
front_length {t} {out} {outs} {n} f = sym (length-take-le n outs f.fits) ∙ ap length f.front

-- what is put is owed
pub owed : {chunk : List ℕ} {from number refused : ℕ} {hold : List ℕ} {held : ℕ} {out : List ℕ} {next line total : ℕ} {holds : List ℕ} {n : ℕ} {outs : List ℕ} {m : ℕ}
    → Feeds chunk from number refused hold held out next line total holds n outs m → Owed chunk from next number refused holds held outs m
owed {chunk} {from} {number} {refused} {next = next} f =
    record { fits = f.puts.fits; text = f.puts.front ∙ ap (λ z. put (holding number refused z) (part from next chunk)) (sym f.stays) }

-- there is more to do, or reading ended; and no other way of ending is the whole one
abbrev is_over : Option End → Bool
is_over None = false
is_over (Some e) = true

abbrev is_whole : Option End → Bool
is_whole None = false
is_whole (Some Whole) = true
is_whole (Some Unread) = false
is_whole (Some Unwritten) = false

pub over : {e : End} → Some e ≡ None → ⊥
over q = false≢true (sym (ap is_over q))

unended : None ≡ Some Whole → ⊥
unended q = false≢true (ap is_whole q)

pub unread : Some Unread ≡ Some Whole → ⊥
unread q = false≢true (ap is_whole q)

unwritten : Some Unwritten ≡ Some Whole → ⊥
unwritten q = false≢true (ap is_whole q)

-- ---- a whole chunk: it is taken in up to `from`, and what is put out for that was taken
module _ (chunk : List ℕ) (number refused : ℕ) (hold₀ : List ℕ) (held : ℕ) where
  abbrev begun : Between
  begun = holding number refused (take held hold₀)

  pub record ChunkTaken (from line total n sent : ℕ) (desk : Desk) : Type 0 where
    pub inside : from ≤ length chunk
    pub grows : number ≤ line
    pub count : line ≤ number + from
    pub leaves : after begun (take from chunk) ≡ holding line total (take n desk.hold)
    pub given : sent ≡ length (put begun (take from chunk))
    pub low : sent ≤ from * output_limit
    pub ready : Ready desk n

  pub taken_start : {desk : Desk} → desk.hold ≡ hold₀ → Ready desk held → ChunkTaken 0 number refused held 0 desk
  unfolding after put
  taken_start e w =
      record {
        inside = omega arith;
        grows = omega arith;
        count = omega arith;
        leaves = ap (λ z. holding number refused (take held z)) (sym e);
        given = refl;
        low = omega arith;
        ready = w;
      }

  pub taken_more : {from line total n sent : ℕ} {desk : Desk} {next line' total' n' : ℕ} {desk' : Desk} {m took : ℕ} → ChunkTaken from line total n sent desk → from < length chunk
      → Feeds chunk from line total desk.hold n desk.out next line' total' desk'.hold n' desk'.out m → Ready desk' n' → took ≤ m → m ≤ took
      → ChunkTaken next line' total' n' (sent + took) desk'
  taken_more {from} {line} {total} {n} {sent} {desk} {next = next} {m = m} w l f r a z =
      let go = f.goes l in
      let s = holding line total (take n desk.hold) in
      let e : next ≡ from + (next - from) = omega arith in
      let p : take next chunk ≡ take from chunk ++ part from next chunk = ap (λ y. take y chunk) e ∙ take-add from (next - from) chunk in
      let text : put begun (take next chunk) ≡ put begun (take from chunk) ++ put s (part from next chunk) =
      ap (put begun) p ∙ put_append begun (take from chunk) (part from next chunk) ∙ ap (λ y. put begun (take from chunk) ++ put y (part from next chunk)) w.leaves in
      let long : m ≡ length (put s (part from next chunk)) = front_length f.puts in
      record {
        inside = f.inside;
        grows = omega (arith, w.grows, f.grows);
        count = omega (arith, w.count, f.count);
        leaves = ap (after begun) p ∙ after_append begun (take from chunk) (part from next chunk) ∙ ap (λ y. after y (part from next chunk)) w.leaves ∙ f.leaves;
        given = omega (arith, w.given, long, length-append (put begun (take from chunk)) (put s (part from next chunk)), ap length text);
        low = omega (arith, w.low, f.puts.fits, r.narrow);
        ready = r;
      }

  pub taken_all : {from line total n sent : ℕ} {desk : Desk} {end : Option End} → ChunkTaken from line total n sent desk × (end ≡ None)
      → length chunk ≤ from → Drains chunk number refused hold₀ held line total desk.hold n sent end × Ready desk n
  taken_all {from} (w, e) l =
      let all = sym (take_all from chunk l) in (
        record {
          grows = w.grows;
          count = λ _. omega (arith, w.count, w.inside);
          leaves = λ _. ap (after begun) all ∙ w.leaves;
          taken = λ _. w.given ∙ ap (λ y. length (put begun y)) (sym all);
          lost = λ q. unended (sym e ∙ q);
        },
        w.ready,
      )

-- a write failed
pub stays_ready : {desk : Desk} {held : ℕ} {desk' : Desk} {held' : ℕ} → Ready desk held → Ready desk' held' → Ready desk' held
stays_ready w r = record { room = r.room; within = w.within; clean = r.clean; wide = r.wide; narrow = r.narrow }

pub drains_lost : {chunk : List ℕ} {number refused : ℕ} {hold : List ℕ} {held line total : ℕ} (ends : ℕ) {holds : List ℕ} {n sent : ℕ} → number ≤ line
    → Drains chunk number refused hold held (line + ends) total holds n sent (Some Unwritten)
drains_lost ends h =
    record {
      grows = omega arith;
      count = λ e. absurd (over e);
      leaves = λ e. absurd (over e);
      taken = λ e. absurd (over e);
      lost = unwritten;
    }
