-- Laws of the entries that are put: line upon line of a chunk, the line that was begun before them, and the one that the input ends in.
use mathlib.Core.Path.{◌≡◌, refl, sym, ap, ◌∙◌, subst}
use mathlib.Core.Bool.{Bool, true, false, cond}
use mathlib.Core.List.{List, [], ◌∷◌, ◌++◌}
use Prim.Native.Nat.{ℕ, ◌+◌, ◌-◌, ◌<◌, ◌≤◌}
use native.Mathlib.Omega.{arith}
use native.Mathlib.Numerals.{add-one}
use lib.IntN.{ℤ}
use lib.ListN.{length, take, drop, length-append}
use lib.Seq.{take_all, take-append_seam, drop-append_seam, length-take-le}
use Rattle.scope.specs.Refusals.{outcome}
use Rattle.store.specs.Filled.{Clean}
use Rattle.figures.specs.Written.{stored}
use Rattle.figures.proofs.Storing.{stored_append, stored_whole}
use Rattle.entries.specs.Entry.{entry, entry_limit, is_refused, Printed}
use Rattle.chunks.specs.Lines.{line_end, refusal}
use Rattle.chunks.specs.Feeding.{hold_limit, Between, holding, kept, after, put, last_put, last_refused, part}
use Rattle.chunks.specs.Laws.{after_append, put_append, after_line, put_line, after_few}
use Rattle.chunks.specs.TooLong.{entry_front_lem, refusal_front}
use Rattle.chunks.specs.Cuts.{LineEnd, Cuts}
use Rattle.sheet.specs.declared.Sheet.{Sheet}
use Rattle.chunks.specs.declared.Desk.{Desk}
use Rattle.chunks.specs.Lent.{Ready}
use Rattle.chunks.specs.Puts.{Fronts, Runs, Feeds}
use Rattle.chunks.proofs.Cutting.{part_none, part_more, part_join}
use Rattle.chunks.proofs.Room.{still_clean}

-- ---- a text at the front of an output
pub fronts : (o t left : List ℕ) (n : ℕ) → left ≡ stored o 0 t → n ≡ length t → n ≤ length o → length left ≡ length o → Fronts t o left n
fronts o t left n e m h l =
    let k : length t ≤ length o = omega arith in
    let w : left ≡ t ++ drop (length t) o = e ∙ stored_whole o t ∙ ap (λ z. z ++ drop (length t) o) (take_all (length o) t k) in
    record {
      fits = omega arith;
      front = ap (λ z. take z left) m ∙ ap (take (length t)) w ∙ take-append_seam t (drop (length t) o);
      rest = ap (λ z. drop z left) m ∙ ap (drop (length t)) w ∙ drop-append_seam t (drop (length t) o) ∙ ap (λ z. drop z o) (sym m);
    }

pub whole_front : (n : ℕ) (l : List ℕ) → part 0 n l ≡ take n l
whole_front n l = let e : n - 0 ≡ n = omega arith in ap (λ z. take z l) e

-- ---- a part more
module _ (chunk : List ℕ) (from : ℕ) (first : Between) where
  after_more : (next next' : ℕ) (s : Between) → from ≤ next → next ≤ next' → after first (part from next chunk) ≡ s
      → after first (part from next' chunk) ≡ after s (part next next' chunk)
  after_more next next' s h k e =
      ap (after first) (part_join from next next' chunk h k) ∙ after_append first (part from next chunk) (part next next' chunk)
      ∙ ap (λ z. after z (part next next' chunk)) e

  put_more : (next next' : ℕ) (s : Between) → from ≤ next → next ≤ next' → after first (part from next chunk) ≡ s
      → put first (part from next' chunk) ≡ put first (part from next chunk) ++ put s (part next next' chunk)
  put_more next next' s h k e =
      ap (put first) (part_join from next next' chunk h k) ∙ put_append first (part from next chunk) (part next next' chunk)
      ∙ ap (λ z. put first (part from next chunk) ++ put z (part next next' chunk)) e

-- ---- refused lines, counted
-- one more for a line that is answered, where it is refused
pub adds_refusal : (l : List ℕ) {so : Bool} {one : ℕ} → so ≡ is_refused (outcome l) → (one ≡ cond so 1 0) × (one ≤ 1) → one ≡ refusal l
adds_refusal l e o = o.0 ∙ ap (λ z. cond z 1 0) e

-- they stay fewer than the number of the line that comes next
pub stays_few : {number refused : ℕ} (h t : List ℕ) {line total : ℕ} {g : List ℕ} → after (holding number refused h) t ≡ holding line total g → refused < number → total < line
stays_few {number} {refused} h t e few = subst (λ s. s.refused < s.number) e (after_few (holding number refused h) t few)

-- ---- the lines that lie whole in a chunk
module _ (chunk : List ℕ) (from number refused : ℕ) (out₀ : List ℕ) (at : ℕ) where
  abbrev first : Between
  first = holding number refused []

  -- they are put up to `next`
  pub record Goes (next line total n : ℕ) (bytes : List ℕ) (numbers : List ℤ) (out : List ℕ) : Type 0 where
    pub past : from ≤ next
    pub inside : next ≤ length chunk
    pub grows : number ≤ line
    pub count : line + from ≤ number + next
    pub leaves : after first (part from next chunk) ≡ holding line total []
    pub puts : out ≡ stored out₀ at (put first (part from next chunk))
    pub ends : n ≡ at + length (put first (part from next chunk))
    pub fits : n ≤ length out₀
    pub clean : Clean bytes numbers
    pub out_long : length out ≡ length out₀

  pub goes_start : {bytes : List ℕ} {numbers : List ℤ} → from ≤ length chunk → Clean bytes numbers → at ≤ length out₀ → Goes from number refused at bytes numbers out₀
  unfolding after put stored
  goes_start h w k =
      let none : length (put first (part from from chunk)) ≡ 0 = ap (λ z. length (put first z)) (part_none from chunk) in
      record {
        past = omega arith;
        inside = h;
        grows = omega arith;
        count = omega arith;
        leaves = ap (after first) (part_none from chunk);
        puts = ap (λ z. stored out₀ at (put first z)) (sym (part_none from chunk));
        ends = omega (arith, none);
        fits = k;
        clean = w;
        out_long = refl;
      }

  -- a line more
  pub goes_line : {next line total n : ℕ} {bytes : List ℕ} {numbers : List ℤ} {out : List ℕ} {end : ℕ} {out' : List ℕ} {r : ℕ} {so : Bool} {one : ℕ} {bytes' : List ℕ} {numbers' : List ℤ}
      → Goes next line total n bytes numbers out → LineEnd chunk next end → (end ≡ length chunk → ⊥)
      → Printed entry_limit out n (entry line (part next end chunk)) out' r bytes numbers bytes' numbers' × (so ≡ is_refused (outcome (part next end chunk)))
      → (one ≡ cond so 1 0) × (one ≤ 1) → n + entry_limit ≤ length out → Goes (end + 1) (line + 1) (total + one) r bytes' numbers' out'
  goes_line {next} {line} {total} {n} {bytes} {numbers} {out} {end} {out'} {r} {so} {one} w m q printed c h =
      let p = printed.0 in
      let s = holding line total [] in
      let t = part next end chunk in
      let more : total + refusal (kept [] t) ≡ total + one = ap (λ z. total + z) (refusal_front t ∙ sym (adds_refusal t printed.1 c)) in
      let before = put first (part from next chunk) in
      let e = entry line t in
      let l : end < length chunk = omega (arith, m.within, q) in
      let none : length {A = ℕ} [] ≤ hold_limit = omega arith in
      let further : next ≤ end + 1 = omega (arith, m.past) in
      let piece : part next (end + 1) chunk ≡ t ++ (line_end ∷ []) = part_more next end chunk m.past l ∙ ap (λ z. t ++ (z ∷ [])) (m.there l) in
      let text : put first (part from (end + 1) chunk) ≡ before ++ e =
      put_more chunk from first next (end + 1) s w.past further w.leaves
      ∙ ap (λ z. before ++ z) (ap (put s) piece ∙ put_line line total [] t none m.before ∙ entry_front_lem line t) in
      let a : n ≡ at + length before = w.ends in
      record {
        past = omega (arith, w.past, m.past);
        inside = omega arith;
        grows = omega (arith, w.grows);
        count = omega (arith, w.count, m.past);
        leaves = after_more chunk from first next (end + 1) s w.past further w.leaves ∙ ap (after s) piece ∙ after_line line total [] t none m.before
            ∙ ap (λ z. holding z (total + refusal (kept [] t)) []) (sym (add-one line)) ∙ ap (λ z. holding (line + 1) z []) more;
        puts = p.puts.holds ∙ ap (λ z. stored z n e) w.puts ∙ ap (λ z. stored (stored out₀ at before) z e) a
            ∙ sym (stored_append out₀ at before e) ∙ ap (stored out₀ at) (sym text);
        ends = omega (arith, p.puts.ends, a, length-append before e, ap length text);
        fits = omega (arith, p.puts.near, w.out_long);
        clean = still_clean p w.clean;
        out_long = p.out_long ∙ w.out_long;
      }

  pub goes_end : {next line total held n : ℕ} {bytes : List ℕ} {numbers : List ℤ} {out hold hold₀ : List ℕ} → Goes next line total n bytes numbers out × (held ≡ 0) × (hold ≡ hold₀)
      → Runs chunk from number refused out₀ at next line total held out n × Clean bytes numbers × (hold ≡ hold₀)
  goes_end (w, none, untouched) = (
    record {
      past = w.past;
      inside = w.inside;
      grows = w.grows;
      count = w.count;
      none_held = none;
      leaves = w.leaves;
      puts = w.puts;
      ends = w.ends;
      fits = w.fits;
      long = w.out_long;
    },
    w.clean,
    untouched,
  )

-- ---- a part of a chunk, taken in
abbrev pub desk_of : List ℕ → Sheet → List ℕ → List ℤ → List ℕ → Desk
desk_of hold sheet bytes numbers out = record { hold = hold; sheet = sheet; bytes = bytes; numbers = numbers; out = out }

-- the line that is begun goes on past it
pub feeds_held : {chunk : List ℕ} {from number refused : ℕ} {desk : Desk} {held : ℕ} {sheet : Sheet} {holds : List ℕ} {n next : ℕ} {e : Bool}
    → Ready desk held → Cuts chunk from desk.hold held holds n next e → e ≡ false
    → Feeds chunk from number refused desk.hold held desk.out next number refused holds n desk.out 0 × Ready (desk_of holds sheet desk.bytes desk.numbers desk.out) n
feeds_held {chunk} {from} {number} {refused} {desk} {held} {sheet} {holds} {n} {next} w c q =
    let m = subst (λ z. Cuts chunk from desk.hold held holds n next z) q c in (
      record {
        inside = m.inside;
        goes = λ l. omega (arith, m.whole refl);
        grows = omega arith;
        count = omega (arith, m.past);
        stays = m.stays;
        leaves = m.leaves number refused;
        puts = record { fits = omega arith; front = sym (m.puts number refused); rest = refl };
      },
      record { room = m.room; within = m.within; clean = w.clean; wide = w.wide; narrow = w.narrow },
    )

-- it ends, and lines behind it
pub feeds_lines : {chunk : List ℕ} {from number refused : ℕ} {desk : Desk} {held : ℕ} {holds : List ℕ} {n next : ℕ} {e : Bool}
    → {out' : List ℕ} {at : ℕ} {so : Bool} {one : ℕ} {bytes' : List ℕ} {numbers' : List ℤ} {next' line total k : ℕ} {left : Desk} {m : ℕ}
    → Ready desk held → Cuts chunk from desk.hold held holds n next e → e ≡ true
    → Printed entry_limit desk.out 0 (entry number (part 0 n holds)) out' at desk.bytes desk.numbers bytes' numbers' × (so ≡ is_refused (outcome (part 0 n holds)))
    → (one ≡ cond so 1 0) × (one ≤ 1)
    → Runs chunk next (number + 1) (refused + one) out' at next' line total k left.out m × Clean left.bytes left.numbers × (left.hold ≡ holds)
    → Feeds chunk from number refused desk.hold held desk.out next' line total left.hold k left.out m × Ready left k
feeds_lines {chunk} {from} {number} {refused} {desk} {held} {holds} {n} {next} {e} {out'} {at} {so} {one} {bytes'} {numbers'} {next'} {line} {total} {k} {left} {m} w c q printed o (g, clear, untouched) =
    let p = printed.0 in
    let hold = desk.hold in
    let out = desk.out in
    let out'' = left.out in
    let d = subst (λ z. Cuts chunk from hold held holds n next z) q c in
    let s = holding number refused (take held hold) in
    let s' = holding (number + 1) (refused + one) [] in
    let first = entry number (part 0 n holds) in
    let more = put s' (part next next' chunk) in
    let counts : refusal (take n holds) ≡ one = ap refusal (sym (whole_front n holds)) ∙ sym (adds_refusal (part 0 n holds) printed.1 o) in
    let behind-it : after s (part from next chunk) ≡ s' =
    d.leaves number refused ∙ ap (λ z. holding z (refused + refusal (take n holds)) []) (sym (add-one number)) ∙ ap (λ z. holding (number + 1) (refused + z) []) counts in
    let put_first : put s (part from next chunk) ≡ first = d.puts number refused ∙ ap (entry number) (sym (whole_front n holds)) in
    let text : put s (part from next' chunk) ≡ first ++ more =
    put_more chunk from s next next' s' d.past g.past behind-it ∙ ap (λ z. z ++ more) put_first in
    let holds_text : out'' ≡ stored out 0 (first ++ more) =
    g.puts ∙ ap (λ z. stored z at more) p.puts.holds ∙ ap (λ z. stored (stored out 0 first) z more) p.puts.ends ∙ sym (stored_append out 0 first more) in
    let ends-text : m ≡ length (first ++ more) = omega (arith, g.ends, p.puts.ends, length-append first more) in
    let long : length out'' ≡ length out = g.long ∙ p.out_long in
    let go = d.goes refl in (
      record {
        inside = g.inside;
        goes = λ l. omega (arith, g.past, go);
        grows = omega (arith, g.grows);
        count = omega (arith, g.count, go);
        stays = ap (take held) untouched ∙ d.stays;
        leaves = after_more chunk from s next next' s' d.past g.past behind-it ∙ g.leaves
            ∙ ap (λ z. holding line total (take z left.hold)) (sym g.none_held);
        puts = subst (λ z. Fronts z out out'' m) (sym text) (fronts out (first ++ more) out'' m holds_text ends-text (omega (arith, g.fits, p.out_long)) long);
      },
      record { room = ap length untouched ∙ d.room; within = omega (arith, g.none_held); clean = clear; wide = omega (arith, w.wide, long); narrow = omega (arith, w.narrow, long) },
    )

-- ---- the end of the input
pub ends_none : (n : ℕ) (hold out : List ℕ) (held : ℕ) → held ≡ 0
    → Fronts (last_put n (take held hold)) out out 0 × (false ≡ last_refused (take held hold)) × (hold ≡ hold)
ends_none n hold out held e =
    (record { fits = omega arith; front = ap (λ z. last_put n (take z hold)) (sym e); rest = refl }, ap (λ z. last_refused (take z hold)) (sym e), refl)

last_entry : (n : ℕ) (l : List ℕ) → 0 < length l → last_put n l ≡ entry n l
last_entry n [] h = absurd (omega arith)
last_entry n (b ∷ l) h = refl

last_refusal : (l : List ℕ) → 0 < length l → last_refused l ≡ is_refused (outcome l)
last_refusal [] h = absurd (omega arith)
last_refusal (b ∷ l) h = refl

pub ends_line : (n : ℕ) {desk : Desk} (held : ℕ) {r : ℕ} {so : Bool} {out' : List ℕ} {bytes' : List ℕ} {numbers' : List ℤ} → Ready desk held → 0 < held
    → Printed entry_limit desk.out 0 (entry n (part 0 held desk.hold)) out' r desk.bytes desk.numbers bytes' numbers' × (so ≡ is_refused (outcome (part 0 held desk.hold)))
    → Fronts (last_put n (take held desk.hold)) desk.out out' r × (so ≡ last_refused (take held desk.hold)) × (desk.hold ≡ desk.hold)
ends_line n {desk} held {r} {so} {out'} {bytes'} {numbers'} w h q =
    let hold = desk.hold in
    let out = desk.out in
    let bytes = desk.bytes in
    let numbers = desk.numbers in
    let all = whole_front held hold in
    let p = subst (λ z. Printed entry_limit out 0 (entry n z) out' r bytes numbers bytes' numbers') all q.0 in
    let k : length (take held hold) ≡ held = length-take-le held hold (omega (arith, w.room, w.within)) in
    let some : 0 < length (take held hold) = omega arith in (
      subst (λ z. Fronts z out out' r) (sym (last_entry n (take held hold) some))
          (fronts out (entry n (take held hold)) out' r p.puts.holds (omega (arith, p.puts.ends)) (omega (arith, p.puts.near, w.wide)) p.out_long),
      q.1 ∙ ap (λ z. is_refused (outcome z)) all ∙ sym (last_refusal (take held hold) some),
      refl,
    )
