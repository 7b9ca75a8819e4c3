-- A bracket is what it has beside its parts, its places, and its parts, which a loop looks at one by one.
use mathlib.Core.Path.{◌≡◌, refl, sym, ap, subst, ◌∙◌}
use mathlib.Core.Bool.{Bool, true, false, ◌&&◌}
use mathlib.Core.List.{List, [], ◌∷◌, ◌++◌, map}
use Prim.Native.Nat.{ℕ, ◌+◌, ◌-◌, ◌*◌, ◌≤◌, ◌<◌}
use native.Mathlib.Omega.{arith}
use lib.IntN.{ℤ, pos}
use lib.ListN.{length, length-map}
use Rattle.scope.specs.Limits.{bracket_limit, part_limit}
use Rattle.scope.specs.Line.{Place, Bracket}
use Rattle.scope.specs.Lists.{given, padded}
use Rattle.scope.specs.Tables.{millionths, score_of}
use Rattle.scope.specs.Layout.{numbers_size, part_size, row_at, part_at, places_at, mass_at, packed, part_rows, places_row}
use Rattle.layout_laws.specs.At.{At}
use Rattle.layout_laws.proofs.LayoutLaws.{padded_length, part_rows_length, head_of}
use Rattle.sheet.specs.Fields.{parts_field, base_field, places_field, many_field}
use Rattle.sheet.proofs.FieldLaws.{Among, among}
use Rattle.store.specs.PartPut.{RowFits, PartNoted}
use Rattle.store.specs.BracketPut.{PlacesFit, BracketNoted}
use Rattle.store.proofs.NotedRows.{parts_many, head_noted, points_are, places_fit, texts_long, texts_noted, row_noted, number_noted, row_fits}
use Rattle.std.specs.Prelude.{Some}
use Rattle.held.specs.Tells.{Tells}
use Rattle.held.specs.Held.{PartHeld, PartSeen, FrameHeld, BracketThere, BracketHeld, BracketSeen}
use Rattle.held.proofs.Joins.{tells_both, tells_not, Joins}
use Rattle.held.proofs.Places.{at_nil, at_joins, at_cons, at_padded}
use Rattle.held.proofs.Upto.{HeldUpto, upto_start, upto_room, upto_next, upto_stops, upto_texts, upto_end}
use Rattle.held.proofs.PartLaws.{mass_of, PartsHeld, no_parts_lem, parts_joins}

-- ---- a bracket is what it has beside its parts, its places, and its parts
module _ {line heads parts : List ℕ} {masses scores : List ℤ} {residues k : ℕ} {b : Bracket ℕ} (w : BracketNoted line heads parts masses scores residues k b) (bytes : List ℕ) (numbers : List ℤ)
    (few : k < bracket_limit) (long : numbers_size ≤ length numbers) (t n : ℕ) (many : n ≡ length b.parts) where
  pub bracket_joins : Joins (FrameHeld heads scores k n bytes numbers × At bytes (places_at k) (places_row b.places)) (PartsHeld bytes numbers k 0 t b.parts) (BracketHeld k t b bytes numbers)
  bracket_joins =
      let ps = b.parts in
      let rs = part_rows t ps in
      let ms = map mass_of ps in
      let score = given (score_of ps) millionths (pos 0) in
      let few_parts_lem = w.within.few_parts_lem in
      let rows_long = part_rows_length t ps in
      let masses_long = length-map ps mass_of in
      let room_long = padded_length (pos 0) part_limit ms (omega arith) in
      let parts_long = padded_length 0 (part_limit * part_size) rs (omega arith) in
      let row = at_joins bytes (row_at k) (part_at k 0) (head_of b) (padded 0 (part_limit * part_size) rs ++ places_row b.places) (omega arith) in
      let behind = at_joins bytes (part_at k 0) (places_at k) (padded 0 (part_limit * part_size) rs) (places_row b.places) (omega arith) in
      let rows = at_padded bytes 0 (part_limit * part_size) (part_at k 0) (part_at k n) ((part_limit - n) * part_size) rs (omega arith) (omega arith) in
      let number_row_lem = at_joins numbers (mass_at k 0) (mass_at k part_limit) (padded (pos 0) part_limit ms) (score ∷ []) (omega arith) in
      let number-rows = at_padded numbers (pos 0) part_limit (mass_at k 0) (mass_at k n) (part_limit - n) ms (omega arith) (omega arith) in
      let points = at_cons numbers (pos 0) score (mass_at k part_limit) (mass_at k part_limit + 1) [] refl (omega arith) in
      record {
        on = λ fp q.
            let f = fp.0 in
            record {
              rows_at_is = row.on (subst (At bytes (row_at k)) (head_noted w) f.head_at_lem) (behind.on (rows.on q.rows_at_is f.rows_zero) fp.1);
              texts_at_lem = q.texts_at_lem;
              masses_at = number_row_lem.on (number-rows.on q.masses_at f.masses_zero) (points.on (f.score_is ∙ points_are w) (at_nil numbers (mass_at k part_limit + 1)));
            };
        back = λ h.
            let r = row.back h.rows_at_is in
            let x = behind.back r.1 in
            let rz = rows.back x.0 in
            let m = number_row_lem.back h.masses_at in
            let mz = number-rows.back m.0 in (
              (
                record {
                  head_at_lem = subst (At bytes (row_at k)) (sym (head_noted w)) r.0;
                  rows_zero = rz.1;
                  masses_zero = mz.1;
                  score_is = (points.back m.1).0 ∙ sym (points_are w);
                },
                x.1,
              ),
              record { rows_at_is = rz.0; texts_at_lem = h.texts_at_lem; masses_at = mz.0 },
            );
      }

-- ---- the loop over its parts
pub frame_fits : {line heads parts : List ℕ} {masses scores : List ℤ} {k t n : ℕ}
    → n ≡ parts_field heads k → (b : Bracket ℕ) × BracketThere line heads parts masses scores k t b → (k < bracket_limit) × (n ≤ part_limit)
frame_fits e s = let f = s.1 in (f.few_brackets_lem, omega (arith, parts_many f.noted, f.noted.within.few_parts_lem))

-- its places stand in the line
pub some_places : {line heads parts : List ℕ} {masses scores : List ℤ} {k t at many : ℕ}
    → at ≡ places_field heads k → many ≡ many_field heads k → (b : Bracket ℕ) × BracketThere line heads parts masses scores k t b
    → (ps : List (Place ℕ)) × PlacesFit line at many k ps
some_places ea em s = let f = s.1 in (s.0.places, places_fit f.noted ea em f.few_brackets_lem)

pub record HoldingParts (line heads parts : List ℕ) (masses scores : List ℤ) (k : ℕ) (bytes : List ℕ) (numbers : List ℤ) (m n t j u : ℕ) : Type 0 where
  pub base_is : m ≡ base_field heads k
  pub many : n ≡ parts_field heads k
  pub few : j ≤ n
  pub there : (b : Bracket ℕ) × BracketThere line heads parts masses scores k t b
  pub upto : (b : Bracket ℕ) → BracketThere line heads parts masses scores k t b → HeldUpto (PartsHeld bytes numbers k) packed t b.parts j u

module _ {line heads parts : List ℕ} {masses scores : List ℤ} {k : ℕ} {bytes : List ℕ} {numbers : List ℤ} {m n t j u : ℕ}
    (w : HoldingParts line heads parts masses scores k bytes numbers m n t j u) where
  module _ {b : Bracket ℕ} (f : BracketThere line heads parts masses scores k t b) (h : j < n) where
    next : Among b.parts j
    next = among b.parts j (omega (arith, w.many, parts_many f.noted))

    next_noted : PartNoted line parts masses (m + j) next.this
    next_noted =
        let e : f.noted.base + length next.before ≡ m + j = omega (arith, w.base_is, f.noted.fields.base_is, next.place) in
        subst (λ i. PartNoted line parts masses i next.this) e (f.noted.parts_are next.before next.this next.behind next.is)

    fits : RowFits line parts masses (m + j) k j u
    fits =
        let all_parts : n ≡ length b.parts = w.many ∙ parts_many f.noted in
        row_fits next_noted (omega (arith, w.base_is, f.noted.fields.base_is, f.noted.few_rows))
        (omega (arith, upto_room (w.upto b f) next, f.texts_room)) f.few_brackets_lem (omega (arith, f.noted.within.few_parts_lem))

    further : {v : ℕ} → PartSeen line parts masses (m + j) k j u bytes numbers (Some v) → HeldUpto (PartsHeld bytes numbers k) packed t b.parts (j + 1) v
    further {v} q =
        let p = next.this in
        let e : v ≡ u + length (packed p) = q.0 ∙ ap (λ i. u + i) (texts_long next_noted) in
        upto_next (w.upto b f) next e (parts_joins bytes numbers k j u p next.behind v e) (rw (row_noted next_noted u, texts_noted next_noted, number_noted next_noted) at q.1)

  pub parting_fits : j < n → RowFits line parts masses (m + j) k j u
  parting_fits h = fits w.there.1 h

  pub parting_next : j < n → {v : ℕ} → PartSeen line parts masses (m + j) k j u bytes numbers (Some v) → HoldingParts line heads parts masses scores k bytes numbers m n t (j + 1) v
  parting_next h q = record { base_is = w.base_is; many = w.many; few = omega arith; there = w.there; upto = λ b f. further f h q }

module _ {line heads parts : List ℕ} {masses scores : List ℤ} {k : ℕ} {bytes : List ℕ} {numbers : List ℤ} {m n t : ℕ} where
  pub parting_start : (b : Bracket ℕ) × BracketThere line heads parts masses scores k t b → m ≡ base_field heads k → n ≡ parts_field heads k
      → HoldingParts line heads parts masses scores k bytes numbers m n t 0 t
  parting_start s e f = record { base_is = e; many = f; few = omega arith; there = s; upto = λ b h. upto_start }

-- what it has beside its parts
module _ {line heads parts : List ℕ} {masses scores : List ℤ} {k : ℕ} {bytes : List ℕ} {numbers : List ℤ} {n t : ℕ} where
  module _ {at many : ℕ} (en : n ≡ parts_field heads k) (ea : at ≡ places_field heads k) (em : many ≡ many_field heads k)
      {frame places : Bool} (long : numbers_size ≤ length numbers) (v : Tells frame (FrameHeld heads scores k n bytes numbers))
      (told : (ps : List (Place ℕ)) → PlacesFit line at many k ps → Tells places (At bytes (places_at k) (places_row ps))) where
    beside : (b : Bracket ℕ) → BracketThere line heads parts masses scores k t b → Tells (frame && places) (FrameHeld heads scores k n bytes numbers × At bytes (places_at k) (places_row b.places))
    beside b f = tells_both v (told b.places (places_fit f.noted ea em f.few_brackets_lem))

    whole : (b : Bracket ℕ) (f : BracketThere line heads parts masses scores k t b)
        → Joins (FrameHeld heads scores k n bytes numbers × At bytes (places_at k) (places_row b.places)) (PartsHeld bytes numbers k 0 t b.parts) (BracketHeld k t b bytes numbers)
    whole b f = bracket_joins f.noted bytes numbers f.few_brackets_lem long t n (en ∙ parts_many f.noted)

    pub frame_stops : (frame && places) ≡ false → (b : Bracket ℕ) → BracketThere line heads parts masses scores k t b → BracketHeld k t b bytes numbers → ⊥
    frame_stops e b f z = tells_not (beside b f) e ((whole b f).back z).0

    module _ {m j u : ℕ} (w : HoldingParts line heads parts masses scores k bytes numbers m n t j u) where
      pub parting_stops : j < n → (PartHeld line parts masses (m + j) k j u bytes numbers → ⊥) → (b : Bracket ℕ) → BracketThere line heads parts masses scores k t b → BracketHeld k t b bytes numbers → ⊥
      parting_stops h q b f z =
          let x = next w f h in
          let p = next_noted w f h in
          upto_stops (w.upto b f) x (parts_joins bytes numbers k j u x.this x.behind _ refl) (rw (row_noted p u, texts_noted p, number_noted p) at q) ((whole b f).back z).1

      pub parting_end : n ≤ j → (frame && places) ≡ true → (b : Bracket ℕ) → BracketThere line heads parts masses scores k t b → BracketSeen k t b bytes numbers (Some u)
      parting_end h e b f =
          let all_parts : n ≡ length b.parts = w.many ∙ parts_many f.noted in
          let all : j ≡ length b.parts = omega (arith, w.few) in
          let x = w.upto b f in
          (upto_texts x all, (whole b f).on ((beside b f).on e) (upto_end x all (no_parts_lem bytes numbers k j u)))
