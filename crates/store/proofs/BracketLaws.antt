-- One bracket put into the areas: its head fits, its parts fit behind that, and with its places and the score it is whole. Then the loop over the brackets: the areas hold those
-- that are passed, and the next one fits.
use mathlib.Core.Path.{◌≡◌, refl, sym, ap, subst, ◌∙◌}
use mathlib.Core.List.{List, ◌∷◌}
use Prim.Native.Nat.{ℕ, ◌+◌, ◌≤◌, ◌<◌}
use native.Mathlib.Omega.{arith}
use lib.IntN.{ℤ, pos}
use lib.ListN.{length, get_or, take, set, length-append}
use lib.Seq.{sets, take_all}
use Rattle.scope.specs.Limits.{part_limit}
use Rattle.scope.specs.Line.{Place, Part, Bracket}
use Rattle.scope.specs.Lists.{flat}
use Rattle.scope.specs.Layout.{row_at, places_at, mass_at, bracket_texts}
use Rattle.basics.specs.Lists.{flat_append_length, flat_cons, flat_snoc}
use Rattle.layout_laws.proofs.LayoutLaws.{head_of}
use Rattle.sheet.specs.Fields.{parts_field, base_field, places_field, many_field}
use Rattle.sheet.proofs.FieldLaws.{Among, among}
use Rattle.store.specs.Areas.{Pieces, head_added, brackets_added}
use Rattle.store.specs.PartPut.{PartsNoted, PartsFit, SomePartsFit, PartsPut}
use Rattle.store.specs.BracketPut.{head_from, HeadGoesIn, places_put, PlacesFit, BracketNoted, BracketGoesIn, SomeBracketFits, BracketPut, BracketsFit, SomeBracketsFit, BracketsPut}
use Rattle.store.proofs.NotedRows.{parts_many, head_noted, points_are, places_fit, head_fits}
use Rattle.store.proofs.AreaLaws.{areas_as, head_more, bracket_more, no_brackets, brackets_more}
use Rattle.store.proofs.Passed.{passed, passed_next}

module _ {line heads parts : List ℕ} {masses scores : List ℤ} {k t : ℕ} {bytes : List ℕ} {numbers : List ℤ} where
  pub some_head : SomeBracketFits line heads parts masses scores k t bytes numbers → HeadGoesIn heads k
  some_head s = let f = s.fits in head_fits f.noted f.few_residues f.few_brackets_lem

  module _ {m n : ℕ} {bytes₁ : List ℕ} (em : m ≡ base_field heads k) (en : n ≡ parts_field heads k) (e : bytes₁ ≡ sets bytes (row_at k) (head_from heads k)) where
    parts_fit : {b : Bracket ℕ} {a : Pieces} → BracketGoesIn line heads parts masses scores k t b a bytes numbers
        → PartsFit line parts masses m n k t b.parts (head_added (head_of b) a) bytes₁ numbers
    parts_fit {b} {a} f =
        let q = f.noted in
        let base_is = em ∙ q.fields.base_is in
        record {
          many = en ∙ parts_many q;
          noted = subst (λ i. PartsNoted line parts masses i b.parts) (sym base_is) q.parts_are;
          few_rows = omega (arith, q.few_rows, en, parts_many q);
          few_brackets_lem = f.few_brackets_lem;
          few_parts_lem = omega (arith, en, parts_many q, q.within.few_parts_lem);
          texts_room = f.texts_room;
          areas_are = head_more b f.areas_are f.few_brackets_lem (e ∙ ap (sets bytes (row_at k)) (head_noted q));
        }

    pub some_parts : SomeBracketFits line heads parts masses scores k t bytes numbers → SomePartsFit line parts masses m n k t bytes₁ numbers
    some_parts s = record { these = s.this.parts; pieces = head_added (head_of s.this) s.pieces; fit = parts_fit s.fits }

    module _ {at many : ℕ} (ea : at ≡ places_field heads k) (eh : many ≡ many_field heads k) where
      places_behind : {b : Bracket ℕ} {a : Pieces} → BracketGoesIn line heads parts masses scores k t b a bytes numbers → PlacesFit line at many k b.places
      places_behind f =
          places_fit f.noted ea eh f.few_brackets_lem

      pub some_places : SomeBracketFits line heads parts masses scores k t bytes numbers → (ps : List (Place ℕ)) × PlacesFit line at many k ps
      some_places s = (s.this.places, places_behind s.fits)

      pub bracket_put : {u : ℕ} {bytes₂ bytes₃ : List ℕ} {numbers₂ numbers₃ : List ℤ} {x : ℤ}
          → ((ps : List (Part ℕ)) (a : Pieces) → PartsFit line parts masses m n k t ps a bytes₁ numbers → PartsPut k t ps a u bytes₂ numbers₂)
          → ((ps : List (Place ℕ)) → PlacesFit line at many k ps → bytes₃ ≡ sets bytes₂ (places_at k) (places_put ps))
          → x ≡ get_or scores k (pos 0) → numbers₃ ≡ set numbers₂ (mass_at k part_limit) x
          → (b : Bracket ℕ) (a : Pieces) → BracketGoesIn line heads parts masses scores k t b a bytes numbers → BracketPut k t b a u bytes₃ numbers₃
      bracket_put {numbers₂ = numbers₂} put place ex en b a f =
          bracket_more b (put b.parts (head_added (head_of b) a) (parts_fit f)) f.few_brackets_lem f.noted.within.few_parts_lem f.noted.within.few_places
          (place b.places (places_behind f))
          (en ∙ ap (set numbers₂ (mass_at k part_limit)) (ex ∙ points_are f.noted)) f.areas_are.rows_long f.areas_are.masses_long

-- ---- the loop
pub record StoredUpto (ks : List (Bracket ℕ)) (a : Pieces) (k t : ℕ) (bytes : List ℕ) (numbers : List ℤ) : Type 0 where
  pub texts_are : t ≡ length (flat bracket_texts (take k ks))
  pub put : BracketsPut (take k ks) a bytes numbers

module _ {line heads parts : List ℕ} {masses scores : List ℤ} {n : ℕ} {ks : List (Bracket ℕ)} {a : Pieces} {bytes₀ : List ℕ} {numbers₀ : List ℤ}
    (f : BracketsFit line heads parts masses scores n ks a bytes₀ numbers₀) where
  start : StoredUpto ks a 0 0 bytes₀ numbers₀
  unfolding flat
  start = record { texts_are = refl; put = no_brackets f.areas_are }

  module _ {k t : ℕ} {bytes : List ℕ} {numbers : List ℤ} (w : StoredUpto ks a k t bytes numbers) (h : k < n) where
    next : Among ks k
    next = among ks k (omega (arith, f.many))

    texts_before : t ≡ length (flat bracket_texts next.before)
    texts_before = w.texts_are ∙ ap (λ x. length (flat bracket_texts x)) (passed next)

    put_before : BracketsPut next.before a bytes numbers
    put_before = subst (λ x. BracketsPut x a bytes numbers) (passed next) w.put

    room : t + length (bracket_texts next.this) ≤ length (flat bracket_texts ks)
    room =
        let b = next.this in
        let v = next.behind in
        omega (arith, texts_before, ap (λ y. length (flat bracket_texts y)) next.is, flat_append_length bracket_texts next.before (b ∷ v), ap length (flat_cons bracket_texts b v), length-append (bracket_texts b) (flat bracket_texts v))

    fits : BracketGoesIn line heads parts masses scores k t next.this (brackets_added next.before a) bytes numbers
    fits =
        let p = next.place in
        record {
          residues = f.residues;
          few_residues = f.few_residues;
          noted = subst (λ i. BracketNoted line heads parts masses scores f.residues i next.this) (sym p) (f.noted next.before next.this next.behind next.is);
          few_brackets_lem = omega (arith, f.few_brackets_lem);
          texts_room = omega (arith, room, f.texts_room);
          areas_are = areas_as refl refl refl (omega arith) (sym texts_before) (omega arith) put_before.areas_are;
        }

    further : {r : ℕ} {bytes' : List ℕ} {numbers' : List ℤ} → BracketPut k t next.this (brackets_added next.before a) r bytes' numbers' → StoredUpto ks a (k + 1) r bytes' numbers'
    further {r} {bytes'} {numbers'} q =
        let b = next.this in
        let x = ap length (flat_snoc bracket_texts next.before b) in
        let y = length-append (flat bracket_texts next.before) (bracket_texts b) in
        record {
          texts_are = omega (arith, q.texts_are, texts_before, ap (λ z. length (flat bracket_texts z)) (passed_next next));
          put = subst (λ z. BracketsPut z a bytes' numbers') (sym (passed_next next)) (brackets_more next.before q next.place texts_before);
        }

pub record StoringBrackets (line heads parts : List ℕ) (masses scores : List ℤ) (n : ℕ) (bytes₀ : List ℕ) (numbers₀ : List ℤ) (k t : ℕ) (bytes : List ℕ) (numbers : List ℤ) : Type 0 where
  pub few : k ≤ n
  pub upto : (ks : List (Bracket ℕ)) (a : Pieces) → BracketsFit line heads parts masses scores n ks a bytes₀ numbers₀ → StoredUpto ks a k t bytes numbers

pub bracketing_start : (line heads parts : List ℕ) (masses scores : List ℤ) (n : ℕ) (bytes : List ℕ) (numbers : List ℤ) → StoringBrackets line heads parts masses scores n bytes numbers 0 0 bytes numbers
bracketing_start line heads parts masses scores n bytes numbers = record { few = omega arith; upto = λ ks a f. start f }

module _ {line heads parts : List ℕ} {masses scores : List ℤ} {n : ℕ} {bytes₀ : List ℕ} {numbers₀ : List ℤ} {k t : ℕ} {bytes : List ℕ} {numbers : List ℤ}
    (w : StoringBrackets line heads parts masses scores n bytes₀ numbers₀ k t bytes numbers) where
  pub bracketing_fits : SomeBracketsFit line heads parts masses scores n bytes₀ numbers₀ → k < n → SomeBracketFits line heads parts masses scores k t bytes numbers
  bracketing_fits s h =
      let f = s.fit in
      let u = w.upto s.these s.pieces f in
      let x = next f u h in
      record { this = x.this; pieces = brackets_added x.before s.pieces; fits = fits f u h }

  pub bracketing_next : k < n → {r : ℕ} {bytes' : List ℕ} {numbers' : List ℤ}
      → ((b : Bracket ℕ) (a : Pieces) → BracketGoesIn line heads parts masses scores k t b a bytes numbers → BracketPut k t b a r bytes' numbers')
      → StoringBrackets line heads parts masses scores n bytes₀ numbers₀ (k + 1) r bytes' numbers'
  bracketing_next h put =
      record {
        few = omega arith;
        upto = λ ks a f.
            let u = w.upto ks a f in
            let x = next f u h in
            further f u h (put x.this (brackets_added x.before a) (fits f u h));
      }

  pub bracketing_end : n ≤ k → (ks : List (Bracket ℕ)) (a : Pieces) → BracketsFit line heads parts masses scores n ks a bytes₀ numbers₀ → BracketsPut ks a bytes numbers
  bracketing_end h ks a f = subst (λ x. BracketsPut x a bytes numbers) (take_all k ks (omega (arith, f.many))) (w.upto ks a f).put
