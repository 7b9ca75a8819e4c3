-- What the small tests answer, and the byte behind a part.
use mathlib.Core.Path.{◌≡◌, sym, ap, ap₂, ◌∙◌}
use mathlib.Core.Bool.{Bool, true, false, cond, ◌&&◌, and-true, and-false}
use mathlib.Core.List.{List, [], ◌∷◌}
use Prim.Native.Nat.{ℕ, ◌+◌, ◌*◌, ◌^◌, ◌<◌, ◌≤◌}
use native.Mathlib.Omega.{arith}
use borrow.Author.Tests.{eq-eqb, ne_eqb, lt-ltb, le-ltb}
use lib.Dec.{eqb, ltb}
use lib.IntN.{ℤ}
use lib.ListN.{length, get_or}
use lib.Seq.{sets}
use lib.Signed.{mag}
use mir.Syntax.{w64}
use mir.Val.{to_z, of_z, hbits}
use mir.Facts.{to_z-of_z}
use Rattle.basics.specs.Choice.{pick_true, branch}
use Rattle.scope.specs.declared.grammar.Key.TheVariants.{Info}
use Rattle.scope.specs.Bytes.{bar, hash, wide_limit}
use Rattle.scope.specs.Keys.{key_code}
use Rattle.scope.specs.Layout.{text_code, reference_code}
use Rattle.scope.specs.Line.{Part, Bracket}
use Rattle.scope.specs.Lists.{none?, flat}
use Rattle.scope.specs.Modifications.{name_of}
use Rattle.sheet.specs.Rows.{sort_of, part_fields}
use Rattle.sheet.specs.Fields.{part_row}
use Rattle.values.specs.declared.Value.{Value}
use Rattle.labels.specs.declared.Label.{Label}
use Rattle.inside.specs.declared.Parts.{Parts}
use Rattle.inside.specs.declared.Next.TheVariants.{Closed, More}
use Rattle.std.specs.Prelude.{Ok}
use Rattle.inside.specs.Says.{PartsAre}
use Rattle.inside.specs.Progress.{lost_at, byte_behind, behind_part}
use Rattle.inside.proofs.Lists.{none_long}

-- ---- whether a reference may stand here
pub first_part : (refers : Bool) (n : ℕ) → n ≡ 0 → (ps : List (Part ℕ)) → n ≡ length ps → (refers && none? ps) ≡ refers
first_part refers n e [] f = and-true refers
first_part refers n e (p ∷ ps) f = absurd (omega arith)

pub later_part : (refers : Bool) (n : ℕ) → (n ≡ 0 → ⊥) → (ps : List (Part ℕ)) → n ≡ length ps → (refers && none? ps) ≡ false
later_part refers n e [] f = absurd (e f)
later_part refers n e (p ∷ ps) f = and-false refers

-- ---- whether a label follows
module _ (line : List ℕ) (at : ℕ) (labels : Bool) where
  pub line_over : length line ≤ at → false ≡ (ltb at (length line) && (eqb (get_or line at 0) hash && labels))
  line_over h = sym (rw (le-ltb at (length line) h))

  pub hash_here : at < length line → get_or line at 0 ≡ hash → labels ≡ (ltb at (length line) && (eqb (get_or line at 0) hash && labels))
  hash_here h e = sym (rw (lt-ltb at (length line) h, eq-eqb (get_or line at 0) hash e))

  pub no_hash : at < length line → (get_or line at 0 ≡ hash → ⊥) → false ≡ (ltb at (length line) && (eqb (get_or line at 0) hash && labels))
  no_hash h e = sym (rw (lt-ltb at (length line) h, ne_eqb (get_or line at 0) hash e))

-- ---- the byte behind a part
module _ (line : List ℕ) (shut : ℕ) (ref : Bool) (next : ℕ) (s : Parts) where
  pub behind_end : length line ≤ next → lost_at next ≡ behind_part line shut ref next s
  unfolding behind_part
  behind_end h = sym (rw (le-ltb next (length line) h))

  pub behind_byte : next < length line → behind_part line shut ref next s ≡ byte_behind shut ref next s (get_or line next 0)
  unfolding behind_part
  behind_byte h = rw (lt-ltb next (length line) h)

  pub byte_shuts : next < length line → get_or line next 0 ≡ shut → Ok (Closed (next + 1) s) ≡ behind_part line shut ref next s
  unfolding byte_behind
  byte_shuts h e = sym (behind_byte h ∙ rw (eq-eqb (get_or line next 0) shut e))

  pub byte_other : next < length line → (get_or line next 0 ≡ shut → ⊥) → (get_or line next 0 ≡ bar → ⊥) → lost_at next ≡ behind_part line shut ref next s
  unfolding byte_behind
  byte_other h e f = sym (behind_byte h ∙ rw (ne_eqb (get_or line next 0) shut e, ne_eqb (get_or line next 0) bar f))

  pub byte_refused : next < length line → (get_or line next 0 ≡ shut → ⊥) → ref ≡ true → lost_at next ≡ behind_part line shut ref next s
  unfolding byte_behind
  byte_refused h e g = sym (behind_byte h ∙ rw (ne_eqb (get_or line next 0) shut e, g, and-false (eqb (get_or line next 0) bar)))

  pub byte_splits : next < length line → (get_or line next 0 ≡ shut → ⊥) → get_or line next 0 ≡ bar → ref ≡ false → Ok (More (next + 1) s) ≡ behind_part line shut ref next s
  unfolding byte_behind
  byte_splits h e f g = sym (behind_byte h ∙ rw (ne_eqb (get_or line next 0) shut e, eq-eqb (get_or line next 0) bar f, g))

-- ---- what a bracket with these parts is
sort_code : Bool → Bool → ℕ → ℕ
sort_code refers info labels = cond refers 3 (cond info 0 (cond (eqb labels 0) 1 2))

sort_code_lem : (line : List ℕ) (least : ℕ) (s : Parts) (k : Bracket ℕ) → PartsAre line least s k.parts → sort_code s.refers s.info s.labels ≡ sort_of k
unfolding sort_code sort_of
sort_code_lem line least s k w = rw (w.refers, w.info, none_long (flat name_of k.parts) s.labels w.labels)

module _ (s : Parts) where
  pub sort_refers : s.refers ≡ true → (line : List ℕ) (least : ℕ) (k : Bracket ℕ) → PartsAre line least s k.parts → 3 ≡ sort_of k
  unfolding sort_code
  sort_refers e line least k w = sym (let z : sort_code s.refers s.info s.labels ≡ 3 = rw e in z) ∙ sort_code_lem line least s k w

  pub sort_info : s.refers ≡ false → s.info ≡ true → (line : List ℕ) (least : ℕ) (k : Bracket ℕ) → PartsAre line least s k.parts → 0 ≡ sort_of k
  unfolding sort_code
  sort_info e f line least k w = sym (let z : sort_code s.refers s.info s.labels ≡ 0 = rw (e, f) in z) ∙ sort_code_lem line least s k w

  pub sort_bare : s.refers ≡ false → s.info ≡ false → s.labels ≡ 0 → (line : List ℕ) (least : ℕ) (k : Bracket ℕ) → PartsAre line least s k.parts → 1 ≡ sort_of k
  unfolding sort_code
  sort_bare e f g line least k w = sym (let z : sort_code s.refers s.info s.labels ≡ 1 = rw (e, f, eq-eqb s.labels 0 g) in z) ∙ sort_code_lem line least s k w

  pub sort_named : s.refers ≡ false → s.info ≡ false → (s.labels ≡ 0 → ⊥) → (line : List ℕ) (least : ℕ) (k : Bracket ℕ) → PartsAre line least s k.parts → 2 ≡ sort_of k
  unfolding sort_code
  sort_named e f g line least k w = sym (let z : sort_code s.refers s.info s.labels ≡ 2 = rw (e, f, ne_eqb s.labels 0 g) in z) ∙ sort_code_lem line least s k w
