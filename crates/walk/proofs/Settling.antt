-- The rows of the brackets at the front, made N-terminal one by one.
use mathlib.Core.Path.{◌≡◌, refl, sym, ap, subst, ◌∙◌}
use mathlib.Core.List.{List, [], ◌∷◌, ◌++◌, map, append_assoc, append-nil, map-append}
use Prim.Native.Nat.{ℕ, ◌+◌, ◌*◌, ◌≤◌, ◌<◌, min}
use native.Mathlib.Omega.{arith}
use lib.ListN.{length, take, set, length-append, length-map, length-set}
use Rattle.scope.specs.declared.grammar.Kind.TheVariants.{NTerm}
use Rattle.scope.specs.Kinds.{kind_code}
use Rattle.scope.specs.Line.{Bracket}
use Rattle.scope.specs.Reading.{as_nTerm}
use Rattle.sheet.specs.Rows.{head_fields, heads_from}
use Rattle.sheet.specs.Fields.{kind_at}
use Rattle.sheet.proofs.RowLaws.{kind_put}
use Rattle.sheet.specs.declared.Sheet.{Sheet}
use Rattle.walk.specs.Stages.{with_heads}
use Rattle.walk.specs.Steps.{Settled}

-- the rows up to i are settled; those up to `end` are left
pub record Partly (bs rs : List (Bracket ℕ)) (i end : ℕ) (heads : List ℕ) : Type 0 where
  pub done : List (Bracket ℕ)
  pub left : List (Bracket ℕ)
  pub is : rs ≡ done ++ left
  pub at : min i end ≡ length bs + length done
  pub rows : take (end * head_fields) heads ≡ heads_from 0 (bs ++ (map as_nTerm done ++ left))

pub record SettlingHeads (first end i : ℕ) (old t : Sheet) : Type 0 where
  pub partly : (bs rs : List (Bracket ℕ)) → min first end ≡ length bs → end ≡ length bs + length rs → take (end * head_fields) old.heads ≡ heads_from 0 (bs ++ rs) → Partly bs rs i end t.heads
  pub kept : length t.heads ≡ length old.heads
  pub others : t ≡ with_heads old t.heads

pub settling_start : (first end : ℕ) (old : Sheet) → SettlingHeads first end first old old
settling_start first end old = record {
  partly = λ bs rs e f g. record { done = []; left = rs; is = refl; at = let z : min first end ≡ length bs + 0 = omega arith in z; rows = g };
  kept = refl;
  others = refl;
}

partly_next : (bs rs : List (Bracket ℕ)) (i end : ℕ) (heads : List ℕ) (done left : List (Bracket ℕ)) → rs ≡ done ++ left → min i end ≡ length bs + length done
    → take (end * head_fields) heads ≡ heads_from 0 (bs ++ (map as_nTerm done ++ left)) → end ≡ length bs + length rs → i < end
    → Partly bs rs (i + 1) end (set heads (kind_at i) (kind_code NTerm))
partly_next bs rs i end heads done [] is at rows e h = absurd (omega (arith, ap length is, length-append done []))
partly_next bs rs i end heads done (k ∷ left) is at rows e h =
    let m = bs ++ map as_nTerm done in
    let n : i ≡ length bs + length done = omega arith in
    let l : i ≡ length m = n ∙ ap (λ t. length bs + t) (sym (length-map done as_nTerm)) ∙ sym (length-append bs (map as_nTerm done)) in
    let q = kind_put heads m k left end i (rows ∙ ap (heads_from 0) (sym (append_assoc bs (map as_nTerm done) (k ∷ left)))) l in
    let r : map as_nTerm (done ++ (k ∷ [])) ++ left ≡ map as_nTerm done ++ (as_nTerm k ∷ left) =
    ap (λ t. t ++ left) (map-append as_nTerm done (k ∷ [])) ∙ append_assoc (map as_nTerm done) (as_nTerm k ∷ []) left in
    record {
      done = done ++ (k ∷ []);
      left = left;
      is = is ∙ sym (append_assoc done (k ∷ []) left);
      at = omega (arith, n, length-append done (k ∷ []));
      rows = q ∙ ap (heads_from 0) (append_assoc bs (map as_nTerm done) (as_nTerm k ∷ left)) ∙ ap (λ t. heads_from 0 (bs ++ t)) (sym r);
    }

partly_end : (bs rs : List (Bracket ℕ)) (i end : ℕ) (heads : List ℕ) (done left : List (Bracket ℕ)) → rs ≡ done ++ left → min i end ≡ length bs + length done
    → take (end * head_fields) heads ≡ heads_from 0 (bs ++ (map as_nTerm done ++ left)) → end ≡ length bs + length rs → end ≤ i
    → take (end * head_fields) heads ≡ heads_from 0 (bs ++ map as_nTerm rs)
partly_end bs rs i end heads done [] is at rows e h =
    rows ∙ ap (λ t. heads_from 0 (bs ++ t)) (append-nil (map as_nTerm done) ∙ ap (map as_nTerm) (sym (is ∙ append-nil done)))
partly_end bs rs i end heads done (k ∷ left) is at rows e h = absurd (omega (arith, ap length is, length-append done (k ∷ left)))

module _ {first end i : ℕ} {old t : Sheet} (w : SettlingHeads first end i old t) where
  pub settling_next : i < end → (code : ℕ) → code ≡ kind_code NTerm → (t' : Sheet) → t' ≡ with_heads t (set t.heads (kind_at i) code) → SettlingHeads first end (i + 1) old t'
  settling_next h code e t' f =
      let put : t'.heads ≡ set t.heads (kind_at i) code = ap (λ x. x.heads) f in
      let q : t'.heads ≡ set t.heads (kind_at i) (kind_code NTerm) = put ∙ ap (set t.heads (kind_at i)) e in
      record {
        partly = λ bs rs a b g.
            let p = w.partly bs rs a b g in
            rw q (partly_next bs rs i end t.heads p.done p.left p.is p.at p.rows b h);
        kept = ap length q ∙ length-set t.heads (kind_at i) (kind_code NTerm) ∙ w.kept;
        others = f ∙ ap (λ x. with_heads x (set t.heads (kind_at i) code)) w.others ∙ ap (with_heads old) (sym put);
      }

  pub settling_end : end ≤ i → Settled first end old t
  settling_end h = record {
    rows = λ bs rs a b g.
        let p = w.partly bs rs a b g in
        partly_end bs rs i end t.heads p.done p.left p.is p.at p.rows b h;
    kept = w.kept;
    others = w.others;
  }

pub settled_upto : {first k end : ℕ} {old t : Sheet} → k ≡ end → Settled first k old t → Settled first end old t
settled_upto {first} {k} {end} {old} {t} e w = subst (λ j. Settled first j old t) e w
