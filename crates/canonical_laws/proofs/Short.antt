-- A line with its compositions short, as texts: the same is kept of it, and it has the canonical line of what is kept.
use Rattle.std.specs.Prelude.{ℕ, ◌≡◌, Bool, cond, List, [], ◌∷◌, ◌++◌, map}
use Rattle.std.proofs.Math.Path.{refl, ap, ap₂}
use Rattle.std.proofs.Common.{sym, ◌∙◌, map-id}
use Rattle.std.proofs.Math.Bool.{true, false}
use Rattle.scope.specs.declared.grammar.Key.TheVariants.{Glycan}
use Rattle.scope.specs.Line.{Value, mass, text, reference, composition, Part, Bracket, Line}
use Rattle.scope.specs.Content.{is_reference}
use Rattle.scope.specs.Modifications.{is_key}
use Rattle.scope.specs.Glycans.{Item, cuttings}
use Rattle.scope.specs.Kept.{cut_as, cut_value, kept_part, kept_bracket, kept}
use Rattle.scope.specs.Keys.{written}
use Rattle.scope.specs.Lists.{given}
use Rattle.scope.specs.Canonical.{value_text, label_text, part_text, canonical}
use Rattle.basics.specs.Lists.{map_map}
use Rattle.reading_laws.proofs.Bare.{parts_same, line_text, Likewise}
use Rattle.reading_laws.proofs.Compositions.{value_refers}
use Rattle.glycan_laws.proofs.Written.{cut_kept, first_cut, kept_once}

module _ {P : Type 0} where
  -- a composition as a text
  abbrev pub worded : Value P → Value P
  worded (mass n) = mass n
  worded (text t) = text t
  worded reference = reference
  worded (composition t n) = text t

  -- with its composition short
  abbrev pub short_part : Part P → Part P
  short_part p =
      record { key = p.key; value = cond (is_key Glycan p) (worded (cut_value p.at p.value)) p.value; label = p.label; at = p.at }

  abbrev pub short_bracket : Bracket P → Bracket P
  short_bracket k =
      record {
        kind = k.kind;
        first = k.first;
        last = k.last;
        count = k.count;
        counted = k.counted;
        parts = map short_part k.parts;
        places = k.places;
        at = k.at;
      }

  abbrev pub short_line : Line P → Line P
  short_line l = record { residues = l.residues; brackets = map short_bracket l.brackets }

  -- ---- the same is kept
  cut_again : (at : P) (t : List ℕ) (l : List (List Item)) → cuttings t ≡ l → cut_value at (worded (cut_as at t l)) ≡ cut_as at t l
  cut_again at t [] e = ap (cut_as at t) e
  cut_again at t (xs ∷ l) e = let c = first_cut t xs l e in kept_once at t xs c ∙ cut_kept at t xs c

  kept_value : (at : P) (v : Value P) → cut_value at (worded (cut_value at v)) ≡ cut_value at v
  kept_value at (mass n) = refl
  kept_value at (text t) = cut_again at t (cuttings t) refl
  kept_value at reference = refl
  kept_value at (composition t n) = cut_again at t (cuttings t) refl

  kept_part_lem : (p : Part P) → kept_part (short_part p) ≡ kept_part p
  kept_part_lem p = ap (λ v. record { key = p.key; value = v; label = p.label; at = p.at }) (go (is_key Glycan p))
    where
      go : (t : Bool) → cond t (cut_value p.at (cond t (worded (cut_value p.at p.value)) p.value)) (cond t (worded (cut_value p.at p.value)) p.value) ≡ cond t (cut_value p.at p.value) p.value
      go true = kept_value p.at p.value
      go false = refl

  pub kept_short : (l : Line P) → kept (short_line l) ≡ kept l
  unfolding kept
  kept_short l = ap (λ ks. record { residues = l.residues; brackets = ks }) (map_map kept_bracket kept_bracket short_bracket bracket l.brackets)
    where
      bracket : (k : Bracket P) → kept_bracket (short_bracket k) ≡ kept_bracket k
      bracket k =
          ap (λ ps. record { kind = k.kind; first = k.first; last = k.last; count = k.count; counted = k.counted; parts = ps; places = k.places; at = k.at })
          (map_map kept_part kept_part short_part kept_part_lem k.parts)

  -- ---- the same text
  value_text_lem : (v : Value P) → value_text (worded v) ≡ value_text v
  value_text_lem (mass n) = refl
  value_text_lem (text t) = refl
  value_text_lem reference = refl
  value_text_lem (composition t n) = refl

  abbrev worded_part : Part P → Part P
  worded_part p = record { key = p.key; value = cond (is_key Glycan p) (worded p.value) p.value; label = p.label; at = p.at }

  part_text_lem : (p : Part P) → part_text (worded_part p) ≡ part_text p
  unfolding part_text
  part_text_lem p = go (is_key Glycan p)
    where
      go : (t : Bool) → written p.key ++ (value_text (cond t (worded p.value) p.value) ++ given p.label label_text []) ≡ part_text p
      go true = rw (value_text_lem p.value)
      go false = refl

  short_is : (p : Part P) → worded_part (kept_part p) ≡ short_part p
  short_is p = ap (λ v. record { key = p.key; value = v; label = p.label; at = p.at }) (go (is_key Glycan p) (cut_value p.at p.value) p.value)
    where
      go : (t : Bool) (u v : Value P) → cond t (worded (cond t u v)) (cond t u v) ≡ cond t (worded u) v
      go true u v = refl
      go false u v = refl

  abbrev worded_bracket : Bracket P → Bracket P
  worded_bracket k =
      record { kind = k.kind; first = k.first; last = k.last; count = k.count; counted = k.counted; parts = map worded_part k.parts; places = k.places; at = k.at }

  bracket_is : (k : Bracket P) → worded_bracket (kept_bracket k) ≡ short_bracket k
  bracket_is k =
      ap (λ ps. record { kind = k.kind; first = k.first; last = k.last; count = k.count; counted = k.counted; parts = ps; places = k.places; at = k.at })
      (map_map worded_part short_part kept_part short_is k.parts)

  pub canonical_short : (l : Line P) → canonical (short_line l) ≡ canonical (kept l)
  unfolding kept
  canonical_short l =
      ap₂ (λ ks rs. canonical (record { residues = rs; brackets = ks })) (sym (map_map worded_bracket short_bracket kept_bracket bracket_is l.brackets)) (sym (map-id l.residues))
      ∙ line_text worded_bracket (record { kind = λ k. refl; last = λ k. refl; count = λ k. refl; parts = λ k. parts_same worded_part part_text_lem k.parts; places = λ k. refl })
      (λ r. r) (λ r. refl) (λ r. refl) (kept l)

  -- ---- keys, references and labels stay
  worded_refers : (v : Value P) → is_reference (worded v) ≡ is_reference v
  worded_refers (mass n) = refl
  worded_refers (text t) = refl
  worded_refers reference = refl
  worded_refers (composition t n) = refl

  pub likewise_short : Likewise {P = P} short_part
  likewise_short = record { key = λ p. refl; refers = λ p. go p (is_key Glycan p); names = λ p. refl }
    where
      go : (p : Part P) (t : Bool) → is_reference (cond t (worded (cut_value p.at p.value)) p.value) ≡ is_reference p.value
      go p true = worded_refers (cut_value p.at p.value) ∙ value_refers p.at p.value
      go p false = refl
