-- What is kept of a line is the line but for its compositions: keys, references and labels stay, and so does how many copies float; and places do not matter.
use Rattle.std.specs.Prelude.{ℕ, ◌≡◌, refl, Bool, true, false, cond}
use Rattle.std.proofs.Math.Path.{sym, ap}
use Rattle.std.proofs.Common.{ap₂, ◌∙◌}
use mathlib.Core.List.{List, [], ◌∷◌, map}
use Rattle.std.proofs.Math.ListN.{replicate}
use Rattle.scope.specs.declared.grammar.Key.TheVariants.{Glycan}
use Rattle.scope.specs.Line.{Value, mass, text, reference, composition, Part, Bracket, Line}
use Rattle.scope.specs.Content.{is_reference}
use Rattle.scope.specs.Modifications.{is_key, names_of, copies}
use Rattle.scope.specs.Glycans.{Item, cuttings}
use Rattle.scope.specs.Kept.{cut_as, cut_value, kept_part, kept_bracket, kept}
use Rattle.scope.specs.Tables.{bare_value, bare_part, bare_bracket, bare_residue, tables_of}
use Rattle.scope.specs.Positions.{floaters}
use Rattle.basics.specs.Lists.{map_map, flat_map, map_flat, map_replicate}
use Rattle.reading_laws.proofs.Bare.{Likewise, same_info, same_refers, same_names}

module _ {P : Type 0} where
  cut_refers : (at : P) (t : List ℕ) (l : List (List Item)) → is_reference (cut_as at t l) ≡ false
  cut_refers at t [] = refl
  cut_refers at t (xs ∷ l) = refl

  pub value_refers : (at : P) (v : Value P) → is_reference (cut_value at v) ≡ is_reference v
  value_refers at (mass n) = refl
  value_refers at (text t) = cut_refers at t (cuttings t)
  value_refers at reference = refl
  value_refers at (composition t n) = cut_refers at t (cuttings t)

  pub likewise_kept : Likewise {P = P} kept_part
  likewise_kept = record { key = λ p. refl; refers = λ p. go p (is_key Glycan p); names = λ p. refl }
    where
      go : (p : Part P) (t : Bool) → is_reference (cond t (cut_value p.at p.value) p.value) ≡ is_reference p.value
      go p true = value_refers p.at p.value
      go p false = refl

  pub names_kept : (k : Bracket P) → names_of (kept_bracket k) ≡ names_of k
  names_kept k = same_names kept_part likewise_kept k.parts

  pub copies_kept : (k : Bracket P) → copies (kept_bracket k) ≡ copies k
  unfolding copies
  copies_kept k = rw (same_info kept_part likewise_kept k.parts, same_refers kept_part likewise_kept k.parts, names_kept k)

  pub floaters_kept : (l : Line P) → floaters (kept l) ≡ map kept_bracket (floaters l)
  unfolding floaters kept
  floaters_kept l =
      flat_map (λ k. replicate (copies k) k) (λ k. replicate (copies k) (kept_bracket k)) kept_bracket
      (λ k. ap (λ n. replicate n (kept_bracket k)) (copies_kept k)) l.brackets
      ∙ sym (map_flat kept_bracket (λ k. replicate (copies k) k) (λ k. replicate (copies k) (kept_bracket k))
      (λ k. map_replicate kept_bracket (copies k) k) l.brackets)

  -- ---- without places
  cut_bare : (at : P) (t : List ℕ) (l : List (List Item)) → cut_as tt t l ≡ bare_value (cut_as at t l)
  cut_bare at t [] = refl
  cut_bare at t (xs ∷ l) = refl

  value_bare : (at : P) (v : Value P) → cut_value tt (bare_value v) ≡ bare_value (cut_value at v)
  value_bare at (mass n) = refl
  value_bare at (text t) = cut_bare at t (cuttings t)
  value_bare at reference = refl
  value_bare at (composition t n) = cut_bare at t (cuttings t)

  part_bare : (p : Part P) → kept_part (bare_part p) ≡ bare_part (kept_part p)
  part_bare p = ap (λ v. record { key = p.key; value = v; label = (bare_part p).label; at = tt }) (go (is_key Glycan p))
    where
      go : (t : Bool) → cond t (cut_value tt (bare_value p.value)) (bare_value p.value) ≡ bare_value (cond t (cut_value p.at p.value) p.value)
      go true = value_bare p.at p.value
      go false = refl

  parts_bare : (ps : List (Part P)) → map kept_part (map bare_part ps) ≡ map bare_part (map kept_part ps)
  parts_bare ps = map_map kept_part (λ p. bare_part (kept_part p)) bare_part part_bare ps ∙ sym (map_map bare_part (λ p. bare_part (kept_part p)) kept_part (λ p. refl) ps)

  brackets_bare : (ks : List (Bracket P)) → map kept_bracket (map bare_bracket ks) ≡ map bare_bracket (map kept_bracket ks)
  brackets_bare [] = refl
  brackets_bare (k ∷ ks) = ap₂ (λ ps l. record { kind = k.kind; first = k.first; last = k.last; count = k.count; counted = (bare_bracket k).counted; parts = ps; places = (bare_bracket k).places; at = tt } ∷ l) (parts_bare k.parts) (brackets_bare ks)

  -- what is kept of the tables is what the tables of the kept line hold
  pub tables_kept : (l : Line P) → kept (tables_of l) ≡ tables_of (kept l)
  unfolding kept tables_of
  tables_kept l = ap (λ ks. record { residues = map bare_residue l.residues; brackets = ks }) (brackets_bare l.brackets)
