-- A line without its places is within the bounds where the line is.
use Rattle.std.specs.Prelude.{◌≡◌, refl, true, map, ℕ, ◌≤◌}
use Rattle.std.proofs.Common.{sym, ◌∙◌}
use Rattle.std.proofs.Math.Path.{ap, subst}
use Rattle.std.proofs.Math.Option.{Option, none, some}
use Rattle.std.proofs.Math.ListN.{length, length-map}
use Rattle.scope.specs.Limits.{copy_limit}
use Rattle.scope.specs.Line.{Number, Label, Value, mass, text, reference, composition, Part, Bracket, Line}
use Rattle.scope.specs.Content.{is_reference}
use Rattle.scope.specs.Tables.{bare_number, bare_label, bare_value, bare_part, bare_place, bare_bracket, bare_residue, tables_of}
use Rattle.scope.specs.Layout.{bracket_texts}
use Rattle.scope.specs.Kinds.{is_declared}
use Rattle.scope.specs.Lists.{optional}
use Rattle.scope.specs.Refusals.{declarations}
use Rattle.scope.specs.Positions.{floaters}
use Rattle.basics.specs.Each.{OfGiven, IsGiven, each_map, each_one}
use Rattle.accepted_laws.specs.Within.{Byte, NumberWithin, LabelWithin, ValueWithin, PartWithin, BracketWithin, Within}
use Rattle.basics.specs.Lists.{flat_map, keep_map}
use Rattle.reading_laws.proofs.Bare.{names_of_lem, bracket_texts_lem, same_floaters, is_reference_lem}

module _ {P : Type 0} where
  number_within : (n : Number P) → NumberWithin n → NumberWithin (bare_number n)
  number_within n w = record { range = w.range; sign = w.sign }

  score_within : (s : Option (Number P)) → OfGiven NumberWithin s → OfGiven NumberWithin (optional bare_number s)
  score_within none w = tt
  score_within (some n) w = number_within n w

  label_within : (l : Option (Label P)) → OfGiven LabelWithin l → OfGiven LabelWithin (optional bare_label l)
  label_within none w = tt
  label_within (some l) w =
      record { some_name = w.some_name; short_name = w.short_name; bytes = w.bytes; score = score_within l.score w.score }

  is_given : (l : Option (Label P)) → IsGiven l → IsGiven (optional bare_label l)
  is_given none w = w
  is_given (some l) w = tt

  value_within : (p : Part P) (v : Value P) → ValueWithin p v → ValueWithin (bare_part p) (bare_value v)
  value_within p (mass n) w = number_within n w
  value_within p (text t) w = w
  value_within p reference w = record { no_key = w.no_key; labelled = is_given p.label w.labelled }
  value_within p (composition t n) w = record { its_key = w.its_key; text = w.text; mass = number_within n w.mass }

  part_within : (p : Part P) → PartWithin p → PartWithin (bare_part p)
  part_within p w = record { key = w.key; value = value_within p p.value w.value; label = label_within p.label w.label }

  bracket_within : (n : ℕ) (k : Bracket P) → BracketWithin n k → BracketWithin n (bare_bracket k)
  bracket_within n k w =
      let l = length-map k.parts bare_part in
      record {
        some_part = rw l w.some_part;
        few_parts_lem = rw l w.few_parts_lem;
        some_count = w.some_count;
        few_counts = w.few_counts;
        stands = w.stands;
        one_copy = w.one_copy;
        one_labelled = λ e. w.one_labelled (rw (names_of_lem k) at e);
        one_label = rw (names_of_lem k) w.one_label;
        parts = each_map PartWithin bare_part k.parts (each_one PartWithin (λ p. PartWithin (bare_part p)) part_within k.parts w.parts);
        few_places = rw (length-map k.places bare_place) w.few_places;
        sites = each_map (λ p. Byte p.site) bare_place k.places w.sites;
        lone =
            each_map (λ p. is_reference p.value ≡ true → length (map bare_part k.parts) ≡ 1) bare_part k.parts
            (each_one (λ p. is_reference p.value ≡ true → length k.parts ≡ 1)
            (λ p. is_reference (bare_value p.value) ≡ true → length (map bare_part k.parts) ≡ 1)
            (λ p f e. l ∙ f (sym (is_reference_lem p.value) ∙ e)) k.parts w.lone);
      }

  pub within_bare : (l : Line P) → Within l → Within (tables_of l)
  unfolding tables_of
  within_bare l w =
      let r = length-map l.residues bare_residue in
      let b = length-map l.brackets bare_bracket in
      let d = ap length (keep_map (λ k. is_declared k.kind) (λ k. is_declared k.kind) bare_bracket (λ k. refl) l.brackets) ∙ length-map (declarations l.brackets) bare_bracket in
      record {
        some_residue = rw r w.some_residue;
        few_residues = rw r w.few_residues;
        letters = each_map (λ r. Byte r.letter) bare_residue l.residues w.letters;
        few_brackets_lem = rw b w.few_brackets_lem;
        few_declarations = rw d w.few_declarations;
        brackets =
            rw r
            (each_map (BracketWithin (length l.residues)) bare_bracket l.brackets
            (each_one (BracketWithin (length l.residues)) (λ k. BracketWithin (length l.residues) (bare_bracket k))
            (bracket_within (length l.residues)) l.brackets w.brackets));
        texts = rw (flat_map bracket_texts bracket_texts bare_bracket bracket_texts_lem l.brackets) w.texts;
        few_copies = subst (λ z. z ≤ copy_limit) (sym (ap length (same_floaters l) ∙ length-map (floaters l) bare_bracket)) w.few_copies;
      }
