-- A line in its plain spelling: it is good, it prints the canonical line of what is kept, it means a line that is alike but for places, for whether a count of 1 is
-- written and for compositions, which are short, and it is no longer.
use Rattle.std.specs.Prelude.{ℕ, ◌+◌, ◌≤◌, ◌≡◌, true, [], ◌++◌, map}
use native.Mathlib.Omega.{arith}
use Rattle.std.proofs.Common.{sym, ◌∙◌, subst}
use Rattle.std.proofs.Math.Path.{ap}
use Rattle.std.proofs.lemmas.List.{map-append}
use Rattle.std.proofs.Math.ListN.{length}
use Rattle.scope.specs.declared.grammar.Kind.TheVariants.{Unknown, Labile, NTerm, CTerm, Declared}
use Rattle.scope.specs.Canonical.{declared_text, ending_at, chain_text, canonical}
use Rattle.scope.specs.Grammar.{print_square, print_curly, along, each_along, good_squares, good_curlies, bracket_at, means_squares, good_declaration, print_declaration, means_declaration, good_run, print_run, means_run, print_element, good_element, brackets_along, Spelling, elements, print_front, print, good, at_runs, at_labiles, at_front, at_sequence, at_back, residues_of, back_of, means_at, means}
use Rattle.scope.specs.Kept.{kept}
use Rattle.scope.specs.Lists.{all, flat}
use Rattle.scope.specs.Refusals.{refusal7, wide_count, wide_mass, wide_score}
use Rattle.scope.specs.Tables.{bare_residue}
use Rattle.basics.specs.Each.{Each, each_front, each_back}
use Rattle.basics.specs.Lists.{flat_none}
use Rattle.basics.specs.Tests.{and_left, and_right}
use Rattle.canonical_laws.proofs.Endings.{Brackets, On, pieces_text, chain_pieces}
use Rattle.canonical_laws.proofs.PlainBrackets.{Fits, Spelt, spelt_append, spelt_as, on_short, ends_short, boxes_on, curlies_plain, runs_on, runs_plain, front_plain, back_plain}
use Rattle.canonical_laws.proofs.PlainDeclarations.{declarations_plain, declarations_on}
use Rattle.canonical_laws.proofs.PlainSequence.{sequence_residues, sequence_ends, sequence_plain}
use Rattle.canonical_laws.proofs.Short.{short_bracket, short_line, canonical_short}
use Rattle.canonical_laws.specs.Plainly.{plain_insides, plain_runs, plainly}
use Rattle.canonical_laws.proofs.Refusals.{same_length, Alike}

module _ (t : Spelling) (fine : good t ≡ true) (narrow : refusal7 (means t) ≡ []) where
  -- the brackets of the line, by where they stand
  abbrev ds : Brackets
  ds = along print_declaration means_declaration 0 t.declarations

  abbrev us : Brackets
  us = each_along print_run means_run (at_runs 0 t) t.runs

  abbrev ls : Brackets
  ls = along print_curly (bracket_at Labile 0 0) (at_labiles 0 t) t.labiles

  abbrev ns : Brackets
  ns = means_squares NTerm 0 0 (at_front 0 t) t.front

  abbrev ss : Brackets
  ss = brackets_along 0 (at_sequence 0 t) (elements t)

  abbrev last : ℕ
  last = length (residues_of 0 t) + 1

  residues_at_lem : (j : ℕ) → map bare_residue (residues_of j (plainly t)) ≡ map bare_residue (residues_of 0 t)
  residues_at_lem j = sequence_residues (at_sequence 0 t) (at_sequence j (plainly t)) (elements t)

  fits : Each Fits (means t).brackets
  unfolding refusal7
  fits = flat_none (λ k. wide_count k ++ flat (λ p. wide_mass p.value ++ wide_score p) k.parts) (means t).brackets narrow

  -- with compositions short
  split :
      map short_bracket (means t).brackets
      ≡ map short_bracket ds ++ (map short_bracket us ++ (map short_bracket ls ++ (map short_bracket ns ++ (map short_bracket ss ++ map short_bracket (back_of 0 t)))))
  split = simp map-append

  pieces :
      canonical (short_line (means t))
      ≡ pieces_text 0 (residues_of 0 t) (map short_bracket ds) (map short_bracket us) (map short_bracket ls) (map short_bracket ns) (map short_bracket ss) (map short_bracket (back_of 0 t))
  unfolding canonical
  pieces =
      let rs = residues_of 0 t in
      let at : last ≡ 0 + 1 + length rs = omega arith in
      ap (λ ks. flat declared_text (ending_at Declared 0 ks) ++ chain_text ks 0 rs) split
      ∙ chain_pieces 0 rs (map short_bracket ds) (map short_bracket us) (map short_bracket ls) (map short_bracket ns) (map short_bracket ss) (map short_bracket (back_of 0 t))
      (on_short Declared 0 ds (declarations_on 0 t.declarations)) (on_short Unknown 0 us (runs_on (at_runs 0 t) t.runs)) (on_short Labile 0 ls (boxes_on print_curly Labile 0 0 (at_labiles 0 t) t.labiles))
      (on_short NTerm 0 ns (boxes_on print_square NTerm 0 0 (at_front 0 t) t.front))
      (ends_short 1 (0 + length rs) ss (sequence_ends 1 (0 + length rs) 0 (at_sequence 0 t) (elements t) (omega arith) (omega arith)))
      (subst (λ q. Each (On CTerm q) (map short_bracket (back_of 0 t))) at (on_short CTerm last (back_of 0 t) (boxes_on print_square CTerm last last (at_back 0 t + 1) t.back)))

  whole :
      Spelt (good (plainly t)) (canonical (short_line (means t))) (print (plainly t)) (print t) (map short_bracket (means t).brackets) (λ j. (means_at j (plainly t)).brackets)
  whole =
      let good₀ = and_right (all good_declaration t.declarations) _ fine in
      let good₁ = and_right (all good_run t.runs) _ good₀ in
      let good₂ = and_right (good_curlies t.labiles) _ good₁ in
      let good₃ = and_right (good_squares true t.front) _ good₂ in
      let fits₀ = each_back Fits ds (us ++ (ls ++ (ns ++ (ss ++ back_of 0 t)))) fits in
      let fits₁ = each_back Fits us (ls ++ (ns ++ (ss ++ back_of 0 t))) fits₀ in
      let fits₂ = each_back Fits ls (ns ++ (ss ++ back_of 0 t)) fits₁ in
      let fits₃ = each_back Fits ns (ss ++ back_of 0 t) fits₂ in
      spelt_as
      (spelt_append (λ j. at_runs j (plainly t)) (declarations_plain 0 t.declarations (and_left _ _ fine) (each_front Fits ds _ fits))
      (spelt_append (λ j. j + length (flat print_run (plain_runs t.runs))) (runs_plain (at_runs 0 t) t.runs (and_left _ _ good₀) (each_front Fits us _ fits₀))
      (spelt_append (λ j. j + length (flat print_curly (plain_insides t.labiles))) (curlies_plain (at_labiles 0 t) t.labiles (and_left _ _ good₁) (each_front Fits ls _ fits₁))
      (spelt_append (λ j. j + length (print_front (plain_insides t.front))) (front_plain NTerm 0 (at_front 0 t) t.front (and_left _ _ good₂) (each_front Fits ns _ fits₂))
      (spelt_append (λ j. j + length (flat print_element (elements (plainly t)))) (sequence_plain 0 (at_sequence 0 t) (elements t) (and_left _ _ good₃) (each_front Fits ss _ fits₃))
      (back_plain CTerm last (at_back 0 t + 1) t.back (and_right (all good_element (elements t)) _ good₃) (each_back Fits ss (back_of 0 t) fits₃)))))))
      pieces split (λ j. rw (same_length bare_residue (residues_of j (plainly t)) (residues_of 0 t) (residues_at_lem j)))

  pub plainly_good : good (plainly t) ≡ true
  plainly_good = whole.fine

  pub plainly_prints : print (plainly t) ≡ canonical (kept (means t))
  plainly_prints = sym whole.says ∙ canonical_short (means t)

  pub plainly_residues : map bare_residue (means (plainly t)).residues ≡ map bare_residue (means t).residues
  plainly_residues = residues_at_lem 0

  pub plainly_alike : Alike (map short_bracket (means t).brackets) (means (plainly t)).brackets
  plainly_alike = whole.same 0

  pub plainly_short : length (print (plainly t)) ≤ length (print t)
  plainly_short = whole.short
