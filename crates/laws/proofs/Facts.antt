-- Every accepted line, and the tables that it reads to, are as the laws of masses ask.
use Rattle.std.specs.Prelude.{◌≡◌, List, [], ◌∷◌, map, ℕ, ◌*◌, ◌^◌, ◌≤◌, ◌<◌, nat_abs, length}
use Rattle.std.proofs.Common.{sym, subst}
use Rattle.scope.specs.declared.grammar.Kind.TheVariants.{Unknown}
use Rattle.scope.specs.Limits.{copy_limit, declaration_limit, size_limit, decimal_limit}
use Rattle.scope.specs.Line.{Bracket, Line}
use Rattle.scope.specs.Kept.{kept_bracket, kept}
use Rattle.scope.specs.Refusals.{declarations, accepted, outcome}
use Rattle.scope.specs.Tables.{bare_bracket, tables_of}
use Rattle.scope.specs.Positions.{floaters}
use Rattle.scope.specs.Masses.{mass_or0}
use Rattle.basics.specs.Each.{Each, each_map, each_one, Each as Every}
use Rattle.basics.specs.Kinds.{not_kind}
use Rattle.accepted_laws.specs.Within.{BracketWithin, Within}
use Rattle.reading_laws.proofs.Bare.{names_of_lem, mass_of_lem}
use Rattle.reading_laws.proofs.Compositions.{names_kept}
use Rattle.reading_laws.proofs.Taken.{taken}
use Rattle.layout_laws.proofs.Laws.{tables_back, laid_bounds}
use Rattle.accepted_laws.specs.Laws.{accepted_within, first_within, tables_within}
use Rattle.mass_laws.specs.Terms.{FairBracket, Fair, Limited}
use Rattle.mass_laws.proofs.Laws.{limited_in}
use Rattle.laws.specs.Curly.{Unlabelled}
use Rattle.laws.proofs.CurlyLaws.{labelless_unlabelled}

module _ {P : Type 0} where
  fair_bracket : (n : ℕ) (k : Bracket P) → BracketWithin n k → Unlabelled k → FairBracket n k
  fair_bracket n k w u =
      record {
        some_count = w.some_count;
        single = λ h. w.one_copy (not_kind Unknown k.kind h);
        labelled_single = w.one_labelled;
        unlabelled = u;
        inside = first_within n k w;
      }

  every_fair : (n : ℕ) (ks : List (Bracket P)) → Each (BracketWithin n) ks → Each Unlabelled ks → Every (FairBracket n) ks
  every_fair n [] w u = tt
  every_fair n (k ∷ ks) w u = (fair_bracket n k w.0 u.0, every_fair n ks w.1 u.1)

  fair_of : (l : Line P) → Within l → Each Unlabelled l.brackets → Fair l
  fair_of l w u = record { few_residues = w.few_residues; each_bracket = every_fair (length l.residues) l.brackets w.brackets u }

  -- places do not matter
  unlabelled_bare : (k : Bracket P) → Unlabelled k → Unlabelled (bare_bracket k)
  unlabelled_bare k u e = rw (names_of_lem k) (u e)

  all_unlabelled_bare : (l : Line P) → Each Unlabelled l.brackets → Each Unlabelled (tables_of l).brackets
  unfolding tables_of
  all_unlabelled_bare l u =
      each_map Unlabelled bare_bracket l.brackets
      (each_one Unlabelled (λ k. Unlabelled (bare_bracket k)) unlabelled_bare l.brackets u)

  -- nor compositions
  unlabelled_kept : (k : Bracket P) → Unlabelled k → Unlabelled (kept_bracket k)
  unlabelled_kept k u e = rw (names_kept k) (u e)

  all_unlabelled_kept : (l : Line P) → Each Unlabelled l.brackets → Each Unlabelled (kept l).brackets
  unfolding kept
  all_unlabelled_kept l u =
      each_map Unlabelled kept_bracket l.brackets
      (each_one Unlabelled (λ k. Unlabelled (kept_bracket k)) unlabelled_kept l.brackets u)

  small_bare :
      (ks : List (Bracket P)) → Every (λ k. nat_abs (mass_or0 k) < size_limit * 10 ^ decimal_limit) (map bare_bracket ks)
      → Every (λ k. nat_abs (mass_or0 k) < size_limit * 10 ^ decimal_limit) ks
  small_bare [] w = tt
  small_bare (k ∷ ks) w = (rw (mass_of_lem k) at w.0, small_bare ks w.1)

  limited_tables : (l : Line P) → Within l → Limited (tables_of l)
  limited_tables l w =
      let back = tables_back l w [] [] in
      subst Limited back (limited_in (laid_bounds l w [] []) (subst (λ t. length (floaters t) ≤ copy_limit) (sym back) (tables_within l w).few_copies)
      (subst (λ t. length (declarations t.brackets) ≤ declaration_limit) (sym back) (tables_within l w).few_declarations))

  limited_of : (l : Line P) → Within l → Limited l
  unfolding tables_of
  limited_of l w =
      record { few_brackets_lem = w.few_brackets_lem; few_declarations = w.few_declarations; few_copies = w.few_copies; small = small_bare l.brackets (limited_tables l w).small }

-- ---- of accepted lines
module _ (s : List ℕ) (l : Line ℕ) (e : outcome s ≡ accepted l) where
  unlabelled : Each Unlabelled l.brackets
  unlabelled =
      let t = taken s l e in
      subst (λ (z : Line ℕ). Each Unlabelled z.brackets) (sym t.keeps) (all_unlabelled_kept t.read (labelless_unlabelled s t.read t.reads))

  pub accepted_fair : Fair l
  accepted_fair = fair_of l (accepted_within s l e) unlabelled

  pub accepted_limited : Limited l
  accepted_limited = limited_of l (accepted_within s l e)

  -- of the tables that they read to
  pub tables_fair : Fair (tables_of l)
  tables_fair = fair_of (tables_of l) (tables_within l (accepted_within s l e)) (all_unlabelled_bare l unlabelled)

  pub tables_limited : Limited (tables_of l)
  tables_limited = limited_tables l (accepted_within s l e)
