-- The laws of specs/Laws.antt hold: an accepted line is printed by a good tree, whose plain spelling prints the canonical line and means the same but for places, for
-- whether a count of 1 is written and for compositions, which are short. The same is kept of it, and no refusal is due that was not.
use Rattle.std.specs.Prelude.{ℕ, ◌≤◌, ◌≡◌, refl, ◌↔◌, true, List, [], ◌∷◌, map, length, drop}
use Rattle.std.proofs.Common.{arith, sym, ap, ◌∙◌, subst}
use Rattle.std.proofs.Math.Path.{ap₂}
use Rattle.scope.specs.Canonical.{canonical}
use Rattle.scope.specs.Grammar.{Spelling, print, good, means}
use Rattle.scope.specs.Kept.{kept}
use Rattle.scope.specs.Limits.{line_limit}
use Rattle.scope.specs.Line.{Bracket, Line}
use Rattle.scope.specs.Reading.{holds, reading}
use Rattle.scope.specs.Refusals.{refusal7, accepted, line_refusals, outcome}
use Rattle.scope.specs.Tables.{Tables, bare_bracket, bare_residue, tables_of}
use Rattle.reading_laws.proofs.Bare.{same_canonical}
use Rattle.reading_laws.proofs.Compositions.{tables_kept}
use Rattle.reading_laws.specs.Laws.{Clear}
use Rattle.reading_laws.proofs.Printable.{order_printable}
use Rattle.reading_laws.proofs.Taken.{Taken, taken, taken_back, not_long, none_long, some_bytes}
use Rattle.grammar_laws.proofs.Lines.{read_spelt, spelt_read}
use Rattle.canonical_laws.specs.Laws.{ReadsTo, Laws}
use Rattle.canonical_laws.specs.Plainly.{plainly}
use Rattle.canonical_laws.proofs.Short.{short_line, kept_short}
use Rattle.canonical_laws.proofs.Shortened.{short_clear}
use Rattle.canonical_laws.proofs.PlainLines.{plainly_good, plainly_prints, plainly_residues, plainly_alike, plainly_short}
use Rattle.canonical_laws.proofs.Refusals.{same_length, Alike, none_5, none_6, none_7, none_8, none_9, none_10, none_21, none_11, none_12, none_19}

-- ---- lines that are alike
alike_bare : (ks qs : List (Bracket ℕ)) → Alike ks qs → map bare_bracket qs ≡ map bare_bracket ks
alike_bare [] [] a = refl
alike_bare [] (q ∷ qs) a = absurd a
alike_bare (k ∷ ks) [] a = absurd a
alike_bare (k ∷ ks) (q ∷ qs) a = ap₂ ◌∷◌ (sym a.0.bare) (alike_bare ks qs a.1)

module _ (l m : Line ℕ) (r : map bare_residue m.residues ≡ map bare_residue l.residues) (a : Alike l.brackets m.brackets) where
  alike_tables : tables_of m ≡ tables_of l
  unfolding tables_of
  alike_tables = ap₂ (λ rs ks. record { residues = rs; brackets = ks }) r (alike_bare l.brackets m.brackets a)

  alike_clear : Clear (line_refusals l) → Clear (line_refusals m)
  alike_clear c =
      let size = same_length bare_residue l.residues m.residues (sym r) in
      let from8 = c.1.1.1 in
      let from10 = from8.1.1 in
      let last : Clear (drop 5 (line_refusals m)) = (none_10 l m a from10.0, (none_21 l m a from10.1.0, (none_11 l m a from10.1.1.0, (none_12 l m a from10.1.1.1.0, (none_19 l m a from10.1.1.1.1.0, tt))))) in
      (none_5 l m a c.0, (none_6 l m size a c.1.0, (none_7 l m a c.1.1.0, (none_8 l m a from8.0, (none_9 l m a from8.1.0, last)))))

-- the same is kept of the plain spelling
pub plainly_kept : (t : Spelling) → good t ≡ true → refusal7 (means t) ≡ [] → tables_of (kept (means (plainly t))) ≡ tables_of (kept (means t))
plainly_kept t fine narrow =
    let line = short_line (means t) in
    sym (tables_kept (means (plainly t))) ∙ ap kept (alike_tables line (means (plainly t)) (plainly_residues t fine narrow) (plainly_alike t fine narrow))
    ∙ tables_kept line ∙ ap tables_of (kept_short (means t))

-- ---- the canonical line, read
record Back (s : List ℕ) (l : Line ℕ) : Type 0 where
  reads : ReadsTo (canonical l) (tables_of l)
  short : length (canonical l) ≤ length s

back_of_lem : (t : Spelling) → good t ≡ true → length (print t) ≤ line_limit → Clear (line_refusals (means t)) → Back (print t) (kept (means t))
back_of_lem t fine fits clear =
    let narrow = clear.1.1.0 in
    let c = canonical (kept (means t)) in
    let m = means (plainly t) in
    let line = short_line (means t) in
    let residues = plainly_residues t fine narrow in
    let alike = plainly_alike t fine narrow in
    let prints = plainly_prints t fine narrow in
    let short : length c ≤ length (print t) = subst (λ (z : List ℕ). length z ≤ length (print t)) prints (plainly_short t fine narrow) in
    let reads : reading c ≡ holds m = spelt_read c m (record { tree = plainly t; fine = plainly_good t fine narrow; prints = sym prints; says = refl }) in
    let few : length c ≤ line_limit = omega arith in
    let again : Taken c (kept m) =
    record {
      read = m;
      bytes = (some_bytes c m reads, (none_long c few, (order_printable c m reads, tt)));
      reads = reads;
      clear = alike_clear line m residues alike (short_clear (means t) clear);
      keeps = refl;
    } in
    record { reads = record { line = kept m; taken = taken_back c (kept m) again; tables = plainly_kept t fine narrow }; short = short }

back : (s : List ℕ) (l : Line ℕ) → outcome s ≡ accepted l → Back s l
back s l e =
    let w = taken s l e in
    let x = read_spelt s w.read w.reads in
    let fits = subst (λ (z : List ℕ). length z ≤ line_limit) x.prints (not_long s w.bytes.1.0) in
    let clear = subst (λ (z : Line ℕ). Clear (line_refusals z)) x.says w.clear in
    subst (λ (z : List ℕ). Back z l) (sym x.prints) (subst (λ (z : Line ℕ). Back (print x.tree) z) (sym (w.keeps ∙ ap kept x.says)) (back_of_lem x.tree x.fine fits clear))

-- ---- the laws
same_line : (l m : Line ℕ) → accepted l ≡ accepted m → l ≡ m
same_line l m e = cc

one_entry : (s s' : List ℕ) (l l' : Line ℕ) → outcome s ≡ accepted l → outcome s' ≡ accepted l' → canonical l ≡ canonical l' ↔ tables_of l ≡ tables_of l'
one_entry s s' l l' e f = (there, λ g. sym (same_canonical l) ∙ ap canonical g ∙ same_canonical l')
  where
    there : canonical l ≡ canonical l' → tables_of l ≡ tables_of l'
    there g =
        let a = (back s l e).reads in
        let b = (back s' l' f).reads in
        sym a.tables ∙ ap tables_of (same_line a.line b.line (sym a.taken ∙ ap outcome g ∙ b.taken)) ∙ b.tables

itself : (s : List ℕ) (l l' : Line ℕ) → outcome s ≡ accepted l → outcome (canonical l) ≡ accepted l' → canonical l' ≡ canonical l
itself s l l' e f =
    let a = (back s l e).reads in
    sym (same_canonical l') ∙ ap canonical (ap tables_of (same_line l' a.line (sym f ∙ a.taken)) ∙ a.tables) ∙ same_canonical l

some_line : (t : Tables) → ((s : List ℕ) × ReadsTo s t) ↔ ReadsTo (canonical t) t
some_line t = (there, λ r. (canonical t, r))
  where
    there : (s : List ℕ) × ReadsTo s t → ReadsTo (canonical t) t
    there r =
        let a = r.1 in
        subst (λ (z : Tables). ReadsTo (canonical z) z) a.tables (subst (λ (z : List ℕ). ReadsTo z (tables_of a.line)) (sym (same_canonical a.line)) (back r.0 a.line a.taken).reads)

pub laws : Laws
laws =
    record {
      reads_back = λ s l e. (back s l e).reads;
      one_entry = one_entry;
      no_longer = λ s l e. (back s l e).short;
      itself = itself;
      of_tables = same_canonical;
      some_line = some_line;
    }
