-- Places do not matter: what a line without its places writes, lays out, permits and weighs is what the line does.
use Rattle.std.specs.Prelude.{◌≡◌, Bool, ◌&&◌, ℕ, ◌+◌, eqb, pos, get_or}
use Rattle.std.proofs.Math.Path.{refl, sym, ap, ap₂}
use Rattle.std.proofs.Common.{◌∙◌}
use Rattle.std.proofs.Math.Bool.{not, cond}
use Rattle.std.proofs.Math.Option.{Option, none, some}
use mathlib.Core.List.{List, [], ◌∷◌, ◌++◌, map}
use Rattle.std.proofs.Math.ListN.{length, length-map}
use Rattle.scope.specs.declared.grammar.Key.TheVariants.{Obs, Info}
use Rattle.scope.specs.declared.grammar.Kind.{Kind}
use Rattle.scope.specs.declared.grammar.Kind.TheVariants.{Unknown, Labile, NTerm, OnResidue, OnRange, CTerm, Declared}
use Rattle.scope.specs.Limits.{place_limit}
use Rattle.scope.specs.Line.{Number, Label, Value, mass, text, reference, composition, Place, Part, Bracket, Residue, Line}
use Rattle.scope.specs.Kinds.{is_kind, is_declared}
use Rattle.scope.specs.Keys.{key_code}
use Rattle.scope.specs.Lists.{given, all, keep, flat, optional, tabled, padded, member}
use Rattle.scope.specs.Content.{is_reference}
use Rattle.scope.specs.Reading.{refers?}
use Rattle.scope.specs.Refusals.{text_in}
use Rattle.scope.specs.Modifications.{is_key, is_modification, name_of, names_of, copies, defined_by, referred_by}
use Rattle.scope.specs.Canonical.{size, score_text, value_text, label_text, part_text, parts_text, square_text, curly_text, declared_text, unknown_text, of_kind, ending_at, is_next, goes_on, sequence_text, chain_text, canonical}
use Rattle.scope.specs.Tables.{bare_number, bare_label, bare_value, bare_part, bare_place, bare_bracket, bare_residue, tables_of, millionths, score_of}
use Rattle.scope.specs.Layout.{mass_in, decimals_in, packed, value_code, part_row, part_rows, score_code, places_row, bracket_row, bracket_texts, rows, section_code, bytes_of, number_row, numbers_of}
use Rattle.scope.specs.Places.{n_terminus, c_terminus, places_text}
use Rattle.scope.specs.Positions.{sites, names, reached, is_placed, placed_on, struck_out, floaters, referred_at, may_stand, permitted, is_further, floating_of, positions}
use Rattle.scope.specs.Masses.{value_mass, first_mass, mass_of, stated, total, lacking, ledger}
use Rattle.basics.specs.Lists.{map_map, flat_map, all_map, keep_map, keep_same}
use Rattle.basics.specs.Positions.{same_floats, marks_of_lem}
use Rattle.reading_laws.proofs.Weighed as weighed
use Rattle.reading_laws.proofs.Weighed.{Alike}

-- ---- the canonical line
-- brackets that are changed into others of the same kind, place, count and texts
pub record Texted {P Q : Type 0} (g : Bracket P → Bracket Q) : Type 0 where
  pub kind : (k : Bracket P) → (g k).kind ≡ k.kind
  pub last : (k : Bracket P) → (g k).last ≡ k.last
  pub count : (k : Bracket P) → (g k).count ≡ k.count
  pub parts : (k : Bracket P) → parts_text (g k).parts ≡ parts_text k.parts
  pub places : (k : Bracket P) → places_text (g k).places ≡ places_text k.places

-- parts that are changed into others of the same text
pub parts_same : {P Q : Type 0} (f : Part P → Part Q) → ((p : Part P) → part_text (f p) ≡ part_text p) → (ps : List (Part P)) → parts_text (map f ps) ≡ parts_text ps
unfolding parts_text
parts_same f e [] = refl
parts_same f e (p ∷ []) = e p
parts_same f e (p ∷ q ∷ ps) = ap₂ (λ x y. x ++ (124 ∷ y)) (e p) (parts_same f e (q ∷ ps))

module _ {P Q : Type 0} (g : Bracket P → Bracket Q) (w : Texted g) (h : Residue P → Residue Q) (letters : (r : Residue P) → (h r).letter ≡ r.letter)
    (sections : (r : Residue P) → (h r).section ≡ r.section) where
  square_text_lem : (k : Bracket P) → square_text (g k) ≡ square_text k
  square_text_lem k = rw (w.parts k)

  curly_text_lem : (k : Bracket P) → curly_text (g k) ≡ curly_text k
  curly_text_lem k = rw (w.parts k)

  declared_text_lem : (k : Bracket P) → declared_text (g k) ≡ declared_text k
  declared_text_lem k = rw (w.parts k, w.places k)

  unknown_text_lem : (k : Bracket P) → unknown_text (g k) ≡ unknown_text k
  unknown_text_lem k = rw (w.parts k, w.count k)

  of_kind_lem : (c : Kind) (ks : List (Bracket P)) → of_kind c (map g ks) ≡ map g (of_kind c ks)
  of_kind_lem c ks = keep_map (λ k. is_kind c k.kind) (λ k. is_kind c k.kind) g (λ k. ap (is_kind c) (w.kind k)) ks

  ending_at_lem : (c : Kind) (i : ℕ) (ks : List (Bracket P)) → ending_at c i (map g ks) ≡ map g (ending_at c i ks)
  ending_at_lem c i ks =
      ap (keep (λ k. eqb k.last i)) (of_kind_lem c ks)
      ∙ keep_map (λ k. eqb k.last i) (λ k. eqb k.last i) g (λ k. ap (λ n. eqb n i) (w.last k)) (of_kind c ks)

  texts_at_lem :
      (f : Bracket Q → List ℕ) (u : Bracket P → List ℕ) → ((k : Bracket P) → f (g k) ≡ u k) → (c : Kind) (i : ℕ) (ks : List (Bracket P))
      → flat f (ending_at c i (map g ks)) ≡ flat u (ending_at c i ks)
  texts_at_lem f u e c i ks = ap (flat f) (ending_at_lem c i ks) ∙ flat_map f u g e (ending_at c i ks)

  squares_at : (c : Kind) (i : ℕ) (ks : List (Bracket P)) → flat square_text (ending_at c i (map g ks)) ≡ flat square_text (ending_at c i ks)
  squares_at = texts_at_lem square_text square_text square_text_lem

  goes_on_lem : (rs : List (Residue P)) → goes_on (map h rs) ≡ goes_on rs
  goes_on_lem [] = refl
  goes_on_lem (r ∷ rs) = ap is_next (sections r)

  sequence_text_lem : (ks : List (Bracket P)) (i : ℕ) (rs : List (Residue P)) → sequence_text (map g ks) i (map h rs) ≡ sequence_text ks i rs
  unfolding sequence_text
  sequence_text_lem ks i [] = refl
  sequence_text_lem ks i (r ∷ rs) =
      rw (letters r, sections r, squares_at OnResidue i ks, squares_at OnRange i ks, goes_on_lem rs, sequence_text_lem ks (i + 1) rs)

  chain_text_lem : (ks : List (Bracket P)) (p : ℕ) (rs : List (Residue P)) → chain_text (map g ks) p (map h rs) ≡ chain_text ks p rs
  unfolding chain_text
  chain_text_lem ks p rs =
      let u = texts_at_lem unknown_text unknown_text unknown_text_lem Unknown p ks in
      let v = texts_at_lem curly_text curly_text curly_text_lem Labile p ks in
      rw (length-map rs h, u, v, squares_at NTerm p ks, squares_at CTerm (p + 1 + length rs) ks, sequence_text_lem ks (p + 1) rs)

  pub line_text : (l : Line P) → canonical (record { residues = map h l.residues; brackets = map g l.brackets }) ≡ canonical l
  unfolding canonical
  line_text l = ap₂ ◌++◌ (texts_at_lem declared_text declared_text declared_text_lem Declared 0 l.brackets) (chain_text_lem l.brackets 0 l.residues)

-- ---- what a bracket is
-- parts that are changed into others with the same key and name of a label, a reference into a reference
pub record Likewise {P Q : Type 0} (f : Part P → Part Q) : Type 0 where
  pub key : (p : Part P) → (f p).key ≡ p.key
  pub refers : (p : Part P) → is_reference (f p).value ≡ is_reference p.value
  pub names : (p : Part P) → name_of (f p) ≡ name_of p

module _ {P Q : Type 0} (f : Part P → Part Q) (w : Likewise f) where
  pub same_info : (ps : List (Part P)) → all (is_key Info) (map f ps) ≡ all (is_key Info) ps
  same_info ps = all_map (is_key Info) (is_key Info) f (λ p. ap (λ k. eqb (key_code k) (key_code Info)) (w.key p)) ps

  pub same_refers : (ps : List (Part P)) → refers? (map f ps) ≡ refers? ps
  same_refers [] = refl
  same_refers (p ∷ ps) = w.refers p

  pub same_names : (ps : List (Part P)) → flat name_of (map f ps) ≡ flat name_of ps
  same_names ps = flat_map name_of name_of f w.names ps

module _ {P : Type 0} where
  value_text_lem : (v : Value P) → value_text (bare_value v) ≡ value_text v
  unfolding size
  value_text_lem (mass n) = refl
  value_text_lem (text t) = refl
  value_text_lem reference = refl
  value_text_lem (composition t n) = refl

  score_text_lem :
      (s : Option (Number P))
      → given (optional bare_number s) (λ n. 40 ∷ (score_text n ++ (41 ∷ []))) [] ≡ given s (λ n. 40 ∷ (score_text n ++ (41 ∷ []))) []
  unfolding size
  score_text_lem none = refl
  score_text_lem (some n) = refl

  label_text_lem : (l : Option (Label P)) → given (optional bare_label l) label_text [] ≡ given l label_text []
  label_text_lem none = refl
  label_text_lem (some l) = ap (λ z. 35 ∷ (l.name ++ z)) (score_text_lem l.score)

  part_text_lem : (p : Part P) → part_text (bare_part p) ≡ part_text p
  unfolding part_text
  part_text_lem p = rw (value_text_lem p.value, label_text_lem p.label)

  pub parts_text_lem : (ps : List (Part P)) → parts_text (map bare_part ps) ≡ parts_text ps
  parts_text_lem ps = parts_same bare_part part_text_lem ps

  places_text_lem : (ps : List (Place P)) → places_text (map bare_place ps) ≡ places_text ps
  unfolding places_text
  places_text_lem [] = refl
  places_text_lem (p ∷ []) = refl
  places_text_lem (p ∷ q ∷ ps) = rw (places_text_lem (q ∷ ps))

  pub same_canonical : (l : Line P) → canonical (tables_of l) ≡ canonical l
  unfolding tables_of
  same_canonical l =
      line_text bare_bracket
      (record { kind = λ k. refl; last = λ k. refl; count = λ k. refl; parts = λ k. parts_text_lem k.parts; places = λ k. places_text_lem k.places }) bare_residue
      (λ r. refl) (λ r. refl) l

  -- ---- the areas
  text_in_lem : (v : Value P) → text_in (bare_value v) ≡ text_in v
  text_in_lem (mass n) = refl
  text_in_lem (text t) = refl
  text_in_lem reference = refl
  text_in_lem (composition t n) = refl

  label_of : (l : Option (Label P)) → given (optional bare_label l) (λ l. l.name) [] ≡ given l (λ l. l.name) []
  label_of none = refl
  label_of (some l) = refl

  value_code_lem : (v : Value P) → value_code (bare_value v) ≡ value_code v
  value_code_lem (mass n) = refl
  value_code_lem (text t) = refl
  value_code_lem reference = refl
  value_code_lem (composition t n) = refl

  decimals_in_lem : (v : Value P) → decimals_in (bare_value v) ≡ decimals_in v
  decimals_in_lem (mass n) = refl
  decimals_in_lem (text t) = refl
  decimals_in_lem reference = refl
  decimals_in_lem (composition t n) = refl

  mass_in_lem : (v : Value P) → mass_in (bare_value v) ≡ mass_in v
  mass_in_lem (mass n) = refl
  mass_in_lem (text t) = refl
  mass_in_lem reference = refl
  mass_in_lem (composition t n) = refl

  packed_bare : (p : Part P) → packed (bare_part p) ≡ packed p
  packed_bare p = rw (text_in_lem p.value, label_of p.label)

  part_row_lem : (i : ℕ) (p : Part P) → part_row i (bare_part p) ≡ part_row i p
  part_row_lem i p = rw (text_in_lem p.value, label_of p.label, value_code_lem p.value, decimals_in_lem p.value)

  part_rows_lem : (i : ℕ) (ps : List (Part P)) → part_rows i (map bare_part ps) ≡ part_rows i ps
  unfolding part_rows
  part_rows_lem i [] = refl
  part_rows_lem i (p ∷ ps) = ap₂ ◌++◌ (part_row_lem i p)
      (ap (λ t. part_rows (i + length t) (map bare_part ps)) (packed_bare p) ∙ part_rows_lem (i + length (packed p)) ps)

  score_of_lem : (ps : List (Part P)) → score_of (map bare_part ps) ≡ optional bare_number (score_of ps)
  unfolding score_of
  score_of_lem [] = refl
  score_of_lem (p ∷ ps) = go p.label (score_of_lem ps)
    where
      in_label :
          (s : Option (Number P)) → score_of (map bare_part ps) ≡ optional bare_number (score_of ps)
          → given (optional bare_number s) some (score_of (map bare_part ps)) ≡ optional bare_number (given s some (score_of ps))
      in_label none e = e
      in_label (some n) e = refl

      go :
          (l : Option (Label P)) → score_of (map bare_part ps) ≡ optional bare_number (score_of ps)
          → given (optional bare_label l) (λ l. given l.score some (score_of (map bare_part ps))) (score_of (map bare_part ps))
          ≡ optional bare_number (given l (λ l. given l.score some (score_of ps)) (score_of ps))
      go none e = e
      go (some l) e = in_label l.score e

  score_code_lem : (s : Option (Number P)) → score_code (optional bare_number s) ≡ score_code s
  score_code_lem none = refl
  score_code_lem (some n) = refl

  score_millionths : (s : Option (Number P)) → given (optional bare_number s) millionths (pos 0) ≡ given s millionths (pos 0)
  score_millionths none = refl
  score_millionths (some n) = refl

  pub bracket_texts_lem : (k : Bracket P) → bracket_texts (bare_bracket k) ≡ bracket_texts k
  bracket_texts_lem k = flat_map packed packed bare_part packed_bare k.parts

  site_list : (ps : List (Place P)) → map (λ p. p.site) (map bare_place ps) ≡ map (λ p. p.site) ps
  site_list ps = map_map (λ p. p.site) (λ p. p.site) bare_place (λ p. refl) ps

  places_row_lem : (ps : List (Place P)) → places_row (map bare_place ps) ≡ places_row ps
  places_row_lem ps = ap₂ (λ n ss. n ∷ padded 0 place_limit ss) (length-map ps bare_place) (site_list ps)

  bracket_row_lem : (i : ℕ) (k : Bracket P) → bracket_row i (bare_bracket k) ≡ bracket_row i k
  bracket_row_lem i k =
      rw (part_rows_lem i k.parts, length-map k.parts bare_part, score_of_lem k.parts, score_code_lem (score_of k.parts), places_row_lem k.places)

  bracket_rows : (i : ℕ) (ks : List (Bracket P)) → rows i (map bare_bracket ks) ≡ rows i ks
  unfolding rows
  bracket_rows i [] = refl
  bracket_rows i (k ∷ ks) = ap₂ ◌++◌ (bracket_row_lem i k)
      (ap (λ t. rows (i + length t) (map bare_bracket ks)) (bracket_texts_lem k) ∙ bracket_rows (i + length (bracket_texts k)) ks)

  pub same_bytes : (l : Line P) → bytes_of (tables_of l) ≡ bytes_of l
  unfolding bytes_of tables_of
  same_bytes l =
      rw (
        length-map l.residues bare_residue,
        length-map l.brackets bare_bracket,
        map_map (λ r. r.letter) (λ r. r.letter) bare_residue (λ r. refl) l.residues,
        map_map (λ r. section_code r.section) (λ r. section_code r.section) bare_residue (λ r. refl) l.residues,
        bracket_rows 0 l.brackets,
        flat_map bracket_texts bracket_texts bare_bracket bracket_texts_lem l.brackets,
      )

  number_row_lem : (k : Bracket P) → number_row (bare_bracket k) ≡ number_row k
  number_row_lem k =
      rw (
        map_map (λ p. mass_in p.value) (λ p. mass_in p.value) bare_part (λ p. mass_in_lem p.value) k.parts,
        score_of_lem k.parts,
        score_millionths (score_of k.parts),
      )

  pub same_numbers_lem : (l : Line P) → numbers_of (tables_of l) ≡ numbers_of l
  unfolding numbers_of tables_of
  same_numbers_lem l = rw (flat_map number_row number_row bare_bracket number_row_lem l.brackets)

  -- ---- modifications and floaters
  pub is_reference_lem : (v : Value P) → is_reference (bare_value v) ≡ is_reference v
  is_reference_lem (mass n) = refl
  is_reference_lem (text t) = refl
  is_reference_lem reference = refl
  is_reference_lem (composition t n) = refl

  pub likewise_bare : Likewise {P = P} bare_part
  likewise_bare = record { key = λ p. refl; refers = λ p. is_reference_lem p.value; names = λ p. go p.label }
    where
      go : (l : Option (Label P)) → given (optional bare_label l) (λ l. l.name ∷ []) [] ≡ given l (λ l. l.name ∷ []) []
      go none = refl
      go (some l) = refl

  pub is_modification_lem : (k : Bracket P) → is_modification (bare_bracket k) ≡ is_modification k
  is_modification_lem k = rw (same_info bare_part likewise_bare k.parts, same_refers bare_part likewise_bare k.parts)

  pub names_of_lem : (k : Bracket P) → names_of (bare_bracket k) ≡ names_of k
  names_of_lem k = same_names bare_part likewise_bare k.parts

  defined_by_lem : (k : Bracket P) → defined_by (bare_bracket k) ≡ defined_by k
  defined_by_lem k = rw (names_of_lem k, same_refers bare_part likewise_bare k.parts)

  referred_by_lem : (k : Bracket P) → referred_by (bare_bracket k) ≡ referred_by k
  referred_by_lem k = rw (names_of_lem k, same_refers bare_part likewise_bare k.parts)

  pub copies_bare : (k : Bracket P) → copies (bare_bracket k) ≡ copies k
  unfolding copies
  copies_bare k = rw (is_modification_lem k, names_of_lem k)

  is_placed_lem : (k : Bracket P) → is_placed (bare_bracket k) ≡ is_placed k
  unfolding is_placed
  is_placed_lem k = rw (is_modification_lem k, names_of_lem k)

  same_sites : (l : Line P) → sites (tables_of l) ≡ sites l
  unfolding sites tables_of
  same_sites l = ap (λ ls. n_terminus ∷ (ls ++ (c_terminus ∷ []))) (map_map (λ r. r.letter) (λ r. r.letter) bare_residue (λ r. refl) l.residues)

  same_names_at : (l : Line P) (ps : List (Place P)) (x : ℕ) → names (tables_of l) (map bare_place ps) x ≡ names l ps x
  same_names_at l ps x = ap₂ (λ s ss. member (get_or s x 0) ss) (same_sites l) (site_list ps)

  reached_bare : (l : Line P) (k : Bracket P) → reached (tables_of l) (bare_bracket k) ≡ reached l k
  unfolding reached
  reached_bare l k =
      keep_same _ _ (same_names_at l k.places) (positions (tables_of l)) ∙ ap (λ s. keep (names l k.places) (tabled (λ x. x) 0 (length s))) (same_sites l)

  placed_on_lem : (l : Line P) (k : Bracket P) → placed_on (tables_of l) (bare_bracket k) ≡ placed_on l k
  unfolding placed_on
  placed_on_lem l k =
      ap₂ (λ r t. cond (is_declared k.kind && is_modification (bare_bracket k)) r (cond t (k.first ∷ []) [])) (reached_bare l k) (is_placed_lem k)
      ∙ ap (λ a. cond (is_declared k.kind && a) (reached l k) (cond (is_placed k) (k.first ∷ []) [])) (is_modification_lem k)

  struck_out_lem : (l : Line P) → struck_out (tables_of l) ≡ struck_out l
  unfolding struck_out tables_of
  struck_out_lem l = flat_map (placed_on (tables_of l)) (placed_on l) bare_bracket (placed_on_lem l) l.brackets

  -- ---- each bracket weighs as it does with its places
  value_mass_lem : (v : Value P) → value_mass (bare_value v) ≡ value_mass v
  value_mass_lem (mass n) = refl
  value_mass_lem (text t) = refl
  value_mass_lem reference = refl
  value_mass_lem (composition t n) = refl

  first_mass_lem : (ps : List (Part P)) → first_mass (map bare_part ps) ≡ first_mass ps
  unfolding first_mass
  first_mass_lem [] = refl
  first_mass_lem (p ∷ ps) = rw (value_mass_lem p.value, first_mass_lem ps)

  first_mass_kept :
      (f : Part (Unit {0}) → Bool) (h : Part P → Bool) → ((p : Part P) → f (bare_part p) ≡ h p) → (ps : List (Part P))
      → first_mass (keep f (map bare_part ps)) ≡ first_mass (keep h ps)
  first_mass_kept f h e ps = ap first_mass (keep_map f h bare_part e ps) ∙ first_mass_lem (keep h ps)

  pub mass_of_lem : (k : Bracket P) → mass_of (bare_bracket k) ≡ mass_of k
  unfolding mass_of
  mass_of_lem k =
      rw (
        first_mass_kept (λ p. not (is_key Obs p)) (λ p. not (is_key Obs p)) (λ p. refl) k.parts,
        first_mass_kept (is_key Obs) (is_key Obs) (λ p. refl) k.parts,
      )

  pub alike_bare : (l : Line P) → Alike bare_bracket l (tables_of l)
  unfolding tables_of
  alike_bare l =
      record {
        brackets = refl;
        kind = λ k. refl;
        count = λ k. refl;
        modification = is_modification_lem;
        copied = copies_bare;
        placed = placed_on_lem l;
        mass = λ k. ap stated (mass_of_lem k);
      }

  pub same_floaters : (l : Line P) → floaters (tables_of l) ≡ map bare_bracket (floaters l)
  same_floaters l = weighed.same_floaters (alike_bare l)

  referred_at_lem : (k : Bracket P) (x : ℕ) (ks : List (Bracket P)) → referred_at (bare_bracket k) x (map bare_bracket ks) ≡ referred_at k x ks
  unfolding referred_at
  referred_at_lem k x [] = refl
  referred_at_lem k x (r ∷ rs) = rw (defined_by_lem k, referred_by_lem r, referred_at_lem k x rs)

  may_stand_lem : (l : Line P) (k : Bracket P) (x : ℕ) → may_stand (tables_of l) (bare_bracket k) x ≡ may_stand l k x
  unfolding may_stand tables_of
  may_stand_lem l k x = rw
      (names_of_lem k, referred_at_lem k x l.brackets, length-map l.residues bare_residue)

  permitted_bare : (l : Line P) (k : Bracket P) → permitted (tables_of l) (bare_bracket k) ≡ permitted l k
  unfolding permitted
  permitted_bare l k =
      keep_same _ _ (λ x. ap₂ (λ a b. a && not (member x b)) (may_stand_lem l k x) (struck_out_lem l)) (positions (tables_of l))
      ∙ ap (λ s. keep (λ x. may_stand l k x && not (member x (struck_out l))) (tabled (λ x. x) 0 (length s))) (same_sites l)

  same_marks : (l : Line P) → (floating_of (tables_of l)).marks ≡ (floating_of l).marks
  unfolding tables_of
  same_marks l =
      marks_of_lem 0 (map bare_bracket l.brackets)
      ∙ flat_map (λ k. tabled is_further 1 (copies k)) (λ k. tabled is_further 1 (copies k)) bare_bracket (λ k. ap (tabled is_further 1) (copies_bare k)) l.brackets
      ∙ sym (marks_of_lem 0 l.brackets)

  pub same_floating : (l : Line P) → floating_of (tables_of l) ≡ floating_of l
  same_floating l = same_floats (floating_of (tables_of l)) (floating_of l)
      (ap (map (permitted (tables_of l))) (same_floaters l) ∙ map_map (permitted (tables_of l)) (permitted l) bare_bracket (permitted_bare l) (floaters l)) (same_marks l)

  -- ---- masses
  pub same_total : (l : Line P) → total (tables_of l) ≡ total l
  same_total l = weighed.same_total (alike_bare l)

  pub same_lacking : (l : Line P) → lacking (tables_of l) ≡ lacking l
  same_lacking l = weighed.same_lacking (alike_bare l)

  pub same_ledger : (l : Line P) (q : List ℕ) → ledger (tables_of l) q ≡ ledger l q
  same_ledger l q = weighed.same_ledger (alike_bare l) q
