-- The rows of an accepted line in the sheet: each bracket and each part that was read has its own, and what is kept of it is among the line's.
use mathlib.Core.Path.{◌≡◌, refl, sym, ap, subst, ◌∙◌}
use mathlib.Core.Bool.{false}
use mathlib.Core.List.{List, [], ◌∷◌, ◌++◌, map}
use Prim.Native.Nat.{ℕ, suc, ◌+◌, ◌*◌}
use native.Mathlib.Omega.{arith}
use lib.IntN.{pos}
use lib.ListN.{length, take, length-append, length-map}
use lib.Seq.{take_all}
use Rattle.scope.specs.Limits.{bracket_limit, part_limit}
use Rattle.scope.specs.Line.{Part, Bracket, Line}
use Rattle.scope.specs.Lists.{flat}
use Rattle.scope.specs.Kept.{kept_part, kept_bracket, kept}
use Rattle.scope.specs.Layout.{section_code}
use Rattle.scope.specs.Refusals.{due_at, is_uncut, refusal19, accepted, outcome}
use Rattle.scope.specs.Tables.{score_of}
use Rattle.basics.specs.Each.{Each, each_one, each_back}
use Rattle.basics.specs.Lists.{flat_none, not_due}
use Rattle.reading_laws.proofs.Taken.{taken_back}
use Rattle.accepted_laws.specs.Within.{PartWithin, BracketWithin, Within}
use Rattle.accepted_laws.specs.Laws.{accepted_within, read_within}
use Rattle.sheet.specs.declared.Sheet.{Sheet}
use Rattle.sheet.specs.Rows.{part_fields, head_fields, mass_noted, points_noted, part_note, AllStand, heads_from, parts_of, few_brackets, PlacesStand}
use Rattle.sheet.specs.Kept.{LineNoted}
use Rattle.sheet.proofs.FieldLaws.{number_at, head_is, part_is, part_among, stands_at_lem, parts_few}
use Rattle.store.specs.PartPut.{PartNoted}
use Rattle.store.specs.BracketPut.{BracketNoted}

-- ---- an element among those of a list that was mapped
record Unmapped {A B : Type 0} (f : A → B) (l : List A) (xs : List B) (y : B) : Type 0 where
  before : List A
  this : A
  behind : List A
  is : l ≡ before ++ (this ∷ behind)
  place : length xs ≡ length before
  this_is : y ≡ f this

unmapped : {A B : Type 0} (f : A → B) (l : List A) (xs : List B) (y : B) (ys : List B) → map f l ≡ xs ++ (y ∷ ys) → Unmapped f l xs y
unmapped f [] [] y ys e = absurd (omega (arith, ap length e))
unmapped f [] (x ∷ xs) y ys e = absurd (omega (arith, ap length e))
unmapped f (a ∷ l) [] y ys e = record { before = []; this = a; behind = l; is = refl; place = refl; this_is = cc }
unmapped f (a ∷ l) (x ∷ xs) y ys e =
    let u = unmapped f l xs y ys (cc) in
    record {
      before = a ∷ u.before;
      this = u.this;
      behind = u.behind;
      is = ap (λ t. a ∷ t) u.is;
      place = ap suc u.place;
      this_is = u.this_is;
    }

module _ {line : List ℕ} {sheet : Sheet} {residues brackets : ℕ} {l : Line ℕ}
    (w : LineNoted line sheet residues brackets l) where
  abbrev read : Line ℕ
  read = w.taken.read

  pub is_accepted : outcome line ≡ accepted l
  is_accepted = taken_back line l w.taken

  pub within : Within l
  within = accepted_within line l is_accepted

  within_read : Within read
  within_read = read_within line l w.taken

  -- every composition is cut
  all_cut : Each (λ k. Each (λ p. is_uncut p ≡ false) k.parts) read.brackets
  unfolding refusal19
  all_cut =
      each_one (λ k. flat (λ p. due_at (is_uncut p) p.at) k.parts ≡ []) (λ k. Each (λ p. is_uncut p ≡ false) k.parts)
      (λ k e. each_one (λ p. due_at (is_uncut p) p.at ≡ []) (λ p. is_uncut p ≡ false) (λ p f. not_due (is_uncut p) p.at f) k.parts (flat_none (λ p. due_at (is_uncut p) p.at) k.parts e))
      read.brackets (flat_none (λ k. flat (λ p. due_at (is_uncut p) p.at) k.parts) read.brackets w.taken.clear.1.1.1.1.1.1.1.1.1.0)

  -- residues are kept as they are, and as many brackets
  same_residues : read.residues ≡ l.residues
  unfolding kept
  same_residues = ap (λ z. z.residues) (sym w.taken.keeps)

  kept_brackets : map kept_bracket read.brackets ≡ l.brackets
  unfolding kept
  kept_brackets = ap (λ z. z.brackets) (sym w.taken.keeps)

  pub residues_many : residues ≡ length l.residues
  residues_many = w.residues_are ∙ ap length same_residues

  pub brackets_many : brackets ≡ length l.brackets
  brackets_many = w.brackets_are ∙ sym (length-map read.brackets kept_bracket) ∙ ap length kept_brackets

  pub letters_are : take residues sheet.letters ≡ map (λ r. r.letter) l.residues
  letters_are =
      ap (λ i. take i sheet.letters) w.residues_are ∙ w.lettered.letters_are within_read.few_residues ∙ ap (map (λ r. r.letter)) same_residues

  pub sections_are : take residues sheet.sections ≡ map (λ r. section_code r.section) l.residues
  sections_are =
      ap (λ i. take i sheet.sections) w.residues_are ∙ w.lettered.sections_are within_read.few_residues ∙ ap (map (λ r. section_code r.section)) same_residues

  all_few : few_brackets read.brackets ≡ read.brackets
  all_few = take_all bracket_limit read.brackets within_read.few_brackets_lem

  module _ (xs : List (Bracket ℕ)) (b : Bracket ℕ) (ys : List (Bracket ℕ)) (e : l.brackets ≡ xs ++ (b ∷ ys)) where
    u : Unmapped kept_bracket read.brackets xs b
    u = unmapped kept_bracket read.brackets xs b ys (kept_brackets ∙ e)

    these : few_brackets read.brackets ≡ u.before ++ (u.this ∷ u.behind)
    these = all_few ∙ u.is

    bracket_within : BracketWithin (length l.residues) b
    bracket_within = (each_back (BracketWithin (length l.residues)) xs (b ∷ ys) (subst (Each (BracketWithin (length l.residues))) e within.brackets)).0

    this_within : BracketWithin (length read.residues) u.this
    this_within =
        (each_back (BracketWithin (length read.residues)) u.before (u.this ∷ u.behind) (subst (Each (BracketWithin (length read.residues))) u.is within_read.brackets)).0

    this_placed : PlacesStand line u.this.places
    this_placed =
        (each_back (λ k. PlacesStand line k.places) u.before (u.this ∷ u.behind) (subst (Each (λ k. PlacesStand line k.places)) these w.noted.placed)).0

    this_cut : Each (λ p. is_uncut p ≡ false) u.this.parts
    this_cut =
        (each_back (λ k. Each (λ p. is_uncut p ≡ false) k.parts) u.before (u.this ∷ u.behind) (subst (Each (λ k. Each (λ p. is_uncut p ≡ false) k.parts)) u.is all_cut)).0

    module _ (us : List (Part ℕ)) (p : Part ℕ) (vs : List (Part ℕ)) (q : b.parts ≡ us ++ (p ∷ vs)) where
      v : Unmapped kept_part u.this.parts us p
      v = unmapped kept_part u.this.parts us p vs (ap (λ z. z.parts) (sym u.this_is) ∙ q)

      among : parts_of (few_brackets read.brackets) ≡ (parts_of u.before ++ v.before) ++ (v.this ∷ (v.behind ++ parts_of u.behind))
      among = ap parts_of these ∙ part_among u.before u.this u.behind v.before v.this v.behind (take_all part_limit u.this.parts this_within.few_parts_lem ∙ v.is)

      place : length (parts_of u.before) + length us ≡ length (parts_of u.before ++ v.before)
      place = omega (arith, v.place, length-append (parts_of u.before) v.before)

      part_noted : PartNoted line sheet.parts sheet.masses (length (parts_of u.before) + length us) p
      part_noted =
          let n = w.noted.parts_are in
          let i : ℕ = length (parts_of u.before) + length us in
          let before : List (Part ℕ) = parts_of u.before ++ v.before in
          let behind : List (Part ℕ) = v.behind ++ parts_of u.behind in
          record {
            read = v.this;
            fields = part_is sheet.parts (w.parts_many * part_fields) i before v.this behind (n.rows ∙ ap (flat part_note) among) place;
            mass_is = number_at (pos 0) (λ r. mass_noted r.value) w.parts_many sheet.masses before v.this behind i (n.masses_are ∙ ap (map (λ r. mass_noted r.value)) among)
                (place ∙ sym (length-map before (λ r. mass_noted r.value)));
            stands = stands_at_lem line before v.this behind (subst (AllStand line) among w.noted.stand);
            within = (each_back PartWithin v.before (v.this ∷ v.behind) (subst (Each PartWithin) v.is this_within.parts)).0;
            cut = (each_back (λ z. is_uncut z ≡ false) v.before (v.this ∷ v.behind) (subst (Each (λ z. is_uncut z ≡ false)) v.is this_cut)).0;
            keeps = v.this_is;
          }

    pub bracket_noted : BracketNoted line sheet.heads sheet.parts sheet.masses sheet.scores (length l.residues) (length xs) b
    bracket_noted =
        let many = ap (λ z. length z.parts) u.this_is ∙ length-map u.this.parts kept_part in
        record {
          base = length (parts_of u.before);
          read = u.this;
          keeps = u.this_is;
          placed = subst (λ z. PlacesStand line z.places) (sym u.this_is) this_placed;
          fields = head_is sheet.heads (length (few_brackets read.brackets) * head_fields) (length xs) u.before u.this u.behind (w.noted.rows ∙ ap (heads_from 0) these) u.place;
          score_is = number_at (pos 0) (λ k. points_noted (score_of k.parts)) (length (few_brackets read.brackets)) sheet.scores u.before u.this u.behind (length xs) (w.noted.scores_are ∙ ap (map (λ k. points_noted (score_of k.parts))) these)
              (u.place ∙ sym (length-map u.before (λ k. points_noted (score_of k.parts))));
          parts_are = part_noted;
          few_rows = omega (arith, parts_few u.before, many, this_within.few_parts_lem, within_read.few_brackets_lem, ap length u.is, length-append u.before (u.this ∷ u.behind));
          within = bracket_within;
        }
