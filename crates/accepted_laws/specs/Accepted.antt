-- What was read of an accepted line is within the bounds: from the reader's shape and from the refusals that are not due.
use Rattle.std.specs.Prelude.{◌≡◌, refl, true, List, ℕ, ◌+◌, ◌≤◌, ◌<◌, leb, length}
use Rattle.std.proofs.Math.Option.{Option, none, some}
use Rattle.std.proofs.Common.{arith, leb-true}
use Rattle.scope.specs.Bytes.{is_printable}
use Rattle.scope.specs.Limits.{text_limit, label_limit, count_limit}
use Rattle.scope.specs.Line.{Number, Label, Value, mass, text, reference, composition, Part, Bracket, Line}
use Rattle.scope.specs.Lists.{flat}
use Rattle.scope.specs.Refusals.{in_range, text_in}
use Rattle.scope.specs.Layout.{bracket_texts}
use Rattle.reading_laws.proofs.Taken.{Taken}
use Rattle.basics.specs.Tests.{and_right}
use Rattle.basics.specs.Each.{OfGiven, each_one, each_two}
use Rattle.accepted_laws.specs.Within.{Byte, NumberWithin, LabelWithin, ValueWithin, PartWithin, BracketWithin, Within}
use Rattle.accepted_laws.specs.Judged.{MassRange, JudgedPart, JudgedBracket, judged_line}
use Rattle.accepted_laws.specs.Inside.{Signed, LabelShape, ValueShape, PartShape}
use Rattle.accepted_laws.specs.Outside.{BracketShape, LineShape, line_shape}

value_within : (p : Part ℕ) (v : Value ℕ) → ValueShape p v → MassRange v → length (text_in v) ≤ text_limit → ValueWithin p v
value_within p (mass n) w r h = record { range = r; sign = w }
value_within p (text t) w r h = record { some_text = w.0; short_text_lem = h; bytes = w.1 }
value_within p reference w r h = w
value_within p (composition t n) w r h = absurd w

label_within :
    (l : Option (Label ℕ)) → OfGiven LabelShape l → OfGiven (λ l. length l.name ≤ label_limit) l → OfGiven (λ l. OfGiven (λ n. in_range n ≡ true) l.score) l
    → OfGiven LabelWithin l
label_within none w h r = tt
label_within (some l) w h r = record { some_name = w.some_name; short_name = h; bytes = w.bytes; score = go l.score w.score r }
  where
    go : (s : Option (Number ℕ)) → OfGiven Signed s → OfGiven (λ n. in_range n ≡ true) s → OfGiven NumberWithin s
    go none a b = tt
    go (some n) a b = record { range = b; sign = a }

part_within : (p : Part ℕ) → PartShape p → JudgedPart p → PartWithin p
part_within p w j =
    record {
      key = j.key;
      value = value_within p p.value w.value j.mass_range j.short_text_lem;
      label = label_within p.label w.label j.short_label j.score_range;
    }

count_some : (n : ℕ) (c : Option ℕ) → (c ≡ none → n ≡ 1) → OfGiven (λ i. (0 < n) × (n ≤ count_limit)) c → 0 < n
count_some n none f g = let e = f refl in omega arith
count_some n (some i) f g = g.0

count_few : (n : ℕ) (c : Option ℕ) → (c ≡ none → n ≡ 1) → OfGiven (λ i. (0 < n) × (n ≤ count_limit)) c → n ≤ count_limit
count_few n none f g = let e = f refl in omega arith
count_few n (some i) f g = g.1

bracket_within : (n : ℕ) (k : Bracket ℕ) → BracketShape n k → JudgedBracket k → BracketWithin n k
bracket_within n k w j =
    record {
      some_part = w.some_part;
      few_parts_lem = j.few_parts_lem;
      some_count = count_some k.count k.counted w.single j.count_range;
      few_counts = count_few k.count k.counted w.single j.count_range;
      stands = w.stands;
      one_copy = λ e. w.single (w.uncounted e);
      one_labelled = λ e. w.single (j.uncounted e);
      one_label = j.one_label;
      parts = each_two PartShape JudgedPart PartWithin part_within k.parts w.parts j.parts;
      few_places = j.few_places;
      sites = w.sites;
      lone = w.lone;
    }

printable_byte : (b : ℕ) → is_printable b ≡ true → Byte b
printable_byte b e = let h : b ≤ 126 = leb-true b 126 (and_right (leb 32 b) _ e) in omega arith

module _ (s : List ℕ) (m : Line ℕ) (t : Taken s m) where
  abbrev l : Line ℕ
  l = t.read

  shape_read : LineShape (0 + length s) l
  shape_read = let j = judged_line s m t in line_shape s l (each_one (λ b. is_printable b ≡ true) Byte printable_byte s j.printable) j.read

  pub texts_read : length (flat bracket_texts l.brackets) ≤ length s
  texts_read = let fits = shape_read.fits in omega arith

  pub within_read : Within l
  within_read =
      let j = judged_line s m t in
      let w = shape_read in
      let short = j.short in
      let fits = w.fits in
      record {
        some_residue = w.some_residue;
        few_residues = j.few_residues;
        letters = w.letters;
        few_brackets_lem = j.few_brackets_lem;
        few_declarations = j.few_declarations;
        brackets = each_two (BracketShape (length l.residues)) JudgedBracket (BracketWithin (length l.residues))
            (bracket_within (length l.residues)) l.brackets w.brackets j.brackets;
        texts = omega arith;
        few_copies = j.few_copies;
      }
