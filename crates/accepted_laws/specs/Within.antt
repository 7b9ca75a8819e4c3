-- What every accepted line keeps to, as bounds on a line.
use Rattle.std.specs.Prelude.{◌≡◌, ◌⊎◌, true, false, List, ℕ, ◌+◌, ◌≤◌, ◌<◌, length}
use Rattle.std.proofs.Common.{le_refl, arith}
use Rattle.scope.specs.declared.grammar.Key.{Key}
use Rattle.scope.specs.declared.grammar.Key.TheVariants.{NoKey, Info, Glycan}
use Rattle.scope.specs.declared.grammar.Kind.{Kind}
use Rattle.scope.specs.Bytes.{byte_limit}
use Rattle.scope.specs.Limits.{line_limit, residue_limit, bracket_limit, part_limit, text_limit, label_limit, count_limit, copy_limit, declaration_limit, place_limit}
use Rattle.scope.specs.Line.{Number, Label, Value, mass, text, reference, composition, Part, Bracket, Line}
use Rattle.scope.specs.Keys.{key_code}
use Rattle.scope.specs.Content.{is_reference}
use Rattle.scope.specs.Lists.{flat}
use Rattle.scope.specs.Reading.{position_of}
use Rattle.scope.specs.Modifications.{names_of, is_labelled}
use Rattle.scope.specs.Refusals.{in_range, declarations}
use Rattle.scope.specs.Kinds.{is_unknown}
use Rattle.scope.specs.Layout.{bracket_texts}
use Rattle.scope.specs.Positions.{floaters}
use Rattle.basics.specs.Each.{Each, OfGiven, IsGiven}
use Rattle.basics.specs.Kinds.{position_few}

abbrev pub Byte : ℕ → Type 0
Byte b = b < byte_limit

-- "below 1,000,000 in size with at most 6 decimals"; "The sign of zero .. not kept"
pub record NumberWithin {P : Type 0} (n : Number P) : Type 0 where
  pub range : in_range n ≡ true
  pub sign : n.minus ≡ true → 0 < n.digits

-- "label 16"; "a label .. never empty"
pub record LabelWithin {P : Type 0} (l : Label P) : Type 0 where
  pub some_name : 0 < length l.name
  pub short_name : length l.name ≤ label_limit
  pub bytes : Each Byte l.name
  pub score : OfGiven NumberWithin l.score

-- "text of a part, after key or prefix, 128 bytes"; "A part's whole text .. never empty"
pub record TextWithin (t : List ℕ) : Type 0 where
  pub some_text : 0 < length t
  pub short_text_lem : length t ≤ text_limit
  pub bytes : Each Byte t

-- a reference has no key, and a label
pub record ReferenceWithin {P : Type 0} (p : Part P) : Type 0 where
  pub no_key : p.key ≡ NoKey
  pub labelled : IsGiven p.label

-- a composition has its key, a text and a mass
pub record CompositionWithin {P : Type 0} (p : Part P) (t : List ℕ) (n : Number P) : Type 0 where
  pub its_key : p.key ≡ Glycan
  pub text : TextWithin t
  pub mass : NumberWithin n

abbrev pub ValueWithin : {P : Type 0} → Part P → Value P → Type 0
ValueWithin p (mass n) = NumberWithin n
ValueWithin p (text t) = TextWithin t
ValueWithin p reference = ReferenceWithin p
ValueWithin p (composition t n) = CompositionWithin p t n

-- the keys of refusal 8 have the codes above that of `INFO:`; so has that of compositions
abbrev pub KeyWithin : Key → Type 0
KeyWithin k = (key_code k ≤ key_code Info) ⊎ (k ≡ Glycan)

pub record PartWithin {P : Type 0} (p : Part P) : Type 0 where
  pub key : KeyWithin p.key
  pub value : ValueWithin p p.value
  pub label : OfGiven LabelWithin p.label

-- where a bracket of this kind was read, in a line with n residues: behind so many of them, and in a group that began at one of these
pub record StoodAt (k : Kind) (first last n : ℕ) : Type 0 where
  pub behind : ℕ
  pub group : ℕ
  pub ordered : group ≤ behind
  pub inside : behind ≤ n
  pub first_is : first ≡ position_of k behind group
  pub last_is : last ≡ position_of k behind behind

pub record BracketWithin {P : Type 0} (n : ℕ) (k : Bracket P) : Type 0 where
  pub some_part : 0 < length k.parts
  pub few_parts_lem : length k.parts ≤ part_limit
  pub some_count : 0 < k.count
  pub few_counts : k.count ≤ count_limit
  pub stands : StoodAt k.kind k.first k.last n
  pub one_copy : is_unknown k.kind ≡ false → k.count ≡ 1
  pub one_labelled : is_labelled k ≡ true → k.count ≡ 1
  pub one_label : length (names_of k) ≤ 1
  pub parts : Each PartWithin k.parts
  pub few_places : length k.places ≤ place_limit
  pub sites : Each (λ p. Byte p.site) k.places
  pub lone : Each (λ p. is_reference p.value ≡ true → length k.parts ≡ 1) k.parts

pub record Within {P : Type 0} (l : Line P) : Type 0 where
  pub some_residue : 0 < length l.residues
  pub few_residues : length l.residues ≤ residue_limit
  pub letters : Each (λ r. Byte r.letter) l.residues
  pub few_brackets_lem : length l.brackets ≤ bracket_limit
  pub few_declarations : length (declarations l.brackets) ≤ declaration_limit
  pub brackets : Each (BracketWithin (length l.residues)) l.brackets
  pub texts : length (flat bracket_texts l.brackets) ≤ line_limit
  pub few_copies : length (floaters l) ≤ copy_limit

-- ---- positions are inside
pub first_few : (k : Kind) (first last n : ℕ) → StoodAt k first last n → first ≤ n + 1
first_few k first last n s = omega (arith, s.first_is, position_few k s.behind s.group s.ordered, s.inside)

pub last_few : (k : Kind) (first last n : ℕ) → StoodAt k first last n → last ≤ n + 1
last_few k first last n s = omega (arith, s.last_is, position_few k s.behind s.behind (le_refl s.behind), s.inside)
