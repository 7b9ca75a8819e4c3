-- What the reader's state inside a bracket keeps to: the parts read are none of them empty, a reference stands alone, and the texts held are no
-- longer than the bytes read.
use Rattle.std.proofs.Math.Path.{◌≡◌, subst}
use Rattle.std.specs.Prelude.{refl, Bool, true, false, ◌&&◌, List, [], ◌∷◌, ◌++◌, ℕ, ◌+◌, ◌≤◌, ◌<◌, eqb, length}
use Rattle.std.proofs.Common.{sym, ap, ◌∙◌, true≢false, append-nil, arith, length-append}
use Rattle.std.proofs.lemmas.Bool.{false≢true, eqb-false, not-true}
use Rattle.std.proofs.Math.Option.{Option, none, some}
use Rattle.scope.specs.declared.grammar.Key.{Key}
use Rattle.scope.specs.declared.grammar.Key.TheVariants.{NoKey}
use Rattle.scope.specs.Bytes.{bar, hash, colon, value}
use Rattle.scope.specs.Line.{Number, Label, Value, mass, text, reference, composition, Part}
use Rattle.scope.specs.Keys.{digits}
use Rattle.scope.specs.Content.{Digits, signed, whole, pointed, broken, number_of, number_end, Context, Inner, begin, plain, keyed, in_number, in_code, in_text, hashed, in_label, scoring, in_score, scored, Content, lost, closed, going, unlabelled, labelled, is_reference, inner_step}
use Rattle.scope.specs.Lists.{none?, flat}
use Rattle.scope.specs.Refusals.{text_in, text_of}
use Rattle.scope.specs.Layout.{packed}
use Rattle.basics.specs.Tests.{and_right}
use Rattle.basics.specs.Lists.{flat_append_length, flat_one_length}
use Rattle.reading_laws.proofs.Goes.{Valued, of_plain, of_number, of_code, of_text, Over, of_value, of_label, of_score, On, mass_begins, plain_begins, text_begins, refers, plain_on, plain_text_lem, no_key, key_name, key_code_lem, key_text, keyed_mass, keyed_text, mass_on, code_on, text_on, hash_on, label_begins, label_on, score_opens, score_sign, score_digit, score_on, score_over, Goes, stops, goes_on_lem, part_over, shuts, goes}
use Rattle.basics.specs.Each.{Each, OfGiven, each_append, each_one}
use Rattle.accepted_laws.specs.Within.{Byte, ReferenceWithin}

-- ---- parts that are read whole
abbrev pub Signed : {P : Type 0} → Number P → Type 0
Signed n = n.minus ≡ true → 0 < n.digits

pub record LabelShape {P : Type 0} (l : Label P) : Type 0 where
  pub some_name : 0 < length l.name
  pub bytes : Each Byte l.name
  pub score : OfGiven Signed l.score

-- the reader makes no composition: it reads one as a text
abbrev pub ValueShape : {P : Type 0} → Part P → Value P → Type 0
ValueShape p (mass n) = Signed n
ValueShape p (text t) = (0 < length t) × Each Byte t
ValueShape p reference = ReferenceWithin p
ValueShape p (composition t n) = ⊥

pub record PartShape {P : Type 0} (p : Part P) : Type 0 where
  pub value : ValueShape p p.value
  pub label : OfGiven LabelShape p.label

-- a bracket's parts, of which so many bytes were read
pub record PartsShape {P : Type 0} (m : ℕ) (ps : List (Part P)) : Type 0 where
  pub some_part : 0 < length ps
  pub parts : Each PartShape ps
  pub lone : Each (λ p. is_reference p.value ≡ true → length ps ≡ 1) ps
  pub fits : length (flat packed ps) ≤ m

-- ---- parts that are being read
-- those before it, and so many bytes besides, of m bytes read
pub record Carried {P : Type 0} (c : Context P) (more m : ℕ) : Type 0 where
  pub parts : Each PartShape c.parts
  pub none_refers : Each (λ p. is_reference p.value ≡ false) c.parts
  pub fits : length (flat packed c.parts) + more ≤ m

abbrev pub PendingValue : {P : Type 0} → Key → Value P → Type 0
PendingValue k (mass n) = Signed n
PendingValue k (text t) = (0 < length t) × Each Byte t
PendingValue k reference = k ≡ NoKey
PendingValue k (composition t n) = ⊥

-- a part without its label
pub record PendingPart {P : Type 0} (c : Context P) (p : Part P) : Type 0 where
  pub value : PendingValue p.key p.value
  pub alone : is_reference p.value ≡ true → c.parts ≡ []

pub record NameGiven (name : List ℕ) : Type 0 where
  pub some_name : 0 < length name
  pub bytes : Each Byte name

-- a part with its label, if it has one
pub record FinishedPart {P : Type 0} (c : Context P) (p : Part P) : Type 0 where
  pub shape : PartShape p
  pub alone : is_reference p.value ≡ true → c.parts ≡ []

abbrev pub InnerKeeps : {P : Type 0} → ℕ → Inner P → Type 0
InnerKeeps m (begin c) = Carried c 0 m
InnerKeeps m (plain c at t) = Carried c (length t) m × NameGiven t
InnerKeeps m (keyed c at k) = Carried c 0 m
InnerKeeps m (in_number c at k n d) = Carried c 0 m
InnerKeeps m (in_code c at k t) = Carried c (length t) m × Each Byte t
InnerKeeps m (in_text c at k t cs) = Carried c (length t) m × Each Byte t
InnerKeeps m (hashed c p) = Carried c (length (text_of p)) m × PendingPart c p
InnerKeeps m (in_label c p at name) = Carried c (length (text_of p) + length name) m × PendingPart c p × NameGiven name
InnerKeeps m (scoring c p at name) = Carried c (length (text_of p) + length name) m × PendingPart c p × NameGiven name
InnerKeeps m (in_score c p at name n d) = Carried c (length (text_of p) + length name) m × PendingPart c p × NameGiven name
InnerKeeps m (scored c p) = Carried c (length (packed p)) m × FinishedPart c p

abbrev pub ContentKeeps : {P : Type 0} → ℕ → Content P → Type 0
ContentKeeps m lost = Unit {0}
ContentKeeps m (closed ps) = PartsShape m ps
ContentKeeps m (going c) = InnerKeeps m c

bytes_more : (t : List ℕ) (b : ℕ) → Each Byte t → Byte b → Each Byte (t ++ (b ∷ []))
bytes_more t b w h = each_append Byte t (b ∷ []) w (h, tt)

named_more : (t : List ℕ) (b : ℕ) → NameGiven t → Byte b → NameGiven (t ++ (b ∷ []))
named_more t b w h = let l = length-append t (b ∷ []) in record { some_name = omega arith; bytes = bytes_more t b w.bytes h }

module _ {P : Type 0} where
  carry : (c : Context P) (e f m : ℕ) → Carried c e m → f ≤ e + 1 → Carried c f (m + 1)
  carry c e f m w h = let x = w.fits in record { parts = w.parts; none_refers = w.none_refers; fits = omega arith }

  lone_of : (ps : List (Part P)) (n : ℕ) → Each (λ p. is_reference p.value ≡ false) ps → Each (λ p. is_reference p.value ≡ true → n ≡ 1) ps
  lone_of ps n h = each_one (λ p. is_reference p.value ≡ false) (λ p. is_reference p.value ≡ true → n ≡ 1)
      (λ p e t. absurd (false≢true (sym e ∙ t))) ps h

  pending_shape : (at : P) (k : Key) (v : Value P) → PendingValue k v → is_reference v ≡ false → ValueShape (unlabelled at k v) v
  pending_shape at k (mass n) w e = w
  pending_shape at k (text t) w e = w
  pending_shape at k reference w e = absurd (true≢false e)
  pending_shape at k (composition t n) w e = w

  -- ---- labels
  labelled_shape :
      (p : Part P) (at : P) (name : List ℕ) (s : Option (Number P)) (v : Value P) → PendingValue p.key v → ValueShape (labelled p at name s) v
  labelled_shape p at name s (mass n) w = w
  labelled_shape p at name s (text t) w = w
  labelled_shape p at name s reference w = record { no_key = w; labelled = tt }
  labelled_shape p at name s (composition t n) w = w

  finished :
      (c : Context P) (p : Part P) (at : P) (name : List ℕ) (s : Option (Number P)) → PendingPart c p → NameGiven name → OfGiven Signed s
      → FinishedPart c (labelled p at name s)
  finished c p at name s w h g =
      record {
        shape = record {
          value = labelled_shape p at name s p.value w.value;
          label =
              record { some_name = h.some_name; bytes = h.bytes; score = g };
        };
        alone = w.alone;
      }

  -- ---- numbers
  signed_of : (n : P) (s : Bool) (m d : ℕ) → Signed (number_of n s m d)
  signed_of n s m d e = let z : m ≡ 0 → ⊥ = eqb-false m 0 (not-true (eqb m 0) (and_right s _ e)) in omega (arith, z)

  number_end_lem : (n : P) (d : Digits) (x : Number P) → number_end n d ≡ some x → Signed x
  unfolding number_end
  number_end_lem n (signed s) x e = let z : ◌≡◌ {A = ℕ} 0 1 = cc in absurd (omega arith)
  number_end_lem n (whole s m) x e = let q : number_of n s m 0 ≡ x = cc in subst Signed q (signed_of n s m 0)
  number_end_lem n (pointed s m) x e = let z : ◌≡◌ {A = ℕ} 0 1 = cc in absurd (omega arith)
  number_end_lem n (broken s m d) x e = let q : number_of n s m d ≡ x = cc in subst Signed q (signed_of n s m d)

  -- ---- a part is over
  -- whole but for a label
  record WholeValue (c : Context P) (p : Part P) (m : ℕ) : Type 0 where
    pub carried : Carried c (length (text_of p)) m
    pub pending : PendingPart c p
    pub packed : Carried c (length (packed p)) m
    pub finished : FinishedPart c p

  whole_value : (c : Context P) (at : P) (k : Key) (v : Value P) (m : ℕ) → Carried c (length (text_in v)) m → PendingValue k v → is_reference v ≡ false
      → WholeValue c (unlabelled at k v) m
  whole_value c at k v m w f e =
      record {
        carried = w;
        pending = record { value = f; alone = λ q. absurd (false≢true (sym e ∙ q)) };
        packed = subst (λ z. Carried c (length z) m) (sym (append-nil (text_in v))) w;
        finished = record { shape = record { value = pending_shape at k v f e; label = tt }; alone = λ q. absurd (false≢true (sym e ∙ q)) };
      }

  valued_keeps : {s : Inner P} {c : Context P} {p : Part P} → Valued s c p → (m : ℕ) → InnerKeeps m s → WholeValue c p m
  valued_keeps of_plain m w = whole_value _ _ NoKey (text _) m w.0 (w.1.some_name, w.1.bytes) refl
  valued_keeps (of_number {n = n} {d = d} {x = x} e) m w = whole_value _ _ _ (mass x) m w (number_end_lem n d x e) refl
  valued_keeps of_code m w = whole_value _ _ _ (text _) m w.0 (omega arith, w.1) refl
  valued_keeps of_text m w = whole_value _ _ _ (text _) m w.0 (omega arith, w.1) refl

  over_keeps : {s : Inner P} {c : Context P} {p : Part P} → Over s c p → (m : ℕ) → InnerKeeps m s → Carried c (length (packed p)) m × FinishedPart c p
  over_keeps (of_value v) m w = let x = valued_keeps v m w in (x.packed, x.finished)
  over_keeps (of_label {c = c} {p = p} {at = at} {name = name}) m w =
      (subst (λ z. Carried c z m) (sym (length-append (text_of p) name)) w.0, finished c p at name none w.1 w.2 tt)
  over_keeps of_score m w = w

  all_shaped : (c : Context P) (p : Part P) (m : ℕ) → Carried c (length (packed p)) m → FinishedPart c p → Each PartShape (c.parts ++ (p ∷ []))
  all_shaped c p m w f = each_append PartShape c.parts (p ∷ []) w.parts (f.shape, tt)

  all_fit : (c : Context P) (p : Part P) (m : ℕ) → Carried c (length (packed p)) m → length (flat packed (c.parts ++ (p ∷ []))) ≤ m + 1
  all_fit c p m w = omega (arith, w.fits, flat_append_length packed c.parts (p ∷ []), flat_one_length packed p)

  -- ---- one byte more
  carry_more : (c : Context P) (t : List ℕ) (b m : ℕ) → Carried c (length t) m → Carried c (length (t ++ (b ∷ []))) (m + 1)
  carry_more c t b m w = let l = length-append t (b ∷ []) in carry c (length t) (length (t ++ (b ∷ []))) m w (omega arith)

  stay : {c : Context P} (p : Part P) (name : List ℕ) (m : ℕ) → Carried c (length (text_of p) + length name) m
      → Carried c (length (text_of p) + length name) (m + 1)
  stay p name m w = carry _ (length (text_of p) + length name) (length (text_of p) + length name) m w (omega arith)

  no_parts_lem : (ps : List (Part P)) → none? ps ≡ true → ps ≡ []
  no_parts_lem [] e = refl
  no_parts_lem (p ∷ ps) e = absurd (false≢true e)

  on_keeps : {i : P} {b : ℕ} {s t : Inner P} → On i b s t → (m : ℕ) → Byte b → InnerKeeps m s → InnerKeeps (m + 1) t
  on_keeps (mass_begins e) m h w = carry _ 0 0 m w (omega arith)
  on_keeps (plain_begins e) m h w = (carry _ 0 1 m w (omega arith), record { some_name = omega arith; bytes = (h, tt) })
  on_keeps (text_begins e) m h w = (carry _ 0 1 m w (omega arith), (h, tt))
  on_keeps {b = b} (refers {c = c} e) m h w =
      (carry c 0 0 m w (omega arith), record { value = refl; alone = λ q. no_parts_lem c.parts (and_right (eqb b hash && c.refers) _ e) })
  on_keeps {b = b} (plain_on {t = t} e) m h w = (carry_more _ t b m w.0, named_more t b w.1 h)
  on_keeps {b = b} (plain_text_lem {t = t} e) m h w = (carry_more _ t b m w.0, bytes_more t b w.1.bytes h)
  on_keeps (no_key {t = t} e f) m h w = (carry_more _ t colon m w.0, bytes_more t colon w.1.bytes (omega arith))
  on_keeps (key_name {t = t} e f a) m h w = carry _ (length t) 0 m w.0 (omega arith)
  on_keeps (key_code_lem {t = t} e f a) m h w = (carry _ (length t) 0 m w.0 (omega arith), tt)
  on_keeps (key_text {t = t} e f a) m h w = (carry _ (length t) 0 m w.0 (omega arith), tt)
  on_keeps (keyed_mass e) m h w = carry _ 0 0 m w (omega arith)
  on_keeps (keyed_text a e) m h w = (carry _ 0 1 m w (omega arith), (h, tt))
  on_keeps (mass_on e) m h w = carry _ 0 0 m w (omega arith)
  on_keeps {b = b} (code_on {t = t} e) m h w = (carry_more _ t b m w.0, bytes_more t b w.1 h)
  on_keeps {b = b} (text_on {t = t} e) m h w = (carry_more _ t b m w.0, bytes_more t b w.1 h)
  on_keeps (hash_on {p = p} v e) m h w =
      let x = valued_keeps v m w in
      (carry _ (length (text_of p)) (length (text_of p)) m x.carried (omega arith), x.pending)
  on_keeps (label_begins {p = p} e) m h w =
      (carry _ (length (text_of p)) (length (text_of p) + 1) m w.0 (omega arith), w.1, record { some_name = omega arith; bytes = (h, tt) })
  on_keeps {b = b} (label_on {p = p} {name = name} e) m h w =
      let l = length-append name (b ∷ []) in
      (carry _ (length (text_of p) + length name) (length (text_of p) + length (name ++ (b ∷ []))) m w.0 (omega arith), w.1, named_more name b w.2 h)
  on_keeps (score_opens {p = p} {name = name} e) m h w = (stay p name m w.0, w.1, w.2)
  on_keeps (score_sign {p = p} {name = name} e) m h w = (stay p name m w.0, w.1, w.2)
  on_keeps (score_digit {p = p} {name = name} e) m h w = (stay p name m w.0, w.1, w.2)
  on_keeps (score_on {p = p} {name = name} e) m h w = (stay p name m w.0, w.1, w.2)
  on_keeps (score_over {c = c} {p = p} {at = at} {name = name} {n = n} {d = d} {x = x} e f) m h w =
      (subst (λ z. Carried c z (m + 1)) (sym (length-append (text_of p) name)) (stay p name m w.0), finished c p at name (some x) w.1 w.2 (number_end_lem n d x f))

  goes_keeps : {i : P} {b : ℕ} {s : Inner P} {x : Content P} → Goes i b s x → (m : ℕ) → Byte b → InnerKeeps m s → ContentKeeps (m + 1) x
  goes_keeps stops m h w = tt
  goes_keeps (goes_on_lem o) m h w = on_keeps o m h w
  goes_keeps {b = b} (part_over {c = c} {p = p} o e) m h w =
      let q = over_keeps o m w in
      record {
        parts = all_shaped c p m q.0 q.1;
        none_refers =
            each_append (λ q. is_reference q.value ≡ false) c.parts (p ∷ []) q.0.none_refers
            (not-true (is_reference p.value) (and_right (eqb b bar) _ e), tt);
        fits = omega (arith, all_fit c p m q.0);
      }
  goes_keeps (shuts {c = c} {p = p} o e) m h w =
      let q = over_keeps o m w in
      let l = length-append c.parts (p ∷ []) in
      record {
        some_part = omega arith;
        parts = all_shaped c p m q.0 q.1;
        lone =
            each_append (λ q. is_reference q.value ≡ true → length (c.parts ++ (p ∷ [])) ≡ 1) c.parts (p ∷ [])
            (lone_of c.parts (length (c.parts ++ (p ∷ []))) q.0.none_refers)
            ((λ f. ap (λ z. length (z ++ (p ∷ []))) (q.1.alone f)), tt);
        fits = all_fit c p m q.0;
      }

  pub inner_step_lem : (i : P) (s : Inner P) (b m : ℕ) → Byte b → InnerKeeps m s → ContentKeeps (m + 1) (inner_step i s b)
  inner_step_lem i s b m h w = goes_keeps (goes i b s) m h w
