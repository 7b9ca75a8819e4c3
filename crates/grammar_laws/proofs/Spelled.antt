-- From the reader to trees: whatever is read of a bracket is spelled by a tree so far, and a bracket that is closed is what a good tree prints and means.
use Rattle.std.specs.Prelude.{ℕ, ◌≡◌, Bool, cond, ◌&&◌, ◌||◌}
use Rattle.std.proofs.Math.Path.{refl, sym, ap, subst}
use Rattle.std.proofs.Common.{◌∙◌, true≢false, eqb-true}
use Rattle.std.proofs.Math.Bool.{true, false, not}
use Rattle.std.proofs.lemmas.Bool.{false≢true}
use Rattle.std.proofs.Math.Option.{Option, none, some, none-ne-some}
use mathlib.Core.List.{List, [], ◌∷◌, ◌++◌, map, append_assoc, append-nil}
use Rattle.std.proofs.Math.Dec.{eqb}
use Rattle.scope.specs.declared.grammar.Key.{Key}
use Rattle.scope.specs.declared.grammar.Key.TheVariants.{NoKey}
use Rattle.scope.specs.Bytes.{is_printable, is_letter, is_digit, is_alnum, is_sign, is_opening, is_shutting, closer_of, open_square, open_curly, bar, hash, colon, plus, dash, open_round, shut_round, same_folded, value}
use Rattle.scope.specs.Line.{Number, mass, text, reference, Part}
use Rattle.scope.specs.Keys.{spell, key_of, Form, mass_or_name, mass_only, digits, alnums, free, composed, form, hash_is_plain, accession_byte}
use Rattle.scope.specs.Content.{Digits, signed, digit_step, number_end, is_plain, text_step, Context, Inner, begin, plain, keyed, in_number, in_code, in_text, hashed, in_label, scoring, in_score, scored, Content, lost, closed, going, with, unlabelled, labelled, is_reference, part_end, value_end, text_end, behind_key, colon_after, name_behind, inner_step}
use Rattle.scope.specs.Lists.{none?, all as every, there?}
use Rattle.basics.specs.Choice.{branch_on, given_on, pick_false}
use Rattle.basics.specs.Each.{Each, each_append}
use Rattle.reading_laws.proofs.Unnoted.{Place, Parts, context, content_step, content_run}
use Rattle.basics.specs.Tests.{and_left, and_right, both}
use Rattle.scope.specs.Grammar.{some_of, print_numeral, good_numeral, sign_byte, Text, print_text, good_text, outer_byte, with_colon, lead_key, first_sign, keyless, Base, delta, code, wording, print_base, takes_mass, good_wording, good_base, key_in, print_sign, is_minus, Tag, print_tag, good_tag, Piece, print_piece, form_in, tag_fits, good_piece, print_pieces, good_pieces, Inside, parts, refers, print_inside, good_inside}
use Rattle.grammar_laws.proofs.Bare.{bare_value, bare_score, bare_piece, bare_reference, bare_inside}
use Rattle.grammar_laws.proofs.Lists.{all_nil, all_one, all_snoc, some_snoc, some_all, not_none}
use Rattle.grammar_laws.proofs.Numerals.{SoFar, so_further, so_first, NumberSpelt, so_ended}
use Rattle.grammar_laws.specs.Texts.{text_run, text_append, text_cons, text_nil, outer, whole_text, plain_stays}
use Rattle.grammar_laws.proofs.Words.{key_word, key_none, no_word, lead_over, lead_colon, lead_none}

-- ---- parts in front, each with its `|`
unfoldable pub fronts : List Piece → List ℕ
fronts [] = []
fronts (p ∷ ps) = (print_piece p ++ (bar ∷ [])) ++ fronts ps

fronts_nil : fronts [] ≡ []
unfolding fronts
fronts_nil = refl

fronts_snoc : (ps : List Piece) (p : Piece) → fronts (ps ++ (p ∷ [])) ≡ fronts ps ++ (print_piece p ++ (bar ∷ []))
unfolding fronts
fronts_snoc [] p = append-nil (print_piece p ++ (bar ∷ []))
fronts_snoc (q ∷ ps) p = ap (λ z. (print_piece q ++ (bar ∷ [])) ++ z) (fronts_snoc ps p) ∙ sym (append_assoc (print_piece q ++ (bar ∷ [])) (fronts ps) (print_piece p ++ (bar ∷ [])))

means_snoc : (ps : List Piece) (p : Piece) → map bare_piece (ps ++ (p ∷ [])) ≡ map bare_piece ps ++ (bare_piece p ∷ [])
means_snoc [] p = refl
means_snoc (q ∷ ps) p = ap (λ z. bare_piece q ∷ z) (means_snoc ps p)

module _ (labels : Bool) where
  abbrev pub Fine : Piece → Type 0
  Fine p = good_piece labels p ≡ true

  good_snoc : (q : Piece) (ps : List Piece) (p : Piece) → Fine q → Each Fine ps → Fine p → good_pieces labels q (ps ++ (p ∷ [])) ≡ true
  unfolding good_pieces
  good_snoc q [] p a b c = both (good_piece labels q) (good_piece labels p) a c
  good_snoc q (s ∷ ps) p a b c = both (good_piece labels q) (good_pieces labels s (ps ++ (p ∷ []))) a (good_snoc s ps p b.0 b.1 c)

  one_good : (p : Piece) → Fine p → good_pieces labels p [] ≡ true
  unfolding good_pieces
  one_good p a = a

print_snoc : (q : Piece) (ps : List Piece) (p : Piece) → print_pieces q (ps ++ (p ∷ [])) ≡ fronts (q ∷ ps) ++ print_piece p
unfolding print_pieces fronts
print_snoc q [] p = sym (append_assoc (print_piece q) (bar ∷ []) (print_piece p)) ∙ ap (λ z. z ++ print_piece p) (sym (append-nil (print_piece q ++ (bar ∷ []))))
print_snoc q (s ∷ ps) p =
    ap (λ z. print_piece q ++ (bar ∷ z)) (print_snoc s ps p)
    ∙ sym (append_assoc (print_piece q) (bar ∷ []) (fronts (s ∷ ps) ++ print_piece p))
    ∙ sym (append_assoc (print_piece q ++ (bar ∷ [])) (fronts (s ∷ ps)) (print_piece p))

print_one : (p : Piece) → print_pieces p [] ≡ print_piece p
unfolding print_pieces
print_one p = refl

-- ---- bytes
sign_byte_lem : (b : ℕ) → is_sign b ≡ true → b ≡ sign_byte (eqb b dash)
sign_byte_lem b e = go (eqb b plus) (eqb b dash) refl refl e
  where
    go : (p m : Bool) → eqb b plus ≡ p → eqb b dash ≡ m → (p || m) ≡ true → b ≡ sign_byte m
    go p true f g h = eqb-true b dash g
    go true false f g h = eqb-true b plus f
    go false false f g h = absurd (false≢true h)

opening_letter : (b : ℕ) → is_opening b ≡ true → is_letter b ≡ false
opening_letter b e = go (eqb b open_square) refl e
  where
    go : (p : Bool) → eqb b open_square ≡ p → (p || eqb b open_curly) ≡ true → is_letter b ≡ false
    go true f h = ap is_letter (eqb-true b open_square f)
    go false f h = ap is_letter (eqb-true b open_curly h)

-- a byte that a text takes, and that is neither plain nor a colon, opens a pair
opens : (b : ℕ) (cs : List ℕ) → is_plain b ≡ false → eqb b colon ≡ false → text_step false [] b ≡ some cs → is_opening b ≡ true
unfolding text_step
opens b cs e f g = go (is_opening b) (sym (pick_false (outer false b) (some []) (cond (is_opening b) (some (closer_of b ∷ [])) none) off) ∙ g)
  where
    off : outer false b ≡ false
    off = ap (λ z. z || eqb b colon || false) e ∙ ap (λ z. z || false) f

    go : (t : Bool) → cond t (some (closer_of b ∷ [])) none ≡ some cs → t ≡ true
    go true h = refl
    go false h = absurd (none-ne-some cs h)

plain_colon : (b : ℕ) → is_plain b ≡ true → not (eqb b colon) ≡ true
plain_colon b e = and_right (is_printable b && not (is_opening b) && not (is_shutting b) && not (eqb b bar) && not (eqb b hash)) (not (eqb b colon)) e

plain_colons : (t : List ℕ) → every is_plain t ≡ true → every (λ b. not (eqb b colon)) t ≡ true
unfolding every
plain_colons [] e = refl
plain_colons (b ∷ t) e = both (not (eqb b colon)) (every (λ x. not (eqb x colon)) t) (plain_colon b (and_left (is_plain b) (every is_plain t) e)) (plain_colons t (and_right (is_plain b) (every is_plain t) e))

plain_text_lem : (t : List ℕ) → every is_plain t ≡ true → text_run false [] t ≡ some []
unfolding every
plain_text_lem [] e = text_nil false []
plain_text_lem (b ∷ t) e = text_cons false b t [] [] (plain_stays b (and_left (is_plain b) (every is_plain t) e)) ∙ plain_text_lem t (and_right (is_plain b) (every is_plain t) e)

text_snoc : (h : Bool) (t cs cs' : List ℕ) (b : ℕ) → text_run h [] t ≡ some cs → text_step h cs b ≡ some cs' → text_run h [] (t ++ (b ∷ [])) ≡ some cs'
text_snoc h t cs cs' b e f = text_append h t (b ∷ []) [] cs e ∙ text_cons h b [] cs cs' f ∙ text_nil h cs'

text_colon : text_step false [] colon ≡ some []
unfolding text_step
text_colon = refl

lead_end : (t : List ℕ) → lead_key t [] ≡ none
unfolding lead_key
lead_end t = refl

sign_snoc : (t : List ℕ) (b : ℕ) → none? t ≡ false → first_sign t ≡ false → first_sign (t ++ (b ∷ [])) ≡ false
sign_snoc [] b e f = absurd (true≢false e)
sign_snoc (x ∷ t) b e f = f

colon_word : (t : List ℕ) → none? t ≡ false → with_colon t ≡ t ++ (colon ∷ [])
colon_word [] e = absurd (true≢false e)
colon_word (x ∷ t) e = refl

-- no key begins such bytes, whatever follows
abbrev Unkeyed : List ℕ → List ℕ → Type 0
Unkeyed word t = (r : List ℕ) → keyless word (t ++ r) ≡ true

unkeyed : (t : List ℕ) → ((r : List ℕ) → lead_key [] (t ++ r) ≡ none) → Unkeyed [] t
unkeyed t f r = ap (λ o. not (there? o)) (f r)

unkeyed_more : (word t : List ℕ) (b : ℕ) → Unkeyed word t → Unkeyed word (t ++ (b ∷ []))
unkeyed_more word t b f r = ap (keyless word) (append_assoc t (b ∷ []) r) ∙ f (b ∷ r)

worded : (word t : List ℕ) → none? word ≡ false → Unkeyed word t
worded [] t e r = absurd (true≢false e)
worded (x ∷ w) t e r = refl

-- how a text begins, by what may stand behind its key
abbrev pub Begun : Form → List ℕ → List ℕ → Type 0
Begun mass_or_name word t = (first_sign t ≡ false) × (none? t ≡ false) × Unkeyed word t
Begun mass_only word t = ⊥
Begun digits word t = ⊥
Begun alnums word t = ⊥
Begun free word t = Unit {0}
Begun composed word t = Unit {0}

begun_more : (f : Form) (word t : List ℕ) (b : ℕ) → Begun f word t → Begun f word (t ++ (b ∷ []))
begun_more mass_or_name word t b w = (sign_snoc t b w.1 w.0, not_none t b, unkeyed_more word t b w.2)
begun_more mass_only word t b w = w
begun_more digits word t b w = w
begun_more alnums word t b w = w
begun_more free word t b w = tt
begun_more composed word t b w = tt

-- how a text stands that is over
abbrev pub Ended : Form → List ℕ → List ℕ → Type 0
Ended mass_or_name word t = (first_sign t ≡ false) × (keyless word t ≡ true)
Ended mass_only word t = ⊥
Ended digits word t = ⊥
Ended alnums word t = ⊥
Ended free word t = Unit {0}
Ended composed word t = Unit {0}

begun_ended : (f : Form) (word t : List ℕ) → Begun f word t → Ended f word t
begun_ended mass_or_name word t w = (w.0, ap (keyless word) (sym (append-nil t)) ∙ w.2 [])
begun_ended mass_only word t w = w
begun_ended digits word t w = w
begun_ended alnums word t w = w
begun_ended free word t w = tt
begun_ended composed word t w = tt

text_good : (f : Form) (word t : List ℕ) (x : Text) → Ended f word t → good_text (outer_byte (hash_is_plain f)) x ≡ true → t ≡ print_text x → good_wording f word x ≡ true
text_good mass_or_name word t x w g e =
    both (good_text (outer_byte false) x) (not (first_sign (print_text x)) && keyless word (print_text x)) g
    (both (not (first_sign (print_text x))) (keyless word (print_text x)) (ap (λ z. not (first_sign z)) (sym e) ∙ ap not w.0)
    (ap (keyless word) (sym e) ∙ w.1))
text_good mass_only word t x w g e = absurd w
text_good digits word t x w g e = absurd w
text_good alnums word t x w g e = absurd w
text_good free word t x w g e = g
text_good composed word t x w g e = g

-- a label may follow, where `#` ended the text
free_hash : text_step true [] hash ≡ none → ⊥
unfolding text_step
free_hash e = none-ne-some [] (sym e)

text_tag : (f : Form) (word t : List ℕ) (b : ℕ) → Begun f word t → text_step (hash_is_plain f) [] b ≡ none → eqb b hash ≡ true → tag_fits f ≡ true
text_tag mass_or_name word t b w e h = refl
text_tag mass_only word t b w e h = refl
text_tag digits word t b w e h = refl
text_tag alnums word t b w e h = refl
text_tag free word t b w e h = absurd (free_hash (ap (text_step true []) (sym (eqb-true b hash h)) ∙ e))
text_tag composed word t b w e h = refl

mass_tag : (f : Form) → takes_mass f ≡ true → tag_fits f ≡ true
mass_tag mass_or_name e = refl
mass_tag mass_only e = refl
mass_tag digits e = refl
mass_tag alnums e = refl
mass_tag free e = e
mass_tag composed e = refl

code_tag : (f : Form) (x : ℕ) → accession_byte f x ≡ true → tag_fits f ≡ true
code_tag mass_or_name x e = refl
code_tag mass_only x e = refl
code_tag digits x e = refl
code_tag alnums x e = refl
code_tag free x e = e
code_tag composed x e = refl

-- ---- what is spelled so far: shut closes the bracket, r says whether a reference may stand in it, labels whether its parts may have labels
module _ (shut : ℕ) (r labels : Bool) where
  pub record Lead (c : Context Place) (w : List ℕ) : Type 0 where
    pub pieces : List Piece
    pub good : Each (Fine labels) pieces
    pub is : c ≡ context shut r labels (map bare_piece pieces)
    pub all : w ≡ fronts pieces

  pub record PlainText (c : Context Place) (t w : List ℕ) : Type 0 where
    pub before : List ℕ
    pub lead : Lead c before
    pub all : w ≡ before ++ t
    pub plain : every is_plain t ≡ true
    pub some : none? t ≡ false
    pub sign : first_sign t ≡ false

  -- behind a key word, or none, the bytes t
  pub record Behind (c : Context Place) (k : Key) (t w : List ℕ) : Type 0 where
    pub before : List ℕ
    pub lead : Lead c before
    pub word : List ℕ
    pub folds : same_folded (spell k) word ≡ true
    pub all : w ≡ before ++ (with_colon word ++ t)

  pub record Weighed (c : Context Place) (k : Key) (d : Digits) (w : List ℕ) : Type 0 where
    pub sign : Bool
    pub bytes : List ℕ
    pub so : SoFar sign d bytes
    pub behind : Behind c k (sign_byte sign ∷ bytes) w
    pub takes : takes_mass (form k) ≡ true

  pub record Based (c : Context Place) (p : Part Place) (w : List ℕ) : Type 0 where
    pub before : List ℕ
    pub lead : Lead c before
    pub base : Base
    pub good : good_base base ≡ true
    pub is : p ≡ unlabelled tt (key_in base) (bare_value base)
    pub all : w ≡ before ++ print_base base

  -- what a label may follow
  pub data Tagged (c : Context Place) (p : Part Place) (w : List ℕ) : Type 0 where
    a_part : (x : Based c p w) → (labels && tag_fits (form_in x.base)) ≡ true → Tagged c p w
    a_reference : r ≡ true → c ≡ context shut r labels [] → p ≡ unlabelled tt NoKey reference → w ≡ [] → Tagged c p w

  pub record Pieced (c : Context Place) (p : Part Place) (w : List ℕ) : Type 0 where
    pub before : List ℕ
    pub lead : Lead c before
    pub piece : Piece
    pub fine : Fine labels piece
    pub is : p ≡ bare_piece piece
    pub all : w ≡ before ++ print_piece piece

  pub record Refers (c : Context Place) (p : Part Place) (w : List ℕ) : Type 0 where
    pub allowed : r ≡ true
    pub context? : c ≡ context shut r labels []
    pub tag : Tag
    pub good : good_tag (some tag) ≡ true
    pub is : p ≡ bare_reference tag
    pub all : w ≡ print_tag (some tag)

  pub data Made (c : Context Place) (p : Part Place) (w : List ℕ) : Type 0 where
    made_part : Pieced c p w → Made c p w
    made_reference : Refers c p w → Made c p w

  pub record Labelled (c : Context Place) (p : Part Place) (t w : List ℕ) : Type 0 where
    pub front : List ℕ
    pub tagged : Tagged c p front
    pub all : w ≡ front ++ (hash ∷ t)

  pub record Scoring (c : Context Place) (p : Part Place) (name : List ℕ) (d : Digits) (w : List ℕ) : Type 0 where
    pub sign : Option Bool
    pub bytes : List ℕ
    pub so : SoFar (is_minus sign) d bytes
    pub labelled : Labelled c p (name ++ (open_round ∷ (print_sign sign ++ bytes))) w

  unfoldable pub Inv : List ℕ → Inner Place → Type 0
  Inv w (begin c) = Lead c w
  Inv w (plain c at t) = PlainText c t w
  Inv w (keyed c at k) = (x : Behind c k [] w) × (none? x.word ≡ false) × (takes_mass (form k) ≡ true)
  Inv w (in_number c at k p d) = Weighed c k d w
  Inv w (in_code c at k t) = Behind c k t w × (every (accession_byte (form k)) t ≡ true)
  Inv w (in_text c at k t cs) = (x : Behind c k t w) × (text_run (hash_is_plain (form k)) [] t ≡ some cs) × Begun (form k) x.word t
  Inv w (hashed c p) = Labelled c p [] w
  Inv w (in_label c p at name) = Labelled c p name w × (some_of is_alnum name ≡ true)
  Inv w (scoring c p at name) = Labelled c p (name ++ (open_round ∷ [])) w × (some_of is_alnum name ≡ true)
  Inv w (in_score c p at name q d) = Scoring c p name d w × (some_of is_alnum name ≡ true)
  Inv w (scored c p) = Made c p w

  pub record ClosedParts (ps : Parts) (w : List ℕ) : Type 0 where
    pub tree : Inside
    pub good : good_inside r labels tree ≡ true
    pub prints : w ≡ print_inside tree ++ (shut ∷ [])
    pub means : ps ≡ bare_inside tree

  unfoldable pub InvC : List ℕ → Content Place → Type 0
  InvC w lost = Unit {0}
  InvC w (closed ps) = ClosedParts ps w
  InvC w (going s) = Inv w s

  -- ---- the end of a part
  shut_is : (c : Context Place) (ps : List Piece) → c ≡ context shut r labels (map bare_piece ps) → c.shut ≡ shut
  shut_is c ps e = ap (λ z. z.shut) e

  labels_is : (c : Context Place) (ps : List Piece) → c ≡ context shut r labels (map bare_piece ps) → c.labels ≡ labels
  labels_is c ps e = ap (λ z. z.labels) e

  parts_is : (c : Context Place) (ps : List Piece) → c ≡ context shut r labels (map bare_piece ps) → c.parts ≡ map bare_piece ps
  parts_is c ps e = ap (λ z. z.parts) e

  joined : (ps : List Piece) (q : Piece) (w : List ℕ) → Each (Fine labels) ps → Fine labels q → w ≡ (fronts ps ++ print_piece q) ++ (shut ∷ []) → ClosedParts (map bare_piece ps ++ (bare_piece q ∷ [])) w
  joined [] q w g f e =
      record {
        tree = parts q [];
        good = one_good labels q f;
        prints = e ∙ ap (λ z. (z ++ print_piece q) ++ (shut ∷ [])) fronts_nil ∙ ap (λ z. z ++ (shut ∷ [])) (sym (print_one q));
        means = refl;
      }
  joined (p ∷ ps) q w g f e =
      record {
        tree = parts p (ps ++ (q ∷ []));
        good = good_snoc labels p ps q g.0 g.1 f;
        prints = e ∙ ap (λ z. z ++ (shut ∷ [])) (sym (print_snoc p ps q));
        means = ap (λ z. bare_piece p ∷ z) (sym (means_snoc ps q));
      }

  part_shuts : (c : Context Place) (p : Part Place) (b : ℕ) (w : List ℕ) → b ≡ c.shut → Made c p w → ClosedParts (c.parts ++ (p ∷ [])) (w ++ (b ∷ []))
  part_shuts c p b w e (made_part x) =
      let ps = x.lead.pieces in
      subst (λ (z : Parts). ClosedParts z (w ++ (b ∷ []))) (ap (λ z. z ++ (bare_piece x.piece ∷ [])) (sym (parts_is c ps x.lead.is)) ∙ ap (λ z. c.parts ++ (z ∷ [])) (sym x.is))
      (joined ps x.piece (w ++ (b ∷ [])) x.lead.good x.fine (ap (λ z. z ++ (b ∷ [])) (x.all ∙ ap (λ z. z ++ print_piece x.piece) x.lead.all) ∙ ap (λ z. (fronts ps ++ print_piece x.piece) ++ (z ∷ [])) (e ∙ shut_is c ps x.lead.is)))
  part_shuts c p b w e (made_reference x) =
      record {
        tree = refers x.tag;
        good = both r (good_tag (some x.tag)) x.allowed x.good;
        prints = ap (λ z. z ++ (b ∷ [])) x.all ∙ ap (λ z. print_tag (some x.tag) ++ (z ∷ [])) (e ∙ ap (λ z. z.shut) x.context?);
        means = ap (λ z. z ++ (p ∷ [])) (ap (λ z. z.parts) x.context?) ∙ ap (λ z. z ∷ []) x.is;
      }

  part_bars : (c : Context Place) (p : Part Place) (b : ℕ) (w : List ℕ) → (eqb b bar && not (is_reference p.value)) ≡ true → Made c p w → Lead (with c p) (w ++ (b ∷ []))
  part_bars c p b w e (made_part x) =
      let ps = x.lead.pieces in
      record {
        pieces = ps ++ (x.piece ∷ []);
        good = each_append (Fine labels) ps (x.piece ∷ []) x.lead.good (x.fine, tt);
        is = ap (λ z. with z p) x.lead.is ∙ ap (λ z. context shut r labels (map bare_piece ps ++ (z ∷ []))) x.is ∙ ap (context shut r labels) (sym (means_snoc ps x.piece));
        all =
            ap (λ z. z ++ (b ∷ [])) (x.all ∙ ap (λ z. z ++ print_piece x.piece) x.lead.all)
            ∙ append_assoc (fronts ps) (print_piece x.piece) (b ∷ [])
            ∙ ap (λ z. fronts ps ++ (print_piece x.piece ++ (z ∷ []))) (eqb-true b bar (and_left (eqb b bar) (not (is_reference p.value)) e))
            ∙ sym (fronts_snoc ps x.piece);
      }
  part_bars c p b w e (made_reference x) =
      let h : not (is_reference p.value) ≡ true = and_right (eqb b bar) (not (is_reference p.value)) e in
      absurd (false≢true (ap (λ z. not (is_reference z.value)) (sym x.is) ∙ h))

  part_end_lem : (c : Context Place) (p : Part Place) (b : ℕ) (w : List ℕ) → Made c p w → InvC (w ++ (b ∷ [])) (part_end c p b)
  unfolding part_end InvC Inv
  part_end_lem c p b w m =
      branch_on (InvC (w ++ (b ∷ []))) (eqb b c.shut) (λ e. part_shuts c p b w (eqb-true b c.shut e) m)
      (λ e. branch_on (InvC (w ++ (b ∷ []))) (eqb b bar && not (is_reference p.value)) (λ f. part_bars c p b w f m) (λ f. tt))

  piece_of : (c : Context Place) (p : Part Place) (w : List ℕ) → Based c p w → Made c p w
  piece_of c p w x =
      made_part
      record {
        before = x.before;
        lead = x.lead;
        piece = record { base = x.base; tag = none };
        fine = both (good_base x.base) true x.good refl;
        is = x.is;
        all = x.all ∙ ap (λ z. x.before ++ z) (sym (append-nil (print_base x.base)));
      }

  -- the end of what a part says; `#` begins a label, where one may stand
  value_end_lem : (c : Context Place) (p : Part Place) (b : ℕ) (w : List ℕ) (x : Based c p w) → (eqb b hash ≡ true → tag_fits (form_in x.base) ≡ true) → InvC (w ++ (b ∷ [])) (value_end c p b)
  unfolding value_end InvC Inv
  value_end_lem c p b w x f =
      branch_on (InvC (w ++ (b ∷ []))) (eqb b hash && c.labels)
      (λ e.
      let h : eqb b hash ≡ true = and_left (eqb b hash) c.labels e in
      let l : labels ≡ true = sym (labels_is c x.lead.pieces x.lead.is) ∙ and_right (eqb b hash) c.labels e in
      record { front = w; tagged = a_part x (both labels (tag_fits (form_in x.base)) l (f h)); all = ap (λ z. w ++ (z ∷ [])) (eqb-true b hash h) })
      (λ e. part_end_lem c p b w (piece_of c p w x))

  -- ---- a part and its label
  tag_fine : (b : Base) (t : Tag) → good_base b ≡ true → good_tag (some t) ≡ true → (labels && tag_fits (form_in b)) ≡ true → Fine labels (record { base = b; tag = some t })
  tag_fine b t g h f = both (good_base b) (good_tag (some t) && (labels && tag_fits (form_in b))) g (both (good_tag (some t)) (labels && tag_fits (form_in b)) h f)

  tag_made : (c : Context Place) (p : Part Place) (t : Tag) (u w : List ℕ) → Tagged c p u → good_tag (some t) ≡ true → w ≡ u ++ print_tag (some t) → Made c (labelled p tt t.name (bare_score t.score)) w
  tag_made c p t u w (a_part x f) g e =
      made_part
      record {
        before = x.before;
        lead = x.lead;
        piece = record { base = x.base; tag = some t };
        fine = tag_fine x.base t x.good g f;
        is = ap (λ z. labelled z tt t.name (bare_score t.score)) x.is;
        all = e ∙ ap (λ z. z ++ print_tag (some t)) x.all ∙ append_assoc x.before (print_base x.base) (print_tag (some t));
      }
  tag_made c p t u w (a_reference q f h i) g e =
      made_reference
      record {
        allowed = q;
        context? = f;
        tag = t;
        good = g;
        is = ap (λ z. labelled z tt t.name (bare_score t.score)) h;
        all = e ∙ ap (λ z. z ++ print_tag (some t)) i;
      }

  label_more : (c : Context Place) (p : Part Place) (t w : List ℕ) (b : ℕ) → Labelled c p t w → Labelled c p (t ++ (b ∷ [])) (w ++ (b ∷ []))
  label_more c p t w b x = record { front = x.front; tagged = x.tagged; all = ap (λ z. z ++ (b ∷ [])) x.all ∙ append_assoc x.front (hash ∷ t) (b ∷ []) }

  label_same : (c : Context Place) (p : Part Place) (t u w : List ℕ) → t ≡ u → Labelled c p t w → Labelled c p u w
  label_same c p t u w e x = subst (λ (z : List ℕ). Labelled c p z w) e x

  step_hashed : (c : Context Place) (p : Part Place) (b : ℕ) (w : List ℕ) → Labelled c p [] w → InvC (w ++ (b ∷ [])) (inner_step tt (hashed c p) b)
  unfolding inner_step InvC Inv
  step_hashed c p b w x =
      branch_on (InvC (w ++ (b ∷ []))) (is_alnum b) (λ e. (label_more c p [] w b x, some_snoc is_alnum [] b (all_nil is_alnum) e)) (λ e. tt)

  step_label : (c : Context Place) (p : Part Place) (name : List ℕ) (b : ℕ) (w : List ℕ) → Labelled c p name w → some_of is_alnum name ≡ true → InvC (w ++ (b ∷ [])) (inner_step tt (in_label c p tt name) b)
  unfolding inner_step InvC Inv
  step_label c p name b w x g =
      branch_on (InvC (w ++ (b ∷ []))) (is_alnum b) (λ e. (label_more c p name w b x, some_snoc is_alnum name b (some_all is_alnum name g) e))
      (λ e.
      branch_on (InvC (w ++ (b ∷ []))) (eqb b open_round)
      (λ f. (label_same c p (name ++ (b ∷ [])) (name ++ (open_round ∷ [])) (w ++ (b ∷ [])) (ap (λ z. name ++ (z ∷ [])) (eqb-true b open_round f)) (label_more c p name w b x), g))
      (λ f.
      part_end_lem c (labelled p tt name none) b w
      (tag_made c p (record { name = name; score = none }) x.front w x.tagged (both (some_of is_alnum name) true g refl) (x.all ∙ ap (λ z. x.front ++ (hash ∷ z)) (sym (append-nil name))))))

  step_scoring : (c : Context Place) (p : Part Place) (name : List ℕ) (b : ℕ) (w : List ℕ) → Labelled c p (name ++ (open_round ∷ [])) w → some_of is_alnum name ≡ true → InvC (w ++ (b ∷ [])) (inner_step tt (scoring c p tt name) b)
  unfolding inner_step InvC Inv
  step_scoring c p name b w x g =
      branch_on (InvC (w ++ (b ∷ []))) (is_sign b)
      (λ e. (
        record {
          sign = some (eqb b dash);
          bytes = [];
          so = (refl, refl);
          labelled = label_same c p ((name ++ (open_round ∷ [])) ++ (b ∷ [])) (name ++ (open_round ∷ (sign_byte (eqb b dash) ∷ []))) (w ++ (b ∷ []))
              (append_assoc name (open_round ∷ []) (b ∷ []) ∙ ap (λ z. name ++ (open_round ∷ (z ∷ []))) (sign_byte_lem b e)) (label_more c p (name ++ (open_round ∷ [])) w b x);
        },
        g,
      ))
      (λ e.
      branch_on (InvC (w ++ (b ∷ []))) (is_digit b)
      (λ f. (
        record {
          sign = none;
          bytes = b ∷ [];
          so = so_first b f;
          labelled = label_same c p ((name ++ (open_round ∷ [])) ++ (b ∷ [])) (name ++ (open_round ∷ (b ∷ []))) (w ++ (b ∷ [])) (append_assoc name (open_round ∷ []) (b ∷ [])) (label_more c p (name ++ (open_round ∷ [])) w b x);
        },
        g,
      ))
      (λ f. tt))

  group_score : (name s d : List ℕ) (b : ℕ) → (name ++ (open_round ∷ (s ++ d))) ++ (b ∷ []) ≡ name ++ (open_round ∷ (s ++ (d ++ (b ∷ []))))
  group_score name s d b = simp append_assoc

  step_score : (c : Context Place) (p : Part Place) (name : List ℕ) (d : Digits) (b : ℕ) (w : List ℕ) → Scoring c p name d w → some_of is_alnum name ≡ true → InvC (w ++ (b ∷ [])) (inner_step tt (in_score c p tt name tt d) b)
  unfolding inner_step InvC Inv
  step_score c p name d b w x g =
      given_on (InvC (w ++ (b ∷ []))) (digit_step d b)
      (λ d' e. (
        record {
          sign = x.sign;
          bytes = x.bytes ++ (b ∷ []);
          so = so_further (is_minus x.sign) d d' b x.bytes x.so e;
          labelled = label_same c p _ (name ++ (open_round ∷ (print_sign x.sign ++ (x.bytes ++ (b ∷ []))))) (w ++ (b ∷ [])) (group_score name (print_sign x.sign) x.bytes b) (label_more c p _ w b x.labelled);
        },
        g,
      ))
      (λ e.
      branch_on (InvC (w ++ (b ∷ []))) (eqb b shut_round)
      (λ f.
      given_on (InvC (w ++ (b ∷ []))) (number_end tt d)
      (λ n h.
      let s = so_ended tt (is_minus x.sign) d n x.bytes x.so h in
      let l = label_more c p _ w b x.labelled in
      subst (λ (z : Option _). Made c (labelled p tt name z) (w ++ (b ∷ []))) (ap some (sym s.means))
      (tag_made c p (record { name = name; score = some (record { sign = x.sign; number = s.numeral }) }) l.front (w ++ (b ∷ [])) l.tagged
      (both (some_of is_alnum name) (good_numeral s.numeral) g s.good)
      (l.all ∙ ap (λ z. l.front ++ (hash ∷ z)) (group_score name (print_sign x.sign) x.bytes b ∙ ap (λ z. name ++ (open_round ∷ (print_sign x.sign ++ (z ++ (b ∷ []))))) s.prints ∙ ap (λ z. name ++ (open_round ∷ (print_sign x.sign ++ (print_numeral s.numeral ++ (z ∷ []))))) (eqb-true b shut_round f)))))
      (λ h. tt))
      (λ f. tt))

  -- ---- what a part says
  behind_more : (c : Context Place) (k : Key) (t w : List ℕ) (b : ℕ) → Behind c k t w → Behind c k (t ++ (b ∷ [])) (w ++ (b ∷ []))
  behind_more c k t w b x =
      record {
        before = x.before;
        lead = x.lead;
        word = x.word;
        folds = x.folds;
        all = ap (λ z. z ++ (b ∷ [])) x.all ∙ append_assoc x.before (with_colon x.word ++ t) (b ∷ []) ∙ ap (λ z. x.before ++ z) (append_assoc (with_colon x.word) t (b ∷ []));
      }

  -- no key in front
  abbrev unworded : (c : Context Place) (before t w : List ℕ) → Lead c before → w ≡ before ++ t → Behind c NoKey t w
  unworded c before t w x e = record { before = before; lead = x; word = []; folds = no_word; all = e }

  weighed : (c : Context Place) (k : Key) (b : ℕ) (w : List ℕ) → is_sign b ≡ true → takes_mass (form k) ≡ true → Behind c k (b ∷ []) w → Weighed c k (signed (eqb b dash)) w
  weighed c k b w e m x =
      record { sign = eqb b dash; bytes = []; so = (refl, refl); behind = subst (λ (z : ℕ). Behind c k (z ∷ []) w) (sign_byte_lem b e) x; takes = m }

  -- a byte that begins a name or goes on with it, and is not plain, lets no key follow
  lead_on : (t : List ℕ) (cs : List ℕ) (b : ℕ) → every is_plain t ≡ true → is_plain b ≡ false → (eqb b colon ≡ true → key_of t ≡ none) → text_step false [] b ≡ some cs → (s : List ℕ) → lead_key [] ((t ++ (b ∷ [])) ++ s) ≡ none
  lead_on t cs b e f g h s =
      ap (lead_key []) (append_assoc t (b ∷ []) s) ∙ lead_over [] t (b ∷ s) (plain_colons t e) ∙ go (eqb b colon) refl
    where
      go : (x : Bool) → eqb b colon ≡ x → lead_key t (b ∷ s) ≡ none
      go true q = ap (λ z. lead_key t (z ∷ s)) (eqb-true b colon q) ∙ lead_colon t s ∙ g q
      go false q = lead_none t s b (opening_letter b (opens b cs f q h)) q

  step_begin : (c : Context Place) (b : ℕ) (w : List ℕ) → Lead c w → InvC (w ++ (b ∷ [])) (inner_step tt (begin c) b)
  unfolding inner_step InvC Inv
  step_begin c b w x =
      branch_on (InvC (w ++ (b ∷ []))) (is_sign b) (λ e. weighed c NoKey b (w ++ (b ∷ [])) e refl (unworded c w (b ∷ []) (w ++ (b ∷ [])) x refl))
      (λ e.
      branch_on (InvC (w ++ (b ∷ []))) (is_plain b) (λ f. record { before = w; lead = x; all = refl; plain = all_one is_plain b f; some = refl; sign = e })
      (λ f.
      given_on (InvC (w ++ (b ∷ []))) (text_step false [] b)
      (λ cs g. (
        unworded c w (b ∷ []) (w ++ (b ∷ [])) x refl,
        text_snoc false [] [] cs b (text_nil false []) g,
        (e, refl, unkeyed (b ∷ []) (lead_on [] cs b (all_nil is_plain) f (λ q. key_none) g)),
      ))
      (λ g.
      branch_on (InvC (w ++ (b ∷ []))) (eqb b hash && c.refers && none? c.parts) (λ h. lonely h) (λ h. tt))))
    where
      empty : (ps : List Piece) → none? (map bare_piece ps) ≡ true → ps ≡ []
      empty [] e = refl
      empty (p ∷ ps) e = absurd (false≢true e)

      lonely : (eqb b hash && c.refers && none? c.parts) ≡ true → Labelled c (unlabelled tt NoKey reference) [] (w ++ (b ∷ []))
      lonely h =
          let z : x.pieces ≡ [] = empty x.pieces (ap none? (sym (parts_is c x.pieces x.is)) ∙ and_right (eqb b hash && c.refers) (none? c.parts) h) in
          let a : r ≡ true = sym (ap (λ v. v.refers) x.is) ∙ and_right (eqb b hash) c.refers (and_left (eqb b hash && c.refers) (none? c.parts) h) in
          record {
            front = w;
            tagged = a_reference a (x.is ∙ ap (λ v. context shut r labels (map bare_piece v)) z) refl (x.all ∙ ap fronts z ∙ fronts_nil);
            all = ap (λ v. w ++ (v ∷ [])) (eqb-true b hash (and_left (eqb b hash) c.refers (and_left (eqb b hash && c.refers) (none? c.parts) h)));
          }

  behind_key_lem : (f : Form) (c : Context Place) (k : Key) (w : List ℕ) → form k ≡ f → (x : Behind c k [] w) → none? x.word ≡ false → Inv w (behind_key c tt k f)
  unfolding Inv
  behind_key_lem mass_or_name c k w e x n = (x, n, ap takes_mass e)
  behind_key_lem mass_only c k w e x n = (x, n, ap takes_mass e)
  behind_key_lem digits c k w e x n = (x, all_nil (accession_byte (form k)))
  behind_key_lem alnums c k w e x n = (x, all_nil (accession_byte (form k)))
  behind_key_lem free c k w e x n = (x, text_nil (hash_is_plain (form k)) [], subst (λ (z : Form). Begun z x.word []) (sym e) tt)
  behind_key_lem composed c k w e x n = (x, text_nil (hash_is_plain (form k)) [], subst (λ (z : Form). Begun z x.word []) (sym e) tt)

  -- a name that ends
  named : (c : Context Place) (k : Key) (t w : List ℕ) (x : Behind c k t w) → text_run (hash_is_plain (form k)) [] t ≡ some [] → none? t ≡ false → Ended (form k) x.word t → Based c (unlabelled tt k (text t)) w
  named c k t w x e n g =
      let u = whole_text (hash_is_plain (form k)) t e in
      record {
        before = x.before;
        lead = x.lead;
        base = wording (record { key = k; spelled = x.word }) u.tree;
        good =
            both (same_folded (spell k) x.word) (not (none? (print_text u.tree)) && good_wording (form k) x.word u.tree) x.folds
            (both (not (none? (print_text u.tree))) (good_wording (form k) x.word u.tree) (ap (λ z. not (none? z)) (sym u.prints) ∙ ap not n) (text_good (form k) x.word t u.tree g u.good u.prints));
        is = ap (λ z. unlabelled tt k (text z)) u.prints;
        all = x.all ∙ ap (λ z. x.before ++ (with_colon x.word ++ z)) u.prints;
      }

  step_plain : (c : Context Place) (t : List ℕ) (b : ℕ) (w : List ℕ) → PlainText c t w → InvC (w ++ (b ∷ [])) (inner_step tt (plain c tt t) b)
  unfolding inner_step InvC Inv colon_after named
  step_plain c t b w x =
      branch_on (InvC (w ++ (b ∷ []))) (is_plain b)
      (λ e. record { before = x.before; lead = x.lead; all = more; plain = all_snoc is_plain t b x.plain e; some = not_none t b; sign = sign_snoc t b x.some x.sign })
      (λ e.
      branch_on (λ z. InvC (w ++ (b ∷ [])) z) (eqb b colon)
      (λ f.
      given_on (λ z. InvC (w ++ (b ∷ [])) (going z)) (key_of t)
      (λ k g.
      behind_key_lem (form k) c k (w ++ (b ∷ [])) refl
      (record {
        before = x.before;
        lead = x.lead;
        word = t;
        folds = key_word t k g;
        all = more ∙ ap (λ z. x.before ++ (t ++ (z ∷ []))) (eqb-true b colon f) ∙ ap (λ z. x.before ++ z) (sym (colon_word t x.some) ∙ sym (append-nil (with_colon t)));
      })
      x.some)
      (λ g. (
        unworded c x.before (t ++ (colon ∷ [])) (w ++ (b ∷ [])) x.lead (more ∙ ap (λ z. x.before ++ (t ++ (z ∷ []))) (eqb-true b colon f)),
        text_snoc false t [] [] colon (plain_text_lem t x.plain) text_colon,
        (sign_snoc t colon x.some x.sign, not_none t colon, unkeyed (t ++ (colon ∷ [])) (lead_on t [] colon x.plain refl (λ q. g) text_colon)),
      )))
      (λ f.
      given_on (InvC (w ++ (b ∷ []))) (text_step false [] b)
      (λ cs g. (
        unworded c x.before (t ++ (b ∷ [])) (w ++ (b ∷ [])) x.lead more,
        text_snoc false t [] cs b (plain_text_lem t x.plain) g,
        (sign_snoc t b x.some x.sign, not_none t b, unkeyed (t ++ (b ∷ [])) (lead_on t cs b x.plain e (λ q. absurd (false≢true (sym f ∙ q))) g)),
      ))
      (λ g. value_end_lem c (unlabelled tt NoKey (text t)) b w
      (named c NoKey t w (unworded c x.before t w x.lead x.all) (plain_text_lem t x.plain) x.some (x.sign, ap (λ o. not (there? o)) plainly)) (λ h. refl))))
    where
      more : w ++ (b ∷ []) ≡ x.before ++ (t ++ (b ∷ []))
      more = ap (λ z. z ++ (b ∷ [])) x.all ∙ append_assoc x.before t (b ∷ [])

      plainly : lead_key [] t ≡ none
      plainly = ap (lead_key []) (sym (append-nil t)) ∙ lead_over [] t [] (plain_colons t x.plain) ∙ lead_end t

  step_keyed : (c : Context Place) (k : Key) (b : ℕ) (w : List ℕ) (x : Behind c k [] w) → none? x.word ≡ false → takes_mass (form k) ≡ true → InvC (w ++ (b ∷ [])) (inner_step tt (keyed c tt k) b)
  unfolding inner_step InvC Inv behind_more
  step_keyed c k b w x n m =
      branch_on (InvC (w ++ (b ∷ []))) (is_sign b) (λ e. weighed c k b (w ++ (b ∷ [])) e m (behind_more c k [] w b x)) (λ e. go (form k) refl e)
    where
      go : (f : Form) → form k ≡ f → is_sign b ≡ false → InvC (w ++ (b ∷ [])) (name_behind c tt k f b)
      go mass_or_name q e =
          given_on (InvC (w ++ (b ∷ []))) (text_step false [] b)
          (λ cs g. (
            behind_more c k [] w b x,
            ap (λ z. text_run (hash_is_plain z) [] (b ∷ [])) q ∙ text_snoc false [] [] cs b (text_nil false []) g,
            subst (λ (z : Form). Begun z x.word (b ∷ [])) (sym q) (e, refl, worded x.word (b ∷ []) n),
          ))
          (λ g. tt)
      go mass_only q e = tt
      go digits q e = tt
      go alnums q e = tt
      go free q e = tt
      go composed q e = tt

  step_number : (c : Context Place) (k : Key) (d : Digits) (b : ℕ) (w : List ℕ) → Weighed c k d w → InvC (w ++ (b ∷ [])) (inner_step tt (in_number c tt k tt d) b)
  unfolding inner_step InvC Inv
  step_number c k d b w x =
      given_on (InvC (w ++ (b ∷ []))) (digit_step d b)
      (λ d' e. record { sign = x.sign; bytes = x.bytes ++ (b ∷ []); so = so_further x.sign d d' b x.bytes x.so e; behind = behind_more c k (sign_byte x.sign ∷ x.bytes) w b x.behind; takes = x.takes })
      (λ e.
      given_on (InvC (w ++ (b ∷ []))) (number_end tt d)
      (λ n h. value_end_lem c (unlabelled tt k (mass n)) b w (based n (so_ended tt x.sign d n x.bytes x.so h)) (λ q. mass_tag (form k) x.takes))
      (λ h. tt))
    where
      based : (n : Number Place) → NumberSpelt tt x.sign n x.bytes → Based c (unlabelled tt k (mass n)) w
      based n s =
          record {
            before = x.behind.before;
            lead = x.behind.lead;
            base = delta (record { key = k; spelled = x.behind.word }) x.sign s.numeral;
            good = both (same_folded (spell k) x.behind.word) (takes_mass (form k) && good_numeral s.numeral) x.behind.folds (both (takes_mass (form k)) (good_numeral s.numeral) x.takes s.good);
            is = ap (λ z. unlabelled tt k (mass z)) s.means;
            all = x.behind.all ∙ ap (λ z. x.behind.before ++ (with_colon x.behind.word ++ (sign_byte x.sign ∷ z))) s.prints;
          }

  step_code : (c : Context Place) (k : Key) (t : List ℕ) (b : ℕ) (w : List ℕ) → Behind c k t w → every (accession_byte (form k)) t ≡ true → InvC (w ++ (b ∷ [])) (inner_step tt (in_code c tt k t) b)
  unfolding inner_step InvC Inv text_end every
  step_code c k t b w x g =
      branch_on (InvC (w ++ (b ∷ []))) (accession_byte (form k) b) (λ e. (behind_more c k t w b x, all_snoc (accession_byte (form k)) t b g e)) (λ e. go t x g)
    where
      go : (t : List ℕ) → Behind c k t w → every (accession_byte (form k)) t ≡ true → InvC (w ++ (b ∷ [])) (text_end c tt k t [] b)
      go [] x g = tt
      go (y ∷ t) x g =
          value_end_lem c (unlabelled tt k (text (y ∷ t))) b w
          (record {
            before = x.before;
            lead = x.lead;
            base = code (record { key = k; spelled = x.word }) (y ∷ t);
            good = both (same_folded (spell k) x.word) (every (accession_byte (form k)) (y ∷ t)) x.folds g;
            is = refl;
            all = x.all;
          })
          (λ q. code_tag (form k) y (and_left (accession_byte (form k) y) (every (accession_byte (form k)) t) g))

  step_text : (c : Context Place) (k : Key) (t cs : List ℕ) (b : ℕ) (w : List ℕ) (x : Behind c k t w) → text_run (hash_is_plain (form k)) [] t ≡ some cs → Begun (form k) x.word t → InvC (w ++ (b ∷ [])) (inner_step tt (in_text c tt k t cs) b)
  unfolding inner_step InvC Inv text_end named behind_more
  step_text c k t cs b w x e g =
      given_on (InvC (w ++ (b ∷ []))) (text_step (hash_is_plain (form k)) cs b)
      (λ ds f. (behind_more c k t w b x, text_snoc (hash_is_plain (form k)) t cs ds b e f, begun_more (form k) x.word t b g))
      (λ f. go t cs x e g f)
    where
      go : (t cs : List ℕ) (x : Behind c k t w) → text_run (hash_is_plain (form k)) [] t ≡ some cs → Begun (form k) x.word t → text_step (hash_is_plain (form k)) cs b ≡ none → InvC (w ++ (b ∷ [])) (text_end c tt k t cs b)
      go [] cs x e g f = tt
      go (y ∷ t) [] x e g f =
          value_end_lem c (unlabelled tt k (text (y ∷ t))) b w (named c k (y ∷ t) w x e refl (begun_ended (form k) x.word (y ∷ t) g)) (text_tag (form k) x.word (y ∷ t) b g f)
      go (y ∷ t) (o ∷ cs) x e g f = tt

  step_scored : (c : Context Place) (p : Part Place) (b : ℕ) (w : List ℕ) → Made c p w → InvC (w ++ (b ∷ [])) (inner_step tt (scored c p) b)
  unfolding inner_step
  step_scored c p b w m = part_end_lem c p b w m

  -- ---- all states
  pub inner_step_lem : (s : Inner Place) (b : ℕ) (w : List ℕ) → Inv w s → InvC (w ++ (b ∷ [])) (inner_step tt s b)
  unfolding Inv
  inner_step_lem (begin c) b w x = step_begin c b w x
  inner_step_lem (plain c at t) b w x = step_plain c t b w x
  inner_step_lem (keyed c at k) b w x = step_keyed c k b w x.0 x.1 x.2
  inner_step_lem (in_number c at k p d) b w x = step_number c k d b w x
  inner_step_lem (in_code c at k t) b w x = step_code c k t b w x.0 x.1
  inner_step_lem (in_text c at k t cs) b w x = step_text c k t cs b w x.0 x.1 x.2
  inner_step_lem (hashed c p) b w x = step_hashed c p b w x
  inner_step_lem (in_label c p at name) b w x = step_label c p name b w x.0 x.1
  inner_step_lem (scoring c p at name) b w x = step_scoring c p name b w x.0 x.1
  inner_step_lem (in_score c p at name q d) b w x = step_score c p name d b w x.0 x.1
  inner_step_lem (scored c p) b w x = step_scored c p b w x

  pub inner_start : Inv [] (begin (context shut r labels []))
  unfolding Inv
  inner_start = record { pieces = []; good = tt; is = refl; all = sym fronts_nil }

  content_step_lem : (x : Content Place) (b : ℕ) (w : List ℕ) → InvC w x → InvC (w ++ (b ∷ [])) (content_step x b)
  unfolding content_step InvC
  content_step_lem lost b w i = tt
  content_step_lem (closed ps) b w i = tt
  content_step_lem (going s) b w i = inner_step_lem s b w i

  content_inv : (l w : List ℕ) (x : Content Place) → InvC w x → InvC (w ++ l) (content_run x l)
  unfolding content_run
  content_inv [] w x i = subst (λ (z : List ℕ). InvC z x) (sym (append-nil w)) i
  content_inv (b ∷ l) w x i = subst (λ (z : List ℕ). InvC z (content_run (content_step x b) l)) (append_assoc w (b ∷ []) l) (content_inv l (w ++ (b ∷ [])) (content_step x b) (content_step_lem x b w i))

  -- a bracket that is closed is what a good tree prints and means
  pub closed_spelled : (l : List ℕ) (ps : Parts) → content_run (going (begin (context shut r labels []))) l ≡ closed ps → ClosedParts ps l
  unfolding InvC
  closed_spelled l ps e = subst (λ (z : Content Place). InvC l z) e (content_inv l [] (going (begin (context shut r labels []))) inner_start)
