-- From trees to the reader: the bytes that the inside of a good bracket prints are read to what it means.
use Prim.Native.Nat.{ℕ, suc, ◌+◌, ◌≤◌}
use native.Mathlib.Omega.{arith}
use Rattle.std.specs.Prelude.{◌≡◌, Bool, not, ◌&&◌, ◌||◌, eqb, leb}
use Rattle.std.proofs.Math.Path.{refl, sym, ap}
use Rattle.std.proofs.Common.{◌∙◌, subst, add-zero, length-append, eqb-true, eq-eqb, ne_eqb, leb-true, le-leb}
use Rattle.std.proofs.Math.Bool.{true, false, true≢false, false≢true}
use Rattle.std.proofs.Math.Option.{Option, none, some, some-injective, none-ne-some}
use mathlib.Core.List.{List, [], ◌∷◌, ◌++◌, append_assoc, append-nil}
use Rattle.std.proofs.Math.ListN.{length}
use Rattle.std.proofs.lemmas.Bool.{not-true}
use Rattle.scope.specs.declared.grammar.Key.{Key}
use Rattle.scope.specs.declared.grammar.Key.TheVariants.{NoKey}
use Rattle.scope.specs.Bytes.{is_printable, is_upper, is_lower, is_letter, is_digit, is_alnum, is_sign, is_opening, is_shutting, shut_square, shut_curly, bar, hash, colon, plus, dash, dot, open_round, shut_round, same_folded, value}
use Rattle.scope.specs.Line.{mass, text, reference, Part}
use Rattle.scope.specs.Keys.{spell, key_of, Form, mass_or_name, mass_only, digits, alnums, free, composed, form, hash_is_plain, accession_byte}
use Rattle.scope.specs.Lists.{given, none?, all as every, there?}
use Rattle.scope.specs.Content.{Digits, signed, whole, digit_step, number_end, is_plain, text_step, Context, Inner, begin, plain, keyed, in_number, in_code, in_text, hashed, in_label, scoring, in_score, scored, Content, closed, going, with, unlabelled, labelled, is_reference, part_end, value_end, text_end, behind_key, colon_after, name_behind, inner_step}
use Rattle.basics.specs.Choice.{pick_true, pick_false, pick_some, pick_none}
use Rattle.reading_laws.proofs.Unnoted.{digit_run, digits_cons}
use Rattle.basics.specs.Tests.{and_left, and_right, or_second}
use Rattle.scope.specs.Grammar.{some_of, Numeral, print_numeral, good_numeral, good_behind, print_behind, means_numeral, sign_byte, Text, print_text, good_text, outer_byte, good_word, with_colon, lead_key, first_sign, keyless, Base, delta, code, wording, print_base, takes_mass, good_wording, good_base, key_in, value_in, Score, print_sign, is_minus, print_score, good_score, means_score, Tag, print_tag, good_tag, means_tag, Piece, print_piece, form_in, tag_fits, good_piece, means_piece, print_pieces, good_pieces, means_pieces, Inside, parts, refers, print_inside, good_inside, means_inside}
use Rattle.grammar_laws.specs.Runs.{context, noted_step, noted_run, content_one, then, onward}
use Rattle.grammar_laws.proofs.Numerals.{read_as, numeral_run, numeral_end, numeral_stops}
use Rattle.grammar_laws.specs.Texts.{text_run, outer, outer_run, plain_stays}
use Rattle.grammar_laws.proofs.Words.{word_key, word_none, key_letters, no_key}

-- ---- the bytes that end a part, and those that end what it says
abbrev pub closes : ℕ → Bool
closes b = eqb b bar || eqb b shut_square || eqb b shut_curly

abbrev pub stops : ℕ → Bool
stops b = eqb b hash || closes b

by_closes : (Q : ℕ → Type 0) → Q bar → Q shut_square → Q shut_curly → (b : ℕ) → closes b ≡ true → Q b
by_closes Q x y z b e = go (eqb b bar) (eqb b shut_square) (eqb b shut_curly) refl refl refl e
  where
    go : (p q r : Bool) → eqb b bar ≡ p → eqb b shut_square ≡ q → eqb b shut_curly ≡ r → (p || q || r) ≡ true → Q b
    go true q r f g h w = subst Q (sym (eqb-true b bar f)) x
    go false true r f g h w = subst Q (sym (eqb-true b shut_square g)) y
    go false false true f g h w = subst Q (sym (eqb-true b shut_curly h)) z
    go false false false f g h w = absurd (false≢true w)

by_stops : (Q : ℕ → Type 0) → Q hash → Q bar → Q shut_square → Q shut_curly → (b : ℕ) → stops b ≡ true → Q b
by_stops Q v x y z b e = go (eqb b hash) refl e
  where
    go : (p : Bool) → eqb b hash ≡ p → (p || closes b) ≡ true → Q b
    go true f w = subst Q (sym (eqb-true b hash f)) v
    go false f w = by_closes Q x y z b w

pub record Stop (b : ℕ) : Type 0 where
  pub digit : is_digit b ≡ false
  pub alnum : is_alnum b ≡ false
  pub point : eqb b dot ≡ false
  pub round : eqb b open_round ≡ false
  pub plain : is_plain b ≡ false
  pub colon? : eqb b colon ≡ false
  pub text : text_step false [] b ≡ none

stop : (b : ℕ) → stops b ≡ true → Stop b
unfolding text_step
stop b e =
    by_stops Stop (record { digit = refl; alnum = refl; point = refl; round = refl; plain = refl; colon? = refl; text = refl })
    (record { digit = refl; alnum = refl; point = refl; round = refl; plain = refl; colon? = refl; text = refl })
    (record { digit = refl; alnum = refl; point = refl; round = refl; plain = refl; colon? = refl; text = refl })
    (record { digit = refl; alnum = refl; point = refl; round = refl; plain = refl; colon? = refl; text = refl })
    b e

close : (b : ℕ) → closes b ≡ true → stops b ≡ true
close b e = or_second (eqb b hash) (closes b) e

close_text : (b : ℕ) → closes b ≡ true → text_step true [] b ≡ none
unfolding text_step
close_text b e = by_closes (λ z. text_step true [] z ≡ none) refl refl refl b e

close_hash : (b : ℕ) → closes b ≡ true → eqb b hash ≡ false
close_hash b e = by_closes (λ z. eqb z hash ≡ false) refl refl refl b e

-- ---- letters are plain
pub record Letter (b : ℕ) : Type 0 where
  pub plain : is_plain b ≡ true
  pub sign : is_sign b ≡ false

lettered : (b : ℕ) → is_letter b ≡ true → Letter b
lettered b e = go (is_upper b) refl e
  where
    off : (n : ℕ) → (b ≡ n → ⊥) → eqb b n ≡ false
    off n f = ne_eqb b n f

    made : 65 ≤ b → b ≤ 122 → (b ≡ 91 → ⊥) → (b ≡ 93 → ⊥) → Letter b
    made p q r s =
        record {
          plain = rw (le-leb 32 b (omega arith), le-leb b 126 (omega arith), off 91 r, off 123 (λ z. omega arith), off 93 s, off 125 (λ z. omega arith), off 124 (λ z. omega arith), off 35 (λ z. omega arith), off 58 (λ z. omega arith));
          sign = rw (off 43 (λ z. omega arith), off 45 (λ z. omega arith));
        }

    go : (u : Bool) → is_upper b ≡ u → (u || is_lower b) ≡ true → Letter b
    go true f w =
        let x = leb-true 65 b (and_left (leb 65 b) (leb b 90) f) in
        let y = leb-true b 90 (and_right (leb 65 b) (leb b 90) f) in
        made (omega arith) (omega arith) (λ z. omega arith) (λ z. omega arith)
    go false f w =
        let x = leb-true 97 b (and_left (leb 97 b) (leb b 122) w) in
        let y = leb-true b 122 (and_right (leb 97 b) (leb b 122) w) in
        made (omega arith) (omega arith) (λ z. omega arith) (λ z. omega arith)

colon_stays : (b : ℕ) → eqb b colon ≡ true → text_step false [] b ≡ some []
unfolding text_step
colon_stays b q = pick_true (outer false b) _ _ (ap (λ z. is_plain b || z || false) q ∙ last (is_plain b))
  where
    last : (z : Bool) → (z || true || false) ≡ true
    last true = refl
    last false = refl

plain_colon : (b : ℕ) → is_plain b ≡ true → eqb b colon ≡ false
plain_colon b e = not-true (eqb b colon) (and_right (is_printable b && not (is_opening b) && not (is_shutting b) && not (eqb b bar) && not (eqb b hash)) (not (eqb b colon)) e)

-- behind one byte more
snoc_place : (i : ℕ) (l : List ℕ) (b : ℕ) → i + length (l ++ (b ∷ [])) ≡ i + length l + 1
snoc_place i l b = let e : length (l ++ (b ∷ [])) ≡ length l + 1 = length-append l (b ∷ []) in omega (arith, e)

-- ---- runs within a state: i is the place of the first byte, the others are noted already
module _ (c : Context ℕ) where
  in_number_lem : (i at n : ℕ) (k : Key) (l : List ℕ) (d d' : Digits) → digit_run d l ≡ some d' → noted_run i (going (in_number c at k n d)) l ≡ going (in_number c at k n d')
  unfolding noted_run noted_step digit_run inner_step
  in_number_lem i at n k [] d d' e = ap (λ z. going (in_number c at k n z)) (some-injective d d' e)
  in_number_lem i at n k (b ∷ l) d d' e = go (digit_step d b) refl (λ m h. in_number_lem (i + 1) at n k l m d' h) e
    where
      go : (o : Option Digits) → digit_step d b ≡ o → ((m : Digits) → digit_run m l ≡ some d' → noted_run (i + 1) (going (in_number c at k n m)) l ≡ going (in_number c at k n d'))
          → given o (λ m. digit_run m l) none ≡ some d' → noted_run (i + 1) (inner_step i (in_number c at k n d) b) l ≡ going (in_number c at k n d')
      go none f ih e = absurd (none-ne-some d' e)
      go (some m) f ih e = ap (λ z. noted_run (i + 1) z l) (rw (f, inner_step)) ∙ ih m e

  in_score_lem : (i at n : ℕ) (p : Part ℕ) (name : List ℕ) (l : List ℕ) (d d' : Digits) → digit_run d l ≡ some d' → noted_run i (going (in_score c p at name n d)) l ≡ going (in_score c p at name n d')
  unfolding noted_run noted_step digit_run inner_step
  in_score_lem i at n p name [] d d' e = ap (λ z. going (in_score c p at name n z)) (some-injective d d' e)
  in_score_lem i at n p name (b ∷ l) d d' e = go (digit_step d b) refl (λ m h. in_score_lem (i + 1) at n p name l m d' h) e
    where
      go : (o : Option Digits) → digit_step d b ≡ o → ((m : Digits) → digit_run m l ≡ some d' → noted_run (i + 1) (going (in_score c p at name n m)) l ≡ going (in_score c p at name n d'))
          → given o (λ m. digit_run m l) none ≡ some d' → noted_run (i + 1) (inner_step i (in_score c p at name n d) b) l ≡ going (in_score c p at name n d')
      go none f ih e = absurd (none-ne-some d' e)
      go (some m) f ih e = ap (λ z. noted_run (i + 1) z l) (rw (f, inner_step)) ∙ ih m e

  in_text_lem : (i at : ℕ) (k : Key) (t l cs cs' : List ℕ) → text_run (hash_is_plain (form k)) cs l ≡ some cs' → noted_run i (going (in_text c at k t cs)) l ≡ going (in_text c at k (t ++ l) cs')
  unfolding noted_run noted_step text_run inner_step
  in_text_lem i at k t [] cs cs' e = ap (λ z. going (in_text c at k z cs)) (sym (append-nil t)) ∙ ap (λ z. going (in_text c at k (t ++ []) z)) (some-injective cs cs' e)
  in_text_lem i at k t (b ∷ l) cs cs' e = go (text_step (hash_is_plain (form k)) cs b) refl (λ m h. in_text_lem (i + 1) at k (t ++ (b ∷ [])) l m cs' h) e
    where
      go : (o : Option (List ℕ)) → text_step (hash_is_plain (form k)) cs b ≡ o
          → ((m : List ℕ) → text_run (hash_is_plain (form k)) m l ≡ some cs' → noted_run (i + 1) (going (in_text c at k (t ++ (b ∷ [])) m)) l ≡ going (in_text c at k ((t ++ (b ∷ [])) ++ l) cs'))
          → given o (λ m. text_run (hash_is_plain (form k)) m l) none ≡ some cs' → noted_run (i + 1) (inner_step i (in_text c at k t cs) b) l ≡ going (in_text c at k (t ++ (b ∷ l)) cs')
      go none f ih e = absurd (none-ne-some cs' e)
      go (some m) f ih e = ap (λ z. noted_run (i + 1) z l) (rw (f, inner_step)) ∙ ih m e ∙ ap (λ z. going (in_text c at k z cs')) (append_assoc t (b ∷ []) l)

  in_code_lem : (i at : ℕ) (k : Key) (t l : List ℕ) → every (accession_byte (form k)) l ≡ true → noted_run i (going (in_code c at k t)) l ≡ going (in_code c at k (t ++ l))
  unfolding noted_run noted_step every inner_step
  in_code_lem i at k t [] e = ap (λ z. going (in_code c at k z)) (sym (append-nil t))
  in_code_lem i at k t (b ∷ l) e =
      ap (λ z. noted_run (i + 1) z l) (pick_true (accession_byte (form k) b) _ _ (and_left (accession_byte (form k) b) (every (accession_byte (form k)) l) e))
      ∙ in_code_lem (i + 1) at k (t ++ (b ∷ [])) l (and_right (accession_byte (form k) b) (every (accession_byte (form k)) l) e)
      ∙ ap (λ z. going (in_code c at k z)) (append_assoc t (b ∷ []) l)

  in_word : (i at : ℕ) (t l : List ℕ) → every is_letter l ≡ true → noted_run i (going (plain c at t)) l ≡ going (plain c at (t ++ l))
  unfolding noted_run noted_step every inner_step
  in_word i at t [] e = ap (λ z. going (plain c at z)) (sym (append-nil t))
  in_word i at t (b ∷ l) e =
      ap (λ z. noted_run (i + 1) z l) (pick_true (is_plain b) _ _ (lettered b (and_left (is_letter b) (every is_letter l) e)).plain)
      ∙ in_word (i + 1) at (t ++ (b ∷ [])) l (and_right (is_letter b) (every is_letter l) e)
      ∙ ap (λ z. going (plain c at z)) (append_assoc t (b ∷ []) l)

  in_label_lem : (i at : ℕ) (p : Part ℕ) (t l : List ℕ) → every is_alnum l ≡ true → noted_run i (going (in_label c p at t)) l ≡ going (in_label c p at (t ++ l))
  unfolding noted_run noted_step every inner_step
  in_label_lem i at p t [] e = ap (λ z. going (in_label c p at z)) (sym (append-nil t))
  in_label_lem i at p t (b ∷ l) e =
      ap (λ z. noted_run (i + 1) z l) (pick_true (is_alnum b) _ _ (and_left (is_alnum b) (every is_alnum l) e))
      ∙ in_label_lem (i + 1) at p (t ++ (b ∷ [])) l (and_right (is_alnum b) (every is_alnum l) e)
      ∙ ap (λ z. going (in_label c p at z)) (append_assoc t (b ∷ []) l)

  -- ---- the end of what a part says
  number_end_lem : (i at j : ℕ) (k : Key) (s : Bool) (n : Numeral) (e : ℕ) → Stop e → inner_step i (in_number c at k j (read_as s n)) e ≡ value_end c (unlabelled at k (mass (means_numeral j s n))) e
  unfolding inner_step
  number_end_lem i at j k s n e h =
      pick_none (digit_step (read_as s n) e) _ _ (numeral_stops s n e h.digit h.point) ∙ pick_some (number_end j (read_as s n)) _ _ (means_numeral j s n) (numeral_end j s n)

  text_end_lem : (at : ℕ) (k : Key) (t : List ℕ) (e : ℕ) → none? t ≡ false → text_end c at k t [] e ≡ value_end c (unlabelled at k (text t)) e
  unfolding text_end
  text_end_lem at k [] e f = absurd (true≢false f)
  text_end_lem at k (x ∷ t) e f = refl

  code_byte : (f : Form) (e : ℕ) → Stop e → accession_byte f e ≡ false
  code_byte mass_or_name e h = refl
  code_byte mass_only e h = refl
  code_byte digits e h = h.digit
  code_byte alnums e h = h.alnum
  code_byte free e h = refl
  code_byte composed e h = refl

  code_end : (i at : ℕ) (k : Key) (t : List ℕ) (e : ℕ) → Stop e → none? t ≡ false → inner_step i (in_code c at k t) e ≡ value_end c (unlabelled at k (text t)) e
  unfolding inner_step
  code_end i at k t e h f = pick_false (accession_byte (form k) e) _ _ (code_byte (form k) e h) ∙ text_end_lem at k t e f

  in_text_end : (i at : ℕ) (k : Key) (t r cs : List ℕ) (e : ℕ) → text_run (hash_is_plain (form k)) cs r ≡ some [] → none? (t ++ r) ≡ false → text_step (hash_is_plain (form k)) [] e ≡ none
      → noted_run i (going (in_text c at k t cs)) (r ++ (e ∷ [])) ≡ value_end c (unlabelled at k (text (t ++ r))) e
  unfolding inner_step
  in_text_end i at k t r cs e f g h =
      onward i (in_text c at k t cs) (in_text c at k (t ++ r) []) r (e ∷ []) _ (in_text_lem i at k t r cs [] f)
      (content_one (i + length r) (in_text c at k (t ++ r) []) e ∙ pick_none (text_step (hash_is_plain (form k)) [] e) _ _ h ∙ text_end_lem at k (t ++ r) e g)

  -- ---- a name without prefix
  colon_after_lem : (at : ℕ) (t : List ℕ) → key_of t ≡ none → colon_after c at t ≡ in_text c at NoKey (t ++ (colon ∷ [])) []
  unfolding colon_after
  colon_after_lem at t e = pick_none (key_of t) _ _ e

  colon_key : (at : ℕ) (t : List ℕ) (k : Key) → key_of t ≡ some k → colon_after c at t ≡ behind_key c at k (form k)
  unfolding colon_after
  colon_key at t k e = pick_some (key_of t) _ _ k e

  not_empty : (t r : List ℕ) (b : ℕ) → none? ((t ++ (b ∷ [])) ++ r) ≡ false
  not_empty [] r b = refl
  not_empty (x ∷ t) r b = refl

  plain_run : (i at : ℕ) (r t : List ℕ) (e : ℕ) → Stop e → text_run false [] r ≡ some [] → lead_key t r ≡ none
      → noted_run i (going (plain c at t)) (r ++ (e ∷ [])) ≡ value_end c (unlabelled at NoKey (text (t ++ r))) e
  unfolding inner_step text_run lead_key
  plain_run i at [] t e h f g =
      content_one i (plain c at t) e
      ∙ pick_false (is_plain e) _ _ h.plain
      ∙ pick_false (eqb e colon) _ _ h.colon?
      ∙ pick_none (text_step false [] e) _ _ h.text
      ∙ ap (λ z. value_end c (unlabelled at NoKey (text z)) e) (sym (append-nil t))
  plain_run i at (b ∷ r) t e h f g = go (is_plain b) (eqb b colon) (text_step false [] b) refl refl refl (plain_run (i + 1) at r (t ++ (b ∷ [])) e h)
    where
      regroup : value_end c (unlabelled at NoKey (text ((t ++ (b ∷ [])) ++ r))) e ≡ value_end c (unlabelled at NoKey (text (t ++ (b ∷ r)))) e
      regroup = ap (λ z. value_end c (unlabelled at NoKey (text z)) e) (append_assoc t (b ∷ []) r)

      after : (cs : List ℕ) → text_step false [] b ≡ some cs → text_run false cs r ≡ some []
      after cs q = sym (pick_some (text_step false [] b) (λ z. text_run false z r) none cs q) ∙ f

      go : (p q : Bool) (o : Option (List ℕ)) → is_plain b ≡ p → eqb b colon ≡ q → text_step false [] b ≡ o
          → (text_run false [] r ≡ some [] → lead_key (t ++ (b ∷ [])) r ≡ none → noted_run (i + 1) (going (plain c at (t ++ (b ∷ [])))) (r ++ (e ∷ [])) ≡ value_end c (unlabelled at NoKey (text ((t ++ (b ∷ [])) ++ r))) e)
          → noted_run i (going (plain c at t)) (b ∷ (r ++ (e ∷ []))) ≡ value_end c (unlabelled at NoKey (text (t ++ (b ∷ r)))) e
      go true q o x y z ih =
          then i (plain c at t) (plain c at (t ++ (b ∷ []))) b (r ++ (e ∷ [])) _ (pick_true (is_plain b) _ _ x)
          (ih (after [] (plain_stays b x)) (sym (pick_false (eqb b colon) (key_of t) (lead_key (t ++ (b ∷ [])) r) (plain_colon b x)) ∙ g) ∙ regroup)
      go false true o x y z ih =
          then i (plain c at t) (in_text c at NoKey (t ++ (b ∷ [])) []) b (r ++ (e ∷ [])) _
          (pick_false (is_plain b) _ _ x ∙ pick_true (eqb b colon) _ _ y ∙ ap going (colon_after_lem at t (sym (pick_true (eqb b colon) (key_of t) (lead_key (t ++ (b ∷ [])) r) y) ∙ g)) ∙ ap (λ v. going (in_text c at NoKey (t ++ (v ∷ [])) [])) (sym (eqb-true b colon y)))
          (in_text_end (i + 1) at NoKey (t ++ (b ∷ [])) r [] e (after [] (colon_stays b y)) (not_empty t r b) h.text ∙ regroup)
      go false false (some cs) x y z ih =
          then i (plain c at t) (in_text c at NoKey (t ++ (b ∷ [])) cs) b (r ++ (e ∷ [])) _
          (pick_false (is_plain b) _ _ x ∙ pick_false (eqb b colon) _ _ y ∙ pick_some (text_step false [] b) _ _ cs z)
          (in_text_end (i + 1) at NoKey (t ++ (b ∷ [])) r cs e (after cs z) (not_empty t r b) h.text ∙ regroup)
      go false false none x y z ih = absurd (none-ne-some [] (sym (pick_none (text_step false [] b) (λ v. text_run false v r) none z) ∙ f))

  -- a name that begins no key, from the begin of its part
  name_run : (i : ℕ) (r : List ℕ) (e : ℕ) → Stop e → text_run false [] r ≡ some [] → none? r ≡ false → first_sign r ≡ false → lead_key [] r ≡ none
      → noted_run i (going (begin c)) (r ++ (e ∷ [])) ≡ value_end c (unlabelled i NoKey (text r)) e
  unfolding inner_step text_run lead_key
  name_run i [] e h f n s g = absurd (true≢false n)
  name_run i (b ∷ r) e h f n s g = go (is_plain b) (text_step false [] b) refl refl
    where
      after : (cs : List ℕ) → text_step false [] b ≡ some cs → text_run false cs r ≡ some []
      after cs q = sym (pick_some (text_step false [] b) (λ z. text_run false z r) none cs q) ∙ f

      go : (p : Bool) (o : Option (List ℕ)) → is_plain b ≡ p → text_step false [] b ≡ o → noted_run i (going (begin c)) (b ∷ (r ++ (e ∷ []))) ≡ value_end c (unlabelled i NoKey (text (b ∷ r))) e
      go true o x z =
          then i (begin c) (plain c i (b ∷ [])) b (r ++ (e ∷ [])) _ (pick_false (is_sign b) _ _ s ∙ pick_true (is_plain b) _ _ x)
          (plain_run (i + 1) i r (b ∷ []) e h (after [] (plain_stays b x)) (sym (pick_false (eqb b colon) (key_of []) (lead_key (b ∷ []) r) (plain_colon b x)) ∙ g))
      go false (some cs) x z =
          then i (begin c) (in_text c i NoKey (b ∷ []) cs) b (r ++ (e ∷ [])) _
          (pick_false (is_sign b) _ _ s ∙ pick_false (is_plain b) _ _ x ∙ pick_some (text_step false [] b) _ _ cs z)
          (in_text_end (i + 1) i NoKey (b ∷ []) r cs e (after cs z) refl h.text)
      go false none x z = absurd (none-ne-some [] (sym (pick_none (text_step false [] b) (λ v. text_run false v r) none z) ∙ f))

  -- a name behind a prefix
  prefixed_run : (i at : ℕ) (k : Key) (r : List ℕ) (e : ℕ) → form k ≡ mass_or_name → Stop e → text_run false [] r ≡ some [] → none? r ≡ false → first_sign r ≡ false
      → noted_run i (going (keyed c at k)) (r ++ (e ∷ [])) ≡ value_end c (unlabelled at k (text r)) e
  unfolding inner_step text_run
  prefixed_run i at k [] e m h f n s = absurd (true≢false n)
  prefixed_run i at k (b ∷ r) e m h f n s = go (text_step false [] b) refl
    where
      go : (o : Option (List ℕ)) → text_step false [] b ≡ o → noted_run i (going (keyed c at k)) (b ∷ (r ++ (e ∷ []))) ≡ value_end c (unlabelled at k (text (b ∷ r))) e
      go (some cs) z =
          then i (keyed c at k) (in_text c at k (b ∷ []) cs) b (r ++ (e ∷ [])) _
          (pick_false (is_sign b) _ _ s ∙ ap (λ v. name_behind c at k v b) m ∙ pick_some (text_step false [] b) _ _ cs z)
          (in_text_end (i + 1) at k (b ∷ []) r cs e
          (ap (λ v. text_run (hash_is_plain v) cs r) m ∙ sym (pick_some (text_step false [] b) (λ v. text_run false v r) none cs z) ∙ f) refl (ap (λ v. text_step (hash_is_plain v) [] e) m ∙ h.text))
      go none z = absurd (none-ne-some [] (sym (pick_none (text_step false [] b) (λ v. text_run false v r) none z) ∙ f))

  -- ---- a key word and its colon
  word_run : (i : ℕ) (k : Key) (x : ℕ) (t : List ℕ) → same_folded (spell k) (x ∷ t) ≡ true → noted_run i (going (begin c)) ((x ∷ t) ++ (colon ∷ [])) ≡ going (behind_key c i k (form k))
  unfolding inner_step every
  word_run i k x t e =
      let f : key_of (x ∷ t) ≡ some k = word_key k x t e in
      let g : every is_letter (x ∷ t) ≡ true = key_letters (x ∷ t) k f in
      let l : Letter x = lettered x (and_left (is_letter x) (every is_letter t) g) in
      then i (begin c) (plain c i (x ∷ [])) x (t ++ (colon ∷ [])) _ (pick_false (is_sign x) _ _ l.sign ∙ pick_true (is_plain x) _ _ l.plain)
      (onward (i + 1) (plain c i (x ∷ [])) (plain c i (x ∷ t)) t (colon ∷ []) _ (in_word (i + 1) i (x ∷ []) t (and_right (is_letter x) (every is_letter t) g))
      (content_one (i + 1 + length t) (plain c i (x ∷ t)) colon ∙ ap going (colon_key i (x ∷ t) k f)))

  -- ---- what a part says
  -- a mass, where a sign may stand; its place is that of its sign
  mass_run : (i at : ℕ) (s : Inner ℕ) (k : Key) (m : Bool) (n : Numeral) (e : ℕ) → inner_step i s (sign_byte m) ≡ going (in_number c at k i (signed m)) → good_numeral n ≡ true → Stop e
      → noted_run i (going s) ((sign_byte m ∷ print_numeral n) ++ (e ∷ [])) ≡ value_end c (unlabelled at k (mass (means_numeral i m n))) e
  mass_run i at s k m n e f g h =
      then i s (in_number c at k i (signed m)) (sign_byte m) (print_numeral n ++ (e ∷ [])) _ f
      (onward (i + 1) (in_number c at k i (signed m)) (in_number c at k i (read_as m n)) (print_numeral n) (e ∷ []) _ (in_number_lem (i + 1) at i k (print_numeral n) (signed m) (read_as m n) (numeral_run m n g))
      (content_one (i + 1 + length (print_numeral n)) (in_number c at k i (read_as m n)) e ∙ number_end_lem (i + 1 + length (print_numeral n)) at i k m n e h))

  sign_begin : (i : ℕ) (m : Bool) → inner_step i (begin c) (sign_byte m) ≡ going (in_number c i NoKey i (signed m))
  unfolding inner_step
  sign_begin i true = refl
  sign_begin i false = refl

  sign_keyed : (i at : ℕ) (k : Key) (m : Bool) → inner_step i (keyed c at k) (sign_byte m) ≡ going (in_number c at k i (signed m))
  unfolding inner_step
  sign_keyed i at k true = refl
  sign_keyed i at k false = refl

  -- behind a key word
  behind_run : (i : ℕ) (k : Key) (x : ℕ) (t l : List ℕ) (e : ℕ) (y : Content ℕ) → same_folded (spell k) (x ∷ t) ≡ true → noted_run (i + length (with_colon (x ∷ t))) (going (behind_key c i k (form k))) (l ++ (e ∷ [])) ≡ y
      → noted_run i (going (begin c)) ((with_colon (x ∷ t) ++ l) ++ (e ∷ [])) ≡ y
  behind_run i k x t l e y f g =
      ap (noted_run i (going (begin c))) (append_assoc (with_colon (x ∷ t)) l (e ∷ []))
      ∙ onward i (begin c) (behind_key c i k (form k)) (with_colon (x ∷ t)) (l ++ (e ∷ [])) y (word_run i k x t f) g

  mass_behind : (i at : ℕ) (f : Form) (k : Key) (m : Bool) (n : Numeral) (e : ℕ) → takes_mass f ≡ true → good_numeral n ≡ true → Stop e
      → noted_run i (going (behind_key c at k f)) ((sign_byte m ∷ print_numeral n) ++ (e ∷ [])) ≡ value_end c (unlabelled at k (mass (means_numeral i m n))) e
  mass_behind i at mass_or_name k m n e t g h = mass_run i at (keyed c at k) k m n e (sign_keyed i at k m) g h
  mass_behind i at mass_only k m n e t g h = mass_run i at (keyed c at k) k m n e (sign_keyed i at k m) g h
  mass_behind i at digits k m n e t g h = absurd (false≢true t)
  mass_behind i at alnums k m n e t g h = absurd (false≢true t)
  mass_behind i at free k m n e t g h = absurd (false≢true t)
  mass_behind i at composed k m n e t g h = absurd (false≢true t)

  delta_run : (i : ℕ) (k : Key) (w : List ℕ) (m : Bool) (n : Numeral) (e : ℕ) → same_folded (spell k) w ≡ true → takes_mass (form k) ≡ true → good_numeral n ≡ true → Stop e
      → noted_run i (going (begin c)) ((with_colon w ++ (sign_byte m ∷ print_numeral n)) ++ (e ∷ [])) ≡ value_end c (unlabelled i k (mass (means_numeral (i + length (with_colon w)) m n))) e
  delta_run i k [] m n e f t g h =
      mass_run i i (begin c) NoKey m n e (sign_begin i m) g h
      ∙ ap (λ z. value_end c (unlabelled i z (mass (means_numeral i m n))) e) (sym (word_none k f))
      ∙ ap (λ z. value_end c (unlabelled i k (mass (means_numeral z m n))) e) (sym (add-zero i))
  delta_run i k (x ∷ w) m n e f t g h = behind_run i k x w (sign_byte m ∷ print_numeral n) e _ f (mass_behind (i + length (with_colon (x ∷ w))) i (form k) k m n e t g h)

  none_of : (l : List ℕ) → every (λ b. false) l ≡ true → none? l ≡ false → ⊥
  unfolding every
  none_of [] e f = true≢false f
  none_of (b ∷ l) e f = false≢true e

  code_from : (i at : ℕ) (k : Key) (t : List ℕ) (e : ℕ) → Stop e → none? t ≡ false → every (accession_byte (form k)) t ≡ true → noted_run i (going (in_code c at k [])) (t ++ (e ∷ [])) ≡ value_end c (unlabelled at k (text t)) e
  code_from i at k t e h n a =
      onward i (in_code c at k []) (in_code c at k t) t (e ∷ []) _ (in_code_lem i at k [] t a) (content_one (i + length t) (in_code c at k t) e ∙ code_end (i + length t) at k t e h n)

  code_behind : (i at : ℕ) (f : Form) (k : Key) (t : List ℕ) (e : ℕ) → form k ≡ f → Stop e → none? t ≡ false → every (accession_byte f) t ≡ true
      → noted_run i (going (behind_key c at k f)) (t ++ (e ∷ [])) ≡ value_end c (unlabelled at k (text t)) e
  code_behind i at mass_or_name k t e q h n a = absurd (none_of t a n)
  code_behind i at mass_only k t e q h n a = absurd (none_of t a n)
  code_behind i at digits k t e q h n a = code_from i at k t e h n (rw q a)
  code_behind i at alnums k t e q h n a = code_from i at k t e h n (rw q a)
  code_behind i at free k t e q h n a = absurd (none_of t a n)
  code_behind i at composed k t e q h n a = absurd (none_of t a n)

  code_run : (i : ℕ) (k : Key) (w t : List ℕ) (e : ℕ) → same_folded (spell k) w ≡ true → Stop e → none? t ≡ false → every (accession_byte (form k)) t ≡ true
      → noted_run i (going (begin c)) ((with_colon w ++ t) ++ (e ∷ [])) ≡ value_end c (unlabelled i k (text t)) e
  code_run i k [] t e f h n a =
      let b : every (accession_byte (form NoKey)) t ≡ true = ap (λ z. every (accession_byte (form z)) t) (sym (word_none k f)) ∙ a in
      absurd (none_of t b n)
  code_run i k (x ∷ w) t e f h n a = behind_run i k x w t e _ f (code_behind (i + length (with_colon (x ∷ w))) i (form k) k t e refl h n a)

  -- where `#` is plain, no label ends the text
  abbrev Ended : Form → ℕ → Type 0
  Ended f e = eqb e hash ≡ true → tag_fits f ≡ true

  free_stop : (e : ℕ) → stops e ≡ true → Ended free e → text_step true [] e ≡ none
  free_stop e h q = go (eqb e hash) refl h
    where
      go : (p : Bool) → eqb e hash ≡ p → (p || closes e) ≡ true → text_step true [] e ≡ none
      go true f g = absurd (false≢true (q f))
      go false f g = close_text e g

  text_behind : (i at : ℕ) (f : Form) (k : Key) (w : List ℕ) (t : Text) (e : ℕ) → form k ≡ f → stops e ≡ true → Ended f e → none? (print_text t) ≡ false → good_wording f w t ≡ true
      → noted_run i (going (behind_key c at k f)) (print_text t ++ (e ∷ [])) ≡ value_end c (unlabelled at k (text (print_text t))) e
  text_behind i at mass_or_name k w t e q h d n g =
      let g' = and_right (good_text (outer_byte false) t) (not (first_sign (print_text t)) && keyless w (print_text t)) g in
      prefixed_run i at k (print_text t) e q (stop e h) (outer_run false t (and_left (good_text (outer_byte false) t) (not (first_sign (print_text t)) && keyless w (print_text t)) g)) n
      (not-true (first_sign (print_text t)) (and_left (not (first_sign (print_text t))) (keyless w (print_text t)) g'))
  text_behind i at mass_only k w t e q h d n g = absurd (false≢true g)
  text_behind i at digits k w t e q h d n g = absurd (false≢true g)
  text_behind i at alnums k w t e q h d n g = absurd (false≢true g)
  text_behind i at free k w t e q h d n g =
      in_text_end i at k [] (print_text t) [] e (ap (λ z. text_run (hash_is_plain z) [] (print_text t)) q ∙ outer_run true t g) n (ap (λ z. text_step (hash_is_plain z) [] e) q ∙ free_stop e h d)
  text_behind i at composed k w t e q h d n g =
      in_text_end i at k [] (print_text t) [] e (ap (λ z. text_run (hash_is_plain z) [] (print_text t)) q ∙ outer_run false t g) n (ap (λ z. text_step (hash_is_plain z) [] e) q ∙ (stop e h).text)

  wording_run : (i : ℕ) (k : Key) (w : List ℕ) (t : Text) (e : ℕ) → same_folded (spell k) w ≡ true → stops e ≡ true → Ended (form k) e → none? (print_text t) ≡ false → good_wording (form k) w t ≡ true
      → noted_run i (going (begin c)) ((with_colon w ++ print_text t) ++ (e ∷ [])) ≡ value_end c (unlabelled i k (text (print_text t))) e
  wording_run i k [] t e f h d n g =
      let z : k ≡ NoKey = word_none k f in
      let g₀ : good_wording mass_or_name [] t ≡ true = ap (λ v. good_wording (form v) [] t) (sym z) ∙ g in
      let g₁ = and_right (good_text (outer_byte false) t) (not (first_sign (print_text t)) && keyless [] (print_text t)) g₀ in
      name_run i (print_text t) e (stop e h) (outer_run false t (and_left (good_text (outer_byte false) t) (not (first_sign (print_text t)) && keyless [] (print_text t)) g₀)) n
      (not-true (first_sign (print_text t)) (and_left (not (first_sign (print_text t))) (keyless [] (print_text t)) g₁))
      (no_key (lead_key [] (print_text t)) (and_right (not (first_sign (print_text t))) (keyless [] (print_text t)) g₁))
      ∙ ap (λ v. value_end c (unlabelled i v (text (print_text t))) e) (sym z)
  wording_run i k (x ∷ w) t e f h d n g = behind_run i k x w (print_text t) e _ f (text_behind (i + length (with_colon (x ∷ w))) i (form k) k (x ∷ w) t e refl h d n g)

  base_run : (i : ℕ) (b : Base) (e : ℕ) → good_base b ≡ true → stops e ≡ true → Ended (form_in b) e
      → noted_run i (going (begin c)) (print_base b ++ (e ∷ [])) ≡ value_end c (unlabelled i (key_in b) (value_in i b)) e
  base_run i (delta w m n) e g h d =
      let g₁ = and_right (good_word w) (takes_mass (form w.key) && good_numeral n) g in
      delta_run i w.key w.spelled m n e (and_left (good_word w) (takes_mass (form w.key) && good_numeral n) g) (and_left (takes_mass (form w.key)) (good_numeral n) g₁)
      (and_right (takes_mass (form w.key)) (good_numeral n) g₁) (stop e h)
  base_run i (code w t) e g h d =
      let g₁ = and_right (good_word w) (some_of (accession_byte (form w.key)) t) g in
      code_run i w.key w.spelled t e (and_left (good_word w) (some_of (accession_byte (form w.key)) t) g) (stop e h)
      (not-true (none? t) (and_left (not (none? t)) (every (accession_byte (form w.key)) t) g₁)) (and_right (not (none? t)) (every (accession_byte (form w.key)) t) g₁)
  base_run i (wording w t) e g h d =
      let g₁ = and_right (good_word w) (not (none? (print_text t)) && good_wording (form w.key) w.spelled t) g in
      wording_run i w.key w.spelled t e (and_left (good_word w) (not (none? (print_text t)) && good_wording (form w.key) w.spelled t) g) h d
      (not-true (none? (print_text t)) (and_left (not (none? (print_text t))) (good_wording (form w.key) w.spelled t) g₁))
      (and_right (not (none? (print_text t))) (good_wording (form w.key) w.spelled t) g₁)

  -- ---- labels
  score_none : (i at : ℕ) (p : Part ℕ) (name : List ℕ) (e : ℕ) → closes e ≡ true → inner_step i (in_label c p at name) e ≡ part_end c (labelled p at name none) e
  unfolding inner_step
  score_none i at p name e h = pick_false (is_alnum e) _ _ (stop e (close e h)).alnum ∙ pick_false (eqb e open_round) _ _ (stop e (close e h)).round

  score_opens : (i at : ℕ) (p : Part ℕ) (name : List ℕ) → inner_step i (in_label c p at name) open_round ≡ going (scoring c p at name)
  unfolding inner_step
  score_opens i at p name = refl

  score_shuts : (i at j : ℕ) (p : Part ℕ) (name : List ℕ) (s : Bool) (n : Numeral) → inner_step i (in_score c p at name j (read_as s n)) shut_round ≡ going (scored c (labelled p at name (some (means_numeral j s n))))
  unfolding inner_step
  score_shuts i at j p name s n =
      pick_none (digit_step (read_as s n) shut_round) _ _ (numeral_stops s n shut_round refl refl) ∙ pick_some (number_end j (read_as s n)) _ _ (means_numeral j s n) (numeral_end j s n)

  scored_end : (i : ℕ) (p : Part ℕ) (e : ℕ) → inner_step i (scored c p) e ≡ part_end c p e
  unfolding inner_step
  scored_end i p e = refl

  score_sign : (i at : ℕ) (p : Part ℕ) (name : List ℕ) (m : Bool) → inner_step i (scoring c p at name) (sign_byte m) ≡ going (in_score c p at name i (signed m))
  unfolding inner_step
  score_sign i at p name true = refl
  score_sign i at p name false = refl

  digit_sign : (b : ℕ) → is_digit b ≡ true → is_sign b ≡ false
  digit_sign b e =
      let x = leb-true 48 b (and_left (leb 48 b) (leb b 57) e) in
      rw (ne_eqb b plus (λ z. omega arith), ne_eqb b dash (λ z. omega arith))

  score_digit : (i at : ℕ) (p : Part ℕ) (name : List ℕ) (b : ℕ) → is_digit b ≡ true → inner_step i (scoring c p at name) b ≡ going (in_score c p at name i (whole false (value b)))
  unfolding inner_step
  score_digit i at p name b e = pick_false (is_sign b) _ _ (digit_sign b e) ∙ pick_true (is_digit b) _ _ e

  first_digit : (b : ℕ) → is_digit b ≡ true → digit_step (signed false) b ≡ some (whole false (value b))
  unfolding digit_step
  first_digit b e = pick_true (is_digit b) _ _ e

  -- the number of a score, with or without sign
  score_number_lem : (i at : ℕ) (p : Part ℕ) (name : List ℕ) (o : Option Bool) (n : Numeral) → good_numeral n ≡ true
      → noted_run i (going (scoring c p at name)) (print_sign o ++ print_numeral n) ≡ going (in_score c p at name i (read_as (is_minus o) n))
  unfolding every
  score_number_lem i at p name (some m) n g =
      then i (scoring c p at name) (in_score c p at name i (signed m)) (sign_byte m) (print_numeral n) _ (score_sign i at p name m) (in_score_lem (i + 1) at i p name (print_numeral n) (signed m) (read_as m n) (numeral_run m n g))
  score_number_lem i at p name none n g = go n.whole (and_left (some_of is_digit n.whole) (good_behind n.behind) g) (numeral_run false n g)
    where
      go : (a : List ℕ) → some_of is_digit a ≡ true → digit_run (signed false) (a ++ print_behind n.behind) ≡ some (read_as false n)
          → noted_run i (going (scoring c p at name)) (a ++ print_behind n.behind) ≡ going (in_score c p at name i (read_as false n))
      go [] e f = absurd (false≢true e)
      go (b ∷ a) e f =
          let d : is_digit b ≡ true = and_left (is_digit b) (every is_digit a) e in
          then i (scoring c p at name) (in_score c p at name i (whole false (value b))) b (a ++ print_behind n.behind) _ (score_digit i at p name b d)
          (in_score_lem (i + 1) at i p name (a ++ print_behind n.behind) (whole false (value b)) (read_as false n) (sym (digits_cons (signed false) (whole false (value b)) b (a ++ print_behind n.behind) (first_digit b d)) ∙ f))

  score_run : (i at : ℕ) (p : Part ℕ) (name : List ℕ) (o : Option Score) (e : ℕ) → good_score o ≡ true → closes e ≡ true
      → noted_run i (going (in_label c p at name)) (print_score o ++ (e ∷ [])) ≡ part_end c (labelled p at name (means_score i o)) e
  score_run i at p name none e g h = content_one i (in_label c p at name) e ∙ score_none i at p name e h
  score_run i at p name (some s) e g h =
      then i (in_label c p at name) (scoring c p at name) open_round _ _ (score_opens i at p name)
      (ap (noted_run (i + 1) (going (scoring c p at name))) (group (print_sign s.sign) (print_numeral s.number))
      ∙ onward (i + 1) (scoring c p at name) (in_score c p at name (i + 1) (read_as (is_minus s.sign) s.number)) (print_sign s.sign ++ print_numeral s.number) (shut_round ∷ (e ∷ [])) _
      (score_number_lem (i + 1) at p name s.sign s.number g)
      (then _ (in_score c p at name (i + 1) (read_as (is_minus s.sign) s.number)) (scored c (labelled p at name (some (means_numeral (i + 1) (is_minus s.sign) s.number)))) shut_round (e ∷ []) _
      (score_shuts _ at (i + 1) p name (is_minus s.sign) s.number) (content_one _ _ e ∙ scored_end _ _ e)))
    where
      group : (x y : List ℕ) → (x ++ (y ++ (shut_round ∷ []))) ++ (e ∷ []) ≡ (x ++ y) ++ (shut_round ∷ (e ∷ []))
      group x y = simp append_assoc

  -- i is the place behind `#`
  tag_run : (i : ℕ) (p : Part ℕ) (t : Tag) (e : ℕ) → good_tag (some t) ≡ true → closes e ≡ true
      → noted_run i (going (hashed c p)) ((t.name ++ print_score t.score) ++ (e ∷ [])) ≡ part_end c (labelled p i t.name (means_score (i + length t.name) t.score)) e
  unfolding every inner_step
  tag_run i p t e g h = go t.name (and_left (some_of is_alnum t.name) (good_score t.score) g)
    where
      go : (n : List ℕ) → some_of is_alnum n ≡ true → noted_run i (going (hashed c p)) ((n ++ print_score t.score) ++ (e ∷ [])) ≡ part_end c (labelled p i n (means_score (i + length n) t.score)) e
      go [] q = absurd (false≢true q)
      go (b ∷ n) q =
          let z : i + 1 + length n ≡ i + suc (length n) = omega arith in
          then i (hashed c p) (in_label c p i (b ∷ [])) b ((n ++ print_score t.score) ++ (e ∷ [])) _ (pick_true (is_alnum b) _ _ (and_left (is_alnum b) (every is_alnum n) q))
          (ap (noted_run (i + 1) (going (in_label c p i (b ∷ [])))) (append_assoc n (print_score t.score) (e ∷ []))
          ∙ onward (i + 1) (in_label c p i (b ∷ [])) (in_label c p i (b ∷ n)) n (print_score t.score ++ (e ∷ [])) _ (in_label_lem (i + 1) i p (b ∷ []) n (and_right (is_alnum b) (every is_alnum n) q))
          (score_run (i + 1 + length n) i p (b ∷ n) t.score e (and_right (some_of is_alnum t.name) (good_score t.score) g) h)
          ∙ ap (λ v. part_end c (labelled p i (b ∷ n) (means_score v t.score)) e) z)

  -- ---- parts
  value_part : (p : Part ℕ) (e : ℕ) → closes e ≡ true → value_end c p e ≡ part_end c p e
  unfolding value_end
  value_part p e h = pick_false (eqb e hash && c.labels) _ _ (ap (λ z. z && c.labels) (close_hash e h))

  value_hash : (p : Part ℕ) → c.labels ≡ true → value_end c p hash ≡ going (hashed c p)
  unfolding value_end
  value_hash p e = pick_true (eqb hash hash && c.labels) _ _ e

  piece_run : (i : ℕ) (p : Piece) (e : ℕ) → good_piece c.labels p ≡ true → closes e ≡ true
      → noted_run i (going (begin c)) (print_piece p ++ (e ∷ [])) ≡ part_end c (means_piece i p) e
  piece_run i p e g h = go p.tag (and_right (good_base p.base) _ g)
    where
      b : Base
      b = p.base

      ok : good_base b ≡ true
      ok = and_left (good_base b) (good_tag p.tag && (not (there? p.tag) || (c.labels && tag_fits (form_in b)))) g

      go : (o : Option Tag) → (good_tag o && (not (there? o) || (c.labels && tag_fits (form_in b)))) ≡ true
          → noted_run i (going (begin c)) ((print_base b ++ print_tag o) ++ (e ∷ [])) ≡ part_end c (record { key = key_in b; value = value_in i b; label = means_tag (i + length (print_base b)) o; at = i }) e
      go none q =
          ap (λ z. noted_run i (going (begin c)) (z ++ (e ∷ []))) (append-nil (print_base b))
          ∙ base_run i b e ok (close e h) (λ z. absurd (false≢true (sym (close_hash e h) ∙ z)))
          ∙ value_part _ e h
      go (some t) q =
          let r = and_right (good_tag (some t)) (c.labels && tag_fits (form_in b)) q in
          ap (noted_run i (going (begin c))) (group (print_base b) (t.name ++ print_score t.score))
          ∙ onward i (begin c) (hashed c (unlabelled i (key_in b) (value_in i b))) (print_base b ++ (hash ∷ [])) ((t.name ++ print_score t.score) ++ (e ∷ [])) _
          (base_run i b hash ok refl (λ z. and_right c.labels (tag_fits (form_in b)) r) ∙ value_hash _ (and_left c.labels (tag_fits (form_in b)) r))
          (tag_run (i + length (print_base b ++ (hash ∷ []))) (unlabelled i (key_in b) (value_in i b)) t e (and_left (good_tag (some t)) (c.labels && tag_fits (form_in b)) q) h)
          ∙ ap (λ v. part_end c (labelled (unlabelled i (key_in b) (value_in i b)) v t.name (means_score (v + length t.name) t.score)) e) (snoc_place i (print_base b) hash)
        where
          group : (x y : List ℕ) → (x ++ (hash ∷ y)) ++ (e ∷ []) ≡ (x ++ (hash ∷ [])) ++ (y ++ (e ∷ []))
          group x y = simp append_assoc

shut_closes : (s : ℕ) → is_shutting s ≡ true → closes s ≡ true
shut_closes s e = back (eqb s bar) e
  where
    back : (u : Bool) → is_shutting s ≡ true → (u || eqb s shut_square || eqb s shut_curly) ≡ true
    back true f = refl
    back false f = f

shut_bar : (s : ℕ) → is_shutting s ≡ true → eqb bar s ≡ false
shut_bar s e = ne_eqb bar s (λ z. true≢false (sym e ∙ ap is_shutting (sym z)))

pub no_base : (i : ℕ) (b : Base) → is_reference (value_in i b) ≡ false
no_base i (delta w m n) = refl
no_base i (code w t) = refl
no_base i (wording w t) = refl

part_bar : (c : Context ℕ) (p : Part ℕ) → is_shutting c.shut ≡ true → is_reference p.value ≡ false → part_end c p bar ≡ going (begin (with c p))
unfolding part_end
part_bar c p s e = pick_false (eqb bar c.shut) _ _ (shut_bar c.shut s) ∙ pick_true (eqb bar bar && not (is_reference p.value)) _ _ (ap not e)

part_shut : (c : Context ℕ) (p : Part ℕ) → part_end c p c.shut ≡ closed (c.parts ++ (p ∷ []))
unfolding part_end
part_shut c p = pick_true (eqb c.shut c.shut) _ _ (eq-eqb c.shut c.shut refl)

-- ---- brackets
pieces_run : (i : ℕ) (ps : List Piece) (p : Piece) (c : Context ℕ) → is_shutting c.shut ≡ true → good_pieces c.labels p ps ≡ true
    → noted_run i (going (begin c)) (print_pieces p ps ++ (c.shut ∷ [])) ≡ closed (c.parts ++ means_pieces i p ps)
unfolding print_pieces good_pieces means_pieces
pieces_run i [] p c s g = piece_run c i p c.shut g (shut_closes c.shut s) ∙ part_shut c (means_piece i p)
pieces_run i (q ∷ ps) p c s g =
    ap (noted_run i (going (begin c))) (group (print_piece p) (print_pieces q ps))
    ∙ onward i (begin c) (begin (with c (means_piece i p))) (print_piece p ++ (bar ∷ [])) (print_pieces q ps ++ (c.shut ∷ [])) _
    (piece_run c i p bar (and_left (good_piece c.labels p) (good_pieces c.labels q ps) g) refl ∙ part_bar c (means_piece i p) s (no_base i p.base))
    (ap (λ v. noted_run v (going (begin (with c (means_piece i p)))) (print_pieces q ps ++ (c.shut ∷ []))) (snoc_place i (print_piece p) bar)
    ∙ pieces_run (i + length (print_piece p) + 1) ps q (with c (means_piece i p)) s (and_right (good_piece c.labels p) (good_pieces c.labels q ps) g)
    ∙ ap closed (append_assoc c.parts (means_piece i p ∷ []) (means_pieces (i + length (print_piece p) + 1) q ps)))
  where
    group : (x y : List ℕ) → (x ++ (bar ∷ y)) ++ (c.shut ∷ []) ≡ (x ++ (bar ∷ [])) ++ (y ++ (c.shut ∷ []))
    group x y = simp append_assoc

lone_begins : (i shut : ℕ) (labels : Bool) → inner_step i (begin (context shut true labels [])) hash ≡ going (hashed (context shut true labels []) (unlabelled i NoKey reference))
unfolding inner_step text_step
lone_begins i shut labels = refl

-- what a good bracket prints is read, up to the byte that closes it, to what it means
pub inside_run : (i shut : ℕ) (r labels : Bool) (x : Inside) → is_shutting shut ≡ true → good_inside r labels x ≡ true
    → noted_run i (going (begin (context shut r labels []))) (print_inside x ++ (shut ∷ [])) ≡ closed (means_inside i x)
inside_run i shut r labels (parts p ps) s g = pieces_run i ps p (context shut r labels []) s g
inside_run i shut true labels (refers t) s g =
    then i (begin (context shut true labels [])) (hashed (context shut true labels []) (unlabelled i NoKey reference)) hash ((t.name ++ print_score t.score) ++ (shut ∷ [])) _ (lone_begins i shut labels)
    (tag_run (context shut true labels []) (i + 1) (unlabelled i NoKey reference) t shut g (shut_closes shut s) ∙ part_shut (context shut true labels []) _)
inside_run i shut false labels (refers t) s g = absurd (false≢true g)
