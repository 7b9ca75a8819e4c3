-- How a value begins: with a sign, behind a key, with plain bytes.
use mathlib.Core.Path.{◌≡◌, refl, sym, ap, ◌∙◌}
use mathlib.Core.Bool.{Bool, true, false, ◌&&◌, false≢true}
use mathlib.Core.Option.{none, some}
use mathlib.Core.List.{List, [], ◌∷◌, ◌++◌}
use Prim.Native.Nat.{ℕ, ◌+◌, ◌-◌, ◌<◌, ◌≤◌}
use native.Mathlib.Omega.{arith}
use borrow.Author.Tests.{ne_eqb, eqb-true, eqb-false, ltb-true, ltb-false}
use lib.Dec.{eqb, ltb}
use lib.ListN.{length, get_or, drop, length-take, length-drop, get_or-eq_default}
use Rattle.basics.specs.Choice.{by_test}
use Rattle.basics.specs.Tests.{and_left, and_right}
use Rattle.scope.specs.declared.grammar.Slot.{Slot}
use Rattle.scope.specs.declared.grammar.Key.{Key}
use Rattle.scope.specs.declared.grammar.Key.TheVariants.{NoKey}
use Rattle.scope.specs.Bytes.{hash, colon, dash, is_sign}
use Rattle.scope.specs.Keys.{Form, mass_or_name, mass_only, digits, alnums, free, composed, form, accession_byte, written, key_of}
use Rattle.scope.specs.Lists.{part}
use Rattle.scope.specs.Content.{is_plain, text_step, signed, Context, begin, plain, keyed, in_number, in_code, in_text, Content, lost, going, text_end, behind_key, colon_after, inner_step}
use Rattle.scope.specs.Reading.{Held}
use Rattle.classes.specs.Runs.{span}
use Rattle.classes.proofs.Runs.{run_next, run_in}
use Rattle.values.specs.declared.Form.{Form as FormTold}
use Rattle.values.specs.declared.Form.TheVariants.{MassOrName, MassOnly, Digits, Alnums, Free, Composed}
use Rattle.std.specs.Prelude.{Result, Err}
use Rattle.scope.specs.declared.grammar.Stuck.{Stuck}
use Rattle.values.specs.declared.Value.{Value}
use Rattle.values.specs.Says.{through}
use Rattle.values.specs.Within.{SaysFrom, told, takes_mass, key_before}
use Rattle.values.proofs.Through.{through_same, through_going, through_span, through_run}
use Rattle.values.proofs.Saying.{said_before, alike, over, lost_there}
use Rattle.values.proofs.Spelled.{no_key, a_key}

-- ---- a sign
pub sign_first : (c : Context ℕ) (j b : ℕ) → is_sign b ≡ true → inner_step j (begin c) b ≡ going (in_number c j NoKey j (signed (eqb b dash)))
unfolding inner_step
sign_first c j b e = rw e

sign_keyed : (c : Context ℕ) (at : ℕ) (k : Key) (j b : ℕ) → is_sign b ≡ true → inner_step j (keyed c at k) b ≡ going (in_number c at k j (signed (eqb b dash)))
unfolding inner_step
sign_keyed c at k j b e = rw e

pub sign_begins : (line : List ℕ) (at : ℕ) (key : Key) (j : ℕ) → j < length line → (F : Context ℕ → ℕ → Content ℕ)
    → ((c : Context ℕ) → F c (get_or line j 0) ≡ going (in_number c at key j (signed (eqb (get_or line j 0) dash)))) → (r : Result Value Stuck)
    → SaysFrom line at (j + 1) (λ c. inner_step (j + 1) (in_number c at key j (signed (eqb (get_or line j 0) dash)))) r → SaysFrom line at j F r
sign_begins line at key j inside F f r w =
    said_before line at j (j + 1) F (λ c. inner_step (j + 1) (in_number c at key j (signed (eqb (get_or line j 0) dash))))
    (λ s o h c. through_going line s o h j (F c) (in_number c at key j (signed (eqb (get_or line j 0) dash))) inside (f c)) r w

-- ---- a byte that passes a test which no missing byte passes stands within the line
pub stands_inside : (p : ℕ → Bool) (line : List ℕ) (j : ℕ) → p 0 ≡ false → p (get_or line j 0) ≡ true → j < length line
stands_inside p line j z e =
    by_test (ltb j (length line)) (ltb-true j (length line))
    (λ t. absurd (false≢true (sym z ∙ sym (ap p (get_or-eq_default line 0 (ltb-false j (length line) t))) ∙ e)))

-- ---- behind a key, by its form
abbrev form_told : FormTold → Form
form_told MassOrName = mass_or_name
form_told MassOnly = mass_only
form_told Digits = digits
form_told Alnums = alnums
form_told Free = free
form_told Composed = composed

told_back : (f : Form) → form_told (told f) ≡ f
told_back mass_or_name = refl
told_back mass_only = refl
told_back digits = refl
told_back alnums = refl
told_back free = refl
told_back composed = refl

pub form_is : (k : Key) (t u : FormTold) → t ≡ told (form k) → t ≡ u → form k ≡ form_told u
form_is k t u e f = sym (told_back (form k)) ∙ ap form_told (sym e ∙ f)

-- the state there
abbrev pub opened : ℕ → Key → ℕ → Context ℕ → ℕ → Content ℕ
opened at k from c = inner_step from (behind_key c at k (form k))

-- a mass
mass_keyed : (c : Context ℕ) (at : ℕ) (k : Key) (f : Form) → takes_mass (told f) ≡ true → behind_key c at k f ≡ keyed c at k
mass_keyed c at k mass_or_name e = refl
mass_keyed c at k mass_only e = refl
mass_keyed c at k digits e = absurd (false≢true e)
mass_keyed c at k alnums e = absurd (false≢true e)
mass_keyed c at k free e = absurd (false≢true e)
mass_keyed c at k composed e = absurd (false≢true e)

-- whether one stands there
module _ (line : List ℕ) (from : ℕ) (t : FormTold) (b : Bool) where
  pub key_signed : b ≡ (takes_mass t && is_sign (get_or line from 0)) → b ≡ true → from < length line
  key_signed e f = stands_inside is_sign line from refl (and_right (takes_mass t) _ (sym e ∙ f))

  -- none stands there, though one may
  pub key_unsigned : (u : FormTold) → t ≡ u → takes_mass u ≡ true → b ≡ (takes_mass t && is_sign (get_or line from 0)) → b ≡ false → is_sign (get_or line from 0) ≡ false
  key_unsigned u e y f g = let z : takes_mass t ≡ true = ap takes_mass e ∙ y in rw z at (sym f ∙ g)

module _ (line : List ℕ) (at : ℕ) (k : Key) (from : ℕ) where
  pub key_mass : (t : FormTold) → t ≡ told (form k) → (takes_mass t && is_sign (get_or line from 0)) ≡ true → (r : Result Value Stuck)
      → SaysFrom line at (from + 1) (λ c. inner_step (from + 1) (in_number c at k from (signed (eqb (get_or line from 0) dash)))) r → SaysFrom line at from (opened at k from) r
  key_mass t e f r w =
      let y = and_right (takes_mass t) _ f in
      sign_begins line at k from (stands_inside is_sign line from refl y) (opened at k from)
      (λ c. ap (λ x. inner_step from x (get_or line from 0)) (mass_keyed c at k (form k) (ap takes_mass (sym e) ∙ and_left (takes_mass t) _ f))
      ∙ sign_keyed c at k from (get_or line from 0) y) r w

  nothing_yet : part from (from - from) line ≡ []
  nothing_yet = let e : from - from ≡ 0 = omega arith in rw e

  none_first : (c : Context ℕ) (b : ℕ) → inner_step from (in_text c at k [] []) b ≡ inner_step from (in_text c at k (part from (from - from) line) []) b
  none_first c b = ap (λ t. inner_step from (in_text c at k t []) b) (sym nothing_yet)

  name_first : (c : Context ℕ) (b : ℕ) → form k ≡ mass_or_name → is_sign b ≡ false → opened at k from c b ≡ inner_step from (in_text c at k [] []) b
  unfolding inner_step text_end
  name_first c b f e = rw (f, e, f)

  pub key_name : form k ≡ mass_or_name → is_sign (get_or line from 0) ≡ false → (r : Result Value Stuck)
      → SaysFrom line at from (λ c. inner_step from (in_text c at k (part from (from - from) line) [])) r → SaysFrom line at from (opened at k from) r
  key_name f e r w =
      alike line at from (opened at k from) (λ c. inner_step from (in_text c at k (part from (from - from) line) []))
      (λ c n. name_first c (get_or line from 0) f e ∙ none_first c (get_or line from 0)) r w

  no_name : (c : Context ℕ) (b : ℕ) → form k ≡ mass_only → is_sign b ≡ false → opened at k from c b ≡ lost
  unfolding inner_step
  no_name c b f e = rw (f, e, f)

  pub key_nothing : form k ≡ mass_only → is_sign (get_or line from 0) ≡ false → from ≤ length line → SaysFrom line at from (opened at k from) (Err (record { at = from }))
  key_nothing f e n =
      by_test (ltb from (length line))
      (λ t. lost_there line at from (opened at k from) (ltb-true from (length line) t) (λ c. no_name c (get_or line from 0) f e))
      (λ t. over line at from (opened at k from) (ltb-false from (length line) t) n)

  -- a text from the first byte on, whatever it is
  pub key_text : (g : Form) → form k ≡ g → ((c : Context ℕ) → behind_key c at k g ≡ in_text c at k [] []) → (r : Result Value Stuck)
      → SaysFrom line at from (λ c. inner_step from (in_text c at k (part from (from - from) line) [])) r → SaysFrom line at from (opened at k from) r
  key_text g f texts r w =
      alike line at from (opened at k from) (λ c. inner_step from (in_text c at k (part from (from - from) line) []))
      (λ c n. ap (λ x. inner_step from x (get_or line from 0)) (ap (behind_key c at k) f ∙ texts c) ∙ none_first c (get_or line from 0)) r w

  -- an accession, of bytes of a class
  module _ (to : ℕ) (p : ℕ → Bool) (class : (b : ℕ) → accession_byte (form k) b ≡ p b) (codes : (c : Context ℕ) → behind_key c at k (form k) ≡ in_code c at k [])
      (run : to ≡ from + span p (drop from line)) where
    code_step : (c : Context ℕ) (i b : ℕ) (t : List ℕ) → p b ≡ true → inner_step i (in_code c at k t) b ≡ going (in_code c at k (t ++ (b ∷ [])))
    unfolding inner_step
    code_step c i b t e = rw (class b, e)

    code_stops : (c : Context ℕ) (i b : ℕ) (t : List ℕ) → p b ≡ false → inner_step i (in_code c at k t) b ≡ text_end c at k t [] b
    unfolding inner_step
    code_stops c i b t e = rw (class b, e)

    long : span p (drop from line) ≡ to - from
    long = omega (arith, run)

    code_run : (s : Slot) (o : ℕ) (h : Held ℕ) (c : Context ℕ)
        → through line s o h from (inner_step from (in_code c at k [])) ≡ through line s o h to (inner_step to (in_code c at k (part from (to - from) line)))
    code_run s o h c =
        let e = sym run in
        rw (e, long) at (through_span line s o h p (λ t. in_code c at k t) (code_step c) (drop from line) from [] refl)

    pub key_code_lem : (r : Result Value Stuck) → SaysFrom line at to (λ c. text_end c at k (part from (to - from) line) []) r → SaysFrom line at from (opened at k from) r
    key_code_lem r w =
        said_before line at from to (opened at k from) (λ c. text_end c at k (part from (to - from) line) [])
        (λ s o h c. ap (λ x. through line s o h from (inner_step from x)) (codes c) ∙ code_run s o h c
        ∙ through_same line s o h to (inner_step to (in_code c at k (part from (to - from) line))) (text_end c at k (part from (to - from) line) [])
        (λ m. code_stops c to (get_or line to 0) (part from (to - from) line) (run_next p line from to run m))) r w

-- ---- plain bytes
-- a word that is no key is the beginning of a text
module _ (c : Context ℕ) (at i : ℕ) (b : ℕ) where
  word_text : (t : List ℕ) → 0 < length t → is_plain b ≡ false → (b ≡ colon → ⊥) → inner_step i (plain c at t) b ≡ inner_step i (in_text c at NoKey t []) b
  unfolding inner_step text_end
  word_text [] n e f = absurd (omega arith)
  word_text (x ∷ t) n e f = rw (e, ne_eqb b colon f)

  word_colon : (t : List ℕ) → b ≡ colon → key_of t ≡ none → inner_step i (plain c at t) b ≡ inner_step i (in_text c at NoKey t []) b
  unfolding inner_step colon_after text_step
  word_colon t e f = rw (e, f)

  word_opens : (t : List ℕ) (k : Key) → b ≡ colon → key_of t ≡ some k → inner_step i (plain c at t) b ≡ going (behind_key c at k (form k))
  unfolding inner_step colon_after
  word_opens t k e f = rw (e, f)

module _ (line : List ℕ) (at : ℕ) (inside : at < length line) (unsigned : is_sign (get_or line at 0) ≡ false) (no_hash : get_or line at 0 ≡ hash → ⊥) (n : ℕ)
    (run : n ≡ at + span is_plain (drop at line)) where
  abbrev first : Context ℕ → ℕ → Content ℕ
  first c = inner_step at (begin c)

  abbrev word : List ℕ
  word = part at (n - at) line

  -- none
  not_plain : is_plain (get_or line at 0) ≡ false → (c : Context ℕ) → first c (get_or line at 0) ≡ inner_step at (in_text c at NoKey [] []) (get_or line at 0)
  unfolding inner_step text_end
  not_plain e c = rw (unsigned, e, ne_eqb (get_or line at 0) hash no_hash)

  no_word : n ≡ at → (r : Result Value Stuck) → SaysFrom line at n (λ c. inner_step n (in_text c at NoKey word [])) r → SaysFrom line at at first r
  no_word e r w =
      said_before line at at n first (λ c. inner_step n (in_text c at NoKey word []))
      (λ s o h c. through_same line s o h at (first c) (inner_step at (in_text c at NoKey [] [])) (λ m. not_plain (run_next is_plain line at at (sym e ∙ run) inside) c)
      ∙ (let z : n - at ≡ 0 = omega arith in
      let f = sym e in
      ap (λ x. through line s o h x (inner_step x (in_text c at NoKey [] []))) f ∙ ap (λ x. through line s o h n (inner_step n (in_text c at NoKey (part at x line) []))) (sym z)))
      r w

  module _ (more : at < n) where
    plain_long : span is_plain (drop at line) ≡ n - at
    plain_long = omega (arith, run)

    plain_run : (s : Slot) (o : ℕ) (h : Held ℕ) (c : Context ℕ) → through line s o h at (first c) ≡ through line s o h n (inner_step n (plain c at word))
    unfolding inner_step
    plain_run s o h c =
        let e = sym run in
        rw (e, plain_long) at
        (through_run line s o h is_plain (λ t. plain c at t) (λ i b t q. rw q) (first c) (drop at line) at
        (λ b f q. let u : is_sign b ≡ false = rw f at unsigned in rw (u, q)) refl (omega (arith, run, more)))

    word_long : length word ≡ n - at
    word_long = length-take (n - at) (drop at line) ∙ (let e = length-drop at line in let k = run_in is_plain line at (omega arith) in omega (arith, run))

    -- the byte behind it, where it spells no key
    word_goes : key_before line at n ≡ NoKey → (c : Context ℕ) → n < length line
        → inner_step n (plain c at word) (get_or line n 0) ≡ inner_step n (in_text c at NoKey word []) (get_or line n 0)
    unfolding key_before
    word_goes e c k =
        by_test (eqb (get_or line n 0) colon)
        (λ t. word_colon c at n (get_or line n 0) word (eqb-true (get_or line n 0) colon t) (no_key word (rw t at e)))
        (λ t. word_text c at n (get_or line n 0) word (omega (arith, word_long)) (run_next is_plain line at n run k) (eqb-false (get_or line n 0) colon t))

  pub word_name : key_before line at n ≡ NoKey → (r : Result Value Stuck) → SaysFrom line at n (λ c. inner_step n (in_text c at NoKey word [])) r → SaysFrom line at at first r
  word_name e r w =
      by_test (eqb n at) (λ t. no_word (eqb-true n at t) r w)
      (λ t. let m = further (eqb-false n at t) in
      said_before line at at n first (λ c. inner_step n (in_text c at NoKey word []))
      (λ s o h c. plain_run m s o h c ∙ through_same line s o h n (inner_step n (plain c at word)) (inner_step n (in_text c at NoKey word [])) (word_goes m e c)) r w)
    where
      further : (n ≡ at → ⊥) → at < n
      further g = omega (arith, run)

-- a key is spelled only before a colon, within the line
pub key_inside : (line : List ℕ) (at n : ℕ) (k : Key) → k ≡ key_before line at n → (k ≡ NoKey → ⊥) → get_or line n 0 ≡ colon
unfolding key_before
key_inside line at n k e f =
    by_test (eqb (get_or line n 0) colon) (eqb-true (get_or line n 0) colon) (λ t. absurd (f (e ∙ rw t)))

pub key_within : (line : List ℕ) (at n : ℕ) (k : Key) → k ≡ key_before line at n → (k ≡ NoKey → ⊥) → n < length line
key_within line at n k e f = let here = key_inside line at n k e f in stands_inside (λ b. eqb b colon) line n refl (rw here)

module _ (line : List ℕ) (at : ℕ) (inside : at < length line) (unsigned : is_sign (get_or line at 0) ≡ false) (no_hash : get_or line at 0 ≡ hash → ⊥) (n : ℕ)
    (run : n ≡ at + span is_plain (drop at line)) where
  pub word_key : (k : Key) → k ≡ key_before line at n → (k ≡ NoKey → ⊥) → (r : Result Value Stuck)
      → (n + 1 ≡ at + length (written k) → n + 1 ≤ length line → SaysFrom line at (n + 1) (opened at k (n + 1)) r) → SaysFrom line at at (λ c. inner_step at (begin c)) r
  unfolding key_before
  word_key k e f r w =
      let here = key_inside line at n k e f in
      let there = key_within line at n k e f in
      let s = a_key (part at (n - at) line) k (e ∙ rw here) f in
      let l : length (part at (n - at) line) ≡ n - at = length-take (n - at) (drop at line) ∙ (let z = length-drop at line in omega (arith, there)) in
      let m : at < n = omega (arith, s.some_byte, l, run) in
      said_before line at at (n + 1) (λ c. inner_step at (begin c)) (opened at k (n + 1))
      (λ t o h c. plain_run line at inside unsigned no_hash n run m t o h c
      ∙ through_going line t o h n (inner_step n (plain c at (part at (n - at) line))) (behind_key c at k (form k)) there
      (word_opens c at n (get_or line n 0) (part at (n - at) line) k here s.is)) r (w (omega (arith, s.long, l, m)) (omega (arith, there)))
