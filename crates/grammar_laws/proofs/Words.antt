-- Key words: a word that folds to a key's spelling is that key, and no other; it is of letters alone.
use Rattle.std.specs.Prelude.{ℕ, ◌-◌, ◌≡◌, refl, Bool, true, false, not, cond, ◌&&◌, ◌||◌, List, [], ◌∷◌, ◌++◌, eqb, leb, length}
use Rattle.std.proofs.Common.{arith, sym, ap, ◌∙◌, subst, append_assoc, append-nil, length-append, eqb-true, leb-true, le-leb}
use Rattle.std.proofs.lemmas.Bool.{false≢true, not-true}
use Rattle.std.proofs.Math.Option.{Option, none, some, some-injective, none-ne-some}
use Rattle.scope.specs.declared.grammar.Key.{Key}
use Rattle.scope.specs.declared.grammar.Key.TheVariants.{NoKey, U, M, R, X, G, C, Obs, Unimod, Mod, Xlmod, Resid, Gno, Info, Formula, Glycan, Position, Limit}
use Rattle.scope.specs.Bytes.{upper, is_upper, is_lower, is_letter, colon, same_folded}
use Rattle.scope.specs.Keys.{spell, keys, key_among, key_of, written}
use Rattle.basics.specs.Choice.{branch_on, pick_true, pick_false}
use Rattle.basics.specs.Each.{Each}
use Rattle.basics.specs.Tests.{and_left, and_right, both, or_first, or_second}
use Rattle.scope.specs.Lists.{all as every, there?}
use Rattle.scope.specs.Grammar.{with_colon, lead_key}
use Rattle.basics.specs.Lists.{folded_length}

-- ---- two spellings that fold to one
folded_both : (x a b : List ℕ) → same_folded a b ≡ true → same_folded x a ≡ same_folded x b
unfolding same_folded
folded_both [] [] [] e = refl
folded_both [] [] (z ∷ b) e = absurd (false≢true e)
folded_both [] (y ∷ a) [] e = absurd (false≢true e)
folded_both [] (y ∷ a) (z ∷ b) e = refl
folded_both (w ∷ x) [] [] e = refl
folded_both (w ∷ x) [] (z ∷ b) e = absurd (false≢true e)
folded_both (w ∷ x) (y ∷ a) [] e = absurd (false≢true e)
folded_both (w ∷ x) (y ∷ a) (z ∷ b) e =
    ap (λ u. eqb (upper w) u && same_folded x a) (eqb-true (upper y) (upper z) (and_left (eqb (upper y) (upper z)) (same_folded a b) e))
    ∙ ap (λ u. eqb (upper w) (upper z) && u) (folded_both x a b (and_right (eqb (upper y) (upper z)) (same_folded a b) e))

among_folded : (ks : List Key) (a b : List ℕ) → same_folded a b ≡ true → key_among ks a ≡ key_among ks b
unfolding key_among
among_folded [] a b e = refl
among_folded (k ∷ ks) a b e = ap (λ t. cond t (some k) (key_among ks a)) (folded_both (spell k) a b e) ∙ ap (λ o. cond (same_folded (spell k) b) (some k) o) (among_folded ks a b e)

key_folded : (a b : List ℕ) → same_folded a b ≡ true → key_of a ≡ key_of b
unfolding key_of
key_folded a b e = among_folded keys a b e

itself : (k : Key) (x : ℕ) (t : List ℕ) → same_folded (spell k) (x ∷ t) ≡ true → key_of (spell k) ≡ some k
unfolding spell key_of keys key_among same_folded upper
itself NoKey x t e = absurd (false≢true e)
itself U x t e = refl
itself M x t e = refl
itself R x t e = refl
itself X x t e = refl
itself G x t e = refl
itself C x t e = refl
itself Obs x t e = refl
itself Unimod x t e = refl
itself Mod x t e = refl
itself Xlmod x t e = refl
itself Resid x t e = refl
itself Gno x t e = refl
itself Info x t e = refl
itself Formula x t e = refl
itself Glycan x t e = refl
itself Position x t e = refl
itself Limit x t e = refl

-- a good word names its key
pub word_key : (k : Key) (x : ℕ) (t : List ℕ) → same_folded (spell k) (x ∷ t) ≡ true → key_of (x ∷ t) ≡ some k
word_key k x t e = sym (key_folded (spell k) (x ∷ t) e) ∙ itself k x t e

-- no word, no key
pub word_none : (k : Key) → same_folded (spell k) [] ≡ true → k ≡ NoKey
unfolding spell same_folded
word_none NoKey e = refl
word_none U e = absurd (false≢true e)
word_none M e = absurd (false≢true e)
word_none R e = absurd (false≢true e)
word_none X e = absurd (false≢true e)
word_none G e = absurd (false≢true e)
word_none C e = absurd (false≢true e)
word_none Obs e = absurd (false≢true e)
word_none Unimod e = absurd (false≢true e)
word_none Mod e = absurd (false≢true e)
word_none Xlmod e = absurd (false≢true e)
word_none Resid e = absurd (false≢true e)
word_none Gno e = absurd (false≢true e)
word_none Info e = absurd (false≢true e)
word_none Formula e = absurd (false≢true e)
word_none Glycan e = absurd (false≢true e)
word_none Position e = absurd (false≢true e)
word_none Limit e = absurd (false≢true e)

pub no_word : same_folded (spell NoKey) [] ≡ true
unfolding spell same_folded
no_word = refl

-- ---- a key that is found
record KeyNamed (t : List ℕ) (k : Key) : Type 0 where
  pub folds : same_folded (spell k) t ≡ true
  pub letters : every is_letter (spell k) ≡ true

all_letters : Each (λ k. every is_letter (spell k) ≡ true) keys
unfolding keys spell every
all_letters = (refl, (refl, (refl, (refl, (refl, (refl, (refl, (refl, (refl, (refl, (refl, (refl, (refl, (refl, (refl, (refl, (refl, tt)))))))))))))))))

among_named : (ks : List Key) (t : List ℕ) (k : Key) → Each (λ q. every is_letter (spell q) ≡ true) ks → key_among ks t ≡ some k → KeyNamed t k
unfolding key_among
among_named [] t k w e = absurd (none-ne-some k e)
among_named (q ∷ ks) t k w e = go (same_folded (spell q) t) refl e (λ f. among_named ks t k w.1 f)
  where
    go : (b : Bool) → same_folded (spell q) t ≡ b → cond b (some q) (key_among ks t) ≡ some k → (key_among ks t ≡ some k → KeyNamed t k) → KeyNamed t k
    go true f e ih = subst (λ (z : Key). KeyNamed t z) (some-injective q k e) (record { folds = f; letters = w.0 })
    go false f e ih = ih e

named : (t : List ℕ) (k : Key) → key_of t ≡ some k → KeyNamed t k
unfolding key_of
named t k e = among_named keys t k all_letters e

pub key_word : (t : List ℕ) (k : Key) → key_of t ≡ some k → same_folded (spell k) t ≡ true
key_word t k e = (named t k e).folds

pub key_none : key_of [] ≡ none
unfolding key_of keys key_among same_folded spell
key_none = refl

-- ---- the bytes of a key word are letters
folded_letter : (x y : ℕ) → upper x ≡ upper y → is_letter x ≡ true → is_letter y ≡ true
unfolding upper
folded_letter x y e h = go (is_lower x) (is_lower y) refl refl
  where
    capital : (z : ℕ) → is_lower z ≡ true → is_upper (z - 32) ≡ true
    capital z q =
        let a = leb-true 97 z (and_left (leb 97 z) (leb z 122) q) in
        let b = leb-true z 122 (and_right (leb 97 z) (leb z 122) q) in
        both (leb 65 (z - 32)) (leb (z - 32) 90) (le-leb 65 (z - 32) (omega arith)) (le-leb (z - 32) 90 (omega arith))

    either : (u v : Bool) → (u || v) ≡ true → v ≡ false → u ≡ true
    either true v p q = refl
    either false v p q = absurd (false≢true (sym q ∙ p))

    go : (p q : Bool) → is_lower x ≡ p → is_lower y ≡ q → is_letter y ≡ true
    go p true f g = or_second (is_upper y) (is_lower y) g
    go true false f g =
        let z : y ≡ x - 32 = sym (pick_false (is_lower y) (y - 32) y g) ∙ sym e ∙ pick_true (is_lower x) (x - 32) x f in
        or_first (is_upper y) (is_lower y) (ap is_upper z ∙ capital x f)
    go false false f g =
        let z : y ≡ x = sym (pick_false (is_lower y) (y - 32) y g) ∙ sym e ∙ pick_false (is_lower x) (x - 32) x f in
        ap is_letter z ∙ h

folded_letters : (a b : List ℕ) → same_folded a b ≡ true → every is_letter a ≡ true → every is_letter b ≡ true
unfolding same_folded every
folded_letters [] [] e h = refl
folded_letters [] (y ∷ b) e h = absurd (false≢true e)
folded_letters (x ∷ a) [] e h = absurd (false≢true e)
folded_letters (x ∷ a) (y ∷ b) e h =
    both (is_letter y) (every is_letter b)
    (folded_letter x y (eqb-true (upper x) (upper y) (and_left (eqb (upper x) (upper y)) (same_folded a b) e)) (and_left (is_letter x) (every is_letter a) h))
    (folded_letters a b (and_right (eqb (upper x) (upper y)) (same_folded a b) e) (and_right (is_letter x) (every is_letter a) h))

pub key_letters : (t : List ℕ) (k : Key) → key_of t ≡ some k → every is_letter t ≡ true
key_letters t k e = folded_letters (spell k) t (named t k e).folds (named t k e).letters

-- a word with a byte in it that is no letter is no key
unlettered : (t r : List ℕ) (b : ℕ) → is_letter b ≡ false → every is_letter (t ++ (b ∷ r)) ≡ false
unfolding every
unlettered [] r b e = ap (λ z. z && every is_letter r) e
unlettered (x ∷ t) r b e = ap (λ z. is_letter x && z) (unlettered t r b e) ∙ last (is_letter x)
  where
    last : (z : Bool) → (z && false) ≡ false
    last true = refl
    last false = refl

pub key_unlettered : (t r : List ℕ) (b : ℕ) → is_letter b ≡ false → key_of (t ++ (b ∷ r)) ≡ none
key_unlettered t r b e = go (key_of (t ++ (b ∷ r))) refl
  where
    go : (o : Option Key) → key_of (t ++ (b ∷ r)) ≡ o → key_of (t ++ (b ∷ r)) ≡ none
    go none f = f
    go (some k) f = absurd (false≢true (sym (unlettered t r b e) ∙ key_letters (t ++ (b ∷ r)) k f))

-- ---- the key with which bytes begin
pub lead_over : (w t r : List ℕ) → every (λ b. not (eqb b colon)) t ≡ true → lead_key w (t ++ r) ≡ lead_key (w ++ t) r
unfolding lead_key every
lead_over w [] r e = ap (λ z. lead_key z r) (sym (append-nil w))
lead_over w (b ∷ t) r e =
    pick_false (eqb b colon) _ _ (not-true (eqb b colon) (and_left (not (eqb b colon)) (every (λ b. not (eqb b colon)) t) e))
    ∙ lead_over (w ++ (b ∷ [])) t r (and_right (not (eqb b colon)) (every (λ b. not (eqb b colon)) t) e)
    ∙ ap (λ z. lead_key z r) (append_assoc w (b ∷ []) t)

pub lead_colon : (w r : List ℕ) → lead_key w (colon ∷ r) ≡ key_of w
unfolding lead_key
lead_colon w r = refl

-- a word that holds a byte that is no letter begins no key
lead_spoilt : (w v r : List ℕ) (b : ℕ) → is_letter b ≡ false → lead_key (w ++ (b ∷ v)) r ≡ none
unfolding lead_key
lead_spoilt w v [] b e = refl
lead_spoilt w v (x ∷ r) b e =
    branch_on (λ o. o ≡ none) (eqb x colon) (λ q. key_unlettered w v b e)
    (λ q. ap (λ z. lead_key z r) (append_assoc w (b ∷ v) (x ∷ [])) ∙ lead_spoilt w (v ++ (x ∷ [])) r b e)

pub lead_none : (w r : List ℕ) (b : ℕ) → is_letter b ≡ false → eqb b colon ≡ false → lead_key w (b ∷ r) ≡ none
unfolding lead_key
lead_none w r b e f = pick_false (eqb b colon) _ _ f ∙ lead_spoilt w [] r b e

pub no_key : (o : Option Key) → not (there? o) ≡ true → o ≡ none
no_key none e = refl
no_key (some k) e = absurd (false≢true e)

-- ---- a key is as long as it is written
pub colon_length : (v w : List ℕ) → length v ≡ length w → length (with_colon v) ≡ length (with_colon w)
colon_length [] [] e = refl
colon_length [] (b ∷ w) e = absurd (omega arith)
colon_length (a ∷ v) [] e = absurd (omega arith)
colon_length (a ∷ v) (b ∷ w) e = simp length-append (omega arith)

pub written_is : (k : Key) → written k ≡ with_colon (spell k)
unfolding written
written_is k = by (spell k) refl
  where
    by : (l : List ℕ) → spell k ≡ l → written k ≡ with_colon l
    by [] e = rw e
    by (b ∷ l) e = rw e

pub word_length : (k : Key) (w : List ℕ) → same_folded (spell k) w ≡ true → length (with_colon w) ≡ length (written k)
word_length k w e = sym (colon_length (spell k) w (folded_length (spell k) w e)) ∙ sym (ap length (written_is k))
