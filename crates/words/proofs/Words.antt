-- A word and the bytes from a place to another; and the key that they spell: first letter and size leave one key, and its word decides. Assumes nothing.
use Prim.Native.Nat.{ℕ, zero, suc, ◌+◌, ◌-◌, ◌≤◌, ◌<◌}
use mathlib.Core.Path.{◌≡◌, refl, sym, ap, ◌∙◌}
use mathlib.Core.Bool.{Bool, true, false, not, cond, ◌||◌}
use mathlib.Core.Logic.{⊎_elim}
use mathlib.Core.List.{List, [], ◌∷◌}
use native.Mathlib.Omega.{arith}
use lib.Dec.{eqb, leb}
use lib.ListN.{length, get_or, take, drop, length-take, length-drop, get_or-eq_default}
use lib.Seq.{take-take, get_or-take, get_or-drop}
use borrow.Author.Tests.{eqb-true, eq-eqb, ne_eqb, leb-true}
use Rattle.std.proofs.lemmas.Bool.{lt-leb}
use Rattle.scope.specs.declared.grammar.Key.{Key}
use Rattle.scope.specs.declared.grammar.Key.TheVariants.{NoKey}
use Rattle.scope.specs.Bytes.{upper, same_folded}
use Rattle.scope.specs.Keys.{spell, keys, key_among, key_of, key_code, key_in}
use Rattle.scope.specs.Lists.{given, all, member, part}
use Rattle.basics.specs.Keys.{key_back, each_key}
use Rattle.basics.specs.Lists.{folded_length}
use Rattle.basics.specs.Members.{member_cons}
use Rattle.basics.specs.Tests.{falsely, and_left, and_right, implied}
use Rattle.words.specs.Words.{longest, may_be, key_found}

-- ---- a text of another size than a word
pub other_size : (word t : List ℕ) → (length word ≡ length t → ⊥) → eqb (length word) (length t) ≡ same_folded word t
other_size word t e = ne_eqb _ _ e ∙ sym (falsely (same_folded word t) (λ so. e (folded_length word t so)))

pub too_short : (word t : List ℕ) → length t < length word → leb (length word) (length t) ≡ same_folded word (take (length word) t)
too_short word t e =
    lt-leb _ _ e
    ∙ sym (falsely (same_folded word (take (length word) t)) (λ so. absurd (omega (arith, folded_length word (take (length word) t) so, length-take (length word) t))))

-- ---- the key that first letter and size leave
same_code : (j k : Key) → key_code j ≡ key_code k → j ≡ k
same_code j k e = sym (key_back j) ∙ ap key_in e ∙ key_back k

-- where every key whose word has such a first letter and size is this one, which is one test over the keys
abbrev right_for : (ℕ → ℕ → Bool) → Key → Key → Bool
right_for such r k = not (such (upper (get_or (spell k) 0 0)) (length (spell k))) || eqb (key_code r) (key_code k)

pub only_key : {first size : ℕ} (such : ℕ → ℕ → Bool) (r : Key) → all (right_for such r) (NoKey ∷ keys) ≡ true → such first size ≡ true
    → (k : Key) → may_be first size k ≡ true → r ≡ k
only_key {first} {size} such r e h k m =
    let begins = eqb-true (upper (get_or (spell k) 0 0)) first (and_left _ (eqb (length (spell k)) size) m) in
    let sized = eqb-true (length (spell k)) size (and_right (eqb (upper (get_or (spell k) 0 0)) first) _ m) in
    let so : such (upper (get_or (spell k) 0 0)) (length (spell k)) ≡ true = rw (begins, sized) h in
    same_code r k (eqb-true (key_code r) (key_code k) (implied (such (upper (get_or (spell k) 0 0)) (length (spell k))) _ (each_key (right_for such r) e k) so))

-- no key begins otherwise: the letters of the arms before, the last one first
abbrev pub NoneOf : List ℕ → ℕ → Type 0
NoneOf [] x = Unit {0}
NoneOf (b ∷ bs) x = NoneOf bs x × (x ≡ b → ⊥)

pub none_of : (bs : List ℕ) (x : ℕ) → NoneOf bs x → member x bs ≡ true → ⊥
unfolding member
none_of [] x h e = let y : ◌≡◌ {A = ℕ} 0 1 = cc in omega arith
none_of (b ∷ bs) x h e = ⊎_elim h.1 (λ q. none_of bs x h.0 q) (member_cons x b bs e)

pub short : (k : Key) → length (spell k) ≤ longest
unfolding all keys spell
short k = leb-true (length (spell k)) longest (each_key (λ k. leb (length (spell k)) longest) refl k)

-- ---- the key that a text spells
first_same : (x t : List ℕ) → 0 < length t → same_folded x t ≡ true → upper (get_or x 0 0) ≡ upper (get_or t 0 0)
unfolding same_folded
first_same x [] h e = absurd (omega arith)
first_same [] (b ∷ t) h e = absurd (let z : ◌≡◌ {A = ℕ} 0 1 = cc in omega arith)
first_same (a ∷ x) (b ∷ t) h e = eqb-true (upper a) (upper b) (and_left _ (same_folded x t) e)

empty_not : (t : List ℕ) → 0 < length t → same_folded (spell NoKey) t ≡ false
unfolding spell same_folded
empty_not [] h = absurd (omega arith)
empty_not (b ∷ t) h = refl

-- where every key that spells a text is the same one, that one decides
module _ (t : List ℕ) (some_text : 0 < length t) (key : Key) (one : (k : Key) → same_folded (spell k) t ≡ true → key ≡ k) where
  abbrev another : Key → Bool
  another k = not (same_folded (spell k) t)

  decided : (ks : List Key) → given (key_among ks t) (λ k. k) NoKey ≡ cond (all another ks) NoKey key
  unfolding key_among all
  decided [] = refl
  decided (k ∷ ks) = go (same_folded (spell k) t) refl (decided ks)
    where
      go : (b : Bool) → same_folded (spell k) t ≡ b → given (key_among ks t) (λ k. k) NoKey ≡ cond (all another ks) NoKey key
          → given (key_among (k ∷ ks) t) (λ k. k) NoKey ≡ cond (all another (k ∷ ks)) NoKey key
      go true e ih = rw e (sym (one k e))
      go false e ih = rw e ih

  all_others : (ks : List Key) → same_folded (spell key) t ≡ false → all another ks ≡ true
  unfolding all
  all_others [] e = refl
  all_others (k ∷ ks) e =
      let no : same_folded (spell k) t ≡ false = falsely (same_folded (spell k) t) (λ so. let z : ◌≡◌ {A = Bool} true false = sym so ∙ ap (λ j. same_folded (spell j) t) (sym (one k so)) ∙ e in let y : ◌≡◌ {A = ℕ} 0 1 = cc in omega arith) in
      rw no (all_others ks e)

  pub key_is_not : same_folded (spell key) t ≡ false → NoKey ≡ key_found t
  unfolding key_of
  key_is_not e = sym (decided keys ∙ rw (all_others keys e))

  not_all : same_folded (spell key) t ≡ true → all another keys ≡ false
  unfolding all
  not_all e =
      falsely (all another keys) (λ so.
      let no : another key ≡ true = each_key another (rw (empty_not t some_text) so) key in
      let z : ◌≡◌ {A = Bool} true false = sym no ∙ ap not e in
      let y : ◌≡◌ {A = ℕ} 0 1 = cc in
      omega arith)

  pub key_is : same_folded (spell key) t ≡ true → key ≡ key_found t
  unfolding key_of
  key_is e = sym (decided keys ∙ rw (not_all e))

-- ---- a text, by its first byte and its size
pub no_bytes : (t : List ℕ) → length t ≡ 0 → NoKey ≡ key_found t
unfolding key_of key_among keys spell same_folded
no_bytes [] e = refl
no_bytes (b ∷ t) e = absurd (omega arith)

module _ (t : List ℕ) (some : 0 < length t) {u : ℕ} (p : u ≡ upper (get_or t 0 0)) {key : Key} (q : (k : Key) → may_be u (length t) k ≡ true → key ≡ k) where
  one : (k : Key) → same_folded (spell k) t ≡ true → key ≡ k
  one k e = q k (rw (eq-eqb (upper (get_or (spell k) 0 0)) u (first_same (spell k) t some e ∙ sym p), eq-eqb (length (spell k)) (length t) (folded_length (spell k) t e)))

  pub key_decided : {b : Bool} → b ≡ same_folded (spell key) t → b ≡ true → key ≡ key_found t
  key_decided r e = key_is t some key one (sym r ∙ e)

  pub key_refused : {b : Bool} → b ≡ same_folded (spell key) t → b ≡ false → NoKey ≡ key_found t
  key_refused r e = key_is_not t some key one (sym r ∙ e)
