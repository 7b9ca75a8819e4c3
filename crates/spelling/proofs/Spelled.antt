-- What is written of a key is its word and a colon, or nothing where it has no word: one test over the keys. Assumes nothing.
use mathlib.Core.Path.{◌≡◌, refl, sym, ap, ◌∙◌}
use mathlib.Core.Bool.{cond}
use mathlib.Core.List.{List, [], ◌∷◌, ◌++◌}
use Prim.Native.Nat.{ℕ, ◌≤◌}
use native.Mathlib.Omega.{arith}
use lib.Dec.{eqb}
use lib.ListN.{length}
use borrow.Author.Tests.{eq-eqb, ne_eqb}
use Rattle.scope.specs.declared.grammar.Key.{Key}
use Rattle.scope.specs.Bytes.{colon}
use Rattle.scope.specs.Keys.{written, spell, keys}
use Rattle.scope.specs.Lists.{all, same}
use Rattle.basics.specs.Keys.{each_key}
use Rattle.basics.specs.Lists.{same_law}
use Rattle.words.specs.Words.{longest}
use Rattle.words.proofs.Words.{short}
use Rattle.figures.specs.Written.{Puts}
use Rattle.figures.proofs.Storing.{puts_of, puts_join, puts_within, puts_none}
use Rattle.spelling.specs.Widths.{key_most}

abbrev word_and_colon : List ℕ → List ℕ
word_and_colon t = cond (eqb (length t) 0) [] (t ++ (colon ∷ []))

written_so : (k : Key) → word_and_colon (spell k) ≡ written k
unfolding written spell keys all same
written_so k = (same_law (word_and_colon (spell k)) (written k)).0 (each_key (λ k. same (word_and_colon (spell k)) (written k)) refl k)

module _ (k : Key) {w : List ℕ} (is : w ≡ spell k) where
  pub puts_no_key : {o : List ℕ} {at : ℕ} → length w ≡ 0 → Puts key_most o at (written k) o at
  puts_no_key {o} {at} e =
      let z : word_and_colon (spell k) ≡ [] = rw (eq-eqb (length (spell k)) 0 (ap length (sym is) ∙ e)) in
      puts_of (sym z ∙ written_so k) (puts_within (omega arith) (puts_none o at))

  pub few : length w ≤ longest
  few = omega (arith, short k, ap length is)

  -- the word, then the colon
  pub puts_key : {at q r : ℕ} {o p o' : List ℕ} → (length w ≡ 0 → ⊥) → Puts (length w) o at w p q → Puts 1 p q (colon ∷ []) o' r → Puts key_most o at (written k) o' r
  puts_key some v u =
      let z : word_and_colon (spell k) ≡ spell k ++ (colon ∷ []) = rw (ne_eqb (length (spell k)) 0 (λ q. some (ap length is ∙ q))) in
      puts_of (sym z ∙ written_so k) (puts_within (omega (arith, few)) (puts_join (puts_of is v) u))
