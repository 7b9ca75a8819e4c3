-- Keys before a colon, names that end at `]`, and references.
use mathlib.Core.Path.{◌≡◌, refl, sym, ap, ◌∙◌}
use mathlib.Core.Bool.{Bool, true, false, cond, ◌&&◌}
use mathlib.Core.List.{List, []}
use Prim.Native.Nat.{ℕ, ◌+◌, ◌-◌, ◌<◌, ◌≤◌}
use native.Mathlib.Omega.{arith}
use borrow.Author.Tests.{eq-eqb, ne_eqb}
use lib.Dec.{eqb}
use lib.ListN.{length, get_or, get_or-eq_default}
use Rattle.scope.specs.declared.grammar.Key.{Key}
use Rattle.scope.specs.declared.grammar.Key.TheVariants.{NoKey}
use Rattle.scope.specs.Bytes.{hash, colon, shut_square, is_sign}
use Rattle.scope.specs.Keys.{spell, written}
use Rattle.scope.specs.Line.{reference}
use Rattle.scope.specs.Lists.{none?, part}
use Rattle.scope.specs.Content.{text_step, Context, begin, in_text, hashed, lost, going, value_end, text_end, unlabelled, inner_step}
use Rattle.words.specs.Words.{key_found}
use Rattle.std.specs.Prelude.{Result, Ok, Err}
use Rattle.scope.specs.declared.grammar.Stuck.{Stuck}
use Rattle.values.specs.declared.Value.{Value}
use Rattle.values.specs.Says.{ValueSays}
use Rattle.values.specs.Within.{SaysFrom, key_before}
use Rattle.values.proofs.Through.{through_same, through_lost}
use Rattle.values.proofs.Saying.{alike}
use Rattle.values.specs.declared.Body.TheVariants.{Reference}
use Rattle.values.proofs.Values.{made}

-- ---- signs and keys
pub unsigned_over : (line : List ℕ) (j : ℕ) → length line ≤ j → false ≡ is_sign (get_or line j 0)
unsigned_over line j k = ap is_sign (sym (get_or-eq_default line 0 k))

module _ (line : List ℕ) (at n : ℕ) where
  pub key_over : length line ≤ n → NoKey ≡ key_before line at n
  unfolding key_before
  key_over k = ap (λ b. cond (eqb b colon) (key_found (part at (n - at) line)) NoKey) (sym (get_or-eq_default line 0 k))

  pub key_there : (k : Key) → get_or line n 0 ≡ colon → k ≡ key_found (part at (n - at) line) → k ≡ key_before line at n
  unfolding key_before
  key_there k e f = rw (eq-eqb (get_or line n 0) colon e) f

  pub no_colon : (get_or line n 0 ≡ colon → ⊥) → NoKey ≡ key_before line at n
  unfolding key_before
  no_colon e = rw (ne_eqb (get_or line n 0) colon e)

-- a part without a key begins with its text
pub no_key_behind : (at : ℕ) → at ≡ at + length (written NoKey)
unfolding written spell
no_key_behind at = omega arith

-- ---- a name ends at `]`
shut_ends : (c : Context ℕ) (at i b : ℕ) (t : List ℕ) → b ≡ shut_square → inner_step i (in_text c at NoKey t []) b ≡ text_end c at NoKey t [] b
unfolding inner_step text_step
shut_ends c at i b t e = rw e

pub name_shut : (line : List ℕ) (at n : ℕ) (t : List ℕ) → get_or line n 0 ≡ shut_square → (r : Result Value Stuck)
    → SaysFrom line at n (λ c. text_end c at NoKey t []) r → SaysFrom line at n (λ c. inner_step n (in_text c at NoKey t [])) r
name_shut line at n t e r w =
    alike line at n (λ c. inner_step n (in_text c at NoKey t [])) (λ c. text_end c at NoKey t []) (λ c k. shut_ends c at n (get_or line n 0) t e) r w

-- ---- references
hash_first : (c : Context ℕ) (at b : ℕ) (refers : Bool) → b ≡ hash → (c.refers && none? c.parts) ≡ refers
    → inner_step at (begin c) b ≡ cond refers (going (hashed c (unlabelled at NoKey reference))) lost
unfolding inner_step text_step
hash_first c at b refers e f = rw (e, f)

hash_behind : (c : Context ℕ) (at b : ℕ) → b ≡ hash → c.labels ≡ true → value_end c (unlabelled at NoKey reference) b ≡ going (hashed c (unlabelled at NoKey reference))
unfolding value_end
hash_behind c at b e f = rw (e, f)

module _ (line : List ℕ) (at : ℕ) (refers? : Bool) (inside : at < length line) (hashed-there : get_or line at 0 ≡ hash) where
  pub refers : refers? ≡ true → ValueSays line at refers? (Ok (made NoKey Reference at at))
  refers e =
      record {
        found = unlabelled at NoKey reference;
        is_value = record {
          is = refl;
          place = refl;
          bare = refl;
          stands = record { as_read = tt; text_is = refl; text_inside = omega arith; label_is = refl; label_inside = omega arith };
          ends = refl;
          past = omega arith;
          within = omega arith;
          from_inside = omega arith;
        };
        on = λ s o h c g. through_same line s o h at (inner_step at (begin c)) (value_end c (unlabelled at NoKey reference))
            (λ m. hash_first c at (get_or line at 0) refers? hashed-there g.refers_is ∙ ap (λ x. cond x (going (hashed c (unlabelled at NoKey reference))) lost) e
            ∙ sym (hash_behind c at (get_or line at 0) hashed-there (g.with_labels e)));
      }

  pub refers_not : refers? ≡ false → ValueSays line at refers? (Err (record { at = at }))
  refers_not e = λ s o h c g.
      through_lost line s o h at (inner_step at (begin c)) inside
      (hash_first c at (get_or line at 0) refers? hashed-there g.refers_is ∙ ap (λ x. cond x (going (hashed c (unlabelled at NoKey reference))) lost) e)
