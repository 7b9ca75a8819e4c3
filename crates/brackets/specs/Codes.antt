-- The keys of tables are told apart by their codes.
use Rattle.std.specs.Prelude.{◌≡◌, refl, Bool, true, false, ◌∷◌, ℕ, ◌+◌, ◌≤◌, ◌<◌, eqb, ltb}
use Rattle.std.proofs.Common.{sym, ap, ◌∙◌, zero-add, arith, ne_eqb, ltb-true, ltb-false}
use Rattle.std.proofs.Math.ListN.{get_or-map, get_or-eq_default}
use Rattle.scope.specs.declared.grammar.Key.TheVariants.{NoKey, Limit}
use Rattle.scope.specs.Keys.{keys, key_code, key_in}
use Rattle.scope.specs.Lists.{tabled}
use Rattle.basics.specs.Tabled.{get_d_tabled}

-- how many codes of keys there are
abbrev pub key_codes : ℕ
key_codes = key_code Limit + 1

-- the key of a code, as a code again
key_code_lem : (n : ℕ) → n < key_codes → key_code (key_in n) ≡ n
unfolding keys tabled
key_code_lem n h = sym (get_or-map key_code (NoKey ∷ keys) n NoKey) ∙ get_d_tabled (λ x. x) 0 key_codes n 0 h ∙ zero-add n

no_code_lem : (n : ℕ) → key_codes ≤ n → key_code (key_in n) ≡ 0
unfolding keys
no_code_lem n h = ap key_code (get_or-eq_default (NoKey ∷ keys) NoKey h)

pub key_is : (n c : ℕ) → 0 < c → c < key_codes → eqb (key_code (key_in n)) c ≡ eqb n c
key_is n c p h = by (ltb n key_codes) refl
  where
    by : (t : Bool) → ltb n key_codes ≡ t → eqb (key_code (key_in n)) c ≡ eqb n c
    by true e = ap (λ (x : ℕ). eqb x c) (key_code_lem n (ltb-true n key_codes e))
    by false e =
        let far : key_codes ≤ n = ltb-false n key_codes e in
        ap (λ (x : ℕ). eqb x c) (no_code_lem n far) ∙ ne_eqb 0 c (λ q. omega arith) ∙ sym (ne_eqb n c (λ q. omega arith))
