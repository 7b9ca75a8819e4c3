-- A key's code gives the key back; a rule over keys is one test, computed over the list.
use Rattle.std.specs.Prelude.{◌≡◌, refl, Bool, true, List, [], ◌∷◌, ℕ, zero, suc, get_or}
use Rattle.std.proofs.Common.{subst}
use Rattle.scope.specs.declared.grammar.Key.{Key}
use Rattle.scope.specs.declared.grammar.Key.TheVariants.{NoKey, U, M, R, X, G, C, Obs, Unimod, Mod, Xlmod, Resid, Gno, Info, Formula, Glycan, Position, Limit}
use Rattle.scope.specs.Keys.{keys, key_code, key_in}
use Rattle.scope.specs.Lists.{all}
use Rattle.basics.specs.Tests.{and_left, and_right}

pub key_back : (k : Key) → key_in (key_code k) ≡ k
unfolding keys
key_back NoKey = refl
key_back U = refl
key_back M = refl
key_back R = refl
key_back X = refl
key_back G = refl
key_back C = refl
key_back Obs = refl
key_back Unimod = refl
key_back Mod = refl
key_back Xlmod = refl
key_back Resid = refl
key_back Gno = refl
key_back Info = refl
key_back Formula = refl
key_back Glycan = refl
key_back Position = refl
key_back Limit = refl

all_at : (P : Key → Bool) (l : List Key) (i : ℕ) → P NoKey ≡ true → all P l ≡ true → P (get_or l i NoKey) ≡ true
unfolding all
all_at P [] zero n e = n
all_at P [] (suc i) n e = n
all_at P (k ∷ l) zero n e = and_left (P k) (all P l) e
all_at P (k ∷ l) (suc i) n e = all_at P l i n (and_right (P k) (all P l) e)

pub each_key : (P : Key → Bool) → all P (NoKey ∷ keys) ≡ true → (k : Key) → P k ≡ true
unfolding all
each_key P e k = subst (λ x. P x ≡ true) (key_back k) (all_at P (NoKey ∷ keys) (key_code k) (and_left (P NoKey) (all P keys) e) e)
