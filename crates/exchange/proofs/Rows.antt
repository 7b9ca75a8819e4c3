-- The table as lists of positions, and the numbers of the copies as marks: the list of a floater has exactly the positions where it may stand.
use mathlib.Core.Path.{◌≡◌, sym, ap, ◌∙◌}
use mathlib.Core.Bool.{true, false}
use mathlib.Core.List.{List, [], map}
use Prim.Native.Nat.{ℕ, ◌<◌, ◌+◌, ◌*◌}
use native.Mathlib.Nat.{zero-add}
use native.Mathlib.Omega.{arith}
use lib.Dec.{eqb}
use lib.ListN.{length, get_or, take, get_or-map}
use lib.Seq.{get_or-take}
use Rattle.scope.specs.Limits.{position_limit}
use Rattle.scope.specs.Lists.{tabled}
use Rattle.areas.specs.Floats.{list_in, lists_in}
use Rattle.scope.specs.Positions.{is_further}
use Rattle.exchange.specs.Table.{may_in, mark_in}
use Rattle.exchange.proofs.Laws.{ok_small, ok_is}
use Rattle.basics.specs.Each.{In}
use Rattle.basics.specs.Members.{in_keep, keep_in}
use Rattle.basics.specs.Tabled.{length_tabled, get_d_tabled, in_tabled, tabled_in}

pub lists_many : (tab : List ℕ) (k : ℕ) → length (lists_in tab k) ≡ k
unfolding lists_in
lists_many tab k = length_tabled (list_in tab) 0 k

pub lists_at : (tab : List ℕ) (k s : ℕ) → s < k → get_or (lists_in tab k) s [] ≡ list_in tab s
unfolding lists_in
lists_at tab k s h = get_d_tabled (list_in tab) 0 k s [] h ∙ ap (list_in tab) (zero-add s)

pub list_may : (tab : List ℕ) (s x : ℕ) → In x (list_in tab s) → may_in tab s x ≡ true
unfolding list_in
list_may tab s x h =
    let z = in_keep (λ y. eqb (get_or tab (s * position_limit + y) 0) 1) x (tabled (λ y. y) 0 position_limit) h in
    ok_is tab s x (in_tabled 0 position_limit x z.0).1 ∙ z.1

pub may_list : (tab : List ℕ) (s x : ℕ) → may_in tab s x ≡ true → In x (list_in tab s)
unfolding list_in
may_list tab s x e =
    let h : x < position_limit = ok_small tab s x e in
    keep_in (λ y. eqb (get_or tab (s * position_limit + y) 0) 1) x (tabled (λ y. y) 0 position_limit) (tabled_in 0 position_limit x (omega arith) h) (sym (ok_is tab s x h) ∙ e)

-- ---- marks
pub marks_at : (copy : List ℕ) (k s : ℕ) → s < k → get_or (map is_further (take k copy)) s false ≡ mark_in copy s
marks_at copy k s l = get_or-map is_further (take k copy) s 0 ∙ ap is_further (get_or-take k copy s 0 l)
