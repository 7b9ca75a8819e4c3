-- What the table says, and what the steps of the search promise.
use Rattle.std.specs.Prelude.{◌≡◌, Bool, true, false, ◌&&◌, List, Option, MatchOption, ℕ, ◌<◌, ◌≤◌, ◌+◌, ◌*◌, eqb, leb, ltb, get_or}
use Rattle.scope.specs.Limits.{copy_limit, position_limit}
use Rattle.areas.specs.Floats.{Sized}
use Rattle.scope.specs.Positions.{is_further}
use Rattle.placement_laws.specs.Standing.{place, Full, Good, Alike, Same}
use Rattle.placement_laws.specs.Where.{But, FreeBut, Grown, Shifting}
use Rattle.exchange.specs.Order.{Verdict}
use Rattle.exchange.specs.declared.Standing.{Standing}

-- floater s may stand at x
unfoldable pub may_in : List ℕ → ℕ → ℕ → Bool
may_in tab s x = ltb x position_limit && eqb (get_or tab (s * position_limit + x) 0) 1

-- and no lower than its least position
unfoldable pub may_from : List ℕ → List ℕ → ℕ → ℕ → Bool
may_from tab lows s x = leb (place lows s) x && may_in tab s x

-- floater s is a further copy, by the numbers of the copies
abbrev pub mark_in : List ℕ → ℕ → Bool
mark_in copy s = is_further (place copy s)

-- t is the first other than `but` that stands at x
pub record Owner (w : List ℕ) (k but x t : ℕ) : Type 0 where
  pub inside : t < k
  pub other : t ≡ but → ⊥
  pub stands : place w t ≡ x
  pub before : (u : ℕ) → u < t → (u ≡ but → ⊥) → place w u ≡ x → ⊥

-- the first, or nobody does
abbrev pub Owned : List ℕ → ℕ → ℕ → ℕ → Option ℕ → Type 0
Owned w k but x r = MatchOption r (FreeBut k but (place w) x) (λ t. Owner w k but x t)

-- s may stand at x and nobody but j does
abbrev pub Open : List ℕ → List ℕ → ℕ → ℕ → ℕ → ℕ → Bool → Type 0
Open tab w k j s x r =
    Verdict r ((may_in tab s x ≡ true) × FreeBut k j (place w) x) (may_in tab s x ≡ true → (t : ℕ) × (t < k) × (t ≡ j → ⊥) × (place w t ≡ x))

-- everywhere that s may stand somebody but j does
abbrev pub Taken : List ℕ → List ℕ → ℕ → ℕ → List ℕ → ℕ → Type 0
Taken tab lows k j w s = (x : ℕ) → may_from tab lows s x ≡ true → (t : ℕ) × (t < k) × (t ≡ j → ⊥) × (place w t ≡ x)

-- a position of s where nobody but j stands, or there is none
abbrev pub Spare : List ℕ → List ℕ → List ℕ → ℕ → ℕ → ℕ → Option ℕ → Type 0
Spare tab lows w k j s r = MatchOption r (Taken tab lows k j w s) (λ x. (may_from tab lows s x ≡ true) × FreeBut k j (place w) x)

abbrev pub Listed : List ℕ → ℕ → ℕ → Bool → Type 0
Listed order n t r = Verdict r ((a : ℕ) × (a < n) × (place order a ≡ t)) ((a : ℕ) → a < n → place order a ≡ t → ⊥)

abbrev pub GrownIn : List ℕ → List ℕ → ℕ → ℕ → ℕ → List ℕ → ℕ → List ℕ → List ℕ → Type 0
GrownIn tab lows k f j w n order parent = Grown (may_from tab lows) k f j (place w) n (place order) (place parent)

pub record Growing (tab lows : List ℕ) (k f h : ℕ) (w : List ℕ) (n : ℕ) (order parent : List ℕ) : Type 0 where
  pub sized : Sized tab k
  pub grown : GrownIn tab lows k f (place order 0) w n order parent
  pub but : But (may_from tab lows) k (place order 0) (place w)
  pub inside : h < n

-- more, with all from `from` and below `to` that stand where the h-th may
pub record Grew (tab lows : List ℕ) (k f h : ℕ) (w : List ℕ) (from to n : ℕ) (order : List ℕ) (n' : ℕ) (order' parent' : List ℕ) : Type 0 where
  pub grown : GrownIn tab lows k f (place order 0) w n' order' parent'
  pub more : n ≤ n'
  pub same : Same n (place order) (place order')
  pub reach : (t : ℕ) → from ≤ t → t < to → may_from tab lows (place order h) (place w t) ≡ true → (b : ℕ) × (b < n') × (place order' b ≡ t)

-- the way up is safe to walk
pub record Walkable (n h : ℕ) (order parent : List ℕ) : Type 0 where
  pub few : n ≤ copy_limit
  pub inside : h < n
  pub high : (a : ℕ) → a < n → place order a < copy_limit
  pub back : (a : ℕ) → 0 < a → a < n → place parent a < a

abbrev pub Shifted : List ℕ → ℕ → List ℕ → List ℕ → ℕ → ℕ → List ℕ → Type 0
Shifted w n order parent h x r =
    (ok : ℕ → ℕ → Bool) (k f j : ℕ) → Grown ok k f j (place w) n (place order) (place parent) → Shifting ok k f j (place w) n (place order) h x (place w) → Full ok k (place r) × Same f (place w) (place r)

pub record Augmentable (tab lows : List ℕ) (k f j : ℕ) (w : List ℕ) : Type 0 where
  pub sized : Sized tab k
  pub low : f ≤ j
  pub high : j < k
  pub but : But (may_from tab lows) k j (place w)

abbrev pub Augmented : List ℕ → List ℕ → ℕ → ℕ → List ℕ → Option Standing → Type 0
Augmented tab lows k f w r =
    MatchOption r ((u : ℕ → ℕ) → Full (may_from tab lows) k u → Same f (place w) u → ⊥)
    (λ v. Full (may_from tab lows) k (place v.at) × Same f (place w) (place v.at))

pub record ReadyFrom (tab lows : List ℕ) (k i : ℕ) (w : List ℕ) : Type 0 where
  pub sized : Sized tab k
  pub full : Full (may_from tab lows) k (place w)
  pub inside : i < k

-- no floater may stand below its least position
abbrev pub Lowest : List ℕ → ℕ → List ℕ → Type 0
Lowest tab k lows = (s x : ℕ) → s < k → may_in tab s x ≡ true → place lows s ≤ x

-- the first position of s, or positionLimit
abbrev pub FirstOf : List ℕ → ℕ → ℕ → Type 0
FirstOf tab s r = (x : ℕ) → may_in tab s x ≡ true → r ≤ x

-- least positions raised to `low` for i and the floaters behind it up to `end`, further copies all
pub record RaisedTo (mark : ℕ → Bool) (k i low end : ℕ) (old lows : List ℕ) : Type 0 where
  pub some : i < end
  pub inside : end ≤ k
  pub further : (s : ℕ) → i < s → s < end → mark s ≡ true
  pub raised : (s : ℕ) → i ≤ s → s < end → place lows s ≡ low
  pub before : (s : ℕ) → s < i → place lows s ≡ place old s
  pub behind : (s : ℕ) → end ≤ s → place lows s ≡ place old s

-- for i and all further copies directly behind it
pub record Raised (mark : ℕ → Bool) (k i low : ℕ) (old lows : List ℕ) : Type 0 where
  pub end : ℕ
  pub to : RaisedTo mark k i low end old lows
  pub ends : end < k → mark end ≡ false

-- what the search for the next placement begins with
pub record Continuing (tab copy : List ℕ) (k : ℕ) (w : List ℕ) : Type 0 where
  pub sized : Sized tab k
  pub alike : Alike (may_in tab) (mark_in copy) k
  pub good : Good (may_in tab) (mark_in copy) k (place w)
