-- The loop over the places of a bracket: those that it has not come to stand in the line from here on, and their sites are left. With their number in front and zeros
-- behind they are the row of places.
use mathlib.Core.Path.{◌≡◌, refl, sym, ap, subst}
use mathlib.Core.Bool.{Bool, true, ◌&&◌}
use mathlib.Core.List.{List, [], ◌∷◌, map}
use Prim.Native.Nat.{ℕ, ◌+◌, ◌-◌, ◌≤◌, ◌<◌}
use native.Mathlib.Omega.{arith}
use lib.Dec.{eqb}
use lib.ListN.{length, replicate, length-map}
use Rattle.scope.specs.Limits.{place_limit}
use Rattle.scope.specs.Line.{Place}
use Rattle.scope.specs.Lists.{padded}
use Rattle.scope.specs.Layout.{bytes_size, places_at, site_at, places_row, places_field, site_field}
use Rattle.layout_laws.specs.At.{At}
use Rattle.sites.specs.Says.{place_of, place_end, SiteIs, Stand}
use Rattle.store.specs.BracketPut.{PlacesFit}
use Rattle.held.specs.Tells.{Tells}
use Rattle.held.proofs.Joins.{tells_equal, tells_itself, tells_both, tells_joined, Joins, Left, left_more, left_end}
use Rattle.held.proofs.Places.{at_nil, at_cons, at_padded}

abbrev site_of : Place ℕ → ℕ
site_of p = p.site

-- ---- those behind stand from i on, and are left
pub record SitesUpto (line : List ℕ) (k : ℕ) (ps : List (Place ℕ)) (next : ℕ) (bytes : List ℕ) (i j : ℕ) (so : Bool) : Type 0 where
  pub behind : List (Place ℕ)
  pub many : length ps ≡ j + length behind
  pub stand : Stand line i behind next
  pub left : Left so (At bytes (site_at k j) (map site_of behind)) (At bytes (site_at k 0) (map site_of ps))

-- a place more, if one is left
record Further (line : List ℕ) (k : ℕ) (ps : List (Place ℕ)) (next : ℕ) (bytes : List ℕ) (i j : ℕ) (so : Bool) : Type 0 where
  stands : place_end line i ≤ length line
  then : {t : Bool} → Tells t (site_field bytes k j ≡ (place_of line i).site) → SitesUpto line k ps next bytes (place_end line i + 1) (j + 1) (so && t)

further : {line : List ℕ} {k : ℕ} {ps : List (Place ℕ)} {next : ℕ} {bytes : List ℕ} {i j : ℕ} {so : Bool} (behind : List (Place ℕ))
    → length ps ≡ j + length behind → Stand line i behind next → Left so (At bytes (site_at k j) (map site_of behind)) (At bytes (site_at k 0) (map site_of ps))
    → j < length ps → site_at k j < length bytes → Further line k ps next bytes i j so
further [] many stand left h room = absurd (omega arith)
further {line} {k} {ps} {next} {bytes} {i} {j} {so} (p ∷ behind) many stand left h room =
    record {
      stands = stand.0;
      then = λ v.
          record {
            behind = behind;
            many = omega arith;
            stand = stand.2;
            left =
                left_more left (at_cons bytes 0 p.site (site_at k j) (site_at k (j + 1)) (map site_of behind) (omega arith) room)
                (tells_both (tells_itself so) (rw (ap (λ x. x.site) stand.1) v));
          };
    }

none_left : (bytes : List ℕ) (n : ℕ) (behind : List (Place ℕ)) → length behind ≡ 0 → At bytes n (map site_of behind)
none_left bytes n [] e = at_nil bytes n
none_left bytes n (p ∷ behind) e = absurd (omega arith)

-- ---- the loop
pub record HoldingSites (line : List ℕ) (at n k : ℕ) (bytes : List ℕ) (i j : ℕ) (so : Bool) : Type 0 where
  pub few : j ≤ n
  pub upto : (ps : List (Place ℕ)) (f : PlacesFit line at n k ps) → SitesUpto line k ps f.next bytes i j so

pub siting_start : (line : List ℕ) (at n k : ℕ) (bytes : List ℕ) → HoldingSites line at n k bytes at 0 true
siting_start line at n k bytes =
    record {
      few = omega arith;
      upto = λ ps f. record { behind = ps; many = omega arith; stand = f.stand; left = record { on = λ e a. a; back = λ a. (refl, a) } };
    }

module _ {line : List ℕ} {at n k : ℕ} {bytes : List ℕ} {i j : ℕ} {so : Bool} (w : HoldingSites line at n k bytes i j so) (long : bytes_size ≤ length bytes) where
  more : (ps : List (Place ℕ)) (f : PlacesFit line at n k ps) → j < n → Further line k ps f.next bytes i j so
  more ps f h =
      let u = w.upto ps f in
      further u.behind u.many u.stand u.left (omega (arith, f.many)) (omega (arith, f.few, f.few_brackets_lem, long))

  module _ (s : (ps : List (Place ℕ)) × PlacesFit line at n k ps) (h : j < n) {site next : ℕ} (e : SiteIs line i site next) where
    there : place_end line i ≤ length line
    there = (more s.0 s.1 h).stands

    pub siting_ends : next ≤ length line
    siting_ends = omega (arith, (e there).1, there)

    pub siting_next : {x : ℕ} → x ≡ site_field bytes k j → HoldingSites line at n k bytes (next + 1) (j + 1) (so && eqb x site)
    siting_next {x} ex =
        record {
          few = omega arith;
          upto = λ ps f.
              subst (λ z. SitesUpto line k ps f.next bytes (z + 1) (j + 1) (so && eqb x site)) (sym (e there).1) ((more ps f h).then (tells_equal ex (e there).0));
        }

  pub siting_end : n ≤ j → (ps : List (Place ℕ)) → PlacesFit line at n k ps → Tells so (At bytes (site_at k 0) (map site_of ps))
  siting_end h ps f =
      let u = w.upto ps f in
      left_end u.left (none_left bytes (site_at k j) u.behind (omega (arith, f.many, u.many, w.few)))

-- ---- the row: their number, their sites, zeros behind
pub row_told : {line : List ℕ} {at n k : ℕ} {bytes : List ℕ} {x o : ℕ} {s z : Bool} → bytes_size ≤ length bytes → x ≡ places_field bytes k → o ≡ site_at k n
    → ((ps : List (Place ℕ)) → PlacesFit line at n k ps → Tells s (At bytes (site_at k 0) (map site_of ps))) → Tells z (At bytes o (replicate (place_limit - n) 0))
    → (ps : List (Place ℕ)) → PlacesFit line at n k ps → Tells ((eqb x n && s) && z) (At bytes (places_at k) (places_row ps))
row_told {n = n} {k = k} {bytes = bytes} {o = o} long ex eo sites zeros ps f =
    let l = length-map ps site_of in
    let m = f.many in
    let number = at_cons bytes 0 (length ps) (places_at k) (site_at k 0) (padded 0 place_limit (map site_of ps)) (omega arith) (omega (arith, f.few_brackets_lem, long)) in
    let row = at_padded bytes 0 place_limit (site_at k 0) o (place_limit - n) (map site_of ps) (omega arith) (omega arith) in
    tells_joined (regroup number row) (tells_both (tells_equal ex m) (sites ps f)) zeros
  where
    regroup : {A B C D E : Type 0} → Joins A D E → Joins B C D → Joins (A × B) C E
    regroup x y =
        record {
          on = λ p c. x.on p.0 (y.on p.1 c);
          back = λ e.
              let a = x.back e in
              let b = y.back a.1 in
              ((a.0, b.0), b.1);
        }
