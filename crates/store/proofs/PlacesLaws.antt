-- The loop over the places of a bracket: the areas hold the sites of those that are passed, and the next ones stand in the line from here on.
use mathlib.Core.Path.{◌≡◌, refl, sym, ap, subst, ◌∙◌}
use mathlib.Core.List.{List, [], ◌∷◌, ◌++◌, map, append_assoc, append-nil, map-append}
use Prim.Native.Nat.{ℕ, suc, ◌+◌, ◌≤◌, ◌<◌}
use native.Mathlib.Omega.{arith}
use lib.ListN.{length, set, length-append, length-map}
use lib.Seq.{sets}
use Rattle.scope.specs.Line.{Place}
use Rattle.scope.specs.Layout.{places_at, site_at}
use Rattle.sites.specs.Says.{place_of, place_end, SiteIs, Stand}
use Rattle.store.specs.BracketPut.{places_put, PlacesFit}
use Rattle.store.proofs.Copies.{sets_snoc}

abbrev site_of : Place ℕ → ℕ
site_of p = p.site

-- ---- those before j are put, those behind stand from i on
pub record PlacedUpto (line : List ℕ) (k : ℕ) (ps : List (Place ℕ)) (next : ℕ) (bytes₀ : List ℕ) (i j : ℕ) (bytes : List ℕ) : Type 0 where
  pub before : List (Place ℕ)
  pub behind : List (Place ℕ)
  pub is : ps ≡ before ++ behind
  pub place : j ≡ length before
  pub stand : Stand line i behind next
  pub put : bytes ≡ sets bytes₀ (site_at k 0) (map site_of before)

-- a place more, if one is left
record Further (line : List ℕ) (k : ℕ) (ps : List (Place ℕ)) (next : ℕ) (bytes₀ : List ℕ) (i j : ℕ) (bytes : List ℕ) : Type 0 where
  stands : place_end line i ≤ length line
  then : PlacedUpto line k ps next bytes₀ (place_end line i + 1) (j + 1) (set bytes (site_at k j) (place_of line i).site)

further : {line : List ℕ} {k : ℕ} {ps : List (Place ℕ)} {next : ℕ} {bytes₀ : List ℕ} {i j : ℕ} {bytes : List ℕ} (before behind : List (Place ℕ))
    → ps ≡ before ++ behind → j ≡ length before → Stand line i behind next → bytes ≡ sets bytes₀ (site_at k 0) (map site_of before) → j < length ps
    → Further line k ps next bytes₀ i j bytes
further before [] is place stand put h = absurd (omega (arith, ap length is, length-append before []))
further {line} {k} {ps} {next} {bytes₀} {i} {j} {bytes} before (p ∷ behind) is place stand put h =
    let site = (place_of line i).site in
    let sites = map site_of before in
    let l = length-map before site_of in
    let at : site_at k 0 + length sites ≡ site_at k j = omega arith in
    record {
      stands = stand.0;
      then =
          record {
            before = before ++ (p ∷ []);
            behind = behind;
            is = is ∙ sym (append_assoc before (p ∷ []) behind);
            place = omega (arith, length-append before (p ∷ []));
            stand = stand.2;
            put =
                ap (λ x. set x (site_at k j) site) put
                ∙ ap (λ x. set (sets bytes₀ (site_at k 0) sites) x site) (sym at)
                ∙ sym (sets_snoc bytes₀ (site_at k 0) sites site)
                ∙ ap (λ x. sets bytes₀ (site_at k 0) (sites ++ (x.site ∷ []))) (sym stand.1)
                ∙ ap (sets bytes₀ (site_at k 0)) (sym (map-append site_of before (p ∷ [])));
          };
    }

none_left : {ps : List (Place ℕ)} (before behind : List (Place ℕ)) → ps ≡ before ++ behind → length ps ≤ length before → before ≡ ps
none_left before [] is h = sym (append-nil before) ∙ sym is
none_left before (p ∷ behind) is h = absurd (omega (arith, ap length is, length-append before (p ∷ behind)))

-- ---- the loop, behind their number
pub record StoringPlaces (line : List ℕ) (at n k : ℕ) (bytes₀ : List ℕ) (i j : ℕ) (bytes : List ℕ) : Type 0 where
  pub few : j ≤ n
  pub upto : (ps : List (Place ℕ)) (f : PlacesFit line at n k ps) → PlacedUpto line k ps f.next bytes₀ i j bytes

pub placing_start : (line : List ℕ) (at n k : ℕ) (bytes : List ℕ) → StoringPlaces line at n k bytes at 0 bytes
placing_start line at n k bytes =
    record {
      few = omega arith;
      upto = λ ps f. record { before = []; behind = ps; is = refl; place = refl; stand = f.stand; put = refl };
    }

module _ {line : List ℕ} {at n k : ℕ} {bytes₀ : List ℕ} {i j : ℕ} {bytes : List ℕ} (w : StoringPlaces line at n k bytes₀ i j bytes) where
  more : (ps : List (Place ℕ)) (f : PlacesFit line at n k ps) → j < n → Further line k ps f.next bytes₀ i j bytes
  more ps f h = let u = w.upto ps f in further u.before u.behind u.is u.place u.stand u.put (omega (arith, f.many))

  module _ (s : (ps : List (Place ℕ)) × PlacesFit line at n k ps) (h : j < n) {site next : ℕ} (e : SiteIs line i site next) where
    there : place_end line i ≤ length line
    there = (more s.0 s.1 h).stands

    pub placing_ends : next ≤ length line
    placing_ends = omega (arith, (e there).1, there)

    pub placing_next : {bytes' : List ℕ} → bytes' ≡ set bytes (site_at k j) site → StoringPlaces line at n k bytes₀ (next + 1) (j + 1) bytes'
    placing_next {bytes'} eb =
        let q : bytes' ≡ set bytes (site_at k j) (place_of line i).site = eb ∙ ap (set bytes (site_at k j)) (e there).0 in
        record {
          few = omega arith;
          upto = λ ps f.
              subst (λ b. PlacedUpto line k ps f.next bytes₀ (next + 1) (j + 1) b) (sym q)
              (subst (λ x. PlacedUpto line k ps f.next bytes₀ (x + 1) (j + 1) (set bytes (site_at k j) (place_of line i).site)) (sym (e there).1) (more ps f h).then);
        }

  pub placing_end : (entry : List ℕ) → bytes₀ ≡ set entry (places_at k) n → n ≤ j → (ps : List (Place ℕ)) → PlacesFit line at n k ps → bytes ≡ sets entry (places_at k) (places_put ps)
  placing_end entry e₀ h ps f =
      let u = w.upto ps f in
      let first : site_at k 0 ≡ suc (places_at k) = omega arith in
      u.put
      ∙ ap (λ x. sets bytes₀ (site_at k 0) (map site_of x)) (none_left u.before u.behind u.is (omega (arith, f.many, u.place)))
      ∙ ap (λ x. sets x (site_at k 0) (map site_of ps)) (e₀ ∙ ap (set entry (places_at k)) f.many)
      ∙ ap (λ x. sets (set entry (places_at k) (length ps)) x (map site_of ps)) first
