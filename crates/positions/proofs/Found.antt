-- The floaters, found bracket by bracket: of each its bracket and its copy. What the brackets so named float are the floaters.
use mathlib.Core.Path.{◌≡◌, refl, sym, ap, ap₂, ◌∙◌, subst}
use mathlib.Core.Logic.{inl, inr, ⊎_elim}
use mathlib.Core.List.{List, [], ◌∷◌, ◌++◌, map, append-nil, append_assoc, map-append}
use Prim.Native.Nat.{ℕ, zero, suc, ◌+◌, ◌-◌, ◌≤◌, ◌<◌}
use native.Mathlib.Nat.{add-zero}
use native.Mathlib.Omega.{arith}
use lib.IntN.{ℤ}
use lib.ListN.{length, get_or, take, set, replicate, length-append, length-set, length-map}
use lib.Seq.{length-take-le, take-suc-set, get_or-take}
use Rattle.scope.specs.Limits.{copy_limit}
use Rattle.scope.specs.Line.{Bracket}
use Rattle.scope.specs.Lists.{flat, tabled}
use Rattle.scope.specs.Modifications.{copies}
use Rattle.scope.specs.Positions.{floaters, Copy, copies_at, copies_from, floaters_by, brackets_of, copies_of}
use Rattle.scope.specs.Layout.{bracket_in, tables_in, brackets_field}
use Rattle.areas.specs.Floats.{FloatersAre}
use Rattle.basics.specs.Each.{In}
use Rattle.basics.specs.Lists.{map_map}
use Rattle.basics.specs.Members.{in_at, in_either, in_map}
use Rattle.basics.specs.Tabled.{tabled_at, tabled_end, tabled_all, tabled_snoc, length_tabled}
use Rattle.positions.specs.Copies.{Added}

-- ---- the copies of one bracket
abbrev one : ℕ → ℕ → Copy
one k c = record { bracket = k; copy = c }

one_more : (k j : ℕ) → copies_at k (j + 1) ≡ copies_at k j ++ (one k (j + 1) ∷ [])
one_more k j =
    ap (tabled (one k) 1) (let e : j + 1 ≡ suc j = omega arith in e) ∙ tabled_snoc (one k) 1 j
    ∙ ap (λ c. copies_at k j ++ (one k c ∷ [])) (omega arith)

-- j of the m copies of bracket k are written, after the first n
pub record CopiesWritten (n m k j : ℕ) (brs₀ cps₀ brs cps : List ℕ) : Type 0 where
  pub within : j ≤ m
  pub brackets_long : length brs ≡ copy_limit
  pub copies_long : length cps ≡ copy_limit
  pub brackets : take (n + j) brs ≡ take n brs₀ ++ brackets_of (copies_at k j)
  pub copies : take (n + j) cps ≡ take n cps₀ ++ copies_of (copies_at k j)

none_yet : (n : ℕ) (l : List ℕ) → take (n + 0) l ≡ take n l ++ []
none_yet n l = ap (λ i. take i l) (add-zero n) ∙ sym (append-nil (take n l))

pub copying_start : (n m k : ℕ) (brs cps : List ℕ) → length brs ≡ copy_limit → length cps ≡ copy_limit → CopiesWritten n m k 0 brs cps brs cps
unfolding tabled
copying_start n m k brs cps b c =
    record { within = omega arith; brackets_long = b; copies_long = c; brackets = none_yet n brs; copies = none_yet n cps }

put_next : (f : Copy → ℕ) (n k j : ℕ) (first now : List ℕ) → n + j < length now → take (n + j) now ≡ take n first ++ map f (copies_at k j)
    → take (n + (j + 1)) (set now (n + j) (f (one k (j + 1)))) ≡ take n first ++ map f (copies_at k (j + 1))
put_next f n k j first now h e =
    let v = f (one k (j + 1)) in
    ap (λ i. take i (set now (n + j) v)) (let g : n + (j + 1) ≡ suc (n + j) = omega arith in g) ∙ take-suc-set now (n + j) v h
    ∙ ap (λ l. l ++ (v ∷ [])) e ∙ append_assoc (take n first) (map f (copies_at k j)) (v ∷ [])
    ∙ ap (λ l. take n first ++ l) (sym (ap (map f) (one_more k j) ∙ map-append f (copies_at k j) (one k (j + 1) ∷ [])))

pub copying_next : {n m k j : ℕ} {brs₀ cps₀ brs cps : List ℕ} → CopiesWritten n m k j brs₀ cps₀ brs cps → n + m ≤ copy_limit → j < m
    → CopiesWritten n m k (j + 1) brs₀ cps₀ (set brs (n + j) k) (set cps (n + j) (j + 1))
copying_next {n} {m} {k} {j} {brs₀} {cps₀} {brs} {cps} c h l =
    let bl : length brs ≡ copy_limit = c.brackets_long in
    let cl : length cps ≡ copy_limit = c.copies_long in
    record {
      within = omega arith;
      brackets_long = length-set brs (n + j) k ∙ bl;
      copies_long = length-set cps (n + j) (j + 1) ∙ cl;
      brackets = put_next (λ c. c.bracket) n k j brs₀ brs (omega arith) c.brackets;
      copies = put_next (λ c. c.copy) n k j cps₀ cps (omega arith) c.copies;
    }

pub copying_end : {n m k j : ℕ} {brs₀ cps₀ brs cps : List ℕ} → CopiesWritten n m k j brs₀ cps₀ brs cps → m ≤ j → Added n m k brs₀ cps₀ (n + m) brs cps
copying_end {n} {m} {k} {j} {brs₀} {cps₀} {brs} {cps} c h =
    let w : j ≤ m = c.within in
    let e : j ≡ m = omega arith in
    record {
      many = refl;
      brackets = subst (λ (i : ℕ). take (n + i) brs ≡ take n brs₀ ++ brackets_of (copies_at k i)) e c.brackets;
      copies = subst (λ (i : ℕ). take (n + i) cps ≡ take n cps₀ ++ copies_of (copies_at k i)) e c.copies;
      brackets_long = c.brackets_long;
      copies_long = c.copies_long;
    }

-- ---- what the brackets named float, and that each is named by a number below
run_picks : {A : Type 0} (g : Copy → A) (i : ℕ) (x : A) → ((c : ℕ) → g (one i c) ≡ x) → (a n : ℕ) → map g (tabled (one i) a n) ≡ replicate n x
unfolding tabled
run_picks g i x e a zero = refl
run_picks g i x e a (suc n) = ap₂ ◌∷◌ (e a) (run_picks g i x e (a + 1) n)

picks_from : {P : Type 0} (g : ℕ → Bracket P) (i n : ℕ)
    → flat (λ k. replicate (copies k) k) (tabled g i n) ≡ map (λ c. g c.bracket) (copies_from i (tabled g i n))
unfolding tabled flat copies_from
picks_from g i zero = refl
picks_from g i (suc n) =
    ap₂ ◌++◌ (sym (run_picks (λ c. g c.bracket) i (g i) (λ c. refl) 1 (copies (g i)))) (picks_from g (i + 1) n)
    ∙ sym (map-append (λ c. g c.bracket) (copies_at i (copies (g i))) (copies_from (i + 1) (tabled g (i + 1) n)))

in_run : (i a n : ℕ) (c : Copy) → In c (tabled (one i) a n) → c.bracket ≡ i
unfolding tabled
in_run i a zero c h = absurd h
in_run i a (suc n) c (inl e) = ap (λ (d : Copy). d.bracket) e
in_run i a (suc n) c (inr h) = in_run i (a + 1) n c h

below_from : {P : Type 0} (g : ℕ → Bracket P) (i n : ℕ) (c : Copy) → In c (copies_from i (tabled g i n)) → c.bracket < i + n
unfolding tabled copies_from
below_from g i zero c h = absurd h
below_from g i (suc n) c h = ⊎_elim
    (λ k. omega (arith, in_run i 1 (copies (g i)) c k)) (λ k. omega (arith, below_from g (i + 1) n c k))
    (in_either c (copies_at i (copies (g i))) (copies_from (i + 1) (tabled g (i + 1) n)) h)

module _ (bs : List ℕ) (ns : List ℤ) where
  floaters_named : floaters (tables_in bs ns) ≡ map (bracket_in bs ns) (brackets_of (floaters_by (tables_in bs ns)))
  unfolding floaters tables_in
  floaters_named =
      picks_from (bracket_in bs ns) 0 (brackets_field bs)
      ∙ sym (map_map (bracket_in bs ns) (λ c. bracket_in bs ns c.bracket) (λ c. c.bracket) (λ c. refl) (floaters_by (tables_in bs ns)))

  pub floaters_many : length (floaters_by (tables_in bs ns)) ≡ length (floaters (tables_in bs ns))
  floaters_many =
      sym (ap length floaters_named ∙ length-map (brackets_of (floaters_by (tables_in bs ns))) (bracket_in bs ns)
      ∙ length-map (floaters_by (tables_in bs ns)) (λ c. c.bracket))

  below : (x : ℕ) → In x (brackets_of (floaters_by (tables_in bs ns))) → x < brackets_field bs
  unfolding tables_in
  below x h =
      let z = in_map (λ c. c.bracket) x (floaters_by (tables_in bs ns)) h in
      let l : z.0.bracket < 0 + brackets_field bs = below_from (bracket_in bs ns) 0 (brackets_field bs) z.0 z.1 in
      omega (arith, l, z.2)

module _ {bs : List ℕ} {ns : List ℤ} {count : ℕ} {index copy : List ℕ} (f : FloatersAre bs ns count index copy) where
  pub floaters_are : floaters (tables_in bs ns) ≡ map (bracket_in bs ns) (take count index)
  floaters_are = floaters_named bs ns ∙ ap (map (bracket_in bs ns)) (sym f.brackets)

  long : length (take count index) ≡ count
  long = ap length f.brackets ∙ length-map (floaters_by (tables_in bs ns)) (λ c. c.bracket) ∙ floaters_many bs ns ∙ sym f.many

  pub floaters_inside : (i : ℕ) → i < count → get_or index i 0 < brackets_field bs
  floaters_inside i h =
      below bs ns (get_or index i 0)
      (subst (λ l. In (get_or index i 0) l) f.brackets (subst (λ x. In x (take count index)) (get_or-take count index i 0 h) (in_at (take count index) i 0 (omega (arith, long)))))

-- ---- the floaters of the brackets before k are found
abbrev rest : List ℕ → List ℤ → ℕ → ℕ → List Copy
rest bs ns b k = copies_from k (tabled (bracket_in bs ns) k (b - k))

pub record Finding (bs : List ℕ) (ns : List ℤ) (b k n : ℕ) (brs cps : List ℕ) : Type 0 where
  pub within : k ≤ b
  pub few : n ≤ copy_limit
  pub brackets_long : length brs ≡ copy_limit
  pub copies_long : length cps ≡ copy_limit
  pub brackets : brackets_of (floaters_by (tables_in bs ns)) ≡ take n brs ++ brackets_of (rest bs ns b k)
  pub copies : copies_of (floaters_by (tables_in bs ns)) ≡ take n cps ++ copies_of (rest bs ns b k)

pub finding_start : (bs : List ℕ) (ns : List ℤ) (b : ℕ) (brs cps : List ℕ) → b ≡ brackets_field bs → length brs ≡ copy_limit → length cps ≡ copy_limit
    → Finding bs ns b 0 0 brs cps
unfolding tables_in
finding_start bs ns b brs cps e bl cl =
    let all : floaters_by (tables_in bs ns) ≡ rest bs ns b 0 =
    ap (λ n. copies_from 0 (tabled (bracket_in bs ns) 0 n)) (sym e) ∙ ap (copies_from 0) (tabled_all (bracket_in bs ns) b) in
    record { within = omega arith; few = omega arith; brackets_long = bl; copies_long = cl; brackets = ap brackets_of all; copies = ap copies_of all }

rest_at : (bs : List ℕ) (ns : List ℤ) (b k : ℕ) {m : ℕ} → k < b → m ≡ copies (bracket_in bs ns k) → rest bs ns b k ≡ copies_at k m ++ rest bs ns b (k + 1)
unfolding copies_from
rest_at bs ns b k {m} h e = rw (tabled_at (bracket_in bs ns) k b h) (ap (λ c. copies_at k c ++ rest bs ns b (k + 1)) (sym e))

-- there is room for the copies of the next bracket
pub finding_few : {bs : List ℕ} {ns : List ℤ} {b k n m : ℕ} {brs cps : List ℕ} → Finding bs ns b k n brs cps → length (floaters (tables_in bs ns)) ≤ copy_limit → k < b
    → m ≡ copies (bracket_in bs ns k) → n + m ≤ copy_limit
finding_few {bs} {ns} {b} {k} {n} {m} {brs} {cps} f h l e =
    let bl : length brs ≡ copy_limit = f.brackets_long in
    let fw : n ≤ copy_limit = f.few in
    let all : length (brackets_of (floaters_by (tables_in bs ns))) ≡ length (floaters (tables_in bs ns)) =
    length-map (floaters_by (tables_in bs ns)) (λ c. c.bracket) ∙ floaters_many bs ns in
    let cut : length (brackets_of (floaters_by (tables_in bs ns))) ≡ length (take n brs) + length (brackets_of (rest bs ns b k)) =
    ap length f.brackets ∙ length-append (take n brs) (brackets_of (rest bs ns b k)) in
    let front : length (take n brs) ≡ n = length-take-le n brs (omega arith) in
    let here : length (brackets_of (rest bs ns b k)) ≡ m + length (rest bs ns b (k + 1)) =
    length-map (rest bs ns b k) (λ c. c.bracket) ∙ ap length (rest_at bs ns b k l e) ∙ length-append (copies_at k m) (rest bs ns b (k + 1))
    ∙ ap (λ c. c + length (rest bs ns b (k + 1))) (length_tabled (one k) 1 m) in
    omega (arith, all, cut, front, here)

moved : (f : Copy → ℕ) (done done' : List ℕ) (here more : List Copy) {all : List ℕ} {left : List Copy} → all ≡ done ++ map f left → left ≡ here ++ more
    → done' ≡ done ++ map f here → all ≡ done' ++ map f more
moved f done done' here more e s p =
    e ∙ ap (λ l. done ++ map f l) s ∙ ap (λ r. done ++ r) (map-append f here more) ∙ sym (append_assoc done (map f here) (map f more))
    ∙ ap (λ l. l ++ map f more) (sym p)

pub finding_next : {bs : List ℕ} {ns : List ℤ} {b k n m n' : ℕ} {brs cps brs' cps' : List ℕ} → Finding bs ns b k n brs cps → length (floaters (tables_in bs ns)) ≤ copy_limit
    → k < b → m ≡ copies (bracket_in bs ns k) → Added n m k brs cps n' brs' cps' → Finding bs ns b (k + 1) n' brs' cps'
finding_next {bs} {ns} {b} {k} {n} {m} {n'} {brs} {cps} {brs'} {cps'} f h l e a =
    let room : n + m ≤ copy_limit = finding_few f h l e in
    let many : n' ≡ n + m = a.many in
    record {
      within = omega arith;
      few = omega arith;
      brackets_long = a.brackets_long;
      copies_long = a.copies_long;
      brackets = moved (λ c. c.bracket) (take n brs) (take n' brs') (copies_at k m) (rest bs ns b (k + 1)) f.brackets (rest_at bs ns b k l e) a.brackets;
      copies = moved (λ c. c.copy) (take n cps) (take n' cps') (copies_at k m) (rest bs ns b (k + 1)) f.copies (rest_at bs ns b k l e) a.copies;
    }

rest_none : (bs : List ℕ) (ns : List ℤ) (b k : ℕ) → b ≤ k → rest bs ns b k ≡ []
unfolding copies_from
rest_none bs ns b k h = ap (copies_from k) (tabled_end (bracket_in bs ns) k b h)

all_found : (f : Copy → ℕ) (done : List ℕ) {all : List ℕ} {left : List Copy} → all ≡ done ++ map f left → left ≡ [] → done ≡ all
all_found f done e s = sym (e ∙ ap (λ l. done ++ map f l) s ∙ append-nil done)

pub finding_end : {bs : List ℕ} {ns : List ℤ} {b k n : ℕ} {brs cps : List ℕ} → Finding bs ns b k n brs cps → b ≤ k → FloatersAre bs ns n brs cps
finding_end {bs} {ns} {b} {k} {n} {brs} {cps} f h =
    let bl : length brs ≡ copy_limit = f.brackets_long in
    let fw : n ≤ copy_limit = f.few in
    let found = all_found (λ c. c.bracket) (take n brs) f.brackets (rest_none bs ns b k h) in
    record {
      many = sym (length-take-le n brs (omega arith)) ∙ ap length found ∙ length-map (floaters_by (tables_in bs ns)) (λ c. c.bracket) ∙ floaters_many bs ns;
      few = fw;
      brackets = found;
      copies = all_found (λ c. c.copy) (take n cps) f.copies (rest_none bs ns b k h);
    }
