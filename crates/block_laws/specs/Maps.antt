-- The plain map: what is found in it after an entry is put or taken out, and how many blocks its entries take.
use Rattle.std.specs.Prelude.{ℕ, ◌+◌, ◌≡◌, refl, ◌⊎◌, not, List, [], ◌∷◌, eqb}
use Rattle.std.proofs.Common.{add_comm, add_assoc, arith, sym, ap, ◌∙◌, inl, inr, eq-eqb, ne_eqb}
use Rattle.std.proofs.Math.Option.{Option, none, some}
use Rattle.scope.specs.Lists.{keep}
use Rattle.basics.specs.Members.{keep_yes, keep_no}
use Rattle.basics.specs.Tests.{same?}
use Rattle.blocks.specs.Entry.{Entry}
use Rattle.blocks.specs.Map.{Kept, found, without, blocks_of, blocks_taken}

-- no number stands there twice
abbrev pub Once : List Kept → Type 0
Once [] = Unit {0}
Once (x ∷ m) = (found x.number m ≡ none) × Once m

-- ---- an entry in front
module _ (n : ℕ) (x : Kept) (m : List Kept) where
  pub found_here : n ≡ x.number → found n (x ∷ m) ≡ some x.entry
  unfolding found
  found_here e = rw (eq-eqb n x.number e)

  pub found_there : (n ≡ x.number → ⊥) → found n (x ∷ m) ≡ found n m
  unfolding found
  found_there k = rw (ne_eqb n x.number k)

  without_here : n ≡ x.number → without n (x ∷ m) ≡ without n m
  without_here e = keep_no (λ y. not (eqb n y.number)) x m (ap not (eq-eqb n x.number e))

  without_there : (n ≡ x.number → ⊥) → without n (x ∷ m) ≡ x ∷ without n m
  without_there k = keep_yes (λ y. not (eqb n y.number)) x m (ap not (ne_eqb n x.number k))

-- ---- an entry taken out
never : {e : Entry} {o : Option Entry} → o ≡ some e → o ≡ none → ⊥
never f g = let z : ◌≡◌ {A = ℕ} 0 1 = cc in omega arith

pub found_without : (n : ℕ) (m : List Kept) → found n (without n m) ≡ none
unfolding found keep
found_without n [] = refl
found_without n (x ∷ m) = go (same? n x.number) (found_without n m)
  where
    go : (n ≡ x.number) ⊎ (n ≡ x.number → ⊥) → found n (without n m) ≡ none → found n (without n (x ∷ m)) ≡ none
    go (inl e) ih = ap (found n) (without_here n x m e) ∙ ih
    go (inr k) ih = ap (found n) (without_there n x m k) ∙ found_there n x (without n m) k ∙ ih

pub found_other : (n j : ℕ) → (j ≡ n → ⊥) → (m : List Kept) → found j (without n m) ≡ found j m
unfolding found keep
found_other n j d [] = refl
found_other n j d (x ∷ m) = go (same? n x.number) (same? j x.number) (found_other n j d m)
  where
    go :
        (n ≡ x.number) ⊎ (n ≡ x.number → ⊥) → (j ≡ x.number) ⊎ (j ≡ x.number → ⊥) → found j (without n m) ≡ found j m
        → found j (without n (x ∷ m)) ≡ found j (x ∷ m)
    go (inl e) s ih = ap (found j) (without_here n x m e) ∙ ih ∙ sym (found_there j x m (λ q. d (q ∙ sym e)))
    go (inr k) (inl q) ih = ap (found j) (without_there n x m k) ∙ found_here j x (without n m) q ∙ sym (found_here j x m q)
    go (inr k) (inr q) ih = ap (found j) (without_there n x m k) ∙ found_there j x (without n m) q ∙ ih ∙ sym (found_there j x m q)

-- nothing is taken out where there is nothing
without_none : (n : ℕ) (m : List Kept) → found n m ≡ none → without n m ≡ m
unfolding keep
without_none n [] e = refl
without_none n (x ∷ m) e = go (same? n x.number) (λ h. without_none n m h)
  where
    go : (n ≡ x.number) ⊎ (n ≡ x.number → ⊥) → (found n m ≡ none → without n m ≡ m) → without n (x ∷ m) ≡ x ∷ m
    go (inl q) ih = absurd (never (found_here n x m q) e)
    go (inr k) ih = without_there n x m k ∙ ap (λ l. x ∷ l) (ih (sym (found_there n x m k) ∙ e))

pub once_without : (n : ℕ) (m : List Kept) → Once m → Once (without n m)
unfolding keep
once_without n [] h = tt
once_without n (x ∷ m) h = go (same? n x.number) (once_without n m h.1)
  where
    go : (n ≡ x.number) ⊎ (n ≡ x.number → ⊥) → Once (without n m) → Once (without n (x ∷ m))
    go (inl q) ih = rw (without_here n x m q) ih
    go (inr k) ih = rw (without_there n x m k) (found_other n x.number (λ q. k (sym q)) m ∙ h.0, ih)

-- the blocks that it took
pub taken_cons : (x : Kept) (m : List Kept) → blocks_taken (x ∷ m) ≡ blocks_of x.entry + blocks_taken m
unfolding blocks_taken
taken_cons x m = refl

pub taken_without : (n : ℕ) (m : List Kept) (e : Entry) → Once m → found n m ≡ some e → blocks_taken (without n m) + blocks_of e ≡ blocks_taken m
unfolding found
taken_without n [] e h f = absurd (never f refl)
taken_without n (x ∷ m) e h f = go (same? n x.number) (λ g. taken_without n m e h.1 g)
  where
    go : (n ≡ x.number) ⊎ (n ≡ x.number → ⊥) → (found n m ≡ some e → blocks_taken (without n m) + blocks_of e ≡ blocks_taken m)
        → blocks_taken (without n (x ∷ m)) + blocks_of e ≡ blocks_taken (x ∷ m)
    go (inl q) ih =
        let same : x.entry ≡ e = let g : some x.entry ≡ some e = sym (found_here n x m q) ∙ f in cc in
        let all : without n (x ∷ m) ≡ m = without_here n x m q ∙ without_none n m (ap (λ j. found j m) q ∙ h.0) in
        ap (λ l. blocks_taken l + blocks_of e) all ∙ add_comm (blocks_taken m) (blocks_of e) ∙ ap (λ y. blocks_of y + blocks_taken m) (sym same) ∙ sym (taken_cons x m)
    go (inr k) ih =
        ap (λ l. blocks_taken l + blocks_of e) (without_there n x m k) ∙ ap (λ t. t + blocks_of e) (taken_cons x (without n m))
        ∙ add_assoc (blocks_of x.entry) (blocks_taken (without n m)) (blocks_of e)
        ∙ ap (λ t. blocks_of x.entry + t) (ih (sym (found_there n x m k) ∙ f)) ∙ sym (taken_cons x m)
