-- A bracket that is no modification (only INFO, or a reference) strikes nothing out, floats nowhere and weighs nothing: with it or without it.
use Rattle.std.specs.Prelude.{◌≡◌, refl, Bool, ◌&&◌, ◌||◌, ℕ, ◌*ℤ◌, length}
use Rattle.std.proofs.Math.Path.{sym, ap}
use Rattle.std.proofs.Common.{◌∙◌}
use Rattle.std.proofs.Math.Bool.{true, false, not, cond}
use mathlib.Core.List.{List, [], ◌∷◌, ◌++◌, map}
use Rattle.std.proofs.Math.IntN.{pos}
use Rattle.std.proofs.Math.ListN.{replicate}
use Rattle.scope.specs.Line.{Bracket, Residue, Line}
use Rattle.scope.specs.Lists.{given, shared, keep, flat, tabled, member}
use Rattle.scope.specs.Modifications.{only_info, is_referring, is_modification, is_labelled, copies, defined_by, referred_by, names_of}
use Rattle.scope.specs.Positions.{sites, reached, is_placed, placed_on, struck_out, floaters, between, referred_at, is_unlabelled_unknown, own_position, may_stand, positions, permitted, is_further, floating_of}
use Rattle.scope.specs.Masses.{mass_of, stated, mass_or0, sum, sumℕ, modifications, times, total, lacking, labile_mass}
use Rattle.scope.specs.Kinds.{is_labile, is_declared, on_one_position}
use Rattle.basics.specs.Lists.{flat_append, keep_append, keep_same, map_same, shared_nothing}
use Rattle.basics.specs.Positions.{same_floats, marks_of_lem}

-- ---- an element that is not kept, or gives nothing
keep_without : {A : Type 0} (f : A → Bool) (l m : List A) (x : A) → f x ≡ false → keep f (l ++ (x ∷ m)) ≡ keep f (l ++ m)
unfolding keep
keep_without f l m x e =
    keep_append f l (x ∷ m) ∙ ap (λ b. keep f l ++ (cond b (x ∷ []) [] ++ keep f m)) e ∙ sym (keep_append f l m)

flat_without : {A B : Type 0} (f : A → List B) (l m : List A) (x : A) → f x ≡ [] → flat f (l ++ (x ∷ m)) ≡ flat f (l ++ m)
unfolding flat
flat_without f l m x e = flat_append f l (x ∷ m) ∙ ap (λ z. flat f l ++ (z ++ flat f m)) e ∙ sym (flat_append f l m)

module _ {P : Type 0} (rs : List (Residue P)) (ks ls : List (Bracket P)) (k : Bracket P) where
  -- the line with the bracket, and without it
  abbrev with_it : Line P
  with_it = record { residues = rs; brackets = ks ++ (k ∷ ls) }

  abbrev without_it : Line P
  without_it = record { residues = rs; brackets = ks ++ ls }

  module _ (idle : is_modification k ≡ false) where
    pub strikes_nothing : struck_out with_it ≡ struck_out without_it
    unfolding struck_out placed_on reached sites is_placed
    strikes_nothing = flat_without (placed_on with_it) ks ls k (nowhere (is_declared k.kind))
      where
        nowhere : (d : Bool) → cond (d && is_modification k) (reached with_it k) (cond (is_modification k && not (is_labelled k) && on_one_position k.kind) (k.first ∷ []) []) ≡ []
        nowhere true = rw idle
        nowhere false = rw idle

    pub floats_nowhere : floaters with_it ≡ floaters without_it
    unfolding floaters copies
    floats_nowhere = flat_without (λ b. replicate (copies b) b) ks ls k (rw idle)

    same_marks : (floating_of with_it).marks ≡ (floating_of without_it).marks
    unfolding copies tabled
    same_marks =
        marks_of_lem 0 (ks ++ (k ∷ ls)) ∙ flat_without (λ b. tabled is_further 1 (copies b)) ks ls k (rw idle) ∙ sym (marks_of_lem 0 (ks ++ ls))

    same_modifications : modifications with_it ≡ modifications without_it
    same_modifications = keep_without is_modification ks ls k idle

    pub weighs_nothing : total with_it ≡ total without_it
    unfolding total placed_on reached sites
    weighs_nothing = ap (λ ms. sum (map (λ b. pos (times with_it b) *ℤ mass_or0 b) ms)) same_modifications

    pub lacks_nothing : lacking with_it ≡ lacking without_it
    unfolding lacking placed_on reached sites
    lacks_nothing = ap (λ ms. sumℕ (map (λ b. given (stated (mass_of b)) (λ m. 0) (times with_it b)) ms)) same_modifications

    pub no_labile_mass : labile_mass with_it ≡ labile_mass without_it
    unfolding labile_mass
    no_labile_mass = ap (λ ms. sum (map mass_or0 (keep (λ b. is_labile b.kind) ms))) same_modifications

  -- "A bracket with only INFO is no modification"
  pub info_is_idle : only_info k ≡ true → is_modification k ≡ false
  info_is_idle e = rw e

  pub reference_is_idle : is_referring k ≡ true → is_modification k ≡ false
  reference_is_idle e = go (only_info k) (is_referring k) e
    where
      go : (a b : Bool) → b ≡ true → (not a && not b) ≡ false
      go true b q = refl
      go false b q = rw q

  -- no label is referred to by a bracket that is no reference
  referred_without : (d : Bracket P) (x : ℕ) → is_referring k ≡ false → (l : List (Bracket P)) → referred_at d x (l ++ (k ∷ ls)) ≡ referred_at d x (l ++ ls)
  unfolding referred_at
  referred_without d x e [] =
      ap (λ b. shared (defined_by d) (cond b (names_of k) []) && between k.first k.last x || referred_at d x ls) e
      ∙ ap (λ b. b && between k.first k.last x || referred_at d x ls) (shared_nothing (defined_by d))
  referred_without d x e (r ∷ l) =
      ap (λ b. shared (defined_by d) (referred_by r) && between r.first r.last x || b) (referred_without d x e l)

  may_stand_without : (d : Bracket P) (x : ℕ) → is_referring k ≡ false → may_stand with_it d x ≡ may_stand without_it d x
  unfolding may_stand
  may_stand_without d x e =
      ap (λ b. cond (is_unlabelled_unknown d d.kind) (between 1 (length rs) x) (own_position d x d.kind || b)) (referred_without d x e ks)

  permitted_without : is_modification k ≡ false → is_referring k ≡ false → (d : Bracket P) → permitted with_it d ≡ permitted without_it d
  unfolding permitted sites
  permitted_without idle e d =
      keep_same (λ x. may_stand with_it d x && not (member x (struck_out with_it))) (λ x. may_stand without_it d x && not (member x (struck_out without_it)))
      (λ x. ap (λ b. b && not (member x (struck_out with_it))) (may_stand_without d x e) ∙ ap (λ l. may_stand without_it d x && not (member x l)) (strikes_nothing idle))
      (positions with_it)

  -- so it blocks nothing: the floaters have the positions that they have without it
  pub info_blocks_nothing : only_info k ≡ true → is_referring k ≡ false → floating_of with_it ≡ floating_of without_it
  info_blocks_nothing e f = same_floats (floating_of with_it) (floating_of without_it)
      (ap (map (permitted with_it)) (floats_nowhere (info_is_idle e))
      ∙ map_same (permitted with_it) (permitted without_it) (permitted_without (info_is_idle e) f) (floaters without_it))
      (same_marks (info_is_idle e))
