-- Where none of 5 to 9 is met in a line, there are no more residues, brackets, declarations, parts and places than may be.
use Rattle.std.specs.Prelude.{◌≡◌, ℕ, ◌-◌, ◌≤◌, ◌<◌}
use Rattle.std.proofs.Math.Path.{refl, ap}
use mathlib.Core.List.{List, [], ◌∷◌, ◌++◌, map}
use Rattle.std.proofs.Common.{arith}
use Rattle.std.proofs.Math.ListN.{length, drop, length-drop, length-map}
use Rattle.scope.specs.Bytes.{wide_limit}
use Rattle.scope.specs.Limits.{residue_limit, bracket_limit, part_limit, declaration_limit, place_limit}
use Rattle.scope.specs.Line.{Line}
use Rattle.scope.specs.Lists.{flat}
use Rattle.scope.specs.Refusals.{refusal6, line_refusals, long_text, long_label, many_places, declarations, many_declarations, over_in, wide_count}
use Rattle.basics.specs.Each.{Each, each_front, each_back, each_two}
use Rattle.dues.specs.Ranks.{code, lowest, no_code}
use Rattle.dues.specs.First.{Fits}
use Rattle.dues.specs.Lines.{over_rank, wide_rank, info_rank, part_codes, bracket_codes, met_codes}
use Rattle.dues.specs.Met.{lowest_two}

each_flat : {A B : Type 0} (Q : B → Type 0) (f : A → List B) (l : List A) → Each Q (flat f l) → Each (λ x. Each Q (f x)) l
unfolding flat
each_flat Q f [] w = tt
each_flat Q f (x ∷ l) w = (each_front Q (f x) (flat f l) w, each_flat Q f l (each_back Q (f x) (flat f l) w))

-- no code of 5 to 9 is among these
abbrev Clear : ℕ → List ℕ → Type 0
Clear n l = code info_rank 0 ≤ lowest n l

clear_front : (n : ℕ) (a b : List ℕ) → Clear n (a ++ b) → Clear n a
clear_front n a b h = omega (arith, lowest_two n a b)

clear_back : (n : ℕ) (a b : List ℕ) → Clear n (a ++ b) → Clear n b
clear_back n a b h = omega (arith, lowest_two n a b)

clear_flat : {A : Type 0} (n : ℕ) (f : A → List ℕ) (l : List A) → Clear n (flat f l) → Each (λ x. Clear n (f x)) l
unfolding flat
clear_flat n f [] h = tt
clear_flat n f (x ∷ l) h = (clear_front n (f x) (flat f l) h, clear_flat n f l (clear_back n (f x) (flat f l) h))

-- so no place is past a limit
module _ {A : Type 0} (at : A → ℕ) (limit n : ℕ) where
  kept : (l : List A) → Each (λ p. p < wide_limit) (drop limit (map at l)) → Clear n (map (code over_rank) (drop limit (map at l))) → length l ≤ limit
  unfolding lowest
  kept l w h = go (drop limit (map at l)) refl w h
    where
      go : (ps : List ℕ) → drop limit (map at l) ≡ ps → Each (λ p. p < wide_limit) ps → Clear n (map (code over_rank) ps) → length l ≤ limit
      go [] e u c = omega (arith, ap length e, length-drop limit (map at l), length-map l at)
      go (p ∷ ps) e u c = absurd (omega (arith, u.0))

pub record FewOf (l : Line ℕ) : Type 0 where
  pub residues : length l.residues ≤ residue_limit
  pub brackets : length l.brackets ≤ bracket_limit
  pub few_declarations : length (declarations l.brackets) ≤ declaration_limit
  pub parts : Each (λ k. length k.parts ≤ part_limit) l.brackets
  pub places : Each (λ k. length k.places ≤ place_limit) l.brackets

pub few_of : (l : Line ℕ) → Each Fits (line_refusals l) → code info_rank 0 ≤ lowest (no_code (line_refusals l)) (met_codes l.residues l.brackets) → FewOf l
unfolding refusal6
few_of l fits h =
    let n : ℕ = no_code (line_refusals l) in
    let Q : ℕ → Type 0 = λ p. p < wide_limit in
    let rs = drop residue_limit (map (λ r. r.at) l.residues) in
    let ks = drop bracket_limit (map (λ k. k.at) l.brackets) in
    let ds = many_declarations l.brackets in
    let past = each_back Q rs (ks ++ (ds ++ flat over_in l.brackets)) fits.1.0 in
    let beyond = each_back Q ks (ds ++ flat over_in l.brackets) past in
    let behind = clear_back n (flat bracket_codes l.brackets) (map (code over_rank) ks ++ (map (code over_rank) ds ++ map (code over_rank) rs)) h in
    let further = clear_back n (map (code over_rank) ks) (map (code over_rank) ds ++ map (code over_rank) rs) behind in
    let within = each_flat Q over_in l.brackets (each_back Q ds (flat over_in l.brackets) beyond) in
    let clear = clear_flat n bracket_codes l.brackets (clear_front n (flat bracket_codes l.brackets) (map (code over_rank) ks ++ (map (code over_rank) ds ++ map (code over_rank) rs)) h) in
    record {
      residues = kept (λ r. r.at) residue_limit n l.residues (each_front Q rs (ks ++ (ds ++ flat over_in l.brackets)) fits.1.0) (clear_back n (map (code over_rank) ds) (map (code over_rank) rs) further);
      brackets = kept (λ k. k.at) bracket_limit n l.brackets (each_front Q ks (ds ++ flat over_in l.brackets) past) (clear_front n (map (code over_rank) ks) (map (code over_rank) ds ++ map (code over_rank) rs) behind);
      few_declarations =
          kept (λ k. k.at - 1) declaration_limit n (declarations l.brackets) (each_front Q ds (flat over_in l.brackets) beyond) (clear_front n (map (code over_rank) ds) (map (code over_rank) rs) further);
      parts =
          each_two (λ k. Each Q (over_in k)) (λ k. Clear n (bracket_codes k)) (λ k. length k.parts ≤ part_limit)
          (λ k w c.
          let ps = drop part_limit (map (λ p. p.at) k.parts) in
          kept (λ p. p.at) part_limit n k.parts (each_front Q ps (flat (λ p. long_text p ++ long_label p) k.parts ++ many_places k) w)
          (clear_back n (flat part_codes k.parts) (map (code over_rank) ps)
          (clear_front n (flat part_codes k.parts ++ map (code over_rank) ps) (map (code wide_rank) (wide_count k) ++ map (code over_rank) (many_places k)) c)))
          l.brackets within clear;
      places =
          each_two (λ k. Each Q (over_in k)) (λ k. Clear n (bracket_codes k)) (λ k. length k.places ≤ place_limit)
          (λ k w c.
          let ps = drop part_limit (map (λ p. p.at) k.parts) in
          let ts = flat (λ p. long_text p ++ long_label p) k.parts in
          kept (λ p. p.at) place_limit n k.places (each_back Q ts (many_places k) (each_back Q ps (ts ++ many_places k) w))
          (clear_back n (map (code wide_rank) (wide_count k)) (map (code over_rank) (many_places k))
          (clear_back n (flat part_codes k.parts ++ map (code over_rank) ps) (map (code wide_rank) (wide_count k) ++ map (code over_rank) (many_places k)) c)))
          l.brackets within clear;
    }
