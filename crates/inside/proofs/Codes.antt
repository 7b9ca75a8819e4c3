-- What is due of a bracket's parts, with one part more, and with a label of the last: the lowest code is met in steps.
use mathlib.Core.Path.{◌≡◌, sym, ap, ap₂, ◌∙◌}
use mathlib.Core.List.{List, [], ◌∷◌, ◌++◌, map, map-append}
use Prim.Native.Nat.{ℕ, ◌≤◌, min}
use native.Mathlib.Omega.{arith}
use lib.Dec.{leb}
use lib.ListN.{length, drop, length-map}
use Rattle.scope.specs.Limits.{part_limit}
use Rattle.scope.specs.Line.{Part}
use Rattle.scope.specs.Lists.{flat}
use Rattle.scope.specs.Refusals.{due_at}
use Rattle.basics.specs.Lists.{flat_snoc}
use Rattle.dues.specs.Ranks.{code, lowest}
use Rattle.dues.specs.Lines.{over_rank, part_codes, parts_codes}
use Rattle.dues.specs.Met.{lowest_below, lowest_min, lowest_two}
use Rattle.inside.proofs.Lists.{drop_snoc}

-- the place of a part behind the fourth
abbrev pub fifth : ℕ → ℕ → List ℕ
fifth count at = due_at (leb part_limit count) at

places_more : (ps : List (Part ℕ)) (q : Part ℕ) (k : ℕ) → k ≡ length ps
    → drop part_limit (map (λ p. p.at) (ps ++ (q ∷ []))) ≡ drop part_limit (map (λ p. p.at) ps) ++ fifth k q.at
places_more ps q k e =
    ap (drop part_limit) (map-append (λ p. p.at) ps (q ∷ []))
    ∙ drop_snoc part_limit (map (λ p. p.at) ps) q.at
    ∙ ap (λ z. drop part_limit (map (λ p. p.at) ps) ++ due_at (leb part_limit z) q.at) (length-map ps (λ p. p.at) ∙ sym e)

module _ (n : ℕ) (ps : List (Part ℕ)) (k : ℕ) (ek : k ≡ length ps) where
  -- in four pieces
  in_pieces : (q : Part ℕ) → lowest n (parts_codes (ps ++ (q ∷ [])))
      ≡ min (min (lowest n (flat part_codes ps)) (lowest n (part_codes q)))
      (min (lowest n (map (code over_rank) (drop part_limit (map (λ p. p.at) ps)))) (lowest n (map (code over_rank) (fifth k q.at))))
  in_pieces q =
      lowest_two n (flat part_codes (ps ++ (q ∷ []))) (map (code over_rank) (drop part_limit (map (λ p. p.at) (ps ++ (q ∷ [])))))
      ∙ ap₂ min
      (ap (lowest n) (flat_snoc part_codes ps q) ∙ lowest_two n (flat part_codes ps) (part_codes q))
      (ap (λ z. lowest n (map (code over_rank) z)) (places_more ps q k ek)
      ∙ ap (lowest n) (map-append (code over_rank) (drop part_limit (map (λ p. p.at) ps)) (fifth k q.at))
      ∙ lowest_two n (map (code over_rank) (drop part_limit (map (λ p. p.at) ps))) (map (code over_rank) (fifth k q.at)))

  -- one part more: what is due of it, then whether it is one too many
  pub codes_more : (q : Part ℕ) → lowest (lowest (lowest n (parts_codes ps)) (part_codes q)) (map (code over_rank) (fifth k q.at)) ≡ lowest n (parts_codes (ps ++ (q ∷ [])))
  codes_more q =
      let f = lowest n (flat part_codes ps) in
      let o = lowest n (map (code over_rank) (drop part_limit (map (λ p. p.at) ps))) in
      let c = lowest n (part_codes q) in
      let x = lowest n (map (code over_rank) (fifth k q.at)) in
      let m = lowest n (parts_codes ps) in
      let m' = lowest m (part_codes q) in
      let a : m ≤ n = lowest_below n (parts_codes ps) in
      let b : m' ≤ m = lowest_below m (part_codes q) in
      lowest_min n m' (map (code over_rank) (fifth k q.at)) (omega arith)
      ∙ ap (λ z. min z x) (lowest_min n m (part_codes q) a ∙ ap (λ z. min z c) (lowest_two n (flat part_codes ps) (map (code over_rank) (drop part_limit (map (λ p. p.at) ps)))))
      ∙ mixed f o c x
      ∙ sym (in_pieces q)
    where
      mixed : (f o c x : ℕ) → min (min (min f o) c) x ≡ min (min f c) (min o x)
      mixed f o c x = omega arith

  -- the last part with a label
  pub codes_label : (q q' : Part ℕ) (cs : List ℕ) → q'.at ≡ q.at → ((m : ℕ) → lowest m (part_codes q') ≡ lowest (lowest m (part_codes q)) cs)
      → lowest (lowest n (parts_codes (ps ++ (q ∷ [])))) cs ≡ lowest n (parts_codes (ps ++ (q' ∷ [])))
  codes_label q q' cs e g =
      let f = lowest n (flat part_codes ps) in
      let o = lowest n (map (code over_rank) (drop part_limit (map (λ p. p.at) ps))) in
      let c = lowest n (part_codes q) in
      let x = lowest n (map (code over_rank) (fifth k q.at)) in
      let l = lowest n cs in
      lowest_min n (lowest n (parts_codes (ps ++ (q ∷ [])))) cs (lowest_below n (parts_codes (ps ++ (q ∷ []))))
      ∙ ap (λ z. min z l) (in_pieces q)
      ∙ mixed f c (min o x) l
      ∙ sym
      (in_pieces q'
      ∙ ap₂ (λ z w. min (min f z) (min o w))
      (g n ∙ lowest_min n c cs (lowest_below n (part_codes q)))
      (ap (λ z. lowest n (map (code over_rank) (fifth k z))) e))
    where
      mixed : (f c w l : ℕ) → min (min (min f c) w) l ≡ min (min f (min c l)) w
      mixed f c w l = omega arith
