-- The lowest code of refusals 10 to 12 and 21, bracket by bracket as the tables say them, is that of the definitions one by one; and so are the copies that float,
-- where they are few. Assumes nothing.
use Prim.Native.Nat.{ℕ, zero, suc, ◌+◌, ◌≤◌, ◌<◌, min}
use mathlib.Core.Path.{◌≡◌, refl, sym, ap, ap₂, ◌∙◌}
use mathlib.Core.Bool.{◌&&◌}
use mathlib.Core.List.{List, ◌++◌}
use native.Mathlib.Omega.{arith}
use lib.Dec.{leb, ltb}
use lib.ListN.{length, take, drop, replicate, drop_of_length-le, length-append, length-replicate}
use Rattle.scope.specs.Kinds.{unknown_or_labile, is_declared}
use Rattle.scope.specs.Limits.{copy_limit}
use Rattle.scope.specs.Line.{Bracket}
use Rattle.scope.specs.Lists.{flat}
use Rattle.scope.specs.Modifications.{only_info, copies, defined_by, defined, referred_to}
use Rattle.scope.specs.Refusals.{due_at, wrongly_labelled, passing}
use Rattle.dues.specs.Ranks.{lowest}
use Rattle.dues.specs.Lines.{info_rank, declared_rank, label_rank, copies_rank, ruled_codes}
use Rattle.dues.specs.Met.{mins, lowest_two, low, low_two}
use Rattle.rules.specs.Told.{copies_at, copies_from, due_codes, due_from}
use Rattle.rules.specs.Ruled.{Ruled, floating, Finds}
use Rattle.rules.proofs.Noting.{bracket_at, drop_next, flat_next}
use Rattle.rules.proofs.Ruling.{SameFew, as_many, few_more, few_passes, wrong_in, info_is, declared_is, copies_are, place_is, wrong_is}

abbrev info_in : Bracket ℕ → List ℕ
info_in k = due_at (unknown_or_labile k.kind && only_info k) k.at

abbrev declared_in : Bracket ℕ → List ℕ
declared_in k = due_at (is_declared k.kind && only_info k) k.at

abbrev wrong_from : List (Bracket ℕ) → ℕ → List ℕ
wrong_from ks k = wrongly_labelled (defined (take k ks)) (defined ks) (referred_to ks) (drop k ks)

-- the lower of several, in another order
by_rank : (c l d i c' l' d' i' : ℕ) → min (min c (min l (min d i))) (min c' (min l' (min d' i'))) ≡ min (min c c') (min (min l l') (min (min d d') (min i i')))
by_rank c l d i c' l' d' i' = simp mins

turned : (c l d i : ℕ) → min c (min l (min d i)) ≡ min i (min d (min l c))
turned c l d i = simp mins

-- one bracket and those behind it
wrong_next : (ks : List (Bracket ℕ)) (k : ℕ) → k < length ks → wrong_from ks k ≡ due_at (wrong_in ks k) (bracket_at ks k).at ++ wrong_from ks (k + 1)
unfolding wrongly_labelled
wrong_next ks k h =
    ap (wrongly_labelled (defined (take k ks)) (defined ks) (referred_to ks)) (drop_next ks k h)
    ∙ ap (λ t. due_at (wrong_in ks k) (bracket_at ks k).at ++ wrongly_labelled t (defined ks) (referred_to ks) (drop (k + 1) ks)) (sym (flat_next defined_by ks k h))

passing_next : (ks : List (Bracket ℕ)) (k y : ℕ) → k < length ks
    → passing y (drop k ks)
    ≡ due_at (leb y copy_limit && ltb copy_limit (y + copies (bracket_at ks k))) (bracket_at ks k).at ++ passing (y + copies (bracket_at ks k)) (drop (k + 1) ks)
unfolding passing
passing_next ks k y h = ap (passing y) (drop_next ks k h)

each_next : (f : Bracket ℕ → List ℕ) (ks : List (Bracket ℕ)) (k : ℕ) → k < length ks → flat f (drop k ks) ≡ f (bracket_at ks k) ++ flat f (drop (k + 1) ks)
unfolding flat
each_next f ks k h = ap (flat f) (drop_next ks k h)

floating_next : (ks : List (Bracket ℕ)) (k : ℕ) → k < length ks → floating (drop k ks) ≡ copies (bracket_at ks k) + floating (drop (k + 1) ks)
unfolding flat
floating_next ks k h =
    let b = bracket_at ks k in
    ap floating (drop_next ks k h)
    ∙ length-append (replicate (copies b) b) _
    ∙ ap (λ m. m + floating (drop (k + 1) ks)) (length-replicate (copies b) b)

module _ {line heads parts : List ℕ} {n : ℕ} {ks : List (Bracket ℕ)} (a : Ruled line heads parts n ks) (o : ℕ) where
  -- the lowest of each rank, from the k-th bracket on, with y copies before it
  abbrev ranks : ℕ → ℕ → ℕ
  ranks y k = min (low o copies_rank (passing y (drop k ks))) (min (low o label_rank (wrong_from ks k)) (min (low o declared_rank (flat declared_in (drop k ks))) (low o info_rank (flat info_in (drop k ks)))))

  here : (x y k : ℕ) → k < length ks → SameFew x y
      → lowest o (due_codes line heads parts n x k)
      ≡ min (low o copies_rank (due_at (leb y copy_limit && ltb copy_limit (y + copies (bracket_at ks k))) (bracket_at ks k).at))
      (min (low o label_rank (due_at (wrong_in ks k) (bracket_at ks k).at)) (min (low o declared_rank (declared_in (bracket_at ks k))) (low o info_rank (info_in (bracket_at ks k)))))
  unfolding low
  here x y k h s =
      rw (place_is a k h, few_passes x y (copies_at heads k) (copies (bracket_at ks k)) s (copies_are a k h), wrong_is a k h, declared_is a k h, info_is a k h)
      (lowest_two o _ _ ∙ ap (min _) (lowest_two o _ _ ∙ ap (min _) (lowest_two o _ _)))

  -- the k-th bracket and those behind it
  next : (r : ℕ) (l d rest : List ℕ) → l ≡ d ++ rest → min (low o r d) (low o r rest) ≡ low o r l
  next r l d rest e = sym (ap (low o r) e ∙ low_two o r d rest)

  ranks_next : (y k : ℕ) → (h : k < length ks)
      → min (min (low o copies_rank (due_at (leb y copy_limit && ltb copy_limit (y + copies (bracket_at ks k))) (bracket_at ks k).at)) (min (low o label_rank (due_at (wrong_in ks k) (bracket_at ks k).at)) (min (low o declared_rank (declared_in (bracket_at ks k))) (low o info_rank (info_in (bracket_at ks k))))))
      (ranks (y + copies (bracket_at ks k)) (k + 1))
      ≡ ranks y k
  ranks_next y k h =
      by_rank _ _ _ _ _ _ _ _
      ∙ ap₂ min (next copies_rank (passing y (drop k ks)) _ _ (passing_next ks k y h))
      (ap₂ min (next label_rank (wrong_from ks k) _ _ (wrong_next ks k h))
      (ap₂ min (next declared_rank (flat declared_in (drop k ks)) _ _ (each_next declared_in ks k h)) (next info_rank (flat info_in (drop k ks)) _ _ (each_next info_in ks k h))))

  from : (x y k m : ℕ) → k + m ≡ length ks → SameFew x y → lowest o (due_from line heads parts n x k m) ≡ ranks y k
  unfolding due_from low lowest passing wrongly_labelled flat
  from x y k zero e s =
      let g : length ks ≤ k = omega arith in
      rw (drop_of_length-le ks g) (let z : o ≡ min o (min o (min o o)) = omega arith in z)
  from x y k (suc m) e s =
      let g : k < length ks = omega arith in
      let b = bracket_at ks k in
      lowest_two o (due_codes line heads parts n x k) (due_from line heads parts n (x + copies_at heads k) (k + 1) m)
      ∙ ap₂ min (here x y k g s)
      (from (x + copies_at heads k) (y + copies b) (k + 1) m (omega arith) (few_more x y (copies_at heads k) (copies b) s (copies_are a k g)))
      ∙ ranks_next y k g

  ruled : lowest o (due_from line heads parts n 0 0 n) ≡ lowest o (ruled_codes ks)
  unfolding low flat
  ruled =
      from 0 0 0 n (omega (arith, a.many)) (as_many refl)
      ∙ turned _ _ _ _
      ∙ sym (lowest_two o _ _ ∙ ap (min _) (lowest_two o _ _ ∙ ap (min _) (lowest_two o _ _)))

  -- no count is past its limit where few copies float
  copies_few : (k m : ℕ) → k + m ≡ length ks → floating (drop k ks) ≤ copy_limit → copies_from heads k m ≡ floating (drop k ks)
  unfolding copies_from flat
  copies_few k zero e f =
      let g : length ks ≤ k = omega arith in
      rw (drop_of_length-le ks g)
  copies_few k (suc m) e f =
      let g : k < length ks = omega arith in
      let all = floating_next ks k g in
      omega (arith, copies_are a k g, copies_few (k + 1) m (omega arith) (omega arith))

  pub finds : {first floaters : ℕ} → first ≡ lowest o (due_from line heads parts n 0 0 n) → floaters ≡ copies_from heads 0 n → Finds ks o first floaters
  finds e f = record { first_is = e ∙ ruled; floaters_are = λ few. f ∙ copies_few 0 n (omega (arith, a.many)) few }
