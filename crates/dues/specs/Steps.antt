-- A part's codes, met in steps: those of its mass, of its key and of its text, and behind them those of its label, which changes none of these.
use Rattle.std.specs.Prelude.{◌≡◌, refl, Bool, not, ◌&&◌, ◌||◌, List, [], ◌++◌, map, eqb, leb, ltb, length}
use Rattle.std.proofs.Math.Path.{sym, ap, ap₂}
use Rattle.std.proofs.Common.{◌∙◌, append-nil}
use Rattle.std.proofs.Math.Bool.{true, false, or-false}
use Rattle.std.proofs.Math.Option.{none}
use Prim.Native.Nat.{ℕ, ◌+◌, min}
use native.Mathlib.Omega.{arith}
use Rattle.scope.specs.declared.grammar.Key.{Key}
use Rattle.scope.specs.declared.grammar.Key.TheVariants.{NoKey, U, M, R, X, G, C, Obs, Unimod, Mod, Xlmod, Resid, Gno, Info, Formula, Glycan, Position, Limit}
use Rattle.scope.specs.Bytes.{is_digit}
use Rattle.scope.specs.Glycans.{cuttings}
use Rattle.scope.specs.Limits.{text_limit, label_limit}
use Rattle.scope.specs.Line.{Label, Part}
use Rattle.scope.specs.Lists.{given, none?, all}
use Rattle.scope.specs.Keys.{key_code, written}
use Rattle.scope.specs.Content.{labelled}
use Rattle.scope.specs.Modifications.{is_key}
use Rattle.scope.specs.Refusals.{due_at, text_of, too_deep, long_text, wide, wide_mass, is_rule_name, is_rule, is_link, not_here, is_number_name}
use Rattle.dues.specs.Ranks.{code, lowest}
use Rattle.dues.specs.Lines.{deep_rank, over_rank, wide_rank, barred_rank, digits_rank, uncut_rank, part_codes, label_codes}
use Rattle.dues.specs.Met.{mins, lowest_below, lowest_min, lowest_two, low, low_two, p5, p6, p7, p8, p9, p19, part_low}

-- ---- a part that begins at i, by the code n of its key
-- 8 by its key: from Formula on keys are barred, but for Glycan
abbrev pub barred_key : ℕ → Bool
barred_key n = leb (key_code Formula) n && not (eqb n (key_code Glycan))

abbrev pub key_codes : ℕ → ℕ → List ℕ
key_codes n i = map (code barred_rank) (due_at (barred_key n) i)

-- 8 by its key, or by its text, where it has no key; 9, where its key is U or M; 19, where it is Glycan
abbrev pub name_codes : ℕ → ℕ → List ℕ → List ℕ
name_codes n i t =
    map (code barred_rank) (due_at (barred_key n || (eqb n (key_code NoKey) && is_rule_name t)) i)
    ++ (map (code digits_rank) (due_at ((eqb n (key_code U) || eqb n (key_code M)) && not (none? t) && all is_digit t) i)
    ++ map (code uncut_rank) (due_at (eqb n (key_code Glycan) && none? (cuttings t)) i))

-- of its text, which begins at a: these, 6 and 5
abbrev pub text_codes : ℕ → ℕ → ℕ → List ℕ → List ℕ
text_codes n i a t =
    name_codes n i t
    ++ (map (code over_rank) (due_at (ltb text_limit (length t)) i)
    ++ map (code deep_rank) (too_deep 0 a t))

-- ---- the tests
barred_keys : (k : Key)
    → (eqb (key_code k) (key_code Formula) || eqb (key_code k) (key_code Position) || eqb (key_code k) (key_code Limit)) ≡ barred_key (key_code k)
barred_keys NoKey = refl
barred_keys U = refl
barred_keys M = refl
barred_keys R = refl
barred_keys X = refl
barred_keys G = refl
barred_keys C = refl
barred_keys Obs = refl
barred_keys Unimod = refl
barred_keys Mod = refl
barred_keys Xlmod = refl
barred_keys Resid = refl
barred_keys Gno = refl
barred_keys Info = refl
barred_keys Formula = refl
barred_keys Glycan = refl
barred_keys Position = refl
barred_keys Limit = refl

abbrev bare_rule : Part ℕ → Bool
bare_rule q = eqb (key_code q.key) (key_code NoKey) && is_rule_name (text_of q)

-- what 8 asks of a part but for its label
abbrev barred : Part ℕ → Bool
barred q = is_key Formula q || is_key Position q || is_key Limit q || is_rule q

not_here_lem : (q : Part ℕ) → q.label ≡ none → not_here q ≡ barred q
not_here_lem q e = rw e (or-false (barred q))

barred_is : (q : Part ℕ) → barred q ≡ (barred_key (key_code q.key) || bare_rule q)
barred_is q = ap (λ t. t || is_rule q) (barred_keys q.key)

-- ---- the lower of several, in another order
in_steps : (d o w b g u : ℕ) → min w (min (min b (min g u)) (min o d)) ≡ min d (min o (min w (min b (min g u))))
in_steps d o w b g u = simp mins

with_label_lem : (d o w b g u o' w' b' : ℕ)
    → min d (min (min o o') (min (min w w') (min (min b b') (min g u)))) ≡ min (min d (min o (min w (min b (min g u))))) (min o' (min w' b'))
with_label_lem d o w b g u o' w' b' = simp mins

module _ (n : ℕ) where
  low_either : (r i : ℕ) (s t : Bool) → low n r (due_at (s || t) i) ≡ min (low n r (due_at s i)) (low n r (due_at t i))
  unfolding low lowest
  low_either r i true true = omega arith
  low_either r i true false = omega arith
  low_either r i false true = omega arith
  low_either r i false false = omega arith

  -- the lowest of a list, below what was found in another
  pub lowest_on : (a b : List ℕ) → lowest (lowest n a) b ≡ min (lowest n a) (lowest n b)
  lowest_on a b = lowest_min n (lowest n a) b (lowest_below n a)

  -- one list after another
  pub lowest_after : (a b : List ℕ) → lowest n (a ++ b) ≡ lowest (lowest n a) b
  lowest_after a b = lowest_two n a b ∙ sym (lowest_on a b)

  module _ (q : Part ℕ) (bare : q.label ≡ none) where
    over_bare : p6 n q ≡ low n over_rank (long_text q)
    over_bare = rw bare (ap (low n over_rank) (append-nil (long_text q)))

    wide_bare : p7 n q ≡ low n wide_rank (wide_mass q.value)
    wide_bare = rw bare (ap (low n wide_rank) (append-nil (wide_mass q.value)))

    abbrev barred_test : Bool
    barred_test = barred_key (key_code q.key) || bare_rule q

    barred_bare : p8 n q ≡ low n barred_rank (due_at barred_test q.at)
    barred_bare = ap (λ t. low n barred_rank (due_at t q.at)) (not_here_lem q bare ∙ barred_is q)

    -- a part without a label: what is due of its mass, and of its key and text
    pub of_value : lowest n (map (code wide_rank) (wide_mass q.value) ++ text_codes (key_code q.key) q.at (q.at + length (written q.key)) (text_of q))
        ≡ lowest n (part_codes q)
    unfolding low
    of_value =
        lowest_two n (map (code wide_rank) (wide_mass q.value)) _
        ∙ ap (min (low n wide_rank (wide_mass q.value)))
        (lowest_two n (name_codes (key_code q.key) q.at (text_of q)) _
        ∙ ap₂ min
        (lowest_two n (map (code barred_rank) (due_at barred_test q.at)) _
        ∙ ap (min (low n barred_rank (due_at barred_test q.at))) (lowest_two n (map (code digits_rank) (due_at (is_number_name q) q.at)) _))
        (lowest_two n (map (code over_rank) (long_text q)) _))
        ∙ in_steps (p5 n q) (low n over_rank (long_text q)) (low n wide_rank (wide_mass q.value)) (low n barred_rank (due_at barred_test q.at)) (p9 n q) (p19 n q)
        ∙ sym
        (part_low n q
        ∙ ap (min (p5 n q)) (ap₂ min over_bare (ap₂ min wide_bare (ap (λ x. min x (min (p9 n q) (p19 n q))) barred_bare))))

    module _ (l : Label ℕ) where
      abbrev q' : Part ℕ
      q' = labelled q l.at l.name l.score

      abbrev long : List ℕ
      long = due_at (ltb label_limit (length l.name)) l.at

      over_labelled : p6 n q' ≡ min (p6 n q) (low n over_rank long)
      over_labelled = low_two n over_rank (long_text q) long ∙ ap (λ x. min x (low n over_rank long)) (sym over_bare)

      wide_labelled : p7 n q' ≡ min (p7 n q) (low n wide_rank (given l.score wide []))
      wide_labelled =
          low_two n wide_rank (wide_mass q.value) (given l.score wide [])
          ∙ ap (λ x. min x (low n wide_rank (given l.score wide []))) (sym wide_bare)

      barred_labelled : p8 n q' ≡ min (p8 n q) (low n barred_rank (due_at (is_link l.name) q.at))
      barred_labelled =
          low_either barred_rank q.at (barred q) (is_link l.name)
          ∙ ap (λ x. min (low n barred_rank (due_at x q.at)) (low n barred_rank (due_at (is_link l.name) q.at))) (sym (not_here_lem q bare))

      label_low : lowest n (label_codes q.at l)
          ≡ min (low n over_rank long) (min (low n wide_rank (given l.score wide [])) (low n barred_rank (due_at (is_link l.name) q.at)))
      unfolding low
      label_low =
          lowest_two n (map (code over_rank) long) _ ∙ ap (min (low n over_rank long)) (lowest_two n (map (code wide_rank) (given l.score wide [])) _)

      -- a part with a label: what is due without it, then what is due of it
      pub of_label : lowest n (part_codes q') ≡ lowest (lowest n (part_codes q)) (label_codes q.at l)
      unfolding low
      of_label =
          part_low n q'
          ∙ ap (min (p5 n q)) (ap₂ min over_labelled (ap₂ min wide_labelled (ap (λ x. min x (min (p9 n q) (p19 n q))) barred_labelled)))
          ∙ with_label_lem (p5 n q) (p6 n q) (p7 n q) (p8 n q) (p9 n q) (p19 n q) _ _ _
          ∙ sym (lowest_on (part_codes q) (label_codes q.at l) ∙ ap₂ min (part_low n q) label_low)
