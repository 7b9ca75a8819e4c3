-- Numbers: the digits of a good numeral are read to what it means, and what is read as a number is a good numeral.
use Rattle.std.specs.Prelude.{ℕ, zero, suc, ◌+◌, ◌*◌, ◌≡◌, refl, Bool, true, false, List, [], ◌∷◌, ◌++◌, eqb, length}
use Rattle.std.proofs.Common.{arith, sym, ap, ◌∙◌, subst, append_assoc, append-nil, length-append, eqb-true}
use Rattle.std.proofs.lemmas.Bool.{false≢true}
use Rattle.std.proofs.Math.Option.{Option, none, some, some-injective, none-ne-some}
use Rattle.scope.specs.Bytes.{is_digit, dot, value}
use Rattle.scope.specs.Line.{Number}
use Rattle.scope.specs.Content.{Digits, signed, whole, pointed, broken, digit_step, number_end}
use Rattle.basics.specs.Choice.{branch_on, pick_true, pick_false}
use Rattle.reading_laws.proofs.Unnoted.{digit_run, digits_append, digits_cons, all_read}
use Rattle.basics.specs.Tests.{and_left, and_right, both}
use Rattle.scope.specs.Lists.{all as every}
use Rattle.scope.specs.Grammar.{some_of, Numeral, print_behind, print_numeral, good_behind, good_numeral, value_on, fraction, signed_by, means_numeral}
use Rattle.grammar_laws.proofs.Lists.{all_nil, some_snoc, some_all, value_append, value_snoc, value_one}

run_nil : (d : Digits) → digit_run d [] ≡ some d
unfolding digit_run
run_nil d = refl

-- ---- a numeral, read
step_signed : (s : Bool) (b : ℕ) → is_digit b ≡ true → digit_step (signed s) b ≡ some (whole s (0 * 10 + value b))
unfolding digit_step
step_signed s b e = pick_true (is_digit b) _ _ e ∙ ap (λ z. some (whole s z)) (omega arith)

step_whole : (s : Bool) (m b : ℕ) → is_digit b ≡ true → digit_step (whole s m) b ≡ some (whole s (m * 10 + value b))
unfolding digit_step
step_whole s m b e = pick_true (is_digit b) _ _ e

step_dot : (s : Bool) (m : ℕ) → digit_step (whole s m) dot ≡ some (pointed s m)
unfolding digit_step
step_dot s m = refl

step_pointed : (s : Bool) (m b : ℕ) → is_digit b ≡ true → digit_step (pointed s m) b ≡ some (broken s (m * 10 + value b) 1)
unfolding digit_step
step_pointed s m b e = pick_true (is_digit b) _ _ e

step_broken : (s : Bool) (m d b : ℕ) → is_digit b ≡ true → digit_step (broken s m d) b ≡ some (broken s (m * 10 + value b) (d + 1))
unfolding digit_step
step_broken s m d b e = pick_true (is_digit b) _ _ e

whole_run : (s : Bool) (m : ℕ) (l : List ℕ) → every is_digit l ≡ true → digit_run (whole s m) l ≡ some (whole s (value_on m l))
unfolding digit_run every value_on
whole_run s m [] e = refl
whole_run s m (b ∷ l) e =
    digits_cons (whole s m) (whole s (m * 10 + value b)) b l (step_whole s m b (and_left (is_digit b) (every is_digit l) e))
    ∙ whole_run s (m * 10 + value b) l (and_right (is_digit b) (every is_digit l) e)

broken_run : (s : Bool) (m d : ℕ) (l : List ℕ) → every is_digit l ≡ true → digit_run (broken s m d) l ≡ some (broken s (value_on m l) (d + length l))
unfolding digit_run every value_on
broken_run s m d [] e = ap (λ z. some (broken s m z)) (omega arith)
broken_run s m d (b ∷ l) e =
    digits_cons (broken s m d) (broken s (m * 10 + value b) (d + 1)) b l (step_broken s m d b (and_left (is_digit b) (every is_digit l) e))
    ∙ broken_run s (m * 10 + value b) (d + 1) l (and_right (is_digit b) (every is_digit l) e)
    ∙ ap (λ z. some (broken s (value_on (m * 10 + value b) l) z)) (omega arith)

front_run : (s : Bool) (a : List ℕ) → some_of is_digit a ≡ true → digit_run (signed s) a ≡ some (whole s (value_on 0 a))
unfolding every value_on
front_run s [] e = absurd (false≢true e)
front_run s (b ∷ a) e =
    digits_cons (signed s) (whole s (0 * 10 + value b)) b a (step_signed s b (and_left (is_digit b) (every is_digit a) e))
    ∙ whole_run s (0 * 10 + value b) a (and_right (is_digit b) (every is_digit a) e)

point_run : (s : Bool) (m : ℕ) (f : List ℕ) → some_of is_digit f ≡ true → digit_run (whole s m) (dot ∷ f) ≡ some (all_read s (value_on m f) (length f))
unfolding every value_on all_read
point_run s m [] e = absurd (false≢true e)
point_run s m (b ∷ f) e =
    digits_cons (whole s m) (pointed s m) dot (b ∷ f) (step_dot s m)
    ∙ digits_cons (pointed s m) (broken s (m * 10 + value b) 1) b f (step_pointed s m b (and_left (is_digit b) (every is_digit f) e))
    ∙ broken_run s (m * 10 + value b) 1 f (and_right (is_digit b) (every is_digit f) e)
    ∙ ap (λ z. some (broken s (value_on (m * 10 + value b) f) z)) (omega arith)

-- how a number stands that means n
abbrev pub read_as : Bool → Numeral → Digits
read_as s n = all_read s (value_on 0 (n.whole ++ fraction n.behind)) (length (fraction n.behind))

pub numeral_run : (s : Bool) (n : Numeral) → good_numeral n ≡ true → digit_run (signed s) (print_numeral n) ≡ some (read_as s n)
unfolding all_read
numeral_run s n e = go n.behind (and_right (some_of is_digit n.whole) (good_behind n.behind) e)
  where
    a : List ℕ
    a = n.whole

    front : digit_run (signed s) a ≡ some (whole s (value_on 0 a))
    front = front_run s a (and_left (some_of is_digit a) (good_behind n.behind) e)

    go : (o : Option (List ℕ)) → good_behind o ≡ true → digit_run (signed s) (a ++ print_behind o) ≡ some (all_read s (value_on 0 (a ++ fraction o)) (length (fraction o)))
    go none g = rw (append-nil a) front
    go (some f) g =
        digits_append a (dot ∷ f) (signed s) (whole s (value_on 0 a)) front
        ∙ point_run s (value_on 0 a) f g
        ∙ ap (λ z. some (all_read s z (length f))) (sym (value_append 0 a f))

pub numeral_end : {P : Type 0} (i : P) (s : Bool) (n : Numeral) → number_end i (read_as s n) ≡ some (means_numeral i s n)
unfolding number_end all_read
numeral_end i s n = go (length (fraction n.behind))
  where
    go : (d : ℕ) → number_end i (all_read s (value_on 0 (n.whole ++ fraction n.behind)) d) ≡ some (signed_by i s (value_on 0 (n.whole ++ fraction n.behind)) d)
    go zero = refl
    go (suc d) = refl

-- it goes on with digits, and a point
pub numeral_stops : (s : Bool) (n : Numeral) (b : ℕ) → is_digit b ≡ false → eqb b dot ≡ false → digit_step (read_as s n) b ≡ none
unfolding digit_step all_read
numeral_stops s n b e f = go (value_on 0 (n.whole ++ fraction n.behind)) (length (fraction n.behind))
  where
    go : (m d : ℕ) → digit_step (all_read s m d) b ≡ none
    go m zero = pick_false (is_digit b) _ _ e ∙ pick_false (eqb b dot) _ _ f
    go m (suc d) = pick_false (is_digit b) _ _ e

-- ---- what is read of a number, behind its sign
pub record Front (m : ℕ) (w : List ℕ) : Type 0 where
  pub some : some_of is_digit w ≡ true
  pub is : m ≡ value_on 0 w

pub record Pointed (m : ℕ) (w : List ℕ) : Type 0 where
  pub front : List ℕ
  pub so : Front m front
  pub all : w ≡ front ++ (dot ∷ [])

pub record Broken (m d : ℕ) (w : List ℕ) : Type 0 where
  pub front : List ℕ
  pub behind : List ℕ
  pub some_front : some_of is_digit front ≡ true
  pub some_behind : some_of is_digit behind ≡ true
  pub is : m ≡ value_on 0 (front ++ behind)
  pub places : d ≡ length behind
  pub all : w ≡ front ++ (dot ∷ behind)

-- s is its sign
abbrev pub SoFar : Bool → Digits → List ℕ → Type 0
SoFar s (signed t) w = (t ≡ s) × (w ≡ [])
SoFar s (whole t m) w = (t ≡ s) × Front m w
SoFar s (pointed t m) w = (t ≡ s) × Pointed m w
SoFar s (broken t m d) w = (t ≡ s) × Broken m d w

front_more : (m : ℕ) (w : List ℕ) (b : ℕ) → Front m w → is_digit b ≡ true → Front (m * 10 + value b) (w ++ (b ∷ []))
front_more m w b f e = record { some = some_snoc is_digit w b (some_all is_digit w f.some) e; is = ap (λ z. z * 10 + value b) f.is ∙ sym (value_snoc 0 w b) }

broken_first : (m : ℕ) (w : List ℕ) (b : ℕ) → Pointed m w → is_digit b ≡ true → Broken (m * 10 + value b) 1 (w ++ (b ∷ []))
broken_first m w b p e =
    record {
      front = p.front;
      behind = b ∷ [];
      some_front = p.so.some;
      some_behind = some_snoc is_digit [] b (all_nil is_digit) e;
      is = ap (λ z. z * 10 + value b) p.so.is ∙ sym (value_snoc 0 p.front b);
      places = refl;
      all = ap (λ z. z ++ (b ∷ [])) p.all ∙ append_assoc p.front (dot ∷ []) (b ∷ []);
    }

broken_more : (m d : ℕ) (w : List ℕ) (b : ℕ) → Broken m d w → is_digit b ≡ true → Broken (m * 10 + value b) (d + 1) (w ++ (b ∷ []))
broken_more m d w b p e =
    record {
      front = p.front;
      behind = p.behind ++ (b ∷ []);
      some_front = p.some_front;
      some_behind = some_snoc is_digit p.behind b (some_all is_digit p.behind p.some_behind) e;
      is = ap (λ z. z * 10 + value b) p.is ∙ sym (value_snoc 0 (p.front ++ p.behind) b) ∙ ap (value_on 0) (append_assoc p.front p.behind (b ∷ []));
      places = ap (λ z. z + 1) p.places ∙ sym (length-append p.behind (b ∷ []));
      all = ap (λ z. z ++ (b ∷ [])) p.all ∙ append_assoc p.front (dot ∷ p.behind) (b ∷ []);
    }

abbrev pub SoFarO : Bool → Option Digits → List ℕ → Type 0
SoFarO s none w = Unit {0}
SoFarO s (some d) w = SoFar s d w

digit_step_lem : (s : Bool) (d : Digits) (b : ℕ) (w : List ℕ) → SoFar s d w → SoFarO s (digit_step d b) (w ++ (b ∷ []))
unfolding digit_step
digit_step_lem s (signed t) b w f =
    branch_on (λ o. SoFarO s o (w ++ (b ∷ []))) (is_digit b) (λ e. (f.0, rw f.1 (record { some = some_snoc is_digit [] b (all_nil is_digit) e; is = value_one b }))) (λ e. tt)
digit_step_lem s (whole t m) b w f =
    branch_on (λ o. SoFarO s o (w ++ (b ∷ []))) (is_digit b) (λ e. (f.0, front_more m w b f.1 e))
    (λ e. branch_on (λ o. SoFarO s o (w ++ (b ∷ []))) (eqb b dot) (λ q. (f.0, record { front = w; so = f.1; all = ap (λ z. w ++ (z ∷ [])) (eqb-true b dot q) })) (λ q. tt))
digit_step_lem s (pointed t m) b w f = branch_on (λ o. SoFarO s o (w ++ (b ∷ []))) (is_digit b) (λ e. (f.0, broken_first m w b f.1 e)) (λ e. tt)
digit_step_lem s (broken t m d) b w f = branch_on (λ o. SoFarO s o (w ++ (b ∷ []))) (is_digit b) (λ e. (f.0, broken_more m d w b f.1 e)) (λ e. tt)

pub so_further : (s : Bool) (d d' : Digits) (b : ℕ) (w : List ℕ) → SoFar s d w → digit_step d b ≡ some d' → SoFar s d' (w ++ (b ∷ []))
so_further s d d' b w f e = subst (λ (o : Option Digits). SoFarO s o (w ++ (b ∷ []))) e (digit_step_lem s d b w f)

-- the first digit of a number without sign
pub so_first : (b : ℕ) → is_digit b ≡ true → SoFar false (whole false (value b)) (b ∷ [])
so_first b e = (refl, record { some = some_snoc is_digit [] b (all_nil is_digit) e; is = value_one b })

-- a number that is read is spelled
pub record NumberSpelt {P : Type 0} (i : P) (s : Bool) (x : Number P) (w : List ℕ) : Type 0 where
  pub numeral : Numeral
  pub good : good_numeral numeral ≡ true
  pub prints : w ≡ print_numeral numeral
  pub means : x ≡ means_numeral i s numeral

pub so_ended : {P : Type 0} (i : P) (s : Bool) (d : Digits) (x : Number P) (w : List ℕ) → SoFar s d w → number_end i d ≡ some x → NumberSpelt i s x w
unfolding number_end
so_ended i s (signed t) x w f e = absurd (none-ne-some x e)
so_ended i s (whole t m) x w f e =
    record {
      numeral = record { whole = w; behind = none };
      good = both (some_of is_digit w) true f.1.some refl;
      prints = sym (append-nil w);
      means = sym (some-injective _ x e) ∙ ap (λ z. signed_by i z m 0) f.0 ∙ ap (λ z. signed_by i s z 0) (f.1.is ∙ ap (value_on 0) (sym (append-nil w)));
    }
so_ended i s (pointed t m) x w f e = absurd (none-ne-some x e)
so_ended i s (broken t m d) x w f e =
    record {
      numeral = record { whole = f.1.front; behind = some f.1.behind };
      good = both (some_of is_digit f.1.front) (some_of is_digit f.1.behind) f.1.some_front f.1.some_behind;
      prints = f.1.all;
      means = sym (some-injective _ x e) ∙ ap (λ z. signed_by i z m d) f.0 ∙ ap (λ z. signed_by i s z d) f.1.is ∙ ap (signed_by i s _) f.1.places;
    }
