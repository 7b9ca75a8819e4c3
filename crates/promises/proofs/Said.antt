-- An answer is known by what it says: `says` is one-to-one. And each number of a reason is said by an answer.
use Rattle.std.specs.Prelude.{◌≡◌, refl, Bool, true, false, ◌&&◌, List, [], ◌∷◌, ℕ, ◌-◌, eqb, get_or, Float, Result, Ok, Err}
use Rattle.std.proofs.Common.{sym, ap, ap₂, ◌∙◌, subst, inl, inr, true≢false, arith, eqb-true}
use Rattle.scope.specs.declared.answers.Shown.{Shown}
use Rattle.scope.specs.declared.answers.Shown.TheVariants.{Daltons, Missing, Refused as shown_refused}
use Rattle.scope.specs.declared.refusals.Reason.{Reason}
use Rattle.scope.specs.declared.refusals.Reason.TheVariants.{EmptyLine, LongLine, OutsideByte, Order, Deep, TooMany, OutOfRange, NotTaken, DigitsOnly, OnlyInfo, Labels, Copies, ShortArea, NoTables, ShortOutput, NoMass, NotFound, NotAllowed, Uncut, InfoDeclared, NoEntry, Present, NoRoom, Damaged, NotBlocks}
use Rattle.scope.specs.declared.refusals.Refusal.{Refusal}
use Rattle.scope.specs.Answers.{Said, good, refuses, of_good, met, reason_number, says, a_mass, lack, says_shown}
use Rattle.basics.specs.Each.{In}
use Rattle.basics.specs.Said.{not_both, same_good, same_number_lem, same_place}

-- ---- what is said
-- what was worked out was worked out of something
pub of_taken : {A B : Type 0} (f : A → B) (a : Said A) {y : B} → of_good f a ≡ good y → (x : A) × (a ≡ good x) × (y ≡ f x)
of_taken f (good x) e = (x, refl, sym (same_good e))
of_taken f (refuses n p) e = absurd (not_both (sym e))

-- a refusal is one of what was worked out, too
pub of_refused : {A B : Type 0} (f : A → B) (a : Said A) {n p : ℕ} → of_good f a ≡ refuses n p → a ≡ refuses n p
of_refused f (good x) e = absurd (not_both e)
of_refused f (refuses m q) e = ap₂ refuses (same_number_lem e) (same_place e)

pub met_refused : {A : Type 0} (a : Said A) {n p : ℕ} → met a ≡ refuses n p → a ≡ refuses n p
met_refused a e = of_refused (λ x. tt) a e

-- ---- the reasons, by their numbers: no reason has the number 20
abbrev reasons : List Reason
reasons =
    EmptyLine ∷ LongLine ∷ OutsideByte ∷ Order ∷ Deep ∷ TooMany ∷ OutOfRange ∷ NotTaken ∷ DigitsOnly ∷ OnlyInfo ∷ Labels ∷ Copies ∷ ShortArea ∷ NoTables ∷ ShortOutput
    ∷ NoMass ∷ NotFound ∷ NotAllowed ∷ Uncut ∷ EmptyLine ∷ InfoDeclared ∷ NoEntry ∷ Present ∷ NoRoom ∷ Damaged ∷ NotBlocks ∷ []

abbrev pub reason_at : ℕ → Reason
reason_at n = get_or reasons (n - 1) EmptyLine

reason_back : (r : Reason) → reason_at (reason_number r) ≡ r
reason_back EmptyLine = refl
reason_back LongLine = refl
reason_back OutsideByte = refl
reason_back Order = refl
reason_back Deep = refl
reason_back TooMany = refl
reason_back OutOfRange = refl
reason_back NotTaken = refl
reason_back DigitsOnly = refl
reason_back OnlyInfo = refl
reason_back Labels = refl
reason_back Copies = refl
reason_back ShortArea = refl
reason_back NoTables = refl
reason_back ShortOutput = refl
reason_back NoMass = refl
reason_back NotFound = refl
reason_back NotAllowed = refl
reason_back Uncut = refl
reason_back InfoDeclared = refl
reason_back NoEntry = refl
reason_back Present = refl
reason_back NoRoom = refl
reason_back Damaged = refl
reason_back NotBlocks = refl

-- these numbers are reasons'
abbrev known : ℕ → Bool
known n = eqb (reason_number (reason_at n)) n

abbrev pub all_known : List ℕ → Bool
all_known [] = true
all_known (n ∷ l) = known n && all_known l

pub known_in : (numbers : List ℕ) → all_known numbers ≡ true → (n : ℕ) → In n numbers → reason_number (reason_at n) ≡ n
known_in [] h n i = absurd i
known_in (m ∷ l) h n i = go (known m) refl h i (λ f j. known_in l f n j)
  where
    go : (b : Bool) → known m ≡ b → (b && all_known l) ≡ true → In n (m ∷ l) → (all_known l ≡ true → In n l → reason_number (reason_at n) ≡ n) → reason_number (reason_at n) ≡ n
    go true e f (inl q) ih = subst (λ z. reason_number (reason_at z) ≡ z) (sym q) (eqb-true (reason_number (reason_at m)) m e)
    go true e f (inr j) ih = ih f j
    go false e f j ih = absurd (true≢false (sym f))

-- the answer that says such a refusal
abbrev pub refusal_of : ℕ → ℕ → Refusal
refusal_of n p = record { reason = reason_at n; place = p }

-- ---- the answers
same_reason : (r s : Reason) → reason_number r ≡ reason_number s → r ≡ s
same_reason r s e = sym (reason_back r) ∙ ap reason_at e ∙ reason_back s

pub says_same : {A : Type 0} (x y : Result A Refusal) → says x ≡ says y → x ≡ y
says_same (Ok m) (Ok n) e = ap Ok (same_good e)
says_same (Ok m) (Err f) e = absurd (not_both e)
says_same (Err f) (Ok m) e = absurd (not_both (sym e))
says_same (Err f) (Err g) e = ap₂ (λ r p. Err (record { reason = r; place = p })) (same_reason f.reason g.reason (same_number_lem e)) (same_place e)

-- ---- a display
pub not_lack : {x : Float} {n : ℕ} → a_mass x ≡ lack n → ⊥
not_lack e = let z : ◌≡◌ {A = ℕ} 0 1 = cc in omega arith

same_mass : {x y : Float} → a_mass x ≡ a_mass y → x ≡ y
same_mass e = cc

pub same_lack : {m n : ℕ} → lack m ≡ lack n → m ≡ n
same_lack e = cc

pub shown_same : (x y : Shown) → says_shown x ≡ says_shown y → x ≡ y
shown_same (Daltons a) (Daltons b) e = ap Daltons (same_mass (same_good e))
shown_same (Daltons a) (Missing n) e = absurd (not_lack (same_good e))
shown_same (Daltons a) (shown_refused r) e = absurd (not_both e)
shown_same (Missing m) (Daltons b) e = absurd (not_lack (sym (same_good e)))
shown_same (Missing m) (Missing n) e = ap Missing (same_lack (same_good e))
shown_same (Missing m) (shown_refused r) e = absurd (not_both e)
shown_same (shown_refused r) (Daltons b) e = absurd (not_both (sym e))
shown_same (shown_refused r) (Missing n) e = absurd (not_both (sym e))
shown_same (shown_refused r) (shown_refused q) e = ap shown_refused (same_reason r q (same_number_lem e))
