-- The demands of the tender, each sentence above its theorem, over what the calls ensure: `ReadSays` (crate reader), `WriteSays`, `CountSays`, `TotalSays`,
-- `ShownSays`, `AllowedSays`, `NextSays`, `LedgerSays` (calls), `LookupSays` (rows), `RowsSays` and `StepSays` (listing), `PiecesSay` (glycans), `ReachedSays` (calls), `EmptySays`,
-- `AddSays`, `FetchSays`, `RemoveSays`, `EntrySays` and `SurveySays` (keeping). That each call asks nothing, and ensures
-- exactly its relation, is shown in proofs/Linked.antt. An answer is spoken of by what it says (`says`, of a display `says_shown`). The proofs: proofs/Kept.antt, for a caller in C
-- proofs/KeptC.antt, and the files that they cite.
use Rattle.std.specs.Prelude.{◌≡◌, ◌↔◌, ◌⊎◌, true, false, List, [], ◌∷◌, ◌++◌, ℕ, zero, suc, ◌≤◌, ◌<◌, ℤ, ◌+ℤ◌, Float, length, take, drop, get_or, Result, Ok, Err}
use Rattle.std.proofs.Math.Option.{some}
use Rattle.scope.specs.declared.answers.Mass.{Mass}
use Rattle.scope.specs.declared.answers.Mass.TheVariants.{Stated}
use Rattle.scope.specs.declared.answers.Shown.{Shown}
use Rattle.scope.specs.declared.answers.Placement.{Placement}
use Rattle.scope.specs.declared.answers.Listing.{Listing}
use Rattle.scope.specs.declared.answers.Ledger.{Ledger}
use Rattle.scope.specs.declared.answers.Why.{Why}
use Rattle.scope.specs.declared.answers.Site.{Site}
use Rattle.scope.specs.Limits.{copy_limit, row_limit, position_limit}
use Rattle.scope.specs.Line.{Number, Bracket, Line}
use Rattle.scope.specs.Glycans.{Item}
use Rattle.scope.specs.Kept.{kept}
use Rattle.scope.specs.Tables.{Tables, tables_of}
use Rattle.scope.specs.Layout.{bytes_of, numbers_of, tables_in}
use Rattle.scope.specs.Lists.{flat, laid, tabled, padded}
use Rattle.scope.specs.Positions.{sites, names, placed_on, floaters, floating_of}
use Rattle.scope.specs.Placements.{fresh_listing}
use Rattle.scope.specs.Reasons.{too_few, Reason}
use Rattle.scope.specs.Modifications.{is_modification}
use Rattle.scope.specs.Masses.{times, sum, total, lacking, labile_mass, daltons}
use Rattle.scope.specs.Answers.{Said, good, refuses, too_short, are_tables, counts, residue_count, bracket_count, floater_count, totals, shows, looks_up, says, a_mass, lack, says_shown}
use Rattle.scope.specs.Grammar.{Spelling, print, good as well_spelt, means}
use Rattle.grammar_laws.specs.Laws.{Accepts, Refuses}
use Rattle.glycan_laws.specs.Laws.{Cuts}
use Rattle.placement_laws.specs.Terms.{Ascending, bracket_at, marked, Placing, Rearranged, Rising, unmarked}
use Rattle.placement_laws.specs.Standing.{place, Ascent}
use Rattle.basics.specs.Each.{In, Ordered}
use Rattle.laws.specs.Demands.{remeasured}
use Rattle.blocks.specs.declared.Fetched.{Fetched}
use Rattle.blocks.specs.Answers.{listed_from, survey_said}
use Rattle.keeping.specs.Says.{EmptySays, AddSays, FetchSays, RemoveSays, EntrySays, SurveySays}
use Rattle.verdict.specs.Says.{VerdictSays}
use Rattle.reader.specs.ReadSays.{ReadSays}
use Rattle.glycans.specs.Pieces.{piece_bytes, PiecesSay}
use Rattle.calls.specs.Writing.{WriteSays}
use Rattle.calls.specs.Single.{element_at, weighs_at}
use Rattle.calls.specs.Competing.{WhySays}
use Rattle.calls.specs.Floating.{FloatersSay}
use Rattle.calls.specs.Reaching.{ReachedSays}
use Rattle.calls.specs.Says.{CountSays, TotalSays, BracketMassSays, ShownSays, AllowedSays, NextSays, LedgerSays}
use Rattle.rows.specs.Says.{LookupSays}
use Rattle.listing.specs.Says.{RowsSays, StepSays}
use Rattle.export.specs.Numbers.{Judged, Exported}
use Rattle.export.specs.Handed.{Counted, RowsHanded, LookedUp, MovedOn}
use Rattle.export.specs.Shapes.{Written, Totalled, Massed, Displayed, AllowedLent, FloatersHanded, WhyHanded, ReachedHanded, PiecesHanded, ReadEntered as EnteredLent}
use Rattle.export.specs.Blocks.{EmptyHanded, AddHanded, FetchHanded, RemoveHanded, HeadHanded, Surveyed}
use Rattle.promises.specs.Keeping.{Keeping}
use Rattle.scope.specs.declared.answers.Row.{Row}
use Rattle.scope.specs.declared.refusals.Refusal.{Refusal}

-- ======== demand 1
-- "Every line of bytes, every set of tables and every lent area gets an answer, and the caller need not have checked anything."

-- An outcome is an answer, with everything lent as it is afterwards. Exactly one is as ensured.
pub record ExactlyOne {O : Type 0} (Ensured : O → Type 0) : Type 0 where
  pub outcome : O
  pub ensured : Ensured outcome
  pub only : (o : O) → Ensured o → o ≡ outcome

-- What is said is a success, or a refusal with one of these numbers, and then everything is left so.
pub record OnlyRefuses {A : Type 0} (numbers : List ℕ) (said : Said A) (Left : Type 0) : Type 0 where
  pub number : (n p : ℕ) → said ≡ refuses n p → In n numbers
  pub left : (n p : ℕ) → said ≡ refuses n p → Left

pub record Answered {O A : Type 0} (Ensured : O → Type 0) (says : O → Said A) (numbers : List ℕ) (Left : O → Type 0) : Type 0 where
  pub exactly_one : ExactlyOne Ensured
  pub only_refuses : (o : O) → Ensured o → OnlyRefuses numbers (says o) (Left o)

-- a call that is lent nothing to write to
abbrev pub Nothing : {O : Type 0} → O → Type 0
Nothing o = Unit {0}

-- ---- reading
-- What a reader says of a line, two areas, its answer, and the areas afterwards. What follows is stated of any, and promised of `ReadSays`.
abbrev pub Reader : Type 1
Reader = List ℕ → List ℕ → List ℤ → Result (Unit {0}) Refusal → List ℕ → List ℤ → Type 0

-- "Reading tries 13, then 1 to 12", 21 "after 10", and 19 "after 12": the numbers of a line
abbrev pub line_numbers : List ℕ
line_numbers = tabled (λ n. n) 1 12 ++ (19 ∷ 21 ∷ [])

-- "A line outside the rules is refused with a number and a place; the tables then hold what they held before."
pub record TurnedAway (s bs : List ℕ) (ns : List ℤ) (r : Result (Unit {0}) Refusal) (bs' : List ℕ) (ns' : List ℤ) : Type 0 where
  pub number : ℕ
  pub place : ℕ
  pub says : says r ≡ refuses number place
  pub one_of : In number (13 ∷ line_numbers)
  pub inside : place ≤ length s
  pub bytes : bs' ≡ bs
  pub numbers : ns' ≡ ns

pub record AnswersLines (Says : Reader) : Type 0 where
  pub exactly_one : (s bs : List ℕ) (ns : List ℤ) → ExactlyOne (λ (o : (Result (Unit {0}) Refusal) × List ℕ × List ℤ). Says s bs ns o.0 o.1 o.2)
  pub answered :
      (s bs : List ℕ) (ns : List ℤ) (r : Result (Unit {0}) Refusal) (bs' : List ℕ) (ns' : List ℤ) → Says s bs ns r bs' ns'
      → (says r ≡ good tt) ⊎ TurnedAway s bs ns r bs' ns'

-- ---- the calls over an area of blocks (02, L5)
-- "Adding tries the line's own refusals and 18 first; then come 26, 25, 22 to 24": the numbers of adding
abbrev pub add_numbers : List ℕ
add_numbers = line_numbers ++ (18 ∷ 23 ∷ 24 ∷ 25 ∷ 26 ∷ [])

pub record AnswersBlocks : Type 0 where
  pub empty : (a : List ℕ) → Answered (λ (o : (Result (Unit {0}) Refusal) × List ℕ). EmptySays a o.0 o.1) (λ o. says o.0) (26 ∷ []) (λ o. o.1 ≡ a)
  pub add :
      (a : List ℕ) (n : ℕ) (p : Placement) (s : List ℕ)
      → Answered (λ (o : (Result (Unit {0}) Refusal) × List ℕ). AddSays a n p s o.0 o.1) (λ o. says o.0) add_numbers (λ o. o.1 ≡ a)
  pub fetch :
      (a : List ℕ) (n : ℕ) (out : List ℕ)
      → Answered (λ (o : (Result Fetched Refusal) × List ℕ). FetchSays a n out o.0 o.1) (λ o. says o.0) (15 ∷ 22 ∷ 25 ∷ 26 ∷ []) (λ o. o.1 ≡ out)
  pub remove :
      (a : List ℕ) (n : ℕ)
      → Answered (λ (o : (Result (Unit {0}) Refusal) × List ℕ). RemoveSays a n o.0 o.1) (λ o. says o.0) (22 ∷ 25 ∷ 26 ∷ []) (λ o. o.1 ≡ a)
  pub entry_from : (a : List ℕ) (from : ℕ) → Answered (EntrySays a from) says (17 ∷ 26 ∷ []) Nothing
  pub survey : (a : List ℕ) → Answered (SurveySays a) says (26 ∷ []) Nothing

-- ---- every call
pub record Demand1 : Type 0 where
  pub read : AnswersLines ReadSays
  -- the same answers, with no areas
  pub verdict : (s : List ℕ) → Answered (VerdictSays s) says line_numbers Nothing
  pub write :
      (bs : List ℕ) (ns : List ℤ) (out : List ℕ)
      → Answered (λ (o : (Result ℕ Refusal) × List ℕ). WriteSays bs ns out o.0 o.1) (λ o. says o.0) (13 ∷ 14 ∷ 15 ∷ []) (λ o. o.1 ≡ out)
  pub count : (f : Tables → ℕ) (bs : List ℕ) (ns : List ℤ) → Answered (CountSays f bs ns) says (13 ∷ 14 ∷ []) Nothing
  pub total : (bs : List ℕ) (ns : List ℤ) → Answered (TotalSays bs ns) says (13 ∷ 14 ∷ 16 ∷ []) Nothing
  pub bracket_mass : (bs : List ℕ) (ns : List ℤ) (i : ℕ) → Answered (BracketMassSays bs ns i) says (13 ∷ 14 ∷ 17 ∷ []) Nothing
  pub floater_brackets :
      (bs : List ℕ) (ns : List ℤ) (brs cps : List ℕ)
      → Answered (λ (o : (Result ℕ Refusal) × (List ℕ × List ℕ)). FloatersSay bs ns brs cps o.0 o.1.0 o.1.1) (λ o. says o.0) (13 ∷ 14 ∷ [])
      (λ o. o.1 ≡ (brs, cps))
  pub reached :
      (bs : List ℕ) (ns : List ℤ) (i : ℕ) (out : List ℕ)
      → Answered (λ (o : (Result ℕ Refusal) × List ℕ). ReachedSays bs ns i out o.0 o.1) (λ o. says o.0) (13 ∷ 14 ∷ 17 ∷ []) (λ o. o.1 ≡ out)
  pub shown : (bs : List ℕ) (ns : List ℤ) → Answered (ShownSays bs ns) says_shown (13 ∷ 14 ∷ []) Nothing
  pub is_allowed : (bs : List ℕ) (ns : List ℤ) (p : Placement) → Answered (AllowedSays bs ns p) says (13 ∷ 14 ∷ 18 ∷ []) Nothing
  pub why_none_lem : (bs : List ℕ) (ns : List ℤ) → Answered (WhySays bs ns) says (13 ∷ 14 ∷ []) Nothing
  -- on a refusal the record is as it was: none is handed back
  pub next_placement_lem : (bs : List ℕ) (ns : List ℤ) (l : Listing) → Answered (NextSays bs ns l) says (13 ∷ 14 ∷ 17 ∷ 18 ∷ []) Nothing
  pub step :
      (bs : List ℕ) (ns : List ℤ) (l : Listing)
      → Answered (λ (o : (Result (Unit {0}) Refusal) × Listing). StepSays bs ns l o.0 o.1) (λ o. says o.0) (13 ∷ 14 ∷ 17 ∷ 18 ∷ []) (λ o. o.1 ≡ l)
  -- on a refusal there are no entries
  pub ledger : (bs : List ℕ) (ns : List ℤ) (p : Placement) → Answered (LedgerSays bs ns p) says (13 ∷ 14 ∷ 16 ∷ 18 ∷ []) Nothing
  pub rows :
      (bs : List ℕ) (ns : List ℤ) (room : List Site)
      → Answered (λ (o : (Result ℕ Refusal) × List Site). RowsSays bs ns room o.0 o.1) (λ o. says o.0) (13 ∷ 14 ∷ []) (λ o. o.1 ≡ room)
  pub first_row_lem : (rs : List Site) (n f : ℕ) → Answered (LookupSays rs n f) says (13 ∷ 17 ∷ []) Nothing
  pub pieces :
      (t out : List ℕ)
      → Answered (λ (o : (Result ℕ Refusal) × List ℕ). PiecesSay t out o.0 o.1) (λ o. says o.0) (15 ∷ 19 ∷ []) (λ o. o.1 ≡ out)
  pub blocks : AnswersBlocks

-- ======== demand 2

-- what t means, as it is kept: a composition in the list's spelling, with its mass
abbrev pub meant : Spelling → Line ℕ
meant t = kept (means t)

-- the areas hold the tables of what t means, and nothing else in them is changed
pub record Holding (t : Spelling) (bs : List ℕ) (ns : List ℤ) (bs' : List ℕ) (ns' : List ℤ) : Type 0 where
  pub tables : tables_in bs' ns' ≡ tables_of (meant t)
  pub bytes : bs' ≡ laid (bytes_of (meant t)) bs
  pub numbers : ns' ≡ laid (numbers_of (meant t)) ns

pub record Accepting (Says : Reader) : Type 0 where
  -- "A line is accepted with exactly the tables that ProForma 2.1, within the limits of document 01, gives it": it is accepted exactly when the areas are long
  -- enough, a good spelling prints it, it is no longer than the limit, and none of 5 to 12 is due of what the spelling means, nor 19 or 21; any spelling of it means
  -- these tables
  pub accepts :
      (s bs : List ℕ) (ns : List ℤ) (r : Result (Unit {0}) Refusal) (bs' : List ℕ) (ns' : List ℤ) → Says s bs ns r bs' ns'
      → (says r ≡ good tt) ↔ ((too_short bs ns ≡ false) × ((l : Line ℕ) × Accepts s l))
  pub tables :
      (s bs : List ℕ) (ns : List ℤ) (r : Result (Unit {0}) Refusal) (bs' : List ℕ) (ns' : List ℤ) → Says s bs ns r bs' ns' → says r ≡ good tt
      → (t : Spelling) → well_spelt t ≡ true → s ≡ print t → Holding t bs ns bs' ns'
  -- "and otherwise refused as document 01 says": "Reading tries 13, then 1 to 12 in that order; the lowest number wins, at its first place in the line"; 21 "after 10", 19
  -- "after 12"
  pub refuses_by :
      (s bs : List ℕ) (ns : List ℤ) (r : Result (Unit {0}) Refusal) (bs' : List ℕ) (ns' : List ℤ) → Says s bs ns r bs' ns' → (k i : ℕ)
      → (says r ≡ refuses k i) ↔ (((too_short bs ns ≡ true) × (k ≡ 13) × (i ≡ 0)) ⊎ ((too_short bs ns ≡ false) × Refuses s k i))

-- areas that a line s was read into, and an output that was written from them
pub record Entered (s bs : List ℕ) (ns : List ℤ) (out : List ℕ) (w : Result ℕ Refusal) (out' : List ℕ) : Type 0 where
  -- the line is written, and is no longer than s; the rest of the output is as it was
  pub long : ℕ
  pub said : says w ≡ good long
  pub no_longer : long ≤ length s
  pub rest : drop long out' ≡ drop long out
  -- reading it is a success, and leaves the areas as they are
  pub back : (r : Result (Unit {0}) Refusal) (bs' : List ℕ) (ns' : List ℤ) → ReadSays (take long out') bs ns r bs' ns' → (says r ≡ good tt) × (bs' ≡ bs) × (ns' ≡ ns)

-- a line that was read into areas, and what was then written from them: m bytes of an output
pub record Filed (s bs : List ℕ) (ns : List ℤ) (bs' : List ℕ) (ns' : List ℤ) (out' : List ℕ) (m : ℕ) : Type 0 where
  pub answer : Result (Unit {0}) Refusal
  pub read : ReadSays s bs ns answer bs' ns'
  pub accepted : says answer ≡ good tt
  pub out : List ℕ
  pub wrote : Result ℕ Refusal
  pub written : WriteSays bs' ns' out wrote out'
  pub length_is : says wrote ≡ good m

pub record Demand2 : Type 0 where
  -- "Tables are written as one canonical line; reading that line gives the same tables back."
  pub reads_back :
      (s bs : List ℕ) (ns : List ℤ) (r : Result (Unit {0}) Refusal) (bs' : List ℕ) (ns' : List ℤ) → ReadSays s bs ns r bs' ns' → says r ≡ good tt
      → (out : List ℕ) (w : Result ℕ Refusal) (out' : List ℕ) → WriteSays bs' ns' out w out' → length s ≤ length out → Entered s bs' ns' out w out'
  -- "Two accepted lines share a canonical line exactly when their tables are equal", whatever areas they were read into
  pub one_entry :
      (s bs : List ℕ) (ns : List ℤ) (bs₁ : List ℕ) (ns₁ : List ℤ) (out₁ : List ℕ) (m : ℕ) → Filed s bs ns bs₁ ns₁ out₁ m
      → (t cs : List ℕ) (ms : List ℤ) (bs₂ : List ℕ) (ns₂ : List ℤ) (out₂ : List ℕ) (n : ℕ) → Filed t cs ms bs₂ ns₂ out₂ n
      → take m out₁ ≡ take n out₂ ↔ (tables_in bs₁ ns₁ ≡ tables_in bs₂ ns₂)
  -- and, read into the same areas, exactly when they leave the same areas
  pub one_entry_here :
      (bs : List ℕ) (ns : List ℤ) (s bs₁ : List ℕ) (ns₁ : List ℤ) (out₁ : List ℕ) (m : ℕ) → Filed s bs ns bs₁ ns₁ out₁ m
      → (t bs₂ : List ℕ) (ns₂ : List ℤ) (out₂ : List ℕ) (n : ℕ) → Filed t bs ns bs₂ ns₂ out₂ n
      → take m out₁ ≡ take n out₂ ↔ ((bs₁ ≡ bs₂) × (ns₁ ≡ ns₂))

-- ======== demand 3, over areas that a line was read into

-- ---- the listing
-- A call that moves a listing on, from a record to its answer and the record afterwards. Requests one after another hand out these placements, and then one
-- answers 17.
abbrev pub HandsOut : (Listing → Result Listing Refusal → Type 0) → Listing → List (List ℕ) → Type 0
HandsOut Moves l [] = (r : Result Listing Refusal) × (Moves l r × (says r ≡ refuses 17 0))
HandsOut Moves l (p ∷ ps) = (k : Listing) × (Moves l (Ok k) × ((k.at ≡ p) × HandsOut Moves k ps))

-- a request to a record in place, as one that hands the record back: a refusal leaves it as it was
abbrev pub InPlace : (Listing → Result (Unit {0}) Refusal → Listing → Type 0) → Listing → Result Listing Refusal → Type 0
InPlace Steps l (Ok k) = Steps l (Ok tt) k
InPlace Steps l (Err e) = Steps l (Err e) l

pub record Lists (bs : List ℕ) (ns : List ℤ) (Moves : Listing → Result Listing Refusal → Type 0) : Type 0 where
  -- "The listing hands out every allowed placement once, in ascending order"
  pub ends : (ps : List (List ℕ)) × HandsOut Moves fresh_listing ps
  pub every_allowed :
      (ps : List (List ℕ)) → HandsOut Moves fresh_listing ps → (p : Placement) (r : Result (Unit {0}) Refusal) → AllowedSays bs ns p r
      → In p.at ps ↔ (says r ≡ good tt)
  pub ascending : (ps : List (List ℕ)) → HandsOut Moves fresh_listing ps → Ascending ps
  -- "and says 'none' exactly when none exists"
  pub none :
      (r : Result Listing Refusal) → Moves fresh_listing r
      → (says r ≡ refuses 17 0) ↔ ((p : Placement) (q : Result (Unit {0}) Refusal) → AllowedSays bs ns p q → says q ≡ good tt → ⊥)

-- ---- rows
-- x is a permitted position of floater f, floaters counted from 1
abbrev pub Permitted : List ℕ → List ℤ → ℕ → ℕ → Type 0
Permitted bs ns zero x = ⊥
Permitted bs ns (suc i) x = In x (get_or (floating_of (tables_in bs ns)).lists i [])

-- rows of floater and position, each below all behind it
abbrev pub Below : Site → Site → Type 0
Below a b = (a.floater < b.floater) ⊎ ((a.floater ≡ b.floater) × (a.position < b.position))

abbrev pub Climbing : List Site → Type 0
Climbing rs = Ordered Below rs

-- the least number that P has; 17 exactly where it has none
abbrev pub LeastOf : (ℕ → Type 0) → Said Row → Type 0
LeastOf P (good x) = P x.position × ((y : ℕ) → P y → x.position ≤ y)
LeastOf P (refuses number place) = (number ≡ 17) × ((y : ℕ) → P y → ⊥)

-- n rows were handed out: exactly the permitted positions, ascending, and the rows behind them as they were; the first row of a floater among them is its least
pub record Rowed (bs : List ℕ) (ns : List ℤ) (room room' : List Site) (n : ℕ) : Type 0 where
  pub permitted : (f x : ℕ) → In (record { floater = f; position = x }) (take n room') ↔ Permitted bs ns f x
  pub climbing : Climbing (take n room')
  pub rest : drop n room' ≡ drop n room
  pub first : (f : ℕ) (l : Result Row Refusal) → LookupSays room' n f l → LeastOf (Permitted bs ns f) (says l)

pub record Demand3 (bs : List ℕ) (ns : List ℤ) : Type 0 where
  -- "an allowed placement gives each floating modification one of its permitted positions, none that a placed modification has, and no position twice"
  pub allowed : (p : Placement) (r : Result (Unit {0}) Refusal) → AllowedSays bs ns p r → (says r ≡ good tt) ↔ Placing (floating_of (tables_in bs ns)) p.at
  pub free : (f x : ℕ) → Permitted bs ns f x → (k : Bracket (Unit {0})) → In k (tables_in bs ns).brackets → In x (placed_on (tables_in bs ns) k) → ⊥
  -- "positions of one bracket's copies ascend" (02, L4): what `Placing` asks of further copies, by the brackets that they are of
  pub ascend :
      (p : List ℕ)
      → Ascent (marked (floating_of (tables_in bs ns))) (length (floaters (tables_in bs ns))) (place p)
      ↔ ((i j : ℕ) → i < j → j < length (floaters (tables_in bs ns)) → bracket_at (tables_in bs ns) i ≡ bracket_at (tables_in bs ns) j → place p i < place p j)
  -- the rule on copies loses none: a placement exists exactly where one does without it, and each of those is an allowed one with copies of one bracket in
  -- another order
  pub none_lost :
      ((p : List ℕ) → Placing (floating_of (tables_in bs ns)) p → ⊥) ↔ ((p : List ℕ) → Placing (unmarked (floating_of (tables_in bs ns))) p → ⊥)
  pub sorted :
      (p : List ℕ) → Placing (unmarked (floating_of (tables_in bs ns))) p
      → (q : List ℕ) × Placing (floating_of (tables_in bs ns)) q × Rearranged (tables_in bs ns) p q
  -- "such a set exists exactly when no placement does" (02, L7)
  pub too_few_lem : ((l : List ℕ) × (too_few (floating_of (tables_in bs ns)) l ≡ true)) ↔ ((p : List ℕ) → Placing (floating_of (tables_in bs ns)) p → ⊥)
  -- "Give the smallest; among equals the first by floater order": what is named is that set, which at most one is, and none exactly where a placement exists
  pub why :
      (r : Result Why Refusal) → WhySays bs ns r
      → (l : List ℕ) × Reason (floating_of (tables_in bs ns)) l × (says r ≡ good (record { count = length l; at = padded 0 copy_limit l }))
      × ((l ≡ []) ↔ ((p : List ℕ) × Placing (floating_of (tables_in bs ns)) p))
  pub one_why : (l m : List ℕ) → Reason (floating_of (tables_in bs ns)) l → Reason (floating_of (tables_in bs ns)) m → l ≡ m
  -- by the record handed over and handed back, and by the record moved on in place
  pub by_value : Lists bs ns (NextSays bs ns)
  pub in_place : Lists bs ns (InPlace (StepSays bs ns))
  -- "Where every modification has a stated mass, the masses at all positions under any allowed placement, plus the labile ones, add to the line's total exactly,
  -- in millionths of a dalton."
  pub adds_up :
      (m : ℤ) (q : Result ℤ Refusal) → TotalSays bs ns q → says q ≡ good m → (p : Placement) (a : Result (Unit {0}) Refusal) → AllowedSays bs ns p a → says a ≡ good tt
      → (r : Result Ledger Refusal) → LedgerSays bs ns p r
      → (es : Ledger) × ((says r ≡ good es) × (sum es.at +ℤ labile_mass (tables_in bs ns) ≡ m))
  -- the display is that total as a double, or how many modifications have no mass
  pub displays : (m : ℤ) (q : Result ℤ Refusal) → TotalSays bs ns q → says q ≡ good m → (r : Shown) → ShownSays bs ns r → says_shown r ≡ good (a_mass (daltons m))
  pub lacks : (n : ℕ) (q : Result ℤ Refusal) → TotalSays bs ns q → (r : Shown) → ShownSays bs ns r → (says_shown r ≡ good (lack n)) ↔ (says q ≡ refuses 16 n)
  -- the permitted positions as rows, wherever there is room for them
  pub rows :
      (room : List Site) → row_limit ≤ length room → (r : Result ℕ Refusal) (room' : List Site) → RowsSays bs ns room r room'
      → (n : ℕ) × ((says r ≡ good n) × Rowed bs ns room room' n)

-- "That total is reckoned from the line's entries and counts alone": what is answered of areas that a spelling of t was read into is what t means
pub record Reckoned (t : Spelling) (bs : List ℕ) (ns : List ℤ) : Type 0 where
  pub residues : (r : Result ℕ Refusal) → CountSays residue_count bs ns r → says r ≡ good (length (meant t).residues)
  pub brackets : (r : Result ℕ Refusal) → CountSays bracket_count bs ns r → says r ≡ good (length (meant t).brackets)
  pub floating : (r : Result ℕ Refusal) → CountSays floater_count bs ns r → says r ≡ good (length (floaters (meant t)))
  pub mass : (r : Result ℤ Refusal) → TotalSays bs ns r → lacking (meant t) ≡ 0 → says r ≡ good (total (meant t))
  pub missing : (r : Result ℤ Refusal) → TotalSays bs ns r → (lacking (meant t) ≡ 0 → ⊥) → says r ≡ refuses 16 (lacking (meant t))

-- ======== compositions (02, L1)
-- n bytes of an output are the pieces of the text t, and the bytes behind them are as they were. No text is cut in two ways (`one_way` of crates/glycan_laws)
pub record Pieced (t out out' : List ℕ) (n : ℕ) : Type 0 where
  pub items : List Item
  pub cuts : Cuts items t
  pub front : take n out' ≡ flat piece_bytes items
  pub rest : drop n out' ≡ drop n out

pub record Composing : Type 0 where
  -- 19 "no cutting": exactly where listed names and counts spell the text in no way
  pub no_cutting : (t out : List ℕ) (r : Result ℕ Refusal) (out' : List ℕ) → PiecesSay t out r out' → (says r ≡ refuses 19 0) ↔ ((xs : List Item) → Cuts xs t → ⊥)
  pub pieces : (t out : List ℕ) (r : Result ℕ Refusal) (out' : List ℕ) → PiecesSay t out r out' → (n : ℕ) → says r ≡ good n → Pieced t out out' n

-- ======== declarations (02, L2)
-- n entries of a slice are the positions that bracket k of the tables t reaches: exactly the "matching" ones, at which one of its places names what stands there,
-- ascending; the entries behind them are as they were
pub record Reaches (t : Tables) (k : Bracket (Unit {0})) (out out' : List ℕ) (n : ℕ) : Type 0 where
  pub matching : (x : ℕ) → In x (take n out') ↔ ((x < length (sites t)) × (names t k.places x ≡ true))
  pub rising : Rising (take n out')
  pub rest : drop n out' ≡ drop n out

pub record Declaring : Type 0 where
  pub reaches :
      (bs : List ℕ) (ns : List ℤ) (i : ℕ) (out : List ℕ) (r : Result ℕ Refusal) (out' : List ℕ) → ReachedSays bs ns i out r out' → (n : ℕ) → says r ≡ good n
      → (k : Bracket (Unit {0})) × ((element_at (tables_in bs ns).brackets i ≡ some k) × Reaches (tables_in bs ns) k out out' n)

-- ======== measured masses (02, L6)
-- bracket i of the tables t is a modification, and counts: each does, but a declaration that reaches nothing
pub record Counting (t : Tables) (i : ℕ) : Type 0 where
  pub bracket : Bracket (Unit {0})
  pub at : element_at t.brackets i ≡ some bracket
  pub modification : is_modification bracket ≡ true
  pub counted : 0 < times t bracket

pub record Measuring (bs : List ℕ) (ns : List ℤ) : Type 0 where
  -- "Only stated ones enter total ..; the others count as lacking": a total is answered exactly where each modification that counts is answered a stated mass
  pub stated_only :
      (q : Result ℤ Refusal) → TotalSays bs ns q
      → ((m : ℤ) × (says q ≡ good m))
      ↔ ((i : ℕ) → Counting (tables_in bs ns) i → (r : Result Mass Refusal) → BracketMassSays bs ns i r → (m : ℤ) × (says r ≡ good (Stated m)))
  -- "Measured masses stay out of sums": of tables with any other masses behind `Obs` the same is answered, for display too
  pub stay_out :
      (f : Number (Unit {0}) → Number (Unit {0})) (cs : List ℕ) (ms : List ℤ) → too_short cs ms ≡ false → are_tables cs ms ≡ true
      → tables_in cs ms ≡ remeasured f (tables_in bs ns)
      → ((q r : Result ℤ Refusal) → TotalSays bs ns q → TotalSays cs ms r → says r ≡ says q)
      × ((q r : Shown) → ShownSays bs ns q → ShownSays cs ms r → says_shown r ≡ says_shown q)

-- ======== the wrong readers that document 01 names
-- "a reader that refuses all, or gives one table for all"
abbrev pub RefusesAll : Reader
RefusesAll s bs ns r bs' ns' = (says r ≡ refuses 4 0) × (bs' ≡ bs) × (ns' ≡ ns)

abbrev pub OneTable : Line ℕ → Reader
OneTable l s bs ns r bs' ns' = (says r ≡ good tt) × (bs' ≡ laid (bytes_of l) bs) × (ns' ≡ laid (numbers_of l) ns)

-- ======== all
pub record Promises : Type 1 where
  pub demand_1 : Demand1
  pub accepting : Accepting ReadSays
  pub not_refuses_all : Accepting RefusesAll → ⊥
  pub not_one_table : (l : Line ℕ) → Accepting (OneTable l) → ⊥
  -- no other reader meets both
  pub only_reader :
      (Says : Reader) → AnswersLines Says → Accepting Says → (s bs : List ℕ) (ns : List ℤ) (r : Result (Unit {0}) Refusal) (bs' : List ℕ) (ns' : List ℤ)
      → Says s bs ns r bs' ns' → ReadSays s bs ns r bs' ns'
  pub demand_2 : Demand2
  pub demand_3 :
      (s bs : List ℕ) (ns : List ℤ) (r : Result (Unit {0}) Refusal) (bs' : List ℕ) (ns' : List ℤ) → ReadSays s bs ns r bs' ns' → says r ≡ good tt → Demand3 bs' ns'
  pub reckoned :
      (s bs : List ℕ) (ns : List ℤ) (r : Result (Unit {0}) Refusal) (bs' : List ℕ) (ns' : List ℤ) → ReadSays s bs ns r bs' ns' → says r ≡ good tt
      → (t : Spelling) → well_spelt t ≡ true → s ≡ print t → Reckoned t bs' ns'
  pub composing : Composing
  pub declaring : Declaring
  pub measuring :
      (s bs : List ℕ) (ns : List ℤ) (r : Result (Unit {0}) Refusal) (bs' : List ℕ) (ns' : List ℤ) → ReadSays s bs ns r bs' ns' → says r ≡ good tt → Measuring bs' ns'
  pub keeping : Keeping

-- ======== the same over what a caller in C sees: the contracts of crate export. A number is 0 for a success, and else a refusal's.
abbrev pub told : ℕ → Said (Unit {0})
told zero = good tt
told (suc n) = refuses (suc n) 0

-- the calls over an area of blocks
pub record AnswersBlocksC : Type 0 where
  pub empty : (a : List ℕ) → Answered (λ (o : ℕ × List ℕ). EmptyHanded a o.0 o.1) (λ o. told o.0) (26 ∷ []) (λ o. o.1 ≡ a)
  pub add :
      (a : List ℕ) (n : ℕ) (p s : List ℕ) (place : ℕ)
      → Answered (λ (o : ℕ × ℕ × List ℕ). AddHanded a n p s place o.0 o.1 o.2) (λ o. told o.0) (13 ∷ add_numbers) (λ o. o.2 ≡ a)
  pub fetch :
      (a : List ℕ) (n : ℕ) (p out : List ℕ) (count : ℕ)
      → Answered (λ (o : ℕ × List ℕ × List ℕ × ℕ). FetchHanded a n p out count o.0 o.1 o.2 o.3) (λ o. told o.0) (13 ∷ 15 ∷ 22 ∷ 25 ∷ 26 ∷ [])
      (λ o. (o.1 ≡ p) × (o.2 ≡ out))
  pub remove : (a : List ℕ) (n : ℕ) → Answered (λ (o : ℕ × List ℕ). RemoveHanded a n o.0 o.1) (λ o. told o.0) (22 ∷ 25 ∷ 26 ∷ []) (λ o. o.1 ≡ a)
  pub entry :
      (a : List ℕ) (from block entry : ℕ)
      → Answered (λ (o : ℕ × ℕ × ℕ). HeadHanded (listed_from a from) block entry o.0 o.1 o.2) (λ o. told o.0) (17 ∷ 26 ∷ [])
      (λ o. (o.1 ≡ block) × (o.2 ≡ entry))
  pub survey :
      (a : List ℕ) (free first further other unsound : ℕ)
      → Answered (λ (o : ℕ × (ℕ × ℕ) × (ℕ × ℕ × ℕ)). Surveyed (survey_said a) free first further other unsound o.0 o.1.0 o.1.1 o.2.0 o.2.1 o.2.2)
      (λ o. told o.0) (26 ∷ []) (λ o. (o.1 ≡ (free, first)) × (o.2 ≡ (further, other, unsound)))

-- demand 1, for every exported call: an outcome is the number, and everything lent as it is afterwards. A refusal leaves all as it was, but the place that it says.
pub record Demand1C : Type 0 where
  pub verdict :
      (s : List ℕ) (place : ℕ) → Answered (λ (o : ℕ × ℕ). Judged s place o.0 o.1) (λ o. told o.0) line_numbers (λ o. o.1 ≤ length s)
  pub read :
      (s bs : List ℕ) (ns : List ℤ) (place : ℕ)
      → Answered (λ (o : ℕ × ℕ × List ℕ × List ℤ). Exported s bs ns place o.0 o.1 o.2 o.3) (λ o. told o.0) (13 ∷ line_numbers)
      (λ o. (o.1 ≤ length s) × (o.2 ≡ bs) × (o.3 ≡ ns))
  pub write :
      (bs : List ℕ) (ns : List ℤ) (out : List ℕ) (count : ℕ)
      → Answered (λ (o : ℕ × ℕ × List ℕ). Written bs ns out count o.0 o.1 o.2) (λ o. told o.0) (13 ∷ 14 ∷ 15 ∷ []) (λ o. o.2 ≡ out)
  pub count :
      (f : Tables → ℕ) (bs : List ℕ) (ns : List ℤ) (count : ℕ)
      → Answered (λ (o : ℕ × ℕ). Counted (counts bs ns f) count o.0 o.1) (λ o. told o.0) (13 ∷ 14 ∷ []) (λ o. o.1 ≡ count)
  pub total :
      (bs : List ℕ) (ns : List ℤ) (m : ℤ) (place : ℕ)
      → Answered (λ (o : ℕ × ℤ × ℕ). Totalled (totals bs ns) m place o.0 o.1 o.2) (λ o. told o.0) (13 ∷ 14 ∷ 16 ∷ []) (λ o. o.1 ≡ m)
  pub bracket_mass :
      (bs : List ℕ) (ns : List ℤ) (i : ℕ) (m : ℤ) (sort : ℕ)
      → Answered (λ (o : ℕ × ℤ × ℕ). Massed (weighs_at bs ns i) m sort o.0 o.1 o.2) (λ o. told o.0) (13 ∷ 14 ∷ 17 ∷ [])
      (λ o. (o.1 ≡ m) × (o.2 ≡ sort))
  pub floater_brackets :
      (bs : List ℕ) (ns : List ℤ) (brs cps : List ℕ) (count : ℕ)
      → Answered (λ (o : ℕ × ℕ × List ℕ × List ℕ). FloatersHanded bs ns brs cps count o.0 o.1 o.2 o.3) (λ o. told o.0) (13 ∷ 14 ∷ [])
      (λ o. (o.1 ≡ count) × (o.2 ≡ brs) × (o.3 ≡ cps))
  pub why_none_lem :
      (bs : List ℕ) (ns : List ℤ) (old : List ℕ) (count : ℕ)
      → Answered (λ (o : ℕ × ℕ × List ℕ). WhyHanded bs ns old count o.0 o.1 o.2) (λ o. told o.0) (13 ∷ 14 ∷ []) (λ o. (o.1 ≡ count) × (o.2 ≡ old))
  pub reached :
      (bs : List ℕ) (ns : List ℤ) (i : ℕ) (out : List ℕ) (count : ℕ)
      → Answered (λ (o : ℕ × ℕ × List ℕ). ReachedHanded bs ns i out count o.0 o.1 o.2) (λ o. told o.0) (13 ∷ 14 ∷ 17 ∷ [])
      (λ o. (o.1 ≡ count) × (o.2 ≡ out))
  pub shown :
      (bs : List ℕ) (ns : List ℤ) (x : Float) (k : ℕ)
      → Answered (λ (o : ℕ × Float × ℕ). Displayed (shows bs ns) x k o.0 o.1 o.2) (λ o. told o.0) (13 ∷ 14 ∷ []) (λ o. (o.1 ≡ x) × (o.2 ≡ k))
  pub allowed : (bs : List ℕ) (ns : List ℤ) (p : List ℕ) → Answered (AllowedLent bs ns p) told (13 ∷ 14 ∷ 18 ∷ []) Nothing
  pub next :
      (bs : List ℕ) (ns : List ℤ) (l : Listing)
      → Answered (λ (o : ℕ × Listing). MovedOn bs ns l o.0 o.1) (λ o. told o.0) (13 ∷ 14 ∷ 17 ∷ 18 ∷ []) (λ o. o.1 ≡ l)
  pub ledger :
      (bs : List ℕ) (ns : List ℤ) (p : List ℕ) (old : List ℤ) (place : ℕ)
      → Answered (λ (o : ℕ × ℕ × List ℤ). EnteredLent bs ns p old place o.0 o.1 o.2) (λ o. told o.0) (13 ∷ 14 ∷ 16 ∷ 18 ∷ []) (λ o. o.2 ≡ old)
  pub rows :
      (bs : List ℕ) (ns : List ℤ) (room : List Site) (count : ℕ)
      → Answered (λ (o : ℕ × ℕ × List Site). RowsHanded bs ns room count o.0 o.1 o.2) (λ o. told o.0) (13 ∷ 14 ∷ [])
      (λ o. (o.1 ≡ count) × (o.2 ≡ room))
  pub first_row_lem :
      (rs : List Site) (n f i x : ℕ)
      → Answered (λ (o : ℕ × ℕ × ℕ). LookedUp (looks_up rs n f) i x o.0 o.1 o.2) (λ o. told o.0) (13 ∷ 17 ∷ []) (λ o. (o.1 ≡ i) × (o.2 ≡ x))
  pub composition :
      (t out : List ℕ) (count : ℕ)
      → Answered (λ (o : ℕ × ℕ × List ℕ). PiecesHanded t out count o.0 o.1 o.2) (λ o. told o.0) (15 ∷ 19 ∷ []) (λ o. o.2 ≡ out)
  pub blocks : AnswersBlocksC

-- demand 2
-- a line that was read into areas, and m bytes of an output that were written from them
pub record FiledC (s bs : List ℕ) (ns : List ℤ) (bs' : List ℕ) (ns' : List ℤ) (out' : List ℕ) (m : ℕ) : Type 0 where
  pub place : ℕ
  pub place' : ℕ
  pub read : Exported s bs ns place 0 place' bs' ns'
  pub out : List ℕ
  pub count : ℕ
  pub written : Written bs' ns' out count 0 m out'

pub record EnteredC (s bs : List ℕ) (ns : List ℤ) (out : List ℕ) (number long : ℕ) (out' : List ℕ) : Type 0 where
  pub success : number ≡ 0
  pub no_longer : long ≤ length s
  pub rest : drop long out' ≡ drop long out
  pub back :
      (place n p : ℕ) (bs' : List ℕ) (ns' : List ℤ) → Exported (take long out') bs ns place n p bs' ns' → (n ≡ 0) × (bs' ≡ bs) × (ns' ≡ ns)

-- demand 3
abbrev pub HandsOutC : List ℕ → List ℤ → Listing → List (List ℕ) → Type 0
HandsOutC bs ns l [] = (l' : Listing) × MovedOn bs ns l 17 l'
HandsOutC bs ns l (p ∷ ps) = (l' : Listing) × (MovedOn bs ns l 0 l' × ((l'.at ≡ p) × HandsOutC bs ns l' ps))

pub record Demand3C (bs : List ℕ) (ns : List ℤ) : Type 0 where
  pub ends : (ps : List (List ℕ)) × HandsOutC bs ns fresh_listing ps
  pub every_allowed :
      (ps : List (List ℕ)) → HandsOutC bs ns fresh_listing ps → (p : List ℕ) → copy_limit ≤ length p → (n : ℕ) → AllowedLent bs ns p n
      → In (take copy_limit p) ps ↔ (n ≡ 0)
  pub ascending : (ps : List (List ℕ)) → HandsOutC bs ns fresh_listing ps → Ascending ps
  pub none : (n : ℕ) (l' : Listing) → MovedOn bs ns fresh_listing n l' → (n ≡ 17) ↔ ((p : List ℕ) → copy_limit ≤ length p → AllowedLent bs ns p 0 → ⊥)
  -- the entries name the smallest set with too few positions; there are none exactly where some placement is allowed
  pub why :
      (old : List ℕ) → copy_limit ≤ length old → (c n c' : ℕ) (new : List ℕ) → WhyHanded bs ns old c n c' new
      → (n ≡ 0) × Reason (floating_of (tables_in bs ns)) (take c' new) × (drop c' new ≡ drop c' old)
      × ((c' ≡ 0) ↔ ((p : List ℕ) × (copy_limit ≤ length p) × AllowedLent bs ns p 0))
  pub adds_up :
      (m₀ : ℤ) (k₀ : ℕ) (m : ℤ) (k : ℕ) → Totalled (totals bs ns) m₀ k₀ 0 m k → (p : List ℕ) → copy_limit ≤ length p → AllowedLent bs ns p 0
      → (old : List ℤ) → position_limit ≤ length old → (i n j : ℕ) (new : List ℤ) → EnteredLent bs ns p old i n j new
      → (n ≡ 0) × (sum (take position_limit new) +ℤ labile_mass (tables_in bs ns) ≡ m)
  pub displays :
      (m₀ : ℤ) (k₀ : ℕ) (m : ℤ) (k : ℕ) → Totalled (totals bs ns) m₀ k₀ 0 m k
      → (x₀ : Float) (j₀ n : ℕ) (x : Float) (j : ℕ) → Displayed (shows bs ns) x₀ j₀ n x j → (n ≡ 0) × (x ≡ daltons m) × (j ≡ 0)
  pub lacks :
      (m₀ : ℤ) (k₀ : ℕ) (m : ℤ) (k : ℕ) → Totalled (totals bs ns) m₀ k₀ 16 m k
      → (x₀ : Float) (j₀ n : ℕ) (x : Float) (j : ℕ) → Displayed (shows bs ns) x₀ j₀ n x j → (n ≡ 0) × (j ≡ k)
  pub rows :
      (room : List Site) → row_limit ≤ length room → (c n c' : ℕ) (room' : List Site) → RowsHanded bs ns room c n c' room'
      → (n ≡ 0) × Rowed bs ns room room' c'

-- a count that is answered, whatever was lent for it
abbrev pub CountedC : List ℕ → List ℤ → (Tables → ℕ) → ℕ → Type 0
CountedC bs ns f many = (c n c' : ℕ) → Counted (counts bs ns f) c n c' → (n ≡ 0) × (c' ≡ many)

pub record ReckonedC (t : Spelling) (bs : List ℕ) (ns : List ℤ) : Type 0 where
  pub residues : CountedC bs ns residue_count (length (meant t).residues)
  pub brackets : CountedC bs ns bracket_count (length (meant t).brackets)
  pub floating : CountedC bs ns floater_count (length (floaters (meant t)))

pub record PromisesC : Type 0 where
  pub demand_1 : Demand1C
  pub accepts :
      (s bs : List ℕ) (ns : List ℤ) (place n p : ℕ) (bs' : List ℕ) (ns' : List ℤ) → Exported s bs ns place n p bs' ns'
      → (n ≡ 0) ↔ ((too_short bs ns ≡ false) × ((l : Line ℕ) × Accepts s l))
  pub tables :
      (s bs : List ℕ) (ns : List ℤ) (place p : ℕ) (bs' : List ℕ) (ns' : List ℤ) → Exported s bs ns place 0 p bs' ns'
      → (t : Spelling) → well_spelt t ≡ true → s ≡ print t → Holding t bs ns bs' ns'
  pub refuses_by :
      (s bs : List ℕ) (ns : List ℤ) (place n p : ℕ) (bs' : List ℕ) (ns' : List ℤ) → Exported s bs ns place n p bs' ns' → (n ≡ 0 → ⊥)
      → ((too_short bs ns ≡ true) × (n ≡ 13) × (p ≡ 0)) ⊎ ((too_short bs ns ≡ false) × Refuses s n p)
  pub reads_back :
      (s bs : List ℕ) (ns : List ℤ) (place p : ℕ) (bs' : List ℕ) (ns' : List ℤ) → Exported s bs ns place 0 p bs' ns'
      → (out : List ℕ) (count n long : ℕ) (out' : List ℕ) → Written bs' ns' out count n long out' → length s ≤ length out → EnteredC s bs' ns' out n long out'
  pub one_entry :
      (s bs : List ℕ) (ns : List ℤ) (bs₁ : List ℕ) (ns₁ : List ℤ) (out₁ : List ℕ) (m : ℕ) → FiledC s bs ns bs₁ ns₁ out₁ m
      → (t cs : List ℕ) (ms : List ℤ) (bs₂ : List ℕ) (ns₂ : List ℤ) (out₂ : List ℕ) (n : ℕ) → FiledC t cs ms bs₂ ns₂ out₂ n
      → take m out₁ ≡ take n out₂ ↔ (tables_in bs₁ ns₁ ≡ tables_in bs₂ ns₂)
  pub demand_3 :
      (s bs : List ℕ) (ns : List ℤ) (place p : ℕ) (bs' : List ℕ) (ns' : List ℤ) → Exported s bs ns place 0 p bs' ns' → Demand3C bs' ns'
  pub reckoned :
      (s bs : List ℕ) (ns : List ℤ) (place p : ℕ) (bs' : List ℕ) (ns' : List ℤ) → Exported s bs ns place 0 p bs' ns'
      → (t : Spelling) → well_spelt t ≡ true → s ≡ print t → ReckonedC t bs' ns'
