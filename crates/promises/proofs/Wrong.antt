-- The two wrong readers that document 01 names do not meet what is promised of reading: the line `A` is to be accepted, and the empty one is not.
use Rattle.std.specs.Prelude.{◌≡◌, refl, false, List, [], ◌∷◌, ℕ, ℤ, pos, replicate, Ok, Err}
use Rattle.std.proofs.Common.{sym, arith}
use Rattle.scope.specs.declared.grammar.Section.TheVariants.{Plain}
use Rattle.scope.specs.Bytes.{upper}
use Rattle.scope.specs.Lists.{keep, flat, laid}
use Rattle.scope.specs.Line.{Line}
use Rattle.scope.specs.Reading.{element, act, perform, step, run, reading}
use Rattle.scope.specs.Kept.{kept}
use Rattle.scope.specs.Refusals.{least, refusal1, refusal2, unprintable, refusal3, refusal5, refusal6, refusal7, refusal8, is_rule_name, refusal9, refusal10, refusal21, wrongly_labelled, refusal11, passing, refusal12, refusal19, first_due, accepted, refused, outcome}
use Rattle.scope.specs.Layout.{bytes_size, numbers_size, bytes_of, numbers_of}
use Rattle.scope.specs.Answers.{too_short}
use Rattle.grammar_laws.proofs.Proved as spelled
use Rattle.promises.specs.Promises.{Accepting, RefusesAll, OneTable}
use Rattle.basics.specs.Said.{not_both}
use Rattle.promises.proofs.Said.{refusal_of}

-- the line `A`, and what it holds
abbrev letter : List ℕ
letter = 65 ∷ []

abbrev held : Line ℕ
held = record { residues = record { letter = 65; section = Plain; at = 0 } ∷ []; brackets = [] }

letter_good : outcome letter ≡ accepted held
unfolding upper element act perform step run reading keep flat least refusal1 refusal2 unprintable refusal3 refusal5 refusal6 refusal7 refusal8 is_rule_name refusal9 refusal10 refusal21 wrongly_labelled refusal11 passing refusal12 refusal19 kept first_due outcome
letter_good = refl

empty_refused : outcome [] ≡ refused 1 0
unfolding least refusal1 first_due outcome
empty_refused = refl

-- areas that are long enough
abbrev bytes : List ℕ
bytes = replicate bytes_size 0

abbrev numbers : List ℤ
numbers = replicate numbers_size (pos 0)

long : too_short bytes numbers ≡ false
long = refl

pub not_refuses_all : Accepting RefusesAll → ⊥
not_refuses_all a =
    let yes = ((spelled.laws).accepts letter held).0 letter_good in
    not_both (sym ((a.accepts letter bytes numbers (Err (refusal_of 4 0)) bytes numbers (refl, refl, refl)).1 (long, (held, yes))))

accepted_refused : (l : Line ℕ) → outcome [] ≡ accepted l → ⊥
accepted_refused l e = let z : ◌≡◌ {A = ℕ} 0 1 = cc (empty_refused, e) in omega arith

pub not_one_table : (l : Line ℕ) → Accepting (OneTable l) → ⊥
not_one_table l a =
    let so = (a.accepts [] bytes numbers (Ok tt) (laid (bytes_of l) bytes) (laid (numbers_of l) numbers) (refl, refl, refl)).0 refl in
    accepted_refused so.1.0 (((spelled.laws).accepts [] so.1.0).1 so.1.1)
