-- The laws of specs/Clauses.antt hold: one equivalence for each refusal, and a line without any of them.
use Rattle.std.specs.Prelude.{ℕ, ◌≡◌, refl, ◌↔◌, List}
use Rattle.std.proofs.Common.{sym}
use Rattle.std.proofs.Math.Option.{Option, none, some}
use Rattle.basics.specs.Each.{In}
use Rattle.scope.specs.Line.{Line}
use Rattle.scope.specs.Refusals.{least, refusal5, refusal6, refusal7, refusal8, refusal9, refusal10, refusal21, refusal11, refusal12, refusal19, line_refusals}
use Rattle.reading_laws.specs.Laws.{Clear}
use Rattle.clause_laws.specs.Clauses.{FirstAt, Due5, Due6, Due7, Due8, Due9, Due10, Due21, Due11, Due12, Due19, NoneDue, Laws}
use Rattle.clause_laws.proofs.Iff.{first_iff, none_iff}
use Rattle.clause_laws.proofs.Rules.{exactly_8, exactly_9, exactly_10, exactly_21, exactly_11, exactly_19}
use Rattle.clause_laws.proofs.Limited.{exactly_1, exactly_2, exactly_3, exactly_5, exactly_6, exactly_7, exactly_12}

none_due : (l : Line ℕ) → Clear (line_refusals l) ↔ NoneDue l
none_due l = (
  (λ c. record {
    no_5 = (none_iff (refusal5 l) (Due5 l) (exactly_5 l)).0 c.0;
    no_6 = (none_iff (refusal6 l) (Due6 l) (exactly_6 l)).0 c.1.0;
    no_7 = (none_iff (refusal7 l) (Due7 l) (exactly_7 l)).0 c.1.1.0;
    no_8 = (none_iff (refusal8 l) (Due8 l) (exactly_8 l)).0 c.1.1.1.0;
    no_9 = (none_iff (refusal9 l) (Due9 l) (exactly_9 l)).0 c.1.1.1.1.0;
    no_10 = (none_iff (refusal10 l) (Due10 l) (exactly_10 l)).0 c.1.1.1.1.1.0;
    no_21 = (none_iff (refusal21 l) (Due21 l) (exactly_21 l)).0 c.1.1.1.1.1.1.0;
    no_11 = (none_iff (refusal11 l) (Due11 l) (exactly_11 l)).0 c.1.1.1.1.1.1.1.0;
    no_12 = (none_iff (refusal12 l) (Due12 l) (exactly_12 l)).0 c.1.1.1.1.1.1.1.1.0;
    no_19 = (none_iff (refusal19 l) (Due19 l) (exactly_19 l)).0 c.1.1.1.1.1.1.1.1.1.0;
  }),
  (λ n.
      let e5 = (none_iff (refusal5 l) (Due5 l) (exactly_5 l)).1 n.no_5 in
      let e6 = (none_iff (refusal6 l) (Due6 l) (exactly_6 l)).1 n.no_6 in
      let e7 = (none_iff (refusal7 l) (Due7 l) (exactly_7 l)).1 n.no_7 in
      let e8 = (none_iff (refusal8 l) (Due8 l) (exactly_8 l)).1 n.no_8 in
      let e9 = (none_iff (refusal9 l) (Due9 l) (exactly_9 l)).1 n.no_9 in
      let e10 = (none_iff (refusal10 l) (Due10 l) (exactly_10 l)).1 n.no_10 in
      let e21 = (none_iff (refusal21 l) (Due21 l) (exactly_21 l)).1 n.no_21 in
      let e11 = (none_iff (refusal11 l) (Due11 l) (exactly_11 l)).1 n.no_11 in
      let e12 = (none_iff (refusal12 l) (Due12 l) (exactly_12 l)).1 n.no_12 in
      let e19 = (none_iff (refusal19 l) (Due19 l) (exactly_19 l)).1 n.no_19 in
      (e5, (e6, (e7, (e8, (e9, (e10, (e21, (e11, (e12, (e19, tt))))))))))),
)

-- the first place is known by which places there are
only_so : (D : ℕ → Type 0) (ps qs : List ℕ) → ((i : ℕ) → In i ps ↔ D i) → ((i : ℕ) → In i qs ↔ D i) → least ps ≡ least qs
only_so D ps qs f g = go (least ps) (least qs) (first_iff ps D f) (first_iff qs D g)
  where
    go : (o p : Option ℕ) → ((i : ℕ) → o ≡ some i ↔ FirstAt D i) → ((i : ℕ) → p ≡ some i ↔ FirstAt D i) → o ≡ p
    go none none f g = refl
    go none (some j) f g = (f j).1 ((g j).0 refl)
    go (some i) p f g = sym ((g i).1 ((f i).0 refl))

pub laws : Laws
laws =
    record {
      exactly_1 = exactly_1;
      exactly_2 = exactly_2;
      exactly_3 = exactly_3;
      exactly_5 = exactly_5;
      exactly_6 = exactly_6;
      exactly_7 = exactly_7;
      exactly_8 = exactly_8;
      exactly_9 = exactly_9;
      exactly_10 = exactly_10;
      exactly_21 = exactly_21;
      exactly_11 = exactly_11;
      exactly_12 = exactly_12;
      exactly_19 = exactly_19;
      first_due_lem = first_iff;
      only_so = only_so;
      none_due = none_due;
    }
