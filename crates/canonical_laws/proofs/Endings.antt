-- Which brackets the canonical line writes at a position: of a list in pieces those of each piece; all of a piece, or none, by its kind and where it ends. So the text
-- of residues needs only the brackets that end on them, and a chain's text is that of its pieces.
use Rattle.std.specs.Prelude.{ℕ, suc, ◌+◌, ◌≤◌, ◌<◌, ◌≡◌, Bool, ◌&&◌, length}
use Rattle.std.proofs.Common.{arith, add-zero, sym, ap, ◌∙◌, eqb-true, eq-eqb}
use Rattle.std.proofs.Math.Path.{refl, ap₂}
use Rattle.std.proofs.Math.Bool.{true, false, cond}
use mathlib.Core.List.{List, [], ◌∷◌, ◌++◌, append_assoc, append-nil}
use Rattle.std.proofs.Math.Dec.{eqb}
use Rattle.scope.specs.declared.grammar.Kind.{Kind}
use Rattle.scope.specs.declared.grammar.Kind.TheVariants.{Unknown, Labile, NTerm, OnResidue, OnRange, CTerm, Declared}
use Rattle.scope.specs.Bytes.{question, dash}
use Rattle.scope.specs.Canonical.{square_text, curly_text, declared_text, unknown_text, of_kind, ending_at, closed_by, led_by, opening, ending, goes_on, sequence_text, chain_text}
use Rattle.scope.specs.Kinds.{is_kind}
use Rattle.scope.specs.Line.{Bracket, Residue}
use Rattle.scope.specs.Lists.{keep, flat}
use Rattle.basics.specs.Choice.{pick_true}
use Rattle.basics.specs.Each.{Each, each_one}
use Rattle.basics.specs.Lists.{keep_append}
use Rattle.basics.specs.Tests.{and_right, falsely}

abbrev pub Brackets : Type 0
Brackets = List (Bracket ℕ)

-- it is of the kind c and ends at the position p; it ends at a position from a to b
abbrev pub On : Kind → ℕ → Bracket ℕ → Type 0
On c p k = (k.kind ≡ c) × (k.last ≡ p)

abbrev pub Ends : ℕ → ℕ → Bracket ℕ → Type 0
Ends a b k = (a ≤ k.last) × (k.last ≤ b)

pub on_ends : (c : Kind) (p a b : ℕ) → a ≤ p → p ≤ b → (ks : Brackets) → Each (On c p) ks → Each (Ends a b) ks
on_ends c p a b h k ks w = each_one (On c p) (Ends a b) (λ q e. let at = e.1 in (omega arith, omega arith)) ks w

-- ---- by kind and last position
module _ (c : Kind) (p : ℕ) where
  pub ending_append : (l m : Brackets) → ending_at c p (l ++ m) ≡ ending_at c p l ++ ending_at c p m
  ending_append l m = ap (keep (λ k. eqb k.last p)) (keep_append (λ k. is_kind c k.kind) l m) ∙ keep_append _ (of_kind c l) (of_kind c m)

  ending_cons : (k : Bracket ℕ) (ks : Brackets) → ending_at c p (k ∷ ks) ≡ cond (is_kind c k.kind && eqb k.last p) (k ∷ []) [] ++ ending_at c p ks
  unfolding keep
  ending_cons k ks = go (is_kind c k.kind)
    where
      go : (t : Bool) → keep (λ k. eqb k.last p) (cond t (k ∷ []) [] ++ of_kind c ks) ≡ cond (t && eqb k.last p) (k ∷ []) [] ++ ending_at c p ks
      go true = refl
      go false = refl

  -- all of them or none, where one fact of each tells
  by_fact : (Q : Bracket ℕ → Type 0) (t : Bool) → ((k : Bracket ℕ) → Q k → (is_kind c k.kind && eqb k.last p) ≡ t) → (ks : Brackets) → Each Q ks → ending_at c p ks ≡ cond t ks []
  unfolding keep
  by_fact Q true f [] w = refl
  by_fact Q true f (k ∷ ks) w = ending_cons k ks ∙ ap₂ (λ u l. cond u (k ∷ []) [] ++ l) (f k w.0) (by_fact Q true f ks w.1)
  by_fact Q false f [] w = refl
  by_fact Q false f (k ∷ ks) w = ending_cons k ks ∙ ap₂ (λ u l. cond u (k ∷ []) [] ++ l) (f k w.0) (by_fact Q false f ks w.1)

  pub ending_on : (d : Kind) (q : ℕ) (ks : Brackets) → Each (On d q) ks → ending_at c p ks ≡ cond (is_kind c d && eqb q p) ks []
  ending_on d q ks w = by_fact (On d q) (is_kind c d && eqb q p) (λ k h. ap₂ (λ e i. is_kind c e && eqb i p) h.0 h.1) ks w

  pub ending_off : (a b : ℕ) → (a ≤ p → p ≤ b → ⊥) → (ks : Brackets) → Each (Ends a b) ks → ending_at c p ks ≡ []
  ending_off a b off ks w =
      by_fact (Ends a b) false (λ k h. falsely _ (λ e. let at = eqb-true k.last p (and_right (is_kind c k.kind) _ e) in off (omega arith) (omega arith))) ks w

-- ---- the sequence
abbrev pub own_text : Brackets → ℕ → List ℕ
own_text ks i = flat square_text (ending_at OnResidue i ks)

abbrev pub range_text : Brackets → ℕ → List ℕ
range_text ks i = flat square_text (ending_at OnRange i ks)

sequence_same : (ks qs : Brackets) (i : ℕ) (rs : List (Residue ℕ)) → ((c : Kind) (p : ℕ) → i ≤ p → p < i + length rs → ending_at c p ks ≡ ending_at c p qs)
    → sequence_text ks i rs ≡ sequence_text qs i rs
unfolding sequence_text
sequence_same ks qs i [] h = refl
sequence_same ks qs i (r ∷ rs) h =
    let here : (c : Kind) → ending_at c i ks ≡ ending_at c i qs = λ c. h c i (omega arith) (omega arith) in
    rw (here OnResidue, here OnRange, sequence_same ks qs (i + 1) rs (λ c p a b. h c p (omega arith) (omega arith)))

module _ (i : ℕ) (rs : List (Residue ℕ)) (ks : Brackets) (a b : ℕ) (others : Brackets) (w : Each (Ends a b) others) where
  pub front_off : b < i → sequence_text (others ++ ks) i rs ≡ sequence_text ks i rs
  front_off low = sequence_same (others ++ ks) ks i rs (λ c p u v. ending_append c p others ks ∙ ap (λ l. l ++ ending_at c p ks) (ending_off c p a b (λ x y. omega arith) others w))

  pub back_off : i + length rs ≤ a → sequence_text (ks ++ others) i rs ≡ sequence_text ks i rs
  back_off high =
      sequence_same (ks ++ others) ks i rs
      (λ c p u v. ending_append c p ks others ∙ ap (λ l. ending_at c p ks ++ l) (ending_off c p a b (λ x y. omega arith) others w) ∙ append-nil (ending_at c p ks))

-- a residue with which a group goes on, and the last of an element
module _ (ks : Brackets) (i : ℕ) (r : Residue ℕ) where
  pub text_on : (rs : List (Residue ℕ)) → goes_on rs ≡ true → sequence_text ks i (r ∷ rs) ≡ opening r.section ++ (r.letter ∷ (own_text ks i ++ sequence_text ks (i + 1) rs))
  unfolding sequence_text
  text_on rs e = rw e

  pub text_last : sequence_text ks i (r ∷ []) ≡ opening r.section ++ (r.letter ∷ (own_text ks i ++ ending r.section (range_text ks i)))
  unfolding sequence_text
  text_last = simp append-nil

-- an element behind another
goes_append : (rs qs : List (Residue ℕ)) → goes_on qs ≡ false → goes_on (rs ++ qs) ≡ goes_on rs
goes_append [] qs e = e
goes_append (r ∷ rs) qs e = refl

pub sequence_append : (ks : Brackets) (i : ℕ) (rs qs : List (Residue ℕ)) → goes_on qs ≡ false → sequence_text ks i (rs ++ qs) ≡ sequence_text ks i rs ++ sequence_text ks (i + length rs) qs
unfolding sequence_text
sequence_append ks i [] qs e = ap (λ z. sequence_text ks z qs) (sym (add-zero i))
sequence_append ks i (r ∷ rs) qs e =
    let at : i + 1 + length rs ≡ i + suc (length rs) = omega arith in
    rw (goes_append rs qs e, sequence_append ks (i + 1) rs qs e, at) (simp append_assoc)

-- ---- the chain whose N-terminus is at the position p: brackets of declarations, of unknown position, labile, N-terminal, on its residues, C-terminal
abbrev pub pieces_text : ℕ → List (Residue ℕ) → Brackets → Brackets → Brackets → Brackets → Brackets → Brackets → List ℕ
pieces_text p rs ds us ls ns ss bs =
    flat declared_text ds ++ (closed_by (flat unknown_text us) question ++ (flat curly_text ls ++ (closed_by (flat square_text ns) dash ++ (sequence_text ss (p + 1) rs ++ led_by dash (flat square_text bs)))))

module _ (p : ℕ) (rs : List (Residue ℕ)) (ds us ls ns ss bs : Brackets) (on_d : Each (On Declared p) ds) (on_u : Each (On Unknown p) us) (on_l : Each (On Labile p) ls) (on_n : Each (On NTerm p) ns)
    (on_s : Each (Ends (p + 1) (p + length rs)) ss) (on_b : Each (On CTerm (p + 1 + length rs)) bs) where
  abbrev whole : Brackets
  whole = ds ++ (us ++ (ls ++ (ns ++ (ss ++ bs))))

  abbrev end : ℕ
  end = p + 1 + length rs

  -- at a position beside the residues
  beside : (c : Kind) (i : ℕ) → (p + 1 ≤ i → i ≤ p + length rs → ⊥)
      → ending_at c i whole
      ≡ cond (is_kind c Declared && eqb p i) ds [] ++ (cond (is_kind c Unknown && eqb p i) us []
      ++ (cond (is_kind c Labile && eqb p i) ls [] ++ (cond (is_kind c NTerm && eqb p i) ns [] ++ cond (is_kind c CTerm && eqb end i) bs [])))
  beside c i off =
      ending_append c i ds _
      ∙ ap₂ ◌++◌ (ending_on c i Declared p ds on_d)
      (ending_append c i us _
      ∙ ap₂ ◌++◌ (ending_on c i Unknown p us on_u)
      (ending_append c i ls _
      ∙ ap₂ ◌++◌ (ending_on c i Labile p ls on_l)
      (ending_append c i ns _ ∙ ap₂ ◌++◌ (ending_on c i NTerm p ns on_n) (ending_append c i ss bs ∙ ap₂ ◌++◌ (ending_off c i _ _ off ss on_s) (ending_on c i CTerm end bs on_b)))))

  here : (q : ℕ) (ks : Brackets) → cond (eqb q q) ks [] ≡ ks
  here q ks = pick_true (eqb q q) ks [] (eq-eqb q q refl)

  on_residues : sequence_text whole (p + 1) rs ≡ sequence_text ss (p + 1) rs
  on_residues =
      front_off (p + 1) rs _ p p ds (on_ends Declared p p p (omega arith) (omega arith) ds on_d) (omega arith)
      ∙ front_off (p + 1) rs _ p p us (on_ends Unknown p p p (omega arith) (omega arith) us on_u) (omega arith)
      ∙ front_off (p + 1) rs _ p p ls (on_ends Labile p p p (omega arith) (omega arith) ls on_l) (omega arith)
      ∙ front_off (p + 1) rs _ p p ns (on_ends NTerm p p p (omega arith) (omega arith) ns on_n) (omega arith)
      ∙ back_off (p + 1) rs ss end end bs (on_ends CTerm end end end (omega arith) (omega arith) bs on_b) (omega arith)

  pub chain_pieces : flat declared_text (ending_at Declared p whole) ++ chain_text whole p rs ≡ pieces_text p rs ds us ls ns ss bs
  unfolding chain_text
  chain_pieces =
      let declareds : ending_at Declared p whole ≡ ds = beside Declared p (λ h k. omega arith) ∙ append-nil _ ∙ here p ds in
      let unknowns : ending_at Unknown p whole ≡ us = beside Unknown p (λ h k. omega arith) ∙ append-nil _ ∙ here p us in
      let labiles : ending_at Labile p whole ≡ ls = beside Labile p (λ h k. omega arith) ∙ append-nil _ ∙ here p ls in
      let nterms : ending_at NTerm p whole ≡ ns = beside NTerm p (λ h k. omega arith) ∙ append-nil _ ∙ here p ns in
      let cterms : ending_at CTerm end whole ≡ bs = beside CTerm end (λ h k. omega arith) ∙ here end bs in
      rw (declareds, unknowns, labiles, nterms, on_residues, cterms)
