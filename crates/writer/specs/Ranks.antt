-- What the writer puts by ranks: the brackets of one rank, what stands before the sequence, a residue with its brackets; and how far it has come.
use Rattle.std.specs.Prelude.{◌≡◌, cond, List, [], ◌∷◌, ◌++◌, ℕ, ◌+◌, ◌-◌, ◌*◌, ◌≤◌, ◌<◌, eqb, ℤ}
use Rattle.scope.specs.declared.grammar.Kind.TheVariants.{Unknown, Labile, NTerm, OnResidue, OnRange, CTerm, Declared}
use Rattle.scope.specs.Bytes.{question, dash}
use Rattle.scope.specs.Line.{Bracket, Residue}
use Rattle.scope.specs.Lists.{keep, flat, tabled}
use Rattle.scope.specs.Canonical.{unknown_text, curly_text, square_text, declared_text, ending_at, closed_by, opening, ending, goes_on, sequence_text}
use Rattle.scope.specs.Layout.{residue_in, tables_in, brackets_field, kind_field, last_field, residues_field}
use Rattle.scope.specs.Kinds.{kind_in}
use Rattle.areas.specs.Bounds.{Bounds}
use Rattle.writer.specs.declared.Shape.{Shape}
use Rattle.writer.specs.declared.Shape.TheVariants.{Counted, Curly, Square, Angled}
use Rattle.figures.specs.Written.{Puts}
use Rattle.writer.specs.Written.{bracket_most, residue_most}
pub use Rattle.order_laws.specs.Ranks.{rank_step, kind_rank, rank_of, rank, InOrder}
unfoldable pub use Rattle.order_laws.specs.Ranks.{rising, orderedb}

-- ---- the same in the areas
abbrev pub rank_in : List ℕ → ℕ → ℕ
rank_in bs k = rank_of (kind_in (kind_field bs k)) (last_field bs k)

-- of a bracket at the C-terminus
abbrev pub c_term_rank : List ℕ → ℕ
c_term_rank bs = rank_of CTerm (residues_field bs + 1)

-- tables within bounds whose brackets are in order
pub record ReadyToWrite (bs : List ℕ) (ns : List ℤ) : Type 0 where
  pub bounds : Bounds bs ns
  pub sorted : (i k : ℕ) → i ≤ k → k < brackets_field bs → rank_in bs i ≤ rank_in bs k

-- ---- runs of brackets
-- how a bracket is written
abbrev pub text_as : {P : Type 0} → Shape → Bracket P → List ℕ
text_as Counted k = unknown_text k
text_as Curly k = curly_text k
text_as Square k = square_text k
text_as Angled k = declared_text k

-- a bracket, where it has the rank that is asked for
abbrev pub ranked_text : {P : Type 0} → Shape → ℕ → Bracket P → List ℕ
ranked_text shape q k = cond (eqb (rank k) q) (text_as shape k) []

-- those of a rank
abbrev pub run_text : {P : Type 0} → Shape → ℕ → List (Bracket P) → List ℕ
run_text shape q ks = flat (text_as shape) (keep (λ k. eqb (rank k) q) ks)

-- what stands before the sequence: declarations, and the front of the chain
abbrev pub chain_front : {P : Type 0} → List (Bracket P) → List ℕ
chain_front ks =
    closed_by (run_text Counted (rank_of Unknown 0) ks) question ++ (run_text Curly (rank_of Labile 0) ks ++ closed_by (run_text Square (rank_of NTerm 0) ks) dash)

abbrev pub front_text : {P : Type 0} → List (Bracket P) → List ℕ
front_text ks = run_text Angled (rank_of Declared 0) ks ++ chain_front ks

-- a step from bracket `from` to bracket `next`: the text t was put, with so many bytes outside brackets at most; every bracket before `next` has a
-- rank below q
pub record Walks (bs : List ℕ) (more from q : ℕ) (o : List ℕ) (at : ℕ) (t left : List ℕ) (place next : ℕ) : Type 0 where
  pub puts : Puts (bracket_most * (next - from) + more) o at t left place
  pub forth : from ≤ next
  pub within : next ≤ brackets_field bs
  pub below : (i : ℕ) → i < next → rank_in bs i < q

-- ---- residues
-- residue i with its section and brackets, before the residues rs
abbrev pub residue_text : {P : Type 0} → List (Bracket P) → ℕ → Residue P → List (Residue P) → List ℕ
residue_text ks i r rs =
    opening r.section
    ++ (r.letter
    ∷ (flat square_text (ending_at OnResidue i ks) ++ cond (goes_on rs) [] (ending r.section (flat square_text (ending_at OnRange i ks)))))

-- the first p residues are written
pub record SpeltResidues (bs : List ℕ) (ns : List ℤ) (n from : ℕ) (o : List ℕ) (at : ℕ) (out : List ℕ) (p j a : ℕ) : Type 0 where
  pub low : p ≤ n
  pub done : List ℕ
  pub rest :
      done ++ sequence_text (tables_in bs ns).brackets (p + 1) (tabled (residue_in bs) p (n - p))
      ≡ sequence_text (tables_in bs ns).brackets 1 (tabled (residue_in bs) 0 n)
  pub walks : Walks bs (residue_most * p) from (rank_of OnResidue (p + 1)) o at done out a j

-- no bracket from bracket j on has a rank below q
abbrev pub NoneBelow : List ℕ → ℕ → ℕ → Type 0
NoneBelow bs j q = (k : ℕ) → j ≤ k → k < brackets_field bs → q ≤ rank_in bs k

-- every bracket from bracket j on stands behind the first e residues and their brackets
abbrev pub Behind : List ℕ → ℕ → ℕ → Type 0
Behind bs j e = (i k : ℕ) → i < e → j ≤ k → k < brackets_field bs → rank_of OnResidue (i + 1) < rank_in bs k

-- where the first p residues were written, the first i are, with no bracket more than the first j
abbrev pub Spells : List ℕ → List ℤ → ℕ → ℕ → List ℕ → ℕ → ℕ → List ℕ → ℕ → ℕ → Type 0
Spells bs ns n j o p at left i a =
    (from : ℕ) (first : List ℕ) (start : ℕ) → SpeltResidues bs ns n from first start o p j at → SpeltResidues bs ns n from first start left i j a
