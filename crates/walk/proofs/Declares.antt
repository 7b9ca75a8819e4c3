-- What each act leaves of the declarations, by the mode: nothing else is read up to a mode behind them, the last has no places where they may follow, and none waits at
-- the front.
use mathlib.Core.Path.{◌≡◌, refl, sym, ap, subst, ◌∙◌}
use mathlib.Core.Bool.{Bool, true, false, cond, not, ◌&&◌, ◌||◌, false≢true}
use mathlib.Core.List.{List, [], ◌∷◌, ◌++◌}
use Prim.Native.Nat.{ℕ}
use Rattle.scope.specs.declared.grammar.Mode.{Mode}
use Rattle.scope.specs.declared.grammar.Mode.TheVariants.{Listed, Counting}
use Rattle.scope.specs.declared.grammar.Section.{Section}
use Rattle.scope.specs.declared.grammar.Slot.{Slot}
use Rattle.scope.specs.declared.grammar.Act.{Act}
use Rattle.scope.specs.declared.grammar.Act.TheVariants.{Stop, Go, Residue as a_residue, Begin, Digit, RunEnds, TermEnds, Places}
use Rattle.scope.specs.Kinds.{is_unknown, is_declared}
use Rattle.scope.specs.Lists.{keep}
use Rattle.scope.specs.Line.{Place, Part, Bracket}
use Rattle.scope.specs.Reading.{Held, act, put, times, declared_at, refers?, mode_after}
use Rattle.basics.specs.Choice.{branch}
use Rattle.basics.specs.Each.{Each, each_front, each_back, each_snoc}
use Rattle.basics.specs.Tests.{and_left, and_right, implied}
use Rattle.reading_laws.proofs.Acts.{act_rule}
use Rattle.reading_laws.proofs.Kept.{put_by}
use Rattle.walk.specs.Stages.{LastBare, takes_list, declaring, Declares}

-- ---- the rule
-- a byte that reads no bracket
abbrev leaves : Mode → Mode → Bool
leaves m n = (not (declaring n) || declaring m) && not (takes_list n)

-- a bracket
abbrev slot_leaves : Mode → Slot → Mode → Bool
slot_leaves m s n = (not (declaring n) || is_declared s.kind && declaring m) && (not (takes_list n) || not (is_unknown s.kind))

abbrev act_declares : Mode → Act → Bool
act_declares m Stop = true
act_declares m (Go n) = leaves m n
act_declares m (a_residue s n) = leaves m n
act_declares m (Begin s) = (not (is_declared s.kind) || declaring m) && (slot_leaves m s s.after && slot_leaves m s s.referred)
act_declares m Digit = true
act_declares m RunEnds = true
act_declares m TermEnds = true
act_declares m Places = declaring m && takes_list m

does_rule : (m : Mode) (b : ℕ) (a : Act) → act m b ≡ a → act_declares m a ≡ true
does_rule m b a e = subst (λ x. act_declares m x ≡ true) e (act_rule act_declares refl m b)

not_so : {A : Type 0} (t : Bool) → not t ≡ true → t ≡ true → A
not_so true e f = absurd (false≢true e)
not_so false e f = absurd (false≢true f)

untrue : {A : Type 0} (t : Bool) → t ≡ true → t ≡ false → A
untrue true e f = absurd (false≢true (sym f))
untrue false e f = absurd (false≢true e)

-- ---- before the first byte, and behind the brackets at the front
pub none_declares : (m : Mode) → takes_list m ≡ false → Declares m [] []
none_declares m e = record { all_are = λ t. tt; last_bare = λ t. untrue (takes_list m) t e; none_waits = tt }

pub over_declares : (m : Mode) (bs : List (Bracket ℕ)) → declaring m ≡ false → takes_list m ≡ false → Declares m bs []
over_declares m bs d e = record { all_are = λ t. untrue (declaring m) t d; last_bare = λ t. untrue (takes_list m) t e; none_waits = tt }

-- ---- a byte that reads no bracket
declares_on : {m n : Mode} {bs ws : List (Bracket ℕ)} → leaves m n ≡ true → Declares m bs ws → Declares n bs ws
declares_on {m} {n} e d = record {
  all_are = λ t. d.all_are (implied (declaring n) (declaring m) (and_left _ _ e) t);
  last_bare = λ t. not_so (takes_list n) (and_right (not (declaring n) || declaring m) _ e) t;
  none_waits = d.none_waits;
}

pub declares_go : {m n : Mode} (b : ℕ) {bs ws : List (Bracket ℕ)} → act m b ≡ Go n → Declares m bs ws → Declares n bs ws
declares_go {m} {n} b e = declares_on (does_rule m b (Go n) e)

pub declares_residue : {m n : Mode} (b : ℕ) {bs ws : List (Bracket ℕ)} (s : Section) → act m b ≡ a_residue s n → Declares m bs ws → Declares n bs ws
declares_residue {m} {n} b s e = declares_on (does_rule m b (a_residue s n) e)

-- ---- a count
pub declares_count : {m : Mode} {bs ws : List (Bracket ℕ)} (ks : List (Bracket ℕ)) (k : Bracket ℕ) (c p : ℕ) → ws ≡ ks ++ (k ∷ []) → Declares m bs ws → Declares Counting bs (ks ++ (times c p k ∷ []))
declares_count ks k c p e d =
    let w = subst (Each (λ x. is_declared x.kind ≡ false)) e d.none_waits in
    record {
      all_are = λ t. absurd (false≢true t);
      last_bare = λ t. absurd (false≢true t);
      none_waits = each_snoc (λ x. is_declared x.kind ≡ false) ks (times c p k) (each_front (λ x. is_declared x.kind ≡ false) ks (k ∷ []) w) (each_back (λ x. is_declared x.kind ≡ false) ks (k ∷ []) w).0;
    }

-- ---- places
module _ (m : Mode) (b : ℕ) {bs ws : List (Bracket ℕ)} (e : act m b ≡ Places) (d : Declares m bs ws) where
  pub places_last : LastBare bs
  places_last = d.last_bare (and_right (declaring m) _ (does_rule m b Places e))

  pub declares_places : (ps : List (Place ℕ)) → Declares Listed (places_last.before ++ (declared_at ps places_last.last ∷ [])) ws
  declares_places ps =
      let Q : Bracket ℕ → Type 0 = λ x. is_declared x.kind ≡ true in
      let ks = places_last.before in
      let k = places_last.last in
      let w = subst (Each Q) places_last.is (d.all_are (and_left _ _ (does_rule m b Places e))) in
      record {
        all_are = λ t. each_snoc Q ks (declared_at ps k) (each_front Q ks (k ∷ []) w) (each_back Q ks (k ∷ []) w).0;
        last_bare = λ t. absurd (false≢true t);
        none_waits = d.none_waits;
      }

-- ---- a bracket
module _ (m : Mode) (b : ℕ) (s : Slot) (e : act m b ≡ Begin s) where
  rule : act_declares m (Begin s) ≡ true
  rule = does_rule m b (Begin s) e

  -- a declaration begins where nothing else is read
  pub begins_declaring : is_declared s.kind ≡ true → declaring m ≡ true
  begins_declaring = implied (is_declared s.kind) (declaring m) (and_left _ _ rule)

  module _ (h : Held ℕ) (d : Declares m h.brackets h.run) (k : Bracket ℕ) (same : k.kind ≡ s.kind) (bare : k.places ≡ []) where
    declares_with : (n : Mode) → slot_leaves m s n ≡ true → Declares n (put s.kind k h).brackets (put s.kind k h).run
    declares_with n r =
        let only : declaring n ≡ true → (is_declared s.kind && declaring m) ≡ true = implied (declaring n) (is_declared s.kind && declaring m) (and_left _ _ r) in
        let takes : takes_list n ≡ true → not (is_unknown s.kind) ≡ true = implied (takes_list n) (not (is_unknown s.kind)) (and_right (not (declaring n) || is_declared s.kind && declaring m) _ r) in
        put_by (λ g. Declares n g.brackets g.run) s.kind k h
        (λ q. record {
          all_are = λ t. untrue (is_declared s.kind) (and_left _ _ (only t)) (ap is_declared q);
          last_bare = λ t. not_so (is_unknown s.kind) (takes t) (ap is_unknown q);
          none_waits = each_snoc (λ x. is_declared x.kind ≡ false) h.run k d.none_waits (ap is_declared (same ∙ q));
        })
        (λ q. record {
          all_are = λ t. each_snoc (λ x. is_declared x.kind ≡ true) h.brackets k (d.all_are (and_right (is_declared s.kind) _ (only t))) (ap is_declared same ∙ and_left _ _ (only t));
          last_bare = λ t. record { before = h.brackets; last = k; is = refl; bare = bare };
          none_waits = d.none_waits;
        })

    pub declares_bracket : (ps : List (Part ℕ)) → Declares (mode_after s ps) (put s.kind k h).brackets (put s.kind k h).run
    declares_bracket ps =
        let r = and_right (not (is_declared s.kind) || declaring m) _ rule in
        branch (λ n. Declares n (put s.kind k h).brackets (put s.kind k h).run) (refers? ps) (declares_with s.referred (and_right (slot_leaves m s s.after) _ r))
        (declares_with s.after (and_left _ _ r))

-- ---- those that are kept of all, or of none
pub all_kept : {A : Type 0} (f : A → Bool) (l : List A) → Each (λ x. f x ≡ true) l → keep f l ≡ l
unfolding keep
all_kept f [] h = refl
all_kept f (x ∷ l) h = ap (λ t. cond t (x ∷ []) [] ++ keep f l) h.0 ∙ ap (λ t. x ∷ t) (all_kept f l h.1)

pub none_kept : {A : Type 0} (f : A → Bool) (l : List A) → Each (λ x. f x ≡ false) l → keep f l ≡ []
unfolding keep
none_kept f [] h = refl
none_kept f (x ∷ l) h = ap (λ t. cond t (x ∷ []) [] ++ keep f l) h.0 ∙ none_kept f l h.1
