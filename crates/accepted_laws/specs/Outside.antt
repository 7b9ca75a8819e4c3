-- What the reader's state keeps to, byte by byte, and so what every line that is read keeps to, limits apart.
use Rattle.std.specs.Prelude.{◌≡◌, Bool, true, false, not, ◌&&◌, ◌||◌, ℕ, zero, suc, ◌+◌, ◌≤◌, ◌<◌, eqb}
use Rattle.std.proofs.Math.Path.{refl, ap, ap₂}
use Rattle.std.proofs.Common.{sym, ◌∙◌, subst, true≢false, le_refl}
use Rattle.std.proofs.lemmas.Bool.{false≢true}
use Rattle.std.proofs.Math.Option.{none, some}
use mathlib.Core.List.{List, [], ◌∷◌, ◌++◌, map}
use native.Mathlib.Omega.{arith}
use Rattle.std.proofs.Math.ListN.{length, length-append}
use Rattle.scope.specs.declared.grammar.Section.{Section}
use Rattle.scope.specs.declared.grammar.Section.TheVariants.{Plain, RangeFirst, RangeNext, UnsureFirst, UnsureNext}
use Rattle.scope.specs.declared.grammar.Kind.{Kind}
use Rattle.scope.specs.declared.grammar.Kind.TheVariants.{Unknown, NTerm}
use Rattle.scope.specs.declared.grammar.Mode.{Mode}
use Rattle.scope.specs.declared.grammar.Mode.TheVariants.{Front, Runs, Counting, Start}
use Rattle.scope.specs.declared.grammar.Slot.{Slot}
use Rattle.scope.specs.declared.grammar.Act.{Act}
use Rattle.scope.specs.declared.grammar.Act.TheVariants.{Stop, Go, Residue as a_residue, Begin, Digit, RunEnds, TermEnds, Places}
use Rattle.scope.specs.Bytes.{bytes, upper, is_lower}
use Rattle.scope.specs.Line.{Place, Part, Bracket, Residue, Line}
use Rattle.scope.specs.Content.{is_reference, Inner, Content, lost, closed, going, inner_step}
use Rattle.scope.specs.Reading.{counted, referred, act, may_end, Held, first_of, with_residue, position_of, bracket_of, settled, waiting, with_bracket, times, count_digit, with_digit, as_nTerm, settled_run, declared_at, with_places, State, dead, outside, inside, placing, perform, refers?, resume, step, run, start, holds, reading}
use Rattle.scope.specs.Places.{n_terminus, c_terminus, Placing, expected, placed, owing, owed, terminus_of}
use Rattle.scope.specs.Lists.{on_last, flat}
use Rattle.scope.specs.Kinds.{is_unknown}
use Rattle.scope.specs.Layout.{bracket_texts}
use Rattle.basics.specs.Tests.{and_left, and_right, implied}
use Rattle.basics.specs.Lists.{flat_append_length, flat_one_length}
use Rattle.basics.specs.Choice.{branch}
use Rattle.reading_laws.proofs.Acts.{ways, each_mode, act_rule, some_way, ends_term, waits}
use Rattle.reading_laws.proofs.Listed.{PlaceOn, place_begins, place_over, word_begins, word_on, PlacesGo, places_on, places_over, places_stop, places_go}
use Rattle.reading_laws.proofs.Kept.{reading_whole_from, put_by, digit_by}
use Rattle.basics.specs.Each.{each_last, Each, OfGiven, each_append, each_snoc, each_map, each_one, each_two}
use Rattle.accepted_laws.specs.Within.{Byte, StoodAt}
use Rattle.accepted_laws.specs.Inside.{PartShape, PartsShape, Carried, InnerKeeps, ContentKeeps, inner_step_lem}

-- ---- the order of a line: where a residue was read, and where no count was
-- a residue was read where a line may end, and so where it may end with no residue more
abbrev leads_to : (Mode → Bool) → Act → Bool
leads_to F Stop = false
leads_to F (Go m) = F m
leads_to F (a_residue s m) = false
leads_to F (Begin s) = F s.after || F s.referred
leads_to F Digit = F Counting
leads_to F RunEnds = F Runs
leads_to F TermEnds = F Start
leads_to F Places = F Front

abbrev late_within : ℕ → Mode → Bool
late_within zero m = may_end m
late_within (suc n) m = may_end m || some_way (leads_to (late_within n)) (ways m)

abbrev late : Mode → Bool
late m = late_within 2 m

-- none that waits has a count where they may be N-terminal, and where none waits
abbrev countless : Mode → Bool
countless m = not (waits m) || some_way ends_term (ways m)

-- what is kept to in m is kept to in n, where nothing is read between them
abbrev leads : Mode → Mode → Bool
leads m n = (not (late n) || late m) && (not (countless n) || countless m)

abbrev keeps : Mode → Act → Bool
keeps m Stop = true
keeps m (Go n) = leads m n
keeps m (a_residue s n) = not (countless n) || countless m
keeps m (Begin s) = leads m s.after && leads m s.referred
keeps m Digit = true
keeps m RunEnds = true
keeps m TermEnds = countless m
keeps m Places = leads m Front

act_keeps : (m : Mode) (b : ℕ) → keeps m (act m b) ≡ true
act_keeps = act_rule keeps refl

end_late : (m : Mode) → (not (may_end m) || late m) ≡ true
end_late = each_mode (λ m. not (may_end m) || late m) refl

-- ---- what is read so far
pub record BracketShape {P : Type 0} (n : ℕ) (k : Bracket P) : Type 0 where
  pub some_part : 0 < length k.parts
  pub parts : Each PartShape k.parts
  pub lone : Each (λ p. is_reference p.value ≡ true → length k.parts ≡ 1) k.parts
  pub stands : StoodAt k.kind k.first k.last n
  pub uncounted : is_unknown k.kind ≡ false → k.counted ≡ none
  pub single : k.counted ≡ none → k.count ≡ 1
  pub sites : Each (λ p. Byte p.site) k.places

-- a bracket at the front, whose kind is not settled
pub record RunShape {P : Type 0} (n : ℕ) (k : Bracket P) : Type 0 where
  pub unknown : k.kind ≡ Unknown
  pub shape : BracketShape n k

-- of m bytes read
pub record HeldKeeps {P : Type 0} (m : ℕ) (h : Held P) : Type 0 where
  pub letters : Each (λ r. Byte r.letter) h.residues
  pub group : h.first ≤ length h.residues
  pub brackets : Each (BracketShape (length h.residues)) h.brackets
  pub run : Each (RunShape (length h.residues)) h.run
  pub fits : length (flat bracket_texts h.brackets) + length (flat bracket_texts h.run) ≤ m

pub record ModeKeeps {P : Type 0} (m : Mode) (h : Held P) : Type 0 where
  pub some_residue : late m ≡ true → 0 < length h.residues
  pub uncounted : countless m ≡ true → Each (λ k. k.counted ≡ none) h.run

pub record InsideKeeps {P : Type 0} (m : ℕ) (s : Slot) (h : Held P) (c : Inner P) : Type 0 where
  pub before : ℕ
  pub inner : ℕ
  pub fits : before + inner ≤ m
  pub held : HeldKeeps before h
  pub content : InnerKeeps inner c
  pub after : ModeKeeps s.after h
  pub referred : ModeKeeps s.referred h

abbrev SitesKeep : {P : Type 0} → List (Place P) → Type 0
SitesKeep ps = Each (λ p. Byte p.site) ps

abbrev PlacingKeeps : {P : Type 0} → Placing P → Type 0
PlacingKeeps (expected ps) = SitesKeep ps
PlacingKeeps (placed ps p) = SitesKeep ps × Byte p.site
PlacingKeeps (owing ps p x w) = SitesKeep ps × Byte p.site

abbrev pub StateKeeps : {P : Type 0} → ℕ → State P → Type 0
StateKeeps m (dead p) = Unit {0}
StateKeeps m (outside o h) = HeldKeeps m h × ModeKeeps o h
StateKeeps m (inside s at h c) = InsideKeeps m s h c
StateKeeps m (placing h s) = HeldKeeps m h × ModeKeeps Front h × PlacingKeeps s

upper_byte : (b : ℕ) → Byte b → Byte (upper b)
unfolding upper
upper_byte b h = branch Byte (is_lower b) (omega arith) h

terminus_byte : (c s : ℕ) → terminus_of c ≡ some s → Byte s
terminus_byte c s e = subst (OfGiven Byte) e (branch (OfGiven Byte) (eqb c 78) {x = some n_terminus} (omega arith) (branch (OfGiven Byte) (eqb c 67) {x = some c_terminus} {y = none} (omega arith) tt))

-- one residue more leaves brackets where they stand
stands_more : (k : Kind) (first last n : ℕ) → StoodAt k first last n → StoodAt k first last (n + 1)
stands_more k first last n s =
    record { behind = s.behind; group = s.group; ordered = s.ordered; inside = omega (arith, s.inside); first_is = s.first_is; last_is = s.last_is }

stands_new : (k : Kind) (a n : ℕ) → a ≤ n → StoodAt k (position_of k n a) (position_of k n n) n
stands_new k a n h = record { behind = n; group = a; ordered = h; inside = le_refl n; first_is = refl; last_is = refl }

-- one at the front stands there whatever its kind turns out to be
stands_term : (k : Kind) (first last n : ℕ) → k ≡ Unknown → StoodAt k first last n → StoodAt NTerm first last n
stands_term k first last n e s =
    record {
      behind = s.behind;
      group = s.group;
      ordered = s.ordered;
      inside = s.inside;
      first_is = s.first_is ∙ ap (λ z. position_of z s.behind s.group) e;
      last_is = s.last_is ∙ ap (λ z. position_of z s.behind s.behind) e;
    }

first_new : (s : Section) (a n : ℕ) → a ≤ n → first_of s (n + 1) a ≤ n + 1
first_new Plain a n h = omega arith
first_new RangeFirst a n h = omega arith
first_new RangeNext a n h = omega arith
first_new UnsureFirst a n h = omega arith
first_new UnsureNext a n h = omega arith

unknown_not : (k : Kind) → k ≡ Unknown → is_unknown k ≡ false → ⊥
unknown_not k e f = true≢false (sym (ap is_unknown e) ∙ f)

module _ {P : Type 0} where
  lead : (m n : Mode) (h : Held P) → leads m n ≡ true → ModeKeeps m h → ModeKeeps n h
  lead m n h e w =
      record {
        some_residue = λ f. w.some_residue (implied (late n) (late m) (and_left _ _ e) f);
        uncounted = λ f. w.uncounted (implied (countless n) (countless m) (and_right (not (late n) || late m) _ e) f);
      }

  held_more : (h : Held P) (m n : ℕ) → m ≤ n → HeldKeeps m h → HeldKeeps n h
  held_more h m n e w = let x = w.fits in record { letters = w.letters; group = w.group; brackets = w.brackets; run = w.run; fits = omega arith }

  shape_more : (n : ℕ) (k : Bracket P) → BracketShape n k → BracketShape (n + 1) k
  shape_more n k w =
      record {
        some_part = w.some_part;
        parts = w.parts;
        lone = w.lone;
        stands = stands_more k.kind k.first k.last n w.stands;
        uncounted = w.uncounted;
        single = w.single;
        sites = w.sites;
      }

  residue_keeps : (i : P) (b : ℕ) (s : Section) (h : Held P) (m : ℕ) → Byte b → HeldKeeps m h → HeldKeeps m (with_residue i b s h)
  residue_keeps i b s h m q w =
      let new : List (Residue P) = record { letter = upper b; section = s; at = i } ∷ [] in
      let l : length (h.residues ++ new) ≡ length h.residues + 1 = length-append h.residues new in
      record {
        letters = each_append (λ r. Byte r.letter) h.residues new w.letters (upper_byte b q, tt);
        group = rw l (first_new s h.first (length h.residues) w.group);
        brackets = rw l
            (each_one (BracketShape (length h.residues)) (BracketShape (length h.residues + 1)) (shape_more (length h.residues))
            h.brackets w.brackets);
        run = rw l
            (each_one (RunShape (length h.residues)) (RunShape (length h.residues + 1))
            (λ k v. record { unknown = v.unknown; shape = shape_more (length h.residues) k v.shape }) h.run w.run);
        fits = w.fits;
      }

  -- ---- a bracket is closed
  bracket_shape :
      (k : Kind) (i : P) (ps : List (Part P)) (h : Held P) (q : ℕ) → h.first ≤ length h.residues → PartsShape q ps
      → BracketShape (length h.residues) (bracket_of k i ps h)
  bracket_shape k i ps h q g w =
      record {
        some_part = w.some_part;
        parts = w.parts;
        lone = w.lone;
        stands = stands_new k h.first (length h.residues) g;
        uncounted = λ e. refl;
        single = λ e. refl;
        sites = tt;
      }

  settled_keeps :
      (k : Bracket P) (h : Held P) (m q : ℕ) → HeldKeeps m h → BracketShape (length h.residues) k → length (bracket_texts k) ≤ q
      → HeldKeeps (m + q) (settled k h)
  settled_keeps k h m q w s e =
      let x = w.fits in
      let y = flat_append_length bracket_texts h.brackets (k ∷ []) in
      let z = flat_one_length bracket_texts k in
      record {
        letters = w.letters;
        group = w.group;
        brackets = each_append (BracketShape (length h.residues)) h.brackets (k ∷ []) w.brackets (s, tt);
        run = w.run;
        fits = omega arith;
      }

  waiting_keeps :
      (k : Bracket P) (h : Held P) (m q : ℕ) → HeldKeeps m h → RunShape (length h.residues) k → length (bracket_texts k) ≤ q
      → HeldKeeps (m + q) (waiting k h)
  waiting_keeps k h m q w s e =
      let x = w.fits in
      let y = flat_append_length bracket_texts h.run (k ∷ []) in
      let z = flat_one_length bracket_texts k in
      record {
        letters = w.letters;
        group = w.group;
        brackets = w.brackets;
        run = each_append (RunShape (length h.residues)) h.run (k ∷ []) w.run (s, tt);
        fits = omega arith;
      }

  bracket_keeps :
      (k : Kind) (i : P) (ps : List (Part P)) (h : Held P) (m q : ℕ) → HeldKeeps m h → PartsShape q ps → HeldKeeps (m + q) (with_bracket k i ps h)
  bracket_keeps k i ps h m q w s =
      let new = bracket_shape k i ps h q w.group s in
      put_by (HeldKeeps (m + q)) k (bracket_of k i ps h) h
      (λ u. waiting_keeps (bracket_of k i ps h) h m q w (record { unknown = u; shape = new }) s.fits)
      (λ u. settled_keeps (bracket_of k i ps h) h m q w new s.fits)

  bracket_mode : (o : Mode) (k : Kind) (i : P) (ps : List (Part P)) (h : Held P) → ModeKeeps o h → ModeKeeps o (with_bracket k i ps h)
  bracket_mode o k i ps h w =
      put_by (ModeKeeps o) k (bracket_of k i ps h) h
      (λ u.
      record {
        some_residue = w.some_residue;
        uncounted = λ e. each_append (λ k. k.counted ≡ none) h.run (bracket_of k i ps h ∷ []) (w.uncounted e) (refl, tt);
      })
      (λ u. record { some_residue = w.some_residue; uncounted = w.uncounted })

  -- ---- counts
  counted_shape : (n c : ℕ) (i : P) (k : Bracket P) → RunShape n k → RunShape n (times c i k)
  counted_shape n c i k w =
      let v = w.shape in
      record {
        unknown = w.unknown;
        shape = record {
          some_part = v.some_part;
          parts = v.parts;
          lone = v.lone;
          stands = v.stands;
          uncounted = λ e. absurd (unknown_not k.kind w.unknown e);
          single = λ e. let z : ◌≡◌ {A = ℕ} 0 1 = cc in absurd (omega arith);
          sites = v.sites;
        };
      }

  digit_shape : (n : ℕ) (i : P) (b : ℕ) (k : Bracket P) → RunShape n k → RunShape n (count_digit i b k)
  digit_shape n i b k w = digit_by (RunShape n) i b k (λ c p. counted_shape n c p k w)

  digit_texts : (i : P) (b : ℕ) (k : Bracket P) → bracket_texts (count_digit i b k) ≡ bracket_texts k
  digit_texts i b k = digit_by (λ j. bracket_texts j ≡ bracket_texts k) i b k (λ n p. refl)

  last_texts : (f : Bracket P → Bracket P) → ((k : Bracket P) → bracket_texts (f k) ≡ bracket_texts k) → (ks : List (Bracket P)) → flat bracket_texts (on_last f ks) ≡ flat bracket_texts ks
  unfolding on_last flat
  last_texts f e [] = refl
  last_texts f e (k ∷ []) = ap (λ t. t ++ []) (e k)
  last_texts f e (k ∷ j ∷ ks) = ap (λ t. bracket_texts k ++ t) (last_texts f e (j ∷ ks))

  digit_keeps : (i : P) (b : ℕ) (h : Held P) (m : ℕ) → HeldKeeps m h → HeldKeeps m (with_digit i b h)
  digit_keeps i b h m w =
      record {
        letters = w.letters;
        group = w.group;
        brackets = w.brackets;
        run = each_last (RunShape (length h.residues)) (count_digit i b) (digit_shape (length h.residues) i b) h.run w.run;
        fits = rw (last_texts (count_digit i b) (digit_texts i b) h.run) w.fits;
      }

  -- ---- the brackets at the front are settled
  term_shape : (n : ℕ) (k : Bracket P) → RunShape n k → k.counted ≡ none → BracketShape n (as_nTerm k)
  term_shape n k w e =
      let v = w.shape in
      record {
        some_part = v.some_part;
        parts = v.parts;
        lone = v.lone;
        stands = stands_term k.kind k.first k.last n w.unknown v.stands;
        uncounted = λ f. e;
        single = v.single;
        sites = v.sites;
      }

  texts_same :
      (f : Bracket P → Bracket P) → ((k : Bracket P) → bracket_texts (f k) ≡ bracket_texts k) → (ks : List (Bracket P))
      → flat bracket_texts (map f ks) ≡ flat bracket_texts ks
  unfolding flat
  texts_same f e [] = refl
  texts_same f e (k ∷ ks) = ap₂ ◌++◌ (e k) (texts_same f e ks)

  run_keeps :
      (f : Bracket P → Bracket P) → ((k : Bracket P) → bracket_texts (f k) ≡ bracket_texts k) → (h : Held P) (m : ℕ) → HeldKeeps m h
      → Each (λ k. BracketShape (length h.residues) (f k)) h.run → HeldKeeps m (settled_run f h)
  unfolding flat
  run_keeps f e h m w s =
      let x = w.fits in
      let y = flat_append_length bracket_texts h.brackets (map f h.run) in
      let z = ap length (texts_same f e h.run) in
      record {
        letters = w.letters;
        group = w.group;
        brackets = each_append (BracketShape (length h.residues)) h.brackets (map f h.run) w.brackets
            (each_map (BracketShape (length h.residues)) f h.run s);
        run = tt;
        fits = omega arith;
      }

  -- ---- one byte more
  begins : (s : Slot) → Carried {P = P} (record { shut = s.shut; refers = s.refers; labels = s.labels; parts = [] }) 0 0
  unfolding flat
  begins s = record { parts = tt; none_refers = tt; fits = omega arith }

  perform_keeps :
      (i : P) (b m : ℕ) (o : Mode) (h : Held P) (a : Act) → Byte b → HeldKeeps m h → ModeKeeps o h → keeps o a ≡ true → StateKeeps (m + 1) (perform i b h a)
  unfolding perform
  perform_keeps i b m o h Stop q w e g = tt
  perform_keeps i b m o h (Go n) q w e g = (held_more h m (m + 1) (omega arith) w, lead o n h g e)
  perform_keeps i b m o h (a_residue s n) q w e g =
      let new : List (Residue P) = record { letter = upper b; section = s; at = i } ∷ [] in
      let l = length-append h.residues new in (
        held_more (with_residue i b s h) m (m + 1) (omega arith) (residue_keeps i b s h m q w),
        record { some_residue = λ f. omega arith; uncounted = λ f. e.uncounted (implied (countless n) (countless o) g f) },
      )
  perform_keeps i b m o h (Begin s) q w e g =
      record {
        before = m;
        inner = 0;
        fits = omega arith;
        held = w;
        content = begins s;
        after = lead o s.after h (and_left _ _ g) e;
        referred = lead o s.referred h (and_right (leads o s.after) _ g) e;
      }
  perform_keeps i b m o h Digit q w e g = (
    held_more (with_digit i b h) m (m + 1) (omega arith) (digit_keeps i b h m w),
    record { some_residue = λ f. absurd (false≢true f); uncounted = λ f. absurd (false≢true f) },
  )
  perform_keeps i b m o h RunEnds q w e g = (
    held_more (settled_run (λ k. k) h) m (m + 1) (omega arith)
        (run_keeps (λ k. k) (λ k. refl) h m w
        (each_one (RunShape (length h.residues)) (BracketShape (length h.residues)) (λ k v. v.shape) h.run w.run)),
    record { some_residue = λ f. absurd (false≢true f); uncounted = λ f. tt },
  )
  perform_keeps i b m o h TermEnds q w e g = (
    held_more (settled_run as_nTerm h) m (m + 1) (omega arith)
        (run_keeps as_nTerm (λ k. refl) h m w
        (each_two (RunShape (length h.residues)) (λ k. k.counted ≡ none) (λ k. BracketShape (length h.residues) (as_nTerm k)) (term_shape (length h.residues))
        h.run w.run (e.uncounted g))),
    record { some_residue = λ f. absurd (false≢true f); uncounted = λ f. tt },
  )
  perform_keeps i b m o h Places q w e g = (held_more h m (m + 1) (omega arith) w, lead o Front h g e, tt)

  -- ---- the places of a declaration
  owed_keeps : (ps : List (Place P)) (p : Place P) (w : List ℕ) → SitesKeep ps → Byte p.site → PlacingKeeps (owed ps p w)
  owed_keeps ps p [] g q = (g, q)
  owed_keeps ps p (x ∷ w) g q = (g, q)

  place_keeps : {i : P} {b : ℕ} {s t : Placing P} → PlaceOn i b s t → Byte b → PlacingKeeps s → PlacingKeeps t
  place_keeps {b = b} (place_begins e) q g = (g, upper_byte b q)
  place_keeps (place_over {ps = ps} {p = p} e) q g = each_snoc (λ r. Byte r.site) ps p g.0 g.1
  place_keeps (word_begins {ps = ps} {p = p} {s = s} e f) q g = owed_keeps ps (record { site = s; at = p.at }) (bytes "term") g.0 (terminus_byte p.site s f)
  place_keeps (word_on {ps = ps} {p = p} {w = w} e) q g = owed_keeps ps p w g.0 g.1

  places_held : (ps : List (Place P)) (h : Held P) (m : ℕ) → SitesKeep ps → HeldKeeps m h → HeldKeeps m (with_places ps h)
  places_held ps h m g w =
      record {
        letters = w.letters;
        group = w.group;
        brackets = each_last (BracketShape (length h.residues)) (declared_at ps)
            (λ k v. record { some_part = v.some_part; parts = v.parts; lone = v.lone; stands = v.stands; uncounted = v.uncounted; single = v.single; sites = g }) h.brackets w.brackets;
        run = w.run;
        fits = rw (last_texts (declared_at ps) (λ k. refl) h.brackets) w.fits;
      }

  places_keep : {i : P} {b : ℕ} {h : Held P} {s : Placing P} {x : State P} → PlacesGo i b h s x → (m : ℕ) → Byte b → HeldKeeps m h → ModeKeeps Front h → PlacingKeeps s → StateKeeps (m + 1) x
  places_keep {h = h} (places_on o) m q w e g = (held_more h m (m + 1) (omega arith) w, e, place_keeps o q g)
  places_keep {h = h} (places_over {ps = ps} {p = p} f) m q w e g = (
    held_more (with_places (ps ++ (p ∷ [])) h) m (m + 1) (omega arith) (places_held (ps ++ (p ∷ [])) h m (each_snoc (λ r. Byte r.site) ps p g.0 g.1) w),
    record { some_residue = e.some_residue; uncounted = e.uncounted },
  )
  places_keep places_stop m q w e g = tt

  resume_keeps :
      (s : Slot) (at i : P) (h : Held P) (m x y : ℕ) (c : Content P) → x + y ≤ m → HeldKeeps x h → ModeKeeps s.after h → ModeKeeps s.referred h
      → ContentKeeps y c → StateKeeps m (resume s at h i c)
  unfolding resume
  resume_keeps s at i h m x y lost e w a r g = tt
  resume_keeps s at i h m x y (closed ps) e w a r g = (
    held_more (with_bracket s.kind at ps h) (x + y) m e (bracket_keeps s.kind at ps h x y w g),
    branch (λ o. ModeKeeps o (with_bracket s.kind at ps h)) (refers? ps) (bracket_mode s.referred s.kind at ps h r)
        (bracket_mode s.after s.kind at ps h a),
  )
  resume_keeps s at i h m x y (going c) e w a r g = record { before = x; inner = y; fits = e; held = w; content = g; after = a; referred = r }

  pub step_keeps : (i : P) (s : State P) (b m : ℕ) → Byte b → StateKeeps m s → StateKeeps (m + 1) (step i s b)
  unfolding step
  step_keeps i (dead p) b m q w = tt
  step_keeps i (outside o h) b m q w = perform_keeps i b m o h (act o b) q w.0 w.1 (act_keeps o b)
  step_keeps i (inside s at h c) b m q w =
      let x = w.fits in
      resume_keeps s at i h (m + 1) w.before (w.inner + 1) (inner_step i c b) (omega arith) w.held w.after w.referred
      (inner_step_lem i c b w.inner q w.content)
  step_keeps i (placing h s) b m q w = places_keep (places_go i b h s) m q w.0 w.1 w.2

-- ---- a line that is read whole
pub record LineShape {P : Type 0} (m : ℕ) (l : Line P) : Type 0 where
  pub some_residue : 0 < length l.residues
  pub letters : Each (λ r. Byte r.letter) l.residues
  pub brackets : Each (BracketShape (length l.residues)) l.brackets
  pub fits : length (flat bracket_texts l.brackets) ≤ m

start_keeps : StateKeeps {P = ℕ} 0 start
unfolding flat
start_keeps = (
  record { letters = tt; group = omega arith; brackets = tt; run = tt; fits = omega arith },
  record { some_residue = λ e. absurd (false≢true e); uncounted = λ e. tt },
)

pub line_shape : (s : List ℕ) (l : Line ℕ) → Each Byte s → reading s ≡ holds l → LineShape (0 + length s) l
line_shape s l q e =
    let r = reading_whole_from StateKeeps Byte (λ i t b. step_keeps i t b i) start_keeps s l q e in
    let w = r.keeps.0 in
    let x = w.fits in
    subst (LineShape (0 + length s)) r.line
    (record {
      some_residue = r.keeps.1.some_residue (implied (may_end r.mode) _ (end_late r.mode) r.ends);
      letters = w.letters;
      brackets = w.brackets;
      fits = omega arith;
    })
