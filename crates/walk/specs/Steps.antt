-- One step: the stage behind each act, and what it puts into the tables.
use Rattle.std.specs.Prelude.{◌≡◌, Bool, true, cond, ◌&&◌, ◌||◌, List, [], ◌∷◌, ◌++◌, map, ℕ, suc, ◌+◌, ◌-◌, ◌*◌, ◌≤◌, ◌<◌, min, eqb, leb, ltb, ℤ, length, take, drop, set, replicate}
use Rattle.std.proofs.lemmas.List.Edits.{sets}
use Rattle.scope.specs.declared.grammar.Section.{Section}
use Rattle.scope.specs.declared.grammar.Section.TheVariants.{Plain, RangeFirst, RangeNext, UnsureFirst, UnsureNext}
use Rattle.scope.specs.declared.grammar.Kind.{Kind}
use Rattle.scope.specs.declared.grammar.Mode.{Mode}
use Rattle.scope.specs.declared.grammar.Mode.TheVariants.{Counting, Listed}
use Rattle.scope.specs.declared.grammar.Slot.{Slot}
use Rattle.scope.specs.Bytes.{is_letter, upper}
use Rattle.scope.specs.Kinds.{is_unknown, is_declared}
use Rattle.scope.specs.Limits.{residue_limit, bracket_limit, part_limit, count_limit, place_limit, declaration_limit, line_limit}
use Rattle.scope.specs.Line.{Part, Bracket}
use Rattle.scope.specs.Lists.{part}
use Rattle.scope.specs.Layout.{section_code}
use Rattle.scope.specs.Content.{begin}
use Rattle.scope.specs.Places.{expected}
use Rattle.scope.specs.Reading.{Held, inside, placing, bracket_of, as_nTerm, reading, stuck}
use Rattle.scope.specs.Refusals.{due_at}
use Rattle.classes.specs.Runs.{span}
use Rattle.numerals.specs.Numerals.{CountAt}
use Rattle.reading_laws.proofs.Run.{rest}
use Rattle.sheet.specs.declared.Head.{Head}
use Rattle.sheet.specs.declared.Sheet.{Sheet}
use Rattle.sheet.specs.Rows.{head_fields, head_note, heads_from}
use Rattle.sheet.specs.Kept.{OnlyParts}
use Rattle.sheet.specs.Fields.{count_at, places_at, written_count, head_row, HeadFits}
use Rattle.sites.specs.Says.{ListReads}
use Rattle.dues.specs.Ranks.{code, lowest}
use Rattle.dues.specs.Lines.{over_rank, wide_rank}
use Rattle.inside.specs.declared.Parts.{Parts}
use Rattle.inside.specs.Says.{Opening, PartsAre, Closes}
use Rattle.walk.specs.declared.Stage.{Stage}
use Rattle.scope.specs.declared.grammar.Stuck.{Stuck}
use Rattle.labels.specs.Says.{score_points}
use Rattle.std.specs.Prelude.{Result, Ok, Err}
use Rattle.std.specs.Prelude.{Option as Perhaps}
use Rattle.walk.specs.Stages.{with_heads, with_letters, Upto, Low}

-- ---- a byte that only carries the order on
abbrev pub gone_to : Stage → Mode → Stage
gone_to s mode =
    record { at = s.at + 1; mode = mode; residues = s.residues; group = s.group; brackets = s.brackets; run = s.run; parts = s.parts; least = s.least }

-- ---- the end of the brackets at the front
abbrev pub settled_in : Stage → Mode → Stage
settled_in s mode =
    record { at = s.at + 1; mode = mode; residues = s.residues; group = s.group; brackets = s.brackets; run = s.brackets; parts = s.parts; least = s.least }

-- the rows from `first` up to `end` are of N-terminal brackets
pub record Settled (first end : ℕ) (t t' : Sheet) : Type 0 where
  pub rows : (bs rs : List (Bracket ℕ)) → min first end ≡ length bs → end ≡ length bs + length rs → take (end * head_fields) t.heads ≡ heads_from 0 (bs ++ rs)
      → take (end * head_fields) t'.heads ≡ heads_from 0 (bs ++ map as_nTerm rs)
  pub kept : length t'.heads ≡ length t.heads
  pub others : t' ≡ with_heads t t'.heads

-- ---- a count
-- of the last of n brackets, where it is noted
abbrev pub count_put : ℕ → ℕ → List ℕ → List ℕ
count_put n value heads = cond (leb n bracket_limit) (sets heads (count_at (n - 1)) (value ∷ written_count ∷ [])) heads

-- "count 1 to 99"
abbrev pub wrong_count : ℕ → Bool
wrong_count value = eqb value 0 || ltb count_limit value

abbrev pub counted_to : Stage → ℕ → ℕ → Stage
counted_to s next value =
    record {
      at = next;
      mode = Counting;
      residues = s.residues;
      group = s.group;
      brackets = s.brackets;
      run = s.run;
      parts = s.parts;
      least = lowest s.least (map (code wide_rank) (due_at (wrong_count value) s.at));
    }

pub record CountNoted (line : List ℕ) (s r : Stage) (t t' : Sheet) : Type 0 where
  pub value : ℕ
  pub next : ℕ
  pub is : CountAt line s.at value next
  pub stage : r ≡ counted_to s next value
  pub put : t' ≡ with_heads t (count_put s.brackets value t.heads)

-- ---- the places of a declaration
-- of the last of n brackets, where it is noted
abbrev pub places_put : ℕ → ℕ → ℕ → List ℕ → List ℕ
places_put n from many heads = cond (leb n bracket_limit) (sets heads (places_at (n - 1)) (from ∷ many ∷ [])) heads

abbrev pub listed_to : Stage → ℕ → ℕ → Stage
listed_to s next least =
    record { at = next; mode = Listed; residues = s.residues; group = s.group; brackets = s.brackets; run = s.run; parts = s.parts; least = least }

-- no list of places goes on so
abbrev pub PlacesStuck : List ℕ → Stage → ℕ → Type 0
PlacesStuck line s p = (h : Held ℕ) → rest line (s.at + 1) (placing h (expected [])) ≡ stuck p

-- the list is read and noted
pub record PlacesRead (line : List ℕ) (s r : Stage) (t t' : Sheet) : Type 0 where
  pub next : ℕ
  pub many : ℕ
  pub over : Perhaps ℕ
  pub reads : ListReads line (s.at + 1) next many over
  pub least : ℕ
  pub least_is : least ≡ lowest s.least (map (code over_rank) (drop place_limit (map (λ p. p.at) reads.sites)))
  pub stage : r ≡ listed_to s next least
  pub put : t' ≡ with_heads t (places_put s.brackets (s.at + 1) many t.heads)

abbrev pub PlacesStep : List ℕ → Stage → Result Stage Stuck → Sheet → Sheet → Type 0
PlacesStep line s (Err e) t t' = PlacesStuck line s e.at
PlacesStep line s (Ok r) t t' = PlacesRead line s r t t'

-- ---- residues
-- the section of a letter behind a residue of this section
abbrev pub behind : Section → Section
behind Plain = Plain
behind RangeFirst = RangeNext
behind RangeNext = RangeNext
behind UnsureFirst = UnsureNext
behind UnsureNext = UnsureNext

-- the position of the group's first residue, where residues of this section stand at `first` to `last`, and it was `before`
abbrev pub group_of : Section → ℕ → ℕ → ℕ → ℕ
group_of Plain first last before = last
group_of RangeFirst first last before = first
group_of RangeNext first last before = before
group_of UnsureFirst first last before = first
group_of UnsureNext first last before = before

-- how many residues stand at a place, whose byte is one
abbrev pub run_at : List ℕ → ℕ → ℕ
run_at line at = suc (span is_letter (drop (at + 1) line))

-- m of them
abbrev pub with_run : Stage → Section → Mode → ℕ → Stage
with_run s section mode m =
    record {
      at = s.at + m;
      mode = mode;
      residues = s.residues + m;
      group = group_of section (s.residues + 1) (s.residues + m) s.group;
      brackets = s.brackets;
      run = s.run;
      parts = s.parts;
      least = lowest s.least (map (code over_rank) (due_at (ltb residue_limit (s.residues + m)) (s.at + (residue_limit - s.residues))));
    }

abbrev pub sections_of : Section → ℕ → List ℕ
sections_of section m = section_code section ∷ replicate (m - 1) (section_code (behind section))

abbrev pub letters_put : List ℕ → ℕ → ℕ → ℕ → List ℕ → List ℕ
letters_put line at m n letters = cond (leb (n + m) residue_limit) (sets letters n (map upper (part at m line))) letters

abbrev pub sections_put : Section → ℕ → ℕ → List ℕ → List ℕ
sections_put section m n sections = cond (leb (n + m) residue_limit) (sets sections n (sections_of section m)) sections

pub record RunSays (line : List ℕ) (s : Stage) (section : Section) (mode : Mode) (r : Stage) (t t' : Sheet) : Type 0 where
  pub stage : r ≡ with_run s section mode (run_at line s.at)
  pub put : t' ≡ with_letters t (letters_put line s.at (run_at line s.at) s.residues t.letters) (sections_put section (run_at line s.at) s.residues t.sections)

-- ---- a bracket
-- where it is noted
abbrev pub noted? : Stage → Bool
noted? s = ltb s.brackets bracket_limit

-- how many brackets are settled behind it: one at the front waits
abbrev pub run_behind : Kind → ℕ → ℕ → ℕ
run_behind k run brackets = cond (is_unknown k) run (brackets + 1)

abbrev pub bracket_behind : Stage → Slot → ℕ → Parts → Stage
bracket_behind s slot next p =
    record {
      at = next;
      mode = cond p.refers slot.referred slot.after;
      residues = s.residues;
      group = s.group;
      brackets = s.brackets + 1;
      run = run_behind slot.kind s.run s.brackets;
      parts = cond (noted? s) (s.parts + min part_limit p.count) s.parts;
      least = p.least;
    }

-- the first refusal due before it, with one bracket more, and with one declaration more where it is one
abbrev pub least_before : Stage → Kind → ℕ
least_before s k =
    lowest (lowest s.least (map (code over_rank) (due_at (leb bracket_limit s.brackets) s.at)))
    (map (code over_rank) (due_at (is_declared k && leb declaration_limit s.brackets) (s.at - 1)))

abbrev pub opening_of : Stage → Slot → ℕ → List ℕ → List ℤ → Opening
opening_of s slot least parts masses =
    record {
      at = s.at + 1;
      shut = slot.shut;
      refers = slot.refers;
      labels = slot.labels;
      room = noted? s;
      base = s.parts;
      least = least;
      parts = parts;
      masses = masses;
    }

-- the row of a bracket with these parts, behind what is held
pub record HeadSays (s : Stage) (kind : Kind) (p : Parts) (r : Head) : Type 0 where
  pub row : (line : List ℕ) (least : ℕ) (h : Held ℕ) (ps : List (Part ℕ)) → PartsAre line least p ps → s.residues ≡ length h.residues → s.group ≡ h.first
      → head_row r ≡ head_note s.parts (bracket_of kind s.at ps h)
  pub fits : HeadFits r

-- the row of bracket k and its score, where it is noted
abbrev pub head_put : ℕ → List ℕ → ℤ → Sheet → Sheet
head_put k row points t =
    record t {
      heads = cond (ltb k bracket_limit) (sets t.heads (k * head_fields) row) t.heads;
      scores = cond (ltb k bracket_limit) (set t.scores k points) t.scores;
    }

pub record NotedSays (s : Stage) (slot : Slot) (next : ℕ) (p : Parts) (r : Stage) (t t' : Sheet) : Type 0 where
  pub stage : r ≡ bracket_behind s slot next p
  pub head : Head
  pub head_is : HeadSays s slot.kind p head
  pub put : t' ≡ head_put s.brackets (head_row head) (score_points p.score) t

-- what reading a bracket asks
pub record BracketAsks (line : List ℕ) (s : Stage) (slot : Slot) : Type 0 where
  pub low : Low s
  pub here : s.at < length line
  pub short : length line ≤ line_limit
  pub with_labels : slot.refers ≡ true → slot.labels ≡ true

-- no bracket goes on so
abbrev pub BracketStuck : List ℕ → Stage → Slot → ℕ → Type 0
BracketStuck line s slot p =
    (h : Held ℕ) → rest line (s.at + 1) (inside slot s.at h (begin (record { shut = slot.shut; refers = slot.refers; labels = slot.labels; parts = [] }))) ≡ stuck p

-- the bracket is read and noted: `mid` is the sheet with its parts
pub record BracketRead (line : List ℕ) (s : Stage) (slot : Slot) (r : Stage) (t t' : Sheet) : Type 0 where
  pub least : ℕ
  pub least_is : least ≡ least_before s slot.kind
  pub next : ℕ
  pub found : Parts
  pub mid : Sheet
  pub closes : Closes line (opening_of s slot least t.parts t.masses) next found mid.parts mid.masses
  pub others : OnlyParts t mid
  pub noted : NotedSays s slot next found r mid t'

abbrev pub BracketStep : List ℕ → Stage → Slot → Result Stage Stuck → Sheet → Sheet → Type 0
BracketStep line s slot (Err e) t t' = BracketStuck line s slot e.at
BracketStep line s slot (Ok r) t t' = BracketRead line s slot r t t'

-- ---- one step further
abbrev pub Stepped : List ℕ → Stage → Result Stage Stuck → Sheet → Type 0
Stepped line s (Err e) t = reading line ≡ stuck e.at
Stepped line s (Ok r) t = Upto line r t × (s.at < r.at)
