-- The chain of an entry that was written is followed to its end: its blocks are those that it was written to, and its content is what was written.
use Rattle.std.specs.Prelude.{ℕ, zero, suc, ◌*◌, ◌≤◌, ◌<◌, ◌^◌, ◌≡◌, refl, ◌⊎◌, true, false, ◌&&◌, ◌||◌, List, [], ◌∷◌, ◌++◌, length}
use Rattle.std.proofs.Common.{arith, sym, ◌∙◌, subst, inl, inr, ⊎_elim, eq-eqb, ne_eqb}
use Rattle.std.proofs.Math.Path.{ap}
use Rattle.std.proofs.Math.Option.{some}
use Rattle.std.proofs.Math.Dec.{eqb}
use Rattle.scope.specs.Bytes.{byte_limit}
use Rattle.scope.specs.Lists.{optional, member}
use Rattle.scope.specs.Limits.{block_size, block_limit}
use Rattle.basics.specs.Each.{Each}
use Rattle.basics.specs.Lists.{flat_cons, flat_one}
use Rattle.basics.specs.Members.{member_cons, member_none}
use Rattle.basics.specs.Tests.{both, or_first, or_second}
use Rattle.blocks.specs.Block.{content_room, further_kind, no_next, block_kind, used_length, next_block, entry_number, content_in, is_last, is_padded, is_sound, entry_block}
use Rattle.blocks.specs.Area.{block_at, sound_at, carries}
use Rattle.blocks.specs.Chain.{Chain, links, before, follow}
use Rattle.blocks.specs.Answers.{next_in}
use Rattle.area_laws.specs.Areas.{blocks_many}
use Rattle.area_laws.specs.Fields.{entry_kind, entry_next, entry_number_lem, entry_used, entry_content, entry_padded, entry_sound}
use Rattle.block_laws.specs.Following.{follow_last, follow_more}
use Rattle.block_laws.specs.Written.{Bytes, Lies}
use Rattle.block_laws.specs.Pieces.{joined, Filled, filled_fit}

-- ---- a block of the entry
-- the next block's number: none, or one of the area's
pub next_leads : (k : ℕ) (bs : List ℕ) → Each (λ b. b < k) bs → (next_in bs ≡ no_next) ⊎ (next_in bs < k)
next_leads k [] h = inl refl
next_leads k (b ∷ bs) h = inr h.0

pub next_byte : (k : ℕ) (bs : List ℕ) → k ≤ block_limit → Each (λ b. b < k) bs → next_in bs < byte_limit
next_byte k [] few h = omega arith
next_byte k (b ∷ bs) few h = omega (arith, h.0)

-- block b of an area of k blocks holds a piece
pub record Holds (a : List ℕ) (k number kind next : ℕ) (c : List ℕ) (b : ℕ) : Type 0 where
  pub long : length a ≡ block_size * k
  pub lies : block_at a b ≡ entry_block kind number next c
  pub fits : length c ≤ content_room
  pub bytes : Bytes c
  pub numbered : number < 2 ^ 32
  pub kinds : kind < byte_limit
  pub nexts : next < byte_limit
  pub leads : (next ≡ no_next) ⊎ (next < k)

module _ {a : List ℕ} {k number kind next : ℕ} {c : List ℕ} {b : ℕ} (w : Holds a k number kind next c b) where
  pub its_kind : block_kind (block_at a b) ≡ kind
  its_kind = ap block_kind w.lies ∙ entry_kind kind number next c

  pub its_next : next_block (block_at a b) ≡ next
  its_next = ap next_block w.lies ∙ entry_next kind number next c

  pub its_number : entry_number (block_at a b) ≡ number
  its_number = ap entry_number w.lies ∙ entry_number_lem kind number next c w.numbered

  its_used : used_length (block_at a b) ≡ length c
  its_used = ap used_length w.lies ∙ entry_used kind number next c w.fits

  its_content : content_in (block_at a b) ≡ c
  its_content = ap content_in w.lies ∙ entry_content kind number next c w.fits

  its_padding : is_padded (block_at a b) ≡ true
  its_padding = ap is_padded w.lies ∙ entry_padded kind number next c w.fits

  pub its_sound : sound_at a b ≡ true
  unfolding sound_at
  its_sound =
      ap (λ n. is_sound n (block_at a b)) (blocks_many a k w.long) ∙ ap (is_sound k) w.lies
      ∙ entry_sound kind number next c w.fits k w.kinds w.nexts w.bytes w.leads

  pub it_carries : carries a number b ≡ true
  unfolding carries
  it_carries = both (eqb (entry_number (block_at a b)) number) (sound_at a b) (eq-eqb (entry_number (block_at a b)) number its_number) its_sound

  pub carries_no_other : (m : ℕ) → (m ≡ number → ⊥) → carries a m b ≡ false
  unfolding carries
  carries_no_other m h = rw (ne_eqb (entry_number (block_at a b)) m (λ e. h (sym e ∙ its_number)))

  it_links : (next ≡ no_next) ⊎ (length c ≡ content_room) → links a number kind b ≡ true
  unfolding links
  it_links h =
      let x = block_at a b in
      both (eqb (block_kind x) kind && carries a number b && is_padded x) (is_last x || eqb (used_length x) content_room)
      (both (eqb (block_kind x) kind && carries a number b) (is_padded x)
      (both (eqb (block_kind x) kind) (carries a number b) (eq-eqb (block_kind x) kind its_kind) it_carries)
      its_padding)
      (⊎_elim (λ e. or_first (is_last x) (eqb (used_length x) content_room) (eq-eqb (next_block x) no_next (its_next ∙ e)))
      (λ e. or_second (is_last x) (eqb (used_length x) content_room) (eq-eqb (used_length x) content_room (its_used ∙ e))) h)

-- ---- all of them
pub record Entered (a : List ℕ) (k number kind : ℕ) (cs : List (List ℕ)) (bs : List ℕ) : Type 0 where
  pub long : length a ≡ block_size * k
  pub few : k ≤ block_limit
  pub numbered : number < 2 ^ 32
  pub kinds : kind < byte_limit
  pub lie : Lies a number kind cs bs
  pub filled : Filled cs
  pub bytes : Each Bytes cs
  pub inside : Each (λ b. b < k) bs

module _ {a : List ℕ} {k number kind : ℕ} {c : List ℕ} {cs : List (List ℕ)} {b : ℕ} {bs : List ℕ} (w : Entered a k number kind (c ∷ cs) (b ∷ bs)) where
  pub entered_first : Holds a k number kind (next_in bs) c b
  entered_first =
      record {
        long = w.long;
        lies = w.lie.0;
        fits = (filled_fit (c ∷ cs) w.filled).0;
        bytes = w.bytes.0;
        numbered = w.numbered;
        kinds = w.kinds;
        nexts = next_byte k bs w.few w.inside.1;
        leads = next_leads k bs w.inside.1;
      }

  pub entered_rest : Entered a k number further_kind cs bs
  entered_rest =
      record {
        long = w.long;
        few = w.few;
        numbered = w.numbered;
        kinds = omega arith;
        lie = w.lie.1;
        filled = rest cs w.filled;
        bytes = w.bytes.1;
        inside = w.inside.1;
      }
    where
      rest : (ds : List (List ℕ)) → Filled (c ∷ ds) → Filled ds
      rest [] h = tt
      rest (d ∷ ds) h = h.1

pub follow_entered :
    (steps : ℕ) (a : List ℕ) (k number kind : ℕ) (c : List ℕ) (cs : List (List ℕ)) (b : ℕ) (bs : List ℕ) → Entered a k number kind (c ∷ cs) (b ∷ bs)
    → length (b ∷ bs) ≤ steps → follow steps a number kind b ≡ some (record { blocks = b ∷ bs; content = joined (c ∷ cs) })
follow_entered zero a k number kind c cs b bs w h = absurd (omega arith)
follow_entered (suc n) a k number kind c [] b [] w h =
    let z = entered_first w in
    follow_last a number n kind b (it_links z (inl refl)) (eq-eqb (next_block (block_at a b)) no_next (its_next z))
    ∙ ap (λ l. some (record { blocks = b ∷ []; content = l })) (its_content z ∙ sym (flat_one (λ x. x) c))
follow_entered (suc n) a k number kind c [] b (e ∷ bs) w h = absurd w.lie.1
follow_entered (suc n) a k number kind c (d ∷ cs) b [] w h = absurd w.lie.1
follow_entered (suc n) a k number kind c (d ∷ cs) b (e ∷ bs) w h =
    let z = entered_first w in
    let t : Chain = record { blocks = e ∷ bs; content = joined (d ∷ cs) } in
    let r : follow n a number further_kind e ≡ some t = follow_entered n a k number further_kind d cs e bs (entered_rest w) (omega arith) in
    let goes : eqb (next_block (block_at a b)) no_next ≡ false =
    ne_eqb (next_block (block_at a b)) no_next (λ q. let u = its_next z in let i = w.inside.1.0 in let f = w.few in omega arith) in
    follow_more a number n kind b (it_links z (inr w.filled.0)) goes ∙ ap (optional (before b (block_at a b))) (ap (follow n a number further_kind) (its_next z) ∙ r)
    ∙ ap (λ l. some (record { blocks = b ∷ e ∷ bs; content = l })) (ap (λ l. l ++ joined (d ∷ cs)) (its_content z) ∙ sym (flat_cons (λ x. x) c (d ∷ cs)))

-- ---- any one of them
pub record OneOf (a : List ℕ) (k number kind b : ℕ) : Type 0 where
  pub its : ℕ
  pub next : ℕ
  pub piece : List ℕ
  pub written : Holds a k number its next piece b
  pub same : (its ≡ kind) ⊎ (its ≡ further_kind)

pub one_of_them :
    (a : List ℕ) (k number kind : ℕ) (cs : List (List ℕ)) (bs : List ℕ) → Entered a k number kind cs bs → (b : ℕ) → member b bs ≡ true → OneOf a k number kind b
one_of_them a k number kind cs [] w b m = member_none b m
one_of_them a k number kind [] (x ∷ bs) w b m = absurd w.lie
one_of_them a k number kind (c ∷ cs) (x ∷ bs) w b m =
    ⊎_elim here (λ h. further (one_of_them a k number further_kind cs bs (entered_rest w) b h)) (member_cons b x bs m)
  where
    here : b ≡ x → OneOf a k number kind b
    here e = subst (OneOf a k number kind) (sym e) (record { its = kind; next = next_in bs; piece = c; written = entered_first w; same = inl refl })

    further : OneOf a k number further_kind b → OneOf a k number kind b
    further o = record { its = o.its; next = o.next; piece = o.piece; written = o.written; same = inr (⊎_elim (λ e. e) (λ e. e) o.same) }
