-- The content of an accepted line under an allowed placement is as stated: the line in it is accepted, and is its own canonical line; what floats of it is what
-- floats of the line; and all of it is bytes.
use Rattle.std.specs.Prelude.{ℕ, ◌≤◌, ◌≡◌, List, [], ◌∷◌, ◌++◌, leb, length}
use Rattle.std.proofs.Common.{arith, ap₂, ◌∙◌, subst, length-append, take_at, drop_at, leb-true}
use Rattle.std.proofs.Math.Path.{sym, ap}
use Rattle.std.proofs.Math.Bool.{true}
use Rattle.scope.specs.Bytes.{is_printable}
use Rattle.scope.specs.Lists.{same}
use Rattle.scope.specs.Limits.{copy_limit}
use Rattle.scope.specs.Line.{Bracket, Line}
use Rattle.scope.specs.Refusals.{accepted, outcome}
use Rattle.scope.specs.Canonical.{canonical}
use Rattle.scope.specs.Positions.{floaters, permitted, floating_of}
use Rattle.scope.specs.Placements.{fits, allowed}
use Rattle.basics.specs.Each.{Each, In, each_append, each_one, each_all, each_map, each_replicate}
use Rattle.basics.specs.Lists.{same_law}
use Rattle.basics.specs.Members.{member_in}
use Rattle.basics.specs.Tests.{both, and_right}
use Rattle.reading_laws.proofs.Taken.{taken}
use Rattle.reading_laws.proofs.Bare.{same_floating}
use Rattle.accepted_laws.specs.Within.{Byte}
use Rattle.accepted_laws.specs.Laws.{accepted_within}
use Rattle.accepted_laws.specs.Judged.{judged_line}
use Rattle.canonical_laws.proofs.Proved as canonical-laws
use Rattle.placement_laws.specs.Lines.{permitted_inside}
use Rattle.placement_laws.specs.Members.{zeros_of, fits_cons, allowed_parts}
use Rattle.blocks.specs.Block.{new_kind}
use Rattle.blocks.specs.Entry.{position_bytes, positions_of, placement_in, line_in, stated, is_stated, entry_in}
use Rattle.block_laws.specs.Written.{Bytes}

-- ---- bytes
line_bytes : (s : List ℕ) (l : Line ℕ) → outcome s ≡ accepted l → Bytes s
line_bytes s l e = each_one (λ b. is_printable b ≡ true) Byte byte s (judged_line s l (taken s l e)).printable
  where
    byte : (b : ℕ) → is_printable b ≡ true → Byte b
    byte b h = let k : b ≤ 126 = leb-true b 126 (and_right (leb 32 b) (leb b 126) h) in omega arith

-- positions that stand in lists of bytes, and zeros behind them
fits_bytes : (qs : List (List ℕ)) (p : List ℕ) → Each (λ q. (x : ℕ) → In x q → Byte x) qs → fits qs p ≡ true → Bytes p
unfolding fits
fits_bytes [] p h e = subst Bytes (sym (zeros_of p e)) (each_replicate Byte (length p) 0 (omega arith))
fits_bytes (q ∷ qs) [] h e = tt
fits_bytes (q ∷ qs) (x ∷ p) h e = let z = fits_cons q qs x p e in (h.0 x (member_in x q z.0), fits_bytes qs p h.1 z.1)

module _ (s : List ℕ) (l : Line ℕ) (e : outcome s ≡ accepted l) (p : List ℕ) (ok : allowed (floating_of l) p ≡ true) where
  eight : length p ≡ copy_limit
  eight = (allowed_parts (floating_of l) p ok).eight

  placement_bytes : Bytes p
  placement_bytes =
      fits_bytes (floating_of l).lists p
      (each_map (λ q. (x : ℕ) → In x q → Byte x) (permitted l) (floaters l) (each_all (λ k. (x : ℕ) → In x (permitted l k) → Byte x) (floaters l) inside))
      (allowed_parts (floating_of l) p ok).fit
    where
      inside : (k : Bracket ℕ) (x : ℕ) → In x (permitted l k) → Byte x
      inside k x h = let a = permitted_inside l k x h in let b = (accepted_within s l e).few_residues in omega arith

  -- ---- the content
  pub content_bytes : Bytes (positions_of p ++ canonical l)
  content_bytes =
      let r = (canonical-laws.laws).reads_back s l e in each_append Byte p (canonical l) placement_bytes (line_bytes (canonical l) r.line r.taken)

  pub content_some : 1 ≤ length (positions_of p ++ canonical l)
  content_some = omega (arith, length-append p (canonical l), eight)

  placed : placement_in new_kind (positions_of p ++ canonical l) ≡ p
  placed = take_at p (canonical l) (position_bytes new_kind) eight

  lined : line_in new_kind (positions_of p ++ canonical l) ≡ canonical l
  lined = drop_at p (canonical l) (position_bytes new_kind) eight

  pub content_entry : entry_in new_kind (positions_of p ++ canonical l) ≡ record { placement = p; line = canonical l }
  content_entry = ap₂ (λ q c. record { placement = q; line = c }) placed lined

  pub content_stated : is_stated new_kind (positions_of p ++ canonical l) ≡ true
  unfolding is_stated
  content_stated = rw (placed, lined) again
    where
      again : stated (outcome (canonical l)) p (canonical l) ≡ true
      again =
          let r = (canonical-laws.laws).reads_back s l e in
          let m = r.line in
          let f : floating_of m ≡ floating_of l = sym (same_floating m) ∙ ap floating_of r.tables ∙ same_floating l in
          ap (λ o. stated o p (canonical l)) r.taken
          ∙ both (same (canonical m) (canonical l)) (allowed (floating_of m) p)
          ((same_law (canonical m) (canonical l)).1 ((canonical-laws.laws).itself s l m e r.taken))
          (ap (λ g. allowed g p) f ∙ ok)
