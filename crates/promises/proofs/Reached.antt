-- What the call for the positions that a declaration reaches promises: they are kept of all positions, in their order.
use Rattle.std.specs.Prelude.{◌≡◌, refl, ◌↔◌, Bool, true, false, cond, List, [], ◌++◌, ℕ, ◌<◌, ltb, ℤ, length, take, drop, Result}
use Rattle.std.proofs.Common.{sym, ap, subst, ◌∙◌, arith}
use Rattle.std.proofs.Math.Option.{Option, none, some}
use Rattle.std.proofs.Math.Seq.{take-append_seam, drop-append_seam}
use Rattle.scope.specs.Limits.{position_limit}
use Rattle.scope.specs.Line.{Bracket}
use Rattle.scope.specs.Lists.{given}
use Rattle.scope.specs.Tables.{Tables}
use Rattle.scope.specs.Layout.{tables_in}
use Rattle.scope.specs.Positions.{sites, positions, names, reached}
use Rattle.scope.specs.Answers.{good, refuses, too_short, are_tables, output_after, says}
use Rattle.basics.specs.Each.{In}
use Rattle.basics.specs.Members.{in_keep, keep_in}
use Rattle.basics.specs.Tabled.{in_tabled, tabled_in}
use Rattle.placement_laws.specs.Terms.{Rising}
use Rattle.placement_laws.specs.Lines.{kept_rising}
use Rattle.calls.specs.Single.{element_at}
use Rattle.calls.specs.Reaching.{reached_by, reached_at, reached_said, ReachedSays}
use Rattle.promises.specs.Promises.{Reaches, Declaring}
use Rattle.basics.specs.Said.{not_both, same_good}
use Rattle.scope.specs.declared.refusals.Refusal.{Refusal}

matching : (t : Tables) (k : Bracket (Unit {0})) (x : ℕ) → In x (reached t k) ↔ ((x < length (sites t)) × (names t k.places x ≡ true))
unfolding reached
matching t k x = (
  (λ h. let i = in_keep (names t k.places) x (positions t) h in let low = (in_tabled 0 (length (sites t)) x i.0).1 in (omega (arith, low), i.1)),
  (λ h. let low = h.0 in keep_in (names t k.places) x (positions t) (tabled_in 0 (length (sites t)) x (omega arith) (omega (arith, low))) h.1),
)

rising : (t : Tables) (k : Bracket (Unit {0})) → Rising (reached t k)
unfolding reached
rising t k = kept_rising (names t k.places) 0 (length (sites t))

-- a success is that of a bracket
said_good : (room short tables : Bool) (t : Tables) (i n : ℕ) → cond room (refuses 13 0) (cond short (refuses 13 0) (cond tables (reached_at t i) (refuses 14 0))) ≡ good n
    → (k : Bracket (Unit {0})) × ((element_at t.brackets i ≡ some k) × (n ≡ length (reached t k)))
said_good true short tables t i n e = absurd (not_both (sym e))
said_good false true tables t i n e = absurd (not_both (sym e))
said_good false false false t i n e = absurd (not_both (sym e))
said_good false false true t i n e = go (element_at t.brackets i) refl e
  where
    go : (o : Option (Bracket (Unit {0}))) → element_at t.brackets i ≡ o → given o (λ k. good (length (reached t k))) (refuses 17 0) ≡ good n
        → (k : Bracket (Unit {0})) × ((element_at t.brackets i ≡ some k) × (n ≡ length (reached t k)))
    go none q f = absurd (not_both (sym f))
    go (some k) q f = (k, (q, sym (same_good f)))

reaches : (bs : List ℕ) (ns : List ℤ) (i : ℕ) (out : List ℕ) (r : Result ℕ Refusal) (out' : List ℕ) → ReachedSays bs ns i out r out' → (n : ℕ) → says r ≡ good n
    → (k : Bracket (Unit {0})) × ((element_at (tables_in bs ns).brackets i ≡ some k) × Reaches (tables_in bs ns) k out out' n)
reaches bs ns i out r out' w n e =
    let t = tables_in bs ns in
    let said : reached_said bs ns i out ≡ good n = sym w.says ∙ e in
    let b = said_good (ltb (length out) position_limit) (too_short bs ns) (are_tables bs ns) t i n said in
    let k = b.0 in
    let c = reached t k in
    let m : n ≡ length c = b.1.1 in
    let o : out' ≡ c ++ drop (length c) out =
    w.after ∙ ap (λ s. output_after s (reached_by t i) out) said ∙ ap (λ z. given z (reached t) [] ++ drop (length (given z (reached t) [])) out) b.1.0 in
    let front : take n out' ≡ c = ap (λ j. take j out') m ∙ ap (take (length c)) o ∙ take-append_seam c (drop (length c) out) in (
      k,
      (
        b.1.0,
        record {
          matching = λ x. subst (λ l. In x l ↔ ((x < length (sites t)) × (names t k.places x ≡ true))) (sym front) (matching t k x);
          rising = subst Rising (sym front) (rising t k);
          rest = ap (λ j. drop j out') m ∙ ap (drop (length c)) o ∙ drop-append_seam c (drop (length c) out) ∙ ap (λ j. drop j out) (sym m);
        },
      ),
    )

pub declaring : Declaring
declaring = record { reaches = reaches }
