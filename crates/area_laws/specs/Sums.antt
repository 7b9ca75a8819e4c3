-- The sum of a block's bytes: of a list in two pieces; one element changed changes it; four bytes hold it.
use Rattle.std.specs.Prelude.{ℕ, suc, ◌+◌, ◌*◌, ◌/◌, ◌≤◌, ◌<◌, ◌≡◌, List, [], ◌∷◌, ◌++◌, length, get_or, take, drop, set}
use Rattle.std.proofs.Common.{sym, ap, ◌∙◌, add_assoc, add-zero, zero-add, add_left_cancel, mul-le-mul, arith}
use Rattle.std.proofs.Math.Nat.{add_right_cancel, mul-div_cancel_left}
use Rattle.std.proofs.Math.Seq.{split_at}
use Rattle.std.proofs.lemmas.List.{set_split}
use Rattle.scope.specs.Bytes.{byte_limit}
use Rattle.basics.specs.Each.{Each}
use Rattle.blocks.specs.Block.{weight}

pub weight_append : (i : ℕ) (l m : List ℕ) → weight i (l ++ m) ≡ weight i l + weight (i + length l) m
unfolding weight
weight_append i [] m = sym (zero-add (weight i m)) ∙ ap (λ k. 0 + weight k m) (sym (add-zero i))
weight_append i (b ∷ l) m =
    let e : suc i + length l ≡ i + suc (length l) = omega arith in
    ap (λ x. suc i * b + x) (weight_append (suc i) l m ∙ ap (λ k. weight (suc i) l + weight k m) e)
    ∙ sym (add_assoc (suc i * b) (weight (suc i) l) (weight (i + suc (length l)) m))

-- times a number that is not 0, nothing is lost
times_back : (i b c : ℕ) → suc i * b ≡ suc i * c → b ≡ c
times_back i b c e =
    sym (mul-div_cancel_left b {n = suc i} (omega arith)) ∙ ap (λ x. x / suc i) e ∙ mul-div_cancel_left c {n = suc i} (omega arith)

-- equal sums, equal elements: in two pieces
one_element : (l m : List ℕ) (b c : ℕ) → weight 0 (l ++ (b ∷ m)) ≡ weight 0 (l ++ (c ∷ m)) → b ≡ c
unfolding weight
one_element l m b c e =
    times_back (0 + length l) b c
    (add_right_cancel (weight (suc (0 + length l)) m)
    (add_left_cancel (weight 0 l) (sym (weight_append 0 l (b ∷ m)) ∙ e ∙ weight_append 0 l (c ∷ m))))

-- at any index
pub weight_one : (l : List ℕ) (i c : ℕ) → i < length l → weight 0 (set l i c) ≡ weight 0 l → c ≡ get_or l i 0
weight_one l i c h e =
    one_element (take i l) (drop (suc i) l) c (get_or l i 0) (ap (weight 0) (sym (set_split l i c h)) ∙ e ∙ ap (weight 0) (split_at l i 0 h))

-- of bytes, none of them past m
pub weight_below : (m i : ℕ) (l : List ℕ) → i + length l ≤ m → Each (λ b. b < byte_limit) l → weight i l ≤ m * byte_limit * length l
unfolding weight
weight_below m i [] h e = omega arith
weight_below m i (b ∷ l) h e =
    let one : suc i * b ≤ m * byte_limit = mul-le-mul (omega arith) (omega (arith, e.0)) in
    omega (arith, weight_below m (suc i) l (omega arith) e.1)
