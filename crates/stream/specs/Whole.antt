-- However an input is cut into chunks, what is put out is what the register program prints for it, and the refused lines that are counted are those among its lines.
use Rattle.std.specs.Prelude.{◌≡◌, refl, Bool, true, false, cond, List, [], ◌∷◌, ◌++◌, ℕ, suc, ◌+◌, eqb, take}
use Rattle.std.proofs.Common.{sym, ap, ◌∙◌, append-nil, append_assoc, arith}
use Rattle.entries.specs.Entry.{entry}
use Rattle.chunks.specs.Lines.{line_end, grown, in_front, lines, entries_from, register, refusal, refused_in}
use Rattle.chunks.specs.Feeding.{hold_limit, Between, holding, start, kept, ended, stepped, after, put, last_put, finished, last_refused, refused_at_end, joined, after_all, put_all}
use Rattle.chunks.specs.Laws.{after_append, put_append, kept_twice}
use Rattle.chunks.specs.TooLong.{entry_front_lem, refusal_front}

-- ---- bytes that end no line, in front of lines
abbrev ahead : List ℕ → List (List ℕ) → List (List ℕ)
ahead [] ls = ls
ahead (b ∷ h) ls = grown b (ahead h ls)

ahead_more : (h : List ℕ) (b : ℕ) (ls : List (List ℕ)) → ahead (h ++ (b ∷ [])) ls ≡ ahead h (grown b ls)
ahead_more [] b ls = refl
ahead_more (a ∷ h) b ls = ap (grown a) (ahead_more h b ls)

ahead_line : (h : List ℕ) (ls : List (List ℕ)) → ahead h ([] ∷ ls) ≡ h ∷ ls
ahead_line [] ls = refl
ahead_line (b ∷ h) ls = ap (grown b) (ahead_line h ls)

ahead_end : (b : ℕ) (h : List ℕ) → ahead (b ∷ h) [] ≡ (b ∷ h) ∷ []
ahead_end b [] = refl
ahead_end b (a ∷ h) = ap (grown b) (ahead_end a h)

-- ---- from a line on, of which some bytes came already
last : (n : ℕ) (h : List ℕ) → last_put n (take hold_limit h) ≡ entries_from n (ahead h [])
unfolding entries_from
last n [] = refl
last n (b ∷ h) = entry_front_lem n (b ∷ h) ∙ sym (append-nil (entry n (b ∷ h))) ∙ ap (entries_from n) (sym (ahead_end b h))

-- all that is put out from a state on
abbrev rest : Between → List ℕ → List ℕ
rest s t = put s t ++ finished (after s t)

rest_cons : (s : Between) (b : ℕ) (t : List ℕ) → rest s (b ∷ t) ≡ ended (eqb b line_end) s ++ rest (stepped (eqb b line_end) s b) t
unfolding put after
rest_cons s b t =
    let r = stepped (eqb b line_end) s b in
    append_assoc (ended (eqb b line_end) s) (put r t) (finished (after r t))

held_more : (h : List ℕ) (b : ℕ) → kept (take hold_limit h) (b ∷ []) ≡ take hold_limit (h ++ (b ∷ []))
held_more h b = ap (λ z. kept (take hold_limit z) (b ∷ [])) (sym (append-nil h)) ∙ kept_twice h [] (b ∷ [])

-- a byte more, and whether it is byte 10, in front of bytes for which it is known
one_more : (e : Bool) (n r : ℕ) (h : List ℕ) (b : ℕ) (s : List ℕ)
    → ((m q : ℕ) (g : List ℕ) → rest (holding m q (take hold_limit g)) s ≡ entries_from m (ahead g (lines s)))
    → ended e (holding n r (take hold_limit h)) ++ rest (stepped e (holding n r (take hold_limit h)) b) s ≡ entries_from n (ahead h (in_front e b (lines s)))
unfolding entries_from
one_more true n r h b s known =
    let more = r + refusal (take hold_limit h) in
    ap (λ z. z ++ rest (holding (suc n) more []) s) (entry_front_lem n h) ∙ ap (λ z. entry n h ++ z) (known (suc n) more [])
    ∙ ap (entries_from n) (sym (ahead_line h (lines s)))
one_more false n r h b s known =
    ap (λ z. rest (holding n r z) s) (held_more h b) ∙ known n r (h ++ (b ∷ [])) ∙ ap (entries_from n) (ahead_more h b (lines s))

from_here : (n r : ℕ) (h s : List ℕ) → rest (holding n r (take hold_limit h)) s ≡ entries_from n (ahead h (lines s))
unfolding put after lines
from_here n r h [] = last n h
from_here n r h (b ∷ s) = rest_cons (holding n r (take hold_limit h)) b s ∙ one_more (eqb b line_end) n r h b s (λ m q g. from_here m q g s)

-- ---- the refused lines from there on
last_refused_lem : (r : ℕ) (h : List ℕ) → r + cond (last_refused (take hold_limit h)) 1 0 ≡ r + refused_in (ahead h [])
unfolding refused_in
last_refused_lem r [] = refl
last_refused_lem r (b ∷ h) =
    let one : refused_in (ahead (b ∷ h) []) ≡ refusal (b ∷ h) + 0 = ap refused_in (ahead_end b h) in
    omega (arith, refusal_front (b ∷ h), one)

-- a byte more, as above
one_more_refused : (e : Bool) (n r : ℕ) (h : List ℕ) (b : ℕ) (s : List ℕ)
    → ((m q : ℕ) (g : List ℕ) → refused_at_end (after (holding m q (take hold_limit g)) s) ≡ q + refused_in (ahead g (lines s)))
    → refused_at_end (after (stepped e (holding n r (take hold_limit h)) b) s) ≡ r + refused_in (ahead h (in_front e b (lines s)))
unfolding refused_in
one_more_refused true n r h b s known =
    let more = r + refusal (take hold_limit h) in
    let line : refused_in (ahead h ([] ∷ lines s)) ≡ refusal h + refused_in (lines s) = ap refused_in (ahead_line h (lines s)) in
    omega (arith, known (suc n) more [], refusal_front h, line)
one_more_refused false n r h b s known =
    ap (λ z. refused_at_end (after (holding n r z) s)) (held_more h b) ∙ known n r (h ++ (b ∷ [])) ∙ ap (λ z. r + refused_in z) (ahead_more h b (lines s))

refused_from_here : (n r : ℕ) (h s : List ℕ) → refused_at_end (after (holding n r (take hold_limit h)) s) ≡ r + refused_in (ahead h (lines s))
unfolding after lines
refused_from_here n r h [] = last_refused_lem r h
refused_from_here n r h (b ∷ s) = one_more_refused (eqb b line_end) n r h b s (λ m q g. refused_from_here m q g s)

-- ---- an input in one piece
pub in_one : (s : List ℕ) → put start s ++ finished (after start s) ≡ register s
unfolding register
in_one s = from_here 1 0 [] s

pub refused_in_one : (s : List ℕ) → refused_at_end (after start s) ≡ refused_in (lines s)
refused_in_one s = let e : refused_at_end (after start s) ≡ 0 + refused_in (lines s) = refused_from_here 1 0 [] s in omega (arith, e)

-- ---- and in any chunks
after_joined : (s : Between) (cs : List (List ℕ)) → after_all s cs ≡ after s (joined cs)
unfolding after_all joined after
after_joined s [] = refl
after_joined s (c ∷ cs) = after_joined (after s c) cs ∙ sym (after_append s c (joined cs))

put_joined : (s : Between) (cs : List (List ℕ)) → put_all s cs ≡ put s (joined cs)
unfolding put_all joined put
put_joined s [] = refl
put_joined s (c ∷ cs) = ap (λ z. put s c ++ z) (put_joined (after s c) cs) ∙ sym (put_append s c (joined cs))

pub in_chunks : (cs : List (List ℕ)) → put_all start cs ++ finished (after_all start cs) ≡ register (joined cs)
in_chunks cs =
    ap (λ z. z ++ finished (after_all start cs)) (put_joined start cs) ∙ ap (λ z. put start (joined cs) ++ finished z) (after_joined start cs)
    ∙ in_one (joined cs)

pub refused_in_chunks : (cs : List (List ℕ)) → refused_at_end (after_all start cs) ≡ refused_in (lines (joined cs))
refused_in_chunks cs = ap refused_at_end (after_joined start cs) ∙ refused_in_one (joined cs)

-- ---- what is handed over, piece by piece: each text is all that is put out for the next bytes of the input, and the last one what is put out at its end
pub record HandedText : Type 0 where
  pub bytes : List ℕ
  pub text : List ℕ

unfoldable pub bytes_in : List HandedText → List ℕ
bytes_in [] = []
bytes_in (p ∷ ps) = p.bytes ++ bytes_in ps

unfoldable pub texts_of : List HandedText → List ℕ
texts_of [] = []
texts_of (p ∷ ps) = p.text ++ texts_of ps

abbrev pub HandsOver : Between → List HandedText → List ℕ → Type 0
HandsOver s [] last = last ≡ finished s
HandsOver s (p ∷ ps) last = (p.text ≡ put s p.bytes) × HandsOver (after s p.bytes) ps last

rest_append : (s : Between) (a b : List ℕ) → rest s (a ++ b) ≡ put s a ++ rest (after s a) b
rest_append s a b =
    ap (λ z. z ++ finished (after s (a ++ b))) (put_append s a b) ∙ ap (λ z. (put s a ++ put (after s a) b) ++ finished z) (after_append s a b)
    ∙ append_assoc (put s a) (put (after s a) b) (finished (after (after s a) b))

pieces : (s : Between) (ps : List HandedText) (last : List ℕ) → HandsOver s ps last → texts_of ps ++ last ≡ rest s (bytes_in ps)
unfolding texts_of bytes_in put after
pieces s [] last h = h
pieces s (p ∷ ps) last h =
    append_assoc p.text (texts_of ps) last ∙ ap (λ z. z ++ (texts_of ps ++ last)) h.0
    ∙ ap (λ z. put s p.bytes ++ z) (pieces (after s p.bytes) ps last h.1) ∙ sym (rest_append s p.bytes (bytes_in ps))

pub handed_over : (ps : List HandedText) (last : List ℕ) → HandsOver start ps last → texts_of ps ++ last ≡ register (bytes_in ps)
handed_over ps last h = pieces start ps last h ∙ in_one (bytes_in ps)
