-- 02, L2: what the register program prints for lines with declarations; for some lines the rows and the ledger under the first placement, and that the
-- areas they are read to are accepted as tables.
use Rattle.std.specs.Prelude.{◌≡◌, refl, Bool, true, false, List, [], ◌∷◌, ℕ, ℤ, pos, length, take}
use Rattle.std.proofs.Math.Option.{Option, none, some}
use Rattle.scope.specs.Bytes.{upper, same_folded, bytes}
use Rattle.scope.specs.Lists.{same, given, on_last, all, keep, flat, among, shared, tabled, member}
use Rattle.scope.specs.Line.{Line}
use Rattle.scope.specs.Keys.{spell, keys, key_among, key_of, written}
use Rattle.scope.specs.Content.{digit_step, number_end, text_step, part_end, value_end, text_end, colon_after, inner_step}
use Rattle.scope.specs.Places.{place_step, places_end, places_text}
use Rattle.scope.specs.Reading.{element, further, group_first, in_group, undecided, counted, referred, act, perform, resume, step, run, reading}
use Rattle.scope.specs.Modifications.{copies}
use Rattle.scope.specs.Glycans.{sugars, behind_name, starts, cuttings_up_to, cuttings, cutting_mass}
use Rattle.scope.specs.Kept.{kept}
use Rattle.scope.specs.Refusals.{least, refusal1, refusal2, unprintable, refusal3, too_deep, refusal5, refusal6, refusal7, refusal8, is_rule_name, refusal9, refusal10, refusal21, wrongly_labelled, refusal11, passing, refusal12, refusal19, first_due, outcome, Outcome, accepted, refused}
use Rattle.scope.specs.Canonical.{decimal_up_to, decimal, last_digits, decimals, size, part_text, parts_text, sequence_text, chain_text, canonical}
use Rattle.scope.specs.Tables.{tables_of, score_of}
use Rattle.scope.specs.Layout.{part_rows, rows, bytes_of, numbers_of, part_in, bracket_in, tables_in}
use Rattle.scope.specs.Positions.{sites, reached, is_placed, placed_on, struck_out, floaters, copies_from, referred_at, may_stand, permitted, rows_from, rows_of, floating_of}
use Rattle.scope.specs.Placements.{distinct, ascends, choices, placements, first_placement}
use Rattle.scope.specs.Masses.{first_mass, mass_of, sum, total, sumℕ, lacking, placed_at, put_at, ledger}
use Rattle.scope.specs.Answers.{same_numbers, are_tables}
use Rattle.scope.specs.Register.{fields, printed}
use Rattle.outcomes.specs.Printing.{Sample, sample, agrees}
use Rattle.scope.specs.declared.answers.Site.{Site}

abbrev samples : List Sample
samples =
    sample "<[+1]@K>AK" "1 ok 2 1 0 +1000000 <[+1]@K>AK"
    ∷ sample "<[TMT6plex]@K,N-term>ATPEILTCNSIGCLK" "1 ok 15 1 0 ?2 <[TMT6plex]@K,N-term>ATPEILTCNSIGCLK"
    ∷ sample "<[Oxidation]@C,M>MTPEILTCNSIGCLK" "1 ok 15 1 0 ?3 <[Oxidation]@C,M>MTPEILTCNSIGCLK"
    ∷ sample "<[Oxidation]@C,M>EPELVESGGGLAQP" "1 ok 14 1 0 +0 <[Oxidation]@C,M>EPELVESGGGLAQP"
    ∷ sample "<[+1]@k,n-TERM>Ak" "1 ok 2 1 0 +2000000 <[+1]@K,N-term>AK"
    ∷ sample "<[+1]@K,k,K>AK" "1 ok 2 1 0 +1000000 <[+1]@K,K,K>AK"
    ∷ sample "<[+1]@K><[+1]@K>K" "1 ok 1 2 0 +2000000 <[+1]@K><[+1]@K>K"
    ∷ sample "<[+1]@K>K[+2]" "1 ok 1 2 0 +3000000 <[+1]@K>K[+2]"
    ∷ sample "<[+1]@K>[+2]?KA" "1 ok 2 2 1 +3000000 <[+1]@K>[+2]?KA"
    ∷ sample "<[+1]@K>[+2]?K" "1 ok 1 2 1 +3000000 <[+1]@K>[+2]?K"
    ∷ sample "<[+1]@K>K[+2#a]A[#a]" "1 ok 2 3 1 +3000000 <[+1]@K>K[+2#a]A[#a]"
    ∷ sample "<[+1]@N-term>[+2#a]-A[#a]" "1 ok 1 3 1 +3000000 <[+1]@N-term>[+2#a]-A[#a]"
    ∷ sample "<[+1]@A>(?AC)(AD)[+2]" "1 ok 4 2 1 +4000000 <[+1]@A>(?AC)(AD)[+2]"
    ∷ sample "<[+1]@D>B" "1 ok 1 1 0 +0 <[+1]@D>B"
    ∷ sample "<[x]@W>A" "1 ok 1 1 0 +0 <[x]@W>A"
    ∷ sample "<[x]@A>AA" "1 ok 2 1 0 ?2 <[x]@A>AA"
    ∷ sample "<[+1]@K,N-term,C-term>[+2]-K[+3]" "1 ok 1 3 0 +8000000 <[+1]@K,N-term,C-term>[+2]-K[+3]"
    ∷ sample "<[INFO:x]@K>A" "1 no 21 1"
    ∷ sample "<[INFO:x]@K>{INFO:y}A" "1 no 10 12"
    ∷ sample "<[INFO:x]@K>A[#a]" "1 no 21 1"
    ∷ sample "<[INFO:x|+1]@K>K" "1 ok 1 1 0 +1000000 <[INFO:x|+1]@K>K"
    ∷ sample "<[+1#a]@K>K" "1 no 4 4"
    ∷ sample "<[#a]@K>K[+1#a]" "1 no 4 2"
    ∷ sample "<[INFO:#a|x]@K>K" "1 ok 1 1 0 ?1 <[INFO:#a|x]@K>K"
    ∷ sample "<[+1]^2@K>K" "1 no 4 5"
    ∷ sample "<[+1]@>K" "1 no 4 6"
    ∷ sample "<[+1]@K,>K" "1 no 4 8"
    ∷ sample "<[+1]@K, R>K" "1 no 4 8"
    ∷ sample "<[+1]@K R>K" "1 no 4 7"
    ∷ sample "<[+1]@N-term:Q>Q" "1 no 4 12"
    ∷ sample "<[+1]@N->N" "1 no 4 8"
    ∷ sample "<[+1]@N-te>N" "1 no 4 10"
    ∷ sample "<[+1]@N>N" "1 ok 1 1 0 +1000000 <[+1]@N>N"
    ∷ sample "<[+1]@Nterm>N" "1 no 4 7"
    ∷ sample "<[+1]@KR>K" "1 no 4 7"
    ∷ sample "<13C>A" "1 no 4 1"
    ∷ sample "<[+1]@K" "1 no 4 7"
    ∷ sample "<[+1]>K" "1 no 4 5"
    ∷ sample "<{x}@K>K" "1 no 4 1"
    ∷ sample "<[a][b]@K>K" "1 no 4 4"
    ∷ sample "<[a|b]@K>K" "1 ok 1 1 0 ?1 <[a|b]@K>K"
    ∷ sample "<>A" "1 no 4 1"
    ∷ sample "[+1]?<[+2]@A>AC" "1 no 4 5"
    ∷ sample "{x}<[+2]@A>A" "1 no 4 3"
    ∷ sample "[x]-<[+2]@A>A" "1 no 4 4"
    ∷ sample "A<[+2]@A>" "1 no 4 1"
    ∷ sample "<[Gln->pyro-Glu]@N-term>QA" "1 ok 2 1 0 ?1 <[Gln->pyro-Glu]@N-term>QA"
    ∷ sample "<[x<y>]@A>A" "1 ok 1 1 0 ?1 <[x<y>]@A>A"
    ∷ sample "<[+1000000]@K>K" "1 no 7 2"
    ∷ sample "<[U:35]@W>A" "1 no 9 2"
    ∷ sample "<[CoMKP]@W>A" "1 no 8 2"
    ∷ sample "<[Glycan:foo]@W>A" "1 no 19 2"
    ∷ sample "<[Glycan:hex1]@N>NN" "1 ok 2 1 0 +324105600 <[Glycan:Hex]@N>NN"
    ∷ sample "<[x]@A>A[y]" "1 ok 1 2 0 ?2 <[x]@A>A[y]"
    ∷ sample "<[x]@A><[x]@A><[x]@A><[x]@A><[x]@A><[x]@A><[x]@A><[x]@A><[x]@A>A" "1 no 6 56"
    ∷ sample "<[x]@A><[x]@A><[x]@A><[x]@A><[x]@A><[x]@A><[x]@A><[x]@A>A" "1 ok 1 8 0 ?8 <[x]@A><[x]@A><[x]@A><[x]@A><[x]@A><[x]@A><[x]@A><[x]@A>A"
    ∷ sample "<[x]@A,A,A,A,A,A,A,A,A,A,A,A,A,A,A,A,A>A" "1 no 6 37"
    ∷ sample "<[x]@A,A,A,A,A,A,A,A,A,A,A,A,A,A,A,A>A" "1 ok 1 1 0 ?1 <[x]@A,A,A,A,A,A,A,A,A,A,A,A,A,A,A,A>A"
    ∷ sample "<[x]@A>A[y][y][y][y][y][y][y][y][y][y][y][y][y][y][y][y][y][y][y][y][y][y][y][y][y][y][y][y][y][y][y][y][y][y][y][y][y][y][y][y][y][y][y][y][y][y][y][y][y][y][y][y][y][y][y][y][y][y][y][y][y][y][y][y]" "1 no 6 197"
    ∷ sample "<[x]@A>A[y][y][y][y][y][y][y][y][y][y][y][y][y][y][y][y][y][y][y][y][y][y][y][y][y][y][y][y][y][y][y][y][y][y][y][y][y][y][y][y][y][y][y][y][y][y][y][y][y][y][y][y][y][y][y][y][y][y][y][y][y][y][y]" "1 ok 1 64 0 ?64 <[x]@A>A[y][y][y][y][y][y][y][y][y][y][y][y][y][y][y][y][y][y][y][y][y][y][y][y][y][y][y][y][y][y][y][y][y][y][y][y][y][y][y][y][y][y][y][y][y][y][y][y][y][y][y][y][y][y][y][y][y][y][y][y][y][y][y]"
    ∷ sample "<[+0]@c-TERM,N-term,N-term,A,c-TERM,c-TERM,A,c-TERM,A,c,c,c,c,c,c,A,c-TERM>ACA" "1 no 6 68"
    ∷ sample "<[+0]@c-TERM,N-term,N-term,A,c-TERM,c,A,c,A,c,N-term,N-term,c,N-term,A,c,A,A,c-TERM,c>ACA" "1 no 6 73"
    ∷ sample "<[-6864]@N-term><[glycan:En,aheX12NeuGc10|GlyCAN:TET5Fuc12Non99 ]@C,C-tERM>KK[+1]C" "1 no 19 42"
    ∷ sample "<[Glycan:NONNEUAc2Ac]@J,N-term,J>J-[Glycan:Pen5NonHeXnS,]" "1 no 19 2"
    ∷ sample "<[Glycan:HexNHex12HEXNS12Neu5S|R:Acetyl|GNO:4CucHhIQ|+1.50]@a,A,A,N,S>(A)[+3]CAA[INFO:q]" "1 no 19 2"
    ∷ sample "<[glycan:[]pen1|X:+0.01]@n-term,C,N-term>CEKC-[INFO::]" "1 no 19 2"
    ∷ sample "<[INFO:;rM+4]@a,a,a>Ka" "1 no 21 1"
    ∷ sample "<[INFO:[a|b#c]]@A,a>{{p[[{q}[a#b|c]s]#|]}b}A-[R:-2]" "1 no 21 1"
    ∷ sample "<[INFO:Uu:1|INFO:N:+1]@V,X>[Glycan]-(?X)" "1 no 21 1"
    ∷ sample "<[INFO:y]@C><[x]@A><[+1]@C><[+2]@K><[+1]@C><[+1]@K><[x]@K>CAK" "1 no 21 1"
    ∷ sample "<[INFO:formula#]@N-term,K,N-term>[+1]?CCCK" "1 no 21 1"
    ∷ sample "<[INFO:y]@N-term,A>(KA[c:-38.71555])[INFO:a^2]" "1 no 21 1"
    ∷ sample "<[info:{x[#]y}]@W>{Obs:-0}[+999999][GLYcAn:SUG10]-(MW[+0.5]W)[+0]" "1 no 21 1"
    ∷ sample "<[Oxidation]@Y,C,C-term,C,X,C,N-term,C,N-teRm,C,C,C,C,C,E><[INFO:x]@N-term,c>[INFO:L-methionine sulfoxide|+0.000000]^4?C-[-1]" "1 no 21 59"
    ∷ sample "<[+0]@N-term,A,A,A,c-TERM,c-TERM,N-term,c-TERM,c-TERM,A,c,N-term,A,c-TERM,N-term,N-term>ACA" "1 ok 3 1 0 +0 <[+0]@N-term,A,A,A,C-term,C-term,N-term,C-term,C-term,A,C,N-term,A,C-term,N-term,N-term>ACA"
    ∷ sample "<[+79.966331|GNO:U]@N-term>A" "1 ok 1 1 0 +79966331 <[+79.966331|GNO:U]@N-term>A"
    ∷ sample "<[x:/2]@K,K,C-term><[glycan:phosphate19]@K>K" "1 ok 1 2 0 ?2 <[X:/2]@K,K,C-term><[Glycan:Phosphate19]@K>K"
    ∷ sample "<[0|M:a{>a#b|c}b|/2]@A,K>K[GLyCan:Sug19Tet2|RESIM:P]A" "1 ok 2 2 0 ?2 <[0|M:a{>a#b|c}b|/2]@A,K>K[Glycan:Sug19Tet2|RESIM:P]A"
    ∷ sample "<[+0]@c,N-term,c,c-TERM,c,c-TERM,A,c,N-term,c-TERM,A,c,A,c-TERM,N-term,c>ACA" "1 ok 3 1 0 +0 <[+0]@C,N-term,C,C-term,C,C-term,A,C,N-term,C-term,A,C,A,C-term,N-term,C>ACA"
    ∷ sample "<[-1]@C><[a{{q}[|][]}|-6]@C>[(9zw]?[glycan:Sulfate5aHex12Tet1]-C" "1 ok 1 4 1 ?1 <[-1]@C><[a{{q}[|][]}|-6]@C>[(9zw]?[Glycan:Sulfate5aHex12Tet]-C"
    ∷ sample "<[N:+1]@N-term,A,K>AAK" "1 ok 3 1 0 ?4 <[N:+1]@N-term,A,K>AAK"
    ∷ sample "<[+79.966331]@P,N-term>{INFO: {()}b|-2}P[glYCaN:HexP12Hep5]G[+000.0]" "1 ok 2 4 0 +4022478862 <[+79.966331]@P,N-term>{INFO: {()}b|-2}P[Glycan:HexP12Hep5]G[+0.0]"
    ∷ sample "<[M:::|-29309.57541]@C,K>{{x[#]y}}(?K[#g1]C[#g1(9.32057)][UNIMOD:83976#g1])K" "1 ok 3 5 1 ?2 <[M:::|-29309.57541]@C,K>{{x[#]y}}(?K[#g1]C[#g1(9.32057)][UNIMOD:83976#g1])K"
    ∷ sample "<[-1]@N-term>[GLYCAN:Neu2aHex19dHex19|x:Comk#A|gno:0ePNukr]?[#A]-Kk" "1 ok 2 3 1 +6616879800 <[-1]@N-term>[Glycan:Neu2aHex19dHex19|X:Comk#A|GNO:0ePNukr]?[#A]-KK"
    ∷ sample "<[+5]@N-term>[+1]^2?[INFO:q]-AKAADCKA" "1 ok 8 3 2 +7000000 <[+5]@N-term>[+1]^2?[INFO:q]-AKAADCKA"
    ∷ sample "<[+5]@N-term>[+2]?[+4]-KAAAKKK[+1#M1]" "1 ok 7 4 2 +12000000 <[+5]@N-term>[+2]?[+4]-KAAAKKK[+1#M1]"
    ∷ sample "<[GlyCAn:hexNaC2PHOsphATE|xLmod:98]@N,N,N><[xINFO:y]@N>[-999999.999999]?(?N)" "1 ok 1 3 1 ?1 <[Glycan:HexNAc2Phosphate|XLMOD:98]@N,N,N><[xINFO:y]@N>[-999999.999999]?(?N)"
    ∷ sample "<[+3]@F,N-term,N-term,F,N-term><[M:-1.50]@N-term,F>F[{{q}{[]{a#b|c}}#|}#g1][#g1]-[Glycan:NeuGc9sug5en,aHex2][-0.5]" "1 ok 1 6 1 ?1 <[+3]@F,N-term,N-term,F,N-term><[M:-1.50]@N-term,F>F[{{q}{[]{a#b|c}}#|}#g1][#g1]-[Glycan:NeuGc9Sug5en,aHex2][-0.5]"
    ∷ sample "<[RESID:16KgxiZD]@A>[+1]?A" "1 ok 1 2 1 ?1 <[RESID:16KgxiZD]@A>[+1]?A"
    ∷ []

pub printed_alike : all agrees samples ≡ true
unfolding upper same_folded same spell keys key_among key_of written digit_step number_end text_step part_end value_end text_end colon_after inner_step element further group_first in_group undecided counted referred act on_last place_step places_end perform resume step run reading all keep flat among copies least refusal1 refusal2 unprintable refusal3 too_deep refusal5 refusal6 refusal7 refusal8 is_rule_name refusal9 refusal10 refusal21 shared wrongly_labelled refusal11 passing refusal12 sugars behind_name starts cuttings_up_to cuttings cutting_mass refusal19 kept first_due outcome decimal_up_to decimal last_digits decimals size part_text parts_text places_text sequence_text chain_text canonical tables_of part_rows score_of rows bytes_of numbers_of tabled part_in bracket_in tables_in member sites reached is_placed placed_on struck_out floaters copies_from referred_at may_stand permitted rows_from rows_of distinct ascends choices placements first_placement first_mass mass_of sum total sumℕ lacking placed_at put_at ledger same_numbers are_tables fields printed
printed_alike = refl

abbrev site : ℕ → ℕ → Site
site f x = record { floater = f; position = x }

abbrev of : {A : Type 0} → Outcome → (Line ℕ → A) → Option A
of (accepted l) f = some (f l)
of (refused number place) f = none

-- up to the C-terminus, under the first placement; nothing where there is none
abbrev ledger_in : Line ℕ → List ℤ
ledger_in l = take (length (sites l)) (given (first_placement (floating_of l)) (ledger l) [])

pub booked_alike :
    (of (outcome (bytes "<[+1]@K>AK")) rows_of ≡ some ([]))
    × (of (outcome (bytes "<[+1]@K>AK")) ledger_in ≡ some (pos 0 ∷ pos 0 ∷ pos 1000000 ∷ pos 0 ∷ []))
    × (of (outcome (bytes "<[Oxidation]@C,M>EPELVESGGGLAQP")) rows_of ≡ some ([]))
    × (of (outcome (bytes "<[Oxidation]@C,M>EPELVESGGGLAQP")) ledger_in ≡ some (pos 0 ∷ pos 0 ∷ pos 0 ∷ pos 0 ∷ pos 0 ∷ pos 0 ∷ pos 0 ∷ pos 0 ∷ pos 0 ∷ pos 0 ∷ pos 0 ∷ pos 0 ∷ pos 0 ∷ pos 0 ∷ pos 0 ∷ pos 0 ∷ []))
    × (of (outcome (bytes "<[+1]@k,n-TERM>Ak")) rows_of ≡ some ([]))
    × (of (outcome (bytes "<[+1]@k,n-TERM>Ak")) ledger_in ≡ some (pos 1000000 ∷ pos 0 ∷ pos 1000000 ∷ pos 0 ∷ []))
    × (of (outcome (bytes "<[+1]@K,k,K>AK")) rows_of ≡ some ([]))
    × (of (outcome (bytes "<[+1]@K,k,K>AK")) ledger_in ≡ some (pos 0 ∷ pos 0 ∷ pos 1000000 ∷ pos 0 ∷ []))
    × (of (outcome (bytes "<[+1]@K><[+1]@K>K")) rows_of ≡ some ([]))
    × (of (outcome (bytes "<[+1]@K><[+1]@K>K")) ledger_in ≡ some (pos 0 ∷ pos 2000000 ∷ pos 0 ∷ []))
    × (of (outcome (bytes "<[+1]@K>K[+2]")) rows_of ≡ some ([]))
    × (of (outcome (bytes "<[+1]@K>K[+2]")) ledger_in ≡ some (pos 0 ∷ pos 3000000 ∷ pos 0 ∷ []))
    × (of (outcome (bytes "<[+1]@K>[+2]?KA")) rows_of ≡ some (site 1 2 ∷ []))
    × (of (outcome (bytes "<[+1]@K>[+2]?KA")) ledger_in ≡ some (pos 0 ∷ pos 1000000 ∷ pos 2000000 ∷ pos 0 ∷ []))
    × (of (outcome (bytes "<[+1]@K>K[+2#a]A[#a]")) rows_of ≡ some (site 1 2 ∷ []))
    × (of (outcome (bytes "<[+1]@K>K[+2#a]A[#a]")) ledger_in ≡ some (pos 0 ∷ pos 1000000 ∷ pos 2000000 ∷ pos 0 ∷ []))
    × (of (outcome (bytes "<[+1]@N-term>[+2#a]-A[#a]")) rows_of ≡ some (site 1 1 ∷ []))
    × (of (outcome (bytes "<[+1]@N-term>[+2#a]-A[#a]")) ledger_in ≡ some (pos 1000000 ∷ pos 2000000 ∷ pos 0 ∷ []))
    × (of (outcome (bytes "<[+1]@A>(?AC)(AD)[+2]")) rows_of ≡ some (site 1 4 ∷ []))
    × (of (outcome (bytes "<[+1]@A>(?AC)(AD)[+2]")) ledger_in ≡ some (pos 0 ∷ pos 1000000 ∷ pos 0 ∷ pos 1000000 ∷ pos 2000000 ∷ pos 0 ∷ []))
    × (of (outcome (bytes "<[+1]@D>B")) rows_of ≡ some ([]))
    × (of (outcome (bytes "<[+1]@D>B")) ledger_in ≡ some (pos 0 ∷ pos 0 ∷ pos 0 ∷ []))
    × (of (outcome (bytes "<[x]@W>A")) rows_of ≡ some ([]))
    × (of (outcome (bytes "<[x]@W>A")) ledger_in ≡ some (pos 0 ∷ pos 0 ∷ pos 0 ∷ []))
    × (of (outcome (bytes "<[+1]@K,N-term,C-term>[+2]-K[+3]")) rows_of ≡ some ([]))
    × (of (outcome (bytes "<[+1]@K,N-term,C-term>[+2]-K[+3]")) ledger_in ≡ some (pos 3000000 ∷ pos 4000000 ∷ pos 1000000 ∷ []))
    × (of (outcome (bytes "<[INFO:x|+1]@K>K")) rows_of ≡ some ([]))
    × (of (outcome (bytes "<[INFO:x|+1]@K>K")) ledger_in ≡ some (pos 0 ∷ pos 1000000 ∷ pos 0 ∷ []))
    × (of (outcome (bytes "<[+1]@N>N")) rows_of ≡ some ([]))
    × (of (outcome (bytes "<[+1]@N>N")) ledger_in ≡ some (pos 0 ∷ pos 1000000 ∷ pos 0 ∷ []))
    × (of (outcome (bytes "<[Glycan:hex1]@N>NN")) rows_of ≡ some ([]))
    × (of (outcome (bytes "<[Glycan:hex1]@N>NN")) ledger_in ≡ some (pos 0 ∷ pos 162052800 ∷ pos 162052800 ∷ pos 0 ∷ []))
    × (of (outcome (bytes "<[+0]@N-term,A,A,A,c-TERM,c-TERM,N-term,c-TERM,c-TERM,A,c,N-term,A,c-TERM,N-term,N-term>ACA")) rows_of ≡ some ([]))
    × (of (outcome (bytes "<[+0]@N-term,A,A,A,c-TERM,c-TERM,N-term,c-TERM,c-TERM,A,c,N-term,A,c-TERM,N-term,N-term>ACA")) ledger_in ≡ some (pos 0 ∷ pos 0 ∷ pos 0 ∷ pos 0 ∷ pos 0 ∷ []))
    × (of (outcome (bytes "<[+79.966331|GNO:U]@N-term>A")) rows_of ≡ some ([]))
    × (of (outcome (bytes "<[+79.966331|GNO:U]@N-term>A")) ledger_in ≡ some (pos 79966331 ∷ pos 0 ∷ pos 0 ∷ []))
    × (of (outcome (bytes "<[+0]@c,N-term,c,c-TERM,c,c-TERM,A,c,N-term,c-TERM,A,c,A,c-TERM,N-term,c>ACA")) rows_of ≡ some ([]))
    × (of (outcome (bytes "<[+0]@c,N-term,c,c-TERM,c,c-TERM,A,c,N-term,c-TERM,A,c,A,c-TERM,N-term,c>ACA")) ledger_in ≡ some (pos 0 ∷ pos 0 ∷ pos 0 ∷ pos 0 ∷ pos 0 ∷ []))
    × (of (outcome (bytes "<[+79.966331]@P,N-term>{INFO: {()}b|-2}P[glYCaN:HexP12Hep5]G[+000.0]")) rows_of ≡ some ([]))
    × (of (outcome (bytes "<[+79.966331]@P,N-term>{INFO: {()}b|-2}P[glYCaN:HexP12Hep5]G[+000.0]")) ledger_in ≡ some (pos 79966331 ∷ pos 3944512531 ∷ pos 0 ∷ pos 0 ∷ []))
    × (of (outcome (bytes "<[+5]@N-term>[+1]^2?[INFO:q]-AKAADCKA")) rows_of ≡ some (site 1 1 ∷ site 1 2 ∷ site 1 3 ∷ site 1 4 ∷ site 1 5 ∷ site 1 6 ∷ site 1 7 ∷ site 1 8 ∷ site 2 1 ∷ site 2 2 ∷ site 2 3 ∷ site 2 4 ∷ site 2 5 ∷ site 2 6 ∷ site 2 7 ∷ site 2 8 ∷ []))
    × (of (outcome (bytes "<[+5]@N-term>[+1]^2?[INFO:q]-AKAADCKA")) ledger_in ≡ some (pos 5000000 ∷ pos 1000000 ∷ pos 1000000 ∷ pos 0 ∷ pos 0 ∷ pos 0 ∷ pos 0 ∷ pos 0 ∷ pos 0 ∷ pos 0 ∷ []))
    × (of (outcome (bytes "<[+5]@N-term>[+2]?[+4]-KAAAKKK[+1#M1]")) rows_of ≡ some (site 1 1 ∷ site 1 2 ∷ site 1 3 ∷ site 1 4 ∷ site 1 5 ∷ site 1 6 ∷ site 1 7 ∷ site 2 7 ∷ []))
    × (of (outcome (bytes "<[+5]@N-term>[+2]?[+4]-KAAAKKK[+1#M1]")) ledger_in ≡ some (pos 9000000 ∷ pos 2000000 ∷ pos 0 ∷ pos 0 ∷ pos 0 ∷ pos 0 ∷ pos 0 ∷ pos 1000000 ∷ pos 0 ∷ []))
unfolding upper same_folded same spell keys key_among key_of written digit_step number_end text_step part_end value_end text_end colon_after inner_step element further group_first in_group undecided counted referred act on_last place_step places_end perform resume step run reading all keep flat among copies least refusal1 refusal2 unprintable refusal3 too_deep refusal5 refusal6 refusal7 refusal8 is_rule_name refusal9 refusal10 refusal21 shared wrongly_labelled refusal11 passing refusal12 sugars behind_name starts cuttings_up_to cuttings cutting_mass refusal19 kept first_due outcome decimal_up_to decimal last_digits decimals size part_text parts_text places_text sequence_text chain_text canonical tables_of part_rows score_of rows bytes_of numbers_of tabled part_in bracket_in tables_in member sites reached is_placed placed_on struck_out floaters copies_from referred_at may_stand permitted rows_from rows_of distinct ascends choices placements first_placement first_mass mass_of sum total sumℕ lacking placed_at put_at ledger same_numbers are_tables fields printed
booked_alike = (refl, refl, refl, refl, refl, refl, refl, refl, refl, refl, refl, refl, refl, refl, refl, refl, refl, refl, refl, refl, refl, refl, refl, refl, refl, refl, refl, refl, refl, refl, refl, refl, refl, refl, refl, refl, refl, refl, refl, refl, refl, refl, refl, refl)

-- the areas that a line is read to are accepted as tables
abbrev is_read : Outcome → Bool
is_read (accepted l) = are_tables (bytes_of l) (numbers_of l)
is_read (refused number place) = false

pub read_alike :
    all (λ s. is_read (outcome (bytes s)))
    ("<[+1]@k,n-TERM>Ak" ∷ "<[+1]@K,k,K><[x]@c-term>AK" ∷ "<[x]@W>[+2]?KA" ∷ "<[Glycan:hex1|INFO:#a]@N,N-term>{y}[+1#a]-N[#a]" ∷ [])
    ≡ true
unfolding upper same_folded same spell keys key_among key_of written digit_step number_end text_step part_end value_end text_end colon_after inner_step element further group_first in_group undecided counted referred act on_last place_step places_end perform resume step run reading all keep flat among copies least refusal1 refusal2 unprintable refusal3 too_deep refusal5 refusal6 refusal7 refusal8 is_rule_name refusal9 refusal10 refusal21 shared wrongly_labelled refusal11 passing refusal12 sugars behind_name starts cuttings_up_to cuttings cutting_mass refusal19 kept first_due outcome decimal_up_to decimal last_digits decimals size part_text parts_text places_text sequence_text chain_text canonical tables_of part_rows score_of rows bytes_of numbers_of tabled part_in bracket_in tables_in member sites reached is_placed placed_on struck_out floaters copies_from referred_at may_stand permitted rows_from rows_of distinct ascends choices placements first_placement first_mass mass_of sum total sumℕ lacking placed_at put_at ledger same_numbers are_tables fields printed
read_alike = refl
