-- A sample of outside vectors, every outcome among them: what the register program prints for a line, with 02's L6; and for some lines the rows, the placements
-- and the ledger under the first, or how many masses are lacking.
use Rattle.std.specs.Prelude.{◌≡◌, refl, Bool, true, List, [], ◌∷◌, ◌++◌, ℕ, ◌+◌, ℤ, pos, neg_ℤ, length, take}
use Rattle.std.proofs.Math.Option.{Option, none, some}
use Rattle.scope.specs.Bytes.{upper, same_folded, bytes}
use Rattle.scope.specs.Lists.{same, given, on_last, all, keep, flat, among, shared, tabled, padded, member}
use Rattle.scope.specs.Line.{Line}
use Rattle.scope.specs.Keys.{spell, keys, key_among, key_of, written}
use Rattle.scope.specs.Content.{digit_step, number_end, text_step, part_end, value_end, text_end, colon_after, inner_step}
use Rattle.scope.specs.Places.{place_step, places_end, places_text}
use Rattle.scope.specs.Reading.{element, further, group_first, in_group, undecided, counted, referred, act, perform, resume, step, run, reading}
use Rattle.scope.specs.Modifications.{copies}
use Rattle.scope.specs.Kept.{kept}
use Rattle.scope.specs.Refusals.{least, refusal1, refusal2, unprintable, refusal3, too_deep, refusal5, refusal6, refusal7, refusal8, is_rule_name, refusal9, refusal10, refusal21, wrongly_labelled, refusal11, passing, refusal12, refusal19, first_due, outcome, Outcome, accepted, refused}
use Rattle.scope.specs.Canonical.{decimal_up_to, decimal, last_digits, decimals, size, part_text, parts_text, sequence_text, chain_text, canonical}
use Rattle.scope.specs.Tables.{tables_of, score_of}
use Rattle.scope.specs.Layout.{part_rows, rows, bytes_of, numbers_of, part_in, bracket_in, tables_in}
use Rattle.scope.specs.Positions.{sites, reached, is_placed, placed_on, struck_out, floaters, copies_from, referred_at, may_stand, permitted, rows_from, rows_of, first_row, floating_of}
use Rattle.scope.specs.Placements.{distinct, fits, ascends, allowed, less, choices, placements, first_placement, next_placement}
use Rattle.scope.specs.Masses.{first_mass, mass_of, sum, total, sumℕ, lacking, placed_at, put_at, ledger, labile_mass}
use Rattle.scope.specs.Answers.{same_numbers, are_tables}
use Rattle.scope.specs.Register.{fields, printed}
use Rattle.scope.specs.declared.answers.Site.{Site}
use Rattle.scope.specs.Limits.{copy_limit}
use Rattle.outcomes.specs.Printing.{Sample, numbered as sample, agrees}

abbrev samples : List Sample
samples =
    sample "[[{q}[|]]][+0373.07]^001?Z" 769 "769 ok 1 2 2 ?1 [[{q}[|]]][+373.07]?Z"
    ∷ sample "[+1]?HO(DA[INFO:y]CS)[+9][+9]" 112 "112 ok 6 4 3 +19000000 [+1]?HO(DA[INFO:y]CS)[+9][+9]"
    ∷ sample "[#a]-SNVZ[INFO:{}|-688949.6#a]" 868 "868 ok 4 2 1 -688949600000 [#a]-SNVZ[INFO:{}|-688949.6#a]"
    ∷ sample "[+1][+2][+3#L2][+4]?[+4]-D[#L2]K" 189 "189 ok 2 6 4 +14000000 [+1][+2][+3#L2][+4]?[+4]-D[#L2]K"
    ∷ sample "E[G:{[]{a#b|c}[]}b)]E[-3](K)[g:5]" 2310 "2310 ok 3 3 1 ?2 E[G:{[]{a#b|c}[]}b)]E[-3](K)[G:5]"
    ∷ sample "x[#a][+59440.3#g1]-[R:LpK][u:\\#a]" 320 "320 ok 1 4 2 ?2 X[#a][+59440.3#g1]-[R:LpK][U:\\#a]"
    ∷ sample "[UNIMOD:79#a(999999.999999)]?K[#a]C" 441 "441 ok 2 2 1 ?1 [UNIMOD:79#a(999999.999999)]?K[#a]C"
    ∷ sample "[INFO:.#XL1][UNIMOd:473794][X:MODx:1]-hTu" 1218 "1218 ok 3 3 0 ?2 [INFO:.#XL1][UNIMOD:473794][X:MODx:1]-HTU"
    ∷ sample "(VRCW[y#a][#a][#a])[info:U#a|info:U|InfO:;oMzg ]" 1616 "1616 ok 4 4 1 ?1 (VRCW[y#a][#a][#a])[INFO:U#a|INFO:U|INFO:;oMzg ]"
    ∷ sample "NBZ[R:L-methionine sulfoxide]CK[G:-0.01|M:N:+1]QN" 179 "179 ok 7 2 0 ?1 NBZ[R:L-methionine sulfoxide]CK[G:-0.01|M:N:+1]QN"
    ∷ sample "AF[#a][-2#a][#a](?U[r:15699|INFO:Glycan]X[+0.000000])" 2222 "2222 ok 4 5 1 ?1 AF[#a][-2#a][#a](?U[R:15699|INFO:Glycan]X[+0.000000])"
    ∷ sample "S[C:Glu->pyro-Glu](NIZ[INFO:35])[-42118][INFO:MODx:1##]" 310 "310 ok 4 4 1 ?1 S[C:Glu->pyro-Glu](NIZ[INFO:35])[-42118][INFO:MODx:1##]"
    ∷ sample "[+0#c]?S[#c][#c(8.8254)](I[G:[a#b|c]])[INFO:a{{q}{p{II}{x}}{x}}b]" 535 "535 ok 2 5 1 ?1 [+0#c]?S[#c][#c(8.8254)](I[G:[a#b|c]])[INFO:a{{q}{p{II}{x}}{x}}b]"
    ∷ sample "Y[::]I[Jomupx][U:-7](Y)[inFO:u`9#a|UniMOD:394353](JJK)[iNfO:B,n]QC" 232 "232 ok 8 5 1 ?3 Y[::]I[Jomupx][U:-7](Y)[INFO:u`9#a|UNIMOD:394353](JJK)[INFO:B,n]QC"
    ∷ sample "{C:a[#[|[a#b|c][]]s]b}N[#a(0)][-811.7325#a][#a(-2)][#a(+813.815600)]" 335 "335 ok 1 5 1 ?1 {C:a[#[|[a#b|c][]]s]b}N[#a(0)][-811.7325#a][#a(-2)][#a(813.815600)]"
    ∷ sample "[+78]-(?H[+1][y])K[GNO:RWCVZpY|-1.50][-0.5|RESID:vyc]U[Obs:-79.966331]" 1520 "1520 ok 3 6 0 ?2 [+78]-(?H[+1][y])K[GNO:RWCVZpY|-1.50][-0.5|RESID:vyc]U[Obs:-79.966331]"
    ∷ sample "N[c:\\]B[x:+847|ql/fH]-[obs:+000000000000000000000007889| {#[|]#|}b][G:x]" 2112 "2112 ok 2 4 0 ?3 N[C:\\]B[X:+847|ql/fH]-[Obs:+7889| {#[|]#|}b][G:x]"
    ∷ sample "[+924#b]-D[U:INFO#g1][#1]K[#1][+353264|M:Uu:1][+15.995|+78.98957#1|A][#g1]" 242 "242 ok 2 7 3 ?1 [+924#b]-D[U:INFO#g1][#1]K[#1][+353264|M:Uu:1][+15.995|+78.98957#1|A][#g1]"
    ∷ sample "[+3.698212#b(9938.6536)]?[#c(+16)]-N[#b][#b(5)][#b]C[-01.50][Obs:-0.5#c][#c(16)]" 1646 "1646 ok 2 8 2 ?1 [+3.698212#b(9938.6536)]?[#c(16)]-N[#b][#b(5)][#b]C[-1.50][Obs:-0.5#c][#c(16)]"
    ∷ sample "[+1]?n[-2.262503#a(191)][#a(-143977.9)](nu)[INFO:a[[]{#{p[|]{x}}[]}]b|INFO:V5](i)[M:a{#}b]uKFS" 2166 "2166 ok 8 5 3 ?1 [+1]?N[-2.262503#a(191)][#a(-143977.9)](NU)[INFO:a[[]{#{p[|]{x}}[]}]b|INFO:V5](I)[M:a{#}b]UKFS"
    ∷ sample "MX(G[G:Glu->pyro-Glu][INFO:%M|Obs:+2|INFO:::]F[INFO:\"|U| |-0.5])[Glycan|INFO :x|+194.752082][Obs:+19.87]" 1996 "1996 ok 4 5 2 ?3 MX(G[G:Glu->pyro-Glu][INFO:%M|Obs:+2|INFO:::]F[INFO:\"|U| |-0.5])[Glycan|INFO :x|+194.752082][Obs:+19.87]"
    ∷ sample "T(z[X:Acetyl|-2127][iNFo:Glu->pyro-Glu])[Obs:+79.966331][InFO:-x#XL1]nSyzqLhH(?Q)-[+3786|U :x|Obs:-86.617|-4]" 158 "158 ok 11 5 1 ?1 T(Z[X:Acetyl|-2127][INFO:Glu->pyro-Glu])[Obs:+79.966331][INFO:-x#XL1]NSYZQLHH(?Q)-[+3786|U :x|Obs:-86.617|-4]"
    ∷ sample "[-630947.960#g1(01.50)]?I[+76605#b(0.000000)|-382752]c[#g1][#g1(01.50)]c[C:formula][#b(2.0)][#g1(007)][-1.50]" 1402 "1402 ok 3 8 2 ?1 [-630947.960#g1(1.50)]?I[+76605#b(0.000000)|-382752]C[#g1][#g1(1.50)]C[C:formula][#b(2.0)][#g1(7)][-1.50]"
    ∷ sample "[+79.966331|-2#1|+0.5|INFO:a{[][{p[x]#|}]#|}#XL1]?V[-15.995][+1.50#lab0(+643)][X:-0.01]y[#lab0][#1]C[#lab0(1)]" 1589 "1589 ok 3 7 2 +65461331 [+79.966331|-2#1|+0.5|INFO:a{[][{p[x]#|}]#|}#XL1]?V[-15.995][+1.50#lab0(643)][X:-0.01]Y[#lab0][#1]C[#lab0(1)]"
    ∷ sample "" 771 "771 no 1 0"
    ∷ sample "" 884 "884 no 1 0"
    ∷ sample "" 433 "433 no 1 0"
    ∷ sample "" 1399 "1399 no 1 0"
    ∷ sample "A[a#" 146 "146 no 4 4"
    ∷ sample "A-[RESID:]" 131 "131 no 4 9"
    ∷ sample "_(OBS:+1?(" 2071 "2071 no 4 0"
    ∷ sample "{z}[U:1](?((" 545 "545 no 4 8"
    ∷ sample "[+1]^2?[(-0)" 1379 "1379 no 4 12"
    ∷ sample "[.{{INFO:x}R:C:]-A" 724 "724 no 4 15"
    ∷ sample "C(?DE[aX{q}[a#b|c]}b|mod:257])" 2391 "2391 no 4 18"
    ∷ sample "J(B[OBS:+0.000001][+9994.825]?{+37064.922085}J[Obs:+5250][XLmOd:693347|info:(0.5)#|XLMOD:15|INFO:U]Y" 353 "353 no 4 29"
    ∷ sample "A[x{#{{{{q}[p[p[[]{#[]s}]s]s]}}}{x}}|[#{|{[p[#[{q}[]#|]{x}]]{x}}}s]]" 2174 "2174 no 5 20"
    ∷ sample "H[a{[][|{[][{q}[p[p[#[#{}]s]#|][]]]#|}#|]}][#1][#1(0.000000)]-[xINFO:y#1(-07)]" 1314 "1314 no 5 23"
    ∷ sample "A-[D:[[{|{|[|{{q}{[{II}]{x}}[]}]s}}[]]]|{|[#{p[[[]{|[[|[a#b|c]]{x}]s}][]]}{x}]#|}]" 362 "362 no 5 19"
    ∷ sample "{x|y[[p{{{q}{p{|[[]{#{[|{p{#}s}s]{x}}}]#|}#|}s}s}s]s]|[p{{[]{{q}{[[][{q}{II}#|]s][]}[]}s}[]}]}A" 2033 "2033 no 5 21"
    ∷ sample "[INFO:{p[{{q}[p[[{{p{|{[]{{q}[]}#|}s}{x}}#|}]#|]]s}{x}]{x}}|[{q}{#[[{q}[[p[#[#]]]]][]][]}#|]]-A" 665 "665 no 5 20"
    ∷ sample "A[x#I5StVqrF8hXj1Xpur]C[#I5StVqrF8hXj1Xpur]" 725 "725 no 6 4"
    ∷ sample "A[x][UNIMOD|iNFO:a#XL1|+507182|U:+418913|-17402]C" 2114 "2114 no 6 41"
    ∷ sample "[x#N9CESEUdFUPLUuR5ug]?A[#N9CESEUdFUPLUuR5ug(0.5)]" 2163 "2163 no 6 3"
    ∷ sample "A[Obs:+412756.8145|MOD:936695|G:x|Obs:-0.01|+999999.999999]" 1079 "1079 no 6 44"
    ∷ sample "[+2.146421|INFO:M='72#a| [{q}{[[][]]}#|]|INFO:obs +1|Limit]?A" 487 "487 no 6 53"
    ∷ sample "[INFO:x]^0?A" 1111 "1111 no 7 9"
    ∷ sample "[C:+5|-0.0000000000000]-A" 2182 "2182 no 7 6"
    ∷ sample "(?VO[obS:-999999.9999990])" 1885 "1885 no 7 9"
    ∷ sample "G[+0000000000000000000000000000001234567|r:\\]GH" 827 "827 no 7 2"
    ∷ sample "W[r:Phospho|U:j][-16]K[+0](F[M:+0000000000000000000000000000001234567|xlmod:48])[INFO:formula|XLMOD:1039]" 1900 "1900 no 7 31"
    ∷ sample "{MODx:1|U:+2}M[+0.000000#xL(37457)](?ZJ[RESID:Jp1]G)" 394 "394 no 8 15"
    ∷ sample "[Obs:+78.99|INFO:~|comkp]^001?(H[Formula:a#a])[Info::#|INfO:Uu:1]" 2299 "2299 no 8 19"
    ∷ sample "V[#X(0000000000000000000000000000000000758)][comup][$v#X]-[InfO:UNIMOD#a][#X(0.5)]" 181 "181 no 8 45"
    ∷ sample "(F[Formula:UNIMOD#]W[-1.50|m:4277|g:[a|b#c]|xlmod:7732]C[-0.01|OBS:-9])[half cystine][CoMUP]" 2363 "2363 no 8 3"
    ∷ sample "[C:-9.650865#a]?[#s1(0.01)]-X[#s1][#a]S[+881.862134|G:6#s1(228.527)][#a]-[info:{x[#]y}#XL1|PoSitION:.]" 155 "155 no 8 91"
    ∷ sample "[U:3]?YI[C:4999]" 1522 "1522 no 9 1"
    ∷ sample "[INFO:q?#|U:19724|info:::]?XU" 1396 "1396 no 9 10"
    ∷ sample "[-1.50|M:8][INFO:Uu:1]-G(H[U:27])[u:3]" 707 "707 no 9 7"
    ∷ sample "(?GO)-[Obs:+0.01|m:71][INFO: [[]{[]{[II][]}}]b]" 1292 "1292 no 9 17"
    ∷ sample "{ [#{#{#}s}]b}D[M:7029#b(+5)][#b][#b(084769)][#b][R:1334#X][#X(+84)]" 1359 "1359 no 9 16"
    ∷ sample "[INFO:i][INFO:i]?C[x]" 829 "829 no 10 0"
    ∷ sample "[INFO:\\]?P[g:Comk]V[v<Mjn]" 634 "634 no 10 0"
    ∷ sample "[+3]^2?[INFO:z]^1?(C)[+1#a(0.5)]" 838 "838 no 10 7"
    ∷ sample "{INFO:Ps4}[+33|INFO:35|ObS:-1|UNIMOD:0473]-(?CY)D[INFO:{}|>]YE" 1837 "1837 no 10 0"
    ∷ sample "[+1.50|m:INFO :x][InfO:a\"b\\c][+5]?[+01.50#1]-(?B[#b(01.50)][#1][#1(4127)])U[-15.995][X:-099#b][#b(-83718)]" 1178 "1178 no 10 17"
    ∷ sample "[x#a]?[x#a]?[UNIMOD:3#a(0.5)]?D" 862 "862 no 11 0"
    ∷ sample "{x}D[#A(1)][#A]C(DE)[x#A][UNIMOD:3#A(0.5)]" 1368 "1368 no 11 25"
    ∷ sample "[Obs:+2#A(0.5)][+1#A(0.5)]?A[x#A|y#a][+3](DE)[+3]" 1790 "1790 no 11 0"
    ∷ sample "[UNIMOD:3#b]?[x#c|y#c]^2?[+1#a]^2?(D[INFO:z])[+1#b(0.5)]C(?D[#b][x#b|y#a])" 2123 "2123 no 11 13"
    ∷ sample "[C: #a]?B[#b][INFO:A|-1.50|\\][Comk#b][RESID:eoP6#g1|MOD:62080]D[#b][#g1]-[GNo:VmD]" 1148 "1148 no 11 0"
    ∷ sample "[+1]^4[+1]^3?(E)[+1]QAQGDPFGVD(CIB)[+1]" 906 "906 no 12 35"
    ∷ sample "[x]^4[x]^4?A[+3#l2]HJCZAO(UO)[+1]E[#l2]" 1683 "1683 no 12 12"
    ∷ sample "[x]^3[+1]^1[x]^2[+2|y]?(ZD)[+1]QGZXK[+3#l6]W[#l6]" 2003 "2003 no 12 36"
    ∷ sample "[+3#l8][+1]^4[x]^2?H[+3#l3]FQZNMNBJTKR(GS)[+1]C[#l8]T[#l8]U[#l3]" 559 "559 no 12 42"
    ∷ sample "[C:0]^8?(Q[UnImOd:440]B[INFO:)vVY|info:Phospho#])[+5]-[INFO: {[]{#}s}b]" 2324 "2324 no 12 49"
    ∷ []

-- lines that tell a wrong reading of a single clause apart: `^1` is a count; a second label defines too; a labelled rule, and a rule's long name, are
-- not here; a long text is refused at its part; 10 asks every part; a score's place is behind its `(`
abbrev apart : List Sample
apart =
    sample "[+1#a]^1?A[#a]" 1 "1 no 11 0"
    ∷ sample "C[#b]A[+1#a|x#b]" 2 "2 no 11 6"
    ∷ sample "A[CoMKP#a]" 3 "3 no 8 2"
    ∷ sample "A[ColocaliseModificationsOfKnownPosition]" 4 "4 no 8 2"
    ∷ sample "A[INFO:xxxxxxxxxxxxxxxxxxxxxxxxxxxxxxxxxxxxxxxxxxxxxxxxxxxxxxxxxxxxxxxxxxxxxxxxxxxxxxxxxxxxxxxxxxxxxxxxxxxxxxxxxxxxxxxxxxxxxxxxxxxxxxxxx]" 5 "5 no 6 2"
    ∷ sample "[INFO:x|+1]?A" 6 "6 ok 1 1 1 +1000000 [INFO:x|+1]?A"
    ∷ sample "A[x#a(1000000)]" 7 "7 no 7 6"
    ∷ []

pub printed_alike : all agrees (samples ++ apart) ≡ true
unfolding upper same_folded same spell keys key_among key_of written digit_step number_end text_step part_end value_end text_end colon_after inner_step element further group_first in_group undecided counted referred act on_last place_step places_end perform resume step run reading all keep flat among copies least refusal1 refusal2 unprintable refusal3 too_deep refusal5 refusal6 refusal7 refusal8 is_rule_name refusal9 refusal10 refusal21 shared wrongly_labelled refusal11 passing refusal12 refusal19 kept first_due outcome decimal_up_to decimal last_digits decimals size part_text parts_text places_text sequence_text chain_text canonical tables_of part_rows score_of rows bytes_of numbers_of tabled part_in bracket_in tables_in member sites reached is_placed placed_on struck_out floaters copies_from referred_at may_stand permitted rows_from rows_of first_row distinct fits ascends allowed less choices placements first_placement next_placement first_mass mass_of sum total sumℕ lacking placed_at put_at ledger labile_mass same_numbers are_tables fields printed
printed_alike = refl

abbrev site : ℕ → ℕ → Site
site f x = record { floater = f; position = x }

abbrev placed : List ℕ → List ℕ
placed p = padded 0 copy_limit p

abbrev minus : ℕ → ℤ
minus m = neg_ℤ (pos m)

abbrev of : {A : Type 0} → Outcome → (Line ℕ → A) → Option A
of (accepted l) f = some (f l)
of (refused number place) f = none

abbrev placements_in : Line ℕ → List (List ℕ)
placements_in l = placements (floating_of l)

-- up to the C-terminus, under the first placement
abbrev ledger_in : Line ℕ → List ℤ
ledger_in l = take (length l.residues + 2) (given (first_placement (floating_of l)) (ledger l) [])

-- the areas that a line is read to hold its tables, and are accepted as tables
abbrev is_read : Line ℕ → Bool
is_read l = are_tables (bytes_of l) (numbers_of l)

pub placed_alike :
    (of (outcome (bytes "[+3]^1?A[INFO:z]")) rows_of ≡ some (site 1 1 ∷ []))
    × (of (outcome (bytes "[+3]^1?A[INFO:z]")) placements_in ≡ some (placed (1 ∷ []) ∷ []))
    × (of (outcome (bytes "[+3]^1?A[INFO:z]")) ledger_in ≡ some (pos 0 ∷ pos 3000000 ∷ pos 0 ∷ []))
    × (of (outcome (bytes "[+3]^1?A[INFO:z]")) is_read ≡ some true)
    × (of (outcome (bytes "[-1.50#1]?FH[#1]g")) rows_of ≡ some (site 1 2 ∷ []))
    × (of (outcome (bytes "[-1.50#1]?FH[#1]g")) placements_in ≡ some (placed (2 ∷ []) ∷ []))
    × (of (outcome (bytes "[-1.50#1]?FH[#1]g")) ledger_in ≡ some (pos 0 ∷ pos 0 ∷ minus 1500000 ∷ pos 0 ∷ pos 0 ∷ []))
    × (of (outcome (bytes "[-1.50#1]?FH[#1]g")) is_read ≡ some true)
    × (of (outcome (bytes "[Obs:+2#a]-CA[INFO:z]")) rows_of ≡ some (site 1 0 ∷ []))
    × (of (outcome (bytes "[Obs:+2#a]-CA[INFO:z]")) placements_in ≡ some (placed (0 ∷ []) ∷ []))
    × (of (outcome (bytes "[Obs:+2#a]-CA[INFO:z]")) lacking ≡ some 1)
    × (of (outcome (bytes "[Obs:+2#a]-CA[INFO:z]")) is_read ≡ some true)
    × (of (outcome (bytes "[GNO:LLp3k|+5506]?shQML")) rows_of ≡ some (site 1 1 ∷ site 1 2 ∷ site 1 3 ∷ site 1 4 ∷ site 1 5 ∷ []))
    × (of (outcome (bytes "[GNO:LLp3k|+5506]?shQML")) placements_in ≡ some (placed (1 ∷ []) ∷ placed (2 ∷ []) ∷ placed (3 ∷ []) ∷ placed (4 ∷ []) ∷ placed (5 ∷ []) ∷ []))
    × (of (outcome (bytes "[GNO:LLp3k|+5506]?shQML")) ledger_in ≡ some (pos 0 ∷ pos 5506000000 ∷ pos 0 ∷ pos 0 ∷ pos 0 ∷ pos 0 ∷ pos 0 ∷ []))
    × (of (outcome (bytes "[GNO:LLp3k|+5506]?shQML")) is_read ≡ some true)
    × (of (outcome (bytes "[-95|RESID:T]?(W)[-0.5]")) rows_of ≡ some (site 1 1 ∷ site 2 1 ∷ []))
    × (of (outcome (bytes "[-95|RESID:T]?(W)[-0.5]")) placements_in ≡ some ([]))
    × (of (outcome (bytes "[-95|RESID:T]?(W)[-0.5]")) is_read ≡ some true)
    × (of (outcome (bytes "(?A)C[#a(1)]D[Obs:+2#a]C")) rows_of ≡ some (site 1 2 ∷ site 1 3 ∷ []))
    × (of (outcome (bytes "(?A)C[#a(1)]D[Obs:+2#a]C")) placements_in ≡ some (placed (2 ∷ []) ∷ placed (3 ∷ []) ∷ []))
    × (of (outcome (bytes "(?A)C[#a(1)]D[Obs:+2#a]C")) lacking ≡ some 1)
    × (of (outcome (bytes "(?A)C[#a(1)]D[Obs:+2#a]C")) is_read ≡ some true)
    × (of (outcome (bytes "R[-1.700#c](S[#c(2)])[INFO:y]")) rows_of ≡ some (site 1 1 ∷ site 1 2 ∷ []))
    × (of (outcome (bytes "R[-1.700#c](S[#c(2)])[INFO:y]")) placements_in ≡ some (placed (1 ∷ []) ∷ placed (2 ∷ []) ∷ []))
    × (of (outcome (bytes "R[-1.700#c](S[#c(2)])[INFO:y]")) ledger_in ≡ some (pos 0 ∷ minus 1700000 ∷ pos 0 ∷ pos 0 ∷ []))
    × (of (outcome (bytes "R[-1.700#c](S[#c(2)])[INFO:y]")) is_read ≡ some true)
    × (of (outcome (bytes "[+1#L0]?C[#L0](Y[#L0]Z)[+9][+9]FL")) rows_of ≡ some (site 1 1 ∷ site 1 2 ∷ site 2 2 ∷ site 2 3 ∷ site 3 2 ∷ site 3 3 ∷ []))
    × (of (outcome (bytes "[+1#L0]?C[#L0](Y[#L0]Z)[+9][+9]FL")) placements_in ≡ some (placed (1 ∷ 2 ∷ 3 ∷ []) ∷ placed (1 ∷ 3 ∷ 2 ∷ []) ∷ []))
    × (of (outcome (bytes "[+1#L0]?C[#L0](Y[#L0]Z)[+9][+9]FL")) ledger_in ≡ some (pos 0 ∷ pos 1000000 ∷ pos 9000000 ∷ pos 9000000 ∷ pos 0 ∷ pos 0 ∷ pos 0 ∷ []))
    × (of (outcome (bytes "[+1#L0]?C[#L0](Y[#L0]Z)[+9][+9]FL")) is_read ≡ some true)
    × (of (outcome (bytes "Iz[+1.50#X(-0.01)][#X(671138)]w[#X]")) rows_of ≡ some (site 1 2 ∷ site 1 3 ∷ []))
    × (of (outcome (bytes "Iz[+1.50#X(-0.01)][#X(671138)]w[#X]")) placements_in ≡ some (placed (2 ∷ []) ∷ placed (3 ∷ []) ∷ []))
    × (of (outcome (bytes "Iz[+1.50#X(-0.01)][#X(671138)]w[#X]")) ledger_in ≡ some (pos 0 ∷ pos 0 ∷ pos 1500000 ∷ pos 0 ∷ pos 0 ∷ []))
    × (of (outcome (bytes "Iz[+1.50#X(-0.01)][#X(671138)]w[#X]")) is_read ≡ some true)
    × (of (outcome (bytes "[-2]^3?F[UNIMOD:90724][INFO:Glu->pyro-Glu##]")) rows_of ≡ some ([]))
    × (of (outcome (bytes "[-2]^3?F[UNIMOD:90724][INFO:Glu->pyro-Glu##]")) placements_in ≡ some ([]))
    × (of (outcome (bytes "(A[#g1(+771.7742)]U[INFO:a^2|G:::][#g1][R:493#g1])[-1]")) rows_of ≡ some (site 1 1 ∷ site 2 1 ∷ []))
    × (of (outcome (bytes "(A[#g1(+771.7742)]U[INFO:a^2|G:::][#g1][R:493#g1])[-1]")) placements_in ≡ some ([]))
unfolding upper same_folded same spell keys key_among key_of written digit_step number_end text_step part_end value_end text_end colon_after inner_step element further group_first in_group undecided counted referred act on_last place_step places_end perform resume step run reading all keep flat among copies least refusal1 refusal2 unprintable refusal3 too_deep refusal5 refusal6 refusal7 refusal8 is_rule_name refusal9 refusal10 refusal21 shared wrongly_labelled refusal11 passing refusal12 refusal19 kept first_due outcome decimal_up_to decimal last_digits decimals size part_text parts_text places_text sequence_text chain_text canonical tables_of part_rows score_of rows bytes_of numbers_of tabled part_in bracket_in tables_in member sites reached is_placed placed_on struck_out floaters copies_from referred_at may_stand permitted rows_from rows_of first_row distinct fits ascends allowed less choices placements first_placement next_placement first_mass mass_of sum total sumℕ lacking placed_at put_at ledger labile_mass same_numbers are_tables fields printed
placed_alike = (refl, refl, refl, refl, refl, refl, refl, refl, refl, refl, refl, refl, refl, refl, refl, refl, refl, refl, refl, refl, refl, refl, refl, refl, refl, refl, refl, refl, refl, refl, refl, refl, refl, refl, refl, refl, refl, refl, refl)
