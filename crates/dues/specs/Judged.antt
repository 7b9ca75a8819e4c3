-- A line that reads to its end is judged by its lowest code.
use Rattle.std.specs.Prelude.{◌≡◌, ◌++◌, ℕ, ◌<◌, ◌≤◌}
use Rattle.std.proofs.Common.{ap, ◌∙◌, arith}
use Rattle.scope.specs.Kept.{kept}
use Rattle.scope.specs.Line.{Line}
use Rattle.scope.specs.Reading.{holds}
use Rattle.scope.specs.Refusals.{accepted, line_refusals, judged}
use Rattle.basics.specs.Each.{Each, each_front, each_back}
use Rattle.dues.specs.Ranks.{code, lowest, no_code, decoded}
use Rattle.dues.specs.First.{Fits, first_due_lem, lowest_from_rank}
use Rattle.dues.specs.Lines.{info_rank, met_dues, bracket_dues, uncut_dues, met_codes, ruled_codes}
use Rattle.dues.specs.Met.{lowest_two, ruled_alone, met}

pub by_codes : (l : Line ℕ) → Each Fits (line_refusals l)
    → decoded (line_refusals l) (lowest (no_code (line_refusals l)) (met_codes l.residues l.brackets ++ ruled_codes l.brackets)) (accepted (kept l)) ≡ judged (holds l)
by_codes l h =
    ap (λ c. decoded (line_refusals l) c (accepted (kept l))) (met (no_code (line_refusals l)) l)
    ∙ first_due_lem (line_refusals l) h (accepted (kept l))

-- 10, 21, 11 and 12 have no code below their ranks
ruled_from : (l : Line ℕ) → Each Fits (line_refusals l) → code info_rank 0 ≤ lowest (no_code (line_refusals l)) (ruled_codes l.brackets)
ruled_from l h =
    let n = no_code (line_refusals l) in
    let behind = each_back Fits (met_dues l) (bracket_dues l ++ uncut_dues l) h in
    let low = lowest_from_rank (bracket_dues l) info_rank n (each_front Fits (bracket_dues l) (uncut_dues l) behind) (omega arith) in
    omega (arith, ruled_alone n l, low)

-- where one of 5 to 9 is met, what is met is the first due: the others have higher ranks
pub met_first : (l : Line ℕ) → Each Fits (line_refusals l)
    → lowest (no_code (line_refusals l)) (met_codes l.residues l.brackets) < code info_rank 0
    → lowest (no_code (line_refusals l)) (met_codes l.residues l.brackets ++ ruled_codes l.brackets) ≡ lowest (no_code (line_refusals l)) (met_codes l.residues l.brackets)
met_first l h q =
    let n = no_code (line_refusals l) in
    omega (arith, q, ruled_from l h, lowest_two n (met_codes l.residues l.brackets) (ruled_codes l.brackets))
