use mathlib.Core.Path.{◌≡◌, ap, ◌∙◌}
use native.Mathlib.Omega.{arith}
use Rattle.scope.specs.Canonical.{part_text, parts_text}
use Rattle.scope.specs.Lists.{tabled}
use Rattle.scope.specs.Layout.{part_in}
use Rattle.figures.proofs.Storing.{puts_none, puts_of, puts_within, puts_join}
use Rattle.writer.proofs.RankLaws.{no_parts_lem, parts_more, part_here}
use Rattle.scope.specs.Bytes.{bar}
use Rattle.writer.proofs.PartTexts.{next_split}
use Rattle.writer.proofs.put_parts.Goals as goal

pub loop-j-init : goal.loop-j-init
loop-j-init c = puts_of (no_parts_lem _) (puts_none _ _)

pub put_split-e-requires : goal.put_split-e-requires
put_split-e-requires c = omega (arith, c.parts-j-end.ensures.0)

pub put_part-a-requires : goal.put_part-a-requires
put_part-a-requires c =
    let many = c.parts-j-end.ensures.0 in
    (part_here _ _ _ _ c.requires.0 (rw many at c.loop-j-test.true), omega (arith, many, c.put_split-e.ensures.near))

pub loop-j-preserved : goal.loop-j-preserved
loop-j-preserved c =
    puts_of (parts_more _ _) (puts_within (omega arith) (puts_join c.loop-j.invariant (puts_of (next_split bar c.loop-j.j (part_text (part_in c.args.bytes.now c.args.numbers.now c.args.k c.loop-j.j))) (puts_join c.put_split-e.ensures c.put_part-a.ensures))))

pub returns : goal.returns
returns c =
    let l = c.loop-j in
    let a = c.args in
    let many = c.parts-j-end.ensures.0 in
    let all : l.j ≡ c.parts-j-end.result = omega arith in
    puts_of (ap (λ c. parts_text (tabled (part_in a.bytes.now a.numbers.now a.k) 0 c)) (all ∙ many)) (puts_within (omega (arith, many)) l.invariant)
