use mathlib.Core.Path.{◌≡◌, ap, ◌∙◌}
use native.Mathlib.Omega.{arith}
use Rattle.scope.specs.Places.{site_text, places_text}
use Rattle.scope.specs.Lists.{tabled}
use Rattle.scope.specs.Layout.{place_in, site_field}
use Rattle.figures.proofs.Storing.{puts_none, puts_of, puts_within, puts_join}
use Rattle.writer.proofs.RankLaws.{no_places, places_more}
use Rattle.scope.specs.Bytes.{comma}
use Rattle.writer.proofs.PartTexts.{next_split}
use Rattle.writer.proofs.put_places.Goals as goal

pub loop-j-init : goal.loop-j-init
loop-j-init c = puts_of (no_places _) (puts_none _ _)

pub put_split-e-requires : goal.put_split-e-requires
put_split-e-requires c = omega (arith, c.places-j-end.ensures.0, c.requires.1)

pub site-requires : goal.site-requires
site-requires c = (c.requires.0, omega (arith, c.places-j-end.ensures.0, c.requires.1))

pub put_site-a-requires : goal.put_site-a-requires
put_site-a-requires c = omega (arith, c.places-j-end.ensures.0, c.requires.1, c.put_split-e.ensures.near)

pub loop-j-preserved : goal.loop-j-preserved
loop-j-preserved c =
    puts_of (places_more _ _) (puts_within (omega arith) (puts_join c.loop-j.invariant (puts_of (next_split comma c.loop-j.j (site_text (site_field c.args.bytes.now c.args.k c.loop-j.j))) (puts_join c.put_split-e.ensures (rw c.site.ensures at c.put_site-a.ensures)))))

pub returns : goal.returns
returns c =
    let l = c.loop-j in
    let a = c.args in
    let many = c.places-j-end.ensures.0 in
    let all : l.j ≡ c.places-j-end.result = omega arith in
    puts_of (ap (λ c. places_text (tabled (place_in a.bytes.now a.k) 0 c)) (all ∙ many)) (puts_within (omega (arith, many, c.requires.1)) l.invariant)
