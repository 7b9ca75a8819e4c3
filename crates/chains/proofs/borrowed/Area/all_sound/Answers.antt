-- `chains::Area::all_sound` meets its contract: block by block. Assumes nothing.
use Rattle.std.proofs.Common.{refl, ap, ◌∙◌, ◌-◌, arith, rules, tests}
use Rattle.std.proofs.lemmas.Iterator.{YieldsList-from_range}
use Rattle.std.proofs.lemmas.Iterator.Search.{all_from_yields_List}
use Rattle.scope.specs.Lists.{all, tabled}
use Rattle.blocks.specs.Area.{sound_at, all_sound}
use Rattle.chains.specs.Nexts.{all_ranged}
use Rattle.chains.proofs.borrowed.Area.all_sound.Goals as goal

pub returns : goal.returns
unfolding all_sound
returns c =
    let area = c.args.self.now in
    let test = sound_at area.bytes.now in
    all_from_yields_List test _ _ _ c.all.ensures.ran (YieldsList-from_range 0 area.blocks _ refl refl) (λ x b q k. search (rules, tests))
    ∙ all_ranged test 0 (area.blocks - 0) ∙ ap (λ m. all test (tabled (λ b. b) 0 m)) (omega (arith, area.whole.many))
