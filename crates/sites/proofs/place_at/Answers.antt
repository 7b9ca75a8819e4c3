-- The line is over, or no letter; a letter by itself; the word of a terminus.
use borrow.Author.Rules.{rules}
use mathlib.Core.Path.{sym, ◌∙◌}
use Rattle.sites.proofs.Termini.{found_none, found_some}
use Rattle.sites.proofs.Lists.{place_over, place_not, letter_reads, word_inside, word_says}
use Rattle.sites.proofs.place_at.Goals as goal
use Rattle.sites.proofs.place_at.Goals.{then-at-line-via-then-at-line, then-at-line-via-else-at-line+then-not-is_letter}

pub returns-then-at-line : goal.returns-then-at-line
returns-then-at-line c =
    elim c.then-at-line.branch [
      | then-at-line-via-then-at-line w ↦ place_over _ _ w.if-at-line.true
      | then-at-line-via-else-at-line+then-not-is_letter w ↦ place_not _ _ (search rules) (sym w.is_letter.ensures ∙ w.if-not-is_letter.true)
    ]

pub returns-in-None : goal.returns-in-None
returns-in-None c =
    letter_reads _ _ (search rules) (sym c.is_letter.ensures ∙ c.if-not-is_letter.false) (found_none _ _ (sym c.terminus_at.ensures ∙ c.in-None.is))

pub word_at-requires : goal.word_at-requires
word_at-requires c =
    word_inside _ _ (search rules) (sym c.is_letter.ensures ∙ c.if-not-is_letter.false) (found_some _ _ _ (sym c.terminus_at.ensures ∙ c.in-Some.is)).1

pub returns-in-Some : goal.returns-in-Some
returns-in-Some c =
    word_says _ _ (search rules) (sym c.is_letter.ensures ∙ c.if-not-is_letter.false) (found_some _ _ _ (sym c.terminus_at.ensures ∙ c.in-Some.is)).1 _ c.word_at.ensures
