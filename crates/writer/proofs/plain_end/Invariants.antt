-- The residues from p up to i stand by themselves. Assumes nothing.
use Rattle.std.proofs.Common.{◌≡◌, ℕ, ◌<◌, ◌≤◌}
use Rattle.scope.specs.declared.grammar.Section.TheVariants.{Plain}
use Rattle.scope.specs.Layout.{section_code, section_field}
use Rattle.writer.proofs.plain_end.Given as goal

abbrev pub invariant-loop-i : goal.invariant-loop-i
invariant-loop-i l = (k : ℕ) → l.p ≤ k → k < l.i → section_field l.bytes k ≡ section_code Plain
