-- What a letter does behind a residue by itself.
use Rattle.std.specs.Prelude.{◌≡◌, refl, true, ℕ, eqb}
use Rattle.std.proofs.Common.{sym}
use Rattle.basics.specs.Choice.{took, passed}
use Rattle.basics.specs.Tests.{letter_not}
use Rattle.scope.specs.declared.grammar.Section.TheVariants.{Plain}
use Rattle.scope.specs.declared.grammar.Mode.TheVariants.{Single}
use Rattle.scope.specs.declared.grammar.Act.TheVariants.{Residue as a_residue}
use Rattle.scope.specs.Bytes.{is_letter, open_square, dash}
use Rattle.scope.specs.Reading.{element, further, act}

-- it is one more of them
pub single_letter : (b : ℕ) → is_letter b ≡ true → act Single b ≡ a_residue Plain Single
unfolding act further element
single_letter b h = sym (passed (eqb b open_square) _ _ _ (letter_not b open_square h refl) (passed (eqb b dash) _ _ _ (letter_not b dash h refl) (took (is_letter b) _ _ h)))
