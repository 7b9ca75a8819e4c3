-- "`{}` holds no label", nor does the bracket of a declaration: what this says of a bracket. CurlyLaws of proofs/: it holds of a line that is read.
use Rattle.std.specs.Prelude.{◌≡◌, true, false}
use Rattle.scope.specs.Line.{Bracket}
use Rattle.scope.specs.Modifications.{is_labelled}
use Rattle.mass_laws.specs.Terms.{labelless}

abbrev pub Unlabelled : {P : Type 0} → Bracket P → Type 0
Unlabelled k = labelless k.kind ≡ true → is_labelled k ≡ false
