-- Worked examples of texts, by computation.
use Rattle.std.specs.Prelude.{◌≡◌, refl, true, false, []}
use Rattle.std.proofs.Math.Option.{none, some}
use Rattle.scope.specs.Bytes.{bytes}
use Rattle.scope.specs.Content.{text_step}
use Rattle.scope.specs.Refusals.{least, too_deep}
use Rattle.std.specs.Prelude.{Some, None}
use Rattle.texts.specs.Texts.{ends, stuck, scan_text, told, ended, scan_deep, deeper}

table :
    (scan_text false [] (bytes "Cation:Mg[II]]") 0 ≡ ends 13)
    × (scan_text false [] (bytes "x]y]") 0 ≡ ends 1)
    × (scan_text false [] (bytes "a{b]c}]") 0 ≡ stuck 3)
    × (scan_text false [] (bytes "a[b|c#d]|e") 0 ≡ ends 8)
    × (scan_text false [] (bytes "a#b]") 0 ≡ ends 1)
    × (scan_text true [] (bytes "a#b]") 0 ≡ ends 3)
    × (scan_text false [] (bytes "a[[") 0 ≡ stuck 3)
    × (scan_text false [] (bytes "") 7 ≡ ends 7)
    × (least (too_deep 0 5 (bytes "[[[[[[[[]]]]]]]]")) ≡ none)
    × (least (too_deep 0 5 (bytes "[[[[[[[[{}]]]]]]]][]")) ≡ some 13)
    × (told (bytes "a[[[[[[[[{}]]]]]]]][b]") 0 (scan_text false [] (bytes "a[[[[[[[[{}]]]]]]]][b]") 0) ≡ ended 22 (Some 9))
    × (scan_deep false [] (bytes "a[[[[[[[[{}]]]]]]]][b]") 0 None ≡ ended 22 (Some 9))
    × (scan_deep false [] (bytes "a[[[[[[[[]]]]]]]]{}") 0 None ≡ ended 19 None)
unfolding scan_text scan_deep text_step least too_deep deeper
table = (refl, refl, refl, refl, refl, refl, refl, refl, refl, refl, refl, refl, refl)
