-- The reader accepts exactly the lines that a good spelling prints, and reads them to what it means.
use Rattle.std.specs.Prelude.{ℕ, ◌≡◌, refl, true, List}
use Rattle.std.proofs.Common.{sym, ap, ◌∙◌}
use Rattle.std.proofs.Math.Option.{Option, none, some, none-ne-some}
use Rattle.scope.specs.Line.{Line}
use Rattle.scope.specs.Reading.{holds, reading, start}
use Rattle.scope.specs.Lists.{optional, there?}
use Rattle.scope.specs.Tables.{tables_of}
use Rattle.reading_laws.proofs.Run.{tables_read, told, tables_run}
use Rattle.reading_laws.proofs.Unnoted.{line_run, run_line}
use Rattle.scope.specs.Grammar.{means}
use Rattle.grammar_laws.proofs.Bare.{Place}
use Rattle.grammar_laws.proofs.Written.{line_read}
use Rattle.grammar_laws.proofs.Parsed.{accepted_spelt}
use Rattle.grammar_laws.specs.Laws.{SpeltLine}

pub holds_same : (l m : Line ℕ) → holds l ≡ holds m → l ≡ m
holds_same l m e = cc

-- what the reader tells, in tables
told_tables : (s : List ℕ) → tables_read (reading s) ≡ optional tables_of (told (line_run start s))
told_tables s = tables_run s ∙ ap (λ z. optional tables_of (told z)) (run_line 0 start s)

pub spelt_read : (s : List ℕ) (l : Line ℕ) → SpeltLine s l → reading s ≡ holds l
spelt_read s l w = ap reading w.prints ∙ line_read w.tree w.fine ∙ ap holds (sym w.says)

pub read_spelt : (s : List ℕ) (l : Line ℕ) → reading s ≡ holds l → SpeltLine s l
read_spelt s l e =
    let x = accepted_spelt s (is_there (told (line_run start s)) (sym (told_tables s) ∙ ap tables_read e)) in
    record { tree = x.tree; fine = x.fine; prints = x.prints; says = holds_same l (means x.tree) (sym e ∙ ap reading x.prints ∙ line_read x.tree x.fine) }
  where
    is_there : (o : Option (Line Place)) → optional tables_of o ≡ some (tables_of l) → there? o ≡ true
    is_there none e = absurd (none-ne-some (tables_of l) e)
    is_there (some l) e = refl
