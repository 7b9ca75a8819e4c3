-- What a part has as its value, by the code in the tables.
use Rattle.std.specs.Prelude.{ℕ, cond, eqb}
use Rattle.scope.specs.Layout.{mass_code, text_code, composition_code}
use Rattle.brackets.specs.declared.Content.{Content}
use Rattle.brackets.specs.declared.Content.TheVariants.{Mass, Text, Reference, Composition}

-- what a code says; every other code is a reference
abbrev pub content_in : ℕ → Content
content_in v = cond (eqb v mass_code) Mass (cond (eqb v text_code) Text (cond (eqb v composition_code) Composition Reference))
