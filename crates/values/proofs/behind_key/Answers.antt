-- What stands behind a key: one law for each form.
use native.Mathlib.Omega.{arith}
use mathlib.Core.Path.{refl, sym, ap, ◌∙◌}
use Rattle.scope.specs.Bytes.{is_digit, is_alnum}
use Rattle.scope.specs.Keys.{free, composed, hash_is_plain, accession_byte}
use Rattle.scope.specs.Content.{behind_key}
use Rattle.values.specs.declared.Form.TheVariants.{MassOrName, MassOnly, Digits, Alnums, Free, Composed}
use Rattle.values.proofs.Depths.{digit_quiet, alnum_quiet, none_deep}
use Rattle.values.proofs.Through.{run_after, run_upto, run_inside}
use Rattle.values.proofs.Begins.{form_is, key_signed, key_unsigned, key_mass, key_name, key_nothing, key_text, key_code_lem}
use Rattle.values.proofs.behind_key.Goals as goal

pub mass_at-requires : goal.mass_at-requires
mass_at-requires c = key_signed c.args.line.now c.args.from c.form_of-form.result _ c.mass_behind.ensures c.if-mass_behind.true

pub returns-then-mass_behind : goal.returns-then-mass_behind
returns-then-mass_behind c =
    λ at w. key_mass _ at _ _ _ c.form_of-form.ensures (sym c.mass_behind.ensures ∙ c.if-mass_behind.true) _ (c.mass_at.ensures at (omega arith))

pub returns-in-MassOrName : goal.returns-in-MassOrName
returns-in-MassOrName c =
    λ at w.
    let f = form_is c.args.key _ MassOrName c.form_of-form.ensures c.in-MassOrName.is in
    key_name c.args.line.now at c.args.key c.args.from f
    (key_unsigned c.args.line.now c.args.from _ _ _ c.in-MassOrName.is refl c.mass_behind.ensures c.if-mass_behind.false) _
    (c.text_from.ensures at (ap hash_is_plain f) w (omega arith))

pub returns-in-MassOnly : goal.returns-in-MassOnly
returns-in-MassOnly c =
    λ at w.
    key_nothing c.args.line.now at c.args.key c.args.from (form_is c.args.key _ MassOnly c.form_of-form.ensures c.in-MassOnly.is)
    (key_unsigned c.args.line.now c.args.from _ _ _ c.in-MassOnly.is refl c.mass_behind.ensures c.if-mass_behind.false) c.requires

pub returns-in-Digits : goal.returns-in-Digits
returns-in-Digits c =
    λ at w.
    let f = form_is c.args.key _ Digits c.form_of-form.ensures c.in-Digits.is in
    let e = c.digit_end.ensures in
    key_code_lem c.args.line.now at c.args.key c.args.from _ is_digit (λ b. ap (λ x. accession_byte x b) f) (λ x. ap (behind_key x at c.args.key) f) e _
    (c.text_of.ensures c.args.line.now at w (run_after is_digit _ _ _ e) (run_inside is_digit _ _ _ e c.requires) (none_deep is_digit digit_quiet _ _ _ (run_upto is_digit _ _ _ e)))

pub returns-in-Alnums : goal.returns-in-Alnums
returns-in-Alnums c =
    λ at w.
    let f = form_is c.args.key _ Alnums c.form_of-form.ensures c.in-Alnums.is in
    let e = c.alnum_end.ensures in
    key_code_lem c.args.line.now at c.args.key c.args.from _ is_alnum (λ b. ap (λ x. accession_byte x b) f) (λ x. ap (behind_key x at c.args.key) f) e _
    (c.text_of-in-Alnums.ensures c.args.line.now at w (run_after is_alnum _ _ _ e) (run_inside is_alnum _ _ _ e c.requires) (none_deep is_alnum alnum_quiet _ _ _ (run_upto is_alnum _ _ _ e)))

pub returns-in-Free : goal.returns-in-Free
returns-in-Free c =
    λ at w.
    let f = form_is c.args.key _ Free c.form_of-form.ensures c.in-Free.is in
    key_text c.args.line.now at c.args.key c.args.from free f (λ x. refl) _ (c.text_from-in-Free.ensures at (ap hash_is_plain f) w (omega arith))

pub returns-in-Composed : goal.returns-in-Composed
returns-in-Composed c =
    λ at w.
    let f = form_is c.args.key _ Composed c.form_of-form.ensures c.in-Composed.is in
    key_text c.args.line.now at c.args.key c.args.from composed f (λ x. refl) _ (c.text_from-in-Composed.ensures at (ap hash_is_plain f) w (omega arith))
