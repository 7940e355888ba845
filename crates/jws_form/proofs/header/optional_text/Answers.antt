use Rattle.std.proofs.Common.{Some, sym, ap, ◌∙◌, subst}
use Rattle.std.specs.Option.{option_copied}
use Rattle.std.specs.Str.{IsUtf8}
use Rattle.fed_json.proofs.Accessors.{IsUtf8-find}
use Rattle.jws_form.proofs.header.optional_text.Goals as goal

pub returns-in-Some-Text-clause-utf8 : goal.returns-in-Some-Text-clause-utf8
returns-in-Some-Text-clause-utf8 c =
    let found = sym c.find.ensures.value ∙ ap (λ o. option_copied o) c.in-Some-Text.is ∙ ap Some c.in-Some-Text.field-0-is in
    subst IsUtf8 (sym c.in-Some-Text.text-is) (IsUtf8-find c.args.name.now c.args.members.now c.in-Some-Text.text found c.requires)
