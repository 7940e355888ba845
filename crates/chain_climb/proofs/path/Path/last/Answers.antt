use Rattle.std.proofs.Common.{◌∙◌, sym, ◌-◌, length, ap, get_or, List}
use Rattle.entity_statement.specs.Claims.{Identifier}
use Rattle.chain_climb.proofs.PathLaws.{last-read}
use Rattle.chain_climb.proofs.path.Path.last.Goals as goal

pub returns : goal.returns
returns c =
    c.index-entities-entities.is
    ∙ ap (λ (es : List Identifier). get_or es (length es - 1) c.index-entities-entities.result) c.as_slice-entities.ensures
    ∙ sym (last-read c.args.self.now.entities c.index-entities-entities.result c.requires)
