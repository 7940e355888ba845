use Rattle.std.proofs.Common.{sym, ap, ◌∙◌}
use Rattle.std.specs.List.{list_all}
use Rattle.fed_json.specs.Forms.{whole}
use Rattle.fed_json.proofs.Layers.{whole-List}
use Rattle.cli_inspect.proofs.public.items.Goals as goal

pub returns-in-List-clause-whole : goal.returns-in-List-clause-whole
returns-in-List-clause-whole c = ap (list_all whole) c.as_slice.ensures ∙ sym (whole-List c.in-List.items) ∙ ap whole (sym c.in-List.is) ∙ c.requires
