use Rattle.std.proofs.Common.{◌∙◌, ap, sym, Some}
use Rattle.serde_json.specs.View.{view}
use Rattle.fed_json.specs.Forms.{nesting}
use Rattle.fed_json.specs.Compact.{compact}
use Rattle.fed_json.specs.Reading.{tree_in}
use Rattle.fed_json.proofs.Readings.{reading_found, nesting-tree_of}
use Rattle.fed_json.proofs.Compacts.{compact-tree_of}
use Rattle.fed_json.proofs.write.write_tree.Goals as goal

pub returns-clause-text : goal.returns-clause-text
returns-clause-text c =
    let stands = c.in_ok-value.ensures in
    c.from_vec.ensures ∙ c.in_ok-bytes.ensures.text stands.no_float ∙ compact-tree_of _ stands.no_float ∙ ap compact stands.tree_is

pub returns-clause-reads_back : goal.returns-clause-reads_back
returns-clause-reads_back c shallow =
    let stands = c.in_ok-value.ensures in
    let deep = sym (nesting-tree_of (view c.in_ok-value.field-0)) ∙ ap nesting stands.tree_is in
    let read_back = reading_found _ _ c.in_ok-bytes.ensures.utf8 (c.in_ok-bytes.ensures.reads_back (rw deep shallow)) in
    ap tree_in c.from_vec.ensures ∙ read_back ∙ ap Some stands.tree_is
