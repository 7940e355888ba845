use Rattle.cli_show.proofs.SetLaws.{keys-shown}
use Rattle.cli_show.proofs.key_set.keys_view.Goals as goal

pub returns : goal.returns
returns c =
    keys-shown c.close.result c.args.set.now.keys c.in_ok-tree.tree c.in_ok-text.text c.append_counted.new.line c.len.result c.in_ok-tree.ensures.tree c.in_ok-text.ensures
    c.in_ok-append_counted.ensures c.len.ensures c.close.ensures
