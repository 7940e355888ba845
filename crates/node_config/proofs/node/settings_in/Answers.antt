use Rattle.node_config.proofs.SettingsLaws.{further_fault}
use Rattle.node_config.proofs.node.settings_in.Goals as goal

pub returns-in-Err-further_in-clause-exact : goal.returns-in-Err-further_in-clause-exact
returns-in-Err-further_in-clause-exact c =
    further_fault c.args.members.now c.in_ok-basics.basics c.in-Ok.claims c.in-Err-further_in.fault c.in_ok-basics.ensures c.in-Ok.ensures.claims c.in-Err-further_in.ensures.further
