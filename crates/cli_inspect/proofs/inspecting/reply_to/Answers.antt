use Rattle.cli_inspect.proofs.InspectLaws.{source-steady, store-steady}
use Rattle.cli_inspect.proofs.inspecting.reply_to.Goals as goal

pub returns-in-Public-clause-steady : goal.returns-in-Public-clause-steady
returns-in-Public-clause-steady g c = store-steady c.show_ring.result _ _ _ (c.show_ring.ensures.steady (g.S.Source.read_faults c.args.input.now))

pub returns-in-Show-clause-steady : goal.returns-in-Show-clause-steady
returns-in-Show-clause-steady g c = source-steady c.show_input.result _ _ _ (c.show_input.ensures.steady (g.D.Store.store_faults c.args.store.now))

pub returns-in-Config-clause-steady : goal.returns-in-Config-clause-steady
returns-in-Config-clause-steady g c = store-steady c.check_config.result _ _ _ (c.check_config.ensures.steady (g.S.Source.read_faults c.args.input.now))
