-- Why what was posted isn't looked at, by what failed before it.
use Rattle.cli_commands.specs.declared.answer.Stop.{Stop}
use Rattle.cli_commands.specs.declared.answer.Stop.TheVariants as input
use Rattle.node_files.specs.declared.fault.NodeFault.{NodeFault}
use Rattle.node_files.specs.declared.fault.NodeFault.TheVariants as node
use Rattle.register_once.specs.declared.stop.RegisterStop.{RegisterStop}
use Rattle.register_once.specs.declared.stop.RegisterStop.TheVariants.{Input, Source, Store, Memory}

-- there is no node
abbrev pub of_node : NodeFault → RegisterStop
of_node node.Input = Input
of_node node.Store = Store
of_node node.Memory = Memory

-- the input wasn't read
abbrev pub of_input : Stop → RegisterStop
of_input input.Source = Source
of_input input.Store = Store
of_input input.Memory = Memory
