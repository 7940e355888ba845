-- Why there is no node to serve as.
use Rattle.node_files.specs.declared.fault.NodeFault.{NodeFault}
use Rattle.node_files.specs.declared.fault.NodeFault.TheVariants.{Input, Store, Memory}
use Rattle.resolver_service.specs.declared.ending.ResolverEnd.{ResolverEnd}
use Rattle.resolver_service.specs.declared.ending.ResolverEnd.TheVariants as ends

abbrev pub end_without_node : NodeFault → ResolverEnd
end_without_node Input = ends.Input
end_without_node Store = ends.StoreFailed
end_without_node Memory = ends.Memory
