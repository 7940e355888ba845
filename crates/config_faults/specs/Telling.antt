-- What is told of a configuration that isn't read.
use Rattle.std.specs.Prelude.{◌≡◌, Option, Some, None, Result, Ok, Err}
use Rattle.node_config.specs.Nodes.{Settings}
use Rattle.node_config.specs.declared.fault.ConfigFault.{ConfigFault}
use Rattle.node_config.specs.declared.fault.ConfigFault.TheVariants.{Shape}
use Rattle.config_faults.specs.declared.fault.Fault.{Fault}

-- nothing is told exactly where the configuration is read; else the first member that isn't of its form is (OpenID Federation 1.0
-- sections 3 and 8)
abbrev pub Tells : Option Fault → Result Settings ConfigFault → Type 0
Tells None read = (settings : Settings) × (read ≡ Ok settings)
Tells (Some fault) read = read ≡ Err (Shape fault.member)
