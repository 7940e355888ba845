use Rattle.config_warnings.proofs.Gathering.{popped_name, popped_scan}
use Rattle.config_warnings.proofs.scan.innermost.Goals as goal

pub returns-clause-names : goal.returns-clause-names
returns-clause-names c = popped_name c.pop.result c.args.scan.now.objects c.pop.new.self c.pop.ensures

pub returns-clause-left : goal.returns-clause-left
returns-clause-left c = popped_scan c.args.scan.now c.pop.result c.pop.new.self c.pop.ensures
