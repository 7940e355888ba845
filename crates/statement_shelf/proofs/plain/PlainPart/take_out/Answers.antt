use Rattle.std.proofs.Common.{rules}
use Rattle.statement_shelf.proofs.PlainLaws.{plain-kept, plain-out}
use Rattle.statement_shelf.proofs.plain.PlainPart.take_out.Goals as goal

pub returns-in_default : goal.returns-in_default
returns-in_default c = plain-kept c.args.url.now c.args.self.now c.place_of.result (search rules) (search rules)

pub returns : goal.returns
returns c =
    plain-out c.args.url.now c.args.self.now c.self.inside.entries.items c.remove.new.self.items c.place_of.result c.in-Some.at c.remove.result (search rules) (search rules) (search rules) (search rules)
