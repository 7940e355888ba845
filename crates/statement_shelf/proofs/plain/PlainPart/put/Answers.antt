use Rattle.std.proofs.Common.{rules}
use Rattle.statement_shelf.proofs.PlainSteps.{put-front}
use Rattle.statement_shelf.proofs.plain.PlainPart.put.Goals as goal

pub returns : goal.returns
returns c =
    put-front c.args.url c.args.text c.args.until c.args.self.now c.take_out.new.self c.insert.new.self.items c.truncate.new.self.items c.in-Ok.entry (search (rules, c.in-Ok.ensures)) (search rules)
    (search rules) (search rules)
