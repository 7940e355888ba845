use Rattle.std.proofs.Common.{rules, refl}
use Rattle.statement_shelf.proofs.PlainLaws.{plain-absent, plain-looked, plain-present}
use Rattle.statement_shelf.proofs.PlainSteps.{ended-not-live, none-live}
use Rattle.statement_shelf.proofs.plain.PlainPart.look.Goals as goal

pub returns-in_default : goal.returns-in_default
returns-in_default c = (none-live c.args.url c.args.moment c.args.self.now (plain-absent c.args.url c.args.self.now c.place_of-2.result (search rules) (search rules)), refl)

pub returns-then-until-moment : goal.returns-then-until-moment
returns-then-until-moment c = (
  ended-not-live c.args.url c.args.moment c.args.self.now c.index.result.now.1
      (plain-present c.args.url c.args.self.now c.self.inside.entries.items c.place_of-2.result c.in-Some.at c.index.result.now (search rules) (search rules) (search rules) (search rules)) (search rules),
  refl,
)

pub returns : goal.returns
returns c = (
  c.index.result.now.1,
  (plain-present c.args.url c.args.self.now c.self.inside.entries.items c.place_of-2.result c.in-Some.at c.index.result.now (search rules) (search rules) (search rules) (search rules), search rules),
  search rules,
  plain-looked c.args.url c.args.self.now c.self.inside.entries.items c.remove-first.new.self.items c.insert.new.self.items c.place_of-2.result c.in-Some.at c.index.result.now c.remove-first.result
      (search rules) (search rules) (search rules) (search rules) (search rules) (search rules) (search rules),
)
