use Rattle.std.proofs.Common.{rules, refl, ◌≡◌, ◌∙◌, ap, arith, bytes_eq}
use Rattle.std.specs.List.{position}
use Rattle.statement_shelf.specs.Entries.{written}
use Rattle.statement_shelf.proofs.PlainLaws.{plain-absent, plain-present, plain-unwritten, plain-within, plain-written}
use Rattle.statement_shelf.proofs.PlainSteps.{none-held, other-not-held}
use Rattle.statement_shelf.proofs.plain.PlainPart.prove.Goals as goal

pub index_mut-requires : goal.index_mut-requires
index_mut-requires c =
    let place : c.place_of-2.result ≡ position (λ e. bytes_eq c.args.url e.0) c.args.self.now = rw (c.place_of-2.ensures, c.of.ensures) refl in
    let less = plain-within c.args.url c.args.self.now c.self.inside.entries.items c.place_of-2.result c.in-Some.at place (search rules) (search rules) in
    omega (arith, less)

pub returns-in_default : goal.returns-in_default
returns-in_default c = (none-held c.args.url c.args.seal.text c.args.self.now (plain-absent c.args.url c.args.self.now c.place_of-2.result (search rules) (search rules)), refl, c.text.ensures.sealed)

pub returns-then-ne : goal.returns-then-ne
returns-then-ne c =
    let place : c.place_of-2.result ≡ position (λ e. bytes_eq c.args.url e.0) c.args.self.now = rw (c.place_of-2.ensures, c.of.ensures) refl in (
      other-not-held c.args.url c.args.seal.text c.args.self.now c.index_mut.result.now.1
          (plain-present c.args.url c.args.self.now c.self.inside.entries.items c.place_of-2.result c.in-Some.at c.index_mut.result.now place (search rules) (search rules) (search rules)) (search rules),
      plain-unwritten c.args.url c.args.self.now c.self.inside.entries.items c.place_of-2.result c.in-Some.at c.index_mut.result.now place (search rules) (search rules) (search rules),
      c.text.ensures.sealed,
    )

pub returns : goal.returns
returns c = (
  c.index_mut.result.now.1,
  (plain-present c.args.url c.args.self.now c.self.inside.entries.items c.place_of-2.result c.in-Some.at c.index_mut.result.now (search rules) (search rules) (search rules) (search rules), search rules),
  plain-written c.args.url c.args.self.now c.self.inside.entries.items c.place_of-2.result c.in-Some.at c.index_mut.result.now c.prove.new.self (search rules) (search rules) (search rules) (search rules)
      ∙ ap (λ w. written c.args.url w c.args.self.now) (search rules),
  c.text.ensures.sealed,
)
