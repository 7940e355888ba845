use Rattle.std.proofs.Common.{rules, refl, inl, inr}
use Rattle.statement_shelf.proofs.BookLaws.{listed-some, read-missing, rotated-step}
use Rattle.statement_shelf.proofs.book.AnchorBook.rotate.Goals.{then-from-self-via-then-from-self, then-from-self-via-else-from-self+then-self-eq-LAST_EPOCH}
use Rattle.statement_shelf.proofs.book.AnchorBook.rotate.Goals as goal

pub returns-in_default : goal.returns-in_default
returns-in_default c = (read-missing c.args.anchor c.args.self.now.anchors c.place_of.result (search rules) (search rules), refl)

pub returns-then-from-self : goal.returns-then-from-self
returns-then-from-self c = (
  listed-some c.args.anchor c.args.self.now.anchors c.place_of.result c.in-Some.place (record { anchor = c.args.anchor; keys = c.args.keys }) (search rules) (search rules),
  elim c.then-from-self.branch [
    | then-from-self-via-then-from-self w ↦ inl (search rules)
    | then-from-self-via-else-from-self+then-self-eq-LAST_EPOCH w ↦ inr (search rules)
  ],
  search rules,
  refl,
)

pub returns : goal.returns
returns c =
    rotated-step c.args.anchor c.args.self.now _ c.place_of.result c.in-Some.place c.args.from c.args.keys (search rules) (search rules) (search rules) (search rules) (search rules) (search rules)
    (search rules)
