use Rattle.std.proofs.Common.{rules, refl}
use Rattle.statement_shelf.proofs.BookLaws.{read-found, read-missing}
use Rattle.statement_shelf.proofs.book.AnchorBook.read.Goals as goal

pub returns-in_default : goal.returns-in_default
returns-in_default c = (read-missing c.args.anchor.now c.args.self.now.anchors c.place_of.result (search rules) (search rules), refl)

pub returns-in-Ok : goal.returns-in-Ok
returns-in-Ok c = (
  read-found c.args.anchor.now c.args.self.now.anchors c.as_slice.result.now c.place_of.result c.in-Some.place c.index-as_slice-place.result c.in-Ok.keys (search rules) (search rules) (search rules)
      (search rules) (search rules),
  search rules,
  refl,
)
