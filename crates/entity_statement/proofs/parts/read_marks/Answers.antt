use Rattle.entity_statement.proofs.Facts.{issuers-utf8, marks-utf8, owners-utf8}
use Rattle.entity_statement.proofs.parts.read_marks.Goals as goal

pub returns-clause-marks_utf8 : goal.returns-clause-marks_utf8
returns-clause-marks_utf8 c = marks-utf8 _ c.args.claims.now c.in_ok-marks.marks c.in_ok-marks.ensures c.requires

pub returns-clause-issuers_utf8 : goal.returns-clause-issuers_utf8
returns-clause-issuers_utf8 c = issuers-utf8 _ c.args.claims.now c.in_ok-issuers.issuers c.in_ok-issuers.ensures c.requires

pub returns-clause-owners_utf8 : goal.returns-clause-owners_utf8
returns-clause-owners_utf8 c = owners-utf8 _ c.args.claims.now c.in_ok-owners.owners c.in_ok-owners.ensures c.requires
