-- What calls leave of a pass.
use Rattle.std.specs.declared.snapshot.Snapshot.{Snapshot}
use Rattle.turn_log.specs.declared.kept.KeptTable.{KeptTable}
use Rattle.turn_log.specs.declared.group.Group.{Group}
use Rattle.statement_shelf.specs.Book.{Book}
use Rattle.statement_shelf.specs.Entries.{Part}
use Rattle.statement_shelf.specs.Passes.{CommonsPass, IsPassOfAll}
use Rattle.statement_shelf.specs.declared.commons.SharedCommons.{SharedCommons}
use Rattle.resolve_round.specs.Acts.{IsKept}

module _ {S V Q T W U : Type 0} (commons : SharedCommons (Group (KeptTable S V (Snapshot Part) Q) (KeptTable T W (Snapshot Book) U))) where
  -- no call
  pub kept-same : (pass : CommonsPass S T) → IsPassOfAll commons pass → IsKept commons pass pass
  kept-same pass of = record { of = of; whole = λ own. own }

  -- some calls, and then others
  pub kept-then : (first mid last : CommonsPass S T) → IsKept commons first mid → IsKept commons mid last → IsKept commons first last
  kept-then first mid last one two = record { of = two.of; whole = λ own. two.whole (one.whole own) }
