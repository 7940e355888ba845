use Rattle.turn_log.specs.Parts.{AreSplit}
use Rattle.turn_log.proofs.parts.split_parts.Given as goal

abbrev pub invariant-loop-at : goal.invariant-loop-at
invariant-loop-at g l = AreSplit g.T.Sequential.steps g.T.Opening.opening l.objects.items l.initial.passes.items l.passes.items l.made.items l.at
