use Rattle.std.proofs.Common.{take, Ok}
use Rattle.resolve_round.specs.Calls.{UsesCache}
use Rattle.resolve_round.specs.Proving.{AddsProves, ProvesEach}
use Rattle.resolve_round.proofs.proving.prove_tested.Given as goal

abbrev pub invariant-loop-at : goal.invariant-loop-at
invariant-loop-at g l = record {
  uses : UsesCache {A = Unit {0}} l.fn.call l.call (Ok tt);
  adds : AddsProves l.fn.call.trace.now.checks l.fn.call.trace.now.events l.call.trace.now.events;
  each : ProvesEach (take l.at l.fn.call.trace.now.checks) l.url l.text l.fn.call.trace.now.events l.call.trace.now.events;
}
