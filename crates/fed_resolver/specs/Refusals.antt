-- What a refusal is by how a call's search ended.
use Rattle.std.specs.Prelude.{◌⊎◌, ℕ, zero, suc, Result, Err}
use Rattle.chain_climb.specs.declared.want.End.{End}
use Rattle.chain_climb.specs.declared.want.End.TheVariants as end
use Rattle.resolve_round.specs.declared.halt.Halt.{Halt}
use Rattle.resolve_round.specs.declared.halt.Halt.TheVariants as halt
use Rattle.resolve_round.specs.Walking.{Giving}
use Rattle.resolve_round.specs.declared.trace.Trace.{Trace}
use Rattle.resolve_reply.specs.declared.reply.Reply.{Reply}
use Rattle.resolve_reply.specs.declared.signer.Signer.{Signer}
use Rattle.fed_resolver.specs.declared.outcome.Outcome.{Outcome}
use Rattle.fed_resolver.specs.declared.outcome.Refusal.{Refusal}
use Rattle.fed_resolver.specs.declared.outcome.Refusal.TheVariants.{NotFound, PolicyOnly, NoChain, Unavailable, Budget, Worn, Memory}
use Rattle.fed_resolver.specs.Outcomes.{IsWhole}
use Rattle.fed_resolver.specs.Stretches.{Goes, Moment, StumbledRounds, WalkedRounds}
use Rattle.fed_resolver.specs.Told.{Situation}

-- a call that broke off is refused so
abbrev pub broken_off : Halt → Refusal
broken_off (halt.Worn count) = Worn count
broken_off halt.Memory = Memory

-- a search that found no chain, by its end and by whether it had a fault
abbrev pub refused_by : End → ℕ → Refusal
refused_by ended (suc faults) = Unavailable
refused_by (end.Found path) zero = NoChain
refused_by end.NoLeaf zero = NotFound
refused_by end.PolicyOnly zero = PolicyOnly
refused_by end.NoChain zero = NoChain
refused_by (end.Budget calls paths) zero = Budget calls paths

-- what was done, by the result: for one call of the link more, at most, memory was wanting where the result says so
abbrev pub GoesBy : ℕ → Moment → Moment → Result Reply Refusal → Type 0
GoesBy age old new (Err Memory) = Goes age 0 old new ⊎ Goes age 1 old new
GoesBy age old new result = Goes age 0 old new

-- the asks of the rounds got what the link gave, by the result
abbrev pub WalksBy : {L : Type 0} → Giving L → L → L → Trace → Trace → Result Reply Refusal → Type 0
WalksBy gave old new before after (Err Memory) = StumbledRounds gave old new before after
WalksBy gave old new before after (Err (Worn count)) = StumbledRounds gave old new before after
WalksBy gave old new before after result = WalkedRounds gave old new before after

-- the outcome of a call that didn't break off is whole
abbrev pub outcome_of : Result Reply Refusal → Trace → Outcome
outcome_of result trace = record { result = result; trace = trace }

abbrev pub WholeBy : Situation → Signer → Trace → Result Reply Refusal → Type 0
WholeBy here signer trace (Err Memory) = Unit {0}
WholeBy here signer trace (Err (Worn count)) = Unit {0}
WholeBy here signer trace result = IsWhole here signer (outcome_of result trace)
