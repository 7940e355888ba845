use Rattle.std.proofs.Common.{arith}
use Rattle.chain_check.proofs.JudgingLaws.{all-known, compact-at, failed-now, own-at, sealed-next, untried-now}
use Rattle.chain_check.proofs.known.first_untried.Goals as goal

pub known_by-requires-clause-compact : goal.known_by-requires-clause-compact
known_by-requires-clause-compact c =
    compact-at c.args.entries.now c.args.chain.now c.args.keys.now.keys c.requires.texts c.requires.some c.loop-i.i c.saturating_sub-place.result c.index-entries-place.result c.index-chain-place.result
    (omega arith) c.saturating_sub-place.ensures c.index-chain-place.is c.requires.split

pub known_by-requires-clause-own : goal.known_by-requires-clause-own
known_by-requires-clause-own c =
    own-at c.args.entries.now c.args.chain.now c.args.keys.now.keys c.requires.texts c.requires.some c.loop-i.i c.saturating_sub-place.result c.index-entries-place.result c.index-chain-place.result
    (omega arith) c.saturating_sub-place.ensures c.index-chain-place.is c.requires.own

pub returns-in-Unsealed : goal.returns-in-Unsealed
returns-in-Unsealed c =
    failed-now c.args.entries.now c.args.chain.now c.args.keys.now.keys c.requires.texts c.requires.some c.loop-i.i c.saturating_sub-place.result c.index-entries-place.result c.index-chain-place.result
    (omega arith) c.saturating_sub-place.ensures c.index-chain-place.is _ c.keys_for.ensures c.in-Unsealed.ensures c.loop-i.invariant

pub returns-in-Untried : goal.returns-in-Untried
returns-in-Untried c =
    untried-now c.args.entries.now c.args.chain.now c.args.keys.now.keys c.requires.texts c.requires.some c.loop-i.i c.saturating_sub-place.result c.index-entries-place.result c.index-chain-place.result
    (omega arith) c.saturating_sub-place.ensures c.index-chain-place.is _ c.keys_for.ensures c.in-Untried.public c.in-Untried.ensures c.loop-i.invariant

pub loop-i-preserved : goal.loop-i-preserved
loop-i-preserved c =
    sealed-next c.args.entries.now c.args.chain.now c.args.keys.now.keys c.requires.texts c.requires.some c.loop-i.i c.saturating_sub-place.result c.index-entries-place.result c.index-chain-place.result
    (omega arith) c.saturating_sub-place.ensures c.index-chain-place.is _ c.keys_for.ensures c.in-Sealed.ensures c.loop-i.invariant

pub returns : goal.returns
returns c = all-known c.args.entries.now c.args.chain.now c.args.keys.now.keys c.requires.texts c.requires.some c.loop-i.i (omega arith) c.loop-i.invariant
