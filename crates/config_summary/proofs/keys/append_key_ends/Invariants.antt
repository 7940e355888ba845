use Rattle.std.proofs.Common.{◌≡◌, ◌++◌, take, flat_map}
use Rattle.config_summary.specs.Summaries.{key_end}
use Rattle.config_summary.proofs.keys.append_key_ends.Given as goal

abbrev pub invariant-loop-key : goal.invariant-loop-key
invariant-loop-key l = l.out ≡ l.initial.out ++ flat_map (key_end l.moment) (take l.key-index l.keys)
