use Rattle.std.proofs.Common.{◌≡◌, map}
use Rattle.policy_merge.proofs.Words.{kept}
use Rattle.policy_merge.proofs.scope.words.Given as goal

abbrev pub invariant-loop-word : goal.invariant-loop-word
invariant-loop-word l = l.words ≡ kept (map (λ word. word.now) l.yielded)
