use Rattle.std.proofs.Common.{◌≡◌, ◌∙◌, ◌==◌, ap, map, rules, tests}
use Rattle.std.specs.List.{slice_split}
use Rattle.std.proofs.lemmas.Iterator.Splits.{YieldsList-from_slice_split}
use Rattle.policy_merge.proofs.Words.{kept, all_yielded}
use Rattle.policy_merge.proofs.scope.words.Goals as goal

pub returns : goal.returns
returns c =
    let parts : map (λ word. word.now) c.loop-word.yielded ≡ slice_split (λ byte. byte == 32) c.args.text.now =
    all_yielded c.loop-word.yielded _ c.loop-word.yielded_by _ _ c.in-None.is c.next.ensures.steps
    (YieldsList-from_slice_split _ _ c.args.text.now (cc) (cc) c.split-word-items.ensures.closure (λ x r q k. search (rules, tests))) in
    c.loop-word.invariant ∙ ap kept parts
