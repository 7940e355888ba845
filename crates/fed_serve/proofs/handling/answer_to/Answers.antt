use Rattle.std.proofs.Common.{◌≡◌, Some, Ok, rules, subst}
use Rattle.std.specs.Prelude.{MatchOption}
use Rattle.fed_serve.specs.Answering.{Came}
use Rattle.fed_serve.specs.Handlings.{Wants, WantsNothing}
use Rattle.fed_serve.specs.Places.{place_of}
use Rattle.fed_serve.proofs.Asking.{handles}
use Rattle.fed_serve.proofs.handling.answer_to.Goals as goal

pub returns-in-Ok-Some-clause-answer : goal.returns-in-Ok-Some-clause-answer
returns-in-Ok-Some-clause-answer g c =
    let place = place_of c.args.node.now in
    let came : Came = Ok c.args.came.now in
    let is : c.in-Ok-Some.field-0 ≡ Some c.in-Ok-Some.asked = search rules in
    let wants = subst (λ o. MatchOption o (WantsNothing place came) (Wants place came)) is c.in-Ok-Some.ensures.asked in
    let answer = c.answer_asked.ensures.answer in
    record {
      handling = answer.handling;
      handles = handles place came c.in-Ok-Some.asked answer.handling wants answer.is;
      does = answer.does;
    }
