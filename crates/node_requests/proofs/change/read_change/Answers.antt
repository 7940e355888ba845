use Rattle.std.proofs.Common.{◌≡◌, None, Some, rules, sym}
use Rattle.std.specs.Result.{result_ok}
use Rattle.jws_form.specs.Compact.{IsCompact}
use Rattle.jws_form.specs.Splitting.{splitting}
use Rattle.node_requests.specs.Steps.{stated_in, told_stated}
use Rattle.node_requests.proofs.Rotating.{change-found, unsplit, unstated}
use Rattle.node_requests.proofs.change.read_change.Goals as goal

pub returns-in_default : goal.returns-in_default
returns-in_default c =
    let none : result_ok (splitting c.args.text.now) ≡ None = search rules in
    unsplit c.args.text.now none

pub returns-in-Some-2 : goal.returns-in-Some-2
returns-in-Some-2 c =
    let compact : IsCompact c.args.text.now c.in-Some.body = search rules in
    let stated : Some (told_stated c.in-Some-2.stated) ≡ stated_in c.in-Some.body = search rules in
    change-found c.args.text.now _ compact (sym stated)

pub returns-in-None : goal.returns-in-None
returns-in-None c =
    let compact : IsCompact c.args.text.now c.in-Some.body = search rules in
    let none : None ≡ stated_in c.in-Some.body = search rules in
    unstated c.args.text.now c.in-Some.body compact (sym none)
