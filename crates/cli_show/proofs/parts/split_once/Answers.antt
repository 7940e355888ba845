use Rattle.std.proofs.Common.{◌∷◌, length, take, sym, ap, ◌∙◌, arith, rules}
use Rattle.std.proofs.lemmas.List.Sums.{position_or_len_is}
use Rattle.std.proofs.lemmas.List.{take_rest}
use Rattle.jws_form.specs.Splitting.{is_stop, parts_of}
use Rattle.jws_form.proofs.Stops.{parts_of-cut, parts_of-uncut}
use Rattle.cli_show.proofs.parts.split_once.Goals as goal

pub returns-in-Some : goal.returns-in-Some
returns-in-Some c =
    let x = c.args.text.now in
    let at = position_or_len_is is_stop x c.in-Some.at 0 (search rules) (search rules) (search rules) in
    parts_of-cut x c.in-Some.at (search rules) at ∙ ap (λ rest. take c.in-Some.at x ∷ parts_of rest) (sym (take_rest x _))

pub returns-in-None : goal.returns-in-None
returns-in-None c =
    let x = c.args.text.now in
    parts_of-uncut x (position_or_len_is is_stop x (length x) 0 (omega arith) (search rules) (search rules))
