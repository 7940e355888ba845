use Rattle.std.proofs.Common.{◌++◌, codes, refl, sym, ap, ◌∙◌}
use Rattle.plain_notes.specs.Moments.{moment_text}
use Rattle.config_summary.specs.Summaries.{state_words}
use Rattle.config_summary.proofs.LineLaws.{two-pieces}
use Rattle.config_summary.proofs.keys.append_state.Goals as goal

pub returns-in_ok-append-in-Retired : goal.returns-in_ok-append-in-Retired
returns-in_ok-append-in-Retired c =
    two-pieces c.append_moment-in-Retired.result c.args.out.now c.append-in-Retired.new.self c.append_moment-in-Retired.new.text (codes " retired until ") (moment_text c.args.exp) _
    c.in_ok-append-in-Retired.ensures.ok c.append_moment-in-Retired.ensures (ap (state_words c.args.exp) c.in-Retired.is)

pub returns-in_ok-append-in-Revoked-2 : goal.returns-in_ok-append-in-Revoked-2
returns-in_ok-append-in-Revoked-2 c =
    let since = codes " revoked since " in
    let at = moment_text c.in-Revoked.at in
    let comma = codes ", " in
    let word = c.word.result.now in
    let told = c.append-in-Revoked-3.result in
    let new = c.append-in-Revoked-3.new.self in
    two-pieces told c.args.out.now c.append-in-Revoked.new.self new since (at ++ (comma ++ word)) _ c.in_ok-append-in-Revoked.ensures.ok
    (two-pieces told c.append-in-Revoked.new.self c.append_moment-in-Revoked.new.text new at (comma ++ word) (at ++ (comma ++ word)) c.in_ok-append_moment-in-Revoked.ensures
    (two-pieces told c.append_moment-in-Revoked.new.text c.append-in-Revoked-2.new.self new comma word (comma ++ word) c.in_ok-append-in-Revoked-2.ensures.ok c.append-in-Revoked-3.ensures.ok refl) refl)
    (ap (state_words c.args.exp) c.in-Revoked.is ∙ ap (λ w. since ++ (at ++ (comma ++ w))) (sym c.word.ensures))
