use Rattle.std.proofs.Common.{List, length, ◌≡◌, sym, subst}
use Rattle.std.specs.Prelude.{IsTrue}
use Rattle.std.specs.List.{list_all}
use Rattle.entity_statement.specs.Claims.{mark_utf8}
use Rattle.entity_statement.specs.declared.marks.MarkEntry.{MarkEntry}
use Rattle.mark_status.proofs.TellLaws.{on_err}
use Rattle.heeded_reply.specs.Stages.{wire_seen}
use Rattle.heeded_reply.proofs.HeedLaws.{all-posted, kept-utf8}
use Rattle.heeded_reply.proofs.heeding.heed_reply.Goals as goal

pub heeded_text-requires-clause-utf8 : goal.heeded_text-requires-clause-utf8
heeded_text-requires-clause-utf8 g c = λ lives within.
    kept-utf8 c.in_ok-marks.marks c.args.reply.now.configs c.args.asked.now.moment c.in_ok-what.ensures.heeds.posts c.in_ok-what.what.kept c.in_ok-what.ensures.heeds.kept
    (subst (λ (es : List MarkEntry). IsTrue (list_all mark_utf8 es)) (sym c.in_ok-marks.ensures) c.requires.heedable.utf8)

pub returns-in_err-text-clause-broken : goal.returns-in_err-text-clause-broken
returns-in_err-text-clause-broken g c =
    on_err c.from_residual-in_err-text.result
    (all-posted c.args.routes c.in_ok-marks.marks c.args.reply.now.configs c.args.asked.now.moment (wire_seen g.N.Network c.args.net.now) (wire_seen g.N.Network c.heed_over.new.net) c.in_ok-what.what
    (subst (λ (es : List MarkEntry). length es ≡ length c.args.reply.now.configs) (sym c.in_ok-marks.ensures) c.requires.heedable.each) c.in_ok-what.ensures.heeds)
