use Rattle.std.proofs.Common.{◌<◌, length, sym, ap, ◌∙◌, rules}
use Rattle.std.specs.Option.{option_copied}
use Rattle.resolve_search.proofs.ChainLaws.{texts-more, texts-skip}
use Rattle.resolve_search.proofs.judging.texts_at.Goals as goal
use Rattle.resolve_search.proofs.judging.texts_at.Goals.{in-Some+in_ok-copy+in_ok-push, in_default}

pub loop-url-preserved : goal.loop-url-preserved
loop-url-preserved c =
    let less : c.loop-url.url-index < length c.args.urls.now = search rules in
    elim c.match-text_at.branch [
      | in-Some+in_ok-copy+in_ok-push w ↦
          texts-more c.args.asks.now c.args.urls.now c.loop-url.url-index c.url-item.result less c.url-item.is w.in-Some.text.now w.in_ok-copy.field-0 w.new.result w.new-in-Some.result c.loop-url.chain c.match-text_at.chain
          (sym c.text_at.ensures ∙ ap option_copied w.in-Some.is) w.in_ok-copy.ensures w.new.ensures w.new-in-Some.ensures c.loop-url.invariant (w.chain-is ∙ w.in_ok-push.ensures.ok)
      | in_default w ↦
          texts-skip c.args.asks.now c.args.urls.now c.loop-url.url-index c.url-item.result less c.url-item.is c.match-text_at.chain (sym c.text_at.ensures ∙ ap option_copied w.in_default.is)
          (w.chain-is ∙ c.loop-url.invariant)
    ]
