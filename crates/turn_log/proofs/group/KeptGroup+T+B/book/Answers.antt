use Rattle.std.proofs.Common.{refl}
use Rattle.turn_log.proofs.PartLists.{if_ok, if_err, in_both}
use Rattle.turn_log.proofs.GroupCalls.{book_told, book_ends, book_worn}
use Rattle.turn_log.proofs.group.KeptGroup+T+B.book.Goals as goal

pub returns-clause-alone : goal.returns-clause-alone
returns-clause-alone g c = record { parts = λ p. refl; book = in_both c.act.result _ _ _ (λ r h. h.alone) (λ e h. h.alone) c.act.ensures.told c.act.ensures.worn }

pub returns-clause-told : goal.returns-clause-told
returns-clause-told g c = if_ok c.act.result _ _ (λ r h. book_told c.args.pass.now.parts.items c.args.pass.now.book c.act.new.pass c.args.call r h) c.act.ensures.told

pub returns-clause-ends : goal.returns-clause-ends
returns-clause-ends g c = if_ok c.act.result _ _ (λ r h. book_ends c.args.pass.now _ c.args.call r h) c.act.ensures.told

pub returns-clause-worn : goal.returns-clause-worn
returns-clause-worn g c = if_err c.act.result _ _ (λ e h. book_worn c.args.pass.now.parts.items c.args.pass.now.book c.act.new.pass e.count h) c.act.ensures.worn
