use Rattle.std.proofs.Common.{refl, sym, ◌∙◌}
use Rattle.waiting_callers.proofs.First.{none_due, taken_of}
use Rattle.waiting_callers.specs.Waiters.{is_whole}
use Rattle.waiting_callers.proofs.waiting.Waiting.hand_on.Goals as goal

pub returns-in_default : goal.returns-in_default
returns-in_default g c = (refl, none_due is_whole c.args.self.now (sym c.whole_place.ensures ∙ c.in_default.is))

pub returns : goal.returns
returns g c = taken_of is_whole c.args.self.now c.self.inside.waiters.items c.in-Some.at c.remove.result c.remove.new.self.items (sym c.self.view_is) (sym c.whole_place.ensures ∙ c.in-Some.is) c.remove.ensures.value c.remove.ensures.by_index.2
