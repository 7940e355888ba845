use Rattle.std.proofs.Common.{ap, ◌∙◌, refl, sym, subst}
use Rattle.fed_ports.specs.MemoryClocks.{told_of, moment_at}
use Rattle.fed_ports.specs.Times.{Told}
use Rattle.fed_ports.proofs.Readings.{told_more}
use Rattle.fed_ports.proofs.memory_clock.MemoryClockClock.now.Goals as goal

-- src/memory_clock.rt
pub returns-clause-told : goal.returns-clause-told
returns-clause-told c =
    let ms = c.args.self.now.moments.items in
    let n = c.args.self.now.readings in
    let same = c.moment-moment.ensures.value ∙ ap (λ xs. moment_at xs n) c.deref.ensures.value in
    subst (Told n (told_of ms n) (told_of ms c.saturating_add-self.result)) (sym same) (told_more ms n c.saturating_add-self.result _ refl c.saturating_add-self.ensures)
