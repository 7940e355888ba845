use Rattle.turn_log.proofs.Gains.{gains-append}
use Rattle.turn_log.proofs.laws.calls_in_a_row.Goals as goal

pub returns : goal.returns
returns g c = λ on_part on_book. gains-append on_part on_book
