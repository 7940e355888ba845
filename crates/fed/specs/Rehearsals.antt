-- What `rehearse` does: the outside before and after, and the status.
use Rattle.std.specs.Prelude.{◌≡◌, ◌⊎◌, ℕ, Result, Ok, Err}
use Rattle.rehearsal.specs.declared.fault.RehearsalFault.{RehearsalFault}
use Rattle.rehearsal.specs.declared.fault.RehearsalFault.TheVariants.{Worn, Memory}
use Rattle.rehearsal.specs.declared.summary.Summary.{Summary}
use Rattle.rehearsal.specs.Rehearsals.{IsRehearsal}
use Rattle.rehearsal.specs.Summaries.{summary_text}
use Rattle.fed.specs.Authorities.{Outside}
use Rattle.fed.specs.Resolving.{IsSilent, Writes, Written, written_in}

-- a summary was written, or memory was wanting for its lines
abbrev pub IsSummaryTold : Summary → Written → Written → ℕ → Type 0
IsSummaryTold summary before now status = Writes 0 (summary_text summary) before now status ⊎ IsSilent 5 before now status

-- what is written, and the status, by what a rehearsal answered
abbrev pub IsToldBy : Result Summary RehearsalFault → Written → Written → ℕ → Type 0
IsToldBy (Ok summary) before now status = IsSummaryTold summary before now status
IsToldBy (Err Worn) before now status = IsSilent 8 before now status
IsToldBy (Err Memory) before now status = IsSilent 5 before now status

-- a summary is that of a rehearsal of so many parameters
abbrev pub Rehearses : ℕ → Result Summary RehearsalFault → Type 0
Rehearses params (Ok summary) = IsRehearsal params summary
Rehearses params (Err fault) = Unit {0}

-- a rehearsal was made, and what it answered is written and told by the status
pub record IsRehearsedAs (params : ℕ) (before now : Written) (status : ℕ) : Type 0 where
  pub result : Result Summary RehearsalFault
  pub rehearses : Rehearses params result
  pub told : IsToldBy result before now status

-- and nothing but the output was touched: neither files, nor the network, nor the clock
pub record RunsRehearsal {P : Type 0} (params : ℕ) (before now : Outside P) (status : ℕ) : Type 0 where
  pub rehearsed : IsRehearsedAs params (written_in before) (written_in now) status
  pub node : now.node ≡ before.node
  pub exchanges : now.exchanges ≡ before.exchanges
