use Rattle.fed.proofs.registering.register.Goals as goal

pub returns-clause-runs : goal.returns-clause-runs
returns-clause-runs g c = record {
  result = c.register_once-registered.result;
  registers = c.register_once-registered.ensures.registers;
  told = c.tell.ensures.told;
  still = c.register_once-registered.ensures.still;
}
