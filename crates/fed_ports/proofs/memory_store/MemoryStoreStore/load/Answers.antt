use Rattle.std.proofs.Common.{arith}
use Rattle.fed_ports.proofs.memory_store.MemoryStoreStore.load.Goals as goal

pub invariant_of-self-clause-entry_room : goal.invariant_of-self-clause-entry_room
invariant_of-self-clause-entry_room c = omega (arith, c.args.self.now.entry_room, c.next_fails.ensures.left)

pub invariant_of-self-else-next_fails-clause-entry_room : goal.invariant_of-self-else-next_fails-clause-entry_room
invariant_of-self-else-next_fails-clause-entry_room c = omega (arith, c.args.self.now.entry_room, c.next_fails.ensures.left)
