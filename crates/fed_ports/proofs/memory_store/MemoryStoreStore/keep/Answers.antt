use Rattle.std.proofs.Common.{refl, arith, rules}
use Rattle.fed_ports.proofs.KeptLaws.{sized_more, keeps, put_there}
use Rattle.fed_ports.proofs.memory_store.MemoryStoreStore.keep.Goals as goal

pub invariant_of-self-then-fails-2-clause-sized : goal.invariant_of-self-then-fails-2-clause-sized
invariant_of-self-then-fails-2-clause-sized c = sized_more _ _ _ _ _ _ c.args.self.now.sized c.put.ensures.kept c.put.ensures.bytes

pub invariant_of-self-then-fails-2-clause-byte_room : goal.invariant_of-self-then-fails-2-clause-byte_room
invariant_of-self-then-fails-2-clause-byte_room c = omega (arith, c.args.self.now.byte_room, c.put.ensures.size, c.put.ensures.byte_room, c.if-self-needed.false)

pub invariant_of-self-then-fails-2-clause-entry_room : goal.invariant_of-self-then-fails-2-clause-entry_room
invariant_of-self-then-fails-2-clause-entry_room c = omega (arith, c.args.self.now.entry_room, c.next_fails-fails.ensures.left, c.put.ensures.entries, c.put.ensures.entry_room)

pub invariant_of-self-else-fails-2-clause-sized : goal.invariant_of-self-else-fails-2-clause-sized
invariant_of-self-else-fails-2-clause-sized c = sized_more _ _ _ _ _ _ c.args.self.now.sized c.put.ensures.kept c.put.ensures.bytes

pub invariant_of-self-else-fails-2-clause-byte_room : goal.invariant_of-self-else-fails-2-clause-byte_room
invariant_of-self-else-fails-2-clause-byte_room c = omega (arith, c.args.self.now.byte_room, c.put.ensures.size, c.put.ensures.byte_room, c.if-self-needed.false)

pub invariant_of-self-else-fails-2-clause-entry_room : goal.invariant_of-self-else-fails-2-clause-entry_room
invariant_of-self-else-fails-2-clause-entry_room c = omega (arith, c.args.self.now.entry_room, c.next_fails-fails.ensures.left, c.put.ensures.entries, c.put.ensures.entry_room)

pub returns-then-fails-2-clause-kept : goal.returns-then-fails-2-clause-kept
returns-then-fails-2-clause-kept c =
    (_, refl, keeps _ _ _ _ c.args.self.now.files c.as_slice-name.result.now c.args.name.now c.args.bytes.now _ c.args.self.now.sized c.put.ensures.kept c.put.ensures.bytes c.as_slice-name.ensures)

pub returns-clause-kept : goal.returns-clause-kept
returns-clause-kept c =
    (_, refl, keeps _ _ _ _ c.args.self.now.files c.as_slice-name.result.now c.args.name.now c.args.bytes.now _ c.args.self.now.sized c.put.ensures.kept c.put.ensures.bytes c.as_slice-name.ensures)

pub returns-then-fails-2-clause-left : goal.returns-then-fails-2-clause-left
returns-then-fails-2-clause-left c = λ leaves calls room. put_there _ _ _ _ c.args.self.now.files c.as_slice-name.result.now c.args.name.now c.args.bytes.now c.args.self.now.sized c.put.ensures.kept c.put.ensures.bytes c.as_slice-name.ensures

pub returns-clause-left : goal.returns-clause-left
returns-clause-left c = λ leaves calls room. put_there _ _ _ _ c.args.self.now.files c.as_slice-name.result.now c.args.name.now c.args.bytes.now c.args.self.now.sized c.put.ensures.kept c.put.ensures.bytes c.as_slice-name.ensures

pub returns-clause-cause : goal.returns-clause-cause
returns-clause-cause c = search rules

pub returns-then-self-needed-clause-left : goal.returns-then-self-needed-clause-left
returns-then-self-needed-clause-left c = search rules
