use Rattle.std.proofs.Common.{length, sym, ap, ◌∙◌, arith}
use Rattle.fed_ports.specs.KeptFiles.{kept_of, kept_size, files_of}
use Rattle.fed_base.specs.Plans.{calls_left}
use Rattle.fed_ports.proofs.memory_store.MemoryStore.new.Goals as goal

pub invariant_of-result-clause-sized : goal.invariant_of-result-clause-sized
unfolding kept_size
invariant_of-result-clause-sized c = ap kept_size c.in_ok-kept.ensures.items ∙ sym (ap length c.in_ok-bytes.ensures.items)

pub invariant_of-result-clause-byte_room : goal.invariant_of-result-clause-byte_room
invariant_of-result-clause-byte_room c = omega (arith, c.in_ok-bytes.ensures.len, c.in_ok-bytes.ensures.capacity)

pub invariant_of-result-clause-entry_room : goal.invariant_of-result-clause-entry_room
invariant_of-result-clause-entry_room c = omega (arith, c.in_ok-kept.ensures.len, c.in_ok-kept.ensures.capacity, ap calls_left c.in_ok-plan.ensures)

pub returns-clause-files : goal.returns-clause-files
unfolding kept_of
returns-clause-files c = ap (λ ks. files_of ks c.in_ok-bytes.bytes.items c.args.files) c.in_ok-kept.ensures.items
