-- What a source and a sink in memory hold.
use Rattle.std.specs.Prelude.{ℕ, List, drop}
use Rattle.fed_base.specs.Plans.{Plan, plan_of}
use Rattle.fed_ports.specs.declared.memory_sink.MemorySink.{MemorySink}
use Rattle.fed_ports.specs.declared.memory_source.MemorySource.{MemorySource}

-- the bytes that are left
abbrev pub source_left : MemorySource → List ℕ
source_left source = drop source.taken source.bytes.items

-- the calls that are to fail
abbrev pub source_plan : MemorySource → Plan
source_plan source = plan_of source.plan

-- how often a call has failed
abbrev pub source_faults : MemorySource → ℕ
source_faults source = source.faults

-- the bytes that it was given
abbrev pub sink_held : MemorySink → List ℕ
sink_held sink = sink.bytes.items

-- how many bytes it takes in all
abbrev pub sink_room : MemorySink → ℕ
sink_room sink = sink.room

-- the calls that are to fail
abbrev pub sink_plan : MemorySink → Plan
sink_plan sink = plan_of sink.plan

-- how often a call has failed
abbrev pub sink_faults : MemorySink → ℕ
sink_faults sink = sink.faults
