use Rattle.std.proofs.Common.{◌≡◌, ◌++◌, drop, string_bytes}
use Rattle.std.specs.List.{flat_map}
use Rattle.pc_run.specs.Traces.{event_line}
use Rattle.pc_run.proofs.trace.trace_text.Given as goal

abbrev pub invariant-loop-event : goal.invariant-loop-event
invariant-loop-event l = string_bytes l.text ++ flat_map event_line (drop l.event-index l.trace.events.items)
    ≡ flat_map event_line l.trace.events.items
