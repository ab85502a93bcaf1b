use Rattle.std.proofs.Common.{◌≡◌, ◌≤◌, length}
use Rattle.std.specs.Io.KnownBytes.{Consumes}
use Rattle.scene.proofs.devices.reading.read_within.Given as goal

abbrev pub invariant-loop : goal.invariant-loop
invariant-loop g l = record {
  consumed : Consumes (g.R.Read.remaining l.initial.reader) (g.R.Read.remaining l.reader) l.document.items;
  steady : g.R.Faults.fault_count l.reader ≡ g.R.Faults.fault_count l.initial.reader;
  turns : l.counter ≤ length l.document.items;
}
