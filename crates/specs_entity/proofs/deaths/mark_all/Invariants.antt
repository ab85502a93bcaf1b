use Rattle.std.proofs.Common.{◌≡◌, ◌≤◌, ℕ, take, eqb}
use Rattle.std.specs.FinSet as fin
use Rattle.std.specs.List.{list_any}
use Rattle.specs_entity.specs.Births.{CanKill, indices_of, living_in}
use Rattle.specs_entity.proofs.deaths.mark_all.Given as goal

abbrev pub invariant-loop-place : goal.invariant-loop-place
invariant-loop-place l = record {
  killable : CanKill (living_in l.generations l.raised.members) (take l.place l.entities);
  marks : (q : ℕ) → fin.contains l.marked.members q ≡ list_any (λ other. eqb q other) (indices_of (take l.place l.entities));
  room : l.initial.marked.room ≤ l.marked.room;
}
