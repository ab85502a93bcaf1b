use Rattle.std.proofs.Common.{◌≡◌, ℕ, true, drop, eqb}
use Rattle.std.specs.FinSet as fin
use Rattle.std.specs.List.{list_any}
use Rattle.specs_entity.specs.Births.{indices_of}
use Rattle.specs_entity.proofs.deaths.unmark_all.Given as goal

abbrev pub invariant-loop-entity : goal.invariant-loop-entity
invariant-loop-entity l = record {
  left : (q : ℕ) → fin.contains l.marked.members q ≡ true → list_any (λ other. eqb q other) (indices_of (drop l.entity-index l.entities)) ≡ true;
  room : l.marked.room ≡ l.initial.marked.room;
}
