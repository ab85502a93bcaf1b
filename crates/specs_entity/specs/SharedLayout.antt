-- What the fields of shared entities keep to. No public clause cites this file.
use Rattle.std.specs.Prelude.{◌≡◌, ◌+◌, ◌^◌, ◌<◌}
use Rattle.hibitset.specs.AtomicCore.{word_count}
use Rattle.specs_entity.specs.Births.{CanCreate, all_created, newborns}
use Rattle.specs_entity.specs.Layout.{AreBirths}
use Rattle.specs_entity.specs.PhaseViews.{setting_of}
use Rattle.specs_entity.specs.SharedPhase.{SharedPhase}
use Rattle.specs_entity.specs.declared.shared_entities.SharedEntities.TheInside.{Inside}

-- its table, and what the table was told
abbrev pub phase_in : Inside → SharedPhase
phase_in a = record { table_id = a.table.shared.table_id; key = a.table.shared.key }

-- the reserve was created, and waits as a list; the table has a claim word and the words of two sets, whose layers have these sizes
pub record IsPhaseInside (a : Inside) : Type 0 where
  pub can : CanCreate a.table.shared.key.reserve a.table.shared.key.before
  pub kept : AreBirths a.table.shared.key.before
  pub entities : a.entities ≡ all_created a.table.shared.key.reserve a.table.shared.key.before
  pub reserve : a.reserve.items ≡ newborns a.table.shared.key.reserve a.table.shared.key.before
  pub words : a.table.shared.table_id.words ≡ 1 + (word_count (setting_of a.table.shared.key).sizes + word_count (setting_of a.table.shared.key).sizes)
  pub slots : a.table.shared.table_id.slots ≡ 0
  pub first : a.first ≡ (setting_of a.table.shared.key).sizes.first
  pub second : a.second ≡ (setting_of a.table.shared.key).sizes.second
  pub third : a.third ≡ (setting_of a.table.shared.key).sizes.third
  pub few : a.table.shared.key.reserve < 2 ^ 32
