-- What limits may be handed in, and what bounds the frames of a run under them.
use Rattle.std.specs.Prelude.{◌≤◌, ℕ, pos, unsigned_abs, ◌≤ℤ◌}
use Rattle.scene_model.specs.Bounds.{FrameLimit}
use Rattle.scene_document.specs.Drafts.{Draft}
use Rattle.scene_document.specs.declared.loaded.Limits.{Limits}
use Rattle.scene_commands.specs.Bounds.{unlisted_in}

-- limits that are none above the greatest ones
pub record AreLimits (limits : Limits) : Type 0 where
  pub indices : limits.indices ≤ 16777216
  pub generation : pos 1 ≤ℤ limits.generation
  pub commands : limits.commands ≤ 1048576

-- the limits that a run is under: how many entities a document may list and how many indices they may have, how many births an index
-- may have, and how many commands a frame
pub record Bounds : Type 0 where
  pub indices : ℕ
  pub generation : ℕ
  pub commands : ℕ

-- those of limits of the code, and the greatest ones
abbrev pub bounds_of : Limits → Bounds
bounds_of limits = record { indices = limits.indices; generation = unsigned_abs limits.generation; commands = limits.commands }

abbrev pub full_bounds : Bounds
full_bounds = record { indices = 16777216; generation = 2147483647; commands = 1048576 }

-- what bounds the frames of a document under them: its ids below the next one belong to nobody but for those that it lists, and its
-- systems have the workers that it asks for
abbrev pub limit_of : Bounds → Draft → FrameLimit
limit_of bounds draft = record {
  commands = bounds.commands;
  indices = bounds.indices;
  generation = bounds.generation;
  unlisted = unlisted_in draft;
  workers = draft.workers;
}
