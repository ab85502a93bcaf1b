-- What bounds the frames of a run.
use Rattle.std.specs.Prelude.{ℕ}

-- how many commands a frame may have, how many indices the entities may have at once, how many births an index may have, how many ids
-- below the next one belong to nobody that was ever born, and how many workers the systems have
pub record FrameLimit : Type 0 where
  pub commands : ℕ
  pub indices : ℕ
  pub generation : ℕ
  pub unlisted : ℕ
  pub workers : ℕ

-- one on commands alone, where no other counts
abbrev pub commands_only : ℕ → FrameLimit
commands_only limit = record { commands = limit; indices = 0; generation = 0; unlisted = 0; workers = 0 }
