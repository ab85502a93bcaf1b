-- What a move makes of a position.
use Rattle.std.specs.Prelude.{ℕ, ◌+◌, ◌%◌, ◌^◌, Option, Some}
use Rattle.specs.specs.ForStorages.{dense_part, Masked, slot_at, slots_of, DenseVecStorage, VecStorage}
use Rattle.two_storages.specs.declared.Position.{Position}
use Rattle.two_storages.specs.declared.Velocity.{Velocity}

-- the position at an index, if it has one
abbrev pub position_at : Masked (VecStorage Position) → ℕ → Option Position
position_at positions index = slot_at (slots_of positions.inner) index

-- the velocity at an index, if it has one
abbrev pub velocity_at : Masked (DenseVecStorage Velocity) → ℕ → Option Velocity
velocity_at velocities index = dense_part velocities.inner index

-- a position that has gained a velocity
abbrev pub moved : Position → Velocity → Option Position
moved position velocity = Some (record { 0 = (position.0 + velocity.0) % 2 ^ 64 })
