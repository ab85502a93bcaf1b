-- Weights that are loaded with others.
use Rattle.std.specs.Prelude.{ℕ, ◌+◌, ◌&&◌, nat_lt, Option, Some, None, if◌then◌else◌}
use Rattle.specs_layouts.specs.Flagged.{Flagged}
use Rattle.specs_layouts.specs.Masked.{Masked}
use Rattle.scene_world.specs.declared.any_store.AnyStore.{AnyStore}
use Rattle.scene_world.specs.Stores.{store_part}
use Rattle.scene_cases.specs.declared.stores.course.Weight.{Weight}

-- a weight with another added to it, where both are below 100
abbrev pub heavier : Weight → Weight → Option Weight
heavier weight beside = if nat_lt weight.number 100 && nat_lt beside.number 100 then Some (record { number = weight.number + beside.number }) else None

-- the weight at an index
abbrev pub weight_at : Masked (Flagged (AnyStore Weight)) → ℕ → Option Weight
weight_at storage index = store_part storage.inner.inner index
