-- What a contract sees of a `Counted`.
use Rattle.std.specs.Prelude.{ℕ}
use Rattle.scene.specs.declared.devices.counted.Counted.{Counted}

-- the device that is counted
abbrev pub device_of : {T : Type 0} → Counted T → T
device_of counted = counted.device

-- the failures counted so far
abbrev pub count_of : {T : Type 0} → Counted T → ℕ
count_of counted = counted.count
