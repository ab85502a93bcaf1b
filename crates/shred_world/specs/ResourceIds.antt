-- Resource ids, ordered by kind and then by dynamic number.
use Rattle.std.specs.Prelude.{ℕ, Bool, refl}
use Rattle.std.specs.declared.cmp.Ordering.{Ordering}
use Rattle.std.specs.Ordering.{nat_cmp, ordering_then, eq_by_cmp}
use Rattle.std.specs.Coded.{Coded, code_by, coded×, coded_ℕ}
use Rattle.shred_world.specs.declared.resource_id.ResourceId.{ResourceId}

-- by kind, and then by dynamic number
abbrev pub id_cmp : ResourceId → ResourceId → Ordering
id_cmp a b = ordering_then (nat_cmp a.kind b.kind) (nat_cmp a.dynamic b.dynamic)

-- whether the two ids are one
abbrev pub same_id : ResourceId → ResourceId → Bool
same_id = eq_by_cmp id_cmp

-- as a pair of numbers
abbrev pub coded_id : Coded ResourceId
coded_id = code_by (ℕ × ℕ) (coded× coded_ℕ coded_ℕ) (λ a. (a.kind, a.dynamic)) (λ p. record { kind = p.0; dynamic = p.1 }) (λ _. refl)

-- the id of these two numbers
abbrev pub id_of : ℕ → ℕ → ResourceId
id_of kind dynamic = record { kind = kind; dynamic = dynamic }
