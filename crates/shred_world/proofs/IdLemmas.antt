-- Facts on the order of resource ids, and on their equality.
use Rattle.std.proofs.Common.{◌≡◌, ◌&&◌, refl, ◌∙◌}
use Rattle.std.specs.Prelude.{◌==◌}
use Rattle.std.specs.declared.cmp.Ordering.{Ordering}
use Rattle.std.specs.declared.cmp.Ordering.TheVariants.{Less, Equal, Greater}
use Rattle.std.specs.Ordering.{nat_cmp, ordering_then, is_eq}
use Rattle.std.specs.Cmp.{unsigned_tied}
use Rattle.shred_world.specs.declared.resource_id.ResourceId.{ResourceId}
use Rattle.shred_world.specs.ResourceIds.{same_id}
pub use Rattle.shred_world.specs.SameIds.{exact_ids, ids_total, same_id_equiv, same_id-is, same_id-itself}

pub is_eq-then : (r s : Ordering) → is_eq (ordering_then r s) ≡ (is_eq r && is_eq s)
is_eq-then Less s = refl
is_eq-then Equal s = refl
is_eq-then Greater s = refl

-- ids are one where both numbers are
pub same_id-fields : (a b : ResourceId) → same_id a b ≡ ((a.kind == b.kind) && (a.dynamic == b.dynamic))
same_id-fields a b = is_eq-then (nat_cmp a.kind b.kind) (nat_cmp a.dynamic b.dynamic) ∙ (λ i. unsigned_tied a.kind b.kind i && unsigned_tied a.dynamic b.dynamic i)
