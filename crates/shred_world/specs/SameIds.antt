-- The order of resource ids is total, and ids that compare alike are one.
use Rattle.std.proofs.Common.{◌≡◌, ℕ, true, refl, ap}
use Rattle.std.specs.declared.cmp.Ordering.{Ordering}
use Rattle.std.specs.declared.cmp.Ordering.TheVariants.{Less, Equal, Greater}
use Rattle.std.specs.Ordering.{nat_cmp, is_eq}
use Rattle.std.specs.Cmp.{IsTotalOrder, IsEquivalence, nat_cmp_total, eq_by_cmp_equiv}
use Rattle.std.proofs.lemmas.Cmp.{on_total, then_total}
use Rattle.std.proofs.lemmas.Map.Lookups.{CmpEqualImpliesEq, exact_pairs, exact_unsigned}
use Rattle.shred_world.specs.declared.resource_id.ResourceId.{ResourceId}
use Rattle.shred_world.specs.ResourceIds.{id_cmp, same_id}

-- ids that compare alike are one
pub exact_ids : CmpEqualImpliesEq id_cmp
exact_ids a b h = ap (λ (p : ℕ × ℕ). record { kind = p.0; dynamic = p.1 }) (exact_pairs nat_cmp nat_cmp exact_unsigned exact_unsigned (a.kind, a.dynamic) (b.kind, b.dynamic) h)

pub ids_total : IsTotalOrder id_cmp
ids_total = then_total (on_total (λ a. a.kind) nat_cmp_total) (on_total (λ a. a.dynamic) nat_cmp_total)

pub same_id_equiv : IsEquivalence same_id
same_id_equiv = eq_by_cmp_equiv ids_total

equal : (r : Ordering) → is_eq r ≡ true → r ≡ Equal
equal Less e = cc
equal Equal e = refl
equal Greater e = cc

-- the test decides equality
pub same_id-is : (a b : ResourceId) → same_id a b ≡ true → a ≡ b
same_id-is a b e = exact_ids a b (equal _ e)

pub same_id-itself : (a : ResourceId) → same_id a a ≡ true
same_id-itself a = same_id_equiv.refl a
