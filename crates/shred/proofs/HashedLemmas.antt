-- What the entries of a hashed map make, which compares ids by their two numbers.
use Rattle.std.proofs.Common.{◌≡◌, Bool, cond, ◌&&◌, Some, None, List, [], ◌∷◌, refl, sym, ◌∙◌}
use Rattle.std.specs.Prelude.{◌==◌}
use Rattle.std.specs.Map.{lookup}
use Rattle.std.specs.Ordering.{nat_cmp}
use Rattle.std.specs.Cmp.{eq_by_cmp_equiv, unsigned_tied}
use Rattle.std.specs.FinMap as map
use Rattle.std.specs.FinMap.{FinMap, from_entries, get, insert}
use Rattle.shred_world.specs.declared.resource_id.ResourceId.{ResourceId}
use Rattle.shred_world.specs.ResourceIds.{id_cmp, same_id}
use Rattle.shred_world.proofs.CallerLemmas.{ids_total, slot_at, one_put, one_removed, same_made, is_eq-then}

-- how the hashed map compares its keys
abbrev pub key_eq : ResourceId → ResourceId → Bool
key_eq a b = (a.kind == b.kind) && (a.dynamic == b.dynamic)

alike : (a b : ResourceId) → same_id a b ≡ key_eq a b
alike a b = is_eq-then (nat_cmp a.kind b.kind) (nat_cmp a.dynamic b.dynamic) ∙ (λ i. unsigned_tied a.kind b.kind i && unsigned_tied a.dynamic b.dynamic i)

turned : (a b : ResourceId) → key_eq a b ≡ same_id b a
turned a b = sym (alike a b) ∙ (eq_by_cmp_equiv ids_total).symm a b

module _ {X : Type 0} where
  found : (es : List (ResourceId × X)) (q : ResourceId) → lookup (same_id q) es ≡ lookup (key_eq q) es
  found [] q = refl
  found (e ∷ es) q = (λ i. cond (alike q e.0 i) (Some e.1) (found es q i))

  -- what the map has at an id, by the entries that make it
  pub hashed_at : (es : List (ResourceId × X)) (w : FinMap id_cmp X) (id : ResourceId) → from_entries es ≡ w → get w id ≡ lookup (key_eq id) es
  hashed_at es w id e = slot_at es w id e ∙ found es id

  -- entries that differ at one id make maps that differ there
  pub hashed_put : (es fs : List (ResourceId × X)) (id : ResourceId) (x : X) → ((q : ResourceId) → lookup (key_eq q) fs ≡ cond (key_eq id q) (Some x) (lookup (key_eq q) es))
      → from_entries {R = id_cmp} fs ≡ insert (from_entries es) id x
  hashed_put es fs id x h = one_put es fs id x (λ q. found fs q ∙ h q ∙ (λ i. cond (turned id q i) (Some x) (sym (found es q) i)))

  -- and so where one id is taken out
  pub hashed_removed : (es fs : List (ResourceId × X)) (id : ResourceId) → ((q : ResourceId) → lookup (key_eq q) fs ≡ cond (key_eq id q) None (lookup (key_eq q) es))
      → from_entries {R = id_cmp} fs ≡ map.remove (from_entries es) id
  hashed_removed es fs id h = one_removed es fs id (λ q. found fs q ∙ h q ∙ (λ i. cond (turned id q i) None (sym (found es q) i)))

  -- entries with equal look-ups make one map
  pub hashed_same : (es fs : List (ResourceId × X)) → ((q : ResourceId) → lookup (key_eq q) fs ≡ lookup (key_eq q) es) → from_entries {R = id_cmp} fs ≡ from_entries es
  hashed_same es fs h = same_made es fs (λ q. found fs q ∙ h q ∙ sym (found es q))
