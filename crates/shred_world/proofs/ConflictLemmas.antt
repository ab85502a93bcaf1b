-- Ids under different dynamic numbers are different.
use Rattle.std.proofs.Common.{◌≡◌, ◌≢◌, ℕ, Bool, true, false, List, [], ◌∷◌, refl, sym, ap, ◌∙◌}
use Rattle.std.specs.Prelude.{◌||◌}
use Rattle.std.proofs.lemmas.List.Elements.{All-head, All-tail}
use Rattle.shred_world.specs.declared.resource_id.ResourceId.{ResourceId}
use Rattle.shred_world.specs.ResourceIds.{same_id}
use Rattle.shred_world.specs.Bundles.{is_listed}
use Rattle.shred_world.specs.Conflicts.{AreUnder, ShareNoId, DoNotConflict}
use Rattle.shred_world.proofs.IdLemmas.{same_id-is}

-- an id of a list has the number of them all
listed-under : (dynamic : ℕ) (ids : List ResourceId) (q : ResourceId) → AreUnder dynamic ids → is_listed ids q ≡ true → q.dynamic ≡ dynamic
listed-under dynamic [] q under listed = cc
listed-under dynamic (id ∷ ids) q under listed = at (same_id q id) refl (listed-under dynamic ids q (All-tail (λ (i : ResourceId). i.dynamic ≡ dynamic) id ids under)) listed
  where
    at : (b : Bool) → same_id q id ≡ b → (is_listed ids q ≡ true → q.dynamic ≡ dynamic) → (b || is_listed ids q) ≡ true → q.dynamic ≡ dynamic
    at true e rest l = ap (λ (i : ResourceId). i.dynamic) (same_id-is q id e) ∙ All-head (λ (i : ResourceId). i.dynamic ≡ dynamic) id ids under
    at false e rest l = rest l

-- lists under different numbers share no id
pub under-share_none : (dynamic other : ℕ) (ids others : List ResourceId) → dynamic ≢ other → AreUnder dynamic ids → AreUnder other others → ShareNoId ids others
under-share_none dynamic other ids others differ under under_other q listed = at (is_listed others q) refl
  where
    at : (b : Bool) → is_listed others q ≡ b → b ≡ false
    at true e = absurd (differ (sym (listed-under dynamic ids q under listed) ∙ listed-under other others q under_other e))
    at false e = refl

-- so their users don't conflict
pub under-do_not_conflict : (dynamic other : ℕ) (reads writes other_reads other_writes : List ResourceId) → dynamic ≢ other → AreUnder dynamic reads → AreUnder dynamic writes
    → AreUnder other other_reads → AreUnder other other_writes → DoNotConflict reads writes other_reads other_writes
under-do_not_conflict dynamic other reads writes other_reads other_writes differ r w r2 w2 = record {
  both_write = under-share_none dynamic other writes other_writes differ w w2;
  one_writes = under-share_none dynamic other writes other_reads differ w r2;
  other_writes = under-share_none other dynamic other_writes reads (λ e. differ (sym e)) w2 r;
}
