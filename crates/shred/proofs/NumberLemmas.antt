-- Systems over resources under different dynamic numbers.
use Rattle.std.proofs.Common.{◌≡◌, ◌≢◌, ℕ, suc, Bool, true, false, List, [], ◌∷◌, refl, ap, sym, ◌∙◌, arith}
use Rattle.std.specs.List.{All, list_any}
use Rattle.std.proofs.lemmas.Bool.{or_from}
use Rattle.shred_world.specs.declared.resource_id.ResourceId.{ResourceId}
use Rattle.shred_world.specs.ResourceIds.{same_id}
use Rattle.shred_world.proofs.CallerLemmas.{same_id-is}
use Rattle.shred_plan.specs.Plan.{Placing, share, touches, conflict}
use Rattle.shred.specs.Numbers.{IsUnder}

module _ (number another : ℕ) (differ : number ≢ another) where
  unlike : (id other : ResourceId) → id.dynamic ≡ number → other.dynamic ≡ another → same_id id other ≡ false
  unlike id other is is2 = by (same_id id other) refl
    where
      by : (same : Bool) → same_id id other ≡ same → same_id id other ≡ false
      by true same = absurd (differ (sym is ∙ (ap (λ i. i.dynamic) (same_id-is id other same) ∙ is2)))
      by false same = same

  none-like : (id : ResourceId) (others : List ResourceId) → id.dynamic ≡ number → All (λ other. other.dynamic ≡ another) others → list_any (same_id id) others ≡ false
  none-like id [] is all = refl
  none-like id (other ∷ others) is all =
      or_from (same_id id other) (list_any (same_id id) others) (unlike id other is (all 0 other (omega arith))) (none-like id others is (λ k d within. all (suc k) d (omega (arith, within))))

  none-shared : (ids others : List ResourceId) → All (λ id. id.dynamic ≡ number) ids → All (λ other. other.dynamic ≡ another) others → share same_id ids others ≡ false
  none-shared [] others all all2 = refl
  none-shared (id ∷ ids) others all all2 =
      or_from (list_any (same_id id) others) (share same_id ids others) (none-like id others (all 0 id (omega arith)) all2) (none-shared ids others (λ k d within. all (suc k) d (omega (arith, within))) all2)

  untouched : (one other : Placing ResourceId) → IsUnder number one → IsUnder another other → touches same_id one other ≡ false
  untouched one other under under2 =
      or_from (share same_id one.writes other.reads) (share same_id one.writes other.writes) (none-shared one.writes other.reads under.writes under2.reads) (none-shared one.writes other.writes under.writes under2.writes)

pub numbers-apart : (number another : ℕ) (one other : Placing ResourceId) → number ≢ another → IsUnder number one → IsUnder another other → conflict same_id one other ≡ false
numbers-apart number another one other differ under under2 =
    or_from (touches same_id one other) (touches same_id other one) (untouched number another differ one other under under2) (untouched another number (λ same. differ (sym same)) other one under2 under)
