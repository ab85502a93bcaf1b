-- Facts on the slots of a world: what a list of them makes.
use Rattle.std.proofs.Common.{◌≡◌, ◌≢◌, Bool, true, false, cond, Option, None, Some, List, [], ◌∷◌, OnSome, IfSome, IfNone, IsSome, MatchOption, is_some, unwrap_or, refl, sym, ap, subst, ◌∙◌}
use Rattle.std.proofs.lemmas.Bool.{false≢true}
use Rattle.std.specs.Map.{lookup}
use Rattle.std.specs.Option.{option_flatten, option_and_then}
use Rattle.shred_world.specs.Worlds.{Slots, value_at, resource_at, HasKind}
use Rattle.std.specs.Ordering.{eq_by_cmp}
use Rattle.std.specs.FinMap as map
use Rattle.std.specs.FinMap.{FinMap, from_entries, get, insert, find, get-from_entries, get-insert, get-remove, same_map}
use Rattle.std.proofs.lemmas.Option.{same_Some}
use Rattle.shred_world.specs.declared.resource_id.ResourceId.{ResourceId}
use Rattle.shred_world.specs.ResourceIds.{id_cmp, same_id}
use Rattle.shred_world.specs.Bundles.{DefaultsTo}
use Rattle.shred_world.proofs.PlaceLemmas.{hidden}
use Rattle.shred_world.proofs.IdLemmas.{exact_ids, ids_total, same_id-is, same_id-itself}

module _ {X : Type 0} where
  find_at : (es : List (ResourceId × X)) (q : ResourceId) → find id_cmp q es ≡ lookup (same_id q) es
  find_at [] q = refl
  find_at (e ∷ es) q = ap (cond (same_id q e.0) (Some e.1)) (find_at es q)

  -- what the map that the entries make has at an id
  pub get_made : (es : List (ResourceId × X)) (q : ResourceId) → get (from_entries {R = id_cmp} es) q ≡ lookup (same_id q) es
  get_made es q = get-from_entries ids_total es q ∙ find_at es q

  -- entries that differ at one id make maps that differ there
  pub one_put : (es fs : List (ResourceId × X)) (id : ResourceId) (x : X) → ((q : ResourceId) → lookup (same_id q) fs ≡ cond (same_id q id) (Some x) (lookup (same_id q) es))
      → from_entries {R = id_cmp} fs ≡ insert (from_entries es) id x
  one_put es fs id x h = same_map ids_total exact_ids _ _ (λ q.
      get_made fs q ∙ h q
      ∙ sym (get-insert ids_total (from_entries es) id x q ∙ ap (cond (eq_by_cmp id_cmp q id) (Some x)) (get_made es q)))

  -- and so where one id is taken out
  pub one_removed : (es fs : List (ResourceId × X)) (id : ResourceId) → ((q : ResourceId) → lookup (same_id q) fs ≡ cond (same_id q id) None (lookup (same_id q) es))
      → from_entries {R = id_cmp} fs ≡ map.remove (from_entries es) id
  one_removed es fs id h = same_map ids_total exact_ids _ _ (λ q.
      get_made fs q ∙ h q
      ∙ sym (get-remove ids_total (from_entries es) id q ∙ ap (cond (eq_by_cmp id_cmp q id) None) (get_made es q)))

  -- entries with equal look-ups make one map
  pub same_made : (es fs : List (ResourceId × X)) → ((q : ResourceId) → lookup (same_id q) fs ≡ lookup (same_id q) es) → from_entries {R = id_cmp} fs ≡ from_entries es
  same_made es fs h = same_map ids_total exact_ids _ _ (λ q. get_made fs q ∙ h q ∙ sym (get_made es q))

  -- what a world has at an id, by the entries that make it
  pub slot_at : (es : List (ResourceId × X)) (w : FinMap id_cmp X) (id : ResourceId) → from_entries es ≡ w → get w id ≡ lookup (same_id id) es
  slot_at es w id e = ap (λ m. get m id) (sym e) ∙ get_made es id

-- what holds under `Some` holds of a value that is there
pub on_some : {A : Type 0} (o : Option A) (x : A) (P : Type 0) → o ≡ Some x → OnSome o P → P
on_some None x P e h = cc
on_some (Some y) x P e h = h

module _ {X : Type 0} where
  -- to put what is there changes nothing
  pub insert_same : (w : FinMap id_cmp X) (id : ResourceId) (x : X) → get w id ≡ Some x → insert w id x ≡ w
  insert_same w id x e = same_map ids_total exact_ids _ _ (λ q. get-insert ids_total w id x q ∙ at q (same_id q id) refl)
    where
      at : (q : ResourceId) (b : Bool) → same_id q id ≡ b → cond b (Some x) (get w q) ≡ get w q
      at q true t = sym e ∙ ap (get w) (sym (same_id-is q id t))
      at q false t = refl

-- what holds at all holds under `Some`, and so under `None` where the value is absent
pub if_some : {A : Type 0} (o : Option A) {P : Type 0} → P → OnSome o P
if_some None p = tt
if_some (Some y) p = p

pub if_some_value : {A : Type 0} (o : Option A) {P : Type 0} → P → IfSome o (λ _. P)
if_some_value None p = tt
if_some_value (Some y) p = p

pub if_none : {A : Type 0} (o : Option A) {P : Type 0} → (o ≡ None → P) → IfNone o P
if_none None p = p refl
if_none (Some y) p = tt

pub flattened : {V : Type 0} (o : Option (Option V)) (v : V) → option_flatten o ≡ Some v → o ≡ Some (Some v)
flattened None v e = cc
flattened (Some x) v e = ap Some e

-- to put the value that is there changes nothing
pub insert_value_same : {V : Type 0} (w : Slots V) (id : ResourceId) (v : V) → value_at w id ≡ Some v → insert w id (Some v) ≡ w
insert_value_same w id v e = insert_same w id (Some v) (flattened (get w id) v e)

there : {R : Type 0} (o : Option R) (r : R) → is_some o ≡ true → o ≡ Some (unwrap_or o r)
there None r e = absurd (false≢true e)
there (Some x) r e = refl

-- what was put is there
pub get-insert_here : {X : Type 0} (w : FinMap id_cmp X) (id : ResourceId) (x : X) → get (insert w id x) id ≡ Some x
get-insert_here w id x = get-insert ids_total w id x id ∙ ap (λ b. cond b (Some x) (get w id)) (same_id-itself id)

-- of two values put at one id the later counts
pub insert-insert : {X : Type 0} (w : FinMap id_cmp X) (id : ResourceId) (x y : X) → insert (insert w id x) id y ≡ insert w id y
insert-insert w id x y = same_map ids_total exact_ids _ _ (λ q.
    get-insert ids_total (insert w id x) id y q ∙ ap (cond (same_id q id) (Some y)) (get-insert ids_total w id x q) ∙ hidden (same_id q id) (Some y) (Some x) (get w q)
    ∙ sym (get-insert ids_total w id y q))

-- what a loan leaves of a resource that was put unless one stood
pub ensured_put : {V R : Type 0} (wrapped : R → V) (w n : Slots V) (id : ResourceId) (r left : R) → MatchOption (value_at w id) (n ≡ insert w id (Some (wrapped r))) (λ _. n ≡ w)
    → insert n id (Some (wrapped left)) ≡ insert w id (Some (wrapped left))
ensured_put {V = V} wrapped w n id r left e = at (value_at w id) e
  where
    at : (o : Option V) → MatchOption o (n ≡ insert w id (Some (wrapped r))) (λ _. n ≡ w) → insert n id (Some (wrapped left)) ≡ insert w id (Some (wrapped left))
    at None e = ap (λ m. insert m id (Some (wrapped left))) e ∙ insert-insert w id (Some (wrapped r)) (Some (wrapped left))
    at (Some v) e = ap (λ m. insert m id (Some (wrapped left))) e

module _ {V R : Type 0} (part : V → Option R) (wrapped : R → V) (seen : (r : R) → part (wrapped r) ≡ Some r) where
  -- what stands at the id once a resource was put there unless one stood
  pub ensured_seen : (w n : Slots V) (id : ResourceId) (r : R) → HasKind part w id
      → MatchOption (value_at w id) (n ≡ insert w id (Some (wrapped r))) (λ _. n ≡ w)
      → resource_at part n id ≡ Some (unwrap_or (resource_at part w id) r)
  ensured_seen w n id r kind e = at (value_at w id) refl kind e
    where
      at : (o : Option V) → value_at w id ≡ o → is_some o ≡ is_some (resource_at part w id) → MatchOption o (n ≡ insert w id (Some (wrapped r))) (λ _. n ≡ w)
          → resource_at part n id ≡ Some (unwrap_or (resource_at part w id) r)
      at None was kind e =
          ap (λ m. resource_at part m id) e ∙ ap (λ o. option_and_then part (option_flatten o)) (get-insert_here w id (Some (wrapped r)))
          ∙ seen r ∙ ap (λ o. Some (unwrap_or (option_and_then part o) r)) (sym was)
      at (Some v) was kind e = ap (λ m. resource_at part m id) e ∙ there (resource_at part w id) r (sym kind)

-- what a loan leaves of a resource that was made unless one stood
pub made_put : {V R : Type 0} (wrapped : R → V) (w n : Slots V) (id : ResourceId) (Made : R → Type 0) (left : R) → DefaultsTo Made wrapped id w n
    → insert n id (Some (wrapped left)) ≡ insert w id (Some (wrapped left))
made_put {V = V} {R = R} wrapped w n id Made left e = at (value_at w id) e
  where
    at : (o : Option V) → MatchOption o ((r : R) × Made r × (n ≡ insert w id (Some (wrapped r)))) (λ _. n ≡ w) → insert n id (Some (wrapped left)) ≡ insert w id (Some (wrapped left))
    at None e = ap (λ m. insert m id (Some (wrapped left))) e.2 ∙ insert-insert w id (Some (wrapped e.0)) (Some (wrapped left))
    at (Some v) e = ap (λ m. insert m id (Some (wrapped left))) e

module _ {V R : Type 0} (part : V → Option R) (wrapped : R → V) (seen : (r : R) → part (wrapped r) ≡ Some r) where
  -- what stands at the id once a resource was made unless one stood
  made_at : (w n : Slots V) (id : ResourceId) (Made : R → Type 0) → HasKind part w id → DefaultsTo Made wrapped id w n
      → (r : R) × (resource_at part n id ≡ Some r) × MatchOption (resource_at part w id) (Made r) (λ there. r ≡ there)
  made_at w n id Made kind e = at (value_at w id) refl kind e
    where
      stood : (o : Option R) → is_some o ≡ true → resource_at part n id ≡ o → (r : R) × (resource_at part n id ≡ Some r) × MatchOption o (Made r) (λ there. r ≡ there)
      stood None e is = absurd (false≢true e)
      stood (Some x) e is = (x, is, refl)

      at : (o : Option V) → value_at w id ≡ o → is_some o ≡ is_some (resource_at part w id) → MatchOption o ((r : R) × Made r × (n ≡ insert w id (Some (wrapped r)))) (λ _. n ≡ w)
          → (r : R) × (resource_at part n id ≡ Some r) × MatchOption (resource_at part w id) (Made r) (λ there. r ≡ there)
      at None was kind e = (
        e.0,
        ap (λ m. resource_at part m id) e.2 ∙ ap (λ o. option_and_then part (option_flatten o)) (get-insert_here w id (Some (wrapped e.0))) ∙ seen e.0,
        subst (λ o. MatchOption (option_and_then part o) (Made e.0) (λ there. e.0 ≡ there)) (sym was) e.1,
      )
      at (Some v) was kind e = stood (resource_at part w id) (sym kind) (ap (λ m. resource_at part m id) e)

  pub made_seen : (w n : Slots V) (id : ResourceId) (Made : R → Type 0) → HasKind part w id → DefaultsTo Made wrapped id w n → IsSome (resource_at part n id)
  made_seen w n id Made kind e = ap is_some (made_at w n id Made kind e).1

  pub made_value : (w n : Slots V) (id : ResourceId) (Made : R → Type 0) → HasKind part w id → DefaultsTo Made wrapped id w n → (x : R) → Some x ≡ resource_at part n id
      → MatchOption (resource_at part w id) (Made x) (λ there. x ≡ there)
  made_value w n id Made kind e x is =
      let made = made_at w n id Made kind e in
      let same : made.0 ≡ x = same_Some _ _ (sym made.1 ∙ sym is) in
      subst (λ r. MatchOption (resource_at part w id) (Made r) (λ there. r ≡ there)) same made.2

-- the slot of an id is as it was, whatever is put at another
pub get-insert_apart : {X : Type 0} (w : FinMap id_cmp X) (id other : ResourceId) (x : X) → id ≢ other → get (insert w other x) id ≡ get w id
get-insert_apart w id other x apart = get-insert ids_total w other x id ∙ by (same_id id other) refl
  where
    by : (b : Bool) → same_id id other ≡ b → cond b (Some x) (get w id) ≡ get w id
    by true same = absurd (apart (same_id-is id other same))
    by false same = refl

-- two values that were out for a while, and came back
pub both-back : {X : Type 0} (w : FinMap id_cmp X) (one other : ResourceId) (left gone x y : X)
    → insert (insert (insert (insert w one left) other gone) one x) other y ≡ insert (insert w one x) other y
both-back w one other left gone x y = same_map ids_total exact_ids _ _ (λ q.
    get-insert ids_total (insert (insert (insert w one left) other gone) one x) other y q
    ∙ ap (cond (same_id q other) (Some y)) (get-insert ids_total (insert (insert w one left) other gone) one x q
    ∙ ap (cond (same_id q one) (Some x)) (get-insert ids_total (insert w one left) other gone q ∙ ap (cond (same_id q other) (Some gone)) (get-insert ids_total w one left q)))
    ∙ by (same_id q one) (same_id q other) (get w q)
    ∙ sym (get-insert ids_total (insert w one x) other y q ∙ ap (cond (same_id q other) (Some y)) (get-insert ids_total w one x q)))
  where
    by : (a b : Bool) (was : Option _) → cond b (Some y) (cond a (Some x) (cond b (Some gone) (cond a (Some left) was))) ≡ cond b (Some y) (cond a (Some x) was)
    by true true was = refl
    by false true was = refl
    by true false was = refl
    by false false was = refl

-- the same of worlds, one after the other
pub two-came-back : {V : Type 0} (w w1 w2 w3 w4 : Slots V) (one other : ResourceId) (x y : V) → w1 ≡ insert w one None → w2 ≡ insert w1 other None → w3 ≡ insert w2 one (Some x) → w4 ≡ insert w3 other (Some y)
    → w4 ≡ insert (insert w one (Some x)) other (Some y)
two-came-back w w1 w2 w3 w4 one other x y e1 e2 e3 e4 =
    e4 ∙ ap (λ m. insert m other (Some y)) (e3 ∙ ap (λ m. insert m one (Some x)) (e2 ∙ ap (λ m. insert m other None) e1)) ∙ both-back w one other None None (Some x) (Some y)

pub one-came-back : {V : Type 0} (w w1 w2 : Slots V) (id : ResourceId) (x : V) → w1 ≡ insert w id None → w2 ≡ insert w1 id (Some x) → w2 ≡ insert w id (Some x)
one-came-back w w1 w2 id x e1 e2 = e2 ∙ ap (λ m. insert m id (Some x)) e1 ∙ insert-insert w id None (Some x)

-- a value is seen as it was, where another is out
pub value-apart : {V : Type 0} (w w1 : Slots V) (id other : ResourceId) → w1 ≡ insert w other None → id ≢ other → value_at w1 id ≡ value_at w id
value-apart w w1 id other out apart = ap (λ m. value_at m id) out ∙ ap option_flatten (get-insert_apart w id other None apart)

-- a slot is empty, where a value was put at another since
pub empty-apart : {V : Type 0} (w w1 w2 : Slots V) (id other : ResourceId) (x : Option V) → w1 ≡ insert w id None → w2 ≡ insert w1 other x → id ≢ other → get w2 id ≡ Some None
empty-apart w w1 w2 id other x e1 e2 apart = ap (λ m. get m id) e2 ∙ get-insert_apart w1 id other x apart ∙ ap (λ m. get m id) e1 ∙ get-insert_here w id None
