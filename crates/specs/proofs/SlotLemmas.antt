-- What becomes of a world's slots where resources are out while another changes.
use Rattle.std.proofs.Common.{◌≡◌, Bool, true, false, cond, Option, Some, None, is_some, refl, sym, ap, subst, ◌∙◌}
use Rattle.std.proofs.lemmas.Bool.{false≢true}
use Rattle.std.specs.Option.{option_flatten, option_and_then}
use Rattle.std.specs.FinMap.{get, insert, get-insert, same_map}
use Rattle.shred_world.specs.declared.resource_id.ResourceId.{ResourceId}
use Rattle.shred_world.specs.ResourceIds.{same_id}
use Rattle.shred_world.specs.SameIds.{exact_ids, ids_total, same_id-is, same_id-itself}
use Rattle.shred_world.specs.Worlds.{Slots}
use Rattle.specs_world.specs.Dropping.{StayOut}
use Rattle.specs_world.specs.Resources.{Place, Becomes, held}
use Rattle.specs.specs.Marking.{without}

out-none : {V R : Type 0} (part : V → Option R) (slot : Option (Option V)) (r : R) → slot ≡ Some None → option_and_then part (option_flatten slot) ≡ Some r → ⊥
out-none part slot r out is = false≢true (ap is_some (sym (ap (λ s. option_and_then part (option_flatten s)) out) ∙ is))

module _ {V : Type 0} where
  get-here : (w : Slots V) (id : ResourceId) (x : Option V) → get (insert w id x) id ≡ Some x
  get-here w id x = get-insert ids_total w id x id ∙ ap (λ b. cond b (Some x) (get w id)) (same_id-itself id)

  get-other : (w : Slots V) (id : ResourceId) (x : Option V) (q : ResourceId) → same_id q id ≡ false → get (insert w id x) q ≡ get w q
  get-other w id x q apart = get-insert ids_total w id x q ∙ ap (λ b. cond b (Some x) (get w q)) apart

  -- a value that was out comes back, and the change of another slot stays
  restored : (w : Slots V) (e s : ResourceId) (v : V) (x : Option V) → get w e ≡ Some (Some v) → same_id s e ≡ false → insert (insert (insert w e None) s x) e (Some v) ≡ insert w s x
  restored w e s v x there apart = same_map ids_total exact_ids _ _ (λ q.
      get-insert ids_total (insert (insert w e None) s x) e (Some v) q
      ∙ ap (cond (same_id q e) (Some (Some v))) (get-insert ids_total (insert w e None) s x q ∙ ap (cond (same_id q s) (Some x)) (get-insert ids_total w e None q))
      ∙ at q (same_id q e) (same_id q s) refl refl
      ∙ sym (get-insert ids_total w s x q))
    where
      at : (q : ResourceId) (a b : Bool) → same_id q e ≡ a → same_id q s ≡ b → cond a (Some (Some v)) (cond b (Some x) (cond a (Some None) (get w q))) ≡ cond b (Some x) (get w q)
      at q true true here there = absurd (false≢true (sym apart ∙ subst (λ k. same_id s k ≡ true) (sym (same_id-is q s there) ∙ same_id-is q e here) (same_id-itself s)))
      at q true false here else = sym there ∙ ap (get w) (sym (same_id-is q e here))
      at q false b here else = refl

  -- what is put over a slot doesn't tell what was in it
  overwritten : (w : Slots V) (a s : ResourceId) (y x : Option V) → insert (insert (insert w a None) s x) a y ≡ insert (insert w s x) a y
  overwritten w a s y x = same_map ids_total exact_ids _ _ (λ q.
      get-insert ids_total (insert (insert w a None) s x) a y q
      ∙ ap (cond (same_id q a) (Some y)) (get-insert ids_total (insert w a None) s x q ∙ ap (cond (same_id q s) (Some x)) (get-insert ids_total w a None q))
      ∙ at q (same_id q a)
      ∙ sym (get-insert ids_total (insert w s x) a y q ∙ ap (cond (same_id q a) (Some y)) (get-insert ids_total w s x q)))
    where
      at : (q : ResourceId) (a : Bool) → cond a (Some y) (cond (same_id q s) (Some x) (cond a (Some None) (get w q))) ≡ cond a (Some y) (cond (same_id q s) (Some x) (get w q))
      at q true = refl
      at q false = refl

  -- a value that was taken out and put back leaves the world
  back-again : (w : Slots V) (e : ResourceId) (v : V) → get w e ≡ Some (Some v) → insert (insert w e None) e (Some v) ≡ w
  back-again w e v there = same_map ids_total exact_ids _ _ (λ q.
      get-insert ids_total (insert w e None) e (Some v) q ∙ ap (cond (same_id q e) (Some (Some v))) (get-insert ids_total w e None q) ∙ at q (same_id q e) refl)
    where
      at : (q : ResourceId) (a : Bool) → same_id q e ≡ a → cond a (Some (Some v)) (cond a (Some None) (get w q)) ≡ get w q
      at q true here = sym there ∙ ap (get w) (sym (same_id-is q e here))
      at q false here = refl

module _ {V R P : Type 0} (out_at : Place V R) (at : Place V P) (w : Slots V) (p : P) (there : held at (without out_at w) ≡ Some p) where
  -- what is found beside what is out stands elsewhere,
  apart : same_id at.id out_at.id ≡ false
  apart = by (same_id at.id out_at.id) refl
    where
      by : (b : Bool) → same_id at.id out_at.id ≡ b → b ≡ false
      by true same = absurd (out-none at.part (get (without out_at w) at.id) p (ap (get (without out_at w)) (same_id-is at.id out_at.id same) ∙ get-here w out_at.id None) there)
      by false same = refl

  -- and was there before
  pub was-there : held at w ≡ Some p
  was-there = ap (λ slot. option_and_then at.part (option_flatten slot)) (sym (get-other w out_at.id None at.id apart)) ∙ there

module _ {V R : Type 0} (out_at : Place V R) (only : (value : V) (resource : R) → out_at.part value ≡ Some resource → value ≡ out_at.wrapped resource) (w : Slots V) (r : R) (was : held out_at w ≡ Some r) where
  slot-was : get w out_at.id ≡ Some (Some (out_at.wrapped r))
  slot-was = by (get w out_at.id) was
    where
      by : (slot : Option (Option V)) → option_and_then out_at.part (option_flatten slot) ≡ Some r → slot ≡ Some (Some (out_at.wrapped r))
      by None is = cc
      by (Some None) is = cc
      by (Some (Some v)) is = ap (λ u. Some (Some u)) (only v r is)

  -- what was out while a resource changed came back
  pub around : {P : Type 0} (at : Place V P) (change : P → P → Type 0) (w1 w2 w3 : Slots V) → w1 ≡ without out_at w → Becomes at change w1 w2 → w3 ≡ insert w2 out_at.id (Some (out_at.wrapped r)) → Becomes at change w w3
  around {P} at change w1 w2 w3 out becomes back =
      let there : held at (without out_at w) ≡ Some becomes.0 = ap (held at) (sym out) ∙ becomes.2 in (
        becomes.0,
        becomes.1,
        was-there out_at at w becomes.0 there,
        becomes.3,
        back ∙ ap (λ m. insert m out_at.id (Some (out_at.wrapped r))) (becomes.4 ∙ ap (λ m. insert m at.id (Some (at.wrapped becomes.1))) out)
            ∙ restored w out_at.id at.id (out_at.wrapped r) (Some (at.wrapped becomes.1)) slot-was (apart out_at at w becomes.0 there),
      )

  pub unchanged : (w1 w2 w3 : Slots V) → w1 ≡ without out_at w → w2 ≡ w1 → w3 ≡ insert w2 out_at.id (Some (out_at.wrapped r)) → w3 ≡ w
  unchanged w1 w2 w3 out same back = back ∙ ap (λ m. insert m out_at.id (Some (out_at.wrapped r))) (same ∙ out) ∙ back-again w out_at.id (out_at.wrapped r) slot-was

  -- and what is out beside it is out still
  pub stays-around : (w1 w2 w3 : Slots V) → w1 ≡ without out_at w → StayOut w1 w2 → w3 ≡ insert w2 out_at.id (Some (out_at.wrapped r)) → StayOut w w3
  stays-around w1 w2 w3 out stay back id empty = by (same_id id out_at.id) refl
    where
      full : Some (Some (out_at.wrapped r)) ≡ Some None → ⊥
      full e = cc

      by : (b : Bool) → same_id id out_at.id ≡ b → get w3 id ≡ Some None
      by true same = absurd (full (sym slot-was ∙ ap (get w) (sym (same_id-is id out_at.id same)) ∙ empty))
      by false same =
          ap (λ m. get m id) back ∙ get-other w2 out_at.id (Some (out_at.wrapped r)) id same
          ∙ stay id (ap (λ m. get m id) out ∙ get-other w out_at.id None id same ∙ empty)

-- what was out came back as another, while a resource changed
pub beside : {V R P : Type 0} (out_at : Place V R) (at : Place V P) (change : P → P → Type 0) (w w1 w2 w3 : Slots V) (now : R) → w1 ≡ without out_at w → Becomes at change w1 w2 → w3 ≡ insert w2 out_at.id (Some (out_at.wrapped now))
    → (middle : Slots V) × Becomes at change w middle × (w3 ≡ insert middle out_at.id (Some (out_at.wrapped now)))
beside out_at at change w w1 w2 w3 now out becomes back =
    let there : held at (without out_at w) ≡ Some becomes.0 = ap (held at) (sym out) ∙ becomes.2 in (
      insert w at.id (Some (at.wrapped becomes.1)),
      (becomes.0, becomes.1, was-there out_at at w becomes.0 there, becomes.3, refl),
      back ∙ ap (λ m. insert m out_at.id (Some (out_at.wrapped now))) (becomes.4 ∙ ap (λ m. insert m at.id (Some (at.wrapped becomes.1))) out)
          ∙ overwritten w out_at.id at.id (Some (out_at.wrapped now)) (Some (at.wrapped becomes.1)),
    )

-- what is out stays out where a resource that is there changes
pub becomes-out : {V P : Type 0} (at : Place V P) (change : P → P → Type 0) (w w' : Slots V) → Becomes at change w w' → StayOut w w'
becomes-out at change w w' becomes id out = ap (λ m. get m id) becomes.4 ∙ by (same_id id at.id) refl
  where
    by : (b : Bool) → same_id id at.id ≡ b → get (insert w at.id (Some (at.wrapped becomes.1))) id ≡ Some None
    by true same = absurd (out-none at.part (get w at.id) becomes.0 (ap (get w) (sym (same_id-is id at.id same)) ∙ out) becomes.2)
    by false same = get-other w at.id (Some (at.wrapped becomes.1)) id same ∙ out
