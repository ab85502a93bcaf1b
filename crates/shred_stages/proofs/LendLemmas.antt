-- Groups that are free of one another see, over what is left, what they declare of what there was.
use Rattle.std.proofs.Common.{◌≡◌, Bool, true, false, List, [], ◌∷◌, refl, ap, sym, ◌∙◌, Option, Some, None}
use Rattle.std.specs.Prelude.{if◌then◌else◌}
use Rattle.std.specs.Option.{option_flatten}
use Rattle.std.specs.FinMap.{get}
use Rattle.std.proofs.Math.Path.{fun_ext}
use Rattle.std.proofs.lemmas.Bool.{false≢true}
use Rattle.shred_world.specs.declared.resource_id.ResourceId.{ResourceId}
use Rattle.shred_world.specs.Bundles.{Slot, absent, out, shared, owned, Holding, slot_of, readable, takable, is_listed}
use Rattle.shred_plan.specs.Plan.{Group, Stage}
use Rattle.shred_stages.specs.Views.{shared_of, owned_of, cut, view_slots}
use Rattle.shred_stages.specs.Moves.{emptied, filled, left_of}
use Rattle.shred_stages.specs.Apart.{group_reads, group_writes}
use Rattle.shred_stages.specs.Packs.{Packed}
use Rattle.shred_stages.specs.Lending.{AreLent, SeeWhatTheyDeclare}
use Rattle.shred_stages.specs.Free.{IsFreeOfAll, AreFree}

module _ {V : Type 0} where
  flat-slot : (o : Option (Option V)) → option_flatten o ≡ takable (slot_of o)
  flat-slot None = refl
  flat-slot (Some None) = refl
  flat-slot (Some (Some v)) = refl

  -- one slot of a view over what was left
  seen-slot : (L R : Bool) (seat : Option (Option V)) (slot now : Slot V) → slot_of seat ≡ (if L then filled slot out else absent) → (L ≡ false → R ≡ true → now ≡ slot)
      → (if L then owned_of (option_flatten seat) else (if R then shared_of (readable now) else absent)) ≡ (if L then owned_of (takable slot) else (if R then shared_of (readable slot) else absent))
  seen-slot true R seat slot now e f = ap owned_of (flat-slot seat ∙ ap takable e ∙ by slot)
    where
      by : (slot : Slot V) → takable (filled slot out) ≡ takable slot
      by absent = refl
      by out = refl
      by (shared v) = refl
      by (owned v) = refl
  seen-slot false true seat slot now e f = ap (λ s. shared_of (readable s)) (f refl refl)
  seen-slot false false seat slot now e f = refl

  -- an id that isn't written keeps its slot
  pub left-other : (ids : List ResourceId) (w : Holding V) (id : ResourceId) → is_listed ids id ≡ false → left_of ids w id ≡ w id
  left-other ids w id e = ap (λ b. if b then emptied (w id) else w id) e

  -- what another group sees of what a group left
  cut-left : (L l r : Bool) (slot : Slot V) → (L ≡ true → (r ≡ false) × (l ≡ false))
      → (if l then owned_of (takable (if L then emptied slot else slot)) else (if r then shared_of (readable (if L then emptied slot else slot)) else absent))
      ≡ (if l then owned_of (takable slot) else (if r then shared_of (readable slot) else absent))
  cut-left false l r slot free = refl
  cut-left true false false slot free = refl
  cut-left true true r slot free = absurd (false≢true (sym (free refl).1))
  cut-left true false true slot free = absurd (false≢true (sym (free refl).0))

-- an id that no group of a stage writes keeps its slot
abbrev pub NoneWrites : Stage ResourceId → ResourceId → Type 0
NoneWrites [] id = Unit {0}
NoneWrites (group ∷ stage) id = (is_listed (group_writes group) id ≡ false) × NoneWrites stage id

none-writes : (group : Group ResourceId) (stage : Stage ResourceId) (id : ResourceId) → IsFreeOfAll group stage → is_listed (group_reads group) id ≡ true → NoneWrites stage id
none-writes group [] id free e = tt
none-writes group (other ∷ stage) id free e = (free.0.unwritten id e, none-writes group stage id free.1 e)

module _ {V S : Type 0} where
  lent-keep : (stage : Stage ResourceId) (packs : List (Packed V S)) (w w2 : Holding V) (id : ResourceId) → AreLent stage packs w w2 → NoneWrites stage id → w2 id ≡ w id
  lent-keep [] [] w w2 id lent none = lent id
  lent-keep [] (pack ∷ packs) w w2 id lent none = absurd lent
  lent-keep (group ∷ stage) [] w w2 id lent none = absurd lent
  lent-keep (group ∷ stage) (pack ∷ packs) w w2 id (between, first, later) none =
      lent-keep stage packs between w2 id later none.1 ∙ first.left id ∙ left-other (group_writes group) w id none.0

  -- what the later groups declare is as it was before an earlier one was lent its values
  earlier : (group : Group ResourceId) (stage : Stage ResourceId) (packs : List (Packed V S)) (w between w2 : Holding V) → IsFreeOfAll group stage → ((id : ResourceId) → between id ≡ left_of (group_writes group) w id)
      → SeeWhatTheyDeclare stage packs between w2 → SeeWhatTheyDeclare stage packs w w2
  earlier group [] [] w between w2 free left see = tt
  earlier group [] (pack ∷ packs) w between w2 free left see = absurd see
  earlier group (other ∷ stage) [] w between w2 free left see = absurd see
  earlier group (other ∷ stage) (pack ∷ packs) w between w2 free left see =
      let same : cut (group_reads other) (group_writes other) between ≡ cut (group_reads other) (group_writes other) w =
      fun_ext (λ id.
      ap (λ slot. if is_listed (group_writes other) id then owned_of (takable slot) else (if is_listed (group_reads other) id then shared_of (readable slot) else absent)) (left id)
      ∙ cut-left (is_listed (group_writes group) id) (is_listed (group_writes other) id) (is_listed (group_reads other) id) (w id) (free.0.ids id)) in
      (see.0 ∙ same, earlier group stage packs w between w2 free.1 left see.1)

  pub lent-see : (stage : Stage ResourceId) (packs : List (Packed V S)) (w w2 : Holding V) → AreFree stage → AreLent stage packs w w2 → SeeWhatTheyDeclare stage packs w w2
  lent-see [] [] w w2 free lent = tt
  lent-see [] (pack ∷ packs) w w2 free lent = absurd lent
  lent-see (group ∷ stage) [] w w2 free lent = absurd lent
  lent-see (group ∷ stage) (pack ∷ packs) w w2 (_, free_of, free) (between, first, later) = (here, earlier group stage packs w between w2 free_of first.left (lent-see stage packs between w2 free later))
    where
      here : view_slots (group_reads group) (group_writes group) w2 pack.seat ≡ cut (group_reads group) (group_writes group) w
      here = fun_ext (λ id. seen-slot (is_listed (group_writes group) id) (is_listed (group_reads group) id) (get pack.seat id) (w id) (w2 id) (first.seat id)
          (λ unwritten read. lent-keep stage packs between w2 id later (none-writes group stage id free_of read) ∙ first.left id ∙ left-other (group_writes group) w id unwritten))
