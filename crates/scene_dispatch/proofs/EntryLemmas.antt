-- What the planner of a document is told of an entry, beside what a dispatcher's is.
use Rattle.std.proofs.Common.{◌≡◌, ℕ, suc, ◌≤◌, Bool, true, false, List, [], ◌∷◌, ◌++◌, length, map, Option, Some, None, refl, ap, sym, ◌∙◌, arith}
use Rattle.std.specs.Prelude.{slice_get, unwrap_or}
use Rattle.std.specs.List.{AllPairs, AllByRecursion, filter_map}
use Rattle.std.proofs.lemmas.List.{map-append}
use Rattle.std.proofs.lemmas.List.Elements.{All-from_recursion}
use Rattle.std.proofs.lemmas.List.Kept.{AllPairs-cons}
use Rattle.shred_world.specs.declared.resource_id.ResourceId.{ResourceId}
use Rattle.shred_world.specs.ResourceIds.{same_id}
use Rattle.shred_plan.specs.Plan.{Placing, fence}
use Rattle.scene_model.specs.Rulebook.{Access, Facts}
use Rattle.scene_document.specs.Drafts.{DraftEntry, DraftSystem, barrier, system}
use Rattle.scene_document.specs.Openings.{Resource, same_resource, reads_of, writes_of, number_named, next_number, staged, staged_at, staged_list}
use Rattle.scene_world.specs.Standing.{Kinds}
use Rattle.scene_world.specs.Lent.{AreKnown, StandApart}
use Rattle.scene_dispatch.specs.Alike.{Beside, fences, both, to_one, to_other, partners_of, AreNumberedAlike, ConflictAlike}
use Rattle.scene_dispatch.specs.Declaring.{DeclareOne}
use Rattle.scene_dispatch.specs.Entries.{systems_among, plain_system, meant_at}
use Rattle.scene_dispatch.specs.Orders.{nobody}
use Rattle.scene_dispatch.specs.Told.{FactsKnown, declared_of, told_at, told_from}
use Rattle.scene_dispatch.proofs.NumberLemmas.{staged_count, next-counted, further, next-place}
use Rattle.scene_dispatch.proofs.FoundLemmas.{stands-there}
use Rattle.scene_dispatch.proofs.ConflictLemmas.{conflicts-same}

-- what holds of what has a weaker property
pub each-weaker : {X : Type 0} (P Q : X → Type 0) → ((x : X) → P x → Q x) → (xs : List X) → AllByRecursion P xs → AllByRecursion Q xs
each-weaker P Q weaker [] each = tt
each-weaker P Q weaker (x ∷ xs) each = (weaker x each.0, each-weaker P Q weaker xs each.1)

module _ {V : Type 0} (kinds : Kinds V) where
  -- a staged system as the planner of a document is told of it
  abbrev one_told : List DraftEntry → ℕ → DraftSystem → Facts → Placing Resource
  one_told all number one facts = record { number = number; reads = reads_of facts.access; writes = writes_of facts.access; after = filter_map (number_named 0 all) one.after; time = facts.time }

  -- and as the planner of a dispatcher is
  abbrev other_told : List DraftEntry → ℕ → ℕ → DraftSystem → Facts → Placing ResourceId
  other_told all number place one facts = record { number = number; reads = (declared_of kinds place facts).reads; writes = (declared_of kinds place facts).writes; after = filter_map (number_named 0 all) one.after; time = facts.time }

  -- what both are told of a system, which may be no staged one
  abbrev pub beside_at : List DraftEntry → ℕ → ℕ → DraftSystem → Bool → Option Facts → List (Beside Resource ResourceId)
  beside_at all number place one local None = []
  beside_at all number place one true (Some facts) = []
  beside_at all number place one false (Some facts) = both (one_told all number one facts) (other_told all number place one facts) ∷ []

  -- and of entries, the first of them at a place and with a number
  abbrev pub beside_from : List DraftEntry → ℕ → ℕ → List DraftEntry → List (Beside Resource ResourceId)
  beside_from all number place [] = []
  beside_from all number place (barrier ∷ entries) = fences ∷ beside_from all number (suc place) entries
  beside_from all number place (system one ∷ entries) = beside_at all number place one one.local one.facts ++ beside_from all (next_number number (system one)) (suc place) entries

  -- the one of them is the document's
  to-one-at : (all : List DraftEntry) (number place : ℕ) (one : DraftSystem) → map to_one (beside_at all number place one one.local one.facts) ≡ staged_at all number one one.facts
  to-one-at all number place one = by one.local refl one.facts
    where
      by : (local : Bool) → one.local ≡ local → (facts : Option Facts) → map to_one (beside_at all number place one local facts) ≡ staged_at all number one facts
      by local e None = refl
      by true e (Some facts) = rw e refl
      by false e (Some facts) = rw e refl

  -- so it is of entries
  pub to-one : (all : List DraftEntry) (number place : ℕ) (entries : List DraftEntry) → map to_one (beside_from all number place entries) ≡ staged all number entries
  to-one all number place [] = refl
  to-one all number place (barrier ∷ entries) = ap (λ list. fence ∷ list) (to-one all number (suc place) entries)
  to-one all number place (system one ∷ entries) =
      map-append to_one (beside_at all number place one one.local one.facts) (beside_from all (next_number number (system one)) (suc place) entries)
      ∙ ap (λ list. list ++ map to_one (beside_from all (next_number number (system one)) (suc place) entries)) (to-one-at all number place one)
      ∙ ap (λ list. staged_at all number one one.facts ++ list) (to-one all (next_number number (system one)) (suc place) entries)

  -- the other is the dispatcher's
  to-other-at : (all : List DraftEntry) (number place : ℕ) (one : DraftSystem) (local : Bool) (facts : Option Facts) → map to_other (beside_at all number place one local facts) ≡ told_at kinds all number place one local facts
  to-other-at all number place one local None = refl
  to-other-at all number place one true (Some facts) = refl
  to-other-at all number place one false (Some facts) = refl

  -- so it is of entries
  pub to-other : (all : List DraftEntry) (number place : ℕ) (entries : List DraftEntry) → map to_other (beside_from all number place entries) ≡ told_from kinds all number place entries
  to-other all number place [] = refl
  to-other all number place (barrier ∷ entries) = ap (λ list. fence ∷ list) (to-other all number (suc place) entries)
  to-other all number place (system one ∷ entries) =
      map-append to_other (beside_at all number place one one.local one.facts) (beside_from all (next_number number (system one)) (suc place) entries)
      ∙ ap (λ list. list ++ map to_other (beside_from all (next_number number (system one)) (suc place) entries)) (to-other-at all number place one one.local one.facts)
      ∙ ap (λ list. told_at kinds all number place one one.local one.facts ++ list) (to-other all (next_number number (system one)) (suc place) entries)

  -- two partners are told of the entry at a place: they say what its system declares, under its number
  pub record IsEntryAt (all : List DraftEntry) (place : ℕ) (pair : Placing Resource × Placing ResourceId) : Type 0 where
    pub access : Access
    pub known : AreKnown kinds access
    pub declares : DeclareOne kinds access place pair.0 pair.1
    pub numbered : AreNumberedAlike pair
    pub found : slice_get (staged_list 1 all) pair.0.number ≡ Some (meant_at all pair.1.number)
    pub position : (meant_at all pair.1.number).position ≡ place
    pub declared : (meant_at all pair.1.number).access ≡ access

  -- of one at a place or at a later one
  abbrev pub IsEntry : List DraftEntry → ℕ → Placing Resource × Placing ResourceId → Type 0
  IsEntry all from pair = (place : ℕ) × (from ≤ place) × IsEntryAt all place pair

  -- so it is of one at an earlier place or a later one
  earlier-entry : (all : List DraftEntry) (from : ℕ) (pair : Placing Resource × Placing ResourceId) → IsEntry all (suc from) pair → IsEntry all from pair
  earlier-entry all from pair (place, late, entry) = (place, omega arith, entry)

  module _ (all : List DraftEntry) where
    -- so the partners of a staged system are
    entry-told : (early later : List DraftEntry) (one : DraftSystem) (facts : Facts) (place number : ℕ) → all ≡ early ++ system one ∷ later → place ≡ suc (length early) → number ≡ staged_count early
        → AreKnown kinds facts.access → one.local ≡ false → one.facts ≡ Some facts → IsEntryAt all place (one_told all number one facts, other_told all number place one facts)
    entry-told early later one facts place number is at counted known staged there =
        let stands : slice_get (staged_list 1 all) number ≡ Some (plain_system place one facts) = stands-there all early later one facts place number is at counted staged there in
        let meant : meant_at all number ≡ plain_system place one facts = ap (λ o. unwrap_or o nobody) stands in
        record {
          access = facts.access;
          known = known;
          declares = record { reads = refl; writes = refl; read_ids = refl; written_ids = refl };
          numbered = record { number = refl; after = refl; time = refl };
          found = stands ∙ ap Some (sym meant);
          position = ap (λ plain. plain.position) meant;
          declared = ap (λ plain. plain.access) meant;
        }

    -- so all of them are
    pub entries-told : (early later : List DraftEntry) (place number : ℕ) → all ≡ early ++ later → place ≡ suc (length early) → number ≡ staged_count early
        → AllByRecursion (λ one. FactsKnown kinds one.facts) (systems_among later) → AllByRecursion (IsEntry all place) (partners_of (beside_from all number place later))
    entries-told early [] place number is at counted known = tt
    entries-told early (barrier ∷ later) place number is at counted known =
        each-weaker (IsEntry all (suc place)) (IsEntry all place) (earlier-entry all place) (partners_of (beside_from all number (suc place) later))
        (entries-told (early ++ barrier ∷ []) later (suc place) number (further all early barrier later is) (next-place early barrier place at) (next-counted early barrier number counted) known)
    entries-told early (system one ∷ later) place number is at counted known =
        by one.local refl one.facts refl known.0
        (each-weaker (IsEntry all (suc place)) (IsEntry all place) (earlier-entry all place) (partners_of (beside_from all (next_number number (system one)) (suc place) later))
        (entries-told (early ++ system one ∷ []) later (suc place) (next_number number (system one)) (further all early (system one) later is) (next-place early (system one) place at)
        (next-counted early (system one) number counted) known.1))
      where
        by : (local : Bool) → one.local ≡ local → (facts : Option Facts) → one.facts ≡ facts → FactsKnown kinds facts
            → AllByRecursion (IsEntry all place) (partners_of (beside_from all (next_number number (system one)) (suc place) later))
            → AllByRecursion (IsEntry all place) (partners_of (beside_at all number place one local facts ++ beside_from all (next_number number (system one)) (suc place) later))
        by local e None there knows rest = rest
        by true e (Some facts) there knows rest = rest
        by false e (Some facts) there knows rest = ((place, omega arith, entry-told early later one facts place number is at counted knows e there), rest)

    module _ (apart : StandApart kinds) where
      -- of two entries the later conflicts with the earlier in both plans the same
      entries-agree : (earlier later : Placing Resource × Placing ResourceId) (place : ℕ) → IsEntryAt all place earlier → IsEntry all (suc place) later → ConflictAlike same_resource same_id earlier later
      entries-agree earlier later place here (other, late, there) =
          conflicts-same kinds apart there.access here.access there.known here.known other place (λ e. omega arith) later.0 earlier.0 later.1 earlier.1 there.declares here.declares

      -- so it is with each two of them
      pub entries-alike : (early later : List DraftEntry) (place number : ℕ) → all ≡ early ++ later → place ≡ suc (length early) → number ≡ staged_count early
          → AllByRecursion (λ one. FactsKnown kinds one.facts) (systems_among later)
          → AllPairs (ConflictAlike same_resource same_id) (partners_of (beside_from all number place later))
      entries-alike early [] place number is at counted known = λ i j d less within. absurd (omega arith)
      entries-alike early (barrier ∷ later) place number is at counted known =
          entries-alike (early ++ barrier ∷ []) later (suc place) number (further all early barrier later is) (next-place early barrier place at) (next-counted early barrier number counted) known
      entries-alike early (system one ∷ later) place number is at counted known =
          by one.local refl one.facts refl known.0
          (entries-told (early ++ system one ∷ []) later (suc place) (next_number number (system one)) (further all early (system one) later is) (next-place early (system one) place at)
          (next-counted early (system one) number counted) known.1)
          (entries-alike (early ++ system one ∷ []) later (suc place) (next_number number (system one)) (further all early (system one) later is) (next-place early (system one) place at)
          (next-counted early (system one) number counted) known.1)
        where
          rest : List (Placing Resource × Placing ResourceId)
          rest = partners_of (beside_from all (next_number number (system one)) (suc place) later)

          by : (local : Bool) → one.local ≡ local → (facts : Option Facts) → one.facts ≡ facts → FactsKnown kinds facts
              → AllByRecursion (IsEntry all (suc place)) rest → AllPairs (ConflictAlike same_resource same_id) rest
              → AllPairs (ConflictAlike same_resource same_id) (partners_of (beside_at all number place one local facts ++ beside_from all (next_number number (system one)) (suc place) later))
          by local e None there knows told agree = agree
          by true e (Some facts) there knows told agree = agree
          by false e (Some facts) there knows told agree =
              let first : Placing Resource × Placing ResourceId = (one_told all number one facts, other_told all number place one facts) in
              let here : IsEntryAt all place first = entry-told early later one facts place number is at counted knows e there in
              AllPairs-cons (ConflictAlike same_resource same_id) first rest
              (All-from_recursion (ConflictAlike same_resource same_id first) rest
              (each-weaker (IsEntry all (suc place)) (ConflictAlike same_resource same_id first) (λ second. entries-agree first second place here) rest told))
              agree
