-- The entities of a reserve, and a phase at its opening.
use Rattle.std.proofs.Common.{◌≡◌, ◌⊎◌, ℕ, zero, suc, ◌+◌, ◌*◌, ◌<◌, ◌≤◌, ◌==◌, eqb, Bool, true, false, cond, Option, None, List, [], ◌∷◌, ◌++◌, length, get_or, take, refl, sym, ap, ◌∙◌, subst, arith, inl, inr, ⊎_elim, length-append}
use Rattle.std.proofs.lemmas.List.{take-append-le, take_all}
use Rattle.std.proofs.lemmas.List.Elements.{All-weaker, All-nil, All-push}
use Rattle.std.specs.List.{All}
use Rattle.std.specs.FinSet as fin
use mathlib.Core.Logic.{dite}
use native.Mathlib.Decide.{ℕ_discrete}
use mathlib.Core.Option.{some, some-injective, some-ne-none}
use lib.ListN.{get_elem?}
use Rattle.atomic_table.specs.Table.{opening}
use Rattle.hibitset.specs.AtomicCore.{Fits, AreWordsOf}
use Rattle.hibitset.proofs.RowLemmas.{sizes_for-fits}
use Rattle.specs_entity.specs.Life.{Life, LifeAt, first_life}
use Rattle.specs_entity.specs.Births.{Births, persistent_at, alive_of, next_life, next_index, all_created, newborn, newborns, indices_of, CanCreate}
use Rattle.specs_entity.specs.Layout.{AreBirths}
use Rattle.specs_entity.specs.declared.phase_core.Claimer.{Claimer}
use Rattle.specs_entity.specs.declared.phase_rule.PhaseKey.{PhaseKey}
use Rattle.specs_entity.specs.declared.phase_rule.EntityView.{EntityView}
use Rattle.specs_entity.specs.PhaseCore.{index_at}
use Rattle.specs_entity.specs.PhaseViews.{reach_of, setting_of, reserved, whole_view, IsNext}
use Rattle.specs_entity.specs.PhaseRule.{IsView, Holds, phase_of}
use Rattle.specs_entity.proofs.BirthLemmas.{more-none}
use Rattle.specs_entity.proofs.CreateLemmas.{AreBirths-all_created}
use Rattle.specs_entity.proofs.NewLemmas.{newborns-fresh}
use Rattle.specs_entity.proofs.PhaseCoreLemmas.{opening-holds}

pub newborns-length : (number : ℕ) (births : Births) → length (newborns number births) ≡ number
newborns-length zero births = refl
newborns-length (suc more) births = let n = newborns-length more births in let one = length-append (newborns more births) (newborn (all_created more births) ∷ []) in omega arith

longer-by-one : (births : Births) (cached : Bool) → length (cond cached (births.persistent ++ None ∷ []) births.persistent) ≤ length births.persistent + 1
longer-by-one births true = let n = length-append births.persistent (None ∷ []) in omega arith
longer-by-one births false = omega arith

used-most : (number : ℕ) (births : Births) → length (all_created number births).persistent ≤ length births.persistent + number
used-most zero births = omega arith
used-most (suc more) births = let before = used-most more births in let one = longer-by-one (all_created more births) (eqb (length (all_created more births).cache) 0) in omega arith

same-at : (cached : Bool) (lasts : List (Option Life)) (index : ℕ) → get_or (cond cached (lasts ++ None ∷ []) lasts) index None ≡ get_or lasts index None
same-at true lasts index = more-none lasts index
same-at false lasts index = refl

-- births by `create` leave the last persistent birth of each index
pub persistent-created : (number : ℕ) (births : Births) (index : ℕ) → persistent_at (all_created number births) index ≡ persistent_at births index
persistent-created zero births index = refl
persistent-created (suc more) births index = same-at (length (all_created more births).cache == 0) (all_created more births).persistent index ∙ persistent-created more births index

-- each newborn has the generation after its index's last persistent birth
newborns-follow : (number : ℕ) (births : Births) → All (λ (entity : LifeAt). entity.generation ≡ next_life (persistent_at births entity.id)) (newborns number births)
newborns-follow zero births = All-nil _
newborns-follow (suc more) births = All-push (λ (entity : LifeAt). entity.generation ≡ next_life (persistent_at births entity.id)) (newborns more births) (newborn (all_created more births)) (newborns-follow more births) (ap next_life (persistent-created more births (next_index (all_created more births))))

-- the first births of a reserve are those of a smaller one
pub first-newborns : (number few : ℕ) (births : Births) → few ≤ number → take few (newborns number births) ≡ newborns few births
first-newborns zero few births most = let none_of : few ≡ 0 = omega arith in ap (λ n. take n (newborns 0 births)) none_of ∙ ap (λ n. newborns n births) (sym none_of)
first-newborns (suc more) few births most = dite (ℕ_discrete few (suc more))
    (λ same. let long = newborns-length (suc more) births in take_all few (newborns (suc more) births) (omega arith) ∙ ap (λ n. newborns n births) (sym same))
    (λ differ. let long = newborns-length more births in take-append-le few (newborns more births) (newborn (all_created more births) ∷ []) (omega arith) ∙ first-newborns more few births (omega arith))

-- the index at a place is that of the entity there
pub index-of_reserved : (entities : List LifeAt) (place : ℕ) (nobody : LifeAt) → nobody.id ≡ 0 → get_or (indices_of entities) place 0 ≡ (get_or entities place nobody).id
index-of_reserved [] place nobody zero_id = sym zero_id
index-of_reserved (entity ∷ entities) zero nobody zero_id = refl
index-of_reserved (entity ∷ entities) (suc place) nobody zero_id = index-of_reserved entities place nobody zero_id

pub indices-length : (entities : List LifeAt) → length (indices_of entities) ≡ length entities
indices-length [] = refl
indices-length (entity ∷ entities) = ap suc (indices-length entities)

below-or-not : (a b : ℕ) → (a < b) ⊎ (b ≤ a)
below-or-not a zero = inr (omega arith)
below-or-not zero (suc b) = inl (omega arith)
below-or-not (suc a) (suc b) = ⊎_elim (λ low. inl (omega arith)) (λ high. inr (omega arith)) (below-or-not a b)

-- past its end a list of numbers reads 0
past-end : (numbers : List ℕ) (at : ℕ) → length numbers ≤ at → get_or numbers at 0 ≡ 0
past-end [] at high = refl
past-end (number ∷ numbers) zero high = absurd (omega arith)
past-end (number ∷ numbers) (suc at) high = past-end numbers at (omega arith)

module _ (key : PhaseKey) (kept : AreBirths key.before) where
  abbrev nobody : LifeAt
  nobody = record { id = 0; generation = first_life }

  pub reach-few : reach_of key ≤ 16777216
  reach-few = omega arith

  pub reach-fits : Fits (setting_of key).sizes
  reach-fits = sizes_for-fits (reach_of key) reach-few

  pub reserve-length : length (setting_of key).reserve ≡ key.reserve
  reserve-length = indices-length (newborns key.reserve key.before) ∙ newborns-length key.reserve key.before

  pub index-reserved : (place : ℕ) → index_at (setting_of key) place ≡ (reserved key place).id
  index-reserved place = index-of_reserved (newborns key.reserve key.before) place nobody refl

  module _ (can : CanCreate key.reserve key.before) where
    -- each entity of the reserve is within reach
    pub reserve-within : All (λ (entity : LifeAt). entity.id < reach_of key) (newborns key.reserve key.before)
    reserve-within =
        let after = AreBirths-all_created key.reserve key.before kept can in
        let most = used-most key.reserve key.before in
        let used = after.used in
        let indices = after.indices in
        All-weaker (λ (entity : LifeAt). fin.contains (all_created key.reserve key.before).fresh entity.id ≡ true) (λ (entity : LifeAt). entity.id < reach_of key)
        (λ entity fresh. let low = after.fresh_used entity.id fresh in omega (arith, low, most, used, indices)) (newborns key.reserve key.before) (newborns-fresh key.reserve key.before kept can).fresh

    pub reserved-within : (place : ℕ) → place < key.reserve → (reserved key place).id < reach_of key
    reserved-within place low = let long = newborns-length key.reserve key.before in reserve-within place nobody (omega (arith, low, long))

    -- and the next entity of its index
    pub reserved-next : (place : ℕ) → place < key.reserve → IsNext key.before (reserved key place)
    reserved-next place low =
        let long = newborns-length key.reserve key.before in
        let after = AreBirths-all_created key.reserve key.before kept can in
        let fresh = (newborns-fresh key.reserve key.before kept can).fresh place nobody (omega (arith, low, long)) in (
          ap alive_of (sym (persistent-created key.reserve key.before (reserved key place).id)) ∙ after.fresh_dead (reserved key place).id fresh,
          newborns-follow key.reserve key.before place nobody (omega (arith, low, long)),
        )

    pub range : (place : ℕ) → index_at (setting_of key) place < 64 * (setting_of key).sizes.first
    range place = ⊎_elim (λ low. let within = reserved-within place low in let same = index-reserved place in omega (arith, within, same))
        (λ high. let none_there = past-end (setting_of key).reserve place (let long = reserve-length in omega (arith, high, long)) in omega (arith, none_there)) (below-or-not place key.reserve)

  pub opening-table : (words raised killed : List ℕ) → words ≡ 0 ∷ raised ++ killed → AreWordsOf (setting_of key).sizes (fin.contains key.before.fresh) raised → AreWordsOf (setting_of key).sizes (fin.contains key.before.deletions) killed → Holds key (opening words [] (whole_view key))
  opening-table words raised killed laid raised_of killed_of can = record {
    claim = 0;
    raised = raised;
    killed = killed;
    laid = laid;
    parts = refl;
    phase = opening-holds (setting_of key) reach-fits (phase_of 0 raised killed (whole_view key ∷ [])) record {
      range = range can;
      claim = refl;
      unborn = first_claimer;
      allowances = let long = reserve-length in omega (arith, long);
      raised = refl;
      killed = refl;
      raised_words = raised_of;
      killed_words = killed_of;
    };
    views = first;
  }
    where
      first_claimer : (who : ℕ) (claimer : Claimer) → get_elem? ((whole_view key).claimer ∷ []) who ≡ some claimer → (claimer.births ≡ []) × (claimer.pending ≡ [])
      first_claimer zero claimer at = subst (λ (c : Claimer). (c.births ≡ []) × (c.pending ≡ [])) (some-injective (whole_view key).claimer claimer at) (refl, refl)
      first_claimer (suc who) claimer at = absurd (some-ne-none claimer (sym at))

      first : (who : ℕ) (view : EntityView) → get_elem? (whole_view key ∷ []) who ≡ some view → IsView key view
      first zero view at = subst (IsView key) (some-injective (whole_view key) view at) record { holds = λ _. refl; spent = λ none_left. absurd (omega arith) }
      first (suc who) view at = absurd (some-ne-none view (sym at))
