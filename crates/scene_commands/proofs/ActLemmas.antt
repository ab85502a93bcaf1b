-- A part that is put in, or taken out, is the command that asks for it.
use Rattle.std.proofs.Common.{◌≡◌, ◌≤◌, ◌+◌, ℕ, Bool, true, false, cond, ◌&&◌, List, [], ◌∷◌, length, map, Option, Some, None, is_some, refl, ap, sym, ◌∙◌, subst, All}
use native.Mathlib.Omega.{arith}
use Rattle.std.specs.List.{list_all}
use Rattle.std.specs.FinSet as set
use Rattle.std.proofs.lemmas.Bool.{false≢true}
use Rattle.std.proofs.lemmas.List.{length-map}
use Rattle.std.proofs.lemmas.List.Elements.{All-nil, All-cons}
use Rattle.shred_world.specs.Worlds.{Slots}
use Rattle.specs_entity.specs.Births.{Births, count, living, living_of, number_of, persistent_at}
use Rattle.specs_entity.specs.Life.{Life, LifeAt}
use Rattle.scene_model.specs.Parts.{Name, living as reaching, Part, is_among}
use Rattle.scene_model.specs.Rulebook.{put, take}
use Rattle.scene_model.specs.Scenes.{PlainScene, lives}
use Rattle.scene_model.specs.Commands.{apply, changed, skipped, refs_live, ref_lives, with_part}
use Rattle.scene_model.specs.Laws.{refs_to}
use Rattle.scene_world.specs.Stored.{Stored}
use Rattle.scene_world.specs.Rolls.{Roll, is_life, ids_in}
use Rattle.scene_world.specs.Standing.{Kinds, roll_of, owning_in, plain_of}
use Rattle.scene_world.specs.Lent.{StandApart}
use Rattle.scene_world.proofs.CallerLemmas.{living-lives, life-is, life-there}
use Rattle.scene_commands.specs.Acts.{seen_of, entity_under, AreUnder, WasBorn, MayAct, Acts, SetsColumn, PutsPart}
use Rattle.scene_commands.proofs.LookLemmas.{under-is, under-at, lives-under, all-live, one-lacks, stored-part}
use Rattle.scene_commands.proofs.PutLemmas.{sets-may, sets-scene}

-- a life at an index is one of its births
pub life-counted : (births : Births) (index : ℕ) (life : Life) → living births index ≡ Some life → life.number ≤ count births index
life-counted births index life = last-is (set.contains births.fresh index) (persistent_at births index)
  where
    last-is : (fresh : Bool) (last : Option Life) → living_of fresh last ≡ Some life → life.number ≤ number_of last + (cond fresh 1 0)
    last-is true last e = let same : number_of last + 1 ≡ life.number = cc in omega (arith, same)
    last-is false None e = cc
    last-is false (Some one) e = at one.lives e
      where
        at : (b : Bool) → cond b (Some one) None ≡ Some life → life.number ≤ one.number + 0
        at true f = let same : one.number ≡ life.number = cc in omega (arith, same)
        at false f = cc

-- an entity that lives is one of the births of its index
pub alive-born : (births : Births) (entity : LifeAt) → is_life entity.generation (living births entity.id) ≡ true → WasBorn births entity
alive-born births entity alive = by (living births entity.id) refl alive
  where
    by : (o : Option Life) → living births entity.id ≡ o → is_life entity.generation o ≡ true → entity.generation.number ≤ count births entity.id
    by None e is = absurd (false≢true is)
    by (Some life) e is = subst (λ l. l.number ≤ count births entity.id) (life-is entity.generation life (living-lives births entity.id life e) is) (life-counted births entity.id life e)

-- so are all that are known under ids
pub all-born : (roll : Roll) (ids : List ℕ) (named : List LifeAt) → map (entity_under roll) ids ≡ map (λ entity. Some entity) named → All (WasBorn roll.births) named
all-born roll [] [] e = All-nil (WasBorn roll.births)
all-born roll [] (entity ∷ named) e = cc
all-born roll (id ∷ ids) [] e = cc
all-born roll (id ∷ ids) (entity ∷ named) e =
    let first : entity_under roll id ≡ Some entity = cc in
    let rest : map (entity_under roll) ids ≡ map (λ one. Some one) named = cc in
    All-cons (WasBorn roll.births) entity named (alive-born roll.births entity (under-is roll id entity first).alive) (all-born roll ids named rest)

-- there are as many of them as ids
pub as-many : (roll : Roll) (ids : List ℕ) (named : List LifeAt) (part : Part) → refs_to ids ≡ part.refs → map (entity_under roll) ids ≡ map (λ entity. Some entity) named → length named ≡ length part.refs
as-many roll ids named part refs found =
    sym (length-map named (λ (entity : LifeAt). Some entity)) ∙ sym (ap length found) ∙ length-map ids (entity_under roll) ∙ sym (length-map ids (λ id. reaching id)) ∙ ap length refs

module _ {V : Type 0} (kinds : Kinds V) (apart : StandApart kinds) (kind : Name) (known : is_among kind kinds.part_names ≡ true) (id : ℕ) (w : Slots V) (may : MayAct kinds w) where
  abbrev old : Roll
  old = roll_of kinds (seen_of w)

  module _ (entity : LifeAt) (under : entity_under old id ≡ Some entity) where
    there : is_some (living old.births entity.id) ≡ true
    there = life-there entity.generation (living old.births entity.id) (under-is old id entity under).alive

    lives-now : lives id (ids_in old) ≡ true
    lives-now = lives-under old id ∙ ap is_some under

    -- a part is put in: the command does that
    module _ (part : Part) (ids : List ℕ) (refs : refs_to ids ≡ part.refs) where
      module _ (named : List LifeAt) (found : AreUnder old ids (Some named)) (later : Slots V) (puts : PutsPart kinds kind entity.id part named (seen_of w) (seen_of later)) where
        born : (one : Stored) → Some puts.one ≡ Some one → All (WasBorn old.births) one.named
        born one e = let same : puts.one ≡ one = cc in subst (λ s. All (WasBorn old.births) s.named) same (subst (All (WasBorn old.births)) (sym puts.is.names) (all-born old ids named found))

        pub put-may : MayAct kinds later
        put-may = sets-may kinds apart kind known entity.id (Some puts.one) w later puts.sets may there born

        pub put-acts : Acts kinds (put id kind part) true w later
        put-acts =
            ap (λ b. cond b (changed (made part)) skipped) (ap (λ b. b && refs_live (ids_in old) part) lives-now ∙ live)
            ∙ ap (λ p. changed (made p)) (sym (stored-part old part ids named puts.one refs found puts.is))
            ∙ ap changed (sym (sets-scene kinds apart kind known entity.id (Some puts.one) w later puts.sets may there born id (under-at old id entity under)))
          where
            made : Part → PlainScene
            made p = record (plain_of kinds (seen_of w)) { part = with_part id kind (Some p) (plain_of kinds (seen_of w)).part }

            live : refs_live (ids_in old) part ≡ true
            live = ap (list_all (ref_lives (ids_in old))) (sym refs) ∙ all-live old ids named found

      -- it is skipped where one of its references isn't to one that lives
      pub put-lacks : AreUnder old ids None → apply (owning_in kinds) (put id kind part) (plain_of kinds (seen_of w)) ≡ skipped
      put-lacks lacks = by (lives id (ids_in old)) (refs_live (ids_in old) part) (ap (list_all (ref_lives (ids_in old))) (sym refs) ∙ sym (one-lacks old ids) ∙ lacks)
        where
          made : PlainScene
          made = record (plain_of kinds (seen_of w)) { part = with_part id kind (Some part) (plain_of kinds (seen_of w)).part }

          by : (a b : Bool) → b ≡ false → cond (a && b) (changed made) skipped ≡ skipped
          by true b e = ap (λ x. cond x (changed made) skipped) e
          by false b e = refl

    -- a part is taken out: the command does that
    module _ (later : Slots V) (sets : SetsColumn kinds kind entity.id None (seen_of w) (seen_of later)) where
      pub take-may : MayAct kinds later
      take-may = sets-may kinds apart kind known entity.id None w later sets may there (λ one e. cc)

      pub take-acts : Acts kinds (take id kind) true w later
      take-acts =
          ap (λ b. cond b (changed (record (plain_of kinds (seen_of w)) { part = with_part id kind None (plain_of kinds (seen_of w)).part })) skipped) lives-now
          ∙ ap changed (sym (sets-scene kinds apart kind known entity.id None w later sets may there (λ one e. cc) id (under-at old id entity under)))

  -- either is skipped where nobody lives under the id
  module _ (none : entity_under old id ≡ None) where
    nobody : lives id (ids_in old) ≡ false
    nobody = lives-under old id ∙ ap is_some none

    pub put-skips : (part : Part) → apply (owning_in kinds) (put id kind part) (plain_of kinds (seen_of w)) ≡ skipped
    put-skips part = ap (λ b. cond (b && refs_live (ids_in old) part) (changed (record (plain_of kinds (seen_of w)) { part = with_part id kind (Some part) (plain_of kinds (seen_of w)).part })) skipped) nobody

    pub take-skips : apply (owning_in kinds) (take id kind) (plain_of kinds (seen_of w)) ≡ skipped
    take-skips = ap (λ b. cond b (changed (record (plain_of kinds (seen_of w)) { part = with_part id kind None (plain_of kinds (seen_of w)).part })) skipped) nobody
