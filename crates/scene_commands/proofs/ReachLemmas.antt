-- Entities that are reached from one by an index of holders.
use Rattle.std.proofs.Common.{◌≡◌, ◌<◌, ◌≤◌, ◌+◌, ◌||◌, ◌⊎◌, inl, inr, ℕ, zero, suc, Bool, true, false, cond, eqb, List, [], ◌∷◌, ◌++◌, length, take, get_or, append_assoc, length-append, Some, refl, ap, sym, ◌∙◌, subst, arith, All}
use Rattle.std.specs.Prelude.{nat_eq, option_map}
use Rattle.std.specs.List.{list_any, IsDistinct}
use Rattle.std.specs.HashSet.{HashSet, contains, IsEmpty}
use Rattle.std.proofs.lemmas.Bool.{false≢true, eqb-true, eq-eqb, and_parts, and_from, or_cases, or_left, or_right}
use Rattle.std.proofs.lemmas.Cmp.{nat_eq_equiv}
use Rattle.std.proofs.lemmas.List.{append-nil, map-append, take_more, take-append-le, length-map}
use Rattle.std.proofs.lemmas.List.Folds.{list_any-append}
use Rattle.std.proofs.lemmas.List.Elements.{All-append, All-weaker}
use Rattle.std.proofs.lemmas.Map.Keys.{IsDistinct-push}
use Rattle.std.proofs.lemmas.Map.Steps.{length-le_from_distinct_below}
use Rattle.shred_world.specs.Worlds.{Slots}
use Rattle.specs_entity.specs.Births.{IsAlive, is_named, indices_of, living}
use Rattle.specs_entity.specs.Closures.{IsPaired}
use Rattle.specs_entity.specs.Life.{LifeAt}
use Rattle.scene_model.specs.Parts.{Name, is_among}
use Rattle.scene_world.specs.Rolls.{Roll, is_life, index_of}
use Rattle.scene_world.specs.Standing.{Sight, Kinds, roll_of, column_of, owning_in, plain_of}
use Rattle.scene_world.specs.Putting.{named_in}
use Rattle.scene_world.proofs.CallerLemmas.{index-of-id, id-marks}
use Rattle.scene_commands.specs.Acts.{seen_of, entity_under, MayAct}
use Rattle.scene_commands.specs.declared.holders.Holders.{Holders}
use Rattle.scene_commands.specs.Links.{link_at, AreLinked, Covers}
use Rattle.scene_commands.specs.Owning.{PairAlike, ArePairs, IsNoted}
use Rattle.scene_commands.specs.Reaching.{stands_at, any_at, names_at, refers_at, HasUnder, HasReferring, Tells, GoesOnBy}
use Rattle.scene_commands.proofs.LookLemmas.{under-is, index-under}
use Rattle.scene_commands.proofs.FallLemmas.{there-is, stands-alive, among-kept, refers-alike, refers-pair, held-at, holds-told, alive-at, marks-at}

-- ---- lists

-- a test or none is that test
or-none : (b : Bool) → (b || false) ≡ b
or-none true = refl
or-none false = refl

-- what passes one test passes another
any-weaker : {X : Type 0} (one other : X → Bool) → ((x : X) → one x ≡ true → other x ≡ true) → (xs : List X) → list_any one xs ≡ true → list_any other xs ≡ true
any-weaker one other weaker [] is = is
any-weaker one other weaker (x ∷ xs) is = elim (or_cases (one x) (list_any one xs) is) [
  | inl here ↦ or_left (other x) (list_any other xs) (weaker x here)
  | inr there ↦ or_right (other x) (list_any other xs) (any-weaker one other weaker xs there)
]

-- whether an index is that of one of a list and one more
pub named-push : (entities : List LifeAt) (entity : LifeAt) (index : ℕ) → is_named (entities ++ entity ∷ []) index ≡ (is_named entities index || eqb index entity.id)
named-push entities entity index =
    ap (list_any (eqb index)) (map-append (λ (one : LifeAt). one.id) entities (entity ∷ [])) ∙ list_any-append (eqb index) (indices_of entities) (entity.id ∷ [])
    ∙ ap (λ b. is_named entities index || b) (or-none (eqb index entity.id))

-- a list goes on itself
pub goes-on-not : (Passes : LifeAt → Type 0) (entities : List LifeAt) → GoesOnBy Passes entities entities
goes-on-not Passes entities = ([], sym (append-nil entities), λ k d below. absurd (omega (arith, below)))

-- or by one entity
pub goes-on-one : (entities : List LifeAt) (entity : LifeAt) → GoesOnBy (λ one. one ≡ entity) entities (entities ++ entity ∷ [])
goes-on-one entities entity = (entity ∷ [], refl, alone)
  where
    alone : All (λ one. one ≡ entity) (entity ∷ [])
    alone zero d below = refl
    alone (suc k) d below = absurd (omega (arith, below))

module _ (Passes : LifeAt → Type 0) where
  -- and further on
  pub goes-on-further : (one mid last : List LifeAt) → GoesOnBy Passes one mid → GoesOnBy Passes mid last → GoesOnBy Passes one last
  goes-on-further one mid last first then =
      (first.0 ++ then.0, then.1 ∙ ap (λ l. l ++ then.0) first.1 ∙ append_assoc one first.0 then.0, All-append Passes first.0 then.0 first.2 then.2)

  -- what is new passes each test that the entity passes
  pub goes-on-by : (entity : LifeAt) → Passes entity → (old new : List LifeAt) → GoesOnBy (λ one. one ≡ entity) old new → GoesOnBy Passes old new
  goes-on-by entity passes old new goes = (goes.0, goes.1, All-weaker (λ one. one ≡ entity) Passes (λ one same. subst Passes (sym same) passes) goes.0 goes.2)

  -- where all passed, all pass
  pub all-further : (old new : List LifeAt) → All Passes old → GoesOnBy Passes old new → All Passes new
  all-further old new all goes = subst (All Passes) (sym goes.1) (All-append Passes old goes.0 all goes.2)

  -- who is named before is named still
  pub named-further : (old new : List LifeAt) → GoesOnBy Passes old new → (index : ℕ) → is_named old index ≡ true → is_named new index ≡ true
  named-further old new goes index is =
      ap (λ l. is_named l index) goes.1 ∙ ap (list_any (eqb index)) (map-append (λ (one : LifeAt). one.id) old goes.0) ∙ list_any-append (eqb index) (indices_of old) (indices_of goes.0)
      ∙ or_left (is_named old index) (is_named goes.0 index) is

  -- it isn't shorter
  pub longer-length : (old new : List LifeAt) → GoesOnBy Passes old new → length old ≤ length new
  longer-length old new goes = let sum = length-append old goes.0 in subst (λ l. length old ≤ length l) (sym goes.1) (omega (arith, sum))

  -- who is named among the first so many and one more
  pub named-step : (old new : List LifeAt) (k : ℕ) (d : LifeAt) → k < length old → GoesOnBy Passes old new → (index : ℕ) → is_named (take (k + 1) new) index ≡ true
      → (is_named (take k old) index ≡ true) ⊎ (index ≡ (get_or old k d).id)
  named-step old new k d inside goes index is = elim (or_cases (is_named (take k old) index) (eqb index (get_or old k d).id)
      (sym (ap (λ l. is_named (take (k + 1) l) index) goes.1 ∙ ap (λ l. is_named l index) (take-append-le (k + 1) old goes.0 (omega (arith, inside)))
      ∙ ap (λ l. is_named l index) (take_more old k d inside) ∙ named-push (take k old) (get_or old k d) index) ∙ is)) [
        | inl before ↦ inl before
        | inr here ↦ inr (eqb-true index (get_or old k d).id here)
      ]

-- ---- sets that have the indices of entities

-- nothing in either
pub tells-none : {S : Type 0} (seen : HashSet ℕ S) → IsEmpty seen → Tells seen []
unfolding IsDistinct
tells-none seen empty = record { same = λ index. ap (list_any (eqb index)) empty; once = tt; below = λ index is. absurd (false≢true is) }

module _ {S : Type 0} (seen : HashSet ℕ S) (entities : List LifeAt) (tells : Tells seen entities) where
  -- an entity comes in at an index that isn't in
  pub tells-more : (later : HashSet ℕ S) (entity : LifeAt) → entity.id < 16777216 → contains nat_eq seen entity.id ≡ false
      → ((index : ℕ) → contains nat_eq later index ≡ cond (eqb entity.id index) true (contains nat_eq seen index)) → Tells later (entities ++ entity ∷ [])
  tells-more later entity range out puts = record {
    same = λ index. puts index ∙ ap (cond (eqb entity.id index) true) (tells.same index) ∙ turned index (eqb entity.id index) refl ∙ sym (named-push entities entity index);
    once = subst (IsDistinct eqb) (sym (map-append (λ (one : LifeAt). one.id) entities (entity ∷ []))) (IsDistinct-push nat_eq_equiv (indices_of entities) entity.id tells.once (sym (tells.same entity.id) ∙ out));
    below = λ index is. elim (or_cases (is_named entities index) (eqb index entity.id) (sym (named-push entities entity index) ∙ is)) [
      | inl old ↦ tells.below index old
      | inr same ↦ subst (λ n. n < 16777216) (sym (eqb-true index entity.id same)) range
    ];
  }
    where
      turned : (index : ℕ) (b : Bool) → eqb entity.id index ≡ b → cond b true (is_named entities index) ≡ (is_named entities index || eqb index entity.id)
      turned index true same = sym (or_right (is_named entities index) (eqb index entity.id) (eq-eqb index entity.id (sym (eqb-true entity.id index same))))
      turned index false apart = sym (ap (λ b. is_named entities index || b) (out_of (eqb index entity.id) refl) ∙ or-none (is_named entities index))
        where
          out_of : (c : Bool) → eqb index entity.id ≡ c → c ≡ false
          out_of true e = absurd (false≢true (sym apart ∙ eq-eqb entity.id index (sym (eqb-true index entity.id e))))
          out_of false e = refl

  -- there aren't more than all indices
  pub tells-short : length entities ≤ 16777216
  tells-short = subst (λ n. n ≤ 16777216) (length-map entities (λ (one : LifeAt). one.id)) (length-le_from_distinct_below (indices_of entities) 16777216 tells.once tells.below)

-- ---- worlds

-- who is known under an id is alive
pub under-alive : (roll : Roll) (id : ℕ) (entity : LifeAt) → entity_under roll id ≡ Some entity → IsAlive roll.births entity
under-alive roll id entity under =
    (stands-alive roll.births entity.id entity (and_from (is_life entity.generation (living roll.births entity.id)) (eqb entity.id entity.id) (under-is roll id entity under).alive (eq-eqb entity.id entity.id refl))).0

-- the index of an id is that of who is known under it
pub index-is : (roll : Roll) (id : ℕ) (entity : LifeAt) → entity_under roll id ≡ Some entity → (index : ℕ) → index_of roll id ≡ Some index → entity.id ≡ index
index-is roll id entity under index at =
    let both : Some entity.id ≡ Some index = sym (index-under roll id ∙ ap (option_map (λ one. one.id)) under) ∙ at in
    cc

-- who refers to one that lives at an index names one that is or was there
pub refers-names : {V : Type 0} (kinds : Kinds V) (w : Sight V) (names : List Name) (holder target : ℕ) → refers_at kinds w names holder target ≡ true → names_at kinds w names holder target ≡ true
refers-names kinds w names holder target = any-weaker (λ kind. list_any (stands_at (roll_of kinds w).births target) (named_in (column_of kinds w kind holder))) (λ kind. any_at target (named_in (column_of kinds w kind holder)))
    (λ kind. any-weaker (stands_at (roll_of kinds w).births target) (λ one. eqb one.id target)
    (λ one stands. (and_parts (is_life one.generation (living (roll_of kinds w).births one.id)) (eqb one.id target) stands).1) (named_in (column_of kinds w kind holder))) names

-- where each that is linked to an entity was looked at, all that refer to it are in
pub all-referring : {V : Type 0} (kinds : Kinds V) (w : Slots V) → MayAct kinds w → (names : List Name) → PairAlike kinds (seen_of w) names (owning_in kinds) → (holders : Holders) → holders.made ≡ true → Covers kinds holders w
    → (target : LifeAt) → IsAlive (roll_of kinds (seen_of w)).births target → (id : ℕ) → (roll_of kinds (seen_of w)).marker target.id ≡ Some id → (entities : List LifeAt)
    → ((place : ℕ) → place < length holders.links.items → (link_at holders.links.items place).target ≡ id → HasUnder kinds (seen_of w) names entities target.id (link_at holders.links.items place).holder)
    → HasReferring kinds (seen_of w) names entities target.id
all-referring kinds w may names like holders made covers target alive id marked entities passed holder there refers =
    let roll : Roll = roll_of kinds (seen_of w) in
    let known : (kind : Name) → is_among kind (owning_in kinds) ≡ true → is_among kind kinds.part_names ≡ true = λ kind among. among-kept kinds.owning kind kinds.part_names among in
    let life = there-is (living roll.births holder) there in
    let mark = alive-at kinds (seen_of w) (owning_in kinds) may.roll known holder life.0 life.1 in
    let one : LifeAt = record { id = holder; generation = life.0 } in
    let owns = sym (refers-alike kinds (seen_of w) names (owning_in kinds) like one life.1 target.id) ∙ refers in
    let at_target = marks-at kinds (seen_of w) (owning_in kinds) may.roll known target id alive marked in
    let link = covers.linked made mark.0 id (holds-told kinds (seen_of w) (owning_in kinds) may.roll known mark.0 id holder target.id mark.1 at_target ∙ owns) in
    passed link.0 link.1 link.3 holder (ap (index_of roll) link.2 ∙ index-of-id roll may.roll mark.0 holder mark.1) refers

-- where each pair of those that live was noted, whoever holds on to another is linked to it
pub noted-linked : {V : Type 0} (kinds : Kinds V) (w : Slots V) → MayAct kinds w → (names : List Name) → PairAlike kinds (seen_of w) names (owning_in kinds) → (pairs lent : List (LifeAt × LifeAt)) → ArePairs kinds (seen_of w) names pairs → lent ≡ pairs
    → (holders : Holders) → All (IsNoted kinds (seen_of w) holders) lent → AreLinked (owning_in kinds) (plain_of kinds (seen_of w)) holders
noted-linked kinds w may names like pairs lent paired lent_are holders noted holder target holds =
    let roll : Roll = roll_of kinds (seen_of w) in
    let held = held-at kinds w may holder target holds in
    let one : LifeAt = record { id = held.one; generation = held.life } in
    let refers = refers-alike kinds (seen_of w) names (owning_in kinds) like one held.lives_it held.other ∙ held.refers in
    let some : IsPaired roll.births lent held.one held.other = subst (λ l. IsPaired roll.births l held.one held.other) (sym (lent_are ∙ paired.are))
    (refers-pair kinds (seen_of w) names paired.all paired.living held.one held.other held.life held.lives_it refers) in
    let at : IsNoted kinds (seen_of w) holders some.1 = subst (IsNoted kinds (seen_of w) holders) some.3 (noted some.0 some.1 some.2) in
    at holder target (ap roll.marker some.4.2 ∙ id-marks roll holder held.one held.at_one) (ap roll.marker some.4.3 ∙ id-marks roll target held.other held.at_other)
