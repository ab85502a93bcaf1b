-- What stays of the entities, their markers and what gives these, as bearers are looked for, and where one is refused.
use Rattle.std.proofs.Common.{◌≡◌, ◌≢◌, ◌⊎◌, ◌+◌, ◌≤◌, ℕ, zero, suc, Bool, true, false, cond, eqb, List, [], ◌∷◌, ◌++◌, length, map, take, slice_get, get_or, Option, Some, None, is_some, IsSome, option_map, inl, inr, refl, sym, ap, subst, ◌∙◌, append-nil, arith}
use Rattle.std.specs.FinSet as set
use Rattle.std.specs.List.{flat_map}
use Rattle.std.specs.Prelude.{◌==◌, ◌||◌}
use Rattle.std.proofs.lemmas.Bool.{eq-eqb, or_right}
use Rattle.std.proofs.lemmas.Bool.Decides.{eqb_tells}
use Rattle.std.proofs.lemmas.List.Concat.{flat_map-cons}
use Rattle.std.proofs.lemmas.Option.{none-some, same_Some}
use Rattle.hibitset_sets.proofs.CallerLemmas.{contains-with}
use Rattle.specs_entity.specs.Births.{Births, IsAlive, IsBorn, count, created, deleted, living, living_of, newborn, next_index, next_life, number_of, persistent_at}
use Rattle.specs_entity.specs.Life.{Life, LifeAt}
use Rattle.specs_entity.specs.declared.errors.Error.{Error}
use Rattle.specs_layouts.specs.MaskedLends.{StorageMembers}
use Rattle.specs_markers.specs.Marking.{FindsMarked, MakesMarked, RefusesMarked, RefusesRetrieval}
use Rattle.specs_saveload.specs.declared.entity_data.EntityData.{EntityData}
use Rattle.specs_saveload.specs.Bearing.{GoesOn, IsAmong}
use Rattle.specs_saveload.specs.Known.{IsClean, IsSound, Known, LivesIn, bearer_at}
use Rattle.specs_saveload.specs.Loading.{StandsIn, StaysSound}
use Rattle.specs_saveload.specs.NamingLemmas.{among-either, among-left, among-right}
use Rattle.specs_saveload.specs.Retrieved.{Retrieved, Retrievals, RetrievesLoaded, RetrievesLoadedSome, RetrievesSome}
use Rattle.specs_entity.proofs.BirthLemmas.{more-none}
use Rattle.specs_saveload.proofs.BearerLemmas.{counted, refused-goes, retrieved-asks, retrieved-goes}
use Rattle.specs_saveload.proofs.KnownLemmas.{bearer-known, known-bearer}
use Rattle.specs_saveload.proofs.LoadLemmas.{goes-both, goes-none}

-- ---- a birth whose deletion is accepted

lives-or-not : (o : Option Life) → (o ≡ None) ⊎ ((life : Life) × (o ≡ Some life))
lives-or-not None = inl refl
lives-or-not (Some life) = inr (life, refl)

at-either : (b : Bool) (lasts : List (Option Life)) (other : ℕ) → get_or (cond b (lasts ++ None ∷ []) lasts) other None ≡ get_or lasts other None
at-either true lasts other = more-none lasts other
at-either false lasts other = refl

module _ (births : Births) where
  last-still : (index : ℕ) → persistent_at (created births) index ≡ persistent_at births index
  last-still index = at-either (length births.cache == 0) births.persistent index

  fresh-here : set.contains (created births).fresh (next_index births) ≡ true
  fresh-here = contains-with births.fresh (next_index births) (next_index births) ∙ ap (λ b. b || set.contains births.fresh (next_index births)) (eq-eqb (next_index births) (next_index births) refl)

  fresh-else : (index : ℕ) → eqb index (next_index births) ≡ false → set.contains (created births).fresh index ≡ set.contains births.fresh index
  fresh-else index apart = contains-with births.fresh (next_index births) index ∙ ap (λ b. b || set.contains births.fresh index) apart

  lives-here : living (created births) (next_index births) ≡ Some (newborn births).generation
  lives-here = ap (λ b. living_of b (persistent_at (created births) (next_index births))) fresh-here ∙ ap (λ last. Some (next_life last)) (last-still (next_index births))

  lives-else : (index : ℕ) → eqb index (next_index births) ≡ false → living (created births) index ≡ living births index
  lives-else index apart = ap (λ b. living_of b (persistent_at (created births) index)) (fresh-else index apart) ∙ ap (living_of (set.contains births.fresh index)) (last-still index)

  counts-here : count (created births) (next_index births) ≡ number_of (persistent_at births (next_index births)) + 1
  counts-here = ap (λ b. number_of (persistent_at (created births) (next_index births)) + cond b 1 0) fresh-here ∙ ap (λ last. number_of last + 1) (last-still (next_index births))

  counts-else : (index : ℕ) → eqb index (next_index births) ≡ false → count (created births) index ≡ count births index
  counts-else index apart = ap (λ b. number_of (persistent_at (created births) index) + cond b 1 0) (fresh-else index apart) ∙ ap (λ last. number_of last + cond (set.contains births.fresh index) 1 0) (last-still index)

  at-most-one : (b : Bool) → cond b 1 0 ≤ 1
  at-most-one true = omega arith
  at-most-one false = omega arith

  born-still : (entity : LifeAt) → IsBorn births entity → IsBorn (deleted (created births) (next_index births)) entity
  born-still entity born =
      elim (eqb_tells entity.id (next_index births)) [
        | inl same ↦
            let counts = counts-here in
            let most = at-most-one (set.contains births.fresh (next_index births)) in
            let number = subst (λ i. entity.generation.number ≤ count births i) same.1 born.2 in
            (born.0, born.1, subst (λ i. entity.generation.number ≤ count (created births) i) (sym same.1) (omega (arith, counts, most, number)))
        | inr apart ↦ let counts = counts-else entity.id apart.0 in let number = born.2 in (born.0, born.1, omega (arith, counts, number))
      ]

  newborn-born : IsBorn (deleted (created births) (next_index births)) (newborn births)
  newborn-born = let counts = counts-here in (refl, omega arith, omega (arith, counts))

  doomed-here : set.contains (deleted (created births) (next_index births)).deletions (next_index births) ≡ true
  doomed-here = contains-with births.deletions (next_index births) (next_index births) ∙ ap (λ b. b || set.contains births.deletions (next_index births)) (eq-eqb (next_index births) (next_index births) refl)

  doomed-still : (index : ℕ) → set.contains births.deletions index ≡ true → set.contains (deleted (created births) (next_index births)).deletions index ≡ true
  doomed-still index is = contains-with births.deletions (next_index births) index ∙ or_right (eqb index (next_index births)) (set.contains births.deletions index) is

-- ---- one marker

module _ {A S M I : Type 0} (noted : A → I → Option LifeAt) (allocates : A → LifeAt → Option I → M → A → Type 0) (id_of : M → I) (s : StorageMembers S M) where
  abbrev bearer_of : Known A S → M → Option LifeAt
  bearer_of = bearer_at noted s.part_at id_of

  abbrev Sound : Known A S → Type 0
  Sound = IsSound noted s.part_at id_of

  abbrev Clean : Known A S → Type 0
  Clean = IsClean s.part_at

  abbrev Doomed : Known A S → ℕ → Type 0
  Doomed known index = set.contains known.births.deletions index ≡ true

  -- some markers were asked for: what was sound is, who lives lived before or bears one of them or is about to die
  pub record Stays (named : List M) (before after : Known A S) : Type 0 where
    pub goes : GoesOn bearer_of LivesIn before after
    pub sound : Clean before → Sound before → Sound after
    pub clean : Clean before → Clean after
    pub only : (entity : LifeAt) → IsAlive after.births entity → IsAlive before.births entity ⊎ (((marker : M) × IsAmong marker named × (bearer_of after marker ≡ Some entity)) ⊎ Doomed after entity.id)
    pub doomed : (index : ℕ) → Doomed before index → Doomed after index

  stays-none : (state : Known A S) → Stays [] state state
  stays-none state = record {
    goes = goes-none bearer_of LivesIn state;
    sound = λ clean sound. sound;
    clean = λ clean. clean;
    only = λ entity alive. inl alive;
    doomed = λ index doomed. doomed;
  }

  stays-both : (named others : List M) (first second third : Known A S) → Stays named first second → Stays others second third → Stays (named ++ others) first third
  stays-both named others first second third one other = record {
    goes = goes-both bearer_of LivesIn first second third one.goes other.goes;
    sound = λ clean sound. other.sound (one.clean clean) (one.sound clean sound);
    clean = λ clean. other.clean (one.clean clean);
    only = λ entity alive. elim (other.only entity alive) [
      | inl lived ↦ elim (one.only entity lived) [
        | inl old ↦ inl old
        | inr since ↦ inr (elim since [
          | inl asked ↦ inl (asked.0, among-left asked.0 named others asked.1, other.goes.keeps asked.0 entity asked.2)
          | inr dies ↦ inr (other.doomed entity.id dies)
        ])
      ]
      | inr since ↦ inr (elim since [
        | inl asked ↦ inl (asked.0, among-right asked.0 named others asked.1, asked.2)
        | inr dies ↦ inr dies
      ])
    ];
    doomed = λ index dies. other.doomed index (one.doomed index dies);
  }

  stays-more : (named others : List M) (before after : Known A S) → Stays named before after → Stays (named ++ others) before after
  stays-more named others before after one = record {
    goes = one.goes;
    sound = one.sound;
    clean = one.clean;
    only = λ entity alive. elim (one.only entity alive) [
      | inl old ↦ inl old
      | inr since ↦ inr (elim since [
        | inl asked ↦ inl (asked.0, among-left asked.0 named others asked.1, asked.2)
        | inr dies ↦ inr dies
      ])
    ];
    doomed = one.doomed;
  }

  -- ---- found, or made

  module _ (id : I) (entity : LifeAt) (before after : Known A S) where
    clean-found : FindsMarked noted allocates id_of s id before.births after.births before.allocator after.allocator before.markers after.markers entity → Clean before → Clean after
    clean-found found clean = record {
      unmarked = λ index none.
          let nobody : living before.births index ≡ None = ap (λ (b : Births). living b index) (sym found.entities) ∙ none in
          elim (eqb_tells index entity.id) [
            | inl same ↦ absurd (none-some entity.generation (sym nobody ∙ (ap (living before.births) same.1 ∙ found.known.alive)))
            | inr apart ↦ found.updated.puts.others index apart.1 ∙ clean.unmarked index nobody
          ];
    }

    clean-made : MakesMarked noted allocates id_of s id before.births after.births before.allocator after.allocator before.markers after.markers entity → Clean before → Clean after
    clean-made made clean = record {
      unmarked = λ index none.
          elim (eqb_tells index entity.id) [
            | inl same ↦ absurd (none-some entity.generation (sym none ∙ (ap (living after.births) same.1 ∙ made.alive)))
            | inr apart ↦
                let nobody : living before.births index ≡ None = sym (made.lives index ∙ ap (λ b. cond b (Some entity.generation) (living before.births index)) apart.0) ∙ none in
                made.given.puts.others index (λ same. apart.1 (same ∙ ap (λ (e : LifeAt). e.id) (sym made.born))) ∙ clean.unmarked index nobody
          ];
    }

    doomed-made : MakesMarked noted allocates id_of s id before.births after.births before.allocator after.allocator before.markers after.markers entity → (index : ℕ) → Doomed before index → Doomed after index
    doomed-made made index dies = ap (λ (b : Births). set.contains b.deletions index) made.entities ∙ dies

  module _ (same_id : I → I → Bool) (tells : (one other : I) → ((same_id one other ≡ true) × (one ≡ other)) ⊎ ((same_id one other ≡ false) × (one ≢ other))) where
    stays-one : (marker : M) (entity : LifeAt) (before after : Known A S) → Retrieved noted allocates id_of s marker entity before after → Stays (marker ∷ []) before after
    stays-one marker entity before after retrieved =
        let asks = retrieved-asks noted allocates id_of s before.births after.births before.allocator after.allocator before.markers after.markers same_id tells marker entity retrieved in
        record {
          goes = retrieved-goes noted allocates id_of s before.births after.births before.allocator after.allocator before.markers after.markers (id_of marker) entity retrieved;
          sound = λ clean. asks.sound;
          clean = elim retrieved [ inl found ↦ clean-found (id_of marker) entity before after found | inr made ↦ clean-made (id_of marker) entity before after made ];
          only = λ one alive. elim (asks.only one alive) [ inl old ↦ inl old | inr asked ↦ inr (inl asked) ];
          doomed = elim retrieved [
            | inl found ↦ λ index dies. ap (λ (b : Births). set.contains b.deletions index) found.entities ∙ dies
            | inr made ↦ doomed-made (id_of marker) entity before after made
          ];
        }

    stays-all : (list : List M) (before after : Known A S) → Retrievals noted allocates id_of s list before after → Stays list before after
    stays-all [] before after same = subst (λ state. Stays [] before state) (sym same) (stays-none before)
    stays-all (marker ∷ rest) before after (between, entity, retrieved, later) = stays-both (marker ∷ []) rest before between after (stays-one marker entity before between retrieved) (stays-all rest between after later)

    -- ---- refused

    module _ (refuses : A → Option I → Error → Type 0) (marker : M) (error : Error) (before after : Known A S) where
      stays-same : after ≡ before → Stays [] before after
      stays-same same = subst (λ state. Stays [] before state) (sym same) (stays-none before)

      as-it-was : after.births ≡ before.births → after.allocator ≡ before.allocator → after.markers ≡ before.markers → after ≡ before
      as-it-was births allocator markers = λ i. record { births = births i; allocator = allocator i; markers = markers i }

      module _ (refused : RefusesMarked noted allocates id_of s (id_of marker) before.births after.births before.allocator after.allocator before.markers after.markers refuses error) where
        lives-then : living after.births (newborn before.births).id ≡ Some (newborn before.births).generation
        lives-then = ap (λ (b : Births). living b (newborn before.births).id) refused.entities ∙ lives-here before.births

        born-then : (entity : LifeAt) → IsBorn before.births entity → IsBorn after.births entity
        born-then entity born = subst (λ b. IsBorn b entity) (sym refused.entities) (born-still before.births entity born)

        -- where a marker stands somebody lived
        somebody : Clean before → (index : ℕ) → IsSome (s.part_at before.markers.inner index) → (life : Life) × (living before.births index ≡ Some life)
        somebody clean index some =
            elim (lives-or-not (living before.births index)) [
              | inl none ↦ absurd (no-none (sym (ap is_some (clean.unmarked index none)) ∙ some))
              | inr lives ↦ lives
            ]
          where
            no-none : false ≡ true → ⊥
            no-none is = cc

        -- so no marker stands where the one that wasn't marked lives
        nobody-there : Clean before → IsSome (s.part_at before.markers.inner (newborn before.births).id) → ⊥
        nobody-there clean some =
            let lived = somebody clean (newborn before.births).id some in
            let still = refused.live_on (record { id = (newborn before.births).id; generation = lived.0 }) lived.1 in
            let same : lived.0 ≡ (newborn before.births).generation = same_Some lived.0 (newborn before.births).generation (sym still ∙ lives-then) in
            refused.new (refl, omega arith, old-number (newborn before.births).id lived.0 (newborn before.births).generation lived.1 same)
          where
            old-number : (index : ℕ) (life other : Life) → living before.births index ≡ Some life → life ≡ other → other.number ≤ count before.births index
            old-number index life other lives same = subst (λ (l : Life). l.number ≤ count before.births index) same (counted (set.contains before.births.fresh index) (persistent_at before.births index) life lives)

        was-alive : Clean before → (entity : LifeAt) → IsAlive after.births entity → IsSome (s.part_at after.markers.inner entity.id) → IsAlive before.births entity
        was-alive clean entity alive marked =
            let lived = somebody clean entity.id (sym (ap is_some (refused.storage.parts entity.id)) ∙ marked) in
            let still = refused.live_on (record { id = entity.id; generation = lived.0 }) lived.1 in
            lived.1 ∙ (sym still ∙ alive)

        -- under another id nothing else is noted, and under this one who wasn't marked, or nothing else either
        noted-then : (id : I) (entity : LifeAt) → noted after.allocator id ≡ Some entity → (noted before.allocator id ≡ Some entity) ⊎ (entity ≡ newborn before.births)
        noted-then id entity under =
            elim refused.why [
              | inl none ↦ inl (sym (ap (λ a. noted a id) none.1) ∙ under)
              | inr gave ↦
                  let given = gave.1.1 in
                  elim (tells id (id_of gave.1.0)) [
                    | inl same ↦ inr (same_Some entity (newborn before.births) (sym under ∙ (ap (noted after.allocator) same.1 ∙ given.notes.here)))
                    | inr apart ↦ inl (sym (given.notes.others id apart.1) ∙ under)
                  ]
            ]

        stays-marked : Stays [] before after
        stays-marked = record {
          goes = refused-goes noted allocates id_of s before.births after.births before.allocator after.allocator before.markers after.markers refuses (id_of marker) error (inr (inr refused));
          sound = λ clean sound. record {
            named = λ other entity is.
                let known = bearer-known noted s.part_at id_of after other entity is in
                let alive = was-alive clean entity known.alive known.marked in
                let marked = sym (ap is_some (refused.storage.parts entity.id)) ∙ known.marked in
                elim (noted-then (id_of other) entity known.under) [
                  | inl under ↦
                      ap (option_map id_of) (refused.storage.parts entity.id)
                      ∙ sound.named other entity (known-bearer noted s.part_at id_of before other entity (record { under = under; alive = alive; marked = marked }))
                  | inr same ↦ absurd (nobody-there clean (subst (λ (e : LifeAt). IsSome (s.part_at before.markers.inner e.id)) same marked))
                ];
            born = λ id entity under. elim (noted-then id entity under) [
              | inl old ↦ born-then entity (sound.born id entity old)
              | inr same ↦ subst (λ b. IsBorn b entity) (sym refused.entities) (subst (IsBorn (deleted (created before.births) (next_index before.births))) (sym same) (newborn-born before.births))
            ];
          };
          clean = λ clean. record {
            unmarked = λ index none. refused.storage.parts index ∙ clean.unmarked index
                (elim (lives-or-not (living before.births index)) [
                  | inl nobody ↦ nobody
                  | inr lived ↦ absurd (none-some lived.0 (sym none ∙ refused.live_on (record { id = index; generation = lived.0 }) lived.1))
                ]);
          };
          only = λ entity alive. elim (eqb_tells entity.id (next_index before.births)) [
            | inl same ↦ inr (inr (ap (λ (b : Births). set.contains b.deletions entity.id) refused.entities
                ∙ (ap (set.contains (deleted (created before.births) (next_index before.births)).deletions) same.1 ∙ doomed-here before.births)))
            | inr apart ↦ inl (sym (lives-else before.births entity.id apart.0) ∙ (ap (λ (b : Births). living b entity.id) (sym refused.entities) ∙ alive))
          ];
          doomed = λ index dies. ap (λ (b : Births). set.contains b.deletions index) refused.entities ∙ doomed-still before.births index dies;
        }

      stays-refused : RefusesRetrieval noted allocates id_of s (id_of marker) before.births after.births before.allocator after.allocator before.markers after.markers refuses error → Stays [] before after
      stays-refused (inl update) = stays-same (as-it-was update.entities update.allocator update.storage)
      stays-refused (inr (inl creation)) = stays-same (as-it-was creation.entities creation.allocator creation.storage)
      stays-refused (inr (inr marked)) = stays-marked marked

    stays-some : (refuses : A → Option I → Error → Type 0) (error : Error) (list : List M) (before after : Known A S) → RetrievesSome noted allocates id_of s refuses error list before after → Stays list before after
    stays-some refuses error list before after some =
        let done = stays-all some.done before some.between some.each.steps in
        let last : Stays [] some.between after = elim some.last [
          | inl none ↦ subst (λ state. Stays [] some.between state) (sym none) (stays-none some.between)
          | inr refused ↦ stays-refused refuses refused.next error some.between after refused.why
        ] in
        subst (λ l. Stays l before after) (sym some.all)
        (stays-more some.done some.left before after (subst (λ l. Stays l before after) (append-nil some.done) (stays-both some.done [] before some.between after done last)))

-- ---- whose marker it is

module _ {M D : Type 0} (markers_of : D → List M) (marker : M) where
  among-entries : (list : List (EntityData M D)) → IsAmong marker (map (λ (entry : EntityData M D). entry.marker) list) → (entry : EntityData M D) × IsAmong entry list × StandsIn markers_of marker entry
  among-entries [] none = absurd none
  among-entries (first ∷ rest) (inl is) = (first, inl refl, inl is)
  among-entries (first ∷ rest) (inr later) = let found = among-entries rest later in (found.0, inr found.1, found.2)

  among-data : (list : List (EntityData M D)) → IsAmong marker (flat_map (λ (entry : EntityData M D). markers_of entry.components) list) → (entry : EntityData M D) × IsAmong entry list × StandsIn markers_of marker entry
  among-data [] none = absurd none
  among-data (first ∷ rest) among =
      elim (among-either marker (markers_of first.components) (flat_map (λ (entry : EntityData M D). markers_of entry.components) rest)
      (subst (IsAmong marker) (flat_map-cons (λ (entry : EntityData M D). markers_of entry.components) first rest) among)) [
        | inl here ↦ (first, inl refl, inr here)
        | inr later ↦ let found = among-data rest later in (found.0, inr found.1, found.2)
      ]

  among-front : {X : Type 0} (item : X) (list : List X) (place : ℕ) → IsAmong item (take place list) → IsAmong item list
  among-front item list zero none = absurd none
  among-front item [] (suc place) none = absurd none
  among-front item (first ∷ rest) (suc place) (inl is) = inl is
  among-front item (first ∷ rest) (suc place) (inr later) = inr (among-front item rest place later)

  among-here : {X : Type 0} (item : X) (list : List X) (place : ℕ) → slice_get list place ≡ Some item → IsAmong item list
  among-here item [] place is = cc
  among-here item (first ∷ rest) zero is = inl (same_Some first item is)
  among-here item (first ∷ rest) (suc place) is = inr (among-here item rest place is)

-- ---- a load

module _ {A S M I D : Type 0} (noted : A → I → Option LifeAt) (allocates : A → LifeAt → Option I → M → A → Type 0) (id_of : M → I) (s : StorageMembers S M) (same_id : I → I → Bool) (tells : (one other : I) → ((same_id one other ≡ true) × (one ≡ other)) ⊎ ((same_id one other ≡ false) × (one ≢ other)))
    (markers_of : D → List M) (list : List (EntityData M D)) (before after : Known A S) where
  -- where nothing is refused no marker stands at an index where nobody lives, if none did
  pub load-clean : RetrievesLoaded noted allocates id_of s markers_of list before after → IsClean s.part_at before → IsClean s.part_at after
  load-clean (between, found, named) clean =
      (stays-all noted allocates id_of s same_id tells _ between after named.steps).clean ((stays-all noted allocates id_of s same_id tells _ before between found.steps).clean clean)

  -- where one is refused what was sound is
  pub load-stays : (refuses : A → Option I → Error → Type 0) (place : ℕ) (error : Error) → RetrievesLoadedSome noted allocates id_of s markers_of list refuses place error before after → StaysSound noted s.part_at id_of markers_of list before after
  load-stays refuses place error some =
      let found = stays-some noted allocates id_of s same_id tells refuses some.bearers.0 (map (λ (entry : EntityData M D). entry.marker) list) before some.found some.bearers.1 in
      let earlier = stays-all noted allocates id_of s same_id tells (flat_map (λ (entry : EntityData M D). markers_of entry.components) (take place list)) some.found some.named.named some.named.earlier.steps in
      let own = stays-some noted allocates id_of s same_id tells refuses error (markers_of some.named.entry.components) some.named.named after some.named.own in
      let named = stays-both noted allocates id_of s _ _ some.found some.named.named after earlier own in
      let all = stays-both noted allocates id_of s _ _ before some.found after found named in
      record {
        sound = all.sound;
        clean = all.clean;
        only = λ entity alive. elim (all.only entity alive) [
          | inl old ↦ inl old
          | inr since ↦ inr (elim since [
            | inr dies ↦ inr dies
            | inl asked ↦ inl (elim (among-either asked.0 _ _ asked.1) [
              | inl entry ↦ let at = among-entries markers_of asked.0 list entry in (at.0, asked.0, at.1, at.2, asked.2)
              | inr inside ↦ elim (among-either asked.0 _ _ inside) [
                | inl earlier ↦ let at = among-data markers_of asked.0 (take place list) earlier in (at.0, asked.0, among-front markers_of asked.0 at.0 list place at.1, at.2, asked.2)
                | inr own ↦ (some.named.entry, asked.0, among-here markers_of asked.0 some.named.entry list place some.named.here, inr own, asked.2)
              ]
            ])
          ])
        ];
      }
