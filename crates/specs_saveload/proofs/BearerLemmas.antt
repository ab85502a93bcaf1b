-- Which entities are known by their markers, before and after one was looked for.
use Rattle.std.proofs.Common.{◌≡◌, ◌≢◌, ◌⊎◌, ◌+◌, ◌<◌, ◌≤◌, ℕ, Bool, true, false, cond, [], ◌∷◌, Option, Some, None, is_some, IsSome, option_map, inl, inr, refl, sym, ap, subst, ◌∙◌, arith}
use Rattle.std.proofs.lemmas.Bool.{false≢true}
use Rattle.std.proofs.lemmas.Bool.Decides.{eqb_tells}
use Rattle.std.specs.FinSet as set
use Rattle.specs_entity.specs.Births.{Births, Continues, IsAlive, IsBorn, LivesOn, RefusesBirth, living, living_of, newborn, number_of, persistent_at}
use Rattle.specs_entity.specs.Life.{Life, LifeAt}
use Rattle.specs_entity.specs.declared.errors.Error.{Error}
use Rattle.specs_layouts.specs.Masked.{Masked}
use Rattle.specs_layouts.specs.MaskedChanges.{PutsIn}
use Rattle.specs_layouts.specs.MaskedLends.{StorageMembers}
use Rattle.specs_markers.specs.Marking.{FindsMarked, IsKnown, MakesMarked, RefusesGift, RefusesRetrieval, Retrieves}
use Rattle.specs_saveload.specs.Bearing.{Asks, GoesOn}
use Rattle.specs_saveload.specs.Known.{AddsBirth, IsSound, Known, LivesIn, RefusesBearers, bearer_at}
use Rattle.specs_saveload.proofs.KnownLemmas.{bearer-known, known-bearer}

-- ---- who was born

pub counted : (fresh : Bool) (last : Option Life) (life : Life) → living_of fresh last ≡ Some life → life.number ≤ number_of last + cond fresh 1 0
counted true last life is = let same = ap (number_of) is in omega (arith, same)
counted false None life is = absurd (false≢true (ap is_some is))
counted false (Some one) life is = of-lives one.lives refl
  where
    of-lives : (b : Bool) → one.lives ≡ b → life.number ≤ one.number + 0
    of-lives true lives = let same = ap number_of (sym (ap (λ c. cond c (Some one) None) lives) ∙ is) in omega (arith, same)
    of-lives false lives = absurd (false≢true (ap is_some (sym (ap (λ c. cond c (Some one) None) lives) ∙ is)))

-- one that lives, of a birth, was born
alive-born : (births : Births) (entity : LifeAt) → IsAlive births entity → entity.generation.lives ≡ true → 0 < entity.generation.number → IsBorn births entity
alive-born births entity alive lives some = (lives, some, counted (set.contains births.fresh entity.id) (persistent_at births entity.id) entity.generation alive)

still-born : (before after : Births) → Continues before after → (entity : LifeAt) → IsBorn before entity → IsBorn after entity
still-born before after continues entity born =
    let more = continues.births entity.id in
    (born.0, born.1, omega (arith, more, born.2))

one_alive : (births : Births) (one other : LifeAt) → IsAlive births one → IsAlive births other → one.id ≡ other.id → one ≡ other
one_alive births one other alive alive' same =
    let lives = some-life (sym alive ∙ (ap (living births) same ∙ alive')) in
    λ i. record { id = same i; generation = lives i }
  where
    life_in : Life → Option Life → Life
    life_in default None = default
    life_in default (Some life) = life

    some-life : Some one.generation ≡ Some other.generation → one.generation ≡ other.generation
    some-life is = ap (life_in one.generation) is

-- ---- a marker was looked for

module _ {A S M I : Type 0} (noted : A → I → Option LifeAt) (allocates : A → LifeAt → Option I → M → A → Type 0) (id_of : M → I) (s : StorageMembers S M) (births births' : Births) (before after : A) (had has : Masked S) where
  -- each known entity stays known
  abbrev Keeps : Type 0
  Keeps = (id : I) (entity : LifeAt) → IsKnown noted s.part_at id births before had entity → IsKnown noted s.part_at id births' after has entity

  went-on : Keeps → LivesOn births births' → GoesOn {S = Known A S} {M = M} (bearer_at noted s.part_at id_of) LivesIn (record { births = births; allocator = before; markers = had }) (record { births = births'; allocator = after; markers = has })
  went-on keeps live_on =
      record {
        keeps = λ marker entity is. known-bearer noted s.part_at id_of (record { births = births'; allocator = after; markers = has }) marker entity
            (keeps (id_of marker) entity (bearer-known noted s.part_at id_of (record { births = births; allocator = before; markers = had }) marker entity is));
        live_on = live_on;
      }

  -- an index with another marker, or one that had none
  put-some : (index : ℕ) (marker : M) → PutsIn s.part_at had index (Some marker) has → (other : ℕ) → IsSome (s.part_at had.inner other) → IsSome (s.part_at has.inner other)
  put-some index marker puts other some =
      elim (eqb_tells other index) [
        | inl same ↦ subst (λ i. IsSome (s.part_at has.inner i)) (sym same.1) (ap is_some puts.here)
        | inr apart ↦ ap is_some (puts.others other apart.1) ∙ some
      ]

  module _ (id : I) (entity : LifeAt) where
    -- who is asked for is there, or is the next birth
    pub retrieved-birth : Retrieves noted allocates id_of s id births births' before after had has entity → AddsBirth births births' entity
    retrieved-birth (inl found) = inl found.entities
    retrieved-birth (inr made) = inr (made.born, made.entities)

    found-keeps : FindsMarked noted allocates id_of s id births births' before after had has entity → Keeps
    found-keeps found other one known =
        record {
          under = ap (λ a. noted a other) found.allocator ∙ known.under;
          alive = subst (λ b. IsAlive b one) (sym found.entities) known.alive;
          marked = put-some entity.id found.updated.marker found.updated.puts one.id known.marked;
        }

    found-lives : FindsMarked noted allocates id_of s id births births' before after had has entity → LivesOn births births'
    found-lives found one alive = subst (λ b. IsAlive b one) (sym found.entities) alive

    made-keeps : MakesMarked noted allocates id_of s id births births' before after had has entity → Keeps
    made-keeps made other one known =
        record {
          under = made.given.given.notes.others other (λ same. made.unknown one (subst (λ i. IsKnown noted s.part_at i births before had one) (same ∙ made.given.given.named) known)) ∙ known.under;
          alive = made.live_on one known.alive;
          marked = put-some (newborn births).id made.given.marker made.given.puts one.id known.marked;
        }

    pub retrieved-goes : Retrieves noted allocates id_of s id births births' before after had has entity → GoesOn {S = Known A S} {M = M} (bearer_at noted s.part_at id_of) LivesIn (record { births = births; allocator = before; markers = had }) (record { births = births'; allocator = after; markers = has })
    retrieved-goes (inl found) = went-on (found-keeps found) (found-lives found)
    retrieved-goes (inr made) = went-on (made-keeps made) made.live_on

  module _ (refuses : A → Option I → Error → Type 0) (id : I) (error : Error) where
    same-goes : births' ≡ births → after ≡ before → has ≡ had → GoesOn {S = Known A S} {M = M} (bearer_at noted s.part_at id_of) LivesIn (record { births = births; allocator = before; markers = had }) (record { births = births'; allocator = after; markers = has })
    same-goes births_same allocator_same storage_same =
        went-on
        (λ other one known. record {
          under = ap (λ a. noted a other) allocator_same ∙ known.under;
          alive = subst (λ b. IsAlive b one) (sym births_same) known.alive;
          marked = ap (λ (m : Masked S). is_some (s.part_at m.inner one.id)) storage_same ∙ known.marked;
        })
        (λ one alive. subst (λ b. IsAlive b one) (sym births_same) alive)

    noted-still : RefusesGift noted allocates id_of refuses (Some id) (newborn births) before after error → ((entity : LifeAt) → ¬ (IsKnown noted s.part_at id births before had entity)) → (other : I) (one : LifeAt) → IsKnown noted s.part_at other births before had one → noted after other ≡ Some one
    noted-still (inl none) unknown other one known = ap (λ a. noted a other) none.1 ∙ known.under
    noted-still (inr gave) unknown other one known =
        let given = gave.1.1 in
        given.notes.others other (λ same. unknown one (subst (λ i. IsKnown noted s.part_at i births before had one) (same ∙ given.named) known)) ∙ known.under

    pub refused-goes : RefusesRetrieval noted allocates id_of s id births births' before after had has refuses error → GoesOn {S = Known A S} {M = M} (bearer_at noted s.part_at id_of) LivesIn (record { births = births; allocator = before; markers = had }) (record { births = births'; allocator = after; markers = has })
    refused-goes (inl update) = same-goes update.entities update.allocator update.storage
    refused-goes (inr (inl creation)) = same-goes creation.entities creation.allocator creation.storage
    refused-goes (inr (inr marked)) =
        went-on
        (λ other one known. record {
          under = noted-still marked.why marked.unknown other one known;
          alive = marked.live_on one known.alive;
          marked = ap is_some (marked.storage.parts one.id) ∙ known.marked;
        })
        marked.live_on

  -- ---- whoever lives then, and what stays sound

  module _ (same_id : I → I → Bool) (tells : (one other : I) → ((same_id one other ≡ true) × (one ≡ other)) ⊎ ((same_id one other ≡ false) × (one ≢ other))) (marker : M) (entity : LifeAt) where
    abbrev Before : Type 0
    Before = IsSound {A = A} {S = S} noted s.part_at id_of (record { births = births; allocator = before; markers = had })

    abbrev After : Type 0
    After = IsSound {A = A} {S = S} noted s.part_at id_of (record { births = births'; allocator = after; markers = has })

    known-before : (other : M) (one : LifeAt) → IsKnown noted s.part_at (id_of other) births before had one → Before → option_map id_of (s.part_at had.inner one.id) ≡ Some (id_of other)
    known-before other one known sound = sound.named other one (known-bearer noted s.part_at id_of (record { births = births; allocator = before; markers = had }) other one known)

    -- ---- found

    module _ (found : FindsMarked noted allocates id_of s (id_of marker) births births' before after had has entity) where
      was-known : (other : M) (one : LifeAt) → IsKnown noted s.part_at (id_of other) births' after has one → IsKnown noted s.part_at (id_of other) births before had one
      was-known other one known =
          record {
            under = ap (λ a. noted a (id_of other)) (sym found.allocator) ∙ known.under;
            alive = subst (λ b. IsAlive b one) found.entities known.alive;
            marked = elim (eqb_tells one.id entity.id) [
              | inl same ↦ subst (λ i. IsSome (s.part_at had.inner i)) (sym same.1) found.known.marked
              | inr apart ↦ sym (ap is_some (found.updated.puts.others one.id apart.1)) ∙ known.marked
            ];
          }

      has-named : (other : M) (one : LifeAt) → IsKnown noted s.part_at (id_of other) births before had one → Before → option_map id_of (s.part_at has.inner one.id) ≡ Some (id_of other)
      has-named other one known sound =
          elim (eqb_tells one.id entity.id) [
            | inl same ↦
                let first = subst (λ (e : LifeAt). option_map id_of (s.part_at had.inner e.id) ≡ Some (id_of other)) (one_alive births one entity known.alive found.known.alive same.1) (known-before other one known sound) in
                ap (λ i. option_map id_of (s.part_at has.inner i)) same.1 ∙ (ap (option_map id_of) found.updated.puts.here ∙ (ap Some found.updated.named ∙ (sym (known-before marker entity found.known sound) ∙ first)))
            | inr apart ↦ ap (option_map id_of) (found.updated.puts.others one.id apart.1) ∙ known-before other one known sound
          ]

      found-sound : Before → After
      found-sound sound =
          record {
            named = λ other one is. has-named other one (was-known other one (bearer-known noted s.part_at id_of (record { births = births'; allocator = after; markers = has }) other one is)) sound;
            born = λ id one is. subst (λ b. IsBorn b one) (sym found.entities) (sound.born id one (ap (λ a. noted a id) (sym found.allocator) ∙ is));
          }

      found-only : (one : LifeAt) → IsAlive births' one → IsAlive births one
      found-only one alive = subst (λ b. IsAlive b one) found.entities alive

    -- ---- made

    module _ (made : MakesMarked noted allocates id_of s (id_of marker) births births' before after had has entity) where
      still-lives : (index : ℕ) → index ≢ (newborn births).id → living births' index ≡ living births index
      still-lives index apart =
          elim (eqb_tells index entity.id) [
            | inl same ↦ absurd (apart (same.1 ∙ ap (λ (e : LifeAt). e.id) made.born))
            | inr other ↦ made.lives index ∙ ap (λ b. cond b (Some entity.generation) (living births index)) other.0
          ]

      -- who lives lived before, or is the one that was made
      either : (one : LifeAt) → IsAlive births' one → IsAlive births one ⊎ (one ≡ entity)
      either one alive =
          elim (eqb_tells one.id (newborn births).id) [
            | inl same ↦ inr (one_alive births' one entity alive made.alive (same.1 ∙ ap (λ (e : LifeAt). e.id) (sym made.born)))
            | inr apart ↦ inl (sym (still-lives one.id apart.1) ∙ alive)
          ]

      made-born : IsBorn births' entity
      made-born =
          alive-born births' entity made.alive (ap (λ (e : LifeAt). e.generation.lives) made.born)
          (let number = ap (λ (e : LifeAt). e.generation.number) made.born in omega (arith, number))

      -- who lived lives at another index
      apart-of : (one : LifeAt) → IsAlive births one → one.id ≢ (newborn births).id
      apart-of one alive same =
          let is = one_alive births' one entity (made.live_on one alive) made.alive (same ∙ ap (λ (e : LifeAt). e.id) (sym made.born)) in
          made.new (alive-born births entity (subst (IsAlive births) is alive) made-born.0 made-born.1)

      other-note : (id : I) → id ≢ id_of marker → noted after id ≡ noted before id
      other-note id apart = made.given.given.notes.others id (λ same. apart (same ∙ made.given.given.named))

      here-note : (id : I) → id ≡ id_of marker → noted after id ≡ Some entity
      here-note id same = ap (noted after) (same ∙ sym made.given.given.named) ∙ (made.given.given.notes.here ∙ ap Some (sym made.born))

      one_of : LifeAt → Option LifeAt → LifeAt
      one_of default None = default
      one_of default (Some one) = one

      same-one : (one other : LifeAt) → Some one ≡ Some other → one ≡ other
      unfolding one_of
      same-one one other is = ap (one_of one) is

      here-named : (one : LifeAt) → one ≡ entity → option_map id_of (s.part_at has.inner one.id) ≡ Some (id_of marker)
      here-named one same =
          ap (λ (e : LifeAt). option_map id_of (s.part_at has.inner e.id)) (same ∙ made.born) ∙ (ap (option_map id_of) made.given.puts.here ∙ ap Some made.given.given.named)

      named-other : (other : M) (one : LifeAt) → IsKnown noted s.part_at (id_of other) births' after has one → id_of other ≢ id_of marker → Before → option_map id_of (s.part_at has.inner one.id) ≡ Some (id_of other)
      named-other other one known apart sound =
          let under = sym (other-note (id_of other) apart) ∙ known.under in
          elim (either one known.alive) [
            | inl alive ↦
                let elsewhere = made.given.puts.others one.id (apart-of one alive) in
                ap (option_map id_of) elsewhere ∙ known-before other one (record { under = under; alive = alive; marked = sym (ap is_some elsewhere) ∙ known.marked }) sound
            | inr same ↦ absurd (made.new (subst (IsBorn births) same (sound.born (id_of other) one under)))
          ]

      made-sound : Before → After
      made-sound sound =
          record {
            named = λ other one is.
                let known = bearer-known noted s.part_at id_of (record { births = births'; allocator = after; markers = has }) other one is in
                elim (tells (id_of other) (id_of marker)) [
                  | inl same ↦ here-named one (same-one one entity (sym known.under ∙ here-note (id_of other) same.1)) ∙ ap Some (sym same.1)
                  | inr apart ↦ named-other other one known apart.1 sound
                ];
            born = λ id one is. elim (tells id (id_of marker)) [
              | inl same ↦ subst (IsBorn births') (same-one entity one (sym (here-note id same.1) ∙ is)) made-born
              | inr apart ↦ still-born births births' made.continues one (sound.born id one (sym (other-note id apart.1) ∙ is))
            ];
          }

      made-bearer : bearer_at {A = A} {S = S} noted s.part_at id_of (record { births = births'; allocator = after; markers = has }) marker ≡ Some entity
      made-bearer =
          known-bearer noted s.part_at id_of (record { births = births'; allocator = after; markers = has }) marker entity
          (record {
            under = here-note (id_of marker) refl;
            alive = made.alive;
            marked = ap (λ (e : LifeAt). is_some (s.part_at has.inner e.id)) made.born ∙ ap is_some made.given.puts.here;
          })

    pub retrieved-asks : Retrieves noted allocates id_of s (id_of marker) births births' before after had has entity → Asks {S = Known A S} {M = M} (bearer_at noted s.part_at id_of) LivesIn (IsSound noted s.part_at id_of) (marker ∷ []) (record { births = births; allocator = before; markers = had }) (record { births = births'; allocator = after; markers = has })
    retrieved-asks (inl found) = record { only = λ one alive. inl (found-only found one alive); sound = found-sound found }
    retrieved-asks (inr made) =
        record {
          only = λ one alive. elim (either made one alive) [
            | inl old ↦ inl old
            | inr same ↦ inr (marker, inl refl, made-bearer made ∙ ap Some (sym same))
          ];
          sound = made-sound made;
        }

-- ---- a marker whose bearer isn't had

module _ {A S M I : Type 0} (noted : A → I → Option LifeAt) (allocates : A → LifeAt → Option I → M → A → Type 0) (id_of : M → I) (s : StorageMembers S M) (refuses : A → Option I → Error → Type 0) where
  pub unhad : (marker : M) (births births' : Births) (before after : A) (had has : Masked S) (error : Error) → RefusesRetrieval noted allocates id_of s (id_of marker) births births' before after had has refuses error → RefusesBearers refuses id_of births' after (marker ∷ []) error
  unhad marker births births' before after had has error (inl update) = inr (inr update.why)
  unhad marker births births' before after had has error (inr (inl creation)) = inl (subst (λ b. RefusesBirth b error) (sym creation.entities) creation.why)
  unhad marker births births' before after had has error (inr (inr marked)) = elim marked.why [
    | inl refused ↦ inr (inl (marker, inl refl, subst (λ a. refuses a (Some (id_of marker)) error) (sym refused.1) refused.0))
    | inr memory ↦ inr (inr memory.0)
  ]
