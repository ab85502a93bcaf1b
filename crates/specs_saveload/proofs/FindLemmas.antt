-- Entries whose entities are found or made one after the other, and a load in two passes.
use Rattle.std.proofs.Common.{◌≡◌, ◌⊎◌, ◌+◌, ◌-◌, ◌==◌, ◌<◌, ◌≤◌, ℕ, suc, zero, cond, List, [], ◌∷◌, ◌++◌, length, take, drop, slice_get, slice_index_or, get_or, Option, Some, None, Result, Ok, Err, IfErr, inl, inr, refl, sym, subst, ap, ◌∙◌, length-append, arith}
use Rattle.std.proofs.lemmas.List.{length-take-le, take-append-drop, take-append-le, take_more}
use Rattle.std.proofs.lemmas.Option.{slice_get-get_or, slice_get_within, same_Some}
use Rattle.specs_entity.specs.Births.{Births, IsAlive, created, newborn, next_index}
use Rattle.specs_entity.specs.Life.{LifeAt}
use Rattle.specs_saveload.specs.declared.entity_data.EntityData.{EntityData}
use Rattle.specs_saveload.specs.Bearing.{Asks, GoesOn, IsAmong}
use Rattle.specs_saveload.specs.Finding.{AreFound, Finds, FindsBefore, LoadsFound, LoadsFoundBefore}
use Rattle.specs_saveload.specs.Known.{AddsBirth, IsSound, Known, LivesIn, bearer_at}
use Rattle.specs_saveload.specs.Loading.{AreApart, AreInOrder, IsMadeBefore, Loads, LoadsBefore, RefusesEntry, RefusesLoad}
use Rattle.specs_saveload.specs.NamingLemmas.{among-either, among-left, among-right}
use Rattle.specs_saveload.proofs.KnownLemmas.{bearer-alive, bearers-apart}
use Rattle.specs_saveload.proofs.LoadLemmas.{apart-front, apart-next, goes-both, goes-none}

-- ---- a birth where no index waits to be used again

module _ (births : Births) (none : births.cache ≡ []) where
  next-is : next_index births ≡ length births.persistent
  next-is = ap (λ (cache : List ℕ). slice_index_or cache (length cache - 1) (length births.persistent)) none

  none-waits : (created births).cache ≡ []
  none-waits = ap (λ (cache : List ℕ). take (length cache - 1) cache) none

  one-longer : length (created births).persistent ≡ length births.persistent + 1
  one-longer =
      ap (λ (cache : List ℕ). length (cond (length cache == 0) (births.persistent ++ None ∷ []) births.persistent)) none
      ∙ length-append births.persistent (None ∷ [])

-- ---- entries whose entities are in order

module _ {M D : Type 0} (one two : M → Option LifeAt) (lived : LifeAt → Type 0) (more : (marker : M) (entity : LifeAt) → one marker ≡ Some entity → two marker ≡ Some entity) where
  abbrev HasBearer : EntityData M D → Type 0
  HasBearer entry = (entity : LifeAt) × (one entry.marker ≡ Some entity)

  -- whoever bears the marker of a found one then, bore it before
  bore : (entry : EntityData M D) → HasBearer entry → (entity : LifeAt) → two entry.marker ≡ Some entity → one entry.marker ≡ Some entity
  bore entry found entity bears = found.1 ∙ ap Some (same_Some found.0 entity (sym (more entry.marker found.0 found.1) ∙ bears))

  before-still : (first other : EntityData M D) → HasBearer first → HasBearer other → IsMadeBefore one lived first other → IsMadeBefore two lived first other
  before-still first other found found' before entity entity' bears bears' new new' =
      before entity entity' (bore first found entity bears) (bore other found' entity' bears') new new'

  pub order-still : (list : List (EntityData M D)) → ((entry : EntityData M D) → IsAmong entry list → (entity : LifeAt) × (one entry.marker ≡ Some entity)) → AreInOrder one lived list → AreInOrder two lived list
  order-still [] found order = tt
  order-still (first ∷ rest) found order = (
    λ other among. before-still first other (found first (inl refl)) (found other (inr among)) (order.0 other among),
    order-still rest (λ entry among. found entry (inr among)) order.1,
  )

  -- one more stands behind them
  order-push : (done : List (EntityData M D)) (next : EntityData M D) → ((entry : EntityData M D) → IsAmong entry done → (entity : LifeAt) × (one entry.marker ≡ Some entity)) → AreInOrder one lived done → ((entry : EntityData M D) → IsAmong entry done → IsMadeBefore two lived entry next) → AreInOrder two lived (done ++ next ∷ [])
  order-push [] next found order last = (λ other none. absurd none, tt)
  order-push (first ∷ rest) next found order last = (
    λ other among. elim (among-either other rest (next ∷ []) among) [
      | inl old ↦ before-still first other (found first (inl refl)) (found other (inr old)) (order.0 other old)
      | inr new ↦ elim new [ inl is ↦ subst (IsMadeBefore two lived first) is (last first (inl refl)) | inr none ↦ absurd none ]
    ],
    order-push rest next (λ entry among. found entry (inr among)) order.1 (λ entry among. last entry (inr among)),
  )

  -- entries that were found stay so
  pub found-still : (list : List (EntityData M D)) → AreFound one list → AreFound two list
  found-still list found =
      record {
        found = λ entry among. let mine = found.found entry among in (mine.0, more entry.marker mine.0 mine.1);
        spread = λ first other entity entity' among among' apart bears bears'.
            found.spread first other entity entity' among among' apart (bore first (found.found first among) entity bears) (bore other (found.found other among') entity' bears');
      }

-- ---- one entity after the other

module _ {A S M I D : Type 0} (noted : A → I → Option LifeAt) (part_at : S → ℕ → Option M) (id_of : M → I) (by_id : (one other : M) → id_of one ≡ id_of other → one ≡ other) where
  pub none-found : (before : Known A S) → Finds {D = D} noted part_at id_of [] before before
  none-found before =
      record {
        keeps = goes-none (bearer_at noted part_at id_of) LivesIn before;
        sound = λ sound. sound;
        found = λ entry none. absurd none;
        only = λ entity alive. inl alive;
        in_order = λ sound apart none. tt;
        below = λ sound apart none. (none, λ entry entity among bears new. absurd among);
      }

  -- those that were found are at different indices
  pub are-found : (list : List (EntityData M D)) (before after : Known A S) → Finds noted part_at id_of list before after → IsSound noted part_at id_of before → AreFound (bearer_at noted part_at id_of after) list
  are-found list before after finds sound =
      record {
        found = finds.found;
        spread = λ one other entity entity' among among' apart bears bears' same. apart (bearers-apart noted part_at id_of by_id after (finds.sound sound) one.marker other.marker entity entity' bears bears' same);
      }

  module _ (done : List (EntityData M D)) (next : EntityData M D) (before mid after : Known A S) (entity : LifeAt) (finds : Finds noted part_at id_of done before mid) (keeps : GoesOn (bearer_at noted part_at id_of) LivesIn mid after)
      (adds : Asks (bearer_at noted part_at id_of) LivesIn (IsSound noted part_at id_of) (next.marker ∷ []) mid after) (bears : bearer_at noted part_at id_of after next.marker ≡ Some entity) (birth : AddsBirth mid.births after.births entity) where
    is-bearer : (one : LifeAt) → bearer_at noted part_at id_of after next.marker ≡ Some one → entity ≡ one
    is-bearer one takes = same_Some entity one (sym bears ∙ takes)

    module _ (sound : IsSound noted part_at id_of before) (apart : AreApart (done ++ next ∷ [])) where
      -- where none was born, the bearer of the next one's marker lived before: it is no other entry's
      not-new : after.births ≡ mid.births → (one : LifeAt) → bearer_at noted part_at id_of after next.marker ≡ Some one → ¬ (IsAlive before.births one) → ⊥
      not-new same one takes new =
          elim (finds.only one (subst (λ b. IsAlive b one) same (bearer-alive noted part_at id_of after next.marker one takes))) [
            | inl lived ↦ new lived
            | inr made ↦ apart-next done [] next apart made.0 made.1
                (bearers-apart noted part_at id_of by_id after (adds.sound (finds.sound sound)) made.0.marker next.marker one one (keeps.keeps made.0.marker one made.2) takes refl)
          ]

      module _ (none : before.births.cache ≡ []) where
        low : (mid.births.cache ≡ []) × ((entry : EntityData M D) (one : LifeAt) → IsAmong entry done → bearer_at noted part_at id_of mid entry.marker ≡ Some one → ¬ (IsAlive before.births one) → one.id < length mid.births.persistent)
        low = finds.below sound (apart-front done (next ∷ []) apart) none

        -- those that were made are below the next index
        were-below : (entry : EntityData M D) (one : LifeAt) → IsAmong entry done → bearer_at noted part_at id_of after entry.marker ≡ Some one → ¬ (IsAlive before.births one) → one.id < length mid.births.persistent
        were-below entry one among takes new = low.1 entry one among (bore (bearer_at noted part_at id_of mid) (bearer_at noted part_at id_of after) (λ entity. ⊥) keeps.keeps entry (finds.found entry among) one takes) new

        -- one that is born has it
        born-at : entity ≡ newborn mid.births → (one : LifeAt) → bearer_at noted part_at id_of after next.marker ≡ Some one → one.id ≡ length mid.births.persistent
        born-at born one takes = ap (λ (e : LifeAt). e.id) (sym (is-bearer one takes) ∙ born) ∙ next-is mid.births low.0

        next-last : (entry : EntityData M D) → IsAmong entry done → IsMadeBefore (bearer_at noted part_at id_of after) (IsAlive before.births) entry next
        next-last entry among one other takes takes' new new' =
            elim birth [
              | inl same ↦ absurd (not-new same other takes' new')
              | inr born ↦ (let less = were-below entry one among takes new in let is = born-at born.0 other takes' in omega (arith, less, is))
            ]

        next-below : (after.births.cache ≡ []) × ((entry : EntityData M D) (one : LifeAt) → IsAmong entry (done ++ next ∷ []) → bearer_at noted part_at id_of after entry.marker ≡ Some one → ¬ (IsAlive before.births one) → one.id < length after.births.persistent)
        next-below =
            elim birth [
              | inl same ↦ (
                ap (λ (b : Births). b.cache) same ∙ low.0,
                λ entry one among takes new. elim (among-either entry done (next ∷ []) among) [
                  | inl old ↦ subst (λ (b : Births). one.id < length b.persistent) (sym same) (were-below entry one old takes new)
                  | inr last ↦ elim last [ inl is ↦ absurd (not-new same one (subst (λ (e : EntityData M D). bearer_at noted part_at id_of after e.marker ≡ Some one) (sym is) takes) new) | inr none ↦ absurd none ]
                ],
              )
              | inr born ↦ (
                ap (λ (b : Births). b.cache) born.1 ∙ none-waits mid.births low.0,
                λ entry one among takes new.
                    let longer = ap (λ (b : Births). length b.persistent) born.1 ∙ one-longer mid.births low.0 in
                    elim (among-either entry done (next ∷ []) among) [
                      | inl old ↦ (let less = were-below entry one old takes new in omega (arith, less, longer))
                      | inr last ↦ elim last [
                        | inl is ↦ (let at = born-at born.0 one (subst (λ (e : EntityData M D). bearer_at noted part_at id_of after e.marker ≡ Some one) (sym is) takes) in omega (arith, at, longer))
                        | inr none ↦ absurd none
                      ]
                    ],
              )
            ]

    next-found : (entry : EntityData M D) → IsAmong entry (done ++ next ∷ []) → (one : LifeAt) × (bearer_at noted part_at id_of after entry.marker ≡ Some one)
    next-found entry among =
        elim (among-either entry done (next ∷ []) among) [
          | inl old ↦ (let mine = finds.found entry old in (mine.0, keeps.keeps entry.marker mine.0 mine.1))
          | inr last ↦ elim last [ inl is ↦ (entity, subst (λ (e : EntityData M D). bearer_at noted part_at id_of after e.marker ≡ Some entity) is bears) | inr none ↦ absurd none ]
        ]

    next-only : (one : LifeAt) → IsAlive after.births one → IsAlive before.births one ⊎ ((entry : EntityData M D) × IsAmong entry (done ++ next ∷ []) × (bearer_at noted part_at id_of after entry.marker ≡ Some one))
    next-only one alive =
        elim (adds.only one alive) [
          | inl lived ↦ elim (finds.only one lived) [
            | inl old ↦ inl old
            | inr made ↦ inr (made.0, among-left made.0 done (next ∷ []) made.1, keeps.keeps made.0.marker one made.2)
          ]
          | inr made ↦ elim made.1 [
            | inl is ↦ inr (next, among-right next done (next ∷ []) (inl refl), ap (bearer_at noted part_at id_of after) is ∙ made.2)
            | inr none ↦ absurd none
          ]
        ]

    next-finds : Finds noted part_at id_of (done ++ next ∷ []) before after
    next-finds =
        record {
          keeps = goes-both (bearer_at noted part_at id_of) LivesIn before mid after finds.keeps keeps;
          sound = λ sound. adds.sound (finds.sound sound);
          found = next-found;
          only = next-only;
          in_order = λ sound apart none.
              order-push (bearer_at noted part_at id_of mid) (bearer_at noted part_at id_of after) (IsAlive before.births) keeps.keeps done next finds.found
              (finds.in_order sound (apart-front done (next ∷ []) apart) none)
              (next-last sound apart none);
          below = next-below;
        }

  -- ---- a list that is gone through

  module _ (list : List (EntityData M D)) (place : ℕ) (entry : EntityData M D) (inside : place < length list) (is : entry ≡ get_or list place entry) (before mid after : Known A S) (finds : Finds noted part_at id_of (take place list) before mid) (keeps : GoesOn (bearer_at noted part_at id_of) LivesIn mid after) where
    -- the entries up to this one are those before it, and it
    up-to : take (place + 1) list ≡ take place list ++ entry ∷ []
    up-to = take_more list place entry inside ∙ ap (λ (e : EntityData M D). take place list ++ e ∷ []) (sym is)

    pub finding-goes-on : (entity : LifeAt) → Asks (bearer_at noted part_at id_of) LivesIn (IsSound noted part_at id_of) (entry.marker ∷ []) mid after → bearer_at noted part_at id_of after entry.marker ≡ Some entity → AddsBirth mid.births after.births entity → Finds noted part_at id_of (take (place + 1) list) before after
    finding-goes-on entity adds bears birth =
        subst (λ l. Finds noted part_at id_of l before after) (sym up-to) (next-finds (take place list) entry before mid after entity finds keeps adds bears birth)

    pub finding-stops : FindsBefore noted part_at id_of list before after place
    finding-stops =
        record {
          inside = inside;
          keeps = goes-both (bearer_at noted part_at id_of) LivesIn before mid after finds.keeps keeps;
          found = λ sound. found-still (bearer_at noted part_at id_of mid) (bearer_at noted part_at id_of after) (λ entity. ⊥) keeps.keeps (take place list) (are-found (take place list) before mid finds sound);
        }

    pub finding-refuses : {E : Type 0} (refuses : List M → E → Type 0) (error : E) → refuses (entry.marker ∷ []) error → RefusesEntry (λ components. []) list refuses place error
    finding-refuses refuses error why =
        record { entry = entry; here = slice_get-get_or list place entry inside ∙ ap Some (sym is); why = why }

-- ---- the two passes

-- what holds of a refusal by two facts of it
pub if-err-by : {T E : Type 0} (result : Result T E) (P Q R : E → Type 0) → ((error : E) → P error → Q error → R error) → IfErr result P → IfErr result Q → IfErr result R
if-err-by (Ok value) P Q R by one other = tt
if-err-by (Err error) P Q R by one other = by error one other

front-get : {X : Type 0} (xs more : List X) (k : ℕ) (x : X) → slice_get xs k ≡ Some x → slice_get (xs ++ more) k ≡ Some x
front-get [] more k x is = absurd (let less = slice_get_within [] k x is in omega (arith, less))
front-get (y ∷ xs) more zero x is = is
front-get (y ∷ xs) more (suc k) x is = front-get xs more k x is

module _ {A S M I D P : Type 0} (noted : A → I → Option LifeAt) (part_at : S → ℕ → Option M) (id_of : M → I) (by_id : (one other : M) → id_of one ≡ id_of other → one ≡ other) (markers_of : D → List M) (load : (M → Option LifeAt) → D → Option P) (list shown : List (EntityData M D)) (same : shown ≡ list) (before mid after : Known A S) (had has : ℕ → P) where
  -- each was found, and then loaded
  module _ (given : Finds noted part_at id_of shown before mid) where
    finds : Finds noted part_at id_of list before mid
    finds = subst (λ l. Finds noted part_at id_of l before mid) same given

    pub both-load : LoadsFound noted part_at id_of markers_of load list mid after had has → Loads noted part_at id_of markers_of load list before after had has
    both-load loads =
        record {
          keeps = goes-both (bearer_at noted part_at id_of) LivesIn before mid after finds.keeps loads.keeps;
          sound = λ sound. loads.sound (finds.sound sound);
          loaded = λ sound apart. loads.loaded (are-found noted part_at id_of by_id list before mid finds sound) apart;
          only = λ entity alive. elim (loads.only entity alive) [
            | inl lived ↦ elim (finds.only entity lived) [
              | inl old ↦ inl old
              | inr made ↦ inr (made.0, made.0.marker, made.1, inl refl, loads.keeps.keeps made.0.marker entity made.2)
            ]
            | inr made ↦ inr made
          ];
          others = loads.others;
          in_order = λ sound apart none. order-still (bearer_at noted part_at id_of mid) (bearer_at noted part_at id_of after) (IsAlive before.births) loads.keeps.keeps list finds.found (finds.in_order sound apart none);
        }

    -- each was found, and one wasn't loaded
    module _ (place : ℕ) (stops : LoadsFoundBefore noted part_at id_of markers_of load list mid after had has place) where
      pub second-stops : LoadsBefore noted part_at id_of markers_of load list before after had has place
      second-stops =
          record {
            inside = stops.inside;
            keeps = goes-both (bearer_at noted part_at id_of) LivesIn before mid after finds.keeps stops.keeps;
            loaded = λ sound apart. stops.loaded (are-found noted part_at id_of by_id list before mid finds sound) apart;
            others = stops.others;
          }

      pub second-refuses : {E : Type 0} (refuses : Births → A → List M → E → Type 0) (error : E) → RefusesEntry markers_of list (refuses after.births after.allocator) place error → RefusesLoad noted part_at id_of markers_of list refuses before after place error
      second-refuses refuses error refused =
          record {
            known = after;
            since = goes-both (bearer_at noted part_at id_of) LivesIn before mid after finds.keeps stops.keeps;
            until = goes-none (bearer_at noted part_at id_of) LivesIn after;
            entry = refused;
          }

  -- one wasn't found, and those before it are gone through
  module _ (far : ℕ) (front : List (EntityData M D)) (cut : front ≡ take far list) (given : FindsBefore noted part_at id_of shown before mid far) where
    first : FindsBefore noted part_at id_of list before mid far
    first = subst (λ l. FindsBefore noted part_at id_of l before mid far) same given

    whole : list ≡ front ++ drop far list
    whole = sym (take-append-drop far list) ∙ ap (λ l. l ++ drop far list) (sym cut)

    count : length front ≡ far
    count = ap length cut ∙ (let inside = first.inside in length-take-le far list (omega (arith, inside)))

    -- the entries up to a place are those of the front up to it
    of-front : (n : ℕ) → n ≤ far → take n front ≡ take n list
    of-front n less = sym (ap (take n) whole ∙ take-append-le n front (drop far list) (let c = count in omega (arith, c, less)))

    front-apart : AreApart list → AreApart front
    front-apart apart = apart-front front (drop far list) (subst (λ l. AreApart l) whole apart)

    front-found : IsSound noted part_at id_of before → AreFound (bearer_at noted part_at id_of mid) front
    front-found sound = subst (λ l. AreFound (bearer_at noted part_at id_of mid) l) (sym cut) (first.found sound)

    module _ (loads : LoadsFound noted part_at id_of markers_of load front mid after had has) where
      further : (n : ℕ) (xs : List (EntityData M D)) (entry : EntityData M D) → IsAmong entry (take n xs) → IsAmong entry (take (suc n) xs)
      further zero xs entry none = absurd none
      further (suc n) [] entry none = absurd none
      further (suc n) (x ∷ xs) entry (inl is) = inl is
      further (suc n) (x ∷ xs) entry (inr later) = inr (further n xs entry later)

      in-further : (entry : EntityData M D) → IsAmong entry front → IsAmong entry (take (far + 1) list)
      in-further entry among = let e : suc far ≡ far + 1 = omega arith in subst (λ n. IsAmong entry (take n list)) e (further far list entry (subst (λ l. IsAmong entry l) cut among))

      pub first-stops : LoadsBefore noted part_at id_of markers_of load list before after had has far
      first-stops =
          record {
            inside = first.inside;
            keeps = goes-both (bearer_at noted part_at id_of) LivesIn before mid after first.keeps loads.keeps;
            loaded = λ sound apart entry among. loads.loaded (front-found sound) (front-apart apart) entry (subst (λ l. IsAmong entry l) (sym cut) among);
            others = λ index apart. loads.others index (λ entry entity among bears. apart entry entity (in-further entry among) bears);
          }

      pub first-refuses : {E : Type 0} (refuses : Births → A → List M → E → Type 0) (error : E) → ((marker : M) (others : List M) → refuses mid.births mid.allocator (marker ∷ []) error → refuses mid.births mid.allocator (marker ∷ others) error)
          → RefusesEntry (λ components. []) shown (refuses mid.births mid.allocator) far error → RefusesLoad noted part_at id_of markers_of list refuses before after far error
      first-refuses refuses error more refused =
          record {
            known = mid;
            since = first.keeps;
            until = loads.keeps;
            entry = record {
              entry = refused.entry;
              here = ap (λ (l : List (EntityData M D)). slice_get l far) (sym same) ∙ refused.here;
              why = more refused.entry.marker (markers_of refused.entry.components) refused.why;
            };
          }

    module _ (place : ℕ) (stops : LoadsFoundBefore noted part_at id_of markers_of load front mid after had has place) where
      within : place < far
      within = let inside = stops.inside in let c = count in omega (arith, inside, c)

      pub front-stops : LoadsBefore noted part_at id_of markers_of load list before after had has place
      front-stops =
          record {
            inside = let inside = first.inside in let less = within in omega (arith, inside, less);
            keeps = goes-both (bearer_at noted part_at id_of) LivesIn before mid after first.keeps stops.keeps;
            loaded = λ sound apart entry among. stops.loaded (front-found sound) (front-apart apart) entry (subst (λ l. IsAmong entry l) (sym (of-front place (let less = within in omega (arith, less)))) among);
            others = λ index apart. stops.others index (λ entry entity among bears. apart entry entity (subst (λ l. IsAmong entry l) (of-front (place + 1) (let less = within in omega (arith, less))) among) bears);
          }

      pub front-refuses : {E : Type 0} (refuses : Births → A → List M → E → Type 0) (error : E) → RefusesEntry markers_of front (refuses after.births after.allocator) place error → RefusesLoad noted part_at id_of markers_of list refuses before after place error
      front-refuses refuses error refused =
          record {
            known = after;
            since = goes-both (bearer_at noted part_at id_of) LivesIn before mid after first.keeps stops.keeps;
            until = goes-none (bearer_at noted part_at id_of) LivesIn after;
            entry = record {
              entry = refused.entry;
              here = ap (λ (l : List (EntityData M D)). slice_get l place) whole ∙ front-get front (drop far list) place refused.entry refused.here;
              why = refused.why;
            };
          }
