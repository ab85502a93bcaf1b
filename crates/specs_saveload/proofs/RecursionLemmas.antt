-- Who is asked for, one after the other, and what is saved of them.
use Rattle.std.proofs.Common.{Result, Ok, Err, IfErr, IsErrOf, ◌≡◌, ◌≢◌, ◌⊎◌, ◌↔◌, ◌+◌, ◌<◌, ◌≤◌, ◌++◌, ◌||◌, ℕ, inl, inr, is_some, zero, suc, nat_eq, Bool, true, false, cond, IsSome, slice_get, length-append, List, [], ◌∷◌, length, map, Option, Some, None, option_and_then, option_map, refl, sym, ap, subst, ◌∙◌, arith}
use Rattle.std.specs.List.{flat_map}
use Rattle.std.proofs.lemmas.Bool.{false≢true}
use Rattle.std.proofs.lemmas.Option.{same_Some}
use Rattle.specs_entity.specs.Births.{Births, IsAlive, living}
use Rattle.specs_layouts.specs.MaskedLends.{StorageMembers}
use Rattle.specs_saveload.specs.Asked.{AsksEach, Marking, SavesReached}
use Rattle.specs_saveload.specs.Bearing.{IsAmong}
use Rattle.specs_saveload.specs.Orders.{AreAsked, IsReady, IsSafe}
use Rattle.specs_saveload.proofs.ImageLemmas.{named-by}
use Rattle.specs_saveload.proofs.OrderLemmas.{all-asked, all-behind, asked-on, few, none-asked, safe-all}
use Rattle.specs_entity.specs.Life.{LifeAt}
use Rattle.specs_entity.specs.declared.errors.Error.{Error}
use Rattle.specs_entity.specs.declared.errors.Error.TheVariants as variant
use Rattle.specs_saveload.specs.declared.entity_data.EntityData.{EntityData}
use Rattle.specs_saveload.specs.Reached.{IsOrder, IsReached, StopsAt, begins, goes_on, KeepsMarks, Order, marked_first, named_entry, with_all_asked, with_asked}
use Rattle.specs_saveload.specs.Saved.{IsEntryOf, NamesNone, all_some, name_of}
use Rattle.specs_saveload.proofs.LoadLemmas.{none-left, one-less}
use Rattle.specs_saveload.proofs.SaveLemmas.{none-done, none-more, one-more}
use Rattle.specs_saveload.specs.Saved.{IsSavedNext}

module _ {M : Type 0} (births : Births) where
  -- those asked for so far, who are alive, and those to come, are all
  pub record IsAsking (all left : List LifeAt) (many : ℕ) (before after : ℕ → Option M) (had has : List LifeAt) : Type 0 where
    pub count : many ≡ length left
    pub inside : (entity : LifeAt) → IsAmong entity left → IsAmong entity all
    pub alive : (entity : LifeAt) → IsAmong entity all → IsAmong entity left ⊎ IsAlive births entity
    pub keeps : KeepsMarks before after
    pub asked : (order : Order) → IsOrder order before had → (now : Order) × IsOrder now after has × (with_all_asked now left ≡ with_all_asked order all)

  pub asking-begins : (all left : List LifeAt) (many : ℕ) (markers : ℕ → Option M) (list : List LifeAt) → many ≡ length left → left ≡ all → IsAsking all left many markers markers list list
  asking-begins all left many markers list count is =
      record {
        count = count;
        inside = λ entity among. subst (IsAmong entity) is among;
        alive = λ entity among. inl (subst (IsAmong entity) (sym is) among);
        keeps = λ index marker has. has;
        asked = λ order is_order. (order, is_order, ap (with_all_asked order) is);
      }

  pub asking-keeps : (before between after : ℕ → Option M) → KeepsMarks before between → KeepsMarks between after → KeepsMarks before after
  asking-keeps before between after one other index marker has = other index marker (one index marker has)

  pub asking-goes-on : (all left rest : List LifeAt) (next : LifeAt) (many few : ℕ) (before between after : ℕ → Option M) (had mid has : List LifeAt) → IsAsking all left many before between had mid → left ≡ next ∷ rest → few + 1 ≡ many → KeepsMarks between after → ((order : Order) → IsOrder order between mid → IsOrder (with_asked order next) after has) → IsAlive births next → IsAsking all rest few before after had has
  asking-goes-on all left rest next many few before between after had mid has asking is less keeps ask alive =
      record {
        count = one-less left rest next many few asking.count is less;
        inside = λ entity among. asking.inside entity (subst (IsAmong entity) (sym is) (inr among));
        alive = λ entity among. elim (asking.alive entity among) [
          | inl come ↦ elim (subst (IsAmong entity) is come) [ inl first ↦ inr (subst (IsAlive births) first alive) | inr later ↦ inl later ]
          | inr lives ↦ inr lives
        ];
        keeps = asking-keeps before between after asking.keeps keeps;
        asked = λ order is_order.
            let now = asking.asked order is_order in
            (with_asked now.0 next, ask now.0 now.1, sym (ap (with_all_asked now.0) is) ∙ now.2);
      }

  pub asking-ends : (all left : List LifeAt) (many : ℕ) (before after : ℕ → Option M) (had has : List LifeAt) → IsAsking all left many before after had has → many ≡ 0 → (order : Order) → IsOrder order before had → IsOrder (with_all_asked order all) after has
  asking-ends all left many before after had has asking none order is_order =
      let now = asking.asked order is_order in
      subst (λ o. IsOrder o after has) (sym (ap (with_all_asked now.0) (none-left left many asking.count none)) ∙ now.2) now.1

  pub asking-next : (all left rest : List LifeAt) (next : LifeAt) (many : ℕ) (before after : ℕ → Option M) (had has : List LifeAt) → IsAsking all left many before after had has → left ≡ next ∷ rest → IsAmong next all
  asking-next all left rest next many before after had has asking is = asking.inside next (subst (IsAmong next) (sym is) (inl refl))

  pub asking-lives : (all left : List LifeAt) (many : ℕ) (before after : ℕ → Option M) (had has : List LifeAt) → IsAsking all left many before after had has → many ≡ 0 → (entity : LifeAt) → IsAmong entity all → IsAlive births entity
  asking-lives all left many before after had has asking none entity among = elim (asking.alive entity among) [
    | inl come ↦ absurd (subst (IsAmong entity) (none-left left many asking.count none) come)
    | inr lives ↦ lives
  ]

-- ---- what is saved of a list

module _ {E : Type 0} (entry : LifeAt → Option E) where
  -- what is saved so far, and of those to come, is all
  pub record IsSaving (all left : List LifeAt) (many : ℕ) (done : List E) : Type 0 where
    pub count : many ≡ length left
    pub inside : (entity : LifeAt) → IsAmong entity left → IsAmong entity all
    pub saved : option_map (λ more. done ++ more) (all_some (map entry left)) ≡ all_some (map entry all)

  pub saving-begins : (all left : List LifeAt) (many : ℕ) (done : List E) → many ≡ length left → left ≡ all → done ≡ [] → IsSaving all left many done
  saving-begins all left many done count is none =
      record {
        count = count;
        inside = λ entity among. subst (IsAmong entity) is among;
        saved = ap (λ (d : List E). option_map (λ more. d ++ more) (all_some (map entry left))) none ∙ (none-done (all_some (map entry left)) ∙ ap (λ (l : List LifeAt). all_some (map entry l)) is);
      }

  pub saving-goes-on : (all left rest : List LifeAt) (next : LifeAt) (many few : ℕ) (done after : List E) → IsSaving all left many done → left ≡ next ∷ rest → few + 1 ≡ many → IsSavedNext (entry next) done after → IsSaving all rest few after
  saving-goes-on all left rest next many few done after saving is less step =
      record {
        count = one-less left rest next many few saving.count is less;
        inside = λ entity among. saving.inside entity (subst (IsAmong entity) (sym is) (inr among));
        saved = one-more done after (entry next) (map entry rest) step
            ∙ (sym (ap (λ (l : List LifeAt). option_map (λ more. done ++ more) (all_some (map entry l))) is) ∙ saving.saved);
      }

  pub saving-next : (all left rest : List LifeAt) (next : LifeAt) (many : ℕ) (done : List E) → IsSaving all left many done → left ≡ next ∷ rest → IsAmong next all
  saving-next all left rest next many done saving is = saving.inside next (subst (IsAmong next) (sym is) (inl refl))

  pub saving-ends : (all left : List LifeAt) (many : ℕ) (done : List E) → IsSaving all left many done → many ≡ 0 → all_some (map entry all) ≡ Some done
  saving-ends all left many done saving none =
      sym saving.saved ∙ (ap (λ (l : List LifeAt). option_map (λ more. done ++ more) (all_some (map entry l))) (none-left left many saving.count none) ∙ none-more done)

module _ {M D P : Type 0} (plain : (LifeAt → Option M) → P → Option D) (parts_at : ℕ → P) (births : Births) (markers : ℕ → Option M) where
  -- an entry of an entity is what is saved of it
  pub entry-named : (entity : LifeAt) (entry : EntityData M D) → IsEntryOf plain parts_at births markers entity entry → named_entry plain parts_at births markers entity ≡ Some entry
  entry-named entity entry is =
      ap (option_and_then (λ marker. option_map (λ components. record { marker = marker; components = components }) (plain (name_of births markers) (parts_at entity.id)))) is.marked
      ∙ ap (option_map (λ components. record { marker = entry.marker; components = components })) is.parts

-- ---- the marked ones, first

all-are : {X Y : Type 0} (f : X → Y) (xs : List X) → all_some (map (λ x. Some (f x)) xs) ≡ Some (map f xs)
all-are f [] = refl
all-are f (x ∷ xs) = ap (option_map (λ ys. f x ∷ ys)) (all-are f xs)

pub first-are : {X Y : Type 0} (f : X → Y) (xs : List X) (done : List Y) → all_some (map (λ x. Some (f x)) xs) ≡ Some done → done ≡ map f xs
first-are f xs done is = same_Some done (map f xs) (sym is ∙ all-are f xs)

pub some-value : {X : Type 0} (o : Option X) → IsSome o → (x : X) × (o ≡ Some x)
some-value None some = absurd (false≢true some)
some-value (Some x) some = (x, refl)

-- ---- wave after wave

-- where nothing is at a place, the list has ended
pub none-at : {X : Type 0} (list : List X) (place : ℕ) → slice_get list place ≡ None → length list ≤ place
none-at [] place none = omega arith
none-at (x ∷ rest) zero none = cc
none-at (x ∷ rest) (suc place) none = let less = none-at rest place none in omega (arith, less)

one-longer : (order : Order) (entity : LifeAt) → length order.entities ≤ length (with_asked order entity).entities
one-longer order entity = by-mark (order.marked entity.id)
  where
    by-mark : (b : Bool) → length order.entities ≤ length (let o : Order = cond b order (record { marked = λ index. order.marked index || nat_eq index entity.id; entities = order.entities ++ entity ∷ [] }) in o).entities
    by-mark true = omega arith
    by-mark false = let sum = length-append order.entities (entity ∷ []) in omega (arith, sum)

longer : (entities : List LifeAt) (order : Order) → length order.entities ≤ length (with_all_asked order entities).entities
longer [] order = omega arith
longer (entity ∷ rest) order = let one = one-longer order entity in let more = longer rest (with_asked order entity) in omega (arith, one, more)

module _ {M : Type 0} (names : LifeAt → List LifeAt) (first : Order) (before : ℕ → Option M) (births : Births) where
  -- all before a place had those asked for that they name
  pub record IsReaching (place : ℕ) (after : ℕ → Option M) (list : List LifeAt) : Type 0 where
    pub order : Order
    pub reached : IsReached names first order place
    pub is_order : IsOrder order after list
    pub within : place ≤ length order.entities
    pub keeps : KeepsMarks before after
    pub safe : IsSafe births order
    pub asked : AreAsked names births order place

  pub reaching-begins : (list : List LifeAt) → IsOrder first before list → IsSafe births first → IsReaching 0 before list
  reaching-begins list is safe =
      record { order = first; reached = begins; is_order = is; within = omega arith; keeps = λ index marker has. has; safe = safe; asked = none-asked names births first }

  pub reaching-goes-on : (place : ℕ) (between after : ℕ → Option M) (list more : List LifeAt) (entity : LifeAt) → IsReaching place between list → slice_get list place ≡ Some entity → place < length list → KeepsMarks between after
      → ((order : Order) → IsOrder order between list → IsOrder (with_all_asked order (names entity)) after more) → ((named : LifeAt) → IsAmong named (names entity) → IsAlive births named) → IsReaching (place + 1) after more
  reaching-goes-on place between after list more entity reaching is inside keeps ask alive =
      record {
        order = with_all_asked reaching.order (names entity);
        reached = goes_on reaching.order place entity reaching.reached (ap (λ (l : List LifeAt). slice_get l place) (sym reaching.is_order.entities) ∙ is);
        is_order = ask reaching.order reaching.is_order;
        within =
            let grows = longer (names entity) reaching.order in
            let same = ap length reaching.is_order.entities in
            omega (arith, grows, same, inside);
        keeps = asking-keeps births before between after reaching.keeps keeps;
        safe = safe-all births (names entity) reaching.order alive reaching.safe;
        asked =
            let same = ap length reaching.is_order.entities in
            asked-on names births reaching.order place entity (ap (λ (l : List LifeAt). slice_get l place) (sym reaching.is_order.entities) ∙ is) (omega (arith, same, inside)) alive reaching.asked;
      }

  -- those who were reached stand before those who came
  pub reaching-grows : (place : ℕ) (between after : ℕ → Option M) (list more : List LifeAt) (entity : LifeAt) → IsReaching place between list → ((order : Order) → IsOrder order between list → IsOrder (with_all_asked order (names entity)) after more) → (new : List LifeAt) × (more ≡ list ++ new)
  reaching-grows place between after list more entity reaching ask =
      let behind = all-behind (names entity) reaching.order in
      (behind.0, (ask reaching.order reaching.is_order).entities ∙ (behind.1 ∙ ap (λ (l : List LifeAt). l ++ behind.0) (sym reaching.is_order.entities)))

  -- one that is named was refused its marker
  pub reaching-stops : (refused : LifeAt → Type 0) (place : ℕ) (after : ℕ → Option M) (list : List LifeAt) (entity named : LifeAt) → IsReaching place after list → slice_get list place ≡ Some entity → IsAmong named (names entity) → refused named → StopsAt names first refused
  reaching-stops refused place after list entity named reaching is among why =
      record {
        order = reaching.order;
        place = place;
        entity = entity;
        reached = reaching.reached;
        here = ap (λ (l : List LifeAt). slice_get l place) (sym reaching.is_order.entities) ∙ is;
        named = named;
        among = among;
        why = why;
      }

  -- there are no more than there are indices
  pub reaching-fits : (place : ℕ) (after : ℕ → Option M) (list : List LifeAt) → IsReaching place after list → ((index : ℕ) → IsSome (living births index) → index < 16777216) → length list ≤ 16777216
  reaching-fits place after list reaching low =
      let same = ap length reaching.is_order.entities in
      let most = few births reaching.order low reaching.safe in
      omega (arith, same, most)

  pub reaching-ends : (place : ℕ) (after : ℕ → Option M) (list : List LifeAt) → IsReaching place after list → length list ≤ place
      → (order : Order) × IsReached names first order (length order.entities) × IsOrder order after list × IsSafe births order × AreAsked names births order (length order.entities)
  reaching-ends place after list reaching ended =
      let same = ap length reaching.is_order.entities in
      let within = reaching.within in
      let all : place ≡ length reaching.order.entities = omega (arith, same, within, ended) in (
        reaching.order,
        subst (λ n. IsReached names first reaching.order n) all reaching.reached,
        reaching.is_order,
        reaching.safe,
        subst (λ n. AreAsked names births reaching.order n) all reaching.asked,
      )

-- ---- none of those that are reached is without a marker

module _ {M D P : Type 0} (plain : (LifeAt → Option M) → P → Option D) (refers_to : P → List LifeAt) (named : (names : LifeAt → Option M) (parts : P) → IsSome (plain names parts) ↔ ((entity : LifeAt) → IsAmong entity (refers_to parts) → IsSome (names entity)))
    (parts_at : ℕ → P) (births : Births) (after : ℕ → Option M) (order : Order) (marks : (index : ℕ) → is_some (after index) ≡ order.marked index) where
  is-named : (entity : LifeAt) → IsReady births order entity → (marker : M) × (name_of births after entity ≡ Some marker)
  is-named entity ready =
      let marker = some-value (after entity.id) (marks entity.id ∙ ready.1) in
      (marker.0, named-by births after entity marker.0 ready.0 marker.1)

  pub has-entry : IsSafe births order → AreAsked (λ entity. refers_to (parts_at entity.id)) births order (length order.entities) → (entity : LifeAt) → IsAmong entity order.entities → named_entry plain parts_at births after entity ≢ None
  has-entry safe asked entity among none =
      let marker = is-named entity (safe.ready entity among) in
      let some = (named (name_of births after) (parts_at entity.id)).1 (λ other own.
      ap is_some (is-named other (all-asked (λ e. refers_to (parts_at e.id)) births order asked entity other among own)).1) in
      let found = some-value (plain (name_of births after) (parts_at entity.id)) some in
      let entry : named_entry plain parts_at births after entity ≡ Some (record { marker = marker.0; components = found.0 }) =
      ap (option_and_then (λ m. option_map (λ components. record { marker = m; components = components }) (plain (name_of births after) (parts_at entity.id)))) marker.1
      ∙ ap (option_map (λ components. record { marker = marker.0; components = components })) found.1 in
      false≢true (sym (ap is_some none) ∙ ap is_some entry)

module _ {M D P : Type 0} (plain : (LifeAt → Option M) → P → Option D) (parts_at : ℕ → P) (births : Births) (markers : ℕ → Option M) where
  -- an entity without a marker has no entry, and so has one whose parts have no data
  pub no-name : (entity : LifeAt) → name_of births markers entity ≡ None → named_entry plain parts_at births markers entity ≡ None
  no-name entity none = ap (option_and_then (λ marker. option_map (λ components. record { marker = marker; components = components }) (plain (name_of births markers) (parts_at entity.id)))) none

  pub no-data : (entity : LifeAt) → NamesNone plain parts_at births markers entity → named_entry plain parts_at births markers entity ≡ None
  no-data entity names =
      let marker = some-value (name_of births markers entity) names.marked in
      ap (option_and_then (λ m. option_map (λ components. record { marker = m; components = components }) (plain (name_of births markers) (parts_at entity.id)))) marker.1
      ∙ ap (option_map (λ components. record { marker = marker.0; components = components })) names.parts

-- what is saved of those that are reached isn't refused but for want of memory
module _ {M D P : Type 0} (plain : (LifeAt → Option M) → P → Option D) (refers_to : P → List LifeAt) (named : (names : LifeAt → Option M) (parts : P) → IsSome (plain names parts) ↔ ((entity : LifeAt) → IsAmong entity (refers_to parts) → IsSome (names entity)))
    (parts_at : ℕ → P) (births : Births) (before after : ℕ → Option M) (list : List LifeAt) where
  pub only-memory : (reached : (order : Order) × IsReached (λ entity. refers_to (parts_at entity.id)) (marked_first births before) order (length order.entities) × IsOrder order after list × IsSafe births order × AreAsked (λ entity. refers_to (parts_at entity.id)) births order (length order.entities))
      {T : Type 0} (result : Result T Error) → (IsErrOf result variant.Unmarked → (entity : LifeAt) × IsAmong entity list × (named_entry plain parts_at births after entity ≡ None)) → IfErr result (λ error. (error ≡ variant.Unmarked) ⊎ (error ≡ variant.Memory)) → IfErr result (λ error. error ≡ variant.Memory)
  only-memory reached (Ok value) unmarked refused = tt
  only-memory reached (Err error) unmarked (inr memory) = memory
  only-memory (order, is_reached, is_order, safe, asked) (Err error) unmarked (inl is) =
      let one = unmarked (ap Err is) in
      absurd (has-entry plain refers_to named parts_at births after order is_order.marks safe asked one.0 (subst (IsAmong one.0) is_order.entities one.1) one.2)

-- what is saved of those that are reached, each of whom was asked for
module _ {A S M I D P : Type 0} (noted : A → I → Option LifeAt) (allocates : A → LifeAt → Option I → M → A → Type 0) (id_of : M → I) (s : StorageMembers S M) (births : Births) (plain : (LifeAt → Option M) → P → Option D) (refers_to : P → List LifeAt) (parts_at : ℕ → P) (before after : Marking A S) (list : List LifeAt) where
  pub saves-reached : (reached : (order : Order) × IsReached (λ entity. refers_to (parts_at entity.id)) (marked_first births (s.part_at before.markers.inner)) order (length order.entities) × IsOrder order (s.part_at after.markers.inner) list × IsSafe births order × AreAsked (λ entity. refers_to (parts_at entity.id)) births order (length order.entities))
      → AsksEach noted allocates id_of s births (flat_map (λ entity. refers_to (parts_at entity.id)) list) before after → (saved : List (EntityData M D)) → all_some (map (named_entry plain parts_at births (s.part_at after.markers.inner)) list) ≡ Some saved
      → SavesReached noted allocates id_of s births plain refers_to parts_at before after saved
  saves-reached (order, is_reached, is_order, safe, asked) asks saved is = record {
    order = order;
    reached = is_reached;
    marks = is_order.marks;
    asks = subst (λ (l : List LifeAt). AsksEach noted allocates id_of s births (flat_map (λ entity. refers_to (parts_at entity.id)) l) before after) is_order.entities asks;
    saved = ap (λ (l : List LifeAt). all_some (map (named_entry plain parts_at births (s.part_at after.markers.inner)) l)) (sym is_order.entities) ∙ is;
  }
