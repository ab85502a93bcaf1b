-- What is known of bearers after one was asked for and then others, and entries that are loaded one after the other.
use Rattle.std.proofs.Common.{◌≡◌, ◌≢◌, ◌+◌, ◌<◌, ℕ, zero, suc, List, [], ◌∷◌, ◌++◌, length, take, slice_get, Option, Some, inl, inr, refl, sym, subst, ap, ◌∙◌, append-nil, append_assoc, length-append, arith}
use Rattle.std.proofs.Math.Seq.{take-append_seam}
use Rattle.std.proofs.lemmas.Option.{same_Some, slice_get_within}
use Rattle.specs_saveload.specs.declared.entity_data.EntityData.{EntityData}
use Rattle.specs_entity.specs.Births.{Births}
use Rattle.specs_entity.specs.declared.errors.Error.{Error}
use Rattle.specs_saveload.specs.Finding.{AreFound, LoadsFound, LoadsFoundBefore}
use Rattle.specs_saveload.specs.Known.{IsSound, Known, LivesIn, RefusesBearers, bearer_at}
use Rattle.specs_saveload.specs.Loading.{AreApart, IsLoaded, RefusesEntry}
use Rattle.specs_entity.specs.Life.{LifeAt}
use Rattle.specs_saveload.specs.Bearing.{Asks, GoesOn, IsAmong}
use Rattle.specs_saveload.specs.NamingLemmas.{among-either, among-left, among-right}

module _ {S M : Type 0} (bearer_of : S → M → Option LifeAt) (lives : S → LifeAt → Type 0) where
  pub goes-none : (state : S) → GoesOn bearer_of lives state state
  goes-none state = record { keeps = λ marker entity is. is; live_on = λ entity lives. lives }

  module _ (first second third : S) where
    pub goes-both : GoesOn bearer_of lives first second → GoesOn bearer_of lives second third → GoesOn bearer_of lives first third
    goes-both one other =
        record {
          keeps = λ marker entity is. other.keeps marker entity (one.keeps marker entity is);
          live_on = λ entity is. other.live_on entity (one.live_on entity is);
        }

    pub asks-both : (IsSound : S → Type 0) (named others : List M) → Asks bearer_of lives IsSound named first second → GoesOn bearer_of lives second third → Asks bearer_of lives IsSound others second third → Asks bearer_of lives IsSound (named ++ others) first third
    asks-both IsSound named others one goes other =
        record {
          only = λ entity is. elim (other.only entity is) [
            | inl before ↦ elim (one.only entity before) [
              | inl old ↦ inl old
              | inr asked ↦ inr (asked.0, among-left asked.0 named others asked.1, goes.keeps asked.0 entity asked.2)
            ]
            | inr asked ↦ inr (asked.0, among-right asked.0 named others asked.1, asked.2)
          ];
          sound = λ sound. other.sound (one.sound sound);
        }

module _ {S M : Type 0} (bearer_of : S → M → Option LifeAt) (lives : S → LifeAt → Type 0) (IsSound : S → Type 0) (marker : M) (named : List M) (before after : S) where
  -- who was asked for by some markers was by more
  pub asks-more : Asks bearer_of lives IsSound named before after → Asks bearer_of lives IsSound (marker ∷ named) before after
  asks-more asks = record {
    only = λ entity is. elim (asks.only entity is) [ inl old ↦ inl old | inr one ↦ inr (one.0, inr one.1, one.2) ];
    sound = asks.sound;
  }

-- what is refused of some markers is refused of more
module _ {A M I : Type 0} (refuses : A → Option I → Error → Type 0) (id_of : M → I) (births : Births) (allocator : A) (named others : List M) (error : Error) where
  pub refused-left : RefusesBearers refuses id_of births allocator named error → RefusesBearers refuses id_of births allocator (named ++ others) error
  refused-left (inl birth) = inl birth
  refused-left (inr (inl one)) = inr (inl (one.0, among-left one.0 named others one.1, one.2))
  refused-left (inr (inr memory)) = inr (inr memory)

  pub refused-right : RefusesBearers refuses id_of births allocator others error → RefusesBearers refuses id_of births allocator (named ++ others) error
  refused-right (inl birth) = inl birth
  refused-right (inr (inl one)) = inr (inl (one.0, among-right one.0 named others one.1, one.2))
  refused-right (inr (inr memory)) = inr (inr memory)

-- ---- a list that is gone through

pub at-seam : {X : Type 0} (done rest : List X) (next : X) (place : ℕ) → length done ≡ place → slice_get (done ++ next ∷ rest) place ≡ Some next
at-seam done rest next place is = ap (slice_get (done ++ next ∷ rest)) (sym is) ∙ by done
  where
    by : (front : List _) → slice_get (front ++ next ∷ rest) (length front) ≡ Some next
    by [] = refl
    by (first ∷ more) = by more

-- what stands in the first of two lists stands at that place in both together
pub front-get : {X : Type 0} (xs more : List X) (k : ℕ) (x : X) → slice_get xs k ≡ Some x → slice_get (xs ++ more) k ≡ Some x
front-get [] more k x is = absurd (let less = slice_get_within [] k x is in omega (arith, less))
front-get (y ∷ xs) more zero x is = is
front-get (y ∷ xs) more (suc k) x is = front-get xs more k x is

pub one-less : {X : Type 0} (before after : List X) (first : X) (many few : ℕ) → many ≡ length before → before ≡ first ∷ after → few + 1 ≡ many → few ≡ length after
one-less before after first many few count is less = let sum = ap length is in omega (arith, count, sum, less)

pub none-left : {X : Type 0} (left : List X) (many : ℕ) → many ≡ length left → many ≡ 0 → left ≡ []
none-left [] many count none = refl
none-left (first ∷ rest) many count none = absurd (not-none (length rest) many count none)
  where
    not-none : (n m : ℕ) → m ≡ suc n → m ≡ 0 → ⊥
    not-none n m is none = omega (arith, is, none)

-- ---- entries that are apart

module _ {M D : Type 0} where
  pub apart-front : (done left : List (EntityData M D)) → AreApart (done ++ left) → AreApart done
  apart-front [] left apart = tt
  apart-front (first ∷ rest) left apart = (λ other among. apart.0 other (among-left other rest left among), apart-front rest left apart.1)

  pub apart-next : (done rest : List (EntityData M D)) (next : EntityData M D) → AreApart (done ++ next ∷ rest) → (entry : EntityData M D) → IsAmong entry done → entry.marker ≢ next.marker
  apart-next (first ∷ more) rest next apart entry (inl is) same = apart.0 next (among-right next more (next ∷ rest) (inl refl)) (ap (λ (e : EntityData M D). e.marker) is ∙ same)
  apart-next (first ∷ more) rest next apart entry (inr later) same = apart-next more rest next apart.1 entry later same
  apart-next [] rest next apart entry none same = none

  -- those of a list whose entities were found are so too
  pub found-front : (bearers : M → Option LifeAt) (done left : List (EntityData M D)) → AreFound bearers (done ++ left) → AreFound bearers done
  found-front bearers done left found =
      record {
        found = λ entry among. found.found entry (among-left entry done left among);
        spread = λ one other entity entity' among among'. found.spread one other entity entity' (among-left one done left among) (among-left other done left among');
      }

  counted : (done rest : List (EntityData M D)) (next : EntityData M D) → length done < length (done ++ next ∷ rest)
  counted done rest next = let sum = length-append done (next ∷ rest) in omega (arith, sum)

  one-further : (done : List (EntityData M D)) (next : EntityData M D) (place : ℕ) → length done ≡ place → length (done ++ next ∷ []) ≡ place + 1
  one-further done next place is = let sum = length-append done (next ∷ []) in omega (arith, sum)

  pub taken : (done left : List (EntityData M D)) (place : ℕ) → length done ≡ place → take place (done ++ left) ≡ done
  taken done left place is = ap (λ n. take n (done ++ left)) (sym is) ∙ take-append_seam done left

  pub taken-next : (done rest : List (EntityData M D)) (next : EntityData M D) (place : ℕ) → length done ≡ place → take (place + 1) (done ++ next ∷ rest) ≡ done ++ next ∷ []
  taken-next done rest next place is =
      ap (take (place + 1)) (sym (append_assoc done (next ∷ []) rest)) ∙ taken (done ++ next ∷ []) rest (place + 1) (one-further done next place is)

-- ---- one entry after the other

module _ {A S M I D P : Type 0} (noted : A → I → Option LifeAt) (part_at : S → ℕ → Option M) (id_of : M → I) (markers_of : D → List M) (load : (M → Option LifeAt) → D → Option P) (before : Known A S) (had : ℕ → P) where
  -- the entries of a list are loaded as far as those that are left
  pub record IsLoading (list : List (EntityData M D)) (place : ℕ) (left : List (EntityData M D)) (after : Known A S) (has : ℕ → P) : Type 0 where
    pub done : List (EntityData M D)
    pub count : length done ≡ place
    pub whole : list ≡ done ++ left
    pub loads : LoadsFound noted part_at id_of markers_of load done before after had has

  none-loaded : LoadsFound noted part_at id_of markers_of load [] before before had had
  none-loaded =
      record {
        keeps = goes-none (bearer_at noted part_at id_of) LivesIn before;
        sound = λ sound. sound;
        loaded = λ found apart entry none. absurd none;
        only = λ entity alive. inl alive;
        others = λ index apart. refl;
      }

  pub loading-begins : (list left : List (EntityData M D)) → left ≡ list → IsLoading list 0 left before had
  loading-begins list left is = record { done = []; count = refl; whole = sym is; loads = none-loaded }

  pub loading-ends : (list left : List (EntityData M D)) (place : ℕ) (after : Known A S) (has : ℕ → P) → IsLoading list place left after has → left ≡ [] → LoadsFound noted part_at id_of markers_of load list before after had has
  loading-ends list left place after has loading is =
      subst (λ done. LoadsFound noted part_at id_of markers_of load done before after had has)
      (sym (loading.whole ∙ (ap (λ l. loading.done ++ l) is ∙ append-nil loading.done)))
      loading.loads

  pub place-inside : (list left rest : List (EntityData M D)) (next : EntityData M D) (place : ℕ) (after : Known A S) (has : ℕ → P) → IsLoading list place left after has → left ≡ next ∷ rest → place < length list
  place-inside list left rest next place after has loading is =
      subst (λ n. n < length list) loading.count (subst (λ l. length loading.done < length l) (sym (loading.whole ∙ ap (λ l. loading.done ++ l) is)) (counted loading.done rest next))

module _ {A S M I D P : Type 0} (noted : A → I → Option LifeAt) (part_at : S → ℕ → Option M) (id_of : M → I) (markers_of : D → List M) (load : (M → Option LifeAt) → D → Option P) (before : Known A S) (had : ℕ → P) (kept : (one other : M → Option LifeAt) (saved : D) (parts : P) → ((marker : M) (entity : LifeAt) → one marker ≡ Some entity → other marker ≡ Some entity) → load one saved ≡ Some parts → load other saved ≡ Some parts) where
  module _ (done : List (EntityData M D)) (next : EntityData M D) (mid after : Known A S) (between has : ℕ → P) (loads : LoadsFound noted part_at id_of markers_of load done before mid had between)
      (keeps : GoesOn (bearer_at noted part_at id_of) LivesIn mid after) (elsewhere : (index : ℕ) → ((entity : LifeAt) → bearer_at noted part_at id_of after next.marker ≡ Some entity → index ≢ entity.id) → has index ≡ between index) where
    goes : GoesOn (bearer_at noted part_at id_of) LivesIn before after
    goes = goes-both (bearer_at noted part_at id_of) LivesIn before mid after loads.keeps keeps

    module _ (list : List (EntityData M D)) (found : AreFound (bearer_at noted part_at id_of before) list) (there : IsAmong next list) (entry : EntityData M D) (among : IsAmong entry list) (apart : entry.marker ≢ next.marker) where
      -- the bearer of another entry's marker is at another index
      other-index : (entity one : LifeAt) → bearer_at noted part_at id_of mid entry.marker ≡ Some entity → bearer_at noted part_at id_of after next.marker ≡ Some one → entity.id ≢ one.id
      other-index entity one bears takes same =
          let mine = found.found entry among in
          let its = found.found next there in
          let first = same_Some mine.0 entity (sym (loads.keeps.keeps entry.marker mine.0 mine.1) ∙ bears) in
          let second = same_Some its.0 one (sym (goes.keeps next.marker its.0 its.1) ∙ takes) in
          found.spread entry next mine.0 its.0 among there apart mine.1 its.1 (ap (λ (e : LifeAt). e.id) first ∙ (same ∙ sym (ap (λ (e : LifeAt). e.id) second)))

      -- what was loaded is loaded still
      loaded-still : IsLoaded load (bearer_at noted part_at id_of mid) between entry → IsLoaded load (bearer_at noted part_at id_of after) has entry
      loaded-still was =
          record {
            entity = was.entity;
            bears = keeps.keeps entry.marker was.entity was.bears;
            has = kept (bearer_at noted part_at id_of mid) (bearer_at noted part_at id_of after) entry.components (between was.entity.id) keeps.keeps was.has
                ∙ ap Some (sym (elsewhere was.entity.id (λ one takes. other-index was.entity one was.bears takes)));
          }

    module _ (adds : Asks (bearer_at noted part_at id_of) LivesIn (IsSound noted part_at id_of) (next.marker ∷ markers_of next.components) mid after) (ok : IsLoaded load (bearer_at noted part_at id_of after) has next) where
      next-loads : LoadsFound noted part_at id_of markers_of load (done ++ next ∷ []) before after had has
      next-loads =
          record {
            keeps = goes;
            sound = λ sound. adds.sound (loads.sound sound);
            loaded = λ found apart entry among. elim (among-either entry done (next ∷ []) among) [
              | inl old ↦ loaded-still (done ++ next ∷ []) found (among-right next done (next ∷ []) (inl refl)) entry among (apart-next done [] next apart entry old) (loads.loaded (found-front _ done (next ∷ []) found) (apart-front done (next ∷ []) apart) entry old)
              | inr new ↦ elim new [ inl is ↦ subst (IsLoaded load (bearer_at noted part_at id_of after) has) is ok | inr none ↦ absurd none ]
            ];
            only = λ entity alive. elim (adds.only entity alive) [
              | inl lived ↦ elim (loads.only entity lived) [
                | inl old ↦ inl old
                | inr made ↦ inr (made.0, made.1, among-left made.0 done (next ∷ []) made.2, made.3, keeps.keeps made.1 entity made.4)
              ]
              | inr made ↦ inr (next, made.0, among-right next done (next ∷ []) (inl refl), made.1, made.2)
            ];
            others = λ index apart.
                elsewhere index (λ entity is. apart next entity (among-right next done (next ∷ []) (inl refl)) is)
                ∙ loads.others index (λ entry entity among is. apart entry entity (among-left entry done (next ∷ []) among) (keeps.keeps entry.marker entity is));
          }

  module _ (list left rest : List (EntityData M D)) (next : EntityData M D) (place : ℕ) (mid after : Known A S) (between has : ℕ → P) (loading : IsLoading noted part_at id_of markers_of load before had list place left mid between) (is : left ≡ next ∷ rest)
      (keeps : GoesOn (bearer_at noted part_at id_of) LivesIn mid after) (elsewhere : (index : ℕ) → ((entity : LifeAt) → bearer_at noted part_at id_of after next.marker ≡ Some entity → index ≢ entity.id) → has index ≡ between index) where
    all : list ≡ loading.done ++ next ∷ rest
    all = loading.whole ∙ ap (λ l. loading.done ++ l) is

    pub loading-goes-on : Asks (bearer_at noted part_at id_of) LivesIn (IsSound noted part_at id_of) (next.marker ∷ markers_of next.components) mid after → IsLoaded load (bearer_at noted part_at id_of after) has next → IsLoading noted part_at id_of markers_of load before had list (place + 1) rest after has
    loading-goes-on adds ok =
        record {
          done = loading.done ++ next ∷ [];
          count = one-further loading.done next place loading.count;
          whole = all ∙ sym (append_assoc loading.done (next ∷ []) rest);
          loads = next-loads loading.done next mid after between has loading.loads keeps elsewhere adds ok;
        }

    pub loading-refuses : {E : Type 0} (refuses : List M → E → Type 0) (error : E) → refuses (next.marker ∷ markers_of next.components) error → RefusesEntry markers_of list refuses place error
    loading-refuses refuses error why =
        record { entry = next; here = ap (λ (l : List (EntityData M D)). slice_get l place) all ∙ at-seam loading.done rest next place loading.count; why = why }

    -- the entries up to the next are those that were loaded, and that
    up-to-next : take (place + 1) list ≡ loading.done ++ next ∷ []
    up-to-next = ap (take (place + 1)) all ∙ taken-next loading.done rest next place loading.count

    pub loading-stops : LoadsFoundBefore noted part_at id_of markers_of load list before after had has place
    loading-stops =
        record {
          inside = place-inside noted part_at id_of markers_of load before had list left rest next place mid between loading is;
          keeps = goes loading.done next mid after between has loading.loads keeps elsewhere;
          loaded = λ found apart entry among.
              let old = subst (λ l. IsAmong entry l) (ap (take place) all ∙ taken loading.done (next ∷ rest) place loading.count) among in
              let far = subst (λ l. AreApart l) all apart in
              let there = subst (λ l. AreFound (bearer_at noted part_at id_of before) l) all found in
              loaded-still loading.done next mid after between has loading.loads keeps elsewhere (loading.done ++ next ∷ rest) there (among-right next loading.done (next ∷ rest) (inl refl)) entry (among-left entry loading.done (next ∷ rest) old) (apart-next loading.done rest next far entry old)
              (loading.loads.loaded (found-front _ loading.done (next ∷ rest) there) (apart-front loading.done (next ∷ rest) far) entry old);
          others = λ index apart.
              elsewhere index (λ entity bears. apart next entity (subst (λ l. IsAmong next l) (sym up-to-next) (among-right next loading.done (next ∷ []) (inl refl))) bears)
              ∙ loading.loads.others index (λ entry entity among bears. apart entry entity (subst (λ l. IsAmong entry l) (sym up-to-next) (among-left entry loading.done (next ∷ []) among)) (keeps.keeps entry.marker entity bears));
        }
