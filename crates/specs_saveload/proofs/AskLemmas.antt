-- Marks that are made of those who are asked for, one after the other.
use Rattle.std.proofs.Common.{◌≡◌, ◌⊎◌, ◌+◌, ◌<◌, ◌≤◌, ◌++◌, ℕ, zero, suc, Bool, true, false, List, [], ◌∷◌, length, take, slice_get, Option, Some, None, option_map, inl, inr, refl, sym, ap, subst, ◌∙◌, arith, append_assoc, append-nil}
use Rattle.std.specs.List.{flat_map}
use Rattle.std.proofs.Math.Seq.{take-suc}
use Rattle.std.proofs.lemmas.Grind.{flat_map-append}
use Rattle.std.proofs.lemmas.List.{take-append-le, take_all}
use Rattle.std.proofs.lemmas.List.Concat.{flat_map-cons}
use Rattle.std.proofs.lemmas.Option.{get_or_from_slice_get, slice_get_within}
use Rattle.specs_entity.specs.Births.{Births, IsAlive}
use Rattle.specs_entity.specs.Life.{LifeAt}
use Rattle.specs_entity.specs.declared.errors.Error.{Error}
use Rattle.specs_layouts.specs.Masked.{Masked}
use Rattle.specs_layouts.specs.MaskedLends.{StorageMembers}
use Rattle.specs_layouts.specs.declared.unprotected.TryDefault as try_default
use Rattle.specs_layouts.specs.declared.unprotected.UnprotectedStorage as unprotected
use Rattle.specs_markers.specs.Marking.{IsUntold, Marks, RefusesMark, TellsMark}
use Rattle.specs_saveload.specs.Asked.{AsksEach, AsksFor, AsksSome, LeavesMarks, Marking, RefusesNext, asked_before, marking_of}
use Rattle.specs_saveload.specs.Reached.{IsReached, Order, begins}
use Rattle.specs_saveload.proofs.LoadLemmas.{none-left}

-- the members of a layout and those of its default, as a clause has them
abbrev pub members_of : {S T : Type 0} → unprotected.Ghosts S T → try_default.Ghosts S → StorageMembers S T
members_of g d = record {
  is_default = d.is_default;
  always = d.always;
  part_at = g.part_at;
  written = g.written;
  events = g.events;
  emits = g.emits;
  has_room = g.has_room;
}

-- two markings with the same allocator and the same storage are one
same-marking : {A S : Type 0} (one other : Marking A S) → one.allocator ≡ other.allocator → one.markers ≡ other.markers → one ≡ other
same-marking one other allocators markers = λ i. record { allocator = allocators i; markers = markers i }

module _ {A S M I : Type 0} (noted : A → I → Option LifeAt) (allocates : A → LifeAt → Option I → M → A → Type 0) (id_of : M → I) (s : StorageMembers S M) (births : Births) where
  -- ---- one is asked for

  -- who was marked keeps its mark, or is given one
  pub asks-marked : (entity : LifeAt) (told : Option (I × Bool)) (new : Bool) (before after : Marking A S) → TellsMark noted allocates id_of s births entity before.allocator after.allocator before.markers after.markers told
      → option_map (λ mark. mark.1) told ≡ Some new → AsksFor noted allocates id_of s births entity before after
  asks-marked entity told true before after tells is = inr (subst (Marks noted allocates id_of s births entity before.allocator after.allocator before.markers after.markers) is tells.marks)
  asks-marked entity told false before after tells is = inl (subst (Marks noted allocates id_of s births entity before.allocator after.allocator before.markers after.markers) is tells.marks)

  module _ (refuses : A → Option I → Error → Type 0) (entity : LifeAt) (error : Error) (before after : Marking A S) where
    -- it was marked, and there was no memory to note it
    pub some-marked : AsksFor noted allocates id_of s births entity before after → AsksSome noted allocates id_of s births refuses (entity ∷ []) error before after
    some-marked asks = record { done = entity ∷ []; left = []; all = refl; between = after; asks = (after, asks, refl); last = inl refl }

    -- it isn't alive
    pub some-dead : TellsMark noted allocates id_of s births entity before.allocator after.allocator before.markers after.markers None → AsksSome noted allocates id_of s births refuses (entity ∷ []) error before after
    some-dead tells = record {
      done = [];
      left = entity ∷ [];
      all = refl;
      between = before;
      asks = refl;
      last = inl (same-marking after before tells.marks.allocator tells.marks.storage);
    }

    -- it got no marker
    pub some-refused : IsAlive births entity → RefusesMark noted allocates id_of refuses entity before.allocator after.allocator error → IsUntold s before.markers after.markers → AsksSome noted allocates id_of s births refuses (entity ∷ []) error before after
    some-refused alive why untold = record {
      done = [];
      left = entity ∷ [];
      all = refl;
      between = before;
      asks = refl;
      last = inr (record { next = entity; rest = []; first = refl; alive = alive; why = why; untold = untold });
    }

  -- ---- those of a list

  -- of one list, and then of another
  pub asks-both : (one other : List LifeAt) (before between after : Marking A S) → AsksEach noted allocates id_of s births one before between → AsksEach noted allocates id_of s births other between after → AsksEach noted allocates id_of s births (one ++ other) before after
  asks-both [] other before between after first second = subst (λ state. AsksEach noted allocates id_of s births other state after) first second
  asks-both (entity ∷ one) other before between after (next, asks, first) second = (next, asks, asks-both one other next between after first second)

  -- some of a list were asked for, and the others are to come
  pub record AreAsking (all left : List LifeAt) (before after : Marking A S) : Type 0 where
    pub done : List LifeAt
    pub split : all ≡ done ++ left
    pub asks : AsksEach noted allocates id_of s births done before after

  pub none-asking : (all left : List LifeAt) (state : Marking A S) → left ≡ all → AreAsking all left state state
  none-asking all left state is = record { done = []; split = sym is; asks = refl }

  pub one-asked : (all left rest : List LifeAt) (next : LifeAt) (before between after : Marking A S) → AreAsking all left before between → left ≡ next ∷ rest → AsksFor noted allocates id_of s births next between after → AreAsking all rest before after
  one-asked all left rest next before between after asking is asks = record {
    done = asking.done ++ next ∷ [];
    split = asking.split ∙ (ap (λ (l : List LifeAt). asking.done ++ l) is ∙ sym (append_assoc asking.done (next ∷ []) rest));
    asks = asks-both asking.done (next ∷ []) before between after asking.asks (after, asks, refl);
  }

  pub all-asking : (all left : List LifeAt) (many : ℕ) (before after : Marking A S) → AreAsking all left before after → many ≡ length left → many ≡ 0 → AsksEach noted allocates id_of s births all before after
  all-asking all left many before after asking count none =
      subst (λ list. AsksEach noted allocates id_of s births list before after)
      (sym (asking.split ∙ (ap (λ (l : List LifeAt). asking.done ++ l) (none-left left many count none) ∙ append-nil asking.done))) asking.asks

  module _ (refuses : A → Option I → Error → Type 0) where
    next-refused : (left more : List LifeAt) (error : Error) (before after : Marking A S) → RefusesNext noted allocates id_of s births refuses left error before after → RefusesNext noted allocates id_of s births refuses (left ++ more) error before after
    next-refused left more error before after refused = record {
      next = refused.next;
      rest = refused.rest ++ more;
      first = ap (λ (l : List LifeAt). l ++ more) refused.first;
      alive = refused.alive;
      why = refused.why;
      untold = refused.untold;
    }

    -- the next of them was refused
    pub some-asking : (all left rest : List LifeAt) (next : LifeAt) (error : Error) (before between after : Marking A S) → AreAsking all left before between → left ≡ next ∷ rest
        → AsksSome noted allocates id_of s births refuses (next ∷ []) error between after → AsksSome noted allocates id_of s births refuses all error before after
    some-asking all left rest next error before between after asking is some = record {
      done = asking.done ++ some.done;
      left = some.left ++ rest;
      all = asking.split
          ∙ (ap (λ (l : List LifeAt). asking.done ++ l) (is ∙ (ap (λ (l : List LifeAt). l ++ rest) some.all ∙ append_assoc some.done some.left rest))
          ∙ sym (append_assoc asking.done some.done (some.left ++ rest)));
      between = some.between;
      asks = asks-both asking.done some.done before between some.between asking.asks some.asks;
      last = elim some.last [ inl none ↦ inl none | inr refused ↦ inr (next-refused some.left rest error some.between after refused) ];
    }

    -- nobody was asked for
    pub some-none : (list : List LifeAt) (error : Error) (state : Marking A S) → AsksSome noted allocates id_of s births refuses list error state state
    some-none list error state = record { done = []; left = list; all = refl; between = state; asks = refl; last = inl refl }

-- ---- those whom an order names, place by place

module _ (names : LifeAt → List LifeAt) where
  -- whom the one at a place names comes behind those before
  asked-next : (list more : List LifeAt) (place : ℕ) (entity : LifeAt) → slice_get list place ≡ Some entity → flat_map names (take (place + 1) (list ++ more)) ≡ flat_map names (take place list) ++ names entity
  asked-next list more place entity here =
      let inside = slice_get_within list place entity here in
      let next : place + 1 ≡ suc place = omega arith in
      ap (flat_map names) (take-append-le (place + 1) list more (omega (arith, inside)) ∙ (ap (λ n. take n list) next ∙ (take-suc list place entity inside ∙ ap (λ e. take place list ++ e ∷ []) (get_or_from_slice_get list place entity entity here))))
      ∙ (flat_map-append names (take place list) (entity ∷ []) ∙ ap (λ (l : List LifeAt). flat_map names (take place list) ++ l) (flat_map-cons names entity [] ∙ append-nil (names entity)))

  module _ {A S M I : Type 0} (noted : A → I → Option LifeAt) (allocates : A → LifeAt → Option I → M → A → Type 0) (id_of : M → I) (s : StorageMembers S M) (births : Births) where
    -- whom the entities of a list before a place name was asked for
    pub record AreAskedFor (list : List LifeAt) (place : ℕ) (start now : Marking A S) : Type 0 where
      pub each : AsksEach noted allocates id_of s births (flat_map names (take place list)) start now

    pub asked-for-none : (list : List LifeAt) (state : Marking A S) → AreAskedFor list 0 state state
    asked-for-none list state = record { each = refl }

    pub asked-for-next : (list after : List LifeAt) (place : ℕ) (entity : LifeAt) (start between now : Marking A S) → AreAskedFor list place start between → slice_get list place ≡ Some entity → (more : List LifeAt) × (after ≡ list ++ more)
        → AsksEach noted allocates id_of s births (names entity) between now → AreAskedFor after (place + 1) start now
    asked-for-next list after place entity start between now asked here (more, grown) asks =
        record {
          each = subst (λ l. AsksEach noted allocates id_of s births l start now) (sym (ap (λ (l : List LifeAt). flat_map names (take (place + 1) l)) grown ∙ asked-next list more place entity here))
              (asks-both noted allocates id_of s births (flat_map names (take place list)) (names entity) start between now asked.each asks);
        }

    pub asked-for-all : (list : List LifeAt) (place : ℕ) (start now : Marking A S) → AreAskedFor list place start now → length list ≤ place → AsksEach noted allocates id_of s births (flat_map names list) start now
    asked-for-all list place start now asked ended = subst (λ l. AsksEach noted allocates id_of s births (flat_map names l) start now) (take_all place list ended) asked.each

    module _ (refuses : A → Option I → Error → Type 0) (first : Order) (error : Error) where
      -- nobody was asked for
      pub leaves-none : (state : Marking A S) → LeavesMarks noted allocates id_of s births refuses names first error state state
      leaves-none state = record { order = first; place = 0; reached = begins; between = state; asks = refl; stops = inl refl }

      -- those whom the entities of an order before a place name were asked for, and some of those that the next names
      pub leaves-some : (order : Order) (list : List LifeAt) (place : ℕ) (entity : LifeAt) (start between now : Marking A S) → IsReached names first order place → list ≡ order.entities → AreAskedFor list place start between → slice_get list place ≡ Some entity
          → AsksSome noted allocates id_of s births refuses (names entity) error between now → LeavesMarks noted allocates id_of s births refuses names first error start now
      leaves-some order list place entity start between now reached is asked here some = record {
        order = order;
        place = place;
        reached = reached;
        between = between;
        asks = subst (λ (l : List LifeAt). AsksEach noted allocates id_of s births (flat_map names (take place l)) start between) is asked.each;
        stops = inr (entity, ap (λ (l : List LifeAt). slice_get l place) (sym is) ∙ here, some);
      }

      -- all were asked for, and nothing more was done
      pub leaves-all : (order : Order) (list : List LifeAt) (start now : Marking A S) → IsReached names first order (length order.entities) → list ≡ order.entities → AsksEach noted allocates id_of s births (flat_map names list) start now
          → LeavesMarks noted allocates id_of s births refuses names first error start now
      leaves-all order list start now reached is asked = record {
        order = order;
        place = length order.entities;
        reached = reached;
        between = now;
        asks = subst (λ (l : List LifeAt). AsksEach noted allocates id_of s births (flat_map names l) start now) (is ∙ sym (take_all (length order.entities) order.entities (omega arith))) asked;
        stops = inl refl;
      }
