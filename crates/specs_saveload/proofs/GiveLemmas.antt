-- Storages that are given parts, one entry after the other.
use Rattle.std.proofs.Common.{◌≡◌, ◌+◌, ℕ, List, [], ◌∷◌, ◌++◌, length, take, drop, slice_get, Option, Some, Result, Ok, Err, OnOk, inl, inr, refl, sym, ap, subst, ◌∙◌, append-nil, arith}
use Rattle.std.proofs.lemmas.List.{take-append-drop, take-append-le}
use Rattle.std.proofs.lemmas.Option.{slice_get_within}
use Rattle.specs_entity.specs.Life.{LifeAt}
use Rattle.specs_saveload.specs.declared.entity_data.EntityData.{EntityData}
use Rattle.specs_saveload.specs.Finding.{GivesThenRefuses}
use Rattle.specs_join.specs.Joins.{both}
use Rattle.specs_saveload.specs.LoadingLemmas.{both-are}
use Rattle.specs_saveload.specs.Loading.{AreGivenParts, GivesAll, GivesEach, GivesEntry, GivesUntil}
use Rattle.specs_saveload.proofs.LoadLemmas.{at-seam, front-get, taken, taken-next}

-- parts that were given are given where no less is known
pub given-kept : {P C : Type 0} (one two : Option P) (gives : P → C → C → Type 0) (before after : C) → ((parts : P) → one ≡ Some parts → two ≡ Some parts) → AreGivenParts one gives before after → AreGivenParts two gives before after
given-kept one two gives before after kept parts = record { value = parts.value; loaded = kept parts.value parts.loaded; given = parts.given }

-- parts of two kinds were given
pub pair-given : {P Q C B : Type 0} (one : Option P) (other : Option Q) (gives : P → C → C → Type 0) (gives_too : Q → B → B → Type 0) (before after : C) (had has : B) → AreGivenParts one gives before after → AreGivenParts other gives_too had has
    → AreGivenParts (both one other) (λ (two : P × Q) (was : C × B) (is : C × B). gives two.0 was.0 is.0 × gives_too two.1 was.1 is.1) (before, had) (after, has)
pair-given one other gives gives_too before after had has first second = record {
  value = (first.value, second.value);
  loaded = both-are one other first.value second.value first.loaded second.loaded;
  given = (first.given, second.given);
}

-- what follows of two things that hold where nothing is refused
pub on_ok_both : {T E P Q R : Type 0} (result : Result T E) → (P → Q → R) → OnOk result P → OnOk result Q → OnOk result R
on_ok_both (Ok value) by first second = by first second
on_ok_both (Err error) by first second = tt

module _ {M D P C : Type 0} (load : (M → Option LifeAt) → D → Option P) (gives : ℕ → P → C → C → Type 0) where
  module _ (kept : (one other : M → Option LifeAt) (saved : D) (parts : P) → ((marker : M) (entity : LifeAt) → one marker ≡ Some entity → other marker ≡ Some entity) → load one saved ≡ Some parts → load other saved ≡ Some parts)
      (one two : M → Option LifeAt) (more : (marker : M) (entity : LifeAt) → one marker ≡ Some entity → two marker ≡ Some entity) where
    entry-kept : (entry : EntityData M D) (before after : C) → GivesEntry load gives one entry before after → GivesEntry load gives two entry before after
    entry-kept entry before after given = record {
      entity = given.entity;
      bears = more entry.marker given.entity given.bears;
      parts = given-kept (load one entry.components) (load two entry.components) (gives given.entity.id) before after (λ parts. kept one two entry.components parts more) given.parts;
    }

    all-kept : (list : List (EntityData M D)) (before after : C) → GivesAll load gives one list before after → GivesAll load gives two list before after
    all-kept [] before after same = same
    all-kept (entry ∷ rest) before after (between, given, later) = (between, entry-kept entry before between given, all-kept rest between after later)

    all-then : (list : List (EntityData M D)) (entry : EntityData M D) (before between after : C) → GivesAll load gives one list before between → GivesEntry load gives two entry between after → GivesAll load gives two (list ++ entry ∷ []) before after
    all-then [] entry before between after same given = (after, subst (λ state. GivesEntry load gives two entry state after) same given, refl)
    all-then (first ∷ rest) entry before between after (next, here, later) given = (next, entry-kept first before next here, all-then rest entry next between after later given)

    -- one entry more of a list
    pub give-next : (list done left rest : List (EntityData M D)) (next : EntityData M D) (place : ℕ) (before between after : C) → list ≡ done ++ left → left ≡ next ∷ rest → length done ≡ place
        → GivesEach load gives one (take place list) before between → GivesEntry load gives two next between after → GivesEach load gives two (take (place + 1) list) before after
    give-next list done left rest next place before between after whole is count each given = record {
      steps = subst (λ l. GivesAll load gives two l before after)
          (sym (ap (take (place + 1)) (whole ∙ ap (λ (l : List (EntityData M D)). done ++ l) is) ∙ taken-next done rest next place count))
          (all-then done next before between after (subst (λ l. GivesAll load gives one l before between) (ap (take place) whole ∙ taken done left place count) each.steps) given);
    }

    -- the parts of the next are refused
    pub give-stops : (stops : (M → Option LifeAt) → D → ℕ → C → C → Type 0) (list done left rest : List (EntityData M D)) (next : EntityData M D) (place : ℕ) (entity : LifeAt) (before between after : C) → list ≡ done ++ left → left ≡ next ∷ rest → length done ≡ place
        → GivesEach load gives one (take place list) before between → (two next.marker ≡ Some entity) × stops two next.components entity.id between after → GivesThenRefuses load gives two stops list place before after
    give-stops stops list done left rest next place entity before between after whole is count each refused = record {
      between = between;
      each = record { steps = all-kept (take place list) before between each.steps };
      refused = record {
        entry = next;
        here = ap (λ (l : List (EntityData M D)). slice_get l place) (whole ∙ ap (λ (l : List (EntityData M D)). done ++ l) is) ∙ at-seam done rest next place count;
        entity = entity;
        bears = refused.0;
        stopped = refused.1;
      };
    }

  -- all of a list
  pub give-all : (bearers : M → Option LifeAt) (list done left : List (EntityData M D)) (place : ℕ) (before after : C) → list ≡ done ++ left → left ≡ [] → length done ≡ place → GivesEach load gives bearers (take place list) before after → GivesEach load gives bearers list before after
  give-all bearers list done left place before after whole none count each =
      subst (λ l. GivesEach load gives bearers l before after)
      (ap (take place) whole ∙ (taken done left place count ∙ sym (whole ∙ (ap (λ (l : List (EntityData M D)). done ++ l) none ∙ append-nil done)))) each

  module _ (bearers : M → Option LifeAt) (stops : (M → Option LifeAt) → D → ℕ → C → C → Type 0) (list : List (EntityData M D)) (before after : C) where
    -- refused at an entry's own parts
    pub give-until : (place : ℕ) → GivesThenRefuses load gives bearers stops list place before after → GivesUntil load gives bearers stops list place before after
    give-until place then = record { between = then.between; each = then.each; last = inr then.refused }

    -- all of those before a place, and that was all
    pub give-before : (front : List (EntityData M D)) (place : ℕ) → front ≡ take place list → GivesEach load gives bearers front before after → GivesUntil load gives bearers stops list place before after
    give-before front place cut each = record { between = after; each = subst (λ l. GivesEach load gives bearers l before after) cut each; last = inl refl }

    -- what is refused among the first entries of a list is refused in it
    pub give-in-front : (front : List (EntityData M D)) (far place : ℕ) → front ≡ take far list → GivesThenRefuses load gives bearers stops front place before after → GivesUntil load gives bearers stops list place before after
    give-in-front front far place cut then =
        let whole : list ≡ front ++ drop far list = sym (take-append-drop far list) ∙ ap (λ (l : List (EntityData M D)). l ++ drop far list) (sym cut) in
        let inside = slice_get_within front place then.refused.entry then.refused.here in
        record {
          between = then.between;
          each = subst (λ l. GivesEach load gives bearers l before then.between) (sym (ap (take place) whole ∙ take-append-le place front (drop far list) (omega (arith, inside)))) then.each;
          last = inr (record {
            entry = then.refused.entry;
            here = ap (λ (l : List (EntityData M D)). slice_get l place) whole ∙ front-get front (drop far list) place then.refused.entry then.refused.here;
            entity = then.refused.entity;
            bears = then.refused.bears;
            stopped = then.refused.stopped;
          });
        }
