-- A world into which a document was put is one in which its scene stands.
use Rattle.std.proofs.Common.{◌≡◌, ◌≤◌, ℕ, List, length, map, None, ap, sym, ◌∙◌, subst, arith}
use Rattle.std.proofs.lemmas.List.{length-map}
use Rattle.specs_entity.specs.Births.{Births, none_born, count}
use Rattle.shred_world.specs.Worlds.{Slots}
use Rattle.scene_model.specs.Ids.{ascending}
use Rattle.scene_model.specs.Parts.{Json, Name, Part}
use Rattle.scene_model.specs.Rulebook.{Book}
use Rattle.scene_model.specs.Scenes.{RefsLive, PartsAdmitted, GlobalsReadable}
use Rattle.scene_model.proofs.CallerLemmas.{same_scene}
use Rattle.scene_document.specs.declared.draft.DocumentDraft.{DocumentDraft}
use Rattle.scene_document.specs.Drafts.{Draft}
use Rattle.scene_document.specs.DraftViews.{IsDraft}
use Rattle.scene_document.specs.Documents.{listed_ids, refusal_of}
use Rattle.scene_document.specs.Openings.{part_among, first_scene}
use Rattle.scene_document.proofs.CallerLemmas.{ids-plain, no_past, no_double, no_dangling, living-loaded, admitted-loaded, readable-loaded}
use Rattle.scene_world.specs.Standing.{Kinds, roll_of, plain_of, StandsFor}
use Rattle.scene_world.proofs.CallerLemmas.{ids-ascend}
use Rattle.scene_world.proofs.CallerLemmas.{owned-plain}
use Rattle.scene_world.specs.Rolls.{ids_in}
use Rattle.scene_commands.specs.Acts.{seen_of, MayAct}
use Rattle.scene_commands.specs.Bounds.{AreInUse, GrowsByLiving, IsBounded, unlisted_in}
use Rattle.scene_commands.proofs.BoundLemmas.{fewer-in-order, fewer-below, none-counted}
use Rattle.scene_commands.specs.Entries.{next_above, parts_put, values_put}
use Rattle.scene_commands.specs.Openings.{without_entities}
use Rattle.scene_commands.specs.Fills.{filled_with}
use Rattle.scene_commands.proofs.SceneLemmas.{ids-tie, next-tie, parts-tie, values-tie}

module _ {V D G S : Type 0} (kinds : Kinds V) (part_of : D → Part) (global_of : G → Json) (kind_of : S → Name) (config_of : S → Json) (book : Book)
    (plain : Draft) (draft : DocumentDraft D G S) (indices : ℕ) (is : IsDraft part_of global_of kind_of config_of book plain draft) (passed : refusal_of indices plain ≡ None)
    (w : Slots V) (may : MayAct kinds w) (filled : plain_of kinds (seen_of w) ≡ filled_with part_of global_of book draft (without_entities draft.next)) where
  listed : listed_ids plain ≡ map (λ entity. entity.id) draft.entities.items
  listed = ap (map (λ entity. entity.id)) is.entities ∙ ids-plain part_of book.part_names draft.entities.items

  -- what was put in is the scene of the document
  same : plain_of kinds (seen_of w) ≡ first_scene plain
  same = filled ∙ same_scene (filled_with part_of global_of book draft (without_entities draft.next)) (first_scene plain)
      (ap (λ ids. next_above ids draft.next) (sym listed) ∙ ap (next_above (listed_ids plain)) (sym is.next) ∙ next-tie (λ entity. entity.id) plain.next plain.entities (no_past indices plain passed))
      (ids-tie (map (λ entity. entity.id) draft.entities.items) ∙ ap ascending (sym listed))
      (λ id kind. ap (λ entities. parts_put entities (λ one name. None) id kind) (sym is.entities) ∙ parts-tie plain.entities (no_double indices plain passed) id kind)
      (λ name. ap (λ globals. values_put globals (λ one. None) name) (sym is.globals) ∙ values-tie plain.globals name)

  pub loaded : StandsFor kinds book (seen_of w) (first_scene plain)
  loaded = record {
    world = record {
      entities = may.entities;
      markers = may.markers;
      allocator = may.allocator;
      roll = may.roll;
      within = may.within;
      proper = record {
        ids = record { ascend = ids-ascend (roll_of kinds (seen_of w)); below = may.below };
        owned = owned-plain kinds (seen_of w);
        admitted = subst (λ scene. PartsAdmitted book scene.part) (sym same)
            (subst (λ entities. PartsAdmitted book (part_among entities)) (sym is.entities) (admitted-loaded part_of book draft.entities.items is.admitted));
        living = subst (λ scene. RefsLive scene.ids scene.part) (sym same) (living-loaded plain (no_dangling indices plain passed));
        readable = subst (λ scene. GlobalsReadable book scene.global) (sym same) (readable-loaded book plain.globals is.readable);
      };
    };
    same = same;
  }

  -- an index had at most as many births as entities were listed, where nobody was born before
  pub loaded-bounded : (opened : Slots V) (most_indices most_births : ℕ) → (roll_of kinds (seen_of opened)).births ≡ none_born most_indices most_births
      → GrowsByLiving (roll_of kinds (seen_of opened)) (roll_of kinds (seen_of w)) → IsBounded most_indices most_births (unlisted_in plain) (roll_of kinds (seen_of w))
  loaded-bounded opened most_indices most_births none grows = record {
    indices = grows.indices ∙ ap (λ (b : Births). b.indices) none;
    generations = grows.generations ∙ ap (λ (b : Births). b.generations) none;
    in_use = grows.in_use (subst AreInUse (sym none) (λ index below dead. absurd (omega (arith, below))));
    counts = λ index.
        let before : count (roll_of kinds (seen_of opened)).births index ≡ 0 = ap (λ b. count b index) none ∙ none-counted most_indices most_births index in
        let after = grows.counts index in
        omega (arith, before, after, few, lower, next);
  }
    where
      ids : List ℕ
      ids = ids_in (roll_of kinds (seen_of w))

      few : length ids ≤ length plain.entities
      few =
          let in_order : ids ≡ ascending (listed_ids plain) = ap (λ scene. scene.ids) same in
          let long : length ids ≡ length (ascending (listed_ids plain)) = ap length in_order in
          let fewer = fewer-in-order (listed_ids plain) in
          let many : length (listed_ids plain) ≡ length plain.entities = length-map plain.entities (λ entity. entity.id) in
          omega (arith, long, fewer, many)

      next : (roll_of kinds (seen_of w)).noting.next ≡ plain.next
      next = ap (λ scene. scene.next) same

      lower : length ids ≤ (roll_of kinds (seen_of w)).noting.next
      lower = fewer-below (roll_of kinds (seen_of w)).noting.next ids (ids-ascend (roll_of kinds (seen_of w))) may.below
