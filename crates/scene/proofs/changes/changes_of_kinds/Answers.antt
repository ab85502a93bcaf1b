use Rattle.std.proofs.Common.{◌≡◌, ◌<◌, ◌||◌, inl, true, length, get_or, sym, subst, arith}
use Rattle.std.proofs.lemmas.List.{get_or_default}
use Rattle.hibitset_sets.specs.BitSet.{has_member}
use Rattle.scene_model.specs.Declaring.{texts}
use Rattle.scene_model.specs.Parts.{is_among, name_at}
use Rattle.scene_world.specs.Places.{kinds_of}
use Rattle.scene_commands.specs.Acts.{seen_of}
use Rattle.scene_commands.proofs.DropLemmas.{no_name, named-there}
use Rattle.scene_commands.specs.Watching.{watcher_at}
use Rattle.scene.specs.Keeping.{part_told}
use Rattle.scene.specs.Changes.{IsChange, AreChanges, AreTouched, OnlyTouched}
use Rattle.scene_commands.proofs.CatchLemmas.{name-there}
use Rattle.scene.proofs.LoopLemmas.{no-changes, changes-more, touched-more, only-more}
use Rattle.scene.proofs.changes.changes_of_kinds.Goals as goal

pub loop-place-init : goal.loop-place-init
loop-place-init g c = record {
  changes = no-changes (kinds_of g.R.Value.SceneValue.places g.R.DocumentRules.part_of g.R.WorldRules.columns) g.R.DocumentRules.part_of (seen_of c.args.world.now) (texts c.args.names.now) c.args.watchers.now c.new-changes.result.items c.new-changes.ensures.items;
  within = c.requires.within;
  kept = λ index member. member;
  told = λ place below. absurd (omega (arith, below));
  only = λ index member. inl member;
}

pub bounds-watchers-place : goal.bounds-watchers-place
bounds-watchers-place g c = let below = c.loop-place-test.true in let ends = c.loop-place.auto.place-end in omega (arith, below, ends, c.requires.many)

pub change_of_kind-requires-clause-known : goal.change_of_kind-requires-clause-known
change_of_kind-requires-clause-known g c =
    let below : c.loop-place.place < length c.args.names.now = let test = c.loop-place-test.true in let ends = c.loop-place.auto.place-end in omega (arith, test, ends) in
    subst (λ names. is_among (get_or c.args.names.now c.loop-place.place no_name).now names ≡ true) c.requires.known (named-there c.args.names.now c.loop-place.place no_name below)

pub loop-place-preserved : goal.loop-place-preserved
loop-place-preserved g c =
    let so_far = c.loop-place.invariant in
    let w = seen_of c.args.world.now in
    let names = texts c.args.names.now in
    let watchers = c.args.watchers.now in
    let place = c.loop-place.place in
    let below : place < length c.args.names.now = let test = c.loop-place-test.true in let ends = c.loop-place.auto.place-end in omega (arith, test, ends) in
    let name : name_at names place ≡ (get_or c.args.names.now place no_name).now = name-there c.args.names.now place no_name below in
    let made = c.in_ok-change.ensures in
    let found = get_or watchers place c.index-watchers-place.result in
    let same : found ≡ watcher_at watchers place = get_or_default watchers place c.index-watchers-place.result _ (omega (arith, below, c.requires.many)) in
    record {
      changes = changes-more (kinds_of g.R.Value.SceneValue.places g.R.DocumentRules.part_of g.R.WorldRules.columns) g.R.DocumentRules.part_of w names watchers place c.loop-place.changes.items c.push.new.self.items c.in_ok-change.change so_far.changes
          (subst (λ one. IsChange (kinds_of g.R.Value.SceneValue.places g.R.DocumentRules.part_of g.R.WorldRules.columns) g.R.DocumentRules.part_of w (name_at names place) (part_told (kinds_of g.R.Value.SceneValue.places g.R.DocumentRules.part_of g.R.WorldRules.columns) w (name_at names place) one.frame) c.in_ok-change.change) same
          (subst (λ kind. IsChange (kinds_of g.R.Value.SceneValue.places g.R.DocumentRules.part_of g.R.WorldRules.columns) g.R.DocumentRules.part_of w kind (part_told (kinds_of g.R.Value.SceneValue.places g.R.DocumentRules.part_of g.R.WorldRules.columns) w kind found.frame) c.in_ok-change.change) (sym name) made.change))
          c.in_ok-push.ensures.items;
      within = made.within;
      kept = λ index member. made.kept index (so_far.kept index member);
      told = touched-more (kinds_of g.R.Value.SceneValue.places g.R.DocumentRules.part_of g.R.WorldRules.columns) w names watchers place (has_member c.loop-place.touched) (has_member c.change_of_kind.new.touched) so_far.told made.kept
          (λ index one. made.told index
          (subst (λ kind. part_told (kinds_of g.R.Value.SceneValue.places g.R.DocumentRules.part_of g.R.WorldRules.columns) w kind found.frame index ≡ true) name (subst (λ watcher. part_told (kinds_of g.R.Value.SceneValue.places g.R.DocumentRules.part_of g.R.WorldRules.columns) w (name_at names place) watcher.frame index ≡ true) (sym same) one)));
      only = only-more (kinds_of g.R.Value.SceneValue.places g.R.DocumentRules.part_of g.R.WorldRules.columns) w names watchers place (has_member c.args.touched.now) (has_member c.loop-place.touched) (has_member c.change_of_kind.new.touched) so_far.only
          (λ index member.
          subst (λ watcher. (has_member c.loop-place.touched index || part_told (kinds_of g.R.Value.SceneValue.places g.R.DocumentRules.part_of g.R.WorldRules.columns) w (name_at names place) watcher.frame index) ≡ true) same
          (subst (λ kind. (has_member c.loop-place.touched index || part_told (kinds_of g.R.Value.SceneValue.places g.R.DocumentRules.part_of g.R.WorldRules.columns) w kind found.frame index) ≡ true) (sym name) (made.only index member)));
    }

pub returns : goal.returns
returns g c =
    let all : c.loop-place.place ≡ length c.args.names.now = let test = c.loop-place-test.false in let ends = c.loop-place.auto.place-end in omega (arith, test, ends) in
    let so_far = c.loop-place.invariant in
    record {
      changes = subst (λ count. AreChanges (kinds_of g.R.Value.SceneValue.places g.R.DocumentRules.part_of g.R.WorldRules.columns) g.R.DocumentRules.part_of (seen_of c.args.world.now) (texts c.args.names.now) c.args.watchers.now count c.loop-place.changes.items) all so_far.changes;
      within = so_far.within;
      kept = so_far.kept;
      told = subst (λ count. AreTouched (kinds_of g.R.Value.SceneValue.places g.R.DocumentRules.part_of g.R.WorldRules.columns) (seen_of c.args.world.now) (texts c.args.names.now) c.args.watchers.now count (has_member c.loop-place.touched)) all so_far.told;
      only = subst (λ count. OnlyTouched (kinds_of g.R.Value.SceneValue.places g.R.DocumentRules.part_of g.R.WorldRules.columns) (seen_of c.args.world.now) (texts c.args.names.now) c.args.watchers.now count (has_member c.args.touched.now) (has_member c.loop-place.touched)) all so_far.only;
    }
