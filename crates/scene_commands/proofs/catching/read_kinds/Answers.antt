use Rattle.std.proofs.Common.{◌≡◌, ◌<◌, true, length, get_or, refl, sym, ◌∙◌, subst, arith}
use Rattle.std.proofs.lemmas.List.{get_or_default, length-map}
use denote.Ref.{Bor}
use Rattle.scene_model.specs.Declaring.{texts}
use Rattle.scene_model.specs.Parts.{Name, is_among, name_at}
use Rattle.scene_world.specs.Places.{kinds_of}
use Rattle.scene_commands.specs.Acts.{seen_of}
use Rattle.scene_commands.specs.Watching.{KindsCatchUp, ReadsKind, reader_at, watcher_at}
use Rattle.scene_commands.proofs.WatchLemmas.{stays-none}
use Rattle.scene_commands.proofs.DropLemmas.{no_name}
use Rattle.scene_commands.proofs.CatchLemmas.{catching-more, name-known, name-there}
use Rattle.scene_commands.proofs.catching.read_kinds.Goals as goal

pub loop-place-init : goal.loop-place-init
loop-place-init g c =
    let kinds = kinds_of g.R.Value.SceneValue.places g.R.DocumentRules.part_of g.R.WorldRules.columns in
    record {
      caught = λ place below. absurd (omega (arith, below));
      left = λ at from below. refl;
      telling = λ tells. tells;
      markers = refl;
      stays = stays-none kinds (seen_of c.args.world.now);
    }

pub bounds-watchers-place : goal.bounds-watchers-place
bounds-watchers-place g c = let below = c.loop-place-test.true in let ends = c.loop-place.auto.place-end in omega (arith, below, ends, c.requires.many)

pub loop-place-preserved : goal.loop-place-preserved
loop-place-preserved g c =
    let kinds = kinds_of g.R.Value.SceneValue.places g.R.DocumentRules.part_of g.R.WorldRules.columns in
    let names = texts c.args.names.now in
    let watchers = c.args.watchers.now in
    let place = c.loop-place.place in
    let between = seen_of c.loop-place.world in
    let later = seen_of c.read_kind.new.world in
    let below : place < length c.args.names.now = let test = c.loop-place-test.true in let ends = c.loop-place.auto.place-end in omega (arith, test, ends) in
    let within : place < length names = omega (arith, below, length-map c.args.names.now (λ (name : Bor Name). name.now)) in
    let kind : name_at names place ≡ (get_or c.args.names.now place no_name).now = name-there c.args.names.now place no_name below in
    let found = c.index-watchers-place.result in
    let same : found ≡ watcher_at watchers place = c.index-watchers-place.is ∙ get_or_default watchers place found _ (omega (arith, below, c.requires.many)) in
    let reads : ReadsKind kinds (name_at names place) (reader_at c.args.turn (watcher_at watchers place)) between later =
    subst (λ one. ReadsKind kinds (name_at names place) (reader_at c.args.turn one) between later) same
    (subst (λ name. ReadsKind kinds name (reader_at c.args.turn found) between later) (sym kind)
    (subst (λ one. ReadsKind kinds (get_or c.args.names.now place no_name).now one between later) c.reader.ensures c.read_kind.ensures)) in
    catching-more kinds g.met.R.WorldRules.apart c.args.turn names watchers c.requires.ascend
    (subst (λ list. (at : _) → at < length names → is_among (name_at names at) list ≡ true) c.requires.known (name-known names))
    place within (seen_of c.args.world.now) between later c.loop-place.invariant reads

pub returns : goal.returns
returns g c =
    let all : c.loop-place.place ≡ length (texts c.args.names.now) = let test = c.loop-place-test.false in let ends = c.loop-place.auto.place-end in omega (arith, test, ends, length-map c.args.names.now (λ (name : Bor Name). name.now)) in
    let so_far = c.loop-place.invariant in
    record {
      caught = subst (λ count. KindsCatchUp (kinds_of g.R.Value.SceneValue.places g.R.DocumentRules.part_of g.R.WorldRules.columns) c.args.turn (texts c.args.names.now) c.args.watchers.now count (seen_of c.args.world.now) (seen_of c.loop-place.world)) all so_far.caught;
      telling = so_far.telling;
      markers = so_far.markers;
      stays = so_far.stays;
    }
