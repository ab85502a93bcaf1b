use Rattle.std.proofs.Common.{◌≡◌, ◌<◌, ℕ, List, length, All, ap, sym, subst, ◌∙◌, arith}
use Rattle.std.proofs.lemmas.List.{length-map}
use denote.Ref.{Bor}
use Rattle.scene_model.specs.Parts.{Name}
use Rattle.scene_model.specs.Declaring.{texts}
use Rattle.scene_world.specs.Places.{kinds_of}
use Rattle.scene_world.specs.Rolls.{id_at}
use Rattle.scene_world.specs.Standing.{roll_of}
use Rattle.scene_commands.specs.Acts.{seen_of}
use Rattle.scene.specs.Rows.{seat_at}
use Rattle.scene.specs.Taken.{AreRowsOf, turned, with_last}
use Rattle.scene.proofs.KeepLemmas.{keeps-scene, seats-kept, same-rows, below-pairs}
use Rattle.scene.proofs.keeping.keep_scene.Goals.{After-drop-pairs-2}
use Rattle.scene.proofs.keeping.keep_scene.Goals as goal

pub write_rows-requires-clause-within : goal.write_rows-requires-clause-within
write_rows-requires-clause-within g c =
    subst (All (λ (pair : ℕ × ℕ). pair.1 < c.room_for-count.result)) (c.deref.ensures.value ∙ sym c.deref-2.ensures.value) c.room_for-count.ensures

-- the seats are those who live, and the rows their parts
seats : (g : _) (c : After-drop-pairs-2 g) (index : ℕ) → seat_at c.enter_all.new.kept index ≡ id_at (roll_of (kinds_of g.R.Value.SceneValue.places g.R.DocumentRules.part_of g.R.WorldRules.columns) (seen_of c.args.world.now)) index
seats g c index =
    c.enter_all.ensures.seats index ∙ ap (λ (pairs : List (ℕ × ℕ)). with_last (turned pairs) (seat_at c.write_rows.new.kept) index) c.deref-3.ensures.value
    ∙ seats-kept (roll_of (kinds_of g.R.Value.SceneValue.places g.R.DocumentRules.part_of g.R.WorldRules.columns) (seen_of c.args.world.now)) c.in_ok-pairs.pairs.items (seat_at c.write_rows.new.kept) c.in_ok-pairs.ensures c.in_ok-write_rows.ensures.seats index

rows : (g : _) (c : After-drop-pairs-2 g) → let names : List Name = texts c.part_names-names.result.now in AreRowsOf (kinds_of g.R.Value.SceneValue.places g.R.DocumentRules.part_of g.R.WorldRules.columns) g.R.DocumentRules.part_of (seen_of c.args.world.now) names (length names) c.enter_all.new.kept
rows g c =
    let names : List Name = texts c.part_names-names.result.now in
    let counted : length c.part_names-names.result.now ≡ length names = sym (length-map c.part_names-names.result.now (λ (name : Bor Name). name.now)) in
    subst (λ count. AreRowsOf (kinds_of g.R.Value.SceneValue.places g.R.DocumentRules.part_of g.R.WorldRules.columns) g.R.DocumentRules.part_of (seen_of c.args.world.now) names count c.enter_all.new.kept) counted
    (same-rows (kinds_of g.R.Value.SceneValue.places g.R.DocumentRules.part_of g.R.WorldRules.columns) g.R.DocumentRules.part_of (seen_of c.args.world.now) names (length c.part_names-names.result.now) c.write_rows.new.kept c.enter_all.new.kept c.enter_all.ensures.rows c.in_ok-write_rows.ensures.rows)

pub returns-clause-scene : goal.returns-clause-scene
returns-clause-scene g c =
    let book = g.R.DocumentRules.book c.args.rules.now in
    let w = seen_of c.args.world.now in
    let named = g.met.R.WorldRules.named_so c.args.rules.now in
    let wrote = c.in_ok-write_rows.ensures in
    keeps-scene (kinds_of g.R.Value.SceneValue.places g.R.DocumentRules.part_of g.R.WorldRules.columns) g.R.DocumentRules.part_of g.R.DocumentRules.global_of book w named.parts named.globals c.requires.stands.roll c.enter_all.new.kept (seats g c)
    (subst (λ (listed : List Name). AreRowsOf (kinds_of g.R.Value.SceneValue.places g.R.DocumentRules.part_of g.R.WorldRules.columns) g.R.DocumentRules.part_of w listed (length listed) c.enter_all.new.kept) c.part_names-names.ensures (rows g c))
    (c.enter_all.ensures.course.next ∙ wrote.course.next ∙ c.in_ok-make_room.ensures.course.next ∙ c.in_ok-kept.ensures.next ∙ c.in_ok-next.ensures)
    c.in_ok-globals.globals _ (c.enter_all.ensures.course.globals ∙ wrote.course.globals ∙ c.in_ok-make_room.ensures.course.globals ∙ c.in_ok-kept.ensures.globals) c.global_names.ensures c.in_ok-globals.ensures

pub returns-clause-full : goal.returns-clause-full
returns-clause-full g c =
    let named = g.met.R.WorldRules.named_so c.args.rules.now in
    let wrote = c.in_ok-write_rows.ensures in
    let names : List Name = texts c.part_names-names.result.now in
    let same : names ≡ (kinds_of g.R.Value.SceneValue.places g.R.DocumentRules.part_of g.R.WorldRules.columns).part_names = c.part_names-names.ensures ∙ sym named.parts in
    let counted : length c.part_names-names.result.now ≡ length names = sym (length-map c.part_names-names.result.now (λ (name : Bor Name). name.now)) in
    record {
      kinds_are = c.enter_all.ensures.course.kinds ∙ wrote.course.kinds ∙ c.in_ok-make_room.ensures.course.kinds ∙ c.in_ok-kept.ensures.kinds ∙ counted ∙ ap length same;
      seats = seats g c;
      rows = subst (λ (listed : List Name). AreRowsOf (kinds_of g.R.Value.SceneValue.places g.R.DocumentRules.part_of g.R.WorldRules.columns) g.R.DocumentRules.part_of (seen_of c.args.world.now) listed (length listed) c.enter_all.new.kept) same (rows g c);
    }

pub returns-clause-few : goal.returns-clause-few
returns-clause-few g c =
    let few = c.in_ok-pairs.ensures.few in
    let pairs : length c.deref-3.result.now ≡ length c.in_ok-pairs.pairs.items = ap (λ (list : List (ℕ × ℕ)). length list) c.deref-3.ensures.value in
    let none : c.write_rows.new.kept.changes ≡ 0 = c.in_ok-write_rows.ensures.changes ∙ c.in_ok-make_room.ensures.changes ∙ c.in_ok-kept.ensures.changes in
    let made = c.enter_all.ensures.changes (omega (arith, few, pairs, none)) in
    omega (arith, few, pairs, none, made)

pub returns-clause-below : goal.returns-clause-below
returns-clause-below g c = below-pairs (roll_of (kinds_of g.R.Value.SceneValue.places g.R.DocumentRules.part_of g.R.WorldRules.columns) (seen_of c.args.world.now)) c.in_ok-pairs.pairs.items c.in_ok-pairs.ensures
