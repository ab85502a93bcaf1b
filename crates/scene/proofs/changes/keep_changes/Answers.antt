use Rattle.std.proofs.Common.{◌≡◌, ◌<◌, ℕ, Bool, true, cond, List, length, map, All, Option, None, is_some, ap, sym, subst, ◌∙◌, arith}
use Rattle.std.specs.Prelude.{slice_get}
use Rattle.std.specs.List.{AllPairs, count_by}
use Rattle.std.proofs.Math.Path.{fun_ext}
use Rattle.std.proofs.lemmas.List.{length-map}
use denote.Ref.{Bor}
use Rattle.hibitset_sets.specs.BitSet.{has_member}
use Rattle.hibitset_sets.specs.Walk.{walk}
use Rattle.scene_model.specs.Parts.{Name, is_among, name_at}
use Rattle.scene_model.specs.Declaring.{texts}
use Rattle.scene_world.specs.Markers.{marker_at, marker_log}
use Rattle.scene_world.specs.Places.{kinds_of}
use Rattle.scene_world.specs.Rolls.{id_at}
use Rattle.scene_world.specs.Standing.{roll_of}
use Rattle.scene_world.specs.Telling.{is_told}
use Rattle.scene_commands.specs.Acts.{seen_of}
use Rattle.scene_commands.proofs.DropLemmas.{no_name, named-there}
use Rattle.scene.specs.Rows.{seat_at, datum_at}
use Rattle.scene_commands.specs.declared.watching.ReaderTurn.TheVariants.{Frame}
use Rattle.scene.specs.Keeping.{IsBelow, IsFullByIndex, is_touched, CountsMore, changes_at}
use Rattle.scene.specs.Changes.{AreChanges, AreTouched, OnlyTouched, row_after}
use Rattle.scene.specs.Taken.{IsRowOf, AreRowsOf, is_one_of, behind_themselves, turned, marks_at, with_last}
use Rattle.scene_commands.proofs.CatchLemmas.{name-known}
use Rattle.scene.proofs.KeepLemmas.{keeps-scene}
use Rattle.scene.proofs.EntryLemmas.{settled-seats, settled-rows, settled-kinds}
use Rattle.scene.proofs.StepLemmas.{id-marked, told-below}
use Rattle.scene.proofs.ChangeLemmas.{among-all, all-seconds, walked-is, changes-sound, changes-free, marks-among, seats-again, rows-again}
use Rattle.scene.proofs.CountingLemmas.{behind-ascend, touched-is, counted-changes}
use Rattle.scene.proofs.changes.keep_changes.Goals.{After-drop-touched-inside-4}
use Rattle.scene.proofs.changes.keep_changes.Goals as goal

-- what is touched at first is what the markers' reader tells
pub changes_of_kinds-requires-clause-known : goal.changes_of_kinds-requires-clause-known
changes_of_kinds-requires-clause-known g c = c.part_names-names.ensures ∙ sym (g.met.R.WorldRules.named_so c.args.rules.now).parts

pub changes_of_kinds-requires-clause-many : goal.changes_of_kinds-requires-clause-many
changes_of_kinds-requires-clause-many g c =
    ap (λ watchers. length watchers) c.as_slice.ensures.value ∙ c.requires.many ∙ ap length (sym (c.part_names-names.ensures ∙ sym (g.met.R.WorldRules.named_so c.args.rules.now).parts)) ∙ length-map c.part_names-names.result.now (λ (name : Bor Name). name.now)

pub changes_of_kinds-requires-clause-within : goal.changes_of_kinds-requires-clause-within
changes_of_kinds-requires-clause-within g c index member = told-below (marker_log c.in_ok-markers.markers.now) c.args.watchers.now.markers.frame index (sym (c.in_ok-touched.ensures index) ∙ member)

pub change_rows-requires : goal.change_rows-requires
change_rows-requires g c =
    let w = seen_of c.args.world.now in
    let names = texts c.part_names-names.result.now in
    let same : names ≡ (kinds_of g.R.Value.SceneValue.places g.R.DocumentRules.part_of g.R.WorldRules.columns).part_names = c.part_names-names.ensures ∙ sym (g.met.R.WorldRules.named_so c.args.rules.now).parts in
    let many : length c.part_names-names.result.now ≡ length names = sym (length-map c.part_names-names.result.now (λ (name : Bor Name). name.now)) in
    let touched = has_member c.changes_of_kinds.new.touched in
    let made = c.in_ok-changes.ensures in
    let watchers = c.as_slice.result.now in
    let changes : AreChanges (kinds_of g.R.Value.SceneValue.places g.R.DocumentRules.part_of g.R.WorldRules.columns) g.R.DocumentRules.part_of w names watchers (length names) c.in_ok-changes.changes.items =
    subst (λ count. AreChanges (kinds_of g.R.Value.SceneValue.places g.R.DocumentRules.part_of g.R.WorldRules.columns) g.R.DocumentRules.part_of w names watchers count c.in_ok-changes.changes.items) many made.changes in
    let told : AreTouched (kinds_of g.R.Value.SceneValue.places g.R.DocumentRules.part_of g.R.WorldRules.columns) w names watchers (length names) touched = subst (λ count. AreTouched (kinds_of g.R.Value.SceneValue.places g.R.DocumentRules.part_of g.R.WorldRules.columns) w names watchers count touched) many made.told in
    let indices : c.in_ok-indices.indices.items ≡ behind_themselves (walk touched) = c.in_ok-indices.ensures in
    let among : (index : ℕ) → is_one_of (map (λ (pair : ℕ × ℕ). pair.1) c.in_ok-indices.indices.items) index ≡ touched index =
    λ index. ap (λ pairs. is_one_of (map (λ (pair : ℕ × ℕ). pair.1) pairs) index) indices ∙ walked-is touched made.within index in
    let bound = subst (All (λ (pair : ℕ × ℕ). pair.1 < c.room_for-count.result)) c.as_slice-3.ensures.value c.room_for-count.ensures in
    let full = c.requires.since.1.1.1.0 in
    record {
      kinds = changes.many ∙ ap length same ∙ sym full.kinds_are ∙ sym (c.leave_all.ensures.course.kinds ∙ c.in_ok-make_room.ensures.course.kinds);
      room = c.leave_all.ensures.room c.room_for-count.result c.in_ok-make_room.ensures.ok;
      sound = changes-sound (kinds_of g.R.Value.SceneValue.places g.R.DocumentRules.part_of g.R.WorldRules.columns) g.R.DocumentRules.part_of w names watchers c.room_for-count.result c.in_ok-changes.changes.items changes touched told
          (λ index one. among-all (λ at. at < c.room_for-count.result) (map (λ (pair : ℕ × ℕ). pair.1) c.in_ok-indices.indices.items)
          (all-seconds (λ at. at < c.room_for-count.result) c.in_ok-indices.indices.items bound) index (among index ∙ one));
      free = changes-free (kinds_of g.R.Value.SceneValue.places g.R.DocumentRules.part_of g.R.WorldRules.columns) g.R.DocumentRules.part_of w names watchers c.room_for-count.result c.in_ok-changes.changes.items changes touched told c.leave_all.new.kept
          (λ index one. c.leave_all.ensures.seats index
          ∙ ap (λ pairs. cond (is_one_of (map (λ (pair : ℕ × ℕ). pair.1) pairs) index) None (seat_at c.make_room.new.self index)) c.as_slice-4.ensures.value
          ∙ ap (λ b. cond b None (seat_at c.make_room.new.self index)) (among index ∙ one));
    }

pub enter_all-requires : goal.enter_all-requires
enter_all-requires g c =
    let bound = subst (All (λ (pair : ℕ × ℕ). pair.1 < c.room_for-count.result)) (c.as_slice-3.ensures.value ∙ sym c.as_slice-2.ensures.value) c.room_for-count.ensures in
    record {
      within = subst (All (λ (pair : ℕ × ℕ). pair.1 < c.room_for-count.result)) (sym (c.as_slice-5.ensures.value ∙ c.in_ok-entries.ensures.entries))
          (marks-among (marker_at c.in_ok-markers.markers.now) (λ at. at < c.room_for-count.result) c.as_slice-2.result.now bound);
      room = c.change_rows.ensures.room;
    }

-- nobody lives past what a set can have
beneath : (g : _) (c : After-drop-touched-inside-4 g) → IsBelow (kinds_of g.R.Value.SceneValue.places g.R.DocumentRules.part_of g.R.WorldRules.columns) (seen_of c.args.world.now)
beneath g c index some = c.in_ok-entries.ensures.below index (sym (ap is_some (c.in_ok-markers.ensures.each index)) ∙ sym (ap is_some (id-marked (roll_of (kinds_of g.R.Value.SceneValue.places g.R.DocumentRules.part_of g.R.WorldRules.columns) (seen_of c.args.world.now)) c.requires.stands.roll index)) ∙ some)

-- what is kept is full again
full : (g : _) (c : After-drop-touched-inside-4 g) → IsFullByIndex (kinds_of g.R.Value.SceneValue.places g.R.DocumentRules.part_of g.R.WorldRules.columns) g.R.DocumentRules.part_of (kinds_of g.R.Value.SceneValue.places g.R.DocumentRules.part_of g.R.WorldRules.columns).part_names c.settle.new.self (seen_of c.args.world.now)
full g c =
    let kinds = kinds_of g.R.Value.SceneValue.places g.R.DocumentRules.part_of g.R.WorldRules.columns in
    let part_of = g.R.DocumentRules.part_of in
    let book = g.R.DocumentRules.book c.args.rules.now in
    let w = c.requires.since.0 in
    let later = seen_of c.args.world.now in
    let names = texts c.part_names-names.result.now in
    let same : names ≡ kinds.part_names = c.part_names-names.ensures ∙ sym (g.met.R.WorldRules.named_so c.args.rules.now).parts in
    let many : length c.part_names-names.result.now ≡ length names = sym (length-map c.part_names-names.result.now (λ (name : Bor Name). name.now)) in
    let was = c.requires.since.1.1.1.0 in
    let told = c.requires.since.1.1.1.1 in
    let touched = has_member c.changes_of_kinds.new.touched in
    let made = c.in_ok-changes.ensures in
    let indices : c.in_ok-indices.indices.items ≡ behind_themselves (walk touched) = c.in_ok-indices.ensures in
    let before = c.args.kept.now in
    let after = c.settle.new.self in
    let settled = c.settle.ensures.settled in
    let markers : marker_at c.in_ok-markers.markers.now ≡ (roll_of kinds later).marker = sym (fun_ext c.in_ok-markers.ensures.each) in
    let entries : c.as_slice-5.result.now ≡ marks_at (roll_of kinds later).marker (behind_themselves (walk touched)) =
    c.as_slice-5.ensures.value ∙ c.in_ok-entries.ensures.entries ∙ ap (λ (marker : ℕ → Option ℕ). marks_at marker c.as_slice-2.result.now) markers
    ∙ ap (marks_at (roll_of kinds later).marker) (c.as_slice-2.ensures.value ∙ indices) in
    let emptied : seat_at c.change_rows.new.kept ≡ (λ at. cond (is_one_of (map (λ (pair : ℕ × ℕ). pair.1) (behind_themselves (walk touched))) at) None (seat_at before at)) =
    fun_ext (λ at. c.change_rows.ensures.seats at ∙ c.leave_all.ensures.seats at
    ∙ ap (λ pairs. cond (is_one_of (map (λ (pair : ℕ × ℕ). pair.1) pairs) at) None (seat_at c.make_room.new.self at)) (c.as_slice-4.ensures.value ∙ indices)
    ∙ ap (cond (is_one_of (map (λ (pair : ℕ × ℕ). pair.1) (behind_themselves (walk touched))) at) None) (c.in_ok-make_room.ensures.seats at)) in
    let rows_were : (place : ℕ) → datum_at c.leave_all.new.kept place ≡ datum_at before place = λ place. fun_ext (λ at. c.leave_all.ensures.rows place at ∙ c.in_ok-make_room.ensures.rows place at) in
    let watchers : c.as_slice.result.now ≡ c.args.watchers.now.parts.items = c.as_slice.ensures.value in
    let changes : AreChanges kinds part_of later kinds.part_names c.args.watchers.now.parts.items (length kinds.part_names) c.in_ok-changes.changes.items =
    subst (λ listed. AreChanges kinds part_of later listed c.args.watchers.now.parts.items (length listed) c.in_ok-changes.changes.items) same
    (subst (λ some. AreChanges kinds part_of later names some (length names) c.in_ok-changes.changes.items) watchers
    (subst (λ count. AreChanges kinds part_of later names c.as_slice.result.now count c.in_ok-changes.changes.items) many made.changes)) in
    record {
      kinds_are = settled-kinds c.enter_all.new.kept after c.in_ok-next.next c.in_ok-globals.globals settled
          ∙ c.enter_all.ensures.course.kinds ∙ c.change_rows.ensures.course.kinds ∙ c.leave_all.ensures.course.kinds ∙ c.in_ok-make_room.ensures.course.kinds ∙ was.kinds_are;
      seats = seats-again kinds part_of book kinds.part_names c.args.watchers.now w later c.requires.since.1.0 c.requires.stands c.requires.since.1.1.0 (beneath g c) told (name-known kinds.part_names) before after was touched made.within
          (λ index one. made.kept index (c.in_ok-touched.ensures index ∙ ap (λ log. is_told log c.args.watchers.now.markers.frame index) (sym c.in_ok-markers.ensures.events) ∙ one))
          (λ index. settled-seats c.enter_all.new.kept after c.in_ok-next.next c.in_ok-globals.globals settled index ∙ c.enter_all.ensures.seats index
          ∙ ap (λ pairs. with_last (turned pairs) (seat_at c.change_rows.new.kept) index) entries
          ∙ ap (λ (seats : ℕ → Option ℕ). with_last (turned (marks_at (roll_of kinds later).marker (behind_themselves (walk touched)))) seats index) emptied);
      rows = rows-again kinds part_of book kinds.part_names c.args.watchers.now w later c.requires.since.1.0 c.requires.stands c.requires.since.1.1.0 (beneath g c) told (name-known kinds.part_names) before after was touched made.within
          c.in_ok-changes.changes.items changes
          (λ place index. settled-rows c.enter_all.new.kept after c.in_ok-next.next c.in_ok-globals.globals settled place index ∙ c.enter_all.ensures.rows place index ∙ c.change_rows.ensures.rows place index
          ∙ ap (λ (row : ℕ → Option _). row_after (slice_get c.in_ok-changes.changes.items place) row index) (rows_were place));
    }

pub returns-clause-full : goal.returns-clause-full
returns-clause-full g c = full g c

pub returns-clause-scene : goal.returns-clause-scene
returns-clause-scene g c =
    let book = g.R.DocumentRules.book c.args.rules.now in
    let w = seen_of c.args.world.now in
    let named = g.met.R.WorldRules.named_so c.args.rules.now in
    let now = full g c in
    let settled = c.settle.ensures.settled in
    keeps-scene (kinds_of g.R.Value.SceneValue.places g.R.DocumentRules.part_of g.R.WorldRules.columns) g.R.DocumentRules.part_of g.R.DocumentRules.global_of book w named.parts named.globals c.requires.stands.roll c.settle.new.self now.seats
    (subst (λ (listed : List Name). AreRowsOf (kinds_of g.R.Value.SceneValue.places g.R.DocumentRules.part_of g.R.WorldRules.columns) g.R.DocumentRules.part_of w listed (length listed) c.settle.new.self) named.parts now.rows)
    (settled.next_is ∙ c.in_ok-next.ensures) c.in_ok-globals.globals _ settled.globals_are c.global_names.ensures c.in_ok-globals.ensures

-- what the set of those that are touched has is what the readers of the frame's end are told
touched-now : (g : _) (c : After-drop-touched-inside-4 g) → let kinds = kinds_of g.R.Value.SceneValue.places g.R.DocumentRules.part_of g.R.WorldRules.columns in has_member c.changes_of_kinds.new.touched ≡ is_touched kinds Frame kinds.part_names c.args.watchers.now (seen_of c.args.world.now)
touched-now g c =
    let kinds = kinds_of g.R.Value.SceneValue.places g.R.DocumentRules.part_of g.R.WorldRules.columns in
    let later = seen_of c.args.world.now in
    let names = texts c.part_names-names.result.now in
    let same : names ≡ kinds.part_names = c.part_names-names.ensures ∙ sym (g.met.R.WorldRules.named_so c.args.rules.now).parts in
    let many : length c.part_names-names.result.now ≡ length names = sym (length-map c.part_names-names.result.now (λ (name : Bor Name). name.now)) in
    let watchers : c.as_slice.result.now ≡ c.args.watchers.now.parts.items = c.as_slice.ensures.value in
    let first = has_member c.in_ok-touched.touched in
    let touched = has_member c.changes_of_kinds.new.touched in
    let made = c.in_ok-changes.ensures in
    touched-is kinds later kinds.part_names c.args.watchers.now c.requires.many first touched
    (λ index. c.in_ok-touched.ensures index ∙ ap (λ log. is_told log c.args.watchers.now.markers.frame index) (sym c.in_ok-markers.ensures.events)) made.kept
    (subst (λ listed. AreTouched kinds later listed c.args.watchers.now.parts.items (length listed) touched) same
    (subst (λ some. AreTouched kinds later names some (length names) touched) watchers
    (subst (λ count. AreTouched kinds later names c.as_slice.result.now count touched) many made.told)))
    (subst (λ listed. OnlyTouched kinds later listed c.args.watchers.now.parts.items (length listed) first touched) same
    (subst (λ some. OnlyTouched kinds later names some (length names) first touched) watchers
    (subst (λ count. OnlyTouched kinds later names c.as_slice.result.now count first touched) many made.only)))

pub leave_all-requires : goal.leave_all-requires
leave_all-requires g c = record {
  ascend = subst (AllPairs (λ (one other : ℕ × ℕ). one.1 < other.1)) (sym (c.as_slice-4.ensures.value ∙ c.in_ok-indices.ensures)) (behind-ascend (has_member c.changes_of_kinds.new.touched));
}

pub returns-clause-changes : goal.returns-clause-changes
returns-clause-changes g c =
    let kinds = kinds_of g.R.Value.SceneValue.places g.R.DocumentRules.part_of g.R.WorldRules.columns in
    let roll = roll_of kinds (seen_of c.args.world.now) in
    let touched = has_member c.changes_of_kinds.new.touched in
    let before = c.args.kept.now in
    let after = c.settle.new.self in
    let now = full g c in
    let indices : c.in_ok-indices.indices.items ≡ behind_themselves (walk touched) = c.in_ok-indices.ensures in
    let markers : marker_at c.in_ok-markers.markers.now ≡ roll.marker = sym (fun_ext c.in_ok-markers.ensures.each) in
    let entries : c.as_slice-5.result.now ≡ marks_at roll.marker (behind_themselves (walk touched)) =
    c.as_slice-5.ensures.value ∙ c.in_ok-entries.ensures.entries ∙ ap (λ (marker : ℕ → Option ℕ). marks_at marker c.as_slice-2.result.now) markers ∙ ap (marks_at roll.marker) (c.as_slice-2.ensures.value ∙ indices) in
    let made : CountsMore before.changes (changes_at (walk touched) before after) after.changes =
    counted-changes (walk touched) before after c.as_slice-4.result.now c.as_slice-5.result.now (seat_at c.make_room.new.self) roll.marker c.change_rows.new.kept.changes
    (c.as_slice-4.ensures.value ∙ indices) c.in_ok-make_room.ensures.seats entries (λ index. now.seats index ∙ id-marked roll c.requires.stands.roll index)
    (subst (λ n. CountsMore before.changes (count_by (λ (pair : ℕ × ℕ). is_some (seat_at c.make_room.new.self pair.1)) c.as_slice-4.result.now) n) (sym c.change_rows.ensures.changes)
    (subst (λ n. CountsMore n (count_by (λ (pair : ℕ × ℕ). is_some (seat_at c.make_room.new.self pair.1)) c.as_slice-4.result.now) c.leave_all.new.kept.changes) c.in_ok-make_room.ensures.changes c.leave_all.ensures.changes))
    (subst (CountsMore c.change_rows.new.kept.changes (length c.as_slice-5.result.now)) (sym c.settle.ensures.settled.changes) c.enter_all.ensures.changes) in
    subst (λ (members : ℕ → Bool). CountsMore before.changes (changes_at (walk members) before after) after.changes) (touched-now g c) made

pub returns-clause-below : goal.returns-clause-below
returns-clause-below g c = beneath g c
