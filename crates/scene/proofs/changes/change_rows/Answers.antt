use Rattle.std.proofs.Common.{◌≡◌, ◌<◌, ◌≢◌, ℕ, Some, length, get_or, refl, sym, subst, ◌∙◌, arith}
use Rattle.scene.specs.Rows.{seat_at, datum_at}
use Rattle.scene.specs.Changes.{IsSound, AreFree, row_after}
use Rattle.scene.proofs.KeepLemmas.{no-items}
use Rattle.scene.proofs.LoopLemmas.{making-begins, making-one, making-within, making-goes, making-ends}
use Rattle.scene.proofs.changes.change_rows.Goals as goal

pub loop-change-init : goal.loop-change-init
loop-change-init g c = making-begins c.args.changes.items c.args.changes.items c.args.count c.args.kept.now c.args.kept.now refl refl c.requires.room

pub change_row-requires : goal.change_row-requires
change_row-requires g c =
    let so_far = c.loop-change.invariant in
    let rest = c.pop.new.self.items in
    let change = c.in-Some.change in
    let popped = c.in-Some.ensures.items in
    let count : c.len.result ≡ length rest = omega (arith, c.len.ensures) in
    let within = making-within c.args.changes.items c.loop-change.changes.items c.args.count c.args.kept.now c.loop-change.kept so_far rest change popped in
    let free = making-one c.args.changes.items c.loop-change.changes.items c.args.count c.args.kept.now c.loop-change.kept so_far rest change popped (AreFree c.args.kept.now) c.requires.free in
    record {
      kinds = omega (arith, count, within, c.requires.kinds, so_far.course.kinds);
      room = so_far.room;
      sound = making-one c.args.changes.items c.loop-change.changes.items c.args.count c.args.kept.now c.loop-change.kept so_far rest change popped (IsSound c.args.count) c.requires.sound;
      free = λ k d below. so_far.seats (get_or change.indices.items k d).1 ∙ free k d below;
    }

pub loop-change-preserved : goal.loop-change-preserved
loop-change-preserved g c =
    let so_far = c.loop-change.invariant in
    let rest = c.pop.new.self.items in
    let change = c.in-Some.change in
    let count : c.len.result ≡ length rest = omega (arith, c.len.ensures) in
    let made = c.change_row.ensures in
    let now = c.loop-change.kept in
    let after = c.change_row.new.kept in
    making-goes c.args.changes.items c.loop-change.changes.items c.args.count c.args.kept.now now so_far rest change c.in-Some.ensures.items after
    (subst (λ n. (index : ℕ) → datum_at after n index ≡ row_after (Some change) (datum_at now n) index) count made.row)
    (subst (λ n. (other index : ℕ) → other ≢ n → datum_at after other index ≡ datum_at now other index) count made.others)
    made.seats made.room made.course made.changes

pub returns : goal.returns
returns g c =
    let so_far = c.loop-change.invariant in
    let empty = c.in_default.ensures.cases in
    let none = no-items c.loop-change.changes.items (omega (arith, c.loop-change.changes.ok, empty.0)) in
    record {
      rows = making-ends c.args.changes.items c.loop-change.changes.items c.args.count c.args.kept.now c.loop-change.kept so_far none;
      seats = so_far.seats;
      room = so_far.room;
      course = so_far.course;
      changes = so_far.changes;
    }
