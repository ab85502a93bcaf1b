use Rattle.std.proofs.Common.{◌≡◌, ◌<◌, ℕ, None, cond, map, All, ap, sym, subst, ◌∙◌}
use Rattle.std.proofs.Math.Path.{fun_ext}
use Rattle.std.proofs.lemmas.List.Elements.{All-weaker}
use Rattle.scene_world.specs.Putting.{each_there}
use Rattle.scene.specs.Rows.{seat_at, datum_at}
use Rattle.scene.specs.Taken.{IsAmong, is_one_of, with_last}
use Rattle.scene.proofs.ChangeLemmas.{among-all, all-seconds}
use Rattle.scene.proofs.changes.change_row.Goals as goal

pub clear_row-requires-clause-below : goal.clear_row-requires-clause-below
clear_row-requires-clause-below g c = subst (All (λ (pair : ℕ × ℕ). pair.1 < c.args.count)) (sym c.as_slice.ensures.value) c.requires.sound.below

pub clear_row-requires-clause-free : goal.clear_row-requires-clause-free
clear_row-requires-clause-free g c = subst (All (λ (pair : ℕ × ℕ). seat_at c.args.kept.now pair.1 ≡ None)) (sym c.as_slice.ensures.value) c.requires.free

pub write_found-requires-clause-within : goal.write_found-requires-clause-within
write_found-requires-clause-within g c =
    All-weaker (λ one. IsAmong (map (λ (pair : ℕ × ℕ). pair.1) c.args.change.indices.items) one.0) (λ one. one.0 < c.args.count)
    (λ one among. among-all (λ index. index < c.args.count) (map (λ (pair : ℕ × ℕ). pair.1) c.args.change.indices.items) (all-seconds (λ index. index < c.args.count) c.args.change.indices.items c.requires.sound.below) one.0 among)
    (each_there (λ one. one) c.args.change.found.items) c.requires.sound.within

pub write_found-requires-clause-free : goal.write_found-requires-clause-free
write_found-requires-clause-free g c =
    All-weaker (λ one. IsAmong (map (λ (pair : ℕ × ℕ). pair.1) c.args.change.indices.items) one.0) (λ one. seat_at c.clear_row.new.kept one.0 ≡ None)
    (λ one among. c.clear_row.ensures.seats one.0
    ∙ among-all (λ index. seat_at c.args.kept.now index ≡ None) (map (λ (pair : ℕ × ℕ). pair.1) c.args.change.indices.items) (all-seconds (λ index. seat_at c.args.kept.now index ≡ None) c.args.change.indices.items c.requires.free) one.0 among)
    (each_there (λ one. one) c.args.change.found.items) c.requires.sound.within

pub returns-clause-row : goal.returns-clause-row
returns-clause-row g c index =
    c.write_found.ensures.row index
    ∙ ap (λ before. with_last (each_there (λ one. one) c.args.change.found.items) before index)
    (fun_ext (λ at. c.clear_row.ensures.row at ∙ ap (λ pairs. cond (is_one_of (map (λ (pair : ℕ × ℕ). pair.1) pairs) at) None (datum_at c.args.kept.now c.args.place at)) c.as_slice.ensures.value))

pub returns-clause-others : goal.returns-clause-others
returns-clause-others g c other index differ = c.write_found.ensures.others other index differ ∙ c.clear_row.ensures.others other index differ

pub returns-clause-seats : goal.returns-clause-seats
returns-clause-seats g c index = c.write_found.ensures.seats index ∙ c.clear_row.ensures.seats index

pub returns-clause-changes : goal.returns-clause-changes
returns-clause-changes g c = c.write_found.ensures.changes ∙ c.clear_row.ensures.changes
