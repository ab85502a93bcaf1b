use Rattle.std.proofs.Common.{◌≡◌, unwrap_or, sym, ◌∙◌}
use Rattle.shred_world.specs.Worlds.{from_first_held}
use Rattle.shred_world.proofs.TurnLemmas.{stands-first, stands-nowhere, turns-step, turns-end, turns-others, held-shorter}
use Rattle.shred_world.proofs.laws.a_walk_for_writing_leaves_what_was_written.Goals as goal

pub loop-walk-smaller : goal.loop-walk-smaller
loop-walk-smaller g c =
    let before = c.loop-walk.walk.kinds.now in
    let after = c.advance.new.self in
    held-shorter (λ was now. was ≡ now) c.loop-walk.world before after.kinds.now (unwrap_or after.current 0) (stands-first _ after.current after.kinds.now (sym c.advance.ensures.moved ∙ c.loop-walk-test.true) c.advance.ensures.found)

pub loop-walk-preserved : goal.loop-walk-preserved
loop-walk-preserved g c =
    let before = c.loop-walk.walk.kinds.now in
    let after = c.advance.new.self in
    let found = stands-first (from_first_held c.loop-walk.world before) after.current after.kinds.now (sym c.advance.ensures.moved ∙ c.loop-walk-test.true) c.advance.ensures.found in
    λ w' turns. c.loop-walk.invariant w' (turns-step _ c.loop-walk.world c.change_one.new.world before after.kinds.now (unwrap_or after.current 0) w' found c.change_one.ensures turns)

pub returns-clause-written : goal.returns-clause-written
returns-clause-written g c =
    let after = c.advance.new.self in
    c.loop-walk.invariant _ (turns-end _ c.loop-walk.world c.loop-walk.walk.kinds.now (stands-nowhere _ after.current (sym c.advance.ensures.moved ∙ c.loop-walk-test.false) c.advance.ensures.end))

pub returns-clause-others : goal.returns-clause-others
returns-clause-others g c = turns-others _ c.args.world.now c.args.table.now c.loop-walk.world (returns-clause-written g c)
