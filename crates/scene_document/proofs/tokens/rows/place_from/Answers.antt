use Rattle.std.proofs.Common.{refl, sym, ◌∙◌}
use Rattle.scene_document.proofs.RowLemmas.{known-from}
use Rattle.scene_document.proofs.tokens.rows.place_from.Goals as goal

pub returns-then-eq : goal.returns-then-eq
returns-then-eq c =
    known-from c.args.names.now c.args.from c.loop-place.place c.args.name.now _ refl c.loop-place.auto.place c.loop-place-test.true (sym c.if-eq.true ∙ c.eq.ensures)
