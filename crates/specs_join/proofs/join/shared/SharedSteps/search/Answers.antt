use Rattle.std.proofs.Common.{◌∙◌, sym}
use Rattle.hibitset_sets.specs.Walk.{walk, is_pending}
use Rattle.specs_join.specs.Cursor.{shared}
use Rattle.specs_join.proofs.CursorLemmas.{moved-item}
use Rattle.specs_join.proofs.join.shared.SharedSteps.search.Goals as goal

pub returns : goal.returns
returns g c =
    let members = g.M.BitSetLike.members in
    let set = c.new-walk.ensures.set in
    let after = c.next_counted-next.ensures.set ∙ set in
    moved-item c.next_counted-next.result _ _ _ _
    (λ j. walk (is_pending (shared members (sym set j).0.now (sym set j).1.now) (sym c.new-walk.ensures.masks j) (sym c.new-walk.ensures.prefix j)))
    ((λ j. walk (is_pending (shared members c.args.parts.now c.args.mask.now) (c.into_parts.ensures.masks j) (c.into_parts.ensures.prefix j)))
    ∙ (λ j. walk (is_pending (shared members (sym after j).0.now (sym after j).1.now) c.next_counted-next.new.self.masks c.next_counted-next.new.self.prefix)))
    c.next_counted-next.ensures.item
