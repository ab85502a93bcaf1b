use Rattle.std.proofs.Common.{◌≡◌, ◌-◌, length, None, is_some, slice_set, slice_index, get_or, arith, refl, sym, ap, subst, ◌∙◌}
use Rattle.std.specs.List.{slice_get}
use Rattle.std.proofs.lemmas.List.{get_or_read}
use Rattle.std.proofs.lemmas.Option.{slice_get_read}
use Rattle.specs_layouts.specs.Parts.{Puts}
use Rattle.specs_layouts.specs.Dense.{Dense, dense_part}
use Rattle.specs_layouts.specs.DenseLemmas.{Owns, dense_part-owner, dense_part-there}
use Rattle.specs_layouts.proofs.DenseSteps.{removed-dense, removed-puts}
use Rattle.specs_layouts.proofs.storages.dense_vec.DenseVecStorageUnprotectedStorage.remove.Goals as goal

pub returns-clause-value : goal.returns-clause-value
returns-clause-value g c =
    let old = c.self.inside in
    let s : Dense g.row.T.Denot = record { places = old.places.items; owners = old.owners.items; parts = old.parts.items } in
    let own : Owns s.places s.owners c.args.id = dense_part-owner s c.args.id (ap (λ (t : Dense g.row.T.Denot). is_some (dense_part t c.args.id)) c.self.view_is ∙ c.requires) in
    let at : c.index-place.result.now ≡ slice_index old.places.items c.args.id = get_or_read old.places.items _ _ (omega (arith, own.inside)) c.index-place.ensures 0 in
    sym (ap (λ (t : Dense g.row.T.Denot). dense_part t c.args.id) c.self.view_is)
    ∙ (dense_part-there s c.args.id own
    ∙ (ap (slice_get old.parts.items) (sym at)
    ∙ slice_get_read old.parts.items (length old.parts.items) c.index-place.result.now c.swap_remove-2.result refl (omega (arith, at, own.place, c.self.invariant.same)) c.swap_remove-2.ensures.value))

pub invariant_of-self : goal.invariant_of-self
invariant_of-self g c =
    let old = c.self.inside in
    let s : Dense g.row.T.Denot = record { places = old.places.items; owners = old.owners.items; parts = old.parts.items } in
    let own : Owns s.places s.owners c.args.id = dense_part-owner s c.args.id (ap (λ (t : Dense g.row.T.Denot). is_some (dense_part t c.args.id)) c.self.view_is ∙ c.requires) in
    let at : c.index-place.result.now ≡ slice_index old.places.items c.args.id = get_or_read old.places.items _ _ (omega (arith, own.inside)) c.index-place.ensures 0 in
    let known = old.owners.ok.0 in
    let last : c.index-last.result.now ≡ slice_index old.owners.items (length old.owners.items - 1) =
    get_or_read old.owners.items _ _ (omega (arith, own.place, c.len.ensures, known)) c.index-last.ensures 0
    ∙ ap (λ n. get_or old.owners.items (n - 1) 0) (c.len.ensures ∙ known) in
    removed-dense old.places.items old.owners.items c.swap_remove.new.self.items old.parts.items c.swap_remove-2.new.self.items c.args.id c.index-place.result.now c.index-last.result.now
    c.self.invariant own at last
    (omega (arith, c.swap_remove.ensures.len, known, c.swap_remove.new.self.ok.0))
    (λ d within. c.swap_remove.ensures.by_index.0 d (omega (arith, within, known)) ∙ ap (λ n. get_or old.owners.items (n - 1) d) known)
    (λ k d apart within. c.swap_remove.ensures.by_index.1 k d apart (omega (arith, within, known)))
    (omega (arith, c.swap_remove-2.ensures.len, old.parts.ok.0, c.swap_remove-2.new.self.ok.0))
    (λ d within. c.swap_remove-2.ensures.by_index.0 d (omega (arith, within, old.parts.ok.0)) ∙ ap (λ n. get_or old.parts.items (n - 1) d) old.parts.ok.0)
    (λ k d apart within. c.swap_remove-2.ensures.by_index.1 k d apart (omega (arith, within, old.parts.ok.0)))

pub returns-clause-ok : goal.returns-clause-ok
returns-clause-ok g c =
    let old = c.self.inside in
    let s : Dense g.row.T.Denot = record { places = old.places.items; owners = old.owners.items; parts = old.parts.items } in
    let own : Owns s.places s.owners c.args.id = dense_part-owner s c.args.id (ap (λ (t : Dense g.row.T.Denot). is_some (dense_part t c.args.id)) c.self.view_is ∙ c.requires) in
    let at : c.index-place.result.now ≡ slice_index old.places.items c.args.id = get_or_read old.places.items _ _ (omega (arith, own.inside)) c.index-place.ensures 0 in
    let known = old.owners.ok.0 in
    let last : c.index-last.result.now ≡ slice_index old.owners.items (length old.owners.items - 1) =
    get_or_read old.owners.items _ _ (omega (arith, own.place, c.len.ensures, known)) c.index-last.ensures 0
    ∙ ap (λ n. get_or old.owners.items (n - 1) 0) (c.len.ensures ∙ known) in
    let after : Dense g.row.T.Denot = record { places = slice_set old.places.items c.index-last.result.now c.index-place.result.now; owners = c.swap_remove.new.self.items; parts = c.swap_remove-2.new.self.items } in
    subst (λ (t : Dense g.row.T.Denot). Puts (dense_part t) c.args.id None (dense_part after)) c.self.view_is
    (removed-puts old.places.items old.owners.items c.swap_remove.new.self.items old.parts.items c.swap_remove-2.new.self.items c.args.id c.index-place.result.now c.index-last.result.now
    c.self.invariant own at last
    (omega (arith, c.swap_remove.ensures.len, known, c.swap_remove.new.self.ok.0))
    (λ d within. c.swap_remove.ensures.by_index.0 d (omega (arith, within, known)) ∙ ap (λ n. get_or old.owners.items (n - 1) d) known)
    (λ k d apart within. c.swap_remove.ensures.by_index.1 k d apart (omega (arith, within, known)))
    (omega (arith, c.swap_remove-2.ensures.len, old.parts.ok.0, c.swap_remove-2.new.self.ok.0))
    (λ d within. c.swap_remove-2.ensures.by_index.0 d (omega (arith, within, old.parts.ok.0)) ∙ ap (λ n. get_or old.parts.items (n - 1) d) old.parts.ok.0)
    (λ k d apart within. c.swap_remove-2.ensures.by_index.1 k d apart (omega (arith, within, old.parts.ok.0))))
