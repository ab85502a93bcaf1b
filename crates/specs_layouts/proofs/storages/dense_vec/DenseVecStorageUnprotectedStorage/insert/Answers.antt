use Rattle.std.proofs.Common.{◌≡◌, ℕ, ◌<◌, List, [], ◌∷◌, ◌++◌, length, Some, slice_set, arith, ap, subst, ◌∙◌}
use Rattle.std.proofs.lemmas.Grind.{common_steps}
use Rattle.specs_layouts.specs.Parts.{Puts}
use Rattle.specs_layouts.specs.Dense.{Dense, dense_part}
use Rattle.specs_layouts.proofs.DenseSteps.{inserted-dense, inserted-puts}
use Rattle.specs_layouts.proofs.storages.dense_vec.DenseVecStorageUnprotectedStorage.insert.Goals as goal

pub invariant_of-self-2 : goal.invariant_of-self-2
invariant_of-self-2 g c =
    let old = c.self.inside in
    let inside : c.args.id < length c.extend_places.new.places.items = grind (arith, common_steps) in
    let at : c.len-place.result ≡ length old.owners.items = grind (arith, common_steps) in
    inserted-dense old.places.items c.extend_places.new.places.items old.owners.items c.push_reserved.new.self.items old.parts.items c.push.new.self.items c.args.id c.len-place.result c.args.part
    c.self.invariant (ap (λ (s : Dense g.row.T.Denot). dense_part s c.args.id) c.self.view_is ∙ c.requires.absent) c.extend_places.ensures.longer inside c.extend_places.ensures.same at
    (c.push_reserved.ensures.items ∙ ap (λ (xs : List ℕ). xs ++ c.args.id ∷ []) c.reserve.ensures.items) c.in_ok-push.ensures.items

pub returns-clause-ok : goal.returns-clause-ok
returns-clause-ok g c =
    let old = c.self.inside in
    let inside : c.args.id < length c.extend_places.new.places.items = grind (arith, common_steps) in
    let at : c.len-place.result ≡ length old.owners.items = grind (arith, common_steps) in
    let after : Dense g.row.T.Denot = record { places = slice_set c.extend_places.new.places.items c.args.id c.len-place.result; owners = c.push_reserved.new.self.items; parts = c.push.new.self.items } in
    subst (λ (s : Dense g.row.T.Denot). Puts (dense_part s) c.args.id (Some c.args.part) (dense_part after)) c.self.view_is
    (inserted-puts old.places.items c.extend_places.new.places.items old.owners.items c.push_reserved.new.self.items old.parts.items c.push.new.self.items c.args.id c.len-place.result c.args.part
    c.self.invariant (ap (λ (s : Dense g.row.T.Denot). dense_part s c.args.id) c.self.view_is ∙ c.requires.absent) c.extend_places.ensures.longer inside c.extend_places.ensures.same at
    (c.push_reserved.ensures.items ∙ ap (λ (xs : List ℕ). xs ++ c.args.id ∷ []) c.reserve.ensures.items) c.in_ok-push.ensures.items)
