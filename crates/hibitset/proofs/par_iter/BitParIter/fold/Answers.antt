use Rattle.std.proofs.Common.{subst, ap, ◌∙◌, ◌++◌}
use Rattle.std.specs.List.{FoldsTo, flat_map}
use Rattle.hibitset.specs.Producer.{items_of}
use Rattle.hibitset.specs.Folds.{FoldsFromStart, FoldsInParts}
use Rattle.hibitset_sets.specs.Walk.{walk}
use Rattle.hibitset.proofs.FoldLemmas.{folds-in-parts, fold-alone, fold-whole}
use Rattle.hibitset.proofs.par_iter.BitParIter.fold.Goals as goal

-- the fold of the whole by one thread
alone : (g : _) (c : goal.After-drop-start g) → FoldsFromStart (λ a. goal.I-post g c.args.start a) (λ a i b. goal.F-post g c.args.step a i b) (walk (g.T.BitSetLike.members c.args.self.now.set)) c.fold_items.result
alone g c = (c.start.result, c.start.ensures, subst (λ xs. FoldsTo (λ a i b. goal.F-post g c.args.step a i b) c.start.result xs c.fold_items.result) c.producer-whole.ensures.items c.fold_items.ensures)

pub returns-then-workers-lt2-clause-parts : goal.returns-then-workers-lt2-clause-parts
returns-then-workers-lt2-clause-parts g c = fold-alone _ _ _ (items_of g.T.BitSetLike.members) _ _ (alone g c)

pub returns-then-workers-lt2-clause-goes_on : goal.returns-then-workers-lt2-clause-goes_on
returns-then-workers-lt2-clause-goes_on g c = λ _. alone g c

pub returns-then-workers-lt2-clause-alone : goal.returns-then-workers-lt2-clause-alone
returns-then-workers-lt2-clause-alone g c = λ _. alone g c

-- the folds of the parts by threads
parted : (g : _) (c : goal.After-drop-start-2 g) → FoldsInParts (λ a. goal.I-post g c.args.start a) (λ a i b. goal.F-post g c.args.step a i b) (λ a b c'. goal.C-post g c.args.combine a b c') (walk (g.T.BitSetLike.members c.args.self.now.set)) c.combine_all.result
parted g c =
    folds-in-parts _ _ _ (items_of g.T.BitSetLike.members) _ c.in_ok-parts.parts.items c.in_ok-folds.folds.items c.combine_all.result
    (c.in_ok-parts.ensures.items ∙ ap (λ xs. flat_map (items_of g.T.BitSetLike.members) xs ++ items_of g.T.BitSetLike.members c.producer-whole.result) c.new.ensures.items ∙ c.producer-whole.ensures.items)
    c.in_ok-folds.ensures.each c.combine_all.ensures

pub returns-clause-parts : goal.returns-clause-parts
returns-clause-parts g c = parted g c

pub returns-clause-goes_on : goal.returns-clause-goes_on
returns-clause-goes_on g c = λ goes. fold-whole _ _ _ goes _ _ (parted g c)
