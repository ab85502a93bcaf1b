use Rattle.scene.proofs.KeepLemmas.{Writing}
use Rattle.scene.proofs.keeping.write_found.Given as goal

-- what was found so far is written
abbrev pub invariant-loop-index : goal.invariant-loop-index
invariant-loop-index g l = Writing l.fn.found.items l.index-iterator.rest.items l.place l.count l.fn.kept l.kept
