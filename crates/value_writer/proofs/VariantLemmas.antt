-- Kinds that have names of their own.
use Rattle.std.proofs.Common.{◌≢◌, List, [], ◌∷◌, ◌++◌}
use Rattle.std.proofs.lemmas.List.Quantifiers.{all_pairs_push}
use Rattle.std.specs.List.{All}
use Rattle.value_writer.specs.Variants.{HaveOwnNames}
use Rattle.value_writer.specs.declared.kind.Kind.{Kind}

-- a kind behind others, none of which has its name
pub own_names_with : (kinds : List Kind) (kind : Kind) → HaveOwnNames kinds → All (λ other. other.name.now ≢ kind.name.now) kinds → HaveOwnNames (kinds ++ kind ∷ [])
own_names_with kinds kind own apart = all_pairs_push (λ one other. one.name.now ≢ other.name.now) kinds kind own apart
