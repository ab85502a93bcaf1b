-- Names at places.
use Rattle.std.proofs.Common.{◌≡◌, ℕ, zero, suc, List, [], ◌∷◌, get_or, refl}
use denote.Ref.{Bor}
use Rattle.scene_model.specs.Parts.{name_at}
use Rattle.scene_model.specs.Declaring.{texts}
use Rattle.scene_commands.proofs.DropLemmas.{no_name}

-- the name at a place, by its bytes
pub name-there : (names : List (Bor (List ℕ))) (place : ℕ) → (get_or names place no_name).now ≡ name_at (texts names) place
name-there [] place = refl
name-there (name ∷ names) zero = refl
name-there (name ∷ names) (suc place) = name-there names place
