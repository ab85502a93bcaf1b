use Rattle.std.proofs.Common.{ℕ, Option, Some, None, [], option_map, sym, ap, ◌∙◌}
use Rattle.std.proofs.lemmas.Option.{same_Some}
use Rattle.std.specs.FinMap as map
use Rattle.std.specs.Ordering.{nat_cmp}
use Rattle.specs.specs.ForStorages.{Births}
use Rattle.specs_markers.specs.Simple.{Noting}
use Rattle.specs_saveload.specs.Bearing.{IsAmong}
use Rattle.specs_saveload.specs.LoadingLemmas.{option-back}
use Rattle.specs_saveload.specs.Saved.{named_in, plain_in}
use Rattle.specs_saveload.proofs.CallerLemmas.{nobody-lives}
use Rattle.specs_saveload.proofs.ImageLemmas.{saved-again}
use Rattle.colony.specs.declared.parts.Position.{Position}
use Rattle.colony.proofs.saved_again.Goals as goal

-- a position names no entity
none-named : (marker : ℕ) (number : Option ℕ) → IsAmong marker (named_in (λ (n : ℕ). []) number) → ⊥
none-named marker None among = among
none-named marker (Some number) among = among

save : Position → Option ℕ
save position = Some position.0

load : ℕ → Option Position
load number = Some (record { 0 = number })

pub returns : goal.returns
unfolding save load
returns c apart =
    let loaded = saved-again _ _ _ (λ one other is. is) _ _ _ _ _ _ _ c.in_ok-deserialize.ensures.ok (nobody-lives _ _ _ c.new-entities.ensures)
    (λ id. ap (λ (a : Noting). map.get a.noted id) c.new-allocator.ensures ∙ map.get-empty nat_cmp id) apart
    (λ entry marker among stands. absurd (none-named marker entry.components stands)) (λ names. plain_in save)
    (λ bearers names given parts same. option-back load save (λ number value is. ap (option_map (λ (p : Position). p.0)) (sym is)) given parts)
    c.the_living_are_below_the_limit.ensures (ap (λ (b : Births). b.cache) c.new-entities.ensures) in
    same_Some _ _ (sym c.in_ok-serialize.ensures.ok ∙ loaded)
