-- Lists whose markers differ.
use Rattle.std.proofs.Common.{◌≡◌, ◌≢◌, ℕ, List, ◌∷◌, inl, inr, sym, ap, subst, ◌∙◌}
use Rattle.specs_saveload.specs.declared.entity_data.EntityData.{EntityData}
use Rattle.specs_saveload.specs.Bearing.{IsAmong}
use Rattle.specs_saveload.specs.Loading.{AreApart}

module _ {D : Type 0} (list rest : List (EntityData ℕ D)) (first : EntityData ℕ D) (is : list ≡ first ∷ rest) where
  pub lacks-more : (id : ℕ) → id ≢ first.marker → ((other : EntityData ℕ D) → IsAmong other rest → id ≢ other.marker) → (other : EntityData ℕ D) → IsAmong other list → id ≢ other.marker
  lacks-more id differs lacks other among same =
      elim (subst (λ l. IsAmong other l) is among)
      [ inl here ↦ differs (same ∙ ap (λ (e : EntityData ℕ D). e.marker) (sym here)) | inr later ↦ lacks other later same ]

  pub apart-more : ((other : EntityData ℕ D) → IsAmong other rest → first.marker ≢ other.marker) → AreApart rest → AreApart list
  apart-more lacks apart = subst (λ l. AreApart l) (sym is) (lacks, apart)
