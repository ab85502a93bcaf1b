-- A law of the program's rules over a world.
use Rattle.std.proofs.Common.{Option, Some, refl, sym, subst}
use Rattle.serde_json.specs.Data.{null}
use Rattle.scene_world.specs.Turns.{sense_of, IsOfBook, meaning_of}
use Rattle.scene_basics.specs.declared.data.BasicSystem.{BasicSystem}
use Rattle.scene_basics.specs.Systems.{basics, kind_of, facts_of, Makes}
use Rattle.scene_basics.specs.RuleLaws.{system_named-kind_of}

-- a system does what the rules say of its kind
pub law-of_book : (system : BasicSystem) → IsOfBook (meaning_of 0 kind_of (λ _. null) (λ system. (facts_of system).access) (λ _. sense_of basics) (λ system. Makes (Some system))) basics system
law-of_book system = record {
  is = tt;
  sense_so = refl;
  does_so = λ f o did. subst (λ (found : Option BasicSystem). Makes found f o) (sym (system_named-kind_of system)) did;
}
