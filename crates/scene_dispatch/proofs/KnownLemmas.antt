-- Systems of a document declare what the rules know, where all that the rules describe does.
use Rattle.std.proofs.Common.{◌≡◌, true, List, Option, Some, None, refl, sym, subst}
use Rattle.std.specs.List.{All}
use Rattle.std.proofs.lemmas.List.Elements.{All-from_recursion, recursion_from_All}
use Rattle.scene_model.specs.Laws.{DeclaresKnown}
use Rattle.scene_model.specs.Parts.{Json, Name, is_among}
use Rattle.scene_model.specs.Rulebook.{Access, Book, Facts, known}
use Rattle.scene_document.specs.Drafts.{DraftEntry, DraftSystem}
use Rattle.scene_world.specs.Standing.{Kinds}
use Rattle.scene_world.specs.Lent.{AreKnown}
use Rattle.scene_dispatch.specs.Entries.{IsSaid, systems_among}
use Rattle.scene_dispatch.specs.Told.{FactsKnown, AllKnown}
use Rattle.scene_dispatch.proofs.EntryLemmas.{each-weaker}

-- names that the rules know stand in a world under theirs
pub declares-known : {V : Type 0} (kinds : Kinds V) (book : Book) → kinds.part_names ≡ book.part_names → kinds.global_names ≡ book.global_names → (access : Access) → DeclaresKnown book access → AreKnown kinds access
declares-known kinds book parts globals access declares = record {
  reads = subst (λ names. All (λ kind. is_among kind names ≡ true) access.reads) (sym parts) declares.reads;
  writes = subst (λ names. All (λ kind. is_among kind names ≡ true) access.writes) (sym parts) declares.writes;
  read_globals = subst (λ names. All (λ name. is_among name names ≡ true) access.read_globals) (sym globals) declares.read_globals;
  written_globals = subst (λ names. All (λ name. is_among name names ≡ true) access.written_globals) (sym globals) declares.written_globals;
}

module _ {V : Type 0} (kinds : Kinds V) (book : Book) (describes : (kind : Name) (config : Json) (facts : Facts) → book.system kind config ≡ known facts → AreKnown kinds facts.access) where
  -- what is known of a system
  said-known : (one : DraftSystem) → IsSaid book one → FactsKnown kinds one.facts
  said-known one said = by one.facts said
    where
      by : (found : Option Facts) → ((facts : Facts) → found ≡ Some facts → book.system one.kind one.config ≡ known facts) → FactsKnown kinds found
      by None said = tt
      by (Some facts) said = describes one.kind one.config facts (said facts refl)

  -- of each system of entries
  pub all-known : (entries : List DraftEntry) → All (IsSaid book) (systems_among entries) → AllKnown kinds entries
  all-known entries said =
      All-from_recursion (λ one. FactsKnown kinds one.facts) (systems_among entries)
      (each-weaker (IsSaid book) (λ one. FactsKnown kinds one.facts) said-known (systems_among entries) (recursion_from_All (IsSaid book) (systems_among entries) said))
