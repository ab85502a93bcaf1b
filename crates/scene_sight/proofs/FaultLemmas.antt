-- Lemmas on refusals that are listed.
use Rattle.std.proofs.Common.{◌≡◌, ℕ, ◌≤◌, ◌==◌, cond, true, List, [], ◌∷◌, ◌++◌, All, Some, None, Ok, Err, refl, ap, sym, ◌∙◌, arith}
use Rattle.std.specs.List.{Any, list_any}
use Rattle.std.proofs.lemmas.Bool.{eqb-true}
use Rattle.std.proofs.lemmas.List.Folds.{Any-from_list_any}
use Rattle.std.proofs.lemmas.List.Elements.{All-push}
use Rattle.std.proofs.lemmas.List.Quantifiers.{Any-push}
use Rattle.scene_model.specs.declared.refusals.DocRefusal.{DocRefusal}
use Rattle.scene_model.specs.declared.refusals.DocRefusal.TheVariants.{Unreadable, NotWhole, WrongShape, UnknownKind, DoubleId, IdNotBelowNext, Dangling, UnknownSystem, NameTaken, UnknownDependency, MissingGlobal, ReservedWrite, TooManyWorkers, TooManySystems, UnknownStore, TooManyEntities}
use Rattle.scene_sight.specs.declared.faults.Fault.{Fault}
use Rattle.scene_model.specs.Parts.{Json}
use Rattle.scene_model.specs.Rulebook.{Book}
use Rattle.scene_document.specs.Texts.{json_of}
use Rattle.scene_document.specs.Drafts.{Draft}
use Rattle.scene_document.specs.Documents.{document_from, document_of}
use Rattle.scene_sight.specs.Paths.{Stands}
use Rattle.scene_sight.specs.Faults.{rank, IsLeast, Shows, AllStand}

-- the refusal at a place of the order
abbrev at_rank : ℕ → DocRefusal
at_rank place =
    cond (place == 0) Unreadable (cond (place == 1) NotWhole (cond (place == 2) WrongShape (cond (place == 3) UnknownKind
    (cond (place == 4) DoubleId (cond (place == 5) IdNotBelowNext (cond (place == 6) Dangling (cond (place == 7) UnknownSystem
    (cond (place == 8) NameTaken (cond (place == 9) UnknownDependency (cond (place == 10) MissingGlobal (cond (place == 11) ReservedWrite
    (cond (place == 12) TooManyWorkers (cond (place == 13) TooManySystems (cond (place == 14) UnknownStore TooManyEntities))))))))))))))

at_rank-rank : (refusal : DocRefusal) → at_rank (rank refusal) ≡ refusal
at_rank-rank Unreadable = refl
at_rank-rank NotWhole = refl
at_rank-rank WrongShape = refl
at_rank-rank UnknownKind = refl
at_rank-rank DoubleId = refl
at_rank-rank IdNotBelowNext = refl
at_rank-rank Dangling = refl
at_rank-rank UnknownSystem = refl
at_rank-rank NameTaken = refl
at_rank-rank UnknownDependency = refl
at_rank-rank MissingGlobal = refl
at_rank-rank ReservedWrite = refl
at_rank-rank TooManyWorkers = refl
at_rank-rank TooManySystems = refl
at_rank-rank UnknownStore = refl
at_rank-rank TooManyEntities = refl

-- refusals of one place are one
pub one_of_rank : (one other : DocRefusal) → rank one ≡ rank other → one ≡ other
one_of_rank one other e = sym (at_rank-rank one) ∙ ap at_rank e ∙ at_rank-rank other

-- a refusal whose place is found is listed
pub listed_found : (refusal : DocRefusal) (faults : List Fault) → list_any (λ fault. rank fault.refusal == rank refusal) faults ≡ true → Any (λ fault. fault.refusal ≡ refusal) faults
listed_found refusal faults e =
    let here = Any-from_list_any (λ fault. rank fault.refusal == rank refusal) faults e in
    (here.0, here.1, here.2, here.3, one_of_rank here.1.refusal refusal (eqb-true (rank here.1.refusal) (rank refusal) here.4))

-- a refusal is the least of faults that are no lesser, where one of them is its
pub least_kept : (refusal : DocRefusal) (faults : List Fault) → All (λ fault. rank refusal ≤ rank fault.refusal) faults → list_any (λ fault. rank fault.refusal == rank refusal) faults ≡ true → IsLeast refusal faults
least_kept refusal faults kept e = record { listed = listed_found refusal faults e; least = kept }

-- and where one of it is put to them
pub least_added : (refusal : DocRefusal) (faults : List Fault) (fault : Fault) → All (λ other. rank refusal ≤ rank other.refusal) faults → fault.refusal ≡ refusal → IsLeast refusal (faults ++ fault ∷ [])
least_added refusal faults fault kept e = record {
  listed = Any-push (λ other. other.refusal ≡ refusal) faults fault e;
  least = All-push (λ other. rank refusal ≤ rank other.refusal) faults fault kept (rw e (omega arith));
}

-- one fault has the least refusal of all
pub least_alone : (refusal : DocRefusal) (fault : Fault) → fault.refusal ≡ refusal → IsLeast refusal (fault ∷ [])
least_alone refusal fault e = least_added refusal [] fault (λ k d h. absurd (omega (arith, h))) e

module _ (book : Book) (indices : ℕ) (bytes : List ℕ) (faults : List Fault) where
  -- bytes without a reading show their refusal
  pub shows_unread : json_of bytes ≡ None → IsLeast Unreadable faults → Shows (document_of book indices bytes) faults
  shows_unread none least = rw none least

  -- a document that is loaded shows nothing
  pub shows_loaded : (json : Json) (plain : Draft) → json_of bytes ≡ Some json → document_from book indices json ≡ Ok plain → faults ≡ [] → Shows (document_of book indices bytes) faults
  shows_loaded json plain some loaded empty = rw (some, loaded) empty

  -- a document that is refused shows its refusal
  pub shows_refused : (json : Json) (refusal : DocRefusal) → json_of bytes ≡ Some json → document_from book indices json ≡ Err refusal → IsLeast refusal faults → Shows (document_of book indices bytes) faults
  shows_refused json refusal some refused least = rw (some, refused) least

module _ (bytes : List ℕ) (faults : List Fault) where
  -- places in bytes without a reading
  pub stand_unread : json_of bytes ≡ None → All (λ fault. fault.path.items ≡ []) faults → AllStand (json_of bytes) faults
  stand_unread none all = rw none all

  -- places in a JSON
  pub stand_read : (json : Json) → json_of bytes ≡ Some json → All (λ fault. Stands json fault.path.items) faults → AllStand (json_of bytes) faults
  stand_read json some all = rw some all

-- no places are in any JSON
pub stand_nowhere : (json : Json) (faults : List Fault) → faults ≡ [] → All (λ fault. Stands json fault.path.items) faults
stand_nowhere json faults empty = rw empty (λ k d h. absurd (omega (arith, h)))

-- what is listed of a document, by what became of its bytes
pub ruleset showing = (shows_unread, shows_loaded, shows_refused, stand_unread, stand_read, stand_nowhere)
