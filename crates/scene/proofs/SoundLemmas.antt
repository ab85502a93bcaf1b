-- Lemmas on proper scenes: systems, commands and frames leave a scene proper.
use Rattle.std.proofs.Common.{◌≡◌, ℕ, Bool, true, false, ◌||◌, cond, List, [], ◌∷◌, Some, Ordering, Less, Equal, Greater, refl, sym, subst, All}
use Rattle.std.specs.List.{fold, flat_map}
use Rattle.std.specs.Str.{bytes_eq}
use Rattle.std.proofs.lemmas.Bool.{false≢true}
use Rattle.std.proofs.lemmas.Slice.Eq.{bytes_eq-Decides}
use Rattle.std.proofs.lemmas.List.Elements.{All-head, All-tail, All-nil, All-cons, All-append}
use Rattle.std.specs.Ordering.{nat_cmp, match_ordering}
use Rattle.std.specs.BTreeMap.{insert_entry}
use Rattle.scene_model.specs.Parts.{Json, Name, is_among}
use Rattle.scene_model.specs.Rulebook.{Book, owning_kinds, Access, Facts, known, Outcome, Command}
use Rattle.scene_model.specs.Laws.{DeclaresKnown}
use Rattle.scene_model.specs.Lawful.{IsLawful}
use Rattle.scene_model.specs.Scenes.{PlainScene, PlainSystem, PlainFrame, Steps, IsProper, IsDescribed, PartsStand, PartsOwned, RefsLive, fragment, with_left, lives}
use Rattle.scene_model.proofs.CallerLemmas.{admitted-fragment, living-fragment, readable-fragment, admitted-left, living-left, readable-left, play-keeps, IsBetween, apply-between, admitted-again, proper-between}
use Rattle.scene_model.specs.Frames.{Queues, SystemsRun, entered, by_place, all_commands, Accepts}
use Rattle.scene.specs.OneOutcome.{IsSoundFragment, OneOutcome, SameOutcome}
use Rattle.scene.proofs.GivenIdLemmas.{accepts-goes-on}
use Rattle.scene.proofs.ReferenceLemmas.{accepts-live}

-- the commands of all queues are the rules'
abbrev AllLawful : Book → Queues → Type 0
AllLawful book queues = All (λ queue. All (IsLawful book) queue.1) queues

-- what holds of the commands of all queues holds of them with one more
lawful-entered : (book : Book) (queues : Queues) (queue : ℕ × List Command) → AllLawful book queues → All (IsLawful book) queue.1 → AllLawful book (entered queues queue)
lawful-entered book [] queue all one = All-cons (λ q. All (IsLawful book) q.1) queue [] one all
lawful-entered book (first ∷ queues) queue all one = here (lawful-entered book queues queue tail one) (nat_cmp queue.0 first.0)
  where
    head : All (IsLawful book) first.1
    head = All-head (λ q. All (IsLawful book) q.1) first queues all

    tail : AllLawful book queues
    tail = All-tail (λ q. All (IsLawful book) q.1) first queues all

    here : AllLawful book (entered queues queue) → (o : Ordering) → AllLawful book (match_ordering o ((queue.0, queue.1) ∷ first ∷ queues) ((first.0, queue.1) ∷ queues) (first ∷ insert_entry nat_cmp queues queue.0 queue.1))
    here later Less = All-cons (λ q. All (IsLawful book) q.1) (queue.0, queue.1) (first ∷ queues) one all
    here later Equal = All-cons (λ q. All (IsLawful book) q.1) (first.0, queue.1) queues one tail
    here later Greater = All-cons (λ q. All (IsLawful book) q.1) first (insert_entry nat_cmp queues queue.0 queue.1) head later

-- what holds of the commands of all queues holds of the list of them
lawful-flat : (book : Book) (queues : Queues) → AllLawful book queues → All (IsLawful book) (flat_map (λ queue. queue.1) queues)
lawful-flat book [] all = All-nil (IsLawful book)
lawful-flat book (first ∷ queues) all = All-append (IsLawful book) first.1 (flat_map (λ queue. queue.1) queues) (All-head (λ q. All (IsLawful book) q.1) first queues all) (lawful-flat book queues (All-tail (λ q. All (IsLawful book) q.1) first queues all))

-- a scene is proper, and its parts stand under the rules' kinds
pub record IsGood (book : Book) (scene : PlainScene) : Type 0 where
  pub proper : IsProper book scene
  pub stand : PartsStand book.part_names scene.part

-- what a system is lent of a proper scene is sound
fragment-sound : (book : Book) (access : Access) (scene : PlainScene) → IsProper book scene → IsSoundFragment book (fragment access scene)
fragment-sound book access scene proper = record {
  ascend = proper.ids.ascend;
  admitted = admitted-fragment book access scene proper.admitted;
  living = living-fragment access scene proper.living;
  readable = readable-fragment book access scene proper.readable;
}

-- so a system that the rules describe has one outcome on it
pub lone-turn : (book : Book) → OneOutcome book → (system : PlainSystem) (scene : PlainScene) → IsDescribed book system → IsGood book scene → (one other : Outcome) → book.meets system.kind system.config (fragment system.access scene) one → book.meets system.kind system.config (fragment system.access scene) other → SameOutcome system.access one other
lone-turn book lone system scene described good one other first second =
    subst (λ access. SameOutcome access one other) (sym described.2)
    (lone system.kind system.config described.0 described.1 (fragment system.access scene) (fragment-sound book system.access scene good.proper) one other first second)

-- a name among names that are all known is known
among-known : (names known_names : List Name) (name : Name) → All (λ one. is_among one known_names ≡ true) names → is_among name names ≡ true → is_among name known_names ≡ true
among-known [] known_names name all is = absurd (false≢true is)
among-known (first ∷ names) known_names name all is = here (among-known names known_names name (All-tail (λ one. is_among one known_names ≡ true) first names all)) (bytes_eq name first) refl is
  where
    here : (is_among name names ≡ true → is_among name known_names ≡ true) → (b : Bool) → bytes_eq name first ≡ b → (b || is_among name names) ≡ true → is_among name known_names ≡ true
    here later true same found = subst (λ one. is_among one known_names ≡ true) (sym ((bytes_eq-Decides name first).0 same)) (All-head (λ one. is_among one known_names ≡ true) first names all)
    here later false same found = later found

module _ (book : Book) (declares : (kind : Name) (config : Json) (facts : Facts) → book.system kind config ≡ known facts → DeclaresKnown book facts.access) where
  -- a system's turn leaves a scene proper
  pub turn-good : (system : PlainSystem) (scene after : PlainScene) (commands : List Command) → IsDescribed book system → IsGood book scene → Steps book system scene after commands → IsGood book after
  turn-good system scene after commands described good steps = subst (IsGood book) (sym steps.3) (record {
    proper = record {
      ids = good.proper.ids;
      owned = owned;
      admitted = admitted-left book system.access steps.0 scene good.proper.admitted steps.2.admitted;
      living = living-left system.access steps.0 scene good.proper.living (subst (λ ids. RefsLive ids steps.0.part) steps.2.ids steps.2.living);
      readable = readable-left book system.access steps.0 scene good.proper.readable steps.2.readable;
    };
    stand = stand;
  })
    where
      owned : PartsOwned scene.ids (with_left system.access steps.0 scene).part
      owned id kind held found = here (is_among kind system.access.writes) found
        where
          here : (b : Bool) → cond b (steps.0.part id kind) (scene.part id kind) ≡ Some held → lives id scene.ids ≡ true
          here true e = subst (λ ids. lives id ids ≡ true) steps.2.ids (steps.2.owned id kind held e)
          here false e = good.proper.owned id kind held e

      writes_known : All (λ kind. is_among kind book.part_names ≡ true) system.access.writes
      writes_known = subst (λ (access : Access). All (λ kind. is_among kind book.part_names ≡ true) access.writes) (sym described.2) (declares system.kind system.config described.0 described.1).writes

      stand : PartsStand book.part_names (with_left system.access steps.0 scene).part
      stand id kind held found = here (is_among kind system.access.writes) refl found
        where
          here : (b : Bool) → is_among kind system.access.writes ≡ b → cond b (steps.0.part id kind) (scene.part id kind) ≡ Some held → is_among kind book.part_names ≡ true
          here true written e = among-known system.access.writes book.part_names kind writes_known written
          here false written e = good.stand id kind held e

  -- so do systems one after another, and their commands are lawful
  systems-good : (order : List PlainSystem) (scene after : PlainScene) (queues : Queues) → All (IsDescribed book) order → IsGood book scene → SystemsRun book order scene after queues → IsGood book after × AllLawful book queues
  systems-good [] scene after queues described good ran = (subst (IsGood book) (sym ran.0) good, subst (AllLawful book) (sym ran.1) (All-nil (λ queue. All (IsLawful book) queue.1)))
  systems-good (system ∷ order) scene after queues described good ran =
      let rest = systems-good order ran.0 after ran.2 (All-tail (IsDescribed book) system order described) (turn-good system scene ran.0 ran.1 (All-head (IsDescribed book) system order described) good ran.3) ran.4 in
      (rest.0, subst (AllLawful book) (sym ran.5) (All-append (λ queue. All (IsLawful book) queue.1) ((system.position, ran.1) ∷ []) ran.2 (one ((system.position, ran.1)) ran.3.2.known) rest.1))
    where
      one : (queue : ℕ × List Command) → All (IsLawful book) queue.1 → AllLawful book (queue ∷ [])
      one queue lawful = lawful-entered book [] queue (All-nil (λ other. All (IsLawful book) other.1)) lawful

-- the commands of queues by place are lawful where those of the queues are
lawful-fold : (book : Book) (done queues : Queues) → AllLawful book done → AllLawful book queues → AllLawful book (fold entered done queues)
lawful-fold book done [] before all = before
lawful-fold book done (queue ∷ queues) before all =
    lawful-fold book (entered done queue) queues
    (lawful-entered book done queue before (All-head (λ other. All (IsLawful book) other.1) queue queues all))
    (All-tail (λ other. All (IsLawful book) other.1) queue queues all)

lawful-commands : (book : Book) (frame : PlainFrame) (queues : Queues) → All (IsLawful book) frame.commands → AllLawful book queues → All (IsLawful book) (all_commands frame queues)
lawful-commands book frame queues given all = All-append (IsLawful book) frame.commands (flat_map (λ queue. queue.1) (by_place queues)) given (lawful-flat book (by_place queues) (lawful-fold book [] queues (All-nil (λ queue. All (IsLawful book) queue.1)) all))

module _ (book : Book) (declares : (kind : Name) (config : Json) (facts : Facts) → book.system kind config ≡ known facts → DeclaresKnown book facts.access) where
  -- an accepted frame leaves a scene proper
  pub frame-good : (limit : ℕ) (frame : PlainFrame) (scene after : PlainScene) (places : List ℕ) → All (IsDescribed book) frame.order → All (IsLawful book) frame.commands → IsGood book scene → Accepts book limit frame scene after places → IsGood book after
  frame-good limit frame scene after places described lawful good accepts =
      let turned = systems-good book declares frame.order scene accepts.0 accepts.1 described good accepts.2 in
      let mid : IsBetween book accepts.0 = proper-between book accepts.0 turned.0.stand turned.0.proper in
      let end : IsBetween book after = (play-keeps (owning_kinds book) (λ one other. Unit {0}) (λ s. tt) (λ one two three first second. tt) (IsLawful book) (IsBetween book) (λ command s t one between made. (tt, apply-between (owning_kinds book) book command s t one between made)) 1 (all_commands frame accepts.1) accepts.0 after places (lawful-commands book frame accepts.1 lawful turned.1) mid accepts.3.played_on).1 in
      record {
        proper = record {
          ids = (accepts-goes-on book limit frame scene after places good.proper.ids accepts).fit;
          owned = end.owned;
          admitted = admitted-again book after accepts.3.none_gone end;
          living = λ id kind held alive found. accepts-live book limit frame scene after places (λ one name part known lives_now stands. good.proper.living one name part lives_now stands) accepts id kind held (end.stand id kind held found) alive found;
          readable = end.readable;
        };
        stand = end.stand;
      }
