-- What a reader is told, as it catches up, as more is told and as another reads.
use Rattle.std.proofs.Common.{◌≡◌, inl, inr, ℕ, Bool, true, List, ◌++◌, Option, length, drop, get_or, refl, ap, sym, subst, ◌∙◌, arith}
use Rattle.std.proofs.lemmas.List.{get_or_default, drop-append-le, length-append}
use Rattle.specs_layouts.specs.Channels.{Log, with_more, unread, IsReader, CaughtUp}
use Rattle.specs_layouts.specs.declared.track.ComponentEvent.{ComponentEvent}
use Rattle.specs_layouts.specs.Parts.{SameParts}
use Rattle.specs_layouts.specs.Shows.{Names, Shows}
use Rattle.specs_layouts.specs.Tells.{Tells}
use Rattle.specs_layouts.proofs.ShowsLemmas.{names-first, names-later}

module _ {E : Type 0} (log : Log E) (reader : ℕ) where
  -- who has read all is a reader
  pub caught-reads : CaughtUp log reader → IsReader log reader
  caught-reads caught = record {
    known = caught.known;
    within = let all = caught.all in let known = caught.known in omega (arith, all, get_or_default log.places reader (length log.held) 0 known);
  }

  module _ (is : IsReader log reader) (more : List E) where
    -- and stays one as events come
    reads-more : IsReader (with_more log more) reader
    reads-more = record {
      known = is.known;
      within = let within = is.within in omega (arith, within, length-append log.held more);
    }

    -- what comes is behind what the reader has yet to read
    unread-more : unread (with_more log more) reader ≡ unread log reader ++ more
    unread-more =
        ap (λ place. drop place (log.held ++ more)) (get_or_default log.places reader (length (log.held ++ more)) 0 is.known)
        ∙ drop-append-le (get_or log.places reader 0) log.held more is.within
        ∙ ap (λ place. drop place log.held ++ more) (sym (get_or_default log.places reader (length log.held) 0 is.known))

module _ {S T : Type 0} (part_at : S → ℕ → Option T) (events : S → Log ComponentEvent) (emits : S → Bool) (reader : ℕ) where
  pub tells-first : (state : S) → IsReader (events state) reader → Tells part_at events reader state state
  tells-first state is = record { reads = is; all = λ index. inl refl }

  pub tells-more : (was now later : S) → Tells part_at events reader was now → emits now ≡ true → Shows part_at events emits now later → Tells part_at events reader was later
  tells-more was now later told on shown = record {
    reads = subst (λ log. IsReader log reader) (sym shown.told) (reads-more (events now) reader told.reads shown.more);
    all = λ index. elim (shown.all on index) [
      | inl same ↦ elim (told.all index) [
        | inl before ↦ inl (same ∙ before)
        | inr named ↦ inr (subst (λ list. Names list index) (sym grown) (names-first (unread (events now) reader) shown.more index named))
      ]
      | inr named ↦ inr (subst (λ list. Names list index) (sym grown) (names-later (unread (events now) reader) shown.more index named))
    ];
  }
    where
      grown : unread (events later) reader ≡ unread (events now) reader ++ shown.more
      grown = ap (λ log. unread log reader) shown.told ∙ unread-more (events now) reader told.reads shown.more

  pub tells-others : (was now later : S) → Tells part_at events reader was now → SameParts (part_at now) (part_at later) → IsReader (events later) reader → unread (events later) reader ≡ unread (events now) reader → Tells part_at events reader was later
  tells-others was now later told same is as_much = record {
    reads = is;
    all = λ index. elim (told.all index) [
      | inl before ↦ inl (same index ∙ before)
      | inr named ↦ inr (subst (λ list. Names list index) (sym as_much) named)
    ];
  }

  pub tells-alike : (was now later : S) → Tells part_at events reader now later → SameParts (part_at was) (part_at now) → Tells part_at events reader was later
  tells-alike was now later told same = record {
    reads = told.reads;
    all = λ index. elim (told.all index) [
      | inl before ↦ inl (before ∙ same index)
      | inr named ↦ inr named
    ];
  }
